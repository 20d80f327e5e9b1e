-- The places of a candidate in their orders.
use Rattle.std.specs.Prelude.{◌≡◌, ℕ, ◌<◌, ◌==◌, ◌&&◌, Bool, List, [], ◌∷◌, length, map, nat_le, if◌then◌else◌, slice_get, slice_index_or, Option, Some, None}
use Rattle.std.specs.List.{list_all, range_with_len}
use Rattle.mm_base.specs.Limits.{most_ordered_places}
use Rattle.sheet_text.specs.declared.sheet.Given.{Given}
use Rattle.sheet_text.specs.declared.sheet.Given.TheVariants as given
use Rattle.solve_model.specs.Firsts.{orders}
use Rattle.solve_model.specs.Solutions.{names_step}
use Rattle.term_model.specs.declared.shape.Id.{Id}
use Rattle.term_model.specs.Terms.{Term}
use Rattle.term_model.specs.Links.{Link}
use Rattle.chain_laws.specs.Layout.{Joins, CannotJoin}
use Rattle.step_chain.specs.Joined.{pairs_of}

-- as many places as `$e`, two to six, and no `?`
abbrev pub may_reorder : List Given → ℕ → Bool
may_reorder places hyps = length places == hyps && nat_le 2 (length places) && nat_le (length places) most_ordered_places && list_all names_step places

abbrev pub place_at : List Given → ℕ → Given
place_at places n = slice_index_or places n given.Gap

abbrev pub formula_at : List Id → ℕ → Id
formula_at formulas k = slice_index_or formulas k (record { 0 = 0 })

abbrev pub reordered : List Given → List ℕ → List Given
reordered places order = map (place_at places) order

abbrev pub one_pair : List Id → Given → Id → List (Id × Id)
one_pair formulas given.Gap h = []
one_pair formulas (given.Step k) h = (h, formula_at formulas k) ∷ []

-- the nodes that the places join
abbrev pub id_pairs : List Id → List Given → List Id → List (Id × Id)
id_pairs formulas [] hs = []
id_pairs formulas (g ∷ gs) [] = []
id_pairs formulas (given.Gap ∷ gs) (h ∷ hs) = id_pairs formulas gs hs
id_pairs formulas (given.Step k ∷ gs) (h ∷ hs) = (h, formula_at formulas k) ∷ id_pairs formulas gs hs

-- the orders that are tried: all, or the one that is listed
abbrev pub tried : Bool → ℕ → List (List ℕ)
tried free n = if free then orders n (range_with_len 0 n) else range_with_len 0 n ∷ []

-- the first order of a list in which the places can be joined, and they are; none where they cannot in any
abbrev pub IsFirstFit : List Term → List Link → List Link → (List ℕ → List (Id × Id)) → List (List ℕ) → Option (List ℕ) → Type 0
IsFirstFit nodes old new pairs listed None = (j : ℕ) (o : List ℕ) → slice_get listed j ≡ Some o → CannotJoin nodes old (pairs_of (pairs o))
IsFirstFit nodes old new pairs listed (Some order) =
    (k : ℕ) × (slice_get listed k ≡ Some order) × ((j : ℕ) (o : List ℕ) → j < k → slice_get listed j ≡ Some o → CannotJoin nodes old (pairs_of (pairs o)))
    × Joins nodes old new (pairs_of (pairs order))
