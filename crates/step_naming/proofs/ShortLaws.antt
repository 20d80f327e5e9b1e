-- Named formulas have as many tokens as were counted.
use Rattle.std.specs.Prelude.{◌≡◌, ◌<◌, ◌≤◌, ℕ, suc, List, [], ◌∷◌, length, map, Contains, Some, refl}
use Rattle.std.specs.List.{AllByRecursion}
use Rattle.std.proofs.Common.{subst, arith, inl, inr}
use Rattle.std.proofs.lemmas.Bool.{cases_lt}
use Rattle.std.proofs.lemmas.List.{length-map}
use Rattle.mm_base.specs.declared.symbols.Typecode.{Typecode}
use Rattle.mm_base.specs.declared.tree.Tree.{Tree}
use Rattle.mm_model.specs.Texts.{text}
use Rattle.mm_model.specs.Book.{Database}
use Rattle.solve_model.specs.declared.bound.Bound.{Bound}
use Rattle.solve_model.specs.Trees.{fresh, Occurs}
use Rattle.solve_laws.proofs.Elements.{nothing, first, later, parted}
use Rattle.written_model.specs.WrittenSteps.{WrittenStep, WrittenItem, comment, step, steps_in, trees}
use Rattle.written_model.specs.Named.{Naming, IsNaming, name_tree, name_step, name_items}
use Rattle.written_model.specs.Written.{leaf_name}
use Rattle.writing_laws.specs.HasLong.{AreShort}
use Rattle.writing_laws.specs.TokenCounts.{formula_count, IsLong, NamedHasCount}

all_there : {X : Type 0} (P : X → Type 0) (xs : List X) → AllByRecursion P xs → (x : X) → Contains xs x → P x
all_there P [] h x m = absurd (nothing x m)
all_there P (y ∷ xs) h x m = elim (parted x y xs m) [ inl e ↦ subst P e h.0 | inr k ↦ all_there P xs h.1 x k ]

not_above : (n m : ℕ) → (n < m → ⊥) → m ≤ n
not_above n m h = elim (cases_lt n m) [ inl l ↦ absurd (h l) | inr l ↦ l ]

module _ (db : Database) (law : NamedHasCount db) (bound : Bound) (ts : List Tree) (names : Naming) (naming : IsNaming db bound ts names) (short : AreShort db ts) where
  each_short : (t : Tree) → Contains ts t → length (text db.rows (name_tree names t)) ≤ 4095
  each_short t m =
      let low : formula_count db t ≤ 4096 = not_above 4096 (formula_count db t) (all_there (λ u. IsLong db u → ⊥) ts short t m) in
      let named : (c : Typecode) (n : ℕ) → Occurs (fresh c n) t → (k : ℕ) × (names c n ≡ Some k) = λ c n o. let h = naming.named c n (t, m, o) in (h.0, h.1) in
      let count : suc (length (map (leaf_name db) (text db.rows (name_tree names t)))) ≡ formula_count db t = law names t named in
      let same : length (map (leaf_name db) (text db.rows (name_tree names t))) ≡ length (text db.rows (name_tree names t)) = length-map (text db.rows (name_tree names t)) (leaf_name db) in
      omega (arith, low, count, same)

  pub named_short : (items : List WrittenItem) → ((t : Tree) → Contains (trees (steps_in items)) t → Contains ts t)
      → (e : WrittenStep) → Contains (steps_in (name_items names items)) e → length (text db.rows e.tree) ≤ 4095
  named_short [] inside e m = absurd (nothing e m)
  named_short (comment lines ∷ items) inside e m = named_short items inside e m
  named_short (step f ∷ items) inside e m = elim (parted e (name_step names f) (steps_in (name_items names items)) m) [
    | inl is ↦ subst (λ (x : WrittenStep). length (text db.rows x.tree) ≤ 4095) is (each_short f.tree (inside f.tree (first f.tree f.tree (trees (steps_in items)) refl)))
    | inr k ↦ named_short items (λ t l. inside t (later t f.tree (trees (steps_in items)) l)) e k
  ]
