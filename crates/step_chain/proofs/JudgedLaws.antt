-- The first order in which the nodes can be joined is the first in which the candidate fits.
use Rattle.std.specs.Prelude.{◌≡◌, ℕ, ◌<◌, ◌+◌, Bool, true, false, List, [], ◌∷◌, ◌++◌, length, map, slice_get, Option, Some, None, refl}
use Rattle.std.specs.List.{AllByRecursion, flat_map, range_with_len}
use Rattle.std.proofs.Common.{zero, suc, sym, ap, subst, ◌∙◌, arith, inl, inr, cond}
use Rattle.std.proofs.lemmas.List.{append_assoc, length_push}
use Rattle.std.proofs.lemmas.List.Elements.{Contains-append_left}
use Rattle.mm_model.specs.Book.{Database, Assertion}
use Rattle.sheet_text.specs.declared.sheet.Given.{Given}
use Rattle.sheet_text.specs.declared.sheet.Given.TheVariants as given
use Rattle.solve_model.specs.declared.bound.BoundStep.{BoundStep}
use Rattle.solve_model.specs.declared.bound.Bound.{Bound}
use Rattle.solve_model.specs.declared.verdict.Verdict.TheVariants as verdict
use Rattle.solve_model.specs.Bound.{candidate}
use Rattle.solve_model.specs.Firsts.{orders, picks, IsFirstOrNone}
use Rattle.solve_model.specs.Solutions.{Asked, orders_of}
use Rattle.solve_model.specs.Verdicts.{asked, FitsIn, accepted, stands, IsJudgement, fits, no_fit}
use Rattle.term_model.specs.declared.shape.Id.{Id}
use Rattle.term_model.specs.Terms.{Term}
use Rattle.term_model.specs.Links.{Link}
use Rattle.term_model.specs.Store.{tree_at, IsStore, IsSolved}
use Rattle.chain_laws.specs.Layout.{Layout, NodePair, IsSoundAsked, IsChained, AreFormulaNodes, AreCandidateNodes, place_pairs, candidate_pairs, HasRoom, Joins, CannotJoin}
use Rattle.chain_laws.proofs.Candidates.{joins_more, accepts, refuses, chained_same, reordered}
use Rattle.chain_laws.proofs.Chained.{solvable}
use Rattle.step_chain.specs.Joined.{pairs_of}
use Rattle.step_chain.specs.Ordered.{may_reorder, place_at, formula_at, id_pairs, tried, IsFirstFit}
use Rattle.step_chain.specs.Ordered as ordered

-- ---- orders of places are the places in the orders of their numbers

map_split : {Y Z : Type 0} (h : Y → Z) (ys zs : List Y) → map h (ys ++ zs) ≡ map h ys ++ map h zs
map_split h [] zs = refl
map_split h (y ∷ ys) zs = ap (λ rest. h y ∷ rest) (map_split h ys zs)

flat_more : {X Y Z : Type 0} (h : Y → Z) (f : X → List Y) (xs : List X) → map h (flat_map f xs) ≡ flat_map (λ x. map h (f x)) xs
flat_more h f [] = refl
flat_more h f (x ∷ xs) = map_split h (f x) (flat_map f xs) ∙ ap (λ ys. map h (f x) ++ ys) (flat_more h f xs)

flat_of : {X Y Z : Type 0} (g : X → Y) (f : Y → List Z) (xs : List X) → flat_map f (map g xs) ≡ flat_map (λ x. f (g x)) xs
flat_of g f [] = refl
flat_of g f (x ∷ xs) = ap (λ ys. f (g x) ++ ys) (flat_of g f xs)

flat_same : {X Y : Type 0} (f g : X → List Y) (xs : List X) → ((x : X) → f x ≡ g x) → flat_map f xs ≡ flat_map g xs
flat_same f g [] h = refl
flat_same f g (x ∷ xs) h = let here = h x in let rest = flat_same f g xs h in cc

map_of : {X Y Z : Type 0} (g : Y → Z) (f : X → Y) (xs : List X) → map g (map f xs) ≡ map (λ x. g (f x)) xs
map_of g f [] = refl
map_of g f (x ∷ xs) = ap (λ ys. g (f x) ∷ ys) (map_of g f xs)

module _ (X Y : Type 0) (f : X → Y) where
  abbrev pick : X × List X → Y × List Y
  pick p = (f p.0, map f p.1)

  picks_map : (xs : List X) → picks (map f xs) ≡ map pick (picks xs)
  picks_map [] = refl
  picks_map (x ∷ xs) =
      let add : Y × List Y → Y × List Y = λ p. (p.0, f x ∷ p.1) in
      let old : X × List X → X × List X = λ p. (p.0, x ∷ p.1) in
      ap (λ (ps : List (Y × List Y)). (f x, map f xs) ∷ ps) (ap (map add) (picks_map xs) ∙ map_of add pick (picks xs) ∙ sym (map_of pick old (picks xs)))

  orders_map : (n : ℕ) (xs : List X) → orders n (map f xs) ≡ map (map f) (orders n xs)
  orders_map zero xs = refl
  orders_map (suc n) xs =
      let step : Y × List Y → List (List Y) = λ p. map (λ rest. p.0 ∷ rest) (orders n p.1) in
      let old : X × List X → List (List X) = λ p. map (λ rest. p.0 ∷ rest) (orders n p.1) in
      ap (flat_map step) (picks_map xs) ∙ flat_of pick step (picks xs)
      ∙ flat_same (λ p. step (pick p)) (λ p. map (map f) (old p)) (picks xs) (λ p.
      ap (map (λ rest. f p.0 ∷ rest)) (orders_map n p.1) ∙ map_of (λ rest. f p.0 ∷ rest) (map f) (orders n p.1) ∙ sym (map_of (map f) (λ rest. p.0 ∷ rest) (orders n p.1)))
      ∙ sym (flat_more (map f) old (picks xs))

seam : (front : List Given) (g : Given) (gs : List Given) → place_at (front ++ g ∷ gs) (length front) ≡ g
seam [] g gs = refl
seam (x ∷ front) g gs = let number : length (x ∷ front) ≡ suc (length front) = omega arith in ap (place_at ((x ∷ front) ++ g ∷ gs)) number ∙ seam front g gs

places_from : (front gs : List Given) → map (place_at (front ++ gs)) (range_with_len (length front) (length gs)) ≡ gs
places_from front [] = refl
places_from front (g ∷ gs) =
    let here = seam front g gs in
    let whole : (front ++ g ∷ []) ++ gs ≡ front ++ g ∷ gs = append_assoc front (g ∷ []) gs in
    let rest : map (place_at (front ++ g ∷ gs)) (range_with_len (length front + 1) (length gs)) ≡ gs =
    ap (λ (ps : List Given). map (place_at ps) (range_with_len (length front + 1) (length gs))) (sym whole)
    ∙ ap (λ (k : ℕ). map (place_at (front ++ g ∷ [] ++ gs)) (range_with_len k (length gs))) (sym (length_push front g))
    ∙ places_from (front ++ g ∷ []) gs in
    let number : length (g ∷ gs) ≡ suc (length gs) = omega arith in
    ap (λ (k : ℕ). map (place_at (front ++ g ∷ gs)) (range_with_len (length front) k)) number ∙ cc

tried_by : (b : Bool) (gs : List Given) → map (ordered.reordered gs) (tried b (length gs)) ≡ cond b (orders (length gs) gs) (gs ∷ [])
tried_by true gs = sym (orders_map ℕ Given (place_at gs) (length gs) (range_with_len 0 (length gs))) ∙ ap (orders (length gs)) (places_from [] gs)
tried_by false gs = ap (λ (ps : List Given). ps ∷ []) (places_from [] gs)

pub tried_orders : (s : BoundStep) (a : Assertion) → map (ordered.reordered s.places) (tried (may_reorder s.places (length a.hyps)) (length s.places)) ≡ orders_of s a
tried_orders s a = tried_by (may_reorder s.places (length a.hyps)) s.places

-- ---- the first of a list

first_in : {X : Type 0} (P : X → Type 0) (xs : List X) (k : ℕ) (x : X) → slice_get xs k ≡ Some x → P x
    → ((j : ℕ) (y : X) → j < k → slice_get xs j ≡ Some y → P y → ⊥) → IsFirstOrNone P xs (Some x)
first_in P [] k x e p before = let impossible : ◌≡◌ {A = Option _} None (Some x) = e in absurd (cc)
first_in P (y ∷ ys) zero x e p before = let same : y ≡ x = cc in inl (ap (λ z. Some z) (sym same), subst P (sym same) p)
first_in P (y ∷ ys) (suc k) x e p before = inr (before 0 y (omega arith) refl, first_in P ys k x e p (λ j z h g. before (suc j) z (omega (arith, h)) g))

none_in : {X : Type 0} (P : X → Type 0) (xs : List X) → ((j : ℕ) (y : X) → slice_get xs j ≡ Some y → P y → ⊥) → AllByRecursion (λ y. P y → ⊥) xs
none_in P [] h = tt
none_in P (y ∷ ys) h = (h 0 y refl, none_in P ys (λ j z e. h (suc j) z e))

slice_map : {X Y : Type 0} (f : X → Y) (xs : List X) (k : ℕ) (x : X) → slice_get xs k ≡ Some x → slice_get (map f xs) k ≡ Some (f x)
slice_map f [] k x e = let impossible : ◌≡◌ {A = Option _} None (Some x) = e in absurd (cc)
slice_map f (y ∷ ys) zero x e = let same : y ≡ x = cc in ap (λ z. Some (f z)) same
slice_map f (y ∷ ys) (suc k) x e = slice_map f ys k x e

pub record Mapped {X Y : Type 0} (f : X → Y) (xs : List X) (k : ℕ) (y : Y) : Type 0 where
  pub source : X
  pub at : slice_get xs k ≡ Some source
  pub is : f source ≡ y

pub slice_mapped : {X Y : Type 0} (f : X → Y) (xs : List X) (k : ℕ) (y : Y) → slice_get (map f xs) k ≡ Some y → Mapped f xs k y
slice_mapped f [] k y e = let impossible : ◌≡◌ {A = Option _} None (Some y) = e in absurd (cc)
slice_mapped f (x ∷ xs) zero y e = let same : f x ≡ y = cc in record { source = x; at = refl; is = same }
slice_mapped f (x ∷ xs) (suc k) y e = let told = slice_mapped f xs k y e in record { source = told.source; at = told.at; is = told.is }

-- the pairs of nodes, by their numbers
pub pairs_are : (formulas : List Id) (gs : List Given) (hs : List Id) → pairs_of (id_pairs formulas gs hs) ≡ place_pairs (λ k. (formula_at formulas k).0) gs (map (λ (id : Id). id.0) hs)
pairs_are formulas [] hs = refl
pairs_are formulas (g ∷ gs) [] = refl
pairs_are formulas (given.Gap ∷ gs) (h ∷ hs) = pairs_are formulas gs hs
pairs_are formulas (given.Step k ∷ gs) (h ∷ hs) = ap (λ (ps : List NodePair). (h.0, (formula_at formulas k).0) ∷ ps) (pairs_are formulas gs hs)

-- ---- the judgement

module _ (db : Database) (bound : Bound) (before : List Asked) (i : ℕ) (s : BoundStep) (a : Assertion) (nodes : List Term) (lay : Layout) (formulas : List Id) (root : ℕ) (roots : List Id)
    (formula_nodes : AreFormulaNodes bound nodes lay (λ k. (formula_at formulas k).0)) (candidate_nodes : AreCandidateNodes nodes lay i a root (map (λ (id : Id). id.0) roots))
    (old : List Link) (chained : IsChained db bound (before ++ asked i a s.places ∷ []) before nodes old lay)
    (sound : (j : ℕ) (gs : List Given) → slice_get (orders_of s a) j ≡ Some gs → IsSoundAsked bound (asked i a gs))
    (room : (j : ℕ) (gs : List Given) → slice_get (orders_of s a) j ≡ Some gs → HasRoom gs a.hyps) where
  abbrev formula_node : ℕ → ℕ
  formula_node k = (formula_at formulas k).0

  abbrev numbers : List ℕ
  numbers = map (λ (id : Id). id.0) roots

  abbrev Fits' : List Given → Type 0
  Fits' gs = FitsIn db bound before i a gs

  reset : (gs : List Given) → IsChained db bound (before ++ asked i a gs ∷ []) before nodes old lay
  reset gs =
      chained_same db bound (before ++ asked i a s.places ∷ []) (before ++ asked i a gs ∷ []) before nodes old lay
      (reordered bound before i a s.places gs) (reordered bound before i a gs s.places)
      (λ x h. Contains-append_left before (asked i a gs ∷ []) x h) chained

  -- what cannot be joined does not fit
  never : (j : ℕ) (gs : List Given) → slice_get (orders_of s a) j ≡ Some gs → CannotJoin nodes old (candidate_pairs formula_node i gs root numbers) → Fits' gs → ⊥
  never j gs e cannot = refuses db bound before i a nodes lay formula_node root numbers formula_nodes candidate_nodes old gs (reset gs) (sound j gs e) cannot

  -- where the conclusion cannot be joined the candidate does not fit
  pub no_conclusion : CannotJoin nodes old ((root, formula_node i) ∷ []) → IsJudgement db bound before i s (candidate a) (stands verdict.NoFit)
  no_conclusion cannot = no_fit (none_in Fits' (orders_of s a) (λ j gs e. never j gs e (λ trees sol joined. cannot trees sol (joined.0, tt))))

  module _ (mid : List Link) (conclusion : Joins nodes old mid ((root, formula_node i) ∷ [])) where
    later : (j : ℕ) (gs : List Given) → slice_get (orders_of s a) j ≡ Some gs → CannotJoin nodes mid (pairs_of (id_pairs formulas gs roots)) → Fits' gs → ⊥
    later j gs e cannot =
        never j gs e (λ trees sol joined.
        cannot trees (conclusion.back trees sol (joined.0, tt))
        (subst (λ (ps : List NodePair). AllByRecursion (λ (p : NodePair). tree_at trees p.0 ≡ tree_at trees p.1) ps)
        (sym (pairs_are formulas gs roots)) joined.1))

    abbrev listed : List (List ℕ)
    listed = tried (may_reorder s.places (length a.hyps)) (length s.places)

    abbrev pairs : List ℕ → List (Id × Id)
    pairs order = id_pairs formulas (ordered.reordered s.places order) roots

    back_to_order : (j : ℕ) (gs : List Given) → slice_get (orders_of s a) j ≡ Some gs → Mapped (ordered.reordered s.places) listed j gs
    back_to_order j gs e = slice_mapped (ordered.reordered s.places) listed j gs (ap (λ (xs : List (List Given)). slice_get xs j) (tried_orders s a) ∙ e)

    -- where no order can be joined it does not fit
    pub no_order : (new : List Link) → IsFirstFit nodes mid new pairs listed None → IsJudgement db bound before i s (candidate a) (stands verdict.NoFit)
    no_order new first =
        no_fit (none_in Fits' (orders_of s a) (λ j gs e.
        let told = back_to_order j gs e in
        later j gs e (subst (λ (ps : List Given). CannotJoin nodes mid (pairs_of (id_pairs formulas ps roots))) told.is (first j told.source told.at))))

    module _ (new : List Link) (order : List ℕ) (first : IsFirstFit nodes mid new pairs listed (Some order)) (store : IsStore nodes new) (solved : IsSolved nodes new) where
      abbrev places : List Given
      places = ordered.reordered s.places order

      stands_at : slice_get (orders_of s a) first.0 ≡ Some places
      stands_at = ap (λ (xs : List (List Given)). slice_get xs first.0) (sym (tried_orders s a)) ∙ slice_map (ordered.reordered s.places) listed first.0 order first.1

      joined : Joins nodes old new (candidate_pairs formula_node i places root numbers)
      joined =
          subst (λ (ps : List NodePair). Joins nodes old new ((root, formula_node i) ∷ ps)) (pairs_are formulas places roots)
          (joins_more nodes old mid new ((root, formula_node i) ∷ []) (pairs_of (pairs order)) conclusion first.3)

      -- the store is that of the accepted candidates, this one among them
      pub accepted_chain : IsChained db bound (before ++ asked i a places ∷ []) (before ++ asked i a places ∷ []) nodes new lay
      accepted_chain =
          accepts db bound before i a nodes lay formula_node root numbers formula_nodes candidate_nodes old places (reset places)
          (sound first.0 places stands_at) new (room first.0 places stands_at) store solved joined

      -- and this is the first order in which it fits
      pub first_order : IsJudgement db bound before i s (candidate a) (accepted (asked i a places))
      first_order =
          fits (first_in Fits' (orders_of s a) first.0 places stands_at
          (solvable db bound (before ++ asked i a places ∷ []) nodes new lay accepted_chain)
          (λ j gs below e.
          let told = back_to_order j gs e in
          later j gs e (subst (λ (ps : List Given). CannotJoin nodes mid (pairs_of (id_pairs formulas ps roots))) told.is (first.2 j told.source below told.at))))
