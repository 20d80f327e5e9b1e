-- The turns of the search over the places at which a text is divided.
use Rattle.std.specs.Prelude.{◌≡◌, ◌≢◌, ◌⊎◌, ◌<◌, ◌≤◌, ◌+◌, ℕ, List, length, take, drop, Some, refl}
use Rattle.std.proofs.Common.{arith, sym, ap, ◌∙◌, subst, inl, inr, ⊎_elim}
use Rattle.std.proofs.lemmas.Bool.{cases_lt}
use Rattle.std.proofs.lemmas.List.{length-take, length-drop}
use Rattle.mm_base.specs.declared.symbols.Typecode.{Typecode}
use Rattle.mm_base.specs.declared.tree.Tree.{Tree}
use Rattle.mm_model.specs.declared.rows.Item.{Item}
use Rattle.mm_model.specs.declared.rows.Leaf.{Leaf}
use Rattle.mm_model.specs.declared.rows.Production.{Production}
use Rattle.mm_model.specs.Texts.{text}
use Rattle.mm_model.specs.Typed.{Parses}
use Rattle.mm_model.specs.Rows.{AreRows}
use Rattle.formula_parse.specs.declared.found.Found.{Found}
use Rattle.formula_parse.specs.declared.found.Found.TheVariants.{Nothing, Two}
use Rattle.formula_parse.specs.Finds.{Finds, joined, paired}
use Rattle.formula_parse.specs.Fits.{Splits, Fits, IsDivided, IsDividedBelow}
use Rattle.formula_parse.proofs.Searches.{IsPair, finds_same, two_found, joined_finds, paired_finds}
use Rattle.formula_parse.proofs.Lengths.{splits_at, parses_pos, fits_length}

module _ (rows : List Production) (before : ℕ) (ok : AreRows rows) (slots : List Typecode) (items : List Item) (code : Typecode) (e : List Leaf) where
  abbrev At : ℕ → List Tree → Type 0
  At n us = Splits rows before (Fits rows before slots items) (Some code) e us n

  abbrev Below : ℕ → List Tree → Type 0
  Below = IsDividedBelow rows before slots items code e

  abbrev Pair : ℕ → List Tree → Type 0
  Pair n = IsPair (Parses rows before (take n e) code) (Fits rows before slots items (drop n e))

  to_pair : (n : ℕ) (us : List Tree) → At n us → Pair n us
  to_pair n us h =
      let same : h.want ≡ code = (let c = h.code_is in cc) in
      record { first = h.first; more = h.more; us_is = h.us_is; head = subst (λ c. Parses rows before (take n e) c h.first) same h.front; tail = h.after }

  from_pair : (n : ℕ) → n ≤ length e → (us : List Tree) → Pair n us → At n us
  from_pair n l us h = record { first = h.first; more = h.more; us_is = h.us_is; want = code; code_is = refl; within = l; front = h.head; after = h.tail }

  at_one_place : (m n : ℕ) (us vs : List Tree) → At m us → At n vs → us ≡ vs → m ≡ n
  at_one_place m n us vs h k is =
      let lists = sym h.us_is ∙ is ∙ k.us_is in
      let first : h.first ≡ k.first = cc in
      sym (splits_at rows before ok (Fits rows before slots items) (Some code) e us m h) ∙ ap (λ t. length (text rows t)) first
      ∙ splits_at rows before ok (Fits rows before slots items) (Some code) e vs n k

  more_places : (k : ℕ) (us : List Tree) → Below k us ⊎ At (k + 1) us → Below (k + 1) us
  more_places k us h = ⊎_elim
      (λ (x : Below k us). record { place = x.place; within = omega (arith, x.within); splits = x.splits })
      (λ (x : At (k + 1) us). record { place = k + 1; within = omega arith; splits = x }) h

  fewer_places : (k : ℕ) (us : List Tree) → Below (k + 1) us → Below k us ⊎ At (k + 1) us
  fewer_places k us h = ⊎_elim
      (λ (l : h.place < k + 1). inl (record { place = h.place; within = omega arith; splits = h.splits }))
      (λ (l : k + 1 ≤ h.place). let is : h.place ≡ k + 1 = omega (arith, h.within) in inr (subst (λ n. At n us) is h.splits))
      (cases_lt h.place (k + 1))

  apart : (k : ℕ) (us vs : List Tree) → Below k us → At (k + 1) vs → us ≢ vs
  apart k us vs h x is = omega (arith, at_one_place h.place (k + 1) us vs h.splits x is, h.within)

  -- one more place
  pub place_turn : (k : ℕ) → k + 1 ≤ length e → (a : Found (List Tree)) (b : Found Tree) (c : Found (List Tree)) → Finds (Below k) a → Finds (Parses rows before (take (k + 1) e) code) b
      → Finds (Fits rows before slots items (drop (k + 1) e)) c → Finds (Below (k + 1)) (joined a (paired b c))
  place_turn k l a b c h p q = finds_same _ (Below (k + 1)) (more_places k) (fewer_places k) (joined a (paired b c))
      (joined_finds (Below k) (At (k + 1)) (apart k) a (paired b c) h
      (finds_same (Pair (k + 1)) (At (k + 1)) (from_pair (k + 1) l) (to_pair (k + 1)) (paired b c)
      (paired_finds (Parses rows before (take (k + 1) e) code) (Fits rows before slots items (drop (k + 1) e)) b c p q)))

  -- one more place, whose front is no tree
  pub place_skip : (k : ℕ) → Finds (Parses rows before (take (k + 1) e) code) Nothing → (a : Found (List Tree)) → Finds (Below k) a → Finds (Below (k + 1)) a
  place_skip k none a h = finds_same (Below k) (Below (k + 1)) (λ us x. more_places k us (inl x))
      (λ us x. ⊎_elim (λ (y : Below k us). y) (λ (y : At (k + 1) us). let p = to_pair (k + 1) us y in absurd (none p.first p.head)) (fewer_places k us x)) a h

  -- one more place, behind which the items do not fit
  pub place_skip_rest : (k : ℕ) → ((us : List Tree) → Fits rows before slots items (drop (k + 1) e) us → ⊥) → (a : Found (List Tree)) → Finds (Below k) a → Finds (Below (k + 1)) a
  place_skip_rest k none a h = finds_same (Below k) (Below (k + 1)) (λ us x. more_places k us (inl x))
      (λ us x. ⊎_elim (λ (y : Below k us). y) (λ (y : At (k + 1) us). absurd (none y.more y.after)) (fewer_places k us x)) a h

  -- one more place, of which not both hold
  pub place_skip_both : (k : ℕ)
      → ((t : Tree) (us : List Tree) → Parses rows before (take (k + 1) e) code t → Fits rows before slots items (drop (k + 1) e) us → ⊥)
      → (a : Found (List Tree)) → Finds (Below k) a → Finds (Below (k + 1)) a
  place_skip_both k none a h = finds_same (Below k) (Below (k + 1)) (λ us x. more_places k us (inl x))
      (λ us x. ⊎_elim (λ (y : Below k us). y) (λ (y : At (k + 1) us). let p = to_pair (k + 1) us y in absurd (none p.first p.more p.head p.tail)) (fewer_places k us x)) a h

  pub place_begin : Finds (Below 0) Nothing
  place_begin = λ us h. let pos = parses_pos rows before ok (take h.place e) h.splits.want h.splits.first h.splits.front in omega (arith, h.within, pos, length-take h.place e)

  all_places : (k : ℕ) → length e ≤ k + length items → (us : List Tree) → IsDivided rows before slots items code e us → Below k us
  all_places k l us h =
      let rest = fits_length rows before ok slots items (drop h.0 e) h.1.more h.1.after in
      record { place = h.0; within = omega (arith, rest, length-drop h.0 e, h.1.within); splits = h.1 }

  -- after the last place that leaves a leaf for each item
  pub place_end : (k : ℕ) → length e ≤ k + length items → (a : Found (List Tree)) → Finds (Below k) a → Finds (IsDivided rows before slots items code e) a
  place_end k l a h = finds_same (Below k) (IsDivided rows before slots items code e) (λ us x. (x.place, x.splits)) (all_places k l) a h

  pub place_two : (k : ℕ) (x y : List Tree) → Finds (Below k) (Two x y) → Finds (IsDivided rows before slots items code e) (Two x y)
  place_two k x y h = two_found (Below k) (IsDivided rows before slots items code e) (λ us x. (x.place, x.splits)) x y h

  -- a text shorter than the items has none
  pub place_none : length e < length items → Finds (IsDivided rows before slots items code e) Nothing
  place_none l = λ us h. let rest = fits_length rows before ok slots items (drop h.0 e) h.1.more h.1.after in omega (arith, rest, length-drop h.0 e)

  -- one more place, with the steps of the code
  pub place_found : (k : ℕ) → k + 1 ≤ length e → (back : List Leaf) → back ≡ drop (k + 1) e → (a : Found (List Tree)) (b : Found Tree) (c more result : Found (List Tree)) → Finds (Below k) a
      → Finds (Parses rows before (take (k + 1) e) code) b → Finds (Fits rows before slots items back) c → more ≡ paired b c → result ≡ joined a more → Finds (Below (k + 1)) result
  place_found k l back is a b c more result h p q m r =
      subst (Finds (Below (k + 1))) (sym (r ∙ ap (joined a) m)) (place_turn k l a b c h p (subst (λ x. Finds (Fits rows before slots items x) c) is q))

  pub place_stop : (k : ℕ) (f : Found (List Tree)) (x y : List Tree) → f ≡ Two x y → Finds (Below k) f → Finds (IsDivided rows before slots items code e) f
  place_stop k f x y is h = subst (Finds (IsDivided rows before slots items code e)) (sym is) (place_two k x y (subst (Finds (Below k)) is h))
