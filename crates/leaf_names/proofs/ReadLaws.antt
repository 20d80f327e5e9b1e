-- The work variables that were read, put in one after the other.
use Rattle.std.specs.Prelude.{◌≡◌, ◌+◌, ◌<◌, ◌==◌, ◌||◌, ℕ, suc, Bool, true, false, cond, List, [], ◌∷◌, ◌++◌, length, take, get_or, Option, None, refl}
use Rattle.std.specs.List.{filter_map, flat_map, cons_option}
use Rattle.std.proofs.Common.{sym, ap, subst, ◌∙◌, arith, inl, inr}
use Rattle.std.proofs.Math.Bool.{or_assoc}
use Rattle.std.proofs.Math.Seq.{take-suc}
use Rattle.std.proofs.lemmas.Bool.{cases_Bool, and_parts, eqb-true}
use Rattle.std.proofs.lemmas.Grind.{flat_map-append}
use Rattle.std.proofs.lemmas.List.{length-append, append-nil}
use Rattle.std.proofs.lemmas.List.Elements.{filter_map-append}
use Rattle.std.proofs.lemmas.List.Folds.{list_any-append}
use Rattle.mm_base.specs.declared.symbols.Typecode.{Typecode}
use Rattle.mm_model.specs.declared.rows.Leaf.{Leaf}
use Rattle.mm_model.specs.declared.rows.Leaf.TheVariants as leaf
use Rattle.mm_model.proofs.Scopes.{cond_then, cond_else}
use Rattle.written_model.specs.Named.{WorkVariable, same_work, is_in, work_leaf}
use Rattle.leaf_names.specs.Leaves.{FreshLeaf, fresh_leaf}
use Rattle.leaf_names.specs.Tables.{variable_at, same_leaf, is_read, AreRead, AddsRead}

or_same : (a b : Bool) → (b ≡ true → a ≡ true) → a ≡ (a || (b || false))
or_same true b h = refl
or_same false true h = h refl
or_same false false h = refl

there_too : (cur : List FreshLeaf) (a b c n : ℕ) → is_read cur a b ≡ true → same_work (variable_at c n) (variable_at a b) ≡ true → is_read cur c n ≡ true
there_too cur a b c n h e =
    let parts = and_parts (c == a) (n == b) e in
    subst (λ x. is_read cur x n ≡ true) (sym (eqb-true c a parts.0)) (subst (λ y. is_read cur a y ≡ true) (sym (eqb-true n b parts.1)) h)

pub one_read : (cur new : List FreshLeaf) (a b : ℕ) → new ≡ cond (is_read cur a b) cur (cur ++ fresh_leaf a b ∷ []) → AddsRead (variable_at a b ∷ []) cur new
one_read cur new a b e = record {
  same = λ c n. elim (cases_Bool (is_read cur a b)) [
    | inl h ↦
        ap (λ xs. is_read xs c n) (e ∙ cond_then (is_read cur a b) cur (cur ++ fresh_leaf a b ∷ []) h)
        ∙ or_same (is_read cur c n) (same_work (variable_at c n) (variable_at a b)) (there_too cur a b c n h)
    | inr h ↦
        ap (λ xs. is_read xs c n) (e ∙ cond_else (is_read cur a b) cur (cur ++ fresh_leaf a b ∷ []) h)
        ∙ list_any-append (same_leaf (fresh_leaf c n)) cur (fresh_leaf a b ∷ [])
  ];
  few = elim (cases_Bool (is_read cur a b)) [
    | inl h ↦ let long = ap (λ (xs : List FreshLeaf). length xs) (e ∙ cond_then (is_read cur a b) cur (cur ++ fresh_leaf a b ∷ []) h) in omega (arith, long)
    | inr h ↦
        let long = ap (λ (xs : List FreshLeaf). length xs) (e ∙ cond_else (is_read cur a b) cur (cur ++ fresh_leaf a b ∷ []) h) ∙ length-append cur (fresh_leaf a b ∷ []) in
        omega (arith, long)
  ];
}

pub nothing_read : (cur : List FreshLeaf) → AddsRead [] cur cur
nothing_read cur = record { same = λ c n. or_nothing (is_read cur c n); few = omega arith }
  where
    or_nothing : (b : Bool) → b ≡ (b || false)
    or_nothing true = refl
    or_nothing false = refl

pub more_read : (ws vs : List WorkVariable) (old mid new : List FreshLeaf) → AddsRead ws old mid → AddsRead vs mid new → AddsRead (ws ++ vs) old new
more_read ws vs old mid new one two = record {
  same = λ c n.
      two.same c n ∙ ap (λ b. b || is_in vs (variable_at c n)) (one.same c n) ∙ or_assoc (is_read old c n) (is_in ws (variable_at c n)) (is_in vs (variable_at c n))
      ∙ ap (λ b. is_read old c n || b) (sym (list_any-append (same_work (variable_at c n)) ws vs));
  few = let both = length-append ws vs in let a = one.few in let b = two.few in omega (arith, both, a, b);
}

pub none_read : AreRead [] []
none_read = record { same = λ c n. refl; few = omega arith }

pub read_on : (ws vs : List WorkVariable) (old new : List FreshLeaf) → AreRead ws old → AddsRead vs old new → AreRead (ws ++ vs) new
read_on ws vs old new one two = record {
  same = λ c n. two.same c n ∙ ap (λ b. b || is_in vs (variable_at c n)) (one.same c n) ∙ sym (list_any-append (same_work (variable_at c n)) ws vs);
  few = let both = length-append ws vs in let a = one.few in let b = two.few in omega (arith, both, a, b);
}

-- one element of a list more

take_more : {X : Type 0} (xs : List X) (i : ℕ) (d : X) → i < length xs → take (i + 1) xs ≡ take i xs ++ get_or xs i d ∷ []
take_more xs i d l = let one : i + 1 ≡ suc i = omega arith in ap (λ j. take j xs) one ∙ take-suc xs i d l

pub kept_more : {X Y : Type 0} (f : X → Option Y) (xs : List X) (i : ℕ) (d : X) → i < length xs → filter_map f (take (i + 1) xs) ≡ filter_map f (take i xs) ++ cons_option (f (get_or xs i d)) []
kept_more f xs i d l = ap (filter_map f) (take_more xs i d l) ∙ filter_map-append f (take i xs) (get_or xs i d ∷ [])

pub pieces_more : {X Y : Type 0} (f : X → List Y) (xs : List X) (i : ℕ) (d : X) → i < length xs → flat_map f (take (i + 1) xs) ≡ flat_map f (take i xs) ++ f (get_or xs i d)
pieces_more f xs i d l = ap (flat_map f) (take_more xs i d l) ∙ flat_map-append f (take i xs) (get_or xs i d ∷ []) ∙ ap (λ ys. flat_map f (take i xs) ++ ys) (append-nil (f (get_or xs i d)))

-- ---- one leaf of a text more, and one step more

module _ (ls : List Leaf) (i : ℕ) (d : Leaf) (within : i < length ls) (old cur new : List FreshLeaf) (before : AddsRead (filter_map work_leaf (take i ls)) old cur) where
  pub leaf_on : AddsRead (cons_option (work_leaf (get_or ls i d)) []) cur new → AddsRead (filter_map work_leaf (take (i + 1) ls)) old new
  leaf_on more =
      subst (λ ws. AddsRead ws old new) (sym (kept_more work_leaf ls i d within))
      (more_read (filter_map work_leaf (take i ls)) (cons_option (work_leaf (get_or ls i d)) []) old cur new before more)

  -- a leaf that is no work variable
  pub other_leaf : work_leaf (get_or ls i d) ≡ None → new ≡ cur → AddsRead (filter_map work_leaf (take (i + 1) ls)) old new
  other_leaf none same =
      leaf_on (subst (λ o. AddsRead (cons_option o []) cur new) (sym none) (subst (λ xs. AddsRead [] cur xs) (sym same) (nothing_read cur)))

  -- a work variable
  pub work_on : (c : Typecode) (n : ℕ) → get_or ls i d ≡ leaf.Work c n → new ≡ cond (is_read cur c.0.0 n) cur (cur ++ fresh_leaf c.0.0 n ∷ [])
      → AddsRead (filter_map work_leaf (take (i + 1) ls)) old new
  work_on c n is put = leaf_on (subst (λ (x : Leaf). AddsRead (cons_option (work_leaf x) []) cur new) (sym is) (one_read cur new c.0.0 n put))
