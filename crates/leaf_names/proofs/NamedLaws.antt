-- One leaf more is named.
use Rattle.std.specs.Prelude.{◌≡◌, ◌⊎◌, ◌||◌, ℕ, zero, suc, Bool, true, false, cond, List, [], ◌∷◌, ◌++◌, map, take, slice_get, is_some, Some, None, refl}
use Rattle.std.specs.Map.{lookup}
use Rattle.std.proofs.Common.{sym, ap, subst, ◌∙◌, inl, inr, append_assoc}
use Rattle.std.proofs.lemmas.Bool.{cases_Bool}
use Rattle.std.proofs.lemmas.List.{map-append, append-nil}
use Rattle.mm_model.specs.Names.{Name}
use Rattle.solve_model.specs.Firsts.{IsLeast}
use Rattle.written_model.specs.Named.{WorkVariable, same_work, is_in, not_seen}
use Rattle.leaf_names.specs.Leaves.{FreshLeaf}
use Rattle.leaf_names.specs.Tables.{NamedLeaf, named_leaf, as_variable, same_leaf, IsFree, AreNamed, Adds}

-- ---- the last of a list

-- what is not seen, with one more at the end
snoc_new : (seen ws : List WorkVariable) (w : WorkVariable) → not_seen seen (ws ++ w ∷ []) ≡ not_seen seen ws ++ cond (is_in seen w || is_in (not_seen seen ws) w) [] (w ∷ [])
snoc_new seen [] w = by (is_in seen w) refl
  where
    by : (b : Bool) → is_in seen w ≡ b → not_seen seen (w ∷ []) ≡ cond (is_in seen w || false) [] (w ∷ [])
    by true e = rw e refl
    by false e = rw e refl
snoc_new seen (v ∷ vs) w = elim (cases_Bool (is_in seen v)) [
  | inl e ↦ rw e (snoc_new seen vs w)
  | inr e ↦ rw e (ap (λ xs. v ∷ xs) (snoc_new (v ∷ seen) vs w ∙ ap (λ b. not_seen (v ∷ seen) vs ++ cond b [] (w ∷ [])) (turn (same_work w v) (is_in seen w) (is_in (not_seen (v ∷ seen) vs) w))))
]
  where
    turn : (a b c : Bool) → ((a || b) || c) ≡ (b || (a || c))
    turn true true c = refl
    turn true false c = refl
    turn false true c = refl
    turn false false c = refl

seen_last : (ws : List WorkVariable) (w : WorkVariable) → is_in (not_seen [] ws) w ≡ true → not_seen [] (ws ++ w ∷ []) ≡ not_seen [] ws
seen_last ws w e = snoc_new [] ws w ∙ ap (λ b. not_seen [] ws ++ cond b [] (w ∷ [])) e ∙ append-nil (not_seen [] ws)

new_last : (ws : List WorkVariable) (w : WorkVariable) → is_in (not_seen [] ws) w ≡ false → not_seen [] (ws ++ w ∷ []) ≡ not_seen [] ws ++ w ∷ []
new_last ws w e = snoc_new [] ws w ∙ ap (λ b. not_seen [] ws ++ cond b [] (w ∷ [])) e

-- an element of a longer list is one of the list, or the last
pub at_end : {X : Type 0} (xs : List X) (y z : X) (k : ℕ) → slice_get (xs ++ y ∷ []) k ≡ Some z
    → ((slice_get xs k ≡ Some z) × (take k (xs ++ y ∷ []) ≡ take k xs)) ⊎ ((y ≡ z) × (take k (xs ++ y ∷ []) ≡ xs))
at_end [] y z zero e = inr (cc, refl)
at_end [] y z (suc k) e = absurd (cc)
at_end (x ∷ xs) y z zero e = inl (e, refl)
at_end (x ∷ xs) y z (suc k) e = elim (at_end xs y z k e) [
  | inl h ↦ inl (h.0, ap (λ l. x ∷ l) h.1)
  | inr h ↦ inr (h.0, ap (λ l. x ∷ l) h.1)
]

-- ---- a leaf has a name where it is among the leaves

abbrev leaf_of : NamedLeaf → WorkVariable
leaf_of g = as_variable g.0

pub among : (given : List NamedLeaf) (x : FreshLeaf) → is_some (lookup (same_leaf x) given) ≡ is_in (map leaf_of given) (as_variable x)
among [] x = refl
among (g ∷ gs) x = elim (cases_Bool (same_leaf x g.0)) [ inl e ↦ rw e refl | inr e ↦ rw e (among gs x) ]

-- ---- one leaf more

module _ (symbols : List Name) (read : List FreshLeaf) where
  pub nothing_added : (given : List NamedLeaf) → Adds symbols read [] given given
  nothing_added given = record {
    named = λ before h. subst (AreNamed symbols read given) (sym (append-nil before)) h;
    kept = ([], sym (append-nil given));
  }

  pub added_on : (xs ys : List FreshLeaf) (old mid new : List NamedLeaf) → Adds symbols read xs old mid → Adds symbols read ys mid new → Adds symbols read (xs ++ ys) old new
  added_on xs ys old mid new one two = record {
    named = λ before h. subst (AreNamed symbols read new) (append_assoc before xs ys) (two.named (before ++ xs) (one.named before h));
    kept = (one.kept.0 ++ two.kept.0, two.kept.1 ∙ ap (λ zs. zs ++ two.kept.0) one.kept.1 ∙ append_assoc old one.kept.0 two.kept.0);
  }

  module _ (given : List NamedLeaf) (x : FreshLeaf) where
    variables_on : (before : List FreshLeaf) → map as_variable (before ++ x ∷ []) ≡ map as_variable before ++ as_variable x ∷ []
    variables_on before = map-append as_variable before (x ∷ [])

    -- a leaf that has a name
    pub named_before : is_some (lookup (same_leaf x) given) ≡ true → Adds symbols read (x ∷ []) given given
    named_before there = record {
      named = λ before h. record {
        in_order =
            let seen : is_in (not_seen [] (map as_variable before)) (as_variable x) ≡ true = ap (λ ws. is_in ws (as_variable x)) (sym h.in_order) ∙ sym (among given x) ∙ there in
            h.in_order ∙ sym (ap (not_seen []) (variables_on before) ∙ seen_last (map as_variable before) (as_variable x) seen);
        least = h.least;
      };
      kept = ([], sym (append-nil given));
    }

    -- a leaf that gets the least number that is free
    pub named_now : (n : ℕ) → lookup (same_leaf x) given ≡ None → IsLeast (IsFree symbols read given x.0) n → Adds symbols read (x ∷ []) given (given ++ named_leaf x n ∷ [])
    named_now n absent least = record {
      named = λ before h. record {
        in_order =
            let new : is_in (not_seen [] (map as_variable before)) (as_variable x) ≡ false = ap (λ ws. is_in ws (as_variable x)) (sym h.in_order) ∙ sym (among given x) ∙ ap is_some absent in
            map-append leaf_of given (named_leaf x n ∷ []) ∙ ap (λ ws. ws ++ as_variable x ∷ []) h.in_order
            ∙ sym (ap (not_seen []) (variables_on before) ∙ new_last (map as_variable before) (as_variable x) new);
        least = λ k g e. elim (at_end given (named_leaf x n) g k e) [
          | inl o ↦ subst (λ gs. IsLeast (IsFree symbols read gs g.0.0) g.1) (sym o.1) (h.least k g o.0)
          | inr o ↦ subst (λ (g : NamedLeaf). IsLeast (IsFree symbols read (take k (given ++ named_leaf x n ∷ [])) g.0.0) g.1) o.0
              (subst (λ gs. IsLeast (IsFree symbols read gs x.0) n) (sym o.1) least)
        ];
      };
      kept = (named_leaf x n ∷ [], refl);
    }
