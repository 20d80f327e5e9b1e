-- A key put into a set of keys is a pair put into a set of pairs.
use Rattle.std.proofs.Common.{◌≡◌, ℕ, true, false, List, [], ◌∷◌, map, refl, ap, inl, inr}
use Rattle.std.specs.Ordering.{nat_cmp, ordering_then}
use Rattle.std.specs.BTreeSet.{insert_key}
use Rattle.std.specs.declared.cmp.Ordering.{Ordering}
use Rattle.std.specs.declared.cmp.Ordering.TheVariants.{Less, Equal, Greater}
use Rattle.std.proofs.lemmas.Bool.{cases_order}
use Rattle.mm_base.proofs.NumberTests.{is_less, no_less, no_self, is_equal, differs, differs_above}
use Rattle.mm_base.specs.declared.symbols.Pair.{Pair}
use Rattle.solve_model.specs.PairSets.{put_pair, same_pair, stands_before}
use Rattle.pair_set.specs.PairKeys.{pair_of}

abbrev key_cmp : ℕ × ℕ → ℕ × ℕ → Ordering
key_cmp x y = ordering_then (nat_cmp x.0 y.0) (nat_cmp x.1 y.1)

module _ (k x : ℕ × ℕ) (xs : List (ℕ × ℕ)) (rest : map pair_of (insert_key key_cmp xs k) ≡ put_pair (map pair_of xs) (pair_of k)) where
  IsPut : Type 0
  IsPut = map pair_of (insert_key key_cmp (x ∷ xs) k) ≡ put_pair (map pair_of (x ∷ xs)) (pair_of k)

  put_before : key_cmp k x ≡ Less → same_pair (pair_of k) (pair_of x) ≡ false → stands_before (pair_of k) (pair_of x) ≡ true → IsPut
  unfolding IsPut
  put_before o s b = rw (o, s, b) refl

  put_same : key_cmp k x ≡ Equal → same_pair (pair_of k) (pair_of x) ≡ true → IsPut
  unfolding IsPut
  put_same o s = rw (o, s) refl

  put_behind : key_cmp k x ≡ Greater → same_pair (pair_of k) (pair_of x) ≡ false → stands_before (pair_of k) (pair_of x) ≡ false → IsPut
  unfolding IsPut
  put_behind o s b = rw (o, s, b) (ap (λ (ps : List Pair). pair_of x ∷ ps) rest)

pub key_put : (k : ℕ × ℕ) (ks : List (ℕ × ℕ)) → map pair_of (insert_key key_cmp ks k) ≡ put_pair (map pair_of ks) (pair_of k)
unfolding IsPut
key_put k [] = refl
key_put k (x ∷ xs) =
    let rest = key_put k xs in
    elim (cases_order k.0 x.0) [
      | inl e ↦ elim (cases_order k.1 x.1) [
        | inl f ↦ put_same k x xs rest (rw (no_self k.0 x.0 e, is_equal k.0 x.0 e, no_self k.1 x.1 f, is_equal k.1 x.1 f) refl) (rw (is_equal k.0 x.0 e, is_equal k.1 x.1 f) refl)
        | inr h ↦ elim h [
          | inl l ↦ put_before k x xs rest (rw (no_self k.0 x.0 e, is_equal k.0 x.0 e, is_less k.1 x.1 l) refl)
              (rw (is_equal k.0 x.0 e, differs k.1 x.1 l) refl) (rw (no_self k.0 x.0 e, is_equal k.0 x.0 e, is_less k.1 x.1 l) refl)
          | inr g ↦ put_behind k x xs rest (rw (no_self k.0 x.0 e, is_equal k.0 x.0 e, no_less k.1 x.1 g, differs_above k.1 x.1 g) refl)
              (rw (is_equal k.0 x.0 e, differs_above k.1 x.1 g) refl) (rw (no_self k.0 x.0 e, is_equal k.0 x.0 e, no_less k.1 x.1 g) refl)
        ]
      ]
      | inr h ↦ elim h [
        | inl l ↦ put_before k x xs rest (rw (is_less k.0 x.0 l) refl) (rw (differs k.0 x.0 l) refl) (rw (is_less k.0 x.0 l) refl)
        | inr g ↦ put_behind k x xs rest (rw (no_less k.0 x.0 g, differs_above k.0 x.0 g) refl) (rw (differs_above k.0 x.0 g) refl) (rw (no_less k.0 x.0 g, differs_above k.0 x.0 g) refl)
      ]
    ]
