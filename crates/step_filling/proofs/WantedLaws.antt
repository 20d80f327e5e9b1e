-- The `$e` of an accepted step, read one after the other.
use Rattle.std.specs.Prelude.{◌≡◌, ℕ, ◌+◌, ◌<◌, ◌≤◌, List, [], ◌∷◌, ◌++◌, length, map, drop, slice_get, Some, None, Ok, Err, refl}
use Rattle.std.proofs.Common.{zero, suc, sym, ap, subst, ◌∙◌, arith, append_assoc, inl, inr}
use Rattle.std.proofs.lemmas.List.{append-nil}
use Rattle.mm_base.specs.declared.symbols.Label.{Label}
use Rattle.mm_base.specs.declared.tree.Tree.{Tree}
use Rattle.solve_model.specs.Solutions.{instance}
use Rattle.step_chain.specs.declared.reading.TreeFault.TheVariants.{TooLong}
use Rattle.step_chain.specs.Held.{Held}
use Rattle.step_chain.specs.Values.{value_of}
use Rattle.step_chain.specs.Readings.{IsRead}
use Rattle.step_chain.specs.Answers.{IsShort, IsFirstLong, AreRead, OfAccepted, values_of, constants_of}
use Rattle.step_filling.specs.Wanted.{wanted_from, AreShort, AreWanted}

-- one of the `$e`
pub record IsAt (hyps : List Tree) (k : ℕ) : Type 0 where
  pub tree : Tree
  pub at : slice_get hyps k ≡ Some tree
  pub behind : drop k hyps ≡ tree ∷ drop (k + 1) hyps

pub at_hyp : (hyps : List Tree) (k : ℕ) → k < length hyps → IsAt hyps k
at_hyp [] k h = absurd (omega (arith, h))
at_hyp (e ∷ es) zero h = record { tree = e; at = refl; behind = refl }
at_hyp (e ∷ es) (suc k) h =
    let rest = at_hyp es k (omega (arith, h)) in
    let number : suc k + 1 ≡ suc (k + 1) = omega arith in
    record { tree = rest.tree; at = rest.at; behind = rest.behind ∙ ap (λ (n : ℕ). rest.tree ∷ drop n (e ∷ es)) (sym number) }

pub drop_past : (hyps : List Tree) (k : ℕ) → length hyps ≤ k → drop k hyps ≡ []
drop_past [] zero h = refl
drop_past [] (suc k) h = refl
drop_past (e ∷ es) zero h = absurd (omega (arith, h))
drop_past (e ∷ es) (suc k) h = drop_past es k (omega (arith, h))

pub short_join : (c : Label → ℕ) (ts us : List Tree) → AreShort c ts → AreShort c us → AreShort c (ts ++ us)
short_join c [] us h k = k
short_join c (t ∷ ts) us h k = (h.0, short_join c ts us h.1 k)

module _ (h : Held) (i first : ℕ) where
  -- the `$e` before a number were read
  pub record IsReadTo (k : ℕ) (found : List Tree) : Type 0 where
    pub each : OfAccepted h i (λ y. (wanted_from (value_of h) i first y.assertion.hyps ≡ found ++ wanted_from (value_of h) i k y.assertion.hyps) × AreShort (constants_of h) found)

  pub read_none : IsReadTo first []
  read_none = record { each = λ kinds text sheet opened binds code y a. (refl, tt) }

  module _ (k n : ℕ) (found : List Tree) (count : OfAccepted h i (λ y. n ≡ length y.assertion.hyps)) (to : IsReadTo k found) where
    pub read_more : k < n → (more : List Tree) (u : Tree)
        → OfAccepted h i (λ y. (e : Tree) → slice_get y.assertion.hyps k ≡ Some e → IsRead (constants_of h) (instance (value_of h) i e) (Ok u))
        → more ≡ found ++ u ∷ [] → IsReadTo (k + 1) more
    read_more below more u read is = record {
      each = λ kinds text sheet opened binds code y a.
          let hyps = y.assertion.hyps in
          let one = to.each kinds text sheet opened binds code y a in
          let long = count kinds text sheet opened binds code y a in
          let here = at_hyp hyps k (omega (arith, below, long)) in
          let told = read kinds text sheet opened binds code y a here.tree here.at in (
            one.0 ∙ ap (λ (ts : List Tree). found ++ map (instance (value_of h) i) ts) here.behind
                ∙ ap (λ (t : Tree). found ++ t ∷ wanted_from (value_of h) i (k + 1) hyps) (sym told.0)
                ∙ sym (append_assoc found (u ∷ []) (wanted_from (value_of h) i (k + 1) hyps))
                ∙ ap (λ (ts : List Tree). ts ++ wanted_from (value_of h) i (k + 1) hyps) (sym is),
            subst (AreShort (constants_of h)) (sym is) (short_join (constants_of h) found (u ∷ []) one.1 (subst (IsShort (constants_of h)) (sym told.0) told.1, tt)),
          );
    }

    pub read_long : k < n → (t : ℕ) → OfAccepted h i (λ y. (e : Tree) → slice_get y.assertion.hyps k ≡ Some e → IsRead (constants_of h) (instance (value_of h) i e) (Err (TooLong t)))
        → OfAccepted h i (λ y. AreWanted (constants_of h) (wanted_from (value_of h) i first y.assertion.hyps) found (Some t))
    read_long below t read kinds text sheet opened binds code y a =
        let hyps = y.assertion.hyps in
        let one = to.each kinds text sheet opened binds code y a in
        let long = count kinds text sheet opened binds code y a in
        let here = at_hyp hyps k (omega (arith, below, long)) in (
          one.1,
          (
            instance (value_of h) i here.tree,
            wanted_from (value_of h) i (k + 1) hyps,
            one.0 ∙ ap (λ (ts : List Tree). found ++ map (instance (value_of h) i) ts) here.behind,
            read kinds text sheet opened binds code y a here.tree here.at,
          ),
        )

    pub read_all : n ≤ k → OfAccepted h i (λ y. AreWanted (constants_of h) (wanted_from (value_of h) i first y.assertion.hyps) found None)
    read_all past kinds text sheet opened binds code y a =
        let hyps = y.assertion.hyps in
        let one = to.each kinds text sheet opened binds code y a in
        let long = count kinds text sheet opened binds code y a in
        let all : wanted_from (value_of h) i first hyps ≡ found =
        one.0 ∙ ap (λ (ts : List Tree). found ++ map (instance (value_of h) i) ts) (drop_past hyps k (omega (arith, past, long)))
        ∙ append-nil found in
        (sym all, subst (AreShort (constants_of h)) (sym all) one.1)

-- the first that is too long is not short
no_long : (c : Label → ℕ) (ts : List Tree) (n : ℕ) → IsFirstLong c ts n → AreShort c ts → ⊥
no_long c [] n l h = l
no_long c (t ∷ ts) n (inl r) h = let one = r.0 in let two = r.1 in let three = h.0 in omega (arith, one, two, three)
no_long c (t ∷ ts) n (inr r) h = no_long c ts n r.1 h.1

pub no_values : (h : Held) (i n : ℕ) → OfAccepted h i (λ y. AreRead (constants_of h) (values_of h i y) (Err (TooLong n))) → OfAccepted h i (λ y. AreShort (constants_of h) (values_of h i y) → ⊥)
no_values h i n read kinds text sheet opened binds code y a short = no_long (constants_of h) (values_of h i y) n (read kinds text sheet opened binds code y a) short
