-- The naming of fresh leaves in order of first appearance is one.
use Rattle.std.specs.Prelude.{◌≡◌, ◌==◌, ◌++◌, ℕ, true, false, List, [], ◌∷◌, length, take, slice_get, Contains, Option, Some, None, refl}
use Rattle.std.specs.List.{filter_map, cons_option, AllByRecursion}
use Rattle.std.proofs.Common.{sym, ap, subst, ◌∙◌, arith, inl, inr, ◌⊎◌, append_assoc}
use Rattle.std.proofs.Math.Seq.{take-append_seam}
use Rattle.std.proofs.lemmas.Bool.{cases_Bool, and_parts, and_from, or_cases, or_right, eqb-true, eq-eqb, both_ways}
use Rattle.mm_model.specs.Chains.{same_code}
use Rattle.mm_model.specs.Book.{Database}
use Rattle.solve_model.specs.declared.bound.Bound.{Bound}
use Rattle.solve_model.specs.Firsts.{IsLeast}
use Rattle.written_model.specs.Named.{WorkVariable, work_variable, same_work, is_in, read_works, not_seen, IsUnused}
use Rattle.answer_laws.proofs.Elements.{first, later}
use Rattle.answer_laws.proofs.Marks.{Mark}

-- ---- work variables

work_with : ℕ → ℕ → WorkVariable
work_with c n = record { code = record { 0 = record { 0 = c } }; number = n }

pub same_variable : (v w : WorkVariable) → same_work v w ≡ true → v ≡ w
unfolding work_with
same_variable v w e =
    let both = and_parts (same_code v.code w.code) (v.number == w.number) e in
    ap (λ c. work_with c v.number) (eqb-true v.code.0.0 w.code.0.0 both.0) ∙ ap (work_with w.code.0.0) (eqb-true v.number w.number both.1)

pub variable_itself : (v : WorkVariable) → same_work v v ≡ true
variable_itself v = and_from (same_code v.code v.code) (v.number == v.number) (eq-eqb v.code.0.0 v.code.0.0 refl) (eq-eqb v.number v.number refl)

pub seen_one : (S : List WorkVariable) (w : WorkVariable) (ws : List WorkVariable) → is_in S w ≡ true → not_seen S (w ∷ ws) ≡ not_seen S ws
seen_one S w ws e = rw e refl

unseen_one : (S : List WorkVariable) (w : WorkVariable) (ws : List WorkVariable) → is_in S w ≡ false → not_seen S (w ∷ ws) ≡ w ∷ not_seen (w ∷ S) ws
unseen_one S w ws e = rw e refl

slice_get-seam : {X : Type 0} (xs : List X) (y : X) (ys : List X) → slice_get (xs ++ y ∷ ys) (length xs) ≡ Some y
slice_get-seam [] y ys = refl
slice_get-seam (x ∷ xs) y ys = slice_get-seam xs y ys

pub least_is_one : (P : ℕ → Type 0) (n m : ℕ) → IsLeast P n → IsLeast P m → n ≡ m
least_is_one P n m h k =
    let low = h.least m k.from_one k.holds in
    let high = k.least n h.from_one h.holds in
    omega (arith, low, high)

-- ---- two ways to name leaves

module _ (db : Database) (bound : Bound) (p q : Mark → Option WorkVariable) where
  abbrev R : List WorkVariable
  R = read_works db bound

  -- an unread name of the one way is that of one leaf alone
  abbrev pub NamesOnce : (Mark → Option WorkVariable) → List Mark → Type 0
  NamesOnce h M = (x y : Mark) (w : WorkVariable) → Contains M x → Contains M y → is_in R w ≡ false → h x ≡ Some w → h y ≡ Some w → x ≡ y

  -- each new name is the least that is unused
  abbrev pub IsLeastAt : List WorkVariable → Type 0
  IsLeastAt ws = (k : ℕ) (w : WorkVariable) → slice_get ws k ≡ Some w → IsLeast (λ n. IsUnused db bound (take k ws) (work_variable w.code n)) w.number

  -- a leaf without a name, with a read name, or with a new name by each way, of the same typecode
  pub data Named (x : Mark) : Type 0 where
    unnamed : p x ≡ None → q x ≡ None → Named x
    was_read : (w : WorkVariable) → p x ≡ Some w → q x ≡ Some w → is_in R w ≡ true → Named x
    is_new : (v w : WorkVariable) → p x ≡ Some v → q x ≡ Some w → is_in R v ≡ false → is_in R w ≡ false → v.code ≡ w.code → Named x

  module _ (M : List Mark) (once_p : NamesOnce p M) (once_q : NamesOnce q M)
      (least_p : IsLeastAt (not_seen R (filter_map p M))) (least_q : IsLeastAt (not_seen R (filter_map q M))) where
    -- it is the name of a leaf by each way
    abbrev Common : WorkVariable → Type 0
    Common w = (x : Mark) × Contains M x × (p x ≡ Some w) × (q x ≡ Some w)

    pub record Seen (S : List WorkVariable) : Type 0 where
      pub has_read : (w : WorkVariable) → is_in R w ≡ true → is_in S w ≡ true
      pub are_common : (w : WorkVariable) → is_in S w ≡ true → (is_in R w ≡ true) ⊎ Common w

    nothing_seen : Seen R
    nothing_seen = record { has_read = λ w e. e; are_common = λ w e. inl e }

    one_more : (S : List WorkVariable) (w : WorkVariable) → Seen S → Common w → Seen (w ∷ S)
    one_more S w s c = record {
      has_read = λ v e. or_right (same_work v w) (is_in S v) (s.has_read v e);
      are_common = λ v e. elim (or_cases (same_work v w) (is_in S v) e) [
        | inl same ↦ inr (subst Common (sym (same_variable v w same)) c)
        | inr old ↦ s.are_common v old
      ];
    }

    abbrev Alike : List Mark → Type 0
    Alike xs = AllByRecursion (λ x. p x ≡ q x) xs

    -- what the walk over the leaves keeps: what was seen, and what is new so far
    pub record Walks (S T : List WorkVariable) (xs : List Mark) : Type 0 where
      pub seen : Seen S
      pub within : (x : Mark) → Contains xs x → Contains M x
      pub first_way : not_seen R (filter_map p M) ≡ T ++ not_seen S (filter_map p xs)
      pub second_way : not_seen R (filter_map q M) ≡ T ++ not_seen S (filter_map q xs)

    -- the new names are one, since each is the least
    new_alike : (S T : List WorkVariable) (v w : WorkVariable) (vs ws : List WorkVariable) → v.code ≡ w.code
        → not_seen R (filter_map p M) ≡ T ++ v ∷ vs → not_seen R (filter_map q M) ≡ T ++ w ∷ ws → v ≡ w
    new_alike S T v w vs ws code e f =
        let mine = subst IsLeastAt e least_p (length T) v (slice_get-seam T v vs) in
        let its = subst IsLeastAt f least_q (length T) w (slice_get-seam T w ws) in
        let front = subst (λ us. IsLeast (λ n. IsUnused db bound us (work_variable v.code n)) v.number) (take-append_seam T (v ∷ vs)) mine in
        let other = subst (λ us. IsLeast (λ n. IsUnused db bound us (work_variable w.code n)) w.number) (take-append_seam T (w ∷ ws)) its in
        let moved = subst (λ c. IsLeast (λ n. IsUnused db bound T (work_variable c n)) w.number) (sym code) other in
        let number = least_is_one (λ n. IsUnused db bound T (work_variable v.code n)) v.number w.number front moved in
        ap (λ c. work_variable c v.number) code ∙ ap (work_variable w.code) number

    -- one leaf more
    one_step : (x : Mark) (xs : List Mark) → ((S T : List WorkVariable) → Walks S T xs → Alike xs) → (S T : List WorkVariable) → Walks S T (x ∷ xs) → Named x → Alike (x ∷ xs)
    one_step x xs more S T h (unnamed e f) = (
      e ∙ sym f,
      more S T (record {
        seen = h.seen;
        within = λ y o. h.within y (later y x xs o);
        first_way = h.first_way ∙ ap (λ o. T ++ not_seen S (cons_option o (filter_map p xs))) e;
        second_way = h.second_way ∙ ap (λ o. T ++ not_seen S (cons_option o (filter_map q xs))) f;
      }),
    )
    one_step x xs more S T h (was_read w e f r) = (
      e ∙ sym f,
      more S T (record {
        seen = h.seen;
        within = λ y o. h.within y (later y x xs o);
        first_way = h.first_way ∙ ap (λ o. T ++ not_seen S (cons_option o (filter_map p xs))) e ∙ ap (λ ws. T ++ ws) (seen_one S w (filter_map p xs) (h.seen.has_read w r));
        second_way = h.second_way ∙ ap (λ o. T ++ not_seen S (cons_option o (filter_map q xs))) f ∙ ap (λ ws. T ++ ws) (seen_one S w (filter_map q xs) (h.seen.has_read w r));
      }),
    )
    one_step x xs more S T h (is_new v w e f unread_v unread_w code) =
        let here : Contains M x = h.within x (first x x xs refl) in
        let one = h.first_way ∙ ap (λ o. T ++ not_seen S (cons_option o (filter_map p xs))) e in
        let two = h.second_way ∙ ap (λ o. T ++ not_seen S (cons_option o (filter_map q xs))) f in
        let rest : (y : Mark) → Contains xs y → Contains M y = λ y o. h.within y (later y x xs o) in
        elim (cases_Bool (is_in S v)) [
          | inl s ↦
              let c = common S h.seen v s unread_v in
              let same : v ≡ w = sharp v w (sym (at q c.0 x v (once_p c.0 x v c.1 here unread_v c.2 e) c.3) ∙ f) in
              let seen_w : is_in S w ≡ true = subst (λ u. is_in S u ≡ true) same s in (
                e ∙ ap Some same ∙ sym f,
                more S T
                    (record {
                      seen = h.seen;
                      within = rest;
                      first_way = one ∙ ap (λ ws. T ++ ws) (seen_one S v (filter_map p xs) s);
                      second_way = two ∙ ap (λ ws. T ++ ws) (seen_one S w (filter_map q xs) seen_w);
                    }),
              )
          | inr n ↦ elim (cases_Bool (is_in S w)) [
            | inl s ↦
                let c = common S h.seen w s unread_w in
                let same : w ≡ v = sharp w v (sym (at p c.0 x w (once_q c.0 x w c.1 here unread_w c.3 f) c.2) ∙ e) in
                absurd (both_ways (is_in S v) n (subst (λ u. is_in S u ≡ true) same s))
            | inr m ↦
                let one' = one ∙ ap (λ ws. T ++ ws) (unseen_one S v (filter_map p xs) n) in
                let two' = two ∙ ap (λ ws. T ++ ws) (unseen_one S w (filter_map q xs) m) in
                let same : v ≡ w = new_alike S T v w _ _ code one' two' in
                let moved : p x ≡ Some w = e ∙ ap Some same in (
                  e ∙ ap Some same ∙ sym f,
                  more (w ∷ S) (T ++ w ∷ []) (record {
                    seen = one_more S w h.seen (x, here, moved, f);
                    within = rest;
                    first_way = one' ∙ ap (λ u. T ++ u ∷ not_seen (u ∷ S) (filter_map p xs)) same ∙ sym (append_assoc T (w ∷ []) (not_seen (w ∷ S) (filter_map p xs)));
                    second_way = two' ∙ sym (append_assoc T (w ∷ []) (not_seen (w ∷ S) (filter_map q xs)));
                  }),
                )
          ]
        ]
      where
        at : (k : Mark → Option WorkVariable) (y z : Mark) (u : WorkVariable) → y ≡ z → k y ≡ Some u → k z ≡ Some u
        at k y z u same g = subst (λ m. k m ≡ Some u) same g

        sharp : (u t : WorkVariable) → Some u ≡ Some t → u ≡ t
        sharp u t g = cc

        common : (S : List WorkVariable) → Seen S → (u : WorkVariable) → is_in S u ≡ true → is_in R u ≡ false → Common u
        common S s u g unread = elim (s.are_common u g) [ inl r ↦ absurd (both_ways (is_in R u) unread r) | inr c ↦ c ]

    walk : (xs : List Mark) → AllByRecursion Named xs → (S T : List WorkVariable) → Walks S T xs → Alike xs
    walk [] n S T h = tt
    walk (x ∷ xs) n S T h = one_step x xs (walk xs n.1) S T h n.0

    -- the two ways are one
    pub alike : AllByRecursion Named M → Alike M
    alike n = walk M n R [] (record { seen = nothing_seen; within = λ x o. o; first_way = refl; second_way = refl })
