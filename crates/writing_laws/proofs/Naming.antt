-- Names of fresh leaves in order, each the least unused number.
use Rattle.std.specs.Prelude.{◌≡◌, ◌^◌, ◌<◌, ◌||◌, ℕ, zero, suc, Bool, true, false, List, [], ◌∷◌, ◌++◌, length, take, slice_get, filter_map}
use Rattle.std.specs.Prelude.{if◌then◌else◌, Contains, option_map, Option, Some, None, refl}
use Rattle.std.specs.List.{AllByRecursion, cons_option}
use Rattle.std.proofs.Common.{sym, ap, subst, ◌∙◌, inl, inr, append_assoc}
use Rattle.std.proofs.lemmas.Bool.{cases_Bool, both_ways, or_cases, or_left, or_right}
use Rattle.mm_base.specs.declared.symbols.Typecode.{Typecode}
use Rattle.mm_model.specs.Book.{Database}
use Rattle.solve_model.specs.declared.bound.Bound.{Bound}
use Rattle.solve_model.specs.Firsts.{IsLeast}
use Rattle.written_model.specs.Named.{WorkVariable, work_variable, same_work, is_in, read_works, not_seen, IsUnused}
use Rattle.answer_laws.proofs.Elements.{first, later, nothing, parted}
use Rattle.answer_laws.proofs.NamedAlike.{same_variable, variable_itself}
use Rattle.answer_laws.proofs.OneNaming.{mapped_some}
use Rattle.writing_laws.proofs.Unused.{least_unused}

-- ---- Bools

neither : (a b : Bool) → (a || b) ≡ false → (a ≡ false) × (b ≡ false)
neither true b e = absurd (cc)
neither false b e = (refl, e)

same_bool : (a b : Bool) → (a ≡ true → b ≡ true) → (b ≡ true → a ≡ true) → a ≡ b
same_bool true b f g = sym (f refl)
same_bool false true f g = g refl
same_bool false false f g = refl

-- ---- lists of work variables

not_in_parts : (xs ys : List WorkVariable) (w : WorkVariable) → is_in (xs ++ ys) w ≡ false → (is_in xs w ≡ false) × (is_in ys w ≡ false)
not_in_parts [] ys w e = (refl, e)
not_in_parts (x ∷ xs) ys w e =
    let both = neither (same_work w x) (is_in (xs ++ ys) w) e in
    let rest = not_in_parts xs ys w both.1 in
    (rw both.0 rest.0, rest.1)

-- none of the list is a later one
abbrev pub Apart : List WorkVariable → Type 0
Apart [] = Unit {0}
Apart (x ∷ xs) = AllByRecursion (λ y. same_work y x ≡ false) xs × Apart xs

split_all : {X : Type 0} (P Q R : X → Type 0) → ((x : X) → P x → Q x × R x) → (xs : List X) → AllByRecursion P xs → AllByRecursion Q xs × AllByRecursion R xs
split_all P Q R f [] h = (tt, tt)
split_all P Q R f (x ∷ xs) h = let one = f x h.0 in let rest = split_all P Q R f xs h.1 in ((one.0, rest.0), (one.1, rest.1))

abbrev AreNew : List WorkVariable → List WorkVariable → Type 0
AreNew seen xs = AllByRecursion (λ y. is_in seen y ≡ false) xs × Apart xs

new_apart : (seen ws : List WorkVariable) → AreNew seen (not_seen seen ws)
new_apart seen [] = (tt, tt)
new_apart seen (w ∷ ws) = elim (cases_Bool (is_in seen w)) [
  | inl e ↦ rw e (new_apart seen ws)
  | inr e ↦
      let rest = new_apart (w ∷ seen) ws in
      let both =
      split_all (λ y. is_in (w ∷ seen) y ≡ false) (λ y. same_work y w ≡ false) (λ y. is_in seen y ≡ false)
      (λ y h. neither (same_work y w) (is_in seen y) h) (not_seen (w ∷ seen) ws) rest.0 in
      rw e ((e, both.1), (both.0, rest.1))
]

pub new_kept : (seen ws : List WorkVariable) (y : WorkVariable) → is_in ws y ≡ true → is_in seen y ≡ false → is_in (not_seen seen ws) y ≡ true
new_kept seen [] y e n = absurd (cc)
new_kept seen (w ∷ ws) y e n = elim (cases_Bool (is_in seen w)) [
  | inl h ↦ rw h (elim (or_cases (same_work y w) (is_in ws y) e) [
    | inl s ↦ absurd (both_ways (is_in seen y) n (subst (λ v. is_in seen v ≡ true) (sym (same_variable y w s)) h))
    | inr r ↦ new_kept seen ws y r n
  ])
  | inr h ↦ rw h (elim (cases_Bool (same_work y w)) [
    | inl s ↦ or_left (same_work y w) (is_in (not_seen (w ∷ seen) ws) y) s
    | inr s ↦ or_right (same_work y w) (is_in (not_seen (w ∷ seen) ws) y) (new_kept (w ∷ seen) ws y (rest s e) (rw s n))
  ])
]
  where
    rest : {a b : Bool} → a ≡ false → (a || b) ≡ true → b ≡ true
    rest {a} {b} s e = rw s at e

pub new_from : (seen ws : List WorkVariable) (y : WorkVariable) → Contains (not_seen seen ws) y → Contains ws y
new_from seen [] y o = absurd (nothing y o)
new_from seen (w ∷ ws) y o = elim (cases_Bool (is_in seen w)) [
  | inl h ↦ later y w ws (new_from seen ws y (rw h at o))
  | inr h ↦
      let inside : Contains (w ∷ not_seen (w ∷ seen) ws) y = rw h at o in
      elim (parted y w (not_seen (w ∷ seen) ws) inside) [ inl e ↦ first y w ws e | inr l ↦ later y w ws (new_from (w ∷ seen) ws y l) ]
]

-- ---- names in order

module _ (db : Database) (few : length db.symbols < 2 ^ 64) (bound : Bound) where
  abbrev R : List WorkVariable
  R = read_works db bound

  pub least_number : List WorkVariable → Typecode → ℕ
  least_number taken c = (least_unused db few bound taken c).0

  pub number_least : (taken : List WorkVariable) (c : Typecode) → IsLeast (λ m. IsUnused db bound taken (work_variable c m)) (least_number taken c)
  unfolding least_number
  number_least taken c = (least_unused db few bound taken c).1

  -- a leaf with the least number that is unused
  abbrev pub numbered : List WorkVariable → WorkVariable → WorkVariable
  numbered taken x = work_variable x.code (least_number taken x.code)

  abbrev pub numbers : List WorkVariable → List WorkVariable → List WorkVariable
  numbers taken [] = []
  numbers taken (x ∷ xs) = numbered taken x ∷ numbers (taken ++ numbered taken x ∷ []) xs

  abbrev pub name_in : List WorkVariable → List WorkVariable → WorkVariable → Option ℕ
  name_in taken [] y = None
  name_in taken (x ∷ xs) y = if same_work y x then Some (least_number taken x.code) else name_in (taken ++ numbered taken x ∷ []) xs y

  abbrev LeastBehind : List WorkVariable → WorkVariable → Type 0
  LeastBehind taken w = IsLeast (λ n. IsUnused db bound taken (work_variable w.code n)) w.number

  append_nil : (xs : List WorkVariable) → xs ++ [] ≡ xs
  append_nil [] = refl
  append_nil (x ∷ xs) = ap (λ ys. x ∷ ys) (append_nil xs)

  pub numbers_least : (taken xs : List WorkVariable) (k : ℕ) (w : WorkVariable) → slice_get (numbers taken xs) k ≡ Some w → LeastBehind (taken ++ take k (numbers taken xs)) w
  numbers_least taken [] k w e = absurd (cc)
  numbers_least taken (x ∷ xs) zero w e =
      let same : numbered taken x ≡ w = cc in
      subst (LeastBehind (taken ++ [])) same (subst (λ t. LeastBehind t (numbered taken x)) (sym (append_nil taken)) (number_least taken x.code))
  numbers_least taken (x ∷ xs) (suc k) w e =
      subst (λ t. LeastBehind t w) (append_assoc taken (numbered taken x ∷ []) (take k (numbers (taken ++ numbered taken x ∷ []) xs)))
      (numbers_least (taken ++ numbered taken x ∷ []) xs k w e)

  here_named : (taken xs : List WorkVariable) (x y : WorkVariable) → same_work y x ≡ true → name_in taken (x ∷ xs) y ≡ Some (least_number taken x.code)
  here_named taken xs x y h = rw h refl

  later_named : (taken xs : List WorkVariable) (x y : WorkVariable) → same_work y x ≡ false → name_in taken (x ∷ xs) y ≡ name_in (taken ++ numbered taken x ∷ []) xs y
  later_named taken xs x y h = rw h refl

  some_is : {X : Type 0} (x y : X) → Some x ≡ Some y → x ≡ y
  some_is x y e = cc

  -- a name is not read and not taken
  abbrev IsNew : List WorkVariable → WorkVariable → Type 0
  IsNew taken w = (is_in R w ≡ false) × (is_in taken w ≡ false)

  pub name_new : (taken xs : List WorkVariable) (y : WorkVariable) (k : ℕ) → name_in taken xs y ≡ Some k → IsNew taken (work_variable y.code k)
  name_new taken [] y k e = absurd (cc)
  name_new taken (x ∷ xs) y k e = elim (cases_Bool (same_work y x)) [
    | inl h ↦
        let number = some_is (least_number taken x.code) k (sym (here_named taken xs x y h) ∙ e) in
        let code = ap (λ (v : WorkVariable). v.code) (same_variable y x h) in
        let unused = (number_least taken x.code).holds in
        let is : numbered taken x ≡ work_variable y.code k = ap (λ c. work_variable c (least_number taken x.code)) (sym code) ∙ ap (work_variable y.code) number in
        subst (IsNew taken) is (unused.not_read, unused.not_taken)
    | inr h ↦
        let rest = name_new (taken ++ numbered taken x ∷ []) xs y k (sym (later_named taken xs x y h) ∙ e) in
        (rest.0, (not_in_parts taken (numbered taken x ∷ []) (work_variable y.code k) rest.1).0)
  ]

  pub has_name : (taken xs : List WorkVariable) (y : WorkVariable) → is_in xs y ≡ true → (k : ℕ) × (name_in taken xs y ≡ Some k)
  has_name taken [] y e = absurd (cc)
  has_name taken (x ∷ xs) y e = elim (or_cases (same_work y x) (is_in xs y) e) [
    | inl h ↦ (least_number taken x.code, here_named taken xs x y h)
    | inr r ↦ elim (cases_Bool (same_work y x)) [
      | inl h ↦ (least_number taken x.code, here_named taken xs x y h)
      | inr h ↦ let rest = has_name (taken ++ numbered taken x ∷ []) xs y r in (rest.0, later_named taken xs x y h ∙ rest.1)
    ]
  ]

  pub name_stands : (taken xs : List WorkVariable) (y : WorkVariable) (k : ℕ) → name_in taken xs y ≡ Some k → Contains xs y
  name_stands taken [] y k e = absurd (cc)
  name_stands taken (x ∷ xs) y k e = elim (cases_Bool (same_work y x)) [
    | inl h ↦ first y x xs (sym (same_variable y x h))
    | inr h ↦ later y x xs (name_stands (taken ++ numbered taken x ∷ []) xs y k (sym (later_named taken xs x y h) ∙ e))
  ]

  -- the name of a first leaf is that of no later one
  first_alone : (taken xs : List WorkVariable) (x z : WorkVariable) (k : ℕ) → least_number taken x.code ≡ k → x.code ≡ z.code
      → name_in (taken ++ numbered taken x ∷ []) xs z ≡ Some k → ⊥
  first_alone taken xs x z k number code e =
      let new = (name_new (taken ++ numbered taken x ∷ []) xs z k e).1 in
      let apart = (neither _ _ (not_in_parts taken (numbered taken x ∷ []) (work_variable z.code k) new).1).0 in
      let is : numbered taken x ≡ work_variable z.code k = ap (λ c. work_variable c (least_number taken x.code)) code ∙ ap (work_variable z.code) number in
      both_ways (same_work (work_variable z.code k) (numbered taken x)) apart (subst (λ v. same_work (work_variable z.code k) v ≡ true) (sym is) (variable_itself (work_variable z.code k)))

  pub name_once : (taken xs : List WorkVariable) (y z : WorkVariable) (k : ℕ) → y.code ≡ z.code → name_in taken xs y ≡ Some k → name_in taken xs z ≡ Some k → y ≡ z
  name_once taken [] y z k c e g = absurd (cc)
  name_once taken (x ∷ xs) y z k c e g = elim (cases_Bool (same_work y x)) [
    | inl h ↦ elim (cases_Bool (same_work z x)) [
      | inl i ↦ same_variable y x h ∙ sym (same_variable z x i)
      | inr i ↦ absurd (first_alone taken xs x z k (some_is (least_number taken x.code) k (sym (here_named taken xs x y h) ∙ e)) (sym (ap (λ (v : WorkVariable). v.code) (same_variable y x h)) ∙ c)
          (sym (later_named taken xs x z i) ∙ g))
    ]
    | inr h ↦ elim (cases_Bool (same_work z x)) [
      | inl i ↦ absurd
          (first_alone taken xs x y k (some_is (least_number taken x.code) k (sym (here_named taken xs x z i) ∙ g))
          (sym (ap (λ (v : WorkVariable). v.code) (same_variable z x i)) ∙ sym c)
          (sym (later_named taken xs x y h) ∙ e))
      | inr i ↦ name_once (taken ++ numbered taken x ∷ []) xs y z k c (sym (later_named taken xs x y h) ∙ e) (sym (later_named taken xs x z i) ∙ g)
    ]
  ]

  -- ---- the leaves by their names

  abbrev pub named_as : List WorkVariable → List WorkVariable → WorkVariable → Option WorkVariable
  named_as taken xs y = option_map (work_variable y.code) (name_in taken xs y)

  kept_same : (f g : WorkVariable → Option WorkVariable) (xs : List WorkVariable) → AllByRecursion (λ x. f x ≡ g x) xs → filter_map f xs ≡ filter_map g xs
  kept_same f g [] h = refl
  kept_same f g (x ∷ xs) h = ap (λ o. cons_option o (filter_map f xs)) h.0 ∙ ap (cons_option (g x)) (kept_same f g xs h.1)

  all_later : (taken all xs : List WorkVariable) (x : WorkVariable) → AllByRecursion (λ y. same_work y x ≡ false) xs
      → AllByRecursion (λ y. named_as taken (x ∷ all) y ≡ named_as (taken ++ numbered taken x ∷ []) all y) xs
  all_later taken all [] x h = tt
  all_later taken all (y ∷ ys) x h = (ap (option_map (work_variable y.code)) (later_named taken all x y h.0), all_later taken all ys x h.1)

  named_numbers : (taken xs : List WorkVariable) → Apart xs → filter_map (named_as taken xs) xs ≡ numbers taken xs
  named_numbers taken [] h = refl
  named_numbers taken (x ∷ xs) h =
      ap (λ o. cons_option (option_map (work_variable x.code) o) (filter_map (named_as taken (x ∷ xs)) xs)) (here_named taken xs x x (variable_itself x))
      ∙ ap (λ ws. numbered taken x ∷ ws)
      (kept_same (named_as taken (x ∷ xs)) (named_as (taken ++ numbered taken x ∷ []) xs) xs (all_later taken xs xs x h.0)
      ∙ named_numbers (taken ++ numbered taken x ∷ []) xs h.1)

  -- the names of leaves of which each stands once
  pub apart_numbers : (ws : List WorkVariable) → filter_map (named_as [] (not_seen [] ws)) (not_seen [] ws) ≡ numbers [] (not_seen [] ws)
  apart_numbers ws = named_numbers [] (not_seen [] ws) (new_apart [] ws).1

  -- ---- a walk over all leaves

  module _ {M : Type 0} (D : List WorkVariable) (P G : M → Option WorkVariable) where
    -- a place without a leaf, with a leaf that was read, or with a new one
    pub data Kind (m : M) : Type 0 where
      plain : P m ≡ None → G m ≡ None → Kind m
      was_read : (w : WorkVariable) → P m ≡ Some w → G m ≡ None → is_in R w ≡ true → Kind m
      is_new : (x w : WorkVariable) → P m ≡ Some w → G m ≡ Some x → named_as [] D x ≡ Some w → Kind m

    pub record Seen (S s : List WorkVariable) : Type 0 where
      pub has_read : (w : WorkVariable) → is_in R w ≡ true → is_in S w ≡ true
      pub alike : (x w : WorkVariable) → named_as [] D x ≡ Some w → is_in S w ≡ is_in s x

    name_of : (x w : WorkVariable) → named_as [] D x ≡ Some w → (k : ℕ) × (name_in [] D x ≡ Some k) × (work_variable x.code k ≡ w)
    name_of x w e = mapped_some (work_variable x.code) (name_in [] D x) w e

    nothing_seen : Seen R []
    nothing_seen = record {
      has_read = λ w e. e;
      alike = λ x w e. let n = name_of x w e in subst (λ v. is_in R v ≡ false) n.2 (name_new [] D x n.0 n.1).0;
    }

    one_leaf : (x y v w : WorkVariable) → named_as [] D x ≡ Some v → named_as [] D y ≡ Some w → v ≡ w → x ≡ y
    one_leaf x y v w e g same =
        let n = name_of x v e in
        let m = name_of y w g in
        let is : work_variable x.code n.0 ≡ work_variable y.code m.0 = n.2 ∙ same ∙ sym m.2 in
        let code = ap (λ (u : WorkVariable). u.code) is in
        let number = ap (λ (u : WorkVariable). u.number) is in
        name_once [] D x y n.0 code n.1 (m.1 ∙ ap Some (sym number))

    one_name : (x y v w : WorkVariable) → named_as [] D x ≡ Some v → named_as [] D y ≡ Some w → x ≡ y → v ≡ w
    one_name x y v w e g same = some_is v w (sym e ∙ ap (named_as [] D) same ∙ g)

    one_more : (S s : List WorkVariable) (x w : WorkVariable) → Seen S s → named_as [] D x ≡ Some w → Seen (w ∷ S) (x ∷ s)
    one_more S s x w h e = record {
      has_read = λ v g. or_right (same_work v w) (is_in S v) (h.has_read v g);
      alike = λ y u g.
          let test = same_bool (same_work u w) (same_work y x)
          (λ t. subst (λ z. same_work y z ≡ true) (one_leaf y x u w g e (same_variable u w t)) (variable_itself y))
          (λ t. subst (λ z. same_work u z ≡ true) (one_name y x u w g e (same_variable y x t)) (variable_itself u)) in
          ap (λ b. b || is_in S u) test ∙ ap (λ b. same_work y x || b) (h.alike y u g);
    }

    seen_skips : (S : List WorkVariable) (w : WorkVariable) (ws : List WorkVariable) → is_in S w ≡ true → not_seen S (w ∷ ws) ≡ not_seen S ws
    seen_skips S w ws e = rw e refl

    new_stays : (S : List WorkVariable) (w : WorkVariable) (ws : List WorkVariable) → is_in S w ≡ false → not_seen S (w ∷ ws) ≡ w ∷ not_seen (w ∷ S) ws
    new_stays S w ws e = rw e refl

    abbrev Walked : List WorkVariable → List WorkVariable → List M → Type 0
    Walked S s ms = not_seen S (filter_map P ms) ≡ filter_map (named_as [] D) (not_seen s (filter_map G ms))

    at_new : (S s : List WorkVariable) (x w : WorkVariable) (ms : List M) → named_as [] D x ≡ Some w → Seen S s → Walked S s ms → Walked (w ∷ S) (x ∷ s) ms
        → not_seen S (w ∷ filter_map P ms) ≡ filter_map (named_as [] D) (not_seen s (x ∷ filter_map G ms))
    at_new S s x w ms e h old new = elim (cases_Bool (is_in s x)) [
      | inl i ↦ seen_skips S w (filter_map P ms) (h.alike x w e ∙ i) ∙ old ∙ ap (filter_map (named_as [] D)) (sym (seen_skips s x (filter_map G ms) i))
      | inr i ↦
          new_stays S w (filter_map P ms) (h.alike x w e ∙ i) ∙ ap (λ ws. w ∷ ws) new
          ∙ ap (λ o. cons_option o (filter_map (named_as [] D) (not_seen (x ∷ s) (filter_map G ms)))) (sym e)
          ∙ ap (filter_map (named_as [] D)) (sym (new_stays s x (filter_map G ms) i))
    ]

    at_kind : (m : M) (ms : List M) → Kind m → ((S s : List WorkVariable) → Seen S s → Walked S s ms) → (S s : List WorkVariable) → Seen S s → Walked S s (m ∷ ms)
    at_kind m ms (plain e g) rest S s h =
        ap (λ o. not_seen S (cons_option o (filter_map P ms))) e ∙ rest S s h
        ∙ ap (λ o. filter_map (named_as [] D) (not_seen s (cons_option o (filter_map G ms)))) (sym g)
    at_kind m ms (was_read w e g r) rest S s h =
        ap (λ o. not_seen S (cons_option o (filter_map P ms))) e ∙ seen_skips S w (filter_map P ms) (h.has_read w r) ∙ rest S s h
        ∙ ap (λ o. filter_map (named_as [] D) (not_seen s (cons_option o (filter_map G ms)))) (sym g)
    at_kind m ms (is_new x w e g n) rest S s h =
        ap (λ o. not_seen S (cons_option o (filter_map P ms))) e
        ∙ at_new S s x w ms n h (rest S s h) (rest (w ∷ S) (x ∷ s) (one_more S s x w h n))
        ∙ ap (λ o. filter_map (named_as [] D) (not_seen s (cons_option o (filter_map G ms)))) (sym g)

    walk : (ms : List M) → AllByRecursion Kind ms → (S s : List WorkVariable) → Seen S s → Walked S s ms
    walk [] k S s h = refl
    walk (m ∷ ms) k S s h = at_kind m ms k.0 (walk ms k.1) S s h

    -- the new names of all leaves are those of the leaves of which each stands once
    pub all_walked : (ms : List M) → AllByRecursion Kind ms → not_seen R (filter_map P ms) ≡ filter_map (named_as [] D) (not_seen [] (filter_map G ms))
    all_walked ms k = walk ms k R [] nothing_seen
