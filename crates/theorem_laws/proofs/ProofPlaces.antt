-- The proof of a `$p` of a text without a fault stands between its `$=` and its `$.`.
use Rattle.std.proofs.Common.{◌≡◌, ◌==◌, ◌+◌, ℕ, suc, Bool, true, false, not, cond, ◌||◌, List, [], ◌∷◌, ◌++◌, take, reverse, Option, Some, None}
use Rattle.std.proofs.Common.{option_map, IsSome, refl, sym, ap, ◌∙◌, arith, subst, inl, inr, codes}
use Rattle.std.specs.Prelude.{find}
use Rattle.std.specs.List.{AllByRecursion, list_any, prefix_len, slice_get}
use Rattle.std.specs.Option.{option_and_then, option_map_or}
use Rattle.std.specs.Str.{bytes_eq}
use Rattle.std.proofs.lemmas.Bool.{cases_Bool}
use Rattle.std.proofs.lemmas.Slice.Eq.{bytes_eq-Decides}
use Rattle.mm_model.specs.Words.{Word}
use Rattle.mm_model.specs.Tokens.{tokens}
use Rattle.mm_model.specs.Frames.{proof_in}
use Rattle.mm_model.specs.Statements.{Statement, is, is_word, is_empty, is_label_alone, ends_statement, unended, ended, body, has_keyword, in_proof, no_proof, stray_token, can_stand, statements}
use Rattle.mm_model.proofs.Lists.{ended-on, ended-end}
use Rattle.theorem_laws.specs.ProofPlaces.{ProofsStand}
use Rattle.model_laws.proofs.Checked.{rules_fail, At, IsChecked, EachBefore, found, text_checked, last_first, no_statement_fault}
use Rattle.model_laws.proofs.Shapes.{shape, at_split}

-- ---- a statement ends with its last token

pub record IsEnded (s : Statement) : Type 0 where
  pub front : List Word
  pub last : Word
  pub whole : s ≡ front ++ last ∷ []
  pub ends : ends_statement last ≡ true

all_ended : (before : List Word) → AllByRecursion IsEnded (ended before)
all_ended [] = tt
all_ended (w ∷ before) = elim (cases_Bool (ends_statement w)) [
  | inl e ↦ subst (λ (x : List Statement). AllByRecursion IsEnded x) (sym (ended-end w before e)) (record { front = unended before; last = w; whole = refl; ends = e }, all_ended before)
  | inr e ↦ subst (λ (x : List Statement). AllByRecursion IsEnded x) (sym (ended-on w before e)) (all_ended before)
]

abbrev Whole : List Statement → Statement → Type 0
Whole e s = IsChecked e s × IsEnded s

both : (e : List Statement) → EachBefore IsChecked e → AllByRecursion IsEnded e → EachBefore Whole e
both [] c n = tt
both (s ∷ e) c n = ((c.0, n.0), both e c.1 n.1)

-- ---- its keyword stands before the last token

body_word : (x : Word) (xs : List Word) → is_word x ≡ true → body (x ∷ xs) ≡ body xs
body_word x xs e = let one : 1 + prefix_len is_word xs ≡ suc (prefix_len is_word xs) = omega arith in rw (e, one) refl

body_stop : (x : Word) (xs : List Word) → is_word x ≡ false → body (x ∷ xs) ≡ x ∷ xs
body_stop x xs e = rw e refl

keyword_in_front : (k : List ℕ) (front : List Word) (w : Word) → is k w ≡ false → has_keyword k (front ++ w ∷ []) ≡ true → has_keyword k front ≡ true
keyword_in_front k [] w other h = elim (cases_Bool (is_word w)) [
  | inl e ↦ let bad : false ≡ true = sym (ap (λ (ws : List Word). list_any (is k) (take 1 ws)) (body_word w [] e)) ∙ h in absurd cc
  | inr e ↦ let bad : (is k w || false) ≡ true = sym (ap (λ (ws : List Word). list_any (is k) (take 1 ws)) (body_stop w [] e)) ∙ h in let worse : false ≡ true = rw other at bad in absurd cc
]
keyword_in_front k (x ∷ xs) w other h = elim (cases_Bool (is_word x)) [
  | inl e ↦
      ap (λ (ws : List Word). list_any (is k) (take 1 ws)) (body_word x xs e)
      ∙ keyword_in_front k xs w other (sym (ap (λ (ws : List Word). list_any (is k) (take 1 ws)) (body_word x (xs ++ w ∷ []) e)) ∙ h)
  | inr e ↦
      ap (λ (ws : List Word). list_any (is k) (take 1 ws)) (body_stop x xs e)
      ∙ (sym (ap (λ (ws : List Word). list_any (is k) (take 1 ws)) (body_stop x (xs ++ w ∷ []) e)) ∙ h)
]

-- ---- the last token is none of these

apart : (w : Word) (k : List ℕ) → ends_statement w ≡ true → list_any (bytes_eq k) (codes "$." ∷ codes "${" ∷ codes "$}" ∷ []) ≡ false → is k w ≡ false
apart w k ends none = elim (cases_Bool (is k w)) [
  | inl e ↦
      let same : w.bytes ≡ k = (bytes_eq-Decides w.bytes k).0 e in
      let bad : true ≡ false = sym ends ∙ ap (λ (bs : List ℕ). list_any (bytes_eq bs) (codes "$." ∷ codes "${" ∷ codes "$}" ∷ [])) same ∙ none in
      absurd cc
  | inr e ↦ e
]

no_word_by : (a b c : Bool) (w : Word) → bytes_eq w.bytes (codes "$.") ≡ a → bytes_eq w.bytes (codes "${") ≡ b → bytes_eq w.bytes (codes "$}") ≡ c
    → (a || (b || (c || false))) ≡ true → is_word w ≡ false
no_word_by true b c w x y z h = ap (λ (bs : List ℕ). not (list_any (λ n. n == 36) bs)) ((bytes_eq-Decides w.bytes (codes "$.")).0 x)
no_word_by false true c w x y z h = ap (λ (bs : List ℕ). not (list_any (λ n. n == 36) bs)) ((bytes_eq-Decides w.bytes (codes "${")).0 y)
no_word_by false false true w x y z h = ap (λ (bs : List ℕ). not (list_any (λ n. n == 36) bs)) ((bytes_eq-Decides w.bytes (codes "$}")).0 z)
no_word_by false false false w x y z h = absurd cc

no_word : (w : Word) → ends_statement w ≡ true → is_word w ≡ false
no_word w ends = no_word_by _ _ _ w refl refl refl ends

-- ---- what stands before it is more than a label

not_empty : (ls : List Word) (kw : Word) (rest : List Word) → is_empty (ls ++ kw ∷ rest) ≡ false
not_empty [] kw rest = refl
not_empty (l ∷ ls) kw rest = refl

not_alone : (ls : List Word) (kw : Word) (rest : List Word) → is_word kw ≡ false → is_label_alone (ls ++ kw ∷ rest) ≡ false
not_alone [] kw [] e = e
not_alone [] kw (r ∷ rest) e = refl
not_alone (l ∷ []) kw rest e = refl
not_alone (l ∷ m ∷ ls) kw rest e = refl

no_not : (b : Bool) → not b ≡ false → b ≡ true
no_not true h = refl
no_not false h = absurd cc

or_false : (b : Bool) → (b || false) ≡ true → b ≡ true
or_false true h = refl
or_false false h = absurd cc

-- ---- the two tokens are found

found_in_front : (p : Word → Bool) (xs ys : List Word) → list_any p xs ≡ true → (w : Word) × (find p (xs ++ ys) ≡ Some w)
found_in_front p [] ys h = absurd cc
found_in_front p (x ∷ xs) ys h = elim (cases_Bool (p x)) [
  | inl e ↦ (x, rw e refl)
  | inr e ↦ let more : list_any p xs ≡ true = rw e at h in let f = found_in_front p xs ys more in (f.0, rw e f.1)
]

found_at_end : (p : Word → Bool) (xs : List Word) (w : Word) → p w ≡ true → (v : Word) × (find p (xs ++ w ∷ []) ≡ Some v)
found_at_end p [] w h = (w, rw h refl)
found_at_end p (x ∷ xs) w h = elim (cases_Bool (p x)) [
  | inl e ↦ (x, rw e refl)
  | inr e ↦ let f = found_at_end p xs w h in (f.0, rw e f.1)
]

two_found : (s : Statement) (v w : Word) → find (is (codes "$=")) s ≡ Some v → find (is (codes "$.")) s ≡ Some w → IsSome (proof_in s)
two_found s v w e f = rw (e, f) refl

has_place : (e : List Statement) (s : Statement) → IsChecked e s → IsEnded s → has_keyword (codes "$p") s ≡ true → IsSome (proof_in s)
has_place e s c n h =
    let a : At e n.front n.last c.after = at_split e s n.front n.last [] c n.whole in
    let keyword : has_keyword (codes "$p") n.front ≡ true =
    keyword_in_front (codes "$p") n.front n.last (apart n.last (codes "$p") n.ends refl)
    (subst (λ (x : Statement). has_keyword (codes "$p") x ≡ true) n.whole h) in
    let sh = shape n.front (codes "$p") keyword in
    let some : is_empty n.front ≡ false = ap is_empty sh.whole ∙ not_empty sh.ls sh.kw (sh.us ++ sh.tail) in
    let more : is_label_alone n.front ≡ false = ap is_label_alone sh.whole ∙ not_alone sh.ls sh.kw (sh.us ++ sh.tail) sh.keyword_stops in
    let stray : stray_token a.before n.last c.after ≡ false = (rules_fail a.before n.last c.after a.no_rule).1.1.1.1.1.1.1.1.1.1.1.1.1.1.1.1.1.0 in
    let no : no_proof a.before n.last c.after ≡ false = (rules_fail a.before n.last c.after a.no_rule).1.1.1.1.1.1.1.1.1.1.1.1.1.1.1.1.0 in
    let stands : not (can_stand a.before n.last) ≡ false = rw (no_word n.last n.ends) at stray in
    let can : can_stand a.before n.last ≡ true = no_not (can_stand a.before n.last) stands in
    let end_or : (is (codes "$.") n.last || false) ≡ true = rw (a.unended_is, some, more, apart n.last (codes "$=") n.ends refl) at can in
    let at_end : is (codes "$.") n.last ≡ true = or_false (is (codes "$.") n.last) end_or in
    let in_front : not (in_proof n.front) ≡ false = rw (a.unended_is, at_end, keyword) at no in
    let v = found_in_front (is (codes "$=")) n.front (n.last ∷ []) (no_not (in_proof n.front) in_front) in
    let w = found_at_end (is (codes "$.")) n.front n.last at_end in
    subst (λ (x : Statement). IsSome (proof_in x)) (sym n.whole) (two_found (n.front ++ n.last ∷ []) v.0 w.0 v.1 w.1)

-- ---- by labels

at_number : (ss : List Statement) (o : Option ℕ) (at : ℕ) (s : Statement)
    → option_and_then (λ n. option_map (λ (t : Statement). let p : ℕ × Statement = (n, t) in p) (slice_get ss n)) o ≡ Some (at, s)
    → slice_get ss at ≡ Some s
at_number ss None at s e = absurd cc
at_number ss (Some n) at s e = with_statement (slice_get ss n) refl e
  where
    with_statement : (t : Option Statement) → slice_get ss n ≡ t → option_map (λ (t : Statement). let p : ℕ × Statement = (n, t) in p) t ≡ Some (at, s) → slice_get ss at ≡ Some s
    with_statement None there e = absurd cc
    with_statement (Some t) there e =
        let same_pair : Some (n, t) ≡ Some (at, s) = e in
        let number : n ≡ at = ap (λ (o : Option (ℕ × Statement)). option_map_or (λ (p : ℕ × Statement). p.0) o 0) same_pair in
        let same : t ≡ s = ap (λ (o : Option (ℕ × Statement)). option_map_or (λ (p : ℕ × Statement). p.1) o []) same_pair in
        ap (slice_get ss) (sym number) ∙ there ∙ ap (λ (x : Statement). Some x) same

pub proofs_stand : ProofsStand
proofs_stand text ok l at s there keyword =
    let e = last_first text in
    let f = found Whole e at s (both e (text_checked text (no_statement_fault text ok)) (all_ended (reverse (tokens text)))) (at_number (statements text) _ at s there) in
    let place : IsSome (proof_in s) = has_place _ s f.here.0 f.here.1 keyword in
    subst (λ (o : Option (ℕ × Statement)). IsSome (option_and_then (λ p. cond (has_keyword (codes "$p") p.1) (proof_in p.1) None) o)) (sym there) (rw keyword place)
