-- Each `$f` of a text without a fault has two symbols.
use Rattle.std.specs.Prelude.{◌≡◌, ◌≤◌, ◌+◌, ◌==◌, ◌&&◌, ◌||◌, ℕ, suc, Bool, true, false, not, List, [], ◌∷◌, ◌++◌, length, drop, take, map, nat_lt, codes, refl}
use Rattle.std.specs.List.{AllByRecursion, list_any, take_while, prefix_len}
use Rattle.std.specs.Str.{bytes_eq}
use Rattle.std.proofs.Common.{sym, ap, subst, ◌∙◌, cond, arith, inl, inr}
use Rattle.std.proofs.lemmas.Bool.{cases_Bool, or_parts, or_cases, and_parts, both_ways, ltb-false}
use Rattle.std.proofs.lemmas.List.{append_assoc}
use Rattle.mm_model.specs.Names.{Name}
use Rattle.mm_model.specs.Words.{Word}
use Rattle.mm_model.specs.Statements.{Statement, is, is_one_of, is_word, is_empty, is_label_alone, unended, ended, ends_statement, body, has_keyword, symbols_in}
use Rattle.mm_model.specs.Statements.{in_proof, bad_hypothesis, can_stand, labelled, rank}
use Rattle.mm_model.proofs.Lists.{ended-on, ended-end}
use Rattle.model_laws.proofs.Checked.{rules_fail, At, IsChecked}
use Rattle.model_laws.proofs.Listed.{same_names}
use Rattle.model_laws.proofs.Shapes.{Stops, parts, taken-front, at_split}

-- ---- a statement ends with its last token

pub record IsEnded (s : Statement) : Type 0 where
  pub front : List Word
  pub last : Word
  pub whole : s ≡ front ++ last ∷ []
  pub ends : ends_statement last ≡ true

pub all_ended : (ws : List Word) → AllByRecursion IsEnded (ended ws)
all_ended [] = tt
all_ended (w ∷ before) = elim (cases_Bool (ends_statement w)) [
  | inl e ↦ subst (AllByRecursion IsEnded) (sym (ended-end w before e)) (record { front = unended before; last = w; whole = refl; ends = e }, all_ended before)
  | inr e ↦ subst (AllByRecursion IsEnded) (sym (ended-on w before e)) (all_ended before)
]

-- what ends a statement is no word
no_word : (w : Word) → ends_statement w ≡ true → is_word w ≡ false
no_word w e = elim (or_cases (is (codes "$.") w) (is_one_of (codes "${" ∷ codes "$}" ∷ []) w) e) [
  | inl d ↦ by (codes "$.") refl d
  | inr r ↦ elim (or_cases (is (codes "${") w) (is_one_of (codes "$}" ∷ []) w) r) [
    | inl d ↦ by (codes "${") refl d
    | inr q ↦ elim (or_cases (is (codes "$}") w) false q) [ inl d ↦ by (codes "$}") refl d | inr b ↦ let bad : false ≡ true = b in absurd cc ]
  ]
]
  where
    by : (k : List ℕ) → not (list_any (λ b. b == 36) k) ≡ false → is k w ≡ true → is_word w ≡ false
    by k none d = ap (λ (bs : List ℕ). not (list_any (λ b. b == 36) bs)) (same_names w.bytes k d) ∙ none

-- ---- the body of a statement

body_behind : (ls rest : List Word) → AllByRecursion (λ w. is_word w ≡ true) ls → Stops is_word rest → body (ls ++ rest) ≡ rest
body_behind [] [] a s = refl
body_behind [] (w ∷ rest) a s = ap (λ (b : Bool). drop (cond b (1 + prefix_len is_word rest) 0) (w ∷ rest)) s
body_behind (l ∷ ls) rest a s =
    let one : 1 + prefix_len is_word (ls ++ rest) ≡ suc (prefix_len is_word (ls ++ rest)) = omega arith in
    ap (λ (b : Bool). drop (cond b (1 + prefix_len is_word (ls ++ rest)) 0) (l ∷ (ls ++ rest))) a.0
    ∙ ap (λ (n : ℕ). drop n (l ∷ (ls ++ rest))) one ∙ body_behind ls rest a.1 s

keyword_of : (k : List ℕ) (s : Statement) (kw : Word) (more : List Word) → body s ≡ kw ∷ more → has_keyword k s ≡ (is k kw || false)
keyword_of k s kw more e = ap (λ (ws : List Word). list_any (is k) (take 1 ws)) e

symbols_of : (s : Statement) (kw : Word) (us tail : List Word) → body s ≡ kw ∷ (us ++ tail) → AllByRecursion (λ w. is_word w ≡ true) us → Stops is_word tail
    → symbols_in s ≡ map (λ (w : Word). w.bytes) us
symbols_of s kw us tail e a stop =
    ap (λ (ws : List Word). map (λ (w : Word). w.bytes) (take_while is_word (drop 1 ws))) e ∙ ap (map (λ (w : Word). w.bytes)) (taken-front is_word us tail a stop)

not_alone : (ls more : List Word) (kw : Word) → is_word kw ≡ false → is_label_alone (ls ++ kw ∷ more) ≡ false
not_alone [] [] kw n = n
not_alone [] (m ∷ more) kw n = refl
not_alone (l ∷ []) more kw n = refl
not_alone (l ∷ k ∷ ls) more kw n = refl

not_empty : (ls more : List Word) (kw : Word) → is_empty (ls ++ kw ∷ more) ≡ false
not_empty [] more kw = refl
not_empty (l ∷ ls) more kw = refl

other_ends : (k : List ℕ) (w : Word) → is k w ≡ true → list_any (λ j. bytes_eq k j) (codes "$." ∷ codes "${" ∷ codes "$}" ∷ []) ≡ false → ends_statement w ≡ false
other_ends k w d e = ap (λ (bs : List ℕ). list_any (bytes_eq bs) (codes "$." ∷ codes "${" ∷ codes "$}" ∷ [])) (same_names w.bytes k d) ∙ e

-- ---- a `$f`

module _ (e : List Statement) (s : Statement) (checked : IsChecked e s) (float : has_keyword (codes "$f") s ≡ true) (ended_ : IsEnded s) where
  abbrev front : List Word
  front = ended_.front

  abbrev w : Word
  w = ended_.last

  at : At e front w ([] ++ checked.after)
  at = at_split e s front w [] checked ended_.whole

  -- its front has come to the keyword
  record HasKeyword : Type 0 where
    ls : List Word
    kw : Word
    us : List Word
    tail : List Word
    stands : front ≡ ls ++ kw ∷ (us ++ tail)
    words : AllByRecursion (λ x. is_word x ≡ true) ls
    no_word_kw : is_word kw ≡ false
    symbols : AllByRecursion (λ x. is_word x ≡ true) us
    stop : Stops is_word tail

  front_by : (ls rest : List Word) → front ≡ ls ++ rest → AllByRecursion (λ x. is_word x ≡ true) ls → Stops is_word rest → HasKeyword
  front_by ls [] f a stop =
      let whole : s ≡ ls ++ w ∷ [] = ended_.whole ∙ ap (λ xs. xs ++ w ∷ []) (f ∙ no_end ls) in
      let keyword : (is (codes "$f") w || false) ≡ true = sym (keyword_of (codes "$f") s w [] (ap body whole ∙ body_behind ls (w ∷ []) a (no_word w ended_.ends))) ∙ float in
      elim (or_cases (is (codes "$f") w) false keyword) [
        | inl d ↦ absurd (both_ways (ends_statement w) (other_ends (codes "$f") w d refl) ended_.ends)
        | inr d ↦ let bad : false ≡ true = d in absurd cc
      ]
    where
      no_end : (xs : List Word) → xs ++ [] ≡ xs
      no_end [] = refl
      no_end (x ∷ xs) = ap (λ ys. x ∷ ys) (no_end xs)
  front_by ls (kw ∷ more) f a stop =
      let p = parts is_word more in
      record { ls = ls; kw = kw; us = p.front; tail = p.rest; stands = f ∙ ap (λ xs. ls ++ kw ∷ xs) p.whole; words = a; no_word_kw = stop; symbols = p.pass; stop = p.stop }

  has_keyword_front : HasKeyword
  has_keyword_front = let p = parts is_word front in front_by p.front p.rest p.whole p.pass p.stop

  module _ (k : HasKeyword) where
    front_body : body front ≡ k.kw ∷ (k.us ++ k.tail)
    front_body = ap body k.stands ∙ body_behind k.ls (k.kw ∷ (k.us ++ k.tail)) k.words k.no_word_kw

    whole_is : s ≡ k.ls ++ k.kw ∷ (k.us ++ (k.tail ++ w ∷ []))
    whole_is =
        ended_.whole ∙ ap (λ xs. xs ++ w ∷ []) k.stands ∙ append_assoc k.ls (k.kw ∷ (k.us ++ k.tail)) (w ∷ [])
        ∙ ap (λ xs. k.ls ++ k.kw ∷ xs) (append_assoc k.us k.tail (w ∷ []))

    whole_body : body s ≡ k.kw ∷ (k.us ++ (k.tail ++ w ∷ []))
    whole_body = ap body whole_is ∙ body_behind k.ls (k.kw ∷ (k.us ++ (k.tail ++ w ∷ []))) k.words k.no_word_kw

    stops : (tail : List Word) → Stops is_word tail → Stops is_word (tail ++ w ∷ [])
    stops [] n = no_word w ended_.ends
    stops (t ∷ tail) n = n

    same_symbols : symbols_in s ≡ symbols_in front
    same_symbols =
        symbols_of s k.kw k.us (k.tail ++ w ∷ []) whole_body k.symbols (stops k.tail k.stop) ∙ sym (symbols_of front k.kw k.us k.tail front_body k.symbols k.stop)

    same_keyword : (j : List ℕ) → has_keyword j s ≡ has_keyword j front
    same_keyword j = keyword_of j s k.kw (k.us ++ (k.tail ++ w ∷ [])) whole_body ∙ sym (keyword_of j front k.kw (k.us ++ k.tail) front_body)

    float_front : has_keyword (codes "$f") front ≡ true
    float_front = sym (same_keyword (codes "$f")) ∙ float

    no_proof_front : has_keyword (codes "$p") front ≡ false
    no_proof_front = elim (or_cases (is (codes "$f") k.kw) false (sym (keyword_of (codes "$f") front k.kw (k.us ++ k.tail) front_body) ∙ float_front)) [
      | inl d ↦ keyword_of (codes "$p") front k.kw (k.us ++ k.tail) front_body ∙ ap (λ (bs : List ℕ). bytes_eq bs (codes "$p") || false) (same_names k.kw.bytes (codes "$f") d)
      | inr d ↦ let bad : false ≡ true = d in absurd cc
    ]

    -- the last token can stand there, so it is `$.`
    stands_there : can_stand at.before w ≡ true
    stands_there =
        let stray : (not (is_word w) && not (can_stand at.before w)) ≡ false = (rules_fail at.before w ([] ++ checked.after) at.no_rule).1.1.1.1.1.1.1.1.1.1.1.1.1.1.1.1.1.0 in
        go (can_stand at.before w) (subst (λ (b : Bool). (not b && not (can_stand at.before w)) ≡ false) (no_word w ended_.ends) stray)
      where
        go : (b : Bool) → not b ≡ false → b ≡ true
        go true i = refl
        go false i = absurd cc

    is_end : is (codes "$.") w ≡ true
    is_end =
        let there = subst
        (λ (f : Statement). cond (is_empty f) (is_one_of (codes "$c" ∷ codes "$v" ∷ codes "$d" ∷ codes "${" ∷ codes "$}" ∷ []) w)
        (cond (is_label_alone f) (is_one_of labelled w) (is (codes "$.") w || (is (codes "$=") w && has_keyword (codes "$p") f && not (in_proof f)))) ≡ true) at.unended_is stands_there in
        go (is_empty front) (is_label_alone front) (has_keyword (codes "$p") front) (ap is_empty k.stands ∙ not_empty k.ls (k.us ++ k.tail) k.kw)
        (ap is_label_alone k.stands ∙ not_alone k.ls (k.us ++ k.tail) k.kw k.no_word_kw) no_proof_front there
      where
        go : (a b p : Bool) → a ≡ false → b ≡ false → p ≡ false
            → cond a (is_one_of (codes "$c" ∷ codes "$v" ∷ codes "$d" ∷ codes "${" ∷ codes "$}" ∷ []) w)
            (cond b (is_one_of labelled w) (is (codes "$.") w || (is (codes "$=") w && p && not (in_proof front)))) ≡ true
            → is (codes "$.") w ≡ true
        go true b p i j l h = absurd cc
        go false true p i j l h = absurd cc
        go false false true i j l h = absurd cc
        go false false false i j l h = elim (or_cases (is (codes "$.") w) (is (codes "$=") w && false && not (in_proof front)) h) [
          | inl d ↦ d
          | inr d ↦ let bad : false ≡ true = (and_parts (is (codes "$=") w) false (and_parts (is (codes "$=") w && false) (not (in_proof front)) d).0).1 in absurd cc
        ]

    two_or_more : 2 ≤ length (symbols_in s)
    two_or_more =
        let fail : bad_hypothesis at.before w ([] ++ checked.after) ≡ false = (rules_fail at.before w ([] ++ checked.after) at.no_rule).1.1.1.1.1.1.1.1.1.1.1.1.1.1.1.0 in
        let one : (is (codes "$.") w && has_keyword (codes "$f") (unended at.before) && nat_lt (rank at.before) 2) ≡ false = (or_parts _ _ fail).0 in
        let here : (is (codes "$.") w && has_keyword (codes "$f") front && nat_lt (length (symbols_in front)) 2) ≡ false =
        subst (λ (f : Statement). (is (codes "$.") w && has_keyword (codes "$f") f && nat_lt (length (symbols_in f)) 2) ≡ false) at.unended_is one in
        let long : nat_lt (length (symbols_in front)) 2 ≡ false = go (is (codes "$.") w) (has_keyword (codes "$f") front) is_end float_front here in
        subst (λ (ns : List Name). 2 ≤ length ns) (sym same_symbols) (ltb-false (length (symbols_in front)) 2 long)
      where
        go : (a b : Bool) → a ≡ true → b ≡ true → (a && b && nat_lt (length (symbols_in front)) 2) ≡ false → nat_lt (length (symbols_in front)) 2 ≡ false
        go true true i j h = h
        go true false i j h = absurd cc
        go false b i j h = absurd cc

  pub has_two : 2 ≤ length (symbols_in s)
  has_two = two_or_more has_keyword_front
