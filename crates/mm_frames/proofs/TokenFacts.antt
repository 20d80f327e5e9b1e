-- The tokens of a text without a fault: their kinds, and where they stand.
use Rattle.std.proofs.Common.{◌≡◌, ℕ, suc, ◌+◌, ◌-◌, ◌≤◌, Bool, true, false, cond, not, ◌||◌, ◌&&◌, eqb, List, [], ◌∷◌, ◌++◌, length, take, drop}
use Rattle.std.proofs.Common.{Option, None, Some, refl, sym, ap, ◌∙◌, subst, codes, arith, inl, inr, append_assoc, option_map, slice_range, unwrap_or}
use Rattle.std.specs.List.{list_any}
use Rattle.std.specs.Str.{bytes_eq}
use Rattle.std.proofs.lemmas.Bool.{cases_Bool, or_parts}
use Rattle.std.proofs.lemmas.Bool.Decides.{nat_tests}
use Rattle.std.proofs.lemmas.Slice.Eq.{bytes_eq-Decides}
use Rattle.mm_model.specs.Faults.{Fault, fault, or_else, earlier, first_code, first_fault}
use Rattle.mm_model.specs.Words.{Word, word, words, words_from, put_before, is_white}
use Rattle.mm_model.specs.Tokens.{keywords, is_open_comment, is_close_comment, is_bad_keyword, in_comment, word_rules, bad_keyword}
use Rattle.mm_model.specs.Tokens.{comment_in_comment, tokens_where, tokens, bad_byte, words_fault, token_fault}
use Rattle.mm_tokens.specs.declared.token.TokenKind.TheVariants as token
use Rattle.mm_tokens.specs.Kinds.{keyword_kind}
use Rattle.mm_model.proofs.Scopes.{cond_then, cond_else}
use Rattle.mm_frames.proofs.SoFar.{IsName, IsKind}

-- a word stands in the text
pub record Stands (text : List ℕ) (w : Word) : Type 0 where
  pub front : List ℕ
  pub behind : List ℕ
  pub split : text ≡ front ++ (w.bytes ++ behind)
  pub starts : w.start ≡ length front
  pub first : ℕ
  pub rest : List ℕ
  pub not_empty : w.bytes ≡ first ∷ rest

abbrev pub Each : (Word → Type 0) → List Word → Type 0
Each P [] = Unit {0}
Each P (w ∷ ws) = P w × Each P ws

-- two splits at one length are one
front-same : (xs ys us vs : List ℕ) → length xs ≡ length us → xs ++ ys ≡ us ++ vs → (xs ≡ us) × (ys ≡ vs)
front-same [] ys [] vs h e = (refl, e)
front-same [] ys (u ∷ us) vs h e = let bad : ⊥ = omega arith in absurd bad
front-same (x ∷ xs) ys [] vs h e = let bad : ⊥ = omega arith in absurd bad
front-same (x ∷ xs) ys (u ∷ us) vs h e =
    let tails : xs ++ ys ≡ us ++ vs = cc in
    let heads : x ≡ u = cc in
    let deeper = front-same xs ys us vs (omega arith) tails in
    let is : xs ≡ us = deeper.0 in
    (cc, deeper.1)

length-end : (xs : List ℕ) (x : ℕ) → length (xs ++ x ∷ []) ≡ suc (length xs)
length-end [] x = refl
length-end (y ∷ xs) x = ap (λ (n : ℕ). suc n) (length-end xs x)

put-stands : (text front bs : List ℕ) (b : ℕ) (ws : List Word) → text ≡ front ++ (b ∷ bs) → Each (Stands text) ws → Each (Stands text) (put_before (length front) b ws)
put-stands text front bs b [] e h = (record { front = front; behind = bs; split = e; starts = refl; first = b; rest = []; not_empty = refl }, tt)
put-stands text front bs b (w ∷ ws) e h =
    elim (cases_Bool (eqb w.start (suc (length front)))) [
      | inl q ↦
          let s = h.0 in
          let at : length s.front ≡ length (front ++ b ∷ []) = grind (arith, nat_tests, s.starts, length-end front b) in
          let both : s.front ++ (w.bytes ++ s.behind) ≡ (front ++ b ∷ []) ++ bs = sym s.split ∙ e ∙ sym (append_assoc front (b ∷ []) bs) in
          let same = front-same s.front (w.bytes ++ s.behind) (front ++ b ∷ []) bs at both in
          let there : Stands text (word (length front) (b ∷ w.bytes)) =
          record {
            front = front;
            behind = s.behind;
            split = e ∙ ap (λ l. front ++ b ∷ l) (sym same.1);
            starts = refl;
            first = b;
            rest = w.bytes;
            not_empty = refl;
          } in
          let all : Each (Stands text) (word (length front) (b ∷ w.bytes) ∷ ws) = (there, h.1) in
          subst (λ l. Each (Stands text) l) (sym (cond_then (eqb w.start (suc (length front))) (word (length front) (b ∷ w.bytes) ∷ ws) (word (length front) (b ∷ []) ∷ w ∷ ws) q)) all
      | inr q ↦
          let there : Stands text (word (length front) (b ∷ [])) = record { front = front; behind = bs; split = e; starts = refl; first = b; rest = []; not_empty = refl } in
          let all : Each (Stands text) (word (length front) (b ∷ []) ∷ w ∷ ws) = (there, h) in
          subst (λ l. Each (Stands text) l) (sym (cond_else (eqb w.start (suc (length front))) (word (length front) (b ∷ w.bytes) ∷ ws) (word (length front) (b ∷ []) ∷ w ∷ ws) q)) all
    ]

words-stand : (text front bs : List ℕ) → text ≡ front ++ bs → Each (Stands text) (words_from (length front) bs)
words-stand text front [] e = tt
words-stand text front (b ∷ bs) e =
    let there : text ≡ (front ++ b ∷ []) ++ bs = e ∙ sym (append_assoc front (b ∷ []) bs) in
    let later : Each (Stands text) (words_from (suc (length front)) bs) = subst (λ (n : ℕ). Each (Stands text) (words_from n bs)) (length-end front b) (words-stand text (front ++ b ∷ []) bs there) in
    elim (cases_Bool (is_white b)) [
      | inl q ↦ subst (λ l. Each (Stands text) l) (sym (cond_then (is_white b) (words_from (suc (length front)) bs) (put_before (length front) b (words_from (suc (length front)) bs)) q)) later
      | inr q ↦ subst (λ l. Each (Stands text) l)
          (sym (cond_else (is_white b) (words_from (suc (length front)) bs) (put_before (length front) b (words_from (suc (length front)) bs)) q))
          (put-stands text front bs b (words_from (suc (length front)) bs) e later)
    ]

-- how long it reaches, and its bytes
drop-front : (xs ys : List ℕ) → drop (length xs) (xs ++ ys) ≡ ys
drop-front [] ys = refl
drop-front (x ∷ xs) ys = drop-front xs ys

take-front : (xs ys : List ℕ) → take (length xs) (xs ++ ys) ≡ xs
take-front [] ys = refl
take-front (x ∷ xs) ys = ap (λ l. x ∷ l) (take-front xs ys)

length-both : (xs ys : List ℕ) → length (xs ++ ys) ≡ length xs + length ys
length-both [] ys = omega arith
length-both (x ∷ xs) ys = let e = length-both xs ys in omega (arith, e)

pub stands-within : (text : List ℕ) (w : Word) → Stands text w → w.start + length w.bytes ≤ length text
stands-within text w s =
    let a : length text ≡ length s.front + length (w.bytes ++ s.behind) = ap (λ l. length l) s.split ∙ length-both s.front (w.bytes ++ s.behind) in
    let b = length-both w.bytes s.behind in
    let c = s.starts in
    omega (arith, a, b, c)

pub stands-bytes : (text : List ℕ) (w : Word) → Stands text w → slice_range text w.start (w.start + length w.bytes) ≡ w.bytes
stands-bytes text w s =
    let n : w.start + length w.bytes - w.start ≡ length w.bytes = omega arith in
    ap (λ (k : ℕ). take k (drop w.start text)) n
    ∙ ap (λ l. take (length w.bytes) (drop w.start l)) s.split
    ∙ ap (λ (k : ℕ). take (length w.bytes) (drop k (s.front ++ (w.bytes ++ s.behind)))) s.starts
    ∙ ap (λ l. take (length w.bytes) l) (drop-front s.front (w.bytes ++ s.behind))
    ∙ take-front w.bytes s.behind

-- ---- tokens are words

tokens-where : (P : Word → Type 0) (c : Bool) (ws : List Word) → Each P ws → Each P (tokens_where c ws)
tokens-where P c [] h = tt
tokens-where P true (w ∷ ws) h = tokens-where P (not (is_close_comment w)) ws h.1
tokens-where P false (w ∷ ws) h =
    elim (is_open_comment w) as (λ b. Each P (cond b (tokens_where true ws) (w ∷ tokens_where false ws))) [ true ↦ tokens-where P true ws h.1 | false ↦ (h.0, tokens-where P false ws h.1) ]

pub tokens-stand : (text : List ℕ) → Each (Stands text) (tokens text)
tokens-stand text = tokens-where (Stands text) false (words text) (words-stand text [] text refl)

-- no more tokens than bytes
put-length : (at b : ℕ) (ws : List Word) → length (put_before at b ws) ≤ suc (length ws)
put-length at b [] = omega arith
put-length at b (w ∷ ws) =
    elim (eqb w.start (suc at)) as
    (λ t. length (cond t (word at (b ∷ w.bytes) ∷ ws) (word at (b ∷ []) ∷ w ∷ ws))
    ≤ suc (suc (length ws))) [ true ↦ omega arith | false ↦ omega arith ]

words-length : (at : ℕ) (bs : List ℕ) → length (words_from at bs) ≤ length bs
words-length at [] = omega arith
words-length at (b ∷ bs) =
    let later = words-length (suc at) bs in
    let put = put-length at b (words_from (suc at) bs) in
    elim (is_white b) as
    (λ t. length (cond t (words_from (suc at) bs) (put_before at b (words_from (suc at) bs)))
    ≤ suc (length bs)) [ true ↦ omega (arith, later) | false ↦ omega (arith, later, put) ]

where-length : (c : Bool) (ws : List Word) → length (tokens_where c ws) ≤ length ws
where-length c [] = omega arith
where-length true (w ∷ ws) = let e = where-length (not (is_close_comment w)) ws in omega (arith, e)
where-length false (w ∷ ws) =
    let a = where-length true ws in
    let b = where-length false ws in
    elim (is_open_comment w) as (λ t. length (cond t (tokens_where true ws) (w ∷ tokens_where false ws)) ≤ suc (length ws)) [ true ↦ omega (arith, a) | false ↦ omega (arith, b) ]

pub tokens-length : (text : List ℕ) → length (tokens text) ≤ length text
tokens-length text = let a = where-length false (words text) in let b = words-length 0 text in omega (arith, a, b)

-- ---- kinds

-- neither a mark of a comment nor a bad keyword
pub record IsGood (w : Word) : Type 0 where
  pub no_open : is_open_comment w ≡ false
  pub no_close : is_close_comment w ≡ false
  pub no_bad : is_bad_keyword w ≡ false

none-left : (a b : Option Fault) → or_else a b ≡ None → (a ≡ None) × (b ≡ None)
none-left None b h = (refl, h)
none-left (Some f) b h = absurd (clash h)
  where
    clash : Some f ≡ None → ⊥
    clash e = cc

rules-none : (before : List Word) (w : Word) → option_map (λ code. fault w.start code) (first_code word_rules before w) ≡ None → (comment_in_comment before w ≡ false) × (bad_keyword before w ≡ false)
rules-none before w h = go (comment_in_comment before w) (bad_keyword before w) h
  where
    go : (a b : Bool)
        → option_map (λ code. fault w.start code)
        (option_map (λ (r : ℕ × (List Word → Word → Bool)). r.0) (cond a (Some (3, comment_in_comment)) (cond b (Some (4, bad_keyword)) None)))
        ≡ None
        → (a ≡ false) × (b ≡ false)
    go true b h = absurd (clash h)
      where
        clash : Some (fault w.start 3) ≡ None → ⊥
        clash e = cc
    go false true h = absurd (clash h)
      where
        clash : Some (fault w.start 4) ≡ None → ⊥
        clash e = cc
    go false false h = (refl, refl)

good-tokens : (c : Bool) (before ws : List Word) → in_comment before ≡ c → first_fault (λ before w. w.start) word_rules before ws ≡ None → Each IsGood (tokens_where c ws)
good-tokens c before [] i h = tt
good-tokens true before (w ∷ ws) i h =
    let parts = none-left (option_map (λ code. fault w.start code) (first_code word_rules before w)) (first_fault (λ before w. w.start) word_rules (w ∷ before) ws) h in
    let rules = rules-none before w parts.0 in
    let no_open : is_open_comment w ≡ false = rw i at rules.0 in
    good-tokens (not (is_close_comment w)) (w ∷ before) ws (goes-inside w before no_open i) parts.1
  where
    goes-inside : (w : Word) (before : List Word) → is_open_comment w ≡ false → in_comment before ≡ true → in_comment (w ∷ before) ≡ not (is_close_comment w)
    goes-inside w before o i = rw (o, i) (elim (is_close_comment w) as (λ k. cond k false true ≡ not k) [ true ↦ refl | false ↦ refl ])
good-tokens false before (w ∷ ws) i h =
    let parts = none-left (option_map (λ code. fault w.start code) (first_code word_rules before w)) (first_fault (λ before w. w.start) word_rules (w ∷ before) ws) h in
    let rules = rules-none before w parts.0 in
    let bad : (is_close_comment w || is_bad_keyword w) ≡ false = rw i at rules.1 in
    let both = or_parts (is_close_comment w) (is_bad_keyword w) bad in
    elim (cases_Bool (is_open_comment w)) [
      | inl q ↦ subst (λ l. Each IsGood l) (sym (cond_then (is_open_comment w) (tokens_where true ws) (w ∷ tokens_where false ws) q))
          (good-tokens true (w ∷ before) ws (cond_then (is_open_comment w) true (cond (is_close_comment w) false (in_comment before)) q) parts.1)
      | inr q ↦
          let outside : in_comment (w ∷ before) ≡ false =
          cond_else (is_open_comment w) true (cond (is_close_comment w) false (in_comment before)) q
          ∙ cond_else (is_close_comment w) false (in_comment before) both.0 ∙ i in
          let good : IsGood w = record { no_open = q; no_close = both.0; no_bad = both.1 } in
          let all : Each IsGood (w ∷ tokens_where false ws) = (good, good-tokens false (w ∷ before) ws outside parts.1) in
          subst (λ l. Each IsGood l) (sym (cond_else (is_open_comment w) (tokens_where true ws) (w ∷ tokens_where false ws) q)) all
    ]

no-words-fault : (a b : Option Fault) → earlier a b ≡ None → b ≡ None
no-words-fault None b h = h
no-words-fault (Some f) None h = refl
no-words-fault (Some f) (Some g) h = absurd (go (Rattle.mm_model.specs.Faults.comes_first f g) h)
  where
    go : (t : Bool) → cond t (Some f) (Some g) ≡ None → ⊥
    go true e = cc
    go false e = cc

pub tokens-good : (text : List ℕ) → token_fault text ≡ None → Each IsGood (tokens text)
tokens-good text h =
    good-tokens false [] (words text) refl
    (none-left (first_fault (λ before w. w.start) word_rules [] (words text)) (Rattle.mm_model.specs.Tokens.open_comment text)
    (no-words-fault (bad_byte text) (words_fault text) h)).0

and-left : (a : Bool) → (a && true) ≡ false → a ≡ false
and-left true h = absurd (clash h)
  where
    clash : true ≡ false → ⊥
    clash e = cc
and-left false h = refl

-- the kind of a word's bytes
kind-is : (n : List ℕ) (first : ℕ) (rest : List ℕ) → n ≡ first ∷ rest → bytes_eq n (codes "$(") ≡ false → bytes_eq n (codes "$)") ≡ false
    → (list_any (λ b. eqb b 36) n && not (list_any (bytes_eq n) keywords)) ≡ false → IsKind (unwrap_or (keyword_kind n) token.Word) n
kind-is n first rest e o c bad =
    elim (cases_Bool (bytes_eq n (codes "$c"))) [
      | inl q ↦ rw (q) ((bytes_eq-Decides n (codes "$c")).0 q)
      | inr h0 ↦
          elim (cases_Bool (bytes_eq n (codes "$v"))) [
            | inl q ↦ rw (h0, q) ((bytes_eq-Decides n (codes "$v")).0 q)
            | inr h1 ↦
                elim (cases_Bool (bytes_eq n (codes "$d"))) [
                  | inl q ↦ rw (h0, h1, q) ((bytes_eq-Decides n (codes "$d")).0 q)
                  | inr h2 ↦
                      elim (cases_Bool (bytes_eq n (codes "$f"))) [
                        | inl q ↦ rw (h0, h1, h2, q) ((bytes_eq-Decides n (codes "$f")).0 q)
                        | inr h3 ↦
                            elim (cases_Bool (bytes_eq n (codes "$e"))) [
                              | inl q ↦ rw (h0, h1, h2, h3, q) ((bytes_eq-Decides n (codes "$e")).0 q)
                              | inr h4 ↦
                                  elim (cases_Bool (bytes_eq n (codes "$a"))) [
                                    | inl q ↦ rw (h0, h1, h2, h3, h4, q) ((bytes_eq-Decides n (codes "$a")).0 q)
                                    | inr h5 ↦
                                        elim (cases_Bool (bytes_eq n (codes "$p"))) [
                                          | inl q ↦ rw (h0, h1, h2, h3, h4, h5, q) ((bytes_eq-Decides n (codes "$p")).0 q)
                                          | inr h6 ↦
                                              elim (cases_Bool (bytes_eq n (codes "$="))) [
                                                | inl q ↦ rw (h0, h1, h2, h3, h4, h5, h6, q) ((bytes_eq-Decides n (codes "$=")).0 q)
                                                | inr h7 ↦
                                                    elim (cases_Bool (bytes_eq n (codes "$."))) [
                                                      | inl q ↦ rw (h0, h1, h2, h3, h4, h5, h6, h7, q) ((bytes_eq-Decides n (codes "$.")).0 q)
                                                      | inr h8 ↦
                                                          elim (cases_Bool (bytes_eq n (codes "${"))) [
                                                            | inl q ↦ rw (h0, h1, h2, h3, h4, h5, h6, h7, h8, q) ((bytes_eq-Decides n (codes "${")).0 q)
                                                            | inr h9 ↦
                                                                elim (cases_Bool (bytes_eq n (codes "$}"))) [
                                                                  | inl q ↦ rw (h0, h1, h2, h3, h4, h5, h6, h7, h8, h9, q) ((bytes_eq-Decides n (codes "$}")).0 q)
                                                                  | inr h10 ↦
                                                                      elim (cases_Bool (bytes_eq n (codes "$["))) [
                                                                        | inl q ↦ rw (h0, h1, h2, h3, h4, h5, h6, h7, h8, h9, h10, o, c, q) ((bytes_eq-Decides n (codes "$[")).0 q)
                                                                        | inr h13 ↦
                                                                            elim (cases_Bool (bytes_eq n (codes "$]"))) [
                                                                              | inl q ↦ rw (h0, h1, h2, h3, h4, h5, h6, h7, h8, h9, h10, o, c, h13, q) ((bytes_eq-Decides n (codes "$]")).0 q)
                                                                              | inr h14 ↦
                                                                                  let none : list_any (λ b. eqb b 36) n ≡ false =
                                                                                  and-left (list_any (λ b. eqb b 36) n)
                                                                                  (rw (
                                                                                    h0,
                                                                                    h1,
                                                                                    h2,
                                                                                    h3,
                                                                                    h4,
                                                                                    h5,
                                                                                    h6,
                                                                                    h7,
                                                                                    h8,
                                                                                    h9,
                                                                                    h10,
                                                                                    o,
                                                                                    c,
                                                                                    h13,
                                                                                    h14,
                                                                                  ) at bad) in
                                                                                  let here : list_any (λ b. eqb b 36) (first ∷ rest) ≡ false = ap (λ l. list_any (λ b. eqb b 36) l) (sym e) ∙ none in
                                                                                  let parts = or_parts (eqb first 36) (list_any (λ b. eqb b 36) rest) here in
                                                                                  let name : IsName n = record { first = first; rest = rest; eq = e; no_dollar = parts.0; none_behind = parts.1 } in
                                                                                  rw (h0, h1, h2, h3, h4, h5, h6, h7, h8, h9, h10, o, c, h13, h14) name
                                                                            ]
                                                                      ]
                                                                ]
                                                          ]
                                                    ]
                                              ]
                                        ]
                                  ]
                            ]
                      ]
                ]
          ]
    ]

pub token-kind : (text : List ℕ) (w : Word) → Stands text w → IsGood w → IsKind (unwrap_or (keyword_kind w.bytes) token.Word) w.bytes
token-kind text w s g = kind-is w.bytes s.first s.rest s.not_empty g.no_open g.no_close g.no_bad
