-- Reading from word to word gives the tokens, or the first fault by the table.
use Rattle.std.proofs.Common.{◌≡◌, ℕ, Bool, true, false, cond, not, ◌||◌, List, [], ◌∷◌, length, Option, Some, None, Result, Ok, Err, option_map, refl, sym, ap, ◌∙◌, subst, map, inl, inr, codes}
use mathlib.Core.List.{reverse_aux}
use Rattle.std.proofs.lemmas.Bool.{cases_Bool, or_parts}
use Rattle.std.proofs.lemmas.Slice.Eq.{bytes_eq-Decides}
use Rattle.mm_model.specs.Faults.{Fault, fault, or_else, first_code, first_fault}
use Rattle.mm_model.specs.Words.{Word, word, words}
use Rattle.mm_model.specs.Tokens.{is_open_comment, is_close_comment, is_bad_keyword, in_comment, word_rules, bad_keyword, tokens_where, words_fault, tokens}
use Rattle.mm_tokens.specs.declared.token.Token.{Token}
use Rattle.mm_tokens.specs.Scan.{with_front, read_words, FailsWith}
use Rattle.mm_tokens.specs.Tokens.{token_of, IsFault}
use Rattle.mm_tokens.specs.declared.token.TokenFault.{TokenFault}
use Rattle.mm_tokens.specs.declared.token.TokenFault.TheVariants as faults

-- the tokens, unless there is a fault
abbrev pub outcome : Option Fault → List Token → Result (List Token) Fault
outcome None ts = Ok ts
outcome (Some f) ts = Err f

-- the first fault of the words from here on, or that the text ends in a comment
abbrev pub fault_from : ℕ → List Word → List Word → Option Fault
fault_from len before ws = or_else (first_fault (λ before w. w.start) word_rules before ws) (cond (in_comment (reverse_aux ws before)) (Some (fault len 2)) None)

outcome-front : (t : Token) (f : Option Fault) (ts : List Token) → with_front (t ∷ []) (outcome f ts) ≡ outcome f (t ∷ ts)
outcome-front t None ts = refl
outcome-front t (Some f) ts = refl

comment_goes_on : (w : Word) (before : List Word) → is_open_comment w ≡ false → in_comment before ≡ true → in_comment (w ∷ before) ≡ not (is_close_comment w)
comment_goes_on w before marks h = rw marks (rw h (elim (is_close_comment w) as (λ k. cond k false true ≡ not k) [ true ↦ refl | false ↦ refl ]))

opens_no_fault : (w : Word) → is_open_comment w ≡ true → (is_close_comment w || is_bad_keyword w) ≡ false
opens_no_fault w marks =
    let is : w.bytes ≡ codes "$(" = (bytes_eq-Decides w.bytes (codes "$(")).0 marks in
    subst (λ (bytes : List ℕ). (is_close_comment (word w.start bytes) || is_bad_keyword (word w.start bytes)) ≡ false) (sym is) refl

cond_then : {X : Type 0} (b : Bool) (x y : X) → b ≡ true → cond b x y ≡ x
cond_then true x y e = refl
cond_then false x y e = absurd cc

cond_else : {X : Type 0} (b : Bool) (x y : X) → b ≡ false → cond b x y ≡ y
cond_else true x y e = absurd cc
cond_else false x y e = refl

-- which rule holds outside a comment
code_outside : (before : List Word) (w : Word) → in_comment before ≡ false → first_code word_rules before w ≡ cond (is_close_comment w || is_bad_keyword w) (Some 4) None
code_outside before w h =
    rw h
    (elim (is_close_comment w || is_bad_keyword w) as
    (λ t. option_map (λ (r : ℕ × (List Word → Word → Bool)). r.0) (cond t (Some (4, bad_keyword)) None)
    ≡ cond t (Some 4) None) [ true ↦ refl | false ↦ refl ])

code_inside : (before : List Word) (w : Word) → in_comment before ≡ true → is_open_comment w ≡ false → first_code word_rules before w ≡ None
code_inside before w h e = rw (h, e) refl

-- where no rule holds at a word, the fault is a later one
fault_later : (len : ℕ) (before : List Word) (w : Word) (ws : List Word) → first_code word_rules before w ≡ None → fault_from len before (w ∷ ws) ≡ fault_from len (w ∷ before) ws
fault_later len before w ws e =
    ap (λ (o : Option ℕ). or_else (or_else (option_map (λ code. fault w.start code) o) (first_fault (λ b v. v.start) word_rules (w ∷ before) ws))
    (cond (in_comment (reverse_aux ws (w ∷ before))) (Some (fault len 2)) None)) e

fault_here : (len : ℕ) (before : List Word) (w : Word) (ws : List Word) (code : ℕ) → first_code word_rules before w ≡ Some code → fault_from len before (w ∷ ws) ≡ Some (fault w.start code)
fault_here len before w ws code e =
    ap (λ (o : Option ℕ). or_else (or_else (option_map (λ code. fault w.start code) o) (first_fault (λ b v. v.start) word_rules (w ∷ before) ws))
    (cond (in_comment (reverse_aux ws (w ∷ before))) (Some (fault len 2)) None)) e

pub read_words-law : (c : Bool) (len : ℕ) (before ws : List Word) → in_comment before ≡ c → read_words c len ws ≡ outcome (fault_from len before ws) (map token_of (tokens_where c ws))
read_words-law true len before [] h = rw h refl
read_words-law false len before [] h = rw h refl
read_words-law true len before (w ∷ ws) h =
    elim (cases_Bool (is_open_comment w)) [
      | inl e ↦ rw (h, e) refl
      | inr e ↦
          cond_else (is_open_comment w) (Err (fault w.start 3)) (read_words (not (is_close_comment w)) len ws) e
          ∙ read_words-law (not (is_close_comment w)) len (w ∷ before) ws (comment_goes_on w before e h)
          ∙ ap (λ (f : Option Fault). outcome f (map token_of (tokens_where (not (is_close_comment w)) ws))) (sym (fault_later len before w ws (code_inside before w h e)))
    ]
read_words-law false len before (w ∷ ws) h =
    let bad = is_close_comment w || is_bad_keyword w in
    let read = with_front (token_of w ∷ []) (read_words false len ws) in
    let on = cond bad (Err (fault w.start 4)) read in
    elim (cases_Bool (is_open_comment w)) [
      | inl e ↦
          let none : first_code word_rules before w ≡ None = code_outside before w h ∙ cond_else bad (Some 4) None (opens_no_fault w e) in
          let kept : tokens_where false (w ∷ ws) ≡ tokens_where true ws = cond_then (is_open_comment w) (tokens_where true ws) (w ∷ tokens_where false ws) e in
          let inside : in_comment (w ∷ before) ≡ true = rw e refl in
          cond_then (is_open_comment w) (read_words true len ws) on e
          ∙ read_words-law true len (w ∷ before) ws inside
          ∙ ap (λ (f : Option Fault). outcome f (map token_of (tokens_where true ws))) (sym (fault_later len before w ws none))
          ∙ ap (λ (ts : List Word). outcome (fault_from len before (w ∷ ws)) (map token_of ts)) (sym kept)
      | inr e ↦
          let kept : tokens_where false (w ∷ ws) ≡ w ∷ tokens_where false ws = cond_else (is_open_comment w) (tokens_where true ws) (w ∷ tokens_where false ws) e in
          let start = cond_else (is_open_comment w) (read_words true len ws) on e in
          elim (cases_Bool bad) [
            | inl b ↦
                let four : first_code word_rules before w ≡ Some 4 = code_outside before w h ∙ cond_then bad (Some 4) None b in
                start ∙ cond_then bad (Err (fault w.start 4)) read b
                ∙ ap (λ (f : Option Fault). outcome f (map token_of (tokens_where false (w ∷ ws)))) (sym (fault_here len before w ws 4 four))
            | inr b ↦
                let none : first_code word_rules before w ≡ None = code_outside before w h ∙ cond_else bad (Some 4) None b in
                let k : is_close_comment w ≡ false = (or_parts (is_close_comment w) (is_bad_keyword w) b).0 in
                let outside : in_comment (w ∷ before) ≡ false =
                cond_else (is_open_comment w) true (cond (is_close_comment w) false (in_comment before)) e
                ∙ cond_else (is_close_comment w) false (in_comment before) k ∙ h in
                start ∙ cond_else bad (Err (fault w.start 4)) read b
                ∙ ap (λ (r : Result (List Token) Fault). with_front (token_of w ∷ []) r) (read_words-law false len (w ∷ before) ws outside)
                ∙ outcome-front (token_of w) (fault_from len (w ∷ before) ws) (map token_of (tokens_where false ws))
                ∙ ap (λ (f : Option Fault). outcome f (token_of w ∷ map token_of (tokens_where false ws))) (sym (fault_later len before w ws none))
                ∙ ap (λ (ts : List Word). outcome (fault_from len before (w ∷ ws)) (map token_of ts)) (sym kept)
          ]
    ]

-- the whole text
ok_is : (f : Option Fault) (ts us : List Token) → outcome f ts ≡ Ok us → (f ≡ None) × (us ≡ ts)
ok_is None ts us e = (refl, cc)
ok_is (Some f) ts us e = absurd cc

err_is : (f : Option Fault) (g : Fault) (ts : List Token) → outcome f ts ≡ Err g → f ≡ Some g
err_is None g ts e = absurd cc
err_is (Some f) g ts e = cc

whole : (text : List ℕ) → read_words false (length text) (words text) ≡ outcome (words_fault text) (map token_of (tokens text))
whole text = read_words-law false (length text) [] (words text) refl

pub tokens_read : (text : List ℕ) (us : List Token) → read_words false (length text) (words text) ≡ Ok us → (words_fault text ≡ None) × (us ≡ map token_of (tokens text))
tokens_read text us e = ok_is (words_fault text) (map token_of (tokens text)) us (sym (whole text) ∙ e)

pub fault_read : (text : List ℕ) (e : TokenFault) → FailsWith e (read_words false (length text) (words text)) → IsFault e (words_fault text)
fault_read text faults.Memory h = tt
fault_read text (faults.BadByte at) h = err_is (words_fault text) (fault at 1) (map token_of (tokens text)) (sym (whole text) ∙ h)
fault_read text (faults.OpenComment at) h = err_is (words_fault text) (fault at 2) (map token_of (tokens text)) (sym (whole text) ∙ h)
fault_read text (faults.CommentInComment at) h = err_is (words_fault text) (fault at 3) (map token_of (tokens text)) (sym (whole text) ∙ h)
fault_read text (faults.BadKeyword at) h = err_is (words_fault text) (fault at 4) (map token_of (tokens text)) (sym (whole text) ∙ h)
