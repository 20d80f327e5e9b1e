-- No constant is the empty name.
use Rattle.std.proofs.Common.{◌≡◌, ℕ, zero, suc, false, ◌||◌, List, [], ◌∷◌, ◌++◌, take, drop, map, flat_map, reverse, refl, sym, ap, ◌∙◌, subst, inl, inr, codes}
use Rattle.std.specs.List.{prefix_len}
use Rattle.std.specs.Str.{bytes_eq}
use Rattle.std.proofs.lemmas.Bool.{cases_Bool}
use Rattle.std.proofs.lemmas.List.{reverse-append}
use Rattle.std.proofs.lemmas.List.Folds.{list_any-append}
use Rattle.mm_model.specs.Words.{Word}
use Rattle.mm_model.specs.Names.{contains}
use Rattle.mm_model.specs.Tokens.{tokens}
use Rattle.mm_model.specs.Statements.{Statement, is_word, ends_statement, unended, ended, statements, has_keyword, with_keyword, symbols_in, body, constants}
use Rattle.mm_model.specs.Frames.{below}
use Rattle.mm_model.proofs.Lists.{ended-on, ended-end, unended-on, unended-end}
use Rattle.mm_frames.proofs.TokenFacts.{Stands, Each, tokens-stand}

module _ {X : Type 0} (P : X → Type 0) where
  abbrev pub Every : List X → Type 0
  Every [] = Unit {0}
  Every (x ∷ xs) = P x × Every xs

  every-append : (xs ys : List X) → Every xs → Every ys → Every (xs ++ ys)
  every-append [] ys h k = k
  every-append (x ∷ xs) ys h k = (h.0, every-append xs ys h.1 k)

  every-reverse : (xs : List X) → Every xs → Every (reverse xs)
  every-reverse [] h = tt
  every-reverse (x ∷ xs) h = subst Every (sym (reverse-append (x ∷ []) xs)) (every-append (reverse xs) (x ∷ []) (every-reverse xs h.1) (h.0, tt))

  every-take : (k : ℕ) (xs : List X) → Every xs → Every (take k xs)
  every-take zero xs h = tt
  every-take (suc k) [] h = tt
  every-take (suc k) (x ∷ xs) h = (h.0, every-take k xs h.1)

  every-drop : (k : ℕ) (xs : List X) → Every xs → Every (drop k xs)
  every-drop zero xs h = h
  every-drop (suc k) [] h = tt
  every-drop (suc k) (x ∷ xs) h = every-drop k xs h.1

-- a word with a byte
abbrev IsFilled : Word → Type 0
IsFilled w = (first : ℕ) × (rest : List ℕ) × (w.bytes ≡ first ∷ rest)

filled : (text : List ℕ) (ws : List Word) → Each (Stands text) ws → Every IsFilled ws
filled text [] h = tt
filled text (w ∷ ws) h = ((h.0.first, h.0.rest, h.0.not_empty), filled text ws h.1)

record Parts (before : List Word) : Type 0 where
  pub last : Every IsFilled (unended before)
  pub all : Every (Every IsFilled) (ended before)

parts : (before : List Word) → Every IsFilled before → Parts before
parts [] h = record { last = tt; all = tt }
parts (w ∷ before) h =
    let p = parts before h.1 in
    let whole : Every IsFilled (unended before ++ w ∷ []) = every-append IsFilled (unended before) (w ∷ []) p.last (h.0, tt) in
    elim (cases_Bool (ends_statement w)) [
      | inl e ↦ record {
        last = subst (Every IsFilled) (sym (unended-end w before e)) tt;
        all = subst (Every (Every IsFilled)) (sym (ended-end w before e)) (whole, p.all);
      }
      | inr e ↦ record {
        last = subst (Every IsFilled) (sym (unended-on w before e)) whole;
        all = subst (Every (Every IsFilled)) (sym (ended-on w before e)) p.all;
      }
    ]

no-empty-word : (ws : List Word) → Every IsFilled ws → contains (map (λ (w : Word). w.bytes) ws) [] ≡ false
no-empty-word [] h = refl
no-empty-word (w ∷ ws) h = ap (λ (n : List ℕ). bytes_eq [] n || contains (map (λ (v : Word). v.bytes) ws) []) h.0.2 ∙ no-empty-word ws h.1

no-empty-symbol : (s : Statement) → Every IsFilled s → contains (symbols_in s) [] ≡ false
no-empty-symbol s h =
    let later = drop 1 (body s) in
    no-empty-word (take (prefix_len is_word later) later) (every-take IsFilled (prefix_len is_word later) later (every-drop IsFilled 1 (body s) (every-drop IsFilled (prefix_len is_word s) s h)))

no-empty-constant : (ss : List Statement) → Every (Every IsFilled) ss → contains (constants ss) [] ≡ false
no-empty-constant [] h = refl
no-empty-constant (s ∷ ss) h =
    let later = no-empty-constant ss h.1 in
    elim (cases_Bool (has_keyword (codes "$c") s)) [
      | inl k ↦ rw k (list_any-append (bytes_eq []) (symbols_in s) (flat_map symbols_in (with_keyword (codes "$c") ss)) ∙ ap (λ b. b || contains (constants ss) []) (no-empty-symbol s h.0) ∙ later)
      | inr k ↦ rw k later
    ]

pub no-empty : (text : List ℕ) (place : ℕ) → contains (constants (below (statements text) place)) [] ≡ false
no-empty text place =
    let turned = every-reverse IsFilled (tokens text) (filled text (tokens text) (tokens-stand text)) in
    let all = every-reverse (Every IsFilled) (ended (reverse (tokens text))) (parts (reverse (tokens text)) turned).all in
    no-empty-constant (below (statements text) place) (every-reverse (Every IsFilled) (take place (statements text)) (every-take (Every IsFilled) place (statements text) all))
