-- The statements of a text from its front.
use Rattle.std.proofs.Common.{◌≡◌, ℕ, true, false, append-nil, List, [], ◌∷◌, ◌++◌, cond, reverse, sym, ap, ◌∙◌, append_assoc, inl, inr}
use mathlib.Core.List.{reverse_aux}
use Rattle.std.proofs.lemmas.Bool.{cases_Bool}
use Rattle.mm_model.specs.Words.{Word}
use Rattle.mm_model.specs.Tokens.{tokens}
use Rattle.mm_model.specs.Statements.{Statement, ends_statement, ended, unended, statements}
use Rattle.mm_model.proofs.Lists.{ended-on, ended-end, unended-on, unended-end}
use Rattle.mm_model.proofs.Scopes.{cond_then, cond_else}
use Rattle.model_laws.proofs.Checked.{reverse-cons}

-- the statements that end among these tokens, where the first goes on from some tokens
abbrev pub split : Statement → List Word → List Statement
split front [] = []
split front (w ∷ ws) = cond (ends_statement w) ((front ++ w ∷ []) ∷ split [] ws) (split (front ++ w ∷ []) ws)

pub split-end : (front : Statement) (w : Word) (ws : List Word) → ends_statement w ≡ true → split front (w ∷ ws) ≡ (front ++ w ∷ []) ∷ split [] ws
split-end front w ws e = cond_then (ends_statement w) ((front ++ w ∷ []) ∷ split [] ws) (split (front ++ w ∷ []) ws) e

pub split-on : (front : Statement) (w : Word) (ws : List Word) → ends_statement w ≡ false → split front (w ∷ ws) ≡ split (front ++ w ∷ []) ws
split-on front w ws e = cond_else (ends_statement w) ((front ++ w ∷ []) ∷ split [] ws) (split (front ++ w ∷ []) ws) e

-- those before, and then those that end here
pub ended_forward : (ws before : List Word) → reverse (ended (reverse_aux ws before)) ≡ reverse (ended before) ++ split (unended before) ws
ended_forward [] before = sym (append-nil (reverse (ended before)))
ended_forward (w ∷ ws) before = elim (cases_Bool (ends_statement w)) [
  | inl e ↦
      ended_forward ws (w ∷ before)
      ∙ ap (λ (ss : List Statement). reverse ss ++ split (unended (w ∷ before)) ws) (ended-end w before e)
      ∙ ap (λ (s : Statement). reverse ((unended before ++ w ∷ []) ∷ ended before) ++ split s ws) (unended-end w before e)
      ∙ ap (λ (ss : List Statement). ss ++ split [] ws) (reverse-cons (unended before ++ w ∷ []) (ended before))
      ∙ append_assoc (reverse (ended before)) ((unended before ++ w ∷ []) ∷ []) (split [] ws)
      ∙ ap (λ (ss : List Statement). reverse (ended before) ++ ss) (sym (split-end (unended before) w ws e))
  | inr e ↦
      ended_forward ws (w ∷ before)
      ∙ ap (λ (ss : List Statement). reverse ss ++ split (unended (w ∷ before)) ws) (ended-on w before e)
      ∙ ap (λ (s : Statement). reverse (ended before) ++ split s ws) (unended-on w before e)
      ∙ ap (λ (ss : List Statement). reverse (ended before) ++ ss) (sym (split-on (unended before) w ws e))
]

-- the statements of a text are those that end among its tokens
pub statements_forward : (text : List ℕ) → statements text ≡ split [] (tokens text)
statements_forward text = ended_forward (tokens text) []
