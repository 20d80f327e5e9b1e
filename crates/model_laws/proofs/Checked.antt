-- Each token of a text without a fault passed every rule, in the statement where it stands.
use Rattle.std.proofs.Common.{◌≡◌, ◌<◌, ◌≤◌, ℕ, zero, suc, Bool, true, false, cond, List, [], ◌∷◌, ◌++◌, length, take, reverse, Option, Some, None}
use Rattle.std.proofs.Common.{option_map, refl, sym, ap, ◌∙◌, arith, subst, append_assoc, inl, inr, nat_lt, ◌^◌}
use Rattle.std.specs.Prelude.{find}
use mathlib.Core.List.{reverse_aux}
use Rattle.std.specs.List.{AllByRecursion, slice_get}
use Rattle.std.proofs.lemmas.Bool.{cases_Bool, cases_lt}
use Rattle.std.proofs.lemmas.List.{append-nil, reverse-reverse, length-reverse, take-append-le, take_at, length-append}
use Rattle.std.proofs.lemmas.Grind.{reverse_onto}
use Rattle.std.proofs.lemmas.Option.{slice_get_within}
use Rattle.mm_model.specs.Faults.{Fault, fault, or_else, first_code_within, first_fault_within}
use Rattle.mm_model.specs.Words.{Word}
use Rattle.mm_model.specs.Tokens.{tokens, token_fault}
use Rattle.mm_model.specs.Statements.{Statement, Rule, token_rules, ended, unended, ends_statement, end_fault, statement_fault, database_fault}
use Rattle.mm_model.proofs.Lists.{ended-on, ended-end, unended-on, unended-end}
use Rattle.mm_model.specs.Frames.{below}

-- no rule of the table holds at a token
abbrev pub NoRule : List Word → Word → List Word → Type 0
NoRule before w after = first_code_within token_rules before w after ≡ None

found_none : {X : Type 0} (p : X → Bool) (x : X) (xs : List X) (b : Bool) → p x ≡ b → cond b (Some x) (find p xs) ≡ None → (p x ≡ false) × (find p xs ≡ None)
found_none p x xs true is e = absurd cc
found_none p x xs false is e = (is, e)

mapped_none : {X Y : Type 0} (f : X → Y) (o : Option X) → option_map f o ≡ None → o ≡ None
mapped_none f None e = refl
mapped_none f (Some x) e = absurd cc

-- each rule of a table fails
abbrev pub AllFail : List (ℕ × Rule) → List Word → Word → List Word → Type 0
AllFail table before w after = AllByRecursion (λ (r : ℕ × Rule). r.1 before w after ≡ false) table

all_fail : (table : List (ℕ × Rule)) (before : List Word) (w : Word) (after : List Word) → find (λ (r : ℕ × Rule). r.1 before w after) table ≡ None → AllFail table before w after
all_fail [] before w after e = tt
all_fail (r ∷ table) before w after e =
    let parts = found_none (λ (q : ℕ × Rule). q.1 before w after) r table (r.1 before w after) refl e in
    (parts.0, all_fail table before w after parts.1)

pub rules_fail : (before : List Word) (w : Word) (after : List Word) → NoRule before w after → AllFail token_rules before w after
rules_fail before w after e = all_fail token_rules before w after (mapped_none (λ (r : ℕ × Rule). r.0) (find (λ (r : ℕ × Rule). r.1 before w after) token_rules) e)

-- ---- all tokens of a text

pub or_else_none : (f g : Option Fault) → or_else f g ≡ None → (f ≡ None) × (g ≡ None)
or_else_none None g e = (refl, e)
or_else_none (Some f) g e = absurd cc

-- no rule holds at any of these tokens, the tokens before them given
abbrev Clean : List Word → List Word → Type 0
Clean before [] = Unit {0}
Clean before (w ∷ ws) = NoRule before w ws × Clean (w ∷ before) ws

clean : (before ws : List Word) → first_fault_within (λ (w : Word). w.start) token_rules before ws ≡ None → Clean before ws
clean before [] e = tt
clean before (w ∷ ws) e =
    let parts = or_else_none (option_map (λ (code : ℕ). fault w.start code) (first_code_within token_rules before w ws)) (first_fault_within (λ (v : Word). v.start) token_rules (w ∷ before) ws) e in
    (mapped_none (λ (code : ℕ). fault w.start code) (first_code_within token_rules before w ws) parts.0, clean (w ∷ before) ws parts.1)

-- the same of the tokens before a place, the tokens behind it given
abbrev Cleaned : List Word → List Word → Type 0
Cleaned [] after = Unit {0}
Cleaned (w ∷ before) after = NoRule before w after × Cleaned before (w ∷ after)

cleaned : (ws before : List Word) → Cleaned before ws → Clean before ws → Cleaned (reverse_aux ws before) []
cleaned [] before h k = h
cleaned (w ∷ ws) before h k = cleaned ws (w ∷ before) (k.0, h) k.1

-- ---- by statements

-- the token stands behind this front of its statement, and passed every rule
pub record At (e : List Statement) (front : List Word) (w : Word) (after : List Word) : Type 0 where
  pub before : List Word
  pub ended_is : ended before ≡ e
  pub unended_is : unended before ≡ front
  pub no_rule : NoRule before w after

-- so does each token of the rest of the statement
abbrev pub Looked : List Statement → List Word → List Word → List Word → Type 0
Looked e front [] after = Unit {0}
Looked e front (w ∷ rest) after = At e front w (rest ++ after) × Looked e (front ++ w ∷ []) rest after

looked-push : (e : List Statement) (front rest : List Word) (w : Word) (after : List Word) → Looked e front rest (w ∷ after) → At e (front ++ rest) w after → Looked e front (rest ++ w ∷ []) after
looked-push e front [] w after h at = (subst (λ f. At e f w after) (append-nil front) at, tt)
looked-push e front (x ∷ rest) w after h at = (
  subst (λ a. At e front x a) (sym (append_assoc rest (w ∷ []) after)) h.0,
  looked-push e (front ++ x ∷ []) rest w after h.1 (subst (λ f. At e f w after) (sym (append_assoc front (x ∷ []) rest)) at),
)

-- a statement whose tokens passed every rule, behind these statements, the nearest first
pub record IsChecked (e : List Statement) (s : Statement) : Type 0 where
  pub after : List Word
  pub looked : Looked e [] s after

-- a fact of each statement, by the statements before it
abbrev pub EachBefore : (List Statement → Statement → Type 0) → List Statement → Type 0
EachBefore P [] = Unit {0}
EachBefore P (s ∷ e) = P e s × EachBefore P e

pub record Split (before after : List Word) : Type 0 where
  pub checked : EachBefore IsChecked (ended before)
  pub looked : Looked (ended before) [] (unended before) after

split_on : (w : Word) (before after : List Word) → NoRule before w after → Split before (w ∷ after) → Split (w ∷ before) after
split_on w before after h s =
    let whole : Looked (ended before) [] (unended before ++ w ∷ []) after =
    looked-push (ended before) [] (unended before) w after s.looked (record { before = before; ended_is = refl; unended_is = refl; no_rule = h }) in
    elim (cases_Bool (ends_statement w)) [
      | inl e ↦ record {
        checked = subst (λ x. EachBefore IsChecked x) (sym (ended-end w before e)) (record { after = after; looked = whole }, s.checked);
        looked = subst (λ x. Looked (ended (w ∷ before)) [] x after) (sym (unended-end w before e)) tt;
      }
      | inr e ↦ record {
        checked = subst (λ x. EachBefore IsChecked x) (sym (ended-on w before e)) s.checked;
        looked = subst (λ x. Looked x [] (unended (w ∷ before)) after) (sym (ended-on w before e)) (subst (λ x. Looked (ended before) [] x after) (sym (unended-on w before e)) whole);
      }
    ]

splits : (before after : List Word) → Cleaned before after → Split before after
splits [] after h = record { checked = tt; looked = tt }
splits (w ∷ before) after h = split_on w before after h.0 (splits before (w ∷ after) h.1)

-- the statements of a text, the last first
abbrev pub last_first : List ℕ → List Statement
last_first text = ended (reverse (tokens text))

-- each statement of a text without a fault passed every rule
pub text_checked : (text : List ℕ) → statement_fault text ≡ None → EachBefore IsChecked (last_first text)
text_checked text e =
    let parts = or_else_none (first_fault_within (λ (w : Word). w.start) token_rules [] (tokens text)) (end_fault (length text) (reverse (tokens text))) e in
    (splits (reverse (tokens text)) [] (cleaned (tokens text) [] tt (clean [] (tokens text) parts.0))).checked

-- ---- a statement by its number

pub reverse-cons : {X : Type 0} (x : X) (xs : List X) → reverse (x ∷ xs) ≡ reverse xs ++ x ∷ []
reverse-cons x xs = reverse_onto xs x []

slice_get-left : {X : Type 0} (xs ys : List X) (k : ℕ) → k < length xs → slice_get (xs ++ ys) k ≡ slice_get xs k
slice_get-left [] ys k h = let bad : ⊥ = omega (arith, h) in absurd bad
slice_get-left (x ∷ xs) ys zero h = refl
slice_get-left (x ∷ xs) ys (suc k) h = slice_get-left xs ys k (omega (arith, h))

slice_get-last : {X : Type 0} (xs : List X) (x y : X) (k : ℕ) → length xs ≡ k → slice_get (xs ++ x ∷ []) k ≡ Some y → x ≡ y
slice_get-last [] x y zero h e = cc
slice_get-last [] x y (suc k) h e = let bad : ⊥ = omega (arith, h) in absurd bad
slice_get-last (z ∷ xs) x y zero h e = let bad : ⊥ = omega (arith, h) in absurd bad
slice_get-last (z ∷ xs) x y (suc k) h e = slice_get-last xs x y k (omega (arith, h)) e

pub record Found (P : List Statement → Statement → Type 0) (e : List Statement) (at : ℕ) (s : Statement) : Type 0 where
  pub here : P (below (reverse e) at) s
  pub before : EachBefore P (below (reverse e) at)

-- the statement with this number, and those below its place
pub found : (P : List Statement → Statement → Type 0) (e : List Statement) (at : ℕ) (s : Statement) → EachBefore P e → slice_get (reverse e) at ≡ Some s → Found P e at s
found P [] at s h is = absurd cc
found P (t ∷ e) at s h is =
    let turned = reverse-cons t e in
    let there : slice_get (reverse e ++ t ∷ []) at ≡ Some s = subst (λ x. slice_get x at ≡ Some s) turned is in
    elim (cases_lt at (length e)) [
      | inl l ↦
          let within : at < length (reverse e) = omega (arith, l, length-reverse e) in
          let f = found P e at s h.1 (sym (slice_get-left (reverse e) (t ∷ []) at within) ∙ there) in
          let same : below (reverse e) at ≡ below (reverse (t ∷ e)) at =
          ap (λ x. reverse x) (sym (take-append-le at (reverse e) (t ∷ []) (omega (arith, within))) ∙ ap (λ x. take at x) (sym turned)) in
          record { here = subst (λ b. P b s) same f.here; before = subst (λ b. EachBefore P b) same f.before }
      | inr l ↦
          let within = slice_get_within (reverse e ++ t ∷ []) at s there in
          let last : length (reverse e) ≡ at = grow (reverse e) t at within (omega (arith, l, length-reverse e)) in
          let is_t : t ≡ s = slice_get-last (reverse e) t s at last there in
          let same : e ≡ below (reverse (t ∷ e)) at =
          sym (reverse-reverse e) ∙ ap (λ x. reverse x) (sym (take_at (reverse e) (t ∷ []) at last) ∙ ap (λ x. take at x) (sym turned)) in
          record { here = subst (λ b. P b s) same (subst (λ x. P e x) is_t h.0); before = subst (λ b. EachBefore P b) same h.1 }
    ]
  where
    grow : (xs : List Statement) (t : Statement) (k : ℕ) → k < length (xs ++ t ∷ []) → length xs ≤ k → length xs ≡ k
    grow xs t k h l = omega (arith, h, l, length-append xs (t ∷ []))

-- ---- the first fault of a text

later : (b : Bool) (f : Fault) (o : Option Fault) → cond b (Some f) o ≡ None → o ≡ None
later true f o e = absurd cc
later false f o e = e

pub no_statement_fault : (text : List ℕ) → database_fault text ≡ None → statement_fault text ≡ None
no_statement_fault text e =
    let small = later (nat_lt (2 ^ 28) (length text)) (fault (2 ^ 28) 30) (or_else (token_fault text) (statement_fault text)) e in
    (or_else_none (token_fault text) (statement_fault text) small).1
