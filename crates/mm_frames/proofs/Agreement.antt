-- The reader's codes at a keyword are those of the definitions.
use Rattle.std.proofs.Common.{◌≡◌, ℕ, Bool, true, false, cond, not, List, [], ◌∷◌, length, take, map, Option, None, Some, refl, sym, ap, ◌∙◌, subst, codes, nat_lt, arith}
use Rattle.std.specs.List.{list_any}
use Rattle.std.proofs.lemmas.Bool.Decides.{nat_tests}
use Rattle.mm_base.specs.declared.symbols.Sym.{Sym}
use Rattle.mm_model.specs.Words.{Word, word}
use Rattle.mm_model.specs.Statements.{is_one_of, is_empty, labelled, ended, unended, path}
use Rattle.mm_tokens.specs.declared.token.TokenKind.{TokenKind}
use Rattle.mm_tokens.specs.declared.token.TokenKind.TheVariants as token
use Rattle.mm_frames.specs.declared.reader.Reader.{Reader}
use Rattle.mm_frames.specs.declared.reader.Stage.{Stage}
use Rattle.mm_frames.specs.declared.reader.Stage.TheVariants as stage
use Rattle.frame_lists.specs.declared.entry.StatementKind.TheVariants as kind
use Rattle.mm_frames.specs.declared.scopes.Scope.{Scope}
use Rattle.mm_frames.specs.Kinds.{is_extra}
use Rattle.mm_frames.specs.Reading.{word_code, between_code_at, labelled_code_at, equals_code_at, end_code_at, close_code_at, step_code}
use Rattle.mm_frames.proofs.Numbers.{name_of}
use Rattle.mm_frames.proofs.Shapes.{IsOpen}
use Rattle.mm_frames.proofs.SoFar.{keyword, IsKind, formula_names, listed_names, StageIs, IsReader}
use Rattle.mm_frames.proofs.Codes
use Rattle.mm_frames.proofs.Agrees.{word-agrees, outside}

abbrev code : ℕ → Option ℕ
code n = Some n

-- ---- keywords

pub constants-agrees : (before : List Word) (at : ℕ) (after : List Word) (r : Reader) (s : Stage) (empty : Bool)
    → is_empty (path (ended before)) ≡ empty → StageIs (unended before) (word at (codes "$c") ∷ after) r s
    → Codes.code_at before (word at (codes "$c")) after ≡ cond (not empty) (code 11) (between_code_at s r)
constants-agrees before at after r stage.Between true p h = Codes.constants-between before at after true h.0 p
constants-agrees before at after r stage.Between false p h = Codes.constants-between before at after false h.0 p
constants-agrees before at after r stage.Labelled empty p h = absurd (clash h.0.next)
  where
    clash : true ≡ false → ⊥
    clash e = cc
constants-agrees before at after r (stage.Symbols k) true p h = Codes.constants-begun before at after (keyword k) true h.begun p
constants-agrees before at after r (stage.Symbols k) false p h = Codes.constants-begun before at after (keyword k) false h.begun p
constants-agrees before at after r (stage.Proof from) true p h = Codes.constants-begun before at after (codes "$p") true h.begun p
constants-agrees before at after r (stage.Proof from) false p h = Codes.constants-begun before at after (codes "$p") false h.begun p

pub variables-keyword-agrees : (before : List Word) (at : ℕ) (after : List Word) (r : Reader) (s : Stage)
    → StageIs (unended before) (word at (codes "$v") ∷ after) r s → Codes.code_at before (word at (codes "$v")) after ≡ between_code_at s r
variables-keyword-agrees before at after r stage.Between h = Codes.variables-between before at after h.0
variables-keyword-agrees before at after r stage.Labelled h = absurd (clash h.0.next)
  where
    clash : true ≡ false → ⊥
    clash e = cc
variables-keyword-agrees before at after r (stage.Symbols k) h = Codes.variables-begun before at after (keyword k) h.begun
variables-keyword-agrees before at after r (stage.Proof from) h = Codes.variables-begun before at after (codes "$p") h.begun

pub distinct-keyword-agrees : (before : List Word) (at : ℕ) (after : List Word) (r : Reader) (s : Stage)
    → StageIs (unended before) (word at (codes "$d") ∷ after) r s → Codes.code_at before (word at (codes "$d")) after ≡ between_code_at s r
distinct-keyword-agrees before at after r stage.Between h = Codes.distinct-between before at after h.0
distinct-keyword-agrees before at after r stage.Labelled h = absurd (clash h.0.next)
  where
    clash : true ≡ false → ⊥
    clash e = cc
distinct-keyword-agrees before at after r (stage.Symbols k) h = Codes.distinct-begun before at after (keyword k) h.begun
distinct-keyword-agrees before at after r (stage.Proof from) h = Codes.distinct-begun before at after (codes "$p") h.begun

pub floating-keyword-agrees : (before : List Word) (at : ℕ) (after : List Word) (r : Reader) (s : Stage)
    → StageIs (unended before) (word at (codes "$f") ∷ after) r s → Codes.code_at before (word at (codes "$f")) after ≡ labelled_code_at s r
floating-keyword-agrees before at after r stage.Between h = Codes.floating-between before at after h.0
floating-keyword-agrees before at after r stage.Labelled h = Codes.floating-labelled before at after h.0.label h.0.is h.0.is_name
floating-keyword-agrees before at after r (stage.Symbols k) h = Codes.floating-begun before at after (keyword k) h.begun
floating-keyword-agrees before at after r (stage.Proof from) h = Codes.floating-begun before at after (codes "$p") h.begun

pub essential-keyword-agrees : (before : List Word) (at : ℕ) (after : List Word) (r : Reader) (s : Stage)
    → StageIs (unended before) (word at (codes "$e") ∷ after) r s → Codes.code_at before (word at (codes "$e")) after ≡ labelled_code_at s r
essential-keyword-agrees before at after r stage.Between h = Codes.essential-between before at after h.0
essential-keyword-agrees before at after r stage.Labelled h = Codes.essential-labelled before at after h.0.label h.0.is h.0.is_name
essential-keyword-agrees before at after r (stage.Symbols k) h = Codes.essential-begun before at after (keyword k) h.begun
essential-keyword-agrees before at after r (stage.Proof from) h = Codes.essential-begun before at after (codes "$p") h.begun

pub axiom-keyword-agrees : (before : List Word) (at : ℕ) (after : List Word) (r : Reader) (s : Stage)
    → StageIs (unended before) (word at (codes "$a") ∷ after) r s → Codes.code_at before (word at (codes "$a")) after ≡ labelled_code_at s r
axiom-keyword-agrees before at after r stage.Between h = Codes.axiom-between before at after h.0
axiom-keyword-agrees before at after r stage.Labelled h = Codes.axiom-labelled before at after h.0.label h.0.is h.0.is_name
axiom-keyword-agrees before at after r (stage.Symbols k) h = Codes.axiom-begun before at after (keyword k) h.begun
axiom-keyword-agrees before at after r (stage.Proof from) h = Codes.axiom-begun before at after (codes "$p") h.begun

pub provable-keyword-agrees : (before : List Word) (at : ℕ) (after : List Word) (r : Reader) (s : Stage)
    → StageIs (unended before) (word at (codes "$p") ∷ after) r s → Codes.code_at before (word at (codes "$p")) after ≡ labelled_code_at s r
provable-keyword-agrees before at after r stage.Between h = Codes.provable-between before at after h.0
provable-keyword-agrees before at after r stage.Labelled h = Codes.provable-labelled before at after h.0.label h.0.is h.0.is_name
provable-keyword-agrees before at after r (stage.Symbols k) h = Codes.provable-begun before at after (keyword k) h.begun
provable-keyword-agrees before at after r (stage.Proof from) h = Codes.provable-begun before at after (codes "$p") h.begun

constant-equals-agrees : (before : List Word) (at : ℕ) (after : List Word) (r : Reader) (names : Sym → List ℕ) (fs : List Sym) → fs ≡ r.formula
    → IsOpen (unended before) (codes "$c") (map names fs)
    → Codes.code_at before (word at (codes "$=")) after ≡ cond (is_empty r.formula) (code 26) (code 29)
constant-equals-agrees before at after r names [] q o = Codes.constant-equals-empty before at after o ∙ ap (λ (f : List Sym). cond (is_empty f) (code 26) (code 29)) q
constant-equals-agrees before at after r names (s ∷ fs) q o = Codes.constant-equals before at after (names s) (map names fs) o ∙ ap (λ (f : List Sym). cond (is_empty f) (code 26) (code 29)) q

constant-end-agrees : (before : List Word) (at : ℕ) (after : List Word) (r : Reader) (names : Sym → List ℕ) (fs : List Sym) → fs ≡ r.formula
    → IsOpen (unended before) (codes "$c") (map names fs)
    → Codes.code_at before (word at (codes "$.")) after ≡ cond (is_empty r.formula) (code 26) None
constant-end-agrees before at after r names [] q o = Codes.constant-end-empty before at after o ∙ ap (λ (f : List Sym). cond (is_empty f) (code 26) None) q
constant-end-agrees before at after r names (s ∷ fs) q o = Codes.constant-end before at after (names s) (map names fs) o ∙ ap (λ (f : List Sym). cond (is_empty f) (code 26) None) q

variable-equals-agrees : (before : List Word) (at : ℕ) (after : List Word) (r : Reader) (names : Sym → List ℕ) (fs : List Sym) → fs ≡ r.formula
    → IsOpen (unended before) (codes "$v") (map names fs)
    → Codes.code_at before (word at (codes "$=")) after ≡ cond (is_empty r.formula) (code 26) (code 29)
variable-equals-agrees before at after r names [] q o = Codes.variable-equals-empty before at after o ∙ ap (λ (f : List Sym). cond (is_empty f) (code 26) (code 29)) q
variable-equals-agrees before at after r names (s ∷ fs) q o = Codes.variable-equals before at after (names s) (map names fs) o ∙ ap (λ (f : List Sym). cond (is_empty f) (code 26) (code 29)) q

variable-end-agrees : (before : List Word) (at : ℕ) (after : List Word) (r : Reader) (names : Sym → List ℕ) (fs : List Sym) → fs ≡ r.formula
    → IsOpen (unended before) (codes "$v") (map names fs)
    → Codes.code_at before (word at (codes "$.")) after ≡ cond (is_empty r.formula) (code 26) None
variable-end-agrees before at after r names [] q o = Codes.variable-end-empty before at after o ∙ ap (λ (f : List Sym). cond (is_empty f) (code 26) None) q
variable-end-agrees before at after r names (s ∷ fs) q o = Codes.variable-end before at after (names s) (map names fs) o ∙ ap (λ (f : List Sym). cond (is_empty f) (code 26) None) q

essential-equals-agrees : (before : List Word) (at : ℕ) (after : List Word) (r : Reader) (names : Sym → List ℕ) (fs : List Sym) → fs ≡ r.formula
    → IsOpen (unended before) (codes "$e") (map names fs)
    → Codes.code_at before (word at (codes "$=")) after ≡ cond (is_empty r.formula) (code 26) (code 29)
essential-equals-agrees before at after r names [] q o = Codes.essential-equals-empty before at after o ∙ ap (λ (f : List Sym). cond (is_empty f) (code 26) (code 29)) q
essential-equals-agrees before at after r names (s ∷ fs) q o = Codes.essential-equals before at after (names s) (map names fs) o ∙ ap (λ (f : List Sym). cond (is_empty f) (code 26) (code 29)) q

essential-end-agrees : (before : List Word) (at : ℕ) (after : List Word) (r : Reader) (names : Sym → List ℕ) (fs : List Sym) → fs ≡ r.formula
    → IsOpen (unended before) (codes "$e") (map names fs)
    → Codes.code_at before (word at (codes "$.")) after ≡ cond (is_empty r.formula) (code 26) None
essential-end-agrees before at after r names [] q o = Codes.essential-end-empty before at after o ∙ ap (λ (f : List Sym). cond (is_empty f) (code 26) None) q
essential-end-agrees before at after r names (s ∷ fs) q o = Codes.essential-end before at after (names s) (map names fs) o ∙ ap (λ (f : List Sym). cond (is_empty f) (code 26) None) q

axiom-equals-agrees : (before : List Word) (at : ℕ) (after : List Word) (r : Reader) (names : Sym → List ℕ) (fs : List Sym) → fs ≡ r.formula
    → IsOpen (unended before) (codes "$a") (map names fs)
    → Codes.code_at before (word at (codes "$=")) after ≡ cond (is_empty r.formula) (code 26) (code 29)
axiom-equals-agrees before at after r names [] q o = Codes.axiom-equals-empty before at after o ∙ ap (λ (f : List Sym). cond (is_empty f) (code 26) (code 29)) q
axiom-equals-agrees before at after r names (s ∷ fs) q o = Codes.axiom-equals before at after (names s) (map names fs) o ∙ ap (λ (f : List Sym). cond (is_empty f) (code 26) (code 29)) q

axiom-end-agrees : (before : List Word) (at : ℕ) (after : List Word) (r : Reader) (names : Sym → List ℕ) (fs : List Sym) → fs ≡ r.formula
    → IsOpen (unended before) (codes "$a") (map names fs)
    → Codes.code_at before (word at (codes "$.")) after ≡ cond (is_empty r.formula) (code 26) None
axiom-end-agrees before at after r names [] q o = Codes.axiom-end-empty before at after o ∙ ap (λ (f : List Sym). cond (is_empty f) (code 26) None) q
axiom-end-agrees before at after r names (s ∷ fs) q o = Codes.axiom-end before at after (names s) (map names fs) o ∙ ap (λ (f : List Sym). cond (is_empty f) (code 26) None) q

provable-equals-agrees : (before : List Word) (at : ℕ) (after : List Word) (r : Reader) (names : Sym → List ℕ) (fs : List Sym) → fs ≡ r.formula
    → IsOpen (unended before) (codes "$p") (map names fs)
    → Codes.code_at before (word at (codes "$=")) after ≡ cond (is_empty r.formula) (code 26) None
provable-equals-agrees before at after r names [] q o = Codes.provable-equals-empty before at after o ∙ ap (λ (f : List Sym). cond (is_empty f) (code 26) None) q
provable-equals-agrees before at after r names (s ∷ fs) q o = Codes.provable-equals before at after (names s) (map names fs) o ∙ ap (λ (f : List Sym). cond (is_empty f) (code 26) None) q

provable-end-agrees : (before : List Word) (at : ℕ) (after : List Word) (r : Reader) (names : Sym → List ℕ) (fs : List Sym) → fs ≡ r.formula
    → IsOpen (unended before) (codes "$p") (map names fs)
    → Codes.code_at before (word at (codes "$.")) after ≡ cond (is_empty r.formula) (code 26) (code 28)
provable-end-agrees before at after r names [] q o = Codes.provable-end-empty before at after o ∙ ap (λ (f : List Sym). cond (is_empty f) (code 26) (code 28)) q
provable-end-agrees before at after r names (s ∷ fs) q o = Codes.provable-end before at after (names s) (map names fs) o ∙ ap (λ (f : List Sym). cond (is_empty f) (code 26) (code 28)) q

distinct-end-agrees : (before : List Word) (at : ℕ) (after : List Word) (r : Reader) (names : ℕ → List ℕ) (fs : List ℕ) → fs ≡ r.listed
    → IsOpen (unended before) (codes "$d") (map names fs)
    → Codes.code_at before (word at (codes "$.")) after ≡ cond (nat_lt (length r.listed) 2) (code 24) None
distinct-end-agrees before at after r names [] q o = Codes.distinct-end-empty before at after o ∙ ap (λ (f : List ℕ). cond (nat_lt (length f) 2) (code 24) None) q
distinct-end-agrees before at after r names (s ∷ []) q o = Codes.distinct-end-short before at after (names s) o ∙ ap (λ (f : List ℕ). cond (nat_lt (length f) 2) (code 24) None) q
distinct-end-agrees before at after r names (s ∷ t ∷ fs) q o =
    let many : nat_lt (length (s ∷ t ∷ fs)) 2 ≡ false = grind (arith, nat_tests) in
    let here : None ≡ cond (nat_lt (length (s ∷ t ∷ fs)) 2) (code 24) None = rw many refl in
    Codes.distinct-end before at after (names s) (names t) (map names fs) o ∙ here ∙ ap (λ (f : List ℕ). cond (nat_lt (length f) 2) (code 24) None) q

floating-end-agrees : (before : List Word) (at : ℕ) (after : List Word) (r : Reader) (names : Sym → List ℕ) (fs : List Sym) → fs ≡ r.formula
    → IsOpen (unended before) (codes "$f") (map names fs)
    → Codes.code_at before (word at (codes "$.")) after ≡ cond (nat_lt (length r.formula) 2) (code 27) None
floating-end-agrees before at after r names [] q o = Codes.floating-end-empty before at after o ∙ ap (λ (f : List Sym). cond (nat_lt (length f) 2) (code 27) None) q
floating-end-agrees before at after r names (s ∷ []) q o = Codes.floating-end-short before at after (names s) o ∙ ap (λ (f : List Sym). cond (nat_lt (length f) 2) (code 27) None) q
floating-end-agrees before at after r names (s ∷ t ∷ fs) q o =
    let many : nat_lt (length (s ∷ t ∷ fs)) 2 ≡ false = grind (arith, nat_tests) in
    let here : None ≡ cond (nat_lt (length (s ∷ t ∷ fs)) 2) (code 27) None = rw many refl in
    Codes.floating-end before at after (names s) (names t) (map names fs) o ∙ here ∙ ap (λ (f : List Sym). cond (nat_lt (length f) 2) (code 27) None) q

equals-agrees : (before : List Word) (at : ℕ) (after : List Word) (r : Reader) (s : Stage)
    → StageIs (unended before) (word at (codes "$=") ∷ after) r s → Codes.code_at before (word at (codes "$=")) after ≡ equals_code_at s r
equals-agrees before at after r stage.Between h = Codes.equals-between before at after h.0
equals-agrees before at after r stage.Labelled h = absurd (clash h.0.next)
  where
    clash : true ≡ false → ⊥
    clash e = cc
equals-agrees before at after r (stage.Symbols kind.Constants) h = constant-equals-agrees before at after r (λ (x : Sym). name_of r.symbols x.0) r.formula refl h
equals-agrees before at after r (stage.Symbols kind.Variables) h = variable-equals-agrees before at after r (λ (x : Sym). name_of r.symbols x.0) r.formula refl h
equals-agrees before at after r (stage.Symbols kind.Essential) h = essential-equals-agrees before at after r (λ (x : Sym). name_of r.symbols x.0) r.formula refl h
equals-agrees before at after r (stage.Symbols kind.Axiom) h = axiom-equals-agrees before at after r (λ (x : Sym). name_of r.symbols x.0) r.formula refl h
equals-agrees before at after r (stage.Symbols kind.Provable) h = provable-equals-agrees before at after r (λ (x : Sym). name_of r.symbols x.0) r.formula refl h
equals-agrees before at after r (stage.Symbols kind.Distinct) h = Codes.distinct-equals before at after (listed_names r) h
equals-agrees before at after r (stage.Symbols kind.Floating) h = Codes.floating-equals before at after (formula_names r) h
equals-agrees before at after r (stage.Proof from) h = Codes.proof-equals before at after (formula_names r) h

end-agrees : (before : List Word) (at : ℕ) (after : List Word) (r : Reader) (s : Stage) → StageIs (unended before) (word at (codes "$.") ∷ after) r s
    → Codes.code_at before (word at (codes "$.")) after ≡ end_code_at s r
end-agrees before at after r stage.Between h = Codes.end-between before at after h.0
end-agrees before at after r stage.Labelled h = absurd (clash h.0.next)
  where
    clash : true ≡ false → ⊥
    clash e = cc
end-agrees before at after r (stage.Symbols kind.Constants) h = constant-end-agrees before at after r (λ (x : Sym). name_of r.symbols x.0) r.formula refl h
end-agrees before at after r (stage.Symbols kind.Variables) h = variable-end-agrees before at after r (λ (x : Sym). name_of r.symbols x.0) r.formula refl h
end-agrees before at after r (stage.Symbols kind.Essential) h = essential-end-agrees before at after r (λ (x : Sym). name_of r.symbols x.0) r.formula refl h
end-agrees before at after r (stage.Symbols kind.Axiom) h = axiom-end-agrees before at after r (λ (x : Sym). name_of r.symbols x.0) r.formula refl h
end-agrees before at after r (stage.Symbols kind.Provable) h = provable-end-agrees before at after r (λ (x : Sym). name_of r.symbols x.0) r.formula refl h
end-agrees before at after r (stage.Symbols kind.Floating) h = floating-end-agrees before at after r (λ (x : Sym). name_of r.symbols x.0) r.formula refl h
end-agrees before at after r (stage.Symbols kind.Distinct) h = distinct-end-agrees before at after r (λ i. name_of r.symbols i) r.listed refl h
end-agrees before at after r (stage.Proof from) h = Codes.proof-end before at after (formula_names r) h

open-agrees : (before : List Word) (at : ℕ) (after : List Word) (r : Reader) (s : Stage) → StageIs (unended before) (word at (codes "${") ∷ after) r s
    → Codes.code_at before (word at (codes "${")) after ≡ between_code_at s r
open-agrees before at after r stage.Between h = Codes.open-between before at after h.0
open-agrees before at after r stage.Labelled h = absurd (clash h.0.next)
  where
    clash : true ≡ false → ⊥
    clash e = cc
open-agrees before at after r (stage.Symbols k) h = Codes.open-begun before at after (keyword k) h.begun
open-agrees before at after r (stage.Proof from) h = Codes.open-begun before at after (codes "$p") h.begun

close-agrees : (before : List Word) (at : ℕ) (after : List Word) (r : Reader) (s : Stage) (ss : List Scope)
    → is_empty (path (ended before)) ≡ is_empty ss → s ≡ r.stage → StageIs (unended before) (word at (codes "$}") ∷ after) r s
    → Codes.code_at before (word at (codes "$}")) after ≡ close_code_at ss r
close-agrees before at after r stage.Between [] p q h = Codes.close-between before at after true h.0 p
close-agrees before at after r stage.Between (s ∷ ss) p q h = Codes.close-between before at after false h.0 p ∙ ap (λ (t : Stage). between_code_at t r) q
close-agrees before at after r stage.Labelled ss p q h = absurd (clash h.0.next)
  where
    clash : true ≡ false → ⊥
    clash e = cc
close-agrees before at after r (stage.Symbols k) [] p q h = Codes.close-begun before at after (keyword k) true h.begun p
close-agrees before at after r (stage.Symbols k) (s ∷ ss) p q h = Codes.close-begun before at after (keyword k) false h.begun p ∙ ap (λ (t : Stage). between_code_at t r) q
close-agrees before at after r (stage.Proof from) [] p q h = Codes.close-begun before at after (codes "$p") true h.begun p
close-agrees before at after r (stage.Proof from) (s ∷ ss) p q h = Codes.close-begun before at after (codes "$p") false h.begun p ∙ ap (λ (t : Stage). between_code_at t r) q

include-agrees : (before : List Word) (at : ℕ) (after : List Word) → Codes.code_at before (word at (codes "$[")) after ≡ Some 10
include-agrees before at after = refl

close-include-agrees : (before : List Word) (at : ℕ) (after : List Word) (r : Reader) (s : Stage)
    → StageIs (unended before) (word at (codes "$]") ∷ after) r s → Codes.code_at before (word at (codes "$]")) after ≡ Some 29
close-include-agrees before at after r stage.Between h = Codes.close_include-between before at after h.0
close-include-agrees before at after r stage.Labelled h = absurd (clash h.0.next)
  where
    clash : true ≡ false → ⊥
    clash e = cc
close-include-agrees before at after r (stage.Symbols k) h = Codes.close_include-begun before at after (keyword k) h.begun
close-include-agrees before at after r (stage.Proof from) h = Codes.close_include-begun before at after (codes "$p") h.begun

-- ---- any token

pub agrees : (before after : List Word) (r : Reader) (w : Word) (k : TokenKind) (next : Option TokenKind) → IsReader before (w ∷ after) r
    → IsKind k w.bytes → is_extra next ≡ list_any (λ v. not (is_one_of labelled v)) (take 1 after)
    → Codes.code_at before w after ≡ step_code r k w.bytes next
agrees before after r w token.Word next o is x =
    let st : StageIs (unended before) (word w.start (is.first ∷ is.rest) ∷ after) r r.stage = subst (λ (n : List ℕ). StageIs (unended before) (word w.start n ∷ after) r r.stage) is.eq o.stage in
    ap (λ (n : List ℕ). Codes.code_at before (word w.start n) after) is.eq
    ∙ word-agrees before w.start is.first is.rest after r next r.stage x is.no_dollar is.none_behind o.state o.listed_known st
    ∙ ap (λ (n : List ℕ). word_code r n next) (sym is.eq)
agrees before after r w token.Constants next o is x =
    let h : StageIs (unended before) (word w.start (codes "$c") ∷ after) r r.stage = subst (λ (n : List ℕ). StageIs (unended before) (word w.start n ∷ after) r r.stage) is o.stage in
    ap (λ (n : List ℕ). Codes.code_at before (word w.start n) after) is ∙ constants-agrees before w.start after r r.stage (is_empty r.scopes) (outside before (w ∷ after) r o) h
agrees before after r w token.Variables next o is x =
    let h : StageIs (unended before) (word w.start (codes "$v") ∷ after) r r.stage = subst (λ (n : List ℕ). StageIs (unended before) (word w.start n ∷ after) r r.stage) is o.stage in
    ap (λ (n : List ℕ). Codes.code_at before (word w.start n) after) is ∙ variables-keyword-agrees before w.start after r r.stage h
agrees before after r w token.Distinct next o is x =
    let h : StageIs (unended before) (word w.start (codes "$d") ∷ after) r r.stage = subst (λ (n : List ℕ). StageIs (unended before) (word w.start n ∷ after) r r.stage) is o.stage in
    ap (λ (n : List ℕ). Codes.code_at before (word w.start n) after) is ∙ distinct-keyword-agrees before w.start after r r.stage h
agrees before after r w token.Floating next o is x =
    let h : StageIs (unended before) (word w.start (codes "$f") ∷ after) r r.stage = subst (λ (n : List ℕ). StageIs (unended before) (word w.start n ∷ after) r r.stage) is o.stage in
    ap (λ (n : List ℕ). Codes.code_at before (word w.start n) after) is ∙ floating-keyword-agrees before w.start after r r.stage h
agrees before after r w token.Essential next o is x =
    let h : StageIs (unended before) (word w.start (codes "$e") ∷ after) r r.stage = subst (λ (n : List ℕ). StageIs (unended before) (word w.start n ∷ after) r r.stage) is o.stage in
    ap (λ (n : List ℕ). Codes.code_at before (word w.start n) after) is ∙ essential-keyword-agrees before w.start after r r.stage h
agrees before after r w token.Axiom next o is x =
    let h : StageIs (unended before) (word w.start (codes "$a") ∷ after) r r.stage = subst (λ (n : List ℕ). StageIs (unended before) (word w.start n ∷ after) r r.stage) is o.stage in
    ap (λ (n : List ℕ). Codes.code_at before (word w.start n) after) is ∙ axiom-keyword-agrees before w.start after r r.stage h
agrees before after r w token.Provable next o is x =
    let h : StageIs (unended before) (word w.start (codes "$p") ∷ after) r r.stage = subst (λ (n : List ℕ). StageIs (unended before) (word w.start n ∷ after) r r.stage) is o.stage in
    ap (λ (n : List ℕ). Codes.code_at before (word w.start n) after) is ∙ provable-keyword-agrees before w.start after r r.stage h
agrees before after r w token.Equals next o is x =
    let h : StageIs (unended before) (word w.start (codes "$=") ∷ after) r r.stage = subst (λ (n : List ℕ). StageIs (unended before) (word w.start n ∷ after) r r.stage) is o.stage in
    ap (λ (n : List ℕ). Codes.code_at before (word w.start n) after) is ∙ equals-agrees before w.start after r r.stage h
agrees before after r w token.End next o is x =
    let h : StageIs (unended before) (word w.start (codes "$.") ∷ after) r r.stage = subst (λ (n : List ℕ). StageIs (unended before) (word w.start n ∷ after) r r.stage) is o.stage in
    ap (λ (n : List ℕ). Codes.code_at before (word w.start n) after) is ∙ end-agrees before w.start after r r.stage h
agrees before after r w token.OpenBlock next o is x =
    let h : StageIs (unended before) (word w.start (codes "${") ∷ after) r r.stage = subst (λ (n : List ℕ). StageIs (unended before) (word w.start n ∷ after) r r.stage) is o.stage in
    ap (λ (n : List ℕ). Codes.code_at before (word w.start n) after) is ∙ open-agrees before w.start after r r.stage h
agrees before after r w token.CloseBlock next o is x =
    let h : StageIs (unended before) (word w.start (codes "$}") ∷ after) r r.stage = subst (λ (n : List ℕ). StageIs (unended before) (word w.start n ∷ after) r r.stage) is o.stage in
    ap (λ (n : List ℕ). Codes.code_at before (word w.start n) after) is ∙ close-agrees before w.start after r r.stage r.scopes (outside before (w ∷ after) r o) refl h
agrees before after r w token.OpenInclude next o is x = ap (λ (n : List ℕ). Codes.code_at before (word w.start n) after) is ∙ include-agrees before w.start after
agrees before after r w token.CloseInclude next o is x =
    let h : StageIs (unended before) (word w.start (codes "$]") ∷ after) r r.stage = subst (λ (n : List ℕ). StageIs (unended before) (word w.start n ∷ after) r r.stage) is o.stage in
    ap (λ (n : List ℕ). Codes.code_at before (word w.start n) after) is ∙ close-include-agrees before w.start after r r.stage h
agrees before after r w token.OpenComment next o is x = absurd is
agrees before after r w token.CloseComment next o is x = absurd is
