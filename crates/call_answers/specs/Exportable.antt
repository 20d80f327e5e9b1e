-- Which accepted proofs of a database become finished worksheets, but for their size.
use Rattle.std.specs.Prelude.{◌≡◌, ℕ, ◌<◌, ◌≤◌, Bool, true, false, not, ◌&&◌, List, [], ◌∷◌, length, All, Contains, Some}
use Rattle.std.specs.List.{list_all, list_any}
use Rattle.mm_base.specs.declared.symbols.Label.{Label}
use Rattle.mm_base.specs.declared.symbols.Sym.{Sym}
use Rattle.mm_base.specs.declared.tree.Tree.{Tree}
use Rattle.mm_base.specs.Limits.{most_formula_tokens}
use Rattle.mm_model.specs.declared.frames.Hyp.{Hyp}
use Rattle.mm_model.specs.declared.frames.Frame.{Frame}
use Rattle.mm_model.specs.declared.rows.Production.{Production}
use Rattle.mm_model.specs.Names.{Name, typecode}
use Rattle.mm_model.specs.Productions.{essentials}
use Rattle.mm_model.specs.Texts.{row_of}
use Rattle.mm_model.specs.Typed.{Parses}
use Rattle.mm_model.specs.Book.{Database, Assertion, label_of, expression_at}
use Rattle.proof_model.specs.declared.code.Code.{Code}
use Rattle.proof_model.specs.declared.theorem.Theorem.{Theorem}
use Rattle.proof_model.specs.Machine.{same_formula}
use Rattle.sheet_text.specs.declared.sheet.SheetStep.{SheetStep}
use Rattle.sheet_text.specs.Layout.{steps}
use Rattle.solve_model.specs.Formulas.{IsTheTree}
use Rattle.solve_model.specs.Binding.{place_of}
use Rattle.install_laws.specs.TwoDatabases.{labels_named}
use Rattle.export_model.specs.Exported.{Push, is_provable, pushes, export_sheet}

-- ---- the labels that such a proof may name

-- an active hypothesis with this label
abbrev pub IsHypothesisOf : Theorem → Name → Hyp → Type 0
IsHypothesisOf theorem name h = Contains theorem.hyps h × (h.name ≡ name)

-- an assertion before the theorem, with its frame
abbrev pub IsBefore : Database → Theorem → Name → Label → Frame → Type 0
IsBefore db theorem name l f = (label_of db name ≡ Some l) × (db.frame l ≡ Some f) × (f.at < theorem.at)

-- its expression has a tree of its typecode, of productions before its own position
pub record HasTreeBefore (db : Database) (f : Frame) : Type 0 where
  pub code : Sym
  pub rest : List Sym
  pub formula : f.formula ≡ code ∷ rest
  pub tree : Tree
  pub parses : Parses db.rows f.at (expression_at db f.at f.formula) (typecode code) tree

-- an active hypothesis; or, before the theorem, a kept production, a usable assertion, or an assertion of another typecode whose
-- expression has a tree
pub data MayName (db : Database) (theorem : Theorem) (name : Name) : Type 0 where
  hypothesis : {h : Hyp} → IsHypothesisOf theorem name h → MayName db theorem name
  production : {l : Label} {f : Frame} {r : Production} → IsBefore db theorem name l f → row_of db.rows l ≡ Some r → MayName db theorem name
  usable : {l : Label} {f : Frame} {a : Assertion} → IsBefore db theorem name l f → db.usable l ≡ Some a → MayName db theorem name
  other : {l : Label} {f : Frame} → IsBefore db theorem name l f → is_provable db f.formula ≡ false → HasTreeBefore db f → MayName db theorem name

-- no `$f` among these hypotheses has the provable typecode
abbrev pub has_no_provable_float : Database → List Hyp → Bool
has_no_provable_float db hyps = list_all (λ (h : Hyp). not (h.floating && is_provable db h.formula)) hyps

-- a label is none of a `$f` of the provable typecode, nor of an assertion that has one among its mandatory hypotheses
pub record NamesNoProvableFloat (db : Database) (theorem : Theorem) (name : Name) : Type 0 where
  pub own : (h : Hyp) → IsHypothesisOf theorem name h → has_no_provable_float db (h ∷ []) ≡ true
  pub of_frame : (l : Label) (f : Frame) → IsBefore db theorem name l f → has_no_provable_float db f.hyps ≡ true

-- a formula that is not too long and has exactly one tree at the place
pub record IsReadable (db : Database) (place : ℕ) (s : SheetStep) : Type 0 where
  pub short : length s.formula ≤ most_formula_tokens
  pub tree : Tree
  pub one_tree : IsTheTree db place s.formula tree

-- the push gives the theorem's formula
abbrev pub gives_theorem : Theorem → Push → Bool
gives_theorem theorem p = same_formula p.formula theorem.formula

-- an accepted proof becomes a finished worksheet, but for its size, where each label that its steps name is such; an assertion of the
-- provable typecode gives the theorem's formula; the theorem's `$e` are of that typecode; no label that is named brings a `$f` of it;
-- and each formula of the worksheet can be read at the theorem's position
pub record IsExportable (db : Database) (theorem : Theorem) (name : Name) (code : Code) : Type 0 where
  pub labels : (label : Name) → Contains (labels_named theorem code) label → MayName db theorem label
  pub given : list_any (gives_theorem theorem) (pushes db theorem code) ≡ true
  pub provable_hyps : list_all (λ (h : Hyp). is_provable db h.formula) (essentials theorem.hyps) ≡ true
  pub no_provable_float : (label : Name) → Contains (labels_named theorem code) label → NamesNoProvableFloat db theorem label
  pub formulas : All (IsReadable db (place_of db (export_sheet db theorem name code))) (steps (export_sheet db theorem name code))
