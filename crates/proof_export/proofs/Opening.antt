-- What is said over the contents of a database is said over the database.
use Rattle.std.proofs.Common.{◌≡◌, ℕ, List, map, Option, None, refl, sym, ap, ◌∙◌, subst}
use Rattle.std.proofs.Math.Path.{fun_ext}
use Rattle.mm_base.specs.declared.kinds.Kinds.{Kinds}
use Rattle.mm_base.specs.declared.symbols.Label.{Label}
use Rattle.mm_model.specs.declared.frames.Frame.{Frame}
use Rattle.mm_model.specs.declared.rows.Production.{Production}
use Rattle.mm_model.specs.Names.{Name}
use Rattle.mm_model.specs.Statements.{statements}
use Rattle.mm_model.specs.Frames.{frame_of}
use Rattle.mm_model.specs.Book.{Database}
use Rattle.mm_frames.specs.Contents.{Contents, contents_of, frame_at}
use Rattle.mm_frames.proofs.Queries.{frame-is}
use Rattle.mm_database.specs.declared.assertions.Parsed.{Parsed}
use Rattle.mm_database.specs.Books.{database_of}
use Rattle.mm_base.specs.declared.symbols.Pair.{Pair}
use Rattle.proof_model.specs.declared.code.Code.{Code}
use Rattle.proof_model.specs.declared.theorem.Theorem.{Theorem}
use Rattle.proof_model.specs.DatabaseProofs.{frames_of_database, theorem_of_frame}
use Rattle.proof_model.specs.Machine.{Accepts, Frames, start}
use Rattle.sheet_text.specs.declared.sheet.Sheet.{Sheet}
use Rattle.sheet_text.specs.declared.sheet.PairLine.{PairLine}
use Rattle.sheet_text.specs.declared.sheet.SheetItem.{SheetItem}
use Rattle.written_model.specs.Written.{frames_of}
use Rattle.export_model.specs.Exported.{export_sheet, export_steps}
use Rattle.proof_export.specs.Books.{book_in}
use Rattle.proof_export.specs.Leads.{items_of}
use Rattle.proof_export.specs.Sheets.{line_in}
use Rattle.proof_export.specs.Proofs.{Runs}
use Rattle.proof_export.proofs.Using.{accepted_runs}

-- a book with these frames
abbrev framed : Contents → Name → (Label → Option Frame) → Database
framed c provable g = record (book_in c provable) { frame = g }

frames_are : (text : List ℕ) → frame_at (contents_of text) ≡ frame_of (statements text)
frames_are text = fun_ext (λ (l : Label). frame-is (contents_of text) l text refl)

pub frames_same : (c : Contents) (text : List ℕ) (provable : Name) → c ≡ contents_of text → frames_of (book_in c provable) ≡ frames_of_database (statements text)
frames_same c text provable e =
    ap (λ (d : Contents). frames_of (book_in d provable)) e ∙ ap (λ (g : Label → Option Frame). frames_of (framed (contents_of text) provable g)) (frames_are text)

pub sheets_same : (c : Contents) (text : List ℕ) (kinds : Kinds) (rows : List Production) (parsed : List (Option Parsed)) (thm : Theorem) (name : Name) (code : Code) → c ≡ contents_of text
    → export_sheet (book_in c kinds.provable) thm name code ≡ export_sheet (database_of kinds text rows parsed) thm name code
sheets_same c text kinds rows parsed thm name code e =
    ap (λ (d : Contents). export_sheet (book_in d kinds.provable) thm name code) e
    ∙ ap (λ (g : Label → Option Frame). export_sheet (framed (contents_of text) kinds.provable g) thm name code) (frames_are text)

pub runs_in : (c : Contents) (text : List ℕ) (provable : Name) (thm : Theorem) (f : Frame) (code : Code) → c ≡ contents_of text → thm ≡ theorem_of_frame (statements text) f
    → Accepts (frames_of_database (statements text)) (theorem_of_frame (statements text) f) code
    → Runs (frames_of (book_in c provable)) thm code.labels code.steps start
runs_in c text provable thm f code e t a =
    subst (λ (fs : Frames). Runs fs thm code.labels code.steps start) (sym (frames_same c text provable e))
    (accepted_runs (frames_of_database (statements text)) thm code (subst (λ (u : Theorem). Accepts (frames_of_database (statements text)) u code) (sym t) a))

abbrev sheet_with : Name → List SheetItem → List PairLine → Sheet
sheet_with name items pairs = record { line = 0; theorem = name; loc = None; items = items; pairs = pairs }

-- a worksheet of these parts
pub sheet_is : (c : Contents) (text : List ℕ) (kinds : Kinds) (rows : List Production) (parsed : List (Option Parsed)) (thm real : Theorem)
    (t name : Name) (code : Code) (items : List SheetItem) (ps : List Pair) (pairs : List PairLine)
    → c ≡ contents_of text → thm ≡ real → t ≡ name → items ≡ items_of (export_steps (book_in c kinds.provable) thm code) → ps ≡ thm.pairs → pairs ≡ map (line_in c.symbols) ps
    → sheet_with t items pairs ≡ export_sheet (database_of kinds text rows parsed) real name code
sheet_is c text kinds rows parsed thm real t name code items ps pairs e et en ei es ep =
    ap (λ (n : Name). sheet_with n items pairs) en ∙ ap (λ (l : List SheetItem). sheet_with name l pairs) ei
    ∙ ap (λ (l : List PairLine). sheet_with name (items_of (export_steps (book_in c kinds.provable) thm code)) l) (ep ∙ ap (map (line_in c.symbols)) es)
    ∙ sheets_same c text kinds rows parsed thm name code e ∙ ap (λ (u : Theorem). export_sheet (database_of kinds text rows parsed) u name code) et
