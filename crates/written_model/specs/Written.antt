-- The written worksheet, and the answer to a worksheet.
use Rattle.std.specs.Prelude.{◌≡◌, ℕ, ◌<◌, ◌≤◌, Bool, true, ◌↔◌, IsTrue, List, [], ◌∷◌, length, map, if◌then◌else◌, option_and_then, unwrap_or, Option, Some, None}
use Rattle.std.specs.List.{AllZip, last_or}
use Rattle.fault_lines.specs.Refusals.{Refusal, at_line, too_much, formula_too_long, written_two_trees, too_much_written, proof_too_long, too_large, told_number}
use Rattle.mm_base.specs.declared.symbols.Pair.{Pair}
use Rattle.mm_base.specs.declared.tree.Tree.{Tree}
use Rattle.mm_base.specs.Limits.{most_formula_tokens, most_sheet_bytes, most_work_size, most_proof_labels}
use Rattle.mm_model.specs.declared.rows.Leaf.{Leaf}
use Rattle.mm_model.specs.declared.rows.Leaf.TheVariants as leaf
use Rattle.mm_model.specs.Names.{Name}
use Rattle.mm_model.specs.Texts.{text}
use Rattle.mm_model.specs.Faults.{Fault}
use Rattle.mm_model.specs.Book.{Database, label_of, symbol_name}
use Rattle.proof_model.specs.declared.theorem.Theorem.{Theorem}
use Rattle.proof_model.specs.Machine.{Frames}
use Rattle.proof_model.specs.Proofs.{Proof, postorder}
use Rattle.proof_model.specs.Codes.{code_of_proof}
use Rattle.proof_model.specs.ProofCode.{spelled}
use Rattle.sheet_text.specs.declared.sheet.Sheet.{Sheet}
use Rattle.sheet_text.specs.declared.sheet.SheetItem.{SheetItem}
use Rattle.sheet_text.specs.declared.sheet.SheetItem.TheVariants as item
use Rattle.sheet_text.specs.declared.sheet.SheetStep.{SheetStep}
use Rattle.sheet_text.specs.declared.sheet.PairLine.{PairLine}
use Rattle.sheet_text.specs.Layout.{layout, spaced, step_names}
use Rattle.sheet_text.specs.Reads.{Reads, ReadsAs}
use Rattle.sheet_text.specs.TextFaults.{text_fault}
use Rattle.solve_model.specs.declared.bound.Bound.{Bound}
use Rattle.solve_model.specs.declared.bound.BoundStep.{BoundStep}
use Rattle.solve_model.specs.Firsts.{IsFirstIn}
use Rattle.solve_model.specs.Formulas.{spelling, HasTwoTrees}
use Rattle.solve_model.specs.Binding.{theorem_of}
use Rattle.solve_model.specs.BindFaults.{IsBindFault}
use Rattle.solve_model.specs.Bound.{Binds, work_size}
use Rattle.solve_model.specs.Solutions.{Valuation}
use Rattle.solve_model.specs.Verdicts.{Judgement, AreJudged, accepted_in}
use Rattle.solve_model.specs.MostGeneral.{IsTheValuation}
use Rattle.written_model.specs.declared.options.Options.{Options}
use Rattle.written_model.specs.declared.options.ProofStyle.{ProofStyle}
use Rattle.written_model.specs.declared.options.ProofStyle.TheVariants as style
use Rattle.written_model.specs.declared.report.ReportLine.{ReportLine}
use Rattle.written_model.specs.WrittenSteps.{WrittenStep, WrittenItem, comment, step, steps_in, trees}
use Rattle.written_model.specs.Filled.{filled_items}
use Rattle.written_model.specs.Named.{Naming, IsNaming, name_items}
use Rattle.written_model.specs.Pairs.{pairs_of}
use Rattle.written_model.specs.Found.{IsSearched}
use Rattle.written_model.specs.ProofTrees.{Finished, step_proofs, no_proof}
use Rattle.written_model.specs.Report.{report_of, report_lines}

-- ---- the sheet and the proof that are written

abbrev pub leaf_name : Database → Leaf → Name
leaf_name db (leaf.Const s) = symbol_name db s
leaf_name db (leaf.Var s c) = symbol_name db s
leaf_name db (leaf.Work c n) = spelling (symbol_name db c.0) n

-- the tokens of a formula: the provable typecode and the tree's text
abbrev pub formula_tokens : Database → Tree → List Name
formula_tokens db t = db.provable ∷ map (leaf_name db) (text db.rows t)

abbrev pub written_step : Database → WrittenStep → SheetStep
written_step db e = record { line = 0; hyp = e.hyp; name = e.name; places = e.places; reference = e.reference; formula = formula_tokens db e.tree }

abbrev pub written_item : Database → WrittenItem → SheetItem
written_item db (comment lines) = item.Comment lines
written_item db (step e) = item.Step (written_step db e)

abbrev pub written_pair : Database → Pair → PairLine
written_pair db p = record { line = 0; names = symbol_name db p.a ∷ symbol_name db p.b ∷ [] }

-- the frames of a database by their labels' names
abbrev pub frames_of : Database → Frames
frames_of db name = option_and_then db.frame (label_of db name)

-- the proof of `qed`, the last step
abbrev pub qed_proof : Database → Theorem → List WrittenStep → Proof
qed_proof db theorem es = unwrap_or (last_or None (step_proofs db theorem.hyps es)) no_proof

abbrev pub proof_text : Database → ProofStyle → Theorem → List WrittenStep → List ℕ
proof_text db style.Normal theorem es = spaced (postorder (qed_proof db theorem es))
proof_text db style.Compressed theorem es = spelled (length theorem.mandatory) (code_of_proof theorem.mandatory (qed_proof db theorem es))

-- what a worksheet becomes: what was read, but for the numbers of lines; its place and trees; the judgements of its steps;
-- the most general valuation; the names of new work variables; what is written; and whether it is finished
pub record Writing : Type 0 where
  pub read : Sheet
  pub bound : Bound
  pub judgements : List Judgement
  pub value : Valuation
  pub names : Naming
  pub items : List WrittenItem
  pub finished : Bool

module _ (db : Database) (options : Options) (w : Writing) where
  -- the worksheet before the search: its places are filled, and then its work variables named
  abbrev pub after_filling : List WrittenItem
  after_filling = filled_items (step_names w.read) w.bound w.value w.judgements w.read.items

  abbrev pub after_naming : List WrittenItem
  after_naming = name_items w.names after_filling

  abbrev pub written_pairs : List Pair
  written_pairs = pairs_of options.dv w.bound.pairs (steps_in w.items)

  abbrev pub written_sheet : Sheet
  written_sheet = record { line = 0; theorem = w.read.theorem; loc = w.read.loc; items = map (written_item db) w.items; pairs = map (written_pair db) written_pairs }

  abbrev pub written_theorem : Theorem
  written_theorem = theorem_of db written_sheet

  abbrev pub written_proof : Option (List ℕ)
  written_proof = if w.finished then Some (proof_text db options.style written_theorem (steps_in w.items)) else None

  abbrev pub written_text : List ℕ
  written_text = layout written_sheet written_proof

  abbrev pub written_report : List ReportLine
  written_report = map (report_of options.dv w.bound.pairs) (steps_in w.items)

  abbrev pub written_log : List (List ℕ)
  written_log = report_lines db written_report w.finished

  -- a comment stays, and a step is searched
  abbrev pub ItemIsSearched : WrittenItem → WrittenItem → Type 0
  ItemIsSearched (comment lines) i = i ≡ comment lines
  ItemIsSearched (step e) i = (f : WrittenStep) × (i ≡ step f) × IsSearched db w.bound.place options.dv w.bound.pairs (steps_in after_naming) e f

-- the text, however long, has no fault of 40 to 49 and of 60 to 74, and this is what it becomes
pub record Writes (db : Database) (text : List ℕ) (options : Options) (w : Writing) : Type 0 where
  pub reads : ReadsAs text w.read
  pub binds : Binds db reads.read w.bound
  pub within_limit : work_size db w.bound ≤ most_work_size
  pub judged : AreJudged db w.bound w.judgements
  pub most_general : IsTheValuation db w.bound (accepted_in w.judgements) w.value
  pub naming : IsNaming db w.bound (trees (steps_in (after_filling db options w))) w.names
  pub searched : AllZip (ItemIsSearched db options w) (after_naming db options w) w.items
  pub finished : IsTrue w.finished ↔ Finished options.dv w.bound.pairs (steps_in w.items)

-- ---- the answer

module _ (db : Database) (options : Options) (w : Writing) where
  abbrev pub step_tokens : WrittenStep → List Name
  step_tokens e = formula_tokens db e.tree

  abbrev pub IsTooLong : WrittenStep → Type 0
  IsTooLong e = most_formula_tokens < length (step_tokens e)

  abbrev pub IsAmbiguous : WrittenStep → Type 0
  IsAmbiguous e = HasTwoTrees db w.bound.place (step_tokens e)

  abbrev pub bound_step : WrittenStep → BoundStep
  bound_step e = record { line = 0; hyp = e.hyp; name = e.name; places = e.places; reference = e.reference; tree = Some e.tree }

  -- the written worksheet with its trees
  abbrev pub written_bound : Bound
  written_bound = record {
    place = w.bound.place;
    existing = w.bound.existing;
    steps = map bound_step (steps_in w.items);
    pairs = written_pairs db options w;
    theorem = written_theorem db options w;
  }

  abbrev pub label_count : ℕ
  label_count = length (postorder (qed_proof db (written_theorem db options w) (steps_in w.items)))

  -- the faults of what is to be written, by their rank: 75, 78, 77, 79 and 76
  pub data LateFault : ℕ → Refusal → Type 0 where
    long : (e : WrittenStep) → IsFirstIn IsTooLong (steps_in w.items) e → LateFault 0 (formula_too_long e.name (told_number (length (step_tokens e))))
    ambiguous : (e : WrittenStep) → IsFirstIn IsAmbiguous (steps_in w.items) e → LateFault 1 (written_two_trees e.name)
    much : most_work_size < work_size db written_bound → LateFault 2 (too_much_written (told_number (work_size db written_bound)))
    proof : w.finished ≡ true → options.style ≡ style.Normal → most_proof_labels < label_count → LateFault 3 (proof_too_long (told_number label_count))
    large : most_sheet_bytes < length (written_text db options w) → LateFault 4 (too_large (told_number (length (written_text db options w))))

  -- the first of them
  pub record IsLate (r : Refusal) : Type 0 where
    pub rank : ℕ
    pub stands : LateFault rank r
    pub is_first : (k : ℕ) (q : Refusal) → LateFault k q → rank ≤ k

  abbrev pub HasNoLateFault : Type 0
  HasNoLateFault = (k : ℕ) (r : Refusal) → LateFault k r → ⊥

-- the answer to a worksheet: a refusal, or what it becomes
pub data Answer : Type 0 where
  refused : Refusal → Answer
  wrote : Writing → Answer

-- the first fault in this order: of the text, where 50 (more than 2^24 bytes) goes before all others; against the database;
-- the work size; and of what is to be written
pub data Answers (db : Database) (text : List ℕ) (options : Options) : Answer → Type 0 where
  bad_text : {f : Fault} → text_fault text ≡ Some f → Answers db text options (refused (at_line f))
  unbound : {s : Sheet} {f : Fault} → text_fault text ≡ None → Reads text s → IsBindFault db s f → Answers db text options (refused (at_line f))
  much : {s : Sheet} {bound : Bound} → text_fault text ≡ None → Reads text s → Binds db s bound → most_work_size < work_size db bound
      → Answers db text options (refused (too_much (told_number (work_size db bound))))
  late : {w : Writing} {r : Refusal} → text_fault text ≡ None → Writes db text options w → IsLate db options w r → Answers db text options (refused r)
  written : {w : Writing} → text_fault text ≡ None → Writes db text options w → HasNoLateFault db options w → Answers db text options (wrote w)
