-- What a written text says of itself: its proof, and that it is written again.
use Rattle.std.specs.Prelude.{◌≡◌, ℕ, Bool, List, drop, find, Option, Some, None, option_map}
use Rattle.mm_model.specs.Names.{Name}
use Rattle.mm_model.specs.Book.{Database}
use Rattle.proof_model.specs.declared.code.Code.{Code}
use Rattle.proof_model.specs.Codes.{normal_code}
use Rattle.proof_model.specs.Machine.{Accepts}
use Rattle.proof_model.specs.ProofCode.{Spells, code_fault}
use Rattle.sheet_text.specs.declared.sheet.Sheet.{Sheet}
use Rattle.sheet_text.specs.Layout.{spaced}
use Rattle.sheet_text.specs.Reads.{Reads}
use Rattle.sheet_text.specs.SheetStatements.{Statement, statements, is_proof, tokens_in}
use Rattle.sheet_text.specs.TextFaults.{without_end}
use Rattle.solve_model.specs.Binding.{theorem_of}
use Rattle.written_model.specs.declared.options.Options.{Options}
use Rattle.written_model.specs.declared.options.ProofStyle.{ProofStyle}
use Rattle.written_model.specs.declared.options.ProofStyle.TheVariants as style
use Rattle.written_model.specs.Written.{Writing, Answers, wrote, frames_of, written_text}

-- the proof of a worksheet: the tokens of its proof statement between `$=` and `$.`, which the reader of worksheets passes over
abbrev pub tokens_between : Statement → List Name
tokens_between s = without_end (drop 1 (tokens_in s))

abbrev pub proof_tokens : List ℕ → Option (List Name)
proof_tokens text = option_map tokens_between (find is_proof (statements text))

-- the code of a proof, in a style; a compressed one has no fault
abbrev pub IsProofCode : ProofStyle → List Name → List Name → Code → Type 0
IsProofCode style.Normal mandatory tokens code = code ≡ normal_code mandatory tokens
IsProofCode style.Compressed mandatory tokens code = (code_fault (spaced tokens) mandatory ≡ None) × Spells (spaced tokens) mandatory code

-- the text alone gives a theorem, and a proof that the stack machine accepts for it
pub record ProvesItself (db : Database) (options : Options) (text : List ℕ) : Type 0 where
  pub sheet : Sheet
  pub reads : Reads text sheet
  pub tokens : List Name
  pub has_proof : proof_tokens text ≡ Some tokens
  pub code : Code
  pub is_code : IsProofCode options.style (theorem_of db sheet).mandatory tokens code
  pub accepted : Accepts (frames_of db) (theorem_of db sheet) code

-- unifying the text again writes the same bytes
pub record IsFixed (db : Database) (options : Options) (text : List ℕ) (finished : Bool) : Type 0 where
  pub writing : Writing
  pub answers : Answers db text options (wrote writing)
  pub same_text : written_text db options writing ≡ text
  pub same_end : writing.finished ≡ finished
