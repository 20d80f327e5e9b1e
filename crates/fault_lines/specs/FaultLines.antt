-- The lines that tell a fault.
use Rattle.std.specs.Prelude.{ℕ, ◌==◌, List, [], ◌∷◌, find, decimal, codes}
use Rattle.std.specs.Option.{option_map_or}
use Rattle.mm_model.specs.Names.{Name}
use Rattle.mm_model.specs.Faults.{Fault}
use Rattle.sheet_text.specs.Layout.{spaced}
use Rattle.fault_lines.specs.Refusals.{Refusal, at_line, too_much, formula_too_long, written_two_trees, too_much_written, proof_too_long, too_large}

-- the faults of a database by their codes
abbrev pub database_faults : List (ℕ × Name)
database_faults = (1, codes "BadByte") ∷ (2, codes "OpenComment") ∷ (3, codes "CommentInComment") ∷ (4, codes "BadKeyword") ∷ (10, codes "Include") ∷ (11, codes "ConstInBlock")
    ∷ (12, codes "Redeclared") ∷ (13, codes "NotActive") ∷ (14, codes "NoType") ∷ (15, codes "TwoTypes") ∷ (16, codes "FirstNotConst") ∷ (17, codes "LabelTaken")
    ∷ (18, codes "LabelMissing") ∷ (19, codes "LabelExtra") ∷ (20, codes "BadLabel") ∷ (21, codes "Unended") ∷ (22, codes "BlockOpen") ∷ (23, codes "BlockUnopened")
    ∷ (24, codes "DistinctShort") ∷ (25, codes "DistinctTwice") ∷ (26, codes "EmptyFormula") ∷ (27, codes "BadHypothesis") ∷ (28, codes "NoProof") ∷ (29, codes "StrayToken")
    ∷ (30, codes "TooBig") ∷ []

-- the faults of a worksheet that stand at a line, by their codes
abbrev pub sheet_faults : List (ℕ × Name)
sheet_faults = (40, codes "NoHeader") ∷ (41, codes "BadHeader") ∷ (42, codes "NoFooter") ∷ (43, codes "TextAfterFooter") ∷ (44, codes "BadStep") ∷ (45, codes "NameTwice")
    ∷ (46, codes "HypUnknown") ∷ (47, codes "QedPlace") ∷ (48, codes "ProofUnended") ∷ (49, codes "BadDistinct") ∷ (50, codes "TooBig")
    ∷ (60, codes "LocUnknown") ∷ (61, codes "TheoremTaken") ∷ (62, codes "HypsDiffer") ∷ (63, codes "HypLabelTaken") ∷ (64, codes "HypWithHyps") ∷ (65, codes "NotProvable")
    ∷ (66, codes "UnknownSymbol") ∷ (67, codes "NoTree") ∷ (68, codes "TwoTrees") ∷ (69, codes "Blank") ∷ (70, codes "NotVariable") ∷ (71, codes "FormulaLong")
    ∷ (72, codes "HypLabelTwice") ∷ (73, codes "TheoremName") ∷ []

-- the faults of a proof's code by their codes
abbrev pub code_faults : List (ℕ × Name)
code_faults = (1, codes "BadLetter") ∷ (2, codes "NumberTooLarge") ∷ (3, codes "MarkAtStart") ∷ (4, codes "MarkTwice") ∷ (5, codes "UnendedNumber") ∷ (6, codes "NoBracket")
    ∷ (7, codes "MandatoryListed") ∷ (8, codes "LabelTwice") ∷ []

-- the faults of a proof on the stack machine by their codes
abbrev pub proof_faults : List (ℕ × Name)
proof_faults = (1, codes "Underflow") ∷ (2, codes "TypeDiffers") ∷ (3, codes "HypDiffers") ∷ (4, codes "Shared") ∷ (5, codes "NotDistinct") ∷ (6, codes "NotEarlier")
    ∷ (7, codes "LeftOver") ∷ (8, codes "ResultDiffers") ∷ (9, codes "Unknown") ∷ []

abbrev pub fault_name : List (ℕ × Name) → ℕ → Name
fault_name table code = option_map_or (λ (e : ℕ × Name). e.1) (find (λ (e : ℕ × Name). e.0 == code) table) []

-- `database error CODE NAME at byte N`
abbrev pub database_line : Fault → List ℕ
database_line f = spaced (codes "database" ∷ codes "error" ∷ decimal f.code ∷ fault_name database_faults f.code ∷ codes "at" ∷ codes "byte" ∷ decimal f.place ∷ [])

abbrev pub sheet_error : List Name → List ℕ
sheet_error words = spaced (codes "sheet" ∷ codes "error" ∷ words)

abbrev pub refusal_line : Refusal → List ℕ
refusal_line (at_line f) = sheet_error (decimal f.code ∷ fault_name sheet_faults f.code ∷ codes "at" ∷ codes "line" ∷ decimal f.place ∷ [])
refusal_line (too_much n) = sheet_error (codes "74" ∷ codes "TooMuch" ∷ codes "size" ∷ decimal n ∷ [])
refusal_line (formula_too_long name n) = sheet_error (codes "75" ∷ codes "FormulaTooLong" ∷ codes "step" ∷ name ∷ codes "tokens" ∷ decimal n ∷ [])
refusal_line (too_large n) = sheet_error (codes "76" ∷ codes "TooLarge" ∷ codes "bytes" ∷ decimal n ∷ [])
refusal_line (too_much_written n) = sheet_error (codes "77" ∷ codes "TooMuchWritten" ∷ codes "size" ∷ decimal n ∷ [])
refusal_line (written_two_trees name) = sheet_error (codes "78" ∷ codes "WrittenTwoTrees" ∷ codes "step" ∷ name ∷ [])
refusal_line (proof_too_long n) = sheet_error (codes "79" ∷ codes "ProofTooLong" ∷ codes "labels" ∷ decimal n ∷ [])

-- `code error CODE NAME at INDEX`
abbrev pub code_line : Fault → List ℕ
code_line f = spaced (codes "code" ∷ codes "error" ∷ decimal f.code ∷ fault_name code_faults f.code ∷ codes "at" ∷ decimal f.place ∷ [])

-- `proof error CODE NAME at INDEX`
abbrev pub proof_line : Fault → List ℕ
proof_line f = spaced (codes "proof" ∷ codes "error" ∷ decimal f.code ∷ fault_name proof_faults f.code ∷ codes "at" ∷ decimal f.place ∷ [])

-- `no theorem LABEL`
abbrev pub no_theorem_line : Name → List ℕ
no_theorem_line theorem = spaced (codes "no" ∷ codes "theorem" ∷ theorem ∷ [])

-- `LABEL accepted`
abbrev pub accepted_line : Name → List ℕ
accepted_line theorem = spaced (theorem ∷ codes "accepted" ∷ [])
