-- The lines of faults, computed.
use Rattle.std.specs.Prelude.{◌≡◌, [], ◌∷◌, map, codes, refl}
use Rattle.std.specs.Fmt.{digits}
use Rattle.mm_model.specs.Faults.{fault}
use Rattle.fault_lines.specs.Refusals.{at_line, too_much, formula_too_long, written_two_trees, too_much_written, proof_too_long, too_large}
use Rattle.fault_lines.specs.FaultLines.{database_line, refusal_line, code_line, proof_line, no_theorem_line, accepted_line}

pub of_database : database_line (fault 13 12) ≡ codes "database error 12 Redeclared at byte 13"
unfolding digits
of_database = refl

pub of_codes : map (λ n. database_line (fault 7 n)) (2 ∷ 10 ∷ []) ≡ codes "database error 2 OpenComment at byte 7" ∷ codes "database error 10 Include at byte 7" ∷ []
unfolding digits
of_codes = refl

pub of_text : refusal_line (at_line (fault 6 42)) ≡ codes "sheet error 42 NoFooter at line 6"
unfolding digits
of_text = refl

pub of_lines : map (λ n. refusal_line (at_line (fault 3 n))) (40 ∷ 60 ∷ 61 ∷ 62 ∷ 65 ∷ 66 ∷ 68 ∷ [])
    ≡ codes "sheet error 40 NoHeader at line 3" ∷ codes "sheet error 60 LocUnknown at line 3" ∷ codes "sheet error 61 TheoremTaken at line 3" ∷ codes "sheet error 62 HypsDiffer at line 3"
    ∷ codes "sheet error 65 NotProvable at line 3" ∷ codes "sheet error 66 UnknownSymbol at line 3" ∷ codes "sheet error 68 TwoTrees at line 3" ∷ []
unfolding digits
of_lines = refl

pub of_size : refusal_line (too_much 16780387) ≡ codes "sheet error 74 TooMuch size 16780387"
unfolding digits
of_size = refl

pub of_formula : refusal_line (formula_too_long (codes "12") 8190) ≡ codes "sheet error 75 FormulaTooLong step 12 tokens 8190"
unfolding digits
of_formula = refl

pub of_bytes : refusal_line (too_large 16777217) ≡ codes "sheet error 76 TooLarge bytes 16777217"
unfolding digits
of_bytes = refl

pub of_written_size : refusal_line (too_much_written 16777217) ≡ codes "sheet error 77 TooMuchWritten size 16777217"
unfolding digits
of_written_size = refl

pub of_two_trees : refusal_line (written_two_trees (codes "d1")) ≡ codes "sheet error 78 WrittenTwoTrees step d1"
of_two_trees = refl

pub of_labels : refusal_line (proof_too_long 1064935) ≡ codes "sheet error 79 ProofTooLong labels 1064935"
unfolding digits
of_labels = refl

pub of_code : code_line (fault 0 3) ≡ codes "code error 3 MarkAtStart at 0"
unfolding digits
of_code = refl

pub of_proof : map proof_line (fault 3 8 ∷ fault 0 9 ∷ fault 0 7 ∷ []) ≡ codes "proof error 8 ResultDiffers at 3" ∷ codes "proof error 9 Unknown at 0" ∷ codes "proof error 7 LeftOver at 0" ∷ []
unfolding digits
of_proof = refl

pub of_theorem : no_theorem_line (codes "ax-1") ≡ codes "no theorem ax-1"
of_theorem = refl

pub of_accepted : accepted_line (codes "good") ≡ codes "good accepted"
of_accepted = refl
