-- What is said of a label, from what was found of its theorem, its code and the machine.
use Rattle.std.proofs.Common.{◌≡◌, ◌^◌, ℕ, List, length, nat_lt, Bool, true, false, cond, Option, Some, None, MatchOption, IsSome, refl, sym, ap, subst, inl, inr, codes}
use Rattle.std.specs.List.{join_with_byte}
use Rattle.std.specs.Option.{option_and_then}
use Rattle.compressed_proof.specs.Decoded.{IsFault}
use Rattle.compressed_proof.specs.declared.fault.CodeFault.{CodeFault}
use Rattle.compressed_proof.specs.declared.fault.CodeFault.TheVariants as faults
use Rattle.mm_model.specs.Tokens.{token_fault}
use Rattle.proof_model.specs.ProofCode.{code_fault}
use Rattle.mm_model.specs.Frames.{proof_range, statement_of}
use Rattle.stack_verify.specs.Proofs.{IsProofCodeFault, IsProofOf}
use Rattle.stack_verify.specs.Theorems.{labels_of_hyps}
use Rattle.mm_base.specs.declared.symbols.Label.{Label}
use Rattle.mm_model.specs.Faults.{Fault, fault, or_else}
use Rattle.mm_model.specs.Names.{Name}
use Rattle.mm_model.specs.Statements.{Statement, statements, has_keyword, database_fault, statement_fault}
use Rattle.proof_model.specs.declared.code.Code.{Code}
use Rattle.proof_model.specs.declared.theorem.Theorem.{Theorem}
use Rattle.proof_model.specs.DatabaseProofs.{proof_words, frames_of_database, theorem_of_frame, proof_code_fault, IsCodeOf}
use Rattle.proof_model.specs.Machine.{Accepts, proof_fault}
use Rattle.call_answers.specs.Verified.{Verdict, no_theorem, accepted, bad_code, verdict_of, theorem_named, IsProofVerdict, IsVerdict}
use Rattle.theorem_laws.specs.ProofPlaces.{ProofsStand}
use Rattle.mmp_run.specs.Theorems.{IsTheorem}
use Rattle.mmp_run.specs.Verdicts.{IsAcceptedProof}
use Rattle.mmp_run.proofs.Theorems.{named_by}

pub said_none : (text name : List ℕ) → theorem_named (statements text) name ≡ None → IsVerdict text name no_theorem
said_none text name e =
    subst (λ (o : Option (Theorem × List Name)). MatchOption o (no_theorem ≡ no_theorem) (λ t. IsProofVerdict (frames_of_database (statements text)) t.0 t.1 no_theorem)) (sym e) refl

said_of : (text name : List ℕ) (l : Label) (t : IsTheorem (statements text) name l) (v : Verdict)
    → IsProofVerdict (frames_of_database (statements text)) (theorem_of_frame (statements text) t.frame) t.words v → IsVerdict text name v
said_of text name l t v is =
    subst (λ (o : Option (Theorem × List Name)). MatchOption o (v ≡ no_theorem) (λ s. IsProofVerdict (frames_of_database (statements text)) s.0 s.1 v)) (sym (named_by (statements text) name l t)) is

-- where the proof is
pub proof_at : (ss : List Statement) (name : List ℕ) (l : Label) (t : IsTheorem ss name l) → IsSome (proof_range ss l) → IsProofOf ss l t.frame t.words
proof_at ss name l t range = record { frame = t.frame_is; words = t.words_are; range = range }

-- it is known
pub range_of : ProofsStand → (text name : List ℕ) (l : Label) (t : IsTheorem (statements text) name l) → database_fault text ≡ None → IsSome (proof_range (statements text) l)
range_of law text name l t sound = by_statement (statement_of (statements text) l) refl t.words_are
  where
    by_keyword : (p : ℕ × Statement) (b : Bool) → statement_of (statements text) l ≡ Some p → has_keyword (codes "$p") p.1 ≡ b
        → cond b (Some (proof_words p.1)) None ≡ Some t.words → IsSome (proof_range (statements text) l)
    by_keyword p true there k e = law text sound l p.0 p.1 there k
    by_keyword p false there k e = let clash : None ≡ Some t.words = e in absurd (cc)

    by_statement : (o : Option (ℕ × Statement)) → statement_of (statements text) l ≡ o
        → option_and_then {U = List Name} (λ p. cond (has_keyword (codes "$p") p.1) (Some (proof_words p.1)) None) o ≡ Some t.words
        → IsSome (proof_range (statements text) l)
    by_statement None there e = let clash : None ≡ Some t.words = e in absurd (cc)
    by_statement (Some p) there e = by_keyword p (has_keyword (codes "$p") p.1) there refl e

pub said_code : (text name : List ℕ) (l : Label) (t : IsTheorem (statements text) name l) (f : Fault)
    → proof_code_fault (labels_of_hyps t.frame.hyps) t.words ≡ Some f → IsVerdict text name (bad_code f)
said_code text name l t f e =
    said_of text name l t (bad_code f)
    (subst (λ (o : Option Fault). MatchOption o
    ((code : Code) × IsCodeOf (labels_of_hyps t.frame.hyps) t.words code
    × (bad_code f ≡ verdict_of (proof_fault (frames_of_database (statements text)) (theorem_of_frame (statements text) t.frame) code)))
    (λ g. bad_code f ≡ bad_code g)) (sym e) refl)

said_proof : (text name : List ℕ) (l : Label) (t : IsTheorem (statements text) name l) (code : Code) (v : Verdict) → proof_code_fault (labels_of_hyps t.frame.hyps) t.words ≡ None
    → IsCodeOf (labels_of_hyps t.frame.hyps) t.words code
    → verdict_of (proof_fault (frames_of_database (statements text)) (theorem_of_frame (statements text) t.frame) code) ≡ v
    → IsVerdict text name v
said_proof text name l t code v e is says =
    said_of text name l t v
    (subst (λ (o : Option Fault). MatchOption o
    ((code : Code) × IsCodeOf (labels_of_hyps t.frame.hyps) t.words code × (v ≡ verdict_of (proof_fault (frames_of_database (statements text)) (theorem_of_frame (statements text) t.frame) code)))
    (λ g. v ≡ bad_code g)) (sym e) (code, is, sym says))

-- by the theorem that the machine was given
pub said_machine : (text name : List ℕ) (l : Label) (t : IsTheorem (statements text) name l) (theorem : Theorem) (code : Code) (v : Verdict) → theorem ≡ theorem_of_frame (statements text) t.frame
    → proof_code_fault (labels_of_hyps t.frame.hyps) t.words ≡ None → IsCodeOf (labels_of_hyps t.frame.hyps) t.words code
    → verdict_of (proof_fault (frames_of_database (statements text)) theorem code) ≡ v → IsVerdict text name v
said_machine text name l t theorem code v e sound is says =
    said_proof text name l t code v sound is (subst (λ (h : Theorem). verdict_of (proof_fault (frames_of_database (statements text)) h code) ≡ v) e says)

pub said_accepted : (text name : List ℕ) (l : Label) (t : IsTheorem (statements text) name l) (theorem : Theorem) (code : Code) → theorem ≡ theorem_of_frame (statements text) t.frame
    → proof_code_fault (labels_of_hyps t.frame.hyps) t.words ≡ None → IsCodeOf (labels_of_hyps t.frame.hyps) t.words code
    → Accepts (frames_of_database (statements text)) theorem code → IsVerdict text name accepted
said_accepted text name l t theorem code e sound is accepts =
    said_machine text name l t theorem code accepted e sound is (ap verdict_of accepts)

-- and its code is that of an accepted proof
pub accepted_proof : (text name : List ℕ) (l : Label) (t : IsTheorem (statements text) name l) (theorem : Theorem) (code : Code) → theorem ≡ theorem_of_frame (statements text) t.frame
    → proof_code_fault (labels_of_hyps t.frame.hyps) t.words ≡ None → IsCodeOf (labels_of_hyps t.frame.hyps) t.words code
    → Accepts (frames_of_database (statements text)) theorem code → IsAcceptedProof text name l code
accepted_proof text name l t theorem code e sound is accepts =
    record { theorem = t; sound = sound; is_code = is; accepts = subst (λ (h : Theorem). Accepts (frames_of_database (statements text)) h code) e accepts }

-- ---- faults of codes

pub code_told : (m words : List (List ℕ)) (e : CodeFault) (f : Fault) → IsProofCodeFault m words e → (e ≡ faults.Memory → ⊥)
    → ((text : List ℕ) (mandatory : List (List ℕ)) → IsFault text mandatory e → code_fault text mandatory ≡ Some f)
    → proof_code_fault m words ≡ Some f
code_told m words e f (inl memory) not_memory told = absurd (not_memory memory)
code_told m words e f (inr is) not_memory told =
    subst (λ (b : Bool). cond b (code_fault (join_with_byte 32 words) m) None ≡ Some f) (sym is.0) (told (join_with_byte 32 words) m is.1)

-- a database without a fault has none of its statements
second_none : (a b : Option Fault) → or_else a b ≡ None → b ≡ None
second_none None b e = e
second_none (Some f) b e = let clash : Some f ≡ None = e in absurd cc

none_behind : (long : Bool) (f : Fault) (a b : Option Fault) → cond long (Some f) (or_else a b) ≡ None → b ≡ None
none_behind true f a b e = let clash : Some f ≡ None = e in absurd cc
none_behind false f a b e = second_none a b e

pub no_statement_fault : (text : List ℕ) → database_fault text ≡ None → statement_fault text ≡ None
no_statement_fault text e = none_behind (nat_lt (2 ^ 28) (length text)) (fault (2 ^ 28) 30) (token_fault text) (statement_fault text) e
