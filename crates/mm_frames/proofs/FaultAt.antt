-- An error at a token is the first fault, where none stands before.
use Rattle.std.proofs.Common.{◌≡◌, ℕ, Option, Some, sym, ap, ◌∙◌}
use Rattle.mm_model.specs.Faults.{Fault, fault}
use Rattle.mm_frames.specs.declared.fault.ReadFault.{ReadFault}
use Rattle.mm_frames.specs.declared.fault.ReadFault.TheVariants as faults
use Rattle.mm_frames.specs.Faults.{IsFault}
use Rattle.mm_frames.specs.Reading.{FailsAt}

pub fault-at : (e : ReadFault) (start : ℕ) (code : Option ℕ) (first : Option Fault) → FailsAt e start code → ((c : ℕ) → code ≡ Some c → first ≡ Some (fault start c)) → IsFault e first
fault-at faults.Memory start code first h f = tt
fault-at (faults.Include at) start code first h f = f 10 h.1 ∙ ap (λ (k : ℕ). Some (fault k 10)) (sym h.0)
fault-at (faults.ConstInBlock at) start code first h f = f 11 h.1 ∙ ap (λ (k : ℕ). Some (fault k 11)) (sym h.0)
fault-at (faults.Redeclared at) start code first h f = f 12 h.1 ∙ ap (λ (k : ℕ). Some (fault k 12)) (sym h.0)
fault-at (faults.NotActive at) start code first h f = f 13 h.1 ∙ ap (λ (k : ℕ). Some (fault k 13)) (sym h.0)
fault-at (faults.NoType at) start code first h f = f 14 h.1 ∙ ap (λ (k : ℕ). Some (fault k 14)) (sym h.0)
fault-at (faults.TwoTypes at) start code first h f = f 15 h.1 ∙ ap (λ (k : ℕ). Some (fault k 15)) (sym h.0)
fault-at (faults.FirstNotConst at) start code first h f = f 16 h.1 ∙ ap (λ (k : ℕ). Some (fault k 16)) (sym h.0)
fault-at (faults.LabelTaken at) start code first h f = f 17 h.1 ∙ ap (λ (k : ℕ). Some (fault k 17)) (sym h.0)
fault-at (faults.LabelMissing at) start code first h f = f 18 h.1 ∙ ap (λ (k : ℕ). Some (fault k 18)) (sym h.0)
fault-at (faults.LabelExtra at) start code first h f = f 19 h.1 ∙ ap (λ (k : ℕ). Some (fault k 19)) (sym h.0)
fault-at (faults.BadLabel at) start code first h f = f 20 h.1 ∙ ap (λ (k : ℕ). Some (fault k 20)) (sym h.0)
fault-at (faults.Unended at) start code first h f = f 21 h.1 ∙ ap (λ (k : ℕ). Some (fault k 21)) (sym h.0)
fault-at (faults.BlockOpen at) start code first h f = f 22 h.1 ∙ ap (λ (k : ℕ). Some (fault k 22)) (sym h.0)
fault-at (faults.BlockUnopened at) start code first h f = f 23 h.1 ∙ ap (λ (k : ℕ). Some (fault k 23)) (sym h.0)
fault-at (faults.DistinctShort at) start code first h f = f 24 h.1 ∙ ap (λ (k : ℕ). Some (fault k 24)) (sym h.0)
fault-at (faults.DistinctTwice at) start code first h f = f 25 h.1 ∙ ap (λ (k : ℕ). Some (fault k 25)) (sym h.0)
fault-at (faults.EmptyFormula at) start code first h f = f 26 h.1 ∙ ap (λ (k : ℕ). Some (fault k 26)) (sym h.0)
fault-at (faults.BadHypothesis at) start code first h f = f 27 h.1 ∙ ap (λ (k : ℕ). Some (fault k 27)) (sym h.0)
fault-at (faults.NoProof at) start code first h f = f 28 h.1 ∙ ap (λ (k : ℕ). Some (fault k 28)) (sym h.0)
fault-at (faults.StrayToken at) start code first h f = f 29 h.1 ∙ ap (λ (k : ℕ). Some (fault k 29)) (sym h.0)
