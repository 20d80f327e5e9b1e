use Rattle.std.proofs.Common.{arith, ℕ, ap, sym, ◌∙◌, ◌≤◌, length, option_map}
use Rattle.mm_model.specs.Statements.{labels, statements}
use Rattle.mm_frames.specs.Contents.{Contents}
use Rattle.stack_verify.proofs.ProofRanges.{no_label}
use Rattle.stack_verify.proofs.coding.proof_start.Goals as goal

pub returns-then-label-labels : goal.returns-then-label-labels
returns-then-label-labels c = λ text read.
    let count = c.labels.ensures ∙ ap (λ (x : Contents). length x.labels) read in
    let past : length (labels (statements text)) ≤ c.args.label.0 = omega (arith, count, c.if-label-labels.true) in
    sym (ap (option_map (λ (r : ℕ × ℕ). r.0)) (no_label (statements text) c.args.label past))
