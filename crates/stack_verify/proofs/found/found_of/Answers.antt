use Rattle.std.proofs.Common.{sym, ap, ◌∙◌}
use Rattle.std.specs.Option.{option_copied}
use Rattle.stack_verify.proofs.FoundLaw.{frame_found, hyp_found, late_frame, no_frame}
use Rattle.stack_verify.proofs.found.found_of.Goals as goal

pub returns-in-Some : goal.returns-in-Some
returns-in-Some c = λ frames label h f. hyp_found frames c.args.theorem.now label c.in-Some.number (sym c.in-Some.is ∙ h)

pub returns-in-None-frame : goal.returns-in-None-frame
returns-in-None-frame c = λ frames label h f. no_frame frames c.args.theorem.now label (sym c.in-None.is ∙ h) (ap option_copied (sym c.in-None-frame.is) ∙ f)

pub returns-then-frame-theorem : goal.returns-then-frame-theorem
returns-then-frame-theorem c =
    λ frames label h f. frame_found frames c.args.theorem.now label c.in-Some-frame.frame (sym c.in-None.is ∙ h)
    (ap option_copied (sym c.in-Some-frame.is) ∙ f) c.if-frame-theorem.true

pub returns-else-frame-theorem : goal.returns-else-frame-theorem
returns-else-frame-theorem c =
    λ frames label h f. late_frame frames c.args.theorem.now label c.in-Some-frame.frame.now (sym c.in-None.is ∙ h)
    (ap option_copied (sym c.in-Some-frame.is) ∙ f) c.if-frame-theorem.false
