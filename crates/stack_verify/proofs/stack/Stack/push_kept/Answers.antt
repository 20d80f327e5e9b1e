use Rattle.std.proofs.Common.{◌∙◌, List, ap, sym}
use Rattle.std.specs.Prelude.{slice_get}
use Rattle.stack_verify.specs.declared.formula.Span.{Span}
use Rattle.stack_verify.proofs.Parts.{kept_pushed}
use Rattle.stack_verify.proofs.stack.Stack.push_kept.Goals as goal

pub returns-in_ok-push-in-Some-clause-pushed : goal.returns-in_ok-push-in-Some-clause-pushed
returns-in_ok-push-in-Some-clause-pushed c =
    kept_pushed c.args.self.now.symbols.items c.args.self.now.entries.items c.push.new.self.items c.args.self.now.kept.items c.args.number c.in-Some.span
    c.in_ok-push-in-Some.ensures.items (ap (λ (l : List Span). slice_get l c.args.number) (sym c.as_slice.ensures.value) ∙ sym c.span_at.ensures ∙ c.in-Some.is)
