use Rattle.std.proofs.Common.{ap, subst, sym, ◌∙◌, take, List}
use Rattle.std.specs.List.{flat_map}
use Rattle.std.proofs.lemmas.List.{take_all}
use Rattle.solve_model.specs.declared.bound.BoundStep.{BoundStep}
use Rattle.written_model.specs.Named.{WorkVariable}
use Rattle.leaf_names.specs.Tables.{AreRead, AddsRead, step_leaves}
use Rattle.leaf_names.proofs.ReadLaws.{pieces_more, none_read, read_on}
use Rattle.leaf_names.proofs.read.read_works.Goals as goal

pub loop-step-init : goal.loop-step-init
loop-step-init c = subst (AreRead _) (sym c.new-read.ensures.empty) none_read

pub loop-step-preserved : goal.loop-step-preserved
loop-step-preserved c =
    let f = step_leaves c.args.g.now in
    let xs = c.as_slice-step-items.result.now in
    let i = c.loop-step.step-index in
    subst (λ (ws : List WorkVariable). AreRead ws c.add_step.new.read.keys) (sym (pieces_more f xs i _ c.loop-step-test.true))
    (read_on (flat_map f (take i xs)) _ c.loop-step.read.keys c.add_step.new.read.keys c.loop-step.invariant
    (subst (λ (s : BoundStep). AddsRead (f s) c.loop-step.read.keys c.add_step.new.read.keys) c.step-item.is c.in_ok-add_step.ensures))

pub returns : goal.returns
returns c =
    let f = step_leaves c.args.g.now in
    subst (λ (ws : List WorkVariable). AreRead ws c.loop-step.read.keys)
    (ap (flat_map f) (take_all c.loop-step.step-index c.as_slice-step-items.result.now c.loop-step-test.false ∙ c.as_slice-step-items.ensures)) c.loop-step.invariant
