use Rattle.std.proofs.Common.{◌∷◌, [], ◌++◌, Vec, Global, sym, ap, ◌∙◌}
use Rattle.mm_database.specs.declared.variables.FrameVariable.{FrameVariable}
use Rattle.mm_database.specs.Variables.{variable_of}
use Rattle.mm_database.proofs.Lists.{filter_map_found, filter_map_none}
use Rattle.mm_database.proofs.variables.frame_variables.Goals as goal
use Rattle.mm_database.proofs.variables.frame_variables.Goals.{in-Some+in_ok-push, in_default}

pub loop-hyp-preserved : goal.loop-hyp-preserved
loop-hyp-preserved c =
    let hs = c.args.hyps.now in
    let k = c.loop-hyp.hyp-index in
    let item = c.hyp-item.result in
    let there = ap variable_of (sym c.hyp-item.is) in
    elim c.match-variable_of.branch [
      | in-Some+in_ok-push w ↦ ap (λ (v : Vec FrameVariable Global). v.items) w.vars-is ∙ w.in_ok-push.ensures.items ∙ ap (λ xs. xs ++ w.in-Some.variable ∷ []) c.loop-hyp.invariant
          ∙ sym (filter_map_found variable_of hs k item c.loop-hyp-test.true w.in-Some.variable (there ∙ sym w.in-Some.ensures))
      | in_default w ↦ ap (λ (v : Vec FrameVariable Global). v.items) w.vars-is ∙ c.loop-hyp.invariant
          ∙ sym (filter_map_none variable_of hs k item c.loop-hyp-test.true (there ∙ sym w.in_default.ensures))
    ]
