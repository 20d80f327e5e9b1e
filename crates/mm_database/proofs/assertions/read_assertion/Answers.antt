use Rattle.std.proofs.Common.{ap, ◌∙◌, subst, refl, map, Option, List}
use Rattle.std.specs.List.{AllZip}
use Rattle.mm_base.specs.declared.tree.Tree.{Tree}
use Rattle.mm_model.specs.declared.frames.Hyp.{Hyp}
use Rattle.mm_model.specs.Productions.{essentials}
use Rattle.mm_database.specs.declared.variables.FrameVariable.{FrameVariable}
use Rattle.mm_database.specs.Variables.{frame_variables}
use Rattle.mm_database.specs.Formulas.{IsAnswer, IsReadBy}
use Rattle.mm_database.proofs.Wholes.{no_hyps, read_whole}
use Rattle.mm_database.proofs.assertions.read_assertion.Goals as goal

pub returns-in_default-read : goal.returns-in_default-read
returns-in_default-read c =
    let f = c.args.frame.now in
    let vars = c.in_ok-vars.vars.items in
    let own = c.in_ok-vars.ensures.variables ∙ ap frame_variables c.as_slice.ensures in
    let Q =
    λ (vs : List FrameVariable) (o : Option (List Tree)). IsAnswer
    (AllZip (λ (h : Hyp) (t : Tree). IsReadBy c.args.kinds c.args.grammar.now c.args.constants.now f.at vs h.formula t)
    (essentials c.as_slice-3.result.now)) o in
    let none = subst (Q vars) c.in_default-read.is (subst (λ vs. Q vs c.in_ok-read-2.read) c.deref.ensures.value c.in_ok-read-2.ensures) in
    no_hyps c.args.kinds c.args.grammar.now c.args.constants.now f vars own f.formula refl c.as_slice-3.result.now c.as_slice-3.ensures none

pub returns : goal.returns
returns c =
    let f = c.args.frame.now in
    let vars = c.in_ok-vars.vars.items in
    let own = c.in_ok-vars.ensures.variables ∙ ap frame_variables c.as_slice.ensures in
    let P = λ (vs : List FrameVariable) (o : Option Tree). IsAnswer (IsReadBy c.args.kinds c.args.grammar.now c.args.constants.now f.at vs c.as_slice-2.result.now) o in
    let Q =
    λ (vs : List FrameVariable) (o : Option (List Tree)). IsAnswer
    (AllZip (λ (h : Hyp) (t : Tree). IsReadBy c.args.kinds c.args.grammar.now c.args.constants.now f.at vs h.formula t)
    (essentials c.as_slice-3.result.now)) o in
    let tree = subst (P vars) c.in-Some.is (subst (λ vs. P vs c.in_ok-read.read) c.deref.ensures.value c.in_ok-read.ensures) in
    let hyps = subst (Q vars) c.in-Some-read.is (subst (λ vs. Q vs c.in_ok-read-2.read) c.deref.ensures.value c.in_ok-read-2.ensures) in
    let syms = c.from_vec.ensures ∙ c.in_ok-symbols.ensures ∙ ap (map (λ (v : FrameVariable). v.sym)) c.deref-2.ensures.value in
    read_whole c.args.kinds c.args.grammar.now c.args.constants.now f vars own c.as_slice-2.result.now c.as_slice-2.ensures c.as_slice-3.result.now c.as_slice-3.ensures
    c.in-Some.tree c.in-Some-read.hyps c.from_vec.result tree hyps syms
