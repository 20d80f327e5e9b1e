use Rattle.std.proofs.Common.{◌∙◌, ap, sym, subst, arith, length}
use Rattle.std.specs.Prelude.{◌-◌}
use Rattle.std.proofs.lemmas.Result.{IfOk-weaker}
use Rattle.proof_tree.specs.Given.{used_at}
use Rattle.proof_tree.specs.Standing.{Proves, StandFor}
use Rattle.written_steps.specs.Drafts.{book, items_in}
use Rattle.written_model.specs.WrittenSteps.{steps_in}
use Rattle.written_model.specs.ProofTrees.{place_proof, step_proofs}
use Rattle.sheet_text.specs.declared.sheet.Given.TheVariants as place
use Rattle.sheet_proof.specs.Texts.{IsGraphOf}
use Rattle.sheet_proof.proofs.UsedLaws.{stand_for, last_used, not_empty}
use Rattle.sheet_proof.proofs.TextLaws.{last_is}
use Rattle.sheet_proof.proofs.text.graph_of.Goals as goal

pub overflow_sub-count : goal.overflow_sub-count
overflow_sub-count c =
    let n = not_empty c.args.db.now c.args.items c.requires.sound c.requires.provable in
    let e = ap length c.in_ok-steps.ensures in
    let l = c.len.ensures in
    let k = c.in-Ok.ensures.1 in
    omega (arith, n, e, l, k)

pub build-requires : goal.build-requires
build-requires c =
    let n = not_empty c.args.db.now c.args.items c.requires.sound c.requires.provable in
    let e = ap length c.in_ok-steps.ensures in
    let l = c.len.ensures in
    let k = c.in-Ok.ensures.1 in
    ap (λ ps. used_at ps (c.in-Ok.count - 1)) (c.as_slice-2.ensures.value ∙ c.in_ok-steps.ensures)
    ∙ (last_used c.args.db.now c.args.items c.requires.sound c.requires.provable (c.in-Ok.count - 1) (omega (arith, n, e, l, k))).1

pub returns : goal.returns
returns c =
    let d = c.args.db.now in
    let es = steps_in (items_in d c.args.items) in
    let n = not_empty d c.args.items c.requires.sound c.requires.provable in
    let e = ap length c.in_ok-steps.ensures in
    let l = c.len.ensures in
    let k = c.in-Ok.ensures.1 in
    let root = last_used d c.args.items c.requires.sound c.requires.provable (c.in-Ok.count - 1) (omega (arith, n, e, l, k)) in
    IfOk-weaker c.build.result (Proves d c.as_slice.result.now c.as_slice-2.result.now (c.in-Ok.count - 1)) (IsGraphOf d c.args.theorem.now es)
    (λ nodes p kinds text opened.
    p kinds text es opened
    (subst (StandFor (book kinds text d) es) (sym (c.as_slice-2.ensures.value ∙ c.in_ok-steps.ensures))
    (stand_for d c.args.items c.requires.sound c.requires.provable kinds text opened))
    ∙ ap (λ hyps. place_proof (step_proofs (book kinds text d) hyps es) (place.Step (c.in-Ok.count - 1))) c.as_slice.ensures
    ∙ last_is (book kinds text d) c.args.theorem.now es c.requires.provable.front c.requires.provable.last (c.in-Ok.count - 1) c.requires.provable.whole root.0)
    c.build.ensures
