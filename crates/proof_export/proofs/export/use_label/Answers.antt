use Rattle.std.proofs.Common.{◌≡◌, ◌<◌, List, Option, Some, None, length, sym, subst, ap, ◌∙◌, arith, rules, Ok}
use Rattle.std.proofs.lemmas.Result.{IfOk-weaker, on_ok_weaker}
use Rattle.std.specs.Option.{option_copied}
use Rattle.mm_model.specs.declared.frames.Hyp.{Hyp}
use Rattle.proof_model.specs.Machine.{State}
use Rattle.written_model.specs.Written.{frames_of}
use Rattle.proof_export.specs.Books.{book_in}
use Rattle.proof_export.specs.Machines.{state, applied_to}
use Rattle.proof_export.proofs.Applying.{found_hyp, hyp_taken, hyp_goes, frame_goes}
use Rattle.proof_export.proofs.Rounds.{placed}
use Rattle.proof_export.proofs.Using.{frame_used, nothing_named}
use Rattle.proof_export.proofs.export.use_label.Goals as goal

pub offset_bounds-as_slice-number : goal.offset_bounds-as_slice-number
offset_bounds-as_slice-number c =
    let first = placed c.args.theorem.now.hyps c.args.places.now.entries c.args.name.now c.hyp_place.result (Some c.in-Some.number) c.requires.hyps c.hyp_place.ensures c.in-Some.is in
    let below : c.in-Some.number < length c.as_slice.result.now = subst (λ (hs : List Hyp). c.in-Some.number < length hs) (sym c.as_slice.ensures) first.0 in
    first_of (omega arith, search rules)

pub bounds-as_slice-number : goal.bounds-as_slice-number
bounds-as_slice-number c =
    let first = placed c.args.theorem.now.hyps c.args.places.now.entries c.args.name.now c.hyp_place.result (Some c.in-Some.number) c.requires.hyps c.hyp_place.ensures c.in-Some.is in
    subst (λ (hs : List Hyp). c.in-Some.number < length hs) (sym c.as_slice.ensures) first.0

pub unreachable-requires : goal.unreachable-requires
unreachable-requires c =
    let db = book_in c.args.frames.now c.args.kinds.now.provable in
    let none = placed c.args.theorem.now.hyps c.args.places.now.entries c.args.name.now c.hyp_place.result None c.requires.hyps c.hyp_place.ensures c.in-None.is in
    nothing_named (frames_of db) c.args.theorem.now c.args.name.now (state c.args.machine.now) none
    (sym (c.frame_named.ensures c.args.kinds.now.provable) ∙ ap (λ (o : Option _). option_copied o) c.in-None-frame_named.is) c.requires.passes

pub apply-requires : goal.apply-requires
apply-requires c =
    let db = book_in c.args.frames.now c.args.kinds.now.provable in
    let none = placed c.args.theorem.now.hyps c.args.places.now.entries c.args.name.now c.hyp_place.result None c.requires.hyps c.hyp_place.ensures c.in-None.is in
    let found = sym (c.frame_named.ensures c.args.kinds.now.provable) ∙ ap (λ (o : Option _). option_copied o) c.in-Some-frame_named.is in
    (frame_used (frames_of db) c.args.theorem.now c.args.name.now (state c.args.machine.now) c.in-Some-frame_named.frame.now none found c.requires.passes).0

pub returns-in_ok-push-in-Some-clause-state : goal.returns-in_ok-push-in-Some-clause-state
returns-in_ok-push-in-Some-clause-state c =
    let thm = c.args.theorem.now in
    let h = c.index-as_slice-number.result in
    let first = placed thm.hyps c.args.places.now.entries c.args.name.now c.hyp_place.result (Some c.in-Some.number) c.requires.hyps c.hyp_place.ensures c.in-Some.is in
    hyp_taken (frames_of (book_in c.args.frames.now c.args.kinds.now.provable)) thm c.args.name.now (state c.args.machine.now) (state c.push.new.self) h c.as_slice-in-Some.result.now
    (found_hyp thm c.args.name.now c.as_slice.result.now c.in-Some.number h first c.as_slice.ensures c.index-as_slice-number.is)
    (c.as_slice-in-Some.ensures ∙ ap (λ (x : Hyp). x.formula) (sym c.index-as_slice-number.is)) c.in_ok-push-in-Some.ensures

pub returns-in_ok-push-in-Some-clause-goes : goal.returns-in_ok-push-in-Some-clause-goes
returns-in_ok-push-in-Some-clause-goes c = λ rest.
    let thm = c.args.theorem.now in
    let h = c.index-as_slice-number.result in
    let first = placed thm.hyps c.args.places.now.entries c.args.name.now c.hyp_place.result (Some c.in-Some.number) c.requires.hyps c.hyp_place.ensures c.in-Some.is in
    hyp_goes (book_in c.args.frames.now c.args.kinds.now.provable) thm c.args.name.now h c.args.steps.now (state c.args.machine.now).stack (state c.push.new.self).stack rest
    (found_hyp thm c.args.name.now c.as_slice.result.now c.in-Some.number h first c.as_slice.ensures c.index-as_slice-number.is)

pub returns-in-Some-frame_named-clause-state : goal.returns-in-Some-frame_named-clause-state
returns-in-Some-frame_named-clause-state c =
    let db = book_in c.args.frames.now c.args.kinds.now.provable in
    let none = placed c.args.theorem.now.hyps c.args.places.now.entries c.args.name.now c.hyp_place.result None c.requires.hyps c.hyp_place.ensures c.in-None.is in
    let found = sym (c.frame_named.ensures c.args.kinds.now.provable) ∙ ap (λ (o : Option _). option_copied o) c.in-Some-frame_named.is in
    let used = frame_used (frames_of db) c.args.theorem.now c.args.name.now (state c.args.machine.now) c.in-Some-frame_named.frame.now none found c.requires.passes in
    on_ok_weaker c.apply.result
    (λ (e : state c.apply.new.machine ≡ applied_to c.in-Some-frame_named.frame.now (state c.args.machine.now)). used.1
    ∙ ap (λ (x : State). Ok x) (sym e)) c.apply.ensures.state

pub returns-in-Some-frame_named-clause-goes : goal.returns-in-Some-frame_named-clause-goes
returns-in-Some-frame_named-clause-goes c =
    let db = book_in c.args.frames.now c.args.kinds.now.provable in
    let thm = c.args.theorem.now in
    let frame = c.in-Some-frame_named.frame.now in
    let none = placed thm.hyps c.args.places.now.entries c.args.name.now c.hyp_place.result None c.requires.hyps c.hyp_place.ensures c.in-None.is in
    let found = sym (c.frame_named.ensures c.args.kinds.now.provable) ∙ ap (λ (o : Option _). option_copied o) c.in-Some-frame_named.is in
    IfOk-weaker c.apply.result _ _
    (λ last goes rest. frame_goes db thm c.args.name.now frame last c.args.steps.now c.apply.new.steps (state c.args.machine.now).stack (state c.apply.new.machine).stack rest none found (goes rest))
    c.apply.ensures.goes
