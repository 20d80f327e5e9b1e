use Rattle.std.proofs.Common.{◌≡◌, ◌≤◌, ◌<◌, ◌∙◌, subst, length}
use Rattle.std.proofs.lemmas.Result.{IfOk-weaker}
use Rattle.mm_frames.specs.Contents.{Contents}
use Rattle.mm_database.specs.Books.{database_of}
use Rattle.solve_model.specs.Binding.{theorem_of}
use Rattle.sheet_bind.specs.Places.{sheet_place}
use Rattle.sheet_bind.specs.Results.{proved_in}
use Rattle.sheet_bind.proofs.OpenLaws.{theorem_is_of}
use Rattle.sheet_bind.proofs.binding.sheet_theorem.Goals as goal

pub returns-in-Ok : goal.returns-in-Ok
returns-in-Ok c = λ text opened.
    let d = c.args.db.now in
    let kinds = c.args.kinds.now in
    let s = c.args.sheet.now in
    let p = c.in-Ok.place in
    let few = subst (λ (e : Contents). length e.entries < 4294967296) c.frames-frames.ensures c.has_few_statements.ensures in
    let within = subst (λ (e : Contents). p.setting.place ≤ length e.entries) c.frames-frames.ensures c.in-Ok.ensures.within in
    let p_is = subst (λ (e : Contents). p ≡ sheet_place text e kinds.logic s) c.frames-frames.ensures
    (c.in-Ok.ensures.place text (c.frames-frames.ensures ∙ opened.contents) opened.no_fault) in
    IfOk-weaker c.theorem_at.result (λ t. t ≡ (proved_in d s p).theorem) (λ t. t ≡ theorem_of (database_of kinds text d.rows d.parsed) s)
    (λ t h. h ∙ theorem_is_of kinds text d opened few s p p_is within) c.theorem_at.ensures
