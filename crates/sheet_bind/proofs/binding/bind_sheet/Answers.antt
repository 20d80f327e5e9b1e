use Rattle.std.proofs.Common.{◌≡◌, ◌≤◌, ◌<◌, ◌∙◌, subst, length}
use Rattle.std.proofs.lemmas.Result.{IfOk-weaker, IfErr-weaker}
use Rattle.mm_frames.specs.Contents.{Contents}
use Rattle.mm_database.specs.Books.{database_of}
use Rattle.sheet_bind.specs.Judging.{scene}
use Rattle.sheet_bind.specs.Places.{sheet_place}
use Rattle.sheet_bind.specs.Results.{IsBound, IsRefused, IsBoundAt, IsRefusedAt}
use Rattle.sheet_bind.proofs.OpenLaws.{bound_is, refused_is}
use Rattle.sheet_bind.proofs.binding.bind_sheet.Goals as goal

pub returns-in-Ok-clause-bound : goal.returns-in-Ok-clause-bound
returns-in-Ok-clause-bound c = λ text opened.
    let d = c.args.db.now in
    let kinds = c.args.kinds.now in
    let s = c.args.sheet.now in
    let p = c.in-Ok.place in
    let few = subst (λ (e : Contents). length e.entries < 4294967296) c.frames-frames.ensures c.has_few_statements.ensures in
    let within = subst (λ (e : Contents). p.setting.place ≤ length e.entries) c.frames-frames.ensures c.in-Ok.ensures.within in
    let p_is = subst (λ (e : Contents). p ≡ sheet_place text e kinds.logic s) c.frames-frames.ensures
    (c.in-Ok.ensures.place text (c.frames-frames.ensures ∙ opened.contents) opened.no_fault) in
    IfOk-weaker c.bind_at.result (IsBoundAt (scene d kinds.provable s.theorem p.setting) s p) (IsBound (database_of kinds text d.rows d.parsed) s)
    (λ b h. bound_is kinds text d opened few s p p_is within b h) c.bind_at.ensures.bound

pub returns-in-Ok-clause-refused : goal.returns-in-Ok-clause-refused
returns-in-Ok-clause-refused c = λ text opened.
    let d = c.args.db.now in
    let kinds = c.args.kinds.now in
    let s = c.args.sheet.now in
    let p = c.in-Ok.place in
    let few = subst (λ (e : Contents). length e.entries < 4294967296) c.frames-frames.ensures c.has_few_statements.ensures in
    let within = subst (λ (e : Contents). p.setting.place ≤ length e.entries) c.frames-frames.ensures c.in-Ok.ensures.within in
    let p_is = subst (λ (e : Contents). p ≡ sheet_place text e kinds.logic s) c.frames-frames.ensures
    (c.in-Ok.ensures.place text (c.frames-frames.ensures ∙ opened.contents) opened.no_fault) in
    IfErr-weaker c.bind_at.result (IsRefusedAt (scene d kinds.provable s.theorem p.setting) s p) (IsRefused (database_of kinds text d.rows d.parsed) s)
    (λ e h. refused_is kinds text d opened few s p p_is within e h) c.bind_at.ensures.refused
