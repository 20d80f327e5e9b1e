use Rattle.std.proofs.Common.{◌≡◌, [], slice_index_or, ap, ◌∙◌}
use Rattle.mm_model.specs.Statements.{statements}
use Rattle.model_laws.proofs.Checked.{no_statement_fault}
use Rattle.mm_frames.specs.Contents.{Contents, contents_of}
use Rattle.proof_model.specs.DatabaseProofs.{theorem_of_frame}
use Rattle.proof_export.proofs.Opening.{runs_in, sheet_is}
use Rattle.proof_export.proofs.export.export_sheet.Goals as goal

pub export_items-requires : goal.export_items-requires
export_items-requires c =
    let h = c.requires in
    let same : c.frames-frames.result.now ≡ contents_of h.text = c.frames-frames.ensures ∙ h.opened.contents in
    let is = c.in_ok-theorem.ensures h.text h.frame same (no_statement_fault h.text h.opened.no_fault) h.frame_is in
    runs_in c.frames-frames.result.now h.text c.args.kinds.now.provable c.in_ok-theorem.theorem h.frame c.args.code.now same is h.accepts

pub returns : goal.returns
returns c = λ text f opened frame_is.
    let same : c.frames-frames.result.now ≡ contents_of text = c.frames-frames.ensures ∙ opened.contents in
    let is = c.in_ok-theorem.ensures text f same (no_statement_fault text opened.no_fault) frame_is in
    sheet_is c.frames-frames.result.now text c.args.kinds.now c.args.db.now.rows c.args.db.now.parsed c.in_ok-theorem.theorem (theorem_of_frame (statements text) f) c.in_ok-copy_of.field-0
    (slice_index_or c.args.db.now.contents.labels c.args.label.0 []) c.args.code.now c.in_ok-export_items.field-0 c.as_slice.result.now c.in_ok-pair_lines.field-0 same is
    (c.in_ok-copy_of.ensures ∙ c.label_name.ensures ∙ ap (λ (d : Contents). slice_index_or d.labels c.args.label.0 []) c.frames-frames.ensures)
    c.in_ok-export_items.ensures c.as_slice.ensures c.in_ok-pair_lines.ensures
