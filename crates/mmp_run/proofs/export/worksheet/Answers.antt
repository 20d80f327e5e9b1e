use Rattle.std.proofs.Common.{◌∙◌, ap, None}
use Rattle.std.proofs.lemmas.Result.{IfOk-weaker}
use Rattle.sheet_text.specs.declared.sheet.Sheet.{Sheet}
use Rattle.sheet_text.specs.Layout.{layout}
use Rattle.mmp_run.proofs.export.worksheet.Goals as goal

pub returns : goal.returns
returns c = λ text f opened frame_is.
    IfOk-weaker c.layout.result _ _ (λ t is. is ∙ ap (λ (s : Sheet). layout s None) (c.in_ok-sheet.ensures text f opened frame_is)) c.layout.ensures.text
