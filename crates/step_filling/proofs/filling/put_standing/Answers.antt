use Rattle.std.proofs.Common.{ap, ◌∙◌, List, map, None, ℕ}
use Rattle.std.proofs.lemmas.List.{append-nil}
use Rattle.sheet_text.specs.declared.sheet.Given.{Given}
use Rattle.written_model.specs.declared.report.ReportVerdict.{ReportVerdict}
use Rattle.written_model.specs.Filled.{written_place, reported}
use Rattle.step_filling.specs.Kept.{Kept, draft_of}
use Rattle.step_filling.proofs.StepLaws.{on_ok}
use Rattle.step_filling.proofs.filling.put_standing.Goals as goal

pub returns : goal.returns
returns c =
    let s = c.args.step.now in
    on_ok c.put_own.result (λ put. record {
      own = c.in_ok-own.own;
      is = c.in_ok-own.ensures ∙ ap (λ (v : ReportVerdict). draft_of s c.in_ok-places.places c.args.tree v None) c.reported.ensures
          ∙ ap (λ (ps : List Given). draft_of s ps c.args.tree (reported c.args.verdict) None)
          (c.in_ok-places.ensures ∙ append-nil (map (written_place c.as_slice.result.now) c.as_slice-2.result.now)
          ∙ ap (λ (ns : List ℕ). map (written_place ns) c.as_slice-2.result.now) (c.as_slice.ensures.value ∙ ap (λ (k : Kept). k.numbers) c.filling.view_is)
          ∙ ap (map (written_place c.args.filling.now.numbers)) c.as_slice-2.ensures);
      put = put;
    }) c.put_own.ensures
