-- What a written worksheet becomes when it is unified again.
use Rattle.std.specs.Prelude.{ℕ, ◌+◌, List, [], ◌∷◌, map, unwrap_or, slice_get, Option, Some, None, option_map}
use Rattle.std.specs.Option.{option_map_or}
use Rattle.mm_base.specs.declared.tree.Tree.TheVariants.{Work, Fresh}
use Rattle.mm_model.specs.Book.{Database}
use Rattle.solve_model.specs.declared.verdict.Verdict.{Verdict}
use Rattle.solve_model.specs.declared.verdict.Verdict.TheVariants as verdict
use Rattle.solve_model.specs.Solutions.{named, blank, copy, Valuation}
use Rattle.solve_model.specs.Verdicts.{Judgement, accepted, stands, asked}
use Rattle.written_model.specs.declared.options.Options.{Options}
use Rattle.written_model.specs.declared.report.ReportVerdict.{ReportVerdict}
use Rattle.written_model.specs.declared.report.ReportVerdict.TheVariants as report
use Rattle.written_model.specs.WrittenSteps.{Use, WrittenStep, steps_in, over_step, no_tree, value_of}
use Rattle.written_model.specs.Written.{Writing, written_sheet, written_bound}

-- a reference that was found is named now, and fits
abbrev pub verdict_again : ReportVerdict → ReportVerdict
verdict_again report.Found = report.Fits
verdict_again v = v

abbrev pub step_again : WrittenStep → WrittenStep
step_again e = record e { verdict = verdict_again e.verdict }

abbrev pub unreported : ReportVerdict → Verdict
unreported report.Fits = verdict.Fits
unreported report.Found = verdict.Fits
unreported report.NoFit = verdict.NoFit
unreported report.UnknownRef = verdict.UnknownRef
unreported report.NotUsable = verdict.NotUsable
unreported report.TooManyHyps = verdict.TooManyHyps
unreported report.NoRef = verdict.NoRef
unreported report.Hyp = verdict.Hyp

abbrev pub judgement_by : ℕ → WrittenStep → Option Use → Judgement
judgement_by i e None = stands (unreported e.verdict)
judgement_by i e (Some u) = accepted (asked i u.assertion e.places)

-- the judgements of the written steps: those that fit or are found are accepted, with their places as written
abbrev pub judgements_from : ℕ → List WrittenStep → List Judgement
judgements_from i [] = []
judgements_from i (e ∷ es) = judgement_by i e e.by ∷ judgements_from (i + 1) es

abbrev pub use_at : List WrittenStep → ℕ → Option Use
use_at es i = unwrap_or (option_map (λ (e : WrittenStep). e.by) (slice_get es i)) None

-- each work variable is itself, and each variable of a use has its value
abbrev pub value_again : List WrittenStep → Valuation
value_again es (named c n) = Work c n
value_again es (blank i) = no_tree
value_again es (copy i s c) = option_map_or (λ u. value_of u s) (use_at es i) (Fresh c i)

-- what the written text becomes
abbrev pub again : Database → Options → Writing → Writing
again db options w =
    record {
      read = written_sheet db options w;
      bound = written_bound db options w;
      judgements = judgements_from 0 (steps_in w.items);
      value = value_again (steps_in w.items);
      names = λ c n. None;
      items = map (over_step step_again) w.items;
      finished = w.finished;
    }
