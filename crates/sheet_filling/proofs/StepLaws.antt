-- The step with what fills it.
use Rattle.std.proofs.Common.{◌≡◌, ℕ, [], map, Option, Some, None, sym, ap, subst, ◌∙◌}
use Rattle.std.specs.Prelude.{slice_index_or}
use Rattle.mm_model.specs.Book.{Database}
use Rattle.mm_frames.specs.Contents.{Contents}
use Rattle.mm_database.specs.Books.{database_of}
use Rattle.mm_database.specs.Opened.{Opened}
use Rattle.sheet_text.specs.declared.sheet.Given.TheVariants as given
use Rattle.sheet_text.specs.declared.sheet.SheetStep.{SheetStep}
use Rattle.written_model.specs.declared.options.Options.{Options}
use Rattle.written_model.specs.Written.{Writing, written_step}
use Rattle.written_model.specs.WrittenSteps.{WrittenStep}
use Rattle.auto_model.specs.AutoFilled.{choice_of, filled, none, stays}
use Rattle.auto_model.specs.declared.auto.Auto.{Auto}
use Rattle.sheet_filling.specs.declared.written.WrittenFormulas.{WrittenFormulas}
use Rattle.sheet_filling.specs.Filled.{ForStep, IsSought, IsStepFilled, filled_with, passed, sought, step_with, with_reference}

module _ (db : Database) (options : Options) (w : Writing) (k : ℕ) (e : WrittenStep) where
  filled_as : (c : Contents) → db.labels ≡ c.labels → (s : SheetStep) (o : Option Auto) → s ≡ written_step db e → IsSought db options w k e o → IsStepFilled db options w k e (step_with c s o)
  filled_as c labels s o is (passed h none_is) = (e, ap (step_with c s) none_is ∙ is, stays h)
  filled_as c labels s None is (sought h by) = (e, is, none h by)
  filled_as c labels s (Some a) is (sought h by) = (
    record e { reference = Some (slice_index_or db.labels a.label.0 []); places = map (λ j. given.Step j) a.places },
    ap (λ x. filled_with c x a) is
        ∙ ap (λ ls. with_reference (written_step db e) (slice_index_or ls a.label.0 []) (map (λ j. given.Step j) a.places)) (sym labels),
    filled (choice_of a.label a.places) h by.first,
  )

pub step_filled : (d : Opened) (written : WrittenFormulas) (k : ℕ) (s : SheetStep) (o : Option Auto) (c : Contents) (t : SheetStep) → c ≡ d.contents → t ≡ step_with c s o
    → ForStep d written k s (λ db options w e. IsSought db options w k e o) → ForStep d written k s (λ db options w e. IsStepFilled db options w k e t)
step_filled d written k s o c t same t_is h kinds text options w e opened of at is =
    let db = database_of kinds text d.rows d.parsed in
    let labels : db.labels ≡ c.labels = sym (ap (λ (x : Contents). x.labels) (same ∙ opened.contents)) in
    subst (IsStepFilled db options w k e) (sym t_is) (filled_as db options w k e c labels s o is (h kinds text options w e opened of at is))
