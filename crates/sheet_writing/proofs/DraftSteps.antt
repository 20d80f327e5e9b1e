-- The steps of a draft and those of the definitions.
use Rattle.std.specs.Prelude.{◌≡◌, ◌+◌, ◌<◌, ℕ, zero, suc, List, [], ◌∷◌, length, drop, get_or, Contains, None, refl}
use Rattle.std.proofs.Common.{sym, ap, subst, ◌∙◌, arith, add-one}
use Rattle.std.proofs.Math.Seq.{drop-cons}
use Rattle.mm_database.specs.Opened.{Opened}
use Rattle.solve_laws.proofs.Elements.{first, later}
use Rattle.written_model.specs.WrittenSteps.{steps_in}
use Rattle.written_steps.specs.declared.draft.DraftStep.{DraftStep}
use Rattle.written_steps.specs.declared.draft.DraftItem.{DraftItem}
use Rattle.written_steps.specs.declared.draft.DraftItem.TheVariants as draft
use Rattle.written_steps.specs.Drafts.{step_in, items_in, step_of, drafts_in}

-- a step of a draft is among them
pub step_there : (d : Opened) (items : List DraftItem) (k : ℕ) (e : DraftItem) (s : DraftStep) → k < length items → get_or items k e ≡ draft.Step s
    → Contains (steps_in (items_in d items)) (step_in d s)
step_there d [] k e s l is = absurd (omega (arith, l))
step_there d (i ∷ items) zero e s l is =
    subst (λ (x : DraftItem). Contains (steps_in (items_in d (x ∷ items))) (step_in d s)) (sym is) (first (step_in d s) (step_in d s) (steps_in (items_in d items)) refl)
step_there d (draft.Comment lines ∷ items) (suc k) e s l is = step_there d items k e s (omega (arith, l)) is
step_there d (draft.Step t ∷ items) (suc k) e s l is = later (step_in d s) (step_in d t) (steps_in (items_in d items)) (step_there d items k e s (omega (arith, l)) is)

-- ---- the steps from a place on

from_there : (items : List DraftItem) (k : ℕ) (e i : DraftItem) → k < length items → get_or items k e ≡ i → drop k items ≡ i ∷ drop (k + 1) items
from_there items k e i l is = drop-cons items k e l ∙ ap (λ (x : DraftItem). x ∷ drop (suc k) items) is ∙ ap (λ n. i ∷ drop n items) (sym (add-one k))

pub from_comment : (items : List DraftItem) (k : ℕ) (e i : DraftItem) → k < length items → get_or items k e ≡ i → step_of i ≡ None → drafts_in (drop k items) ≡ drafts_in (drop (k + 1) items)
from_comment items k e (draft.Comment lines) l is none = ap drafts_in (from_there items k e (draft.Comment lines) l is)
from_comment items k e (draft.Step s) l is none = absurd (cc)

pub from_step : (items : List DraftItem) (k : ℕ) (e : DraftItem) (s : DraftStep) → k < length items → get_or items k e ≡ draft.Step s → drafts_in (drop k items) ≡ s ∷ drafts_in (drop (k + 1) items)
from_step items k e s l is = ap drafts_in (from_there items k e (draft.Step s) l is)
