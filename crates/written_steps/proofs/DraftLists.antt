-- The steps of a draft, and those among its first items.
use Rattle.std.specs.Prelude.{◌≡◌, ℕ, ◌+◌, ◌<◌, List, [], ◌∷◌, ◌++◌, length, map, take, get_or, None, refl}
use Rattle.std.specs.List.{AllByRecursion}
use Rattle.std.specs.Borrow.{Bor}
use Rattle.std.proofs.Common.{sym, ap, ◌∙◌}
use Rattle.std.proofs.lemmas.List.{map-append}
use Rattle.mm_database.specs.Opened.{Opened}
use Rattle.mm_database.proofs.Lists.{filter_map_found, filter_map_none}
use Rattle.written_model.specs.WrittenSteps.{steps_in}
use Rattle.written_steps.specs.declared.draft.DraftStep.{DraftStep}
use Rattle.written_steps.specs.declared.draft.DraftItem.{DraftItem}
use Rattle.written_steps.specs.declared.draft.DraftItem.TheVariants as draft
use Rattle.written_steps.specs.Drafts.{AreSound, IsSoundStep, drafts_in, items_in, refs, step_in, step_of}

-- the steps of a draft are those that are written
pub steps_are : (d : Opened) (items : List DraftItem) → steps_in (items_in d items) ≡ map (step_in d) (drafts_in items)
steps_are d [] = refl
steps_are d (draft.Comment lines ∷ items) = steps_are d items
steps_are d (draft.Step s ∷ items) = ap (λ es. step_in d s ∷ es) (steps_are d items)

pub sound_drafts : (d : Opened) (items : List DraftItem) → AreSound d items → AllByRecursion (IsSoundStep d) (drafts_in items)
sound_drafts d [] h = tt
sound_drafts d (draft.Comment lines ∷ items) h = sound_drafts d items h.1
sound_drafts d (draft.Step s ∷ items) h = (h.0, sound_drafts d items h.1)

pub step_more : (items : List DraftItem) (k : ℕ) (d : DraftItem) (steps more : List (Bor DraftStep)) (r : Bor DraftStep) (s : DraftStep)
    → k < length items → get_or items k d ≡ draft.Step s → r.now ≡ s
    → refs steps ≡ drafts_in (take k items) → more ≡ steps ++ r ∷ [] → refs more ≡ drafts_in (take (k + 1) items)
step_more items k d steps more r s l e n h m =
    let found = filter_map_found step_of items k d l s (ap step_of e) in
    let split : refs (steps ++ r ∷ []) ≡ refs steps ++ r.now ∷ [] = map-append (λ (b : Bor DraftStep). b.now) steps (r ∷ []) in
    ap refs m ∙ split ∙ ap (λ xs. xs ++ r.now ∷ []) h ∙ ap (λ x. drafts_in (take k items) ++ x ∷ []) n ∙ sym found

pub comment_more : (items : List DraftItem) (k : ℕ) (d : DraftItem) (steps : List (Bor DraftStep)) → k < length items → step_of (get_or items k d) ≡ None
    → refs steps ≡ drafts_in (take k items) → refs steps ≡ drafts_in (take (k + 1) items)
comment_more items k d steps l e h = h ∙ sym (filter_map_none step_of items k d l e)
