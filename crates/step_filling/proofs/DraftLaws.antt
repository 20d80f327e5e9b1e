-- Drafts as the definitions have them.
use Rattle.std.specs.Prelude.{◌≡◌, ℕ, List, [], ◌∷◌, ◌++◌, length, map, zip, Option, Some, None, refl}
use Rattle.std.proofs.Common.{sym, ap, subst, ◌∙◌, arith, append_assoc}
use Rattle.std.proofs.lemmas.List.{map-append}
use Rattle.std.proofs.lemmas.List.Elements.{filter_map-append}
use Rattle.mm_base.specs.declared.tree.Tree.{Tree}
use Rattle.mm_model.specs.Names.{Name}
use Rattle.mm_database.specs.Opened.{Opened}
use Rattle.written_model.specs.WrittenSteps.{WrittenStep, WrittenItem, step, step_of, steps_in, trees}
use Rattle.written_model.specs.Filled.{made_step, derived_names}
use Rattle.hyp_derive.specs.Naming.{HaveSameNames}
use Rattle.written_steps.specs.declared.draft.DraftStep.{DraftStep}
use Rattle.written_steps.specs.declared.draft.DraftItem.{DraftItem}
use Rattle.written_steps.specs.declared.draft.DraftItem.TheVariants as draft
use Rattle.written_steps.specs.declared.draft.StepUse.{StepUse}
use Rattle.written_steps.specs.Drafts.{step_in, item_in, items_in, IsSoundStep, AreSound}
use Rattle.step_filling.specs.Kept.{Kept, derived_item, names_in, IsInStep, AreMade, IsOwnPut}
use Rattle.step_filling.proofs.NameLaws.{length-derived_names}

module _ (d : Opened) where
  pub drafts_made : (ps : List (Name × Tree)) → items_in d (map derived_item ps) ≡ map step (map made_step ps)
  drafts_made [] = refl
  drafts_made (p ∷ ps) = ap (λ (is : List WrittenItem). step (made_step p) ∷ is) (drafts_made ps)

  steps-made : (es : List WrittenStep) → steps_in (map step es) ≡ es
  steps-made [] = refl
  steps-made (e ∷ es) = ap (λ (xs : List WrittenStep). e ∷ xs) (steps-made es)

  trees-made : (names : List Name) (ts : List Tree) → length names ≡ length ts → trees (map made_step (zip names ts)) ≡ ts
  trees-made [] [] e = refl
  trees-made [] (t ∷ ts) e = absurd (omega (arith, e))
  trees-made (n ∷ ns) [] e = absurd (omega (arith, e))
  trees-made (n ∷ ns) (t ∷ ts) e = ap (λ (us : List Tree). t ∷ us) (trees-made ns ts (omega (arith, e)))

  names-made : (names : List Name) (ts : List Tree) → length names ≡ length ts → map (λ (e : WrittenStep). e.name) (map made_step (zip names ts)) ≡ names
  names-made [] [] e = refl
  names-made [] (t ∷ ts) e = absurd (omega (arith, e))
  names-made (n ∷ ns) [] e = absurd (omega (arith, e))
  names-made (n ∷ ns) (t ∷ ts) e = ap (λ (us : List Name). n ∷ us) (names-made ns ts (omega (arith, e)))

  sound-made : (ps : List (Name × Tree)) → AreSound d (map derived_item ps)
  sound-made [] = tt
  sound-made (p ∷ ps) = ((λ u e. let impossible : ◌≡◌ {A = Option StepUse} None (Some u) = e in absurd (cc)), sound-made ps)

  pub sound_join : (xs ys : List DraftItem) → AreSound d xs → AreSound d ys → AreSound d (xs ++ ys)
  sound_join [] ys h k = k
  sound_join (x ∷ xs) ys h k = (h.0, sound_join xs ys h.1 k)

  -- the items with more behind
  items-more : (xs ys : List DraftItem) → items_in d (xs ++ ys) ≡ items_in d xs ++ items_in d ys
  items-more xs ys = map-append (item_in d) xs ys

  steps-more : (xs ys : List DraftItem) → steps_in (items_in d (xs ++ ys)) ≡ steps_in (items_in d xs) ++ steps_in (items_in d ys)
  steps-more xs ys = ap steps_in (items-more xs ys) ∙ filter_map-append step_of (items_in d xs) (items_in d ys)

  trees-more : (xs ys : List DraftItem) → trees (steps_in (items_in d (xs ++ ys))) ≡ trees (steps_in (items_in d xs)) ++ trees (steps_in (items_in d ys))
  trees-more xs ys = ap trees (steps-more xs ys) ∙ map-append (λ (e : WrittenStep). e.tree) (steps_in (items_in d xs)) (steps_in (items_in d ys))

  names-more : (xs ys : List DraftItem) → map (λ (e : WrittenStep). e.name) (steps_in (items_in d (xs ++ ys)))
      ≡ map (λ (e : WrittenStep). e.name) (steps_in (items_in d xs)) ++ map (λ (e : WrittenStep). e.name) (steps_in (items_in d ys))
  names-more xs ys = ap (map (λ (e : WrittenStep). e.name)) (steps-more xs ys) ∙ map-append (λ (e : WrittenStep). e.name) (steps_in (items_in d xs)) (steps_in (items_in d ys))

  module _ (used : List Name) where
    -- new steps are put in
    module _ (old new : Kept) (made : List Tree) (in_step : IsInStep d used old) (are : AreMade old new made) where
      abbrev given : List Name
      given = derived_names (length made) (used ++ names_in d old)

      given_count : length given ≡ length made
      given_count = length-derived_names (length made) (used ++ names_in d old)

      abbrev more : List DraftItem
      more = map derived_item (zip given made)

      pub made_items : new.items ≡ old.items ++ more
      made_items = are.put.items_are (used ++ names_in d old) in_step.names

      steps_are : steps_in (items_in d more) ≡ map made_step (zip given made)
      steps_are = ap steps_in (drafts_made (zip given made)) ∙ steps-made (map made_step (zip given made))

      pub made_in : items_in d new.items ≡ items_in d old.items ++ map step (map made_step (zip given made))
      made_in = ap (items_in d) made_items ∙ items-more old.items more ∙ ap (λ (is : List WrittenItem). items_in d old.items ++ is) (drafts_made (zip given made))

      pub made_in_step : IsInStep d used new
      made_in_step = record {
        trees = are.put.trees_are ∙ ap (λ (ts : List Tree). ts ++ made) in_step.trees
            ∙ ap (λ (ts : List Tree). trees (steps_in (items_in d old.items)) ++ ts) (sym (ap trees steps_are ∙ trees-made given made given_count))
            ∙ sym (trees-more old.items more) ∙ ap (λ (is : List DraftItem). trees (steps_in (items_in d is))) (sym made_items);
        names =
            let all : names_in d new ≡ names_in d old ++ given = ap (λ (is : List DraftItem). map (λ (e : WrittenStep). e.name) (steps_in (items_in d is))) made_items ∙ names-more old.items more
            ∙ ap (λ (ns : List Name). names_in d old ++ ns) (ap (map (λ (e : WrittenStep). e.name)) steps_are ∙ names-made given made given_count) in
            subst (HaveSameNames new.names) (append_assoc used (names_in d old) given ∙ ap (λ (ns : List Name). used ++ ns) (sym all)) (are.put.names_are (used ++ names_in d old) in_step.names);
        sound = subst (AreSound d) (sym made_items) (sound_join old.items more in_step.sound (sound-made (zip given made)));
      }

    -- a step of the worksheet is put in
    module _ (old new : Kept) (s : DraftStep) (in_step : IsInStep d used old) (put : IsOwnPut old new s) (sound : IsSoundStep d s) where
      pub own_in : items_in d new.items ≡ items_in d old.items ++ step (step_in d s) ∷ []
      own_in = ap (items_in d) put.items ∙ items-more old.items (draft.Step s ∷ [])

      pub own_in_step : IsInStep d used new
      own_in_step = record {
        trees =
            put.trees ∙ ap (λ (ts : List Tree). ts ++ s.tree ∷ []) in_step.trees ∙ sym (trees-more old.items (draft.Step s ∷ []))
            ∙ ap (λ (is : List DraftItem). trees (steps_in (items_in d is))) (sym put.items);
        names =
            let all : names_in d new ≡ names_in d old ++ s.name ∷ [] =
            ap (λ (is : List DraftItem). map (λ (e : WrittenStep). e.name) (steps_in (items_in d is))) put.items
            ∙ names-more old.items (draft.Step s ∷ []) in
            subst (HaveSameNames new.names) (append_assoc used (names_in d old) (s.name ∷ []) ∙ ap (λ (ns : List Name). used ++ ns) (sym all)) (put.names (used ++ names_in d old) in_step.names);
        sound = subst (AreSound d) (sym put.items) (sound_join old.items (draft.Step s ∷ []) in_step.sound (sound, tt));
      }

      pub own_numbers : new.numbers ≡ old.numbers ++ length (steps_in (items_in d old.items)) ∷ []
      own_numbers = put.numbers ∙ ap (λ (ts : List Tree). old.numbers ++ length ts ∷ []) in_step.trees ∙ ap (λ (n : ℕ). old.numbers ++ n ∷ []) (count (steps_in (items_in d old.items)))
        where
          count : (es : List WrittenStep) → length (trees es) ≡ length es
          count [] = refl
          count (e ∷ es) = let rest = count es in omega (arith, rest)
