-- What is found for the steps of a draft is what is found for the steps that are written.
use Rattle.std.specs.Prelude.{◌≡◌, ◌<◌, ◌+◌, ℕ, zero, suc, true, List, [], ◌∷◌, ◌++◌, length, map, zip, take, slice_index_or, get_or, option_map, Option, Some, None, refl}
use Rattle.std.specs.List.{AllByRecursion, AllZip}
use Rattle.std.proofs.Common.{sym, ap, subst, ◌∙◌, arith, add-one}
use Rattle.mm_base.specs.declared.kinds.Kinds.{Kinds}
use Rattle.mm_base.specs.declared.symbols.Label.{Label}
use Rattle.mm_base.specs.declared.symbols.Pair.{Pair}
use Rattle.mm_model.specs.Names.{Name}
use Rattle.mm_model.specs.Book.{Assertion, label_name}
use Rattle.mm_frames.specs.Contents.{Contents}
use Rattle.mm_frames.proofs.Queries.{frame-is}
use Rattle.mm_database.specs.Books.{usable_with}
use Rattle.mm_database.specs.Opened.{Opened, IsOpened}
use Rattle.sheet_text.specs.declared.sheet.Given.{Given}
use Rattle.written_model.specs.declared.options.DvMode.{DvMode}
use Rattle.written_model.specs.declared.report.ReportVerdict.TheVariants as report
use Rattle.written_model.specs.Found.{is_to_be_searched, IsSearched}
use Rattle.written_model.specs.WrittenSteps.{Use, WrittenStep, steps_in}
use Rattle.written_steps.specs.declared.draft.DraftStep.{DraftStep}
use Rattle.written_steps.specs.declared.draft.DraftItem.{DraftItem}
use Rattle.written_steps.specs.declared.draft.DraftItem.TheVariants as draft
use Rattle.written_steps.specs.Drafts.{AreSound, IsSoundUse, drafts_in, items_in, step_in, usable_in, use_in}
use Rattle.written_steps.proofs.DraftLists.{steps_are}
use Rattle.ref_search.specs.declared.wanted.Found.{Found}
use Rattle.ref_search.specs.Completing.{use_of}
use Rattle.ref_search.specs.Searching.{book, HasFound, IsSoundBelow}
use Rattle.ref_search.specs.Wholes.{IsFoundFor, places_at}
use Rattle.step_searching.specs.Searched.{FindsItem, IsSearchOf, passed, searched, IsSoundFound, ItemIsSearched, with_found, pair_with}
use Rattle.step_searching.proofs.ApplyLaws.{IsWithin}

some_is : {X : Type 0} {x y : X} → Some x ≡ Some y → x ≡ y
some_is e = cc

-- ---- what is found is sound

pub all_sound : (d : Opened) (o : Option Found) → HasFound (IsSoundBelow d (length d.contents.labels)) o → HasFound (IsSoundFound d) o
all_sound d None h = tt
all_sound d (Some found) h = record { within = h.below; by = record { assertion = h.by.assertion; is_usable = h.by.is_usable; count = h.by.count } }

-- ---- what is found, in a text

module _ (kinds : Kinds) (text : List ℕ) (d : Opened) (opened : IsOpened kinds text d) where
  usable_same : (l : Label) → usable_in d l ≡ (book kinds text d).usable l
  usable_same l = ap (usable_with d.parsed l) (frame-is d.contents l text opened.contents)

  -- ---- a step becomes the searched one

  module _ (place : ℕ) (mode : DvMode) (allowed : List Pair) (es : List WrittenStep) (s : DraftStep) where
    abbrev Becomes : WrittenStep → Type 0
    Becomes f = IsSearched (book kinds text d) place mode allowed es (step_in d s) f

    abbrev with : List Given → Name → Option Use → WrittenStep
    with places name by = record (step_in d s) { reference = Some name; places = places; verdict = report.Found; by = by }

    name_same : (l : Label) → label_name (book kinds text d) l ≡ slice_index_or d.contents.labels l.0 []
    name_same l = sym (ap (λ (c : Contents). slice_index_or c.labels l.0 []) opened.contents)

    step_found : (found : Found) → is_to_be_searched es (step_in d s) ≡ true → IsFoundFor (book kinds text d) place mode allowed es (step_in d s) (Some found)
        → Becomes (step_in d (with_found d.contents s (Some found)))
    step_found found t h =
        let a : Assertion = h.values.0 in
        let usable : usable_in d found.label ≡ Some a = usable_same found.label ∙ h.values.1.is_usable in
        let used : use_in d (record { label = found.label; values = found.trees }) ≡ Some (use_of a found.trees) =
        ap (option_map (λ (b : Assertion). use_of b found.trees)) usable in
        let first : Becomes (with (places_at (step_in d s) found.order) (label_name (book kinds text d) found.label) (Some (use_of a found.trees))) = IsSearched.found t h.found h.values.1 in
        subst (λ o. Becomes (with (places_at (step_in d s) found.order) (slice_index_or d.contents.labels found.label.0 []) o)) (sym used)
        (subst (λ n. Becomes (with (places_at (step_in d s) found.order) n (Some (use_of a found.trees)))) (name_same found.label) first)

    step_searched : (o : Option Found) → is_to_be_searched es (step_in d s) ≡ true → IsFoundFor (book kinds text d) place mode allowed es (step_in d s) o
        → Becomes (step_in d (with_found d.contents s o))
    step_searched None t h = IsSearched.none t h.found
    step_searched (Some found) t h = step_found found t h

    becomes : (o : Option Found) → IsSearchOf (book kinds text d) place mode allowed es (step_in d s) o → Becomes (step_in d (with_found d.contents s o))
    becomes o (passed t n) = subst (λ x. Becomes (step_in d (with_found d.contents s x))) (sym n) (IsSearched.not_searched t)
    becomes o (searched t h) = step_searched o t h

  pub all_searched : (place : ℕ) (mode : DvMode) (allowed : List Pair) (es : List WrittenStep) (items : List DraftItem) (found : List (Option Found))
      → AllZip (FindsItem (book kinds text d) place mode allowed d es) items found
      → AllZip (ItemIsSearched (book kinds text d) place mode allowed es) (items_in d items) (items_in d (map (pair_with d.contents) (zip items found)))
  all_searched place mode allowed es [] [] h = tt
  all_searched place mode allowed es [] (o ∷ found) h = absurd h
  all_searched place mode allowed es (i ∷ items) [] h = absurd h
  all_searched place mode allowed es (draft.Comment lines ∷ items) (o ∷ found) h = (refl, all_searched place mode allowed es items found h.1)
  all_searched place mode allowed es (draft.Step s ∷ items) (o ∷ found) h =
      ((step_in d (with_found d.contents s o), refl, becomes place mode allowed es s o h.0), all_searched place mode allowed es items found h.1)

-- ---- the items stay sound

pub stay_sound : (d : Opened) (items : List DraftItem) (found : List (Option Found)) → AreSound d items → AllByRecursion (HasFound (IsSoundFound d)) found
    → AreSound d (map (pair_with d.contents) (zip items found))
stay_sound d [] found h k = tt
stay_sound d (i ∷ items) [] h k = tt
stay_sound d (draft.Comment lines ∷ items) (o ∷ found) h k = (tt, stay_sound d items found h.1 k.1)
stay_sound d (draft.Step s ∷ items) (None ∷ found) h k = (h.0, stay_sound d items found h.1 k.1)
stay_sound d (draft.Step s ∷ items) (Some f ∷ found) h k = (λ u e. subst (IsSoundUse d) (some_is e) k.0.by, stay_sound d items found h.1 k.1)

pub are_within : (d : Opened) (found : List (Option Found)) → AllByRecursion (HasFound (IsSoundFound d)) found → AllByRecursion (IsWithin d.contents) found
are_within d [] k = tt
are_within d (None ∷ found) k = (tt, are_within d found k.1)
are_within d (Some f ∷ found) k = (k.0.within, are_within d found k.1)

-- ---- one item more

pub all_more : {X : Type 0} (P : X → Type 0) (xs : List X) (x : X) → AllByRecursion P xs → P x → AllByRecursion P (xs ++ x ∷ [])
all_more P [] x h k = (k, tt)
all_more P (y ∷ xs) x h k = (h.0, all_more P xs x h.1 k)

zip_next : {X Y : Type 0} (R : X → Y → Type 0) (xs : List X) (k : ℕ) (d : X) (ys : List Y) (y : Y) → k < length xs → AllZip R (take k xs) ys → R (get_or xs k d) y
    → AllZip R (take (suc k) xs) (ys ++ y ∷ [])
zip_next R [] k d ys y l h r = absurd (omega (arith, l))
zip_next R (x ∷ xs) zero d [] y l h r = (r, tt)
zip_next R (x ∷ xs) zero d (z ∷ ys) y l h r = absurd h
zip_next R (x ∷ xs) (suc k) d [] y l h r = absurd h
zip_next R (x ∷ xs) (suc k) d (z ∷ ys) y l h r = (h.0, zip_next R xs k d ys y (omega (arith, l)) h.1 r)

pub zip_more : {X Y : Type 0} (R : X → Y → Type 0) (xs : List X) (k : ℕ) (d : X) (ys : List Y) (y : Y) → k < length xs → AllZip R (take k xs) ys → R (get_or xs k d) y
    → AllZip R (take (k + 1) xs) (ys ++ y ∷ [])
zip_more R xs k d ys y l h r = rw add-one (zip_next R xs k d ys y l h r)

-- so far
pub record FoundTo (d : Opened) (place : ℕ) (mode : DvMode) (allowed : List Pair) (es : List WrittenStep) (items : List DraftItem) (found : List (Option Found)) : Type 0 where
  pub sound : AllByRecursion (HasFound (IsSoundFound d)) found
  pub finds : (kinds : Kinds) (text : List ℕ) → IsOpened kinds text d → AllZip (FindsItem (book kinds text d) place mode allowed d es) items found

pub found_more : (d : Opened) (place : ℕ) (mode : DvMode) (allowed : List Pair) (es : List WrittenStep) (items : List DraftItem) (k : ℕ) (i : DraftItem) (found new : List (Option Found))
    (o : Option Found)
    → k < length items → i ≡ get_or items k i → FoundTo d place mode allowed es (take k items) found → HasFound (IsSoundFound d) o
    → ((kinds : Kinds) (text : List ℕ) → IsOpened kinds text d → FindsItem (book kinds text d) place mode allowed d es i o) → new ≡ found ++ o ∷ []
    → FoundTo d place mode allowed es (take (k + 1) items) new
found_more d place mode allowed es items k i found new o l g h s f n = subst (FoundTo d place mode allowed es (take (k + 1) items)) (sym n) (record {
  sound = all_more (HasFound (IsSoundFound d)) found o h.sound s;
  finds = λ kinds text opened.
      zip_more (FindsItem (book kinds text d) place mode allowed d es) items k i found o l (h.finds kinds text opened)
      (subst (λ x. FindsItem (book kinds text d) place mode allowed d es x o) g (f kinds text opened));
})

pub item_found : (kinds : Kinds) (text : List ℕ) (d : Opened) (place : ℕ) (mode : DvMode) (allowed : List Pair) (es : List WrittenStep) (item : DraftItem) (s : DraftStep) (o : Option Found)
    → item ≡ draft.Step s
    → IsSearchOf (book kinds text d) place mode allowed es (step_in d s) o → FindsItem (book kinds text d) place mode allowed d es item o
item_found kinds text d place mode allowed es item s o e h = subst (λ i. FindsItem (book kinds text d) place mode allowed d es i o) (sym e) h

-- ---- all items

-- the lists that the calls give are the items, and what is kept is the database's
pub record IsPutTo (d : Opened) (items new : List DraftItem) (found : List (Option Found)) : Type 0 where
  pub new_is : new ≡ map (pair_with d.contents) (zip items found)

pub put_to : (d : Opened) (c : Contents) (items vec new : List DraftItem) (found : List (Option Found)) → c ≡ d.contents → vec ≡ items → new ≡ map (pair_with c) (zip vec found)
    → IsPutTo d items new found
put_to d c items vec new found e f n = record { new_is = n ∙ ap (λ x. map (pair_with x) (zip vec found)) e ∙ ap (λ is. map (pair_with d.contents) (zip is found)) f }

pub new_sound : (d : Opened) (items new : List DraftItem) (found : List (Option Found)) → IsPutTo d items new found → AreSound d items → AllByRecursion (HasFound (IsSoundFound d)) found
    → AreSound d new
new_sound d items new found p h k = subst (AreSound d) (sym p.new_is) (stay_sound d items found h k)

pub new_searched : (kinds : Kinds) (text : List ℕ) (d : Opened) → IsOpened kinds text d
    → (place : ℕ) (mode : DvMode) (allowed : List Pair) (items slice new : List DraftItem) (found : List (Option Found)) → slice ≡ items
    → IsPutTo d items new found → AllZip (FindsItem (book kinds text d) place mode allowed d (map (step_in d) (drafts_in slice))) slice found
    → AllZip (ItemIsSearched (book kinds text d) place mode allowed (steps_in (items_in d items))) (items_in d items) (items_in d new)
new_searched kinds text d opened place mode allowed items slice new found e p h =
    let there : AllZip (FindsItem (book kinds text d) place mode allowed d (map (step_in d) (drafts_in items))) items found =
    subst (λ xs. AllZip (FindsItem (book kinds text d) place mode allowed d (map (step_in d) (drafts_in xs))) xs found) e h in
    let whole : AllZip (FindsItem (book kinds text d) place mode allowed d (steps_in (items_in d items))) items found =
    subst (λ es. AllZip (FindsItem (book kinds text d) place mode allowed d es) items found) (sym (steps_are d items)) there in
    subst (λ is. AllZip (ItemIsSearched (book kinds text d) place mode allowed (steps_in (items_in d items))) (items_in d items) (items_in d is)) (sym p.new_is)
    (all_searched kinds text d opened place mode allowed (steps_in (items_in d items)) items found whole)
