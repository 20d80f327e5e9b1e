-- A draft with named leaves is the named draft of the definitions.
use Rattle.std.specs.Prelude.{◌≡◌, ◌+◌, ◌<◌, ℕ, List, [], ◌∷◌, ◌++◌, length, map, take, get_or, Option, Some, None, option_map, option_and_then, option_to_list, refl}
use Rattle.std.specs.List.{AllByRecursion}
use Rattle.std.specs.Option.{ForSome}
use Rattle.std.proofs.Common.{sym, ap, subst, ◌∙◌}
use Rattle.std.proofs.lemmas.List.{append-nil, length-map}
use Rattle.mm_base.specs.declared.tree.Tree.{Tree}
use Rattle.mm_database.specs.Opened.{Opened}
use Rattle.mm_database.proofs.Lists.{filter_map_found, filter_map_none, map_more}
use Rattle.mm_model.specs.Book.{Assertion, Database}
use Rattle.solve_model.specs.declared.bound.Bound.{Bound}
use Rattle.solve_laws.proofs.Elements.{first, later}
use Rattle.written_model.specs.WrittenSteps.{Use, WrittenStep, WrittenItem, step, over_step, steps_in, trees}
use Rattle.written_model.specs.Named.{Naming, name_tree, name_use, name_step, name_items}
use Rattle.writing_laws.specs.TokenCounts.{NamedHasCount}
use Rattle.again_laws.specs.Second.{NumbersFit}
use Rattle.leaf_names.specs.Tables.{Table, naming_of}
use Rattle.leaf_names.specs.Named.{IsNamesOf, NamesAreNaming}
use Rattle.written_steps.specs.declared.draft.StepUse.{StepUse}
use Rattle.written_steps.specs.declared.draft.DraftStep.{DraftStep}
use Rattle.written_steps.specs.declared.draft.DraftItem.{DraftItem}
use Rattle.written_steps.specs.declared.draft.DraftItem.TheVariants as draft
use Rattle.written_steps.specs.Drafts.{book, usable_in, use_in, item_in, items_in, IsSoundUse, IsSoundItem, AreSound}
use Rattle.step_naming.specs.Named.{rename_use, rename_item, tree_of, formulas, HasSmallLeaves, AreSmallLeaves, NamesThem, AreWrittenShort, AreNamed}
use Rattle.step_naming.proofs.ShortLaws.{named_short}

-- ---- one more

-- a list of what becomes of each, with one more at its end
pub mapped_on : {X Y : Type 0} (f : X → Y) (xs : List X) (k : ℕ) (d : X) (ys : List Y) (y : Y) → k < length xs → ys ≡ map f (take k xs) → y ≡ f d → d ≡ get_or xs k d
    → ys ++ y ∷ [] ≡ map f (take (k + 1) xs)
mapped_on f xs k d ys y l e is at = ap (λ zs. zs ++ y ∷ []) e ∙ ap (λ z. map f (take k xs) ++ z ∷ []) (is ∙ ap f at) ∙ sym (map_more f xs k d l)

-- ---- the formulas

-- one item more
pub formulas_more : (items : List DraftItem) (k : ℕ) (d : DraftItem) → k < length items → formulas (take (k + 1) items) ≡ formulas (take k items) ++ option_to_list (tree_of (get_or items k d))
formulas_more items k d l = by (tree_of (get_or items k d)) refl
  where
    by : (o : Option Tree) → tree_of (get_or items k d) ≡ o → formulas (take (k + 1) items) ≡ formulas (take k items) ++ option_to_list o
    by None e = filter_map_none tree_of items k d l e ∙ sym (append-nil (formulas (take k items)))
    by (Some t) e = filter_map_found tree_of items k d l t e

pub trees_are : (d : Opened) (items : List DraftItem) → trees (steps_in (items_in d items)) ≡ formulas items
trees_are d [] = refl
trees_are d (draft.Comment lines ∷ items) = trees_are d items
trees_are d (draft.Step s ∷ items) = ap (λ ts. s.tree ∷ ts) (trees_are d items)

-- the leaves of each are small where all are
pub each_small : (items : List DraftItem) → AreSmallLeaves (formulas items) → AllByRecursion HasSmallLeaves items
each_small [] h = tt
each_small (draft.Comment lines ∷ items) h = (tt, each_small items h)
each_small (draft.Step s ∷ items) h = (
  (λ c n o. h c n (s.tree, first s.tree s.tree (formulas items) refl, o)),
  each_small items (λ c n l. h c n (l.0, later l.0 s.tree (formulas items) l.1, l.2)),
)

-- ---- items

module _ (d : Opened) (names : Naming) where
  use_by : (u : StepUse) (o : Option Assertion) → option_map (λ (a : Assertion). let v : Use = record { assertion = a; values = map (name_tree names) u.values } in v) o
      ≡ name_use names (option_map (λ (a : Assertion). let v : Use = record { assertion = a; values = u.values } in v) o)
  use_by u None = refl
  use_by u (Some a) = refl

  use_renamed : (o : Option StepUse) → option_and_then (use_in d) (option_map (rename_use names) o) ≡ name_use names (option_and_then (use_in d) o)
  use_renamed None = refl
  use_renamed (Some u) = use_by u (usable_in d u.label)

  abbrev made : DraftStep → Option Use → WrittenStep
  made s o = record { hyp = s.hyp; name = s.name; places = s.places; reference = s.reference; tree = name_tree names s.tree; verdict = s.verdict; by = o }

  item_renamed : (i : DraftItem) → item_in d (rename_item names i) ≡ over_step (name_step names) (item_in d i)
  item_renamed (draft.Comment lines) = refl
  item_renamed (draft.Step s) = ap (λ (o : Option Use). step (made s o)) (use_renamed s.by)

  pub items_renamed : (items : List DraftItem) → items_in d (map (rename_item names) items) ≡ name_items names (items_in d items)
  items_renamed [] = refl
  items_renamed (i ∷ items) =
      ap (λ (x : WrittenItem). x ∷ items_in d (map (rename_item names) items)) (item_renamed i)
      ∙ ap (λ xs. over_step (name_step names) (item_in d i) ∷ xs) (items_renamed items)

  sound_use : (o : Option StepUse) → ForSome o (IsSoundUse d) → ForSome (option_map (rename_use names) o) (IsSoundUse d)
  sound_use None h x e = absurd (cc)
  sound_use (Some u) h x e =
      let k = h u refl in
      subst (IsSoundUse d) (same e) (record { assertion = k.assertion; is_usable = k.is_usable; count = length-map u.values (name_tree names) ∙ k.count })
    where
      same : Some (rename_use names u) ≡ Some x → rename_use names u ≡ x
      same q = cc

  sound_item : (i : DraftItem) → IsSoundItem d i → IsSoundItem d (rename_item names i)
  sound_item (draft.Comment lines) h = h
  sound_item (draft.Step s) h = sound_use s.by h

  pub sound_renamed : (items : List DraftItem) → AreSound d items → AreSound d (map (rename_item names) items)
  sound_renamed [] h = h
  sound_renamed (i ∷ items) h = (sound_item i h.0, sound_renamed items h.1)

-- ---- the answer

pub are_named : (d : Opened) (bound : Bound) (items named : List DraftItem) (t : Table) → NamesAreNaming → ((db : Database) → NamedHasCount db)
    → NumbersFit (naming_of t.given) → IsNamesOf d bound (formulas items) t
    → named ≡ map (rename_item (naming_of t.given)) items → AreNamed d bound items named
are_named d bound items named t law counts fit is e = record {
  names = names;
  fit = fit;
  naming = naming;
  items_are = items_are;
  sound = λ h. subst (AreSound d) (sym e) (sound_renamed d names items h);
  short = λ kinds text before opened writable short.
      subst (λ xs. AreWrittenShort d (steps_in xs)) (sym items_are)
      (named_short (book kinds text d) (counts (book kinds text d)) bound (trees (steps_in (items_in d items))) names (naming kinds text before opened writable) short (items_in d items) (λ u m. m));
}
  where
    names : Naming
    names = naming_of t.given

    naming : NamesThem d bound (trees (steps_in (items_in d items))) names
    naming kinds text before opened writable =
        law kinds text d bound before (trees (steps_in (items_in d items))) t opened (subst (λ ts. IsNamesOf d bound ts t) (sym (trees_are d items)) is) writable

    items_are : items_in d named ≡ name_items names (items_in d items)
    items_are = ap (items_in d) e ∙ items_renamed d names items
