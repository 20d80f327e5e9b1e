-- What a writing rests on, step by step.
use Rattle.std.specs.Prelude.{◌≡◌, ◌&&◌, ◌||◌, not, ℕ, zero, suc, ◌+◌, true, List, [], ◌∷◌, length, map, fold, filter_map, slice_get, Some, refl}
use Rattle.std.specs.List.{AllZip, list_all}
use Rattle.std.specs.Option.{option_map_or}
use Rattle.std.proofs.Common.{sym, ap, subst, ◌∙◌, arith}
use Rattle.std.proofs.lemmas.Bool.{and_parts}
use Rattle.std.proofs.lemmas.List.{length-map}
use Rattle.mm_base.specs.declared.symbols.Label.{Label}
use Rattle.mm_model.specs.Book.{Database, Assertion}
use Rattle.mm_model.specs.BookFacts.{IsDatabase}
use Rattle.mm_model.specs.Labels.{is_label}
use Rattle.mm_model.specs.Names.{Name}
use Rattle.sheet_text.specs.declared.sheet.Sheet.{Sheet}
use Rattle.sheet_text.specs.declared.sheet.SheetItem.{SheetItem}
use Rattle.sheet_text.specs.declared.sheet.SheetItem.TheVariants as item
use Rattle.sheet_text.specs.declared.sheet.SheetStep.{SheetStep}
use Rattle.sheet_text.specs.Forms.{marked_name}
use Rattle.sheet_text.specs.Layout.{steps, step_names, step_of_item}
use Rattle.sheet_text.specs.Reads.{unnumbered, unnumbered_item}
use Rattle.sheet_text.specs.Spellable.{is_place_below, is_step_spellable, are_steps_spellable, is_token}
use Rattle.solve_model.specs.declared.bound.BoundStep.{BoundStep}
use Rattle.solve_model.specs.Binding.{place_of}
use Rattle.solve_model.specs.Bound.{HasTree, IsBoundStep}
use Rattle.solve_model.specs.Verdicts.{AreJudged, accepted_in}
use Rattle.solve_model.specs.MostGeneral.{IsTheValuation}
use Rattle.model_laws.specs.DatabaseLaws.{HasDatabaseFacts}
use Rattle.written_model.specs.declared.options.Options.{Options}
use Rattle.written_model.specs.Opened.{IsOpened}
use Rattle.written_model.specs.ReadBack.{ReadIsSpellable}
use Rattle.written_model.specs.WrittenSteps.{WrittenStep, WrittenItem, comment, step, steps_in, trees}
use Rattle.written_model.specs.Filled.{Filling, fill_item}
use Rattle.written_model.specs.Named.{IsNaming, name_step}
use Rattle.written_model.specs.Found.{IsSearched}
use Rattle.written_model.specs.Written.{Writing, Writes, ItemIsSearched, after_filling, after_naming}
use Rattle.again_laws.specs.Whole.{IsWhole, AssertionsAreWhole}
use Rattle.again_laws.proofs.Lists.{get_map, get_mapped, zip_right, zip_long}
use Rattle.again_laws.proofs.Filling.{IsFilling, filled, steps-over}

pub record Setting (db : Database) (options : Options) (w : Writing) (numbers : List ℕ) (ds : List WrittenStep) : Type 0 where
  pub whole : (l : Label) (a : Assertion) → db.usable l ≡ Some a → IsWhole a
  pub facts : IsDatabase db
  pub filling : IsFilling w.bound w.value w.judgements (steps w.read) ds numbers
  pub count : length numbers ≡ length (steps w.read)
  pub long : length (steps w.read) ≡ length w.bound.steps
  pub bound_steps : (k : ℕ) (s : SheetStep) → slice_get (steps w.read) k ≡ Some s → (b : BoundStep) × (slice_get w.bound.steps k ≡ Some b) × IsBoundStep db w.bound.place s b
  pub below : (k : ℕ) (s : SheetStep) → slice_get (steps w.read) k ≡ Some s → list_all (is_place_below k) s.places ≡ true
  pub judged : AreJudged db w.bound w.judgements
  pub the : IsTheValuation db w.bound (accepted_in w.judgements) w.value
  pub naming : IsNaming db w.bound (trees ds) w.names
  pub searched : AllZip (IsSearched db w.bound.place options.dv w.bound.pairs (map (name_step w.names) ds)) (map (name_step w.names) ds) (steps_in w.items)

-- ---- steps without their line numbers

abbrev plain : SheetStep → SheetStep
plain s = record s { line = 0 }

steps-plain : (items : List SheetItem) → filter_map step_of_item (map unnumbered_item items) ≡ map plain (filter_map step_of_item items)
steps-plain [] = refl
steps-plain (item.Comment lines ∷ items) = steps-plain items
steps-plain (item.Step s ∷ items) = ap (λ xs. plain s ∷ xs) (steps-plain items)

-- two sheets that differ in line numbers alone have the same steps but for these
pub plain_steps : (s t : Sheet) → unnumbered s ≡ unnumbered t → map plain (steps s) ≡ map plain (steps t)
plain_steps s t e = sym (steps-plain s.items) ∙ ap steps e ∙ steps-plain t.items

pub record SameStep (s t : SheetStep) : Type 0 where
  pub hyp : s.hyp ≡ t.hyp
  pub name : s.name ≡ t.name
  pub places : s.places ≡ t.places
  pub reference : s.reference ≡ t.reference
  pub formula : s.formula ≡ t.formula

same_step : (s t : SheetStep) → plain s ≡ plain t → SameStep s t
same_step s t e = record {
  hyp = ap (λ (x : SheetStep). x.hyp) e;
  name = ap (λ (x : SheetStep). x.name) e;
  places = ap (λ (x : SheetStep). x.places) e;
  reference = ap (λ (x : SheetStep). x.reference) e;
  formula = ap (λ (x : SheetStep). x.formula) e;
}

pub step_there : (s t : Sheet) → unnumbered s ≡ unnumbered t → (k : ℕ) (a : SheetStep) → slice_get (steps t) k ≡ Some a → (b : SheetStep) × (slice_get (steps s) k ≡ Some b) × SameStep b a
step_there s t e k a at =
    let there = get_mapped plain (steps s) k (plain a) (ap (λ xs. slice_get xs k) (plain_steps s t e) ∙ get_map plain (steps t) k a at) in
    (there.0, there.1, same_step there.0 a there.2)

pub steps_long : (s t : Sheet) → unnumbered s ≡ unnumbered t → length (steps s) ≡ length (steps t)
steps_long s t e = sym (length-map (steps s) plain) ∙ ap length (plain_steps s t e) ∙ length-map (steps t) plain

-- ---- spellable steps

spellable_from : (n k : ℕ) (ss : List SheetStep) (s : SheetStep) → are_steps_spellable n ss ≡ true → slice_get ss k ≡ Some s → is_step_spellable (n + k) s ≡ true
spellable_from n k [] s h e = absurd cc
spellable_from n zero (t ∷ ss) s h e =
    let both = and_parts (is_step_spellable n t) (are_steps_spellable (suc n) ss) h in
    let same : t ≡ s = cc in
    let place : n ≡ n + 0 = omega arith in
    subst (λ m. is_step_spellable m s ≡ true) place (subst (λ x. is_step_spellable n x ≡ true) same both.0)
spellable_from n (suc k) (t ∷ ss) s h e =
    let both = and_parts (is_step_spellable n t) (are_steps_spellable (suc n) ss) h in
    let place : suc n + k ≡ n + suc k = omega arith in
    subst (λ m. is_step_spellable m s ≡ true) place (spellable_from (suc n) k ss s both.1 e)

pub spellable_at : (k : ℕ) (ss : List SheetStep) (s : SheetStep) → are_steps_spellable 0 ss ≡ true → slice_get ss k ≡ Some s → is_step_spellable k s ≡ true
spellable_at k ss s h e = let place : 0 + k ≡ k = omega arith in subst (λ m. is_step_spellable m s ≡ true) place (spellable_from 0 k ss s h e)

pub places_below : (k : ℕ) (s : SheetStep) → is_step_spellable k s ≡ true → list_all (is_place_below k) s.places ≡ true
places_below k s h =
    let one = and_parts _ (list_all is_token s.formula) h in
    let two = and_parts _ (option_map_or is_label s.reference (not s.hyp)) one.0 in
    (and_parts (is_label s.name && (s.hyp || not (marked_name s.name).0)) (list_all (is_place_below k) s.places) two.0).1

-- ---- the searched steps

module _ (db : Database) (options : Options) (w : Writing) where
  pub steps_searched : (items others : List WrittenItem) → AllZip (ItemIsSearched db options w) items others
      → AllZip (IsSearched db w.bound.place options.dv w.bound.pairs (steps_in (after_naming db options w))) (steps_in items) (steps_in others)
  steps_searched [] [] h = tt
  steps_searched [] (o ∷ others) h = absurd h
  steps_searched (i ∷ items) [] h = absurd h
  steps_searched (comment lines ∷ items) (o ∷ others) h =
      let rest = steps_searched items others h.1 in
      subst (λ (x : WrittenItem). AllZip (IsSearched db w.bound.place options.dv w.bound.pairs (steps_in (after_naming db options w))) (steps_in items) (steps_in (x ∷ others))) (sym h.0) rest
  steps_searched (step e ∷ items) (o ∷ others) h =
      let rest = steps_searched items others h.1 in
      let f = h.0 in
      subst
      (λ (x : WrittenItem). AllZip (IsSearched db w.bound.place options.dv w.bound.pairs (steps_in (after_naming db options w)))
      (e ∷ steps_in items) (steps_in (x ∷ others)))
      (sym f.1) (f.2, rest)

abbrev HasTreeAt : Database → ℕ → List Name → BoundStep → Type 0
HasTreeAt db p f b = HasTree db p f b.tree

abbrev pub filling_of : Writing → Filling
filling_of w = fold (fill_item (step_names w.read) w.bound w.value w.judgements) (record { items = []; numbers = [] }) w.read.items

module _ (facts_law : HasDatabaseFacts) (whole_law : AssertionsAreWhole) (spellable_law : ReadIsSpellable) where
  pub setting : (db : Database) (text : List ℕ) (options : Options) (w : Writing) → IsOpened options.kinds db → Writes db text options w
      → Setting db options w (filling_of w).numbers (steps_in (after_filling db options w))
  setting db text options w opened h =
      let place = h.binds.place in
      let long : length (steps w.read) ≡ length w.judgements = sym (steps_long h.reads.read w.read h.reads.same) ∙ zip_long _ (steps h.reads.read) w.bound.steps h.binds.steps ∙ sym h.judged.count in
      let done = filled (step_names w.read) w.bound w.value w.judgements (steps w.read) (omega (arith, long)) w.read.items refl in
      let spellable = spellable_law text h.reads.read h.reads.reads in
      let named = steps-over (name_step w.names) (after_filling db options w) in
      record {
        whole = λ l a e. whole_law options.kinds db l a opened e;
        facts = facts_law options.kinds opened.text db opened.is_database opened.sound;
        filling = done.good;
        count = done.count;
        long = long ∙ h.judged.count;
        bound_steps = λ k s e.
            let t = step_there h.reads.read w.read h.reads.same k s e in
            let b = zip_right _ (steps h.reads.read) w.bound.steps h.binds.steps k t.0 t.1 in
            let it = b.2 in (
              b.0,
              b.1,
              record {
                hyp = it.hyp ∙ t.2.hyp;
                name = it.name ∙ t.2.name;
                places = it.places ∙ t.2.places;
                reference = it.reference ∙ t.2.reference;
                tree = subst (λ p. HasTreeAt db p s.formula b.0) (sym place) (subst (λ f. HasTreeAt db (place_of db h.reads.read) f b.0) t.2.formula it.tree);
              },
            );
        below = λ k s e.
            let t = step_there h.reads.read w.read h.reads.same k s e in
            subst (λ ps. list_all (is_place_below k) ps ≡ true) t.2.places (places_below k t.0 (spellable_at k (steps h.reads.read) t.0 spellable.each_step t.1));
        judged = h.judged;
        the = h.most_general;
        naming = h.naming;
        searched =
            subst (λ ns. AllZip (IsSearched db w.bound.place options.dv w.bound.pairs ns) ns (steps_in w.items)) named
            (steps_searched db options w (after_naming db options w) w.items h.searched);
      }
