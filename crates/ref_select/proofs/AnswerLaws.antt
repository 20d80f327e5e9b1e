-- The answers are those of the definitions.
use Rattle.std.specs.Prelude.{◌≡◌, ℕ, zero, suc, List, [], ◌∷◌, map, filter_map, position, slice_get, Option, Some, None, option_map, refl}
use Rattle.std.specs.Borrow.{Bor}
use Rattle.std.specs.List.{AllZip}
use Rattle.std.proofs.Common.{sym, ap, subst, ◌∙◌}
use Rattle.mm_base.specs.declared.kinds.Kinds.{Kinds}
use Rattle.mm_base.specs.declared.symbols.Pair.{Pair}
use Rattle.mm_base.specs.declared.tree.Tree.{Tree}
use Rattle.mm_model.specs.Book.{Database}
use Rattle.mm_model.specs.Names.{Name}
use Rattle.mm_database.specs.Books.{database_of}
use Rattle.mm_database.specs.Opened.{Opened}
use Rattle.sheet_text.specs.declared.sheet.SheetStep.{SheetStep}
use Rattle.sheet_text.specs.Layout.{step_of_item}
use Rattle.select_model.specs.Selected.{Selects, is_not_there, is_open, selects, step_named}
use Rattle.written_model.specs.declared.options.DvMode.{DvMode}
use Rattle.written_model.specs.declared.options.Options.{Options}
use Rattle.written_model.specs.Written.{Writing, Answers, wrote, written_item}
use Rattle.written_model.specs.WrittenSteps.{WrittenItem, WrittenStep, comment, step, steps_in, trees}
use Rattle.ref_select.specs.declared.written.Selection.{Selection}
use Rattle.ref_select.specs.declared.written.Selection.TheVariants as selection
use Rattle.ref_select.specs.declared.written.WrittenSheet.{WrittenSheet}
use Rattle.ref_select.specs.Asked.{IsSelectedAt, IsSelectedOf, refs}
use Rattle.ref_select.specs.Selecting.{AreWrittenAs, IsAnswer, IsOfWriting, IsSelection, IsWrittenAs, SelectionIsTheAnswer, answer_of}
use Rattle.ref_select.proofs.NamedLaws.{has_name, named_at, not_named, refs_position}

-- ---- the step of a number

abbrev IsBoth : Option SheetStep → Option WrittenStep → Type 0
IsBoth None None = Unit {0}
IsBoth None (Some e) = ⊥
IsBoth (Some s) None = ⊥
IsBoth (Some s) (Some e) = IsWrittenAs s e

both : (ss : List SheetStep) (es : List WrittenStep) (n : ℕ) → AllZip IsWrittenAs ss es → IsBoth (slice_get ss n) (slice_get es n)
both [] [] n h = tt
both [] (e ∷ es) n h = absurd h
both (s ∷ ss) [] n h = absurd h
both (s ∷ ss) (e ∷ es) zero h = h.0
both (s ∷ ss) (e ∷ es) (suc n) h = both ss es n h.1

tree_there : (es : List WrittenStep) (n : ℕ) → slice_get (trees es) n ≡ option_map (λ (e : WrittenStep). e.tree) (slice_get es n)
tree_there [] n = refl
tree_there (e ∷ es) zero = refl
tree_there (e ∷ es) (suc n) = tree_there es n

module _ (db : Database) (place : ℕ) (mode : DvMode) (allowed : List Pair) (es : List WrittenStep) where
  abbrev IsChosen : Option WrittenStep → Selection → Type 0
  IsChosen o sel = IsSelection db place mode allowed es o sel

  without_step : (o : Option WrittenStep) → IsBoth None o → IsChosen o selection.NoSuchStep
  without_step None h = tt
  without_step (Some e) h = absurd h

  without_tree : (o : Option WrittenStep) → option_map (λ (e : WrittenStep). e.tree) o ≡ None → IsChosen o selection.NoSuchStep
  without_tree None h = tt
  without_tree (Some e) h = absurd (cc)

  with_both : (o : Option WrittenStep) (s : SheetStep) (t : Tree) (sel : Selection) → IsBoth (Some s) o → option_map (λ (e : WrittenStep). e.tree) o ≡ Some t
      → ((e : WrittenStep) → IsWrittenAs s e → t ≡ e.tree → IsChosen (Some e) sel) → IsChosen o sel
  with_both None s t sel b h k = absurd b
  with_both (Some e) s t sel b h k = k e b (cc)

module _ (d : Opened) (w : WrittenSheet) (ss : List SheetStep) (n : ℕ) where
  beside : (es : List WrittenStep) → AllZip IsWrittenAs ss es → (o : Option SheetStep) → slice_get ss n ≡ o → IsBoth o (slice_get es n)
  beside es each o h = subst (λ x. IsBoth x (slice_get es n)) h (both ss es n each)

  tree_beside : (es : List WrittenStep) → w.trees.now ≡ trees es → (o : Option Tree) → slice_get w.trees.now n ≡ o → option_map (λ (e : WrittenStep). e.tree) (slice_get es n) ≡ o
  tree_beside es trees_are o h = sym (tree_there es n) ∙ ap (λ ts. slice_get ts n) (sym trees_are) ∙ h

  pub no_step : slice_get ss n ≡ None → IsSelectedAt d w ss n selection.NoSuchStep
  no_step none kinds text es opened trees_are each =
      without_step (database_of kinds text d.rows d.parsed) w.place w.mode w.given.now es (slice_get es n) (beside es each None none)

  pub no_tree : slice_get w.trees.now n ≡ None → IsSelectedAt d w ss n selection.NoSuchStep
  no_tree none kinds text es opened trees_are each =
      without_tree (database_of kinds text d.rows d.parsed) w.place w.mode w.given.now es (slice_get es n) (tree_beside es trees_are None none)

  pub step_there : (s : SheetStep) (t : Tree) (sel : Selection) → slice_get ss n ≡ Some s → slice_get w.trees.now n ≡ Some t → IsSelectedOf d w s t sel → IsSelectedAt d w ss n sel
  step_there s t sel at tree k kinds text es opened trees_are each =
      with_both (database_of kinds text d.rows d.parsed) w.place w.mode w.given.now es (slice_get es n) s t sel (beside es each (Some s) at) (tree_beside es trees_are (Some t) tree)
      (λ e written tree_is. k kinds text es e opened trees_are written tree_is)

-- ---- the step of a name

module _ (d : Opened) (w : WrittenSheet) (name : Name) (steps : List (Bor SheetStep)) (steps_are : refs steps ≡ filter_map step_of_item w.items.now) where
  abbrev IsTold : Kinds → List ℕ → List WrittenStep → Selection → Option WrittenStep → Type 0
  IsTold kinds text es sel o = IsSelection (database_of kinds text d.rows d.parsed) w.place w.mode w.given.now es o sel

  abbrev number : Option ℕ
  number = position (λ (s : Bor SheetStep). has_name name s.now) steps

  each_of : (es : List WrittenStep) → AreWrittenAs w.items.now w.trees.now es → AllZip IsWrittenAs (refs steps) es
  each_of es written = subst (λ xs. AllZip IsWrittenAs xs es) (sym steps_are) written.each

  pub not_there : number ≡ None → IsAnswer d w name selection.NoSuchStep
  not_there none kinds text es opened written =
      subst (IsTold kinds text es selection.NoSuchStep) (sym (not_named name (refs steps) es (each_of es written) (sym (refs_position name steps) ∙ none))) tt

  pub there : (n : ℕ) (sel : Selection) → number ≡ Some n → IsSelectedAt d w (refs steps) n sel → IsAnswer d w name sel
  there n sel at k kinds text es opened written =
      subst (IsTold kinds text es sel) (named_at name (refs steps) es (each_of es written) n (sym (refs_position name steps) ∙ at)) (k kinds text es opened written.trees_are (each_of es written))

-- ---- the worksheet that was read

-- the steps of a worksheet that is written are the written ones
written_steps_are : (db : Database) (items : List WrittenItem) → AllZip IsWrittenAs (filter_map step_of_item (map (written_item db) items)) (steps_in items)
written_steps_are db [] = tt
written_steps_are db (comment lines ∷ items) = written_steps_are db items
written_steps_are db (step e ∷ items) = (record { hyp = refl; name = refl; places = refl }, written_steps_are db items)

module _ (db : Database) (options : Options) (sheet : List ℕ) (name : Name) (w : Writing) (answers : Answers db sheet options (wrote w)) where
  selected : (o : Option WrittenStep) (sel : Selection) → step_named w name ≡ o → IsSelection db w.bound.place options.dv w.bound.pairs (steps_in w.items) o sel
      → Selects db options sheet name (answer_of sel)
  selected None selection.NoSuchStep e h = is_not_there answers e
  selected None selection.StepOpen e h = absurd h
  selected None (selection.Fits ls) e h = absurd h
  selected (Some s) selection.NoSuchStep e h = absurd h
  selected (Some s) selection.StepOpen e h = is_open answers e h
  selected (Some s) (selection.Fits ls) e h = selects answers e h.0 h.1

  written_as : (written : WrittenSheet) → IsOfWriting db options w written → AreWrittenAs written.items.now written.trees.now (steps_in w.items)
  written_as written of = record {
    each = subst (λ is. AllZip IsWrittenAs (filter_map step_of_item is) (steps_in w.items)) (sym of.items) (written_steps_are db w.items);
    trees_are = of.trees_are;
  }

pub selection_answers : SelectionIsTheAnswer
selection_answers kinds text d options sheet w written name sel opened answers of h =
    let db = database_of kinds text d.rows d.parsed in
    let es = steps_in w.items in
    let told : IsSelection db written.place written.mode written.given.now es (step_named w name) sel = h kinds text es opened (written_as db options sheet name w answers written of) in
    let at_place : IsSelection db w.bound.place written.mode written.given.now es (step_named w name) sel =
    subst (λ p. IsSelection db p written.mode written.given.now es (step_named w name) sel) of.place told in
    let in_mode : IsSelection db w.bound.place options.dv written.given.now es (step_named w name) sel =
    subst (λ m. IsSelection db w.bound.place m written.given.now es (step_named w name) sel) of.mode at_place in
    selected db options sheet name w answers (step_named w name) sel refl
    (subst (λ ps. IsSelection db w.bound.place options.dv ps es (step_named w name) sel) of.given in_mode)
