-- What is filled, named and searched is what the worksheet becomes.
use Rattle.std.specs.Prelude.{◌≡◌, ◌≤◌, ℕ, Bool, List, [], ◌∷◌, length, Contains, Result, Ok, Err, IfOk, refl}
use Rattle.std.specs.List.{AllZip}
use Rattle.std.proofs.Common.{sym, ap, subst, ◌∙◌, arith, inl, inr}
use Rattle.mm_base.specs.declared.errors.Memory as memory
use Rattle.mm_base.specs.declared.kinds.Kinds.{Kinds}
use Rattle.mm_base.specs.declared.symbols.Pair.{Pair}
use Rattle.mm_base.specs.declared.tree.Tree.{Tree}
use Rattle.mm_database.specs.Opened.{Opened, IsOpened}
use Rattle.mm_model.specs.Book.{Database}
use Rattle.mm_model.specs.BookFacts.{IsDatabase}
use Rattle.mm_model.specs.Rows.{IsGrammar}
use Rattle.mm_model.specs.Texts.{text as text_of}
use Rattle.model_laws.specs.DatabaseLaws.{HasDatabaseFacts}
use Rattle.model_laws.specs.FrameLaws.{FramesHaveOwnExpressions, MandatoryVariablesStand}
use Rattle.sheet_text.specs.declared.sheet.Sheet.{Sheet}
use Rattle.sheet_text.specs.Layout.{steps, step_names}
use Rattle.solve_model.specs.declared.bound.Bound.{Bound}
use Rattle.solve_model.specs.Binding.{place_of}
use Rattle.solve_model.specs.Bound.{IsBoundStep}
use Rattle.solve_model.specs.Solutions.{Valuation, IsUnknown}
use Rattle.solve_model.specs.Verdicts.{Judgement, accepted_in}
use Rattle.solve_laws.specs.OneValuation.{SameUpToFresh}
use Rattle.solve_laws.proofs.OneValuation.{most_general_is_one}
use Rattle.answer_laws.proofs.Elements.{nothing, first, later, parted, contained_has}
use Rattle.answer_laws.proofs.FilledAlike.{good_trees, FilledAlike, filled_alike}
use Rattle.answer_laws.proofs.OneBinding.{zip_length, trees_are_read, count_same}
use Rattle.answer_laws.proofs.Plain.{ArePlain, TreesAreRead}
use Rattle.answer_laws.proofs.PlainAssertions.{are_plain}
use Rattle.answer_laws.proofs.ValuedAlike.{forth, back, IsGood, each_moves}
use Rattle.written_model.specs.declared.options.DvMode.{DvMode}
use Rattle.written_model.specs.declared.options.Options.{Options}
use Rattle.written_model.specs.Found.{IsSearched}
use Rattle.written_model.specs.Named.{Naming, IsNaming, name_items}
use Rattle.written_model.specs.Written.{Writing, ItemIsSearched, after_naming}
use Rattle.written_model.specs.WrittenSteps.{WrittenStep, WrittenItem, comment, step, steps_in, trees}
use Rattle.writing_laws.specs.HasLong.{AreShort}
use Rattle.writing_laws.specs.HasNames.{IsWritable}
use Rattle.writing_laws.specs.HasWriting.{IsSolved}
use Rattle.written_steps.specs.declared.draft.DraftItem.{DraftItem}
use Rattle.written_steps.specs.Drafts.{book, items_in, AreSound}
use Rattle.step_naming.specs.Named.{AreNamed, AreWrittenShort}
use Rattle.step_searching.specs.Searched as searching
use Rattle.sheet_unify.specs.Drafted.{AreFound}
use Rattle.sheet_unify.specs.Made.{IsFilled, IsDraft, IsDraftSound, filled_of, made_of}
use Rattle.sheet_unify.proofs.AnswerLaws.{made_writes}

-- ---- what is filled can be written

module _ (db : Database) (grammar : IsGrammar db.rows) (plain : ArePlain db) (text : List ℕ) (read : Sheet) (bound : Bound) (judgements : List Judgement) (value : Valuation)
    (solved : IsSolved db text read bound judgements value) where
  are_read : TreesAreRead db bound
  are_read = trees_are_read db solved.reads.read bound solved.binds

  same_values : SameUpToFresh (IsUnknown bound (accepted_in judgements)) value value
  same_values = most_general_is_one db bound (accepted_in judgements) value value solved.most_general solved.most_general

  abbrev Good : Tree → Type 0
  Good = IsGood db bound grammar plain are_read judgements solved.judged value value solved.most_general same_values

  steps_count : length (steps read) ≡ length bound.steps
  steps_count = sym (count_same solved.reads.read read solved.reads.same) ∙ zip_length (IsBoundStep db (place_of db solved.reads.read)) (steps solved.reads.read) bound.steps solved.binds.steps

  alike : FilledAlike
      (forth db bound grammar plain are_read judgements solved.judged value value solved.most_general same_values)
      (back db bound grammar plain are_read judgements solved.judged value value solved.most_general same_values)
      Good (λ t q. q.returns) bound value value (step_names read) judgements (length bound.steps)
      (each_moves db bound grammar plain are_read judgements solved.judged value value solved.most_general same_values) read.items
  alike =
      let count = steps_count in
      filled_alike
      (forth db bound grammar plain are_read judgements solved.judged value value solved.most_general same_values)
      (back db bound grammar plain are_read judgements solved.judged value value solved.most_general same_values)
      Good (λ t q. q.returns) bound value value (step_names read) judgements (length bound.steps)
      (each_moves db bound grammar plain are_read judgements solved.judged value value solved.most_general same_values) read.items (omega (arith, count))

  pub filled_writable : (t : Tree) → Contains (trees (steps_in (filled_of read bound judgements value))) t → IsWritable db bound bound.place t
  filled_writable t o =
      let good = contained_has Good (trees (steps_in (filled_of read bound judgements value))) t (good_trees Good (filled_of read bound judgements value) alike.good) o in
      record { typed = good.typed; was_read = good.was_read }

-- ---- what is searched

-- by the writing, the same
pub written_searched : (db : Database) (options : Options) (w : Writing) (is js : List WrittenItem)
    → AllZip (searching.ItemIsSearched db w.bound.place options.dv w.bound.pairs (steps_in (after_naming db options w))) is js → AllZip (ItemIsSearched db options w) is js
written_searched db options w [] [] h = tt
written_searched db options w [] (j ∷ js) h = absurd h
written_searched db options w (i ∷ is) [] h = absurd h
written_searched db options w (comment lines ∷ is) (j ∷ js) h = (h.0, written_searched db options w is js h.1)
written_searched db options w (step e ∷ is) (j ∷ js) h = (h.0, written_searched db options w is js h.1)

module _ (db : Database) (place : ℕ) (mode : DvMode) (allowed : List Pair) (es : List WrittenStep) where
  same_tree : (e f : WrittenStep) → IsSearched db place mode allowed es e f → e.tree ≡ f.tree
  same_tree e f (IsSearched.not_searched h) = refl
  same_tree e f (IsSearched.none h k) = refl
  same_tree e f (IsSearched.found h k m) = refl

  -- a step that some of these becomes has its tree
  abbrev IsTreeOf : List WrittenItem → WrittenStep → Type 0
  IsTreeOf is f = (e : WrittenStep) × Contains (steps_in is) e × (e.tree ≡ f.tree)

  behind : (e f : WrittenStep) (is : List WrittenItem) → IsTreeOf is f → IsTreeOf (step e ∷ is) f
  behind e f is h = (h.0, later h.0 e (steps_in is) h.1, h.2)

  at_step : (e : WrittenStep) (is js : List WrittenItem) (j : WrittenItem) (g f : WrittenStep) → j ≡ step g → IsSearched db place mode allowed es e g → Contains (steps_in (j ∷ js)) f
      → (Contains (steps_in js) f → IsTreeOf is f) → IsTreeOf (step e ∷ is) f
  at_step e is js j g f same searched m rest =
      let inside : Contains (g ∷ steps_in js) f = subst (λ (x : WrittenItem). Contains (steps_in (x ∷ js)) f) same m in
      elim (parted f g (steps_in js) inside) [
        | inl is_g ↦ (e, first e e (steps_in is) refl, same_tree e g searched ∙ ap (λ (x : WrittenStep). x.tree) is_g)
        | inr k ↦ behind e f is (rest k)
      ]

  pub trees_kept : (is js : List WrittenItem) → AllZip (searching.ItemIsSearched db place mode allowed es) is js → (f : WrittenStep) → Contains (steps_in js) f → IsTreeOf is f
  trees_kept [] [] h f m = absurd (nothing f m)
  trees_kept [] (j ∷ js) h f m = absurd h
  trees_kept (i ∷ is) [] h f m = absurd h
  trees_kept (comment lines ∷ is) (j ∷ js) h f m = trees_kept is js h.1 f (subst (λ (x : WrittenItem). Contains (steps_in (x ∷ js)) f) h.0 m)
  trees_kept (step e ∷ is) (j ∷ js) h f m = at_step e is js j h.0.0 f h.0.1 h.0.2 m (trees_kept is js h.1 f)

-- ---- what was found

pub are_found : (d : Opened) (bound : Bound) (mode : DvMode) (filled named : List DraftItem) (result : Result (List DraftItem) memory.Memory)
    → AreNamed d bound filled named → IfOk result (AreSound d)
    → IfOk result (λ items. (kinds : Kinds) (text : List ℕ) → IsOpened kinds text d
    → AllZip (searching.ItemIsSearched (book kinds text d) bound.place mode bound.pairs (steps_in (items_in d named))) (items_in d named) (items_in d items))
    → IfOk result (AreFound d bound mode filled)
are_found d bound mode filled named (Ok items) is sound searched = record { named = named; are_named = is; sound = sound; searched = searched }
are_found d bound mode filled named (Err e) is sound searched = tt

-- ---- the draft

module _ (has : HasDatabaseFacts) (standing : MandatoryVariablesStand) (owned : FramesHaveOwnExpressions) (kinds : Kinds) (database text : List ℕ) (d : Opened) (sheet : Sheet) (bound : Bound)
    (opened : IsOpened kinds database d) (filled : List DraftItem) (is : IsFilled (book kinds database d) d text sheet bound filled) where
  abbrev db : Database
  db = book kinds database d

  facts : IsDatabase db
  facts = has kinds database db opened.database opened.no_fault

  -- what is filled, by the definitions
  abbrev fs : List WrittenItem
  fs = filled_of sheet bound is.judgements is.value

  writable : (t : Tree) → Contains (trees (steps_in (items_in d filled))) t → IsWritable db bound bound.place t
  writable t m =
      filled_writable db facts.grammar (are_plain kinds database db opened.database opened.no_fault facts standing owned) text sheet bound is.judgements is.value is.solved t
      (subst (λ (xs : List WrittenItem). Contains (trees (steps_in xs)) t) is.items_are m)

  pub sound_draft : (mode : DvMode) (items : List DraftItem) → AreFound d bound mode filled items → IsDraftSound d items
  sound_draft mode items found = record { sound = found.sound; short = short }
    where
      named_short : AreWrittenShort d (steps_in (items_in d found.named))
      named_short = found.are_named.short kinds database bound.place opened writable is.short

      short : AreWrittenShort d (steps_in (items_in d items))
      short e m =
          let k = trees_kept db bound.place mode bound.pairs (steps_in (items_in d found.named)) (items_in d found.named) (items_in d items) (found.searched kinds database opened) e m in
          subst (λ (t : Tree). length (text_of d.rows t) ≤ 4095) k.2 (named_short k.0 k.1)

  pub is_draft : (options : Options) (items : List DraftItem) → AreFound d bound options.dv filled items → IsDraft db d text options sheet bound items
  is_draft options items found = record {
    judgements = is.judgements;
    value = is.value;
    names = names;
    writes = λ finished end. made_writes db text options (w finished) is.solved naming (searched finished) end;
    fit = found.are_named.fit;
    short = subst (λ (xs : List WrittenItem). AreShort db (trees (steps_in xs))) is.items_are is.short;
  }
    where
      names : Naming
      names = found.are_named.names

      w : Bool → Writing
      w finished = made_of sheet bound is.judgements is.value names (items_in d items) finished

      naming : IsNaming db bound (trees (steps_in fs)) names
      naming = subst (λ (xs : List WrittenItem). IsNaming db bound (trees (steps_in xs)) names) is.items_are (found.are_named.naming kinds database bound.place opened writable)

      named_are : items_in d found.named ≡ name_items names fs
      named_are = found.are_named.items_are ∙ ap (name_items names) is.items_are

      searched : (finished : Bool) → AllZip (ItemIsSearched db options (w finished)) (name_items names fs) (items_in d items)
      searched finished =
          written_searched db options (w finished) (name_items names fs) (items_in d items)
          (subst
          (λ (xs : List WrittenItem). AllZip (searching.ItemIsSearched db bound.place options.dv bound.pairs (steps_in xs)) xs
          (items_in d items)) named_are
          (found.searched kinds database opened))
