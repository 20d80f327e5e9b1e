-- What a filled worksheet becomes.
use Rattle.std.specs.Prelude.{◌≡◌, ◌≤◌, ◌↔◌, ℕ, suc, Bool, IsTrue, List, [], ◌∷◌, map, filter_map, slice_get, Some, None, refl}
use Rattle.std.specs.List.{AllZip}
use Rattle.std.proofs.Common.{sym, ap, subst, ◌∙◌}
use Rattle.mm_base.specs.declared.symbols.Label.{Label}
use Rattle.mm_base.specs.declared.symbols.Typecode.{Typecode}
use Rattle.mm_base.specs.declared.tree.Tree.{Tree}
use Rattle.mm_base.specs.Limits.{most_work_size}
use Rattle.mm_model.specs.BookFacts.{IsDatabase}
use Rattle.mm_model.specs.Typed.{IsTyped}
use Rattle.mm_model.specs.Book.{Database, Assertion}
use Rattle.model_laws.specs.DatabaseLaws.{HasDatabaseFacts, NamesAreWords}
use Rattle.model_laws.specs.FrameLaws.{FramesHaveOwnExpressions, MandatoryVariablesStand}
use Rattle.sheet_text.specs.declared.sheet.Sheet.{Sheet}
use Rattle.sheet_text.specs.Layout.{layout, step_of_item}
use Rattle.sheet_text.specs.Reads.{ReadsAs, unnumbered}
use Rattle.sheet_text.specs.Spellable.{IsSpellable}
use Rattle.sheet_laws.specs.ReadAgain.{ReadsAsOne}
use Rattle.solve_model.specs.declared.bound.Bound.{Bound}
use Rattle.solve_model.specs.Binding.{place_of}
use Rattle.solve_model.specs.Bound.{Binds, IsBoundStep, work_size}
use Rattle.solve_model.specs.Verdicts.{AreJudged, accepted_in}
use Rattle.solve_model.specs.MostGeneral.{IsTheValuation}
use Rattle.written_model.specs.declared.options.Options.{Options}
use Rattle.written_model.specs.Opened.{IsOpened}
use Rattle.written_model.specs.ReadBack.{ReadIsSpellable, LaidOutReadsBack}
use Rattle.written_model.specs.WrittenSteps.{WrittenStep, WrittenItem, comment, step, steps_in, over_step, trees}
use Rattle.written_model.specs.Named.{IsWrittenLeaf}
use Rattle.written_model.specs.Written.{Writing, Writes, HasNoLateFault, written_step, written_item, written_sheet, bound_step, written_bound, written_pairs, after_filling}
use Rattle.written_model.specs.ProofTrees.{Finished}
use Rattle.written_model.specs.Again.{step_again, judgements_from, value_again}
use Rattle.written_model.specs.WrittenAgain.{ValuesStay, VerdictsStay}
use Rattle.again_laws.specs.Second.{WrittenSheetBinds, BindsWithoutLines}
use Rattle.again_laws.specs.Whole.{IsWhole, AssertionsAreWhole}
use Rattle.again_laws.proofs.Accepted.{es_typed}
use Rattle.again_laws.proofs.Lists.{contains_get}
use Rattle.again_laws.proofs.Setting.{Setting, setting, filling_of}
use Rattle.again_laws.proofs.WrittenKinds.{no_fresh_written}
use Rattle.answer_laws.specs.WrittenReads.{WrittenReadsBack}
use Rattle.answer_laws.proofs.OneBinding.{bound_is_one}
use Rattle.answer_laws.proofs.OneWriting.{same_parts, same_end}
use Rattle.answer_laws.proofs.Plain.{ArePlain}
use Rattle.answer_laws.proofs.PlainAssertions.{are_plain}
use Rattle.answer_laws.proofs.SameBound.{work_size_same}
use Rattle.answer_laws.proofs.SameText.{text_by_parts, late_moved}
use Rattle.answer_laws.proofs.Settled.{AreSettled}
use Rattle.answer_laws.proofs.WrittenSettled.{written_settled}
use Rattle.auto_model.specs.AutoFilled.{filled_sheet}
use Rattle.auto_laws.proofs.Added.{IsAdded, AreAdded}
use Rattle.auto_laws.proofs.UsedItems.{AreUsedFrom, all_added}
use Rattle.auto_laws.proofs.GeneralMore.{the_more}
use Rattle.auto_laws.proofs.JudgedMore.{judged_more}
use Rattle.auto_laws.proofs.FilledAgain.{filled_bound, filled_writing, used_settled, naming, none_found, has_end}
use Rattle.auto_laws.proofs.FilledSpelled.{filled_spelled}

-- the laws that these rest on
pub record Laws : Type 0 where
  pub facts : HasDatabaseFacts
  pub standing : MandatoryVariablesStand
  pub owned : FramesHaveOwnExpressions
  pub words : NamesAreWords
  pub whole : AssertionsAreWhole
  pub spellable : ReadIsSpellable
  pub reads_one : ReadsAsOne
  pub laid : LaidOutReadsBack
  pub lines : BindsWithoutLines
  pub values : (db : Database) (text : List ℕ) (options : Options) (w : Writing) → ValuesStay db text options w
  pub verdicts : (db : Database) (text : List ℕ) (options : Options) (w : Writing) → VerdictsStay db text options w
  pub binds : (db : Database) (text : List ℕ) (options : Options) (w : Writing) → WrittenSheetBinds db text options w
  pub back : (db : Database) (text : List ℕ) (options : Options) (w : Writing) → WrittenReadsBack db text options w

-- ---- the steps of the filled worksheet, as they are bound

module _ (db : Database) (options : Options) (w : Writing) (place : ℕ) where
  bound_added : (n : ℕ) (e f : WrittenStep) → IsAdded db w.bound.place options.dv w.bound.pairs (steps_in w.items) n e f
      → IsBoundStep db place (written_step db e) (bound_step db options w e) → IsBoundStep db place (written_step db f) (bound_step db options w f)
  bound_added n e _ IsAdded.stays h = h
  bound_added n e _ (IsAdded.added c u k) h = record { hyp = refl; name = refl; places = refl; reference = refl; tree = h.tree }

  abbrev AreBound : List WrittenItem → Type 0
  AreBound items = AllZip (IsBoundStep db place) (filter_map step_of_item (map (written_item db) items)) (map (bound_step db options w) (steps_in items))

  bound_used : (n : ℕ) (items behind : List WrittenItem) → AreUsedFrom db options w n items behind → AreBound items → AreBound behind
  bound_used n [] behind h k = subst AreBound (sym h) tt
  bound_used n (comment lines ∷ items) behind h k = subst AreBound (sym h.1) (bound_used n items h.0 h.2 k)
  bound_used n (step e ∷ items) behind h k = subst AreBound (sym h.2) (bound_added n e h.0 h.3 k.0, bound_used (suc n) items h.1 h.4 k.1)

-- ---- the whole

-- what the filled worksheet becomes has its items with their uses, and no fault
pub record IsFilledWriting (db : Database) (options : Options) (w : Writing) (used : List WrittenItem) : Type 0 where
  pub finished : Bool
  pub writes : Writes db (layout (filled_sheet db options w used) None) options (filled_writing db options w used finished)
  pub no_fault : HasNoLateFault db options (filled_writing db options w used finished)

module _ (laws : Laws) (db : Database) (options : Options) (o : IsOpened options.kinds db) (text : List ℕ) (w : Writing) (writes : Writes db text options w) (late : HasNoLateFault db options w) where
  abbrev es : List WrittenStep
  es = steps_in w.items

  pub facts : IsDatabase db
  facts = laws.facts options.kinds o.text db o.is_database o.sound

  plain : ArePlain db
  plain = are_plain options.kinds o.text db o.is_database o.sound facts laws.standing laws.owned

  whole : (l : Label) (a : Assertion) → db.usable l ≡ Some a → IsWhole a
  whole l a e = laws.whole options.kinds db l a o e

  set : Setting db options w (filling_of w).numbers (steps_in (after_filling db options w))
  set = setting laws.facts laws.whole laws.spellable db text options w o writes

  typed : (k : ℕ) (t : Tree) → slice_get (trees es) k ≡ Some t → IsTyped db.rows w.bound.place t
  typed k t e = es_typed db options w (filling_of w).numbers (steps_in (after_filling db options w)) set k t e

  pub first_judged : AreJudged db (written_bound db options w) (judgements_from 0 es)
  first_judged = laws.verdicts db text options w o writes late

  first_value : IsTheValuation db (written_bound db options w) (accepted_in (judgements_from 0 es)) (value_again es)
  first_value = laws.values db text options w o writes late

  first_free : (c : Typecode) (n : ℕ) → IsWrittenLeaf (trees es) c n → ⊥
  first_free c n h =
      let k = contains_get (trees es) h.0 h.1 in
      no_fresh_written db options w (filling_of w).numbers (steps_in (after_filling db options w)) set k.0 h.0 k.1 c n h.2

  module _ (used : List WrittenItem) (h : AreUsedFrom db options w 0 w.items used) (v : Writing) (second : Writes db (layout (filled_sheet db options w used) None) options v)
      (second_late : HasNoLateFault db options v) where
    abbrev sheet : Sheet
    sheet = filled_sheet db options w used

    abbrev fs : List WrittenStep
    fs = steps_in used

    abbrev B : Bound
    B = filled_bound db options w used

    A : AreAdded db w.bound.place options.dv w.bound.pairs es fs
    A = all_added db options w used h

    settled : AreSettled 0 fs
    settled = used_settled db options w used whole h (written_settled db plain text options w writes laws.spellable)

    spelled : IsSpellable sheet
    spelled = filled_spelled db options w (laws.words options.kinds o.text db o.is_database o.sound).0 used h (laws.back db text options w o writes late).spellable

    -- ---- the sheet is read and bound

    read_here : ReadsAs (layout sheet None) sheet
    read_here = laws.laid sheet None spelled tt

    same_read : unnumbered second.reads.read ≡ unnumbered sheet
    same_read = ap unnumbered (laws.reads_one (layout sheet None) second.reads.read read_here.read second.reads.reads read_here.reads) ∙ read_here.same

    second_binds : Binds db sheet v.bound
    second_binds = laws.lines db second.reads.read sheet v.bound same_read second.binds

    first_binds : Binds db (written_sheet db options w) (written_bound db options w)
    first_binds = laws.binds db text options w o writes late

    sheet_binds : Binds db sheet B
    sheet_binds = record {
      sound = second_binds.sound;
      place = first_binds.place;
      existing = first_binds.existing;
      steps = bound_used db options w (place_of db sheet) 0 w.items used h first_binds.steps;
      pairs = first_binds.pairs;
      theorem = refl;
    }

    binds : Binds db second.reads.read B
    binds = laws.lines db sheet second.reads.read B (sym same_read) sheet_binds

    within_limit : work_size db B ≤ most_work_size
    within_limit = subst (λ n. n ≤ most_work_size) (work_size_same db v.bound B (bound_is_one db facts.grammar second.reads.read v.bound B second.binds binds)) second.within_limit

    -- ---- what it becomes

    end : (b : Bool) × (IsTrue b ↔ Finished options.dv (written_pairs db options w) (steps_in (map (over_step step_again) used)))
    end = has_end db options w used settled

    free : (c : Typecode) (n : ℕ) → IsWrittenLeaf (trees fs) c n → ⊥
    free c n k = first_free c n (subst (λ ts. IsWrittenLeaf ts c n) (sym A.same) k)

    filled_writes : Writes db (layout sheet None) options (filled_writing db options w used end.0)
    filled_writes = record {
      reads = record { read = second.reads.read; reads = second.reads.reads; same = same_read };
      binds = binds;
      within_limit = within_limit;
      judged = judged_more db options w fs A (written_pairs db options w) _ facts whole typed first_judged first_value;
      most_general = the_more db options w fs A (written_pairs db options w) _ whole typed first_value;
      naming = naming db options w used settled end.0 free;
      searched = none_found db options w used settled end.0 h writes.searched;
      finished = end.1;
    }

    no_fault : HasNoLateFault db options (filled_writing db options w used end.0)
    no_fault k r l =
        let W = filled_writing db options w used end.0 in
        let parts = same_parts db facts.grammar plain (layout sheet None) options W v filled_writes second laws.reads_one in
        let ends = same_end db facts.grammar plain (layout sheet None) options W v filled_writes second laws.reads_one in
        second_late k r (late_moved db options W v (text_by_parts db options W v parts ends) k r l)

    pub is_filled_writing : IsFilledWriting db options w used
    is_filled_writing = record { finished = end.0; writes = filled_writes; no_fault = no_fault }
