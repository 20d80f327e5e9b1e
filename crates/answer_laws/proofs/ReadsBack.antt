-- The written worksheet can be spelled, and its text reads back.
use Rattle.std.specs.Prelude.{◌≡◌, ◌<◌, ◌≤◌, ◌+◌, ◌^◌, not, nat_lt, ℕ, zero, suc, Bool, true, false, List, [], ◌∷◌, length, map, fold, slice_index_or, Option, Some, None, refl}
use Rattle.std.specs.List.{AllByRecursion, list_all, last_or}
use Rattle.std.specs.Option.{option_map_or}
use Rattle.std.proofs.Common.{sym, ap, subst, ◌∙◌, arith, ltb-true, ltb-false}
use Rattle.std.proofs.lemmas.List.{length-map}
use Rattle.mm_base.specs.declared.symbols.Label.{Label}
use Rattle.mm_base.specs.declared.tree.Tree.{Tree}
use Rattle.mm_base.specs.Limits.{most_sheet_bytes}
use Rattle.mm_model.specs.declared.frames.Hyp.{Hyp}
use Rattle.mm_model.specs.Labels.{is_label}
use Rattle.mm_model.specs.Names.{Name, has_twice}
use Rattle.mm_model.specs.Words.{is_white}
use Rattle.mm_model.specs.BookFacts.{IsDatabase}
use Rattle.mm_model.specs.Book.{Database, label_name}
use Rattle.model_laws.specs.DatabaseLaws.{HasDatabaseFacts, NamesAreWords, ActiveNamesArePlain, IsSymbolName}
use Rattle.model_laws.specs.FrameLaws.{FramesHaveOwnExpressions, MandatoryVariablesStand}
use Rattle.sheet_text.specs.declared.sheet.Sheet.{Sheet}
use Rattle.sheet_text.specs.declared.sheet.SheetStep.{SheetStep}
use Rattle.sheet_text.specs.Layout.{steps, step_names}
use Rattle.sheet_text.specs.Spellable.{IsSpellable, is_token, are_steps_spellable}
use Rattle.solve_model.specs.declared.bound.Bound.{Bound}
use Rattle.solve_model.specs.Binding.{place_of}
use Rattle.solve_model.specs.Solutions.{Asked}
use Rattle.solve_laws.specs.NewVariables.{NoNewVariable}
use Rattle.sheet_laws.specs.ReadAgain.{LaidOutReadsOnlyAs}
use Rattle.written_model.specs.ReadBack.{ReadIsSpellable, LaidOutReadsBack}
use Rattle.written_model.specs.declared.options.Options.{Options}
use Rattle.written_model.specs.Opened.{IsOpened}
use Rattle.written_model.specs.WrittenSteps.{Use, WrittenStep, WrittenItem, comment, step, steps_in, trees}
use Rattle.written_model.specs.Filled.{fill_item, filled_items}
use Rattle.written_model.specs.Named.{name_tree, name_use, name_items}
use Rattle.fault_lines.specs.Refusals.{too_large, told_number}
use Rattle.written_model.specs.Written.{Writing, Writes, HasNoLateFault, LateFault, after_filling, after_naming, written_step, written_pairs}
use Rattle.written_model.specs.Written.{written_sheet, written_theorem, written_proof, written_text, proof_text}
use Rattle.answer_laws.specs.WrittenReads.{IsReadBack, WrittenReadsBack}
use Rattle.answer_laws.proofs.Elements.{all_with}
use Rattle.answer_laws.proofs.FilledAlike.{IsGoodUse, IsGoodItem}
use Rattle.answer_laws.proofs.Plain.{ArePlain}
use Rattle.answer_laws.proofs.PlainAssertions.{are_plain}
use Rattle.answer_laws.proofs.OneBinding.{filled_by_sheet}
use Rattle.answer_laws.proofs.WrittenSettled.{written_settled}
use Rattle.answer_laws.proofs.SearchStays.{trees_searched}
use Rattle.answer_laws.proofs.WellTrees.{IsWell}
use Rattle.answer_laws.proofs.WellWritten.{IsToken, named_well, written_well, filled_well}
use Rattle.answer_laws.proofs.Wordy.{Wordy, filled_wordy, all_count, names_of, hyps_of, read_names}
use Rattle.answer_laws.proofs.WrittenWordy.{wordy_read, comments_read, AreWordy, named_steps, named_names, named_hyps, items_searched, names_searched}
use Rattle.answer_laws.proofs.WrittenWordy.{hyps_searched, written_steps, steps_spelled, comments_spelled, provable_token, steps_within}
use Rattle.answer_laws.proofs.WrittenPairs.{IsKnownTree, IsKnownUse, IsFinePair, given_fine, pairs_fine, pairs_spelled, uses_searched}
use Rattle.answer_laws.proofs.OneLine.{IsLine, plain_line, qed_lines, text_line, one_line, hyps_lines}

pub at_most : (n m : ℕ) → (m < n → ⊥) → n ≤ m
at_most n m h = by (nat_lt m n) refl
  where
    by : (b : Bool) → nat_lt m n ≡ b → n ≤ m
    by true e = absurd (h (ltb-true m n e))
    by false e = let more = ltb-false m n e in omega (arith, more)

label_in : (ns : List Name) (n : ℕ) → AllByRecursion (λ m. is_label m ≡ true) ns → n < length ns → is_label (slice_index_or ns n []) ≡ true
label_in [] n h l = absurd (omega (arith, l))
label_in (x ∷ xs) zero h l = h.0
label_in (x ∷ xs) (suc n) h l = label_in xs n h.1 (omega (arith, l))

sheet_names : (db : Database) (es : List WrittenStep) → map (λ (t : SheetStep). t.name) (map (written_step db) es) ≡ names_of es
sheet_names db [] = refl
sheet_names db (e ∷ es) = ap (λ ns. e.name ∷ ns) (sheet_names db es)

sheet_hyps : (db : Database) (es : List WrittenStep) → map (λ (t : SheetStep). t.hyp) (map (written_step db) es) ≡ hyps_of es
sheet_hyps db [] = refl
sheet_hyps db (e ∷ es) = ap (λ ns. e.hyp ∷ ns) (sheet_hyps db es)

-- what is used of the database
pub record IsNamed (db : Database) : Type 0 where
  pub facts : IsDatabase db
  pub plain : ArePlain db
  pub labels : AllByRecursion (λ n. is_label n ≡ true) db.labels
  pub symbols : AllByRecursion IsSymbolName db.symbols
  pub labelled : (l : Label) (u : Use) → db.usable l ≡ Some u.assertion → is_label (label_name db l) ≡ true
  pub active : (place : ℕ) → AllByRecursion (λ (h : Hyp). IsLine h.name) (db.active_at place).hyps

module _ (db : Database) (base : IsNamed db) (text : List ℕ) (options : Options) (w : Writing) (writes : Writes db text options w) (late : HasNoLateFault db options w)
    (spellable : ReadIsSpellable) (no_new : (bound : Bound) (asked : List Asked) → NoNewVariable db bound asked) where
  abbrev S : Sheet
  S = writes.reads.read

  abbrev es : List WrittenStep
  es = steps_in w.items

  sp : IsSpellable S
  sp = spellable text S writes.reads.reads

  sheet_steps : steps (written_sheet db options w) ≡ map (written_step db) es
  sheet_steps = written_steps db w.items

  -- ---- how many steps there are

  within_limit : length (written_text db options w) ≤ most_sheet_bytes
  within_limit = at_most (length (written_text db options w)) most_sheet_bytes (λ l. late 4 (too_large (told_number (length (written_text db options w)))) (LateFault.large l))

  few : length es ≤ most_sheet_bytes
  few =
      let bytes = within_limit in
      let within = steps_within (written_sheet db options w) (written_proof db options w) in
      let count : length (steps (written_sheet db options w)) ≡ length es = ap length sheet_steps ∙ length-map es (written_step db) in
      omega (arith, bytes, within, count)

  abbrev filled : List WrittenItem
  filled = filled_items (step_names S) w.bound w.value w.judgements S.items

  filled_is : filled ≡ after_filling db options w
  filled_is = filled_by_sheet S w.read writes.reads.same w.bound w.value w.judgements

  labelled : (l : Label) (u : Use) → db.usable l ≡ Some u.assertion → is_label (label_name db l) ≡ true
  labelled = base.labelled

  names_same : names_of es ≡ names_of (steps_in filled)
  names_same =
      names_searched db labelled options w (after_naming db options w) w.items writes.searched ∙ named_names w.names (after_filling db options w) ∙ ap (λ is. names_of (steps_in is)) (sym filled_is)

  hyps_same : hyps_of es ≡ hyps_of (steps_in filled)
  hyps_same =
      hyps_searched db labelled options w (after_naming db options w) w.items writes.searched ∙ named_hyps w.names (after_filling db options w) ∙ ap (λ is. hyps_of (steps_in is)) (sym filled_is)

  filled_count : length (steps_in filled) ≡ length es
  filled_count = sym (length-map (steps_in filled) (λ (e : WrittenStep). e.name)) ∙ ap length (sym names_same) ∙ length-map es (λ (e : WrittenStep). e.name)

  small : length (read_names (steps S)) + length (steps_in filled) ≤ 2 ^ 64
  small =
      let count = length-map (steps S) (λ (s : SheetStep). s.name) in
      let more = all_count w.bound w.value w.judgements (steps S) S.items (record { items = []; numbers = [] }) in
      let same = filled_count in
      let limit = few in
      bound_by (length (read_names (steps S))) (length (steps S)) (length (steps_in filled)) (length es) count more same limit
    where
      bound_by : (a b c d : ℕ) → a ≡ b → 0 + b ≤ c → c ≡ d → d ≤ 2 ^ 24 → a + c ≤ 2 ^ 64
      bound_by a b c d h k m l = omega (arith, h, k, m, l)

  wordy : Wordy w.bound w.value w.judgements (steps S) (fold (fill_item (step_names S) w.bound w.value w.judgements) (record { items = []; numbers = [] }) S.items) (steps S)
  wordy = filled_wordy w.bound w.value w.judgements (steps S) S.items refl sp.names_differ (wordy_read S sp) (comments_read S.items sp.each_item) small

  filled_words : AreWordy (after_filling db options w)
  filled_words = subst AreWordy filled_is (record { steps = wordy.steps; comments = wordy.comments })

  words : AreWordy w.items
  words = items_searched db labelled options w (after_naming db options w) w.items writes.searched (named_steps w.names (after_filling db options w) filled_words)

  provable : IsToken db.provable
  provable = provable_token db S sp writes.binds.sound

  wells : AllByRecursion (IsWell db w.bound.place) (trees es)
  wells = written_well db base.facts.grammar base.plain text options w writes no_new

  -- ---- the pairs

  all_known : (ts : List Tree) → AllByRecursion (IsWell db w.bound.place) ts → AllByRecursion (IsKnownTree db) ts
  all_known ts h = all_with (IsWell db w.bound.place) (IsKnownTree db) (λ t k. k.known) ts h

  named_values : (ts : List Tree) → AllByRecursion (IsWell db w.bound.place) ts → AllByRecursion (IsKnownTree db) (map (name_tree w.names) ts)
  named_values [] h = tt
  named_values (t ∷ ts) h = ((named_well db base.facts.grammar base.plain text options w writes no_new t h.0).known, named_values ts h.1)

  named_use : (o : Option Use) → IsGoodUse (IsWell db w.bound.place) o → IsKnownUse db (name_use w.names o)
  named_use None h = tt
  named_use (Some u) h = named_values u.values h

  named_uses : (is : List WrittenItem) → AllByRecursion (IsGoodItem (IsWell db w.bound.place)) is → AllByRecursion (λ (e : WrittenStep). IsKnownUse db e.by) (steps_in (name_items w.names is))
  named_uses [] h = tt
  named_uses (comment lines ∷ is) h = named_uses is h.1
  named_uses (step e ∷ is) h = (named_use e.by h.0.1, named_uses is h.1)

  known_trees : AllByRecursion (IsKnownTree db) (trees (steps_in (after_naming db options w)))
  known_trees =
      subst (AllByRecursion (IsKnownTree db)) (sym (trees_searched db options w (after_naming db options w) w.items writes.searched)) (all_known (trees es) wells)

  known_uses : AllByRecursion (λ (e : WrittenStep). IsKnownUse db e.by) es
  known_uses =
      uses_searched db base.plain options w known_trees (after_naming db options w) w.items writes.searched known_trees
      (named_uses (after_filling db options w) (filled_well db base.facts.grammar base.plain text options w writes no_new))

  fine_pairs : AllByRecursion (IsFinePair db) (written_pairs db options w)
  fine_pairs = pairs_fine db options.dv w.bound.pairs es (subst (AllByRecursion (IsFinePair db)) (sym writes.binds.pairs) (given_fine db S sp.each_pair)) known_uses

  -- ---- the sheet

  can_be_spelled : IsSpellable (written_sheet db options w)
  can_be_spelled = record {
    theorem = ap (λ (s : Sheet). is_token s.theorem) (sym writes.reads.same) ∙ sp.theorem;
    loc = ap (λ (s : Sheet). option_map_or is_label s.loc true) (sym writes.reads.same) ∙ sp.loc;
    each_step = ap (are_steps_spellable 0) sheet_steps
        ∙ steps_spelled db base.symbols base.facts w.bound.place provable 0 es (written_settled db base.plain text options w writes spellable) words.steps wells;
    each_item = comments_spelled db w.items words.comments;
    names_differ = ap (λ ss. has_twice (map (λ (t : SheetStep). t.name) ss)) sheet_steps ∙ ap has_twice (sheet_names db es ∙ names_same) ∙ wordy.differ;
    qed_last = ap (λ ss. last_or None (map (λ (t : SheetStep). t.name) ss)) sheet_steps ∙ ap (last_or None) (sheet_names db es ∙ names_same) ∙ wordy.last ∙ sp.qed_last;
    qed_no_hyp = ap (λ ss. last_or None (map (λ (t : SheetStep). t.hyp) ss)) sheet_steps ∙ ap (last_or None) (sheet_hyps db es ∙ hyps_same) ∙ wordy.last_hyp ∙ sp.qed_no_hyp;
    each_pair = pairs_spelled db base.symbols base.facts (written_pairs db options w) fine_pairs;
  }

  proof_line : IsLine (proof_text db options.style (written_theorem db options w) es)
  proof_line =
      text_line db options.style (written_theorem db options w) es
      (qed_lines db base.labels (written_theorem db options w).hyps
      (hyps_lines db (written_sheet db options w) es sheet_steps words.steps (base.active (place_of db (written_sheet db options w)))) es words.steps)

  pub reads_back : LaidOutReadsBack → LaidOutReadsOnlyAs → IsReadBack db text options w
  reads_back laid only =
      let line = one_line w.finished (proof_text db options.style (written_theorem db options w) es) proof_line in
      record {
        spellable = can_be_spelled;
        one_line = line;
        sound = (only (written_sheet db options w) (written_proof db options w) can_be_spelled line within_limit).0;
        reads = laid (written_sheet db options w) (written_proof db options w) can_be_spelled line;
      }

-- ---- over the database of a text without a fault

module _ (has : HasDatabaseFacts) (standing : MandatoryVariablesStand) (owned : FramesHaveOwnExpressions) (words_law : NamesAreWords) (active_law : ActiveNamesArePlain) where
  pub named_in : (db : Database) (options : Options) → IsOpened options.kinds db → IsNamed db
  named_in db options o =
      let is = o.is_database in
      let facts = has options.kinds o.text db is o.sound in
      let words_are = words_law options.kinds o.text db is o.sound in
      record {
        facts = facts;
        plain = are_plain options.kinds o.text db is o.sound facts standing owned;
        labels = words_are.0;
        symbols = words_are.1;
        labelled = λ l u e.
            let usable = facts.usable l u.assertion e in
            let own = owned o.text db (record { symbols = is.symbols; frame = is.frame; active_at = is.active_at; is_constant_at = is.is_constant_at }) o.sound l u.assertion.frame usable.frame in
            label_in db.labels l.0 words_are.0 (subst (λ ns. l.0 < length ns) (sym is.labels) own.label);
        active = λ place. all_with (λ (h : Hyp). list_all (λ b. not (is_white b)) h.name ≡ true) (λ (h : Hyp). IsLine h.name) (λ h k. plain_line h.name k)
            (db.active_at place).hyps (active_law options.kinds o.text db is o.sound place);
      }

  pub written_reads_back : ReadIsSpellable → LaidOutReadsBack → LaidOutReadsOnlyAs → ((db : Database) (bound : Bound) (asked : List Asked) → NoNewVariable db bound asked)
      → (db : Database) (text : List ℕ) (options : Options) (w : Writing) → WrittenReadsBack db text options w
  written_reads_back spellable laid only no_new db text options w o writes late = reads_back db (named_in db options o) text options w writes late spellable (no_new db) laid only
