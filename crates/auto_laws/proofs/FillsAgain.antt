-- What was filled is filled again as it is.
use Rattle.std.specs.Prelude.{◌≡◌, ◌<◌, ◌≤◌, ◌+◌, ◌++◌, ℕ, Bool, true, false, nat_lt, List, [], ◌∷◌, length, map, flat_map, Option, None, codes, refl}
use Rattle.std.proofs.Common.{sym, ap, subst, ◌∙◌, arith, ltb-true, ltb-false}
use Rattle.std.proofs.lemmas.Grind.{flat_map-append}
use Rattle.std.proofs.lemmas.List.{length-append}
use Rattle.mm_base.specs.Limits.{most_sheet_bytes}
use Rattle.mm_model.specs.Book.{Database}
use Rattle.fault_lines.specs.Refusals.{too_large, told_number}
use Rattle.sheet_text.specs.declared.sheet.Sheet.{Sheet}
use Rattle.sheet_text.specs.Layout.{layout, ended, header_line, item_lines, pair_line, proof_lines, step_names}
use Rattle.sheet_text.specs.Reads.{ReadsAs}
use Rattle.sheet_text.specs.TextFaults.{text_fault}
use Rattle.sheet_laws.specs.ReadAgain.{LaidOutReadsOnlyAs}
use Rattle.written_model.specs.declared.options.Options.{Options}
use Rattle.written_model.specs.Opened.{IsOpened}
use Rattle.written_model.specs.WrittenSteps.{WrittenItem}
use Rattle.written_model.specs.Written.{Writing, Writes, HasNoLateFault, LateFault, Answer, Answers, wrote, written_sheet, written_proof, written_text}
use Rattle.written_model.specs.Again.{again}
use Rattle.written_model.specs.WrittenAgain.{AnswersAreOne, IsWrittenAgain, IsFixpoint}
use Rattle.answer_laws.specs.WrittenReads.{IsReadBack}
use Rattle.auto_model.specs.AutoFilled.{AreFilledFrom, filled_sheet, AutoAnswers, FillingAgainChangesNothing}
use Rattle.auto_laws.proofs.UsedItems.{AreUsedFrom, AreDone, filled_used}
use Rattle.auto_laws.proofs.FilledAgain.{filled_writing}
use Rattle.auto_laws.proofs.FilledWrites.{Laws, IsFilledWriting, facts, first_judged, is_filled_writing}
use Rattle.auto_laws.proofs.NoneFilled.{stays_filled}

-- ---- without its proof a text is no longer

joined_length : (xs ys : List (List ℕ)) → length (flat_map ended (xs ++ ys)) ≡ length (flat_map ended xs) + length (flat_map ended ys)
joined_length xs ys = ap length (flat_map-append ended xs ys) ∙ length-append (flat_map ended xs) (flat_map ended ys)

without_lines : (a b c d : List (List ℕ)) → length (flat_map ended (a ++ [] ++ c ++ d)) ≤ length (flat_map ended (a ++ b ++ c ++ d))
without_lines a b c d =
    let one = joined_length a [] in
    let two = joined_length (a ++ []) c in
    let three = joined_length ((a ++ []) ++ c) d in
    let four = joined_length a b in
    let five = joined_length (a ++ b) c in
    let six = joined_length ((a ++ b) ++ c) d in
    omega (arith, one, two, three, four, five, six)

without_proof : (s : Sheet) (proof : Option (List ℕ)) → length (layout s None) ≤ length (layout s proof)
without_proof s proof =
    let a = flat_map (item_lines (step_names s)) s.items in
    let c = map pair_line s.pairs in
    let d : List (List ℕ) = codes "$)" ∷ [] in
    let less = without_lines a (proof_lines proof) c d in
    let one = length-append (ended (header_line s)) (flat_map ended (a ++ [] ++ c ++ d)) in
    let two = length-append (ended (header_line s)) (flat_map ended (a ++ proof_lines proof ++ c ++ d)) in
    omega (arith, less, one, two)

not_more : (n m : ℕ) → (m < n → ⊥) → n ≤ m
not_more n m h = by (nat_lt m n) refl
  where
    by : (b : Bool) → nat_lt m n ≡ b → n ≤ m
    by true e = absurd (h (ltb-true m n e))
    by false e = let more = ltb-false m n e in omega (arith, more)

module _ (laws : Laws) (only : LaidOutReadsOnlyAs) (again_law : (db : Database) (text : List ℕ) (options : Options) (w : Writing) → IsWrittenAgain db text options w)
    (one_law : (db : Database) (text : List ℕ) (options : Options) → AnswersAreOne db text options) where
  -- ---- the written worksheet, laid out without a proof

  module _ (db : Database) (options : Options) (o : IsOpened options.kinds db) (text : List ℕ) (w : Writing) (writes : Writes db text options w) (late : HasNoLateFault db options w) where
    back : IsReadBack db text options w
    back = laws.back db text options w o writes late

    fixed : IsFixpoint db text options w
    fixed = again_law db text options w o writes late

    pub answers_again : Answers db (written_text db options w) options (wrote (again db options w))
    answers_again = Answers.written back.sound fixed.writes fixed.no_fault

    abbrev bare_text : List ℕ
    bare_text = layout (written_sheet db options w) None

    short : length bare_text ≤ most_sheet_bytes
    short =
        let whole : length (written_text db options w) ≤ most_sheet_bytes =
        not_more (length (written_text db options w)) most_sheet_bytes (λ l. late 4 (too_large (told_number (length (written_text db options w)))) (LateFault.large l)) in
        let less = without_proof (written_sheet db options w) (written_proof db options w) in
        at_most_by (length bare_text) (length (written_text db options w)) most_sheet_bytes less whole
      where
        at_most_by : (a b c : ℕ) → a ≤ b → b ≤ c → a ≤ c
        at_most_by a b c h k = omega (arith, h, k)

    reads : ReadsAs bare_text (written_sheet db options w)
    reads = laws.laid (written_sheet db options w) None back.spellable tt

    bare_writes : Writes db bare_text options (again db options w)
    bare_writes =
        let F = fixed.writes in
        record {
          reads = reads;
          binds = laws.lines db F.reads.read reads.read (again db options w).bound (F.reads.same ∙ sym reads.same) F.binds;
          within_limit = F.within_limit;
          judged = F.judged;
          most_general = F.most_general;
          naming = F.naming;
          searched = F.searched;
          finished = F.finished;
        }

    pub answers_bare : Answers db bare_text options (wrote (again db options w))
    answers_bare = Answers.written (only (written_sheet db options w) None back.spellable tt short).0 bare_writes fixed.no_fault

  -- ---- filled twice

  module _ (db : Database) (options : Options) (o : IsOpened options.kinds db) (text : List ℕ) (w : Writing) (writes : Writes db text options w) (late : HasNoLateFault db options w) where
    abbrev Again : Writing → Type 0
    Again v = (z : Writing) × AutoAnswers db (written_text db options v) options (wrote z) × (written_text db options z ≡ written_text db options v)

    module _ (used : List WrittenItem) (h : AreUsedFrom db options w 0 w.items used)
        (done : AreDone db options w (facts laws db options o text w writes late) (first_judged laws db options o text w writes late) 0 used)
        (v : Writing) (sound : text_fault (layout (filled_sheet db options w used) None) ≡ None) (second : Writes db (layout (filled_sheet db options w used) None) options v)
        (second_late : HasNoLateFault db options v) where
      abbrev second_text : List ℕ
      second_text = layout (filled_sheet db options w used) None

      F : IsFilledWriting db options w used
      F = is_filled_writing laws db options o text w writes late used h v second second_late

      abbrev W : Writing
      W = filled_writing db options w used F.finished

      abbrev X : Writing
      X = again db options W

      abbrev Y : Writing
      Y = again db options X

      X_fixed : IsFixpoint db second_text options W
      X_fixed = again_law db second_text options W o F.writes F.no_fault

      Y_fixed : IsFixpoint db (written_text db options W) options X
      Y_fixed = again_law db (written_text db options W) options X o X_fixed.writes X_fixed.no_fault

      same_text : written_text db options v ≡ written_text db options W
      same_text = (one_law db second_text options (wrote v) (wrote W) o (Answers.written sound second second_late) (Answers.written sound F.writes F.no_fault)).text

      filled_same : AutoAnswers db (written_text db options W) options (wrote Y)
      filled_same =
          AutoAnswers.again {w = X} X.items {answer = wrote Y} (answers_again db options o second_text W F.writes F.no_fault)
          (stays_filled db options w used (facts laws db options o text w writes late) (first_judged laws db options o text w writes late) h F.finished done)
          (answers_bare db options o (written_text db options W) X X_fixed.writes X_fixed.no_fault)

      pub filled_again : Again v
      filled_again = (Y, subst (λ t. AutoAnswers db t options (wrote Y)) (sym same_text) filled_same, Y_fixed.same ∙ X_fixed.same ∙ sym same_text)

    from_second : (items : List WrittenItem) → AreFilledFrom db options w 0 w.items items → (v : Writing) → Answers db (layout (filled_sheet db options w items) None) options (wrote v) → Again v
    from_second items filled v answers =
        let u = filled_used db options w (facts laws db options o text w writes late) (first_judged laws db options o text w writes late) items filled in
        let sheet : filled_sheet db options w items ≡ filled_sheet db options w u.0 = ap (λ is. record (written_sheet db options w) { items = is }) (sym u.3) in
        by u.0 u.1 u.2 (wrote v) (subst (λ s. Answers db (layout s None) options (wrote v)) sheet answers) v refl
      where
        by : (used : List WrittenItem) → AreUsedFrom db options w 0 w.items used
            → AreDone db options w (facts laws db options o text w writes late) (first_judged laws db options o text w writes late) 0 used
            → (a : Answer) → Answers db (layout (filled_sheet db options w used) None) options a → (z : Writing) → a ≡ wrote z → Again z
        by used h done _ (Answers.bad_text e) z q = absurd cc
        by used h done _ (Answers.unbound e r f) z q = absurd cc
        by used h done _ (Answers.much e r b l) z q = absurd cc
        by used h done _ (Answers.late e k l) z q = absurd cc
        by used h done _ (Answers.written {w = x} sound second second_late) z q =
            let same : x ≡ z = cc in
            subst Again same (filled_again used h done x sound second second_late)

  pub filling_again : FillingAgainChangesNothing
  filling_again db options text v o answers = first_turn (wrote v) answers v refl
    where
      from_first : (a : Answer) → Answers db text options a → (w : Writing) → a ≡ wrote w → (items : List WrittenItem) → AreFilledFrom db options w 0 w.items items
          → (z : Writing) → Answers db (layout (filled_sheet db options w items) None) options (wrote z)
          → (y : Writing) × AutoAnswers db (written_text db options z) options (wrote y) × (written_text db options y ≡ written_text db options z)
      from_first _ (Answers.bad_text e) w q items filled z second = absurd cc
      from_first _ (Answers.unbound e r f) w q items filled z second = absurd cc
      from_first _ (Answers.much e r b l) w q items filled z second = absurd cc
      from_first _ (Answers.late e k l) w q items filled z second = absurd cc
      from_first _ (Answers.written {w = x} sound writes late) w q items filled z second =
          let same : w ≡ x = cc in
          from_second db options o text x writes late items (subst (λ y. AreFilledFrom db options y 0 y.items items) same filled) z
          (subst (λ y. Answers db (layout (filled_sheet db options y items) None) options (wrote z)) same second)

      first_turn : (a : Answer) → AutoAnswers db text options a → (z : Writing) → a ≡ wrote z
          → (y : Writing) × AutoAnswers db (written_text db options z) options (wrote y) × (written_text db options y ≡ written_text db options z)
      first_turn _ (AutoAnswers.bad_text e) z q = absurd cc
      first_turn _ (AutoAnswers.again {w = w} items first_answer filled second) z q =
          from_first (wrote w) first_answer w refl items filled z (subst (Answers db (layout (filled_sheet db options w items) None) options) q second)
