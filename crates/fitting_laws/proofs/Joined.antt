-- A worksheet that fits as it is written becomes finished, or has a fault of size.
use Rattle.std.specs.Prelude.{◌≡◌, ◌<◌, ◌≤◌, ◌^◌, ℕ, Bool, true, false, List, [], ◌∷◌, ◌++◌, length, map, flat_map, filter_map, take, nat_lt, Contains, slice_get}
use Rattle.std.specs.Prelude.{is_some, Option, Some, None, codes, refl}
use Rattle.std.specs.List.{AllByRecursion, AllZip, list_all}
use Rattle.std.proofs.Common.{sym, ap, subst, ◌∙◌, cond, arith, inl, inr}
use Rattle.std.proofs.lemmas.Bool.{and_parts, and_from, ltb-false}
use Rattle.std.proofs.lemmas.List.{length-append, length-map}
use Rattle.std.proofs.lemmas.Slice.Eq.{bytes_eq-Decides}
use Rattle.fault_lines.specs.Refusals.{Refusal, at_line}
use Rattle.mm_base.specs.declared.symbols.Pair.{Pair}
use Rattle.mm_base.specs.declared.symbols.Sym.{Sym}
use Rattle.mm_base.specs.declared.tree.Tree.{Tree}
use Rattle.mm_base.specs.Limits.{most_formula_tokens, most_sheet_bytes}
use Rattle.mm_model.specs.declared.rows.Leaf.{Leaf}
use Rattle.mm_model.specs.declared.rows.Leaf.TheVariants as leaf
use Rattle.mm_model.specs.Faults.{Fault, fault}
use Rattle.mm_model.specs.Names.{Name}
use Rattle.mm_model.specs.Statements.{database_fault}
use Rattle.mm_model.specs.Typed.{IsTyped}
use Rattle.mm_model.specs.Book.{Database, IsDatabaseOf, declared_leaf}
use Rattle.mm_model.specs.BookFacts.{IsDatabase}
use Rattle.model_laws.specs.DatabaseLaws.{HasDatabaseFacts, NamesAreWords}
use Rattle.sheet_text.specs.declared.sheet.Sheet.{Sheet}
use Rattle.sheet_text.specs.declared.sheet.SheetItem.{SheetItem}
use Rattle.sheet_text.specs.declared.sheet.SheetItem.TheVariants as item
use Rattle.sheet_text.specs.declared.sheet.SheetStep.{SheetStep}
use Rattle.sheet_text.specs.Layout.{layout, lines_of, item_lines, pair_line, step_names, ended, step_of_item, steps}
use Rattle.sheet_text.specs.Reads.{Reads, unnumbered}
use Rattle.sheet_text.specs.Spellable.{IsSpellable}
use Rattle.sheet_text.specs.TextFaults.{text_fault, line_fault}
use Rattle.sheet_laws.specs.ReadAgain.{ReadsOnlyAs, LaidOutReadsOnlyAs}
use Rattle.solve_model.specs.declared.bound.Bound.{Bound}
use Rattle.solve_model.specs.declared.bound.BoundStep.{BoundStep}
use Rattle.solve_model.specs.Binding.{place_of, given_pairs}
use Rattle.solve_model.specs.BindFaults.{BindFaultAt, begins_with_token}
use Rattle.solve_model.specs.Bound.{Binds, IsBoundStep, HasTree}
use Rattle.solve_model.specs.Formulas.{IsTheTree, leaf_of, leaf_by, is_known, expression_of}
use Rattle.solve_model.specs.Solutions.{Solves}
use Rattle.solve_model.specs.Trees.{work, fresh}
use Rattle.solve_model.specs.Verdicts.{Judgement, accepted_in}
use Rattle.solve_laws.specs.Instances.{IsClosedTree}
use Rattle.solve_laws.specs.OneJudgement.{JudgementsAreOne}
use Rattle.solve_laws.proofs.Elements.{parted}
use Rattle.solve_laws.proofs.NoFresh.{no_fresh_leaf}
use Rattle.written_model.specs.declared.options.Options.{Options}
use Rattle.written_model.specs.Again.{judgements_from}
use Rattle.written_model.specs.Found.{IsSearched}
use Rattle.written_model.specs.Named.{name_step}
use Rattle.written_model.specs.Opened.{IsOpened}
use Rattle.written_model.specs.ProofTrees.{Finished}
use Rattle.written_model.specs.ReadBack.{ReadIsSpellable}
use Rattle.written_model.specs.Written.{Writing, Writes, Answer, Answers, refused, bad_text, unbound, much, late, written, LateFault, IsTooLong, IsAmbiguous}
use Rattle.written_model.specs.Written.{formula_tokens, after_filling}
use Rattle.written_model.specs.WrittenSteps.{WrittenStep, steps_in}
use Rattle.again_laws.specs.Second.{BindsWithoutLines}
use Rattle.again_laws.specs.Whole.{AssertionsAreWhole}
use Rattle.again_laws.proofs.Filling.{IsFilling}
use Rattle.again_laws.proofs.Lists.{from_filter_map, zip_left, zip_right, zip_long}
use Rattle.again_laws.proofs.Orders.{first_stands}
use Rattle.again_laws.proofs.Setting.{Setting, setting, step_there, filling_of}
use Rattle.again_laws.proofs.TextLeaves.{work_shown}
use Rattle.again_laws.proofs.TokenLaws.{declared_no_work}
use Rattle.again_laws.proofs.TokensStay.{tokens_back}
use Rattle.push_laws.proofs.Books.{is_book}
use Rattle.push_laws.proofs.Facts.{IsBook}
use Rattle.fitting_laws.specs.FitsAsWritten.{IsWhole, FitsAsWritten, is_active}
use Rattle.call_answers.specs.Finishes.{IsOfSize, long_text, BecomesFinished, FitsAsGiven}
use Rattle.fitting_laws.specs.FittingBecomesFinished.{FittingBecomesFinished}
use Rattle.fitting_laws.proofs.BindsAsIs.{binds_as_is}
use Rattle.fitting_laws.proofs.Ends.{given_as_is, finished as ends_finished, none_long, none_ambiguous}
use Rattle.fitting_laws.proofs.Expected.{View, Fitting, expected}
use Rattle.fitting_laws.proofs.FilledAsIs.{filled_as_is}
use Rattle.fitting_laws.proofs.FrameHyps.{names_differ, hyp_listed}
use Rattle.fitting_laws.proofs.Judging.{judged}
use Rattle.fitting_laws.proofs.NamedAsIs.{named_as_is, searched_as_is}
use Rattle.fitting_laws.proofs.Scenes.{Scene}
use Rattle.fitting_laws.proofs.Spells.{spellable, qed_at}
use Rattle.fitting_laws.proofs.Stated.{theorem_of_sheet, whole_at, source_of, below_at, active_symbol}

-- ---- a worksheet has no more steps than bytes

ended_long : (xs : List (List ℕ)) → length xs ≤ length (flat_map ended xs)
ended_long [] = omega arith
ended_long (x ∷ xs) =
    let rest = ended_long xs in
    let one = length-append (ended x) (flat_map ended xs) in
    let two = length-append x (10 ∷ []) in
    omega (arith, rest, one, two)

items_long : (names : List (List ℕ)) (items : List SheetItem) → length (filter_map step_of_item items) ≤ length (flat_map (item_lines names) items)
items_long names [] = omega arith
items_long names (item.Comment lines ∷ items) =
    let rest = items_long names items in
    let one = length-append lines (flat_map (item_lines names) items) in
    omega (arith, rest, one)
items_long names (item.Step s ∷ items) = let rest = items_long names items in omega (arith, rest)

steps_few : (s : Sheet) → length (steps s) ≤ length (layout s None)
steps_few s =
    let items = flat_map (item_lines (step_names s)) s.items in
    let pairs = map pair_line s.pairs in
    let foot : List (List ℕ) = codes "$)" ∷ [] in
    let some = items_long (step_names s) s.items in
    let lines = ended_long (lines_of s None) in
    let a = length-append items [] in
    let b = length-append (items ++ []) pairs in
    let c = length-append ((items ++ []) ++ pairs) foot in
    omega (arith, some, lines, a, b, c)

-- ---- a whole formula

module _ (db : Database) (facts : IsDatabase db) (place : ℕ) (tokens : List Name) (t : Tree) (w : IsWhole db place tokens t) where
  read_active : (token : Name) → is_active db place token ≡ true → (x : Leaf) → leaf_of db place token ≡ Some x → (s : Sym) × (declared_leaf db place s ≡ Some x)
  read_active token a x e = let s = active_symbol db place token a in (s.0, sym (ap (leaf_by db place token) s.1) ∙ e)

  known_one : (token : Name) → is_active db place token ≡ true → is_known db place token ≡ true
  known_one token a = let s = active_symbol db place token a in ap (λ o. is_some (leaf_by db place token o)) s.1 ∙ s.2

  all_known : (ts : List Name) → list_all (is_active db place) ts ≡ true → list_all (is_known db place) ts ≡ true
  all_known [] a = refl
  all_known (x ∷ ts) a =
      let two = and_parts (is_active db place x) (list_all (is_active db place) ts) a in
      and_from (is_known db place x) (list_all (is_known db place) ts) (known_one x two.0) (all_known ts two.1)

  -- it is written as it was
  whole_tokens : formula_tokens db t ≡ tokens
  whole_tokens = tokens_back db place tokens t (λ e. no_token (sym w.provable ∙ e)) (ap (begins_with_token db.provable) w.provable ∙ (bytes_eq-Decides db.provable db.provable).1 refl)
      (all_known tokens w.active) w.one_tree.parses.written
    where
      no_token : {x : Name} {xs : List Name} → x ∷ xs ≡ [] → ⊥
      no_token e = cc

  pass_at : (p : Name → Bool) (ts : List Name) → list_all p ts ≡ true → (x : Name) → Contains ts x → p x ≡ true
  pass_at p [] a x c = let less = c.1 in absurd (omega (arith, less))
  pass_at p (y ∷ ts) a x c =
      let two = and_parts (p y) (list_all p ts) a in
      elim (parted x y ts c) [ inl e ↦ ap p (sym e) ∙ two.0 | inr l ↦ pass_at p ts two.1 x l ]

  -- its tree has no open leaf
  whole_closed : IsClosedTree t
  whole_closed (work c n) o =
      let there = work_shown db.rows place facts.grammar.rows_hold c n t w.one_tree.parses.typed o in
      let m = from_filter_map (leaf_of db place) w.rest (leaf.Work c n) (subst (λ xs. Contains xs (leaf.Work c n)) (w.one_tree.parses.written ∙ ap (expression_of db place) w.provable) there) in
      let rest = (and_parts (is_active db place db.provable) (list_all (is_active db place) w.rest) (subst (λ ts. list_all (is_active db place) ts ≡ true) w.provable w.active)).1 in
      let s = read_active m.0 (pass_at (is_active db place) w.rest rest m.0 m.1) (leaf.Work c n) m.2 in
      declared_no_work db place s.0 c n s.1
  whole_closed (fresh c n) o = no_fresh_leaf c n t w.one_tree.parses.named o

-- ---- the laws that it rests on

pub record Laws : Type 0 where
  pub facts : HasDatabaseFacts
  pub whole : AssertionsAreWhole
  pub spellable : ReadIsSpellable
  pub words : NamesAreWords
  pub reads : LaidOutReadsOnlyAs
  pub lines : BindsWithoutLines
  pub judgements : (db : Database) (bound : Bound) → JudgementsAreOne db bound

module _ (laws : Laws) (options : Options) (base : List ℕ) (db : Database) (sheet : Sheet) (sound : database_fault base ≡ None) (is : IsDatabaseOf options.kinds base db)
    (F : FitsAsWritten db sheet) (fits_in : length (layout sheet None) ≤ most_sheet_bytes) where
  abbrev the_text : List ℕ
  the_text = layout sheet None

  abbrev ss : List SheetStep
  ss = steps sheet

  abbrev pairs : List Pair
  pairs = given_pairs db sheet

  opened : IsOpened options.kinds db
  opened = record { text = base; sound = sound; is_database = is }

  facts : IsDatabase db
  facts = laws.facts options.kinds base db is sound

  book : IsBook db
  book = is_book options.kinds base db is sound

  small : length ss < 2 ^ 64
  small = let few = steps_few sheet in omega (arith, few, fits_in)

  can_spell : IsSpellable sheet
  can_spell =
      let t = theorem_of_sheet db sheet F.frame F.theorem in
      spellable db sheet F book.labels_are (laws.words options.kinds base db is sound).1 (hyp_listed options.kinds base db is sound t.label F.frame t.frame_is) small

  reads_only : ReadsOnlyAs the_text sheet
  reads_only = laws.reads sheet None can_spell tt fits_in

  bound_is : (bound : Bound) × Binds db sheet bound
  bound_is =
      let t = theorem_of_sheet db sheet F.frame F.theorem in
      binds_as_is db sheet F book.labels_are (names_differ options.kinds base db is sound t.label F.frame t.frame_is) small
      (qed_at db sheet F book.labels_are (laws.words options.kinds base db is sound).1 (hyp_listed options.kinds base db is sound t.label F.frame t.frame_is) small)

  no_fault : (s : Sheet) (f : Fault) → Reads the_text s → BindFaultAt db s f.place f.code → ⊥
  no_fault s f r stands = (laws.lines db sheet s bound_is.0 (sym (reads_only.1 s r)) bound_is.1).sound f.place f.code stands

  -- ---- what it is written as

  module _ (w : Writing) (writes : Writes db the_text options w) where
    same_sheet : unnumbered sheet ≡ unnumbered w.read
    same_sheet = sym (reads_only.1 writes.reads.read writes.reads.reads) ∙ writes.reads.same

    binds : Binds db sheet w.bound
    binds = laws.lines db writes.reads.read sheet w.bound (reads_only.1 writes.reads.read writes.reads.reads) writes.binds

    abbrev place : ℕ
    place = w.bound.place

    same_place : place ≡ place_of db sheet
    same_place = binds.place

    fits : Fitting db place pairs (λ k. take k F.trees) ss F.trees
    fits = subst (λ n. Fitting db n pairs (λ k. take k F.trees) ss F.trees) (sym same_place) F.fits

    view : (es : List WrittenStep) × View db place pairs (λ k. take k F.trees) ss F.trees es
    view = expected db place pairs (λ (s : SheetStep) (t : Tree). IsWhole db (place_of db sheet) s.formula t) ss F.trees F.whole fits

    abbrev es : List WrittenStep
    es = view.0

    tree_of : (b : BoundStep) (s : SheetStep) (t : Tree) → IsBoundStep db (place_of db sheet) s b → IsWhole db (place_of db sheet) s.formula t → b.tree ≡ Some t
    tree_of b s t i h = by b.tree refl i.tree
      where
        by : (o : Option Tree) → b.tree ≡ o → HasTree db (place_of db sheet) s.formula o → b.tree ≡ Some t
        by None e k = absurd (no_token (sym h.provable ∙ k))
          where
            no_token : {x : Name} {xs : List Name} → x ∷ xs ≡ [] → ⊥
            no_token q = cc
        by (Some u) e k = e ∙ ap (λ x. Some x) (h.one_tree.only u k.parses)

    scene : Scene db w.bound pairs ss F.trees es
    scene = record {
      view = view.1;
      bound_at = λ k s t s_at t_at. let b = zip_right (IsBoundStep db (place_of db sheet)) ss w.bound.steps binds.steps k s s_at in
          (b.0, b.1, record { hyp = b.2.hyp; places = b.2.places; reference = b.2.reference });
      bound_tree = λ k b b_at.
          let s = zip_left (IsBoundStep db (place_of db sheet)) ss w.bound.steps binds.steps k b b_at in
          let t = whole_at db sheet F k s.0 s.1 in
          (t.0, t.1, tree_of b s.0 t.0 s.2 t.2);
      tree_bound = λ k t t_at.
          let s = source_of db sheet F k t t_at in
          let b = zip_right (IsBoundStep db (place_of db sheet)) ss w.bound.steps binds.steps k s.0 s.1 in
          (b.0, b.1);
      bound_long = sym (zip_long (IsBoundStep db (place_of db sheet)) ss w.bound.steps binds.steps)
          ∙ zip_long (λ (s : SheetStep) (t : Tree). IsWhole db (place_of db sheet) s.formula t) ss F.trees F.whole
          ∙ sym (ap length view.1.trees_are) ∙ length-map es (λ (e : WrittenStep). e.tree);
      below = below_at db sheet F;
      typed = λ k t t_at. subst (λ n. IsTyped db.rows n t) (sym same_place) (source_of db sheet F k t t_at).2.one_tree.parses.typed;
      closed = λ k t t_at. let s = source_of db sheet F k t t_at in whole_closed db facts (place_of db sheet) s.0.formula t s.2;
      whole = λ l a e. laws.whole options.kinds db l a opened e;
      facts = facts;
    }

    numbers : List ℕ
    numbers = (filling_of w).numbers

    ds : List WrittenStep
    ds = steps_in (after_filling db options w)

    set : Setting db options w (filling_of w).numbers (steps_in (after_filling db options w))
    set = setting laws.facts laws.whole laws.spellable db the_text options w opened writes

    abbrev J : List Judgement
    J = judgements_from 0 es

    same_judgements : w.judgements ≡ J
    same_judgements = laws.judgements db w.bound w.judgements J set.judged (judged db w.bound pairs ss F.trees es scene)

    solved : AllByRecursion (Solves w.bound w.value) (accepted_in J)
    solved = subst (λ j. AllByRecursion (Solves w.bound w.value) (accepted_in j)) same_judgements set.the.most_general.solves

    filled : steps_in (after_filling db options w) ≡ es
    filled = filled_as_is db w.bound pairs ss F.trees es scene w.value solved (steps w.read) (step_there sheet w.read same_sheet) (steps_in (after_filling db options w)) (filling_of w).numbers
        (subst (λ j. IsFilling w.bound w.value j (steps w.read) (steps_in (after_filling db options w)) (filling_of w).numbers) same_judgements set.filling)
        (set.count ∙ set.long ∙ scene.bound_long)

    named : map (name_step w.names) (steps_in (after_filling db options w)) ≡ es
    named = ap (map (name_step w.names)) filled ∙ named_as_is db w.bound pairs ss F.trees es scene w.names

    as_written : steps_in w.items ≡ es
    as_written = searched_as_is db w.bound pairs ss F.trees es scene place options.dv w.bound.pairs es (steps_in w.items)
        (subst (λ xs. AllZip (IsSearched db place options.dv w.bound.pairs xs) xs (steps_in w.items)) named set.searched)

    is_finished : w.finished ≡ true
    is_finished = writes.finished.1
        (subst (λ xs. Finished options.dv w.bound.pairs xs) (sym as_written)
        (subst (λ ps. Finished options.dv ps es) (sym binds.pairs) (ends_finished db w.bound pairs ss F.trees es scene options.dv)))

    abbrev Tokens : Type 0
    Tokens = (k : ℕ) (s : SheetStep) (t : Tree) → slice_get ss k ≡ Some s → slice_get F.trees k ≡ Some t → formula_tokens db t ≡ s.formula

    whole_here : (k : ℕ) (s : SheetStep) (t : Tree) → slice_get ss k ≡ Some s → slice_get F.trees k ≡ Some t → IsWhole db (place_of db sheet) s.formula t
    whole_here k s t s_at t_at =
        let u = whole_at db sheet F k s s_at in
        let both : Some u.0 ≡ Some t = sym u.1 ∙ t_at in
        let same : u.0 ≡ t = cc in
        subst (IsWhole db (place_of db sheet) s.formula) same u.2

    tokens : Tokens
    tokens k s t s_at t_at = whole_tokens db facts (place_of db sheet) s.formula t (whole_here k s t s_at t_at)

    is_given : AllZip (FitsAsGiven db) ss (steps_in w.items)
    is_given = subst (AllZip (FitsAsGiven db) ss) (sym as_written) (given_as_is db w.bound pairs ss F.trees es scene tokens)

    short : (k : ℕ) (s : SheetStep) → slice_get ss k ≡ Some s → length s.formula ≤ most_formula_tokens
    short k s s_at = (whole_at db sheet F k s s_at).2.short

    one_tree : (k : ℕ) (s : SheetStep) (t : Tree) → slice_get ss k ≡ Some s → slice_get F.trees k ≡ Some t → IsTheTree db place s.formula t
    one_tree k s t s_at t_at = subst (λ n. IsTheTree db n s.formula t) (sym same_place) (whole_here k s t s_at t_at).one_tree

    late_size : (k : ℕ) (r : Refusal) → LateFault db options w k r → IsOfSize r
    late_size _ _ (LateFault.long e h) =
        let m = first_stands (IsTooLong db options w) (steps_in w.items) e h in
        absurd (none_long db w.bound pairs ss F.trees es scene tokens short one_tree e (subst (λ xs. Contains xs e) as_written m.0) m.1)
    late_size _ _ (LateFault.ambiguous e h) =
        let m = first_stands (IsAmbiguous db options w) (steps_in w.items) e h in
        absurd (none_ambiguous db w.bound pairs ss F.trees es scene tokens short one_tree e (subst (λ xs. Contains xs e) as_written m.0) m.1)
    late_size _ _ (LateFault.much h) = IsOfSize.much_written _
    late_size _ _ (LateFault.proof f s h) = IsOfSize.long_proof _
    late_size _ _ (LateFault.large h) = IsOfSize.large _

  answered : (answer : Answer) → Answers db the_text options answer → BecomesFinished db sheet answer
  answered _ (bad_text {f = f} e) = let bad : None ≡ Some f = sym reads_only.0 ∙ e in absurd cc
  answered _ (unbound {s = s} {f = f} none r i) = absurd (no_fault s f r i.stands)
  answered _ (much none r b over) = BecomesFinished.of_size (IsOfSize.much _)
  answered _ (late {w = w} none writes l) = BecomesFinished.of_size (late_size w writes l.rank _ l.stands)
  answered _ (written {w = w} none writes l) = BecomesFinished.finished (is_given w writes) (is_finished w writes)

pub fitting_finished : Laws → FittingBecomesFinished
fitting_finished laws options base db sheet answer sound is F answers = by (nat_lt most_sheet_bytes (length (layout sheet None))) refl
  where
    long_fault : {f : Fault} → nat_lt most_sheet_bytes (length (layout sheet None)) ≡ true → text_fault (layout sheet None) ≡ Some f → fault 1 50 ≡ f
    long_fault {f} e h =
        let both : Some (fault 1 50) ≡ Some f = sym (ap (λ (b : Bool). cond b (Some (fault 1 50)) (line_fault (layout sheet None))) e) ∙ h in
        cc

    no_long : nat_lt most_sheet_bytes (length (layout sheet None)) ≡ true → text_fault (layout sheet None) ≡ None → ⊥
    no_long e h =
        let both : Some (fault 1 50) ≡ None = sym (ap (λ (b : Bool). cond b (Some (fault 1 50)) (line_fault (layout sheet None))) e) ∙ h in
        cc

    too_long : nat_lt most_sheet_bytes (length (layout sheet None)) ≡ true → (a : Answer) → Answers db (layout sheet None) options a → BecomesFinished db sheet a
    too_long e _ (bad_text {f = f} h) = subst (λ (x : Fault). BecomesFinished db sheet (refused (at_line x))) (long_fault e h) (BecomesFinished.of_size long_text)
    too_long e _ (unbound none r i) = absurd (no_long e none)
    too_long e _ (much none r b over) = absurd (no_long e none)
    too_long e _ (late none writes l) = absurd (no_long e none)
    too_long e _ (written none writes l) = absurd (no_long e none)

    by : (b : Bool) → nat_lt most_sheet_bytes (length (layout sheet None)) ≡ b → BecomesFinished db sheet answer
    by true e = too_long e answer answers
    by false e = answered laws options base db sheet sound is F (ltb-false most_sheet_bytes (length (layout sheet None)) e) answer answers
