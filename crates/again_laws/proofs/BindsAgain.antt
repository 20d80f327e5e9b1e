-- From what a text becomes to what the written sheet binds.
use Rattle.std.specs.Prelude.{◌≡◌, ◌⊎◌, ◌<◌, ◌≤◌, ◌||◌, ◌^◌, nat_lt, ℕ, suc, Bool, true, false, List, [], ◌∷◌, ◌++◌, length, map, flat_map, slice_get}
use Rattle.std.specs.Prelude.{codes, Contains, Option, Some, None, refl}
use Rattle.std.specs.List.{list_all, last_or}
use Rattle.std.specs.Str.{bytes_eq}
use Rattle.std.proofs.Common.{sym, ap, subst, ◌∙◌, arith, inl, inr}
use Rattle.std.proofs.lemmas.Bool.{cases_Bool, and_parts, ltb-true}
use Rattle.std.proofs.lemmas.Bool.Decides.{nat_tests}
use Rattle.mm_base.specs.declared.symbols.Label.{Label}
use Rattle.mm_base.specs.declared.symbols.Typecode.{Typecode}
use Rattle.mm_base.specs.declared.tree.Tree.{Tree}
use Rattle.mm_base.specs.Limits.{most_work_size}
use Rattle.mm_model.specs.declared.frames.Frame.{Frame}
use Rattle.mm_model.specs.declared.rows.Leaf.{Leaf}
use Rattle.mm_model.specs.Texts.{text}
use Rattle.mm_model.specs.Book.{Database, logic_code}
use Rattle.model_laws.specs.DatabaseLaws.{HasPlaces, HasSymbols, HasDatabaseFacts, HavePlaces, HaveSymbols}
use Rattle.model_laws.specs.FrameLaws.{IsOwn, FramesHaveOwnExpressions}
use Rattle.sheet_text.specs.declared.sheet.SheetStep.{SheetStep}
use Rattle.sheet_text.specs.Layout.{steps, step_names}
use Rattle.sheet_text.specs.Spellable.{is_token, IsSpellable}
use Rattle.solve_model.specs.Bound.{Binds, work_size}
use Rattle.solve_model.specs.Binding.{is_qed}
use Rattle.solve_model.specs.Formulas.{leaf_of, IsTreeOf}
use Rattle.solve_model.specs.Trees.{Open, open_leaves}
use Rattle.written_model.specs.declared.options.Options.{Options}
use Rattle.written_model.specs.Opened.{IsOpened}
use Rattle.written_model.specs.ReadBack.{ReadIsSpellable}
use Rattle.written_model.specs.WrittenSteps.{WrittenStep, steps_in, trees}
use Rattle.written_model.specs.Named.{work_variable, name_tree, new_works, IsWrittenLeaf}
use Rattle.written_model.specs.Written.{Writing, Writes, HasNoLateFault, LateFault, written_sheet, written_bound, bound_step, leaf_name, formula_tokens, after_filling}
use Rattle.again_laws.specs.Second.{WrittenIsWithin, NumbersFit}
use Rattle.again_laws.specs.Whole.{AssertionsAreWhole}
use Rattle.again_laws.proofs.Accepted.{trees_named}
use Rattle.again_laws.proofs.FreshRead.{logic_constant, new_at, new_least, fresh_read}
use Rattle.again_laws.proofs.LeavesRead.{leaves_back}
use Rattle.again_laws.proofs.Lists.{get_mapped}
use Rattle.again_laws.proofs.NumberBound.{step_leaves, work_few, number_small}
use Rattle.again_laws.proofs.SecondBinds.{second_binds}
use Rattle.again_laws.proofs.SecondSteps.{IsWrittenOf, IsNewOf, woven_again, parses_again}
use Rattle.again_laws.proofs.Setting.{Setting, setting, filling_of, step_there, spellable_at}
use Rattle.again_laws.proofs.StepRules.{filled}
use Rattle.again_laws.proofs.Unnumbered.{binds_same}
use Rattle.again_laws.proofs.Uses.{written_steps}
use Rattle.again_laws.proofs.Woven.{Woven}
use Rattle.again_laws.proofs.WovenSteps.{woven_filling}

-- the last of some names is one of them
last_named : {X : Type 0} (o : Option X) (xs : List X) (x : X) → last_or o xs ≡ Some x → (o ≡ Some x) ⊎ ((k : ℕ) × (slice_get xs k ≡ Some x))
last_named o [] x e = inl e
last_named o (y ∷ xs) x e = elim (last_named (Some y) xs x e) [ inl h ↦ inr (0, h) | inr h ↦ inr (suc h.0, h.1) ]

pub within : (db : Database) (options : Options) (w : Writing) → WrittenIsWithin db options w
within db options w late = elim (cases_Bool (nat_lt most_work_size (work_size db (written_bound db options w)))) [
  | inl d ↦ absurd (late 2 _ (LateFault.much (above (work_size db (written_bound db options w)) d)))
  | inr d ↦ below (work_size db (written_bound db options w)) d
]
  where
    above : (n : ℕ) → nat_lt most_work_size n ≡ true → most_work_size < n
    above n d = ltb-true most_work_size n d

    below : (n : ℕ) → nat_lt most_work_size n ≡ false → n ≤ most_work_size
    below n d = grind (arith, nat_tests, d)

same_leaves : (db : Database) (options : Options) (w : Writing) (xs : List WrittenStep) → flat_map step_leaves (map (bound_step db options w) xs) ≡ flat_map open_leaves (trees xs)
same_leaves db options w [] = refl
same_leaves db options w (x ∷ xs) = ap (λ ys. open_leaves x.tree ++ ys) (same_leaves db options w xs)

module _ (facts_law : HasDatabaseFacts) (whole_law : AssertionsAreWhole) (spellable_law : ReadIsSpellable) (places_law : HavePlaces) (symbols_law : HaveSymbols) (own_law : FramesHaveOwnExpressions)
    (db : Database) (sheet : List ℕ) (options : Options) (w : Writing) (opened : IsOpened options.kinds db) (h : Writes db sheet options w) where
  abbrev numbers : List ℕ
  numbers = (filling_of w).numbers

  abbrev ds : List WrittenStep
  ds = steps_in (after_filling db options w)

  pub S : Setting db options w numbers ds
  S = setting facts_law whole_law spellable_law db sheet options w opened h

  abbrev es : List WrittenStep
  es = written_steps db options w numbers ds S

  spellable : IsSpellable h.reads.read
  spellable = spellable_law sheet h.reads.read h.reads.reads

  rd : Binds db w.read w.bound
  rd = binds_same db h.reads.read w.read w.bound h.reads.same h.binds

  woven : Woven (λ k s e. slice_get (steps w.read) k ≡ Some s → IsWrittenOf db options w numbers ds S k s e) (IsNewOf db options w numbers ds S) 0 (steps w.read) es
  woven =
      let long = S.long in
      let count = S.judged.count in
      woven_again db options w numbers ds S (step_names w.read) (woven_filling (step_names w.read) w.bound w.value w.judgements w.read.items (omega (arith, long, count)))

  inked : (k : ℕ) (s : SheetStep) → slice_get (steps w.read) k ≡ Some s → list_all is_token s.formula ≡ true
  inked k s at =
      let t = step_there h.reads.read w.read h.reads.same k s at in
      let good = spellable_at k (steps h.reads.read) t.0 spellable.each_step t.1 in
      subst (λ f. list_all is_token f ≡ true) t.2.formula (and_parts _ (list_all is_token t.0.formula) good).1

  -- ---- `qed`

  record HasQed : Type 0 where
    at : ℕ
    qed : SheetStep
    there : slice_get (steps w.read) at ≡ Some qed
    is : is_qed qed ≡ true

  has_qed : HasQed
  has_qed = by (last_named None (step_names h.reads.read) (codes "qed") spellable.qed_last)
    where
      by : (None ≡ Some (codes "qed")) ⊎ ((k : ℕ) × (slice_get (step_names h.reads.read) k ≡ Some (codes "qed"))) → HasQed
      by (inl e) = absurd (clash e)
        where
          clash : None ≡ Some (codes "qed") → ⊥
          clash q = cc
      by (inr r) =
          let s = get_mapped (λ (t : SheetStep). t.name) (steps h.reads.read) r.0 (codes "qed") r.1 in
          let t = step_there w.read h.reads.read (sym h.reads.same) r.0 s.0 s.1 in
          record { at = r.0; qed = t.0; there = t.1; is = ap (λ n. bytes_eq n (codes "qed")) (t.2.name ∙ s.2) }

  q : HasQed
  q = has_qed

  qed_filled : q.qed.formula ≡ [] → ⊥
  qed_filled = filled db options w numbers ds S woven rd inked q.at q.qed q.there (last q.qed.hyp (is_qed q.qed) q.is)
    where
      last : (a b : Bool) → b ≡ true → (a || b) ≡ true
      last true b e = refl
      last false b e = e

  -- ---- leaves

  places : HasPlaces db
  places = places_law options.kinds opened.text db opened.is_database opened.sound

  symbols : HasSymbols db
  symbols = symbols_law options.kinds opened.text db opened.is_database opened.sound

  owns : (l : Label) (f : Frame) → db.frame l ≡ Some f → IsOwn db f f.formula
  owns l f frame =
      (own_law opened.text db
      (record {
        symbols = opened.is_database.symbols;
        frame = opened.is_database.frame;
        active_at = opened.is_database.active_at;
        is_constant_at = opened.is_database.is_constant_at;
      }) opened.sound l f frame).formula

  logic_is : db.is_constant_at (logic_code db).0 db.statement_count ≡ true
  logic_is = let b = S.bound_steps q.at q.qed q.there in logic_constant db options w numbers ds S places symbols q.qed.formula b.0.tree qed_filled b.2.tree

  back_by : ((c : Typecode) (m k : ℕ) → IsWrittenLeaf (trees ds) c m → w.names c m ≡ Some k → k < 2 ^ 32)
      → (i : ℕ) (t : Tree) → slice_get (trees es) i ≡ Some t → (x : Leaf) → Contains (text db.rows t) x
      → leaf_of db w.bound.place (leaf_name db x) ≡ Some x
  back_by small = leaves_back db options w numbers ds S places owns (fresh_read db options w numbers ds S places symbols logic_is small)

  -- a written formula is read as its tree, where the numbers of new work variables are in range
  pub trees_back : NumbersFit w.names → (i : ℕ) (t : Tree) → slice_get (trees es) i ≡ Some t → IsTreeOf db w.bound.place (formula_tokens db t) t
  trees_back fit = parses_again db options w numbers ds S (back_by (λ c m k l is. fit c m k is))

  -- ---- where no fault of what is written stands

  module _ (late : HasNoLateFault db options w) where
    written_few : length (flat_map open_leaves (map (name_tree w.names) (trees ds))) ≤ most_work_size
    written_few =
        let few = work_few db (written_bound db options w) (within db options w late) in
        let same : flat_map step_leaves (written_bound db options w).steps ≡ flat_map open_leaves (map (name_tree w.names) (trees ds)) =
        same_leaves db options w es ∙ ap (flat_map open_leaves) (trees_named db options w numbers ds S) in
        subst (λ (xs : List Open). length xs ≤ most_work_size) same few

    small : (c : Typecode) (k j : ℕ) → slice_get (new_works db w.bound (map (name_tree w.names) (trees ds))) j ≡ Some (work_variable c k) → k < 2 ^ 32
    small c k j at =
        number_small db w.bound (map (name_tree w.names) (trees ds)) c j k (new_least db options w numbers ds S places symbols logic_is c k j at)
        symbols.few (work_few db w.bound h.within_limit) written_few

    pub back : (i : ℕ) (t : Tree) → slice_get (trees es) i ≡ Some t → (x : Leaf) → Contains (text db.rows t) x → leaf_of db w.bound.place (leaf_name db x) ≡ Some x
    back = back_by (λ c m k l is. let at = new_at db options w numbers ds S places symbols logic_is c m k l is in small c k at.0 at.1)

    pub binds_again : Binds db (written_sheet db options w) (written_bound db options w)
    binds_again = second_binds db options w numbers ds S woven rd inked back q.at q.qed q.there q.is late
