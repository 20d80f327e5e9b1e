-- A written text is written again as itself.
use Rattle.std.specs.Prelude.{◌≡◌, ◌++◌, ℕ, true, List, [], ◌∷◌, map, flat_map, fold, slice_get, unwrap_or, Contains, Some, None, refl}
use Rattle.std.specs.List.{AllZip, last_or}
use Rattle.std.specs.Option.{option_map_or}
use Rattle.std.proofs.Common.{sym, ap, subst, ◌∙◌}
use Rattle.mm_base.specs.declared.symbols.Typecode.{Typecode}
use Rattle.mm_base.specs.declared.tree.Tree.{Tree}
use Rattle.mm_base.specs.Limits.{most_work_size}
use Rattle.mm_model.specs.declared.frames.Hyp.{Hyp}
use Rattle.mm_model.specs.Book.{Database}
use Rattle.proof_model.specs.Proofs.{Proof}
use Rattle.solve_model.specs.declared.bound.Bound.{Bound}
use Rattle.solve_model.specs.declared.bound.BoundStep.{BoundStep}
use Rattle.solve_model.specs.Trees.{Open, work, fresh, Occurs}
use Rattle.solve_model.specs.Bound.{Binds, work_size}
use Rattle.solve_model.specs.Binding.{theorem_of}
use Rattle.solve_model.specs.Verdicts.{AreJudged, accepted_in}
use Rattle.solve_model.specs.MostGeneral.{IsTheValuation}
use Rattle.model_laws.specs.DatabaseLaws.{HasDatabaseFacts}
use Rattle.model_laws.specs.FrameLaws.{FramesHaveOwnExpressions, MandatoryVariablesStand}
use Rattle.written_model.specs.ReadBack.{ReadIsSpellable}
use Rattle.written_model.specs.declared.options.Options.{Options}
use Rattle.written_model.specs.Opened.{IsOpened}
use Rattle.written_model.specs.WrittenSteps.{WrittenStep, WrittenItem, comment, step, steps_in, over_step, trees}
use Rattle.written_model.specs.Named.{WorkVariable, is_in, works_in, read_works, not_seen, new_works, Naming, name_leaf, name_fresh, name_tree, IsWrittenLeaf, IsNaming}
use Rattle.written_model.specs.ProofTrees.{step_proof, step_proofs, no_proof}
use Rattle.fault_lines.specs.Refusals.{too_much_written, told_number}
use Rattle.written_model.specs.Written.{Answers, Writing, Writes, ItemIsSearched, written_item, written_pair, written_pairs, written_sheet}
use Rattle.written_model.specs.Written.{written_theorem, written_bound, bound_step, LateFault, HasNoLateFault, after_filling, after_naming}
use Rattle.written_model.specs.Again.{step_again, again}
use Rattle.written_model.specs.WrittenAgain.{NothingIsMade, EndStays, SearchStays, IsFixpoint}
use Rattle.answer_laws.specs.WrittenReads.{IsReadBack, WrittenReadsBack, WrittenByParts, WrittenIsFixed}
use Rattle.answer_laws.proofs.Elements.{first, later, mapped_from}
use Rattle.answer_laws.proofs.Moved.{move_step, steps-over, trees-moved}
use Rattle.answer_laws.proofs.BareLaws.{occurs_from, only_leaf}
use Rattle.answer_laws.proofs.NamedAlike.{seen_one}
use Rattle.answer_laws.proofs.ValuedAlike.{contained_is_in}
use Rattle.answer_laws.proofs.Plain.{ArePlain}
use Rattle.answer_laws.proofs.PlainAssertions.{are_plain}
use Rattle.answer_laws.proofs.WrittenSettled.{written_settled}
use Rattle.answer_laws.proofs.ReadsBack.{at_most}
use Rattle.answer_laws.proofs.NothingMade.{no_names, all_stay, nothing_filled, nothing_made}
use Rattle.answer_laws.proofs.SearchStays.{trees_again, trees_searched, search_stays}
use Rattle.answer_laws.proofs.SameText.{SameText, text_same, late_moved}

-- ---- no fresh leaf is written

module _ (db : Database) (bound : Bound) (ts : List Tree) (names : Naming) (naming : IsNaming db bound ts names) where
  named_leaf : (d : Typecode) (m c : ℕ) (e : Typecode) → (k : ℕ) → names d m ≡ Some k → Occurs (fresh e c) (name_leaf names (fresh d m)) → ⊥
  named_leaf d m c e k is o =
      let same : work d k ≡ fresh e c = only_leaf (work d k) (fresh e c) (subst (λ x. Occurs (fresh e c) (name_fresh d m x)) is o) in
      cc

  leaf_named : (t : Tree) (x : Open) (c : Typecode) (n : ℕ) → Contains ts t → Occurs x t → Occurs (fresh c n) (name_leaf names x) → ⊥
  leaf_named t (work d m) c n s o h = let same : work d m ≡ fresh c n = only_leaf (work d m) (fresh c n) h in cc
  leaf_named t (fresh d m) c n s o h = let k = naming.named d m (t, s, o) in named_leaf d m n c k.0 k.1 h

  pub none_fresh : (c : Typecode) (n : ℕ) → IsWrittenLeaf (map (name_tree names) ts) c n → ⊥
  none_fresh c n w =
      let m = mapped_from (name_tree names) ts w.0 w.1 in
      let from = occurs_from (name_leaf names) (fresh c n) m.0 (subst (Occurs (fresh c n)) (sym m.2) w.2) in
      leaf_named m.0 from.leaf c n m.1 from.stands from.has

-- ---- nothing is named again

all_seen : (S ws : List WorkVariable) → ((w : WorkVariable) → Contains ws w → is_in S w ≡ true) → not_seen S ws ≡ []
all_seen S [] h = refl
all_seen S (w ∷ ws) h = seen_one S w ws (h w (first w w ws refl)) ∙ all_seen S ws (λ v o. h v (later v w ws o))

read_again : (db : Database) (options : Options) (w : Writing) (es : List WrittenStep)
    → flat_map (λ (s : BoundStep). option_map_or (works_in db) s.tree []) (map (bound_step db options w) es) ≡ flat_map (works_in db) (trees es)
read_again db options w [] = refl
read_again db options w (e ∷ es) = ap (λ ws. works_in db e.tree ++ ws) (read_again db options w es)

nothing_new : (db : Database) (options : Options) (w : Writing) → new_works db (written_bound db options w) (map (name_tree no_names) (trees (steps_in w.items))) ≡ []
nothing_new db options w =
    let read = read_works db (written_bound db options w) in
    let ts = trees (steps_in w.items) in
    let works : flat_map (works_in db) (map (name_tree no_names) ts) ≡ read = ap (flat_map (works_in db)) (all_stay ts) ∙ sym (read_again db options w (steps_in w.items)) in
    ap (not_seen read) works ∙ all_seen read read (λ v o. contained_is_in read v o)

named_again : (db : Database) (options : Options) (w : Writing) → ((c : Typecode) (n : ℕ) → IsWrittenLeaf (trees (steps_in w.items)) c n → ⊥)
    → IsNaming db (written_bound db options w) (trees (steps_in w.items)) no_names
named_again db options w free = record {
  named = λ c n o. absurd (free c n o);
  others = λ c n o. refl;
  once = λ c n m k e f. let bad : None ≡ Some k = e in absurd (cc);
  least = λ k x e. let bad : slice_get [] k ≡ Some x = subst (λ ws. slice_get ws k ≡ Some x) (nothing_new db options w) e in absurd (cc);
}

-- ---- one text again

items_again : (db : Database) (is : List WrittenItem) → map (written_item db) (map (over_step step_again) is) ≡ map (written_item db) is
items_again db [] = refl
items_again db (comment lines ∷ is) = ap (λ xs. written_item db (comment lines) ∷ xs) (items_again db is)
items_again db (step e ∷ is) = ap (λ xs. written_item db (step e) ∷ xs) (items_again db is)

bound_again : (db : Database) (options : Options) (w : Writing) (es : List WrittenStep) → map (bound_step db options w) (map step_again es) ≡ map (bound_step db options w) es
bound_again db options w [] = refl
bound_again db options w (e ∷ es) = ap (λ xs. bound_step db options w e ∷ xs) (bound_again db options w es)

proofs_again : (db : Database) (hyps : List Hyp) (es : List WrittenStep) (earlier : List Proof)
    → fold (λ ps e. ps ++ step_proof db hyps ps e ∷ []) earlier (map step_again es) ≡ fold (λ ps e. ps ++ step_proof db hyps ps e ∷ []) earlier es
proofs_again db hyps [] earlier = refl
proofs_again db hyps (e ∷ es) earlier = proofs_again db hyps es (earlier ++ step_proof db hyps earlier e ∷ [])

module _ (db : Database) (text : List ℕ) (options : Options) (w : Writing) (ends : EndStays db text options w) where
  sheet_again : written_sheet db options (again db options w) ≡ written_sheet db options w
  sheet_again =
      ap (λ is. record (written_sheet db options w) { items = is; pairs = map (written_pair db) (written_pairs db options (again db options w)) }) (items_again db w.items)
      ∙ ap (λ ps. record (written_sheet db options w) { pairs = map (written_pair db) ps }) ends.pairs

  theorem_again : written_theorem db options (again db options w) ≡ written_theorem db options w
  theorem_again = ap (theorem_of db) sheet_again

  steps_again : map (bound_step db options w) (steps_in (again db options w).items) ≡ map (bound_step db options w) (steps_in w.items)
  steps_again = ap (map (bound_step db options w)) (steps-over step_again w.items) ∙ bound_again db options w (steps_in w.items)

  pub again_text : SameText db options (again db options w) w
  again_text = record {
    sheet = sheet_again;
    bound =
        ap (λ ss. record (written_bound db options w) { steps = ss; pairs = written_pairs db options (again db options w); theorem = written_theorem db options (again db options w) }) steps_again
        ∙ ap (λ ps. record (written_bound db options w) { pairs = ps; theorem = written_theorem db options (again db options w) }) ends.pairs
        ∙ ap (λ t. record (written_bound db options w) { theorem = t }) theorem_again;
    proofs = λ t. ap (λ es. unwrap_or (last_or None (step_proofs db t.hyps es)) no_proof) (steps-over step_again w.items)
        ∙ ap (λ ps. unwrap_or (last_or None ps) no_proof) (proofs_again db t.hyps (steps_in w.items) []);
    ends = refl;
  }

-- ---- the whole

module _ (db : Database) (plain : ArePlain db) (text : List ℕ) (options : Options) (w : Writing) (writes : Writes db text options w) (spellable : ReadIsSpellable) where
  filled : after_filling db options (again db options w) ≡ (again db options w).items
  filled = nothing_filled db options w (written_settled db plain text options w writes spellable)

  pub made : after_naming db options (again db options w) ≡ (again db options w).items
  made = nothing_made db options w (written_settled db plain text options w writes spellable)

  pub ends : EndStays db text options w
  ends = search_stays db text options w made writes.searched

  first_trees : map (name_tree w.names) (trees (steps_in (after_filling db options w))) ≡ trees (steps_in w.items)
  first_trees =
      sym (trees-moved (name_tree w.names) (steps_in (after_filling db options w)))
      ∙ ap trees (sym (steps-over (move_step (name_tree w.names)) (after_filling db options w)))
      ∙ trees_searched db options w (after_naming db options w) w.items writes.searched

  free : (c : Typecode) (n : ℕ) → IsWrittenLeaf (trees (steps_in w.items)) c n → ⊥
  free c n h =
      none_fresh db w.bound (trees (steps_in (after_filling db options w))) w.names writes.naming c n
      (subst (λ ts. IsWrittenLeaf ts c n) (sym first_trees) h)

  again_trees : trees (steps_in (after_filling db options (again db options w))) ≡ trees (steps_in w.items)
  again_trees = ap (λ is. trees (steps_in is)) filled ∙ ap trees (steps-over step_again w.items) ∙ trees_again (steps_in w.items)

  pub fixpoint : HasNoLateFault db options w → (reads : IsReadBack db text options w) → Binds db reads.reads.read (written_bound db options w)
      → AreJudged db (written_bound db options w) (again db options w).judgements
      → IsTheValuation db (written_bound db options w) (accepted_in (again db options w).judgements) (again db options w).value
      → IsFixpoint db text options w
  fixpoint late reads binds judged value = record {
    writes = record {
      reads = reads.reads;
      binds = binds;
      within_limit = at_most (work_size db (written_bound db options w)) most_work_size (λ l. late 2 (too_much_written (told_number (work_size db (written_bound db options w)))) (LateFault.much l));
      judged = judged;
      most_general = value;
      naming = subst (λ ts. IsNaming db (written_bound db options w) ts no_names) (sym again_trees) (named_again db options w free);
      searched = subst (λ is. AllZip (ItemIsSearched db options (again db options w)) is (again db options w).items) (sym made) ends.searched;
      finished = ((λ f. ends.finished.1 (writes.finished.0 f)), (λ f. writes.finished.1 (ends.finished.0 f)));
    };
    no_fault = λ k r l. late k r (late_moved db options (again db options w) w (again_text db text options w ends) k r l);
    same = text_same db options (again db options w) w (again_text db text options w ends);
  }

-- ---- over the database of a text without a fault

module _ (has : HasDatabaseFacts) (standing : MandatoryVariablesStand) (owned : FramesHaveOwnExpressions) (spellable : ReadIsSpellable) where
  plain_in : (db : Database) (options : Options) → IsOpened options.kinds db → ArePlain db
  plain_in db options o =
      are_plain options.kinds o.text db o.is_database o.sound (has options.kinds o.text db o.is_database o.sound) standing owned

  pub nothing_is_made : (db : Database) (text : List ℕ) (options : Options) (w : Writing) → NothingIsMade db text options w
  nothing_is_made db text options w o writes = made db (plain_in db options o) text options w writes spellable

  pub searches_stay : (db : Database) (text : List ℕ) (options : Options) (w : Writing) → SearchStays db text options w
  searches_stay db text options w o writes late = ends db (plain_in db options o) text options w writes spellable

  pub written_by_parts : ((db : Database) (text : List ℕ) (options : Options) (w : Writing) → WrittenReadsBack db text options w)
      → (db : Database) (text : List ℕ) (options : Options) (w : Writing) → WrittenByParts db text options w
  written_by_parts back db text options w values verdicts binds o writes late =
      let reads = back db text options w o writes late in
      fixpoint db (plain_in db options o) text options w writes spellable late reads (binds o writes late reads.reads.read reads.reads.same) (verdicts o writes late) (values o writes late)

-- what is written again as itself is its own answer
pub written_fixed : ((db : Database) (text : List ℕ) (options : Options) (w : Writing) → WrittenReadsBack db text options w)
    → (db : Database) (text : List ℕ) (options : Options) (w : Writing) → WrittenIsFixed db text options w
written_fixed back db text options w law o writes late =
    let fixed = law o writes late in
    record { writing = again db options w; answers = Answers.written (back db text options w o writes late).sound fixed.writes fixed.no_fault; same_text = fixed.same; same_end = refl }
