-- A worksheet becomes one writing, but for the numbers of lines and of fresh leaves that are not written.
use Rattle.std.specs.Prelude.{◌≡◌, ℕ, List, [], ◌∷◌, length, map, Contains, Option, Some, None, option_map, refl}
use Rattle.std.specs.List.{AllByRecursion}
use Rattle.std.proofs.Common.{sym, ap, subst, ◌∙◌, arith}
use Rattle.mm_base.specs.declared.tree.Tree.{Tree}
use Rattle.mm_model.specs.Rows.{IsGrammar}
use Rattle.mm_model.specs.Book.{Database}
use Rattle.sheet_text.specs.declared.sheet.Sheet.{Sheet}
use Rattle.sheet_text.specs.Layout.{steps, step_names}
use Rattle.sheet_text.specs.Reads.{unnumbered}
use Rattle.solve_model.specs.Bound.{IsBoundStep, Binds}
use Rattle.solve_model.specs.Binding.{place_of}
use Rattle.solve_model.specs.Solutions.{IsUnknown}
use Rattle.solve_model.specs.Verdicts.{accepted_in}
use Rattle.solve_model.specs.MostGeneral.{IsTheValuation}
use Rattle.solve_laws.specs.OneValuation.{SameUpToFresh}
use Rattle.solve_laws.proofs.OneJudgement.{judgements_are_one}
use Rattle.solve_laws.proofs.OneValuation.{most_general_is_one}
use Rattle.sheet_laws.specs.ReadAgain.{ReadsAsOne}
use Rattle.written_model.specs.declared.options.Options.{Options}
use Rattle.written_model.specs.WrittenSteps.{Use, WrittenStep, WrittenItem, comment, step, steps_in, over_step, trees}
use Rattle.written_model.specs.Filled.{filled_items}
use Rattle.written_model.specs.Named.{Naming, IsNaming, name_tree, name_use, name_step, name_items}
use Rattle.written_model.specs.ProofTrees.{Finished}
use Rattle.written_model.specs.Written.{Writing, Writes, after_filling, after_naming}
use Rattle.answer_laws.specs.Bare.{bare}
use Rattle.answer_laws.proofs.Elements.{contained_has, later, first}
use Rattle.answer_laws.proofs.Moved.{move_use, move_step, steps-over, trees-moved}
use Rattle.answer_laws.proofs.FilledAlike.{IsGoodUse, IsGoodItem, good_trees, FilledAlike, filled_alike}
use Rattle.answer_laws.proofs.Plain.{ArePlain, TreesAreRead}
use Rattle.answer_laws.proofs.OneNaming.{named_alike, bare_alike}
use Rattle.answer_laws.proofs.ValuedAlike.{forth, back, IsGood, each_moves}
use Rattle.answer_laws.proofs.SearchedAlike.{bare_step, bare_items, searched_alike}
use Rattle.answer_laws.proofs.SameBound.{SameBound, turned, judged_same, the_valuation_same, filled_same, naming_same}
use Rattle.answer_laws.proofs.OneBinding.{bound_is_one, zip_length, trees_are_read, filled_by_sheet, count_same}
use Rattle.answer_laws.proofs.BareWriting.{finished_moved}
use Rattle.answer_laws.proofs.SameText.{SameParts, one_bool, same_steps}

-- ---- named items

module _ (one two : Naming) (F : Tree → Tree) (Q : Tree → Type 0) (ts : List Tree)
    (named : (t : Tree) → Contains ts t → name_tree one t ≡ name_tree two (F t))
    (bared : (t : Tree) → Q t → bare (name_tree one t) ≡ bare (name_tree two (F t))) where
  values_named : (vs : List Tree) → AllByRecursion Q vs → map bare (map (name_tree one) vs) ≡ map bare (map (name_tree two) (map F vs))
  values_named [] q = refl
  values_named (v ∷ vs) q = ap (λ x. x ∷ map bare (map (name_tree one) vs)) (bared v q.0) ∙ ap (λ xs. bare (name_tree two (F v)) ∷ xs) (values_named vs q.1)

  use_named : (o : Option Use) → IsGoodUse Q o → option_map (move_use bare) (name_use one o) ≡ option_map (move_use bare) (name_use two (option_map (move_use F) o))
  use_named None q = refl
  use_named (Some u) q = ap (λ vs. Some (record u { values = vs })) (values_named u.values q)

  step_named : (e : WrittenStep) → Contains ts e.tree → IsGoodUse Q e.by → bare_step (name_step one e) ≡ bare_step (name_step two (move_step F e))
  step_named e o q =
      let with : Tree → Option Use → WrittenStep = λ t u. record e { tree = t; by = u } in
      ap (λ t. with t (option_map (move_use bare) (name_use one e.by))) (named e.tree o) ∙ ap (with (name_tree two (F e.tree))) (use_named e.by q)

  pub items_named : (is : List WrittenItem) → ((t : Tree) → Contains (trees (steps_in is)) t → Contains ts t) → AllByRecursion (IsGoodItem Q) is
      → bare_items (name_items one is) ≡ bare_items (name_items two (map (over_step (move_step F)) is))
  items_named [] within q = refl
  items_named (comment lines ∷ is) within q = ap (λ xs. comment lines ∷ xs) (items_named is within q.1)
  items_named (step e ∷ is) within q =
      ap (λ x. step x ∷ bare_items (name_items one is)) (step_named e (within e.tree (first e.tree e.tree (trees (steps_in is)) refl)) q.0.1)
      ∙ ap (λ xs. step (bare_step (name_step two (move_step F e))) ∷ xs) (items_named is (λ t o. within t (later t e.tree (trees (steps_in is)) o)) q.1)

-- ---- two writings over one bound worksheet

module _ (db : Database) (grammar : IsGrammar db.rows) (plain : ArePlain db) (text : List ℕ) (options : Options) (w v : Writing)
    (one : Writes db text options w) (two : Writes db text options v) (reads_one : ReadsAsOne) where
  sheet : Sheet
  sheet = one.reads.read

  sheets_same : two.reads.read ≡ one.reads.read
  sheets_same = reads_one text two.reads.read one.reads.read two.reads.reads one.reads.reads

  read_same : unnumbered w.read ≡ unnumbered v.read
  read_same = sym one.reads.same ∙ ap unnumbered (sym sheets_same) ∙ two.reads.same

  binds : Binds db one.reads.read v.bound
  binds = subst (λ s. Binds db s v.bound) sheets_same two.binds

  bounds_same : SameBound w.bound v.bound
  bounds_same = bound_is_one db grammar one.reads.read w.bound v.bound one.binds binds

  bounds_turned : SameBound v.bound w.bound
  bounds_turned = turned w.bound v.bound bounds_same

  read : TreesAreRead db w.bound
  read = trees_are_read db one.reads.read w.bound one.binds

  judgements_same : v.judgements ≡ w.judgements
  judgements_same = judgements_are_one db w.bound v.judgements w.judgements (judged_same db v.bound w.bound bounds_turned v.judgements two.judged) one.judged

  second_value : IsTheValuation db w.bound (accepted_in w.judgements) v.value
  second_value =
      subst (λ js. IsTheValuation db w.bound (accepted_in js) v.value) judgements_same
      (the_valuation_same db v.bound w.bound bounds_turned (accepted_in v.judgements) v.value two.most_general)

  values_same : SameUpToFresh (IsUnknown w.bound (accepted_in w.judgements)) w.value v.value
  values_same = most_general_is_one db w.bound (accepted_in w.judgements) w.value v.value one.most_general second_value

  abbrev F : Tree → Tree
  F = forth db w.bound grammar plain read w.judgements one.judged w.value v.value one.most_general values_same

  abbrev B : Tree → Tree
  B = back db w.bound grammar plain read w.judgements one.judged w.value v.value one.most_general values_same

  abbrev Good : Tree → Type 0
  Good = IsGood db w.bound grammar plain read w.judgements one.judged w.value v.value one.most_general values_same

  steps_count : length (steps w.read) ≡ length w.bound.steps
  steps_count = sym (count_same one.reads.read w.read one.reads.same) ∙ zip_length (IsBoundStep db (place_of db one.reads.read)) (steps one.reads.read) w.bound.steps one.binds.steps

  filled : FilledAlike F B Good (λ t q. q.returns) w.bound w.value v.value (step_names w.read) w.judgements (length w.bound.steps)
      (each_moves db w.bound grammar plain read w.judgements one.judged w.value v.value one.most_general values_same) w.read.items
  filled =
      let count = steps_count in
      filled_alike F B Good (λ t q. q.returns) w.bound w.value v.value (step_names w.read) w.judgements (length w.bound.steps)
      (each_moves db w.bound grammar plain read w.judgements one.judged w.value v.value one.most_general values_same) w.read.items (omega (arith, count))

  second_filled : after_filling db options v ≡ map (over_step (move_step F)) (after_filling db options w)
  second_filled =
      filled_by_sheet v.read w.read (sym read_same) v.bound v.value v.judgements
      ∙ filled_same (step_names w.read) v.bound w.bound bounds_turned v.value v.judgements w.read.items
      ∙ ap (λ js. filled_items (step_names w.read) w.bound v.value js w.read.items) judgements_same
      ∙ filled.same

  abbrev ts : List Tree
  ts = trees (steps_in (after_filling db options w))

  second_trees : trees (steps_in (after_filling db options v)) ≡ map F ts
  second_trees =
      ap (λ is. trees (steps_in is)) second_filled ∙ ap trees (steps-over (move_step F) (after_filling db options w))
      ∙ trees-moved F (steps_in (after_filling db options w))

  second_naming : IsNaming db w.bound (map F ts) v.names
  second_naming =
      subst (λ us. IsNaming db w.bound us v.names) second_trees
      (naming_same db v.bound w.bound bounds_turned (trees (steps_in (after_filling db options v))) v.names two.naming)

  good_at : (t : Tree) → Contains ts t → Good t
  good_at t o = contained_has Good ts t (good_trees Good (after_filling db options w) filled.good) o

  named_same : (t : Tree) → Contains ts t → name_tree w.names t ≡ name_tree v.names (F t)
  named_same =
      named_alike db w.bound grammar w.bound.place ts values_same.renumber values_same.back w.names v.names
      (λ t o. (good_at t o).typed) (λ t o. (good_at t o).returns) (λ t c n o. (good_at t o).was_read c n) one.naming second_naming

  bare_same : (t : Tree) → Good t → bare (name_tree w.names t) ≡ bare (name_tree v.names (F t))
  bare_same t q =
      bare_alike db w.bound grammar w.bound.place ts values_same.renumber values_same.back w.names v.names
      (λ t o. (good_at t o).typed) (λ t o. (good_at t o).returns) (λ t c n o. (good_at t o).was_read c n) one.naming second_naming t q.returns

  named_items : bare_items (after_naming db options w) ≡ bare_items (after_naming db options v)
  named_items =
      items_named w.names v.names F Good ts named_same bare_same (after_filling db options w) (λ t o. o) filled.good
      ∙ ap (λ is. bare_items (name_items v.names is)) (sym second_filled)

  pairs_same : w.bound.pairs ≡ v.bound.pairs
  pairs_same = one.binds.pairs ∙ sym binds.pairs

  pub same_parts : SameParts w v
  same_parts = record {
    read = read_same;
    place = bounds_same.place;
    existing = one.binds.existing ∙ sym binds.existing;
    pairs = pairs_same;
    items = searched_alike db plain options w v bounds_same.place pairs_same named_items (after_naming db options w) (after_naming db options v) w.items v.items named_items one.searched two.searched;
  }

  pub same_end : w.finished ≡ v.finished
  same_end =
      let steps_same = same_steps db options w v same_parts in
      one_bool w.finished v.finished
      (λ f. two.finished.1
      (subst (λ ps. Finished options.dv ps (steps_in v.items)) pairs_same
      (finished_moved options.dv w.bound.pairs (steps_in w.items) (steps_in v.items) steps_same (one.finished.0 f))))
      (λ f. one.finished.1
      (subst (λ ps. Finished options.dv ps (steps_in w.items)) (sym pairs_same)
      (finished_moved options.dv v.bound.pairs (steps_in v.items) (steps_in w.items) (sym steps_same) (two.finished.0 f))))
