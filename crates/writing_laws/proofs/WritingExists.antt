-- What was read, judged and solved becomes something.
use Rattle.std.specs.Prelude.{◌≡◌, ◌↔◌, ℕ, Bool, true, false, IsTrue, List, [], ◌∷◌, length, Contains, None, refl}
use Rattle.std.specs.List.{AllZip}
use Rattle.std.proofs.Common.{sym, ◌∙◌, arith, inl, inr}
use Rattle.std.proofs.lemmas.Bool.{cases_lt}
use Rattle.mm_base.specs.declared.tree.Tree.{Tree}
use Rattle.mm_model.specs.Rows.{IsGrammar}
use Rattle.mm_model.specs.Book.{Database}
use Rattle.sheet_text.specs.declared.sheet.Sheet.{Sheet}
use Rattle.sheet_text.specs.Layout.{steps, step_names}
use Rattle.solve_model.specs.declared.bound.Bound.{Bound}
use Rattle.solve_model.specs.Bound.{IsBoundStep}
use Rattle.solve_model.specs.Binding.{place_of}
use Rattle.solve_model.specs.Solutions.{Valuation, IsUnknown}
use Rattle.solve_model.specs.Verdicts.{Judgement, accepted_in}
use Rattle.solve_laws.specs.OneValuation.{SameUpToFresh}
use Rattle.solve_laws.proofs.OneValuation.{most_general_is_one}
use Rattle.written_model.specs.declared.options.Options.{Options}
use Rattle.written_model.specs.ReadBack.{ReadIsSpellable}
use Rattle.written_model.specs.WrittenSteps.{WrittenStep, WrittenItem, comment, step, steps_in, trees}
use Rattle.written_model.specs.Named.{Naming, IsNaming}
use Rattle.written_model.specs.ProofTrees.{Finished}
use Rattle.written_model.specs.Written.{Writing, Writes, after_filling, after_naming, ItemIsSearched}
use Rattle.answer_laws.proofs.Elements.{contained_has}
use Rattle.answer_laws.proofs.FilledAlike.{good_trees, FilledAlike, filled_alike}
use Rattle.answer_laws.proofs.Plain.{ArePlain, TreesAreRead}
use Rattle.answer_laws.proofs.ValuedAlike.{forth, back, IsGood, each_moves}
use Rattle.answer_laws.proofs.OneBinding.{zip_length, trees_are_read, count_same}
use Rattle.answer_laws.proofs.WrittenSettled.{written_settled}
use Rattle.writing_laws.specs.Decisions.{Decided}
use Rattle.writing_laws.specs.HasNames.{IsWritable, HasFewSymbols}
use Rattle.writing_laws.specs.HasEnd.{PlacesAreEarlier}
use Rattle.writing_laws.specs.HasWriting.{IsSolved, HasWriting}
use Rattle.writing_laws.proofs.NamesExist.{has_naming}
use Rattle.writing_laws.proofs.Finding.{searched}
use Rattle.writing_laws.proofs.Ending.{settled_earlier, finished_decided}

module _ (db : Database) (few : HasFewSymbols db) (grammar : IsGrammar db.rows) (plain : ArePlain db) (spellable : ReadIsSpellable) (text : List ℕ) (options : Options)
    (read : Sheet) (bound : Bound) (judgements : List Judgement) (value : Valuation) (solved : IsSolved db text read bound judgements value) where
  abbrev with_items : Naming → List WrittenItem → Bool → Writing
  with_items names items finished = record { read = read; bound = bound; judgements = judgements; value = value; names = names; items = items; finished = finished }

  abbrev unnamed : Writing
  unnamed = with_items (λ c n. None) [] false

  abbrev ts : List Tree
  ts = trees (steps_in (after_filling db options unnamed))

  -- ---- what is filled is writable

  are_read : TreesAreRead db bound
  are_read = trees_are_read db solved.reads.read bound solved.binds

  values_same : SameUpToFresh (IsUnknown bound (accepted_in judgements)) value value
  values_same = most_general_is_one db bound (accepted_in judgements) value value solved.most_general solved.most_general

  abbrev F : Tree → Tree
  F = forth db bound grammar plain are_read judgements solved.judged value value solved.most_general values_same

  abbrev B : Tree → Tree
  B = back db bound grammar plain are_read judgements solved.judged value value solved.most_general values_same

  abbrev Good : Tree → Type 0
  Good = IsGood db bound grammar plain are_read judgements solved.judged value value solved.most_general values_same

  steps_count : length (steps read) ≡ length bound.steps
  steps_count = sym (count_same solved.reads.read read solved.reads.same) ∙ zip_length (IsBoundStep db (place_of db solved.reads.read)) (steps solved.reads.read) bound.steps solved.binds.steps

  filled : FilledAlike F B Good (λ t q. q.returns) bound value value (step_names read) judgements (length bound.steps)
      (each_moves db bound grammar plain are_read judgements solved.judged value value solved.most_general values_same) read.items
  filled =
      let count = steps_count in
      filled_alike F B Good (λ t q. q.returns) bound value value (step_names read) judgements (length bound.steps)
      (each_moves db bound grammar plain are_read judgements solved.judged value value solved.most_general values_same) read.items (omega (arith, count))

  writable : (t : Tree) → Contains ts t → IsWritable db bound bound.place t
  writable t o =
      let good = contained_has Good ts t (good_trees Good (after_filling db options unnamed) filled.good) o in
      record { typed = good.typed; was_read = good.was_read }

  naming : (names : Naming) × IsNaming db bound ts names
  naming = has_naming db few bound bound.place grammar ts writable

  -- ---- the search

  abbrev named : Writing
  named = with_items naming.0 [] false

  abbrev IsSearchedItem : WrittenItem → WrittenItem → Type 0
  IsSearchedItem = ItemIsSearched db options named

  all_searched : (is : List WrittenItem) → (js : List WrittenItem) × AllZip IsSearchedItem is js
  all_searched [] = ([], tt)
  all_searched (comment lines ∷ is) = let rest = all_searched is in (comment lines ∷ rest.0, (refl, rest.1))
  all_searched (step e ∷ is) =
      let f = searched db plain bound.place options.dv bound.pairs (steps_in (after_naming db options named)) e in
      let rest = all_searched is in
      (step f.0 ∷ rest.0, ((f.0, refl, f.1), rest.1))

  found : (js : List WrittenItem) × AllZip IsSearchedItem (after_naming db options named) js
  found = all_searched (after_naming db options named)

  -- ---- the end

  abbrev whole : Bool → Writing
  whole b = with_items naming.0 found.0 b

  abbrev es : List WrittenStep
  es = steps_in found.0

  abbrev Ends : Type 0
  Ends = Finished options.dv bound.pairs es

  moved : (b : Bool) (is js : List WrittenItem) → AllZip IsSearchedItem is js → AllZip (ItemIsSearched db options (whole b)) is js
  moved b [] [] h = tt
  moved b [] (j ∷ js) h = absurd h
  moved b (i ∷ is) [] h = absurd h
  moved b (comment lines ∷ is) (j ∷ js) h = (h.0, moved b is js h.1)
  moved b (step e ∷ is) (j ∷ js) h = (h.0, moved b is js h.1)

  writes_with : (b : Bool) → (IsTrue b ↔ Ends) → Writes db text options (whole b)
  writes_with b end = record {
    reads = solved.reads;
    binds = solved.binds;
    within_limit = solved.within_limit;
    judged = solved.judged;
    most_general = solved.most_general;
    naming = naming.1;
    searched = moved b (after_naming db options named) found.0 found.1;
    finished = end;
  }

  earlier_with : (b : Bool) → (IsTrue b ↔ Ends) → PlacesAreEarlier es
  earlier_with b end j e k s o =
      let below = settled_earlier 0 es (written_settled db plain text options (whole b) (writes_with b end) spellable) j e k s o in
      omega (arith, below)

  not_ended : (Ends → ⊥) → IsTrue false ↔ Ends
  not_ended n = ((λ x. absurd (cc)), λ f. absurd (n f))

  -- whether it is finished or not, each place names an earlier step
  earlier : PlacesAreEarlier es
  earlier j e k s o = elim (cases_lt k j) [
    | inl l ↦ l
    | inr l ↦
        let no_end : Ends → ⊥ = λ f. let low = earlier_with true ((λ x. f), λ x. refl) j e k s o in omega (arith, low, l) in
        earlier_with false (not_ended no_end) j e k s o
  ]

  by_end : Decided Ends → HasWriting db text options read bound judgements value
  by_end (inl f) = record { writing = whole true; read_is = refl; bound_is = refl; judgements_are = refl; value_is = refl; writes = writes_with true ((λ x. f), λ x. refl) }
  by_end (inr n) = record { writing = whole false; read_is = refl; bound_is = refl; judgements_are = refl; value_is = refl; writes = writes_with false (not_ended n) }

  pub has_writing : HasWriting db text options read bound judgements value
  has_writing = by_end (finished_decided es earlier options.dv bound.pairs)
