-- Laws: a written worksheet is written again as itself, in four parts, and the answer to a worksheet is one.
use Rattle.std.specs.Prelude.{◌≡◌, ◌↔◌, ℕ, List}
use Rattle.std.specs.List.{AllZip}
use Rattle.mm_model.specs.Book.{Database}
use Rattle.solve_model.specs.Verdicts.{AreJudged, accepted_in}
use Rattle.solve_model.specs.MostGeneral.{IsTheValuation}
use Rattle.written_model.specs.declared.options.Options.{Options}
use Rattle.written_model.specs.WrittenSteps.{steps_in}
use Rattle.written_model.specs.ProofTrees.{Finished}
use Rattle.written_model.specs.Opened.{IsOpened}
use Rattle.written_model.specs.Written.{Writing, Answer, Answers, wrote, refused, Writes, HasNoLateFault, ItemIsSearched, after_naming, written_bound, written_pairs, written_text, written_log}
use Rattle.written_model.specs.Again.{again, judgements_from, value_again}

module _ (db : Database) (text : List ℕ) (options : Options) (w : Writing) where
  -- of the steps that fit or are found, read as named steps, the written values are most general
  abbrev pub ValuesStay : Type 0
  ValuesStay = IsOpened options.kinds db → Writes db text options w → HasNoLateFault db options w
      → IsTheValuation db (written_bound db options w) (accepted_in (judgements_from 0 (steps_in w.items))) (value_again (steps_in w.items))

  -- a step that was set aside is set aside again, and one that was accepted or found is accepted in the order that is written
  abbrev pub VerdictsStay : Type 0
  VerdictsStay = IsOpened options.kinds db → Writes db text options w → HasNoLateFault db options w
      → AreJudged db (written_bound db options w) (judgements_from 0 (steps_in w.items))

  -- no place is missing and no leaf is fresh, so that nothing is filled and nothing named
  abbrev pub NothingIsMade : Type 0
  NothingIsMade = IsOpened options.kinds db → Writes db text options w → after_naming db options (again db options w) ≡ (again db options w).items

  -- nothing further is found; the pairs and the end stay
  pub record EndStays : Type 0 where
    pub searched : AllZip (ItemIsSearched db options (again db options w)) (again db options w).items (again db options w).items
    pub pairs : written_pairs db options (again db options w) ≡ written_pairs db options w
    pub finished : Finished options.dv (written_pairs db options w) (steps_in (again db options w).items) ↔ Finished options.dv w.bound.pairs (steps_in w.items)

  -- what is searched again, its pairs and its end stay as they were written
  abbrev pub SearchStays : Type 0
  SearchStays = IsOpened options.kinds db → Writes db text options w → HasNoLateFault db options w → EndStays

  -- the written text is written as itself
  pub record IsFixpoint : Type 0 where
    pub writes : Writes db (written_text db options w) options (again db options w)
    pub no_fault : HasNoLateFault db options (again db options w)
    pub same : written_text db options (again db options w) ≡ written_text db options w

  -- what was written without a fault is written again as itself
  abbrev pub IsWrittenAgain : Type 0
  IsWrittenAgain = IsOpened options.kinds db → Writes db text options w → HasNoLateFault db options w → IsFixpoint

-- two writings have one text, one report and one end
pub record SameWriting (db : Database) (options : Options) (w v : Writing) : Type 0 where
  pub text : written_text db options w ≡ written_text db options v
  pub log : written_log db options w ≡ written_log db options v
  pub finished : w.finished ≡ v.finished

abbrev pub SameAnswer : Database → Options → Answer → Answer → Type 0
SameAnswer db options (refused r) (refused q) = r ≡ q
SameAnswer db options (wrote w) (wrote v) = SameWriting db options w v
SameAnswer db options _ _ = ⊥

-- two answers to a worksheet are one
abbrev pub AnswersAreOne : Database → List ℕ → Options → Type 0
AnswersAreOne db text options = (a b : Answer) → IsOpened options.kinds db → Answers db text options a → Answers db text options b → SameAnswer db options a b
