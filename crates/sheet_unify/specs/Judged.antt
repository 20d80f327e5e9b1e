-- A chain that has judged all steps of a bound worksheet, and what is answered of it. This is part of the proof, and not of the claim.
use Rattle.std.specs.Prelude.{◌≡◌, ◌≤◌, ℕ, List, length}
use Rattle.mm_base.specs.declared.kinds.Kinds.{Kinds}
use Rattle.mm_model.specs.Names.{typecode}
use Rattle.mm_model.specs.Frames.{symbol_in}
use Rattle.mm_database.specs.Opened.{Opened}
use Rattle.sheet_text.specs.declared.sheet.Sheet.{Sheet}
use Rattle.solve_model.specs.declared.bound.Bound.{Bound}
use Rattle.solve_model.specs.Bound.{work_size}
use Rattle.solve_model.specs.Verdicts.{AreJudged, accepted_in}
use Rattle.solve_model.specs.MostGeneral.{IsTheValuation}
use Rattle.step_chain.specs.Held.{Held, judgements_of, OfEachBook, IsHeld, IsSameSheet}
use Rattle.step_chain.specs.Values.{value_of}
use Rattle.written_model.specs.declared.options.Options.{Options}
use Rattle.written_steps.specs.declared.draft.DraftItem.{DraftItem}
use Rattle.sheet_unify.specs.declared.faults.UnifyFault.{UnifyFault}
use Rattle.sheet_unify.specs.Answered.{IsFaultOf}
use Rattle.sheet_unify.specs.Made.{HasTexts, ForTexts, IsFilled}

-- so many steps were pushed in all, and the worksheet stays
pub record IsPushedTo (n : ℕ) (old new : Held) : Type 0 where
  pub same : IsSameSheet old new
  pub count : length (judgements_of new) ≡ n

-- the chain is over the bound worksheet and what was opened with these kinds, and each step is judged
pub record IsChainOf (kinds : Kinds) (d : Opened) (bound : Bound) (h : Held) : Type 0 where
  pub book : h.book ≡ d
  pub logic : h.logic ≡ typecode (symbol_in d.contents.symbols kinds.logic)
  pub bound_is : h.bound ≡ bound
  pub count : length (judgements_of h) ≡ length bound.steps

-- the chain's logic typecode is that of these kinds
abbrev pub IsLogicOf : Kinds → Held → Type 0
IsLogicOf kinds h = h.logic ≡ typecode (symbol_in h.book.contents.symbols kinds.logic)

-- each step is judged, and the chain is over the database of some text and the worksheet of some text
pub record IsJudgedOver (sheet : Sheet) (h : Held) : Type 0 where
  pub kinds : Kinds
  pub texts : HasTexts kinds h.book sheet h.bound
  pub logic : IsLogicOf kinds h
  pub count : length (judgements_of h) ≡ length h.bound.steps

-- what a chain whose steps are all judged tells of itself
pub record IsTold (h : Held) : Type 0 where
  pub held : IsHeld h
  pub few : OfEachBook h (λ db. length h.nodes ≤ work_size db h.bound)
  pub count : length (judgements_of h) ≡ length h.bound.steps
  pub judged : OfEachBook h (λ db. length (judgements_of h) ≡ length h.bound.steps → AreJudged db h.bound (judgements_of h))
  pub valuation : OfEachBook h (λ db. IsTheValuation db h.bound (accepted_in (judgements_of h)) (value_of h))

-- the items are what the judged steps are filled to
abbrev pub IsFilledBy : Held → Sheet → List DraftItem → Type 0
IsFilledBy h sheet items = (kinds : Kinds) → IsLogicOf kinds h → ForTexts kinds h.book sheet h.bound (λ db text. IsFilled db h.book text sheet h.bound items)

-- the worksheet is refused by this fault
abbrev pub IsRefusedBy : Held → Sheet → UnifyFault → Type 0
IsRefusedBy h sheet f = (options : Options) → IsLogicOf options.kinds h → ForTexts options.kinds h.book sheet h.bound (λ db text. IsFaultOf db text options f)
