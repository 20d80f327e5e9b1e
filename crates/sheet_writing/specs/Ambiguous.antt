-- The first step whose text has two trees.
use Rattle.std.specs.Prelude.{◌≡◌, ◌≤◌, ℕ, List, length, Contains, Option, Some, None, option_map}
use Rattle.mm_base.specs.declared.tree.Tree.{Tree}
use Rattle.mm_base.specs.Trees.{code_of}
use Rattle.mm_model.specs.declared.rows.Production.{Production}
use Rattle.mm_model.specs.Names.{Name}
use Rattle.mm_model.specs.Texts.{text}
use Rattle.mm_model.specs.Typed.{Parses}
use Rattle.solve_model.specs.Firsts.{IsFirstIn, IsFirstOrNone}
use Rattle.written_model.specs.WrittenSteps.{WrittenStep}
use Rattle.written_steps.specs.declared.draft.DraftStep.{DraftStep}

-- there are two different trees
pub record HasTwo (P : Tree → Type 0) : Type 0 where
  pub one : Tree
  pub other : Tree
  pub one_holds : P one
  pub other_holds : P other
  pub differ : one ≡ other → ⊥

-- trees that have the text of a tree, and its typecode
abbrev pub IsOtherTree : List Production → ℕ → Tree → Tree → Type 0
IsOtherTree rows place t u = Parses rows place (text rows t) (code_of t) u

abbrev pub HasTwoReadings : List Production → ℕ → DraftStep → Type 0
HasTwoReadings rows place s = HasTwo (IsOtherTree rows place s.tree)

-- the text of each formula is as long as can be parsed
abbrev pub AreShort : List Production → List WrittenStep → Type 0
AreShort rows es = (e : WrittenStep) → Contains es e → length (text rows e.tree) ≤ 4095

-- the name of the first step with a property; none where no step has it
abbrev pub IsNameOfFirst : (WrittenStep → Type 0) → List WrittenStep → Option Name → Type 0
IsNameOfFirst P es None = (e : WrittenStep) → Contains es e → P e → ⊥
IsNameOfFirst P es (Some name) = (e : WrittenStep) × IsFirstIn P es e × (e.name ≡ name)

-- it is the name of the first draft with a property
pub record IsNamedFirst (P : DraftStep → Type 0) (ss : List DraftStep) (name : Option Name) : Type 0 where
  pub found : Option DraftStep
  pub is_first : IsFirstOrNone P ss found
  pub is_named : name ≡ option_map (λ (s : DraftStep). s.name) found
