-- Going over the items of a worksheet: the first fault so far, and the steps with their trees. This is part of the proof, and not of the claim.
use Rattle.std.specs.Prelude.{◌≡◌, ℕ, ◌⊎◌, Bool, true, not, List, [], ◌∷◌, ◌++◌, drop, Option, Some, None, option_map, fold, if◌then◌else◌}
use Rattle.mm_base.specs.declared.tree.Tree.{Tree}
use Rattle.mm_model.specs.Faults.{Fault, fault, earlier, comes_first}
use Rattle.mm_model.specs.Names.{Name}
use Rattle.mm_model.specs.Typed.{Parses}
use Rattle.mm_frames.specs.Contents.{Contents}
use Rattle.mm_database.specs.Opened.{Opened}
use Rattle.sheet_text.specs.declared.sheet.Sheet.{Sheet}
use Rattle.sheet_text.specs.declared.sheet.SheetStep.{SheetStep}
use Rattle.sheet_text.specs.declared.sheet.SheetItem.{SheetItem}
use Rattle.sheet_text.specs.declared.sheet.SheetItem.TheVariants as item
use Rattle.sheet_text.specs.declared.sheet.PairLine.{PairLine}
use Rattle.solve_model.specs.declared.bound.BoundStep.{BoundStep}
use Rattle.solve_model.specs.Firsts.{IsFirstFault}
use Rattle.sheet_bind.specs.declared.hyps.HypSteps.{HypSteps}
use Rattle.sheet_bind.specs.declared.scene.Scene.{Scene as HeldScene}
use Rattle.sheet_bind.specs.declared.setting.Setting.{Setting}
use Rattle.formula_parse.specs.Answers.{IsOnly}
use Rattle.sheet_bind.specs.declared.steps.Judging.{Judging}
use Rattle.sheet_bind.specs.declared.steps.Trees.{Trees}
use Rattle.sheet_bind.specs.declared.steps.Trees.TheVariants as trees
use Rattle.sheet_bind.specs.Found.{found}
use Rattle.sheet_bind.specs.Rules.{no_hyps, noted, header_tests, step_tests, asks, not_variable}
use Rattle.sheet_bind.specs.Seen.{are_known, expression_at}
use Rattle.sheet_bind.specs.Tests.{HoldsIn, first_true}

-- ---- the first of faults

-- the fault stands at this line with this code
abbrev pub Is : Option Fault → ℕ → ℕ → Type 0
Is None line code = ⊥
Is (Some f) line code = (line ≡ f.place) × (code ≡ f.code)

-- the first of the faults that stand, or there is none
abbrev pub IsFirstOf : (ℕ → ℕ → Type 0) → Option Fault → Type 0
IsFirstOf Stands None = (line code : ℕ) → Stands line code → ⊥
IsFirstOf Stands (Some f) = IsFirstFault Stands f

-- the first of an earlier one and those that stand
pub record IsFirstWith (before : Option Fault) (Stands : ℕ → ℕ → Type 0) (after : Option Fault) : Type 0 where
  pub first : IsFirstOf (λ line code. Is before line code ⊎ Stands line code) after

-- ---- the trees of one formula

-- there are two different ones
pub record HasTwo (P : Tree → Type 0) : Type 0 where
  pub one : Tree
  pub other : Tree
  pub one_is : P one
  pub other_is : P other
  pub differ : one ≡ other → ⊥

-- 67: there is none; 68: there are two
abbrev pub TreeFault : (Tree → Type 0) → ℕ → Type 0
TreeFault P code = ((code ≡ 67) × ((t : Tree) → P t → ⊥)) ⊎ ((code ≡ 68) × HasTwo P)

-- what is answered of the trees
abbrev pub AreTrees : (Tree → Type 0) → Trees → Type 0
AreTrees P trees.NoTree = (t : Tree) → P t → ⊥
AreTrees P (trees.One t) = IsOnly P t
AreTrees P trees.TwoTrees = HasTwo P

-- the first fault, with that of trees at a line
abbrev pub with_trees : ℕ → Option Fault → Trees → Option Fault
with_trees line first trees.NoTree = earlier first (Some (fault line 67))
with_trees line first (trees.One t) = first
with_trees line first trees.TwoTrees = earlier first (Some (fault line 68))

abbrev pub tree_in : Trees → Option Tree
tree_in trees.NoTree = None
tree_in (trees.One t) = Some t
tree_in trees.TwoTrees = None

-- ---- one step

-- what is looked at, and what is known of the theorem's place
pub record Scene : Type 0 where
  pub opened : Opened
  pub provable : Name
  pub theorem : Name
  pub setting : Setting

abbrev pub scene : Opened → Name → Name → Setting → Scene
scene opened provable theorem setting = record { opened = opened; provable = provable; theorem = theorem; setting = setting }

-- those that the program holds
abbrev pub scene_of : HeldScene → Scene
scene_of h = scene h.db.now h.kinds.now.provable h.theorem.now h.setting.now

module _ (g : Scene) where
  abbrev pub IsTreeIn : SheetStep → Tree → Type 0
  IsTreeIn t u = Parses g.opened.rows g.setting.place (expression_at g.opened.contents g.setting (drop 1 t.formula)) g.setting.logic u

  abbrev pub asks_in : SheetStep → Type 0
  asks_in t = asks g.provable (are_known g.opened.contents g.setting t.formula) t ≡ true

  -- a fault of a step
  abbrev pub StepStands : HypSteps → SheetStep → ℕ → ℕ → Type 0
  StepStands hyps t line code =
      (line ≡ t.line) × (HoldsIn (step_tests g.opened.contents g.provable g.theorem g.setting hyps t) code ⊎ (asks_in t × TreeFault (IsTreeIn t) code))

  -- the tree of a step's formula, where its trees are asked for
  abbrev pub HasTreeIn : SheetStep → Option Tree → Type 0
  HasTreeIn t None = asks_in t → ⊥
  HasTreeIn t (Some u) = asks_in t × IsOnly (IsTreeIn t) u

-- the tree of a formula whose trees are asked for
abbrev pub IsTreeOr : (Tree → Type 0) → Option Tree → Type 0
IsTreeOr P None = ⊥
IsTreeOr P (Some u) = IsOnly P u

-- the faults of the trees of a formula at a line are taken in, and where there is no fault the tree is there
pub record IsTreeJudged (P : Tree → Type 0) (line : ℕ) (before after : Option Fault) (tree : Option Tree) : Type 0 where
  pub first : IsFirstWith before (λ l c. (l ≡ line) × TreeFault P c) after
  pub tree_is : after ≡ None → IsTreeOr P tree

-- the faults of a step are taken in, and where there is no fault the tree is there
pub record IsStepJudged (g : Scene) (hyps : HypSteps) (t : SheetStep) (before after : Option Fault) (tree : Option Tree) : Type 0 where
  pub first : IsFirstWith before (StepStands g hyps t) after
  pub tree_is : after ≡ None → HasTreeIn g t tree

-- whether a fault of trees at a line may come first
abbrev pub is_worth : Option Fault → ℕ → Bool
is_worth None line = true
is_worth (Some f) line = not (comes_first f (fault line 67))

-- ---- the items

abbrev pub bound_of : SheetStep → Option Tree → BoundStep
bound_of t tree = record { line = t.line; hyp = t.hyp; name = t.name; places = t.places; reference = t.reference; tree = tree }

pub record State : Type 0 where
  pub first : Option Fault
  pub hyps : HypSteps
  pub steps : List BoundStep

abbrev pub state_of : Judging → State
state_of j = record { first = option_map found j.first; hyps = j.hyps; steps = j.steps.items }

abbrev pub start_of : Option Fault → State
start_of first = record { first = first; hyps = no_hyps; steps = [] }

abbrev pub put_step : State → SheetStep → Option Fault → Option Tree → State
put_step old t first tree = record { first = first; hyps = noted old.hyps t; steps = old.steps ++ bound_of t tree ∷ [] }

abbrev pub with_pair : Contents → Setting → Option Fault → PairLine → Option Fault
with_pair c x first p = if not_variable c x p then earlier first (Some (fault p.line 70)) else first

module _ (g : Scene) where
  -- one step more
  pub record IsStepAdded (t : SheetStep) (old new : State) : Type 0 where
    pub after : Option Fault
    pub tree : Option Tree
    pub judged : IsStepJudged g old.hyps t old.first after tree
    pub new_is : new ≡ put_step old t after tree

  -- one item more
  abbrev pub IsAdded : SheetItem → State → State → Type 0
  IsAdded (item.Comment lines) old new = new ≡ old
  IsAdded (item.Step t) old new = IsStepAdded t old new

  -- the items one by one
  abbrev pub Runs : State → List SheetItem → State → Type 0
  Runs old [] new = new ≡ old
  Runs old (x ∷ xs) new = (m : State) × IsAdded x old m × Runs m xs new

  -- the header, the items and the `$d` statements
  pub record IsJudged (s : Sheet) (first : Option Fault) (steps : List BoundStep) : Type 0 where
    pub state : State
    pub runs : Runs (start_of (option_map (fault s.line) (first_true (header_tests g.opened.contents g.setting s)))) s.items state
    pub first_is : first ≡ fold (with_pair g.opened.contents g.setting) state.first s.pairs
    pub steps_are : steps ≡ state.steps
