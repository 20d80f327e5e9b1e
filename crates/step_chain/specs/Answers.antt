-- What is answered of a chain's steps.
use Rattle.std.specs.Prelude.{◌≡◌, ℕ, ◌+◌, ◌≤◌, ◌⊎◌, List, [], ◌∷◌, map, slice_get, Some, Result, Err, MatchResult}
use Rattle.std.specs.List.{AllByRecursion}
use Rattle.mm_base.specs.declared.symbols.Label.{Label}
use Rattle.mm_base.specs.declared.tree.Tree.{Tree}
use Rattle.mm_base.specs.Limits.{most_formula_tokens}
use Rattle.mm_model.specs.Productions.{TypedVariable}
use Rattle.solve_model.specs.Solutions.{copy, Asked}
use Rattle.solve_model.specs.Verdicts.{accepted}
use Rattle.term_model.specs.Sizes.{saturated, tokens, HaveConstants}
use Rattle.chain_laws.specs.declared.leaves.VariableNode.{VariableNode}
use Rattle.chain_laws.specs.Adding.{constants_in}
use Rattle.chain_laws.specs.Reading.{value_at, AreWorkNodes}
use Rattle.step_chain.specs.declared.judged.Accepted.{Accepted}
use Rattle.step_chain.specs.declared.reading.TreeFault.{TreeFault}
use Rattle.step_chain.specs.declared.reading.TreeFault.TheVariants.{TooLong, Memory}
use Rattle.step_chain.specs.Readings.{Readable, IsRead}
use Rattle.step_chain.specs.Held.{Held, judgements_of, OfEachBook, IsHeld}
use Rattle.step_chain.specs.Values.{accepted_at, value_of}

-- the step of a number is accepted so
abbrev pub IsAcceptedAs : Held → ℕ → Asked → Type 0
IsAcceptedAs h i y = slice_get (judgements_of h) i ≡ Some (accepted y)

-- a fact of what was accepted as the step of a number, whatever text and sheet it is of
abbrev pub OfAccepted : Held → ℕ → (Asked → Type 0) → Type 0
OfAccepted h i P = OfEachBook h (λ db. (y : Asked) → IsAcceptedAs h i y → P y)

-- a fact of what is kept of the step of a number, where it was accepted
abbrev pub OfKept : Held → ℕ → (Accepted → Type 0) → Type 0
OfKept h i P = (x : Accepted) → accepted_at h i ≡ Some x → P x

-- the tree can be told
abbrev pub IsShort : (Label → ℕ) → Tree → Type 0
IsShort constants t = saturated (tokens constants t + 1) ≤ most_formula_tokens

-- the first of the trees that is too long has so many tokens
abbrev pub IsFirstLong : (Label → ℕ) → List Tree → ℕ → Type 0
IsFirstLong constants [] n = ⊥
IsFirstLong constants (t ∷ ts) n = IsRead constants t (Err (TooLong n)) ⊎ (IsShort constants t × IsFirstLong constants ts n)

-- the trees were read, unless one of them is too long
abbrev pub AreTold : (Label → ℕ) → List Tree → List Tree → Type 0
AreTold constants ts us = (us ≡ ts) × AllByRecursion (IsShort constants) ts

abbrev pub IsFaultOf : (Label → ℕ) → List Tree → TreeFault → Type 0
IsFaultOf constants ts (TooLong n) = IsFirstLong constants ts n
IsFaultOf constants ts Memory = Unit {0}

abbrev pub AreRead : (Label → ℕ) → List Tree → Result (List Tree) TreeFault → Type 0
AreRead constants ts r = MatchResult r (AreTold constants ts) (IsFaultOf constants ts)

-- what was read of the nodes of variables, where work variables have free nodes and productions their labels' constants
abbrev pub values_at : Readable → List VariableNode → List Tree
values_at t variables = map (λ (w : VariableNode). value_at t.nodes t.links t.works w.node) variables

abbrev pub AreReadOff : Readable → List VariableNode → Result (List Tree) TreeFault → Type 0
AreReadOff t variables r = (constants : Label → ℕ) → HaveConstants constants t.nodes → AreWorkNodes t.nodes t.works → AreRead constants (values_at t variables) r

-- the constants of a production's text
abbrev pub constants_of : Held → Label → ℕ
constants_of h = constants_in h.book.rows

-- the values of the variables of an accepted step's assertion, in the order of its frame
abbrev pub values_of : Held → ℕ → Asked → List Tree
values_of h i y = map (λ (v : TypedVariable). value_of h (copy i v.sym v.code)) y.assertion.vars

-- what is read from is the chain's store
pub record IsOfChain (h : Held) (t : Readable) : Type 0 where
  pub held : IsHeld h
  pub trees : t ≡ record { nodes = h.nodes; links = h.links; works = h.works }
