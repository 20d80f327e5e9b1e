-- The parts of a code, as they are made. This is part of the proof, and not of the claim.
use Rattle.std.specs.Prelude.{◌≡◌, ℕ, ◌+◌, Bool, false, not, ◌&&◌, ◌||◌, ◌==◌, nat_le, List, [], ◌∷◌, ◌++◌, length, position, slice_get, slice_set}
use Rattle.std.specs.Prelude.{slice_index_or, unwrap_or, if◌then◌else◌, Option, Some, None, is_some}
use Rattle.std.specs.Option.{option_and_then}
use Rattle.std.specs.Str.{bytes_eq}
use Rattle.mm_model.specs.Names.{Name, contains, first_number}
use Rattle.proof_model.specs.declared.code.What.{What}
use Rattle.proof_model.specs.declared.code.What.TheVariants as what
use Rattle.proof_model.specs.declared.code.Step.{Step}
use Rattle.proof_model.specs.Codes.{step}
use Rattle.proof_tree.specs.declared.graph.ProofNode.{ProofNode}
use Rattle.proof_tree.specs.declared.coding.Coder.{Coder}
use Rattle.proof_tree.specs.Graphs.{node_in}
use Rattle.proof_tree.specs.Given.{item_at}
use Rattle.proof_tree.specs.Walks.{below_of, parts_unless}
use Rattle.proof_tree.specs.declared.order.Part.{Part}

-- the place of a name, by the number that it has among these
abbrev pub place_in : List Name → List ℕ → Name → Option ℕ
place_in names places name = option_and_then (slice_get places) (position (bytes_eq name) names)

-- the places where names first stand in the list
pub record ArePlaces (list names : List Name) (places : List ℕ) : Type 0 where
  pub even : length places ≡ length names
  pub each : (name : Name) → place_in names places name ≡ first_number (bytes_eq name) list

-- the label of a node
abbrev pub label_of : List ProofNode → ℕ → Name
label_of nodes n = (node_in nodes n).label

-- a label is put in, where it is neither mandatory nor there
abbrev pub put_other : Bool → List Name → Name → List Name
put_other mandatory labels label = if mandatory || contains labels label then labels else labels ++ label ∷ []

abbrev pub what_by : Option ℕ → Option ℕ → What
what_by (Some k) o = what.Hyp k
what_by None o = what.Listed (unwrap_or o 0)

-- a node takes hypotheses and is named twice or more
abbrev pub is_shared : List ProofNode → List ℕ → ℕ → Bool
is_shared nodes uses n = not (length (below_of nodes n) == 0) && nat_le 2 (slice_index_or uses n 0)

abbrev pub put_mark : List (Option ℕ) → ℕ → ℕ → List (Option ℕ)
put_mark marks n k = if is_some (item_at marks n) then marks else slice_set marks n (Some k)

-- a node has the next mark, where it has none
pub record Marks (number : ℕ) (old new : Coder) : Type 0 where
  pub steps : new.steps.items ≡ old.steps.items
  pub marks : new.marks.items ≡ put_mark old.marks.items number old.count
  pub count : new.count ≡ old.count + 1

-- the step of a node's label is put in
pub record Ends (number : ℕ) (w : What) (marked : Bool) (old new : Coder) : Type 0 where
  pub steps : new.steps.items ≡ old.steps.items ++ step w marked ∷ []
  pub marks : new.marks.items ≡ (if marked then put_mark old.marks.items number old.count else old.marks.items)
  pub count : new.count ≡ (if marked then old.count + 1 else old.count)

abbrev pub again_steps : Option ℕ → List Step
again_steps None = []
again_steps (Some k) = step (what.Again k) false ∷ []

-- a node's proof is begun: by its mark, or by its parts
pub record Begins (nodes : List ProofNode) (number : ℕ) (old new : Coder) (before after : List Part) : Type 0 where
  pub steps : new.steps.items ≡ old.steps.items ++ again_steps (item_at old.marks.items number)
  pub marks : new.marks.items ≡ old.marks.items
  pub count : new.count ≡ old.count
  pub parts : after ≡ before ++ parts_unless (is_some (item_at old.marks.items number)) number (below_of nodes number)
