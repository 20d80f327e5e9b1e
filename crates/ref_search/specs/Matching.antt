-- Variables bound to trees, one after the other, so that trees of a frame become given trees. But for `AreGround` this is part of the proof, and not of the claim.
use Rattle.std.specs.Prelude.{◌≡◌, ℕ, zero, suc, ◌==◌, Bool, true, false, List, [], ◌∷◌, ◌++◌, map, if◌then◌else◌, Option, Some, None}
use Rattle.std.specs.List.{AllByRecursion, list_any}
use Rattle.std.specs.Borrow.{Bor}
use Rattle.mm_base.specs.declared.symbols.Sym.{Sym}
use Rattle.mm_base.specs.declared.tree.Tree.{Tree}
use Rattle.solve_model.specs.Trees.{replace, leaf_tree}
use Rattle.written_model.specs.WrittenSteps.{no_tree}
use Rattle.written_model.specs.Found.{is_ground}

-- a tree of the frame, by what stands for its variables
abbrev pub valued_by : (Sym → Tree) → Tree → Tree
valued_by f t = replace (λ s c. f s) leaf_tree t

abbrev pub is_among : List Sym → Sym → Bool
is_among vars s = list_any (λ (v : Sym). v.0 == s.0) vars

-- a variable with the tree that it is bound to
abbrev pub Binding : Type 0
Binding = Sym × Bor Tree

abbrev pub bound_to : List Binding → Sym → Option Tree
bound_to [] s = None
bound_to (b ∷ bs) s = if b.0.0 == s.0 then Some b.1.now else bound_to bs s

-- what stands for the variables is what they are bound to
pub record Agrees (f : Sym → Tree) (bs : List Binding) : Type 0 where
  pub each : AllByRecursion (λ (b : Binding). f b.0 ≡ b.1.now) bs

-- what is bound is a variable of the frame, and is bound once
pub record AreBound (vars : List Sym) (bs : List Binding) : Type 0 where
  pub once : AllByRecursion (λ (b : Binding). bound_to bs b.0 ≡ Some b.1.now) bs
  pub among : AllByRecursion (λ (b : Binding). is_among vars b.0 ≡ true) bs

-- no other symbol than a variable of the frame has a tree
abbrev pub IsOver : List Sym → (Sym → Tree) → Type 0
IsOver vars f = (s : Sym) → is_among vars s ≡ false → f s ≡ no_tree

-- some are bound behind those that were
pub record IsLonger (old new : List Binding) : Type 0 where
  pub more : List Binding
  pub is : new ≡ old ++ more

-- where it fits, just what agrees with the old bindings and has the property agrees with the new ones; else nothing does
pub record IsMatched (vars : List Sym) (Has : (Sym → Tree) → Type 0) (old new : List Binding) (fits : Bool) : Type 0 where
  pub longer : IsLonger old new
  pub bound : AreBound vars old → AreBound vars new
  pub agrees : fits ≡ true → (f : Sym → Tree) → IsOver vars f → Agrees f old → Has f → Agrees f new
  pub has : fits ≡ true → (f : Sym → Tree) → Agrees f new → Has f
  pub none : fits ≡ false → (f : Sym → Tree) → IsOver vars f → Agrees f old → Has f → ⊥

-- the variable stands for the tree
abbrev pub IsValue : Sym → Tree → (Sym → Tree) → Type 0
IsValue s t f = f s ≡ t

-- the tree of the frame becomes the other
abbrev pub Becomes : Tree → Tree → (Sym → Tree) → Type 0
Becomes pattern t f = valued_by f pattern ≡ t

-- the first trees of the frame become the first others, so many of them
abbrev pub BecomeTo : ℕ → List Tree → List Tree → (Sym → Tree) → Type 0
BecomeTo zero ps ts f = Unit {0}
BecomeTo (suc n) [] ts f = Unit {0}
BecomeTo (suc n) (p ∷ ps) [] f = Unit {0}
BecomeTo (suc n) (p ∷ ps) (t ∷ ts) f = Becomes p t f × BecomeTo n ps ts f

-- whatever stands for the variables, the tree of the frame does not become the other
pub record NeverBecomes (pattern t : Tree) : Type 0 where
  pub never : (f : Sym → Tree) → Becomes pattern t f → ⊥

-- all trees of the frame become the others
abbrev pub AllBecome : List Tree → List Tree → (Sym → Tree) → Type 0
AllBecome ps ts f = map (valued_by f) ps ≡ ts

abbrev pub AreGround : List Tree → Type 0
AreGround ts = AllByRecursion (λ t. is_ground t ≡ true) ts
