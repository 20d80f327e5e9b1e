-- The laws of substitution.
use Rattle.std.specs.Prelude.{◌≡◌, ℕ, List}
use Rattle.mm_base.specs.declared.tree.Tree.{Tree}
use Rattle.mm_base.specs.Trees.{code_of}
use Rattle.mm_model.specs.declared.rows.Production.{Production}
use Rattle.mm_model.specs.Texts.{text}
use Rattle.mm_model.specs.Typed.{IsTyped}
use Rattle.mm_model.specs.Substitution.{Substitution, KeepsConstants, IsSubstitution, substitute, substitute_text}

-- the text of a substituted tree is the substituted text
abbrev pub TextOfSubstituted : Type 0
TextOfSubstituted =
    (rows : List Production) (s : Substitution) (t : Tree) → KeepsConstants s
    → text rows (substitute s t) ≡ substitute_text rows s (text rows t)

-- a substitution keeps the typecode of a tree, and that it is typed
abbrev pub SubstitutedIsTyped : Type 0
SubstitutedIsTyped =
    (rows : List Production) (before : ℕ) (s : Substitution) (t : Tree) → IsSubstitution rows before s → IsTyped rows before t
    → (code_of (substitute s t) ≡ code_of t) × IsTyped rows before (substitute s t)
