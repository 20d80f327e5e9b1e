-- Worked rows: two usable assertions, one of a variable and one of a production, and a label of neither.
use Rattle.std.specs.Prelude.{◌≡◌, List, [], ◌∷◌, Option, Some, None, refl}
use Rattle.mm_base.specs.declared.tree.Tree.{Tree}
use Rattle.mm_base.specs.declared.tree.Tree.TheVariants.{Var, Node, outs-Var, outs-Node}
use Rattle.mm_model.specs.Names.{sym, label, typecode}
use Rattle.mm_database.specs.declared.assertions.Parsed.{Parsed}
use Rattle.mm_database.specs.ByHead.{by_head}

abbrev variable : Tree
variable = Var (sym 1) (typecode (sym 0))

abbrev negation : Tree
negation = Node (label 3) (typecode (sym 0)) (Var (sym 1) (typecode (sym 0)) ∷ [])

abbrev held : List (Option Parsed)
held = None ∷ Some (record { tree = variable; hyps = negation ∷ []; vars = [] }) ∷ Some (record { tree = negation; hyps = variable ∷ []; vars = [] }) ∷ []

of_variables : by_head held None 1 ≡ label 1 ∷ []
of_variables = simp (outs-Var, outs-Node) refl

of_negations : by_head held (Some (label 3)) 1 ≡ label 2 ∷ []
of_negations = simp (outs-Var, outs-Node) refl

none_without_hypotheses : by_head held (Some (label 3)) 0 ≡ []
none_without_hypotheses = simp (outs-Var, outs-Node) refl

none_of_another : by_head held (Some (label 2)) 1 ≡ []
none_of_another = simp (outs-Var, outs-Node) refl
