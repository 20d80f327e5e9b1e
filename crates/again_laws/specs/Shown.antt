-- The variables of an assertion that a step's formula or its places show.
use Rattle.std.specs.Prelude.{List, [], ◌∷◌, ◌++◌}
use Rattle.mm_base.specs.declared.tree.Tree.{Tree}
use Rattle.mm_model.specs.Productions.{TypedVariable}
use Rattle.mm_model.specs.Book.{Assertion}
use Rattle.sheet_text.specs.declared.sheet.Given.{Given}
use Rattle.sheet_text.specs.declared.sheet.Given.TheVariants as given
use Rattle.again_laws.specs.Leaves.{typed_leaves}

-- those of the `$e` for which a step is given
abbrev pub shown_leaves : List Given → List Tree → List TypedVariable
shown_leaves [] hs = []
shown_leaves (g ∷ gs) [] = []
shown_leaves (given.Gap ∷ gs) (h ∷ hs) = shown_leaves gs hs
shown_leaves (given.Step k ∷ gs) (h ∷ hs) = typed_leaves h ++ shown_leaves gs hs

-- those of the conclusion, and of these `$e`
abbrev pub shown_by : Assertion → List Given → List TypedVariable
shown_by a places = typed_leaves a.tree ++ shown_leaves places a.hyps
