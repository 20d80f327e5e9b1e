-- Proofs with and without the arities of their labels, computed.
use Rattle.std.specs.Prelude.{◌≡◌, [], ◌∷◌, Some, None, codes, map, refl}
use Rattle.proof_model.specs.declared.theorem.Theorem.{Theorem}
use Rattle.proof_model.specs.Arities.{arity_of, HasArities}
use Rattle.proof_model.specs.CodesExamples.{r}
use Rattle.proof_model.specs.ExampleFrames.{formula, essential, logic, floats}

abbrev theorem : Theorem
theorem = record {
  at = 50;
  formula = formula (codes "|- ps");
  hyps = essential (codes "r.1") (codes "|- ph") ∷ essential (codes "r.2") (codes "|- ( ph -> ps )") ∷ floats;
  mandatory = [];
  pairs = [];
}

-- hypotheses of the theorem take none; an assertion takes its `$f` and its `$e`
pub arities : map (arity_of logic theorem) (codes "wph" ∷ codes "r.2" ∷ codes "wi" ∷ codes "ax-mp" ∷ codes "min" ∷ []) ≡ Some 0 ∷ Some 0 ∷ Some 2 ∷ Some 4 ∷ None ∷ []
arities = refl

pub r_has_arities : HasArities logic theorem r
r_has_arities = (refl, ((refl, tt), ((refl, tt), ((refl, tt), ((refl, tt), tt)))))
