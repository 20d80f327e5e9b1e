-- What stands of a step, and the orders of its places, computed.
use Rattle.std.specs.Prelude.{◌≡◌, true, false, List, [], ◌∷◌, Option, Some, None, codes, refl}
use Rattle.mm_base.specs.declared.tree.Tree.{Tree}
use Rattle.mm_model.specs.Names.{Name}
use Rattle.sheet_text.specs.declared.sheet.Given.{Given}
use Rattle.sheet_text.specs.declared.sheet.Given.TheVariants as given
use Rattle.solve_model.specs.declared.bound.Bound.{Bound}
use Rattle.solve_model.specs.declared.bound.BoundStep.{BoundStep}
use Rattle.solve_model.specs.declared.verdict.Verdict.TheVariants as verdict
use Rattle.solve_model.specs.Bound.{settled, candidate, standing}
use Rattle.solve_model.specs.Solutions.{orders_of}
use Rattle.solve_model.specs.Example.{P, ph, ps, ax_mp, ax_1}

abbrev pub hypothesis : Name → Name → Tree → BoundStep
hypothesis name reference t = record { line = 0; hyp = true; name = name; places = []; reference = Some reference; tree = Some t }

-- a step that is no hypothesis
abbrev pub step : Name → List Given → Option Name → Option Tree → BoundStep
step name places reference t = record { line = 0; hyp = false; name = name; places = places; reference = reference; tree = t }

-- these steps at the end of P
abbrev pub bound : List BoundStep → Bound
bound steps = record { place = 14; existing = false; steps = steps; pairs = []; theorem = record { at = 14; formula = []; hyps = []; mandatory = []; pairs = [] } }

abbrev qed : List Given → Name → BoundStep
qed places reference = step (codes "qed") places (Some reference) (Some ps)

abbrev first : Given
first = given.Step 0

abbrev second : Given
second = given.Step 1

pub of_hypothesis : standing P 14 (hypothesis (codes "1") (codes "r.1") ph) ≡ settled verdict.Hyp
of_hypothesis = refl

pub of_no_reference : standing P 14 (step (codes "1") [] None None) ≡ settled verdict.NoRef
of_no_reference = refl

pub unknown : standing P 14 (qed [] (codes "nosuch")) ≡ settled verdict.UnknownRef
unknown = refl

-- the label of a `$e` is none of an assertion
pub no_assertion : standing P 14 (qed [] (codes "min")) ≡ settled verdict.UnknownRef
no_assertion = refl

-- an assertion behind the place, and a syntax axiom
pub behind : standing P 13 (qed [] (codes "ax-2")) ≡ settled verdict.NotUsable
behind = refl

pub syntax : standing P 14 (qed [] (codes "wi")) ≡ settled verdict.NotUsable
syntax = refl

pub too_many : standing P 14 (qed (first ∷ first ∷ first ∷ []) (codes "ax-mp")) ≡ settled verdict.TooManyHyps
too_many = refl

-- fewer places than hypotheses
pub with_one : standing P 14 (qed (first ∷ []) (codes "ax-mp")) ≡ candidate ax_mp
with_one = refl

-- two places for two hypotheses stand in either order; one place, or a `?`, in the listed one
pub either_order : orders_of (qed (second ∷ first ∷ []) (codes "ax-mp")) ax_mp ≡ (second ∷ first ∷ []) ∷ (first ∷ second ∷ []) ∷ []
either_order = refl

pub one_place : orders_of (qed (second ∷ []) (codes "ax-mp")) ax_mp ≡ (second ∷ []) ∷ []
one_place = refl

pub open_place : orders_of (qed (given.Gap ∷ first ∷ []) (codes "ax-mp")) ax_mp ≡ (given.Gap ∷ first ∷ []) ∷ []
open_place = refl

pub no_places : orders_of (qed [] (codes "ax-1")) ax_1 ≡ [] ∷ []
no_places = refl
