-- The work size of a worksheet, computed.
use Rattle.std.specs.Prelude.{◌≡◌, [], ◌∷◌, Some, None, codes, refl}
use Rattle.mm_model.proofs.SizeLaws.{node_counts}
use Rattle.sheet_text.specs.declared.sheet.Given.TheVariants as given
use Rattle.solve_model.specs.Bound.{work_size}
use Rattle.solve_model.specs.BoundExamples.{hypothesis, step, bound}
use Rattle.solve_model.specs.Example.{P, ph, ps}

-- a hypothesis of one node; a blank candidate, 1 and the 5 nodes of ax-1; a candidate of one node and the 1 + 1 + 3 of ax-mp; a blank step that is set aside
pub size : work_size P (bound (hypothesis (codes "1") (codes "r.1") ph ∷ step (codes "2") [] (Some (codes "ax-1")) None
    ∷ step (codes "3") (given.Step 0 ∷ given.Step 1 ∷ []) (Some (codes "ax-mp")) (Some ps) ∷ step (codes "4") [] (Some (codes "nosuch")) None ∷ [])) ≡ 14
size = simp node_counts refl
