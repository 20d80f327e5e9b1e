-- The valuation that a chain stands for.
use Rattle.std.specs.Prelude.{ℕ, List, slice_get, unwrap_or, option_map, option_and_then, Option, Some, None}
use Rattle.std.specs.Option.{option_map_or}
use Rattle.solve_model.specs.Solutions.{Unknown, named, blank, copy, Valuation}
use Rattle.chain_laws.specs.Adding.{work_at, variable_at}
use Rattle.chain_laws.specs.Reading.{value_at}
use Rattle.step_chain.specs.declared.judged.Accepted.{Accepted}
use Rattle.step_chain.specs.declared.judged.Judged.{Judged}
use Rattle.step_chain.specs.declared.judged.Judged.TheVariants.{Stands, Fits}
use Rattle.step_chain.specs.declared.judged.Pushed.{Pushed}
use Rattle.step_chain.specs.Ordered.{formula_at}
use Rattle.step_chain.specs.Held.{Held}

abbrev pub accepted_in : Judged → Option Accepted
accepted_in (Stands v) = None
accepted_in (Fits x) = Some x

abbrev pub kept_at : List Pushed → ℕ → Option Accepted
kept_at steps i = option_and_then (λ (p : Pushed). accepted_in p.judged) (slice_get steps i)

-- what is judged of a step that was pushed; none where it was not
abbrev pub judged_in : List Pushed → ℕ → Option Judged
judged_in steps i = option_map (λ (p : Pushed). p.judged) (slice_get steps i)

abbrev pub judged_at : Held → ℕ → Option Judged
judged_at h i = judged_in h.steps i

-- what is kept of a step that was accepted; none where it was not pushed or was not accepted
abbrev pub accepted_at : Held → ℕ → Option Accepted
accepted_at h i = kept_at h.steps i

-- the node of an unknown
abbrev pub node_in : Held → Unknown → ℕ
node_in h (named c n) = unwrap_or (work_at h.works c n) 0
node_in h (blank i) = (formula_at h.formulas i).0
node_in h (copy i s c) = option_map_or (λ (x : Accepted). unwrap_or (variable_at x.variables s c) 0) (accepted_at h i) 0

-- the tree of its node
abbrev pub value_of : Held → Valuation
value_of h u = value_at h.nodes h.links h.works (node_in h u)
