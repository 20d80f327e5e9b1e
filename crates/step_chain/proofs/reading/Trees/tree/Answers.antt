use Rattle.std.proofs.Common.{◌<◌, ℕ, ◌+◌, ◌-◌, ◌^◌, length, min, List, sym, ap, subst, ◌∙◌, Ok, Err}
use Rattle.term_model.specs.Sizes.{size_at}
use Rattle.chain_laws.specs.Leaves.{leaf_at}
use Rattle.chain_laws.specs.Reading.{read}
use Rattle.step_chain.specs.declared.reading.TreeFault.TheVariants.{TooLong}
use Rattle.step_chain.specs.Readings.{Readable, IsReadOff}
use Rattle.step_chain.proofs.ReadingLaws.{read_long, read_short, deep_enough}
use Rattle.step_chain.proofs.reading.Trees.tree.Goals as goal

abbrev added_to : ℕ → List ℕ → ℕ
added_to i sizes = min (size_at sizes i + 1) (2 ^ 64 - 1)

pub returns-then-tokens-gt-MOST_FORMULA_TOKENS-clause-read : goal.returns-then-tokens-gt-MOST_FORMULA_TOKENS-clause-read
returns-then-tokens-gt-MOST_FORMULA_TOKENS-clause-read c =
    let i = c.args.id.0 in
    let x = c.self.inside in
    let inside : i < length x.arena.now.nodes = subst (λ (r : Readable). i < length r.nodes) (sym c.self.view_is) c.requires in
    subst (λ (r : Readable). IsReadOff r.nodes r.links r.works i (Err (TooLong c.saturating_add-tokens.result))) c.self.view_is
    (read_long x.arena.now.nodes x.arena.now.links x.works.now x.names.items x.sizes c.count-depth.ensures.store c.self.invariant i c.saturating_add-tokens.result inside
    (c.saturating_add-tokens.ensures ∙ ap (added_to i) c.as_slice.ensures) c.if-tokens-gt-MOST_FORMULA_TOKENS.true)

pub read-requires-clause-deep : goal.read-requires-clause-deep
read-requires-clause-deep c =
    let i = c.args.id.0 in
    let x = c.self.inside in
    let inside : i < length x.arena.now.nodes = subst (λ (r : Readable). i < length r.nodes) (sym c.self.view_is) c.requires in
    deep_enough x.arena.now.nodes x.arena.now.links x.works.now x.names.items x.sizes c.count-depth.ensures.store c.self.invariant i c.saturating_add-tokens.result inside
    (c.saturating_add-tokens.ensures ∙ ap (added_to i) c.as_slice.ensures) c.count-depth.result c.count-depth.ensures.count

pub returns-in-Ok-clause-read : goal.returns-in-Ok-clause-read
returns-in-Ok-clause-read c =
    let i = c.args.id.0 in
    let x = c.self.inside in
    let inside : i < length x.arena.now.nodes = subst (λ (r : Readable). i < length r.nodes) (sym c.self.view_is) c.requires in
    subst (λ (r : Readable). IsReadOff r.nodes r.links r.works i (Ok c.in-Ok.tree)) c.self.view_is
    (read_short x.arena.now.nodes x.arena.now.links x.works.now x.names.items x.sizes c.count-depth.ensures.store c.self.invariant i c.saturating_add-tokens.result inside
    (c.saturating_add-tokens.ensures ∙ ap (added_to i) c.as_slice.ensures) c.if-tokens-gt-MOST_FORMULA_TOKENS.false c.in-Ok.tree
    (c.in-Ok.ensures ∙ ap (λ (d : ℕ). read x.arena.now.nodes x.arena.now.links (leaf_at x.arena.now.links x.works.now) d i) c.count-depth.ensures.count))
