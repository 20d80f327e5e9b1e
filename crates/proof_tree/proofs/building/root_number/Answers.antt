use Rattle.std.proofs.Common.{◌≡◌, Some, None, nat_eq, sym, ◌∙◌, arith}
use Rattle.std.specs.HashMap.{get}
use Rattle.proof_tree.specs.Given.{given_proofs}
use Rattle.proof_tree.proofs.BuildLaws.{number_there, used_there, number_looked_up, root_there}
use Rattle.proof_tree.proofs.building.root_number.Goals as goal

pub index-requires : goal.index-requires
index-requires c =
    let inside =
    (number_there c.add_steps.new.graph (given_proofs c.args.frames.now (get nat_eq c.args.floats.now) c.args.steps.now) c.in_ok-proofs.proofs.items c.args.root c.in_ok-proofs.ensures
    (used_there c.args.frames.now (get nat_eq c.args.floats.now) c.args.steps.now c.args.root c.requires.used)).1 in
    let many = c.in_ok-proofs.proofs.ok in
    omega (arith, inside, many)

pub unreachable-requires : goal.unreachable-requires
unreachable-requires c =
    let found =
    number_looked_up c.add_steps.new.graph c.args.frames.now
    (get nat_eq
    c.args.floats.now) c.args.steps.now c.in_ok-proofs.proofs.items c.args.root c.index.result.now c.in_ok-proofs.ensures c.requires.used c.index.ensures in
    let wrong : None ≡ Some found.0 = sym c.in-None.is ∙ found.3 in
    cc

pub returns : goal.returns
returns c =
    let found =
    number_looked_up c.add_steps.new.graph c.args.frames.now
    (get nat_eq
    c.args.floats.now) c.args.steps.now c.in_ok-proofs.proofs.items c.args.root c.index.result.now c.in_ok-proofs.ensures c.requires.used c.index.ensures in
    root_there c.add_steps.new.graph (given_proofs c.args.frames.now (get nat_eq c.args.floats.now) c.args.steps.now) c.in_ok-proofs.proofs.items c.args.root c.in-Some.number c.in_ok-proofs.ensures
    (found.2 ∙ sym found.3 ∙ c.in-Some.is)
