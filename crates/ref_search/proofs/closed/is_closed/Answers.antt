use Rattle.std.proofs.Common.{sym, ◌∙◌}
use Rattle.ref_search.proofs.GroundLaws.{closed_by}
use Rattle.ref_search.proofs.closed.is_closed.Goals as goal

pub returns : goal.returns
returns c =
    closed_by c.args.wanted.now c.as_slice.result.now c.are_ground.result c.as_slice.ensures (sym c.is_ground.ensures ∙ c.if-not-is_ground.false) c.are_ground.ensures
