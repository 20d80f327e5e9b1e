use Rattle.std.proofs.Common.{ℕ, List, length, ◌<◌, ◌∙◌, ap, subst, nat_lt, get_or}
use Rattle.mm_frames.specs.Contents.{Contents}
use Rattle.mm_frames.proofs.Queries.{constant-is}
use Rattle.mm_frames.proofs.frames.Frames.constant_at.Goals as goal

pub returns : goal.returns
returns c = λ text h.
    let value = c.declared_at.ensures ∙ ap (λ (xs : List ℕ). get_or xs c.args.symbol.0 4294967295) (c.as_slice.ensures.value ∙ ap (λ (d : Contents). d.constants) c.self.view_is) in
    let few = subst (λ (d : Contents). length d.entries < 4294967296) c.self.view_is c.self.invariant in
    ap (λ (n : ℕ). nat_lt n c.args.place) value ∙ constant-is c.args.self.now c.args.symbol c.args.place text h c.requires few
