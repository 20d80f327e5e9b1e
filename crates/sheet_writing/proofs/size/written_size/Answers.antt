use Rattle.std.proofs.Common.{ap, ◌∙◌, min, ◌-◌, ◌^◌}
use Rattle.sheet_writing.proofs.SizeLaws.{size_is}
use Rattle.sheet_writing.proofs.size.written_size.Goals as goal

pub returns : goal.returns
returns c = λ kinds text options w opened place same.
    c.size.ensures ∙ ap (λ n. min n (2 ^ 64 - 1)) (size_is kinds text c.args.db.now opened options w c.args.place c.args.items.now place same)
