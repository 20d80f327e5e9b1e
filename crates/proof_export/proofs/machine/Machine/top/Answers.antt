use Rattle.std.proofs.Common.{arith, ◌-◌, ℕ, List, ap, drop, length, sym, ◌∙◌}
use Rattle.std.proofs.lemmas.List.{length-reverse}
use Rattle.proof_model.specs.Machine.{Formula}
use Rattle.proof_export.proofs.Tops.{top_is}
use Rattle.proof_export.proofs.machine.Machine.top.Goals as goal

pub returns : goal.returns
returns c =
    let xs = c.args.self.now.stack.items in
    c.behind.ensures ∙ ap (λ (l : List Formula). drop (c.len.result - c.args.count) l) c.as_slice.ensures.value
    ∙ ap (λ (n : ℕ). drop (n - c.args.count) xs)
    (c.len.ensures ∙ sym c.as_slice.ensures.len ∙ ap (λ (l : List Formula). length l) c.as_slice.ensures.value)
    ∙ sym (top_is xs c.args.count (let low = c.requires in omega (arith, low, length-reverse xs)))
