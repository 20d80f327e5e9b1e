use Rattle.std.proofs.Common.{◌≡◌, arith, ◌-◌, ◌∙◌, ℕ, ap, length, take}
use Rattle.std.proofs.lemmas.List.{length-reverse}
use Rattle.proof_export.proofs.Growing.{applied_is}
use Rattle.proof_export.proofs.machine.Machine.apply.Goals as goal

pub returns : goal.returns
returns c =
    let xs = c.args.self.now.stack.items in
    let hs = c.as_slice-hyps.result.now in
    let whole : c.args.self.now.stack.len ≡ length xs = (let many = c.args.self.now.stack.ok in omega (arith, many)) in
    applied_is c.args.frame.now xs c.truncate.new.self.items c.push.new.self.items c.top-entries.result.now c.args.self.now.kept.items hs c.in_ok-formula.formula c.as_slice.result.now
    c.as_slice-hyps.ensures c.as_slice.ensures c.top-entries.ensures c.in_ok-formula.ensures (let low = c.requires in omega (arith, low, length-reverse xs))
    (c.truncate.ensures.items ∙ ap (λ (n : ℕ). take (n - length hs) xs) (c.len.ensures ∙ whole)) c.in_ok-push.ensures.items
