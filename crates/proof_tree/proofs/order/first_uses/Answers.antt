use Rattle.std.proofs.Common.{◌≡◌, ◌++◌, [], ◌∷◌, length, ap, ◌∙◌, nat_eq, arith}
use Rattle.std.specs.List.{list_any}
use Rattle.proof_tree.proofs.OrderLaws.{visiting_proof, visiting_label, visiting_done}
use Rattle.proof_tree.proofs.UseLaws.{empty_of}
use Rattle.proof_tree.proofs.PartLaws.{fewer_parts, fewer_labels, last_part}
use Rattle.proof_tree.specs.declared.order.Part.TheVariants as part
use Rattle.proof_tree.proofs.order.first_uses.Goals as goal

pub loop-part-smaller-in-Continue-branch-2 : goal.loop-part-smaller-in-Continue-branch-2
loop-part-smaller-in-Continue-branch-2 c =
    let last : c.loop-part.pending.items ≡ c.pop.new.self.items ++ part.Proof c.in-Proof.number ∷ [] = c.in-Some.ensures.items ∙ ap (λ p. c.pop.new.self.items ++ p ∷ []) c.in-Proof.is in
    fewer_parts c.args.nodes.now c.loop-part.pending.items c.pop.new.self.items c.open.new.pending.items c.in-Proof.number (list_any (nat_eq c.in-Proof.number) c.loop-part.order.keys) last
    (last_part c.args.nodes.now c.loop-part.pending.items c.pop.new.self.items (part.Proof c.in-Proof.number) last c.loop-part.invariant.parts) c.requires.earlier c.in_ok-open-in-Proof.ensures

pub loop-part-preserved-in-Continue-branch-2 : goal.loop-part-preserved-in-Continue-branch-2
loop-part-preserved-in-Continue-branch-2 c =
    let last : c.loop-part.pending.items ≡ c.pop.new.self.items ++ part.Proof c.in-Proof.number ∷ [] = c.in-Some.ensures.items ∙ ap (λ p. c.pop.new.self.items ++ p ∷ []) c.in-Proof.is in
    visiting_proof c.args.nodes.now c.requires c.loop-part.pending.items c.pop.new.self.items c.open.new.pending.items c.in-Proof.number
    c.loop-part.order.keys last c.in_ok-open-in-Proof.ensures c.loop-part.invariant

pub loop-part-smaller : goal.loop-part-smaller
loop-part-smaller c =
    fewer_labels c.args.nodes.now c.loop-part.pending.items c.pop.new.self.items c.in-Label.number (c.in-Some.ensures.items ∙ ap (λ p. c.pop.new.self.items ++ p ∷ []) c.in-Label.is)

pub loop-part-preserved : goal.loop-part-preserved
loop-part-preserved c =
    visiting_label c.args.nodes.now c.requires c.loop-part.pending.items c.pop.new.self.items c.in-Label.number c.loop-part.order.keys c.put.new.order.keys
    (c.in-Some.ensures.items ∙ ap (λ p. c.pop.new.self.items ++ p ∷ []) c.in-Label.is) c.in_ok-put-in-Label.ensures c.loop-part.invariant

pub returns : goal.returns
returns c =
    let none : length c.loop-part.pending.items ≡ 0 = (let many = c.loop-part.pending.ok in let no_more = c.in_default.ensures.cases.0 in omega (arith, many, no_more)) in
    visiting_done c.args.nodes.now c.requires c.loop-part.pending.items c.loop-part.order.keys (empty_of c.loop-part.pending.items none) c.loop-part.invariant
