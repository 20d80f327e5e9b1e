use Rattle.std.proofs.Common.{◌≡◌, ◌++◌, [], ◌∷◌, length, subst, sym, ap, ◌∙◌, ◌<◌, ◌-◌, refl, arith, is_some}
use Rattle.proof_tree.specs.declared.order.Part.TheVariants as part
use Rattle.proof_tree.specs.Given.{item_at}
use Rattle.proof_tree.proofs.PartLaws.{fewer_parts, fewer_labels, last_part}
use Rattle.proof_tree.proofs.UseLaws.{empty_of}
use Rattle.proof_tree.proofs.StepLaws.{steps_begun, steps_begin, steps_end, steps_done}
use Rattle.proof_tree.proofs.coding.steps.Goals as goal

pub loop-part-init : goal.loop-part-init
loop-part-init c =
    steps_begun c.args.nodes.now c.args.uses.now c.args.mandatory.now.names c.args.mandatory.now.places.items c.args.labels.now c.push.new.self.items
    (length c.args.nodes.now - 1) c.in_ok-coder.coder c.requires
    (c.in_ok-push.ensures.items ∙ ap (λ ps. ps ++ part.Proof (length c.args.nodes.now - 1) ∷ []) c.new-pending.ensures.items) refl c.in_ok-coder.ensures

pub begin-requires : goal.begin-requires
begin-requires c =
    last_part c.args.nodes.now c.loop-part.pending.items c.pop.new.self.items (part.Proof c.in-Proof.number)
    (c.in-Some.ensures.items ∙ ap (λ p. c.pop.new.self.items ++ p ∷ []) c.in-Proof.is) c.loop-part.invariant.parts

pub loop-part-smaller-in-Continue-branch-3 : goal.loop-part-smaller-in-Continue-branch-3
loop-part-smaller-in-Continue-branch-3 c =
    let last : c.loop-part.pending.items ≡ c.pop.new.self.items ++ part.Proof c.in-Proof.number ∷ [] = c.in-Some.ensures.items ∙ ap (λ p. c.pop.new.self.items ++ p ∷ []) c.in-Proof.is in
    fewer_parts c.args.nodes.now c.loop-part.pending.items c.pop.new.self.items c.begin.new.pending.items c.in-Proof.number (is_some (item_at c.loop-part.coder.marks.items c.in-Proof.number)) last
    (last_part c.args.nodes.now c.loop-part.pending.items c.pop.new.self.items (part.Proof c.in-Proof.number) last c.loop-part.invariant.parts) c.requires.earlier c.in_ok-begin-in-Proof.ensures.parts

pub loop-part-preserved-in-Continue-branch-3 : goal.loop-part-preserved-in-Continue-branch-3
loop-part-preserved-in-Continue-branch-3 c =
    steps_begin c.args.nodes.now c.args.uses.now c.args.mandatory.now.names c.args.mandatory.now.places.items c.args.labels.now
    c.loop-part.pending.items c.pop.new.self.items c.begin.new.pending.items c.in-Proof.number
    c.loop-part.coder c.begin.new.coder c.requires (c.in-Some.ensures.items ∙ ap (λ p. c.pop.new.self.items ++ p ∷ []) c.in-Proof.is) c.in_ok-begin-in-Proof.ensures c.loop-part.invariant

pub end-requires-clause-node : goal.end-requires-clause-node
end-requires-clause-node c =
    last_part c.args.nodes.now c.loop-part.pending.items c.pop.new.self.items (part.Label c.in-Label.number)
    (c.in-Some.ensures.items ∙ ap (λ p. c.pop.new.self.items ++ p ∷ []) c.in-Label.is) c.loop-part.invariant.parts

pub end-requires-clause-marks : goal.end-requires-clause-marks
end-requires-clause-marks c =
    let inside : c.in-Label.number < length c.args.nodes.now =
    last_part c.args.nodes.now c.loop-part.pending.items c.pop.new.self.items (part.Label c.in-Label.number)
    (c.in-Some.ensures.items ∙ ap (λ p. c.pop.new.self.items ++ p ∷ []) c.in-Label.is) c.loop-part.invariant.parts in
    subst (λ m. c.in-Label.number < m) (sym c.loop-part.invariant.many) inside

pub loop-part-smaller : goal.loop-part-smaller
loop-part-smaller c =
    fewer_labels c.args.nodes.now c.loop-part.pending.items c.pop.new.self.items c.in-Label.number (c.in-Some.ensures.items ∙ ap (λ p. c.pop.new.self.items ++ p ∷ []) c.in-Label.is)

pub loop-part-preserved : goal.loop-part-preserved
loop-part-preserved c =
    steps_end c.args.nodes.now c.args.uses.now c.args.mandatory.now.names c.args.mandatory.now.places.items c.args.labels.now
    c.loop-part.pending.items c.pop.new.self.items c.in-Label.number c.loop-part.coder c.end.new.coder c.requires
    (c.in-Some.ensures.items ∙ ap (λ p. c.pop.new.self.items ++ p ∷ []) c.in-Label.is) c.in_ok-end-in-Label.ensures c.loop-part.invariant

pub returns : goal.returns
returns c = λ list order mandatory is uses labels.
    let none : length c.loop-part.pending.items ≡ 0 = (let many = c.loop-part.pending.ok in let no_more = c.in_default.ensures.cases.0 in omega (arith, many, no_more)) in
    c.from_vec.ensures
    ∙ steps_done c.args.nodes.now c.args.uses.now c.args.mandatory.now.names c.args.mandatory.now.places.items c.args.labels.now
    c.loop-part.pending.items c.loop-part.coder c.requires
    (empty_of c.loop-part.pending.items none)
    c.loop-part.invariant list order mandatory is uses labels
