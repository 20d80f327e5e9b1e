use Rattle.std.proofs.Common.{ℕ, List, take, get_or, sym, subst}
use Rattle.std.proofs.lemmas.List.{take_more}
use Rattle.frame_lists.specs.Together.{IsNoted}
use Rattle.frame_lists.proofs.TogetherLaws.{noted-more}
use Rattle.frame_lists.proofs.together.Together.note_all.Goals as goal

pub loop-pair-preserved : goal.loop-pair-preserved
loop-pair-preserved c =
    let pairs = c.args.pairs.now in
    let i = c.loop-pair.pair-index in
    let none : ℕ × ℕ = (0, 0) in
    subst (λ (ps : List (ℕ × ℕ)). IsNoted c.args.self.now c.args.number ps c.note.new.self) (sym (take_more pairs i none c.loop-pair-test.true))
    (noted-more c.args.self.now c.args.number (take i pairs) (get_or pairs i none) c.loop-pair.self c.note.new.self c.loop-pair.invariant
    c.in_ok-note.ensures.numbers c.in_ok-note.ensures.places)
