use Rattle.std.proofs.Common.{◌≡◌, ℕ, ◌+◌, ◌≤◌, ap, sym, ◌∙◌, arith, inl, inr, subst}
use Rattle.std.proofs.lemmas.Bool.{cases_lt}
use Rattle.frame_lists.specs.declared.entry.Entry.{Entry}
use Rattle.frame_lists.specs.Places.{depth_after, depth_upto}
use Rattle.frame_lists.proofs.Upto.{entry-here}
use Rattle.frame_lists.proofs.PlaceLaws.{place-found, no-place, depth-step, depth-grows}
use Rattle.frame_lists.proofs.blocks.first_place.Goals as goal
use Rattle.frame_lists.proofs.blocks.first_place.Goals.{else-number-position-via-then-number-position+else-depth-eq0, else-number-position-via-else-number-position}

pub returns-then-depth-eq0 : goal.returns-then-depth-eq0
returns-then-depth-eq0 c =
    let xs = c.args.entries.now in
    let k = c.loop-number.number in
    let inside = c.loop-number-test.true in
    let low = c.if-number-position.true in
    let d = c.if-depth-eq0.true in
    let inv = c.loop-number.invariant in
    let x = c.index-entries-number.result in
    let is : c.depth_after-depth.result ≡ depth_after x.kind c.loop-number.depth =
    c.depth_after-depth.ensures ∙ ap (λ (y : Entry). depth_after y.kind c.loop-number.depth) (sym c.index-entries-number.is) in
    let step = depth-step xs k c.loop-number.depth x (entry-here xs k x inside c.index-entries-number.is) inv.0 in
    place-found xs c.args.position (k + 1) (omega (arith, low)) (omega (arith, inside)) (sym step ∙ sym is ∙ d) (λ p l m. inv.2 p l (omega (arith, m)))

pub loop-number-preserved : goal.loop-number-preserved
loop-number-preserved c =
    let xs = c.args.entries.now in
    let k = c.loop-number.number in
    let inside = c.loop-number-test.true in
    let inv = c.loop-number.invariant in
    let x = c.index-entries-number.result in
    let is : c.depth_after-depth.result ≡ depth_after x.kind c.loop-number.depth =
    c.depth_after-depth.ensures ∙ ap (λ (y : Entry). depth_after y.kind c.loop-number.depth) (sym c.index-entries-number.is) in
    let step = is ∙ depth-step xs k c.loop-number.depth x (entry-here xs k x inside c.index-entries-number.is) inv.0 in
    let grown = depth-grows x.kind c.loop-number.depth k inv.1 in (
      step,
      subst (λ (n : ℕ). n ≤ k + 1) (sym is) grown,
      λ p l m d. elim (cases_lt k p) [
        | inl more ↦
            let last : p ≡ k + 1 = omega (arith, more, m) in
            let none : depth_upto xs (k + 1) ≡ 0 = ap (λ (n : ℕ). depth_upto xs n) (sym last) ∙ d in
            elim c.else-number-position.branch [
              | else-number-position-via-then-number-position+else-depth-eq0 w ↦ w.if-depth-eq0.false (step ∙ none)
              | else-number-position-via-else-number-position w ↦ let far = w.if-number-position.false in omega (arith, far, l, last)
            ]
        | inr less ↦ inv.2 p l less d
      ],
    )

pub returns : goal.returns
returns c =
    let xs = c.args.entries.now in
    let stop = c.loop-number-test.false in
    let inv = c.loop-number.invariant in
    no-place xs c.args.position (λ p l m d. inv.2 p l (omega (arith, stop, m)) d)
