use Rattle.std.proofs.Common.{◌∙◌, sym, ap, Some, arith, false, refl}
use Rattle.std.proofs.lemmas.Bool.{both_ways}
use Rattle.std.proofs.lemmas.Option.{slice_get-get_or}
use Rattle.syntax_grammar.proofs.CheckLaws.{apart_turn, apart_differ, found_twice}
use Rattle.syntax_grammar.proofs.checks.labels_differ.Goals as goal

pub returns-then-has_label_of : goal.returns-then-has_label_of
returns-then-has_label_of c =
    let rows = c.args.rows.now in
    let x = c.index-rows-k.result in
    let here = slice_get-get_or rows c.loop-k.k x c.loop-k-test.true ∙ ap (λ r. Some r) (sym c.index-rows-k.is) in
    (λ h. absurd (both_ways false refl h), λ h. absurd (found_twice rows c.loop-k.k x here (sym c.has_label_of.ensures ∙ c.if-has_label_of.true) h))

pub loop-k-preserved : goal.loop-k-preserved
loop-k-preserved c =
    let rows = c.args.rows.now in
    let x = c.index-rows-k.result in
    let here = slice_get-get_or rows c.loop-k.k x c.loop-k-test.true ∙ ap (λ r. Some r) (sym c.index-rows-k.is) in
    apart_turn rows c.loop-k.k x here (sym c.has_label_of.ensures ∙ c.if-has_label_of.false) c.loop-k.invariant

pub returns : goal.returns
returns c = (λ h. apart_differ c.args.rows.now c.loop-k.k (omega (arith, c.loop-k-test.false)) c.loop-k.invariant, λ h. refl)
