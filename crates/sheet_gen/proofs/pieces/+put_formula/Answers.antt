use Rattle.sheet_gen.proofs.Formulas.{zero_text, one_text, two_text, odd_text, even_text}
use Rattle.sheet_gen.proofs.Appends.{make, two, three}
use Rattle.sheet_gen.proofs.pieces.+put_formula.Goals as goal

pub returns-then-number-eq0 : goal.returns-then-number-eq0
returns-then-number-eq0 t c = make c.put.result _ _ _ _ c.put.ensures (zero_text c.args.number c.if-number-eq0.true)

pub returns-then-number-eq1 : goal.returns-then-number-eq1
returns-then-number-eq1 t c = make c.put-then-number-eq1.result _ _ _ _ c.put-then-number-eq1.ensures (one_text c.args.number c.if-number-eq1.true)

pub returns-then-number-eq2 : goal.returns-then-number-eq2
returns-then-number-eq2 t c = make c.put-then-number-eq2.result _ _ _ _ c.put-then-number-eq2.ensures (two_text c.args.number c.if-number-eq2.true)

pub returns-then-number-eq1-2 : goal.returns-then-number-eq1-2
returns-then-number-eq1-2 t c =
    make c.put-then-number-eq1-2-2.result _ _ _ _
    (three c.put-then-number-eq1-2-2.result _ _ _ _ _ _ _ c.in_ok-put.ensures c.in_ok-put_formula.ensures c.put-then-number-eq1-2-2.ensures)
    (odd_text c.args.number c.if-number-eq0.false c.if-number-eq1.false c.if-number-eq2.false c.if-number-eq1-2.true)

pub returns : goal.returns
returns t c =
    make c.put_formula-2.result _ _ _ _ (two c.put_formula-2.result _ _ _ _ _ c.in_ok-put-2.ensures c.put_formula-2.ensures)
    (even_text c.args.number c.if-number-eq0.false c.if-number-eq1.false c.if-number-eq2.false c.if-number-eq1-2.false)
