use Rattle.sheet_gen.proofs.pieces.+put_formula.Given as goal

abbrev pub decreases-put_formula : goal.decreases-put_formula
decreases-put_formula l = l.number
