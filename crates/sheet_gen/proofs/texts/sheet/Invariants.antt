use Rattle.std.proofs.Common.{◌≡◌, ◌++◌, codes}
use Rattle.sheet_gen.proofs.LineLaws.{blocks_text}
use Rattle.sheet_gen.proofs.texts.sheet.Given as goal

-- the blocks so far are written
abbrev pub invariant-loop-before : goal.invariant-loop-before
invariant-loop-before l = l.text.items ≡ codes "$( <MM> <PROOF_ASST> THEOREM=trial LOC_AFTER=?\n" ++ blocks_text l.blocks l.before
