use Rattle.std.proofs.Common.{◌-◌, ℕ, List, [], ◌∷◌, codes}
use Rattle.sheet_text.specs.Layout.{ended}
use Rattle.trial_texts.specs.TrialTexts.{step_line, in_block, implies, provable, trial_formula}
use Rattle.sheet_gen.proofs.Appends.{make, four}
use Rattle.sheet_gen.proofs.LineLaws.{four_lines}
use Rattle.sheet_gen.proofs.blocks.put_steps.Goals as goal

pub returns : goal.returns
returns c =
    let k = c.args.block in
    let f = trial_formula (k - 1) in
    let one : List ℕ = ended (step_line (in_block (codes "a") k) [] (codes "ax-1") (provable (implies f (implies f f)))) in
    let two : List ℕ = ended (step_line (in_block (codes "b") k) [] (codes "ax-1") []) in
    let three : List ℕ = ended (step_line (in_block (codes "c") k) [] (codes "ax-2") []) in
    let last : List ℕ = ended (step_line (in_block (codes "e") k) (in_block (codes "b") k ∷ in_block (codes "c") k ∷ []) (codes "ax-mp") []) in
    make c.put_fourth.result _ _ _ _
    (four c.put_fourth.result c.args.text.now.items c.put_first.new.text.items c.put_bare.new.text.items c.put_bare-2.new.text.items _ one two three last
    c.in_ok-put_first.ensures c.in_ok-put_bare.ensures c.in_ok-put_bare-2.ensures c.put_fourth.ensures)
    (four_lines one two three last)
