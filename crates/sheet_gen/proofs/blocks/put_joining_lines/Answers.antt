use Rattle.std.proofs.Common.{◌-◌, ℕ, List, [], ◌∷◌, codes}
use Rattle.sheet_text.specs.Layout.{ended}
use Rattle.trial_texts.specs.TrialTexts.{step_line, in_block, implies, provable, ph, block_end, end_name}
use Rattle.sheet_gen.proofs.Appends.{make, three}
use Rattle.sheet_gen.proofs.LineLaws.{three_lines}
use Rattle.sheet_gen.proofs.blocks.put_joining_lines.Goals as goal

pub returns : goal.returns
returns c =
    let k = c.args.block in
    let one : List ℕ = ended (step_line (in_block (codes "p") k) [] (codes "ax-1") []) in
    let two : List ℕ = ended (step_line (in_block (codes "q") k) (block_end (k - 1) ∷ in_block (codes "p") k ∷ []) (codes "ax-mp") []) in
    let last : List ℕ = ended (step_line (end_name c.args.blocks k) (in_block (codes "f") k ∷ in_block (codes "q") k ∷ []) (codes "ax-mp") (provable (implies ph ph))) in
    make c.put_eighth.result _ _ _ _
    (three c.put_eighth.result c.args.text.now.items c.put_bare.new.text.items c.put_seventh.new.text.items _ one two last
    c.in_ok-put_bare.ensures c.in_ok-put_seventh.ensures c.put_eighth.ensures)
    (three_lines one two last)
