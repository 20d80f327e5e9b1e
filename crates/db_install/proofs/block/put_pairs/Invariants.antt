use Rattle.std.proofs.Common.{◌≡◌, ◌++◌, take, flat_map}
use Rattle.sheet_text.specs.Layout.{ended}
use Rattle.install_model.specs.Installed.{pair_line}
use Rattle.db_install.proofs.block.put_pairs.Given as goal

-- the lines so far are put in
abbrev pub invariant-loop-pair : goal.invariant-loop-pair
invariant-loop-pair l = l.text.items ≡ l.initial.text.items ++ flat_map (λ p. ended (pair_line p)) (take l.pair-index l.pairs)
