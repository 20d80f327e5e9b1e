use Rattle.std.proofs.Common.{◌≡◌, ◌++◌, take, flat_map}
use Rattle.sheet_text.specs.Layout.{ended}
use Rattle.install_model.specs.Installed.{hyp_line}
use Rattle.db_install.proofs.block.put_hyps.Given as goal

-- the lines so far are put in
abbrev pub invariant-loop-hyp : goal.invariant-loop-hyp
invariant-loop-hyp l = l.text.items ≡ l.initial.text.items ++ flat_map (λ h. ended (hyp_line h)) (take l.hyp-index l.hyps)
