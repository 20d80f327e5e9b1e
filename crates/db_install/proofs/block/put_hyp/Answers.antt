use Rattle.std.proofs.Common.{sym}
use Rattle.install_laws.proofs.Lines.{hyp_is}
use Rattle.db_install.proofs.TextLaws.{four}
use Rattle.db_install.proofs.block.put_hyp.Goals as goal

pub returns : goal.returns
returns c =
    four c.put-3.result _ _ _ _ _ _ _ _ _ _ (rw c.as_slice.ensures at c.in_ok-put.ensures) c.in_ok-put-2.ensures (rw c.as_slice-2.ensures at c.in_ok-put_tokens.ensures)
    c.put-3.ensures (sym (hyp_is c.args.hyp.now))
