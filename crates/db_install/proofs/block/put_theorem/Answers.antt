use Rattle.std.proofs.Common.{sym}
use Rattle.install_laws.proofs.Lines.{theorem_is}
use Rattle.db_install.proofs.TextLaws.{six}
use Rattle.db_install.proofs.block.put_theorem.Goals as goal

pub returns : goal.returns
returns c =
    six c.put-5.result _ _ _ _ _ _ _ _ _ _ _ _ _ _ (rw c.as_slice.ensures at c.in_ok-put.ensures) c.in_ok-put-2.ensures (rw c.as_slice-2.ensures at c.in_ok-put_tokens.ensures)
    c.in_ok-put-3.ensures (rw c.as_slice-3.ensures at c.in_ok-put-4.ensures) c.put-5.ensures (sym (theorem_is c.args.theorem.now))
