use Rattle.std.proofs.Common.{◌∙◌, sym}
use Rattle.install_laws.proofs.Lines.{block_is}
use Rattle.db_install.proofs.TextLaws.{all_five}
use Rattle.db_install.proofs.block.block.Goals as goal

pub returns : goal.returns
returns c =
    all_five _ _ _ _ _ _ _ _ _ _ (rw c.new-text.ensures.items at c.in_ok-put.ensures) (rw c.as_slice.ensures at c.in_ok-put_pairs.ensures)
    (rw c.as_slice-2.ensures at c.in_ok-put_hyps.ensures) c.in_ok-put_theorem.ensures c.in_ok-put-2.ensures
    ∙ sym (block_is c.args.theorem.now)
