use Rattle.std.proofs.Common.{Option, subst}
use Rattle.mm_base.specs.Outside.{Files}
use Rattle.mmp_run.specs.OpenedSheet.{IsOpenedSheet}
use Rattle.mmp_run.proofs.both.open_both.Goals as goal

pub returns-in-Ok-clause-opened : goal.returns-in-Ok-clause-opened
returns-in-Ok-clause-opened g c =
    let mid = g.S.Store.read_faults c.open.new.store in
    let now = g.S.Store.read_faults c.open_sheet.new.store in
    c.with_sheet.ensures (g.S.Store.told c.args.store.now) (g.S.Store.read_faults c.args.store.now) mid now c.args.database.now c.args.sheet.now
    (rw c.in-Database.is at c.in_ok-end.ensures.opened) c.in_ok-end.ensures.read_faults
    (subst (λ (t : Option Files). IsOpenedSheet t mid now c.args.sheet.now c.in-Ok.opened) c.in_ok-end.ensures.same_files c.in-Ok.ensures.opened)
