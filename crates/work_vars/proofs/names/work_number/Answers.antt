use Rattle.std.proofs.Common.{◌≡◌, sym, ◌∙◌, arith}
use Rattle.std.proofs.lemmas.Fmt.{decimal_injective}
use Rattle.work_vars.proofs.names.work_number.Goals as goal

pub returns-in-Ok-eq0 : goal.returns-in-Ok-eq0
returns-in-Ok-eq0 c n one small e =
    let same : c.in_ok-read_number.field-0 ≡ n = decimal_injective c.in_ok-read_number.field-0 n c.in_ok-read_number.ensures.below (omega arith) (sym c.in_ok-read_number.ensures.written ∙ e) in
    omega (arith, same, c.in-Ok-eq0.ensures.1, c.in-Ok-eq0.field-0-test)

pub returns-in-Err : goal.returns-in-Err
returns-in-Err c n one small e =
    let same : c.in_ok-read_number.field-0 ≡ n = decimal_injective c.in_ok-read_number.field-0 n c.in_ok-read_number.ensures.below (omega arith) (sym c.in_ok-read_number.ensures.written ∙ e) in
    c.in-Err.ensures (omega (arith, same))
