use Rattle.std.proofs.Common.{◌≡◌, subst, sym, ◌∙◌, ap, decimal, Ok, IsUtf8}
use Rattle.std.proofs.lemmas.Fmt.{IsAscii-decimal, parse-decimal}
use Rattle.std.proofs.lemmas.Str.{IsUtf8-from_ascii}
use Rattle.work_vars.proofs.numbers.read_number.Goals as goal

pub returns-in_default-clause-written : goal.returns-in_default-clause-written
returns-in_default-clause-written c n small e = c.in_default.ensures.cases.0 (subst IsUtf8 (sym e) (IsUtf8-from_ascii (decimal n) (IsAscii-decimal n small)))

pub returns-in_default-parse-clause-written : goal.returns-in_default-parse-clause-written
returns-in_default-parse-clause-written c n small e =
    let is : c.parse.result ≡ Ok n = parse-decimal 64 n c.in-Ok.text.now c.parse.result small small (c.in-Ok.ensures.cases.0 ∙ e) c.parse.ensures.value.0 in
    cc

pub returns-else-is_decimal-clause-written : goal.returns-else-is_decimal-clause-written
returns-else-is_decimal-clause-written c n small e =
    let is : c.parse.result ≡ Ok n = parse-decimal 64 n c.in-Ok.text.now c.parse.result small small (c.in-Ok.ensures.cases.0 ∙ e) c.parse.ensures.value.0 in
    let same : n ≡ c.in-Ok-parse.number = cc in
    let told = c.is_decimal.ensures.1 (e ∙ ap decimal same) in
    absurd (cc)
