use Rattle.std.proofs.Common.{◌∙◌, sym}
use Rattle.std.specs.Str.{bytes_eq}
use Rattle.sheet_read.proofs.Mapped.{first-position, number-none, number-some, entry-unknown, entry-known, entry-given, gap-known, gap-given}
use Rattle.sheet_read.proofs.statements.given_of.Goals as goal

pub returns-in-None-clause-none : goal.returns-in-None-clause-none
returns-in-None-clause-none c = λ more.
    entry-unknown c.args.names.now c.args.entry.now more (sym c.is_gap.ensures ∙ c.if-is_gap.false)
    (number-none (bytes_eq c.args.entry.now) c.args.names.now
    (first-position (bytes_eq c.args.entry.now) c.args.names.now ∙ sym c.in-None.ensures))

pub returns-in-Some-clause-known : goal.returns-in-Some-clause-known
returns-in-Some-clause-known c =
    λ more. entry-known c.args.names.now c.args.entry.now more (sym c.is_gap.ensures ∙ c.if-is_gap.false)
    (number-some (bytes_eq c.args.entry.now) c.args.names.now c.in-Some.number
    (first-position (bytes_eq c.args.entry.now) c.args.names.now ∙ sym c.in-Some.ensures))

pub returns-in-Some-clause-given : goal.returns-in-Some-clause-given
returns-in-Some-clause-given c =
    entry-given c.args.names.now c.args.entry.now c.in-Some.number (sym c.is_gap.ensures ∙ c.if-is_gap.false)
    (first-position (bytes_eq c.args.entry.now) c.args.names.now ∙ sym c.in-Some.ensures)

pub returns-then-is_gap-clause-known : goal.returns-then-is_gap-clause-known
returns-then-is_gap-clause-known c = λ more. gap-known c.args.names.now c.args.entry.now more (sym c.is_gap.ensures ∙ c.if-is_gap.true)

pub returns-then-is_gap-clause-given : goal.returns-then-is_gap-clause-given
returns-then-is_gap-clause-given c = gap-given c.args.names.now c.args.entry.now (sym c.is_gap.ensures ∙ c.if-is_gap.true)
