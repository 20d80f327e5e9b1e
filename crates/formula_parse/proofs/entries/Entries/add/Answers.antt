use Rattle.std.proofs.Common.{◌≡◌, ◌≤◌, List, length, slice_get, Some, sym, ap, ◌∙◌, subst, arith}
use Rattle.mm_base.specs.Rows.{row_at}
use Rattle.formula_parse.specs.declared.reach.Entry.{Entry}
use Rattle.formula_parse.specs.Charts.{IsIn, IsOnce}
use Rattle.formula_parse.specs.Noted.{AreNoted}
use Rattle.formula_parse.proofs.Consts.{off}
use Rattle.formula_parse.proofs.Lists.{stays_pushed, last_pushed}
use Rattle.formula_parse.proofs.Noting.{noted_kept, noted_more, once_more}
use Rattle.formula_parse.proofs.entries.Entries.add.Goals as goal

pub invariant_of-self-2 : goal.invariant_of-self-2
invariant_of-self-2 c =
    let items = c.self.inside.items.items in
    let later = c.note.new.later in
    let old = noted_kept items c.self.inside.later later c.in_ok-note.ensures.kept c.self.invariant in
    let len : length items ≡ c.len.result = omega (arith, c.len.ensures, c.self.inside.items.ok) in
    let there = λ (l : 16 ≤ length items). subst (λ n. IsIn (row_at later c.args.entry.end) n) (sym len) (c.in_ok-note.ensures.noted (omega (arith, l, len))) in
    subst (λ (xs : List Entry). AreNoted xs later) (sym c.in_ok-push.ensures.items) (noted_more items c.args.entry later there old)

pub returns-clause-stays : goal.returns-clause-stays
returns-clause-stays c = λ j x e.
    let items = c.self.inside.items.items in
    subst (λ (xs : List Entry). slice_get xs j ≡ Some x) (sym c.in_ok-push.ensures.items)
    (stays_pushed items c.args.entry j x (ap (λ (xs : List Entry). slice_get xs j) c.self.view_is ∙ e))

pub returns-clause-stands : goal.returns-clause-stands
returns-clause-stands c =
    let items = c.self.inside.items.items in
    (length items, ap (λ (xs : List Entry). slice_get xs (length items)) c.in_ok-push.ensures.items ∙ last_pushed items c.args.entry)

pub returns-clause-once : goal.returns-clause-once
returns-clause-once c = λ o.
    let items = c.self.inside.items.items in
    let back = sym c.as_slice.ensures.value in
    let noted = subst (λ (xs : List Entry). AreNoted xs c.self.inside.later) back c.self.invariant in
    let none = λ (h : IsIn items c.args.entry). off c.finds.result (c.finds.ensures.all noted (subst (λ (xs : List Entry). IsIn xs c.args.entry) back h)) c.if-finds.false in
    subst IsOnce (sym c.in_ok-push.ensures.items) (once_more items c.args.entry none (subst IsOnce (sym c.self.view_is) o))
