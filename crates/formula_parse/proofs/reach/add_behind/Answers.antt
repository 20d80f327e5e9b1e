use Rattle.std.proofs.Common.{◌≡◌, ℕ, ◌+◌, List, length, slice_get, Some, sym, ap, ◌∙◌, subst}
use Rattle.formula_parse.proofs.Lists.{stays_pushed, last_pushed}
use Rattle.formula_parse.proofs.reach.add_behind.Goals as goal

pub returns-in_ok-push-in-Some-Const-clause-stays : goal.returns-in_ok-push-in-Some-Const-clause-stays
returns-in_ok-push-in-Some-Const-clause-stays c =
    λ j x e. subst (λ (ys : List ℕ). slice_get ys j ≡ Some x) (sym c.in_ok-push-in-Some-Const.ensures.items)
    (stays_pushed c.args.next.now.items (c.args.place + 1) j x e)

pub returns-in_ok-push-in-Some-Const-clause-stands : goal.returns-in_ok-push-in-Some-Const-clause-stands
returns-in_ok-push-in-Some-Const-clause-stands c = λ k.
    let xs = c.args.next.now.items in
    (length xs, ap (λ (ys : List ℕ). slice_get ys (length xs)) c.in_ok-push-in-Some-Const.ensures.items ∙ last_pushed xs (c.args.place + 1))
