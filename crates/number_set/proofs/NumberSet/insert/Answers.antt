use Rattle.std.proofs.Common.{◌≡◌, List, ℕ, false, subst, sym, ap, ◌∙◌, nat_eq, slice_set, length, ◌<◌, arith}
use Rattle.std.specs.List.{list_any}
use Rattle.number_set.specs.Noted.{Noted}
use Rattle.number_set.proofs.Places.{noted_elsewhere, noted_new}
use Rattle.number_set.proofs.NumberSet.insert.Goals as goal

pub invariant_of-self : goal.invariant_of-self
invariant_of-self c = λ i n e. c.grow.ensures.kept n i (c.self.invariant i n e)

pub invariant_of-self-in_err-push : goal.invariant_of-self-in_err-push
invariant_of-self-in_err-push c =
    let grown : Noted c.self.inside.items.items c.grow.new.places.items = λ i n e. c.grow.ensures.kept n i (c.self.invariant i n e) in
    let absent : list_any (nat_eq c.args.number) c.self.inside.items.items ≡ false = ap (λ (l : List ℕ). list_any (nat_eq c.args.number) l) c.self.view_is ∙ c.requires in
    let stays : Noted c.self.inside.items.items (slice_set c.grow.new.places.items c.args.number c.len.result) =
    noted_elsewhere c.self.inside.items.items c.grow.new.places.items c.args.number c.len.result grown absent in
    subst (λ (l : List ℕ). Noted l (slice_set c.grow.new.places.items c.args.number c.len.result)) (sym c.in_err-push.ensures.items) stays

pub invariant_of-self-2 : goal.invariant_of-self-2
invariant_of-self-2 c =
    let grown : Noted c.self.inside.items.items c.grow.new.places.items = λ i n e. c.grow.ensures.kept n i (c.self.invariant i n e) in
    let absent : list_any (nat_eq c.args.number) c.self.inside.items.items ≡ false = ap (λ (l : List ℕ). list_any (nat_eq c.args.number) l) c.self.view_is ∙ c.requires in
    let long : c.args.number < length c.grow.new.places.items = omega (arith, c.in_ok-grow.ensures.long, c.grow.new.places.ok) in
    let len : length c.self.inside.items.items ≡ c.len.result = omega (arith, c.len.ensures, c.self.inside.items.ok) in
    let put = noted_new c.self.inside.items.items c.grow.new.places.items c.args.number grown absent long in
    let put' : Noted c.push.new.self.items (slice_set c.grow.new.places.items c.args.number (length c.self.inside.items.items)) =
    subst (λ (l : List ℕ). Noted l (slice_set c.grow.new.places.items c.args.number (length c.self.inside.items.items)))
    (sym c.in_ok-push.ensures.items) put in
    subst (λ (k : ℕ). Noted c.push.new.self.items (slice_set c.grow.new.places.items c.args.number k)) len put'
