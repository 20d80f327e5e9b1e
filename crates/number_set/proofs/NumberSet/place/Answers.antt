use Rattle.std.proofs.Common.{List, ℕ, sym, ap, ◌∙◌, nat_eq, slice_get, position}
use Rattle.number_set.proofs.Places.{not_noted, noted_past, noted_place, noted_other, nowhere_placed}
use Rattle.number_set.proofs.NumberSet.place.Goals as goal

pub returns-in-None : goal.returns-in-None
returns-in-None c =
    nowhere_placed c.args.number c.self.inside.items.items
    (sym
    (not_noted c.self.inside.items.items c.self.inside.places.items c.args.number c.self.invariant
    (ap (λ (l : List ℕ). slice_get l c.args.number) (sym c.as_slice.ensures.value) ∙ sym c.place.ensures ∙ c.in-None.is)))
    ∙ ap (λ (l : List ℕ). position (nat_eq c.args.number) l) c.self.view_is

pub returns-in-None-item : goal.returns-in-None-item
returns-in-None-item c =
    nowhere_placed c.args.number c.self.inside.items.items (sym (noted_past c.self.inside.items.items c.self.inside.places.items c.args.number c.in-Some.place c.self.invariant
    (ap (λ (l : List ℕ). slice_get l c.args.number) (sym c.as_slice.ensures.value) ∙ sym c.place.ensures ∙ c.in-Some.is)
    (ap (λ (l : List ℕ). slice_get l c.in-Some.place) (sym c.as_slice-in-Some.ensures.value) ∙ sym c.item.ensures ∙ c.in-None-item.is)))
    ∙ ap (λ (l : List ℕ). position (nat_eq c.args.number) l) c.self.view_is

pub returns-then-item-number : goal.returns-then-item-number
returns-then-item-number c =
    noted_place c.self.inside.items.items c.self.inside.places.items c.args.number c.in-Some.place c.in-Some-item.item c.self.invariant
    (ap (λ (l : List ℕ). slice_get l c.args.number) (sym c.as_slice.ensures.value) ∙ sym c.place.ensures ∙ c.in-Some.is)
    (ap (λ (l : List ℕ). slice_get l c.in-Some.place) (sym c.as_slice-in-Some.ensures.value) ∙ sym c.item.ensures ∙ c.in-Some-item.is)
    c.if-item-number.true
    ∙ ap (λ (l : List ℕ). position (nat_eq c.args.number) l) c.self.view_is

pub returns-else-item-number : goal.returns-else-item-number
returns-else-item-number c =
    noted_other c.self.inside.items.items c.self.inside.places.items c.args.number c.in-Some.place c.in-Some-item.item c.self.invariant
    (ap (λ (l : List ℕ). slice_get l c.args.number) (sym c.as_slice.ensures.value) ∙ sym c.place.ensures ∙ c.in-Some.is)
    (ap (λ (l : List ℕ). slice_get l c.in-Some.place) (sym c.as_slice-in-Some.ensures.value) ∙ sym c.item.ensures ∙ c.in-Some-item.is)
    c.if-item-number.false
    ∙ ap (λ (l : List ℕ). position (nat_eq c.args.number) l) c.self.view_is
