use Rattle.std.proofs.Common.{List, ℕ, sym, ap, ◌∙◌, nat_eq, slice_get}
use Rattle.std.specs.List.{list_any}
use Rattle.number_set.proofs.Places.{not_noted, noted_past, noted_there}
use Rattle.number_set.proofs.NumberSet.contains.Goals as goal

pub returns-in-None : goal.returns-in-None
returns-in-None c =
    not_noted c.self.inside.items.items c.self.inside.places.items c.args.number c.self.invariant
    (ap (λ (l : List ℕ). slice_get l c.args.number) (sym c.as_slice.ensures.value) ∙ sym c.place.ensures ∙ c.in-None.is)
    ∙ ap (λ (l : List ℕ). list_any (nat_eq c.args.number) l) c.self.view_is

pub returns-in-None-item : goal.returns-in-None-item
returns-in-None-item c =
    noted_past c.self.inside.items.items c.self.inside.places.items c.args.number c.in-Some.place c.self.invariant
    (ap (λ (l : List ℕ). slice_get l c.args.number) (sym c.as_slice.ensures.value) ∙ sym c.place.ensures ∙ c.in-Some.is)
    (ap (λ (l : List ℕ). slice_get l c.in-Some.place) (sym c.as_slice-in-Some.ensures.value) ∙ sym c.item.ensures ∙ c.in-None-item.is)
    ∙ ap (λ (l : List ℕ). list_any (nat_eq c.args.number) l) c.self.view_is

pub returns-in-Some-item : goal.returns-in-Some-item
returns-in-Some-item c =
    noted_there c.self.inside.items.items c.self.inside.places.items c.args.number c.in-Some.place c.in-Some-item.item c.self.invariant
    (ap (λ (l : List ℕ). slice_get l c.args.number) (sym c.as_slice.ensures.value) ∙ sym c.place.ensures ∙ c.in-Some.is)
    (ap (λ (l : List ℕ). slice_get l c.in-Some.place) (sym c.as_slice-in-Some.ensures.value) ∙ sym c.item.ensures ∙ c.in-Some-item.is)
    ∙ ap (λ (l : List ℕ). list_any (nat_eq c.args.number) l) c.self.view_is
