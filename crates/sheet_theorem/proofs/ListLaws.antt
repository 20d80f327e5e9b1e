-- What is taken of a worksheet item by item, as lists.
use Rattle.std.specs.Prelude.{◌≡◌, ℕ, zero, suc, ◌+◌, ◌-◌, Bool, true, false, List, [], ◌∷◌, ◌++◌, drop, filter, filter_map, fold, length, map, nat_lt, not, Option, Some, None, refl}
use Rattle.std.specs.List.{last_or}
use Rattle.std.specs.Option.{option_map_or}
use Rattle.std.proofs.Common.{arith, sym, ap, ◌∙◌, cond, append-nil, append_assoc}
use Rattle.std.proofs.lemmas.Bool.Decides.{nat_tests}
use Rattle.mm_model.specs.Names.{Name}
use Rattle.sheet_text.specs.declared.sheet.SheetItem.{SheetItem}
use Rattle.sheet_text.specs.declared.sheet.SheetItem.TheVariants as item
use Rattle.sheet_text.specs.declared.sheet.SheetStep.{SheetStep}
use Rattle.sheet_text.specs.Layout.{step_of_item}
use Rattle.sheet_theorem.specs.Parts.{hyp_of, grown, put_item, put_formula}

-- ---- the hypotheses

abbrev pub hyp_steps : List SheetItem → List SheetStep
hyp_steps items = filter (λ (t : SheetStep). t.hyp) (filter_map step_of_item items)

abbrev nothing : List SheetStep
nothing = []

drop_none : (n : ℕ) → drop n nothing ≡ nothing
drop_none zero = refl
drop_none (suc n) = refl

less_one : (n : ℕ) → suc n - 1 ≡ n
less_one n = omega arith

above_zero : (n : ℕ) → nat_lt 0 (suc n) ≡ true
above_zero n = grind (arith, nat_tests)

Grows : List SheetItem → Type 0
Grows items = (left : ℕ) (hyps : List (Name × List Name)) → (fold put_item (grown left hyps) items).hyps ≡ hyps ++ map hyp_of (drop left (hyp_steps items))

one_grown : (t : SheetStep) (items : List SheetItem) (hyps : List (Name × List Name)) → Grows items → (left : ℕ)
    → (fold put_item (cond (nat_lt 0 left) (grown (left - 1) hyps) (grown left (hyps ++ hyp_of t ∷ []))) items).hyps ≡ hyps ++ map hyp_of (drop left (t ∷ hyp_steps items))
unfolding Grows
one_grown t items hyps rest zero = rest 0 (hyps ++ hyp_of t ∷ []) ∙ append_assoc hyps (hyp_of t ∷ []) (map hyp_of (hyp_steps items))
one_grown t items hyps rest (suc n) =
    ap (λ (b : Bool). (fold put_item (cond b (grown (suc n - 1) hyps) (grown (suc n) (hyps ++ hyp_of t ∷ []))) items).hyps) (above_zero n)
    ∙ ap (λ (m : ℕ). (fold put_item (grown m hyps) items).hyps) (less_one n) ∙ rest n hyps

step_grown : (t : SheetStep) (items : List SheetItem) (hyps : List (Name × List Name)) → Grows items → (left : ℕ) (b : Bool)
    → (fold put_item (cond b (cond (nat_lt 0 left) (grown (left - 1) hyps) (grown left (hyps ++ hyp_of t ∷ []))) (grown left hyps)) items).hyps
    ≡ hyps ++ map hyp_of (drop left (cond b (t ∷ hyp_steps items) (hyp_steps items)))
unfolding Grows
step_grown t items hyps rest left true = one_grown t items hyps rest left
step_grown t items hyps rest left false = rest left hyps

all_grown : (items : List SheetItem) → Grows items
unfolding Grows
all_grown [] left hyps = sym (ap (λ (ts : List SheetStep). hyps ++ map hyp_of ts) (drop_none left) ∙ append-nil hyps)
all_grown (item.Comment lines ∷ items) left hyps = all_grown items left hyps
all_grown (item.Step t ∷ items) left hyps = step_grown t items hyps (all_grown items) left t.hyp

pub hyps_grown : (items : List SheetItem) (left : ℕ) → (fold put_item (grown left []) items).hyps ≡ map hyp_of (drop left (hyp_steps items))
unfolding Grows
hyps_grown items left = all_grown items left []

-- ---- the last formula

abbrev pub formula_of : Option SheetStep → List Name
formula_of o = option_map_or (λ (t : SheetStep). t.formula) o []

pub formula_is_last : (items : List SheetItem) (o : Option SheetStep) → fold put_formula (formula_of o) items ≡ formula_of (last_or o (filter_map step_of_item items))
formula_is_last [] o = refl
formula_is_last (item.Comment lines ∷ items) o = formula_is_last items o
formula_is_last (item.Step t ∷ items) o = formula_is_last items (Some t)
