-- The theorem of a worksheet, by what is kept of its place. This is part of the proof, and not of the claim.
use Rattle.std.specs.Prelude.{ℕ, ◌-◌, Bool, not, ◌||◌, false, List, [], ◌∷◌, ◌++◌, drop, fold, find, filter_map, nat_lt, if◌then◌else◌, Option, Some, None, is_some, unwrap_or}
use Rattle.std.specs.BTreeSet.{insert_key}
use Rattle.std.specs.BTreeMap.{is_at}
use Rattle.std.specs.List.{list_all, list_any}
use Rattle.std.specs.Option.{option_map_or}
use Rattle.std.specs.Ordering.{nat_cmp}
use Rattle.mm_base.specs.declared.symbols.Sym.{Sym}
use Rattle.mm_base.specs.declared.symbols.Pair.{Pair}
use Rattle.mm_model.specs.declared.frames.Hyp.{Hyp}
use Rattle.mm_model.specs.Names.{Name, symbol_named}
use Rattle.proof_model.specs.declared.theorem.Theorem.{Theorem}
use Rattle.sheet_text.specs.declared.sheet.SheetStep.{SheetStep}
use Rattle.sheet_text.specs.declared.sheet.SheetItem.{SheetItem}
use Rattle.sheet_text.specs.declared.sheet.SheetItem.TheVariants as item
use Rattle.sheet_text.specs.Layout.{step_of_item}
use Rattle.solve_model.specs.Binding.{is_qed}
use Rattle.sheet_bind.specs.declared.theorem.Growing.{Growing}

abbrev pub is_symbol : List Name → Name → Bool
is_symbol symbols token = is_some (symbol_named symbols token)

-- the symbols of tokens; none where one is no symbol
abbrev pub symbols_in : List Name → List Name → List Sym
symbols_in symbols tokens = if list_all (is_symbol symbols) tokens then filter_map (symbol_named symbols) tokens else []

abbrev pub hyp_of : List Name → SheetStep → Hyp
hyp_of symbols t = record { name = unwrap_or t.reference []; floating = false; formula = symbols_in symbols t.formula }

-- ---- the hypotheses

-- those so far, and how many `h` steps are passed over yet
pub record Grown : Type 0 where
  pub left : ℕ
  pub hyps : List Hyp

abbrev pub grown : ℕ → List Hyp → Grown
grown left hyps = record { left = left; hyps = hyps }

abbrev pub grown_of : Growing → Grown
grown_of g = grown g.left g.hyps.items

abbrev pub put_hyp_step : List Name → Grown → SheetStep → Grown
put_hyp_step symbols g t = if t.hyp then (if nat_lt 0 g.left then grown (g.left - 1) g.hyps else grown g.left (g.hyps ++ hyp_of symbols t ∷ [])) else g

abbrev pub put_item : List Name → Grown → SheetItem → Grown
put_item symbols g (item.Comment lines) = g
put_item symbols g (item.Step t) = put_hyp_step symbols g t

-- ---- the formula

abbrev pub qed_in : SheetItem → Option SheetStep
qed_in (item.Comment lines) = None
qed_in (item.Step t) = if is_qed t then Some t else None

abbrev pub formula_of : List Name → Option SheetStep → List Sym
formula_of symbols o = option_map_or (λ (t : SheetStep). symbols_in symbols t.formula) o []

-- ---- the mandatory hypotheses

-- the number of one more symbol in a set of numbers
abbrev pub put_number : List ℕ → Sym → List ℕ
put_number ns s = insert_key nat_cmp ns s.0

abbrev pub put_essential : List ℕ → Hyp → List ℕ
put_essential ns h = if h.floating then ns else fold put_number ns h.formula

abbrev pub has_number : List ℕ → Sym → Bool
has_number ns s = list_any (is_at (nat_cmp s.0)) ns

-- a `$e`, or the `$f` of one of these symbols
abbrev pub is_needed : List ℕ → Hyp → Bool
is_needed ns h = not h.floating || list_any (has_number ns) (drop 1 h.formula)

abbrev pub put_name : List ℕ → List Name → Hyp → List Name
put_name ns names h = if is_needed ns h then names ++ h.name ∷ [] else names

abbrev pub used_in : List Sym → List Hyp → List ℕ
used_in formula hyps = fold put_essential (fold put_number [] formula) hyps

abbrev pub names_needed : List Sym → List Hyp → List Name
names_needed formula hyps = fold (put_name (used_in formula hyps)) [] hyps

-- ---- the theorem

abbrev pub theorem_with : ℕ → List Sym → List Hyp → List Pair → Theorem
theorem_with place formula hyps pairs = record { at = place; formula = formula; hyps = hyps; mandatory = names_needed formula hyps; pairs = pairs }

abbrev pub theorem_in : List Name → ℕ → List Hyp → ℕ → List SheetItem → List Pair → Theorem
theorem_in symbols place active given items pairs =
    theorem_with place (formula_of symbols (find is_qed (filter_map step_of_item items))) (fold (put_item symbols) (grown given active) items).hyps pairs
