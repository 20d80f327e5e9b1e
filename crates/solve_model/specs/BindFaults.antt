-- The faults of a worksheet against its database.
use Rattle.std.specs.Prelude.{◌≡◌, ℕ, Bool, true, false, not, ◌&&◌, ◌||◌, ◌==◌, List, [], ◌∷◌, length, take, nat_lt, nat_le, slice_get, Some, is_some, is_none}
use Rattle.std.specs.Option.{option_map_or}
use Rattle.std.specs.List.{list_any, list_all}
use Rattle.std.specs.Str.{bytes_eq}
use Rattle.mm_base.specs.declared.symbols.Sym.{Sym}
use Rattle.mm_base.specs.Limits.{most_formula_tokens}
use Rattle.mm_model.specs.Faults.{Fault}
use Rattle.mm_model.specs.Labels.{is_label_byte}
use Rattle.mm_model.specs.Names.{Name}
use Rattle.mm_model.specs.Book.{Database, label_of, symbol_of}
use Rattle.sheet_text.specs.declared.sheet.Sheet.{Sheet}
use Rattle.sheet_text.specs.declared.sheet.SheetStep.{SheetStep}
use Rattle.sheet_text.specs.declared.sheet.PairLine.{PairLine}
use Rattle.sheet_text.specs.Layout.{steps}
use Rattle.solve_model.specs.Firsts.{IsFirstFault}
use Rattle.solve_model.specs.Formulas.{is_known, HasNoTree, HasTwoTrees}
use Rattle.solve_model.specs.Binding.{is_new, place_of, given_hyps, hyps_before, hyp_differs, qed_differs, is_qed, has_label}

-- 60: a new theorem whose LOC_AFTER is no label of the database
abbrev pub loc_unknown : Database → Sheet → Bool
loc_unknown db s = is_new db s && option_map_or (λ l. is_none (label_of db l)) s.loc false

-- 61: the theorem's name is the label of a `$f`, `$e` or `$a`
abbrev pub theorem_taken : Database → Sheet → Bool
theorem_taken db s = is_new db s && is_some (label_of db s.theorem)

-- 73: the theorem's name has a byte that no label has
abbrev pub theorem_name : Sheet → Bool
theorem_name s = not (list_all is_label_byte s.theorem)

-- 62: an `h` step or `qed` is not as the theorem's frame, or the `$e` active at the place, say
abbrev pub hyps_differ : Database → Sheet → ℕ → SheetStep → Bool
hyps_differ db s i t = hyp_differs db s i t || qed_differs db s i t

-- 63: of a new theorem, an `h` step past the given `$e` whose label the database or the theorem has
abbrev pub hyp_label_taken : Database → Sheet → ℕ → SheetStep → Bool
hyp_label_taken db s i t =
    is_new db s && t.hyp && nat_le (length (given_hyps db s)) (hyps_before s i)
    && option_map_or (λ l. is_some (label_of db l) || bytes_eq l s.theorem) t.reference false

-- 64: an `h` step that lists places
abbrev pub hyp_with_hyps : SheetStep → Bool
hyp_with_hyps t = t.hyp && not (length t.places == 0)

abbrev pub is_blank : SheetStep → Bool
is_blank t = length t.formula == 0

abbrev pub begins_with_token : Name → List Name → Bool
begins_with_token w [] = false
begins_with_token w (t ∷ ts) = bytes_eq t w

-- 65: a formula, not blank, whose first token is not the provable typecode
abbrev pub not_provable : Database → SheetStep → Bool
not_provable db t = not (is_blank t) && not (begins_with_token db.provable t.formula)

-- 66: a token that is no active constant, no active variable with an active `$f`, and no work variable
abbrev pub unknown_symbol : Database → Sheet → SheetStep → Bool
unknown_symbol db s t = not (list_all (is_known db (place_of db s)) t.formula)

-- 69: an `h` step or `qed` without a formula
abbrev pub wants_formula : SheetStep → Bool
wants_formula t = (t.hyp || is_qed t) && is_blank t

-- 71: a formula of more than 4,096 tokens
abbrev pub formula_long : SheetStep → Bool
formula_long t = nat_lt most_formula_tokens (length t.formula)

-- 72: an `h` step's label that an earlier one has
abbrev pub hyp_label_twice : Sheet → ℕ → SheetStep → Bool
hyp_label_twice s i t = t.hyp && option_map_or (λ l. list_any (λ (u : SheetStep). u.hyp && has_label u.reference l) (take i (steps s))) t.reference false

-- a formula of which trees are asked: not blank, and without the faults 65, 66 and 71
abbrev pub asks_for_tree : Database → Sheet → SheetStep → Bool
asks_for_tree db s t = not (is_blank t) && not (not_provable db t) && not (unknown_symbol db s t) && not (formula_long t)

abbrev pub is_variable_at : Database → ℕ → Name → Bool
is_variable_at db place name = option_map_or (λ (v : Sym). list_any (λ (w : Sym). w.0 == v.0) (db.active_at place).variables) (symbol_of db name) false

-- 70: in `$d` a symbol that is no variable active at the place
abbrev pub not_variable : Database → Sheet → PairLine → Bool
not_variable db s p = not (list_all (is_variable_at db (place_of db s)) p.names)

-- the rules that stand at the header
abbrev pub header_rules : Database → List (ℕ × (Sheet → Bool))
header_rules db = (60, loc_unknown db) ∷ (61, theorem_taken db) ∷ (73, theorem_name) ∷ []

-- the rules that a step's words show; they see the step's number
abbrev pub step_rules : Database → Sheet → List (ℕ × (ℕ → SheetStep → Bool))
step_rules db s =
    (62, hyps_differ db s) ∷ (63, hyp_label_taken db s) ∷ (64, λ i t. hyp_with_hyps t) ∷ (65, λ i t. not_provable db t) ∷ (66, λ i t. unknown_symbol db s t)
    ∷ (69, λ i t. wants_formula t) ∷ (71, λ i t. formula_long t) ∷ (72, hyp_label_twice s) ∷ []

-- a fault stands at a line. Of a formula whose trees are asked for, 67: it has none; 68: it has two
pub data BindFaultAt (db : Database) (s : Sheet) : ℕ → ℕ → Type 0 where
  at_header : (k : ℕ) {code : ℕ} {rule : Sheet → Bool} → slice_get (header_rules db) k ≡ Some (code, rule) → rule s ≡ true → BindFaultAt db s s.line code
  at_step : (k i : ℕ) {code : ℕ} {rule : ℕ → SheetStep → Bool} {t : SheetStep} → slice_get (step_rules db s) k ≡ Some (code, rule) → slice_get (steps s) i ≡ Some t → rule i t ≡ true
      → BindFaultAt db s t.line code
  at_pairs : (i : ℕ) {p : PairLine} → slice_get s.pairs i ≡ Some p → not_variable db s p ≡ true → BindFaultAt db s p.line 70
  no_tree : (i : ℕ) {t : SheetStep} → slice_get (steps s) i ≡ Some t → asks_for_tree db s t ≡ true → HasNoTree db (place_of db s) t.formula → BindFaultAt db s t.line 67
  two_trees : (i : ℕ) {t : SheetStep} → slice_get (steps s) i ≡ Some t → asks_for_tree db s t ≡ true → HasTwoTrees db (place_of db s) t.formula → BindFaultAt db s t.line 68

-- the first of them, by line and then code
abbrev pub IsBindFault : Database → Sheet → Fault → Type 0
IsBindFault db s f = IsFirstFault (BindFaultAt db s) f
