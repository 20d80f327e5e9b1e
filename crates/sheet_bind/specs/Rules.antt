-- The rules of the header, the steps and the `$d` statements, by what is kept of the theorem's place. This is part of the proof, and not of the claim.
use Rattle.std.specs.Prelude.{ℕ, ◌+◌, Bool, false, not, ◌&&◌, ◌||◌, List, [], ◌∷◌, ◌++◌, length, nat_lt, nat_le, slice_get, if◌then◌else◌, Option, Some, None, is_some, is_none}
use Rattle.std.specs.List.{list_all}
use Rattle.std.specs.Option.{option_map_or}
use Rattle.std.specs.Str.{bytes_eq}
use Rattle.mm_model.specs.declared.frames.Hyp.{Hyp}
use Rattle.mm_model.specs.Names.{Name, contains, label_named}
use Rattle.mm_frames.specs.Contents.{Contents}
use Rattle.sheet_text.specs.declared.sheet.Sheet.{Sheet}
use Rattle.sheet_text.specs.declared.sheet.SheetStep.{SheetStep}
use Rattle.sheet_text.specs.declared.sheet.PairLine.{PairLine}
use Rattle.solve_model.specs.Binding.{same_tokens, has_label, is_qed}
use Rattle.solve_model.specs.BindFaults.{is_blank, begins_with_token, hyp_with_hyps, wants_formula, formula_long, theorem_name}
use Rattle.sheet_bind.specs.declared.hyps.HypSteps.{HypSteps}
use Rattle.sheet_bind.specs.declared.setting.Setting.{Setting}
use Rattle.sheet_bind.specs.Seen.{names_in, are_known, is_variable_named}

-- ---- the `h` steps so far

abbrev pub with_label : List Name → Option Name → List Name
with_label labels None = labels
with_label labels (Some l) = if contains labels l then labels else labels ++ l ∷ []

abbrev pub no_hyps : HypSteps
no_hyps = record { count = 0; labels = [] }

-- one more step
abbrev pub noted : HypSteps → SheetStep → HypSteps
noted hyps t = if t.hyp then record { count = hyps.count + 1; labels = with_label hyps.labels t.reference } else hyps

-- ---- the rules

abbrev pub is_known_label : Contents → Name → Bool
is_known_label c name = is_some (label_named c.labels name)

abbrev pub is_hyp : List Name → Hyp → SheetStep → Bool
is_hyp symbols h t = has_label t.reference h.name && same_tokens t.formula (names_in symbols h.formula)

abbrev pub hyp_differs : Contents → Setting → ℕ → SheetStep → Bool
hyp_differs c x before t = t.hyp && option_map_or (λ h. not (is_hyp c.symbols h t)) (slice_get x.given before) (is_some x.conclusion)

abbrev pub qed_differs : Contents → Setting → ℕ → SheetStep → Bool
qed_differs c x before t =
    is_qed t && (nat_lt before (length x.given) || option_map_or (λ f. not (same_tokens t.formula (names_in c.symbols f))) x.conclusion false)

abbrev pub hyp_label_taken : Contents → Name → Setting → ℕ → SheetStep → Bool
hyp_label_taken c theorem x before t =
    is_none x.conclusion && t.hyp && nat_le (length x.given) before && option_map_or (λ l. is_known_label c l || bytes_eq l theorem) t.reference false

abbrev pub not_provable : Name → SheetStep → Bool
not_provable provable t = not (is_blank t) && not (begins_with_token provable t.formula)

abbrev pub hyp_label_twice : HypSteps → SheetStep → Bool
hyp_label_twice hyps t = t.hyp && option_map_or (contains hyps.labels) t.reference false

-- the tests that a step's words show, where this says whether its tokens are known
abbrev pub word_tests : Contents → Name → Name → Setting → HypSteps → Bool → SheetStep → List (ℕ × Bool)
word_tests c provable theorem x hyps known t =
    (62, hyp_differs c x hyps.count t || qed_differs c x hyps.count t) ∷ (63, hyp_label_taken c theorem x hyps.count t) ∷ (64, hyp_with_hyps t) ∷ (65, not_provable provable t)
    ∷ (66, not known) ∷ (69, wants_formula t) ∷ (71, formula_long t) ∷ (72, hyp_label_twice hyps t) ∷ []

abbrev pub step_tests : Contents → Name → Name → Setting → HypSteps → SheetStep → List (ℕ × Bool)
step_tests c provable theorem x hyps t = word_tests c provable theorem x hyps (are_known c x t.formula) t

-- trees of the formula are asked for
abbrev pub asks : Name → Bool → SheetStep → Bool
asks provable known t = not (is_blank t) && not (not_provable provable t) && known && not (formula_long t)

abbrev pub loc_unknown : Contents → Option Name → Bool
loc_unknown c loc = option_map_or (λ l. not (is_known_label c l)) loc false

abbrev pub header_tests : Contents → Setting → Sheet → List (ℕ × Bool)
header_tests c x s = (60, is_none x.conclusion && loc_unknown c s.loc) ∷ (61, is_none x.conclusion && is_known_label c s.theorem) ∷ (73, theorem_name s) ∷ []

-- in `$d` a symbol that is no variable active at the place
abbrev pub not_variable : Contents → Setting → PairLine → Bool
not_variable c x p = not (list_all (is_variable_named c x) p.names)
