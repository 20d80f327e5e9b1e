-- The sheets that a text can spell, by their parts.
use Rattle.std.specs.Prelude.{◌≡◌, ℕ, suc, Bool, true, false, not, ◌&&◌, ◌||◌, ◌==◌, nat_lt, List, [], ◌∷◌, length, map, Some, None, codes}
use Rattle.std.specs.List.{list_all, last_or}
use Rattle.std.specs.Option.{option_map_or}
use Rattle.mm_model.specs.Labels.{is_label}
use Rattle.mm_model.specs.Names.{has_twice}
use Rattle.mm_model.specs.Words.{is_white}
use Rattle.sheet_text.specs.declared.sheet.Given.{Given}
use Rattle.sheet_text.specs.declared.sheet.Given.TheVariants as given
use Rattle.sheet_text.specs.declared.sheet.SheetStep.{SheetStep}
use Rattle.sheet_text.specs.declared.sheet.SheetItem.{SheetItem}
use Rattle.sheet_text.specs.declared.sheet.SheetItem.TheVariants as item
use Rattle.sheet_text.specs.declared.sheet.PairLine.{PairLine}
use Rattle.sheet_text.specs.declared.sheet.Sheet.{Sheet}
use Rattle.sheet_text.specs.Forms.{marked_name}
use Rattle.sheet_text.specs.Lines.{first_is_not_white}
use Rattle.sheet_text.specs.SheetStatements.{starts_with_star}
use Rattle.sheet_text.specs.TextFaults.{is_bad_distinct}
use Rattle.sheet_text.specs.Layout.{steps, step_names}

-- bytes without white space, at least one
abbrev pub is_token : List ℕ → Bool
is_token bytes = not (length bytes == 0) && list_all (λ b. not (is_white b)) bytes

-- the place is a `?`, or one of the first so many steps
abbrev pub is_place_below : ℕ → Given → Bool
is_place_below n given.Gap = true
is_place_below n (given.Step k) = nat_lt k n

-- Step number n: its name is a label, without a leading `h` where it is no hypothesis; its places are earlier steps;
-- its reference is a label, and a hypothesis has one; its formula has tokens.
abbrev pub is_step_spellable : ℕ → SheetStep → Bool
is_step_spellable n s =
    is_label s.name && (s.hyp || not (marked_name s.name).0) && list_all (is_place_below n) s.places
    && option_map_or is_label s.reference (not s.hyp) && list_all is_token s.formula

-- the steps from number n on
abbrev pub are_steps_spellable : ℕ → List SheetStep → Bool
are_steps_spellable n [] = true
are_steps_spellable n (s ∷ ss) = is_step_spellable n s && are_steps_spellable (suc n) ss

-- the last byte is there and is not white space
abbrev pub last_is_not_white : List ℕ → Bool
last_is_not_white bytes = option_map_or (λ b. not (is_white b)) (last_or None bytes) false

abbrev pub is_comment_line : List ℕ → Bool
is_comment_line bytes = last_is_not_white bytes && list_all (λ b. not (b == 10)) bytes

-- a first line that begins with `*`, and lines that begin with white space
abbrev pub is_comment_spellable : List (List ℕ) → Bool
is_comment_spellable [] = false
is_comment_spellable (l ∷ ls) = starts_with_star l && list_all is_comment_line (l ∷ ls) && list_all (λ m. not (first_is_not_white m)) ls

abbrev pub is_item_spellable : SheetItem → Bool
is_item_spellable (item.Comment lines) = is_comment_spellable lines
is_item_spellable (item.Step s) = true

abbrev pub is_pair_spellable : PairLine → Bool
is_pair_spellable p = list_all is_token p.names && not (is_bad_distinct p.names)

-- The sheet is one that a text can spell. Its last step, and no other, is named `qed`.
pub record IsSpellable (s : Sheet) : Type 0 where
  pub theorem : is_token s.theorem ≡ true
  pub loc : option_map_or is_label s.loc true ≡ true
  pub each_step : are_steps_spellable 0 (steps s) ≡ true
  pub each_item : list_all is_item_spellable s.items ≡ true
  pub names_differ : has_twice (step_names s) ≡ false
  pub qed_last : last_or None (step_names s) ≡ Some (codes "qed")
  pub qed_no_hyp : last_or None (map (λ (t : SheetStep). t.hyp) (steps s)) ≡ Some false
  pub each_pair : list_all is_pair_spellable s.pairs ≡ true
