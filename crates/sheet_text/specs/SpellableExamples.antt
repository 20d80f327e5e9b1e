-- Sheets that a text can spell, and parts that none can, computed.
use Rattle.std.specs.Prelude.{◌≡◌, ℕ, Bool, true, false, List, [], ◌∷◌, ◌++◌, Option, Some, None, codes, map, refl}
use Rattle.sheet_text.specs.declared.sheet.Given.{Given}
use Rattle.sheet_text.specs.declared.sheet.Given.TheVariants as given
use Rattle.sheet_text.specs.declared.sheet.SheetStep.{SheetStep}
use Rattle.sheet_text.specs.Spellable.{IsSpellable, is_token, is_step_spellable, is_comment_spellable, is_pair_spellable}
use Rattle.sheet_text.specs.ReadsExamples.{three_steps_sheet, syllogism_sheet}

pub three_steps_spellable : IsSpellable three_steps_sheet
three_steps_spellable = record { theorem = refl; loc = refl; each_step = refl; each_item = refl; names_differ = refl; qed_last = refl; qed_no_hyp = refl; each_pair = refl }

pub syllogism_spellable : IsSpellable syllogism_sheet
syllogism_spellable = record { theorem = refl; loc = refl; each_step = refl; each_item = refl; names_differ = refl; qed_last = refl; qed_no_hyp = refl; each_pair = refl }

pub some_tokens : map is_token (codes "ph" ∷ [] ∷ codes "a b" ∷ (codes "a" ++ 10 ∷ []) ∷ codes "$=" ∷ []) ≡ true ∷ false ∷ false ∷ false ∷ true ∷ []
some_tokens = refl

abbrev step : Bool → List ℕ → List Given → Option (List ℕ) → SheetStep
step hyp name places reference = record { line = 0; hyp = hyp; name = name; places = places; reference = reference; formula = [] }

-- step number 1: one that is fine; a name with `h` that is no hypothesis, and one that is; a later place; a hypothesis without a label; a reference that is no label
pub some_steps : map (is_step_spellable 1) (step false (codes "2") (given.Step 0 ∷ given.Gap ∷ []) None ∷ step false (codes "h2") [] None
    ∷ step true (codes "h2") [] (Some (codes "a"))
    ∷ step false (codes "2") (given.Step 1 ∷ []) None ∷ step true (codes "2") [] None ∷ step false (codes "2") [] (Some (codes "?")) ∷ [])
    ≡ true ∷ false ∷ true ∷ false ∷ false ∷ false ∷ []
some_steps = refl

pub some_comments : map is_comment_spellable ((codes "* a" ∷ codes "  b" ∷ []) ∷ [] ∷ (codes "a" ∷ []) ∷ (codes "* a" ∷ codes "b" ∷ []) ∷ (codes "* a " ∷ [])
    ∷ (codes "* a" ∷ [] ∷ []) ∷ [])
    ≡ true ∷ false ∷ false ∷ false ∷ false ∷ false ∷ []
some_comments = refl

pub some_pairs : map (λ names. is_pair_spellable (record { line = 0; names = names })) ((codes "x" ∷ codes "y" ∷ []) ∷ (codes "x" ∷ []) ∷ (codes "x" ∷ codes "x" ∷ [])
    ∷ (codes "x" ∷ codes "$." ∷ []) ∷ [])
    ≡ true ∷ false ∷ false ∷ false ∷ []
some_pairs = refl
