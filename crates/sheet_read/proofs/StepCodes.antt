-- The code of a step by the tests of the reader.
use Rattle.std.proofs.Common.{◌≡◌, ℕ, true, false, List, Option, Some, None, option_map, refl, map}
use Rattle.mm_model.specs.Faults.{fault}
use Rattle.mm_model.specs.Names.{contains}
use Rattle.sheet_text.specs.declared.sheet.Given.{Given}
use Rattle.sheet_text.specs.Forms.{StepForm, entry_of}
use Rattle.sheet_read.specs.Reading.{step_code, is_unknown, is_misplaced, AreGiven}

pub step-misplaced : (names : List (List ℕ)) (f : StepForm) (n : ℕ) → contains names f.name ≡ false → is_unknown names f.entries ≡ false
    → is_misplaced names f ≡ true → option_map (λ code. fault n code) (step_code names (Some f)) ≡ Some (fault n 47)
step-misplaced names f n c u m = rw (c, u, m) refl

pub step-fits : (names : List (List ℕ)) (f : StepForm) → contains names f.name ≡ false → is_unknown names f.entries ≡ false → is_misplaced names f ≡ false → step_code names (Some f) ≡ None
step-fits names f c u m = rw (c, u, m) refl

pub known : (names entries : List (List ℕ)) (o : Option (List Given)) (places : List Given) → o ≡ Some places → AreGiven names entries o → is_unknown names (map entry_of entries) ≡ false
known names entries None places e h = absurd cc
known names entries (Some ps) places e h = h.0
