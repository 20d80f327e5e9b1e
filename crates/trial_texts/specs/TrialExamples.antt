-- The texts of the trial, computed.
use Rattle.std.specs.Prelude.{◌≡◌, ℕ, List, [], ◌∷◌, ◌++◌, flat_map, map, None, codes, refl}
use Rattle.std.specs.Fmt.{digits}
use Rattle.mm_model.specs.Statements.{database_fault}
use Rattle.sheet_text.specs.Layout.{ended, spaced}
use Rattle.sheet_text.specs.TextFaults.{text_fault}
use Rattle.trial_texts.specs.TrialTexts.{trial_database, trial_formula, trial_sheet}

pub database_sound : database_fault trial_database ≡ None
unfolding trial_database
database_sound = refl

pub formulas : map (λ k. spaced (trial_formula k)) (0 ∷ 1 ∷ 2 ∷ 3 ∷ 4 ∷ 5 ∷ 6 ∷ 7 ∷ 9 ∷ 10 ∷ [])
    ≡ codes "ph" ∷ codes "ps" ∷ codes "ch" ∷ codes "( ps -> ph )" ∷ codes "-. ch" ∷ codes "( ch -> ph )" ∷ codes "-. ( ps -> ph )" ∷ codes "( ( ps -> ph ) -> ph )"
    ∷ codes "( -. ch -> ph )" ∷ codes "-. ( ch -> ph )" ∷ []
unfolding trial_formula
formulas = refl

abbrev trial : List (List ℕ) → List ℕ
trial lines = flat_map ended (codes "$( <MM> <PROOF_ASST> THEOREM=trial LOC_AFTER=?" ∷ lines ++ codes "$)" ∷ [])

pub one_block : trial_sheet 1 ≡ trial (codes "a1::ax-1 |- ( ph -> ( ph -> ph ) )" ∷ codes "b1::ax-1" ∷ codes "c1::ax-2" ∷ codes "e1:b1,c1:ax-mp" ∷ codes "qed:a1,e1:ax-mp |- ( ph -> ph )" ∷ [])
unfolding digits trial_sheet trial_formula
one_block = refl

pub four_blocks : trial_sheet 4
    ≡ trial (codes "a1::ax-1 |- ( ph -> ( ph -> ph ) )" ∷ codes "b1::ax-1" ∷ codes "c1::ax-2" ∷ codes "e1:b1,c1:ax-mp" ∷ codes "f1:a1,e1:ax-mp |- ( ph -> ph )"
    ∷ codes "a2::ax-1 |- ( ps -> ( ps -> ps ) )" ∷ codes "b2::ax-1" ∷ codes "c2::ax-2" ∷ codes "e2:b2,c2:ax-mp" ∷ codes "f2:a2,e2:ax-mp |- ( ps -> ps )"
    ∷ codes "p2::ax-1" ∷ codes "q2:f1,p2:ax-mp" ∷ codes "r2:f2,q2:ax-mp |- ( ph -> ph )" ∷ codes "a3::ax-1 |- ( ch -> ( ch -> ch ) )" ∷ codes "b3::ax-1"
    ∷ codes "c3::ax-2" ∷ codes "e3:b3,c3:ax-mp" ∷ codes "f3:a3,e3:ax-mp |- ( ch -> ch )" ∷ codes "p3::ax-1" ∷ codes "q3:r2,p3:ax-mp"
    ∷ codes "r3:f3,q3:ax-mp |- ( ph -> ph )" ∷ codes "a4::ax-1 |- ( ( ps -> ph ) -> ( ( ps -> ph ) -> ( ps -> ph ) ) )" ∷ codes "b4::ax-1" ∷ codes "c4::ax-2" ∷ codes "e4:b4,c4:ax-mp"
    ∷ codes "f4:a4,e4:ax-mp |- ( ( ps -> ph ) -> ( ps -> ph ) )" ∷ codes "p4::ax-1" ∷ codes "q4:r3,p4:ax-mp" ∷ codes "qed:f4,q4:ax-mp |- ( ph -> ph )" ∷ [])
unfolding digits trial_sheet trial_formula
four_blocks = refl

pub sound : map (λ n. text_fault (trial_sheet n)) (1 ∷ 2 ∷ 5 ∷ []) ≡ None ∷ None ∷ None ∷ []
unfolding digits trial_sheet trial_formula
sound = refl
