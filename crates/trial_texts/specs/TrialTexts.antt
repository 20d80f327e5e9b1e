-- The texts of the trial of the program by itself: a database, and a worksheet of any number of blocks.
use Rattle.std.specs.Prelude.{ℕ, zero, suc, ◌-◌, ◌/◌, ◌%◌, ◌==◌, List, [], ◌∷◌, ◌++◌, flat_map, if◌then◌else◌, decimal, codes}
use Rattle.std.specs.List.{join_with_byte, range_with_len}
use Rattle.mm_model.specs.Names.{Name}
use Rattle.sheet_text.specs.Layout.{ended, spaced}

-- ---- the database: implication, negation and modus ponens

abbrev pub database_lines : List (List ℕ)
database_lines =
    codes "$c ( ) -> -. wff |- $." ∷ codes "$v ph ps ch $." ∷ codes "wph $f wff ph $." ∷ codes "wps $f wff ps $." ∷ codes "wch $f wff ch $."
    ∷ codes "wn $a wff -. ph $." ∷ codes "wi $a wff ( ph -> ps ) $."
    ∷ codes "${" ∷ codes "  min $e |- ph $." ∷ codes "  maj $e |- ( ph -> ps ) $." ∷ codes "  ax-mp $a |- ps $." ∷ codes "$}"
    ∷ codes "ax-1 $a |- ( ph -> ( ps -> ph ) ) $." ∷ codes "ax-2 $a |- ( ( ph -> ( ps -> ch ) ) -> ( ( ph -> ps ) -> ( ph -> ch ) ) ) $." ∷ []

unfoldable pub trial_database : List ℕ
trial_database = flat_map ended database_lines

-- ---- formulas

abbrev pub implies : List Name → List Name → List Name
implies f g = codes "(" ∷ f ++ codes "->" ∷ g ++ codes ")" ∷ []

abbrev pub not_ : List Name → List Name
not_ f = codes "-." ∷ f

abbrev pub ph : List Name
ph = codes "ph" ∷ []

-- the formula of a number: three variables, then `( G -> ph )` and `-. G` in turn, G being that of the half; so many halvings at most
abbrev pub formula_within : ℕ → ℕ → List Name
formula_within zero k = []
formula_within (suc n) k =
    if k == 0 then ph
    else (if k == 1 then codes "ps" ∷ []
    else (if k == 2 then codes "ch" ∷ []
    else (if k % 2 == 1 then implies (formula_within n ((k - 1) / 2)) ph
    else not_ (formula_within n (k / 2)))))

unfoldable pub trial_formula : ℕ → List Name
trial_formula k = formula_within (suc k) k

-- ---- the worksheet

abbrev pub step_line : Name → List Name → Name → List Name → List ℕ
step_line name places reference formula = spaced ((name ++ 58 ∷ join_with_byte 44 places ++ 58 ∷ reference) ∷ formula)

abbrev pub provable : List Name → List Name
provable f = codes "|-" ∷ f

-- the name of a block's step
abbrev pub in_block : List ℕ → ℕ → Name
in_block letter k = letter ++ decimal k

-- the name of the last step of a block, and what it is in the last block of all
abbrev pub block_end : ℕ → Name
block_end k = in_block (if k == 1 then codes "f" else codes "r") k

abbrev pub end_name : ℕ → ℕ → Name
end_name count k = if k == count then codes "qed" else block_end k

-- `( F -> F )` from the two axioms, the last step with this name
abbrev pub identity_lines : ℕ → Name → List Name → List (List ℕ)
identity_lines k last f =
    step_line (in_block (codes "a") k) [] (codes "ax-1") (provable (implies f (implies f f)))
    ∷ step_line (in_block (codes "b") k) [] (codes "ax-1") []
    ∷ step_line (in_block (codes "c") k) [] (codes "ax-2") []
    ∷ step_line (in_block (codes "e") k) (in_block (codes "b") k ∷ in_block (codes "c") k ∷ []) (codes "ax-mp") []
    ∷ step_line last (in_block (codes "a") k ∷ in_block (codes "e") k ∷ []) (codes "ax-mp") (provable (implies f f)) ∷ []

-- `( ph -> ph )` from it and from the end of the block before
abbrev pub joining_lines : ℕ → Name → List (List ℕ)
joining_lines k last =
    step_line (in_block (codes "p") k) [] (codes "ax-1") []
    ∷ step_line (in_block (codes "q") k) (block_end (k - 1) ∷ in_block (codes "p") k ∷ []) (codes "ax-mp") []
    ∷ step_line last (in_block (codes "f") k ∷ in_block (codes "q") k ∷ []) (codes "ax-mp") (provable (implies ph ph)) ∷ []

-- block k of so many; the first has nothing before it to join
abbrev pub block_lines : ℕ → ℕ → List (List ℕ)
block_lines count k =
    if k == 1 then identity_lines k (end_name count k) (trial_formula (k - 1))
    else identity_lines k (in_block (codes "f") k) (trial_formula (k - 1)) ++ joining_lines k (end_name count k)

-- the worksheet of so many blocks
unfoldable pub trial_sheet : ℕ → List ℕ
trial_sheet count = flat_map ended (codes "$( <MM> <PROOF_ASST> THEOREM=trial LOC_AFTER=?" ∷ flat_map (block_lines count) (range_with_len 1 count) ++ codes "$)" ∷ [])
