-- Worksheets read by computation.
use Rattle.std.specs.Prelude.{ℕ, Bool, true, false, List, [], ◌∷◌, ◌++◌, Option, Some, None, codes, refl, flat_map}
use Rattle.sheet_text.specs.declared.sheet.Given.{Given}
use Rattle.sheet_text.specs.declared.sheet.Given.TheVariants as given
use Rattle.sheet_text.specs.declared.sheet.SheetItem.{SheetItem}
use Rattle.sheet_text.specs.declared.sheet.SheetItem.TheVariants as item
use Rattle.sheet_text.specs.declared.sheet.Sheet.{Sheet}
use Rattle.sheet_text.specs.Layout.{ended}
use Rattle.sheet_text.specs.Reads.{Reads, ReadsAs, unnumbered}

abbrev pub text : List (List ℕ) → List ℕ
text ls = flat_map ended ls

abbrev step : ℕ → Bool → List ℕ → List Given → Option (List ℕ) → List (List ℕ) → SheetItem
step line hyp name places reference formula = item.Step (record { line = line; hyp = hyp; name = name; places = places; reference = reference; formula = formula })

-- two hypotheses, and a step that rests on them
abbrev pub three_steps : List ℕ
three_steps = text (codes "$( <MM> <PROOF_ASST> THEOREM=r LOC_AFTER=?" ∷ codes "h1::r.1 |- ph" ∷ codes "h2::r.2 |- ( ph -> ps )" ∷ codes "qed:1,2:ax-mp |- ps" ∷ codes "$)" ∷ [])

abbrev pub three_steps_sheet : Sheet
three_steps_sheet = record {
  line = 1;
  theorem = codes "r";
  loc = None;
  items = step 2 true (codes "1") [] (Some (codes "r.1")) (codes "|-" ∷ codes "ph" ∷ [])
      ∷ step 3 true (codes "2") [] (Some (codes "r.2")) (codes "|-" ∷ codes "(" ∷ codes "ph" ∷ codes "->" ∷ codes "ps" ∷ codes ")" ∷ [])
      ∷ step 4 false (codes "qed") (given.Step 0 ∷ given.Step 1 ∷ []) (Some (codes "ax-mp")) (codes "|-" ∷ codes "ps" ∷ []) ∷ [];
  pairs = [];
}

pub three_steps_read : Reads three_steps three_steps_sheet
three_steps_read = record { sound = refl; says = refl }

-- A worksheet in the style of mmj2: blank lines, a comment, indented formulas, one over two lines, and a proof that is passed over
abbrev pub syllogism : List ℕ
syllogism = text (codes "$( <MM> <PROOF_ASST> THEOREM=syl  LOC_AFTER=?" ∷ [] ∷ codes "* An inference version of the transitive laws for implication." ∷ []
    ∷ codes "h1::syl.1           |- ( ph -> ps )" ∷ codes "h2::syl.2           |- ( ps -> ch )" ∷ codes "3:2:a1i            |- ( ph ->" ∷ codes "                       ( ps -> ch ) )"
    ∷ codes "4:3:a2i           |- ( ( ph -> ps ) -> ( ph -> ch ) )" ∷ codes "qed:1,4:ax-mp    |- ( ph -> ch )" ∷ [] ∷ codes "$=  wph wps wi" ∷ codes "    ax-mp $." ∷ [] ∷ codes "$)" ∷ [])

abbrev implies : List (List ℕ) → List (List ℕ) → List (List ℕ)
implies a b = codes "(" ∷ a ++ codes "->" ∷ b ++ codes ")" ∷ []

abbrev ph : List (List ℕ)
ph = codes "ph" ∷ []

abbrev ps : List (List ℕ)
ps = codes "ps" ∷ []

abbrev ch : List (List ℕ)
ch = codes "ch" ∷ []

abbrev pub syllogism_sheet : Sheet
syllogism_sheet = record {
  line = 1;
  theorem = codes "syl";
  loc = None;
  items = item.Comment (codes "* An inference version of the transitive laws for implication." ∷ [])
      ∷ step 5 true (codes "1") [] (Some (codes "syl.1")) (codes "|-" ∷ implies ph ps)
      ∷ step 6 true (codes "2") [] (Some (codes "syl.2")) (codes "|-" ∷ implies ps ch)
      ∷ step 7 false (codes "3") (given.Step 1 ∷ []) (Some (codes "a1i")) (codes "|-" ∷ implies ph (implies ps ch))
      ∷ step 9 false (codes "4") (given.Step 2 ∷ []) (Some (codes "a2i")) (codes "|-" ∷ implies (implies ph ps) (implies ph ch))
      ∷ step 10 false (codes "qed") (given.Step 0 ∷ given.Step 3 ∷ []) (Some (codes "ax-mp")) (codes "|-" ∷ implies ph ch) ∷ [];
  pairs = [];
}

pub syllogism_read : Reads syllogism syllogism_sheet
syllogism_read = record { sound = refl; says = refl }

-- `?` as a place, no reference, a blank formula, LOC_AFTER, a comment over two lines, and `$d` statements
abbrev open_text : List ℕ
open_text = text (codes "$( <MM> <PROOF_ASST> THEOREM=o LOC_AFTER=ax-1" ∷ codes "* one  " ∷ [] ∷ codes "   two" ∷ codes "$d x y $." ∷ codes "qed:?,?:" ∷ codes "$d ph x A" ∷ codes "$)" ∷ [])

pub open_read : Reads open_text (record {
  line = 1;
  theorem = codes "o";
  loc = Some (codes "ax-1");
  items = item.Comment (codes "* one" ∷ codes "   two" ∷ []) ∷ step 6 false (codes "qed") (given.Gap ∷ given.Gap ∷ []) None [] ∷ [];
  pairs = record { line = 5; names = codes "x" ∷ codes "y" ∷ [] } ∷ record { line = 7; names = codes "ph" ∷ codes "x" ∷ codes "A" ∷ [] } ∷ [];
})
open_read = record { sound = refl; says = refl }

-- the numbers of the lines of the sheet do not matter
pub three_steps_as : ReadsAs three_steps (unnumbered three_steps_sheet)
three_steps_as = record { read = three_steps_sheet; reads = three_steps_read; same = refl }

pub three_steps_itself : ReadsAs three_steps three_steps_sheet
three_steps_itself = record { read = three_steps_sheet; reads = three_steps_read; same = refl }
