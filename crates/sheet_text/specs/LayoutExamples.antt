-- Worksheets laid out, and what is laid out read again, by computation.
use Rattle.std.specs.Prelude.{◌≡◌, ℕ, false, List, [], ◌∷◌, Option, Some, None, codes, refl}
use Rattle.sheet_text.specs.declared.sheet.Given.TheVariants as given
use Rattle.sheet_text.specs.declared.sheet.SheetItem.TheVariants as item
use Rattle.sheet_text.specs.declared.sheet.Sheet.{Sheet}
use Rattle.sheet_text.specs.Layout.{layout}
use Rattle.sheet_text.specs.SheetStatements.{statements}
use Rattle.sheet_text.specs.TextFaults.{text_fault}
use Rattle.sheet_text.specs.Reads.{sheet_in, unnumbered}
use Rattle.sheet_text.specs.ReadsExamples.{text, three_steps, three_steps_sheet, syllogism_sheet}

-- a sheet that was laid out is laid out as itself
pub three_steps_again : layout three_steps_sheet None ≡ three_steps
three_steps_again = refl

abbrev proof : List ℕ
proof = codes "( wi a1i a2i ax-mp ) ABFACFDABCBCFAEGHI"

abbrev written : List ℕ
written = text (codes "$( <MM> <PROOF_ASST> THEOREM=syl LOC_AFTER=?" ∷ codes "* An inference version of the transitive laws for implication."
    ∷ codes "h1::syl.1 |- ( ph -> ps )" ∷ codes "h2::syl.2 |- ( ps -> ch )" ∷ codes "3:2:a1i |- ( ph -> ( ps -> ch ) )"
    ∷ codes "4:3:a2i |- ( ( ph -> ps ) -> ( ph -> ch ) )" ∷ codes "qed:1,4:ax-mp |- ( ph -> ch )" ∷ codes "$= ( wi a1i a2i ax-mp ) ABFACFDABCBCFAEGHI $."
    ∷ codes "$)" ∷ [])

pub syllogism_laid : layout syllogism_sheet (Some proof) ≡ written
syllogism_laid = refl

-- it has no fault and says the same, but for the numbers of lines
pub written_sound : text_fault written ≡ None
written_sound = refl

abbrev read_again : Option Sheet → Option Sheet
read_again None = None
read_again (Some s) = Some (unnumbered s)

pub written_says : read_again (sheet_in (statements written)) ≡ Some (unnumbered syllogism_sheet)
written_says = refl

-- a place `?`, a label behind LOC_AFTER, no reference, a blank formula, a comment over two lines, and pairs behind the proof
abbrev small : Sheet
small = record {
  line = 0;
  theorem = codes "o";
  loc = Some (codes "ax-1");
  items = item.Comment (codes "* one" ∷ codes "   two" ∷ [])
      ∷ item.Step (record { line = 0; hyp = false; name = codes "1"; places = []; reference = None; formula = [] })
      ∷ item.Step (record { line = 0; hyp = false; name = codes "qed"; places = given.Gap ∷ given.Step 0 ∷ []; reference = Some (codes "ax-mp"); formula = codes "|-" ∷ codes "ps" ∷ [] }) ∷ [];
  pairs = record { line = 0; names = codes "ph" ∷ codes "x" ∷ [] } ∷ [];
}

pub small_laid : layout small (Some (codes "? $. ?"))
    ≡ text (codes "$( <MM> <PROOF_ASST> THEOREM=o LOC_AFTER=ax-1" ∷ codes "* one" ∷ codes "   two" ∷ codes "1::" ∷ codes "qed:?,1:ax-mp |- ps"
    ∷ codes "$= ? $. ? $." ∷ codes "$d ph x" ∷ codes "$)" ∷ [])
small_laid = refl

-- whatever the proof's text is, as long as it has no LF
pub small_sound : text_fault (layout small (Some (codes "? $. ?"))) ≡ None
small_sound = refl

pub small_says : read_again (sheet_in (statements (layout small (Some (codes "? $. ?"))))) ≡ Some small
small_says = refl
