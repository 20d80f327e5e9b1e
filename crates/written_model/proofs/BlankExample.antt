-- A worksheet with blank formulas: `( ph -> ph )` from two copies of ax-1 and one of ax-2. One part of the formulas stays open, and is named `&W1`.
use Rattle.std.specs.Prelude.{◌≡◌, ◌==◌, ℕ, false, if◌then◌else◌, List, [], ◌∷◌, Some, None, codes, refl}
use Rattle.std.specs.List.{AllByRecursion}
use Rattle.std.specs.Fmt.{digits}
use Rattle.mm_base.specs.declared.tree.Tree.{Tree}
use Rattle.mm_base.specs.declared.tree.Tree.TheVariants.{Work, Fresh}
use Rattle.mm_model.specs.Names.{Name}
use Rattle.mm_model.proofs.TextLaws.{texts}
use Rattle.sheet_text.specs.declared.sheet.Given.{Given}
use Rattle.sheet_text.specs.declared.sheet.Given.TheVariants as given
use Rattle.sheet_text.specs.Reads.{unnumbered}
use Rattle.solve_model.specs.declared.bound.Bound.{Bound}
use Rattle.solve_model.specs.Solutions.{named, blank, copy, Valuation, Asked, Solves}
use Rattle.solve_model.specs.Verdicts.{asked, accepted}
use Rattle.solve_model.specs.BoundExamples.{step as bound_step, bound}
use Rattle.solve_model.specs.Example.{P, wff, ph, wi, ax_mp, ax_1, ax_2}
use Rattle.solve_model.specs.ExampleSheets.{sheet}
use Rattle.solve_model.proofs.TreeLaws.{replaces}
use Rattle.written_model.specs.Named.{Naming}
use Rattle.written_model.specs.Written.{Writing, after_naming, written_sheet}
use Rattle.written_model.specs.WrittenExample.{compressed}

abbrev first : Given
first = given.Step 0

abbrev second : Given
second = given.Step 1

abbrev third : Given
third = given.Step 2

abbrev fourth : Given
fourth = given.Step 3

abbrev lines : List Name
lines = codes "1::ax-1" ∷ codes "2::ax-1" ∷ codes "3::ax-2" ∷ codes "4:2,3:ax-mp" ∷ codes "qed:1,4:ax-mp |- ( ph -> ph )" ∷ []

abbrev identity : Tree
identity = wi ph ph

abbrev trees : Bound
trees = bound (bound_step (codes "1") [] (Some (codes "ax-1")) None ∷ bound_step (codes "2") [] (Some (codes "ax-1")) None ∷ bound_step (codes "3") [] (Some (codes "ax-2")) None
    ∷ bound_step (codes "4") (second ∷ third ∷ []) (Some (codes "ax-mp")) None ∷ bound_step (codes "qed") (first ∷ fourth ∷ []) (Some (codes "ax-mp")) (Some identity) ∷ [])

-- ---- the formulas, with one free part

abbrev free : Tree
free = Fresh wff 7

abbrev one : Tree
one = wi ph (wi free ph)

abbrev two : Tree
two = wi ph (wi (wi free ph) ph)

abbrev four : Tree
four = wi one identity

abbrev three : Tree
three = wi two four

-- the values of ph, ps and ch
abbrev among : Tree → Tree → Tree → ℕ → Tree
among a b c s = if s == 6 then a else (if s == 7 then b else c)

abbrev value : Valuation
value (named c n) = Work c n
value (blank i) = if i == 0 then one else (if i == 1 then two else (if i == 2 then three else four))
value (copy i s c) =
    if i == 0 then among ph free ph s.0 else (if i == 1 then among ph (wi free ph) ph s.0 else (if i == 2 then among ph (wi free ph) ph s.0
    else (if i == 3 then among two four ph s.0 else among one identity ph s.0)))

abbrev candidates : List Asked
candidates = asked 0 ax_1 [] ∷ asked 1 ax_1 [] ∷ asked 2 ax_2 [] ∷ asked 3 ax_mp (second ∷ third ∷ []) ∷ asked 4 ax_mp (first ∷ fourth ∷ []) ∷ []

pub solved : AllByRecursion (Solves trees value) candidates
solved = (
  record { conclusion = simp replaces refl; places = tt },
  (
    record { conclusion = simp replaces refl; places = tt },
    (
      record { conclusion = simp replaces refl; places = tt },
      (
        record { conclusion = simp replaces refl; places = (simp replaces refl, (simp replaces refl, tt)) },
        (record { conclusion = simp replaces refl; places = (simp replaces refl, (simp replaces refl, tt)) }, tt),
      ),
    ),
  ),
)

-- ---- what is written

abbrev names : Naming
names c n = if n == 7 then Some 1 else None

abbrev before : Writing
before = record {
  read = unnumbered (sheet (codes "id") lines);
  bound = trees;
  judgements =
      accepted (asked 0 ax_1 []) ∷ accepted (asked 1 ax_1 []) ∷ accepted (asked 2 ax_2 []) ∷ accepted (asked 3 ax_mp (second ∷ third ∷ []))
      ∷ accepted (asked 4 ax_mp (first ∷ fourth ∷ [])) ∷ [];
  value = value;
  names = names;
  items = [];
  finished = false;
}

abbrev writing : Writing
writing = record before { items = after_naming P compressed before }

abbrev written_lines : List Name
written_lines = codes "1::ax-1 |- ( ph -> ( &W1 -> ph ) )" ∷ codes "2::ax-1 |- ( ph -> ( ( &W1 -> ph ) -> ph ) )"
    ∷ codes "3::ax-2 |- ( ( ph -> ( ( &W1 -> ph ) -> ph ) ) -> ( ( ph -> ( &W1 -> ph ) ) -> ( ph -> ph ) ) )"
    ∷ codes "4:2,3:ax-mp |- ( ( ph -> ( &W1 -> ph ) ) -> ( ph -> ph ) )" ∷ codes "qed:1,4:ax-mp |- ( ph -> ph )" ∷ []

pub as_sheet : written_sheet P compressed writing ≡ unnumbered (sheet (codes "id") written_lines)
unfolding digits
as_sheet = simp (replaces, texts) refl
