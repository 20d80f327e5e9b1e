-- A text reads as one sheet at most, so a layout reads as its sheet alone.
use Rattle.std.proofs.Common.{◌≡◌, ◌≤◌, ℕ, false, ltb, List, length, Some, sym, ap, ◌∙◌, arith}
use Rattle.std.proofs.lemmas.Bool.Decides.{nat_tests}
use Rattle.mm_base.specs.Limits.{most_sheet_bytes}
use Rattle.mm_model.specs.Faults.{fault}
use Rattle.sheet_text.specs.declared.sheet.Sheet.{Sheet}
use Rattle.sheet_text.specs.Layout.{layout}
use Rattle.sheet_text.specs.Reads.{ReadsAs, unnumbered}
use Rattle.sheet_text.specs.TextFaults.{text_fault, line_fault}
use Rattle.sheet_laws.specs.ReadAgain.{ReadsOnlyAs, LaidOutReadsOnlyAs, ReadsAsOne}
use Rattle.sheet_laws.proofs.Tests.{cond_else}
use Rattle.sheet_laws.proofs.ReadBackLaws.{laid_out_reads_back}

pub reads_as_one : ReadsAsOne
reads_as_one text s t r q = let e : Some s ≡ Some t = sym r.says ∙ q.says in cc

short : (text : List ℕ) → length text ≤ most_sheet_bytes → text_fault text ≡ line_fault text
short text h =
    let e : ltb most_sheet_bytes (length text) ≡ false = short_test most_sheet_bytes (length text) h in
    cond_else (ltb most_sheet_bytes (length text)) (Some (fault 1 50)) (line_fault text) e
  where
    short_test : (m n : ℕ) → n ≤ m → ltb m n ≡ false
    short_test m n h = grind (arith, nat_tests, h)

only_as : (text : List ℕ) (s : Sheet) → length text ≤ most_sheet_bytes → ReadsAs text s → ReadsOnlyAs text s
only_as text s h r = (short text h ∙ r.reads.sound, λ read q. ap unnumbered (reads_as_one text read r.read q r.reads) ∙ r.same)

pub laid_out_reads_only_as : LaidOutReadsOnlyAs
laid_out_reads_only_as s proof h o l = only_as (layout s proof) s l (laid_out_reads_back s proof h o)
