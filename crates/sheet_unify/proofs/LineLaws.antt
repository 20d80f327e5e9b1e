-- Lines that are put together are those of the definitions.
use Rattle.std.specs.Prelude.{◌≡◌, ℕ, List, [], ◌∷◌, ◌++◌, map, decimal, Bool, true, false, Option, Some, None, refl, codes, option_map}
use Rattle.std.specs.Fmt.{digits}
use Rattle.std.proofs.Common.{sym, ap, ◌∙◌, append_assoc, append-nil}
use Rattle.std.proofs.lemmas.Grind.{flat_map-append}
use Rattle.fault_lines.specs.Refusals.{at_line, formula_too_long}
use Rattle.fault_lines.specs.FaultLines.{fault_name, refusal_line, sheet_faults}
use Rattle.mm_base.specs.declared.kinds.Kinds.{Kinds}
use Rattle.mm_base.specs.declared.symbols.Sym.{Sym}
use Rattle.mm_base.specs.declared.symbols.Pair.{Pair}
use Rattle.mm_database.specs.Books.{database_of}
use Rattle.mm_database.specs.Opened.{Opened, IsOpened}
use Rattle.mm_frames.specs.Contents.{Contents}
use Rattle.mm_model.specs.Book.{Database}
use Rattle.mm_model.specs.Faults.{fault}
use Rattle.mm_model.specs.Names.{Name}
use Rattle.sheet_bind.specs.declared.faults.BindCode.{BindCode}
use Rattle.sheet_bind.specs.declared.faults.BindCode.TheVariants as bind
use Rattle.sheet_bind.specs.Found.{number_of}
use Rattle.sheet_read.specs.declared.fault.SheetCode.{SheetCode}
use Rattle.sheet_read.specs.declared.fault.SheetCode.TheVariants as sheet
use Rattle.sheet_read.specs.Faults.{code_of}
use Rattle.sheet_text.specs.Layout.{spaced}
use Rattle.written_model.specs.declared.report.ReportLine.{ReportLine}
use Rattle.written_model.specs.declared.report.ReportVerdict.{ReportVerdict}
use Rattle.written_model.specs.declared.report.ReportVerdict.TheVariants as report
use Rattle.written_model.specs.Report.{clash_words, lack_words, last_line, report_line, report_lines, verdict_words, reference_words}
use Rattle.sheet_unify.specs.Answered.{refusal_of}
use Rattle.sheet_unify.specs.declared.faults.UnifyFault.{UnifyFault}
use Rattle.sheet_unify.specs.declared.faults.UnifyFault.TheVariants as faults
use Rattle.sheet_unify.specs.Lines.{sheet_words_of, bind_words_of, shows, behind, clash_in, lack_in, words_in, report_text, place_text, formula_text}

pub joined : (x : Name) (xs : List Name) → spaced (x ∷ xs) ≡ x ++ behind xs
joined x [] = sym (append-nil x)
joined x (y ∷ ys) = ap (λ t. x ++ (32 ∷ t)) (joined y ys)

clash_is : (db : Database) (o : Option Sym) → clash_words db o ≡ clash_in db.symbols o
clash_is db None = refl
clash_is db (Some v) = refl

lack_is : (db : Database) (o : Option Pair) → lack_words db o ≡ lack_in db.symbols o
lack_is db None = refl
lack_is db (Some p) = refl

-- a line of a report
pub report_is : (db : Database) (r : ReportLine) → report_line db r ≡ report_text db.symbols r
report_is db r =
    joined r.name (((verdict_words r.verdict ++ reference_words r.verdict r.reference) ++ clash_words db r.clash) ++ lack_words db r.lack)
    ∙ ap (λ xs. r.name ++ behind (((verdict_words r.verdict ++ reference_words r.verdict r.reference) ++ xs) ++ lack_words db r.lack)) (clash_is db r.clash)
    ∙ ap (λ xs. r.name ++ behind (((verdict_words r.verdict ++ reference_words r.verdict r.reference) ++ clash_in db.symbols r.clash) ++ xs)) (lack_is db r.lack)

pub reports_are : (db : Database) (rs : List ReportLine) → map (report_line db) rs ≡ map (report_text db.symbols) rs
reports_are db [] = refl
reports_are db (r ∷ rs) = ap (λ x. x ∷ map (report_line db) rs) (report_is db r) ∙ ap (λ xs. report_text db.symbols r ∷ xs) (reports_are db rs)

behind-append : (xs ys : List Name) → behind (xs ++ ys) ≡ behind xs ++ behind ys
behind-append xs ys = flat_map-append (λ (w : Name). 32 ∷ w) xs ys

-- ---- references

not_both : (b : Bool) → b ≡ true → b ≡ false → ⊥
not_both b e h = let impossible : true ≡ false = sym e ∙ h in cc

pub hidden : (v : ReportVerdict) (o : Option Name) (b : Bool) (xs : List ℕ) → b ≡ shows v → b ≡ false → xs ≡ xs ++ behind (reference_words v o)
hidden report.Hyp o b xs e h = sym (append-nil xs)
hidden report.NoRef o b xs e h = sym (append-nil xs)
hidden report.Fits o b xs e h = absurd (not_both b e h)
hidden report.Found o b xs e h = absurd (not_both b e h)
hidden report.NoFit o b xs e h = absurd (not_both b e h)
hidden report.UnknownRef o b xs e h = absurd (not_both b e h)
hidden report.NotUsable o b xs e h = absurd (not_both b e h)
hidden report.TooManyHyps o b xs e h = absurd (not_both b e h)

one_behind : (r : Name) (xs : List ℕ) → xs ++ 32 ∷ r ≡ xs ++ behind (r ∷ [])
one_behind r xs = ap (λ t. xs ++ 32 ∷ t) (sym (append-nil r))

pub shown_some : (v : ReportVerdict) (r : Name) (b : Bool) (xs : List ℕ) → b ≡ shows v → b ≡ true → xs ++ 32 ∷ r ≡ xs ++ behind (reference_words v (Some r))
shown_some report.Hyp r b xs e h = absurd (not_both b h e)
shown_some report.NoRef r b xs e h = absurd (not_both b h e)
shown_some report.Fits r b xs e h = one_behind r xs
shown_some report.Found r b xs e h = one_behind r xs
shown_some report.NoFit r b xs e h = one_behind r xs
shown_some report.UnknownRef r b xs e h = one_behind r xs
shown_some report.NotUsable r b xs e h = one_behind r xs
shown_some report.TooManyHyps r b xs e h = one_behind r xs

-- all lines
pub lines_are : (kinds : Kinds) (text : List ℕ) (d : Opened) (rs : List ReportLine) (finished : Bool) (lines : List (List ℕ)) → IsOpened kinds text d
    → lines ≡ map (report_text d.contents.symbols) rs ++ last_line finished ∷ [] → lines ≡ report_lines (database_of kinds text d.rows d.parsed) rs finished
lines_are kinds text d rs finished lines opened e =
    e ∙ ap (λ (c : Contents). map (report_text c.symbols) rs ++ last_line finished ∷ []) opened.contents
    ∙ ap (λ xs. xs ++ last_line finished ∷ []) (sym (reports_are (database_of kinds text d.rows d.parsed) rs))

-- five parts, each put in behind the others
pub parts_are : (symbols : List Name) (r : ReportLine) (a b c d e : List ℕ) → a ≡ r.name → b ≡ a ++ behind (verdict_words r.verdict) → c ≡ b ++ behind (reference_words r.verdict r.reference)
    → d ≡ c ++ behind (clash_in symbols r.clash) → e ≡ d ++ behind (lack_in symbols r.lack) → e ≡ report_text symbols r
parts_are symbols r a b c d e g h i j k = k ∙ ap (λ x. x ++ L) (j ∙ ap (λ x. x ++ C) (i ∙ ap (λ x. x ++ R) (h ∙ ap (λ x. x ++ V) g))) ∙ sym whole
  where
    V : List ℕ
    V = behind (verdict_words r.verdict)

    R : List ℕ
    R = behind (reference_words r.verdict r.reference)

    C : List ℕ
    C = behind (clash_in symbols r.clash)

    L : List ℕ
    L = behind (lack_in symbols r.lack)

    split : behind (words_in symbols r) ≡ ((V ++ R) ++ C) ++ L
    split = behind-append ((verdict_words r.verdict ++ reference_words r.verdict r.reference) ++ clash_in symbols r.clash) (lack_in symbols r.lack)
        ∙ ap (λ x. x ++ L) (behind-append (verdict_words r.verdict ++ reference_words r.verdict r.reference) (clash_in symbols r.clash)
        ∙ ap (λ x. x ++ C) (behind-append (verdict_words r.verdict) (reference_words r.verdict r.reference)))

    whole : report_text symbols r ≡ (((r.name ++ V) ++ R) ++ C) ++ L
    whole =
        ap (λ x. r.name ++ x) split ∙ sym (append_assoc r.name ((V ++ R) ++ C) L ∙ ap (λ x. r.name ++ x) refl)
        ∙ ap (λ x. x ++ L) (sym (append_assoc r.name (V ++ R) C)) ∙ ap (λ x. (x ++ C) ++ L) (sym (append_assoc r.name V R))

-- ---- faults

pub place_is : (code place : ℕ) (words : List ℕ) → 32 ∷ words ≡ behind (decimal code ∷ fault_name sheet_faults code ∷ []) → refusal_line (at_line (fault place code)) ≡ place_text words place
place_is code place words e = at (decimal code) (fault_name sheet_faults code) (decimal place) e
  where
    at : (c n p : List ℕ) → 32 ∷ words ≡ behind (c ∷ n ∷ [])
        → spaced (codes "sheet" ∷ codes "error" ∷ c ∷ n ∷ codes "at" ∷ codes "line" ∷ p ∷ [])
        ≡ ((codes "sheet error" ++ 32 ∷ words) ++ codes " at line") ++ 32 ∷ p
    at c n p e = ap (λ x. codes "sheet error" ++ x) (lines c n p) ∙ ap (λ x. ((codes "sheet error" ++ x) ++ codes " at line") ++ 32 ∷ p) (sym e)
      where
        lines : (c n p : List ℕ) → 32 ∷ (c ++ 32 ∷ (n ++ (codes " at line " ++ p))) ≡ (behind (c ∷ n ∷ []) ++ codes " at line") ++ 32 ∷ p
        lines c n p =
            sym (append_assoc (behind (c ∷ n ∷ [])) (codes " at line") (32 ∷ p) ∙ append_assoc (32 ∷ c) ((32 ∷ n) ++ []) (codes " at line " ++ p)
            ∙ ap (λ t. (32 ∷ c) ++ t) (append_assoc (32 ∷ n) [] (codes " at line " ++ p)))

pub formula_is : (name : Name) (n : ℕ) → refusal_line (formula_too_long name n) ≡ formula_text name n
formula_is name n = at name (decimal n)
  where
    at : (a b : List ℕ) → codes "sheet error 75 FormulaTooLong step " ++ (a ++ (codes " tokens " ++ b)) ≡ ((codes "sheet error 75 FormulaTooLong step" ++ 32 ∷ a) ++ codes " tokens") ++ 32 ∷ b
    at a b = sym (append_assoc (codes "sheet error 75 FormulaTooLong step " ++ a) (codes " tokens") (32 ∷ b) ∙ append_assoc (codes "sheet error 75 FormulaTooLong step ") a (codes " tokens " ++ b))

sheet_words_are : (code : SheetCode) → 32 ∷ sheet_words_of code ≡ behind (decimal (code_of code) ∷ fault_name sheet_faults (code_of code) ∷ [])
unfolding digits
sheet_words_are sheet.NoHeader = refl
sheet_words_are sheet.BadHeader = refl
sheet_words_are sheet.NoFooter = refl
sheet_words_are sheet.TextAfterFooter = refl
sheet_words_are sheet.BadStep = refl
sheet_words_are sheet.NameTwice = refl
sheet_words_are sheet.HypUnknown = refl
sheet_words_are sheet.QedPlace = refl
sheet_words_are sheet.ProofUnended = refl
sheet_words_are sheet.BadDistinct = refl

bind_words_are : (code : BindCode) → 32 ∷ bind_words_of code ≡ behind (decimal (number_of code) ∷ fault_name sheet_faults (number_of code) ∷ [])
unfolding digits
bind_words_are bind.LocUnknown = refl
bind_words_are bind.TheoremTaken = refl
bind_words_are bind.HypsDiffer = refl
bind_words_are bind.HypLabelTaken = refl
bind_words_are bind.HypWithHyps = refl
bind_words_are bind.NotProvable = refl
bind_words_are bind.UnknownSymbol = refl
bind_words_are bind.NoTree = refl
bind_words_are bind.TwoTrees = refl
bind_words_are bind.Blank = refl
bind_words_are bind.NotVariable = refl
bind_words_are bind.FormulaLong = refl
bind_words_are bind.HypLabelTwice = refl
bind_words_are bind.TheoremName = refl

pub sheet_line_is : (f : UnifyFault) (code : SheetCode) (place : ℕ) (words line : List ℕ) → f ≡ faults.Sheet code place → words ≡ sheet_words_of code → line ≡ place_text words place
    → option_map refusal_line (refusal_of f) ≡ Some line
sheet_line_is f code place words line h e g =
    ap (λ x. option_map refusal_line (refusal_of x)) h ∙ ap Some (place_is (code_of code) place words (ap (λ w. 32 ∷ w) e ∙ sheet_words_are code) ∙ sym g)

pub bind_line_is : (f : UnifyFault) (code : BindCode) (place : ℕ) (words line : List ℕ) → f ≡ faults.Bind code place → words ≡ bind_words_of code → line ≡ place_text words place
    → option_map refusal_line (refusal_of f) ≡ Some line
bind_line_is f code place words line h e g =
    ap (λ x. option_map refusal_line (refusal_of x)) h ∙ ap Some (place_is (number_of code) place words (ap (λ w. 32 ∷ w) e ∙ bind_words_are code) ∙ sym g)

too_big_is : (line : List ℕ) → line ≡ place_text (codes "50 TooBig") 1 → refusal_line (at_line (fault 1 50)) ≡ line
unfolding digits
too_big_is line g = sym g

pub big_line_is : (f : UnifyFault) (line : List ℕ) → f ≡ faults.TooBig → line ≡ place_text (codes "50 TooBig") 1 → option_map refusal_line (refusal_of f) ≡ Some line
big_line_is f line h g = ap (λ x. option_map refusal_line (refusal_of x)) h ∙ ap Some (too_big_is line g)
