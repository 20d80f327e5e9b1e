-- The faults of worksheets against small databases, computed: the lines and codes of the rules that hold.
use Rattle.std.specs.Prelude.{◌≡◌, ℕ, true, false, List, [], ◌∷◌, ◌++◌, map, length, zip, if◌then◌else◌, filter_map, flat_map, Some, None, codes, refl}
use Rattle.std.specs.List.{range_with_len, repeat}
use Rattle.std.specs.Fmt.{digits}
use Rattle.mm_model.specs.Book.{Database}
use Rattle.sheet_text.specs.declared.sheet.Sheet.{Sheet}
use Rattle.sheet_text.specs.declared.sheet.SheetStep.{SheetStep}
use Rattle.sheet_text.specs.declared.sheet.PairLine.{PairLine}
use Rattle.sheet_text.specs.Layout.{steps}
use Rattle.solve_model.specs.BindFaults.{header_rules, step_rules, not_variable, formula_long}
use Rattle.solve_model.specs.Example.{P, V, E, Q}
use Rattle.solve_model.specs.ExampleSheets.{sheet, sheet_after}

abbrev header_faults : Database → Sheet → List (ℕ × ℕ)
header_faults db s = filter_map (λ r. if r.1 s then Some (s.line, r.0) else None) (header_rules db)

abbrev faults_of_step : Database → Sheet → ℕ → SheetStep → List (ℕ × ℕ)
faults_of_step db s i t = filter_map (λ r. if r.1 i t then Some (t.line, r.0) else None) (step_rules db s)

abbrev step_faults : Database → Sheet → List (ℕ × ℕ)
step_faults db s = flat_map (λ p. faults_of_step db s p.0 p.1) (zip (range_with_len 0 (length (steps s))) (steps s))

abbrev pair_faults : Database → Sheet → List (ℕ × ℕ)
pair_faults db s = filter_map (λ (p : PairLine). if not_variable db s p then Some (p.line, 70) else None) s.pairs

-- the faults that tests show
abbrev faults : Database → Sheet → List (ℕ × ℕ)
faults db s = header_faults db s ++ step_faults db s ++ pair_faults db s

abbrev qed : List ℕ
qed = codes "qed:: |- ps"

pub none : faults P (sheet (codes "r") (codes "h1::r.1 |- ph" ∷ codes "h2::r.2 |- ( ph -> ps )" ∷ codes "qed:1,2:ax-mp |- ps" ∷ codes "$d ph ps" ∷ [])) ≡ []
none = refl

-- 60: LOC_AFTER is no label
pub loc_unknown : faults P (sheet_after (codes "r") (codes "none") (qed ∷ [])) ≡ (1, 60) ∷ []
loc_unknown = refl

pub loc_known : faults P (sheet_after (codes "r") (codes "min") (qed ∷ [])) ≡ []
loc_known = refl

-- for a theorem of the database it is not looked at
pub loc_passed_over : faults V (sheet_after (codes "mpi") (codes "none") (codes "h1::mpi.1 |- ph" ∷ codes "h2::mpi.2 |- ( ph -> ps )" ∷ qed ∷ [])) ≡ []
loc_passed_over = refl

-- 61: the name is the label of an `$a`, and of a `$f`
pub theorem_taken : faults P (sheet (codes "ax-1") (qed ∷ [])) ≡ (1, 61) ∷ []
theorem_taken = refl

pub theorem_taken_by_float : faults P (sheet (codes "wph") (qed ∷ [])) ≡ (1, 61) ∷ []
theorem_taken_by_float = refl

-- 62: of a theorem of the database, another label, other tokens, one hypothesis more, another formula of `qed`, one hypothesis fewer
pub label_differs : faults V (sheet (codes "mpi") (codes "h1::x |- ph" ∷ codes "h2::mpi.2 |- ( ph -> ps )" ∷ qed ∷ [])) ≡ (2, 62) ∷ []
label_differs = refl

pub tokens_differ : faults V (sheet (codes "mpi") (codes "h1::mpi.1 |- ph" ∷ codes "h2::mpi.2 |- ( ph -> ph )" ∷ qed ∷ [])) ≡ (3, 62) ∷ []
tokens_differ = refl

pub one_more : faults V (sheet (codes "mpi") (codes "h1::mpi.1 |- ph" ∷ codes "h2::mpi.2 |- ( ph -> ps )" ∷ codes "h3::x |- ph" ∷ qed ∷ [])) ≡ (4, 62) ∷ []
one_more = refl

pub qed_differs : faults V (sheet (codes "mpi") (codes "h1::mpi.1 |- ph" ∷ codes "h2::mpi.2 |- ( ph -> ps )" ∷ codes "qed:: |- ph" ∷ [])) ≡ (4, 62) ∷ []
qed_differs = refl

pub one_fewer : faults V (sheet (codes "mpi") (codes "h1::mpi.1 |- ph" ∷ qed ∷ [])) ≡ (3, 62) ∷ []
one_fewer = refl

-- 62: of a new theorem, the hypothesis is not the active `$e`; there is no hypothesis for it; further hypotheses are free
pub active_differs : faults E (sheet (codes "r") (codes "h1::out |- ps" ∷ qed ∷ [])) ≡ (2, 62) ∷ []
active_differs = refl

pub active_missing : faults E (sheet (codes "r") (qed ∷ [])) ≡ (2, 62) ∷ []
active_missing = refl

pub active_given : faults E (sheet (codes "r") (codes "h1::out |- ph" ∷ codes "h2::r.2 |- ps" ∷ qed ∷ [])) ≡ []
active_given = refl

-- 63: the label of a hypothesis is one of the database, or the theorem's name
pub label_taken : faults P (sheet (codes "r") (codes "h1::ax-1 |- ph" ∷ codes "h2::r |- ph" ∷ qed ∷ [])) ≡ (2, 63) ∷ (3, 63) ∷ []
label_taken = refl

-- 64: a hypothesis lists places
pub hyp_with_hyps : faults P (sheet (codes "r") (codes "h1::r.1 |- ph" ∷ codes "h2:1:r.2 |- ph" ∷ qed ∷ [])) ≡ (3, 64) ∷ []
hyp_with_hyps = refl

-- 65: a formula that does not begin with the provable typecode
pub not_provable : faults P (sheet (codes "r") (codes "1:: wff ph" ∷ qed ∷ [])) ≡ (2, 65) ∷ []
not_provable = refl

-- 66: an unknown token, a work variable with a leading zero, a token that the database declares after the place
pub unknown_symbol : faults P (sheet (codes "r") (codes "1:: |- chi" ∷ codes "2:: |- &W01" ∷ codes "3:: |- &W1" ∷ qed ∷ [])) ≡ (2, 66) ∷ (3, 66) ∷ []
unfolding digits
unknown_symbol = refl

pub declared_later : faults Q (sheet_after (codes "r") (codes "ax-1") (codes "1:: |- A = A" ∷ qed ∷ [])) ≡ (2, 66) ∷ []
declared_later = refl

-- 69: a hypothesis and `qed` without a formula; another step may have none
pub blank : faults P (sheet (codes "r") (codes "h1::r.1" ∷ codes "2::ax-1" ∷ codes "qed::" ∷ [])) ≡ (2, 69) ∷ (4, 69) ∷ []
blank = refl

-- 70: a `$d` with a constant, and with a variable that is not active at the place
pub no_variable : faults Q (sheet_after (codes "r") (codes "ax-1") (qed ∷ codes "$d ph ->" ∷ codes "$d ph x" ∷ codes "$d ph ps" ∷ [])) ≡ (3, 70) ∷ (4, 70) ∷ []
no_variable = refl

-- 71: a formula of 4,097 tokens
abbrev step_of : ℕ → SheetStep
step_of n = record { line = 2; hyp = false; name = codes "1"; places = []; reference = None; formula = repeat n (codes "-." ∷ []) }

pub long : map (λ n. formula_long (step_of n)) (4096 ∷ 4097 ∷ []) ≡ false ∷ true ∷ []
long = refl

-- 72: two hypotheses with one label
pub hyp_label_twice : faults P (sheet (codes "r") (codes "h1::r.1 |- ph" ∷ codes "h2::r.1 |- ps" ∷ qed ∷ [])) ≡ (3, 72) ∷ []
hyp_label_twice = refl

-- 73: a theorem's name with a `!`
pub theorem_name : faults P (sheet (codes "r!") (qed ∷ [])) ≡ (1, 73) ∷ []
theorem_name = refl
