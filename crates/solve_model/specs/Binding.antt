-- The theorem of a worksheet, and its place in the database.
use Rattle.std.specs.Prelude.{ℕ, Bool, true, false, not, ◌&&◌, ◌||◌, List, [], ◌∷◌, ◌++◌, length, map, take, drop, find, nat_lt, if◌then◌else◌}
use Rattle.std.specs.Prelude.{filter, filter_map, flat_map, slice_get, unwrap_or, Option, Some, None, option_and_then, is_some, codes}
use Rattle.std.specs.List.{list_any, list_all}
use Rattle.std.specs.Option.{option_map_or}
use Rattle.std.specs.Str.{bytes_eq}
use Rattle.mm_base.specs.declared.symbols.Sym.{Sym}
use Rattle.mm_base.specs.declared.symbols.Pair.{Pair}
use Rattle.mm_model.specs.declared.frames.Hyp.{Hyp}
use Rattle.mm_model.specs.declared.frames.Frame.{Frame}
use Rattle.mm_model.specs.Names.{Name}
use Rattle.mm_model.specs.Productions.{essentials}
use Rattle.mm_model.specs.Book.{Database, label_of, symbol_of, symbol_name}
use Rattle.proof_model.specs.declared.theorem.Theorem.{Theorem}
use Rattle.proof_model.specs.Machine.{Formula, is_float_of}
use Rattle.sheet_text.specs.declared.sheet.Sheet.{Sheet}
use Rattle.sheet_text.specs.declared.sheet.SheetStep.{SheetStep}
use Rattle.sheet_text.specs.declared.sheet.PairLine.{PairLine}
use Rattle.sheet_text.specs.Layout.{steps}
use Rattle.solve_model.specs.PairSets.{ordered, pair_set}

-- ---- the place

-- the frame of the theorem's name, where that is a `$p` of the database
abbrev pub existing : Database → Sheet → Option Frame
existing db s = option_and_then (λ (f : Frame). if f.is_axiom then None else Some f) (option_and_then db.frame (label_of db s.theorem))

abbrev pub is_new : Database → Sheet → Bool
is_new db s = not (is_some (existing db s))

-- after LOC_AFTER, else the end
abbrev pub new_place : Database → Option Name → ℕ
new_place db loc = option_map_or db.place_after (option_and_then (label_of db) loc) db.statement_count

-- the position of an existing theorem, else the place after LOC_AFTER
abbrev pub place_of : Database → Sheet → ℕ
place_of db s = option_map_or (λ (f : Frame). f.at) (existing db s) (new_place db s.loc)

-- ---- the hypotheses of the theorem

-- the `$e` that the theorem has before its own
abbrev pub given_hyps : Database → Sheet → List Hyp
given_hyps db s = option_map_or (λ (f : Frame). essentials f.hyps) (existing db s) (essentials (db.active_at (place_of db s)).hyps)

abbrev pub names_of : Database → List Sym → List Name
names_of db formula = map (symbol_name db) formula

abbrev pub same_tokens : List Name → List Name → Bool
same_tokens [] [] = true
same_tokens [] (u ∷ us) = false
same_tokens (t ∷ ts) [] = false
same_tokens (t ∷ ts) (u ∷ us) = bytes_eq t u && same_tokens ts us

-- how many `h` steps stand before the step of a number
abbrev pub hyps_before : Sheet → ℕ → ℕ
hyps_before s i = length (filter (λ (t : SheetStep). t.hyp) (take i (steps s)))

abbrev pub has_label : Option Name → Name → Bool
has_label None name = false
has_label (Some l) name = bytes_eq l name

-- the step has the label and the tokens of the hypothesis
abbrev pub is_hyp : Database → Hyp → SheetStep → Bool
is_hyp db h t = has_label t.reference h.name && same_tokens t.formula (names_of db h.formula)

abbrev pub is_qed : SheetStep → Bool
is_qed t = bytes_eq t.name (codes "qed")

-- an `h` step that is not the given `$e` of its number; only an existing theorem needs one of each number
abbrev pub hyp_differs : Database → Sheet → ℕ → SheetStep → Bool
hyp_differs db s i t = t.hyp && option_map_or (λ h. not (is_hyp db h t)) (slice_get (given_hyps db s) (hyps_before s i)) (is_some (existing db s))

-- a `qed` with too few `h` steps before it, or of another formula than the existing theorem's
abbrev pub qed_differs : Database → Sheet → ℕ → SheetStep → Bool
qed_differs db s i t =
    is_qed t && (nat_lt (hyps_before s i) (length (given_hyps db s)) || option_map_or (λ (f : Frame). not (same_tokens t.formula (names_of db f.formula))) (existing db s) false)

-- ---- the theorem

-- the symbols of tokens; none where one is no symbol, as a work variable
abbrev pub symbols_from : Database → List Name → Formula
symbols_from db tokens = if list_all (λ t. is_some (symbol_of db t)) tokens then filter_map (symbol_of db) tokens else []

-- the pairs of any two of these variables
abbrev pub two_of : List Sym → List Pair
two_of [] = []
two_of (v ∷ vs) = map (ordered v) vs ++ two_of vs

-- the pairs of the `$d` statements
abbrev pub given_pairs : Database → Sheet → List Pair
given_pairs db s = pair_set (flat_map (λ (p : PairLine). two_of (filter_map (symbol_of db) p.names)) s.pairs)

abbrev pub new_hyp : Database → SheetStep → Hyp
new_hyp db t = record { name = unwrap_or t.reference []; floating = false; formula = symbols_from db t.formula }

-- the active hypotheses of the theorem: those at the place, and the `h` steps past its given `$e`
abbrev pub theorem_hyps : Database → Sheet → List Hyp
theorem_hyps db s = (db.active_at (place_of db s)).hyps ++ map (new_hyp db) (drop (length (given_hyps db s)) (filter (λ (t : SheetStep). t.hyp) (steps s)))

abbrev pub qed_formula : Database → Sheet → Formula
qed_formula db s = option_map_or (λ (t : SheetStep). symbols_from db t.formula) (find is_qed (steps s)) []

-- a hypothesis is mandatory where it is a `$e`, or the `$f` of a variable of one of these formulas
abbrev pub is_mandatory : List Formula → Hyp → Bool
is_mandatory formulas h = not h.floating || list_any (λ f. list_any (λ (v : Sym). is_float_of v h) f) formulas

-- the labels of the mandatory hypotheses of a formula, in order
abbrev pub mandatory_of : Formula → List Hyp → List Name
mandatory_of formula hyps = map (λ (h : Hyp). h.name) (filter (is_mandatory (formula ∷ map (λ (e : Hyp). e.formula) (essentials hyps))) hyps)

-- the theorem of a worksheet
abbrev pub theorem_of : Database → Sheet → Theorem
theorem_of db s =
    record { at = place_of db s; formula = qed_formula db s; hyps = theorem_hyps db s; mandatory = mandatory_of (qed_formula db s) (theorem_hyps db s); pairs = given_pairs db s }
