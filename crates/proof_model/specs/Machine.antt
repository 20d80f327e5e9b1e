-- The stack machine that checks a proof (Metamath book, section 4.1.4).
use Rattle.std.specs.Prelude.{◌≡◌, ℕ, suc, Bool, false, true, not, ◌&&◌, ◌||◌, ◌==◌, List, [], ◌∷◌, ◌++◌, length, take, drop, reverse, slice_get}
use Rattle.std.specs.Prelude.{slice_index_or, nat_lt, Option, Some, None, Result, Ok, Err, if◌then◌else◌, map, flat_map, filter, find, option_map}
use Rattle.std.specs.Cmp.Lexicographic.{pointwise}
use Rattle.std.specs.List.{list_any, zip}
use Rattle.std.specs.Option.{option_map_or, option_or}
use Rattle.std.specs.Str.{bytes_eq}
use Rattle.mm_base.specs.declared.symbols.Sym.{Sym}
use Rattle.mm_base.specs.declared.symbols.Pair.{Pair}
use Rattle.mm_model.specs.declared.frames.Hyp.{Hyp}
use Rattle.mm_model.specs.declared.frames.Frame.{Frame}
use Rattle.proof_model.specs.declared.code.What.{What}
use Rattle.proof_model.specs.declared.code.What.TheVariants as what
use Rattle.proof_model.specs.declared.code.Step.{Step}
use Rattle.proof_model.specs.declared.code.Code.{Code}
use Rattle.proof_model.specs.declared.theorem.Theorem.{Theorem}

-- a formula: its symbols, the typecode first
abbrev pub Formula : Type 0
Formula = List Sym

-- the frame of an assertion, by its label
abbrev pub Frames : Type 0
Frames = List ℕ → Option Frame

-- a hypothesis of an assertion, with the entry of the stack that is taken for it
abbrev pub Entry : Type 0
Entry = Hyp × Formula

-- why a proof is refused, with what is told of it
pub data MachineFault : Type 0 where
  underflow type_differs not_earlier result_differs unknown : MachineFault
  hyp_differs : (expected found : List Sym) → MachineFault
  shared : (x y v : Sym) → MachineFault
  not_distinct : (v w : Sym) → MachineFault
  left_over : ℕ → MachineFault

-- its number in the table of faults
abbrev pub machine_code : MachineFault → ℕ
machine_code underflow = 1
machine_code type_differs = 2
machine_code (hyp_differs expected found) = 3
machine_code (shared x y v) = 4
machine_code (not_distinct v w) = 5
machine_code not_earlier = 6
machine_code (left_over n) = 7
machine_code result_differs = 8
machine_code unknown = 9

-- ---- substitution

-- two formulas are equal
abbrev pub same_formula : Formula → Formula → Bool
same_formula f g = pointwise (λ (a b : Sym). a.0 == b.0) f g

-- the hypothesis is the `$f` of this variable
abbrev pub is_float_of : Sym → Hyp → Bool
is_float_of s h = h.floating && list_any (λ (v : Sym). v.0 == s.0) (drop 1 h.formula)

-- what a variable stands for: the entry for its `$f`, without the typecode; a symbol that has no `$f` stands for itself
abbrev pub substitute : List Entry → Sym → Formula
substitute entries s = option_map_or (λ (e : Entry). drop 1 e.1) (find (λ (e : Entry). is_float_of s e.0) entries) (s ∷ [])

abbrev pub substituted : List Entry → Formula → Formula
substituted entries f = flat_map (substitute entries) f

-- ---- the faults of a step that names an assertion

-- 2: the entry for a `$f` has another typecode
abbrev pub differs_in_type : Entry → Bool
differs_in_type e = e.0.floating && not (same_formula (take 1 e.1) (take 1 e.0.formula))

abbrev pub type_fault : List Entry → Option MachineFault
type_fault entries = option_map (λ (e : Entry). type_differs) (find differs_in_type entries)

-- 3: the entry for a `$e` is not the substituted hypothesis
abbrev pub differs_in_formula : List Entry → Entry → Bool
differs_in_formula entries e = not e.0.floating && not (same_formula e.1 (substituted entries e.0.formula))

abbrev pub hyp_fault : List Entry → Option MachineFault
hyp_fault entries = option_map (λ (e : Entry). hyp_differs (substituted entries e.0.formula) e.1) (find (differs_in_formula entries) entries)

-- a symbol is a variable where an active `$f` of the theorem has it second
abbrev pub is_variable : Theorem → Sym → Bool
is_variable theorem s = list_any (is_float_of s) theorem.hyps

-- each variable of the one substitute with each of the other
abbrev pub variable_pairs : Theorem → List Entry → Pair → List (Sym × Sym)
variable_pairs theorem entries p =
    flat_map (λ v. map (λ w. (v, w)) (filter (is_variable theorem) (substitute entries p.b))) (filter (is_variable theorem) (substitute entries p.a))

-- by the number of the first variable, and then of the second
abbrev pub is_less : Sym × Sym → Sym × Sym → Bool
is_less p q = nat_lt p.0.0 q.0.0 || (p.0.0 == q.0.0 && nat_lt p.1.0 q.1.0)

abbrev pub lesser : Sym × Sym → Option (Sym × Sym) → Sym × Sym
lesser p None = p
lesser p (Some q) = if is_less q p then q else p

abbrev pub least : List (Sym × Sym) → Option (Sym × Sym)
least [] = None
least (p ∷ ps) = Some (lesser p (least ps))

abbrev pub or_later : Pair → Option (Sym × Sym) → Option (Pair × (Sym × Sym)) → Option (Pair × (Sym × Sym))
or_later p None later = later
or_later p (Some vw) later = Some (p, vw)

-- the first of an assertion's pairs that has such variables in its two substitutes, and the least of these
abbrev pub first_pair : (Sym × Sym → Bool) → Theorem → List Entry → List Pair → Option (Pair × (Sym × Sym))
first_pair test theorem entries [] = None
first_pair test theorem entries (p ∷ ps) = or_later p (least (filter test (variable_pairs theorem entries p))) (first_pair test theorem entries ps)

-- 4: the two substitutes of a pair share a variable
abbrev pub is_shared : Sym × Sym → Bool
is_shared vw = vw.0.0 == vw.1.0

abbrev pub shared_fault : Theorem → List Entry → List Pair → Option MachineFault
shared_fault theorem entries pairs = option_map (λ (f : Pair × (Sym × Sym)). shared f.0.a f.0.b f.1.0) (first_pair is_shared theorem entries pairs)

-- 5: variables of the two substitutes of a pair are no active pair of the theorem
abbrev pub is_active_pair : Theorem → Sym × Sym → Bool
is_active_pair theorem vw = list_any (λ (p : Pair). (p.a.0 == vw.0.0 && p.b.0 == vw.1.0) || (p.a.0 == vw.1.0 && p.b.0 == vw.0.0)) theorem.pairs

abbrev pub distinct_fault : Theorem → List Entry → List Pair → Option MachineFault
distinct_fault theorem entries pairs = option_map (λ (f : Pair × (Sym × Sym)). not_distinct f.1.0 f.1.1) (first_pair (λ vw. not (is_active_pair theorem vw)) theorem entries pairs)

-- the first of these faults
abbrev pub entries_fault : Theorem → Frame → List Entry → Option MachineFault
entries_fault theorem frame entries =
    option_or (type_fault entries) (option_or (hyp_fault entries) (option_or (shared_fault theorem entries frame.pairs) (distinct_fault theorem entries frame.pairs)))

-- ---- the steps

-- the stack, the newest entry first, and what the marked steps left, in order of marking
pub record State : Type 0 where
  pub stack : List Formula
  pub kept : List Formula

abbrev pub start : State
start = record { stack = []; kept = [] }

abbrev pub push : Formula → State → State
push f st = record { stack = f ∷ st.stack; kept = st.kept }

abbrev pub and_then : {X Y E : Type 0} → (X → Result Y E) → Result X E → Result Y E
and_then f (Ok x) = f x
and_then f (Err e) = Err e

abbrev pub unless : {X : Type 0} → Option MachineFault → X → Result X MachineFault
unless None x = Ok x
unless (Some f) x = Err f

-- an assertion takes these formulas for its hypotheses, and gives its substituted formula
abbrev pub applied : Theorem → Frame → List Formula → Result Formula MachineFault
applied theorem frame taken = unless (entries_fault theorem frame (zip frame.hyps taken)) (substituted (zip frame.hyps taken) frame.formula)

-- it takes them from the top of the stack, the lowest first; 1: there are fewer
abbrev pub apply_frame : Theorem → Frame → State → Result State MachineFault
apply_frame theorem frame st =
    if nat_lt (length st.stack) (length frame.hyps) then Err underflow
    else and_then (λ f. Ok (record { stack = f ∷ drop (length frame.hyps) st.stack; kept = st.kept })) (applied theorem frame (reverse (take (length frame.hyps) st.stack)))

-- what a marked step left; a number that no mark has is refused as a step that is not proved yet
abbrev pub use_kept : Option Formula → State → Result State MachineFault
use_kept None st = Err unknown
use_kept (Some f) st = Ok (push f st)

abbrev pub keep_top : Bool → State → State
keep_top true st = record { stack = st.stack; kept = st.kept ++ take 1 st.stack }
keep_top false st = st

abbrev pub numbered : ℕ → Result State MachineFault → Result State (ℕ × MachineFault)
numbered n (Ok st) = Ok st
numbered n (Err f) = Err (n, f)

-- 7 and 8: at the end there is one entry, the theorem's formula
abbrev pub end_fault : Theorem → List Formula → Option MachineFault
end_fault theorem (f ∷ []) = if same_formula f theorem.formula then None else Some result_differs
end_fault theorem stack = Some (left_over (length stack))

abbrev pub ended_fault : Theorem → ℕ → Result State (ℕ × MachineFault) → Option (ℕ × MachineFault)
ended_fault theorem n (Ok st) = option_map (λ f. (n, f)) (end_fault theorem st.stack)
ended_fault theorem n (Err f) = Some f

module _ (frames : Frames) (theorem : Theorem) where
  -- 6: the assertion is not there, or is not before the theorem's place
  abbrev pub use_frame : Option Frame → State → Result State MachineFault
  use_frame None st = Err not_earlier
  use_frame (Some frame) st = if nat_lt frame.at theorem.at then apply_frame theorem frame st else Err not_earlier

  abbrev pub use_hyp : List ℕ → Option Hyp → State → Result State MachineFault
  use_hyp label (Some h) st = Ok (push h.formula st)
  use_hyp label None st = use_frame (frames label) st

  -- a label names an active hypothesis of the theorem, and else an assertion
  abbrev pub use_label : List ℕ → State → Result State MachineFault
  use_label label st = use_hyp label (find (λ (h : Hyp). bytes_eq h.name label) theorem.hyps) st

  -- 9: a step that is not proved yet
  abbrev pub use_what : List (List ℕ) → What → State → Result State MachineFault
  use_what labels (what.Hyp k) st = use_label (slice_index_or theorem.mandatory k []) st
  use_what labels (what.Listed k) st = use_label (slice_index_or labels k []) st
  use_what labels (what.Again k) st = use_kept (slice_get st.kept k) st
  use_what labels what.Unknown st = Err unknown

  abbrev pub use_step : List (List ℕ) → Step → State → Result State MachineFault
  use_step labels s st = and_then (λ next. Ok (keep_top s.marked next)) (use_what labels s.what st)

  -- the state behind the steps, the first of which has number n; or the first fault, with its step's number
  abbrev pub run_steps : List (List ℕ) → ℕ → List Step → State → Result State (ℕ × MachineFault)
  run_steps labels n [] st = Ok st
  run_steps labels n (s ∷ ss) st = and_then (run_steps labels (suc n) ss) (numbered n (use_step labels s st))

  -- the first fault of a proof, with the number of its step; a fault at the end has the number of steps
  abbrev pub proof_fault : Code → Option (ℕ × MachineFault)
  proof_fault code = ended_fault theorem (length code.steps) (run_steps code.labels 0 code.steps start)

  abbrev pub Accepts : Code → Type 0
  Accepts code = proof_fault code ≡ None

  -- the stack that a proof ends with
  abbrev pub stack_after : Code → Result (List Formula) (ℕ × MachineFault)
  stack_after code = and_then (λ st. Ok st.stack) (run_steps code.labels 0 code.steps start)
