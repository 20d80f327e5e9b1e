-- Steps of an accepted proof, which have no fault.
use Rattle.std.proofs.Common.{◌≡◌, ◌<◌, ◌≤◌, ℕ, zero, suc, Bool, true, false, ltb, List, [], ◌∷◌, length, drop, get_or, Option, Some, None}
use Rattle.std.proofs.Common.{option_map, Result, Ok, Err, refl, sym, ap, ◌∙◌, arith, inl, inr, subst}
use Rattle.std.specs.Prelude.{MatchOption, find, slice_get}
use Rattle.std.specs.List.{zip}
use Rattle.std.specs.Str.{bytes_eq}
use Rattle.std.proofs.lemmas.Bool.{cases_Bool, ltb-false}
use Rattle.std.proofs.lemmas.Slice.Eq.{bytes_eq-Decides}
use Rattle.mm_model.specs.declared.frames.Hyp.{Hyp}
use Rattle.mm_model.specs.declared.frames.Frame.{Frame}
use Rattle.mm_model.specs.Names.{Name, first_number}
use Rattle.proof_model.specs.declared.code.Step.{Step}
use Rattle.proof_model.specs.declared.code.Code.{Code}
use Rattle.proof_model.specs.declared.theorem.Theorem.{Theorem}
use Rattle.proof_model.specs.Machine.{Formula, Frames, MachineFault, State, and_then, apply_frame, ended_fault, entries_fault, keep_top, not_earlier}
use Rattle.proof_model.specs.Machine.{numbered, proof_fault, push, run_steps, start, substituted, underflow, unknown, unless, use_frame, use_hyp}
use Rattle.proof_model.specs.Machine.{use_kept, use_label, use_step, use_what}
use Rattle.stack_verify.proofs.Substitutes.{cond_then, cond_else}
use Rattle.proof_export.specs.Machines.{applied_to, top_of}
use Rattle.proof_export.specs.Proofs.{Passes, Runs}

-- ---- hypotheses by their labels

bytes_turned : (a b : List ℕ) → bytes_eq a b ≡ bytes_eq b a
bytes_turned a b =
    elim (cases_Bool (bytes_eq b a)) [
      | inl t ↦ (bytes_eq-Decides a b).1 (sym ((bytes_eq-Decides b a).0 t)) ∙ sym t
      | inr t ↦
          elim (cases_Bool (bytes_eq a b)) [
            | inl s ↦ let both : false ≡ true = sym t ∙ (bytes_eq-Decides b a).1 (sym ((bytes_eq-Decides a b).0 s)) in absurd cc
            | inr s ↦ s ∙ sym t
          ]
    ]

-- what a number says of the first hypothesis with a label
abbrev pub IsFirst : List Hyp → Name → Option ℕ → Type 0
IsFirst hyps label o =
    MatchOption o (find (λ (h : Hyp). bytes_eq h.name label) hyps ≡ None) (λ k. (k < length hyps) × ((d : Hyp) → find (λ (h : Hyp). bytes_eq h.name label) hyps ≡ Some (get_or hyps k d)))

abbrev number : List Hyp → Name → Option ℕ
number hyps label = first_number (λ (h : Hyp). bytes_eq label h.name) hyps

behind : (h : Hyp) (hs : List Hyp) (label : Name) (o : Option ℕ) → bytes_eq label h.name ≡ false → IsFirst hs label o → IsFirst (h ∷ hs) label (option_map (λ n. suc n) o)
behind h hs label None t is = cond_else (bytes_eq h.name label) (Some h) (find (λ (x : Hyp). bytes_eq x.name label) hs) (bytes_turned h.name label ∙ t) ∙ is
behind h hs label (Some k) t is =
    let low = is.0 in
    (omega (arith, low), λ d. cond_else (bytes_eq h.name label) (Some h) (find (λ (x : Hyp). bytes_eq x.name label) hs) (bytes_turned h.name label ∙ t) ∙ is.1 d)

-- the first hypothesis with a label is that of its number
pub first_hyp : (hyps : List Hyp) (label : Name) → IsFirst hyps label (number hyps label)
first_hyp [] label = refl
first_hyp (h ∷ hs) label =
    let rest = first_hyp hs label in
    elim (cases_Bool (bytes_eq label h.name)) [
      | inl t ↦
          subst (λ (o : Option ℕ). IsFirst (h ∷ hs) label o) (sym (cond_then (bytes_eq label h.name) (Some 0) (option_map (λ n. suc n) (number hs label)) t))
          ((omega arith, λ d. cond_then (bytes_eq h.name label) (Some h) (find (λ (x : Hyp). bytes_eq x.name label) hs) (bytes_turned h.name label ∙ t)))
      | inr t ↦
          subst (λ (o : Option ℕ). IsFirst (h ∷ hs) label o) (sym (cond_else (bytes_eq label h.name) (Some 0) (option_map (λ n. suc n) (number hs label)) t))
          (behind h hs label (number hs label) t rest)
    ]

-- ---- what passes

stopped : {r : Result State MachineFault} (f : MachineFault) → r ≡ Err f → Passes r → ⊥
stopped f e p = let is : Err f ≡ Ok p.next = sym e ∙ p.is in cc

module _ (frames : Frames) (thm : Theorem) (label : Name) (st : State) where
  names : Option Hyp → Type 0
  names o = find (λ (h : Hyp). bytes_eq h.name label) thm.hyps ≡ o

  -- a hypothesis is pushed
  pub hyp_used : (h : Hyp) → find (λ (h : Hyp). bytes_eq h.name label) thm.hyps ≡ Some h → use_label frames thm label st ≡ Ok (push h.formula st)
  hyp_used h e = ap (λ (o : Option Hyp). use_hyp frames thm label o st) e

  as_frame : (o : Option Frame) → find (λ (h : Hyp). bytes_eq h.name label) thm.hyps ≡ None → frames label ≡ o → use_label frames thm label st ≡ use_frame frames thm o st
  as_frame o e f = ap (λ (o : Option Hyp). use_hyp frames thm label o st) e ∙ ap (λ (o : Option Frame). use_frame frames thm o st) f

  -- a label that names nothing does not pass
  pub nothing_named : find (λ (h : Hyp). bytes_eq h.name label) thm.hyps ≡ None → frames label ≡ None → Passes (use_label frames thm label st) → ⊥
  nothing_named e f p = stopped not_earlier (as_frame None e f) p

  -- an assertion that passes finds its entries, and is applied to them
  pub frame_used : (f : Frame) → find (λ (h : Hyp). bytes_eq h.name label) thm.hyps ≡ None → frames label ≡ Some f → Passes (use_label frames thm label st)
      → (length f.hyps ≤ length st.stack) × (use_label frames thm label st ≡ Ok (applied_to f st))
  frame_used f e q p = early (ltb f.at thm.at) refl
    where
      n : ℕ
      n = length f.hyps

      is_frame : use_label frames thm label st ≡ use_frame frames thm (Some f) st
      is_frame = as_frame (Some f) e q

      given : Result Formula MachineFault → Result State MachineFault
      given r = and_then (λ g. Ok (record { stack = g ∷ drop n st.stack; kept = st.kept })) r

      fault : Option MachineFault
      fault = entries_fault thm f (zip f.hyps (top_of st.stack f))

      result : Formula
      result = substituted (zip f.hyps (top_of st.stack f)) f.formula

      fits : (o : Option MachineFault) → fault ≡ o → n ≤ length st.stack → use_label frames thm label st ≡ given (unless fault result)
          → (length f.hyps ≤ length st.stack) × (use_label frames thm label st ≡ Ok (applied_to f st))
      fits None o low is = (low, is ∙ ap (λ (x : Option MachineFault). given (unless x result)) o)
      fits (Some x) o low is = absurd (stopped x (is ∙ ap (λ (x : Option MachineFault). given (unless x result)) o) p)

      few : (t : Bool) → ltb (length st.stack) n ≡ t → use_label frames thm label st ≡ apply_frame thm f st
          → (length f.hyps ≤ length st.stack) × (use_label frames thm label st ≡ Ok (applied_to f st))
      few true t is = absurd (stopped underflow (is ∙ cond_then (ltb (length st.stack) n) (Err underflow) (given (unless fault result)) t) p)
      few false t is = fits fault refl (ltb-false (length st.stack) n t) (is ∙ cond_else (ltb (length st.stack) n) (Err underflow) (given (unless fault result)) t)

      early : (t : Bool) → ltb f.at thm.at ≡ t → (length f.hyps ≤ length st.stack) × (use_label frames thm label st ≡ Ok (applied_to f st))
      early true t = few (ltb (length st.stack) n) refl (is_frame ∙ cond_then (ltb f.at thm.at) (apply_frame thm f st) (Err not_earlier) t)
      early false t = absurd (stopped not_earlier (is_frame ∙ cond_else (ltb f.at thm.at) (apply_frame thm f st) (Err not_earlier) t) p)

-- a number that a mark has
pub kept_within : (ks : List Formula) (k : ℕ) (st : State) → Passes (use_kept (slice_get ks k) st) → k < length ks
kept_within [] k st p = absurd (stopped unknown refl p)
kept_within (f ∷ ks) zero st p = omega arith
kept_within (f ∷ ks) (suc k) st p = let low = kept_within ks k st p in omega (arith, low)

-- ---- steps

first_passes : (r : Result State MachineFault) (next : State → State) → Passes (and_then (λ st. Ok (next st)) r) → Passes r
first_passes (Ok st) next p = record { next = st; is = refl }
first_passes (Err f) next p = absurd (stopped f refl p)

pub top_stays : (marked : Bool) (st : State) → (keep_top marked st).stack ≡ st.stack
top_stays true st = refl
top_stays false st = refl

module _ (frames : Frames) (thm : Theorem) (labels : List Name) where
  pub what_passes : (s : Step) (st : State) → Passes (use_step frames thm labels s st) → Passes (use_what frames thm labels s.what st)
  what_passes s st p = first_passes (use_what frames thm labels s.what st) (keep_top s.marked) p

  pub step_used : (s : Step) (st m : State) → use_what frames thm labels s.what st ≡ Ok m → use_step frames thm labels s st ≡ Ok (keep_top s.marked m)
  step_used s st m e = ap (and_then (λ (next : State). Ok (keep_top s.marked next))) e

  passes_by : (n : ℕ) (ss : List Step) (r : Result State MachineFault) (last : State) → and_then (run_steps frames thm labels (suc n) ss) (numbered n r) ≡ Ok last → Passes r
  passes_by n ss (Ok st) last e = record { next = st; is = refl }
  passes_by n ss (Err f) last e = absurd cc

  pub step_passes : (s : Step) (ss : List Step) (st : State) → Runs frames thm labels (s ∷ ss) st → Passes (use_step frames thm labels s st)
  step_passes s ss st r = passes_by r.number ss (use_step frames thm labels s st) r.last r.is

  pub runs_on : (s : Step) (ss : List Step) (st next : State) → Runs frames thm labels (s ∷ ss) st → use_step frames thm labels s st ≡ Ok next → Runs frames thm labels ss next
  runs_on s ss st next r e = record {
    number = suc r.number;
    last = r.last;
    is = sym (ap (λ (x : Result State MachineFault). and_then (run_steps frames thm labels (suc r.number) ss) (numbered r.number x)) e) ∙ r.is;
  }

ended : (thm : Theorem) (n : ℕ) (r : Result State (ℕ × MachineFault)) → ended_fault thm n r ≡ None → (st : State) × (r ≡ Ok st)
ended thm n (Ok st) e = (st, refl)
ended thm n (Err f) e = absurd cc

pub accepted_runs : (frames : Frames) (thm : Theorem) (code : Code) → proof_fault frames thm code ≡ None → Runs frames thm code.labels code.steps start
accepted_runs frames thm code e =
    let end = ended thm (length code.steps) (run_steps frames thm code.labels 0 code.steps start) e in
    record { number = 0; last = end.0; is = end.1 }
