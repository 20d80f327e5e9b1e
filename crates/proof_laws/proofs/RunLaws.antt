-- A proof pushes one formula, whatever lies below on the stack.
use Rattle.std.specs.Prelude.{◌≡◌, ℕ, suc, ◌+◌, nat_lt, Bool, true, false, ◌||◌, List, [], ◌∷◌, ◌++◌, length, take, drop, reverse, find, Option, Some, None, option_map, Result, Ok, Err, refl}
use Rattle.std.specs.Str.{bytes_eq}
use Rattle.std.specs.List.{list_any}
use Rattle.std.proofs.Common.{sym, ap, subst, ◌∙◌, arith, cond}
use Rattle.std.proofs.Math.Seq.{drop-append_seam, take-append_seam}
use Rattle.std.proofs.lemmas.List.{length-reverse, reverse-reverse}
use Rattle.std.proofs.lemmas.Bool.Decides.{nat_tests}
use Rattle.mm_model.specs.declared.frames.Hyp.{Hyp}
use Rattle.mm_model.specs.declared.frames.Frame.{Frame}
use Rattle.proof_model.specs.declared.theorem.Theorem.{Theorem}
use Rattle.proof_model.specs.Arities.{arity_of}
use Rattle.proof_model.specs.Machine.{Formula, Frames, State, MachineFault, underflow, not_earlier, and_then, use_label, use_hyp, use_frame, apply_frame, applied}
use Rattle.proof_laws.specs.Labels.{run_labels}

-- formulas put onto a stack, one after the other
abbrev pub onto : List Formula → List Formula → List Formula
onto [] s = s
onto (f ∷ fs) s = onto fs (f ∷ s)

abbrev pub state : List Formula → List Formula → State
state s k = record { stack = s; kept = k }

abbrev pub Outcome : Type 0
Outcome = Result State MachineFault

then_run : (f g : State → Outcome) (o : Outcome) → and_then g (and_then f o) ≡ and_then (λ st. and_then g (f st)) o
then_run f g (Err e) = refl
then_run f g (Ok st) = refl

same_run : (f g : State → Outcome) (o : Outcome) → ((st : State) → f st ≡ g st) → and_then f o ≡ and_then g o
same_run f g (Err e) h = refl
same_run f g (Ok st) h = h st

module _ (frames : Frames) (thm : Theorem) where
  pub run_labels-append : (xs ys : List (List ℕ)) (st : State) → run_labels frames thm (xs ++ ys) st ≡ and_then (run_labels frames thm ys) (run_labels frames thm xs st)
  run_labels-append [] ys st = refl
  run_labels-append (x ∷ xs) ys st =
      same_run (run_labels frames thm (xs ++ ys)) (λ s. and_then (run_labels frames thm ys) (run_labels frames thm xs s)) (use_label frames thm x st) (run_labels-append xs ys)
      ∙ sym (then_run (run_labels frames thm xs) (run_labels frames thm ys) (use_label frames thm x st))

length-onto : (fs s : List Formula) → length (onto fs s) ≡ length fs + length s
length-onto [] s = omega arith
length-onto (f ∷ fs) s = let rest : length (onto fs (f ∷ s)) ≡ length fs + suc (length s) = length-onto fs (f ∷ s) in omega (arith, rest)

onto-append : (fs s t : List Formula) → onto fs (s ++ t) ≡ onto fs s ++ t
onto-append [] s t = refl
onto-append (f ∷ fs) s t = onto-append fs (f ∷ s) t

onto-reverse : (fs s : List Formula) → onto fs s ≡ reverse fs ++ s
onto-reverse fs s = onto-append fs [] s

drop-onto : (fs s : List Formula) → drop (length fs) (onto fs s) ≡ s
drop-onto fs s = rw onto-reverse (subst (λ (n : ℕ). drop n (reverse fs ++ s) ≡ s) (length-reverse fs) (drop-append_seam (reverse fs) s))

taken-onto : (fs s : List Formula) → reverse (take (length fs) (onto fs s)) ≡ fs
taken-onto fs s =
    let whole : take (length fs) (reverse fs ++ s) ≡ reverse fs = subst (λ (n : ℕ). take n (reverse fs ++ s) ≡ reverse fs) (length-reverse fs) (take-append_seam (reverse fs) s) in
    rw onto-reverse (ap reverse whole ∙ reverse-reverse fs)

any_by : {X : Type 0} (p : X → Bool) (x y : X) (xs : List X) (b : Bool) → (find p xs ≡ Some y → list_any p xs ≡ true) → cond b (Some x) (find p xs) ≡ Some y
    → (b || list_any p xs) ≡ true
any_by p x y xs true h e = refl
any_by p x y xs false h e = h e

pub find_any : {X : Type 0} (p : X → Bool) (xs : List X) (y : X) → find p xs ≡ Some y → list_any p xs ≡ true
find_any p [] y e = absurd (cc)
find_any p (x ∷ xs) y e = any_by p x y xs (p x) (find_any p xs y) e

none_by : {X : Type 0} (p : X → Bool) (x : X) (xs : List X) (b : Bool) → (find p xs ≡ None → list_any p xs ≡ false) → cond b (Some x) (find p xs) ≡ None → (b || list_any p xs) ≡ false
none_by p x xs true h e = absurd (cc)
none_by p x xs false h e = h e

pub find_none : {X : Type 0} (p : X → Bool) (xs : List X) → find p xs ≡ None → list_any p xs ≡ false
find_none p [] e = refl
find_none p (x ∷ xs) e = none_by p x xs (p x) (find_none p xs) e

-- from any stack, these formulas are taken from its top and this one is put
pub record Pushes (run : State → Outcome) (fs : List Formula) (f : Formula) : Type 0 where
  pub on : (s k : List Formula) → run (state (onto fs s) k) ≡ Ok (state (f ∷ s) k)

-- a run from one stack shows what it does on each
abbrev pub Shown : (State → Outcome) → List Formula → State → List Formula → List Formula → Type 0
Shown run fs st s k = (f : Formula) × (st ≡ state (f ∷ s) k) × Pushes run fs f

abbrev pub apply_with : (List Formula → Result Formula MachineFault) → ℕ → List Formula → List Formula → Outcome
apply_with run n stack k = cond (nat_lt (length stack) n) (Err underflow) (and_then (λ r. Ok (state (r ∷ drop n stack) k)) (run (reverse (take n stack))))

enough : (fs s : List Formula) → nat_lt (length (onto fs s)) (length fs) ≡ false
enough fs s = let long : length (onto fs s) ≡ length fs + length s = length-onto fs s in grind (arith, nat_tests)

pub apply_onto : (run : List Formula → Result Formula MachineFault) (n : ℕ) (fs s k : List Formula) → length fs ≡ n
    → apply_with run n (onto fs s) k ≡ and_then (λ r. Ok (state (r ∷ s) k)) (run fs)
apply_onto run n fs s k e = subst (λ (m : ℕ). apply_with run m (onto fs s) k ≡ and_then (λ r. Ok (state (r ∷ s) k)) (run fs)) e
    (rw (enough, drop-onto, taken-onto) refl)

frame_shown : (run : List Formula → Result Formula MachineFault) (fs s k : List Formula) (st : State) (o : Result Formula MachineFault) → run fs ≡ o
    → and_then (λ r. Ok (state (r ∷ s) k)) o ≡ Ok st → (f : Formula) × (st ≡ state (f ∷ s) k) × (run fs ≡ Ok f)
frame_shown run fs s k st (Err x) is e = absurd (cc)
frame_shown run fs s k st (Ok r) is e = (r, let same : state (r ∷ s) k ≡ st = cc in sym same, is)

module _ (frames : Frames) (thm : Theorem) where
  frame_step : (f : Frame) (b : Bool) (fs s k : List Formula) (st : State) → nat_lt f.at thm.at ≡ b → length fs ≡ length f.hyps
      → cond b (apply_frame thm f (state (onto fs s) k)) (Err not_earlier) ≡ Ok st → Shown (use_frame frames thm (Some f)) fs st s k
  frame_step f false fs s k st is n e = absurd (cc)
  frame_step f true fs s k st is n e =
      let applied_as = apply_onto (applied thm f) (length f.hyps) fs s k n in
      let shown = frame_shown (applied thm f) fs s k st (applied thm f fs) refl (sym applied_as ∙ e) in (
        shown.0,
        shown.1,
        record {
          on = λ t j. ap (λ b. cond b (apply_frame thm f (state (onto fs t) j)) (Err not_earlier)) is
              ∙ apply_onto (applied thm f) (length f.hyps) fs t j n ∙ ap (and_then (λ r. Ok (state (r ∷ t) j))) shown.2;
        },
      )

  frame_case : (o : Option Frame) (fs s k : List Formula) (st : State) → option_map (λ (f : Frame). length f.hyps) o ≡ Some (length fs)
      → use_frame frames thm o (state (onto fs s) k) ≡ Ok st → Shown (use_frame frames thm o) fs st s k
  frame_case None fs s k st n e = absurd (cc)
  frame_case (Some f) fs s k st n e = let same : length fs ≡ length f.hyps = cc in frame_step f (nat_lt f.at thm.at) fs s k st refl same e

  hyp_case : (name : List ℕ) (h : Hyp) (fs s k : List Formula) (st : State) → length fs ≡ 0 → use_hyp frames thm name (Some h) (state (onto fs s) k) ≡ Ok st
      → Shown (use_hyp frames thm name (Some h)) fs st s k
  hyp_case name h [] s k st n e = (h.formula, let same : state (h.formula ∷ s) k ≡ st = cc in sym same, record { on = λ t j. refl })
  hyp_case name h (f ∷ fs) s k st n e = absurd (omega (arith, n))

  abbrev is_named : List ℕ → Hyp → Bool
  is_named name h = bytes_eq h.name name

  label_case : (name : List ℕ) (o : Option Hyp) → find (is_named name) thm.hyps ≡ o → (fs s k : List Formula) (st : State) → arity_of frames thm name ≡ Some (length fs)
      → use_hyp frames thm name o (state (onto fs s) k) ≡ Ok st → Shown (use_hyp frames thm name o) fs st s k
  label_case name (Some h) is fs s k st n e =
      let any = find_any (is_named name) thm.hyps h is in
      let zero' : Some 0 ≡ Some (length fs) = rw any at n in
      let none' : length fs ≡ 0 = cc in
      hyp_case name h fs s k st none' e
  label_case name None is fs s k st n e =
      let any = find_none (is_named name) thm.hyps is in
      frame_case (frames name) fs s k st (rw any at n) e

  -- a label with its arity takes that many formulas and puts one
  pub label_shown : (name : List ℕ) (fs s k : List Formula) (st : State) → arity_of frames thm name ≡ Some (length fs)
      → use_label frames thm name (state (onto fs s) k) ≡ Ok st → Shown (use_label frames thm name) fs st s k
  label_shown name fs s k st n e = label_case name (find (is_named name) thm.hyps) refl fs s k st n e

  some_same : (o : Outcome) → and_then (λ st. Ok st) o ≡ o
  some_same (Err e) = refl
  some_same (Ok st) = refl

  pub one_label : (name : List ℕ) (st : State) → run_labels frames thm (name ∷ []) st ≡ use_label frames thm name st
  one_label name st = some_same (use_label frames thm name st)
