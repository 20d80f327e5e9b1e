-- What was looked up is what the machine uses.
use Rattle.std.proofs.Common.{◌≡◌, ◌≤◌, ◌<◌, ℕ, zero, suc, Bool, true, false, ltb, List, [], ◌∷◌, length, position, Option, Some, None, option_map}
use Rattle.std.proofs.Common.{Result, Ok, Err, refl, sym, ap, ◌∙◌, arith, subst, inl, inr, Bor}
use Rattle.std.specs.Prelude.{find, option_and_then, slice_get, slice_index_or}
use Rattle.std.specs.Str.{bytes_eq}
use Rattle.std.proofs.lemmas.Bool.{cases_Bool, le-ltb, lt-ltb, ltb-false, ltb-true}
use Rattle.std.proofs.lemmas.List.{get_or_default}
use Rattle.std.proofs.Math.ListN.{get_or-eq_default}
use Rattle.std.proofs.lemmas.Slice.Eq.{bytes_eq-Decides}
use Rattle.mm_model.specs.declared.frames.Hyp.{Hyp}
use Rattle.mm_model.specs.declared.frames.Frame.{Frame}
use Rattle.proof_model.specs.declared.code.What.{What}
use Rattle.proof_model.specs.declared.code.What.TheVariants as what
use Rattle.proof_model.specs.declared.code.Step.{Step}
use Rattle.proof_model.specs.declared.code.Code.{Code}
use Rattle.proof_model.specs.declared.theorem.Theorem.{Theorem}
use Rattle.proof_model.specs.Machine.{Frames, MachineFault, State, and_then, apply_frame, ended_fault, keep_top, not_earlier, numbered, proof_fault}
use Rattle.proof_model.specs.Machine.{run_steps, start, use_frame, use_hyp, use_label, use_step, use_what}
use Rattle.stack_verify.specs.declared.run.Found.{Found}
use Rattle.stack_verify.specs.declared.run.Found.TheVariants as found
use Rattle.stack_verify.specs.Founds.{found_fault, run_found, use_found_step, use_found_what, use_hyp_at}
use Rattle.stack_verify.specs.Lookups.{AreFound, IsFound, place_of}
use Rattle.mm_base.proofs.Positions.{position-cons}
use Rattle.stack_verify.proofs.Substitutes.{cond_then, cond_else, position_within}

bytes_turned : (a b : List ℕ) → bytes_eq a b ≡ bytes_eq b a
bytes_turned a b =
    elim (cases_Bool (bytes_eq b a)) [
      | inl t ↦ (bytes_eq-Decides a b).1 (sym ((bytes_eq-Decides b a).0 t)) ∙ sym t
      | inr t ↦
          elim (cases_Bool (bytes_eq a b)) [
            | inl s ↦ let both : false ≡ true = sym t ∙ (bytes_eq-Decides b a).1 (sym ((bytes_eq-Decides a b).0 s)) in absurd cc
            | inr s ↦ s ∙ sym t
          ]
    ]

past : (h : Hyp) (hs : List Hyp) (o : Option ℕ) → option_and_then (slice_get (h ∷ hs)) (option_map (λ n. suc n) o) ≡ option_and_then (slice_get hs) o
past h hs None = refl
past h hs (Some k) = refl

find_place : (hs : List Hyp) (label : List ℕ) → find (λ (h : Hyp). bytes_eq h.name label) hs ≡ option_and_then (slice_get hs) (place_of hs label)
find_place [] label = refl
find_place (h ∷ hs) label =
    let test : Hyp → Bool = λ (x : Hyp). bytes_eq label x.name in
    let next : Option ℕ → Option ℕ = option_map (λ (n : ℕ). suc n) in
    elim (cases_Bool (bytes_eq label h.name)) [
      | inl t ↦
          cond_then (bytes_eq h.name label) (Some h) (find (λ (x : Hyp). bytes_eq x.name label) hs) (bytes_turned h.name label ∙ t)
          ∙ ap (option_and_then (slice_get (h ∷ hs))) (sym (position-cons test h hs ∙ cond_then (test h) (Some 0) (next (position test hs)) t))
      | inr t ↦
          cond_else (bytes_eq h.name label) (Some h) (find (λ (x : Hyp). bytes_eq x.name label) hs) (bytes_turned h.name label ∙ t)
          ∙ find_place hs label ∙ sym (past h hs (place_of hs label))
          ∙ ap (option_and_then (slice_get (h ∷ hs))) (sym (position-cons test h hs ∙ cond_else (test h) (Some 0) (next (position test hs)) t))
    ]

the_hyp : (hs : List Hyp) (k : ℕ) → k < length hs → (h : Hyp) × (slice_get hs k ≡ Some h)
the_hyp [] k low = absurd (omega arith)
the_hyp (h ∷ hs) zero low = (h, refl)
the_hyp (h ∷ hs) (suc k) low = the_hyp hs k (omega arith)

pub hyp_found : (frames : Frames) (thm : Theorem) (label : List ℕ) (k : ℕ) → Some k ≡ place_of thm.hyps label → IsFound frames thm label (found.Hyp k)
hyp_found frames thm label k e =
    let there = the_hyp thm.hyps k (position_within (λ (h : Hyp). bytes_eq label h.name) thm.hyps k (sym e)) in
    let is : find (λ (h : Hyp). bytes_eq h.name label) thm.hyps ≡ Some there.0 = find_place thm.hyps label ∙ ap (option_and_then (slice_get thm.hyps)) (sym e) ∙ there.1 in
    record { same = λ st. ap (λ (o : Option Hyp). use_hyp_at o st) there.1 ∙ ap (λ (o : Option Hyp). use_hyp frames thm label o st) (sym is) }

no_hyp : (frames : Frames) (thm : Theorem) (label : List ℕ) (frame : Option Frame) (st : State) → None ≡ place_of thm.hyps label
    → frame ≡ frames label → use_frame frames thm frame st ≡ use_label frames thm label st
no_hyp frames thm label frame st e f =
    let is : find (λ (h : Hyp). bytes_eq h.name label) thm.hyps ≡ None = find_place thm.hyps label ∙ ap (option_and_then (slice_get thm.hyps)) (sym e) in
    ap (λ (o : Option Frame). use_frame frames thm o st) f ∙ ap (λ (o : Option Hyp). use_hyp frames thm label o st) (sym is)

pub no_frame : (frames : Frames) (thm : Theorem) (label : List ℕ) → None ≡ place_of thm.hyps label → None ≡ frames label → IsFound frames thm label found.Nothing
no_frame frames thm label e f = record { same = λ st. no_hyp frames thm label None st e f }

pub frame_found : (frames : Frames) (thm : Theorem) (label : List ℕ) (b : Bor Frame) → None ≡ place_of thm.hyps label → Some b.now ≡ frames label
    → b.now.at < thm.at → IsFound frames thm label (found.Assertion b)
frame_found frames thm label b e f low = record {
  same = λ st. sym (cond_then (ltb b.now.at thm.at) (apply_frame thm b.now st) (Err not_earlier) (lt-ltb b.now.at thm.at low)) ∙ no_hyp frames thm label (Some b.now) st e f;
}

pub late_frame : (frames : Frames) (thm : Theorem) (label : List ℕ) (frame : Frame) → None ≡ place_of thm.hyps label → Some frame ≡ frames label
    → thm.at ≤ frame.at → IsFound frames thm label found.Nothing
late_frame frames thm label frame e f high = record {
  same = λ st. sym (cond_else (ltb frame.at thm.at) (apply_frame thm frame st) (Err not_earlier) (le-ltb frame.at thm.at high)) ∙ no_hyp frames thm label (Some frame) st e f;
}

-- ---- the run

same_and_then : {X Y : Type 0} (f g : X → Result Y (ℕ × MachineFault)) (r : Result X (ℕ × MachineFault)) → ((x : X) → f x ≡ g x) → and_then f r ≡ and_then g r
same_and_then f g (Ok x) h = h x
same_and_then f g (Err e) h = refl

-- what is found for a number
entry_same : (frames : Frames) (thm : Theorem) (labels : List (List ℕ)) (table : List Found) (absent : Found) (k : ℕ) → AreFound frames thm labels table → IsFound frames thm [] absent
    → IsFound frames thm (slice_index_or labels k []) (slice_index_or table k absent)
entry_same frames thm labels table absent k t a =
    elim (cases_Bool (ltb k (length labels))) [
      | inl s ↦
          let low = ltb-true k (length labels) s in
          subst (λ (f : Found). IsFound frames thm (slice_index_or labels k []) f) (get_or_default table k found.Nothing absent (omega (arith, t.count))) (t.each k low)
      | inr s ↦
          let high = ltb-false k (length labels) s in
          subst (λ (f : Found). IsFound frames thm (slice_index_or labels k []) f) (sym (get_or-eq_default table absent (omega (arith, t.count))))
          (subst (λ (l : List ℕ). IsFound frames thm l absent) (sym (get_or-eq_default labels [] high)) a)
    ]

what_same : (frames : Frames) (thm : Theorem) (absent : Found) (mandatory table : List Found) (labels : List (List ℕ)) (w : What) (st : State)
    → IsFound frames thm [] absent → AreFound frames thm thm.mandatory mandatory → AreFound frames thm labels table
    → use_found_what thm absent mandatory table w st ≡ use_what frames thm labels w st
what_same frames thm absent mandatory table labels (what.Hyp k) st a m t = (entry_same frames thm thm.mandatory mandatory absent k m a).same st
what_same frames thm absent mandatory table labels (what.Listed k) st a m t = (entry_same frames thm labels table absent k t a).same st
what_same frames thm absent mandatory table labels (what.Again k) st a m t = refl
what_same frames thm absent mandatory table labels what.Unknown st a m t = refl

pub run_same : (frames : Frames) (thm : Theorem) (absent : Found) (mandatory table : List Found) (labels : List (List ℕ)) (n : ℕ) (steps : List Step)
    (st : State)
    → IsFound frames thm [] absent → AreFound frames thm thm.mandatory mandatory → AreFound frames thm labels table
    → run_found thm absent mandatory table n steps st ≡ run_steps frames thm labels n steps st
run_same frames thm absent mandatory table labels n [] st a m t = refl
run_same frames thm absent mandatory table labels n (s ∷ ss) st a m t =
    let one : use_found_step thm absent mandatory table s st ≡ use_step frames thm labels s st =
    ap (and_then (λ (next : State). Ok (keep_top s.marked next))) (what_same frames thm absent mandatory table labels s.what st a m t) in
    ap (λ (o : Result State MachineFault). and_then (run_found thm absent mandatory table (suc n) ss) (numbered n o)) one
    ∙ same_and_then (run_found thm absent mandatory table (suc n) ss) (run_steps frames thm labels (suc n) ss) (numbered n (use_step frames thm labels s st))
    (λ (x : State). run_same frames thm absent mandatory table labels (suc n) ss x a m t)

pub fault_same : (frames : Frames) (thm : Theorem) (code : Code) (absent : Found) (ms ls : List (List ℕ)) (mandatory table us vs : List Found)
    (steps : List Step)
    → ms ≡ thm.mandatory → ls ≡ code.labels → us ≡ mandatory → vs ≡ table → steps ≡ code.steps
    → IsFound frames thm [] absent → AreFound frames thm ms mandatory → AreFound frames thm ls table → found_fault thm absent us vs steps ≡ proof_fault frames thm code
fault_same frames thm code absent ms ls mandatory table us vs steps em el eu ev es a m t =
    let m' : AreFound frames thm thm.mandatory mandatory = subst (λ (x : List (List ℕ)). AreFound frames thm x mandatory) em m in
    let t' : AreFound frames thm code.labels table = subst (λ (x : List (List ℕ)). AreFound frames thm x table) el t in
    ap (λ (x : List Found). found_fault thm absent x vs steps) eu ∙ ap (λ (x : List Found). found_fault thm absent mandatory x steps) ev ∙ ap (found_fault thm absent mandatory table) es
    ∙ ap (ended_fault thm (length code.steps)) (run_same frames thm absent mandatory table code.labels 0 code.steps start a m' t')
