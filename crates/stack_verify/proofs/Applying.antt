-- An assertion takes the entries on top of the stack.
use Rattle.std.proofs.Common.{◌≡◌, ◌<◌, ℕ, ◌+◌, true, false, ltb, List, [], ◌∷◌, ◌++◌, length, take, drop, Option, Some, None, Result, Ok, Err, sym, ap, ◌∙◌, arith, subst}
use Rattle.std.specs.Prelude.{reverse}
use Rattle.std.proofs.lemmas.Bool.{lt-ltb, le-ltb}
use Rattle.mm_base.specs.declared.symbols.Sym.{Sym}
use Rattle.mm_model.specs.declared.frames.Frame.{Frame}
use Rattle.mm_model.specs.declared.frames.Hyp.{Hyp}
use Rattle.proof_model.specs.declared.theorem.Theorem.{Theorem}
use Rattle.proof_model.specs.Machine.{Formula, MachineFault, State, underflow, and_then, unless, push, entries_fault, substituted, applied, apply_frame}
use Rattle.stack_verify.specs.declared.formula.Span.{Span}
use Rattle.stack_verify.specs.declared.fault.StepFault.{StepFault}
use Rattle.stack_verify.specs.declared.fault.StepFault.TheVariants as step
use Rattle.stack_verify.specs.Stacks.{formulas_in, entries_of, state_of}
use Rattle.stack_verify.specs.Steps.{FailsAs, FailsWith}
use Rattle.stack_verify.proofs.Parts.{left_is, stack_count, taken_is}
use Rattle.stack_verify.proofs.Substitutes.{cond_then, cond_else}

pub too_few : (thm : Theorem) (frame : Frame) (xs : List Sym) (es ks : List Span) → length es < length frame.hyps → apply_frame thm frame (state_of xs es ks) ≡ Err underflow
too_few thm frame xs es ks few =
    let test : ltb (length (reverse (formulas_in xs es))) (length frame.hyps) ≡ true = lt-ltb (length (reverse (formulas_in xs es))) (length frame.hyps) (omega (arith, stack_count xs es)) in
    cond_then (ltb (length (reverse (formulas_in xs es))) (length frame.hyps)) (Err underflow)
    (and_then (λ (f : Formula). Ok (record { stack = f ∷ drop (length frame.hyps) (reverse (formulas_in xs es)); kept = formulas_in xs ks }))
    (applied thm frame (reverse (take (length frame.hyps) (reverse (formulas_in xs es)))))) test

-- the state behind: the substituted formula, if the entries have no fault
abbrev outcome : Theorem → Frame → List Sym → List Span → List Span → ℕ → Option MachineFault → Result State MachineFault
outcome thm frame xs es ks b fault =
    and_then (λ (f : Formula). Ok (record { stack = f ∷ reverse (formulas_in xs (take b es)); kept = formulas_in xs ks }))
    (unless fault (substituted (entries_of frame.hyps xs (drop b es)) frame.formula))

enough : (thm : Theorem) (frame : Frame) (xs : List Sym) (es ks : List Span) (b : ℕ) → b + length frame.hyps ≡ length es
    → apply_frame thm frame (state_of xs es ks) ≡ outcome thm frame xs es ks b (entries_fault thm frame (entries_of frame.hyps xs (drop b es)))
enough thm frame xs es ks b e =
    let n = length frame.hyps in
    let stack : List Formula = reverse (formulas_in xs es) in
    let test : ltb (length stack) n ≡ false = le-ltb (length stack) n (omega (arith, stack_count xs es)) in
    cond_else (ltb (length stack) n) (Err underflow) (and_then (λ (f : Formula). Ok (record { stack = f ∷ drop n stack; kept = formulas_in xs ks })) (applied thm frame (reverse (take n stack)))) test
    ∙ ap (λ (l : List Formula). and_then (λ (f : Formula). Ok (record { stack = f ∷ l; kept = formulas_in xs ks })) (applied thm frame (reverse (take n stack)))) (left_is xs es b n e)
    ∙ ap (λ (l : List Formula). and_then (λ (f : Formula). Ok (record { stack = f ∷ reverse (formulas_in xs (take b es)); kept = formulas_in xs ks })) (applied thm frame l)) (taken_is xs es b n e)

pub fits : (thm : Theorem) (frame : Frame) (xs : List Sym) (es ks : List Span) (b : ℕ) → b + length frame.hyps ≡ length es → entries_fault thm frame (entries_of frame.hyps xs (drop b es)) ≡ None
    → apply_frame thm frame (state_of xs es ks) ≡ Ok (push (substituted (entries_of frame.hyps xs (drop b es)) frame.formula) (state_of xs (take b es) ks))
fits thm frame xs es ks b e n = enough thm frame xs es ks b e ∙ ap (outcome thm frame xs es ks b) n

faulty : (thm : Theorem) (frame : Frame) (xs : List Sym) (es ks : List Span) (b : ℕ) (f : MachineFault) → b + length frame.hyps ≡ length es
    → entries_fault thm frame (entries_of frame.hyps xs (drop b es)) ≡ Some f
    → apply_frame thm frame (state_of xs es ks) ≡ Err f
faulty thm frame xs es ks b f e n = enough thm frame xs es ks b e ∙ ap (outcome thm frame xs es ks b) n

pub fails : (thm : Theorem) (frame : Frame) (xs : List Sym) (es ks : List Span) (b : ℕ) (fault : StepFault) → b + length frame.hyps ≡ length es
    → FailsAs fault (entries_fault thm frame (entries_of frame.hyps xs (drop b es)))
    → FailsWith fault (apply_frame thm frame (state_of xs es ks))
fails thm frame xs es ks b step.Memory e h = tt
fails thm frame xs es ks b step.Underflow e h = faulty thm frame xs es ks b _ e h
fails thm frame xs es ks b step.TypeDiffers e h = faulty thm frame xs es ks b _ e h
fails thm frame xs es ks b (step.HypDiffers x f) e h = faulty thm frame xs es ks b _ e h
fails thm frame xs es ks b (step.Shared x y v) e h = faulty thm frame xs es ks b _ e h
fails thm frame xs es ks b (step.NotDistinct v w) e h = faulty thm frame xs es ks b _ e h
fails thm frame xs es ks b step.NotEarlier e h = faulty thm frame xs es ks b _ e h
fails thm frame xs es ks b step.Unknown e h = faulty thm frame xs es ks b _ e h

-- ---- the same, as the code names the parts

pub fails_at : (thm : Theorem) (frame : Frame) (xs ys : List Sym) (es fs ks spans : List Span) (b : ℕ) (fault : StepFault) → ys ≡ xs → fs ≡ es → spans ≡ drop b fs → b + length frame.hyps ≡ length es
    → FailsAs fault (entries_fault thm frame (entries_of frame.hyps ys spans)) → FailsWith fault (apply_frame thm frame (state_of xs es ks))
fails_at thm frame xs ys es fs ks spans b fault ex ef eb e h =
    let top : spans ≡ drop b es = eb ∙ ap (drop b) ef in
    fails thm frame xs es ks b fault e (
    subst (λ (zs : List Sym). FailsAs fault (entries_fault thm frame (entries_of frame.hyps zs (drop b es)))) ex
    (subst (λ (l : List Span). FailsAs fault (entries_fault thm frame (entries_of frame.hyps ys l))) top h))

pub fits_at : (thm : Theorem) (frame : Frame) (xs ys : List Sym) (es fs ks ls spans : List Span) (hs : List Hyp) (b : ℕ) (new : State) (f g cleared formula : List Sym)
    → ys ≡ xs → fs ≡ es → spans ≡ drop b fs → b + length frame.hyps ≡ length es → hs ≡ frame.hyps → formula ≡ frame.formula → cleared ≡ []
    → f ≡ g → g ≡ cleared ++ substituted (entries_of hs ys spans) formula → ls ≡ take b es → new ≡ push f (state_of xs ls ks)
    → entries_fault thm frame (entries_of frame.hyps ys spans) ≡ None → apply_frame thm frame (state_of xs es ks) ≡ Ok new
fits_at thm frame xs ys es fs ks ls spans hs b new f g cleared formula ex ef eb e eh ek ec fg eg el en none =
    let top : spans ≡ drop b es = eb ∙ ap (drop b) ef in
    let result : Formula = substituted (entries_of frame.hyps xs (drop b es)) frame.formula in
    let fine : entries_fault thm frame (entries_of frame.hyps xs (drop b es)) ≡ None =
    subst (λ (zs : List Sym). entries_fault thm frame (entries_of frame.hyps zs (drop b es)) ≡ None) ex
    (subst (λ (l : List Span). entries_fault thm frame (entries_of frame.hyps ys l) ≡ None) top none) in
    let is : f ≡ result =
    fg ∙ eg ∙ ap (λ (c : List Sym). c ++ substituted (entries_of hs ys spans) formula) ec ∙ ap (λ (h : List Hyp). substituted (entries_of h ys spans) formula) eh
    ∙ ap (λ (z : List Sym). substituted (entries_of frame.hyps z spans) formula) ex ∙ ap (λ (l : List Span). substituted (entries_of frame.hyps xs l) formula) top
    ∙ ap (substituted (entries_of frame.hyps xs (drop b es))) ek in
    fits thm frame xs es ks b e fine ∙ sym (ap (λ (s : State). Ok s) (en ∙ ap (λ (x : Formula). push x (state_of xs ls ks)) is ∙ ap (λ (l : List Span). push result (state_of xs l ks)) el))
