-- The hypotheses with their entries, one after the other.
use Rattle.std.proofs.Common.{◌≡◌, ◌≤◌, ◌<◌, ℕ, zero, suc, ◌+◌, Bool, true, false, List, [], ◌∷◌, length, drop, get_or, Some, None, refl, sym, ap, ◌∙◌, arith, subst}
use Rattle.std.specs.Prelude.{find, is_some, option_map}
use Rattle.std.specs.List.{zip}
use Rattle.std.proofs.lemmas.List.{drop_all, get_or-map, length-map}
use Rattle.std.proofs.lemmas.Slice.Zip.{length-zip}
use Rattle.std.proofs.Math.Seq.{drop-cons}
use Rattle.mm_base.specs.declared.symbols.Sym.{Sym}
use Rattle.mm_model.specs.declared.frames.Hyp.{Hyp}
use Rattle.proof_model.specs.Machine.{Entry, Formula, differs_in_formula, hyp_differs, hyp_fault, substituted}
use Rattle.stack_verify.specs.declared.fault.StepFault.{StepFault}
use Rattle.stack_verify.specs.declared.fault.StepFault.TheVariants as step
use Rattle.stack_verify.specs.declared.formula.Span.{Span}
use Rattle.stack_verify.specs.Stacks.{formula_in, formulas_in, entries_of}
use Rattle.stack_verify.specs.Steps.{FailsAs, IsHypFault}
use Rattle.stack_verify.proofs.Substitutes.{cond_then, cond_else}

zip_at : {H F : Type 0} (hs : List H) (fs : List F) (k : ℕ) (dh : H) (df : F) → length fs ≡ length hs → get_or (zip hs fs) k (dh, df) ≡ (get_or hs k dh, get_or fs k df)
zip_at [] [] k dh df e = refl
zip_at [] (f ∷ fs) k dh df e = absurd (omega arith)
zip_at (h ∷ hs) [] k dh df e = absurd (omega arith)
zip_at (h ∷ hs) (f ∷ fs) zero dh df e = refl
zip_at (h ∷ hs) (f ∷ fs) (suc k) dh df e = zip_at hs fs k dh df (omega arith)

pub entries_count : (hyps : List Hyp) (symbols : List Sym) (spans : List Span) → length spans ≡ length hyps → length (entries_of hyps symbols spans) ≡ length hyps
entries_count hyps symbols spans e = length-zip hyps (formulas_in symbols spans) ∙ omega (arith, length-map spans (formula_in symbols))

-- the hypothesis and the entry with this number, and those behind them
pub record Here (es : List Entry) (k : ℕ) (e : Entry) : Type 0 where
  pub rest : drop k es ≡ e ∷ drop (suc k) es

pub entry_here : (hyps : List Hyp) (symbols : List Sym) (spans : List Span) (k : ℕ) (h : Hyp) (d : Span) → length spans ≡ length hyps
    → k < length hyps → h ≡ get_or hyps k h → Here (entries_of hyps symbols spans) k (h, formula_in symbols (get_or spans k d))
entry_here hyps symbols spans k h d e low is =
    let es = entries_of hyps symbols spans in
    let item : get_or es k (h, formula_in symbols d) ≡ (h, formula_in symbols (get_or spans k d)) =
    zip_at hyps (formulas_in symbols spans) k h (formula_in symbols d) (length-map spans (formula_in symbols) ∙ e)
    ∙ ap (λ (x : Hyp). (x, get_or (formulas_in symbols spans) k (formula_in symbols d))) (sym is)
    ∙ ap (λ (f : Formula). (h, f)) (get_or-map (formula_in symbols) spans k d (formula_in symbols d) (omega arith)) in
    record { rest = drop-cons es k (h, formula_in symbols d) (omega (arith, entries_count hyps symbols spans e)) ∙ ap (λ (x : Entry). x ∷ drop (suc k) es) item }

-- the first that passes is not among those before this number
pub record Next (P : Entry → Bool) (es : List Entry) (k : ℕ) : Type 0 where
  pub rest : find P (drop k es) ≡ find P es

pub next_start : (P : Entry → Bool) (es : List Entry) → Next P es 0
next_start P es = record { rest = refl }

pub next_more : (P : Entry → Bool) (es : List Entry) (k : ℕ) (e : Entry) → Here es k e → P e ≡ false → Next P es k → Next P es (k + 1)
next_more P es k e h no_pass n =
    let one : k + 1 ≡ suc k = omega arith in
    let on : find P (drop (suc k) es) ≡ find P es = sym (ap (find P) h.rest ∙ cond_else (P e) (Some e) (find P (drop (suc k) es)) no_pass) ∙ n.rest in
    record { rest = subst (λ (j : ℕ). find P (drop j es) ≡ find P es) (sym one) on }

pub next_found : (P : Entry → Bool) (es : List Entry) (k : ℕ) (e : Entry) → Here es k e → P e ≡ true → Next P es k → find P es ≡ Some e
next_found P es k e h pass n = sym n.rest ∙ ap (find P) h.rest ∙ cond_then (P e) (Some e) (find P (drop (suc k) es)) pass

pub next_none : (P : Entry → Bool) (es : List Entry) (k : ℕ) → length es ≤ k → Next P es k → find P es ≡ None
next_none P es k past n = sym n.rest ∙ ap (find P) (drop_all k es past)

-- the same, under another name for the entry
pub entry_at : (hyps : List Hyp) (symbols : List Sym) (spans : List Span) (k : ℕ) (h : Hyp) (f : Formula) (d : Span) → length spans ≡ length hyps
    → k < length hyps → h ≡ get_or hyps k h → f ≡ formula_in symbols (get_or spans k d) → Here (entries_of hyps symbols spans) k (h, f)
entry_at hyps symbols spans k h f d e low is found = subst (λ (g : Formula). Here (entries_of hyps symbols spans) k (h, g)) (sym found) (entry_here hyps symbols spans k h d e low is)

pub found_some : (P : Entry → Bool) (es : List Entry) (k : ℕ) (e : Entry) → Here es k e → P e ≡ true → Next P es k → true ≡ is_some (find P es)
found_some P es k e h pass n = sym (ap is_some (next_found P es k e h pass n))

pub found_none : (P : Entry → Bool) (es : List Entry) (k : ℕ) → length es ≤ k → Next P es k → false ≡ is_some (find P es)
found_none P es k past n = sym (ap is_some (next_none P es k past n))

-- the entry for a `$e` that is not the substituted hypothesis
pub hyp_faulty : (es : List Entry) (k : ℕ) (e : Entry) (fault : StepFault) → Here es k e → Next (differs_in_formula es) es k → IsHypFault es e fault → FailsAs fault (hyp_fault es)
hyp_faulty es k e step.Memory h n f = tt
hyp_faulty es k e (step.HypDiffers expected found) h n f =
    ap (option_map (λ (x : Entry). hyp_differs (substituted es x.0.formula) x.1)) (next_found (differs_in_formula es) es k e h f.0 n)
    ∙ ap (λ (x : Formula). Some (hyp_differs x e.1)) (sym f.1) ∙ ap (λ (x : Formula). Some (hyp_differs expected x)) (sym f.2)
hyp_faulty es k e step.Underflow h n f = absurd f
hyp_faulty es k e step.TypeDiffers h n f = absurd f
hyp_faulty es k e (step.Shared x y v) h n f = absurd f
hyp_faulty es k e (step.NotDistinct v w) h n f = absurd f
hyp_faulty es k e step.NotEarlier h n f = absurd f
hyp_faulty es k e step.Unknown h n f = absurd f

pub no_hyp_fault : (es : List Entry) (k : ℕ) → length es ≤ k → Next (differs_in_formula es) es k → hyp_fault es ≡ None
no_hyp_fault es k past n = ap (option_map (λ (x : Entry). hyp_differs (substituted es x.0.formula) x.1)) (next_none (differs_in_formula es) es k past n)
