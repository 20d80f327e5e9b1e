-- A whole answer: over the small database the worksheet is written with its proof, and again as it is. Each part of the
-- answer's meaning holds of it.
use Rattle.std.specs.Prelude.{◌≡◌, ◌<◌, ◌≤◌, ◌^◌, ℕ, zero, suc, Bool, true, false, List, [], ◌∷◌, length, map, take, Contains, slice_get, Option, Some, None, codes, refl}
use Rattle.std.specs.List.{AllByRecursion, AllZip}
use Rattle.std.specs.Fmt.{digits}
use Rattle.std.proofs.Common.{sym, ap, subst, ◌∙◌, arith, inl, inr}
use Rattle.mm_base.specs.declared.symbols.Typecode.{Typecode}
use Rattle.mm_base.specs.declared.tree.Tree.{Tree}
use Rattle.mm_base.specs.Trees.{code_of}
use Rattle.mm_model.specs.Names.{sym as symbol}
use Rattle.mm_model.specs.Productions.{TypedVariable}
use Rattle.mm_model.specs.Typed.{IsTyped}
use Rattle.mm_model.proofs.SizeLaws.{node_counts}
use Rattle.mm_model.proofs.TextLaws.{texts}
use Rattle.mm_model.proofs.TypedLaws.{code-Var, code-Work, typed-Var, typed-Work}
use Rattle.proof_model.specs.declared.theorem.Theorem.{Theorem}
use Rattle.proof_model.specs.Codes.{normal_code}
use Rattle.proof_model.specs.Proofs.{by, none, proofs, postorder}
use Rattle.sheet_text.specs.declared.sheet.Sheet.{Sheet}
use Rattle.sheet_text.specs.declared.sheet.SheetStep.{SheetStep}
use Rattle.sheet_text.specs.TextFaults.{text_fault}
use Rattle.sheet_text.specs.Layout.{layout, steps, spaced}
use Rattle.sheet_text.specs.Reads.{Reads, unnumbered}
use Rattle.solve_model.specs.declared.bound.BoundStep.{BoundStep}
use Rattle.solve_model.specs.BindFaults.{BindFaultAt, at_header, at_step, at_pairs, no_tree, two_trees}
use Rattle.solve_model.specs.Binding.{theorem_of}
use Rattle.solve_model.specs.Bound.{Binds, standing, work_size}
use Rattle.solve_model.specs.Formulas.{IsTheTree, HasNoTree, HasTwoTrees}
use Rattle.solve_model.specs.MostGeneral.{refine, IsInstance, IsTheValuation}
use Rattle.solve_model.specs.Solutions.{Unknown, named, blank, copy, Valuation, Asked, IsUnknown, in_formula, is_blank, in_frame, IsValuation, Solves, unknown_code}
use Rattle.solve_model.specs.Trees.{Open, work, fresh, leaf_tree, Occurs}
use Rattle.solve_model.specs.Verdicts.{Judgement, accepted, accepted_in, IsJudgement, AreJudged}
use Rattle.solve_model.proofs.TreeLaws.{replaces, leaves}
use Rattle.written_model.specs.declared.options.DvMode.TheVariants as dv
use Rattle.written_model.specs.declared.options.ProofStyle.TheVariants as style
use Rattle.written_model.specs.Found.{IsSearched}
use Rattle.written_model.specs.ProvesItself.{ProvesItself, IsFixed}
use Rattle.written_model.specs.Named.{IsNaming, IsWrittenLeaf, WorkVariable, new_works, name_tree}
use Rattle.written_model.specs.ProofTrees.{Finished, is_complete}
use Rattle.written_model.specs.Found.{is_ground}
use Rattle.written_model.specs.WholeExample.{wff, ps, variable, any, db, options, read_text, written_text_is, numbered, qed, trees, candidate, value, fitting, writing}
use Rattle.written_model.specs.WrittenSteps.{WrittenStep, step, steps_in, trees as trees_of}
use Rattle.written_model.specs.Written.{Writing, Writes, HasNoLateFault, LateFault, Answers, wrote, after_filling, after_naming, ItemIsSearched}
use Rattle.written_model.specs.Written.{written_sheet, written_text, written_bound, qed_proof, proof_text, step_tokens, formula_tokens}
use Rattle.written_model.proofs.SyntaxProofs.{syntax_proofs}
use Rattle.written_model.proofs.WholeDatabase.{parses_variable, parses_only}

-- ---- it binds

the_tree : IsTheTree db 5 (codes "|-" ∷ codes "ps" ∷ []) ps
the_tree = record { parses = parses_variable 5 3; only = λ u p. parses_only 5 3 u p }

abbrev the_step : SheetStep
the_step = record { line = 2; hyp = false; name = codes "qed"; places = []; reference = Some (codes "any"); formula = codes "|-" ∷ codes "ps" ∷ [] }

the_steps : steps numbered ≡ the_step ∷ []
the_steps = refl

some_is : {X : Type 0} (a b : X) → Some a ≡ Some b → a ≡ b
some_is a b e = cc

abbrev HeaderRule : Type 0
HeaderRule = ℕ × (Sheet → Bool)

abbrev StepRule : Type 0
StepRule = ℕ × (ℕ → SheetStep → Bool)

-- a rule of a table that fails does not hold
no_header_rule : (n code : ℕ) (a rule : Sheet → Bool) → ◌≡◌ {A = Option HeaderRule} (Some (n, a)) (Some (code, rule)) → a numbered ≡ false → rule numbered ≡ true → ⊥
no_header_rule n code a rule e f h = let value : a numbered ≡ rule numbered = ap (λ (r : HeaderRule). r.1 numbered) (some_is {X = HeaderRule} (n, a) (code, rule) e) in cc

no_step_rule : (n code i : ℕ) (a rule : ℕ → SheetStep → Bool) (t : SheetStep) → ◌≡◌ {A = Option StepRule} (Some (n, a)) (Some (code, rule))
    → Some the_step ≡ Some t → a i the_step ≡ false → rule i t ≡ true → ⊥
no_step_rule n code i a rule t e s f h =
    let step_is : the_step ≡ t = some_is the_step t s in
    let value : a i the_step ≡ rule i the_step = ap (λ (r : StepRule). r.1 i the_step) (some_is {X = StepRule} (n, a) (code, rule) e) in
    let there : rule i the_step ≡ rule i t = ap (rule i) step_is in
    cc

one_tree : HasTwoTrees db 5 (codes "|-" ∷ codes "ps" ∷ []) → ⊥
one_tree h = h.differ (the_tree.only h.one h.one_parses ∙ sym (the_tree.only h.other h.other_parses))

sound : (line code : ℕ) → BindFaultAt db numbered line code → ⊥
sound line code (at_header zero e h) = no_header_rule _ _ _ _ e refl h
sound line code (at_header (suc zero) e h) = no_header_rule _ _ _ _ e refl h
sound line code (at_header (suc (suc zero)) e h) = no_header_rule _ _ _ _ e refl h
sound line code (at_header (suc (suc (suc k))) e h) = cc
sound line code (at_step k (suc i) e s h) = cc
sound line code (at_step zero zero e s h) = no_step_rule _ _ _ _ _ _ e s refl h
sound line code (at_step (suc zero) zero e s h) = no_step_rule _ _ _ _ _ _ e s refl h
sound line code (at_step (suc (suc zero)) zero e s h) = no_step_rule _ _ _ _ _ _ e s refl h
sound line code (at_step (suc (suc (suc zero))) zero e s h) = no_step_rule _ _ _ _ _ _ e s refl h
sound line code (at_step (suc (suc (suc (suc zero)))) zero e s h) = no_step_rule _ _ _ _ _ _ e s refl h
sound line code (at_step (suc (suc (suc (suc (suc zero))))) zero e s h) = no_step_rule _ _ _ _ _ _ e s refl h
sound line code (at_step (suc (suc (suc (suc (suc (suc zero)))))) zero e s h) = no_step_rule _ _ _ _ _ _ e s refl h
sound line code (at_step (suc (suc (suc (suc (suc (suc (suc zero))))))) zero e s h) = no_step_rule _ _ _ _ _ _ e s refl h
sound line code (at_step (suc (suc (suc (suc (suc (suc (suc (suc k)))))))) zero e s h) = cc
sound line code (at_pairs i e h) = cc
sound line code (no_tree (suc i) s h n) = cc
sound line code (no_tree zero s h n) = subst (λ (t : SheetStep). HasNoTree db 5 t.formula) (sym (some_is the_step _ s)) n ps the_tree.parses
sound line code (two_trees (suc i) s h n) = cc
sound line code (two_trees zero s h n) = one_tree (subst (λ (t : SheetStep). HasTwoTrees db 5 t.formula) (sym (some_is the_step _ s)) n)

binds : Binds db numbered trees
binds = record {
  sound = sound;
  place = refl;
  existing = refl;
  steps = (record { hyp = refl; name = refl; places = refl; reference = refl; tree = the_tree }, tt);
  pairs = refl;
  theorem = refl;
}

-- ---- the step fits, and its most general valuation

abbrev On : Unknown → Type 0
On = IsUnknown trees (candidate ∷ [])

is_valuation : IsValuation db 5 On value
is_valuation = record { code = λ u on. code u; typed = λ u on. typed u }
  where
    code : (u : Unknown) → code_of (value u) ≡ unknown_code db u
    code (named c n) = code-Work c n
    code (blank i) = code-Var _ _
    code (copy i s c) = code-Var _ _

    typed : (u : Unknown) → IsTyped [] 5 (value u)
    typed (named c n) = typed-Work [] 5 c n
    typed (blank i) = typed-Var [] 5 _ _
    typed (copy i s c) = typed-Var [] 5 _ _

solves : Solves trees value candidate
solves = record { conclusion = simp replaces refl; places = tt }

no_leaf : (x : Open) → Occurs x ps → ⊥
no_leaf x o = let none : Contains [] x = simp leaves at o in omega (arith, none.1)

formula_is : (i : ℕ) (s : BoundStep) (t : Tree) → slice_get (qed ∷ []) i ≡ Some s → s.tree ≡ Some t → t ≡ ps
formula_is zero s t e f = let same : qed ≡ s = cc in let all : Some ps ≡ Some t = ap (λ (b : BoundStep). b.tree) same ∙ f in sym (some_is ps t all)
formula_is (suc i) s t e f = absurd (cc)

no_blank : (i : ℕ) (s : BoundStep) → slice_get (qed ∷ []) i ≡ Some s → s.tree ≡ None → ⊥
no_blank zero s e f = let same : qed ≡ s = cc in let all : Some ps ≡ None = ap (λ (b : BoundStep). b.tree) same ∙ f in cc
no_blank (suc i) s e f = cc

candidate_is : (x : Asked) → Contains (candidate ∷ []) x → x ≡ candidate
candidate_is x (zero, l, e) = sym e
candidate_is x (suc k, l, e) = absurd (omega (arith, l))

variable_is : (v : TypedVariable) → Contains (variable ∷ []) v → v ≡ variable
variable_is v (zero, l, e) = sym e
variable_is v (suc k, l, e) = absurd (omega (arith, l))

-- the one unknown is the assertion's variable
only_unknown : (u : Unknown) → On u → u ≡ copy 0 (symbol 2) wff
only_unknown (named c n) (in_formula i s t e f o) = absurd (no_leaf (work c n) (subst (Occurs (work c n)) (formula_is i s t e f) o))
only_unknown (blank i) (is_blank s e f) = absurd (no_blank i s e f)
only_unknown (copy i s c) (in_frame x v m o) =
    let step_is = candidate_is x m in
    let var_is = variable_is v (subst (λ (y : Asked). Contains y.assertion.vars v) step_is o) in
    ap (λ (y : Asked). copy y.step v.sym v.code) step_is ∙ ap (λ (w : TypedVariable). copy 0 w.sym w.code) var_is

general : (v : Valuation) → AllByRecursion (Solves trees v) (candidate ∷ []) → IsInstance On value v
general v s = record { by = leaf_tree; same = λ u on. subst (λ w. v w ≡ refine leaf_tree (value w)) (sym (only_unknown u on)) at_copy }
  where
    at_copy : v (copy 0 (symbol 2) wff) ≡ refine leaf_tree ps
    at_copy = let conclusion : v (copy 0 (symbol 2) wff) ≡ ps = simp replaces at (s.0).conclusion in let own : refine leaf_tree ps ≡ ps = simp replaces refl in conclusion ∙ sym own

most_general : IsTheValuation db trees (candidate ∷ []) value
most_general = record {
  most_general = record { is_valuation = is_valuation; solves = (solves, tt); general = λ v is s. general v s };
  canonical = λ u x on o. absurd (no_leaf x (subst (λ w. Occurs x (value w)) (only_unknown u on) o));
}

judgement : IsJudgement db trees [] 0 qed (standing db 5 qed) (accepted candidate)
judgement = IsJudgement.fits {a = any} (inl (refl, record { value = value; is_valuation = is_valuation; solves = (solves, tt) }))

judged : AreJudged db trees (accepted candidate ∷ [])
judged = record { count = refl; each = each }
  where
    each : (i : ℕ) (s : BoundStep) (o : Judgement) → slice_get (qed ∷ []) i ≡ Some s → slice_get (accepted candidate ∷ []) i ≡ Some o
        → IsJudgement db trees (accepted_in (take i (accepted candidate ∷ []))) i s (standing db 5 s) o
    each zero s o e f = let a : qed ≡ s = cc in let b : accepted candidate ≡ o = cc in
        subst (λ t. IsJudgement db trees [] 0 t (standing db 5 t) o) a (subst (λ q. IsJudgement db trees [] 0 qed (standing db 5 qed) q) b judgement)
    each (suc i) s o e f = absurd (cc)

size : work_size db trees ≡ 2
size = simp node_counts refl

size_fits : work_size db trees ≤ 2 ^ 24
size_fits = let is = size in omega (arith, is)

-- ---- what is written

filled_is : after_filling db options writing ≡ step fitting ∷ []
unfolding digits
filled_is = simp replaces refl

named_is : after_naming db options writing ≡ step fitting ∷ []
unfolding digits
named_is = simp replaces refl

no_fresh : (c : Typecode) (n : ℕ) → IsWrittenLeaf (ps ∷ []) c n → ⊥
no_fresh c n (t, (zero, l, e), o) = no_leaf (fresh c n) (subst (Occurs (fresh c n)) (sym e) o)
no_fresh c n (t, (suc k, l, e), o) = omega (arith, l)

naming_of : IsNaming db trees (ps ∷ []) (λ c n. None)
naming_of = record {
  named = λ c n h. absurd (no_fresh c n h);
  others = λ c n h. refl;
  once = λ c n m k e f. absurd (cc);
  least = rw no_works (λ k w e. absurd (none k w e));
}
  where
    no_works : new_works db trees (map (name_tree (λ c n. None)) (ps ∷ [])) ≡ []
    no_works = simp (replaces, texts) refl

    none : (k : ℕ) (w : WorkVariable) → slice_get [] k ≡ Some w → ⊥
    none zero w e = cc
    none (suc k) w e = cc

naming : IsNaming db trees (trees_of (steps_in (after_filling db options writing))) (λ c n. None)
naming = subst (λ items. IsNaming db trees (trees_of (steps_in items)) (λ c n. None)) (sym filled_is) naming_of

ready : (i : ℕ) (e : WrittenStep) → slice_get (fitting ∷ []) i ≡ Some e → (is_ground e.tree ≡ true) × (is_complete dv.Add [] e ≡ true)
ready zero e h = let same : fitting ≡ e = cc in subst (λ (f : WrittenStep). (is_ground f.tree ≡ true) × (is_complete dv.Add [] f ≡ true)) same (simp leaves refl, refl)
ready (suc i) e h = absurd (cc)

finished : Finished dv.Add [] (fitting ∷ [])
finished = record { hyps = λ i e h is. (ready i e h).0; no_work = λ i e h b. (ready i e h).0; complete = λ i e h b. (ready i e h).1 }

searched : AllZip (ItemIsSearched db options writing) (after_naming db options writing) (step fitting ∷ [])
searched = subst (λ items. AllZip (ItemIsSearched db options writing) items (step fitting ∷ [])) (sym named_is) ((fitting, refl, IsSearched.not_searched refl), tt)

-- each text that says this worksheet becomes this
writes : (t : List ℕ) → Reads t numbered → Writes db t options writing
writes t says = record {
  reads = record { read = numbered; reads = says; same = refl };
  binds = binds;
  within_limit = size_fits;
  judged = judged;
  most_general = most_general;
  naming = naming;
  searched = searched;
  finished = (λ is. finished, λ is. refl);
}

as_read : Reads read_text numbered
as_read = record { sound = refl; says = refl }

-- the written text says the same
as_written : Reads written_text_is numbered
as_written = record { sound = refl; says = refl }

-- ---- the text

written_sheet_is : written_sheet db options writing ≡ unnumbered numbered
written_sheet_is = simp texts refl

abbrev theorem : Theorem
theorem = theorem_of db (unnumbered numbered)

proof_is : qed_proof db theorem (fitting ∷ []) ≡ by (codes "any") (proofs (by (codes "wps") none ∷ []))
proof_is = simp syntax_proofs refl

text_of : (s : Sheet) → s ≡ unnumbered numbered → layout s (Some (proof_text db style.Normal (theorem_of db s) (fitting ∷ []))) ≡ written_text_is
text_of s e = rw e (subst (λ p. layout (unnumbered numbered) (Some (spaced (postorder p))) ≡ written_text_is) (sym proof_is) refl)

pub text_is : written_text db options writing ≡ written_text_is
text_is = text_of (written_sheet db options writing) written_sheet_is

-- ---- nothing is too long

length_is : length written_text_is ≡ 75
length_is = refl

short : 2 ^ 24 < length (written_text db options writing) → ⊥
short l = let is = ap (λ bytes. length bytes) text_is in let number = length_is in omega (arith, l, is, number)

few_tokens : 4096 < length (step_tokens db options writing fitting) → ⊥
few_tokens l = let is : length (step_tokens db options writing fitting) ≡ 2 = simp texts refl in omega (arith, l, is)

written_size : work_size db (written_bound db options writing) ≡ 2
written_size = simp node_counts refl

labels_of : (s : Sheet) → s ≡ unnumbered numbered → length (postorder (qed_proof db (theorem_of db s) (fitting ∷ []))) ≡ 2
labels_of s e = rw e (ap (λ p. length (postorder p)) proof_is)

no_first : (e : WrittenStep) → Some e ≡ None → ⊥
no_first e h = cc

no_late_fault : HasNoLateFault db options writing
no_late_fault k r (LateFault.long e (inl h)) = few_tokens h.1
no_late_fault k r (LateFault.long e (inr h)) = no_first e h.1
no_late_fault k r (LateFault.ambiguous e (inl h)) = one_tree (subst (λ ts. HasTwoTrees db 5 ts) tokens_are h.1)
  where
    tokens_are : formula_tokens db ps ≡ codes "|-" ∷ codes "ps" ∷ []
    tokens_are = simp texts refl
no_late_fault k r (LateFault.ambiguous e (inr h)) = no_first e h.1
no_late_fault k r (LateFault.much l) = let is = written_size in omega (arith, l, is)
no_late_fault k r (LateFault.proof f s l) = let is = labels_of (written_sheet db options writing) written_sheet_is in omega (arith, l, is)
no_late_fault k r (LateFault.large l) = short l

-- ---- the answer

abbrev tokens : List (List ℕ)
tokens = codes "wps" ∷ codes "any" ∷ []

pub proves : ProvesItself db options written_text_is
proves = record { sheet = numbered; reads = as_written; tokens = tokens; has_proof = refl; code = normal_code (theorem_of db numbered).mandatory tokens; is_code = refl; accepted = refl }

no_text_fault : text_fault read_text ≡ None
no_text_fault = refl

no_text_fault_again : text_fault written_text_is ≡ None
no_text_fault_again = refl

pub answers : Answers db read_text options (wrote writing)
answers = Answers.written no_text_fault (writes read_text as_read) no_late_fault

pub fixed : (w : Writing) → wrote writing ≡ wrote w → IsFixed db options written_text_is w.finished
fixed w e = record { writing = writing; answers = Answers.written no_text_fault_again (writes written_text_is as_written) no_late_fault; same_text = text_is; same_end = finishes w e }
  where
    finishes : (w : Writing) → wrote writing ≡ wrote w → true ≡ w.finished
    finishes w e = let same : writing ≡ w = cc in ap (λ (v : Writing). v.finished) same
