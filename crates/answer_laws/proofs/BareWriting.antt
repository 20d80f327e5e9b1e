-- What is written and reported does not rest on the numbers of fresh leaves in the values of uses.
use Rattle.std.specs.Prelude.{◌≡◌, ◌++◌, ◌==◌, ◌&&◌, ◌||◌, not, ℕ, zero, suc, List, [], ◌∷◌, length, map, filter, filter_map, flat_map, fold, find}
use Rattle.std.specs.Prelude.{zip, slice_get, if◌then◌else◌, unwrap_or, Contains, Option, Some, None, option_map, is_none, is_some, refl}
use Rattle.std.specs.List.{list_all}
use Rattle.std.specs.Option.{option_map_or}
use Rattle.std.proofs.Common.{sym, ap, subst, ◌∙◌, inl, inr}
use Rattle.std.proofs.lemmas.Bool.{cases_Bool}
use mathlib.Core.Path.{fun_ext}
use Rattle.mm_base.specs.declared.symbols.Sym.{Sym}
use Rattle.mm_base.specs.declared.symbols.Pair.{Pair}
use Rattle.mm_base.specs.declared.symbols.Typecode.{Typecode}
use Rattle.mm_base.specs.declared.tree.Tree.{Tree}
use Rattle.mm_base.specs.declared.tree.Tree.TheVariants.{Fresh}
use Rattle.mm_base.specs.Trees.{Each}
use Rattle.mm_base.proofs.TreeInduction.{tree_ind}
use Rattle.mm_base.proofs.TreeFolds.{fold-Fresh}
use Rattle.mm_model.specs.declared.frames.Hyp.{Hyp}
use Rattle.mm_model.specs.Names.{Name}
use Rattle.mm_model.specs.Productions.{TypedVariable}
use Rattle.mm_model.specs.Book.{Database, label_name}
use Rattle.proof_model.specs.Machine.{is_shared}
use Rattle.proof_model.specs.Proofs.{Proof, by, none, proofs}
use Rattle.sheet_text.specs.declared.sheet.Given.{Given}
use Rattle.sheet_text.specs.declared.sheet.Given.TheVariants as given
use Rattle.solve_model.specs.Trees.{variables, flatten}
use Rattle.solve_model.specs.PairSets.{ordered, is_pair_in, pair_set}
use Rattle.solve_model.specs.Solutions.{names_step}
use Rattle.solve_model.proofs.TreeLaws.{replace-Var, replace-Work, replace-Fresh, replace-Node, variables-Fresh, variables-Node}
use Rattle.written_model.specs.declared.options.DvMode.{DvMode}
use Rattle.written_model.specs.declared.options.DvMode.TheVariants as dv
use Rattle.written_model.specs.WrittenSteps.{Use, WrittenStep, no_tree, value_of}
use Rattle.written_model.specs.Pairs.{lesser, clash_of, needed, needed_by, pairs_of, lack_of}
use Rattle.written_model.specs.ProofTrees.{Below, at_qed, listed, is_complete_use, is_complete, Finished, syntax_proof, place_proof, hyp_proofs, use_proof, step_proof, step_proofs}
use Rattle.written_model.specs.Report.{step_clash, step_lack, report_of}
use Rattle.written_model.specs.Found.{is_ground}
use Rattle.written_model.proofs.SyntaxProofs.{syntax-Node}
use Rattle.answer_laws.specs.Bare.{unnumbered_leaf, bare}
use Rattle.answer_laws.proofs.Moved.{move_use}
use Rattle.answer_laws.proofs.SearchedAlike.{bare_step}

-- ---- a bare tree has the variables of the tree, and its proof

all_variables : (ts : List Tree) → Each (λ t. variables (bare t) ≡ variables t) ts → flatten (map variables (map bare ts)) ≡ flatten (map variables ts)
all_variables [] h = refl
all_variables (t ∷ ts) h = ap (λ xs. xs ++ flatten (map variables (map bare ts))) h.0 ∙ ap (λ ys. variables t ++ ys) (all_variables ts h.1)

pub bare-variables : (t : Tree) → variables (bare t) ≡ variables t
bare-variables = tree_ind (λ t. variables (bare t) ≡ variables t)
    (λ s c. ap variables (replace-Var _ unnumbered_leaf s c))
    (λ c n. ap variables (replace-Work _ unnumbered_leaf c n))
    (λ c n. ap variables (replace-Fresh _ unnumbered_leaf c n) ∙ variables-Fresh c 0 ∙ sym (variables-Fresh c n))
    (λ l c ts h. ap variables (replace-Node _ unnumbered_leaf l c ts) ∙ variables-Node l c (map bare ts) ∙ all_variables ts h ∙ sym (variables-Node l c ts))

module _ (db : Database) (hyps : List Hyp) where
  syntax-Fresh : (c : Typecode) (n : ℕ) → syntax_proof db hyps (Fresh c n) ≡ by [] none
  unfolding syntax_proof
  syntax-Fresh c n = fold-Fresh Proof _ c n

  all_syntax : (ts : List Tree) → Each (λ t. syntax_proof db hyps (bare t) ≡ syntax_proof db hyps t) ts → map (syntax_proof db hyps) (map bare ts) ≡ map (syntax_proof db hyps) ts
  all_syntax [] h = refl
  all_syntax (t ∷ ts) h = ap (λ x. x ∷ map (syntax_proof db hyps) (map bare ts)) h.0 ∙ ap (λ xs. syntax_proof db hyps t ∷ xs) (all_syntax ts h.1)

  pub bare-syntax : (t : Tree) → syntax_proof db hyps (bare t) ≡ syntax_proof db hyps t
  bare-syntax = tree_ind (λ t. syntax_proof db hyps (bare t) ≡ syntax_proof db hyps t)
      (λ s c. ap (syntax_proof db hyps) (replace-Var _ unnumbered_leaf s c))
      (λ c n. ap (syntax_proof db hyps) (replace-Work _ unnumbered_leaf c n))
      (λ c n. ap (syntax_proof db hyps) (replace-Fresh _ unnumbered_leaf c n) ∙ syntax-Fresh c 0 ∙ sym (syntax-Fresh c n))
      (λ l c ts h. ap (syntax_proof db hyps) (replace-Node _ unnumbered_leaf l c ts) ∙ syntax-Node db hyps l c (map bare ts)
      ∙ ap (λ ps. by (label_name db l) (proofs ps)) (all_syntax ts h) ∙ sym (syntax-Node db hyps l c ts))

-- ---- the values of a bare use

abbrev picked : Option (TypedVariable × Tree) → Tree
picked o = option_map_or (λ p. p.1) o no_tree

value_by : (s : Sym) (vars : List TypedVariable) (ts : List Tree)
    → picked (find (λ (p : TypedVariable × Tree). p.0.sym.0 == s.0) (zip vars (map bare ts))) ≡ bare (picked (find (λ (p : TypedVariable × Tree). p.0.sym.0 == s.0) (zip vars ts)))
value_by s [] ts = sym (replace-Work _ unnumbered_leaf _ 0)
value_by s (v ∷ vs) [] = sym (replace-Work _ unnumbered_leaf _ 0)
value_by s (v ∷ vs) (t ∷ ts) = elim (cases_Bool (v.sym.0 == s.0)) [
  | inl e ↦ rw e refl
  | inr e ↦ rw e (value_by s vs ts)
]

pub bare-value : (u : Use) (s : Sym) → value_of (move_use bare u) s ≡ bare (value_of u s)
bare-value u s = value_by s u.assertion.vars u.values

abbrev value_variables : Use → Sym → List Sym
value_variables u s = variables (value_of u s)

values_variables : (u : Use) → value_variables (move_use bare u) ≡ value_variables u
values_variables u = fun_ext (λ s. ap variables (bare-value u s) ∙ bare-variables (value_of u s))

-- ---- pairs

abbrev crossed : (Sym → List Sym) → Pair → List (Sym × Sym)
crossed vs p = flat_map (λ v. map (λ w. (v, w)) (vs p.b)) (vs p.a)

abbrev needed_with : List Pair → (Sym → List Sym) → List Pair
needed_with ps vs = pair_set (map (λ (q : Sym × Sym). ordered q.0 q.1) (filter (λ q. not (is_shared q)) (flat_map (crossed vs) ps)))

abbrev clash_with : List Pair → (Sym → List Sym) → Option Sym
clash_with ps vs = slice_get (filter_map (λ p. fold lesser None (map (λ (q : Sym × Sym). q.0) (filter is_shared (crossed vs p)))) ps) 0

pub bare-needed : (u : Use) → needed (move_use bare u) ≡ needed u
bare-needed u = ap (needed_with u.assertion.frame.pairs) (values_variables u)

pub bare-clash : (u : Use) → clash_of (move_use bare u) ≡ clash_of u
bare-clash u = ap (clash_with u.assertion.frame.pairs) (values_variables u)

pub bare-lack : (mode : DvMode) (allowed : List Pair) (u : Use) → lack_of mode allowed (move_use bare u) ≡ lack_of mode allowed u
bare-lack dv.Add allowed u = refl
bare-lack dv.Given allowed u = ap (find (λ p. not (is_pair_in allowed p))) (bare-needed u)

bare-needed_by : (o : Option Use) → needed_by (option_map (move_use bare) o) ≡ needed_by o
bare-needed_by None = refl
bare-needed_by (Some u) = bare-needed u

all_needed : (es : List WrittenStep) → flat_map (λ (e : WrittenStep). needed_by e.by) (map bare_step es) ≡ flat_map (λ (e : WrittenStep). needed_by e.by) es
all_needed [] = refl
all_needed (e ∷ es) = ap (λ ps. ps ++ flat_map (λ (x : WrittenStep). needed_by x.by) (map bare_step es)) (bare-needed_by e.by) ∙ ap (λ ps. needed_by e.by ++ ps) (all_needed es)

pub bare-pairs : (mode : DvMode) (allowed : List Pair) (es : List WrittenStep) → pairs_of mode allowed (map bare_step es) ≡ pairs_of mode allowed es
bare-pairs dv.Given allowed es = refl
bare-pairs dv.Add allowed es = ap (λ ps. pair_set (allowed ++ ps)) (all_needed es)

-- ---- the report

module _ (mode : DvMode) (allowed : List Pair) where
  bare-step_clash : (o : Option Use) → step_clash (option_map (move_use bare) o) ≡ step_clash o
  bare-step_clash None = refl
  bare-step_clash (Some u) = bare-clash u

  bare-step_lack : (o : Option Use) → step_lack mode allowed (option_map (move_use bare) o) ≡ step_lack mode allowed o
  bare-step_lack None = refl
  bare-step_lack (Some u) = ap (λ x. if is_some x then None else lack_of mode allowed (move_use bare u)) (bare-clash u) ∙ ap (λ x. if is_some (clash_of u) then None else x) (bare-lack mode allowed u)

  bare-report_of : (e : WrittenStep) → report_of mode allowed (bare_step e) ≡ report_of mode allowed e
  bare-report_of e =
      ap (λ x. record (report_of mode allowed e) { clash = x; lack = step_lack mode allowed (option_map (move_use bare) e.by) }) (bare-step_clash e.by)
      ∙ ap (λ x. record (report_of mode allowed e) { lack = x }) (bare-step_lack e.by)

  pub bare-report : (es : List WrittenStep) → map (report_of mode allowed) (map bare_step es) ≡ map (report_of mode allowed) es
  bare-report [] = refl
  bare-report (e ∷ es) = ap (λ x. x ∷ map (report_of mode allowed) (map bare_step es)) (bare-report_of e) ∙ ap (λ xs. report_of mode allowed e ∷ xs) (bare-report es)

  -- ---- complete steps

  bare-complete_use : (gs : List Given) (o : Option Use) → is_complete_use mode allowed gs (option_map (move_use bare) o) ≡ is_complete_use mode allowed gs o
  bare-complete_use gs None = refl
  bare-complete_use gs (Some u) =
      ap (λ x. length gs == length u.assertion.hyps && list_all names_step gs && is_none x && is_none (lack_of mode allowed (move_use bare u))) (bare-clash u)
      ∙ ap (λ x. length gs == length u.assertion.hyps && list_all names_step gs && is_none (clash_of u) && is_none x) (bare-lack mode allowed u)

  bare-complete : (e : WrittenStep) → is_complete mode allowed (bare_step e) ≡ is_complete mode allowed e
  bare-complete e = ap (λ x. e.hyp || x) (bare-complete_use e.places e.by)

-- ---- finished worksheets

pub record SameAt (es : List WrittenStep) (i : ℕ) (e : WrittenStep) : Type 0 where
  pub other : WrittenStep
  pub stands : slice_get es i ≡ Some other
  pub same : bare_step e ≡ bare_step other

pub step_at : (es fs : List WrittenStep) → map bare_step es ≡ map bare_step fs → (i : ℕ) (e : WrittenStep) → slice_get es i ≡ Some e → SameAt fs i e
step_at [] fs h i e k = absurd (cc)
step_at (x ∷ es) [] h i e k = absurd (cc)
step_at (x ∷ es) (y ∷ fs) h zero e k =
    let same : bare_step x ≡ bare_step y = cc in
    let is : x ≡ e = cc in
    record { other = y; stands = refl; same = ap bare_step (sym is) ∙ same }
step_at (x ∷ es) (y ∷ fs) h (suc i) e k = let rest : map bare_step es ≡ map bare_step fs = cc in let r = step_at es fs rest i e k in record { other = r.other; stands = r.stands; same = r.same }

below_moved : (es fs : List WrittenStep) → map bare_step es ≡ map bare_step fs → (i : ℕ) → Below es i → Below fs i
below_moved es fs h i (at_qed j {e = e} k m) =
    let r = step_at es fs h j e k in
    at_qed j {e = r.other} r.stands (sym (ap (λ (x : WrittenStep). x.name) r.same) ∙ m)
below_moved es fs h i (listed j {e = e} {k = k} b m o) =
    let r = step_at es fs h j e m in
    listed j {e = r.other} (below_moved es fs h j b) r.stands (subst (λ gs. Contains gs (given.Step k)) (ap (λ (x : WrittenStep). x.places) r.same) o)

pub finished_moved : (mode : DvMode) (allowed : List Pair) (es fs : List WrittenStep) → map bare_step es ≡ map bare_step fs → Finished mode allowed es → Finished mode allowed fs
finished_moved mode allowed es fs h k = record {
  hyps = λ i f e y. let r = step_at fs es (sym h) i f e in ap (λ (x : WrittenStep). is_ground x.tree) r.same ∙ k.hyps i r.other r.stands (sym (ap (λ (x : WrittenStep). x.hyp) r.same) ∙ y);
  no_work = λ i f e b. let r = step_at fs es (sym h) i f e in ap (λ (x : WrittenStep). is_ground x.tree) r.same ∙ k.no_work i r.other r.stands (below_moved fs es (sym h) i b);
  complete = λ i f e b.
      let r = step_at fs es (sym h) i f e in
      sym (bare-complete mode allowed f) ∙ ap (is_complete mode allowed) r.same ∙ bare-complete mode allowed r.other ∙ k.complete i r.other r.stands (below_moved fs es (sym h) i b);
}

-- ---- proofs

module _ (db : Database) (hyps : List Hyp) where
  bare-use_proof : (earlier : List Proof) (gs : List Given) (r : Name) (o : Option Use) → use_proof db hyps earlier gs r (option_map (move_use bare) o) ≡ use_proof db hyps earlier gs r o
  bare-use_proof earlier gs r None = refl
  bare-use_proof earlier gs r (Some u) =
      ap (λ f. by r (proofs (hyp_proofs f u.assertion.frame.hyps (map (place_proof earlier) gs))))
      (fun_ext (λ s. ap (syntax_proof db hyps) (bare-value u s) ∙ bare-syntax db hyps (value_of u s)))

  proofs_from : (es : List WrittenStep) (earlier : List Proof)
      → fold (λ ps e. ps ++ step_proof db hyps ps e ∷ []) earlier (map bare_step es) ≡ fold (λ ps e. ps ++ step_proof db hyps ps e ∷ []) earlier es
  proofs_from [] earlier = refl
  proofs_from (e ∷ es) earlier =
      ap (λ p. fold (λ ps x. ps ++ step_proof db hyps ps x ∷ []) (earlier ++ p ∷ []) (map bare_step es)) (bare-use_proof earlier e.places (unwrap_or e.reference []) e.by)
      ∙ proofs_from es (earlier ++ step_proof db hyps earlier e ∷ [])

  pub bare-proofs : (es : List WrittenStep) → step_proofs db hyps (map bare_step es) ≡ step_proofs db hyps es
  bare-proofs es = proofs_from es []
