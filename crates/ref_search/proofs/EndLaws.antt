-- Where the values of a frame's variables are taken, and where there are none.
use Rattle.std.proofs.Common.{◌≡◌, ℕ, suc, length, [], ◌∷◌, Bool, true, false, List, Option, Some, None, option_map, is_some, refl, sym, ap, subst, ◌∙◌}
use Rattle.mm_base.specs.declared.symbols.Sym.{Sym}
use Rattle.mm_base.specs.declared.symbols.Pair.{Pair}
use Rattle.mm_base.specs.declared.tree.Tree.{Tree}
use Rattle.mm_model.specs.declared.frames.Frame.{Frame}
use Rattle.mm_model.specs.Productions.{TypedVariable, typed_variables}
use Rattle.mm_model.specs.Book.{Assertion}
use Rattle.solve_laws.specs.PairSetLaws.{PairSetHoldsSame}
use Rattle.written_model.specs.WrittenSteps.{Use}
use Rattle.written_model.specs.Pairs.{clash_of}
use Rattle.distinct_vars.specs.Uses.{IsUseOf}
use Rattle.ref_search.specs.Matching.{Binding, AreBound}
use Rattle.ref_search.specs.Completing.{value_for, values_for, with_value, lack_in, use_of, IsRule, Ends}
use Rattle.ref_search.proofs.ValueLaws.{values_exist, same_or_none, values_agree, value_codes}
use Rattle.ref_search.proofs.PairLaws.{clash_none, lack_none}

no_some : {X : Type 0} (o : Option X) (x : X) → o ≡ None → o ≡ Some x → ⊥
no_some o x e f = let g : None ≡ Some x = sym e ∙ f in cc

clash_there : (r : Option (Sym × Sym × Sym)) (o : Option Sym) → is_some r ≡ true → option_map (λ (c : Sym × Sym × Sym). c.2) r ≡ o → o ≡ None → ⊥
clash_there None o h e f = cc
clash_there (Some c) o h e f = let g : Some c.2 ≡ None = e ∙ f in cc

no_clash_there : (r : Option (Sym × Sym × Sym)) (o : Option Sym) → is_some r ≡ false → option_map (λ (c : Sym × Sym × Sym). c.2) r ≡ o → o ≡ None
no_clash_there None o h e = sym e
no_clash_there (Some c) o h e = absurd (cc)

lack_there : (o : Option Pair) → true ≡ is_some o → o ≡ None → ⊥
lack_there o h e = let g : true ≡ false = h ∙ ap is_some e in cc

no_lack_there : (o : Option Pair) → false ≡ is_some o → o ≡ None
no_lack_there None h = refl
no_lack_there (Some p) h = absurd (cc)

module _ (a : Assertion) (given : Option (List Pair)) (bs : List Binding) (frame : Frame) (vars : List Sym) (rule : IsRule a frame vars) where
  of_rule : (o : Option (List Tree)) → values_for bs (typed_variables frame.hyps) ≡ o → values_for bs a.vars ≡ o
  of_rule o e = ap (values_for bs) rule.typed ∙ e

  pub no_values : values_for bs (typed_variables frame.hyps) ≡ None → (values : List Tree) → Ends a given bs values → ⊥
  no_values e values h =
      let there = values_exist a.vars bs values rule.differ h.codes h.agrees in
      no_some (values_for bs a.vars) there.0 (of_rule None e) there.1

  pub is_use : (trees : List Tree) → IsUseOf (use_of a trees) frame.pairs vars trees
  is_use trees = record { pairs_are = ap (λ (f : Frame). f.pairs) (sym rule.frame_is); vars_are = rule.vars_are; trees_are = refl }

  module _ (trees : List Tree) (e : values_for bs (typed_variables frame.hyps) ≡ Some trees) where
    pub clashes : (r : Option (Sym × Sym × Sym)) → is_some r ≡ true → ((u : Use) → IsUseOf u frame.pairs vars trees → option_map (λ (c : Sym × Sym × Sym). c.2) r ≡ clash_of u)
        → (values : List Tree) → Ends a given bs values → ⊥
    clashes r some is values h =
        clash_there r (clash_of (use_of a trees)) some (is (use_of a trees) (is_use trees))
        (clash_none a trees values (same_or_none a.vars bs values rule.differ h.codes h.agrees trees (of_rule (Some trees) e)) h.no_clash)

    pub lacks_pair : PairSetHoldsSame → (b : Bool) → b ≡ true → ((u : Use) → IsUseOf u frame.pairs vars trees → b ≡ is_some (lack_in given u))
        → (values : List Tree) → Ends a given bs values → ⊥
    lacks_pair holds b some is values h =
        lack_there (lack_in given (use_of a trees)) (sym some ∙ is (use_of a trees) (is_use trees))
        (lack_none a trees values (same_or_none a.vars bs values rule.differ h.codes h.agrees trees (of_rule (Some trees) e)) holds given h.no_lack)

    pub ended : AreBound vars bs → (r : Option (Sym × Sym × Sym)) → is_some r ≡ false → ((u : Use) → IsUseOf u frame.pairs vars trees → option_map (λ (c : Sym × Sym × Sym). c.2) r ≡ clash_of u)
        → (b : Bool) → b ≡ false → ((u : Use) → IsUseOf u frame.pairs vars trees → b ≡ is_some (lack_in given u)) → Ends a given bs trees
    ended bound r none is b not lacks = record {
      agrees = values_agree a.vars trees bs (subst (λ vs. AreBound vs bs) rule.vars_are bound) (of_rule (Some trees) e);
      codes = value_codes a.vars trees bs (of_rule (Some trees) e);
      no_clash = no_clash_there r (clash_of (use_of a trees)) none (is (use_of a trees) (is_use trees));
      no_lack = no_lack_there (lack_in given (use_of a trees)) (sym not ∙ lacks (use_of a trees) (is_use trees));
    }

pub not_some : {X : Type 0} (o : Option X) → ((x : X) → o ≡ Some x → ⊥) → o ≡ None
not_some None h = refl
not_some (Some x) h = absurd (h x refl)

-- ---- their number

one_more : (o : Option Tree) (p : Option (List Tree)) (n : ℕ) (ts : List Tree) → ((us : List Tree) → p ≡ Some us → length us ≡ n) → with_value o p ≡ Some ts → length ts ≡ suc n
one_more None p n ts h e = absurd (cc)
one_more (Some t) None n ts h e = absurd (cc)
one_more (Some t) (Some us) n ts h e = let same : t ∷ us ≡ ts = cc in ap length (sym same) ∙ ap (λ k. suc k) (h us refl)

pub count_values : (bs : List Binding) (vs : List TypedVariable) (ts : List Tree) → values_for bs vs ≡ Some ts → length ts ≡ length vs
count_values bs [] ts e = let same : [] ≡ ts = cc in ap length (sym same)
count_values bs (v ∷ vs) ts e = one_more (value_for bs v) (values_for bs vs) (length vs) ts (λ us h. count_values bs vs us h) e
