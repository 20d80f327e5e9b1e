-- What the `$f` of a frame take, as values of its variables, and the formulas of the frame with these values.
use Rattle.std.specs.Prelude.{◌≡◌, ℕ, Bool, true, false, List, [], ◌∷◌, ◌++◌, flat_map, zip, Contains, Some}
use Rattle.std.specs.List.{AllZip}
use Rattle.std.proofs.Common.{sym, ap, subst, ◌∙◌, cond, inl, inr}
use Rattle.std.proofs.lemmas.Bool.{cases_Bool, both_ways}
use Rattle.mm_base.specs.declared.symbols.Sym.{Sym}
use Rattle.mm_base.specs.declared.symbols.Typecode.{Typecode}
use Rattle.mm_base.specs.declared.tree.Tree.{Tree}
use Rattle.mm_model.specs.declared.frames.Hyp.{Hyp}
use Rattle.mm_model.specs.declared.frames.Frame.{Frame}
use Rattle.mm_model.specs.Names.{typecode}
use Rattle.mm_model.specs.Productions.{TypedVariable, typed_by, typed_variables, floats}
use Rattle.mm_model.specs.Book.{Database}
use Rattle.mm_model.specs.BookFacts.{VariablesDiffer}
use Rattle.proof_model.specs.Machine.{Formula, substituted}
use Rattle.written_model.specs.WrittenSteps.{no_tree}
use Rattle.push_laws.proofs.Entries.{IsTaken}
use Rattle.push_laws.proofs.Facts.{IsBook, IsOwnFormula, FrameIsApart}
use Rattle.push_laws.proofs.Lists.{contains_get, zip_get, zip_length}
use Rattle.push_laws.proofs.Substituted.{formula_valued}
use Rattle.push_laws.proofs.TreeProofs.{tree_symbols}
use Rattle.push_laws.proofs.Values.{beside, all_beside}
use Rattle.export_laws.proofs.GoodTrees.{IsGoodAs, valued}
use Rattle.export_laws.proofs.FrameTrees.{IsOwnTree, good_own}

module _ (db : Database) (place : ℕ) where
  -- a `$f`, and what is taken for it: its typecode and the text of a tree of it
  pub record IsFloatEntry (h : Hyp) (g : Formula) : Type 0 where
    pub code : Sym
    pub variable : Sym
    pub formula : h.formula ≡ code ∷ variable ∷ []
    pub tree : Tree
    pub good : IsGoodAs db place (typecode code) tree
    pub taken : g ≡ code ∷ tree_symbols db tree

  abbrev pub IsEntryOf : Hyp → Formula → Type 0
  IsEntryOf h g = h.floating ≡ true → IsFloatEntry h g

  abbrev IsValueOf : TypedVariable → Tree → Type 0
  IsValueOf v t = IsGoodAs db place v.code t

  abbrev Gives : (Sym → Tree) → TypedVariable → Tree → Type 0
  Gives value v t = value v.sym ≡ t

  -- the trees of the variables, in order
  pub record HasValues (hs : List Hyp) (gs : List Formula) : Type 0 where
    pub trees : List Tree
    pub values : AllZip IsValueOf (typed_variables hs) trees
    pub taken : (value : Sym → Tree) → AllZip (Gives value) (typed_variables hs) trees → AllZip (IsTaken (λ s. tree_symbols db (value s))) hs gs

  more_floats : (h : Hyp) (hs : List Hyp) (b : Bool) → h.floating ≡ b → typed_variables (h ∷ hs) ≡ flat_map (λ (x : Hyp). typed_by x.formula) (cond b (h ∷ floats hs) (floats hs))
  more_floats h hs b e = ap (λ (c : Bool). flat_map (λ (x : Hyp). typed_by x.formula) (cond c (h ∷ floats hs) (floats hs))) e

  variable_of : Sym → Sym → TypedVariable
  variable_of c v = record { sym = v; code = typecode c }

  with_float : (h : Hyp) (hs : List Hyp) (g : Formula) (gs : List Formula) → h.floating ≡ true → IsFloatEntry h g → HasValues hs gs → HasValues (h ∷ hs) (g ∷ gs)
  unfolding variable_of
  with_float h hs g gs d e rest =
      let more : typed_variables (h ∷ hs) ≡ variable_of e.code e.variable ∷ typed_variables hs =
      more_floats h hs true d ∙ ap (λ (x : Formula). typed_by x ++ typed_variables hs) e.formula in
      record {
        trees = e.tree ∷ rest.trees;
        values = subst (λ vs. AllZip IsValueOf vs (e.tree ∷ rest.trees)) (sym more) (e.good, rest.values);
        taken = λ value a.
            let b : (value e.variable ≡ e.tree) × AllZip (Gives value) (typed_variables hs) rest.trees = subst (λ vs. AllZip (Gives value) vs (e.tree ∷ rest.trees)) more a in (
              (λ i. record { code = e.code; variable = e.variable; formula = e.formula; taken = e.taken ∙ ap (λ t. e.code ∷ tree_symbols db t) (sym b.0) }),
              rest.taken value b.1,
            );
      }

  without_float : (h : Hyp) (hs : List Hyp) (g : Formula) (gs : List Formula) → h.floating ≡ false → HasValues hs gs → HasValues (h ∷ hs) (g ∷ gs)
  without_float h hs g gs d rest =
      let same : typed_variables (h ∷ hs) ≡ typed_variables hs = more_floats h hs false d in
      record {
        trees = rest.trees;
        values = subst (λ vs. AllZip IsValueOf vs rest.trees) (sym same) rest.values;
        taken = λ value a. ((λ i. absurd (both_ways h.floating d i)), rest.taken value (subst (λ vs. AllZip (Gives value) vs rest.trees) same a));
      }

  pub has_values : (hs : List Hyp) (gs : List Formula) → AllZip IsEntryOf hs gs → HasValues hs gs
  has_values [] [] a = record { trees = []; values = tt; taken = λ value z. tt }
  has_values [] (g ∷ gs) a = absurd a
  has_values (h ∷ hs) [] a = absurd a
  has_values (h ∷ hs) (g ∷ gs) a = elim (cases_Bool h.floating) [
    | inl d ↦ with_float h hs g gs d (a.0 d) (has_values hs gs a.1)
    | inr d ↦ without_float h hs g gs d (has_values hs gs a.1)
  ]

  -- ---- the formulas of a frame with these values

  module _ (book : IsBook db) (f : Frame) (apart : FrameIsApart db f) (differ : VariablesDiffer (typed_variables f.hyps)) (gs : List Formula) (has : HasValues f.hyps gs) where
    abbrev vars : List TypedVariable
    vars = typed_variables f.hyps

    abbrev pub value : Sym → Tree
    value = beside (λ t. t) no_tree (zip vars has.trees)

    pub values_beside : AllZip (Gives value) vars has.trees
    values_beside = all_beside (λ t. t) no_tree vars has.trees differ (zip_length IsValueOf vars has.trees has.values)

    pub taken : AllZip (IsTaken (λ s. tree_symbols db (value s))) f.hyps gs
    taken = has.taken value values_beside

    pub value_good : (v : TypedVariable) → Contains vars v → IsGoodAs db place v.code (value v.sym)
    value_good v c =
        let at = contains_get vars v c in
        let t = zip_get IsValueOf vars has.trees at.0 v has.values at.1 in
        let u = zip_get (Gives value) vars has.trees at.0 v values_beside at.1 in
        let both : Some t.0 ≡ Some u.0 = sym t.1 ∙ u.1 in
        let same : t.0 ≡ u.0 = cc in
        subst (IsGoodAs db place v.code) (same ∙ sym u.2) t.2

    -- such a formula, substituted: its typecode and the text of its tree with the values
    pub record IsSubstituted (c : Sym) (d : Typecode) (t : Tree) (g : Formula) : Type 0 where
      pub formula : substituted (zip f.hyps gs) g ≡ c ∷ tree_symbols db (valued value t)
      pub good : IsGoodAs db place d (valued value t)

    pub is_substituted : (g : Formula) (c : Sym) (rest : Formula) (d : Typecode) (t : Tree) → g ≡ c ∷ rest → db.is_constant_at c f.at ≡ true → IsOwnFormula db f g → IsOwnTree db place f g d t
        → IsSubstituted c d t g
    is_substituted g c rest d t is constant own tree = record {
      formula = formula_valued db f apart value gs taken g c rest t is constant own tree.written;
      good = good_own db place f book value value_good g d t tree;
    }
