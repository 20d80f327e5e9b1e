-- The variables of the written trees are symbols of the database.
use Rattle.std.specs.Prelude.{◌≡◌, ◌<◌, ◌==◌, ◌≤◌, nat_lt, ℕ, zero, suc, Bool, true, false, List, [], ◌∷◌, length, map, drop, filter_map, slice_get}
use Rattle.std.specs.Prelude.{slice_index_or, Contains, Option, Some, None, option_map, position, refl}
use Rattle.std.specs.List.{list_any, position_or_len}
use Rattle.std.specs.Str.{bytes_eq}
use Rattle.std.proofs.Common.{sym, ap, subst, ◌∙◌, arith, inl, inr, ltb-true, ltb-false, cond}
use Rattle.std.proofs.lemmas.List.Elements.{Contains-append_left, Contains-append_right, Contains-append_cases}
use Rattle.std.proofs.lemmas.Option.{slice_get-get_or, cond_some}
use Rattle.mm_base.specs.declared.symbols.Sym.{Sym}
use Rattle.mm_base.specs.declared.symbols.Typecode.{Typecode}
use Rattle.mm_base.specs.declared.tree.Tree.{Tree}
use Rattle.mm_base.specs.declared.tree.Tree.TheVariants.{Var}
use Rattle.mm_base.specs.Trees.{Each, code_of}
use Rattle.mm_base.proofs.TreeInduction.{tree_ind}
use Rattle.mm_model.specs.declared.rows.Leaf.TheVariants as leaf
use Rattle.mm_model.specs.Names.{Name, sym as symbol}
use Rattle.mm_model.specs.Rows.{IsGrammar}
use Rattle.mm_model.specs.Texts.{text}
use Rattle.mm_model.specs.Typed.{IsTyped}
use Rattle.mm_model.specs.Productions.{TypedVariable}
use Rattle.mm_model.specs.Book.{Database, symbol_of, symbol_name, float_of}
use Rattle.mm_model.proofs.TypedLaws.{code-Var, typed-Var}
use Rattle.sheet_text.specs.declared.sheet.Sheet.{Sheet}
use Rattle.sheet_text.specs.Layout.{steps}
use Rattle.solve_model.specs.declared.bound.Bound.{Bound}
use Rattle.solve_model.specs.declared.bound.BoundStep.{BoundStep}
use Rattle.solve_model.specs.Formulas.{work_number, work_codes, work_of, leaf_by, leaf_of, expression_of}
use Rattle.solve_model.specs.Trees.{Open, work, fresh, replace, variables, flatten, Occurs}
use Rattle.solve_model.specs.Bound.{HasTree, IsBoundStep, Binds}
use Rattle.solve_model.specs.Binding.{place_of}
use Rattle.solve_model.specs.Solutions.{Unknown, Valuation, IsUnknown, Asked, no_step}
use Rattle.solve_model.specs.Verdicts.{Judgement, accepted, stands, asked_of, accepted_in}
use Rattle.solve_model.proofs.TreeLaws.{replace-Var, replace-Work, replace-Fresh, replace-Node, variables-Var, variables-Node}
use Rattle.solve_laws.specs.Instances.{IsClosedTree, IsClosed}
use Rattle.solve_laws.specs.NewVariables.{formula_variables, NoNewVariable}
use Rattle.written_model.specs.declared.options.Options.{Options}
use Rattle.written_model.specs.Written.{Writing, Writes}
use Rattle.answer_laws.proofs.Elements.{nothing, first, later, only, at_number, kept_from, in_kept, all_contained}
use Rattle.answer_laws.proofs.Marks.{Mark, variable, open_leaf, leaves, marks, leaves-Var, leaves-Work, leaves-Fresh, leaves-Node}
use Rattle.answer_laws.proofs.Covered.{of_text, occurs_mark, variable_mark}
use Rattle.answer_laws.proofs.Placed.{placed, mark_code, OfLeaves, keeps_types}
use Rattle.answer_laws.proofs.Plain.{IsTreeIn, ArePlain, TreesAreRead, accepted_at}
use Rattle.answer_laws.proofs.OneBinding.{zip_at, trees_are_read}
use Rattle.answer_laws.proofs.PlainAssertions.{text_variables, variable_leaf, var_leaf, var_mark}

-- ---- the variables of what is replaced

module _ (a : Sym → Typecode → Tree) (p : Open → Tree) (x : Sym) where
  -- a leaf of which it becomes a variable
  pub record VariableOf (t : Tree) : Type 0 where
    pub mark : Mark
    pub stands : Contains (leaves t) mark
    pub has : Contains (variables (placed a p mark)) x

  abbrev Comes : Tree → Type 0
  Comes t = Contains (variables (replace a p t)) x → VariableOf t

  abbrev OfOne : List Tree → Type 0
  OfOne ts = (m : Mark) × Contains (flatten (map leaves ts)) m × Contains (variables (placed a p m)) x

  of_all : (ts : List Tree) → Each Comes ts → Contains (flatten (map variables (map (replace a p) ts))) x → OfOne ts
  of_all [] h o = absurd (nothing x o)
  of_all (t ∷ ts) h o = elim (Contains-append_cases (variables (replace a p t)) (flatten (map variables (map (replace a p) ts))) x o) [
    | inl here ↦ let c = h.0 here in (c.mark, Contains-append_left (leaves t) (flatten (map leaves ts)) c.mark c.stands, c.has)
    | inr rest ↦ let c = of_all ts h.1 rest in (c.0, Contains-append_right (leaves t) (flatten (map leaves ts)) c.0 c.1, c.2)
  ]

  pub variable_of : (t : Tree) → Comes t
  variable_of = tree_ind Comes
      (λ s c o. record { mark = variable s c; stands = rw leaves-Var (first (variable s c) (variable s c) [] refl); has = rw replace-Var at o })
      (λ c n o. record { mark = open_leaf (work c n); stands = rw leaves-Work (first (open_leaf (work c n)) (open_leaf (work c n)) [] refl); has = rw replace-Work at o })
      (λ c n o. record { mark = open_leaf (fresh c n); stands = rw leaves-Fresh (first (open_leaf (fresh c n)) (open_leaf (fresh c n)) [] refl); has = rw replace-Fresh at o })
      (λ l c ts h o.
      let of = of_all ts h (rw (replace-Node, variables-Node) at o) in
      record { mark = of.0; stands = rw leaves-Node of.1; has = of.2 })

-- ---- a variable that was read

sym_some : (s t : Sym) → Some s ≡ Some t → s ≡ t
sym_some s t e = cc

module _ (db : Database) (place : ℕ) where
  var_by : (s : Sym) (o : Option Typecode) (r : Sym) (c : Typecode) → option_map (λ d. leaf.Var s d) o ≡ Some (leaf.Var r c) → s ≡ r
  var_by s None r c e = absurd (cc)
  var_by s (Some d) r c e = cc

  no_const : (s r : Sym) (c : Typecode) → Some (leaf.Const s) ≡ Some (leaf.Var r c) → ⊥
  no_const s r c e = cc

  declared_by : (b v : Bool) (s : Sym) (o : Option Typecode) (r : Sym) (c : Typecode)
      → cond b (Some (leaf.Const s)) (cond v (option_map (λ d. leaf.Var s d) o) None) ≡ Some (leaf.Var r c) → s ≡ r
  declared_by true v s o r c e = absurd (no_const s r c e)
  declared_by false true s o r c e = var_by s o r c e
  declared_by false false s o r c e = absurd (cc)

  no_work : (code : Typecode) (o : Option ℕ) (r : Sym) (c : Typecode) → option_map (λ n. leaf.Work code n) o ≡ Some (leaf.Var r c) → ⊥
  no_work code None r c e = cc
  no_work code (Some n) r c e = cc

  work_by : (b : Bool) (code : Typecode) (o : Option ℕ) (r : Sym) (c : Typecode) → cond b (option_map (λ n. leaf.Work code n) o) None ≡ Some (leaf.Var r c) → ⊥
  work_by true code o r c e = no_work code o r c e
  work_by false code o r c e = cc

  none_works : (token : Name) (codes : List Typecode) (r : Sym) (c : Typecode) → Contains (filter_map (work_of db token) codes) (leaf.Var r c) → ⊥
  none_works token codes r c o =
      let k = kept_from (work_of db token) codes (leaf.Var r c) o in
      work_by (db.is_constant_at k.0.0 db.statement_count) k.0 (work_number (symbol_name db k.0.0) token) r c k.2

  at_zero : {X : Type 0} (xs : List X) (x : X) → slice_get xs 0 ≡ Some x → Contains xs x
  at_zero [] x e = absurd (cc)
  at_zero (y ∷ ys) x e = first x y ys (cc)

  leaf_symbol : (token : Name) (o : Option Sym) (r : Sym) (c : Typecode) → leaf_by db place token o ≡ Some (leaf.Var r c) → o ≡ Some r
  leaf_symbol token None r c e = absurd (none_works token (work_codes db place) r c (at_zero (filter_map (work_of db token) (work_codes db place)) (leaf.Var r c) e))
  leaf_symbol token (Some s) r c e =
      ap Some (declared_by (db.is_constant_at s place) (list_any (λ (v : Sym). v.0 == s.0) (db.active_at place).variables) s (float_of s (db.active_at place).hyps) r c e)

  symbol_at : (names : List Name) (token : Name) (o : Option ℕ) (r : Sym) → position (bytes_eq token) names ≡ o → option_map symbol o ≡ Some r → r.0 < length names
  symbol_at names token None r e f = absurd (cc)
  symbol_at names token (Some n) r e f =
      let found = cond_some (nat_lt (position_or_len (bytes_eq token) names) (length names)) (position_or_len (bytes_eq token) names) n e in
      let less = ltb-true (position_or_len (bytes_eq token) names) (length names) found.0 in
      let same : symbol n ≡ r = sym_some (symbol n) r f in
      subst (λ (s : Sym). s.0 < length names) same (subst (λ m. m < length names) found.1 less)

  pub token_symbol : (token : Name) (r : Sym) (c : Typecode) → leaf_of db place token ≡ Some (leaf.Var r c) → r.0 < length db.symbols
  token_symbol token r c e = symbol_at db.symbols token (position (bytes_eq token) db.symbols) r refl (leaf_symbol token (symbol_of db token) r c e)

abbrev pub IsKnown : Database → Sym → Type 0
IsKnown db s = s.0 < length db.symbols

module _ (db : Database) (grammar : IsGrammar db.rows) (s : Sheet) (bound : Bound) (binds : Binds db s bound) where
  expression_variable : (tokens : List Name) (v : TypedVariable) → Contains (expression_of db (place_of db s) tokens) (leaf.Var v.sym v.code) → IsKnown db v.sym
  expression_variable tokens v o =
      let k = kept_from (leaf_of db (place_of db s)) (drop 1 tokens) (leaf.Var v.sym v.code) o in
      token_symbol db (place_of db s) k.0 v.sym v.code k.2

  pub read_known : (i : ℕ) (b : BoundStep) (t : Tree) (x : Sym) → slice_get bound.steps i ≡ Some b → b.tree ≡ Some t → Contains (variables t) x → IsKnown db x
  read_known i b t x e k o =
      let at = zip_at (IsBoundStep db (place_of db s)) (steps s) bound.steps i b binds.steps e in
      let has : HasTree db (place_of db s) at.0.formula (Some t) = subst (HasTree db (place_of db s) at.0.formula) k at.1.tree in
      let mark = variable_mark t x o in
      let v : TypedVariable = record { sym = x; code = mark.0 } in
      let there = of_text (variable x mark.0) db.rows grammar (place_of db s) t has.parses.typed mark.1 in
      let kept = subst (λ ws. Contains ws v) (sym (text_variables db t)) (in_kept var_mark (marks db.rows t) (variable x mark.0) v there refl) in
      let from = kept_from var_leaf (text db.rows t) v kept in
      let leaf_there = subst (Contains (text db.rows t)) (variable_leaf from.0 v from.2) from.1 in
      expression_variable at.0.formula v (subst (λ xs. Contains xs (leaf.Var x mark.0)) has.parses.written leaf_there)

-- ---- well trees

-- typed, and each variable is a symbol of the database
pub record IsWell (db : Database) (place : ℕ) (t : Tree) : Type 0 where
  pub typed : IsTyped db.rows place t
  pub known : (x : Sym) → Contains (variables t) x → IsKnown db x

pub record IsWellAs (db : Database) (place : ℕ) (c : Typecode) (t : Tree) : Type 0 where
  pub code : code_of t ≡ c
  pub well : IsWell db place t

pub well_var : (db : Database) (place : ℕ) (s : Sym) (c : Typecode) → IsKnown db s → IsWellAs db place c (Var s c)
well_var db place s c k = record {
  code = code-Var s c;
  well = record { typed = typed-Var db.rows place s c; known = λ x o. subst (IsKnown db) (only x s (rw variables-Var at o)) k };
}

pub replaced_well : (db : Database) (place : ℕ) (a : Sym → Typecode → Tree) (p : Open → Tree) (t : Tree) → IsTyped db.rows place t
    → OfLeaves (λ m. IsWellAs db place (mark_code m) (placed a p m)) t → IsWell db place (replace a p t)
replaced_well db place a p t typed h = record {
  typed = (keeps_types db.rows place a p t (λ m o. record { code = (h m o).code; typed = (h m o).well.typed }) typed).typed;
  known = λ x o. let from = variable_of a p x t o in (h from.mark from.stands).well.known x from.has;
}

past : (ss : List BoundStep) (n : ℕ) → length ss ≤ n → (slice_index_or ss n no_step).tree ≡ None
past [] n h = refl
past (r ∷ rs) zero h = absurd (omega (arith, h))
past (r ∷ rs) (suc n) h = past rs n (omega (arith, h))

-- ---- the values

module _ (db : Database) (grammar : IsGrammar db.rows) (plain : ArePlain db) (text : List ℕ) (options : Options) (w : Writing) (writes : Writes db text options w)
    (no_new : (bound : Bound) (asked : List Asked) → NoNewVariable db bound asked) where
  abbrev S : Sheet
  S = writes.reads.read

  abbrev g : Valuation
  g = w.value

  abbrev On : Unknown → Type 0
  On = IsUnknown w.bound (accepted_in w.judgements)

  read : TreesAreRead db w.bound
  read = trees_are_read db S w.bound writes.binds

  accepted_is : (j : Judgement) (x : Asked) → asked_of j ≡ Some x → j ≡ accepted x
  accepted_is (accepted y) x e = let same : y ≡ x = cc in ap accepted same
  accepted_is (stands v) x e = absurd (cc)

  closed_trees : (x : Asked) → Contains (accepted_in w.judgements) x → IsClosed x
  closed_trees x o =
      let k = kept_from asked_of w.judgements x o in
      let at = at_number w.judgements k.0 k.1 in
      let is = accepted_at db w.bound w.judgements writes.judged at.0 x (at.1 ∙ ap Some (accepted_is k.0 x k.2)) in
      let its = plain is.is_candidate.label x.assertion is.is_candidate.usable in
      let closed = λ (t : Tree) (m : IsTreeIn x.assertion t) (y : Open) (h : Occurs y t). its.closed t y m (occurs_mark t y h) in (
        closed x.assertion.tree (first x.assertion.tree x.assertion.tree x.assertion.hyps refl),
        all_contained IsClosedTree x.assertion.hyps (λ t m. closed t (later t x.assertion.tree x.assertion.hyps m)),
      )

  formula_known : (i : ℕ) (o : Option Tree) (x : Sym) → (slice_index_or w.bound.steps i no_step).tree ≡ o → Contains (formula_variables o) x → IsKnown db x
  formula_known i None x e o = absurd (nothing x o)
  formula_known i (Some t) x e o = by (nat_lt i (length w.bound.steps)) refl
    where
      by : (b : Bool) → nat_lt i (length w.bound.steps) ≡ b → IsKnown db x
      by true l = read_known db grammar S w.bound writes.binds i (slice_index_or w.bound.steps i no_step) t x (slice_get-get_or w.bound.steps i no_step (ltb-true i (length w.bound.steps) l)) e o
      by false l = let bad : None ≡ Some t = sym (past w.bound.steps i (ltb-false i (length w.bound.steps) l)) ∙ e in absurd (cc)

  pub value_known : (u : Unknown) (x : Sym) → On u → Contains (variables (g u)) x → IsKnown db x
  value_known u x on o = by (nat_lt x.0 (length db.symbols)) refl
    where
      by : (b : Bool) → nat_lt x.0 (length db.symbols) ≡ b → IsKnown db x
      by true l = ltb-true x.0 (length db.symbols) l
      by false l =
          let more = ltb-false x.0 (length db.symbols) l in
          absurd (no_new w.bound (accepted_in w.judgements) g u x writes.most_general.most_general (all_contained IsClosed (accepted_in w.judgements) closed_trees) on
          (λ i m. let known = formula_known i (slice_index_or w.bound.steps i no_step).tree x refl m in omega (arith, known, more)) o)
