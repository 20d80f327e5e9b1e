-- The usable assertions of the database of a text without a fault are plain.
use Rattle.std.specs.Prelude.{◌≡◌, ◌==◌, ℕ, Bool, true, false, List, [], ◌∷◌, map, drop, find, filter_map, Contains, Option, Some, None, option_map, refl}
use Rattle.std.specs.List.{AllByRecursion, AllZip, cons_option}
use Rattle.std.proofs.Common.{sym, ap, subst, ◌∙◌, inl, inr, cond, eq-eqb}
use Rattle.mm_base.specs.declared.symbols.Sym.{Sym}
use Rattle.mm_base.specs.declared.symbols.Label.{Label}
use Rattle.mm_base.specs.declared.symbols.Typecode.{Typecode}
use Rattle.mm_base.specs.declared.kinds.Kinds.{Kinds}
use Rattle.mm_base.specs.declared.tree.Tree.{Tree}
use Rattle.mm_base.specs.declared.tree.Tree.TheVariants.{Var}
use Rattle.mm_model.specs.declared.frames.Hyp.{Hyp}
use Rattle.mm_model.specs.declared.frames.Frame.{Frame}
use Rattle.mm_model.specs.declared.rows.Leaf.{Leaf}
use Rattle.mm_model.specs.declared.rows.Leaf.TheVariants as leaf
use Rattle.mm_model.specs.Statements.{database_fault}
use Rattle.mm_model.specs.Productions.{TypedVariable, typed_variables, essentials}
use Rattle.mm_model.specs.Texts.{text}
use Rattle.mm_model.specs.Typed.{IsTyped}
use Rattle.mm_model.specs.Book.{Database, Assertion, IsDatabaseOf, IsUsable, IsRead, float_of, expression_at}
use Rattle.mm_model.specs.BookFacts.{IsDatabase, VariablesDiffer}
use Rattle.mm_model.proofs.TextLaws.{text-Var, text-Work, text-Fresh}
use Rattle.mm_model.proofs.RowLaws.{find_passes, find_from}
use Rattle.model_laws.specs.FrameLaws.{own_leaf, own_expression, IsOwn, ShowsText, FramesHaveOwnExpressions, StandsInFrame, MandatoryVariablesStand}
use Rattle.solve_model.specs.Trees.{Open, work, fresh, leaf_tree, variables}
use Rattle.solve_laws.proofs.ReplaceLaws.{replace-self}
use Rattle.solve_laws.proofs.NoFresh.{no_fresh_leaf}
use Rattle.written_model.specs.Named.{WorkVariable, work_variable, work_leaf}
use Rattle.answer_laws.proofs.Elements.{in_mapped, nothing, first, later, parted, stands_in, at_number, mapped_from, in_kept, kept_from}
use Rattle.answer_laws.proofs.Marks.{Mark, variable, open_leaf, leaves, marks, told}
use Rattle.answer_laws.proofs.Covered.{of_tree, of_text, mark_occurs, mark_variable}
use Rattle.answer_laws.proofs.SearchedAlike.{same_sym}
use Rattle.answer_laws.proofs.Plain.{IsTreeIn, IsPlain, ArePlain}

typed_variable : Sym → Typecode → TypedVariable
typed_variable s c = record { sym = s; code = c }

-- ---- the variables and the work variables of a text

abbrev pub var_leaf : Leaf → Option TypedVariable
var_leaf (leaf.Const s) = None
var_leaf (leaf.Var s c) = Some (record { sym = s; code = c })
var_leaf (leaf.Work c n) = None

abbrev pub var_mark : Mark → Option TypedVariable
var_mark (variable s c) = Some (record { sym = s; code = c })
var_mark (open_leaf x) = None

abbrev work_mark : Mark → Option WorkVariable
work_mark (variable s c) = None
work_mark (open_leaf (work c n)) = Some (work_variable c n)
work_mark (open_leaf (fresh c n)) = None

module _ (db : Database) where
  open_variables : (x : Open) → filter_map var_leaf (text db.rows (leaf_tree x)) ≡ cons_option (var_mark (open_leaf x)) []
  open_variables (work c n) = ap (filter_map var_leaf) (text-Work db.rows c n)
  open_variables (fresh c n) = ap (filter_map var_leaf) (text-Fresh db.rows c n)

  open_works : (x : Open) → filter_map work_leaf (text db.rows (leaf_tree x)) ≡ cons_option (work_mark (open_leaf x)) []
  open_works (work c n) = ap (filter_map work_leaf) (text-Work db.rows c n)
  open_works (fresh c n) = ap (filter_map work_leaf) (text-Fresh db.rows c n)

  pub text_variables : (t : Tree) → filter_map var_leaf (text db.rows t) ≡ filter_map var_mark (marks db.rows t)
  text_variables t =
      ap (λ u. filter_map var_leaf (text db.rows u)) (sym (replace-self t))
      ∙ told db.rows (λ s c. Var s c) leaf_tree var_leaf var_mark (λ s. refl) (λ s c. ap (filter_map var_leaf) (text-Var db.rows s c)) open_variables t

  text_works : (t : Tree) → filter_map work_leaf (text db.rows t) ≡ filter_map work_mark (marks db.rows t)
  text_works t =
      ap (λ u. filter_map work_leaf (text db.rows u)) (sym (replace-self t))
      ∙ told db.rows (λ s c. Var s c) leaf_tree work_leaf work_mark (λ s. refl) (λ s c. ap (filter_map work_leaf) (text-Var db.rows s c)) open_works t

pub variable_leaf : (x : Leaf) (v : TypedVariable) → var_leaf x ≡ Some v → x ≡ leaf.Var v.sym v.code
variable_leaf (leaf.Const s) v e = absurd (cc)
variable_leaf (leaf.Var s c) v e =
    let same : ◌≡◌ {A = TypedVariable} (record { sym = s; code = c }) v = cc in
    ap (λ (w : TypedVariable). leaf.Var w.sym w.code) same
variable_leaf (leaf.Work c n) v e = absurd (cc)

variable_mark_is : (m : Mark) (s : Sym) (c : Typecode) → var_mark m ≡ Some (record { sym = s; code = c }) → m ≡ variable s c
variable_mark_is (variable v d) s c e =
    let same : ◌≡◌ {A = TypedVariable} (record { sym = v; code = d }) (record { sym = s; code = c }) = cc in
    ap (λ (w : TypedVariable). variable w.sym w.code) same
variable_mark_is (open_leaf x) s c e = absurd (cc)

-- ---- what an own expression has

module _ (db : Database) (f : Frame) where
  var_by : (s : Sym) (o : Option Typecode) (x : Leaf) → option_map (λ c. leaf.Var s c) o ≡ Some x → (c : Typecode) × (x ≡ leaf.Var s c) × (o ≡ Some c)
  var_by s None x e = absurd (cc)
  var_by s (Some c) x e = (c, cc, refl)

  -- a leaf is a constant, or a variable with its typecode in the frame
  pub data IsOwnLeaf (x : Leaf) : Type 0 where
    constant : (s : Sym) → x ≡ leaf.Const s → IsOwnLeaf x
    own : (s : Sym) (c : Typecode) → x ≡ leaf.Var s c → float_of s f.hyps ≡ Some c → IsOwnLeaf x

  leaf_by : (b : Bool) (s : Sym) (x : Leaf) → cond b (Some (leaf.Const s)) (option_map (λ c. leaf.Var s c) (float_of s f.hyps)) ≡ Some x → IsOwnLeaf x
  leaf_by true s x e = constant s (cc)
  leaf_by false s x e = let r = var_by s (float_of s f.hyps) x e in own s r.0 r.1 r.2

  own_leaf_is : (s : Sym) (x : Leaf) → own_leaf db f s ≡ Some x → IsOwnLeaf x
  own_leaf_is s x e = leaf_by (db.is_constant_at s f.at) s x e

  pub is_own : (g : List Sym) (x : Leaf) → Contains (own_expression db f g) x → IsOwnLeaf x
  is_own g x o = let k = kept_from (own_leaf db f) (drop 1 g) x o in own_leaf_is k.0 x k.2

  code_found : (s : Sym) (vars : List TypedVariable) (o : Option TypedVariable) (c : Typecode) → find (λ (v : TypedVariable). v.sym.0 == s.0) vars ≡ o
      → option_map (λ (v : TypedVariable). v.code) o ≡ Some c
      → (v : TypedVariable) × Contains vars v × (v.sym ≡ s) × (v.code ≡ c)
  code_found s vars None c e h = absurd (cc)
  code_found s vars (Some v) c e h =
      let is = find_passes (λ (w : TypedVariable). w.sym.0 == s.0) vars v e in
      (v, stands_in vars is.place v is.stands, same_sym v.sym s is.passes, cc)

  -- a typecode in the frame is that of one of its variables
  pub float_stands : (s : Sym) (c : Typecode) → float_of s f.hyps ≡ Some c → (v : TypedVariable) × Contains (typed_variables f.hyps) v × (v.sym ≡ s) × (v.code ≡ c)
  float_stands s c e = code_found s (typed_variables f.hyps) (find (λ (v : TypedVariable). v.sym.0 == s.0) (typed_variables f.hyps)) c refl e

  leaf_at : (b : Bool) (s : Sym) (c : Typecode) → db.is_constant_at s f.at ≡ b → b ≡ false → float_of s f.hyps ≡ Some c → own_leaf db f s ≡ Some (leaf.Var s c)
  leaf_at true s c e h k = absurd (cc)
  leaf_at false s c e h k = rw e (ap (option_map (λ d. leaf.Var s d)) k)

  -- a variable that is no constant is a leaf
  pub var_stands : (v : TypedVariable) → Contains (typed_variables f.hyps) v → db.is_constant_at v.sym f.at ≡ false → (c : Typecode) × (own_leaf db f v.sym ≡ Some (leaf.Var v.sym c))
  var_stands v o free =
      let at = at_number (typed_variables f.hyps) v o in
      let some = find_from (λ (w : TypedVariable). w.sym.0 == v.sym.0) (typed_variables f.hyps) at.0 v at.1 (eq-eqb v.sym.0 v.sym.0 refl) in
      let c = some.0.code in
      (c, leaf_at (db.is_constant_at v.sym f.at) v.sym c refl free (ap (option_map (λ (w : TypedVariable). w.code)) some.1))

-- ---- the trees of an assertion, and its formulas

module _ {A B : Type 0} (R : A → B → Type 0) (P : A → Type 0) where
  left_of : (xs : List A) (ys : List B) (y : B) → AllZip R xs ys → AllByRecursion P xs → Contains ys y → (x : A) × R x y × P x
  left_of [] [] y h k o = absurd (nothing y o)
  left_of [] (z ∷ zs) y h k o = absurd h
  left_of (x ∷ xs) [] y h k o = absurd h
  left_of (x ∷ xs) (z ∷ zs) y h k o = elim (parted y z zs o) [ inl e ↦ (x, subst (R x) e h.0, k.0) | inr l ↦ left_of xs zs y h.1 k.1 l ]

  right_of : (xs : List A) (ys : List B) (x : A) → AllZip R xs ys → AllByRecursion P xs → Contains xs x → (y : B) × Contains ys y × R x y × P x
  right_of [] [] x h k o = absurd (nothing x o)
  right_of [] (z ∷ zs) x h k o = absurd h
  right_of (w ∷ ws) [] x h k o = absurd h
  right_of (w ∷ ws) (z ∷ zs) x h k o = elim (parted x w ws o) [
    | inl e ↦ (z, first z z zs refl, subst (λ a. R a z) e h.0, subst P e k.0)
    | inr l ↦ let r = right_of ws zs x h.1 k.1 l in (r.0, later r.0 z zs r.1, r.2, r.3)
  ]

-- a formula of the frame in which a variable stands behind the first symbol
abbrev HasFormula : Frame → Sym → Type 0
HasFormula f x = (g : List Sym) × Contains (f.formula ∷ map (λ (h : Hyp). h.formula) (essentials f.hyps)) g × Contains (drop 1 g) x

formula_with : (f : Frame) (x : Sym) → StandsInFrame f x → HasFormula f x
formula_with f x (inl o) = (f.formula, first f.formula f.formula (map (λ (h : Hyp). h.formula) (essentials f.hyps)) refl, o)
formula_with f x (inr s) =
    let there = in_mapped (λ (h : Hyp). h.formula) (essentials f.hyps) s.1 (stands_in (essentials f.hyps) s.0 s.1 s.2) in
    (s.1.formula, later s.1.formula f.formula (map (λ (h : Hyp). h.formula) (essentials f.hyps)) there, s.3)

module _ (kinds : Kinds) (statement_text : List ℕ) (db : Database) (is : IsDatabaseOf kinds statement_text db) (sound : database_fault statement_text ≡ None) (facts : IsDatabase db)
    (standing : MandatoryVariablesStand) (owned : FramesHaveOwnExpressions) where
  shows : ShowsText statement_text db
  shows = record { symbols = is.symbols; frame = is.frame; active_at = is.active_at; is_constant_at = is.is_constant_at }

  module _ (l : Label) (a : Assertion) (u : IsUsable db l a) where
    abbrev f : Frame
    f = a.frame

    -- the tree is that of a formula, which is the frame's own
    pub record IsOf (g : List Sym) (t : Tree) : Type 0 where
      pub read : IsRead db f.at g t
      pub expression : own_expression db f g ≡ expression_at db f.at g

    abbrev R : Hyp → Tree → Type 0
    R h t = IsRead db f.at h.formula t

    abbrev P : Hyp → Type 0
    P h = IsOwn db f h.formula

    formula_own : IsOwn db f f.formula
    formula_own = (owned statement_text db shows sound l f u.frame).formula

    hyps_own : AllByRecursion P (essentials f.hyps)
    hyps_own = (owned statement_text db shows sound l f u.frame).hyps

    of_tree_in : (t : Tree) → IsTreeIn a t → (g : List Sym) × IsOf g t
    of_tree_in t o = elim (parted t a.tree a.hyps o) [
      | inl e ↦ (f.formula, record { read = subst (IsRead db f.at f.formula) e u.conclusion; expression = formula_own.expression })
      | inr k ↦ let r = left_of R P (essentials f.hyps) a.hyps t u.hyps hyps_own k in (r.0.formula, record { read = r.1; expression = r.2.expression })
    ]

    of_formula : (g : List Sym) → Contains (f.formula ∷ map (λ (h : Hyp). h.formula) (essentials f.hyps)) g → (t : Tree) × IsTreeIn a t × IsOf g t
    of_formula g o = elim (parted g f.formula (map (λ (h : Hyp). h.formula) (essentials f.hyps)) o) [
      | inl e ↦ (a.tree, first a.tree a.tree a.hyps refl, subst (λ x. IsOf x a.tree) e (record { read = u.conclusion; expression = formula_own.expression }))
      | inr k ↦
          let m = mapped_from (λ (h : Hyp). h.formula) (essentials f.hyps) g k in
          let r = right_of R P (essentials f.hyps) a.hyps m.0 u.hyps hyps_own m.1 in
          (r.0, later r.0 a.tree a.hyps r.1, subst (λ x. IsOf x r.0) m.2 (record { read = r.2; expression = r.3.expression }))
    ]

    -- the leaves of its text are the frame's own
    text_own : (g : List Sym) (t : Tree) → IsOf g t → text db.rows t ≡ own_expression db f g
    text_own g t h = h.read.tree.parses.written ∙ sym h.expression

    no_work : (x : Leaf) (w : WorkVariable) → work_leaf x ≡ Some w → IsOwnLeaf db f x → ⊥
    no_work x w e (constant s h) = let bad : None ≡ Some w = ap work_leaf (sym h) ∙ e in cc
    no_work x w e (own s c h k) = let bad : None ≡ Some w = ap work_leaf (sym h) ∙ e in cc

    own_variable : (x : Leaf) (v : TypedVariable) → var_leaf x ≡ Some v → IsOwnLeaf db f x → float_of v.sym f.hyps ≡ Some v.code
    own_variable x v e (constant s h) = let bad : None ≡ Some v = ap var_leaf (sym h) ∙ e in absurd (cc)
    own_variable x v e (own s c h k) =
        let same : ◌≡◌ {A = Option TypedVariable} (Some (record { sym = s; code = c })) (Some v) = ap var_leaf (sym h) ∙ e in
        let is : ◌≡◌ {A = TypedVariable} (record { sym = s; code = c }) v = cc in
        subst (λ (w : TypedVariable). float_of w.sym f.hyps ≡ Some w.code) is k

    in_own : (t : Tree) (o : IsTreeIn a t) (x : Leaf) → Contains (text db.rows t) x → IsOwnLeaf db f x
    in_own t o x h = let r = of_tree_in t o in is_own db f r.0 x (subst (λ xs. Contains xs x) (text_own r.0 t r.1) h)

    typed_tree : (t : Tree) → IsTreeIn a t → IsTyped db.rows f.at t
    typed_tree t o = (of_tree_in t o).1.read.tree.parses.typed

    closed_tree : (t : Tree) (x : Open) → IsTreeIn a t → Contains (leaves t) (open_leaf x) → ⊥
    closed_tree t (work c n) o h =
        let mark = of_text (open_leaf (work c n)) db.rows facts.grammar f.at t (typed_tree t o) h in
        let stands = subst (λ ws. Contains ws (work_variable c n)) (sym (text_works db t)) (in_kept work_mark (marks db.rows t) (open_leaf (work c n)) (work_variable c n) mark refl) in
        let from = kept_from work_leaf (text db.rows t) (work_variable c n) stands in
        no_work from.0 (work_variable c n) from.2 (in_own t o from.0 from.1)
    closed_tree t (fresh c n) o h = no_fresh_leaf c n t (of_tree_in t o).1.read.tree.parses.named (mark_occurs t (fresh c n) h)

    known_variable : (t : Tree) (s : Sym) (c : Typecode) → IsTreeIn a t → Contains (leaves t) (variable s c) → (v : TypedVariable) × Contains a.vars v × (v.sym ≡ s) × (v.code ≡ c)
    known_variable t s c o h =
        let v : TypedVariable = record { sym = s; code = c } in
        let mark = of_text (variable s c) db.rows facts.grammar f.at t (typed_tree t o) h in
        let stands = subst (λ ws. Contains ws v) (sym (text_variables db t)) (in_kept var_mark (marks db.rows t) (variable s c) v mark refl) in
        let from = kept_from var_leaf (text db.rows t) v stands in
        let code = own_variable from.0 v from.2 (in_own t o from.0 from.1) in
        let r = float_stands db f s c code in
        (r.0, subst (λ vs. Contains vs r.0) (sym u.vars) r.1, r.2, r.3)

    variable_stands : (v : TypedVariable) → Contains a.vars v → (t : Tree) × IsTreeIn a t × Contains (variables t) v.sym
    variable_stands v o =
        let own_one = subst (λ vs. Contains vs v) u.vars o in
        let stand = standing statement_text db shows sound l f u.frame v own_one in
        let s = formula_with f v.sym stand.1 in
        let t = of_formula s.0 s.1 in
        let leaf_is = var_stands db f v own_one stand.0 in
        let w : TypedVariable = record { sym = v.sym; code = leaf_is.0 } in
        let there = subst (λ xs. Contains xs (leaf.Var v.sym leaf_is.0)) (sym (text_own s.0 t.0 t.2)) (in_kept (own_leaf db f) (drop 1 s.0) v.sym (leaf.Var v.sym leaf_is.0) s.2 leaf_is.1) in
        let kept = subst (λ ws. Contains ws w) (text_variables db t.0) (in_kept var_leaf (text db.rows t.0) (leaf.Var v.sym leaf_is.0) w there refl) in
        let from = kept_from var_mark (marks db.rows t.0) w kept in
        let mark = subst (Contains (marks db.rows t.0)) (variable_mark_is from.0 v.sym leaf_is.0 from.2) from.1 in
        (t.0, t.1, mark_variable t.0 v.sym leaf_is.0 (of_tree (variable v.sym leaf_is.0) db.rows t.0 mark))

    plain_one : IsPlain db l a
    plain_one =
        let fr = facts.frames l f u.frame in
        record {
          at = fr.at;
          typed = typed_tree;
          closed = closed_tree;
          known = known_variable;
          differ = subst VariablesDiffer (sym u.vars) fr.variables;
          stand = variable_stands;
        }

  pub are_plain : ArePlain db
  are_plain l a e = plain_one l a (facts.usable l a e)
