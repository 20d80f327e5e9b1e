-- The formulas of a worksheet, valued: they are typed, and their variables are declared at its place.
use Rattle.std.specs.Prelude.{◌≡◌, ◌<◌, ◌≤◌, ◌==◌, ℕ, zero, suc, Bool, true, false, not, List, [], ◌∷◌, length, find, drop, take, slice_get}
use Rattle.std.specs.Prelude.{slice_index_or, nat_lt, nat_le, Contains, Option, Some, None, option_map, refl}
use Rattle.std.specs.List.{AllZip, AllByRecursion}
use Rattle.std.proofs.Common.{sym, ap, subst, ◌∙◌, cond, arith, inl, inr}
use Rattle.std.proofs.lemmas.Bool.{ltb-true, leb-true, not-false, not_from_true}
use Rattle.std.proofs.lemmas.Option.{slice_get_within}
use Rattle.mm_base.specs.declared.symbols.Sym.{Sym}
use Rattle.mm_base.specs.declared.symbols.Label.{Label}
use Rattle.mm_base.specs.declared.symbols.Typecode.{Typecode}
use Rattle.mm_base.specs.declared.tree.Tree.{Tree}
use Rattle.mm_base.specs.declared.tree.Tree.TheVariants.{Var}
use Rattle.mm_base.specs.Trees.{code_of}
use Rattle.mm_model.specs.declared.frames.Hyp.{Hyp}
use Rattle.mm_model.specs.declared.frames.Frame.{Frame}
use Rattle.mm_model.specs.declared.rows.Leaf.TheVariants as leaf
use Rattle.mm_model.specs.Names.{Name}
use Rattle.mm_model.specs.Texts.{text}
use Rattle.mm_model.specs.Typed.{IsTyped}
use Rattle.mm_model.specs.Productions.{TypedVariable, typed_variables, essentials}
use Rattle.mm_model.specs.Book.{Database, Assertion, IsUsable, IsRead, label_of, position_of, float_of, logic_code}
use Rattle.mm_model.proofs.RowLaws.{find_passes}
use Rattle.mm_model.proofs.TextLaws.{text-Var}
use Rattle.mm_model.proofs.TypedLaws.{code-Var, typed-Var}
use Rattle.model_laws.specs.FrameLaws.{own_leaf, own_expression}
use Rattle.sheet_text.specs.declared.sheet.SheetStep.{SheetStep}
use Rattle.solve_model.specs.declared.bound.Bound.{Bound}
use Rattle.solve_model.specs.declared.bound.BoundStep.{BoundStep}
use Rattle.solve_model.specs.declared.verdict.Verdict.TheVariants as verdict
use Rattle.solve_model.specs.Trees.{Open, work, fresh, leaf_tree, open_code, Occurs}
use Rattle.solve_model.specs.Firsts.{IsFirstIn}
use Rattle.solve_model.specs.Formulas.{IsTheTree}
use Rattle.solve_model.specs.Bound.{IsBoundStep, HasTree, Standing, candidate, settled, standing, standing_of_reference, standing_of_label, standing_of_frame, standing_usable}
use Rattle.solve_model.specs.Solutions.{Unknown, named, blank, copy, in_formula, is_blank, in_frame, Valuation, Asked, IsUnknown, formula, formula_value, instance, open_value, no_step, orders_of}
use Rattle.solve_model.specs.Verdicts.{Judgement, accepted, stands, asked_of, accepted_in, FitsIn, IsJudgement, other, fits, no_fit, AreJudged}
use Rattle.solve_model.specs.MostGeneral.{IsTheValuation}
use Rattle.solve_laws.specs.Instances.{IsClosedTree, IsClosed}
use Rattle.solve_laws.specs.ReplacedTypes.{IsTypedAs}
use Rattle.push_laws.proofs.Entries.{same_symbol}
use Rattle.push_laws.proofs.Facts.{IsBook, IsOwnFormula}
use Rattle.push_laws.proofs.Lists.{first, later, nothing, parted, all_of, all_in, get_contains, get_within, contains_get, filter_map_contains, index_get}
use Rattle.push_laws.proofs.NoOther.{no_other}
use Rattle.push_laws.proofs.ReadTrees.{IsDeclared, is_declared, declared_from, declared_to, read_declared, filter_map_from}
use Rattle.push_laws.proofs.Replaced.{HasVar, typed_on, comes_from, work_is_read, fresh_is_none}

pub zip_back : {X Y : Type 0} (R : X → Y → Type 0) (xs : List X) (ys : List Y) (k : ℕ) (y : Y) → AllZip R xs ys → slice_get ys k ≡ Some y → (x : X) × (slice_get xs k ≡ Some x) × R x y
zip_back R xs [] k y a e = absurd cc
zip_back R [] (z ∷ ys) k y a e = absurd a
zip_back R (x ∷ xs) (z ∷ ys) zero y a e = (x, refl, subst (R x) (let same : z ≡ y = cc in same) a.0)
zip_back R (x ∷ xs) (z ∷ ys) (suc k) y a e = zip_back R xs ys k y a.1 e

-- ---- a candidate

pub record IsCandidate (db : Database) (place : ℕ) (s : BoundStep) (a : Assertion) : Type 0 where
  pub no_hyp : s.hyp ≡ false
  pub reference : Name
  pub reference_is : s.reference ≡ Some reference
  pub label : Label
  pub label_is : label_of db reference ≡ Some label
  pub usable : db.usable label ≡ Some a
  pub earlier : position_of db label < place
  pub few : length s.places ≤ length a.hyps

module _ (db : Database) (place : ℕ) (s : BoundStep) (a : Assertion) where
  by_usable : (o : Option Assertion) → standing_usable s o ≡ candidate a → (o ≡ Some a) × (length s.places ≤ length a.hyps)
  by_usable None e = absurd cc
  by_usable (Some b) e = go (nat_le (length s.places) (length b.hyps)) refl e
    where
      go : (t : Bool) → nat_le (length s.places) (length b.hyps) ≡ t → cond t (candidate b) (settled verdict.TooManyHyps) ≡ candidate a → (Some b ≡ Some a) × (length s.places ≤ length a.hyps)
      go true i j = let same : b ≡ a = cc in (ap (λ x. Some x) same, subst (λ (x : Assertion). length s.places ≤ length x.hyps) same (leb-true (length s.places) (length b.hyps) i))
      go false i j = absurd cc

  abbrev Stands : Label → Type 0
  Stands l = (position_of db l < place) × (db.usable l ≡ Some a) × (length s.places ≤ length a.hyps)

  by_place : (l : Label) (t : Bool) → nat_lt (position_of db l) place ≡ t → cond t (standing_usable s (db.usable l)) (settled verdict.NotUsable) ≡ candidate a → Stands l
  by_place l true i e = let u = by_usable (db.usable l) e in (ltb-true (position_of db l) place i, u.0, u.1)
  by_place l false i e = absurd cc

  by_frame : (l : Label) (o : Option Frame) → standing_of_frame db place s l o ≡ candidate a → Stands l
  by_frame l None e = absurd cc
  by_frame l (Some f) e = by_place l (nat_lt (position_of db l) place) refl e

  by_label : (o : Option Label) → standing_of_label db place s o ≡ candidate a → (l : Label) × (o ≡ Some l) × Stands l
  by_label None e = absurd cc
  by_label (Some l) e = (l, refl, by_frame l (db.frame l) e)

  by_reference : (o : Option Name) → standing_of_reference db place s o ≡ candidate a → (r : Name) × (o ≡ Some r) × ((l : Label) × (label_of db r ≡ Some l) × Stands l)
  by_reference None e = absurd cc
  by_reference (Some r) e = (r, refl, by_label (label_of db r) e)

  by_hyp : (t : Bool) → s.hyp ≡ t → cond t (settled verdict.Hyp) (standing_of_reference db place s s.reference) ≡ candidate a → IsCandidate db place s a
  by_hyp true i e = absurd cc
  by_hyp false i e =
      let r = by_reference s.reference e in
      let l = r.2 in
      record { no_hyp = i; reference = r.0; reference_is = r.1; label = l.0; label_is = l.1; usable = l.2.1; earlier = l.2.0; few = l.2.2 }

  -- what stands as a candidate
  pub candidate_is : standing db place s ≡ candidate a → IsCandidate db place s a
  candidate_is e = by_hyp s.hyp refl e

-- ---- what is accepted

module _ (db : Database) (bound : Bound) (judgements : List Judgement) (judged : AreJudged db bound judgements) where
  pub record IsAccepted (x : Asked) : Type 0 where
    pub bound_step : BoundStep
    pub stands : slice_get bound.steps x.step ≡ Some bound_step
    pub is_candidate : IsCandidate db bound.place bound_step x.assertion
    pub order : Contains (orders_of bound_step x.assertion) x.places

  first_contains : {X : Type 0} (P : X → Type 0) (xs : List X) (x : X) → IsFirstIn P xs x → Contains xs x
  first_contains P [] x h = absurd cc
  first_contains P (y ∷ ys) x (inl h) = first x y ys (let same : y ≡ x = cc in same)
  first_contains P (y ∷ ys) x (inr h) = later x y ys (first_contains P ys x h.1)

  judged_accepted : (i : ℕ) (s : BoundStep) (before : List Asked) (st : Standing) (o : Judgement) (x : Asked) → standing db bound.place s ≡ st
      → slice_get bound.steps i ≡ Some s → IsJudgement db bound before i s st o → o ≡ accepted x
      → IsAccepted x × (x.step ≡ i)
  judged_accepted i s before (settled v) (stands w) x is at other e = absurd cc
  judged_accepted i s before (settled v) (accepted y) x is at j e = elim j [ ]
  judged_accepted i s before (candidate a) (accepted y) x is at (fits {places = places} h) e =
      let same : y ≡ x = cc in
      subst (λ z. IsAccepted z × (z.step ≡ i)) same
      (record { bound_step = s; stands = at; is_candidate = candidate_is db bound.place s a is; order = first_contains (FitsIn db bound before i a) (orders_of s a) places h }, refl)
  judged_accepted i s before (candidate a) (stands w) x is at (no_fit h) e = absurd cc

  pub accepted_at : (i : ℕ) (x : Asked) → slice_get judgements i ≡ Some (accepted x) → IsAccepted x × (x.step ≡ i)
  accepted_at i x e =
      let within : i < length bound.steps = (let a = slice_get_within judgements i (accepted x) e in let b = judged.count in omega (arith, a, b)) in
      let s = get_within bound.steps i within in
      judged_accepted i s.0 (accepted_in (take i judgements)) (standing db bound.place s.0) (accepted x) x refl s.1 (judged.each i s.0 (accepted x) s.1 e) refl

  abbrev is_asked : (js : List Judgement) (x : Asked) → Contains (accepted_in js) x → (j : Judgement) × Contains js j × (asked_of j ≡ Some x)
  is_asked [] x h = absurd (nothing x h)
  is_asked (j ∷ js) x h = go j h (λ l. is_asked js x l)
    where
      go : (j : Judgement) → Contains (accepted_in (j ∷ js)) x
          → (Contains (accepted_in js) x → (k : Judgement) × Contains js k × (asked_of k ≡ Some x))
          → (k : Judgement) × Contains (j ∷ js) k × (asked_of k ≡ Some x)
      go (stands v) i f = let r = f i in (r.0, later r.0 (stands v) js r.1, r.2)
      go (accepted y) i f = elim (parted x y (accepted_in js) i) [
        | inl e ↦ (accepted y, first (accepted y) (accepted y) js refl, ap (λ z. Some z) e)
        | inr l ↦ let r = f l in (r.0, later r.0 (accepted y) js r.1, r.2)
      ]

  is_that : (j : Judgement) (x : Asked) → asked_of j ≡ Some x → j ≡ accepted x
  is_that (accepted y) x e = let same : y ≡ x = cc in ap (λ z. accepted z) same
  is_that (stands v) x e = absurd cc

  pub all_accepted : (x : Asked) → Contains (accepted_in judgements) x → IsAccepted x
  all_accepted x h =
      let j = is_asked judgements x h in
      let at = contains_get judgements j.0 j.1 in
      (accepted_at at.0 x (at.1 ∙ ap (λ z. Some z) (is_that j.0 x j.2))).0

  pub accepted_in_all : (i : ℕ) (x : Asked) → slice_get judgements i ≡ Some (accepted x) → Contains (accepted_in judgements) x
  accepted_in_all i x e = filter_map_contains asked_of judgements (accepted x) x (get_contains judgements i (accepted x) e) refl

-- ---- an assertion's trees

module _ (db : Database) (book : IsBook db) (l : Label) (a : Assertion) (usable : db.usable l ≡ Some a) where
  is_usable : IsUsable db l a
  is_usable = book.facts.usable l a usable

  -- a tree of the assertion: typed below it, closed, and its variables are those of the frame
  pub record IsAssertionTree (t : Tree) : Type 0 where
    pub code : code_of t ≡ logic_code db
    pub typed : IsTyped db.rows a.frame.at t
    pub closed : IsClosedTree t
    pub vars : (s : Sym) (c : Typecode) → Contains (text db.rows t) (leaf.Var s c) → (v : TypedVariable) × Contains a.vars v × (v.sym ≡ s) × (v.code ≡ c)

  own_work : (x : Sym) (c : Typecode) (n : ℕ) (b : Bool) (o : Option Typecode) → cond b (Some (leaf.Const x)) (option_map (λ d. leaf.Var x d) o) ≡ Some (leaf.Work c n) → ⊥
  own_work x c n true o e = cc
  own_work x c n false None e = cc
  own_work x c n false (Some d) e = cc

  own_var : (x s : Sym) (c : Typecode) (b : Bool) (o : Option Typecode) → cond b (Some (leaf.Const x)) (option_map (λ d. leaf.Var x d) o) ≡ Some (leaf.Var s c) → (x ≡ s) × (o ≡ Some c)
  own_var x s c true o e = absurd cc
  own_var x s c false None e = absurd cc
  own_var x s c false (Some d) e = (let one : x ≡ s = cc in one, let two : d ≡ c = cc in ap (λ z. Some z) two)

  typed_variable : (s : Sym) (c : Typecode) → float_of s a.frame.hyps ≡ Some c → (v : TypedVariable) × Contains (typed_variables a.frame.hyps) v × (v.sym ≡ s) × (v.code ≡ c)
  typed_variable s c e = go (find (λ (v : TypedVariable). v.sym.0 == s.0) (typed_variables a.frame.hyps)) refl e
    where
      go : (o : Option TypedVariable) → find (λ (v : TypedVariable). v.sym.0 == s.0) (typed_variables a.frame.hyps) ≡ o → option_map (λ (v : TypedVariable). v.code) o ≡ Some c
          → (v : TypedVariable) × Contains (typed_variables a.frame.hyps) v × (v.sym ≡ s) × (v.code ≡ c)
      go None i j = absurd cc
      go (Some v) i j =
          let f = find_passes (λ (w : TypedVariable). w.sym.0 == s.0) (typed_variables a.frame.hyps) v i in
          (v, get_contains (typed_variables a.frame.hyps) f.place v f.stands, same_symbol v.sym s f.passes, let same : v.code ≡ c = cc in same)

  tree_by : (g : List Sym) (t : Tree) → IsRead db a.frame.at g t → IsOwnFormula db a.frame g → IsAssertionTree t
  tree_by g t r own =
      let p = r.tree.parses in
      let e : own_expression db a.frame g ≡ text db.rows t = own.expression ∙ sym p.written in
      record {
        code = p.code;
        typed = p.typed;
        closed = λ x o. closed_by x o;
        vars = λ s c h.
            let x = filter_map_from (own_leaf db a.frame) (drop 1 g) (leaf.Var s c) (subst (λ xs. Contains xs (leaf.Var s c)) (sym e) h) in
            let two = own_var x.0 s c (db.is_constant_at x.0 a.frame.at) (float_of x.0 a.frame.hyps) x.1 in
            let v = typed_variable s c (subst (λ y. float_of y a.frame.hyps ≡ Some c) two.0 two.1) in
            (v.0, subst (λ vs. Contains vs v.0) (sym is_usable.vars) v.1, v.2, v.3);
      }
    where
      closed_by : (x : Open) → Occurs x t → ⊥
      closed_by (work c n) o =
          let x = filter_map_from (own_leaf db a.frame) (drop 1 g) (leaf.Work c n)
          (subst (λ xs. Contains xs (leaf.Work c n)) (sym (own.expression ∙ sym r.tree.parses.written)) (work_is_read db book a.frame.at t r.tree.parses.typed c n o)) in
          own_work x.0 c n (db.is_constant_at x.0 a.frame.at) (float_of x.0 a.frame.hyps) x.1
      closed_by (fresh c n) o = fresh_is_none db book a.frame.at t r.tree.parses.named c n o

  pub conclusion_tree : IsAssertionTree a.tree
  conclusion_tree = tree_by a.frame.formula a.tree is_usable.conclusion (book.own l a.frame is_usable.frame).formula

  pub hyp_trees : AllByRecursion IsAssertionTree a.hyps
  hyp_trees = go (essentials a.frame.hyps) a.hyps (book.own l a.frame is_usable.frame).hyps is_usable.hyps
    where
      go : (hs : List Hyp) (ts : List Tree) → AllByRecursion (λ (h : Hyp). IsOwnFormula db a.frame h.formula) hs
          → AllZip (λ (h : Hyp) t. IsRead db a.frame.at h.formula t) hs ts → AllByRecursion IsAssertionTree ts
      go [] [] o z = tt
      go [] (t ∷ ts) o z = absurd z
      go (h ∷ hs) [] o z = absurd z
      go (h ∷ hs) (t ∷ ts) o z = (tree_by h.formula t z.0 o.0, go hs ts o.1 z.1)

-- ---- values

module _ (db : Database) (book : IsBook db) (bound : Bound) (judgements : List Judgement) (judged : AreJudged db bound judgements) (g : Valuation)
    (the : IsTheValuation db bound (accepted_in judgements) g) (steps : List SheetStep) (bounds : AllZip (IsBoundStep db bound.place) steps bound.steps) where
  -- a tree that is written: typed at the place, of the logic typecode, with declared variables
  pub record IsSoundTree (t : Tree) : Type 0 where
    pub code : code_of t ≡ logic_code db
    pub typed : IsTyped db.rows bound.place t
    pub vars : (s : Sym) (c : Typecode) → HasVar db book bound.place t s c → IsDeclared db bound.place s c

  abbrev On : Unknown → Type 0
  On = IsUnknown bound (accepted_in judgements)

  index_tree : (bs : List BoundStep) (i : ℕ) (t : Tree) → (slice_index_or bs i no_step).tree ≡ Some t → (s : BoundStep) × (slice_get bs i ≡ Some s) × (s.tree ≡ Some t)
  index_tree [] i t e = absurd cc
  index_tree (b ∷ bs) zero t e = (b, refl, e)
  index_tree (b ∷ bs) (suc i) t e = index_tree bs i t e

  -- a formula as it was read
  read_tree : (i : ℕ) (s : BoundStep) (t : Tree) → slice_get bound.steps i ≡ Some s → s.tree ≡ Some t → (r : SheetStep) × (slice_get steps i ≡ Some r) × IsTheTree db bound.place r.formula t
  read_tree i s t at e =
      let r = zip_back (IsBoundStep db bound.place) steps bound.steps i s bounds at in
      (r.0, r.1, subst (HasTree db bound.place r.0.formula) e r.2.tree)

  closed_all : AllByRecursion IsClosed (accepted_in judgements)
  closed_all = all_in IsClosed (accepted_in judgements) (λ x h.
      let c = (all_accepted db bound judgements judged x h).is_candidate in (
        (conclusion_tree db book c.label x.assertion c.usable).closed,
        all_in IsClosedTree x.assertion.hyps (λ t k. (all_of (IsAssertionTree db book c.label x.assertion c.usable) x.assertion.hyps t (hyp_trees db book c.label x.assertion c.usable) k).closed),
      ))

  undeclared : Sym → Typecode → Bool
  undeclared s c = not (is_declared db bound.place s c)

  reads_declared : (i : ℕ) (t : Tree) → (slice_index_or bound.steps i no_step).tree ≡ Some t
      → IsTyped db.rows bound.place t × ((s : Sym) (c : Typecode) → HasVar db book bound.place t s c → undeclared s c ≡ false)
  unfolding undeclared
  reads_declared i t e =
      let s = index_tree bound.steps i t e in
      let r = read_tree i s.0 t s.1 s.2 in
      (r.2.parses.typed, λ v c h. not_from_true (is_declared db bound.place v c) (declared_to db bound.place v c (read_declared db bound.place r.0.formula t r.2.parses v c h)))

  -- the variables of a value are declared
  pub value_declared : (u : Unknown) → On u → (s : Sym) (c : Typecode) → HasVar db book bound.place (g u) s c → IsDeclared db bound.place s c
  unfolding undeclared
  value_declared u on s c h =
      declared_from db bound.place s c
      (not-false (is_declared db bound.place s c) (no_other db book undeclared bound g reads_declared (accepted_in judgements) the.most_general closed_all u on s c h))

  value_typed : (u : Unknown) → On u → IsTyped db.rows bound.place (g u)
  value_typed u on = the.most_general.is_valuation.typed u on

  same_var : (s v : Sym) (c d : Typecode) → HasVar db book bound.place (Var v d) s c → (v ≡ s) × (d ≡ c)
  same_var s v c d h = elim (parted (leaf.Var s c) (leaf.Var v d) [] (subst (λ xs. Contains xs (leaf.Var s c)) (text-Var db.rows v d) h)) [
    | inl e ↦ (let one : v ≡ s = cc in one, let two : d ≡ c = cc in two)
    | inr l ↦ absurd (nothing (leaf.Var s c) l)
  ]

  formula_by : (i : ℕ) (s : BoundStep) (o : Option Tree) → slice_get bound.steps i ≡ Some s → s.tree ≡ o → IsSoundTree (formula_value g i o)
  formula_by i s None at e =
      let on : On (blank i) = is_blank s at e in
      record { code = the.most_general.is_valuation.code (blank i) on; typed = value_typed (blank i) on; vars = value_declared (blank i) on }
  formula_by i s (Some t) at e =
      let r = read_tree i s t at e in
      let p = r.2.parses in
      let kept = typed_on db book bound.place bound.place (λ v c. Var v c) (open_value g) t p.typed (omega arith) (λ v c h. record { code = code-Var v c; typed = typed-Var db.rows bound.place v c })
      (λ x o. open_typed x o) in
      record {
        code = kept.code ∙ p.code;
        typed = kept.typed;
        vars = λ v c h. elim (comes_from db book bound.place (λ x d. Var x d) (open_value g) v c t p.typed h) [
          | inl k ↦
              let two = same_var v k.0 c k.1 k.3 in
              read_declared db bound.place r.0.formula t p v c (subst (λ d. HasVar db book bound.place t v d) two.1 (subst (λ x. HasVar db book bound.place t x k.1) two.0 k.2))
          | inr k ↦ open_declared k.0 v c k.1 k.2
        ];
      }
    where
      open_typed : (x : Open) → Occurs x t → IsTypedAs db.rows bound.place (open_code x) (open_value g x)
      open_typed (work c n) o =
          let on : On (named c n) = in_formula i s t at e o in
          record { code = the.most_general.is_valuation.code (named c n) on; typed = value_typed (named c n) on }
      open_typed (fresh c n) o = absurd (fresh_is_none db book bound.place t (read_tree i s t at e).2.parses.named c n o)

      open_declared : (x : Open) (v : Sym) (c : Typecode) → Occurs x t → HasVar db book bound.place (open_value g x) v c → IsDeclared db bound.place v c
      open_declared (work d n) v c o h = value_declared (named d n) (in_formula i s t at e o) v c h
      open_declared (fresh d n) v c o h = absurd (fresh_is_none db book bound.place t (read_tree i s t at e).2.parses.named d n o)

  -- the formula of a step, valued
  pub formula_sound : (i : ℕ) (s : BoundStep) → slice_get bound.steps i ≡ Some s → IsSoundTree (formula bound g i)
  formula_sound i s at = subst (λ (b : BoundStep). IsSoundTree (formula_value g i b.tree)) (sym (index_get bound.steps i no_step s at)) (formula_by i s s.tree at refl)

  -- a tree of an accepted assertion, valued
  pub instance_sound : (x : Asked) → Contains (accepted_in judgements) x → (l : Label) → (usable : db.usable l ≡ Some x.assertion) → position_of db l < bound.place → (t : Tree)
      → IsAssertionTree db book l x.assertion usable t → IsSoundTree (instance g x.step t)
  instance_sound x h l usable earlier t is =
      let at : x.assertion.frame.at ≡ position_of db l = (book.facts.frames l x.assertion.frame (book.facts.usable l x.assertion usable).frame).at in
      let less : x.assertion.frame.at ≤ bound.place = omega (arith, at, earlier) in
      let kept = typed_on db book x.assertion.frame.at bound.place (λ v c. g (copy x.step v c)) leaf_tree t is.typed less (λ v c k. var_typed v c (is.vars v c k)) (λ y o. absurd (is.closed y o)) in
      record {
        code = kept.code ∙ is.code;
        typed = kept.typed;
        vars = λ v c k. elim (comes_from db book x.assertion.frame.at (λ y d. g (copy x.step y d)) leaf_tree v c t is.typed k) [
          | inl m ↦ let w = is.vars m.0 m.1 m.2 in value_declared (copy x.step m.0 m.1) (on_copy m.0 m.1 w) v c m.3
          | inr m ↦ absurd (is.closed m.0 m.1)
        ];
      }
    where
      on_copy : (v : Sym) (c : Typecode) → ((w : TypedVariable) × Contains x.assertion.vars w × (w.sym ≡ v) × (w.code ≡ c)) → On (copy x.step v c)
      on_copy v c w = subst (λ d. On (copy x.step v d)) w.3 (subst (λ y. On (copy x.step y w.0.code)) w.2 (in_frame x w.0 h w.1))

      var_typed : (v : Sym) (c : Typecode) → ((w : TypedVariable) × Contains x.assertion.vars w × (w.sym ≡ v) × (w.code ≡ c)) → IsTypedAs db.rows bound.place c (g (copy x.step v c))
      var_typed v c w = let on = on_copy v c w in record { code = the.most_general.is_valuation.code (copy x.step v c) on; typed = value_typed (copy x.step v c) on }
