-- The trees of a usable assertion have the variables of its frame, and no others.
use Rattle.std.specs.Prelude.{◌≡◌, ◌==◌, ℕ, zero, suc, Bool, true, false, Contains, List, [], ◌∷◌, drop, find, slice_get, Option, Some, None, option_map, refl}
use Rattle.std.specs.List.{AllByRecursion, AllZip}
use Rattle.std.proofs.Common.{sym, ap, subst, ◌∙◌, arith, inl, inr, cond}
use Rattle.std.proofs.lemmas.Bool.{eq-eqb, eqb-true}
use Rattle.mm_base.specs.declared.symbols.Sym.{Sym}
use Rattle.mm_base.specs.declared.symbols.Typecode.{Typecode}
use Rattle.mm_base.specs.declared.tree.Tree.{Tree}
use Rattle.mm_base.specs.declared.kinds.Kinds.{Kinds}
use Rattle.mm_model.specs.declared.frames.Hyp.{Hyp}
use Rattle.mm_model.specs.declared.frames.Frame.{Frame}
use Rattle.mm_model.specs.declared.rows.Leaf.TheVariants as leaf
use Rattle.mm_model.specs.Productions.{TypedVariable, typed_variables, essentials}
use Rattle.mm_model.specs.Book.{Database, Assertion, IsUsable, IsRead, declared_leaf, float_of}
use Rattle.mm_model.specs.BookFacts.{VariablesDiffer, IsDatabase}
use Rattle.solve_model.specs.Trees.{work, fresh}
use Rattle.solve_laws.specs.Instances.{IsClosedTree}
use Rattle.solve_laws.proofs.NoFresh.{no_fresh_leaf}
use Rattle.model_laws.specs.FrameLaws.{own_leaf, IsOwn, ShowsText, HasOwnExpressions, StandsInFrame, FramesHaveOwnExpressions, MandatoryVariablesStand}
use Rattle.model_laws.specs.DatabaseLaws.{HasDatabaseFacts}
use Rattle.written_model.specs.Opened.{IsOpened}
use Rattle.again_laws.specs.Leaves.{typed, typed_leaves}
use Rattle.again_laws.specs.Whole.{HasOnly, StandsIn, IsWhole, AssertionsAreWhole}
use Rattle.again_laws.proofs.Lists.{contains_get, from_filter_map, into_filter_map, zip_right, all_at, some_same}
use Rattle.again_laws.proofs.TextLeaves.{variable_leaf, variable_shown, variable_told, work_shown}

-- ---- what a symbol of a formula is

declared_is_closed : (db : Database) (place : ℕ) (s : Sym) (c : Typecode) (n : ℕ) → declared_leaf db place s ≡ Some (leaf.Work c n) → ⊥
declared_is_closed db place s c n e = by_constant (db.is_constant_at s place) refl
  where
    by_float : (o : Option Typecode) → option_map (λ (d : Typecode). leaf.Var s d) o ≡ Some (leaf.Work c n) → ⊥
    by_float None h = cc
    by_float (Some d) h = cc

    by_active : (b : Bool) → cond b (option_map (λ (d : Typecode). leaf.Var s d) (float_of s (db.active_at place).hyps)) None ≡ Some (leaf.Work c n) → ⊥
    by_active true h = by_float (float_of s (db.active_at place).hyps) h
    by_active false h = cc

    by_constant : (b : Bool) → db.is_constant_at s place ≡ b → ⊥
    by_constant true is = let h : Some (leaf.Const s) ≡ Some (leaf.Work c n) = rw is at e in cc
    by_constant false is = by_active _ (rw is at e)

same_number : (s t : Sym) → (s.0 == t.0) ≡ true → s ≡ t
same_number s t e = ap (λ (n : ℕ). let x : Sym = record { 0 = n } in x) (eqb-true s.0 t.0 e)

-- the first variable of a name, and its typecode
abbrev CodeIs : List TypedVariable → Sym → Typecode → Type 0
CodeIs vars s c = option_map (λ (v : TypedVariable). v.code) (find (λ (v : TypedVariable). v.sym.0 == s.0) vars) ≡ Some c

find_by : (v : TypedVariable) (vars : List TypedVariable) (s : Sym) (c : Typecode) → (CodeIs vars s c → Contains vars (typed s c))
    → CodeIs (v ∷ vars) s c → (b : Bool) → (v.sym.0 == s.0) ≡ b → Contains (v ∷ vars) (typed s c)
find_by v vars s c rest e true is =
    let h : Some v.code ≡ Some c = rw is at e in
    let one = same_number v.sym s is in
    let other = some_same v.code c h in
    (0, omega arith, ap (λ (z : Sym). typed z v.code) one ∙ ap (λ (z : Typecode). typed s z) other)
find_by v vars s c rest e false is = let r = rest (rw is at e) in let less = r.1 in (suc r.0, omega (arith, less), r.2)

pub find_typed : (vars : List TypedVariable) (s : Sym) (c : Typecode) → CodeIs vars s c → Contains vars (typed s c)
find_typed [] s c e = absurd cc
find_typed (v ∷ vars) s c e = find_by v vars s c (find_typed vars s c) e (v.sym.0 == s.0) refl

found_by : (w : TypedVariable) (vars : List TypedVariable) → VariablesDiffer (w ∷ vars) → (k : ℕ) (v : TypedVariable) → slice_get vars k ≡ Some v
    → CodeIs vars v.sym v.code → (b : Bool) → (w.sym.0 == v.sym.0) ≡ b → CodeIs (w ∷ vars) v.sym v.code
found_by w vars differ k v e rest true is = let bad : zero ≡ suc k = differ 0 (suc k) w v refl e (same_number w.sym v.sym is) in absurd (omega (arith, bad))
found_by w vars differ k v e rest false is = rw is rest

typed_found : (vars : List TypedVariable) → VariablesDiffer vars → (k : ℕ) (v : TypedVariable) → slice_get vars k ≡ Some v → CodeIs vars v.sym v.code
typed_found [] differ k v e = absurd cc
typed_found (w ∷ vars) differ zero v e =
    let same = some_same w v e in
    let test : (w.sym.0 == v.sym.0) ≡ true = eq-eqb w.sym.0 v.sym.0 (ap (λ (z : TypedVariable). z.sym.0) same) in
    rw test (ap (λ (z : TypedVariable). Some z.code) same)
typed_found (w ∷ vars) differ (suc k) v e =
    found_by w vars differ k v e (typed_found vars (λ i j a b p q s. let r : suc i ≡ suc j = differ (suc i) (suc j) a b p q s in omega (arith, r)) k v e) (w.sym.0 == v.sym.0) refl

own_is_known : (db : Database) (f : Frame) (s : Sym) (v : TypedVariable) → own_leaf db f s ≡ Some (variable_leaf v) → Contains (typed_variables f.hyps) v
own_is_known db f s v e = by (db.is_constant_at s f.at) refl
  where
    by_float : (o : Option Typecode) → float_of s f.hyps ≡ o → option_map (λ (d : Typecode). leaf.Var s d) o ≡ Some (variable_leaf v) → Contains (typed_variables f.hyps) v
    by_float None is h = absurd cc
    by_float (Some d) is h =
        let one : s ≡ v.sym = cc in
        let other : d ≡ v.code = cc in
        subst (Contains (typed_variables f.hyps)) (ap (λ (z : Sym). typed z d) one ∙ ap (λ (z : Typecode). typed v.sym z) other) (find_typed (typed_variables f.hyps) s d is)

    by : (b : Bool) → db.is_constant_at s f.at ≡ b → Contains (typed_variables f.hyps) v
    by true is = let h : Some (leaf.Const s) ≡ Some (variable_leaf v) = rw is at e in absurd cc
    by false is = by_float (float_of s f.hyps) refl (rw is at e)

-- ---- one formula with its tree

module _ (db : Database) (facts : IsDatabase db) (f : Frame) where
  module _ (formula : List Sym) (t : Tree) (own : IsOwn db f formula) (read : IsRead db f.at formula t) where
    closed : IsClosedTree t
    closed (work c n) o =
        let m = subst (λ xs. Contains xs (leaf.Work c n)) read.tree.parses.written (work_shown db.rows f.at facts.grammar.rows_hold c n t read.tree.parses.typed o) in
        let r = from_filter_map (declared_leaf db f.at) (drop 1 formula) (leaf.Work c n) m in
        declared_is_closed db f.at r.0 c n r.2
    closed (fresh c n) o = no_fresh_leaf c n t read.tree.parses.named o

    known : HasOnly (typed_variables f.hyps) t
    known v o =
        let m = subst (λ xs. Contains xs (variable_leaf v)) (read.tree.parses.written ∙ sym own.expression) (variable_shown db.rows f.at facts.grammar.rows_hold v t read.tree.parses.typed o) in
        let r = from_filter_map (own_leaf db f) (drop 1 formula) (variable_leaf v) m in
        own_is_known db f r.0 v r.2

    stands : (v : TypedVariable) (k : ℕ) → VariablesDiffer (typed_variables f.hyps) → slice_get (typed_variables f.hyps) k ≡ Some v
        → db.is_constant_at v.sym f.at ≡ false → Contains (drop 1 formula) v.sym → Contains (typed_leaves t) v
    stands v k differ e plain m =
        let code : float_of v.sym f.hyps ≡ Some v.code = typed_found (typed_variables f.hyps) differ k v e in
        let is : own_leaf db f v.sym ≡ Some (variable_leaf v) = rw (plain, code) refl in
        variable_told db.rows v t
        (subst (λ xs. Contains xs (variable_leaf v)) (own.expression ∙ sym read.tree.parses.written)
        (into_filter_map (own_leaf db f) (drop 1 formula) v.sym (variable_leaf v) m is))

  all_closed : (hs : List Hyp) (ts : List Tree) → AllByRecursion (λ (h : Hyp). IsOwn db f h.formula) hs
      → AllZip (λ (h : Hyp) (t : Tree). IsRead db f.at h.formula t) hs ts → AllByRecursion IsClosedTree ts
  all_closed [] [] own read = tt
  all_closed [] (t ∷ ts) own read = absurd read
  all_closed (h ∷ hs) [] own read = absurd read
  all_closed (h ∷ hs) (t ∷ ts) own read = (closed h.formula t own.0 read.0, all_closed hs ts own.1 read.1)

  all_known : (hs : List Hyp) (ts : List Tree) → AllByRecursion (λ (h : Hyp). IsOwn db f h.formula) hs
      → AllZip (λ (h : Hyp) (t : Tree). IsRead db f.at h.formula t) hs ts → AllByRecursion (HasOnly (typed_variables f.hyps)) ts
  all_known [] [] own read = tt
  all_known [] (t ∷ ts) own read = absurd read
  all_known (h ∷ hs) [] own read = absurd read
  all_known (h ∷ hs) (t ∷ ts) own read = (known h.formula t own.0 read.0, all_known hs ts own.1 read.1)

module _ (facts_law : HasDatabaseFacts) (own_law : FramesHaveOwnExpressions) (stand_law : MandatoryVariablesStand) where
  module _ (kinds : Kinds) (db : Database) (a : Assertion) (opened : IsOpened kinds db) (usable : db.usable a.label ≡ Some a) where
    facts : IsDatabase db
    facts = facts_law kinds opened.text db opened.is_database opened.sound

    is : IsUsable db a.label a
    is = facts.usable a.label a usable

    shows : ShowsText opened.text db
    shows = record { symbols = opened.is_database.symbols; frame = opened.is_database.frame; active_at = opened.is_database.active_at; is_constant_at = opened.is_database.is_constant_at }

    own : HasOwnExpressions opened.text db a.label a.frame
    own = own_law opened.text db shows opened.sound a.label a.frame is.frame

    variables_differ : VariablesDiffer (typed_variables a.frame.hyps)
    variables_differ = (facts.frames a.label a.frame is.frame).variables

    stands_by : (v : TypedVariable) (k : ℕ) → slice_get (typed_variables a.frame.hyps) k ≡ Some v → db.is_constant_at v.sym a.frame.at ≡ false → StandsInFrame a.frame v.sym → StandsIn a v
    stands_by v k e plain (inl m) = inl (stands db facts a.frame a.frame.formula a.tree own.formula is.conclusion v k variables_differ e plain m)
    stands_by v k e plain (inr m) =
        let t = zip_right _ (essentials a.frame.hyps) a.hyps is.hyps m.0 m.1 m.2 in
        let o = all_at (λ (h : Hyp). IsOwn db a.frame h.formula) (essentials a.frame.hyps) m.0 m.1 own.hyps m.2 in
        inr (m.0, t.0, t.1, stands db facts a.frame m.1.formula t.0 o t.2 v k variables_differ e plain m.3)

    whole_of : IsWhole a
    whole_of = record {
      closed = closed db facts a.frame a.frame.formula a.tree own.formula is.conclusion;
      hyps_closed = all_closed db facts a.frame (essentials a.frame.hyps) a.hyps own.hyps is.hyps;
      known = subst (λ vars. HasOnly vars a.tree) (sym is.vars) (known db facts a.frame a.frame.formula a.tree own.formula is.conclusion);
      hyps_known = subst (λ vars. AllByRecursion (HasOnly vars) a.hyps) (sym is.vars) (all_known db facts a.frame (essentials a.frame.hyps) a.hyps own.hyps is.hyps);
      all_stand = λ v m.
          let m' = subst (λ vars. Contains vars v) is.vars m in
          let k = contains_get (typed_variables a.frame.hyps) v m' in
          let both = stand_law opened.text db shows opened.sound a.label a.frame is.frame v m' in
          stands_by v k.0 k.1 both.0 both.1;
      differ = subst VariablesDiffer (sym is.vars) variables_differ;
    }

  pub whole : AssertionsAreWhole
  whole kinds db l a opened usable =
      let facts' = facts_law kinds opened.text db opened.is_database opened.sound in
      let label : a.label ≡ l = (facts'.usable l a usable).label in
      whole_of kinds db a opened (subst (λ x. db.usable x ≡ Some a) (sym label) usable)
