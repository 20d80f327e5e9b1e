-- The names of new work variables are read as these.
use Rattle.std.specs.Prelude.{◌≡◌, ◌⊎◌, ◌<◌, ◌^◌, ◌==◌, ℕ, Bool, true, false, List, [], ◌∷◌, length, map, take, drop, filter_map, flat_map, slice_get}
use Rattle.std.specs.Prelude.{Contains, Option, Some, None, option_map, refl}
use Rattle.std.proofs.Common.{sym, ap, subst, ◌∙◌, arith, inl, inr, cond}
use Rattle.std.proofs.lemmas.Bool.{cases_Bool, and_parts, both_ways, eqb-true, ltb-true}
use Rattle.std.proofs.lemmas.List.Elements.{Contains-append_left, Contains-append_right}
use Rattle.mm_base.specs.declared.symbols.Sym.{Sym}
use Rattle.mm_base.specs.declared.symbols.Label.{Label}
use Rattle.mm_base.specs.declared.symbols.Typecode.{Typecode}
use Rattle.mm_base.specs.declared.tree.Tree.{Tree}
use Rattle.mm_base.specs.declared.tree.Tree.TheVariants.{Var, Work, Node}
use Rattle.mm_base.specs.Trees.{code_of}
use Rattle.mm_base.proofs.TreeInduction.{tree_ind}
use Rattle.mm_model.specs.declared.rows.Leaf.TheVariants as leaf
use Rattle.mm_model.specs.Chains.{same_code}
use Rattle.mm_model.specs.Names.{Name}
use Rattle.mm_model.specs.Productions.{typed_variables}
use Rattle.mm_model.specs.Texts.{text}
use Rattle.mm_model.specs.Typed.{IsTyped, HasNoFresh}
use Rattle.mm_model.specs.Book.{Database, symbol_of, symbol_name, logic_code, declared_leaf, float_of, position_of}
use Rattle.mm_model.proofs.TextLaws.{text-Var, text-Work}
use Rattle.mm_model.proofs.TypedLaws.{code-Var, code-Work, code-Node, fresh_is_not_named, typed_here}
use Rattle.model_laws.specs.DatabaseLaws.{HasPlaces, HasSymbols}
use Rattle.solve_model.specs.Bound.{HasTree}
use Rattle.solve_model.specs.Firsts.{IsLeast}
use Rattle.solve_model.specs.Formulas.{leaf_of, leaf_by, expression_of, spelling, work_codes, work_of}
use Rattle.solve_model.specs.Trees.{work, fresh, leaf_tree, Occurs}
use Rattle.solve_model.specs.Solutions.{Unknown, named, blank, copy, IsUnknown, unknown_code, instance}
use Rattle.solve_model.specs.Verdicts.{Judgement, accepted, stands}
use Rattle.solve_laws.proofs.Elements.{nothing, here, first, later, parted}
use Rattle.solve_laws.proofs.OneValuation.{occurs-refine, occurs_leaf, code-leaf}
use Rattle.written_model.specs.declared.options.Options.{Options}
use Rattle.written_model.specs.WrittenSteps.{WrittenStep, trees}
use Rattle.written_model.specs.Filled.{wanted_by}
use Rattle.written_model.specs.Named.{WorkVariable, work_variable, same_work, is_in, work_leaf, works_in, read_works, not_seen, new_works, name_tree, name_leaf, name_fresh, IsWrittenLeaf, IsUnused}
use Rattle.written_model.specs.Written.{Writing}
use Rattle.again_laws.specs.Leaves.{typed}
use Rattle.again_laws.specs.Whole.{HasOnly}
use Rattle.solve_laws.specs.Instances.{IsClosedTree}
use Rattle.again_laws.proofs.LeafLaws.{comes}
use Rattle.again_laws.proofs.Lists.{contains_get, contains_map, contains_mapped, get_contains, get_mapped, from_filter_map, into_filter_map, all_of, some_same}
use Rattle.again_laws.proofs.Accepted.{accepted_at, whole_member, filled_tree, dropped, ds_typed, name_typed, member_at}
use Rattle.again_laws.proofs.AcceptedUses.{formula_holder}
use Rattle.again_laws.proofs.LeavesRead.{source_of}
use Rattle.again_laws.proofs.Setting.{Setting}
use Rattle.again_laws.proofs.TextLeaves.{work_shown}
use Rattle.again_laws.proofs.TokenLaws.{declared_no_work, work_told, work_read}
use Rattle.again_laws.proofs.Uses.{accepted_all}
use Rattle.again_laws.proofs.WholeAssertions.{find_typed}

-- ---- what was not seen

codes_same : (c d : Typecode) → same_code c d ≡ true → c ≡ d
codes_same c d e = ap (λ (n : ℕ). let x : Sym = record { 0 = n } in let y : Typecode = record { 0 = x } in y) (eqb-true c.0.0 d.0.0 e)

pub work_same : (a b : WorkVariable) → same_work a b ≡ true → a ≡ b
work_same a b e =
    let both = and_parts (same_code a.code b.code) (a.number == b.number) e in
    ap (λ (c : Typecode). work_variable c a.number) (codes_same a.code b.code both.0) ∙ ap (λ n. work_variable b.code n) (eqb-true a.number b.number both.1)

seen_by : (seen : List WorkVariable) (x : WorkVariable) (ws : List WorkVariable) (w : WorkVariable) → is_in seen w ≡ false → (x ≡ w) ⊎ Contains ws w
    → (Contains ws w → is_in seen w ≡ false → Contains (not_seen seen ws) w)
    → (Contains ws w → is_in (x ∷ seen) w ≡ false → Contains (not_seen (x ∷ seen) ws) w) → (t : Bool) → is_in seen x ≡ t
    → Contains (not_seen seen (x ∷ ws)) w
seen_by seen x ws w off m old new true e = elim m [
  | inl s ↦ absurd (both_ways (is_in seen w) off (ap (is_in seen) (sym s) ∙ e))
  | inr k ↦ rw e (old k off)
]
seen_by seen x ws w off m old new false e = rw e (elim m [
  | inl s ↦ first w x (not_seen (x ∷ seen) ws) s
  | inr k ↦ elim (cases_Bool (same_work w x)) [
    | inl d ↦ first w x (not_seen (x ∷ seen) ws) (sym (work_same w x d))
    | inr d ↦ let none : is_in (x ∷ seen) w ≡ false = rw d off in later w x (not_seen (x ∷ seen) ws) (new k none)
  ]
])

pub not_seen_has : (seen ws : List WorkVariable) (w : WorkVariable) → Contains ws w → is_in seen w ≡ false → Contains (not_seen seen ws) w
not_seen_has seen [] w m off = absurd (nothing w m)
not_seen_has seen (x ∷ ws) w m off = seen_by seen x ws w off (parted w x ws m) (not_seen_has seen ws w) (not_seen_has (x ∷ seen) ws w) (is_in seen x) refl

pub into_flat_map : {X Y : Type 0} (f : Y → List X) (ys : List Y) (y : Y) (x : X) → Contains ys y → Contains (f y) x → Contains (flat_map f ys) x
into_flat_map f [] y x m o = absurd (nothing y m)
into_flat_map f (z ∷ ys) y x m o = elim (parted y z ys m) [
  | inl e ↦ Contains-append_left (f z) (flat_map f ys) x (subst (λ w. Contains (f w) x) (sym e) o)
  | inr k ↦ Contains-append_right (f z) (flat_map f ys) x (into_flat_map f ys y x k o)
]

module _ (db : Database) (options : Options) (w : Writing) (numbers : List ℕ) (ds : List WrittenStep) (S : Setting db options w numbers ds) (places : HasPlaces db) (symbols : HasSymbols db) where
  abbrev place : ℕ
  place = w.bound.place

  abbrev OnRead : Unknown → Type 0
  OnRead = IsUnknown w.bound (accepted_all db options w numbers ds S)

  pub record IsCode (c : Typecode) : Type 0 where
    pub listed : Contains (work_codes db place) c
    pub constant : db.is_constant_at c.0 db.statement_count ≡ true

  float_code : (c : Typecode) → Contains (db.float_codes place) c → IsCode c
  float_code c m = record { listed = later c (logic_code db) (db.float_codes place) m; constant = (places.codes_are_constants place c m).0 }

  -- ---- the typecode of a work variable that was read

  token_code : (tokens : List Name) (t : Tree) → text db.rows t ≡ expression_of db place tokens → (c : Typecode) (n : ℕ) → Contains (text db.rows t) (leaf.Work c n) → IsCode c
  token_code tokens t e c n m =
      let r = from_filter_map (leaf_of db place) (drop 1 tokens) (leaf.Work c n) (subst (λ xs. Contains xs (leaf.Work c n)) e m) in
      by r.0 (symbol_of db r.0) refl r.2
    where
      same : (d : Typecode) (k : ℕ) → leaf.Work c n ≡ leaf.Work d k → d ≡ c
      same d k q = cc

      by : (token : Name) (o : Option Sym) → symbol_of db token ≡ o → leaf_by db place token o ≡ Some (leaf.Work c n) → IsCode c
      by token (Some s) is h = absurd (declared_no_work db place s c n h)
      by token None is h =
          let g = get_contains (filter_map (work_of db token) (work_codes db place)) 0 (leaf.Work c n) h in
          let d = from_filter_map (work_of db token) (work_codes db place) (leaf.Work c n) g in
          let told = work_told db token d.0 (leaf.Work c n) d.2 in
          let is_it = same d.0 told.number told.is in
          record { listed = subst (Contains (work_codes db place)) is_it d.1; constant = subst (λ (x : Typecode). db.is_constant_at x.0 db.statement_count ≡ true) is_it told.constant }

  named_by : (tokens : List Name) (o : Option Tree) (t : Tree) → o ≡ Some t → HasTree db place tokens o → (c : Typecode) (n : ℕ) → Occurs (work c n) t → IsCode c
  named_by tokens None t e h c n m = absurd (clash e)
    where
      clash : None ≡ Some t → ⊥
      clash q = cc
  named_by tokens (Some u) t e h c n m =
      let m' : Occurs (work c n) u = subst (Occurs (work c n)) (sym (some_same u t e)) m in
      token_code tokens u h.parses.written c n (work_shown db.rows place S.facts.grammar.rows_hold c n u h.parses.typed m')

  -- ---- the logic typecode

  module _ (tokens : List Name) where
    abbrev Logic : Tree → Type 0
    Logic t = code_of t ≡ logic_code db → IsTyped db.rows place t → HasNoFresh t → text db.rows t ≡ expression_of db place tokens → db.is_constant_at (logic_code db).0 db.statement_count ≡ true

    variable_code : (s : Sym) (c : Typecode) → text db.rows (Var s c) ≡ expression_of db place tokens → db.is_constant_at c.0 db.statement_count ≡ true
    variable_code s c e =
        let m : Contains (expression_of db place tokens) (leaf.Var s c) = subst (λ xs. Contains xs (leaf.Var s c)) (sym (text-Var db.rows s c) ∙ e) (here (leaf.Var s c)) in
        let r = from_filter_map (leaf_of db place) (drop 1 tokens) (leaf.Var s c) m in
        by r.0 (symbol_of db r.0) refl r.2
      where
        by_code : (z : Sym) (o : Option Typecode) → float_of z (db.active_at place).hyps ≡ o
            → option_map (λ (d : Typecode). leaf.Var z d) o ≡ Some (leaf.Var s c) → db.is_constant_at c.0 db.statement_count ≡ true
        by_code z None is h = absurd cc
        by_code z (Some d) is h =
            let same : d ≡ c = cc in
            let m = find_typed (typed_variables (db.active_at place).hyps) z d is in
            (float_code c (symbols.active_codes place (typed z c) (subst (λ (x : Typecode). Contains (typed_variables (db.active_at place).hyps) (typed z x)) same m))).constant

        by_active : (z : Sym) (b : Bool)
            → cond b (option_map (λ (d : Typecode). leaf.Var z d) (float_of z (db.active_at place).hyps)) None ≡ Some (leaf.Var s c)
            → db.is_constant_at c.0 db.statement_count ≡ true
        by_active z true h = by_code z (float_of z (db.active_at place).hyps) refl h
        by_active z false h = absurd cc

        by_constant : (z : Sym) (b : Bool) → db.is_constant_at z place ≡ b → declared_leaf db place z ≡ Some (leaf.Var s c) → db.is_constant_at c.0 db.statement_count ≡ true
        by_constant z true is h = let k : Some (leaf.Const z) ≡ Some (leaf.Var s c) = rw is at h in absurd cc
        by_constant z false is h = by_active z _ (rw is at h)

        by : (token : Name) (o : Option Sym) → symbol_of db token ≡ o → leaf_by db place token o ≡ Some (leaf.Var s c) → db.is_constant_at c.0 db.statement_count ≡ true
        by token (Some z) is h = by_constant z (db.is_constant_at z place) refl h
        by token None is h =
            let g = get_contains (filter_map (work_of db token) (work_codes db place)) 0 (leaf.Var s c) h in
            let d = from_filter_map (work_of db token) (work_codes db place) (leaf.Var s c) g in
            absurd (clash d.0 (work_told db token d.0 (leaf.Var s c) d.2).number (work_told db token d.0 (leaf.Var s c) d.2).is)
          where
            clash : (d : Typecode) (n : ℕ) → leaf.Var s c ≡ leaf.Work d n → ⊥
            clash d n q = cc

    node_code : (l : Label) (c : Typecode) (ts : List Tree) → IsTyped db.rows place (Node l c ts) → db.is_constant_at c.0 db.statement_count ≡ true
    node_code l c ts p =
        let layer = typed_here db.rows place l c ts p in
        let f = S.facts.rows l layer.0 layer.1 in
        let begins = places.frame_begins l f.0 layer.0.gives.0 _ f.1 f.2.formula in
        subst (λ (x : Typecode). db.is_constant_at x.0 db.statement_count ≡ true) layer.3 (places.constants_end layer.0.gives.0 f.0.at begins)

    logic_by : (t : Tree) → Logic t
    logic_by = tree_ind Logic
        (λ s c code p n e. subst (λ (x : Typecode). db.is_constant_at x.0 db.statement_count ≡ true) (sym (code-Var s c) ∙ code) (variable_code s c e))
        (λ c k code p n e.
        subst (λ (x : Typecode). db.is_constant_at x.0 db.statement_count ≡ true) (sym (code-Work c k) ∙ code)
        (token_code tokens (Work c k) e c k (subst (λ xs. Contains xs (leaf.Work c k)) (sym (text-Work db.rows c k)) (here (leaf.Work c k)))).constant)
        (λ c k code p n e. absurd (fresh_is_not_named c k n))
        (λ l c ts h code p n e. subst (λ (x : Typecode). db.is_constant_at x.0 db.statement_count ≡ true) (sym (code-Node l c ts) ∙ code) (node_code l c ts p))

  pub logic_constant : (tokens : List Name) (o : Option Tree) → (tokens ≡ [] → ⊥) → HasTree db place tokens o → db.is_constant_at (logic_code db).0 db.statement_count ≡ true
  logic_constant tokens None filled h = absurd (filled h)
  logic_constant tokens (Some t) filled h = logic_by tokens t h.parses.code h.parses.typed h.parses.named h.parses.written

  -- ---- the holder of a fresh leaf

  wanted_holder : (n : ℕ) (o : Judgement) → slice_get w.judgements n ≡ Some o → (t : Tree) → Contains (wanted_by w.value o) t → (c : Typecode) (k : ℕ)
      → Occurs (fresh c k) t → (u : Unknown) × OnRead u × Occurs (fresh c k) (w.value u)
  wanted_holder n (stands z) e t m c k q = absurd (nothing t m)
  wanted_holder n (accepted y) e t m c k q =
      let r = contains_mapped (instance w.value y.step) (drop (length y.places) y.assertion.hyps) t m in
      let yours = accepted_at db options w numbers ds S n y e in
      let its = whole_member db options w numbers ds S y yours.member in
      let h_in = dropped (length y.places) y.assertion.hyps r.0 r.1 in
      let closed = all_of IsClosedTree y.assertion.hyps r.0 its.hyps_closed h_in in
      let known = all_of (HasOnly y.assertion.vars) y.assertion.hyps r.0 its.hyps_known h_in in
      elim (comes (λ s d. w.value (copy y.step s d)) leaf_tree (fresh c k) r.0 (subst (Occurs (fresh c k)) (sym r.2) q)) [
        | inl p ↦ (copy y.step p.0.sym p.0.code, IsUnknown.in_frame y p.0 yours.member (known p.0 p.1), p.2)
        | inr p ↦ absurd (closed p.0 p.1)
      ]

  holder : (c : Typecode) (m : ℕ) → IsWrittenLeaf (trees ds) c m → (u : Unknown) × OnRead u × Occurs (fresh c m) (w.value u)
  holder c m (t, there, o) =
      let n = contains_get (trees ds) t there in
      let d = get_mapped (λ (z : WrittenStep). z.tree) ds n.0 t n.1 in
      elim (S.filling.from n.0 d.0 d.1) [
        | inl j ↦
            let r = S.filling.own j.0 n.0 j.1 in
            let same : r.0 ≡ d.0 = some_same r.0 d.0 (sym r.1 ∙ d.1) in
            let tree = sym d.2 ∙ ap (λ (z : WrittenStep). z.tree) (sym same) ∙ ap (λ (z : WrittenStep). z.tree) r.2.is ∙ filled_tree (take j.0 numbers) r.2.more r.2.source _ w.value r.2.judgement in
            let h = formula_holder db options w numbers ds S j.0 r.2.source r.2.source_at c m (subst (Occurs (fresh c m)) tree o) in
            (h.holder, h.on, h.occurs)
        | inr made ↦ wanted_holder made.by made.judgement made.judgement_at d.0.tree made.wanted c m (subst (Occurs (fresh c m)) (sym d.2) o)
      ]

  module _ (logic_is : db.is_constant_at (logic_code db).0 db.statement_count ≡ true) where
    unknown_is_code : (u : Unknown) → OnRead u → IsCode (unknown_code db u)
    unknown_is_code (named c n) (IsUnknown.in_formula j b t at is o) = let s = source_of db options w numbers ds S j b at in named_by s.source.formula b.tree t is s.tree c n o
    unknown_is_code (blank j) on = record { listed = first (logic_code db) (logic_code db) (db.float_codes place) refl; constant = logic_is }
    unknown_is_code (copy i s c) (IsUnknown.in_frame y v m o) =
        let at = member_at db options w numbers ds S y m in
        let cand = (accepted_at db options w numbers ds S at.0 y at.1).candidate_is in
        let usable = S.facts.usable cand.label y.assertion cand.usable in
        let frame = S.facts.frames cand.label y.assertion.frame usable.frame in
        let own = subst (λ vs. Contains vs v) usable.vars o in
        let there = places.frame_codes cand.label y.assertion.frame v usable.frame own in
        let position : y.assertion.frame.at ≡ position_of db cand.label = frame.at in
        let low : position_of db cand.label < place = ltb-true (position_of db cand.label) place cand.earlier in
        float_code v.code (places.codes_stay y.assertion.frame.at place v.code (omega (arith, position, low)) there)

    fresh_code : (c : Typecode) (m : ℕ) → IsWrittenLeaf (trees ds) c m → IsCode c
    fresh_code c m h =
        let u = holder c m h in
        let leaf_ = S.the.canonical u.0 (fresh c m) u.1 u.2 in
        let code : unknown_code db leaf_.holder ≡ c = sym (S.the.most_general.is_valuation.code leaf_.holder leaf_.is_unknown) ∙ ap code_of leaf_.holds ∙ code-leaf (fresh c m) in
        subst IsCode code (unknown_is_code leaf_.holder leaf_.is_unknown)

    -- ---- its number

    named_works : (c : Typecode) (m k : ℕ) → IsWrittenLeaf (trees ds) c m → w.names c m ≡ Some k → Contains (flat_map (works_in db) (map (name_tree w.names) (trees ds))) (work_variable c k)
    named_works c m k (t, there, o) is =
        let value : name_leaf w.names (fresh c m) ≡ Work c k = ap (name_fresh c m) is in
        let inside : Occurs (work c k) (name_tree w.names t) = occurs-refine (name_leaf w.names) (fresh c m) (work c k) t o (subst (Occurs (work c k)) (sym value) (occurs_leaf (work c k))) in
        let n = contains_get (trees ds) t there in
        let d = get_mapped (λ (z : WrittenStep). z.tree) ds n.0 t n.1 in
        let typed_ : IsTyped db.rows place t = subst (IsTyped db.rows place) d.2 (ds_typed db options w numbers ds S n.0 d.0 d.1) in
        let shown = work_shown db.rows place S.facts.grammar.rows_hold c k (name_tree w.names t) (name_typed db place w.names t typed_).typed inside in
        into_flat_map (works_in db) (map (name_tree w.names) (trees ds)) (name_tree w.names t) (work_variable c k) (contains_map (name_tree w.names) (trees ds) t there)
        (into_filter_map work_leaf (text db.rows (name_tree w.names t)) (leaf.Work c k) (work_variable c k) shown refl)

    abbrev news : List WorkVariable
    news = new_works db w.bound (map (name_tree w.names) (trees ds))

    pub new_at : (c : Typecode) (m k : ℕ) → IsWrittenLeaf (trees ds) c m → w.names c m ≡ Some k → (j : ℕ) × (slice_get news j ≡ Some (work_variable c k))
    new_at c m k h is =
        let named_ = S.naming.named c m h in
        let same : named_.0 ≡ k = some_same named_.0 k (sym named_.1 ∙ is) in
        let off : is_in (read_works db w.bound) (work_variable c k) ≡ false = ap (λ n. is_in (read_works db w.bound) (work_variable c n)) (sym same) ∙ named_.2 in
        contains_get news (work_variable c k) (not_seen_has (read_works db w.bound) (flat_map (works_in db) (map (name_tree w.names) (trees ds))) (work_variable c k) (named_works c m k h is) off)

    pub new_least : (c : Typecode) (k j : ℕ) → slice_get news j ≡ Some (work_variable c k) → IsLeast (λ n. IsUnused db w.bound (take j news) (work_variable c n)) k
    new_least c k j at = S.naming.least j (work_variable c k) at

    -- a new work variable is read as itself
    pub fresh_read : ((c : Typecode) (m k : ℕ) → IsWrittenLeaf (trees ds) c m → w.names c m ≡ Some k → k < 2 ^ 32) → (c : Typecode) (m k : ℕ) → IsWrittenLeaf (trees ds) c m → w.names c m ≡ Some k
        → leaf_of db place (spelling (symbol_name db c.0) k) ≡ Some (leaf.Work c k)
    fresh_read small c m k h is =
        let at = new_at c m k h is in
        let least = new_least c k at.0 at.1 in
        let code = fresh_code c m h in
        work_read db S.facts place (λ d md kd. symbols.constants_within d.0 db.statement_count kd) c k least.from_one (small c m k h is) code.listed code.constant least.holds.not_declared
