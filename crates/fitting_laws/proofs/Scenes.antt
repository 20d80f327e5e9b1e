-- A bound worksheet whose steps fit as they are written.
use Rattle.std.specs.Prelude.{◌≡◌, ◌<◌, ℕ, zero, suc, false, List, [], ◌∷◌, length, map, take, Contains, slice_get, slice_index_or, Some, refl}
use Rattle.std.specs.List.{AllZip}
use Rattle.std.proofs.Common.{sym, ap, subst, ◌∙◌, arith, inl, inr}
use Rattle.std.proofs.lemmas.List.{length-map}
use Rattle.mm_base.specs.declared.symbols.Pair.{Pair}
use Rattle.mm_base.specs.declared.symbols.Label.{Label}
use Rattle.mm_base.specs.declared.tree.Tree.{Tree}
use Rattle.mm_base.specs.declared.tree.Tree.TheVariants.{Var}
use Rattle.mm_base.specs.Trees.{code_of}
use Rattle.mm_model.specs.Productions.{TypedVariable}
use Rattle.mm_model.specs.Typed.{IsTyped}
use Rattle.mm_model.specs.Book.{Database, Assertion}
use Rattle.mm_model.specs.BookFacts.{IsDatabase}
use Rattle.sheet_text.specs.declared.sheet.Given.{Given}
use Rattle.sheet_text.specs.declared.sheet.Given.TheVariants as given
use Rattle.sheet_text.specs.declared.sheet.SheetStep.{SheetStep}
use Rattle.solve_model.specs.declared.bound.Bound.{Bound}
use Rattle.solve_model.specs.declared.bound.BoundStep.{BoundStep}
use Rattle.solve_model.specs.Trees.{leaf_tree, replace}
use Rattle.solve_model.specs.Solutions.{Valuation, formula, formula_value, open_value, no_step}
use Rattle.solve_laws.specs.Instances.{IsClosedTree}
use Rattle.solve_laws.proofs.ReplaceLaws.{replace-agree, replace-self}
use Rattle.written_model.specs.declared.report.ReportVerdict.TheVariants as report
use Rattle.written_model.specs.Found.{valued}
use Rattle.written_model.specs.WrittenSteps.{Use, WrittenStep, value_of}
use Rattle.again_laws.specs.Whole.{IsWhole, StandsIn}
use Rattle.again_laws.proofs.LeafLaws.{part_typed, passes}
use Rattle.again_laws.proofs.Lists.{contains_get, contains_mapped, get_map, get_mapped, index_from_get, some_same, zip_right}
use Rattle.again_laws.proofs.Values.{value_at}
use Rattle.answer_laws.proofs.SearchedAlike.{values_are}
use Rattle.fitting_laws.specs.FitsAsWritten.{FitsAsListed, earlier_tree}
use Rattle.fitting_laws.proofs.Expected.{step_of, IsExpected, View}

-- the step of the worksheet, as it is bound
pub record IsBoundAs (s : SheetStep) (b : BoundStep) : Type 0 where
  pub hyp : b.hyp ≡ s.hyp
  pub places : b.places ≡ s.places
  pub reference : b.reference ≡ s.reference

-- each place names one of the first so many steps
abbrev pub AreBelow : ℕ → List Given → Type 0
AreBelow n [] = Unit {0}
AreBelow n (given.Gap ∷ gs) = ⊥
AreBelow n (given.Step k ∷ gs) = (k < n) × AreBelow n gs

pub record Scene (db : Database) (bound : Bound) (pairs : List Pair) (ss : List SheetStep) (ts : List Tree) (es : List WrittenStep) : Type 0 where
  pub view : View db bound.place pairs (λ k. take k ts) ss ts es
  pub bound_at : (k : ℕ) (s : SheetStep) (t : Tree) → slice_get ss k ≡ Some s → slice_get ts k ≡ Some t → (b : BoundStep) × (slice_get bound.steps k ≡ Some b) × IsBoundAs s b
  pub bound_tree : (k : ℕ) (b : BoundStep) → slice_get bound.steps k ≡ Some b → (t : Tree) × (slice_get ts k ≡ Some t) × (b.tree ≡ Some t)
  pub tree_bound : (k : ℕ) (t : Tree) → slice_get ts k ≡ Some t → (b : BoundStep) × (slice_get bound.steps k ≡ Some b)
  pub bound_long : length bound.steps ≡ length es
  pub below : (k : ℕ) (s : SheetStep) → slice_get ss k ≡ Some s → AreBelow k s.places
  pub typed : (k : ℕ) (t : Tree) → slice_get ts k ≡ Some t → IsTyped db.rows bound.place t
  pub closed : (k : ℕ) (t : Tree) → slice_get ts k ≡ Some t → IsClosedTree t
  pub whole : (l : Label) (a : Assertion) → db.usable l ≡ Some a → IsWhole a
  pub facts : IsDatabase db

pub taken : {X : Type 0} (n m : ℕ) (xs : List X) (x : X) → slice_get (take n xs) m ≡ Some x → (slice_get xs m ≡ Some x) × (m < n)
taken zero m xs x e = absurd cc
taken (suc n) m [] x e = absurd cc
taken (suc n) zero (y ∷ xs) x e = (e, omega arith)
taken (suc n) (suc m) (y ∷ xs) x e = let r = taken n m xs x e in let less = r.1 in (r.0, omega (arith, less))

-- a tree without open leaves stays under any valuation
pub closed_stays : (v : Valuation) (t : Tree) → IsClosedTree t → replace (λ s c. Var s c) (open_value v) t ≡ t
closed_stays v t closed = replace-agree (λ s c. Var s c) (λ s c. Var s c) (open_value v) leaf_tree (λ s c. refl) t (λ x o. absurd (closed x o)) ∙ replace-self t

module _ (db : Database) (bound : Bound) (pairs : List Pair) (ss : List SheetStep) (ts : List Tree) (es : List WrittenStep) (S : Scene db bound pairs ss ts es) where
  -- the formula of a step is its tree under any valuation
  pub formula_stays : (v : Valuation) (k : ℕ) (t : Tree) → slice_get ts k ≡ Some t → (b : BoundStep) → slice_get bound.steps k ≡ Some b → formula bound v k ≡ t
  formula_stays v k t at b b_at =
      let own = S.bound_tree k b b_at in
      let same : own.0 ≡ t = some_same own.0 t (sym own.1 ∙ at) in
      let tree : (slice_index_or bound.steps k no_step).tree ≡ Some t = ap (λ (x : BoundStep). x.tree) (index_from_get bound.steps k b no_step b_at) ∙ own.2 ∙ ap (λ x. Some x) same in
      ap (formula_value v k) tree ∙ closed_stays v t (S.closed k t at)

  -- ---- the use of a step

  pub record IsUsed (i : ℕ) (e : WrittenStep) (u : Use) : Type 0 where
    pub source : SheetStep
    pub source_at : slice_get ss i ≡ Some source
    pub tree : Tree
    pub tree_at : slice_get ts i ≡ Some tree
    pub no_hyp : source.hyp ≡ false
    pub listed : FitsAsListed db bound.place pairs (take i ts) source tree
    pub same : listed.by ≡ u
    pub is : e ≡ step_of source tree report.Fits (Some u)

  pub used : (i : ℕ) (e : WrittenStep) (u : Use) → slice_get es i ≡ Some e → e.by ≡ Some u → IsUsed i e u
  used i e u at by = let r = S.view.rows i e at in from r.source r.source_at r.tree r.tree_at e r.is by
    where
      from : (s : SheetStep) → slice_get ss i ≡ Some s → (t : Tree) → slice_get ts i ≡ Some t → (x : WrittenStep) → IsExpected db bound.place pairs (take i ts) s t x → x.by ≡ Some u → IsUsed i x u
      from s s_at t t_at _ (IsExpected.hyp h) o = absurd cc
      from s s_at t t_at _ (IsExpected.fits h f) o =
          let same : f.by ≡ u = some_same f.by u o in
          record { source = s; source_at = s_at; tree = t; tree_at = t_at; no_hyp = h; listed = f; same = same; is = ap (λ x. step_of s t report.Fits (Some x)) same }

  module _ (i : ℕ) (e : WrittenStep) (u : Use) (U : IsUsed i e u) where
    abbrev a : Assertion
    a = u.assertion

    abbrev Holds : Use → Type 0
    Holds w = FitsAsListed db bound.place pairs (take i ts) U.source U.tree

    pub use_whole : IsWhole a
    use_whole = subst (λ (w : Use). IsWhole w.assertion) U.same (S.whole U.listed.label U.listed.by.assertion U.listed.is_usable)

    pub conclusion : valued u a.tree ≡ U.tree
    conclusion = subst (λ (w : Use). valued w w.assertion.tree ≡ U.tree) U.same U.listed.conclusion

    pub hyps : AllZip (λ (h : Tree) (g : Given). earlier_tree (take i ts) g ≡ Some (valued u h)) a.hyps U.source.places
    hyps = subst (λ (w : Use). AllZip (λ (h : Tree) (g : Given). earlier_tree (take i ts) g ≡ Some (valued w h)) w.assertion.hyps U.source.places) U.same U.listed.hyps

    pub codes : map code_of u.values ≡ map (λ (v : TypedVariable). v.code) a.vars
    codes = subst (λ (w : Use). map code_of w.values ≡ map (λ (v : TypedVariable). v.code) w.assertion.vars) U.same U.listed.typecodes

    pub value_code : (v : TypedVariable) → Contains a.vars v → code_of (value_of u v.sym) ≡ v.code
    value_code v m =
        let k = contains_get a.vars v m in
        let t = get_mapped code_of u.values k.0 v.code (ap (λ cs. slice_get cs k.0) codes ∙ get_map (λ (x : TypedVariable). x.code) a.vars k.0 v k.1) in
        ap code_of (value_at u use_whole.differ k.0 v t.0 k.1 t.1) ∙ t.2

    place_typed : (g : Given) (t : Tree) → earlier_tree (take i ts) g ≡ Some t → IsTyped db.rows bound.place t
    place_typed given.Gap t q = absurd cc
    place_typed (given.Step k) t q = S.typed k t (taken i k ts t q).0

    stands_typed : (v : TypedVariable) → StandsIn a v → IsTyped db.rows bound.place (value_of u v.sym)
    stands_typed v (inl o) = part_typed db.rows bound.place (λ s c. value_of u s) leaf_tree v a.tree o (subst (IsTyped db.rows bound.place) (sym conclusion) (S.typed i U.tree U.tree_at))
    stands_typed v (inr o) =
        let r = zip_right _ a.hyps U.source.places hyps o.0 o.1 o.2 in
        part_typed db.rows bound.place (λ s c. value_of u s) leaf_tree v o.1 o.3 (place_typed r.0 (valued u o.1) r.2)

    pub value_typed : (v : TypedVariable) → Contains a.vars v → IsTyped db.rows bound.place (value_of u v.sym)
    value_typed v m = stands_typed v (use_whole.all_stand v m)

    -- the values have no open leaf
    earlier_closed : (g : Given) (t : Tree) → earlier_tree (take i ts) g ≡ Some t → IsClosedTree t
    earlier_closed given.Gap t q = absurd cc
    earlier_closed (given.Step k) t q = S.closed k t (taken i k ts t q).0

    stands_closed : (v : TypedVariable) → StandsIn a v → IsClosedTree (value_of u v.sym)
    stands_closed v (inl o) y m = subst IsClosedTree (sym conclusion) (S.closed i U.tree U.tree_at) y (passes (λ s c. value_of u s) leaf_tree v y a.tree o m)
    stands_closed v (inr o) y m =
        let r = zip_right _ a.hyps U.source.places hyps o.0 o.1 o.2 in
        earlier_closed r.0 (valued u o.1) r.2 y (passes (λ s c. value_of u s) leaf_tree v y o.1 o.3 m)

    values_long : length u.values ≡ length a.vars
    values_long = sym (length-map u.values code_of) ∙ ap length codes ∙ length-map a.vars (λ (v : TypedVariable). v.code)

    pub values_listed : u.values ≡ map (λ (v : TypedVariable). value_of u v.sym) a.vars
    values_listed = values_are a.vars u.values values_long use_whole.differ

    pub values_closed : (t : Tree) → Contains u.values t → IsClosedTree t
    values_closed t m =
        let r = contains_mapped (λ (v : TypedVariable). value_of u v.sym) a.vars t (subst (λ xs. Contains xs t) values_listed m) in
        subst IsClosedTree r.2 (stands_closed r.0 (use_whole.all_stand r.0 r.1))
