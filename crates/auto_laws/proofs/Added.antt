-- Ground steps that get a reference: their uses.
use Rattle.std.specs.Prelude.{◌≡◌, ◌<◌, ◌≤◌, ℕ, zero, suc, true, false, List, [], ◌∷◌, length, nat_le, nat_lt, Contains, slice_get, Some, None, refl}
use Rattle.std.specs.List.{AllZip}
use Rattle.std.proofs.Common.{sym, ap, subst, ◌∙◌, arith, inl, inr}
use Rattle.std.proofs.lemmas.Bool.Decides.{nat_tests}
use Rattle.mm_base.specs.declared.symbols.Pair.{Pair}
use Rattle.mm_base.specs.declared.tree.Tree.{Tree}
use Rattle.mm_base.specs.Trees.{code_of}
use Rattle.mm_model.specs.Productions.{TypedVariable}
use Rattle.mm_model.specs.Typed.{IsTyped}
use Rattle.mm_model.specs.BookFacts.{IsDatabase}
use Rattle.mm_model.specs.Book.{Database, Assertion, label_name, label_of, position_of}
use Rattle.sheet_text.specs.declared.sheet.Given.{Given}
use Rattle.sheet_text.specs.declared.sheet.Given.TheVariants as given
use Rattle.solve_model.specs.Bound.{standing, candidate}
use Rattle.solve_model.specs.Trees.{leaf_tree}
use Rattle.solve_laws.specs.Instances.{IsClosedTree}
use Rattle.written_model.specs.declared.options.DvMode.{DvMode}
use Rattle.written_model.specs.declared.options.Options.{Options}
use Rattle.written_model.specs.declared.report.ReportVerdict.TheVariants as report
use Rattle.written_model.specs.WrittenSteps.{Use, WrittenStep, trees, place_tree, value_of}
use Rattle.written_model.specs.Found.{Choice, FitsUse, valued}
use Rattle.written_model.specs.Written.{Writing, bound_step}
use Rattle.again_laws.specs.Whole.{IsWhole, StandsIn}
use Rattle.again_laws.proofs.Candidates.{candidate_standing}
use Rattle.again_laws.proofs.LeafLaws.{part_typed, passes}
use Rattle.again_laws.proofs.Lists.{contains_get, get_map, get_mapped, zip_right, zip_long}
use Rattle.again_laws.proofs.Values.{value_at}

module _ (db : Database) (place : ℕ) (mode : DvMode) (allowed : List Pair) (es : List WrittenStep) where
  -- each place names one of the first so many steps, whose tree has no open leaf
  abbrev pub AreGroundBefore : ℕ → List Given → Type 0
  AreGroundBefore n [] = Unit {0}
  AreGroundBefore n (given.Gap ∷ gs) = ⊥
  AreGroundBefore n (given.Step k ∷ gs) = (k < n) × ((t : Tree) → slice_get (trees es) k ≡ Some t → IsClosedTree t) × AreGroundBefore n gs

  -- the choice serves the step of a number, which has no reference and no open leaf
  pub record IsAddedUse (n : ℕ) (e : WrittenStep) (c : Choice) (u : Use) : Type 0 where
    pub not_hyp : e.hyp ≡ false
    pub no_reference : e.reference ≡ None
    pub not_used : e.by ≡ None
    pub closed : IsClosedTree e.tree
    pub before : AreGroundBefore n c.places
    pub fits : FitsUse db place mode allowed es e c u
    pub label_within : c.label.0 < length db.labels
    pub label_is : label_of db (label_name db c.label) ≡ Some c.label

  -- the step with its use
  abbrev pub with_use : WrittenStep → Choice → Use → WrittenStep
  with_use e c u = record e { reference = Some (label_name db c.label); places = c.places; verdict = report.Found; by = Some u }

  pub data IsAdded (n : ℕ) (e : WrittenStep) : WrittenStep → Type 0 where
    stays : IsAdded n e e
    added : (c : Choice) (u : Use) → IsAddedUse n e c u → IsAdded n e (with_use e c u)

  pub record AreAdded (fs : List WrittenStep) : Type 0 where
    pub same : trees es ≡ trees fs
    pub there : (k : ℕ) (e : WrittenStep) → slice_get es k ≡ Some e → (f : WrittenStep) × (slice_get fs k ≡ Some f) × IsAdded k e f
    pub back : (k : ℕ) (f : WrittenStep) → slice_get fs k ≡ Some f → (e : WrittenStep) × (slice_get es k ≡ Some e) × IsAdded k e f

  -- ---- one use

  module _ (n : ℕ) (e : WrittenStep) (c : Choice) (u : Use) (h : IsAddedUse n e c u) (whole : IsWhole u.assertion) where
    abbrev a : Assertion
    a = u.assertion

    -- it stands as a candidate
    pub use_stands : (options : Options) (w : Writing) → IsDatabase db → standing db place (bound_step db options w (with_use e c u)) ≡ candidate a
    use_stands options w facts =
        let count = zip_long _ a.hyps c.places h.fits.hyps in
        let less = h.fits.earlier in
        candidate_standing db place (bound_step db options w (with_use e c u)) a
        (record {
          no_hyp = h.not_hyp;
          name = label_name db c.label;
          reference = refl;
          label = c.label;
          label_is = h.label_is;
          frame = a.frame;
          frame_is = (facts.usable c.label a h.fits.is_usable).frame;
          earlier = (let r : nat_lt (position_of db c.label) place ≡ true = grind (arith, nat_tests, less) in r);
          usable = h.fits.is_usable;
          has_places =
              (let le : length c.places ≤ length a.hyps = omega (arith, count) in
              let r : nat_le (length c.places) (length a.hyps) ≡ true = grind (arith, nat_tests, le) in r);
        })

    closed_place : (gs : List Given) (hs : List Tree) → AreGroundBefore n gs → AllZip (λ (h : Tree) (g : Given). place_tree es g ≡ Some (valued u h)) hs gs
        → (j : ℕ) (t : Tree) → slice_get hs j ≡ Some t → IsClosedTree (valued u t)
    closed_place [] [] b z j t e = absurd cc
    closed_place [] (x ∷ hs) b z j t e = absurd z
    closed_place (g ∷ gs) [] b z j t e = absurd z
    closed_place (given.Gap ∷ gs) (x ∷ hs) b z j t e = absurd b
    closed_place (given.Step k ∷ gs) (x ∷ hs) b z zero t e = let same : x ≡ t = cc in subst (λ y. IsClosedTree (valued u y)) same (b.1 (valued u x) z.0)
    closed_place (given.Step k ∷ gs) (x ∷ hs) b z (suc j) t e = closed_place gs hs b.2 z.1 j t e

    stands_closed : (v : TypedVariable) → StandsIn a v → IsClosedTree (value_of u v.sym)
    stands_closed v (inl o) y m = subst IsClosedTree (sym h.fits.conclusion) h.closed y (passes (λ s d. value_of u s) leaf_tree v y a.tree o m)
    stands_closed v (inr o) y m = closed_place c.places a.hyps h.before h.fits.hyps o.0 o.1 o.2 y (passes (λ s d. value_of u s) leaf_tree v y o.1 o.3 m)

    -- the values have no open leaf
    pub value_closed : (v : TypedVariable) → Contains a.vars v → IsClosedTree (value_of u v.sym)
    value_closed v m = stands_closed v (whole.all_stand v m)

    pub value_code : (v : TypedVariable) → Contains a.vars v → code_of (value_of u v.sym) ≡ v.code
    value_code v m =
        let k = contains_get a.vars v m in
        let t = get_mapped code_of u.values k.0 v.code (ap (λ cs. slice_get cs k.0) h.fits.codes ∙ get_map (λ (x : TypedVariable). x.code) a.vars k.0 v k.1) in
        ap code_of (value_at u whole.differ k.0 v t.0 k.1 t.1) ∙ t.2

    module _ (at : slice_get es n ≡ Some e) (typed : (k : ℕ) (t : Tree) → slice_get (trees es) k ≡ Some t → IsTyped db.rows place t) where
      given_typed : (g : Given) (t : Tree) → place_tree es g ≡ Some t → IsTyped db.rows place t
      given_typed given.Gap t q = absurd cc
      given_typed (given.Step k) t q = typed k t q

      stands_typed : (v : TypedVariable) → StandsIn a v → IsTyped db.rows place (value_of u v.sym)
      stands_typed v (inl o) =
          part_typed db.rows place (λ s d. value_of u s) leaf_tree v a.tree o
          (subst (IsTyped db.rows place) (sym h.fits.conclusion) (typed n e.tree (get_map (λ (x : WrittenStep). x.tree) es n e at)))
      stands_typed v (inr o) =
          let r = zip_right _ a.hyps c.places h.fits.hyps o.0 o.1 o.2 in
          part_typed db.rows place (λ s d. value_of u s) leaf_tree v o.1 o.3 (given_typed r.0 (valued u o.1) r.2)

      pub value_typed : (v : TypedVariable) → Contains a.vars v → IsTyped db.rows place (value_of u v.sym)
      value_typed v m = stands_typed v (whole.all_stand v m)
