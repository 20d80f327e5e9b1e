-- The uses of the written steps.
use Rattle.std.specs.Prelude.{◌≡◌, ◌<◌, ◌≤◌, ◌+◌, ◌&&◌, not, nat_lt, nat_le, is_none, ℕ, zero, suc, Bool, true, false, List, [], ◌∷◌, ◌++◌, length}
use Rattle.std.specs.Prelude.{map, drop, Contains, slice_get, Some, None, refl}
use Rattle.std.specs.List.{AllZip, list_all, range_with_len}
use Rattle.std.proofs.Common.{sym, ap, subst, ◌∙◌, arith, inl, inr}
use Rattle.std.proofs.lemmas.Bool.{and_parts}
use Rattle.std.proofs.lemmas.Bool.Decides.{nat_tests}
use Rattle.std.proofs.lemmas.List.Elements.{Contains-append_left, Contains-append_right, Contains-append_cases}
use Rattle.mm_base.specs.declared.tree.Tree.{Tree}
use Rattle.mm_base.specs.declared.tree.Tree.TheVariants.{Fresh}
use Rattle.mm_base.specs.Trees.{code_of}
use Rattle.mm_model.specs.Names.{label}
use Rattle.mm_model.specs.Productions.{TypedVariable}
use Rattle.mm_model.specs.Typed.{IsTyped}
use Rattle.mm_model.specs.Book.{Database, label_name, position_of}
use Rattle.mm_model.proofs.NameLaws.{label_back}
use Rattle.sheet_text.specs.declared.sheet.Given.{Given}
use Rattle.sheet_text.specs.declared.sheet.Given.TheVariants as given
use Rattle.solve_model.specs.Trees.{leaf_tree}
use Rattle.solve_model.specs.Solutions.{copy, Valuation, Asked, IsUnknown}
use Rattle.solve_laws.proofs.Elements.{nothing, parted}
use Rattle.written_model.specs.declared.options.Options.{Options}
use Rattle.written_model.specs.declared.report.ReportVerdict.TheVariants as report
use Rattle.written_model.specs.WrittenSteps.{Use, WrittenStep, trees, place_tree, value_of}
use Rattle.written_model.specs.Filled.{written_place}
use Rattle.written_model.specs.Named.{Naming}
use Rattle.written_model.specs.Found.{Choice, FitsUse, IsFound, choices, search_orders, valued, is_to_be_searched, is_ground, is_ground_place}
use Rattle.written_model.specs.Written.{Writing, bound_step}
use Rattle.again_laws.specs.Leaves.{typed_leaves}
use Rattle.again_laws.specs.Shown.{shown_leaves, shown_by}
use Rattle.again_laws.specs.Whole.{StandsIn, IsWhole}
use Rattle.again_laws.proofs.LeafLaws.{part_typed}
use Rattle.again_laws.proofs.Lists.{contains_get, contains_mapped, get_map, get_mapped, zip_right, zip_long, some_same}
use Rattle.again_laws.proofs.Orders.{first_stands, from_flat_map}
use Rattle.again_laws.proofs.Candidates.{IsCandidate}
use Rattle.again_laws.proofs.Values.{value_at}
use Rattle.again_laws.proofs.Loose.{IsLoose}
use Rattle.again_laws.proofs.Setting.{Setting}
use Rattle.again_laws.proofs.Accepted.{all_accepted, ns, es, es_typed, trees_searched}

-- each place that names a step names one whose tree is that of its `$e`
abbrev pub PlacesHold : List Tree → Use → List Given → List Tree → Type 0
PlacesHold ts u [] hs = Unit {0}
PlacesHold ts u (g ∷ gs) [] = ⊥
PlacesHold ts u (given.Gap ∷ gs) (h ∷ hs) = PlacesHold ts u gs hs
PlacesHold ts u (given.Step k ∷ gs) (h ∷ hs) = (slice_get ts k ≡ Some (valued u h)) × PlacesHold ts u gs hs

-- ---- places that are all given

abbrev AllGiven : List WrittenStep → Use → List Tree → List Given → Type 0
AllGiven ns u hs gs = AllZip (λ (h : Tree) (g : Given). place_tree ns g ≡ Some (valued u h)) hs gs

given_hold : (ns : List WrittenStep) (ts : List Tree) (u : Use) → ts ≡ trees ns → (hs : List Tree) (gs : List Given) → AllGiven ns u hs gs → PlacesHold ts u gs hs
given_hold ns ts u same [] [] h = tt
given_hold ns ts u same [] (g ∷ gs) h = absurd h
given_hold ns ts u same (t ∷ hs) [] h = absurd h
given_hold ns ts u same (t ∷ hs) (given.Gap ∷ gs) h = absurd (none h.0)
  where
    none : None ≡ Some (valued u t) → ⊥
    none e = cc
given_hold ns ts u same (t ∷ hs) (given.Step k ∷ gs) h = (ap (λ xs. slice_get xs k) same ∙ h.0, given_hold ns ts u same hs gs h.1)

given_shown : (ns : List WrittenStep) (u : Use) (v : TypedVariable) (hs : List Tree) (gs : List Given) → AllGiven ns u hs gs → (j : ℕ) (t : Tree)
    → slice_get hs j ≡ Some t → Contains (typed_leaves t) v → Contains (shown_leaves gs hs) v
given_shown ns u v [] gs h j t e m = absurd (none j e)
  where
    none : (n : ℕ) → slice_get [] n ≡ Some t → ⊥
    none n q = cc
given_shown ns u v (x ∷ hs) [] h j t e m = absurd h
given_shown ns u v (x ∷ hs) (given.Gap ∷ gs) h j t e m = absurd (none h.0)
  where
    none : None ≡ Some (valued u x) → ⊥
    none q = cc
given_shown ns u v (x ∷ hs) (given.Step k ∷ gs) h zero t e m = Contains-append_left (typed_leaves x) (shown_leaves gs hs) v (subst (λ y. Contains (typed_leaves y) v) (sym (some_same x t e)) m)
given_shown ns u v (x ∷ hs) (given.Step k ∷ gs) h (suc j) t e m = Contains-append_right (typed_leaves x) (shown_leaves gs hs) v (given_shown ns u v hs gs h.1 j t e m)

-- ---- places that were listed, and those that were filled

abbrev pub written : List ℕ → List Given → List ℕ → List Given
written front gs more = map (written_place front) gs ++ map (λ k. given.Step k) more

pub shown_more : (front more : List ℕ) (gs : List Given) (hs : List Tree) (v : TypedVariable) → Contains (shown_leaves gs hs) v → Contains (shown_leaves (written front gs more) hs) v
shown_more front more [] hs v m = absurd (nothing v m)
shown_more front more (g ∷ gs) [] v m = absurd (nothing v m)
shown_more front more (given.Gap ∷ gs) (h ∷ hs) v m = shown_more front more gs hs v m
shown_more front more (given.Step k ∷ gs) (h ∷ hs) v m = elim (Contains-append_cases (typed_leaves h) (shown_leaves gs hs) v m) [
  | inl o ↦ Contains-append_left (typed_leaves h) (shown_leaves (written front gs more) hs) v o
  | inr o ↦ Contains-append_right (typed_leaves h) (shown_leaves (written front gs more) hs) v (shown_more front more gs hs v o)
]

pub shown_filled : (front more : List ℕ) (gs : List Given) (hs : List Tree) (f : Tree → Tree) (R : Tree → ℕ → Type 0) → AllZip R (map f (drop (length gs) hs)) more
    → (v : TypedVariable) (t : Tree) → Contains (drop (length gs) hs) t → Contains (typed_leaves t) v → Contains (shown_leaves (written front gs more) hs) v
shown_filled front more [] [] f R z v t m o = absurd (nothing t m)
shown_filled front [] [] (h ∷ hs) f R z v t m o = absurd z
shown_filled front (n ∷ more) [] (h ∷ hs) f R z v t m o = elim (parted t h hs m) [
  | inl e ↦ Contains-append_left (typed_leaves h) (shown_leaves (map (λ k. given.Step k) more) hs) v (subst (λ x. Contains (typed_leaves x) v) (sym e) o)
  | inr k ↦ Contains-append_right (typed_leaves h) (shown_leaves (map (λ k. given.Step k) more) hs) v (shown_filled front more [] hs f R z.1 v t k o)
]
shown_filled front more (g ∷ gs) [] f R z v t m o = absurd (nothing t m)
shown_filled front more (given.Gap ∷ gs) (h ∷ hs) f R z v t m o = shown_filled front more gs hs f R z v t m o
shown_filled front more (given.Step k ∷ gs) (h ∷ hs) f R z v t m o = Contains-append_right (typed_leaves h) (shown_leaves (written front gs more) hs) v (shown_filled front more gs hs f R z v t m o)

range_below : (a n k : ℕ) → Contains (range_with_len a n) k → (a ≤ k) × (k < a + n)
range_below a zero k m = absurd (nothing k m)
range_below a (suc n) k m = elim (parted k a (range_with_len (a + 1) n) m) [
  | inl e ↦ (omega (arith, e), omega (arith, e))
  | inr r ↦ let s = range_below (a + 1) n k r in let low = s.0 in let high = s.1 in (omega (arith, low), omega (arith, high))
]

module _ (db : Database) (options : Options) (w : Writing) (numbers : List ℕ) (ds : List WrittenStep) (S : Setting db options w numbers ds) where
  abbrev g : Valuation
  g = w.value

  abbrev place : ℕ
  place = w.bound.place

  abbrev names : Naming
  names = w.names

  abbrev pub written_steps : List WrittenStep
  written_steps = es db options w numbers ds S

  abbrev pub named_steps : List WrittenStep
  named_steps = ns db options w numbers ds S

  abbrev pub accepted_all : List Asked
  accepted_all = all_accepted db options w numbers ds S

  -- the value of a variable that the written step does not show
  pub record LooseValue (i : ℕ) (u : Use) (v : TypedVariable) : Type 0 where
    pub origin : ℕ
    pub origin_at : slice_get numbers origin ≡ Some i
    pub is : IsLoose w.bound accepted_all g origin v
    pub on : IsUnknown w.bound accepted_all (copy origin v.sym v.code)
    pub value : value_of u v.sym ≡ Fresh v.code is.number

  -- what holds of a written step that fits or is found
  pub record IsUse (i : ℕ) (e : WrittenStep) (u : Use) : Type 0 where
    pub candidate_is : IsCandidate db place (bound_step db options w e) u.assertion
    pub conclusion : valued u u.assertion.tree ≡ e.tree
    pub places : PlacesHold (trees written_steps) u e.places u.assertion.hyps
    pub codes : (v : TypedVariable) → Contains u.assertion.vars v → code_of (value_of u v.sym) ≡ v.code
    pub typed : (v : TypedVariable) → Contains u.assertion.vars v → IsTyped db.rows place (value_of u v.sym)
    pub loose : (v : TypedVariable) → Contains u.assertion.vars v → (Contains (shown_by u.assertion e.places) v → ⊥) → LooseValue i u v

  -- ---- a step that is found

  abbrev Fit : WrittenStep → Choice → Use → Type 0
  Fit n c u = FitsUse db place options.dv w.bound.pairs named_steps n c u

  module _ (i : ℕ) (n : WrittenStep) (c : Choice) (u : Use) (tree_typed : IsTyped db.rows place n.tree) (to_search : is_to_be_searched named_steps n ≡ true)
      (found : IsFound db place options.dv w.bound.pairs named_steps n (Some c)) (fit : Fit n c u) where
    abbrev step_found : WrittenStep
    step_found = record n { reference = Some (label_name db c.label); places = c.places; verdict = report.Found; by = Some u }

    found_whole : IsWhole u.assertion
    found_whole = S.whole c.label u.assertion fit.is_usable

    not_hyp : n.hyp ≡ false
    not_hyp =
        let one = and_parts (not n.hyp && is_none n.reference && is_ground n.tree) (list_all (is_ground_place named_steps) n.places) to_search in
        let two = and_parts (not n.hyp && is_none n.reference) (is_ground n.tree) one.0 in
        let three = and_parts (not n.hyp) (is_none n.reference) two.0 in
        flip n.hyp three.0
      where
        flip : (b : Bool) → not b ≡ true → b ≡ false
        flip true e = absurd cc
        flip false e = refl

    label_within : c.label.0 < length db.labels
    label_within =
        let m = first_stands _ (choices db n) c found in
        let r = from_flat_map (λ k. map (λ places. let z : Choice = record { label = label k; places = places } in z) (search_orders n)) (range_with_len 0 (length db.labels)) c m.0 in
        let q = contains_mapped (λ places. let z : Choice = record { label = label r.0; places = places } in z) (search_orders n) c r.2 in
        let less = (range_below 0 (length db.labels) r.0 r.1).1 in
        let same : r.0 ≡ c.label.0 = ap (λ (z : Choice). z.label.0) q.2 in
        omega (arith, less, same)

    found_candidate : IsCandidate db place (bound_step db options w step_found) u.assertion
    found_candidate =
        let is = S.facts.usable c.label u.assertion fit.is_usable in
        let less = fit.earlier in
        let count = zip_long _ u.assertion.hyps c.places fit.hyps in
        record {
          no_hyp = not_hyp;
          name = label_name db c.label;
          reference = refl;
          label = c.label;
          label_is = label_back db.labels S.facts.labels c.label.0 label_within;
          frame = u.assertion.frame;
          frame_is = is.frame;
          earlier = (let r : nat_lt (position_of db c.label) place ≡ true = grind (arith, nat_tests, less) in r);
          usable = fit.is_usable;
          has_places =
              (let le : length c.places ≤ length u.assertion.hyps = omega (arith, count) in
              let r : nat_le (length c.places) (length u.assertion.hyps) ≡ true = grind (arith, nat_tests, le) in r);
        }

    found_codes : (v : TypedVariable) → Contains u.assertion.vars v → code_of (value_of u v.sym) ≡ v.code
    found_codes v m =
        let k = contains_get u.assertion.vars v m in
        let t = get_mapped code_of u.values k.0 v.code (ap (λ cs. slice_get cs k.0) fit.codes ∙ get_map (λ (x : TypedVariable). x.code) u.assertion.vars k.0 v k.1) in
        ap code_of (value_at u found_whole.differ k.0 v t.0 k.1 t.1) ∙ t.2

    given_typed : (x : Given) (t : Tree) → place_tree named_steps x ≡ Some t → IsTyped db.rows place t
    given_typed given.Gap t e = absurd cc
    given_typed (given.Step k) t e = es_typed db options w numbers ds S k t (ap (λ ts. slice_get ts k) (trees_searched db options w numbers ds S) ∙ e)

    found_typed : (v : TypedVariable) → StandsIn u.assertion v → IsTyped db.rows place (value_of u v.sym)
    found_typed v (inl o) = part_typed db.rows place (λ s c. value_of u s) leaf_tree v u.assertion.tree o (subst (IsTyped db.rows place) (sym fit.conclusion) tree_typed)
    found_typed v (inr o) =
        let r = zip_right _ u.assertion.hyps c.places fit.hyps o.0 o.1 o.2 in
        part_typed db.rows place (λ s c. value_of u s) leaf_tree v o.1 o.3 (given_typed r.0 (valued u o.1) r.2)

    found_shown : (v : TypedVariable) → StandsIn u.assertion v → Contains (shown_by u.assertion c.places) v
    found_shown v (inl o) = Contains-append_left (typed_leaves u.assertion.tree) (shown_leaves c.places u.assertion.hyps) v o
    found_shown v (inr o) =
        Contains-append_right (typed_leaves u.assertion.tree) (shown_leaves c.places u.assertion.hyps) v
        (given_shown named_steps u v u.assertion.hyps c.places fit.hyps o.0 o.1 o.2 o.3)

    pub found_use : IsUse i step_found u
    found_use = record {
      candidate_is = found_candidate;
      conclusion = fit.conclusion;
      places = given_hold named_steps (trees written_steps) u (trees_searched db options w numbers ds S) u.assertion.hyps c.places fit.hyps;
      codes = found_codes;
      typed = λ v m. found_typed v (found_whole.all_stand v m);
      loose = λ v m hidden. absurd (hidden (found_shown v (found_whole.all_stand v m)));
    }
