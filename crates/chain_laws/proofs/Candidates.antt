-- A candidate fits in an order exactly where the nodes of that order can be joined.
use Rattle.std.specs.Prelude.{◌≡◌, ℕ, ◌<◌, List, [], ◌∷◌, ◌++◌, length, Contains}
use Rattle.std.specs.List.{AllByRecursion, AllZip}
use Rattle.std.proofs.Common.{zero, suc, sym, subst, ◌∙◌, arith, inl, inr}
use Rattle.std.proofs.lemmas.List.Elements.{Contains-append_left, Contains-append_right, Contains-append_cases}
use Rattle.mm_base.specs.declared.tree.Tree.{Tree}
use Rattle.mm_model.specs.Productions.{TypedVariable}
use Rattle.mm_model.specs.Book.{Database, Assertion}
use Rattle.sheet_text.specs.declared.sheet.Given.{Given}
use Rattle.sheet_text.specs.declared.sheet.Given.TheVariants as given
use Rattle.solve_model.specs.declared.bound.Bound.{Bound}
use Rattle.solve_model.specs.Solutions.{Unknown, copy, Valuation, IsValuation, IsUnknown, in_formula, is_blank, in_frame, Asked, Solves, PlacesFit, formula}
use Rattle.solve_model.specs.Verdicts.{asked, FitsIn}
use Rattle.term_model.specs.Terms.{Term}
use Rattle.term_model.specs.Links.{Link}
use Rattle.term_model.specs.Store.{tree_at, Solution, IsStore, IsSolved}
use Rattle.written_model.specs.Existence.{IsPlaceIn}
use Rattle.chain_laws.specs.Layout.{Layout, IsLaidOut, valuation_of, IsSoundAsked, IsChained, Fit, IsInstanceNode, AreFormulaNodes, AreCandidateNodes}
use Rattle.chain_laws.specs.Layout.{place_pairs, candidate_pairs, HasRoom, NodePair, AreJoined, Joins, CannotJoin}
use Rattle.chain_laws.proofs.LeastLeaves.{first}
use Rattle.chain_laws.proofs.Agreement.{solve_same}
use Rattle.chain_laws.proofs.Chained.{solution_of}

pub fit_of : (nodes : List Term) (links : List Link) (trees : List Tree) → Solution nodes links trees → Fit nodes trees
fit_of nodes links trees s i h = s.nodes_fit i h

-- ---- what trees that fit solve

module _ (bound : Bound) (nodes : List Term) (lay : Layout) (formulas : ℕ → ℕ) (are : AreFormulaNodes bound nodes lay formulas) (trees : List Tree) (fit : Fit nodes trees) where
  abbrev v : Valuation
  v = valuation_of lay trees

  formula_is : (k : ℕ) → k < length bound.steps → tree_at trees (formulas k) ≡ formula bound v k
  formula_is k h = (are k h).is_formula trees fit

  module _ (i : ℕ) where
    places_told : (gs : List Given) (es : List Tree) (hs : List ℕ) → AllByRecursion (IsPlaceIn (length bound.steps)) gs
        → AllZip (IsInstanceNode nodes lay i) es hs → PlacesFit bound v i gs es → AreJoined trees (place_pairs formulas gs hs)
    places_told [] es hs h z f = tt
    places_told (g ∷ gs) [] [] h z f = tt
    places_told (g ∷ gs) [] (x ∷ hs) h z f = absurd z
    places_told (g ∷ gs) (e ∷ es) [] h z f = absurd z
    places_told (given.Gap ∷ gs) (e ∷ es) (x ∷ hs) h z f = places_told gs es hs h.1 z.1 f
    places_told (given.Step k ∷ gs) (e ∷ es) (x ∷ hs) h z f = (z.0.is_instance trees fit ∙ f.0 ∙ sym (formula_is k h.0), places_told gs es hs h.1 z.1 f.1)

    places_join : (gs : List Given) (es : List Tree) (hs : List ℕ) → HasRoom gs es → AllByRecursion (IsPlaceIn (length bound.steps)) gs
        → AllZip (IsInstanceNode nodes lay i) es hs → AreJoined trees (place_pairs formulas gs hs) → PlacesFit bound v i gs es
    places_join [] es hs r h z j = tt
    places_join (g ∷ gs) [] hs r h z j = r
    places_join (g ∷ gs) (e ∷ es) [] r h z j = absurd z
    places_join (given.Gap ∷ gs) (e ∷ es) (x ∷ hs) r h z j = places_join gs es hs r h.1 z.1 j
    places_join (given.Step k ∷ gs) (e ∷ es) (x ∷ hs) r h z j = (sym (z.0.is_instance trees fit) ∙ j.0 ∙ formula_is k h.0, places_join gs es hs r h.1 z.1 j.1)

  pub solves_told : (x : Asked) (conclusion : ℕ) (hyps : List ℕ) → IsSoundAsked bound x
      → AreCandidateNodes nodes lay x.step x.assertion conclusion hyps → Solves bound v x
      → AreJoined trees (candidate_pairs formulas x.step x.places conclusion hyps)
  solves_told x conclusion hyps sound are' s =
      (are'.conclusion.is_instance trees fit ∙ s.conclusion ∙ sym (formula_is x.step sound.step), places_told x.step x.places x.assertion.hyps hyps sound.places are'.hyps s.places)

  pub joined_solves : (x : Asked) (conclusion : ℕ) (hyps : List ℕ) → IsSoundAsked bound x → HasRoom x.places x.assertion.hyps
      → AreCandidateNodes nodes lay x.step x.assertion conclusion hyps → AreJoined trees (candidate_pairs formulas x.step x.places conclusion hyps)
      → Solves bound v x
  joined_solves x conclusion hyps sound room are' j = record {
    conclusion = sym (are'.conclusion.is_instance trees fit) ∙ j.0 ∙ formula_is x.step sound.step;
    places = places_join x.step x.places x.assertion.hyps hyps room sound.places are'.hyps j.1;
  }

-- ---- the unknowns of a candidate do not rest on its order

module _ (bound : Bound) (before : List Asked) (i : ℕ) (a : Assertion) where
  pub reordered : (gs hs : List Given) (u : Unknown) → IsUnknown bound (before ++ asked i a gs ∷ []) u → IsUnknown bound (before ++ asked i a hs ∷ []) u
  reordered gs hs u (in_formula k s t at is o) = in_formula k s t at is o
  reordered gs hs u (is_blank s at is) = is_blank s at is
  reordered gs hs u (in_frame x v c h) = elim (Contains-append_cases before (asked i a gs ∷ []) x c) [
    | inl one ↦ in_frame x v (Contains-append_left before (asked i a hs ∷ []) x one) h
    | inr last ↦ moved x v (same x last) h
  ]
    where
      same : (x : Asked) → Contains (asked i a gs ∷ []) x → asked i a gs ≡ x
      same x (zero, l, e) = e
      same x (suc k, l, e) = absurd (omega (arith, l))

      moved : (x : Asked) (v : TypedVariable) → asked i a gs ≡ x → Contains x.assertion.vars v → IsUnknown bound (before ++ asked i a hs ∷ []) (copy x.step v.sym v.code)
      moved x v e h =
          subst (λ (y : Asked). Contains y.assertion.vars v → IsUnknown bound (before ++ asked i a hs ∷ []) (copy y.step v.sym v.code)) e
          (λ g. in_frame (asked i a hs) v (Contains-append_right before (asked i a hs ∷ []) (asked i a hs) (first (asked i a hs) [])) g) h

-- ---- a store for the same unknowns

module _ (db : Database) (bound : Bound) (one other accepted : List Asked) (nodes : List Term) (links : List Link) (lay : Layout)
    (there : (u : Unknown) → IsUnknown bound one u → IsUnknown bound other u) (back : (u : Unknown) → IsUnknown bound other u → IsUnknown bound one u) where
  pub laid_out_same : IsLaidOut db bound.place (IsUnknown bound one) nodes lay → IsLaidOut db bound.place (IsUnknown bound other) nodes lay
  laid_out_same h = record {
    unknowns = λ u on. h.unknowns u (back u on);
    free = λ i c below is. let own = h.free i c below is in record { is_unknown = there _ own.is_unknown; node = own.node };
    typed = h.typed;
    works = λ w is. let own = h.works w is in record { is_unknown = there _ own.is_unknown; node = own.node };
    all_works = λ c n on. h.all_works c n (back _ on);
  }

  pub chained_same : ((x : Asked) → Contains accepted x → Contains other x) → IsChained db bound one accepted nodes links lay → IsChained db bound other accepted nodes links lay
  chained_same among h = record { store = h.store; solved = h.solved; laid_out = laid_out_same h.laid_out; exact = h.exact; among = among; sound = h.sound }

  pub valuation_same : (v : Valuation) → IsValuation db bound.place (IsUnknown bound other) v → IsValuation db bound.place (IsUnknown bound one) v
  valuation_same v h = record { code = λ u on. h.code u (there u on); typed = λ u on. h.typed u (there u on) }

-- ---- pairs that are joined one after the other

all_front : {X : Type 0} (P : X → Type 0) (xs ys : List X) → AllByRecursion P (xs ++ ys) → AllByRecursion P xs
all_front P [] ys h = tt
all_front P (x ∷ xs) ys h = (h.0, all_front P xs ys h.1)

all_back : {X : Type 0} (P : X → Type 0) (xs ys : List X) → AllByRecursion P (xs ++ ys) → AllByRecursion P ys
all_back P [] ys h = h
all_back P (x ∷ xs) ys h = all_back P xs ys h.1

all_both : {X : Type 0} (P : X → Type 0) (xs ys : List X) → AllByRecursion P xs → AllByRecursion P ys → AllByRecursion P (xs ++ ys)
all_both P [] ys h g = g
all_both P (x ∷ xs) ys h g = (h.0, all_both P xs ys h.1 g)

abbrev IsPairJoined : List Tree → NodePair → Type 0
IsPairJoined trees p = tree_at trees p.0 ≡ tree_at trees p.1

pub joins_none : (nodes : List Term) (links : List Link) → Joins nodes links links []
joins_none nodes links = record { there = λ trees s. (s, tt); back = λ trees s j. s }

pub joins_more : (nodes : List Term) (old mid new : List Link) (ps qs : List NodePair) → Joins nodes old mid ps → Joins nodes mid new qs → Joins nodes old new (ps ++ qs)
joins_more nodes old mid new ps qs h g = record {
  there = λ trees s. let later = g.there trees s in let earlier = h.there trees later.0 in (earlier.0, all_both (IsPairJoined trees) ps qs earlier.1 later.1);
  back = λ trees s j. g.back trees (h.back trees s (all_front (IsPairJoined trees) ps qs j)) (all_back (IsPairJoined trees) ps qs j);
}

-- where one pair cannot be joined, the list cannot
pub cannot_more : (nodes : List Term) (old mid : List Link) (ps : List NodePair) (p : NodePair) (rest : List NodePair) → Joins nodes old mid ps
    → CannotJoin nodes mid (p ∷ []) → CannotJoin nodes old (ps ++ p ∷ rest)
cannot_more nodes old mid ps p rest h cannot trees s j =
    let last = all_back (IsPairJoined trees) ps (p ∷ rest) j in
    cannot trees (h.back trees s (all_front (IsPairJoined trees) ps (p ∷ rest) j)) (last.0, tt)

-- ---- a candidate in an order

module _ (db : Database) (bound : Bound) (before : List Asked) (i : ℕ) (a : Assertion) (nodes : List Term) (lay : Layout) (formulas : ℕ → ℕ) (root : ℕ) (roots : List ℕ)
    (formula_nodes : AreFormulaNodes bound nodes lay formulas) (candidate_nodes : AreCandidateNodes nodes lay i a root roots) (old : List Link) (places : List Given) where
  abbrev this : Asked
  this = asked i a places

  abbrev with_it : List Asked
  with_it = before ++ this ∷ []

  module _ (chained : IsChained db bound with_it before nodes old lay) (sound : IsSoundAsked bound this) where
    -- where the pairs are joined, it is accepted
    pub accepts : (new : List Link) → HasRoom places a.hyps → IsStore nodes new → IsSolved nodes new
        → Joins nodes old new (candidate_pairs formulas i places root roots) → IsChained db bound with_it with_it nodes new lay
    accepts new room store solved joins = record {
      store = store;
      solved = solved;
      laid_out = chained.laid_out;
      exact = record {
        solves = λ trees s.
            let parts = joins.there trees s in
            all_both (Solves bound (valuation_of lay trees)) before (this ∷ []) (chained.exact.solves trees parts.0)
            (joined_solves bound nodes lay formulas formula_nodes trees (fit_of nodes new trees s) this root roots sound room candidate_nodes parts.1, tt);
        holds = λ trees s all.
            let last = all_back (Solves bound (valuation_of lay trees)) before (this ∷ []) all in
            joins.back trees (chained.exact.holds trees s (all_front (Solves bound (valuation_of lay trees)) before (this ∷ []) all))
            (solves_told bound nodes lay formulas formula_nodes trees (fit_of nodes [] trees s) this root roots sound candidate_nodes last.0);
      };
      among = λ x h. h;
      sound = all_both (IsSoundAsked bound) before (this ∷ []) chained.sound (sound, tt);
    }

    -- where they cannot be joined, it does not fit
    pub refuses : CannotJoin nodes old (candidate_pairs formulas i places root roots) → FitsIn db bound before i a places → ⊥
    refuses cannot fits =
        let v = fits.value in
        let all = fits.solves in
        let found = solution_of db bound with_it before nodes old lay chained v fits.is_valuation (all_front (Solves bound v) before (this ∷ []) all) in
        let here = all_back (Solves bound v) before (this ∷ []) all in
        let moved = solve_same bound with_it v (valuation_of lay found.0) (λ u on. sym (found.2 u on)) (this ∷ []) is_last (sound, tt) here in
        cannot found.0 found.1 (solves_told bound nodes lay formulas formula_nodes found.0 (fit_of nodes old found.0 found.1) this root roots sound candidate_nodes moved.0)
      where
        is_last : (x : Asked) → Contains (this ∷ []) x → Contains with_it x
        is_last x h = Contains-append_right before (this ∷ []) x h
