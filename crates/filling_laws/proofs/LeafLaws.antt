-- The fresh leaves of what a chain's worksheet is filled to.
use Rattle.std.specs.Prelude.{◌≡◌, ℕ, ◌<◌, ◌≤◌, ◌+◌, ◌^◌, List, [], ◌∷◌, length, map, drop, filter_map, slice_get, slice_index_or, is_some, IsTrue, true, false, Option, Some, None, refl}
use Rattle.std.specs.List.{AllByRecursion}
use Rattle.std.proofs.Common.{zero, suc, get_or, sym, ap, subst, ◌∙◌, arith, inl, inr}
use Rattle.std.proofs.lemmas.Bool.{cases_lt}
use Rattle.std.proofs.lemmas.Option.{slice_get-get_or, slice_get_within}
use Rattle.mm_base.specs.declared.kinds.Kinds.{Kinds}
use Rattle.mm_base.specs.declared.tree.Tree.{Tree}
use Rattle.mm_model.specs.Names.{Name}
use Rattle.mm_model.specs.Book.{Database, Assertion, logic_code}
use Rattle.mm_database.specs.Books.{database_of}
use Rattle.mm_database.specs.Opened.{Opened, IsOpened}
use Rattle.sheet_text.specs.declared.sheet.Sheet.{Sheet}
use Rattle.sheet_text.specs.declared.sheet.SheetItem.{SheetItem}
use Rattle.sheet_text.specs.Layout.{step_of_item}
use Rattle.solve_model.specs.declared.bound.Bound.{Bound}
use Rattle.solve_model.specs.declared.bound.BoundStep.{BoundStep}
use Rattle.solve_model.specs.declared.verdict.Verdict.TheVariants as verdict
use Rattle.solve_model.specs.Bound.{Binds}
use Rattle.solve_model.specs.Solutions.{blank, Asked, no_step, formula, formula_value, instance}
use Rattle.solve_model.specs.Verdicts.{Judgement, accepted, stands}
use Rattle.written_model.specs.WrittenSteps.{steps_in, trees}
use Rattle.written_model.specs.Filled.{wanted_by, filled_items}
use Rattle.term_model.specs.declared.shape.Id.{Id}
use Rattle.chain_laws.specs.Reading.{value_at}
use Rattle.step_chain.specs.declared.judged.Accepted.{Accepted}
use Rattle.step_chain.specs.declared.judged.Judged.{Judged}
use Rattle.step_chain.specs.declared.judged.Judged.TheVariants.{Stands, Fits}
use Rattle.step_chain.specs.declared.judged.Pushed.{Pushed}
use Rattle.step_chain.specs.Standings.{usable_in}
use Rattle.step_chain.specs.Ordered.{formula_at}
use Rattle.step_chain.specs.Steps.{asked_by, accepted_by, judgement_of, judgements_from}
use Rattle.step_chain.specs.Levels.{IsLevel}
use Rattle.step_chain.specs.Held.{Held, judgements_of, IsHeld}
use Rattle.step_chain.specs.Values.{accepted_at, value_of}
use Rattle.step_chain.specs.Answers.{IsAcceptedAs}
use Rattle.step_chain.proofs.Lists.{all_has, all_each}
use Rattle.step_chain.proofs.ChainLaws.{sound_of}
use Rattle.step_chain.proofs.ValueLaws.{formula_is}
use Rattle.step_chain.proofs.AnswerLaws.{accepted_true, hyp_value, own_count, hyp_inside}
use Rattle.step_naming.specs.Named.{AreSmallLeaves}
use Rattle.filling_laws.specs.Leaves.{LeavesAreSmall}
use Rattle.filling_laws.proofs.Counts.{all_mapped, good_front}
use Rattle.filling_laws.proofs.LeafReading.{IsLow, low_value, low_first}

-- ---- lists

past_end : {X : Type 0} (xs : List X) (i : ℕ) (d : X) → length xs ≤ i → slice_index_or xs i d ≡ d
past_end [] i d h = refl
past_end (x ∷ xs) zero d h = absurd (omega (arith, h))
past_end (x ∷ xs) (suc i) d h = past_end xs i d (omega (arith, h))

some_of : {X : Type 0} (o : Option X) → IsTrue (is_some o) → (x : X) × (o ≡ Some x)
some_of None h = let impossible : false ≡ true = h in absurd (cc)
some_of (Some x) h = (x, refl)

abbrev no_id : Id
no_id = record { 0 = 0 }

-- ---- the number of an accepted step

module _ (d : Opened) (bound : Bound) (y : Asked) where
  number_by : (j : ℕ) (q : Judged) → judgement_of d bound j q ≡ accepted y → y.step ≡ j
  number_by j (Stands v) e = absurd (cc)
  number_by j (Fits x) e = by (usable_in d x.label) e
    where
      by : (o : Option Assertion) → accepted_by bound j x o ≡ accepted y → y.step ≡ j
      by None f = absurd (cc)
      by (Some a) f = let same : asked_by bound j x a ≡ y = cc in ap (λ (z : Asked). z.step) (sym same)

  number_of : (j : ℕ) (ps : List Pushed) (i : ℕ) → slice_get (judgements_from d bound j ps) i ≡ Some (accepted y) → y.step ≡ j + i
  number_of j [] i e = let impossible : ◌≡◌ {A = Option Judgement} None (Some (accepted y)) = e in absurd (cc)
  number_of j (p ∷ ps) zero e =
      let same : judgement_of d bound j p.judged ≡ accepted y = cc in
      let here = number_by j p.judged same in
      omega (arith, here)
  number_of j (p ∷ ps) (suc i) e = let rest = number_of (suc j) ps i e in omega (arith, rest)

-- ---- a chain

module _ (h : Held) (held : IsHeld h) (few : length h.nodes ≤ 2 ^ 24) where
  abbrev IsSmall : Tree → Type 0
  IsSmall t = IsLow (2 ^ 31) t

  small_node : (i : ℕ) → i < length h.nodes → IsSmall (value_at h.nodes h.links h.works i)
  small_node i below c n o = let less = low_value h.nodes h.links h.works (sound_of h held).store i below c n o in omega (arith, less, few)

  small_first : IsSmall (value_at h.nodes h.links h.works 0)
  small_first = low_first h.nodes h.links h.works (sound_of h held).store (2 ^ 31) (omega (arith, few))

  module _ (kinds : Kinds) (text : List ℕ) (sheet : Sheet) (opened : IsOpened kinds text h.book) (binds : Binds (database_of kinds text h.book.rows h.book.parsed) sheet h.bound)
      (code : logic_code (database_of kinds text h.book.rows h.book.parsed) ≡ h.logic) where
    abbrev db : Database
    db = database_of kinds text h.book.rows h.book.parsed

    level : IsLevel db h.book h.bound h.works h.formulas h.steps h.nodes h.links
    level = (sound_of h held).level kinds text sheet opened binds code

    -- a formula is the tree of its node; past the last step it is that of the first node
    small_formula : (i : ℕ) → IsSmall (formula h.bound (value_of h) i)
    small_formula i = elim (cases_lt i (length h.bound.steps)) [
      | inl below ↦ subst IsSmall (formula_is h db level i below) (small_node (formula_at h.formulas i).0 (level.formula_nodes i below).within)
      | inr past ↦
          let count = held.count in
          let first : formula_at h.formulas i ≡ no_id = past_end h.formulas i no_id (omega (arith, past, count)) in
          let last : formula h.bound (value_of h) i ≡ value_of h (blank i) = ap (λ (s : BoundStep). formula_value (value_of h) i s.tree) (past_end h.bound.steps i no_step past) in
          let node : value_of h (blank i) ≡ value_at h.nodes h.links h.works 0 = ap (λ (id : Id). value_at h.nodes h.links h.works id.0) first in
          subst IsSmall (sym (last ∙ node)) small_first
    ]

    -- a `$e` of an accepted step is the tree of its node
    module _ (i : ℕ) (y : Asked) (is : IsAcceptedAs h i y) where
      kept : (x : Accepted) × (accepted_at h i ≡ Some x)
      kept = some_of (accepted_at h i) (accepted_true h h refl held (is_some (accepted_at h i)) i refl kinds text sheet opened binds code y is)

      small_hyp : (k : ℕ) (e : Tree) → slice_get y.assertion.hyps k ≡ Some e → IsSmall (instance (value_of h) i e)
      small_hyp k e at =
          let x = kept.0 in
          let id : Id = get_or x.hyps k no_id in
          let count = own_count h db level i y is x kept.1 in
          let within = slice_get_within y.assertion.hyps k e at in
          let below : k < length x.hyps = omega (arith, within, count) in
          let inside : id.0 < length h.nodes =
          hyp_inside h h refl (record { nodes = h.nodes; links = h.links; works = h.works })
          (record { held = held; trees = refl }) i x kept.1 x.hyps k no_id refl below in
          subst IsSmall (hyp_value h db level i y is x kept.1 k e id at (slice_get-get_or x.hyps k no_id below)) (small_node id.0 inside)

      small_asked : AllByRecursion IsSmall (wanted_by (value_of h) (accepted y))
      small_asked =
          let number : y.step ≡ 0 + i = number_of h.book h.bound y 0 h.steps i is in
          let own : i ≡ y.step = omega (arith, number) in
          subst (λ (j : ℕ). AllByRecursion IsSmall (map (instance (value_of h) j) (drop (length y.places) y.assertion.hyps))) own
          (all_mapped IsSmall (instance (value_of h) i) (length y.places) y.assertion.hyps (all_each (λ (e : Tree). IsSmall (instance (value_of h) i e)) y.assertion.hyps small_hyp))

    small_wanted : (i : ℕ) → AllByRecursion IsSmall (wanted_by (value_of h) (slice_index_or (judgements_of h) i (stands verdict.NoRef)))
    small_wanted i = by (slice_index_or (judgements_of h) i (stands verdict.NoRef)) refl
      where
        by : (o : Judgement) → slice_index_or (judgements_of h) i (stands verdict.NoRef) ≡ o → AllByRecursion IsSmall (wanted_by (value_of h) o)
        by (stands v) e = tt
        by (accepted y) e = elim (cases_lt i (length (judgements_of h))) [
          | inl below ↦ small_asked i y (slice_get-get_or (judgements_of h) i (stands verdict.NoRef) below ∙ ap (λ (o : Judgement). Some o) e)
          | inr past ↦ let impossible : stands verdict.NoRef ≡ accepted y = sym (past_end (judgements_of h) i (stands verdict.NoRef) past) ∙ e in absurd (cc)
        ]

    small_filled : (names : List Name) (items : List SheetItem) → AreSmallLeaves (trees (steps_in (filled_items names h.bound (value_of h) (judgements_of h) items)))
    small_filled names items c n leaf =
        let n_steps = length (filter_map step_of_item items) in
        let whole : n_steps ≤ n_steps = omega arith in
        all_has IsSmall (trees (steps_in (filled_items names h.bound (value_of h) (judgements_of h) items))) leaf.0
        (good_front IsSmall names h.bound (value_of h) (judgements_of h) n_steps (λ k below. small_formula k) small_wanted items whole).all leaf.1 c n leaf.2

pub leaves_small : LeavesAreSmall
leaves_small h held kinds text sheet opened binds code judged few names items = small_filled h held few kinds text sheet opened binds code names items
