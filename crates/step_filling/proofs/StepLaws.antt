-- A step of the worksheet, put in as the definitions have it.
use Rattle.std.specs.Prelude.{◌≡◌, ℕ, ◌+◌, List, [], ◌∷◌, ◌++◌, length, map, drop, zip, slice_get, slice_index_or, option_map, option_and_then}
use Rattle.std.specs.Prelude.{Option, Some, None, Result, Ok, Err, OnOk, IfErr, refl}
use Rattle.std.specs.List.{list_any}
use Rattle.std.proofs.Common.{suc, sym, ap, subst, ◌∙◌, arith, inl, inr}
use Rattle.std.proofs.lemmas.List.{append-nil, length-append, length-map, length_push}
use Rattle.std.proofs.lemmas.Bool.{cases_Bool}
use Rattle.std.proofs.lemmas.Option.{get_or_from_slice_get}
use Rattle.mm_base.specs.declared.symbols.Label.{Label}
use Rattle.mm_base.specs.declared.tree.Tree.{Tree}
use Rattle.mm_model.specs.Names.{Name}
use Rattle.mm_model.specs.Book.{Assertion}
use Rattle.mm_database.specs.Opened.{Opened}
use Rattle.sheet_text.specs.declared.sheet.Given.{Given}
use Rattle.sheet_text.specs.declared.sheet.SheetItem.TheVariants as item
use Rattle.sheet_text.specs.declared.sheet.SheetStep.{SheetStep}
use Rattle.solve_model.specs.declared.verdict.Verdict.{Verdict}
use Rattle.solve_model.specs.declared.verdict.Verdict.TheVariants as verdict
use Rattle.solve_model.specs.Trees.{same_tree}
use Rattle.solve_model.specs.Solutions.{Valuation, Asked, formula, instance}
use Rattle.solve_model.specs.Verdicts.{Judgement, accepted, stands}
use Rattle.written_model.specs.declared.filled.Filled.{Filled}
use Rattle.written_model.specs.declared.report.ReportVerdict.TheVariants as report
use Rattle.written_model.specs.WrittenSteps.{Use, WrittenStep, WrittenItem, step, steps_in, trees}
use Rattle.written_model.specs.Filled.{Filling, new_trees, fill, made_step, derived_names, filled_step, written_place, reported, wanted_by, use_of, with_step}
use Rattle.hyp_derive.specs.Naming.{HaveSameNames}
use Rattle.written_steps.specs.declared.draft.DraftStep.{DraftStep}
use Rattle.written_steps.specs.declared.draft.StepUse.{StepUse}
use Rattle.written_steps.specs.Drafts.{step_in, items_in, use_in, usable_in, IsSoundStep, IsSoundUse}
use Rattle.step_chain.specs.declared.judged.Accepted.{Accepted}
use Rattle.step_chain.specs.declared.judged.Judged.{Judged}
use Rattle.step_chain.specs.declared.judged.Judged.TheVariants.{Stands, Fits}
use Rattle.step_chain.specs.declared.judged.Pushed.{Pushed}
use Rattle.step_chain.specs.Held.{Held, judgements_of, OfEachBook}
use Rattle.step_chain.specs.Levels.{IsUsed}
use Rattle.step_chain.specs.Ordered.{place_at}
use Rattle.step_chain.specs.Steps.{step_at, asked_by, judgement_of}
use Rattle.step_chain.specs.Values.{value_of, judged_at, accepted_at}
use Rattle.step_chain.specs.Values as values
use Rattle.step_chain.specs.Answers.{IsShort, OfAccepted, IsAcceptedAs, values_of, constants_of}
use Rattle.step_chain.proofs.LevelLaws.{judgement_at, judgement_fits}
use Rattle.step_filling.specs.declared.fault.FillFault.{FillFault}
use Rattle.step_filling.specs.declared.fault.FillFault.TheVariants as fault
use Rattle.step_filling.specs.Kept.{Kept, draft_of, filling_in, names_in, IsInStep, AreMade, IsOwnPut}
use Rattle.step_filling.specs.Wanted.{wanted_from, AreShort, IsTooLong, AreWanted}
use Rattle.step_filling.specs.Filled.{formula_of, accepted_places, IsOwnRead, AreValuesRead, IsValueFault, IsUsedStep, IsOwnAccepted, IsUseFault}
use Rattle.step_filling.specs.Filled.{IsOwnFault, IsLongNamed, IsLongNext, IsFilledPut, IsWantedPut, IsStandingPut, IsPut, IsNextFault}
use Rattle.step_filling.proofs.WantedLaws.{short_join}
use Rattle.step_filling.proofs.DraftLaws.{made_in, made_in_step, own_in, own_in_step}

-- ---- what is handed on

pub on_ok : {T E P Q : Type 0} (r : Result T E) → (P → Q) → OnOk r P → OnOk r Q
on_ok (Ok v) f p = f p
on_ok (Err e) f p = tt

pub if_err : {T E : Type 0} (P Q : E → Type 0) (r : Result T E) → ((e : E) → P e → Q e) → IfErr r P → IfErr r Q
if_err P Q (Ok v) f p = tt
if_err P Q (Err e) f p = f e p

-- ---- the faults of an accepted step's own parts

module _ (h : Held) (i : ℕ) (name : Name) where
  pub formula_fault : (m : Name) → m ≡ name → (e : FillFault) → OfEachBook h (λ db. IsOwnRead (constants_of h) m (formula_of h i) (Err e)) → IsOwnFault h i name e
  formula_fault m same (fault.TooLong l n) read = λ kinds text sheet opened binds code. let told = read kinds text sheet opened binds code in (told.0 ∙ same, told.1)
  formula_fault m same fault.LongValue read = λ kinds text sheet opened binds code y a. absurd (read kinds text sheet opened binds code)
  formula_fault m same fault.Memory read = tt

  pub use_fault : OfEachBook h (λ db. IsShort (constants_of h) (formula_of h i)) → (e : FillFault) → IsUseFault h i e → IsOwnFault h i name e
  use_fault short (fault.TooLong l n) f = absurd f
  use_fault short fault.LongValue f = λ kinds text sheet opened binds code y a. (short kinds text sheet opened binds code, f kinds text sheet opened binds code y a)
  use_fault short fault.Memory f = tt

module _ (h : Held) (i : ℕ) where
  pub values_fault : (e : FillFault) → IsValueFault e → OfAccepted h i (λ y. AreValuesRead (constants_of h) (values_of h i y) (Err e)) → IsUseFault h i e
  values_fault (fault.TooLong l n) is read = absurd is
  values_fault fault.LongValue is read = read
  values_fault fault.Memory is read = tt

module _ (h : Held) (i : ℕ) (s : SheetStep) (x : Accepted) where
  pub own_accepted : (numbers more : List ℕ) (places : List Given) (tree : Tree) (own : DraftStep) → accepted_at h i ≡ Some x → places ≡ accepted_places h i numbers x.order more
      → OfEachBook h (λ db. (tree ≡ formula_of h i) × IsShort (constants_of h) (formula_of h i)) → IsUsedStep h i s x.label places tree own → IsOwnAccepted h i numbers s x more own
  own_accepted numbers more places tree o at are read used = record {
    tree = tree;
    values = used.values;
    is = used.is ∙ ap (λ (ps : List Given). draft_of s ps tree report.Fits (Some (record { label = x.label; values = used.values }))) are;
    tree_is = read;
    values_are = used.values_are;
    count = used.count x at;
  }

  pub wanted_put : (wanted : List Tree) (old new : Kept) (filled : Filled) (own : DraftStep) (numbers places : List ℕ) → numbers ≡ old.numbers
      → places ≡ filled.places → filled ≡ fill old.trees wanted
      → IsOwnAccepted h i numbers s x places own → IsFilledPut old new filled.made own → IsWantedPut h i s x wanted old new
  wanted_put wanted old new filled o numbers places e f g acc put = record {
    own = o;
    accepted = subst (λ (ps : List ℕ). IsOwnAccepted h i old.numbers s x ps o) (f ∙ ap (λ (r : Filled). r.places) g) (subst (λ (ns : List ℕ). IsOwnAccepted h i ns s x places o) e acc);
    put = subst (λ (r : Filled). IsFilledPut old new r.made o) g put;
  }

  pub wanted_as : (first : ℕ) (long o : Option ℕ) (found given : List Tree) → first ≡ length x.order → long ≡ o → found ≡ given
      → OfAccepted h i (λ z. AreWanted (constants_of h) (wanted_from (value_of h) i first z.assertion.hyps) found long)
      → OfAccepted h i (λ z. AreWanted (constants_of h) (wanted_from (value_of h) i (length x.order) z.assertion.hyps) given o)
  wanted_as first long o found given e f g read =
      subst (λ (ts : List Tree). OfAccepted h i (λ z. AreWanted (constants_of h) (wanted_from (value_of h) i (length x.order) z.assertion.hyps) ts o)) g
      (subst (λ (l : Option ℕ). OfAccepted h i (λ z. AreWanted (constants_of h) (wanted_from (value_of h) i (length x.order) z.assertion.hyps) found l)) f
      (subst (λ (n : ℕ). OfAccepted h i (λ z. AreWanted (constants_of h) (wanted_from (value_of h) i n z.assertion.hyps) found long)) e read))

-- ---- new steps and the step behind them

abbrev filling : List WrittenItem → List ℕ → Filling
filling is ns = record { items = is; numbers = ns }

pub made_none : (k : Kept) → AreMade k k []
made_none k = record {
  numbers = refl;
  put = record {
    trees_are = sym (append-nil k.trees);
    items_are = λ used have. sym (append-nil k.items);
    names_are = λ used have. subst (HaveSameNames k.names) (sym (append-nil used)) have;
  };
}

module _ (d : Opened) (used : List Name) (old mid new : Kept) (ts : List Tree) (ps : List ℕ) (own : DraftStep) (in_step : IsInStep d used old)
    (are : AreMade old mid ts) (put : IsOwnPut mid new own) (sound : IsSoundStep d own) where
  mid_in_step : IsInStep d used mid
  mid_in_step = made_in_step d used old mid ts in_step are

  pub new_in_step : IsInStep d used new
  new_in_step = own_in_step d used mid new own mid_in_step put sound

  steps_count : length mid.trees ≡ length (steps_in (items_in d old.items)) + length ts
  steps_count =
      let all = ap length are.put.trees_are in
      let long = length-append old.trees ts in
      let first = ap length in_step.trees in
      let same = length-map (steps_in (items_in d old.items)) (λ (e : WrittenStep). e.tree) in
      omega (arith, all, long, first, same)

  pub filled_is : (s : SheetStep) (t : Tree) (g : Valuation) (o : Judgement) → step_in d own ≡ filled_step old.numbers ps s t g o
      → filling_in d new ≡ with_step (used ++ names_in d old) s t g o (filling_in d old) (record { made = ts; places = ps })
  filled_is s t g o is =
      let items : items_in d new.items
      ≡ (items_in d old.items ++ map step (map made_step (zip (derived_names (length ts) (used ++ names_in d old)) ts)))
      ++ step (filled_step old.numbers ps s t g o) ∷ [] =
      own_in d used mid new own mid_in_step put sound ∙ ap (λ (is : List WrittenItem). is ++ step (step_in d own) ∷ []) (made_in d used old mid ts in_step are)
      ∙ ap (λ (e : WrittenStep). (items_in d old.items ++ map step (map made_step (zip (derived_names (length ts) (used ++ names_in d old)) ts))) ++ step e ∷ []) is in
      let numbers : new.numbers ≡ old.numbers ++ (length (steps_in (items_in d old.items)) + length ts) ∷ [] =
      put.numbers ∙ ap (λ (ns : List ℕ). ns ++ length mid.trees ∷ []) are.numbers ∙ ap (λ (n : ℕ). old.numbers ++ n ∷ []) steps_count in
      both items numbers
    where
      both : {is js : List WrittenItem} {ns ms : List ℕ} → is ≡ js → ns ≡ ms → ◌≡◌ {A = Filling} (record { items = is; numbers = ns }) (record { items = js; numbers = ms })
      both {js = js} {ns = ns} e f = ap (λ (xs : List WrittenItem). filling xs ns) e ∙ ap (λ (ms : List ℕ). filling js ms) f

-- ---- trees that are short

module _ (c : Label → ℕ) where
  pub new_short : (ws seen : List Tree) → AreShort c ws → AreShort c (new_trees seen ws)
  new_short [] seen h = tt
  new_short (w ∷ ws) seen h = elim (cases_Bool (list_any (same_tree w) seen)) [
    | inl e ↦ rw e (new_short ws seen h.1)
    | inr e ↦ rw e (h.0, new_short ws (seen ++ w ∷ []) h.1)
  ]

-- ---- what is judged of a step

module _ (h : Held) (i : ℕ) where
  judged_by : (j : Judged) (o : Option Pushed) → slice_get h.steps i ≡ o → option_map (λ (p : Pushed). p.judged) o ≡ Some j → slice_get (judgements_of h) i ≡ Some (judgement_of h.book h.bound i j)
  judged_by j None at e = let impossible : ◌≡◌ {A = Option Judged} None (Some j) = e in absurd (cc)
  judged_by j (Some p) at e =
      let same : p.judged ≡ j = cc in
      let number : 0 + i ≡ i = omega arith in
      judgement_at h.book h.bound 0 h.steps i p at ∙ ap (λ (k : ℕ). Some (judgement_of h.book h.bound k p.judged)) number ∙ ap (λ (q : Judged). Some (judgement_of h.book h.bound i q)) same

  judgement_here : (j : Judged) → judged_at h i ≡ Some j → slice_get (judgements_of h) i ≡ Some (judgement_of h.book h.bound i j)
  judgement_here j e = judged_by j (slice_get h.steps i) refl e

  pub stands_here : (v : Verdict) → judged_at h i ≡ Some (Stands v) → slice_index_or (judgements_of h) i (stands verdict.NoRef) ≡ stands v
  stands_here v e = get_or_from_slice_get (judgements_of h) i (stands v) (stands verdict.NoRef) (judgement_here (Stands v) e)

  kept_by : (x : Accepted) (o : Option Pushed) → option_map (λ (p : Pushed). p.judged) o ≡ Some (Fits x) → option_and_then (λ (p : Pushed). values.accepted_in p.judged) o ≡ Some x
  kept_by x None e = let impossible : ◌≡◌ {A = Option Judged} None (Some (Fits x)) = e in absurd (cc)
  kept_by x (Some p) e = let same : p.judged ≡ Fits x = cc in ap values.accepted_in same

  pub kept_here : (x : Accepted) → judged_at h i ≡ Some (Fits x) → accepted_at h i ≡ Some x
  kept_here x e = kept_by x (slice_get h.steps i) e

  module _ (x : Accepted) (a : Assertion) (e : judged_at h i ≡ Some (Fits x)) (u : usable_in h.book x.label ≡ Some a) where
    pub accepted_as : IsAcceptedAs h i (asked_by h.bound i x a)
    accepted_as = judgement_here (Fits x) e ∙ ap (λ (o : Judgement). Some o) (judgement_fits h.book h.bound i (Fits x) x a refl u)

    pub fits_here : slice_index_or (judgements_of h) i (stands verdict.NoRef) ≡ accepted (asked_by h.bound i x a)
    fits_here = get_or_from_slice_get (judgements_of h) i (accepted (asked_by h.bound i x a)) (stands verdict.NoRef) accepted_as

    pub wanted_here : (g : Valuation) → wanted_by g (accepted (asked_by h.bound i x a)) ≡ wanted_from g i (length x.order) a.hyps
    wanted_here g = ap (λ (n : ℕ). map (instance g i) (drop n a.hyps)) (length-map x.order (place_at (step_at h.bound i).places))

-- ---- a step that is not accepted

no_use : (d : Opened) (own : DraftStep) → own.by ≡ None → IsSoundStep d own
no_use d own none u e = let impossible : ◌≡◌ {A = Option StepUse} None (Some u) = sym none ∙ e in absurd (cc)

module _ (h : Held) (i : ℕ) (s : SheetStep) (v : Verdict) (old : Kept) (next : i ≡ length old.numbers) (judged : judged_at h i ≡ Some (Stands v)) where
  own_judgement : slice_index_or (judgements_of h) (length old.numbers) (stands verdict.NoRef) ≡ stands v
  own_judgement = ap (λ (k : ℕ). slice_index_or (judgements_of h) k (stands verdict.NoRef)) (sym next) ∙ stands_here h i v judged

  module _ (new : Kept) (tree : Tree) (read : OfEachBook h (λ db. (tree ≡ formula_of h i) × IsShort (constants_of h) (formula_of h i))) (put : IsStandingPut s tree v old new) where
    quiet : IsSoundStep h.book put.own
    quiet = no_use h.book put.own (ap (λ (o : DraftStep). o.by) put.is)

    pub standing_put : IsPut h old new (item.Step s)
    standing_put = record {
      count = let e = ap length put.put.numbers in let long = length_push old.numbers (length old.trees) in omega (arith, e, long);
      with_names = λ used in_step. record {
        in_step = new_in_step h.book used old old new [] [] put.own in_step (made_none old) put.put quiet;
        filled = λ kinds text sheet opened binds code.
            let told = read kinds text sheet opened binds code in
            let t : tree ≡ formula h.bound (value_of h) (length old.numbers) = told.0 ∙ ap (formula_of h) next in
            filled_is h.book used old old new [] [] put.own in_step (made_none old) put.put quiet s (formula h.bound (value_of h) (length old.numbers)) (value_of h) (stands v)
            (ap (step_in h.book) (put.is ∙ ap (λ (u : Tree). draft_of s (map (written_place old.numbers) s.places) u (reported v) None) t))
            ∙ ap
            (λ (o : Judgement). with_step (used ++ names_in h.book old) s (formula h.bound (value_of h) (length old.numbers)) (value_of h) o
            (filling_in h.book old) (fill (trees (steps_in (items_in h.book old.items))) (wanted_by (value_of h) o)))
            (sym own_judgement);
      };
      short = λ kinds text sheet opened binds code short.
          let told = read kinds text sheet opened binds code in
          subst (AreShort (constants_of h)) (sym (put.put.trees ∙ ap (λ (o : DraftStep). old.trees ++ o.tree ∷ []) put.is))
          (short_join (constants_of h) old.trees (tree ∷ []) short (subst (IsShort (constants_of h)) (sym told.0) told.1, tt));
    }

  pub standing_fault : (e : FillFault) → OfEachBook h (λ db. IsOwnRead (constants_of h) s.name (formula_of h i) (Err e)) → IsNextFault h old s e
  standing_fault (fault.TooLong m n) read = λ used in_step kinds text sheet opened binds code.
      let told = read kinds text sheet opened binds code in
      subst (λ (x : Name). IsLongNext h (filling_in h.book old) used s x n) (sym told.0)
      (IsLongNext.own n (subst (λ (o : Judgement). AreShort (constants_of h) (wanted_by (value_of h) o)) (sym own_judgement) tt)
      (subst (λ (k : ℕ). IsTooLong (constants_of h) (formula_of h k) n) next told.1))
  standing_fault fault.LongValue read = λ kinds text sheet opened binds code. absurd (read kinds text sheet opened binds code)
  standing_fault fault.Memory read = tt

-- ---- a step that is accepted

abbrev used_with : Assertion → List Tree → Option Use
used_with b us = Some (record { assertion = b; values = us })

abbrev accepted_with : List Given → SheetStep → Tree → Option Use → WrittenStep
accepted_with places s t by = record { hyp = s.hyp; name = s.name; places = places; reference = s.reference; tree = t; verdict = report.Fits; by = by }

module _ (h : Held) (i : ℕ) (s : SheetStep) (x : Accepted) (old : Kept) (next : i ≡ length old.numbers) (judged : judged_at h i ≡ Some (Fits x)) (is_used : IsUsed h.book x) where
  abbrev a : Assertion
  a = is_used.assertion

  abbrev y : Asked
  y = asked_by h.bound i x a

  as_asked : IsAcceptedAs h i y
  as_asked = accepted_as h i x a judged is_used.usable

  fits_next : slice_index_or (judgements_of h) (length old.numbers) (stands verdict.NoRef) ≡ accepted y
  fits_next = ap (λ (k : ℕ). slice_index_or (judgements_of h) k (stands verdict.NoRef)) (sym next) ∙ fits_here h i x a judged is_used.usable

  abbrev all_wanted : List Tree
  all_wanted = wanted_from (value_of h) i (length x.order) a.hyps

  wanted_next : wanted_by (value_of h) (slice_index_or (judgements_of h) (length old.numbers) (stands verdict.NoRef)) ≡ all_wanted
  wanted_next = ap (wanted_by (value_of h)) fits_next ∙ wanted_here h i x a judged is_used.usable (value_of h)

  module _ (new : Kept) (found : List Tree)
      (read : OfAccepted h i (λ z. AreWanted (constants_of h) (wanted_from (value_of h) i (length x.order) z.assertion.hyps) found None))
      (put : IsWantedPut h i s x found old new) where
    abbrev acc : IsOwnAccepted h i old.numbers s x (fill old.trees found).places put.own
    acc = put.accepted

    abbrev way : StepUse
    way = record { label = x.label; values = acc.values }

    own_by : put.own.by ≡ Some way
    own_by = ap (λ (o : DraftStep). o.by) acc.is

    sound_use : IsSoundUse h.book way
    sound_use = record { assertion = a; is_usable = is_used.usable; count = acc.count ∙ is_used.count }

    heard : IsSoundStep h.book put.own
    heard u e = let same : way ≡ u = let both : Some way ≡ Some u = sym own_by ∙ e in cc in subst (IsSoundUse h.book) same sound_use

    pub accepted_put : IsPut h old new (item.Step s)
    accepted_put = record {
      count =
          let e = ap length put.put.own_put.numbers in
          let long = length_push put.put.mid.numbers (length put.put.mid.trees) in
          let same = ap length put.put.are_made.numbers in
          omega (arith, e, long, same);
      with_names = λ used in_step. record {
        in_step = new_in_step h.book used old put.put.mid new (fill old.trees found).made (fill old.trees found).places put.own in_step put.put.are_made put.put.own_put heard;
        filled = λ kinds text sheet opened binds code.
            let g = value_of h in
            let told = acc.tree_is kinds text sheet opened binds code in
            let want = read kinds text sheet opened binds code y as_asked in
            let values = acc.values_are kinds text sheet opened binds code y as_asked in
            let t : acc.tree ≡ formula h.bound g (length old.numbers) = told.0 ∙ ap (formula_of h) next in
            let by : use_in h.book way ≡ Some (use_of g y) =
            ap (option_map (λ (b : Assertion). record { assertion = b; values = acc.values })) is_used.usable ∙ ap (λ (us : List Tree). used_with a us) values in
            let f : fill old.trees found ≡ fill (trees (steps_in (items_in h.book old.items))) (wanted_by g (slice_index_or (judgements_of h) (length old.numbers) (stands verdict.NoRef))) =
            ap (λ (ts : List Tree). fill ts found) in_step.trees ∙ ap (fill (trees (steps_in (items_in h.book old.items)))) (want.0 ∙ sym wanted_next) in
            filled_is h.book used old put.put.mid new (fill old.trees found).made
            (fill old.trees found).places put.own in_step put.put.are_made put.put.own_put heard s (formula h.bound g (length old.numbers)) g
            (accepted y)
            (ap (step_in h.book) acc.is ∙ ap (λ (u : Tree). accepted_with (accepted_places h i old.numbers x.order (fill old.trees found).places) s u (use_in h.book way)) t
            ∙ ap (λ (o : Option Use). accepted_with (accepted_places h i old.numbers x.order (fill old.trees found).places) s (formula h.bound g (length old.numbers)) o) by)
            ∙ ap (λ (o : Judgement). with_step (used ++ names_in h.book old) s (formula h.bound g (length old.numbers)) g o (filling_in h.book old) (fill old.trees found)) (sym fits_next)
            ∙ ap
            (λ (r : Filled). with_step (used ++ names_in h.book old) s (formula h.bound g (length old.numbers)) g
            (slice_index_or (judgements_of h) (length old.numbers) (stands verdict.NoRef)) (filling_in h.book old) r) f;
      };
      short = λ kinds text sheet opened binds code short.
          let c = constants_of h in
          let told = acc.tree_is kinds text sheet opened binds code in
          let want = read kinds text sheet opened binds code y as_asked in
          let made : AreShort c (fill old.trees found).made = new_short c found old.trees (subst (AreShort c) (sym want.0) want.1) in
          subst (AreShort c)
          (sym
          (put.put.own_put.trees ∙ ap (λ (ts : List Tree). ts ++ put.own.tree ∷ []) put.put.are_made.put.trees_are
          ∙ ap (λ (o : DraftStep). (old.trees ++ (fill old.trees found).made) ++ o.tree ∷ []) acc.is))
          (short_join c (old.trees ++ (fill old.trees found).made) (acc.tree ∷ []) (short_join c old.trees (fill old.trees found).made short made) (subst (IsShort c) (sym told.0) told.1, tt));
    }

  pub long_fault : (found : List Tree) (n : ℕ)
      → OfAccepted h i (λ z. AreWanted (constants_of h) (wanted_from (value_of h) i (length x.order) z.assertion.hyps) found (Some n))
      → (e : FillFault) → IsLongNamed old found n e → IsNextFault h old s e
  long_fault found n read (fault.TooLong name m) named = λ used in_step kinds text sheet opened binds code.
      let want = read kinds text sheet opened binds code y as_asked in
      IsLongNext.wanted found want.1.0 want.1.1 name m (wanted_next ∙ want.1.2) want.0 (subst (IsTooLong (constants_of h) want.1.0) (sym named.0) want.1.3)
      (subst
      (λ (ts : List Tree). slice_get (derived_names (suc (length (new_trees ts found))) (used ++ names_in h.book old))
      (length (new_trees ts found))
      ≡ Some name) in_step.trees
      (named.1 (used ++ names_in h.book old) in_step.names))
  long_fault found n read fault.LongValue named = absurd named
  long_fault found n read fault.Memory named = tt

  pub own_fault : (found : List Tree)
      → OfAccepted h i (λ z. AreWanted (constants_of h) (wanted_from (value_of h) i (length x.order) z.assertion.hyps) found None) → (e : FillFault)
      → IsOwnFault h i s.name e → IsNextFault h old s e
  own_fault found read (fault.TooLong m n) h' = λ used in_step kinds text sheet opened binds code.
      let told = h' kinds text sheet opened binds code in
      let want = read kinds text sheet opened binds code y as_asked in
      subst (λ (z : Name). IsLongNext h (filling_in h.book old) used s z n) (sym told.0)
      (IsLongNext.own n (subst (AreShort (constants_of h)) (sym wanted_next) want.1) (subst (λ (k : ℕ). IsTooLong (constants_of h) (formula_of h k) n) next told.1))
  own_fault found read fault.LongValue h' = λ kinds text sheet opened binds code.
      let told = h' kinds text sheet opened binds code y as_asked in
      let want = read kinds text sheet opened binds code y as_asked in
      record {
        wanted = subst (AreShort (constants_of h)) (sym wanted_next) want.1;
        own = subst (λ (k : ℕ). IsShort (constants_of h) (formula_of h k)) next told.0;
        long = (y, subst (λ (k : ℕ). IsAcceptedAs h k y) next as_asked, subst (λ (k : ℕ). AreShort (constants_of h) (values_of h k y) → ⊥) next told.1);
      }
  own_fault found read fault.Memory h' = tt
