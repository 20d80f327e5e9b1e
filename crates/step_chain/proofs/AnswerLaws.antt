-- What is answered of the steps of a chain.
use Rattle.std.specs.Prelude.{◌≡◌, ℕ, ◌<◌, ◌+◌, List, [], ◌∷◌, length, map, slice_get, unwrap_or, is_some, option_map, option_and_then, Bool, true}
use Rattle.std.specs.Prelude.{false, IsTrue, Contains, Option, Some, None, Result, refl}
use Rattle.std.specs.List.{AllByRecursion, AllZip}
use Rattle.std.specs.Option.{option_map_or}
use Rattle.std.proofs.Common.{zero, suc, get_or, sym, ap, subst, ◌∙◌, arith}
use Rattle.std.proofs.lemmas.Option.{slice_get-get_or}
use Rattle.mm_base.specs.declared.symbols.Label.{Label}
use Rattle.mm_base.specs.declared.tree.Tree.{Tree}
use Rattle.mm_model.specs.Productions.{TypedVariable}
use Rattle.mm_model.specs.Book.{Database, Assertion}
use Rattle.mm_model.specs.declared.frames.Frame.{Frame}
use Rattle.mm_frames.specs.Contents.{frame_at}
use Rattle.mm_database.specs.declared.assertions.Parsed.{Parsed}
use Rattle.mm_database.specs.Books.{parsed_at, assertion_of, usable_with, database_of}
use Rattle.mm_database.specs.Opened.{Opened}
use Rattle.solve_model.specs.declared.bound.Bound.{Bound}
use Rattle.solve_model.specs.Solutions.{copy, Asked, formula, instance}
use Rattle.solve_model.specs.Verdicts.{Judgement, accepted, accepted_in}
use Rattle.term_model.specs.declared.shape.Id.{Id}
use Rattle.term_model.specs.Sizes.{HaveConstants}
use Rattle.chain_laws.specs.declared.leaves.WorkNode.{WorkNode}
use Rattle.chain_laws.specs.declared.leaves.VariableNode.{VariableNode}
use Rattle.chain_laws.specs.Adding.{variable_at}
use Rattle.chain_laws.specs.Layout.{IsInstanceNode, IsSoundAsked}
use Rattle.chain_laws.specs.Reading.{value_at, AreWorkNodes}
use Rattle.chain_laws.proofs.Agreement.{instance_same}
use Rattle.chain_laws.proofs.ReadValues.{chained_works, instance_read}
use Rattle.step_chain.specs.declared.judged.Accepted.{Accepted}
use Rattle.step_chain.specs.declared.judged.Judged.{Judged}
use Rattle.step_chain.specs.declared.judged.Judged.TheVariants.{Stands, Fits}
use Rattle.step_chain.specs.declared.judged.Pushed.{Pushed}
use Rattle.step_chain.specs.declared.reading.TreeFault.{TreeFault}
use Rattle.step_chain.specs.Standings.{usable_in}
use Rattle.step_chain.specs.Ordered.{formula_at, reordered}
use Rattle.step_chain.specs.Steps.{step_at, asked_by, accepted_by, judgement_of, judgements_from}
use Rattle.step_chain.specs.Grown.{AreIdsIn, AreVariablesIn}
use Rattle.step_chain.specs.Levels.{IsLevel, IsKeptIn, IsUsedIf}
use Rattle.step_chain.specs.Readings.{Readable, IsRead, IsReadOff}
use Rattle.step_chain.specs.Held.{Held, judgements_of, OfEachBook, IsHeld}
use Rattle.step_chain.specs.Values as values
use Rattle.step_chain.specs.Values.{accepted_at, kept_at, judged_in, value_of}
use Rattle.step_chain.specs.Answers.{IsAcceptedAs, OfAccepted, OfKept, IsOfChain, AreRead, values_at, values_of, constants_of}
use Rattle.step_chain.proofs.Lists.{all_has, all_at}
use Rattle.step_chain.proofs.LevelLaws.{judgement_at, judgement_fits, among}
use Rattle.step_chain.proofs.ChainLaws.{sound_of, count_of}
use Rattle.step_chain.proofs.ValueLaws.{store_value, value_same, formula_is}

-- ---- the step of an accepted judgement

record IsStepAt (d : Opened) (bound : Bound) (j : ℕ) (ps : List Pushed) (i : ℕ) (y : Asked) : Type 0 where
  pushed : Pushed
  at : slice_get ps i ≡ Some pushed
  kept : Accepted
  fits : pushed.judged ≡ Fits kept
  assertion : Assertion
  usable : usable_in d kept.label ≡ Some assertion
  is : asked_by bound (j + i) kept assertion ≡ y

module _ (d : Opened) (bound : Bound) (y : Asked) where
  at_usable : (j : ℕ) (p : Pushed) (ps : List Pushed) (x : Accepted) → p.judged ≡ Fits x → (o : Option Assertion) → usable_in d x.label ≡ o
      → accepted_by bound j x o ≡ accepted y → IsStepAt d bound j (p ∷ ps) 0 y
  at_usable j p ps x fits None u e = absurd (cc)
  at_usable j p ps x fits (Some a) u e =
      let number : j + 0 ≡ j = omega arith in
      let same : asked_by bound j x a ≡ y = cc in
      record { pushed = p; at = refl; kept = x; fits = fits; assertion = a; usable = u; is = ap (λ (k : ℕ). asked_by bound k x a) number ∙ same }

  at_judged : (j : ℕ) (p : Pushed) (ps : List Pushed) (q : Judged) → p.judged ≡ q → judgement_of d bound j q ≡ accepted y → IsStepAt d bound j (p ∷ ps) 0 y
  at_judged j p ps (Stands v) fits e = absurd (cc)
  at_judged j p ps (Fits x) fits e = at_usable j p ps x fits (usable_in d x.label) refl e

  found_at : (j : ℕ) (ps : List Pushed) (i : ℕ) → slice_get (judgements_from d bound j ps) i ≡ Some (accepted y) → IsStepAt d bound j ps i y
  found_at j [] i e = let impossible : ◌≡◌ {A = Option Judgement} None (Some (accepted y)) = e in absurd (cc)
  found_at j (p ∷ ps) zero e = let same : judgement_of d bound j p.judged ≡ accepted y = cc in at_judged j p ps p.judged refl same
  found_at j (p ∷ ps) (suc i) e =
      let told = found_at (suc j) ps i e in
      let number : suc j + i ≡ j + suc i = omega arith in
      record {
        pushed = told.pushed;
        at = told.at;
        kept = told.kept;
        fits = told.fits;
        assertion = told.assertion;
        usable = told.usable;
        is = sym (ap (λ (k : ℕ). asked_by bound k told.kept told.assertion) number) ∙ told.is;
      }

-- ---- back from what is kept

record IsKeptAt (ps : List Pushed) (i : ℕ) (x : Accepted) : Type 0 where
  pushed : Pushed
  at : slice_get ps i ≡ Some pushed
  fits : pushed.judged ≡ Fits x

kept_judged : (j : Judged) (x : Accepted) → values.accepted_in j ≡ Some x → j ≡ Fits x
kept_judged (Stands v) x e = absurd (cc)
kept_judged (Fits y) x e = let same : y ≡ x = cc in ap (λ (z : Accepted). Fits z) same

kept_pushed : (ps : List Pushed) (i : ℕ) (o : Option Pushed) → slice_get ps i ≡ o → (x : Accepted) → option_and_then (λ (p : Pushed). values.accepted_in p.judged) o ≡ Some x → IsKeptAt ps i x
kept_pushed ps i None at x e = let impossible : ◌≡◌ {A = Option Accepted} None (Some x) = e in absurd (cc)
kept_pushed ps i (Some p) at x e = record { pushed = p; at = at; fits = kept_judged p.judged x e }

is_kept_at : (ps : List Pushed) (i : ℕ) (x : Accepted) → kept_at ps i ≡ Some x → IsKeptAt ps i x
is_kept_at ps i x e = kept_pushed ps i (slice_get ps i) refl x e

kept_is : (ps : List Pushed) (i : ℕ) (p : Pushed) (x : Accepted) → slice_get ps i ≡ Some p → p.judged ≡ Fits x → kept_at ps i ≡ Some x
kept_is ps i p x at fits = ap (option_and_then (λ (q : Pushed). values.accepted_in q.judged)) at ∙ ap values.accepted_in fits

some_of : {X : Type 0} (o : Option X) → IsTrue (is_some o) → (x : X) × (o ≡ Some x)
some_of None h = let impossible : false ≡ true = h in absurd (cc)
some_of (Some x) h = (x, refl)

zip_count : {X Y : Type 0} (R : X → Y → Type 0) (xs : List X) (ys : List Y) → AllZip R xs ys → length ys ≡ length xs
zip_count R [] [] z = refl
zip_count R [] (y ∷ ys) z = absurd z
zip_count R (x ∷ xs) [] z = absurd z
zip_count R (x ∷ xs) (y ∷ ys) z = let rest = zip_count R xs ys z.1 in omega (arith, rest)

map_count : {X Y : Type 0} (f : X → Y) (xs : List X) → length (map f xs) ≡ length xs
map_count f [] = refl
map_count f (x ∷ xs) = let rest = map_count f xs in omega (arith, rest)

zip_at : (R : Tree → ℕ → Type 0) (es : List Tree) (ids : List Id) (k : ℕ) (e : Tree) (id : Id) → AllZip R es (map (λ (x : Id). x.0) ids)
    → slice_get es k ≡ Some e → slice_get ids k ≡ Some id → R e id.0
zip_at R [] ids k e id z a b = let impossible : ◌≡◌ {A = Option Tree} None (Some e) = a in absurd (cc)
zip_at R (x ∷ es) [] k e id z a b = let impossible : ◌≡◌ {A = Option Id} None (Some id) = b in absurd (cc)
zip_at R (x ∷ es) (y ∷ ids) zero e id z a b =
    let one : x ≡ e = cc in
    let two : y ≡ id = cc in
    subst (λ (t : Tree). R t id.0) one (subst (λ (i : Id). R x i.0) two z.0)
zip_at R (x ∷ es) (y ∷ ids) (suc k) e id z a b = zip_at R es ids k e id z.1 a b

zip_has : (R : Tree → ℕ → Type 0) (es : List Tree) (ids : List ℕ) (P : Tree → Type 0) (k : ℕ) (e : Tree) → AllByRecursion P es → slice_get es k ≡ Some e → P e
zip_has R [] ids P k e a b = let impossible : ◌≡◌ {A = Option Tree} None (Some e) = b in absurd (cc)
zip_has R (x ∷ es) ids P zero e a b = let one : x ≡ e = cc in subst P one a.0
zip_has R (x ∷ es) ids P (suc k) e a b = zip_has R es ids P k e a.1 b

-- the assertion of a label has it
labelled : (parsed : List (Option Parsed)) (l : Label) (f : Option Frame) (a : Assertion) → usable_with parsed l f ≡ Some a → a.label ≡ l
labelled parsed l None a e = let impossible : ◌≡◌ {A = Option Assertion} None (Some a) = e in absurd (cc)
labelled parsed l (Some f) a e = kept_label (parsed_at parsed l) e
  where
    kept_label : (o : Option Parsed) → option_map (assertion_of l f) o ≡ Some a → a.label ≡ l
    kept_label None h = let impossible : ◌≡◌ {A = Option Assertion} None (Some a) = h in absurd (cc)
    kept_label (Some p) h = let same : assertion_of l f p ≡ a = cc in ap (λ (b : Assertion). b.label) (sym same)

-- ---- under one book

module _ (h : Held) (db : Database) (level : IsLevel db h.book h.bound h.works h.formulas h.steps h.nodes h.links) (i : ℕ) where
  module _ (y : Asked) (is : IsAcceptedAs h i y) where
    step : IsStepAt h.book h.bound 0 h.steps i y
    step = found_at h.book h.bound y 0 h.steps i is

    accepted_some : accepted_at h i ≡ Some step.kept
    accepted_some = kept_is h.steps i step.pushed step.kept step.at step.fits

    module _ (x : Accepted) (e : accepted_at h i ≡ Some x) where
      own : step.kept ≡ x
      own = let both : Some step.kept ≡ Some x = sym accepted_some ∙ e in cc

      number : 0 + i ≡ i
      number = omega arith

      asked_is : asked_by h.bound i x step.assertion ≡ y
      asked_is = ap (λ (z : Accepted). asked_by h.bound i z step.assertion) (sym own) ∙ ap (λ (k : ℕ). asked_by h.bound k step.kept step.assertion) (sym number) ∙ step.is

      pub own_places : y.places ≡ reordered (step_at h.bound i).places x.order
      own_places = ap (λ (z : Asked). z.places) (sym asked_is)

      pub own_label : y.assertion.label ≡ x.label
      own_label =
          ap (λ (z : Asked). z.assertion.label) (sym asked_is) ∙ labelled h.book.parsed step.kept.label (frame_at h.book.contents step.kept.label) step.assertion step.usable
          ∙ ap (λ (z : Accepted). z.label) own

      same_assertion : (level.kept i step.pushed step.kept step.at step.fits).assertion ≡ step.assertion
      same_assertion = let k = level.kept i step.pushed step.kept step.at step.fits in let both : Some k.assertion ≡ Some step.assertion = sym k.usable ∙ step.usable in cc

      own_assertion : step.assertion ≡ y.assertion
      own_assertion = ap (λ (z : Asked). z.assertion) asked_is

      own_step : i ≡ y.step
      own_step = ap (λ (z : Asked). z.step) asked_is

      there : Contains (accepted_in (judgements_of h)) y
      there = among (judgements_of h) i y is

      sound : IsSoundAsked h.bound y
      sound = all_has (IsSoundAsked h.bound) (accepted_in (judgements_of h)) y level.chained.sound there

      hyps_zip : AllZip (IsInstanceNode h.nodes level.layout i) y.assertion.hyps (map (λ (id : Id). id.0) x.hyps)
      hyps_zip =
          let k = level.kept i step.pushed step.kept step.at step.fits in
          subst (λ (a : Assertion). AllZip (IsInstanceNode h.nodes level.layout i) a.hyps (map (λ (id : Id). id.0) x.hyps)) (same_assertion ∙ own_assertion)
          (subst (λ (z : Accepted). AllZip (IsInstanceNode h.nodes level.layout i) k.assertion.hyps (map (λ (id : Id). id.0) z.hyps)) own k.nodes_are.hyps)

      pub own_count : length x.hyps ≡ length y.assertion.hyps
      own_count = sym (map_count (λ (id : Id). id.0) x.hyps) ∙ zip_count (IsInstanceNode h.nodes level.layout i) y.assertion.hyps (map (λ (id : Id). id.0) x.hyps) hyps_zip

      -- the tree of a `$e`'s node
      pub hyp_value : (k : ℕ) (e : Tree) (id : Id) → slice_get y.assertion.hyps k ≡ Some e → slice_get x.hyps k ≡ Some id → value_at h.nodes h.links h.works id.0 ≡ instance (value_of h) i e
      hyp_value k e id one two =
          let node = zip_at (IsInstanceNode h.nodes level.layout i) y.assertion.hyps x.hyps k e id hyps_zip one two in
          let over = zip_has (IsInstanceNode h.nodes level.layout i) y.assertion.hyps [] _ k e sound.hyps one in
          let same = instance_same h.bound (accepted_in (judgements_of h)) (store_value h db level) (value_of h) (λ u on. sym (value_same h db level u on)) y there e over in
          ap (λ (ws : List WorkNode). value_at h.nodes h.links ws id.0) (sym level.works_are)
          ∙ instance_read db h.bound (accepted_in (judgements_of h)) (accepted_in (judgements_of h)) h.nodes h.links level.layout level.chained i e id.0 node
          ∙ subst (λ (j : ℕ). instance (store_value h db level) j e ≡ instance (value_of h) j e) (sym own_step) same

      variables_are : map (λ (w : VariableNode). record { sym = w.sym; code = w.code }) x.variables ≡ y.assertion.vars
      variables_are =
          let k = level.kept i step.pushed step.kept step.at step.fits in
          ap (λ (z : Accepted). map (λ (w : VariableNode). record { sym = w.sym; code = w.code }) z.variables) (sym own) ∙ k.nodes_are.order
          ∙ ap (λ (a : Assertion). a.vars) (same_assertion ∙ own_assertion)

      values_from : (ws : List VariableNode) → ((w : VariableNode) → Contains ws w → variable_at x.variables w.sym w.code ≡ Some w.node)
          → values_at (record { nodes = h.nodes; links = h.links; works = h.works }) ws
          ≡ map (λ (v : TypedVariable). value_of h (copy i v.sym v.code)) (map (λ (w : VariableNode). record { sym = w.sym; code = w.code }) ws)
      values_from [] f = refl
      values_from (w ∷ ws) f =
          let here : value_at h.nodes h.links h.works w.node ≡ value_of h (copy i w.sym w.code) =
          ap (value_at h.nodes h.links h.works)
          (sym
          (ap (λ (o : Option Accepted). option_map_or (λ (z : Accepted). unwrap_or (variable_at z.variables w.sym w.code) 0) o 0) e
          ∙ ap (λ (o : Option ℕ). unwrap_or o 0) (f w (0, omega arith, refl)))) in
          let rest = values_from ws (λ v c. f v (suc c.0, omega (arith, c.1), c.2)) in
          cc

      pub values_are : values_at (record { nodes = h.nodes; links = h.links; works = h.works }) x.variables ≡ values_of h i y
      values_are =
          let k = level.kept i step.pushed step.kept step.at step.fits in
          values_from x.variables
          (λ w c. subst (λ (z : Accepted). variable_at z.variables w.sym w.code ≡ Some w.node) own
          (k.nodes_are.found w (subst (λ (z : Accepted). Contains z.variables w) (sym own) c)))
          ∙ ap (map (λ (v : TypedVariable). value_of h (copy i v.sym v.code))) variables_are

  -- and back
  pub accepted_back : (x : Accepted) → accepted_at h i ≡ Some x → (y : Asked) × IsAcceptedAs h i y
  accepted_back x e =
      let told = is_kept_at h.steps i x e in
      let k = level.kept i told.pushed x told.at told.fits in
      let number : 0 + i ≡ i = omega arith in (
        asked_by h.bound i x k.assertion,
        judgement_at h.book h.bound 0 h.steps i told.pushed told.at ∙ ap (λ (j : ℕ). Some (judgement_of h.book h.bound j told.pushed.judged)) number
            ∙ ap (λ (o : Judgement). Some o) (judgement_fits h.book h.bound i told.pushed.judged x k.assertion told.fits k.usable),
      )

  works_free : AreWorkNodes h.nodes h.works
  works_free = subst (AreWorkNodes h.nodes) level.works_are (chained_works db h.bound (accepted_in (judgements_of h)) (accepted_in (judgements_of h)) h.nodes h.links level.layout level.chained)

  -- what was read of a node whose tree is this
  pub read_is : (j : ℕ) (t : Tree) (r : Result Tree TreeFault) → value_at h.nodes h.links h.works j ≡ t → IsReadOff h.nodes h.links h.works j r → IsRead (constants_of h) t r
  read_is j t r e off = subst (λ (u : Tree). IsRead (constants_of h) u r) e (off (constants_of h) level.constants works_free)

-- ---- for the code

module _ (h now : Held) (e : h ≡ now) (inv : IsHeld h) where
  pub accepted_true : (b : Bool) (i : ℕ) → b ≡ is_some (accepted_at h i) → OfAccepted now i (λ y. IsTrue b)
  accepted_true b i is =
      subst (λ (n : Held). OfAccepted n i (λ y. IsTrue b)) e
      (λ kinds text sheet opened binds code y a.
      let level = (sound_of h inv).level kinds text sheet opened binds code in
      subst IsTrue (sym is) (subst (λ o. IsTrue (is_some o)) (sym (accepted_some h (database_of kinds text h.book.rows h.book.parsed) level i y a)) refl))

  pub accepted_told : (b : Bool) (i : ℕ) → b ≡ is_some (accepted_at h i) → IsTrue b → OfEachBook now (λ db. (y : Asked) × IsAcceptedAs now i y)
  accepted_told b i is t =
      subst (λ (n : Held). OfEachBook n (λ db. (y : Asked) × IsAcceptedAs n i y)) e
      (λ kinds text sheet opened binds code.
      let level = (sound_of h inv).level kinds text sheet opened binds code in
      let some = some_of (accepted_at h i) (subst IsTrue is t) in
      accepted_back h (database_of kinds text h.book.rows h.book.parsed) level i some.0 some.1)

  pub judged_below : (n : ℕ) (i : ℕ) → n ≡ length h.steps → i < length (judgements_of now) → i < n
  judged_below n i is below = let count = ap (λ (x : Held). length (judgements_of x)) e in let own = count_of h in omega (arith, is, below, count, own)

  pub judged_used : (i : ℕ) (j : Judged) → judged_in h.steps i ≡ Some j → IsUsedIf now.book j
  judged_used i j is = subst (λ (n : Held). IsUsedIf n.book j) e (by (slice_get h.steps i) refl is)
    where
      by : (o : Option Pushed) → slice_get h.steps i ≡ o → option_map (λ (p : Pushed). p.judged) o ≡ Some j → IsUsedIf h.book j
      by None at k = let impossible : ◌≡◌ {A = Option Judged} None (Some j) = k in absurd (cc)
      by (Some p) at k = let same : p.judged ≡ j = cc in subst (IsUsedIf h.book) same (all_at (λ (q : Pushed). IsUsedIf h.book q.judged) h.steps i p inv.used at)

module _ (h : Held) (inv : IsHeld h) (i : ℕ) (x : Accepted) (at : accepted_at h i ≡ Some x) where
  pub order_told : (order : List ℕ) → order ≡ x.order → OfAccepted h i (λ y. y.places ≡ reordered (step_at h.bound i).places order)
  order_told order is kinds text sheet opened binds code y a =
      let level = (sound_of h inv).level kinds text sheet opened binds code in
      own_places h (database_of kinds text h.book.rows h.book.parsed) level i y a x at ∙ ap (reordered (step_at h.bound i).places) (sym is)

  pub label_told : (l : Label) → l ≡ x.label → OfAccepted h i (λ y. y.assertion.label ≡ l)
  label_told l is kinds text sheet opened binds code y a =
      let level = (sound_of h inv).level kinds text sheet opened binds code in
      own_label h (database_of kinds text h.book.rows h.book.parsed) level i y a x at ∙ sym is

  pub hyps_kept : (n : ℕ) → n ≡ length x.hyps → OfKept h i (λ y. n ≡ length y.hyps)
  hyps_kept n is y e = let same : x ≡ y = let both : Some x ≡ Some y = sym at ∙ e in cc in is ∙ ap (λ (z : Accepted). length z.hyps) same

  pub hyps_told : (n : ℕ) → n ≡ length x.hyps → OfAccepted h i (λ y. n ≡ length y.assertion.hyps)
  hyps_told n is kinds text sheet opened binds code y a =
      let level = (sound_of h inv).level kinds text sheet opened binds code in
      is ∙ own_count h (database_of kinds text h.book.rows h.book.parsed) level i y a x at

-- ---- trees that are read

id_inside : (n : ℕ) (ids : List Id) (k : ℕ) (d : Id) → AreIdsIn n ids → k < length ids → (get_or ids k d).0 < n
id_inside n [] k d h below = absurd (omega (arith, below))
id_inside n (x ∷ ids) zero d h below = h.0
id_inside n (x ∷ ids) (suc k) d h below = id_inside n ids k d h.1 (omega (arith, below))

module _ (h now : Held) (e : h ≡ now) (t : Readable) (of : IsOfChain h t) where
  here : IsHeld now
  here = subst IsHeld e of.held

  trees_are : t ≡ record { nodes = now.nodes; links = now.links; works = now.works }
  trees_are = subst (λ (n : Held). t ≡ record { nodes = n.nodes; links = n.links; works = n.works }) e of.trees

  pub inside : (j : ℕ) → j < length now.nodes → j < length t.nodes
  inside j below = subst (λ (r : Readable). j < length r.nodes) (sym trees_are) below

  off_chain : (j : ℕ) (r : Result Tree TreeFault) → IsReadOff t.nodes t.links t.works j r → IsReadOff now.nodes now.links now.works j r
  off_chain j r off = subst (λ (u : Readable). IsReadOff u.nodes u.links u.works j r) trees_are off

  -- a formula
  pub formula_told : (i : ℕ) → i < length now.bound.steps → (id : Id) → id ≡ formula_at now.formulas i → (r : Result Tree TreeFault) → IsReadOff t.nodes t.links t.works id.0 r
      → OfEachBook now (λ db. IsRead (constants_of now) (formula now.bound (value_of now) i) r)
  formula_told i below id is r off kinds text sheet opened binds code =
      let db = database_of kinds text now.book.rows now.book.parsed in
      let level = (sound_of now here).level kinds text sheet opened binds code in
      read_is now db level i id.0 (formula now.bound (value_of now) i) r
      (ap (λ (x : Id). value_at now.nodes now.links now.works x.0) is ∙ formula_is now db level i below) (off_chain id.0 r off)

  module _ (i : ℕ) (x : Accepted) (at : accepted_at now i ≡ Some x) where
    kept_inside : IsKeptIn (length now.nodes) (Fits x)
    kept_inside =
        let told = is_kept_at now.steps i x at in
        subst (IsKeptIn (length now.nodes)) told.fits (all_at (λ (p : Pushed). IsKeptIn (length now.nodes) p.judged) now.steps i told.pushed (sound_of now here).kept_in told.at)

    -- a `$e`
    pub hyp_inside : (ids : List Id) (k : ℕ) (d : Id) → ids ≡ x.hyps → k < length x.hyps → (get_or ids k d).0 < length t.nodes
    hyp_inside ids k d is below =
        inside (get_or ids k d).0 (subst (λ (xs : List Id). (get_or xs k d).0 < length now.nodes) (sym is) (id_inside (length now.nodes) x.hyps k d kept_inside.0 below))

    pub hyp_told : (ids : List Id) (k : ℕ) (d : Id) → ids ≡ x.hyps → k < length x.hyps → (r : Result Tree TreeFault) → IsReadOff t.nodes t.links t.works (get_or ids k d).0 r
        → OfAccepted now i (λ y. (u : Tree) → slice_get y.assertion.hyps k ≡ Some u → IsRead (constants_of now) (instance (value_of now) i u) r)
    hyp_told ids k d is below r off kinds text sheet opened binds code y a u one =
        let db = database_of kinds text now.book.rows now.book.parsed in
        let level = (sound_of now here).level kinds text sheet opened binds code in
        let id = get_or ids k d in
        let two : slice_get x.hyps k ≡ Some id = slice_get-get_or x.hyps k d below ∙ ap (λ (xs : List Id). Some (get_or xs k d)) (sym is) in
        read_is now db level i id.0 (instance (value_of now) i u) r (hyp_value now db level i y a x at k u id one two) (off_chain id.0 r off)

    -- the variables
    pub variables_inside : (vs : List VariableNode) → vs ≡ x.variables → AreVariablesIn (length t.nodes) vs
    variables_inside vs is =
        subst (AreVariablesIn (length t.nodes)) (sym is) (subst (λ (r : Readable). AreVariablesIn (length r.nodes) x.variables) (sym trees_are) kept_inside.1)

    pub values_told : (vs : List VariableNode) → vs ≡ x.variables → (r : Result (List Tree) TreeFault)
        → ((constants : Label → ℕ) → HaveConstants constants t.nodes → AreWorkNodes t.nodes t.works → AreRead constants (values_at t vs) r)
        → OfAccepted now i (λ y. AreRead (constants_of now) (values_of now i y) r)
    values_told vs is r off kinds text sheet opened binds code y a =
        let db = database_of kinds text now.book.rows now.book.parsed in
        let level = (sound_of now here).level kinds text sheet opened binds code in
        let c = constants_of now in
        let chain : AreRead c (values_at (record { nodes = now.nodes; links = now.links; works = now.works }) vs) r =
        subst (λ (u : Readable). HaveConstants c u.nodes → AreWorkNodes u.nodes u.works → AreRead c (values_at u vs) r) trees_are (off c) level.constants (works_free now db level i) in
        subst (λ (ts : List Tree). AreRead c ts r)
        (ap (values_at (record { nodes = now.nodes; links = now.links; works = now.works })) is ∙ values_are now db level i y a x at) chain
