-- A chain stands for the most general valuation of the accepted steps.
use Rattle.std.specs.Prelude.{◌≡◌, ℕ, ◌<◌, ◌+◌, Bool, true, false, ◌==◌, ◌&&◌, List, [], ◌∷◌, length, find, slice_get, slice_index_or, unwrap_or}
use Rattle.std.specs.Prelude.{option_map, option_and_then, Contains, Option, Some, None, refl}
use Rattle.std.specs.Option.{option_map_or}
use Rattle.std.specs.List.{AllByRecursion}
use Rattle.std.proofs.Common.{zero, suc, sym, ap, subst, ◌∙◌, arith, cond}
use Rattle.std.proofs.lemmas.Bool.Decides.{nat_tests}
use Rattle.std.proofs.lemmas.Option.{slice_get_within, get_or_from_slice_get}
use Rattle.mm_base.specs.declared.symbols.Typecode.{Typecode}
use Rattle.mm_base.specs.Trees.{code_of}
use Rattle.mm_model.specs.Typed.{IsTyped}
use Rattle.mm_model.specs.Productions.{TypedVariable}
use Rattle.mm_model.specs.Book.{Database, Assertion}
use Rattle.mm_database.specs.Opened.{Opened}
use Rattle.solve_model.specs.declared.bound.BoundStep.{BoundStep}
use Rattle.solve_model.specs.declared.bound.Bound.{Bound}
use Rattle.solve_model.specs.Trees.{Open, work, fresh, Occurs}
use Rattle.solve_model.specs.Solutions.{Unknown, named, blank, copy, Valuation, IsUnknown, in_formula, is_blank, in_frame, Asked, formula, formula_value, no_step}
use Rattle.solve_model.specs.MostGeneral.{IsLeastNamed, IsNamedLeaf, IsTheValuation, refine}
use Rattle.solve_model.specs.Verdicts.{Judgement, accepted_in}
use Rattle.chain_laws.specs.declared.leaves.WorkNode.{WorkNode}
use Rattle.chain_laws.specs.Adding.{is_work, work_at, variable_at}
use Rattle.chain_laws.specs.Layout.{Layout, IsSoundAsked, work_node}
use Rattle.chain_laws.specs.Reading.{value_at, value_of_store}
use Rattle.chain_laws.proofs.Agreement.{solve_same, formula_same}
use Rattle.chain_laws.proofs.ReadValues.{formula_read, unknown_read, read_valuation}
use Rattle.step_chain.specs.declared.judged.Accepted.{Accepted}
use Rattle.step_chain.specs.declared.judged.Judged.{Judged}
use Rattle.step_chain.specs.declared.judged.Judged.TheVariants.{Stands, Fits}
use Rattle.step_chain.specs.declared.judged.Pushed.{Pushed}
use Rattle.step_chain.specs.Standings.{usable_in}
use Rattle.step_chain.specs.Ordered.{formula_at}
use Rattle.step_chain.specs.Steps.{asked_by, accepted_by, judgement_of, judgements_from}
use Rattle.step_chain.specs.Levels.{IsLevel}
use Rattle.step_chain.specs.Held.{Held, judgements_of, OfEachBook, IsHeld}
use Rattle.mm_database.specs.Books.{database_of}
use Rattle.step_chain.proofs.ChainLaws.{sound_of}
use Rattle.step_chain.specs.Values as values
use Rattle.step_chain.specs.Values.{accepted_at, node_in, value_of}

-- ---- what is most general rests on the unknowns alone

module _ (db : Database) (bound : Bound) (asked : List Asked) (sound : AllByRecursion (IsSoundAsked bound) asked) (v w : Valuation) (same : (u : Unknown) → IsUnknown bound asked u → v u ≡ w u) where
  abbrev On : Unknown → Type 0
  On u = IsUnknown bound asked u

  least_same : (x : Open) → IsLeastNamed On v x → IsLeastNamed On w x
  least_same (work c m) h = (h.0, sym (same (named c m) h.0) ∙ h.1, λ n on e. h.2 n on (same (named c n) on ∙ e))
  least_same (fresh c m) h = λ n on e. h n on (same (named c n) on ∙ e)

  named_same : (x : Open) → IsNamedLeaf On v x → IsNamedLeaf On w x
  named_same x h = record { holder = h.holder; is_unknown = h.is_unknown; holds = sym (same h.holder h.is_unknown) ∙ h.holds; named_least = least_same x h.named_least }

  pub valuation_same : IsTheValuation db bound asked v → IsTheValuation db bound asked w
  valuation_same h = record {
    most_general = record {
      is_valuation = record {
        code = λ u on. ap code_of (sym (same u on)) ∙ h.most_general.is_valuation.code u on;
        typed = λ u on. subst (IsTyped db.rows bound.place) (same u on) (h.most_general.is_valuation.typed u on);
      };
      solves = solve_same bound asked v w same asked (λ x c. c) sound h.most_general.solves;
      general = λ z valued solves. let told = h.most_general.general z valued solves in record { by = told.by; same = λ u on. told.same u on ∙ ap (refine told.by) (same u on) };
    };
    canonical = λ u x on occurs. named_same x (h.canonical u x on (subst (Occurs x) (sym (same u on)) occurs));
  }

-- ---- the nodes of unknowns

code_with : ℕ → Typecode
code_with n = record { 0 = record { 0 = n } }

both : (a b : Bool) → (a && b) ≡ true → (a ≡ true) × (b ≡ true)
both true b e = (refl, e)
both false b e = absurd (cc)

-- a work variable that stands in the list is found
record IsFound (ws : List WorkNode) (c : Typecode) (n : ℕ) : Type 0 where
  one : WorkNode
  is_one : Contains ws one
  code : one.code ≡ c
  number : one.number ≡ n
  at : work_at ws c n ≡ Some one.node

is_work_code : (c : Typecode) (n : ℕ) (w : WorkNode) → is_work c n w ≡ true → (w.code ≡ c) × (w.number ≡ n)
unfolding code_with
is_work_code c n w e =
    let parts = both (c.0.0 == w.code.0.0) (n == w.number) e in
    let one : w.code.0.0 ≡ c.0.0 = grind (arith, nat_tests, parts.0) in
    (ap code_with one, grind (arith, nat_tests, parts.1))

own_work : (c : Typecode) (n k : ℕ) → is_work c n (record { code = c; number = n; node = k }) ≡ true
own_work c n k =
    let one : (c.0.0 == c.0.0) ≡ true = grind (arith, nat_tests) in
    let two : (n == n) ≡ true = grind (arith, nat_tests) in
    rw (one, two) refl

found_by : (c : Typecode) (n : ℕ) (w : WorkNode) (ws : List WorkNode) (b : Bool) → is_work c n w ≡ b → (b ≡ false → IsFound ws c n)
    → (one : WorkNode) × Contains (w ∷ ws) one × (one.code ≡ c) × (one.number ≡ n) × (option_map (λ (x : WorkNode). x.node) (cond b (Some w) (find (is_work c n) ws)) ≡ Some one.node)
found_by c n w ws true e rest = let is = is_work_code c n w e in (w, (0, omega arith, refl), is.0, is.1, refl)
found_by c n w ws false e rest = let told = rest refl in (told.one, (suc told.is_one.0, omega (arith, told.is_one.1), told.is_one.2), told.code, told.number, told.at)

found_work : (c : Typecode) (n k : ℕ) (ws : List WorkNode) → Contains ws (record { code = c; number = n; node = k }) → IsFound ws c n
found_work c n k [] (j, l, e) = absurd (omega (arith, l))
found_work c n k (w ∷ ws) (zero, l, e) =
    let told = found_by c n w ws (is_work c n w) refl (λ no. let yes : is_work c n w ≡ true = ap (is_work c n) e ∙ own_work c n k in let impossible : false ≡ true = sym no ∙ yes in absurd (cc)) in
    record { one = told.0; is_one = told.1; code = told.2; number = told.3; at = told.4 }
found_work c n k (w ∷ ws) (suc j, l, e) =
    let told = found_by c n w ws (is_work c n w) refl (λ no. found_work c n k ws (j, omega (arith, l), e)) in
    record { one = told.0; is_one = told.1; code = told.2; number = told.3; at = told.4 }

-- ---- what is accepted stands in the list of steps

record IsStepOf (d : Opened) (bound : Bound) (i : ℕ) (ps : List Pushed) (x : Asked) : Type 0 where
  place : ℕ
  pushed : Pushed
  at : slice_get ps place ≡ Some pushed
  kept : Accepted
  fits : pushed.judged ≡ Fits kept
  assertion : Assertion
  usable : usable_in d kept.label ≡ Some assertion
  is : asked_by bound (i + place) kept assertion ≡ x

step_more : (d : Opened) (bound : Bound) (i : ℕ) (p : Pushed) (ps : List Pushed) (x : Asked) → IsStepOf d bound (suc i) ps x → IsStepOf d bound i (p ∷ ps) x
step_more d bound i p ps x h =
    let number : suc i + h.place ≡ i + suc h.place = omega arith in
    record {
      place = suc h.place;
      pushed = h.pushed;
      at = h.at;
      kept = h.kept;
      fits = h.fits;
      assertion = h.assertion;
      usable = h.usable;
      is = sym (ap (λ (k : ℕ). asked_by bound k h.kept h.assertion) number) ∙ h.is;
    }

module _ (d : Opened) (bound : Bound) (i : ℕ) (p : Pushed) (ps : List Pushed) (x : Asked) (later : Contains (accepted_in (judgements_from d bound (suc i) ps)) x → IsStepOf d bound (suc i) ps x) where
  first_of : (y : Accepted) → p.judged ≡ Fits y → (a : Assertion) → usable_in d y.label ≡ Some a
      → Contains (asked_by bound i y a ∷ accepted_in (judgements_from d bound (suc i) ps)) x → IsStepOf d bound i (p ∷ ps) x
  first_of y fits a u (zero, l, e) =
      let number : i + 0 ≡ i = omega arith in
      record { place = 0; pushed = p; at = refl; kept = y; fits = fits; assertion = a; usable = u; is = ap (λ (k : ℕ). asked_by bound k y a) number ∙ e }
  first_of y fits a u (suc k, l, e) = step_more d bound i p ps x (later (k, omega (arith, l), e))

  by_usable : (y : Accepted) → p.judged ≡ Fits y → (o : Option Assertion) → usable_in d y.label ≡ o
      → Contains (accepted_in (accepted_by bound i y o ∷ judgements_from d bound (suc i) ps)) x → IsStepOf d bound i (p ∷ ps) x
  by_usable y fits None u c = step_more d bound i p ps x (later c)
  by_usable y fits (Some a) u c = first_of y fits a u c

  by_judged : (j : Judged) → p.judged ≡ j → Contains (accepted_in (judgement_of d bound i j ∷ judgements_from d bound (suc i) ps)) x → IsStepOf d bound i (p ∷ ps) x
  by_judged (Stands v) e c = step_more d bound i p ps x (later c)
  by_judged (Fits y) e c = by_usable y e (usable_in d y.label) refl c

step_of : (d : Opened) (bound : Bound) (i : ℕ) (ps : List Pushed) (x : Asked) → Contains (accepted_in (judgements_from d bound i ps)) x → IsStepOf d bound i ps x
step_of d bound i [] x (k, l, e) = absurd (omega (arith, l))
step_of d bound i (p ∷ ps) x h = by_judged d bound i p ps x (λ c. step_of d bound (suc i) ps x c) p.judged refl h

-- ---- the valuation

module _ (h : Held) (db : Database) (level : IsLevel db h.book h.bound h.works h.formulas h.steps h.nodes h.links) where
  abbrev pub js : List Judgement
  js = judgements_of h

  abbrev lay : Layout
  lay = level.layout

  abbrev pub store_value : Valuation
  store_value = value_of_store h.nodes h.links lay

  read_at : (u : Unknown) → IsUnknown h.bound (accepted_in js) u → value_at h.nodes h.links h.works (lay.node_of u) ≡ store_value u
  read_at u on =
      ap (λ (ws : List WorkNode). value_at h.nodes h.links ws (lay.node_of u)) (sym level.works_are)
      ∙ unknown_read db h.bound (accepted_in js) (accepted_in js) h.nodes h.links lay level.chained u on

  by_node : (u : Unknown) → IsUnknown h.bound (accepted_in js) u → node_in h u ≡ lay.node_of u → value_of h u ≡ store_value u
  by_node u on e = ap (value_at h.nodes h.links h.works) e ∙ read_at u on

  named_node : (c : Typecode) (n : ℕ) → IsUnknown h.bound (accepted_in js) (named c n) → node_in h (named c n) ≡ lay.node_of (named c n)
  named_node c n on =
      let there : Contains h.works (work_node lay c n) = subst (λ (ws : List WorkNode). Contains ws (work_node lay c n)) level.works_are (level.chained.laid_out.all_works c n on) in
      let told = found_work c n (lay.node_of (named c n)) h.works there in
      let own = level.chained.laid_out.works told.one (subst (λ (ws : List WorkNode). Contains ws told.one) (sym level.works_are) told.is_one) in
      ap (λ (o : Option ℕ). unwrap_or o 0) told.at ∙ sym own.node ∙ ap (λ (k : Typecode). lay.node_of (named k told.one.number)) told.code ∙ ap (λ (k : ℕ). lay.node_of (named c k)) told.number

  pub formula_store : (i : ℕ) → i < length h.bound.steps → value_at h.nodes h.links h.works (formula_at h.formulas i).0 ≡ formula h.bound store_value i
  formula_store i below =
      ap (λ (ws : List WorkNode). value_at h.nodes h.links ws (formula_at h.formulas i).0) (sym level.works_are)
      ∙ formula_read db h.bound (accepted_in js) (accepted_in js) h.nodes h.links lay level.chained i (formula_at h.formulas i).0 (level.formula_nodes i below)

  blank_value : (i : ℕ) (s : BoundStep) → slice_get h.bound.steps i ≡ Some s → s.tree ≡ None → value_of h (blank i) ≡ store_value (blank i)
  blank_value i s at is =
      let own : slice_index_or h.bound.steps i no_step ≡ s = get_or_from_slice_get h.bound.steps i s no_step at in
      formula_store i (slice_get_within h.bound.steps i s at) ∙ ap (formula_value store_value i) (ap (λ (t : BoundStep). t.tree) own ∙ is)

  accepted_is : (i : ℕ) (p : Pushed) (x : Accepted) → slice_get h.steps i ≡ Some p → p.judged ≡ Fits x → accepted_at h i ≡ Some x
  accepted_is i p x at is = ap (option_and_then (λ (q : Pushed). values.accepted_in q.judged)) at ∙ ap values.accepted_in is

  copy_node : (x : Asked) (v : TypedVariable) → Contains (accepted_in js) x → Contains x.assertion.vars v → node_in h (copy x.step v.sym v.code) ≡ lay.node_of (copy x.step v.sym v.code)
  copy_node x v c o =
      let told = step_of h.book h.bound 0 h.steps x c in
      let kept = level.kept told.place told.pushed told.kept told.at told.fits in
      let number : 0 + told.place ≡ told.place = omega arith in
      let step : x.step ≡ told.place = ap (λ (y : Asked). y.step) (sym told.is) ∙ number in
      let one : kept.assertion ≡ told.assertion = let three : Some kept.assertion ≡ Some told.assertion = sym kept.usable ∙ told.usable in cc in
      let own : x.assertion ≡ kept.assertion = ap (λ (y : Asked). y.assertion) (sym told.is) ∙ sym one in
      let there : Contains kept.assertion.vars v = subst (λ (a : Assertion). Contains a.vars v) own o in
      let node : node_in h (copy told.place v.sym v.code) ≡ lay.node_of (copy told.place v.sym v.code) =
      ap (λ (o' : Option Accepted). option_map_or (λ (y : Accepted). unwrap_or (variable_at y.variables v.sym v.code) 0) o' 0) (accepted_is told.place told.pushed told.kept told.at told.fits)
      ∙ ap (λ (o' : Option ℕ). unwrap_or o' 0) (kept.nodes_are.copies v there) in
      subst (λ (k : ℕ). node_in h (copy k v.sym v.code) ≡ lay.node_of (copy k v.sym v.code)) (sym step) node

  pub value_same : (u : Unknown) → IsUnknown h.bound (accepted_in js) u → value_of h u ≡ store_value u
  value_same u (in_formula i s t at is o) = by_node _ (in_formula i s t at is o) (named_node _ _ (in_formula i s t at is o))
  value_same u (is_blank s at is) = blank_value _ s at is
  value_same u (in_frame x v c o) = by_node _ (in_frame x v c o) (copy_node x v c o)

  -- it is the most general one
  pub the_valuation : IsTheValuation db h.bound (accepted_in js) (value_of h)
  the_valuation =
      valuation_same db h.bound (accepted_in js) level.chained.sound store_value (value_of h) (λ u on. sym (value_same u on))
      (read_valuation db h.bound (accepted_in js) h.nodes h.links lay level.chained)

  -- a formula's node has the formula, valued
  pub formula_is : (i : ℕ) → i < length h.bound.steps → value_at h.nodes h.links h.works (formula_at h.formulas i).0 ≡ formula h.bound (value_of h) i
  formula_is i below = formula_store i below ∙ formula_same h.bound (accepted_in js) store_value (value_of h) (λ u on. sym (value_same u on)) i below

-- ---- for the code

pub chain_valuation : (h now : Held) → h ≡ now → IsHeld h → OfEachBook now (λ db. IsTheValuation db now.bound (accepted_in (judgements_of now)) (value_of now))
chain_valuation h now e inv =
    subst (λ (x : Held). OfEachBook x (λ db. IsTheValuation db x.bound (accepted_in (judgements_of x)) (value_of x))) e
    (λ kinds text sheet opened binds code. the_valuation h (database_of kinds text h.book.rows h.book.parsed) ((sound_of h inv).level kinds text sheet opened binds code))
