-- The values of an accepted step have few tokens where its formula and those of the steps before have.
use Rattle.std.specs.Prelude.{◌≡◌, ◌<◌, ◌≤◌, ℕ, List, Contains, slice_get, Some}
use Rattle.std.specs.List.{AllByRecursion}
use Rattle.std.proofs.Common.{ap, subst, ◌∙◌, arith, inl, inr}
use Rattle.std.proofs.lemmas.List.Elements.{Contains-append_cases}
use Rattle.mm_base.specs.declared.symbols.Label.{Label}
use Rattle.mm_base.specs.declared.tree.Tree.{Tree}
use Rattle.mm_model.specs.Productions.{TypedVariable}
use Rattle.mm_model.specs.Book.{Database}
use Rattle.sheet_text.specs.declared.sheet.Given.TheVariants as given
use Rattle.solve_model.specs.declared.bound.Bound.{Bound}
use Rattle.solve_model.specs.Trees.{leaf_tree}
use Rattle.solve_model.specs.Solutions.{Valuation, copy, Asked, Solves, formula, instance}
use Rattle.solve_model.specs.Verdicts.{Judgement, accepted, AreJudged, accepted_in}
use Rattle.solve_model.specs.MostGeneral.{IsTheValuation}
use Rattle.solve_laws.specs.Instances.{IsClosed}
use Rattle.term_model.specs.Sizes.{tokens}
use Rattle.written_model.specs.Existence.{IsPlaceIn}
use Rattle.again_laws.specs.Leaves.{typed_leaves}
use Rattle.again_laws.specs.Shown.{shown_leaves, shown_by}
use Rattle.again_laws.proofs.Lists.{all_of}
use Rattle.again_laws.proofs.Loose.{contains_or_not, loose}
use Rattle.filling_laws.specs.Values.{PlacesComeBefore}
use Rattle.filling_laws.proofs.ValueTokens.{fresh_tokens, within}
use Rattle.filling_laws.proofs.ValuePlaces.{IsAcceptedStep, accepted_step, once, given_in}

module _ (constants : Label → ℕ) (most : ℕ) (some : 1 ≤ most) (db : Database) (bound : Bound) (judgements : List Judgement) (g : Valuation)
    (judged : AreJudged db bound judgements) (the : IsTheValuation db bound (accepted_in judgements) g)
    (closed : AllByRecursion IsClosed (accepted_in judgements)) (earlier : PlacesComeBefore bound) where
  abbrev Few : Tree → Type 0
  Few t = tokens constants t ≤ most

  -- what a variable of a tree is replaced by, where the tree's instance is a formula with few tokens
  part_few : (i : ℕ) (v : TypedVariable) (t u : Tree) → Contains (typed_leaves t) v → instance g i t ≡ u → Few u → Few (g (copy i v.sym v.code))
  part_few i v t u m e few =
      let less = within constants (λ s c. g (copy i s c)) leaf_tree v t m in
      let same = ap (tokens constants) e in
      omega (arith, less, same, few)

  module _ (k : ℕ) (x : Asked) (at : slice_get judgements k ≡ Some (accepted x)) (own : Few (formula bound g k)) (before : (j : ℕ) → j < k → Few (formula bound g j)) where
    abbrev is : IsAcceptedStep bound judgements k x
    is = accepted_step db bound judgements judged k x at

    solves : Solves bound g x
    solves = all_of (Solves bound g) (accepted_in judgements) x the.most_general.solves is.member

    named_before : (j : ℕ) → Contains x.places (given.Step j) → j < k
    named_before j m = all_of (IsPlaceIn k) is.bound_step.places (given.Step j) (earlier k is.bound_step is.at) (is.places (given.Step j) m)

    shown_few : (v : TypedVariable) → Contains (shown_by x.assertion x.places) v → Few (g (copy x.step v.sym v.code))
    shown_few v m = elim (Contains-append_cases (typed_leaves x.assertion.tree) (shown_leaves x.places x.assertion.hyps) v m) [
      | inl one ↦ part_few x.step v x.assertion.tree (formula bound g k) one (solves.conclusion ∙ ap (formula bound g) is.step_is) own
      | inr more ↦
          let r = given_in bound g x.step v x.places x.assertion.hyps solves.places more in
          part_few x.step v r.hyp (formula bound g r.number) r.shows r.solved (before r.number (named_before r.number r.named))
    ]

    hidden_few : (v : TypedVariable) → Contains x.assertion.vars v → (Contains (shown_by x.assertion x.places) v → ⊥) → Few (g (copy x.step v.sym v.code))
    hidden_few v m hidden =
        let r = loose db bound (accepted_in judgements) g the closed x v is.member m (λ y o e. once db bound judgements judged x y is.member o e) hidden in
        let leaf = fresh_tokens constants v.code r.number in
        let same = ap (tokens constants) r.is in
        omega (arith, leaf, same, some)

    pub value_few : (v : TypedVariable) → Contains x.assertion.vars v → Few (g (copy k v.sym v.code))
    value_few v m =
        subst (λ (i : ℕ). Few (g (copy i v.sym v.code))) is.step_is
        (elim (contains_or_not (shown_by x.assertion x.places) v) [ inl shown ↦ shown_few v shown | inr hidden ↦ hidden_few v m hidden ])
