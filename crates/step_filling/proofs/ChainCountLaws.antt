-- A chain counts as the definitions do.
use Rattle.std.specs.Prelude.{List, [], ◌∷◌}
use Rattle.std.specs.List.{AllByRecursion}
use Rattle.mm_base.specs.declared.tree.Tree.{Tree}
use Rattle.solve_model.specs.Verdicts.{accepted_in}
use Rattle.chain_laws.specs.Laws.{BoundIsReady, CandidatesAreReady}
use Rattle.step_chain.specs.Held.{judgements_of}
use Rattle.step_chain.specs.Values.{value_of}
use Rattle.step_filling.specs.Counted.{TypedIsCounted}
use Rattle.step_filling.specs.ChainCounted.{ChainIsCounted}
use Rattle.step_filling.proofs.TypedLaws.{formula_is_typed}
use Rattle.step_filling.proofs.OverTyped.{instance_is_typed}

all_both : (P Q R : Tree → Type 0) (ts : List Tree) → ((t : Tree) → P t → Q t → R t) → AllByRecursion P ts → AllByRecursion Q ts → AllByRecursion R ts
all_both P Q R [] f p q = tt
all_both P Q R (t ∷ ts) f p q = (f t p.0 q.0, all_both P Q R ts f p.1 q.1)

pub chain_is_counted : TypedIsCounted → BoundIsReady → CandidatesAreReady → ChainIsCounted
chain_is_counted counted bound_ready asked_ready h kinds text sheet opened binds logic the =
    let valuation = the.most_general.is_valuation in
    record {
      formulas =
          λ k b at. counted kinds text _ opened.database opened.no_fault h.bound.place _
          (formula_is_typed _ h.bound (accepted_in (judgements_of h)) (value_of h) (bound_ready _ sheet h.bound binds) valuation k b at);
      hyps = λ x among candidate.
          let ready = asked_ready kinds _ h.bound x (record { text = text; sound = opened.no_fault; is_database = opened.database }) candidate in
          all_both _ _ _ x.assertion.hyps
          (λ t over typed. counted kinds text _ opened.database opened.no_fault h.bound.place _
          (instance_is_typed _ h.bound (accepted_in (judgements_of h)) (value_of h) x valuation among t over typed)) ready.sound.hyps ready.hyps;
    }
