-- A step of a walk that counts tokens keeps what was counted.
use Rattle.std.proofs.Common.{◌≡◌, ℕ, ◌<◌, true, false, Option, List, length, set, refl, ap, ◌∙◌}
use Rattle.term_arena.specs.declared.walk.Step.{Step}
use Rattle.term_model.specs.Terms.{Term}
use Rattle.term_model.specs.Links.{Link}
use Rattle.term_model.specs.Store.{IsStore}
use Rattle.term_model.specs.Marks.{is_marked, IsTableOf}
use Rattle.term_arena.specs.Walks.{Walked, unseen, opened, state_at, marks_of, IsStep}
use Rattle.term_model.specs.Sizes.{AreMeasured, AreAllMeasured, AreSizes}
use Rattle.term_arena.specs.Counted.{IsCounted}
use Rattle.term_arena.proofs.StepLaws.{settled_marks, opened_marks, not_settled}
use Rattle.term_model.proofs.SizeLaws.{measured_more, measured_all}

module _ (nodes : List Term) (bound : List (Option ℕ)) (last : ℕ) (now next : Walked) (sizes more : List ℕ) (below : last < length nodes) (here : state_at now.states last ≡ opened) where
  pub measures_on : (did : Step) → IsStep nodes bound last now next did → (did ≡ Step.Cycle → ⊥) → IsCounted nodes bound last sizes more did
      → AreMeasured nodes bound (marks_of now.states) sizes → AreMeasured nodes bound (marks_of next.states) more
  measures_on Step.Settled s n e a =
      let marked : marks_of next.states ≡ set (marks_of now.states) last true = ap marks_of s.1 ∙ settled_marks now.states last in
      rw (marked, e) (measured_more nodes bound (marks_of now.states) sizes last below (not_settled now.states last opened here refl) s.0 a)
  measures_on Step.Opened s n e a =
      let marked : marks_of next.states ≡ marks_of now.states = ap marks_of s.4 ∙ opened_marks now.states s.0 (not_settled now.states s.0 unseen s.3 refl) in
      rw (marked, e) a
  measures_on Step.Cycle s n e a = absurd (n refl)

pub measure_begins : (nodes : List Term) (bound : List (Option ℕ)) (root : ℕ) (first next : Walked) (sizes : List ℕ)
    → is_marked (marks_of first.states) root ≡ false → next.states ≡ set first.states root opened
    → AreMeasured nodes bound (marks_of first.states) sizes → AreMeasured nodes bound (marks_of next.states) sizes
measure_begins nodes bound root first next sizes m states a =
    let marked : marks_of next.states ≡ marks_of first.states = ap marks_of states ∙ opened_marks first.states root m in
    rw marked a

pub all_sizes : (nodes : List Term) (links : List Link) (bound : List (Option ℕ)) (sizes : List ℕ) → IsStore nodes links → IsTableOf bound links
    → AreAllMeasured nodes bound sizes → AreSizes nodes links sizes
all_sizes nodes links bound sizes store table a = measured_all nodes links bound a.marks sizes store.in_order table a.all a.measured
