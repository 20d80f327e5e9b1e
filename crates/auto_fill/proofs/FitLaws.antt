-- How one assertion serves a step: its conclusion first, then the tuples of places.
use Rattle.std.proofs.Common.{◌≡◌, ℕ, Bool, true, false, List, [], length, Option, Some, None, option_map, sym, subst, ◌∙◌, Result, Ok, Err, IfOk}
use Rattle.mm_base.specs.declared.errors.Memory.{Memory}
use Rattle.mm_base.specs.declared.symbols.Sym.{Sym}
use Rattle.mm_base.specs.declared.symbols.Pair.{Pair}
use Rattle.mm_base.specs.declared.tree.Tree.{Tree}
use Rattle.mm_model.specs.declared.frames.Frame.{Frame}
use Rattle.mm_model.specs.Book.{Assertion}
use Rattle.auto_model.specs.AutoFilled.{tuples}
use Rattle.ref_search.specs.declared.wanted.Wanted.{Wanted}
use Rattle.ref_search.specs.Matching.{Binding, AreBound, IsMatched, Becomes}
use Rattle.ref_search.specs.Completing.{IsRule, Completes}
use Rattle.ref_search.specs.Placing.{trees_at, CanComplete, FitsWanted, CanFit}
use Rattle.ref_search.proofs.FitLaws.{first_same}
use Rattle.ref_search.proofs.PlaceLaws.{all_none, other_fails, fewer, more, matched_from}
use Rattle.auto_fill.specs.declared.walking.Fit.{Fit}
use Rattle.auto_fill.specs.Walking.{HasFit, IsFirstFit, IsFitOf}

module _ (given : Option (List Pair)) (frame : Frame) (vars others : List Sym) (old new : List Binding) (tree : Tree) (hyps : List Tree) (w : Wanted) (places : List ℕ)
    (formula : Tree) (fits : Bool) (none : old ≡ []) (same : others ≡ vars) (there : formula ≡ w.formula) (m : IsMatched others (Becomes tree formula) old new fits) where
  conclusion : (a : Assertion) (b : Bool) → a.tree ≡ tree → fits ≡ b → IsMatched vars (Becomes a.tree w.formula) [] new b
  conclusion a b e f =
      matched_from vars others (Becomes a.tree w.formula) [] old new fits b same none f
      (subst (λ t. IsMatched others (Becomes a.tree t) old new fits) there (subst (λ t. IsMatched others (Becomes t formula) old new fits) (sym e) m))

  pub refused_fit : fits ≡ false → (a : Assertion) → IsRule a frame vars → a.tree ≡ tree → IsFitOf a given w places None
  refused_fit f a rule e = record {
    first = all_none (CanFit a given w)
        (λ order c. other_fails a given frame vars rule [] new a.tree a.hyps w.formula (trees_at w.hyps order) (conclusion a false e f) c.0 c.1) (tuples (length a.hyps) places);
    values = tt;
  }

  pub taken_fit : fits ≡ true → (ps : List Tree) → ps ≡ hyps → (r : Result (Option Fit) Memory)
      → IfOk r (λ o. (a : Assertion) → IsRule a frame vars → AreBound vars new → IsFirstFit a given new ps w.hyps (tuples (length ps) places) o)
      → IfOk r (λ o. (a : Assertion) → IsRule a frame vars → a.tree ≡ tree → a.hyps ≡ hyps → IsFitOf a given w places o)
  taken_fit f ps e (Err x) h = h
  taken_fit f ps e (Ok o) h = λ a rule t s.
      let m = conclusion a true t f in
      let walked = subst (λ xs. IsFirstFit a given new xs w.hyps (tuples (length xs) places) o) (e ∙ sym s) (h a rule (m.bound (record { once = tt; among = tt }))) in
      record {
        first = first_same (CanComplete a given new a.hyps w.hyps) (CanFit a given w)
            (λ order c. (c.0, more a given frame vars rule [] new a.tree a.hyps w.formula (trees_at w.hyps order) m c.0 c.1))
            (λ order c. (c.0, fewer a given frame vars rule [] new a.tree a.hyps w.formula (trees_at w.hyps order) m c.0 c.1))
            (tuples (length a.hyps) places) (option_map (λ (fit : Fit). fit.places) o) walked.first;
        values = by a rule m o walked.values;
      }
    where
      by : (a : Assertion) → IsRule a frame vars → IsMatched vars (Becomes a.tree w.formula) [] new true → (o : Option Fit)
          → HasFit (λ fit. Completes a given new a.hyps (trees_at w.hyps fit.places) fit.trees) o → HasFit (λ fit. FitsWanted a given w fit.places fit.trees) o
      by a rule m None h = tt
      by a rule m (Some fit) h = more a given frame vars rule [] new a.tree a.hyps w.formula (trees_at w.hyps fit.places) m fit.trees h
