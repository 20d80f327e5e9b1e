-- What was taken with what is kept of a label is taken of its assertion.
use Rattle.std.specs.Prelude.{◌≡◌, ℕ, List, Option, Some, None, option_map, refl}
use Rattle.std.proofs.Common.{sym, ap, subst, ◌∙◌}
use Rattle.mm_base.specs.declared.symbols.Label.{Label}
use Rattle.mm_base.specs.declared.tree.Tree.{Tree}
use Rattle.mm_model.specs.declared.frames.Hyp.{Hyp}
use Rattle.mm_model.specs.declared.frames.Frame.{Frame}
use Rattle.mm_model.specs.declared.rows.Production.{Production}
use Rattle.mm_model.specs.Book.{Assertion}
use Rattle.mm_frames.specs.Contents.{frame_at}
use Rattle.mm_database.specs.declared.assertions.Parsed.{Parsed}
use Rattle.mm_database.specs.Books.{parsed_at, assertion_of, usable_with}
use Rattle.mm_database.specs.Opened.{Opened}
use Rattle.sheet_text.specs.declared.sheet.Given.{Given}
use Rattle.chain_laws.specs.declared.leaves.VariableNode.{VariableNode}
use Rattle.term_model.specs.declared.shape.Id.{Id}
use Rattle.term_model.specs.Store.{Store}
use Rattle.step_chain.specs.declared.judged.Accepted.{Accepted}
use Rattle.step_chain.specs.Candidate.{table_of, roots_of}
use Rattle.step_chain.specs.Standings.{usable_in}
use Rattle.step_chain.specs.Tried.{IsTaken}
use Rattle.step_chain.specs.Accepted.{IsTakenAs}

-- the assertion has this frame and these trees
record IsMadeOf (a : Assertion) (hyps : List Hyp) (t : Tree) (ts : List Tree) : Type 0 where
  frame : a.frame.hyps ≡ hyps
  conclusion : a.tree ≡ t
  expressions : a.hyps ≡ ts

module _ (d : Opened) (l : Label) (frame : Frame) (t : Tree) (ts : List Tree)
    (framed : frame_at d.contents l ≡ Some frame) (tree : (p : Parsed) → parsed_at d.parsed l ≡ Some p → t ≡ p.tree) (trees : (p : Parsed) → parsed_at d.parsed l ≡ Some p → ts ≡ p.hyps) where
  by_kept : (o : Option Parsed) → parsed_at d.parsed l ≡ o → (a : Assertion) → option_map (assertion_of l frame) o ≡ Some a → IsMadeOf a frame.hyps t ts
  by_kept None e a h = let impossible : ◌≡◌ {A = Option Assertion} None (Some a) = h in absurd (cc)
  by_kept (Some p) e a h =
      let same : assertion_of l frame p ≡ a = cc in
      record {
        frame = ap (λ (b : Assertion). b.frame.hyps) (sym same);
        conclusion = ap (λ (b : Assertion). b.tree) (sym same) ∙ sym (tree p e);
        expressions = ap (λ (b : Assertion). b.hyps) (sym same) ∙ sym (trees p e);
      }

  made_of : (a : Assertion) → usable_in d l ≡ Some a → IsMadeOf a frame.hyps t ts
  made_of a h = by_kept (parsed_at d.parsed l) refl a (sym (ap (usable_with d.parsed l) framed) ∙ h)

  module _ (rows : List Production) (hyps : List Hyp) (formulas : List Id) (formula : Id) (places : List Given) (old new : Store) (is_rows : rows ≡ d.rows) (is_hyps : hyps ≡ frame.hyps) where
    abbrev IsTakenBy : List Production → List Hyp → Tree → List Tree → Option (List ℕ) → Type 0
    IsTakenBy rows hyps t ts r = IsTaken rows hyps t ts formulas formula places old new r

    taken_of : (r : Option (List ℕ)) → IsTakenBy rows hyps t ts r → (a : Assertion) → usable_in d l ≡ Some a → IsTakenBy d.rows a.frame.hyps a.tree a.hyps r
    taken_of r h a u =
        let m = made_of a u in
        subst (λ (xs : List Tree). IsTakenBy d.rows a.frame.hyps a.tree xs r) (sym m.expressions)
        (subst (λ (x : Tree). IsTakenBy d.rows a.frame.hyps x ts r) (sym m.conclusion)
        (subst (λ (hs : List Hyp). IsTakenBy d.rows hs t ts r) (is_hyps ∙ sym m.frame)
        (subst (λ (rs : List Production). IsTakenBy rs hyps t ts r) is_rows h)))

    pub taken_none : IsTakenBy rows hyps t ts None → (a : Assertion) → usable_in d l ≡ Some a → IsTakenAs d formulas formula places l a old new None
    taken_none h a u = record { taken = taken_of None h a u; kept = tt }

    pub taken_some : (x : Accepted) (order : List ℕ) (ids : List Id) (vars : List VariableNode)
        → x ≡ record { label = l; order = order; hyps = ids; variables = vars } → vars ≡ table_of old.nodes hyps
        → ids ≡ (roots_of rows old.nodes hyps t ts).roots
        → IsTakenBy rows hyps t ts (Some order) → (a : Assertion) → usable_in d l ≡ Some a → IsTakenAs d formulas formula places l a old new (Some x)
    taken_some x order ids vars is v i h a u =
        let m = made_of a u in
        let same : hyps ≡ a.frame.hyps = is_hyps ∙ sym m.frame in
        record {
          taken = subst (λ (r : List ℕ). IsTakenBy d.rows a.frame.hyps a.tree a.hyps (Some r)) (ap (λ (y : Accepted). y.order) (sym is)) (taken_of (Some order) h a u);
          kept = record {
            label = ap (λ (y : Accepted). y.label) is;
            hyps =
                ap (λ (y : Accepted). y.hyps) is ∙ i ∙ ap (λ (rs : List Production). (roots_of rs old.nodes hyps t ts).roots) is_rows
                ∙ ap (λ (hs : List Hyp). (roots_of d.rows old.nodes hs t ts).roots) same
                ∙ ap (λ (x : Tree). (roots_of d.rows old.nodes a.frame.hyps x ts).roots) (sym m.conclusion)
                ∙ ap (λ (xs : List Tree). (roots_of d.rows old.nodes a.frame.hyps a.tree xs).roots) (sym m.expressions);
            variables = ap (λ (y : Accepted). y.variables) is ∙ v ∙ ap (table_of old.nodes) same;
          };
        }
