-- A candidate of which the orders were tried. This is part of the proof, and not of the claim.
use Rattle.std.specs.Prelude.{◌≡◌, ℕ, ◌⊎◌, List, [], ◌∷◌, ◌++◌, length, Option, None}
use Rattle.mm_base.specs.declared.tree.Tree.{Tree}
use Rattle.mm_model.specs.declared.frames.Hyp.{Hyp}
use Rattle.mm_model.specs.declared.rows.Production.{Production}
use Rattle.sheet_text.specs.declared.sheet.Given.{Given}
use Rattle.term_model.specs.declared.shape.Id.{Id}
use Rattle.term_model.specs.Terms.{Term}
use Rattle.term_model.specs.Links.{Link}
use Rattle.term_model.specs.Store.{Store, IsStore, IsSolved}
use Rattle.chain_laws.specs.Adding.{id_of}
use Rattle.chain_laws.specs.Layout.{NodePair, Joins, CannotJoin}
use Rattle.step_chain.specs.Candidate.{root_of, roots_of}
use Rattle.step_chain.specs.Ordered.{may_reorder, reordered, id_pairs, tried, IsFirstFit}

-- the conclusion with the step's formula
abbrev pub conclusion_pairs : Id → Id → List NodePair
conclusion_pairs root formula = (root.0, formula.0) ∷ []

-- the conclusion is joined with the step's formula, and then this came of the orders of the places
pub record IsJoinedFirst (nodes : List Term) (old new : List Link) (formulas : List Id) (places : List Given) (hyps : List Id) (root formula : Id) (result : Option (List ℕ)) : Type 0 where
  pub mid : List Link
  pub conclusion : Joins nodes old mid (conclusion_pairs root formula)
  pub first : IsFirstFit nodes mid new (λ order. id_pairs formulas (reordered places order) hyps) (tried (may_reorder places (length hyps)) (length places)) result

-- so it is, or it cannot be joined
abbrev pub IsTried : List Term → List Link → List Link → List Id → List Given → List Id → Id → Id → Option (List ℕ) → Type 0
IsTried nodes old new formulas places hyps root formula result =
    (CannotJoin nodes old (conclusion_pairs root formula) × (result ≡ None)) ⊎ IsJoinedFirst nodes old new formulas places hyps root formula result

-- nodes and bindings were added at the end
pub record IsExtended (old new : Store) : Type 0 where
  pub more : List Term
  pub nodes : new.nodes ≡ old.nodes ++ more
  pub more_links : List Link
  pub links : new.links ≡ old.links ++ more_links

-- a candidate's nodes were added, and this came of its orders
pub record IsTaken (rows : List Production) (hyps : List Hyp) (t : Tree) (ts : List Tree) (formulas : List Id) (formula : Id) (places : List Given)
    (old new : Store) (result : Option (List ℕ)) : Type 0 where
  pub nodes : new.nodes ≡ (roots_of rows old.nodes hyps t ts).nodes
  pub added_store : IsStore (roots_of rows old.nodes hyps t ts).nodes old.links
  pub added_solved : IsSolved (roots_of rows old.nodes hyps t ts).nodes old.links
  pub store : IsStore new.nodes new.links
  pub solved : IsSolved new.nodes new.links
  pub tried : IsTried (roots_of rows old.nodes hyps t ts).nodes old.links new.links formulas places (roots_of rows old.nodes hyps t ts).roots
      (id_of (root_of rows old.nodes hyps t).root) formula result
