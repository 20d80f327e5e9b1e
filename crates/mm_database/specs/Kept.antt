-- What is kept of a label, as the usable assertion of the definitions.
use Rattle.std.specs.Prelude.{ℕ, ◌≡◌, List, map, Some, None}
use Rattle.mm_base.specs.declared.kinds.Kinds.{Kinds}
use Rattle.mm_base.specs.declared.symbols.Label.{Label}
use Rattle.mm_model.specs.Productions.{TypedVariable}
use Rattle.mm_model.specs.Book.{Assertion, IsUsable}
use Rattle.mm_database.specs.declared.assertions.Parsed.{Parsed}
use Rattle.mm_database.specs.Books.{parsed_at, database_of}
use Rattle.mm_database.specs.Opened.{Opened, IsOpened}

-- these are the assertion's trees and its variables
pub record IsOfAssertion (p : Parsed) (a : Assertion) : Type 0 where
  pub tree : p.tree ≡ a.tree
  pub hyps : p.hyps ≡ a.hyps
  pub vars : p.vars ≡ map (λ (v : TypedVariable). v.sym) a.vars

-- what is kept of a label is of its usable assertion, and there is none where nothing is kept
pub record IsOfUsable (kinds : Kinds) (text : List ℕ) (d : Opened) (l : Label) : Type 0 where
  pub kept : (p : Parsed) → parsed_at d.parsed l ≡ Some p → (a : Assertion) × IsUsable (database_of kinds text d.rows d.parsed) l a × IsOfAssertion p a
  pub none : (a : Assertion) → parsed_at d.parsed l ≡ None → IsUsable (database_of kinds text d.rows d.parsed) l a → ⊥

abbrev pub KeptAreUsable : Type 0
KeptAreUsable = (kinds : Kinds) (text : List ℕ) (d : Opened) → IsOpened kinds text d → (l : Label) → IsOfUsable kinds text d l
