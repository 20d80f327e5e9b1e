-- The place of a worksheet is one of the database.
use Rattle.std.specs.Prelude.{◌≡◌, ◌≤◌, ℕ, List, length, min}
use Rattle.std.proofs.Common.{arith, subst}
use Rattle.mm_base.specs.declared.kinds.Kinds.{Kinds}
use Rattle.mm_model.specs.Book.{Database}
use Rattle.mm_database.specs.Books.{database_of}
use Rattle.mm_database.specs.Opened.{Opened, IsOpened}
use Rattle.model_laws.specs.FrameLaws.{FramesHaveOwnExpressions}
use Rattle.sheet_bind.proofs.PlaceLaws.{place_within}
use Rattle.sheet_bind.proofs.ShownLaws.{shown_is, facts_of}
use Rattle.sheet_bind.specs.Places.{place_number}
use Rattle.sheet_bind.specs.Seen.{existing_in}
use Rattle.sheet_bind.specs.Shown.{shown}
use Rattle.sheet_text.specs.declared.sheet.Sheet.{Sheet}
use Rattle.solve_model.specs.Binding.{place_of}

at_most : (x n : ℕ) → min x n ≡ x → x ≤ n
at_most x n e = omega (arith, e)

module _ (kinds : Kinds) (text : List ℕ) (d : Opened) (opened : IsOpened kinds text d) (own : FramesHaveOwnExpressions) where
  sheet_within : (s : Sheet) → place_of (shown kinds (facts_of text) d) s ≤ length d.contents.entries
  sheet_within s =
      at_most (place_number text d.contents (existing_in d.contents s.theorem) s.loc) (length d.contents.entries)
      (place_within kinds text d.contents opened.contents opened.no_fault own s.theorem s.loc)

  pub bound_within : (s : Sheet) → place_of (database_of kinds text d.rows d.parsed) s ≤ length d.contents.entries
  bound_within s = subst (λ (db : Database). place_of db s ≤ length d.contents.entries) (shown_is kinds text d opened) (sheet_within s)
