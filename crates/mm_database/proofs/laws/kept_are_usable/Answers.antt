use Rattle.std.proofs.Common.{◌≡◌, ℕ, List, Option, Some, None, option_map, refl, ap, ◌∙◌, sym as turned}
use Rattle.mm_base.specs.declared.symbols.Label.{Label}
use Rattle.mm_base.specs.declared.kinds.Kinds.{Kinds}
use Rattle.mm_model.specs.declared.frames.Frame.{Frame}
use Rattle.mm_model.specs.Statements.{statements}
use Rattle.mm_model.specs.Frames.{frame_of}
use Rattle.mm_model.specs.Book.{Assertion, IsUsable}
use Rattle.mm_database.specs.declared.assertions.Parsed.{Parsed}
use Rattle.mm_database.specs.Books.{parsed_at, assertion_of, usable_with, database_of}
use Rattle.mm_database.specs.Opened.{Opened, IsOpened}
use Rattle.mm_database.specs.Kept.{IsOfAssertion}
use Rattle.mm_database.proofs.laws.kept_are_usable.Goals as goal

-- nothing is usable where nothing is kept
nothing : (parsed : List (Option Parsed)) (l : Label) (f : Option Frame) → parsed_at parsed l ≡ None → usable_with parsed l f ≡ None
nothing parsed l None e = refl
nothing parsed l (Some f) e = ap (option_map (assertion_of l f)) e

module _ (kinds : Kinds) (text : List ℕ) (d : Opened) (o : IsOpened kinds text d) (l : Label) where
  kept : (p : Parsed) → parsed_at d.parsed l ≡ Some p → (a : Assertion) × IsUsable (database_of kinds text d.rows d.parsed) l a × IsOfAssertion p a
  kept p e =
      let k = o.kept l p e in
      let is : usable_with d.parsed l (frame_of (statements text) l) ≡ Some (assertion_of l k.frame p) =
      ap (usable_with d.parsed l) k.frame_is ∙ ap (option_map (assertion_of l k.frame)) e in
      (assertion_of l k.frame p, o.database.usable_is l (assertion_of l k.frame p) is, record { tree = refl; hyps = refl; vars = k.vars })

  none : (a : Assertion) → parsed_at d.parsed l ≡ None → IsUsable (database_of kinds text d.rows d.parsed) l a → ⊥
  none a e u =
      let is : None ≡ Some a = turned (nothing d.parsed l (frame_of (statements text) l) e) ∙ o.database.usable_all l a u in
      absurd cc

pub returns : goal.returns
returns c = λ kinds text d o l. record { kept = kept kinds text d o l; none = none kinds text d o l }
