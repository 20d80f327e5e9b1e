-- What is handed on at the opening of a database, as facts of its text.
use Rattle.std.proofs.Common.{◌≡◌, ◌<◌, ◌≤◌, ◌^◌, ◌-◌, ℕ, List, Option, length, sym, ap, ◌∙◌, subst, arith}
use Rattle.mm_base.specs.declared.kinds.Kinds.{Kinds}
use Rattle.mm_model.specs.declared.frames.Frame.{Frame}
use Rattle.mm_model.specs.declared.rows.Production.{Production}
use Rattle.mm_model.specs.BookFacts.{Rise}
use Rattle.mm_model.specs.Statements.{statements, labels}
use Rattle.mm_model.specs.Frames.{symbols, positions}
use Rattle.frame_lists.specs.Entries.{entry_in}
use Rattle.frame_lists.specs.Listings.{constant_places, frames_of}
use Rattle.mm_frames.specs.Contents.{Contents, contents_of}
use Rattle.mm_database.specs.declared.assertions.Parsed.{Parsed}
use Rattle.mm_database.specs.declared.formulas.KindCodes.{KindCodes}
use Rattle.mm_database.specs.Assertions.{AreParsed}
use Rattle.mm_database.specs.Books.{kinds_in}
use Rattle.mm_database.specs.Opened.{HasPositions}
use Rattle.mm_database.proofs.Typed.{length_map}

module _ (text : List ℕ) (held : Contents) (is : held ≡ contents_of text) where
  pub few_statements : length held.entries < 2 ^ 32 → length (statements text) ≤ 2 ^ 32 - 1
  few_statements few =
      let count = ap (λ (f : Contents). length f.entries) is ∙ length_map (entry_in (symbols (statements text))) (statements text) in
      omega (arith, count, few)

  pub has_positions : (length (positions (statements text)) ≡ length (labels (statements text))) × Rise (positions (statements text)) → HasPositions held
  has_positions h = subst HasPositions (sym is) (record { count = h.0; rise = h.1 })

  pub are_parsed : (kinds : Kinds) (rows : List Production) (parsed : List (Option Parsed)) → AreParsed (kinds_in held.symbols kinds) rows held.constants held.frames parsed
      → AreParsed (kinds_in (symbols (statements text)) kinds) rows (constant_places (statements text)) (frames_of (statements text)) parsed
  are_parsed kinds rows parsed are = subst (λ (h : Contents). AreParsed (kinds_in h.symbols kinds) rows h.constants h.frames parsed) is are

-- what was handed on is what is held
pub parsed_as_held : (held : Contents) (kinds : Kinds) (rows : List Production) (parsed : List (Option Parsed)) (codes : KindCodes) (constants : List ℕ) (frames : List (Option Frame))
    → codes ≡ kinds_in held.symbols kinds → constants ≡ held.constants → frames ≡ held.frames
    → AreParsed codes rows constants frames parsed → AreParsed (kinds_in held.symbols kinds) rows held.constants held.frames parsed
parsed_as_held held kinds rows parsed codes constants frames k n f are =
    let one = subst (λ (x : KindCodes). AreParsed x rows constants frames parsed) k are in
    let two = subst (λ (ns : List ℕ). AreParsed (kinds_in held.symbols kinds) rows ns frames parsed) n one in
    subst (λ (fs : List (Option Frame)). AreParsed (kinds_in held.symbols kinds) rows held.constants fs parsed) f two
