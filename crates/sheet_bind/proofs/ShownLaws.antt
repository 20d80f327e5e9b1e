-- What is kept of an opened database is the database of its text.
use Rattle.std.specs.Prelude.{◌≡◌, ℕ, List, length, Some, Option}
use Rattle.std.proofs.Common.{ap, ◌∙◌}
use Rattle.std.proofs.lemmas.List.{length-map}
use mathlib.Core.Path.{fun_ext}
use Rattle.mm_base.specs.declared.kinds.Kinds.{Kinds}
use Rattle.mm_base.specs.declared.symbols.Label.{Label}
use Rattle.mm_model.specs.declared.frames.Frame.{Frame}
use Rattle.mm_model.specs.Frames.{active_at, is_constant_at, place_after, float_codes}
use Rattle.mm_model.specs.Names.{Name}
use Rattle.mm_model.specs.Statements.{statements}
use Rattle.mm_model.specs.Book.{Database}
use Rattle.mm_frames.specs.Contents.{Contents, frame_at}
use Rattle.mm_frames.proofs.Queries.{frame-is}
use Rattle.mm_database.specs.declared.assertions.Parsed.{Parsed}
use Rattle.mm_database.specs.Books.{database_of, parsed_at, usable_with}
use Rattle.mm_database.specs.Opened.{Opened, IsOpened}
use Rattle.solve_model.specs.declared.bound.BoundStep.{BoundStep}
use Rattle.solve_model.specs.Bound.{step_size}
use Rattle.sheet_bind.specs.Shown.{PlaceFacts, shown}
use Rattle.sheet_bind.specs.Sizes.{size_in}
use Rattle.sheet_bind.proofs.SizeLaws.{size_is}

abbrev pub facts_of : List ℕ → PlaceFacts
facts_of text =
    record {
      active_at = active_at (statements text);
      is_constant_at = is_constant_at (statements text);
      place_after = place_after (statements text);
      float_codes = float_codes (statements text);
    }

module _ (kinds : Kinds) (text : List ℕ) (d : Opened) (opened : IsOpened kinds text d) where
  build : List Name → List Name → List ℕ → ℕ → (Label → Option Frame) → Database
  build symbols labels positions count frames = record {
    provable = kinds.provable;
    logic = kinds.logic;
    symbols = symbols;
    labels = labels;
    positions = positions;
    statement_count = count;
    frame = frames;
    active_at = active_at (statements text);
    is_constant_at = is_constant_at (statements text);
    place_after = place_after (statements text);
    float_codes = float_codes (statements text);
    rows = d.rows;
    usable = λ l. usable_with d.parsed l (frames l);
  }

  built : (a b : List Name) (p q : List Name) (m n : List ℕ) (i k : ℕ) (f g : Label → Option Frame) → a ≡ b → p ≡ q → m ≡ n → i ≡ k → f ≡ g → build a p m i f ≡ build b q n k g
  built a b p q m n i k f g e1 e2 e3 e4 e5 =
      ap (λ (x : List Name). build x p m i f) e1 ∙ ap (λ (x : List Name). build b x m i f) e2 ∙ ap (λ (x : List ℕ). build b q x i f) e3 ∙ ap (λ (x : ℕ). build b q n x f) e4
      ∙ ap (λ (x : Label → Option Frame). build b q n k x) e5

  pub shown_is : shown kinds (facts_of text) d ≡ database_of kinds text d.rows d.parsed
  unfolding build
  shown_is =
      let e = opened.contents in
      built _ _ _ _ _ _ _ _ _ _ (ap (λ (c : Contents). c.symbols) e) (ap (λ (c : Contents). c.labels) e) (ap (λ (c : Contents). c.positions) e)
      (ap (λ (c : Contents). length c.entries) e ∙ length-map (statements text) _) (fun_ext (λ l. frame-is d.contents l text e))

  -- an assertion that is kept has a frame
  pub has_frame : (l : Label) (q : Parsed) → parsed_at d.parsed l ≡ Some q → (f : Frame) × (frame_at d.contents l ≡ Some f)
  has_frame l q e = let k = opened.kept l q e in (k.frame, frame-is d.contents l text opened.contents ∙ k.frame_is)

  -- the size of a step
  pub size_in_book : (place : ℕ) (b : BoundStep) → size_in d place b ≡ step_size (database_of kinds text d.rows d.parsed) place b
  size_in_book place b = size_is kinds (facts_of text) d has_frame place b ∙ ap (λ (db : Database). step_size db place b) shown_is
