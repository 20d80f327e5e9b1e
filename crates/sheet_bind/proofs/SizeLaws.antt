-- The work size of a worksheet, as the definitions say it.
use Rattle.std.specs.Prelude.{◌≡◌, ℕ, ◌+◌, ◌&&◌, Bool, true, false, length, map, sum, nat_lt, nat_le, slice_index_or, Option, Some, None, is_some, option_map, option_and_then, refl}
use Rattle.std.specs.Option.{option_map_or}
use Rattle.std.proofs.Common.{sym, ap, ◌∙◌, cond}
use Rattle.mm_base.specs.declared.kinds.Kinds.{Kinds}
use Rattle.mm_base.specs.declared.symbols.Label.{Label}
use Rattle.mm_model.specs.declared.frames.Frame.{Frame}
use Rattle.mm_model.specs.Names.{Name, label_named}
use Rattle.mm_model.specs.Sizes.{nodes}
use Rattle.mm_model.specs.Book.{Database}
use Rattle.mm_frames.specs.Contents.{frame_at}
use Rattle.mm_database.specs.declared.assertions.Parsed.{Parsed}
use Rattle.mm_database.specs.Books.{parsed_at, usable_with, assertion_of}
use Rattle.mm_database.specs.Opened.{Opened}
use Rattle.solve_model.specs.declared.bound.BoundStep.{BoundStep}
use Rattle.solve_model.specs.declared.verdict.Verdict.TheVariants as verdict
use Rattle.solve_model.specs.Bound.{Standing, settled, candidate, standing_of_reference, standing_of_label, standing_of_frame, standing_usable, standing_size, step_size}
use Rattle.sheet_bind.specs.Shown.{PlaceFacts, shown}
use Rattle.sheet_bind.specs.Sizes.{usable_at, candidate_of, parsed_size, size_at, size_in}

module _ (kinds : Kinds) (facts : PlaceFacts) (d : Opened)
    (has_frame : (l : Label) (p : Parsed) → parsed_at d.parsed l ≡ Some p → (f : Frame) × (frame_at d.contents l ≡ Some f)) (place : ℕ)
    (b : BoundStep) where
  abbrev db : Database
  db = shown kinds facts d

  module _ (l : Label) where
    frame_standing : Option Frame → Option Parsed → Bool → Standing
    frame_standing None q before = settled verdict.UnknownRef
    frame_standing (Some f) q before = cond before (standing_usable b (option_map (assertion_of l f) q)) (settled verdict.NotUsable)

    frame_is : (o : Option Frame) → frame_at d.contents l ≡ o → standing_of_frame db place b l o ≡ frame_standing o (parsed_at d.parsed l) (nat_lt (slice_index_or d.contents.positions l.0 0) place)
    unfolding frame_standing
    frame_is None e = refl
    frame_is (Some f) e = ap (λ (o : Option Frame). cond (nat_lt (slice_index_or d.contents.positions l.0 0) place) (standing_usable b (usable_with d.parsed l o)) (settled verdict.NotUsable)) e

    fits : (t : Bool) (p : Parsed) (f : Frame) → cond t (nodes p.tree + sum (map nodes p.hyps)) 0 ≡ standing_size (cond t (candidate (assertion_of l f p)) (settled verdict.TooManyHyps))
    fits true p f = refl
    fits false p f = refl

    -- by the position, the frame and what is kept
    sizes : (before : Bool) (o : Option Frame) (q : Option Parsed) → ((p : Parsed) → q ≡ Some p → (f : Frame) × (o ≡ Some f))
        → option_map_or (λ (m : Label). parsed_size (length b.places) q) (cond (before && is_some q) (Some l) None) 0 ≡ standing_size (frame_standing o q before)
    unfolding frame_standing
    sizes true None None h = refl
    sizes true None (Some p) h = let bad = (h p refl).1 in absurd (cc)
    sizes true (Some f) None h = refl
    sizes true (Some f) (Some p) h = fits (nat_le (length b.places) (length p.hyps)) p f
    sizes false None q h = refl
    sizes false (Some f) q h = refl

    picked : (t : Bool)
        → option_map_or (λ (m : Label). size_at d m (length b.places)) (cond t (Some l) None) 0
        ≡ option_map_or (λ (m : Label). parsed_size (length b.places) (parsed_at d.parsed l)) (cond t (Some l) None) 0
    picked true = refl
    picked false = refl

    at_label : option_map_or (λ (m : Label). size_at d m (length b.places)) (usable_at d place l) 0 ≡ standing_size (standing_of_frame db place b l (frame_at d.contents l))
    at_label =
        picked (nat_lt (slice_index_or d.contents.positions l.0 0) place && is_some (parsed_at d.parsed l))
        ∙ sizes (nat_lt (slice_index_or d.contents.positions l.0 0) place) (frame_at d.contents l) (parsed_at d.parsed l) (has_frame l)
        ∙ sym (ap standing_size (frame_is (frame_at d.contents l) refl))

  by_name : (o : Option Label) → option_map_or (λ (m : Label). size_at d m (length b.places)) (option_and_then (usable_at d place) o) 0 ≡ standing_size (standing_of_label db place b o)
  by_name None = refl
  by_name (Some l) = at_label l

  by_reference : (o : Option Name) → option_map_or (λ (m : Label). size_at d m (length b.places)) (candidate_of d place o) 0 ≡ standing_size (standing_of_reference db place b o)
  by_reference None = refl
  by_reference (Some r) = by_name (label_named d.contents.labels r)

  by_kind : (t : Bool)
      → option_map_or (λ (m : Label). size_at d m (length b.places)) (cond t None (candidate_of d place b.reference)) 0
      ≡ standing_size (cond t (settled verdict.Hyp) (standing_of_reference db place b b.reference))
  by_kind true = refl
  by_kind false = by_reference b.reference

  pub size_is : size_in d place b ≡ step_size db place b
  size_is = ap (λ (n : ℕ). option_map_or nodes b.tree 1 + n) (by_kind b.hyp)
