-- What stands of a step by what is kept is what the definitions say.
use Rattle.std.specs.Prelude.{◌≡◌, ℕ, ◌<◌, ◌≤◌, Bool, true, false, List, length, nat_lt, nat_le, slice_index_or, Option, Some, None, option_map, refl}
use Rattle.std.proofs.Common.{sym, ap, subst, ◌∙◌, arith, cond}
use Rattle.std.proofs.lemmas.Bool.Decides.{nat_tests}
use Rattle.mm_base.specs.declared.symbols.Label.{Label}
use Rattle.mm_base.specs.declared.kinds.Kinds.{Kinds}
use Rattle.mm_model.specs.declared.frames.Frame.{Frame}
use Rattle.mm_model.specs.Names.{Name, label_named}
use Rattle.mm_model.specs.Book.{Database, Assertion, position_of}
use Rattle.mm_frames.specs.Contents.{frame_at, Contents}
use Rattle.mm_frames.proofs.Queries.{frame-is}
use Rattle.mm_database.specs.declared.assertions.Parsed.{Parsed}
use Rattle.mm_database.specs.Books.{parsed_at, assertion_of, usable_with, database_of}
use Rattle.mm_database.specs.Opened.{Opened, IsOpened}
use Rattle.solve_model.specs.declared.bound.BoundStep.{BoundStep}
use Rattle.solve_model.specs.declared.verdict.Verdict.TheVariants as verdict
use Rattle.solve_model.specs.Bound.{settled, candidate, standing, standing_usable, standing_of_frame, standing_of_label, standing_of_reference, has_places_for}
use Rattle.solve_model.specs.Bound as spec
use Rattle.step_chain.specs.declared.standing.Standing.{Standing}
use Rattle.step_chain.specs.declared.standing.Standing.TheVariants.{Settled, Candidate}
use Rattle.step_chain.specs.Standings.{standing_at_usable, standing_at_frame, standing_at_label, standing_at_name, standing_at_reference, standing_in, usable_in, IsBookOf, IsStandingOf}

-- an opened database is that of what is kept
pub book_of : (kinds : Kinds) (text : List ℕ) (d : Opened) → IsOpened kinds text d → IsBookOf (database_of kinds text d.rows d.parsed) d
book_of kinds text d opened =
    let e = opened.contents in
    record {
      labels = ap (λ (c : Contents). c.labels) (sym e);
      positions = ap (λ (c : Contents). c.positions) (sym e);
      frames = λ l. sym (frame-is d.contents l text e);
      usable = λ l. ap (usable_with d.parsed l) (sym (frame-is d.contents l text e));
      rows = refl;
    }

module _ (db : Database) (d : Opened) (place : ℕ) (s : BoundStep) (book : IsBookOf db d) where
  -- what the definitions answer, and what is answered here
  abbrev IsSame : spec.Standing → Standing → Type 0
  IsSame r (Settled v) = r ≡ settled v
  IsSame r (Candidate l) = (a : Assertion) × (usable_in d l ≡ Some a) × (a.label ≡ l) × (r ≡ candidate a) × (position_of db l < place) × (length s.places ≤ length a.hyps)

  module _ (l : Label) where
    module _ (f : Frame) (frame : frame_at d.contents l ≡ Some f) (before : position_of db l < place) where
      by_room : (p : Parsed) → parsed_at d.parsed l ≡ Some p → (b : Bool) → nat_lt (length p.hyps) (length s.places) ≡ b
          → IsSame (standing_usable s (Some (assertion_of l f p))) (cond b (Settled verdict.TooManyHyps) (Candidate l))
      by_room p kept true e =
          let few : nat_le (length s.places) (length p.hyps) ≡ false = grind (arith, nat_tests, e) in
          ap (λ (b : Bool). cond b (candidate (assertion_of l f p)) (settled verdict.TooManyHyps)) few
      by_room p kept false e =
          let room : nat_le (length s.places) (length p.hyps) ≡ true = grind (arith, nat_tests, e) in (
            assertion_of l f p,
            ap (usable_with d.parsed l) frame ∙ ap (option_map (assertion_of l f)) kept,
            refl,
            ap (λ (b : Bool). cond b (candidate (assertion_of l f p)) (settled verdict.TooManyHyps)) room,
            before,
            grind (arith, nat_tests, e),
          )

      by_parsed : (o : Option Parsed) → parsed_at d.parsed l ≡ o → IsSame (standing_usable s (option_map (assertion_of l f) o)) (standing_at_usable s l o)
      by_parsed None e = refl
      by_parsed (Some p) e = by_room p e (nat_lt (length p.hyps) (length s.places)) refl

      usable_same : db.usable l ≡ option_map (assertion_of l f) (parsed_at d.parsed l)
      usable_same = book.usable l ∙ ap (usable_with d.parsed l) frame

      at_before : IsSame (standing_usable s (db.usable l)) (standing_at_usable s l (parsed_at d.parsed l))
      at_before = subst (λ o. IsSame (standing_usable s o) (standing_at_usable s l (parsed_at d.parsed l))) (sym usable_same) (by_parsed (parsed_at d.parsed l) refl)

    position_same : position_of db l ≡ slice_index_or d.contents.positions l.0 0
    position_same = ap (λ (ps : List ℕ). slice_index_or ps l.0 0) book.positions

    by_place : (f : Frame) → frame_at d.contents l ≡ Some f → (b : Bool) → nat_lt (position_of db l) place ≡ b
        → IsSame (cond b (standing_usable s (db.usable l)) (settled verdict.NotUsable)) (cond b (standing_at_usable s l (parsed_at d.parsed l)) (Settled verdict.NotUsable))
    by_place f frame true e = at_before f frame (grind (arith, nat_tests, e))
    by_place f frame false e = refl

    by_frame : (o : Option Frame) → frame_at d.contents l ≡ o → IsSame (standing_of_frame db place s l o) (standing_at_frame d place s l o)
    by_frame None e = refl
    by_frame (Some f) e =
        subst (λ (k : ℕ). IsSame (standing_of_frame db place s l (Some f)) (cond (nat_lt k place) (standing_at_usable s l (parsed_at d.parsed l)) (Settled verdict.NotUsable))) position_same
        (by_place f e (nat_lt (position_of db l) place) refl)

    by_label : IsSame (standing_of_label db place s (Some l)) (standing_at_label d place s l)
    by_label = subst (λ o. IsSame (standing_of_frame db place s l o) (standing_at_label d place s l)) (sym (book.frames l)) (by_frame (frame_at d.contents l) refl)

  by_name : (o : Option Label) → IsSame (standing_of_label db place s o) (standing_at_name d place s o)
  by_name None = refl
  by_name (Some l) = by_label l

  by_reference : (o : Option Name) → IsSame (standing_of_reference db place s o) (standing_at_reference d place s o)
  by_reference None = refl
  by_reference (Some r) =
      subst
      (λ (names : List Name). IsSame (standing_of_label db place s (label_named names r))
      (standing_at_name d place s (label_named d.contents.labels r)))
      (sym book.labels) (by_name (label_named d.contents.labels r))

  by_kind : (b : Bool) → IsSame (cond b (settled verdict.Hyp) (standing_of_reference db place s s.reference)) (cond b (Settled verdict.Hyp) (standing_at_reference d place s s.reference))
  by_kind true = refl
  by_kind false = by_reference s.reference

  named : (r : Standing) → IsSame (standing db place s) r → IsStandingOf db d place s r
  named (Settled v) h = h
  named (Candidate l) h = record { assertion = h.0; usable = h.1; label = h.2; standing = h.3; before = h.4; room = h.5 }

  pub standing_same : IsStandingOf db d place s (standing_in d place s)
  standing_same = named (standing_in d place s) (by_kind s.hyp)
