-- Which steps are candidates, and what a judgement says.
use Rattle.std.specs.Prelude.{◌≡◌, ℕ, Bool, true, false, List, length, nat_lt, nat_le, Option, Some, None, refl}
use Rattle.std.specs.List.{AllByRecursion}
use Rattle.std.proofs.Common.{sym, ap, ◌∙◌, cond}
use Rattle.mm_base.specs.declared.symbols.Label.{Label}
use Rattle.mm_model.specs.declared.frames.Frame.{Frame}
use Rattle.mm_model.specs.Names.{Name}
use Rattle.mm_model.specs.Book.{Database, Assertion, label_of, position_of}
use Rattle.solve_model.specs.declared.bound.Bound.{Bound}
use Rattle.solve_model.specs.declared.bound.BoundStep.{BoundStep}
use Rattle.solve_model.specs.declared.verdict.Verdict.{Verdict}
use Rattle.solve_model.specs.declared.verdict.Verdict.TheVariants as verdict
use Rattle.solve_model.specs.Firsts.{IsFirstIn}
use Rattle.solve_model.specs.Bound.{Standing, settled, candidate, has_places_for, standing_usable, standing_of_frame, standing_of_label, standing_of_reference, standing}
use Rattle.solve_model.specs.Solutions.{Asked, orders_of}
use Rattle.solve_model.specs.Verdicts.{Judgement, accepted, stands, asked, FitsIn, IsJudgement}

-- the step rests on a usable assertion before the place, which has a `$e` for each of its places
pub record IsCandidate (db : Database) (place : ℕ) (s : BoundStep) (a : Assertion) : Type 0 where
  pub no_hyp : s.hyp ≡ false
  pub name : Name
  pub reference : s.reference ≡ Some name
  pub label : Label
  pub label_is : label_of db name ≡ Some label
  pub frame : Frame
  pub frame_is : db.frame label ≡ Some frame
  pub earlier : nat_lt (position_of db label) place ≡ true
  pub usable : db.usable label ≡ Some a
  pub has_places : has_places_for s a ≡ true

module _ (db : Database) (place : ℕ) (s : BoundStep) (a : Assertion) where
  settled_is_none : (v : Verdict) → settled v ≡ candidate a → ⊥
  settled_is_none v e = cc

  pub record FromUsable (l : Label) : Type 0 where
    pub usable : db.usable l ≡ Some a
    pub has_places : has_places_for s a ≡ true

  by_places : (c : Assertion) (t : Bool) → has_places_for s c ≡ t → cond t (candidate c) (settled verdict.TooManyHyps) ≡ candidate a → (c ≡ a) × (has_places_for s c ≡ true)
  by_places c true is e = let same : c ≡ a = cc in (same, is)
  by_places c false is e = absurd (settled_is_none verdict.TooManyHyps e)

  by_usable : (o : Option Assertion) → standing_usable s o ≡ candidate a → (o ≡ Some a) × (has_places_for s a ≡ true)
  by_usable None e = absurd (settled_is_none verdict.NotUsable e)
  by_usable (Some c) e = let r = by_places c (has_places_for s c) refl e in (ap (λ x. Some x) r.0, ap (has_places_for s) (sym r.0) ∙ r.1)

  pub record FromLabel (l : Label) : Type 0 where
    pub frame : Frame
    pub frame_is : db.frame l ≡ Some frame
    pub earlier : nat_lt (position_of db l) place ≡ true
    pub usable : db.usable l ≡ Some a
    pub has_places : has_places_for s a ≡ true

  by_earlier : (l : Label) (f : Frame) → db.frame l ≡ Some f → (t : Bool) → nat_lt (position_of db l) place ≡ t
      → cond t (standing_usable s (db.usable l)) (settled verdict.NotUsable) ≡ candidate a → FromLabel l
  by_earlier l f is true t e = let r = by_usable (db.usable l) e in record { frame = f; frame_is = is; earlier = t; usable = r.0; has_places = r.1 }
  by_earlier l f is false t e = absurd (settled_is_none verdict.NotUsable e)

  by_frame : (l : Label) (o : Option Frame) → db.frame l ≡ o → standing_of_frame db place s l o ≡ candidate a → FromLabel l
  by_frame l None is e = absurd (settled_is_none verdict.UnknownRef e)
  by_frame l (Some f) is e = by_earlier l f is (nat_lt (position_of db l) place) refl e

  by_label : (n : Name) (o : Option Label) → label_of db n ≡ o → standing_of_label db place s o ≡ candidate a → (l : Label) × (label_of db n ≡ Some l) × FromLabel l
  by_label n None is e = absurd (settled_is_none verdict.UnknownRef e)
  by_label n (Some l) is e = (l, is, by_frame l (db.frame l) refl e)

  by_reference : s.hyp ≡ false → (o : Option Name) → s.reference ≡ o → standing_of_reference db place s o ≡ candidate a → IsCandidate db place s a
  by_reference h None is e = absurd (settled_is_none verdict.NoRef e)
  by_reference h (Some n) is e =
      let r = by_label n (label_of db n) refl e in
      record { no_hyp = h; name = n; reference = is; label = r.0; label_is = r.1; frame = r.2.frame; frame_is = r.2.frame_is; earlier = r.2.earlier; usable = r.2.usable; has_places = r.2.has_places }

  by_hyp : (t : Bool) → s.hyp ≡ t → cond t (settled verdict.Hyp) (standing_of_reference db place s s.reference) ≡ candidate a → IsCandidate db place s a
  by_hyp true is e = absurd (settled_is_none verdict.Hyp e)
  by_hyp false is e = by_reference is s.reference refl e

  pub candidate_from : standing db place s ≡ candidate a → IsCandidate db place s a
  candidate_from e = by_hyp s.hyp refl e

  pub candidate_standing : IsCandidate db place s a → standing db place s ≡ candidate a
  candidate_standing h = rw (h.no_hyp, h.reference, h.label_is, h.frame_is, h.earlier, h.usable, h.has_places) refl

-- what is asked of the reference and the number of places alone
module _ (db : Database) (place : ℕ) (s t : BoundStep) (hyp : s.hyp ≡ t.hyp) (reference : s.reference ≡ t.reference) (count : length s.places ≡ length t.places) where
  same_usable : (o : Option Assertion) → standing_usable s o ≡ standing_usable t o
  same_usable None = refl
  same_usable (Some a) = ap (λ (n : ℕ). cond (nat_le n (length a.hyps)) (candidate a) (settled verdict.TooManyHyps)) count

  same_frame : (l : Label) (o : Option Frame) → standing_of_frame db place s l o ≡ standing_of_frame db place t l o
  same_frame l None = refl
  same_frame l (Some f) = ap (λ x. cond (nat_lt (position_of db l) place) x (settled verdict.NotUsable)) (same_usable (db.usable l))

  same_label : (o : Option Label) → standing_of_label db place s o ≡ standing_of_label db place t o
  same_label None = refl
  same_label (Some l) = same_frame l (db.frame l)

  same_reference : (o : Option Name) → standing_of_reference db place s o ≡ standing_of_reference db place t o
  same_reference None = refl
  same_reference (Some n) = same_label (label_of db n)

  pub same_standing : standing db place s ≡ standing db place t
  same_standing =
      ap (λ b. cond b (settled verdict.Hyp) (standing_of_reference db place s s.reference)) hyp
      ∙ ap (λ x. cond t.hyp (settled verdict.Hyp) x) (ap (standing_of_reference db place s) reference ∙ same_reference t.reference)

-- what a judgement says
module _ (db : Database) (bound : Bound) (before : List Asked) (i : ℕ) (s : BoundStep) where
  abbrev pub Told : Standing → Judgement → Type 0
  Told (settled v) (stands u) = u ≡ v
  Told (settled v) (accepted x) = ⊥
  Told (candidate a) (stands u) = (u ≡ verdict.NoFit) × AllByRecursion (λ places. FitsIn db bound before i a places → ⊥) (orders_of s a)
  Told (candidate a) (accepted x) = (x ≡ asked i a x.places) × IsFirstIn (FitsIn db bound before i a) (orders_of s a) x.places

  pub told : (st : Standing) (o : Judgement) → IsJudgement db bound before i s st o → Told st o
  told (settled v) o IsJudgement.other = refl
  told (candidate a) o (IsJudgement.fits f) = (refl, f)
  told (candidate a) o (IsJudgement.no_fit f) = (refl, f)
