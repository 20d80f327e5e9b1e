-- There is no fault of what is to be written, or a first one.
use Rattle.std.specs.Prelude.{◌≡◌, ◌<◌, ◌≤◌, ◌⊎◌, ℕ, true, List, length, Contains, Option, Some, None, refl}
use Rattle.std.proofs.Common.{arith, inl, inr}
use Rattle.mm_base.specs.Limits.{most_formula_tokens, most_sheet_bytes, most_work_size, most_proof_labels}
use Rattle.mm_model.specs.Book.{Database}
use Rattle.solve_model.specs.Bound.{work_size}
use Rattle.solve_model.specs.Firsts.{IsFirstOrNone, IsFirstIn}
use Rattle.solve_laws.proofs.OneJudgement.{first_or_none_is_one}
use Rattle.written_model.specs.declared.options.Options.{Options}
use Rattle.written_model.specs.declared.options.ProofStyle.{ProofStyle}
use Rattle.written_model.specs.declared.options.ProofStyle.TheVariants as style
use Rattle.written_model.specs.WrittenSteps.{WrittenStep, steps_in}
use Rattle.fault_lines.specs.Refusals.{Refusal}
use Rattle.written_model.specs.Written.{Writing, step_tokens, IsTooLong, IsAmbiguous, written_bound, label_count, written_text, LateFault, IsLate, HasNoLateFault}
use Rattle.writing_laws.specs.Decisions.{Decided}
use Rattle.writing_laws.specs.HasLate.{LongIsLate}
use Rattle.writing_laws.proofs.Decide.{both_decided, bool_decided, less_decided, first_or_none, first_in}

style_decided : (s : ProofStyle) → Decided (s ≡ style.Normal)
style_decided style.Normal = inl refl
style_decided style.Compressed = inr (λ e. cc)

none_first : {X : Type 0} (P : X → Type 0) (xs : List X) → IsFirstOrNone P xs None → (x : X) → IsFirstIn P xs x → ⊥
none_first P xs h x k = let same : None ≡ Some x = first_or_none_is_one P xs None (Some x) h k in cc

module _ (db : Database) (options : Options) (w : Writing) where
  abbrev pub es : List WrittenStep
  es = steps_in w.items

  abbrev NoLong : Type 0
  NoLong = (e : WrittenStep) → IsFirstIn (IsTooLong db options w) es e → ⊥

  abbrev NoAmbiguous : Type 0
  NoAmbiguous = (e : WrittenStep) → IsFirstIn (IsAmbiguous db options w) es e → ⊥

  abbrev IsMuch : Type 0
  IsMuch = most_work_size < work_size db (written_bound db options w)

  abbrev HasLongProof : Type 0
  HasLongProof = (w.finished ≡ true) × ((options.style ≡ style.Normal) × (most_proof_labels < label_count db options w))

  abbrev IsLarge : Type 0
  IsLarge = most_sheet_bytes < length (written_text db options w)

  -- of each written formula it is decided whether it has two trees
  abbrev pub TreesAreDecided : Type 0
  TreesAreDecided = (e : WrittenStep) → Contains es e → Decided (IsAmbiguous db options w e)

  pub long_late : LongIsLate db options w
  long_late e h = record { rank = 0; stands = LateFault.long e h; is_first = λ k q l. omega arith }

  from_one : NoLong → (k : ℕ) (q : Refusal) → LateFault db options w k q → 1 ≤ k
  from_one a k q (LateFault.long e h) = absurd (a e h)
  from_one a k q (LateFault.ambiguous e h) = omega arith
  from_one a k q (LateFault.much h) = omega arith
  from_one a k q (LateFault.proof f s h) = omega arith
  from_one a k q (LateFault.large h) = omega arith

  from_two : NoLong → NoAmbiguous → (k : ℕ) (q : Refusal) → LateFault db options w k q → 2 ≤ k
  from_two a b k q (LateFault.long e h) = absurd (a e h)
  from_two a b k q (LateFault.ambiguous e h) = absurd (b e h)
  from_two a b k q (LateFault.much h) = omega arith
  from_two a b k q (LateFault.proof f s h) = omega arith
  from_two a b k q (LateFault.large h) = omega arith

  from_three : NoLong → NoAmbiguous → (IsMuch → ⊥) → (k : ℕ) (q : Refusal) → LateFault db options w k q → 3 ≤ k
  from_three a b c k q (LateFault.long e h) = absurd (a e h)
  from_three a b c k q (LateFault.ambiguous e h) = absurd (b e h)
  from_three a b c k q (LateFault.much h) = absurd (c h)
  from_three a b c k q (LateFault.proof f s h) = omega arith
  from_three a b c k q (LateFault.large h) = omega arith

  from_four : NoLong → NoAmbiguous → (IsMuch → ⊥) → (HasLongProof → ⊥) → (k : ℕ) (q : Refusal) → LateFault db options w k q → 4 ≤ k
  from_four a b c d k q (LateFault.long e h) = absurd (a e h)
  from_four a b c d k q (LateFault.ambiguous e h) = absurd (b e h)
  from_four a b c d k q (LateFault.much h) = absurd (c h)
  from_four a b c d k q (LateFault.proof f s h) = absurd (d (f, (s, h)))
  from_four a b c d k q (LateFault.large h) = omega arith

  none_at_all : NoLong → NoAmbiguous → (IsMuch → ⊥) → (HasLongProof → ⊥) → (IsLarge → ⊥) → HasNoLateFault db options w
  none_at_all a b c d l k q (LateFault.long e h) = a e h
  none_at_all a b c d l k q (LateFault.ambiguous e h) = b e h
  none_at_all a b c d l k q (LateFault.much h) = c h
  none_at_all a b c d l k q (LateFault.proof f s h) = d (f, (s, h))
  none_at_all a b c d l k q (LateFault.large h) = l h

  abbrev pub Late : Type 0
  Late = HasNoLateFault db options w ⊎ ((r : Refusal) × IsLate db options w r)

  at_large : NoLong → NoAmbiguous → (IsMuch → ⊥) → (HasLongProof → ⊥) → Decided IsLarge → Late
  at_large a b c d (inl h) = inr (_, record { rank = 4; stands = LateFault.large h; is_first = from_four a b c d })
  at_large a b c d (inr n) = inl (none_at_all a b c d n)

  large_decided : Decided IsLarge
  large_decided = less_decided most_sheet_bytes (length (written_text db options w))

  at_proof : NoLong → NoAmbiguous → (IsMuch → ⊥) → Decided HasLongProof → Late
  at_proof a b c (inl h) = inr (_, record { rank = 3; stands = LateFault.proof h.0 h.1.0 h.1.1; is_first = from_three a b c })
  at_proof a b c (inr n) = at_large a b c n large_decided

  proof_decided : Decided HasLongProof
  proof_decided = both_decided (bool_decided w.finished) (both_decided (style_decided options.style) (less_decided most_proof_labels (label_count db options w)))

  at_much : NoLong → NoAmbiguous → Decided IsMuch → Late
  at_much a b (inl h) = inr (_, record { rank = 2; stands = LateFault.much h; is_first = from_two a b })
  at_much a b (inr n) = at_proof a b n proof_decided

  much_decided : Decided IsMuch
  much_decided = less_decided most_work_size (work_size db (written_bound db options w))

  at_ambiguous : NoLong → (o : Option WrittenStep) → IsFirstOrNone (IsAmbiguous db options w) es o → Late
  at_ambiguous a None h = at_much a (none_first (IsAmbiguous db options w) es h) much_decided
  at_ambiguous a (Some e) h = inr (_, record { rank = 1; stands = LateFault.ambiguous e h; is_first = from_one a })

  at_long : TreesAreDecided → (o : Option WrittenStep) → IsFirstOrNone (IsTooLong db options w) es o → Late
  at_long t None h = let f = first_in (IsAmbiguous db options w) es t in at_ambiguous (none_first (IsTooLong db options w) es h) f.0 f.1
  at_long t (Some e) h = inr (_, long_late e h)

  pub has_late : TreesAreDecided → Late
  has_late t =
      let f = first_or_none (IsTooLong db options w) (λ e. less_decided most_formula_tokens (length (step_tokens db options w e))) es in
      at_long t f.0 f.1
