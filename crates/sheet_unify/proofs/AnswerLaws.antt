-- What was read, bound, solved, filled, named and searched is what the worksheet becomes, and its first late fault is its answer.
use Rattle.std.specs.Prelude.{◌≡◌, ◌<◌, ◌≤◌, ◌↔◌, ℕ, true, IsTrue, List, [], ◌∷◌, length, Contains, Some, None, refl}
use Rattle.std.specs.List.{AllZip}
use Rattle.std.proofs.Common.{◌+◌, arith, inl, inr, add-one}
use Rattle.mm_base.specs.Limits.{most_sheet_bytes, most_work_size, most_proof_labels}
use Rattle.mm_model.specs.Book.{Database}
use Rattle.fault_lines.specs.Refusals.{Refusal, written_two_trees, too_much_written, proof_too_long, too_large, told_number}
use Rattle.solve_model.specs.Bound.{work_size}
use Rattle.solve_model.specs.Firsts.{IsFirstIn}
use Rattle.written_model.specs.declared.options.Options.{Options}
use Rattle.written_model.specs.declared.options.ProofStyle.TheVariants as style
use Rattle.written_model.specs.WrittenSteps.{WrittenStep, steps_in, trees}
use Rattle.written_model.specs.Named.{IsNaming}
use Rattle.written_model.specs.ProofTrees.{Finished}
use Rattle.written_model.specs.Written.{Writing, Writes, ItemIsSearched, after_filling, after_naming, IsTooLong, IsAmbiguous, written_bound}
use Rattle.written_model.specs.Written.{written_text, label_count, LateFault, IsLate, HasNoLateFault}
use Rattle.writing_laws.specs.HasWriting.{IsSolved}

-- ---- what the worksheet becomes

pub made_writes : (db : Database) (text : List ℕ) (options : Options) (w : Writing) → IsSolved db text w.read w.bound w.judgements w.value
    → IsNaming db w.bound (trees (steps_in (after_filling db options w))) w.names → AllZip (ItemIsSearched db options w) (after_naming db options w) w.items
    → (IsTrue w.finished ↔ Finished options.dv w.bound.pairs (steps_in w.items)) → Writes db text options w
made_writes db text options w solved naming searched finished = record {
  reads = solved.reads;
  binds = solved.binds;
  within_limit = solved.within_limit;
  judged = solved.judged;
  most_general = solved.most_general;
  naming = naming;
  searched = searched;
  finished = finished;
}

-- ---- late faults, each by its test

first_stands : {X : Type 0} (P : X → Type 0) (xs : List X) (x : X) → ((y : X) → Contains xs y → P y → ⊥) → IsFirstIn P xs x → ⊥
first_stands P [] x none h = let impossible : Some x ≡ None = h in cc
first_stands P (y ∷ ys) x none (inl h) = none y (0, omega arith, refl) h.1
first_stands P (y ∷ ys) x none (inr h) = first_stands P ys x (λ z c p. none z (suc_of z c) p) h.1
  where
    suc_of : (z : _) → Contains ys z → Contains (y ∷ ys) z
    suc_of z (k, l, e) = (k + 1, omega (arith, l), rw add-one e)

module _ (db : Database) (options : Options) (w : Writing) where
  abbrev es : List WrittenStep
  es = steps_in w.items

  abbrev NoLong : Type 0
  NoLong = (e : WrittenStep) → Contains es e → IsTooLong db options w e → ⊥

  abbrev NoAmbiguous : Type 0
  NoAmbiguous = (e : WrittenStep) → Contains es e → IsAmbiguous db options w e → ⊥

  abbrev IsMuch : Type 0
  IsMuch = most_work_size < work_size db (written_bound db options w)

  abbrev HasLongProof : Type 0
  HasLongProof = (w.finished ≡ true) × (options.style ≡ style.Normal) × (most_proof_labels < label_count db options w)

  abbrev IsLarge : Type 0
  IsLarge = most_sheet_bytes < length (written_text db options w)

  pub ambiguous_late : NoLong → (e : WrittenStep) → IsFirstIn (IsAmbiguous db options w) es e → IsLate db options w (written_two_trees e.name)
  ambiguous_late a e h = record { rank = 1; stands = LateFault.ambiguous e h; is_first = later }
    where
      later : (k : ℕ) (q : Refusal) → LateFault db options w k q → 1 ≤ k
      later k q (LateFault.long e h) = absurd (first_stands (IsTooLong db options w) es e a h)
      later k q (LateFault.ambiguous e h) = omega arith
      later k q (LateFault.much h) = omega arith
      later k q (LateFault.proof f s h) = omega arith
      later k q (LateFault.large h) = omega arith

  pub much_late : NoLong → NoAmbiguous → IsMuch → IsLate db options w (too_much_written (told_number (work_size db (written_bound db options w))))
  much_late a b m = record { rank = 2; stands = LateFault.much m; is_first = later }
    where
      later : (k : ℕ) (q : Refusal) → LateFault db options w k q → 2 ≤ k
      later k q (LateFault.long e h) = absurd (first_stands (IsTooLong db options w) es e a h)
      later k q (LateFault.ambiguous e h) = absurd (first_stands (IsAmbiguous db options w) es e b h)
      later k q (LateFault.much h) = omega arith
      later k q (LateFault.proof f s h) = omega arith
      later k q (LateFault.large h) = omega arith

  pub proof_late : NoLong → NoAmbiguous → (IsMuch → ⊥) → HasLongProof → IsLate db options w (proof_too_long (told_number (label_count db options w)))
  proof_late a b c p = record { rank = 3; stands = LateFault.proof p.0 p.1 p.2; is_first = later }
    where
      later : (k : ℕ) (q : Refusal) → LateFault db options w k q → 3 ≤ k
      later k q (LateFault.long e h) = absurd (first_stands (IsTooLong db options w) es e a h)
      later k q (LateFault.ambiguous e h) = absurd (first_stands (IsAmbiguous db options w) es e b h)
      later k q (LateFault.much h) = absurd (c h)
      later k q (LateFault.proof f s h) = omega arith
      later k q (LateFault.large h) = omega arith

  pub large_late : NoLong → NoAmbiguous → (IsMuch → ⊥) → (HasLongProof → ⊥) → IsLarge → IsLate db options w (too_large (told_number (length (written_text db options w))))
  large_late a b c d g = record { rank = 4; stands = LateFault.large g; is_first = later }
    where
      later : (k : ℕ) (q : Refusal) → LateFault db options w k q → 4 ≤ k
      later k q (LateFault.long e h) = absurd (first_stands (IsTooLong db options w) es e a h)
      later k q (LateFault.ambiguous e h) = absurd (first_stands (IsAmbiguous db options w) es e b h)
      later k q (LateFault.much h) = absurd (c h)
      later k q (LateFault.proof f s h) = absurd (d (f, s, h))
      later k q (LateFault.large h) = omega arith

  pub none_late : NoLong → NoAmbiguous → (IsMuch → ⊥) → (HasLongProof → ⊥) → (IsLarge → ⊥) → HasNoLateFault db options w
  none_late a b c d g k q (LateFault.long e h) = first_stands (IsTooLong db options w) es e a h
  none_late a b c d g k q (LateFault.ambiguous e h) = first_stands (IsAmbiguous db options w) es e b h
  none_late a b c d g k q (LateFault.much h) = c h
  none_late a b c d g k q (LateFault.proof f s h) = d (f, s, h)
  none_late a b c d g k q (LateFault.large h) = g h
