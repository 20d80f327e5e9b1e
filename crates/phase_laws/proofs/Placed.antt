-- The places of a bound worksheet name steps, and can be counted.
use Rattle.std.specs.Prelude.{◌≡◌, ◌+◌, ◌<◌, ◌≤◌, ◌^◌, ℕ, suc, Bool, true, false, List, [], ◌∷◌, length, nat_lt, Some, None, refl}
use Rattle.std.specs.List.{AllByRecursion, AllZip, list_all}
use Rattle.std.proofs.Common.{sym, subst, cond, arith}
use Rattle.std.proofs.lemmas.Bool.{and_parts}
use Rattle.std.proofs.lemmas.Bool.Decides.{nat_tests}
use Rattle.mm_base.specs.Limits.{most_sheet_bytes}
use Rattle.mm_model.specs.Book.{Database}
use Rattle.mm_model.specs.Faults.{fault}
use Rattle.sheet_text.specs.declared.sheet.Given.{Given}
use Rattle.sheet_text.specs.declared.sheet.Given.TheVariants as given
use Rattle.sheet_text.specs.declared.sheet.SheetStep.{SheetStep}
use Rattle.sheet_text.specs.Layout.{steps}
use Rattle.sheet_text.specs.Spellable.{is_place_below, is_step_spellable, are_steps_spellable}
use Rattle.sheet_text.specs.TextFaults.{line_fault}
use Rattle.sheet_laws.proofs.SpellableLaws.{read_is_spellable}
use Rattle.solve_model.specs.declared.bound.BoundStep.{BoundStep}
use Rattle.solve_model.specs.Binding.{place_of}
use Rattle.solve_model.specs.Bound.{IsBoundStep}
use Rattle.written_model.specs.Existence.{IsPlaceIn}
use Rattle.answer_laws.proofs.OneBinding.{zip_length}
use Rattle.writing_laws.proofs.Judging.{places_in}
use Rattle.step_chain.specs.Steps.{IsPlaced}
use Rattle.phase_laws.specs.Places.{BoundIsCounted, SoundIsShort}
use Rattle.phase_laws.proofs.Counts.{FewPlaces, text_few}

spelled_places : (n : ℕ) (t : SheetStep) → is_step_spellable n t ≡ true → list_all (is_place_below n) t.places ≡ true
spelled_places n t h = (and_parts _ _ (and_parts _ _ (and_parts _ _ h).0).0).1

-- the steps from number n on, of m
placed_from : (db : Database) (place k n m : ℕ) (ts : List SheetStep) (bs : List BoundStep) → suc k < 2 ^ 32 → n + length bs ≤ m
    → are_steps_spellable n ts ≡ true → AllByRecursion (FewPlaces k) ts → AllZip (IsBoundStep db place) ts bs → AllByRecursion (IsPlaced m) bs
placed_from db place k n m [] [] small l sp few z = tt
placed_from db place k n m [] (b ∷ bs) small l sp few z = absurd z
placed_from db place k n m (t ∷ ts) [] small l sp few z = tt
placed_from db place k n m (t ∷ ts) (b ∷ bs) small l sp few z =
    let two = and_parts (is_step_spellable n t) (are_steps_spellable (suc n) ts) sp in
    let same = sym z.0.places in
    let count = few.0 in
    let below : n ≤ m = omega (arith, l) in
    let short : length t.places < 2 ^ 32 = omega (arith, count, small) in (
      record {
        places = subst (AllByRecursion (IsPlaceIn m)) same (places_in n m t.places below (spelled_places n t two.0));
        few = subst (λ (gs : List Given). length gs < 2 ^ 32) same short;
      },
      placed_from db place k (suc n) m ts bs small (omega (arith, l)) two.1 few.1 z.1,
    )

pub bound_is_counted : BoundIsCounted
bound_is_counted db text s bound reads short binds =
    let spelled = (read_is_spellable text s reads).each_step in
    let counts = text_few text s reads.says in
    let few = counts.few in
    let count = zip_length (IsBoundStep db (place_of db s)) (steps s) bound.steps binds.steps in
    record {
      placed = placed_from db (place_of db s) (length text) 0 (length bound.steps) (steps s) bound.steps (omega (arith, short)) (omega arith) spelled counts.places binds.steps;
      few = omega (arith, few, count, short);
      count = count;
    }

pub sound_is_short : SoundIsShort
sound_is_short text e = by (nat_lt most_sheet_bytes (length text)) refl e
  where
    by : (b : Bool) → nat_lt most_sheet_bytes (length text) ≡ b → cond b (Some (fault 1 50)) (line_fault text) ≡ None → length text ≤ most_sheet_bytes
    by true is i = absurd cc
    by false is i = grind (arith, nat_tests, is)
