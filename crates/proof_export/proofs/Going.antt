-- What the steps so far become with the pushes that follow.
use Rattle.std.proofs.Common.{◌≡◌, ℕ, Bool, true, false, suc, ◌||◌, cond, List, [], ◌∷◌, ◌++◌, length, Option, Some, None, option_map, refl, sym, ap, ◌∙◌}
use Rattle.std.specs.Prelude.{codes, is_some}
use Rattle.std.specs.List.{list_any}
use Rattle.std.proofs.lemmas.List.{append_assoc}
use Rattle.mm_model.specs.Names.{Name, first_number}
use Rattle.mm_model.specs.Book.{Database}
use Rattle.proof_model.specs.Machine.{Formula, same_formula}
use Rattle.sheet_text.specs.declared.sheet.Given.{Given}
use Rattle.sheet_text.specs.declared.sheet.SheetItem.{SheetItem}
use Rattle.sheet_text.specs.declared.sheet.SheetItem.TheVariants as item
use Rattle.sheet_text.specs.declared.sheet.SheetStep.{SheetStep}
use Rattle.export_model.specs.Exported.{Push, number_name, push_step, push_steps, step_with}
use Rattle.stack_verify.proofs.Substitutes.{cond_then, cond_else}
use Rattle.proof_export.specs.Leads.{ArePlaces, Ends, Goes, HasFormulas, LeadsTo, items_of, push_with}
use Rattle.proof_export.specs.Places.{key_of, number_at}
use Rattle.proof_export.specs.declared.steps.Steps.{Steps}

-- ---- tests and searches

any_step : (t a : Bool) (o : Option ℕ) → a ≡ is_some o → (t || a) ≡ is_some (cond t (Some 0) (option_map (λ n. suc n) o))
any_step true a o e = refl
any_step false a None e = e
any_step false a (Some k) e = e

-- some item passes where there is a first that does
any_first : {X : Type 0} (p : X → Bool) (xs : List X) → list_any p xs ≡ is_some (first_number p xs)
any_first p [] = refl
any_first p (x ∷ xs) = any_step (p x) (list_any p xs) (first_number p xs) (any_first p xs)

-- ---- what follows

-- nothing is pushed
pub stays : (db : Database) (theorem : Formula) (s : Steps) (ps : List Push) → Goes false db theorem s ps s ps
stays db theorem s ps = record { each = λ fs h. (fs, h, refl) }

module _ (db : Database) (theorem : Formula) (old new : Steps) (label : Name) (taken : List Formula) (f : Formula) (rest : List Push) (places : List Given) (are : ArePlaces old places taken) where
  abbrev p : Push
  p = push_with label taken f

  row : List Formula → Name → List Given → SheetItem
  row fs name gs = item.Step (step_with db false name gs (Some label) f)

  -- the last step
  pub ends_here : same_formula f theorem ≡ true → new.items.items ≡ old.items.items ++ item.Step (step_with db false (codes "qed") places (Some label) f) ∷ []
      → Goes true db theorem old (push_with label taken f ∷ rest) new rest
  ends_here same items = record {
    each = λ fs h.
        ap (λ (l : List SheetStep). old.items.items ++ items_of l) (
        cond_then (same_formula f theorem) (push_step db fs (codes "qed") p ∷ [])
        (cond (list_any (same_formula f) fs) (push_steps db theorem fs rest) (push_step db fs (number_name (length fs)) p ∷ push_steps db theorem (fs ++ f ∷ []) rest)) same)
        ∙ ap (λ (gs : List Given). old.items.items ++ item.Step (step_with db false (codes "qed") gs (Some label) f) ∷ []) (sym (are.each fs h)) ∙ sym items;
  }

  -- a step has the formula
  pub goes_on : same_formula f theorem ≡ false → (k : ℕ) → Some k ≡ number_at old.places.entries (key_of f) → Goes false db theorem old (push_with label taken f ∷ rest) old rest
  goes_on other k there = record {
    each = λ fs h.
        let any : list_any (same_formula f) fs ≡ true = any_first (same_formula f) fs ∙ ap (λ (o : Option ℕ). is_some o) (sym (h.places.each f) ∙ sym there) in (
          fs,
          h,
          ap (λ (l : List SheetStep). old.items.items ++ items_of l) (
              cond_else (same_formula f theorem) (push_step db fs (codes "qed") p ∷ [])
              (cond (list_any (same_formula f) fs) (push_steps db theorem fs rest) (push_step db fs (number_name (length fs)) p ∷ push_steps db theorem (fs ++ f ∷ []) rest)) other
              ∙ cond_then (list_any (same_formula f) fs) (push_steps db theorem fs rest) (push_step db fs (number_name (length fs)) p ∷ push_steps db theorem (fs ++ f ∷ []) rest) any),
        );
  }

  -- no step has it
  pub goes_past : same_formula f theorem ≡ false → None ≡ number_at old.places.entries (key_of f)
      → ((fs : List Formula) → HasFormulas old fs → HasFormulas new (fs ++ f ∷ []))
      → new.items.items ≡ old.items.items ++ item.Step (step_with db false (number_name (length old.items.items)) places (Some label) f) ∷ []
      → Goes false db theorem old (push_with label taken f ∷ rest) new rest
  goes_past other absent has items = record {
    each = λ fs h.
        let none : list_any (same_formula f) fs ≡ false = any_first (same_formula f) fs ∙ ap (λ (o : Option ℕ). is_some o) (sym (h.places.each f) ∙ sym absent) in
        let here : SheetStep = push_step db fs (number_name (length fs)) p in
        let made : SheetStep = step_with db false (number_name (length old.items.items)) places (Some label) f in
        let same : here ≡ made =
        ap (λ (gs : List Given). step_with db false (number_name (length fs)) gs (Some label) f) (sym (are.each fs h))
        ∙ ap (λ (n : ℕ). step_with db false (number_name n) places (Some label) f) (sym h.count) in (
          fs ++ f ∷ [],
          has fs h,
          ap (λ (l : List SheetStep). old.items.items ++ items_of l) (
              cond_else (same_formula f theorem) (push_step db fs (codes "qed") p ∷ [])
              (cond (list_any (same_formula f) fs) (push_steps db theorem fs rest) (here ∷ push_steps db theorem (fs ++ f ∷ []) rest)) other
              ∙ cond_else (list_any (same_formula f) fs) (push_steps db theorem fs rest) (here ∷ push_steps db theorem (fs ++ f ∷ []) rest) none)
              ∙ ap (λ (s : SheetStep). old.items.items ++ item.Step s ∷ items_of (push_steps db theorem (fs ++ f ∷ []) rest)) same
              ∙ sym (append_assoc old.items.items (item.Step made ∷ []) (items_of (push_steps db theorem (fs ++ f ∷ []) rest)))
              ∙ ap (λ (l : List SheetItem). l ++ items_of (push_steps db theorem (fs ++ f ∷ []) rest)) (sym items),
        );
  }

-- ---- one after the other

pub leads_on : (db : Database) (theorem : Formula) (a b c : Steps) (ps qs rs : List Push) → LeadsTo db theorem a ps b qs → LeadsTo db theorem b qs c rs → LeadsTo db theorem a ps c rs
leads_on db theorem a b c ps qs rs one other = record {
  each = λ fs h.
      let first = one.each fs h in
      let second = other.each first.0 first.1 in
      (second.0, second.1, first.2 ∙ second.2);
}

pub leads_to_end : (db : Database) (theorem : Formula) (a b c : Steps) (ps qs : List Push) → LeadsTo db theorem a ps b qs → Ends db theorem b qs c → Ends db theorem a ps c
leads_to_end db theorem a b c ps qs one other = record { each = λ fs h. let first = one.each fs h in first.2 ∙ other.each first.0 first.1 }
