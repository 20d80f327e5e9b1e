-- The place of a new theorem is one of the text, where no block is open.
use Rattle.std.specs.Prelude.{◌≡◌, ◌≤◌, ◌<◌, ◌⊎◌, ◌+◌, ◌-◌, ℕ, zero, suc, Bool, true, false, not, List, [], ◌∷◌, length, reverse, find, unwrap_or, Option, Some, None, option_and_then, refl}
use Rattle.std.specs.List.{range_with_len}
use Rattle.std.specs.Option.{option_map_or}
use Rattle.std.proofs.Common.{sym, ap, subst, ◌∙◌, cond, arith, inl, inr}
use Rattle.std.proofs.lemmas.Bool.{cases_Bool, cases_lt}
use Rattle.std.proofs.lemmas.List.{take_all, reverse-reverse}
use Rattle.mm_base.specs.declared.symbols.Label.{Label}
use Rattle.mm_base.specs.declared.kinds.Kinds.{Kinds}
use Rattle.mm_model.specs.declared.frames.Frame.{Frame}
use Rattle.mm_model.specs.Faults.{fault}
use Rattle.mm_model.specs.Tokens.{tokens}
use Rattle.mm_model.specs.Words.{Word}
use Rattle.mm_model.specs.Statements.{Statement, statements, path, is_empty, ended, unended, end_fault, statement_fault}
use Rattle.mm_model.specs.Frames.{below, position_of, place_after}
use Rattle.mm_model.specs.Book.{Database, IsDatabaseOf, label_of}
use Rattle.sheet_text.specs.declared.sheet.Sheet.{Sheet}
use Rattle.solve_model.specs.Binding.{existing, place_of, new_place}
use Rattle.model_laws.proofs.Checked.{or_else_none}

-- ---- numbers that pass

found_in : (p : ℕ → Bool) (a n k : ℕ) → find p (range_with_len a n) ≡ Some k → (p k ≡ true) × (k < a + n)
found_in p a zero k e = absurd cc
found_in p a (suc n) k e = elim (cases_Bool (p a)) [
  | inl d ↦ let same : a ≡ k = (let one : Some a ≡ Some k = subst (λ (b : Bool). cond b (Some a) (find p (range_with_len (a + 1) n)) ≡ Some k) d e in cc) in
      (ap p (sym same) ∙ d, omega (arith, same))
  | inr d ↦
      let rest : find p (range_with_len (a + 1) n) ≡ Some k = subst (λ (b : Bool). cond b (Some a) (find p (range_with_len (a + 1) n)) ≡ Some k) d e in
      let r = found_in p (a + 1) n k rest in
      let less = r.1 in
      (r.0, omega (arith, less))
]

empty_path : (ps : List ℕ) → is_empty ps ≡ true → ps ≡ []
empty_path [] e = refl
empty_path (p ∷ ps) e = absurd cc

-- a place of these statements, where no block is open
pub record IsOutsidePlace (ss : List Statement) (place : ℕ) : Type 0 where
  pub within : place ≤ length ss
  pub outside : path (below ss place) ≡ []

-- ---- the end

no_end_fault : (len : ℕ) (before : List Word) → end_fault len before ≡ None → path (ended before) ≡ []
no_end_fault len before e = go (is_empty (unended before)) (is_empty (path (ended before))) refl e
  where
    go : (a b : Bool) → is_empty (path (ended before)) ≡ b → cond (not a) (Some (fault len 21)) (cond (not b) (Some (fault len 22)) None) ≡ None → path (ended before) ≡ []
    go true true i j = empty_path (path (ended before)) i
    go true false i j = absurd cc
    go false b i j = absurd cc

end_outside : (text : List ℕ) → statement_fault text ≡ None → IsOutsidePlace (statements text) (length (statements text))
end_outside text sound =
    let ends = (or_else_none _ (end_fault (length text) (reverse (tokens text))) sound).1 in
    let shut = no_end_fault (length text) (reverse (tokens text)) ends in
    let whole : below (statements text) (length (statements text)) ≡ ended (reverse (tokens text)) =
    ap (λ xs. reverse xs) (take_all (length (statements text)) (statements text) (omega arith)) ∙ reverse-reverse (ended (reverse (tokens text))) in
    record { within = omega arith; outside = ap path whole ∙ shut }

-- ---- behind a label

module _ (text : List ℕ) (sound : statement_fault text ≡ None) where
  abbrev ss : List Statement
  ss = statements text

  found_outside : (at : ℕ) (o : Option ℕ) → find (λ p. is_empty (path (below ss p))) (range_with_len (suc at) (length ss - at)) ≡ o → IsOutsidePlace ss (unwrap_or o (length ss))
  found_outside at None e = end_outside text sound
  found_outside at (Some k) e =
      let r = found_in (λ p. is_empty (path (below ss p))) (suc at) (length ss - at) k e in
      let less = r.1 in
      record { within = within (cases_lt at (length ss)) less; outside = empty_path (path (below ss k)) r.0 }
    where
      within : (at < length ss) ⊎ (length ss ≤ at) → k < suc at + (length ss - at) → k ≤ length ss
      within (inl l) h = omega (arith, l, h)
      within (inr l) h =
          let none : length ss - at ≡ 0 = omega (arith, l) in
          let bad : ⊥ = nothing (length ss - at) none e in
          absurd bad
        where
          nothing : (n : ℕ) → n ≡ 0 → find (λ p. is_empty (path (below ss p))) (range_with_len (suc at) n) ≡ Some k → ⊥
          nothing zero i j = cc
          nothing (suc n) i j = absurd cc

  after_outside : (l : Label) → IsOutsidePlace ss (place_after ss l)
  after_outside l = found_outside (position_of ss l) (find (λ p. is_empty (path (below ss p))) (range_with_len (suc (position_of ss l)) (length ss - position_of ss l))) refl

  new_outside : (kinds : Kinds) (db : Database) → IsDatabaseOf kinds text db → (o : Option Label) → IsOutsidePlace ss (option_map_or db.place_after o db.statement_count)
  new_outside kinds db is None = subst (IsOutsidePlace ss) (sym is.statement_count) (end_outside text sound)
  new_outside kinds db is (Some l) = subst (IsOutsidePlace ss) (sym (is.place_after l)) (after_outside l)

  -- the place of a worksheet with a new theorem
  pub place_outside : (kinds : Kinds) (db : Database) → IsDatabaseOf kinds text db → (s : Sheet) → existing db s ≡ None → IsOutsidePlace ss (place_of db s)
  place_outside kinds db is s new =
      let place : place_of db s ≡ new_place db s.loc = ap (λ o. option_map_or (λ (f : Frame). f.at) o (new_place db s.loc)) new in
      subst (IsOutsidePlace ss) (sym place) (new_outside kinds db is (option_and_then (label_of db) s.loc))
