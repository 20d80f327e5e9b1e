-- The tokens of a proof's line, one after another.
use Rattle.std.proofs.Common.{◌≡◌, ◌<◌, ℕ, suc, ◌+◌, Bool, true, false, List, ◌∷◌, length, drop, get_or, refl, sym, ◌∙◌, ap, arith, add-one, drop-cons}
use Rattle.std.specs.Borrow.{Bor}
use Rattle.std.specs.List.{after_first, position_or_len}
use Rattle.mm_model.specs.Names.{Name}
use Rattle.mmp_run.specs.Tried.{is_bracket, tokens_shown}

here : (p : Name → Bool) (x : Name) (xs : List Name) → p x ≡ true → after_first p (x ∷ xs) ≡ xs
here p x xs e = rw e refl

past : (p : Name → Bool) (x : Name) (xs : List Name) → p x ≡ false → after_first p (x ∷ xs) ≡ after_first p xs
past p x xs e = let more : 1 + position_or_len p xs + 1 ≡ suc (position_or_len p xs + 1) = omega arith in rw e (ap (λ (n : ℕ). drop n (x ∷ xs)) more)

cut : (ts : List (Bor (List ℕ))) (i : ℕ) (d : Bor (List ℕ)) → i < length ts → tokens_shown (drop i ts) ≡ (get_or ts i d).now ∷ tokens_shown (drop (i + 1) ts)
cut ts i d h = rw (add-one, drop-cons ts i d) refl

pub bracket_here : (ts : List (Bor (List ℕ))) (i : ℕ) (d : Bor (List ℕ)) → i < length ts → after_first is_bracket (tokens_shown ts) ≡ after_first is_bracket (tokens_shown (drop i ts))
    → is_bracket (get_or ts i d).now ≡ true → tokens_shown (drop (i + 1) ts) ≡ after_first is_bracket (tokens_shown ts)
bracket_here ts i d h e is =
    sym (e ∙ ap (after_first is_bracket) (cut ts i d h) ∙ here is_bracket (get_or ts i d).now (tokens_shown (drop (i + 1) ts)) is)

pub bracket_past : (ts : List (Bor (List ℕ))) (i : ℕ) (d : Bor (List ℕ)) → i < length ts → after_first is_bracket (tokens_shown ts) ≡ after_first is_bracket (tokens_shown (drop i ts))
    → is_bracket (get_or ts i d).now ≡ false → after_first is_bracket (tokens_shown ts) ≡ after_first is_bracket (tokens_shown (drop (i + 1) ts))
bracket_past ts i d h e is =
    e ∙ ap (after_first is_bracket) (cut ts i d h) ∙ past is_bracket (get_or ts i d).now (tokens_shown (drop (i + 1) ts)) is
