-- Behind the first statements of a text without a fault, the scope and the next label are as the definitions say.
use Rattle.std.proofs.Common.{◌≡◌, ℕ, zero, suc, ◌+◌, ◌<◌, ◌≤◌, not, cond, List, [], ◌∷◌, ◌++◌, length, take, drop, reverse, Some, slice_get}
use Rattle.std.proofs.Common.{option_map, unwrap_or, refl, sym, ap, ◌∙◌, arith, subst}
use Rattle.std.proofs.lemmas.List.{reverse-append}
use Rattle.mm_base.specs.declared.symbols.Sym.{Sym}
use Rattle.mm_model.specs.Words.{Word}
use Rattle.mm_model.specs.Names.{Name}
use Rattle.mm_model.specs.Statements.{Statement, labels_in, is_empty}
use Rattle.mm_model.specs.Frames.{symbols, formula_of, positions, below}
use Rattle.model_laws.specs.StatementLaws.{IsSound, AreSound}
use Rattle.frame_lists.specs.declared.entry.Entry.{Entry}
use Rattle.frame_lists.specs.declared.entry.EntryKind.{EntryKind}
use Rattle.frame_lists.specs.declared.entry.EntryKind.TheVariants as entry
use Rattle.frame_lists.specs.declared.listed.Listed.{Listed}
use Rattle.frame_lists.specs.declared.scope.Scope.{Scope}
use Rattle.frame_lists.specs.Lists.{AreOf}
use Rattle.frame_lists.specs.Entries.{kind_in}
use Rattle.frame_lists.specs.Steps.{passed, kind_at, symbols_at, is_label_of, label_after, label_upto, scope_upto}
use Rattle.frame_lists.proofs.Numbered.{count}
use Rattle.frame_lists.proofs.Placed.{is_at, next-label, below-next, below-whole, below-length}
use Rattle.frame_lists.proofs.Passing.{ScopeIs, scope-first, scope-next}
use Rattle.frame_lists.proofs.MandatoryLaws.{entry-at, symbols-is}

sound-tail : (xs e : List Statement) → AreSound (xs ++ e) → AreSound e
sound-tail [] e h = h
sound-tail (x ∷ xs) e h = sound-tail xs e h.1

take-drop : (k : ℕ) (ss : List Statement) → take k ss ++ drop k ss ≡ ss
take-drop zero ss = refl
take-drop (suc k) [] = refl
take-drop (suc k) (s ∷ ss) = ap (λ l. s ∷ l) (take-drop k ss)

pub sound-below : (ss : List Statement) (k : ℕ) → AreSound (reverse ss) → AreSound (below ss k)
sound-below ss k h = sound-tail (reverse (drop k ss)) (below ss k) (subst AreSound (ap (λ l. reverse l) (sym (take-drop k ss)) ∙ reverse-append (take k ss) (drop k ss)) h)

pub statement-at : (ss : List Statement) (k : ℕ) → k < length ss → (s : Statement) × (slice_get ss k ≡ Some s)
statement-at [] k h = let bad : ⊥ = omega (arith, h) in absurd bad
statement-at (s ∷ ss) zero h = (s, refl)
statement-at (s ∷ ss) (suc k) h = statement-at ss k (omega (arith, h))

within : (ss : List Statement) (k : ℕ) (s : Statement) → slice_get ss k ≡ Some s → k < length ss
within [] k s h = absurd cc
within (x ∷ ss) zero s h = omega arith
within (x ∷ ss) (suc k) s h = let less = within ss k s h in omega (arith, less)

module _ (ss : List Statement) (l : Listed) (of : AreOf l ss) (sound : AreSound (reverse ss)) where
  abbrev names : List Name
  names = symbols ss

  pub sound-at : (k : ℕ) (s : Statement) → slice_get ss k ≡ Some s → IsSound (below ss k) s
  sound-at k s h = (subst AreSound (below-next ss k s h) (sound-below ss (suc k) sound)).0

  pub whole-at : (k : ℕ) (s : Statement) → slice_get ss k ≡ Some s → ss ≡ reverse (s ∷ below ss k) ++ drop (suc k) ss
  whole-at k s h = below-whole ss (suc k) ∙ ap (λ e. reverse e ++ drop (suc k) ss) (below-next ss k s h)

  -- whether the next label is that of the statement
  pub label-here : (k : ℕ) (s : Statement) → slice_get ss k ≡ Some s → is_label_of l (count (below ss k)) k ≡ not (is_empty (labels_in s))
  label-here k s h =
      let e = below ss k in
      let long : length e ≡ k = below-length ss k (omega (arith, within ss k s h)) in
      ap (λ ps. is_at (slice_get ps (count e)) k) of.positions_are ∙ ap (λ (m : ℕ). is_at (slice_get (positions ss) (count e)) m) (sym long)
      ∙ next-label s e (drop (suc k) ss) ss (whole-at k s h) (sound-at k s h).one_label

  pub record UptoIs (k : ℕ) : Type 0 where
    pub scope : ScopeIs names (below ss k) (scope_upto l k)
    pub label : label_upto l k ≡ count (below ss k)

  counted : (n : ℕ) (ws : List Word) → length ws ≤ 1 → cond (not (is_empty ws)) (n + 1) n ≡ n + length ws
  counted n [] h = omega arith
  counted n (w ∷ []) h = refl
  counted n (w ∷ v ∷ ws) h = let bad : ⊥ = omega (arith, h) in absurd bad

  upto-next : (k : ℕ) (s : Statement) → slice_get ss k ≡ Some s → UptoIs k → UptoIs (suc k)
  upto-next k s h u =
      let e = below ss k in
      let long : length e ≡ k = below-length ss k (omega (arith, within ss k s h)) in
      let kind : kind_at l k ≡ kind_in s = ap (λ o. unwrap_or (option_map (λ (y : Entry). y.kind) o) entry.OpenBlock) (entry-at ss l of k s h) in
      let step = scope-next names s e (scope_upto l k) u.scope in
      let same : scope_upto l (suc k) ≡ passed (kind_in s) (formula_of names s) (length e) (count e) (scope_upto l k) =
      ap (λ (j : EntryKind). passed j (symbols_at l k) k (label_upto l k) (scope_upto l k)) kind
      ∙ ap (λ (f : List Sym). passed (kind_in s) f k (label_upto l k) (scope_upto l k)) (symbols-is ss l of k s h)
      ∙ ap (λ (m : ℕ). passed (kind_in s) (formula_of names s) m (label_upto l k) (scope_upto l k)) (sym long)
      ∙ ap (λ (n : ℕ). passed (kind_in s) (formula_of names s) (length e) n (scope_upto l k)) u.label in
      let next = below-next ss k s h in
      record {
        scope = subst (λ b. ScopeIs names b (scope_upto l (suc k))) (sym next) (subst (λ (t : Scope). ScopeIs names (s ∷ e) t) (sym same) step);
        label =
            ap (λ (n : ℕ). label_after l n k) u.label ∙ ap (λ b. cond b (count e + 1) (count e)) (label-here k s h)
            ∙ counted (count e) (labels_in s) (sound-at k s h).one_label ∙ ap count (sym next);
      }

  pub upto : (k : ℕ) → k ≤ length ss → UptoIs k
  upto zero h = record { scope = scope-first names; label = refl }
  upto (suc k) h = let s = statement-at ss k (omega (arith, h)) in upto-next k s.0 s.1 (upto k (omega (arith, h)))
