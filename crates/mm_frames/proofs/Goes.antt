-- What the reader keeps behind a keyword, and behind any token, is that of the statements so far.
use Rattle.std.proofs.Common.{◌≡◌, ℕ, Bool, true, false, cond, not, ◌||◌, eqb, List, [], ◌∷◌, ◌++◌, length, take, map, Option, None, Some, inl, inr, refl, sym, ap, ◌∙◌, subst, codes}
use Rattle.std.specs.List.{list_any}
use Rattle.std.specs.Str.{bytes_eq}
use Rattle.mm_base.specs.declared.symbols.Sym.{Sym}
use Rattle.mm_model.specs.Words.{Word, word}
use Rattle.mm_model.specs.Statements.{Statement, is, is_word, is_one_of, is_empty, labelled, labels_in, symbols_in, ends_statement, ended, unended}
use Rattle.mm_tokens.specs.declared.token.TokenKind.{TokenKind}
use Rattle.mm_tokens.specs.declared.token.TokenKind.TheVariants as token
use Rattle.mm_frames.specs.declared.reader.Reader.{Reader}
use Rattle.mm_frames.specs.declared.reader.Stage.{Stage}
use Rattle.mm_frames.specs.declared.reader.Stage.TheVariants as stage
use Rattle.frame_lists.specs.declared.entry.StatementKind.{StatementKind}
use Rattle.frame_lists.specs.declared.entry.StatementKind.TheVariants as kind
use Rattle.mm_frames.specs.declared.scopes.Scope.{Scope}
use Rattle.mm_frames.specs.Kinds.{is_extra}
use Rattle.mm_frames.specs.Reading.{word_code_at, with_word_at, between_code_at, labelled_code_at, with_stage, equals_code_at, with_proof}
use Rattle.mm_frames.specs.Reading.{end_code_at, with_end, with_open, close_code_at, with_close_at, step_code, with_token}
use Rattle.mm_frames.proofs.Numbers.{name_of, Within}
use Rattle.mm_model.proofs.Lists.{added, types, ended-on, unended-on}
use Rattle.std.proofs.lemmas.Bool.{cases_Bool}
use Rattle.mm_frames.proofs.State.{IsState, IsPlain, state-alike, opens, closes}
use Rattle.mm_frames.proofs.Growth.{Grows, alike-empty, alike-drop, alike-grows}
use Rattle.mm_frames.proofs.Shapes.{IsBegun, IsOpen}
use Rattle.mm_frames.proofs.Grown.{IsOther, grows-same, proof-begins}
use Rattle.mm_frames.proofs.SoFar.{keyword, IsKind, formula_names, names_for, IsClear, StageIs, StateIs, IsReaderAt, IsReader, variable_marks, typed_marks}
use Rattle.mm_frames.proofs.Agrees.{other-keyword}
use Rattle.mm_frames.proofs.WordGoes.{word-goes}

none-below : (b : Bool) (c : ℕ) (o : Option ℕ) → cond b (Some c) o ≡ None → (b ≡ false) × (o ≡ None)
none-below true c o h = absurd (clash h)
  where
    clash : Some c ≡ None → ⊥
    clash e = cc
none-below false c o h = (refl, h)

some-none : (c : ℕ) → Some c ≡ None → ⊥
some-none c e = cc

two-codes : (b : Bool) (c d : ℕ) → cond b (Some c) (Some d) ≡ None → ⊥
two-codes true c d h = some-none c h
two-codes false c d h = some-none d h

no-names : (r : Reader) (k : StatementKind) → IsClear r → [] ≡ names_for r k
no-names r kind.Constants c = ap (λ fs. map (λ (s : Sym). name_of r.symbols s.0) fs) (sym c.formula)
no-names r kind.Variables c = ap (λ fs. map (λ (s : Sym). name_of r.symbols s.0) fs) (sym c.formula)
no-names r kind.Distinct c = ap (λ fs. map (λ i. name_of r.symbols i) fs) (sym c.listed)
no-names r kind.Floating c = ap (λ fs. map (λ (s : Sym). name_of r.symbols s.0) fs) (sym c.formula)
no-names r kind.Essential c = ap (λ fs. map (λ (s : Sym). name_of r.symbols s.0) fs) (sym c.formula)
no-names r kind.Axiom c = ap (λ fs. map (λ (s : Sym). name_of r.symbols s.0) fs) (sym c.formula)
no-names r kind.Provable c = ap (λ fs. map (λ (s : Sym). name_of r.symbols s.0) fs) (sym c.formula)

as-open : (u : Statement) (k : List ℕ) (a b : List (List ℕ)) → a ≡ b → IsOpen u k a → IsOpen u k b
as-open u k a b e o = subst (λ l. IsOpen u k l) e o

-- a statement that begins with its keyword
begins : (v : Statement) (e : List Statement) (after : List Word) (r : Reader) (k : StatementKind) → Grows [] v [] [] [] [] → IsOpen v (keyword k) []
    → IsClear r → StateIs ([] ∷ e) r → Within (length r.symbols) (map (λ (s : Sym). s.0) r.formula) → Within (length r.symbols) r.listed
    → IsReaderAt v e after (with_stage r k)
begins v e after r k g o c st f l = record {
  state = state-alike ([] ∷ e) (v ∷ e) r.symbols r.constants r.variables r.typed r.labels (variable_marks r.scopes) (typed_marks r.scopes) (alike-grows [] v e g) st;
  stage = as-open v (keyword k) [] (names_for (with_stage r k) k) (no-names (with_stage r k) k (record { formula = c.formula; listed = c.listed })) o;
  formula_known = f;
  listed_known = l;
}

grows-first : (v : Statement) → IsPlain v → added (codes "$c") symbols_in v ≡ [] → added (codes "$v") symbols_in v ≡ []
    → added (codes "$f") types v ≡ [] → map (λ (w : Word). w.bytes) (labels_in v) ≡ [] → Grows [] v [] [] [] []
grows-first v p a b c d = record { plain = record { no_open = refl; no_close = refl }; plain_after = p; new_constants = a; more_variables = b; more_types = c; more_labels = d }

constants-begins : (u : Statement) (e : List Statement) (after : List Word) (r : Reader) (at : ℕ) (s : Stage) → StateIs (u ∷ e) r
    → StageIs u (word at (codes "$c") ∷ after) r s → Within (length r.symbols) (map (λ (s : Sym). s.0) r.formula) → Within (length r.symbols) r.listed
    → between_code_at s r ≡ None → IsReaderAt (u ++ word at (codes "$c") ∷ []) e after (with_stage r kind.Constants)
constants-begins u e after r at stage.Between st h f l none =
    let v : Statement = word at (codes "$c") ∷ [] in
    subst (λ (x : Statement). IsReaderAt (x ++ v) e after (with_stage r kind.Constants)) (sym h.0)
    (begins v e after r kind.Constants (grows-first v (record { no_open = refl; no_close = refl }) refl refl refl refl)
    (record { begun = record { at = at; rest = []; body_is = refl; not_empty = refl; not_label = refl }; no_proof = refl; goes_on = refl; names_are = refl })
    h.1 (subst (λ (x : Statement). StateIs (x ∷ e) r) h.0 st) f l)
constants-begins u e after r at stage.Labelled st h f l none = absurd (some-none 29 none)
constants-begins u e after r at (stage.Symbols k) st h f l none = absurd (some-none 29 none)
constants-begins u e after r at (stage.Proof from) st h f l none = absurd (some-none 29 none)

variables-begins : (u : Statement) (e : List Statement) (after : List Word) (r : Reader) (at : ℕ) (s : Stage) → StateIs (u ∷ e) r
    → StageIs u (word at (codes "$v") ∷ after) r s → Within (length r.symbols) (map (λ (s : Sym). s.0) r.formula) → Within (length r.symbols) r.listed
    → between_code_at s r ≡ None → IsReaderAt (u ++ word at (codes "$v") ∷ []) e after (with_stage r kind.Variables)
variables-begins u e after r at stage.Between st h f l none =
    let v : Statement = word at (codes "$v") ∷ [] in
    subst (λ (x : Statement). IsReaderAt (x ++ v) e after (with_stage r kind.Variables)) (sym h.0)
    (begins v e after r kind.Variables (grows-first v (record { no_open = refl; no_close = refl }) refl refl refl refl)
    (record { begun = record { at = at; rest = []; body_is = refl; not_empty = refl; not_label = refl }; no_proof = refl; goes_on = refl; names_are = refl })
    h.1 (subst (λ (x : Statement). StateIs (x ∷ e) r) h.0 st) f l)
variables-begins u e after r at stage.Labelled st h f l none = absurd (some-none 29 none)
variables-begins u e after r at (stage.Symbols k) st h f l none = absurd (some-none 29 none)
variables-begins u e after r at (stage.Proof from) st h f l none = absurd (some-none 29 none)

distinct-begins : (u : Statement) (e : List Statement) (after : List Word) (r : Reader) (at : ℕ) (s : Stage) → StateIs (u ∷ e) r
    → StageIs u (word at (codes "$d") ∷ after) r s → Within (length r.symbols) (map (λ (s : Sym). s.0) r.formula) → Within (length r.symbols) r.listed
    → between_code_at s r ≡ None → IsReaderAt (u ++ word at (codes "$d") ∷ []) e after (with_stage r kind.Distinct)
distinct-begins u e after r at stage.Between st h f l none =
    let v : Statement = word at (codes "$d") ∷ [] in
    subst (λ (x : Statement). IsReaderAt (x ++ v) e after (with_stage r kind.Distinct)) (sym h.0)
    (begins v e after r kind.Distinct (grows-first v (record { no_open = refl; no_close = refl }) refl refl refl refl)
    (record { begun = record { at = at; rest = []; body_is = refl; not_empty = refl; not_label = refl }; no_proof = refl; goes_on = refl; names_are = refl })
    h.1 (subst (λ (x : Statement). StateIs (x ∷ e) r) h.0 st) f l)
distinct-begins u e after r at stage.Labelled st h f l none = absurd (some-none 29 none)
distinct-begins u e after r at (stage.Symbols k) st h f l none = absurd (some-none 29 none)
distinct-begins u e after r at (stage.Proof from) st h f l none = absurd (some-none 29 none)

-- a statement whose keyword stands behind its label
labelled-begins : (x : Word) (v : Statement) (e : List Statement) (after : List Word) (r : Reader) (k : StatementKind) → Grows (x ∷ []) v [] [] [] []
    → IsOpen v (keyword k) [] → IsClear r → StateIs ((x ∷ []) ∷ e) r → Within (length r.symbols) (map (λ (s : Sym). s.0) r.formula)
    → Within (length r.symbols) r.listed
    → IsReaderAt v e after (with_stage r k)
labelled-begins x v e after r k g o c st f l = record {
  state = state-alike ((x ∷ []) ∷ e) (v ∷ e) r.symbols r.constants r.variables r.typed r.labels (variable_marks r.scopes) (typed_marks r.scopes) (alike-grows (x ∷ []) v e g) st;
  stage = as-open v (keyword k) [] (names_for (with_stage r k) k) (no-names (with_stage r k) k (record { formula = c.formula; listed = c.listed })) o;
  formula_known = f;
  listed_known = l;
}

-- a word is no `$=`
not-equals : (n : List ℕ) → not (list_any (λ b. eqb b 36) n) ≡ true → bytes_eq n (codes "$=") ≡ false
not-equals [] h = refl
not-equals (b ∷ bs) h = elim (cases_Bool (eqb b 36)) [
  | inl e ↦ absurd (clash (rw e at h))
  | inr e ↦ rw e refl
]
  where
    clash : false ≡ true → ⊥
    clash e = cc

no-equals : (x : Word) → is_word x ≡ true → (is (codes "$=") x || false) ≡ false
no-equals x h = let e = not-equals x.bytes h in rw e refl

floating-begins : (u : Statement) (e : List Statement) (after : List Word) (r : Reader) (at : ℕ) (s : Stage) → StateIs (u ∷ e) r
    → StageIs u (word at (codes "$f") ∷ after) r s → Within (length r.symbols) (map (λ (s : Sym). s.0) r.formula) → Within (length r.symbols) r.listed
    → labelled_code_at s r ≡ None → IsReaderAt (u ++ word at (codes "$f") ∷ []) e after (with_stage r kind.Floating)
floating-begins u e after r at stage.Labelled st h f l none =
    let w : Word = word at (codes "$f") in
    let x : Word = h.0.label in
    let i : is_word x ≡ true = h.0.is_name in
    subst (λ (y : Statement). IsReaderAt (y ++ w ∷ []) e after (with_stage r kind.Floating)) (sym h.0.is)
    (labelled-begins x (x ∷ w ∷ []) e after r kind.Floating
    (record {
      plain = record { no_open = rw i refl; no_close = rw i refl };
      plain_after = record { no_open = rw i refl; no_close = rw i refl };
      new_constants = rw i refl;
      more_variables = rw i refl;
      more_types = rw i refl;
      more_labels = rw i refl;
    })
    (record { begun = record { at = at; rest = []; body_is = rw i refl; not_empty = refl; not_label = refl }; no_proof = no-equals x i; goes_on = refl; names_are = refl })
    h.1 (subst (λ (y : Statement). StateIs (y ∷ e) r) h.0.is st) f l)
floating-begins u e after r at stage.Between st h f l none = absurd (some-none 18 none)
floating-begins u e after r at (stage.Symbols k) st h f l none = absurd (some-none 18 none)
floating-begins u e after r at (stage.Proof from) st h f l none = absurd (some-none 18 none)

essential-begins : (u : Statement) (e : List Statement) (after : List Word) (r : Reader) (at : ℕ) (s : Stage) → StateIs (u ∷ e) r
    → StageIs u (word at (codes "$e") ∷ after) r s → Within (length r.symbols) (map (λ (s : Sym). s.0) r.formula) → Within (length r.symbols) r.listed
    → labelled_code_at s r ≡ None → IsReaderAt (u ++ word at (codes "$e") ∷ []) e after (with_stage r kind.Essential)
essential-begins u e after r at stage.Labelled st h f l none =
    let w : Word = word at (codes "$e") in
    let x : Word = h.0.label in
    let i : is_word x ≡ true = h.0.is_name in
    subst (λ (y : Statement). IsReaderAt (y ++ w ∷ []) e after (with_stage r kind.Essential)) (sym h.0.is)
    (labelled-begins x (x ∷ w ∷ []) e after r kind.Essential
    (record {
      plain = record { no_open = rw i refl; no_close = rw i refl };
      plain_after = record { no_open = rw i refl; no_close = rw i refl };
      new_constants = rw i refl;
      more_variables = rw i refl;
      more_types = rw i refl;
      more_labels = rw i refl;
    })
    (record { begun = record { at = at; rest = []; body_is = rw i refl; not_empty = refl; not_label = refl }; no_proof = no-equals x i; goes_on = refl; names_are = refl })
    h.1 (subst (λ (y : Statement). StateIs (y ∷ e) r) h.0.is st) f l)
essential-begins u e after r at stage.Between st h f l none = absurd (some-none 18 none)
essential-begins u e after r at (stage.Symbols k) st h f l none = absurd (some-none 18 none)
essential-begins u e after r at (stage.Proof from) st h f l none = absurd (some-none 18 none)

axiom-begins : (u : Statement) (e : List Statement) (after : List Word) (r : Reader) (at : ℕ) (s : Stage) → StateIs (u ∷ e) r
    → StageIs u (word at (codes "$a") ∷ after) r s → Within (length r.symbols) (map (λ (s : Sym). s.0) r.formula) → Within (length r.symbols) r.listed
    → labelled_code_at s r ≡ None → IsReaderAt (u ++ word at (codes "$a") ∷ []) e after (with_stage r kind.Axiom)
axiom-begins u e after r at stage.Labelled st h f l none =
    let w : Word = word at (codes "$a") in
    let x : Word = h.0.label in
    let i : is_word x ≡ true = h.0.is_name in
    subst (λ (y : Statement). IsReaderAt (y ++ w ∷ []) e after (with_stage r kind.Axiom)) (sym h.0.is)
    (labelled-begins x (x ∷ w ∷ []) e after r kind.Axiom
    (record {
      plain = record { no_open = rw i refl; no_close = rw i refl };
      plain_after = record { no_open = rw i refl; no_close = rw i refl };
      new_constants = rw i refl;
      more_variables = rw i refl;
      more_types = rw i refl;
      more_labels = rw i refl;
    })
    (record { begun = record { at = at; rest = []; body_is = rw i refl; not_empty = refl; not_label = refl }; no_proof = no-equals x i; goes_on = refl; names_are = refl })
    h.1 (subst (λ (y : Statement). StateIs (y ∷ e) r) h.0.is st) f l)
axiom-begins u e after r at stage.Between st h f l none = absurd (some-none 18 none)
axiom-begins u e after r at (stage.Symbols k) st h f l none = absurd (some-none 18 none)
axiom-begins u e after r at (stage.Proof from) st h f l none = absurd (some-none 18 none)

provable-begins : (u : Statement) (e : List Statement) (after : List Word) (r : Reader) (at : ℕ) (s : Stage) → StateIs (u ∷ e) r
    → StageIs u (word at (codes "$p") ∷ after) r s → Within (length r.symbols) (map (λ (s : Sym). s.0) r.formula) → Within (length r.symbols) r.listed
    → labelled_code_at s r ≡ None → IsReaderAt (u ++ word at (codes "$p") ∷ []) e after (with_stage r kind.Provable)
provable-begins u e after r at stage.Labelled st h f l none =
    let w : Word = word at (codes "$p") in
    let x : Word = h.0.label in
    let i : is_word x ≡ true = h.0.is_name in
    subst (λ (y : Statement). IsReaderAt (y ++ w ∷ []) e after (with_stage r kind.Provable)) (sym h.0.is)
    (labelled-begins x (x ∷ w ∷ []) e after r kind.Provable
    (record {
      plain = record { no_open = rw i refl; no_close = rw i refl };
      plain_after = record { no_open = rw i refl; no_close = rw i refl };
      new_constants = rw i refl;
      more_variables = rw i refl;
      more_types = rw i refl;
      more_labels = rw i refl;
    })
    (record { begun = record { at = at; rest = []; body_is = rw i refl; not_empty = refl; not_label = refl }; no_proof = no-equals x i; goes_on = refl; names_are = refl })
    h.1 (subst (λ (y : Statement). StateIs (y ∷ e) r) h.0.is st) f l)
provable-begins u e after r at stage.Between st h f l none = absurd (some-none 18 none)
provable-begins u e after r at (stage.Symbols k) st h f l none = absurd (some-none 18 none)
provable-begins u e after r at (stage.Proof from) st h f l none = absurd (some-none 18 none)

-- `$=`
proof-starts : (u : Statement) (e : List Statement) (after : List Word) (r : Reader) (at from : ℕ) → StateIs (u ∷ e) r
    → IsOpen u (codes "$p") (formula_names r) → Within (length r.symbols) (map (λ (s : Sym). s.0) r.formula) → Within (length r.symbols) r.listed
    → IsReaderAt (u ++ word at (codes "$=") ∷ []) e after (with_proof r from)
proof-starts u e after r at from st o f l =
    let w : Word = word at (codes "$=") in
    record {
      state =
          state-alike (u ∷ e) ((u ++ w ∷ []) ∷ e) r.symbols r.constants r.variables r.typed r.labels (variable_marks r.scopes) (typed_marks r.scopes)
          (alike-grows u (u ++ w ∷ []) e (grows-same u (codes "$p") w (other-keyword kind.Provable) o.begun (λ s. refl))) st;
      stage = proof-begins u at (formula_names r) o;
      formula_known = f;
      listed_known = l;
    }

equals-goes : (u : Statement) (e : List Statement) (after : List Word) (r : Reader) (at from : ℕ) (s : Stage) → StateIs (u ∷ e) r
    → StageIs u (word at (codes "$=") ∷ after) r s → Within (length r.symbols) (map (λ (s : Sym). s.0) r.formula) → Within (length r.symbols) r.listed
    → equals_code_at s r ≡ None → IsReaderAt (u ++ word at (codes "$=") ∷ []) e after (with_proof r from)
equals-goes u e after r at from stage.Between st h f l none = absurd (some-none 29 none)
equals-goes u e after r at from stage.Labelled st h f l none = absurd (some-none 29 none)
equals-goes u e after r at from (stage.Symbols kind.Constants) st h f l none = absurd (two-codes (is_empty r.formula) 26 29 none)
equals-goes u e after r at from (stage.Symbols kind.Variables) st h f l none = absurd (two-codes (is_empty r.formula) 26 29 none)
equals-goes u e after r at from (stage.Symbols kind.Distinct) st h f l none = absurd (some-none 29 none)
equals-goes u e after r at from (stage.Symbols kind.Floating) st h f l none = absurd (some-none 29 none)
equals-goes u e after r at from (stage.Symbols kind.Essential) st h f l none = absurd (two-codes (is_empty r.formula) 26 29 none)
equals-goes u e after r at from (stage.Symbols kind.Axiom) st h f l none = absurd (two-codes (is_empty r.formula) 26 29 none)
equals-goes u e after r at from (stage.Symbols kind.Provable) st h f l none = proof-starts u e after r at from st h f l
equals-goes u e after r at from (stage.Proof from_) st h f l none = absurd (some-none 29 none)

-- `$.`
ends : (u : Statement) (e : List Statement) (after : List Word) (r : Reader) (at start : ℕ) (k : List ℕ) → IsOther k → IsBegun u k → StateIs (u ∷ e) r
    → IsReaderAt [] ((u ++ word at (codes "$.") ∷ []) ∷ e) after (with_end r start)
ends u e after r at start k p o st =
    let w : Word = word at (codes "$.") in
    let grown : StateIs ((u ++ w ∷ []) ∷ e) r =
    state-alike (u ∷ e) ((u ++ w ∷ []) ∷ e) r.symbols r.constants r.variables r.typed r.labels (variable_marks r.scopes) (typed_marks r.scopes)
    (alike-grows u (u ++ w ∷ []) e (grows-same u k w p o (λ s. refl))) st in
    record {
      state =
          state-alike ((u ++ w ∷ []) ∷ e) ([] ∷ (u ++ w ∷ []) ∷ e) r.symbols r.constants r.variables r.typed r.labels (variable_marks r.scopes)
          (typed_marks r.scopes) (alike-empty ((u ++ w ∷ []) ∷ e)) grown;
      stage = (refl, record { formula = refl; listed = refl });
      formula_known = tt;
      listed_known = tt;
    }

end-goes : (u : Statement) (e : List Statement) (after : List Word) (r : Reader) (at start : ℕ) (s : Stage) → StateIs (u ∷ e) r
    → StageIs u (word at (codes "$.") ∷ after) r s → end_code_at s r ≡ None
    → IsReaderAt [] ((u ++ word at (codes "$.") ∷ []) ∷ e) after (with_end r start)
end-goes u e after r at start stage.Between st h none = absurd (some-none 29 none)
end-goes u e after r at start stage.Labelled st h none = absurd (some-none 29 none)
end-goes u e after r at start (stage.Symbols k) st h none = ends u e after r at start (keyword k) (other-keyword k) h.begun st
end-goes u e after r at start (stage.Proof from) st h none = ends u e after r at start (codes "$p") (other-keyword kind.Provable) h.begun st

-- `${`
open-goes : (u : Statement) (e : List Statement) (after : List Word) (r : Reader) (at : ℕ) (s : Stage) → s ≡ r.stage → StateIs (u ∷ e) r
    → StageIs u (word at (codes "${") ∷ after) r s → Within (length r.symbols) (map (λ (s : Sym). s.0) r.formula) → Within (length r.symbols) r.listed
    → between_code_at s r ≡ None → IsReaderAt [] ((u ++ word at (codes "${") ∷ []) ∷ e) after (with_open r)
open-goes u e after r at stage.Between i st h f l none =
    let w : Word = word at (codes "${") in
    let first : StateIs ([] ∷ e) r = subst (λ (x : Statement). StateIs (x ∷ e) r) h.0 st in
    let before : StateIs e r = state-alike ([] ∷ e) e r.symbols r.constants r.variables r.typed r.labels (variable_marks r.scopes) (typed_marks r.scopes) (alike-drop e) first in
    let opened : StateIs ((w ∷ []) ∷ e) (with_open r) = opens at e r.symbols r.constants r.variables r.typed r.labels (variable_marks r.scopes) (typed_marks r.scopes) before in
    subst (λ (x : Statement). IsReaderAt [] ((x ++ w ∷ []) ∷ e) after (with_open r)) (sym h.0)
    (record {
      state =
          state-alike ((w ∷ []) ∷ e) ([] ∷ (w ∷ []) ∷ e) r.symbols r.constants r.variables r.typed r.labels
          (length r.variables ∷ variable_marks r.scopes) (length r.typed ∷ typed_marks r.scopes) (alike-empty ((w ∷ []) ∷ e)) opened;
      stage = subst (λ (s : Stage). StageIs [] after (with_open r) s) i (refl, record { formula = h.1.formula; listed = h.1.listed });
      formula_known = f;
      listed_known = l;
    })
open-goes u e after r at stage.Labelled i st h f l none = absurd (some-none 29 none)
open-goes u e after r at (stage.Symbols k) i st h f l none = absurd (some-none 29 none)
open-goes u e after r at (stage.Proof from) i st h f l none = absurd (some-none 29 none)

-- `$}`
close-goes : (u : Statement) (e : List Statement) (after : List Word) (r : Reader) (at : ℕ) (s : Stage) (ss : List Scope) → s ≡ r.stage
    → ss ≡ r.scopes → StateIs (u ∷ e) r → StageIs u (word at (codes "$}") ∷ after) r s → Within (length r.symbols) (map (λ (s : Sym). s.0) r.formula)
    → Within (length r.symbols) r.listed → close_code_at ss r ≡ None → IsReaderAt [] ((u ++ word at (codes "$}") ∷ []) ∷ e) after (with_close_at ss r)
close-goes u e after r at s [] i j st h f l none = absurd (some-none 23 none)
close-goes u e after r at stage.Between (c ∷ cs) i j st h f l none =
    let w : Word = word at (codes "$}") in
    let first : StateIs ([] ∷ e) r = subst (λ (x : Statement). StateIs (x ∷ e) r) h.0 st in
    let before : StateIs e r = state-alike ([] ∷ e) e r.symbols r.constants r.variables r.typed r.labels (variable_marks r.scopes) (typed_marks r.scopes) (alike-drop e) first in
    let marked : IsState e r.symbols r.constants r.variables r.typed r.labels (c.variables ∷ variable_marks cs) (c.typed ∷ typed_marks cs) =
    subst (λ (xs : List Scope). IsState e r.symbols r.constants r.variables r.typed r.labels (variable_marks xs) (typed_marks xs))
    (sym j) before in
    let closed : IsState ((w ∷ []) ∷ e) r.symbols r.constants (take c.variables r.variables) (take c.typed r.typed) r.labels (variable_marks cs)
    (typed_marks cs) =
    closes at e r.symbols r.constants r.variables r.typed r.labels c.variables c.typed (variable_marks cs) (typed_marks cs) marked in
    subst (λ (x : Statement). IsReaderAt [] ((x ++ w ∷ []) ∷ e) after (with_close_at (c ∷ cs) r)) (sym h.0)
    (record {
      state =
          state-alike ((w ∷ []) ∷ e) ([] ∷ (w ∷ []) ∷ e) r.symbols r.constants (take c.variables r.variables) (take c.typed r.typed) r.labels
          (variable_marks cs) (typed_marks cs) (alike-empty ((w ∷ []) ∷ e)) closed;
      stage = subst (λ (s : Stage). StageIs [] after (with_close_at (c ∷ cs) r) s) i (refl, record { formula = h.1.formula; listed = h.1.listed });
      formula_known = f;
      listed_known = l;
    })
close-goes u e after r at stage.Labelled (c ∷ cs) i j st h f l none = absurd (some-none 29 (ap (λ (t : Stage). between_code_at t r) i ∙ none))
close-goes u e after r at (stage.Symbols k) (c ∷ cs) i j st h f l none = absurd (some-none 29 (ap (λ (t : Stage). between_code_at t r) i ∙ none))
close-goes u e after r at (stage.Proof from) (c ∷ cs) i j st h f l none = absurd (some-none 29 (ap (λ (t : Stage). between_code_at t r) i ∙ none))

-- ---- any token

as-bytes : (before after : List Word) (at : ℕ) (n m : List ℕ) (r : Reader) → n ≡ m → IsReader (word at m ∷ before) after r → IsReader (word at n ∷ before) after r
as-bytes before after at n m r e h = subst (λ (x : List ℕ). IsReader (word at x ∷ before) after r) (sym e) h

goes-on : (before after : List Word) (at b : ℕ) (bs : List ℕ) (r : Reader) → eqb b 36 ≡ false
    → IsReaderAt (unended before ++ word at (b ∷ bs) ∷ []) (ended before) after r → IsReader (word at (b ∷ bs) ∷ before) after r
goes-on before after at b bs r d h =
    let w = word at (b ∷ bs) in
    let no_end : ends_statement w ≡ false = rw d refl in
    let first : IsReaderAt (unended (w ∷ before)) (ended before) after r = subst (λ (u : Statement). IsReaderAt u (ended before) after r) (sym (unended-on w before no_end)) h in
    subst (λ (e : List Statement). IsReaderAt (unended (w ∷ before)) e after r) (sym (ended-on w before no_end)) first

pub goes : (before after : List Word) (r : Reader) (w : Word) (k : TokenKind) (next : Option TokenKind) (start end_ : ℕ)
    → IsReader before (w ∷ after) r → IsKind k w.bytes → is_extra next ≡ list_any (λ v. not (is_one_of labelled v)) (take 1 after)
    → step_code r k w.bytes next ≡ None → IsReader (w ∷ before) after (with_token r k w.bytes start end_)
goes before after r w token.Word next start end_ o is x none =
    let n = is.first ∷ is.rest in
    let st : StageIs (unended before) (word w.start n ∷ after) r r.stage = subst (λ (m : List ℕ). StageIs (unended before) (word w.start m ∷ after) r r.stage) is.eq o.stage in
    let none_n : word_code_at r.stage r n next ≡ None = ap (λ (m : List ℕ). word_code_at r.stage r m next) (sym is.eq) ∙ none in
    let there =
    goes-on before after w.start is.first is.rest (with_word_at r.stage r n) is.no_dollar
    (word-goes (unended before)
    (ended
    before) after r w.start is.first is.rest next r.stage refl is.no_dollar is.none_behind x o.state st o.formula_known o.listed_known none_n) in
    subst (λ (m : List ℕ). IsReader (word w.start m ∷ before) after (with_word_at r.stage r m)) (sym is.eq) there
goes before after r w token.Constants next start end_ o is x none =
    let h : StageIs (unended before) (word w.start (codes "$c") ∷ after) r r.stage = subst (λ (n : List ℕ). StageIs (unended before) (word w.start n ∷ after) r r.stage) is o.stage in
    as-bytes before after w.start w.bytes (codes "$c") (with_token r token.Constants w.bytes start end_) is
    (constants-begins (unended before) (ended before) after r w.start r.stage o.state h o.formula_known o.listed_known
    (none-below (not (is_empty r.scopes)) 11 (between_code_at r.stage r) none).1)
goes before after r w token.Variables next start end_ o is x none =
    let h : StageIs (unended before) (word w.start (codes "$v") ∷ after) r r.stage = subst (λ (n : List ℕ). StageIs (unended before) (word w.start n ∷ after) r r.stage) is o.stage in
    as-bytes before after w.start w.bytes (codes "$v") (with_token r token.Variables w.bytes start end_) is
    (variables-begins (unended before) (ended before) after r w.start r.stage o.state h o.formula_known o.listed_known none)
goes before after r w token.Distinct next start end_ o is x none =
    let h : StageIs (unended before) (word w.start (codes "$d") ∷ after) r r.stage = subst (λ (n : List ℕ). StageIs (unended before) (word w.start n ∷ after) r r.stage) is o.stage in
    as-bytes before after w.start w.bytes (codes "$d") (with_token r token.Distinct w.bytes start end_) is
    (distinct-begins (unended before) (ended before) after r w.start r.stage o.state h o.formula_known o.listed_known none)
goes before after r w token.Floating next start end_ o is x none =
    let h : StageIs (unended before) (word w.start (codes "$f") ∷ after) r r.stage = subst (λ (n : List ℕ). StageIs (unended before) (word w.start n ∷ after) r r.stage) is o.stage in
    as-bytes before after w.start w.bytes (codes "$f") (with_token r token.Floating w.bytes start end_) is
    (floating-begins (unended before) (ended before) after r w.start r.stage o.state h o.formula_known o.listed_known none)
goes before after r w token.Essential next start end_ o is x none =
    let h : StageIs (unended before) (word w.start (codes "$e") ∷ after) r r.stage = subst (λ (n : List ℕ). StageIs (unended before) (word w.start n ∷ after) r r.stage) is o.stage in
    as-bytes before after w.start w.bytes (codes "$e") (with_token r token.Essential w.bytes start end_) is
    (essential-begins (unended before) (ended before) after r w.start r.stage o.state h o.formula_known o.listed_known none)
goes before after r w token.Axiom next start end_ o is x none =
    let h : StageIs (unended before) (word w.start (codes "$a") ∷ after) r r.stage = subst (λ (n : List ℕ). StageIs (unended before) (word w.start n ∷ after) r r.stage) is o.stage in
    as-bytes before after w.start w.bytes (codes "$a") (with_token r token.Axiom w.bytes start end_) is
    (axiom-begins (unended before) (ended before) after r w.start r.stage o.state h o.formula_known o.listed_known none)
goes before after r w token.Provable next start end_ o is x none =
    let h : StageIs (unended before) (word w.start (codes "$p") ∷ after) r r.stage = subst (λ (n : List ℕ). StageIs (unended before) (word w.start n ∷ after) r r.stage) is o.stage in
    as-bytes before after w.start w.bytes (codes "$p") (with_token r token.Provable w.bytes start end_) is
    (provable-begins (unended before) (ended before) after r w.start r.stage o.state h o.formula_known o.listed_known none)
goes before after r w token.Equals next start end_ o is x none =
    let h : StageIs (unended before) (word w.start (codes "$=") ∷ after) r r.stage = subst (λ (n : List ℕ). StageIs (unended before) (word w.start n ∷ after) r r.stage) is o.stage in
    as-bytes before after w.start w.bytes (codes "$=") (with_token r token.Equals w.bytes start end_) is
    (equals-goes (unended before) (ended before) after r w.start end_ r.stage o.state h o.formula_known o.listed_known none)
goes before after r w token.End next start end_ o is x none =
    let h : StageIs (unended before) (word w.start (codes "$.") ∷ after) r r.stage = subst (λ (n : List ℕ). StageIs (unended before) (word w.start n ∷ after) r r.stage) is o.stage in
    as-bytes before after w.start w.bytes (codes "$.") (with_token r token.End w.bytes start end_) is (end-goes (unended before) (ended before) after r w.start start r.stage o.state h none)
goes before after r w token.OpenBlock next start end_ o is x none =
    let h : StageIs (unended before) (word w.start (codes "${") ∷ after) r r.stage = subst (λ (n : List ℕ). StageIs (unended before) (word w.start n ∷ after) r r.stage) is o.stage in
    as-bytes before after w.start w.bytes (codes "${") (with_token r token.OpenBlock w.bytes start end_) is
    (open-goes (unended before) (ended before) after r w.start r.stage refl o.state h o.formula_known o.listed_known none)
goes before after r w token.CloseBlock next start end_ o is x none =
    let h : StageIs (unended before) (word w.start (codes "$}") ∷ after) r r.stage = subst (λ (n : List ℕ). StageIs (unended before) (word w.start n ∷ after) r r.stage) is o.stage in
    as-bytes before after w.start w.bytes (codes "$}") (with_token r token.CloseBlock w.bytes start end_) is
    (close-goes (unended before) (ended before) after r w.start r.stage r.scopes refl refl o.state h o.formula_known o.listed_known none)
goes before after r w token.OpenInclude next start end_ o is x none = absurd (some-none 10 none)
goes before after r w token.CloseInclude next start end_ o is x none = absurd (some-none 29 none)
goes before after r w token.OpenComment next start end_ o is x none = absurd is
goes before after r w token.CloseComment next start end_ o is x none = absurd is
