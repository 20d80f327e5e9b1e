-- The written steps have no fault that a step's words show.
use Rattle.std.specs.Prelude.{◌≡◌, ◌⊎◌, ◌<◌, ◌+◌, ◌&&◌, ◌||◌, not, ◌==◌, nat_lt, nat_le, ℕ, zero, suc, Bool, true, false, List, [], ◌∷◌, length, map}
use Rattle.std.specs.Prelude.{take, filter, filter_map, slice_get, codes, Contains, Option, Some, None, is_some, refl}
use Rattle.std.specs.List.{AllByRecursion, list_all, list_any}
use Rattle.std.specs.Option.{option_map_or}
use Rattle.std.specs.Str.{bytes_eq}
use Rattle.std.proofs.Common.{sym, ap, subst, ◌∙◌, arith, inl, inr}
use Rattle.std.proofs.lemmas.Bool.{cases_Bool, and_parts, or_parts}
use Rattle.std.proofs.lemmas.Bool.Decides.{nat_tests}
use Rattle.std.proofs.lemmas.Slice.Eq.{bytes_eq-Decides}
use Rattle.mm_base.specs.declared.tree.Tree.{Tree}
use Rattle.mm_base.specs.Limits.{most_formula_tokens}
use Rattle.mm_model.specs.declared.frames.Frame.{Frame}
use Rattle.mm_model.specs.declared.frames.Hyp.{Hyp}
use Rattle.mm_model.specs.declared.rows.Leaf.{Leaf}
use Rattle.mm_model.specs.Names.{Name}
use Rattle.mm_model.specs.Texts.{text}
use Rattle.mm_model.specs.Book.{Database, label_of}
use Rattle.sheet_text.specs.declared.sheet.Sheet.{Sheet}
use Rattle.sheet_text.specs.declared.sheet.SheetStep.{SheetStep}
use Rattle.sheet_text.specs.Layout.{steps, step_of_item}
use Rattle.sheet_text.specs.Spellable.{is_token}
use Rattle.solve_model.specs.Bound.{Binds}
use Rattle.solve_model.specs.BindFaults.{step_rules, BindFaultAt, hyps_differ, hyp_label_taken, hyp_with_hyps, is_blank, not_provable, unknown_symbol}
use Rattle.solve_model.specs.BindFaults.{wants_formula, formula_long, hyp_label_twice, begins_with_token}
use Rattle.solve_model.specs.Binding.{existing, is_new, place_of, given_hyps, same_tokens, names_of, hyps_before, has_label, is_hyp, is_qed}
use Rattle.solve_model.specs.Formulas.{leaf_of, is_known}
use Rattle.written_model.specs.declared.options.Options.{Options}
use Rattle.written_model.specs.WrittenSteps.{WrittenStep, WrittenItem, comment, step, steps_in, trees}
use Rattle.written_model.specs.Written.{Writing, written_sheet, written_step, written_item, leaf_name, formula_tokens}
use Rattle.again_laws.proofs.Lists.{get_map}
use Rattle.again_laws.proofs.SecondSteps.{IsWrittenOf, IsNewOf}
use Rattle.again_laws.proofs.Setting.{Setting}
use Rattle.again_laws.proofs.TokensStay.{tokens_stay}
use Rattle.again_laws.proofs.Unnumbered.{filter-map_, any-map_}
use Rattle.again_laws.proofs.Uses.{written_steps}
use Rattle.again_laws.proofs.Woven.{Woven, At, woven_at, woven_count, woven_any}
use Rattle.again_laws.proofs.WovenSteps.{IsDerivedName}

pub steps-written : (db : Database) (items : List WrittenItem) → filter_map step_of_item (map (written_item db) items) ≡ map (written_step db) (steps_in items)
steps-written db [] = refl
steps-written db (comment lines ∷ items) = steps-written db items
steps-written db (step e ∷ items) = ap (λ xs. written_step db e ∷ xs) (steps-written db items)

and_false : (a : Bool) → (a && false) ≡ false
and_false true = refl
and_false false = refl

or_false : (a b : Bool) → a ≡ false → b ≡ false → (a || b) ≡ false
or_false true b e f = absurd cc
or_false false b e f = f

from_not : (b : Bool) → not b ≡ false → b ≡ true
from_not true e = refl
from_not false e = absurd cc

take-map : {X Y : Type 0} (f : X → Y) (n : ℕ) (xs : List X) → take n (map f xs) ≡ map f (take n xs)
take-map f zero xs = refl
take-map f (suc n) [] = refl
take-map f (suc n) (x ∷ xs) = ap (λ ys. f x ∷ ys) (take-map f n xs)

length-map_ : {X Y : Type 0} (f : X → Y) (xs : List X) → length (map f xs) ≡ length xs
length-map_ f [] = refl
length-map_ f (x ∷ xs) = ap (λ n. suc n) (length-map_ f xs)

derived_no_qed : (n : Name) → IsDerivedName n → bytes_eq n (codes "qed") ≡ false
derived_no_qed n (inl e) = ap (λ x. bytes_eq x (codes "qed")) e
derived_no_qed n (inr h) = ap (λ x. bytes_eq x (codes "qed")) h.1

-- what a sheet that binds says of its steps
pub bound_rule : (db : Database) (s : Sheet) → ((line code : ℕ) → BindFaultAt db s line code → ⊥) → (k : ℕ) (code : ℕ) (rule : ℕ → SheetStep → Bool)
    → slice_get (step_rules db s) k ≡ Some (code, rule) → (i : ℕ) (t : SheetStep) → slice_get (steps s) i ≡ Some t → rule i t ≡ false
bound_rule db s sound k code rule e i t at = elim (cases_Bool (rule i t)) [
  | inl d ↦ absurd (sound t.line code (BindFaultAt.at_step k i {code = code} {rule = rule} {t = t} e at d))
  | inr d ↦ d
]

module _ (db : Database) (options : Options) (w : Writing) (numbers : List ℕ) (ds : List WrittenStep) (S : Setting db options w numbers ds)
    (woven : Woven (λ k s e. slice_get (steps w.read) k ≡ Some s → IsWrittenOf db options w numbers ds S k s e) (IsNewOf db options w numbers ds S) 0
    (steps w.read) (written_steps db options w numbers ds S))
    (rd : Binds db w.read w.bound) (inked : (k : ℕ) (s : SheetStep) → slice_get (steps w.read) k ≡ Some s → list_all is_token s.formula ≡ true) where
  abbrev es : List WrittenStep
  es = written_steps db options w numbers ds S

  abbrev ws : Sheet
  ws = written_sheet db options w

  abbrev Own : ℕ → SheetStep → WrittenStep → Type 0
  Own k s e = IsWrittenOf db options w numbers ds S k s e

  abbrev New : WrittenStep → Type 0
  New e = IsNewOf db options w numbers ds S e

  abbrev Placed : ℕ → SheetStep → WrittenStep → Type 0
  Placed k s e = slice_get (steps w.read) k ≡ Some s → Own k s e

  pub steps_are : steps ws ≡ map (written_step db) es
  steps_are = steps-written db w.items

  -- ---- where the step of a number comes from, with what stands before it

  pub record IsFrom (i : ℕ) (e : WrittenStep) : Type 0 where
    pub number : ℕ
    pub source : SheetStep
    pub at : slice_get (steps w.read) number ≡ Some source
    pub own : Own number source e
    pub before : hyps_before ws i ≡ hyps_before w.read number
    pub labels : (l : Name)
        → list_any (λ (u : SheetStep). u.hyp && has_label u.reference l) (take i (steps ws))
        ≡ list_any (λ (u : SheetStep). u.hyp && has_label u.reference l) (take number (steps w.read))

  -- a part of the steps, each with what it was
  abbrev Held : ℕ → SheetStep → WrittenStep → Type 0
  Held k s e = (slice_get (steps w.read) k ≡ Some s) × Own k s e

  held : (k : ℕ) (xs : List SheetStep) (ys : List WrittenStep)
      → ((j : ℕ) (s : SheetStep) → slice_get xs j ≡ Some s → slice_get (steps w.read) (k + j) ≡ Some s) → Woven Placed New k xs ys
      → Woven Held New k xs ys
  held k [] [] f h = h
  held k (s ∷ xs) [] f h = h
  held k [] (e ∷ ys) f h = (h.0, held k [] ys f h.1)
  held k (s ∷ xs) (e ∷ ys) f (inl h) = inl (h.0, held k (s ∷ xs) ys f h.1)
  held k (s ∷ xs) (e ∷ ys) f (inr h) =
      let p : k + 0 ≡ k = omega arith in
      let at : slice_get (steps w.read) k ≡ Some s = subst (λ n. slice_get (steps w.read) n ≡ Some s) p (f 0 s refl) in
      inr ((at, h.0 at), held (suc k) xs ys (λ j t q. let r : k + suc j ≡ suc k + j = omega arith in subst (λ n. slice_get (steps w.read) n ≡ Some t) r (f (suc j) t q)) h.1)

  woven_held : Woven Held New 0 (steps w.read) es
  woven_held = held 0 (steps w.read) es (λ j s e. let p : j ≡ 0 + j = omega arith in subst (λ n. slice_get (steps w.read) n ≡ Some s) p e) woven

  hyp_same : (k : ℕ) (s : SheetStep) (e : WrittenStep) → Held k s e → e.hyp ≡ s.hyp
  hyp_same k s e h = h.1.hyp

  label_same : (l : Name) (k : ℕ) (s : SheetStep) (e : WrittenStep) → Held k s e → (e.hyp && has_label e.reference l) ≡ (s.hyp && has_label s.reference l)
  label_same l k s e h = ap (λ b. b && has_label e.reference l) h.1.hyp ∙ by s.hyp refl
    where
      by : (b : Bool) → s.hyp ≡ b → (b && has_label e.reference l) ≡ (b && has_label s.reference l)
      by true is = ap (λ r. has_label r l) (h.1.reference is)
      by false is = refl

  from_at : (i : ℕ) (e : WrittenStep) → At Held New 0 (steps w.read) i es e → IsFrom i e
  from_at i e r =
      let own = r.3 in
      let place : 0 + r.0 ≡ r.0 = omega arith in
      let taken : take i (steps ws) ≡ map (written_step db) (take i es) = ap (take i) steps_are ∙ take-map (written_step db) i es in
      record {
        number = r.0;
        source = r.1;
        at = r.2;
        own = subst (λ n. Own n r.1 e) place own.1;
        before =
            ap (λ xs. length (filter (λ (x : SheetStep). x.hyp) xs)) taken
            ∙ ap (λ (xs : List SheetStep). length xs)
            (filter-map_ (written_step db) (λ (x : WrittenStep). x.hyp) (λ (x : SheetStep). x.hyp) (λ x. refl) (take i es))
            ∙ length-map_ (written_step db) (filter (λ (x : WrittenStep). x.hyp) (take i es))
            ∙ woven_count Held New (λ (s : SheetStep). s.hyp) (λ (x : WrittenStep). x.hyp) hyp_same (λ x n. n.hyp) 0 (take r.0 (steps w.read)) (take i es) r.4;
        labels = λ l.
            ap (list_any (λ (u : SheetStep). u.hyp && has_label u.reference l)) taken
            ∙ any-map_ (written_step db) (λ (x : WrittenStep). x.hyp && has_label x.reference l) (λ (u : SheetStep). u.hyp && has_label u.reference l) (λ x. refl) (take i es)
            ∙ woven_any Held New (λ (s : SheetStep). s.hyp && has_label s.reference l) (λ (x : WrittenStep). x.hyp && has_label x.reference l) (label_same l)
            (λ x n. ap (λ b. b && has_label x.reference l) n.hyp) 0 (take r.0 (steps w.read)) (take i es) r.4;
      }

  pub from_where : (i : ℕ) (e : WrittenStep) → slice_get es i ≡ Some e → New e ⊎ IsFrom i e
  from_where i e at = elim (woven_at Held New 0 (steps w.read) es woven_held i e at) [ inl n ↦ inl n | inr r ↦ inr (from_at i e r) ]

  -- ---- a source's own rules

  read_rule : (k : ℕ) (code : ℕ) (rule : ℕ → SheetStep → Bool) → slice_get (step_rules db w.read) k ≡ Some (code, rule) → (i : ℕ) (t : SheetStep)
      → slice_get (steps w.read) i ≡ Some t → rule i t ≡ false
  read_rule = bound_rule db w.read rd.sound

  -- a hypothesis or `qed` is not blank
  pub filled : (k : ℕ) (s : SheetStep) → slice_get (steps w.read) k ≡ Some s → (s.hyp || is_qed s) ≡ true → s.formula ≡ [] → ⊥
  filled k s at h e =
      let rule = read_rule 5 69 _ refl k s at in
      let blank : is_blank s ≡ true = ap (λ (f : List Name). length f == 0) e in
      both_true_false (s.hyp || is_qed s) (is_blank s) h blank rule
    where
      both_true_false : (a b : Bool) → a ≡ true → b ≡ true → (a && b) ≡ false → ⊥
      both_true_false true true p q r = cc
      both_true_false true false p q r = cc
      both_true_false false b p q r = cc

  pub provable : (k : ℕ) (s : SheetStep) → slice_get (steps w.read) k ≡ Some s → (s.formula ≡ [] → ⊥) → begins_with_token db.provable s.formula ≡ true
  provable k s at filled_ =
      let rule = read_rule 3 65 _ refl k s at in
      by s.formula filled_ rule
    where
      by : (f : List Name) → (f ≡ [] → ⊥) → (not (length f == 0) && not (begins_with_token db.provable f)) ≡ false → begins_with_token db.provable f ≡ true
      by [] h e = absurd (h refl)
      by (t ∷ ts) h e = from_not (begins_with_token db.provable (t ∷ ts)) (last_false (not (length (t ∷ ts) == 0)) (some (length ts)) e)
        where
          some : (n : ℕ) → not (suc n == 0) ≡ true
          some n = let off : (suc n == 0) ≡ false = grind (arith, nat_tests) in rw off refl

          last_false : (a : Bool) {b : Bool} → a ≡ true → (a && b) ≡ false → b ≡ false
          last_false true p q = q
          last_false false p q = absurd cc

  pub known : (k : ℕ) (s : SheetStep) → slice_get (steps w.read) k ≡ Some s → list_all (is_known db w.bound.place) s.formula ≡ true
  known k s at = subst (λ p. list_all (is_known db p) s.formula ≡ true) (sym rd.place) (from_not (list_all (is_known db (place_of db w.read)) s.formula) (read_rule 4 66 _ refl k s at))

  -- a formula that is that of the database stays
  stays : (i : ℕ) (e : WrittenStep) (f : IsFrom i e) → (f.source.hyp || is_qed f.source) ≡ true → (formula : List _)
      → same_tokens f.source.formula (names_of db formula) ≡ true → formula_tokens db e.tree ≡ f.source.formula
  stays i e f h formula same =
      let full = filled f.number f.source f.at h in
      ap (formula_tokens db) f.own.tree
      ∙ tokens_stay db options w numbers ds S f.number f.source f.at full (provable f.number f.source f.at full) (known f.number f.source f.at) (inked f.number f.source f.at) formula same

  -- ---- 62

  differ_new : (i : ℕ) (e : WrittenStep) → New e → hyps_differ db ws i (written_step db e) ≡ false
  differ_new i e n = let hyp = n.hyp in let qed = derived_no_qed e.name n.derived in rw (hyp, qed) refl

  hyp_part : (i : ℕ) (e : WrittenStep) (f : IsFrom i e) (n : ℕ) (b : Bool) → f.source.hyp ≡ b
      → (b && option_map_or (λ h. not (is_hyp db h f.source)) (slice_get (given_hyps db w.read) n) (is_some (existing db w.read))) ≡ false
      → (b && option_map_or (λ h. not (is_hyp db h (written_step db e))) (slice_get (given_hyps db w.read) n) (is_some (existing db w.read))) ≡ false
  hyp_part i e f n false is h = refl
  hyp_part i e f n true is h = by (slice_get (given_hyps db w.read) n) h
    where
      asked_of : (f.source.hyp || is_qed f.source) ≡ true
      asked_of = ap (λ b. b || is_qed f.source) is

      by : (o : Option Hyp) → option_map_or (λ h. not (is_hyp db h f.source)) o (is_some (existing db w.read)) ≡ false
          → option_map_or (λ h. not (is_hyp db h (written_step db e))) o (is_some (existing db w.read)) ≡ false
      by None q = q
      by (Some hyp) q =
          let both = and_parts (has_label f.source.reference hyp.name) (same_tokens f.source.formula (names_of db hyp.formula)) (from_not (is_hyp db hyp f.source) q) in
          let label : has_label e.reference hyp.name ≡ true = ap (λ r. has_label r hyp.name) (f.own.reference is) ∙ both.0 in
          let tokens : same_tokens (formula_tokens db e.tree) (names_of db hyp.formula) ≡ true =
          ap (λ ts. same_tokens ts (names_of db hyp.formula)) (stays i e f asked_of hyp.formula both.1) ∙ both.1 in
          rw (label, tokens) refl

  qed_part : (i : ℕ) (e : WrittenStep) (f : IsFrom i e) (n : ℕ) (b : Bool) → is_qed f.source ≡ b
      → (b && (nat_lt n (length (given_hyps db w.read)) || option_map_or (λ (x : Frame). not (same_tokens f.source.formula (names_of db x.formula))) (existing db w.read) false)) ≡ false
      → (b && (nat_lt n (length (given_hyps db w.read)) || option_map_or (λ (x : Frame). not (same_tokens (formula_tokens db e.tree) (names_of db x.formula))) (existing db w.read) false)) ≡ false
  qed_part i e f n false is h = refl
  qed_part i e f n true is h =
      let parts = or_parts (nat_lt n (length (given_hyps db w.read))) _ h in
      or_false _ _ parts.0 (by (existing db w.read) parts.1)
    where
      asked_of : (f.source.hyp || is_qed f.source) ≡ true
      asked_of = ap (λ b. f.source.hyp || b) is ∙ last f.source.hyp
        where
          last : (b : Bool) → (b || true) ≡ true
          last true = refl
          last false = refl

      by : (o : Option Frame) → option_map_or (λ (x : Frame). not (same_tokens f.source.formula (names_of db x.formula))) o false ≡ false
          → option_map_or (λ (x : Frame). not (same_tokens (formula_tokens db e.tree) (names_of db x.formula))) o false ≡ false
      by None q = refl
      by (Some x) q =
          let same = from_not (same_tokens f.source.formula (names_of db x.formula)) q in
          let tokens : same_tokens (formula_tokens db e.tree) (names_of db x.formula) ≡ true = ap (λ ts. same_tokens ts (names_of db x.formula)) (stays i e f asked_of x.formula same) ∙ same in
          rw tokens refl

  differ_own : (i : ℕ) (e : WrittenStep) → IsFrom i e → hyps_differ db ws i (written_step db e) ≡ false
  differ_own i e f =
      let rule = read_rule 0 62 _ refl f.number f.source f.at in
      let parts = or_parts (f.source.hyp && option_map_or (λ h. not (is_hyp db h f.source)) (slice_get (given_hyps db w.read) (hyps_before w.read f.number)) (is_some (existing db w.read))) _ rule in
      let one = hyp_part i e f (hyps_before w.read f.number) f.source.hyp refl parts.0 in
      let two = qed_part i e f (hyps_before w.read f.number) (is_qed f.source) refl parts.1 in
      let qed : is_qed (written_step db e) ≡ is_qed f.source = ap (λ n. bytes_eq n (codes "qed")) f.own.name in
      let hyp = f.own.hyp in
      let before = f.before in
      rw (before, hyp, qed) (or_false _ _ one two)

  -- ---- 63

  taken_own : (i : ℕ) (e : WrittenStep) → IsFrom i e → hyp_label_taken db ws i (written_step db e) ≡ false
  taken_own i e f =
      let rule = read_rule 1 63 _ refl f.number f.source f.at in
      ap (λ b. is_new db w.read && b && nat_le (length (given_hyps db w.read)) (hyps_before ws i)
      && option_map_or (λ l. is_some (label_of db l) || bytes_eq l w.read.theorem) e.reference false) f.own.hyp
      ∙ ap (λ n. is_new db w.read && f.source.hyp && nat_le (length (given_hyps db w.read)) n && option_map_or (λ l. is_some (label_of db l) || bytes_eq l w.read.theorem) e.reference false) f.before
      ∙ by f.source.hyp refl rule
    where
      by : (b : Bool) → f.source.hyp ≡ b
          → (is_new db w.read && b && nat_le (length (given_hyps db w.read)) (hyps_before w.read f.number)
          && option_map_or (λ l. is_some (label_of db l) || bytes_eq l w.read.theorem) f.source.reference false)
          ≡ false
          → (is_new db w.read && b && nat_le (length (given_hyps db w.read)) (hyps_before w.read f.number)
          && option_map_or (λ l. is_some (label_of db l) || bytes_eq l w.read.theorem) e.reference false)
          ≡ false
      by true is q =
          ap (λ r. is_new db w.read && true && nat_le (length (given_hyps db w.read)) (hyps_before w.read f.number)
          && option_map_or (λ l. is_some (label_of db l) || bytes_eq l w.read.theorem) r false) (f.own.reference is) ∙ q
      by false is q =
          ap (λ b. b && nat_le (length (given_hyps db w.read)) (hyps_before w.read f.number)
          && option_map_or (λ l. is_some (label_of db l) || bytes_eq l w.read.theorem) e.reference false) (and_false (is_new db w.read))

  taken_new : (i : ℕ) (e : WrittenStep) → New e → hyp_label_taken db ws i (written_step db e) ≡ false
  taken_new i e n =
      ap (λ b. is_new db w.read && b && nat_le (length (given_hyps db w.read)) (hyps_before ws i) && option_map_or (λ l. is_some (label_of db l) || bytes_eq l w.read.theorem) e.reference false) n.hyp
      ∙ ap
      (λ b. b && nat_le (length (given_hyps db w.read)) (hyps_before ws i)
      && option_map_or (λ l. is_some (label_of db l) || bytes_eq l w.read.theorem) e.reference false)
      (and_false (is_new db w.read))

  -- ---- 64 and 72

  with_own : (i : ℕ) (e : WrittenStep) → IsFrom i e → hyp_with_hyps (written_step db e) ≡ false
  with_own i e f = ap (λ b. b && not (length e.places == 0)) f.own.hyp ∙ by f.source.hyp refl (read_rule 2 64 _ refl f.number f.source f.at)
    where
      by : (b : Bool) → f.source.hyp ≡ b → (b && not (length f.source.places == 0)) ≡ false → (b && not (length e.places == 0)) ≡ false
      by true is q = ap (λ (n : ℕ). not (n == 0)) (f.own.places is) ∙ q
      by false is q = refl

  twice_own : (i : ℕ) (e : WrittenStep) → IsFrom i e → hyp_label_twice ws i (written_step db e) ≡ false
  twice_own i e f =
      ap (λ b. b
      && option_map_or (λ l. list_any (λ (u : SheetStep). u.hyp && has_label u.reference l) (take i (steps ws))) e.reference false) f.own.hyp
      ∙ by f.source.hyp refl (read_rule 7 72 _ refl f.number f.source f.at)
    where
      same : (o : Option Name)
          → option_map_or (λ l. list_any (λ (u : SheetStep). u.hyp && has_label u.reference l) (take i (steps ws))) o false
          ≡ option_map_or (λ l. list_any (λ (u : SheetStep). u.hyp && has_label u.reference l) (take f.number (steps w.read))) o false
      same None = refl
      same (Some l) = f.labels l

      by : (b : Bool) → f.source.hyp ≡ b → (b && option_map_or (λ l. list_any (λ (u : SheetStep). u.hyp && has_label u.reference l) (take f.number (steps w.read))) f.source.reference false) ≡ false
          → (b && option_map_or (λ l. list_any (λ (u : SheetStep). u.hyp && has_label u.reference l) (take i (steps ws))) e.reference false) ≡ false
      by true is q =
          ap (λ r. option_map_or (λ l. list_any (λ (u : SheetStep). u.hyp && has_label u.reference l) (take i (steps ws))) r false) (f.own.reference is) ∙ same f.source.reference ∙ q
      by false is q = refl

  -- ---- all of them

  module _ (provable_known : is_known db w.bound.place db.provable ≡ true)
      (back : (i : ℕ) (t : Tree) → slice_get (trees es) i ≡ Some t → (x : Leaf) → Contains (text db.rows t) x
      → leaf_of db w.bound.place (leaf_name db x) ≡ Some x)
      (short : (i : ℕ) (e : WrittenStep) → slice_get es i ≡ Some e → most_formula_tokens < length (formula_tokens db e.tree) → ⊥) where
    names_known : (xs : List Leaf) → ((x : Leaf) → Contains xs x → leaf_of db w.bound.place (leaf_name db x) ≡ Some x) → list_all (is_known db w.bound.place) (map (leaf_name db) xs) ≡ true
    names_known [] h = refl
    names_known (x ∷ xs) h =
        let one : is_known db w.bound.place (leaf_name db x) ≡ true = ap is_some (h x (0, omega arith, refl)) in
        let rest = names_known xs (λ y m. h y (further y m)) in
        rw (one, rest) refl
      where
        further : (y : Leaf) → Contains xs y → Contains (x ∷ xs) y
        further y (k, l, e) = (suc k, omega (arith, l), e)

    unknown_false : (i : ℕ) (e : WrittenStep) → slice_get es i ≡ Some e → unknown_symbol db ws (written_step db e) ≡ false
    unknown_false i e at =
        let first = provable_known in
        let rest = names_known (text db.rows e.tree) (back i e.tree (get_map (λ (x : WrittenStep). x.tree) es i e at)) in
        let all : list_all (is_known db w.bound.place) (formula_tokens db e.tree) ≡ true = rw (first, rest) refl in
        ap (λ p. not (list_all (is_known db p) (formula_tokens db e.tree))) (sym rd.place) ∙ ap not all

    provable_false : (e : WrittenStep) → not_provable db (written_step db e) ≡ false
    provable_false e = let self : bytes_eq db.provable db.provable ≡ true = (bytes_eq-Decides db.provable db.provable).1 refl in
        ap (λ b. not (is_blank (written_step db e)) && not b) self ∙ and_false (not (is_blank (written_step db e)))

    filled_false : (e : WrittenStep) → is_blank (written_step db e) ≡ false
    filled_false e = let off : (suc (length (map (leaf_name db) (text db.rows e.tree))) == 0) ≡ false = grind (arith, nat_tests) in off

    wants_false : (e : WrittenStep) → wants_formula (written_step db e) ≡ false
    wants_false e = ap (λ b. (e.hyp || is_qed (written_step db e)) && b) (filled_false e) ∙ and_false (e.hyp || is_qed (written_step db e))

    long_false : (i : ℕ) (e : WrittenStep) → slice_get es i ≡ Some e → formula_long (written_step db e) ≡ false
    long_false i e at = elim (cases_Bool (nat_lt most_formula_tokens (length (formula_tokens db e.tree)))) [
      | inl d ↦ absurd (short i e at (above (length (formula_tokens db e.tree)) d))
      | inr d ↦ d
    ]
      where
        above : (n : ℕ) → nat_lt most_formula_tokens n ≡ true → most_formula_tokens < n
        above n d = grind (arith, nat_tests, d)

    both : (rule : ℕ → SheetStep → Bool) → ((i : ℕ) (e : WrittenStep) → New e → rule i (written_step db e) ≡ false)
        → ((i : ℕ) (e : WrittenStep) → IsFrom i e → rule i (written_step db e) ≡ false)
        → (i : ℕ) (e : WrittenStep) → slice_get es i ≡ Some e → rule i (written_step db e) ≡ false
    both rule n f i e at = elim (from_where i e at) [ inl x ↦ n i e x | inr x ↦ f i e x ]

    abbrev Fails : ℕ × (ℕ → SheetStep → Bool) → Type 0
    Fails p = (i : ℕ) (e : WrittenStep) → slice_get es i ≡ Some e → p.1 i (written_step db e) ≡ false

    pub rules_fail : AllByRecursion Fails (step_rules db ws)
    rules_fail = (
      both (hyps_differ db ws) differ_new differ_own,
      (
        both (hyp_label_taken db ws) taken_new taken_own,
        (
          both (λ i t. hyp_with_hyps t) (λ i e n. ap (λ b. b && not (length e.places == 0)) n.hyp) with_own,
          (
            (λ i e at. provable_false e),
            (
              unknown_false,
              (
                (λ i e at. wants_false e),
                (
                  long_false,
                  (
                    both (hyp_label_twice ws)
                        (λ i e n. ap
                        (λ b. b
                        && option_map_or
                        (λ l. list_any (λ (u : SheetStep). u.hyp && has_label u.reference l)
                        (take i (steps ws))) e.reference false) n.hyp) twice_own,
                    tt,
                  ),
                ),
              ),
            ),
          ),
        ),
      ),
    )
