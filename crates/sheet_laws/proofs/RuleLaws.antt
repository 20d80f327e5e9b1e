-- The rules of the statements behind the header, each at a statement of each kind.
use Rattle.std.proofs.Common.{◌≡◌, ℕ, Bool, true, false, not, ◌&&◌, ◌||◌, List, [], ◌∷◌, ◌++◌, Option, Some, None, option_map, refl, sym, ap, ◌∙◌, codes, is_none}
use Rattle.std.specs.Prelude.{filter_map}
use Rattle.std.specs.Option.{option_map_or}
use Rattle.std.specs.List.{list_any, cons_option}
use Rattle.std.specs.Str.{bytes_eq}
use Rattle.mm_model.specs.Faults.{fault, or_else, first_code, first_fault}
use Rattle.mm_model.specs.Names.{contains}
use Rattle.sheet_text.specs.Forms.{StepForm}
use Rattle.sheet_text.specs.SheetStatements.{Statement, line_of, is_comment, is_footer, is_distinct, is_proof}
use Rattle.sheet_text.specs.TextFaults.{step_in, names_in, on_step, is_qed, bad_step, name_twice, hyp_unknown, qed_place, bad_distinct, is_bad_distinct, statement_rules}
use Rattle.sheet_laws.proofs.Tests.{both_false, cond_else}
use Rattle.sheet_laws.proofs.KindLaws.{IsStep, IsNote, IsDistinct, IsProofLine, IsFooterLine}

-- ---- the tables

abbrev pub Passes : List Statement → List Statement → Type 0
Passes before ss = first_fault (λ b s. line_of s) statement_rules before ss ≡ None

-- no rule holds of the statement
pub record IsSound (before : List Statement) (s : Statement) : Type 0 where
  pub form : bad_step before s ≡ false
  pub fresh : name_twice before s ≡ false
  pub known : hyp_unknown before s ≡ false
  pub qed : qed_place before s ≡ false
  pub distinct : bad_distinct before s ≡ false

abbrev Rule : Type 0
Rule = ℕ × (List Statement → Statement → Bool)

no_code : (before : List Statement) (s : Statement) → IsSound before s → first_code statement_rules before s ≡ None
no_code before s h = ap (option_map (λ (r : Rule). r.0))
    (cond_else (bad_step before s) _ _ h.form ∙ cond_else (name_twice before s) _ _ h.fresh ∙ cond_else (hyp_unknown before s) _ _ h.known
    ∙ cond_else (qed_place before s) _ _ h.qed ∙ cond_else (bad_distinct before s) _ _ h.distinct)

pub pass_one : (before : List Statement) (s : Statement) (ss : List Statement) → IsSound before s → Passes (s ∷ before) ss → Passes before (s ∷ ss)
pass_one before s ss h k =
    ap (λ (o : Option ℕ). or_else (option_map (λ code. fault (line_of s) code) o) (first_fault (λ b t. line_of t) statement_rules (s ∷ before) ss)) (no_code before s h) ∙ k

-- ---- the names before

abbrev pub SameNames : List Statement → List (List ℕ) → Type 0
SameNames before done = (q : List ℕ) → contains (names_in before) q ≡ contains done q

pub any_append : (p : List ℕ → Bool) (xs ys : List (List ℕ)) → list_any p (xs ++ ys) ≡ (list_any p xs || list_any p ys)
any_append p [] ys = refl
any_append p (x ∷ xs) ys = elim (p x) as (λ b. (b || list_any p (xs ++ ys)) ≡ ((b || list_any p xs) || list_any p ys)) [ true ↦ refl | false ↦ any_append p xs ys ]

or_turned : (a b : Bool) → (a || b) ≡ (b || (a || false))
or_turned true true = refl
or_turned true false = refl
or_turned false true = refl
or_turned false false = refl

pub names_more : (before : List Statement) (done : List (List ℕ)) (s : Statement) (f : StepForm) → step_in s ≡ Some f → SameNames before done → SameNames (s ∷ before) (done ++ f.name ∷ [])
names_more before done s f e same q =
    ap (λ (o : Option StepForm). contains (cons_option (option_map (λ (g : StepForm). g.name) o) (names_in before)) q) e
    ∙ ap (λ b. bytes_eq q f.name || b) (same q) ∙ or_turned (bytes_eq q f.name) (contains done q) ∙ sym (any_append (bytes_eq q) done (f.name ∷ []))

pub names_kept : (before : List Statement) (done : List (List ℕ)) (s : Statement) → step_in s ≡ None → SameNames before done → SameNames (s ∷ before) done
names_kept before done s e same q = ap (λ (o : Option StepForm). contains (cons_option (option_map (λ (g : StepForm). g.name) o) (names_in before)) q) e ∙ same q

any_same : (p q : List ℕ → Bool) → ((x : List ℕ) → p x ≡ q x) → (xs : List (List ℕ)) → list_any p xs ≡ list_any q xs
any_same p q e [] = refl
any_same p q e (x ∷ xs) = ap (λ b. b || list_any p xs) (e x) ∙ ap (λ b. q x || b) (any_same p q e xs)

-- ---- by kind

pub step_of_form : (p : StepForm → Bool) (s : Statement) (f : StepForm) → step_in s ≡ Some f → on_step p s ≡ p f
step_of_form p s f e = ap (λ (o : Option StepForm). option_map_or p o false) e

pub no_step : (p : StepForm → Bool) (s : Statement) → step_in s ≡ None → on_step p s ≡ false
no_step p s e = ap (λ (o : Option StepForm). option_map_or p o false) e

and_no : (a b : Bool) → b ≡ false → (a && b) ≡ false
and_no true b e = e
and_no false b e = refl

no_and : (a b : Bool) → a ≡ false → (a && b) ≡ false
no_and true b e = absurd (cc)
no_and false b e = refl

pub not_yes : (b : Bool) → b ≡ true → not b ≡ false
not_yes true e = refl
not_yes false e = absurd (cc)

known_form : (s : Statement) (f : StepForm) → step_in s ≡ Some f → is_none (step_in s) ≡ false
known_form s f e = ap (λ (o : Option StepForm). is_none o) e

note_no_step : (s : Statement) → is_comment s ≡ true → step_in s ≡ None
note_no_step s e = rw e refl

pub step-sound : (before : List Statement) (done : List (List ℕ)) (s : Statement) (f : StepForm) → SameNames before done → IsStep s f
    → contains done f.name ≡ false → contains done (codes "qed") ≡ false → (is_qed f && f.hyp) ≡ false
    → list_any (λ e. not (contains done e)) (filter_map (λ (e : Option (List ℕ)). e) f.entries) ≡ false → IsSound before s
step-sound before done s f same k fresh no_qed qed known = record {
  form = no_and _ (not (is_footer s)) (no_and _ (not (is_proof s)) (no_and _ (not (is_distinct s)) (and_no (not (is_comment s)) _ (known_form s f k.form))));
  fresh = step_of_form (λ g. contains (names_in before) g.name) s f k.form ∙ same f.name ∙ fresh;
  known = step_of_form (λ g. list_any (λ e. not (contains (names_in before) e)) (filter_map (λ (e : Option (List ℕ)). e) g.entries)) s f k.form
      ∙ any_same (λ e. not (contains (names_in before) e)) (λ e. not (contains done e)) (λ e. ap not (same e)) (filter_map (λ (e : Option (List ℕ)). e) f.entries) ∙ known;
  qed = both_false _ _ (step_of_form (λ g. contains (names_in before) (codes "qed") || (is_qed g && g.hyp)) s f k.form ∙ both_false _ _ (same (codes "qed") ∙ no_qed) qed) (no_and _ _ k.footer);
  distinct = no_and _ _ k.distinct;
}

pub note-sound : (before : List Statement) (s : Statement) → IsNote s → IsSound before s
note-sound before s k = let n = note_no_step s k.comment in record {
  form = no_and _ (not (is_footer s)) (no_and _ (not (is_proof s)) (no_and _ (not (is_distinct s)) (no_and (not (is_comment s)) (is_none (step_in s)) (not_yes _ k.comment))));
  fresh = no_step (λ g. contains (names_in before) g.name) s n;
  known = no_step (λ g. list_any (λ e. not (contains (names_in before) e)) (filter_map (λ (e : Option (List ℕ)). e) g.entries)) s n;
  qed = both_false _ _ (no_step (λ g. contains (names_in before) (codes "qed") || (is_qed g && g.hyp)) s n) (no_and _ _ k.footer);
  distinct = no_and _ _ k.distinct;
}

pub pair-sound : (before : List Statement) (s : Statement) (names : List (List ℕ)) → IsDistinct s names → is_bad_distinct names ≡ false → IsSound before s
pair-sound before s names k h = record {
  form = no_and _ (not (is_footer s)) (no_and _ (not (is_proof s)) (and_no (not (is_comment s) && is_none (step_in s)) _ (not_yes _ k.distinct)));
  fresh = no_step (λ g. contains (names_in before) g.name) s k.form;
  known = no_step (λ g. list_any (λ e. not (contains (names_in before) e)) (filter_map (λ (e : Option (List ℕ)). e) g.entries)) s k.form;
  qed = both_false _ _ (no_step (λ g. contains (names_in before) (codes "qed") || (is_qed g && g.hyp)) s k.form) (no_and _ _ k.footer);
  distinct = and_no (is_distinct s) _ (ap is_bad_distinct k.symbols ∙ h);
}

pub proof-sound : (before : List Statement) (s : Statement) → IsProofLine s → IsSound before s
proof-sound before s k = record {
  form = no_and _ (not (is_footer s)) (and_no (not (is_comment s) && is_none (step_in s) && not (is_distinct s)) _ (not_yes _ k.proof));
  fresh = no_step (λ g. contains (names_in before) g.name) s k.form;
  known = no_step (λ g. list_any (λ e. not (contains (names_in before) e)) (filter_map (λ (e : Option (List ℕ)). e) g.entries)) s k.form;
  qed = both_false _ _ (no_step (λ g. contains (names_in before) (codes "qed") || (is_qed g && g.hyp)) s k.form) (no_and _ _ k.footer);
  distinct = no_and _ _ k.distinct;
}

pub footer-sound : (before : List Statement) (done : List (List ℕ)) (s : Statement) → SameNames before done → IsFooterLine s → contains done (codes "qed") ≡ true → IsSound before s
footer-sound before done s same k q = record {
  form = and_no (not (is_comment s) && is_none (step_in s) && not (is_distinct s) && not (is_proof s)) _ (not_yes _ k.footer);
  fresh = no_step (λ g. contains (names_in before) g.name) s k.form;
  known = no_step (λ g. list_any (λ e. not (contains (names_in before) e)) (filter_map (λ (e : Option (List ℕ)). e) g.entries)) s k.form;
  qed = both_false _ _ (no_step (λ g. contains (names_in before) (codes "qed") || (is_qed g && g.hyp)) s k.form) (and_no (is_footer s) _ (not_yes _ (same (codes "qed") ∙ q)));
  distinct = no_and _ _ k.distinct;
}
