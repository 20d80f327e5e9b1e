-- Writings that are one but for the numbers of lines and of fresh leaves have one text, one report, one end and the same late faults.
use Rattle.std.specs.Prelude.{◌≡◌, ◌<◌, ◌==◌, ℕ, Bool, true, false, IsTrue, List, [], ◌∷◌, length, map, if◌then◌else◌, unwrap_or, Some, None, refl}
use Rattle.std.specs.List.{last_or}
use Rattle.std.proofs.Common.{sym, ap, subst, ◌∙◌, inl, inr, eq-eqb}
use Rattle.std.proofs.lemmas.Bool.{both_ways}
use Rattle.mm_base.specs.declared.symbols.Pair.{Pair}
use Rattle.mm_base.specs.Limits.{most_formula_tokens, most_sheet_bytes, most_work_size, most_proof_labels}
use Rattle.mm_model.specs.Book.{Database}
use Rattle.proof_model.specs.declared.theorem.Theorem.{Theorem}
use Rattle.proof_model.specs.Proofs.{postorder}
use Rattle.sheet_text.specs.declared.sheet.Sheet.{Sheet}
use Rattle.sheet_text.specs.declared.sheet.SheetItem.{SheetItem}
use Rattle.sheet_text.specs.Layout.{layout, spaced}
use Rattle.proof_model.specs.ProofCode.{spelled}
use Rattle.proof_model.specs.Codes.{code_of_proof}
use Rattle.solve_model.specs.Binding.{theorem_of}
use Rattle.solve_laws.proofs.OneJudgement.{first_is_one}
use Rattle.sheet_text.specs.Reads.{unnumbered}
use Rattle.solve_model.specs.declared.bound.Bound.{Bound}
use Rattle.solve_model.specs.declared.bound.BoundStep.{BoundStep}
use Rattle.solve_model.specs.Firsts.{IsFirstIn}
use Rattle.solve_model.specs.Formulas.{HasTwoTrees}
use Rattle.solve_model.specs.Bound.{work_size}
use Rattle.written_model.specs.declared.options.Options.{Options}
use Rattle.written_model.specs.declared.options.ProofStyle.{ProofStyle}
use Rattle.written_model.specs.declared.options.ProofStyle.TheVariants as style
use Rattle.written_model.specs.WrittenSteps.{WrittenStep, WrittenItem, comment, step, steps_in}
use Rattle.written_model.specs.Pairs.{pairs_of}
use Rattle.written_model.specs.ProofTrees.{step_proofs, no_proof}
use Rattle.written_model.specs.Report.{report_of, report_lines}
use Rattle.fault_lines.specs.Refusals.{Refusal, told_number, formula_too_long, written_two_trees, too_much_written, proof_too_long, too_large}
use Rattle.written_model.specs.Written.{Writing, written_item, written_pair, written_pairs, written_sheet, written_theorem, written_proof}
use Rattle.written_model.specs.Written.{written_text, written_report, qed_proof, proof_text, formula_tokens, IsTooLong, IsAmbiguous, bound_step}
use Rattle.written_model.specs.Written.{written_bound, label_count, LateFault}
use Rattle.written_model.specs.WrittenAgain.{SameWriting}
use Rattle.answer_laws.proofs.Moved.{steps-over}
use Rattle.answer_laws.proofs.SearchedAlike.{bare_step, bare_items}
use Rattle.answer_laws.proofs.BareWriting.{bare-pairs, bare-report, bare-proofs}

-- what two writings have in common
pub record SameParts (w v : Writing) : Type 0 where
  pub read : unnumbered w.read ≡ unnumbered v.read
  pub place : w.bound.place ≡ v.bound.place
  pub existing : w.bound.existing ≡ v.bound.existing
  pub pairs : w.bound.pairs ≡ v.bound.pairs
  pub items : bare_items w.items ≡ bare_items v.items

-- what is true of the one exactly where of the other is one Bool
pub one_bool : (a b : Bool) → (IsTrue a → IsTrue b) → (IsTrue b → IsTrue a) → a ≡ b
one_bool true true f g = refl
one_bool false false f g = refl
one_bool true false f g = sym (f refl)
one_bool false true f g = g refl

items_written : (db : Database) (is : List WrittenItem) → map (written_item db) (bare_items is) ≡ map (written_item db) is
items_written db [] = refl
items_written db (comment lines ∷ is) = ap (λ xs. written_item db (comment lines) ∷ xs) (items_written db is)
items_written db (step e ∷ is) = ap (λ xs. written_item db (step e) ∷ xs) (items_written db is)

steps_bound : (es : List WrittenStep) (db : Database) (options : Options) (w : Writing) → map (bound_step db options w) (map bare_step es) ≡ map (bound_step db options w) es
steps_bound [] db options w = refl
steps_bound (e ∷ es) db options w = ap (λ xs. bound_step db options w e ∷ xs) (steps_bound es db options w)

module _ (db : Database) (options : Options) (w v : Writing) (h : SameParts w v) where
  pub same_steps : map bare_step (steps_in w.items) ≡ map bare_step (steps_in v.items)
  same_steps = sym (steps-over bare_step w.items) ∙ ap steps_in h.items ∙ steps-over bare_step v.items

  same_pairs : written_pairs db options w ≡ written_pairs db options v
  same_pairs =
      sym (bare-pairs options.dv w.bound.pairs (steps_in w.items)) ∙ ap (pairs_of options.dv w.bound.pairs) same_steps ∙ bare-pairs options.dv w.bound.pairs (steps_in v.items)
      ∙ ap (λ ps. pairs_of options.dv ps (steps_in v.items)) h.pairs

  same_items : map (written_item db) w.items ≡ map (written_item db) v.items
  same_items = sym (items_written db w.items) ∙ ap (map (written_item db)) h.items ∙ items_written db v.items

  pub same_sheet : written_sheet db options w ≡ written_sheet db options v
  same_sheet =
      let with : Sheet → List SheetItem → List Pair → Sheet = λ s is ps. record { line = 0; theorem = s.theorem; loc = s.loc; items = is; pairs = map (written_pair db) ps } in
      ap (λ s. with s (map (written_item db) w.items) (written_pairs db options w)) h.read
      ∙ ap (λ is. with (unnumbered v.read) is (written_pairs db options w)) same_items
      ∙ ap (with (unnumbered v.read) (map (written_item db) v.items)) same_pairs

  pub same_theorem : written_theorem db options w ≡ written_theorem db options v
  same_theorem = ap (theorem_of db) same_sheet

  pub same_qed : (t : Theorem) → qed_proof db t (steps_in w.items) ≡ qed_proof db t (steps_in v.items)
  same_qed t =
      ap (λ ps. unwrap_or (last_or None ps) no_proof)
      (sym (bare-proofs db t.hyps (steps_in w.items)) ∙ ap (step_proofs db t.hyps) same_steps ∙ bare-proofs db t.hyps (steps_in v.items))

  pub same_bound : written_bound db options w ≡ written_bound db options v
  same_bound =
      let with = λ (p : ℕ) (e : Bool) (ss : List BoundStep) (ps : List Pair) (t : Theorem). let b : Bound = record { place = p; existing = e; steps = ss; pairs = ps; theorem = t } in b in
      let steps_same : map (bound_step db options w) (steps_in w.items) ≡ map (bound_step db options w) (steps_in v.items) =
      sym (steps_bound (steps_in w.items) db options w) ∙ ap (map (bound_step db options w)) same_steps ∙ steps_bound (steps_in v.items) db options w in
      ap (λ p. with p w.bound.existing (map (bound_step db options w) (steps_in w.items)) (written_pairs db options w) (written_theorem db options w)) h.place
      ∙ ap (λ e. with v.bound.place e (map (bound_step db options w) (steps_in w.items)) (written_pairs db options w) (written_theorem db options w)) h.existing
      ∙ ap (λ ss. with v.bound.place v.bound.existing ss (written_pairs db options w) (written_theorem db options w)) steps_same
      ∙ ap (λ ps. with v.bound.place v.bound.existing (map (bound_step db options w) (steps_in v.items)) ps (written_theorem db options w)) same_pairs
      ∙ ap (with v.bound.place v.bound.existing (map (bound_step db options w) (steps_in v.items)) (written_pairs db options v)) same_theorem

-- what two writings with one text have in common
pub record SameText (db : Database) (options : Options) (w v : Writing) : Type 0 where
  pub sheet : written_sheet db options w ≡ written_sheet db options v
  pub bound : written_bound db options w ≡ written_bound db options v
  pub proofs : (t : Theorem) → qed_proof db t (steps_in w.items) ≡ qed_proof db t (steps_in v.items)
  pub ends : w.finished ≡ v.finished

pub text_turned : (db : Database) (options : Options) (w v : Writing) → SameText db options w v → SameText db options v w
text_turned db options w v h = record { sheet = sym h.sheet; bound = sym h.bound; proofs = λ t. sym (h.proofs t); ends = sym h.ends }

pub text_by_parts : (db : Database) (options : Options) (w v : Writing) → SameParts w v → w.finished ≡ v.finished → SameText db options w v
text_by_parts db options w v h ends = record { sheet = same_sheet db options w v h; bound = same_bound db options w v h; proofs = same_qed db options w v h; ends = ends }

module _ (db : Database) (options : Options) (w v : Writing) (h : SameText db options w v) where
  theorem_same : written_theorem db options w ≡ written_theorem db options v
  theorem_same = ap (theorem_of db) h.sheet

  proof_text_same : (s : ProofStyle) (t : Theorem) → proof_text db s t (steps_in w.items) ≡ proof_text db s t (steps_in v.items)
  proof_text_same style.Normal t = ap (λ p. spaced (postorder p)) (h.proofs t)
  proof_text_same style.Compressed t = ap (λ p. spelled (length t.mandatory) (code_of_proof t.mandatory p)) (h.proofs t)

  proof_same : written_proof db options w ≡ written_proof db options v
  proof_same =
      ap (λ b. if b then Some (proof_text db options.style (written_theorem db options w) (steps_in w.items)) else None) h.ends
      ∙ ap (λ t. if v.finished then Some (proof_text db options.style t (steps_in w.items)) else None) theorem_same
      ∙ ap (λ p. if v.finished then Some p else None) (proof_text_same options.style (written_theorem db options v))

  pub text_same : written_text db options w ≡ written_text db options v
  text_same = ap (λ s. layout s (written_proof db options w)) h.sheet ∙ ap (layout (written_sheet db options v)) proof_same

  labels_same : label_count db options w ≡ label_count db options v
  labels_same = ap (λ p. length (postorder p)) (h.proofs (written_theorem db options w)) ∙ ap (λ t. length (postorder (qed_proof db t (steps_in v.items)))) theorem_same

module _ (db : Database) (options : Options) (w v : Writing) (h : SameParts w v) (ends : w.finished ≡ v.finished) where
  same_report : written_report db options w ≡ written_report db options v
  same_report =
      sym (bare-report options.dv w.bound.pairs (steps_in w.items)) ∙ ap (map (report_of options.dv w.bound.pairs)) (same_steps db options w v h)
      ∙ bare-report options.dv w.bound.pairs (steps_in v.items)
      ∙ ap (λ ps. map (report_of options.dv ps) (steps_in v.items)) h.pairs

  pub same_writing : SameWriting db options w v
  same_writing = record {
    text = text_same db options w v (text_by_parts db options w v h ends);
    log = ap (λ r. report_lines db r w.finished) same_report ∙ ap (report_lines db (written_report db options v)) ends;
    finished = ends;
  }

-- ---- the first step with a property

-- what a late fault sees of a step
abbrev seen : WrittenStep → BoundStep
seen e = record { line = 0; hyp = e.hyp; name = e.name; places = e.places; reference = e.reference; tree = Some e.tree }

pub record FirstThere (P : WrittenStep → Type 0) (fs : List WrittenStep) (e : WrittenStep) : Type 0 where
  pub other : WrittenStep
  pub is_first : IsFirstIn P fs other
  pub same : seen e ≡ seen other

first_there : (P R : WrittenStep → Type 0) → ((x y : WrittenStep) → seen x ≡ seen y → P x → R y) → ((x y : WrittenStep) → seen x ≡ seen y → R y → P x)
    → (es fs : List WrittenStep) → map seen es ≡ map seen fs → (e : WrittenStep) → IsFirstIn P es e → FirstThere R fs e
first_there P R f g [] fs h e k = absurd (cc)
first_there P R f g (x ∷ es) [] h e k = absurd (cc)
first_there P R f g (x ∷ es) (y ∷ fs) h e (inl k) =
    let same : seen x ≡ seen y = cc in
    let is : e ≡ x = cc in
    record { other = y; is_first = inl (refl, f x y same k.1); same = ap seen is ∙ same }
first_there P R f g (x ∷ es) (y ∷ fs) h e (inr k) =
    let same : seen x ≡ seen y = cc in
    let rest : map seen es ≡ map seen fs = cc in
    let r = first_there P R f g es fs rest e k.1 in
    record { other = r.other; is_first = inr ((λ q. k.0 (g x y same q)), r.is_first); same = r.same }

seen_tree : (x y : WrittenStep) → seen x ≡ seen y → x.tree ≡ y.tree
seen_tree x y e = let same : Some x.tree ≡ Some y.tree = ap (λ (s : BoundStep). s.tree) e in cc

seen_name : (x y : WrittenStep) → seen x ≡ seen y → x.name ≡ y.name
seen_name x y e = ap (λ (s : BoundStep). s.name) e

-- ---- late faults

module _ (db : Database) (options : Options) (w v : Writing) (h : SameText db options w v) where
  seen_same : map seen (steps_in w.items) ≡ map seen (steps_in v.items)
  seen_same = ap (λ (b : Bound). b.steps) h.bound

  place_same : w.bound.place ≡ v.bound.place
  place_same = ap (λ (b : Bound). b.place) h.bound

  long_moved : (x y : WrittenStep) → seen x ≡ seen y → IsTooLong db options w x → IsTooLong db options v y
  long_moved x y e k = subst (λ t. most_formula_tokens < length (formula_tokens db t)) (seen_tree x y e) k

  ambiguous_moved : (x y : WrittenStep) → seen x ≡ seen y → IsAmbiguous db options w x → IsAmbiguous db options v y
  ambiguous_moved x y e k =
      subst (λ t. HasTwoTrees db v.bound.place (formula_tokens db t)) (seen_tree x y e) (subst (λ p. HasTwoTrees db p (formula_tokens db x.tree)) place_same k)

module _ (db : Database) (options : Options) (w v : Writing) (h : SameText db options w v) where
  long_same : (x y : WrittenStep) → seen x ≡ seen y
      → formula_too_long x.name (told_number (length (formula_tokens db x.tree)))
      ≡ formula_too_long y.name (told_number (length (formula_tokens db y.tree)))
  long_same x y e =
      ap (λ n. formula_too_long n (told_number (length (formula_tokens db x.tree)))) (seen_name x y e)
      ∙ ap (λ t. formula_too_long y.name (told_number (length (formula_tokens db t)))) (seen_tree x y e)

  pub late_moved : (k : ℕ) (r : Refusal) → LateFault db options w k r → LateFault db options v k r
  late_moved k r (LateFault.long e f) =
      let t = first_there (IsTooLong db options w) (IsTooLong db options v) (long_moved db options w v h) (λ x y q. long_moved db options v w (text_turned db options w v h) y x (sym q))
      (steps_in w.items) (steps_in v.items) (seen_same db options w v h) e f in
      subst (LateFault db options v 0) (sym (long_same e t.other t.same)) (LateFault.long t.other t.is_first)
  late_moved k r (LateFault.ambiguous e f) =
      let t = first_there (IsAmbiguous db options w) (IsAmbiguous db options v) (ambiguous_moved db options w v h) (λ x y q. ambiguous_moved db options v w (text_turned db options w v h) y x (sym q))
      (steps_in w.items) (steps_in v.items) (seen_same db options w v h) e f in
      subst (LateFault db options v 1) (ap written_two_trees (sym (seen_name e t.other t.same))) (LateFault.ambiguous t.other t.is_first)
  late_moved k r (LateFault.much l) =
      let same : work_size db (written_bound db options w) ≡ work_size db (written_bound db options v) = ap (work_size db) h.bound in
      subst (λ n. LateFault db options v 2 (too_much_written (told_number n))) (sym same) (LateFault.much (subst (λ n. most_work_size < n) same l))
  late_moved k r (LateFault.proof f s l) =
      let same = labels_same db options w v h in
      subst (λ n. LateFault db options v 3 (proof_too_long (told_number n))) (sym same) (LateFault.proof (sym h.ends ∙ f) s (subst (λ n. most_proof_labels < n) same l))
  late_moved k r (LateFault.large l) =
      let same = ap length (text_same db options w v h) in
      subst (λ n. LateFault db options v 4 (too_large (told_number n))) (sym same) (LateFault.large (subst (λ n. most_sheet_bytes < n) same l))

-- ---- a writing has one late fault of a rank

one_first : {X : Type 0} (P : X → Type 0) (xs : List X) (x y : X) → IsFirstIn P xs x → IsFirstIn P xs y → x ≡ y
one_first P xs x y h k = first_is_one P xs x y h k

abbrev IsOnly : Database → Options → Writing → ℕ → Refusal → Type 0
IsOnly db options v n r = (k : ℕ) (q : Refusal) → LateFault db options v k q → k ≡ n → q ≡ r

module _ (db : Database) (options : Options) (v : Writing) where
  not_one : (n m : ℕ) → (n == m) ≡ false → n ≡ m → ⊥
  not_one n m e h = both_ways (n == m) e (eq-eqb n m h)

  pub only : (n : ℕ) (r : Refusal) → LateFault db options v n r → IsOnly db options v n r
  only n r (LateFault.long e f) k q (LateFault.long d g) h =
      ap (λ (x : WrittenStep). formula_too_long x.name (told_number (length (formula_tokens db x.tree)))) (one_first (IsTooLong db options v) (steps_in v.items) d e g f)
  only n r (LateFault.long e f) k q (LateFault.ambiguous d g) h = absurd (not_one 1 0 refl h)
  only n r (LateFault.long e f) k q (LateFault.much l) h = absurd (not_one 2 0 refl h)
  only n r (LateFault.long e f) k q (LateFault.proof a b l) h = absurd (not_one 3 0 refl h)
  only n r (LateFault.long e f) k q (LateFault.large l) h = absurd (not_one 4 0 refl h)
  only n r (LateFault.ambiguous e f) k q (LateFault.long d g) h = absurd (not_one 0 1 refl h)
  only n r (LateFault.ambiguous e f) k q (LateFault.ambiguous d g) h = ap (λ (x : WrittenStep). written_two_trees x.name) (one_first (IsAmbiguous db options v) (steps_in v.items) d e g f)
  only n r (LateFault.ambiguous e f) k q (LateFault.much l) h = absurd (not_one 2 1 refl h)
  only n r (LateFault.ambiguous e f) k q (LateFault.proof a b l) h = absurd (not_one 3 1 refl h)
  only n r (LateFault.ambiguous e f) k q (LateFault.large l) h = absurd (not_one 4 1 refl h)
  only n r (LateFault.much l) k q (LateFault.long d g) h = absurd (not_one 0 2 refl h)
  only n r (LateFault.much l) k q (LateFault.ambiguous d g) h = absurd (not_one 1 2 refl h)
  only n r (LateFault.much l) k q (LateFault.much m) h = refl
  only n r (LateFault.much l) k q (LateFault.proof a b m) h = absurd (not_one 3 2 refl h)
  only n r (LateFault.much l) k q (LateFault.large m) h = absurd (not_one 4 2 refl h)
  only n r (LateFault.proof a b l) k q (LateFault.long d g) h = absurd (not_one 0 3 refl h)
  only n r (LateFault.proof a b l) k q (LateFault.ambiguous d g) h = absurd (not_one 1 3 refl h)
  only n r (LateFault.proof a b l) k q (LateFault.much m) h = absurd (not_one 2 3 refl h)
  only n r (LateFault.proof a b l) k q (LateFault.proof c d m) h = refl
  only n r (LateFault.proof a b l) k q (LateFault.large m) h = absurd (not_one 4 3 refl h)
  only n r (LateFault.large l) k q (LateFault.long d g) h = absurd (not_one 0 4 refl h)
  only n r (LateFault.large l) k q (LateFault.ambiguous d g) h = absurd (not_one 1 4 refl h)
  only n r (LateFault.large l) k q (LateFault.much m) h = absurd (not_one 2 4 refl h)
  only n r (LateFault.large l) k q (LateFault.proof a b m) h = absurd (not_one 3 4 refl h)
  only n r (LateFault.large l) k q (LateFault.large m) h = refl
