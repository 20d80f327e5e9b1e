-- The bytes of a written proof may stand in a database, and none is a dollar.
use Rattle.std.specs.Prelude.{◌≡◌, ◌≤◌, ◌||◌, ◌&&◌, ◌==◌, ◌-◌, ◌+◌, ◌*◌, ℕ, Bool, true, false, not, List, [], ◌∷◌, ◌++◌, length, Contains, Option, Some, None, option_map, option_and_then, codes, refl}
use Rattle.std.specs.List.{AllByRecursion, list_any, list_all}
use Rattle.std.specs.Str.{bytes_eq}
use Rattle.std.proofs.Common.{sym, subst, cond, arith}
use Rattle.std.proofs.lemmas.Bool.{and_from, and_parts}
use Rattle.std.proofs.lemmas.Bool.Decides.{nat_tests}
use Rattle.std.proofs.lemmas.Slice.Eq.{bytes_eq-Decides}
use Rattle.mm_base.specs.declared.symbols.Label.{Label}
use Rattle.mm_model.specs.declared.frames.Hyp.{Hyp}
use Rattle.mm_model.specs.declared.frames.Frame.{Frame}
use Rattle.mm_model.specs.Frames.{without_repeats}
use Rattle.mm_model.specs.Labels.{is_label, is_label_byte}
use Rattle.mm_model.specs.Names.{Name, contains}
use Rattle.mm_model.specs.Tokens.{is_bad_byte}
use Rattle.mm_model.specs.Book.{Database, label_of}
use Rattle.proof_model.specs.declared.code.Step.{Step}
use Rattle.proof_model.specs.declared.code.What.{What}
use Rattle.proof_model.specs.declared.code.What.TheVariants as what
use Rattle.proof_model.specs.declared.theorem.Theorem.{Theorem}
use Rattle.proof_model.specs.Arities.{HasArities, HaveArities}
use Rattle.proof_model.specs.Codes.{code_of_proof}
use Rattle.proof_model.specs.Machine.{Frames}
use Rattle.proof_model.specs.ProofCode.{is_last, is_leading, EndsNumber, SpellsWhat, SpellsSteps, mark, steps_letters}
use Rattle.proof_model.specs.Proofs.{Proof, Proofs, by, none, next, listed, postorder, postorders}
use Rattle.proof_laws.proofs.NumberLaws.{spells_steps}
use Rattle.sheet_laws.proofs.SplitLaws.{all_joined, label_all}
use Rattle.sheet_laws.proofs.Tests.{all_append}
use Rattle.written_model.specs.declared.options.ProofStyle.{ProofStyle}
use Rattle.written_model.specs.declared.options.ProofStyle.TheVariants as style
use Rattle.written_model.specs.WrittenSteps.{WrittenStep}
use Rattle.written_model.specs.Written.{frames_of, qed_proof, proof_text}
use Rattle.push_laws.proofs.ActiveHyps.{label_stands_at}
use Rattle.push_laws.proofs.Facts.{IsBook}
use Rattle.push_laws.proofs.Lists.{any_contains, get_contains}

-- ---- bytes

abbrev pub is_fine : ℕ → Bool
is_fine b = not (is_bad_byte b) && not (b == 36)

fine_between : (b : ℕ) → 37 ≤ b → b ≤ 126 → is_fine b ≡ true
fine_between b l m = grind (arith, nat_tests)

label_fine : (b : ℕ) → is_label_byte b ≡ true → is_fine b ≡ true
label_fine b h = grind (arith, nat_tests)

last_fine : (b : ℕ) → is_last b ≡ true → is_fine b ≡ true
last_fine b h = grind (arith, nat_tests)

leading_fine : (b : ℕ) → is_leading b ≡ true → is_fine b ≡ true
leading_fine b h = grind (arith, nat_tests)

-- ---- letters

abbrev AreFine : List ℕ → Type 0
AreFine bs = list_all is_fine bs ≡ true

number_fine : (v n : ℕ) (letters : List ℕ) → EndsNumber v letters n → AreFine letters
number_fine v n [] h = absurd h
number_fine v n (b ∷ []) h = and_from (is_fine b) true (last_fine b h.0) refl
number_fine v n (b ∷ c ∷ bs) h = and_from (is_fine b) (list_all is_fine (c ∷ bs)) (leading_fine b h.0) (number_fine (5 * v + (b - 84)) n (c ∷ bs) h.1)

what_fine : (m n : ℕ) (letters : List ℕ) (w : What) → SpellsWhat m n letters w → AreFine letters
what_fine m n letters (what.Hyp k) s = number_fine 0 (k + 1) letters s
what_fine m n letters (what.Listed k) s = number_fine 0 (m + k + 1) letters s
what_fine m n letters (what.Again k) s = number_fine 0 (m + n + k + 1) letters s
what_fine m n letters what.Unknown s = subst AreFine (sym s) refl

mark_fine : (marked : Bool) → AreFine (mark marked)
mark_fine true = refl
mark_fine false = refl

letters_fine : (m n : ℕ) (letters : List ℕ) (steps : List Step) → SpellsSteps m n letters steps → AreFine letters
letters_fine m n letters [] s = subst AreFine (sym s) refl
letters_fine m n letters (x ∷ xs) (front, rest, whole, one, others) =
    let here : AreFine front = subst AreFine (sym one.whole) (all_append is_fine one.front (mark x.marked) (what_fine m n one.front x.what one.what) (mark_fine x.marked)) in
    subst AreFine (sym whole) (all_append is_fine front rest here (letters_fine m n rest xs others))

-- ---- the labels of a proof are those of hypotheses and of assertions

abbrev IsLabel : Name → Type 0
IsLabel n = is_label n ≡ true

module _ (frames : Frames) (thm : Theorem) (of_hyp : (h : Hyp) → Contains thm.hyps h → IsLabel h.name) (of_frame : (n : Name) (f : Frame) → frames n ≡ Some f → IsLabel n) where
  by_frame : (n : Name) (k : ℕ) (o : Option Frame) → frames n ≡ o → option_map (λ (f : Frame). length f.hyps) o ≡ Some k → IsLabel n
  by_frame n k None is e = absurd cc
  by_frame n k (Some f) is e = of_frame n f is

  by_arity : (n : Name) (k : ℕ) (b : Bool) → list_any (λ (h : Hyp). bytes_eq h.name n) thm.hyps ≡ b → cond b (Some 0) (option_map (λ (f : Frame). length f.hyps) (frames n)) ≡ Some k → IsLabel n
  by_arity n k true is e = let h = any_contains (λ (x : Hyp). bytes_eq x.name n) thm.hyps is in subst IsLabel ((bytes_eq-Decides h.0.name n).0 h.2) (of_hyp h.0 h.1)
  by_arity n k false is e = by_frame n k (frames n) refl e

  joined : (xs ys : List Name) → AllByRecursion IsLabel xs → AllByRecursion IsLabel ys → AllByRecursion IsLabel (xs ++ ys)
  joined [] ys a b = b
  joined (x ∷ xs) ys a b = (a.0, joined xs ys a.1 b)

  mutual
    labels_have : (p : Proof) → HasArities frames thm p → AllByRecursion IsLabel (postorder p)
    labels_have (by n below) a = joined (postorders below) (n ∷ []) (all_labels_have below a.1) (by_arity n (length (listed below)) (list_any (λ (h : Hyp). bytes_eq h.name n) thm.hyps) refl a.0, tt)

    all_labels_have : (ps : Proofs) → HaveArities frames thm ps → AllByRecursion IsLabel (postorders ps)
    all_labels_have none a = tt
    all_labels_have (next p ps) a = joined (postorder p) (postorders ps) (labels_have p a.0) (all_labels_have ps a.1)

frame_named : (db : Database) (book : IsBook db) (n : Name) (f : Frame) → frames_of db n ≡ Some f → IsLabel n
frame_named db book n f e = go (label_of db n) refl e
  where
    go : (o : Option Label) → label_of db n ≡ o → option_and_then db.frame o ≡ Some f → IsLabel n
    go None i j = absurd cc
    go (Some l) i j = book.labels_are n (get_contains db.labels l.0 n (label_stands_at db.labels n l i))

-- ---- the text of a proof

labels_fine : (ns : List Name) → AllByRecursion IsLabel ns → list_all (list_all is_fine) ns ≡ true
labels_fine [] a = refl
labels_fine (n ∷ ns) a = and_from (list_all is_fine n) (list_all (list_all is_fine) ns) (label_all is_fine label_fine n a.0) (labels_fine ns a.1)

kept_labels : (seen ns : List Name) → AllByRecursion IsLabel ns → AllByRecursion IsLabel (without_repeats seen ns)
kept_labels seen [] a = tt
kept_labels seen (n ∷ ns) a = elim (contains seen n) as (λ t. AllByRecursion IsLabel (cond t (without_repeats seen ns) (n ∷ without_repeats (n ∷ seen) ns))) [
  | true ↦ kept_labels seen ns a.1
  | false ↦ (a.0, kept_labels (n ∷ seen) ns a.1)
]

text_fine : (db : Database) (s : ProofStyle) (t : Theorem) (es : List WrittenStep) → AllByRecursion IsLabel (postorder (qed_proof db t es)) → AreFine (proof_text db s t es)
text_fine db style.Normal t es a = all_joined is_fine 32 refl (postorder (qed_proof db t es)) (labels_fine (postorder (qed_proof db t es)) a)
text_fine db style.Compressed t es a =
    let code = code_of_proof t.mandatory (qed_proof db t es) in
    let letters = steps_letters (length t.mandatory) (length code.labels) code.steps in
    let inked = letters_fine (length t.mandatory) (length code.labels) letters code.steps (spells_steps (length t.mandatory) (length code.labels) code.steps) in
    all_joined is_fine 32 refl (codes "(" ∷ code.labels ++ codes ")" ∷ letters ∷ [])
    (and_from _ _ refl (all_append (list_all is_fine) code.labels (codes ")" ∷ letters ∷ []) (labels_fine code.labels (kept_labels t.mandatory (postorder (qed_proof db t es)) a))
    (and_from _ _ refl (and_from _ _ inked refl))))

-- what a written proof consists of
pub record HasFineBytes (bytes : List ℕ) : Type 0 where
  pub no_bad : list_any is_bad_byte bytes ≡ false
  pub no_dollar : list_any (λ b. b == 36) bytes ≡ false

fine_bytes : (bs : List ℕ) → AreFine bs → HasFineBytes bs
fine_bytes [] a = record { no_bad = refl; no_dollar = refl }
fine_bytes (b ∷ bs) a =
    let two = and_parts (is_fine b) (list_all is_fine bs) a in
    let here = and_parts (not (is_bad_byte b)) (not (b == 36)) two.0 in
    let rest = fine_bytes bs two.1 in
    record { no_bad = neither (is_bad_byte b) (list_any is_bad_byte bs) here.0 rest.no_bad; no_dollar = neither (b == 36) (list_any (λ c. c == 36) bs) here.1 rest.no_dollar }
  where
    neither : (a b : Bool) → not a ≡ true → b ≡ false → (a || b) ≡ false
    neither true b h k = absurd cc
    neither false b h k = k

-- a proof whose labels have the hypotheses that they take
pub written_bytes : (db : Database) (book : IsBook db) (s : ProofStyle) (t : Theorem) (es : List WrittenStep) → ((h : Hyp) → Contains t.hyps h → is_label h.name ≡ true)
    → HasArities (frames_of db) t (qed_proof db t es) → HasFineBytes (proof_text db s t es)
written_bytes db book s t es named arities =
    fine_bytes (proof_text db s t es) (text_fine db s t es (labels_have (frames_of db) t named (frame_named db book) (qed_proof db t es) arities))
