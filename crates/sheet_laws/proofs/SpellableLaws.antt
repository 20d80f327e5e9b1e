-- What a text without a fault says can be spelled.
use Rattle.std.proofs.Common.{◌≡◌, ℕ, true, false, cond, not, ◌&&◌, List, [], ◌∷◌, ◌++◌, Option, Some, None, refl, sym, ap, ◌∙◌, subst, inl, inr}
use Rattle.std.proofs.Common.{codes, append-nil, append_assoc, is_none, slice_get}
use Rattle.std.proofs.lemmas.Bool.{cases_Bool}
use Rattle.std.specs.Prelude.{filter_map, take_while}
use Rattle.std.specs.List.{AllByRecursion}
use Rattle.std.specs.Str.{bytes_eq}
use Rattle.mm_model.specs.Faults.{fault}
use Rattle.mm_model.specs.Names.{contains}
use Rattle.sheet_text.specs.declared.sheet.Sheet.{Sheet}
use Rattle.sheet_text.specs.Forms.{Header, header_of}
use Rattle.sheet_text.specs.Lines.{Line, begins, tokens, lines_not_blank, line_past_end}
use Rattle.sheet_text.specs.Reads.{items_from, pairs_at, sheet_with, sheet_in}
use Rattle.sheet_text.specs.SheetStatements.{Statement, statement, statements, statements_where, opens_proof, ends_proof, line_of, tokens_in, is_word, is_footer}
use Rattle.sheet_text.specs.Spellable.{IsSpellable}
use Rattle.sheet_text.specs.TextFaults.{step_in, names_in as names_before, no_header, statement_fault, closing_fault}
use Rattle.written_model.specs.ReadBack.{SoundIsRead, ReadIsSpellable}
use Rattle.sheet_laws.proofs.Tests.{and_left, or_right, false_not, cond_then, cond_else, same_bytes}
use Rattle.sheet_laws.proofs.PlaceLaws.{names_in, steps_in}
use Rattle.sheet_laws.proofs.RuleLaws.{SameNames, names_more, names_kept}
use Rattle.sheet_laws.proofs.GoodForms.{case_of, header_good, header_first, tokens_of-tokens}
use Rattle.sheet_laws.proofs.SoundLaws.{AreSound, before_footer, no_more, one_more, front_sound, front_all, or_parts, earlier_parts, header_sound, closes_later}
use Rattle.sheet_laws.proofs.SpellableSteps.{steps_more, steps_kept, steps_fine}
use Rattle.sheet_laws.proofs.KeptLines.{IsKept, statements_kept, items_spellable, pairs_spellable}

-- ---- before the footer there is a step named `qed`

abbrev HasQed : List (List ℕ) → List Statement → Type 0
HasQed done ss = contains (done ++ names_in (steps_in (items_from ss done))) (codes "qed") ≡ true

qed_there : (past : ℕ) (ls : List Line) (ss before : List Statement) (done : List (List ℕ)) → closing_fault past ls ss ≡ None → AreSound before ss
    → SameNames before done → HasQed done (before_footer ss)
qed_there past ls [] before done c a same = absurd (cc)
qed_there past ls (s ∷ ss) before done c a same =
    elim (cases_Bool (is_footer s)) [
      | inl e ↦
          let rule : (is_footer s && not (contains (names_before before) (codes "qed"))) ≡ false = or_right _ _ a.0.qed in
          let there : contains (names_before before) (codes "qed") ≡ true = false_not _ (ap (λ b. b && not (contains (names_before before) (codes "qed"))) (sym e) ∙ rule) in
          subst (HasQed done) (sym (no_more s ss e)) (ap (λ l. contains l (codes "qed")) (append-nil done) ∙ sym (same (codes "qed")) ∙ there)
      | inr e ↦
          let later = closes_later past ls s ss e c in
          subst (HasQed done) (sym (one_more s ss e))
          (elim (case_of (step_in s)) [
            | inl (f, k) ↦
                ap (λ l. contains (done ++ names_in l) (codes "qed")) (steps_more s (before_footer ss) done f k)
                ∙ ap (λ l. contains l (codes "qed")) (sym (append_assoc done (f.name ∷ []) (names_in (steps_in (items_from (before_footer ss) (done ++ f.name ∷ []))))))
                ∙ qed_there past ls ss (s ∷ before) (done ++ f.name ∷ []) later a.1 (names_more before done s f k same)
            | inr k ↦
                ap (λ l. contains (done ++ names_in l) (codes "qed")) (steps_kept s (before_footer ss) done k)
                ∙ qed_there past ls ss (s ∷ before) done later a.1 (names_kept before done s k same)
          ])
    ]

-- ---- the whole

header_no_footer : (s : Statement) (h : Header) → header_of (tokens_in s) ≡ Some h → is_footer s ≡ false
header_no_footer s h e =
    let f = header_first (tokens_in s) h e in
    let w = same_bytes f.0 (codes "$(") f.3 in
    ap (λ (ts : List (List ℕ)). is_word (codes "$)") (slice_get ts 0)) f.2 ∙ ap (λ (t : List ℕ). bytes_eq t (codes "$)")) w

abbrev says_of : ℕ → Header → List Statement → Sheet
says_of line h ss = record { line = line; theorem = h.theorem; loc = h.loc; items = items_from ss []; pairs = filter_map pairs_at ss }

spellable_of : (past : ℕ) (ls : List Line) (s : Statement) (ss : List Statement) (h : Header) → AllByRecursion IsKept ss → AreSound [] ss → closing_fault past ls ss ≡ None
    → header_of (tokens_in s) ≡ Some h → IsSpellable (says_of (line_of s) h (before_footer ss))
spellable_of past ls s ss h k a c e =
    let good = header_good (tokens_in s) h (tokens_of-tokens (s.opening ∷ s.more)) e in
    let front = before_footer ss in
    let sound = front_sound [] ss a in
    let fine = steps_fine front [] [] sound (λ q. refl) refl in
    let last = fine.last None None refl (qed_there past ls ss [] [] c a (λ q. refl)) in
    record {
      theorem = good.theorem;
      loc = good.loc;
      each_step = fine.spellable;
      each_item = items_spellable front [] (front_all IsKept ss k);
      names_differ = fine.differ;
      qed_last = last.0;
      qed_no_hyp = last.1;
      each_pair = pairs_spellable front [] sound;
    }

spellable_from : (past : ℕ) (ls : List Line) (ss : List Statement) (s : Sheet) → AllByRecursion IsKept ss → statement_fault ss ≡ None
    → closing_fault past ls ss ≡ None → sheet_in ss ≡ Some s → IsSpellable s
spellable_from past ls [] s k f c e = absurd (cc)
spellable_from past ls (h ∷ ss) s k f c e =
    let sound = header_sound h ss f in
    elim (case_of (header_of (tokens_in h))) [
      | inl (hd, i) ↦
          let made : Some (says_of (line_of h) hd (before_footer ss)) ≡ Some s = sym (ap (λ (o : Option Header). sheet_with (line_of h) o (before_footer ss)) i) ∙ e in
          let same : says_of (line_of h) hd (before_footer ss) ≡ s = cc in
          subst IsSpellable same (spellable_of past ls h ss hd k.1 sound.1 (closes_later past ls h ss (header_no_footer h hd i) c) i)
      | inr i ↦ absurd (let n : true ≡ false = sym (ap (λ (o : Option Header). is_none o) i) ∙ sound.0 in cc)
    ]

pub read_is_spellable : ReadIsSpellable
read_is_spellable text s r =
    let one = or_parts (no_header (line_past_end text) (lines_not_blank text)) _ r.sound in
    let two = earlier_parts (statement_fault (statements text)) (closing_fault (line_past_end text) (lines_not_blank text) (statements text)) one.1 in
    spellable_from (line_past_end text) (lines_not_blank text) (statements text) s (statements_kept text) two.0 two.1 r.says

-- ---- each text without a fault is read

-- there is a statement
abbrev IsSome_statement : List Statement → Type 0
IsSome_statement [] = ⊥
IsSome_statement (s ∷ ss) = Unit {0}

opened : (l : Line) (ls : List Line) → begins l ≡ true → IsSome_statement (statements_where false (l ∷ ls))
opened l ls b =
    let proof = statement l [] ∷ statements_where (not (ends_proof l)) ls in
    let plain = statement l (take_while (λ m. not (begins m)) ls) ∷ statements_where false ls in
    elim (opens_proof l) as (λ p. IsSome_statement (cond p proof (cond (begins l) plain (statements_where false ls)))) [
      | true ↦ tt
      | false ↦ subst IsSome_statement (sym (cond_then (begins l) plain (statements_where false ls) b)) tt
    ]

has_statement : (past : ℕ) (ls : List Line) → no_header past ls ≡ None → IsSome_statement (statements_where false ls)
has_statement past [] e = absurd (cc)
has_statement past (l ∷ ls) e =
    elim (cases_Bool (begins l && is_word (codes "$(") (slice_get (tokens l) 0))) [
      | inl b ↦ opened l ls (and_left _ _ b)
      | inr b ↦ absurd (let k : Some (fault l.number 40) ≡ None = sym (cond_else (begins l && is_word (codes "$(") (slice_get (tokens l) 0)) None (Some (fault l.number 40)) b) ∙ e in cc)
    ]

has_sheet : (ss : List Statement) → IsSome_statement ss → statement_fault ss ≡ None → (s : Sheet) × (sheet_in ss ≡ Some s)
has_sheet [] i f = absurd i
has_sheet (h ∷ ss) i f =
    elim (case_of (header_of (tokens_in h))) [
      | inl (hd, e) ↦ (says_of (line_of h) hd (before_footer ss), ap (λ (o : Option Header). sheet_with (line_of h) o (before_footer ss)) e)
      | inr e ↦ absurd (let n : true ≡ false = sym (ap (λ (o : Option Header). is_none o) e) ∙ (header_sound h ss f).0 in cc)
    ]

pub sound_is_read : SoundIsRead
sound_is_read text e =
    let one = or_parts (no_header (line_past_end text) (lines_not_blank text)) _ e in
    let two = earlier_parts (statement_fault (statements text)) (closing_fault (line_past_end text) (lines_not_blank text) (statements text)) one.1 in
    let sheet = has_sheet (statements text) (has_statement (line_past_end text) (lines_not_blank text) one.0) two.0 in
    (sheet.0, record { sound = e; says = sheet.1 })
