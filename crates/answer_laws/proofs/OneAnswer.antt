-- Two answers to a worksheet are one.
use Rattle.std.specs.Prelude.{◌≡◌, ◌<◌, ◌==◌, ◌&&◌, nat_lt, nat_le, ℕ, true, List, Some, None}
use Rattle.std.proofs.Common.{sym, ap, subst, ◌∙◌, arith, inl, inr, ltb-true, leb-true, eqb-true}
use Rattle.std.proofs.lemmas.Bool.{and_parts, or_cases}
use Rattle.mm_base.specs.Limits.{most_work_size}
use Rattle.mm_model.specs.Faults.{Fault, comes_first}
use Rattle.mm_model.specs.Rows.{IsGrammar}
use Rattle.mm_model.specs.Book.{Database}
use Rattle.sheet_text.specs.declared.sheet.Sheet.{Sheet}
use Rattle.sheet_text.specs.Reads.{Reads}
use Rattle.sheet_text.specs.TextFaults.{text_fault}
use Rattle.solve_model.specs.declared.bound.Bound.{Bound}
use Rattle.solve_model.specs.BindFaults.{BindFaultAt, IsBindFault}
use Rattle.solve_model.specs.Bound.{Binds, work_size}
use Rattle.sheet_laws.specs.ReadAgain.{ReadsAsOne}
use Rattle.written_model.specs.declared.options.Options.{Options}
use Rattle.fault_lines.specs.Refusals.{Refusal, at_line, too_much, told_number}
use Rattle.written_model.specs.Written.{Writing, Writes, LateFault, IsLate, Answer, Answers}
use Rattle.model_laws.specs.DatabaseLaws.{HasDatabaseFacts}
use Rattle.model_laws.specs.FrameLaws.{FramesHaveOwnExpressions, MandatoryVariablesStand}
use Rattle.written_model.specs.WrittenAgain.{SameAnswer, AnswersAreOne}
use Rattle.answer_laws.proofs.PlainAssertions.{are_plain}
use Rattle.answer_laws.proofs.Plain.{ArePlain}
use Rattle.answer_laws.proofs.SameBound.{work_size_same}
use Rattle.answer_laws.proofs.OneBinding.{bound_is_one}
use Rattle.answer_laws.proofs.SameText.{SameParts, text_by_parts, text_turned, same_writing, late_moved, only}
use Rattle.answer_laws.proofs.OneWriting.{same_parts, same_end}

-- ---- the first fault is one

fault_with : ℕ → ℕ → Fault
fault_with p c = record { place = p; code = c }

one_fault : (f g : Fault) → comes_first f g ≡ true → comes_first g f ≡ true → f ≡ g
unfolding fault_with
one_fault f g h k = elim (or_cases (nat_lt f.place g.place) (f.place == g.place && nat_le f.code g.code) h) [
  | inl l ↦ elim (or_cases (nat_lt g.place f.place) (g.place == f.place && nat_le g.code f.code) k) [
    | inl m ↦ let a = ltb-true f.place g.place l in let b = ltb-true g.place f.place m in absurd (omega (arith, a, b))
    | inr m ↦
        let a = ltb-true f.place g.place l in
        let b = eqb-true g.place f.place (and_parts (g.place == f.place) (nat_le g.code f.code) m).0 in
        absurd (omega (arith, a, b))
  ]
  | inr l ↦
      let at = eqb-true f.place g.place (and_parts (f.place == g.place) (nat_le f.code g.code) l).0 in
      let low = leb-true f.code g.code (and_parts (f.place == g.place) (nat_le f.code g.code) l).1 in
      elim (or_cases (nat_lt g.place f.place) (g.place == f.place && nat_le g.code f.code) k) [
        | inl m ↦ let b = ltb-true g.place f.place m in absurd (omega (arith, at, b))
        | inr m ↦
            let high = leb-true g.code f.code (and_parts (g.place == f.place) (nat_le g.code f.code) m).1 in
            let code : f.code ≡ g.code = omega (arith, low, high) in
            ap (λ p. fault_with p f.code) at ∙ ap (fault_with g.place) code
      ]
]

one_bind_fault : (db : Database) (s : Sheet) (f g : Fault) → IsBindFault db s f → IsBindFault db s g → f ≡ g
one_bind_fault db s f g h k = one_fault f g (h.is_first g.place g.code k.stands) (k.is_first f.place f.code h.stands)

module _ (db : Database) (grammar : IsGrammar db.rows) (plain : ArePlain db) (text : List ℕ) (options : Options) (reads_one : ReadsAsOne) where
  two_texts : {f : Fault} → text_fault text ≡ Some f → text_fault text ≡ None → ⊥
  two_texts {f} e g = let bad : Some f ≡ None = sym e ∙ g in cc

  one_text : (f g : Fault) → text_fault text ≡ Some f → text_fault text ≡ Some g → f ≡ g
  one_text f g e h = let same : Some f ≡ Some g = sym e ∙ h in cc

  not_both : (s t : Sheet) (f : Fault) (b : Bound) → Reads text s → Reads text t → IsBindFault db s f → Binds db t b → ⊥
  not_both s t f b r q h k = k.sound f.place f.code (subst (λ x. BindFaultAt db x f.place f.code) (reads_one text s t r q) h.stands)

  one_bound_fault : (s t : Sheet) (f g : Fault) → Reads text s → Reads text t → IsBindFault db s f → IsBindFault db t g → f ≡ g
  one_bound_fault s t f g r q h k = one_bind_fault db s f g h (subst (λ x. IsBindFault db x g) (reads_one text t s q r) k)

  one_size : (s t : Sheet) (b c : Bound) → Reads text s → Reads text t → Binds db s b → Binds db t c → work_size db b ≡ work_size db c
  one_size s t b c r q h k = work_size_same db b c (bound_is_one db grammar s b c h (subst (λ x. Binds db x c) (reads_one text t s q r) k))

  too_big : (w : Writing) (s : Sheet) (b : Bound) → Reads text s → Binds db s b → most_work_size < work_size db b → Writes db text options w → ⊥
  too_big w s b r h l k =
      let same = one_size s k.reads.read b w.bound r k.reads.reads h k.binds in
      let within = k.within_limit in
      omega (arith, same, l, within)

  module _ (w v : Writing) (one : Writes db text options w) (two : Writes db text options v) where
    parts : SameParts w v
    parts = same_parts db grammar plain text options w v one two reads_one

    ends : w.finished ≡ v.finished
    ends = same_end db grammar plain text options w v one two reads_one

    there : (k : ℕ) (r : Refusal) → LateFault db options w k r → LateFault db options v k r
    there = late_moved db options w v (text_by_parts db options w v parts ends)

    back : (k : ℕ) (r : Refusal) → LateFault db options v k r → LateFault db options w k r
    back = late_moved db options v w (text_turned db options w v (text_by_parts db options w v parts ends))

    one_late : (r q : Refusal) → IsLate db options w r → IsLate db options v q → r ≡ q
    one_late r q h k =
        let low = h.is_first k.rank q (back k.rank q k.stands) in
        let high = k.is_first h.rank r (there h.rank r h.stands) in
        only db options v k.rank q k.stands h.rank r (there h.rank r h.stands) (omega (arith, low, high))

  pub one_answer : (a b : Answer) → Answers db text options a → Answers db text options b → SameAnswer db options a b
  one_answer a b (Answers.bad_text {f = f} e) (Answers.bad_text {f = g} h) = ap at_line (one_text f g e h)
  one_answer a b (Answers.bad_text e) (Answers.unbound h r k) = absurd (two_texts e h)
  one_answer a b (Answers.bad_text e) (Answers.much h r k l) = absurd (two_texts e h)
  one_answer a b (Answers.bad_text e) (Answers.late h w l) = absurd (two_texts e h)
  one_answer a b (Answers.bad_text e) (Answers.written h w l) = absurd (two_texts e h)
  one_answer a b (Answers.unbound e r f) (Answers.bad_text h) = absurd (two_texts h e)
  one_answer a b (Answers.unbound {s = s} {f = f} e r h) (Answers.unbound {s = t} {f = g} i q k) = ap at_line (one_bound_fault s t f g r q h k)
  one_answer a b (Answers.unbound {s = s} {f = f} e r h) (Answers.much {s = t} {bound = c} i q k l) = absurd (not_both s t f c r q h k)
  one_answer a b (Answers.unbound {s = s} {f = f} e r h) (Answers.late {w = v} i k l) = absurd (not_both s k.reads.read f v.bound r k.reads.reads h k.binds)
  one_answer a b (Answers.unbound {s = s} {f = f} e r h) (Answers.written {w = v} i k l) = absurd (not_both s k.reads.read f v.bound r k.reads.reads h k.binds)
  one_answer a b (Answers.much e r f l) (Answers.bad_text h) = absurd (two_texts h e)
  one_answer a b (Answers.much {s = s} {bound = c} e r k l) (Answers.unbound {s = t} {f = g} i q h) = absurd (not_both t s g c q r h k)
  one_answer a b (Answers.much {s = s} {bound = c} e r h l) (Answers.much {s = t} {bound = d} i q k m) = ap (λ n. too_much (told_number n)) (one_size s t c d r q h k)
  one_answer a b (Answers.much {s = s} {bound = c} e r h l) (Answers.late {w = v} i k m) = absurd (too_big v s c r h l k)
  one_answer a b (Answers.much {s = s} {bound = c} e r h l) (Answers.written {w = v} i k m) = absurd (too_big v s c r h l k)
  one_answer a b (Answers.late e h l) (Answers.bad_text k) = absurd (two_texts k e)
  one_answer a b (Answers.late {w = w} e h l) (Answers.unbound {s = t} {f = g} i q k) = absurd (not_both t h.reads.read g w.bound q h.reads.reads k h.binds)
  one_answer a b (Answers.late {w = w} e h l) (Answers.much {s = t} {bound = d} i q k m) = absurd (too_big w t d q k m h)
  one_answer a b (Answers.late {w = w} {r = r} e h l) (Answers.late {w = v} {r = q} i k m) = one_late w v h k r q l m
  one_answer a b (Answers.late {w = w} {r = r} e h l) (Answers.written {w = v} i k m) = absurd (m l.rank r (there w v h k l.rank r l.stands))
  one_answer a b (Answers.written e h l) (Answers.bad_text k) = absurd (two_texts k e)
  one_answer a b (Answers.written {w = w} e h l) (Answers.unbound {s = t} {f = g} i q k) = absurd (not_both t h.reads.read g w.bound q h.reads.reads k h.binds)
  one_answer a b (Answers.written {w = w} e h l) (Answers.much {s = t} {bound = d} i q k m) = absurd (too_big w t d q k m h)
  one_answer a b (Answers.written {w = w} e h l) (Answers.late {w = v} {r = q} i k m) = absurd (l m.rank q (back w v h k m.rank q m.stands))
  one_answer a b (Answers.written {w = w} e h l) (Answers.written {w = v} i k m) = same_writing db options w v (parts w v h k) (ends w v h k)

-- ---- over the database of a text without a fault

pub answers_one : HasDatabaseFacts → MandatoryVariablesStand → FramesHaveOwnExpressions → ReadsAsOne → (db : Database) (text : List ℕ) (options : Options) → AnswersAreOne db text options
answers_one has standing owned reads_one db text options a b opened one two =
    let facts = has options.kinds opened.text db opened.is_database opened.sound in
    let plain = are_plain options.kinds opened.text db opened.is_database opened.sound facts standing owned in
    one_answer db facts.grammar plain text options reads_one a b one two
