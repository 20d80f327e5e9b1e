use Rattle.std.proofs.Common.{◌≡◌, ◌∙◌, ℕ, suc, ◌+◌, ◌<◌, List, ◌∷◌, length, get_or, drop, sym, ap, add-one, arith, Result, Ok, Err, [], ◌++◌, refl}
use Rattle.std.proofs.Math.Seq.{drop-cons}
use Rattle.std.proofs.lemmas.List.{drop_all}
use Rattle.std.proofs.lemmas.Result.{err_from_is_err_and}
use Rattle.compressed_proof.specs.declared.fault.CodeFault.{CodeFault}
use Rattle.compressed_proof.specs.declared.fault.CodeFault.TheVariants as faults
use Rattle.compressed_proof.specs.declared.steps.Prior.{Prior}
use Rattle.compressed_proof.specs.declared.steps.Prior.TheVariants as prior
use Rattle.proof_model.specs.declared.code.Step.{Step}
use Rattle.compressed_proof.specs.Reading.{with_front, read_letters, FailsWith, pending}
use Rattle.compressed_proof.proofs.steps.read_letters.Goals as goal

-- one more letter is read
read_on : (m n marks more : ℕ) (p q : Prior) (old new : List Step) (letters : List ℕ) (i : ℕ) (whole : Result (List Step) CodeFault)
    → i < length letters
    → with_front new (read_letters m n more q (suc i) (drop (suc i) letters))
    ≡ with_front old (read_letters m n marks p i (get_or letters i 0 ∷ drop (suc i) letters))
    → with_front old (read_letters m n marks p i (drop i letters)) ≡ whole
    → with_front new (read_letters m n more q (i + 1) (drop (i + 1) letters)) ≡ whole
read_on m n marks more p q old new letters i whole h goes_on read = rw add-one (goes_on ∙ (ap (λ (s : List ℕ). with_front old (read_letters m n marks p i s)) (sym (drop-cons letters i 0 h)) ∙ read))

pub loop-i-preserved : goal.loop-i-preserved
loop-i-preserved c = record {
  marks = omega (arith, c.in_ok-before.ensures.marks);
  reads =
      read_on c.args.mandatory c.args.labels c.loop-i.before.marks c.in_ok-before.before.marks c.loop-i.before.prior c.in_ok-before.before.prior c.loop-i.steps.items
      c.read_letter.new.steps.items c.args.letters.now c.loop-i.i _
      c.loop-i-test.true (c.in_ok-before.ensures.goes_on (drop (suc c.loop-i.i) c.args.letters.now)) c.loop-i.invariant.reads;
}

-- a fault of what is still read is the fault of the whole
failed : (e : CodeFault) (front : List Step) (rest whole : Result (List Step) CodeFault) → with_front front rest ≡ whole → FailsWith e rest → FailsWith e whole
failed faults.Memory front rest whole read f = tt
failed (faults.BadLetter i) front rest whole read f = sym read ∙ ap (with_front front) f
failed (faults.NumberTooLarge i n) front rest whole read f = sym read ∙ ap (with_front front) f
failed (faults.MarkAtStart i) front rest whole read f = sym read ∙ ap (with_front front) f
failed (faults.MarkTwice i) front rest whole read f = sym read ∙ ap (with_front front) f
failed (faults.UnendedNumber i) front rest whole read f = sym read ∙ ap (with_front front) f
failed (faults.NoBracket i) front rest whole read f = absurd f
failed (faults.MandatoryListed i l) front rest whole read f = absurd f
failed (faults.LabelTwice i l) front rest whole read f = absurd f

pub returns-in_err-before : goal.returns-in_err-before
returns-in_err-before c =
    let m = c.args.mandatory in
    let n = c.args.labels in
    let letters = c.args.letters.now in
    let i = c.loop-i.i in
    let front = c.loop-i.steps.items in
    let whole = read_letters m n 0 prior.Start 0 letters in
    let read : with_front front (read_letters m n c.loop-i.before.marks c.loop-i.before.prior i (get_or letters i 0 ∷ drop (suc i) letters)) ≡ whole =
    ap (λ (s : List ℕ). with_front front (read_letters m n c.loop-i.before.marks c.loop-i.before.prior i s)) (sym (drop-cons letters i 0 c.loop-i-test.true)) ∙ c.loop-i.invariant.reads in
    let p = err_from_is_err_and c.from_residual.result c.from_residual.ensures.1 in
    rw (p.1, p.2) (failed c.in_err-before.field-0.0 front _ whole read (c.in_err-before.ensures.fails (drop (suc i) letters)))

-- what is read at the end
ended : (m n marks i : ℕ) (p : Prior) (front new : List Step) (whole : Result (List Step) CodeFault) → ((x : ℕ) → p ≡ prior.Digits x → ⊥)
    → new ≡ front ++ pending p → with_front front (read_letters m n marks p i []) ≡ whole → whole ≡ Ok new
ended m n marks i (prior.Digits v) front new whole other e read = absurd (other v refl)
ended m n marks i (prior.Step w) front new whole other e read = sym read ∙ ap (λ (ss : List Step). Ok ss) (sym e)
ended m n marks i prior.Start front new whole other e read = sym read ∙ ap (λ (ss : List Step). Ok ss) (sym e)
ended m n marks i prior.Mark front new whole other e read = sym read ∙ ap (λ (ss : List Step). Ok ss) (sym e)

pub returns : goal.returns
returns c =
    let m = c.args.mandatory in
    let n = c.args.labels in
    let letters = c.args.letters.now in
    let i = c.loop-i.i in
    let front = c.loop-i.steps.items in
    let whole = read_letters m n 0 prior.Start 0 letters in
    let read : with_front front (read_letters m n c.loop-i.before.marks c.loop-i.before.prior i []) ≡ whole =
    ap (λ (s : List ℕ). with_front front (read_letters m n c.loop-i.before.marks c.loop-i.before.prior i s)) (sym (drop_all i letters c.loop-i-test.false)) ∙ c.loop-i.invariant.reads in
    ended m n c.loop-i.before.marks i c.loop-i.before.prior front c.push_pending.new.steps.items whole c.in_default.not-Digits c.in_ok-push_pending.ensures read

unended : (m n marks i end_ v : ℕ) (p : Prior) (front : List Step) (whole : Result (List Step) CodeFault) → p ≡ prior.Digits v → i ≡ end_
    → with_front front (read_letters m n marks p i []) ≡ whole → whole ≡ Err (faults.UnendedNumber end_)
unended m n marks i end_ v p front whole e stop read =
    sym read ∙ ap (λ (q : Prior). with_front front (read_letters m n marks q i [])) e ∙ ap (λ (k : ℕ). with_front front (read_letters m n marks (prior.Digits v) k [])) stop

pub returns-in-Digits : goal.returns-in-Digits
returns-in-Digits c =
    let m = c.args.mandatory in
    let n = c.args.labels in
    let letters = c.args.letters.now in
    let i = c.loop-i.i in
    let front = c.loop-i.steps.items in
    let whole = read_letters m n 0 prior.Start 0 letters in
    let read : with_front front (read_letters m n c.loop-i.before.marks c.loop-i.before.prior i []) ≡ whole =
    ap (λ (s : List ℕ). with_front front (read_letters m n c.loop-i.before.marks c.loop-i.before.prior i s)) (sym (drop_all i letters c.loop-i-test.false)) ∙ c.loop-i.invariant.reads in
    let stop : i ≡ length letters = omega (arith, c.loop-i-test.false, c.loop-i.auto.i-end) in
    unended m n c.loop-i.before.marks i (length letters) c.in-Digits.field-0 c.loop-i.before.prior front whole c.in-Digits.is stop read
