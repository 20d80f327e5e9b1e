-- Letters are those of one list of steps alone.
use Rattle.std.proofs.Common.{◌≡◌, ◌<◌, ℕ, suc, ◌+◌, ◌-◌, ◌*◌, Bool, true, false, cond, eqb, leb, List, [], ◌∷◌, ◌++◌, length, Option, Some, None}
use Rattle.std.proofs.Common.{refl, sym, ap, ◌∙◌, arith, subst, append_assoc}
use Rattle.std.proofs.lemmas.Bool.{le-leb, lt-leb}
use Rattle.proof_model.specs.declared.code.What.{What}
use Rattle.proof_model.specs.declared.code.What.TheVariants as what
use Rattle.proof_model.specs.declared.code.Step.{Step}
use Rattle.proof_model.specs.declared.code.Code.{Code}
use Rattle.proof_model.specs.Codes.{step}
use Rattle.proof_model.specs.ProofCode.{is_last, EndsNumber, SpellsWhat, SpellsSteps, IsInRange, AreInRange, Spells, mark, letters_of}
use Rattle.proof_laws.proofs.LetterLaws.{leading_digit, last_digit, leading_not_last, cond_then, cond_else}

-- what a number names, with m mandatory hypotheses and n labels
abbrev named_by : ℕ → ℕ → ℕ → What
named_by m n k = cond (leb k m) (what.Hyp (k - 1)) (cond (leb k (m + n)) (what.Listed (k - m - 1)) (what.Again (k - m - n - 1)))

-- what the letters name first, where the leading digits so far are worth v, and the letters behind
abbrev first_what : ℕ → ℕ → ℕ → List ℕ → Option (What × List ℕ)
first_what m n v [] = None
first_what m n v (b ∷ bs) = cond (eqb b 63) (Some (what.Unknown, bs)) (cond (is_last b) (Some (named_by m n (20 * v + (b - 64)), bs)) (first_what m n (5 * v + (b - 84)) bs))

number_first : (m n v k : ℕ) (letters rest : List ℕ) → EndsNumber v letters k → first_what m n v (letters ++ rest) ≡ Some (named_by m n k, rest)
number_first m n v k [] rest h = absurd h
number_first m n v k (b ∷ []) rest h =
    cond_else (eqb b 63) (Some (what.Unknown, rest)) (cond (is_last b) (Some (named_by m n (20 * v + (b - 64)), rest)) (first_what m n (5 * v + (b - 84)) rest)) (last_digit b h.0).gap
    ∙ cond_then (is_last b) (Some (named_by m n (20 * v + (b - 64)), rest)) (first_what m n (5 * v + (b - 84)) rest) h.0
    ∙ ap (λ (x : ℕ). Some (named_by m n x, rest)) (sym h.1)
number_first m n v k (b ∷ c ∷ bs) rest h =
    let behind = (c ∷ bs) ++ rest in
    cond_else (eqb b 63) (Some (what.Unknown, behind)) (cond (is_last b) (Some (named_by m n (20 * v + (b - 64)), behind)) (first_what m n (5 * v + (b - 84)) behind)) (leading_digit b h.0).gap
    ∙ cond_else (is_last b) (Some (named_by m n (20 * v + (b - 64)), behind)) (first_what m n (5 * v + (b - 84)) behind) (leading_not_last b h.0)
    ∙ number_first m n (5 * v + (b - 84)) k (c ∷ bs) rest h.1

named_hyp : (m n k : ℕ) → k < m → named_by m n (k + 1) ≡ what.Hyp k
named_hyp m n k h =
    let number : k + 1 - 1 ≡ k = omega arith in
    cond_then (leb (k + 1) m) (what.Hyp (k + 1 - 1)) (cond (leb (k + 1) (m + n)) (what.Listed (k + 1 - m - 1)) (what.Again (k + 1 - m - n - 1))) (le-leb (k + 1) m (omega (arith, h)))
    ∙ ap (λ (x : ℕ). what.Hyp x) number

named_listed : (m n k : ℕ) → k < n → named_by m n (m + k + 1) ≡ what.Listed k
named_listed m n k h =
    let j = m + k + 1 in
    let number : m + k + 1 - m - 1 ≡ k = omega arith in
    cond_else (leb j m) (what.Hyp (j - 1)) (cond (leb j (m + n)) (what.Listed (j - m - 1)) (what.Again (j - m - n - 1))) (lt-leb j m (omega arith))
    ∙ cond_then (leb j (m + n)) (what.Listed (j - m - 1)) (what.Again (j - m - n - 1)) (le-leb j (m + n) (omega (arith, h)))
    ∙ ap (λ (x : ℕ). what.Listed x) number

named_again : (m n k : ℕ) → named_by m n (m + n + k + 1) ≡ what.Again k
named_again m n k =
    let j = m + n + k + 1 in
    let number : m + n + k + 1 - m - n - 1 ≡ k = omega arith in
    cond_else (leb j m) (what.Hyp (j - 1)) (cond (leb j (m + n)) (what.Listed (j - m - 1)) (what.Again (j - m - n - 1))) (lt-leb j m (omega arith))
    ∙ cond_else (leb j (m + n)) (what.Listed (j - m - 1)) (what.Again (j - m - n - 1)) (lt-leb j (m + n) (omega arith))
    ∙ ap (λ (x : ℕ). what.Again x) number

what_first : (m n marks : ℕ) (letters rest : List ℕ) (w : What) → SpellsWhat m n letters w → IsInRange m n marks w → first_what m n 0 (letters ++ rest) ≡ Some (w, rest)
what_first m n marks letters rest (what.Hyp k) s t = number_first m n 0 (k + 1) letters rest s ∙ ap (λ (w : What). Some (w, rest)) (named_hyp m n k t)
what_first m n marks letters rest (what.Listed k) s t = number_first m n 0 (m + k + 1) letters rest s ∙ ap (λ (w : What). Some (w, rest)) (named_listed m n k t)
what_first m n marks letters rest (what.Again k) s t = number_first m n 0 (m + n + k + 1) letters rest s ∙ ap (λ (w : What). Some (w, rest)) (named_again m n k)
what_first m n marks letters rest what.Unknown s t = ap (λ (ls : List ℕ). first_what m n 0 (ls ++ rest)) s

-- the letters of steps do not begin with a mark
abbrev opens_with_mark : List ℕ → Bool
opens_with_mark [] = false
opens_with_mark (b ∷ bs) = eqb b 90

number_opens : (v k : ℕ) (letters rest : List ℕ) → EndsNumber v letters k → opens_with_mark (letters ++ rest) ≡ false
number_opens v k [] rest h = absurd h
number_opens v k (b ∷ []) rest h = (last_digit b h.0).marks
number_opens v k (b ∷ c ∷ bs) rest h = (leading_digit b h.0).marks

what_opens : (m n : ℕ) (letters rest : List ℕ) (w : What) → SpellsWhat m n letters w → opens_with_mark (letters ++ rest) ≡ false
what_opens m n letters rest (what.Hyp k) s = number_opens 0 (k + 1) letters rest s
what_opens m n letters rest (what.Listed k) s = number_opens 0 (m + k + 1) letters rest s
what_opens m n letters rest (what.Again k) s = number_opens 0 (m + n + k + 1) letters rest s
what_opens m n letters rest what.Unknown s = ap (λ (ls : List ℕ). opens_with_mark (ls ++ rest)) s

-- a step's letters, its mark and the letters behind
parts : (front one rest letters : List ℕ) (marked : Bool) → letters ≡ front ++ rest → front ≡ one ++ mark marked → letters ≡ one ++ (mark marked ++ rest)
parts front one rest letters marked whole e = whole ∙ ap (λ (ls : List ℕ). ls ++ rest) e ∙ append_assoc one (mark marked) rest

steps_open : (m n : ℕ) (letters : List ℕ) (steps : List Step) → SpellsSteps m n letters steps → opens_with_mark letters ≡ false
steps_open m n letters [] s = ap opens_with_mark s
steps_open m n letters (x ∷ xs) (front, rest, whole, one, others) =
    ap opens_with_mark (parts front one.front rest letters x.marked whole one.whole) ∙ what_opens m n one.front (mark x.marked ++ rest) x.what one.what

-- the mark and the letters behind it, where these do not begin with one
mark_parts : (a b : Bool) (rest more : List ℕ) → opens_with_mark rest ≡ false → opens_with_mark more ≡ false → mark a ++ rest ≡ mark b ++ more → (a ≡ b) × (rest ≡ more)
mark_parts true true rest more h k e = (refl, let same : 90 ∷ rest ≡ 90 ∷ more = e in cc)
mark_parts true false rest more h k e = absurd (let wrong : true ≡ false = ap opens_with_mark e ∙ k in cc)
mark_parts false true rest more h k e = absurd (let wrong : true ≡ false = ap opens_with_mark (sym e) ∙ h in cc)
mark_parts false false rest more h k e = (refl, e)

-- what two steps that begin the same letters name, and what is behind
step_parts : (m n marks : ℕ) (a b back more letters : List ℕ) (w v : What) → letters ≡ a ++ back → letters ≡ b ++ more → SpellsWhat m n a w → SpellsWhat m n b v
    → IsInRange m n marks w → IsInRange m n marks v → (w ≡ v) × (back ≡ more)
step_parts m n marks a b back more letters w v e f s t there here =
    let both : Some (w, back) ≡ Some (v, more) = sym (what_first m n marks a back w s there) ∙ ap (first_what m n 0) (sym e ∙ f) ∙ what_first m n marks b more v t here in
    let pair : (w, back) ≡ (v, more) = cc in
    (ap (λ (p : What × List ℕ). p.0) pair, ap (λ (p : What × List ℕ). p.1) pair)

none_some : {X : Type 0} (x : X) → None ≡ Some x → ⊥
none_some x e = absurd (cc)

same_step : (x y : Step) → x.what ≡ y.what → x.marked ≡ y.marked → x ≡ y
same_step x y e f = ap (λ (w : What). step w x.marked) e ∙ ap (step y.what) f

same_code : (c d : Code) → c.labels ≡ d.labels → c.steps ≡ d.steps → c ≡ d
same_code c d e f =
    let code : List (List ℕ) → List Step → Code = λ labels steps. record { labels = labels; steps = steps } in
    ap (λ (ls : List (List ℕ)). code ls c.steps) e ∙ ap (code d.labels) f

none_left : (m n marks : ℕ) (letters : List ℕ) (x : Step) (xs : List Step) → letters ≡ [] → SpellsSteps m n letters (x ∷ xs) → AreInRange m n marks (x ∷ xs) → ⊥
none_left m n marks letters x xs e (front, rest, whole, one, others) t =
    none_some (x.what, mark x.marked ++ rest)
    (ap (first_what m n 0) (sym e ∙ parts front one.front rest letters x.marked whole one.whole) ∙ what_first m n marks one.front (mark x.marked ++ rest) x.what one.what t.0)

steps_one : (m n marks : ℕ) (letters : List ℕ) (xs ys : List Step) → SpellsSteps m n letters xs → SpellsSteps m n letters ys → AreInRange m n marks xs → AreInRange m n marks ys → xs ≡ ys
steps_one m n marks letters [] [] s t there here = refl
steps_one m n marks letters [] (y ∷ ys) s t there here = absurd (none_left m n marks letters y ys s t here)
steps_one m n marks letters (x ∷ xs) [] s t there here = absurd (none_left m n marks letters x xs t s there)
steps_one m n marks letters (x ∷ xs) (y ∷ ys) (front, rest, whole, one, others) (front', rest', whole', one', others') there here =
    let first = step_parts m n marks one.front one'.front (mark x.marked ++ rest) (mark y.marked ++ rest') letters x.what y.what
    (parts front one.front rest letters x.marked whole one.whole) (parts front' one'.front rest' letters y.marked whole' one'.whole) one.what one'.what there.0 here.0 in
    let second = mark_parts x.marked y.marked rest rest' (steps_open m n rest xs others) (steps_open m n rest' ys others') first.1 in
    let others'' : SpellsSteps m n rest ys = subst (λ (ls : List ℕ). SpellsSteps m n ls ys) (sym second.1) others' in
    let here'' : AreInRange m n (cond x.marked (suc marks) marks) ys = subst (λ (b : Bool). AreInRange m n (cond b (suc marks) marks) ys) (sym second.0) here.1 in
    let later = steps_one m n (cond x.marked (suc marks) marks) rest xs ys others others'' there.1 here'' in
    ap (λ (s : Step). s ∷ xs) (same_step x y first.0 second.0) ∙ ap (λ (ss : List Step). y ∷ ss) later

-- a text says one code
pub spells_one : (text : List ℕ) (mandatory : List (List ℕ)) (c d : Code) → Spells text mandatory c → Spells text mandatory d → c ≡ d
spells_one text mandatory c d s t =
    let labels : d.labels ≡ c.labels = t.labels ∙ sym s.labels in
    let steps : SpellsSteps (length mandatory) (length c.labels) (letters_of text) d.steps =
    subst (λ (ls : List (List ℕ)). SpellsSteps (length mandatory) (length ls) (letters_of text) d.steps) labels t.steps in
    let there : AreInRange (length mandatory) (length c.labels) 0 d.steps = subst (λ (ls : List (List ℕ)). AreInRange (length mandatory) (length ls) 0 d.steps) labels t.in_range in
    same_code c d (sym labels) (steps_one (length mandatory) (length c.labels) 0 (letters_of text) c.steps d.steps s.steps steps s.in_range there)
