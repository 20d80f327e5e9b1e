-- Which labels are those of theorems, by their frames.
use Rattle.std.proofs.Common.{◌≡◌, ℕ, List, [], ◌∷◌, take, Bool, true, false, not, ◌&&◌, ◌||◌, cond, Option, Some, None, codes, refl, sym, ◌∙◌, ap, subst}
use Rattle.std.proofs.lemmas.Slice.Eq.{bytes_eq-Decides}
use Rattle.std.specs.List.{list_any}
use Rattle.std.specs.Option.{option_and_then, option_map}
use Rattle.std.specs.Str.{bytes_eq}
use Rattle.mm_base.specs.declared.symbols.Label.{Label}
use Rattle.mm_model.specs.declared.frames.Frame.{Frame}
use Rattle.mm_model.specs.Names.{Name, label_named}
use Rattle.mm_model.specs.Words.{Word}
use Rattle.mm_model.specs.Statements.{Statement, is, is_one_of, has_keyword, body, labels}
use Rattle.mm_model.specs.Frames.{frame_of, frame_at, is_assertion, statement_of}
use Rattle.proof_model.specs.DatabaseProofs.{theorem_of_frame, proof_of, proof_words}
use Rattle.proof_model.specs.declared.theorem.Theorem.{Theorem}
use Rattle.call_answers.specs.Verified.{theorem_named}
use Rattle.mmp_run.specs.Theorems.{IsTheorem}

true_not_false : true ≡ false → ⊥
true_not_false e = cc

-- a `$a` is no `$p`
not_both : (w : List ℕ) → bytes_eq w (codes "$a") ≡ true → bytes_eq w (codes "$p") ≡ true → ⊥
not_both w a p =
    let same : codes "$a" ≡ codes "$p" = sym ((bytes_eq-Decides w (codes "$a")).0 a) ∙ (bytes_eq-Decides w (codes "$p")).0 p in
    true_not_false (ap (λ (l : List ℕ). bytes_eq l (codes "$a")) same)

by_tests : (a p : Bool) → (a ≡ true → p ≡ true → ⊥) → (p || false) ≡ (((a || (p || false)) || false) && not (a || false))
by_tests true true no_both = absurd (no_both refl refl)
by_tests true false no_both = refl
by_tests false true no_both = refl
by_tests false false no_both = refl

first_keyword : (ws : List Word) → list_any (is (codes "$p")) (take 1 ws) ≡ (list_any (is_one_of (codes "$a" ∷ codes "$p" ∷ [])) (take 1 ws) && not (list_any (is (codes "$a")) (take 1 ws)))
first_keyword [] = refl
first_keyword (w ∷ ws) = by_tests (bytes_eq w.bytes (codes "$a")) (bytes_eq w.bytes (codes "$p")) (not_both w.bytes)

-- an assertion that is no axiom is a `$p`
provable : (s : Statement) → has_keyword (codes "$p") s ≡ (is_assertion s && not (has_keyword (codes "$a") s))
provable s = first_keyword (body s)

-- ---- the frame and the words of the proof of a label, by its statement

frame_by : List Statement → Label → Option (ℕ × Statement) → Option Frame
frame_by ss l o = option_and_then (λ (p : ℕ × Statement). cond (is_assertion p.1) (Some (frame_at ss l p.0 p.1)) None) o

abbrev words_by : Option (ℕ × Statement) → Option (List Name)
words_by o = option_and_then (λ (p : ℕ × Statement). cond (has_keyword (codes "$p") p.1) (Some (proof_words p.1)) None) o

-- no frame, or that of an axiom
abbrev pub IsNoTheorem : Option Frame → Type 0
IsNoTheorem None = Unit {0}
IsNoTheorem (Some f) = f.is_axiom ≡ true

none_by : (a x : Bool) (frame : Frame) (words : List Name) (f : Option Frame) → frame.is_axiom ≡ x → cond a (Some frame) None ≡ f → IsNoTheorem f → cond (a && not x) (Some words) None ≡ None
none_by false x frame words f is e h = refl
none_by true true frame words f is e h = refl
none_by true false frame words f is e h = let axiom_too : frame.is_axiom ≡ true = subst IsNoTheorem (sym e) h in absurd (true_not_false (sym axiom_too ∙ is))

some_by : (a x : Bool) (frame : Frame) (words : List Name) (f : Frame) → frame.is_axiom ≡ x → cond a (Some frame) None ≡ Some f → f.is_axiom ≡ false → cond (a && not x) (Some words) None ≡ Some words
some_by false x frame words f is e h = let clash : None ≡ Some f = e in cc
some_by true true frame words f is e h =
    let same : Some frame ≡ Some f = e in
    let same_too : frame ≡ f = cc in
    absurd (true_not_false (sym is ∙ ap (λ (g : Frame). g.is_axiom) same_too ∙ h))
some_by true false frame words f is e h = refl

-- where the statement has no frame, or that of an axiom, there is no proof
no_words : (ss : List Statement) (l : Label) (o : Option (ℕ × Statement)) (f : Option Frame) → frame_by ss l o ≡ f → IsNoTheorem f → words_by o ≡ None
unfolding frame_by
no_words ss l None f e h = refl
no_words ss l (Some p) f e h =
    subst (λ (b : Bool). cond b (Some (proof_words p.1)) None ≡ None) (sym (provable p.1))
    (none_by (is_assertion p.1) (has_keyword (codes "$a") p.1) (frame_at ss l p.0 p.1) (proof_words p.1) f refl e h)

-- where it has that of another assertion, there is one
has_words : (ss : List Statement) (l : Label) (o : Option (ℕ × Statement)) (f : Frame) → frame_by ss l o ≡ Some f → f.is_axiom ≡ false → (words : List Name) × (words_by o ≡ Some words)
unfolding frame_by
has_words ss l None f e h = let clash : None ≡ Some f = e in cc
has_words ss l (Some p) f e h = (
  proof_words p.1,
  subst (λ (b : Bool). cond b (Some (proof_words p.1)) None ≡ Some (proof_words p.1)) (sym (provable p.1))
      (some_by (is_assertion p.1) (has_keyword (codes "$a") p.1) (frame_at ss l p.0 p.1) (proof_words p.1) f refl e h),
)

-- ---- theorems by name

found : List Statement → Option Label → Option (Theorem × List Name)
found ss o = option_and_then (λ l. option_and_then (λ f. option_map (λ words. (theorem_of_frame ss f, words)) (proof_of ss l)) (frame_of ss l)) o

none_of : (ss : List Statement) (o : Option Frame) → option_and_then {U = Theorem × List Name} (λ f. option_map (λ words. (theorem_of_frame ss f, words)) None) o ≡ None
none_of ss None = refl
none_of ss (Some f) = refl

pub no_label : (ss : List Statement) (name : List ℕ) → label_named (labels ss) name ≡ None → theorem_named ss name ≡ None
unfolding found
no_label ss name e = ap (found ss) e

pub no_theorem_of : (ss : List Statement) (name : List ℕ) (l : Label) (f : Option Frame) → label_named (labels ss) name ≡ Some l → frame_of ss l ≡ f → IsNoTheorem f → theorem_named ss name ≡ None
unfolding found frame_by
no_theorem_of ss name l f e is h =
    let none : proof_of ss l ≡ None = no_words ss l (statement_of ss l) f is h in
    ap (found ss) e
    ∙ ap
    (λ (o : Option (List Name)). option_and_then {U = Theorem × List Name} (λ f. option_map (λ words. (theorem_of_frame ss f, words)) o)
    (frame_of ss l)) none
    ∙ none_of ss (frame_of ss l)

pub theorem_of_name : (ss : List Statement) (name : List ℕ) (l : Label) (f : Frame) → label_named (labels ss) name ≡ Some l → frame_of ss l ≡ Some f → f.is_axiom ≡ false → IsTheorem ss name l
unfolding frame_by
theorem_of_name ss name l f e is h =
    let some = has_words ss l (statement_of ss l) f is h in
    record { label_is = e; frame = f; frame_is = is; words = some.0; words_are = some.1 }

pub named_by : (ss : List Statement) (name : List ℕ) (l : Label) (t : IsTheorem ss name l) → theorem_named ss name ≡ Some (theorem_of_frame ss t.frame, t.words)
unfolding found
named_by ss name l t =
    ap (found ss) t.label_is
    ∙ ap (λ (o : Option Frame). option_and_then {U = Theorem × List Name} (λ f. option_map (λ words. (theorem_of_frame ss f, words)) (proof_of ss l)) o) t.frame_is
    ∙ ap (λ (o : Option (List Name)). option_map (λ (words : List Name). let pair : Theorem × List Name = (theorem_of_frame ss t.frame, words) in pair) o) t.words_are
