-- The labels in the brackets, word by word.
use Rattle.std.proofs.Common.{◌≡◌, ℕ, suc, ◌+◌, Bool, true, false, not, cond, ◌||◌, List, [], ◌∷◌, ◌++◌, drop, refl, sym, ap, ◌∙◌, arith, subst, append_assoc, append-nil}
use Rattle.std.specs.Prelude.{map, codes}
use Rattle.std.specs.List.{list_any, before_first, after_first, prefix_len}
use Rattle.std.specs.Str.{bytes_eq}
use Rattle.mm_model.specs.Statements.{is}
use Rattle.mm_model.specs.Words.{Word, word}
use Rattle.compressed_proof.specs.Parts.{IsListed}

abbrev closes : Word → Bool
closes w = is (codes ")") w

abbrev texts : List Word → List (List ℕ)
texts ws = map (λ (w : Word). w.bytes) ws

-- the labels so far and those of the words ahead are the labels of all words; so with the closing bracket and the words behind it
pub record Lists (front : List (List ℕ)) (ws all : List Word) : Type 0 where
  pub closed : list_any closes all ≡ list_any closes ws
  pub before : texts (before_first closes all) ≡ front ++ texts (before_first closes ws)
  pub after : after_first closes all ≡ after_first closes ws

pub lists_none : (ws : List Word) → Lists [] ws ws
lists_none ws = record { closed = refl; before = refl; after = refl }

cond_then : {X : Type 0} (b : Bool) (x y : X) → b ≡ true → cond b x y ≡ x
cond_then true x y e = refl
cond_then false x y e = absurd cc

cond_else : {X : Type 0} (b : Bool) (x y : X) → b ≡ false → cond b x y ≡ y
cond_else true x y e = absurd cc
cond_else false x y e = refl

before_here : (w : Word) (ws : List Word) → closes w ≡ true → before_first closes (w ∷ ws) ≡ []
before_here w ws e = rw e refl

before_on : (w : Word) (ws : List Word) → closes w ≡ false → before_first closes (w ∷ ws) ≡ w ∷ before_first closes ws
before_on w ws e =
    let one : 1 + prefix_len (λ x. not (closes x)) ws ≡ suc (prefix_len (λ x. not (closes x)) ws) = omega arith in
    rw (e, one) refl

after_here : (w : Word) (ws : List Word) → closes w ≡ true → after_first closes (w ∷ ws) ≡ ws
after_here w ws e = rw e refl

after_on : (w : Word) (ws : List Word) → closes w ≡ false → after_first closes (w ∷ ws) ≡ after_first closes ws
after_on w ws e =
    let n = prefix_len (λ x. not (closes x)) ws in
    let one : 1 + n + 1 ≡ suc (n + 1) = omega arith in
    rw e (ap (λ (k : ℕ). drop k (w ∷ ws)) one)

-- one more label
pub lists_more : (front : List (List ℕ)) (w : Word) (ws rest all : List Word) → rest ≡ w ∷ ws → closes w ≡ false → Lists front rest all → Lists (front ++ w.bytes ∷ []) ws all
lists_more front w ws rest all r e h = record {
  closed = h.closed ∙ ap (list_any closes) r ∙ ap (λ (t : Bool). t || list_any closes ws) e;
  before =
      h.before ∙ ap (λ (l : List Word). front ++ texts (before_first closes l)) r ∙ ap (λ (l : List Word). front ++ texts l) (before_on w ws e)
      ∙ sym (append_assoc front (w.bytes ∷ []) (texts (before_first closes ws)));
  after = h.after ∙ ap (after_first closes) r ∙ after_on w ws e;
}

-- the closing bracket
pub lists_closed : (front : List (List ℕ)) (w : Word) (ws rest all : List Word) → rest ≡ w ∷ ws → closes w ≡ true → Lists front rest all → IsListed all front ws
lists_closed front w ws rest all r e h = record {
  closed = h.closed ∙ ap (list_any closes) r ∙ ap (λ (t : Bool). t || list_any closes ws) e;
  before = h.before ∙ ap (λ (l : List Word). front ++ texts (before_first closes l)) r ∙ ap (λ (l : List Word). front ++ texts l) (before_here w ws e) ∙ append-nil front;
  after = h.after ∙ ap (after_first closes) r ∙ after_here w ws e;
}

-- no closing bracket
pub lists_open : (front : List (List ℕ)) (rest all : List Word) → rest ≡ [] → Lists front rest all → list_any closes all ≡ false
lists_open front rest all r h = h.closed ∙ ap (list_any closes) r

-- a label that was copied
pub lists_pushed : (front new : List (List ℕ)) (start : ℕ) (bytes name : List ℕ) (ws rest all : List Word) → new ≡ front ++ name ∷ [] → name ≡ bytes
    → rest ≡ word start bytes ∷ ws → bytes_eq bytes (codes ")") ≡ false → Lists front rest all → Lists new ws all
lists_pushed front new start bytes name ws rest all n e r differs h =
    subst (λ (l : List (List ℕ)). Lists l ws all) (sym (n ∙ ap (λ (l : List ℕ). front ++ l ∷ []) e)) (lists_more front (word start bytes) ws rest all r differs h)
