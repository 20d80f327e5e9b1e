-- How far the statement that is not ended has come.
use Rattle.std.proofs.Common.{◌≡◌, ℕ, suc, ◌+◌, Bool, true, false, not, ◌||◌, List, [], ◌∷◌, ◌++◌, take, drop, map, refl, sym, ap, ◌∙◌, arith, codes, inl, inr}
use Rattle.std.specs.List.{list_any, prefix_len, take_while}
use Rattle.std.proofs.lemmas.Bool.{cases_Bool}
use Rattle.std.proofs.lemmas.List.{map-append}
use Rattle.std.proofs.lemmas.List.Folds.{list_any-append}
use Rattle.mm_model.specs.Words.{Word, word}
use Rattle.mm_model.specs.Statements.{Statement, is, is_empty, is_word, is_label_alone, body, labels_in, symbols_in, in_proof, has_keyword}

-- a statement that has this keyword, and these tokens behind it
pub record IsBegun (u : Statement) (k : List ℕ) : Type 0 where
  pub at : ℕ
  pub rest : List Word
  pub body_is : body u ≡ word at k ∷ rest
  pub not_empty : is_empty u ≡ false
  pub not_label : is_label_alone u ≡ false

body-word : (x : Word) (u : Statement) → is_word x ≡ true → body (x ∷ u) ≡ body u
body-word x u h = let one : 1 + prefix_len is_word u ≡ suc (prefix_len is_word u) = omega arith in rw (h, one) refl

body-else : (x : Word) (u : Statement) → is_word x ≡ false → body (x ∷ u) ≡ x ∷ u
body-else x u h = rw h refl

pub take-word : (x : Word) (u : List Word) → is_word x ≡ true → take_while is_word (x ∷ u) ≡ x ∷ take_while is_word u
take-word x u h = let one : 1 + prefix_len is_word u ≡ suc (prefix_len is_word u) = omega arith in rw (h, one) refl

pub take-else : (x : Word) (u : List Word) → is_word x ≡ false → take_while is_word (x ∷ u) ≡ []
take-else x u h = rw h refl

pub body-more : (u v : Statement) (x : Word) (xs : List Word) → body u ≡ x ∷ xs → body (u ++ v) ≡ x ∷ xs ++ v
body-more [] v x xs h = absurd (no_body h)
  where
    no_body : [] ≡ x ∷ xs → ⊥
    no_body e = cc
body-more (w ∷ u) v x xs h =
    elim (cases_Bool (is_word w)) [
      | inl e ↦ body-word w (u ++ v) e ∙ body-more u v x xs (sym (body-word w u e) ∙ h)
      | inr e ↦ body-else w (u ++ v) e ∙ ap (λ (l : List Word). l ++ v) (sym (body-else w u e) ∙ h)
    ]

pub labels-more : (u v : Statement) (x : Word) (xs : List Word) → body u ≡ x ∷ xs → labels_in (u ++ v) ≡ labels_in u
labels-more [] v x xs h = absurd (no_body h)
  where
    no_body : [] ≡ x ∷ xs → ⊥
    no_body e = cc
labels-more (w ∷ u) v x xs h =
    elim (cases_Bool (is_word w)) [
      | inl e ↦ take-word w (u ++ v) e ∙ ap (λ (l : List Word). w ∷ l) (labels-more u v x xs (sym (body-word w u e) ∙ h)) ∙ sym (take-word w u e)
      | inr e ↦ take-else w (u ++ v) e ∙ sym (take-else w u e)
    ]

pub not-empty-more : (u : Statement) (w : Word) → is_empty (u ++ w ∷ []) ≡ false
not-empty-more [] w = refl
not-empty-more (x ∷ u) w = refl

pub not-label-more : (u : Statement) (w : Word) → is_empty u ≡ false → is_label_alone (u ++ w ∷ []) ≡ false
not-label-more [] w h = absurd (clash h)
  where
    clash : true ≡ false → ⊥
    clash e = cc
not-label-more (x ∷ []) w h = refl
not-label-more (x ∷ y ∷ u) w h = refl

unfoldable pub begun-more : (u : Statement) (k : List ℕ) (w : Word) → IsBegun u k → IsBegun (u ++ w ∷ []) k
begun-more u k w o = record {
  at = o.at;
  rest = o.rest ++ w ∷ [];
  body_is = body-more u (w ∷ []) (word o.at k) o.rest o.body_is;
  not_empty = not-empty-more u w;
  not_label = not-label-more u w o.not_empty;
}

-- ---- the symbols so far

-- whether words stop before the end of a list
abbrev pub stops : List Word → Bool
stops ws = list_any (λ w. not (is_word w)) ws

pub words-more : (ws : List Word) (w : Word) → stops ws ≡ false → is_word w ≡ true → take_while is_word (ws ++ w ∷ []) ≡ take_while is_word ws ++ w ∷ []
words-more [] w s h = rw h refl
words-more (x ∷ ws) w s h =
    elim (cases_Bool (is_word x)) [
      | inl e ↦ take-word x (ws ++ w ∷ []) e ∙ ap (λ (l : List Word). x ∷ l) (words-more ws w (rw e at s) h) ∙ ap (λ (l : List Word). l ++ w ∷ []) (sym (take-word x ws e))
      | inr e ↦ absurd (clash (rw e at s))
    ]
  where
    clash : true ≡ false → ⊥
    clash e = cc

pub words-same : (ws : List Word) (w : Word) → (stops ws ≡ false → is_word w ≡ false) → take_while is_word (ws ++ w ∷ []) ≡ take_while is_word ws
words-same [] w h = let e : is_word w ≡ false = h refl in rw e refl
words-same (x ∷ ws) w h =
    elim (cases_Bool (is_word x)) [
      | inl e ↦ take-word x (ws ++ w ∷ []) e ∙ ap (λ (l : List Word). x ∷ l) (words-same ws w (λ s. h (rw e s))) ∙ sym (take-word x ws e)
      | inr e ↦ take-else x (ws ++ w ∷ []) e ∙ sym (take-else x ws e)
    ]

pub symbols-of : (u : Statement) (k : List ℕ) (o : IsBegun u k) → symbols_in u ≡ map (λ w. w.bytes) (take_while is_word o.rest)
symbols-of u k o = ap (λ (b : List Word). map (λ (w : Word). w.bytes) (take_while is_word (drop 1 b))) o.body_is

pub symbols-more : (u : Statement) (k : List ℕ) (w : Word) (o : IsBegun u k) → stops o.rest ≡ false → is_word w ≡ true → symbols_in (u ++ w ∷ []) ≡ symbols_in u ++ w.bytes ∷ []
unfolding begun-more
symbols-more u k w o s h =
    symbols-of (u ++ w ∷ []) k (begun-more u k w o)
    ∙ ap (λ (l : List Word). map (λ (w : Word). w.bytes) l) (words-more o.rest w s h)
    ∙ map-append (λ (w : Word). w.bytes) (take_while is_word o.rest) (w ∷ [])
    ∙ ap (λ l. l ++ w.bytes ∷ []) (sym (symbols-of u k o))

pub symbols-same : (u : Statement) (k : List ℕ) (w : Word) (o : IsBegun u k) → (stops o.rest ≡ false → is_word w ≡ false) → symbols_in (u ++ w ∷ []) ≡ symbols_in u
unfolding begun-more
symbols-same u k w o h =
    symbols-of (u ++ w ∷ []) k (begun-more u k w o)
    ∙ ap (λ (l : List Word). map (λ (w : Word). w.bytes) l) (words-same o.rest w h)
    ∙ sym (symbols-of u k o)

pub keyword-same : (u : Statement) (k j : List ℕ) (w : Word) → IsBegun u k → has_keyword j (u ++ w ∷ []) ≡ has_keyword j u
keyword-same u k j w o =
    let m = begun-more u k w o in
    ap (λ (b : List Word). list_any (is j) (take 1 b)) m.body_is ∙ sym (ap (λ (b : List Word). list_any (is j) (take 1 b)) o.body_is)

pub keyword-is : (u : Statement) (k j : List ℕ) (o : IsBegun u k) → has_keyword j u ≡ (is j (word o.at k) || false)
keyword-is u k j o = ap (λ (b : List Word). list_any (is j) (take 1 b)) o.body_is

pub stops-more : (ws : List Word) (w : Word) → stops ws ≡ false → is_word w ≡ true → stops (ws ++ w ∷ []) ≡ false
stops-more ws w s h = list_any-append (λ w. not (is_word w)) ws (w ∷ []) ∙ rw (s, h) refl

pub stops-still : (ws : List Word) (w : Word) → stops ws ≡ true → stops (ws ++ w ∷ []) ≡ true
stops-still ws w s = list_any-append (λ w. not (is_word w)) ws (w ∷ []) ∙ rw s refl

pub proof-more : (u : Statement) (w : Word) → in_proof (u ++ w ∷ []) ≡ (in_proof u || (is (codes "$=") w || false))
proof-more u w = list_any-append (is (codes "$=")) u (w ∷ [])

-- a statement with this keyword and these symbols, before its proof
pub record IsOpen (u : Statement) (k : List ℕ) (names : List (List ℕ)) : Type 0 where
  pub begun : IsBegun u k
  pub no_proof : in_proof u ≡ false
  pub goes_on : stops begun.rest ≡ false
  pub names_are : map (λ w. w.bytes) (take_while is_word begun.rest) ≡ names

-- a `$p` with these symbols, in its proof
pub record IsProof (u : Statement) (names : List (List ℕ)) : Type 0 where
  pub begun : IsBegun u (codes "$p")
  pub proof : in_proof u ≡ true
  pub stopped : stops begun.rest ≡ true
  pub names_are : map (λ w. w.bytes) (take_while is_word begun.rest) ≡ names
