-- What a token makes of the statement that is not ended.
use Rattle.std.proofs.Common.{◌≡◌, ℕ, Bool, true, false, cond, not, ◌||◌, List, [], ◌∷◌, ◌++◌, map, refl, sym, ap, ◌∙◌, codes, append-nil}
use Rattle.std.specs.List.{take_while}
use Rattle.std.specs.Str.{bytes_eq}
use Rattle.std.proofs.lemmas.List.{map-append}
use Rattle.mm_model.specs.Words.{Word, word}
use Rattle.mm_model.specs.Statements.{Statement, is, is_word, symbols_in, has_keyword, second}
use Rattle.mm_model.proofs.Lists.{added}
use Rattle.mm_frames.proofs.State.{IsPlain}
use Rattle.mm_frames.proofs.Growth.{Grows}
use Rattle.mm_frames.proofs.Shapes.{IsBegun, IsOpen, IsProof, begun-more, labels-more, words-more, words-same, symbols-of, symbols-more, symbols-same}
use Rattle.mm_frames.proofs.Shapes.{keyword-same, keyword-is, stops, stops-more, stops-still, proof-more}

-- a keyword that neither opens nor closes a block
pub record IsOther (k : List ℕ) : Type 0 where
  pub no_open : bytes_eq k (codes "${") ≡ false
  pub no_close : bytes_eq k (codes "$}") ≡ false

pub plain-begun : (u : Statement) (k : List ℕ) → IsOther k → IsBegun u k → IsPlain u
plain-begun u k p o = record {
  no_open = keyword-is u k (codes "${") o ∙ rw p.no_open refl;
  no_close = keyword-is u k (codes "$}") o ∙ rw p.no_close refl;
}

-- a token that leaves the symbols leaves all that is kept
pub grows-same : (u : Statement) (k : List ℕ) (w : Word) → IsOther k → (o : IsBegun u k) → (stops o.rest ≡ false → is_word w ≡ false) → Grows u (u ++ w ∷ []) [] [] [] []
grows-same u k w p o h =
    let same = symbols-same u k w o h in
    let kept : (j : List ℕ) (f : List (List ℕ) → List (List ℕ)) → added j (λ s. f (symbols_in s)) (u ++ w ∷ []) ≡ added j (λ s. f (symbols_in s)) u ++ [] =
    λ j f. ap (λ (b : Bool). cond b (f (symbols_in (u ++ w ∷ []))) []) (keyword-same u k j w o) ∙ ap (λ l. cond (has_keyword j u) (f l) []) same
    ∙ sym (append-nil (added j (λ s. f (symbols_in s)) u)) in
    record {
      plain = plain-begun u k p o;
      plain_after = plain-begun (u ++ w ∷ []) k p (begun-more u k w o);
      new_constants = kept (codes "$c") (λ l. l);
      more_variables = kept (codes "$v") (λ l. l);
      more_types = kept (codes "$f") second;
      more_labels = ap (λ (l : List Word). map (λ (w : Word). w.bytes) l) (labels-more u (w ∷ []) (word o.at k) o.rest o.body_is);
    }

-- what the second symbol is where a symbol is put behind these
abbrev pub new_second : List (List ℕ) → List ℕ → List (List ℕ)
new_second [] n = []
new_second (m ∷ []) n = n ∷ []
new_second (m ∷ x ∷ names) n = []

second-more : (names : List (List ℕ)) (n : List ℕ) → second (names ++ n ∷ []) ≡ second names ++ new_second names n
second-more [] n = refl
second-more (m ∷ []) n = refl
second-more (m ∷ x ∷ names) n = refl

-- a symbol
pub grows-word : (u : Statement) (k : List ℕ) (w : Word) (names : List (List ℕ)) → IsOther k → (o : IsOpen u k names) → is_word w ≡ true
    → Grows u (u ++ w ∷ []) (cond (bytes_eq k (codes "$c")) (w.bytes ∷ []) []) (cond (bytes_eq k (codes "$v")) (w.bytes ∷ []) []) (cond (bytes_eq k (codes "$f")) (new_second names w.bytes) []) []
grows-word u k w names p o h =
    let n = w.bytes in
    let are : symbols_in u ≡ names = symbols-of u k o.begun ∙ o.names_are in
    let more : symbols_in (u ++ w ∷ []) ≡ names ++ n ∷ [] = symbols-more u k w o.begun o.goes_on h ∙ ap (λ l. l ++ n ∷ []) are in
    let kept : (j : List ℕ) (f : List (List ℕ) → List (List ℕ)) (xs : List (List ℕ)) → f (names ++ n ∷ []) ≡ f names ++ xs
    → added j (λ s. f (symbols_in s)) (u ++ w ∷ []) ≡ added j (λ s. f (symbols_in s)) u ++ cond (bytes_eq k j) xs [] =
    λ j f xs e. ap (λ (b : Bool). cond b (f (symbols_in (u ++ w ∷ []))) []) (keyword-same u k j w o.begun ∙ keyword-is u k j o.begun)
    ∙ ap (λ l. cond (bytes_eq k j || false) (f l) []) more ∙ ap (λ l. cond (bytes_eq k j || false) l []) e
    ∙ split (bytes_eq k j) (f names) xs
    ∙ ap (λ l. cond (bytes_eq k j || false) (f l) [] ++ cond (bytes_eq k j) xs []) (sym are)
    ∙ ap (λ (b : Bool). cond b (f (symbols_in u)) [] ++ cond (bytes_eq k j) xs []) (sym (keyword-is u k j o.begun)) in
    record {
      plain = plain-begun u k p o.begun;
      plain_after = plain-begun (u ++ w ∷ []) k p (begun-more u k w o.begun);
      new_constants = kept (codes "$c") (λ l. l) (n ∷ []) refl;
      more_variables = kept (codes "$v") (λ l. l) (n ∷ []) refl;
      more_types = kept (codes "$f") second (new_second names n) (second-more names n);
      more_labels = ap (λ (l : List Word). map (λ (w : Word). w.bytes) l) (labels-more u (w ∷ []) (word o.begun.at k) o.begun.rest o.begun.body_is);
    }
  where
    split : (b : Bool) (xs ys : List (List ℕ)) → cond (b || false) (xs ++ ys) [] ≡ cond (b || false) xs [] ++ cond b ys []
    split true xs ys = refl
    split false xs ys = refl

pub open-word : (u : Statement) (k : List ℕ) (w : Word) (names : List (List ℕ)) → IsOpen u k names → is_word w ≡ true → is (codes "$=") w ≡ false → IsOpen (u ++ w ∷ []) k (names ++ w.bytes ∷ [])
unfolding begun-more
open-word u k w names o h e = record {
  begun = begun-more u k w o.begun;
  no_proof = proof-more u w ∙ (let p = o.no_proof in rw (p, e) refl);
  goes_on = stops-more o.begun.rest w o.goes_on h;
  names_are =
      ap (λ (l : List Word). map (λ (w : Word). w.bytes) l) (words-more o.begun.rest w o.goes_on h)
      ∙ map-append (λ (w : Word). w.bytes) (take_while is_word o.begun.rest) (w ∷ []) ∙ ap (λ l. l ++ w.bytes ∷ []) o.names_are;
}

-- a word in a proof
pub proof-goes : (u : Statement) (w : Word) (names : List (List ℕ)) → IsProof u names → IsProof (u ++ w ∷ []) names
unfolding begun-more
proof-goes u w names o = record {
  begun = begun-more u (codes "$p") w o.begun;
  proof = proof-more u w ∙ (let p = o.proof in rw p refl);
  stopped = stops-still o.begun.rest w o.stopped;
  names_are = ap (λ (l : List Word). map (λ (w : Word). w.bytes) l) (words-same o.begun.rest w (λ s. absurd (clash (sym o.stopped ∙ s)))) ∙ o.names_are;
}
  where
    clash : true ≡ false → ⊥
    clash e = cc

-- `$=`
pub proof-begins : (u : Statement) (at : ℕ) (names : List (List ℕ)) → IsOpen u (codes "$p") names → IsProof (u ++ word at (codes "$=") ∷ []) names
unfolding begun-more
proof-begins u at names o =
    let w = word at (codes "$=") in
    record {
      begun = begun-more u (codes "$p") w o.begun;
      proof = proof-more u w ∙ (let p = o.no_proof in rw p refl);
      stopped = stopped-at o.begun.rest at;
      names_are = ap (λ (l : List Word). map (λ (w : Word). w.bytes) l) (words-same o.begun.rest w (λ s. refl)) ∙ o.names_are;
    }
  where
    stopped-at : (ws : List Word) (at : ℕ) → stops (ws ++ word at (codes "$=") ∷ []) ≡ true
    stopped-at [] at = refl
    stopped-at (x ∷ ws) at = elim (is_word x) as (λ b. (not b || stops (ws ++ word at (codes "$=") ∷ [])) ≡ true) [ true ↦ stopped-at ws at | false ↦ refl ]
