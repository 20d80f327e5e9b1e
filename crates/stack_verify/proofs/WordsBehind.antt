-- The words of a text behind one of them, and the tokens behind a token.
use Rattle.std.proofs.Common.{◌≡◌, ℕ, suc, ◌+◌, Bool, true, false, eqb, List, [], ◌∷◌, ◌++◌, length, drop, refl, sym, ap, ◌∙◌, arith, inl, inr}
use Rattle.std.specs.Prelude.{not}
use Rattle.std.proofs.lemmas.Bool.{cases_Bool, eqb-true}
use Rattle.mm_model.specs.Words.{Word, word, words_from, put_before, is_white}
use Rattle.mm_model.specs.Tokens.{is_close_comment, is_open_comment, tokens_where}
use Rattle.stack_verify.proofs.Substitutes.{cond_then, cond_else}

-- behind a word of a text whose first byte stands at a place, these are the words of the rest
pub record Behind (at : ℕ) (bs : List ℕ) (w : Word) (post : List Word) : Type 0 where
  pub past : ℕ
  pub place : w.start + length w.bytes ≡ at + past
  pub rest : post ≡ words_from (at + past) (drop past bs)

later : (at b : ℕ) (bs : List ℕ) (w : Word) (post : List Word) → Behind (suc at) bs w post → Behind at (b ∷ bs) w post
later at b bs w post h =
    let one : suc at + h.past ≡ at + suc h.past = omega arith in
    record {
      past = suc h.past;
      place = h.place ∙ one;
      rest = h.rest ∙ ap (λ (k : ℕ). words_from k (drop h.past bs)) one;
    }

head_is : (v w : Word) (vs ws : List Word) → v ∷ vs ≡ w ∷ ws → v ≡ w
head_is v w vs ws e = cc

tail_is : (v w : Word) (vs ws : List Word) → v ∷ vs ≡ w ∷ ws → vs ≡ ws
tail_is v w vs ws e = cc

no_items : (pre : List Word) (w : Word) (post : List Word) → [] ≡ pre ++ w ∷ post → ⊥
no_items [] w post e = cc
no_items (v ∷ pre) w post e = cc

-- the word that begins with b
begun : (at b : ℕ) (bs : List ℕ) (ws : List Word) (pre : List Word) (w : Word) (post : List Word) → ws ≡ words_from (suc at) bs
    → ((q : List Word) (v : Word) (r : List Word) → ws ≡ q ++ v ∷ r → Behind (suc at) bs v r) → put_before at b ws ≡ pre ++ w ∷ post → Behind at (b ∷ bs) w post
unfolding later
begun at b bs [] [] w post e ih h =
    let is : word at (b ∷ []) ≡ w = head_is (word at (b ∷ [])) w [] post h in
    let one : at + 1 ≡ suc at = omega arith in
    record {
      past = 1;
      place = ap (λ (v : Word). v.start + length v.bytes) (sym is);
      rest = sym (tail_is (word at (b ∷ [])) w [] post h) ∙ e ∙ ap (λ (k : ℕ). words_from k bs) (sym one);
    }
begun at b bs [] (p ∷ pre) w post e ih h = absurd (no_items pre w post (tail_is (word at (b ∷ [])) p [] (pre ++ w ∷ post) h))
begun at b bs (v ∷ vs) pre w post e ih h =
    elim (cases_Bool (eqb v.start (suc at))) [
      | inl t ↦ joined pre (sym (cond_then (eqb v.start (suc at)) (word at (b ∷ v.bytes) ∷ vs) (word at (b ∷ []) ∷ v ∷ vs) t) ∙ h) (eqb-true v.start (suc at) t)
      | inr t ↦ apart pre (sym (cond_else (eqb v.start (suc at)) (word at (b ∷ v.bytes) ∷ vs) (word at (b ∷ []) ∷ v ∷ vs) t) ∙ h)
    ]
  where
    joined : (pre : List Word) → word at (b ∷ v.bytes) ∷ vs ≡ pre ++ w ∷ post → v.start ≡ suc at → Behind at (b ∷ bs) w post
    joined [] h s =
        let is : word at (b ∷ v.bytes) ≡ w = head_is (word at (b ∷ v.bytes)) w vs post h in
        let next = ih [] v vs refl in
        let grown : Behind at (b ∷ bs) v vs = later at b bs v vs next in
        record {
          past = suc next.past;
          place = ap (λ (x : Word). x.start + length x.bytes) (sym is) ∙ omega (arith, next.place);
          rest = sym (tail_is (word at (b ∷ v.bytes)) w vs post h) ∙ grown.rest;
        }
    joined (p ∷ pre) h s = later at b bs w post (ih (v ∷ pre) w post (ap (λ (l : List Word). v ∷ l) (tail_is (word at (b ∷ v.bytes)) p vs (pre ++ w ∷ post) h)))

    apart : (pre : List Word) → word at (b ∷ []) ∷ v ∷ vs ≡ pre ++ w ∷ post → Behind at (b ∷ bs) w post
    apart [] h =
        let is : word at (b ∷ []) ≡ w = head_is (word at (b ∷ [])) w (v ∷ vs) post h in
        let one : at + 1 ≡ suc at = omega arith in
        record {
          past = 1;
          place = ap (λ (x : Word). x.start + length x.bytes) (sym is);
          rest = sym (tail_is (word at (b ∷ [])) w (v ∷ vs) post h) ∙ e ∙ ap (λ (k : ℕ). words_from k bs) (sym one);
        }
    apart (p ∷ pre) h = later at b bs w post (ih pre w post (tail_is (word at (b ∷ [])) p (v ∷ vs) (pre ++ w ∷ post) h))

pub behind : (at : ℕ) (bs : List ℕ) (pre : List Word) (w : Word) (post : List Word) → words_from at bs ≡ pre ++ w ∷ post → Behind at bs w post
behind at [] pre w post h = absurd (no_items pre w post h)
behind at (b ∷ bs) pre w post h =
    elim (cases_Bool (is_white b)) [
      | inl t ↦ later at b bs w post (behind (suc at) bs pre w post (sym (cond_then (is_white b) (words_from (suc at) bs) (put_before at b (words_from (suc at) bs)) t) ∙ h))
      | inr t ↦
          begun at b bs (words_from (suc at) bs) pre w post refl (λ (q : List Word) (v : Word) (r : List Word) (e : words_from (suc at) bs ≡ q ++ v ∷ r). behind (suc at) bs q v r e)
          (sym (cond_else (is_white b) (words_from (suc at) bs) (put_before at b (words_from (suc at) bs)) t) ∙ h)
    ]

-- ---- tokens

-- a token of some words is one of them, and the tokens behind it are those of the words behind it
pub record Split (ws : List Word) (w : Word) (rest : List Word) : Type 0 where
  pub pre : List Word
  pub post : List Word
  pub whole : ws ≡ pre ++ w ∷ post
  pub tokens : rest ≡ tokens_where false post

one_before : (v : Word) (ws : List Word) (w : Word) (rest : List Word) → Split ws w rest → Split (v ∷ ws) w rest
one_before v ws w rest s = record { pre = v ∷ s.pre; post = s.post; whole = ap (λ (l : List Word). v ∷ l) s.whole; tokens = s.tokens }

pub token_split : (c : Bool) (ws front : List Word) (w : Word) (rest : List Word) → tokens_where c ws ≡ front ++ w ∷ rest → Split ws w rest
token_split c [] front w rest h = absurd (no_items front w rest h)
token_split true (v ∷ ws) front w rest h = one_before v ws w rest (token_split (not (is_close_comment v)) ws front w rest h)
token_split false (v ∷ ws) front w rest h =
    elim (cases_Bool (is_open_comment v)) [
      | inl t ↦ one_before v ws w rest (token_split true ws front w rest (sym (cond_then (is_open_comment v) (tokens_where true ws) (v ∷ tokens_where false ws) t) ∙ h))
      | inr t ↦ here (λ (f : List Word) (e : tokens_where false ws ≡ f ++ w ∷ rest). token_split false ws f w rest e) front
          (sym (cond_else (is_open_comment v) (tokens_where true ws) (v ∷ tokens_where false ws) t) ∙ h)
    ]
  where
    here : ((f : List Word) → tokens_where false ws ≡ f ++ w ∷ rest → Split ws w rest) → (front : List Word) → v ∷ tokens_where false ws ≡ front ++ w ∷ rest → Split (v ∷ ws) w rest
    here ih [] h = record {
      pre = [];
      post = ws;
      whole = ap (λ (x : Word). x ∷ ws) (head_is v w (tokens_where false ws) rest h);
      tokens = sym (tail_is v w (tokens_where false ws) rest h);
    }
    here ih (p ∷ front) h = one_before v ws w rest (ih front (tail_is v p (tokens_where false ws) (front ++ w ∷ rest) h))
