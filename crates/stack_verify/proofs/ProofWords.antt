-- The words of a proof are those between `$=` and `$.` of its statement, also where the text is read from there on.
use Rattle.std.proofs.Common.{◌≡◌, ℕ, zero, suc, ◌+◌, Bool, true, false, not, ◌||◌, List, [], ◌∷◌, ◌++◌, length, take, drop, Some, None, refl, sym}
use Rattle.std.proofs.Common.{ap, ◌∙◌, arith, subst, append_assoc, append-nil, inl, inr, ◌⊎◌}
use Rattle.std.specs.Prelude.{find, reverse, codes, map, slice_get}
use Rattle.std.specs.List.{list_any, before_first, after_first, prefix_len}
use Rattle.std.specs.Str.{bytes_eq}
use Rattle.std.proofs.lemmas.Bool.{cases_Bool, or_parts}
use Rattle.std.proofs.lemmas.List.{reverse-append, reverse-reverse}
use Rattle.mm_model.specs.Words.{Word, words, words_from}
use Rattle.mm_model.specs.Statements.{Statement, ended, ends_statement, is, statements, unended}
use Rattle.mm_model.specs.Tokens.{is_close_comment, is_open_comment, tokens, tokens_where}
use Rattle.proof_model.specs.DatabaseProofs.{proof_words}
use Rattle.stack_verify.specs.Proofs.{proof_names}
use Rattle.std.proofs.lemmas.Slice.Eq.{bytes_eq-Decides}
use Rattle.stack_verify.proofs.Substitutes.{cond_then, cond_else}
use Rattle.stack_verify.proofs.WordsBehind.{behind, token_split}

-- ---- a statement among the tokens

abbrev In : Statement → List Statement → Type 0
In s [] = ⊥
In s (x ∷ xs) = (s ≡ x) ⊎ In s xs

in_behind : (s : Statement) (xs ys : List Statement) → In s ys → In s (xs ++ ys)
in_behind s [] ys h = h
in_behind s (x ∷ xs) ys h = inr (in_behind s xs ys h)

in_before : (s : Statement) (xs ys : List Statement) → In s xs → In s (xs ++ ys)
in_before s [] ys h = absurd h
in_before s (x ∷ xs) ys (inl e) = inl e
in_before s (x ∷ xs) ys (inr h) = inr (in_before s xs ys h)

in_at : (s : Statement) (xs : List Statement) (k : ℕ) → slice_get xs k ≡ Some s → In s xs
in_at s [] k e = no_item k e
  where
    no_item : (k : ℕ) → slice_get [] k ≡ Some s → ⊥
    no_item zero e = cc
    no_item (suc k) e = cc
in_at s (x ∷ xs) zero e = inl cc
in_at s (x ∷ xs) (suc k) e = inr (in_at s xs k e)

in_reverse : (s : Statement) (xs : List Statement) → In s (reverse xs) → In s xs
in_reverse s xs h = subst (λ (l : List Statement). In s l) (reverse-reverse xs) (turned (reverse xs) h)
  where
    turned : (ys : List Statement) → In s ys → In s (reverse ys)
    turned [] h = h
    turned (y ∷ ys) (inl e) = subst (λ (l : List Statement). In s l) (sym (reverse-append (y ∷ []) ys)) (in_behind s (reverse ys) (y ∷ []) (inl e))
    turned (y ∷ ys) (inr h) = subst (λ (l : List Statement). In s l) (sym (reverse-append (y ∷ []) ys)) (in_before s (reverse ys) (y ∷ []) (turned ys h))

-- the tokens of a statement stand together, and it ends with the first that ends one
record Stands (ts : List Word) (s : Statement) : Type 0 where
  pub before : List Word
  pub after : List Word
  pub whole : ts ≡ before ++ (s ++ after)
  pub front : List Word
  pub last : Word
  pub ends : s ≡ front ++ last ∷ []
  pub ender : ends_statement last ≡ true
  pub clear : list_any ends_statement front ≡ false

record Trails (ts s : List Word) : Type 0 where
  pub before : List Word
  pub whole : ts ≡ before ++ s

snoc : (w : Word) (r : List Word) → reverse (w ∷ r) ≡ reverse r ++ w ∷ []
snoc w r = reverse-append (w ∷ []) r

trails : (r : List Word) → Trails (reverse r) (unended r)
trails [] = record { before = []; whole = refl }
trails (w ∷ r) =
    let h = trails r in
    elim (cases_Bool (ends_statement w)) [
      | inl t ↦ record {
        before = reverse (w ∷ r);
        whole =
            sym (ap (λ (l : List Word). reverse (w ∷ r) ++ l) (cond_then (ends_statement w) [] (unended r ++ w ∷ []) t)
            ∙ append-nil (reverse (w ∷ r)));
      }
      | inr t ↦ record {
        before = h.before;
        whole =
            snoc w r ∙ ap (λ (l : List Word). l ++ w ∷ []) h.whole ∙ append_assoc h.before (unended r) (w ∷ [])
            ∙ ap (λ (l : List Word). h.before ++ l) (sym (cond_else (ends_statement w) [] (unended r ++ w ∷ []) t));
      }
    ]

any_append : (p : Word → Bool) (xs ys : List Word) → list_any p (xs ++ ys) ≡ (list_any p xs || list_any p ys)
any_append p [] ys = refl
any_append p (x ∷ xs) ys = ap (λ (t : Bool). p x || t) (any_append p xs ys) ∙ assoc (p x) (list_any p xs) (list_any p ys)
  where
    assoc : (a b c : Bool) → (a || (b || c)) ≡ ((a || b) || c)
    assoc true b c = refl
    assoc false b c = refl

unended_clear : (r : List Word) → list_any ends_statement (unended r) ≡ false
unended_clear [] = refl
unended_clear (w ∷ r) =
    elim (cases_Bool (ends_statement w)) [
      | inl t ↦ ap (list_any ends_statement) (cond_then (ends_statement w) [] (unended r ++ w ∷ []) t)
      | inr t ↦
          ap (list_any ends_statement) (cond_else (ends_statement w) [] (unended r ++ w ∷ []) t) ∙ any_append ends_statement (unended r) (w ∷ [])
          ∙ ap (λ (b : Bool). b || (ends_statement w || false)) (unended_clear r) ∙ ap (λ (b : Bool). b || false) t
    ]

stands : (r : List Word) (s : Statement) → In s (ended r) → Stands (reverse r) s
stands [] s h = absurd h
stands (w ∷ r) s h =
    elim (cases_Bool (ends_statement w)) [
      | inl t ↦ ending (λ (x : In s (ended r)). stands r s x) t (subst (λ (l : List Statement). In s l) (cond_then (ends_statement w) ((unended r ++ w ∷ []) ∷ ended r) (ended r) t) h)
      | inr t ↦ longer (stands r s (subst (λ (l : List Statement). In s l) (cond_else (ends_statement w) ((unended r ++ w ∷ []) ∷ ended r) (ended r) t) h))
    ]
  where
    longer : Stands (reverse r) s → Stands (reverse (w ∷ r)) s
    longer x = record {
      before = x.before;
      after = x.after ++ w ∷ [];
      whole = snoc w r ∙ ap (λ (l : List Word). l ++ w ∷ []) x.whole ∙ append_assoc x.before (s ++ x.after) (w ∷ []) ∙ ap (λ (l : List Word). x.before ++ l) (append_assoc s x.after (w ∷ []));
      front = x.front;
      last = x.last;
      ends = x.ends;
      ender = x.ender;
      clear = x.clear;
    }

    ending : (In s (ended r) → Stands (reverse r) s) → ends_statement w ≡ true → In s ((unended r ++ w ∷ []) ∷ ended r) → Stands (reverse (w ∷ r)) s
    ending ih t (inl e) =
        let h = trails r in
        record {
          before = h.before;
          after = [];
          whole = snoc w r ∙ ap (λ (l : List Word). l ++ w ∷ []) h.whole ∙ append_assoc h.before (unended r) (w ∷ []) ∙ ap (λ (l : List Word). h.before ++ l) (sym e ∙ sym (append-nil s));
          front = unended r;
          last = w;
          ends = e;
          ender = t;
          clear = unended_clear r;
        }
    ending ih t (inr h) = longer (ih h)

-- ---- a word of a statement

record At (p : Word → Bool) (s : List Word) (w : Word) : Type 0 where
  pub pre : List Word
  pub post : List Word
  pub whole : s ≡ pre ++ w ∷ post
  pub passes : p w ≡ true
  pub after : after_first p s ≡ post

first_is : (v w : Word) → Some v ≡ Some w → v ≡ w
first_is v w e = cc

found_at : (p : Word → Bool) (s : List Word) (w : Word) → find p s ≡ Some w → At p s w
found_at p [] w e = absurd (nothing e)
  where
    nothing : None ≡ Some w → ⊥
    nothing e = cc
found_at p (v ∷ s) w e =
    elim (cases_Bool (p v)) [
      | inl t ↦
          let is : v ≡ w = first_is v w (sym (cond_then (p v) (Some v) (find p s) t) ∙ e) in
          record { pre = []; post = s; whole = ap (λ (x : Word). x ∷ s) is; passes = ap p (sym is) ∙ t; after = rw t refl }
      | inr t ↦
          let h = found_at p s w (sym (cond_else (p v) (Some v) (find p s) t) ∙ e) in
          let n = prefix_len (λ (x : Word). not (p x)) s in
          let one : 1 + n + 1 ≡ suc (n + 1) = omega arith in
          let on : after_first p (v ∷ s) ≡ after_first p s = rw t (ap (λ (k : ℕ). drop k (v ∷ s)) one) in
          record { pre = v ∷ h.pre; post = h.post; whole = ap (λ (l : List Word). v ∷ l) h.whole; passes = h.passes; after = on ∙ h.after }
    ]

-- the words before the first are the same with more words behind it
same_before : (p : Word → Bool) (xs ys : List Word) → list_any p xs ≡ true → before_first p (xs ++ ys) ≡ before_first p xs
same_before p [] ys h = absurd (nothing h)
  where
    nothing : false ≡ true → ⊥
    nothing e = cc
same_before p (x ∷ xs) ys h =
    elim (cases_Bool (p x)) [
      | inl t ↦ rw t refl
      | inr t ↦
          let rest : list_any p xs ≡ true = sym (ap (λ (b : Bool). b || list_any p xs) t) ∙ h in
          let n = prefix_len (λ (y : Word). not (p y)) (xs ++ ys) in
          let m = prefix_len (λ (y : Word). not (p y)) xs in
          let one : 1 + n ≡ suc n = omega arith in
          let two : 1 + m ≡ suc m = omega arith in
          let ih : take n (xs ++ ys) ≡ take m xs = same_before p xs ys rest in
          rw (t, one, two) (ap (λ (l : List Word). x ∷ l) ih)
    ]

-- what stands behind a word that ends no statement
record Cut (front : List Word) (last : Word) (pre : List Word) (w : Word) (post : List Word) : Type 0 where
  pub middle : List Word
  pub post_is : post ≡ middle ++ last ∷ []
  pub front_is : front ≡ pre ++ w ∷ middle

differ : (w last : Word) → ends_statement w ≡ false → ends_statement last ≡ true → w ≡ last → ⊥
differ w last n y e = let both : false ≡ true = sym n ∙ ap ends_statement e ∙ y in cc

heads : (v w : Word) (vs ws : List Word) → v ∷ vs ≡ w ∷ ws → v ≡ w
heads v w vs ws e = cc

tails : (v w : Word) (vs ws : List Word) → v ∷ vs ≡ w ∷ ws → vs ≡ ws
tails v w vs ws e = cc

not_empty : (pre : List Word) (w : Word) (post : List Word) → pre ++ w ∷ post ≡ [] → ⊥
not_empty [] w post e = cc
not_empty (x ∷ pre) w post e = cc

cut : (pre : List Word) (w : Word) (post front : List Word) (last : Word) → ends_statement w ≡ false → ends_statement last ≡ true → pre ++ w ∷ post ≡ front ++ last ∷ [] → Cut front last pre w post
cut [] w post [] last n y e = absurd (differ w last n y (heads w last post [] e))
cut [] w post (x ∷ front) last n y e =
    record {
      middle = front;
      post_is = tails w x post (front ++ last ∷ []) e;
      front_is = ap (λ (v : Word). v ∷ front) (sym (heads w x post (front ++ last ∷ []) e));
    }
cut (v ∷ pre) w post [] last n y e = absurd (not_empty pre w post (tails v last (pre ++ w ∷ post) [] e))
cut (v ∷ pre) w post (x ∷ front) last n y e =
    let h = cut pre w post front last n y (tails v x (pre ++ w ∷ post) (front ++ last ∷ []) e) in
    record { middle = h.middle; post_is = h.post_is; front_is = ap (λ (u : Word). u ∷ front) (sym (heads v x (pre ++ w ∷ post) (front ++ last ∷ []) e)) ∙ ap (λ (l : List Word). v ∷ l) h.front_is }

abbrev is_end : Word → Bool
is_end w = is (codes "$.") w

-- where nothing ends a statement, nothing is `$.`
no_end : (xs : List Word) → list_any ends_statement xs ≡ false → list_any is_end xs ≡ false
no_end [] h = refl
no_end (x ∷ xs) h =
    let parts = or_parts (ends_statement x) (list_any ends_statement xs) h in
    let one = or_parts (is_end x) (list_any (bytes_eq x.bytes) (codes "${" ∷ codes "$}" ∷ [])) parts.0 in
    ap (λ (t : Bool). t || list_any is_end xs) one.0 ∙ no_end xs parts.1

-- ---- the whole

names_are : (c : Bool) (ws : List Word) → proof_names c ws ≡ map (λ (w : Word). w.bytes) (before_first is_end (tokens_where c ws))
names_are c [] = refl
names_are true (w ∷ ws) = names_are (not (is_close_comment w)) ws
names_are false (w ∷ ws) =
    let n = prefix_len (λ (y : Word). not (is_end y)) (tokens_where false ws) in
    let one : 1 + n ≡ suc n = omega arith in
    elim (cases_Bool (is_open_comment w)) [
      | inl t ↦ rw t (names_are true ws)
      | inr t ↦
          elim (cases_Bool (is_end w)) [
            | inl s ↦ rw (t, s) refl
            | inr s ↦ rw (t, s, one) (ap (λ (l : List (List ℕ)). w.bytes ∷ l) (names_are false ws))
          ]
    ]

equals_ends_nothing : (w : Word) → is (codes "$=") w ≡ true → (ends_statement w ≡ false) × (is_end w ≡ false) × (length w.bytes ≡ 2)
equals_ends_nothing w e =
    let b : w.bytes ≡ codes "$=" = (bytes_eq-Decides w.bytes (codes "$=")).0 e in (
      ap (λ (x : List ℕ). list_any (bytes_eq x) (codes "$." ∷ codes "${" ∷ codes "$}" ∷ [])) b,
      ap (λ (x : List ℕ). bytes_eq x (codes "$.")) b,
      ap length b,
    )

ended_there : (pre : List Word) (w : Word) (post : List Word) → list_any is_end pre ≡ false → is_end w ≡ false → list_any is_end (pre ++ w ∷ post) ≡ true → list_any is_end post ≡ true
ended_there pre w post h k e =
    sym (any_append is_end pre (w ∷ post) ∙ ap (λ (b : Bool). b || (is_end w || list_any is_end post)) h ∙ ap (λ (b : Bool). b || list_any is_end post) k) ∙ e

has_end : (s : List Word) (e : Word) → find is_end s ≡ Some e → list_any is_end s ≡ true
has_end s e h =
    let x = found_at is_end s e h in
    ap (list_any is_end) x.whole ∙ any_append is_end x.pre (e ∷ x.post) ∙ ap (λ (b : Bool). list_any is_end x.pre || (b || list_any is_end x.post)) x.passes ∙ last_true (list_any is_end x.pre)
  where
    last_true : (a : Bool) → (a || true) ≡ true
    last_true true = refl
    last_true false = refl

pub words_are : (text : List ℕ) (at : ℕ) (s : Statement) (w e : Word) → slice_get (statements text) at ≡ Some s → find (is (codes "$=")) s ≡ Some w → find is_end s ≡ Some e
    → proof_names false (words_from (w.start + 2) (drop (w.start + 2) text)) ≡ proof_words s
words_are text at s w e there hw he =
    let ts : List Word = tokens text in
    let st = stands (reverse ts) s (in_reverse s (ended (reverse ts)) (in_at s (statements text) at there)) in
    let eq = found_at (is (codes "$=")) s w hw in
    let no = equals_ends_nothing w eq.passes in
    let c = cut eq.pre w eq.post st.front st.last no.0 st.ender (sym eq.whole ∙ st.ends) in
    let clear : list_any ends_statement eq.pre ≡ false =
    (or_parts (list_any ends_statement eq.pre) (list_any ends_statement (w ∷ c.middle))
    (sym (any_append ends_statement eq.pre (w ∷ c.middle)) ∙ ap (list_any ends_statement) (sym c.front_is) ∙ st.clear)).0 in
    let ended_post : list_any is_end eq.post ≡ true = ended_there eq.pre w eq.post (no_end eq.pre clear) no.1 (ap (list_any is_end) (sym eq.whole) ∙ has_end s e he) in
    let whole : tokens_where false (words text) ≡ (st.before ++ eq.pre) ++ w ∷ (eq.post ++ st.after) =
    sym (reverse-reverse ts) ∙ st.whole ∙ ap (λ (l : List Word). st.before ++ (l ++ st.after)) eq.whole ∙ ap (λ (l : List Word). st.before ++ l) (append_assoc eq.pre (w ∷ eq.post) st.after)
    ∙ sym (append_assoc st.before eq.pre (w ∷ (eq.post ++ st.after))) in
    let t = token_split false (words text) (st.before ++ eq.pre) w (eq.post ++ st.after) whole in
    let b = behind 0 text t.pre w t.post t.whole in
    let place : 0 + b.past ≡ w.start + 2 = omega (arith, b.place, no.2) in
    let past : b.past ≡ w.start + 2 = omega (arith, b.place, no.2) in
    let post : t.post ≡ words_from (w.start + 2) (drop (w.start + 2) text) =
    b.rest ∙ ap (λ (k : ℕ). words_from k (drop b.past text)) place ∙ ap (λ (k : ℕ). words_from (w.start + 2) (drop k text)) past in
    names_are false (words_from (w.start + 2) (drop (w.start + 2) text))
    ∙ ap (λ (l : List Word). map (λ (x : Word). x.bytes) (before_first is_end l)) (ap (tokens_where false) (sym post) ∙ sym t.tokens)
    ∙ ap (λ (l : List Word). map (λ (x : Word). x.bytes) l) (same_before is_end eq.post st.after ended_post ∙ ap (before_first is_end) (sym eq.after))
