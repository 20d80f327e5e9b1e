-- The words of a text are cut behind one of its statements.
use Rattle.std.proofs.Common.{◌≡◌, ◌<◌, ℕ, zero, suc, Bool, true, false, not, cond, eqb, Option, Some, None, List, [], ◌∷◌, ◌++◌}
use Rattle.std.proofs.Common.{length, take, drop, refl, sym, ap, ◌∙◌, subst, arith, inl, inr, codes, append_assoc, append-nil}
use Rattle.std.specs.List.{list_any, last_or, slice_index_or, AllByRecursion}
use Rattle.std.specs.Option.{option_map_or}
use Rattle.std.specs.Str.{bytes_eq}
use Rattle.std.proofs.lemmas.Bool.{cases_Bool}
use Rattle.std.proofs.lemmas.List.{map-append}
use Rattle.std.proofs.lemmas.Slice.Eq.{bytes_eq-Decides}
use Rattle.mm_model.specs.Names.{Name}
use Rattle.mm_model.specs.Words.{Word, words}
use Rattle.mm_model.specs.Tokens.{tokens, tokens_where, is_open_comment, is_close_comment}
use Rattle.mm_model.specs.Statements.{Statement, ends_statement, statements}
use Rattle.mm_model.proofs.Scopes.{cond_then, cond_else}
use Rattle.install_model.specs.Installed.{byte_behind}
use Rattle.install_laws.specs.InstalledStatements.{names, tokens_of, HasNoDollar}
use Rattle.install_laws.proofs.Forward.{split, split-end, split-on, statements_forward}
use Rattle.install_laws.proofs.WordCuts.{word_at}

-- ---- tokens and statements by the bytes of words

abbrev pub opens : Name → Bool
opens n = bytes_eq n (codes "$(")

abbrev pub closes : Name → Bool
closes n = bytes_eq n (codes "$)")

abbrev pub ends : Name → Bool
ends n = list_any (bytes_eq n) (codes "$." ∷ codes "${" ∷ codes "$}" ∷ [])

abbrev pub tokens_among : Bool → List Name → List Name
tokens_among in_comment [] = []
tokens_among true (n ∷ ns) = tokens_among (not (closes n)) ns
tokens_among false (n ∷ ns) = cond (opens n) (tokens_among true ns) (n ∷ tokens_among false ns)

abbrev pub split_names : List Name → List Name → List (List Name)
split_names front [] = []
split_names front (n ∷ ns) = cond (ends n) ((front ++ n ∷ []) ∷ split_names [] ns) (split_names (front ++ n ∷ []) ns)

abbrev pub statements_among : List Name → List Name → List (List Name)
statements_among front ns = split_names front (tokens_among false ns)

pub tokens_are : (c : Bool) (ws : List Word) → names (tokens_where c ws) ≡ tokens_among c (names ws)
tokens_are true [] = refl
tokens_are false [] = refl
tokens_are true (w ∷ ws) = tokens_are (not (is_close_comment w)) ws
tokens_are false (w ∷ ws) = by (is_open_comment w) (tokens_are true ws) (tokens_are false ws)
  where
    by : (b : Bool) → names (tokens_where true ws) ≡ tokens_among true (names ws) → names (tokens_where false ws) ≡ tokens_among false (names ws)
        → names (cond b (tokens_where true ws) (w ∷ tokens_where false ws)) ≡ cond b (tokens_among true (names ws)) (w.bytes ∷ tokens_among false (names ws))
    by true there here = there
    by false there here = ap (λ (ns : List Name). w.bytes ∷ ns) here

split_is : (front : Statement) (ws : List Word) → tokens_of (split front ws) ≡ split_names (names front) (names ws)
split_is front [] = refl
split_is front (w ∷ ws) = by (ends_statement w) (split_is [] ws) (split_is (front ++ w ∷ []) ws)
  where
    more : names (front ++ w ∷ []) ≡ names front ++ w.bytes ∷ []
    more = map-append (λ (v : Word). v.bytes) front (w ∷ [])

    by : (b : Bool) → tokens_of (split [] ws) ≡ split_names [] (names ws) → tokens_of (split (front ++ w ∷ []) ws) ≡ split_names (names (front ++ w ∷ [])) (names ws)
        → tokens_of (cond b ((front ++ w ∷ []) ∷ split [] ws) (split (front ++ w ∷ []) ws))
        ≡ cond b ((names front ++ w.bytes ∷ []) ∷ split_names [] (names ws)) (split_names (names front ++ w.bytes ∷ []) (names ws))
    by true first on = ap (λ (s : List Name). s ∷ tokens_of (split [] ws)) more ∙ ap (λ (ss : List (List Name)). (names front ++ w.bytes ∷ []) ∷ ss) first
    by false first on = on ∙ ap (λ (s : List Name). split_names s (names ws)) more

pub statements_are : (text : List ℕ) → tokens_of (statements text) ≡ statements_among [] (names (words text))
statements_are text = ap tokens_of (statements_forward text) ∙ split_is [] (tokens text) ∙ ap (split_names []) (tokens_are false (words text))

-- ---- the end of a statement

abbrev byte_of : Statement → ℕ
byte_of s = option_map_or byte_behind (last_or None s) 0

-- the statement of a number ends with the word of a number; behind it other words make statements of their own
pub record IsCut (c : Bool) (front : Statement) (n : ℕ) (ws : List Word) : Type 0 where
  pub at : ℕ
  pub within : at < length ws
  pub byte : byte_of (slice_index_or (split front (tokens_where c ws)) n []) ≡ byte_behind (word_at ws at)
  pub more : (ns : List Name) → split_names (names front) (tokens_among c (take (suc at) (names ws) ++ ns))
      ≡ take (suc n) (split_names (names front) (tokens_among c (names ws))) ++ statements_among [] ns
  pub rest : statements_among [] (drop (suc at) (names ws)) ≡ drop (suc n) (split_names (names front) (tokens_among c (names ws)))

-- a word that ends nothing
module _ (c d : Bool) (front goes : Statement) (n : ℕ) (w : Word) (ws : List Word) (same : split front (tokens_where c (w ∷ ws)) ≡ split goes (tokens_where d ws))
    (alike : (ns : List Name) → split_names (names front) (tokens_among c (w.bytes ∷ ns)) ≡ split_names (names goes) (tokens_among d ns)) where
  passed : IsCut d goes n ws → IsCut c front n (w ∷ ws)
  passed k =
      let in_all : suc k.at < suc (length ws) = let h = k.within in omega (arith, h) in
      record {
        at = suc k.at;
        within = in_all;
        byte = ap (λ (ss : List Statement). byte_of (slice_index_or ss n [])) same ∙ k.byte;
        more = λ ns. alike (take (suc k.at) (names ws) ++ ns) ∙ k.more ns ∙ ap (λ (ss : List (List Name)). take (suc n) ss ++ statements_among [] ns) (sym (alike (names ws)));
        rest = k.rest ∙ ap (λ (ss : List (List Name)). drop (suc n) ss) (sym (alike (names ws)));
      }

last_of : (o : Option Word) (s : Statement) (w : Word) → last_or o (s ++ w ∷ []) ≡ Some w
last_of o [] w = refl
last_of o (v ∷ s) w = last_of (Some v) s w

-- a word that ends a statement
module _ (front : Statement) (w : Word) (ws : List Word) (same : split front (tokens_where false (w ∷ ws)) ≡ (front ++ w ∷ []) ∷ split [] (tokens_where false ws))
    (alike : (ns : List Name) → split_names (names front) (tokens_among false (w.bytes ∷ ns)) ≡ (names front ++ w.bytes ∷ []) ∷ statements_among [] ns) where
  here : IsCut false front 0 (w ∷ ws)
  here =
      let in_all : 0 < suc (length ws) = omega arith in
      record {
        at = 0;
        within = in_all;
        byte = ap (λ (ss : List Statement). byte_of (slice_index_or ss 0 [])) same ∙ ap (λ (o : Option Word). option_map_or byte_behind o 0) (last_of None front w);
        more = λ ns. alike ns ∙ ap (λ (ss : List (List Name)). take 1 ss ++ statements_among [] ns) (sym (alike (names ws)));
        rest = ap (λ (ss : List (List Name)). drop 1 ss) (sym (alike (names ws)));
      }

  later : (n : ℕ) → IsCut false [] n ws → IsCut false front (suc n) (w ∷ ws)
  later n k =
      let in_all : suc k.at < suc (length ws) = let h = k.within in omega (arith, h) in
      record {
        at = suc k.at;
        within = in_all;
        byte = ap (λ (ss : List Statement). byte_of (slice_index_or ss (suc n) [])) same ∙ k.byte;
        more = λ ns.
            alike (take (suc k.at) (names ws) ++ ns) ∙ ap (λ (ss : List (List Name)). (names front ++ w.bytes ∷ []) ∷ ss) (k.more ns)
            ∙ ap (λ (ss : List (List Name)). take (suc (suc n)) ss ++ statements_among [] ns) (sym (alike (names ws)));
        rest = k.rest ∙ ap (λ (ss : List (List Name)). drop (suc (suc n)) ss) (sym (alike (names ws)));
      }

pub cut_behind : (c : Bool) (front : Statement) (n : ℕ) (ws : List Word) → n < length (split front (tokens_where c ws)) → IsCut c front n ws
cut_behind true front n [] h = absurd (omega (arith, h))
cut_behind false front n [] h = absurd (omega (arith, h))
cut_behind true front n (w ∷ ws) h = passed true (not (is_close_comment w)) front front n w ws refl (λ ns. refl) (cut_behind (not (is_close_comment w)) front n ws h)
cut_behind false front n (w ∷ ws) h = elim (cases_Bool (is_open_comment w)) [
  | inl o ↦
      let same : split front (tokens_where false (w ∷ ws)) ≡ split front (tokens_where true ws) =
      ap (split front) (cond_then (is_open_comment w) (tokens_where true ws) (w ∷ tokens_where false ws) o) in
      passed false true front front n w ws same
      (λ ns. ap (split_names (names front)) (cond_then (opens w.bytes) (tokens_among true ns) (w.bytes ∷ tokens_among false ns) o))
      (cut_behind true front n ws (subst (λ (ss : List Statement). n < length ss) same h))
  | inr o ↦
      let kept : tokens_where false (w ∷ ws) ≡ w ∷ tokens_where false ws = cond_else (is_open_comment w) (tokens_where true ws) (w ∷ tokens_where false ws) o in
      let named : (ns : List Name) → tokens_among false (w.bytes ∷ ns) ≡ w.bytes ∷ tokens_among false ns =
      λ ns. cond_else (opens w.bytes) (tokens_among true ns) (w.bytes ∷ tokens_among false ns) o in
      elim (cases_Bool (ends_statement w)) [
        | inl e ↦
            let same = ap (split front) kept ∙ split-end front w (tokens_where false ws) e in
            let alike : (ns : List Name) → split_names (names front) (tokens_among false (w.bytes ∷ ns)) ≡ (names front ++ w.bytes ∷ []) ∷ statements_among [] ns =
            λ ns. ap (split_names (names front)) (named ns)
            ∙ cond_then (ends w.bytes) ((names front ++ w.bytes ∷ []) ∷ statements_among [] ns) (split_names (names front ++ w.bytes ∷ []) (tokens_among false ns)) e in
            at_end n same alike (subst (λ (ss : List Statement). n < length ss) same h) (λ m l. cut_behind false [] m ws l)
        | inr e ↦
            let same = ap (split front) kept ∙ split-on front w (tokens_where false ws) e in
            let alike : (ns : List Name) → split_names (names front) (tokens_among false (w.bytes ∷ ns)) ≡ split_names (names (front ++ w ∷ [])) (tokens_among false ns) =
            λ ns. ap (split_names (names front)) (named ns)
            ∙ cond_else (ends w.bytes) ((names front ++ w.bytes ∷ []) ∷ statements_among [] ns) (split_names (names front ++ w.bytes ∷ []) (tokens_among false ns)) e
            ∙ ap (λ (s : List Name). split_names s (tokens_among false ns)) (sym (map-append (λ (v : Word). v.bytes) front (w ∷ []))) in
            passed false false front (front ++ w ∷ []) n w ws same alike (cut_behind false (front ++ w ∷ []) n ws (subst (λ (ss : List Statement). n < length ss) same h))
      ]
]
  where
    at_end : (m : ℕ) → split front (tokens_where false (w ∷ ws)) ≡ (front ++ w ∷ []) ∷ split [] (tokens_where false ws)
        → ((ns : List Name) → split_names (names front) (tokens_among false (w.bytes ∷ ns)) ≡ (names front ++ w.bytes ∷ []) ∷ statements_among [] ns)
        → m < suc (length (split [] (tokens_where false ws))) → ((k : ℕ) → k < length (split [] (tokens_where false ws)) → IsCut false [] k ws) → IsCut false front m (w ∷ ws)
    at_end zero same alike l more = here front w ws same alike
    at_end (suc m) same alike l more = later front w ws same alike m (more m (omega (arith, l)))

-- ---- statements of plain words

pub apart : (n k : Name) → HasNoDollar n → list_any (λ b. eqb b 36) k ≡ true → bytes_eq n k ≡ false
apart n k none some = elim (cases_Bool (bytes_eq n k)) [
  | inl e ↦
      let same : n ≡ k = (bytes_eq-Decides n k).0 e in
      let bad : true ≡ false = sym some ∙ ap (λ (bs : List ℕ). list_any (λ b. eqb b 36) bs) (sym same) ∙ none in
      absurd cc
  | inr e ↦ e
]

plain_opens : (n : Name) → HasNoDollar n → opens n ≡ false
plain_opens n h = apart n (codes "$(") h refl

plain_ends : (n : Name) → HasNoDollar n → ends n ≡ false
plain_ends n h = let a = apart n (codes "$.") h refl in let b = apart n (codes "${") h refl in let c = apart n (codes "$}") h refl in rw (a, b, c) refl

-- words that are no keywords go on with a statement
pub plain_run : (ns : List Name) (front more : List Name) → AllByRecursion HasNoDollar ns → statements_among front (ns ++ more) ≡ statements_among (front ++ ns) more
plain_run [] front more h = ap (λ (s : List Name). statements_among s more) (sym (append-nil front))
plain_run (n ∷ ns) front more h =
    ap (split_names front) (cond_else (opens n) (tokens_among true (ns ++ more)) (n ∷ tokens_among false (ns ++ more)) (plain_opens n h.0))
    ∙ cond_else (ends n) ((front ++ n ∷ []) ∷ statements_among [] (ns ++ more)) (statements_among (front ++ n ∷ []) (ns ++ more)) (plain_ends n h.0)
    ∙ plain_run ns (front ++ n ∷ []) more h.1
    ∙ ap (λ (s : List Name). statements_among s more) (append_assoc front (n ∷ []) ns)
