-- Each statement of the block of a theorem that can be put in passes the rules.
use Rattle.std.proofs.Common.{◌≡◌, ◌⊎◌, ℕ, suc, Bool, true, false, not, ◌&&◌, ◌||◌, ◌+◌, List, [], ◌∷◌, ◌++◌, take, drop, refl, sym, ap, ◌∙◌, subst, inl, inr, codes, append-nil, arith, cond}
use mathlib.Core.Path.{fun_ext}
use Rattle.std.specs.Prelude.{take_while}
use Rattle.std.specs.List.{AllByRecursion, list_any, list_all, prefix_len}
use Rattle.std.specs.Str.{bytes_eq}
use Rattle.std.proofs.lemmas.List.Folds.{list_any-append}
use Rattle.mm_model.specs.Labels.{is_label_byte}
use Rattle.mm_model.specs.Names.{Name, contains}
use Rattle.mm_model.specs.Statements.{is_empty, labelled}
use Rattle.model_laws.proofs.Shapes.{taken-front}
use Rattle.install_laws.specs.InstalledStatements.{HasNoDollar}
use Rattle.install_laws.proofs.NamesLaw.{is_plain, body_names, keyword_is, symbol_names, plain_is}
use Rattle.install_laws.proofs.ActiveNames.{has_kw}
use Rattle.install_laws.proofs.StatementCuts.{apart}
use Rattle.installed_laws.proofs.RuleTable.{Known, Front, Token, AllFalse, table, token, front, front_from, known, alone, has_proof, taken, extra, bad, is_label_at, labels_of, Passes}

-- no test holds, where each computes
abbrev no_test_holds : List Bool
no_test_holds =
    false ∷ false ∷ false ∷ false ∷ false ∷ false ∷ false ∷ false ∷ false
    ∷ false ∷ false ∷ false ∷ false ∷ false ∷ false ∷ false ∷ false ∷ false ∷ []

pub all_false : AllFalse no_test_holds
all_false = (refl, (refl, (refl, (refl, (refl, (refl, (refl, (refl, (refl, (refl, (refl, (refl, (refl, (refl, (refl, (refl, (refl, (refl, tt))))))))))))))))))

-- ---- a word that is no keyword

abbrev pub plain_word : Token
plain_word = record { plain = true; include = false; declares = false; closes = false; dot = false; equals = false; ends_formula = false; labelled = false; starts = false }

abbrev token_with : Bool → Bool → Bool → Bool → Bool → Bool → Bool → Bool → Bool → Bool → Bool → Bool → Bool → Token
token_with p i c v d o x dot eq f e a pp = record {
  plain = p;
  include = i;
  declares = c;
  closes = x;
  dot = dot;
  equals = eq;
  ends_formula = dot || (eq || false);
  labelled = f || (e || (a || (pp || false)));
  starts = c || (v || (d || (o || (x || false))));
}

pub plain_token : (w : Name) → HasNoDollar w → token w ≡ plain_word
plain_token w h =
    let p = plain_is w h in
    let i = apart w (codes "$[") h refl in
    let c = apart w (codes "$c") h refl in
    let v = apart w (codes "$v") h refl in
    let d = apart w (codes "$d") h refl in
    let o = apart w (codes "${") h refl in
    let x = apart w (codes "$}") h refl in
    let dot = apart w (codes "$.") h refl in
    let eq = apart w (codes "$=") h refl in
    let f = apart w (codes "$f") h refl in
    let e = apart w (codes "$e") h refl in
    let a = apart w (codes "$a") h refl in
    let pp = apart w (codes "$p") h refl in
    by p i c v d o x dot eq f e a pp
  where
    by : {p' i' c' v' d' o' x' dot' eq' f' e' a' pp' : Bool} → p' ≡ true → i' ≡ false → c' ≡ false → v' ≡ false → d' ≡ false → o' ≡ false → x' ≡ false → dot' ≡ false → eq' ≡ false → f' ≡ false
        → e' ≡ false → a' ≡ false → pp' ≡ false → token_with p' i' c' v' d' o' x' dot' eq' f' e' a' pp' ≡ plain_word
    by p i c v d o x dot eq f e a pp = rw (p, i, c, v, d, o, x, dot, eq, f, e, a, pp) refl

-- ---- the front of a statement behind its keyword

abbrev pub ArePlain : List Name → Type 0
ArePlain ns = AllByRecursion HasNoDollar ns

body_at : (f : List Name) (k : Name) (us : List Name) → ArePlain f → is_plain k ≡ false → body_names (f ++ k ∷ us) ≡ k ∷ us
body_at [] k us h e = ap (λ b. drop (cond b (1 + prefix_len is_plain us) 0) (k ∷ us)) e
body_at (n ∷ f) k us h e =
    ap (λ b. drop (cond b (1 + prefix_len is_plain (f ++ k ∷ us)) 0) (n ∷ (f ++ k ∷ us))) (plain_is n h.0)
    ∙ ap (λ m. drop m (n ∷ (f ++ k ∷ us))) (one_plus (prefix_len is_plain (f ++ k ∷ us))) ∙ body_at f k us h.1 e
  where
    one_plus : (m : ℕ) → 1 + m ≡ suc m
    one_plus m = omega arith

pub or_false : (b : Bool) → (b || false) ≡ b
or_false true = refl
or_false false = refl

one_of_at : (f : List Name) (k : Name) (us : List Name) → ArePlain f → is_plain k ≡ false → (ks : List Name) → keyword_is ks (f ++ k ∷ us) ≡ list_any (bytes_eq k) ks
one_of_at f k us h e ks = ap (λ ns. list_any (λ n. list_any (bytes_eq n) ks) (take 1 ns)) (body_at f k us h e) ∙ or_false (list_any (bytes_eq k) ks)

pub has_at : (f : List Name) (k : Name) (us : List Name) → ArePlain f → is_plain k ≡ false → (j : Name) → has_kw j (f ++ k ∷ us) ≡ bytes_eq k j
has_at f k us h e j = ap (λ ns. list_any (λ n. bytes_eq n j) (take 1 ns)) (body_at f k us h e) ∙ or_false (bytes_eq k j)

pub empty_at : (f : List Name) (k : Name) (us : List Name) → is_empty (f ++ k ∷ us) ≡ false
empty_at [] k us = refl
empty_at (n ∷ f) k us = refl

alone_at : (f : List Name) (k : Name) (us : List Name) → is_plain k ≡ false → alone (f ++ k ∷ us) ≡ false
alone_at [] k [] e = e
alone_at [] k (u ∷ us) e = refl
alone_at (n ∷ []) k us e = refl
alone_at (n ∷ m ∷ f) k us e = refl

all_plain : (us : List Name) → ArePlain us → AllByRecursion (λ n. is_plain n ≡ true) us
all_plain [] h = tt
all_plain (u ∷ us) h = (plain_is u h.0, all_plain us h.1)

symbols_at : (f : List Name) (k : Name) (us : List Name) → ArePlain f → is_plain k ≡ false → ArePlain us → symbol_names (f ++ k ∷ us) ≡ us
symbols_at f k us h e p =
    ap (λ ns. take_while is_plain (drop 1 ns)) (body_at f k us h e) ∙ ap (take_while is_plain) (sym (append-nil us)) ∙ taken-front is_plain us [] (all_plain us p) tt

no_proof : (us : List Name) → ArePlain us → has_proof us ≡ false
no_proof [] h = refl
no_proof (u ∷ us) h = ap (λ b. b || has_proof us) (apart u (codes "$=") h.0 refl) ∙ no_proof us h.1

proof_at : (f : List Name) (k : Name) (us : List Name) → ArePlain f → bytes_eq k (codes "$=") ≡ false → ArePlain us → has_proof (f ++ k ∷ us) ≡ false
proof_at f k us h e p =
    list_any-append (λ n. bytes_eq n (codes "$=")) f (k ∷ us) ∙ ap (λ b. b || (bytes_eq k (codes "$=") || has_proof us)) (no_proof f h)
    ∙ ap (λ b. b || has_proof us) e ∙ no_proof us p

-- with these symbols so far, and whether its proof has begun
abbrev pub front_with : Name → Bool → List Name → Name → Front
front_with k proof us w = front_from false false proof us (λ ks. list_any (bytes_eq k) ks) (λ j. bytes_eq k j) w

pub front_at : (f : List Name) (k : Name) (us : List Name) (w : Name) → ArePlain f → is_plain k ≡ false
    → front (f ++ k ∷ us) w ≡ front_with k (has_proof (f ++ k ∷ us)) (symbol_names (f ++ k ∷ us)) w
front_at f k us w h e =
    let whole = f ++ k ∷ us in
    ap (λ b. front_from b (alone whole) (has_proof whole) (symbol_names whole) (λ ks. keyword_is ks whole) (λ j. has_kw j whole) w) (empty_at f k us)
    ∙ ap (λ b. front_from false b (has_proof whole) (symbol_names whole) (λ ks. keyword_is ks whole) (λ j. has_kw j whole) w) (alone_at f k us e)
    ∙ ap (λ g. front_from false false (has_proof whole) (symbol_names whole) g (λ j. has_kw j whole) w) (fun_ext (one_of_at f k us h e))
    ∙ ap (λ g. front_from false false (has_proof whole) (symbol_names whole) (λ ks. list_any (bytes_eq k) ks) g w) (fun_ext (has_at f k us h e))

pub front_is_at : (f : List Name) (k : Name) (us : List Name) (w : Name) → ArePlain f → is_plain k ≡ false → bytes_eq k (codes "$=") ≡ false → ArePlain us
    → front (f ++ k ∷ us) w ≡ front_with k false us w
front_is_at f k us w h e d p =
    front_at f k us w h e ∙ ap (λ b. front_with k b (symbol_names (f ++ k ∷ us)) w) (proof_at f k us h d p) ∙ ap (λ ns. front_with k false ns w) (symbols_at f k us h e p)

-- ---- a word at a place, by its tests

pub and_false : (b : Bool) → (b && false) ≡ false
and_false true = refl
and_false false = refl

-- a word that is no label
pub passes_by : (e : List (List Name)) (f : List Name) (w : Name) (after : List Name) (k : Known) (g : Front) → known e w ≡ k → front f w ≡ g → HasNoDollar w → is_empty f ≡ false
    → AllFalse (table k g plain_word false false false) → Passes e f w after
passes_by e f w after k g is_k is_g plain some h =
    let no_label : is_label_at f w ≡ false = ap (λ b. is_plain w && b) some ∙ and_false (is_plain w) in
    let no_taken : taken e f w ≡ false = ap (λ b. b && contains (labels_of e) w) no_label in
    let no_extra : extra f w after ≡ false = ap (λ b. b && list_any (λ n. not (list_any (bytes_eq n) labelled)) after) no_label in
    let no_bad : bad f w ≡ false = ap (λ b. b && not (list_all is_label_byte w)) no_label in
    let tests : table (known e w) (front f w) (token w) (taken e f w) (extra f w after) (bad f w) ≡ table k g plain_word false false false =
    ap (λ x. table x (front f w) (token w) (taken e f w) (extra f w after) (bad f w)) is_k
    ∙ ap (λ x. table k x (token w) (taken e f w) (extra f w after) (bad f w)) is_g
    ∙ ap (λ x. table k g x (taken e f w) (extra f w after) (bad f w)) (plain_token w plain)
    ∙ ap (λ x. table k g plain_word x (extra f w after) (bad f w)) no_taken
    ∙ ap (λ x. table k g plain_word false x (bad f w)) no_extra
    ∙ ap (λ x. table k g plain_word false false x) no_bad in
    subst AllFalse (sym tests) h

-- a keyword
pub keyword_by : (e : List (List Name)) (f : List Name) (w : Name) (after : List Name) (g : Front) → front f w ≡ g
    → AllFalse (table (known e w) g (token w) (taken e f w) (extra f w after) (bad f w)) → Passes e f w after
keyword_by e f w after g is h = subst (λ x. AllFalse (table (known e w) x (token w) (taken e f w) (extra f w after) (bad f w))) (sym is) h

-- a label
pub label_passes : (e : List (List Name)) (n k : Name) → HasNoDollar n → list_any (bytes_eq k) labelled ≡ true
    → contains (labels_of e) n ≡ false → list_all is_label_byte n ≡ true → Passes e [] n (k ∷ [])
label_passes e n k plain is_k new bytes =
    let no_taken : taken e [] n ≡ false = ap (λ b. is_label_at [] n && b) new ∙ and_false (is_label_at [] n) in
    let no_extra : extra [] n (k ∷ []) ≡ false = ap (λ b. is_label_at [] n && (not b || false)) is_k ∙ and_false (is_label_at [] n) in
    let no_bad : bad [] n ≡ false = ap (λ b. is_label_at [] n && not b) bytes ∙ and_false (is_label_at [] n) in
    let tests : table (known e n) (front [] n) (token n) (taken e [] n) (extra [] n (k ∷ [])) (bad [] n) ≡ table (known e n) (front [] n) plain_word false false false =
    ap (λ x. table (known e n) (front [] n) x (taken e [] n) (extra [] n (k ∷ [])) (bad [] n)) (plain_token n plain)
    ∙ ap (λ x. table (known e n) (front [] n) plain_word x (extra [] n (k ∷ [])) (bad [] n)) no_taken
    ∙ ap (λ x. table (known e n) (front [] n) plain_word false x (bad [] n)) no_extra
    ∙ ap (λ x. table (known e n) (front [] n) plain_word false false x) no_bad in
    subst AllFalse (sym tests) all_false

-- the keyword behind a label
module _ (e : List (List Name)) (n : Name) (plain : HasNoDollar n) where
  keyword_front : (w : Name) → front (n ∷ []) w ≡ front_from false true (has_proof (n ∷ [])) (symbol_names (n ∷ [])) (λ ks. keyword_is ks (n ∷ [])) (λ j. has_kw j (n ∷ [])) w
  keyword_front w = ap (λ b. front_from false b (has_proof (n ∷ [])) (symbol_names (n ∷ [])) (λ ks. keyword_is ks (n ∷ [])) (λ j. has_kw j (n ∷ [])) w) (plain_is n plain)

  pub hyp_keyword : (after : List Name) → Passes e (n ∷ []) (codes "$e") after
  hyp_keyword after = keyword_by e (n ∷ []) (codes "$e") after _ (keyword_front (codes "$e")) all_false

  pub theorem_keyword : (after : List Name) → Passes e (n ∷ []) (codes "$p") after
  theorem_keyword after = keyword_by e (n ∷ []) (codes "$p") after _ (keyword_front (codes "$p")) all_false

-- ---- the tests at each word of the block

abbrev pub inside : Bool → Bool → Bool → Bool → Known
inside c ev v t = record { constant = c; ever = ev; variable = v; typed = t; outside = false }

-- a constant that is no variable, or a variable with a typecode
abbrev pub IsMeant : Bool → Bool → Bool → Type 0
IsMeant c v t = ((c ≡ true) × (v ≡ false)) ⊎ ((v ≡ true) × (t ≡ true))

pub pair_symbol : (c ev v t s : Bool) (us : List Name) (w : Name) → v ≡ true → contains us w ≡ s → s ≡ false
    → AllFalse (table (inside c ev v t) (front_with (codes "$d") false us w) plain_word false false false)
pair_symbol c ev false t s us w h is e = absurd cc
pair_symbol c ev true t s us w h is e =
    let none : contains us w ≡ false = is ∙ e in
    (refl, (refl, (refl, (refl, (refl, (refl, (refl, (refl, (refl, (refl, (refl, (refl, (refl, (none, (refl, (refl, (refl, (refl, tt))))))))))))))))))

-- `$e` or `$p`
abbrev pub keyword_of : Bool → Name
keyword_of true = codes "$e"
keyword_of false = codes "$p"

pub first_symbol : (b c ev v t : Bool) (w : Name) → c ≡ true → v ≡ false → AllFalse (table (inside c ev v t) (front_with (keyword_of b) false [] w) plain_word false false false)
first_symbol true true ev false t w h k = all_false
first_symbol false true ev false t w h k = all_false
first_symbol b false ev v t w h k = absurd cc
first_symbol b true ev true t w h k = absurd cc

pub later_symbol : (b c ev v t : Bool) (u : Name) (us : List Name) (w : Name) → IsMeant c v t
    → AllFalse (table (inside c ev v t) (front_with (keyword_of b) false (u ∷ us) w) plain_word false false false)
later_symbol b false ev false t u us w (inl h) = let x = h.0 in absurd cc
later_symbol b false ev false t u us w (inr h) = let x = h.0 in absurd cc
later_symbol b c ev true false u us w (inl h) = let x = h.1 in absurd cc
later_symbol b c ev true false u us w (inr h) = let x = h.1 in absurd cc
later_symbol true true ev false t u us w h = all_false
later_symbol false true ev false t u us w h = all_false
later_symbol true false ev true true u us w h = all_false
later_symbol false false ev true true u us w h = all_false
later_symbol true true ev true true u us w h = all_false
later_symbol false true ev true true u us w h = all_false

pub proof_word : (c ev v t : Bool) (us : List Name) (w : Name) → AllFalse (table (inside c ev v t) (front_with (codes "$p") true us w) plain_word false false false)
proof_word c ev v t us w = all_false
