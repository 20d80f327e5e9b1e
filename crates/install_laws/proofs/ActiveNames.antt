-- What is active, by the bytes of tokens.
use Rattle.std.proofs.Common.{◌≡◌, ℕ, suc, ◌+◌, Bool, true, false, cond, ◌||◌, ◌&&◌, List, [], ◌∷◌, ◌++◌, length, take, drop}
use Rattle.std.proofs.Common.{map, flat_map, reverse, refl, sym, ap, ◌∙◌, codes, nat_eq, arith, inl, inr, append-nil}
use Rattle.std.specs.Prelude.{filter}
use Rattle.std.specs.List.{list_any, prefix_len, ends_with, take-map}
use Rattle.std.specs.Str.{bytes_eq}
use Rattle.std.proofs.lemmas.Bool.{cases_Bool}
use Rattle.std.proofs.lemmas.List.{length-map, map-append}
use Rattle.mm_base.specs.declared.symbols.Sym.{Sym}
use Rattle.mm_base.specs.declared.symbols.Pair.{Pair}
use Rattle.mm_model.specs.declared.frames.Hyp.{Hyp}
use Rattle.mm_model.specs.declared.frames.Active.{Active}
use Rattle.mm_model.specs.Names.{Name}
use Rattle.mm_model.specs.Words.{Word}
use Rattle.mm_model.specs.Statements.{Statement, body, is, is_word, has_keyword, symbols_in, path, active_on, active, with_keyword, variables, contains}
use Rattle.mm_model.specs.Frames.{symbols, symbol_in, below, label_in, is_hypothesis, hypothesis_of, active_variables, pairs_with, pair_of, active_at}
use Rattle.model_laws.proofs.Checked.{reverse-cons}
use Rattle.install_laws.specs.InstalledStatements.{names, tokens_of}
use Rattle.install_laws.proofs.NamesLaw.{is_plain, body_names, keyword_is, symbol_names, body_is, keyword_by, symbols_by}

-- ---- keywords

abbrev pub has_kw : Name → List Name → Bool
has_kw k ns = list_any (λ n. bytes_eq n k) (take 1 (body_names ns))

any_is : (k : Name) (ws : List Word) → list_any (is k) ws ≡ list_any (λ n. bytes_eq n k) (names ws)
any_is k [] = refl
any_is k (w ∷ ws) = ap (λ b. is k w || b) (any_is k ws)

pub has_kw_by : (k : Name) (s : Statement) → has_keyword k s ≡ has_kw k (names s)
has_kw_by k s = any_is k (take 1 (body s)) ∙ ap (list_any (λ n. bytes_eq n k)) (sym (take-map (λ (w : Word). w.bytes) 1 (body s)) ∙ ap (take 1) (body_is s))

-- ---- paths and what is active on them

abbrev pub path_of : List (List Name) → List ℕ
path_of [] = []
path_of (s ∷ before) = cond (has_kw (codes "${") s) (length before ∷ path_of before) (cond (has_kw (codes "$}") s) (drop 1 (path_of before)) (path_of before))

pub path_by : (e : List Statement) → path e ≡ path_of (tokens_of e)
path_by [] = refl
path_by (s ∷ e) =
    ap (λ b. cond b (length e ∷ path e) (cond (has_keyword (codes "$}") s) (drop 1 (path e)) (path e))) (has_kw_by (codes "${") s)
    ∙ ap (λ b. cond (has_kw (codes "${") (names s)) (length e ∷ path e) (cond b (drop 1 (path e)) (path e))) (has_kw_by (codes "$}") s)
    ∙ ap (λ n. cond (has_kw (codes "${") (names s)) (n ∷ path e) (cond (has_kw (codes "$}") (names s)) (drop 1 (path e)) (path e))) (sym (length-map e names))
    ∙ ap (λ p. cond (has_kw (codes "${") (names s)) (length (tokens_of e) ∷ p) (cond (has_kw (codes "$}") (names s)) (drop 1 p) p)) (path_by e)

abbrev pub on_path : List ℕ → List (List Name) → List (List Name)
on_path p [] = []
on_path p (s ∷ before) = cond (ends_with nat_eq p (path_of before)) (s ∷ on_path p before) (on_path p before)

on_path_by : (p : List ℕ) (e : List Statement) → tokens_of (active_on p e) ≡ on_path p (tokens_of e)
on_path_by p [] = refl
on_path_by p (s ∷ e) =
    ap (λ q. tokens_of (cond (ends_with nat_eq p q) (s ∷ active_on p e) (active_on p e))) (path_by e) ∙ by (ends_with nat_eq p (path_of (tokens_of e))) (on_path_by p e)
  where
    by : (b : Bool) → tokens_of (active_on p e) ≡ on_path p (tokens_of e)
        → tokens_of (cond b (s ∷ active_on p e) (active_on p e)) ≡ cond b (names s ∷ on_path p (tokens_of e)) (on_path p (tokens_of e))
    by true h = ap (λ ss. names s ∷ ss) h
    by false h = h

abbrev pub active_of : List (List Name) → List (List Name)
active_of e = on_path (path_of e) e

pub active_by : (e : List Statement) → tokens_of (active e) ≡ active_of (tokens_of e)
active_by e = on_path_by (path e) e ∙ ap (λ p. on_path p (tokens_of e)) (path_by e)

-- ---- filters

pub filter_by : (f : Statement → Bool) (g : List Name → Bool) → ((s : Statement) → f s ≡ g (names s)) → (ss : List Statement) → tokens_of (filter f ss) ≡ filter g (tokens_of ss)
filter_by f g same [] = refl
filter_by f g same (s ∷ ss) =
    ap (λ b. tokens_of (cond b (s ∷ filter f ss) (filter f ss))) (same s) ∙ by (g (names s)) (filter_by f g same ss)
  where
    by : (b : Bool) → tokens_of (filter f ss) ≡ filter g (tokens_of ss)
        → tokens_of (cond b (s ∷ filter f ss) (filter f ss)) ≡ cond b (names s ∷ filter g (tokens_of ss)) (filter g (tokens_of ss))
    by true h = ap (λ xs. names s ∷ xs) h
    by false h = h

pub kept_by : (k : Name) (e : List Statement) → tokens_of (with_keyword k (active e)) ≡ filter (has_kw k) (active_of (tokens_of e))
kept_by k e = filter_by (has_keyword k) (has_kw k) (has_kw_by k) (active e) ∙ ap (filter (has_kw k)) (active_by e)

pub all_symbols : (ss : List Statement) → flat_map symbols_in ss ≡ flat_map symbol_names (tokens_of ss)
all_symbols [] = refl
all_symbols (s ∷ ss) = ap (λ xs. xs ++ flat_map symbols_in ss) (symbols_by s) ∙ ap (λ xs. symbol_names (names s) ++ xs) (all_symbols ss)

-- ---- variables

abbrev pub variables_of : List (List Name) → List Name
variables_of e = flat_map symbol_names (filter (has_kw (codes "$v")) (active_of e))

pub variables_by : (e : List Statement) → variables e ≡ variables_of (tokens_of e)
variables_by e = all_symbols (with_keyword (codes "$v") (active e)) ∙ ap (flat_map symbol_names) (kept_by (codes "$v") e)

-- ---- hypotheses

abbrev pub label_of : List Name → Name
label_of [] = []
label_of (n ∷ ns) = cond (is_plain n) n []

label_by : (s : Statement) → label_in s ≡ label_of (names s)
label_by [] = refl
label_by (w ∷ ws) = let one : 1 + prefix_len is_word ws ≡ suc (prefix_len is_word ws) = omega arith in elim (cases_Bool (is_word w)) [
  | inl e ↦ rw (e, one) refl
  | inr e ↦ rw e refl
]

abbrev pub hyp_of : List Name → List Name → Hyp
hyp_of syms ns = record { name = label_of ns; floating = has_kw (codes "$f") ns; formula = map (symbol_in syms) (symbol_names ns) }

abbrev hyp_with : Name → Bool → List Sym → Hyp
hyp_with name floating formula = record { name = name; floating = floating; formula = formula }

hyp_by : (syms : List Name) (s : Statement) → hypothesis_of syms s ≡ hyp_of syms (names s)
hyp_by syms s =
    ap (λ n. hyp_with n (has_keyword (codes "$f") s) (map (symbol_in syms) (symbols_in s))) (label_by s)
    ∙ ap (λ b. hyp_with (label_of (names s)) b (map (symbol_in syms) (symbols_in s))) (has_kw_by (codes "$f") s)
    ∙ ap (λ ns. hyp_with (label_of (names s)) (has_kw (codes "$f") (names s)) (map (symbol_in syms) ns)) (symbols_by s)

pub hyps_by : (syms : List Name) (ss : List Statement) → map (hypothesis_of syms) ss ≡ map (hyp_of syms) (tokens_of ss)
hyps_by syms [] = refl
hyps_by syms (s ∷ ss) = ap (λ h. h ∷ map (hypothesis_of syms) ss) (hyp_by syms s) ∙ ap (λ hs. hyp_of syms (names s) ∷ hs) (hyps_by syms ss)

pub map-reverse : {X Y : Type 0} (f : X → Y) (xs : List X) → map f (reverse xs) ≡ reverse (map f xs)
map-reverse f [] = refl
map-reverse f (x ∷ xs) =
    ap (map f) (reverse-cons x xs) ∙ map-append f (reverse xs) (x ∷ []) ∙ ap (λ ys. ys ++ f x ∷ []) (map-reverse f xs) ∙ sym (reverse-cons (f x) (map f xs))

-- ---- pairs

abbrev pub stands_with : List (List Name) → Name → Name → Bool
stands_with ds x y = list_any (λ d. contains (symbol_names d) x && contains (symbol_names d) y) ds

abbrev pub pairs_among : List (List Name) → List Name → List (Name × Name)
pairs_among ds [] = []
pairs_among ds (x ∷ xs) = map (λ y. (x, y)) (filter (stands_with ds x) xs) ++ pairs_among ds xs

stands_by : (ds : List Statement) (x y : Name) → list_any (λ d. contains (symbols_in d) x && contains (symbols_in d) y) ds ≡ stands_with (tokens_of ds) x y
stands_by [] x y = refl
stands_by (d ∷ ds) x y =
    ap (λ ns. (contains ns x && contains ns y) || list_any (λ e. contains (symbols_in e) x && contains (symbols_in e) y) ds) (symbols_by d)
    ∙ ap (λ b. (contains (symbol_names (names d)) x && contains (symbol_names (names d)) y) || b) (stands_by ds x y)

pub filter_same : {X : Type 0} (f g : X → Bool) → ((x : X) → f x ≡ g x) → (xs : List X) → filter f xs ≡ filter g xs
filter_same f g same [] = refl
filter_same f g same (x ∷ xs) = ap (λ b. cond b (x ∷ filter f xs) (filter f xs)) (same x) ∙ ap (λ ys. cond (g x) (x ∷ ys) ys) (filter_same f g same xs)

pub pairs_by : (ds : List Statement) (xs : List Name) → pairs_with ds xs ≡ pairs_among (tokens_of ds) xs
pairs_by ds [] = refl
pairs_by ds (x ∷ xs) =
    ap (λ ys. map (pair_with x) ys ++ pairs_with ds xs)
    (filter_same (λ y. list_any (λ d. contains (symbols_in d) x && contains (symbols_in d) y) ds) (stands_with (tokens_of ds) x)
    (stands_by ds x) xs)
    ∙ ap (λ ps. map (pair_with x) (filter (stands_with (tokens_of ds) x) xs) ++ ps) (pairs_by ds xs)
  where
    pair_with : Name → Name → Name × Name
    pair_with a b = (a, b)

-- ---- what is active behind statements, where the symbols have these numbers

abbrev pub active_variables_of : List Name → List (List Name) → List Name
active_variables_of syms e = filter (contains (variables_of e)) syms

abbrev pub hyp_kw : List (List ℕ)
hyp_kw = codes "$f" ∷ codes "$e" ∷ []

abbrev pub what_is_active : List Name → List (List Name) → Active
what_is_active syms e = record {
  variables = map (symbol_in syms) (active_variables_of syms e);
  hyps = map (hyp_of syms) (reverse (filter (keyword_is hyp_kw) (active_of e)));
  pairs = map (pair_of syms) (pairs_among (filter (has_kw (codes "$d")) (active_of e)) (active_variables_of syms e));
}

abbrev active_with : List Sym → List Hyp → List Pair → Active
active_with vars hyps pairs = record { variables = vars; hyps = hyps; pairs = pairs }

pub filter-append : {X : Type 0} (f : X → Bool) (xs ys : List X) → filter f (xs ++ ys) ≡ filter f xs ++ filter f ys
filter-append f [] ys = refl
filter-append f (x ∷ xs) ys = by (f x) (filter-append f xs ys)
  where
    by : (b : Bool) → filter f (xs ++ ys) ≡ filter f xs ++ filter f ys
        → cond b (x ∷ filter f (xs ++ ys)) (filter f (xs ++ ys)) ≡ cond b (x ∷ filter f xs) (filter f xs) ++ filter f ys
    by true h = ap (λ zs. x ∷ zs) h
    by false h = h

pub filter-reverse : {X : Type 0} (f : X → Bool) (xs : List X) → filter f (reverse xs) ≡ reverse (filter f xs)
filter-reverse f [] = refl
filter-reverse f (x ∷ xs) =
    ap (filter f) (reverse-cons x xs) ∙ filter-append f (reverse xs) (x ∷ []) ∙ ap (λ ys. ys ++ filter f (x ∷ [])) (filter-reverse f xs) ∙ by (f x)
  where
    by : (b : Bool) → reverse (filter f xs) ++ cond b (x ∷ []) [] ≡ reverse (cond b (x ∷ filter f xs) (filter f xs))
    by true = sym (reverse-cons x (filter f xs))
    by false = append-nil (reverse (filter f xs))

pub hyps_kept : (syms : List Name) (f : Statement → Bool) (g : List Name → Bool) → ((s : Statement) → f s ≡ g (names s)) → (e : List Statement)
    → map (hypothesis_of syms) (filter f (reverse (active e))) ≡ map (hyp_of syms) (reverse (filter g (active_of (tokens_of e))))
hyps_kept syms f g same e =
    hyps_by syms (filter f (reverse (active e)))
    ∙ ap (map (hyp_of syms))
    (ap tokens_of (filter-reverse f (active e)) ∙ map-reverse names (filter f (active e)) ∙ ap reverse (filter_by f g same (active e) ∙ ap (filter g) (active_by e)))

same_variables : (ss : List Statement) (place : ℕ) → active_variables (symbols ss) (below ss place) ≡ active_variables_of (symbols ss) (tokens_of (below ss place))
same_variables ss place = ap (λ vs. filter (contains vs) (symbols ss)) (variables_by (below ss place))

pub active_is : (ss : List Statement) (place : ℕ) → active_at ss place ≡ what_is_active (symbols ss) (tokens_of (below ss place))
active_is ss place =
    ap (λ vs. active_with (map (symbol_in (symbols ss)) vs) (map (hypothesis_of (symbols ss)) (filter is_hypothesis (reverse (active e))))
    (map (pair_of (symbols ss)) (pairs_with (with_keyword (codes "$d") (active e)) vs))) (same_variables ss place)
    ∙ ap (λ hs. active_with (map (symbol_in (symbols ss)) vars) hs (map (pair_of (symbols ss)) (pairs_with (with_keyword (codes "$d") (active e)) vars))) hyps
    ∙ ap
    (λ ps. active_with (map (symbol_in (symbols ss)) vars)
    (map (hyp_of (symbols ss)) (reverse (filter (keyword_is hyp_kw) (active_of (tokens_of e)))))
    (map (pair_of (symbols ss)) ps)) pairs
  where
    e : List Statement
    e = below ss place

    vars : List Name
    vars = active_variables_of (symbols ss) (tokens_of e)

    hyps : map (hypothesis_of (symbols ss)) (filter is_hypothesis (reverse (active e))) ≡ map (hyp_of (symbols ss)) (reverse (filter (keyword_is hyp_kw) (active_of (tokens_of e))))
    hyps = hyps_kept (symbols ss) is_hypothesis (keyword_is hyp_kw) (keyword_by hyp_kw) e

    pairs : pairs_with (with_keyword (codes "$d") (active e)) vars ≡ pairs_among (filter (has_kw (codes "$d")) (active_of (tokens_of e))) vars
    pairs = pairs_by (with_keyword (codes "$d") (active e)) vars ∙ ap (λ ds. pairs_among ds vars) (kept_by (codes "$d") e)

pub below_is : (ss : List Statement) (place : ℕ) → tokens_of (below ss place) ≡ reverse (take place (tokens_of ss))
below_is ss place = map-reverse names (take place ss) ∙ ap reverse (sym (take-map names place ss))
