-- The labels and the symbols of a text with a theorem in it.
use Rattle.std.proofs.Common.{◌≡◌, suc, ◌+◌, Bool, true, false, not, cond, ◌||◌, ◌==◌, append-nil, arith, List, [], ◌∷◌, ◌++◌}
use Rattle.std.proofs.Common.{take, drop, map, flat_map, refl, sym, ap, ◌∙◌, codes}
use Rattle.std.specs.Prelude.{filter, take_while}
use Rattle.std.specs.List.{list_any, prefix_len, AllByRecursion, take-map, drop-map}
use Rattle.std.specs.Str.{bytes_eq}
use Rattle.std.proofs.lemmas.Grind.{flat_map-append}
use Rattle.std.proofs.lemmas.List.{take-append-drop}
use Rattle.mm_model.specs.Names.{Name}
use Rattle.mm_model.specs.Words.{Word, words}
use Rattle.mm_model.specs.Statements.{Statement, is_one_of, is_word, body, has_one_of, symbols_in, labels, statements}
use Rattle.mm_model.specs.Frames.{without_repeats}
use Rattle.mm_model.proofs.Lists.{labels-cons}
use Rattle.install_model.specs.declared.install.NewTheorem.{NewTheorem}
use Rattle.install_model.specs.Installed.{installed}
use Rattle.install_model.specs.Moved.{pair_statement, hyp_statement, theorem_statement, block_statements, new_labels}
use Rattle.install_laws.specs.InstalledStatements.{names, tokens_of, HasNoDollar, IsPlain, IsPlainTheorem}
use Rattle.install_laws.specs.InstalledNames.{LabelsArePutIn, SymbolsStay}
use Rattle.install_laws.proofs.WordLaws.{plain_dollar}
use Rattle.install_laws.proofs.StatementsLaw.{statements_are_put_in}

-- ---- parts of a statement by the bytes of its tokens

abbrev pub is_plain : Name → Bool
is_plain n = not (list_any (λ b. b == 36) n)

abbrev pub label_names : List Name → List Name
label_names ns = take_while is_plain ns

abbrev pub body_names : List Name → List Name
body_names ns = drop (prefix_len is_plain ns) ns

abbrev pub keyword_is : List Name → List Name → Bool
keyword_is ks ns = list_any (λ n. list_any (bytes_eq n) ks) (take 1 (body_names ns))

abbrev pub symbol_names : List Name → List Name
symbol_names ns = take_while is_plain (drop 1 (body_names ns))

front_len : (ws : List Word) → prefix_len is_word ws ≡ prefix_len is_plain (names ws)
front_len [] = refl
front_len (w ∷ ws) = ap (λ n. cond (is_word w) (1 + n) 0) (front_len ws)

pub front_names : (ws : List Word) → names (take_while is_word ws) ≡ take_while is_plain (names ws)
front_names ws = sym (take-map (λ (w : Word). w.bytes) (prefix_len is_word ws) ws) ∙ ap (λ n. take n (names ws)) (front_len ws)

pub body_is : (s : Statement) → names (body s) ≡ body_names (names s)
body_is s = sym (drop-map (λ (w : Word). w.bytes) (prefix_len is_word s) s) ∙ ap (λ n. drop n (names s)) (front_len s)

any_names : (ks : List Name) (ws : List Word) → list_any (is_one_of ks) ws ≡ list_any (λ n. list_any (bytes_eq n) ks) (names ws)
any_names ks [] = refl
any_names ks (w ∷ ws) = ap (λ b. is_one_of ks w || b) (any_names ks ws)

pub keyword_by : (ks : List Name) (s : Statement) → has_one_of ks s ≡ keyword_is ks (names s)
keyword_by ks s =
    any_names ks (take 1 (body s)) ∙ ap (list_any (λ n. list_any (bytes_eq n) ks)) (sym (take-map (λ (w : Word). w.bytes) 1 (body s)) ∙ ap (take 1) (body_is s))

pub symbols_by : (s : Statement) → symbols_in s ≡ symbol_names (names s)
symbols_by s = front_names (drop 1 (body s)) ∙ ap (take_while is_plain) (sym (drop-map (λ (w : Word). w.bytes) 1 (body s)) ∙ ap (drop 1) (body_is s))

-- ---- labels

pub labels_by : (ss : List Statement) → labels ss ≡ flat_map label_names (tokens_of ss)
labels_by [] = refl
labels_by (s ∷ ss) = labels-cons s ss ∙ ap (λ ns. ns ++ labels ss) (front_names s) ∙ ap (λ ns. label_names (names s) ++ ns) (labels_by ss)

pub plain_is : (n : Name) → HasNoDollar n → is_plain n ≡ true
plain_is n h = ap not h

pub pairs_have_none : {X : Type 0} (g : List Name → List X) → ((p : Name × Name) → g (pair_statement p) ≡ []) → (ps : List (Name × Name)) → flat_map g (map pair_statement ps) ≡ []
pairs_have_none g none [] = refl
pairs_have_none g none (p ∷ ps) = ap (λ xs. xs ++ flat_map g (map pair_statement ps)) (none p) ∙ pairs_have_none g none ps

-- what a function of statements takes from those of the block, where it takes nothing from braces and pairs
block_by : (t : NewTheorem) (g : List Name → List Name) → ((p : Name × Name) → g (pair_statement p) ≡ []) → g (codes "${" ∷ []) ≡ [] → g (codes "$}" ∷ []) ≡ []
    → flat_map g (block_statements t) ≡ flat_map g (map hyp_statement t.hyps) ++ g (theorem_statement t)
block_by t g none opened closed =
    flat_map-append g (((codes "${" ∷ []) ∷ map pair_statement t.pairs) ++ map hyp_statement t.hyps) (theorem_statement t ∷ (codes "$}" ∷ []) ∷ [])
    ∙ ap (λ xs. xs ++ (g (theorem_statement t) ++ (g (codes "$}" ∷ []) ++ [])))
    (flat_map-append g ((codes "${" ∷ []) ∷ map pair_statement t.pairs) (map hyp_statement t.hyps)
    ∙ ap (λ xs. (xs ++ flat_map g (map pair_statement t.pairs)) ++ flat_map g (map hyp_statement t.hyps)) opened
    ∙ ap (λ xs. xs ++ flat_map g (map hyp_statement t.hyps)) (pairs_have_none g none t.pairs))
    ∙ ap (λ xs. flat_map g (map hyp_statement t.hyps) ++ (g (theorem_statement t) ++ (xs ++ []))) closed
    ∙ ap (λ xs. flat_map g (map hyp_statement t.hyps) ++ xs) (append-nil (g (theorem_statement t)))

pub hyp_labels : (hs : List (Name × List Name)) → AllByRecursion (λ (h : Name × List Name). IsPlain h.0 × AllByRecursion IsPlain h.1) hs
    → flat_map label_names (map hyp_statement hs) ≡ map (λ (h : Name × List Name). h.0) hs
hyp_labels [] p = refl
hyp_labels (h ∷ hs) p =
    ap (λ xs. xs ++ flat_map label_names (map hyp_statement hs)) (one_label h.0 (codes "$e" ∷ h.1 ++ codes "$." ∷ []) p.0.0 refl)
    ∙ ap (λ xs. h.0 ∷ xs) (hyp_labels hs p.1)
  where
    one_label : (n : Name) (ns : List Name) → IsPlain n → label_names ns ≡ [] → label_names (n ∷ ns) ≡ n ∷ []
    one_label n ns q e = let one : 1 + prefix_len is_plain ns ≡ suc (prefix_len is_plain ns) = omega arith in rw (plain_is n (plain_dollar n q), one) (ap (λ xs. n ∷ xs) e)

pub theorem_labels : (t : NewTheorem) → IsPlainTheorem t → label_names (theorem_statement t) ≡ t.name ∷ []
theorem_labels t p = rw (plain_is t.name (plain_dollar t.name p.name)) refl

pub block_labels : (t : NewTheorem) → IsPlainTheorem t → flat_map label_names (block_statements t) ≡ new_labels t
block_labels t p =
    block_by t label_names (λ q. refl) refl refl
    ∙ ap (λ xs. xs ++ label_names (theorem_statement t)) (hyp_labels t.hyps p.hyps)
    ∙ ap (λ xs. map (λ (h : Name × List Name). h.0) t.hyps ++ xs) (theorem_labels t p)

-- what a function of statements takes from the text
parts_by : {X : Type 0} (g : List Name → List X) (a b c : List (List Name)) → flat_map g (a ++ b ++ c) ≡ flat_map g a ++ flat_map g b ++ flat_map g c
parts_by g a b c = flat_map-append g (a ++ b) c ∙ ap (λ xs. xs ++ flat_map g c) (flat_map-append g a b)

pub labels_are_put_in : LabelsArePutIn
labels_are_put_in text place t l p =
    labels_by (statements (installed text place t))
    ∙ ap (flat_map label_names) (statements_are_put_in text place t l p)
    ∙ parts_by label_names (take place (tokens_of (statements text))) (block_statements t) (drop place (tokens_of (statements text)))
    ∙ ap
    (λ xs. flat_map label_names xs ++ flat_map label_names (block_statements t)
    ++ flat_map label_names (drop place (tokens_of (statements text))))
    (take-map names place (statements text))
    ∙ ap
    (λ xs. flat_map label_names (tokens_of (take place (statements text))) ++ flat_map label_names (block_statements t)
    ++ flat_map label_names xs)
    (drop-map names place (statements text))
    ∙ ap (λ xs. xs ++ flat_map label_names (block_statements t) ++ flat_map label_names (tokens_of (drop place (statements text)))) (sym (labels_by (take place (statements text))))
    ∙ ap (λ xs. labels (take place (statements text)) ++ xs ++ flat_map label_names (tokens_of (drop place (statements text)))) (block_labels t p)
    ∙ ap (λ xs. labels (take place (statements text)) ++ new_labels t ++ xs) (sym (labels_by (drop place (statements text))))

-- ---- symbols

abbrev declaring : List Name
declaring = codes "$c" ∷ codes "$v" ∷ []

abbrev declared_names : List Name → List Name
declared_names ns = cond (keyword_is declaring ns) (symbol_names ns) []

declared_by : (ss : List Statement) → flat_map symbols_in (filter (has_one_of declaring) ss) ≡ flat_map declared_names (tokens_of ss)
declared_by [] = refl
declared_by (s ∷ ss) = by (has_one_of declaring s) (keyword_is declaring (names s)) (keyword_by declaring s) (declared_by ss)
  where
    by : (a b : Bool) → a ≡ b → flat_map symbols_in (filter (has_one_of declaring) ss) ≡ flat_map declared_names (tokens_of ss)
        → flat_map symbols_in (cond a (s ∷ filter (has_one_of declaring) ss) (filter (has_one_of declaring) ss))
        ≡ cond b (symbol_names (names s)) [] ++ flat_map declared_names (tokens_of ss)
    by true true e h = ap (λ xs. xs ++ flat_map symbols_in (filter (has_one_of declaring) ss)) (symbols_by s) ∙ ap (λ xs. symbol_names (names s) ++ xs) h
    by false false e h = h
    by true false e h = absurd cc
    by false true e h = absurd cc

behind_label : (n : Name) (k : Name) (ns : List Name) → HasNoDollar n → is_plain k ≡ false → keyword_is declaring (n ∷ k ∷ ns) ≡ (list_any (bytes_eq k) declaring || false)
behind_label n k ns h e = rw (plain_is n h, e) refl

hyps_declare_nothing : (hs : List (Name × List Name)) → AllByRecursion (λ (h : Name × List Name). IsPlain h.0 × AllByRecursion IsPlain h.1) hs
    → flat_map declared_names (map hyp_statement hs) ≡ []
hyps_declare_nothing [] p = refl
hyps_declare_nothing (h ∷ hs) p =
    ap (λ b. cond b (symbol_names (hyp_statement h)) [] ++ flat_map declared_names (map hyp_statement hs))
    (behind_label h.0 (codes "$e") (h.1 ++ codes "$." ∷ []) (plain_dollar h.0 p.0.0) refl)
    ∙ hyps_declare_nothing hs p.1

theorem_declares_nothing : (t : NewTheorem) → IsPlainTheorem t → declared_names (theorem_statement t) ≡ []
theorem_declares_nothing t p =
    ap (λ b. cond b (symbol_names (theorem_statement t)) [])
    (behind_label t.name (codes "$p") (t.formula ++ codes "$=" ∷ names (words t.proof) ++ codes "$." ∷ []) (plain_dollar t.name p.name) refl)

block_declares_nothing : (t : NewTheorem) → IsPlainTheorem t → flat_map declared_names (block_statements t) ≡ []
block_declares_nothing t p =
    block_by t declared_names (λ q. refl) refl refl
    ∙ ap (λ xs. xs ++ declared_names (theorem_statement t)) (hyps_declare_nothing t.hyps p.hyps)
    ∙ theorem_declares_nothing t p

pub symbols_stay : SymbolsStay
symbols_stay text place t l p =
    ap (without_repeats [])
    (declared_by (statements (installed text place t))
    ∙ ap (flat_map declared_names) (statements_are_put_in text place t l p)
    ∙ parts_by declared_names (take place ns) (block_statements t) (drop place ns)
    ∙ ap (λ xs. flat_map declared_names (take place ns) ++ xs ++ flat_map declared_names (drop place ns)) (block_declares_nothing t p)
    ∙ ap (λ xs. xs ++ flat_map declared_names (drop place ns)) (append-nil (flat_map declared_names (take place ns)))
    ∙ sym (flat_map-append declared_names (take place ns) (drop place ns))
    ∙ ap (flat_map declared_names) (take-append-drop place ns)
    ∙ sym (declared_by (statements text)))
  where
    ns : List (List Name)
    ns = tokens_of (statements text)
