-- What is active in a text with a theorem in it.
use Rattle.std.proofs.Common.{◌≡◌, ◌≤◌, ℕ, ◌+◌, ◌==◌, Bool, true, false, not, List, [], ◌∷◌, ◌++◌, length, take, drop, map, reverse}
use Rattle.std.proofs.Common.{refl, sym, ap, ◌∙◌, codes, arith, subst, append_assoc, flat_map, length-append}
use Rattle.std.specs.Prelude.{filter}
use Rattle.std.specs.List.{AllByRecursion, list_any}
use Rattle.std.proofs.Math.Seq.{take-append-add}
use Rattle.std.proofs.lemmas.List.{reverse-append, take-append-le, take-append-drop, length-map, length-take-le}
use Rattle.mm_model.specs.declared.frames.Active.{Active}
use Rattle.mm_model.specs.Names.{Name}
use Rattle.mm_model.specs.Words.{words}
use Rattle.mm_model.specs.Statements.{statements, contains}
use Rattle.mm_model.specs.Frames.{symbols, symbol_in, below, pair_of, active_at}
use Rattle.model_laws.proofs.Checked.{reverse-cons}
use Rattle.install_model.specs.declared.install.NewTheorem.{NewTheorem}
use Rattle.install_model.specs.Installed.{installed}
use Rattle.install_model.specs.Moved.{pair_statement, hyp_statement, theorem_statement, block_statements}
use Rattle.install_laws.specs.InstalledStatements.{names, tokens_of, HasNoDollar, IsPlain, IsPlainTheorem}
use Rattle.install_laws.specs.InstalledActive.{IsOutside, ActiveStaysBefore, ActiveStaysBehind}
use Rattle.install_laws.proofs.WordLaws.{plain_dollar}
use Rattle.install_laws.proofs.StatementsLaw.{statements_are_put_in}
use Rattle.install_laws.proofs.NamesLaw.{keyword_is, symbol_names, symbols_stay, plain_is}
use Rattle.install_laws.proofs.ActiveNames.{has_kw, path_of, active_of, path_by, what_is_active, active_is, below_is}
use Rattle.install_laws.proofs.ActiveNames.{hyp_of, pairs_among, hyp_kw}
use Rattle.install_laws.proofs.ActiveBlock.{IsNoBrace, kept_behind}

-- ---- what is active by the statements of three kinds

abbrev active_by : List Name → List (List Name) → List (List Name) → List (List Name) → Active
active_by syms vs hs ds =
    let vars = filter (contains (flat_map symbol_names vs)) syms in
    record { variables = map (symbol_in syms) vars; hyps = map (hyp_of syms) (reverse hs); pairs = map (pair_of syms) (pairs_among ds vars) }

same_active : (syms : List Name) (a b : List (List Name)) → ((kind : List Name → Bool) → kind (codes "${" ∷ []) ≡ false → filter kind (active_of a) ≡ filter kind (active_of b))
    → what_is_active syms a ≡ what_is_active syms b
same_active syms a b same =
    let vs = same (has_kw (codes "$v")) refl in
    let hs = same (keyword_is hyp_kw) refl in
    let ds = same (has_kw (codes "$d")) refl in
    ap (λ xs. active_by syms xs (filter (keyword_is hyp_kw) (active_of a)) (filter (has_kw (codes "$d")) (active_of a))) vs
    ∙ ap (λ xs. active_by syms (filter (has_kw (codes "$v")) (active_of b)) xs (filter (has_kw (codes "$d")) (active_of a))) hs
    ∙ ap (λ xs. active_by syms (filter (has_kw (codes "$v")) (active_of b)) (filter (keyword_is hyp_kw) (active_of b)) xs) ds

-- ---- the statements of the block, the nearest first

abbrev pub inner : NewTheorem → List (List Name)
inner t = map pair_statement t.pairs ++ map hyp_statement t.hyps ++ theorem_statement t ∷ []

pub block_is : (t : NewTheorem) → block_statements t ≡ (codes "${" ∷ []) ∷ (inner t ++ (codes "$}" ∷ []) ∷ [])
block_is t = by (map pair_statement t.pairs) (map hyp_statement t.hyps) (theorem_statement t)
  where
    by : (a b : List (List Name)) (s : List Name) → (codes "${" ∷ []) ∷ a ++ b ++ s ∷ (codes "$}" ∷ []) ∷ [] ≡ (codes "${" ∷ []) ∷ ((a ++ b ++ s ∷ []) ++ (codes "$}" ∷ []) ∷ [])
    by a b s = simp append_assoc

pub backward : (t : NewTheorem) → reverse (block_statements t) ≡ (codes "$}" ∷ []) ∷ reverse (inner t) ++ (codes "${" ∷ []) ∷ []
backward t =
    ap reverse (block_is t) ∙ reverse-cons (codes "${" ∷ []) (inner t ++ (codes "$}" ∷ []) ∷ [])
    ∙ ap (λ ss. ss ++ (codes "${" ∷ []) ∷ []) (reverse-append (inner t) ((codes "$}" ∷ []) ∷ []))

pub all_append : {X : Type 0} (P : X → Type 0) (xs ys : List X) → AllByRecursion P xs → AllByRecursion P ys → AllByRecursion P (xs ++ ys)
all_append P [] ys h g = g
all_append P (x ∷ xs) ys h g = (h.0, all_append P xs ys h.1 g)

pub all_reverse : {X : Type 0} (P : X → Type 0) (xs : List X) → AllByRecursion P xs → AllByRecursion P (reverse xs)
all_reverse P [] h = tt
all_reverse P (x ∷ xs) h = subst (AllByRecursion P) (sym (reverse-cons x xs)) (all_append P (reverse xs) (x ∷ []) (all_reverse P xs h.1) (h.0, tt))

pub pairs_open_nothing : (ps : List (Name × Name)) → AllByRecursion IsNoBrace (map pair_statement ps)
pairs_open_nothing [] = tt
pairs_open_nothing (p ∷ ps) = ((refl, refl), pairs_open_nothing ps)

labelled : (n k : Name) (ns : List Name) → HasNoDollar n → (list_any (λ b. b == 36) k ≡ true) → has_kw (codes "${") (k ∷ []) ≡ false
    → has_kw (codes "$}") (k ∷ []) ≡ false → IsNoBrace (n ∷ k ∷ ns)
labelled n k ns h e a b = (first (codes "${") a, first (codes "$}") b)
  where
    keyword : not (list_any (λ c. c == 36) k) ≡ false
    keyword = ap not e

    first : (w : Name) → has_kw w (k ∷ []) ≡ false → has_kw w (n ∷ k ∷ ns) ≡ false
    first w f = rw (plain_is n h, keyword) (rw keyword at f)

pub hyps_open_nothing : (hs : List (Name × List Name)) → AllByRecursion (λ (h : Name × List Name). IsPlain h.0 × AllByRecursion IsPlain h.1) hs
    → AllByRecursion IsNoBrace (map hyp_statement hs)
hyps_open_nothing [] p = tt
hyps_open_nothing (h ∷ hs) p = (labelled h.0 (codes "$e") (h.1 ++ codes "$." ∷ []) (plain_dollar h.0 p.0.0) refl refl refl, hyps_open_nothing hs p.1)

pub theorem_opens_nothing : (t : NewTheorem) → IsPlainTheorem t → IsNoBrace (theorem_statement t)
theorem_opens_nothing t p =
    labelled t.name (codes "$p") (t.formula ++ codes "$=" ∷ names (words t.proof) ++ codes "$." ∷ []) (plain_dollar t.name p.name) refl refl refl

pub inner_opens_nothing : (t : NewTheorem) → IsPlainTheorem t → AllByRecursion IsNoBrace (reverse (inner t))
inner_opens_nothing t p =
    all_reverse IsNoBrace (inner t) (all_append IsNoBrace (map pair_statement t.pairs ++ map hyp_statement t.hyps) (theorem_statement t ∷ [])
    (all_append IsNoBrace (map pair_statement t.pairs) (map hyp_statement t.hyps) (pairs_open_nothing t.pairs) (hyps_open_nothing t.hyps p.hyps)) (theorem_opens_nothing t p, tt))

-- ---- the laws

module _ (text : List ℕ) (place : ℕ) (t : NewTheorem) (within : place ≤ length (statements text)) (plain : IsPlainTheorem t) where
  abbrev old : List (List Name)
  old = tokens_of (statements text)

  pub new_is : tokens_of (statements (installed text place t)) ≡ take place old ++ block_statements t ++ drop place old
  new_is = statements_are_put_in text place t within plain

  pub same_symbols : symbols (statements (installed text place t)) ≡ symbols (statements text)
  same_symbols = symbols_stay text place t within plain

  pub counted : length (take place old) ≡ place
  counted = let all = length-map (statements text) names in let l : place ≤ length old = omega (arith, all, within) in length-take-le place old l

  -- what is below a place, by the tokens of all statements
  by_tokens : (at : ℕ)
      → active_at (statements (installed text place t)) at
      ≡ what_is_active (symbols (statements text)) (reverse (take at (take place old ++ block_statements t ++ drop place old)))
  by_tokens at =
      active_is (statements (installed text place t)) at
      ∙ ap (λ syms. what_is_active syms (tokens_of (below (statements (installed text place t)) at))) same_symbols
      ∙ ap (what_is_active (symbols (statements text))) (below_is (statements (installed text place t)) at ∙ ap (λ ss. reverse (take at ss)) new_is)

  old_tokens : (at : ℕ) → active_at (statements text) at ≡ what_is_active (symbols (statements text)) (reverse (take at old))
  old_tokens at = active_is (statements text) at ∙ ap (what_is_active (symbols (statements text))) (below_is (statements text) at)

  -- below a place that is not behind the block
  pub front : (at : ℕ) → at ≤ place → take at (take place old ++ block_statements t ++ drop place old) ≡ take at old
  front at l =
      let in_front : at ≤ length (take place old) = omega (arith, l, counted) in
      ap (take at) (append_assoc (take place old) (block_statements t) (drop place old))
      ∙ take-append-le at (take place old) (block_statements t ++ drop place old) in_front
      ∙ sym (take-append-le at (take place old) (drop place old) in_front)
      ∙ ap (take at) (take-append-drop place old)

  pub before : (at : ℕ) → at ≤ place → active_at (statements (installed text place t)) at ≡ active_at (statements text) at
  before at l = by_tokens at ∙ ap (λ ss. what_is_active (symbols (statements text)) (reverse ss)) (front at l) ∙ sym (old_tokens at)

  module _ (outside : IsOutside text place) (more : ℕ) where
    -- the statements behind the block, the nearest first
    abbrev further : List (List Name)
    further = reverse (take more (drop place old))

    pub new_below : reverse (take (place + length (block_statements t) + more) (take place old ++ block_statements t ++ drop place old))
        ≡ further ++ (((codes "$}" ∷ []) ∷ reverse (inner t) ++ (codes "${" ∷ []) ∷ []) ++ reverse (take place old))
    new_below =
        ap (λ k. reverse (take (k + more) (take place old ++ block_statements t ++ drop place old))) joined
        ∙ ap reverse (take-append-add (take place old ++ block_statements t) (drop place old) more)
        ∙ reverse-append (take place old ++ block_statements t) (take more (drop place old))
        ∙ ap (λ ss. further ++ ss) (reverse-append (take place old) (block_statements t) ∙ ap (λ ss. ss ++ reverse (take place old)) (backward t))
      where
        joined : place + length (block_statements t) ≡ length (take place old ++ block_statements t)
        joined = let l = length-append (take place old) (block_statements t) in omega (arith, l, counted)

    pub old_below : reverse (take (place + more) old) ≡ further ++ reverse (take place old)
    old_below =
        ap (λ ss. reverse (take (place + more) ss)) (sym (take-append-drop place old))
        ∙ ap (λ k. reverse (take (k + more) (take place old ++ drop place old))) (sym counted)
        ∙ ap reverse (take-append-add (take place old) (drop place old) more)
        ∙ reverse-append (take place old) (take more (drop place old))

    pub no_path : path_of (reverse (take place old)) ≡ []
    no_path = ap path_of (sym (below_is (statements text) place)) ∙ sym (path_by (below (statements text) place)) ∙ outside

    pub behind : active_at (statements (installed text place t)) (place + length (block_statements t) + more) ≡ active_at (statements text) (place + more)
    behind =
        by_tokens (place + length (block_statements t) + more)
        ∙ ap (what_is_active (symbols (statements text))) new_below
        ∙ same_active (symbols (statements text))
        (further ++ (((codes "$}" ∷ []) ∷ reverse (inner t) ++ (codes "${" ∷ []) ∷ []) ++ reverse (take place old)))
        (further ++ reverse (take place old))
        (λ kind no_brace. kept_behind (reverse (inner t)) (reverse (take place old)) (inner_opens_nothing t plain) no_path kind no_brace further)
        ∙ ap (what_is_active (symbols (statements text))) (sym old_below)
        ∙ sym (old_tokens (place + more))

pub active_stays_before : ActiveStaysBefore
active_stays_before text place at t l p in_front = before text place t l p at in_front

pub active_stays_behind : ActiveStaysBehind
active_stays_behind text place more t l p outside = behind text place t l p outside more
