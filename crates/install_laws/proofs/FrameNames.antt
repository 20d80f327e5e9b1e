-- Frames by the bytes of tokens.
use Rattle.std.proofs.Common.{◌≡◌, ℕ, Bool, false, ◌||◌, ◌&&◌, List, [], ◌∷◌, map, flat_map, reverse, refl, ap, ◌∙◌, codes}
use Rattle.std.specs.Prelude.{filter}
use Rattle.std.specs.List.{list_any}
use Rattle.mm_base.specs.declared.symbols.Sym.{Sym}
use Rattle.mm_base.specs.declared.symbols.Pair.{Pair}
use Rattle.mm_base.specs.declared.symbols.Label.{Label}
use Rattle.mm_model.specs.declared.frames.Hyp.{Hyp}
use Rattle.mm_model.specs.declared.frames.Frame.{Frame}
use Rattle.mm_model.specs.Names.{Name}
use Rattle.mm_model.specs.Statements.{Statement, has_keyword, symbols_in, active, with_keyword, variables, contains, second}
use Rattle.mm_model.specs.Frames.{symbols, symbol_in, below, hypothesis_of, pairs_with, pair_of, mandatory_variables, frame_at}
use Rattle.install_laws.specs.InstalledStatements.{names, tokens_of}
use Rattle.install_laws.proofs.NamesLaw.{symbol_names, symbols_by}
use Rattle.install_laws.proofs.ActiveNames.{has_kw, has_kw_by, active_of, kept_by, hyps_kept, variables_of, variables_by, hyp_of, pairs_among, pairs_by, filter_same}

-- ---- the variables of an assertion and of the active `$e`

abbrev pub stands_in : Name → List (List Name) → Bool
stands_in n ds = list_any (λ d. contains (symbol_names d) n) ds

stands_in_by : (n : Name) (ss : List Statement) → list_any (λ f. contains (symbols_in f) n) ss ≡ stands_in n (tokens_of ss)
stands_in_by n [] = refl
stands_in_by n (s ∷ ss) =
    ap (λ ns. contains ns n || list_any (λ f. contains (symbols_in f) n) ss) (symbols_by s) ∙ ap (λ b. contains (symbol_names (names s)) n || b) (stands_in_by n ss)

abbrev pub mandatory_by : List Name → List Name → List (List Name) → List Name → List Name
mandatory_by syms vars es ns = filter (λ n. contains vars n && stands_in n (ns ∷ es)) syms

abbrev pub mandatory_of : List Name → List (List Name) → List Name → List Name
mandatory_of syms e ns = mandatory_by syms (variables_of e) (filter (has_kw (codes "$e")) (active_of e)) ns

mandatory_is : (syms : List Name) (e : List Statement) (s : Statement) → mandatory_variables syms e s ≡ mandatory_of syms (tokens_of e) (names s)
mandatory_is syms e s = filter_same (λ n. contains (variables e) n && list_any (λ f. contains (symbols_in f) n) (s ∷ with_keyword (codes "$e") (active e)))
    (λ n. contains (variables_of (tokens_of e)) n && stands_in n (names s ∷ filter (has_kw (codes "$e")) (active_of (tokens_of e)))) same syms
  where
    same : (n : Name) → (contains (variables e) n && list_any (λ f. contains (symbols_in f) n) (s ∷ with_keyword (codes "$e") (active e)))
        ≡ (contains (variables_of (tokens_of e)) n && stands_in n (names s ∷ filter (has_kw (codes "$e")) (active_of (tokens_of e))))
    same n =
        ap (λ vs. contains vs n && list_any (λ f. contains (symbols_in f) n) (s ∷ with_keyword (codes "$e") (active e))) (variables_by e)
        ∙ ap (λ b. contains (variables_of (tokens_of e)) n && b)
        (stands_in_by n (s ∷ with_keyword (codes "$e") (active e)) ∙ ap (λ ds. stands_in n (names s ∷ ds)) (kept_by (codes "$e") e))

-- ---- mandatory hypotheses

abbrev pub is_mandatory : List Name → List Name → Bool
is_mandatory vars ns = has_kw (codes "$e") ns || (has_kw (codes "$f") ns && list_any (contains vars) (second (symbol_names ns)))

is_mandatory_by : (vars : List Name) (s : Statement)
    → (has_keyword (codes "$e") s || (has_keyword (codes "$f") s && list_any (contains vars) (second (symbols_in s)))) ≡ is_mandatory vars (names s)
is_mandatory_by vars s =
    ap (λ b. b || (has_keyword (codes "$f") s && list_any (contains vars) (second (symbols_in s)))) (has_kw_by (codes "$e") s)
    ∙ ap (λ b. has_kw (codes "$e") (names s) || (b && list_any (contains vars) (second (symbols_in s)))) (has_kw_by (codes "$f") s)
    ∙ ap (λ ns. has_kw (codes "$e") (names s) || (has_kw (codes "$f") (names s) && list_any (contains vars) (second ns))) (symbols_by s)

-- ---- a frame

-- by the mandatory variables, the mandatory hypotheses with the nearest first, and the active `$d`
abbrev pub frame_by : List Name → Label → ℕ → List Name → List Name → List (List Name) → List (List Name) → Frame
frame_by syms l at ns vars hs ds = record {
  label = l;
  is_axiom = has_kw (codes "$a") ns;
  at = at;
  formula = map (symbol_in syms) (symbol_names ns);
  hyps = map (hyp_of syms) (reverse hs);
  pairs = map (pair_of syms) (pairs_among ds vars);
}

abbrev pub what_frame : List Name → Label → ℕ → List (List Name) → List Name → Frame
what_frame syms l at e ns =
    let vars = mandatory_of syms e ns in frame_by syms l at ns vars (filter (is_mandatory vars) (active_of e)) (filter (has_kw (codes "$d")) (active_of e))

abbrev frame_with : Label → ℕ → Bool → List Sym → List Hyp → List Pair → Frame
frame_with l at first formula hyps pairs = record { label = l; is_axiom = first; at = at; formula = formula; hyps = hyps; pairs = pairs }

module _ (ss : List Statement) (l : Label) (at : ℕ) (s : Statement) where
  abbrev e : List Statement
  e = below ss at

  abbrev vars : List Name
  vars = mandatory_of (symbols ss) (tokens_of e) (names s)

  abbrev hyps : List Hyp
  hyps =
      map (hypothesis_of (symbols ss))
      (filter (λ h. has_keyword (codes "$e") h || (has_keyword (codes "$f") h && list_any (contains vars) (second (symbols_in h))))
      (reverse (active e)))

  pub frame_is : frame_at ss l at s ≡ what_frame (symbols ss) l at (tokens_of (below ss at)) (names s)
  frame_is =
      ap (λ vars. frame_with l at (has_keyword (codes "$a") s) (map (symbol_in (symbols ss)) (symbols_in s))
      (map (hypothesis_of (symbols ss))
      (filter (λ h. has_keyword (codes "$e") h || (has_keyword (codes "$f") h && list_any (contains vars) (second (symbols_in h))))
      (reverse (active e))))
      (map (pair_of (symbols ss)) (pairs_with (with_keyword (codes "$d") (active e)) vars))) (mandatory_is (symbols ss) e s)
      ∙ ap
      (λ b. frame_with l at b (map (symbol_in (symbols ss)) (symbols_in s)) hyps
      (map (pair_of (symbols ss)) (pairs_with (with_keyword (codes "$d") (active e)) vars)))
      (has_kw_by (codes "$a") s)
      ∙ ap
      (λ ns. frame_with l at (has_kw (codes "$a") (names s)) (map (symbol_in (symbols ss)) ns) hyps
      (map (pair_of (symbols ss)) (pairs_with (with_keyword (codes "$d") (active e)) vars)))
      (symbols_by s)
      ∙ ap
      (λ hs. frame_with l at (has_kw (codes "$a") (names s)) (map (symbol_in (symbols ss)) (symbol_names (names s))) hs
      (map (pair_of (symbols ss)) (pairs_with (with_keyword (codes "$d") (active e)) vars)))
      (hyps_kept (symbols ss)
      (λ h. has_keyword (codes "$e") h || (has_keyword (codes "$f") h && list_any (contains vars) (second (symbols_in h))))
      (is_mandatory vars) (is_mandatory_by vars) e)
      ∙ ap
      (λ ps. frame_with l at (has_kw (codes "$a") (names s)) (map (symbol_in (symbols ss)) (symbol_names (names s)))
      (map (hyp_of (symbols ss)) (reverse (filter (is_mandatory vars) (active_of (tokens_of e))))) (map (pair_of (symbols ss)) ps))
      (pairs_by (with_keyword (codes "$d") (active e)) vars ∙ ap (λ ds. pairs_among ds vars) (kept_by (codes "$d") e))

-- a frame depends on what is active, but for `${`
module _ (syms : List Name) (l : Label) (at : ℕ) (ns : List Name) (a b : List (List Name))
    (same : (kind : List Name → Bool) → kind (codes "${" ∷ []) ≡ false → filter kind (active_of a) ≡ filter kind (active_of b)) where
  abbrev mandatory : List Name
  mandatory = mandatory_of syms b ns

  mandatory_same : mandatory_of syms a ns ≡ mandatory
  mandatory_same =
      ap (λ vs. mandatory_by syms (flat_map symbol_names vs) (filter (has_kw (codes "$e")) (active_of a)) ns) (same (has_kw (codes "$v")) refl)
      ∙ ap (λ es. mandatory_by syms (variables_of b) es ns) (same (has_kw (codes "$e")) refl)

  pub same_frame : what_frame syms l at a ns ≡ what_frame syms l at b ns
  same_frame =
      ap (λ vars. frame_by syms l at ns vars (filter (is_mandatory vars) (active_of a)) (filter (has_kw (codes "$d")) (active_of a))) mandatory_same
      ∙ ap (λ hs. frame_by syms l at ns mandatory hs (filter (has_kw (codes "$d")) (active_of a))) (same (is_mandatory mandatory) refl)
      ∙ ap (λ ds. frame_by syms l at ns mandatory (filter (is_mandatory mandatory) (active_of b)) ds) (same (has_kw (codes "$d")) refl)
