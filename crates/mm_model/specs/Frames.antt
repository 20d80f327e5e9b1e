-- What a database without a fault has: symbols and labels by number, what is active at a place, and frames
-- (Metamath book, section 4.2). Statements are numbered from 0; place p stands before statement p.
use Rattle.std.specs.Prelude.{ℕ, suc, ◌+◌, ◌-◌, Bool, ◌&&◌, ◌||◌, List, [], ◌∷◌, ◌++◌, length, take, Option, Some, None, if◌then◌else◌, map, reverse}
use Rattle.std.specs.Prelude.{flat_map, filter, find, option_map, option_and_then, slice_get, slice_index_or, unwrap_or, codes}
use Rattle.std.specs.List.{list_any, position_or_len, range_with_len}
use Rattle.std.specs.Str.{bytes_eq}
use Rattle.mm_base.specs.declared.symbols.Sym.{Sym}
use Rattle.mm_base.specs.declared.symbols.Label.{Label}
use Rattle.mm_base.specs.declared.symbols.Typecode.{Typecode}
use Rattle.mm_base.specs.declared.symbols.Pair.{Pair}
use Rattle.mm_model.specs.declared.frames.Hyp.{Hyp}
use Rattle.mm_model.specs.declared.frames.Frame.{Frame}
use Rattle.mm_model.specs.declared.frames.Active.{Active}
use Rattle.mm_model.specs.Names.{Name, sym, typecode}
use Rattle.mm_model.specs.Words.{Word}
use Rattle.mm_model.specs.Statements.{Statement, is, is_empty, labels_in, has_keyword, has_one_of, symbols_in, path, active, with_keyword, contains, constants, variables, second}

-- ---- symbols and labels by number

-- the names, each where it first stands
abbrev pub without_repeats : List Name → List Name → List Name
without_repeats seen [] = []
without_repeats seen (n ∷ ns) = if contains seen n then without_repeats seen ns else n ∷ without_repeats (n ∷ seen) ns

-- the symbols by number: in the order in which a `$c` or `$v` first declares them
abbrev pub symbols : List Statement → List Name
symbols ss = without_repeats [] (flat_map symbols_in (filter (has_one_of (codes "$c" ∷ codes "$v" ∷ [])) ss))

-- the symbol of a name; past the last number where the name is none of them
abbrev pub symbol_in : List Name → Name → Sym
symbol_in names n = sym (position_or_len (bytes_eq n) names)

-- the number of the statement, once for each of its labels, where the first statement has this number
abbrev pub positions_from : ℕ → List Statement → List ℕ
positions_from at [] = []
positions_from at (s ∷ ss) = map (λ w. at) (labels_in s) ++ positions_from (suc at) ss

-- beside each label the number of its statement
abbrev pub positions : List Statement → List ℕ
positions ss = positions_from 0 ss

-- the position of a label: the number of its statement
abbrev pub position_of : List Statement → Label → ℕ
position_of ss l = slice_index_or (positions ss) l.0 0

-- the last place
abbrev pub end_of : List Statement → ℕ
end_of ss = length ss

-- ---- what is active at a place

-- the statements below a place, the nearest first
abbrev pub below : List Statement → ℕ → List Statement
below ss place = reverse (take place ss)

-- a `$c` of the symbol stands below the place
abbrev pub is_constant_at : List Statement → Sym → ℕ → Bool
is_constant_at ss s place = contains (constants (below ss place)) (slice_index_or (symbols ss) s.0 [])

-- the label of a statement
abbrev pub label_in : Statement → Name
label_in s = first (labels_in s)
  where
    first : List Word → Name
    first [] = []
    first (w ∷ ws) = w.bytes

-- a `$f` or a `$e`
abbrev pub is_hypothesis : Statement → Bool
is_hypothesis s = has_one_of (codes "$f" ∷ codes "$e" ∷ []) s

-- a symbol string, by the numbers of its symbols
abbrev pub formula_of : List Name → Statement → List Sym
formula_of names s = map (symbol_in names) (symbols_in s)

-- the hypothesis that a `$f` or `$e` states
abbrev pub hypothesis_of : List Name → Statement → Hyp
hypothesis_of names s = record { name = label_in s; floating = has_keyword (codes "$f") s; formula = formula_of names s }

-- the active variables by number
abbrev pub active_variables : List Name → List Statement → List Name
active_variables names before = filter (contains (variables before)) names

-- the pairs of these variables that stand together in one of these `$d`, each once, by the order of the variables
abbrev pub pairs_with : List Statement → List Name → List (Name × Name)
pairs_with ds [] = []
pairs_with ds (x ∷ xs) =
    map (λ y. (x, y)) (filter (λ y. list_any (λ d. contains (symbols_in d) x && contains (symbols_in d) y) ds) xs)
    ++ pairs_with ds xs

-- a pair by the numbers of its variables
abbrev pub pair_of : List Name → Name × Name → Pair
pair_of names p = record { a = symbol_in names p.0; b = symbol_in names p.1 }

-- the pairs of these variables by the active `$d`
abbrev pub active_pairs : List Name → List Name → List Statement → List Pair
active_pairs names vars before = map (pair_of names) (pairs_with (with_keyword (codes "$d") (active before)) vars)

-- what is active at a place
abbrev pub active_at : List Statement → ℕ → Active
active_at ss place = record {
  variables = map (symbol_in (symbols ss)) (active_variables (symbols ss) (below ss place));
  hyps = map (hypothesis_of (symbols ss)) (filter is_hypothesis (reverse (active (below ss place))));
  pairs = active_pairs (symbols ss) (active_variables (symbols ss) (below ss place)) (below ss place);
}

-- the typecodes of the `$f` below a place, whether active there or not
abbrev pub float_codes : List Statement → ℕ → List Typecode
float_codes ss place =
    map (λ n. typecode (symbol_in (symbols ss) n)) (flat_map (λ s. take 1 (symbols_in s)) (with_keyword (codes "$f") (take place ss)))

-- ---- frames (Metamath book, section 4.2)

-- the variables of an assertion and of the active `$e`, by symbol number
abbrev pub mandatory_variables : List Name → List Statement → Statement → List Name
mandatory_variables names before s =
    filter (λ n. contains (variables before) n && list_any (λ f. contains (symbols_in f) n) (s ∷ with_keyword (codes "$e") (active before))) names

-- the active `$f` of these variables and all active `$e`, in order of appearance
abbrev pub mandatory_hypotheses : List Name → List Statement → List Statement
mandatory_hypotheses mandatory before =
    filter (λ h. has_keyword (codes "$e") h || (has_keyword (codes "$f") h && list_any (contains mandatory) (second (symbols_in h)))) (reverse (active before))

-- the frame of the assertion with this label, whose statement has this number
abbrev pub frame_at : List Statement → Label → ℕ → Statement → Frame
frame_at ss l at s =
    let mandatory = mandatory_variables (symbols ss) (below ss at) s in
    record {
      label = l;
      is_axiom = has_keyword (codes "$a") s;
      at = at;
      formula = formula_of (symbols ss) s;
      hyps = map (hypothesis_of (symbols ss)) (mandatory_hypotheses mandatory (below ss at));
      pairs = active_pairs (symbols ss) mandatory (below ss at);
    }

-- a `$a` or a `$p`
abbrev pub is_assertion : Statement → Bool
is_assertion s = has_one_of (codes "$a" ∷ codes "$p" ∷ []) s

-- the statement of a label, with its number
abbrev pub statement_of : List Statement → Label → Option (ℕ × Statement)
statement_of ss l = option_and_then (λ at. option_map (λ s. (at, s)) (slice_get ss at)) (slice_get (positions ss) l.0)

-- the frame of a label; none where it is no label of an assertion
abbrev pub frame_of : List Statement → Label → Option Frame
frame_of ss l = option_and_then (λ p. if is_assertion p.1 then Some (frame_at ss l p.0 p.1) else None) (statement_of ss l)

-- ---- places behind an assertion, and proofs

-- the least place above a label's position where no block is open
abbrev pub place_after : List Statement → Label → ℕ
place_after ss l =
    let next = suc (position_of ss l) in
    unwrap_or (find (λ p. is_empty (path (below ss p))) (range_with_len next (length ss - position_of ss l))) (length ss)

-- the bytes between the `$=` and the `$.` of a `$p`: where they begin and where they end
abbrev pub proof_in : Statement → Option (ℕ × ℕ)
proof_in s = option_and_then (λ (from : Word). option_map (λ (to : Word). (from.start + 2, to.start)) (find (is (codes "$.")) s)) (find (is (codes "$=")) s)

-- those of the `$p` with this label; none where it is no `$p`
abbrev pub proof_range : List Statement → Label → Option (ℕ × ℕ)
proof_range ss l = option_and_then (λ p. if has_keyword (codes "$p") p.1 then proof_in p.1 else None) (statement_of ss l)
