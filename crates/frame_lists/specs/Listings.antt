-- What is listed of a database: frames by label, and where constants are declared.
use Rattle.std.specs.Prelude.{ℕ, suc, ◌-◌, flat_map, take, find, ◌^◌, ◌==◌, ◌&&◌, List, [], ◌∷◌, map, length, reverse, Option, unwrap_or, if◌then◌else◌, codes}
use Rattle.std.specs.List.{range_with_len}
use Rattle.mm_model.specs.Names.{Name, label, typecode, contains}
use Rattle.mm_model.specs.Statements.{Statement, labels, has_keyword, with_keyword, symbols_in, is_empty, path}
use Rattle.mm_model.specs.declared.frames.Frame.{Frame}
use Rattle.mm_base.specs.declared.symbols.Typecode.{Typecode}
use Rattle.mm_model.specs.Frames.{symbols, symbol_in, frame_of, below}

-- the frames by label; none where it is no label of an assertion
abbrev pub frames_of : List Statement → List (Option Frame)
frames_of ss = map (λ l. frame_of ss (label l)) (range_with_len 0 (length (labels ss)))

-- the number of the `$c` that declares a symbol, among statements with the nearest first; 2^32 - 1 where there is none
abbrev pub declared_by : List Statement → Name → ℕ
declared_by [] n = 2 ^ 32 - 1
declared_by (s ∷ before) n =
    if declared_by before n == 2 ^ 32 - 1 && (has_keyword (codes "$c") s && contains (symbols_in s) n) then length before else declared_by before n

-- that of each symbol
abbrev pub constant_places : List Statement → List ℕ
constant_places ss = map (declared_by (reverse ss)) (symbols ss)

-- the typecodes of the `$f` among statements, by these names
abbrev pub codes_of : List Name → List Statement → List Typecode
codes_of names ss = map (λ n. typecode (symbol_in names n)) (flat_map (λ s. take 1 (symbols_in s)) (with_keyword (codes "$f") ss))

-- the least place above a statement's number where no block is open
abbrev pub place_behind : List Statement → ℕ → ℕ
place_behind ss at = unwrap_or (find (λ p. is_empty (path (below ss p))) (range_with_len (suc at) (length ss - at))) (length ss)
