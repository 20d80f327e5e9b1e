-- Names of symbols and labels, and the numbers that stand for them.
use Rattle.std.specs.Prelude.{ℕ, suc, Bool, false, ◌||◌, List, [], ◌∷◌, if◌then◌else◌, Option, Some, None, option_map, position}
use Rattle.std.specs.Str.{bytes_eq}
use Rattle.std.specs.List.{list_any}
use Rattle.mm_base.specs.declared.symbols.Sym.{Sym}
use Rattle.mm_base.specs.declared.symbols.Label.{Label}
use Rattle.mm_base.specs.declared.symbols.Typecode.{Typecode}

-- the bytes of a name
abbrev pub Name : Type 0
Name = List ℕ

-- the symbol, the label and the typecode with this number
abbrev pub sym : ℕ → Sym
sym n = record { 0 = n }

abbrev pub label : ℕ → Label
label n = record { 0 = n }

abbrev pub typecode : Sym → Typecode
typecode s = record { 0 = s }

-- a name stands in a list
abbrev pub contains : List Name → Name → Bool
contains names name = list_any (bytes_eq name) names

-- some name stands twice in the list
abbrev pub has_twice : List Name → Bool
has_twice [] = false
has_twice (n ∷ ns) = contains ns n || has_twice ns

-- the number of the first element that passes, from 0
abbrev pub first_number : {X : Type 0} → (X → Bool) → List X → Option ℕ
first_number test [] = None
first_number test (x ∷ xs) = if test x then Some 0 else option_map suc (first_number test xs)

-- the symbol, or the label, of a name, where these are the names by number
abbrev pub symbol_named : List Name → Name → Option Sym
symbol_named names name = option_map sym (position (bytes_eq name) names)

abbrev pub label_named : List Name → Name → Option Label
label_named names name = option_map label (position (bytes_eq name) names)
