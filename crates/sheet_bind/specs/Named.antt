-- Work variables by the typecode's name and the number in a token. This is part of the proof, and not of the claim.
use Rattle.std.specs.Prelude.{ℕ, List, find, Option, Some, None, option_map}
use Rattle.std.specs.Str.{bytes_eq}
use Rattle.mm_base.specs.declared.symbols.Typecode.{Typecode}
use Rattle.mm_model.specs.declared.rows.Leaf.{Leaf}
use Rattle.mm_model.specs.declared.rows.Leaf.TheVariants as leaf
use Rattle.mm_model.specs.Names.{Name}
use Rattle.sheet_bind.specs.Seen.{name_in}

-- the first of these typecodes that has the name
abbrev pub code_named : List Name → List Typecode → Name → Option Typecode
code_named symbols codes name = find (λ (c : Typecode). bytes_eq (name_in symbols c.0) name) codes

abbrev pub leaf_named : List Name → List Typecode → Option (Name × ℕ) → Option Leaf
leaf_named symbols codes None = None
leaf_named symbols codes (Some p) = option_map (λ c. leaf.Work c p.1) (code_named symbols codes p.0)
