-- What tokens are at the theorem's place, by what is kept of it. This is part of the proof, and not of the claim.
use Rattle.std.specs.Prelude.{ℕ, Bool, false, List, [], map, nat_lt, if◌then◌else◌, filter_map, slice_get, slice_index_or, Option, Some, None, option_map, option_and_then, is_some}
use Rattle.std.specs.List.{list_all}
use Rattle.std.specs.Option.{option_map_or}
use Rattle.mm_base.specs.declared.symbols.Sym.{Sym}
use Rattle.mm_base.specs.declared.symbols.Typecode.{Typecode}
use Rattle.mm_model.specs.declared.frames.Frame.{Frame}
use Rattle.mm_model.specs.declared.rows.Leaf.{Leaf}
use Rattle.mm_model.specs.declared.rows.Leaf.TheVariants as leaf
use Rattle.mm_model.specs.Names.{Name, symbol_named, label_named}
use Rattle.mm_frames.specs.Contents.{Contents, frame_at}
use Rattle.solve_model.specs.Formulas.{work_number}
use Rattle.sheet_bind.specs.declared.setting.Setting.{Setting}

-- the name of a symbol
abbrev pub name_in : List Name → Sym → Name
name_in symbols s = slice_index_or symbols s.0 []

abbrev pub names_in : List Name → List Sym → List Name
names_in symbols formula = map (name_in symbols) formula

-- a `$c` of the symbol stands below a place, where these are the numbers of the `$c` by symbol
abbrev pub is_constant_below : List ℕ → ℕ → Sym → Bool
is_constant_below constants place s = nat_lt (slice_index_or constants s.0 4294967295) place

-- what a symbol of the database is
abbrev pub symbol_leaf : List ℕ → Setting → Sym → Option Leaf
symbol_leaf constants x s =
    if is_constant_below constants x.place s then Some (leaf.Const s)
    else (if slice_index_or x.variables s.0 false then option_map (λ c. leaf.Var s c) (slice_index_or x.codes s.0 None) else None)

-- the work variable that a token names
abbrev pub work_leaf : List Name → List Typecode → Name → Option Leaf
work_leaf symbols codes token = slice_get (filter_map (λ (c : Typecode). option_map (λ n. leaf.Work c n) (work_number (name_in symbols c.0) token)) codes) 0

abbrev pub leaf_by : Contents → Setting → Name → Option Sym → Option Leaf
leaf_by c x token (Some s) = symbol_leaf c.constants x s
leaf_by c x token None = work_leaf c.symbols x.work token

-- what a token is
abbrev pub leaf_at : Contents → Setting → Name → Option Leaf
leaf_at c x token = leaf_by c x token (symbol_named c.symbols token)

abbrev pub are_known : Contents → Setting → List Name → Bool
are_known c x tokens = list_all (λ t. is_some (leaf_at c x t)) tokens

abbrev pub expression_at : Contents → Setting → List Name → List Leaf
expression_at c x tokens = filter_map (leaf_at c x) tokens

-- the frame of the theorem's name, where that is a `$p`
abbrev pub existing_in : Contents → Name → Option Frame
existing_in c theorem = option_and_then (λ (f : Frame). if f.is_axiom then None else Some f) (option_and_then (frame_at c) (label_named c.labels theorem))

abbrev pub is_variable_in : Setting → Sym → Bool
is_variable_in x s = slice_index_or x.variables s.0 false

-- the token is a variable active at the place
abbrev pub is_variable_named : Contents → Setting → Name → Bool
is_variable_named c x name = option_map_or (is_variable_in x) (symbol_named c.symbols name) false
