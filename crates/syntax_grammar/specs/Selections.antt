-- The productions that are looked up by what they begin with, or by what they give.
use Rattle.std.specs.Prelude.{◌==◌, ◌&&◌, ℕ, suc, Bool, false, List, [], ◌∷◌, map, filter, is_some, Option, Some, None, slice_get, if◌then◌else◌}
use Rattle.mm_base.specs.declared.symbols.Sym.{Sym}
use Rattle.mm_base.specs.declared.symbols.Label.{Label}
use Rattle.mm_base.specs.declared.symbols.Typecode.{Typecode}
use Rattle.mm_model.specs.declared.rows.Item.{Item}
use Rattle.mm_model.specs.declared.rows.Item.TheVariants.{Const, Slot}
use Rattle.mm_model.specs.declared.rows.Production.{Production}
use Rattle.mm_model.specs.Chains.{same_code, chain_from}

-- the constant that a text begins with
abbrev pub first_const : List Item → Option Sym
first_const [] = None
first_const (Const s ∷ items) = Some s
first_const (Slot k ∷ items) = None

-- the typecode of the slot that a text begins with
abbrev pub first_code : List Typecode → List Item → Option Typecode
first_code slots [] = None
first_code slots (Const s ∷ items) = None
first_code slots (Slot k ∷ items) = slice_get slots k

-- the constant that items begin with, or that stands behind the slot that they begin with
abbrev pub lead_const : List Item → Option Sym
lead_const [] = None
lead_const (Const s ∷ items) = Some s
lead_const (Slot k ∷ items) = first_const items

-- that constant of the items behind the first
abbrev pub next_const : List Item → Option Sym
next_const [] = None
next_const (x ∷ items) = lead_const items

-- a symbol, else that of a typecode
abbrev pub sym_or_code : Option Sym → Option Typecode → Option Sym
sym_or_code (Some s) c = Some s
sym_or_code None (Some c) = Some c.0
sym_or_code None None = None

-- the constant that a text begins with, or the typecode of the slot that it begins with
abbrev pub first_sym : List Typecode → List Item → Option Sym
first_sym slots items = sym_or_code (first_const items) (first_code slots items)

-- a symbol where another is not there
abbrev pub sym_where_none : Option Sym → Option Sym → Option Sym
sym_where_none (Some s) o = None
sym_where_none None o = o

-- the first symbol of a text that has no next constant
abbrev pub lone_sym : List Typecode → List Item → Option Sym
lone_sym slots items = sym_where_none (next_const items) (first_sym slots items)

-- a symbol is there, with that number
abbrev pub is_sym : ℕ → Option Sym → Bool
is_sym q None = false
is_sym q (Some s) = s.0 == q

-- a typecode is there, with that number
abbrev pub is_code : ℕ → Option Typecode → Bool
is_code q None = false
is_code q (Some c) = c.0.0 == q

-- the production begins with the constant, or with a slot of the typecode, with that number
abbrev pub begins_const : ℕ → Production → Bool
begins_const q r = is_sym q (first_const r.items)

abbrev pub begins_slot : ℕ → Production → Bool
begins_slot q r = is_code q (first_code r.slots r.items)

-- the production has that next constant, or has none and begins with that symbol
abbrev pub has_next : ℕ → Production → Bool
has_next q r = is_sym q (next_const r.items)

abbrev pub is_lone : ℕ → Production → Bool
is_lone q r = is_sym q (lone_sym r.slots r.items)

abbrev pub has_label : ℕ → Production → Bool
has_label q r = r.label.0 == q

-- the numbers, from one on, of the productions that pass a test, in order
abbrev pub numbers : (Production → Bool) → ℕ → List Production → List ℕ
numbers test at [] = []
numbers test at (r ∷ rows) = if test r then at ∷ numbers test (suc at) rows else numbers test (suc at) rows

-- the labels of the productions whose text begins with a constant, in order
abbrev pub by_first : List Production → Sym → List Label
by_first rows s = map (λ (r : Production). r.label) (filter (begins_const s.0) rows)

-- the labels of the chains that give a typecode, in order
abbrev pub chains_to : List Production → Typecode → List Label
chains_to rows to = map (λ (r : Production). r.label) (filter (λ (r : Production). is_some (chain_from r) && same_code r.gives to) rows)
