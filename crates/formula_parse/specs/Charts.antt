-- Charts: for each place of a text the entries that begin there. This is part of the proof, and not of the claim.
use Rattle.std.specs.Prelude.{◌≡◌, ◌<◌, ◌≤◌, ◌+◌, ◌-◌, ℕ, List, [], ◌∷◌, length, take, drop, Some, slice_get}
use Rattle.mm_base.specs.declared.symbols.Sym.{Sym}
use Rattle.mm_base.specs.declared.symbols.Typecode.{Typecode}
use Rattle.mm_base.specs.declared.tree.Tree.{Tree}
use Rattle.mm_model.specs.declared.rows.Item.{Item}
use Rattle.mm_model.specs.declared.rows.Item.TheVariants.{Const, Slot}
use Rattle.mm_model.specs.declared.rows.Leaf.{Leaf}
use Rattle.mm_model.specs.declared.rows.Leaf.TheVariants as leaf
use Rattle.mm_model.specs.declared.rows.Production.{Production}
use Rattle.mm_model.specs.Substitution.{HasCode}
use Rattle.mm_model.specs.Typed.{Parses}
use Rattle.syntax_grammar.specs.Selections.{first_sym, next_const}
use Rattle.formula_parse.specs.declared.reach.Entry.{Entry}
use Rattle.formula_parse.specs.Fits.{IsOf}

-- the value stands in the list
abbrev pub IsIn : {X : Type 0} → List X → X → Type 0
IsIn xs x = (j : ℕ) × (slice_get xs j ≡ Some x)

-- what stands in the one list stands at the same place in the other
abbrev pub Stays : {X : Type 0} → List X → List X → Type 0
Stays {X} xs ys = (j : ℕ) (x : X) → slice_get xs j ≡ Some x → slice_get ys j ≡ Some x

-- the part of the text from one place to another
abbrev pub span : List Leaf → ℕ → ℕ → List Leaf
span leaves b e = take (e - b) (drop b leaves)

-- some entry with that end and typecode
pub record HasEntry (entries : List Entry) (e : ℕ) (code : Typecode) : Type 0 where
  pub entry : Entry
  pub is_in : IsIn entries entry
  pub ends : entry.end ≡ e
  pub has_code : entry.code ≡ code

-- some entry that begins at a place
pub record IsEntry (chart : List (List Entry)) (b e : ℕ) (code : Typecode) : Type 0 where
  pub entries : List Entry
  pub stand : slice_get chart b ≡ Some entries
  pub has : HasEntry entries e code

-- no entry stands twice
abbrev pub IsOnce : List Entry → Type 0
IsOnce entries = (i j : ℕ) (x : Entry) → slice_get entries i ≡ Some x → slice_get entries j ≡ Some x → i ≡ j

-- the production of this number is below a place
abbrev pub IsRowBelow : List Production → ℕ → ℕ → Type 0
IsRowBelow rows before i = (r : Production) × (slice_get rows i ≡ Some r) × (r.at < before)

-- and begins with the symbol, as a constant or as a slot's typecode
abbrev pub IsStart : List Production → ℕ → Sym → ℕ → Type 0
IsStart rows before first i = (r : Production) × (slice_get rows i ≡ Some r) × (r.at < before) × (first_sym r.slots r.items ≡ Some first)

abbrev pub entry_of : ℕ → Typecode → ℕ → Entry
entry_of e code i = record { end = e; code = code; row = i }

-- the text has the constant at a place that the items begin with, if they begin with one
abbrev pub CanLead : List Leaf → List Item → ℕ → Type 0
CanLead leaves [] q = Unit {0}
CanLead leaves (Const s ∷ items) q = slice_get leaves q ≡ Some (leaf.Const s)
CanLead leaves (Slot k ∷ items) q = Unit {0}

module _ (leaves : List Leaf) (chart : List (List Entry)) where
  -- the chart leads from one place to another by these items
  abbrev pub Reaches : List Typecode → List Item → ℕ → ℕ → Type 0
  Reaches slots [] q e = q ≡ e
  Reaches slots (Const s ∷ items) q e = (slice_get leaves q ≡ Some (leaf.Const s)) × Reaches slots items (q + 1) e
  Reaches slots (Slot k ∷ items) q e = (m : ℕ) × (code : Typecode) × (slice_get slots k ≡ Some code) × IsEntry chart q m code × Reaches slots items m e

  -- each end to which the row's items behind the first lead from a place stands among the entries
  abbrev pub Enters : List Production → ℕ → ℕ → List Entry → Type 0
  Enters rows i place entries = (r : Production) (first : Item) (rest : List Item) (e : ℕ) → slice_get rows i ≡ Some r → r.items ≡ first ∷ rest
      → Reaches r.slots rest place e → IsIn entries (entry_of e r.gives i)

  -- each row below a place that begins with a symbol is entered from a place of the text
  abbrev pub EntersFirst : List Production → ℕ → Sym → ℕ → List Entry → Type 0
  EntersFirst rows before first place entries = (i : ℕ) → IsStart rows before first i → Enters rows i place entries

  -- so is each of them that has the next constant that stands at another place
  abbrev pub EntersNext : List Production → ℕ → Sym → ℕ → ℕ → List Entry → Type 0
  EntersNext rows before first place at entries = (s : Sym) → slice_get leaves at ≡ Some (leaf.Const s) → (i : ℕ) (r : Production) → slice_get rows i ≡ Some r → r.at < before
      → first_sym r.slots r.items ≡ Some first → next_const r.items ≡ Some s → Enters rows i place entries

  -- each row below a place that begins with a slot of an entry's typecode is entered behind the entry
  abbrev pub Follows : List Production → ℕ → Entry → List Entry → Type 0
  Follows rows before entry entries = (i : ℕ) (r : Production) (k : ℕ) (rest : List Item) → slice_get rows i ≡ Some r → r.at < before → r.items ≡ Slot k ∷ rest
      → slice_get r.slots k ≡ Some entry.code → Enters rows i entry.end entries

  -- each row below a place that begins with the constant is entered behind the constant
  abbrev pub Begins : List Production → ℕ → Sym → ℕ → List Entry → Type 0
  Begins rows before s b entries = (i : ℕ) (r : Production) (rest : List Item) → slice_get rows i ≡ Some r → r.at < before → r.items ≡ Const s ∷ rest → Enters rows i (b + 1) entries

  -- what the leaf at a place begins is entered
  pub record IsBegun (rows : List Production) (before b : ℕ) (entries : List Entry) : Type 0 where
    pub leaf_in : (x : Leaf) (code : Typecode) → slice_get leaves b ≡ Some x → HasCode x code → HasEntry entries (b + 1) code
    pub by_const : (s : Sym) → slice_get leaves b ≡ Some (leaf.Const s) → Begins rows before s b entries
    pub once : IsOnce entries

  -- the entries of a place are closed under the rows below a place, where those of the later places stand in the chart
  pub record IsFilled (rows : List Production) (before b : ℕ) (entries : List Entry) : Type 0 where
    pub begun : IsBegun rows before b entries
    pub by_slot : (i : ℕ) (entry : Entry) → slice_get entries i ≡ Some entry → Follows rows before entry entries

module _ (rows : List Production) (before : ℕ) (leaves : List Leaf) where
  -- each tree that begins at the place has its entry
  pub record IsComplete (b : ℕ) (entries : List Entry) : Type 0 where
    pub parts_in : (e : ℕ) (code : Typecode) (t : Tree) → b ≤ e → e ≤ length leaves → Parses rows before (span leaves b e) code t → HasEntry entries e code
    pub rows_in : (e : ℕ) (want : Typecode) (i : ℕ) (r : Production) (t : Tree) → b ≤ e → e ≤ length leaves → slice_get rows i ≡ Some r → IsOf rows before r (span leaves b e) want t
        → IsIn entries (entry_of e r.gives i)
    pub once : IsOnce entries

  -- the entries of the places from one on
  pub record IsChart (from : ℕ) (chart : List (List Entry)) : Type 0 where
    pub count : length chart ≡ length leaves
    pub each : (b : ℕ) → from ≤ b → b < length leaves → (entries : List Entry) × (slice_get chart b ≡ Some entries) × IsComplete b entries
