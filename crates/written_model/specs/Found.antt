-- The reference that a step without one is given.
use Rattle.std.specs.Prelude.{◌≡◌, ℕ, ◌<◌, Bool, true, false, not, ◌&&◌, ◌==◌, nat_le, List, [], ◌∷◌, length, map, flat_map, is_none, if◌then◌else◌, Option, Some, None}
use Rattle.std.specs.List.{list_all, range_with_len, AllZip}
use Rattle.std.specs.Option.{option_map_or}
use Rattle.mm_base.specs.declared.symbols.Label.{Label}
use Rattle.mm_base.specs.declared.symbols.Pair.{Pair}
use Rattle.mm_base.specs.declared.tree.Tree.{Tree}
use Rattle.mm_base.specs.Trees.{code_of}
use Rattle.mm_base.specs.Limits.{most_ordered_places}
use Rattle.mm_model.specs.Names.{label}
use Rattle.mm_model.specs.Productions.{TypedVariable}
use Rattle.mm_model.specs.Book.{Database, label_name, position_of}
use Rattle.sheet_text.specs.declared.sheet.Given.{Given}
use Rattle.solve_model.specs.Trees.{open_leaves, replace, leaf_tree}
use Rattle.solve_model.specs.Firsts.{orders, IsFirstOrNone}
use Rattle.written_model.specs.declared.options.DvMode.{DvMode}
use Rattle.written_model.specs.declared.report.ReportVerdict.TheVariants as report
use Rattle.written_model.specs.WrittenSteps.{Use, WrittenStep, place_tree, value_of}
use Rattle.written_model.specs.Pairs.{clash_of, lack_of}

-- the tree has no work variable
abbrev pub is_ground : Tree → Bool
is_ground t = length (open_leaves t) == 0

-- the place names a step without a work variable
abbrev pub is_ground_place : List WrittenStep → Given → Bool
is_ground_place es g = option_map_or is_ground (place_tree es g) false

-- no hypothesis, no reference, no `?`, and no work variable in its formula or those of its places
abbrev pub is_to_be_searched : List WrittenStep → WrittenStep → Bool
is_to_be_searched es e = not e.hyp && is_none e.reference && is_ground e.tree && list_all (is_ground_place es) e.places

-- its places in all orders where it lists two to six, else as they are listed
abbrev pub search_orders : WrittenStep → List (List Given)
search_orders e = if nat_le 2 (length e.places) && nat_le (length e.places) most_ordered_places then orders (length e.places) e.places else e.places ∷ []

-- a label and an order of the places
pub record Choice : Type 0 where
  pub label : Label
  pub places : List Given

-- all labels in the order of the database, each with all orders
abbrev pub choices : Database → WrittenStep → List Choice
choices db e = flat_map (λ n. map (λ places. record { label = label n; places = places }) (search_orders e)) (range_with_len 0 (length db.labels))

-- a tree of the frame, with the values of the frame's variables
abbrev pub valued : Use → Tree → Tree
valued u t = replace (λ s c. value_of u s) leaf_tree t

-- one substitution of the frame makes conclusion and `$e` the step's formula and those of its places, without a clash or a lack
pub record FitsUse (db : Database) (place : ℕ) (mode : DvMode) (allowed : List Pair) (es : List WrittenStep) (e : WrittenStep) (c : Choice) (u : Use) : Type 0 where
  pub is_usable : db.usable c.label ≡ Some u.assertion
  pub earlier : position_of db c.label < place
  pub codes : map code_of u.values ≡ map (λ (v : TypedVariable). v.code) u.assertion.vars
  pub conclusion : valued u u.assertion.tree ≡ e.tree
  pub hyps : AllZip (λ (h : Tree) (g : Given). place_tree es g ≡ Some (valued u h)) u.assertion.hyps c.places
  pub no_clash : clash_of u ≡ None
  pub no_lack : lack_of mode allowed u ≡ None

-- the assertion of the label fits the step in the order
abbrev pub Fits : Database → ℕ → DvMode → List Pair → List WrittenStep → WrittenStep → Choice → Type 0
Fits db place mode allowed es e c = (u : Use) × FitsUse db place mode allowed es e c u

-- the first label that fits, with the first order in which it does, or none
abbrev pub IsFound : Database → ℕ → DvMode → List Pair → List WrittenStep → WrittenStep → Option Choice → Type 0
IsFound db place mode allowed es e o = IsFirstOrNone (Fits db place mode allowed es e) (choices db e) o

-- the step as it is written after the search
pub data IsSearched (db : Database) (place : ℕ) (mode : DvMode) (allowed : List Pair) (es : List WrittenStep) (e : WrittenStep) : WrittenStep → Type 0 where
  not_searched : is_to_be_searched es e ≡ false → IsSearched db place mode allowed es e e
  none : is_to_be_searched es e ≡ true → IsFound db place mode allowed es e None → IsSearched db place mode allowed es e e
  found : {c : Choice} {u : Use} → is_to_be_searched es e ≡ true → IsFound db place mode allowed es e (Some c) → FitsUse db place mode allowed es e c u
      → IsSearched db place mode allowed es e (record e { reference = Some (label_name db c.label); places = c.places; verdict = report.Found; by = Some u })
