-- Numbers that fall at each call of the search: the length of the text, and then the rank of the typecode.
use Rattle.std.specs.Prelude.{◌≡◌, ◌<◌, ◌≤◌, ◌+◌, ◌-◌, ◌*◌, ℕ, List, [], ◌∷◌, length, reverse, Option, Some, None, slice_get, refl}
use Rattle.std.proofs.Common.{arith, sym, ap, ◌∙◌, get_or, subst}
use Rattle.std.proofs.lemmas.List.{length-reverse, get_or-reverse}
use Rattle.std.proofs.lemmas.Option.{slice_get_within, get_or_from_slice_get}
use Rattle.std.proofs.Math.Nat.{mul-le-mul_left}
use Rattle.mm_base.specs.declared.symbols.Typecode.{Typecode}
use Rattle.mm_model.specs.declared.rows.Item.{Item}
use Rattle.mm_model.specs.declared.rows.Item.TheVariants.{Slot}
use Rattle.mm_model.specs.declared.rows.Production.{Production}
use Rattle.mm_model.specs.Chains.{lone_slot, chain_from, HasNoCycle, rank, rank_bound}
use Rattle.mm_model.proofs.ChainLaws.{rank_rises, rank_within}

abbrev pub rank_of : List Production → Typecode → ℕ
rank_of rows c = rank (reverse rows) c

abbrev pub width : List Production → ℕ
width rows = 3 * rank_bound (reverse rows) + 5

abbrev pub tree_weight : List Production → ℕ → Typecode → ℕ
tree_weight rows n want = width rows * n + (3 * rank_of rows want + 2)

abbrev pub lone_weight : List Production → Option Typecode → ℕ
lone_weight rows None = 1
lone_weight rows (Some c) = 3 * rank_of rows c + 4

abbrev pub items_weight : List Production → List Typecode → List Item → ℕ → ℕ
items_weight rows slots items n = width rows * n + lone_weight rows (lone_slot slots items)

abbrev pub last_weight : List Production → Typecode → List Item → ℕ
last_weight rows code [] = 3 * rank_of rows code + 3
last_weight rows code (i ∷ items) = 0

abbrev pub split_weight : List Production → Typecode → List Item → ℕ → ℕ
split_weight rows code items n = width rows * n + last_weight rows code items

-- a shorter text weighs less, whatever else it has
pub shorter : (w m n x y : ℕ) → m < n → x < w → w * m + x < w * n + y
shorter w m n x y l h = omega (arith, mul-le-mul_left w (let k : m + 1 ≤ n = omega arith in k))

pub not_longer : (w m n x y : ℕ) → m ≤ n → x < y → w * m + x < w * n + y
not_longer w m n x y l h = omega (arith, mul-le-mul_left w l)

module _ (rows : List Production) where
  pub tree_small : (c : Typecode) → 3 * rank_of rows c + 2 < width rows
  tree_small c = omega (arith, rank_within (reverse rows) c)

  pub lone_small : (o : Option Typecode) → lone_weight rows o < width rows
  lone_small None = omega arith
  lone_small (Some c) = omega (arith, rank_within (reverse rows) c)

  -- the rank rises along a chain that stands among the rows
  pub row_rank : HasNoCycle (reverse rows) → (k : ℕ) (r : Production) (c : Typecode) → slice_get rows k ≡ Some r → chain_from r ≡ Some c → rank_of rows c < rank_of rows r.gives
  row_rank h k r c at is =
      let l = slice_get_within rows k r at in
      let j = length rows - 1 - k in
      let in' : j < length rows = omega arith in
      let place : length rows - 1 - j ≡ k = omega arith in
      let here : get_or (reverse rows) j r ≡ r = get_or-reverse rows j r in' ∙ ap (λ i. get_or rows i r) place ∙ get_or_from_slice_get rows k r r at in
      let within : j < length (reverse rows) = omega (arith, length-reverse rows) in
      subst (λ x. rank_of rows c < rank_of rows x.gives) here (rank_rises (reverse rows) h j r c within (ap chain_from here ∙ is))

  by_chain : (o : Option Typecode) (t : ℕ) → ((c : Typecode) → o ≡ Some c → rank_of rows c < t) → lone_weight rows o < 3 * t + 2
  by_chain None t h = omega arith
  by_chain (Some c) t h = omega (arith, h c refl)

  -- from a tree to the items of a row that gives it
  pub tree_to_items : HasNoCycle (reverse rows) → (n k : ℕ) (r : Production) (want : Typecode) → slice_get rows k ≡ Some r → r.gives ≡ want
      → items_weight rows r.slots r.items n < tree_weight rows n want
  tree_to_items h n k r want at is =
      let small = by_chain (chain_from r) (rank_of rows r.gives) (λ c e. row_rank h k r c at e) in
      subst (λ c. items_weight rows r.slots r.items n < tree_weight rows n c) is
      (not_longer (width rows) n n (lone_weight rows (chain_from r)) (3 * rank_of rows r.gives + 2) (omega arith) small)

  -- from items to the items after a constant
  pub items_to_rest : (m n : ℕ) (slots : List Typecode) (items rest : List Item) → m < n → items_weight rows slots rest m < items_weight rows slots items n
  items_to_rest m n slots items rest l = shorter (width rows) m n (lone_weight rows (lone_slot slots rest)) (lone_weight rows (lone_slot slots items)) l (lone_small (lone_slot slots rest))

  last_less : (slots : List Typecode) (k : ℕ) (code : Typecode) (rest : List Item) → slice_get slots k ≡ Some code → last_weight rows code rest < lone_weight rows (lone_slot slots (Slot k ∷ rest))
  last_less slots k code [] e = subst (λ o. last_weight rows code [] < lone_weight rows o) (sym e) (omega arith)
  last_less slots k code (i ∷ rest) e = omega arith

  -- from items that begin with a slot to the places of division
  pub items_to_split : (n : ℕ) (slots : List Typecode) (k : ℕ) (code : Typecode) (rest : List Item) → slice_get slots k ≡ Some code
      → split_weight rows code rest n < items_weight rows slots (Slot k ∷ rest) n
  items_to_split n slots k code rest e = not_longer (width rows) n n (last_weight rows code rest) (lone_weight rows (lone_slot slots (Slot k ∷ rest))) (omega arith) (last_less slots k code rest e)

  -- from a place of division to the tree before it
  pub split_to_tree : (m n : ℕ) (code : Typecode) (rest : List Item) → m + length rest ≤ n → tree_weight rows m code < split_weight rows code rest n
  split_to_tree m n code [] l = not_longer (width rows) m n (3 * rank_of rows code + 2) (3 * rank_of rows code + 3) (omega arith) (omega arith)
  split_to_tree m n code (i ∷ rest) l = shorter (width rows) m n (3 * rank_of rows code + 2) 0 (omega arith) (tree_small code)

  -- and to the items behind it
  pub split_to_items : (m n : ℕ) (slots : List Typecode) (code : Typecode) (items : List Item) → m < n → items_weight rows slots items m < split_weight rows code items n
  split_to_items m n slots code items l = shorter (width rows) m n (lone_weight rows (lone_slot slots items)) (last_weight rows code items) l (lone_small (lone_slot slots items))
