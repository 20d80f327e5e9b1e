-- The number of a new work variable is below 2^32: numbers are used up by symbols and by the work variables of formulas.
use Rattle.std.specs.Prelude.{◌≡◌, ◌⊎◌, ◌<◌, ◌≤◌, ◌+◌, ◌-◌, ◌^◌, nat_lt, ℕ, zero, suc, Bool, true, false, List, [], ◌∷◌, ◌++◌, length, map, take}
use Rattle.std.specs.Prelude.{flat_map, sum, slice_get, slice_index_or, Contains, Option, Some, None, refl}
use Rattle.std.specs.Option.{option_map_or}
use Rattle.std.proofs.Common.{sym, ap, subst, ◌∙◌, arith, inl, inr}
use Rattle.std.proofs.lemmas.Bool.{cases_Bool, ltb-true}
use Rattle.std.proofs.lemmas.Bool.Decides.{nat_tests}
use Rattle.std.proofs.lemmas.List.{length-append}
use Rattle.std.proofs.lemmas.List.Sums.{sum_by-cons}
use Rattle.std.proofs.lemmas.List.Elements.{Contains-append_left, Contains-append_right}
use Rattle.mm_base.specs.declared.symbols.Sym.{Sym}
use Rattle.mm_base.specs.declared.symbols.Typecode.{Typecode}
use Rattle.mm_base.specs.declared.tree.Tree.{Tree}
use Rattle.mm_base.specs.Trees.{Each}
use Rattle.mm_base.proofs.TreeInduction.{tree_ind}
use Rattle.mm_base.specs.Limits.{most_database_bytes, most_work_size}
use Rattle.mm_model.specs.declared.rows.Leaf.{Leaf}
use Rattle.mm_model.specs.declared.rows.Leaf.TheVariants as leaf
use Rattle.mm_model.specs.Sizes.{nodes}
use Rattle.mm_model.specs.Texts.{text}
use Rattle.mm_model.specs.Book.{Database, symbol_of, symbol_name}
use Rattle.mm_model.proofs.SizeLaws.{nodes-Var, nodes-Work, nodes-Fresh, nodes-Node}
use Rattle.solve_model.specs.declared.bound.Bound.{Bound}
use Rattle.solve_model.specs.declared.bound.BoundStep.{BoundStep}
use Rattle.solve_model.specs.Bound.{step_size, standing_size, standing, work_size}
use Rattle.solve_model.specs.Firsts.{IsLeast}
use Rattle.solve_model.specs.Formulas.{spelling}
use Rattle.solve_model.specs.Trees.{Open, work, open_leaves, flatten}
use Rattle.solve_model.proofs.TreeLaws.{open_leaves-Var, open_leaves-Work, open_leaves-Fresh, open_leaves-Node}
use Rattle.solve_laws.proofs.Elements.{nothing, first, later, parted}
use Rattle.work_vars.proofs.NameLaws.{spelled_once}
use Rattle.written_model.specs.Named.{WorkVariable, work_variable, same_work, is_in, work_leaf, works_in, read_works, not_seen, new_works, IsUnused}
use Rattle.again_laws.proofs.FreshRead.{work_same, into_flat_map}
use Rattle.again_laws.proofs.Lists.{contains_get, from_filter_map, some_same, get_within}
use Rattle.again_laws.proofs.Orders.{from_flat_map}
use Rattle.again_laws.proofs.TextLeaves.{work_told}
use Rattle.again_laws.proofs.TokenLaws.{symbol_told}

-- ---- a function of numbers that takes no value twice

less_or : (a n : ℕ) → (n ≡ a → ⊥) → (n < a) ⊎ (a < n)
less_or a n d = elim (cases_Bool (nat_lt n a)) [
  | inl t ↦ inl (ltb-true n a t)
  | inr f ↦ elim (cases_Bool (nat_lt a n)) [ inl t ↦ inr (ltb-true a n t) | inr h ↦ absurd (d (equal n a f h)) ]
]
  where
    equal : (x y : ℕ) → nat_lt x y ≡ false → nat_lt y x ≡ false → x ≡ y
    equal x y f h = grind (arith, nat_tests, f, h)

-- the numbers but for one, from 0 on
record IsLowered (a n m : ℕ) : Type 0 where
  below : (n < a) ⊎ (a < n)
  value : (n < a → m ≡ n) × (a < n → suc m ≡ n)

lower : (a n : ℕ) → (n ≡ a → ⊥) → (m : ℕ) × IsLowered a n m
lower a n d = elim (less_or a n d) [
  | inl l ↦ (n, record { below = inl l; value = ((λ h. refl), (λ h. absurd (omega (arith, h, l)))) })
  | inr l ↦ (n - 1, record { below = inr l; value = ((λ h. absurd (omega (arith, h, l))), (λ h. omega (arith, h))) })
]

lower_below : (a n m k : ℕ) → IsLowered a n m → n < suc k → a < suc k → m < k
lower_below a n m k h less room = elim h.below [
  | inl l ↦ let e = h.value.0 l in omega (arith, l, e, room)
  | inr l ↦ let e = h.value.1 l in omega (arith, l, e, less)
]

lower_once : (a n j m : ℕ) → IsLowered a n m → IsLowered a j m → n ≡ j
lower_once a n j m h k = elim h.below [
  | inl l ↦ elim k.below [
    | inl r ↦ let e = h.value.0 l in let f = k.value.0 r in omega (arith, e, f)
    | inr r ↦ let e = h.value.0 l in let f = k.value.1 r in absurd (omega (arith, e, f, l, r))
  ]
  | inr l ↦ elim k.below [
    | inl r ↦ let e = h.value.1 l in let f = k.value.0 r in absurd (omega (arith, e, f, l, r))
    | inr r ↦ let e = h.value.1 l in let f = k.value.1 r in omega (arith, e, f)
  ]
]

-- each of the first n numbers has a value below m, and no value is that of two
pub record IsOnce (n m : ℕ) (R : ℕ → ℕ → Type 0) : Type 0 where
  pub total : (i : ℕ) → i < n → (j : ℕ) × (j < m) × R i j
  pub one : (i j x y : ℕ) → R i x → R j y → x ≡ y → i ≡ j

abbrev Lowered : (ℕ → ℕ → Type 0) → ℕ → ℕ → ℕ → Type 0
Lowered R a i m = (x : ℕ) × R i x × IsLowered a x m

pub no_more : (n m : ℕ) (R : ℕ → ℕ → Type 0) → IsOnce n m R → n ≤ m
no_more zero m R h = omega arith
no_more (suc n) zero R h = let r = h.total 0 (omega arith) in let less = r.1 in absurd (omega (arith, less))
no_more (suc n) (suc m) R h =
    let last = h.total n (omega arith) in
    let rest = no_more n m (Lowered R last.0) (record {
      total = λ i less.
          let r = h.total i (omega (arith, less)) in
          let other : r.0 ≡ last.0 → ⊥ = λ e. (let same = h.one i n r.0 last.0 r.2 last.2 e in omega (arith, same, less)) in
          let l = lower last.0 r.0 other in
          (l.0, lower_below last.0 r.0 l.0 m l.1 r.1 last.1, (r.0, r.2, l.1));
      one = λ i j x y a b e.
          h.one i j a.0 b.0 a.1 b.1 (lower_once last.0 a.0 b.0 x a.2 (subst (λ z. IsLowered last.0 b.0 z) (sym e) b.2));
    }) in
    omega (arith, rest)

-- ---- a tree has no more open leaves than nodes

abbrev Few : Tree → Type 0
Few t = length (open_leaves t) ≤ nodes t

all_few : (ts : List Tree) → Each Few ts → length (flatten (map open_leaves ts)) ≤ sum (map nodes ts)
all_few [] h = omega arith
all_few (t ∷ ts) h =
    let one = h.0 in
    let rest = all_few ts h.1 in
    let both = length-append (open_leaves t) (flatten (map open_leaves ts)) in
    let whole = sum_by-cons (λ (n : ℕ). n) (nodes t) (map nodes ts) in
    omega (arith, one, rest, both, whole)

few_leaves : (t : Tree) → Few t
few_leaves = tree_ind Few
    (λ s c. rw (open_leaves-Var, nodes-Var) (omega arith))
    (λ c n. rw (open_leaves-Work, nodes-Work) (omega arith))
    (λ c n. rw (open_leaves-Fresh, nodes-Fresh) (omega arith))
    (λ l c ts h. let all = all_few ts h in rw (open_leaves-Node, nodes-Node) (omega (arith, all)))

abbrev pub step_leaves : BoundStep → List Open
step_leaves s = option_map_or open_leaves s.tree []

few_by : (o : Option Tree) (n : ℕ) → length (option_map_or open_leaves o []) ≤ option_map_or nodes o 1 + n
few_by None n = omega arith
few_by (Some t) n = let one = few_leaves t in omega (arith, one)

all_steps_few : (db : Database) (place : ℕ) (ss : List BoundStep) → length (flat_map step_leaves ss) ≤ sum (map (step_size db place) ss)
all_steps_few db place [] = omega arith
all_steps_few db place (s ∷ ss) =
    let one = few_by s.tree (standing_size (standing db place s)) in
    let rest = all_steps_few db place ss in
    let both = length-append (step_leaves s) (flat_map step_leaves ss) in
    let whole = sum_by-cons (λ (n : ℕ). n) (step_size db place s) (map (step_size db place) ss) in
    omega (arith, one, rest, both, whole)

pub work_few : (db : Database) (bound : Bound) → work_size db bound ≤ most_work_size → length (flat_map step_leaves bound.steps) ≤ most_work_size
work_few db bound h = let one = all_steps_few db bound.place bound.steps in omega (arith, one, h)

-- ---- where used numbers stand

in_contains : (ws : List WorkVariable) (w : WorkVariable) → is_in ws w ≡ true → Contains ws w
in_contains [] w h = absurd cc
in_contains (x ∷ ws) w h = elim (cases_Bool (same_work w x)) [
  | inl d ↦ first w x ws (sym (work_same w x d))
  | inr d ↦ later w x ws (in_contains ws w (rw d at h))
]

not_seen_in : (seen ws : List WorkVariable) (w : WorkVariable) → Contains (not_seen seen ws) w → Contains ws w
not_seen_in seen [] w m = m
not_seen_in seen (x ∷ ws) w m = by (is_in seen x) refl (not_seen_in seen ws w) (not_seen_in (x ∷ seen) ws w)
  where
    by : (t : Bool) → is_in seen x ≡ t → (Contains (not_seen seen ws) w → Contains ws w) → (Contains (not_seen (x ∷ seen) ws) w → Contains ws w) → Contains (x ∷ ws) w
    by true e a b = later w x ws (a (rw e at m))
    by false e a b = elim (parted w x (not_seen (x ∷ seen) ws) (rw e at m)) [ inl s ↦ first w x ws s | inr k ↦ later w x ws (b k) ]

taken_in : (n : ℕ) (ws : List WorkVariable) (w : WorkVariable) → Contains (take n ws) w → Contains ws w
taken_in zero ws w m = absurd (nothing w m)
taken_in (suc n) [] w m = m
taken_in (suc n) (x ∷ ws) w m = elim (parted w x (take n ws) m) [ inl s ↦ first w x ws s | inr k ↦ later w x ws (taken_in n ws w k) ]

work_in_tree : (db : Database) (t : Tree) (c : Typecode) (n : ℕ) → Contains (works_in db t) (work_variable c n) → Contains (open_leaves t) (work c n)
work_in_tree db t c n m =
    let r = from_filter_map work_leaf (text db.rows t) (work_variable c n) m in
    work_told db.rows c n t (subst (Contains (text db.rows t)) (leaf_is r.0 r.2) r.1)
  where
    leaf_is : (x : Leaf) → work_leaf x ≡ Some (work_variable c n) → x ≡ leaf.Work c n
    leaf_is (leaf.Const s) e = absurd cc
    leaf_is (leaf.Var s d) e = absurd cc
    leaf_is (leaf.Work d k) e =
        let same = some_same (work_variable d k) (work_variable c n) e in
        ap (λ (x : WorkVariable). leaf.Work x.code x.number) same

read_in : (db : Database) (bound : Bound) (c : Typecode) (n : ℕ) → is_in (read_works db bound) (work_variable c n) ≡ true → Contains (flat_map step_leaves bound.steps) (work c n)
read_in db bound c n h =
    let m = in_contains (read_works db bound) (work_variable c n) h in
    let r = from_flat_map (λ (s : BoundStep). option_map_or (works_in db) s.tree []) bound.steps (work_variable c n) m in
    into_flat_map step_leaves bound.steps r.0 (work c n) r.1 (by r.0.tree r.2)
  where
    by : (o : Option Tree) → Contains (option_map_or (works_in db) o []) (work_variable c n) → Contains (option_map_or open_leaves o []) (work c n)
    by None k = absurd (nothing (work_variable c n) k)
    by (Some t) k = work_in_tree db t c n k

taken_leaf : (db : Database) (bound : Bound) (ts : List Tree) (j : ℕ) (c : Typecode) (n : ℕ)
    → is_in (take j (new_works db bound ts)) (work_variable c n) ≡ true → Contains (flat_map open_leaves ts) (work c n)
taken_leaf db bound ts j c n h =
    let m =
    not_seen_in (read_works db bound) (flat_map (works_in db) ts) (work_variable c n)
    (taken_in j (new_works db bound ts) (work_variable c n) (in_contains (take j (new_works db bound ts)) (work_variable c n) h)) in
    let r = from_flat_map (works_in db) ts (work_variable c n) m in
    into_flat_map open_leaves ts r.0 (work c n) r.1 (work_in_tree db r.0 c n r.2)

-- ---- the least unused number

module _ (db : Database) (bound : Bound) (ts : List Tree) (c : Typecode) (j k : ℕ) (least : IsLeast (λ n. IsUnused db bound (take j (new_works db bound ts)) (work_variable c n)) k) where
  abbrev leaves : List Open
  leaves = flat_map step_leaves bound.steps ++ flat_map open_leaves ts

  -- what has used a number up
  data Uses (n : ℕ) : ℕ → Type 0 where
    by_symbol : (s : Sym) → symbol_of db (spelling (symbol_name db c.0) (suc n)) ≡ Some s → n < 2 ^ 31 → Uses n s.0
    by_leaf : (i : ℕ) → slice_get leaves i ≡ Some (work c (suc n)) → Uses n (length db.symbols + i)

  used_by : (n : ℕ) → suc n < k → n < 2 ^ 31 → (i : ℕ) × (i < length db.symbols + length leaves) × Uses n i
  used_by n less small = by (symbol_of db (spelling (symbol_name db c.0) (suc n))) refl
    where
      in_leaves : Contains leaves (work c (suc n)) → (i : ℕ) × (i < length db.symbols + length leaves) × Uses n i
      in_leaves m =
          let r = contains_get leaves (work c (suc n)) m in
          let within = get_within leaves r.0 (work c (suc n)) r.1 in
          (length db.symbols + r.0, omega (arith, within), Uses.by_leaf r.0 r.1)

      by : (o : Option Sym) → symbol_of db (spelling (symbol_name db c.0) (suc n)) ≡ o → (i : ℕ) × (i < length db.symbols + length leaves) × Uses n i
      by (Some s) e = let told = symbol_told db (spelling (symbol_name db c.0) (suc n)) s e in let within = told.within in (s.0, omega (arith, within), Uses.by_symbol s e small)
      by None e = elim (cases_Bool (is_in (read_works db bound) (work_variable c (suc n)))) [
        | inl d ↦ in_leaves (Contains-append_left (flat_map step_leaves bound.steps) (flat_map open_leaves ts) (work c (suc n)) (read_in db bound c (suc n) d))
        | inr d ↦ elim (cases_Bool (is_in (take j (new_works db bound ts)) (work_variable c (suc n)))) [
          | inl f ↦ in_leaves (Contains-append_right (flat_map step_leaves bound.steps) (flat_map open_leaves ts) (work c (suc n)) (taken_leaf db bound ts j c (suc n) f))
          | inr f ↦
              let bad = least.least (suc n) (omega arith) (record { not_read = d; not_declared = e; not_taken = f }) in
              absurd (omega (arith, bad, less))
        ]
      ]

  leaf_number : (m n : ℕ) → work c m ≡ work c n → m ≡ n
  leaf_number m n e = cc

  used_once : (m n x y : ℕ) → Uses m x → Uses n y → x ≡ y → m ≡ n
  used_once m n x y (Uses.by_symbol s e small) (Uses.by_symbol t f low) q =
      let a = symbol_told db (spelling (symbol_name db c.0) (suc m)) s e in
      let b = symbol_told db (spelling (symbol_name db c.0) (suc n)) t f in
      let same : spelling (symbol_name db c.0) (suc m) ≡ spelling (symbol_name db c.0) (suc n) = sym a.name ∙ ap (λ i. slice_index_or db.symbols i []) q ∙ b.name in
      let both = spelled_once (symbol_name db c.0) (symbol_name db c.0) (suc m) (suc n) (omega (arith, small)) (omega (arith, low)) same in
      let number = both.1 in
      omega (arith, number)
  used_once m n x y (Uses.by_symbol s e small) (Uses.by_leaf i f) q =
      let a = symbol_told db (spelling (symbol_name db c.0) (suc m)) s e in
      let within = a.within in
      absurd (omega (arith, within, q))
  used_once m n x y (Uses.by_leaf i e) (Uses.by_symbol t f low) q =
      let b = symbol_told db (spelling (symbol_name db c.0) (suc n)) t f in
      let within = b.within in
      absurd (omega (arith, within, q))
  used_once m n x y (Uses.by_leaf i e) (Uses.by_leaf l f) q =
      let place : i ≡ l = omega (arith, q) in
      let same = leaf_number (suc m) (suc n) (some_same (work c (suc m)) (work c (suc n)) (sym e ∙ ap (slice_get leaves) place ∙ f)) in
      omega (arith, same)

  used_up : (n : ℕ) → n < k → n < 2 ^ 31 → n ≤ length db.symbols + length leaves
  used_up n less small = no_more n (length db.symbols + length leaves) Uses (record { total = λ i l. used_by i (omega (arith, l, less)) (omega (arith, l, small)); one = used_once })

  pub number_small : length db.symbols ≤ most_database_bytes → length (flat_map step_leaves bound.steps) ≤ most_work_size → length (flat_map open_leaves ts) ≤ most_work_size → k < 2 ^ 32
  number_small few read written =
      let both = length-append (flat_map step_leaves bound.steps) (flat_map open_leaves ts) in
      elim (cases_Bool (nat_lt (2 ^ 30) k)) [
        | inl d ↦
            let less : 2 ^ 30 < k = ltb-true (2 ^ 30) k d in
            let most = used_up (2 ^ 30) less (omega arith) in
            absurd (omega (arith, most, few, read, written, both))
        | inr d ↦ small k d
      ]
    where
      small : (n : ℕ) → nat_lt (2 ^ 30) n ≡ false → n < 2 ^ 32
      small n d = let low : n ≤ 2 ^ 30 = grind (arith, nat_tests, d) in omega (arith, low)
