-- Trees without an open leaf, by their parts.
use Rattle.std.proofs.Common.{◌≡◌, ◌↔◌, ℕ, zero, suc, ◌+◌, ◌<◌, ◌≤◌, ◌==◌, ◌&&◌, Bool, true, false, List, [], ◌∷◌, length, map, take, get_or, refl, sym, ap, ◌∙◌, arith}
use Rattle.std.proofs.lemmas.Bool.Decides.{nat_tests}
use Rattle.std.proofs.lemmas.List.{length-append, take_all}
use Rattle.std.specs.List.{list_all}
use Rattle.mm_base.specs.declared.symbols.Sym.{Sym}
use Rattle.mm_base.specs.declared.symbols.Label.{Label}
use Rattle.mm_base.specs.declared.symbols.Typecode.{Typecode}
use Rattle.mm_base.specs.declared.tree.Tree.{Tree}
use Rattle.mm_base.specs.declared.tree.Tree.TheVariants.{Var, Work, Fresh, Node}
use Rattle.solve_model.specs.Trees.{Open, open_leaves, flatten}
use Rattle.solve_model.proofs.TreeLaws.{open_leaves-Var, open_leaves-Work, open_leaves-Fresh, open_leaves-Node}
use Rattle.written_model.specs.Found.{is_ground}
use Rattle.ref_search.specs.declared.wanted.Wanted.{Wanted}
use Rattle.ref_search.specs.Matching.{AreGround}
use Rattle.ref_search.specs.Placing.{IsClosed}

abbrev counted : List Open → Bool
counted xs = length xs == 0

pub ground_var : (t : Tree) (s : Sym) (c : Typecode) → t ≡ Var s c → true ≡ is_ground t
ground_var t s c e = sym (ap is_ground e ∙ ap counted (open_leaves-Var s c))

pub ground_work : (t : Tree) (c : Typecode) (n : ℕ) → t ≡ Work c n → false ≡ is_ground t
ground_work t c n e = sym (ap is_ground e ∙ ap counted (open_leaves-Work c n))

pub ground_fresh : (t : Tree) (c : Typecode) (n : ℕ) → t ≡ Fresh c n → false ≡ is_ground t
ground_fresh t c n e = sym (ap is_ground e ∙ ap counted (open_leaves-Fresh c n))

both_none : (m n : ℕ) → ((m + n) == 0) ≡ ((m == 0) && (n == 0))
both_none m n = grind (arith, nat_tests)

ground_list : (ts : List Tree) → (length (flatten (map open_leaves ts)) == 0) ≡ list_all is_ground ts
ground_list [] = refl
ground_list (t ∷ ts) =
    ap (λ k. k == 0) (length-append (open_leaves t) (flatten (map open_leaves ts))) ∙ both_none (length (open_leaves t)) (length (flatten (map open_leaves ts)))
    ∙ ap (λ b. is_ground t && b) (ground_list ts)

none_last : (a b : Bool) → b ≡ false → (a && b) ≡ false
none_last true b f = f
none_last false b f = refl

module _ (t : Tree) (l : Label) (c : Typecode) (ts xs : List Tree) (e : t ≡ Node l c ts) (same : xs ≡ ts) where
  ground_node : is_ground t ≡ list_all is_ground xs
  ground_node = ap is_ground e ∙ ap counted (open_leaves-Node l c ts) ∙ ground_list ts ∙ ap (list_all is_ground) (sym same)

  pub part_open : (i : ℕ) (u : Tree) → i < length xs → u ≡ get_or xs i u → false ≡ is_ground u → false ≡ is_ground t
  part_open i u h at open_is = sym (ground_node ∙ by xs i h (ap is_ground (sym at) ∙ sym open_is))
    where
      by : (xs : List Tree) (i : ℕ) → i < length xs → is_ground (get_or xs i u) ≡ false → list_all is_ground xs ≡ false
      by [] i h f = absurd (omega arith)
      by (x ∷ xs) zero h f = ap (λ b. b && list_all is_ground xs) f
      by (x ∷ xs) (suc i) h f = none_last (is_ground x) (list_all is_ground xs) (by xs i (omega arith) f)

  pub parts_ground : (i : ℕ) → length xs ≤ i → list_all is_ground (take i xs) ≡ true → true ≡ is_ground t
  parts_ground i h k = sym (ground_node ∙ ap (list_all is_ground) (sym (take_all i xs h)) ∙ k)

-- ---- all wanted trees

all_true : (ts : List Tree) → list_all is_ground ts ≡ true → AreGround ts
all_true [] h = tt
all_true (t ∷ ts) h = let both = parted (is_ground t) (list_all is_ground ts) h in (both.0, all_true ts both.1)
  where
    parted : (a b : Bool) → (a && b) ≡ true → (a ≡ true) × (b ≡ true)
    parted true true h = (refl, refl)
    parted true false h = absurd (cc)
    parted false b h = absurd (cc)

true_all : (ts : List Tree) → AreGround ts → list_all is_ground ts ≡ true
true_all [] h = refl
true_all (t ∷ ts) h = ap (λ b. b && list_all is_ground ts) h.0 ∙ true_all ts h.1

pub closed_by : (w : Wanted) (hyps : List Tree) (b : Bool) → hyps ≡ w.hyps → is_ground w.formula ≡ true → b ≡ list_all is_ground hyps → (b ≡ true) ↔ IsClosed w
closed_by w hyps b e f is = (
  λ h. record { formula = f; hyps = all_true w.hyps (ap (list_all is_ground) (sym e) ∙ sym is ∙ h) },
  λ c. is ∙ ap (list_all is_ground) e ∙ true_all w.hyps c.hyps,
)

pub not_closed_by : (w : Wanted) → is_ground w.formula ≡ false → (false ≡ true) ↔ IsClosed w
not_closed_by w f = (λ h. absurd (cc), λ c. sym f ∙ c.formula)
