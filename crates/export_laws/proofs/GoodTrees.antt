-- Trees that can be read at a place: typed, without fresh and open leaves, and each variable is declared there.
use Rattle.std.specs.Prelude.{◌≡◌, ◌<◌, ℕ, suc, List, [], ◌∷◌, length, map, slice_get, Contains, Some, refl}
use Rattle.std.proofs.Common.{sym, ap, subst, ◌∙◌, inl, inr}
use Rattle.mm_base.specs.declared.symbols.Sym.{Sym}
use Rattle.mm_base.specs.declared.symbols.Label.{Label}
use Rattle.mm_base.specs.declared.symbols.Typecode.{Typecode}
use Rattle.mm_base.specs.declared.tree.Tree.{Tree}
use Rattle.mm_base.specs.declared.tree.Tree.TheOpen.{Tree-F}
use Rattle.mm_base.specs.declared.tree.Tree.TheVariants.{Var, Node}
use Rattle.mm_base.specs.Trees.{code_of, Each}
use Rattle.mm_base.proofs.TreeInduction.{tree_ind}
use Rattle.mm_model.specs.declared.rows.Leaf.TheVariants as leaf
use Rattle.mm_model.specs.Texts.{text, row_of}
use Rattle.mm_model.specs.Typed.{IsTyped, HasNoFresh, LayerIsTyped}
use Rattle.mm_model.specs.Book.{Database, declared_leaf}
use Rattle.mm_model.proofs.TextLaws.{text-Var, text-Work}
use Rattle.mm_model.proofs.TypedLaws.{code-Var, code-Node, typed-Var, typed-Node, typed_here, typed_held, named-Var, named-Node, named_held, fresh_is_not_named}
use Rattle.solve_model.specs.Trees.{leaf_tree, replace}
use Rattle.solve_model.proofs.TreeLaws.{replace-Var, replace-Node}
use Rattle.solve_laws.proofs.Elements.{only, here}
use Rattle.push_laws.proofs.Facts.{IsBook}
use Rattle.push_laws.proofs.Parts.{node_leaf, each_at}
use Rattle.push_laws.proofs.Replaced.{text_child}

-- leaves of different kinds, and variables
pub var_work : (s : Sym) (c d : Typecode) (n : ℕ) → leaf.Var s c ≡ leaf.Work d n → ⊥
var_work s c d n e = cc

pub const_work : (s : Sym) (d : Typecode) (n : ℕ) → leaf.Work d n ≡ leaf.Const s → ⊥
const_work s d n e = cc

pub const_var : (s v : Sym) (d : Typecode) → leaf.Var v d ≡ leaf.Const s → ⊥
const_var s v d e = cc

pub same_var : (s v : Sym) (c d : Typecode) → leaf.Var s c ≡ leaf.Var v d → (s ≡ v) × (c ≡ d)
same_var s v c d e = (cc, cc)

-- the tree with these values for its variables
abbrev pub valued : (Sym → Tree) → Tree → Tree
valued value t = replace (λ s c. value s) leaf_tree t

module _ (db : Database) (place : ℕ) where
  -- the leaf is a variable that is declared at the place
  pub record IsVariable (s : Sym) (c : Typecode) : Type 0 where
    pub declared : declared_leaf db place s ≡ Some (leaf.Var s c)
    pub within : s.0 < length db.symbols

  pub record IsGood (t : Tree) : Type 0 where
    pub typed : IsTyped db.rows place t
    pub named : HasNoFresh t
    pub no_work : (c : Typecode) (n : ℕ) → Contains (text db.rows t) (leaf.Work c n) → ⊥
    pub vars : (s : Sym) (c : Typecode) → Contains (text db.rows t) (leaf.Var s c) → IsVariable s c

  pub record IsGoodAs (c : Typecode) (t : Tree) : Type 0 where
    pub code : code_of t ≡ c
    pub good : IsGood t

  -- a declared variable
  pub good-Var : (s : Sym) (c : Typecode) → IsVariable s c → IsGood (Var s c)
  good-Var s c is = record {
    typed = typed-Var db.rows place s c;
    named = named-Var s c;
    no_work = λ d n h. var_work s c d n (only _ _ (subst (λ xs. Contains xs (leaf.Work d n)) (text-Var db.rows s c) h));
    vars = λ v d h. let same = same_var s v c d (only _ _ (subst (λ xs. Contains xs (leaf.Var v d)) (text-Var db.rows s c) h)) in
        subst (λ (x : Sym). IsVariable x d) same.0 (subst (λ (x : Typecode). IsVariable s x) same.1 is);
  }

  -- a typed node of such trees
  pub good-Node : (l : Label) (c : Typecode) (ts : List Tree) → LayerIsTyped db.rows place (Tree-F.Node l c ts) → Each IsGood ts → IsGood (Node l c ts)
  good-Node l c ts layer each = record {
    typed = typed-Node db.rows place l c ts layer (all_typed ts each);
    named = named-Node l c ts (all_named ts each);
    no_work = λ d n h. elim (node_leaf db l c ts (leaf.Work d n) (row_of db.rows l) refl h) [
      | inl k ↦ const_work k.0 d n k.1
      | inr k ↦ (each_at IsGood ts k.0 k.1 each k.2).no_work d n k.3
    ];
    vars = λ v d h. elim (node_leaf db l c ts (leaf.Var v d) (row_of db.rows l) refl h) [
      | inl k ↦ absurd (const_var k.0 v d k.1)
      | inr k ↦ (each_at IsGood ts k.0 k.1 each k.2).vars v d k.3
    ];
  }
    where
      all_typed : (us : List Tree) → Each IsGood us → Each (IsTyped db.rows place) us
      all_typed [] h = tt
      all_typed (u ∷ us) h = (h.0.typed, all_typed us h.1)

      all_named : (us : List Tree) → Each IsGood us → Each HasNoFresh us
      all_named [] h = tt
      all_named (u ∷ us) h = (h.0.named, all_named us h.1)

  -- ---- a tree whose variables are replaced by such trees

  module _ (book : IsBook db) (value : Sym → Tree) where
    -- what is asked of the tree: its variables have values of their typecodes
    pub record IsValued (t : Tree) : Type 0 where
      pub typed : IsTyped db.rows place t
      pub named : HasNoFresh t
      pub no_work : (c : Typecode) (n : ℕ) → Contains (text db.rows t) (leaf.Work c n) → ⊥
      pub vars : (s : Sym) (c : Typecode) → Contains (text db.rows t) (leaf.Var s c) → IsGoodAs c (value s)

    abbrev Kept : Tree → Type 0
    Kept t = IsValued t → IsGoodAs (code_of t) (valued value t)

    typed_as : (c d : Typecode) (t u : Tree) → c ≡ d → t ≡ u → IsGoodAs d u → IsGoodAs c t
    typed_as c d t u p q h = subst (λ x. IsGoodAs x t) (sym p) (subst (IsGoodAs d) (sym q) h)

    child : (l : Label) (c : Typecode) (ts : List Tree) → IsValued (Node l c ts) → (k : ℕ) (t : Tree) → slice_get ts k ≡ Some t → IsValued t
    child l c ts v k t e = record {
      typed = each_at (IsTyped db.rows place) ts k t (typed_held db.rows place l c ts v.typed) e;
      named = each_at HasNoFresh ts k t (named_held l c ts v.named) e;
      no_work = λ d n h. v.no_work d n (text_child db book place l c ts k t (leaf.Work d n) v.typed e h);
      vars = λ s d h. v.vars s d (text_child db book place l c ts k t (leaf.Var s d) v.typed e h);
    }

    all_good : (ts : List Tree) → ((k : ℕ) (t : Tree) → slice_get ts k ≡ Some t → IsGoodAs (code_of t) (valued value t)) → Each IsGood (map (valued value) ts)
    all_good [] f = tt
    all_good (t ∷ ts) f = ((f 0 t refl).good, all_good ts (λ k u e. f (suc k) u e))

    same_codes : (ts : List Tree) → ((k : ℕ) (t : Tree) → slice_get ts k ≡ Some t → IsGoodAs (code_of t) (valued value t)) → map code_of (map (valued value) ts) ≡ map code_of ts
    same_codes [] f = refl
    same_codes (t ∷ ts) f = ap (λ c. c ∷ map code_of (map (valued value) ts)) (f 0 t refl).code ∙ ap (λ cs. code_of t ∷ cs) (same_codes ts (λ k u e. f (suc k) u e))

    children : (l : Label) (c : Typecode) (ts : List Tree) → Each Kept ts → IsValued (Node l c ts) → (k : ℕ) (t : Tree) → slice_get ts k ≡ Some t → IsGoodAs (code_of t) (valued value t)
    children l c ts each v k t e = each_at Kept ts k t each e (child l c ts v k t e)

    node_kept : (l : Label) (c : Typecode) (ts : List Tree) → Each Kept ts → Kept (Node l c ts)
    node_kept l c ts each v =
        let layer = typed_here db.rows place l c ts v.typed in
        typed_as _ _ _ _ (code-Node l c ts) (replace-Node (λ s d. value s) leaf_tree l c ts) (record {
          code = code-Node l c (map (valued value) ts);
          good = good-Node l c (map (valued value) ts) (layer.0, layer.1, layer.2, layer.3, same_codes ts (children l c ts each v) ∙ layer.4) (all_good ts (children l c ts each v));
        })

    pub good_valued : (t : Tree) → Kept t
    good_valued = tree_ind Kept
        (λ s c v. typed_as _ _ _ _ (code-Var s c) (replace-Var (λ x d. value x) leaf_tree s c)
        (v.vars s c (subst (λ xs. Contains xs (leaf.Var s c)) (sym (text-Var db.rows s c)) (here (leaf.Var s c)))))
        (λ c n v. absurd (v.no_work c n (subst (λ xs. Contains xs (leaf.Work c n)) (sym (text-Work db.rows c n)) (here (leaf.Work c n)))))
        (λ c n v. absurd (fresh_is_not_named c n v.named))
        node_kept
