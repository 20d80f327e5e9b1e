-- The text of a substituted tree is the substituted text.
use Rattle.std.specs.Prelude.{◌≡◌, ℕ, zero, suc, List, [], ◌∷◌, ◌++◌, Option, Some, None, map, unwrap_or, refl}
use Rattle.std.proofs.Common.{sym, ap, ◌∙◌, get_or}
use Rattle.std.proofs.lemmas.List.{append-nil}
use Rattle.std.proofs.lemmas.List.Concat.{flat_map-append}
use Rattle.mm_base.specs.declared.symbols.Sym.{Sym}
use Rattle.mm_base.specs.declared.symbols.Label.{Label}
use Rattle.mm_base.specs.declared.symbols.Typecode.{Typecode}
use Rattle.mm_base.specs.declared.tree.Tree.{Tree}
use Rattle.mm_base.specs.declared.tree.Tree.TheVariants.{Var, Work, Fresh, Node, rolls-Var, rolls-Work, rolls-Fresh, rolls-Node}
use Rattle.mm_base.specs.declared.tree.Tree.TheOpen.{Tree-F}
use Rattle.mm_base.specs.declared.tree.Tree.TheFolds.{fold-roll-Tree}
use Rattle.mm_model.specs.declared.rows.Item.{Item}
use Rattle.mm_model.specs.declared.rows.Item.TheVariants as item
use Rattle.mm_model.specs.declared.rows.Leaf.{Leaf}
use Rattle.mm_model.specs.declared.rows.Leaf.TheVariants as leaf
use Rattle.mm_model.specs.declared.rows.Production.{Production}
use Rattle.mm_model.specs.Texts.{row_of, row_text, items_text, text}
use Rattle.mm_model.proofs.TextLaws.{text-Var, text-Work, text-Fresh, text-Node}
use Rattle.mm_base.specs.Trees.{Each}
use Rattle.mm_base.proofs.TreeInduction.{tree_ind}
use Rattle.mm_model.specs.Substitution.{Substitution, KeepsConstants, layer_substitute, substitute, leaf_text, substitute_text}

module _ (s : Substitution) where
  pub substitute-Var : (v : Sym) (c : Typecode) → substitute s (Var v c) ≡ unwrap_or (s (leaf.Var v c)) (Var v c)
  unfolding substitute
  substitute-Var v c = ap (substitute s) (sym (rolls-Var v c)) ∙ fold-roll-Tree Tree (layer_substitute s) (Tree-F.Var v c)

  pub substitute-Work : (c : Typecode) (n : ℕ) → substitute s (Work c n) ≡ unwrap_or (s (leaf.Work c n)) (Work c n)
  unfolding substitute
  substitute-Work c n = ap (substitute s) (sym (rolls-Work c n)) ∙ fold-roll-Tree Tree (layer_substitute s) (Tree-F.Work c n)

  pub substitute-Fresh : (c : Typecode) (n : ℕ) → substitute s (Fresh c n) ≡ Fresh c n
  unfolding substitute
  substitute-Fresh c n = ap (substitute s) (sym (rolls-Fresh c n)) ∙ fold-roll-Tree Tree (layer_substitute s) (Tree-F.Fresh c n)

  pub substitute-Node : (l : Label) (c : Typecode) (ts : List Tree) → substitute s (Node l c ts) ≡ Node l c (map (substitute s) ts)
  unfolding substitute
  substitute-Node l c ts = ap (substitute s) (sym (rolls-Node l c ts)) ∙ fold-roll-Tree Tree (layer_substitute s) (Tree-F.Node l c ts)

pub ruleset substitutions = (substitute-Var, substitute-Work, substitute-Fresh, substitute-Node)

-- a function of texts that keeps the empty text commutes with the choice of a child's text
get_or_kept : (F : List Leaf → List Leaf) → F [] ≡ [] → (texts : List (List Leaf)) (k : ℕ) → get_or (map F texts) k [] ≡ F (get_or texts k [])
get_or_kept F e [] k = sym e
get_or_kept F e (x ∷ xs) zero = refl
get_or_kept F e (x ∷ xs) (suc k) = get_or_kept F e xs k

module _ (rows : List Production) (s : Substitution) (keeps : KeepsConstants s) where
  leaf_by : (x : Leaf) (o : Option Tree) (d : Tree) → text rows d ≡ x ∷ [] → text rows (unwrap_or o d) ≡ leaf_text rows x o ++ []
  leaf_by x None d e = e
  leaf_by x (Some t) d e = sym (append-nil (text rows t))

  const_kept : (c : Sym) → substitute_text rows s (leaf.Const c ∷ []) ≡ leaf.Const c ∷ []
  const_kept c = ap (λ o. leaf_text rows (leaf.Const c) o ++ []) (keeps c)

  items_kept : (texts : List (List Leaf)) (items : List Item) → items_text (map (substitute_text rows s) texts) items ≡ substitute_text rows s (items_text texts items)
  items_kept texts [] = refl
  items_kept texts (item.Const c ∷ items) =
      let rest = items_kept texts items in
      let split = flat_map-append (λ x. leaf_text rows x (s x)) (leaf.Const c ∷ []) (items_text texts items) in
      let one = const_kept c in
      cc
  items_kept texts (item.Slot k ∷ items) =
      let rest = items_kept texts items in
      let split = flat_map-append (λ x. leaf_text rows x (s x)) (get_or texts k []) (items_text texts items) in
      let one = get_or_kept (substitute_text rows s) refl texts k in
      cc

  row_kept : (texts : List (List Leaf)) (o : Option Production) → row_text (map (substitute_text rows s) texts) o ≡ substitute_text rows s (row_text texts o)
  row_kept texts None = refl
  row_kept texts (Some r) = items_kept texts r.items

  abbrev Agrees : Tree → Type 0
  Agrees t = text rows (substitute s t) ≡ substitute_text rows s (text rows t)

  all_agree : (ts : List Tree) → Each Agrees ts → map (text rows) (map (substitute s) ts) ≡ map (substitute_text rows s) (map (text rows) ts)
  all_agree [] h = refl
  all_agree (t ∷ ts) h = let first = h.0 in let rest = all_agree ts h.1 in cc

  pub text-substitute : (t : Tree) → Agrees t
  text-substitute = tree_ind Agrees
      (λ v c. ap (text rows) (substitute-Var s v c) ∙ leaf_by (leaf.Var v c) (s (leaf.Var v c)) (Var v c) (text-Var rows v c) ∙ sym (ap (substitute_text rows s) (text-Var rows v c)))
      (λ c n. ap (text rows) (substitute-Work s c n) ∙ leaf_by (leaf.Work c n) (s (leaf.Work c n)) (Work c n) (text-Work rows c n) ∙ sym (ap (substitute_text rows s) (text-Work rows c n)))
      (λ c n. ap (text rows) (substitute-Fresh s c n) ∙ text-Fresh rows c n ∙ sym (ap (substitute_text rows s) (text-Fresh rows c n)))
      (λ l c ts h.
      ap (text rows) (substitute-Node s l c ts) ∙ text-Node rows l c (map (substitute s) ts)
      ∙ ap (λ z. row_text z (row_of rows l)) (all_agree ts h)
      ∙ row_kept (map (text rows) ts) (row_of rows l)
      ∙ sym (ap (substitute_text rows s) (text-Node rows l c ts)))
