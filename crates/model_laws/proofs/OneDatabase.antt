-- Two databases of one text, under given kinds, answer alike.
use Rattle.std.proofs.Common.{◌≡◌, ℕ, List, [], ◌∷◌, drop, Option, Some, None, refl, sym, ap, ◌∙◌, subst}
use Rattle.std.specs.List.{AllZip, filter_map}
use Rattle.mm_base.specs.declared.symbols.Sym.{Sym}
use Rattle.mm_base.specs.declared.symbols.Label.{Label}
use Rattle.mm_base.specs.declared.tree.Tree.{Tree}
use Rattle.mm_base.specs.declared.kinds.Kinds.{Kinds}
use Rattle.mm_model.specs.declared.frames.Hyp.{Hyp}
use Rattle.mm_model.specs.Typed.{Parses}
use Rattle.mm_model.specs.Book.{Database, Assertion, IsDatabaseOf, IsUsable, IsRead, IsAssertionFormula, IsTreeAt, declared_leaf, expression_at, logic_code, symbol_of}
use Rattle.mm_model.specs.Productions.{essentials}
use Rattle.model_laws.specs.DatabaseLaws.{DatabasesOfATextAgree}

-- all that the usable assertions rest on
record Alike (db other : Database) : Type 0 where
  provable : db.provable ≡ other.provable
  logic : db.logic ≡ other.logic
  symbols : db.symbols ≡ other.symbols
  frame : (l : Label) → db.frame l ≡ other.frame l
  active_at : (place : ℕ) → db.active_at place ≡ other.active_at place
  is_constant_at : (s : Sym) (place : ℕ) → db.is_constant_at s place ≡ other.is_constant_at s place
  rows : db.rows ≡ other.rows

module _ (db other : Database) (same : Alike db other) where
  leaf_same : (place : ℕ) (s : Sym) → declared_leaf db place s ≡ declared_leaf other place s
  leaf_same place s = let constant = same.is_constant_at s place in let active = same.active_at place in cc

  leaves_same : (place : ℕ) (ss : List Sym) → filter_map (declared_leaf db place) ss ≡ filter_map (declared_leaf other place) ss
  leaves_same place [] = refl
  leaves_same place (s ∷ ss) = let first = leaf_same place s in let rest = leaves_same place ss in cc

  logic_same : logic_code db ≡ logic_code other
  logic_same = let symbols = same.symbols in let logic = same.logic in cc

  tree_same : (place : ℕ) (formula : List Sym) (t : Tree) → IsTreeAt db place formula t ≡ IsTreeAt other place formula t
  tree_same place formula t =
      let leaves = leaves_same place (drop 1 formula) in
      ap (λ rows. Parses rows place (expression_at db place formula) (logic_code db) t) same.rows
      ∙ ap (λ e. Parses other.rows place e (logic_code db) t) leaves
      ∙ ap (λ c. Parses other.rows place (expression_at other place formula) c t) logic_same

  provable_same : (formula : List Sym) → IsAssertionFormula db formula → IsAssertionFormula other formula
  provable_same formula p =
      let (s, rest, is, named) = p.begins in
      let named' : symbol_of other other.provable ≡ Some s = let symbols = same.symbols in let provable = same.provable in cc in
      record { begins = (s, rest, is, named'); short = p.short }

  read_same : (place : ℕ) (formula : List Sym) (t : Tree) → IsRead db place formula t → IsRead other place formula t
  read_same place formula t r = record {
    provable = provable_same formula r.provable;
    tree = record {
      parses = subst (λ P. P) (tree_same place formula t) r.tree.parses;
      only = λ u h. r.tree.only u (subst (λ P. P) (sym (tree_same place formula u)) h);
    };
  }

  hyps_same : (place : ℕ) (hs : List Hyp) (ts : List Tree) → AllZip (λ (h : Hyp) (t : Tree). IsRead db place h.formula t) hs ts → AllZip (λ (h : Hyp) (t : Tree). IsRead other place h.formula t) hs ts
  hyps_same place [] [] r = r
  hyps_same place [] (t ∷ ts) r = r
  hyps_same place (h ∷ hs) [] r = r
  hyps_same place (h ∷ hs) (t ∷ ts) r = (read_same place h.formula t r.0, hyps_same place hs ts r.1)

  usable_same : (l : Label) (a : Assertion) → IsUsable db l a → IsUsable other l a
  usable_same l a u = record {
    frame = sym (same.frame l) ∙ u.frame;
    label = u.label;
    conclusion = read_same a.frame.at a.frame.formula a.tree u.conclusion;
    hyps = hyps_same a.frame.at (essentials a.frame.hyps) a.hyps u.hyps;
    vars = u.vars;
  }

-- both answers are the one that is there
option_same : (o p : Option Assertion) → ((a : Assertion) → o ≡ Some a → p ≡ Some a) → ((a : Assertion) → p ≡ Some a → o ≡ Some a) → o ≡ p
option_same None None f g = refl
option_same None (Some a) f g = g a refl
option_same (Some a) p f g = sym (f a refl)

alike : (kinds : Kinds) (text : List ℕ) (db other : Database) → IsDatabaseOf kinds text db → IsDatabaseOf kinds text other → Alike db other
alike kinds text db other is there = record {
  provable = is.provable ∙ sym there.provable;
  logic = is.logic ∙ sym there.logic;
  symbols = is.symbols ∙ sym there.symbols;
  frame = λ l. is.frame l ∙ sym (there.frame l);
  active_at = λ p. is.active_at p ∙ sym (there.active_at p);
  is_constant_at = λ s p. is.is_constant_at s p ∙ sym (there.is_constant_at s p);
  rows = is.rows ∙ sym there.rows;
}

pub one_database : DatabasesOfATextAgree
one_database kinds text db other is there =
    let same = alike kinds text db other is there in
    let back = alike kinds text other db there is in
    record {
      provable = same.provable;
      logic = same.logic;
      symbols = same.symbols;
      labels = is.labels ∙ sym there.labels;
      positions = is.positions ∙ sym there.positions;
      statement_count = is.statement_count ∙ sym there.statement_count;
      frame = same.frame;
      active_at = same.active_at;
      is_constant_at = same.is_constant_at;
      place_after = λ l. is.place_after l ∙ sym (there.place_after l);
      float_codes = λ p. is.float_codes p ∙ sym (there.float_codes p);
      rows = same.rows;
      usable = λ l. option_same (db.usable l) (other.usable l)
          (λ a e. there.usable_all l a (usable_same db other same l a (is.usable_is l a e)))
          (λ a e. is.usable_all l a (usable_same other db back l a (there.usable_is l a e)));
    }
