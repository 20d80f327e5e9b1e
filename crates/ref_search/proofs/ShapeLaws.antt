-- Trees of other shapes.
use Rattle.std.proofs.Common.{◌≡◌, ℕ, suc, ◌<◌, true, not, ◌==◌, List, [], length, get_or, map, sym, subst, ◌∙◌, arith}
use Rattle.mm_base.specs.declared.symbols.Label.{Label}
use Rattle.mm_base.specs.declared.symbols.Typecode.{Typecode}
use Rattle.mm_base.specs.declared.tree.Tree.{Tree}
use Rattle.mm_base.specs.declared.tree.Tree.TheVariants.{Node}
use Rattle.ref_search.specs.Matching.{valued_by, NeverBecomes, Becomes}
use Rattle.ref_search.proofs.Lists.{labels_differ}
use Rattle.ref_search.proofs.MatchLaws.{node_value, same_head, become_of, become_here, counts_differ}

module _ (pattern t : Tree) (l : Label) (c : Typecode) (ps : List Tree) (is : pattern ≡ Node l c ps) where
  pub never_node : ((k : Label) (d : Typecode) (ts : List Tree) → t ≡ Node k d ts → ⊥) → NeverBecomes pattern t
  never_node h = record { never = λ f p. h l c (map (valued_by f) ps) (sym p ∙ node_value f pattern l c ps is) }

  module _ (k : Label) (d : Typecode) (ts : List Tree) (too : t ≡ Node k d ts) where
    pub never_label : true ≡ not (l.0 == k.0) → NeverBecomes pattern t
    never_label h = record { never = λ f p. labels_differ l k h (same_head [] [] pattern t l c ps is k d ts too f p).label }

    pub never_count : (length ps ≡ length ts → ⊥) → NeverBecomes pattern t
    never_count h = record { never = λ f p. h (counts_differ f ps ts (same_head [] [] pattern t l c ps is k d ts too f p).children) }

    pub never_part : (n : ℕ) (p u : Tree) → n < length ps → length ps ≡ length ts → p ≡ get_or ps n p → u ≡ get_or ts n u → NeverBecomes p u → NeverBecomes pattern t
    never_part n p u h e x y m = record {
      never = λ f z.
          let same = (same_head [] [] pattern t l c ps is k d ts too f z).children in
          m.never f (subst (λ v. Becomes v u f) (sym x) (subst (λ v. Becomes (get_or ps n p) v f) (sym y) (become_here n ps ts f p u h (omega (arith, h, e)) (become_of (suc n) ps ts f same))));
    }
