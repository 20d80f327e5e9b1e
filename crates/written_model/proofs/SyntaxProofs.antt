-- The equations of the proof of a tree.
use Rattle.std.specs.Prelude.{◌≡◌, List, map}
use Rattle.mm_base.specs.declared.symbols.Sym.{Sym}
use Rattle.mm_base.specs.declared.symbols.Label.{Label}
use Rattle.mm_base.specs.declared.symbols.Typecode.{Typecode}
use Rattle.mm_base.specs.declared.tree.Tree.{Tree}
use Rattle.mm_base.specs.declared.tree.Tree.TheVariants.{Var, Node}
use Rattle.mm_base.proofs.TreeFolds.{fold-Var, fold-Node}
use Rattle.mm_model.specs.declared.frames.Hyp.{Hyp}
use Rattle.mm_model.specs.Book.{Database, label_name}
use Rattle.proof_model.specs.Proofs.{Proof, by, none, proofs}
use Rattle.written_model.specs.ProofTrees.{float_label, syntax_proof}

module _ (db : Database) (hyps : List Hyp) where
  pub syntax-Var : (s : Sym) (c : Typecode) → syntax_proof db hyps (Var s c) ≡ by (float_label hyps s) none
  unfolding syntax_proof
  syntax-Var s c = fold-Var Proof _ s c

  pub syntax-Node : (l : Label) (c : Typecode) (ts : List Tree) → syntax_proof db hyps (Node l c ts) ≡ by (label_name db l) (proofs (map (syntax_proof db hyps) ts))
  unfolding syntax_proof
  syntax-Node l c ts = fold-Node Proof _ l c ts

pub ruleset syntax_proofs = (syntax-Var, syntax-Node)
