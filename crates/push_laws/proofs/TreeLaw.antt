-- The law of the proof of a tree.
use Rattle.mm_base.specs.declared.kinds.Kinds.{Kinds}
use Rattle.mm_model.specs.Book.{Database}
use Rattle.proof_model.specs.declared.theorem.Theorem.{Theorem}
use Rattle.written_model.specs.ProofTrees.{syntax_proof}
use Rattle.written_model.specs.ProofsPush.{TreeProofPushes, tree_formula}
use Rattle.written_model.specs.Written.{frames_of}
use Rattle.push_laws.proofs.Books.{is_book}
use Rattle.push_laws.proofs.Runs.{pushes_from}
use Rattle.push_laws.proofs.TreeProofs.{tree_proof}

pub tree_proof_pushes : (kinds : Kinds) (db : Database) (theorem : Theorem) → TreeProofPushes kinds db theorem
tree_proof_pushes kinds db theorem t opened typed closed floats apart =
    let book = is_book kinds opened.text db opened.is_database opened.sound in
    let p = tree_proof db book theorem apart t typed closed floats in
    pushes_from (frames_of db) theorem (syntax_proof db theorem.hyps t) (tree_formula db t) p.plain p.runs
