-- The words of the proof of a finished worksheet, and its code.
use Rattle.std.specs.Prelude.{◌≡◌, ℕ, Bool, true, false, List, [], ◌∷◌, ◌++◌, length, map, None, codes, refl}
use Rattle.std.specs.List.{AllByRecursion, list_all}
use Rattle.std.specs.Str.{bytes_eq}
use Rattle.std.proofs.Common.{sym, ap, subst, ◌∙◌, cond}
use Rattle.std.proofs.lemmas.Bool.{and_from, false_from_ne_true}
use Rattle.std.proofs.lemmas.Slice.Eq.{bytes_eq-Decides}
use Rattle.mm_model.specs.Labels.{is_label}
use Rattle.mm_model.specs.Names.{Name}
use Rattle.mm_model.specs.Book.{Database}
use Rattle.proof_model.specs.declared.code.Code.{Code}
use Rattle.proof_model.specs.declared.theorem.Theorem.{Theorem}
use Rattle.proof_model.specs.Codes.{normal_code}
use Rattle.proof_model.specs.DatabaseProofs.{is_compressed, proof_code_fault, IsCodeOf, IsCodeWhere}
use Rattle.proof_model.specs.Machine.{Accepts}
use Rattle.proof_model.specs.ProofCode.{is_listable, steps_letters, code_fault}
use Rattle.proof_model.specs.Proofs.{postorder}
use Rattle.sheet_text.specs.Layout.{spaced}
use Rattle.sheet_text.specs.Spellable.{is_token}
use Rattle.sheet_laws.proofs.Tests.{all_more, all_append}
use Rattle.written_model.specs.declared.options.Options.{Options}
use Rattle.written_model.specs.declared.options.ProofStyle.{ProofStyle}
use Rattle.written_model.specs.declared.options.ProofStyle.TheVariants as style
use Rattle.written_model.specs.WrittenSteps.{steps_in}
use Rattle.written_model.specs.Written.{Writing, frames_of, written_theorem, proof_text}
use Rattle.push_laws.specs.QedProof.{the_proof, ProofIsAccepted, CodeIsRead, the_code}
use Rattle.push_laws.proofs.WrittenProof.{labels_tokens, listable_token, letters_token}

-- a proof of labels is not compressed
not_compressed : (ns : List Name) → AllByRecursion (λ n. is_label n ≡ true) ns → is_compressed ns ≡ false
not_compressed [] a = refl
not_compressed (n ∷ ns) a = false_from_ne_true (bytes_eq n (codes "(")) (λ e.
    let bad : false ≡ true = ap is_label (sym ((bytes_eq-Decides n (codes "(")).0 e)) ∙ a.0 in
    cc)

module _ (db : Database) (options : Options) (w : Writing) where
  abbrev thm : Theorem
  thm = written_theorem db options w

  -- what the words of a proof are, where these are its bytes
  pub record IsReadProof (bytes : List ℕ) : Type 0 where
    pub tokens : List Name
    pub are_tokens : list_all is_token tokens ≡ true
    pub is_text : bytes ≡ spaced tokens
    pub no_fault : proof_code_fault thm.mandatory tokens ≡ None
    pub code : Code
    pub is_code : IsCodeOf thm.mandatory tokens code
    pub accepts : Accepts (frames_of db) thm code

  pub read_proof : AllByRecursion (λ l. is_label l ≡ true) (postorder (the_proof db options w)) → ProofIsAccepted db options w → CodeIsRead db options w
      → (st : ProofStyle) → IsReadProof (proof_text db st thm (steps_in w.items))
  read_proof named acc read style.Normal =
      let words = postorder (the_proof db options w) in
      let plain = not_compressed words named in
      record {
        tokens = words;
        are_tokens = labels_tokens words named;
        is_text = refl;
        no_fault = ap (λ b. cond b (code_fault (spaced words) thm.mandatory) None) plain;
        code = normal_code thm.mandatory words;
        is_code = subst (λ b. IsCodeWhere b thm.mandatory words (normal_code thm.mandatory words)) (sym plain) refl;
        accepts = acc.normal;
      }
  read_proof named acc read style.Compressed =
      let code = the_code db options w in
      let letters = steps_letters (length thm.mandatory) (length code.labels) code.steps in
      record {
        tokens = codes "(" ∷ code.labels ++ codes ")" ∷ letters ∷ [];
        are_tokens = all_append is_token code.labels (codes ")" ∷ letters ∷ []) (all_more is_listable is_token listable_token code.labels read.writable.labels)
            (and_from (is_token letters) true (letters_token (frames_of db) thm (length thm.mandatory) code acc.compressed) refl);
        is_text = refl;
        no_fault = read.sound;
        code = code;
        is_code = read.spells;
        accepts = acc.compressed;
      }
