-- The text of a proof.
use Rattle.std.specs.Prelude.{◌≡◌, ◌<◌, ◌≤◌, ◌-◌, ◌+◌, ◌^◌, ℕ, List, [], ◌∷◌, ◌++◌, flat_map, fold, length, slice_index_or, unwrap_or, Option, Some, None, refl}
use Rattle.std.specs.List.{last_or}
use Rattle.std.proofs.Common.{sym, ap, ◌∙◌, arith, append-nil, length-append}
use Rattle.std.proofs.Math.Nat.{min_comm}
use Rattle.std.proofs.lemmas.Grind.{fold-append}
use Rattle.mm_base.specs.Limits.{most_proof_labels}
use Rattle.fault_lines.specs.Refusals.{told_number}
use Rattle.mm_database.specs.Opened.{Opened}
use Rattle.mm_model.specs.Names.{Name}
use Rattle.mm_model.specs.Book.{Database}
use Rattle.proof_model.specs.declared.theorem.Theorem.{Theorem}
use Rattle.proof_model.specs.Proofs.{Proof, postorder}
use Rattle.proof_tree.specs.declared.graph.ProofNode.{ProofNode}
use Rattle.proof_tree.specs.Graphs.{label_count, root_proof}
use Rattle.sheet_text.specs.declared.sheet.Given.TheVariants as place
use Rattle.sheet_text.specs.Layout.{spaced}
use Rattle.written_model.specs.declared.options.ProofStyle.{ProofStyle}
use Rattle.written_model.specs.declared.options.ProofStyle.TheVariants as style
use Rattle.written_model.specs.WrittenSteps.{WrittenStep}
use Rattle.written_model.specs.ProofTrees.{step_proof, step_proofs, place_proof, no_proof}
use Rattle.written_model.specs.Written.{qed_proof, proof_text}
use Rattle.written_steps.specs.Drafts.{book}
use Rattle.sheet_proof.specs.declared.text.ProofFault.{ProofFault}
use Rattle.sheet_proof.specs.declared.text.ProofFault.TheVariants.{TooLong, Memory}
use Rattle.sheet_proof.specs.Provable.{IsToldOf}
use Rattle.sheet_proof.specs.Texts.{IsGraphOf, IsToldIn, behind, text_in}

-- texts parted by spaces are the first, and the others behind a space
pub joined : (x : Name) (xs : List Name) → spaced (x ∷ xs) ≡ x ++ flat_map (λ (w : Name). 32 ∷ w) xs
joined x [] = sym (append-nil x)
joined x (y ∷ ys) = ap (λ t. x ++ (32 ∷ t)) (joined y ys)

pub spaced_is : (first : Name) (more labels : List Name) (a b text : List ℕ) → labels ≡ first ∷ more → a ≡ first → b ≡ a ++ behind more → text ≡ b → text ≡ spaced labels
spaced_is first more labels a b text e g h i = i ∙ h ∙ ap (λ x. x ++ behind more) g ∙ sym (joined first more) ∙ ap spaced (sym e)

-- ---- the last proof

last_of : {X : Type 0} (o : Option X) (xs : List X) (y : X) → last_or o (xs ++ y ∷ []) ≡ Some y
last_of o [] y = refl
last_of o (x ∷ xs) y = last_of (Some x) xs y

index_mid : {X : Type 0} (xs : List X) (y d : X) → slice_index_or (xs ++ y ∷ []) (length xs) d ≡ y
index_mid [] y d = refl
index_mid (x ∷ xs) y d = index_mid xs y d

module _ (db : Database) (theorem : Theorem) where
  abbrev with_proof : List Proof → WrittenStep → List Proof
  with_proof earlier e = earlier ++ step_proof db theorem.hyps earlier e ∷ []

  count_from : (es : List WrittenStep) (earlier : List Proof) → length (fold with_proof earlier es) ≡ length earlier + length es
  count_from [] earlier = omega arith
  count_from (e ∷ es) earlier =
      let rest = count_from es (with_proof earlier e) in
      let one = length-append earlier (step_proof db theorem.hyps earlier e ∷ []) in
      omega (arith, rest, one)

  -- the proof of the last step is that of `qed`
  pub last_is : (es front : List WrittenStep) (last : WrittenStep) (root : ℕ) → es ≡ front ++ last ∷ [] → root ≡ length front
      → place_proof (step_proofs db theorem.hyps es) (place.Step root) ≡ qed_proof db theorem es
  last_is es front last root e r =
      let xs = step_proofs db theorem.hyps front in
      let y = step_proof db theorem.hyps xs last in
      let whole : step_proofs db theorem.hyps es ≡ xs ++ y ∷ [] = ap (step_proofs db theorem.hyps) e ∙ fold-append with_proof [] front (last ∷ []) in
      let n : root ≡ length xs = (let k = count_from front [] in omega (arith, k, r)) in
      ap (λ ps. slice_index_or ps root no_proof) whole ∙ ap (λ k. slice_index_or (xs ++ y ∷ []) k no_proof) n ∙ index_mid xs y no_proof
      ∙ ap (λ o. unwrap_or o no_proof) (sym (last_of None xs y)) ∙ ap (λ ps. unwrap_or (last_or None ps) no_proof) (sym whole)

-- ---- what is answered

pub text_is : (db : Database) (s : ProofStyle) (theorem : Theorem) (es : List WrittenStep) (mandatory : List Name) (p : Proof) (text : List ℕ)
    → mandatory ≡ theorem.mandatory → p ≡ qed_proof db theorem es
    → text ≡ text_in s mandatory p → text ≡ proof_text db s theorem es
text_is db style.Normal theorem es mandatory p text m e h = h ∙ ap (λ q. text_in style.Normal mandatory q) e
text_is db style.Compressed theorem es mandatory p text m e h = h ∙ ap (λ q. text_in style.Compressed mandatory q) e ∙ ap (λ ms. text_in style.Compressed ms (qed_proof db theorem es)) m

pub few_are : (p q : Proof) → p ≡ q → length (postorder p) ≤ 2 ^ 20 → most_proof_labels < length (postorder q) → ⊥
few_are p q e h l = let same = ap (λ x. length (postorder x)) e in omega (arith, same, h, l)

pub count_told : (p q : Proof) (n : ℕ) → p ≡ q → n ≡ label_count p → n ≡ told_number (length (postorder q))
count_told p q n e h = h ∙ min_comm (2 ^ 64 - 1) (length (postorder p)) ∙ ap (λ x. told_number (length (postorder x))) e

pub count_over : (p q : Proof) (n : ℕ) → p ≡ q → n ≡ label_count p → 2 ^ 20 < n → most_proof_labels < length (postorder q)
count_over p q n e h l = let same = ap (λ x. length (postorder x)) e in omega (arith, same, h, l)

pub told_is : (d : Opened) (s : ProofStyle) (theorem : Theorem) (es : List WrittenStep) (nodes : List ProofNode) (f : ProofFault)
    → IsGraphOf d theorem es nodes → IsToldIn s (root_proof nodes) f → IsToldOf d s theorem es f
told_is d s theorem es nodes (TooLong n) g h = record {
  style_is = h.0;
  count = λ kinds text opened. count_told (root_proof nodes) (qed_proof (book kinds text d) theorem es) n (g kinds text opened) h.1;
  over = λ kinds text opened. count_over (root_proof nodes) (qed_proof (book kinds text d) theorem es) n (g kinds text opened) h.1 h.2;
}
told_is d s theorem es nodes Memory g h = tt
