-- A layout has no fault.
use Rattle.std.proofs.Common.{◌≡◌, ℕ, suc, ◌+◌, true, false, cond, List, [], ◌∷◌, ◌++◌, length, Option, Some, None, refl, sym, ap, ◌∙◌, append-nil, append_assoc, codes, is_none}
use Rattle.std.specs.List.{list_all}
use Rattle.mm_model.specs.Faults.{fault, first_fault}
use Rattle.mm_model.specs.Names.{contains}
use Rattle.sheet_text.specs.declared.sheet.SheetItem.{SheetItem}
use Rattle.sheet_text.specs.declared.sheet.SheetItem.TheVariants as item
use Rattle.sheet_text.specs.declared.sheet.PairLine.{PairLine}
use Rattle.sheet_text.specs.declared.sheet.Sheet.{Sheet}
use Rattle.sheet_text.specs.Forms.{Header, header_of}
use Rattle.sheet_text.specs.Layout.{step_names}
use Rattle.sheet_text.specs.SheetStatements.{Statement, line_of, tokens_in}
use Rattle.sheet_text.specs.Spellable.{is_token, is_pair_spellable}
use Rattle.sheet_text.specs.TextFaults.{statement_fault, statement_rules, is_bad_distinct}
use Rattle.sheet_laws.proofs.Tests.{and_left, and_right, true_not}
use Rattle.sheet_laws.proofs.StatementLaws.{Piece, statement_at, numbered}
use Rattle.sheet_laws.proofs.FormLaws.{header, header_of-tokens, header_tokens}
use Rattle.sheet_laws.proofs.SpokenLaws.{tokens-spoken}
use Rattle.sheet_laws.proofs.KindLaws.{step_piece, comment_piece, proof_piece, pair_piece, footer_piece, header_piece, header-tokens, IsNote, step-is, comment-is, proof-is, pair-is, footer-is}
use Rattle.sheet_laws.proofs.PlaceLaws.{AreItemsAt, steps_in, names_in}
use Rattle.sheet_laws.proofs.LayoutLaws.{item_pieces, proof_pieces, pair_pieces, tail_pieces, body_pieces, pieces, IsReady}
use Rattle.sheet_laws.proofs.RuleLaws.{Passes, SameNames, pass_one, names_more, names_kept, step-sound, note-sound, pair-sound, proof-sound, footer-sound}

-- ---- the rules of the statements

note_no_step : (s : Statement) → IsNote s → (before : List Statement) (done : List (List ℕ)) → SameNames before done → SameNames (s ∷ before) done
note_no_step s k before done same = names_kept before done s (rw k.comment refl) same

items_pass : (full done : List (List ℕ)) (n : ℕ) (before : List Statement) (items : List SheetItem) (rest : List Piece) → AreItemsAt full done items → SameNames before done
    → ((m : ℕ) (b : List Statement) → SameNames b (done ++ names_in (steps_in items)) → Passes b (numbered m rest)) → Passes before (numbered n (item_pieces full items ++ rest))
items_pass full done n before [] rest a same k = k n before (λ q. same q ∙ ap (λ d. contains d q) (sym (append-nil done)))
items_pass full done n before (item.Comment lines ∷ items) rest a same k =
    let s = statement_at n (comment_piece lines) in let note = comment-is n lines a.0 in
    pass_one before s (numbered (suc n + length (comment_piece lines).more) (item_pieces full items ++ rest)) (note-sound before s note)
    (items_pass full done (suc n + length (comment_piece lines).more) (s ∷ before) items rest a.1 (note_no_step s note before done same) k)
items_pass full done n before (item.Step t ∷ items) rest a same k =
    let s = statement_at n (step_piece full t) in let step = step-is full t n a.0.writable in
    pass_one before s (numbered (suc n + 0) (item_pieces full items ++ rest)) (step-sound before done s _ same step a.0.fresh a.0.no_qed a.0.qed a.0.read.known)
    (items_pass full (done ++ t.name ∷ []) (suc n + 0) (s ∷ before) items rest a.1 (names_more before done s _ step.form same)
    (λ m b e. k m b (λ q. e q ∙ ap (λ d. contains d q) (append_assoc done (t.name ∷ []) (names_in (steps_in items))))))

proof_pass : (done : List (List ℕ)) (n : ℕ) (before : List Statement) (proof : Option (List ℕ)) (rest : List Piece) → SameNames before done
    → ((m : ℕ) (b : List Statement) → SameNames b done → Passes b (numbered m rest)) → Passes before (numbered n (proof_pieces proof ++ rest))
proof_pass done n before None rest same k = k n before same
proof_pass done n before (Some proof) rest same k =
    let s = statement_at n (proof_piece proof) in let is = proof-is n proof in
    pass_one before s (numbered (suc n + 0) rest) (proof-sound before s is) (k (suc n + 0) (s ∷ before) (names_kept before done s is.form same))

pairs_pass : (done : List (List ℕ)) (n : ℕ) (before : List Statement) (ps : List PairLine) (rest : List Piece) → list_all is_pair_spellable ps ≡ true → SameNames before done
    → ((m : ℕ) (b : List Statement) → SameNames b done → Passes b (numbered m rest)) → Passes before (numbered n (pair_pieces ps ++ rest))
pairs_pass done n before [] rest h same k = k n before same
pairs_pass done n before (p ∷ ps) rest h same k =
    let good : is_bad_distinct p.names ≡ false = true_not _ (and_right _ _ (and_left _ _ h)) in
    let s = statement_at n (pair_piece p.names) in let is = pair-is n p.names (and_left _ _ (and_left _ _ h)) good in
    pass_one before s (numbered (suc n + 0) (pair_pieces ps ++ rest)) (pair-sound before s p.names is good)
    (pairs_pass done (suc n + 0) (s ∷ before) ps rest (and_right _ _ h) (names_kept before done s is.form same) k)

module _ (s : Sheet) (proof : Option (List ℕ)) (r : IsReady s proof) (q : contains (step_names s) (codes "qed") ≡ true) where
  body_pass : (n : ℕ) → Passes [] (numbered n (body_pieces s proof))
  body_pass n =
      items_pass (step_names s) [] n [] s.items (tail_pieces proof s.pairs) r.items (λ x. refl) (λ m b same.
      proof_pass (step_names s) m b proof (pair_pieces s.pairs ++ footer_piece ∷ []) same (λ i c again.
      pairs_pass (step_names s) i c s.pairs (footer_piece ∷ []) r.pairs again (λ j d last.
      pass_one d (statement_at j footer_piece) [] (footer-sound d (step_names s) (statement_at j footer_piece) last (footer-is j) q) refl)))

  header_tokens_are : list_all is_token (header_tokens s.theorem s.loc) ≡ true
  header_tokens_are = header-tokens s.theorem s.loc r.theorem r.loc

  pub header_is : header_of (tokens_in (statement_at 1 (header_piece s.theorem s.loc))) ≡ Some (header s.theorem s.loc)
  header_is = ap header_of (tokens-spoken 1 (header_tokens s.theorem s.loc) header_tokens_are) ∙ header_of-tokens s.theorem s.loc r.theorem r.loc

  pub statements_pass : statement_fault (numbered 1 (pieces s proof)) ≡ None
  statements_pass =
      ap (λ (h : Option Header). cond (is_none h) (Some (fault 1 41)) (first_fault (λ b t. line_of t) statement_rules [] (numbered 2 (body_pieces s proof)))) header_is ∙ body_pass 2
