-- What closes a layout, and that it has no fault.
use Rattle.std.proofs.Common.{◌≡◌, ℕ, suc, ◌+◌, Bool, true, false, cond, not, ◌&&◌, List, [], ◌∷◌, ◌++◌, length, Option, Some, None, refl, sym, ap}
use Rattle.std.proofs.Common.{◌∙◌, arith, append_assoc, codes, slice_get, length-append}
use Rattle.std.specs.List.{list_all, list_any}
use Rattle.mm_model.specs.Faults.{Fault, fault, earlier, or_else}
use Rattle.mm_model.specs.Names.{contains}
use Rattle.sheet_text.specs.declared.sheet.SheetItem.{SheetItem}
use Rattle.sheet_text.specs.declared.sheet.SheetItem.TheVariants as item
use Rattle.sheet_text.specs.declared.sheet.PairLine.{PairLine}
use Rattle.sheet_text.specs.declared.sheet.Sheet.{Sheet}
use Rattle.sheet_text.specs.Lines.{Line, line, begins, tokens, line_past_end}
use Rattle.sheet_text.specs.Layout.{layout, step_names}
use Rattle.sheet_text.specs.SheetStatements.{Statement, statements, is_word, is_footer, is_proof, ends_proof}
use Rattle.sheet_text.specs.Spellable.{is_pair_spellable}
use Rattle.sheet_text.specs.TextFaults.{no_header, statement_fault, lines_from, past_footer, closing_fault, line_fault}
use Rattle.sheet_laws.proofs.Tests.{and_left, and_right, both_true, true_not, cond_then, cond_else}
use Rattle.sheet_laws.proofs.WordLaws.{tokens_at-spaced}
use Rattle.sheet_laws.proofs.LineLaws.{plain_from, lines_from-plain}
use Rattle.sheet_laws.proofs.StatementLaws.{Piece, statement_at, lines_in, numbered}
use Rattle.sheet_laws.proofs.FormLaws.{header_tokens, more_header_tokens}
use Rattle.sheet_laws.proofs.SpokenLaws.{word-spoken}
use Rattle.sheet_laws.proofs.KindLaws.{step_piece, comment_piece, proof_piece, pair_piece, footer_piece, header_piece, header-tokens, header-laid, step-is, comment-is, proof-is, pair-is}
use Rattle.sheet_laws.proofs.PlaceLaws.{AreItemsAt}
use Rattle.sheet_laws.proofs.LayoutLaws.{item_pieces, pair_pieces, tail_pieces, body_pieces, pieces, IsReady, layout_lines, layout_statements}
use Rattle.sheet_laws.proofs.RuleLaws.{not_yes}
use Rattle.sheet_laws.proofs.FaultLaws.{statements_pass}

module _ (past : ℕ) where
  -- nothing is wrong with what closes the sheet, where these lines stand before the statements
  abbrev IsClosed : List (List ℕ) → List Piece → Type 0
  IsClosed front ps = (n : ℕ) → n ≡ 1 + length front → closing_fault past (plain_from 1 (front ++ lines_in ps)) (numbered n ps) ≡ None

  after : (front : List (List ℕ)) (p : Piece) (ps : List Piece) (n : ℕ) → n ≡ 1 + length front → IsClosed (front ++ p.opening ∷ p.more) ps
      → closing_fault past (plain_from 1 (front ++ lines_in (p ∷ ps))) (numbered (suc n + length p.more) ps) ≡ None
  after front p ps n e k =
      ap (λ ls. closing_fault past (plain_from 1 ls) (numbered (suc n + length p.more) ps)) (sym (append_assoc front (p.opening ∷ p.more) (lines_in ps)))
      ∙ k (suc n + length p.more) (omega (arith, e, length-append front (p.opening ∷ p.more)))

  over_plain : (front : List (List ℕ)) (p : Piece) (ps : List Piece) → ((n : ℕ) → (is_footer (statement_at n p) ≡ false) × (is_proof (statement_at n p) ≡ false))
      → IsClosed (front ++ p.opening ∷ p.more) ps → IsClosed front (p ∷ ps)
  over_plain front p ps h k n e =
      cond_else (is_footer (statement_at n p)) _ _ (h n).0
      ∙ ap
      (λ b. cond (b && not (list_any ends_proof (lines_from n (plain_from 1 (front ++ lines_in (p ∷ ps)))))) (Some (fault n 48))
      (closing_fault past (plain_from 1 (front ++ lines_in (p ∷ ps))) (numbered (suc n + length p.more) ps)))
      (h n).1
      ∙ after front p ps n e k

  any_first : (p : Line → Bool) (l : Line) (ls : List Line) → p l ≡ true → list_any p (l ∷ ls) ≡ true
  any_first p l ls h = rw h refl

  and_not : (a b : Bool) → b ≡ true → (a && not b) ≡ false
  and_not true b h = not_yes b h
  and_not false b h = refl

  over_proof : (front : List (List ℕ)) (proof : List ℕ) (ps : List Piece) → IsClosed (front ++ (proof_piece proof).opening ∷ []) ps → IsClosed front (proof_piece proof ∷ ps)
  over_proof front proof ps k n e =
      let is = proof-is n proof in
      let p = proof_piece proof in
      let found : list_any ends_proof (lines_from n (plain_from 1 (front ++ lines_in (proof_piece proof ∷ ps)))) ≡ true =
      ap (list_any ends_proof) (lines_from-plain 1 n front (lines_in (proof_piece proof ∷ ps)) e)
      ∙ any_first ends_proof (line n (proof_piece proof).opening) (plain_from (suc n) (lines_in ps)) is.ends in
      cond_else (is_footer (statement_at n p)) _ _ is.footer
      ∙ cond_else (is_proof (statement_at n p) && not (list_any ends_proof (lines_from n (plain_from 1 (front ++ lines_in (p ∷ ps)))))) _ _ (and_not _ _ found)
      ∙ after front p ps n e k

  footer_closes : (front : List (List ℕ)) → IsClosed front (footer_piece ∷ [])
  footer_closes front n e = ap past_footer (lines_from-plain 1 n front (codes "$)" ∷ []) e)

  pairs_close : (ps : List PairLine) (front : List (List ℕ)) → list_all is_pair_spellable ps ≡ true → IsClosed front (pair_pieces ps ++ footer_piece ∷ [])
  pairs_close [] front h = footer_closes front
  pairs_close (p ∷ ps) front h =
      over_plain front (pair_piece p.names) (pair_pieces ps ++ footer_piece ∷ [])
      (λ n. let is = pair-is n p.names (and_left _ _ (and_left _ _ h)) (true_not _ (and_right _ _ (and_left _ _ h))) in (is.footer, is.proof))
      (pairs_close ps (front ++ (pair_piece p.names).opening ∷ []) (and_right _ _ h))

  proof_closes : (proof : Option (List ℕ)) (ps : List PairLine) (front : List (List ℕ)) → list_all is_pair_spellable ps ≡ true → IsClosed front (tail_pieces proof ps)
  proof_closes None ps front h = pairs_close ps front h
  proof_closes (Some proof) ps front h = over_proof front proof (pair_pieces ps ++ footer_piece ∷ []) (pairs_close ps (front ++ (proof_piece proof).opening ∷ []) h)

  items_close : (full done : List (List ℕ)) (items : List SheetItem) (rest : List Piece) (front : List (List ℕ)) → AreItemsAt full done items → ((more : List (List ℕ)) → IsClosed more rest)
      → IsClosed front (item_pieces full items ++ rest)
  items_close full done [] rest front a k = k front
  items_close full done (item.Comment lines ∷ items) rest front a k =
      over_plain front (comment_piece lines) (item_pieces full items ++ rest) (λ n. let is = comment-is n lines a.0 in (is.footer, is.proof))
      (items_close full done items rest (front ++ (comment_piece lines).opening ∷ (comment_piece lines).more) a.1 k)
  items_close full done (item.Step t ∷ items) rest front a k =
      over_plain front (step_piece full t) (item_pieces full items ++ rest) (λ n. let is = step-is full t n a.0.writable in (is.footer, is.proof))
      (items_close full (done ++ t.name ∷ []) items rest (front ++ (step_piece full t).opening ∷ []) a.1 k)

  header_closes : (s : Sheet) (proof : Option (List ℕ)) → IsReady s proof → IsClosed [] (pieces s proof)
  header_closes s proof r =
      let h = header-tokens s.theorem s.loc r.theorem r.loc in
      over_plain [] (header_piece s.theorem s.loc) (body_pieces s proof)
      (λ n. (word-spoken (codes "$)") n (codes "$(") (more_header_tokens s.theorem s.loc) h, word-spoken (codes "$=") n (codes "$(") (more_header_tokens s.theorem s.loc) h))
      (items_close (step_names s) [] s.items (tail_pieces proof s.pairs) ((header_piece s.theorem s.loc).opening ∷ []) r.items (λ more. proof_closes proof s.pairs more r.pairs))

-- ---- the first line

header_begins : (past : ℕ) (s : Sheet) (proof : Option (List ℕ)) → IsReady s proof → no_header past (plain_from 1 (lines_in (pieces s proof))) ≡ None
header_begins past s proof r =
    let h = header-tokens s.theorem s.loc r.theorem r.loc in
    let l = line 1 (header_piece s.theorem s.loc).opening in
    let first : is_word (codes "$(") (slice_get (tokens l) 0) ≡ true = ap (λ (ts : List (List ℕ)). is_word (codes "$(") (slice_get ts 0)) (tokens_at-spaced 0 (header_tokens s.theorem s.loc) h) in
    cond_then (begins l && is_word (codes "$(") (slice_get (tokens l) 0)) _ _ (both_true _ _ ((header-laid s.theorem s.loc r.theorem r.loc).whole 1).opening first)

pub layout_sound : (s : Sheet) (proof : Option (List ℕ)) → IsReady s proof → contains (step_names s) (codes "qed") ≡ true → line_fault (layout s proof) ≡ None
layout_sound s proof r q =
    let past = line_past_end (layout s proof) in
    ap (λ (ls : List Line). or_else (no_header past ls) (earlier (statement_fault (statements (layout s proof))) (closing_fault past ls (statements (layout s proof))))) (layout_lines s proof r)
    ∙ ap
    (λ (ss : List Statement). or_else (no_header past (plain_from 1 (lines_in (pieces s proof))))
    (earlier (statement_fault ss) (closing_fault past (plain_from 1 (lines_in (pieces s proof))) ss)))
    (layout_statements s proof r)
    ∙ ap
    (λ (o : Option Fault). or_else o
    (earlier (statement_fault (numbered 1 (pieces s proof)))
    (closing_fault past (plain_from 1 (lines_in (pieces s proof))) (numbered 1 (pieces s proof)))))
    (header_begins past s proof r)
    ∙ ap (λ (o : Option Fault). earlier o (closing_fault past (plain_from 1 (lines_in (pieces s proof))) (numbered 1 (pieces s proof)))) (statements_pass s proof r q)
    ∙ header_closes past s proof r 1 refl
