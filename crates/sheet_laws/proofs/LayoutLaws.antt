-- The statements of a layout.
use Rattle.std.proofs.Common.{◌≡◌, ℕ, suc, ◌+◌, true, false, List, [], ◌∷◌, ◌++◌, length, map, Option, Some, None, refl, sym, ap, ◌∙◌, append_assoc, codes}
use Rattle.std.proofs.lemmas.Grind.{flat_map-append}
use Rattle.std.specs.Prelude.{flat_map}
use Rattle.std.specs.Option.{option_map_or}
use Rattle.std.specs.List.{list_all, AllByRecursion}
use Rattle.mm_model.specs.Labels.{is_label}
use Rattle.sheet_text.specs.declared.sheet.SheetItem.{SheetItem}
use Rattle.sheet_text.specs.declared.sheet.SheetItem.TheVariants as item
use Rattle.sheet_text.specs.declared.sheet.PairLine.{PairLine}
use Rattle.sheet_text.specs.declared.sheet.Sheet.{Sheet}
use Rattle.sheet_text.specs.Lines.{lines_not_blank}
use Rattle.sheet_text.specs.SheetStatements.{statements, statements_where}
use Rattle.sheet_text.specs.Layout.{ended, header_line, item_lines, pair_line, proof_lines, lines_of, step_names, layout}
use Rattle.sheet_text.specs.Spellable.{is_token, is_comment_line, is_pair_spellable}
use Rattle.sheet_laws.proofs.Tests.{and_left, and_right, all_append}
use Rattle.sheet_laws.proofs.SplitLaws.{has_no}
use Rattle.sheet_laws.proofs.LineLaws.{plain_from, lines-laid}
use Rattle.sheet_laws.proofs.StatementLaws.{Piece, IsWhole, lines_in, numbered, lines-numbered, statements-whole}
use Rattle.sheet_laws.proofs.SpokenLaws.{IsLaid}
use Rattle.sheet_laws.proofs.KindLaws.{step_piece, comment_piece, proof_piece, pair_piece, footer_piece, header_piece, step-laid, comment-laid, proof-laid, pair-laid, footer-laid, header-laid}
use Rattle.sheet_laws.proofs.PlaceLaws.{AreItemsAt}

abbrev pub item_piece : List (List ℕ) → SheetItem → Piece
item_piece names (item.Comment lines) = comment_piece lines
item_piece names (item.Step s) = step_piece names s

abbrev pub item_pieces : List (List ℕ) → List SheetItem → List Piece
item_pieces names items = map (item_piece names) items

abbrev pub proof_pieces : Option (List ℕ) → List Piece
proof_pieces None = []
proof_pieces (Some proof) = proof_piece proof ∷ []

abbrev pub pair_pieces : List PairLine → List Piece
pair_pieces ps = map (λ (p : PairLine). pair_piece p.names) ps

abbrev pub tail_pieces : Option (List ℕ) → List PairLine → List Piece
tail_pieces proof pairs = proof_pieces proof ++ (pair_pieces pairs ++ footer_piece ∷ [])

abbrev pub body_pieces : Sheet → Option (List ℕ) → List Piece
body_pieces s proof = item_pieces (step_names s) s.items ++ tail_pieces proof s.pairs

abbrev pub pieces : Sheet → Option (List ℕ) → List Piece
pieces s proof = header_piece s.theorem s.loc ∷ body_pieces s proof

pub lines_in-append : (ps qs : List Piece) → lines_in (ps ++ qs) ≡ lines_in ps ++ lines_in qs
lines_in-append ps qs = flat_map-append (λ (p : Piece). p.opening ∷ p.more) ps qs

items_lines : (full done : List (List ℕ)) (items : List SheetItem) → AreItemsAt full done items → lines_in (item_pieces full items) ≡ flat_map (item_lines full) items
items_lines full done [] a = refl
items_lines full done (item.Comment [] ∷ items) a = let e = a.0 in absurd (cc)
items_lines full done (item.Comment (l ∷ ls) ∷ items) a = ap (λ t. l ∷ (ls ++ t)) (items_lines full done items a.1)
items_lines full done (item.Step s ∷ items) a = ap (λ t. (step_piece full s).opening ∷ t) (items_lines full (done ++ s.name ∷ []) items a.1)

pairs_lines : (ps : List PairLine) → lines_in (pair_pieces ps) ≡ map pair_line ps
pairs_lines [] = refl
pairs_lines (p ∷ ps) = ap (λ t. pair_line p ∷ t) (pairs_lines ps)

proof_lines-pieces : (proof : Option (List ℕ)) → lines_in (proof_pieces proof) ≡ proof_lines proof
proof_lines-pieces None = refl
proof_lines-pieces (Some proof) = refl

module _ (s : Sheet) (proof : Option (List ℕ)) (a : AreItemsAt (step_names s) [] s.items) where
  pub lines-pieces : lines_in (pieces s proof) ≡ lines_of s proof
  lines-pieces =
      ap (λ t. header_line s ∷ t) (
      lines_in-append (item_pieces (step_names s) s.items) (tail_pieces proof s.pairs)
      ∙ ap (λ t. t ++ lines_in (tail_pieces proof s.pairs)) (items_lines (step_names s) [] s.items a)
      ∙ ap (λ t. flat_map (item_lines (step_names s)) s.items ++ t)
      (lines_in-append (proof_pieces proof) (pair_pieces s.pairs ++ footer_piece ∷ [])
      ∙ ap (λ t. t ++ lines_in (pair_pieces s.pairs ++ footer_piece ∷ [])) (proof_lines-pieces proof)
      ∙ ap (λ t. proof_lines proof ++ t) (lines_in-append (pair_pieces s.pairs) (footer_piece ∷ []) ∙ ap (λ t. t ++ codes "$)" ∷ []) (pairs_lines s.pairs)))
      ∙ sym (append_assoc (flat_map (item_lines (step_names s)) s.items ++ proof_lines proof) (map pair_line s.pairs) (codes "$)" ∷ [])
      ∙ append_assoc (flat_map (item_lines (step_names s)) s.items) (proof_lines proof) (map pair_line s.pairs ++ codes "$)" ∷ [])))

-- ---- the statements

pub all_by-append : {A : Type 0} (P : A → Type 0) (xs ys : List A) → AllByRecursion P xs → AllByRecursion P ys → AllByRecursion P (xs ++ ys)
all_by-append P [] ys a b = b
all_by-append P (x ∷ xs) ys a b = (a.0, all_by-append P xs ys a.1 b)

items_laid : (full done : List (List ℕ)) (items : List SheetItem) → AreItemsAt full done items → AllByRecursion IsLaid (item_pieces full items)
items_laid full done [] a = tt
items_laid full done (item.Comment lines ∷ items) a = (comment-laid lines a.0, items_laid full done items a.1)
items_laid full done (item.Step s ∷ items) a = (step-laid full s a.0.writable, items_laid full (done ++ s.name ∷ []) items a.1)

pairs_laid : (ps : List PairLine) → list_all is_pair_spellable ps ≡ true → AllByRecursion IsLaid (pair_pieces ps)
pairs_laid [] h = tt
pairs_laid (p ∷ ps) h = (pair-laid p.names (and_left _ _ (and_left _ _ h)), pairs_laid ps (and_right _ _ h))

abbrev pub IsClean : Option (List ℕ) → Type 0
IsClean None = Unit {0}
IsClean (Some proof) = has_no 10 proof ≡ true

proof_laid : (proof : Option (List ℕ)) → IsClean proof → AllByRecursion IsLaid (proof_pieces proof)
proof_laid None c = tt
proof_laid (Some proof) c = (proof-laid proof c, tt)

laid_lines : (ps : List Piece) → AllByRecursion IsLaid ps → list_all is_comment_line (lines_in ps) ≡ true
laid_lines [] a = refl
laid_lines (p ∷ ps) a = all_append is_comment_line (p.opening ∷ p.more) (lines_in ps) a.0.lines (laid_lines ps a.1)

laid_whole : (n : ℕ) (ps : List Piece) → AllByRecursion IsLaid ps → AllByRecursion IsWhole (numbered n ps)
laid_whole n [] a = tt
laid_whole n (p ∷ ps) a = (a.0.whole n, laid_whole (suc n + length p.more) ps a.1)

-- what the layout of a sheet needs of it
pub record IsReady (s : Sheet) (proof : Option (List ℕ)) : Type 0 where
  pub theorem : is_token s.theorem ≡ true
  pub loc : option_map_or is_label s.loc true ≡ true
  pub items : AreItemsAt (step_names s) [] s.items
  pub pairs : list_all is_pair_spellable s.pairs ≡ true
  pub clean : IsClean proof

pieces_laid : (s : Sheet) (proof : Option (List ℕ)) → IsReady s proof → AllByRecursion IsLaid (pieces s proof)
pieces_laid s proof r = (
  header-laid s.theorem s.loc r.theorem r.loc,
  all_by-append IsLaid (item_pieces (step_names s) s.items) (tail_pieces proof s.pairs) (items_laid (step_names s) [] s.items r.items)
      (all_by-append IsLaid (proof_pieces proof) (pair_pieces s.pairs ++ footer_piece ∷ []) (proof_laid proof r.clean)
      (all_by-append IsLaid (pair_pieces s.pairs) (footer_piece ∷ []) (pairs_laid s.pairs r.pairs) (footer-laid, tt))),
)

pub layout_lines : (s : Sheet) (proof : Option (List ℕ)) → IsReady s proof → lines_not_blank (layout s proof) ≡ plain_from 1 (lines_in (pieces s proof))
layout_lines s proof r =
    ap (λ t. lines_not_blank (flat_map ended t)) (sym (lines-pieces s proof r.items)) ∙ lines-laid (lines_in (pieces s proof)) (laid_lines (pieces s proof) (pieces_laid s proof r))

pub layout_statements : (s : Sheet) (proof : Option (List ℕ)) → IsReady s proof → statements (layout s proof) ≡ numbered 1 (pieces s proof)
layout_statements s proof r =
    ap (statements_where false) (layout_lines s proof r ∙ sym (lines-numbered 1 (pieces s proof)))
    ∙ statements-whole (numbered 1 (pieces s proof)) (laid_whole 1 (pieces s proof) (pieces_laid s proof r))
