-- A layout reads as its sheet.
use Rattle.std.proofs.Common.{◌≡◌, ℕ, suc, ◌+◌, true, false, not, eqb, List, [], ◌∷◌, ◌++◌, length, map, Option, Some, None, refl, sym, ap, ◌∙◌, arith, inl, inr, append_assoc, codes}
use Rattle.std.proofs.lemmas.Bool.{cases_Bool}
use Rattle.std.proofs.lemmas.List.Sums.{take_while-cons}
use Rattle.std.specs.Prelude.{filter_map, take_while, Contains}
use Rattle.std.specs.List.{list_all, AllByRecursion, cons_option}
use Rattle.mm_model.specs.Names.{contains}
use Rattle.sheet_text.specs.declared.sheet.Given.{Given}
use Rattle.sheet_text.specs.declared.sheet.SheetStep.{SheetStep}
use Rattle.sheet_text.specs.declared.sheet.SheetItem.{SheetItem}
use Rattle.sheet_text.specs.declared.sheet.SheetItem.TheVariants as item
use Rattle.sheet_text.specs.declared.sheet.PairLine.{PairLine}
use Rattle.sheet_text.specs.declared.sheet.Sheet.{Sheet}
use Rattle.sheet_text.specs.Forms.{Header, StepForm, header_of}
use Rattle.sheet_text.specs.Lines.{Line}
use Rattle.sheet_text.specs.Layout.{layout, step_names}
use Rattle.sheet_text.specs.Reads.{step_at, comment_of, items_at, items_from, pairs_at, sheet_with, sheet_in, ReadsAs, unnumbered_item, unnumbered_pairs, unnumbered}
use Rattle.sheet_text.specs.SheetStatements.{Statement, line_of, tokens_in, is_comment, is_footer, is_distinct}
use Rattle.sheet_text.specs.Spellable.{IsSpellable, is_pair_spellable, is_comment_spellable}
use Rattle.sheet_text.specs.TextFaults.{step_in, symbols_of}
use Rattle.written_model.specs.ReadBack.{IsOneLine, LaidOutReadsBack}
use Rattle.sheet_laws.proofs.Tests.{and_left, and_right, both_true, true_not, not_true, cond_then, cond_else, same_number}
use Rattle.sheet_laws.proofs.SplitLaws.{has_no}
use Rattle.sheet_laws.proofs.LineLaws.{plain_from}
use Rattle.sheet_laws.proofs.StatementLaws.{Piece, statement_at, lines_in, numbered, numbered-append}
use Rattle.sheet_laws.proofs.FormLaws.{form_of, header_tokens, header_of-tokens}
use Rattle.sheet_laws.proofs.SpokenLaws.{tokens-spoken}
use Rattle.sheet_laws.proofs.KindLaws.{header-tokens, step_piece, comment_piece, proof_piece, pair_piece, footer_piece, header_piece, step-is, comment-is, proof-is, pair-is}
use Rattle.sheet_laws.proofs.PlaceLaws.{AreItemsAt, items-at, last_contains, cons_same}
use Rattle.sheet_laws.proofs.LayoutLaws.{item_pieces, proof_pieces, pair_pieces, body_pieces, pieces, IsClean, IsReady, all_by-append, layout_statements}
use Rattle.sheet_laws.proofs.ClosingLaws.{layout_sound}

-- the statements before the footer
abbrev front_pieces : Sheet → Option (List ℕ) → List Piece
front_pieces s proof = item_pieces (step_names s) s.items ++ (proof_pieces proof ++ pair_pieces s.pairs)

front_body : (s : Sheet) (proof : Option (List ℕ)) → body_pieces s proof ≡ front_pieces s proof ++ footer_piece ∷ []
front_body s proof =
    sym (append_assoc (item_pieces (step_names s) s.items) (proof_pieces proof ++ pair_pieces s.pairs) (footer_piece ∷ [])
    ∙ ap (λ (t : List Piece). item_pieces (step_names s) s.items ++ t) (append_assoc (proof_pieces proof) (pair_pieces s.pairs) (footer_piece ∷ [])))

abbrev IsNoFooter : Piece → Type 0
IsNoFooter p = (n : ℕ) → is_footer (statement_at n p) ≡ false

items_no_footer : (full done : List (List ℕ)) (items : List SheetItem) → AreItemsAt full done items → AllByRecursion IsNoFooter (item_pieces full items)
items_no_footer full done [] a = tt
items_no_footer full done (item.Comment lines ∷ items) a = (λ n. (comment-is n lines a.0).footer, items_no_footer full done items a.1)
items_no_footer full done (item.Step t ∷ items) a = (λ n. (step-is full t n a.0.writable).footer, items_no_footer full (done ++ t.name ∷ []) items a.1)

proof_no_footer : (proof : Option (List ℕ)) → AllByRecursion IsNoFooter (proof_pieces proof)
proof_no_footer None = tt
proof_no_footer (Some proof) = (λ n. (proof-is n proof).footer, tt)

pairs_no_footer : (ps : List PairLine) → list_all is_pair_spellable ps ≡ true → AllByRecursion IsNoFooter (pair_pieces ps)
pairs_no_footer [] h = tt
pairs_no_footer (p ∷ ps) h = (λ n. (pair-is n p.names (and_left _ _ (and_left _ _ h)) (true_not _ (and_right _ _ (and_left _ _ h)))).footer, pairs_no_footer ps (and_right _ _ h))

abbrev before_footer : List Statement → List Statement
before_footer ss = take_while (λ t. not (is_footer t)) ss

front_taken : (n m : ℕ) (ps : List Piece) → AllByRecursion IsNoFooter ps → before_footer (numbered n ps ++ statement_at m footer_piece ∷ []) ≡ numbered n ps
front_taken n m [] a = take_while-cons (λ t. not (is_footer t)) (statement_at m footer_piece) []
front_taken n m (p ∷ ps) a =
    take_while-cons (λ t. not (is_footer t)) (statement_at n p) (numbered (suc n + length p.more) ps ++ statement_at m footer_piece ∷ [])
    ∙ cond_then (not (is_footer (statement_at n p))) _ _ (not_true _ (a.0 n)) ∙ ap (λ t. statement_at n p ∷ t) (front_taken (suc n + length p.more) m ps a.1)

-- ---- items

plain_bytes : (n : ℕ) (ls : List (List ℕ)) → map (λ (l : Line). l.bytes) (plain_from n ls) ≡ ls
plain_bytes n [] = refl
plain_bytes n (l ∷ ls) = ap (λ t. l ∷ t) (plain_bytes (suc n) ls)

note_read : (names : List (List ℕ)) (s : Statement) (more : List (List ℕ) → List SheetItem) → is_comment s ≡ true → items_at names s (step_in s) more ≡ comment_of s ∷ more names
note_read names s more e = rw e (rw e refl)

pass_read : (names : List (List ℕ)) (s : Statement) (more : List (List ℕ) → List SheetItem) → is_comment s ≡ false → step_in s ≡ None → items_at names s (step_in s) more ≡ more names
pass_read names s more e f = ap (λ (o : Option StepForm). items_at names s o more) f ∙ cond_else (is_comment s) _ _ e

step_read : (names : List (List ℕ)) (s : Statement) (f : StepForm) (more : List (List ℕ) → List SheetItem) → step_in s ≡ Some f
    → items_at names s (step_in s) more ≡ item.Step (step_at (line_of s) names f) ∷ more (names ++ f.name ∷ [])
step_read names s f more e = ap (λ (o : Option StepForm). items_at names s o more) e

abbrev bare : List ℕ → Option (List ℕ) → List SheetItem → List PairLine → Sheet
bare theorem loc items pairs = record { line = 0; theorem = theorem; loc = loc; items = items; pairs = pairs }

abbrev bare_step : SheetStep → List Given → SheetItem
bare_step t places = item.Step (record { line = 0; hyp = t.hyp; name = t.name; places = places; reference = t.reference; formula = t.formula })

comment_same : (n : ℕ) (lines : List (List ℕ)) → is_comment_spellable lines ≡ true → comment_of (statement_at n (comment_piece lines)) ≡ item.Comment lines
comment_same n [] h = absurd (cc)
comment_same n (l ∷ ls) h = ap (λ t. item.Comment (l ∷ t)) (plain_bytes (suc n) ls)

items_read : (full done : List (List ℕ)) (n : ℕ) (items : List SheetItem) (rest : List Piece) → AreItemsAt full done items
    → ((m : ℕ) (names : List (List ℕ)) → items_from (numbered m rest) names ≡ [])
    → map unnumbered_item (items_from (numbered n (item_pieces full items ++ rest)) done) ≡ map unnumbered_item items
items_read full done n [] rest a k = ap (map unnumbered_item) (k n done)
items_read full done n (item.Comment lines ∷ items) rest a k =
    let s = statement_at n (comment_piece lines) in
    ap (map unnumbered_item) (note_read done s (items_from (numbered (suc n + length (comment_piece lines).more) (item_pieces full items ++ rest))) (comment-is n lines a.0).comment)
    ∙ cons_same _ _ _ _ (ap unnumbered_item (comment_same n lines a.0)) (items_read full done (suc n + length (comment_piece lines).more) items rest a.1 k)
items_read full done n (item.Step t ∷ items) rest a k =
    let s = statement_at n (step_piece full t) in
    ap (map unnumbered_item) (step_read done s (form_of full t) (items_from (numbered (suc n + 0) (item_pieces full items ++ rest))) (step-is full t n a.0.writable).form)
    ∙ cons_same _ _ _ _ (ap (bare_step t) a.0.read.given) (items_read full (done ++ t.name ∷ []) (suc n + 0) items rest a.1 k)

pairs_no_items : (ps : List PairLine) (m : ℕ) (names : List (List ℕ)) → list_all is_pair_spellable ps ≡ true → items_from (numbered m (pair_pieces ps)) names ≡ []
pairs_no_items [] m names h = refl
pairs_no_items (p ∷ ps) m names h =
    let is = pair-is m p.names (and_left _ _ (and_left _ _ h)) (true_not _ (and_right _ _ (and_left _ _ h))) in
    pass_read names (statement_at m (pair_piece p.names)) (items_from (numbered (suc m + 0) (pair_pieces ps))) is.plain is.form ∙ pairs_no_items ps (suc m + 0) names (and_right _ _ h)

tail_no_items : (proof : Option (List ℕ)) (ps : List PairLine) (m : ℕ) (names : List (List ℕ)) → list_all is_pair_spellable ps ≡ true
    → items_from (numbered m (proof_pieces proof ++ pair_pieces ps)) names ≡ []
tail_no_items None ps m names h = pairs_no_items ps m names h
tail_no_items (Some proof) ps m names h =
    let is = proof-is m proof in
    pass_read names (statement_at m (proof_piece proof)) (items_from (numbered (suc m + 0) (pair_pieces ps))) is.plain is.form ∙ pairs_no_items ps (suc m + 0) names h

-- ---- pairs

abbrev pairs_of : List Statement → List PairLine
pairs_of ss = filter_map pairs_at ss

no_pair : (s : Statement) (ss : List Statement) → is_distinct s ≡ false → pairs_of (s ∷ ss) ≡ pairs_of ss
no_pair s ss e = ap (λ (o : Option PairLine). cons_option o (pairs_of ss)) (cond_else (is_distinct s) _ _ e)

one_pair : (s : Statement) (ss : List Statement) → is_distinct s ≡ true → pairs_of (s ∷ ss) ≡ record { line = line_of s; names = symbols_of (tokens_in s) } ∷ pairs_of ss
one_pair s ss e = ap (λ (o : Option PairLine). cons_option o (pairs_of ss)) (cond_then (is_distinct s) _ _ e)

pairs_read : (n : ℕ) (ps : List PairLine) → list_all is_pair_spellable ps ≡ true → map unnumbered_pairs (pairs_of (numbered n (pair_pieces ps))) ≡ map unnumbered_pairs ps
pairs_read n [] h = refl
pairs_read n (p ∷ ps) h =
    let s = statement_at n (pair_piece p.names) in
    let is = pair-is n p.names (and_left _ _ (and_left _ _ h)) (true_not _ (and_right _ _ (and_left _ _ h))) in
    ap (map unnumbered_pairs) (one_pair s (numbered (suc n + 0) (pair_pieces ps)) is.distinct)
    ∙ cons_same _ _ _ _ (ap (λ (names : List (List ℕ)). unnumbered_pairs (record { line = n; names = names })) is.symbols) (pairs_read (suc n + 0) ps (and_right _ _ h))

tail_pairs : (n : ℕ) (proof : Option (List ℕ)) (ps : List PairLine) → list_all is_pair_spellable ps ≡ true
    → map unnumbered_pairs (pairs_of (numbered n (proof_pieces proof ++ pair_pieces ps))) ≡ map unnumbered_pairs ps
tail_pairs n None ps h = pairs_read n ps h
tail_pairs n (Some proof) ps h =
    ap (map unnumbered_pairs) (no_pair (statement_at n (proof_piece proof)) (numbered (suc n + 0) (pair_pieces ps)) (proof-is n proof).distinct)
    ∙ pairs_read (suc n + 0) ps h

items_pairs : (full done : List (List ℕ)) (n : ℕ) (items : List SheetItem) (rest : List Piece) (pairs : List PairLine) → AreItemsAt full done items
    → ((m : ℕ) → map unnumbered_pairs (pairs_of (numbered m rest)) ≡ pairs) → map unnumbered_pairs (pairs_of (numbered n (item_pieces full items ++ rest))) ≡ pairs
items_pairs full done n [] rest pairs a k = k n
items_pairs full done n (item.Comment lines ∷ items) rest pairs a k =
    ap (map unnumbered_pairs)
    (no_pair (statement_at n (comment_piece lines)) (numbered (suc n + length (comment_piece lines).more) (item_pieces full items ++ rest))
    (comment-is n lines a.0).distinct)
    ∙ items_pairs full done (suc n + length (comment_piece lines).more) items rest pairs a.1 k
items_pairs full done n (item.Step t ∷ items) rest pairs a k =
    ap (map unnumbered_pairs) (no_pair (statement_at n (step_piece full t)) (numbered (suc n + 0) (item_pieces full items ++ rest)) (step-is full t n a.0.writable).distinct)
    ∙ items_pairs full (done ++ t.name ∷ []) (suc n + 0) items rest pairs a.1 k

-- ---- the whole

module _ (s : Sheet) (proof : Option (List ℕ)) (r : IsReady s proof) where
  abbrev front : List Statement
  front = numbered 2 (front_pieces s proof)

  abbrev read : Sheet
  read = record { line = 1; theorem = s.theorem; loc = s.loc; items = items_from front []; pairs = pairs_of front }

  taken : before_footer (numbered 2 (body_pieces s proof)) ≡ front
  taken =
      ap (λ (ps : List Piece). before_footer (numbered 2 ps)) (front_body s proof)
      ∙ ap before_footer (numbered-append 2 (2 + length (lines_in (front_pieces s proof))) (front_pieces s proof) (footer_piece ∷ []) refl)
      ∙ front_taken 2 (2 + length (lines_in (front_pieces s proof))) (front_pieces s proof)
      (all_by-append IsNoFooter (item_pieces (step_names s) s.items) (proof_pieces proof ++ pair_pieces s.pairs) (items_no_footer (step_names s) [] s.items r.items)
      (all_by-append IsNoFooter (proof_pieces proof) (pair_pieces s.pairs) (proof_no_footer proof) (pairs_no_footer s.pairs r.pairs)))

  says : sheet_in (numbered 1 (pieces s proof)) ≡ Some read
  says =
      ap (λ (h : Option Header). sheet_with 1 h (before_footer (numbered 2 (body_pieces s proof)))) (header_is_ready)
      ∙ ap (λ (ss : List Statement). Some (record { line = 1; theorem = s.theorem; loc = s.loc; items = items_from ss []; pairs = pairs_of ss })) taken
    where
      header_is_ready : header_of (tokens_in (statement_at 1 (header_piece s.theorem s.loc))) ≡ Some (record { theorem = s.theorem; loc = s.loc })
      header_is_ready = ap header_of (tokens-spoken 1 (header_tokens s.theorem s.loc) (header-tokens s.theorem s.loc r.theorem r.loc)) ∙ header_of-tokens s.theorem s.loc r.theorem r.loc

  same : unnumbered read ≡ unnumbered s
  same =
      ap (λ (items : List SheetItem). bare s.theorem s.loc items (map unnumbered_pairs (pairs_of front)))
      (items_read (step_names s) [] 2 s.items (proof_pieces proof ++ pair_pieces s.pairs) r.items (λ m names. tail_no_items proof s.pairs m names r.pairs))
      ∙ ap (bare s.theorem s.loc (map unnumbered_item s.items))
      (items_pairs (step_names s) [] 2 s.items (proof_pieces proof ++ pair_pieces s.pairs) (map unnumbered_pairs s.pairs) r.items (λ m. tail_pairs m proof s.pairs r.pairs))

  pub reads_back : contains (step_names s) (codes "qed") ≡ true → ReadsAs (layout s proof) s
  reads_back q = record {
    read = read;
    reads = record { sound = layout_sound s proof r q; says = ap sheet_in (layout_statements s proof r) ∙ says };
    same = same;
  }

-- ---- sheets that can be spelled

clean_proof : (bytes : List ℕ) → (Contains bytes 10 → ⊥) → has_no 10 bytes ≡ true
clean_proof [] h = refl
clean_proof (b ∷ bs) h =
    elim (cases_Bool (eqb b 10)) [
      | inl e ↦ let first : Contains (b ∷ bs) 10 = (0, omega arith, same_number b 10 e) in absurd (h first)
      | inr e ↦ both_true _ _ (not_true _ e) (clean_proof bs (λ c. h (suc c.0, omega (arith, c.1), c.2)))
    ]

clean : (proof : Option (List ℕ)) → IsOneLine proof → IsClean proof
clean None h = tt
clean (Some bytes) h = clean_proof bytes h

pub ready : (s : Sheet) (proof : Option (List ℕ)) → IsSpellable s → IsOneLine proof → IsReady s proof
ready s proof h o = record {
  theorem = h.theorem;
  loc = h.loc;
  items = items-at (step_names s) [] 0 None None s.items refl refl refl h.names_differ h.qed_last h.qed_no_hyp h.each_step h.each_item;
  pairs = h.each_pair;
  clean = clean proof o;
}

pub laid_out_reads_back : LaidOutReadsBack
laid_out_reads_back s proof h o = reads_back s proof (ready s proof h o) (last_contains (step_names s) (codes "qed") h.qed_last)
