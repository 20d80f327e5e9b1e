-- The written text of a finished worksheet proves itself, where its sheet can be spelled.
use Rattle.std.specs.Prelude.{◌≡◌, ℕ, suc, Bool, true, false, not, ◌==◌, ◌+◌, List, [], ◌∷◌, ◌++◌, length, drop, find, Some, None, option_map, codes, refl}
use Rattle.std.specs.List.{AllByRecursion, list_all}
use Rattle.std.proofs.Common.{sym, ap, subst, ◌∙◌, cond, arith}
use Rattle.std.proofs.lemmas.Bool.{and_from, and_parts}
use Rattle.std.proofs.lemmas.Bool.Decides.{nat_tests}
use Rattle.mm_model.specs.Labels.{is_label}
use Rattle.mm_model.specs.Words.{is_white}
use Rattle.mm_model.specs.Names.{Name}
use Rattle.mm_model.specs.Book.{Database}
use Rattle.proof_model.specs.declared.code.Code.{Code}
use Rattle.proof_model.specs.declared.code.Step.{Step}
use Rattle.proof_model.specs.declared.code.What.{What}
use Rattle.proof_model.specs.declared.code.What.TheVariants as what
use Rattle.proof_model.specs.declared.theorem.Theorem.{Theorem}
use Rattle.proof_model.specs.Codes.{normal_code}
use Rattle.proof_model.specs.Machine.{Frames, Accepts, ended_fault, run_steps, start}
use Rattle.proof_model.specs.ProofCode.{is_listable, mark, steps_letters, step_letters, what_letters}
use Rattle.proof_model.specs.Proofs.{postorder}
use Rattle.proof_laws.proofs.NumberLaws.{spells_steps}
use Rattle.proof_laws.proofs.TextLaws.{IsInk}
use Rattle.proof_laws.proofs.WrittenLaw.{letters_ink}
use Rattle.sheet_text.specs.declared.sheet.Sheet.{Sheet}
use Rattle.sheet_text.specs.declared.sheet.SheetItem.{SheetItem}
use Rattle.sheet_text.specs.declared.sheet.SheetItem.TheVariants as item
use Rattle.sheet_text.specs.declared.sheet.PairLine.{PairLine}
use Rattle.sheet_text.specs.Layout.{layout, spaced, step_names}
use Rattle.sheet_text.specs.Reads.{ReadsAs}
use Rattle.sheet_text.specs.SheetStatements.{is_proof}
use Rattle.sheet_text.specs.Spellable.{IsSpellable, is_token, is_pair_spellable}
use Rattle.sheet_text.specs.TextFaults.{without_end, is_bad_distinct}
use Rattle.sheet_laws.proofs.KindLaws.{header_piece, header-tokens, proof_piece, footer_piece, step-is, comment-is, proof-is, proof_in}
use Rattle.sheet_laws.proofs.FormLaws.{more_header_tokens}
use Rattle.sheet_laws.proofs.LayoutLaws.{item_pieces, pair_pieces, IsReady, layout_statements, all_by-append, pieces}
use Rattle.sheet_laws.proofs.PlaceLaws.{AreItemsAt, last_contains}
use Rattle.sheet_laws.proofs.ReadBackLaws.{ready, reads_back}
use Rattle.sheet_laws.proofs.SplitLaws.{has_no, is_not, all_joined, label_token}
use Rattle.sheet_laws.proofs.SpokenLaws.{word-spoken}
use Rattle.sheet_laws.proofs.StatementLaws.{Piece, statement_at, numbered}
use Rattle.sheet_laws.proofs.WordLaws.{tokens_at, tokens_at-spaced}
use Rattle.sheet_laws.proofs.Tests.{all_more, all_append, not_empty}
use Rattle.solve_model.specs.Binding.{theorem_of}
use Rattle.written_model.specs.declared.options.Options.{Options}
use Rattle.written_model.specs.declared.options.ProofStyle.{ProofStyle}
use Rattle.written_model.specs.declared.options.ProofStyle.TheVariants as style
use Rattle.written_model.specs.WrittenSteps.{steps_in}
use Rattle.written_model.specs.Written.{Writing, frames_of, written_sheet, written_theorem, written_proof, written_text, proof_text}
use Rattle.written_model.specs.ProvesItself.{tokens_between, proof_tokens, IsProofCode, ProvesItself}
use Rattle.answer_laws.specs.WrittenReads.{WrittenReadsBack}
use Rattle.push_laws.specs.QedProof.{the_proof, ProofIsAccepted, CodeIsRead, the_code}
use Rattle.push_laws.specs.WrittenProof.{SpellableProofIsAccepted, WrittenProofIsAccepted, UnfinishedHasNoProof}
use Rattle.push_laws.proofs.Books.{is_book}
use Rattle.push_laws.proofs.CodeLaw.{labels_named, code_is_read}
use Rattle.push_laws.proofs.QedLaw.{accepted}
use Rattle.push_laws.proofs.ReadTheorem.{theorem_same}

-- ---- the proof statement of a layout

snoc_end : (xs : List Name) → without_end (xs ++ codes "$." ∷ []) ≡ xs
snoc_end [] = refl
snoc_end (x ∷ []) = refl
snoc_end (x ∷ y ∷ xs) = ap (λ ts. x ∷ ts) (snoc_end (y ∷ xs))

abbrev IsNoProof : Piece → Type 0
IsNoProof p = (n : ℕ) → is_proof (statement_at n p) ≡ false

items_no_proof : (full done : List Name) (items : List SheetItem) → AreItemsAt full done items → AllByRecursion IsNoProof (item_pieces full items)
items_no_proof full done [] a = tt
items_no_proof full done (item.Comment lines ∷ items) a = (λ n. (comment-is n lines a.0).proof, items_no_proof full done items a.1)
items_no_proof full done (item.Step t ∷ items) a = (λ n. (step-is full t n a.0.writable).proof, items_no_proof full (done ++ t.name ∷ []) items a.1)

module _ (bytes : List ℕ) (rest : List Piece) where
  proof_found : (n : ℕ) (ps : List Piece) → AllByRecursion IsNoProof ps → (k : ℕ) × (find is_proof (numbered n (ps ++ proof_piece bytes ∷ rest)) ≡ Some (statement_at k (proof_piece bytes)))
  proof_found n [] a = (n, ap (λ (b : Bool). cond b (Some (statement_at n (proof_piece bytes))) (find is_proof (numbered (suc n + length (proof_piece bytes).more) rest))) (proof-is n bytes).proof)
  proof_found n (p ∷ ps) a =
      let r = proof_found (suc n + length p.more) ps a.1 in
      (r.0, ap (λ (b : Bool). cond b (Some (statement_at n p)) (find is_proof (numbered (suc n + length p.more) (ps ++ proof_piece bytes ∷ rest)))) (a.0 n) ∙ r.1)

module _ (s : Sheet) (bytes : List ℕ) (sp : IsSpellable s) (clean : has_no 10 bytes ≡ true) where
  is_ready : IsReady s (Some bytes)
  is_ready = let r = ready s None sp tt in record { theorem = r.theorem; loc = r.loc; items = r.items; pairs = r.pairs; clean = clean }

  header_no_proof : IsNoProof (header_piece s.theorem s.loc)
  header_no_proof n = word-spoken (codes "$=") n (codes "$(") (more_header_tokens s.theorem s.loc) (header-tokens s.theorem s.loc is_ready.theorem is_ready.loc)

  tokens_found : proof_tokens (layout s (Some bytes)) ≡ Some (tokens_at 3 bytes)
  tokens_found =
      let r = proof_found bytes (pair_pieces s.pairs ++ footer_piece ∷ []) 1 (header_piece s.theorem s.loc ∷ item_pieces (step_names s) s.items)
      (header_no_proof, items_no_proof (step_names s) [] s.items is_ready.items) in
      ap (λ ss. option_map tokens_between (find is_proof ss)) (layout_statements s (Some bytes) is_ready)
      ∙ ap (option_map tokens_between) r.1 ∙ ap (λ ts. Some (without_end (drop 1 ts))) (proof_in r.0 bytes) ∙ ap (λ ts. Some ts) (snoc_end (tokens_at 3 bytes))

  layout_read : ReadsAs (layout s (Some bytes)) s
  layout_read = reads_back s (Some bytes) is_ready (last_contains (step_names s) (codes "qed") sp.qed_last)

-- ---- a layout without a proof

pairs_no_proof : (ps : List PairLine) → list_all is_pair_spellable ps ≡ true → AllByRecursion IsNoProof (pair_pieces ps)
pairs_no_proof [] h = tt
pairs_no_proof (p ∷ ps) h =
    let both = and_parts (is_pair_spellable p) (list_all is_pair_spellable ps) h in
    let names = and_parts (list_all is_token p.names) (not (is_bad_distinct p.names)) both.0 in
    (λ n. word-spoken (codes "$=") n (codes "$d") p.names names.0, pairs_no_proof ps both.1)

no_proof_found : (n : ℕ) (ps : List Piece) → AllByRecursion IsNoProof ps → find is_proof (numbered n ps) ≡ None
no_proof_found n [] a = refl
no_proof_found n (p ∷ ps) a = ap (λ (b : Bool). cond b (Some (statement_at n p)) (find is_proof (numbered (suc n + length p.more) ps))) (a.0 n) ∙ no_proof_found (suc n + length p.more) ps a.1

layout_no_proof : (s : Sheet) → IsSpellable s → proof_tokens (layout s None) ≡ None
layout_no_proof s sp =
    let r = ready s None sp tt in
    let header : IsNoProof (header_piece s.theorem s.loc) = λ n. word-spoken (codes "$=") n (codes "$(") (more_header_tokens s.theorem s.loc) (header-tokens s.theorem s.loc r.theorem r.loc) in
    let tail = all_by-append IsNoProof (pair_pieces s.pairs) (footer_piece ∷ []) (pairs_no_proof s.pairs r.pairs) (λ n. refl, tt) in
    ap (λ ss. option_map tokens_between (find is_proof ss)) (layout_statements s None r)
    ∙ ap (option_map tokens_between)
    (no_proof_found 1 (pieces s None)
    (header, all_by-append IsNoProof (item_pieces (step_names s) s.items) (pair_pieces s.pairs ++ footer_piece ∷ []) (items_no_proof (step_names s) [] s.items r.items) tail))

-- ---- tokens are one line

white_apart : (b : ℕ) → not (is_white b) ≡ true → is_not 10 b ≡ true
white_apart b h = grind (arith, nat_tests)

token_clean : (t : Name) → is_token t ≡ true → has_no 10 t ≡ true
token_clean t h = all_more (λ b. not (is_white b)) (is_not 10) white_apart t (and_parts (not (length t == 0)) (list_all (λ b. not (is_white b)) t) h).1

tokens_clean : (ts : List Name) → list_all is_token ts ≡ true → has_no 10 (spaced ts) ≡ true
tokens_clean ts h = all_joined (is_not 10) 32 refl ts (all_more is_token (has_no 10) token_clean ts h)

pub labels_tokens : (ns : List Name) → AllByRecursion (λ n. is_label n ≡ true) ns → list_all is_token ns ≡ true
labels_tokens [] a = refl
labels_tokens (n ∷ ns) a = and_from (is_token n) (list_all is_token ns) (label_token n a.0) (labels_tokens ns a.1)

pub listable_token : (t : Name) → is_listable t ≡ true → is_token t ≡ true
listable_token t h = (and_parts (is_token t) _ h).0

-- ---- letters are a token

abbrev IsThere : List ℕ → Type 0
IsThere bs = (length bs == 0) ≡ false

there_left : (xs ys : List ℕ) → IsThere xs → IsThere (xs ++ ys)
there_left [] ys h = absurd cc
there_left (x ∷ xs) ys h = not_empty x (xs ++ ys)

there_last : (xs : List ℕ) (y : ℕ) → IsThere (xs ++ y ∷ [])
there_last [] y = refl
there_last (x ∷ xs) y = not_empty x (xs ++ y ∷ [])

what_there : (m n : ℕ) (w : What) → IsThere (what_letters m n w)
what_there m n (what.Hyp k) = there_last _ _
what_there m n (what.Listed k) = there_last _ _
what_there m n (what.Again k) = there_last _ _
what_there m n what.Unknown = refl

steps_there : (m n : ℕ) (s : Step) (ss : List Step) → IsThere (steps_letters m n (s ∷ ss))
steps_there m n s ss = there_left (step_letters m n s) (steps_letters m n ss) (there_left (what_letters m n s.what) (mark s.marked) (what_there m n s.what))

inked : (bs : List ℕ) → AllByRecursion IsInk bs → list_all (λ b. not (is_white b)) bs ≡ true
inked [] a = refl
inked (b ∷ bs) a = and_from (not (is_white b)) (list_all (λ c. not (is_white c)) bs) (ap not a.0) (inked bs a.1)

-- an accepted code has steps
accepted_letters : (frames : Frames) (thm : Theorem) (m : ℕ) (code : Code) → Accepts frames thm code → IsThere (steps_letters m (length code.labels) code.steps)
accepted_letters frames thm m code a = go code.steps refl
  where
    go : (ss : List Step) → code.steps ≡ ss → IsThere (steps_letters m (length code.labels) ss)
    go [] e =
        let none : ended_fault thm 0 (run_steps frames thm code.labels 0 [] start) ≡ None =
        sym (ap (λ ss. ended_fault thm (length ss) (run_steps frames thm code.labels 0 ss start)) e) ∙ a in
        absurd cc
    go (s ∷ ss) e = steps_there m (length code.labels) s ss

pub letters_token : (frames : Frames) (thm : Theorem) (m : ℕ) (code : Code) → Accepts frames thm code → is_token (steps_letters m (length code.labels) code.steps) ≡ true
letters_token frames thm m code a =
    let letters = steps_letters m (length code.labels) code.steps in
    and_from (not (length letters == 0)) (list_all (λ b. not (is_white b)) letters) (ap not (accepted_letters frames thm m code a))
    (inked letters (letters_ink m (length code.labels) letters code.steps (spells_steps m (length code.labels) code.steps)))

-- ---- the text proves itself

module _ (db : Database) (options : Options) (w : Writing) where
  abbrev ws : Sheet
  ws = written_sheet db options w

  abbrev thm : Theorem
  thm = written_theorem db options w

  -- what the tokens of a proof of this style are
  record IsProofText (st : ProofStyle) : Type 0 where
    tokens : List Name
    code : Code
    are_tokens : list_all is_token tokens ≡ true
    is_code : IsProofCode st thm.mandatory tokens code
    accepts : Accepts (frames_of db) thm code
    is_text : proof_text db st thm (steps_in w.items) ≡ spaced tokens

  proof_is_text : AllByRecursion (λ l. is_label l ≡ true) (postorder (the_proof db options w)) → ProofIsAccepted db options w → CodeIsRead db options w → (st : ProofStyle) → IsProofText st
  proof_is_text named acc read style.Normal = record {
    tokens = postorder (the_proof db options w);
    code = normal_code thm.mandatory (postorder (the_proof db options w));
    are_tokens = labels_tokens (postorder (the_proof db options w)) named;
    is_code = refl;
    accepts = acc.normal;
    is_text = refl;
  }
  proof_is_text named acc read style.Compressed =
      let code = the_code db options w in
      let letters = steps_letters (length thm.mandatory) (length code.labels) code.steps in
      record {
        tokens = codes "(" ∷ code.labels ++ codes ")" ∷ letters ∷ [];
        code = code;
        are_tokens = all_append is_token code.labels (codes ")" ∷ letters ∷ []) (all_more is_listable is_token listable_token code.labels read.writable.labels)
            (and_from (is_token letters) true (letters_token (frames_of db) thm (length thm.mandatory) code acc.compressed) refl);
        is_code = (read.sound, read.spells);
        accepts = acc.compressed;
        is_text = refl;
      }

  proves : IsSpellable ws → IsProofText options.style → w.finished ≡ true → ProvesItself db options (written_text db options w)
  proves sp p finished =
      let bytes = spaced p.tokens in
      let clean = tokens_clean p.tokens p.are_tokens in
      let r = layout_read ws bytes sp clean in
      let same : theorem_of db r.read ≡ thm = theorem_same db r.read ws r.same in
      let proof : written_proof db options w ≡ Some bytes = ap (λ (b : Bool). cond b (Some (proof_text db options.style thm (steps_in w.items))) None) finished ∙ ap (λ t. Some t) p.is_text in
      let there : ProvesItself db options (layout ws (Some bytes)) = record {
        sheet = r.read;
        reads = r.reads;
        tokens = p.tokens;
        has_proof = tokens_found ws bytes sp clean ∙ ap (λ ts. Some ts) (tokens_at-spaced 3 p.tokens p.are_tokens);
        code = p.code;
        is_code = subst (λ (t : Theorem). IsProofCode options.style t.mandatory p.tokens p.code) (sym same) p.is_code;
        accepted = subst (λ (t : Theorem). Accepts (frames_of db) t p.code) (sym same) p.accepts;
      } in
      subst (λ o. ProvesItself db options (layout ws o)) (sym proof) there

spellable_proof_is_accepted : (db : Database) (text : List ℕ) (options : Options) (w : Writing) → SpellableProofIsAccepted db text options w
spellable_proof_is_accepted db text options w opened writes spellable finished =
    let book = is_book options.kinds opened.text db opened.is_database opened.sound in
    proves db options w spellable
    (proof_is_text db options w (labels_named db book text options w writes finished) (accepted db book text options w writes finished)
    (code_is_read db book text options w writes finished) options.style)
    finished

module _ (reads_back : (db : Database) (text : List ℕ) (options : Options) (w : Writing) → WrittenReadsBack db text options w) where
  pub written_proof_is_accepted : (db : Database) (text : List ℕ) (options : Options) (w : Writing) → WrittenProofIsAccepted db text options w
  written_proof_is_accepted db text options w opened writes late finished =
      spellable_proof_is_accepted db text options w opened writes (reads_back db text options w opened writes late).spellable finished

  pub written_without_proof : (db : Database) (text : List ℕ) (options : Options) (w : Writing) → UnfinishedHasNoProof db text options w
  written_without_proof db text options w opened writes late unfinished =
      ap (λ (b : Bool). proof_tokens (layout (written_sheet db options w) (cond b (Some (proof_text db options.style (written_theorem db options w) (steps_in w.items))) None))) unfinished
      ∙ layout_no_proof (written_sheet db options w) (reads_back db text options w opened writes late).spellable
