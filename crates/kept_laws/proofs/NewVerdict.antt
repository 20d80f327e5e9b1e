-- What is said of the proof of a new theorem in the text with it.
use Rattle.std.proofs.Common.{◌≡◌, ◌≤◌, ◌<◌, ◌+◌, ◌==◌, ℕ, suc, Bool, true, false, cond, ◌||◌, ◌&&◌, List, [], ◌∷◌, ◌++◌, length, take, drop, map, flat_map, Option, Some, None, option_map, refl, sym, ap, ◌∙◌, codes, arith, subst, inl, inr, Contains, length-append}
use Rattle.std.specs.Prelude.{nat_lt, option_and_then, filter, reverse, MatchOption}
use Rattle.std.specs.List.{AllByRecursion, list_any, list_all}
use Rattle.std.specs.Str.{bytes_eq}
use Rattle.std.proofs.lemmas.Bool.{cases_Bool, or_cases, and_parts, both_ways}
use Rattle.std.proofs.lemmas.Bool.Decides.{nat_tests}
use Rattle.std.proofs.lemmas.List.{length-map}
use Rattle.std.proofs.lemmas.List.Folds.{list_any-append}
use Rattle.std.proofs.lemmas.Slice.Eq.{bytes_eq-Decides}
use Rattle.call_answers.specs.Verified.{accepted, verdict_of, bad_code, IsProofVerdict, IsVerdict}
use Rattle.mm_base.specs.declared.symbols.Label.{Label}
use Rattle.mm_base.specs.declared.symbols.Pair.{Pair}
use Rattle.mm_model.specs.declared.frames.Frame.{Frame}
use Rattle.mm_model.specs.declared.frames.Hyp.{Hyp}
use Rattle.mm_model.specs.Faults.{Fault}
use Rattle.mm_model.specs.Names.{Name, label, label_named, contains}
use Rattle.mm_model.specs.Words.{words}
use Rattle.mm_model.specs.Statements.{Statement, statements, database_fault, has_keyword, labels, constants, variables, typed}
use Rattle.mm_model.specs.Frames.{symbols, symbol_in, below, active_at, is_assertion, frame_at, frame_of}
use Rattle.model_laws.proofs.KnownAt.{constant_known, variable_known}
use Rattle.proof_model.specs.declared.code.Code.{Code}
use Rattle.proof_model.specs.declared.theorem.Theorem.{Theorem}
use Rattle.proof_model.specs.DatabaseProofs.{frames_of_database, theorem_of_frame, proof_words, proof_of, proof_code_fault, IsCodeOf}
use Rattle.proof_model.specs.Machine.{Frames, Accepts, proof_fault}
use Rattle.sheet_laws.proofs.PlaceLaws.{apart}
use Rattle.solve_model.specs.Binding.{mandatory_of}
use Rattle.install_model.specs.declared.install.NewTheorem.{NewTheorem}
use Rattle.install_model.specs.Installed.{installed}
use Rattle.install_model.specs.Moved.{pair_statement, hyp_statement, theorem_statement, block_statements, new_labels, moved, moved_frame}
use Rattle.install_laws.specs.InstalledStatements.{names, tokens_of, HasNoDollar, IsPlain}
use Rattle.install_laws.specs.TwoDatabases.{unplaced}
use Rattle.install_laws.proofs.ActiveLaw.{counted}
use Rattle.install_laws.proofs.ActiveNames.{has_kw, has_kw_by, hyp_of, hyp_kw, active_of}
use Rattle.install_laws.proofs.MorePairsLaw.{more_pairs}
use Rattle.install_laws.proofs.MovedLists.{moved_low, moved_high}
use Rattle.install_laws.proofs.NamesLaw.{label_names, keyword_is, keyword_by, plain_is, theorem_labels}
use Rattle.install_laws.proofs.ProofsLaw.{before_by}
use Rattle.install_laws.proofs.WordLaws.{plain_dollar}
use Rattle.installed_laws.specs.CanBePutIn.{CanBePutIn, is_meant, is_formula}
use Rattle.kept_laws.proofs.NewActive.{syms, e, front, at, pairs, hyps, new_hyps, new_hyps_by, frame_formula, frame_hyps}
use Rattle.kept_laws.proofs.NewLabels.{old, new, ts, opening, around_theorem, front_none, not_old, old_none, frames_but_one}
use Rattle.kept_laws.proofs.NewMandatory.{mandatory_same}
use Rattle.kept_laws.proofs.NewStatement.{theorem_symbols, hyp_is, proof_words_are}
use Rattle.kept_laws.proofs.Stands.{count, label_is, statement, there, frame_is, proof_is, named_frame}
use Rattle.kept_laws.proofs.Verdicts.{named, Says}

some_last : (n : Name) (ns : List Name) → contains (ns ++ n ∷ []) n ≡ true
some_last n ns = list_any-append (bytes_eq n) ns (n ∷ []) ∙ by (contains ns n) (bytes_eq n n) ((bytes_eq-Decides n n).1 refl)
  where
    by : (x y : Bool) → y ≡ true → (x || (y || false)) ≡ true
    by true y e = refl
    by false y e = ap (λ z. z || false) e

self_alone : (n : Name) → contains (n ∷ []) n ≡ true
self_alone n = some_last n []

module _ (text : List ℕ) (place : ℕ) (t : NewTheorem) (can : CanBePutIn text place t) where
  abbrev sy : List Name
  sy = syms text place t can

  abbrev b : List Statement
  b = below (statements text) place

  -- ---- its symbols have numbers

  meant_known : (n : Name) → is_meant b n ≡ true → contains sy n ≡ true
  meant_known n h = elim (or_cases (contains (constants b) n) (contains (variables b) n && contains (typed b) n) h) [
    | inl c ↦ constant_known (statements text) place n c
    | inr v ↦ variable_known (statements text) place n (and_parts (contains (variables b) n) (contains (typed b) n) v).0
  ]

  all_meant : (ns : List Name) → list_all (is_meant b) ns ≡ true → AllByRecursion (λ n. contains sy n ≡ true) ns
  all_meant [] h = tt
  all_meant (n ∷ ns) h = let two = and_parts (is_meant b n) (list_all (is_meant b) ns) h in (meant_known n two.0, all_meant ns two.1)

  pub formula_known : (ns : List Name) → is_formula b ns ≡ true → AllByRecursion (λ n. contains sy n ≡ true) ns
  formula_known [] h = tt
  formula_known (c ∷ ns) h = let two = and_parts (contains (constants b) c) (list_all (is_meant b) ns) h in (constant_known (statements text) place c two.0, all_meant ns two.1)

  -- ---- its statement

  fresh : contains (labels (old text place t can)) t.name ≡ false
  fresh = not_old text place t can t.name (some_last t.name (map (λ (h : Name × List Name). h.0) t.hyps))

  pub first : contains (flat_map label_names (front text place t can)) t.name ≡ false
  first = front_none text place t can t.hyps can.plain.hyps t.name fresh
      (apart (map (λ (h : Name × List Name). h.0) t.hyps) (t.name ∷ []) t.name can.labels_differ (self_alone t.name))

  abbrev rest : List (List Name)
  rest = (codes "$}" ∷ []) ∷ drop place (ts text place t can)

  pub are : tokens_of (new text place t can) ≡ front text place t can ++ theorem_statement t ∷ rest
  are = around_theorem text place t can

  pub own : label_names (theorem_statement t) ≡ t.name ∷ []
  own = theorem_labels t can.plain

  abbrev w : Statement
  w = statement (new text place t can) (front text place t can) (theorem_statement t) rest t.name are own first

  w_is : names w ≡ theorem_statement t
  w_is = (there (new text place t can) (front text place t can) (theorem_statement t) rest t.name are own first).2

  abbrev l : Label
  l = label (count (new text place t can) (front text place t can) (theorem_statement t) rest t.name are own first)

  abbrev f : Frame
  f = frame_at (new text place t can) l (at text place t can) w

  asserts : is_assertion w ≡ true
  asserts = keyword_by (codes "$a" ∷ codes "$p" ∷ []) w ∙ ap (keyword_is (codes "$a" ∷ codes "$p" ∷ [])) w_is
      ∙ by t.name (t.formula ++ codes "$=" ∷ names (words t.proof) ++ codes "$." ∷ []) (plain_dollar t.name can.plain.name)
    where
      by : (n : Name) (ns : List Name) → HasNoDollar n → keyword_is (codes "$a" ∷ codes "$p" ∷ []) (n ∷ codes "$p" ∷ ns) ≡ true
      by n ns d = rw (plain_is n d) refl

  proves : has_keyword (codes "$p") w ≡ true
  proves = has_kw_by (codes "$p") w ∙ ap (has_kw (codes "$p")) w_is
      ∙ by t.name (t.formula ++ codes "$=" ∷ names (words t.proof) ++ codes "$." ∷ []) (plain_dollar t.name can.plain.name)
    where
      by : (n : Name) (ns : List Name) → HasNoDollar n → has_kw (codes "$p") (n ∷ codes "$p" ∷ ns) ≡ true
      by n ns d = rw (plain_is n d) refl

  its_label : label_named (labels (new text place t can)) t.name ≡ Some l
  its_label = label_is (new text place t can) (front text place t can) (theorem_statement t) rest t.name are own first

  its_frame : frame_of (new text place t can) l ≡ Some f
  its_frame = frame_is (new text place t can) (front text place t can) (theorem_statement t) rest t.name are own first ∙ ap (λ c. cond c (Some f) None) asserts

  its_proof : proof_of (new text place t can) l ≡ Some (names (words t.proof))
  its_proof =
      proof_is (new text place t can) (front text place t can) (theorem_statement t) rest t.name are own first ∙ ap (λ c. cond c (Some (proof_words w)) None) proves
      ∙ ap (λ ws. Some ws) (proof_words_are t can.plain w w_is)

  frame_by_name : frames_of_database (new text place t can) t.name ≡ Some f
  frame_by_name = named_frame (new text place t can) (front text place t can) (theorem_statement t) rest t.name are own first ∙ ap (λ c. cond c (Some f) None) asserts

  -- ---- what it has to prove

  abbrev pub T : Theorem
  T = theorem_of_frame (new text place t can) f

  pub formula_is : T.formula ≡ map (symbol_in sy) t.formula
  formula_is = frame_formula text place t can l w w_is ∙ ap (map (symbol_in sy)) (theorem_symbols t can.plain)

  abbrev new_hyp : Name × List Name → Hyp
  new_hyp h = record { name = h.0; floating = false; formula = map (symbol_in sy) h.1 }

  pub hyps_are : T.hyps ≡ (active_at (statements text) place).hyps ++ map new_hyp t.hyps
  hyps_are = new_hyps text place t can ∙ ap (λ hs. (active_at (statements text) place).hyps ++ hs) (each t.hyps can.plain.hyps)
    where
      each : (hs : List (Name × List Name)) → AllByRecursion (λ (h : Name × List Name). IsPlain h.0 × AllByRecursion IsPlain h.1) hs → map (λ h. hyp_of sy (hyp_statement h)) hs ≡ map new_hyp hs
      each [] a = refl
      each (h ∷ hs) a = ap (λ x. x ∷ map (λ g. hyp_of sy (hyp_statement g)) hs) (hyp_is sy h a.0) ∙ ap (λ xs. new_hyp h ∷ xs) (each hs a.1)

  pub mandatory_is : database_fault text ≡ None → T.mandatory ≡ mandatory_of (map (symbol_in sy) t.formula) T.hyps
  mandatory_is sound =
      ap (map (λ (h : Hyp). h.name)) (frame_hyps text place t can l w w_is ∙ mandatory_same text place t can sound)
      ∙ ap (λ g. mandatory_of g (map (hyp_of sy) (reverse (filter (keyword_is hyp_kw) (active_of (e text place t can)))))) (ap (map (symbol_in sy)) (theorem_symbols t can.plain))
      ∙ ap (mandatory_of (map (symbol_in sy) t.formula)) (sym (new_hyps_by text place t can))

  -- ---- the assertions before it

  abbrev m : ℕ
  m = length (block_statements t)

  front_length : length (front text place t can) ≡ place + (1 + length t.pairs) + length t.hyps
  front_length =
      let a = counted text place t can.within can.plain in
      let c = length-append (take place (ts text place t can)) ((codes "${" ∷ []) ∷ map pair_statement t.pairs) in
      let d = length-append (opening text place t can) (map hyp_statement t.hyps) in
      let g = length-map t.pairs pair_statement in
      let i = length-map t.hyps hyp_statement in
      omega (arith, a, c, d, g, i)

  block_length : m ≡ (1 + length t.pairs) + length t.hyps + 2
  block_length =
      let c = length-append ((codes "${" ∷ []) ∷ map pair_statement t.pairs) (map hyp_statement t.hyps) in
      let d = length-append (((codes "${" ∷ []) ∷ map pair_statement t.pairs) ++ map hyp_statement t.hyps) (theorem_statement t ∷ (codes "$}" ∷ []) ∷ []) in
      let g = length-map t.pairs pair_statement in
      let i = length-map t.hyps hyp_statement in
      omega (arith, c, d, g, i)

  order : (k : ℕ) → nat_lt (moved place m k) (at text place t can) ≡ nat_lt k place
  order k = elim (cases_Bool (nat_lt k place)) [
    | inl e ↦
        let low : k < place = grind (arith, nat_tests, e) in
        let less : k < at text place t can = omega (arith, low, front_length) in
        let yes : nat_lt k (at text place t can) ≡ true = grind (arith, nat_tests, less) in
        ap (λ n. nat_lt n (at text place t can)) (moved_low place m k low) ∙ yes ∙ sym e
    | inr e ↦
        let high : place ≤ k = grind (arith, nat_tests, e) in
        let more : at text place t can ≤ k + m = omega (arith, high, front_length, block_length) in
        let not_so : nat_lt (k + m) (at text place t can) ≡ false = grind (arith, nat_tests, more) in
        ap (λ n. nat_lt n (at text place t can)) (moved_high place m k high) ∙ not_so ∙ sym e
  ]

  itself : nat_lt (at text place t can) (at text place t can) ≡ false
  itself = grind (arith, nat_tests)

  before_moved : (o : Option Frame) → before_by place o ≡ before_by (at text place t can) (option_map (moved_frame (statements text) place t) o)
  before_moved None = refl
  before_moved (Some g) = ap (λ c. cond c (Some (unplaced g)) None) (sym (order g.at))

  same_before : (name : Name) → before_by place (frames_of_database (statements text) name) ≡ before_by (at text place t can) (frames_of_database (new text place t can) name)
  same_before name = elim (cases_Bool (bytes_eq name t.name)) [
    | inl e ↦
        let is : name ≡ t.name = (bytes_eq-Decides name t.name).0 e in
        ap (λ n. before_by place (frames_of_database (statements text) n)) is ∙ ap (before_by place) (old_none text place t can t.name fresh)
        ∙ sym (ap (λ n. before_by (at text place t can) (frames_of_database (new text place t can) n)) is ∙ ap (before_by (at text place t can)) frame_by_name
        ∙ ap (λ c. cond c (Some (unplaced f)) None) itself)
    | inr e ↦ before_moved (frames_of_database (statements text) name) ∙ ap (before_by (at text place t can)) (sym (frames_but_one text place t can name e))
  ]

  -- ---- the verdict

  module _ (here : Frames) (s : Theorem)
      (same : (n : Name) → here n ≡ frames_of_database (statements text) n)
      (at_same : s.at ≡ place)
      (formula_same : s.formula ≡ T.formula)
      (hyps_same : s.hyps ≡ T.hyps)
      (mandatory_eq : s.mandatory ≡ T.mandatory)
      (pairs_more : (p : Pair) → Contains s.pairs p → Contains T.pairs p) where
    accepts_new : (code : Code) → Accepts here s code → Accepts (frames_of_database (new text place t can)) T code
    accepts_new code accepts =
        more_pairs here (frames_of_database (new text place t can)) s T code
        (record {
          formula = formula_same;
          hyps = hyps_same;
          mandatory = mandatory_eq;
          labels = λ name is. inr (ap (λ k. before_by k (here name)) at_same ∙ ap (before_by place) (same name) ∙ same_before name);
        }) pairs_more accepts

    pub verdict : (code : Code) → proof_code_fault s.mandatory (names (words t.proof)) ≡ None → IsCodeOf s.mandatory (names (words t.proof)) code → Accepts here s code
        → IsVerdict (installed text place t) t.name accepted
    verdict code none is accepts =
        subst (λ o. Says (frames_of_database (new text place t can)) (option_and_then (λ k. named (theorem_of_frame (new text place t can)) (frame_of (new text place t can) k) (proof_of (new text place t can) k)) o))
        (sym its_label)
        (subst (λ o. Says (frames_of_database (new text place t can)) (named (theorem_of_frame (new text place t can)) o (proof_of (new text place t can) l))) (sym its_frame)
        (subst (λ o. Says (frames_of_database (new text place t can)) (named (theorem_of_frame (new text place t can)) (Some f) o)) (sym its_proof) said))
      where
        said : IsProofVerdict (frames_of_database (new text place t can)) T (names (words t.proof)) accepted
        said = subst (λ o. MatchOption o ((c : Code) × IsCodeOf T.mandatory (names (words t.proof)) c × (accepted ≡ verdict_of (proof_fault (frames_of_database (new text place t can)) T c))) (λ g. accepted ≡ bad_code g))
            (sym (ap (λ ms. proof_code_fault ms (names (words t.proof))) (sym mandatory_eq) ∙ none))
            (code, subst (λ ms. IsCodeOf ms (names (words t.proof)) code) mandatory_eq is, sym (ap verdict_of (accepts_new code accepts)))
