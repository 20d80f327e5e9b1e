-- The new theorem of a finished worksheet is accepted in the text with it.
use Rattle.std.proofs.Common.{◌≡◌, ◌<◌, ℕ, Bool, true, false, not, cond, ◌&&◌, ◌++◌, List, [], ◌∷◌, length, map, drop, Option, Some, None, option_map, refl, sym, ap, ◌∙◌, subst, inl, inr, Contains, arith}
use Rattle.std.specs.Prelude.{is_some, filter, filter_map, flat_map, unwrap_or, position, nat_lt, option_and_then}
use Rattle.std.specs.List.{AllByRecursion, list_all, last_or, cons_option, position_or_len}
use Rattle.std.specs.Option.{option_map_or}
use Rattle.std.specs.Str.{bytes_eq}
use Rattle.std.proofs.lemmas.Bool.{and_parts, and_from}
use Rattle.std.proofs.lemmas.Bool.Decides.{nat_tests}
use Rattle.call_answers.specs.Verified.{accepted, IsVerdict}
use Rattle.mm_base.specs.declared.symbols.Label.{Label}
use Rattle.mm_base.specs.declared.symbols.Pair.{Pair}
use Rattle.mm_base.specs.declared.symbols.Sym.{Sym}
use Rattle.mm_model.specs.declared.frames.Frame.{Frame}
use Rattle.mm_model.specs.declared.frames.Hyp.{Hyp}
use Rattle.mm_model.specs.Names.{Name, sym as sym_numbered, symbol_named, label_named, contains}
use Rattle.mm_model.specs.Words.{words}
use Rattle.mm_model.specs.Statements.{statements, database_fault, labels, variables}
use Rattle.mm_model.specs.Frames.{symbols, symbol_in, below, active_at, frame_of}
use Rattle.mm_model.specs.Productions.{essentials}
use Rattle.mm_model.specs.Book.{Database, IsDatabaseOf, symbol_of, symbol_name}
use Rattle.model_laws.proofs.Listed.{first_within}
use Rattle.model_laws.proofs.KnownAt.{variable_known}
use Rattle.std.proofs.lemmas.List.Elements.{Contains-append_cases}
use Rattle.sheet_text.specs.declared.sheet.PairLine.{PairLine}
use Rattle.solve_model.specs.PairSets.{ordered}
use Rattle.solve_laws.proofs.PairSetLaws.{holds_same}
use Rattle.push_laws.proofs.Lists.{first, later, nothing, parted, all_of, map_contains}
use Rattle.install_laws.specs.InstalledStatements.{names, IsPlain}
use Rattle.kept_laws.proofs.NewMandatory.{variable_is_symbol, variables_same}
use Rattle.kept_laws.proofs.NewPairs.{pair_is_active}
use Rattle.proof_model.specs.declared.theorem.Theorem.{Theorem}
use Rattle.proof_model.specs.DatabaseProofs.{frames_of_database, proof_code_fault, IsCodeOf}
use Rattle.sheet_text.specs.declared.sheet.Sheet.{Sheet}
use Rattle.sheet_laws.proofs.SpokenLaws.{last_or-append}
use Rattle.sheet_laws.proofs.WordLaws.{tokens_at-spaced}
use Rattle.solve_model.specs.Binding.{existing, place_of, given_hyps, symbols_from, mandatory_of, two_of}
use Rattle.written_model.specs.declared.options.Options.{Options}
use Rattle.written_model.specs.WrittenSteps.{WrittenStep, steps_in}
use Rattle.written_model.specs.Written.{Writing, Writes, frames_of, written_theorem, written_step, written_pair, written_pairs, formula_tokens, proof_text}
use Rattle.install_model.specs.declared.install.NewTheorem.{NewTheorem}
use Rattle.install_model.specs.Installed.{installed, new_theorem, named_pair, named_hyp, own_hyps, outer_hyps}
use Rattle.installed_laws.specs.CanBePutIn.{CanBePutIn, is_formula, is_pair}
use Rattle.push_laws.proofs.Books.{is_book}
use Rattle.push_laws.proofs.CodeLaw.{labels_named, code_is_read}
use Rattle.push_laws.proofs.Facts.{IsBook}
use Rattle.push_laws.proofs.QedLaw.{qed_is, accepted as qed_accepted, formula_is as qed_formula_is}
use Rattle.push_laws.proofs.StepLaw.{at_same, hyps_same}
use Rattle.kept_laws.proofs.NewVerdict.{T, formula_known, formula_is, hyps_are, mandatory_is, verdict}
use Rattle.kept_laws.proofs.ProofWords.{IsReadProof, read_proof}

-- ---- symbols of known names

named_known : (ns : List Name) (n : Name) → contains ns n ≡ true → symbol_named ns n ≡ Some (symbol_in ns n)
named_known ns n h =
    let less : position_or_len (bytes_eq n) ns < length ns = first_within (bytes_eq n) ns h in
    let yes : nat_lt (position_or_len (bytes_eq n) ns) (length ns) ≡ true = grind (arith, nat_tests, less) in
    ap (λ b. option_map sym_numbered (cond b (Some (position_or_len (bytes_eq n) ns)) None)) yes

module _ (ns : List Name) where
  all_found : (ts : List Name) → AllByRecursion (λ n. contains ns n ≡ true) ts → list_all (λ n. is_some (symbol_named ns n)) ts ≡ true
  all_found [] a = refl
  all_found (n ∷ ts) a = and_from (is_some (symbol_named ns n)) (list_all (λ m. is_some (symbol_named ns m)) ts) (ap is_some (named_known ns n a.0)) (all_found ts a.1)

  all_numbers : (ts : List Name) → AllByRecursion (λ n. contains ns n ≡ true) ts → filter_map (symbol_named ns) ts ≡ map (symbol_in ns) ts
  all_numbers [] a = refl
  all_numbers (n ∷ ts) a = ap (λ o. cons_option o (filter_map (symbol_named ns) ts)) (named_known ns n a.0) ∙ ap (λ xs. symbol_in ns n ∷ xs) (all_numbers ts a.1)

  symbols_are : (ts : List Name) → AllByRecursion (λ n. contains ns n ≡ true) ts
      → cond (list_all (λ n. is_some (symbol_named ns n)) ts) (filter_map (symbol_named ns) ts) [] ≡ map (symbol_in ns) ts
  symbols_are ts a = ap (λ b. cond b (filter_map (symbol_named ns) ts) []) (all_found ts a) ∙ all_numbers ts a

module _ (text : List ℕ) (db : Database) (kinds_text : List ℕ) (options : Options) (w : Writing) (wr : Writes db kinds_text options w)
    (is : IsDatabaseOf options.kinds text db) (sound : database_fault text ≡ None) (new_one : w.bound.existing ≡ false) (finished : w.finished ≡ true)
    (can : CanBePutIn text w.bound.place (new_theorem db options w)) where
  abbrev t : NewTheorem
  t = new_theorem db options w

  abbrev place : ℕ
  place = w.bound.place

  abbrev thm : Theorem
  thm = written_theorem db options w

  abbrev s : Sheet
  s = wr.reads.read

  abbrev sy : List Name
  sy = symbols (statements text)

  book : IsBook db
  book = is_book options.kinds text db is sound

  symbols_known : (ts : List Name) → AllByRecursion (λ n. contains sy n ≡ true) ts → symbols_from db ts ≡ map (symbol_in sy) ts
  symbols_known ts a = ap (λ ns. cond (list_all (λ n. is_some (symbol_named ns n)) ts) (filter_map (symbol_named ns) ts) []) is.symbols ∙ symbols_are sy ts a

  frames_same : (name : Name) → frames_of db name ≡ frames_of_database (statements text) name
  frames_same name = ap (λ ls. option_and_then db.frame (label_named ls name)) is.labels ∙ go (label_named (labels (statements text)) name)
    where
      go : (o : Option Label) → option_and_then db.frame o ≡ option_and_then (frame_of (statements text)) o
      go None = refl
      go (Some l) = is.frame l

  -- the formula
  pub formula_same : thm.formula ≡ (T text place t can).formula
  formula_same =
      let q = qed_is db book kinds_text options w wr in
      let last : t.formula ≡ formula_tokens db q.last.tree =
      ap (λ es. option_map_or (λ (e : WrittenStep). formula_tokens db e.tree) (last_or None es) []) q.whole
      ∙ ap (λ o. option_map_or (λ (e : WrittenStep). formula_tokens db e.tree) o []) (last_or-append None q.pre q.last []) in
      qed_formula_is db book kinds_text options w wr finished ∙ ap (symbols_from db) (sym last)
      ∙ symbols_known t.formula (formula_known text place t can t.formula can.formula) ∙ sym (formula_is text place t can)

  -- the hypotheses
  no_existing : existing db s ≡ None
  no_existing = by (existing db s) (sym wr.binds.existing ∙ new_one)
    where
      by : (o : Option Frame) → is_some o ≡ false → o ≡ None
      by None e = refl
      by (Some f) e = absurd cc

  given_are : given_hyps db s ≡ essentials (db.active_at place).hyps
  given_are =
      ap (λ o. option_map_or (λ (f : Frame). essentials f.hyps) o (essentials (db.active_at (place_of db s)).hyps)) no_existing
      ∙ ap (λ (k : ℕ). essentials (db.active_at k).hyps) (sym wr.binds.place)

  abbrev new_of : WrittenStep → Hyp
  new_of e = record { name = unwrap_or e.reference []; floating = false; formula = symbols_from db (formula_tokens db e.tree) }

  abbrev hyp_at : Name × List Name → Hyp
  hyp_at h = record { name = h.0; floating = false; formula = map (symbol_in sy) h.1 }

  abbrev own : List WrittenStep
  own = own_hyps db options w

  each_hyp : (es : List WrittenStep) → AllByRecursion (λ (h : Name × List Name). is_formula (below (statements text) place) h.1 ≡ true) (map (named_hyp db options w) es)
      → map new_of es ≡ map hyp_at (map (named_hyp db options w) es)
  each_hyp [] a = refl
  each_hyp (e ∷ es) a =
      ap (λ (f : List Sym). let h : Hyp = record { name = unwrap_or e.reference []; floating = false; formula = f } in h ∷ map new_of es)
      (symbols_known (formula_tokens db e.tree) (formula_known text place t can (formula_tokens db e.tree) a.0))
      ∙ ap (λ hs. hyp_at (named_hyp db options w e) ∷ hs) (each_hyp es a.1)

  pub hyps_equal : thm.hyps ≡ (T text place t can).hyps
  hyps_equal =
      hyps_same db book kinds_text options w wr finished
      ∙ ap (λ (k : ℕ). (db.active_at k).hyps ++ map new_of (drop (length (given_hyps db s)) (filter (λ (e : WrittenStep). e.hyp) (steps_in w.items)))) (sym wr.binds.place)
      ∙ ap (λ hs. (db.active_at place).hyps ++ map new_of (drop (length hs) (filter (λ (e : WrittenStep). e.hyp) (steps_in w.items)))) given_are
      ∙ ap (λ a. a.hyps ++ map new_of own) (is.active_at place)
      ∙ ap (λ hs. (active_at (statements text) place).hyps ++ hs) (each_hyp own can.hyps)
      ∙ sym (hyps_are text place t can)

  pub mandatory_equal : thm.mandatory ≡ (T text place t can).mandatory
  mandatory_equal =
      ap (λ f. mandatory_of f thm.hyps) (formula_same ∙ formula_is text place t can) ∙ ap (mandatory_of (map (symbol_in sy) t.formula)) hyps_equal
      ∙ sym (mandatory_is text place t can sound)

  -- ---- its pairs

  abbrev named : Pair → Name × Name
  named q = named_pair db options w q

  pair_from : (q : Pair) → Contains t.pairs (named q) → (p : Pair) → Contains (two_of (filter_map (symbol_of db) (symbol_name db q.a ∷ symbol_name db q.b ∷ []))) p
      → Contains (T text place t can).pairs p
  pair_from q there p c =
      let u = symbol_name db q.a in
      let v = symbol_name db q.b in
      let good = all_of (λ x. is_pair (below (statements text) place) x ≡ true) t.pairs (u, v) can.pairs there in
      let three = and_parts (contains (variables (below (statements text) place)) u && contains (variables (below (statements text) place)) v) (not (bytes_eq u v)) good in
      let two = and_parts (contains (variables (below (statements text) place)) u) (contains (variables (below (statements text) place)) v) three.0 in
      let other : bytes_eq u v ≡ false = not_true (bytes_eq u v) three.1 in
      let vs = variables_same text place sound in
      let plain = all_of (λ (x : Name × Name). IsPlain x.0 × IsPlain x.1) t.pairs (u, v) can.plain.pairs there in
      let active = pair_is_active text place t can (variable_is_symbol text place sound) (u, v) there plain
      (sym (ap (λ ns. contains ns u) vs) ∙ two.0) (sym (ap (λ ns. contains ns v) vs) ∙ two.1) other in
      let found : filter_map (symbol_of db) (u ∷ v ∷ []) ≡ symbol_in sy u ∷ symbol_in sy v ∷ [] =
      ap (λ ns. filter_map (symbol_named ns) (u ∷ v ∷ [])) is.symbols
      ∙ all_numbers sy (u ∷ v ∷ []) (variable_known (statements text) place u two.0, (variable_known (statements text) place v two.1, tt)) in
      one (symbol_in sy u) (symbol_in sy v) (subst (λ xs. Contains (two_of xs) p) found c) active
    where
      not_true : (b : Bool) → not b ≡ true → b ≡ false
      not_true false e = refl
      not_true true e = absurd cc

      one : (x y : Sym) → Contains (two_of (x ∷ y ∷ [])) p → Contains (T text place t can).pairs (ordered x y) → Contains (T text place t can).pairs p
      one x y d h = elim (parted p (ordered x y) [] d) [ inl e ↦ subst (Contains (T text place t can).pairs) e h | inr l ↦ absurd (nothing p l) ]

  pub pairs_further : (p : Pair) → Contains thm.pairs p → Contains (T text place t can).pairs p
  pairs_further p c = go (written_pairs db options w) (λ q m. map_contains named (written_pairs db options w) q m)
      ((holds_same (flat_map (λ (x : PairLine). two_of (filter_map (symbol_of db) x.names)) (map (written_pair db) (written_pairs db options w))) p).0 c)
    where
      go : (qs : List Pair) → ((q : Pair) → Contains qs q → Contains t.pairs (named q))
          → Contains (flat_map (λ (x : PairLine). two_of (filter_map (symbol_of db) x.names)) (map (written_pair db) qs)) p → Contains (T text place t can).pairs p
      go [] f d = absurd (nothing p d)
      go (q ∷ qs) f d =
          elim (Contains-append_cases (two_of (filter_map (symbol_of db) (symbol_name db q.a ∷ symbol_name db q.b ∷ [])))
          (flat_map (λ (x : PairLine). two_of (filter_map (symbol_of db) x.names)) (map (written_pair db) qs)) p d) [
            | inl e ↦ pair_from q (f q (first q q qs refl)) p e
            | inr l ↦ go qs (λ r m. f r (later r q qs m)) l
          ]

  -- ---- its proof

  proof_same : t.proof ≡ proof_text db options.style thm (steps_in w.items)
  proof_same = ap (λ b. unwrap_or (cond b (Some (proof_text db options.style thm (steps_in w.items))) None) []) finished

  pub new_is_accepted : IsVerdict (installed text place t) t.name accepted
  new_is_accepted =
      let r = read_proof db options w (labels_named db book kinds_text options w wr finished) (qed_accepted db book kinds_text options w wr finished)
      (code_is_read db book kinds_text options w wr finished) options.style in
      let ws : names (words t.proof) ≡ r.tokens = ap (λ bytes. names (words bytes)) (proof_same ∙ r.is_text) ∙ tokens_at-spaced 0 r.tokens r.are_tokens in
      verdict text place t can (frames_of db) thm frames_same (at_same db book kinds_text options w wr finished) formula_same hyps_equal mandatory_equal pairs_further r.code
      (ap (proof_code_fault thm.mandatory) ws ∙ r.no_fault) (subst (λ ns. IsCodeOf thm.mandatory ns r.code) (sym ws) r.is_code) r.accepts
