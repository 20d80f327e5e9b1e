-- The theorem of a text with an accepted proof: its frame, its place, its pairs; and the typecodes of productions.
use Rattle.std.specs.Prelude.{◌≡◌, ◌<◌, ◌==◌, ◌&&◌, ℕ, zero, suc, Bool, true, false, not, List, [], ◌∷◌, length, map, filter, Contains, nat_lt, slice_get}
use Rattle.std.specs.Prelude.{slice_index_or, Option, Some, None, option_map, option_and_then, codes, refl}
use Rattle.std.specs.List.{AllByRecursion, list_any, position_or_len}
use Rattle.std.specs.Option.{option_map_or}
use Rattle.std.specs.Str.{bytes_eq}
use Rattle.std.proofs.Common.{sym, ap, subst, ◌∙◌, cond, arith, inl, inr}
use Rattle.std.proofs.lemmas.Bool.{both_ways, and_parts, and_from, or_cases, eq-eqb, false_from_ne_true, not-true}
use Rattle.std.proofs.lemmas.List.Elements.{Contains-append_cases}
use Rattle.std.proofs.lemmas.Slice.Eq.{bytes_eq-Decides}
use Rattle.mm_base.specs.declared.symbols.Sym.{Sym}
use Rattle.mm_base.specs.declared.symbols.Pair.{Pair}
use Rattle.mm_base.specs.declared.symbols.Label.{Label}
use Rattle.mm_base.specs.declared.kinds.Kinds.{Kinds}
use Rattle.mm_model.specs.declared.frames.Frame.{Frame}
use Rattle.mm_model.specs.declared.rows.Production.{Production}
use Rattle.mm_model.specs.Names.{Name, sym as symbol, symbol_named, label_named}
use Rattle.mm_model.specs.Statements.{Statement, statements, database_fault, active, contains, variables, has_keyword, symbols_in, with_keyword, labels, is_empty}
use Rattle.mm_model.specs.Frames.{symbols, symbol_in, below, pairs_with, pair_of, active_at, frame_of, statement_of}
use Rattle.mm_model.specs.Texts.{row_of}
use Rattle.mm_model.specs.Productions.{begins_with, is_syntax, essentials}
use Rattle.mm_model.specs.Book.{Database, IsDatabaseOf, label_of, symbol_of, symbol_name}
use Rattle.mm_model.specs.BookFacts.{NamesDiffer}
use Rattle.mm_model.proofs.NameLaws.{symbol_back}
use Rattle.model_laws.proofs.Checked.{last_first, text_checked, no_statement_fault}
use Rattle.model_laws.proofs.DatabaseFacts.{kept_row, is_database}
use Rattle.model_laws.proofs.FrameFacts.{and_then, frame_known, one_keyword}
use Rattle.model_laws.proofs.KnownAt.{number_known, name_back}
use Rattle.model_laws.proofs.Listed.{Pairwise, pairwise-filter, same_names}
use Rattle.model_laws.proofs.RowFacts.{row_by}
use Rattle.proof_model.specs.declared.theorem.Theorem.{Theorem}
use Rattle.proof_model.specs.DatabaseProofs.{theorem_of_frame, proof_of, proof_words}
use Rattle.solve_model.specs.BindFaults.{is_variable_at}
use Rattle.written_model.specs.Written.{written_pair}
use Rattle.call_answers.specs.Verified.{theorem_named}
use Rattle.export_model.specs.Exported.{is_provable}
use Rattle.answer_laws.proofs.Elements.{first, later, nothing, at_number, mapped_from, in_mapped}
use Rattle.push_laws.proofs.Lists.{all_in, all_of, any_of_contains}
use Rattle.fitting_laws.specs.FitsAsWritten.{IsActivePair}
use Rattle.export_laws.proofs.ActiveFloats.{same_essentials}
use Rattle.export_laws.proofs.PushPairs.{kept_in}

was_kept : {X : Type 0} (c b : Bool) (x y : X) → c ≡ b → cond b (Some x) None ≡ Some y → c ≡ true
was_kept c true x y e h = e
was_kept c false x y e h = absurd cc

-- ---- the frame of the theorem

-- the frame of a `$p` with this label, of which the theorem is
pub record IsTheoremOf (text : List ℕ) (db : Database) (name : Name) (thm : Theorem) : Type 0 where
  pub label : Label
  pub named : label_of db name ≡ Some label
  pub frame : Frame
  pub is_frame : db.frame label ≡ Some frame
  pub no_axiom : frame.is_axiom ≡ false
  pub at : frame.at ≡ thm.at
  pub formula : frame.formula ≡ thm.formula
  pub essential : essentials frame.hyps ≡ essentials thm.hyps
  pub hyps : thm.hyps ≡ (db.active_at thm.at).hyps
  pub pairs : thm.pairs ≡ (active_at (statements text) thm.at).pairs

module _ (kinds : Kinds) (text : List ℕ) (db : Database) (is : IsDatabaseOf kinds text db) (sound : database_fault text ≡ None) where
  abbrev ss : List Statement
  ss = statements text

  mapped : {A B : Type 0} (f : A → B) (o : Option A) (y : B) → option_map f o ≡ Some y → (x : A) × (o ≡ Some x) × (f x ≡ y)
  mapped f None y e = absurd cc
  mapped f (Some x) y e = (x, refl, cc)

  no_axiom : (l : Label) (f : Frame) (ws : List Name) → frame_of ss l ≡ Some f → proof_of ss l ≡ Some ws → f.is_axiom ≡ false
  no_axiom l f ws frame proof =
      let k = frame_known ss l f frame in
      let stands : statement_of ss l ≡ Some (k.at, k.statement) =
      ap (option_and_then (λ (at : ℕ). option_map (λ (s : Statement). (at, s)) (slice_get ss at))) k.position ∙ ap (option_map (λ (s : Statement). (k.at, s))) k.stands in
      let there : (cond (has_keyword (codes "$p") k.statement) (Some (proof_words k.statement)) None) ≡ Some ws =
      sym (ap (option_and_then (λ (p : ℕ × Statement). cond (has_keyword (codes "$p") p.1) (Some (proof_words p.1)) None)) stands) ∙ proof in
      let theorem = was_kept (has_keyword (codes "$p") k.statement) (has_keyword (codes "$p") k.statement) (proof_words k.statement) ws refl there in
      sym (ap (λ (x : Frame). x.is_axiom) k.frame) ∙ one_keyword k.statement (codes "$p") (codes "$a") theorem refl

  essential_of : (l : Label) (f : Frame) → frame_of ss l ≡ Some f → essentials f.hyps ≡ essentials (active_at ss f.at).hyps
  essential_of l f frame =
      let k = frame_known ss l f frame in
      subst (λ (x : Frame). essentials x.hyps ≡ essentials (active_at ss x.at).hyps) k.frame (same_essentials kinds text db is sound k.at l k.statement)

  theorem_by : (name : Name) (thm : Theorem) (l : Label) (f : Frame) (ws : List Name) → label_named (labels ss) name ≡ Some l → frame_of ss l ≡ Some f → proof_of ss l ≡ Some ws
      → theorem_of_frame ss f ≡ thm → IsTheoremOf text db name thm
  theorem_by name thm l f ws named frame proof same =
      let at : f.at ≡ thm.at = ap (λ (t : Theorem). t.at) same in
      let hyps : (active_at ss f.at).hyps ≡ thm.hyps = ap (λ (t : Theorem). t.hyps) same in
      record {
        label = l;
        named = ap (λ ls. label_named ls name) is.labels ∙ named;
        frame = f;
        is_frame = is.frame l ∙ frame;
        no_axiom = no_axiom l f ws frame proof;
        at = at;
        formula = ap (λ (t : Theorem). t.formula) same;
        essential = essential_of l f frame ∙ ap essentials hyps;
        hyps = sym hyps ∙ ap (λ (n : ℕ). (active_at ss n).hyps) at ∙ sym (ap (λ a. a.hyps) (is.active_at thm.at));
        pairs = sym (ap (λ (t : Theorem). t.pairs) same) ∙ ap (λ (n : ℕ). (active_at ss n).pairs) at;
      }

  abbrev with_proof : Frame → List Name → Theorem × List Name
  with_proof f ws = (theorem_of_frame ss f, ws)

  abbrev with_frame : Label → Frame → Option (Theorem × List Name)
  with_frame l f = option_map (with_proof f) (proof_of ss l)

  abbrev with_label : Label → Option (Theorem × List Name)
  with_label l = option_and_then (with_frame l) (frame_of ss l)

  pub is_theorem : (name : Name) (thm : Theorem) (words : List Name) → theorem_named ss name ≡ Some (thm, words) → IsTheoremOf text db name thm
  is_theorem name thm words e =
      let l = and_then with_label (label_named (labels ss) name) (thm, words) e in
      let f = and_then (with_frame l.0) (frame_of ss l.0) (thm, words) l.2 in
      let w = mapped (with_proof f.0) (proof_of ss l.0) (thm, words) f.2 in
      theorem_by name thm l.0 f.0 w.0 l.1 f.1 w.1 (theorem_of (theorem_of_frame ss f.0, w.0) (thm, words) w.2)
    where
      theorem_of : (p q : Theorem × List Name) → p ≡ q → p.0 ≡ q.0
      theorem_of p q same = ap (λ (x : Theorem × List Name). x.0) same

  -- ---- a production has another typecode

  pub rows_other : (l : Label) (r : Production) (f : Frame) → row_of db.rows l ≡ Some r → db.frame l ≡ Some f → is_provable db f.formula ≡ false
  rows_other l r f row frame =
      let provable = symbol_in (symbols ss) kinds.provable in
      let k = kept_row (last_first text) (text_checked text (no_statement_fault text sound)) provable l r (ap (λ rs. row_of rs l) (sym is.rows) ∙ row) in
      let both : Some k.0 ≡ Some f = sym k.1 ∙ sym (is.frame l) ∙ frame in
      let same : k.0 ≡ f = cc in
      let syntax = (row_by provable k.0 r k.2).syntax_is in
      let none = begins_other provable k.0 syntax in
      let none' : begins_with provable f.formula ≡ false = ap (λ (x : Frame). begins_with provable x.formula) (sym same) ∙ none in
      let known = ((is_database kinds text db is (no_statement_fault text sound)).frames l f frame).formula.symbols in
      other f.formula none' known
    where
      begins_other : (p : Sym) (g : Frame) → is_syntax p g ≡ true → begins_with p g.formula ≡ false
      begins_other p g e =
          let a = g.is_axiom in
          let n = not (begins_with p g.formula) in
          let x = is_empty (essentials g.hyps) in
          let y = is_empty g.pairs in
          let one = and_parts (a && n && x) y e in
          let two = and_parts (a && n) x one.0 in
          not-true (begins_with p g.formula) (and_parts a n two.0).1

      other : (g : List Sym) → begins_with (symbol_in (symbols ss) kinds.provable) g ≡ false → AllByRecursion (λ (s : Sym). s.0 < length db.symbols) g → is_provable db g ≡ false
      other [] n a = refl
      other (c ∷ rest) n a = false_from_ne_true (is_provable db (c ∷ rest)) (λ e. elim (or_cases (bytes_eq (symbol_name db c) db.provable) false e) [
        | inr d ↦ let bad : false ≡ true = d in cc
        | inl d ↦
            let name : symbol_name db c ≡ db.provable = (bytes_eq-Decides (symbol_name db c) db.provable).0 d in
            let back : symbol_of db (symbol_name db c) ≡ Some c = symbol_back db.symbols (is_database kinds text db is (no_statement_fault text sound)).symbols c.0 a.0 in
            let number : position_or_len (bytes_eq (symbol_name db c)) db.symbols ≡ c.0 = position_is db.symbols (symbol_name db c) c back in
            let there : c.0 ≡ (symbol_in (symbols ss) kinds.provable).0 =
            sym number ∙ ap (λ (n : Name). position_or_len (bytes_eq n) db.symbols) (name ∙ is.provable) ∙ ap (λ (ns : List Name). position_or_len (bytes_eq kinds.provable) ns) is.symbols in
            both_ways (c.0 == (symbol_in (symbols ss) kinds.provable).0) n (eq-eqb c.0 (symbol_in (symbols ss) kinds.provable).0 there)
      ])
        where
          position_is : (ns : List Name) (n : Name) (s : Sym) → symbol_named ns n ≡ Some s → position_or_len (bytes_eq n) ns ≡ s.0
          position_is ns n s e = go (nat_lt (position_or_len (bytes_eq n) ns) (length ns)) e
            where
              go : (b : Bool) → option_map symbol (cond b (Some (position_or_len (bytes_eq n) ns)) None) ≡ Some s → position_or_len (bytes_eq n) ns ≡ s.0
              go true h = let same : symbol (position_or_len (bytes_eq n) ns) ≡ s = cc in ap (λ (x : Sym). x.0) same
              go false h = absurd cc

  -- ---- the active pairs

  abbrev Unlike : Name → Name → Type 0
  Unlike x y = x ≡ y → ⊥

  unlike_all : (names : List Name) → NamesDiffer names → Pairwise Unlike names
  unlike_all [] d = tt
  unlike_all (n ∷ ns) d = (
    all_in (Unlike n) ns (λ m c e. first_again m c e),
    unlike_all ns (λ i j x a b. let place : suc i ≡ suc j = d (suc i) (suc j) x a b in omega (arith, place)),
  )
    where
      first_again : (m : Name) → Contains ns m → n ≡ m → ⊥
      first_again m c e =
          let at = at_number ns m c in
          let place : zero ≡ suc at.0 = d zero (suc at.0) m (ap (λ x. Some x) e) at.1 in
          omega (arith, place)

  record IsPairOf (xs : List Name) (p : Name × Name) : Type 0 where
    one : Contains xs p.0
    other : Contains xs p.1
    differ : p.0 ≡ p.1 → ⊥

  pair_in : (ds : List Statement) (xs : List Name) → Pairwise Unlike xs → (p : Name × Name) → Contains (pairs_with ds xs) p → IsPairOf xs p
  pair_in ds [] d p c = absurd (nothing p c)
  pair_in ds (x ∷ xs) d p c =
      let test : Name → Bool = λ y. list_any (λ (s : Statement). contains (symbols_in s) x && contains (symbols_in s) y) ds in
      elim (Contains-append_cases (map (λ (y : Name). (x, y)) (filter test xs)) (pairs_with ds xs) p c) [
        | inl h ↦
            let y = mapped_from (λ (y : Name). let q : Name × Name = (x, y) in q) (filter test xs) p h in
            let stands = kept_in test xs y.0 y.1 in
            subst (IsPairOf (x ∷ xs)) y.2 (record { one = first x x xs refl; other = later y.0 x xs stands; differ = all_of (Unlike x) xs y.0 d.0 stands })
        | inr h ↦ let r = pair_in ds xs d.1 p h in record { one = later p.0 x xs r.one; other = later p.1 x xs r.other; differ = r.differ }
      ]

  pub pair_is_active : (place : ℕ) (p : Pair) → Contains (active_at ss place).pairs p → IsActivePair db place (written_pair db p)
  pair_is_active place p c =
      let names = symbols ss in
      let b = below ss place in
      let vars = filter (contains (variables b)) names in
      let from = mapped_from (pair_of names) (pairs_with (with_keyword (codes "$d") (active b)) vars) p c in
      let apart = pairwise-filter Unlike (contains (variables b)) names (unlike_all names (subst NamesDiffer is.symbols (is_database kinds text db is (no_statement_fault text sound)).symbols)) in
      let q = pair_in (with_keyword (codes "$d") (active b)) vars apart from.0 from.1 in
      subst (λ (x : Pair). IsActivePair db place (written_pair db x)) from.2 (record {
        one = symbol_name db (symbol_in names from.0.0);
        other = symbol_name db (symbol_in names from.0.1);
        names = refl;
        differ = false_from_ne_true _ (λ e. q.differ
            (sym (back place from.0.0 (in_names place from.0.0 q.one))
            ∙ same_names (symbol_name db (symbol_in names from.0.0)) (symbol_name db (symbol_in names from.0.1)) e
            ∙ back place from.0.1 (in_names place from.0.1 q.other)));
        active = and_from _ _ (is_active place from.0.0 q.one) (and_from _ _ (is_active place from.0.1 q.other) refl);
      })
    where
      in_names : (place : ℕ) (n : Name) → Contains (filter (contains (variables (below ss place))) (symbols ss)) n → contains (symbols ss) n ≡ true
      in_names place n c = any_of_contains (bytes_eq n) (symbols ss) n (kept_in (contains (variables (below ss place))) (symbols ss) n c) ((bytes_eq-Decides n n).1 refl)

      back : (place : ℕ) (n : Name) → contains (symbols ss) n ≡ true → symbol_name db (symbol_in (symbols ss) n) ≡ n
      back place n c = ap (λ ns. slice_index_or ns (symbol_in (symbols ss) n).0 []) is.symbols ∙ name_back ss place n c

      is_active : (place : ℕ) (n : Name) → Contains (filter (contains (variables (below ss place))) (symbols ss)) n → is_variable_at db place (symbol_name db (symbol_in (symbols ss) n)) ≡ true
      is_active place n c =
          let v = symbol_in (symbols ss) n in
          let within : v.0 < length db.symbols = subst (λ ns. v.0 < length ns) (sym is.symbols) (number_known ss place n (in_names place n c)) in
          let found : symbol_of db (symbol_name db v) ≡ Some v = symbol_back db.symbols (is_database kinds text db is (no_statement_fault text sound)).symbols v.0 within in
          let stands : Contains (active_at ss place).variables v = in_mapped (symbol_in (symbols ss)) (filter (contains (variables (below ss place))) (symbols ss)) n c in
          ap (λ (o : Option Sym). option_map_or (λ (x : Sym). list_any (λ (w : Sym). w.0 == x.0) (db.active_at place).variables) o false) found
          ∙ ap (λ a. list_any (λ (w : Sym). w.0 == v.0) a.variables) (is.active_at place)
          ∙ any_of_contains (λ (w : Sym). w.0 == v.0) (active_at ss place).variables v stands (eq-eqb v.0 v.0 refl)
