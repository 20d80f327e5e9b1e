-- The formulas of a finished worksheet are formulas at its place: their symbols are constants and active variables with an active `$f`.
use Rattle.std.specs.Prelude.{◌≡◌, ◌≤◌, ℕ, zero, suc, Bool, true, List, [], ◌∷◌, length, map, drop, filter, slice_get, Contains, Option, Some, None, refl}
use Rattle.std.specs.List.{AllByRecursion, list_all, last_or}
use Rattle.std.specs.Option.{option_map_or}
use Rattle.std.proofs.Common.{sym, ap, subst, ◌∙◌, arith, inl, inr}
use Rattle.std.proofs.lemmas.Bool.{and_from, or_cases}
use Rattle.mm_base.specs.declared.symbols.Sym.{Sym}
use Rattle.mm_model.specs.declared.frames.Frame.{Frame}
use Rattle.mm_model.specs.declared.rows.Leaf.{Leaf}
use Rattle.mm_model.specs.declared.rows.Leaf.TheVariants as leaf
use Rattle.mm_model.specs.Names.{Name, contains}
use Rattle.mm_model.specs.Statements.{Statement, statements, constants, database_fault}
use Rattle.mm_model.specs.Frames.{below}
use Rattle.mm_model.specs.Texts.{text as leaves_in}
use Rattle.mm_model.specs.Typed.{IsTyped}
use Rattle.mm_model.specs.Book.{Database, IsDatabaseOf, symbol_name}
use Rattle.proof_model.specs.declared.theorem.Theorem.{Theorem}
use Rattle.sheet_laws.proofs.SpokenLaws.{last_or-append}
use Rattle.solve_model.specs.Trees.{work}
use Rattle.written_model.specs.declared.options.Options.{Options}
use Rattle.written_model.specs.WrittenSteps.{Use, WrittenStep, steps_in}
use Rattle.written_model.specs.Found.{is_ground}
use Rattle.written_model.specs.ProofTrees.{Below, at_qed, is_complete_use, Finished}
use Rattle.written_model.specs.Written.{Writing, Writes, leaf_name, formula_tokens, written_theorem}
use Rattle.install_model.specs.Installed.{named_hyp, own_hyps, outer_hyps, last_formula}
use Rattle.push_laws.proofs.Books.{is_book}
use Rattle.push_laws.proofs.Facts.{IsBook, Begins}
use Rattle.push_laws.proofs.Filling.{get_mid}
use Rattle.push_laws.proofs.Lists.{first, later, nothing, index_get, get_contains, contains_get, filter_contains}
use Rattle.push_laws.proofs.Parts.{fine_text}
use Rattle.push_laws.proofs.QedLaw.{QedIs, qed_is}
use Rattle.push_laws.proofs.ReadHyps.{filter_from}
use Rattle.push_laws.proofs.ReadTrees.{symbol_stands_at}
use Rattle.push_laws.proofs.StepLaw.{apart, at_same, ground_closed}
use Rattle.push_laws.proofs.Tokens.{work_occurs}
use Rattle.push_laws.proofs.WrittenSheet.{written_is, hyp_no_qed}
use Rattle.installed_laws.specs.CanBePutIn.{is_meant, is_formula}
use Rattle.installed_laws.proofs.MeantTokens.{constant_meant, constant_is_meant, variable_is_meant}

-- ---- lists

pub dropped : {X : Type 0} (k : ℕ) (xs : List X) (x : X) → Contains (drop k xs) x → Contains xs x
dropped zero [] x h = h
dropped zero (y ∷ xs) x h = h
dropped (suc k) [] x h = h
dropped (suc k) (y ∷ xs) x h = later x y xs (dropped k xs x h)

pub all_named : {X Y : Type 0} (P : Y → Type 0) (f : X → Y) (xs : List X) → ((x : X) → Contains xs x → P (f x)) → AllByRecursion P (map f xs)
all_named P f [] g = tt
all_named P f (x ∷ xs) g = (g x (first x x xs refl), all_named P f xs (λ y h. g y (later y x xs h)))

pub tests_named : {X Y : Type 0} (p : Y → Bool) (f : X → Y) (xs : List X) → ((x : X) → Contains xs x → p (f x) ≡ true) → list_all p (map f xs) ≡ true
tests_named p f [] g = refl
tests_named p f (x ∷ xs) g = and_from (p (f x)) (list_all p (map f xs)) (g x (first x x xs refl)) (tests_named p f xs (λ y h. g y (later y x xs h)))

module _ (text sheet : List ℕ) (db : Database) (options : Options) (w : Writing) (sound : database_fault text ≡ None) (is : IsDatabaseOf options.kinds text db)
    (wr : Writes db sheet options w) (finished : w.finished ≡ true) where
  abbrev pub book : IsBook db
  book = is_book options.kinds text db is sound

  abbrev pub place : ℕ
  place = w.bound.place

  abbrev pub before : List Statement
  before = below (statements text) place

  abbrev pub es : List WrittenStep
  es = steps_in w.items

  abbrev thm : Theorem
  thm = written_theorem db options w

  abbrev fin : Finished options.dv w.bound.pairs es
  fin = wr.finished.0 finished

  -- ---- the symbols of a tree

  leaf_meant : (i : ℕ) (e : WrittenStep) → slice_get es i ≡ Some e → is_ground e.tree ≡ true → (x : Leaf) → Contains (leaves_in db.rows e.tree) x
      → is_meant before (leaf_name db x) ≡ true
  leaf_meant i e at ground (leaf.Const s) h =
      let t = (written_is db book sheet options w wr i e at).sound.typed in
      let same = at_same db book sheet options w wr finished in
      let fine : db.is_constant_at s thm.at ≡ true =
      fine_text db book thm (apart db book sheet options w wr finished) e.tree (subst (λ (n : ℕ). IsTyped db.rows n e.tree) (sym same) t) (leaf.Const s) h in
      constant_is_meant options.kinds text db is place s (subst (λ (n : ℕ). db.is_constant_at s n ≡ true) same fine)
  leaf_meant i e at ground (leaf.Var s c) h =
      let d = (written_is db book sheet options w wr i e at).sound.vars s c h in
      variable_is_meant options.kinds text db is place s c d.named d.leaf_is
  leaf_meant i e at ground (leaf.Work c n) h =
      let none = subst (λ xs. Contains xs (work c n)) (ground_closed e.tree ground) (work_occurs db book place e.tree c n h) in
      absurd (nothing (work c n) none)

  -- ---- the provable typecode is a constant, since `qed` rests on an assertion

  abbrev qed : QedIs db book sheet options w wr
  qed = qed_is db book sheet options w wr

  qed_stands : slice_get es (length qed.pre) ≡ Some qed.last
  qed_stands = ap (λ xs. slice_get xs (length qed.pre)) qed.whole ∙ get_mid qed.pre qed.last []

  qed_below : Below es (length qed.pre)
  qed_below = at_qed (length qed.pre) qed_stands qed.named

  begins_at : (f : Frame) (s : Sym) (rest formula : List Sym) → formula ≡ s ∷ rest → Begins db f.at formula → db.is_constant_at s f.at ≡ true
  begins_at f s rest formula e b = subst (Begins db f.at) e b

  provable_constant : contains (constants before) db.provable ≡ true
  provable_constant =
      elim (or_cases qed.last.hyp (is_complete_use options.dv w.bound.pairs qed.last.places qed.last.by) (fin.complete (length qed.pre) qed.last qed_stands qed_below)) [
        | inl h ↦
            absurd (hyp_no_qed db book sheet options w wr qed.last
            (filter_contains (λ (x : WrittenStep). x.hyp) es qed.last (get_contains es (length qed.pre) qed.last qed_stands) h) qed.named)
        | inr c ↦ by_use qed.last.by refl c
      ]
    where
      by_use : (o : Option Use) → qed.last.by ≡ o → is_complete_use options.dv w.bound.pairs qed.last.places o ≡ true → contains (constants before) db.provable ≡ true
      by_use None by' c = absurd cc
      by_use (Some u) by' c =
          let has = (written_is db book sheet options w wr (length qed.pre) qed.last qed_stands).fits u by' in
          let usable = book.facts.usable has.label u.assertion has.usable in
          let f = u.assertion.frame in
          let b = usable.conclusion.provable.begins in
          let there : db.is_constant_at b.0 f.at ≡ true = begins_at f b.0 b.1 f.formula b.2 (book.frames_apart has.label f usable.frame).begins in
          let at = (book.facts.frames has.label f usable.frame).at in
          let earlier = has.earlier in
          let less : f.at ≤ place = omega (arith, at, earlier) in
          let name : symbol_name db b.0 ≡ db.provable = index_get db.symbols b.0.0 [] db.provable (symbol_stands_at db.symbols db.provable b.0 b.3) in
          subst (λ n. contains (constants before) n ≡ true) name (constant_meant options.kinds text db is place b.0 (book.constants_stay b.0 f.at place less there))

  -- ---- formulas

  written_formula : (i : ℕ) (e : WrittenStep) → slice_get es i ≡ Some e → is_ground e.tree ≡ true → is_formula before (formula_tokens db e.tree) ≡ true
  written_formula i e at ground =
      and_from (contains (constants before) db.provable) (list_all (is_meant before) (map (leaf_name db) (leaves_in db.rows e.tree))) provable_constant
      (tests_named (is_meant before) (leaf_name db) (leaves_in db.rows e.tree) (leaf_meant i e at ground))

  pub hyps_are_formulas : AllByRecursion (λ (h : Name × List Name). is_formula before h.1 ≡ true) (map (named_hyp db options w) (own_hyps db options w))
  hyps_are_formulas =
      all_named (λ (h : Name × List Name). is_formula before h.1 ≡ true) (named_hyp db options w) (own_hyps db options w) one
    where
      one : (e : WrittenStep) → Contains (own_hyps db options w) e → is_formula before (formula_tokens db e.tree) ≡ true
      one e h =
          let two = filter_from (λ (x : WrittenStep). x.hyp) es e (dropped (outer_hyps db options w) (filter (λ (x : WrittenStep). x.hyp) es) e h) in
          let at = contains_get es e two.0 in
          written_formula at.0 e at.1 (fin.hyps at.0 e at.1 two.1)

  qed_is_last : last_formula db options w ≡ formula_tokens db qed.last.tree
  qed_is_last =
      ap (λ xs. option_map_or (λ (e : WrittenStep). formula_tokens db e.tree) (last_or None xs) []) qed.whole
      ∙ ap (λ o. option_map_or (λ (e : WrittenStep). formula_tokens db e.tree) o []) (last_or-append None qed.pre qed.last [])

  pub qed_is_formula : is_formula before (last_formula db options w) ≡ true
  qed_is_formula =
      subst (λ ns. is_formula before ns ≡ true) (sym qed_is_last)
      (written_formula (length qed.pre) qed.last qed_stands (fin.no_work (length qed.pre) qed.last qed_stands qed_below))
