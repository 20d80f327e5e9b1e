-- The worksheet of an accepted and exportable proof fits as it is written; so it becomes finished.
use Rattle.std.specs.Prelude.{◌≡◌, ◌≤◌, ◌+◌, ℕ, suc, Bool, true, false, not, List, [], ◌∷◌, ◌++◌, length, map, filter, take, filter_map, slice_get, All, Contains}
use Rattle.std.specs.Prelude.{Option, Some, None, option_and_then, refl}
use Rattle.std.specs.List.{AllZip, AllByRecursion, list_any, list_all, last_or}
use Rattle.std.specs.Option.{option_map_or}
use Rattle.std.proofs.Common.{sym, ap, subst, ◌∙◌, cond, arith, inl, inr}
use Rattle.std.proofs.lemmas.Bool.{and_parts, or_cases}
use Rattle.std.proofs.lemmas.List.{length-map}
use Rattle.mm_base.specs.declared.symbols.Sym.{Sym}
use Rattle.mm_base.specs.declared.symbols.Pair.{Pair}
use Rattle.mm_base.specs.declared.tree.Tree.{Tree}
use Rattle.mm_base.specs.Limits.{most_formula_tokens}
use Rattle.mm_base.specs.declared.kinds.Kinds.{Kinds}
use Rattle.mm_model.specs.declared.frames.Hyp.{Hyp}
use Rattle.mm_model.specs.declared.frames.Frame.{Frame}
use Rattle.mm_model.specs.Names.{Name}
use Rattle.mm_model.specs.Statements.{database_fault}
use Rattle.mm_model.specs.Productions.{essentials}
use Rattle.mm_model.specs.Book.{Database, IsDatabaseOf, symbol_of}
use Rattle.mm_model.specs.BookFacts.{IsKnownAt}
use Rattle.model_laws.specs.DatabaseLaws.{HavePlaces}
use Rattle.proof_laws.proofs.AcceptedLaw.{formulas_are}
use Rattle.proof_model.specs.declared.code.Code.{Code}
use Rattle.proof_model.specs.declared.code.Step.{Step}
use Rattle.proof_model.specs.declared.theorem.Theorem.{Theorem}
use Rattle.proof_model.specs.Machine.{Formula, start}
use Rattle.sheet_text.specs.declared.sheet.Sheet.{Sheet}
use Rattle.sheet_text.specs.declared.sheet.SheetItem.TheVariants as item
use Rattle.sheet_text.specs.declared.sheet.SheetStep.{SheetStep}
use Rattle.sheet_text.specs.Layout.{step_of_item, steps}
use Rattle.solve_model.specs.Binding.{existing, new_place, place_of, names_of}
use Rattle.solve_model.specs.Formulas.{IsTheTree}
use Rattle.written_model.specs.Written.{written_pair}
use Rattle.install_laws.specs.TwoDatabases.{label_named_by}
use Rattle.export_model.specs.Exported.{Push, is_provable, pushes, hyp_steps, push_steps, export_steps, export_sheet}
use Rattle.answer_laws.proofs.Elements.{all_map}
use Rattle.push_laws.proofs.Books.{is_book}
use Rattle.push_laws.proofs.Facts.{IsBook, Begins}
use Rattle.push_laws.proofs.Lists.{all_in, all_of, filter_contains, map_contains, filter_map_contains, nothing, parted, zip_left}
use Rattle.push_laws.proofs.TreeProofs.{tree_symbols}
use Rattle.written_model.specs.Found.{valued as valued_by}
use Rattle.fitting_laws.specs.FitsAsWritten.{IsWhole, IsHypStep, FitsAsListed, IsActivePair, FitsAsWritten, numbered_name}
use Rattle.fitting_laws.specs.FittingBecomesFinished.{FittingBecomesFinished}
use Rattle.call_answers.specs.Exports.{IsAccepted}
use Rattle.call_answers.specs.Exportable.{IsExportable, IsReadable, gives_theorem}
use Rattle.export_laws.specs.ExportLaw.{ExportedFits, LawOfExport}
use Rattle.export_laws.proofs.ActiveFloats.{floats_declared}
use Rattle.export_laws.proofs.PushPairs.{given_of, kept_in}
use Rattle.export_laws.proofs.Reading.{active_tokens}
use Rattle.export_laws.proofs.Run.{AreFine, StepIsFine, Base, all_fine, IsDeclaredFloat}
use Rattle.export_laws.proofs.SheetSteps.{EachFits, fits_at, pushes_fit, hyps_fit, AreNamed, named_at, pushes_named, hyps_named, some_rest, last_push, last_of_all}
use Rattle.export_laws.proofs.SheetSteps.{hyps_are, IsActiveStep, pushes_active, hyps_active}
use Rattle.export_laws.proofs.TheoremFacts.{IsTheoremOf, is_theorem, rows_other, pair_is_active}

-- ---- lists

all_by : {X : Type 0} (P : X → Type 0) (xs : List X) → All P xs → AllByRecursion P xs
all_by P [] a = tt
all_by P (x ∷ xs) a = (a 0 x (omega arith), all_by P xs (λ k d l. a (suc k) d (omega (arith, l))))

pass_of : {X : Type 0} (p : X → Bool) (xs : List X) (x : X) → list_all p xs ≡ true → Contains xs x → p x ≡ true
pass_of p [] x e c = absurd (nothing x c)
pass_of p (y ∷ ys) x e c =
    let two = and_parts (p y) (list_all p ys) e in
    elim (parted x y ys c) [ inl same ↦ ap p (sym same) ∙ two.0 | inr l ↦ pass_of p ys x two.1 l ]

steps_are : (ss : List SheetStep) → filter_map step_of_item (map (λ s. item.Step s) ss) ≡ ss
steps_are [] = refl
steps_are (s ∷ ss) = ap (λ xs. s ∷ xs) (steps_are ss)

-- ---- a push that gives the theorem's formula

record IsGiven (db : Database) (thm : Theorem) : Type 0 where
  provable : Sym
  provable_is : symbol_of db db.provable ≡ Some provable
  rest : Formula
  formula : thm.formula ≡ provable ∷ rest

given_by : (db : Database) (thm : Theorem) (seen : List Formula) (ps : List Push) → AreFine db thm seen ps → list_any (gives_theorem thm) ps ≡ true → IsGiven db thm
given_by db thm seen [] f e = absurd cc
given_by db thm seen (p ∷ ps) f e = elim (or_cases (gives_theorem thm p) (list_any (gives_theorem thm) ps) e) [
  | inl d ↦ record {
    provable = f.0.provable;
    provable_is = f.0.provable_is;
    rest = tree_symbols db (valued_by f.0.by f.0.by.assertion.tree);
    formula = sym (formulas_are p.formula thm.formula d) ∙ f.0.formula;
  }
  | inr d ↦ given_by db thm (p.formula ∷ seen) ps f.1 d
]

-- ---- trees of steps that can be read

record HasTrees (db : Database) (place : ℕ) (ss : List SheetStep) : Type 0 where
  trees : List Tree
  each : AllZip (λ (s : SheetStep) t. (length s.formula ≤ most_formula_tokens) × IsTheTree db place s.formula t) ss trees

has_trees : (db : Database) (place : ℕ) (ss : List SheetStep) → AllByRecursion (IsReadable db place) ss → HasTrees db place ss
has_trees db place [] a = record { trees = []; each = tt }
has_trees db place (s ∷ ss) a = let r = has_trees db place ss a.1 in record { trees = a.0.tree ∷ r.trees; each = ((a.0.short, a.0.one_tree), r.each) }

only_trees : (db : Database) (place : ℕ) (ss : List SheetStep) (ts : List Tree) → AllZip (λ (s : SheetStep) t. (length s.formula ≤ most_formula_tokens) × IsTheTree db place s.formula t) ss ts
    → AllZip (λ (s : SheetStep) t. IsTheTree db place s.formula t) ss ts
only_trees db place [] [] z = tt
only_trees db place [] (t ∷ ts) z = absurd z
only_trees db place (s ∷ ss) [] z = absurd z
only_trees db place (s ∷ ss) (t ∷ ts) z = (z.0.1, only_trees db place ss ts z.1)

-- ---- the parts of what is to be shown, by place and steps

record HasParts (db : Database) (thm : Theorem) (place : ℕ) (ss : List SheetStep) : Type 0 where
  names : (i : ℕ) (s : SheetStep) → slice_get ss i ≡ Some s → s.name ≡ numbered_name (length ss) i
  qed : SheetStep
  qed_last : last_or None ss ≡ Some qed
  qed_no_hyp : qed.hyp ≡ false
  qed_formula : qed.formula ≡ names_of db thm.formula
  hyps : AllZip (IsHypStep db) (essentials thm.hyps) (filter (λ (s : SheetStep). s.hyp) ss)
  trees : List Tree
  whole : AllZip (λ (s : SheetStep) (t : Tree). IsWhole db place s.formula t) ss trees
  fits : (i : ℕ) (s : SheetStep) (t : Tree) → slice_get ss i ≡ Some s → slice_get trees i ≡ Some t → s.hyp ≡ false → FitsAsListed db place (given_of db thm) (take i trees) s t

module _ (law : HavePlaces) (kinds : Kinds) (text : List ℕ) (db : Database) (name : Name) (thm : Theorem) (code : Code) (sound : database_fault text ≡ None) (is : IsDatabaseOf kinds text db)
    (accepted : IsAccepted text db name thm code) (x : IsExportable db thm name code) where
  abbrev sheet : Sheet
  sheet = export_sheet db thm name code

  abbrev es : List Hyp
  es = essentials thm.hyps

  abbrev ps : List Push
  ps = pushes db thm code

  abbrev seen : List Formula
  seen = map (λ (h : Hyp). h.formula) es

  abbrev tail : List SheetStep
  tail = push_steps db thm.formula seen ps

  abbrev ss : List SheetStep
  ss = export_steps db thm code

  book : IsBook db
  book = is_book kinds text db is sound

  the_theorem : IsTheoremOf text db name thm
  the_theorem = is_theorem kinds text db is sound name thm accepted.words accepted.is_theorem

  not_floating : (h : Hyp) → h.floating ≡ false → not h.floating ≡ true
  not_floating h e = ap not e

  in_essentials : (h : Hyp) → Contains thm.hyps h → h.floating ≡ false → Contains es h
  in_essentials h c e = filter_contains (λ (y : Hyp). not y.floating) thm.hyps h c (not_floating h e)

  base : Base db thm seen
  base h c e = map_contains (λ (y : Hyp). y.formula) es h (in_essentials h c e)

  hyps_provable : (h : Hyp) → Contains thm.hyps h → h.floating ≡ false → is_provable db h.formula ≡ true
  hyps_provable h c e = pass_of (λ (y : Hyp). is_provable db y.formula) es h x.provable_hyps (in_essentials h c e)

  floats : (h : Hyp) → Contains thm.hyps h → h.floating ≡ true → IsDeclaredFloat db thm.at h
  floats h c e = floats_declared kinds text db is sound thm.at h (subst (λ hs. Contains hs h) the_theorem.hyps c) e

  steps_fine : AllByRecursion (λ (s : Step). StepIsFine db thm code.labels s.what) code.steps
  steps_fine = all_in (λ (s : Step). StepIsFine db thm code.labels s.what) code.steps (λ s c n e.
      let listed = filter_map_contains (λ (y : Step). label_named_by thm.mandatory code.labels y.what) code.steps s n c e in
      record { may = x.labels n listed; no_float = x.no_provable_float n listed })

  fine : AreFine db thm seen ps
  fine = all_fine db book (law kinds text db is sound) thm the_theorem.hyps (rows_other kinds text db is sound) floats hyps_provable code.labels code.steps seen base start
      (record { stack = tt; kept = tt }) steps_fine

  given : IsGiven db thm
  given = given_by db thm seen ps fine x.given

  constant : db.is_constant_at given.provable thm.at ≡ true
  constant =
      let begins = (book.frames_apart the_theorem.label the_theorem.frame the_theorem.is_frame).begins in
      let at_theorem : Begins db thm.at thm.formula = subst (λ g. Begins db thm.at g) the_theorem.formula (subst (λ n. Begins db n the_theorem.frame.formula) the_theorem.at begins) in
      subst (Begins db thm.at) given.formula at_theorem

  -- ---- the sheet's place and steps

  existing_is : existing db sheet ≡ Some the_theorem.frame
  existing_is =
      ap (option_and_then (λ (f : Frame). cond f.is_axiom None (Some f))) (ap (option_and_then db.frame) the_theorem.named ∙ the_theorem.is_frame)
      ∙ ap (λ (b : Bool). cond b None (Some the_theorem.frame)) the_theorem.no_axiom

  place_is : place_of db sheet ≡ thm.at
  place_is = ap (λ (o : Option Frame). option_map_or (λ (f : Frame). f.at) o (new_place db sheet.loc)) existing_is ∙ the_theorem.at

  same_steps : steps sheet ≡ ss
  same_steps = steps_are ss

  readable : AllByRecursion (IsReadable db thm.at) ss
  readable = all_by (IsReadable db thm.at) ss (subst (λ n. All (IsReadable db n) ss) place_is (subst (All (IsReadable db (place_of db sheet))) same_steps x.formulas))

  trees : HasTrees db thm.at ss
  trees = has_trees db thm.at ss readable

  one_trees : AllZip (λ (s : SheetStep) t. IsTheTree db thm.at s.formula t) ss trees.trees
  one_trees = only_trees db thm.at ss trees.trees trees.each

  -- ---- the parts

  each_fits : EachFits db book thm [] ss trees.trees
  each_fits = hyps_fit db book thm 0 es [] [] tail trees.trees tt one_trees (λ more us z h. pushes_fit db book thm ps seen seen more z (λ g c. c) fine x.given us h)

  hyps_known : AllByRecursion (λ (h : Hyp). (is_provable db h.formula ≡ true) × IsKnownAt db thm.at h.formula) es
  hyps_known = all_in (λ (h : Hyp). (is_provable db h.formula ≡ true) × IsKnownAt db thm.at h.formula) es (λ h c.
      let inside = kept_in (λ (y : Hyp). not y.floating) thm.hyps h c in (
        pass_of (λ (y : Hyp). is_provable db y.formula) es h x.provable_hyps c,
        all_of (λ (y : Hyp). IsKnownAt db thm.at y.formula) (db.active_at thm.at).hyps h (book.hyps_apart thm.at).known (subst (λ hs. Contains hs h) the_theorem.hyps inside),
      ))

  all_active : AllByRecursion (IsActiveStep db book thm given.provable given.provable_is) ss
  all_active = hyps_active db book thm given.provable given.provable_is 0 es tail hyps_known (pushes_active db book thm given.provable given.provable_is ps seen seen fine x.given)

  all_whole : AllZip (λ (s : SheetStep) (t : Tree). IsWhole db thm.at s.formula t) ss trees.trees
  all_whole = zip_left (λ (s : SheetStep) t. (length s.formula ≤ most_formula_tokens) × IsTheTree db thm.at s.formula t) (λ (s : SheetStep) (t : Tree). IsWhole db thm.at s.formula t)
      (IsActiveStep db book thm given.provable given.provable_is)
      (λ s t a z.
      let w = active_tokens db book thm.at given.provable given.provable_is constant a.said a.active in
      subst (λ tokens. IsWhole db thm.at tokens t) (sym a.tokens) (record {
        short = subst (λ (tokens : List Name). length tokens ≤ most_formula_tokens) a.tokens z.0;
        rest = w.rest;
        provable = w.provable;
        active = w.active;
        one_tree = subst (λ tokens. IsTheTree db thm.at tokens t) a.tokens z.1;
      })) ss trees.trees all_active trees.each

  all_named : AreNamed db book thm 0 (length ss) ss
  all_named =
      let long : length seen ≡ length es = length-map es (λ (h : Hyp). h.formula) in
      let from : length seen ≡ 0 + length es = omega (arith, long) in
      let whole : 0 + length ss ≡ length ss = omega arith in
      hyps_named db book thm 0 es tail (length ss) (some_rest db book thm seen ps) whole
      (subst (λ n. AreNamed db book thm n (length ss) tail) from (pushes_named db book thm ps seen (length ss) (count long)))
    where
      count_steps : (n : ℕ) (hs : List Hyp) (more : List SheetStep) → length (hyp_steps db n hs ++ more) ≡ length hs + length more
      count_steps n [] more = omega arith
      count_steps n (h ∷ hs) more = let rest = count_steps (suc n) hs more in omega (arith, rest)

      count : length seen ≡ length es → length seen + length tail ≡ length ss
      count long = ap (λ (n : ℕ). n + length tail) long ∙ sym (count_steps 0 es tail)

  parts : HasParts db thm thm.at ss
  parts =
      let last = last_of_all db book thm 0 es tail (last_push db book thm ps seen) in
      record {
        names = λ i s e. let sum : 0 + i ≡ i = omega arith in named_at db book thm 0 (length ss) ss all_named i s e ∙ ap (numbered_name (length ss)) sum;
        qed = last.qed;
        qed_last = last.stands None;
        qed_no_hyp = last.is_qed.no_hyp;
        qed_formula = last.is_qed.formula;
        hyps = hyps_are db book thm 0 es ps seen;
        trees = trees.trees;
        whole = all_whole;
        fits = λ i s t e h n. fits_at db book thm [] ss trees.trees each_fits i s t e h n;
      }

  sheet_parts : HasParts db thm (place_of db sheet) (steps sheet)
  sheet_parts = subst (λ n. HasParts db thm n (steps sheet)) (sym place_is) (subst (HasParts db thm thm.at) (sym same_steps) parts)

  all_pairs : AllByRecursion (IsActivePair db (place_of db sheet)) sheet.pairs
  all_pairs =
      let each = all_in (λ (p : Pair). IsActivePair db thm.at (written_pair db p)) thm.pairs
      (λ p c. pair_is_active kinds text db is sound thm.at p (subst (λ qs. Contains qs p) the_theorem.pairs c)) in
      subst (λ n. AllByRecursion (IsActivePair db n) sheet.pairs) (sym place_is) (all_map (IsActivePair db thm.at) (written_pair db) thm.pairs each)

  pub sheet_fits : FitsAsWritten db sheet
  sheet_fits =
      let p = sheet_parts in
      record {
        frame = the_theorem.frame;
        theorem = existing_is;
        loc = refl;
        items = ap (map (λ s. item.Step s)) (sym same_steps);
        pairs = all_pairs;
        names = p.names;
        qed = p.qed;
        qed_last = p.qed_last;
        qed_no_hyp = p.qed_no_hyp;
        qed_formula = p.qed_formula ∙ ap (names_of db) (sym the_theorem.formula);
        hyps = subst (λ hs. AllZip (IsHypStep db) hs (filter (λ (s : SheetStep). s.hyp) (steps sheet))) (sym the_theorem.essential) p.hyps;
        trees = p.trees;
        whole = p.whole;
        fits = p.fits;
      }

pub exported_fits : HavePlaces → ExportedFits
exported_fits law kinds text db name thm code sound is accepted x = sheet_fits law kinds text db name thm code sound is accepted x

-- and so it becomes finished
pub law_of_export : ExportedFits → FittingBecomesFinished → LawOfExport
law_of_export fits finished options text db name thm code answer sound is accepted x answers =
    finished options text db (export_sheet db thm name code) answer sound is (fits options.kinds text db name thm code sound is accepted x) answers
