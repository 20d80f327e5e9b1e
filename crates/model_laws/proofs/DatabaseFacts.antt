-- The database of a text without a fault has the facts that worksheets rest on.
use Rattle.std.proofs.Common.{◌≡◌, ◌<◌, ◌+◌, ℕ, zero, suc, true, List, [], ◌∷◌, length, reverse, Option, Some, None, sym, ap, ◌∙◌, arith, subst, inl, inr, get_or}
use Rattle.std.specs.Prelude.{fold}
use Rattle.std.specs.List.{AllByRecursion, filter_map, range_with_len}
use Rattle.std.proofs.lemmas.Bool.{cases_Bool}
use Rattle.mm_base.specs.declared.symbols.Sym.{Sym}
use Rattle.mm_base.specs.declared.symbols.Label.{Label}
use Rattle.mm_base.specs.declared.symbols.Typecode.{Typecode}
use Rattle.mm_base.specs.declared.kinds.Kinds.{Kinds}
use Rattle.mm_model.specs.declared.frames.Frame.{Frame}
use Rattle.mm_model.specs.declared.frames.Hyp.{Hyp}
use Rattle.mm_model.specs.declared.rows.Production.{Production}
use Rattle.mm_model.specs.Names.{label}
use Rattle.mm_model.specs.Statements.{Statement, statements, statement_fault, labels, symbols_in}
use Rattle.mm_model.specs.Frames.{symbols, symbol_in, frame_of, frame_at, below, is_assertion, mandatory_hypotheses}
use Rattle.mm_model.specs.Productions.{frames, rows, row_of_frame}
use Rattle.mm_model.specs.Chains.{chain_from, leads, keep, keep_by, kept}
use Rattle.mm_model.specs.Rows.{IsRow, LabelsDiffer, AreRows, IsGrammar}
use Rattle.mm_model.specs.Texts.{row_of}
use Rattle.mm_model.specs.Book.{Database, IsDatabaseOf}
use Rattle.mm_model.specs.BookFacts.{NamesDiffer, Rise, IsRowFrame, IsFrame, IsKnownAt, IsDatabase}
use Rattle.mm_model.proofs.RowLaws.{row_stands}
use Rattle.mm_model.proofs.KeptLaws.{kept_is_grammar}
use Rattle.model_laws.proofs.Checked.{EachBefore, IsChecked, last_first, text_checked, found}
use Rattle.model_laws.proofs.Listed.{Pairwise, places_differ, all-filter_map, pairwise-filter_map, all-reverse, all_at}
use Rattle.model_laws.proofs.LabelFacts.{labels_differ, positions_rise, positions_are, symbols_differ}
use Rattle.model_laws.proofs.FrameFacts.{frame_facts, frame_known, mandatory_at}
use Rattle.model_laws.proofs.KnownFacts.{assertion_known, mandatory_known}
use Rattle.model_laws.proofs.KnownAt.{known_at_place, all_known_at_place}
use Rattle.model_laws.proofs.RowFacts.{RowFacts, row_facts}

-- ---- numbers from one on

abbrev Less : ℕ → ℕ → Type 0
Less a b = a < b

range_above : (a b n : ℕ) → a < b → AllByRecursion (Less a) (range_with_len b n)
range_above a b zero h = tt
range_above a b (suc n) h = (h, range_above a (b + 1) n (omega (arith, h)))

range_rises : (a n : ℕ) → Pairwise Less (range_with_len a n)
range_rises a zero = tt
range_rises a (suc n) = (range_above a (a + 1) n (omega arith), range_rises (a + 1) n)

units : {X : Type 0} (xs : List X) → AllByRecursion (λ x. Unit {0}) xs
units [] = tt
units (x ∷ xs) = (tt, units xs)

-- ---- frames and rows of statements

frame_label : (ss : List Statement) (l : Label) (f : Frame) → frame_of ss l ≡ Some f → f.label ≡ l
frame_label ss l f e = let k = frame_known ss l f e in ap (λ (x : Frame). x.label) (sym k.frame)

abbrev Earlier : Frame → Frame → Type 0
Earlier f g = f.label.0 < g.label.0

frames_rise : (ss : List Statement) → Pairwise Earlier (frames ss)
frames_rise ss =
    pairwise-filter_map Less Earlier (λ n. frame_of ss (label n))
    (λ a b f g less e d.
    let left : f.label.0 ≡ a = ap (λ (l : Label). l.0) (frame_label ss (label a) f e) in
    let right : g.label.0 ≡ b = ap (λ (l : Label). l.0) (frame_label ss (label b) g d) in
    omega (arith, less, left, right))
    (range_with_len 0 (length (labels ss))) (range_rises 0 (length (labels ss)))

frames_own : (ss : List Statement) → AllByRecursion (λ (f : Frame). frame_of ss f.label ≡ Some f) (frames ss)
frames_own ss =
    all-filter_map (λ (n : ℕ). Unit {0}) (λ (f : Frame). frame_of ss f.label ≡ Some f) (λ n. frame_of ss (label n))
    (λ n f u e. ap (frame_of ss) (frame_label ss (label n) f e) ∙ e)
    (range_with_len 0 (length (labels ss))) (units (range_with_len 0 (length (labels ss))))

-- the row is the production of its label's frame
pub record IsRowIn (provable : Sym) (ss : List Statement) (r : Production) : Type 0 where
  pub frame : Frame
  pub frame_is : frame_of ss r.label ≡ Some frame
  pub row_is : row_of_frame provable frame ≡ Some r

module _ (e : List Statement) (each : EachBefore IsChecked e) (provable : Sym) where
  abbrev ss : List Statement
  ss = reverse e

  abbrev all_rows : List Production
  all_rows = filter_map (row_of_frame provable) (frames ss)

  row_label : (f : Frame) (r : Production) → frame_of ss f.label ≡ Some f → row_of_frame provable f ≡ Some r → r.label ≡ f.label
  row_label f r is row = (row_facts e each f.label f provable r is row).label

  rows_own : AllByRecursion (IsRowIn provable ss) all_rows
  rows_own =
      all-filter_map (λ (f : Frame). frame_of ss f.label ≡ Some f) (IsRowIn provable ss) (row_of_frame provable)
      (λ f r is row. record { frame = f; frame_is = ap (frame_of ss) (row_label f r is row) ∙ is; row_is = row })
      (frames ss) (frames_own ss)

  -- what is said of two frames is said of their rows, where both are frames of their labels
  abbrev OwnEarlier : Frame → Frame → Type 0
  OwnEarlier f g = (frame_of ss f.label ≡ Some f) × (frame_of ss g.label ≡ Some g) × Earlier f g

  own_with : (f : Frame) → frame_of ss f.label ≡ Some f → (gs : List Frame) → AllByRecursion (λ (g : Frame). frame_of ss g.label ≡ Some g) gs
      → AllByRecursion (Earlier f) gs → AllByRecursion (OwnEarlier f) gs
  own_with f is [] h k = tt
  own_with f is (g ∷ gs) h k = ((is, h.0, k.0), own_with f is gs h.1 k.1)

  own_pairs : (fs : List Frame) → AllByRecursion (λ (f : Frame). frame_of ss f.label ≡ Some f) fs → Pairwise Earlier fs → Pairwise OwnEarlier fs
  own_pairs [] h k = tt
  own_pairs (f ∷ fs) h k = (own_with f h.0 fs h.1 k.0, own_pairs fs h.1 k.1)

  abbrev RowEarlier : Production → Production → Type 0
  RowEarlier r s = r.label.0 < s.label.0

  rows_rise : Pairwise RowEarlier all_rows
  rows_rise =
      pairwise-filter_map OwnEarlier RowEarlier (row_of_frame provable)
      (λ f g r s own is there.
      let left : r.label.0 ≡ f.label.0 = ap (λ (l : Label). l.0) (row_label f r own.0 is) in
      let right : s.label.0 ≡ g.label.0 = ap (λ (l : Label). l.0) (row_label g s own.1 there) in
      let less = own.2 in
      omega (arith, left, right, less))
      (frames ss) (own_pairs (frames ss) (frames_own ss) (frames_rise ss))

  rows_differ : LabelsDiffer all_rows
  rows_differ i j r s is there same =
      places_differ RowEarlier (λ (a b : Production). a.label ≡ b.label) (λ a b q. sym q)
      (λ a b less q. let numbers : a.label.0 ≡ b.label.0 = ap (λ (l : Label). l.0) q in let bad : ⊥ = omega (arith, less, numbers) in bad)
      all_rows rows_rise i j r s is there same

  facts_of : (r : Production) → (h : IsRowIn provable ss r) → RowFacts h.frame r
  facts_of r h = row_facts e each r.label h.frame provable r h.frame_is h.row_is

  each_row : (rs : List Production) → AllByRecursion (IsRowIn provable ss) rs → (k : ℕ) (d : Production) → k < length rs → IsRow (get_or rs k d)
  each_row [] h k d l = let bad : ⊥ = omega (arith, l) in absurd bad
  each_row (r ∷ rs) h zero d l = (facts_of r h.0).row
  each_row (r ∷ rs) h (suc k) d l = each_row rs h.1 k d (omega (arith, l))

  pub are_rows : AreRows all_rows
  are_rows = record { each = λ k d l. each_row all_rows rows_own k d l; labels = rows_differ }

  -- ---- what is kept of them

  kept_by : (o : Option Typecode) (older : List Production) (r : Production) → AllByRecursion (IsRowIn provable ss) older → IsRowIn provable ss r
      → AllByRecursion (IsRowIn provable ss) (keep_by o older r)
  kept_by None older r h p = (p, h)
  kept_by (Some from) older r h p = elim (cases_Bool (leads older r.gives from)) [
    | inl d ↦ rw d h
    | inr d ↦ rw d (p, h)
  ]

  fold_kept : (rest older : List Production) → AllByRecursion (IsRowIn provable ss) older → AllByRecursion (IsRowIn provable ss) rest → AllByRecursion (IsRowIn provable ss) (fold keep older rest)
  fold_kept [] older h k = h
  fold_kept (r ∷ rest) older h k = fold_kept rest (keep older r) (kept_by (chain_from r) older r h k.0) k.1

  pub kept_own : AllByRecursion (IsRowIn provable ss) (kept all_rows)
  kept_own = all-reverse (IsRowIn provable ss) (fold keep [] all_rows) (fold_kept all_rows [] tt rows_own)

  pub kept_row : (l : Label) (r : Production) → row_of (kept all_rows) l ≡ Some r → (f : Frame) × (frame_of ss l ≡ Some f) × (row_of_frame provable f ≡ Some r)
  kept_row l r is =
      let at = row_stands (kept all_rows) l r is in
      let own = all_at (IsRowIn provable ss) (kept all_rows) at.place r kept_own at.stands in
      (own.frame, ap (frame_of ss) (sym at.label_is) ∙ own.frame_is, own.row_is)

  pub kept_frame : (l : Label) (r : Production) → row_of (kept all_rows) l ≡ Some r → (f : Frame) × (frame_of ss l ≡ Some f) × IsRowFrame r f
  kept_frame l r is =
      let at = row_stands (kept all_rows) l r is in
      let own = all_at (IsRowIn provable ss) (kept all_rows) at.place r kept_own at.stands in
      (own.frame, ap (frame_of ss) (sym at.label_is) ∙ own.frame_is, (facts_of r own).frame)

-- ---- of a text

module _ (kinds : Kinds) (text : List ℕ) (db : Database) (is : IsDatabaseOf kinds text db) (ok : statement_fault text ≡ None) where
  abbrev e : List Statement
  e = last_first text

  each : EachBefore IsChecked e
  each = text_checked text ok

  abbrev provable : Sym
  provable = symbol_in (symbols (statements text)) kinds.provable

  pub grammar : IsGrammar db.rows
  grammar = subst IsGrammar (sym is.rows) (kept_is_grammar (rows kinds.provable (statements text)) (are_rows e each provable))

  pub rows_are_frames : (l : Label) (r : Production) → row_of db.rows l ≡ Some r → (f : Frame) × (db.frame l ≡ Some f) × IsRowFrame r f
  rows_are_frames l r row =
      let k = kept_frame e each provable l r (ap (λ rs. row_of rs l) (sym is.rows) ∙ row) in
      (k.0, is.frame l ∙ k.1, k.2)

  -- the formulas of a frame are known at its place
  known : (l : Label) (k : ℕ) (s : Statement) → EachBefore IsChecked (below (statements text) k) → IsChecked (below (statements text) k) s → is_assertion s ≡ true
      → IsKnownAt db k (frame_at (statements text) l k s).formula × AllByRecursion (λ (h : Hyp). IsKnownAt db k h.formula) (frame_at (statements text) l k s).hyps
  known l k s before here a =
      let b = below (statements text) k in (
        known_at_place (statements text) k db is.symbols (is.active_at k) (λ x. is.is_constant_at x k) (symbols_in s) (assertion_known b s here a),
        all_known_at_place (statements text) k db is.symbols (is.active_at k) (λ x. is.is_constant_at x k) (mandatory_hypotheses (mandatory_at (statements text) k s) b)
            (mandatory_known (mandatory_at (statements text) k s) b before),
      )

  known_frame : (l : Label) (f : Frame) → frame_of (statements text) l ≡ Some f → IsKnownAt db f.at f.formula × AllByRecursion (λ (h : Hyp). IsKnownAt db f.at h.formula) f.hyps
  known_frame l f frame =
      let k = frame_known (statements text) l f frame in
      let there = found IsChecked e k.at k.statement each k.stands in
      subst (λ (x : Frame). IsKnownAt db x.at x.formula × AllByRecursion (λ (h : Hyp). IsKnownAt db x.at h.formula) x.hyps) k.frame (known l k.at k.statement there.before there.here k.assertion)

  pub frames_are : (l : Label) (f : Frame) → db.frame l ≡ Some f → IsFrame db l f
  frames_are l f frame =
      let facts = frame_facts e each l f (sym (is.frame l) ∙ frame) in
      let formulas = known_frame l f (sym (is.frame l) ∙ frame) in
      record {
        label = facts.label;
        at = facts.at ∙ ap (λ ps. get_or ps l.0 0) (sym is.positions);
        floats = facts.floats;
        variables = facts.variables;
        formula = formulas.0;
        hyps = formulas.1;
      }

  pub places_are : length db.positions ≡ length db.labels
  places_are = ap (λ ps. length ps) is.positions ∙ positions_are (statements text) ∙ ap (λ ls. length ls) (sym is.labels)

  pub places_rise : Rise db.positions
  places_rise = subst Rise (sym is.positions) (positions_rise text ok)

  pub database_labels : NamesDiffer db.labels
  database_labels = subst NamesDiffer (sym is.labels) (labels_differ text ok)

  pub database_symbols : NamesDiffer db.symbols
  database_symbols = subst NamesDiffer (sym is.symbols) (symbols_differ (statements text))

  pub is_database : IsDatabase db
  is_database = record {
    grammar = grammar;
    rows = rows_are_frames;
    frames = frames_are;
    places = places_are;
    rise = places_rise;
    labels = database_labels;
    symbols = database_symbols;
    usable = is.usable_is;
  }
