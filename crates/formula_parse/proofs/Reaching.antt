-- Where items fit a part of the text, the chart leads along it.
use Rattle.std.specs.Prelude.{◌≤◌, ◌+◌, ℕ, List, [], ◌∷◌, length}
use Rattle.std.proofs.Common.{arith, subst}
use Rattle.mm_base.specs.declared.symbols.Typecode.{Typecode}
use Rattle.mm_base.specs.declared.tree.Tree.{Tree}
use Rattle.mm_model.specs.declared.rows.Item.{Item}
use Rattle.mm_model.specs.declared.rows.Item.TheVariants.{Const, Slot}
use Rattle.mm_model.specs.declared.rows.Leaf.{Leaf}
use Rattle.mm_model.specs.declared.rows.Leaf.TheVariants as leaf
use Rattle.mm_model.specs.declared.rows.Production.{Production}
use Rattle.mm_model.specs.Typed.{Parses}
use Rattle.mm_model.specs.Rows.{AreRows}
use Rattle.formula_parse.specs.declared.reach.Entry.{Entry}
use Rattle.formula_parse.specs.Fits.{Fits}
use Rattle.formula_parse.specs.Charts.{span, IsEntry, Reaches, IsChart}
use Rattle.formula_parse.proofs.Lengths.{parses_pos}
use Rattle.formula_parse.proofs.Spans.{span_length, span_take, span_drop, span_empty, span_front, span_first, span_rest}

module _ (rows : List Production) (before : ℕ) (ok : AreRows rows) (leaves : List Leaf) (chart : List (List Entry)) (from : ℕ) (full : IsChart rows before leaves from chart) where
  -- a tree of a part is in the chart
  pub parses_entry : (b e : ℕ) (code : Typecode) (t : Tree) → from ≤ b → b ≤ e → e ≤ length leaves → Parses rows before (span leaves b e) code t → IsEntry chart b e code
  parses_entry b e code t f l m h =
      let pos = parses_pos rows before ok (span leaves b e) code t h in
      let at = full.each b f (omega (arith, pos, span_length leaves b e l m)) in
      record { entries = at.0; stand = at.1; has = at.2.parts_in e code t l m h }

  pub fits_reaches : (slots : List Typecode) (items : List Item) (q e : ℕ) (us : List Tree) → from ≤ q → q ≤ e → e ≤ length leaves
      → Fits rows before slots items (span leaves q e) us → Reaches leaves chart slots items q e
  fits_reaches slots [] q e us f l m h = span_empty leaves q e l m h.0
  fits_reaches slots (Const s ∷ items) q e us f l m h =
      let x = leaf.Const s in
      let next = span_front leaves q e x h.0 l m h.1 in
      let rest = subst (λ xs. Fits rows before slots items xs us) (span_rest leaves q e x h.0 next h.1) h.2 in
      (span_first leaves q e x h.0 h.1, fits_reaches slots items (q + 1) e us (omega arith) next m rest)
  fits_reaches slots (Slot k ∷ items) q e us f l m h =
      let n = h.0 in
      let s = h.1 in
      let within : q + n ≤ e = omega (arith, s.within, span_length leaves q e l m) in
      let front = subst (λ xs. Parses rows before xs s.want s.first) (span_take leaves q e n within) s.front in
      let rest = subst (λ xs. Fits rows before slots items xs s.more) (span_drop leaves q e n within) s.after in (
        q + n,
        s.want,
        s.code_is,
        parses_entry q (q + n) s.want s.first f (omega arith) (omega arith) front,
        fits_reaches slots items (q + n) e s.more (omega arith) within m rest,
      )
