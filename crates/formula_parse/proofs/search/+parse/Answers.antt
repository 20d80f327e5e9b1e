use Rattle.std.proofs.lemmas.Bool.{eqb-true}
use Rattle.std.proofs.Common.{rules, slice_get, [], ◌∷◌, get_or, refl, ◌≡◌, ℕ, ◌+◌, ◌-◌, ◌<◌, length, take, drop, List, subst, sym, ap, ◌∙◌, arith, Some}
use Rattle.mm_base.specs.declared.tree.Tree.{Tree}
use Rattle.formula_parse.specs.Finds.{Finds, paired}
use Rattle.formula_parse.specs.declared.found.Found.TheVariants.{One}
use Rattle.formula_parse.proofs.LastSlot.{last_slot}
use Rattle.formula_parse.specs.Fits.{Splits, Fits, IsDivided}
use Rattle.formula_parse.specs.Charts.{span, IsComplete}
use Rattle.formula_parse.proofs.Divisions.{place_none, place_stop}
use Rattle.formula_parse.proofs.Parts.{part_first, part_skip, part_skip_rest, part_found, part_last}
use Rattle.formula_parse.proofs.Spans.{span_length}
use Rattle.formula_parse.proofs.Consts.{off, const_turn, const_none, end_none}
use Rattle.formula_parse.proofs.EntryTurns.{chart_entries, IsSoFar, nothing_there, entry_skip, entry_found, entry_stop, entry_end}
use Rattle.formula_parse.proofs.Lists.{can_of}
use Rattle.formula_parse.proofs.Places.{cons_of}
use Rattle.formula_parse.proofs.Lengths.{fits_count}
use Rattle.formula_parse.proofs.Searches.{each_found}
use Rattle.formula_parse.proofs.Arranged.{made_finds}
use Rattle.formula_parse.proofs.Comparisons.{code_same, code_other}
use Rattle.std.proofs.lemmas.Option.{slice_get-get_or, slice_get_past, none-some}
use Rattle.std.proofs.lemmas.Result.{on_ok_weaker}
use Rattle.mm_model.specs.declared.rows.Item.TheVariants.{Const, Slot}
use Rattle.mm_model.specs.Rows.{slot_order}
use Rattle.mm_model.proofs.RowLaws.{is_row}
use Rattle.formula_parse.proofs.Weights.{tree_weight, split_weight, items_weight, split_to_tree, split_to_items, tree_to_items, items_to_rest, items_to_split}
use Rattle.formula_parse.proofs.search.+parse.Goals as goal
use Rattle.formula_parse.proofs.search.+parse.Goals.{trees-then-entry-end+then-eq+in-Some-get+then-row-before+then-eq-2+in-Ok+in_ok-add_nodes-in-Ok+in_default-found}
use Rattle.formula_parse.proofs.search.+parse.Goals.{trees-then-entry-end+then-eq+in-Some-get+else-row-before}
use Rattle.formula_parse.proofs.search.+parse.Goals.{trees-else-row-before-via-then-row-before+else-eq-2, trees-else-row-before-via-else-row-before}
use Rattle.formula_parse.proofs.search.+parse.Goals.{trees-then-entry-end+then-eq+in_default-get, trees-else-entry-end}
use Rattle.formula_parse.proofs.search.+parse.Goals.{trees-else-entry-end-via-then-entry-end+else-eq, trees-else-entry-end-via-else-entry-end}
use Rattle.mm_model.specs.declared.rows.Production.{Production}
use Rattle.formula_parse.specs.Fits.{IsOf}
use Rattle.formula_parse.specs.Charts.{entry_of}

nothing_of : {X : Type 0} (xs : List X) → length xs < 1 → xs ≡ []
nothing_of [] l = refl
nothing_of (x ∷ xs) l = absurd (omega arith)

pub divisions-returns-then-end-begin : goal.divisions-returns-then-end-begin
divisions-returns-then-end-begin t c =
    place_none c.args.rows.now c.args.before c.requires.grammar.rows_hold c.args.slots.now c.args.items.now c.args.code (span c.args.leaves.now c.args.begin c.args.end)
    (omega (arith, span_length c.args.leaves.now c.args.begin c.args.end c.requires.order c.requires.within, c.if-end-begin.true))

pub divisions-loop-n-init : goal.divisions-loop-n-init
divisions-loop-n-init t c =
    let b = c.args.begin in
    part_first c.args.rows.now c.args.before c.requires.grammar.rows_hold c.args.leaves.now c.args.chart.now c.requires.full c.args.slots.now
    c.args.items.now c.args.code b c.args.end c.requires.order c.requires.within
    c.first_place-from.result (omega (arith, c.first_place-from.ensures.within)) (λ j l has reach.
    let can = can_of c.args.leaves.now c.args.chart.now c.args.slots.now c.args.items.now (b + j + 1) c.args.end reach in
    let among = c.ends_from-ends.ensures (b + j + 1) has can in
    omega (arith, l, c.first_place-from.ensures.none (b + j + 1) among (omega arith)))

pub divisions-loop-n-preserved-then-not-has : goal.divisions-loop-n-preserved-then-not-has
divisions-loop-n-preserved-then-not-has t c =
    part_skip c.args.rows.now c.args.before c.requires.grammar.rows_hold c.args.leaves.now c.args.chart.now c.requires.full c.args.slots.now
    c.args.items.now c.args.code c.args.begin c.args.end c.requires.order c.requires.within
    c.loop-n.n (omega arith) (λ h. off c.has.result (c.has.ensures h) c.if-not-has.true) c.loop-n.found c.loop-n.invariant

pub divisions-loop-n-preserved-then-not-can_lead : goal.divisions-loop-n-preserved-then-not-can_lead
divisions-loop-n-preserved-then-not-can_lead t c =
    let middle = c.args.begin + c.loop-n.n + 1 in
    part_skip_rest c.args.rows.now c.args.before c.requires.grammar.rows_hold c.args.leaves.now c.args.chart.now c.requires.full c.args.slots.now
    c.args.items.now c.args.code c.args.begin c.args.end c.requires.order c.requires.within
    c.loop-n.n (omega arith) (λ reach.
    let can = can_of c.args.leaves.now c.args.chart.now c.args.slots.now c.args.items.now middle c.args.end reach in
    off c.can_lead.result (c.can_lead.ensures can) c.if-not-can_lead.true) c.loop-n.found c.loop-n.invariant

pub divisions-loop-n-preserved-then-not-branch : goal.divisions-loop-n-preserved-then-not-branch
divisions-loop-n-preserved-then-not-branch t c =
    part_skip_rest c.args.rows.now c.args.before c.requires.grammar.rows_hold c.args.leaves.now c.args.chart.now c.requires.full c.args.slots.now
    c.args.items.now c.args.code c.args.begin c.args.end c.requires.order c.requires.within
    c.loop-n.n (omega arith) (λ h. off c.in_ok-may_fit.field-0 (c.in_ok-may_fit.ensures h) c.if-not-branch.true) c.loop-n.found c.loop-n.invariant

pub divisions-trees-requires : goal.divisions-trees-requires
divisions-trees-requires t c =
    let less = split_to_tree c.args.rows.now (c.args.begin + c.loop-n.n + 1 - c.args.begin) (c.args.end - c.args.begin) c.args.code c.args.items.now (omega arith) in
    (omega (arith, less, c.decreases), (c.requires.grammar, (c.requires.full, (omega arith, omega (arith, c.requires.within)))))

pub divisions-sequences-searched-requires : goal.divisions-sequences-searched-requires
divisions-sequences-searched-requires t c =
    let less = split_to_items c.args.rows.now (c.args.end - (c.args.begin + c.loop-n.n + 1)) (c.args.end - c.args.begin) c.args.slots.now c.args.code c.args.items.now (omega arith) in
    (omega (arith, less, c.decreases), (c.requires.grammar, (c.requires.full, (omega arith, c.requires.within))))

pub divisions-returns-in-Two : goal.divisions-returns-in-Two
divisions-returns-in-Two t c =
    let turn =
    part_found c.args.rows.now c.args.before c.requires.grammar.rows_hold c.args.leaves.now c.args.chart.now c.requires.full c.args.slots.now
    c.args.items.now c.args.code c.args.begin c.args.end c.requires.order c.requires.within
    c.loop-n.n (omega arith) c.loop-n.found c.trees.new.found c.sequences-searched.new.found
    (paired c.trees.new.found
    c.sequences-searched.new.found) c.add_pairs.new.found c.loop-n.invariant c.in_default-trees.ensures c.in-Ok.ensures refl c.in_ok-add_pairs-in-Ok.ensures in
    place_stop c.args.rows.now c.args.before c.requires.grammar.rows_hold c.args.slots.now c.args.items.now c.args.code
    (span c.args.leaves.now c.args.begin c.args.end) (c.loop-n.n + 1) c.add_pairs.new.found c.in-Two.field-0 c.in-Two.field-1 c.in-Two.is turn

pub divisions-loop-n-preserved : goal.divisions-loop-n-preserved
divisions-loop-n-preserved t c =
    part_found c.args.rows.now c.args.before c.requires.grammar.rows_hold c.args.leaves.now c.args.chart.now c.requires.full c.args.slots.now
    c.args.items.now c.args.code c.args.begin c.args.end c.requires.order c.requires.within
    c.loop-n.n (omega arith) c.loop-n.found c.trees.new.found c.sequences-searched.new.found
    (paired c.trees.new.found
    c.sequences-searched.new.found) c.add_pairs.new.found c.loop-n.invariant c.in_default-trees.ensures c.in-Ok.ensures refl c.in_ok-add_pairs-in-Ok.ensures

pub divisions-returns : goal.divisions-returns
divisions-returns t c =
    let b = c.args.begin in
    let most = c.args.end - b - length c.args.items.now in
    part_last c.args.rows.now c.args.before c.requires.grammar.rows_hold c.args.leaves.now c.args.chart.now c.requires.full c.args.slots.now
    c.args.items.now c.args.code b c.args.end c.requires.order c.requires.within
    c.loop-n.n most (omega arith) (omega arith) (λ j l m has reach.
    let can = can_of c.args.leaves.now c.args.chart.now c.args.slots.now c.args.items.now (b + j + 1) c.args.end reach in
    let among = c.ends_from-ends.ensures (b + j + 1) has can in
    omega (arith, l, m, c.loop-n-test.false, c.last_place-to.ensures.none (b + j + 1) among (omega (arith, m)))) c.loop-n.found c.loop-n.invariant

pub sequences-divisions-requires : goal.sequences-divisions-requires
sequences-divisions-requires t c =
    let n = c.args.end - c.args.begin in
    let slot = slice_get-get_or c.args.slots.now c.in-Slot.k c.in-Some.code.now c.in-Some.ensures.lookup.3.0 ∙ ap (λ x. Some x) (sym c.in-Some.ensures.lookup.1) in
    let first : get_or c.args.items.now 0 (Const record { 0 = 0 }) ≡ Slot c.in-Slot.k = search rules in
    let split = cons_of c.args.items.now (Const record { 0 = 0 }) (Slot c.in-Slot.k) c.in-Slot.len_at_least first in
    let less = items_to_split c.args.rows.now n c.args.slots.now c.in-Slot.k c.in-Some.code.now (take (length c.args.items.now - 1) (drop 1 c.args.items.now)) slot in
    let all =
    subst
    (λ xs. split_weight c.args.rows.now c.in-Some.code.now (take (length c.args.items.now - 1) (drop 1 c.args.items.now)) n
    < items_weight c.args.rows.now c.args.slots.now xs n)
    (sym split) less in
    (omega (arith, all, c.decreases), (c.requires.grammar, (c.requires.full, (c.requires.order, c.requires.within))))

pub sequences-returns-in-None : goal.sequences-returns-in-None
sequences-returns-in-None t c =
    let first : get_or c.args.items.now 0 (Const record { 0 = 0 }) ≡ Slot c.in-Slot.k = search rules in
    let split = cons_of c.args.items.now (Const record { 0 = 0 }) (Slot c.in-Slot.k) c.in-Slot.len_at_least first in
    let past = slice_get_past c.args.slots.now c.in-Slot.k c.in-None.ensures.lookup.3 in
    λ us h.
    let at = subst (λ xs. Fits c.args.rows.now c.args.before c.args.slots.now xs (span c.args.leaves.now c.args.begin c.args.end) us) split h in
    none-some at.1.want (sym past ∙ at.1.code_is)

pub sequences-returns-else-is_empty : goal.sequences-returns-else-is_empty
sequences-returns-else-is_empty t c =
    let text = span c.args.leaves.now c.args.begin c.args.end in
    let slot = slice_get-get_or c.args.slots.now c.in-Slot.k c.in-Some.code.now c.in-Some.ensures.lookup.3.0 ∙ ap (λ x. Some x) (sym c.in-Some.ensures.lookup.1) in
    let first : get_or c.args.items.now 0 (Const record { 0 = 0 }) ≡ Slot c.in-Slot.k = search rules in
    let split = cons_of c.args.items.now (Const record { 0 = 0 }) (Slot c.in-Slot.k) c.in-Slot.len_at_least first in
    let rest = take (length c.args.items.now - 1) (drop 1 c.args.items.now) in
    let f = c.divisions.new.found in
    on_ok_weaker c.divisions.result (λ (h : Finds (IsDivided c.args.rows.now c.args.before c.args.slots.now rest c.in-Some.code.now text) f).
    let own = subst (λ o. Finds (λ us. (n : ℕ) × Splits c.args.rows.now c.args.before (Fits c.args.rows.now c.args.before c.args.slots.now rest) o text us n) f) (sym slot) h in
    subst (λ xs. Finds (Fits c.args.rows.now c.args.before c.args.slots.now xs text) f) (sym split) own) c.divisions.ensures

pub sequences-returns-else-begin-end : goal.sequences-returns-else-begin-end
sequences-returns-else-begin-end t c =
    let empty : c.args.items.now ≡ [] = nothing_of c.args.items.now c.in-empty.len_below in
    λ us h. end_none c.args.rows.now c.args.before c.args.leaves.now c.args.slots.now c.args.begin c.args.end c.requires.order c.requires.within c.if-begin-end.false us
    (subst (λ xs. Fits c.args.rows.now c.args.before c.args.slots.now xs (span c.args.leaves.now c.args.begin c.args.end) us) empty h)

pub trees-sequences-searched-requires : goal.trees-sequences-searched-requires
trees-sequences-searched-requires t c =
    let n = c.args.end - c.args.begin in
    let rows = c.args.rows.now in
    let row = c.in-Some-get.row.now in
    let stands = slice_get-get_or rows _ row c.in-Some-get.ensures.lookup.3.0 ∙ ap (λ x. Some x) (sym c.in-Some-get.ensures.lookup.1) in
    let gives = code_same row.gives c.args.want c.if-eq-2.ensures in
    let less = tree_to_items rows c.requires.grammar.acyclic n _ row c.args.want stands gives in
    let items = subst (λ xs. items_weight rows row.slots xs n < tree_weight rows n c.args.want) (sym c.as_slice.ensures) less in
    let slots = subst (λ xs. items_weight rows xs c.as_slice.result.now n < tree_weight rows n c.args.want) (sym c.as_slice-then-eq-2.ensures) items in
    (omega (arith, slots, c.decreases), (c.requires.grammar, (c.requires.full, (c.requires.order, c.requires.within))))

pub trees-returns-after-loop-entry : goal.trees-returns-after-loop-entry
trees-returns-after-loop-entry t c =
    let rows = c.args.rows.now in
    let leaves = c.args.leaves.now in
    let b = c.args.begin in
    let e = c.args.end in
    let at = slice_get-get_or c.args.chart.now b c.in-Some.entries.now c.in-Some.ensures.lookup.3.0 ∙ ap (λ x. Some x) (sym c.in-Some.ensures.lookup.1) in
    let full =
    subst (IsComplete rows c.args.before leaves b) (sym c.as_slice-entry-items.ensures)
    (chart_entries rows c.args.before leaves c.args.chart.now b c.in-Some.entries.now c.requires.full at) in
    entry_end rows c.args.before c.requires.grammar.rows_hold leaves b e c.requires.order c.requires.within c.args.want
    c.as_slice-entry-items.result.now full c.loop-entry.entry-index c.loop-entry-test.false c.loop-entry.found c.loop-entry.invariant

pub trees-returns-in_default : goal.trees-returns-in_default
trees-returns-in_default t c =
    nothing_there c.args.rows.now c.args.before c.requires.grammar.rows_hold c.args.leaves.now c.args.begin c.args.end c.requires.order c.requires.within c.args.want
    (omega (arith, c.in_default.ensures.lookup.3, c.requires.full.count)) c.write_leaf.new.found c.write_leaf.ensures

pub trees-returns-in-Two : goal.trees-returns-in-Two
trees-returns-in-Two t c =
    let rows = c.args.rows.now in
    let leaves = c.args.leaves.now in
    let b = c.args.begin in
    let e = c.args.end in
    let text = span leaves b e in
    let r = c.in-Some-get.row.now in
    let at = slice_get-get_or c.args.chart.now b c.in-Some.entries.now c.in-Some.ensures.lookup.3.0 ∙ ap (λ x. Some x) (sym c.in-Some.ensures.lookup.1) in
    let full =
    subst (IsComplete rows c.args.before leaves b) (sym c.as_slice-entry-items.ensures)
    (chart_entries rows c.args.before leaves c.args.chart.now b c.in-Some.entries.now c.requires.full at) in
    let entry = slice_get-get_or c.as_slice-entry-items.result.now c.loop-entry.entry-index _ (omega (arith, c.loop-entry-test.true)) in
    let stands = slice_get-get_or rows _ r c.in-Some-get.ensures.lookup.3.0 ∙ ap (λ x. Some x) (sym c.in-Some-get.ensures.lookup.1) in
    let row = is_row rows c.requires.grammar.rows_hold _ r stands in
    let gives = code_same r.gives c.args.want c.if-eq-2.ensures in
    let fitting = c.sequences-searched.new.found in
    let fits = subst (λ xs. Finds (Fits rows c.args.before r.slots xs text) fitting) c.as_slice.ensures
    (subst (λ xs. Finds (Fits rows c.args.before xs c.as_slice.result.now text) fitting) c.as_slice-then-eq-2.ensures c.in-Ok.ensures) in
    let added = c.in_ok-add_nodes-in-Ok.ensures in
    let made = made_finds rows c.args.before r row.each_once c.if-row-before.true text c.args.want gives fitting added.0 added.1 fits in
    let turn =
    entry_found rows c.args.before c.requires.grammar.rows_hold leaves b e c.requires.order c.requires.within c.args.want
    c.as_slice-entry-items.result.now full c.loop-entry.entry-index _ r entry c.if-entry-end.true
    (code_same _ c.args.want c.if-eq.ensures) stands
    c.loop-entry.found added.0 c.add_nodes.new.found c.loop-entry.invariant made added.2 in
    entry_stop rows c.args.before c.requires.grammar.rows_hold leaves b e c.requires.order c.requires.within c.args.want
    c.as_slice-entry-items.result.now full
    (c.loop-entry.entry-index + 1) c.add_nodes.new.found c.in-Two.field-0 c.in-Two.field-1 c.in-Two.is turn

pub trees-add_nodes-requires-clause-count : goal.trees-add_nodes-requires-clause-count
trees-add_nodes-requires-clause-count t c =
    let rows = c.args.rows.now in
    let r = c.in-Some-get.row.now in
    let text = span c.args.leaves.now c.args.begin c.args.end in
    let fitting = c.sequences-searched.new.found in
    let fits = subst (λ xs. Finds (Fits rows c.args.before r.slots xs text) fitting) c.as_slice.ensures
    (subst (λ xs. Finds (Fits rows c.args.before xs c.as_slice.result.now text) fitting) c.as_slice-then-eq-2.ensures c.in-Ok.ensures) in
    each_found (Fits rows c.args.before r.slots r.items text) (λ (us : List Tree). length us ≡ length (slot_order r.items))
    (λ us h. fits_count rows c.args.before c.requires.grammar.rows_hold r.slots r.items text us h) fitting fits

pub trees-loop-entry-preserved : goal.trees-loop-entry-preserved
trees-loop-entry-preserved t c =
    let rows = c.args.rows.now in
    let leaves = c.args.leaves.now in
    let b = c.args.begin in
    let e = c.args.end in
    let ok = c.requires.grammar.rows_hold in
    let text = span leaves b e in
    let entries = c.as_slice-entry-items.result.now in
    let n = c.loop-entry.entry-index in
    let there = slice_get-get_or c.args.chart.now b c.in-Some.entries.now c.in-Some.ensures.lookup.3.0 ∙ ap (λ x. Some x) (sym c.in-Some.ensures.lookup.1) in
    let full =
    subst (IsComplete rows c.args.before leaves b) (sym c.as_slice-entry-items.ensures)
    (chart_entries rows c.args.before leaves c.args.chart.now b c.in-Some.entries.now c.requires.full there) in
    let d = entry_of 0 (record { 0 = record { 0 = 0 } }) 0 in
    let x = get_or entries n d in
    let at : slice_get entries n ≡ Some x = slice_get-get_or entries n d (omega (arith, c.loop-entry-test.true)) in
    let So = IsSoFar rows c.args.before leaves b e c.args.want entries (n + 1) in
    let skip = λ (none : (r : Production) (u : Tree) → x.end ≡ e → x.code ≡ c.args.want → slice_get rows x.row ≡ Some r → IsOf rows c.args.before r text c.args.want u → ⊥).
    entry_skip rows c.args.before ok leaves b e c.requires.order c.requires.within c.args.want entries full n x at none c.loop-entry.found c.loop-entry.invariant in
    elim c.if-entry-end.branch [
      | trees-then-entry-end+then-eq+in-Some-get+then-row-before+then-eq-2+in-Ok+in_ok-add_nodes-in-Ok+in_default-found w ↦
          let r = w.in-Some-get.row.now in
          let stands = slice_get-get_or rows x.row r w.in-Some-get.ensures.lookup.3.0 ∙ ap (λ x. Some x) (sym w.in-Some-get.ensures.lookup.1) in
          let row = is_row rows ok x.row r stands in
          let gives = code_same r.gives c.args.want w.if-eq-2.ensures in
          let fitting = w.sequences-searched.new.found in
          let fits = subst (λ xs. Finds (Fits rows c.args.before r.slots xs text) fitting) w.as_slice.ensures
          (subst (λ xs. Finds (Fits rows c.args.before xs w.as_slice.result.now text) fitting) w.as_slice-then-eq-2.ensures w.in-Ok.ensures) in
          let added = w.in_ok-add_nodes-in-Ok.ensures in
          let made = made_finds rows c.args.before r row.each_once w.if-row-before.true text c.args.want gives fitting added.0 added.1 fits in
          entry_found rows c.args.before ok leaves b e c.requires.order c.requires.within c.args.want entries full n x r at w.if-entry-end.true (code_same x.code c.args.want w.if-eq.ensures) stands
          c.loop-entry.found added.0 c.if-entry-end.found c.loop-entry.invariant made (w.found-is ∙ added.2)
      | trees-then-entry-end+then-eq+in-Some-get+else-row-before w ↦
          let r = w.in-Some-get.row.now in
          let stands = slice_get-get_or rows x.row r w.in-Some-get.ensures.lookup.3.0 ∙ ap (λ x. Some x) (sym w.in-Some-get.ensures.lookup.1) in
          let one = λ (s : Production) (i : slice_get rows x.row ≡ Some s). (let same : s ≡ r = (let a = i in let b = stands in cc) in same) in
          elim w.else-row-before.branch [
            | trees-else-row-before-via-then-row-before+else-eq-2 w' ↦ subst (Finds So) (sym w.found-is)
                (skip (λ s u end code i h. code_other r.gives c.args.want (sym w'.if-eq-2.false ∙ w'.eq-then-row-before.ensures) (ap (λ (p : Production). p.gives) (sym (one s i)) ∙ h.gives)))
            | trees-else-row-before-via-else-row-before w' ↦ subst (Finds So) (sym w.found-is)
                (skip (λ s u end code i h. (let same = ap (λ (p : Production). p.at) (one s i) in omega (arith, same, h.below, w'.if-row-before.false))))
          ]
      | trees-then-entry-end+then-eq+in_default-get w ↦ subst (Finds So) (sym w.found-is)
          (skip (λ s u end code i h. none-some s (sym (slice_get_past rows x.row w.in_default-get.ensures.lookup.3) ∙ i)))
      | trees-else-entry-end w ↦ elim w.else-entry-end.branch [
        | trees-else-entry-end-via-then-entry-end+else-eq w' ↦ subst (Finds So) (sym w.found-is) (skip (λ s u end code i h. code_other x.code c.args.want (sym w'.if-eq.false ∙ w'.eq.ensures) code))
        | trees-else-entry-end-via-else-entry-end w' ↦ subst (Finds So) (sym w.found-is) (skip (λ s u end code i h. w'.if-entry-end.false end))
      ]
    ]

pub sequences-sequences-requires : goal.sequences-sequences-requires
sequences-sequences-requires t c =
    let next = c.has_const.ensures.within c.if-has_const.true in
    let less =
    items_to_rest c.args.rows.now (c.args.end - (c.args.begin + 1)) (c.args.end - c.args.begin) c.args.slots.now c.args.items.now
    (take (length c.args.items.now - 1) (drop 1 c.args.items.now)) (omega (arith, next)) in
    (omega (arith, less, c.decreases), (c.requires.grammar, (c.requires.full, (omega (arith, next), c.requires.within))))

pub sequences-returns-then-has_const : goal.sequences-returns-then-has_const
sequences-returns-then-has_const t c =
    let rows = c.args.rows.now in
    let leaves = c.args.leaves.now in
    let b = c.args.begin in
    let e = c.args.end in
    let rest = take (length c.args.items.now - 1) (drop 1 c.args.items.now) in
    let first : get_or c.args.items.now 0 (Const record { 0 = 0 }) ≡ Const c.in-Const.sym = search rules in
    let split = cons_of c.args.items.now (Const record { 0 = 0 }) (Const c.in-Const.sym) c.in-Const.len_at_least first in
    let next = c.has_const.ensures.within c.if-has_const.true in
    let at = c.has_const.ensures.stands c.if-has_const.true in
    let f = c.sequences.new.found in
    on_ok_weaker c.sequences.result (λ (h : Finds (Fits rows c.args.before c.args.slots.now rest (span leaves (b + 1) e)) f).
    subst (λ xs. Finds (Fits rows c.args.before c.args.slots.now xs (span leaves b e)) f) (sym split)
    (const_turn rows c.args.before leaves c.args.slots.now b e c.requires.order c.requires.within c.in-Const.sym rest (omega (arith, next)) at f h)) c.sequences.ensures

pub sequences-returns-else-has_const : goal.sequences-returns-else-has_const
sequences-returns-else-has_const t c =
    let rows = c.args.rows.now in
    let leaves = c.args.leaves.now in
    let b = c.args.begin in
    let e = c.args.end in
    let rest = take (length c.args.items.now - 1) (drop 1 c.args.items.now) in
    let first : get_or c.args.items.now 0 (Const record { 0 = 0 }) ≡ Const c.in-Const.sym = search rules in
    let split = cons_of c.args.items.now (Const record { 0 = 0 }) (Const c.in-Const.sym) c.in-Const.len_at_least first in
    λ us h. const_none rows c.args.before leaves c.args.slots.now b e c.requires.order c.requires.within c.in-Const.sym rest
    (λ i at. off c.has_const.result (c.has_const.ensures.sees (omega (arith, i)) at) c.if-has_const.false) us
    (subst (λ xs. Fits rows c.args.before c.args.slots.now xs (span leaves b e) us) split h)

pub sequences-trees-searched-requires : goal.sequences-trees-searched-requires
sequences-trees-searched-requires t c =
    let n = c.args.end - c.args.begin in
    let rows = c.args.rows.now in
    let slot = slice_get-get_or c.args.slots.now c.in-Slot.k c.in-Some.code.now c.in-Some.ensures.lookup.3.0 ∙ ap (λ x. Some x) (sym c.in-Some.ensures.lookup.1) in
    let first : get_or c.args.items.now 0 (Const record { 0 = 0 }) ≡ Slot c.in-Slot.k = search rules in
    let split = cons_of c.args.items.now (Const record { 0 = 0 }) (Slot c.in-Slot.k) c.in-Slot.len_at_least first in
    let rest = take (length c.args.items.now - 1) (drop 1 c.args.items.now) in
    let none : length rest ≡ 0 = eqb-true (length rest) 0 (sym c.is_empty.ensures ∙ c.if-is_empty.true) in
    let to_split = items_to_split rows n c.args.slots.now c.in-Slot.k c.in-Some.code.now rest slot in
    let to_tree = split_to_tree rows n n c.in-Some.code.now rest (omega (arith, none)) in
    let all = subst (λ xs. split_weight rows c.in-Some.code.now rest n < items_weight rows c.args.slots.now xs n) (sym split) to_split in
    (omega (arith, all, to_tree, c.decreases), (c.requires.grammar, (c.requires.full, (c.requires.order, c.requires.within))))

pub sequences-returns-in-Ok : goal.sequences-returns-in-Ok
sequences-returns-in-Ok t c =
    let rows = c.args.rows.now in
    let text = span c.args.leaves.now c.args.begin c.args.end in
    let slot = slice_get-get_or c.args.slots.now c.in-Slot.k c.in-Some.code.now c.in-Some.ensures.lookup.3.0 ∙ ap (λ x. Some x) (sym c.in-Some.ensures.lookup.1) in
    let first : get_or c.args.items.now 0 (Const record { 0 = 0 }) ≡ Slot c.in-Slot.k = search rules in
    let split = cons_of c.args.items.now (Const record { 0 = 0 }) (Slot c.in-Slot.k) c.in-Slot.len_at_least first in
    let rest = take (length c.args.items.now - 1) (drop 1 c.args.items.now) in
    let none : length rest ≡ 0 = eqb-true (length rest) 0 (sym c.is_empty.ensures ∙ c.if-is_empty.true) in
    let alone : c.args.items.now ≡ Slot c.in-Slot.k ∷ [] = split ∙ ap (λ xs. Slot c.in-Slot.k ∷ xs) (nothing_of rest (omega (arith, none))) in
    let last = c.trees-searched.new.found in
    let f = c.write_last.new.found in
    let found = last_slot rows c.args.before c.args.slots.now c.in-Slot.k c.in-Some.code.now slot text last c.in-Ok.ensures in
    on_ok_weaker c.write_last.result (λ (is : f ≡ paired last (One [])).
    subst (λ xs. Finds (Fits rows c.args.before c.args.slots.now xs text) f) (sym alone)
    (subst (Finds (Fits rows c.args.before c.args.slots.now (Slot c.in-Slot.k ∷ []) text)) (sym is) found)) c.write_last.ensures
