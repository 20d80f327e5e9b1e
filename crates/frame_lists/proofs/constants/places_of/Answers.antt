use Rattle.std.proofs.Common.{◌≡◌, ℕ, List, drop, length, sym, ap, ◌∙◌, arith, Option, add-one}
use Rattle.std.proofs.lemmas.List.{take_at}
use Rattle.frame_lists.specs.declared.entry.Entry.{Entry}
use Rattle.frame_lists.specs.Places.{noted_at, noted_entry, places_upto}
use Rattle.frame_lists.proofs.Upto.{entry-here}
use Rattle.frame_lists.proofs.constants.places_of.Goals as goal

pub loop-number-preserved : goal.loop-number-preserved
loop-number-preserved c =
    let n = c.args.symbols in
    let xs = c.args.entries.now in
    let k = c.loop-number.number in
    let x = c.index-entries-number.result in
    let new = c.note_entry.new.places in
    let at = entry-here xs k x c.loop-number-test.true c.index-entries-number.is in
    let value = ap (λ (ps : List ℕ). length ps) c.deref_mut.ensures.value in
    let kept = c.note_entry.auto.places in
    let whole = c.loop-number.places.ok in
    let long : length new ≡ c.loop-number.places.len = omega arith in
    take_at new (drop (length new) c.loop-number.places.items) c.loop-number.places.len long ∙ c.note_entry.ensures
    ∙ ap (λ (ps : List ℕ). noted_entry k ps x) (c.deref_mut.ensures.value ∙ c.loop-number.invariant) ∙ ap (λ (o : Option Entry). noted_at k (places_upto n xs k) o) (sym at)
    ∙ ap (λ (m : ℕ). places_upto n xs m) (sym (add-one k))
