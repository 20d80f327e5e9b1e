use Rattle.std.proofs.lemmas.Option.{slice_get-get_or}
use Rattle.std.proofs.lemmas.List.{length-append}
use Rattle.std.proofs.Common.{rules, [], ◌∷◌, get_or, slice_set, Some, ◌≡◌, ◌<◌, ℕ, length, List, slice_get, ap, ◌∙◌, sym, arith, refl}
use Rattle.mm_base.specs.declared.tree.Tree.{Tree}
use Rattle.mm_model.specs.Rows.{slot_order, place_of}
use Rattle.formula_parse.proofs.Arranged.{pick_arranged}
use Rattle.formula_parse.proofs.Moves.{moved_turn, left_turn}
use Rattle.formula_parse.proofs.making.rearranged.Goals as goal

pub returns : goal.returns
returns c =
    let row = c.args.row.now in
    let made : c.from_vec.result ≡ c.loop-k.children.items = c.from_vec.ensures in
    let n : c.loop-k.k ≡ length row.slots = omega (arith, ap length c.as_slice-k-end.ensures) in
    let count : length c.from_vec.result ≡ length row.slots = ap length made ∙ c.loop-k.invariant.0 ∙ n in
    let each = λ (k : ℕ) (l : k < length row.slots).
    ap (λ (xs : List Tree). slice_get xs k) made ∙ c.loop-k.invariant.2 k (omega (arith, n)) in
    record {
      children = c.from_vec.result;
      tree_is = refl;
      count = count;
      picks = pick_arranged c.from_vec.result (slot_order row.items) c.args.trees (length row.slots) c.requires.once (sym c.requires.count) each;
    }

pub loop-k-preserved : goal.loop-k-preserved
loop-k-preserved c =
    let row = c.args.row.now in
    let order = slot_order row.items in
    let n = length row.slots in
    let k = c.loop-k.k in
    let left = c.loop-k.left.items in
    let children = c.loop-k.children.items in
    let trees = c.args.trees in
    let got = c.replace.result in
    let d = c.index_mut.result.now in
    let once = c.requires.once in
    let place : c.slot_place-at.result ≡ place_of k order = c.slot_place-at.ensures.place ∙ ap (λ xs. place_of k (slot_order xs)) c.as_slice.ensures in
    let l : k < n = omega (arith, c.loop-k-test.true, ap length c.as_slice-k-end.ensures) in
    let within : place_of k order < length left = omega (arith, once.found k l, c.requires.count, c.loop-k.invariant.1) in
    let here : slice_get left (place_of k order) ≡ Some got = slice_get-get_or left (place_of k order) d within
    ∙ ap (λ x. Some x) (ap (λ p. get_or left p d) (sym place) ∙ sym c.index_mut.ensures.value ∙ sym c.replace.ensures.value) in
    let at : slice_get trees (place_of k order) ≡ Some got = sym (c.loop-k.invariant.3 k (omega arith) l) ∙ here in
    let pushed = c.in_ok-push.ensures.items in
    let count : length (slice_set left c.slot_place-at.result c.replace.new.dest) ≡ length left = search rules in (
      omega (arith, ap length pushed, length-append children (got ∷ []), c.loop-k.invariant.0),
      count ∙ c.loop-k.invariant.1,
      (λ i m. ap (λ xs. slice_get xs i) pushed ∙ moved_turn trees order n once children k got c.loop-k.invariant.0 l at c.loop-k.invariant.2 i m),
      (λ i m o. ap (λ p. slice_get (slice_set left p c.replace.new.dest) (place_of i order)) place ∙ left_turn trees order n once left k c.replace.new.dest l c.loop-k.invariant.3 i m o),
    )
