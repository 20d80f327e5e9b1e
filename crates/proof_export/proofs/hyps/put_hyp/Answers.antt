use Rattle.std.proofs.Common.{◌≡◌, ℕ, List, None, true, ap, sym, subst, ◌∙◌}
use Rattle.std.specs.Prelude.{is_some}
use Rattle.std.specs.Global.{Vec}
use Rattle.std.specs.Str.{bytes_eq}
use Rattle.indexmap.proofs.CallerLemmas.{insert_entry-new}
use Rattle.proof_export.specs.Places.{number_at}
use Rattle.proof_export.proofs.Indexing.{hyp_put, hyp_kept, is_absent, is_there}
use Rattle.proof_export.proofs.hyps.put_hyp.Goals as goal

pub returns-in_ok-insert : goal.returns-in_ok-insert
returns-in_ok-insert c = λ hyps m are.
    let entries = c.args.places.now.entries in
    let key = c.in_ok-from_slice.field-0 in
    let none : number_at entries c.as_slice-name.result.now ≡ None = is_absent (number_at entries c.as_slice-name.result.now) (sym c.contains_key.ensures ∙ c.if-not-contains_key.true) in
    let put = c.in_ok-insert.ensures.entries
    ∙ insert_entry-new (λ (a b : Vec ℕ). bytes_eq a.items b.items) c.args.places.now key c.args.place (ap (number_at entries) c.in_ok-from_slice.ensures.items ∙ none) in
    hyp_put hyps c.args.hyp.now entries c.insert.new.self.entries key c.args.place put (c.in_ok-from_slice.ensures.items ∙ c.as_slice-name.ensures) m are

pub returns-else-not-contains_key : goal.returns-else-not-contains_key
returns-else-not-contains_key c = λ hyps m are.
    let entries = c.args.places.now.entries in
    let has : is_some (number_at entries c.args.hyp.now.name) ≡ true =
    subst (λ (n : List ℕ). is_some (number_at entries n) ≡ true) c.as_slice-name.ensures (sym c.contains_key.ensures ∙ c.if-not-contains_key.false) in
    hyp_kept hyps c.args.hyp.now entries (is_there (number_at entries c.args.hyp.now.name) has) are
