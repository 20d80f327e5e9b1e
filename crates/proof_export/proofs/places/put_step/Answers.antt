use Rattle.std.proofs.Common.{◌≡◌, ℕ, List, None, true, ap, sym, subst, ◌∙◌}
use Rattle.std.specs.Prelude.{is_some}
use Rattle.std.specs.Global.{Vec}
use Rattle.std.specs.Str.{bytes_eq}
use Rattle.indexmap.proofs.CallerLemmas.{insert_entry-new}
use Rattle.proof_export.specs.Places.{key_of, number_at}
use Rattle.proof_export.proofs.Indexing.{step_put, step_kept, is_absent, is_there}
use Rattle.proof_export.proofs.places.put_step.Goals as goal

pub returns-in_ok-insert : goal.returns-in_ok-insert
returns-in_ok-insert c = λ steps m are.
    let entries = c.args.places.now.entries in
    let key = c.in_ok-key.key in
    let none : number_at entries c.as_slice.result.now ≡ None = is_absent (number_at entries c.as_slice.result.now) (sym c.contains_key.ensures ∙ c.if-not-contains_key.true) in
    let put = c.in_ok-insert.ensures.entries
    ∙ insert_entry-new (λ (a b : Vec ℕ). bytes_eq a.items b.items) c.args.places.now key c.args.number (ap (number_at entries) (sym c.as_slice.ensures.value) ∙ none) in
    step_put steps c.args.formula.now entries c.insert.new.self.entries key c.args.number put c.in_ok-key.ensures m are

pub returns-else-not-contains_key : goal.returns-else-not-contains_key
returns-else-not-contains_key c = λ steps m are.
    let entries = c.args.places.now.entries in
    let has : is_some (number_at entries (key_of c.args.formula.now)) ≡ true =
    subst (λ (n : List ℕ). is_some (number_at entries n) ≡ true) (c.as_slice.ensures.value ∙ c.in_ok-key.ensures) (sym c.contains_key.ensures ∙ c.if-not-contains_key.false) in
    step_kept steps c.args.formula.now entries (is_there (number_at entries (key_of c.args.formula.now)) has) are
