use Rattle.std.proofs.Common.{◌≡◌, [], ℕ, Vec, Global, cond, List, Option, Some, unwrap_or, ap, ◌∙◌}
use Rattle.std.specs.HashMap.{get}
use Rattle.mm_base.specs.declared.symbols.Label.{Label}
use Rattle.mm_database.proofs.HeadLaws.{same_key, heads_turn}
use Rattle.mm_database.proofs.heads.Heads.add.Goals as goal
use Rattle.mm_database.proofs.heads.Heads.add.Goals.{in-None, in-Some}

abbrev update_at : ℕ × ℕ → Option (List Label) → Option (List Label) → ℕ × ℕ → Option (List Label)
update_at k some old q = cond (same_key k q) some old

pub returns : goal.returns
returns c =
    let f = λ (q : ℕ × ℕ). get same_key c.args.self.now.labels q in
    let m = λ (q : ℕ × ℕ). get same_key c.remove.new.self q in
    let g = λ (q : ℕ × ℕ). get same_key c.insert.new.self q in
    let was : c.match-remove.labels.items ≡ unwrap_or (f c.args.key) [] = elim c.match-remove.branch [
      | in-None w ↦ ap (λ (v : Vec Label Global). v.items) w.labels-is ∙ w.new-labels.ensures.items ∙ ap (λ (o : Option (List Label)). unwrap_or o []) w.in-None.ensures.value
      | in-Some w ↦ ap (λ (v : Vec Label Global). v.items) w.labels-is ∙ w.into_vec-labels.ensures ∙ ap (λ (o : Option (List Label)). unwrap_or o []) w.in-Some.ensures.value
    ] in
    let put = c.from_vec.ensures ∙ c.in_ok-push.ensures.items in
    heads_turn f m g c.args.key c.match-remove.labels.items c.args.label was (λ q. c.remove.ensures.updates.0 q)
    (λ q. c.in_ok-insert.ensures.updates.0 q ∙ ap (λ (v : List Label). update_at c.args.key (Some v) (m q) q) put)
