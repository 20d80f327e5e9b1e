use Rattle.std.proofs.Common.{ℕ, List, [], ◌∷◌, ◌++◌, refl, ap, ◌∙◌}
use Rattle.std.proofs.lemmas.Result.{on_ok_weaker}
use Rattle.mm_base.specs.declared.symbols.Sym.{Sym}
use Rattle.frame_lists.proofs.TogetherLaws.{all_pairs, pushed-all}
use Rattle.frame_lists.proofs.together.Together.push.Goals as goal

pub returns-clause-whole : goal.returns-clause-whole
returns-clause-whole c =
    let number = c.args.number in
    let pairs = c.as_slice.ensures.value ∙ c.in_ok-pairs.ensures ∙ ap (λ (ss : List Sym). all_pairs ss) c.symbols.ensures in
    on_ok_weaker c.insert.result
    (λ put. pushed-all c.args.listed.now c.args.self.now c.note_all.new.self (record { numbers = c.insert.new.self; places = c.note_all.new.self.places }) number
    c.as_slice.result.now pairs c.in_ok-note_all.ensures (put ∙ ap (λ (ns : List ℕ). ns ++ number ∷ []) c.in_ok-note_all.ensures.numbers) (λ q. refl)) c.insert.ensures.put
