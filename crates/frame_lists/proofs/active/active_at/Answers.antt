use Rattle.std.proofs.Common.{◌≡◌, ◌≤◌, length, ap, ◌∙◌, arith, Result, Ok, Err}
use Rattle.std.proofs.lemmas.List.{length-map}
use Rattle.std.specs.Result.{IfOk}
use Rattle.mm_model.specs.Frames.{symbols, active_at}
use Rattle.mm_model.specs.Statements.{statements}
use Rattle.mm_model.specs.declared.frames.Active.{Active}
use Rattle.frame_lists.specs.Entries.{entry_in}
use Rattle.frame_lists.proofs.ActiveLaws.{active-is}
use Rattle.frame_lists.proofs.active.active_at.Goals as goal

all_parts : {E : Type 0} (P Q R S : Active → Type 0) → ((a : Active) → P a → Q a → R a → S a) → (r : Result Active E) → IfOk r P → IfOk r Q → IfOk r R → IfOk r S
all_parts P Q R S f (Ok a) p q r = f a p q r
all_parts P Q R S f (Err e) p q r = tt

pub returns : goal.returns
returns c = λ text ok of.
    let ss = statements text in
    let sound = c.statements_are_sound.ensures text ok in
    let long = ap (λ xs. length xs) of.entries_are ∙ length-map ss (entry_in (symbols ss)) in
    let room = c.requires in
    let inside : c.args.place ≤ length ss = omega (arith, long, room) in
    all_parts _ _ _ (λ a. a ≡ active_at ss c.args.place)
    (λ a variables hyps pairs. active-is ss c.args.listed.now of sound c.args.place inside c.in_ok-scope.scope c.in_ok-scope.ensures a.variables a.hyps a.pairs variables hyps pairs)
    c.active_in.result c.active_in.ensures.variables c.active_in.ensures.hyps c.active_in.ensures.pairs
