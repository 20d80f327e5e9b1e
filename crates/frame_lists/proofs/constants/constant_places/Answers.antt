use Rattle.std.proofs.Common.{ℕ, List, length, ap, ◌∙◌, arith, ◌<◌, ◌^◌}
use Rattle.std.proofs.lemmas.List.{length-map}
use Rattle.mm_model.specs.Frames.{symbols}
use Rattle.mm_model.specs.Statements.{statements}
use Rattle.frame_lists.specs.declared.entry.Entry.{Entry}
use Rattle.frame_lists.specs.Entries.{entry_in}
use Rattle.frame_lists.specs.Places.{places_upto}
use Rattle.frame_lists.proofs.ConstantLaws.{places-are}
use Rattle.frame_lists.proofs.constants.constant_places.Goals as goal

pub returns : goal.returns
returns c = λ text ok count entries.
    let ss = statements text in
    let sound = c.statements_are_sound.ensures text ok in
    let room = c.requires in
    let long = ap (λ (xs : List Entry). length xs) entries ∙ length-map ss (entry_in (symbols ss)) in
    let few : length ss < 2 ^ 32 = omega (arith, room, long) in
    let law =
    ap (λ (n : ℕ). places_upto n c.args.entries.now (length c.args.entries.now)) count
    ∙ ap (λ (xs : List Entry). places_upto (length (symbols ss)) xs (length xs)) entries ∙ places-are ss sound few in
    rw law at c.places_of.ensures
