use Rattle.std.proofs.Common.{◌∙◌, ◌<◌, ap, map, drop, length, arith, List, ℕ}
use Rattle.std.proofs.lemmas.Bool.Decides.{nat_tests}
use Rattle.std.specs.String.{string_bytes}
use Rattle.call_answers.specs.CommandLine.{of_word}
use Rattle.mmp_run.proofs.OptionWords.{first_word}
use Rattle.mmp_run.proofs.command.read_words.Goals as goal

pub returns : goal.returns
returns c =
    let some : 0 < length c.args.words.now = grind (arith, nat_tests, c.if-is_empty.ensures) in
    (rw c.split_at.ensures.back at c.read_by_name.ensures)
    ∙ ap (λ (w : List ℕ). of_word w (map string_bytes (drop 1 c.args.words.now))) (c.as_str.ensures.value ∙ ap string_bytes c.index-words-0.is)
    ∙ first_word string_bytes c.args.words.now c.index-words-0.result some
