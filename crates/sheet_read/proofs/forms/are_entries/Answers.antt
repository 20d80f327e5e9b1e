use Rattle.std.proofs.Common.{ap, List, ℕ, sym, ◌∙◌, eqb, rules, tests}
use Rattle.std.proofs.lemmas.Iterator.Search.{all_from_yields_List}
use Rattle.std.proofs.lemmas.Iterator.Splits.{YieldsList-from_slice_split}
use Rattle.std.specs.List.{list_all}
use Rattle.sheet_text.specs.Forms.{is_entry}
use Rattle.sheet_read.proofs.Splits.{parts-some}
use Rattle.sheet_read.proofs.forms.are_entries.Goals as goal

pub returns-else-is_empty : goal.returns-else-is_empty
returns-else-is_empty c =
    all_from_yields_List is_entry _ _ _ c.all.ensures.ran
    (YieldsList-from_slice_split _ (λ b. eqb b 44) c.args.places.now c.split.ensures.rest c.split.ensures.done c.split.ensures.closure
    (λ x b q k. search (rules, tests)))
    (λ x b q k. search (rules, tests))
    ∙ ap (λ (ps : List (List ℕ)). list_all is_entry ps) (sym (parts-some c.args.places.now (sym c.is_empty.ensures ∙ c.if-is_empty.false)))
