-- Pairs put into a set one after the other.
use Rattle.std.specs.Prelude.{◌≡◌, List, fold, option_and_then}
use Rattle.std.specs.List.{AllByRecursion}
use Rattle.mm_base.specs.declared.symbols.Pair.{Pair}
use Rattle.mm_database.specs.Opened.{Opened}
use Rattle.solve_model.specs.PairSets.{ordered, put_pair}
use Rattle.written_model.specs.Pairs.{needed_by}
use Rattle.written_steps.specs.Drafts.{use_in}
use Rattle.written_steps.specs.declared.draft.DraftItem.{DraftItem}
use Rattle.written_steps.specs.declared.draft.DraftItem.TheVariants as draft

-- the lesser variable stands first
abbrev pub IsOrdered : Pair → Type 0
IsOrdered p = ordered p.a p.b ≡ p

abbrev pub AreOrdered : List Pair → Type 0
AreOrdered ps = AllByRecursion IsOrdered ps

-- the pair of two variables, whichever is first
abbrev pub put_either : List Pair → Pair → List Pair
put_either ps p = put_pair ps (ordered p.a p.b)

-- what an item needs
abbrev pub put_draft : Opened → List Pair → DraftItem → List Pair
put_draft d ps (draft.Comment lines) = ps
put_draft d ps (draft.Step s) = fold put_either ps (needed_by (option_and_then (use_in d) s.by))
