use Rattle.std.proofs.Common.{◌≡◌, [], take}
use Rattle.std.specs.List.{flat_map, slice_index_or}
use Rattle.mm_base.specs.declared.symbols.Label.{Label as LabelOf}
use Rattle.sheet_text.specs.Layout.{ended}
use Rattle.ref_select.proofs.texts.name_lines.Given as goal

abbrev pub invariant-loop-label : goal.invariant-loop-label
invariant-loop-label l = l.text.items ≡ flat_map (λ (x : LabelOf). ended (slice_index_or l.frames.labels x.0 [])) (take l.label-index l.labels)
