use Rattle.std.proofs.Common.{◌≡◌, take}
use Rattle.std.specs.List.{list_any}
use Rattle.mm_model.specs.Tokens.{is_bad_byte}
use Rattle.mm_tokens.proofs.scan.has_bad_byte.Given as goal

abbrev pub invariant-loop-byte : goal.invariant-loop-byte
invariant-loop-byte l = l.found ≡ list_any is_bad_byte (take l.byte-index l.text)
