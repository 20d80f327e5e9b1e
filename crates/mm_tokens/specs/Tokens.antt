-- The tokens as the reader gives them, and its errors as faults of the definitions.
use Rattle.std.specs.Prelude.{◌≡◌, ◌+◌, Option, Some, length, unwrap_or}
use Rattle.mm_model.specs.Faults.{Fault, fault}
use Rattle.mm_model.specs.Words.{Word}
use Rattle.mm_tokens.specs.declared.token.TokenKind.TheVariants as kind
use Rattle.mm_tokens.specs.declared.token.Token.{Token}
use Rattle.mm_tokens.specs.declared.token.TokenFault.{TokenFault}
use Rattle.mm_tokens.specs.declared.token.TokenFault.TheVariants as faults
use Rattle.mm_tokens.specs.Kinds.{keyword_kind}

-- a word as a token
abbrev pub token_of : Word → Token
token_of w = record { start = w.start; «end» = w.start + length w.bytes; kind = unwrap_or (keyword_kind w.bytes) kind.Word }

-- the error is want of memory, or this first fault
abbrev pub IsFault : TokenFault → Option Fault → Type 0
IsFault faults.Memory first = Unit {0}
IsFault (faults.BadByte at) first = first ≡ Some (fault at 1)
IsFault (faults.OpenComment at) first = first ≡ Some (fault at 2)
IsFault (faults.CommentInComment at) first = first ≡ Some (fault at 3)
IsFault (faults.BadKeyword at) first = first ≡ Some (fault at 4)
