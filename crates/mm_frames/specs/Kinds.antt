-- Kinds of tokens. This is part of the proof, and not of the claim.
use Rattle.std.specs.Prelude.{Bool, true, false, not, Option, None, Some}
use Rattle.mm_tokens.specs.declared.token.TokenKind.{TokenKind}
use Rattle.mm_tokens.specs.declared.token.TokenKind.TheVariants as token

-- `$f`, `$e`, `$a` and `$p`
abbrev pub wants_label : TokenKind → Bool
wants_label token.Floating = true
wants_label token.Essential = true
wants_label token.Axiom = true
wants_label token.Provable = true
wants_label k = false

-- whether the token behind a label is there and wants none
abbrev pub is_extra : Option TokenKind → Bool
is_extra None = false
is_extra (Some k) = not (wants_label k)
