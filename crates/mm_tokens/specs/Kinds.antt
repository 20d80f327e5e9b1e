-- The kinds of tokens.
use Rattle.std.specs.Prelude.{ℕ, List, [], ◌∷◌, Option, codes, find, option_map}
use Rattle.std.specs.Str.{bytes_eq}
use Rattle.mm_tokens.specs.declared.token.TokenKind.{TokenKind}
use Rattle.mm_tokens.specs.declared.token.TokenKind.TheVariants as kind

-- each keyword with its kind
abbrev pub keyword_kinds : List (List ℕ × TokenKind)
keyword_kinds =
    (codes "$c", kind.Constants) ∷ (codes "$v", kind.Variables) ∷ (codes "$d", kind.Distinct) ∷ (codes "$f", kind.Floating)
    ∷ (codes "$e", kind.Essential) ∷ (codes "$a", kind.Axiom) ∷ (codes "$p", kind.Provable) ∷ (codes "$=", kind.Equals)
    ∷ (codes "$.", kind.End) ∷ (codes "${", kind.OpenBlock) ∷ (codes "$}", kind.CloseBlock) ∷ (codes "$(", kind.OpenComment)
    ∷ (codes "$)", kind.CloseComment) ∷ (codes "$[", kind.OpenInclude) ∷ (codes "$]", kind.CloseInclude) ∷ []

-- the kind of a keyword; other words have none
abbrev pub keyword_kind : List ℕ → Option TokenKind
keyword_kind bytes = option_map (λ k. k.1) (find (λ k. bytes_eq bytes k.0) keyword_kinds)

-- the kind of a dollar and this byte
abbrev pub mark_kind : ℕ → Option TokenKind
mark_kind mark = keyword_kind (36 ∷ mark ∷ [])
