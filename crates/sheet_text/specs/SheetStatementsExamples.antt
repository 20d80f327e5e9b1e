-- Statements of small worksheets, computed.
use Rattle.std.specs.Prelude.{◌≡◌, ℕ, true, false, List, [], ◌∷◌, codes, map, refl}
use Rattle.sheet_text.specs.Lines.{line}
use Rattle.sheet_text.specs.SheetStatements.{Statement, statement, statements_where, opens_proof, ends_proof, tokens_in, is_footer, is_distinct, is_comment}

-- a formula over two lines
pub indented : statements_where false (line 1 (codes "1:: |- (") ∷ line 3 (codes "  ph )") ∷ line 4 (codes "$)") ∷ [])
    ≡ statement (line 1 (codes "1:: |- (")) (line 3 (codes "  ph )") ∷ []) ∷ statement (line 4 (codes "$)")) [] ∷ []
indented = refl

pub its_tokens : tokens_in (statement (line 1 (codes "1:: |- (")) (line 3 (codes "  ph )") ∷ [])) ≡ codes "1::" ∷ codes "|-" ∷ codes "(" ∷ codes "ph" ∷ codes ")" ∷ []
its_tokens = refl

-- the lines of a proof may begin in any column; indented lines behind its end are passed over
pub proof_passed : statements_where false (line 1 (codes "$= a") ∷ line 2 (codes "$)") ∷ line 3 (codes "b $.") ∷ line 4 (codes " c") ∷ line 5 (codes "$)") ∷ [])
    ≡ statement (line 1 (codes "$= a")) [] ∷ statement (line 5 (codes "$)")) [] ∷ []
proof_passed = refl

-- a proof may end in its first line
pub short_proof : statements_where false (line 1 (codes "$= a $.") ∷ line 2 (codes "$)") ∷ []) ≡ statement (line 1 (codes "$= a $.")) [] ∷ statement (line 2 (codes "$)")) [] ∷ []
short_proof = refl

-- `$=a` is another token, and an indented `$=` opens no proof
pub no_proof : map opens_proof (line 1 (codes "$=a") ∷ line 2 (codes " $= a") ∷ line 3 (codes "$= a") ∷ []) ≡ false ∷ false ∷ true ∷ []
no_proof = refl

pub ends : map ends_proof (line 1 (codes "a $.") ∷ line 2 (codes "$. a") ∷ line 3 (codes "a$.") ∷ line 4 (codes " $.") ∷ []) ≡ true ∷ false ∷ false ∷ true ∷ []
ends = refl

abbrev alone : List ℕ → Statement
alone bytes = statement (line 1 bytes) []

pub comments : map is_comment (map alone (codes "* a" ∷ codes "*a" ∷ codes "a *" ∷ [])) ≡ true ∷ true ∷ false ∷ []
comments = refl

pub footers : map is_footer (map alone (codes "$)" ∷ codes "$) a" ∷ codes "$)a" ∷ [])) ≡ true ∷ true ∷ false ∷ []
footers = refl

pub distincts : map is_distinct (map alone (codes "$d x y" ∷ codes "$d" ∷ codes "$dx" ∷ [])) ≡ true ∷ true ∷ false ∷ []
distincts = refl
