-- What holds of each statement of a text without a fault, by the statements before it, the nearest first.
use Rattle.std.specs.Prelude.{◌≡◌, ◌≤◌, ℕ, List, [], ◌∷◌, length, true, false, reverse, None, codes}
use Rattle.std.specs.List.{list_any}
use Rattle.std.specs.Str.{bytes_eq}
use Rattle.mm_model.specs.Names.{Name, contains}
use Rattle.mm_model.specs.Statements.{Statement, labels_in, has_keyword, has_one_of, labelled, symbols_in, second, typed, variables, statements, statement_fault}

-- the keywords that a statement may have
abbrev pub statement_keywords : List (List ℕ)
statement_keywords = codes "$c" ∷ codes "$v" ∷ codes "$d" ∷ codes "${" ∷ codes "$}" ∷ labelled

pub record IsSound (e : List Statement) (s : Statement) : Type 0 where
  pub one_label : length (labels_in s) ≤ 1
  -- a `$f`, `$e`, `$a` or `$p` has a label
  pub has_label : (k : List ℕ) → list_any (bytes_eq k) labelled ≡ true → has_keyword k s ≡ true → length (labels_in s) ≡ 1
  -- the variable of a `$f` has no active `$f` yet
  pub new_float : (v : Name) → has_keyword (codes "$f") s ≡ true → contains (second (symbols_in s)) v ≡ true → contains (typed e) v ≡ false
  -- and it is an active variable
  pub float_is_variable : (v : Name) → has_keyword (codes "$f") s ≡ true → contains (second (symbols_in s)) v ≡ true → contains (variables e) v ≡ true
  -- one without a keyword has no symbols
  pub has_keyword_or_none : has_one_of statement_keywords s ≡ false → symbols_in s ≡ []

abbrev pub AreSound : List Statement → Type 0
AreSound [] = Unit {0}
AreSound (s ∷ e) = IsSound e s × AreSound e

-- the statements of a text without a fault
abbrev pub StatementsAreSound : Type 0
StatementsAreSound = (text : List ℕ) → statement_fault text ≡ None → AreSound (reverse (statements text))
