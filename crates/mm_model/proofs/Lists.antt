-- What a token does to the statements, and what a statement does to each list of names.
use Rattle.std.proofs.Common.{◌≡◌, ℕ, suc, ◌<◌, true, false, cond, List, [], ◌∷◌, ◌++◌, length, drop, map, refl, sym, ap, ◌∙◌, codes, flat_map, append_assoc}
use Rattle.std.proofs.lemmas.List.{map-append}
use Rattle.mm_model.specs.Words.{Word}
use Rattle.mm_model.specs.Statements.{Statement, ends_statement, ended, unended, has_keyword, with_keyword, symbols_in, labels_in, second, path}
use Rattle.mm_model.specs.Statements.{active_on, active, constants, variables_ever, variables, typed, labels}
use Rattle.mm_model.proofs.Scopes.{cond_then, cond_else, active-open, active-plain, active-close, nested}

-- ---- tokens

pub ended-on : (w : Word) (before : List Word) → ends_statement w ≡ false → ended (w ∷ before) ≡ ended before
ended-on w before e = cond_else (ends_statement w) ((unended before ++ w ∷ []) ∷ ended before) (ended before) e

pub unended-on : (w : Word) (before : List Word) → ends_statement w ≡ false → unended (w ∷ before) ≡ unended before ++ w ∷ []
unended-on w before e = cond_else (ends_statement w) [] (unended before ++ w ∷ []) e

pub ended-end : (w : Word) (before : List Word) → ends_statement w ≡ true → ended (w ∷ before) ≡ (unended before ++ w ∷ []) ∷ ended before
ended-end w before e = cond_then (ends_statement w) ((unended before ++ w ∷ []) ∷ ended before) (ended before) e

pub unended-end : (w : Word) (before : List Word) → ends_statement w ≡ true → unended (w ∷ before) ≡ []
unended-end w before e = cond_then (ends_statement w) [] (unended before ++ w ∷ []) e

-- ---- statements

-- what a statement adds to a list that takes f of the statements with a keyword
abbrev pub added : List ℕ → (Statement → List (List ℕ)) → Statement → List (List ℕ)
added k f s = cond (has_keyword k s) (f s) []

abbrev pub listed : List ℕ → (Statement → List (List ℕ)) → List Statement → List (List ℕ)
listed k f ss = flat_map f (with_keyword k ss)

pub listed-cons : (k : List ℕ) (f : Statement → List (List ℕ)) (s : Statement) (ss : List Statement) → listed k f (s ∷ ss) ≡ added k f s ++ listed k f ss
listed-cons k f s ss = elim (has_keyword k s) as (λ t. flat_map f (cond t (s ∷ with_keyword k ss) (with_keyword k ss)) ≡ cond t (f s) [] ++ listed k f ss) [ true ↦ refl | false ↦ refl ]

pub listed-append : (k : List ℕ) (f : Statement → List (List ℕ)) (xs ys : List Statement) → listed k f (xs ++ ys) ≡ listed k f xs ++ listed k f ys
listed-append k f [] ys = refl
listed-append k f (x ∷ xs) ys =
    listed-cons k f x (xs ++ ys) ∙ ap (λ l. added k f x ++ l) (listed-append k f xs ys)
    ∙ sym (append_assoc (added k f x) (listed k f xs) (listed k f ys)) ∙ ap (λ l. l ++ listed k f ys) (sym (listed-cons k f x xs))

pub constants-cons : (s : Statement) (e : List Statement) → constants (s ∷ e) ≡ added (codes "$c") symbols_in s ++ constants e
constants-cons s e = listed-cons (codes "$c") symbols_in s e

pub variables_ever-cons : (s : Statement) (e : List Statement) → variables_ever (s ∷ e) ≡ added (codes "$v") symbols_in s ++ variables_ever e
variables_ever-cons s e = listed-cons (codes "$v") symbols_in s e

abbrev pub types : Statement → List (List ℕ)
types s = second (symbols_in s)

-- any list over what is active: `$v` with symbols_in, `$f` with types
pub listed-plain : (k : List ℕ) (f : Statement → List (List ℕ)) (s : Statement) (e : List Statement) → has_keyword (codes "${") s ≡ false
    → has_keyword (codes "$}") s ≡ false → listed k f (active (s ∷ e)) ≡ added k f s ++ listed k f (active e)
listed-plain k f s e o c = ap (λ ss. listed k f ss) (active-plain s e o c) ∙ listed-cons k f s (active e)

pub listed-open : (k : List ℕ) (f : Statement → List (List ℕ)) (s : Statement) (e : List Statement) → has_keyword (codes "${") s ≡ true
    → listed k f (active (s ∷ e)) ≡ added k f s ++ listed k f (active e)
listed-open k f s e o = ap (λ ss. listed k f ss) (active-open s e o) ∙ listed-cons k f s (active e)

pub variables-plain : (s : Statement) (e : List Statement) → has_keyword (codes "${") s ≡ false → has_keyword (codes "$}") s ≡ false
    → variables (s ∷ e) ≡ added (codes "$v") symbols_in s ++ variables e
variables-plain s e o c = listed-plain (codes "$v") symbols_in s e o c

pub typed-plain : (s : Statement) (e : List Statement) → has_keyword (codes "${") s ≡ false → has_keyword (codes "$}") s ≡ false → typed (s ∷ e) ≡ added (codes "$f") types s ++ typed e
typed-plain s e o c = listed-plain (codes "$f") types s e o c

-- `$}` leaves the list that stood where the block began, which is the end of the list that stood before it
pub listed-close : (k : List ℕ) (f : Statement → List (List ℕ)) (s : Statement) (e : List Statement) → has_keyword (codes "${") s ≡ false
    → has_keyword (codes "$}") s ≡ true → 0 < length (path e) → listed k f (active (s ∷ e)) ≡ listed k f (active_on (drop 1 (path e)) e)
listed-close k f s e o c open_ = ap (λ ss. listed k f ss) (active-close s e o c open_)

pub listed-nested : (k : List ℕ) (f : Statement → List (List ℕ)) (e : List Statement) (depth : ℕ) (h : depth < length (path e))
    → listed k f (active_on (drop depth (path e)) e) ≡ listed k f (nested e depth h).front ++ listed k f (active_on (drop (suc depth) (path e)) e)
listed-nested k f e depth h = ap (λ ss. listed k f ss) (nested e depth h).eq ∙ listed-append k f (nested e depth h).front (active_on (drop (suc depth) (path e)) e)

pub labels-cons : (s : Statement) (e : List Statement) → labels (s ∷ e) ≡ map (λ w. w.bytes) (labels_in s) ++ labels e
labels-cons s e = map-append (λ (w : Word). w.bytes) (labels_in s) (flat_map labels_in e)
