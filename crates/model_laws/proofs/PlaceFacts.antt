-- What places say of constants, rows and typecodes.
use Rattle.std.proofs.Common.{◌≡◌, ◌⊎◌, ◌<◌, ◌≤◌, ℕ, zero, suc, Bool, true, false, ◌&&◌, List, [], ◌∷◌, length, map, take, drop, reverse, Some, None}
use Rattle.std.proofs.Common.{refl, sym, ap, ◌∙◌, subst, arith, inl, inr, codes, flat_map, get_or}
use Rattle.std.specs.Prelude.{Contains}
use Rattle.std.specs.List.{AllByRecursion, list_any, filter}
use Rattle.std.specs.Str.{bytes_eq}
use Rattle.std.proofs.lemmas.Bool.{and_parts, and_from, or_cases, or_left, or_right}
use Rattle.std.proofs.lemmas.List.{reverse-reverse}
use Rattle.std.proofs.lemmas.List.Folds.{list_any-append}
use Rattle.mm_base.specs.declared.symbols.Sym.{Sym}
use Rattle.mm_base.specs.declared.symbols.Label.{Label}
use Rattle.mm_base.specs.declared.symbols.Typecode.{Typecode}
use Rattle.mm_base.specs.declared.kinds.Kinds.{Kinds}
use Rattle.mm_model.specs.declared.frames.Frame.{Frame}
use Rattle.mm_model.specs.declared.rows.Production.{Production}
use Rattle.mm_model.specs.Names.{Name, typecode}
use Rattle.mm_model.specs.Statements.{Statement, has_keyword, with_keyword, symbols_in, contains, constants, active, path, statements, database_fault}
use Rattle.mm_model.specs.Frames.{symbols, symbol_in, below, is_constant_at, float_codes, frame_at, mandatory_hypotheses}
use Rattle.mm_model.specs.Productions.{TypedVariable, typed_variables, item_of, row_with}
use Rattle.mm_model.specs.Texts.{row_of}
use Rattle.mm_model.specs.Book.{Database, IsDatabaseOf}
use Rattle.mm_model.proofs.Lists.{added, constants-cons}
use Rattle.model_laws.specs.DatabaseLaws.{HasPlaces, HavePlaces}
use Rattle.model_laws.proofs.Checked.{EachBefore, IsChecked, last_first, text_checked, found, no_statement_fault}
use Rattle.model_laws.proofs.DatabaseFacts.{kept_row}
use Rattle.model_laws.proofs.FrameFacts.{is_float, counts, floats_of, IsMandatory, floats_mandatory, typed_list, variable_of, typed_list-cons, frame_known, mandatory_at, typed_at}
use Rattle.model_laws.proofs.KnownAt.{constant_known, number_known, name_back}
use Rattle.model_laws.proofs.KnownFacts.{assertion_known}
use Rattle.model_laws.proofs.Listed.{same_names, name_self}
use Rattle.model_laws.proofs.Passing.{any-reverse, any-take, any-filter, any_kept, any-with, any-active, any-flat}
use Rattle.model_laws.proofs.RowFacts.{row_by}
use Rattle.model_laws.proofs.Symbols.{FormulaKnown, FloatKnown, float_known}

-- ---- longer fronts

any_more : {X : Type 0} (q : X → Bool) (p n : ℕ) (xs : List X) → p ≤ n → list_any q (take p xs) ≡ true → list_any q (take n xs) ≡ true
any_more q zero n xs le h = let bad : false ≡ true = h in absurd cc
any_more q (suc p) zero xs le h = absurd (omega (arith, le))
any_more q (suc p) (suc n) [] le h = h
any_more q (suc p) (suc n) (x ∷ xs) le h = elim (or_cases (q x) (list_any q (take p xs)) h) [
  | inl d ↦ or_left (q x) (list_any q (take n xs)) d
  | inr d ↦ or_right (q x) (list_any q (take n xs)) (any_more q p n xs (omega (arith, le)) d)
]

any_whole : {X : Type 0} (q : X → Bool) (p : ℕ) (xs : List X) → list_any q (take p xs) ≡ true → list_any q (take (length xs) xs) ≡ true
any_whole q zero xs h = let bad : false ≡ true = h in absurd cc
any_whole q (suc p) [] h = h
any_whole q (suc p) (x ∷ xs) h = elim (or_cases (q x) (list_any q (take p xs)) h) [
  | inl d ↦ or_left (q x) (list_any q (take (length xs) xs)) d
  | inr d ↦ or_right (q x) (list_any q (take (length xs) xs)) (any_whole q p xs d)
]

any_turned : {X : Type 0} (q : X → Bool) (xs : List X) → list_any q xs ≡ true → list_any q (reverse xs) ≡ true
any_turned q xs h = any-reverse q (reverse xs) (ap (list_any q) (reverse-reverse xs) ∙ h)

-- a name among the constants of some statements is one of a `$c` among them
abbrev declares : Name → Statement → Bool
declares n x = has_keyword (codes "$c") x && contains (symbols_in x) n

pub from_constants : (b : List Statement) (n : Name) → contains (constants b) n ≡ true → list_any (declares n) b ≡ true
from_constants b n h = any-filter (λ x. contains (symbols_in x) n) (has_keyword (codes "$c")) b (sym (any-flat (bytes_eq n) symbols_in (with_keyword (codes "$c") b)) ∙ h)

into_constants : (b : List Statement) (n : Name) → list_any (declares n) b ≡ true → contains (constants b) n ≡ true
into_constants b n h = any-flat (bytes_eq n) symbols_in (with_keyword (codes "$c") b) ∙ any_kept (λ x. contains (symbols_in x) n) (has_keyword (codes "$c")) b h

constants_more : (ss : List Statement) (p q : ℕ) (n : Name) → p ≤ q → contains (constants (below ss p)) n ≡ true → contains (constants (below ss q)) n ≡ true
constants_more ss p q n le h =
    into_constants (below ss q) n (any_turned (declares n) (take q ss) (any_more (declares n) p q ss le (any-reverse (declares n) (take p ss) (from_constants (below ss p) n h))))

constants_whole : (ss : List Statement) (p : ℕ) (n : Name) → contains (constants (below ss p)) n ≡ true → contains (constants (below ss (length ss))) n ≡ true
constants_whole ss p n h =
    into_constants (below ss (length ss)) n (any_turned (declares n) (take (length ss) ss) (any_whole (declares n) p ss (any-reverse (declares n) (take p ss) (from_constants (below ss p) n h))))

-- ---- the typecodes of `$f`

abbrev pub gives : Name → Statement → Bool
gives n x = is_float x && contains (take 1 (symbols_in x)) n

abbrev pub code_names : List Statement → List Name
code_names xs = flat_map (λ (s : Statement). take 1 (symbols_in s)) (with_keyword (codes "$f") xs)

from_codes : (xs : List Statement) (n : Name) → contains (code_names xs) n ≡ true → list_any (gives n) xs ≡ true
from_codes xs n h = any-filter (λ x. contains (take 1 (symbols_in x)) n) is_float xs (sym (any-flat (bytes_eq n) (λ (s : Statement). take 1 (symbols_in s)) (with_keyword (codes "$f") xs)) ∙ h)

pub into_codes : (xs : List Statement) (n : Name) → list_any (gives n) xs ≡ true → contains (code_names xs) n ≡ true
into_codes xs n h = any-flat (bytes_eq n) (λ (s : Statement). take 1 (symbols_in s)) (with_keyword (codes "$f") xs) ∙ any_kept (λ x. contains (take 1 (symbols_in x)) n) is_float xs h

abbrev pub coded : List Name → Name → Typecode
coded names n = typecode (symbol_in names n)

pub coded_in : (names ns : List Name) (n : Name) → contains ns n ≡ true → Contains (map (coded names) ns) (coded names n)
coded_in names [] n h = absurd cc
coded_in names (m ∷ ns) n h = elim (or_cases (bytes_eq n m) (contains ns n) h) [
  | inl d ↦ (0, omega arith, ap (coded names) (sym (same_names n m d)))
  | inr d ↦ let r = coded_in names ns n d in let less = r.1 in (suc r.0, omega (arith, less), r.2)
]

coded_from : (names ns : List Name) (c : Typecode) → Contains (map (coded names) ns) c → (n : Name) × (contains ns n ≡ true) × (coded names n ≡ c)
coded_from names [] c m = let less = m.1 in absurd (omega (arith, less))
coded_from names (n ∷ ns) c (zero, l, e) = (n, or_left (bytes_eq n n) (contains ns n) (name_self n), e)
coded_from names (n ∷ ns) c (suc k, l, e) = let r = coded_from names ns c (k, omega (arith, l), e) in (r.0, or_right (bytes_eq r.0 n) (contains ns r.0) r.1, r.2)

codes_more : (ss : List Statement) (p q : ℕ) (c : Typecode) → p ≤ q → Contains (float_codes ss p) c → Contains (float_codes ss q) c
codes_more ss p q c le m =
    let r = coded_from (symbols ss) (code_names (take p ss)) c m in
    subst (Contains (float_codes ss q)) r.2 (coded_in (symbols ss) (code_names (take q ss)) r.0 (into_codes (take q ss) r.0 (any_more (gives r.0) p q ss le (from_codes (take p ss) r.0 r.1))))

-- the code of a `$f` of a frame
float_origin : (names mandatory : List Name) (hs : List Statement) → AllByRecursion (IsMandatory mandatory) hs
    → AllByRecursion (λ h. is_float h ≡ true) hs → (v : TypedVariable) → Contains (typed_list names mandatory hs) v
    → (n : Name) × (coded names n ≡ v.code) × (list_any (gives n) hs ≡ true)
float_origin names mandatory [] ms fs v m = let less = m.1 in absurd (omega (arith, less))
float_origin names mandatory (h ∷ hs) ms fs v m = by (subst (λ vs. Contains vs v) (typed_list-cons names mandatory h hs ms.0) m)
    (float_origin names mandatory hs ms.1 fs.1 v)
  where
    by : Contains (variable_of names mandatory h ms.0 ∷ typed_list names mandatory hs) v
        → (Contains (typed_list names mandatory hs) v → (n : Name) × (coded names n ≡ v.code) × (list_any (gives n) hs ≡ true))
        → (n : Name) × (coded names n ≡ v.code) × (list_any (gives n) (h ∷ hs) ≡ true)
    by (zero, l, e) rest =
        let stands : contains (take 1 (symbols_in h)) ms.0.code ≡ true = ap (λ ns. contains (take 1 ns) ms.0.code) ms.0.symbols ∙ or_left (bytes_eq ms.0.code ms.0.code) false (name_self ms.0.code) in
        (ms.0.code, ap (λ (x : TypedVariable). x.code) e, or_left (gives ms.0.code h) (list_any (gives ms.0.code) hs) (and_from (is_float h) _ fs.0 stands))
    by (suc k, l, e) rest = let r = rest (k, omega (arith, l), e) in (r.0, r.1, or_right (gives r.0 h) (list_any (gives r.0) hs) r.2)

all_floats : (hs : List Statement) → AllByRecursion (λ h. is_float h ≡ true) (filter is_float hs)
all_floats [] = tt
all_floats (h ∷ hs) = by (is_float h) refl (all_floats hs)
  where
    by : (t : Bool) → is_float h ≡ t → AllByRecursion (λ x. is_float x ≡ true) (filter is_float hs) → AllByRecursion (λ x. is_float x ≡ true) (filter is_float (h ∷ hs))
    by true e rest = rw e (e, rest)
    by false e rest = rw e rest

frame_codes_at : (ss : List Statement) (l : Label) (at : ℕ) (s : Statement) → EachBefore IsChecked (below ss at) → (v : TypedVariable)
    → Contains (typed_variables (frame_at ss l at s).hyps) v → Contains (float_codes ss at) v.code
frame_codes_at ss l at s each v m =
    let b = below ss at in
    let mandatory = mandatory_at ss at s in
    let r =
    float_origin (symbols ss) mandatory (floats_of mandatory b) (floats_mandatory mandatory b each)
    (all_floats (mandatory_hypotheses mandatory b)) v (subst (λ vs. Contains vs v) (typed_at ss l at s) m) in
    let one =
    any-with (λ x. is_float x && gives r.0 x) (gives r.0) (λ x d. (and_parts (is_float x) (gives r.0 x) d).1) (mandatory_hypotheses mandatory b)
    (any-filter (gives r.0) is_float (mandatory_hypotheses mandatory b) r.2) in
    let two =
    any-with (λ x. counts mandatory x && gives r.0 x) (gives r.0) (λ x d. (and_parts (counts mandatory x) (gives r.0 x) d).1) (reverse (active b))
    (any-filter (gives r.0) (counts mandatory) (reverse (active b)) one) in
    let three = any-reverse (gives r.0) (take at ss) (any-active (gives r.0) (path b) b (any-reverse (gives r.0) (active b) two)) in
    subst (Contains (float_codes ss at)) r.1 (coded_in (symbols ss) (code_names (take at ss)) r.0 (into_codes (take at ss) r.0 three))

-- the first symbol of a `$f` is a constant
constants_on : (s : Statement) (e : List Statement) (n : Name) → contains (constants e) n ≡ true → contains (constants (s ∷ e)) n ≡ true
constants_on s e n h =
    ap (λ ns. contains ns n) (constants-cons s e) ∙ list_any-append (bytes_eq n) (added (codes "$c") symbols_in s) (constants e)
    ∙ or_right (contains (added (codes "$c") symbols_in s) n) (contains (constants e) n) h

first_known : (e : List Statement) (ns : List Name) (n : Name) → FloatKnown e ns → contains (take 1 ns) n ≡ true → contains (constants e) n ≡ true
first_known e [] n k h = absurd cc
first_known e (c ∷ []) n k h = first_is (or_cases (bytes_eq n c) false h)
  where
    first_is : ((bytes_eq n c ≡ true) ⊎ (false ≡ true)) → contains (constants e) n ≡ true
    first_is (inl d) = subst (λ m. contains (constants e) m ≡ true) (sym (same_names n c d)) k
    first_is (inr d) = absurd cc
first_known e (c ∷ v ∷ ns) n k h = first_is (or_cases (bytes_eq n c) false h)
  where
    first_is : ((bytes_eq n c ≡ true) ⊎ (false ≡ true)) → contains (constants e) n ≡ true
    first_is (inl d) = subst (λ m. contains (constants e) m ≡ true) (sym (same_names n c d)) k.0
    first_is (inr d) = absurd cc

codes_known : (e : List Statement) → EachBefore IsChecked e → (n : Name) → list_any (gives n) e ≡ true → contains (constants e) n ≡ true
codes_known [] h n d = absurd cc
codes_known (s ∷ e) h n d = elim (or_cases (gives n s) (list_any (gives n) e) d) [
  | inl g ↦ let both = and_parts (is_float s) (contains (take 1 (symbols_in s)) n) g in constants_on s e n (first_known e (symbols_in s) n (float_known e s h.0 both.0) both.1)
  | inr g ↦ constants_on s e n (codes_known e h.1 n g)
]

pub take_whole : {X : Type 0} (xs : List X) → take (length xs) xs ≡ xs
take_whole [] = refl
take_whole (x ∷ xs) = ap (λ ys. x ∷ ys) (take_whole xs)

-- the items of a row
row_items_by : (f : Frame) (r : Production) (formula : List Sym) → row_with f formula ≡ Some r → r.items ≡ map (item_of (typed_variables f.hyps)) (drop 1 formula)
row_items_by f r [] e = absurd cc
row_items_by f r (c ∷ []) e = absurd cc
row_items_by f r (c ∷ s ∷ rest) e = row_same _ r e
  where
    row_same : (p q : Production) → Some p ≡ Some q → q.items ≡ p.items
    row_same p q z = let same : q ≡ p = cc in ap (λ (x : Production). x.items) same

first_constant : (ss : List Statement) (at : ℕ) (ns : List Name) → FormulaKnown (below ss at) ns → (c : Sym) (rest : List Sym)
    → map (symbol_in (symbols ss)) ns ≡ c ∷ rest → is_constant_at ss c at ≡ true
first_constant ss at [] known c rest e = absurd cc
first_constant ss at (n ∷ ns) known c rest e =
    let same : symbol_in (symbols ss) n ≡ c = cc in
    subst (λ (x : Sym). is_constant_at ss x at ≡ true) same (ap (contains (constants (below ss at))) (name_back ss at n (constant_known ss at n known.0)) ∙ known.0)

module _ (kinds : Kinds) (text : List ℕ) (db : Database) (is : IsDatabaseOf kinds text db) (ok : database_fault text ≡ None) where
  abbrev ss : List Statement
  ss = statements text

  each : EachBefore IsChecked (last_first text)
  each = text_checked text (no_statement_fault text ok)

  name : Sym → Name
  name s = get_or (symbols ss) s.0 []

  whole_below : below ss (length ss) ≡ last_first text
  whole_below = ap reverse (take_whole ss) ∙ reverse-reverse (last_first text)

  stays : (s : Sym) (p q : ℕ) → p ≤ q → db.is_constant_at s p ≡ true → db.is_constant_at s q ≡ true
  stays s p q le h = is.is_constant_at s q ∙ constants_more ss p q _ le (sym (is.is_constant_at s p) ∙ h)

  ends : (s : Sym) (p : ℕ) → db.is_constant_at s p ≡ true → db.is_constant_at s db.statement_count ≡ true
  ends s p h = ap (db.is_constant_at s) is.statement_count ∙ is.is_constant_at s (length ss) ∙ constants_whole ss p _ (sym (is.is_constant_at s p) ∙ h)

  items : (l : Label) (r : Production) → row_of db.rows l ≡ Some r → (f : Frame) × (db.frame l ≡ Some f) × (r.items ≡ map (item_of (typed_variables f.hyps)) (drop 1 f.formula))
  items l r row =
      let k = kept_row (last_first text) each (symbol_in (symbols ss) kinds.provable) l r (ap (λ rs. row_of rs l) (sym is.rows) ∙ row) in
      (k.0, is.frame l ∙ k.1, row_items_by k.0 r k.0.formula (row_by (symbol_in (symbols ss) kinds.provable) k.0 r k.2).row)

  begins : (l : Label) (f : Frame) (c : Sym) (rest : List Sym) → db.frame l ≡ Some f → f.formula ≡ c ∷ rest → db.is_constant_at c f.at ≡ true
  begins l f c rest frame e =
      let k = frame_known ss l f (sym (is.frame l) ∙ frame) in
      let there = found IsChecked (last_first text) k.at k.statement each k.stands in
      is.is_constant_at c f.at
      ∙ subst (λ (x : Frame). x.formula ≡ c ∷ rest → is_constant_at ss c x.at ≡ true) k.frame
      (first_constant ss k.at (symbols_in k.statement) (assertion_known (below ss k.at) k.statement there.here k.assertion) c rest) e

  more_codes : (p q : ℕ) (c : Typecode) → p ≤ q → Contains (db.float_codes p) c → Contains (db.float_codes q) c
  more_codes p q c le m = subst (λ cs. Contains cs c) (sym (is.float_codes q)) (codes_more ss p q c le (subst (λ cs. Contains cs c) (is.float_codes p) m))

  codes_of : (l : Label) (f : Frame) (v : TypedVariable) → db.frame l ≡ Some f → Contains (typed_variables f.hyps) v → Contains (db.float_codes f.at) v.code
  codes_of l f v frame m =
      let k = frame_known ss l f (sym (is.frame l) ∙ frame) in
      let there = found IsChecked (last_first text) k.at k.statement each k.stands in
      subst (λ cs. Contains cs v.code) (sym (is.float_codes f.at))
      (subst (λ (x : Frame). Contains (typed_variables x.hyps) v → Contains (float_codes ss x.at) v.code) k.frame (frame_codes_at ss l k.at k.statement there.before v) m)

  code_constants : (p : ℕ) (c : Typecode) → Contains (db.float_codes p) c → (db.is_constant_at c.0 db.statement_count ≡ true) × (c.0.0 < length db.symbols)
  code_constants p c m =
      let r = coded_from (symbols ss) (code_names (take p ss)) c (subst (λ cs. Contains cs c) (is.float_codes p) m) in
      let some = any_turned (gives r.0) ss (any-take (gives r.0) p ss (from_codes (take p ss) r.0 r.1)) in
      let known = codes_known (last_first text) each r.0 (ap (list_any (gives r.0)) (sym (reverse-reverse (last_first text))) ∙ some) in
      let here : contains (constants (below ss (length ss))) r.0 ≡ true = ap (λ b. contains (constants b) r.0) whole_below ∙ known in
      let listed = constant_known ss (length ss) r.0 here in
      let constant : is_constant_at ss (symbol_in (symbols ss) r.0) (length ss) ≡ true = ap (contains (constants (below ss (length ss)))) (name_back ss (length ss) r.0 listed) ∙ here in
      let code : symbol_in (symbols ss) r.0 ≡ c.0 = ap (λ (t : Typecode). t.0) r.2 in
      let less : (symbol_in (symbols ss) r.0).0 < length (symbols ss) = number_known ss (length ss) r.0 listed in (
        ap (db.is_constant_at c.0) is.statement_count ∙ is.is_constant_at c.0 (length ss) ∙ subst (λ (x : Sym). is_constant_at ss x (length ss) ≡ true) code constant,
        subst (λ xs. c.0.0 < length xs) (sym is.symbols) (subst (λ (x : Sym). x.0 < length (symbols ss)) code less),
      )

  places : HasPlaces db
  places = record {
    constants_stay = stays;
    constants_end = ends;
    row_items = items;
    frame_begins = begins;
    codes_stay = more_codes;
    frame_codes = codes_of;
    codes_are_constants = code_constants;
  }

pub have_places : HavePlaces
have_places kinds text db is ok = places kinds text db is ok
