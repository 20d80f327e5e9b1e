-- The database of a text without a fault has the facts that the proofs of formulas rest on.
use Rattle.std.proofs.Common.{◌≡◌, ◌<◌, ◌≤◌, ◌⊎◌, ◌==◌, ℕ, zero, suc, Bool, true, false, not, cond, ◌&&◌, List, [], ◌∷◌, length, map, take, drop}
use Rattle.std.proofs.Common.{reverse, Option, Some, None, option_map, refl, sym, ap, ◌∙◌, arith, subst, inl, inr, codes}
use Rattle.std.specs.Prelude.{Contains, is_some, find, position}
use Rattle.std.specs.List.{AllByRecursion, list_any, filter, filter_map, cons_option, position_or_len}
use Rattle.std.specs.Option.{option_and_then}
use Rattle.std.specs.Str.{bytes_eq}
use Rattle.std.proofs.lemmas.Bool.{cases_Bool, cases_lt, lt-ltb, and_parts, or_parts, or_left, or_right, or_cases}
use Rattle.std.proofs.lemmas.List.{take_all, reverse-reverse, length-reverse, take-append-le}
use Rattle.mm_base.specs.declared.symbols.Sym.{Sym}
use Rattle.mm_base.specs.declared.symbols.Label.{Label}
use Rattle.mm_base.specs.declared.symbols.Typecode.{Typecode}
use Rattle.mm_base.specs.declared.kinds.Kinds.{Kinds}
use Rattle.mm_model.specs.declared.frames.Hyp.{Hyp}
use Rattle.mm_model.specs.declared.frames.Frame.{Frame}
use Rattle.mm_model.specs.declared.rows.Leaf.TheVariants as leaf
use Rattle.mm_model.specs.declared.rows.Production.{Production}
use Rattle.mm_model.specs.Names.{Name, typecode, label_named}
use Rattle.mm_model.specs.Texts.{row_of}
use Rattle.mm_model.specs.Statements.{Statement, body, second, statements, database_fault, has_keyword, with_keyword, symbols_in, contains, constants, active, labels}
use Rattle.mm_model.specs.Frames.{symbols, symbol_in, below, frame_of, frame_at, hypothesis_of, is_hypothesis, active_at}
use Rattle.mm_model.specs.Productions.{TypedVariable, typed_variables, essentials, item_of, row_with, rows}
use Rattle.mm_model.specs.Chains.{kept}
use Rattle.mm_model.specs.Book.{Database, IsDatabaseOf, declared_leaf, expression_at, float_of}
use Rattle.mm_model.specs.BookFacts.{IsKnownAt}
use Rattle.mm_model.proofs.RowLaws.{row_stands}
use Rattle.model_laws.specs.FrameLaws.{own_leaf, own_expression, ShowsText, IsOwn}
use Rattle.model_laws.proofs.Checked.{EachBefore, IsChecked, last_first, text_checked, no_statement_fault, found, reverse-cons}
use Rattle.model_laws.proofs.DatabaseFacts.{is_database, kept_own, IsRowIn}
use Rattle.model_laws.proofs.FrameForms.{own_expressions}
use Rattle.model_laws.proofs.FrameFacts.{FloatShort, frame_known, counts, mandatory_at}
use Rattle.model_laws.proofs.KnownAt.{one_of_two, all_known_at_place}
use Rattle.model_laws.proofs.KnownFacts.{HypothesisKnown, hypotheses_known}
use Rattle.model_laws.proofs.Symbols.{FormulaKnown}
use Rattle.model_laws.proofs.OwnLeaves.{float_is_hypothesis}
use Rattle.model_laws.proofs.Listed.{Pairwise, all_at, all-filter, all_and, all_with, all_pass, all-reverse, first_within}
use Rattle.model_laws.proofs.RowFacts.{row_by}
use Rattle.model_laws.proofs.Passing.{any-filter, any_kept, any-flat, any-reverse}
use Rattle.proof_model.specs.Machine.{is_float_of}
use Rattle.written_model.specs.Written.{frames_of}
use Rattle.push_laws.proofs.Declared.{IsSpelled, labels_spelled, spelled_plain, labels_full, label_from}
use Rattle.sheet_text.specs.Spellable.{is_token}
use Rattle.push_laws.proofs.Facts.{ShortHyp, NamesUnlike, Begins, RowIsApart, ItemIsApart, FrameIsApart, IsOwnFormula, IsOwnFrame, HypsAreApart, IsBook}
use Rattle.push_laws.proofs.FrameApart.{frame_apart, no_floats, short_reversed, declared_reversed, any-back}
use Rattle.push_laws.proofs.ActiveHyps.{hypothesis_keyword, labels_listed, no_frames, names_differ, are_short}
use Rattle.push_laws.proofs.Lists.{first, later, all_of}

-- ---- statements below any place

pub each_below : (P : List Statement → Statement → Type 0) (e : List Statement) (place : ℕ) → EachBefore P e → EachBefore P (below (reverse e) place)
each_below P [] place h = let none : List Statement = [] in subst (λ xs. EachBefore P (reverse xs)) (sym (take_all place none (omega arith))) tt
each_below P (s ∷ e) place h = elim (cases_lt (length e) place) [
  | inl l ↦
      let long : length (reverse (s ∷ e)) ≤ place = omega (arith, l, length-reverse (s ∷ e)) in
      subst (EachBefore P) (sym (ap (λ xs. reverse xs) (take_all place (reverse (s ∷ e)) long) ∙ reverse-reverse (s ∷ e))) h
  | inr l ↦
      let short : place ≤ length (reverse e) = omega (arith, l, length-reverse e) in
      subst (λ xs. EachBefore P (reverse xs)) (sym (ap (λ xs. take place xs) (reverse-cons s e) ∙ take-append-le place (reverse e) (s ∷ []) short)) (each_below P e place h.1)
]

any_more : {X : Type 0} (q : X → Bool) (p k : ℕ) (xs : List X) → p ≤ k → list_any q (take p xs) ≡ true → list_any q (take k xs) ≡ true
any_more q zero k xs l h = absurd cc
any_more q (suc p) k [] l h = absurd cc
any_more q (suc p) zero (x ∷ xs) l h = let bad : ⊥ = omega (arith, l) in absurd bad
any_more q (suc p) (suc k) (x ∷ xs) l h = elim (or_cases (q x) (list_any q (take p xs)) h) [
  | inl d ↦ or_left _ _ d
  | inr d ↦ or_right _ _ (any_more q p k xs (omega (arith, l)) d)
]

constant_stays : (ss : List Statement) (n : Name) (p q : ℕ) → p ≤ q → contains (constants (below ss p)) n ≡ true → contains (constants (below ss q)) n ≡ true
constant_stays ss n p q l h =
    let test = λ (x : Statement). has_keyword (codes "$c") x && contains (symbols_in x) n in
    let some = any-filter (λ x. contains (symbols_in x) n) (has_keyword (codes "$c")) (below ss p) (sym (any-flat (bytes_eq n) symbols_in (with_keyword (codes "$c") (below ss p))) ∙ h) in
    let there = any-back test (take q ss) (any_more test p q ss l (any-reverse test (take p ss) some)) in
    any-flat (bytes_eq n) symbols_in (with_keyword (codes "$c") (below ss q)) ∙ any_kept (λ x. contains (symbols_in x) n) (has_keyword (codes "$c")) (below ss q) there

-- ---- each symbol of a formula is something

module _ {X Y : Type 0} (h : X → Option Y) where
  few : (xs : List X) → length (filter_map h xs) ≤ length xs
  few [] = omega arith
  few (x ∷ xs) = go (h x) refl (few xs)
    where
      go : (o : Option Y) → h x ≡ o → length (filter_map h xs) ≤ length xs → length (cons_option o (filter_map h xs)) ≤ suc (length xs)
      go None e l = omega (arith, l)
      go (Some y) e l = omega (arith, l)

  full : (xs : List X) → AllByRecursion (λ x. is_some (h x) ≡ true) xs → length (filter_map h xs) ≡ length xs
  full [] a = refl
  full (x ∷ xs) a = go (h x) a.0 (full xs a.1)
    where
      go : (o : Option Y) → is_some o ≡ true → length (filter_map h xs) ≡ length xs → length (cons_option o (filter_map h xs)) ≡ suc (length xs)
      go None s e = absurd cc
      go (Some y) s e = omega (arith, e)

  some_all : (xs : List X) → length (filter_map h xs) ≡ length xs → AllByRecursion (λ x. is_some (h x) ≡ true) xs
  some_all [] e = tt
  some_all (x ∷ xs) e = go (h x) refl (few xs) e (some_all xs)
    where
      go : (o : Option Y) → h x ≡ o → length (filter_map h xs) ≤ length xs → length (cons_option o (filter_map h xs)) ≡ suc (length xs)
          → (length (filter_map h xs) ≡ length xs → AllByRecursion (λ y. is_some (h y) ≡ true) xs) → AllByRecursion (λ y. is_some (h y) ≡ true) (x ∷ xs)
      go None i l e f = let bad : ⊥ = omega (arith, l, e) in absurd bad
      go (Some y) i l e f = (ap is_some i, f (omega (arith, e)))

own_formula : (db : Database) (f : Frame) (g : List Sym) → own_expression db f g ≡ expression_at db f.at g → IsKnownAt db f.at g → IsOwnFormula db f g
own_formula db f g e k = record {
  leaves = some_all (own_leaf db f) (drop 1 g) (ap (λ xs. length xs) e ∙ full (declared_leaf db f.at) (drop 1 g) k.leaves);
  expression = e;
}

-- ---- rows

none_of : {X : Type 0} (p : X → Bool) (ys : List X) → list_any p ys ≡ false → find p ys ≡ None
none_of p [] i = refl
none_of p (y ∷ ys) i = let two = or_parts (p y) (list_any p ys) i in ap (λ (b : Bool). cond b (Some y) (find p ys)) two.0 ∙ none_of p ys two.1

pub not_found : {X : Type 0} (p : X → Bool) (xs : List X) → position p xs ≡ None → find p xs ≡ None
not_found p xs e = none_of p xs (go (list_any p xs) refl)
  where
    go : (b : Bool) → list_any p xs ≡ b → list_any p xs ≡ false
    go false i = i
    go true i =
        let less = lt-ltb (position_or_len p xs) (length xs) (first_within p xs i) in
        let bad : Some (position_or_len p xs) ≡ None = sym (ap (λ (b : Bool). cond b (Some (position_or_len p xs)) None) less) ∙ e in
        absurd cc

item_apart : (db : Database) (f : Frame) (apart : FrameIsApart db f) (s : Sym) → is_some (own_leaf db f s) ≡ true → ItemIsApart db f (item_of (typed_variables f.hyps) s)
item_apart db f apart s some = go (position (λ (v : TypedVariable). v.sym.0 == s.0) (typed_variables f.hyps)) refl
  where
    constant : (b : Bool) → db.is_constant_at s f.at ≡ b → is_some (cond b (Some (leaf.Const s)) (option_map (λ c. leaf.Var s c) (float_of s f.hyps))) ≡ true
        → find (λ (v : TypedVariable). v.sym.0 == s.0) (typed_variables f.hyps) ≡ None → db.is_constant_at s f.at ≡ true
    constant true e i n = e
    constant false e i n = let bad : false ≡ true = ap (λ o. is_some (option_map (λ c. leaf.Var s c) (option_map (λ (v : TypedVariable). v.code) o))) (sym n) ∙ i in absurd cc

    go : (o : Option ℕ) → position (λ (v : TypedVariable). v.sym.0 == s.0) (typed_variables f.hyps) ≡ o → ItemIsApart db f (item_of (typed_variables f.hyps) s)
    go None e =
        let c = constant (db.is_constant_at s f.at) refl some (not_found (λ (v : TypedVariable). v.sym.0 == s.0) (typed_variables f.hyps) e) in
        rw e (c, apart.constants s c)
    go (Some k) e = rw e tt

items_apart : (db : Database) (f : Frame) (apart : FrameIsApart db f) (ss : List Sym) → AllByRecursion (λ s. is_some (own_leaf db f s) ≡ true) ss
    → AllByRecursion (ItemIsApart db f) (map (item_of (typed_variables f.hyps)) ss)
items_apart db f apart [] a = tt
items_apart db f apart (s ∷ ss) a = (item_apart db f apart s a.0, items_apart db f apart ss a.1)

row_apart : (db : Database) (f : Frame) (apart : FrameIsApart db f) (r : Production) (g : List Sym) → Begins db f.at g → AllByRecursion (λ s. is_some (own_leaf db f s) ≡ true) (drop 1 g)
    → row_with f g ≡ Some r → RowIsApart db r f
row_apart db f apart r [] b a e = absurd cc
row_apart db f apart r (c ∷ []) b a e = absurd cc
row_apart db f apart r (c ∷ s ∷ rest) b a e =
    let gives : typecode c ≡ r.gives = cc in
    let items : map (item_of (typed_variables f.hyps)) (s ∷ rest) ≡ r.items = cc in
    record {
      gives = subst (λ (t : Typecode). list_any (is_float_of t.0) f.hyps ≡ false) gives (apart.constants c b);
      items = subst (AllByRecursion (ItemIsApart db f)) items (items_apart db f apart (s ∷ rest) a);
    }

-- ---- given hypotheses

counted_is_hypothesis : (mandatory : List Name) (x : Statement) → counts mandatory x ≡ true → is_hypothesis x ≡ true
counted_is_hypothesis mandatory x c = elim (or_cases (has_keyword (codes "$e") x) (has_keyword (codes "$f") x && list_any (contains mandatory) (second (symbols_in x))) c) [
  | inl d ↦ one_of_two (codes "$f") (codes "$e") (codes "$e") refl (take 1 (body x)) d
  | inr d ↦ float_is_hypothesis x (and_parts (has_keyword (codes "$f") x) _ d).0
]

module _ (names mandatory : List Name) where
  abbrev at_place : List Statement → List Hyp
  at_place xs = map (hypothesis_of names) (filter is_hypothesis xs)

  one_more : (x : Statement) (xs : List Statement) (hs : List Hyp) → AllByRecursion (Contains (at_place xs)) hs → AllByRecursion (Contains (at_place (x ∷ xs))) hs
  one_more x xs hs a = elim (cases_Bool (is_hypothesis x)) [
    | inl d ↦ rw d (all_with (Contains (at_place xs)) (Contains (hypothesis_of names x ∷ at_place xs)) (λ h c. later h (hypothesis_of names x) (at_place xs) c) hs a)
    | inr d ↦ rw d a
  ]

  stands_first : (x : Statement) (xs : List Statement) → is_hypothesis x ≡ true → Contains (at_place (x ∷ xs)) (hypothesis_of names x)
  stands_first x xs i = rw i (first (hypothesis_of names x) (hypothesis_of names x) (at_place xs) refl)

  given_in : (xs : List Statement) → AllByRecursion (Contains (at_place xs)) (map (hypothesis_of names) (filter (counts mandatory) xs))
  given_in [] = tt
  given_in (x ∷ xs) =
      let rest = one_more x xs (map (hypothesis_of names) (filter (counts mandatory) xs)) (given_in xs) in
      elim (cases_Bool (counts mandatory x)) [
        | inl d ↦ counted_by d (stands_first x xs (counted_is_hypothesis mandatory x d)) rest
        | inr d ↦ other_by d rest
      ]
    where
      counted_by : counts mandatory x ≡ true → Contains (at_place (x ∷ xs)) (hypothesis_of names x)
          → AllByRecursion (Contains (at_place (x ∷ xs))) (map (hypothesis_of names) (filter (counts mandatory) xs))
          → AllByRecursion (Contains (at_place (x ∷ xs))) (map (hypothesis_of names) (filter (counts mandatory) (x ∷ xs)))
      counted_by d here rest =
          subst
          (λ (b : Bool). AllByRecursion (Contains (at_place (x ∷ xs)))
          (map (hypothesis_of names) (cond b (x ∷ filter (counts mandatory) xs) (filter (counts mandatory) xs))))
          (sym d) (here, rest)

      other_by : counts mandatory x ≡ false → AllByRecursion (Contains (at_place (x ∷ xs))) (map (hypothesis_of names) (filter (counts mandatory) xs))
          → AllByRecursion (Contains (at_place (x ∷ xs))) (map (hypothesis_of names) (filter (counts mandatory) (x ∷ xs)))
      other_by d rest =
          subst
          (λ (b : Bool). AllByRecursion (Contains (at_place (x ∷ xs)))
          (map (hypothesis_of names) (cond b (x ∷ filter (counts mandatory) xs) (filter (counts mandatory) xs))))
          (sym d) rest

module _ (kinds : Kinds) (text : List ℕ) (db : Database) (is : IsDatabaseOf kinds text db) (sound : database_fault text ≡ None) where
  abbrev ss : List Statement
  ss = statements text

  abbrev e : List Statement
  e = last_first text

  each : EachBefore IsChecked e
  each = text_checked text (no_statement_fault text sound)

  abbrev provable : Sym
  provable = symbol_in (symbols ss) kinds.provable

  shows : ShowsText text db
  shows = record { symbols = is.symbols; frame = is.frame; active_at = is.active_at; is_constant_at = is.is_constant_at }

  frame_is_apart : (l : Label) (f : Frame) → db.frame l ≡ Some f → FrameIsApart db f
  frame_is_apart l f i =
      let k = frame_known ss l f (sym (is.frame l) ∙ i) in
      let there = found IsChecked e k.at k.statement each k.stands in
      subst (FrameIsApart db) k.frame (frame_apart ss k.at there.before db (λ x. is.is_constant_at x k.at) k.statement l there.here k.assertion)

  frame_is_own : (l : Label) (f : Frame) → db.frame l ≡ Some f → IsOwnFrame db f
  frame_is_own l f i =
      let own = own_expressions text db shows sound l f i in
      let frame = (is_database kinds text db is (no_statement_fault text sound)).frames l f i in
      record {
        formula = own_formula db f f.formula own.formula.expression frame.formula;
        hyps = all_and (λ (h : Hyp). IsOwn db f h.formula) (λ (h : Hyp). IsKnownAt db f.at h.formula) (λ (h : Hyp). IsOwnFormula db f h.formula) (λ h o k. own_formula db f h.formula o.expression k)
            (essentials f.hyps) own.hyps (all-filter (λ (h : Hyp). IsKnownAt db f.at h.formula) (λ (h : Hyp). not h.floating) f.hyps frame.hyps);
      }

  row_is_apart : (l : Label) (r : Production) (f : Frame) → row_of db.rows l ≡ Some r → db.frame l ≡ Some f → RowIsApart db r f
  row_is_apart l r f row frame =
      let row' : row_of (kept (rows kinds.provable ss)) l ≡ Some r = ap (λ rs. row_of rs l) (sym is.rows) ∙ row in
      let at = row_stands (kept (rows kinds.provable ss)) l r row' in
      let own = all_at (IsRowIn provable ss) (kept (rows kinds.provable ss)) at.place r (kept_own e each provable) at.stands in
      let both : Some own.frame ≡ Some f = sym own.frame_is ∙ ap (frame_of ss) at.label_is ∙ sym (is.frame l) ∙ frame in
      let same : own.frame ≡ f = cc in
      let by = row_by provable own.frame r own.row_is in
      row_apart db f (frame_is_apart l f frame) r f.formula (frame_is_apart l f frame).begins (frame_is_own l f frame).formula.leaves
      (subst (λ (x : Frame). row_with x x.formula ≡ Some r) same by.row)

  frames_same : (name : Name) → frames_of db name ≡ option_and_then (frame_of ss) (label_named (labels ss) name)
  frames_same name = ap (λ ls. option_and_then db.frame (label_named ls name)) is.labels ∙ go (label_named (labels ss) name)
    where
      go : (o : Option Label) → option_and_then db.frame o ≡ option_and_then (frame_of ss) o
      go None = refl
      go (Some l) = is.frame l

  known_by : (b : List Statement) (h : Statement) → HypothesisKnown b h → (has_keyword (codes "$f") h ≡ true) ⊎ (has_keyword (codes "$e") h ≡ true) → FormulaKnown b (symbols_in h)
  known_by b h k (inl f) = k (inr f)
  known_by b h k (inr e) = k (inl e)

  place_is_apart : (place : ℕ) → HypsAreApart db place
  place_is_apart place =
      let below' = each_below IsChecked e place each in
      let hs = filter is_hypothesis (reverse (active (below ss place))) in
      let short = all-filter FloatShort is_hypothesis (reverse (active (below ss place))) (short_reversed ss place below') in
      let same = sym (is.active_at place) in
      record {
        constants = λ x c. subst (λ a. list_any (is_float_of x) a.hyps ≡ false) same
            (no_floats ss place below' hs short (all-filter _ is_hypothesis (reverse (active (below ss place))) (declared_reversed ss place below')) x (sym (is.is_constant_at x place) ∙ c));
        known = subst (λ a. AllByRecursion (λ (h : Hyp). IsKnownAt db place h.formula) a.hyps) same
            (all_known_at_place ss place db is.symbols (is.active_at place) (λ x. is.is_constant_at x place) hs
            (all_and (HypothesisKnown (below ss place)) (λ h. is_hypothesis h ≡ true) (λ h. FormulaKnown (below ss place) (symbols_in h))
            (λ h k i. known_by (below ss place) h k (hypothesis_keyword h i)) hs
            (all-filter (HypothesisKnown (below ss place)) is_hypothesis (reverse (active (below ss place)))
            (all-reverse (HypothesisKnown (below ss place)) (active (below ss place)) (hypotheses_known (below ss place) below')))
            (all_pass is_hypothesis (reverse (active (below ss place))))));
        short = subst (λ a. AllByRecursion ShortHyp a.hyps) same (are_short e each place below' short);
        labels = subst (λ a. AllByRecursion (λ (h : Hyp). Contains db.labels h.name) a.hyps) same
            (subst (λ ls. AllByRecursion (λ (h : Hyp). Contains ls h.name) (active_at ss place).hyps) (sym is.labels) (labels_listed e each place below'));
        no_frames = subst (λ a. AllByRecursion (λ (h : Hyp). frames_of db h.name ≡ None) a.hyps) same
            (all_with _ (λ (h : Hyp). frames_of db h.name ≡ None) (λ h n. frames_same h.name ∙ n) (active_at ss place).hyps (no_frames e each place below'));
        differ = subst (λ a. Pairwise NamesUnlike a.hyps) same (names_differ e each place below');
      }

  given_active : (l : Label) (f : Frame) → db.frame l ≡ Some f → AllByRecursion (Contains (db.active_at f.at).hyps) (essentials f.hyps)
  given_active l f i =
      let k = frame_known ss l f (sym (is.frame l) ∙ i) in
      let all = given_in (symbols ss) (mandatory_at ss k.at k.statement) (reverse (active (below ss k.at))) in
      all-filter (Contains (db.active_at f.at).hyps) (λ (h : Hyp). not h.floating) f.hyps
      (subst (λ (x : Frame). AllByRecursion (Contains (db.active_at x.at).hyps) x.hyps) k.frame
      (subst (λ a. AllByRecursion (Contains a.hyps) (frame_at ss l k.at k.statement).hyps) (sym (is.active_at k.at)) all))

  pub is_book : IsBook db
  is_book = record {
    facts = is_database kinds text db is (no_statement_fault text sound);
    within = λ l f i. subst (λ ls. l.0 < length ls) (sym is.labels) (own_expressions text db shows sound l f i).label;
    plain = λ n c. spelled_plain n (all_of IsSpelled (labels ss) n (labels_spelled e each) (subst (λ ls. Contains ls n) is.labels c));
    labels_are = λ n c. let c' = subst (λ ls. Contains ls n) is.labels c in
        label_from n (all_of (λ m. is_token m ≡ true) (labels ss) n (labels_full text) c') (all_of IsSpelled (labels ss) n (labels_spelled e each) c');
    rows_apart = row_is_apart;
    frames_apart = frame_is_apart;
    own = frame_is_own;
    constants_stay = λ s p q l c. is.is_constant_at s q ∙ constant_stays ss _ p q l (sym (is.is_constant_at s p) ∙ c);
    hyps_apart = place_is_apart;
    given = given_active;
  }
