-- What the reader's lists become as the statement that is not ended grows.
use Rattle.std.proofs.Common.{flat_map, ◌≡◌, ℕ, zero, suc, ◌<◌, ◌≤◌, Bool, true, false, ◌||◌, eqb, ltb, List, [], ◌∷◌, ◌++◌, length, map, reverse}
use Rattle.std.proofs.Common.{refl, sym, ap, ◌∙◌, arith, subst, codes, nat_eq, inl, inr, append_assoc, append-nil}
use Rattle.std.specs.List.{list_any}
use Rattle.std.specs.Str.{bytes_eq}
use Rattle.std.proofs.lemmas.Bool.{cases_Bool, or_parts}
use Rattle.std.proofs.lemmas.Bool.Decides.{nat_tests}
use Rattle.std.proofs.lemmas.Slice.Eq.{bytes_eq-Decides}
use Rattle.std.proofs.lemmas.List.{reverse-append, map-append}
use Rattle.std.proofs.lemmas.List.Folds.{list_any-append}
use Rattle.mm_model.specs.Words.{Word}
use Rattle.mm_model.specs.Statements.{Statement, symbols_in, labels_in, contains, constants, variables_ever, labels}
use Rattle.mm_model.proofs.Lists.{added, types, labels-cons, constants-cons, variables_ever-cons}
use Rattle.mm_frames.proofs.Marks.{kept, Marks, kept-plain, marks-plain, marks-back}
use Rattle.mm_model.specs.Frames.{without_repeats}
use Rattle.mm_frames.proofs.Repeats.{repeats-new, repeats-old}
use Rattle.mm_frames.proofs.Numbers.{name_of, Within}
use Rattle.mm_frames.proofs.Names.{name_of-more, name_of-last, length-more, names-more, within-more, within-add, within-absent, absent-at, injective-more}
use Rattle.mm_frames.proofs.State.{adds, label_names, flat-last, IsState, IsPlain, Alike, new_variables, new_types, is_flagged}

-- ---- the empty statement

pub alike-empty : (e : List Statement) → Alike e ([] ∷ e)
alike-empty e = record {
  same_constants = refl;
  same_ever = refl;
  same_variables = sym (kept-plain new_variables [] e refl refl);
  same_types = sym (kept-plain new_types [] e refl refl);
  same_labels = refl;
  same_adds = sym (flat-last adds [] e ∙ append-nil (flat_map adds (reverse e)));
  same_ordered = sym (flat-last label_names [] e ∙ append-nil (flat_map label_names (reverse e)));
  v_marks = λ ms h. marks-plain new_variables [] e 0 ms refl refl h;
  t_marks = λ ms h. marks-plain new_types [] e 0 ms refl refl h;
}

pub alike-drop : (e : List Statement) → Alike ([] ∷ e) e
alike-drop e = record {
  same_constants = refl;
  same_ever = refl;
  same_variables = kept-plain new_variables [] e refl refl;
  same_types = kept-plain new_types [] e refl refl;
  same_labels = refl;
  same_adds = flat-last adds [] e ∙ append-nil (flat_map adds (reverse e));
  same_ordered = flat-last label_names [] e ∙ append-nil (flat_map label_names (reverse e));
  v_marks = λ ms h. marks-back new_variables [] e 0 ms refl refl h;
  t_marks = λ ms h. marks-back new_types [] e 0 ms refl refl h;
}

-- ---- a statement that grows by these constants, variables, typed variables and labels

pub record Grows (u v : Statement) (cs vs ts ls : List (List ℕ)) : Type 0 where
  pub plain : IsPlain u
  pub plain_after : IsPlain v
  pub new_constants : added (codes "$c") symbols_in v ≡ added (codes "$c") symbols_in u ++ cs
  pub more_variables : added (codes "$v") symbols_in v ≡ added (codes "$v") symbols_in u ++ vs
  pub more_types : added (codes "$f") types v ≡ added (codes "$f") types u ++ ts
  pub more_labels : map (λ (w : Word). w.bytes) (labels_in v) ≡ ls ++ map (λ (w : Word). w.bytes) (labels_in u)

-- the symbols declared, and the labels, in order
adds-same : (u v : Statement) (e : List Statement) → added (codes "$c") symbols_in v ≡ added (codes "$c") symbols_in u ++ []
    → added (codes "$v") symbols_in v ≡ added (codes "$v") symbols_in u ++ [] → flat_map adds (reverse (u ∷ e)) ≡ flat_map adds (reverse (v ∷ e))
adds-same u v e c h =
    flat-last adds u e
    ∙ ap (λ l. flat_map adds (reverse e) ++ (l ++ added (codes "$v") symbols_in u)) (sym (append-nil (added (codes "$c") symbols_in u)) ∙ sym c)
    ∙ ap (λ l. flat_map adds (reverse e) ++ (added (codes "$c") symbols_in v ++ l)) (sym (append-nil (added (codes "$v") symbols_in u)) ∙ sym h)
    ∙ sym (flat-last adds v e)

ordered-same : (u v : Statement) (e : List Statement) → map (λ (w : Word). w.bytes) (labels_in v) ≡ map (λ (w : Word). w.bytes) (labels_in u)
    → flat_map label_names (reverse (u ∷ e)) ≡ flat_map label_names (reverse (v ∷ e))
ordered-same u v e h = flat-last label_names u e ∙ ap (λ l. flat_map label_names (reverse e) ++ l) (sym h) ∙ sym (flat-last label_names v e)

-- one more constant, where the statement is no `$v`, and one more variable
adds-constant : (u v : Statement) (e : List Statement) (n : List ℕ) → added (codes "$v") symbols_in u ≡ []
    → added (codes "$c") symbols_in v ≡ added (codes "$c") symbols_in u ++ n ∷ []
    → added (codes "$v") symbols_in v ≡ added (codes "$v") symbols_in u ++ []
    → flat_map adds (reverse (v ∷ e)) ≡ flat_map adds (reverse (u ∷ e)) ++ n ∷ []
adds-constant u v e n none c h =
    let x = flat_map adds (reverse e) in
    let a = added (codes "$c") symbols_in u in
    let last : added (codes "$v") symbols_in v ≡ [] = h ∙ append-nil (added (codes "$v") symbols_in u) ∙ none in
    let now : adds v ≡ a ++ n ∷ [] = ap (λ l. l ++ added (codes "$v") symbols_in v) c ∙ ap (λ l. (a ++ n ∷ []) ++ l) last ∙ append-nil (a ++ n ∷ []) in
    let was : adds u ≡ a = ap (λ l. a ++ l) none ∙ append-nil a in
    flat-last adds v e ∙ ap (λ l. x ++ l) now ∙ sym (append_assoc x a (n ∷ [])) ∙ ap (λ l. (x ++ l) ++ n ∷ []) (sym was) ∙ ap (λ l. l ++ n ∷ []) (sym (flat-last adds u e))

adds-variable : (u v : Statement) (e : List Statement) (n : List ℕ) → added (codes "$c") symbols_in v ≡ added (codes "$c") symbols_in u ++ []
    → added (codes "$v") symbols_in v ≡ added (codes "$v") symbols_in u ++ n ∷ []
    → flat_map adds (reverse (v ∷ e)) ≡ flat_map adds (reverse (u ∷ e)) ++ n ∷ []
adds-variable u v e n c h =
    let x = flat_map adds (reverse e) in
    let a = added (codes "$c") symbols_in u in
    let b = added (codes "$v") symbols_in u in
    let now : adds v ≡ (a ++ b) ++ n ∷ [] = ap (λ l. l ++ added (codes "$v") symbols_in v) (c ∙ append-nil a) ∙ ap (λ l. a ++ l) h ∙ sym (append_assoc a b (n ∷ [])) in
    flat-last adds v e ∙ ap (λ l. x ++ l) now ∙ sym (append_assoc x (adds u) (n ∷ [])) ∙ ap (λ l. l ++ n ∷ []) (sym (flat-last adds u e))

kept-grows : (g : Statement → List (List ℕ)) (u v : Statement) (e : List Statement) (xs : List (List ℕ)) → IsPlain u → IsPlain v → g v ≡ g u ++ xs
    → kept (λ s. reverse (g s)) (v ∷ e) ≡ reverse xs ++ kept (λ s. reverse (g s)) (u ∷ e)
kept-grows g u v e xs p q h =
    let k = kept (λ s. reverse (g s)) e in
    kept-plain (λ s. reverse (g s)) v e q.no_open q.no_close
    ∙ ap (λ l. reverse l ++ k) h
    ∙ ap (λ l. l ++ k) (reverse-append (g u) xs)
    ∙ append_assoc (reverse xs) (reverse (g u)) k
    ∙ ap (λ l. reverse xs ++ l) (sym (kept-plain (λ s. reverse (g s)) u e p.no_open p.no_close))

pub marks-grows : (g : Statement → List (List ℕ)) (u v : Statement) (e : List Statement) (ms : List ℕ) → IsPlain u → IsPlain v → Marks g (u ∷ e) 0 ms → Marks g (v ∷ e) 0 ms
marks-grows g u v e ms p q h = marks-plain g v e 0 ms q.no_open q.no_close (marks-back g u e 0 ms p.no_open p.no_close h)

pub alike-grows : (u v : Statement) (e : List Statement) → Grows u v [] [] [] [] → Alike (u ∷ e) (v ∷ e)
alike-grows u v e g = record {
  same_constants = constants-cons u e ∙ ap (λ l. l ++ constants e) (sym (append-nil (added (codes "$c") symbols_in u)) ∙ sym g.new_constants) ∙ sym (constants-cons v e);
  same_ever = variables_ever-cons u e ∙ ap (λ l. l ++ variables_ever e) (sym (append-nil (added (codes "$v") symbols_in u)) ∙ sym g.more_variables) ∙ sym (variables_ever-cons v e);
  same_variables = sym (kept-grows (added (codes "$v") symbols_in) u v e [] g.plain g.plain_after g.more_variables);
  same_types = sym (kept-grows (added (codes "$f") types) u v e [] g.plain g.plain_after g.more_types);
  same_adds = adds-same u v e g.new_constants g.more_variables;
  same_ordered = ordered-same u v e g.more_labels;
  same_labels = labels-cons u e ∙ ap (λ l. l ++ labels e) (sym g.more_labels) ∙ sym (labels-cons v e);
  v_marks = λ ms h. marks-grows new_variables u v e ms g.plain g.plain_after h;
  t_marks = λ ms h. marks-grows new_types u v e ms g.plain g.plain_after h;
}

-- ---- Booleans, flags and bytes

either : (a b c x : Bool) → ((a || b) || c) || (x || false) ≡ ((a || (x || false)) || b) || c
either true b c x = refl
either false true c true = refl
either false true c false = refl
either false false true true = refl
either false false true false = refl
either false false false true = refl
either false false false false = refl

either_right : (a b c x : Bool) → (a || (b || c)) || (x || false) ≡ a || ((b || (x || false)) || c)
either_right true b c x = refl
either_right false true c x = refl
either_right false false true true = refl
either_right false false true false = refl
either_right false false false true = refl
either_right false false false false = refl

flag-before : (flags : List Bool) (b : Bool) (i : ℕ) → i < length flags → is_flagged (flags ++ b ∷ []) i ≡ is_flagged flags i
flag-before [] b i h = let bad : ⊥ = omega arith in absurd bad
flag-before (f ∷ flags) b zero h = refl
flag-before (f ∷ flags) b (suc i) h = flag-before flags b i (omega arith)

flag-last : (flags : List Bool) (b : Bool) → is_flagged (flags ++ b ∷ []) (length flags) ≡ b
flag-last [] b = refl
flag-last (f ∷ flags) b = flag-last flags b

flag-past : (flags : List Bool) (i : ℕ) → length flags ≤ i → is_flagged flags i ≡ false
flag-past [] i h = refl
flag-past (f ∷ flags) zero h = let bad : ⊥ = omega arith in absurd bad
flag-past (f ∷ flags) (suc i) h = flag-past flags i (omega arith)

other_way : (a b : List ℕ) → bytes_eq a b ≡ false → bytes_eq b a ≡ false
other_way a b h =
    elim (cases_Bool (bytes_eq b a)) [
      | inl e ↦ let yes : bytes_eq a b ≡ true = (bytes_eq-Decides a b).1 (sym ((bytes_eq-Decides b a).0 e)) in absurd (differ (sym yes ∙ h))
      | inr e ↦ e
    ]
  where
    differ : true ≡ false → ⊥
    differ e = cc

contains-append : (xs ys : List (List ℕ)) (n : List ℕ) → contains (xs ++ ys) n ≡ (contains xs n || contains ys n)
contains-append xs ys n = list_any-append (bytes_eq n) xs ys

-- ---- a new constant

pub constant-more : (u v : Statement) (e : List Statement) (symbols : List (List ℕ)) (constant : List Bool) (variables_ typed_ : List ℕ) (labels_ : List (List ℕ)) (vs ts : List ℕ) (n : List ℕ)
    → Grows u v (n ∷ []) [] [] [] → list_any (bytes_eq n) symbols ≡ false → added (codes "$v") symbols_in u ≡ []
    → IsState (u ∷ e) symbols constant variables_ typed_ labels_ vs ts → IsState (v ∷ e) (symbols ++ n ∷ []) (constant ++ true ∷ []) variables_ typed_ labels_ vs ts
constant-more u v e symbols constant variables_ typed_ labels_ vs ts n g absent no_variables s =
    let a = added (codes "$c") symbols_in u in
    let long = length-more symbols n in
    let now : constants (v ∷ e) ≡ (a ++ n ∷ []) ++ constants e = constants-cons v e ∙ ap (λ l. l ++ constants e) g.new_constants in
    let was : constants (u ∷ e) ≡ a ++ constants e = constants-cons u e in
    let ever : variables_ever (v ∷ e) ≡ variables_ever (u ∷ e) =
    variables_ever-cons v e ∙ ap (λ l. l ++ variables_ever e) (g.more_variables ∙ append-nil (added (codes "$v") symbols_in u))
    ∙ sym (variables_ever-cons u e) in
    let now_is : (m : List ℕ) → contains (constants (v ∷ e)) m ≡ ((contains a m || (bytes_eq m n || false)) || contains (constants e) m) =
    λ m. ap (λ l. contains l m) now ∙ contains-append (a ++ n ∷ []) (constants e) m
    ∙ ap (λ b. b || contains (constants e) m) (contains-append a (n ∷ []) m) in
    let was_is : (m : List ℕ) → contains (constants (u ∷ e)) m ≡ (contains a m || contains (constants e) m) = λ m. ap (λ l. contains l m) was ∙ contains-append a (constants e) m in
    record {
      one = injective-more symbols n s.one absent;
      all_known = length-more constant true ∙ ap (λ (k : ℕ). suc k) s.all_known ∙ sym long;
      variables_known = subst (λ (k : ℕ). Within k variables_) (sym long) (within-more (length symbols) variables_ s.variables_known);
      typed_known = subst (λ (k : ℕ). Within k typed_) (sym long) (within-more (length symbols) typed_ s.typed_known);
      are_constants = λ i h. elim (cases_Bool (ltb i (length symbols))) [
        | inl b ↦
            let hi : i < length symbols = grind (arith, nat_tests) in
            let hc : i < length constant = omega (arith, s.all_known) in
            let not_n : bytes_eq (name_of symbols i) n ≡ false = other_way n (name_of symbols i) (absent-at symbols n i absent hi) in
            flag-before constant true i hc ∙ s.are_constants i hi ∙ was_is (name_of symbols i)
            ∙ ap (λ c. c || contains (constants e) (name_of symbols i)) (sym (or_false_x (contains a (name_of symbols i)) (bytes_eq (name_of symbols i) n) not_n))
            ∙ sym (now_is (name_of symbols i)) ∙ ap (λ m. contains (constants (v ∷ e)) m) (sym (name_of-more symbols n i hi))
        | inr b ↦
            let is : i ≡ length symbols = grind (arith, nat_tests, long) in
            let is_c : i ≡ length constant = is ∙ sym s.all_known in
            let self : bytes_eq n n ≡ true = (bytes_eq-Decides n n).1 refl in
            ap (λ (k : ℕ). is_flagged (constant ++ true ∷ []) k) is_c ∙ flag-last constant true
            ∙ sym (or_true_x (contains a n) (bytes_eq n n) (contains (constants e) n) self) ∙ sym (now_is n)
            ∙ ap (λ m. contains (constants (v ∷ e)) m) (sym (name_of-last symbols n)) ∙ ap (λ (k : ℕ). contains (constants (v ∷ e)) (name_of (symbols ++ n ∷ []) k)) (sym is)
      ];
      are_declared = λ m. list_any-append (bytes_eq m) symbols (n ∷ [])
          ∙ ap (λ b. b || (bytes_eq m n || false)) (s.are_declared m ∙ ap (λ b. b || contains (variables_ever (u ∷ e)) m) (was_is m))
          ∙ either (contains a m) (contains (constants e) m) (contains (variables_ever (u ∷ e)) m) (bytes_eq m n)
          ∙ ap (λ b. b || contains (variables_ever (u ∷ e)) m) (sym (now_is m))
          ∙ ap (λ l. contains (constants (v ∷ e)) m || contains l m) (sym ever);
      apart = λ i h. elim (cases_Bool (ltb i (length constant))) [
        | inl b ↦ let hc : i < length constant = grind (arith, nat_tests) in s.apart i (sym (flag-before constant true i hc) ∙ h)
        | inr b ↦ elim (cases_Bool (eqb i (length constant))) [
          | inl q ↦ let is : i ≡ length symbols = grind (arith, nat_tests, s.all_known) in
              ap (λ (k : ℕ). list_any (nat_eq k) variables_) is ∙ within-absent (length symbols) variables_ s.variables_known
          | inr q ↦ let past : length (constant ++ true ∷ []) ≤ i = grind (arith, nat_tests, length-more constant true) in absurd (no_flag (sym (flag-past (constant ++ true ∷ []) i past) ∙ h))
        ]
      ];
      are_variables =
          names-more symbols n variables_ s.variables_known ∙ s.are_variables
          ∙ ap (λ l. reverse l) (sym (kept-grows (added (codes "$v") symbols_in) u v e [] g.plain g.plain_after g.more_variables));
      are_typed = names-more symbols n typed_ s.typed_known ∙ s.are_typed ∙ ap (λ l. reverse l) (sym (kept-grows (added (codes "$f") types) u v e [] g.plain g.plain_after g.more_types));
      are_labels = s.are_labels ∙ ap (λ l. reverse l) (labels-cons u e ∙ ap (λ l. l ++ labels e) (sym g.more_labels) ∙ sym (labels-cons v e));
      are_v_marks = marks-grows new_variables u v e vs g.plain g.plain_after s.are_v_marks;
      are_t_marks = marks-grows new_types u v e ts g.plain g.plain_after s.are_t_marks;
      are_symbols =
          ap (λ l. l ++ n ∷ []) s.are_symbols ∙ repeats-new (flat_map adds (reverse (u ∷ e))) n (ap (λ l. contains l n) (sym s.are_symbols) ∙ absent)
          ∙ ap (λ l. without_repeats [] l) (sym (adds-constant u v e n no_variables g.new_constants g.more_variables));
      are_ordered = s.are_ordered ∙ ordered-same u v e g.more_labels;
    }
  where
    or_false_x : (a x : Bool) → x ≡ false → (a || (x || false)) ≡ a
    or_false_x true x h = refl
    or_false_x false x h = rw h refl

    or_true_x : (a x b : Bool) → x ≡ true → ((a || (x || false)) || b) ≡ true
    or_true_x true x b h = refl
    or_true_x false x b h = rw h refl

    no_flag : false ≡ true → ⊥
    no_flag e = cc

-- ---- a new variable

pub variable-more : (u v : Statement) (e : List Statement) (symbols : List (List ℕ)) (constant : List Bool) (variables_ typed_ : List ℕ) (labels_ : List (List ℕ)) (vs ts : List ℕ) (n : List ℕ)
    → Grows u v [] (n ∷ []) [] [] → list_any (bytes_eq n) symbols ≡ false
    → IsState (u ∷ e) symbols constant variables_ typed_ labels_ vs ts → IsState (v ∷ e) (symbols ++ n ∷ []) (constant ++ false ∷ []) (variables_ ++ length symbols ∷ []) typed_ labels_ vs ts
variable-more u v e symbols constant variables_ typed_ labels_ vs ts n g absent s =
    let a = added (codes "$v") symbols_in u in
    let long = length-more symbols n in
    let same : constants (v ∷ e) ≡ constants (u ∷ e) = constants-cons v e ∙ ap (λ l. l ++ constants e) (g.new_constants ∙ append-nil (added (codes "$c") symbols_in u)) ∙ sym (constants-cons u e) in
    let now : variables_ever (v ∷ e) ≡ (a ++ n ∷ []) ++ variables_ever e = variables_ever-cons v e ∙ ap (λ l. l ++ variables_ever e) g.more_variables in
    let was : variables_ever (u ∷ e) ≡ a ++ variables_ever e = variables_ever-cons u e in
    let now_is : (m : List ℕ) → contains (variables_ever (v ∷ e)) m ≡ ((contains a m || (bytes_eq m n || false)) || contains (variables_ever e) m) =
    λ m. ap (λ l. contains l m) now ∙ contains-append (a ++ n ∷ []) (variables_ever e) m
    ∙ ap (λ b. b || contains (variables_ever e) m) (contains-append a (n ∷ []) m) in
    let was_is : (m : List ℕ) → contains (variables_ever (u ∷ e)) m ≡ (contains a m || contains (variables_ever e) m) = λ m. ap (λ l. contains l m) was ∙ contains-append a (variables_ever e) m in
    let more_names : map (λ i. name_of (symbols ++ n ∷ []) i) (variables_ ++ length symbols ∷ []) ≡ map (λ i. name_of symbols i) variables_ ++ n ∷ [] =
    map-append (λ i. name_of (symbols ++ n ∷ []) i) variables_ (length symbols ∷ [])
    ∙ ap (λ l. l ++ name_of (symbols ++ n ∷ []) (length symbols) ∷ []) (names-more symbols n variables_ s.variables_known)
    ∙ ap (λ m. map (λ i. name_of symbols i) variables_ ++ m ∷ []) (name_of-last symbols n) in
    record {
      one = injective-more symbols n s.one absent;
      all_known = length-more constant false ∙ ap (λ (k : ℕ). suc k) s.all_known ∙ sym long;
      variables_known =
          subst (λ (k : ℕ). Within k (variables_ ++ length symbols ∷ [])) (sym long)
          (within-add (suc (length symbols)) variables_ (length symbols) (within-more (length symbols) variables_ s.variables_known)
          (omega arith));
      typed_known = subst (λ (k : ℕ). Within k typed_) (sym long) (within-more (length symbols) typed_ s.typed_known);
      are_constants = λ i h. elim (cases_Bool (ltb i (length symbols))) [
        | inl b ↦
            let hi : i < length symbols = grind (arith, nat_tests) in
            let hc : i < length constant = omega (arith, s.all_known) in
            flag-before constant false i hc ∙ s.are_constants i hi ∙ ap (λ l. contains l (name_of symbols i)) (sym same) ∙ ap (λ m. contains (constants (v ∷ e)) m) (sym (name_of-more symbols n i hi))
        | inr b ↦
            let is : i ≡ length symbols = grind (arith, nat_tests, long) in
            let is_c : i ≡ length constant = is ∙ sym s.all_known in
            let none : contains (constants (u ∷ e)) n ≡ false = (or_parts (contains (constants (u ∷ e)) n) (contains (variables_ever (u ∷ e)) n) (sym (s.are_declared n) ∙ absent)).0 in
            ap (λ (k : ℕ). is_flagged (constant ++ false ∷ []) k) is_c ∙ flag-last constant false ∙ sym none ∙ ap (λ l. contains l n) (sym same)
            ∙ ap (λ m. contains (constants (v ∷ e)) m) (sym (name_of-last symbols n)) ∙ ap (λ (k : ℕ). contains (constants (v ∷ e)) (name_of (symbols ++ n ∷ []) k)) (sym is)
      ];
      are_declared = λ m. list_any-append (bytes_eq m) symbols (n ∷ [])
          ∙ ap (λ b. b || (bytes_eq m n || false)) (s.are_declared m ∙ ap (λ b. contains (constants (u ∷ e)) m || b) (was_is m))
          ∙ either_right (contains (constants (u ∷ e)) m) (contains a m) (contains (variables_ever e) m) (bytes_eq m n)
          ∙ ap (λ b. contains (constants (u ∷ e)) m || b) (sym (now_is m))
          ∙ ap (λ l. contains l m || contains (variables_ever (v ∷ e)) m) (sym same);
      apart = λ i h. elim (cases_Bool (ltb i (length constant))) [
        | inl b ↦
            let hc : i < length constant = grind (arith, nat_tests) in
            let old : list_any (nat_eq i) variables_ ≡ false = s.apart i (sym (flag-before constant false i hc) ∙ h) in
            let other : nat_eq i (length symbols) ≡ false = grind (arith, nat_tests, s.all_known) in
            list_any-append (nat_eq i) variables_ (length symbols ∷ []) ∙ rw (old, other) refl
        | inr b ↦ elim (cases_Bool (eqb i (length constant))) [
          | inl q ↦ let is : i ≡ length constant = grind (arith, nat_tests) in absurd (no_flag (sym (flag-last constant false) ∙ ap (λ (k : ℕ). is_flagged (constant ++ false ∷ []) k) (sym is) ∙ h))
          | inr q ↦ let past : length (constant ++ false ∷ []) ≤ i = grind (arith, nat_tests, length-more constant false) in absurd (no_flag (sym (flag-past (constant ++ false ∷ []) i past) ∙ h))
        ]
      ];
      are_variables =
          more_names ∙ ap (λ l. l ++ n ∷ []) s.are_variables ∙ sym (reverse-append (n ∷ []) (kept new_variables (u ∷ e)))
          ∙ ap (λ l. reverse l) (sym (kept-grows (added (codes "$v") symbols_in) u v e (n ∷ []) g.plain g.plain_after g.more_variables));
      are_typed = names-more symbols n typed_ s.typed_known ∙ s.are_typed ∙ ap (λ l. reverse l) (sym (kept-grows (added (codes "$f") types) u v e [] g.plain g.plain_after g.more_types));
      are_labels = s.are_labels ∙ ap (λ l. reverse l) (labels-cons u e ∙ ap (λ l. l ++ labels e) (sym g.more_labels) ∙ sym (labels-cons v e));
      are_v_marks = marks-grows new_variables u v e vs g.plain g.plain_after s.are_v_marks;
      are_t_marks = marks-grows new_types u v e ts g.plain g.plain_after s.are_t_marks;
      are_symbols =
          ap (λ l. l ++ n ∷ []) s.are_symbols ∙ repeats-new (flat_map adds (reverse (u ∷ e))) n (ap (λ l. contains l n) (sym s.are_symbols) ∙ absent)
          ∙ ap (λ l. without_repeats [] l) (sym (adds-variable u v e n g.new_constants g.more_variables));
      are_ordered = s.are_ordered ∙ ordered-same u v e g.more_labels;
    }
  where
    no_flag : false ≡ true → ⊥
    no_flag e = cc

-- ---- a variable that was declared before and is active again

pub variable-again : (u v : Statement) (e : List Statement) (symbols : List (List ℕ)) (constant : List Bool) (variables_ typed_ : List ℕ) (labels_ : List (List ℕ)) (vs ts : List ℕ) (i : ℕ)
    → Grows u v [] (name_of symbols i ∷ []) [] [] → i < length symbols → is_flagged constant i ≡ false
    → IsState (u ∷ e) symbols constant variables_ typed_ labels_ vs ts → IsState (v ∷ e) symbols constant (variables_ ++ i ∷ []) typed_ labels_ vs ts
variable-again u v e symbols constant variables_ typed_ labels_ vs ts i g hi flag s =
    let n = name_of symbols i in
    let a = added (codes "$v") symbols_in u in
    let same : constants (v ∷ e) ≡ constants (u ∷ e) = constants-cons v e ∙ ap (λ l. l ++ constants e) (g.new_constants ∙ append-nil (added (codes "$c") symbols_in u)) ∙ sym (constants-cons u e) in
    let now : variables_ever (v ∷ e) ≡ (a ++ n ∷ []) ++ variables_ever e = variables_ever-cons v e ∙ ap (λ l. l ++ variables_ever e) g.more_variables in
    let was : variables_ever (u ∷ e) ≡ a ++ variables_ever e = variables_ever-cons u e in
    let now_is : (m : List ℕ) → contains (variables_ever (v ∷ e)) m ≡ ((contains a m || (bytes_eq m n || false)) || contains (variables_ever e) m) =
    λ m. ap (λ l. contains l m) now ∙ contains-append (a ++ n ∷ []) (variables_ever e) m
    ∙ ap (λ b. b || contains (variables_ever e) m) (contains-append a (n ∷ []) m) in
    let was_is : (m : List ℕ) → contains (variables_ever (u ∷ e)) m ≡ (contains a m || contains (variables_ever e) m) = λ m. ap (λ l. contains l m) was ∙ contains-append a (variables_ever e) m in
    let before : (m : List ℕ) → list_any (bytes_eq m) symbols ≡ (contains (constants (u ∷ e)) m || (contains a m || contains (variables_ever e) m)) =
    λ m. s.are_declared m ∙ ap (λ b. contains (constants (u ∷ e)) m || b) (was_is m) in
    record {
      one = s.one;
      all_known = s.all_known;
      variables_known = within-add (length symbols) variables_ i s.variables_known hi;
      typed_known = s.typed_known;
      are_constants = λ j h. s.are_constants j h ∙ ap (λ l. contains l (name_of symbols j)) (sym same);
      are_declared = λ m.
          sym (there symbols m i hi)
          ∙ ap (λ b. b || (bytes_eq m n || false)) (before m)
          ∙ either_right (contains (constants (u ∷ e)) m) (contains a m) (contains (variables_ever e) m) (bytes_eq m n)
          ∙ ap (λ b. contains (constants (u ∷ e)) m || b) (sym (now_is m))
          ∙ ap (λ l. contains l m || contains (variables_ever (v ∷ e)) m) (sym same);
      apart = λ j h. elim (cases_Bool (eqb j i)) [
        | inl q ↦ let is : j ≡ i = grind (arith, nat_tests) in absurd (no_flag (sym flag ∙ ap (λ (k : ℕ). is_flagged constant k) (sym is) ∙ h))
        | inr q ↦ let old = s.apart j h in list_any-append (nat_eq j) variables_ (i ∷ []) ∙ rw (old, q) refl
      ];
      are_variables =
          map-append (λ k. name_of symbols k) variables_ (i ∷ []) ∙ ap (λ l. l ++ n ∷ []) s.are_variables
          ∙ sym (reverse-append (n ∷ []) (kept new_variables (u ∷ e)))
          ∙ ap (λ l. reverse l) (sym (kept-grows (added (codes "$v") symbols_in) u v e (n ∷ []) g.plain g.plain_after g.more_variables));
      are_typed = s.are_typed ∙ ap (λ l. reverse l) (sym (kept-grows (added (codes "$f") types) u v e [] g.plain g.plain_after g.more_types));
      are_labels = s.are_labels ∙ ap (λ l. reverse l) (labels-cons u e ∙ ap (λ l. l ++ labels e) (sym g.more_labels) ∙ sym (labels-cons v e));
      are_v_marks = marks-grows new_variables u v e vs g.plain g.plain_after s.are_v_marks;
      are_t_marks = marks-grows new_types u v e ts g.plain g.plain_after s.are_t_marks;
      are_symbols =
          s.are_symbols
          ∙ repeats-old (flat_map adds (reverse (u ∷ e))) n
          (ap (λ l. contains l n) (sym s.are_symbols) ∙ stands symbols n i hi ((bytes_eq-Decides n n).1 refl))
          ∙ ap (λ l. without_repeats [] l) (sym (adds-variable u v e n g.new_constants g.more_variables));
      are_ordered = s.are_ordered ∙ ordered-same u v e g.more_labels;
    }
  where
    no_flag : false ≡ true → ⊥
    no_flag e = cc

    here : (a x : Bool) → (x ≡ true → a ≡ true) → (a || (x || false)) ≡ a
    here true x h = refl
    here false true h = sym (h refl)
    here false false h = refl

    stands : (symbols : List (List ℕ)) (m : List ℕ) (i : ℕ) → i < length symbols → bytes_eq m (name_of symbols i) ≡ true → list_any (bytes_eq m) symbols ≡ true
    stands [] m i h e = let bad : ⊥ = omega arith in absurd bad
    stands (s ∷ symbols) m zero h e = rw e refl
    stands (s ∷ symbols) m (suc i) h e = let later = stands symbols m i (omega arith) e in elim (cases_Bool (bytes_eq m s)) [ inl q ↦ rw q refl | inr q ↦ rw q later ]

    there : (symbols : List (List ℕ)) (m : List ℕ) (i : ℕ) → i < length symbols → (list_any (bytes_eq m) symbols || (bytes_eq m (name_of symbols i) || false)) ≡ list_any (bytes_eq m) symbols
    there symbols m i h = here (list_any (bytes_eq m) symbols) (bytes_eq m (name_of symbols i)) (λ e. stands symbols m i h e)

-- ---- a variable that gets a typecode

pub typed-more : (u v : Statement) (e : List Statement) (symbols : List (List ℕ)) (constant : List Bool) (variables_ typed_ : List ℕ) (labels_ : List (List ℕ)) (vs ts : List ℕ) (i : ℕ)
    → Grows u v [] [] (name_of symbols i ∷ []) [] → i < length symbols
    → IsState (u ∷ e) symbols constant variables_ typed_ labels_ vs ts → IsState (v ∷ e) symbols constant variables_ (typed_ ++ i ∷ []) labels_ vs ts
typed-more u v e symbols constant variables_ typed_ labels_ vs ts i g hi s =
    let n = name_of symbols i in
    let same : constants (v ∷ e) ≡ constants (u ∷ e) = constants-cons v e ∙ ap (λ l. l ++ constants e) (g.new_constants ∙ append-nil (added (codes "$c") symbols_in u)) ∙ sym (constants-cons u e) in
    let ever : variables_ever (v ∷ e) ≡ variables_ever (u ∷ e) =
    variables_ever-cons v e ∙ ap (λ l. l ++ variables_ever e) (g.more_variables ∙ append-nil (added (codes "$v") symbols_in u))
    ∙ sym (variables_ever-cons u e) in
    record {
      one = s.one;
      all_known = s.all_known;
      variables_known = s.variables_known;
      typed_known = within-add (length symbols) typed_ i s.typed_known hi;
      are_constants = λ j h. s.are_constants j h ∙ ap (λ l. contains l (name_of symbols j)) (sym same);
      are_declared = λ m. s.are_declared m ∙ ap (λ l. contains l m || contains (variables_ever (u ∷ e)) m) (sym same) ∙ ap (λ l. contains (constants (v ∷ e)) m || contains l m) (sym ever);
      apart = s.apart;
      are_variables = s.are_variables ∙ ap (λ l. reverse l) (sym (kept-grows (added (codes "$v") symbols_in) u v e [] g.plain g.plain_after g.more_variables));
      are_typed =
          map-append (λ k. name_of symbols k) typed_ (i ∷ []) ∙ ap (λ l. l ++ n ∷ []) s.are_typed
          ∙ sym (reverse-append (n ∷ []) (kept new_types (u ∷ e)))
          ∙ ap (λ l. reverse l) (sym (kept-grows (added (codes "$f") types) u v e (n ∷ []) g.plain g.plain_after g.more_types));
      are_labels = s.are_labels ∙ ap (λ l. reverse l) (labels-cons u e ∙ ap (λ l. l ++ labels e) (sym g.more_labels) ∙ sym (labels-cons v e));
      are_v_marks = marks-grows new_variables u v e vs g.plain g.plain_after s.are_v_marks;
      are_t_marks = marks-grows new_types u v e ts g.plain g.plain_after s.are_t_marks;
      are_symbols = s.are_symbols ∙ ap (λ l. without_repeats [] l) (adds-same u v e g.new_constants g.more_variables);
      are_ordered = s.are_ordered ∙ ordered-same u v e g.more_labels;
    }

-- ---- a label

pub label-more : (u v : Statement) (e : List Statement) (symbols : List (List ℕ)) (constant : List Bool) (variables_ typed_ : List ℕ) (labels_ : List (List ℕ)) (vs ts : List ℕ) (n : List ℕ)
    → Grows u v [] [] [] (n ∷ []) → map (λ (w : Word). w.bytes) (labels_in u) ≡ []
    → IsState (u ∷ e) symbols constant variables_ typed_ labels_ vs ts → IsState (v ∷ e) symbols constant variables_ typed_ (labels_ ++ n ∷ []) vs ts
label-more u v e symbols constant variables_ typed_ labels_ vs ts n g no_label s =
    let same : constants (v ∷ e) ≡ constants (u ∷ e) = constants-cons v e ∙ ap (λ l. l ++ constants e) (g.new_constants ∙ append-nil (added (codes "$c") symbols_in u)) ∙ sym (constants-cons u e) in
    let ever : variables_ever (v ∷ e) ≡ variables_ever (u ∷ e) =
    variables_ever-cons v e ∙ ap (λ l. l ++ variables_ever e) (g.more_variables ∙ append-nil (added (codes "$v") symbols_in u))
    ∙ sym (variables_ever-cons u e) in
    let now : labels (v ∷ e) ≡ n ∷ labels (u ∷ e) = labels-cons v e ∙ ap (λ l. l ++ labels e) g.more_labels ∙ ap (λ l. n ∷ l) (sym (labels-cons u e)) in
    record {
      one = s.one;
      all_known = s.all_known;
      variables_known = s.variables_known;
      typed_known = s.typed_known;
      are_constants = λ j h. s.are_constants j h ∙ ap (λ l. contains l (name_of symbols j)) (sym same);
      are_declared = λ m. s.are_declared m ∙ ap (λ l. contains l m || contains (variables_ever (u ∷ e)) m) (sym same) ∙ ap (λ l. contains (constants (v ∷ e)) m || contains l m) (sym ever);
      apart = s.apart;
      are_variables = s.are_variables ∙ ap (λ l. reverse l) (sym (kept-grows (added (codes "$v") symbols_in) u v e [] g.plain g.plain_after g.more_variables));
      are_typed = s.are_typed ∙ ap (λ l. reverse l) (sym (kept-grows (added (codes "$f") types) u v e [] g.plain g.plain_after g.more_types));
      are_labels = ap (λ l. l ++ n ∷ []) s.are_labels ∙ sym (reverse-append (n ∷ []) (labels (u ∷ e))) ∙ ap (λ l. reverse l) (sym now);
      are_v_marks = marks-grows new_variables u v e vs g.plain g.plain_after s.are_v_marks;
      are_t_marks = marks-grows new_types u v e ts g.plain g.plain_after s.are_t_marks;
      are_symbols = s.are_symbols ∙ ap (λ l. without_repeats [] l) (adds-same u v e g.new_constants g.more_variables);
      are_ordered =
          ap (λ l. l ++ n ∷ [])
          (s.are_ordered ∙ flat-last label_names u e ∙ ap (λ l. flat_map label_names (reverse e) ++ l) no_label
          ∙ append-nil (flat_map label_names (reverse e)))
          ∙ sym (flat-last label_names v e ∙ ap (λ l. flat_map label_names (reverse e) ++ l) (g.more_labels ∙ ap (λ l. n ∷ l) no_label));
    }
