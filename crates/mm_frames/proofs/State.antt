-- The lists that the reader keeps, tied to the statements so far.
use Rattle.std.proofs.Common.{◌≡◌, ℕ, zero, suc, ◌<◌, Bool, true, false, ◌||◌, List, [], ◌∷◌, ◌++◌, append-nil, length, take, map, reverse, refl, sym}
use Rattle.std.proofs.Common.{ap, ◌∙◌, codes, nat_eq, flat_map, slice_get, unwrap_or, inl, inr}
use Rattle.std.specs.List.{list_any}
use Rattle.std.specs.Str.{bytes_eq}
use Rattle.std.proofs.lemmas.Bool.{cases_Bool}
use Rattle.std.proofs.lemmas.List.{reverse-append, length-reverse}
use Rattle.std.proofs.lemmas.List.Folds.{list_any-append}
use Rattle.std.proofs.lemmas.Grind.{flat_map-append}
use Rattle.mm_model.specs.Words.{Word, word}
use Rattle.mm_model.specs.Frames.{without_repeats}
use Rattle.mm_model.specs.Statements.{labels_in, Statement, has_keyword, symbols_in, contains, constants, variables_ever, variables, typed, labels, active}
use Rattle.mm_model.proofs.Lists.{added, types}
use Rattle.mm_frames.proofs.Marks.{kept, Marks, kept-close, kept-open, marks-close, marks-open, listed-is}
use Rattle.mm_frames.proofs.Numbers.{name_of, Injective, Within, bridge, bridge_none}
use Rattle.mm_frames.proofs.Names.{absent-at}

-- the variables that a `$v` adds, and the one that a `$f` gives a typecode, the nearest first
abbrev pub new_variables : Statement → List (List ℕ)
new_variables s = reverse (added (codes "$v") symbols_in s)

abbrev pub new_types : Statement → List (List ℕ)
new_types s = reverse (added (codes "$f") types s)

abbrev pub is_flagged : List Bool → ℕ → Bool
is_flagged flags i = unwrap_or (slice_get flags i) false

-- the symbols that a statement may declare, and its label
abbrev pub adds : Statement → List (List ℕ)
adds s = added (codes "$c") symbols_in s ++ added (codes "$v") symbols_in s

abbrev pub label_names : Statement → List (List ℕ)
label_names s = map (λ (w : Word). w.bytes) (labels_in s)

-- `e` are the statements so far, the nearest first
pub record IsState (e : List Statement) (symbols : List (List ℕ)) (constant : List Bool) (variables typed : List ℕ) (labels_ : List (List ℕ)) (v_marks t_marks : List ℕ) : Type 0 where
  pub one : Injective symbols
  pub all_known : length constant ≡ length symbols
  pub variables_known : Within (length symbols) variables
  pub typed_known : Within (length symbols) typed
  pub are_constants : (i : ℕ) → i < length symbols → is_flagged constant i ≡ contains (constants e) (name_of symbols i)
  pub are_declared : (n : List ℕ) → list_any (bytes_eq n) symbols ≡ (contains (constants e) n || contains (variables_ever e) n)
  pub apart : (i : ℕ) → is_flagged constant i ≡ true → list_any (nat_eq i) variables ≡ false
  pub are_variables : map (λ i. name_of symbols i) variables ≡ reverse (kept new_variables e)
  pub are_typed : map (λ i. name_of symbols i) typed ≡ reverse (kept new_types e)
  pub are_labels : labels_ ≡ reverse (labels e)
  pub are_v_marks : Marks new_variables e 0 v_marks
  pub are_t_marks : Marks new_types e 0 t_marks
  pub are_symbols : symbols ≡ without_repeats [] (flat_map adds (reverse e))
  pub are_ordered : labels_ ≡ flat_map label_names (reverse e)

-- ---- statements that show the same

-- neither `${` nor `$}`
pub record IsPlain (s : Statement) : Type 0 where
  pub no_open : has_keyword (codes "${") s ≡ false
  pub no_close : has_keyword (codes "$}") s ≡ false

-- lists of statements of which the same is kept
pub record Alike (e f : List Statement) : Type 0 where
  pub same_constants : constants e ≡ constants f
  pub same_ever : variables_ever e ≡ variables_ever f
  pub same_variables : kept new_variables e ≡ kept new_variables f
  pub same_types : kept new_types e ≡ kept new_types f
  pub same_labels : labels e ≡ labels f
  pub same_adds : flat_map adds (reverse e) ≡ flat_map adds (reverse f)
  pub same_ordered : flat_map label_names (reverse e) ≡ flat_map label_names (reverse f)
  pub v_marks : (ms : List ℕ) → Marks new_variables e 0 ms → Marks new_variables f 0 ms
  pub t_marks : (ms : List ℕ) → Marks new_types e 0 ms → Marks new_types f 0 ms

pub state-alike : (e f : List Statement) (symbols : List (List ℕ)) (constant : List Bool) (variables typed : List ℕ) (labels_ : List (List ℕ))
    (vs ts : List ℕ)
    → Alike e f → IsState e symbols constant variables typed labels_ vs ts → IsState f symbols constant variables typed labels_ vs ts
state-alike e f symbols constant variables typed labels_ vs ts a s = record {
  one = s.one;
  all_known = s.all_known;
  variables_known = s.variables_known;
  typed_known = s.typed_known;
  are_constants = λ i h. s.are_constants i h ∙ ap (λ l. contains l (name_of symbols i)) a.same_constants;
  are_declared = λ n. s.are_declared n ∙ ap (λ l. contains l n || contains (variables_ever e) n) a.same_constants ∙ ap (λ l. contains (constants f) n || contains l n) a.same_ever;
  apart = s.apart;
  are_variables = s.are_variables ∙ ap (λ l. reverse l) a.same_variables;
  are_typed = s.are_typed ∙ ap (λ l. reverse l) a.same_types;
  are_labels = s.are_labels ∙ ap (λ l. reverse l) a.same_labels;
  are_v_marks = a.v_marks vs s.are_v_marks;
  are_t_marks = a.t_marks ts s.are_t_marks;
  are_symbols = s.are_symbols ∙ ap (λ l. without_repeats [] l) a.same_adds;
  are_ordered = s.are_ordered ∙ a.same_ordered;
}

-- the last statement gives the end of such a list
pub flat-last : {X : Type 0} (h : Statement → List X) (s : Statement) (e : List Statement) → flat_map h (reverse (s ∷ e)) ≡ flat_map h (reverse e) ++ h s
flat-last h s e = ap (λ ss. flat_map h ss) (reverse-append (s ∷ []) e) ∙ flat_map-append h (reverse e) (s ∷ []) ∙ ap (λ l. flat_map h (reverse e) ++ l) (append-nil (h s))

-- ---- `$}`

map-take : {A B : Type 0} (f : A → B) (m : ℕ) (xs : List A) → map f (take m xs) ≡ take m (map f xs)
map-take f zero xs = refl
map-take f (suc m) [] = refl
map-take f (suc m) (x ∷ xs) = ap (λ l. f x ∷ l) (map-take f m xs)

within-take : (len m : ℕ) (vs : List ℕ) → Within len vs → Within len (take m vs)
within-take len zero vs h = tt
within-take len (suc m) [] h = tt
within-take len (suc m) (v ∷ vs) h = (h.0, within-take len m vs h.1)

absent-take : (i m : ℕ) (vs : List ℕ) → list_any (nat_eq i) vs ≡ false → list_any (nat_eq i) (take m vs) ≡ false
absent-take i zero vs h = refl
absent-take i (suc m) [] h = refl
absent-take i (suc m) (v ∷ vs) h =
    elim (cases_Bool (nat_eq i v)) [
      | inl e ↦ let bad : true ≡ false = rw e at h in absurd cc
      | inr e ↦ let rest : list_any (nat_eq i) vs ≡ false = rw e at h in rw e (absent-take i m vs rest)
    ]

pub closes : (at : ℕ) (e : List Statement) (symbols : List (List ℕ)) (constant : List Bool) (variables typed : List ℕ) (labels_ : List (List ℕ)) (v t : ℕ) (vs ts : List ℕ)
    → IsState e symbols constant variables typed labels_ (v ∷ vs) (t ∷ ts)
    → IsState ((word at (codes "$}") ∷ []) ∷ e) symbols constant (take v variables) (take t typed) labels_ vs ts
closes at e symbols constant variables typed labels_ v t vs ts s =
    let c : Statement = word at (codes "$}") ∷ [] in
    record {
      one = s.one;
      all_known = s.all_known;
      variables_known = within-take (length symbols) v variables s.variables_known;
      typed_known = within-take (length symbols) t typed s.typed_known;
      are_constants = s.are_constants;
      are_declared = s.are_declared;
      apart = λ i h. absent-take i v variables (s.apart i h);
      are_variables = map-take (λ i. name_of symbols i) v variables ∙ ap (λ l. take v l) s.are_variables ∙ kept-close new_variables c e v vs refl refl s.are_v_marks;
      are_typed = map-take (λ i. name_of symbols i) t typed ∙ ap (λ l. take t l) s.are_typed ∙ kept-close new_types c e t ts refl refl s.are_t_marks;
      are_labels = s.are_labels;
      are_v_marks = marks-close new_variables c e v vs refl refl s.are_v_marks;
      are_t_marks = marks-close new_types c e t ts refl refl s.are_t_marks;
      are_symbols = s.are_symbols ∙ ap (λ l. without_repeats [] l) (sym (flat-last adds c e ∙ append-nil (flat_map adds (reverse e))));
      are_ordered = s.are_ordered ∙ sym (flat-last label_names c e ∙ append-nil (flat_map label_names (reverse e)));
    }

-- ---- `${`

map-length : {A B : Type 0} (f : A → B) (xs : List A) → length (map f xs) ≡ length xs
map-length f [] = refl
map-length f (x ∷ xs) = ap (λ (n : ℕ). suc n) (map-length f xs)

pub opens : (at : ℕ) (e : List Statement) (symbols : List (List ℕ)) (constant : List Bool) (variables typed : List ℕ) (labels_ : List (List ℕ)) (vs ts : List ℕ)
    → IsState e symbols constant variables typed labels_ vs ts
    → IsState ((word at (codes "${") ∷ []) ∷ e) symbols constant variables typed labels_ (length variables ∷ vs) (length typed ∷ ts)
opens at e symbols constant variables typed labels_ vs ts s =
    let c : Statement = word at (codes "${") ∷ [] in
    let v_len : length variables ≡ length (kept new_variables e) = sym (map-length (λ i. name_of symbols i) variables) ∙ ap (λ l. length l) s.are_variables ∙ length-reverse (kept new_variables e) in
    let t_len : length typed ≡ length (kept new_types e) = sym (map-length (λ i. name_of symbols i) typed) ∙ ap (λ l. length l) s.are_typed ∙ length-reverse (kept new_types e) in
    record {
      one = s.one;
      all_known = s.all_known;
      variables_known = s.variables_known;
      typed_known = s.typed_known;
      are_constants = s.are_constants;
      are_declared = s.are_declared;
      apart = s.apart;
      are_variables = s.are_variables ∙ ap (λ l. reverse l) (sym (kept-open new_variables c e refl));
      are_typed = s.are_typed ∙ ap (λ l. reverse l) (sym (kept-open new_types c e refl));
      are_labels = s.are_labels;
      are_v_marks = marks-open new_variables c e (length variables) vs refl refl v_len s.are_v_marks;
      are_t_marks = marks-open new_types c e (length typed) ts refl refl t_len s.are_t_marks;
      are_symbols = s.are_symbols ∙ ap (λ l. without_repeats [] l) (sym (flat-last adds c e ∙ append-nil (flat_map adds (reverse e))));
      are_ordered = s.are_ordered ∙ sym (flat-last label_names c e ∙ append-nil (flat_map label_names (reverse e)));
    }

-- ---- what a known name means

or-comm : (a b : Bool) → (a || b) ≡ (b || a)
or-comm true true = refl
or-comm true false = refl
or-comm false true = refl
or-comm false false = refl

pub or-false : (a : Bool) → (a || false) ≡ a
or-false true = refl
or-false false = refl

pub list_any-reverse : {X : Type 0} (p : X → Bool) (xs : List X) → list_any p (reverse xs) ≡ list_any p xs
list_any-reverse p [] = refl
list_any-reverse p (x ∷ xs) =
    ap (λ l. list_any p l) (reverse-append (x ∷ []) xs) ∙ list_any-append p (reverse xs) (x ∷ [])
    ∙ ap (λ b. b || list_any p (x ∷ [])) (list_any-reverse p xs) ∙ ap (λ b. list_any p xs || b) (or-false (p x)) ∙ or-comm (list_any p xs) (p x)

-- lists that are turned statement by statement have the same members
list_any-turned : (p : List ℕ → Bool) (g : Statement → List (List ℕ)) (ss : List Statement) → list_any p (flat_map (λ s. reverse (g s)) ss) ≡ list_any p (flat_map g ss)
list_any-turned p g [] = refl
list_any-turned p g (s ∷ ss) =
    list_any-append p (reverse (g s)) (flat_map (λ s. reverse (g s)) ss)
    ∙ ap (λ b. b || list_any p (flat_map (λ s. reverse (g s)) ss)) (list_any-reverse p (g s))
    ∙ ap (λ b. list_any p (g s) || b) (list_any-turned p g ss)
    ∙ sym (list_any-append p (g s) (flat_map g ss))

contains-kept : (names : List (List ℕ)) (symbols : List (List ℕ)) (numbers : List ℕ) (i : ℕ) → Injective symbols → i < length symbols
    → Within (length symbols) numbers → map (λ k. name_of symbols k) numbers ≡ reverse names
    → contains names (name_of symbols i) ≡ list_any (nat_eq i) numbers
contains-kept names symbols numbers i one hi hs are =
    sym (list_any-reverse (bytes_eq (name_of symbols i)) names) ∙ ap (λ l. list_any (bytes_eq (name_of symbols i)) l) (sym are) ∙ bridge symbols i numbers one hi hs

contains-none : (names : List (List ℕ)) (symbols : List (List ℕ)) (numbers : List ℕ) (n : List ℕ) → list_any (bytes_eq n) symbols ≡ false
    → Within (length symbols) numbers → map (λ k. name_of symbols k) numbers ≡ reverse names → contains names n ≡ false
contains-none names symbols numbers n absent hs are =
    sym (list_any-reverse (bytes_eq n) names) ∙ ap (λ l. list_any (bytes_eq n) l) (sym are) ∙ bridge_none symbols n numbers (λ v h. absent-at symbols n v absent h) hs

pub variables-kept : (e : List Statement) (n : List ℕ) → contains (variables e) n ≡ contains (kept new_variables e) n
variables-kept e n = ap (λ l. contains l n) (listed-is (codes "$v") symbols_in (active e)) ∙ sym (list_any-turned (bytes_eq n) (added (codes "$v") symbols_in) (active e))

pub typed-kept : (e : List Statement) (n : List ℕ) → contains (typed e) n ≡ contains (kept new_types e) n
typed-kept e n = ap (λ l. contains l n) (listed-is (codes "$f") types (active e)) ∙ sym (list_any-turned (bytes_eq n) (added (codes "$f") types) (active e))

pub variable_is : (e : List Statement) (symbols : List (List ℕ)) (constant : List Bool) (variables_ typed_ : List ℕ) (labels_ : List (List ℕ))
    (vs ts : List ℕ) (i : ℕ)
    → IsState e symbols constant variables_ typed_ labels_ vs ts → i < length symbols
    → contains (variables e) (name_of symbols i) ≡ list_any (nat_eq i) variables_
variable_is e symbols constant variables_ typed_ labels_ vs ts i s hi =
    variables-kept e (name_of symbols i) ∙ contains-kept (kept new_variables e) symbols variables_ i s.one hi s.variables_known s.are_variables

pub variable_none : (e : List Statement) (symbols : List (List ℕ)) (constant : List Bool) (variables_ typed_ : List ℕ) (labels_ : List (List ℕ))
    (vs ts : List ℕ) (n : List ℕ)
    → IsState e symbols constant variables_ typed_ labels_ vs ts → list_any (bytes_eq n) symbols ≡ false → contains (variables e) n ≡ false
variable_none e symbols constant variables_ typed_ labels_ vs ts n s h = variables-kept e n ∙ contains-none (kept new_variables e) symbols variables_ n h s.variables_known s.are_variables

pub typed_is : (e : List Statement) (symbols : List (List ℕ)) (constant : List Bool) (variables_ typed_ : List ℕ) (labels_ : List (List ℕ))
    (vs ts : List ℕ) (i : ℕ)
    → IsState e symbols constant variables_ typed_ labels_ vs ts → i < length symbols
    → contains (typed e) (name_of symbols i) ≡ list_any (nat_eq i) typed_
typed_is e symbols constant variables_ typed_ labels_ vs ts i s hi = typed-kept e (name_of symbols i) ∙ contains-kept (kept new_types e) symbols typed_ i s.one hi s.typed_known s.are_typed
