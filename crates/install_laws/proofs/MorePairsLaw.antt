-- With further pairs of distinct variables a proof is accepted that was accepted before.
use Rattle.std.specs.Prelude.{◌≡◌, ℕ, zero, suc, ◌<◌, Bool, true, false, cond, not, ◌||◌, List, [], ◌∷◌, length, filter, find, nat_lt, zip}
use Rattle.std.specs.Prelude.{reverse, take, drop, slice_index_or, Contains, if◌then◌else◌, Option, Some, None, option_map, Result, Ok, Err}
use Rattle.std.specs.Prelude.{refl}
use Rattle.std.specs.List.{list_any}
use Rattle.std.specs.Option.{option_or}
use Rattle.std.specs.Str.{bytes_eq}
use Rattle.std.proofs.Common.{sym, ap, subst, ◌∙◌, arith}
use Rattle.mm_base.specs.declared.symbols.Sym.{Sym}
use Rattle.mm_base.specs.declared.symbols.Pair.{Pair}
use Rattle.mm_model.specs.declared.frames.Hyp.{Hyp}
use Rattle.mm_model.specs.declared.frames.Frame.{Frame}
use Rattle.mm_model.specs.Names.{Name}
use Rattle.proof_model.specs.declared.code.What.{What}
use Rattle.proof_model.specs.declared.code.What.TheVariants as what
use Rattle.proof_model.specs.declared.code.Step.{Step}
use Rattle.proof_model.specs.declared.code.Code.{Code}
use Rattle.proof_model.specs.declared.theorem.Theorem.{Theorem}
use Rattle.proof_model.specs.Machine.{Formula, Entry, Frames, MachineFault, underflow, not_earlier, State, start, substituted, least}
use Rattle.proof_model.specs.Machine.{or_later, first_pair, variable_pairs, is_active_pair, distinct_fault, entries_fault, type_fault}
use Rattle.proof_model.specs.Machine.{hyp_fault, shared_fault, unless, applied, apply_frame, use_frame, use_hyp, use_label, use_what}
use Rattle.proof_model.specs.Machine.{use_step, numbered, run_steps, ended_fault, proof_fault, and_then, keep_top}
use Rattle.install_laws.specs.TwoDatabases.{LawOfMorePairs}
use Rattle.install_laws.proofs.TwoDatabasesLaws.{same_pairs}

-- ---- lists

in_later : {X : Type 0} (x : X) (xs : List X) (y : X) → Contains xs y → Contains (x ∷ xs) y
in_later x xs y (k, l, e) = (suc k, omega (arith, l), e)

-- one that passes
one_of : {X : Type 0} (test : X → Bool) (xs : List X) → list_any test xs ≡ true → (x : X) × Contains xs x × (test x ≡ true)
one_of test [] e = absurd (cc)
one_of test (x ∷ xs) e = by (test x) refl e (λ h. one_of test xs h)
  where
    by : (b : Bool) → test x ≡ b → (b || list_any test xs) ≡ true → (list_any test xs ≡ true → (y : _) × Contains xs y × (test y ≡ true))
        → (y : _) × Contains (x ∷ xs) y × (test y ≡ true)
    by true is h later = (x, (0, omega arith, refl), is)
    by false is h later = let found = later h in (found.0, in_later x xs found.0 found.1, found.2)

some_passes : {X : Type 0} (test : X → Bool) (xs : List X) (x : X) (k : ℕ) → k < length xs → slice_index_or xs k x ≡ x → test x ≡ true → list_any test xs ≡ true
some_passes test [] x k l e is = absurd (omega (arith, l))
some_passes test (y ∷ ys) x zero l e is = let passes : test y ≡ true = ap test e ∙ is in ap (λ b. b || list_any test ys) passes
some_passes test (y ∷ ys) x (suc k) l e is = let more = some_passes test ys x k (omega (arith, l)) e is in or_true (test y) (list_any test ys) more
  where
    or_true : (a b : Bool) → b ≡ true → (a || b) ≡ true
    or_true true b h = refl
    or_true false b h = h

-- ---- a test that fewer pass

module _ (f g : Sym × Sym → Bool) (fewer : (vw : Sym × Sym) → g vw ≡ true → f vw ≡ true) where
  none_least : (xs : List (Sym × Sym)) → least (filter f xs) ≡ None → least (filter g xs) ≡ None
  none_least [] e = refl
  none_least (x ∷ xs) e = by (f x) (g x) (fewer x) e (λ h. none_least xs h)
    where
      by : (a b : Bool) → (b ≡ true → a ≡ true) → least (cond a (x ∷ filter f xs) (filter f xs)) ≡ None → (least (filter f xs) ≡ None → least (filter g xs) ≡ None)
          → least (cond b (x ∷ filter g xs) (filter g xs)) ≡ None
      by true b is h later = absurd (cc)
      by false true is h later = let no : true ≡ false = sym (is refl) in absurd (cc)
      by false false is h later = later h

  none_first : (s : Theorem) (entries : List Entry) (ps : List Pair) → first_pair f s entries ps ≡ None → first_pair g s entries ps ≡ None
  none_first s entries [] e = refl
  none_first s entries (p ∷ ps) e = by (least (filter f (variable_pairs s entries p))) refl e (λ h. none_first s entries ps h)
    where
      joined : (o : Option (Sym × Sym)) → o ≡ None → (later : Option (Pair × (Sym × Sym))) → later ≡ None → or_later p o later ≡ None
      joined None is later h = h
      joined (Some vw) is later h = absurd (cc)

      by : (o : Option (Sym × Sym)) → least (filter f (variable_pairs s entries p)) ≡ o → or_later p o (first_pair f s entries ps) ≡ None
          → (first_pair f s entries ps ≡ None → first_pair g s entries ps ≡ None) → first_pair g s entries (p ∷ ps) ≡ None
      by None is h later =
          joined (least (filter g (variable_pairs s entries p))) (none_least (variable_pairs s entries p) is) (first_pair g s entries ps) (later h)
      by (Some vw) is h later = absurd (cc)

-- ---- a theorem with further pairs

abbrev pub Keeps : {X E : Type 0} → Result X E → Result X E → Type 0
Keeps {X} r q = (x : X) → r ≡ Ok x → q ≡ Ok x

pub and_keeps : {X Y E : Type 0} (f g : X → Result Y E) (r q : Result X E) → Keeps r q → ((x : X) → Keeps (f x) (g x)) → Keeps (and_then f r) (and_then g q)
and_keeps f g (Ok x) q keeps more y e = subst (λ p. and_then g p ≡ Ok y) (sym (keeps x refl)) (more x y e)
and_keeps f g (Err h) q keeps more y e = absurd (cc)

pub numbered_keeps : (n : ℕ) (r q : Result State MachineFault) → Keeps r q → Keeps (numbered n r) (numbered n q)
numbered_keeps n (Ok st) q keeps x e = ap (numbered n) (keeps st refl) ∙ e
numbered_keeps n (Err f) q keeps x e = absurd (cc)

-- the formula in place of what was taken for it
abbrev put_top : Frame → State → Formula → Result State MachineFault
put_top frame st f = Ok (record { stack = f ∷ drop (length frame.hyps) st.stack; kept = st.kept })

module _ (s : Theorem) (pairs : List Pair) (further : (p : Pair) → Contains s.pairs p → Contains pairs p) where
  abbrev t : Theorem
  t = record s { pairs = pairs }

  more_active : (vw : Sym × Sym) → not (is_active_pair t vw) ≡ true → not (is_active_pair s vw) ≡ true
  more_active vw e = by (is_active_pair s vw) refl
    where
      by : (b : Bool) → is_active_pair s vw ≡ b → not b ≡ true
      by false is = refl
      by true is =
          let found = one_of _ s.pairs is in
          let there = further found.0 found.1 in
          let active : is_active_pair t vw ≡ true = some_passes _ pairs found.0 there.0 there.1 there.2 found.2 in
          let no : not true ≡ true = ap not (sym active) ∙ e in absurd (cc)

  no_distinct : (entries : List Entry) (ps : List Pair) → distinct_fault s entries ps ≡ None → distinct_fault t entries ps ≡ None
  no_distinct entries ps e =
      let none : first_pair (λ vw. not (is_active_pair s vw)) s entries ps ≡ None = no_map (first_pair (λ vw. not (is_active_pair s vw)) s entries ps) e in
      ap (λ o. option_map (λ (f : Pair × (Sym × Sym)). MachineFault.not_distinct f.1.0 f.1.1) o)
      (none_first (λ vw. not (is_active_pair s vw)) (λ vw. not (is_active_pair t vw)) more_active s entries ps none)
    where
      no_map : (o : Option (Pair × (Sym × Sym))) → option_map (λ (f : Pair × (Sym × Sym)). MachineFault.not_distinct f.1.0 f.1.1) o ≡ None → o ≡ None
      no_map None h = refl
      no_map (Some f) h = absurd (cc)

  no_fault : (frame : Frame) (entries : List Entry) → entries_fault s frame entries ≡ None → entries_fault t frame entries ≡ None
  no_fault frame entries e =
      by (type_fault entries) (hyp_fault entries) (shared_fault s entries frame.pairs) (distinct_fault s entries frame.pairs)
      (distinct_fault t entries frame.pairs) e (no_distinct entries frame.pairs)
    where
      by : (a b c d f : Option MachineFault) → option_or a (option_or b (option_or c d)) ≡ None → (d ≡ None → f ≡ None) → option_or a (option_or b (option_or c f)) ≡ None
      by None None None d f h is = is h
      by None None (Some x) d f h is = absurd (cc)
      by None (Some x) c d f h is = absurd (cc)
      by (Some x) b c d f h is = absurd (cc)

  applied_keeps : (frame : Frame) (taken : List Formula) → Keeps (applied s frame taken) (applied t frame taken)
  applied_keeps frame taken x e = by (entries_fault s frame (zip frame.hyps taken)) (entries_fault t frame (zip frame.hyps taken)) e (no_fault frame (zip frame.hyps taken))
    where
      by : (a b : Option MachineFault) → unless a (substituted (zip frame.hyps taken) frame.formula) ≡ Ok x → (a ≡ None → b ≡ None)
          → unless b (substituted (zip frame.hyps taken) frame.formula) ≡ Ok x
      by None b h is = subst (λ o. unless o (substituted (zip frame.hyps taken) frame.formula) ≡ Ok x) (sym (is refl)) h
      by (Some f) b h is = absurd (cc)

  frame_keeps : (frame : Frame) (st : State) → Keeps (apply_frame s frame st) (apply_frame t frame st)
  frame_keeps frame st = by (nat_lt (length st.stack) (length frame.hyps))
    where
      by : (b : Bool)
          → Keeps (if b then Err underflow else and_then (put_top frame st) (applied s frame (reverse (take (length frame.hyps) st.stack))))
          (if b then Err underflow else and_then (put_top frame st) (applied t frame (reverse (take (length frame.hyps) st.stack))))
      by true x e = e
      by false x e =
          and_keeps (put_top frame st) (put_top frame st) (applied s frame (reverse (take (length frame.hyps) st.stack)))
          (applied t frame (reverse (take (length frame.hyps) st.stack)))
          (applied_keeps frame (reverse (take (length frame.hyps) st.stack))) (λ f y h. h) x e

  module _ (frames : Frames) where
    assertion_keeps : (o : Option Frame) (st : State) → Keeps (use_frame frames s o st) (use_frame frames t o st)
    assertion_keeps None st = λ x e. e
    assertion_keeps (Some frame) st = by (nat_lt frame.at s.at)
      where
        by : (b : Bool) → Keeps (if b then apply_frame s frame st else Err not_earlier) (if b then apply_frame t frame st else Err not_earlier)
        by true = frame_keeps frame st
        by false = λ x e. e

    hyp_keeps : (name : Name) (o : Option Hyp) (st : State) → Keeps (use_hyp frames s name o st) (use_hyp frames t name o st)
    hyp_keeps name (Some h) st = λ x e. e
    hyp_keeps name None st = assertion_keeps (frames name) st

    label_keeps : (name : Name) (st : State) → Keeps (use_label frames s name st) (use_label frames t name st)
    label_keeps name st = hyp_keeps name (find (λ (h : Hyp). bytes_eq h.name name) s.hyps) st

    what_keeps : (labels : List Name) (w : What) (st : State) → Keeps (use_what frames s labels w st) (use_what frames t labels w st)
    what_keeps labels (what.Hyp k) st = label_keeps (slice_index_or s.mandatory k []) st
    what_keeps labels (what.Listed k) st = label_keeps (slice_index_or labels k []) st
    what_keeps labels (what.Again k) st = λ x e. e
    what_keeps labels what.Unknown st = λ x e. e

    step_keeps : (labels : List Name) (a : Step) (st : State) → Keeps (use_step frames s labels a st) (use_step frames t labels a st)
    step_keeps labels a st =
        and_keeps (λ next. Ok (keep_top a.marked next)) (λ next. Ok (keep_top a.marked next)) (use_what frames s labels a.what st)
        (use_what frames t labels a.what st)
        (what_keeps labels a.what st) (λ next y h. h)

    run_keeps : (labels : List Name) (n : ℕ) (ss : List Step) (st : State) → Keeps (run_steps frames s labels n ss st) (run_steps frames t labels n ss st)
    run_keeps labels n [] st = λ x e. e
    run_keeps labels n (a ∷ ss) st =
        and_keeps (run_steps frames s labels (suc n) ss) (run_steps frames t labels (suc n) ss) (numbered n (use_step frames s labels a st))
        (numbered n (use_step frames t labels a st))
        (numbered_keeps n (use_step frames s labels a st) (use_step frames t labels a st) (step_keeps labels a st)) (λ next. run_keeps labels (suc n) ss next)

    accepts_more : (code : Code) → proof_fault frames s code ≡ None → proof_fault frames t code ≡ None
    accepts_more code e = by (run_steps frames s code.labels 0 code.steps start) refl e
      where
        by : (r : Result State (ℕ × MachineFault)) → run_steps frames s code.labels 0 code.steps start ≡ r
            → ended_fault s (length code.steps) r ≡ None → proof_fault frames t code ≡ None
        by (Ok st) is h = subst (λ r. ended_fault t (length code.steps) r ≡ None) (sym (run_keeps code.labels 0 code.steps start st is)) h
        by (Err f) is h = absurd (cc)

abbrev with_pairs : Theorem → List Pair → Theorem
with_pairs t pairs = record t { pairs = pairs }

-- the law: with further pairs the machine accepts what it accepted
pub more_pairs : LawOfMorePairs
more_pairs here there s t code alike further accepts = accepts_more (with_pairs t s.pairs) t.pairs further there code (sym same ∙ accepts)
  where
    same : proof_fault here s code ≡ proof_fault there (with_pairs t s.pairs) code
    same = same_pairs here there s (with_pairs t s.pairs) code (record { formula = alike.formula; hyps = alike.hyps; mandatory = alike.mandatory; labels = alike.labels }) refl
