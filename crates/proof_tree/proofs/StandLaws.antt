-- The proofs of steps by what they are given are those of the written steps that they stand for.
use Rattle.std.proofs.Common.{◌≡◌, ℕ, zero, suc, ◌+◌, ◌<◌, Bool, true, false, not, cond, ◌==◌, List, [], ◌∷◌, ◌++◌, length, map, drop, fold}
use Rattle.std.proofs.Common.{filter_map, find, get_or, slice_get, Option, Some, None, option_map, is_some, refl, sym, ap, ◌∙◌, subst, arith}
use Rattle.std.specs.Prelude.{zip, unwrap_or, flat_map}
use Rattle.std.proofs.Math.Path.{fun_ext}
use Rattle.std.proofs.lemmas.Bool.{eqb-true, eq-eqb}
use Rattle.std.proofs.lemmas.List.{length-map}
use Rattle.std.proofs.lemmas.List.Concat.{flat_map-cons}
use Rattle.std.specs.Option.{option_to_list, option_map_or, option_and_then}
use Rattle.std.specs.List.{AllByRecursion, AllZip, cons_option, range_with_len}
use Rattle.mm_base.specs.declared.symbols.Sym.{Sym}
use Rattle.mm_base.specs.declared.symbols.Label.{Label}
use Rattle.mm_base.specs.declared.kinds.Kinds.{Kinds}
use Rattle.mm_base.specs.declared.tree.Tree.{Tree}
use Rattle.mm_base.specs.declared.tree.Tree.TheFolds.{fold-Tree}
use Rattle.mm_model.specs.declared.frames.Hyp.{Hyp}
use Rattle.mm_model.specs.declared.frames.Frame.{Frame}
use Rattle.mm_model.specs.Names.{Name, sym as symbol, label}
use Rattle.mm_model.specs.Statements.{Statement, statements, labels}
use Rattle.mm_model.specs.Frames.{frame_of, positions}
use Rattle.mm_model.specs.Productions.{TypedVariable, typed_variables, typed_by, floats, essentials}
use Rattle.mm_model.specs.Book.{Database, label_name}
use Rattle.mm_model.specs.BookFacts.{VariablesDiffer, float_formula, IsDatabase}
use Rattle.mm_frames.specs.Contents.{Contents, frame_at}
use Rattle.mm_database.specs.Opened.{Opened, IsOpened}
use Rattle.model_laws.specs.DatabaseLaws.{HasDatabaseFacts}
use Rattle.sheet_text.specs.declared.sheet.Given.TheVariants as place
use Rattle.proof_model.specs.Proofs.{Proof, by, none, proofs}
use Rattle.proof_model.specs.Machine.{is_float_of}
use Rattle.solve_model.specs.Trees.{layer_leaves}
use Rattle.written_model.specs.ProofTrees.{float_variable, hyp_proofs, syntax_proof, no_proof, place_proof, step_proof, step_proofs, use_proof}
use Rattle.written_model.specs.WrittenSteps.{WrittenStep, value_of, no_tree}
use Rattle.proof_tree.specs.declared.building.ProofStep.{ProofStep}
use Rattle.proof_tree.specs.declared.building.ProofStep.TheVariants as given
use Rattle.proof_tree.specs.declared.graph.ProofNode.{ProofNode}
use Rattle.proof_tree.specs.Graphs.{root_proof}
use Rattle.proof_tree.specs.Given.{tree_proof, weave, AreFloats, item_at, hyps_of, reference_proof, given_proof, given_proofs, is_used, used_at}
use Rattle.proof_tree.proofs.GraphLaws.{append_twice, append_none}
use Rattle.proof_tree.specs.Standing.{IsUseOf, IsProofStep, FollowFromUsed, StandFor, book, places_of, Proves}

-- ---- the values of a frame's variables

abbrev pub ValuedHere : (Sym → Proof) → Bool → Sym → (List Proof → Type 0) → List Proof → Type 0
ValuedHere value true s rest [] = ⊥
ValuedHere value true s rest (v ∷ vs) = (v ≡ value s) × rest vs
ValuedHere value false s rest vs = rest vs

-- these are the values of the variables of the `$f`, in order
abbrev pub Valued : (Sym → Proof) → List Hyp → List Proof → Type 0
Valued value [] vs = Unit {0}
Valued value (h ∷ hs) vs = ValuedHere value h.floating (float_variable h) (Valued value hs) vs

without_places : (value : Sym → Proof) (h : Hyp) (hs : List Hyp) (b : Bool) (vs : List Proof)
    → ((ws : List Proof) → Valued value hs ws → 0 ≡ length (essentials hs) → weave hs ws [] ≡ hyp_proofs value hs [])
    → ValuedHere value b (float_variable h) (Valued value hs) vs → 0 ≡ length (cond (not b) (h ∷ essentials hs) (essentials hs))
    → cond b (option_to_list (slice_get vs 0) ++ weave hs (drop 1 vs) []) ([] ++ weave hs vs []) ≡ cond b (value (float_variable h) ∷ hyp_proofs value hs []) (no_proof ∷ hyp_proofs value hs [])
without_places value h hs true [] rest v n = absurd v
without_places value h hs true (w ∷ vs) rest v n = ap (λ p. p ∷ weave hs vs []) v.0 ∙ ap (λ l. value (float_variable h) ∷ l) (rest vs v.1 n)
without_places value h hs false vs rest v n = absurd (omega (arith, n))

with_places : (value : Sym → Proof) (h : Hyp) (hs : List Hyp) (b : Bool) (p : Proof) (ps vs : List Proof)
    → ((ws : List Proof) → Valued value hs ws → suc (length ps) ≡ length (essentials hs) → weave hs ws (p ∷ ps) ≡ hyp_proofs value hs (p ∷ ps))
    → ((ws : List Proof) → Valued value hs ws → length ps ≡ length (essentials hs) → weave hs ws ps ≡ hyp_proofs value hs ps)
    → ValuedHere value b (float_variable h) (Valued value hs) vs → suc (length ps) ≡ length (cond (not b) (h ∷ essentials hs) (essentials hs))
    → cond b (option_to_list (slice_get vs 0) ++ weave hs (drop 1 vs) (p ∷ ps)) (p ∷ weave hs vs ps) ≡ cond b (value (float_variable h) ∷ hyp_proofs value hs (p ∷ ps)) (p ∷ hyp_proofs value hs ps)
with_places value h hs true p ps [] same rest v n = absurd v
with_places value h hs true p ps (w ∷ vs) same rest v n = ap (λ q. q ∷ weave hs vs (p ∷ ps)) v.0 ∙ ap (λ l. value (float_variable h) ∷ l) (same vs v.1 n)
with_places value h hs false p ps vs same rest v n = ap (λ l. p ∷ l) (rest vs v (omega (arith, n)))

pub weave_is : (value : Sym → Proof) (hs : List Hyp) (vs ps : List Proof) → Valued value hs vs → length ps ≡ length (essentials hs) → weave hs vs ps ≡ hyp_proofs value hs ps
weave_is value [] vs ps v n = refl
weave_is value (h ∷ hs) vs [] v n = without_places value h hs h.floating vs (λ ws w m. weave_is value hs ws [] w m) v n
weave_is value (h ∷ hs) vs (p ∷ ps) v n = with_places value h hs h.floating p ps vs (λ ws w m. weave_is value hs ws (p ∷ ps) w m) (λ ws w m. weave_is value hs ws ps w m) v n

at_float : (value : Sym → Proof) (f : List Sym) (fs : List (List Sym)) (vs : List TypedVariable) (ws : List Proof) (rest : List Proof → Type 0) → f ∷ fs ≡ map float_formula (typed_by f ++ vs)
    → map (λ (v : TypedVariable). value v.sym) (typed_by f ++ vs) ≡ ws
    → (fs ≡ map float_formula vs → rest (map (λ (v : TypedVariable). value v.sym) vs)) → ValuedHere value true (get_or f 1 (symbol 0)) rest ws
at_float value [] fs [] ws rest e m r = absurd cc
at_float value [] fs (v ∷ vs) ws rest e m r = absurd (let wrong : [] ≡ float_formula v = cc in cc)
at_float value (c ∷ []) fs [] ws rest e m r = absurd cc
at_float value (c ∷ []) fs (v ∷ vs) ws rest e m r = absurd (let wrong : c ∷ [] ≡ float_formula v = cc in cc)
at_float value (c ∷ v ∷ more) fs vs ws rest e m r =
    let tail : fs ≡ map float_formula vs = cc in
    subst (ValuedHere value true v rest) m (refl, r tail)

float_case : (value : Sym → Proof) (h : Hyp) (hs : List Hyp) (b : Bool) (ws : List Proof)
    → ((us : List Proof) → map (λ (g : Hyp). g.formula) (floats hs) ≡ map float_formula (typed_variables hs) → map (λ (v : TypedVariable). value v.sym) (typed_variables hs) ≡ us → Valued value hs us)
    → map (λ (g : Hyp). g.formula) (cond b (h ∷ floats hs) (floats hs)) ≡ map float_formula (flat_map (λ (g : Hyp). typed_by g.formula) (cond b (h ∷ floats hs) (floats hs)))
    → map (λ (v : TypedVariable). value v.sym) (flat_map (λ (g : Hyp). typed_by g.formula) (cond b (h ∷ floats hs) (floats hs))) ≡ ws → ValuedHere value b (float_variable h) (Valued value hs) ws
float_case value h hs true ws rest e m =
    at_float value h.formula (map (λ (g : Hyp). g.formula) (floats hs)) (typed_variables hs) ws (Valued value hs)
    (e ∙ ap (map float_formula) (flat_map-cons (λ (g : Hyp). typed_by g.formula) h (floats hs)))
    (ap (map (λ (v : TypedVariable). value v.sym)) (sym (flat_map-cons (λ (g : Hyp). typed_by g.formula) h (floats hs))) ∙ m)
    (λ same. rest (map (λ (v : TypedVariable). value v.sym) (typed_variables hs)) same refl)
float_case value h hs false ws rest e m = rest ws e m

pub valued : (value : Sym → Proof) (hs : List Hyp) (ws : List Proof)
    → map (λ (g : Hyp). g.formula) (floats hs) ≡ map float_formula (typed_variables hs)
    → map (λ (v : TypedVariable). value v.sym) (typed_variables hs) ≡ ws
    → Valued value hs ws
valued value [] ws e m = tt
valued value (h ∷ hs) ws e m = float_case value h hs h.floating ws (λ us f n. valued value hs us f n) e m

-- ---- the value of each variable

map_at : {X Y : Type 0} (f g : X → Y) (xs : List X) → ((k : ℕ) (x : X) → slice_get xs k ≡ Some x → f x ≡ g x) → map f xs ≡ map g xs
map_at f g [] h = refl
map_at f g (x ∷ xs) h = ap (λ y. y ∷ map f xs) (h 0 x refl) ∙ ap (λ l. g x ∷ l) (map_at f g xs (λ k y e. h (suc k) y e))

abbrev value_in : List TypedVariable → List Tree → Sym → Tree
value_in vars ts s = option_map_or (λ p. p.1) (find (λ (p : TypedVariable × Tree). p.0.sym.0 == s.0) (zip vars ts)) no_tree

found_first : (b : Bool) (x : TypedVariable × Tree) (o : Option (TypedVariable × Tree)) → b ≡ true → option_map_or (λ (p : TypedVariable × Tree). p.1) (cond b (Some x) o) no_tree ≡ x.1
found_first true x o e = refl
found_first false x o e = absurd cc

found_later : (b : Bool) (x : TypedVariable × Tree) (o : Option (TypedVariable × Tree)) → b ≡ false
    → option_map_or (λ (p : TypedVariable × Tree). p.1) (cond b (Some x) o) no_tree ≡ option_map_or (λ (p : TypedVariable × Tree). p.1) o no_tree
found_later true x o e = absurd cc
found_later false x o e = refl

differs : (v w : TypedVariable) (b : Bool) → (v.sym.0 == w.sym.0) ≡ b → (v.sym ≡ w.sym → ⊥) → b ≡ false
differs v w true e h = absurd (h (ap symbol (eqb-true v.sym.0 w.sym.0 e)))
differs v w false e h = refl

pub values_in : (vars : List TypedVariable) (ts : List Tree) → length ts ≡ length vars → VariablesDiffer vars → map (λ (v : TypedVariable). value_in vars ts v.sym) vars ≡ ts
values_in [] [] n d = refl
values_in [] (t ∷ ts) n d = absurd (omega (arith, n))
values_in (v ∷ vars) [] n d = absurd (omega (arith, n))
values_in (v ∷ vars) (t ∷ ts) n d =
    ap (λ y. y ∷ map (λ (w : TypedVariable). value_in (v ∷ vars) (t ∷ ts) w.sym) vars)
    (found_first (v.sym.0 == v.sym.0) (v, t) (find (λ (p : TypedVariable × Tree). p.0.sym.0 == v.sym.0) (zip vars ts))
    (eq-eqb v.sym.0 v.sym.0 refl))
    ∙ ap (λ l. t ∷ l) (map_at (λ (w : TypedVariable). value_in (v ∷ vars) (t ∷ ts) w.sym) (λ (w : TypedVariable). value_in vars ts w.sym) vars
    (λ k w e. found_later (v.sym.0 == w.sym.0) (v, t) (find (λ (p : TypedVariable × Tree). p.0.sym.0 == w.sym.0) (zip vars ts))
    (differs v w (v.sym.0 == w.sym.0) refl (λ (same : v.sym ≡ w.sym). let wrong : 0 ≡ suc k = d 0 (suc k) v w refl e same in omega (arith, wrong))))
    ∙ values_in vars ts (omega (arith, n)) (λ i j x y f g same. let s : suc i ≡ suc j = d (suc i) (suc j) x y f g same in omega (arith, s)))

-- ---- trees

map_or : {X : Type 0} (f : X → Name) (o : Option X) → unwrap_or (option_map f o) [] ≡ option_map_or f o []
map_or f None = refl
map_or f (Some x) = refl

pub tree_is : (db : Database) (hyps : List Hyp) (names : ℕ → Option Name) → AreFloats hyps names → tree_proof db.labels names ≡ syntax_proof db hyps
unfolding tree_proof syntax_proof
tree_is db hyps names are =
    ap (λ (value : Sym → Proof). fold-Tree Proof (layer_leaves (λ s c. value s) (λ x. by [] none) (λ l c ps. by (label_name db l) (proofs ps))))
    (fun_ext (λ (s : Sym). ap (λ n. by n none) (ap (λ o. unwrap_or o []) (are s.0) ∙ map_or (λ (h : Hyp). h.name) (find (is_float_of s) hyps))))

-- ---- frames

pub get_range : {X : Type 0} (f : ℕ → X) (a n k : ℕ) → k < n → slice_get (map f (range_with_len a n)) k ≡ Some (f (a + k))
get_range f a zero k h = absurd (omega arith)
get_range f a (suc n) zero h = ap (λ j. Some (f j)) (let s : a ≡ a + 0 = omega arith in s)
get_range f a (suc n) (suc k) h = get_range f (a + 1) n k (omega arith) ∙ ap (λ j. Some (f j)) (let s : a + 1 + k ≡ a + suc k = omega arith in s)

some_through : {A B C : Type 0} (g : B → Option C) (h : A → Option B) (o : Option A) (c : C) → option_and_then g (option_and_then h o) ≡ Some c → is_some o ≡ true
some_through g h None c e = absurd cc
some_through g h (Some a) c e = refl

get_inside : {X : Type 0} (xs : List X) (k : ℕ) → is_some (slice_get xs k) ≡ true → k < length xs
get_inside [] k e = absurd cc
get_inside (x ∷ xs) zero e = omega arith
get_inside (x ∷ xs) (suc k) e = let rest = get_inside xs k e in omega (arith, rest)

pub frame_there : (ss : List Statement) (l : Label) (f : Frame) → length (positions ss) ≡ length (labels ss) → frame_of ss l ≡ Some f
    → option_and_then (λ (o : Option Frame). o) (slice_get (map (λ k. frame_of ss (label k)) (range_with_len 0 (length (labels ss)))) l.0) ≡ Some f
frame_there ss l f n e =
    let inside : l.0 < length (positions ss) = get_inside (positions ss) l.0 (some_through _ _ (slice_get (positions ss) l.0) f e) in
    ap (option_and_then (λ (o : Option Frame). o)) (get_range (λ k. frame_of ss (label k)) 0 (length (labels ss)) l.0 (omega (arith, inside, n)))
    ∙ ap (λ k. frame_of ss (label k)) (let s : 0 + l.0 ≡ l.0 = omega arith in s) ∙ e

-- ---- steps

-- the proofs of the steps that are used are these
abbrev pub Agree : List ProofStep → List (Option Proof) → List Proof → Type 0
Agree [] [] [] = Unit {0}
Agree (s ∷ ss) (g ∷ gs) (p ∷ ps) = (is_used s ≡ true → g ≡ Some p) × Agree ss gs ps
Agree _ _ _ = ⊥

agree_push : (ss : List ProofStep) (gs : List (Option Proof)) (ps : List Proof) (s : ProofStep) (g : Option Proof) (p : Proof) → Agree ss gs ps
    → (is_used s ≡ true → g ≡ Some p) → Agree (ss ++ s ∷ []) (gs ++ g ∷ []) (ps ++ p ∷ [])
agree_push [] [] [] s g p a h = (h, tt)
agree_push [] [] (x ∷ xs) s g p a h = absurd a
agree_push [] (x ∷ xs) ps s g p a h = absurd a
agree_push (x ∷ ss) [] ps s g p a h = absurd a
agree_push (x ∷ ss) (y ∷ gs) [] s g p a h = absurd a
agree_push (x ∷ ss) (y ∷ gs) (z ∷ ps) s g p a h = (a.0, agree_push ss gs ps s g p a.1 h)

agree_at : (ss : List ProofStep) (gs : List (Option Proof)) (ps : List Proof) (k : ℕ) → Agree ss gs ps → used_at ss k ≡ true → item_at gs k ≡ Some (get_or ps k no_proof)
agree_at [] [] [] k a u = absurd cc
agree_at [] [] (x ∷ xs) k a u = absurd a
agree_at [] (x ∷ xs) ps k a u = absurd a
agree_at (x ∷ ss) [] ps k a u = absurd a
agree_at (x ∷ ss) (y ∷ gs) [] k a u = absurd a
agree_at (x ∷ ss) (y ∷ gs) (z ∷ ps) zero a u = a.0 u
agree_at (x ∷ ss) (y ∷ gs) (z ∷ ps) (suc k) a u = agree_at ss gs ps k a.1 u

placed_are : (ss : List ProofStep) (gs : List (Option Proof)) (ps : List Proof) (ks : List ℕ) → Agree ss gs ps
    → AllByRecursion (λ k. used_at ss k ≡ true) ks → filter_map (item_at gs) ks ≡ map (place_proof ps) (map place.Step ks)
placed_are ss gs ps [] a u = refl
placed_are ss gs ps (k ∷ ks) a u =
    ap (λ o. cons_option o (filter_map (item_at gs) ks)) (agree_at ss gs ps k a u.0) ∙ ap (λ l. get_or ps k no_proof ∷ l) (placed_are ss gs ps ks a u.1)

-- what holds of a database and its contents
pub record Fits (db : Database) (c : Contents) : Type 0 where
  pub labels : db.labels ≡ c.labels
  pub frames : (l : Label) (f : Frame) → db.frame l ≡ Some f → frame_at c l ≡ Some f
  pub facts : IsDatabase db

all_zip_length : {A B : Type 0} (R : A → B → Type 0) (xs : List A) (ys : List B) → AllZip R xs ys → length xs ≡ length ys
all_zip_length R [] [] h = refl
all_zip_length R [] (y ∷ ys) h = absurd h
all_zip_length R (x ∷ xs) [] h = absurd h
all_zip_length R (x ∷ xs) (y ∷ ys) h = ap suc (all_zip_length R xs ys h.1)

module _ (db : Database) (c : Contents) (fits : Fits db c) (hyps : List Hyp) (names : ℕ → Option Name) (are : AreFloats hyps names) where
  -- the arguments of a step that follows by an assertion
  arguments_are : (e : WrittenStep) (l : Label) (values : List Tree) (places : List ℕ) (follows : IsUseOf db e l values places) (qs : List Proof) → length qs ≡ length places
      → weave (hyps_of (frame_at c l)) (map (tree_proof c.labels names) values) qs ≡ hyp_proofs (λ s. syntax_proof db hyps (value_of follows.used s)) follows.used.assertion.frame.hyps qs
  arguments_are e l values places follows qs n =
      let a = follows.used.assertion in
      let usable = fits.facts.usable l a follows.is_usable in
      let frame = fits.facts.frames l a.frame usable.frame in
      let vars = typed_variables a.frame.hyps in
      let count : length values ≡ length vars = follows.value_count ∙ ap length usable.vars in
      let each : map (λ (v : TypedVariable). value_in vars values v.sym) vars ≡ values = values_in vars values count frame.variables in
      let value : Sym → Tree = value_of follows.used in
      let value_is : (s : Sym) → value_in vars values s ≡ value s = λ s. ap (λ vs. value_in vs values s) (sym usable.vars) ∙ ap (λ ts. value_in a.vars ts s) (sym follows.values_are) in
      let trees : map (λ (v : TypedVariable). value v.sym) vars ≡ values =
      map_at (λ (v : TypedVariable). value v.sym) (λ (v : TypedVariable). value_in vars values v.sym) vars (λ k v f. sym (value_is v.sym))
      ∙ each in
      let proofs_are : map (λ (v : TypedVariable). syntax_proof db hyps (value v.sym)) vars ≡ map (syntax_proof db hyps) values =
      map_map (syntax_proof db hyps) (λ (v : TypedVariable). value v.sym) vars ∙ ap (map (syntax_proof db hyps)) trees in
      let count_places : length qs ≡ length (essentials a.frame.hyps) = n ∙ follows.place_count ∙ sym (all_zip_length _ (essentials a.frame.hyps) a.hyps usable.hyps) in
      ap (λ f. weave (hyps_of f) (map (tree_proof c.labels names) values) qs) (fits.frames l a.frame usable.frame)
      ∙ ap (λ ls. weave a.frame.hyps (map (tree_proof ls names) values) qs) (sym fits.labels)
      ∙ ap (λ f. weave a.frame.hyps (map f values) qs) (tree_is db hyps names are)
      ∙ weave_is (λ s. syntax_proof db hyps (value s)) a.frame.hyps (map (syntax_proof db hyps) values) qs
      (valued (λ s. syntax_proof db hyps (value s)) a.frame.hyps (map (syntax_proof db hyps) values) frame.floats proofs_are) count_places
    where
      map_map : {X Y Z : Type 0} (f : Y → Z) (g : X → Y) (xs : List X) → map (λ x. f (g x)) xs ≡ map f (map g xs)
      map_map f g [] = refl
      map_map f g (x ∷ xs) = ap (λ l. f (g x) ∷ l) (map_map f g xs)

  reference_is : (e : WrittenStep) (l : Label) (values : List Tree) (places : List ℕ) (follows : IsUseOf db e l values places) (ss : List ProofStep)
      (gs : List (Option Proof)) (ps : List Proof)
      → Agree ss gs ps
      → AllByRecursion (λ k. used_at ss k ≡ true) places → reference_proof c names gs l values places ≡ step_proof db hyps ps e
  reference_is e l values places follows ss gs ps a u =
      let qs = map (place_proof ps) (map place.Step places) in
      let many : length qs ≡ length places = length-map (map place.Step places) (place_proof ps) ∙ length-map places place.Step in
      ap (λ n. by n (proofs (weave (hyps_of (frame_at c l)) (map (tree_proof c.labels names) values) (filter_map (item_at gs) places))))
      (ap (λ ls. get_or ls l.0 []) (sym fits.labels) ∙ sym follows.reference)
      ∙ ap (λ rs. by (unwrap_or e.reference []) (proofs (weave (hyps_of (frame_at c l)) (map (tree_proof c.labels names) values) rs))) (placed_are ss gs ps places a u)
      ∙ ap (λ rs. by (unwrap_or e.reference []) (proofs rs)) (arguments_are e l values places follows qs many)
      ∙ ap
      (λ gs. by (unwrap_or e.reference [])
      (proofs (hyp_proofs (λ s. syntax_proof db hyps (value_of follows.used s)) follows.used.assertion.frame.hyps (map (place_proof ps) gs))))
      (sym follows.places_are)
      ∙ ap (use_proof db hyps ps e.places (unwrap_or e.reference [])) (sym follows.is_by)

  step_is : (e : WrittenStep) (s : ProofStep) (ss : List ProofStep) (gs : List (Option Proof)) (ps : List Proof) → IsProofStep db e s → Agree ss gs ps
      → AllByRecursion (λ k. used_at ss k ≡ true) (places_of s)
      → is_used s ≡ true → given_proof c names gs s ≡ Some (step_proof db hyps ps e)
  step_is e (given.Hyp name) ss gs ps h a u used =
      ap (λ n. Some (by n none)) (sym h.1) ∙ ap (λ o. Some (use_proof db hyps ps e.places (unwrap_or e.reference []) o)) (sym h.0)
  step_is e (given.Ref l values places) ss gs ps h a u used = ap (λ p. Some p) (reference_is e l values places h ss gs ps a u)
  step_is e given.Unused ss gs ps h a u used = absurd cc

  agree_folded : (steps : List ProofStep) (es : List WrittenStep) (ss : List ProofStep) (gs : List (Option Proof)) (ps : List Proof)
      → AllZip (IsProofStep db) es steps → FollowFromUsed ss steps → Agree ss gs ps
      → Agree (ss ++ steps) (fold (λ earlier s. earlier ++ given_proof c names earlier s ∷ []) gs steps) (fold (λ earlier e. earlier ++ step_proof db hyps earlier e ∷ []) ps es)
  agree_folded [] [] ss gs ps z f a = subst (λ l. Agree l gs ps) (sym (append_none ss)) a
  agree_folded [] (e ∷ es) ss gs ps z f a = absurd z
  agree_folded (s ∷ steps) [] ss gs ps z f a = absurd z
  agree_folded (s ∷ steps) (e ∷ es) ss gs ps z f a =
      subst
      (λ l. Agree l (fold (λ earlier s. earlier ++ given_proof c names earlier s ∷ []) gs (s ∷ steps))
      (fold (λ earlier e. earlier ++ step_proof db hyps earlier e ∷ []) ps (e ∷ es)))
      (append_twice ss (s ∷ []) steps)
      (agree_folded steps es (ss ++ s ∷ []) (gs ++ given_proof c names gs s ∷ []) (ps ++ step_proof db hyps ps e ∷ []) z.1 f.1
      (agree_push ss gs ps s (given_proof c names gs s) (step_proof db hyps ps e) a (step_is e s ss gs ps z.0 a f.0)))

  pub root_is : (steps : List ProofStep) (es : List WrittenStep) (root : ℕ) (p : Proof) → StandFor db es steps → used_at steps root ≡ true → Some p ≡ item_at (given_proofs c names steps) root
      → p ≡ place_proof (step_proofs db hyps es) (place.Step root)
  root_is steps es root p stand used is =
      let same : Some p ≡ Some (get_or (step_proofs db hyps es) root no_proof) =
      is ∙ agree_at steps (given_proofs c names steps) (step_proofs db hyps es) root (agree_folded steps es [] [] [] stand.each stand.follow tt) used in
      cc

fits_of : HasDatabaseFacts → (kinds : Kinds) (text : List ℕ) (d : Opened) → IsOpened kinds text d → Fits (book kinds text d) d.contents
fits_of facts kinds text d opened =
    let is_database = facts kinds text (book kinds text d) opened.database opened.no_fault in
    record {
      labels = sym (ap (λ (c : Contents). c.labels) opened.contents);
      frames = λ l f e. ap (λ (c : Contents). frame_at c l) opened.contents ∙ frame_there (statements text) l f is_database.places e;
      facts = is_database;
    }

pub proves : HasDatabaseFacts
    → (d : Opened) (c : Contents) (hyps : List Hyp) (names : ℕ → Option Name) (steps : List ProofStep) (root : ℕ) (nodes : List ProofNode)
    → c ≡ d.contents → AreFloats hyps names → used_at steps root ≡ true
    → Some (root_proof nodes) ≡ item_at (given_proofs c names steps) root → Proves d hyps steps root nodes
proves facts d c hyps names steps root nodes same are used is kinds text es opened stand =
    root_is (book kinds text d) d.contents (fits_of facts kinds text d opened) hyps names are steps es root (root_proof nodes) stand used
    (is ∙ ap (λ k. item_at (given_proofs k names steps) root) same)
