-- In a finished worksheet the proof of each step below `qed` pushes its formula, from what is known of each step.
use Rattle.std.specs.Prelude.{◌≡◌, ◌<◌, ◌+◌, ◌==◌, ◌&&◌, ℕ, zero, suc, true, false, List, [], ◌∷◌, ◌++◌, length, map, find, fold, is_none, slice_get}
use Rattle.std.specs.Prelude.{slice_index_or, unwrap_or, Contains, Option, Some, None, refl}
use Rattle.std.specs.List.{AllZip, AllByRecursion, list_all}
use Rattle.std.proofs.Common.{sym, ap, subst, ◌∙◌, arith, inl, inr, append_assoc}
use Rattle.std.proofs.lemmas.Bool.{and_parts, or_cases, eqb-true}
use Rattle.std.proofs.lemmas.List.{append-nil, length-append, length-map}
use Rattle.mm_base.specs.declared.symbols.Sym.{Sym}
use Rattle.mm_base.specs.declared.symbols.Pair.{Pair}
use Rattle.mm_base.specs.declared.symbols.Label.{Label}
use Rattle.mm_base.specs.declared.tree.Tree.{Tree}
use Rattle.mm_base.specs.Trees.{code_of}
use Rattle.mm_model.specs.declared.frames.Hyp.{Hyp}
use Rattle.mm_model.specs.Productions.{TypedVariable}
use Rattle.mm_model.specs.Book.{Database, label_of, symbol_of, position_of}
use Rattle.proof_model.specs.declared.theorem.Theorem.{Theorem}
use Rattle.proof_model.specs.Machine.{Formula, is_variable}
use Rattle.proof_model.specs.Proofs.{Proof, by, none}
use Rattle.proof_laws.specs.Labels.{IsNoGap}
use Rattle.sheet_text.specs.declared.sheet.Given.{Given}
use Rattle.sheet_text.specs.declared.sheet.Given.TheVariants as given
use Rattle.solve_model.specs.Trees.{variables}
use Rattle.solve_model.specs.Solutions.{names_step}
use Rattle.written_model.specs.declared.options.DvMode.{DvMode}
use Rattle.written_model.specs.WrittenSteps.{Use, WrittenStep, trees, value_of}
use Rattle.written_model.specs.Pairs.{clash_of, lack_of}
use Rattle.written_model.specs.Found.{is_ground, valued}
use Rattle.written_model.specs.ProofTrees.{Below, listed, is_complete_use, Finished, no_proof, place_proof, use_proof, step_proof, step_proofs}
use Rattle.written_model.specs.ProofsPush.{AreApart}
use Rattle.written_model.specs.Written.{frames_of}
use Rattle.push_laws.proofs.Facts.{IsBook}
use Rattle.push_laws.proofs.Lists.{first, later, get_mapped}
use Rattle.push_laws.proofs.Pairs.{AreDistinct}
use Rattle.push_laws.proofs.Parts.{IsGood}
use Rattle.push_laws.proofs.Runs.{IsProofOf, is_named, hyp_proof}
use Rattle.push_laws.proofs.TreeProofs.{tree_symbols}
use Rattle.push_laws.proofs.UseProofs.{IsUse, use_is_proof}

-- ---- the proofs of steps, in order

module _ (db : Database) (hyps : List Hyp) where
  abbrev from : List Proof → List WrittenStep → List Proof
  from acc es = fold (λ earlier e. earlier ++ step_proof db hyps earlier e ∷ []) acc es

  extends : (es : List WrittenStep) (acc : List Proof) → (rest : List Proof) × (from acc es ≡ acc ++ rest)
  extends [] acc = ([], sym (append-nil acc))
  extends (e ∷ es) acc =
      let p = step_proof db hyps acc e in
      let more = extends es (acc ++ p ∷ []) in
      (p ∷ more.0, more.1 ∙ append_assoc acc (p ∷ []) more.0)

  record StandsAt (all : List Proof) (n : ℕ) (e : WrittenStep) : Type 0 where
    earlier : List Proof
    rest : List Proof
    whole : all ≡ earlier ++ (step_proof db hyps earlier e ∷ rest)
    count : length earlier ≡ n

  stands_at : (es : List WrittenStep) (acc : List Proof) (i : ℕ) (e : WrittenStep) → slice_get es i ≡ Some e → StandsAt (from acc es) (length acc + i) e
  stands_at [] acc i e g = absurd cc
  stands_at (x ∷ es) acc zero e g =
      let same : x ≡ e = cc in
      let more = extends es (acc ++ step_proof db hyps acc x ∷ []) in
      record {
        earlier = acc;
        rest = more.0;
        whole = more.1 ∙ append_assoc acc (step_proof db hyps acc x ∷ []) more.0 ∙ ap (λ (y : WrittenStep). acc ++ (step_proof db hyps acc y ∷ more.0)) same;
        count = omega arith;
      }
  stands_at (x ∷ es) acc (suc i) e g =
      let r = stands_at es (acc ++ step_proof db hyps acc x ∷ []) i e g in
      record {
        earlier = r.earlier;
        rest = r.rest;
        whole = r.whole;
        count = (let c = r.count in let l = length-append acc (step_proof db hyps acc x ∷ []) in omega (arith, c, l));
      }

  index_left : (xs ys : List Proof) (k : ℕ) (d : Proof) → k < length xs → slice_index_or (xs ++ ys) k d ≡ slice_index_or xs k d
  index_left [] ys k d l = let bad : ⊥ = omega (arith, l) in absurd bad
  index_left (x ∷ xs) ys zero d l = refl
  index_left (x ∷ xs) ys (suc k) d l = index_left xs ys k d (omega (arith, l))

  index_mid : (xs : List Proof) (y : Proof) (ys : List Proof) (d : Proof) → slice_index_or (xs ++ (y ∷ ys)) (length xs) d ≡ y
  index_mid [] y ys d = refl
  index_mid (x ∷ xs) y ys d = index_mid xs y ys d

  -- the proof of a step, which sees the proofs of the earlier ones
  pub record IsProofAt (es : List WrittenStep) (i : ℕ) (e : WrittenStep) : Type 0 where
    pub earlier : List Proof
    pub here : slice_index_or (step_proofs db hyps es) i no_proof ≡ step_proof db hyps earlier e
    pub before : (k : ℕ) → k < i → slice_index_or earlier k no_proof ≡ slice_index_or (step_proofs db hyps es) k no_proof

  pub proof_at : (es : List WrittenStep) (i : ℕ) (e : WrittenStep) → slice_get es i ≡ Some e → IsProofAt es i e
  proof_at es i e g =
      let r = stands_at es [] i e g in
      let count : length r.earlier ≡ i = (let c = r.count in omega (arith, c)) in
      record {
        earlier = r.earlier;
        here = ap (λ ps. slice_index_or ps i no_proof) r.whole ∙ ap (λ (n : ℕ). slice_index_or (r.earlier ++ (step_proof db hyps r.earlier e ∷ r.rest)) n no_proof) (sym count)
            ∙ index_mid r.earlier (step_proof db hyps r.earlier e) r.rest no_proof;
        before = λ k l. sym (ap (λ ps. slice_index_or ps k no_proof) r.whole ∙ index_left r.earlier (step_proof db hyps r.earlier e ∷ r.rest) k no_proof (omega (arith, l, count)));
      }

-- ---- what is known of a step

-- a place is a `?`, or an earlier step
abbrev pub IsBefore : ℕ → Given → Type 0
IsBefore i given.Gap = Unit {0}
IsBefore i (given.Step k) = k < i

module _ (es : List WrittenStep) where
  abbrev pub PlaceIs : Tree → Given → Type 0
  PlaceIs t given.Gap = Unit {0}
  PlaceIs t (given.Step k) = slice_get (trees es) k ≡ Some t

  -- the places name steps of these trees; there may be fewer of them
  abbrev pub PlacesAre : List Tree → List Given → Type 0
  PlacesAre ts [] = Unit {0}
  PlacesAre [] (g ∷ gs) = ⊥
  PlacesAre (t ∷ ts) (g ∷ gs) = PlaceIs t g × PlacesAre ts gs

  pub record HasUse (db : Database) (place : ℕ) (e : WrittenStep) (u : Use) : Type 0 where
    pub label : Label
    pub named : label_of db (unwrap_or e.reference []) ≡ Some label
    pub usable : db.usable label ≡ Some u.assertion
    pub earlier : position_of db label < place
    pub codes : map code_of u.values ≡ map (λ (v : TypedVariable). v.code) u.assertion.vars
    pub conclusion : valued u u.assertion.tree ≡ e.tree
    pub places : PlacesAre (map (valued u) u.assertion.hyps) e.places

module _ (db : Database) (book : IsBook db) (thm : Theorem) (apart : AreApart db thm.hyps) (p : Sym) where
  pub record IsHyp (e : WrittenStep) : Type 0 where
    pub no_use : e.by ≡ None
    pub hyp : Hyp
    pub stands : find (is_named (unwrap_or e.reference [])) thm.hyps ≡ Some hyp
    pub formula : hyp.formula ≡ p ∷ tree_symbols db e.tree
    pub plain : IsNoGap (unwrap_or e.reference [])

  pub record IsStep (es : List WrittenStep) (i : ℕ) (e : WrittenStep) : Type 0 where
    pub earlier : AllByRecursion (IsBefore i) e.places
    pub good : is_ground e.tree ≡ true → IsGood db book thm apart e.tree
    pub hyp : e.hyp ≡ true → is_ground e.tree ≡ true → IsHyp e
    pub fits : (u : Use) → e.by ≡ Some u → HasUse es db thm.at e u

module _ (db : Database) (book : IsBook db) (thm : Theorem) (apart : AreApart db thm.hyps) (constants : (x : Sym) → db.is_constant_at x thm.at ≡ true → is_variable thm x ≡ false)
    (p : Sym) (provable : symbol_of db db.provable ≡ Some p)
    (mode : DvMode) (allowed : List Pair) (es : List WrittenStep) (finished : Finished mode allowed es)
    (steps : (i : ℕ) (e : WrittenStep) → slice_get es i ≡ Some e → IsStep db book thm apart p es i e)
    (distinct : (i : ℕ) (e : WrittenStep) (u : Use) → slice_get es i ≡ Some e → e.by ≡ Some u → clash_of u ≡ None → lack_of mode allowed u ≡ None
    → (q : Pair) → Contains u.assertion.frame.pairs q → (v w : Sym) → Contains (variables (value_of u q.a)) v → Contains (variables (value_of u q.b)) w
    → v.0 < length db.symbols → w.0 < length db.symbols → AreDistinct thm v w) where
  abbrev The : Proof → Formula → Type 0
  The q f = IsProofOf (frames_of db) thm q f

  abbrev all_proofs : List Proof
  all_proofs = step_proofs db thm.hyps es

  abbrev formula_of : Tree → Formula
  formula_of t = p ∷ tree_symbols db t

  abbrev Proved : ℕ → Type 0
  Proved i = (e : WrittenStep) → Below es i → slice_get es i ≡ Some e → The (slice_index_or all_proofs i no_proof) (formula_of e.tree)

  good_at : (i : ℕ) (e : WrittenStep) → Below es i → slice_get es i ≡ Some e → IsGood db book thm apart e.tree
  good_at i e below at = (steps i e at).good (finished.no_work i e at below)

  -- the places of a step name steps of these trees, whose proofs push their formulas
  places_proved : (i : ℕ) (e : WrittenStep) (earlier : List Proof) → ((k : ℕ) → k < i → slice_index_or earlier k no_proof ≡ slice_index_or all_proofs k no_proof) → ((k : ℕ) → k < i → Proved k)
      → (ts : List Tree) (gs : List Given) → length gs ≡ length ts → list_all names_step gs ≡ true → AllByRecursion (IsBefore i) gs → PlacesAre es ts gs
      → ((k : ℕ) → Contains gs (given.Step k) → Below es k) → AllZip The (map (place_proof earlier) gs) (map formula_of ts) × AllByRecursion (IsGood db book thm apart) ts
  places_proved i e earlier same proved [] [] l named before at below = (tt, tt)
  places_proved i e earlier same proved [] (g ∷ gs) l named before at below = absurd at
  places_proved i e earlier same proved (t ∷ ts) [] l named before at below = let bad : ⊥ = omega (arith, l) in absurd bad
  places_proved i e earlier same proved (t ∷ ts) (given.Gap ∷ gs) l named before at below = absurd cc
  places_proved i e earlier same proved (t ∷ ts) (given.Step k ∷ gs) l named before at below =
      let rest = places_proved i e earlier same proved ts gs (omega (arith, l)) named before.1 at.1 (λ j c. below j (later (given.Step j) (given.Step k) gs c)) in
      let step = get_mapped (λ (x : WrittenStep). x.tree) es k t at.0 in
      let there = below k (first (given.Step k) (given.Step k) gs refl) in
      let one = proved k before.0 step.0 there step.1 in (
        (subst (λ q. The q (formula_of t)) (sym (same k before.0)) (subst (λ x. The (slice_index_or all_proofs k no_proof) (formula_of x)) step.2 one), rest.0),
        (subst (IsGood db book thm apart) step.2 (good_at k step.0 there step.1), rest.1),
      )

  complete_parts : (e : WrittenStep) (u : Use) → is_complete_use mode allowed e.places (Some u) ≡ true
      → (length e.places ≡ length u.assertion.hyps) × ((list_all names_step e.places ≡ true) × ((clash_of u ≡ None) × (lack_of mode allowed u ≡ None)))
  complete_parts e u c =
      let one = and_parts ((length e.places == length u.assertion.hyps) && list_all names_step e.places && is_none (clash_of u)) (is_none (lack_of mode allowed u)) c in
      let two = and_parts ((length e.places == length u.assertion.hyps) && list_all names_step e.places) (is_none (clash_of u)) one.0 in
      let three = and_parts (length e.places == length u.assertion.hyps) (list_all names_step e.places) two.0 in
      (eqb-true (length e.places) (length u.assertion.hyps) three.0, (three.1, (none_from (clash_of u) two.1, none_from (lack_of mode allowed u) one.1)))
    where
      none_from : {X : Type 0} (o : Option X) → is_none o ≡ true → o ≡ None
      none_from None h = refl
      none_from (Some x) h = absurd cc

  map-twice : (f : Tree → Tree) (ts : List Tree) → map formula_of (map f ts) ≡ map (λ t. formula_of (f t)) ts
  map-twice f [] = refl
  map-twice f (t ∷ ts) = ap (λ xs. formula_of (f t) ∷ xs) (map-twice f ts)

  all_mapped : (P : Tree → Type 0) (f : Tree → Tree) (ts : List Tree) → AllByRecursion P (map f ts) → AllByRecursion (λ t. P (f t)) ts
  all_mapped P f [] a = tt
  all_mapped P f (t ∷ ts) a = (a.0, all_mapped P f ts a.1)

  use_proved : (i : ℕ) (e : WrittenStep) (u : Use) (earlier : List Proof) → slice_get es i ≡ Some e → Below es i → e.by ≡ Some u
      → ((k : ℕ) → k < i → slice_index_or earlier k no_proof ≡ slice_index_or all_proofs k no_proof) → ((k : ℕ) → k < i → Proved k)
      → is_complete_use mode allowed e.places (Some u) ≡ true → The (use_proof db thm.hyps earlier e.places (unwrap_or e.reference []) (Some u)) (formula_of e.tree)
  use_proved i e u earlier at below by' same proved complete =
      let known = steps i e at in
      let has = known.fits u by' in
      let c = complete_parts e u complete in
      let long : length e.places ≡ length (map (valued u) u.assertion.hyps) = c.0 ∙ sym (length-map u.assertion.hyps (valued u)) in
      let places = places_proved i e earlier same proved (map (valued u) u.assertion.hyps) e.places long c.1.0 known.earlier has.places (λ k h. listed i below at h) in
      let good = all_mapped (IsGood db book thm apart) (valued u) u.assertion.hyps places.1 in
      let conclusion = subst (IsGood db book thm apart) (sym has.conclusion) (good_at i e below at) in
      let in_use : IsUse db book thm apart u (unwrap_or e.reference []) = record {
        label = has.label;
        named = has.named;
        usable = has.usable;
        earlier = has.earlier;
        codes = has.codes;
        conclusion = conclusion;
        hyps = good;
        distinct = λ q d v w h k l m. distinct i e u at by' c.1.1.0 c.1.1.1 q d v w h k l m;
      } in
      subst (The (use_proof db thm.hyps earlier e.places (unwrap_or e.reference []) (Some u))) (ap formula_of has.conclusion)
      (use_is_proof db book thm apart constants u (unwrap_or e.reference []) in_use p provable (map (place_proof earlier) e.places)
      (subst (AllZip The (map (place_proof earlier) e.places)) (map-twice (valued u) u.assertion.hyps) places.0))

  by_use : (i : ℕ) (e : WrittenStep) (o : Option Use) (earlier : List Proof) → slice_get es i ≡ Some e → Below es i → e.by ≡ o
      → ((k : ℕ) → k < i → slice_index_or earlier k no_proof ≡ slice_index_or all_proofs k no_proof) → ((k : ℕ) → k < i → Proved k)
      → is_complete_use mode allowed e.places o ≡ true → The (use_proof db thm.hyps earlier e.places (unwrap_or e.reference []) o) (formula_of e.tree)
  by_use i e None earlier at below by' same proved c = absurd cc
  by_use i e (Some u) earlier at below by' same proved c = use_proved i e u earlier at below by' same proved c

  step_proved : (i : ℕ) → ((k : ℕ) → k < i → Proved k) → Proved i
  step_proved i proved e below at =
      let r = proof_at db thm.hyps es i e at in
      subst (λ q. The q (formula_of e.tree)) (sym r.here) (elim (or_cases e.hyp (is_complete_use mode allowed e.places e.by) (finished.complete i e at below)) [
        | inl h ↦
            let is = (steps i e at).hyp h (finished.hyps i e at h) in
            subst (λ o. The (use_proof db thm.hyps r.earlier e.places (unwrap_or e.reference []) o) (formula_of e.tree)) (sym is.no_use)
            (subst (The (by (unwrap_or e.reference []) none)) is.formula (hyp_proof (frames_of db) thm (unwrap_or e.reference []) is.hyp is.stands is.plain))
        | inr c ↦ by_use i e e.by r.earlier at below refl r.before proved c
      ])

  all_proved : (n i : ℕ) → i < n → Proved i
  all_proved zero i l = let bad : ⊥ = omega (arith, l) in absurd bad
  all_proved (suc n) i l = step_proved i (λ k less. all_proved n k (omega (arith, l, less)))

  pub below_proved : (i : ℕ) → Proved i
  below_proved i = all_proved (suc i) i (omega arith)
