-- The steps of a proof's code follow the formulas that its subproofs give.
use Rattle.std.specs.Prelude.{◌≡◌, ℕ, suc, Bool, true, false, ◌&&◌, List, [], ◌∷◌, ◌++◌, slice_get, Option, Some, None, option_map, Result, Ok, Err, refl}
use Rattle.std.specs.Str.{bytes_eq}
use Rattle.std.proofs.Common.{sym, ap, subst, ◌∙◌, cond}
use Rattle.std.proofs.lemmas.Slice.Eq.{bytes_eq-Decides}
use Rattle.mm_model.specs.Names.{first_number}
use Rattle.proof_model.specs.declared.code.What.TheVariants as what
use Rattle.proof_model.specs.declared.code.Step.{Step}
use Rattle.proof_model.specs.declared.theorem.Theorem.{Theorem}
use Rattle.proof_model.specs.Proofs.{Proof, Proofs, by, none, next, same_proof, same_proofs}
use Rattle.proof_model.specs.Codes.{Coding, step, coded, coded_all, again_or, with_again, with_label, what_of, is_marked}
use Rattle.proof_model.specs.Machine.{Formula, Frames, State, MachineFault, and_then, start, use_label, use_kept, use_what, use_step, keep_top, numbered, run_steps}
use Rattle.proof_laws.proofs.RunLaws.{Outcome, onto, state, Pushes}
use Rattle.proof_laws.proofs.CodeLaws.{Gives, GivesAll, gives_pushes}

and_left : (a b : Bool) → (a && b) ≡ true → a ≡ true
and_left true b e = refl
and_left false b e = absurd (cc)

and_right : (a b : Bool) → (a && b) ≡ true → b ≡ true
and_right true b e = e
and_right false b e = absurd (cc)

same_bytes : (a b : List ℕ) → bytes_eq a b ≡ true → a ≡ b
same_bytes a b e = (bytes_eq-Decides a b).0 e

mutual
  pub same_is : (p q : Proof) → same_proof p q ≡ true → p ≡ q
  same_is (by a ps) (by b qs) e =
      let label = same_bytes a b (and_left (bytes_eq a b) (same_proofs ps qs) e) in
      let below = sames_are ps qs (and_right (bytes_eq a b) (same_proofs ps qs) e) in
      cc

  pub sames_are : (ps qs : Proofs) → same_proofs ps qs ≡ true → ps ≡ qs
  sames_are none none e = refl
  sames_are none (next q qs) e = absurd (cc)
  sames_are (next p ps) none e = absurd (cc)
  sames_are (next p ps) (next q qs) e =
      let first = same_is p q (and_left (same_proof p q) (same_proofs ps qs) e) in
      let rest = sames_are ps qs (and_right (same_proof p q) (same_proofs ps qs) e) in
      cc

-- a run of numbered steps
abbrev pub Ended : Type 0
Ended = Result State (ℕ × MachineFault)

module _ (frames : Frames) (thm : Theorem) (labels : List (List ℕ)) where
  abbrev run : ℕ → List Step → State → Ended
  run n ss st = run_steps frames thm labels n ss st

  some_end : (o : Ended) → and_then (λ (st : State). Ok st) o ≡ o
  some_end (Err e) = refl
  some_end (Ok st) = refl

  step_case : (o : Outcome) (n : ℕ) (xs ys : List Step) (mid : State) → and_then (run (suc n) xs) (numbered n o) ≡ Ok mid
      → ((next : State) → run (suc n) xs next ≡ Ok mid → (m : ℕ) × (run (suc n) (xs ++ ys) next ≡ run m ys mid))
      → (m : ℕ) × (and_then (run (suc n) (xs ++ ys)) (numbered n o) ≡ run m ys mid)
  step_case (Err f) n xs ys mid e h = absurd (cc)
  step_case (Ok st) n xs ys mid e h = h st e

  -- steps that run are gone through, and then the others, which begin with some number
  pub run_steps-append : (n : ℕ) (xs ys : List Step) (st mid : State) → run n xs st ≡ Ok mid → (m : ℕ) × (run n (xs ++ ys) st ≡ run m ys mid)
  run_steps-append n [] ys st mid e = let same : st ≡ mid = cc in (n, ap (run n ys) same)
  run_steps-append n (x ∷ xs) ys st mid e = step_case (use_step frames thm labels x st) n xs ys mid e (λ next r. run_steps-append (suc n) xs ys next mid r)

  -- one more step after some
  step_after : (xs : List Step) (x : Step) (st mid last : State) → run 0 xs st ≡ Ok mid → use_what frames thm labels x.what mid ≡ Ok last
      → run 0 (xs ++ x ∷ []) st ≡ Ok (keep_top x.marked last)
  step_after xs x st mid last e u =
      let more = run_steps-append 0 xs (x ∷ []) st mid e in
      more.1 ∙ ap (λ (o : Outcome). and_then (λ (s : State). Ok s) (numbered more.0 (and_then (λ (next : State). Ok (keep_top x.marked next)) o))) u

  abbrev pub Spelled : List ℕ → Type 0
  Spelled name = (st : State) → use_what frames thm labels (what_of thm.mandatory labels name) st ≡ use_label frames thm name st

  abbrev mutual
    pub IsSpelled : Proof → Type 0
    IsSpelled (by name below) = Spelled name × AreSpelled below

    pub AreSpelled : Proofs → Type 0
    AreSpelled none = Unit {0}
    AreSpelled (next p ps) = IsSpelled p × AreSpelled ps

  -- what was kept are the formulas of what was marked
  abbrev pub Kept : List Proof → List Formula → Type 0
  Kept [] [] = Unit {0}
  Kept [] (f ∷ fs) = ⊥
  Kept (q ∷ qs) [] = ⊥
  Kept (q ∷ qs) (f ∷ fs) = Gives frames thm q f × Kept qs fs

  pub record Tracks (c : Coding) (s k : List Formula) : Type 0 where
    pub runs : run 0 c.steps start ≡ Ok (state s k)
    pub kept : Kept c.marked k

  kept_more : (qs : List Proof) (k : List Formula) (p : Proof) (f : Formula) → Kept qs k → Gives frames thm p f → Kept (qs ++ p ∷ []) (k ++ f ∷ [])
  kept_more [] [] p f h g = (g, tt)
  kept_more [] (x ∷ k) p f h g = elim h [ ]
  kept_more (q ∷ qs) [] p f h g = elim h [ ]
  kept_more (q ∷ qs) (x ∷ k) p f h g = (h.0, kept_more qs k p f h.1 g)

  abbrev Found : List Formula → ℕ → Proof → Type 0
  Found k i p = (f : Formula) × (slice_get k i ≡ Some f) × Gives frames thm p f

  found_later : (p : Proof) (qs : List Proof) (x : Formula) (k : List Formula) (i : ℕ) (o : Option ℕ) → first_number (same_proof p) qs ≡ o
      → ((j : ℕ) → first_number (same_proof p) qs ≡ Some j → Found k j p) → option_map suc o ≡ Some i → Found (x ∷ k) i p
  found_later p qs x k i None is h e = absurd (cc)
  found_later p qs x k i (Some j) is h e =
      let f = h j is in
      let same : suc j ≡ i = cc in
      subst (λ (n : ℕ). Found (x ∷ k) n p) same (f.0, f.1, f.2)

  found_by : (p q : Proof) (qs : List Proof) (x : Formula) (k : List Formula) (i : ℕ) (b : Bool) → same_proof p q ≡ b → Gives frames thm q x
      → ((j : ℕ) → first_number (same_proof p) qs ≡ Some j → Found k j p) → cond b (Some 0) (option_map suc (first_number (same_proof p) qs)) ≡ Some i → Found (x ∷ k) i p
  found_by p q qs x k i true is g h e =
      let same : 0 ≡ i = cc in
      subst (λ (n : ℕ). Found (x ∷ k) n p) same (x, refl, subst (λ r. Gives frames thm r x) (sym (same_is p q is)) g)
  found_by p q qs x k i false is g h e = found_later p qs x k i (first_number (same_proof p) qs) refl h e

  pub kept_at : (p : Proof) (qs : List Proof) (k : List Formula) (i : ℕ) → Kept qs k → first_number (same_proof p) qs ≡ Some i → Found k i p
  kept_at p [] k i h e = absurd (cc)
  kept_at p (q ∷ qs) [] i h e = elim h [ ]
  kept_at p (q ∷ qs) (x ∷ k) i h e = found_by p q qs x k i (same_proof p q) refl h.0 (λ j is. kept_at p qs k j h.1 is) e

  -- a proof gives one formula
  gives_one : (p : Proof) (f g : Formula) → Gives frames thm p f → Gives frames thm p g → f ≡ g
  gives_one p f g a b =
      let ends : Ok (state (f ∷ []) []) ≡ Ok (state (g ∷ []) []) = sym (gives_pushes frames thm p f a [] []) ∙ gives_pushes frames thm p g b [] [] in
      let states : state (f ∷ []) [] ≡ state (g ∷ []) [] = cc in
      let stacks : f ∷ [] ≡ g ∷ [] = ap (λ (st : State). st.stack) states in
      cc

  module _ (places : List Proof) where
    abbrev pub Coded : Coding → List Formula → Type 0
    Coded c s = (k : List Formula) × Tracks c s k

    -- the label of a proof behind its subproofs
    label_tracks : (name : List ℕ) (below : Proofs) (f : Formula) (fs : List Formula) (c : Coding) (s k : List Formula) (mark : Bool) → Spelled name
        → Gives frames thm (by name below) f → Pushes (use_label frames thm name) fs f → Tracks c (onto fs s) k
        → Coded (with_label (by name below) mark (what_of thm.mandatory labels name) c) (f ∷ s)
    label_tracks name below f fs c s k true spelled g p t = (
      k ++ f ∷ [],
      record {
        runs = step_after c.steps (step (what_of thm.mandatory labels name) true) start (state (onto fs s) k) (state (f ∷ s) k) t.runs (spelled (state (onto fs s) k) ∙ p.on s k);
        kept = kept_more c.marked k (by name below) f t.kept g;
      },
    )
    label_tracks name below f fs c s k false spelled g p t = (
      k,
      record {
        runs = step_after c.steps (step (what_of thm.mandatory labels name) false) start (state (onto fs s) k) (state (f ∷ s) k) t.runs (spelled (state (onto fs s) k) ∙ p.on s k);
        kept = t.kept;
      },
    )

    -- a proof that was marked is one step
    again_tracks : (p : Proof) (f : Formula) (c : Coding) (s k : List Formula) (i : ℕ) → Gives frames thm p f → Tracks c s k → first_number (same_proof p) c.marked ≡ Some i
        → Coded (with_again i c) (f ∷ s)
    again_tracks p f c s k i g t is =
        let at = kept_at p c.marked k i t.kept is in
        let same = gives_one p at.0 f at.2 g in
        let pushed : use_what frames thm labels (what.Again i) (state s k) ≡ Ok (state (f ∷ s) k) =
        ap (λ (o : Option Formula). use_kept o (state s k)) at.1 ∙ ap (λ (x : Formula). Ok (state (x ∷ s) k)) same in
        (k, record { runs = step_after c.steps (step (what.Again i) false) start (state s k) (state (f ∷ s) k) t.runs pushed; kept = t.kept })

    choose_tracks : (p : Proof) (f : Formula) (c : Coding) (s k : List Formula) (o : Option ℕ) (rest : Coding → Coding) → Gives frames thm p f → Tracks c s k
        → first_number (same_proof p) c.marked ≡ o → Coded (rest c) (f ∷ s) → Coded (again_or o c rest) (f ∷ s)
    choose_tracks p f c s k None rest g t is r = r
    choose_tracks p f c s k (Some i) rest g t is r = again_tracks p f c s k i g t is

    mutual
      pub code_tracks : (p : Proof) (f : Formula) → IsSpelled p → Gives frames thm p f → (c : Coding) (s k : List Formula) → Tracks c s k
          → Coded (coded thm.mandatory labels places p c) (f ∷ s)
      code_tracks (by name below) f sp g c s k t =
          let all = codes_track below g.0 sp.1 g.1 c s k t in
          choose_tracks (by name below) f c s k (first_number (same_proof (by name below)) c.marked) _ g t refl
          (label_tracks name below f g.0 (coded_all thm.mandatory labels places below c) s all.0 (is_marked places (by name below)) sp.0 g g.2 all.1)

      pub codes_track : (ps : Proofs) (fs : List Formula) → AreSpelled ps → GivesAll frames thm ps fs → (c : Coding) (s k : List Formula) → Tracks c s k
          → Coded (coded_all thm.mandatory labels places ps c) (onto fs s)
      codes_track none fs sp g c s k t = (k, subst (λ gs. Tracks c (onto gs s) k) (sym g) t)
      codes_track (next p ps) fs sp g c s k t =
          let first = code_tracks p g.0 sp.0 g.3 c s k t in
          let others = codes_track ps g.1 sp.1 g.4 (coded thm.mandatory labels places p c) (g.0 ∷ s) first.0 first.1 in
          subst (λ gs. Coded (coded_all thm.mandatory labels places (next p ps) c) (onto gs s)) (sym g.2) others
