-- The formula that a proof gives, where its labels run.
use Rattle.std.specs.Prelude.{◌≡◌, ℕ, suc, List, [], ◌∷◌, length, Some, Ok, Err, refl}
use Rattle.std.proofs.Common.{sym, ap, subst, ◌∙◌}
use Rattle.proof_model.specs.declared.theorem.Theorem.{Theorem}
use Rattle.proof_model.specs.Proofs.{Proof, Proofs, by, none, next, listed, postorder, postorders}
use Rattle.proof_model.specs.Arities.{arity_of, HasArities, HaveArities}
use Rattle.proof_model.specs.Machine.{Formula, Frames, State, and_then, use_label}
use Rattle.proof_laws.specs.Labels.{run_labels}
use Rattle.proof_laws.proofs.RunLaws.{Outcome, onto, state, Pushes, run_labels-append, one_label, label_shown}

module _ (frames : Frames) (thm : Theorem) where
  -- the formula that a proof gives
  abbrev mutual
    pub Gives : Proof → Formula → Type 0
    Gives (by name below) f = (fs : List Formula) × GivesAll below fs × Pushes (use_label frames thm name) fs f

    pub GivesAll : Proofs → List Formula → Type 0
    GivesAll none fs = fs ≡ []
    GivesAll (next p ps) fs = (f : Formula) × (rest : List Formula) × (fs ≡ f ∷ rest) × Gives p f × GivesAll ps rest

  mutual
    pub gives_pushes : (p : Proof) (f : Formula) → Gives p f → (t j : List Formula) → run_labels frames thm (postorder p) (state t j) ≡ Ok (state (f ∷ t) j)
    gives_pushes (by name below) f g t j =
        run_labels-append frames thm (postorders below) (name ∷ []) (state t j) ∙ ap (and_then (run_labels frames thm (name ∷ []))) (gives_all_push below g.0 g.1 t j)
        ∙ one_label frames thm name (state (onto g.0 t) j) ∙ g.2.on t j

    pub gives_all_push : (ps : Proofs) (fs : List Formula) → GivesAll ps fs → (t j : List Formula) → run_labels frames thm (postorders ps) (state t j) ≡ Ok (state (onto fs t) j)
    gives_all_push none fs g t j = ap (λ (gs : List Formula). Ok (state (onto gs t) j)) (sym g)
    gives_all_push (next p ps) fs g t j =
        run_labels-append frames thm (postorder p) (postorders ps) (state t j) ∙ ap (and_then (run_labels frames thm (postorders ps))) (gives_pushes p g.0 g.3 t j)
        ∙ gives_all_push ps g.1 g.4 (g.0 ∷ t) j ∙ ap (λ (gs : List Formula). Ok (state (onto gs t) j)) (sym g.2)

  -- two ends of one run are one
  one_end : (a b : State) (o : Outcome) → o ≡ Ok a → o ≡ Ok b → a ≡ b
  one_end a b o e h = let same : Ok a ≡ Ok b = sym e ∙ h in cc

  by_end : (name : List ℕ) (below : Proofs) (s k : List Formula) (st : State) (o : Outcome) → run_labels frames thm (postorders below) (state s k) ≡ o
      → arity_of frames thm name ≡ Some (length (listed below))
      → ((mid : State) → run_labels frames thm (postorders below) (state s k) ≡ Ok mid → (fs : List Formula) × GivesAll below fs × (length fs ≡ length (listed below)))
      → and_then (run_labels frames thm (name ∷ [])) o ≡ Ok st → (f : Formula) × Gives (by name below) f
  by_end name below s k st (Err x) is arity h e = absurd (cc)
  by_end name below s k st (Ok mid) is arity h e =
      let all = h mid is in
      let mid_is : mid ≡ state (onto all.0 s) k = one_end mid (state (onto all.0 s) k) (run_labels frames thm (postorders below) (state s k)) is (gives_all_push below all.0 all.1 s k) in
      let used = subst (λ m. use_label frames thm name m ≡ Ok st) mid_is (sym (one_label frames thm name mid) ∙ e) in
      let shown = label_shown frames thm name all.0 s k st (arity ∙ ap (λ (m : ℕ). Some m) (sym all.2)) used in
      (shown.0, (all.0, all.1, shown.2))

  next_end : (p : Proof) (ps : Proofs) (s k : List Formula) (st : State) (o : Outcome) → run_labels frames thm (postorder p) (state s k) ≡ o
      → ((mid : State) → run_labels frames thm (postorder p) (state s k) ≡ Ok mid → (f : Formula) × Gives p f)
      → ((f : Formula) (last : State) → run_labels frames thm (postorders ps) (state (f ∷ s) k) ≡ Ok last → (fs : List Formula) × GivesAll ps fs × (length fs ≡ length (listed ps)))
      → and_then (run_labels frames thm (postorders ps)) o ≡ Ok st → (fs : List Formula) × GivesAll (next p ps) fs × (length fs ≡ suc (length (listed ps)))
  next_end p ps s k st (Err x) is h rest e = absurd (cc)
  next_end p ps s k st (Ok mid) is h rest e =
      let first = h mid is in
      let mid_is : mid ≡ state (first.0 ∷ s) k = one_end mid (state (first.0 ∷ s) k) (run_labels frames thm (postorder p) (state s k)) is (gives_pushes p first.0 first.1 s k) in
      let others = rest first.0 st (subst (λ m. run_labels frames thm (postorders ps) m ≡ Ok st) mid_is e) in
      (first.0 ∷ others.0, (first.0, others.0, refl, first.1, others.1), ap suc others.2)

  -- where the labels of a proof run, it gives a formula
  mutual
    pub gives_from : (p : Proof) → HasArities frames thm p → (s k : List Formula) (st : State) → run_labels frames thm (postorder p) (state s k) ≡ Ok st → (f : Formula) × Gives p f
    gives_from (by name below) a s k st e =
        by_end name below s k st (run_labels frames thm (postorders below) (state s k)) refl a.0 (λ mid m. gives_all_from below a.1 s k mid m)
        (sym (run_labels-append frames thm (postorders below) (name ∷ []) (state s k)) ∙ e)

    pub gives_all_from : (ps : Proofs) → HaveArities frames thm ps → (s k : List Formula) (st : State) → run_labels frames thm (postorders ps) (state s k) ≡ Ok st
        → (fs : List Formula) × GivesAll ps fs × (length fs ≡ length (listed ps))
    gives_all_from none a s k st e = ([], refl, refl)
    gives_all_from (next p ps) a s k st e =
        next_end p ps s k st (run_labels frames thm (postorder p) (state s k)) refl (λ mid m. gives_from p a.0 s k mid m) (λ f last l. gives_all_from ps a.1 (f ∷ s) k last l)
        (sym (run_labels-append frames thm (postorder p) (postorders ps) (state s k)) ∙ e)
