-- What a frame's variables stand for, where its `$f` take these formulas.
use Rattle.std.specs.Prelude.{◌≡◌, ℕ, Bool, true, false, not, ◌&&◌, ◌||◌, ◌==◌, List, [], ◌∷◌, take, drop, find, zip, Option, Some, None, option_map, refl}
use Rattle.std.specs.List.{AllZip, list_any}
use Rattle.std.specs.Option.{option_map_or, option_or}
use Rattle.std.proofs.Common.{sym, ap, ◌∙◌, cond, inl, inr}
use Rattle.std.proofs.lemmas.Bool.{cases_Bool, and_parts, or_cases, or_parts, eqb-true}
use Rattle.mm_base.specs.declared.symbols.Sym.{Sym}
use Rattle.mm_model.specs.declared.frames.Hyp.{Hyp}
use Rattle.mm_model.specs.declared.frames.Frame.{Frame}
use Rattle.proof_model.specs.declared.theorem.Theorem.{Theorem}
use Rattle.proof_model.specs.Machine.{Formula, Entry, MachineFault, same_formula, is_float_of, substitute, substituted, differs_in_type, type_fault}
use Rattle.proof_model.specs.Machine.{type_differs, differs_in_formula, hyp_fault, hyp_differs, shared_fault, distinct_fault, entries_fault}
use Rattle.proof_laws.proofs.AcceptedLaw.{formula_self}

pub same_symbol : (a b : Sym) → (a.0 == b.0) ≡ true → a ≡ b
same_symbol a b e = let n : a.0 ≡ b.0 = eqb-true a.0 b.0 e in ap (λ (k : ℕ). let x : Sym = record { 0 = k } in x) n

-- the formula of a `$f`, and what is taken for it, by what its variable stands for
pub record IsFloatTaken (value : Sym → Formula) (h : Hyp) (f : Formula) : Type 0 where
  pub code : Sym
  pub variable : Sym
  pub formula : h.formula ≡ code ∷ variable ∷ []
  pub taken : f ≡ code ∷ value variable

abbrev pub IsTaken : (Sym → Formula) → Hyp → Formula → Type 0
IsTaken value h f = h.floating ≡ true → IsFloatTaken value h f

module _ (value : Sym → Formula) where
  one_variable : (v s : Sym) → ((v.0 == s.0) || false) ≡ true → v ≡ s
  one_variable v s e = elim (or_cases (v.0 == s.0) false e) [ inl d ↦ same_symbol v s d | inr d ↦ let bad : false ≡ true = d in absurd cc ]

  variable_is : (s : Sym) (h : Hyp) (f : Formula) → (t : IsFloatTaken value h f) → is_float_of s h ≡ true → t.variable ≡ s
  variable_is s h f t e =
      let two = and_parts h.floating (list_any (λ (v : Sym). v.0 == s.0) (drop 1 h.formula)) e in
      one_variable t.variable s (sym (ap (λ (g : Formula). list_any (λ (v : Sym). v.0 == s.0) (drop 1 g)) t.formula) ∙ two.1)

  float_value : (s : Sym) (h : Hyp) (f : Formula) → IsTaken value h f → is_float_of s h ≡ true → drop 1 f ≡ value s
  float_value s h f taken e =
      let two = and_parts h.floating (list_any (λ (v : Sym). v.0 == s.0) (drop 1 h.formula)) e in
      let t = taken two.0 in
      ap (λ (g : Formula). drop 1 g) t.taken ∙ ap value (variable_is s h f t e)

  -- a variable of a `$f` stands for its value
  pub substitute-float : (s : Sym) (hs : List Hyp) (fs : List Formula) → AllZip (IsTaken value) hs fs → list_any (is_float_of s) hs ≡ true → substitute (zip hs fs) s ≡ value s
  substitute-float s [] fs a e = absurd cc
  substitute-float s (h ∷ hs) [] a e = absurd a
  substitute-float s (h ∷ hs) (f ∷ fs) a e = elim (cases_Bool (is_float_of s h)) [
    | inl d ↦
        ap (λ (b : Bool). option_map_or (λ (x : Entry). drop 1 x.1) (cond b (Some (h, f)) (find (λ (x : Entry). is_float_of s x.0) (zip hs fs))) (s ∷ [])) d
        ∙ float_value s h f a.0 d
    | inr d ↦
        ap (λ (b : Bool). option_map_or (λ (x : Entry). drop 1 x.1) (cond b (Some (h, f)) (find (λ (x : Entry). is_float_of s x.0) (zip hs fs))) (s ∷ [])) d
        ∙ substitute-float s hs fs a.1 (sym (ap (λ (b : Bool). b || list_any (is_float_of s) hs) d) ∙ e)
  ]

  -- any other symbol stands for itself
  pub substitute-other : (s : Sym) (hs : List Hyp) (fs : List Formula) → AllZip (IsTaken value) hs fs → list_any (is_float_of s) hs ≡ false → substitute (zip hs fs) s ≡ s ∷ []
  substitute-other s [] fs a e = none_of fs
    where
      none_of : (fs : List Formula) → substitute (zip [] fs) s ≡ s ∷ []
      none_of [] = refl
      none_of (f ∷ fs) = refl
  substitute-other s (h ∷ hs) [] a e = refl
  substitute-other s (h ∷ hs) (f ∷ fs) a e =
      let two = or_parts (is_float_of s h) (list_any (is_float_of s) hs) e in
      ap (λ (b : Bool). option_map_or (λ (x : Entry). drop 1 x.1) (cond b (Some (h, f)) (find (λ (x : Entry). is_float_of s x.0) (zip hs fs))) (s ∷ [])) two.0
      ∙ substitute-other s hs fs a.1 two.1

  not_differs : (h : Hyp) (f : Formula) → IsTaken value h f → differs_in_type (h, f) ≡ false
  not_differs h f taken = go h.floating refl
    where
      go : (b : Bool) → h.floating ≡ b → (b && not (same_formula (take 1 f) (take 1 h.formula))) ≡ false
      go false e = refl
      go true e =
          let t = taken e in
          ap (λ (g : Formula). not (same_formula (take 1 g) (take 1 h.formula))) t.taken ∙ ap (λ (g : Formula). not (same_formula (t.code ∷ []) (take 1 g))) t.formula
          ∙ ap not (formula_self (t.code ∷ []))

  -- the entries for the `$f` have their typecodes
  pub no_type_fault : (hs : List Hyp) (fs : List Formula) → AllZip (IsTaken value) hs fs → type_fault (zip hs fs) ≡ None
  no_type_fault [] [] a = refl
  no_type_fault [] (f ∷ fs) a = absurd a
  no_type_fault (h ∷ hs) [] a = absurd a
  no_type_fault (h ∷ hs) (f ∷ fs) a =
      ap (λ (b : Bool). option_map {U = MachineFault} (λ (e : Entry). type_differs) (cond b (Some (h, f)) (find differs_in_type (zip hs fs)))) (not_differs h f a.0)
      ∙ no_type_fault hs fs a.1

-- ---- the `$e`

-- what is taken for a `$e` is its formula, substituted
abbrev pub IsEssentialTaken : List Entry → Hyp → Formula → Type 0
IsEssentialTaken entries h f = h.floating ≡ false → f ≡ substituted entries h.formula

module _ (entries : List Entry) where
  none_differs : (h : Hyp) (f : Formula) → IsEssentialTaken entries h f → differs_in_formula entries (h, f) ≡ false
  none_differs h f taken = go h.floating refl
    where
      go : (b : Bool) → h.floating ≡ b → (not b && not (same_formula f (substituted entries h.formula))) ≡ false
      go true e = refl
      go false e = ap (λ (g : Formula). not (same_formula g (substituted entries h.formula))) (taken e) ∙ ap not (formula_self (substituted entries h.formula))

  pub none_found : (hs : List Hyp) (fs : List Formula) → AllZip (IsEssentialTaken entries) hs fs → find (differs_in_formula entries) (zip hs fs) ≡ None
  none_found [] [] a = refl
  none_found [] (f ∷ fs) a = absurd a
  none_found (h ∷ hs) [] a = absurd a
  none_found (h ∷ hs) (f ∷ fs) a =
      ap (λ (b : Bool). cond b (Some (h, f)) (find (differs_in_formula entries) (zip hs fs))) (none_differs h f a.0) ∙ none_found hs fs a.1

-- the entries for the `$e` are as they have to be
pub no_hyp_fault : (hs : List Hyp) (fs : List Formula) → AllZip (IsEssentialTaken (zip hs fs)) hs fs → hyp_fault (zip hs fs) ≡ None
no_hyp_fault hs fs a = ap (option_map {U = MachineFault} (λ (e : Entry). hyp_differs (substituted (zip hs fs) e.0.formula) e.1)) (none_found (zip hs fs) hs fs a)

-- ---- all faults of entries

pub no_entries_fault : (thm : Theorem) (frame : Frame) (entries : List Entry) → type_fault entries ≡ None → hyp_fault entries ≡ None → shared_fault thm entries frame.pairs ≡ None
    → distinct_fault thm entries frame.pairs ≡ None → entries_fault thm frame entries ≡ None
no_entries_fault thm frame entries a b c d =
    ap (λ (o : Option MachineFault). option_or o (option_or (hyp_fault entries) (option_or (shared_fault thm entries frame.pairs) (distinct_fault thm entries frame.pairs)))) a
    ∙ ap (λ (o : Option MachineFault). option_or o (option_or (shared_fault thm entries frame.pairs) (distinct_fault thm entries frame.pairs))) b
    ∙ ap (λ (o : Option MachineFault). option_or o (distinct_fault thm entries frame.pairs)) c ∙ d
