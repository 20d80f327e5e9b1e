-- One round of a loop, and one call of a machine.
use Rattle.std.proofs.Common.{◌≡◌, ◌<◌, ℕ, ◌+◌, false, true, List, [], ◌∷◌, ◌++◌, length, map, take, get_or, Option, Some, Ok, refl, zero, suc, sym, ap, ◌∙◌, arith, subst}
use Rattle.std.specs.Prelude.{reverse, slice_get}
use Rattle.std.proofs.lemmas.List.{length-map, length-take-le, map-append, reverse-append}
use Rattle.std.specs.Global.{Vec}
use Rattle.mm_model.specs.declared.frames.Hyp.{Hyp}
use Rattle.mm_model.specs.Productions.{essentials}
use Rattle.mm_model.specs.Names.{Name}
use Rattle.mm_model.specs.Book.{Database}
use Rattle.proof_model.specs.Machine.{Formula, use_kept}
use Rattle.sheet_text.specs.declared.sheet.Given.{Given}
use Rattle.export_model.specs.Exported.{hyp_steps, place_in}
use Rattle.proof_export.specs.Leads.{HasFormulas, items_of, taken_for}
use Rattle.proof_export.specs.Places.{AreHyps, number_at}
use Rattle.proof_export.specs.declared.steps.Steps.{Steps}
use Rattle.proof_export.proofs.Looping.{take_more, essentials_more, essentials_same, taken_more, taken_same, hyp_items_more}
use Rattle.proof_export.proofs.Tops.{get_there}
use Rattle.proof_export.proofs.Using.{IsFirst, first_hyp}

-- a formula that was kept is pushed
pub kept_pushed : (xs ys ks list : List Formula) (k : ℕ) (f g x : Formula) → k < length ks → list ≡ ks → x ≡ get_or list k x → g ≡ x → f ≡ g → ys ≡ xs ++ f ∷ []
    → use_kept (slice_get ks k) (record { stack = reverse xs; kept = ks }) ≡ Ok (record { stack = reverse ys; kept = ks })
kept_pushed xs ys ks list k f g x low same is eg ef ey =
    let there : get_or ks k x ≡ f = ap (λ (l : List Formula). get_or l k x) (sym same) ∙ sym is ∙ sym eg ∙ sym ef in
    let stack : f ∷ reverse xs ≡ reverse ys = sym (ap (λ (l : List Formula). reverse l) ey ∙ reverse-append xs (f ∷ [])) in
    ap (λ (o : Option Formula). use_kept o (record { stack = reverse xs; kept = ks })) (get_there ks k x low ∙ ap (λ (h : Formula). Some h) there)
    ∙ ap (λ (l : List Formula). Ok (record { stack = l; kept = ks })) stack

-- the number of a label is that of its first hypothesis
pub placed : (hyps : List Hyp) (entries : List (Vec ℕ × ℕ)) (label : Name) (r o : Option ℕ) → AreHyps hyps entries → r ≡ number_at entries label → r ≡ o → IsFirst hyps label o
placed hyps entries label r o are e is = subst (λ (n : Option ℕ). IsFirst hyps label n) (sym (are.each label) ∙ sym e ∙ is) (first_hyp hyps label)

found_there : (xs : List Formula) (k : ℕ) → k < length xs → get_or xs k [] ≡ get_or xs k (get_or xs k [])
found_there [] k low = absurd (omega (arith, low))
found_there (x ∷ xs) zero low = refl
found_there (x ∷ xs) (suc k) low = found_there xs k (omega (arith, low))

module _ (fs : List Formula) (hs : List Hyp) (es : List Formula) (i : ℕ) (h : Hyp) (old new : List Given) (n : length es ≡ length hs)
    (low : i < length hs) (eh : h ≡ get_or hs i h) (was : old ≡ map (place_in fs) (taken_for (take i hs) (take i es))) where
  counts : length (take i es) ≡ length (take i hs)
  counts = length-take-le i es (omega (arith, low, n)) ∙ sym (length-take-le i hs (omega (arith, low)))

  one_more : (e : Formula) → e ≡ get_or es i e → taken_for (take (i + 1) hs) (take (i + 1) es) ≡ taken_for (take i hs ++ h ∷ []) (take i es ++ e ∷ [])
  one_more e ee =
      ap (λ (l : List Hyp). taken_for l (take (i + 1) es)) (take_more hs i h low eh)
      ∙ ap (λ (l : List Formula). taken_for (take i hs ++ h ∷ []) l) (take_more es i e (omega (arith, low, n)) ee)

  pub places_more : (e f : Formula) (g : Given) → e ≡ get_or es i e → h.floating ≡ false → f ≡ e → g ≡ place_in fs f → new ≡ old ++ g ∷ []
      → new ≡ map (place_in fs) (taken_for (take (i + 1) hs) (take (i + 1) es))
  places_more e f g ee t ef is more =
      more ∙ ap (λ (l : List Given). l ++ g ∷ []) was
      ∙ ap (λ (y : Given). map (place_in fs) (taken_for (take i hs) (take i es)) ++ y ∷ []) (is ∙ ap (place_in fs) ef)
      ∙ sym (
      ap (map (place_in fs)) (one_more e ee ∙ taken_more (take i hs) (take i es) h e counts t)
      ∙ map-append (place_in fs) (taken_for (take i hs) (take i es)) (e ∷ []))

  pub places_same : h.floating ≡ true → new ≡ old → new ≡ map (place_in fs) (taken_for (take (i + 1) hs) (take (i + 1) es))
  places_same t same =
      same ∙ was ∙ sym (ap (map (place_in fs)) (one_more (get_or es i []) (found_there es i (omega (arith, low, n))) ∙ taken_same (take i hs) (take i es) h (get_or es i []) counts t))

-- the formulas of these hypotheses
abbrev pub formulas_of : List Hyp → List Formula
formulas_of hs = map (λ (h : Hyp). h.formula) (essentials hs)

module _ (db : Database) (hs : List Hyp) (i : ℕ) (h : Hyp) (old new : Steps) (low : i < length hs) (eh : h ≡ get_or hs i h)
    (has : HasFormulas old (formulas_of (take i hs))) (was : old.items.items ≡ items_of (hyp_steps db 0 (essentials (take i hs)))) where
  pub hyps_same : h.floating ≡ true → new ≡ old → HasFormulas new (formulas_of (take (i + 1) hs)) × (new.items.items ≡ items_of (hyp_steps db 0 (essentials (take (i + 1) hs))))
  hyps_same t same =
      let less : essentials (take i hs) ≡ essentials (take (i + 1) hs) = sym (ap essentials (take_more hs i h low eh) ∙ essentials_same (take i hs) h t) in
      subst (λ (s : Steps). HasFormulas s (formulas_of (take (i + 1) hs)) × (s.items.items ≡ items_of (hyp_steps db 0 (essentials (take (i + 1) hs))))) (sym same)
      (subst (λ (l : List Hyp). HasFormulas old (map (λ (h : Hyp). h.formula) l) × (old.items.items ≡ items_of (hyp_steps db 0 l))) less (has, was))

  pub hyps_more : h.floating ≡ false → ((fs : List Formula) → HasFormulas old fs → HasFormulas new (fs ++ h.formula ∷ []))
      → new.items.items ≡ old.items.items ++ items_of (hyp_steps db (length old.items.items) (h ∷ []))
      → HasFormulas new (formulas_of (take (i + 1) hs)) × (new.items.items ≡ items_of (hyp_steps db 0 (essentials (take (i + 1) hs))))
  hyps_more t grow items =
      let more : essentials (take i hs) ++ h ∷ [] ≡ essentials (take (i + 1) hs) = sym (ap essentials (take_more hs i h low eh) ∙ essentials_more (take i hs) h t) in
      let formulas : HasFormulas new (map (λ (h : Hyp). h.formula) (essentials (take i hs) ++ h ∷ [])) =
      subst (λ (l : List Formula). HasFormulas new l) (sym (map-append (λ (h : Hyp). h.formula) (essentials (take i hs)) (h ∷ []))) (grow (formulas_of (take i hs)) has) in
      let count : length old.items.items ≡ length (essentials (take i hs)) = has.count ∙ length-map (essentials (take i hs)) (λ (h : Hyp). h.formula) in
      subst (λ (l : List Hyp). HasFormulas new (map (λ (h : Hyp). h.formula) l) × (new.items.items ≡ items_of (hyp_steps db 0 l))) more
      (formulas, hyp_items_more db (essentials (take i hs)) h (length old.items.items) old.items.items new.items.items count was items)
