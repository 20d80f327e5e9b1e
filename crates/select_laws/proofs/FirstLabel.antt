-- The first label with an order that fits is the first of all labels that fit.
use Rattle.std.specs.Prelude.{◌≡◌, List, [], ◌∷◌, ◌++◌, map, flat_map, Contains, Some, refl}
use Rattle.std.proofs.Common.{sym, ap, subst, ◌∙◌, inl, inr}
use Rattle.mm_base.specs.declared.symbols.Label.{Label}
use Rattle.sheet_text.specs.declared.sheet.Given.{Given}
use Rattle.solve_model.specs.Firsts.{IsFirstOrNone}
use Rattle.solve_laws.proofs.Elements.{nothing, first, later, parted}
use Rattle.again_laws.proofs.Lists.{some_same}
use Rattle.written_model.specs.Fitting.{AreThoseWith}
use Rattle.written_model.specs.Found.{Choice}

abbrev pub with_label : Label → List Given → Choice
with_label l places = record { label = l; places = places }

module _ (P : Choice → Type 0) (Q : Label → Type 0) (os : List (List Given))
    (fits : (l : Label) (o : List Given) → Contains os o → P (with_label l o) → Q l)
    (none_fits : (l : Label) → ((o : List Given) → Contains os o → P (with_label l o) → ⊥) → Q l → ⊥) where
  -- either the first is among these orders, or none of them fits and it is behind
  data Parts (l : Label) (ls : List (List Given)) (rest : List Choice) (c : Choice) : Type 0 where
    among : c.label ≡ l → P c → (o : List Given) → Contains ls o → c ≡ with_label l o → Parts l ls rest c
    behind : ((o : List Given) → Contains ls o → P (with_label l o) → ⊥) → IsFirstOrNone P rest (Some c) → Parts l ls rest c

  parts : (l : Label) (ls : List (List Given)) (rest : List Choice) (c : Choice) → IsFirstOrNone P (map (with_label l) ls ++ rest) (Some c) → Parts l ls rest c
  parts l [] rest c h = behind (λ o m. absurd (nothing o m)) h
  parts l (o ∷ ls) rest c (inl h) =
      let same : c ≡ with_label l o = some_same c (with_label l o) h.0 in
      among (ap (λ (x : Choice). x.label) same) (subst P (sym same) h.1) o (first o o ls refl) same
  parts l (o ∷ ls) rest c (inr h) = by (parts l ls rest c h.1)
    where
      by : Parts l ls rest c → Parts l (o ∷ ls) rest c
      by (among e p q m s) = among e p q (later q o ls m) s
      by (behind n f) = behind (λ q m. elim (parted q o ls m) [ inl e ↦ subst (λ z. P (with_label l z) → ⊥) e h.0 | inr k ↦ n q k ]) f

  abbrev StartsWith : Label → List Label → Type 0
  StartsWith l found = (more : List Label) × (found ≡ l ∷ more)

  chosen : (l : Label) (ls : List Label) (c : Choice) (found : List Label) → Parts l os (flat_map (λ k. map (with_label k) os) ls) c → AreThoseWith Q (l ∷ ls) found
      → ((rest : List Label) → IsFirstOrNone P (flat_map (λ k. map (with_label k) os) ls) (Some c) → AreThoseWith Q ls rest → StartsWith c.label rest) → StartsWith c.label found
  chosen l ls c found (among e p o m s) (inl k) later_label = (k.0, k.1 ∙ ap (λ x. x ∷ k.0) (sym e))
  chosen l ls c found (among e p o m s) (inr k) later_label = absurd (k.0 (fits l o m (subst P s p)))
  chosen l ls c found (behind n f) (inl k) later_label = absurd (none_fits l n k.2)
  chosen l ls c found (behind n f) (inr k) later_label = later_label found f k.1

  pub first_label : (ls : List Label) (c : Choice) (found : List Label) → IsFirstOrNone P (flat_map (λ l. map (with_label l) os) ls) (Some c)
      → AreThoseWith Q ls found → StartsWith c.label found
  first_label [] c found h those = absurd (cc)
  first_label (l ∷ ls) c found h those = chosen l ls c found (parts l os (flat_map (λ k. map (with_label k) os) ls) c h) those (λ rest f k. first_label ls c rest f k)
