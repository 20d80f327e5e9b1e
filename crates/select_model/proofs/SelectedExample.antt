-- A whole answer: the last step of the smallest finished worksheet, over the database with one assertion.
use Rattle.std.specs.Prelude.{◌≡◌, true, [], ◌∷◌, ◌++◌, map, Some, None, codes, refl}
use Rattle.std.proofs.Common.{inl, inr, lit<}
use Rattle.mm_base.specs.declared.symbols.Label.{Label}
use Rattle.mm_base.specs.Trees.{code_of}
use Rattle.mm_model.specs.Names.{label, sym as symbol}
use Rattle.mm_model.proofs.TypedLaws.{code-Var}
use Rattle.solve_model.proofs.TreeLaws.{replaces, leaves}
use Rattle.written_model.specs.declared.options.DvMode.TheVariants as dv
use Rattle.written_model.specs.Fitting.{FitsInSomeOrder}
use Rattle.written_model.specs.Found.{FitsUse}
use Rattle.written_model.specs.WholeExample.{db, wff, options, read_text, any, ps, usable, fitting, writing}
use Rattle.written_model.proofs.WholeExample.{answers}
use Rattle.select_model.specs.Selected.{AreSelected, is_closed, selected_text, selects, Selects, fits}

one_code : map code_of (ps ∷ []) ≡ wff ∷ []
one_code = let is = code-Var (symbol 3) wff in cc

-- the step with the one assertion
does_fit : FitsUse db 5 dv.Add [] (fitting ∷ []) fitting (record { label = label 2; places = [] }) (record { assertion = any; values = ps ∷ [] })
does_fit = record {
  is_usable = refl;
  earlier = lit< tt;
  codes = one_code;
  conclusion = simp replaces refl;
  hyps = tt;
  no_clash = refl;
  no_lack = refl;
}

-- a label that is none of a usable assertion fits nothing
none : (l : Label) → usable l ≡ None → FitsInSomeOrder db 5 dv.Add [] (fitting ∷ []) fitting l → ⊥
none l e (places, is, (u, f)) = let h : usable l ≡ Some u.assertion = f.is_usable in absurd (cc)

selected : AreSelected db options writing fitting (label 2 ∷ [])
selected = inr (none (label 0) refl, inr (none (label 1) refl, inl ([], refl, ([], (0, lit< tt, refl), (record { assertion = any; values = ps ∷ [] }, does_fit)), refl)))

closed : is_closed (fitting ∷ []) fitting ≡ true
closed = simp leaves refl

pub selects_any : Selects db options read_text (codes "qed") (fits (label 2 ∷ []))
selects_any = selects {e = fitting} answers refl closed selected

pub text_of_any : selected_text db (label 2 ∷ []) ≡ codes "any" ++ 10 ∷ []
text_of_any = refl
