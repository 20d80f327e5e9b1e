-- A step without a reference: the first assertion that fits.
use Rattle.std.specs.Prelude.{◌≡◌, ◌<◌, true, false, List, [], ◌∷◌, map, length, Some, None, refl}
use Rattle.std.proofs.Common.{inl, inr, lit<, arith, sym, subst, ◌∙◌}
use Rattle.mm_base.specs.declared.tree.Tree.{Tree}
use Rattle.mm_base.specs.declared.tree.Tree.TheVariants.{Work}
use Rattle.std.specs.List.{AllZip}
use Rattle.mm_base.specs.Trees.{code_of}
use Rattle.mm_model.specs.Names.{label, sym as symbol}
use Rattle.mm_model.specs.Book.{Assertion}
use Rattle.mm_model.proofs.TypedLaws.{code-Var}
use Rattle.sheet_text.specs.declared.sheet.Given.{Given}
use Rattle.sheet_text.specs.declared.sheet.Given.TheVariants as given
use Rattle.solve_model.specs.Example.{P, wff, ph, ps, ax_1, ax_mp}
use Rattle.solve_model.proofs.TreeLaws.{leaves, replaces}
use Rattle.written_model.specs.declared.options.DvMode.TheVariants as dv
use Rattle.written_model.specs.WrittenSteps.{Use, WrittenStep, place_tree}
use Rattle.written_model.specs.Found.{is_to_be_searched, search_orders, Choice, Fits, FitsUse, IsFound, IsSearched, valued}
use Rattle.written_model.specs.declared.report.ReportVerdict.TheVariants as report
use Rattle.written_model.specs.WholeExample.{db, fitting}
use Rattle.written_model.specs.WrittenExample.{first, derived, found}

abbrev steps : List WrittenStep
steps = first ∷ derived ∷ []

-- ---- which steps are searched

pub searched : is_to_be_searched steps derived ≡ true
searched = simp leaves refl

pub hypothesis : is_to_be_searched steps first ≡ false
hypothesis = refl

pub with_gap : is_to_be_searched steps (record derived { places = given.Gap ∷ [] }) ≡ false
with_gap = simp leaves refl

pub with_work_variable : is_to_be_searched steps (record derived { tree = Work wff 1 }) ≡ false
with_work_variable = simp leaves refl

-- two places stand in either order, one place or none in one
pub orders : map (λ places. length (search_orders (record derived { places = places }))) ([] ∷ (given.Step 0 ∷ []) ∷ (given.Step 0 ∷ given.Step 0 ∷ []) ∷ []) ≡ 1 ∷ 1 ∷ 2 ∷ []
orders = refl

-- ---- `|- ( ph -> ( ps -> ph ) )` is found as ax-1

abbrev by_ax_1 : Use
by_ax_1 = record { assertion = ax_1; values = ph ∷ ps ∷ [] }

abbrev chosen : Choice
chosen = record { label = label 8; places = [] }

two_codes : map code_of (ph ∷ ps ∷ []) ≡ wff ∷ wff ∷ []
two_codes = let one = code-Var (symbol 6) wff in let other = code-Var (symbol 7) wff in cc

fits : FitsUse P 14 dv.Add [] steps derived chosen by_ax_1
fits = record { is_usable = refl; earlier = lit< tt; codes = two_codes; conclusion = simp replaces refl; hyps = tt; no_clash = refl; no_lack = refl }

some_is : {X : Type 0} (a b : X) → Some a ≡ Some b → a ≡ b
some_is a b e = cc

-- ax-mp has two hypotheses, and the labels before it are those of no usable assertion
not_usable : (c : Choice) → P.usable c.label ≡ None → Fits P 14 dv.Add [] steps derived c → ⊥
not_usable c e f = let no : None ≡ Some (f.0).assertion = cc in cc

pub first_is_ax_1 : IsFound P 14 dv.Add [] steps derived (Some chosen)
first_is_ax_1 =
    inr (
      not_usable _ refl,
      inr (
        not_usable _ refl,
        inr (
          not_usable _ refl,
          inr (
            not_usable _ refl,
            inr (
              not_usable _ refl,
              inr (
                not_usable _ refl,
                inr (
                  not_usable _ refl,
                  inr (not_ax_mp, inl (refl, (by_ax_1, fits))),
                ),
              ),
            ),
          ),
        ),
      ),
    )
  where
    not_ax_mp : Fits P 14 dv.Add [] steps derived (record { label = label 7; places = [] }) → ⊥
    not_ax_mp f = subst (λ (a : Assertion). AllZip (λ (h : Tree) (g : Given). place_tree steps g ≡ Some (valued f.0 h)) a.hyps []) (sym (some_is ax_mp (f.0).assertion f.1.is_usable)) f.1.hyps

pub step_is_found : IsSearched P 14 dv.Add [] steps derived found
step_is_found = IsSearched.found searched first_is_ax_1 fits

-- ---- before the only usable assertion nothing is found

abbrev alone : WrittenStep
alone = record fitting { reference = None; verdict = report.NoRef; by = None }

abbrev At4 : Choice → Type 0
At4 c = Fits db 4 dv.Add [] (alone ∷ []) alone c

unusable : (c : Choice) → db.usable c.label ≡ None → At4 c → ⊥
unusable c e f = let no : None ≡ Some (f.0).assertion = sym e ∙ f.1.is_usable in cc

none_at_4 : IsFound db 4 dv.Add [] (alone ∷ []) alone None
none_at_4 = inr (unusable _ refl, inr (unusable _ refl, inr (later, refl)))
  where
    later : At4 (record { label = label 2; places = [] }) → ⊥
    later f = let l : 4 < 4 = f.1.earlier in omega (arith, l)

pub step_stays : IsSearched db 4 dv.Add [] (alone ∷ []) alone alone
step_stays = IsSearched.none (simp leaves refl) none_at_4
