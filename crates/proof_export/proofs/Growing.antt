-- A machine and steps with one more entry.
use Rattle.std.proofs.Common.{◌≡◌, ◌≤◌, ℕ, ◌-◌, ◌+◌, Bool, List, Some, [], ◌∷◌, ◌++◌, length, length-append, take, drop, sym, ap, ◌∙◌, subst}
use Rattle.std.specs.Prelude.{reverse}
use Rattle.std.specs.List.{zip}
use Rattle.std.specs.Global.{Vec}
use Rattle.std.proofs.lemmas.List.{reverse-append}
use Rattle.mm_base.specs.declared.symbols.Sym.{Sym}
use Rattle.mm_model.specs.declared.frames.Hyp.{Hyp}
use Rattle.mm_model.specs.declared.frames.Frame.{Frame}
use Rattle.proof_model.specs.Machine.{Formula, State, substituted}
use Rattle.mm_model.specs.Names.{Name}
use Rattle.mm_model.specs.Book.{Database}
use Rattle.sheet_text.specs.declared.sheet.Given.{Given}
use Rattle.sheet_text.specs.declared.sheet.SheetItem.{SheetItem}
use Rattle.export_model.specs.Exported.{step_with}
use Rattle.proof_export.specs.Leads.{HasFormulas}
use Rattle.proof_export.specs.Machines.{applied_to}
use Rattle.proof_export.specs.Places.{AreSteps}
use Rattle.proof_export.specs.declared.steps.Steps.{Steps}
use Rattle.proof_export.proofs.Tops.{rest_is}

-- a state of these entries, the oldest first
abbrev make : List Formula → List Formula → State
make entries kept = record { stack = reverse entries; kept = kept }

pub applied_is : (frame : Frame) (xs ys zs top ks : List Formula) (hs : List Hyp) (f : Formula) (g : List Sym) → hs ≡ frame.hyps → g ≡ frame.formula
    → top ≡ reverse (take (length hs) (reverse xs)) → f ≡ substituted (zip hs top) g → length frame.hyps ≤ length xs → ys ≡ take (length xs - length hs) xs → zs ≡ ys ++ f ∷ []
    → make zs ks ≡ applied_to frame (make xs ks)
applied_is frame xs ys zs top ks hs f g eh eg et ef enough ey ez =
    let n = length frame.hyps in
    let result : f ≡ substituted (zip frame.hyps (reverse (take n (reverse xs)))) frame.formula =
    ef ∙ ap (λ (t : List Formula). substituted (zip hs t) g) et
    ∙ ap (λ (h : List Hyp). substituted (zip h (reverse (take (length h) (reverse xs)))) g) eh
    ∙ ap (substituted (zip frame.hyps (reverse (take n (reverse xs))))) eg in
    let below : reverse ys ≡ drop n (reverse xs) =
    ap (λ (l : List Formula). reverse l) (ey ∙ ap (λ (h : List Hyp). take (length xs - length h) xs) eh) ∙ sym (rest_is xs n enough) in
    let stack : reverse zs ≡ substituted (zip frame.hyps (reverse (take n (reverse xs)))) frame.formula ∷ drop n (reverse xs) =
    ap (λ (l : List Formula). reverse l) ez ∙ reverse-append ys (f ∷ []) ∙ ap (λ (l : List Formula). f ∷ l) below
    ∙ ap (λ (x : Formula). x ∷ drop n (reverse xs)) result in
    ap (λ (l : List Formula). record { stack = l; kept = ks }) stack

-- a step behind the others, whose formula was put in
pub formulas_more : (old new : Steps) (fs : List Formula) (f : Formula) (x : SheetItem) (n : ℕ) (places : List (Vec ℕ × ℕ)) → new.items.items ≡ old.items.items ++ x ∷ []
    → new.places.entries ≡ places → n ≡ length old.items.items
    → ((steps : List Formula) → length steps ≡ n → AreSteps steps old.places.entries → AreSteps (steps ++ f ∷ []) places)
    → HasFormulas old fs → HasFormulas new (fs ++ f ∷ [])
formulas_more old new fs f x n places items same count put has = record {
  count = ap (λ (l : List SheetItem). length l) items ∙ length-append old.items.items (x ∷ []) ∙ ap (λ (k : ℕ). k + 1) has.count ∙ sym (length-append fs (f ∷ []));
  places = subst (λ (es : List (Vec ℕ × ℕ)). AreSteps (fs ++ f ∷ []) es) (sym same) (put fs (sym (count ∙ has.count)) has.places);
}

-- steps of equal parts
pub same_step : (db : Database) (hyp : Bool) (n m : Name) (gs hs : List Given) (a b : Name) (f g : Formula) → n ≡ m → gs ≡ hs → a ≡ b → f ≡ g
    → step_with db hyp n gs (Some a) f ≡ step_with db hyp m hs (Some b) g
same_step db hyp n m gs hs a b f g en eg ea ef =
    ap (λ (x : Name). step_with db hyp x gs (Some a) f) en ∙ ap (λ (x : List Given). step_with db hyp m x (Some a) f) eg
    ∙ ap (λ (x : Name). step_with db hyp m hs (Some x) f) ea ∙ ap (step_with db hyp m hs (Some b)) ef
