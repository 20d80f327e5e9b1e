-- What the record of a worksheet that fits says of its steps, one by one.
use Rattle.std.specs.Prelude.{◌≡◌, ℕ, Bool, true, false, List, [], ◌∷◌, filter, take, Contains, slice_get, if◌then◌else◌, option_and_then, is_some, Option, Some, None, refl}
use Rattle.std.specs.List.{AllZip}
use Rattle.std.specs.Option.{option_map_or}
use Rattle.std.proofs.Common.{sym, subst, ◌∙◌, cond}
use Rattle.mm_base.specs.declared.symbols.Sym.{Sym}
use Rattle.mm_base.specs.declared.symbols.Label.{Label}
use Rattle.mm_base.specs.declared.tree.Tree.{Tree}
use Rattle.mm_model.specs.declared.frames.Hyp.{Hyp}
use Rattle.mm_model.specs.declared.frames.Frame.{Frame}
use Rattle.mm_model.specs.Names.{Name}
use Rattle.mm_model.specs.Productions.{essentials}
use Rattle.mm_model.specs.Book.{Database, label_of, symbol_of, declared_leaf}
use Rattle.sheet_text.specs.declared.sheet.Given.{Given}
use Rattle.sheet_text.specs.declared.sheet.Given.TheVariants as given
use Rattle.sheet_text.specs.declared.sheet.Sheet.{Sheet}
use Rattle.sheet_text.specs.declared.sheet.SheetStep.{SheetStep}
use Rattle.sheet_text.specs.Layout.{steps}
use Rattle.solve_model.specs.Binding.{existing, place_of, given_pairs}
use Rattle.written_model.specs.Found.{valued}
use Rattle.again_laws.proofs.Lists.{get_contains, zip_left, zip_right}
use Rattle.push_laws.proofs.ActiveHyps.{label_stands_at}
use Rattle.push_laws.proofs.Lists.{filter_contains, contains_get}
use Rattle.fitting_laws.specs.FitsAsWritten.{IsWhole, IsHypStep, FitsAsListed, FitsAsWritten, earlier_tree, is_active}
use Rattle.fitting_laws.proofs.Scenes.{AreBelow, taken}

-- the theorem's label and frame
pub record IsTheorem (db : Database) (sheet : Sheet) (f : Frame) : Type 0 where
  pub label : Label
  pub label_is : label_of db sheet.theorem ≡ Some label
  pub frame_is : db.frame label ≡ Some f

pub theorem_of_sheet : (db : Database) (sheet : Sheet) (f : Frame) → existing db sheet ≡ Some f → IsTheorem db sheet f
theorem_of_sheet db sheet f e = by_label (label_of db sheet.theorem) refl e
  where
    by_axiom : (l : Label) → label_of db sheet.theorem ≡ Some l → (g : Frame) → db.frame l ≡ Some g → (b : Bool) → cond b None (Some g) ≡ Some f → IsTheorem db sheet f
    by_axiom l at g is true h = absurd cc
    by_axiom l at g is false h = record { label = l; label_is = at; frame_is = is ∙ h }

    by_frame : (l : Label) → label_of db sheet.theorem ≡ Some l → (o : Option Frame) → db.frame l ≡ o
        → option_and_then (λ (g : Frame). if g.is_axiom then None else Some g) o ≡ Some f → IsTheorem db sheet f
    by_frame l at None is h = absurd cc
    by_frame l at (Some g) is h = by_axiom l at g is g.is_axiom h

    by_label : (o : Option Label) → label_of db sheet.theorem ≡ o
        → option_and_then (λ (g : Frame). if g.is_axiom then None else Some g) (option_and_then db.frame o) ≡ Some f → IsTheorem db sheet f
    by_label None at h = absurd cc
    by_label (Some l) at h = by_frame l at (db.frame l) refl h

-- a label of the database stands in its list
pub label_listed : (db : Database) (n : Name) (l : Label) → label_of db n ≡ Some l → Contains db.labels n
label_listed db n l e = get_contains db.labels l.0 n (label_stands_at db.labels n l e)

-- an active token is a symbol that is something at the place
pub active_symbol : (db : Database) (place : ℕ) (token : Name) → is_active db place token ≡ true → (s : Sym) × (symbol_of db token ≡ Some s) × (is_some (declared_leaf db place s) ≡ true)
active_symbol db place token h = by (symbol_of db token) refl h
  where
    by : (o : Option Sym) → symbol_of db token ≡ o → option_map_or (λ s. is_some (declared_leaf db place s)) o false ≡ true
        → (s : Sym) × (symbol_of db token ≡ Some s) × (is_some (declared_leaf db place s) ≡ true)
    by None e k = absurd cc
    by (Some s) e k = (s, e, k)

module _ (db : Database) (sheet : Sheet) (F : FitsAsWritten db sheet) where
  abbrev pub place : ℕ
  place = place_of db sheet

  abbrev pub ss : List SheetStep
  ss = steps sheet

  pub whole_at : (k : ℕ) (s : SheetStep) → slice_get ss k ≡ Some s → (t : Tree) × (slice_get F.trees k ≡ Some t) × IsWhole db place s.formula t
  whole_at k s at = zip_right _ ss F.trees F.whole k s at

  pub source_of : (k : ℕ) (t : Tree) → slice_get F.trees k ≡ Some t → (s : SheetStep) × (slice_get ss k ≡ Some s) × IsWhole db place s.formula t
  source_of k t at = zip_left _ ss F.trees F.whole k t at

  pub hyp_step : (k : ℕ) (s : SheetStep) → slice_get ss k ≡ Some s → s.hyp ≡ true → (h : Hyp) × Contains (essentials F.frame.hyps) h × IsHypStep db h s
  hyp_step k s at hyp =
      let in_steps = get_contains ss k s at in
      let m = contains_get (filter (λ (x : SheetStep). x.hyp) ss) s (filter_contains (λ (x : SheetStep). x.hyp) ss s in_steps hyp) in
      let r = zip_left _ (essentials F.frame.hyps) (filter (λ (x : SheetStep). x.hyp) ss) F.hyps m.0 s m.1 in
      (r.0, get_contains (essentials F.frame.hyps) m.0 r.0 r.1, r.2)

  pub fitting_step : (k : ℕ) (s : SheetStep) (t : Tree) → slice_get ss k ≡ Some s → slice_get F.trees k ≡ Some t → s.hyp ≡ false → FitsAsListed db place (given_pairs db sheet) (take k F.trees) s t
  fitting_step = F.fits

  listed_below : (k : ℕ) (v : Tree → Tree) (hs : List Tree) (gs : List Given) → AllZip (λ (h : Tree) (g : Given). earlier_tree (take k F.trees) g ≡ Some (v h)) hs gs → AreBelow k gs
  listed_below k v hs [] z = tt
  listed_below k v [] (g ∷ gs) z = absurd z
  listed_below k v (h ∷ hs) (given.Gap ∷ gs) z = absurd (none z.0)
    where
      none : None ≡ Some (v h) → ⊥
      none q = cc
  listed_below k v (h ∷ hs) (given.Step n ∷ gs) z = ((taken k n F.trees (v h) z.0).1, listed_below k v hs gs z.1)

  pub below_at : (k : ℕ) (s : SheetStep) → slice_get ss k ≡ Some s → AreBelow k s.places
  below_at k s at = by s.hyp refl
    where
      by : (b : Bool) → s.hyp ≡ b → AreBelow k s.places
      by true e = let r = hyp_step k s at e in subst (AreBelow k) (sym r.2.places) tt
      by false e =
          let t = whole_at k s at in
          let f = F.fits k s t.0 at t.1 e in
          listed_below k (valued f.by) f.by.assertion.hyps s.places f.hyps
