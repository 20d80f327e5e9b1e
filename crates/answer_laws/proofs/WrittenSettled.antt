-- The steps of a written worksheet are settled.
use Rattle.std.specs.Prelude.{◌≡◌, ◌+◌, ◌&&◌, ℕ, zero, suc, Bool, true, false, List, [], ◌∷◌, length, map, nat_le, nat_lt, slice_get, slice_index_or}
use Rattle.std.specs.Prelude.{if◌then◌else◌, Contains, Option, Some, None, refl}
use Rattle.std.specs.List.{AllZip, list_all}
use Rattle.std.proofs.Common.{sym, ap, subst, ◌∙◌, arith, inl, inr, ltb-true}
use Rattle.std.proofs.lemmas.Bool.{and_parts}
use Rattle.std.proofs.lemmas.Option.{slice_get-get_or, slice_get_within}
use Rattle.std.proofs.lemmas.List.{length-map}
use Rattle.mm_base.specs.declared.tree.Tree.{Tree}
use Rattle.mm_base.specs.Trees.{code_of}
use Rattle.mm_model.specs.Productions.{TypedVariable}
use Rattle.mm_model.specs.Names.{label}
use Rattle.mm_model.specs.Book.{Database}
use Rattle.sheet_text.specs.declared.sheet.Given.{Given}
use Rattle.sheet_text.specs.declared.sheet.Given.TheVariants as given
use Rattle.sheet_text.specs.declared.sheet.Sheet.{Sheet}
use Rattle.sheet_text.specs.declared.sheet.SheetStep.{SheetStep}
use Rattle.sheet_text.specs.Layout.{steps, step_names}
use Rattle.sheet_text.specs.Spellable.{is_place_below, is_step_spellable, are_steps_spellable}
use Rattle.solve_model.specs.declared.verdict.Verdict.TheVariants as verdict
use Rattle.solve_model.specs.Firsts.{orders}
use Rattle.solve_model.specs.Bound.{IsBoundStep}
use Rattle.solve_model.specs.Binding.{place_of}
use Rattle.solve_model.specs.Solutions.{is_free}
use Rattle.solve_model.specs.Verdicts.{Judgement, accepted, stands}
use Rattle.written_model.specs.ReadBack.{ReadIsSpellable}
use Rattle.written_model.specs.declared.options.Options.{Options}
use Rattle.written_model.specs.WrittenSteps.{Use, WrittenStep, WrittenItem, comment, step, steps_in, place_tree}
use Rattle.written_model.specs.Named.{Naming, name_tree, name_use, name_step, name_items}
use Rattle.written_model.specs.Found.{Choice, choices, search_orders, Fits, IsSearched, valued}
use Rattle.written_model.specs.Written.{Writing, Writes, ItemIsSearched, after_filling, after_naming}
use Rattle.answer_laws.proofs.Elements.{nothing, parted, piece_of, mapped_from}
use Rattle.answer_laws.proofs.Moved.{steps-over}
use Rattle.answer_laws.proofs.Plain.{ArePlain, first_stands, accepted_at}
use Rattle.answer_laws.proofs.OneBinding.{zip_length, filled_by_sheet}
use Rattle.answer_laws.proofs.Settled.{IsBelow, PlacesBelow, orders_within, IsSettledUse, IsSettled, AreSettled, IsFine, filled_settled}

-- ---- the places of a worksheet that can be spelled

below_by : (n : ℕ) (gs : List Given) → list_all (is_place_below n) gs ≡ true → PlacesBelow n gs
below_by n [] h = tt
below_by n (given.Gap ∷ gs) h = (tt, below_by n gs h)
below_by n (given.Step k ∷ gs) h = let both = and_parts (nat_lt k n) (list_all (is_place_below n) gs) h in (ltb-true k n both.0, below_by n gs both.1)

spellable_at : (n : ℕ) (ss : List SheetStep) (i : ℕ) (s : SheetStep) → are_steps_spellable n ss ≡ true → slice_get ss i ≡ Some s → is_step_spellable (n + i) s ≡ true
spellable_at n [] i s h e = absurd (cc)
spellable_at n (r ∷ rs) zero s h e =
    let same : r ≡ s = cc in
    let mine = (and_parts (is_step_spellable n r) (are_steps_spellable (suc n) rs) h).0 in
    subst (λ m. is_step_spellable m s ≡ true) (plus_zero n) (subst (λ x. is_step_spellable n x ≡ true) same mine)
  where
    plus_zero : (m : ℕ) → m ≡ m + 0
    plus_zero m = omega arith
spellable_at n (r ∷ rs) (suc i) s h e =
    subst (λ m. is_step_spellable m s ≡ true) (one_more n i) (spellable_at (suc n) rs i s (and_parts (is_step_spellable n r) (are_steps_spellable (suc n) rs) h).1 e)
  where
    one_more : (m k : ℕ) → suc m + k ≡ m + suc k
    one_more m k = omega arith

places_of : (n : ℕ) (s : SheetStep) → is_step_spellable n s ≡ true → PlacesBelow n s.places
places_of n s h = below_by n s.places (and_parts _ _ (and_parts _ _ (and_parts _ _ h).0).0).1

zip_both : {A B : Type 0} (R : A → B → Type 0) (xs : List A) (ys : List B) (i : ℕ) (x : A) (y : B) → AllZip R xs ys → slice_get xs i ≡ Some x → slice_get ys i ≡ Some y → R x y
zip_both R [] ys i x y h e f = absurd (cc)
zip_both R (a ∷ as') [] i x y h e f = absurd h
zip_both R (a ∷ as') (b ∷ bs) zero x y h e f = let one : a ≡ x = cc in let two : b ≡ y = cc in subst (R x) two (subst (λ z. R z b) one h.0)
zip_both R (a ∷ as') (b ∷ bs) (suc i) x y h e f = zip_both R as' bs i x y h.1 e f

module _ (n : ℕ) where
  orders_below : (gs hs : List Given) (b : Bool) → PlacesBelow n gs → Contains (if b then orders (length gs) gs else gs ∷ []) hs → PlacesBelow n hs
  orders_below gs hs true h o = orders_within (IsBelow n) (length gs) gs hs h o
  orders_below gs hs false h o = elim (parted hs gs [] o) [ inl e ↦ subst (PlacesBelow n) e h | inr l ↦ absurd (nothing hs l) ]

-- ---- naming

module _ (names : Naming) where
  use_named : (gs : List Given) (e : WrittenStep) (o : Option Use) → IsSettledUse gs e.verdict o → IsSettledUse gs e.verdict (name_use names o)
  use_named gs e None h = tt
  use_named gs e (Some u) h = (h.0, length-map u.values (name_tree names) ∙ h.1, h.2, h.3)

  steps_named : (n : ℕ) (es : List WrittenStep) → AreSettled n es → AreSettled n (map (name_step names) es)
  steps_named n [] h = tt
  steps_named n (e ∷ es) h = (record { places = h.0.places; use_is = use_named e.places e e.by h.0.use_is }, steps_named (suc n) es h.1)

  pub items_named : (is : List WrittenItem) → AreSettled 0 (steps_in is) → AreSettled 0 (steps_in (name_items names is))
  items_named is h = subst (AreSettled 0) (sym (steps-over (name_step names) is)) (steps_named 0 (steps_in is) h)

-- ---- the search

module _ (db : Database) (plain : ArePlain db) (options : Options) (w : Writing) where
  choice_places : (e : WrittenStep) (c : Choice) → Contains (choices db e) c → Contains (search_orders e) c.places
  choice_places e c o =
      let p = piece_of (λ n. map (λ places. let x : Choice = record { label = label n; places = places } in x) (search_orders e)) _ c o in
      let m = mapped_from (λ places. let x : Choice = record { label = label p.0; places = places } in x) (search_orders e) c p.2 in
      subst (Contains (search_orders e)) (ap (λ (x : Choice). x.places) m.2) m.1

  module _ (es : List WrittenStep) (e : WrittenStep) where
    step_searched : (n : ℕ) (f : WrittenStep) → IsSettled n e → IsSearched db w.bound.place options.dv w.bound.pairs es e f → IsSettled n f
    step_searched n f h (IsSearched.not_searched k) = h
    step_searched n f h (IsSearched.none k m) = h
    step_searched n f h (IsSearched.found {c = c} {u = u} k m fits) =
        let chosen = first_stands (Fits db w.bound.place options.dv w.bound.pairs es e) (choices db e) c m in
        let its = plain c.label u.assertion fits.is_usable in
        let codes = fits.codes in
        record {
          places = orders_below n e.places c.places (nat_le 2 (length e.places) && nat_le (length e.places) 6) h.places (choice_places e c chosen);
          use_is = (
            let count = zip_length (λ (t : Tree) (g : Given). place_tree es g ≡ Some (valued u t)) u.assertion.hyps c.places fits.hyps in omega (arith, count),
            sym (length-map u.values code_of) ∙ ap length codes ∙ length-map u.assertion.vars (λ (v : TypedVariable). v.code),
            its.differ,
            refl,
          );
        }

  items_searched : (n : ℕ) (is js : List WrittenItem) → AllZip (ItemIsSearched db options w) is js → AreSettled n (steps_in is) → AreSettled n (steps_in js)
  items_searched n [] [] h k = tt
  items_searched n [] (j ∷ js) h k = absurd h
  items_searched n (i ∷ is) [] h k = absurd h
  items_searched n (comment lines ∷ is) (j ∷ js) h k = subst (λ x. AreSettled n (steps_in (x ∷ js))) (sym h.0) (items_searched n is js h.1 k)
  items_searched n (step e ∷ is) (j ∷ js) h k =
      subst (λ x. AreSettled n (steps_in (x ∷ js))) (sym h.0.1)
      (step_searched (steps_in (after_naming db options w)) e n h.0.0 k.0 h.0.2, items_searched (suc n) is js h.1 k.1)

-- ---- a writing

module _ (db : Database) (plain : ArePlain db) (text : List ℕ) (options : Options) (w : Writing) (writes : Writes db text options w) (spellable : ReadIsSpellable) where
  abbrev S : Sheet
  S = writes.reads.read

  fine_by : (i : ℕ) (s : SheetStep) (o : Judgement) → slice_get (steps S) i ≡ Some s → slice_get w.judgements i ≡ Some o → IsFine i s o
  fine_by i s (stands v) e k = places_of i s (subst (λ m. is_step_spellable m s ≡ true) (zero_plus i) (spellable_at 0 (steps S) i s (spellable text S writes.reads.reads).each_step e))
    where
      zero_plus : (m : ℕ) → 0 + m ≡ m
      zero_plus m = omega arith
  fine_by i s (accepted x) e k =
      let here = places_of i s (subst (λ m. is_step_spellable m s ≡ true) (zero_plus i) (spellable_at 0 (steps S) i s (spellable text S writes.reads.reads).each_step e)) in
      let a = accepted_at db w.bound w.judgements writes.judged i x k in
      let b = zip_both (IsBoundStep db (place_of db S)) (steps S) w.bound.steps i s a.read writes.binds.steps e a.stands in
      let places = subst (PlacesBelow i) (sym b.places) here in
      let its = plain a.is_candidate.label x.assertion a.is_candidate.usable in
      (orders_below i a.read.places x.places (is_free a.read x.assertion) places a.in_order, its.differ)
    where
      zero_plus : (m : ℕ) → 0 + m ≡ m
      zero_plus m = omega arith

  fine : (i : ℕ) (s : SheetStep) → slice_get (steps S) i ≡ Some s → IsFine i s (slice_index_or w.judgements i (stands verdict.NoRef))
  fine i s e =
      let count = zip_length (IsBoundStep db (place_of db S)) (steps S) w.bound.steps writes.binds.steps in
      let judged = writes.judged.count in
      let within = slice_get_within (steps S) i s e in
      fine_by i s (slice_index_or w.judgements i (stands verdict.NoRef)) e (slice_get-get_or w.judgements i (stands verdict.NoRef) (omega (arith, count, judged, within)))

  after_filling_settled : AreSettled 0 (steps_in (after_filling db options w))
  after_filling_settled =
      subst (λ is. AreSettled 0 (steps_in is)) (filled_by_sheet S w.read writes.reads.same w.bound w.value w.judgements)
      (filled_settled (step_names S) w.bound w.value w.judgements (steps S) fine S.items refl)

  pub after_naming_settled : AreSettled 0 (steps_in (after_naming db options w))
  after_naming_settled = items_named w.names (after_filling db options w) after_filling_settled

  pub written_settled : AreSettled 0 (steps_in w.items)
  written_settled = items_searched db plain options w 0 (after_naming db options w) w.items writes.searched after_naming_settled
