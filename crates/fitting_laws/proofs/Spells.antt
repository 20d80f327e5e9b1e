-- A worksheet that fits can be spelled.
use Rattle.std.specs.Prelude.{◌≡◌, ◌<◌, ◌^◌, ◌+◌, ◌==◌, ◌&&◌, ◌||◌, not, nat_lt, ℕ, zero, suc, Bool, true, false, List, [], ◌∷◌, length, map, codes, Contains}
use Rattle.std.specs.Prelude.{slice_get, slice_index_or, Option, Some, None, refl}
use Rattle.std.specs.List.{AllByRecursion, list_all, list_any}
use Rattle.std.specs.Option.{option_map_or}
use Rattle.std.specs.Str.{bytes_eq}
use Rattle.std.proofs.Common.{sym, ap, subst, ◌∙◌, arith, inl, inr}
use Rattle.std.proofs.lemmas.Bool.{cases_Bool, and_parts, and_from}
use Rattle.std.proofs.lemmas.Bool.Decides.{nat_tests}
use Rattle.std.proofs.lemmas.Slice.Eq.{bytes_eq-Decides}
use Rattle.mm_base.specs.declared.symbols.Sym.{Sym}
use Rattle.mm_model.specs.declared.frames.Hyp.{Hyp}
use Rattle.mm_model.specs.Labels.{is_label, is_label_byte}
use Rattle.mm_model.specs.Names.{Name, has_twice}
use Rattle.mm_model.specs.Words.{is_white}
use Rattle.mm_model.specs.Productions.{essentials}
use Rattle.mm_model.specs.Book.{Database, symbol_of}
use Rattle.model_laws.specs.DatabaseLaws.{IsSymbolName}
use Rattle.sheet_laws.proofs.Tests.{label_byte_no_white, all_more}
use Rattle.sheet_text.specs.declared.sheet.Given.{Given}
use Rattle.sheet_text.specs.declared.sheet.Given.TheVariants as given
use Rattle.sheet_text.specs.declared.sheet.PairLine.{PairLine}
use Rattle.sheet_text.specs.declared.sheet.Sheet.{Sheet}
use Rattle.sheet_text.specs.declared.sheet.SheetItem.TheVariants as item
use Rattle.sheet_text.specs.declared.sheet.SheetStep.{SheetStep}
use Rattle.sheet_text.specs.Forms.{marked_name}
use Rattle.sheet_text.specs.Layout.{steps, step_names}
use Rattle.sheet_text.specs.Spellable.{IsSpellable, is_token, is_place_below, is_step_spellable, are_steps_spellable, is_item_spellable, is_pair_spellable}
use Rattle.sheet_text.specs.TextFaults.{is_end, is_bad_distinct}
use Rattle.solve_model.specs.Binding.{place_of}
use Rattle.solve_model.specs.BindFaults.{is_variable_at}
use Rattle.again_laws.proofs.Lists.{get_mapped, get_within}
use Rattle.again_laws.proofs.TokenLaws.{symbol_told}
use Rattle.fitting_laws.specs.FitsAsWritten.{FitsAsWritten, IsActivePair, is_active}
use Rattle.fitting_laws.proofs.Numbered.{IsGoodName, numbered_good, numbered_last, numbered_differ, none_twice, last_at, last_map}
use Rattle.fitting_laws.proofs.Scenes.{AreBelow}
use Rattle.fitting_laws.proofs.Stated.{theorem_of_sheet, label_listed, active_symbol, whole_at, hyp_step, below_at}

-- ---- tokens

plain_label : (n : Name) → list_all is_label_byte n ≡ true → list_all (λ b. not (is_white b)) n ≡ true
plain_label n h = all_more is_label_byte (λ b. not (is_white b)) (λ b k. ap not (label_byte_no_white b k)) n h

pub label_token : (n : Name) → is_label n ≡ true → is_token n ≡ true
label_token n h = let both = and_parts (not (length n == 0)) (list_all is_label_byte n) h in and_from (not (length n == 0)) (list_all (λ b. not (is_white b)) n) both.0 (plain_label n both.1)

symbol_token : (n : Name) → IsSymbolName n → is_token n ≡ true
symbol_token n h = and_from (not (length n == 0)) (list_all (λ b. not (is_white b)) n) (ap not h.some) h.plain

no_end : (n : Name) → IsSymbolName n → is_end n ≡ false
no_end n h = elim (cases_Bool (bytes_eq n (codes "$."))) [
  | inl d ↦ let bad : list_any (λ b. b == 36) (codes "$.") ≡ false = subst (λ x. list_any (λ b. b == 36) x ≡ false) ((bytes_eq-Decides n (codes "$.")).0 d) h.no_dollar in absurd (clash bad)
  | inr d ↦ d
]
  where
    clash : true ≡ false → ⊥
    clash q = cc

places_pass : (k : ℕ) (gs : List Given) → AreBelow k gs → list_all (is_place_below k) gs ≡ true
places_pass k [] h = refl
places_pass k (given.Gap ∷ gs) h = absurd h
places_pass k (given.Step n ∷ gs) h = and_from (nat_lt n k) (list_all (is_place_below k) gs) (less n k h.0) (places_pass k gs h.1)
  where
    less : (a b : ℕ) → a < b → nat_lt a b ≡ true
    less a b l = grind (arith, nat_tests, l)

steps_pass : (n : ℕ) (ss : List SheetStep) → ((k : ℕ) (s : SheetStep) → slice_get ss k ≡ Some s → is_step_spellable (n + k) s ≡ true) → are_steps_spellable n ss ≡ true
steps_pass n [] h = refl
steps_pass n (s ∷ ss) h =
    let zero_more : n + 0 ≡ n = omega arith in
    and_from (is_step_spellable n s) (are_steps_spellable (suc n) ss) (subst (λ m. is_step_spellable m s ≡ true) zero_more (h 0 s refl))
    (steps_pass (suc n) ss (λ k t at. let one_more : n + suc k ≡ suc n + k = omega arith in subst (λ m. is_step_spellable m t ≡ true) one_more (h (suc k) t at)))

items_pass : (ss : List SheetStep) → list_all is_item_spellable (map (λ s. item.Step s) ss) ≡ true
items_pass [] = refl
items_pass (s ∷ ss) = items_pass ss

module _ (db : Database) (sheet : Sheet) (F : FitsAsWritten db sheet) (labels : (n : Name) → Contains db.labels n → is_label n ≡ true) (symbols : AllByRecursion IsSymbolName db.symbols)
    (hyp_listed : (h : Hyp) → Contains (essentials F.frame.hyps) h → Contains db.labels h.name) (small : length (steps sheet) < 2 ^ 64) where
  abbrev ss : List SheetStep
  ss = steps sheet

  abbrev count : ℕ
  count = length ss

  symbol_good : (n : Name) (s : Sym) → symbol_of db n ≡ Some s → IsSymbolName n
  symbol_good n s e = let r = symbol_told db n s e in subst IsSymbolName r.name (named db.symbols s.0 symbols r.within)
    where
      named : (xs : List Name) (k : ℕ) → AllByRecursion IsSymbolName xs → k < length xs → IsSymbolName (slice_index_or xs k [])
      named [] k a l = absurd (omega (arith, l))
      named (x ∷ xs) zero a l = a.0
      named (x ∷ xs) (suc k) a l = named xs k a.1 (omega (arith, l))

  tokens_pass : (ts : List Name) → list_all (is_active db (place_of db sheet)) ts ≡ true → list_all is_token ts ≡ true
  tokens_pass [] h = refl
  tokens_pass (t ∷ ts) h =
      let both = and_parts (is_active db (place_of db sheet) t) (list_all (is_active db (place_of db sheet)) ts) h in
      let s = active_symbol db (place_of db sheet) t both.0 in
      and_from (is_token t) (list_all is_token ts) (symbol_token t (symbol_good t s.0 s.1)) (tokens_pass ts both.1)

  reference_pass : (k : ℕ) (s : SheetStep) → slice_get ss k ≡ Some s → option_map_or is_label s.reference (not s.hyp) ≡ true
  reference_pass k s at = by s.hyp refl
    where
      by : (b : Bool) → s.hyp ≡ b → option_map_or is_label s.reference (not s.hyp) ≡ true
      by true e = let h = hyp_step db sheet F k s at e in ap (λ o. option_map_or is_label o (not s.hyp)) h.2.reference ∙ labels h.0.name (hyp_listed h.0 h.1)
      by false e =
          let t = whole_at db sheet F k s at in
          let f = F.fits k s t.0 at t.1 e in
          ap (λ o. option_map_or is_label o (not s.hyp)) f.reference ∙ labels f.name (label_listed db f.name f.label f.is_label)

  step_pass : (k : ℕ) (s : SheetStep) → slice_get ss k ≡ Some s → is_step_spellable k s ≡ true
  step_pass k s at =
      let name = subst IsGoodName (sym (F.names k s at)) (numbered_good count k small (get_within ss k s at)) in
      let marked : (s.hyp || not (marked_name s.name).0) ≡ true = last s.hyp (not (marked_name s.name).0) (ap not name.unmarked) in
      let places = places_pass k s.places (below_at db sheet F k s at) in
      let tokens = tokens_pass s.formula (whole_at db sheet F k s at).2.active in
      and_from _ (list_all is_token s.formula)
      (and_from _ (option_map_or is_label s.reference (not s.hyp))
      (and_from (is_label s.name && (s.hyp || not (marked_name s.name).0)) (list_all (is_place_below k) s.places)
      (and_from (is_label s.name) (s.hyp || not (marked_name s.name).0) name.label marked) places)
      (reference_pass k s at)) tokens
    where
      last : (a b : Bool) → b ≡ true → (a || b) ≡ true
      last true b e = refl
      last false b e = e

  names_differ : has_twice (step_names sheet) ≡ false
  names_differ = none_twice (step_names sheet)
      (λ i j x p q.
      let a = get_mapped (λ (t : SheetStep). t.name) ss i x p in
      let b = get_mapped (λ (t : SheetStep). t.name) ss j x q in
      numbered_differ count i j small (get_within ss i a.0 a.1) (get_within ss j b.0 b.1) (sym (F.names i a.0 a.1) ∙ a.2 ∙ sym b.2 ∙ F.names j b.0 b.1))

  pub qed_at : (k : ℕ) × (suc k ≡ count) × (slice_get ss k ≡ Some F.qed)
  qed_at = last_at None ss F.qed F.qed_last none
    where
      none : None ≡ Some F.qed → ⊥
      none q = cc

  pub qed_name : F.qed.name ≡ codes "qed"
  qed_name = F.names qed_at.0 F.qed qed_at.2 ∙ numbered_last count qed_at.0 qed_at.1

  pair_pass : (p : PairLine) → IsActivePair db (place_of db sheet) p → is_pair_spellable p ≡ true
  pair_pass p h =
      let both = and_parts (is_variable_at db (place_of db sheet) h.one) (is_variable_at db (place_of db sheet) h.other && true)
      (subst (λ ns. list_all (is_variable_at db (place_of db sheet)) ns ≡ true) h.names h.active) in
      let last = and_parts (is_variable_at db (place_of db sheet) h.other) true both.1 in
      let one = variable h.one both.0 in
      let other = variable h.other last.0 in
      let tokens : list_all is_token (h.one ∷ h.other ∷ []) ≡ true =
      and_from (is_token h.one) (list_all is_token (h.other ∷ [])) (symbol_token h.one one) (and_from (is_token h.other) true (symbol_token h.other other) refl) in
      let differ = h.differ in
      let end_one = no_end h.one one in
      let end_other = no_end h.other other in
      let good : is_bad_distinct (h.one ∷ h.other ∷ []) ≡ false = rw (differ, end_one, end_other) refl in
      subst (λ ns. (list_all is_token ns && not (is_bad_distinct ns)) ≡ true) (sym h.names)
      (and_from (list_all is_token (h.one ∷ h.other ∷ [])) (not (is_bad_distinct (h.one ∷ h.other ∷ []))) tokens (ap not good))
    where
      variable : (n : Name) → is_variable_at db (place_of db sheet) n ≡ true → IsSymbolName n
      variable n k = by (symbol_of db n) refl k
        where
          by : (o : Option Sym) → symbol_of db n ≡ o → option_map_or (λ (v : Sym). list_any (λ (w : Sym). w.0 == v.0) (db.active_at (place_of db sheet)).variables) o false ≡ true → IsSymbolName n
          by None e q = absurd cc
          by (Some s) e q = symbol_good n s e

  pairs_pass : (ps : List PairLine) → AllByRecursion (IsActivePair db (place_of db sheet)) ps → list_all is_pair_spellable ps ≡ true
  pairs_pass [] h = refl
  pairs_pass (p ∷ ps) h = and_from (is_pair_spellable p) (list_all is_pair_spellable ps) (pair_pass p h.0) (pairs_pass ps h.1)

  pub spellable : IsSpellable sheet
  spellable =
      let t = theorem_of_sheet db sheet F.frame F.theorem in
      record {
        theorem = label_token sheet.theorem (labels sheet.theorem (label_listed db sheet.theorem t.label t.label_is));
        loc = ap (λ o. option_map_or is_label o true) F.loc;
        each_step = steps_pass 0 ss (λ k s at. let place : k ≡ 0 + k = omega arith in subst (λ n. is_step_spellable n s ≡ true) place (step_pass k s at));
        each_item = ap (list_all is_item_spellable) F.items ∙ items_pass ss;
        names_differ = names_differ;
        qed_last = last_map (λ (s : SheetStep). s.name) ss F.qed F.qed_last ∙ ap (λ n. Some n) qed_name;
        qed_no_hyp = last_map (λ (s : SheetStep). s.hyp) ss F.qed F.qed_last ∙ ap (λ b. Some b) F.qed_no_hyp;
        each_pair = pairs_pass sheet.pairs F.pairs;
      }
