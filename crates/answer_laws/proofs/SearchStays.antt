-- Searched again, a written worksheet stays, with its pairs and its end.
use Rattle.std.specs.Prelude.{◌≡◌, ◌⊎◌, ◌++◌, ◌&&◌, ◌||◌, ◌==◌, ◌↔◌, not, nat_lt, ℕ, zero, suc, Bool, true, false, List, [], ◌∷◌, length, map}
use Rattle.std.specs.Prelude.{flat_map, slice_get, is_none, Contains, Option, Some, None, refl}
use Rattle.std.specs.List.{AllZip, list_all}
use Rattle.std.specs.Option.{option_map_or}
use Rattle.std.proofs.Common.{sym, ap, subst, ◌∙◌, arith, inl, inr}
use Rattle.std.proofs.lemmas.Bool.Decides.{nat_tests}
use Rattle.std.proofs.lemmas.List.Elements.{Contains-append_left, Contains-append_right, Contains-append_cases}
use Rattle.mm_base.specs.declared.symbols.Pair.{Pair}
use Rattle.mm_base.specs.declared.tree.Tree.{Tree}
use Rattle.mm_model.specs.Book.{Database, label_name}
use Rattle.sheet_text.specs.declared.sheet.Given.{Given}
use Rattle.sheet_text.specs.declared.sheet.Given.TheVariants as given
use Rattle.solve_model.specs.PairSets.{stands_before, pair_set}
use Rattle.solve_model.specs.Solutions.{names_step}
use Rattle.solve_laws.specs.PairSetLaws.{AreInOrder}
use Rattle.solve_laws.proofs.PairSetLaws.{holds_same, is_in_order}
use Rattle.written_model.specs.declared.options.DvMode.{DvMode}
use Rattle.written_model.specs.declared.options.DvMode.TheVariants as dv
use Rattle.written_model.specs.declared.options.Options.{Options}
use Rattle.written_model.specs.declared.report.ReportVerdict.TheVariants as report
use Rattle.written_model.specs.WrittenSteps.{Use, WrittenStep, WrittenItem, comment, step, steps_in, over_step, trees, place_tree}
use Rattle.written_model.specs.Pairs.{needed_by, pairs_of, lack_of, clash_of}
use Rattle.written_model.specs.ProofTrees.{Below, at_qed, listed, is_complete_use, is_complete, Finished}
use Rattle.written_model.specs.Found.{is_ground, is_to_be_searched, Choice, choices, valued, Fits, FitsUse, IsFound, IsSearched}
use Rattle.written_model.specs.Written.{Writing, ItemIsSearched, after_naming, written_pairs}
use Rattle.written_model.specs.Again.{step_again, again}
use Rattle.written_model.specs.WrittenAgain.{EndStays}
use mathlib.Core.Path.{fun_ext}
use Rattle.answer_laws.proofs.Elements.{nothing, first, later, parted}
use Rattle.answer_laws.proofs.Moved.{steps-over}
use Rattle.answer_laws.proofs.SearchedAlike.{first_with}

-- ---- a set of pairs in order is one

numbers_turned : (a b c d : ℕ) → (nat_lt a c || ((a == c) && nat_lt b d)) ≡ true → (nat_lt c a || ((c == a) && nat_lt d b)) ≡ true → ⊥
numbers_turned a b c d h k = grind (arith, nat_tests, h, k)

numbers_join : (a b c d e f : ℕ) → (nat_lt a c || ((a == c) && nat_lt b d)) ≡ true → (nat_lt c e || ((c == e) && nat_lt d f)) ≡ true → (nat_lt a e || ((a == e) && nat_lt b f)) ≡ true
numbers_join a b c d e f h k = grind (arith, nat_tests, h, k)

turned : (p q : Pair) → stands_before p q ≡ true → stands_before q p ≡ true → ⊥
turned p q h k = numbers_turned p.a.0 p.b.0 q.a.0 q.b.0 h k

join : (p q r : Pair) → stands_before p q ≡ true → stands_before q r ≡ true → stands_before p r ≡ true
join p q r h k = numbers_join p.a.0 p.b.0 q.a.0 q.b.0 r.a.0 r.b.0 h k

all_after : (p : Pair) (ps : List Pair) → AreInOrder (p ∷ ps) → (q : Pair) → Contains ps q → stands_before p q ≡ true
all_after p [] h q o = absurd (nothing q o)
all_after p (r ∷ rs) h q o = elim (parted q r rs o) [
  | inl e ↦ subst (λ x. stands_before p x ≡ true) e h.0
  | inr l ↦ join p r q h.0 (all_after r rs h.1 q l)
]

no_self : (p : Pair) (ps : List Pair) → AreInOrder (p ∷ ps) → Contains ps p → ⊥
no_self p ps h o = let s = all_after p ps h p o in turned p p s s

-- two lists in order with the same pairs are one
one_order : (ps qs : List Pair) → AreInOrder ps → AreInOrder qs → ((x : Pair) → Contains ps x → Contains qs x) → ((x : Pair) → Contains qs x → Contains ps x) → ps ≡ qs
one_order [] [] h k f g = refl
one_order [] (q ∷ qs) h k f g = absurd (nothing q (g q (first q q qs refl)))
one_order (p ∷ ps) [] h k f g = absurd (nothing p (f p (first p p ps refl)))
one_order (p ∷ ps) (q ∷ qs) h k f g =
    let same = heads (parted p q qs (f p (first p p ps refl))) (parted q p ps (g q (first q q qs refl))) in
    let rest = one_order ps qs h.1 k.1
    (λ x o. elim (parted x q qs (f x (later x p ps o))) [ inl e ↦ absurd (no_self p ps h (subst (Contains ps) (sym e ∙ sym same) o)) | inr l ↦ l ])
    (λ x o. elim (parted x p ps (g x (later x q qs o))) [ inl e ↦ absurd (no_self q qs k (subst (Contains qs) (sym e ∙ same) o)) | inr l ↦ l ]) in
    ap (λ x. x ∷ ps) same ∙ ap (λ xs. q ∷ xs) rest
  where
    heads : (q ≡ p) ⊎ Contains qs p → (p ≡ q) ⊎ Contains ps q → p ≡ q
    heads (inl e) m = sym e
    heads (inr l) (inl e) = e
    heads (inr l) (inr m) = absurd (turned p q (all_after p ps h q m) (all_after q qs k p l))

-- more of what is there adds nothing
set_again : (ps ns : List Pair) → pair_set (pair_set (ps ++ ns) ++ ns) ≡ pair_set (ps ++ ns)
set_again ps ns =
    one_order (pair_set (pair_set (ps ++ ns) ++ ns)) (pair_set (ps ++ ns)) (is_in_order (pair_set (ps ++ ns) ++ ns)) (is_in_order (ps ++ ns))
    (λ x o. elim
    (Contains-append_cases (pair_set (ps ++ ns)) ns x ((holds_same (pair_set (ps ++ ns) ++ ns) x).0 o)) [
      | inl l ↦ l
      | inr l ↦
          (holds_same (ps ++ ns) x).1 (Contains-append_right ps ns x l)
    ])
    (λ x o. (holds_same (pair_set (ps ++ ns) ++ ns) x).1 (Contains-append_left (pair_set (ps ++ ns)) ns x o))

-- ---- steps that are written again

all_needed : (es : List WrittenStep) → flat_map (λ (e : WrittenStep). needed_by e.by) (map step_again es) ≡ flat_map (λ (e : WrittenStep). needed_by e.by) es
all_needed [] = refl
all_needed (e ∷ es) = ap (λ ps. needed_by e.by ++ ps) (all_needed es)

pairs_again : (mode : DvMode) (allowed : List Pair) (es : List WrittenStep) → pairs_of mode (pairs_of mode allowed es) (map step_again es) ≡ pairs_of mode allowed es
pairs_again dv.Given allowed es = refl
pairs_again dv.Add allowed es =
    ap (λ ns. pair_set (pair_set (allowed ++ flat_map (λ (e : WrittenStep). needed_by e.by) es) ++ ns)) (all_needed es) ∙ set_again allowed (flat_map (λ (e : WrittenStep). needed_by e.by) es)

lack_again : (mode : DvMode) (allowed : List Pair) (es : List WrittenStep) (u : Use) → lack_of mode (pairs_of mode allowed es) u ≡ lack_of mode allowed u
lack_again dv.Given allowed es u = refl
lack_again dv.Add allowed es u = refl

pub trees_again : (es : List WrittenStep) → trees (map step_again es) ≡ trees es
trees_again [] = refl
trees_again (e ∷ es) = ap (λ ts. e.tree ∷ ts) (trees_again es)

-- ---- the search of one step

module _ (db : Database) (place : ℕ) (mode : DvMode) (allowed more : List Pair) (lacks : (u : Use) → lack_of mode more u ≡ lack_of mode allowed u)
    (es fs : List WrittenStep) (same : trees es ≡ trees fs) where
  place_same : (h : Given) → place_tree es h ≡ place_tree fs h
  place_same given.Gap = refl
  place_same (given.Step k) = ap (λ ts. slice_get ts k) same

  places_same : place_tree es ≡ place_tree fs
  places_same = fun_ext place_same

  abbrev tested : (Given → Option Tree) → WrittenStep → Bool
  tested p e = not e.hyp && is_none e.reference && is_ground e.tree && list_all (λ h. option_map_or is_ground (p h) false) e.places

  test_same : (e : WrittenStep) → is_to_be_searched fs (step_again e) ≡ is_to_be_searched es e
  test_same e = ap (λ p. tested p e) (sym places_same)

  there : (e : WrittenStep) (c : Choice) (u : Use) → FitsUse db place mode allowed es e c u → FitsUse db place mode more fs (step_again e) c u
  there e c u k = record {
    is_usable = k.is_usable;
    earlier = k.earlier;
    codes = k.codes;
    conclusion = k.conclusion;
    hyps = subst (λ p. AllZip (λ (h : Tree) (g : Given). p g ≡ Some (valued u h)) u.assertion.hyps c.places) places_same k.hyps;
    no_clash = k.no_clash;
    no_lack = lacks u ∙ k.no_lack;
  }

  back : (e : WrittenStep) (c : Choice) (u : Use) → FitsUse db place mode more fs (step_again e) c u → FitsUse db place mode allowed es e c u
  back e c u k = record {
    is_usable = k.is_usable;
    earlier = k.earlier;
    codes = k.codes;
    conclusion = k.conclusion;
    hyps = subst (λ p. AllZip (λ (h : Tree) (g : Given). p g ≡ Some (valued u h)) u.assertion.hyps c.places) (sym places_same) k.hyps;
    no_clash = k.no_clash;
    no_lack = sym (lacks u) ∙ k.no_lack;
  }

  not_found : (e : WrittenStep) → IsFound db place mode allowed es e None → IsFound db place mode more fs (step_again e) None
  not_found e k =
      first_with (Fits db place mode allowed es e) (Fits db place mode more fs (step_again e)) (λ c x. (x.0, there e c x.0 x.1)) (λ c x. (x.0, back e c x.0 x.1)) (choices db e) None k

  -- what has a reference is not searched
  with_reference : (e : WrittenStep) → is_none e.reference ≡ false → is_to_be_searched fs e ≡ false
  with_reference e h =
      ap (λ b. not e.hyp && b && is_ground e.tree && list_all (λ x. option_map_or is_ground (place_tree fs x) false) e.places) h
      ∙ by_front (not e.hyp) (is_ground e.tree) (list_all (λ x. option_map_or is_ground (place_tree fs x) false) e.places)
    where
      by_front : (a b c : Bool) → (a && false && b && c) ≡ false
      by_front true b c = refl
      by_front false b c = refl

  pub step_stays : (e f : WrittenStep) → IsSearched db place mode allowed es e f → IsSearched db place mode more fs (step_again f) (step_again f)
  step_stays e f (IsSearched.not_searched h) = IsSearched.not_searched (test_same e ∙ h)
  step_stays e f (IsSearched.none h k) = IsSearched.none (test_same e ∙ h) (not_found e k)
  step_stays e f (IsSearched.found {c = c} {u = u} h k m) =
      IsSearched.not_searched (with_reference (step_again (record e { reference = Some (label_name db c.label); places = c.places; verdict = report.Found; by = Some u })) refl)

-- ---- the trees that are searched

searched_tree : (db : Database) (place : ℕ) (mode : DvMode) (allowed : List Pair) (es : List WrittenStep) (e f : WrittenStep) → IsSearched db place mode allowed es e f → f.tree ≡ e.tree
searched_tree db place mode allowed es e f (IsSearched.not_searched h) = refl
searched_tree db place mode allowed es e f (IsSearched.none h k) = refl
searched_tree db place mode allowed es e f (IsSearched.found h k m) = refl

module _ (db : Database) (options : Options) (w : Writing) where
  pub trees_searched : (is js : List WrittenItem) → AllZip (ItemIsSearched db options w) is js → trees (steps_in is) ≡ trees (steps_in js)
  trees_searched [] [] h = refl
  trees_searched [] (j ∷ js) h = absurd h
  trees_searched (i ∷ is) [] h = absurd h
  trees_searched (comment lines ∷ is) (j ∷ js) h = trees_searched is js h.1 ∙ ap (λ x. trees (steps_in (x ∷ js))) (sym h.0)
  trees_searched (step e ∷ is) (j ∷ js) h =
      ap (λ t. t ∷ trees (steps_in is)) (sym (searched_tree db w.bound.place options.dv w.bound.pairs (steps_in (after_naming db options w)) e h.0.0 h.0.2))
      ∙ ap (λ ts. h.0.0.tree ∷ ts) (trees_searched is js h.1)
      ∙ ap (λ x. trees (steps_in (x ∷ js))) (sym h.0.1)

  module _ (made : after_naming db options (again db options w) ≡ (again db options w).items) (searched : AllZip (ItemIsSearched db options w) (after_naming db options w) w.items) where
    trees_same : trees (steps_in (after_naming db options w)) ≡ trees (steps_in (after_naming db options (again db options w)))
    trees_same =
        trees_searched (after_naming db options w) w.items searched ∙ sym (trees_again (steps_in w.items))
        ∙ ap trees (sym (steps-over step_again w.items)) ∙ ap (λ is. trees (steps_in is)) (sym made)

    all_searched : (is js : List WrittenItem) → AllZip (ItemIsSearched db options w) is js
        → AllZip (ItemIsSearched db options (again db options w)) (map (over_step step_again) js) (map (over_step step_again) js)
    all_searched [] [] h = tt
    all_searched [] (j ∷ js) h = absurd h
    all_searched (i ∷ is) [] h = absurd h
    all_searched (comment lines ∷ is) (j ∷ js) h =
        subst (λ x. AllZip (ItemIsSearched db options (again db options w)) (map (over_step step_again) (x ∷ js)) (map (over_step step_again) (x ∷ js))) (sym h.0) (refl, all_searched is js h.1)
    all_searched (step e ∷ is) (j ∷ js) h =
        subst (λ x. AllZip (ItemIsSearched db options (again db options w)) (map (over_step step_again) (x ∷ js)) (map (over_step step_again) (x ∷ js))) (sym h.0.1) (
          (
            step_again h.0.0,
            refl,
            step_stays db w.bound.place options.dv w.bound.pairs (written_pairs db options w) (lack_again options.dv w.bound.pairs (steps_in w.items))
                (steps_in (after_naming db options w)) (steps_in (after_naming db options (again db options w))) trees_same e h.0.0 h.0.2,
          ),
          all_searched is js h.1,
        )

-- ---- the end

module _ (mode : DvMode) (allowed more : List Pair) (lacks : (u : Use) → lack_of mode more u ≡ lack_of mode allowed u) where
  complete_use : (gs : List Given) (o : Option Use) → is_complete_use mode more gs o ≡ is_complete_use mode allowed gs o
  complete_use gs None = refl
  complete_use gs (Some u) =
      ap (λ x. length gs == length u.assertion.hyps && list_all names_step gs && is_none (clash_of u) && is_none x) (lacks u)

  complete : (e : WrittenStep) → is_complete mode more (step_again e) ≡ is_complete mode allowed e
  complete e = ap (λ x. e.hyp || x) (complete_use e.places e.by)

  step_there : (es : List WrittenStep) (i : ℕ) (e : WrittenStep) → slice_get es i ≡ Some e → slice_get (map step_again es) i ≡ Some (step_again e)
  step_there [] i e h = absurd (cc)
  step_there (x ∷ es) zero e h = let same : x ≡ e = cc in ap (λ y. Some (step_again y)) same
  step_there (x ∷ es) (suc i) e h = step_there es i e h

  step_from : (es : List WrittenStep) (i : ℕ) (f : WrittenStep) → slice_get (map step_again es) i ≡ Some f → (e : WrittenStep) × (slice_get es i ≡ Some e) × (step_again e ≡ f)
  step_from [] i f h = absurd (cc)
  step_from (x ∷ es) zero f h = (x, refl, cc)
  step_from (x ∷ es) (suc i) f h = step_from es i f h

  below_there : (es : List WrittenStep) (i : ℕ) → Below es i → Below (map step_again es) i
  below_there es i (at_qed j {e = e} h k) = at_qed j {e = step_again e} (step_there es j e h) k
  below_there es i (listed j {e = e} {k = k} b h o) = listed j {e = step_again e} (below_there es j b) (step_there es j e h) o

  below_back : (es : List WrittenStep) (i : ℕ) → Below (map step_again es) i → Below es i
  below_back es i (at_qed j {e = f} h k) = let r = step_from es j f h in at_qed j {e = r.0} r.1 (ap (λ (x : WrittenStep). x.name) r.2 ∙ k)
  below_back es i (listed j {e = f} {k = k} b h o) =
      let r = step_from es j f h in
      listed j {e = r.0} (below_back es j b) r.1 (subst (λ gs. Contains gs (given.Step k)) (ap (λ (x : WrittenStep). x.places) (sym r.2)) o)

  pub end_stays : (es : List WrittenStep) → Finished mode more (map step_again es) ↔ Finished mode allowed es
  end_stays es = (
    (λ h. record {
      hyps = λ i e k y. h.hyps i (step_again e) (step_there es i e k) y;
      no_work = λ i e k b. h.no_work i (step_again e) (step_there es i e k) (below_there es i b);
      complete = λ i e k b. sym (complete e) ∙ h.complete i (step_again e) (step_there es i e k) (below_there es i b);
    }),
    (λ h. record {
      hyps = λ i f k y. let r = step_from es i f k in subst (λ (x : WrittenStep). is_ground x.tree ≡ true) r.2 (h.hyps i r.0 r.1 (ap (λ (x : WrittenStep). x.hyp) r.2 ∙ y));
      no_work = λ i f k b. let r = step_from es i f k in subst (λ (x : WrittenStep). is_ground x.tree ≡ true) r.2 (h.no_work i r.0 r.1 (below_back es i b));
      complete = λ i f k b. let r = step_from es i f k in subst (λ (x : WrittenStep). is_complete mode more x ≡ true) r.2 (complete r.0 ∙ h.complete i r.0 r.1 (below_back es i b));
    }),
  )

-- what is searched again, its pairs and its end stay
pub search_stays : (db : Database) (text : List ℕ) (options : Options) (w : Writing) → after_naming db options (again db options w) ≡ (again db options w).items
    → AllZip (ItemIsSearched db options w) (after_naming db options w) w.items → EndStays db text options w
search_stays db text options w made searched = record {
  searched = all_searched db options w made searched (after_naming db options w) w.items searched;
  pairs = ap (pairs_of options.dv (written_pairs db options w)) (steps-over step_again w.items) ∙ pairs_again options.dv w.bound.pairs (steps_in w.items);
  finished = subst (λ es. Finished options.dv (written_pairs db options w) es ↔ Finished options.dv w.bound.pairs (steps_in w.items)) (sym (steps-over step_again w.items))
      (end_stays options.dv w.bound.pairs (written_pairs db options w) (lack_again options.dv w.bound.pairs (steps_in w.items)) (steps_in w.items));
}
