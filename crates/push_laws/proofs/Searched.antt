-- Naming and the search keep what is known of each step.
use Rattle.std.specs.Prelude.{◌≡◌, ◌⊎◌, ◌==◌, ◌&&◌, ℕ, Bool, true, false, not, List, [], ◌∷◌, length, map, filter, find, zip, is_none, nat_le, slice_get, Contains, Option, Some, None, refl}
use Rattle.std.specs.List.{AllZip, AllByRecursion, list_all, range_with_len}
use Rattle.std.specs.Option.{option_map_or}
use Rattle.std.proofs.Common.{sym, ap, subst, ◌∙◌, cond, arith, inl, inr}
use Rattle.std.proofs.lemmas.Bool.{cases_Bool, and_parts, both_ways, not-true}
use Rattle.mm_base.specs.declared.symbols.Sym.{Sym}
use Rattle.mm_base.specs.declared.symbols.Pair.{Pair}
use Rattle.mm_base.specs.declared.symbols.Typecode.{Typecode}
use Rattle.mm_base.specs.declared.tree.Tree.{Tree}
use Rattle.mm_base.specs.declared.tree.Tree.TheVariants.{Var}
use Rattle.mm_base.specs.Trees.{code_of}
use Rattle.mm_base.proofs.TreeInduction.{tree_ind}
use Rattle.mm_model.specs.declared.rows.Leaf.TheVariants as leaf
use Rattle.mm_model.specs.Productions.{TypedVariable}
use Rattle.mm_model.specs.Names.{label}
use Rattle.mm_model.specs.Book.{Database, label_name}
use Rattle.mm_model.proofs.NameLaws.{label_back}
use Rattle.mm_model.proofs.TextLaws.{text-Var, text-Work, text-Fresh}
use Rattle.mm_model.proofs.TypedLaws.{code-Var, code-Work, code-Node, typed-Var, typed-Work}
use Rattle.sheet_text.specs.declared.sheet.Given.{Given}
use Rattle.sheet_text.specs.declared.sheet.Given.TheVariants as given
use Rattle.sheet_text.specs.declared.sheet.SheetStep.{SheetStep}
use Rattle.solve_model.specs.declared.bound.Bound.{Bound}
use Rattle.solve_model.specs.Trees.{Open, work, fresh, leaf_tree, open_code}
use Rattle.solve_model.specs.Firsts.{IsFirstOrNone}
use Rattle.solve_model.specs.Bound.{IsBoundStep}
use Rattle.solve_model.specs.Solutions.{Valuation}
use Rattle.solve_model.specs.Verdicts.{Judgement, accepted_in, AreJudged}
use Rattle.solve_model.specs.MostGeneral.{IsTheValuation}
use Rattle.solve_model.proofs.TreeLaws.{replace-Var, replace-Work, replace-Fresh, replace-Node}
use Rattle.solve_laws.specs.Instances.{IsClosedTree}
use Rattle.solve_laws.specs.ReplacedTypes.{IsTypedAs}
use Rattle.solve_laws.proofs.ReplaceLaws.{replace-replace, replace-agree}
use Rattle.solve_laws.proofs.ReplacedTypes.{code-Fresh, typed-Fresh}
use Rattle.written_model.specs.declared.options.DvMode.{DvMode}
use Rattle.written_model.specs.declared.report.ReportVerdict.TheVariants as report
use Rattle.written_model.specs.WrittenSteps.{Use, WrittenStep, WrittenItem, comment, step, steps_in, trees, place_tree, value_of, no_tree}
use Rattle.written_model.specs.Named.{Naming, name_fresh, name_leaf, name_tree, name_use, name_step, name_items}
use Rattle.written_model.specs.Found.{valued, Choice, choices, search_orders, is_ground_place, is_ground, FitsUse, Fits, IsSearched, not_searched, none, found}
use Rattle.push_laws.proofs.Facts.{IsBook}
use Rattle.push_laws.proofs.FilledSteps.{IsFilledStep, IsSound}
use Rattle.push_laws.proofs.Filling.{order_by, flat_from, mapped_from}
use Rattle.push_laws.proofs.Lists.{first, later, nothing, parted, all_of, all_in, map_get}
use Rattle.push_laws.proofs.Replaced.{HasVar, typed_on, comes_from}
use Rattle.push_laws.proofs.Solved.{IsAssertionTree, conclusion_tree, hyp_trees}
use Rattle.push_laws.proofs.StepProofs.{IsBefore, PlaceIs, PlacesAre, HasUse}

pub steps_named : (names : Naming) (items : List WrittenItem) → steps_in (name_items names items) ≡ map (name_step names) (steps_in items)
steps_named names [] = refl
steps_named names (comment lines ∷ items) = steps_named names items
steps_named names (step e ∷ items) = ap (λ xs. name_step names e ∷ xs) (steps_named names items)

module _ (db : Database) (book : IsBook db) (bound : Bound) (judgements : List Judgement) (judged : AreJudged db bound judgements) (g : Valuation)
    (the : IsTheValuation db bound (accepted_in judgements) g) (steps : List SheetStep) (bounds : AllZip (IsBoundStep db bound.place) steps bound.steps)
    (spelled : (i : ℕ) (s : SheetStep) → slice_get steps i ≡ Some s → AllByRecursion (IsBefore i) s.places) where
  abbrev Sound : Tree → Type 0
  Sound t = IsSound db book bound judgements judged g the steps bounds spelled t

  abbrev pub StepOf : List WrittenStep → ℕ → WrittenStep → Type 0
  StepOf es j e = IsFilledStep db book bound judgements judged g the steps bounds spelled es j e

  -- ---- names

  module _ (names : Naming) where
    abbrev name : Tree → Tree
    name t = name_tree names t

    leaf_code : (x : Open) → code_of (name_leaf names x) ≡ open_code x
    leaf_code (work c n) = code-Work c n
    leaf_code (fresh c n) = by_number (names c n)
      where
        by_number : (o : Option ℕ) → code_of (name_fresh c n o) ≡ c
        by_number None = code-Fresh c n
        by_number (Some k) = code-Work c k

    leaf_typed : (x : Open) → IsTypedAs db.rows bound.place (open_code x) (name_leaf names x)
    leaf_typed (work c n) = record { code = code-Work c n; typed = typed-Work db.rows bound.place c n }
    leaf_typed (fresh c n) = by_number (names c n)
      where
        by_number : (o : Option ℕ) → IsTypedAs db.rows bound.place c (name_fresh c n o)
        by_number None = record { code = code-Fresh c n; typed = typed-Fresh db.rows bound.place c n }
        by_number (Some k) = record { code = code-Work c k; typed = typed-Work db.rows bound.place c k }

    no_var : (s : Sym) (c d : Typecode) (n : ℕ) → Contains (leaf.Work d n ∷ []) (leaf.Var s c) → ⊥
    no_var s c d n h = elim (parted (leaf.Var s c) (leaf.Work d n) [] h) [ inl e ↦ cc | inr l ↦ nothing (leaf.Var s c) l ]

    leaf_no_var : (x : Open) (s : Sym) (c : Typecode) → HasVar db book bound.place (name_leaf names x) s c → ⊥
    leaf_no_var (work d n) s c h = no_var s c d n (subst (λ xs. Contains xs (leaf.Var s c)) (text-Work db.rows d n) h)
    leaf_no_var (fresh d n) s c h = by_number (names d n) h
      where
        by_number : (o : Option ℕ) → HasVar db book bound.place (name_fresh d n o) s c → ⊥
        by_number None i = nothing (leaf.Var s c) (subst (λ xs. Contains xs (leaf.Var s c)) (text-Fresh db.rows d n) i)
        by_number (Some k) i = no_var s c d k (subst (λ xs. Contains xs (leaf.Var s c)) (text-Work db.rows d k) i)

    same_var : (s v : Sym) (c d : Typecode) → HasVar db book bound.place (Var v d) s c → (v ≡ s) × (d ≡ c)
    same_var s v c d h = elim (parted (leaf.Var s c) (leaf.Var v d) [] (subst (λ xs. Contains xs (leaf.Var s c)) (text-Var db.rows v d) h)) [
      | inl e ↦ (let one : v ≡ s = cc in one, let two : d ≡ c = cc in two)
      | inr l ↦ absurd (nothing (leaf.Var s c) l)
    ]

    pub named_sound : (t : Tree) → Sound t → Sound (name t)
    named_sound t h =
        let kept =
        typed_on db book bound.place bound.place (λ v c. Var v c) (name_leaf names) t h.typed (omega arith)
        (λ v c k. record { code = code-Var v c; typed = typed-Var db.rows bound.place v c }) (λ x o. leaf_typed x) in
        record {
          code = kept.code ∙ h.code;
          typed = kept.typed;
          vars = λ s c k. elim (comes_from db book bound.place (λ v d. Var v d) (name_leaf names) s c t h.typed k) [
            | inl m ↦
                let two = same_var s m.0 c m.1 m.3 in
                h.vars s c (subst (λ d. HasVar db book bound.place t s d) two.1 (subst (λ v. HasVar db book bound.place t v m.1) two.0 m.2))
            | inr m ↦ absurd (leaf_no_var m.0 s c m.2)
          ];
        }

    named_code : (t : Tree) → code_of (name t) ≡ code_of t
    named_code = tree_ind (λ t. code_of (name t) ≡ code_of t)
        (λ s c. ap code_of (replace-Var (λ v d. Var v d) (name_leaf names) s c))
        (λ c n. ap code_of (replace-Work (λ v d. Var v d) (name_leaf names) c n) ∙ leaf_code (work c n) ∙ sym (code-Work c n))
        (λ c n. ap code_of (replace-Fresh (λ v d. Var v d) (name_leaf names) c n) ∙ leaf_code (fresh c n) ∙ sym (code-Fresh c n))
        (λ l c ts h. ap code_of (replace-Node (λ v d. Var v d) (name_leaf names) l c ts) ∙ code-Node l c (map name ts) ∙ sym (code-Node l c ts))

    named_codes : (ts : List Tree) → map code_of (map name ts) ≡ map code_of ts
    named_codes [] = refl
    named_codes (t ∷ ts) = let one = named_code t in let rest = named_codes ts in cc

    abbrev named_use : Use → Use
    named_use u = record u { values = map name u.values }

    abbrev beside : List (TypedVariable × Tree) → Sym → Tree
    beside ps s = option_map_or (λ (p : TypedVariable × Tree). p.1) (find (λ (p : TypedVariable × Tree). p.0.sym.0 == s.0) ps) no_tree

    beside_named : (vs : List TypedVariable) (ts : List Tree) (s : Sym) → beside (zip vs (map name ts)) s ≡ name (beside (zip vs ts) s)
    beside_named [] [] s = sym (replace-Work (λ v d. Var v d) (name_leaf names) _ 0)
    beside_named [] (t ∷ ts) s = sym (replace-Work (λ v d. Var v d) (name_leaf names) _ 0)
    beside_named (v ∷ vs) [] s = sym (replace-Work (λ v d. Var v d) (name_leaf names) _ 0)
    beside_named (v ∷ vs) (t ∷ ts) s = elim (cases_Bool (v.sym.0 == s.0)) [
      | inl d ↦ by_test true d refl
      | inr d ↦ by_test false d (beside_named vs ts s)
    ]
      where
        abbrev_at : (b : Bool) → Tree
        abbrev_at b = option_map_or (λ (p : TypedVariable × Tree). p.1) (cond b (Some (v, t)) (find (λ (p : TypedVariable × Tree). p.0.sym.0 == s.0) (zip vs ts))) no_tree

        by_test : (b : Bool) → (v.sym.0 == s.0) ≡ b
            → option_map_or (λ (p : TypedVariable × Tree). p.1) (cond b (Some (v, name t)) (find (λ (p : TypedVariable × Tree). p.0.sym.0 == s.0) (zip vs (map name ts)))) no_tree
            ≡ name (option_map_or (λ (p : TypedVariable × Tree). p.1) (cond b (Some (v, t)) (find (λ (p : TypedVariable × Tree). p.0.sym.0 == s.0) (zip vs ts))) no_tree)
            → beside (zip (v ∷ vs) (map name (t ∷ ts))) s ≡ name (beside (zip (v ∷ vs) (t ∷ ts)) s)
        by_test b e h =
            subst
            (λ (x : Bool). option_map_or (λ (p : TypedVariable × Tree). p.1)
            (cond x (Some (v, name t)) (find (λ (p : TypedVariable × Tree). p.0.sym.0 == s.0) (zip vs (map name ts)))) no_tree
            ≡ name (option_map_or (λ (p : TypedVariable × Tree). p.1) (cond x (Some (v, t)) (find (λ (p : TypedVariable × Tree). p.0.sym.0 == s.0) (zip vs ts))) no_tree)) (sym e) h

    -- a tree without open leaves, valued by the named values
    named_valued : (u : Use) (t : Tree) → IsClosedTree t → valued (named_use u) t ≡ name (valued u t)
    named_valued u t closed =
        sym (replace-replace (λ v d. Var v d) (λ s c. value_of u s) (name_leaf names) leaf_tree t
        ∙ replace-agree (λ s c. name (value_of u s)) (λ s c. value_of (named_use u) s) (λ x. name (leaf_tree x)) leaf_tree
        (λ s c. sym (beside_named u.assertion.vars u.values s)) t (λ x o. absurd (closed x o)))

    named_all : (u : Use) (ts : List Tree) → AllByRecursion IsClosedTree ts → map (valued (named_use u)) ts ≡ map name (map (valued u) ts)
    named_all u [] a = refl
    named_all u (t ∷ ts) a = let one = named_valued u t a.0 in let rest = named_all u ts a.1 in cc

    trees_named : (es : List WrittenStep) → trees (map (name_step names) es) ≡ map name (trees es)
    trees_named [] = refl
    trees_named (e ∷ es) = ap (λ ts. name e.tree ∷ ts) (trees_named es)

    named_place : (es : List WrittenStep) (t : Tree) (p : Given) → PlaceIs es t p → PlaceIs (map (name_step names) es) (name t) p
    named_place es t given.Gap h = tt
    named_place es t (given.Step k) h = ap (λ ts. slice_get ts k) (trees_named es) ∙ map_get name (trees es) k t h

    named_places : (es : List WrittenStep) (ts : List Tree) (gs : List Given) → PlacesAre es ts gs → PlacesAre (map (name_step names) es) (map name ts) gs
    named_places es ts [] h = tt
    named_places es [] (p ∷ gs) h = absurd h
    named_places es (t ∷ ts) (p ∷ gs) h = (named_place es t p h.0, named_places es ts gs h.1)

    named_has : (es : List WrittenStep) (e : WrittenStep) (u : Use) → HasUse es db bound.place e u → HasUse (map (name_step names) es) db bound.place (name_step names e) (named_use u)
    named_has es e u h =
        let closed =
        all_in IsClosedTree u.assertion.hyps
        (λ t c.
        (all_of (IsAssertionTree db book h.label u.assertion h.usable) u.assertion.hyps t
        (hyp_trees db book h.label u.assertion h.usable) c).closed) in
        record {
          label = h.label;
          named = h.named;
          usable = h.usable;
          earlier = h.earlier;
          codes = named_codes u.values ∙ h.codes;
          conclusion = named_valued u u.assertion.tree (conclusion_tree db book h.label u.assertion h.usable).closed ∙ ap name h.conclusion;
          places = subst (λ ts. PlacesAre (map (name_step names) es) ts e.places) (sym (named_all u u.assertion.hyps closed)) (named_places es (map (valued u) u.assertion.hyps) e.places h.places);
        }

    named_fits : (es : List WrittenStep) (e : WrittenStep) (o : Option Use) → e.by ≡ o → ((u : Use) → e.by ≡ Some u → HasUse es db bound.place e u) → (u : Use) → name_use names o ≡ Some u
        → HasUse (map (name_step names) es) db bound.place (name_step names e) u
    named_fits es e None is f u by' = absurd cc
    named_fits es e (Some v) is f u by' = let same : named_use v ≡ u = cc in subst (HasUse (map (name_step names) es) db bound.place (name_step names e)) same (named_has es e v (f v is))

    pub named_step : (es : List WrittenStep) (j : ℕ) (e : WrittenStep) → StepOf es j e → StepOf (map (name_step names) es) j (name_step names e)
    named_step es j e h = record {
      earlier = h.earlier;
      sound = named_sound e.tree h.sound;
      no_use = λ is. ap (name_use names) (h.no_use is);
      fits = λ u by'. named_fits es e e.by refl h.fits u by';
    }

  -- ---- the search

  first_contains : {X : Type 0} (P : X → Type 0) (xs : List X) (x : X) → IsFirstOrNone P xs (Some x) → Contains xs x
  first_contains P [] x h = absurd cc
  first_contains P (y ∷ ys) x (inl h) = first x y ys (let same : y ≡ x = cc in same)
  first_contains P (y ∷ ys) x (inr h) = later x y ys (first_contains P ys x h.1)

  chosen : (e : WrittenStep) (c : Choice) (p : Given) → Contains (choices db e) c → Contains c.places p → Contains e.places p
  chosen e c p h i =
      let n = flat_from (λ n. map (λ places. record { label = label n; places = places }) (search_orders e)) (range_with_len 0 (length db.labels)) c h in
      let places = mapped_from (λ places. record { label = label n.0; places = places }) (search_orders e) c n.2 in
      order_by (nat_le 2 (length e.places) && nat_le (length e.places) 6) (length e.places) e.places places.0 p places.1 (subst (λ (x : Choice). Contains x.places p) (sym places.2) i)

  fit_places : (es : List WrittenStep) (u : Use) (ts : List Tree) (gs : List Given)
      → AllZip (λ (h : Tree) (p : Given). place_tree es p ≡ Some (valued u h)) ts gs → PlacesAre es (map (valued u) ts) gs
  fit_places es u [] [] a = tt
  fit_places es u [] (p ∷ gs) a = absurd a
  fit_places es u (t ∷ ts) [] a = tt
  fit_places es u (t ∷ ts) (given.Gap ∷ gs) a = (tt, fit_places es u ts gs a.1)
  fit_places es u (t ∷ ts) (given.Step k ∷ gs) a = (a.0, fit_places es u ts gs a.1)

  module _ (mode : DvMode) (allowed : List Pair) (es : List WrittenStep) where
    abbrev Searched : WrittenStep → WrittenStep → Type 0
    Searched e f = IsSearched db bound.place mode allowed es e f

    searched_tree : (e f : WrittenStep) → Searched e f → f.tree ≡ e.tree
    searched_tree e f (not_searched n) = refl
    searched_tree e f (none n h) = refl
    searched_tree e f (found n h fit) = refl

    searched_hyp : (e f : WrittenStep) → Searched e f → (f ≡ e) ⊎ ((e.hyp ≡ false) × (f.hyp ≡ false))
    searched_hyp e f (not_searched n) = inl refl
    searched_hyp e f (none n h) = inl refl
    searched_hyp e f (found n h fit) =
        let one = and_parts (not e.hyp && is_none e.reference && is_ground e.tree) (list_all (is_ground_place es) e.places) n in
        let two = and_parts (not e.hyp && is_none e.reference) (is_ground e.tree) one.0 in
        let three = and_parts (not e.hyp) (is_none e.reference) two.0 in
        let no = not-true e.hyp three.0 in
        inr (no, no)

    pub searched_trees : (xs ys : List WrittenStep) → AllZip Searched xs ys → trees ys ≡ trees xs
    searched_trees [] [] a = refl
    searched_trees [] (y ∷ ys) a = absurd a
    searched_trees (x ∷ xs) [] a = absurd a
    searched_trees (x ∷ xs) (y ∷ ys) a = let one = searched_tree x y a.0 in let rest = searched_trees xs ys a.1 in cc

    -- the hypotheses stay
    pub searched_hyps : (xs ys : List WrittenStep) → AllZip Searched xs ys → filter (λ (e : WrittenStep). e.hyp) ys ≡ filter (λ (e : WrittenStep). e.hyp) xs
    searched_hyps [] [] a = refl
    searched_hyps [] (y ∷ ys) a = absurd a
    searched_hyps (x ∷ xs) [] a = absurd a
    searched_hyps (x ∷ xs) (y ∷ ys) a =
        let rest = searched_hyps xs ys a.1 in
        elim (searched_hyp x y a.0) [
          | inl e ↦
              ap (λ (z : WrittenStep). cond z.hyp (z ∷ filter (λ (e : WrittenStep). e.hyp) ys) (filter (λ (e : WrittenStep). e.hyp) ys)) e
              ∙ ap (λ zs. cond x.hyp (x ∷ zs) zs) rest
          | inr e ↦
              ap (λ (b : Bool). cond b (y ∷ filter (λ (e : WrittenStep). e.hyp) ys) (filter (λ (e : WrittenStep). e.hyp) ys)) e.1
              ∙ rest ∙ sym (ap (λ (b : Bool). cond b (x ∷ filter (λ (e : WrittenStep). e.hyp) xs) (filter (λ (e : WrittenStep). e.hyp) xs)) e.0)
        ]

    module _ (fs : List WrittenStep) (same : trees fs ≡ trees es) where
      same_place : (t : Tree) (p : Given) → PlaceIs es t p → PlaceIs fs t p
      same_place t given.Gap h = tt
      same_place t (given.Step k) h = ap (λ ts. slice_get ts k) same ∙ h

      same_places : (ts : List Tree) (gs : List Given) → PlacesAre es ts gs → PlacesAre fs ts gs
      same_places ts [] h = tt
      same_places [] (p ∷ gs) h = absurd h
      same_places (t ∷ ts) (p ∷ gs) h = (same_place t p h.0, same_places ts gs h.1)

      same_step : (j : ℕ) (e : WrittenStep) → StepOf es j e → StepOf fs j e
      same_step j e h = record {
        earlier = h.earlier;
        sound = h.sound;
        no_use = h.no_use;
        fits = λ u by'. let x = h.fits u by' in record {
          label = x.label;
          named = x.named;
          usable = x.usable;
          earlier = x.earlier;
          codes = x.codes;
          conclusion = x.conclusion;
          places = same_places (map (valued u) u.assertion.hyps) e.places x.places;
        };
      }

      found_has : (e : WrittenStep) (c : Choice) (u : Use) → FitsUse db bound.place mode allowed es e c u
          → HasUse fs db bound.place (record e { reference = Some (label_name db c.label); places = c.places; verdict = report.Found; by = Some u }) u
      found_has e c u fit =
          let frame = (book.facts.usable c.label u.assertion fit.is_usable).frame in
          record {
            label = c.label;
            named = label_back db.labels book.facts.labels c.label.0 (book.within c.label u.assertion.frame frame);
            usable = fit.is_usable;
            earlier = fit.earlier;
            codes = fit.codes;
            conclusion = fit.conclusion;
            places = same_places (map (valued u) u.assertion.hyps) c.places (fit_places es u u.assertion.hyps c.places fit.hyps);
          }

      pub searched_step : (j : ℕ) (e f : WrittenStep) → Searched e f → StepOf es j e → StepOf fs j f
      searched_step j e f (not_searched n) h = same_step j e h
      searched_step j e f (none n k) h = same_step j e h
      searched_step j e f (found {c = c} {u = u} n k fit) h =
          let one = and_parts (not e.hyp && is_none e.reference && is_ground e.tree) (list_all (is_ground_place es) e.places) n in
          let two = and_parts (not e.hyp && is_none e.reference) (is_ground e.tree) one.0 in
          let three = and_parts (not e.hyp) (is_none e.reference) two.0 in
          record {
            earlier = all_in (IsBefore j) c.places (λ p m. all_of (IsBefore j) e.places p h.earlier (chosen e c p (first_contains (Fits db bound.place mode allowed es e) (choices db e) c k) m));
            sound = h.sound;
            no_use = λ is. absurd (both_ways e.hyp (not-true e.hyp three.0) is);
            fits = λ v by'. let same_use : u ≡ v = cc in
                subst (HasUse fs db bound.place (record e { reference = Some (label_name db c.label); places = c.places; verdict = report.Found; by = Some u })) same_use (found_has e c u fit);
          }
