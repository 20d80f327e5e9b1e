-- What is bound does not rest on the numbers of lines.
use Rattle.std.specs.Prelude.{◌≡◌, ◌⊎◌, ◌&&◌, ◌||◌, not, ℕ, zero, suc, Bool, true, false, List, [], ◌∷◌, ◌++◌, length, map, take, drop, find, filter}
use Rattle.std.specs.Prelude.{filter_map, flat_map, nat_lt, nat_le, is_some, slice_get, Option, Some, None, refl}
use Rattle.std.specs.List.{AllZip, list_any}
use Rattle.std.specs.Option.{option_map_or}
use Rattle.std.proofs.Common.{sym, ap, subst, ◌∙◌, cond, inl, inr}
use Rattle.std.specs.Str.{bytes_eq}
use Rattle.mm_base.specs.declared.symbols.Sym.{Sym}
use Rattle.mm_base.specs.declared.symbols.Pair.{Pair}
use Rattle.mm_model.specs.declared.frames.Frame.{Frame}
use Rattle.mm_model.specs.declared.frames.Hyp.{Hyp}
use Rattle.mm_model.specs.Names.{Name}
use Rattle.mm_model.specs.Book.{Database, label_of, symbol_of}
use Rattle.sheet_text.specs.declared.sheet.Sheet.{Sheet}
use Rattle.sheet_text.specs.declared.sheet.SheetItem.{SheetItem}
use Rattle.sheet_text.specs.declared.sheet.SheetItem.TheVariants as item
use Rattle.sheet_text.specs.declared.sheet.SheetStep.{SheetStep}
use Rattle.sheet_text.specs.declared.sheet.PairLine.{PairLine}
use Rattle.sheet_text.specs.Layout.{steps, step_of_item}
use Rattle.sheet_text.specs.Reads.{unnumbered, unnumbered_item, unnumbered_pairs}
use Rattle.solve_model.specs.declared.bound.Bound.{Bound}
use Rattle.solve_model.specs.declared.bound.BoundStep.{BoundStep}
use Rattle.solve_model.specs.PairSets.{pair_set}
use Rattle.solve_model.specs.Binding.{existing, is_new, place_of, given_hyps, same_tokens, names_of, hyps_before, has_label, is_hyp, is_qed}
use Rattle.solve_model.specs.Binding.{symbols_from, two_of, given_pairs, new_hyp, theorem_hyps, qed_formula, theorem_of, mandatory_of}
use Rattle.solve_model.specs.BindFaults.{header_rules, step_rules, BindFaultAt, hyps_differ, hyp_label_taken, hyp_label_twice, not_variable, asks_for_tree}
use Rattle.solve_model.specs.Formulas.{HasNoTree, HasTwoTrees}
use Rattle.solve_model.specs.Bound.{IsBoundStep, Binds}
use Rattle.proof_model.specs.declared.theorem.Theorem.{Theorem}
use Rattle.again_laws.proofs.Lists.{get_map, get_mapped, zip_left, zip_right}

abbrev pub plain : SheetStep → SheetStep
plain s = record s { line = 0 }

pub steps-plain : (items : List SheetItem) → filter_map step_of_item (map unnumbered_item items) ≡ map plain (filter_map step_of_item items)
steps-plain [] = refl
steps-plain (item.Comment lines ∷ items) = steps-plain items
steps-plain (item.Step s ∷ items) = ap (λ xs. plain s ∷ xs) (steps-plain items)

take-map : {X Y : Type 0} (f : X → Y) (n : ℕ) (xs : List X) → take n (map f xs) ≡ map f (take n xs)
take-map f zero xs = refl
take-map f (suc n) [] = refl
take-map f (suc n) (x ∷ xs) = ap (λ ys. f x ∷ ys) (take-map f n xs)

drop-map : {X Y : Type 0} (f : X → Y) (n : ℕ) (xs : List X) → drop n (map f xs) ≡ map f (drop n xs)
drop-map f zero xs = refl
drop-map f (suc n) [] = refl
drop-map f (suc n) (x ∷ xs) = drop-map f n xs

map-map : {X Y Z : Type 0} (h : Y → Z) (k : X → Y) (xs : List X) → map h (map k xs) ≡ map (λ x. h (k x)) xs
map-map h k [] = refl
map-map h k (x ∷ xs) = ap (λ ys. h (k x) ∷ ys) (map-map h k xs)

length-map_ : {X Y : Type 0} (f : X → Y) (xs : List X) → length (map f xs) ≡ length xs
length-map_ f [] = refl
length-map_ f (x ∷ xs) = ap (λ n. suc n) (length-map_ f xs)

-- a test that does not see the mapping
pub filter-map_ : {X Y : Type 0} (f : X → Y) (p : X → Bool) (q : Y → Bool) → ((x : X) → q (f x) ≡ p x) → (xs : List X) → filter q (map f xs) ≡ map f (filter p xs)
filter-map_ f p q h [] = refl
filter-map_ f p q h (x ∷ xs) = ap (λ t. cond t (f x ∷ filter q (map f xs)) (filter q (map f xs))) (h x) ∙ by (p x) (filter-map_ f p q h xs)
  where
    by : (t : Bool) → filter q (map f xs) ≡ map f (filter p xs) → cond t (f x ∷ filter q (map f xs)) (filter q (map f xs)) ≡ map f (cond t (x ∷ filter p xs) (filter p xs))
    by true e = ap (λ ys. f x ∷ ys) e
    by false e = e

pub any-map_ : {X Y : Type 0} (f : X → Y) (p : X → Bool) (q : Y → Bool) → ((x : X) → q (f x) ≡ p x) → (xs : List X) → list_any q (map f xs) ≡ list_any p xs
any-map_ f p q h [] = refl
any-map_ f p q h (x ∷ xs) = ap (λ t. t || list_any q (map f xs)) (h x) ∙ ap (λ t. p x || t) (any-map_ f p q h xs)

find-map_ : {X Y : Type 0} (f : X → Y) (p : X → Bool) (q : Y → Bool) → ((x : X) → q (f x) ≡ p x) → (xs : List X)
    → (find q (map f xs) ≡ None) × (find p xs ≡ None) ⊎ ((x : X) × (find p xs ≡ Some x) × (find q (map f xs) ≡ Some (f x)))
find-map_ f p q h [] = inl (refl, refl)
find-map_ f p q h (x ∷ xs) = by (p x) refl (find-map_ f p q h xs)
  where
    by : (t : Bool) → p x ≡ t
        → ((find q (map f xs) ≡ None) × (find p xs ≡ None) ⊎ ((y : _) × (find p xs ≡ Some y) × (find q (map f xs) ≡ Some (f y))))
        → (find q (map f (x ∷ xs)) ≡ None) × (find p (x ∷ xs) ≡ None)
        ⊎ ((y : _) × (find p (x ∷ xs) ≡ Some y) × (find q (map f (x ∷ xs)) ≡ Some (f y)))
    by true e rest = let there : q (f x) ≡ true = h x ∙ e in inr (x, rw e refl, rw there refl)
    by false e rest = let there : q (f x) ≡ false = h x ∙ e in rw (e, there) rest

module _ (db : Database) (s : Sheet) where
  abbrev t : Sheet
  t = unnumbered s

  steps_are : steps t ≡ map plain (steps s)
  steps_are = steps-plain s.items

  before_are : (i : ℕ) → hyps_before t i ≡ hyps_before s i
  before_are i =
      ap (λ xs. length (filter (λ (x : SheetStep). x.hyp) (take i xs))) steps_are ∙ ap (λ xs. length (filter (λ (x : SheetStep). x.hyp) xs)) (take-map plain i (steps s))
      ∙ ap (λ (xs : List SheetStep). length xs)
      (filter-map_ plain (λ (x : SheetStep). x.hyp) (λ (x : SheetStep). x.hyp) (λ x. refl) (take i (steps s)))
      ∙ length-map_ plain (filter (λ (x : SheetStep). x.hyp) (take i (steps s)))

  differ_are : (i : ℕ) (x : SheetStep) → hyps_differ db t i (plain x) ≡ hyps_differ db s i x
  differ_are i x =
      ap (λ (n : ℕ). (x.hyp && option_map_or (λ h. not (is_hyp db h x)) (slice_get (given_hyps db s) n) (is_some (existing db s)))
      || (is_qed x && (nat_lt n (length (given_hyps db s)) || option_map_or (λ (f : Frame). not (same_tokens x.formula (names_of db f.formula))) (existing db s) false))) (before_are i)

  taken_are : (i : ℕ) (x : SheetStep) → hyp_label_taken db t i (plain x) ≡ hyp_label_taken db s i x
  taken_are i x = ap (λ (n : ℕ). is_new db s && x.hyp && nat_le (length (given_hyps db s)) n && option_map_or (λ l. is_some (label_of db l) || bytes_eq l s.theorem) x.reference false) (before_are i)

  twice_are : (i : ℕ) (x : SheetStep) → hyp_label_twice t i (plain x) ≡ hyp_label_twice s i x
  twice_are i x = by x.reference
    where
      one : (l : Name) → list_any (λ (u : SheetStep). u.hyp && has_label u.reference l) (take i (steps t)) ≡ list_any (λ (u : SheetStep). u.hyp && has_label u.reference l) (take i (steps s))
      one l =
          ap (λ xs. list_any (λ (u : SheetStep). u.hyp && has_label u.reference l) (take i xs)) steps_are
          ∙ ap (list_any (λ (u : SheetStep). u.hyp && has_label u.reference l)) (take-map plain i (steps s))
          ∙ any-map_ plain (λ (u : SheetStep). u.hyp && has_label u.reference l) (λ (u : SheetStep). u.hyp && has_label u.reference l) (λ u. refl) (take i (steps s))

      by : (o : Option Name) → (x.hyp && option_map_or (λ l. list_any (λ (u : SheetStep). u.hyp && has_label u.reference l) (take i (steps t))) o false)
          ≡ (x.hyp && option_map_or (λ l. list_any (λ (u : SheetStep). u.hyp && has_label u.reference l) (take i (steps s))) o false)
      by None = refl
      by (Some l) = ap (λ b. x.hyp && b) (one l)

  -- ---- the rules

  abbrev SameRule : ℕ × (ℕ → SheetStep → Bool) → ℕ × (ℕ → SheetStep → Bool) → Type 0
  SameRule p q = (p.0 ≡ q.0) × ((i : ℕ) (x : SheetStep) → q.1 i (plain x) ≡ p.1 i x)

  same_rules : AllZip SameRule (step_rules db s) (step_rules db t)
  same_rules = (
    (refl, differ_are),
    ((refl, taken_are), ((refl, λ i x. refl), ((refl, λ i x. refl), ((refl, λ i x. refl), ((refl, λ i x. refl), ((refl, λ i x. refl), ((refl, twice_are), tt))))))),
  )

  abbrev SameHeader : ℕ × (Sheet → Bool) → ℕ × (Sheet → Bool) → Type 0
  SameHeader p q = (p.0 ≡ q.0) × (q.1 t ≡ p.1 s)

  same_header : AllZip SameHeader (header_rules db) (header_rules db)
  same_header = ((refl, refl), ((refl, refl), ((refl, refl), tt)))

  step_at : (i : ℕ) (x : SheetStep) → slice_get (steps s) i ≡ Some x → slice_get (steps t) i ≡ Some (plain x)
  step_at i x e = ap (λ xs. slice_get xs i) steps_are ∙ get_map plain (steps s) i x e

  step_from : (i : ℕ) (y : SheetStep) → slice_get (steps t) i ≡ Some y → (x : SheetStep) × (slice_get (steps s) i ≡ Some x) × (plain x ≡ y)
  step_from i y e = get_mapped plain (steps s) i y (ap (λ xs. slice_get xs i) (sym steps_are) ∙ e)

  header_there : (k code : ℕ) (rule : Sheet → Bool) → slice_get (header_rules db) k ≡ Some (code, rule) → rule s ≡ true → BindFaultAt db t t.line code
  header_there k code rule e h =
      let r = zip_right SameHeader (header_rules db) (header_rules db) same_header k (code, rule) e in
      subst (BindFaultAt db t t.line) (sym r.2.0) (BindFaultAt.at_header k {code = r.0.0} {rule = r.0.1} r.1 (r.2.1 ∙ h))

  header_back : (k code : ℕ) (rule : Sheet → Bool) → slice_get (header_rules db) k ≡ Some (code, rule) → rule t ≡ true → BindFaultAt db s s.line code
  header_back k code rule e h =
      let r = zip_left SameHeader (header_rules db) (header_rules db) same_header k (code, rule) e in
      subst (BindFaultAt db s s.line) r.2.0 (BindFaultAt.at_header k {code = r.0.0} {rule = r.0.1} r.1 (sym r.2.1 ∙ h))

  -- a fault of the one is a fault of the other, at another line
  pub fault_there : (line code : ℕ) → BindFaultAt db s line code → (l : ℕ) × BindFaultAt db t l code
  fault_there line code (BindFaultAt.at_header k {code = c} {rule = rule} e h) = (t.line, header_there k c rule e h)
  fault_there line code (BindFaultAt.at_step k i {code = c} {rule = rule} {t = x} e at h) =
      let r = zip_right SameRule (step_rules db s) (step_rules db t) same_rules k (c, rule) e in
      (0, subst (BindFaultAt db t 0) (sym r.2.0) (BindFaultAt.at_step k i {code = r.0.0} {rule = r.0.1} {t = plain x} r.1 (step_at i x at) (r.2.1 i x ∙ h)))
  fault_there line code (BindFaultAt.at_pairs i {p = p} at h) = (0, BindFaultAt.at_pairs i {p = unnumbered_pairs p} (get_map unnumbered_pairs s.pairs i p at) h)
  fault_there line code (BindFaultAt.no_tree i {t = x} at h n) = (0, BindFaultAt.no_tree i {t = plain x} (step_at i x at) h n)
  fault_there line code (BindFaultAt.two_trees i {t = x} at h n) = (0, BindFaultAt.two_trees i {t = plain x} (step_at i x at) h n)

  pub fault_back : (line code : ℕ) → BindFaultAt db t line code → (l : ℕ) × BindFaultAt db s l code
  fault_back line code (BindFaultAt.at_header k {code = c} {rule = rule} e h) = (s.line, header_back k c rule e h)
  fault_back line code (BindFaultAt.at_step k i {code = c} {rule = rule} {t = y} e at h) =
      let r = zip_left SameRule (step_rules db s) (step_rules db t) same_rules k (c, rule) e in
      let x = step_from i y at in
      (x.0.line, subst (BindFaultAt db s x.0.line) r.2.0 (BindFaultAt.at_step k i {code = r.0.0} {rule = r.0.1} {t = x.0} r.1 x.1 (sym (r.2.1 i x.0) ∙ ap (rule i) x.2 ∙ h)))
  fault_back line code (BindFaultAt.at_pairs i {p = q} at h) =
      let p = get_mapped unnumbered_pairs s.pairs i q at in
      (p.0.line, BindFaultAt.at_pairs i {p = p.0} p.1 (ap (not_variable db s) p.2 ∙ h))
  fault_back line code (BindFaultAt.no_tree i {t = y} at h n) =
      let x = step_from i y at in
      (x.0.line, BindFaultAt.no_tree i {t = x.0} x.1 (ap (asks_for_tree db s) x.2 ∙ h) (subst (λ f. HasNoTree db (place_of db s) f) (ap (λ (z : SheetStep). z.formula) (sym x.2)) n))
  fault_back line code (BindFaultAt.two_trees i {t = y} at h n) =
      let x = step_from i y at in
      (x.0.line, BindFaultAt.two_trees i {t = x.0} x.1 (ap (asks_for_tree db s) x.2 ∙ h) (subst (λ f. HasTwoTrees db (place_of db s) f) (ap (λ (z : SheetStep). z.formula) (sym x.2)) n))

  -- ---- what is bound

  abbrev Sound : Sheet → Type 0
  Sound x = (line code : ℕ) → BindFaultAt db x line code → ⊥

  zip_there : (place : ℕ) (ss : List SheetStep) (bs : List BoundStep) → AllZip (IsBoundStep db place) ss bs → AllZip (IsBoundStep db place) (map plain ss) bs
  zip_there place [] [] h = tt
  zip_there place [] (b ∷ bs) h = absurd h
  zip_there place (x ∷ ss) [] h = absurd h
  zip_there place (x ∷ ss) (b ∷ bs) h = let it = h.0 in (record { hyp = it.hyp; name = it.name; places = it.places; reference = it.reference; tree = it.tree }, zip_there place ss bs h.1)

  zip_back : (place : ℕ) (ss : List SheetStep) (bs : List BoundStep) → AllZip (IsBoundStep db place) (map plain ss) bs → AllZip (IsBoundStep db place) ss bs
  zip_back place [] [] h = tt
  zip_back place [] (b ∷ bs) h = absurd h
  zip_back place (x ∷ ss) [] h = absurd h
  zip_back place (x ∷ ss) (b ∷ bs) h = let it = h.0 in (record { hyp = it.hyp; name = it.name; places = it.places; reference = it.reference; tree = it.tree }, zip_back place ss bs h.1)

  pairs-same : (ps : List PairLine)
      → flat_map (λ (p : PairLine). two_of (filter_map (symbol_of db) p.names)) (map unnumbered_pairs ps)
      ≡ flat_map (λ (p : PairLine). two_of (filter_map (symbol_of db) p.names)) ps
  pairs-same [] = refl
  pairs-same (p ∷ ps) = ap (λ xs. two_of (filter_map (symbol_of db) p.names) ++ xs) (pairs-same ps)

  pairs_are : given_pairs db t ≡ given_pairs db s
  pairs_are = ap pair_set (pairs-same s.pairs)

  hyps_are : theorem_hyps db t ≡ theorem_hyps db s
  hyps_are =
      ap (λ xs. (db.active_at (place_of db s)).hyps ++ map (new_hyp db) (drop (length (given_hyps db s)) (filter (λ (x : SheetStep). x.hyp) xs))) steps_are
      ∙ ap (λ xs. (db.active_at (place_of db s)).hyps ++ map (new_hyp db) (drop (length (given_hyps db s)) xs))
      (filter-map_ plain (λ (x : SheetStep). x.hyp) (λ (x : SheetStep). x.hyp) (λ x. refl) (steps s))
      ∙ ap (λ xs. (db.active_at (place_of db s)).hyps ++ map (new_hyp db) xs) (drop-map plain (length (given_hyps db s)) (filter (λ (x : SheetStep). x.hyp) (steps s)))
      ∙ ap (λ xs. (db.active_at (place_of db s)).hyps ++ xs) (map-map (new_hyp db) plain (drop (length (given_hyps db s)) (filter (λ (x : SheetStep). x.hyp) (steps s))))

  qed_are : qed_formula db t ≡ qed_formula db s
  qed_are = ap (λ xs. option_map_or (λ (x : SheetStep). symbols_from db x.formula) (find is_qed xs) []) steps_are ∙ by (find-map_ plain is_qed is_qed (λ x. refl) (steps s))
    where
      by : (find is_qed (map plain (steps s)) ≡ None) × (find is_qed (steps s) ≡ None) ⊎ ((x : SheetStep) × (find is_qed (steps s) ≡ Some x) × (find is_qed (map plain (steps s)) ≡ Some (plain x)))
          → option_map_or (λ (x : SheetStep). symbols_from db x.formula) (find is_qed (map plain (steps s))) []
          ≡ option_map_or (λ (x : SheetStep). symbols_from db x.formula) (find is_qed (steps s)) []
      by (inl h) = let one = h.0 in let two = h.1 in rw (one, two) refl
      by (inr h) = let one = h.1 in let two = h.2 in rw (one, two) refl

  theorem_are : theorem_of db t ≡ theorem_of db s
  theorem_are = same_by (qed_formula db t) (qed_formula db s) qed_are (theorem_hyps db t) (theorem_hyps db s) hyps_are (given_pairs db t) (given_pairs db s) pairs_are
    where
      made : List Sym → List Hyp → List Pair → Theorem
      made f hs ps = record { at = place_of db s; formula = f; hyps = hs; mandatory = mandatory_of f hs; pairs = ps }

      same_by : (a b : List Sym) → a ≡ b → (c d : List Hyp) → c ≡ d → (e f : List Pair) → e ≡ f → made a c e ≡ made b d f
      same_by a b p c d q e f r = ap (λ x. made x c e) p ∙ ap (λ x. made b x e) q ∙ ap (λ x. made b d x) r

  pub binds_there : (bound : Bound) → Binds db s bound → Binds db t bound
  binds_there bound h = record {
    sound = λ line code f. let r = fault_back line code f in h.sound r.0 code r.1;
    place = h.place;
    existing = h.existing;
    steps = subst (λ xs. AllZip (IsBoundStep db (place_of db s)) xs bound.steps) (sym steps_are) (zip_there (place_of db s) (steps s) bound.steps h.steps);
    pairs = h.pairs ∙ sym pairs_are;
    theorem = h.theorem ∙ sym theorem_are;
  }

  pub binds_back : (bound : Bound) → Binds db t bound → Binds db s bound
  binds_back bound h = record {
    sound = λ line code f. let r = fault_there line code f in h.sound r.0 code r.1;
    place = h.place;
    existing = h.existing;
    steps = zip_back (place_of db s) (steps s) bound.steps (subst (λ xs. AllZip (IsBoundStep db (place_of db s)) xs bound.steps) steps_are h.steps);
    pairs = h.pairs ∙ pairs_are;
    theorem = h.theorem ∙ theorem_are;
  }

-- so what one sheet binds binds another that differs in the numbers of its lines alone
pub binds_same : (db : Database) (s t : Sheet) (bound : Bound) → unnumbered s ≡ unnumbered t → Binds db s bound → Binds db t bound
binds_same db s t bound e h = binds_back db t bound (subst (λ x. Binds db x bound) e (binds_there db s bound h))
