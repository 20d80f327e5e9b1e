-- Steps among the steps before them: their names and places.
use Rattle.std.proofs.Common.{◌≡◌, ◌<◌, ℕ, suc, zero, Bool, true, false, not, ◌&&◌, ◌||◌, List, [], ◌∷◌, ◌++◌, length, map, get_or, Option, Some}
use Rattle.std.proofs.Common.{None, option_map, refl, sym, ap, ◌∙◌, arith, subst, inl, inr, append_assoc, codes, length-append, unwrap_or}
use Rattle.std.proofs.lemmas.Bool.{cases_Bool}
use Rattle.std.proofs.lemmas.Bool.Decides.{nat_tests}
use Rattle.std.specs.Prelude.{filter_map}
use Rattle.std.specs.List.{list_all, list_any, last_or, cons_option}
use Rattle.std.specs.Str.{bytes_eq}
use Rattle.mm_model.specs.Labels.{is_label}
use Rattle.mm_model.specs.Names.{contains, has_twice, first_number}
use Rattle.sheet_text.specs.declared.sheet.Given.{Given}
use Rattle.sheet_text.specs.declared.sheet.Given.TheVariants as given
use Rattle.sheet_text.specs.declared.sheet.SheetStep.{SheetStep}
use Rattle.sheet_text.specs.declared.sheet.SheetItem.{SheetItem}
use Rattle.sheet_text.specs.declared.sheet.SheetItem.TheVariants as item
use Rattle.sheet_text.specs.Forms.{is_gap, is_entry, entry_of}
use Rattle.sheet_text.specs.Layout.{place_text, step_of_item}
use Rattle.sheet_text.specs.Reads.{given_of}
use Rattle.sheet_text.specs.Spellable.{is_place_below, is_step_spellable, are_steps_spellable, is_comment_spellable, is_item_spellable}
use Rattle.sheet_laws.proofs.Tests.{and_left, and_right, both_true, both_false, or_left, or_right, cond_then, cond_else, bytes_eq_same, same_bytes, all_append}
use Rattle.sheet_laws.proofs.SplitLaws.{no_gap}
use Rattle.sheet_laws.proofs.FormLaws.{IsWritable}

-- ---- lists without a name twice

pub contains-append : (xs ys : List (List ℕ)) (q : List ℕ) → contains ys q ≡ true → contains (xs ++ ys) q ≡ true
contains-append [] ys q h = h
contains-append (x ∷ xs) ys q h =
    elim (cases_Bool (bytes_eq q x)) [ inl e ↦ rw e refl | inr e ↦ rw e (contains-append xs ys q h) ]

-- what stands in the second part does not stand in the first
pub apart : (xs ys : List (List ℕ)) (q : List ℕ) → has_twice (xs ++ ys) ≡ false → contains ys q ≡ true → contains xs q ≡ false
apart [] ys q h k = refl
apart (x ∷ xs) ys q h k =
    elim (cases_Bool (bytes_eq q x)) [
      | inl e ↦
          let f = same_bytes q x e in
          let a : contains (xs ++ ys) x ≡ true = subst (λ y. contains (xs ++ ys) y ≡ true) f (contains-append xs ys q k) in
          let b : contains (xs ++ ys) x ≡ false = or_left _ _ h in
          absurd (cc)
      | inr e ↦ both_false _ _ e (apart xs ys q (or_right _ _ h) k)
    ]

pub twice_front : (xs ys : List (List ℕ)) → has_twice (xs ++ ys) ≡ false → has_twice xs ≡ false
twice_front [] ys h = refl
twice_front (x ∷ xs) ys h =
    elim (cases_Bool (contains xs x)) [
      | inl e ↦ let a = found_front xs ys x e in let b : contains (xs ++ ys) x ≡ false = or_left _ _ h in absurd (cc)
      | inr e ↦ both_false _ _ e (twice_front xs ys (or_right _ _ h))
    ]
  where
    found_front : (xs ys : List (List ℕ)) (q : List ℕ) → contains xs q ≡ true → contains (xs ++ ys) q ≡ true
    found_front [] ys q h = absurd (cc)
    found_front (x ∷ xs) ys q h = elim (cases_Bool (bytes_eq q x)) [ inl e ↦ rw e refl | inr e ↦ rw e (found_front xs ys q (rw e at h)) ]

pub twice_back : (xs ys : List (List ℕ)) → has_twice (xs ++ ys) ≡ false → has_twice ys ≡ false
twice_back [] ys h = h
twice_back (x ∷ xs) ys h = twice_back xs ys (or_right _ _ h)

last_contained : (x : List ℕ) (xs : List (List ℕ)) (q : List ℕ) → last_or (Some x) xs ≡ Some q → contains (x ∷ xs) q ≡ true
last_contained x [] q h = let e : x ≡ q = cc in rw e (rw (bytes_eq_same q) refl)
last_contained x (y ∷ ys) q h = let k = last_contained y ys q h in elim (bytes_eq q x) as (λ b. (b || contains (y ∷ ys) q) ≡ true) [ true ↦ refl | false ↦ k ]

pub last_contains : (xs : List (List ℕ)) (q : List ℕ) → last_or None xs ≡ Some q → contains xs q ≡ true
last_contains [] q h = absurd (cc)
last_contains (x ∷ xs) q h = last_contained x xs q h

-- ---- a name by its number

pub here : (names : List (List ℕ)) (k : ℕ) → k < length names → contains names (get_or names k []) ≡ true
here [] k h = absurd (omega (arith, h))
here (n ∷ ns) zero h = rw (bytes_eq_same n) refl
here (n ∷ ns) (suc k) h =
    let ih = here ns k (omega (arith, h)) in
    elim (bytes_eq (get_or ns k []) n) as (λ b. (b || contains ns (get_or ns k [])) ≡ true) [ true ↦ refl | false ↦ ih ]

pub get_or-front : (xs ys : List (List ℕ)) (k : ℕ) → k < length xs → get_or (xs ++ ys) k [] ≡ get_or xs k []
get_or-front [] ys k h = absurd (omega (arith, h))
get_or-front (x ∷ xs) ys zero h = refl
get_or-front (x ∷ xs) ys (suc k) h = get_or-front xs ys k (omega (arith, h))

pub label_at : (names : List (List ℕ)) (k : ℕ) → list_all is_label names ≡ true → k < length names → is_label (get_or names k []) ≡ true
label_at [] k h l = absurd (omega (arith, l))
label_at (n ∷ ns) zero h l = and_left _ _ h
label_at (n ∷ ns) (suc k) h l = label_at ns k (and_right _ _ h) (omega (arith, l))

number_at : (names : List (List ℕ)) (k : ℕ) → has_twice names ≡ false → k < length names → first_number (bytes_eq (get_or names k [])) names ≡ Some k
number_at [] k h l = absurd (omega (arith, l))
number_at (n ∷ ns) zero h l = cond_then (bytes_eq n n) _ _ (bytes_eq_same n)
number_at (n ∷ ns) (suc k) h l =
    let less : k < length ns = omega (arith, l) in
    let other : bytes_eq (get_or ns k []) n ≡ false = (elim (cases_Bool (bytes_eq (get_or ns k []) n)) [
      | inl e ↦
          let f = same_bytes (get_or ns k []) n e in
          let a : contains ns n ≡ true = subst (λ y. contains ns y ≡ true) f (here ns k less) in
          let b : contains ns n ≡ false = or_left _ _ h in absurd (cc)
      | inr e ↦ e
    ]) in
    cond_else (bytes_eq (get_or ns k []) n) _ _ other ∙ ap (option_map suc) (number_at ns k (or_right _ _ h) less)

-- ---- places

-- a place among the first so many names
record IsRead (done : List (List ℕ)) (text : List ℕ) (place : Given) : Type 0 where
  entry : is_entry text ≡ true
  known : list_any (λ e. not (contains done e)) (cons_option (entry_of text) []) ≡ false
  given : given_of done (entry_of text) ≡ place

label_read : (done : List (List ℕ)) (k : ℕ) → list_all is_label done ≡ true → has_twice done ≡ false → k < length done → IsRead done (get_or done k []) (given.Step k)
label_read done k h t l =
    let label = label_at done k h l in
    let e : entry_of (get_or done k []) ≡ Some (get_or done k []) = cond_else (is_gap (get_or done k [])) _ _ (no_gap (get_or done k []) label) in
    record {
      entry = rw label (elim (is_gap (get_or done k [])) as (λ b. (b || true) ≡ true) [ true ↦ refl | false ↦ refl ]);
      known = ap (λ (o : Option (List ℕ)). list_any (λ n. not (contains done n)) (cons_option o [])) e ∙ both_false _ _ (rw (here done k l) refl) refl;
      given = ap (given_of done) e ∙ ap (λ (o : Option ℕ). given.Step (unwrap_or o 0)) (number_at done k t l);
    }

place_read : (done later : List (List ℕ)) (g : Given) → list_all is_label done ≡ true → has_twice done ≡ false → is_place_below (length done) g ≡ true → IsRead done (place_text (done ++ later) g) g
place_read done later given.Gap h t b = record { entry = refl; known = refl; given = refl }
place_read done later (given.Step k) h t b =
    let l : k < length done = grind (arith, nat_tests, b) in
    subst (λ x. IsRead done x (given.Step k)) (sym (get_or-front done later k l)) (label_read done k h t l)

any_cons : (p : List ℕ → Bool) (o : Option (List ℕ)) (xs : List (List ℕ)) → list_any p (cons_option o []) ≡ false → list_any p xs ≡ false → list_any p (cons_option o xs) ≡ false
any_cons p None xs h k = k
any_cons p (Some x) xs h k = both_false _ _ (or_left _ _ h) k

pub cons_same : {A : Type 0} (x y : A) (xs ys : List A) → x ≡ y → xs ≡ ys → x ∷ xs ≡ y ∷ ys
cons_same x y xs ys e f = cc

-- places that are written by names and read back
pub record AreRead (full done : List (List ℕ)) (places : List Given) : Type 0 where
  pub entries : list_all is_entry (map (place_text full) places) ≡ true
  pub known : list_any (λ e. not (contains done e)) (filter_map (λ (e : Option (List ℕ)). e) (map entry_of (map (place_text full) places))) ≡ false
  pub given : map (given_of done) (map entry_of (map (place_text full) places)) ≡ places

places_read : (done later : List (List ℕ)) (places : List Given) → list_all is_label done ≡ true → has_twice done ≡ false → list_all (is_place_below (length done)) places ≡ true
    → AreRead (done ++ later) done places
places_read done later [] h t b = record { entries = refl; known = refl; given = refl }
places_read done later (g ∷ gs) h t b =
    let one = place_read done later g h t (and_left _ _ b) in
    let more = places_read done later gs h t (and_right _ _ b) in
    record {
      entries = both_true _ _ one.entry more.entries;
      known =
          any_cons (λ e. not (contains done e)) (entry_of (place_text (done ++ later) g))
          (filter_map (λ (e : Option (List ℕ)). e) (map entry_of (map (place_text (done ++ later)) gs))) one.known more.known;
      given = cons_same _ _ _ _ one.given more.given;
    }

-- ---- a step, where the steps before it have these names

pub record IsStepAt (full done : List (List ℕ)) (s : SheetStep) : Type 0 where
  pub writable : IsWritable full s
  pub fresh : contains done s.name ≡ false
  pub no_qed : contains done (codes "qed") ≡ false
  pub qed : (bytes_eq s.name (codes "qed") && s.hyp) ≡ false
  pub read : AreRead full done s.places

abbrev pub names_in : List SheetStep → List (List ℕ)
names_in ss = map (λ (t : SheetStep). t.name) ss

abbrev pub hyps_in : List SheetStep → List Bool
hyps_in ss = map (λ (t : SheetStep). t.hyp) ss

qed_last : (s : SheetStep) (rest : List SheetStep) → has_twice (s.name ∷ names_in rest) ≡ false → last_or (Some s.name) (names_in rest) ≡ Some (codes "qed")
    → last_or (Some s.hyp) (hyps_in rest) ≡ Some false → (bytes_eq s.name (codes "qed") && s.hyp) ≡ false
qed_last s [] t l h = let e : s.hyp ≡ false = cc in rw e (elim (bytes_eq s.name (codes "qed")) as (λ b. (b && false) ≡ false) [ true ↦ refl | false ↦ refl ])
qed_last s (r ∷ rs) t l h =
    elim (cases_Bool (bytes_eq s.name (codes "qed"))) [
      | inl e ↦
          let f = same_bytes s.name (codes "qed") e in
          let a : contains (r.name ∷ names_in rs) (codes "qed") ≡ true = last_contained r.name (names_in rs) (codes "qed") l in
          let b : contains (r.name ∷ names_in rs) s.name ≡ false = or_left _ _ t in
          let c : contains (r.name ∷ names_in rs) (codes "qed") ≡ false = subst (λ y. contains (r.name ∷ names_in rs) y ≡ false) f b in
          absurd (cc)
      | inr e ↦ rw e refl
    ]

pub step-at : (done : List (List ℕ)) (s : SheetStep) (rest : List SheetStep) → list_all is_label done ≡ true → has_twice (done ++ s.name ∷ names_in rest) ≡ false
    → last_or (Some s.name) (names_in rest) ≡ Some (codes "qed") → last_or (Some s.hyp) (hyps_in rest) ≡ Some false → is_step_spellable (length done) s ≡ true
    → IsStepAt (done ++ s.name ∷ names_in rest) done s
step-at done s rest labels t l h k =
    let one = and_left _ _ k in let two = and_left _ _ one in let three = and_left _ _ two in
    let read = places_read done (s.name ∷ names_in rest) s.places labels (twice_front done (s.name ∷ names_in rest) t) (and_right _ _ two) in
    record {
      writable = record { name = and_left _ _ three; unmarked = and_right _ _ three; places = read.entries; reference = and_right _ _ one; formula = and_right _ _ k };
      fresh = apart done (s.name ∷ names_in rest) s.name t (rw (bytes_eq_same s.name) refl);
      no_qed = apart done (s.name ∷ names_in rest) (codes "qed") t (last_contained s.name (names_in rest) (codes "qed") l);
      qed = qed_last s rest (twice_back done (s.name ∷ names_in rest) t) l h;
      read = read;
    }

-- the comments and steps, where the steps before them have these names
abbrev pub AreItemsAt : List (List ℕ) → List (List ℕ) → List SheetItem → Type 0
AreItemsAt full done [] = Unit {0}
AreItemsAt full done (item.Comment lines ∷ items) = (is_comment_spellable lines ≡ true) × AreItemsAt full done items
AreItemsAt full done (item.Step s ∷ items) = IsStepAt full done s × AreItemsAt full (done ++ s.name ∷ []) items

abbrev pub steps_in : List SheetItem → List SheetStep
steps_in items = filter_map step_of_item items

pub items-at : (full done : List (List ℕ)) (n : ℕ) (o : Option (List ℕ)) (p : Option Bool) (items : List SheetItem) → n ≡ length done → full ≡ done ++ names_in (steps_in items)
    → list_all is_label done ≡ true → has_twice full ≡ false → last_or o (names_in (steps_in items)) ≡ Some (codes "qed") → last_or p (hyps_in (steps_in items)) ≡ Some false
    → are_steps_spellable n (steps_in items) ≡ true → list_all is_item_spellable items ≡ true → AreItemsAt full done items
items-at full done n o p [] len e labels t l h k i = tt
items-at full done n o p (item.Comment lines ∷ items) len e labels t l h k i =
    (and_left _ _ i, items-at full done n o p items len e labels t l h k (and_right _ _ i))
items-at full done n o p (item.Step s ∷ items) len e labels t l h k i =
    let rest = steps_in items in
    let here : is_step_spellable (length done) s ≡ true = subst (λ m. is_step_spellable m s ≡ true) len (and_left _ _ k) in
    let label : is_label s.name ≡ true = and_left _ _ (and_left _ _ (and_left _ _ (and_left _ _ here))) in
    let next : suc n ≡ length (done ++ s.name ∷ []) = omega (arith, len, length-append done (s.name ∷ [])) in
    let whole : full ≡ (done ++ s.name ∷ []) ++ names_in rest = e ∙ sym (append_assoc done (s.name ∷ []) (names_in rest)) in (
      subst (λ f. IsStepAt f done s) (sym e) (step-at done s rest labels (subst (λ f. has_twice f ≡ false) e t) l h here),
      items-at full (done ++ s.name ∷ []) (suc n) (Some s.name) (Some s.hyp) items next whole (all_append is_label done (s.name ∷ []) labels (both_true _ _ label refl)) t l h (and_right _ _ k) i,
    )
