-- The reference that was found is the first label that fits.
use Rattle.std.specs.Prelude.{◌≡◌, ◌++◌, ◌&&◌, nat_le, ℕ, Bool, true, false, List, [], ◌∷◌, length, map, flat_map, slice_get, if◌then◌else◌, Contains, Some, refl}
use Rattle.std.specs.List.{AllZip, range_with_len}
use Rattle.std.proofs.Common.{sym, ap, subst, ◌∙◌, inl, inr}
use Rattle.mm_base.specs.Limits.{most_ordered_places}
use Rattle.mm_base.specs.declared.symbols.Label.{Label}
use Rattle.mm_base.specs.declared.tree.Tree.{Tree}
use Rattle.mm_model.specs.Names.{label}
use Rattle.mm_model.specs.Book.{Database, label_name}
use Rattle.sheet_text.specs.declared.sheet.Given.{Given}
use Rattle.sheet_text.specs.declared.sheet.Given.TheVariants as given
use Rattle.solve_model.specs.Firsts.{orders, IsFirstOrNone}
use Rattle.solve_laws.proofs.Elements.{nothing, first, later, parted, only}
use Rattle.written_model.specs.declared.options.Options.{Options}
use Rattle.written_model.specs.declared.report.ReportVerdict.TheVariants as report
use Rattle.written_model.specs.Fitting.{FitsInSomeOrder, all_labels}
use Rattle.written_model.specs.Found.{Choice, Fits, IsFound, IsSearched, choices, search_orders, valued}
use Rattle.written_model.specs.WrittenSteps.{WrittenStep, WrittenItem, comment, step, steps_in, trees, place_tree}
use Rattle.written_model.specs.Written.{Writing, Writes, Answers, wrote, ItemIsSearched, after_naming}
use mathlib.Core.Path.{fun_ext}
use Rattle.again_laws.proofs.Orders.{first_stands, from_flat_map, order_long}
use Rattle.again_laws.proofs.Lists.{contains_mapped}
use Rattle.answer_laws.proofs.SearchStays.{trees_searched}
use Rattle.select_model.specs.Selected.{AreSelected, FoundIsTheFirst}
use Rattle.select_laws.proofs.AllOrders.{order_has, has_order}
use Rattle.select_laws.proofs.FirstLabel.{with_label, first_label}
use Rattle.select_laws.proofs.NotFoundBefore.{not_found_before}

-- ---- the orders of the places that were found

abbrev by_count : Bool → List Given → List (List Given)
by_count b places = if b then orders (length places) places else places ∷ []

abbrev is_ordered : List Given → Bool
is_ordered places = nat_le 2 (length places) && nat_le (length places) most_ordered_places

same_count : (b : Bool) (xs o : List Given) → Contains (by_count b xs) o → length o ≡ length xs
same_count true xs o m = order_long (length xs) xs o m
same_count false xs o m = ap length (sym (only o xs m))

has_by : (b : Bool) (xs o ys : List Given) → Contains (by_count b xs) o → Contains (by_count b xs) ys → Contains (by_count b o) ys
has_by true xs o ys m k = order_has xs o ys m k
has_by false xs o ys m k = first ys o [] (sym (only o xs m) ∙ only ys xs k)

by_has : (b : Bool) (xs o ys : List Given) → Contains (by_count b xs) o → Contains (by_count b o) ys → Contains (by_count b xs) ys
by_has true xs o ys m k = has_order xs o ys m k
by_has false xs o ys m k = first ys xs [] (only o xs m ∙ only ys o k)

abbrev with_count : List Given → ℕ → Bool
with_count places n = nat_le 2 n && nat_le n most_ordered_places

counted : (xs o : List Given) → Contains (by_count (is_ordered xs) xs) o → is_ordered o ≡ is_ordered xs
counted xs o m = ap (λ n. nat_le 2 n && nat_le n most_ordered_places) (same_count (is_ordered xs) xs o m)

there : (xs o ys : List Given) → Contains (by_count (is_ordered xs) xs) o → Contains (by_count (is_ordered xs) xs) ys → Contains (by_count (is_ordered o) o) ys
there xs o ys m k = subst (λ b. Contains (by_count b o) ys) (sym (counted xs o m)) (has_by (is_ordered xs) xs o ys m k)

back : (xs o ys : List Given) → Contains (by_count (is_ordered xs) xs) o → Contains (by_count (is_ordered o) o) ys → Contains (by_count (is_ordered xs) xs) ys
back xs o ys m k = by_has (is_ordered xs) xs o ys m (subst (λ b. Contains (by_count b o) ys) (counted xs o m) k)

-- ---- steps of the same trees

module _ (es fs : List WrittenStep) (same : trees es ≡ trees fs) where
  place_same : (g : Given) → place_tree es g ≡ place_tree fs g
  place_same given.Gap = refl
  place_same (given.Step k) = ap (λ ts. slice_get ts k) same

  pub places_same : place_tree es ≡ place_tree fs
  places_same = fun_ext place_same

labels_are : (ns : List ℕ) (os : List (List Given))
    → flat_map (λ n. map (λ places. let c : Choice = record { label = label n; places = places } in c) os) ns ≡ flat_map (λ l. map (with_label l) os) (map label ns)
labels_are [] os = refl
labels_are (n ∷ ns) os = ap (λ cs. map (with_label (label n)) os ++ cs) (labels_are ns os)

abbrev StartsWith : Database → WrittenStep → List Label → Type 0
StartsWith db e ls = (l : Label) × (more : List Label) × (ls ≡ l ∷ more) × (e.reference ≡ Some (label_name db l))

module _ (db : Database) (options : Options) (w : Writing) where
  abbrev ns : List WrittenStep
  ns = steps_in (after_naming db options w)

  abbrev es : List WrittenStep
  es = steps_in w.items

  abbrev IsFit : List WrittenStep → WrittenStep → Choice → Type 0
  IsFit ss e c = Fits db w.bound.place options.dv w.bound.pairs ss e c

  pub fits_moved : (ss ts : List WrittenStep) → trees ss ≡ trees ts → (e f : WrittenStep) → e.tree ≡ f.tree → (c : Choice) → IsFit ss e c → IsFit ts f c
  fits_moved ss ts same e f alike c (u, k) = (
    u,
    record {
      is_usable = k.is_usable;
      earlier = k.earlier;
      codes = k.codes;
      conclusion = k.conclusion ∙ alike;
      hyps = subst (λ p. AllZip (λ (h : Tree) (g : Given). p g ≡ Some (valued u h)) u.assertion.hyps c.places) (places_same ss ts same) k.hyps;
      no_clash = k.no_clash;
      no_lack = k.no_lack;
    },
  )

  -- the order that was found is one of the orders that were tried
  order_found : (e : WrittenStep) (c : Choice) → IsFound db w.bound.place options.dv w.bound.pairs ns e (Some c) → Contains (search_orders e) c.places
  order_found e c h =
      let stands = first_stands (IsFit ns e) (choices db e) c h in
      let r = from_flat_map (λ n. map (λ places. let d : Choice = record { label = label n; places = places } in d) (search_orders e)) (range_with_len 0 (length db.labels)) c stands.0 in
      let q = contains_mapped (λ places. let d : Choice = record { label = label r.0; places = places } in d) (search_orders e) c r.2 in
      subst (Contains (search_orders e)) (ap (λ (d : Choice). d.places) q.2) q.1

  module _ (same : trees ns ≡ trees es) (e f : WrittenStep) (c : Choice) (ls : List Label) (found : IsFound db w.bound.place options.dv w.bound.pairs ns e (Some c))
      (tree : e.tree ≡ f.tree) (places : f.places ≡ c.places) (those : AreSelected db options w f ls) where
    abbrev orders_found : Contains (search_orders e) f.places
    orders_found = subst (Contains (search_orders e)) (sym places) (order_found e c found)

    begins : (more : List Label) × (ls ≡ c.label ∷ more)
    begins =
        first_label (IsFit ns e) (FitsInSomeOrder db w.bound.place options.dv w.bound.pairs es f) (search_orders e)
        (λ l o m k. (o, there e.places f.places o orders_found m, fits_moved ns es same e f tree (with_label l o) k))
        (λ l n k. n k.0 (back e.places f.places k.0 orders_found k.1) (fits_moved es ns (sym same) f e (sym tree) (with_label l k.0) k.2))
        (all_labels db) c ls
        (subst (λ cs. IsFirstOrNone (IsFit ns e) cs (Some c)) (labels_are (range_with_len 0 (length db.labels)) (search_orders e)) found) those

  of_step : trees ns ≡ trees es → (e f : WrittenStep) → Contains ns e → IsSearched db w.bound.place options.dv w.bound.pairs ns e f → f.verdict ≡ report.Found
      → (ls : List Label) → AreSelected db options w f ls → StartsWith db f ls
  of_step same e f m (IsSearched.not_searched h) v ls k = absurd (not_found_before db options w e m v)
  of_step same e f m (IsSearched.none h i) v ls k = absurd (not_found_before db options w e m v)
  of_step same e f m (IsSearched.found {c = c} {u = u} h i j) v ls k =
      let r = begins same e (record e { reference = Some (label_name db c.label); places = c.places; verdict = report.Found; by = Some u }) c ls i refl refl k in
      (c.label, r.0, r.1, refl)

  -- the step that it was before the search
  record Before (is : List WrittenItem) (f : WrittenStep) : Type 0 where
    step_before : WrittenStep
    stands : Contains (steps_in is) step_before
    searched : IsSearched db w.bound.place options.dv w.bound.pairs ns step_before f

  before : (is js : List WrittenItem) → AllZip (ItemIsSearched db options w) is js → (f : WrittenStep) → Contains (steps_in js) f → Before is f
  before [] [] h f m = absurd (nothing f m)
  before [] (j ∷ js) h f m = absurd h
  before (i ∷ is) [] h f m = absurd h
  before (comment lines ∷ is) (j ∷ js) h f m =
      let r = before is js h.1 f (subst (λ x. Contains (steps_in (x ∷ js)) f) h.0 m) in record { step_before = r.step_before; stands = r.stands; searched = r.searched }
  before (step e ∷ is) (j ∷ js) h f m = elim (parted f h.0.0 (steps_in js) (subst (λ x. Contains (steps_in (x ∷ js)) f) h.0.1 m)) [
    | inl x ↦ record { step_before = e; stands = first e e (steps_in is) refl; searched = subst (IsSearched db w.bound.place options.dv w.bound.pairs ns e) x h.0.2 }
    | inr x ↦ let r = before is js h.1 f x in record { step_before = r.step_before; stands = later r.step_before e (steps_in is) r.stands; searched = r.searched }
  ]

of_writing : (db : Database) (options : Options) (sheet : List ℕ) (w : Writing) → Writes db sheet options w → (e : WrittenStep) (ls : List Label) → Contains (steps_in w.items) e
    → e.verdict ≡ report.Found → AreSelected db options w e ls → StartsWith db e ls
of_writing db options sheet w h e ls m v k =
    let b = before db options w (after_naming db options w) w.items h.searched e m in
    of_step db options w (trees_searched db options w (after_naming db options w) w.items h.searched) b.step_before e b.stands b.searched v ls k

pub of_answer : (db : Database) (options : Options) (sheet : List ℕ) (w : Writing) → Answers db sheet options (wrote w) → Writes db sheet options w
of_answer db options sheet w (Answers.written t h n) = h

pub found_is_first : FoundIsTheFirst
found_is_first db options sheet w e ls a m v k = of_writing db options sheet w (of_answer db options sheet w a) e ls m v k
