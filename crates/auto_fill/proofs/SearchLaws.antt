-- The first label that serves among some, and among two lists of labels.
use Rattle.std.proofs.Common.{◌≡◌, ℕ, ◌<◌, ◌≤◌, List, ◌++◌, length, take, get_or, Option, Some, None, sym, subst, arith}
use Rattle.std.specs.List.{AllByRecursion}
use Rattle.mm_base.specs.declared.symbols.Label.{Label}
use Rattle.mm_base.specs.declared.symbols.Pair.{Pair}
use Rattle.mm_model.specs.Book.{Database}
use Rattle.mm_database.specs.Opened.{Opened}
use Rattle.auto_model.specs.declared.auto.Auto.{Auto}
use Rattle.ref_search.specs.declared.wanted.Wanted.{Wanted}
use Rattle.ref_search.specs.Searching.{RiseFrom}
use Rattle.ref_search.proofs.Lists.{all_weaker}
use Rattle.ref_search.proofs.SearchLaws.{front_is_all}
use Rattle.auto_fill.specs.Labelling.{NoTuple, IsLabelFit, HasAuto, IsSound, IsAutoAt, IsFirstAmong, as_fit, last_found, upto}
use Rattle.auto_fill.proofs.TupleLaws.{all_both_lists}

module _ (db : Database) (given : Option (List Pair)) (w : Wanted) (places : List ℕ) where
  module _ (labels : List Label) (rise : RiseFrom 0 labels) (bound i : ℕ) (e : Label) (so_far : AllByRecursion (NoTuple db given w places) (take i labels)) where
    pub stopped : (i < length labels → bound ≤ (get_or labels i e).0) → IsFirstAmong db given w places labels bound None
    stopped h = record { before = front_is_all (NoTuple db given w places) bound 0 labels i e rise so_far h; found = tt }

    pub found_there : (a : Auto) → a.label ≡ get_or labels i e → a.label.0 < bound → IsLabelFit db given w places a.label (Some (as_fit a)) → IsFirstAmong db given w places labels bound (Some a)
    found_there a is below fits = record {
      before = front_is_all (NoTuple db given w places) a.label.0 0 labels i e rise so_far (λ h. subst (λ (l : Label). a.label.0 ≤ l.0) is (omega arith));
      found = record { below = below; fits = fits };
    }

  not_past : (bound : ℕ) (o : Option Auto) → HasAuto (IsAutoAt db given w places bound) o → upto bound o ≤ bound
  not_past bound None k = omega arith
  not_past bound (Some a) k = let below = k.below in omega (arith, below)

  -- what is first among some labels, and then among others below it, is first among all of them
  first_of_both : (xs ys : List Label) (bound : ℕ) (early late : Option Auto) → IsFirstAmong db given w places xs bound early → IsFirstAmong db given w places ys (upto bound early) late
      → IsFirstAmong db given w places (xs ++ ys) bound (last_found late early)
  first_of_both xs ys bound early None e l = record {
    before = all_both_lists (λ (l : Label). l.0 < upto bound early → NoTuple db given w places l) xs ys e.before l.before;
    found = e.found;
  }
  first_of_both xs ys bound early (Some a) e l =
      let below = l.found.below in
      let past = not_past bound early e.found in
      record {
        before = all_both_lists (λ (l : Label). l.0 < a.label.0 → NoTuple db given w places l) xs ys
            (all_weaker (λ (l : Label). l.0 < upto bound early → NoTuple db given w places l) (λ (l : Label). l.0 < a.label.0 → NoTuple db given w places l)
            (λ l k x. k (omega (arith, x, below))) xs e.before) l.before;
        found = record { below = omega (arith, below, past); fits = l.found.fits };
      }

  pub first_joined : (xs ys zs : List Label) (bound middle : ℕ) (early late o : Option Auto) → zs ≡ ys → middle ≡ upto bound early → o ≡ last_found late early
      → IsFirstAmong db given w places xs bound early → IsFirstAmong db given w places zs middle late → IsFirstAmong db given w places (xs ++ ys) bound o
  first_joined xs ys zs bound middle early late o same middle_is is e l =
      subst (λ q. IsFirstAmong db given w places (xs ++ ys) bound q) (sym is)
      (first_of_both xs ys bound early late e
      (subst (λ ls. IsFirstAmong db given w places ls (upto bound early) late) same (subst (λ u. IsFirstAmong db given w places zs u late) middle_is l)))

-- ---- what is found is sound

sound_past : (d : Opened) (bound : ℕ) (o : Option Auto) → HasAuto (IsSound d bound) o → upto bound o ≤ bound
sound_past d bound None k = omega arith
sound_past d bound (Some a) k = let below = k.below in omega (arith, below)

sound_of_both : (d : Opened) (bound : ℕ) (early late : Option Auto) → HasAuto (IsSound d bound) early → HasAuto (IsSound d (upto bound early)) late
    → HasAuto (IsSound d bound) (last_found late early)
sound_of_both d bound early None e l = e
sound_of_both d bound early (Some a) e l =
    let below = l.below in
    let past = sound_past d bound early e in
    record { below = omega (arith, below, past); by = l.by }

pub sound_joined : (d : Opened) (bound middle : ℕ) (early late o : Option Auto) → middle ≡ upto bound early → o ≡ last_found late early → HasAuto (IsSound d bound) early
    → HasAuto (IsSound d middle) late → HasAuto (IsSound d bound) o
sound_joined d bound middle early late o middle_is is e l =
    subst (HasAuto (IsSound d bound)) (sym is) (sound_of_both d bound early late e (subst (λ u. HasAuto (IsSound d u) late) middle_is l))
