-- Nothing rests on the line numbers of a worksheet's steps.
use Rattle.std.specs.Prelude.{◌≡◌, ◌++◌, ◌+◌, ℕ, zero, suc, false, List, [], ◌∷◌, length, map, take, fold, flat_map, sum, nat_lt, if◌then◌else◌}
use Rattle.std.specs.Prelude.{slice_get, slice_index_or, Option, Some, None, refl}
use Rattle.std.specs.List.{AllByRecursion}
use Rattle.std.specs.Option.{option_map_or}
use Rattle.std.proofs.Common.{sym, ap, subst, ◌∙◌}
use Rattle.std.proofs.lemmas.List.{length-map}
use Rattle.mm_base.specs.declared.symbols.Label.{Label}
use Rattle.mm_base.specs.declared.tree.Tree.{Tree}
use Rattle.mm_model.specs.declared.frames.Frame.{Frame}
use Rattle.mm_model.specs.Names.{Name}
use Rattle.mm_model.specs.Sizes.{nodes}
use Rattle.mm_model.specs.Typed.{IsTyped}
use Rattle.mm_model.specs.Book.{Database, Assertion, label_of, position_of}
use Rattle.sheet_text.specs.declared.sheet.Given.{Given}
use Rattle.sheet_text.specs.declared.sheet.Given.TheVariants as given
use Rattle.sheet_text.specs.declared.sheet.SheetItem.{SheetItem}
use Rattle.sheet_text.specs.declared.sheet.SheetItem.TheVariants as item
use Rattle.solve_model.specs.declared.bound.Bound.{Bound}
use Rattle.solve_model.specs.declared.bound.BoundStep.{BoundStep}
use Rattle.solve_model.specs.declared.verdict.Verdict.TheVariants as verdict
use Rattle.solve_model.specs.Firsts.{IsFirstIn, IsLeast}
use Rattle.solve_model.specs.Trees.{Open, work, fresh}
use Rattle.solve_model.specs.Bound.{Standing, settled, candidate, standing_usable, standing_of_frame, standing_of_label, standing_of_reference, standing, standing_size, step_size, work_size}
use Rattle.solve_model.specs.Solutions.{Unknown, named, Valuation, IsUnknown, in_formula, is_blank, in_frame, Asked, IsValuation, PlacesFit, Solves}
use Rattle.solve_model.specs.Solutions.{Solvable, formula_value, formula, no_step, orders_of}
use Rattle.solve_model.specs.Verdicts.{Judgement, stands, accepted_in, FitsIn, IsJudgement, AreJudged}
use Rattle.solve_model.specs.MostGeneral.{IsLeastNamed, IsTheValuation}
use Rattle.written_model.specs.Filled.{Filling, fill, wanted_by, with_step, fill_item, filled_items}
use Rattle.written_model.specs.WrittenSteps.{WrittenStep, steps_in, trees}
use Rattle.written_model.specs.Named.{WorkVariable, work_variable, is_in, works_in, read_works, new_works, not_seen, Naming, name_tree, IsUnused, IsNaming}
use Rattle.answer_laws.proofs.SearchedAlike.{first_with}

abbrev pub unlined : BoundStep → BoundStep
unlined s = record s { line = 0 }

-- one place, and steps that differ in their line numbers alone
pub record SameBound (b c : Bound) : Type 0 where
  pub place : b.place ≡ c.place
  pub steps : map unlined b.steps ≡ map unlined c.steps

pub turned : (b c : Bound) → SameBound b c → SameBound c b
turned b c h = record { place = sym h.place; steps = sym h.steps }

-- ---- the step of a number

pub record SameStep (ss : List BoundStep) (i : ℕ) (s : BoundStep) : Type 0 where
  pub step : BoundStep
  pub stands : slice_get ss i ≡ Some step
  pub same : unlined s ≡ unlined step

step_there : (rs ss : List BoundStep) → map unlined rs ≡ map unlined ss → (i : ℕ) (s : BoundStep) → slice_get rs i ≡ Some s → SameStep ss i s
step_there [] ss h i s e = absurd (cc)
step_there (r ∷ rs) [] h i s e = absurd (cc)
step_there (r ∷ rs) (t ∷ ts) h zero s e =
    let same : unlined r ≡ unlined t = cc in
    let is : r ≡ s = cc in
    record { step = t; stands = refl; same = ap unlined (sym is) ∙ same }
step_there (r ∷ rs) (t ∷ ts) h (suc i) s e = let rest : map unlined rs ≡ map unlined ts = cc in let k = step_there rs ts rest i s e in record { step = k.step; stands = k.stands; same = k.same }

tree_there : (rs ss : List BoundStep) → map unlined rs ≡ map unlined ss → (i : ℕ) → (slice_index_or rs i no_step).tree ≡ (slice_index_or ss i no_step).tree
tree_there [] [] h i = refl
tree_there [] (t ∷ ts) h i = absurd (cc)
tree_there (r ∷ rs) [] h i = absurd (cc)
tree_there (r ∷ rs) (t ∷ ts) h zero = let same : unlined r ≡ unlined t = cc in ap (λ (s : BoundStep). s.tree) same
tree_there (r ∷ rs) (t ∷ ts) h (suc i) = let rest : map unlined rs ≡ map unlined ts = cc in tree_there rs ts rest i

-- ---- what stands of a step

module _ (db : Database) (place : ℕ) where
  usable_unlined : (s : BoundStep) (o : Option Assertion) → standing_usable (unlined s) o ≡ standing_usable s o
  usable_unlined s None = refl
  usable_unlined s (Some a) = refl

  frame_unlined : (s : BoundStep) (l : Label) (o : Option Frame) → standing_of_frame db place (unlined s) l o ≡ standing_of_frame db place s l o
  frame_unlined s l None = refl
  frame_unlined s l (Some f) = ap (λ x. if nat_lt (position_of db l) place then x else settled verdict.NotUsable) (usable_unlined s (db.usable l))

  label_unlined : (s : BoundStep) (o : Option Label) → standing_of_label db place (unlined s) o ≡ standing_of_label db place s o
  label_unlined s None = refl
  label_unlined s (Some l) = frame_unlined s l (db.frame l)

  reference_unlined : (s : BoundStep) (o : Option Name) → standing_of_reference db place (unlined s) o ≡ standing_of_reference db place s o
  reference_unlined s None = refl
  reference_unlined s (Some r) = label_unlined s (label_of db r)

  pub standing_unlined : (s : BoundStep) → standing db place (unlined s) ≡ standing db place s
  standing_unlined s = ap (λ x. if s.hyp then settled verdict.Hyp else x) (reference_unlined s s.reference)

  pub standing_same : (s t : BoundStep) → unlined s ≡ unlined t → standing db place s ≡ standing db place t
  standing_same s t e = sym (standing_unlined s) ∙ ap (standing db place) e ∙ standing_unlined t

  size_same : (ss : List BoundStep) → map (step_size db place) (map unlined ss) ≡ map (step_size db place) ss
  size_same [] = refl
  size_same (s ∷ ss) =
      ap (λ x. (option_map_or nodes s.tree 1 + standing_size x) ∷ map (step_size db place) (map unlined ss)) (standing_unlined s)
      ∙ ap (λ ns. step_size db place s ∷ ns) (size_same ss)

pub work_size_same : (db : Database) (b c : Bound) → SameBound b c → work_size db b ≡ work_size db c
work_size_same db b c h =
    ap sum (sym (size_same db b.place b.steps) ∙ ap (map (step_size db b.place)) h.steps ∙ size_same db b.place c.steps) ∙ ap (λ p. sum (map (step_size db p) c.steps)) h.place

works_unlined : (db : Database) (ss : List BoundStep)
    → flat_map (λ (s : BoundStep). option_map_or (works_in db) s.tree []) (map unlined ss)
    ≡ flat_map (λ (s : BoundStep). option_map_or (works_in db) s.tree []) ss
works_unlined db [] = refl
works_unlined db (s ∷ ss) = ap (λ ws. option_map_or (works_in db) s.tree [] ++ ws) (works_unlined db ss)

pub read_works_same : (db : Database) (b c : Bound) → SameBound b c → read_works db b ≡ read_works db c
read_works_same db b c h = sym (works_unlined db b.steps) ∙ ap (flat_map (λ (s : BoundStep). option_map_or (works_in db) s.tree [])) h.steps ∙ works_unlined db c.steps

-- ---- solutions

module _ (b c : Bound) (h : SameBound b c) where
  pub formula_same : (v : Valuation) (i : ℕ) → formula b v i ≡ formula c v i
  formula_same v i = ap (formula_value v i) (tree_there b.steps c.steps h.steps i)

  pub unknown_same : (solved : List Asked) (u : Unknown) → IsUnknown b solved u → IsUnknown c solved u
  unknown_same solved u (in_formula i s t e k o) = let r = step_there b.steps c.steps h.steps i s e in in_formula i r.step t r.stands (sym (ap (λ (x : BoundStep). x.tree) r.same) ∙ k) o
  unknown_same solved u (is_blank s {i} e k) = let r = step_there b.steps c.steps h.steps i s e in is_blank r.step r.stands (sym (ap (λ (x : BoundStep). x.tree) r.same) ∙ k)
  unknown_same solved u (in_frame x v o k) = in_frame x v o k

  places_same : (v : Valuation) (i : ℕ) (gs : List Given) (hs : List Tree) → PlacesFit b v i gs hs → PlacesFit c v i gs hs
  places_same v i [] hs k = k
  places_same v i (g ∷ gs) [] k = k
  places_same v i (given.Gap ∷ gs) (t ∷ ts) k = places_same v i gs ts k
  places_same v i (given.Step n ∷ gs) (t ∷ ts) k = (k.0 ∙ formula_same v n, places_same v i gs ts k.1)

  solves_same : (v : Valuation) (x : Asked) → Solves b v x → Solves c v x
  solves_same v x k = record { conclusion = k.conclusion ∙ formula_same v x.step; places = places_same v x.step x.places x.assertion.hyps k.places }

  pub all_solve : (v : Valuation) (xs : List Asked) → AllByRecursion (Solves b v) xs → AllByRecursion (Solves c v) xs
  all_solve v [] k = tt
  all_solve v (x ∷ xs) k = (solves_same v x k.0, all_solve v xs k.1)

pub valuation_same : (db : Database) (b c : Bound) → SameBound b c → (solved : List Asked) (v : Valuation)
    → IsValuation db b.place (IsUnknown b solved) v → IsValuation db c.place (IsUnknown c solved) v
valuation_same db b c h solved v k = record {
  code = λ u on. k.code u (unknown_same c b (turned b c h) solved u on);
  typed = λ u on. subst (λ p. IsTyped db.rows p (v u)) h.place (k.typed u (unknown_same c b (turned b c h) solved u on));
}

solvable_same : (db : Database) (b c : Bound) → SameBound b c → (asked : List Asked) → Solvable db b asked → Solvable db c asked
solvable_same db b c h asked s = record { value = s.value; is_valuation = valuation_same db b c h asked s.value s.is_valuation; solves = all_solve b c h s.value asked s.solves }

-- ---- judgements

module _ (db : Database) (b c : Bound) (h : SameBound b c) where
  none_fits : (before : List Asked) (i : ℕ) (a : Assertion) (os : List (List Given)) → AllByRecursion (λ ps. FitsIn db b before i a ps → ⊥) os
      → AllByRecursion (λ ps. FitsIn db c before i a ps → ⊥) os
  none_fits before i a [] k = tt
  none_fits before i a (o ∷ os) k = ((λ s. k.0 (solvable_same db c b (turned b c h) _ s)), none_fits before i a os k.1)

  judgement_same : (before : List Asked) (i : ℕ) (s t : BoundStep) → unlined s ≡ unlined t → (st : Standing) (o : Judgement) → IsJudgement db b before i s st o → IsJudgement db c before i t st o
  judgement_same before i s t e (settled v) o IsJudgement.other = IsJudgement.other
  judgement_same before i s t e (candidate a) o (IsJudgement.fits {places = ps} f) =
      IsJudgement.fits (subst (λ (x : BoundStep). IsFirstIn (FitsIn db c before i a) (orders_of x a) ps) e
      (first_with (FitsIn db b before i a) (FitsIn db c before i a) (λ q k. solvable_same db b c h _ k) (λ q k. solvable_same db c b (turned b c h) _ k) (orders_of s a) (Some ps) f))
  judgement_same before i s t e (candidate a) o (IsJudgement.no_fit f) =
      IsJudgement.no_fit (subst (λ (x : BoundStep). AllByRecursion (λ ps. FitsIn db c before i a ps → ⊥) (orders_of x a)) e (none_fits before i a (orders_of s a) f))

  pub judged_same : (js : List Judgement) → AreJudged db b js → AreJudged db c js
  judged_same js k = record {
    count = k.count ∙ sym (length-map b.steps unlined) ∙ ap length h.steps ∙ length-map c.steps unlined;
    each = λ i t o e q.
        let r = step_there c.steps b.steps (sym h.steps) i t e in
        let j = k.each i r.step o r.stands q in
        let moved = judgement_same (accepted_in (take i js)) i r.step t (sym r.same) (standing db b.place r.step) o j in
        subst (λ st. IsJudgement db c (accepted_in (take i js)) i t st o) (standing_same db b.place r.step t (sym r.same) ∙ ap (λ p. standing db p t) h.place) moved;
  }

  least_named : (solved : List Asked) (v : Valuation) (x : Open) → IsLeastNamed (IsUnknown b solved) v x → IsLeastNamed (IsUnknown c solved) v x
  least_named solved v (work d m) k = (unknown_same b c h solved (named d m) k.0, k.1, λ n on e. k.2 n (unknown_same c b (turned b c h) solved (named d n) on) e)
  least_named solved v (fresh d m) k = λ n on e. k n (unknown_same c b (turned b c h) solved (named d n) on) e

  pub the_valuation_same : (solved : List Asked) (v : Valuation) → IsTheValuation db b solved v → IsTheValuation db c solved v
  the_valuation_same solved v k = record {
    most_general = record {
      is_valuation = valuation_same db b c h solved v k.most_general.is_valuation;
      solves = all_solve b c h v solved k.most_general.solves;
      general = λ u is s.
          let i = k.most_general.general u (valuation_same db c b (turned b c h) solved u is) (all_solve c b (turned b c h) u solved s) in
          record { by = i.by; same = λ x on. i.same x (unknown_same c b (turned b c h) solved x on) };
    };
    canonical = λ u x on o.
        let n = k.canonical u x (unknown_same c b (turned b c h) solved u on) o in
        record { holder = n.holder; is_unknown = unknown_same b c h solved n.holder n.is_unknown; holds = n.holds; named_least = least_named solved v x n.named_least };
  }

-- ---- what is filled, and what is named

module _ (names : List Name) (b c : Bound) (h : SameBound b c) (v : Valuation) (js : List Judgement) where
  one_filled : (f : Filling) (i : SheetItem) → fill_item names b v js f i ≡ fill_item names c v js f i
  one_filled f (item.Comment lines) = refl
  one_filled f (item.Step s) =
      let o = slice_index_or js (length f.numbers) (stands verdict.NoRef) in
      ap (λ t. with_step (names ++ map (λ (e : WrittenStep). e.name) (steps_in f.items)) s t v o f (fill (trees (steps_in f.items)) (wanted_by v o))) (formula_same b c h v (length f.numbers))

  all_filled : (is : List SheetItem) (f : Filling) → fold (fill_item names b v js) f is ≡ fold (fill_item names c v js) f is
  all_filled [] f = refl
  all_filled (i ∷ is) f = ap (λ x. fold (fill_item names b v js) x is) (one_filled f i) ∙ all_filled is (fill_item names c v js f i)

  pub filled_same : (is : List SheetItem) → filled_items names b v js is ≡ filled_items names c v js is
  filled_same is = ap (λ (f : Filling). f.items) (all_filled is (record { items = []; numbers = [] }))

least_with : (P R : ℕ → Type 0) → ((n : ℕ) → P n → R n) → ((n : ℕ) → R n → P n) → (n : ℕ) → IsLeast P n → IsLeast R n
least_with P R f g n k = record { from_one = k.from_one; holds = f n k.holds; least = λ m l r. k.least m l (g m r) }

module _ (db : Database) (b c : Bound) (h : SameBound b c) where
  unused_same : (taken : List WorkVariable) (w : WorkVariable) → IsUnused db b taken w → IsUnused db c taken w
  unused_same taken w k = record { not_read = subst (λ ws. is_in ws w ≡ false) (read_works_same db b c h) k.not_read; not_declared = k.not_declared; not_taken = k.not_taken }

module _ (db : Database) (b c : Bound) (h : SameBound b c) where
  pub naming_same : (ts : List Tree) (names : Naming) → IsNaming db b ts names → IsNaming db c ts names
  naming_same ts names k =
      let same : new_works db b (map (name_tree names) ts) ≡ new_works db c (map (name_tree names) ts) =
      ap (λ ws. not_seen ws (flat_map (works_in db) (map (name_tree names) ts))) (read_works_same db b c h) in
      record {
        named = λ d n w. let x = k.named d n w in (x.0, x.1, subst (λ ws. is_in ws (work_variable d x.0) ≡ false) (read_works_same db b c h) x.2);
        others = k.others;
        once = k.once;
        least = λ i w e.
            let mine = k.least i w (subst (λ ws. slice_get ws i ≡ Some w) (sym same) e) in
            let moved = subst (λ ws. IsLeast (λ n. IsUnused db b (take i ws) (work_variable w.code n)) w.number) same mine in
            least_with (λ n. IsUnused db b (take i (new_works db c (map (name_tree names) ts))) (work_variable w.code n))
            (λ n. IsUnused db c (take i (new_works db c (map (name_tree names) ts))) (work_variable w.code n))
            (λ n u. unused_same db b c h _ _ u) (λ n u. unused_same db c b (turned b c h) _ _ u) w.number moved;
      }
