-- Two answers to one step of one worksheet are the same: the written steps of two writings are one but for the numbers of fresh leaves
-- in the values of variables.
use Rattle.std.specs.Prelude.{◌≡◌, ◌&&◌, not, ℕ, Bool, true, false, List, [], ◌∷◌, map, find, if◌then◌else◌, Contains, Option, Some, None, option_map, refl}
use Rattle.std.specs.List.{list_all}
use Rattle.std.specs.Option.{option_map_or}
use Rattle.std.specs.Str.{bytes_eq}
use Rattle.std.proofs.Common.{sym, ap, subst, ◌∙◌, inl, inr}
use Rattle.answer_laws.proofs.OneAnswer.{answers_one}
use Rattle.answer_laws.proofs.OneWriting.{same_parts}
use Rattle.answer_laws.proofs.PlainAssertions.{are_plain}
use Rattle.answer_laws.proofs.SameText.{SameParts, same_steps}
use Rattle.answer_laws.proofs.SearchedAlike.{bare_step}
use Rattle.mm_base.specs.declared.symbols.Label.{Label}
use Rattle.mm_model.specs.Book.{Database}
use Rattle.mm_model.specs.Names.{Name}
use Rattle.model_laws.specs.DatabaseLaws.{HasDatabaseFacts}
use Rattle.model_laws.specs.FrameLaws.{FramesHaveOwnExpressions, MandatoryVariablesStand}
use Rattle.select_laws.proofs.FoundFirst.{places_same, fits_moved, of_answer}
use Rattle.select_laws.specs.OneSelection.{SelectionsAreOne}
use Rattle.select_model.specs.Selected.{SelectAnswer, Selects, AreSelected, bad_sheet, fits, is_closed, step_named}
use Rattle.sheet_laws.specs.ReadAgain.{ReadsAsOne}
use Rattle.sheet_text.specs.declared.sheet.Given.{Given}
use Rattle.written_model.specs.declared.options.Options.{Options}
use Rattle.written_model.specs.Fitting.{AreThoseWith, FitsInSomeOrder, all_labels}
use Rattle.written_model.specs.Found.{Choice, Fits, is_ground, search_orders}
use Rattle.written_model.specs.WrittenAgain.{SameAnswer}
use Rattle.written_model.specs.WrittenSteps.{WrittenStep, steps_in, trees}
use Rattle.written_model.specs.Written.{Writing, Writes, Answer, Answers, wrote, refused}

-- the elements with one property are those with another that is the same of each
those_are_one : {X : Type 0} (P R : X → Type 0) → ((x : X) → P x → R x) → ((x : X) → R x → P x) → (xs found others : List X)
    → AreThoseWith P xs found → AreThoseWith R xs others → found ≡ others
those_are_one P R f g [] found others h k = h ∙ sym k
those_are_one P R f g (x ∷ xs) found others (inl h) (inl k) = h.1 ∙ ap (λ more. x ∷ more) (those_are_one P R f g xs h.0 k.0 h.3 k.3) ∙ sym k.1
those_are_one P R f g (x ∷ xs) found others (inl h) (inr k) = absurd (k.0 (f x h.2))
those_are_one P R f g (x ∷ xs) found others (inr h) (inl k) = absurd (h.0 (g x k.2))
those_are_one P R f g (x ∷ xs) found others (inr h) (inr k) = those_are_one P R f g xs found others h.1 k.1

-- ---- steps without the numbers of fresh leaves

bare_trees : (es : List WrittenStep) → trees (map bare_step es) ≡ trees es
bare_trees [] = refl
bare_trees (e ∷ es) = ap (λ ts. e.tree ∷ ts) (bare_trees es)

first_bare : (b : Bool) (e : WrittenStep) (o q : Option WrittenStep) → option_map bare_step o ≡ q
    → option_map bare_step (if b then Some e else o) ≡ (if b then Some (bare_step e) else q)
first_bare true e o q h = refl
first_bare false e o q h = h

abbrev named_in : List WrittenStep → Name → Option WrittenStep
named_in es name = find (λ (e : WrittenStep). bytes_eq e.name name) es

named_bare : (name : Name) (es : List WrittenStep) → option_map bare_step (named_in es name) ≡ named_in (map bare_step es) name
named_bare name [] = refl
named_bare name (e ∷ es) = first_bare (bytes_eq e.name name) e (named_in es name) (named_in (map bare_step es) name) (named_bare name es)

-- ---- two writings

module _ (db : Database) (options : Options) (w v : Writing) (place : w.bound.place ≡ v.bound.place) (pairs : w.bound.pairs ≡ v.bound.pairs)
    (same : trees (steps_in w.items) ≡ trees (steps_in v.items)) (e f : WrittenStep) where
  pub does_fit : e.tree ≡ f.tree → (c : Choice) → Fits db w.bound.place options.dv w.bound.pairs (steps_in w.items) e c
      → Fits db v.bound.place options.dv v.bound.pairs (steps_in v.items) f c
  does_fit tree c h =
      subst (λ p. Fits db p options.dv v.bound.pairs (steps_in v.items) f c) place
      (subst (λ ps. Fits db w.bound.place options.dv ps (steps_in v.items) f c) pairs
      (fits_moved db options w (steps_in w.items) (steps_in v.items) same e f tree c h))

  label_fits : bare_step e ≡ bare_step f → (l : Label) → FitsInSomeOrder db w.bound.place options.dv w.bound.pairs (steps_in w.items) e l
      → FitsInSomeOrder db v.bound.place options.dv v.bound.pairs (steps_in v.items) f l
  label_fits alike l (o, m, k) =
      (o, subst (λ (x : WrittenStep). Contains (search_orders x) o) alike m, does_fit (ap (λ (x : WrittenStep). x.tree) alike) (record { label = l; places = o }) k)

module _ (db : Database) (options : Options) (w v : Writing) (parts : SameParts w v) where
  pub trees_same : trees (steps_in w.items) ≡ trees (steps_in v.items)
  trees_same = sym (bare_trees (steps_in w.items)) ∙ ap trees (same_steps db options w v parts) ∙ bare_trees (steps_in v.items)

  pub found_same : (name : Name) (o q : Option WrittenStep) → step_named w name ≡ o → step_named v name ≡ q → option_map bare_step o ≡ option_map bare_step q
  found_same name o q h k =
      ap (option_map bare_step) (sym h) ∙ named_bare name (steps_in w.items) ∙ ap (λ es. named_in es name) (same_steps db options w v parts)
      ∙ sym (named_bare name (steps_in v.items)) ∙ ap (option_map bare_step) k

  pub alike_steps : (name : Name) (e f : WrittenStep) → step_named w name ≡ Some e → step_named v name ≡ Some f → bare_step e ≡ bare_step f
  alike_steps name e f h k = let both = found_same name (Some e) (Some f) h k in cc

  closed_same : (e f : WrittenStep) → bare_step e ≡ bare_step f → is_closed (steps_in w.items) e ≡ is_closed (steps_in v.items) f
  closed_same e f alike =
      ap (is_closed (steps_in w.items)) alike
      ∙ ap (λ p. not f.hyp && is_ground f.tree && list_all (λ (g : Given). option_map_or is_ground (p g) false) f.places)
      (places_same (steps_in w.items) (steps_in v.items) trees_same)

  labels_same : (e f : WrittenStep) → bare_step e ≡ bare_step f → (ls ms : List Label) → AreSelected db options w e ls → AreSelected db options v f ms → ls ≡ ms
  labels_same e f alike ls ms h k =
      those_are_one (FitsInSomeOrder db w.bound.place options.dv w.bound.pairs (steps_in w.items) e)
      (FitsInSomeOrder db v.bound.place options.dv v.bound.pairs (steps_in v.items) f)
      (label_fits db options w v parts.place parts.pairs trees_same e f alike)
      (label_fits db options v w (sym parts.place) (sym parts.pairs) (sym trees_same) f e (sym alike)) (all_labels db) ls ms h k

  unlike : (name : Name) (e f : WrittenStep) (b c : Bool) → step_named w name ≡ Some e → step_named v name ≡ Some f → is_closed (steps_in w.items) e ≡ b
      → is_closed (steps_in v.items) f ≡ c → b ≡ c
  unlike name e f b c h k g i = sym g ∙ closed_same e f (alike_steps name e f h k) ∙ i

-- ---- two answers

module _ (db : Database) (options : Options) (sheet : List ℕ) (one : (a b : Answer) → Answers db sheet options a → Answers db sheet options b → SameAnswer db options a b)
    (same_writings : (w v : Writing) → Writes db sheet options w → Writes db sheet options v → SameParts w v) (name : Name) where
  parts : (w v : Writing) → Answers db sheet options (wrote w) → Answers db sheet options (wrote v) → SameParts w v
  parts w v h k = same_writings w v (of_answer db options sheet w h) (of_answer db options sheet v k)

  one_selection : (a b : SelectAnswer) → Selects db options sheet name a → Selects db options sheet name b → a ≡ b
  one_selection a b (Selects.refuses {r = r} h) (Selects.refuses {r = q} k) = ap bad_sheet (one (refused r) (refused q) h k)
  one_selection a b (Selects.refuses {r = r} h) (Selects.is_not_there {w = v} k n) = absurd (one (refused r) (wrote v) h k)
  one_selection a b (Selects.refuses {r = r} h) (Selects.is_open {w = v} k n c) = absurd (one (refused r) (wrote v) h k)
  one_selection a b (Selects.refuses {r = r} h) (Selects.selects {w = v} k n c s) = absurd (one (refused r) (wrote v) h k)
  one_selection a b (Selects.is_not_there {w = w} h m) (Selects.refuses {r = q} k) = absurd (one (wrote w) (refused q) h k)
  one_selection a b (Selects.is_not_there h m) (Selects.is_not_there k n) = refl
  one_selection a b (Selects.is_not_there {w = w} h m) (Selects.is_open {w = v} {e = f} k n c) =
      let bad = found_same db options w v (parts w v h k) name None (Some f) m n in absurd (cc)
  one_selection a b (Selects.is_not_there {w = w} h m) (Selects.selects {w = v} {e = f} k n c s) =
      let bad = found_same db options w v (parts w v h k) name None (Some f) m n in absurd (cc)
  one_selection a b (Selects.is_open {w = w} h m d) (Selects.refuses {r = q} k) = absurd (one (wrote w) (refused q) h k)
  one_selection a b (Selects.is_open {w = w} {e = e} h m d) (Selects.is_not_there {w = v} k n) =
      let bad = found_same db options w v (parts w v h k) name (Some e) None m n in absurd (cc)
  one_selection a b (Selects.is_open h m d) (Selects.is_open k n c) = refl
  one_selection a b (Selects.is_open {w = w} {e = e} h m d) (Selects.selects {w = v} {e = f} k n c s) =
      let bad = unlike db options w v (parts w v h k) name e f false true m n d c in absurd (cc)
  one_selection a b (Selects.selects {w = w} h m d t) (Selects.refuses {r = q} k) = absurd (one (wrote w) (refused q) h k)
  one_selection a b (Selects.selects {w = w} {e = e} h m d t) (Selects.is_not_there {w = v} k n) =
      let bad = found_same db options w v (parts w v h k) name (Some e) None m n in absurd (cc)
  one_selection a b (Selects.selects {w = w} {e = e} h m d t) (Selects.is_open {w = v} {e = f} k n c) =
      let bad = unlike db options w v (parts w v h k) name e f true false m n d c in absurd (cc)
  one_selection a b (Selects.selects {w = w} {e = e} {ls = ls} h m d t) (Selects.selects {w = v} {e = f} {ls = ms} k n c s) =
      let same = parts w v h k in
      ap fits (labels_same db options w v same e f (alike_steps db options w v same name e f m n) ls ms t s)

pub selection_is_one : HasDatabaseFacts → MandatoryVariablesStand → FramesHaveOwnExpressions → ReadsAsOne → SelectionsAreOne
selection_is_one has standing owned reads_one db options sheet name a b opened h k =
    let facts = has options.kinds opened.text db opened.is_database opened.sound in
    let plain = are_plain options.kinds opened.text db opened.is_database opened.sound facts standing owned in
    one_selection db options sheet (λ x y. answers_one has standing owned reads_one db sheet options x y opened)
    (λ w v one two. same_parts db facts.grammar plain sheet options w v one two reads_one) name a b h k
