-- The first step with a property, among drafts and among the steps of the definitions.
use Rattle.std.specs.Prelude.{◌≡◌, ◌↔◌, ℕ, List, [], ◌∷◌, map, Contains, Option, Some, None, option_map, refl}
use Rattle.std.proofs.Common.{sym, ap, subst, ◌∙◌, inl, inr}
use Rattle.mm_base.specs.declared.kinds.Kinds.{Kinds}
use Rattle.mm_base.specs.declared.tree.Tree.{Tree}
use Rattle.mm_model.specs.Names.{Name}
use Rattle.mm_model.specs.Book.{Database}
use Rattle.mm_database.specs.Opened.{Opened, IsOpened}
use Rattle.solve_model.specs.Firsts.{IsFirstOrNone}
use Rattle.solve_model.specs.Formulas.{IsTreeOf, HasTwoTrees}
use Rattle.solve_laws.proofs.Elements.{nothing, first, later, parted}
use Rattle.written_model.specs.declared.options.Options.{Options}
use Rattle.written_model.specs.Opened.{IsOpened as IsOpenedBook}
use Rattle.written_model.specs.WrittenSteps.{WrittenStep, steps_in}
use Rattle.written_model.specs.Written.{Writing, Writes, IsAmbiguous, formula_tokens}
use Rattle.again_laws.specs.Second.{NumbersFit, WrittenTreesReadBack}
use Rattle.written_steps.specs.declared.draft.DraftStep.{DraftStep}
use Rattle.written_steps.specs.declared.draft.DraftItem.{DraftItem}
use Rattle.written_steps.specs.Drafts.{book, step_in, items_in, drafts_in}
use Rattle.written_steps.proofs.DraftLists.{steps_are}
use Rattle.sheet_writing.specs.Ambiguous.{HasTwo, IsOtherTree, HasTwoReadings, IsNameOfFirst, IsNamedFirst}

-- ---- the first, mapped

module _ {X Y : Type 0} (P : X → Type 0) (Q : Y → Type 0) (f : X → Y) where
  pub first_mapped : (xs : List X) (o : Option X) → ((x : X) → Contains xs x → P x ↔ Q (f x)) → IsFirstOrNone P xs o → IsFirstOrNone Q (map f xs) (option_map f o)
  first_mapped [] o same h = ap (option_map f) h
  first_mapped (x ∷ xs) o same (inl h) = inl (ap (option_map f) h.0, (same x (first x x xs refl)).0 h.1)
  first_mapped (x ∷ xs) o same (inr h) = inr ((λ q. h.0 ((same x (first x x xs refl)).1 q)), first_mapped xs o (λ y m. same y (later y x xs m)) h.1)

none_there : {X : Type 0} (Q : X → Type 0) (xs : List X) → IsFirstOrNone Q xs None → (x : X) → Contains xs x → Q x → ⊥
none_there Q [] h x m q = nothing x m
none_there Q (y ∷ xs) (inl h) x m q = let bad = h.0 in absurd (cc)
none_there Q (y ∷ xs) (inr h) x m q = elim (parted x y xs m) [ inl e ↦ h.0 (subst Q (sym e) q) | inr k ↦ none_there Q xs h.1 x k q ]

-- ---- two trees of a formula

module _ (db : Database) (place : ℕ) (t : Tree) (back : IsTreeOf db place (formula_tokens db t) t) where
  read : (u : Tree) → IsOtherTree db.rows place t u → IsTreeOf db place (formula_tokens db t) u
  read u h = record { code = h.code ∙ back.code; typed = h.typed; named = h.named; written = h.written ∙ back.written }

  own : (u : Tree) → IsTreeOf db place (formula_tokens db t) u → IsOtherTree db.rows place t u
  own u h = record { code = h.code ∙ sym back.code; typed = h.typed; named = h.named; written = h.written ∙ sym back.written }

  pub two_read : HasTwo (IsOtherTree db.rows place t) ↔ HasTwoTrees db place (formula_tokens db t)
  two_read = (
    (λ h. record { one = h.one; other = h.other; one_parses = read h.one h.one_holds; other_parses = read h.other h.other_holds; differ = h.differ }),
    (λ h. record { one = h.one; other = h.other; one_holds = own h.one h.one_parses; other_holds = own h.other h.other_parses; differ = h.differ }),
  )

-- ---- the answer

name_told : (Q : WrittenStep → Type 0) (d : Opened) (items : List DraftItem) (o : Option DraftStep) (name : Option Name) → name ≡ option_map (λ (s : DraftStep). s.name) o
    → IsFirstOrNone Q (steps_in (items_in d items)) (option_map (step_in d) o) → IsNameOfFirst Q (steps_in (items_in d items)) name
name_told Q d items None name is h = subst (IsNameOfFirst Q (steps_in (items_in d items))) (sym is) (none_there Q (steps_in (items_in d items)) h)
name_told Q d items (Some s) name is h = subst (IsNameOfFirst Q (steps_in (items_in d items))) (sym is) (step_in d s, h, refl)

module _ (kinds : Kinds) (text : List ℕ) (d : Opened) (opened : IsOpened kinds text d) where
  is_book : IsOpenedBook kinds (book kinds text d)
  is_book = record { text = text; sound = opened.no_fault; is_database = opened.database }

  module _ (law : (db : Database) (read : List ℕ) (options : Options) (w : Writing) → WrittenTreesReadBack db read options w)
      (read_text : List ℕ) (options : Options) (w : Writing) (same_kinds : options.kinds ≡ kinds) (writes : Writes (book kinds text d) read_text options w) (fit : NumbersFit w.names) where
    back : (e : WrittenStep) → Contains (steps_in w.items) e → IsTreeOf (book kinds text d) w.bound.place (formula_tokens (book kinds text d) e.tree) e.tree
    back = law (book kinds text d) read_text options w (subst (λ (k : Kinds). IsOpenedBook k (book kinds text d)) (sym same_kinds) is_book) writes fit

    both : (items : List DraftItem) → w.items ≡ items_in d items → (s : DraftStep) → Contains (map (step_in d) (drafts_in items)) (step_in d s)
        → HasTwoReadings d.rows w.bound.place s ↔ IsAmbiguous (book kinds text d) options w (step_in d s)
    both items same s m =
        two_read (book kinds text d) w.bound.place s.tree
        (back (step_in d s) (subst (λ xs. Contains xs (step_in d s)) (sym (ap steps_in same ∙ steps_are d items)) m))

    into_map : (ss : List DraftStep) (s : DraftStep) → Contains ss s → Contains (map (step_in d) ss) (step_in d s)
    into_map [] s m = absurd (nothing s m)
    into_map (t ∷ ss) s m = elim (parted s t ss m) [
      | inl e ↦ first (step_in d s) (step_in d t) (map (step_in d) ss) (ap (step_in d) e)
      | inr k ↦ later (step_in d s) (step_in d t) (map (step_in d) ss) (into_map ss s k)
    ]

    pub name_of_first : (items : List DraftItem) (name : Option Name) → w.items ≡ items_in d items → IsNamedFirst (HasTwoReadings d.rows w.bound.place) (drafts_in items) name
        → IsNameOfFirst (IsAmbiguous (book kinds text d) options w) (steps_in w.items) name
    name_of_first items name same h =
        let Q = IsAmbiguous (book kinds text d) options w in
        let mapped = first_mapped (HasTwoReadings d.rows w.bound.place) Q (step_in d) (drafts_in items) h.found (λ s m. both items same s (into_map (drafts_in items) s m)) h.is_first in
        let told = name_told Q d items h.found name h.is_named (subst (λ es. IsFirstOrNone Q es (option_map (step_in d) h.found)) (sym (steps_are d items)) mapped) in
        subst (λ xs. IsNameOfFirst Q (steps_in xs) name) (sym same) told
