-- A filled worksheet written again: nothing is made, named or found, and its end is decided.
use Rattle.std.specs.Prelude.{◌≡◌, ◌<◌, ◌++◌, ◌+◌, ◌&&◌, ◌↔◌, not, ℕ, suc, Bool, true, false, IsTrue, List, [], ◌∷◌, length, map, flat_map, slice_get, Contains, Some, None, refl}
use Rattle.std.specs.List.{AllZip, list_all}
use Rattle.std.specs.Option.{option_map_or}
use Rattle.std.proofs.Common.{sym, ap, subst, ◌∙◌, arith, inl, inr}
use Rattle.std.proofs.lemmas.List.{length-map}
use Rattle.mm_base.specs.declared.symbols.Label.{Label}
use Rattle.mm_base.specs.declared.symbols.Pair.{Pair}
use Rattle.mm_base.specs.declared.symbols.Typecode.{Typecode}
use Rattle.mm_base.specs.Trees.{code_of}
use Rattle.mm_model.specs.Productions.{TypedVariable}
use Rattle.mm_model.specs.Book.{Database, Assertion}
use Rattle.sheet_text.specs.declared.sheet.Given.{Given}
use Rattle.sheet_text.specs.declared.sheet.Given.TheVariants as given
use Rattle.solve_model.specs.declared.bound.Bound.{Bound}
use Rattle.solve_model.specs.declared.bound.BoundStep.{BoundStep}
use Rattle.solve_model.specs.Binding.{theorem_of}
use Rattle.written_model.specs.declared.options.DvMode.{DvMode}
use Rattle.written_model.specs.declared.options.DvMode.TheVariants as dv
use Rattle.written_model.specs.declared.options.Options.{Options}
use Rattle.written_model.specs.WrittenSteps.{Use, WrittenStep, WrittenItem, comment, step, steps_in, over_step, trees, place_tree}
use Rattle.written_model.specs.Pairs.{pairs_of, lack_of}
use Rattle.written_model.specs.Found.{is_ground, IsSearched}
use Rattle.written_model.specs.Named.{WorkVariable, is_in, works_in, read_works, not_seen, new_works, name_tree, IsWrittenLeaf, IsNaming}
use Rattle.written_model.specs.ProofTrees.{Finished}
use Rattle.written_model.specs.Written.{Writing, ItemIsSearched, after_filling, after_naming, bound_step, written_pairs}
use Rattle.written_model.specs.Again.{step_again, judgements_from, value_again}
use Rattle.again_laws.specs.Whole.{IsWhole}
use Rattle.again_laws.proofs.Lists.{get_mapped, zip_long}
use Rattle.answer_laws.proofs.Elements.{first, later}
use Rattle.answer_laws.proofs.Moved.{steps-over}
use Rattle.answer_laws.proofs.NamedAlike.{seen_one}
use Rattle.answer_laws.proofs.NothingMade.{no_names, all_stay, items_stay, nothing_filled}
use Rattle.answer_laws.proofs.SearchStays.{trees_again, step_stays, trees_searched}
use Rattle.answer_laws.proofs.Settled.{PlacesBelow, IsSettled, AreSettled}
use Rattle.answer_laws.proofs.ValuedAlike.{contained_is_in}
use Rattle.writing_laws.specs.Decisions.{Decided}
use Rattle.writing_laws.specs.HasEnd.{PlacesAreEarlier}
use Rattle.writing_laws.proofs.Ending.{settled_earlier, finished_decided}
use Rattle.auto_model.specs.AutoFilled.{filled_sheet}
use Rattle.auto_laws.proofs.Added.{AreGroundBefore, IsAdded}
use Rattle.auto_laws.proofs.SameFormulas.{with_steps}
use Rattle.auto_laws.proofs.UsedItems.{AreUsedFrom, all_added}

-- ---- all work variables are read

all_seen : (seen ws : List WorkVariable) → ((v : WorkVariable) → Contains ws v → is_in seen v ≡ true) → not_seen seen ws ≡ []
all_seen seen [] h = refl
all_seen seen (v ∷ ws) h = seen_one seen v ws (h v (first v v ws refl)) ∙ all_seen seen ws (λ x o. h x (later x v ws o))

read_again : (db : Database) (options : Options) (w : Writing) (es : List WrittenStep)
    → flat_map (λ (s : BoundStep). option_map_or (works_in db) s.tree []) (map (bound_step db options w) es) ≡ flat_map (works_in db) (trees es)
read_again db options w [] = refl
read_again db options w (e ∷ es) = ap (λ ws. works_in db e.tree ++ ws) (read_again db options w es)

pub lack_kept : (mode : DvMode) (allowed : List Pair) (es : List WrittenStep) (u : Use) → lack_of mode (pairs_of mode allowed es) u ≡ lack_of mode allowed u
lack_kept dv.Given allowed es u = refl
lack_kept dv.Add allowed es u = refl

module _ (db : Database) (options : Options) (w : Writing) (used : List WrittenItem) where
  abbrev es : List WrittenStep
  es = steps_in w.items

  abbrev fs : List WrittenStep
  fs = steps_in used

  abbrev pub filled_bound : Bound
  filled_bound = with_steps db options w fs (written_pairs db options w) (theorem_of db (filled_sheet db options w used))

  -- what the filled worksheet becomes
  abbrev pub filled_writing : Bool → Writing
  filled_writing b =
      record {
        read = filled_sheet db options w used;
        bound = filled_bound;
        judgements = judgements_from 0 fs;
        value = value_again fs;
        names = no_names;
        items = map (over_step step_again) used;
        finished = b;
      }

  pub steps_are : steps_in (map (over_step step_again) used) ≡ map step_again fs
  steps_are = steps-over step_again used

  -- ---- the steps are settled

  below_ground : (n : ℕ) (gs : List Given) → AreGroundBefore db w.bound.place options.dv w.bound.pairs es n gs → PlacesBelow n gs
  below_ground n [] h = tt
  below_ground n (given.Gap ∷ gs) h = absurd h
  below_ground n (given.Step k ∷ gs) h = (h.0, below_ground n gs h.2)

  module _ (whole : (l : Label) (a : Assertion) → db.usable l ≡ Some a → IsWhole a) where
    added_settled : (n : ℕ) (e f : WrittenStep) → IsAdded db w.bound.place options.dv w.bound.pairs es n e f → IsSettled n e → IsSettled n f
    added_settled n e _ IsAdded.stays h = h
    added_settled n e _ (IsAdded.added c u k) h =
        let count = zip_long _ u.assertion.hyps c.places k.fits.hyps in
        record {
          places = below_ground n c.places k.before;
          use_is = (
            omega (arith, count),
            sym (length-map u.values code_of) ∙ ap length k.fits.codes ∙ length-map u.assertion.vars (λ (v : TypedVariable). v.code),
            (whole c.label u.assertion k.fits.is_usable).differ,
            refl,
          );
        }

    items_settled : (n : ℕ) (items behind : List WrittenItem) → AreUsedFrom db options w n items behind → AreSettled n (steps_in items) → AreSettled n (steps_in behind)
    items_settled n [] behind h k = subst (λ is. AreSettled n (steps_in is)) (sym h) tt
    items_settled n (comment lines ∷ items) behind h k = subst (λ is. AreSettled n (steps_in is)) (sym h.1) (items_settled n items h.0 h.2 k)
    items_settled n (step e ∷ items) behind h k =
        subst (λ is. AreSettled n (steps_in is)) (sym h.2) (added_settled n e h.0 h.3 k.0, items_settled (suc n) items h.1 h.4 k.1)

    pub used_settled : AreUsedFrom db options w 0 w.items used → AreSettled 0 es → AreSettled 0 fs
    used_settled h k = items_settled 0 w.items used h k

  -- ---- nothing is filled or named

  module _ (settled : AreSettled 0 fs) (b : Bool) where
    abbrev W : Writing
    W = filled_writing b

    pub none_filled : after_filling db options W ≡ W.items
    none_filled = nothing_filled db options (record w { items = used }) settled

    pub none_named : after_naming db options W ≡ W.items
    none_named = items_stay (after_filling db options W) ∙ none_filled

    filled_trees : trees (steps_in (after_filling db options W)) ≡ trees fs
    filled_trees = ap (λ is. trees (steps_in is)) none_filled ∙ ap trees steps_are ∙ trees_again fs

    nothing_new : new_works db filled_bound (map (name_tree no_names) (trees fs)) ≡ []
    nothing_new =
        let read = read_works db filled_bound in
        let works : flat_map (works_in db) (map (name_tree no_names) (trees fs)) ≡ read = ap (flat_map (works_in db)) (all_stay (trees fs)) ∙ sym (read_again db options w fs) in
        ap (not_seen read) works ∙ all_seen read read (λ v o. contained_is_in read v o)

    named_nothing : ((c : Typecode) (n : ℕ) → IsWrittenLeaf (trees fs) c n → ⊥) → IsNaming db filled_bound (trees fs) no_names
    named_nothing free = record {
      named = λ c n o. absurd (free c n o);
      others = λ c n o. refl;
      once = λ c n m k e f. let bad : None ≡ Some k = e in absurd (cc);
      least = λ k x e. let bad : slice_get [] k ≡ Some x = subst (λ ws. slice_get ws k ≡ Some x) nothing_new e in absurd (cc);
    }

    pub naming : ((c : Typecode) (n : ℕ) → IsWrittenLeaf (trees fs) c n → ⊥) → IsNaming db W.bound (trees (steps_in (after_filling db options W))) W.names
    naming free = subst (λ ts. IsNaming db filled_bound ts no_names) (sym filled_trees) (named_nothing free)

    -- ---- nothing is found

    module _ (h : AreUsedFrom db options w 0 w.items used) (searched : AllZip (ItemIsSearched db options w) (after_naming db options w) w.items) where
      trees_kept : trees (steps_in (after_naming db options w)) ≡ trees (steps_in (after_naming db options W))
      trees_kept =
          trees_searched db options w (after_naming db options w) w.items searched ∙ (all_added db options w used h).same
          ∙ sym (ap (λ is. trees (steps_in is)) none_named ∙ ap trees steps_are ∙ trees_again fs)

      abbrev Stays : WrittenStep → Type 0
      Stays f = IsSearched db w.bound.place options.dv (written_pairs db options w) (steps_in (after_naming db options W)) (step_again f) (step_again f)

      -- what has a reference is not searched
      added_stays : (n : ℕ) (d e f : WrittenStep) → IsSearched db w.bound.place options.dv w.bound.pairs (steps_in (after_naming db options w)) d e
          → IsAdded db w.bound.place options.dv w.bound.pairs es n e f → Stays f
      added_stays n d e _ s IsAdded.stays =
          step_stays db w.bound.place options.dv w.bound.pairs (written_pairs db options w) (lack_kept options.dv w.bound.pairs es)
          (steps_in (after_naming db options w)) (steps_in (after_naming db options W)) trees_kept d e s
      added_stays n d e _ s (IsAdded.added c u k) =
          IsSearched.not_searched (ap (λ x. not x && false && is_ground e.tree && list_all (λ g. option_map_or is_ground (place_tree (steps_in (after_naming db options W)) g) false) c.places) k.not_hyp)

      all_searched : (n : ℕ) (is js behind : List WrittenItem) → AllZip (ItemIsSearched db options w) is js → AreUsedFrom db options w n js behind
          → AllZip (ItemIsSearched db options W) (map (over_step step_again) behind) (map (over_step step_again) behind)
      all_searched n [] [] behind s h = subst (λ xs. AllZip (ItemIsSearched db options W) (map (over_step step_again) xs) (map (over_step step_again) xs)) (sym h) tt
      all_searched n [] (j ∷ js) behind s h = absurd s
      all_searched n (i ∷ is) [] behind s h = absurd s
      all_searched n (comment lines ∷ is) (j ∷ js) behind s h =
          let here : AreUsedFrom db options w n (comment lines ∷ js) behind = subst (λ x. AreUsedFrom db options w n (x ∷ js) behind) s.0 h in
          subst (λ xs. AllZip (ItemIsSearched db options W) (map (over_step step_again) xs) (map (over_step step_again) xs)) (sym here.1)
          (refl, all_searched n is js here.0 s.1 here.2)
      all_searched n (step d ∷ is) (j ∷ js) behind s h =
          let e = s.0.0 in
          let here : AreUsedFrom db options w n (step e ∷ js) behind = subst (λ x. AreUsedFrom db options w n (x ∷ js) behind) s.0.1 h in
          subst (λ xs. AllZip (ItemIsSearched db options W) (map (over_step step_again) xs) (map (over_step step_again) xs)) (sym here.2)
          ((step_again here.0, refl, added_stays n d e here.0 s.0.2 here.3), all_searched (suc n) is js here.1 s.1 here.4)

      pub none_found : AllZip (ItemIsSearched db options W) (after_naming db options W) W.items
      none_found = subst (λ is. AllZip (ItemIsSearched db options W) is W.items) (sym none_named) (all_searched 0 (after_naming db options w) w.items used searched h)

  -- ---- the end

  earlier : AreSettled 0 fs → PlacesAreEarlier (map step_again fs)
  earlier settled j f k at o =
      let e = get_mapped step_again fs j f at in
      let less : k < 0 + j = settled_earlier 0 fs settled j e.0 k e.1 (subst (λ gs. Contains gs (given.Step k)) (ap (λ (x : WrittenStep). x.places) (sym e.2)) o) in
      omega (arith, less)

  ended : Decided (Finished options.dv (written_pairs db options w) (map step_again fs))
      → (b : Bool) × (IsTrue b ↔ Finished options.dv (written_pairs db options w) (steps_in (map (over_step step_again) used)))
  ended (inl f) = (true, ((λ t. subst (Finished options.dv (written_pairs db options w)) (sym steps_are) f), (λ g. refl)))
  ended (inr no_end) = (false, ((λ t. absurd (bad t)), (λ g. absurd (no_end (subst (Finished options.dv (written_pairs db options w)) steps_are g)))))
    where
      bad : IsTrue false → ⊥
      bad t = cc

  pub has_end : AreSettled 0 fs → (b : Bool) × (IsTrue b ↔ Finished options.dv (written_pairs db options w) (steps_in (map (over_step step_again) used)))
  has_end settled = ended (finished_decided (map step_again fs) (earlier settled) options.dv (written_pairs db options w))
