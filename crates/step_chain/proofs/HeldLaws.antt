-- A step more, and the first steps alone.
use Rattle.std.specs.Prelude.{◌≡◌, ℕ, ◌<◌, ◌≤◌, ◌+◌, ◌^◌, List, [], ◌∷◌, ◌++◌, length, take, slice_get, Option, Some, None, refl}
use Rattle.std.specs.Option.{option_map_or}
use Rattle.std.proofs.Common.{zero, suc, sym, ap, subst, ◌∙◌, arith, inl, inr}
use Rattle.std.proofs.lemmas.Bool.{cases_lt}
use Rattle.std.proofs.lemmas.List.{length-append, length_push, length-take, take-append-le}
use Rattle.std.proofs.Math.Seq.{take-length}
use Rattle.mm_base.specs.declared.symbols.Typecode.{Typecode}
use Rattle.mm_database.specs.Opened.{Opened}
use Rattle.solve_model.specs.declared.bound.Bound.{Bound}
use Rattle.term_model.specs.declared.shape.Id.{Id}
use Rattle.term_model.specs.Terms.{Term}
use Rattle.term_model.specs.Links.{Link}
use Rattle.term_model.specs.Store.{Store}
use Rattle.chain_laws.specs.declared.leaves.WorkNode.{WorkNode}
use Rattle.step_chain.specs.declared.judged.Judged.{Judged}
use Rattle.step_chain.specs.declared.judged.Judged.TheVariants.{Stands, Fits}
use Rattle.step_chain.specs.declared.judged.Pushed.{Pushed}
use Rattle.step_chain.specs.Steps.{ArePlaced}
use Rattle.step_chain.specs.Levels.{IsKeptIn, IsUsedIf, IsFront}
use Rattle.step_chain.specs.Accepted.{IsNext}
use Rattle.step_chain.specs.Held.{Held, nodes_before, links_before, front_of, IsHeld}
use Rattle.step_chain.proofs.AddingLaws.{works_in_more, ids_in_more, variables_in_more}
use Rattle.step_chain.proofs.Lists.{get_front, get_seam, all_take, all_join, all_weaker}

-- ---- lists

module _ {X : Type 0} where
  pub get_none : (xs : List X) (k : ℕ) → length xs ≤ k → slice_get xs k ≡ None
  get_none [] k h = refl
  get_none (x ∷ xs) zero h = absurd (omega (arith, h))
  get_none (x ∷ xs) (suc k) h = get_none xs k (omega (arith, h))

  get_take : (xs : List X) (j k : ℕ) → j < k → slice_get (take k xs) j ≡ slice_get xs j
  get_take xs j zero h = absurd (omega (arith, h))
  get_take [] j (suc k) h = refl
  get_take (x ∷ xs) zero (suc k) h = refl
  get_take (x ∷ xs) (suc j) (suc k) h = get_take xs j k (omega (arith, h))

  take_take : (xs : List X) (j k : ℕ) → j ≤ k → take j (take k xs) ≡ take j xs
  take_take xs zero k h = refl
  take_take xs (suc j) zero h = absurd (omega (arith, h))
  take_take [] (suc j) (suc k) h = refl
  take_take (x ∷ xs) (suc j) (suc k) h = ap (λ (ys : List X). x ∷ ys) (take_take xs j k (omega (arith, h)))

  pub take_past : (xs : List X) (k : ℕ) → length xs ≤ k → take k xs ≡ xs
  take_past [] zero h = refl
  take_past [] (suc k) h = refl
  take_past (x ∷ xs) zero h = absurd (omega (arith, h))
  take_past (x ∷ xs) (suc k) h = ap (λ (ys : List X). x ∷ ys) (take_past xs k (omega (arith, h)))

  pub take_length : (xs : List X) (k : ℕ) → k ≤ length xs → length (take k xs) ≡ k
  take_length xs zero h = refl
  take_length [] (suc k) h = absurd (omega (arith, h))
  take_length (x ∷ xs) (suc k) h = let rest = take_length xs k (omega (arith, h)) in omega (arith, rest)

-- a mark of each step, and one behind the last
module _ (of : Pushed → ℕ) where
  abbrev mark_at : List Pushed → ℕ → ℕ → ℕ
  mark_at steps last k = option_map_or of (slice_get steps k) last

  pub behind : (steps : List Pushed) (last k : ℕ) → length steps ≤ k → mark_at steps last k ≡ last
  behind steps last k h = ap (λ (o : Option Pushed). option_map_or of o last) (get_none steps k h)

  -- with a step more, whose mark is the old end
  at_pushed : (steps : List Pushed) (p : Pushed) (old new k : ℕ) → of p ≡ old → k ≤ length steps → mark_at (steps ++ p ∷ []) new k ≡ mark_at steps old k
  at_pushed steps p old new k e h = elim (cases_lt k (length steps)) [
    | inl below ↦ by_some (slice_get (steps ++ p ∷ []) k) (slice_get steps k) (get_front steps (p ∷ []) k below) (within steps k below)
    | inr past ↦
        let same : k ≡ length steps = omega (arith, h, past) in
        ap (mark_at (steps ++ p ∷ []) new) same ∙ ap (λ (o : Option Pushed). option_map_or of o new) (get_seam steps p) ∙ e ∙ sym (behind steps old k past)
  ]
    where
      within : (xs : List Pushed) (k : ℕ) → k < length xs → (x : Pushed) × (slice_get xs k ≡ Some x)
      within [] k h = absurd (omega (arith, h))
      within (x ∷ xs) zero h = (x, refl)
      within (x ∷ xs) (suc k) h = within xs k (omega (arith, h))

      by_some : (a b : Option Pushed) → a ≡ b → (x : Pushed) × (b ≡ Some x) → option_map_or of a new ≡ option_map_or of b old
      by_some a b same is = ap (λ (o : Option Pushed). option_map_or of o new) (same ∙ is.1) ∙ sym (ap (λ (o : Option Pushed). option_map_or of o old) is.1)

  rise_pushed : (steps : List Pushed) (p : Pushed) (old new : ℕ) → of p ≡ old → old ≤ new
      → ((j k : ℕ) → j ≤ k → mark_at steps old j ≤ mark_at steps old k) → (j k : ℕ) → j ≤ k
      → mark_at (steps ++ p ∷ []) new j ≤ mark_at (steps ++ p ∷ []) new k
  rise_pushed steps p old new e more rise j k h = elim (cases_lt (length steps) j) [
    | inl past ↦
        let long = length_push steps p in
        let one = behind (steps ++ p ∷ []) new j (omega (arith, past, long)) in
        let two = behind (steps ++ p ∷ []) new k (omega (arith, past, long, h)) in
        omega (arith, one, two)
    | inr before ↦ elim (cases_lt (length steps) k) [
      | inl past ↦
          let long = length_push steps p in
          let one = at_pushed steps p old new j e before in
          let two = behind (steps ++ p ∷ []) new k (omega (arith, past, long)) in
          let last = behind steps old (length steps) (omega arith) in
          let below = rise j (length steps) before in
          omega (arith, one, two, last, below, more)
      | inr first ↦
          let one = at_pushed steps p old new j e before in
          let two = at_pushed steps p old new k e first in
          let below = rise j k h in
          omega (arith, one, two, below)
    ]
  ]

  -- of the first steps alone, where the end is the mark of the next
  at_front : (steps : List Pushed) (last k j : ℕ) → j ≤ k → mark_at (take k steps) (mark_at steps last k) j ≡ mark_at steps last j
  at_front steps last k j h = elim (cases_lt j k) [
    | inl below ↦ elim (cases_lt j (length steps)) [
      | inl inside ↦ by_some (slice_get (take k steps) j) (slice_get steps j) (get_take steps j k below) (within steps j inside)
      | inr past ↦
          let none = get_none steps j past in
          ap (λ (o : Option Pushed). option_map_or of o (mark_at steps last k)) (get_take steps j k below ∙ none) ∙ behind steps last k (omega (arith, past, below)) ∙ sym (behind steps last j past)
    ]
    | inr past ↦
        let same : j ≡ k = omega (arith, h, past) in
        let short : length (take k steps) ≤ j = short_take steps k j past in
        behind (take k steps) (mark_at steps last k) j short ∙ ap (mark_at steps last) (sym same)
  ]
    where
      within : (xs : List Pushed) (k : ℕ) → k < length xs → (x : Pushed) × (slice_get xs k ≡ Some x)
      within [] k h = absurd (omega (arith, h))
      within (x ∷ xs) zero h = (x, refl)
      within (x ∷ xs) (suc k) h = within xs k (omega (arith, h))

      by_some : (a b : Option Pushed) → a ≡ b → (x : Pushed) × (b ≡ Some x) → option_map_or of a (mark_at steps last k) ≡ option_map_or of b last
      by_some a b same is = ap (λ (o : Option Pushed). option_map_or of o (mark_at steps last k)) (same ∙ is.1) ∙ sym (ap (λ (o : Option Pushed). option_map_or of o last) is.1)

      short_take : (xs : List Pushed) (k j : ℕ) → k ≤ j → length (take k xs) ≤ j
      short_take xs zero j h = omega arith
      short_take [] (suc k) j h = omega arith
      short_take (x ∷ xs) (suc k) zero h = absurd (omega (arith, h))
      short_take (x ∷ xs) (suc k) (suc j) h = let rest = short_take xs k j (omega (arith, h)) in omega (arith, rest)

  at_front_past : (steps : List Pushed) (last k j : ℕ) → k ≤ j → mark_at (take k steps) (mark_at steps last k) j ≡ mark_at steps last k
  at_front_past steps last k j h = behind (take k steps) (mark_at steps last k) j (short steps k j h)
    where
      short : (xs : List Pushed) (k j : ℕ) → k ≤ j → length (take k xs) ≤ j
      short xs zero j h = omega arith
      short [] (suc k) j h = omega arith
      short (x ∷ xs) (suc k) zero h = absurd (omega (arith, h))
      short (x ∷ xs) (suc k) (suc j) h = let rest = short xs k j (omega (arith, h)) in omega (arith, rest)

  rise_front : (steps : List Pushed) (last k : ℕ) → ((i j : ℕ) → i ≤ j → mark_at steps last i ≤ mark_at steps last j) → (i j : ℕ) → i ≤ j
      → mark_at (take k steps) (mark_at steps last k) i ≤ mark_at (take k steps) (mark_at steps last k) j
  rise_front steps last k rise i j h = elim (cases_lt k i) [
    | inl past ↦
        let one = at_front_past steps last k i (omega (arith, past)) in
        let two = at_front_past steps last k j (omega (arith, past, h)) in
        omega (arith, one, two)
    | inr before ↦ elim (cases_lt k j) [
      | inl past ↦
          let one = at_front steps last k i before in
          let two = at_front_past steps last k j (omega (arith, past)) in
          let below = rise i k before in
          omega (arith, one, two, below)
      | inr first ↦
          let one = at_front steps last k i before in
          let two = at_front steps last k j first in
          let below = rise i j h in
          omega (arith, one, two, below)
    ]
  ]

-- ---- the fronts

module _ (d : Opened) (logic : Typecode) (bound : Bound) (works : List WorkNode) (formulas : List Id) where
  abbrev pub held : List Pushed → List Term → List Link → Held
  held steps nodes links = record { book = d; logic = logic; bound = bound; nodes = nodes; links = links; works = works; formulas = formulas; steps = steps }

  abbrev Front : List Pushed → List Term → List Link → Type 0
  Front steps nodes links = IsFront d logic bound works formulas steps nodes links

  front_same : (s s' : List Pushed) (n n' : List Term) (l l' : List Link) → s ≡ s' → n ≡ n' → l ≡ l' → Front s n l → Front s' n' l'
  front_same s s' n n' l l' e f g h = subst (λ (x : List Pushed). Front x n' l') e (subst (λ (x : List Term). Front s x l') f (subst (λ (x : List Link). Front s n x) g h))

  -- behind the last stands the whole
  pub whole : (steps : List Pushed) (nodes : List Term) (links : List Link) → IsHeld (held steps nodes links) → Front steps nodes links
  whole steps nodes links h =
      let n = length steps in
      let none : slice_get steps (length steps) ≡ None = get_none steps (length steps) (omega arith) in
      front_same (take n steps) steps (take (nodes_before steps nodes n) nodes) nodes (take (links_before steps links n) links) links
      (take-length steps) (ap (λ (o : Option Pushed). take (option_map_or (λ (p : Pushed). p.mark.nodes) o (length nodes)) nodes) none ∙ take-length nodes)
      (ap (λ (o : Option Pushed). take (option_map_or (λ (p : Pushed). p.mark.trail) o (length links)) links) none ∙ take-length links) (h.fronts (length steps))

  -- the first steps alone
  module _ (steps : List Pushed) (nodes : List Term) (links : List Link) (k : ℕ) (h : IsHeld (held steps nodes links)) where
    shorter : (a b c : ℕ) → a ≤ b → b ≤ c → a ≤ c
    shorter a b c x y = omega (arith, x, y)

    take_short : (xs : List Pushed) (k : ℕ) → length (take k xs) ≤ length xs
    take_short xs zero = omega arith
    take_short [] (suc k) = omega arith
    take_short (x ∷ xs) (suc k) = let rest = take_short xs k in omega (arith, rest)

    last_nodes : nodes_before steps nodes k ≤ length nodes
    last_nodes = let rise = h.nodes_rise k (k + length steps) (omega arith) in
        let end = behind (λ (p : Pushed). p.mark.nodes) steps (length nodes) (k + length steps) (omega arith) in omega (arith, rise, end)

    last_links : links_before steps links k ≤ length links
    last_links = let rise = h.links_rise k (k + length steps) (omega arith) in
        let end = behind (λ (p : Pushed). p.mark.trail) steps (length links) (k + length steps) (omega arith) in omega (arith, rise, end)

    nodes_end : length (take (nodes_before steps nodes k) nodes) ≡ nodes_before steps nodes k
    nodes_end = take_length nodes (nodes_before steps nodes k) last_nodes

    links_end : length (take (links_before steps links k) links) ≡ links_before steps links k
    links_end = take_length links (links_before steps links k) last_links

    abbrev first_steps : List Pushed
    first_steps = take k steps

    abbrev first_nodes : List Term
    first_nodes = take (nodes_before steps nodes k) nodes

    abbrev first_links : List Link
    first_links = take (links_before steps links k) links

    front_first : (j : ℕ) → j ≤ k → Front (take j first_steps) (take (nodes_before first_steps first_nodes j) first_nodes) (take (links_before first_steps first_links j) first_links)
    front_first j first =
        let n : nodes_before first_steps first_nodes j ≡ nodes_before steps nodes j =
        ap (λ (m : ℕ). option_map_or (λ (p : Pushed). p.mark.nodes) (slice_get first_steps j) m) nodes_end
        ∙ at_front (λ (p : Pushed). p.mark.nodes) steps (length nodes) k j first in
        let l : links_before first_steps first_links j ≡ links_before steps links j =
        ap (λ (m : ℕ). option_map_or (λ (p : Pushed). p.mark.trail) (slice_get first_steps j) m) links_end
        ∙ at_front (λ (p : Pushed). p.mark.trail) steps (length links) k j first in
        front_same (take j steps) (take j first_steps) (take (nodes_before steps nodes j) nodes)
        (take (nodes_before first_steps first_nodes j) first_nodes) (take (links_before steps links j) links)
        (take (links_before first_steps first_links j) first_links)
        (sym (take_take steps j k first))
        (sym (ap (λ (m : ℕ). take m first_nodes) n ∙ take_take nodes (nodes_before steps nodes j) (nodes_before steps nodes k) (h.nodes_rise j k first)))
        (sym (ap (λ (m : ℕ). take m first_links) l ∙ take_take links (links_before steps links j) (links_before steps links k) (h.links_rise j k first)))
        (h.fronts j)

    front_past : (j : ℕ) → k < j → Front (take j first_steps) (take (nodes_before first_steps first_nodes j) first_nodes) (take (links_before first_steps first_links j) first_links)
    front_past j past =
        let n : nodes_before first_steps first_nodes j ≡ nodes_before steps nodes k =
        ap (λ (m : ℕ). option_map_or (λ (p : Pushed). p.mark.nodes) (slice_get first_steps j) m) nodes_end
        ∙ at_front_past (λ (p : Pushed). p.mark.nodes) steps (length nodes) k j (omega (arith, past)) in
        let l : links_before first_steps first_links j ≡ links_before steps links k =
        ap (λ (m : ℕ). option_map_or (λ (p : Pushed). p.mark.trail) (slice_get first_steps j) m) links_end
        ∙ at_front_past (λ (p : Pushed). p.mark.trail) steps (length links) k j (omega (arith, past)) in
        front_same first_steps (take j first_steps) first_nodes (take (nodes_before first_steps first_nodes j) first_nodes) first_links (take (links_before first_steps first_links j) first_links)
        (sym (take_past first_steps j (shorter (length first_steps) k j (short_at steps k) (omega (arith, past)))))
        (sym (ap (λ (m : ℕ). take m first_nodes) n ∙ take_take nodes (nodes_before steps nodes k) (nodes_before steps nodes k) (omega arith)))
        (sym (ap (λ (m : ℕ). take m first_links) l ∙ take_take links (links_before steps links k) (links_before steps links k) (omega arith)))
        (h.fronts k)
      where
        short_at : (xs : List Pushed) (k : ℕ) → length (take k xs) ≤ k
        short_at xs zero = omega arith
        short_at [] (suc k) = omega arith
        short_at (x ∷ xs) (suc k) = let rest = short_at xs k in omega (arith, rest)

    pub front_held : IsHeld (front_of (held steps nodes links) k)
    front_held = record {
      placed = h.placed;
      few = h.few;
      count = h.count;
      used = all_take (λ (q : Pushed). IsUsedIf d q.judged) k steps h.used;
      pushed = let one = h.pushed in let two = length-take k steps in shorter (length (take k steps)) (length steps) (length bound.steps) (take_short steps k) one;
      nodes_rise = λ i j below.
          let e = nodes_end in
          let one = rise_front (λ (p : Pushed). p.mark.nodes) steps (length nodes) k h.nodes_rise i j below in
          subst (λ (n : ℕ). option_map_or (λ (p : Pushed). p.mark.nodes) (slice_get (take k steps) i) n ≤ option_map_or (λ (p : Pushed). p.mark.nodes) (slice_get (take k steps) j) n) (sym e) one;
      links_rise = λ i j below.
          let e = links_end in
          let one = rise_front (λ (p : Pushed). p.mark.trail) steps (length links) k h.links_rise i j below in
          subst (λ (n : ℕ). option_map_or (λ (p : Pushed). p.mark.trail) (slice_get (take k steps) i) n ≤ option_map_or (λ (p : Pushed). p.mark.trail) (slice_get (take k steps) j) n) (sym e) one;
      fronts = λ j. elim (cases_lt k j) [ inl past ↦ front_past j past | inr first ↦ front_first j first ];
    }

  -- a step more
  module _ (steps : List Pushed) (p : Pushed) (old new : Store) (h : IsHeld (held steps old.nodes old.links))
      (nodes_mark : p.mark.nodes ≡ length old.nodes) (links_mark : p.mark.trail ≡ length old.links)
      (next : IsNext d bound formulas (length steps) old new p.judged) where
    more_nodes : length old.nodes ≤ length new.nodes
    more_nodes = let e : length new.nodes ≡ length (old.nodes ++ next.extended.more) = ap length next.extended.nodes in let long = length-append old.nodes next.extended.more in omega (arith, e, long)

    more_links : length old.links ≤ length new.links
    more_links = let e : length new.links ≡ length (old.links ++ next.extended.more_links) = ap length next.extended.links in
        let long = length-append old.links next.extended.more_links in omega (arith, e, long)

    last : Front steps old.nodes old.links
    last = whole steps old.nodes old.links h

    kept_more : (n m : ℕ) → n ≤ m → (j : Judged) → IsKeptIn n j → IsKeptIn m j
    kept_more n m below (Stands v) k = tt
    kept_more n m below (Fits x) k = (ids_in_more n m x.hyps below k.0, variables_in_more n m x.variables below k.1)

    new_front : Front (steps ++ p ∷ []) new.nodes new.links
    new_front = record {
      store = next.store;
      solved = next.solved;
      works_in = works_in_more (length old.nodes) (length new.nodes) works more_nodes last.works_in;
      formulas_in = ids_in_more (length old.nodes) (length new.nodes) formulas more_nodes last.formulas_in;
      kept_in = all_join (λ (q : Pushed). IsKeptIn (length new.nodes) q.judged) steps (p ∷ [])
          (all_weaker (λ (q : Pushed). IsKeptIn (length old.nodes) q.judged) (λ (q : Pushed). IsKeptIn (length new.nodes) q.judged)
          (λ q k. kept_more (length old.nodes) (length new.nodes) more_nodes q.judged k) steps last.kept_in)
          (next.kept_in, tt);
      level = λ kinds text sheet opened binds code. next.level kinds text sheet opened binds works steps p refl refl (last.level kinds text sheet opened binds code);
    }

    abbrev more_steps : List Pushed
    more_steps = steps ++ p ∷ []

    front_old : (j : ℕ) → j ≤ length steps → Front (take j more_steps) (take (nodes_before more_steps new.nodes j) new.nodes) (take (links_before more_steps new.links j) new.links)
    front_old j first =
        let n : nodes_before more_steps new.nodes j ≡ nodes_before steps old.nodes j = at_pushed (λ (q : Pushed). q.mark.nodes) steps p (length old.nodes) (length new.nodes) j nodes_mark first in
        let l : links_before more_steps new.links j ≡ links_before steps old.links j = at_pushed (λ (q : Pushed). q.mark.trail) steps p (length old.links) (length new.links) j links_mark first in
        let below_n : nodes_before steps old.nodes j ≤ length old.nodes = let rise = h.nodes_rise j (length steps) first in
        let end = behind (λ (q : Pushed). q.mark.nodes) steps (length old.nodes) (length steps) (omega arith) in omega (arith, rise, end) in
        let below_l : links_before steps old.links j ≤ length old.links = let rise = h.links_rise j (length steps) first in
        let end = behind (λ (q : Pushed). q.mark.trail) steps (length old.links) (length steps) (omega arith) in omega (arith, rise, end) in
        front_same (take j steps) (take j more_steps) (take (nodes_before steps old.nodes j) old.nodes)
        (take (nodes_before more_steps new.nodes j) new.nodes) (take (links_before steps old.links j) old.links)
        (take (links_before more_steps new.links j) new.links)
        (sym (take-append-le j steps (p ∷ []) first))
        (sym
        (ap (λ (m : ℕ). take m new.nodes) n ∙ ap (take (nodes_before steps old.nodes j)) next.extended.nodes
        ∙ take-append-le (nodes_before steps old.nodes j) old.nodes next.extended.more below_n))
        (sym
        (ap (λ (m : ℕ). take m new.links) l ∙ ap (take (links_before steps old.links j)) next.extended.links
        ∙ take-append-le (links_before steps old.links j) old.links next.extended.more_links below_l))
        (h.fronts j)

    front_new : (j : ℕ) → length steps < j → Front (take j more_steps) (take (nodes_before more_steps new.nodes j) new.nodes) (take (links_before more_steps new.links j) new.links)
    front_new j past =
        let long = length_push steps p in
        let n : nodes_before more_steps new.nodes j ≡ length new.nodes = behind (λ (q : Pushed). q.mark.nodes) more_steps (length new.nodes) j (omega (arith, past, long)) in
        let l : links_before more_steps new.links j ≡ length new.links = behind (λ (q : Pushed). q.mark.trail) more_steps (length new.links) j (omega (arith, past, long)) in
        front_same more_steps (take j more_steps) new.nodes (take (nodes_before more_steps new.nodes j) new.nodes) new.links (take (links_before more_steps new.links j) new.links)
        (sym (take_past more_steps j (omega (arith, past, long))))
        (sym (ap (λ (m : ℕ). take m new.nodes) n ∙ take-length new.nodes))
        (sym (ap (λ (m : ℕ). take m new.links) l ∙ take-length new.links)) new_front

    pub push_held : length steps < length bound.steps → IsHeld (held (steps ++ p ∷ []) new.nodes new.links)
    push_held room = record {
      placed = h.placed;
      few = h.few;
      count = h.count;
      pushed = let long = length_push steps p in omega (arith, long, room);
      used = all_join (λ (q : Pushed). IsUsedIf d q.judged) steps (p ∷ []) h.used (next.used, tt);
      nodes_rise = rise_pushed (λ (q : Pushed). q.mark.nodes) steps p (length old.nodes) (length new.nodes) nodes_mark more_nodes h.nodes_rise;
      links_rise = rise_pushed (λ (q : Pushed). q.mark.trail) steps p (length old.links) (length new.links) links_mark more_links h.links_rise;
      fronts = λ j. elim (cases_lt (length steps) j) [ inl past ↦ front_new j past | inr first ↦ front_old j first ];
    }

  -- nothing is pushed
  pub first_held : (nodes : List Term) → ArePlaced bound → length bound.steps < 2 ^ 32 → length formulas ≡ length bound.steps → Front [] nodes [] → IsHeld (held [] nodes [])
  first_held nodes placed few count front = record {
    placed = placed;
    few = few;
    count = count;
    pushed = omega arith;
    used = tt;
    nodes_rise = λ j k h. omega arith;
    links_rise = λ j k h. omega arith;
    fronts = λ k. front_same [] (take k []) nodes (take (length nodes) nodes) [] (take 0 []) (sym (take_past [] k (omega arith))) (sym (take-length nodes)) refl front;
  }

  -- the same, as a call of `begin` gives it
  pub begun_held : (nodes : List Term) (links : List Link) (steps : List Pushed) → ArePlaced bound → length bound.steps < 2 ^ 32
      → length formulas ≡ length bound.steps → steps ≡ [] → links ≡ [] → Front [] nodes links → IsHeld (held steps nodes links)
  begun_held nodes links steps placed few count none unbound front =
      subst (λ (ls : List Link). IsHeld (held steps nodes ls)) (sym unbound)
      (subst (λ (xs : List Pushed). IsHeld (held xs nodes [])) (sym none) (first_held nodes placed few count (subst (λ (ls : List Link). Front [] nodes ls) unbound front)))
