-- What the pass over the statements keeps is that of the active statements.
use Rattle.std.proofs.Common.{◌≡◌, ℕ, suc, ◌-◌, ◌<◌, List, [], ◌∷◌, ◌++◌, append-nil, append_assoc, length, take, drop, reverse, Some, slice_get}
use Rattle.std.proofs.Common.{refl, sym, ap, ◌∙◌, arith, inl, inr, subst}
use Rattle.std.proofs.lemmas.Bool.{cases_Bool}
use Rattle.std.proofs.lemmas.List.{reverse-append}
use Rattle.mm_base.specs.declared.symbols.Sym.{Sym}
use Rattle.mm_model.specs.Names.{Name}
use Rattle.mm_model.specs.Statements.{Statement, path}
use Rattle.mm_model.specs.Frames.{formula_of}
use Rattle.mm_model.proofs.Scopes.{path-open, path-close, path-plain, length-drop-lt, drop-tail}
use Rattle.frame_lists.specs.declared.entry.EntryKind.{EntryKind}
use Rattle.frame_lists.specs.declared.entry.EntryKind.TheVariants as entry
use Rattle.frame_lists.specs.declared.entry.StatementKind.TheVariants as kind
use Rattle.frame_lists.specs.declared.scope.Scope.{Scope}
use Rattle.frame_lists.specs.declared.scope.Block.{Block}
use Rattle.frame_lists.specs.Entries.{kind_in}
use Rattle.frame_lists.specs.Steps.{has, first_scope, declared, with_float, with_open, with_close, closed_at, cut_to, last_block, passed}
use Rattle.frame_lists.proofs.Keywords.{opens, closes, neither}
use Rattle.frame_lists.proofs.Numbered.{Numbered, item, count, on, here, on-skip, on-keep, here-open, here-plain, here-close, here-astray, nested}

-- a statement that opens and closes no block
abbrev pub added : EntryKind → List Sym → ℕ → ℕ → Scope → Scope
added entry.OpenBlock ss at n s = s
added entry.CloseBlock ss at n s = s
added (entry.Statement k) ss at n s = passed (entry.Statement k) ss at n s

module _ (names : List Name) where
  -- what is kept of active statements, the nearest first
  abbrev pub state : List Numbered → Scope
  state [] = first_scope
  state (i ∷ ns) = added (kind_in i.statement) (formula_of names i.statement) i.at i.label (state ns)

abbrev pub block_of : Scope → Block
block_of s = record { variables = length s.variables; floats = length s.floats; essentials = length s.essentials; hyps = length s.hyps; distinct = length s.distinct }

-- ---- the lists of the one begin those of the other

pub record Begins {X : Type 0} (xs ys : List X) : Type 0 where
  pub rest : List X
  pub eq : ys ≡ xs ++ rest

pub record Grown (s t : Scope) : Type 0 where
  pub variables : Begins s.variables t.variables
  pub typed : Begins s.typed t.typed
  pub floats : Begins s.floats t.floats
  pub essentials : Begins s.essentials t.essentials
  pub hyps : Begins s.hyps t.hyps
  pub distinct : Begins s.distinct t.distinct
  pub parallel : length s.typed ≡ length s.floats

same : {X : Type 0} (xs : List X) → Begins xs xs
same xs = record { rest = []; eq = sym (append-nil xs) }

more : {X : Type 0} (xs ys : List X) (x : X) → Begins xs ys → Begins xs (ys ++ x ∷ [])
more xs ys x b = record { rest = b.rest ++ x ∷ []; eq = ap (λ l. l ++ x ∷ []) b.eq ∙ append_assoc xs b.rest (x ∷ []) }

declared-begins : (xs vs : List ℕ) (ss : List Sym) → Begins xs vs → Begins xs (declared vs ss)
declared-begins xs vs [] b = b
declared-begins xs vs (s ∷ ss) b = elim (cases_Bool (has vs s.0)) [
  | inl h ↦ rw h (declared-begins xs vs ss b)
  | inr h ↦ rw h (declared-begins xs (vs ++ s.0 ∷ []) ss (more xs vs s.0 b))
]

take-begins : {X : Type 0} (xs ys : List X) → Begins xs ys → take (length xs) ys ≡ xs
take-begins xs ys b = ap (λ l. take (length xs) l) b.eq ∙ front xs b.rest
  where
    front : {X : Type 0} (xs ys : List X) → take (length xs) (xs ++ ys) ≡ xs
    front [] ys = refl
    front (x ∷ xs) ys = ap (λ l. x ∷ l) (front xs ys)

float-grown : (s t : Scope) (n : ℕ) (ss : List Sym) → Grown s t → Grown s (with_float t n ss)
float-grown s t n [] g = g
float-grown s t n (a ∷ []) g = g
float-grown s t n (a ∷ v ∷ ss) g = elim (cases_Bool (has t.typed v.0)) [
  | inl h ↦ rw h g
  | inr h ↦ rw h
      (record {
        variables = g.variables;
        typed = more s.typed t.typed v.0 g.typed;
        floats = more s.floats t.floats n g.floats;
        essentials = g.essentials;
        hyps = g.hyps;
        distinct = g.distinct;
        parallel = g.parallel;
      })
]

grows : (s t : Scope) (k : EntryKind) (ss : List Sym) (at n : ℕ) → Grown s t → Grown s (added k ss at n t)
grows s t entry.OpenBlock ss at n g = g
grows s t entry.CloseBlock ss at n g = g
grows s t (entry.Statement kind.Constants) ss at n g = g
grows s t (entry.Statement kind.Variables) ss at n g =
    record {
      variables = declared-begins s.variables t.variables ss g.variables;
      typed = g.typed;
      floats = g.floats;
      essentials = g.essentials;
      hyps = g.hyps;
      distinct = g.distinct;
      parallel = g.parallel;
    }
grows s t (entry.Statement kind.Distinct) ss at n g =
    record {
      variables = g.variables;
      typed = g.typed;
      floats = g.floats;
      essentials = g.essentials;
      hyps = g.hyps;
      distinct = more s.distinct t.distinct at g.distinct;
      parallel = g.parallel;
    }
grows s t (entry.Statement kind.Floating) ss at n g =
    float-grown s (record t { hyps = t.hyps ++ n ∷ [] }) n ss
    (record {
      variables = g.variables;
      typed = g.typed;
      floats = g.floats;
      essentials = g.essentials;
      hyps = more s.hyps t.hyps n g.hyps;
      distinct = g.distinct;
      parallel = g.parallel;
    })
grows s t (entry.Statement kind.Essential) ss at n g =
    record {
      variables = g.variables;
      typed = g.typed;
      floats = g.floats;
      essentials = more s.essentials t.essentials n g.essentials;
      hyps = more s.hyps t.hyps n g.hyps;
      distinct = g.distinct;
      parallel = g.parallel;
    }
grows s t (entry.Statement kind.Axiom) ss at n g = g
grows s t (entry.Statement kind.Provable) ss at n g = g

-- each variable of a `$f` stands beside its label
float-parallel : (s : Scope) (n : ℕ) (ss : List Sym) → length s.typed ≡ length s.floats → length (with_float s n ss).typed ≡ length (with_float s n ss).floats
float-parallel s n [] h = h
float-parallel s n (a ∷ []) h = h
float-parallel s n (a ∷ v ∷ ss) h = elim (cases_Bool (has s.typed v.0)) [
  | inl t ↦ rw t h
  | inr t ↦ rw t (longer s.typed v.0 ∙ ap (λ (k : ℕ). suc k) h ∙ sym (longer s.floats n))
]
  where
    longer : (xs : List ℕ) (x : ℕ) → length (xs ++ x ∷ []) ≡ suc (length xs)
    longer [] x = refl
    longer (y ∷ xs) x = ap (λ (k : ℕ). suc k) (longer xs x)

added-parallel : (s : Scope) (k : EntryKind) (ss : List Sym) (at n : ℕ) → length s.typed ≡ length s.floats → length (added k ss at n s).typed ≡ length (added k ss at n s).floats
added-parallel s entry.OpenBlock ss at n h = h
added-parallel s entry.CloseBlock ss at n h = h
added-parallel s (entry.Statement kind.Constants) ss at n h = h
added-parallel s (entry.Statement kind.Variables) ss at n h = h
added-parallel s (entry.Statement kind.Distinct) ss at n h = h
added-parallel s (entry.Statement kind.Floating) ss at n h = float-parallel (record s { hyps = s.hyps ++ n ∷ [] }) n ss h
added-parallel s (entry.Statement kind.Essential) ss at n h = h
added-parallel s (entry.Statement kind.Axiom) ss at n h = h
added-parallel s (entry.Statement kind.Provable) ss at n h = h

-- ---- blocks

snoc-last : (bs : List Block) (b : Block) → last_block (bs ++ b ∷ []) ≡ Some b
snoc-last bs b = ap (λ (k : ℕ). slice_get (bs ++ b ∷ []) (k - 1)) (longer bs b) ∙ ap (λ (k : ℕ). slice_get (bs ++ b ∷ []) k) (less (length bs)) ∙ there bs b
  where
    longer : (bs : List Block) (b : Block) → length (bs ++ b ∷ []) ≡ suc (length bs)
    longer [] b = refl
    longer (c ∷ bs) b = ap (λ (k : ℕ). suc k) (longer bs b)

    less : (k : ℕ) → suc k - 1 ≡ k
    less k = omega arith

    there : (bs : List Block) (b : Block) → slice_get (bs ++ b ∷ []) (length bs) ≡ Some b
    there [] b = refl
    there (c ∷ bs) b = there bs b

snoc-rest : (bs : List Block) (b : Block) → take (length (bs ++ b ∷ []) - 1) (bs ++ b ∷ []) ≡ bs
snoc-rest bs b = ap (λ (k : ℕ). take (k - 1) (bs ++ b ∷ [])) (longer bs b) ∙ ap (λ (k : ℕ). take k (bs ++ b ∷ [])) (less (length bs)) ∙ front bs b
  where
    longer : (bs : List Block) (b : Block) → length (bs ++ b ∷ []) ≡ suc (length bs)
    longer [] b = refl
    longer (c ∷ bs) b = ap (λ (k : ℕ). suc k) (longer bs b)

    less : (k : ℕ) → suc k - 1 ≡ k
    less k = omega arith

    front : (bs : List Block) (b : Block) → take (length bs) (bs ++ b ∷ []) ≡ bs
    front [] b = refl
    front (c ∷ bs) b = ap (λ l. c ∷ l) (front bs b)

abbrev with_blocks : Scope → List Block → Scope
with_blocks s bs = record s { blocks = bs }

scope-fields : (s t : Scope) → s.variables ≡ t.variables → s.typed ≡ t.typed → s.floats ≡ t.floats → s.essentials ≡ t.essentials → s.hyps ≡ t.hyps
    → s.distinct ≡ t.distinct → (bs cs : List Block) → bs ≡ cs → with_blocks s bs ≡ with_blocks t cs
scope-fields s t a b c d e f bs cs g =
    let make : List ℕ → List ℕ → List ℕ → List ℕ → List ℕ → List ℕ → List Block → Scope =
    λ v ty fl es hy di bl. record { variables = v; typed = ty; floats = fl; essentials = es; hyps = hy; distinct = di; blocks = bl } in
    ap (λ x. make x s.typed s.floats s.essentials s.hyps s.distinct bs) a
    ∙ ap (λ x. make t.variables x s.floats s.essentials s.hyps s.distinct bs) b
    ∙ ap (λ x. make t.variables t.typed x s.essentials s.hyps s.distinct bs) c
    ∙ ap (λ x. make t.variables t.typed t.floats x s.hyps s.distinct bs) d
    ∙ ap (λ x. make t.variables t.typed t.floats t.essentials x s.distinct bs) e
    ∙ ap (λ x. make t.variables t.typed t.floats t.essentials t.hyps x bs) f
    ∙ ap (λ x. make t.variables t.typed t.floats t.essentials t.hyps t.distinct x) g

-- a scope that is cut back to a block is the one that the block began with
close-back : (s t : Scope) (bs : List Block) → Grown t s → with_close (with_blocks s (bs ++ block_of t ∷ [])) ≡ with_blocks t bs
close-back s t bs g =
    let whole = with_blocks s (bs ++ block_of t ∷ []) in
    ap (λ o. closed_at o whole) (snoc-last bs (block_of t))
    ∙ scope-fields (cut_to whole (block_of t)) t (take-begins t.variables s.variables g.variables)
    (ap (λ (k : ℕ). take k s.typed) (sym g.parallel) ∙ take-begins t.typed s.typed g.typed)
    (take-begins t.floats s.floats g.floats) (take-begins t.essentials s.essentials g.essentials) (take-begins t.hyps s.hyps g.hyps) (take-begins t.distinct s.distinct g.distinct)
    (take (length whole.blocks - 1) whole.blocks) bs (snoc-rest bs (block_of t))

-- the blocks do not matter where none is opened or closed
with_float-blocks : (s : Scope) (bs : List Block) (n : ℕ) (ss : List Sym) → with_float (with_blocks s bs) n ss ≡ with_blocks (with_float s n ss) bs
with_float-blocks s bs n [] = refl
with_float-blocks s bs n (a ∷ []) = refl
with_float-blocks s bs n (a ∷ v ∷ ss) = elim (cases_Bool (has s.typed v.0)) [ inl h ↦ rw h refl | inr h ↦ rw h refl ]

module _ (names : List Name) where
  pub parallel : (ns : List Numbered) → length (state names ns).typed ≡ length (state names ns).floats
  parallel [] = refl
  parallel (i ∷ ns) = added-parallel (state names ns) (kind_in i.statement) (formula_of names i.statement) i.at i.label (parallel ns)

  grown : (front end_ : List Numbered) → Grown (state names end_) (state names (front ++ end_))
  grown [] end_ =
      let s = state names end_ in
      record { variables = same s.variables; typed = same s.typed; floats = same s.floats; essentials = same s.essentials; hyps = same s.hyps; distinct = same s.distinct; parallel = parallel end_ }
  grown (i ∷ front) end_ = grows (state names end_) (state names (front ++ end_)) (kind_in i.statement) (formula_of names i.statement) i.at i.label (grown front end_)

  -- the open blocks, the innermost first; k of them are passed already
  abbrev BlocksAre : List Statement → ℕ → List Block → Type 0
  BlocksAre e k [] = length (path e) ≡ k
  BlocksAre e k (b ∷ bs) = (k < length (path e)) × (b ≡ block_of (state names (on (drop (suc k) (path e)) e))) × BlocksAre e (suc k) bs

  pub record ScopeIs (e : List Statement) (s : Scope) : Type 0 where
    pub open_blocks : List Block
    pub is : s ≡ with_blocks (state names (here e)) (reverse open_blocks)
    pub marks : BlocksAre e 0 open_blocks

  pub scope-first : ScopeIs [] first_scope
  scope-first = record { open_blocks = []; is = refl; marks = refl }

  blocks-plain : (s : Statement) (e : List Statement) (k : ℕ) (bs : List Block) → path (s ∷ e) ≡ path e → BlocksAre e k bs → BlocksAre (s ∷ e) k bs
  blocks-plain s e k [] p h = ap (λ (q : List ℕ). length q) p ∙ h
  blocks-plain s e k (b ∷ bs) p h =
      let there : 0 < length (path e) = omega (arith, h.0) in
      let same' : on (drop (suc k) (path (s ∷ e))) (s ∷ e) ≡ on (drop (suc k) (path e)) e =
      ap (λ (q : List ℕ). on (drop (suc k) q) (s ∷ e)) p ∙ on-skip (drop (suc k) (path e)) s e (length-drop-lt k (path e) there) in
      (subst (λ (q : List ℕ). k < length q) (sym p) h.0, h.1 ∙ ap (λ l. block_of (state names l)) (sym same'), blocks-plain s e (suc k) bs p h.2)

  blocks-under : (s : Statement) (e : List Statement) (k : ℕ) (bs : List Block) → path (s ∷ e) ≡ length e ∷ path e → BlocksAre e k bs → BlocksAre (s ∷ e) (suc k) bs
  blocks-under s e k [] p h = ap (λ (q : List ℕ). length q) p ∙ ap (λ (n : ℕ). suc n) h
  blocks-under s e k (b ∷ bs) p h =
      let there : 0 < length (path e) = omega (arith, h.0) in
      let deep : suc k < length (length e ∷ path e) = omega (arith, h.0) in
      let same' : on (drop (suc (suc k)) (path (s ∷ e))) (s ∷ e) ≡ on (drop (suc k) (path e)) e =
      ap (λ (q : List ℕ). on (drop (suc (suc k)) q) (s ∷ e)) p ∙ on-skip (drop (suc k) (path e)) s e (length-drop-lt k (path e) there) in
      (subst (λ (q : List ℕ). suc k < length q) (sym p) deep, h.1 ∙ ap (λ l. block_of (state names l)) (sym same'), blocks-under s e (suc k) bs p h.2)

  blocks-over : (s : Statement) (e : List Statement) (k : ℕ) (bs : List Block) → path (s ∷ e) ≡ drop 1 (path e) → 0 < length (path e) → BlocksAre e (suc k) bs → BlocksAre (s ∷ e) k bs
  blocks-over s e k [] p there h = ap (λ (q : List ℕ). length q) p ∙ shorter (path e) k h
    where
      shorter : (q : List ℕ) (k : ℕ) → length q ≡ suc k → length (drop 1 q) ≡ k
      shorter [] k h = let bad : ⊥ = omega arith in absurd bad
      shorter (n ∷ q) k h = omega arith
  blocks-over s e k (b ∷ bs) p there h =
      let same' : on (drop (suc k) (path (s ∷ e))) (s ∷ e) ≡ on (drop (suc (suc k)) (path e)) e =
      ap (λ (q : List ℕ). on (drop (suc k) q) (s ∷ e)) p ∙ ap (λ (q : List ℕ). on q (s ∷ e)) (drop-tail (suc k) (path e))
      ∙ on-skip (drop (suc (suc k)) (path e)) s e (length-drop-lt (suc k) (path e) there) in
      (subst (λ (q : List ℕ). k < length q) (sym p) (within (path e) k h.0), h.1 ∙ ap (λ l. block_of (state names l)) (sym same'), blocks-over s e (suc k) bs p there h.2)
    where
      within : (q : List ℕ) (k : ℕ) → suc k < length q → k < length (drop 1 q)
      within [] k h = let bad : ⊥ = omega arith in absurd bad
      within (n ∷ q) k h = omega arith

  turned : (b : Block) (bs : List Block) → reverse (b ∷ bs) ≡ reverse bs ++ b ∷ []
  turned b bs = reverse-append (b ∷ []) bs

  -- a statement of this kind
  abbrev step : EntryKind → Statement → List Statement → Scope → Scope
  step k st e s = passed k (formula_of names st) (length e) (count e) s

  plain : (st : Statement) (e : List Statement) (s : Scope) (k : EntryKind) → kind_in st ≡ k → path (st ∷ e) ≡ path e → here (st ∷ e) ≡ item st e ∷ here e
      → ((bs : List Block) → step k st e (with_blocks (state names (here e)) bs) ≡ with_blocks (added k (formula_of names st) (length e) (count e) (state names (here e))) bs)
      → ScopeIs e s → ScopeIs (st ∷ e) (step k st e s)
  plain st e s k is_k p h law i = record {
    open_blocks = i.open_blocks;
    is = ap (λ x. step k st e x) i.is ∙ law (reverse i.open_blocks)
        ∙ ap (λ j. with_blocks (added j (formula_of names st) (length e) (count e) (state names (here e))) (reverse i.open_blocks)) (sym is_k)
        ∙ ap (λ l. with_blocks (state names l) (reverse i.open_blocks)) (sym h);
    marks = blocks-plain st e 0 i.open_blocks p i.marks;
  }

  opened : (st : Statement) (e : List Statement) (s : Scope) → kind_in st ≡ entry.OpenBlock → ScopeIs e s → ScopeIs (st ∷ e) (step entry.OpenBlock st e s)
  opened st e s is_k i =
      let o = opens st is_k in
      let now = state names (here e) in
      let after : state names (here (st ∷ e)) ≡ now = ap (λ l. state names l) (here-open st e o) ∙ ap (λ j. added j (formula_of names st) (length e) (count e) now) is_k in
      let first : on (drop 1 (path (st ∷ e))) (st ∷ e) ≡ item st e ∷ here e = ap (λ (q : List ℕ). on (drop 1 q) (st ∷ e)) (path-open st e o) ∙ on-keep st e in
      let there : state names (on (drop 1 (path (st ∷ e))) (st ∷ e)) ≡ now = ap (λ l. state names l) first ∙ ap (λ j. added j (formula_of names st) (length e) (count e) now) is_k in
      let deep : 0 < length (length e ∷ path e) = omega arith in
      record {
        open_blocks = block_of now ∷ i.open_blocks;
        is = ap (λ x. with_open x) i.is ∙ ap (λ bs. with_blocks now bs) (sym (turned (block_of now) i.open_blocks)) ∙ ap (λ x. with_blocks x (reverse (block_of now ∷ i.open_blocks))) (sym after);
        marks = (subst (λ (q : List ℕ). 0 < length q) (sym (path-open st e o)) deep, ap block_of (sym there), blocks-under st e 0 i.open_blocks (path-open st e o) i.marks);
      }

  closed : (st : Statement) (e : List Statement) (s : Scope) → kind_in st ≡ entry.CloseBlock → (bs : List Block)
      → s ≡ with_blocks (state names (here e)) (reverse bs) → BlocksAre e 0 bs → ScopeIs (st ∷ e) (step entry.CloseBlock st e s)
  closed st e s is_k [] is marks =
      let c = closes st is_k in
      let after : state names (here (st ∷ e)) ≡ state names (here e) =
      ap (λ l. state names l) (here-astray st e c.0 c.1 marks)
      ∙ ap (λ j. added j (formula_of names st) (length e) (count e) (state names (here e))) is_k in
      record {
        open_blocks = [];
        is = ap (λ x. with_close x) is ∙ ap (λ x. with_blocks x []) (sym after);
        marks = ap (λ (q : List ℕ). length q) (path-close st e c.0 c.1) ∙ none (path e) marks;
      }
    where
      none : (q : List ℕ) → length q ≡ 0 → length (drop 1 q) ≡ 0
      none [] h = refl
      none (n ∷ q) h = let bad : ⊥ = omega (arith, h) in absurd bad
  closed st e s is_k (b ∷ bs) is marks =
      let c = closes st is_k in
      let outer = on (drop 1 (path e)) e in
      let n = nested e 0 marks.0 in
      let g : Grown (state names outer) (state names (here e)) = subst (λ l. Grown (state names outer) (state names l)) (sym n.eq) (grown n.front outer) in
      record {
        open_blocks = bs;
        is = ap (λ x. with_close x) is ∙ ap (λ x. with_close (with_blocks (state names (here e)) x)) (turned b bs)
            ∙ ap (λ x. with_close (with_blocks (state names (here e)) (reverse bs ++ x ∷ []))) marks.1
            ∙ close-back (state names (here e)) (state names outer) (reverse bs) g
            ∙ ap (λ l. with_blocks (state names l) (reverse bs)) (sym (here-close st e c.0 c.1 marks.0));
        marks = blocks-over st e 0 bs (path-close st e c.0 c.1) marks.0 marks.2;
      }

  by_kind : (st : Statement) (e : List Statement) (s : Scope) (k : EntryKind) → kind_in st ≡ k → ScopeIs e s → ScopeIs (st ∷ e) (step k st e s)
  by_kind st e s entry.OpenBlock is i = opened st e s is i
  by_kind st e s entry.CloseBlock is i = closed st e s is i.open_blocks i.is i.marks
  by_kind st e s (entry.Statement kind.Floating) is i = let n = neither st is in
      plain st e s (entry.Statement kind.Floating) is (path-plain st e n.0 n.1) (here-plain st e n.0 n.1)
      (λ bs. with_float-blocks (record (state names (here e)) { hyps = (state names (here e)).hyps ++ count e ∷ [] }) bs (count e)
      (formula_of names st)) i
  by_kind st e s (entry.Statement kind.Constants) is i = let n = neither st is in plain st e s (entry.Statement kind.Constants) is (path-plain st e n.0 n.1) (here-plain st e n.0 n.1) (λ bs. refl) i
  by_kind st e s (entry.Statement kind.Variables) is i = let n = neither st is in plain st e s (entry.Statement kind.Variables) is (path-plain st e n.0 n.1) (here-plain st e n.0 n.1) (λ bs. refl) i
  by_kind st e s (entry.Statement kind.Distinct) is i = let n = neither st is in plain st e s (entry.Statement kind.Distinct) is (path-plain st e n.0 n.1) (here-plain st e n.0 n.1) (λ bs. refl) i
  by_kind st e s (entry.Statement kind.Essential) is i = let n = neither st is in plain st e s (entry.Statement kind.Essential) is (path-plain st e n.0 n.1) (here-plain st e n.0 n.1) (λ bs. refl) i
  by_kind st e s (entry.Statement kind.Axiom) is i = let n = neither st is in plain st e s (entry.Statement kind.Axiom) is (path-plain st e n.0 n.1) (here-plain st e n.0 n.1) (λ bs. refl) i
  by_kind st e s (entry.Statement kind.Provable) is i = let n = neither st is in plain st e s (entry.Statement kind.Provable) is (path-plain st e n.0 n.1) (here-plain st e n.0 n.1) (λ bs. refl) i

  -- the scope behind one more statement
  pub scope-next : (st : Statement) (e : List Statement) (s : Scope) → ScopeIs e s → ScopeIs (st ∷ e) (passed (kind_in st) (formula_of names st) (length e) (count e) s)
  scope-next st e s i = by_kind st e s (kind_in st) refl i
