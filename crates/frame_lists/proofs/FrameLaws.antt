-- The frame of a label is that of the definitions.
use Rattle.std.proofs.Common.{◌≡◌, ℕ, zero, suc, ◌+◌, ◌<◌, ◌≤◌, Bool, true, false, not, ◌&&◌, cond, List, [], ◌∷◌, ◌++◌, length, take, drop, map}
use Rattle.std.proofs.Common.{reverse, Option, Some, None, slice_get, option_map, option_and_then, refl, sym, ap, ◌∙◌, arith, subst}
use Rattle.std.specs.List.{range_with_len}
use Rattle.std.proofs.lemmas.List.{map-append, reverse-reverse}
use Rattle.mm_base.specs.declared.symbols.Label.{Label}
use Rattle.mm_base.specs.declared.symbols.Sym.{Sym}
use Rattle.mm_base.specs.declared.symbols.Pair.{Pair}
use Rattle.mm_model.specs.Names.{Name, label}
use Rattle.mm_model.specs.Words.{Word}
use Rattle.mm_model.specs.declared.frames.Frame.{Frame}
use Rattle.mm_model.specs.declared.frames.Hyp.{Hyp}
use Rattle.mm_model.specs.Statements.{Statement, labels, labels_in, is_empty}
use Rattle.mm_model.specs.Frames as model
use Rattle.mm_model.specs.Frames.{symbols, below, frame_of, frame_at, positions, formula_of, mandatory_variables}
use Rattle.model_laws.specs.StatementLaws.{AreSound}
use Rattle.frame_lists.specs.declared.entry.Entry.{Entry}
use Rattle.frame_lists.specs.declared.listed.Listed.{Listed}
use Rattle.frame_lists.specs.declared.scope.Scope.{Scope}
use Rattle.frame_lists.specs.Lists.{AreOf}
use Rattle.frame_lists.specs.Entries.{entry_in, kind_in}
use Rattle.frame_lists.specs.Listings.{frames_of}
use Rattle.frame_lists.specs.Orders.{IsFrameOf, IsFrameIf, IsAdded}
use Rattle.frame_lists.specs.Steps.{has, is_assertion, mandatory, is_label_of, label_after, label_upto, scope_upto}
use Rattle.frame_lists.proofs.Keywords.{kind-is_axiom, kind-is_assertion}
use Rattle.frame_lists.proofs.Numbered.{count, here}
use Rattle.frame_lists.proofs.Placed.{item-placed, all-placed, count-labels, below-whole, below-length}
use Rattle.frame_lists.proofs.Passing.{state, ScopeIs}
use Rattle.frame_lists.proofs.StateLaws.{all-good, floats-here, variables-within}
use Rattle.frame_lists.proofs.MandatoryLaws.{mandatory-has}
use Rattle.frame_lists.proofs.HypothesisLaws.{passes, passes-is, hypotheses-law}
use Rattle.frame_lists.proofs.PairLaws.{pairs-law}
use Rattle.frame_lists.proofs.Upto.{next-is}
use Rattle.frame_lists.proofs.UptoLaws.{upto, sound-below, label-here, sound-at, whole-at}

and-left : (a b : Bool) → (a && b) ≡ true → a ≡ true
and-left true b h = refl
and-left false b h = absurd cc

-- a list that is made of another
pub map-get : {X Y : Type 0} (f : X → Y) (xs : List X) (k : ℕ) (y : Y) → slice_get (map f xs) k ≡ Some y → (x : X) × (slice_get xs k ≡ Some x) × (f x ≡ y)
map-get f [] k y h = absurd cc
map-get f (x ∷ xs) zero y h = let same : f x ≡ y = cc in (x, refl, same)
map-get f (x ∷ xs) (suc k) y h = map-get f xs k y h

module _ (ss : List Statement) (l : Listed) (of : AreOf l ss) (sound : AreSound (reverse ss)) where
  abbrev names : List Name
  names = symbols ss

  -- the lists of a scope
  pub record Shows (e : List Statement) (s : Scope) : Type 0 where
    pub variables_are : s.variables ≡ (state names (here e)).variables
    pub typed_are : s.typed ≡ (state names (here e)).typed
    pub floats_are : s.floats ≡ (state names (here e)).floats
    pub essentials_are : s.essentials ≡ (state names (here e)).essentials
    pub hyps_are : s.hyps ≡ (state names (here e)).hyps
    pub distinct_are : s.distinct ≡ (state names (here e)).distinct

  pub shows : (e : List Statement) (s : Scope) → ScopeIs names e s → Shows e s
  shows e s i = record {
    variables_are = ap (λ (t : Scope). t.variables) i.is;
    typed_are = ap (λ (t : Scope). t.typed) i.is;
    floats_are = ap (λ (t : Scope). t.floats) i.is;
    essentials_are = ap (λ (t : Scope). t.essentials) i.is;
    hyps_are = ap (λ (t : Scope). t.hyps) i.is;
    distinct_are = ap (λ (t : Scope). t.distinct) i.is;
  }

  -- variables that are kept are known
  pub kept-within : (e rest : List Statement) (s : Scope) → ss ≡ reverse e ++ rest → Shows e s → (j : ℕ) → has s.variables j ≡ true → j < length names
  kept-within e rest s whole sh j h = variables-within ss (here e) j (all-placed e rest ss whole _) (ap (λ v. has v j) (sym sh.variables_are) ∙ h)

  frame-fields : (f g : Frame) → f.label ≡ g.label → f.is_axiom ≡ g.is_axiom → f.at ≡ g.at → f.formula ≡ g.formula → f.hyps ≡ g.hyps → f.pairs ≡ g.pairs → f ≡ g
  frame-fields f g a b c d e h =
      let make : Label → Bool → ℕ → List Sym → List Hyp → List Pair → Frame = λ u v w x y z. record { label = u; is_axiom = v; at = w; formula = x; hyps = y; pairs = z } in
      ap (λ u. make u f.is_axiom f.at f.formula f.hyps f.pairs) a
      ∙ ap (λ v. make g.label v f.at f.formula f.hyps f.pairs) b
      ∙ ap (λ w. make g.label g.is_axiom w f.formula f.hyps f.pairs) c
      ∙ ap (λ x. make g.label g.is_axiom g.at x f.hyps f.pairs) d
      ∙ ap (λ y. make g.label g.is_axiom g.at g.formula y f.pairs) e
      ∙ ap (λ z. make g.label g.is_axiom g.at g.formula g.hyps z) h

  frame-is : (k n : ℕ) (st : Statement) (s : Scope) (f : Frame) → slice_get ss k ≡ Some st → ScopeIs names (below ss k) s → IsFrameOf l s (entry_in names st) k n f → f ≡ frame_at ss (label n) k st
  frame-is k n st s f h scope is_f =
      let e = below ss k in
      let whole = below-whole ss k in
      let sound_e = sound-below ss k sound in
      let good = all-good ss e (drop k ss) whole sound_e _ in
      let fs = floats-here ss e (drop k ss) whole sound_e in
      let sh = shows e s scope in
      let set = mandatory l s (formula_of names st) in
      let q = passes ss l of e good fs s sh.variables_are sh.typed_are sh.floats_are sh.essentials_are st in
      let law = passes-is ss l of e good fs s sh.variables_are sh.typed_are sh.floats_are sh.essentials_are st in
      frame-fields f (frame_at ss (label n) k st) is_f.label_is (is_f.axiom_is ∙ sym (kind-is_axiom st)) is_f.at_is is_f.formula_is
      (hypotheses-law ss l of e good fs s sh.variables_are sh.typed_are sh.floats_are sh.essentials_are st f.hyps is_f.hyps_are)
      (pairs-law ss l of e good s sh.distinct_are q set
      (λ j i. kept-within e (drop k ss) s whole sh j (and-left (has s.variables j) _ (sym (mandatory-has l s (formula_of names st) j) ∙ i)))
      law f.pairs is_f.pairs_are)

  one-label : (ws : List Word) → length ws ≤ 1 → not (is_empty ws) ≡ true → length ws ≡ 1
  one-label [] h t = absurd cc
  one-label (w ∷ []) h t = refl
  one-label (w ∷ v ∷ ws) h t = let bad : ⊥ = omega (arith, h) in absurd bad

  if-frame : (b : Bool) (k n : ℕ) (st : Statement) (s : Scope) (o : Option Frame) → slice_get ss k ≡ Some st → ScopeIs names (below ss k) s
      → IsFrameIf b l s (entry_in names st) k n o → o ≡ cond b (Some (frame_at ss (label n) k st)) None
  if-frame true k n st s None h scope i = absurd i
  if-frame true k n st s (Some f) h scope i = ap (λ g. Some g) (frame-is k n st s f h scope i)
  if-frame false k n st s o h scope i = i

  by-label : (k n : ℕ) (st : Statement) → slice_get (positions ss) n ≡ Some k → slice_get ss k ≡ Some st
      → frame_of ss (label n) ≡ cond (is_assertion (kind_in st)) (Some (frame_at ss (label n) k st)) None
  by-label k n st p h =
      let found : ℕ × Statement → Option Frame = λ r. cond (model.is_assertion r.1) (Some (frame_at ss (label n) r.0 r.1)) None in
      ap (λ o. option_and_then found (option_and_then (λ at. option_map (λ x. (at, x)) (slice_get ss at)) o)) p
      ∙ ap (λ o. option_and_then found (option_map (λ x. (k, x)) o)) h
      ∙ ap (λ b. cond b (Some (frame_at ss (label n) k st)) None) (kind-is_assertion st)

  pub frame-here : (k n : ℕ) (x : Entry) (s : Scope) (o : Option Frame) → slice_get l.entries k ≡ Some x → s ≡ scope_upto l k → n ≡ label_upto l k
      → is_label_of l n k ≡ true → IsFrameIf (is_assertion x.kind) l s x k n o → o ≡ frame_of ss (label n)
  frame-here k n x s o at is_s is_n has_l i =
      let r = map-get (entry_in names) ss k x (ap (λ xs. slice_get xs k) (sym of.entries_are) ∙ at) in
      let st = r.0 in
      let within : k ≤ length ss = inside ss k st r.1 in
      let u = upto ss l of sound k within in
      let is_count : n ≡ count (below ss k) = is_n ∙ u.label in
      let scope : ScopeIs names (below ss k) s = subst (λ (t : Scope). ScopeIs names (below ss k) t) (sym is_s) u.scope in
      let one = one-label (labels_in st) (sound-at ss l of sound k st r.1).one_label (sym (label-here ss l of sound k st r.1) ∙ ap (λ (m : ℕ). is_label_of l m k) (sym is_count) ∙ has_l) in
      let placed_ = item-placed st (below ss k) (drop (suc k) ss) ss (whole-at ss l of sound k st r.1) in
      let position : slice_get (positions ss) n ≡ Some k = ap (λ (m : ℕ). slice_get (positions ss) m) is_count ∙ placed_.position one ∙ ap (λ (m : ℕ). Some m) (below-length ss k within) in
      let frame : IsFrameIf (is_assertion (kind_in st)) l s (entry_in names st) k n o = subst (λ (y : Entry). IsFrameIf (is_assertion y.kind) l s y k n o) (sym r.2) i in
      if-frame (is_assertion (kind_in st)) k n st s o r.1 scope frame ∙ sym (by-label k n st position r.1)
    where
      inside : (xs : List Statement) (k : ℕ) (y : Statement) → slice_get xs k ≡ Some y → k ≤ length xs
      inside [] k y h = absurd cc
      inside (x ∷ xs) zero y h = omega arith
      inside (x ∷ xs) (suc k) y h = let less = inside xs k y h in omega (arith, less)

-- ---- all frames

range-last : (a n : ℕ) → range_with_len a (suc n) ≡ range_with_len a n ++ (a + n) ∷ []
range-last a zero = let e : a ≡ a + 0 = omega arith in ap (λ (m : ℕ). m ∷ []) e
range-last a (suc n) = let e : a + 1 + n ≡ a + suc n = omega arith in ap (λ r. a ∷ r) (range-last (a + 1) n ∙ ap (λ (m : ℕ). range_with_len (a + 1) n ++ m ∷ []) e)

-- the frames of the first labels
abbrev pub Framed : Listed → List (Option Frame) → Type 0
Framed l fs = (ss : List Statement) → AreSound (reverse ss) → AreOf l ss → fs ≡ map (λ n. frame_of ss (label n)) (range_with_len 0 (length fs))

length-push : (fs : List (Option Frame)) (o : Option Frame) → length (fs ++ o ∷ []) ≡ suc (length fs)
length-push [] o = refl
length-push (f ∷ fs) o = ap (λ (n : ℕ). suc n) (length-push fs o)

pub framed-push : (l : Listed) (fs : List (Option Frame)) (o : Option Frame) → Framed l fs
    → ((ss : List Statement) → AreSound (reverse ss) → AreOf l ss → o ≡ frame_of ss (label (length fs))) → Framed l (fs ++ o ∷ [])
framed-push l fs o f h ss sound of =
    let g : ℕ → Option Frame = λ n. frame_of ss (label n) in
    let zero-sum : 0 + length fs ≡ length fs = omega arith in
    ap (λ xs. xs ++ o ∷ []) (f ss sound of) ∙ ap (λ x. map g (range_with_len 0 (length fs)) ++ x ∷ []) (h ss sound of ∙ ap g (sym zero-sum))
    ∙ sym (map-append g (range_with_len 0 (length fs)) ((0 + length fs) ∷ [])) ∙ ap (λ r. map g r) (sym (range-last 0 (length fs)))
    ∙ ap (λ (n : ℕ). map g (range_with_len 0 n)) (sym (length-push fs o))

pub record FramedNext (l : Listed) (k : ℕ) (gs : List (Option Frame)) : Type 0 where
  pub long : length gs ≡ label_upto l (k + 1)
  pub small : length gs ≤ k + 1
  pub framed : Framed l gs

pub framed-next : (l : Listed) (k n : ℕ) (x : Entry) (s : Scope) (fs gs : List (Option Frame)) → slice_get l.entries k ≡ Some x → s ≡ scope_upto l k
    → length fs ≡ label_upto l k → length fs ≤ k → n ≡ length fs → Framed l fs
    → IsAdded (is_label_of l n k) l s x k n fs gs → FramedNext l k gs
framed-next l k n x s fs gs at is_s long small is_n f added = go (is_label_of l n k) refl added
  where
    after : (b : Bool) → is_label_of l n k ≡ b → cond b (n + 1) n ≡ label_upto l (k + 1)
    after b e =
        ap (λ c. cond c (n + 1) n) (sym e) ∙ ap (λ (m : ℕ). label_after l m k) (is_n ∙ long) ∙ ap (λ (m : ℕ). label_upto l m) (sym (next-is k))

    go : (b : Bool) → is_label_of l n k ≡ b → IsAdded b l s x k n fs gs → FramedNext l k gs
    go false e is =
        let same = after false e in
        subst (λ (hs : List (Option Frame)). FramedNext l k hs) (sym is) (record { long = sym is_n ∙ same; small = omega (arith, small); framed = f })
    go true e added =
        let o = added.0 in
        let grown = length-push fs o in
        let sum = after true e in
        subst (λ (hs : List (Option Frame)). FramedNext l k hs) (sym added.1) (record {
          long = omega (arith, grown, is_n, sum);
          small = omega (arith, grown, small);
          framed = framed-push l fs o f (λ ss sound of. frame-here ss l of sound k n x s o at is_s (is_n ∙ long) e added.2 ∙ ap (λ (m : ℕ). frame_of ss (label m)) is_n);
        })

pub framed-whole : (l : Listed) (fs : List (Option Frame)) (ss : List Statement) → length fs ≡ label_upto l (length l.entries) → Framed l fs → AreSound (reverse ss) → AreOf l ss → fs ≡ frames_of ss
framed-whole l fs ss long f sound of =
    let g : ℕ → Option Frame = λ n. frame_of ss (label n) in
    let count-is : length l.entries ≡ length ss = ap (λ xs. length xs) of.entries_are ∙ mapped (entry_in (symbols ss)) ss in
    let u = upto ss l of sound (length ss) (omega arith) in
    let all_below : below ss (length ss) ≡ reverse ss = ap (λ xs. reverse xs) (take-all ss) in
    let sum : count (reverse ss) ≡ length (labels ss) = sym (count-labels (reverse ss)) ∙ ap (λ xs. length (labels xs)) (reverse-reverse ss) in
    f ss sound of ∙ ap (λ (n : ℕ). map g (range_with_len 0 n)) (long ∙ ap (λ (n : ℕ). label_upto l n) count-is ∙ u.label ∙ ap count all_below ∙ sum)
  where
    mapped : {A B : Type 0} (h : A → B) (xs : List A) → length (map h xs) ≡ length xs
    mapped h [] = refl
    mapped h (x ∷ xs) = ap (λ (n : ℕ). suc n) (mapped h xs)

    take-all : (xs : List Statement) → take (length xs) xs ≡ xs
    take-all [] = refl
    take-all (x ∷ xs) = ap (λ l. x ∷ l) (take-all xs)
