-- Along the machine's run each entry of the stack is the text of a tree, or a formula given or pushed before; and each push fits.
use Rattle.std.specs.Prelude.{◌≡◌, ◌<◌, ◌≤◌, ℕ, Bool, true, false, not, ◌&&◌, List, [], ◌∷◌, ◌++◌, length, map, flat_map, zip, drop, take, find, slice_get}
use Rattle.std.specs.Prelude.{slice_index_or, Contains, nat_lt, is_some, Option, Some, None, Result, Ok, Err, refl}
use Rattle.std.specs.List.{AllByRecursion}
use Rattle.std.specs.Str.{bytes_eq}
use Rattle.std.proofs.Common.{sym, ap, subst, ◌∙◌, cond, arith, inl, inr}
use Rattle.std.proofs.lemmas.Bool.{cases_Bool, and_parts, both_ways, ltb-true, or_left, not-true}
use Rattle.std.proofs.lemmas.Slice.Eq.{bytes_eq-Decides}
use Rattle.mm_base.specs.declared.symbols.Sym.{Sym}
use Rattle.mm_base.specs.declared.symbols.Label.{Label}
use Rattle.mm_base.specs.declared.symbols.Typecode.{Typecode}
use Rattle.mm_base.specs.declared.tree.Tree.{Tree}
use Rattle.mm_base.specs.declared.tree.Tree.TheVariants.{Var}
use Rattle.mm_model.specs.declared.frames.Hyp.{Hyp}
use Rattle.mm_model.specs.declared.frames.Frame.{Frame}
use Rattle.mm_model.specs.declared.rows.Production.{Production}
use Rattle.mm_model.specs.Names.{Name, typecode}
use Rattle.mm_model.specs.Texts.{row_of}
use Rattle.mm_model.specs.Productions.{item_of, typed_variables}
use Rattle.mm_model.specs.Book.{Database, Assertion, label_of, symbol_of, symbol_name}
use Rattle.mm_model.specs.BookFacts.{IsRowFrame}
use Rattle.mm_model.proofs.RowLaws.{find_passes, find_from}
use Rattle.mm_model.proofs.TextLaws.{text-Var}
use Rattle.mm_model.proofs.TypedLaws.{code-Var}
use Rattle.model_laws.specs.DatabaseLaws.{HasPlaces}
use Rattle.model_laws.proofs.FrameFacts.{and_then as and_then_some}
use Rattle.proof_model.specs.declared.code.What.{What}
use Rattle.proof_model.specs.declared.code.What.TheVariants as what
use Rattle.proof_model.specs.declared.code.Step.{Step}
use Rattle.proof_model.specs.declared.theorem.Theorem.{Theorem}
use Rattle.proof_model.specs.Machine.{Formula, substituted, MachineFault, State, not_earlier, push, and_then, apply_frame, use_kept, keep_top, use_frame, use_hyp}
use Rattle.proof_model.specs.Machine.{use_label, use_what, use_step}
use Rattle.written_model.specs.ProofsPush.{leaf_symbols}
use Rattle.written_model.specs.Written.{frames_of}
use Rattle.install_laws.specs.TwoDatabases.{label_named_by}
use Rattle.export_model.specs.Exported.{Push, is_provable, taken_from, behind_step, push_of_frame, push_of_label, push_of, pushes_from}
use Rattle.again_laws.proofs.TokenLaws.{symbol_told}
use Rattle.answer_laws.proofs.Elements.{first, later, all_with, all_drop, stands_in, at_number, all_by-append}
use Rattle.push_laws.proofs.ActiveHyps.{all_taken}
use Rattle.push_laws.proofs.Facts.{IsBook}
use Rattle.push_laws.proofs.Lists.{all_of, get_contains}
use Rattle.push_laws.proofs.TreeProofs.{tree_symbols}
use Rattle.call_answers.specs.Exportable.{IsBefore, MayName, hypothesis, production, usable, other, HasTreeBefore, NamesNoProvableFloat, has_no_provable_float}
use Rattle.export_laws.proofs.GoodTrees.{IsVariable, good-Var}
use Rattle.export_laws.proofs.FrameTrees.{IsOwnTree, parsed_tree, row_tree}
use Rattle.export_laws.proofs.Entries.{IsEntry, of_tree, of_step, entry_later}
use Rattle.export_laws.proofs.FramePush.{IsApplied, is_applied, taken_by, IsPush, other_entry, usable_push}

-- a label of a hypothesis finds one
none_named : (hs : List Hyp) (name : Name) (h : Hyp) → find (λ (x : Hyp). bytes_eq x.name name) hs ≡ None → Contains hs h → h.name ≡ name → ⊥
none_named hs name h e c n =
    let at = at_number hs h c in
    let f = find_from (λ (x : Hyp). bytes_eq x.name name) hs at.0 h at.1 ((bytes_eq-Decides h.name name).1 n) in
    let bad : Some f.0 ≡ None = sym f.1 ∙ e in
    cc

pub provable_starts : (db : Database) (p : Sym) (g ss : Formula) → symbol_of db db.provable ≡ Some p → g ≡ p ∷ ss → is_provable db g ≡ true
provable_starts db p g ss e i = ap (is_provable db) i ∙ or_left _ false ((bytes_eq-Decides (symbol_name db p) db.provable).1 (symbol_told db db.provable p e).name)

eta : (d : Typecode) → typecode d.0 ≡ d
eta d = refl

-- the formulas that are there behind these pushes
abbrev pub seen_after : List Formula → List Push → List Formula
seen_after seen [] = seen
seen_after seen (p ∷ ps) = seen_after (p.formula ∷ seen) ps

-- an active `$f` of a declared variable
pub record IsDeclaredFloat (db : Database) (place : ℕ) (h : Hyp) : Type 0 where
  pub code : Sym
  pub variable : Sym
  pub formula : h.formula ≡ code ∷ variable ∷ []
  pub declared : IsVariable db place variable (typecode code)

pub record LabelIsFine (db : Database) (thm : Theorem) (name : Name) : Type 0 where
  pub may : MayName db thm name
  pub no_float : NamesNoProvableFloat db thm name

-- so is the label that a step names
abbrev pub StepIsFine : Database → Theorem → List Name → What → Type 0
StepIsFine db thm labels w = (name : Name) → label_named_by thm.mandatory labels w ≡ Some name → LabelIsFine db thm name

module _ (db : Database) (thm : Theorem) where
  -- each push fits over the formulas given or pushed before
  abbrev pub AreFine : List Formula → List Push → Type 0
  AreFine seen [] = Unit {0}
  AreFine seen (p ∷ ps) = IsPush db thm seen p × AreFine (p.formula ∷ seen) ps

  pub fine_append : (seen : List Formula) (ps qs : List Push) → AreFine seen ps → AreFine (seen_after seen ps) qs → AreFine seen (ps ++ qs)
  fine_append seen [] qs f g = g
  fine_append seen (p ∷ ps) qs f g = (f.0, fine_append (p.formula ∷ seen) ps qs f.1 g)

  pub record IsState (seen : List Formula) (st : State) : Type 0 where
    pub stack : AllByRecursion (IsEntry db thm.at seen) st.stack
    pub kept : AllByRecursion (IsEntry db thm.at seen) st.kept

  pub record IsAfter (seen : List Formula) (ps : List Push) (st : State) : Type 0 where
    pub fine : AreFine seen ps
    pub state : IsState (seen_after seen ps) st

  -- the `$e` of the theorem are among the formulas
  abbrev pub Base : List Formula → Type 0
  Base seen = (h : Hyp) → Contains thm.hyps h → h.floating ≡ false → Contains seen h.formula

  base_after : (seen : List Formula) (ps : List Push) → Base seen → Base (seen_after seen ps)
  base_after seen [] b = b
  base_after seen (p ∷ ps) b = base_after (p.formula ∷ seen) ps (λ h c f. later h.formula p.formula seen (b h c f))

module _ (db : Database) (book : IsBook db) (places : HasPlaces db) (thm : Theorem) (same_hyps : thm.hyps ≡ (db.active_at thm.at).hyps)
    (rows_other : (l : Label) (r : Production) (f : Frame) → row_of db.rows l ≡ Some r → db.frame l ≡ Some f → is_provable db f.formula ≡ false)
    (floats_declared : (h : Hyp) → Contains thm.hyps h → h.floating ≡ true → IsDeclaredFloat db thm.at h)
    (hyps_provable : (h : Hyp) → Contains thm.hyps h → h.floating ≡ false → is_provable db h.formula ≡ true) where
  abbrev Entry : List Formula → Formula → Type 0
  Entry seen g = IsEntry db thm.at seen g

  -- ---- a hypothesis

  float_symbols : (v : Sym) (c : Typecode) → tree_symbols db (Var v c) ≡ v ∷ []
  float_symbols v c = ap (λ xs. flat_map leaf_symbols xs) (text-Var db.rows v c)

  hyp_entry : (seen : List Formula) → Base db thm seen → (h : Hyp) → Contains thm.hyps h → has_no_provable_float db (h ∷ []) ≡ true → Entry seen h.formula
  hyp_entry seen base h c n = elim (cases_Bool h.floating) [
    | inl d ↦
        let f = floats_declared h c d in
        let none : is_provable db h.formula ≡ false =
        not-true (is_provable db h.formula) (subst (λ (b : Bool). not (b && is_provable db h.formula) ≡ true) d (and_parts (not (h.floating && is_provable db h.formula)) true n).0) in
        of_tree f.code (Var f.variable (typecode f.code)) (record { code = code-Var f.variable (typecode f.code); good = good-Var db thm.at f.variable (typecode f.code) f.declared })
        (f.formula ∙ ap (λ ss. f.code ∷ ss) (sym (float_symbols f.variable (typecode f.code)))) none
    | inr d ↦ of_step (hyps_provable h c d) (base h c d)
  ]

  -- ---- an assertion

  module _ (name : Name) (l : Label) (frame : Frame) (before : IsBefore db thm name l frame) (fine : LabelIsFine db thm name)
      (no_hyp : find (λ (x : Hyp). bytes_eq x.name name) thm.hyps ≡ None) where
    same_label : (m : Label) → label_of db name ≡ Some m → m ≡ l
    same_label m e = let both : Some m ≡ Some l = sym e ∙ before.0 in cc

    same_frame : (m : Label) (g : Frame) → label_of db name ≡ Some m → db.frame m ≡ Some g → g ≡ frame
    same_frame m g e i = let both : Some g ≡ Some frame = sym i ∙ ap db.frame (same_label m e) ∙ before.1 in cc

    row_moved : {r : Production} (m : Label) → m ≡ l → row_of db.rows m ≡ Some r → row_of db.rows l ≡ Some r
    row_moved m e i = ap (row_of db.rows) (sym e) ∙ i

    usable_is_provable : (m : Label) (a : Assertion) → db.usable m ≡ Some a → is_provable db a.frame.formula ≡ true
    usable_is_provable m a u =
        let b = (book.facts.usable m a u).conclusion.provable.begins in
        provable_starts db b.0 a.frame.formula b.1 b.3 b.2

    record UsableHere : Type 0 where
      assertion : Assertion
      is : db.usable l ≡ Some assertion
      same : assertion.frame ≡ frame

    usable_here : (m : Label) (g : Frame) (a : Assertion) → label_of db name ≡ Some m → db.frame m ≡ Some g → db.usable m ≡ Some a → UsableHere
    usable_here m g a e i u =
        let label = same_label m e in
        record { assertion = a; is = ap db.usable (sym label) ∙ u; same = same_frame m a.frame e (book.facts.usable m a u).frame }

    -- where its formula is provable it is usable
    is_usable : is_provable db frame.formula ≡ true → UsableHere
    is_usable p = elim fine.may [
      | hypothesis h ↦ absurd (none_named thm.hyps name _ no_hyp h.0 h.1)
      | production b r ↦ absurd (both_ways (is_provable db frame.formula) (rows_other l _ frame (row_moved _ (same_label _ b.0) r) before.1) p)
      | usable b u ↦ usable_here _ _ _ b.0 b.1 u
      | other b n t ↦ absurd (both_ways (is_provable db frame.formula) (ap (λ (g : Frame). is_provable db g.formula) (sym (same_frame _ _ b.0 b.1)) ∙ n) p)
    ]

    record OtherHere : Type 0 where
      code : Sym
      rest : Formula
      formula : frame.formula ≡ code ∷ rest
      tree : Tree
      own : IsOwnTree db thm.at frame frame.formula (typecode code) tree

    earlier : frame.at ≤ thm.at
    earlier = let less = before.2 in omega (arith, less)

    row_here : (r : Production) → row_of db.rows l ≡ Some r → OtherHere
    row_here r row =
        let x = book.facts.rows l r row in
        let y = places.row_items l r row in
        let one : Some x.0 ≡ Some frame = sym x.1 ∙ before.1 in
        let two : Some y.0 ≡ Some frame = sym y.1 ∙ before.1 in
        let is : IsRowFrame r frame = subst (IsRowFrame r) (let e : x.0 ≡ frame = cc in e) x.2 in
        let items = subst (λ (f : Frame). r.items ≡ map (item_of (typed_variables f.hyps)) (drop 1 f.formula)) (let e : y.0 ≡ frame = cc in e) y.2 in
        let less : r.at < thm.at = subst (λ (n : ℕ). n < thm.at) is.at before.2 in
        record {
          code = r.gives.0;
          rest = _;
          formula = is.formula;
          tree = _;
          own = row_tree db thm.at frame (book.frames_apart l frame before.1) (book.facts.frames l frame before.1).variables l r row less is items (book.own l frame before.1).formula;
        }

    -- where it is not, its expression has a tree
    is_other : is_provable db frame.formula ≡ false → OtherHere
    is_other p = elim fine.may [
      | hypothesis h ↦ absurd (none_named thm.hyps name _ no_hyp h.0 h.1)
      | production b r ↦ row_here _ (row_moved _ (same_label _ b.0) r)
      | usable b u ↦
          let x = usable_here _ _ _ b.0 b.1 u in
          absurd (both_ways (is_provable db frame.formula) p (ap (λ (g : Frame). is_provable db g.formula) (sym x.same) ∙ usable_is_provable l x.assertion x.is))
      | other b n t ↦
          let t' = subst (HasTreeBefore db) (same_frame _ _ b.0 b.1) t in
          record {
            code = t'.code;
            rest = t'.rest;
            formula = t'.formula;
            tree = t'.tree;
            own = parsed_tree db thm.at frame frame.formula (typecode t'.code) t'.tree earlier t'.parses (book.own l frame before.1).formula;
          }
    ]

    module _ (seen : List Formula) (st mid : State) (state : IsState db thm seen st) where
      -- what is left below is as it was
      below_ok : (more : List Formula) → ((g : Formula) → Entry seen g → Entry more g) → (n : ℕ) → AllByRecursion (Entry more) (drop n st.stack)
      below_ok more f n = all_drop (Entry more) n st.stack (all_with (Entry seen) (Entry more) f st.stack state.stack)

      usable_step : (a : Assertion) → db.usable l ≡ Some a → a.frame.at < thm.at → has_no_provable_float db a.frame.hyps ≡ true → IsApplied thm a.frame st mid
          → IsAfter db thm seen (record { label = name; taken = taken_from st.stack a.frame; formula = slice_index_or mid.stack 0 [] } ∷ []) mid
      usable_step a u less no_float applied =
          let top = slice_index_or mid.stack 0 [] in
          let is : substituted_top a applied ≡ top = sym (ap (λ ss. slice_index_or ss 0 []) applied.stack) in
          let p = subst (λ g. IsPush db thm seen (record { label = name; taken = taken_from st.stack a.frame; formula = g })) is
          (usable_push db book thm same_hyps seen l a u less no_float st mid state.stack applied name before.0) in
          let entry : Entry (top ∷ seen) top = of_step (provable_starts db p.provable top _ p.provable_is p.formula) (first top top seen refl) in
          record {
            fine = (p, tt);
            state = record {
              stack = subst (AllByRecursion (Entry (top ∷ seen))) (sym (applied.stack ∙ ap (λ g. g ∷ drop (length a.frame.hyps) st.stack) is))
                  (entry, below_ok (top ∷ seen) (λ g e. entry_later db thm.at top seen g e) (length a.frame.hyps));
              kept = subst (AllByRecursion (Entry (top ∷ seen))) (sym applied.kept) (all_with (Entry seen) (Entry (top ∷ seen)) (λ g e. entry_later db thm.at top seen g e) st.kept state.kept);
            };
          }
        where
          substituted_top : (b : Assertion) → IsApplied thm b.frame st mid → Formula
          substituted_top b i = substituted (zip b.frame.hyps (taken_by b.frame st)) b.frame.formula

      no_float : has_no_provable_float db frame.hyps ≡ true
      no_float = fine.no_float.of_frame l frame before

      frame_step : apply_frame thm frame st ≡ Ok mid → IsAfter db thm seen (push_of_frame db name st.stack mid.stack (Some frame)) mid
      frame_step e = by (is_provable db frame.formula) refl
        where
          by : (b : Bool) → is_provable db frame.formula ≡ b
              → IsAfter db thm seen (cond b (record { label = name; taken = taken_from st.stack frame; formula = slice_index_or mid.stack 0 [] } ∷ []) []) mid
          by true p =
              let u = is_usable p in
              let back = sym u.same in
              subst (λ (f : Frame). IsAfter db thm seen (record { label = name; taken = taken_from st.stack f; formula = slice_index_or mid.stack 0 [] } ∷ []) mid) u.same
              (usable_step u.assertion u.is (subst (λ (f : Frame). f.at < thm.at) back before.2) (subst (λ (f : Frame). has_no_provable_float db f.hyps ≡ true) back no_float)
              (subst (λ (f : Frame). IsApplied thm f st mid) back (is_applied thm frame st mid e)))
          by false p =
              let o = is_other p in
              let applied = is_applied thm frame st mid e in
              record {
                fine = tt;
                state = record {
                  stack = subst (AllByRecursion (Entry seen)) (sym applied.stack) (
                    other_entry db book thm same_hyps seen l frame before.1 no_float st mid state.stack applied o.code o.rest o.tree o.formula p o.own,
                    below_ok seen (λ g i. i)
                        (length frame.hyps),
                  );
                  kept = subst (AllByRecursion (Entry seen)) (sym applied.kept) state.kept;
                };
              }

  -- ---- a label

  module _ (seen : List Formula) (base : Base db thm seen) (st mid : State) (state : IsState db thm seen st) where
    label_step : (name : Name) → LabelIsFine db thm name → use_label (frames_of db) thm name st ≡ Ok mid → IsAfter db thm seen (push_of_label db thm name st.stack mid.stack) mid
    label_step name fine e = by (find (λ (x : Hyp). bytes_eq x.name name) thm.hyps) refl e
      where
        by_frame : find (λ (x : Hyp). bytes_eq x.name name) thm.hyps ≡ None → (o : Option Frame) → frames_of db name ≡ o → use_frame (frames_of db) thm o st ≡ Ok mid
            → IsAfter db thm seen (push_of_frame db name st.stack mid.stack o) mid
        by_frame none None i k = absurd cc
        by_frame none (Some frame) i k = by_place (nat_lt frame.at thm.at) refl k
          where
            by_place : (b : Bool) → nat_lt frame.at thm.at ≡ b → cond b (apply_frame thm frame st) (Err not_earlier) ≡ Ok mid
                → IsAfter db thm seen (push_of_frame db name st.stack mid.stack (Some frame)) mid
            by_place true less j =
                let l = and_then_some db.frame (label_of db name) frame i in
                frame_step name l.0 frame (l.1, l.2, ltb-true frame.at thm.at less) fine none seen st mid state j
            by_place false less j = absurd cc

        by : (o : Option Hyp) → find (λ (x : Hyp). bytes_eq x.name name) thm.hyps ≡ o → use_hyp (frames_of db) thm name o st ≡ Ok mid
            → IsAfter db thm seen (cond (is_some o) [] (push_of_frame db name st.stack mid.stack (frames_of db name))) mid
        by (Some h) i k =
            let f = find_passes (λ (x : Hyp). bytes_eq x.name name) thm.hyps h i in
            let c = stands_in thm.hyps f.place h f.stands in
            let named : h.name ≡ name = (bytes_eq-Decides h.name name).0 f.passes in
            let same : push h.formula st ≡ mid = cc in
            record { fine = tt; state = subst (IsState db thm seen) same (record { stack = (hyp_entry seen base h c (fine.no_float.own h (c, named)), state.stack); kept = state.kept }) }
        by None i k = by_frame i (frames_of db name) refl k

    -- ---- what a step names

    what_step : (labels : List Name) (w : What) → StepIsFine db thm labels w → use_what (frames_of db) thm labels w st ≡ Ok mid → IsAfter db thm seen (push_of db thm labels w st.stack mid.stack) mid
    what_step labels (what.Hyp k) fine e = label_step (slice_index_or thm.mandatory k []) (fine _ refl) e
    what_step labels (what.Listed k) fine e = label_step (slice_index_or labels k []) (fine _ refl) e
    what_step labels (what.Again k) fine e = by (slice_get st.kept k) refl e
      where
        by : (o : Option Formula) → slice_get st.kept k ≡ o → use_kept o st ≡ Ok mid → IsAfter db thm seen [] mid
        by None i j = absurd cc
        by (Some g) i j =
            let same : push g st ≡ mid = cc in
            record { fine = tt; state = subst (IsState db thm seen) same (record { stack = (all_of (Entry seen) st.kept g state.kept (get_contains st.kept k g i), state.stack); kept = state.kept }) }
    what_step labels what.Unknown fine e = absurd cc

  kept_top : (seen : List Formula) (b : Bool) (st : State) → IsState db thm seen st → IsState db thm seen (keep_top b st)
  kept_top seen true st s = record { stack = s.stack; kept = all_by-append (Entry seen) st.kept (take 1 st.stack) s.kept (all_taken (Entry seen) 1 st.stack s.stack) }
  kept_top seen false st s = s

  same_stack : (b : Bool) (st : State) → (keep_top b st).stack ≡ st.stack
  same_stack true st = refl
  same_stack false st = refl

  -- ---- a step, and all of them

  step_after : (labels : List Name) (s : Step) (seen : List Formula) → Base db thm seen → (st next : State) → IsState db thm seen st → StepIsFine db thm labels s.what
      → use_step (frames_of db) thm labels s st ≡ Ok next → IsAfter db thm seen (push_of db thm labels s.what st.stack next.stack) next
  step_after labels s seen base st next state fine e = by (use_what (frames_of db) thm labels s.what st) refl e
    where
      by : (r : Result State MachineFault) → use_what (frames_of db) thm labels s.what st ≡ r → and_then (λ mid. Ok (keep_top s.marked mid)) r ≡ Ok next
          → IsAfter db thm seen (push_of db thm labels s.what st.stack next.stack) next
      by (Err x) i j = absurd cc
      by (Ok mid) i j =
          let same : keep_top s.marked mid ≡ next = cc in
          let a = what_step seen base st mid state labels s.what fine i in
          let b : IsAfter db thm seen (push_of db thm labels s.what st.stack mid.stack) (keep_top s.marked mid) = record { fine = a.fine; state = kept_top _ s.marked mid a.state } in
          let c : IsAfter db thm seen (push_of db thm labels s.what st.stack (keep_top s.marked mid).stack) (keep_top s.marked mid) =
          subst (λ ss. IsAfter db thm seen (push_of db thm labels s.what st.stack ss) (keep_top s.marked mid)) (sym (same_stack s.marked mid)) b in
          subst (λ (x : State). IsAfter db thm seen (push_of db thm labels s.what st.stack x.stack) x) same c

  pub all_fine : (labels : List Name) (ss : List Step) (seen : List Formula) → Base db thm seen → (st : State) → IsState db thm seen st
      → AllByRecursion (λ (s : Step). StepIsFine db thm labels s.what) ss
      → AreFine db thm seen (pushes_from db thm labels ss st)
  all_fine labels [] seen base st state fine = tt
  all_fine labels (s ∷ ss) seen base st state fine =
      by (use_step (frames_of db) thm labels s st) refl (λ more b next i. all_fine labels ss more b next i fine.1)
    where
      by : (r : Result State MachineFault) → use_step (frames_of db) thm labels s st ≡ r
          → ((more : List Formula) → Base db thm more → (next : State) → IsState db thm more next → AreFine db thm more (pushes_from db thm labels ss next))
          → AreFine db thm seen (behind_step r (λ next. push_of db thm labels s.what st.stack next.stack ++ pushes_from db thm labels ss next))
      by (Err x) i rest = tt
      by (Ok next) i rest =
          let a = step_after labels s seen base st next state fine.0 i in
          let ps = push_of db thm labels s.what st.stack next.stack in
          fine_append db thm seen ps (pushes_from db thm labels ss next) a.fine (rest (seen_after seen ps) (base_after db thm seen ps base) next a.state)
