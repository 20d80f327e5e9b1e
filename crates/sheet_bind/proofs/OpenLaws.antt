-- What is answered by what is kept of an opened database is what the definitions say of the database of its text.
use Rattle.std.specs.Prelude.{◌≡◌, ◌<◌, ◌≤◌, ◌-◌, ◌^◌, ℕ, List, [], length, map, min, sum, Some, None, refl}
use Rattle.std.proofs.Common.{arith, sym, ap, subst, ◌∙◌}
use mathlib.Core.Path.{fun_ext}
use Rattle.mm_base.specs.declared.kinds.Kinds.{Kinds}
use Rattle.mm_base.specs.declared.symbols.Label.{Label}
use Rattle.mm_base.specs.declared.symbols.Pair.{Pair}
use Rattle.mm_model.specs.declared.frames.Frame.{Frame}
use Rattle.mm_model.specs.declared.frames.Hyp.{Hyp}
use Rattle.mm_model.specs.Faults.{fault}
use Rattle.mm_model.specs.Names.{Name}
use Rattle.mm_model.specs.Book.{Database}
use Rattle.proof_model.specs.declared.theorem.Theorem.{Theorem}
use Rattle.mm_frames.specs.Contents.{frame_at}
use Rattle.mm_frames.proofs.Queries.{constant-is}
use Rattle.mm_database.specs.declared.assertions.Parsed.{Parsed}
use Rattle.mm_database.specs.Books.{database_of, parsed_at}
use Rattle.mm_database.specs.Opened.{Opened, IsOpened}
use Rattle.sheet_text.specs.declared.sheet.Sheet.{Sheet}
use Rattle.solve_model.specs.declared.bound.Bound.{Bound}
use Rattle.solve_model.specs.declared.bound.BoundStep.{BoundStep}
use Rattle.solve_model.specs.Binding.{given_hyps, theorem_of, given_pairs, qed_formula, theorem_hyps}
use Rattle.solve_model.specs.Bound.{Binds, work_size}
use Rattle.sheet_bind.specs.declared.faults.BindFault.{BindFault}
use Rattle.sheet_bind.specs.declared.faults.BindFault.TheVariants.{At, TooMuch, Memory}
use Rattle.sheet_bind.specs.declared.setting.Place.{Place}
use Rattle.sheet_bind.specs.Found.{number_of}
use Rattle.sheet_bind.specs.Judging.{scene, IsJudged}
use Rattle.sheet_bind.specs.Places.{sheet_place}
use Rattle.sheet_bind.specs.Results.{IsBound, IsRefused, IsBoundAt, IsRefusedAt, bound_in, pairs_in, size_of}
use Rattle.sheet_bind.specs.Shown.{PlaceFacts}
use Rattle.sheet_bind.specs.Theorems.{theorem_with}
use Rattle.sheet_bind.proofs.BindLaws.{first_fault, steps_read}
use Rattle.sheet_bind.proofs.RuleLaws.{base, frame, place, here, some_mapped}
use Rattle.sheet_bind.proofs.ShownLaws.{facts_of, shown_is, has_frame}
use Rattle.sheet_bind.proofs.SizeLaws.{size_is}
use Rattle.sheet_bind.proofs.TheoremLaws.{pairs_put, hyps_grown, mandatory_is}
use Rattle.sheet_bind.proofs.TokenLaws.{kept, SaysConstants}

-- ---- over what is kept

module _ (kinds : Kinds) (facts : PlaceFacts) (d : Opened) (s : Sheet)
    (says : SaysConstants kinds facts d (place kinds facts d s) (frame kinds facts d s)) (within : place kinds facts d s ≤ length d.contents.entries)
    (has_frame : (l : Label) (p : Parsed) → parsed_at d.parsed l ≡ Some p → (f : Frame) × (frame_at d.contents l ≡ Some f)) where
  abbrev db : Database
  db = base kinds facts d s

  abbrev here_place : Place
  here_place = record { setting = kept kinds facts d (place kinds facts d s) (frame kinds facts d s); hyps = (facts.active_at (place kinds facts d s)).hyps }

  pairs_are : pairs_in d s ≡ given_pairs db s
  pairs_are = pairs_put d.contents.symbols s.pairs []

  with_hyps : (hs ks : List Hyp) (ps qs : List Pair) → hs ≡ ks → ps ≡ qs
      → theorem_with (place kinds facts d s) (qed_formula db s) hs ps ≡ theorem_with (place kinds facts d s) (qed_formula db s) ks qs
  with_hyps hs ks ps qs e f =
      ap (λ (h : List Hyp). theorem_with (place kinds facts d s) (qed_formula db s) h ps) e ∙ ap (λ (p : List Pair). theorem_with (place kinds facts d s) (qed_formula db s) ks p) f

  with_names : (names : List Name) → names ≡ (theorem_of db s).mandatory
      → record { at = place kinds facts d s; formula = qed_formula db s; hyps = theorem_hyps db s; mandatory = names; pairs = given_pairs db s } ≡ theorem_of db s
  with_names names e = ap (λ (n : List Name). theorem_named n) e
    where
      theorem_named : List Name → Theorem
      theorem_named n = record { at = place kinds facts d s; formula = qed_formula db s; hyps = theorem_hyps db s; mandatory = n; pairs = given_pairs db s }

  theorem_is : (bound_in d s here_place []).theorem ≡ theorem_of db s
  theorem_is =
      with_hyps _ (theorem_hyps db s) (pairs_in d s) (given_pairs db s) (hyps_grown d.contents.symbols s.items (length (given_hyps db s)) (facts.active_at (place kinds facts d s)).hyps) pairs_are
      ∙ with_names _ (mandatory_is (qed_formula db s) (theorem_hyps db s))

  binds : (found : List BoundStep) → IsJudged (here kinds facts d s) s None found → Binds db s (bound_in d s here_place found)
  binds found j = record {
    sound = first_fault kinds facts d s says within None found j;
    place = refl;
    existing = some_mapped (λ (f : Frame). f.formula) (frame kinds facts d s);
    steps = steps_read kinds facts d s says within None found j refl;
    pairs = pairs_are;
    theorem = theorem_is;
  }

  sizes_are : (found : List BoundStep) → size_of d here_place found ≡ work_size db (bound_in d s here_place found)
  sizes_are found = ap (λ (f : BoundStep → ℕ). sum (map f found)) (fun_ext (size_is kinds facts d has_frame (place kinds facts d s)))

  small_size : (n : ℕ) → min n (2 ^ 64 - 1) ≤ 16777216 → n ≤ 16777216
  small_size n h = omega (arith, h)

  large_size : (n m : ℕ) → m ≡ min n (2 ^ 64 - 1) → 16777216 < m → 16777216 < n
  large_size n m e h = omega (arith, e, h)

  pub is_bound : (b : Bound) → IsBoundAt (here kinds facts d s) s here_place b → IsBound db s b
  is_bound b h = subst (IsBound db s) (sym h.bound_is) (record {
    binds = binds h.steps h.judged;
    size = subst (λ (n : ℕ). n ≤ 16777216) (sizes_are h.steps) (small_size (size_of d here_place h.steps) h.small);
  })

  pub is_refused : (e : BindFault) → IsRefusedAt (here kinds facts d s) s here_place e → IsRefused db s e
  is_refused (At code line) h = first_fault kinds facts d s says within (Some (fault line (number_of code))) h.steps h.judged
  is_refused (TooMuch n) h = record {
    bound = bound_in d s here_place h.steps;
    binds = binds h.steps h.judged;
    size = h.size ∙ ap (λ (m : ℕ). min m (2 ^ 64 - 1)) (sizes_are h.steps);
    over = subst (λ (m : ℕ). 16777216 < m) (sizes_are h.steps) (large_size (size_of d here_place h.steps) n h.size h.over);
  }
  is_refused Memory h = tt

-- ---- over the database of a text

module _ (kinds : Kinds) (text : List ℕ) (d : Opened) (opened : IsOpened kinds text d) (few : length d.contents.entries < 4294967296) where
  module _ (s : Sheet) (p : Place) (p_is : p ≡ sheet_place text d.contents kinds.logic s) (within : p.setting.place ≤ length d.contents.entries) where
    says : SaysConstants kinds (facts_of text) d (place kinds (facts_of text) d s) (frame kinds (facts_of text) d s)
    says v at most = constant-is d.contents v at text opened.contents most few

    place_within : place kinds (facts_of text) d s ≤ length d.contents.entries
    place_within = subst (λ (q : Place). q.setting.place ≤ length d.contents.entries) p_is within

    pub bound_is : (b : Bound) → IsBoundAt (scene d kinds.provable s.theorem p.setting) s p b → IsBound (database_of kinds text d.rows d.parsed) s b
    bound_is b h = subst (λ (db : Database). IsBound db s b) (shown_is kinds text d opened)
        (is_bound kinds (facts_of text) d s says place_within (has_frame kinds text d opened) b (subst (λ (q : Place). IsBoundAt (scene d kinds.provable s.theorem q.setting) s q b) p_is h))

    pub refused_is : (e : BindFault) → IsRefusedAt (scene d kinds.provable s.theorem p.setting) s p e → IsRefused (database_of kinds text d.rows d.parsed) s e
    refused_is e h = subst (λ (db : Database). IsRefused db s e) (shown_is kinds text d opened)
        (is_refused kinds (facts_of text) d s says place_within (has_frame kinds text d opened) e (subst (λ (q : Place). IsRefusedAt (scene d kinds.provable s.theorem q.setting) s q e) p_is h))

    pub theorem_is_of : (bound_in d s p []).theorem ≡ theorem_of (database_of kinds text d.rows d.parsed) s
    theorem_is_of = subst (λ (q : Place). (bound_in d s q []).theorem ≡ theorem_of (database_of kinds text d.rows d.parsed) s) (sym p_is)
        (subst (λ (db : Database). (bound_in d s (here_place kinds (facts_of text) d s says place_within (has_frame kinds text d opened)) []).theorem ≡ theorem_of db s) (shown_is kinds text d opened)
        (theorem_is kinds (facts_of text) d s says place_within (has_frame kinds text d opened)))
