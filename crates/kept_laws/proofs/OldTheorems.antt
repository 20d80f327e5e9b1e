-- The proofs of a text with a theorem in it end as they did.
use Rattle.std.proofs.Common.{◌≡◌, ◌≤◌, ◌<◌, ℕ, Bool, true, false, cond, ◌||◌, List, [], ◌∷◌, ◌++◌, length, map, Option, Some, None, option_map, refl, sym, ap, ◌∙◌, subst, inl, inr, codes, Contains}
use Rattle.std.specs.Prelude.{position, slice_get, slice_index_or, option_and_then, filter_map}
use Rattle.std.specs.List.{AllByRecursion, list_any, cons_option}
use Rattle.std.proofs.lemmas.Bool.{cases_Bool, both_ways}
use Rattle.std.proofs.lemmas.List.Folds.{list_any-append}
use Rattle.std.proofs.lemmas.Slice.Eq.{bytes_eq-Decides}
use Rattle.std.specs.Option.{option_map_or}
use Rattle.std.specs.Str.{bytes_eq}
use Rattle.call_answers.specs.Kept.{proof_labels, names_label}
use Rattle.call_answers.specs.Verified.{Verdict, no_theorem, accepted, theorem_named, IsProofVerdict, IsVerdict}
use Rattle.mm_base.specs.declared.symbols.Label.{Label}
use Rattle.mm_model.specs.declared.frames.Frame.{Frame}
use Rattle.mm_model.specs.declared.frames.Hyp.{Hyp}
use Rattle.mm_model.specs.Names.{Name, label, label_named, contains}
use Rattle.mm_model.specs.Statements.{Statement, statements, labels}
use Rattle.mm_model.specs.Frames.{positions, active_at, frame_of, position_of}
use Rattle.proof_model.specs.declared.code.Code.{Code}
use Rattle.proof_model.specs.declared.code.Step.{Step}
use Rattle.proof_model.specs.declared.code.What.{What}
use Rattle.proof_model.specs.declared.code.What.TheVariants as what
use Rattle.proof_model.specs.declared.theorem.Theorem.{Theorem}
use Rattle.proof_model.specs.DatabaseProofs.{frames_of_database, theorem_of_frame, proof_of, IsCodeOf}
use Rattle.proof_model.specs.Machine.{Accepts, proof_fault}
use Rattle.install_model.specs.declared.install.NewTheorem.{NewTheorem}
use Rattle.install_model.specs.Installed.{installed}
use Rattle.install_model.specs.Moved.{block_statements, new_labels, labels_before, moved, moved_frame}
use Rattle.install_laws.specs.InstalledStatements.{IsPlain}
use Rattle.install_laws.specs.TwoDatabases.{labels_named, label_named_by}
use Rattle.install_laws.proofs.DatabaseLaw.{label_is, label_moves, none_new}
use Rattle.install_laws.proofs.KeptLaw.{old_proofs_stay_accepted}
use Rattle.install_laws.proofs.ProofsLaw.{put_at, before_by, before_moves, theorem_stays, proof_stays}
use Rattle.install_laws.proofs.TwoDatabasesLaws.{same_pairs}
use Rattle.installed_laws.specs.CanBePutIn.{CanBePutIn}
use Rattle.push_laws.proofs.Lists.{nothing, parted}
use Rattle.kept_laws.specs.KeptProofs.{OldProofsAreKept, OldProofsEndAsBefore}
use Rattle.kept_laws.proofs.CodeLabels.{at_number, no_label}
use Rattle.kept_laws.proofs.FrameLabels.{not_mandatory}
use Rattle.kept_laws.proofs.NewLabels.{frames_but_one, not_old}
use Rattle.kept_laws.proofs.Verdicts.{named, Says, says_keeps, named_moved, verdict_keeps}

-- ---- what steps name

from_filter_map : {X Y : Type 0} (P : Y → Type 0) (h : X → Option Y) → ((x : X) (y : Y) → h x ≡ Some y → P y) → (xs : List X) (y : Y) → Contains (filter_map h xs) y → P y
from_filter_map P h f [] y c = absurd (nothing y c)
from_filter_map {X = X} {Y = Y} P h f (x ∷ xs) y c = by (h x) (f x) (from_filter_map P h f xs) y c
  where
    by : (o : Option Y) → ((z : Y) → o ≡ Some z → P z) → ((z : Y) → Contains (filter_map h xs) z → P z) → (z : Y) → Contains (cons_option o (filter_map h xs)) z → P z
    by None g rest z d = rest z d
    by (Some v) g rest z d = elim (parted z v (filter_map h xs) d) [ inl e ↦ g z (ap (λ x. Some x) e) | inr l ↦ rest z l ]

unnamed : (name : Name) (s : Theorem) (code : Code) → contains s.mandatory name ≡ false → contains code.labels name ≡ false → bytes_eq name [] ≡ false
    → (n : Name) → Contains (labels_named s code) n → bytes_eq name n ≡ false
unnamed name s code m l e n c = from_filter_map (λ x. bytes_eq name x ≡ false) (λ (x : Step). label_named_by s.mandatory code.labels x.what) (λ x y h. one x.what y h) code.steps n c
  where
    one : (w : What) (x : Name) → label_named_by s.mandatory code.labels w ≡ Some x → bytes_eq name x ≡ false
    one (what.Hyp k) x h = let is : slice_index_or s.mandatory k [] ≡ x = cc in subst (λ y. bytes_eq name y ≡ false) is (at_number name s.mandatory k m e)
    one (what.Listed k) x h = let is : slice_index_or code.labels k [] ≡ x = cc in subst (λ y. bytes_eq name y ≡ false) is (at_number name code.labels k l e)
    one (what.Again k) x h = absurd cc
    one what.Unknown x h = absurd cc

turned : (a b : Name) → bytes_eq a b ≡ false → bytes_eq b a ≡ false
turned a b e = elim (cases_Bool (bytes_eq b a)) [
  | inl h ↦ let same : b ≡ a = (bytes_eq-Decides b a).0 h in let yes : bytes_eq a b ≡ true = (bytes_eq-Decides a b).1 (sym same) in absurd (both_ways (bytes_eq a b) e yes)
  | inr h ↦ h
]

some_bytes : (n : Name) → IsPlain n → bytes_eq n [] ≡ false
some_bytes [] p = absurd p
some_bytes (b ∷ n) p = refl

-- ---- the text

module _ (text : List ℕ) (place : ℕ) (t : NewTheorem) (can : CanBePutIn text place t) where
  abbrev old : List Statement
  old = statements text

  abbrev new : List Statement
  new = statements (installed text place t)

  abbrev a : ℕ
  a = labels_before old place

  abbrev b : ℕ
  b = length (new_labels t)

  abbrev m : ℕ
  m = length (block_statements t)

  abbrev moves : Frame → Frame
  moves f = moved_frame old place t f

  name_is_new : contains (labels old) t.name ≡ false
  name_is_new = not_old text place t can t.name (last (map (λ (h : Name × List Name). h.0) t.hyps))
    where
      last : (ns : List Name) → contains (ns ++ t.name ∷ []) t.name ≡ true
      last ns = list_any-append (bytes_eq t.name) ns (t.name ∷ []) ∙ by (contains ns t.name) (bytes_eq t.name t.name) ((bytes_eq-Decides t.name t.name).1 refl)
        where
          by : (x y : Bool) → y ≡ true → (x || (y || false)) ≡ true
          by true y e = refl
          by false y e = ap (λ z. z || false) e

  -- the machine ends alike on each proof that does not name the theorem
  ends_alike : (f : Frame) (code : Code) → ((n : Name) → Contains (labels_named (theorem_of_frame old f) code) n → bytes_eq t.name n ≡ false)
      → proof_fault (frames_of_database old) (theorem_of_frame old f) code ≡ proof_fault (frames_of_database new) (theorem_of_frame new (moves f)) code
  ends_alike f code none =
      same_pairs (frames_of_database old) (frames_of_database new) (theorem_of_frame old f) (put_at (moved place m f.at) (theorem_of_frame old f)) code
      (record {
        formula = refl;
        hyps = refl;
        mandatory = refl;
        labels = λ name is.
            inr (before_moves text place t can.within can.plain can.outside f.at (frames_of_database old name)
            ∙ ap (before_by (moved place m f.at)) (sym (frames_but_one text place t can name (turned t.name name (none name is)))));
      }) refl
      ∙ ap (λ s. proof_fault (frames_of_database new) s code) (sym (theorem_stays text place t can.within can.plain can.outside f))

  -- ---- one theorem

  module _ (theorem : Name) (is_old : contains (labels old) theorem ≡ true) where
    position_moves : position (bytes_eq theorem) (labels new) ≡ option_map (moved a b) (position (bytes_eq theorem) (labels old))
    position_moves = label_is text place t can.within can.plain theorem (none_new (labels old) theorem is_old (new_labels t) can.labels_new)

    abbrev named_at : List Statement → Option ℕ → Option (Theorem × List Name)
    named_at ss o = option_and_then (λ l. named (theorem_of_frame ss) (frame_of ss l) (proof_of ss l)) (option_map label o)

    named_moves : (i : ℕ) → named_at new (Some (moved a b i)) ≡ named (λ f. theorem_of_frame new (moves f)) (frame_of old (label i)) (proof_of old (label i))
    named_moves i =
        ap (λ o. named (theorem_of_frame new) o (proof_of new (label (moved a b i)))) (label_moves text place t can.within can.plain can.outside (Some i))
        ∙ ap (named (theorem_of_frame new) (option_map moves (frame_of old (label i)))) (proof_stays text place t can.within can.plain i)
        ∙ named_moved (theorem_of_frame new) moves (frame_of old (label i)) (proof_of old (label i))

    kept_by : (o : Option ℕ) → Says (frames_of_database old) (named_at old o) → Says (frames_of_database new) (named_at new (option_map (moved a b) o))
    kept_by None h = h
    kept_by (Some i) h = subst (Says (frames_of_database new)) (sym (named_moves i))
        (says_keeps (frames_of_database old) (frames_of_database new) (theorem_of_frame old) (λ f. theorem_of_frame new (moves f)) (frame_of old (label i)) (proof_of old (label i))
        (λ f words fe pe v. verdict_keeps (frames_of_database old) (frames_of_database new) (theorem_of_frame old f) (theorem_of_frame new (moves f)) words refl
        (λ code is accepts. old_proofs_stay_accepted text place t can.within can.plain can.outside can.labels_new f code accepts) v) h)

    pub stays_accepted : IsVerdict text theorem accepted → IsVerdict (installed text place t) theorem accepted
    stays_accepted h =
        subst (λ o. Says (frames_of_database new) (named_at new o)) (sym position_moves) (kept_by (position (bytes_eq theorem) (labels old)) h)

    unnamed_by : (f : Frame) (words : List Name) (l : Label) → frame_of old l ≡ Some f → contains (proof_labels words) t.name ≡ false
        → (code : Code) → IsCodeOf (theorem_of_frame old f).mandatory words code
        → Accepts (frames_of_database new) (theorem_of_frame new (moves f)) code → Accepts (frames_of_database old) (theorem_of_frame old f) code
    unnamed_by f words l fe none code is accepts =
        ends_alike f code (unnamed t.name (theorem_of_frame old f) code
        (not_mandatory t.name (some_bytes t.name can.plain.name) old name_is_new l f fe)
        (no_label (theorem_of_frame old f).mandatory words code t.name is none) (some_bytes t.name can.plain.name))
        ∙ accepts

    were_by : (o : Option ℕ) → option_map_or (λ (s : Theorem × List Name). contains (proof_labels s.1) t.name) (named_at old o) false ≡ false
        → Says (frames_of_database new) (named_at new (option_map (moved a b) o)) → Says (frames_of_database old) (named_at old o)
    were_by None none h = h
    were_by (Some i) none h =
        says_keeps (frames_of_database new) (frames_of_database old) (λ f. theorem_of_frame new (moves f)) (theorem_of_frame old) (frame_of old (label i)) (proof_of old (label i))
        (λ f words fe pe v. verdict_keeps (frames_of_database new) (frames_of_database old) (theorem_of_frame new (moves f)) (theorem_of_frame old f) words refl
        (unnamed_by f words (label i) fe (by f words (frame_of old (label i)) (proof_of old (label i)) fe pe none)) v)
        (subst (Says (frames_of_database new)) (named_moves i) h)
      where
        by : (f : Frame) (words : List Name) (frame : Option Frame) (proof : Option (List Name)) → frame ≡ Some f → proof ≡ Some words
            → option_map_or (λ (s : Theorem × List Name). contains (proof_labels s.1) t.name) (named (theorem_of_frame old) frame proof) false ≡ false
            → contains (proof_labels words) t.name ≡ false
        by f words None proof fe pe n = absurd cc
        by f words (Some g) None fe pe n = absurd cc
        by f words (Some g) (Some ws) fe pe n = let same : ws ≡ words = cc in subst (λ x. contains (proof_labels x) t.name ≡ false) same n

    pub was_accepted : names_label text theorem t.name ≡ false → IsVerdict (installed text place t) theorem accepted → IsVerdict text theorem accepted
    was_accepted none h =
        were_by (position (bytes_eq theorem) (labels old)) none (subst (λ o. Says (frames_of_database new) (named_at new o)) position_moves h)

pub old_proofs_end_as_before : OldProofsEndAsBefore
old_proofs_end_as_before text place t can = record {
  kept = λ theorem is_old h. stays_accepted text place t can theorem is_old h;
  same = λ theorem is_old none h. was_accepted text place t can theorem is_old none h;
}
