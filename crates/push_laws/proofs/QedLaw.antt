-- The stack machine accepts the proof of a finished worksheet.
use Rattle.std.specs.Prelude.{◌≡◌, ◌+◌, ℕ, Bool, true, false, List, [], ◌∷◌, ◌++◌, length, map, find, fold, slice_get, slice_index_or, unwrap_or, Some, None, Ok, codes, refl}
use Rattle.std.specs.List.{AllZip, last_or}
use Rattle.std.specs.Option.{option_map_or}
use Rattle.std.specs.Str.{bytes_eq}
use Rattle.std.proofs.Common.{sym, ap, subst, ◌∙◌, cond, arith}
use Rattle.std.proofs.lemmas.Bool.{or_parts, or_left, false_from_ne_true}
use Rattle.std.proofs.lemmas.List.{length-append, map-append}
use Rattle.std.proofs.lemmas.Slice.Eq.{bytes_eq-Decides}
use Rattle.mm_model.specs.Names.{Name, contains, has_twice}
use Rattle.mm_model.specs.Book.{Database}
use Rattle.mm_model.specs.declared.frames.Hyp.{Hyp}
use Rattle.proof_model.specs.declared.theorem.Theorem.{Theorem}
use Rattle.proof_model.specs.Arities.{HasArities}
use Rattle.proof_model.specs.Codes.{normal_code}
use Rattle.proof_model.specs.Machine.{State, start, and_then, Accepts}
use Rattle.proof_model.specs.Proofs.{Proof, postorder}
use Rattle.proof_laws.proofs.AcceptedLaw.{ends_with_theorem}
use Rattle.proof_laws.proofs.CodeEndsLaw.{code_is_accepted}
use Rattle.sheet_text.specs.declared.sheet.SheetStep.{SheetStep}
use Rattle.sheet_text.specs.Layout.{steps, step_names}
use Rattle.sheet_laws.proofs.PlaceLaws.{apart}
use Rattle.sheet_laws.proofs.SpokenLaws.{last_or-append}
use Rattle.solve_model.specs.Binding.{is_qed, symbols_from}
use Rattle.written_model.specs.declared.options.Options.{Options}
use Rattle.written_model.specs.WrittenSteps.{WrittenStep, steps_in}
use Rattle.written_model.specs.Named.{name_step}
use Rattle.written_model.specs.Found.{IsSearched, not_searched, none, found}
use Rattle.written_model.specs.ProofTrees.{Below, at_qed, step_proof, step_proofs, no_proof}
use Rattle.written_model.specs.ProofsPush.{Pushes, proof_at}
use Rattle.written_model.specs.Written.{Writing, Writes, frames_of, written_step, written_theorem, after_filling, after_naming, formula_tokens}
use Rattle.push_laws.specs.QedProof.{the_proof, ProofIsAccepted, QedProofIsAccepted}
use Rattle.push_laws.proofs.Books.{is_book}
use Rattle.push_laws.proofs.Facts.{IsBook}
use Rattle.push_laws.proofs.FilledSteps.{HasShape, empty, ends}
use Rattle.push_laws.proofs.Filling.{get_mid}
use Rattle.push_laws.proofs.Searched.{steps_named}
use Rattle.push_laws.proofs.StepLaw.{pushes, arities, steps_written}
use Rattle.push_laws.proofs.WrittenSheet.{filled, has_qed, zipped, names_same, spellable, bounds, spelled}

-- ---- the proof of the last step

module _ (db : Database) (hyps : List Hyp) where
  abbrev from : List Proof → List WrittenStep → List Proof
  from acc xs = fold (λ earlier e. earlier ++ step_proof db hyps earlier e ∷ []) acc xs

  from-append : (xs ys : List WrittenStep) (acc : List Proof) → from acc (xs ++ ys) ≡ from (from acc xs) ys
  from-append [] ys acc = refl
  from-append (x ∷ xs) ys acc = from-append xs ys (acc ++ step_proof db hyps acc x ∷ [])

  from-length : (xs : List WrittenStep) (acc : List Proof) → length (from acc xs) ≡ length acc + length xs
  from-length [] acc = omega arith
  from-length (x ∷ xs) acc =
      let rest = from-length xs (acc ++ step_proof db hyps acc x ∷ []) in
      let one = length-append acc (step_proof db hyps acc x ∷ []) in
      omega (arith, rest, one)

  index_last : (xs : List Proof) (y d : Proof) → slice_index_or (xs ++ y ∷ []) (length xs) d ≡ y
  index_last [] y d = refl
  index_last (x ∷ xs) y d = index_last xs y d

  -- the last proof is that of the last step
  last_proof : (pre : List WrittenStep) (e : WrittenStep)
      → unwrap_or (last_or None (step_proofs db hyps (pre ++ e ∷ []))) no_proof
      ≡ slice_index_or (step_proofs db hyps (pre ++ e ∷ [])) (length pre) no_proof
  last_proof pre e =
      let xs = from [] pre in
      let y = step_proof db hyps xs e in
      let whole : from [] (pre ++ e ∷ []) ≡ xs ++ y ∷ [] = from-append pre (e ∷ []) [] in
      let long : length xs ≡ length pre = (let l = from-length pre [] in omega (arith, l)) in
      ap (λ ps. unwrap_or (last_or None ps) no_proof) whole ∙ ap (λ o. unwrap_or o no_proof) (last_or-append None xs y [])
      ∙ sym (ap (λ ps. slice_index_or ps (length pre) no_proof) whole ∙ ap (λ (n : ℕ). slice_index_or (xs ++ y ∷ []) n no_proof) (sym long) ∙ index_last xs y no_proof)

-- ---- the step named `qed`

abbrev names_of : List WrittenStep → List Name
names_of xs = map (λ (e : WrittenStep). e.name) xs

record Split (xs : List WrittenStep) (ns : List Name) (q : Name) : Type 0 where
  pre : List WrittenStep
  last : WrittenStep
  whole : xs ≡ pre ++ last ∷ []
  front : names_of pre ≡ ns
  named : last.name ≡ q

split_names : (xs : List WrittenStep) (ns : List Name) (q : Name) → names_of xs ≡ ns ++ q ∷ [] → Split xs ns q
split_names [] [] q e = absurd cc
split_names [] (n ∷ ns) q e = absurd cc
split_names (x ∷ []) [] q e = record { pre = []; last = x; whole = refl; front = refl; named = cc }
split_names (x ∷ y ∷ xs) [] q e = absurd cc
split_names (x ∷ xs) (n ∷ ns) q e =
    let one : x.name ≡ n = cc in
    let rest : names_of xs ≡ ns ++ q ∷ [] = cc in
    let r = split_names xs ns q rest in
    let front = r.front in
    record { pre = x ∷ r.pre; last = r.last; whole = ap (λ ys. x ∷ ys) r.whole; front = cc; named = r.named }

record Shape (xs : List WrittenStep) (ts : List SheetStep) : Type 0 where
  pre : List WrittenStep
  last : WrittenStep
  before : List SheetStep
  step : SheetStep
  whole : xs ≡ pre ++ last ∷ []
  read : ts ≡ before ++ step ∷ []
  named : last.name ≡ step.name
  quiet : contains (map (λ (t : SheetStep). t.name) before) (codes "qed") ≡ false → contains (names_of pre) (codes "qed") ≡ false

module _ (db : Database) (book : IsBook db) (words : List ℕ) (options : Options) (w : Writing) (wr : Writes db words options w) where
  shape_of : (xs : List WrittenStep) (ts : List SheetStep)
      → HasShape db book w.bound w.judgements wr.judged w.value wr.most_general (steps w.read) (bounds db book words options w wr)
      (spelled db book words options w wr) xs ts
      → contains (map (λ (t : SheetStep). t.name) ts) (codes "qed") ≡ true → Shape xs ts
  shape_of [] [] empty h = absurd cc
  shape_of xs ts (ends pre e before s named f) h = record { pre = pre; last = e; before = before; step = s; whole = refl; read = refl; named = named; quiet = f }

  searched_names : (es xs ys : List WrittenStep) → AllZip (IsSearched db w.bound.place options.dv w.bound.pairs es) xs ys → names_of ys ≡ names_of xs
  searched_names es [] [] a = refl
  searched_names es [] (y ∷ ys) a = absurd a
  searched_names es (x ∷ xs) [] a = absurd a
  searched_names es (x ∷ xs) (y ∷ ys) a = let one = name_kept es x y a.0 in let rest = searched_names es xs ys a.1 in cc
    where
      name_kept : (es : List WrittenStep) (e f : WrittenStep) → IsSearched db w.bound.place options.dv w.bound.pairs es e f → f.name ≡ e.name
      name_kept es e f (not_searched n) = refl
      name_kept es e f (none n h) = refl
      name_kept es e f (found n h fit) = refl

  named_names : (xs : List WrittenStep) → names_of (map (name_step w.names) xs) ≡ names_of xs
  named_names [] = refl
  named_names (x ∷ xs) = ap (λ ns. x.name ∷ ns) (named_names xs)

  abbrev es : List WrittenStep
  es = steps_in w.items

  names_es : names_of es ≡ names_of (steps_in (after_filling db options w))
  names_es =
      searched_names (steps_in (after_naming db options w)) (steps_in (after_naming db options w)) es (zipped db book words options w wr)
      ∙ ap names_of (steps_named w.names (after_filling db options w)) ∙ named_names (steps_in (after_filling db options w))

  -- `qed` is the last step, and no other is named so
  pub record QedIs : Type 0 where
    pub pre : List WrittenStep
    pub last : WrittenStep
    pub whole : es ≡ pre ++ last ∷ []
    pub named : last.name ≡ codes "qed"
    pub quiet : contains (names_of pre) (codes "qed") ≡ false

  pub qed_is : QedIs
  qed_is =
      let sp = spellable db book words options w wr in
      let read_names = names_same db book words options w wr in
      let shape = shape_of (steps_in (after_filling db options w)) (steps w.read) (filled db book words options w wr).1.shape (has_qed db book words options w wr) in
      let split : step_names w.read ≡ map (λ (t : SheetStep). t.name) shape.before ++ shape.step.name ∷ [] =
      ap (map (λ (t : SheetStep). t.name)) shape.read ∙ map-append (λ (t : SheetStep). t.name) shape.before (shape.step ∷ []) in
      let last : last_or None (step_names w.read) ≡ Some (codes "qed") = ap (last_or None) read_names ∙ sp.qed_last in
      let both : Some shape.step.name ≡ Some (codes "qed") = sym (ap (last_or None) split ∙ last_or-append None (map (λ (t : SheetStep). t.name) shape.before) shape.step.name []) ∙ last in
      let named : shape.step.name ≡ codes "qed" = some_is shape.step.name (codes "qed") both in
      let twice : has_twice (map (λ (t : SheetStep). t.name) shape.before ++ shape.step.name ∷ []) ≡ false = ap has_twice (sym split ∙ read_names) ∙ sp.names_differ in
      let alone : contains (shape.step.name ∷ []) (codes "qed") ≡ true = or_left (bytes_eq (codes "qed") shape.step.name) false ((bytes_eq-Decides (codes "qed") shape.step.name).1 (sym named)) in
      let none_before = apart (map (λ (t : SheetStep). t.name) shape.before) (shape.step.name ∷ []) (codes "qed") twice alone in
      let front = shape.quiet none_before in
      let all_names : names_of es ≡ names_of shape.pre ++ codes "qed" ∷ [] =
      names_es ∙ ap names_of shape.whole ∙ map-append (λ (e : WrittenStep). e.name) shape.pre (shape.last ∷ []) ∙ ap (λ n. names_of shape.pre ++ n ∷ []) (shape.named ∙ named) in
      let r = split_names es (names_of shape.pre) (codes "qed") all_names in
      record { pre = r.pre; last = r.last; whole = r.whole; named = r.named; quiet = ap (λ ns. contains ns (codes "qed")) r.front ∙ front }
    where
      some_is : (a b : Name) → Some a ≡ Some b → a ≡ b
      some_is a b e = cc

  find_last : (pre : List WrittenStep) (e : WrittenStep) → contains (names_of pre) (codes "qed") ≡ false → e.name ≡ codes "qed"
      → find is_qed (map (written_step db) (pre ++ e ∷ [])) ≡ Some (written_step db e)
  find_last [] e q n = ap (λ (b : Bool). cond b (Some (written_step db e)) None) ((bytes_eq-Decides e.name (codes "qed")).1 n)
  find_last (x ∷ pre) e q n =
      let two = or_parts (bytes_eq (codes "qed") x.name) (contains (names_of pre) (codes "qed")) q in
      let other : bytes_eq x.name (codes "qed") ≡ false = false_from_ne_true (bytes_eq x.name (codes "qed")) (λ t.
      let turned : bytes_eq (codes "qed") x.name ≡ true = (bytes_eq-Decides (codes "qed") x.name).1 (sym ((bytes_eq-Decides x.name (codes "qed")).0 t)) in
      let bad : false ≡ true = sym two.0 ∙ turned in cc) in
      ap (λ (b : Bool). cond b (Some (written_step db x)) (find is_qed (map (written_step db) (pre ++ e ∷ [])))) other ∙ find_last pre e two.1 n

  abbrev thm : Theorem
  thm = written_theorem db options w

  module _ (finished : w.finished ≡ true) where
    pub formula_is : thm.formula ≡ symbols_from db (formula_tokens db qed_is.last.tree)
    formula_is =
        ap (λ ts. option_map_or (λ (t : SheetStep). symbols_from db t.formula) (find is_qed ts) []) (steps_written db w.items ∙ ap (map (written_step db)) qed_is.whole)
        ∙ ap (λ o. option_map_or (λ (t : SheetStep). symbols_from db t.formula) o []) (find_last qed_is.pre qed_is.last qed_is.quiet qed_is.named)

    abbrev pub n : ℕ
    n = length qed_is.pre

    stands : slice_get es n ≡ Some qed_is.last
    stands = ap (λ xs. slice_get xs n) qed_is.whole ∙ get_mid qed_is.pre qed_is.last []

    pub below : Below es n
    below = at_qed n stands qed_is.named

    pub proof_is : the_proof db options w ≡ proof_at db options w n
    proof_is =
        ap (λ xs. unwrap_or (last_or None (step_proofs db thm.hyps xs)) no_proof) qed_is.whole ∙ last_proof db thm.hyps qed_is.pre qed_is.last
        ∙ ap (λ xs. slice_index_or (step_proofs db thm.hyps xs) n no_proof) (sym qed_is.whole)

    normal : Accepts (frames_of db) thm (normal_code thm.mandatory (postorder (the_proof db options w)))
    normal =
        let pushed : Pushes (frames_of db) thm (the_proof db options w) thm.formula =
        subst (Pushes (frames_of db) thm (the_proof db options w)) (sym formula_is)
        (subst (λ p. Pushes (frames_of db) thm p (symbols_from db (formula_tokens db qed_is.last.tree))) (sym proof_is) (pushes db book words options w wr finished n qed_is.last below stands)) in
        (ends_with_theorem (frames_of db) thm (normal_code thm.mandatory (postorder (the_proof db options w)))).1 (ap (and_then (λ (st : State). Ok st.stack)) (pushed start))

    pub accepted : ProofIsAccepted db options w
    accepted = record {
      normal = normal;
      compressed = code_is_accepted (frames_of db) thm (the_proof db options w)
          (subst (HasArities (frames_of db) thm) (sym proof_is) (arities db book words options w wr finished n below)) normal;
    }

pub qed_proof_is_accepted : (db : Database) (text : List ℕ) (options : Options) (w : Writing) → QedProofIsAccepted db text options w
qed_proof_is_accepted db text options w opened writes finished =
    let book = is_book options.kinds opened.text db opened.is_database opened.sound in
    accepted db book text options w writes finished
