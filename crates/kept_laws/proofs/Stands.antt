-- The first statement with a label, by the tokens of a text.
use Rattle.std.proofs.Common.{◌≡◌, ◌<◌, ℕ, zero, suc, ◌+◌, Bool, true, false, cond, List, [], ◌∷◌, ◌++◌, length, map, flat_map, Option, Some, None, option_map, refl, sym, ap, ◌∙◌, arith, codes}
use Rattle.std.specs.Prelude.{position, slice_get, option_and_then}
use Rattle.std.specs.List.{AllByRecursion, list_any}
use Rattle.std.specs.Str.{bytes_eq}
use Rattle.std.proofs.lemmas.Bool.{or_parts}
use Rattle.std.proofs.lemmas.Grind.{flat_map-append}
use Rattle.std.proofs.lemmas.Option.{slice_get-map}
use Rattle.std.proofs.lemmas.Slice.Eq.{bytes_eq-Decides}
use Rattle.mm_model.specs.declared.frames.Frame.{Frame}
use Rattle.mm_model.specs.Names.{Name, label, label_named, contains}
use Rattle.mm_model.specs.Statements.{Statement, has_keyword, labels}
use Rattle.mm_model.specs.Frames.{positions, statement_of, is_assertion, frame_at, frame_of}
use Rattle.proof_model.specs.DatabaseProofs.{frames_of_database, proof_words, proof_of}
use Rattle.install_laws.specs.InstalledStatements.{names, tokens_of}
use Rattle.install_laws.proofs.DatabaseLaw.{numbers_from, positions_by, numbers_append, numbers_count}
use Rattle.install_laws.proofs.MovedLists.{position_here, position_behind}
use Rattle.install_laws.proofs.NamesLaw.{label_names, labels_by}

-- ---- lists

get_there : {X : Type 0} (xs : List X) (x : X) (ys : List X) (k : ℕ) → length xs ≡ k → slice_get (xs ++ x ∷ ys) k ≡ Some x
get_there [] x ys zero e = refl
get_there [] x ys (suc k) e = absurd cc
get_there (y ∷ xs) x ys zero e = absurd cc
get_there (y ∷ xs) x ys (suc k) e = let less : length xs ≡ k = omega (arith, e) in get_there xs x ys k less

pub none_of : (name : Name) (ns : List Name) → contains ns name ≡ false → AllByRecursion (λ n. bytes_eq name n ≡ false) ns
none_of name [] h = tt
none_of name (n ∷ ns) h = let both = or_parts (bytes_eq name n) (contains ns name) h in (both.0, none_of name ns both.1)

position_there : (name : Name) (ns rest : List Name) → contains ns name ≡ false → position (bytes_eq name) (ns ++ name ∷ rest) ≡ Some (length ns)
position_there name ns rest h =
    position_behind (bytes_eq name) ns (name ∷ rest) (none_of name ns h)
    ∙ ap (option_map (λ n. n + length ns)) (position_here (bytes_eq name) name rest ((bytes_eq-Decides name name).1 refl))
    ∙ (let same : 0 + length ns ≡ length ns = omega arith in ap (λ n. Some n) same)

some_names : (o : Option Statement) (s : List Name) → option_map names o ≡ Some s → (w : Statement) × (o ≡ Some w) × (names w ≡ s)
some_names None s e = absurd cc
some_names (Some w) s e = (w, refl, inner (names w) s e)
  where
    inner : (a b : List Name) → Some a ≡ Some b → a ≡ b
    inner a b h = cc

-- ---- the statement

module _ (ss : List Statement) (before : List (List Name)) (s : List Name) (behind : List (List Name)) (name : Name)
    (are : tokens_of ss ≡ before ++ s ∷ behind) (own : label_names s ≡ name ∷ []) (first : contains (flat_map label_names before) name ≡ false) where
  abbrev pub count : ℕ
  count = length (flat_map label_names before)

  all_labels : labels ss ≡ flat_map label_names before ++ name ∷ flat_map label_names behind
  all_labels =
      labels_by ss ∙ ap (flat_map label_names) are ∙ flat_map-append label_names before (s ∷ behind)
      ∙ ap (λ ns. flat_map label_names before ++ (ns ++ flat_map label_names behind)) own

  pub label_is : label_named (labels ss) name ≡ Some (label count)
  label_is =
      ap (λ ns. option_map label (position (bytes_eq name) ns)) all_labels
      ∙ ap (option_map label) (position_there name (flat_map label_names before) (flat_map label_names behind) first)

  all_positions : positions ss ≡ numbers_from 0 before ++ length before ∷ numbers_from (suc (length before)) behind
  all_positions =
      let same : 0 + length before ≡ length before = omega arith in
      positions_by 0 ss ∙ ap (numbers_from 0) are ∙ numbers_append 0 before (s ∷ behind)
      ∙ ap (λ k. numbers_from 0 before ++ numbers_from k (s ∷ behind)) same
      ∙ ap (λ ns. numbers_from 0 before ++ (map (λ n. length before) ns ++ numbers_from (suc (length before)) behind)) own

  position_is : slice_get (positions ss) count ≡ Some (length before)
  position_is =
      ap (λ xs. slice_get xs count) all_positions
      ∙ get_there (numbers_from 0 before) (length before) (numbers_from (suc (length before)) behind) count (numbers_count 0 before)

  pub there : (w : Statement) × (slice_get ss (length before) ≡ Some w) × (names w ≡ s)
  there =
      some_names (slice_get ss (length before)) s
      (sym (slice_get-map names ss (length before)) ∙ ap (λ xs. slice_get xs (length before)) are ∙ get_there before s behind (length before) refl)

  abbrev pub statement : Statement
  statement = there.0

  statement_is : statement_of ss (label count) ≡ Some (length before, statement)
  statement_is =
      ap (option_and_then (λ at. option_map (λ v. (at, v)) (slice_get ss at))) position_is ∙ ap (option_map (λ v. (length before, v))) there.1

  pub frame_is : frame_of ss (label count) ≡ cond (is_assertion statement) (Some (frame_at ss (label count) (length before) statement)) None
  frame_is = ap (option_and_then (λ p. cond (is_assertion p.1) (Some (frame_at ss (label count) p.0 p.1)) None)) statement_is

  pub proof_is : proof_of ss (label count) ≡ cond (has_keyword (codes "$p") statement) (Some (proof_words statement)) None
  proof_is = ap (option_and_then (λ p. cond (has_keyword (codes "$p") p.1) (Some (proof_words p.1)) None)) statement_is

  pub named_frame : frames_of_database ss name ≡ cond (is_assertion statement) (Some (frame_at ss (label count) (length before) statement)) None
  named_frame = ap (option_and_then (frame_of ss)) label_is ∙ frame_is
