-- A statement behind a closed block passes the rules, where it passed them without the block and has no label of it.
use Rattle.std.proofs.Common.{◌≡◌, Bool, true, false, ◌&&◌, ◌||◌, cond, List, [], ◌∷◌, ◌++◌, take, map, flat_map, refl, sym, ap, ◌∙◌, subst, inl, inr, codes}
use Rattle.std.specs.Prelude.{filter}
use Rattle.std.specs.List.{AllByRecursion}
use Rattle.std.specs.Str.{bytes_eq}
use Rattle.std.proofs.lemmas.Bool.{cases_Bool, and_parts}
use Rattle.std.proofs.lemmas.Grind.{flat_map-append}
use Rattle.std.proofs.lemmas.List.{append-nil}
use Rattle.std.proofs.lemmas.List.Folds.{list_any-append}
use Rattle.mm_model.specs.Names.{Name, contains}
use Rattle.mm_model.specs.Statements.{is_empty, second}
use Rattle.install_laws.proofs.NamesLaw.{is_plain, symbol_names, label_names}
use Rattle.install_laws.proofs.ActiveNames.{has_kw, path_of, variables_of}
use Rattle.install_laws.proofs.ActiveBlock.{IsNoBrace, opened, closed, kept_behind, path_over}
use Rattle.installed_laws.proofs.RuleTable.{Known, AllFalse, table, known, front, token, taken, extra, bad, is_label_at, constants_of, ever_of, typed_of, labels_of, Passes}
use Rattle.installed_laws.proofs.Walks.{Walk, Each}
use Rattle.installed_laws.proofs.BlockWords.{and_false, empty_at}
use Rattle.installed_laws.proofs.ConstantsApart.{while_plain}
use Rattle.installed_laws.proofs.BlockWalk.{Quiet, in_block, all_kept, quiet_part}

empty_map : {X Y : Type 0} (f : X → Y) (xs : List X) → is_empty (map f xs) ≡ is_empty xs
empty_map f [] = refl
empty_map f (x ∷ xs) = refl

abbrev known_with : List Name → List Name → List Name → List Name → Bool → Name → Known
known_with cs es vs ts o w = record { constant = contains cs w; ever = contains es w; variable = contains vs w; typed = contains ts w; outside = o }

-- `i` are the statements in the block, the nearest first
module _ (base i : List (List Name)) (outside : path_of base ≡ []) (quiet : AllByRecursion Quiet i) where
  abbrev pub closed_block : List (List Name)
  closed_block = closed ∷ in_block base outside i

  calm : AllByRecursion IsNoBrace i
  calm = quiet_part base outside IsNoBrace (λ s k. k.0) i quiet

  pub path_behind : (y : List (List Name)) → is_empty (path_of (y ++ closed_block)) ≡ is_empty (path_of (y ++ base))
  path_behind y = ap is_empty (path_over i base calm outside y) ∙ empty_map _ (path_of (y ++ base))

  all_behind : (kind : List Name → Bool) → kind opened ≡ false → kind closed ≡ false → AllByRecursion (λ s. kind s ≡ false) i
      → (y : List (List Name)) → filter kind (y ++ closed_block) ≡ filter kind (y ++ base)
  all_behind kind o c h [] = ap (λ b. cond b (closed ∷ filter kind (in_block base outside i)) (filter kind (in_block base outside i))) c ∙ all_kept base outside kind o i h
  all_behind kind o c h (s ∷ y) = ap (λ xs. cond (kind s) (s ∷ xs) xs) (all_behind kind o c h y)

  known_behind : (y : List (List Name)) (w : Name) → known (y ++ closed_block) w ≡ known (y ++ base) w
  known_behind y w =
      let e = y ++ closed_block in
      let d = y ++ base in
      let cs = quiet_part base outside (λ s. has_kw (codes "$c") s ≡ false) (λ s k. k.1.0) i quiet in
      let vs = quiet_part base outside (λ s. has_kw (codes "$v") s ≡ false) (λ s k. k.1.1.0) i quiet in
      ap (λ xs. known_with (flat_map symbol_names xs) (ever_of e) (variables_of e) (typed_of e) (is_empty (path_of e)) w) (all_behind (has_kw (codes "$c")) refl refl cs y)
      ∙ ap (λ xs. known_with (constants_of d) (flat_map symbol_names xs) (variables_of e) (typed_of e) (is_empty (path_of e)) w) (all_behind (has_kw (codes "$v")) refl refl vs y)
      ∙ ap (λ xs. known_with (constants_of d) (ever_of d) (flat_map symbol_names xs) (typed_of e) (is_empty (path_of e)) w) (kept_behind i base calm outside (has_kw (codes "$v")) refl y)
      ∙ ap (λ xs. known_with (constants_of d) (ever_of d) (variables_of d) (flat_map (λ s. second (symbol_names s)) xs) (is_empty (path_of e)) w)
      (kept_behind i base calm outside (has_kw (codes "$f")) refl y)
      ∙ ap (λ b. known_with (constants_of d) (ever_of d) (variables_of d) (typed_of d) b w) (path_behind y)

  -- ---- labels

  labels_behind : (y : List (List Name)) (w : Name) → contains (labels_of i) w ≡ false → contains (labels_of (y ++ closed_block)) w ≡ contains (labels_of (y ++ base)) w
  labels_behind y w h =
      ap (λ ns. contains ns w) (flat_map-append label_names y closed_block) ∙ list_any-append (bytes_eq w) (labels_of y) (labels_of closed_block)
      ∙ ap (λ b. contains (labels_of y) w || b) block_labels
      ∙ sym (ap (λ ns. contains ns w) (flat_map-append label_names y base) ∙ list_any-append (bytes_eq w) (labels_of y) (labels_of base))
    where
      block_labels : contains (labels_of closed_block) w ≡ contains (labels_of base) w
      block_labels =
          ap (λ ns. contains ns w) (flat_map-append label_names (i ++ opened ∷ []) base) ∙ list_any-append (bytes_eq w) (labels_of (i ++ opened ∷ [])) (labels_of base)
          ∙ ap (λ ns. contains ns w || contains (labels_of base) w) (flat_map-append label_names i (opened ∷ []) ∙ append-nil (labels_of i))
          ∙ ap (λ b. b || contains (labels_of base) w) h

  -- ---- a word behind the block

  abbrev IsOther : List Name → Name → Type 0
  IsOther f w = is_label_at f w ≡ true → contains (labels_of i) w ≡ false

  same_taken : (y : List (List Name)) (f : List Name) (w : Name) → IsOther f w → taken (y ++ closed_block) f w ≡ taken (y ++ base) f w
  same_taken y f w h = elim (cases_Bool (is_label_at f w)) [
    | inl e ↦ ap (λ b. is_label_at f w && b) (labels_behind y w (h e))
    | inr e ↦ ap (λ b. b && contains (labels_of (y ++ closed_block)) w) e ∙ sym (ap (λ b. b && contains (labels_of (y ++ base)) w) e)
  ]

  passes_behind : (y : List (List Name)) (f : List Name) (w : Name) (after : List Name) → IsOther f w → Passes (y ++ base) f w after → Passes (y ++ closed_block) f w after
  passes_behind y f w after other h =
      subst (λ k. AllFalse (table k (front f w) (token w) (taken (y ++ closed_block) f w) (extra f w after) (bad f w))) (sym (known_behind y w))
      (subst (λ b. AllFalse (table (known (y ++ base) w) (front f w) (token w) b (extra f w after) (bad f w))) (sym (same_taken y f w other)) h)

  -- behind its first word
  walk_on : (y : List (List Name)) (f s : List Name) → is_empty f ≡ false → Walk (y ++ base) f s → Walk (y ++ closed_block) f s
  walk_on y f [] e h = tt
  walk_on y f (w ∷ s) e h = (passes_behind y f w (take 1 s) (λ is. absurd (no_label is)) h.0, walk_on y (f ++ w ∷ []) s (empty_at f w []) h.1)
    where
      no_label : is_label_at f w ≡ true → ⊥
      no_label is = let bad : true ≡ false = sym is ∙ ap (λ b. is_plain w && b) e ∙ and_false (is_plain w) in cc

  -- a statement without a label of the block
  abbrev pub HasOtherLabels : List Name → Type 0
  HasOtherLabels s = AllByRecursion (λ n. contains (labels_of i) n ≡ false) (label_names s)

  walk_behind : (y : List (List Name)) (s : List Name) → HasOtherLabels s → Walk (y ++ base) [] s → Walk (y ++ closed_block) [] s
  walk_behind y [] other h = tt
  walk_behind y (w ∷ s) other h = (passes_behind y [] w (take 1 s) own h.0, walk_on y (w ∷ []) s refl h.1)
    where
      own : IsOther [] w
      own is = (subst (AllByRecursion (λ n. contains (labels_of i) n ≡ false)) (while_plain w s (and_parts (is_plain w) true is).0) other).0

  pub each_behind : (y : List (List Name)) → AllByRecursion HasOtherLabels y → Each (y ++ base) → Each closed_block → Each (y ++ closed_block)
  each_behind [] other h block = block
  each_behind (s ∷ y) other h block = (walk_behind y s other.0 h.0, each_behind y other.1 h.1 block)
