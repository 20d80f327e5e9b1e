-- A text without a fault has none with a theorem in it that can be put in.
use Rattle.std.proofs.Common.{◌≡◌, ◌≤◌, ℕ, Bool, true, false, not, ◌&&◌, cond, nat_lt, List, [], ◌∷◌, ◌++◌, length, take, drop, reverse, flat_map}
use Rattle.std.proofs.Common.{Option, None, Some, refl, sym, ap, ◌∙◌, subst, inl, inr, arith}
use Rattle.std.specs.List.{AllByRecursion, list_any, list_all}
use Rattle.std.specs.Str.{bytes_eq}
use Rattle.std.proofs.lemmas.Bool.{cases_Bool, and_parts, or_cases, both_ways, not-true}
use Rattle.std.proofs.lemmas.Bool.Decides.{nat_tests}
use Rattle.std.proofs.lemmas.Grind.{flat_map-append}
use Rattle.std.proofs.lemmas.List.{append-nil, reverse-append, reverse-reverse, take-append-drop}
use Rattle.mm_base.specs.Limits.{most_database_bytes}
use Rattle.mm_model.specs.Faults.{Fault, fault, or_else, earlier}
use Rattle.mm_model.specs.Labels.{is_label_byte}
use Rattle.mm_model.specs.Names.{Name, contains}
use Rattle.mm_model.specs.Words.{Word}
use Rattle.mm_model.specs.Tokens.{tokens, token_fault, words_fault, bad_byte}
use Rattle.mm_model.specs.Statements.{Statement, statements, constants, variables, typed, labels, path, ended, unended, is_empty, end_fault, statement_fault, database_fault}
use Rattle.mm_model.specs.Frames.{below}
use Rattle.model_laws.proofs.Checked.{last_first, text_checked, no_statement_fault, or_else_none}
use Rattle.model_laws.proofs.Listed.{all_with, all_and, all-reverse, name_self, same_names}
use Rattle.model_laws.proofs.OwnLeaves.{members}
use Rattle.model_laws.proofs.Passing.{any-reverse, any-take, any-flat}
use Rattle.install_model.specs.declared.install.NewTheorem.{NewTheorem}
use Rattle.install_model.specs.Installed.{installed}
use Rattle.install_laws.specs.InstalledStatements.{names, tokens_of, IsPlain, IsPlainTheorem}
use Rattle.install_laws.proofs.ActiveBlock.{closed}
use Rattle.install_laws.proofs.ActiveLaw.{inner, backward, block_is}
use Rattle.install_laws.proofs.ActiveNames.{path_of, path_by, variables_of, variables_by, below_is, map-reverse}
use Rattle.install_laws.proofs.NamesLaw.{label_names, labels_by, block_labels}
use Rattle.install_model.specs.Moved.{block_statements, new_labels}
use Rattle.install_laws.proofs.StatementsLaw.{statements_are_put_in}
use Rattle.installed_laws.specs.CanBePutIn.{CanBePutIn, is_meant, is_formula, is_pair}
use Rattle.installed_laws.specs.InstalledFault.{InstalledTextHasNoFault}
use Rattle.installed_laws.proofs.RuleTable.{constants_of, typed_of, labels_of, constants_by, typed_by}
use Rattle.installed_laws.proofs.Walks.{Each, each_walked, no_token_fault}
use Rattle.installed_laws.proofs.WordFaults.{are_fine, no_words_fault, fine_new, left_new}
use Rattle.installed_laws.proofs.ByteFaults.{good_text, no_bad_byte, earlier_none, new_good, named, all_dropped, mapped_left}
use Rattle.installed_laws.proofs.ConstantsApart.{constants_apart, active_ever}
use Rattle.installed_laws.proofs.BlockWalk.{Quiet, Fits, Formula, Meant, IsHyp, in_block, block_passes}
use Rattle.installed_laws.proofs.Behind.{closed_block, each_behind, path_behind, HasOtherLabels}

-- ---- the parts of a text's fault

large_none : (b : Bool) (f : Fault) (o p : Option Fault) → cond b (Some f) (or_else o p) ≡ None → o ≡ None
large_none true f o p h = absurd cc
large_none false f o p h = (or_else_none o p h).0

no_token_fault_of : (text : List ℕ) → database_fault text ≡ None → token_fault text ≡ None
no_token_fault_of text h = large_none (nat_lt most_database_bytes (length text)) (fault most_database_bytes 30) (token_fault text) (statement_fault text) h

-- nothing is open at the text's end
ends_closed : (n : ℕ) (before : List Word) → end_fault n before ≡ None → (is_empty (unended before) ≡ true) × (is_empty (path (ended before)) ≡ true)
ends_closed n before h = by (is_empty (unended before)) (is_empty (path (ended before))) h
  where
    by : (a b : Bool) → cond (not a) (Some (fault n 21)) (cond (not b) (Some (fault n 22)) None) ≡ None → (a ≡ true) × (b ≡ true)
    by true true h = (refl, refl)
    by true false h = absurd cc
    by false b h = absurd cc

is_nil : {X : Type 0} (xs : List X) → is_empty xs ≡ true → xs ≡ []
is_nil [] h = refl
is_nil (x ∷ xs) h = absurd cc

no_names : (ws : List Word) → names ws ≡ [] → ws ≡ []
no_names [] h = refl
no_names (w ∷ ws) h = absurd cc

no_fault_by : (text : List ℕ) → length text ≤ most_database_bytes → token_fault text ≡ None → statement_fault text ≡ None → database_fault text ≡ None
no_fault_by text small t s =
    let fits : nat_lt most_database_bytes (length text) ≡ false = grind (arith, nat_tests, small) in
    ap (λ b. cond b (Some (fault most_database_bytes 30)) (or_else (token_fault text) (statement_fault text))) fits
    ∙ ap (λ o. or_else o (statement_fault text)) t ∙ s

-- ---- lists of statements

tokens_turned : (text : List ℕ) → tokens_of (last_first text) ≡ reverse (tokens_of (statements text))
tokens_turned text = sym (reverse-reverse (tokens_of (last_first text))) ∙ ap reverse (sym (map-reverse names (last_first text)))

each_tail : (y e : List (List Name)) → Each (y ++ e) → Each e
each_tail [] e h = h
each_tail (s ∷ y) e h = each_tail y e h.1

three_turned : {X : Type 0} (a b c : List X) → reverse (a ++ b ++ c) ≡ reverse c ++ (reverse b ++ reverse a)
three_turned a b c = reverse-append (a ++ b) c ∙ ap (λ xs. reverse c ++ xs) (reverse-append a b)

-- ---- the labels of the block

inner_labels : (t : NewTheorem) → IsPlainTheorem t → flat_map label_names (inner t) ≡ new_labels t
inner_labels t p =
    sym (append-nil (flat_map label_names (inner t))) ∙ sym (flat_map-append label_names (inner t) (closed ∷ [])) ∙ sym (ap (flat_map label_names) (block_is t)) ∙ block_labels t p

turned_labels : (t : NewTheorem) → IsPlainTheorem t → (n : Name) → contains (new_labels t) n ≡ false → contains (labels_of (reverse (inner t))) n ≡ false
turned_labels t p n h = elim (cases_Bool (contains (labels_of (reverse (inner t))) n)) [
  | inr d ↦ d
  | inl d ↦
      let some : list_any (λ s. contains (label_names s) n) (inner t) ≡ true =
      any-reverse (λ s. contains (label_names s) n) (inner t) (sym (any-flat (bytes_eq n) label_names (reverse (inner t))) ∙ d) in
      absurd (both_ways (contains (new_labels t) n) h (ap (λ ns. contains ns n) (sym (inner_labels t p)) ∙ any-flat (bytes_eq n) label_names (inner t) ∙ some))
]

-- the labels of the text are none of the new ones
module _ (text : List ℕ) (t : NewTheorem) (plain : IsPlainTheorem t) (fresh : AllByRecursion (λ n. contains (labels (statements text)) n ≡ false) (new_labels t)) where
  abbrev old : List (List Name)
  old = tokens_of (statements text)

  old_label : (n : Name) → contains (labels_of old) n ≡ true → contains (new_labels t) n ≡ false
  old_label n h = elim (cases_Bool (contains (new_labels t) n)) [
    | inr d ↦ d
    | inl d ↦
        let none : contains (labels (statements text)) n ≡ false = named (λ m. contains (labels (statements text)) m ≡ false) (new_labels t) n fresh d in
        absurd (both_ways (contains (labels (statements text)) n) none (ap (λ ns. contains ns n) (labels_by (statements text)) ∙ h))
  ]

  other_labels : (s : List Name) → ((q : List Name → Bool) → q s ≡ true → list_any q old ≡ true) → AllByRecursion (λ n. contains (labels_of (reverse (inner t))) n ≡ false) (label_names s)
  other_labels s member =
      all_with (λ n. (q : Name → Bool) → q n ≡ true → list_any q (label_names s) ≡ true) (λ n. contains (labels_of (reverse (inner t))) n ≡ false)
      (λ n own. turned_labels t plain n (old_label n (any-flat (bytes_eq n) label_names old ∙ member (λ x. contains (label_names x) n) (own (bytes_eq n) (name_self n)))))
      (label_names s) (members [] (label_names s))

  all_other : AllByRecursion (λ s. AllByRecursion (λ n. contains (labels_of (reverse (inner t))) n ≡ false) (label_names s)) old
  all_other = all_with _ _ other_labels old (members [] old)

-- ---- what the theorem has, by the bytes of tokens

module _ (text : List ℕ) (place : ℕ) (t : NewTheorem) (can : CanBePutIn text place t) where
  abbrev b : List Statement
  b = below (statements text) place

  abbrev front : List (List Name)
  front = take place (tokens_of (statements text))

  abbrev base : List (List Name)
  base = reverse front

  base_is : tokens_of b ≡ base
  base_is = below_is (statements text) place

  outside : path_of base ≡ []
  outside = ap path_of (sym base_is) ∙ sym (path_by b) ∙ can.outside

  constants_are : constants b ≡ constants_of base
  constants_are = constants_by b ∙ ap constants_of base_is

  variables_are : variables b ≡ variables_of base
  variables_are = variables_by b ∙ ap variables_of base_is

  typed_are : typed b ≡ typed_of base
  typed_are = typed_by b ∙ ap typed_of base_is

  module _ (each : Each base) where
    no_variable : (n : Name) → contains (constants_of base) n ≡ true → contains (variables_of base) n ≡ false
    no_variable n h = elim (cases_Bool (contains (variables_of base) n)) [
      | inl d ↦ absurd (constants_apart base each n h (active_ever base n d))
      | inr d ↦ d
    ]

    is_constant : (n : Name) → contains (constants b) n ≡ true → (contains (constants_of base) n ≡ true) × (contains (variables_of base) n ≡ false)
    is_constant n h = let k = ap (λ ns. contains ns n) (sym constants_are) ∙ h in (k, no_variable n k)

    meant : (n : Name) → is_meant b n ≡ true → Meant (constants_of base) (variables_of base) (typed_of base) n
    meant n h = elim (or_cases (contains (constants b) n) (contains (variables b) n && contains (typed b) n) h) [
      | inl d ↦ inl (is_constant n d)
      | inr d ↦
          let both = and_parts (contains (variables b) n) (contains (typed b) n) d in
          inr (ap (λ ns. contains ns n) (sym variables_are) ∙ both.0, ap (λ ns. contains ns n) (sym typed_are) ∙ both.1)
    ]

    all_meant : (ns : List Name) → list_all (is_meant b) ns ≡ true → AllByRecursion (Meant (constants_of base) (variables_of base) (typed_of base)) ns
    all_meant [] h = tt
    all_meant (n ∷ ns) h = let both = and_parts (is_meant b n) (list_all (is_meant b) ns) h in (meant n both.0, all_meant ns both.1)

    formula : (ns : List Name) → is_formula b ns ≡ true → Formula (constants_of base) (variables_of base) (typed_of base) ns
    formula [] h = absurd cc
    formula (n ∷ ns) h = let both = and_parts (contains (constants b) n) (list_all (is_meant b) ns) h in (is_constant n both.0, all_meant ns both.1)

    other_way : (x y : Name) → not (bytes_eq x y) ≡ true → bytes_eq y x ≡ false
    other_way x y h = elim (cases_Bool (bytes_eq y x)) [
      | inl d ↦ absurd (both_ways (bytes_eq x y) (not-true _ h) (subst (λ z. bytes_eq z y ≡ true) (same_names y x d) (name_self y)))
      | inr d ↦ d
    ]

    pair : (p : Name × Name) → is_pair b p ≡ true → (contains (variables_of base) p.0 ≡ true) × ((contains (variables_of base) p.1 ≡ true) × (bytes_eq p.1 p.0 ≡ false))
    pair p h = by (contains (variables b) p.0) (contains (variables b) p.1) (not (bytes_eq p.0 p.1)) refl refl refl h
      where
        by : (x y z : Bool) → contains (variables b) p.0 ≡ x → contains (variables b) p.1 ≡ y → not (bytes_eq p.0 p.1) ≡ z → (x && y && z) ≡ true
            → (contains (variables_of base) p.0 ≡ true) × ((contains (variables_of base) p.1 ≡ true) × (bytes_eq p.1 p.0 ≡ false))
        by true true true e f g k = (ap (λ ns. contains ns p.0) (sym variables_are) ∙ e, (ap (λ ns. contains ns p.1) (sym variables_are) ∙ f, other_way p.0 p.1 g))
        by true true false e f g k = absurd cc
        by true false z e f g k = absurd cc
        by false y z e f g k = absurd cc

    new_label : (n : Name) → contains (labels (statements text)) n ≡ false → contains (labels_of base) n ≡ false
    new_label n h = elim (cases_Bool (contains (labels_of base) n)) [
      | inr d ↦ d
      | inl d ↦
          let q : List Name → Bool = λ s. contains (label_names s) n in
          let some : list_any q (tokens_of (statements text)) ≡ true =
          any-take q place (tokens_of (statements text)) (any-reverse q front (sym (any-flat (bytes_eq n) label_names base) ∙ d)) in
          absurd (both_ways (contains (labels (statements text)) n) h
          (ap (λ ns. contains ns n) (labels_by (statements text)) ∙ any-flat (bytes_eq n) label_names (tokens_of (statements text)) ∙ some))
    ]

    fits : Fits base outside t
    fits =
        let bytes = mapped_left (λ n. list_all is_label_byte n ≡ true) (λ (h : Name × List Name). h.0) t.hyps t.name can.label_bytes in
        record {
          pairs = all_and _ _ _ (λ p plain k. (plain, pair p k)) t.pairs can.plain.pairs can.pairs;
          hyps =
              all_and (λ (h : Name × List Name). (IsPlain h.0 × AllByRecursion IsPlain h.1) × (list_all is_label_byte h.0 ≡ true)) (λ h. is_formula b h.1 ≡ true) (IsHyp base outside)
              (λ h one k. ((one.0.0, one.1), (one.0.1, formula h.1 k))) t.hyps
              (all_and (λ (h : Name × List Name). IsPlain h.0 × AllByRecursion IsPlain h.1) (λ h. list_all is_label_byte h.0 ≡ true)
              (λ h. (IsPlain h.0 × AllByRecursion IsPlain h.1) × (list_all is_label_byte h.0 ≡ true)) (λ h plain l. (plain, l)) t.hyps can.plain.hyps bytes.0) can.hyps;
          label = (can.plain.name, bytes.1);
          formula = (can.plain.formula, formula t.formula can.formula);
          proof = can.plain.proof;
          fresh = all_with _ _ new_label (new_labels t) can.labels_new;
          differ = can.labels_differ;
        }

-- ---- the law

module _ (text : List ℕ) (place : ℕ) (t : NewTheorem) (ok : database_fault text ≡ None) (can : CanBePutIn text place t) where
  abbrev new : List ℕ
  new = installed text place t

  abbrev back : List (List Name)
  back = reverse (drop place (tokens_of (statements text)))

  abbrev i : List (List Name)
  i = reverse (inner t)

  sound : statement_fault text ≡ None
  sound = no_statement_fault text ok

  closed_end : (is_empty (unended (reverse (tokens text))) ≡ true) × (is_empty (path (last_first text)) ≡ true)
  closed_end = ends_closed (length text) (reverse (tokens text)) (or_else_none _ (end_fault (length text) (reverse (tokens text))) sound).1

  old_turned : tokens_of (last_first text) ≡ back ++ base text place t can
  old_turned =
      tokens_turned text ∙ ap reverse (sym (take-append-drop place (tokens_of (statements text))))
      ∙ reverse-append (take place (tokens_of (statements text))) (drop place (tokens_of (statements text)))

  each_old : Each (back ++ base text place t can)
  each_old = subst Each old_turned (each_walked (last_first text) (text_checked text sound))

  each_base : Each (base text place t can)
  each_base = each_tail back (base text place t can) each_old

  abbrev out : path_of (base text place t can) ≡ []
  out = outside text place t can

  block_fits : AllByRecursion Quiet i × Each (closed ∷ in_block (base text place t can) out i)
  block_fits = block_passes (base text place t can) out t (fits text place t can each_base) each_base

  new_turned : tokens_of (last_first new) ≡ back ++ closed_block (base text place t can) i out block_fits.0
  new_turned =
      tokens_turned new ∙ ap reverse (statements_are_put_in text place t can.within can.plain)
      ∙ three_turned (take place (tokens_of (statements text))) (block_statements t) (drop place (tokens_of (statements text)))
      ∙ ap (λ ss. back ++ (ss ++ base text place t can)) (backward t)

  other : AllByRecursion (HasOtherLabels (base text place t can) i out block_fits.0) back
  other =
      all-reverse _ (drop place (tokens_of (statements text))) (all_dropped _ place (tokens_of (statements text)) (all_other text t can.plain can.labels_new))

  each_new : Each (tokens_of (last_first new))
  each_new = subst Each (sym new_turned) (each_behind (base text place t can) i out block_fits.0 back other each_old block_fits.1)

  none_left : unended (reverse (tokens new)) ≡ []
  none_left = no_names (unended (reverse (tokens new))) (left_new text place t can.within can.plain ∙ ap names (is_nil (unended (reverse (tokens text))) closed_end.0))

  none_open : is_empty (path (last_first new)) ≡ true
  none_open =
      ap is_empty (path_by (last_first new) ∙ ap path_of new_turned) ∙ path_behind (base text place t can) i out block_fits.0 back
      ∙ ap is_empty (ap path_of (sym old_turned) ∙ sym (path_by (last_first text))) ∙ closed_end.1

  no_end_fault : end_fault (length new) (reverse (tokens new)) ≡ None
  no_end_fault =
      ap (λ u. cond (not (is_empty u)) (Some (fault (length new) 21)) (cond (not (is_empty (path (last_first new)))) (Some (fault (length new) 22)) None)) none_left
      ∙ ap (λ x. cond (not x) (Some (fault (length new) 22)) None) none_open

  statements_sound : statement_fault new ≡ None
  statements_sound = ap (λ o. or_else o (end_fault (length new) (reverse (tokens new)))) (no_token_fault new each_new none_left) ∙ no_end_fault

  tokens_sound : token_fault new ≡ None
  tokens_sound =
      let both = earlier_none (bad_byte text) (words_fault text) (no_token_fault_of text ok) in
      ap (λ o. earlier o (words_fault new)) (no_bad_byte new (new_good text place t (good_text text both.0) can))
      ∙ no_words_fault new (fine_new text place t can.within can.plain (are_fine text both.1))

pub installed_text_has_no_fault : InstalledTextHasNoFault
installed_text_has_no_fault text place t ok can small = no_fault_by (installed text place t) small (tokens_sound text place t ok can) (statements_sound text place t ok can)
