-- The bytes of a text with a theorem in it are those of a database.
use Rattle.std.proofs.Common.{◌≡◌, ◌<◌, ◌+◌, ℕ, zero, suc, Bool, true, false, not, ◌&&◌, ◌||◌, cond, nat_lt, List, [], ◌∷◌, ◌++◌, length, take, drop, map}
use Rattle.std.proofs.Common.{Option, None, Some, option_map, refl, sym, ap, ◌∙◌, subst, inl, inr, codes, flat_map, arith, nat_eq}
use Rattle.std.specs.List.{AllByRecursion, list_any, list_all, position_or_len, prefix_len, ends_with}
use Rattle.std.specs.Str.{bytes_eq}
use Rattle.std.proofs.lemmas.Bool.{cases_Bool, or_cases, and_parts, or_parts}
use Rattle.std.proofs.lemmas.Bool.Decides.{nat_tests}
use Rattle.std.proofs.lemmas.List.{take-append-drop}
use Rattle.std.proofs.lemmas.List.Folds.{list_any-append}
use Rattle.mm_model.specs.Faults.{Fault, fault, earlier, comes_first}
use Rattle.mm_model.specs.Labels.{is_label_byte}
use Rattle.mm_model.specs.Names.{Name, contains}
use Rattle.mm_model.specs.Tokens.{is_bad_byte, bad_byte}
use Rattle.mm_model.specs.Statements.{Statement, statements, constants, variables}
use Rattle.mm_model.specs.Frames.{below}
use Rattle.model_laws.proofs.Listed.{first_within, same_names, all-filter, all-reverse, all_with, all_and}
use Rattle.sheet_text.specs.Layout.{ended, spaced}
use Rattle.install_model.specs.declared.install.NewTheorem.{NewTheorem}
use Rattle.install_model.specs.Installed.{pair_line, hyp_line, theorem_line, block_lines, block, installed, place_byte}
use Rattle.install_laws.specs.InstalledStatements.{tokens_of}
use Rattle.install_laws.proofs.ActiveLaw.{all_append}
use Rattle.install_laws.proofs.ActiveNames.{path_of, on_path, variables_by, below_is}
use Rattle.install_laws.proofs.NamesLaw.{is_plain, body_names, symbol_names}
use Rattle.install_laws.proofs.StatementCuts.{opens, closes, ends, tokens_among, split_names, statements_are}
use Rattle.install_laws.proofs.WordLaws.{names_in, names_none}
use Rattle.installed_laws.specs.CanBePutIn.{is_meant, is_formula, is_pair, CanBePutIn}
use Rattle.installed_laws.proofs.RuleTable.{constants_by}

abbrev pub Good : List ℕ → Type 0
Good bs = list_any is_bad_byte bs ≡ false

-- ---- the rule of bytes

pub good_text : (text : List ℕ) → bad_byte text ≡ None → Good text
good_text text h = elim (cases_Bool (list_any is_bad_byte text)) [
  | inl e ↦
      let less : position_or_len is_bad_byte text < length text = first_within is_bad_byte text e in
      let test : nat_lt (position_or_len is_bad_byte text) (length text) ≡ true = grind (arith, nat_tests, less) in
      absurd (by (nat_lt (position_or_len is_bad_byte text) (length text)) test h)
  | inr e ↦ e
]
  where
    by : (t : Bool) → t ≡ true → option_map (λ at. fault at 1) (cond t (Some (position_or_len is_bad_byte text)) None) ≡ None → ⊥
    by true e h = cc
    by false e h = cc

none_passes : {X : Type 0} (p : X → Bool) (xs : List X) → list_any p xs ≡ false → position_or_len p xs ≡ length xs
none_passes p [] h = refl
none_passes p (x ∷ xs) h =
    let both = or_parts (p x) (list_any p xs) h in
    let rest = none_passes p xs both.1 in
    ap (λ b. cond (not b) (1 + position_or_len p xs) 0) both.0 ∙ ap (λ n. 1 + n) rest ∙ one_plus (length xs)
  where
    one_plus : (n : ℕ) → 1 + n ≡ suc n
    one_plus n = omega arith

pub no_bad_byte : (text : List ℕ) → Good text → bad_byte text ≡ None
no_bad_byte text h =
    let n = length text in
    let same : nat_lt n n ≡ false = grind (arith, nat_tests) in
    ap (λ k. option_map (λ at. fault at 1) (cond (nat_lt k n) (Some k) None)) (none_passes is_bad_byte text h)
    ∙ ap (λ b. option_map (λ at. fault at 1) (cond b (Some n) None)) same

pub earlier_none : (f g : Option Fault) → earlier f g ≡ None → (f ≡ None) × (g ≡ None)
earlier_none None g h = (refl, h)
earlier_none (Some f) None h = absurd cc
earlier_none (Some f) (Some g) h = absurd (by (comes_first f g) h)
  where
    by : (b : Bool) → cond b (Some f) (Some g) ≡ None → ⊥
    by true h = cc
    by false h = cc

-- ---- bytes in parts

good_join : (xs ys : List ℕ) → Good xs → Good ys → Good (xs ++ ys)
good_join xs ys h k = list_any-append is_bad_byte xs ys ∙ ap (λ b. b || list_any is_bad_byte ys) h ∙ k

good_front : (n : ℕ) (xs : List ℕ) → Good xs → Good (take n xs) × Good (drop n xs)
good_front n xs h =
    or_parts (list_any is_bad_byte (take n xs)) (list_any is_bad_byte (drop n xs))
    (sym (list_any-append is_bad_byte (take n xs) (drop n xs)) ∙ ap (list_any is_bad_byte) (take-append-drop n xs) ∙ h)

good_spaced : (xs : List (List ℕ)) → AllByRecursion Good xs → Good (spaced xs)
good_spaced [] h = refl
good_spaced (x ∷ []) h = h.0
good_spaced (x ∷ y ∷ xs) h = good_join x (32 ∷ spaced (y ∷ xs)) h.0 (good_join (32 ∷ []) (spaced (y ∷ xs)) refl (good_spaced (y ∷ xs) h.1))

good_ended : (xs : List (List ℕ)) → AllByRecursion Good xs → Good (flat_map ended xs)
good_ended [] h = refl
good_ended (x ∷ xs) h = good_join (ended x) (flat_map ended xs) (good_join x (10 ∷ []) h.0 refl) (good_ended xs h.1)

-- ---- the symbols that are declared in a text

pub all_taken : {X : Type 0} (P : X → Type 0) (n : ℕ) (xs : List X) → AllByRecursion P xs → AllByRecursion P (take n xs)
all_taken P zero xs h = tt
all_taken P (suc n) [] h = tt
all_taken P (suc n) (x ∷ xs) h = (h.0, all_taken P n xs h.1)

pub all_dropped : {X : Type 0} (P : X → Type 0) (n : ℕ) (xs : List X) → AllByRecursion P xs → AllByRecursion P (drop n xs)
all_dropped P zero xs h = h
all_dropped P (suc n) [] h = tt
all_dropped P (suc n) (x ∷ xs) h = all_dropped P n xs h.1

all_parts : {X Y : Type 0} (P : Y → Type 0) (f : X → List Y) (xs : List X) → AllByRecursion (λ x. AllByRecursion P (f x)) xs → AllByRecursion P (flat_map f xs)
all_parts P f [] h = tt
all_parts P f (x ∷ xs) h = all_append P (f x) (flat_map f xs) h.0 (all_parts P f xs h.1)

pub all_mapped : {X Y : Type 0} (P : Y → Type 0) (f : X → Y) (xs : List X) → AllByRecursion (λ x. P (f x)) xs → AllByRecursion P (map f xs)
all_mapped P f [] h = tt
all_mapped P f (x ∷ xs) h = (h.0, all_mapped P f xs h.1)

-- what holds of all words holds of the words of all statements
module _ (P : Name → Type 0) where
  all_tokens : (c : Bool) (ns : List Name) → AllByRecursion P ns → AllByRecursion P (tokens_among c ns)
  all_tokens true [] h = tt
  all_tokens false [] h = tt
  all_tokens true (n ∷ ns) h = all_tokens (not (closes n)) ns h.1
  all_tokens false (n ∷ ns) h = by (opens n) (all_tokens true ns h.1) (all_tokens false ns h.1)
    where
      by : (b : Bool) → AllByRecursion P (tokens_among true ns) → AllByRecursion P (tokens_among false ns) → AllByRecursion P (cond b (tokens_among true ns) (n ∷ tokens_among false ns))
      by true h' k = h'
      by false h' k = (h.0, k)

  all_split : (f ns : List Name) → AllByRecursion P f → AllByRecursion P ns → AllByRecursion (λ s. AllByRecursion P s) (split_names f ns)
  all_split f [] k h = tt
  all_split f (n ∷ ns) k h =
      let more : AllByRecursion P (f ++ n ∷ []) = all_append P f (n ∷ []) k (h.0, tt) in
      by (ends n) (all_split [] ns tt h.1) (all_split (f ++ n ∷ []) ns more h.1) more
    where
      by : (b : Bool) → AllByRecursion (λ s. AllByRecursion P s) (split_names [] ns) → AllByRecursion (λ s. AllByRecursion P s) (split_names (f ++ n ∷ []) ns) → AllByRecursion P (f ++ n ∷ [])
          → AllByRecursion (λ s. AllByRecursion P s) (cond b ((f ++ n ∷ []) ∷ split_names [] ns) (split_names (f ++ n ∷ []) ns))
      by true x y z = (z, x)
      by false x y z = y

  all_symbols : (s : List Name) → AllByRecursion P s → AllByRecursion P (symbol_names s)
  all_symbols s h =
      all_taken P (prefix_len is_plain (drop 1 (body_names s))) (drop 1 (body_names s)) (all_dropped P 1 (body_names s) (all_dropped P (prefix_len is_plain s) s h))

  all_on : (Q : List Name → Type 0) (p : List ℕ) (e : List (List Name)) → AllByRecursion Q e → AllByRecursion Q (on_path p e)
  all_on Q p [] h = tt
  all_on Q p (s ∷ e) h = by (ends_with nat_eq p (path_of e)) (all_on Q p e h.1)
    where
      by : (b : Bool) → AllByRecursion Q (on_path p e) → AllByRecursion Q (cond b (s ∷ on_path p e) (on_path p e))
      by true k = (h.0, k)
      by false k = k

  -- so also of a symbol among them
  pub named : (ns : List Name) (n : Name) → AllByRecursion P ns → contains ns n ≡ true → P n
  named [] n h c = absurd cc
  named (m ∷ ns) n h c = elim (or_cases (bytes_eq n m) (contains ns n) c) [
    | inl e ↦ subst P (sym (same_names n m e)) h.0
    | inr e ↦ named ns n h.1 e
  ]

module _ (text : List ℕ) (place : ℕ) (good : Good text) where
  abbrev b : List Statement
  b = below (statements text) place

  abbrev Goods : List Name → Type 0
  Goods ns = AllByRecursion Good ns

  all_below : AllByRecursion Goods (tokens_of b)
  all_below =
      let whole : AllByRecursion Goods (tokens_of (statements text)) =
      subst (AllByRecursion Goods) (sym (statements_are text)) (all_split Good [] (tokens_among false (names_in text)) tt (all_tokens Good false (names_in text) (names_none is_bad_byte text good))) in
      subst (AllByRecursion Goods) (sym (below_is (statements text) place)) (all-reverse Goods (take place (tokens_of (statements text))) (all_taken Goods place (tokens_of (statements text)) whole))

  constant_good : (n : Name) → contains (constants b) n ≡ true → Good n
  constant_good n h =
      named Good (constants b) n
      (subst Goods (sym (constants_by b)) (all_parts Good symbol_names _ (all_with Goods (λ s. Goods (symbol_names s)) (all_symbols Good) _ (all-filter Goods _ (tokens_of b) all_below)))) h

  variable_good : (n : Name) → contains (variables b) n ≡ true → Good n
  variable_good n h =
      named Good (variables b) n
      (subst Goods (sym (variables_by b)) (all_parts Good symbol_names _ (all_with Goods (λ s. Goods (symbol_names s)) (all_symbols Good) _
      (all-filter Goods _ _ (all_on Good Goods (path_of (tokens_of b)) (tokens_of b) all_below))))) h

  meant_good : (n : Name) → is_meant b n ≡ true → Good n
  meant_good n h = elim (or_cases (contains (constants b) n) (contains (variables b) n && _) h) [
    | inl c ↦ constant_good n c
    | inr v ↦ variable_good n (and_parts (contains (variables b) n) _ v).0
  ]

  all_meant : (ns : List Name) → list_all (is_meant b) ns ≡ true → Goods ns
  all_meant [] h = tt
  all_meant (n ∷ ns) h = let both = and_parts (is_meant b n) (list_all (is_meant b) ns) h in (meant_good n both.0, all_meant ns both.1)

  formula_good : (ns : List Name) → is_formula b ns ≡ true → Goods ns
  formula_good [] h = tt
  formula_good (n ∷ ns) h = let both = and_parts (contains (constants b) n) (list_all (is_meant b) ns) h in (constant_good n both.0, all_meant ns both.1)

  pair_good : (p : Name × Name) → is_pair b p ≡ true → Good p.0 × Good p.1
  pair_good p h = by (contains (variables b) p.0) (contains (variables b) p.1) (not (bytes_eq p.0 p.1)) refl refl h
    where
      by : (x y z : Bool) → contains (variables b) p.0 ≡ x → contains (variables b) p.1 ≡ y → (x && y && z) ≡ true → Good p.0 × Good p.1
      by true true z e f k = (variable_good p.0 e, variable_good p.1 f)
      by true false z e f k = absurd cc
      by false y z e f k = absurd cc

-- ---- labels

label_byte_good : (b : ℕ) → is_label_byte b ≡ true → is_bad_byte b ≡ false
label_byte_good b h = grind (arith, nat_tests, h)

label_good : (n : Name) → list_all is_label_byte n ≡ true → Good n
label_good [] h = refl
label_good (c ∷ n) h =
    let both = and_parts (is_label_byte c) (list_all is_label_byte n) h in
    ap (λ t. t || list_any is_bad_byte n) (label_byte_good c both.0) ∙ label_good n both.1

-- ---- the block

pub mapped_left : {X Y : Type 0} (P : Y → Type 0) (f : X → Y) (xs : List X) (y : Y) → AllByRecursion P (map f xs ++ y ∷ []) → AllByRecursion (λ x. P (f x)) xs × P y
mapped_left P f [] y h = (tt, h.0)
mapped_left P f (x ∷ xs) y h = let r = mapped_left P f xs y h.1 in ((h.0, r.0), r.1)

module _ (text : List ℕ) (place : ℕ) (t : NewTheorem) (good : Good text) (can : CanBePutIn text place t) where
  labels_good : AllByRecursion (λ (h : Name × List Name). list_all is_label_byte h.0 ≡ true) t.hyps × (list_all is_label_byte t.name ≡ true)
  labels_good = mapped_left (λ n. list_all is_label_byte n ≡ true) (λ (h : Name × List Name). h.0) t.hyps t.name can.label_bytes

  pair_lines : AllByRecursion Good (map pair_line t.pairs)
  pair_lines =
      all_mapped Good pair_line t.pairs (all_with _ (λ p. Good (pair_line p))
      (λ p h. let k = pair_good text place good p h in good_spaced (codes "$d" ∷ p.0 ∷ p.1 ∷ codes "$." ∷ []) (refl, (k.0, (k.1, (refl, tt))))) t.pairs can.pairs)

  hyp_lines : AllByRecursion Good (map hyp_line t.hyps)
  hyp_lines =
      all_mapped Good hyp_line t.hyps (all_and (λ (h : Name × List Name). list_all is_label_byte h.0 ≡ true) (λ h. is_formula (below (statements text) place) h.1 ≡ true) (λ h. Good (hyp_line h))
      (λ h l f. good_spaced (h.0 ∷ codes "$e" ∷ h.1 ++ codes "$." ∷ [])
      (all_append Good (h.0 ∷ codes "$e" ∷ h.1) (codes "$." ∷ []) (label_good h.0 l, (refl, formula_good text place good h.1 f)) (refl, tt))) t.hyps labels_good.0 can.hyps)

  theorem_line_good : Good (theorem_line t)
  theorem_line_good =
      good_spaced (t.name ∷ codes "$p" ∷ t.formula ++ codes "$=" ∷ t.proof ∷ codes "$." ∷ [])
      (all_append Good (t.name ∷ codes "$p" ∷ t.formula) (codes "$=" ∷ t.proof ∷ codes "$." ∷ [])
      (label_good t.name labels_good.1, (refl, formula_good text place good t.formula can.formula)) (refl, (can.proof_bytes, (refl, tt))))

  block_good : Good (block t)
  block_good =
      good_ended (block_lines t)
      (all_append Good ((codes "${" ∷ map pair_line t.pairs) ++ map hyp_line t.hyps) (theorem_line t ∷ codes "$}" ∷ [])
      (all_append Good (codes "${" ∷ map pair_line t.pairs) (map hyp_line t.hyps) (refl, pair_lines) hyp_lines) (theorem_line_good, (refl, tt)))

  pub new_good : Good (installed text place t)
  new_good =
      let at = place_byte (statements text) place in
      let parts = good_front at text good in
      good_join (take at text ++ block t) (drop at text) (good_join (take at text) (block t) parts.0 block_good) parts.1
