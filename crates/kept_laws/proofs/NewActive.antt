-- What is active at the theorem of a block, and its frame, by the tokens of the text.
use Rattle.std.proofs.Common.{◌≡◌, ◌≤◌, ◌<◌, ◌+◌, ℕ, Bool, true, false, cond, ◌||◌, ◌&&◌, List, [], ◌∷◌, ◌++◌, length, take, drop, map, flat_map, reverse, refl, sym, ap, ◌∙◌, codes, nat_eq, arith, subst, append_assoc, append-nil}
use Rattle.std.specs.Prelude.{filter}
use Rattle.std.specs.List.{AllByRecursion, ends_with, list_any}
use Rattle.std.proofs.lemmas.Bool.Decides.{nat_tests}
use Rattle.std.proofs.lemmas.List.{reverse-append, reverse-reverse, map-append}
use Rattle.mm_base.specs.declared.symbols.Label.{Label}
use Rattle.mm_base.specs.declared.symbols.Pair.{Pair}
use Rattle.mm_model.specs.declared.frames.Active.{Active}
use Rattle.mm_model.specs.declared.frames.Frame.{Frame}
use Rattle.mm_model.specs.declared.frames.Hyp.{Hyp}
use Rattle.mm_model.specs.Names.{Name, contains}
use Rattle.mm_model.specs.Statements.{Statement, statements}
use Rattle.mm_model.specs.Frames.{symbols, symbol_in, below, pair_of, active_at, frame_at}
use Rattle.mm_model.proofs.Scopes.{cond_else}
use Rattle.model_laws.proofs.Checked.{reverse-cons}
use Rattle.install_model.specs.declared.install.NewTheorem.{NewTheorem}
use Rattle.install_model.specs.Installed.{installed}
use Rattle.install_model.specs.Moved.{pair_statement, hyp_statement, theorem_statement}
use Rattle.install_laws.specs.InstalledStatements.{names, tokens_of, HasNoDollar, IsPlain, IsPlainTheorem}
use Rattle.install_laws.proofs.ActiveBlock.{IsNoBrace, opened, within, only_outside}
use Rattle.install_laws.proofs.ActiveLaw.{same_symbols, pairs_open_nothing, hyps_open_nothing, all_append, all_reverse}
use Rattle.install_laws.proofs.ActiveNames.{has_kw, path_of, path_by, on_path, active_of, variables_of, hyp_of, pairs_among, active_variables_of, hyp_kw, what_is_active, active_is, below_is, filter-append, filter-reverse}
use Rattle.install_laws.proofs.FrameNames.{mandatory_by, mandatory_of, is_mandatory, frame_by, what_frame, frame_is}
use Rattle.install_laws.proofs.NamesLaw.{keyword_is, plain_is, symbol_names}
use Rattle.install_laws.proofs.WordLaws.{plain_dollar}
use Rattle.installed_laws.specs.CanBePutIn.{CanBePutIn}
use Rattle.kept_laws.proofs.NewLabels.{old, new, ts, opening, around_theorem}

-- ---- lists

take_front : {X : Type 0} (xs ys : List X) → take (length xs) (xs ++ ys) ≡ xs
take_front [] ys = refl
take_front (x ∷ xs) ys = ap (λ zs. x ∷ zs) (take_front xs ys)

filter_none : {X Y : Type 0} (kind : Y → Bool) (f : X → Y) (xs : List X) → AllByRecursion (λ x. kind (f x) ≡ false) xs → filter kind (map f xs) ≡ []
filter_none kind f [] a = refl
filter_none kind f (x ∷ xs) a = ap (λ b. cond b (f x ∷ filter kind (map f xs)) (filter kind (map f xs))) a.0 ∙ filter_none kind f xs a.1

filter_all : {X Y : Type 0} (kind : Y → Bool) (f : X → Y) (xs : List X) → AllByRecursion (λ x. kind (f x) ≡ true) xs → filter kind (map f xs) ≡ map f xs
filter_all kind f [] a = refl
filter_all kind f (x ∷ xs) a = ap (λ b. cond b (f x ∷ filter kind (map f xs)) (filter kind (map f xs))) a.0 ∙ ap (λ ys. f x ∷ ys) (filter_all kind f xs a.1)

regroup : {X : Type 0} (h p : List X) (o : X) (e : List X) → h ++ ((p ++ o ∷ []) ++ e) ≡ ((h ++ p) ++ o ∷ []) ++ e
regroup h p o e = simp append_assoc

all_true : {X : Type 0} (P : X → Type 0) → ((x : X) → P x) → (xs : List X) → AllByRecursion P xs
all_true P f [] = tt
all_true P f (x ∷ xs) = (f x, all_true P f xs)

-- ---- within an open block

module _ (before : List (List Name)) (outside : path_of before ≡ []) where
  abbrev n : ℕ
  n = length before

  on_block : (i : List (List Name)) → AllByRecursion IsNoBrace i → on_path (n ∷ []) ((i ++ opened ∷ []) ++ before) ≡ i ++ opened ∷ active_of before
  on_block [] h =
      let own : n ≤ n = omega arith in
      ap (λ p. cond (ends_with nat_eq (n ∷ []) p) (opened ∷ on_path (n ∷ []) before) (on_path (n ∷ []) before)) outside
      ∙ ap (λ xs. opened ∷ xs) (only_outside n (n ∷ []) before (own, tt) own ∙ ap (λ p. on_path p before) (sym outside))
  on_block (s ∷ i) h =
      let rest = on_path (n ∷ []) ((i ++ opened ∷ []) ++ before) in
      let here : ends_with nat_eq (n ∷ []) (n ∷ []) ≡ true = (let same : nat_eq n n ≡ true = grind (arith, nat_tests) in ap (λ b. b && true) same) in
      ap (λ p. cond (ends_with nat_eq (n ∷ []) p) (s ∷ rest) rest) (within i before h.1 outside i h.1)
      ∙ ap (λ b. cond b (s ∷ rest) rest) here ∙ ap (λ xs. s ∷ xs) (on_block i h.1)

  active_in_block : (i : List (List Name)) → AllByRecursion IsNoBrace i → active_of ((i ++ opened ∷ []) ++ before) ≡ i ++ opened ∷ active_of before
  active_in_block i h = ap (λ p. on_path p ((i ++ opened ∷ []) ++ before)) (within i before h outside i h) ∙ on_block i h

-- ---- the text

module _ (text : List ℕ) (place : ℕ) (t : NewTheorem) (can : CanBePutIn text place t) where
  abbrev pub syms : List Name
  syms = symbols (old text place t can)

  abbrev pub pairs : List (List Name)
  pairs = map pair_statement t.pairs

  abbrev pub hyps : List (List Name)
  hyps = map hyp_statement t.hyps

  abbrev pub front : List (List Name)
  front = opening text place t can ++ hyps

  -- where the theorem stands
  abbrev pub at : ℕ
  at = length front

  abbrev pub before : List (List Name)
  before = reverse (take place (ts text place t can))

  -- what stands before it, the nearest first
  abbrev pub e : List (List Name)
  e = (reverse (pairs ++ hyps) ++ opened ∷ []) ++ before

  backward : reverse front ≡ e
  backward =
      reverse-append (opening text place t can) hyps
      ∙ ap (λ xs. reverse hyps ++ xs) (reverse-append (take place (ts text place t can)) (opened ∷ pairs) ∙ ap (λ xs. xs ++ before) (reverse-cons opened pairs))
      ∙ regroup (reverse hyps) (reverse pairs) opened before
      ∙ ap (λ xs. (xs ++ opened ∷ []) ++ before) (sym (reverse-append pairs hyps))

  below_theorem : tokens_of (below (new text place t can) at) ≡ e
  below_theorem =
      below_is (new text place t can) at ∙ ap (λ xs. reverse (take at xs)) (around_theorem text place t can)
      ∙ ap reverse (take_front front (theorem_statement t ∷ (codes "$}" ∷ []) ∷ drop place (ts text place t can))) ∙ backward

  no_path : path_of before ≡ []
  no_path = ap path_of (sym (below_is (old text place t can) place)) ∙ sym (path_by (below (old text place t can) place)) ∙ can.outside

  new_active : active_at (new text place t can) at ≡ what_is_active syms e
  new_active =
      active_is (new text place t can) at ∙ ap (λ ns. what_is_active ns (tokens_of (below (new text place t can) at))) (same_symbols text place t can.within can.plain)
      ∙ ap (what_is_active syms) below_theorem

  pub old_active : active_at (old text place t can) place ≡ what_is_active syms before
  old_active = active_is (old text place t can) place ∙ ap (what_is_active syms) (below_is (old text place t can) place)

  pub active_is_block : active_of e ≡ reverse (pairs ++ hyps) ++ opened ∷ active_of before
  active_is_block =
      active_in_block before no_path (reverse (pairs ++ hyps))
      (all_reverse IsNoBrace (pairs ++ hyps) (all_append IsNoBrace pairs hyps (pairs_open_nothing t.pairs) (hyps_open_nothing t.hyps can.plain.hyps)))

  -- ---- the statements of a kind

  of_kind : (kind : List Name → Bool) → kind opened ≡ false → filter kind (active_of e) ≡ reverse (filter kind pairs ++ filter kind hyps) ++ filter kind (active_of before)
  of_kind kind none =
      ap (filter kind) active_is_block ∙ filter-append kind (reverse (pairs ++ hyps)) (opened ∷ active_of before)
      ∙ ap (λ xs. xs ++ filter kind (opened ∷ active_of before)) (filter-reverse kind (pairs ++ hyps) ∙ ap reverse (filter-append kind pairs hyps))
      ∙ ap (λ xs. reverse (filter kind pairs ++ filter kind hyps) ++ xs) (cond_else (kind opened) (opened ∷ filter kind (active_of before)) (filter kind (active_of before)) none)

  pub hyps_of_kind : (kind : List Name → Bool) → kind opened ≡ false → ((p : Name × Name) → kind (pair_statement p) ≡ false)
      → AllByRecursion (λ h. kind (hyp_statement h) ≡ true) t.hyps → filter kind (active_of e) ≡ reverse hyps ++ filter kind (active_of before)
  hyps_of_kind kind none ps hs =
      of_kind kind none
      ∙ ap (λ xs. reverse (xs ++ filter kind hyps) ++ filter kind (active_of before)) (filter_none kind pair_statement t.pairs (all_true (λ p. kind (pair_statement p) ≡ false) ps t.pairs))
      ∙ ap (λ xs. reverse xs ++ filter kind (active_of before)) (filter_all kind hyp_statement t.hyps hs)

  pub pairs_of_kind : (kind : List Name → Bool) → kind opened ≡ false → ((p : Name × Name) → kind (pair_statement p) ≡ true)
      → AllByRecursion (λ h. kind (hyp_statement h) ≡ false) t.hyps → filter kind (active_of e) ≡ reverse pairs ++ filter kind (active_of before)
  pairs_of_kind kind none ps hs =
      of_kind kind none
      ∙ ap (λ xs. reverse (xs ++ filter kind hyps) ++ filter kind (active_of before)) (filter_all kind pair_statement t.pairs (all_true (λ p. kind (pair_statement p) ≡ true) ps t.pairs))
      ∙ ap (λ xs. reverse (pairs ++ xs) ++ filter kind (active_of before)) (filter_none kind hyp_statement t.hyps hs)
      ∙ ap (λ xs. reverse xs ++ filter kind (active_of before)) (append-nil pairs)

  none_of_kind : (kind : List Name → Bool) → kind opened ≡ false → ((p : Name × Name) → kind (pair_statement p) ≡ false)
      → AllByRecursion (λ h. kind (hyp_statement h) ≡ false) t.hyps → filter kind (active_of e) ≡ filter kind (active_of before)
  none_of_kind kind none ps hs =
      of_kind kind none
      ∙ ap (λ xs. reverse (xs ++ filter kind hyps) ++ filter kind (active_of before)) (filter_none kind pair_statement t.pairs (all_true (λ p. kind (pair_statement p) ≡ false) ps t.pairs))
      ∙ ap (λ xs. reverse xs ++ filter kind (active_of before)) (filter_none kind hyp_statement t.hyps hs)

  -- a test of statements that looks at the keyword alone
  pub hyps_all : (kind : List Name → Bool) (v : Bool) → ((n : Name) (ns : List Name) → HasNoDollar n → kind (n ∷ codes "$e" ∷ ns) ≡ v) → AllByRecursion (λ h. kind (hyp_statement h) ≡ v) t.hyps
  hyps_all kind v f = go t.hyps can.plain.hyps
    where
      go : (hs : List (Name × List Name)) → AllByRecursion (λ (h : Name × List Name). IsPlain h.0 × AllByRecursion IsPlain h.1) hs → AllByRecursion (λ h. kind (hyp_statement h) ≡ v) hs
      go [] a = tt
      go (h ∷ hs) a = (f h.0 (h.1 ++ codes "$." ∷ []) (plain_dollar h.0 a.0.0), go hs a.1)

  pub same_variables : variables_of e ≡ variables_of before
  same_variables =
      ap (flat_map symbol_names) (none_of_kind (has_kw (codes "$v")) refl (λ p. refl) (hyps_all (has_kw (codes "$v")) false (λ n ns d. rw (plain_is n d) refl)))

  pub all_hyps : filter (keyword_is hyp_kw) (active_of e) ≡ reverse hyps ++ filter (keyword_is hyp_kw) (active_of before)
  all_hyps = hyps_of_kind (keyword_is hyp_kw) refl (λ p. refl) (hyps_all (keyword_is hyp_kw) true (λ n ns d. rw (plain_is n d) refl))

  pub essential_hyps : filter (has_kw (codes "$e")) (active_of e) ≡ reverse hyps ++ filter (has_kw (codes "$e")) (active_of before)
  essential_hyps = hyps_of_kind (has_kw (codes "$e")) refl (λ p. refl) (hyps_all (has_kw (codes "$e")) true (λ n ns d. rw (plain_is n d) refl))

  pub all_pairs : filter (has_kw (codes "$d")) (active_of e) ≡ reverse pairs ++ filter (has_kw (codes "$d")) (active_of before)
  all_pairs = pairs_of_kind (has_kw (codes "$d")) refl (λ p. refl) (hyps_all (has_kw (codes "$d")) false (λ n ns d. rw (plain_is n d) refl))

  -- ---- what is active

  abbrev hyps_in : Active → List Hyp
  hyps_in a = a.hyps

  pub new_hyps : (active_at (new text place t can) at).hyps ≡ (active_at (old text place t can) place).hyps ++ map (λ h. hyp_of syms (hyp_statement h)) t.hyps
  new_hyps =
      ap hyps_in new_active
      ∙ ap (λ xs. map (hyp_of syms) (reverse xs)) all_hyps
      ∙ ap (map (hyp_of syms)) (reverse-append (reverse hyps) (filter (keyword_is hyp_kw) (active_of before)) ∙ ap (λ xs. reverse (filter (keyword_is hyp_kw) (active_of before)) ++ xs) (reverse-reverse hyps))
      ∙ map-append (hyp_of syms) (reverse (filter (keyword_is hyp_kw) (active_of before))) hyps
      ∙ ap (λ xs. map (hyp_of syms) (reverse (filter (keyword_is hyp_kw) (active_of before))) ++ xs) (twice t.hyps)
      ∙ ap (λ xs. xs ++ map (λ h. hyp_of syms (hyp_statement h)) t.hyps) (sym (ap hyps_in old_active))
    where
      twice : (hs : List (Name × List Name)) → map (hyp_of syms) (map hyp_statement hs) ≡ map (λ h. hyp_of syms (hyp_statement h)) hs
      twice [] = refl
      twice (h ∷ hs) = ap (λ xs. hyp_of syms (hyp_statement h) ∷ xs) (twice hs)

  pub new_hyps_by : (active_at (new text place t can) at).hyps ≡ map (hyp_of syms) (reverse (filter (keyword_is hyp_kw) (active_of e)))
  new_hyps_by = ap hyps_in new_active

  pub new_pairs : (active_at (new text place t can) at).pairs ≡ map (pair_of syms) (pairs_among (reverse pairs ++ filter (has_kw (codes "$d")) (active_of before)) (active_variables_of syms before))
  new_pairs =
      ap (λ (a : Active). a.pairs) new_active
      ∙ ap (λ ds. map (pair_of syms) (pairs_among ds (active_variables_of syms e))) all_pairs
      ∙ ap (λ vs. map (pair_of syms) (pairs_among (reverse pairs ++ filter (has_kw (codes "$d")) (active_of before)) (filter (contains vs) syms))) same_variables

  -- ---- the frame

  abbrev pub variables : List Name
  variables = mandatory_of syms e (theorem_statement t)

  module _ (l : Label) (w : Statement) (is : names w ≡ theorem_statement t) where
    frame_is_by : frame_at (new text place t can) l at w ≡ what_frame syms l at e (theorem_statement t)
    frame_is_by =
        frame_is (new text place t can) l at w
        ∙ ap (λ ns. what_frame ns l at (tokens_of (below (new text place t can) at)) (names w)) (same_symbols text place t can.within can.plain)
        ∙ ap (λ x. what_frame syms l at x (names w)) below_theorem
        ∙ ap (what_frame syms l at e) is

    pub frame_formula : (frame_at (new text place t can) l at w).formula ≡ map (symbol_in syms) (symbol_names (theorem_statement t))
    frame_formula = ap (λ (f : Frame). f.formula) frame_is_by

    pub frame_hyps : (frame_at (new text place t can) l at w).hyps ≡ map (hyp_of syms) (reverse (filter (is_mandatory variables) (active_of e)))
    frame_hyps = ap (λ (f : Frame). f.hyps) frame_is_by
