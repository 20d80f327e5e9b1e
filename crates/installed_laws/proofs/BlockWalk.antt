-- Each statement of the block of a theorem that can be put in passes the rules.
use Rattle.std.proofs.Common.{◌≡◌, ℕ, ◌≤◌, Bool, true, false, ◌||◌, cond, List, [], ◌∷◌, ◌++◌, take, map, reverse, length, flat_map, refl, sym, ap, ◌∙◌, subst, inl, inr}
use Rattle.std.proofs.Common.{codes, append_assoc, append-nil, arith, nat_eq}
use Rattle.std.specs.Prelude.{filter}
use mathlib.Core.List.{reverse_aux}
use Rattle.std.specs.List.{AllByRecursion, list_all, ends_with}
use Rattle.std.specs.Str.{bytes_eq}
use Rattle.std.proofs.lemmas.Bool.{cases_Bool, or_parts, or_right}
use Rattle.std.proofs.lemmas.Slice.Eq.{bytes_eq-Decides}
use Rattle.mm_model.specs.Labels.{is_label_byte}
use Rattle.mm_model.specs.Names.{Name, contains, has_twice}
use Rattle.mm_model.specs.Words.{words}
use Rattle.mm_model.specs.Statements.{is_empty, second}
use Rattle.mm_model.proofs.Scopes.{cond_else}
use Rattle.install_model.specs.declared.install.NewTheorem.{NewTheorem}
use Rattle.install_laws.specs.InstalledStatements.{names, HasNoDollar, IsPlain}
use Rattle.install_laws.proofs.WordLaws.{plain_dollar, names_dollar}
use Rattle.install_laws.proofs.StatementsLaw.{dollars}
use Rattle.install_laws.proofs.ActiveLaw.{all_append, inner}
use Rattle.install_laws.proofs.NamesLaw.{is_plain, symbol_names, label_names, plain_is}
use Rattle.install_laws.proofs.ActiveNames.{has_kw, path_of, on_path, active_of, variables_of}
use Rattle.install_model.specs.Moved.{pair_statement, hyp_statement, theorem_statement, new_labels}
use Rattle.install_laws.proofs.ActiveBlock.{IsNoBrace, opened, closed, within, only_outside}
use Rattle.installed_laws.proofs.RuleTable.{front, known, known_from, has_proof, constants_of, ever_of, typed_of, labels_of}
use Rattle.installed_laws.proofs.Walks.{Walk, Each}
use Rattle.installed_laws.proofs.BlockWords.{all_false, ArePlain, IsMeant, inside, front_with, keyword_of, passes_by, keyword_by, label_passes, hyp_keyword, theorem_keyword, pair_symbol}
use Rattle.installed_laws.proofs.BlockWords.{first_symbol, later_symbol, proof_word, front_is_at, front_at, has_at}

-- ---- one statement in the block, where the constants and the variables are these

kw_stops : (b : Bool) → is_plain (keyword_of b) ≡ false
kw_stops true = refl
kw_stops false = refl

kw_differs : (b : Bool) → bytes_eq (keyword_of b) (codes "$=") ≡ false
kw_differs true = refl
kw_differs false = refl

proof_there : (xs ys : List Name) → has_proof (xs ++ codes "$=" ∷ ys) ≡ true
proof_there [] ys = refl
proof_there (x ∷ xs) ys = or_right (bytes_eq x (codes "$=")) (has_proof (xs ++ codes "$=" ∷ ys)) (proof_there xs ys)

module _ (c v t : List Name) where
  abbrev pub Meant : Name → Type 0
  Meant n = IsMeant (contains c n) (contains v n) (contains t n)

  -- a constant, and then symbols with a meaning
  abbrev pub Formula : List Name → Type 0
  Formula [] = ⊥
  Formula (n ∷ ns) = ((contains c n ≡ true) × (contains v n ≡ false)) × AllByRecursion Meant ns

module _ (e : List (List Name)) (c ev v t : List Name) (is_inside : (w : Name) → known e w ≡ inside (contains c w) (contains ev w) (contains v w) (contains t w)) where
  pair_walk : (x y : Name) → HasNoDollar x → HasNoDollar y → contains v x ≡ true → contains v y ≡ true → bytes_eq y x ≡ false → Walk e [] (codes "$d" ∷ x ∷ y ∷ codes "$." ∷ [])
  pair_walk x y px py vx vy d = (
    all_false,
    (
      passes_by e (codes "$d" ∷ []) x (y ∷ []) _ (front_with (codes "$d") false [] x) (is_inside x) (front_is_at [] (codes "$d") [] x tt refl refl tt) px refl
          (pair_symbol (contains c x) (contains ev x) (contains v x) (contains t x) false [] x vx refl refl),
      (
        passes_by e (codes "$d" ∷ x ∷ []) y (codes "$." ∷ []) _ (front_with (codes "$d") false (x ∷ []) y) (is_inside y) (front_is_at [] (codes "$d") (x ∷ []) y tt refl refl (px, tt)) py refl
            (pair_symbol (contains c y) (contains ev y) (contains v y) (contains t y) false (x ∷ []) y vy (ap (λ b. b || false) d) refl),
        (
          keyword_by e (codes "$d" ∷ x ∷ y ∷ []) (codes "$.") [] (front_with (codes "$d") false (x ∷ y ∷ []) (codes "$."))
              (front_is_at [] (codes "$d") (x ∷ y ∷ []) (codes "$.") tt refl refl (px, (py, tt)))
              all_false,
          tt,
        ),
      ),
    ),
  )

  later_walk : (b : Bool) (n u : Name) (us rest tail : List Name) → HasNoDollar n → ArePlain (u ∷ us) → ArePlain rest → AllByRecursion (Meant c v t) rest
      → Walk e (n ∷ keyword_of b ∷ u ∷ (us ++ rest)) tail → Walk e (n ∷ keyword_of b ∷ u ∷ us) (rest ++ tail)
  later_walk b n u us [] tail pn pu pr m h = subst (λ xs. Walk e (n ∷ keyword_of b ∷ u ∷ xs) tail) (append-nil us) h
  later_walk b n u us (x ∷ rest) tail pn pu pr m h = (
    passes_by e (n ∷ keyword_of b ∷ u ∷ us) x (take 1 (rest ++ tail)) _ (front_with (keyword_of b) false (u ∷ us) x) (is_inside x)
        (front_is_at (n ∷ []) (keyword_of b) (u ∷ us) x (pn, tt) (kw_stops b) (kw_differs b) pu) pr.0 refl
        (later_symbol b (contains c x) (contains ev x) (contains v x) (contains t x) u us x m.0),
    later_walk b n u (us ++ x ∷ []) rest tail pn (pu.0, all_append HasNoDollar us (x ∷ []) pu.1 (pr.0, tt)) pr.1 m.1
        (subst (λ xs. Walk e (n ∷ keyword_of b ∷ u ∷ xs) tail) (sym (append_assoc us (x ∷ []) rest)) h),
  )

  formula_walk : (b : Bool) (n : Name) (ns tail : List Name) → HasNoDollar n → ArePlain ns → Formula c v t ns → Walk e (n ∷ keyword_of b ∷ ns) tail → Walk e (n ∷ keyword_of b ∷ []) (ns ++ tail)
  formula_walk b n [] tail pn ps m h = absurd m
  formula_walk b n (x ∷ ns) tail pn ps m h = (
    passes_by e (n ∷ keyword_of b ∷ []) x (take 1 (ns ++ tail)) _ (front_with (keyword_of b) false [] x) (is_inside x)
        (front_is_at (n ∷ []) (keyword_of b) [] x (pn, tt) (kw_stops b) (kw_differs b) tt) ps.0 refl
        (first_symbol b (contains c x) (contains ev x) (contains v x) (contains t x) x m.0.0 m.0.1),
    later_walk b n x [] ns tail pn (ps.0, tt) ps.1 m.1 h,
  )

  module _ (n : Name) (pn : HasNoDollar n) (new : contains (labels_of e) n ≡ false) (bytes : list_all is_label_byte n ≡ true) where
    hyp_end : (ns : List Name) → ArePlain ns → Formula c v t ns → Walk e (n ∷ codes "$e" ∷ ns) (codes "$." ∷ [])
    hyp_end [] ps m = absurd m
    hyp_end (x ∷ ns) ps m = (
      keyword_by e (n ∷ codes "$e" ∷ x ∷ ns) (codes "$.") [] (front_with (codes "$e") false (x ∷ ns) (codes "$.")) (front_is_at (n ∷ []) (codes "$e") (x ∷ ns) (codes "$.") (pn, tt) refl refl ps)
          all_false,
      tt,
    )

    hyp_walk : (ns : List Name) → ArePlain ns → Formula c v t ns → Walk e [] (n ∷ codes "$e" ∷ (ns ++ codes "$." ∷ []))
    hyp_walk ns ps m =
        (label_passes e n (codes "$e") pn refl new bytes, (hyp_keyword e n pn (take 1 (ns ++ codes "$." ∷ [])), formula_walk true n ns (codes "$." ∷ []) pn ps m (hyp_end ns ps m)))

    -- behind the `$=`
    module _ (ns : List Name) where
      proof_front : (qs : List Name) (w : Name)
          → front ((n ∷ codes "$p" ∷ ns) ++ codes "$=" ∷ qs) w ≡ front_with (codes "$p") true (symbol_names ((n ∷ codes "$p" ∷ ns) ++ codes "$=" ∷ qs)) w
      proof_front qs w =
          front_at (n ∷ []) (codes "$p") (ns ++ codes "$=" ∷ qs) w (pn, tt) refl
          ∙ ap (λ b. front_with (codes "$p") b (symbol_names ((n ∷ codes "$p" ∷ ns) ++ codes "$=" ∷ qs)) w) (proof_there (n ∷ codes "$p" ∷ ns) qs)

      proof_walk : (qs ps : List Name) → ArePlain ps → Walk e ((n ∷ codes "$p" ∷ ns) ++ codes "$=" ∷ qs) (ps ++ codes "$." ∷ [])
      proof_walk qs [] h = (keyword_by e ((n ∷ codes "$p" ∷ ns) ++ codes "$=" ∷ qs) (codes "$.") [] _ (proof_front qs (codes "$.")) all_false, tt)
      proof_walk qs (x ∷ ps) h = (
        passes_by e ((n ∷ codes "$p" ∷ ns) ++ codes "$=" ∷ qs) x (take 1 (ps ++ codes "$." ∷ [])) _ _ (is_inside x) (proof_front qs x) h.0 refl
            (proof_word (contains c x) (contains ev x) (contains v x) (contains t x) (symbol_names ((n ∷ codes "$p" ∷ ns) ++ codes "$=" ∷ qs)) x),
        subst (λ f. Walk e f (ps ++ codes "$." ∷ [])) (sym (append_assoc (n ∷ codes "$p" ∷ ns) (codes "$=" ∷ qs) (x ∷ []))) (proof_walk (qs ++ x ∷ []) ps h.1),
      )

    theorem_end : (ns ps : List Name) → ArePlain ns → ArePlain ps → Formula c v t ns → Walk e (n ∷ codes "$p" ∷ ns) (codes "$=" ∷ (ps ++ codes "$." ∷ []))
    theorem_end [] ps k h m = absurd m
    theorem_end (x ∷ ns) ps k h m = (
      keyword_by e (n ∷ codes "$p" ∷ x ∷ ns) (codes "$=") (take 1 (ps ++ codes "$." ∷ [])) (front_with (codes "$p") false (x ∷ ns) (codes "$="))
          (front_is_at (n ∷ []) (codes "$p") (x ∷ ns) (codes "$=") (pn, tt) refl refl k)
          all_false,
      proof_walk (x ∷ ns) [] ps h,
    )

    theorem_walk : (ns ps : List Name) → ArePlain ns → ArePlain ps → Formula c v t ns → Walk e [] (n ∷ codes "$p" ∷ (ns ++ codes "$=" ∷ (ps ++ codes "$." ∷ [])))
    theorem_walk ns ps k h m = (
      label_passes e n (codes "$p") pn refl new bytes,
      (theorem_keyword e n pn (take 1 (ns ++ codes "$=" ∷ (ps ++ codes "$." ∷ []))), formula_walk false n ns (codes "$=" ∷ (ps ++ codes "$." ∷ [])) pn k m (theorem_end ns ps k h m)),
    )

open_walk : (e : List (List Name)) → Walk e [] opened
open_walk e = (all_false, tt)

close_walk : (e : List (List Name)) → is_empty (path_of e) ≡ false → Walk e [] closed
close_walk e is = ((refl, (refl, (refl, (refl, (refl, (refl, (refl, (refl, (refl, (refl, (refl, (is, (refl, (refl, (refl, (refl, (refl, (refl, tt)))))))))))))))))), tt)

-- ---- what is known in the block

-- it opens and closes nothing, and declares nothing
abbrev pub Quiet : List Name → Type 0
Quiet s = IsNoBrace s × ((has_kw (codes "$c") s ≡ false) × ((has_kw (codes "$v") s ≡ false) × (has_kw (codes "$f") s ≡ false)))

pub pair_quiet : (p : Name × Name) → Quiet (pair_statement p)
pair_quiet p = ((refl, refl), (refl, (refl, refl)))

pub labelled_quiet : (b : Bool) (n : Name) (ns : List Name) → HasNoDollar n → Quiet (n ∷ keyword_of b ∷ ns)
labelled_quiet true n ns h = let is = has_at (n ∷ []) (codes "$e") ns (h, tt) refl in ((is (codes "${"), is (codes "$}")), (is (codes "$c"), (is (codes "$v"), is (codes "$f"))))
labelled_quiet false n ns h = let is = has_at (n ∷ []) (codes "$p") ns (h, tt) refl in ((is (codes "${"), is (codes "$}")), (is (codes "$c"), (is (codes "$v"), is (codes "$f"))))

module _ (base : List (List Name)) (outside : path_of base ≡ []) where
  -- behind the `${` and these statements, the nearest first
  abbrev pub in_block : List (List Name) → List (List Name)
  in_block i = (i ++ opened ∷ []) ++ base

  module _ (kind : List Name → Bool) (no_open : kind opened ≡ false) where
    pub all_kept : (i : List (List Name)) → AllByRecursion (λ s. kind s ≡ false) i → filter kind (in_block i) ≡ filter kind base
    all_kept [] h = cond_else (kind opened) (opened ∷ filter kind base) (filter kind base) no_open
    all_kept (s ∷ i) h = cond_else (kind s) (s ∷ filter kind (in_block i)) (filter kind (in_block i)) h.0 ∙ all_kept i h.1

    dropped : (b : Bool) (s : List Name) (xs : List (List Name)) → kind s ≡ false → filter kind (cond b (s ∷ xs) xs) ≡ filter kind xs
    dropped true s xs e = cond_else (kind s) (s ∷ filter kind xs) (filter kind xs) e
    dropped false s xs e = refl

    on_kept : (p : List ℕ) (i : List (List Name)) → AllByRecursion (λ s. kind s ≡ false) i → filter kind (on_path p (in_block i)) ≡ filter kind (on_path p base)
    on_kept p [] h = dropped (ends_with nat_eq p (path_of base)) opened (on_path p base) no_open
    on_kept p (s ∷ i) h = dropped (ends_with nat_eq p (path_of (in_block i))) s (on_path p (in_block i)) h.0 ∙ on_kept p i h.1

    active_kept : (i : List (List Name)) → AllByRecursion IsNoBrace i → AllByRecursion (λ s. kind s ≡ false) i → filter kind (active_of (in_block i)) ≡ filter kind (active_of base)
    active_kept i q h =
        let own : length base ≤ length base = omega arith in
        ap (λ p. filter kind (on_path p (in_block i))) (within i base q outside i q) ∙ on_kept (length base ∷ []) i h
        ∙ ap (filter kind) (only_outside (length base) (length base ∷ []) base (own, tt) own) ∙ ap (λ p. filter kind (on_path p base)) (sym outside)

  pub quiet_part : (P : List Name → Type 0) → ((s : List Name) → Quiet s → P s) → (i : List (List Name)) → AllByRecursion Quiet i → AllByRecursion P i
  quiet_part P f [] h = tt
  quiet_part P f (s ∷ i) h = (f s h.0, quiet_part P f i h.1)

  path_in : (i : List (List Name)) → AllByRecursion Quiet i → path_of (in_block i) ≡ length base ∷ []
  path_in i h = let q = quiet_part IsNoBrace (λ s k. k.0) i h in within i base q outside i q

  known_in : (i : List (List Name)) → AllByRecursion Quiet i → (w : Name)
      → known (in_block i) w ≡ inside (contains (constants_of base) w) (contains (ever_of base) w) (contains (variables_of base) w) (contains (typed_of base) w)
  known_in i h w =
      let q = quiet_part IsNoBrace (λ s k. k.0) i h in
      let cs = quiet_part (λ s. has_kw (codes "$c") s ≡ false) (λ s k. k.1.0) i h in
      let vs = quiet_part (λ s. has_kw (codes "$v") s ≡ false) (λ s k. k.1.1.0) i h in
      let fs = quiet_part (λ s. has_kw (codes "$f") s ≡ false) (λ s k. k.1.1.1) i h in
      let e = in_block i in
      ap (λ xs. known_from (flat_map symbol_names xs) (ever_of e) (variables_of e) (typed_of e) (path_of e) w) (all_kept (has_kw (codes "$c")) refl i cs)
      ∙ ap (λ xs. known_from (constants_of base) (flat_map symbol_names xs) (variables_of e) (typed_of e) (path_of e) w) (all_kept (has_kw (codes "$v")) refl i vs)
      ∙ ap (λ xs. known_from (constants_of base) (ever_of base) (flat_map symbol_names xs) (typed_of e) (path_of e) w) (active_kept (has_kw (codes "$v")) refl i q vs)
      ∙ ap (λ xs. known_from (constants_of base) (ever_of base) (variables_of base) (flat_map (λ s. second (symbol_names s)) xs) (path_of e) w) (active_kept (has_kw (codes "$f")) refl i q fs)
      ∙ ap (λ p. known_from (constants_of base) (ever_of base) (variables_of base) (typed_of base) p w) (path_in i h)

  -- ---- the statements of the block, one after the other

  -- they pass the rules so far, and these labels are still new
  pub record State (i : List (List Name)) (ls : List Name) : Type 0 where
    pub quiet : AllByRecursion Quiet i
    pub each : Each (in_block i)
    pub fresh : AllByRecursion (λ n. contains (labels_of (in_block i)) n ≡ false) ls
    pub differ : has_twice ls ≡ false

  abbrev pub IsPair : Name × Name → Type 0
  IsPair p = (IsPlain p.0 × IsPlain p.1) × ((contains (variables_of base) p.0 ≡ true) × ((contains (variables_of base) p.1 ≡ true) × (bytes_eq p.1 p.0 ≡ false)))

  abbrev pub IsFormula : List Name → Type 0
  IsFormula ns = AllByRecursion IsPlain ns × Formula (constants_of base) (variables_of base) (typed_of base) ns

  abbrev pub HasLabel : Name → Type 0
  HasLabel n = IsPlain n × (list_all is_label_byte n ≡ true)

  pairs_state : (ps : List (Name × Name)) (i : List (List Name)) (ls : List Name) → AllByRecursion IsPair ps → State i ls → State (reverse_aux (map pair_statement ps) i) ls
  pairs_state [] i ls h s = s
  pairs_state (p ∷ ps) i ls h s =
      let k = h.0 in
      let walk =
      pair_walk (in_block i) (constants_of base) (ever_of base) (variables_of base) (typed_of base) (known_in i s.quiet) p.0 p.1
      (plain_dollar p.0 k.0.0) (plain_dollar p.1 k.0.1) k.1.0 k.1.1.0 k.1.1.1 in
      pairs_state ps (pair_statement p ∷ i) ls h.1 (record { quiet = (pair_quiet p, s.quiet); each = (walk, s.each); fresh = s.fresh; differ = s.differ })

  one_label : (n k : Name) (ns : List Name) → HasNoDollar n → is_plain k ≡ false → label_names (n ∷ k ∷ ns) ≡ n ∷ []
  one_label n k ns h e = rw (plain_is n h, e) refl

  other_way : (a b : Name) → bytes_eq a b ≡ false → bytes_eq b a ≡ false
  other_way a b e = elim (cases_Bool (bytes_eq b a)) [
    | inl d ↦ let same : bytes_eq a b ≡ true = (bytes_eq-Decides a b).1 (sym ((bytes_eq-Decides b a).0 d)) in let bad : false ≡ true = sym e ∙ same in absurd cc
    | inr d ↦ d
  ]

  -- the labels behind one are still new behind it
  still_new : (n : Name) (old : List Name) (ls : List Name) → contains ls n ≡ false → AllByRecursion (λ m. contains old m ≡ false) ls → AllByRecursion (λ m. contains (n ∷ old) m ≡ false) ls
  still_new n old [] h f = tt
  still_new n old (m ∷ ls) h f =
      let both = or_parts (bytes_eq n m) (contains ls n) h in
      (ap (λ b. b || contains old m) (other_way n m both.0) ∙ f.0, still_new n old ls both.1 f.1)

  -- a statement with a label
  labelled_state : (b : Bool) (n : Name) (ns : List Name) (i : List (List Name)) (ls : List Name) → HasNoDollar n → State i (n ∷ ls) → Walk (in_block i) [] (n ∷ keyword_of b ∷ ns)
      → State ((n ∷ keyword_of b ∷ ns) ∷ i) ls
  labelled_state b n ns i ls h s walk =
      let both = or_parts (contains ls n) (has_twice ls) s.differ in
      record {
        quiet = (labelled_quiet b n ns h, s.quiet);
        each = (walk, s.each);
        fresh =
            subst (λ xs. AllByRecursion (λ m. contains (xs ++ labels_of (in_block i)) m ≡ false) ls) (sym (one_label n (keyword_of b) ns h (kw_stops b)))
            (still_new n (labels_of (in_block i)) ls both.0 s.fresh.1);
        differ = both.1;
      }

  abbrev pub IsHyp : Name × List Name → Type 0
  IsHyp h = HasLabel h.0 × IsFormula h.1

  hyps_state : (hs : List (Name × List Name)) (i : List (List Name)) (ls : List Name) → AllByRecursion IsHyp hs → State i (map (λ (h : Name × List Name). h.0) hs ++ ls)
      → State (reverse_aux (map hyp_statement hs) i) ls
  hyps_state [] i ls k s = s
  hyps_state (h ∷ hs) i ls k s =
      let one = k.0 in
      let plain = plain_dollar h.0 one.0.0 in
      let walk =
      hyp_walk (in_block i) (constants_of base) (ever_of base) (variables_of base) (typed_of base) (known_in i s.quiet) h.0 plain s.fresh.0 one.0.1 h.1 (dollars h.1 one.1.0) one.1.1 in
      hyps_state hs (hyp_statement h ∷ i) ls k.1 (labelled_state true h.0 (h.1 ++ codes "$." ∷ []) i (map (λ (g : Name × List Name). g.0) hs ++ ls) plain s walk)

  theorem_state : (t : NewTheorem) (i : List (List Name)) → HasLabel t.name → IsFormula t.formula → HasNoDollar t.proof → State i (t.name ∷ []) → State (theorem_statement t ∷ i) []
  theorem_state t i l f p s =
      let plain = plain_dollar t.name l.0 in
      let ps = names (words t.proof) in
      let same : t.formula ++ codes "$=" ∷ (ps ++ codes "$." ∷ []) ≡ (t.formula ++ codes "$=" ∷ ps) ++ codes "$." ∷ [] = sym (append_assoc t.formula (codes "$=" ∷ ps) (codes "$." ∷ [])) in
      let walk =
      theorem_walk (in_block i) (constants_of base) (ever_of base) (variables_of base) (typed_of base) (known_in i s.quiet) t.name plain s.fresh.0 l.1 t.formula ps (dollars t.formula f.0)
      (names_dollar t.proof p) f.1 in
      subst (λ xs. State ((t.name ∷ codes "$p" ∷ xs) ∷ i) []) same (labelled_state false t.name (t.formula ++ codes "$=" ∷ (ps ++ codes "$." ∷ [])) i [] plain s walk)

  reverse_more : {X : Type 0} (xs ys zs : List X) → reverse_aux (xs ++ ys) zs ≡ reverse_aux ys (reverse_aux xs zs)
  reverse_more [] ys zs = refl
  reverse_more (x ∷ xs) ys zs = reverse_more xs ys (x ∷ zs)

  -- what is asked of the theorem, by the statements before the place
  pub record Fits (t : NewTheorem) : Type 0 where
    pub pairs : AllByRecursion IsPair t.pairs
    pub hyps : AllByRecursion IsHyp t.hyps
    pub label : HasLabel t.name
    pub formula : IsFormula t.formula
    pub proof : HasNoDollar t.proof
    pub fresh : AllByRecursion (λ n. contains (labels_of base) n ≡ false) (new_labels t)
    pub differ : has_twice (new_labels t) ≡ false

  pub block_passes : (t : NewTheorem) → Fits t → Each base → AllByRecursion Quiet (reverse (inner t)) × Each (closed ∷ in_block (reverse (inner t)))
  block_passes t f each =
      let start : State [] (new_labels t) = record { quiet = tt; each = (open_walk base, each); fresh = f.fresh; differ = f.differ } in
      let one = pairs_state t.pairs [] (new_labels t) f.pairs start in
      let two = hyps_state t.hyps (reverse_aux (map pair_statement t.pairs) []) (t.name ∷ []) f.hyps one in
      let three = theorem_state t (reverse_aux (map hyp_statement t.hyps) (reverse_aux (map pair_statement t.pairs) [])) f.label f.formula f.proof two in
      let same : reverse (inner t) ≡ theorem_statement t ∷ reverse_aux (map hyp_statement t.hyps) (reverse_aux (map pair_statement t.pairs) []) =
      reverse_more (map pair_statement t.pairs ++ map hyp_statement t.hyps) (theorem_statement t ∷ []) []
      ∙ ap (λ ss. theorem_statement t ∷ ss) (reverse_more (map pair_statement t.pairs) (map hyp_statement t.hyps) []) in
      let s = subst (λ i. State i []) (sym same) three in
      (s.quiet, (close_walk (in_block (reverse (inner t))) (ap is_empty (path_in (reverse (inner t)) s.quiet)), s.each))
