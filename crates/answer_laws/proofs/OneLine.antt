-- A proof that is written is one line.
use Rattle.std.specs.Prelude.{◌≡◌, ◌<◌, ◌+◌, ◌-◌, ◌/◌, ◌%◌, ◌++◌, ◌==◌, not, ℕ, zero, suc, Bool, true, false, List, [], ◌∷◌, length, map, drop}
use Rattle.std.specs.Prelude.{filter, find, fold, slice_index_or, if◌then◌else◌, unwrap_or, Contains, Option, Some, None, codes, refl}
use Rattle.std.specs.List.{AllByRecursion, list_all, last_or}
use Rattle.std.specs.Option.{option_map_or}
use Rattle.std.proofs.Common.{sym, subst, arith, inl, inr, cond, eqb-true, lit<}
use Rattle.std.proofs.lemmas.Bool.{cases_Bool, and_from, and_parts}
use Rattle.mm_base.specs.declared.symbols.Sym.{Sym}
use Rattle.mm_base.specs.declared.symbols.Typecode.{Typecode}
use Rattle.mm_base.specs.declared.tree.Tree.{Tree}
use Rattle.mm_base.specs.declared.tree.Tree.TheVariants.{Work, Fresh}
use Rattle.mm_base.specs.Trees.{Each}
use Rattle.mm_base.proofs.TreeInduction.{tree_ind}
use Rattle.mm_base.proofs.TreeFolds.{fold-Work, fold-Fresh}
use Rattle.mm_model.specs.declared.frames.Hyp.{Hyp}
use Rattle.mm_model.specs.Labels.{is_label, is_label_byte}
use Rattle.mm_model.specs.Names.{Name, contains}
use Rattle.mm_model.specs.Words.{is_white}
use Rattle.mm_model.specs.Frames.{without_repeats}
use Rattle.mm_model.specs.Book.{Database, label_name}
use Rattle.proof_model.specs.declared.theorem.Theorem.{Theorem}
use Rattle.proof_model.specs.declared.code.Code.{Code}
use Rattle.proof_model.specs.declared.code.Step.{Step}
use Rattle.proof_model.specs.declared.code.What.{What}
use Rattle.proof_model.specs.declared.code.What.TheVariants as what
use Rattle.proof_model.specs.Machine.{is_float_of}
use Rattle.proof_model.specs.Proofs.{Proof, by, none, proofs, postorder, postorders}
use Rattle.proof_model.specs.Codes.{code_of_proof}
use Rattle.proof_model.specs.ProofCode.{digits, number_letters, what_letters, step_letters, steps_letters, mark, spelled}
use Rattle.sheet_text.specs.declared.sheet.Given.{Given}
use Rattle.sheet_text.specs.declared.sheet.Given.TheVariants as given
use Rattle.sheet_text.specs.declared.sheet.Sheet.{Sheet}
use Rattle.sheet_text.specs.declared.sheet.SheetStep.{SheetStep}
use Rattle.sheet_text.specs.Layout.{steps}
use Rattle.sheet_laws.proofs.SplitLaws.{all_joined}
use Rattle.solve_model.specs.Binding.{new_hyp, theorem_hyps, place_of, given_hyps}
use Rattle.written_model.specs.ReadBack.{IsOneLine}
use Rattle.written_model.specs.declared.options.ProofStyle.{ProofStyle}
use Rattle.written_model.specs.declared.options.ProofStyle.TheVariants as style
use Rattle.written_model.specs.WrittenSteps.{Use, WrittenStep, value_of}
use Rattle.written_model.specs.ProofTrees.{syntax_proof, no_proof, place_proof, float_variable, hyp_proofs, use_proof, step_proof, step_proofs}
use Rattle.written_model.specs.Written.{qed_proof, proof_text, written_step}
use Rattle.written_model.proofs.SyntaxProofs.{syntax-Var, syntax-Node}
use Rattle.answer_laws.proofs.Elements.{nothing, parted, all_drop, all_map, all_by-append}
use Rattle.answer_laws.proofs.Wordy.{IsWordy}

-- ---- bytes that are no LF

abbrev no_feed : ℕ → Bool
no_feed b = not (b == 10)

abbrev pub IsLine : Name → Type 0
IsLine n = list_all no_feed n ≡ true

all_bytes : (p q : ℕ → Bool) → ((b : ℕ) → p b ≡ true → q b ≡ true) → (bs : List ℕ) → list_all p bs ≡ true → list_all q bs ≡ true
all_bytes p q f [] h = refl
all_bytes p q f (b ∷ bs) h = let both = and_parts (p b) (list_all p bs) h in and_from (q b) (list_all q bs) (f b both.0) (all_bytes p q f bs both.1)

at_feed : (b : ℕ) (t : Bool) → (b == 10) ≡ t → (b ≡ 10 → ⊥) → not t ≡ true
at_feed b true e h = absurd (h (eqb-true b 10 e))
at_feed b false e h = refl

not_feed : (b : ℕ) → (b ≡ 10 → ⊥) → no_feed b ≡ true
not_feed b h = at_feed b (b == 10) refl h

label_byte : (b : ℕ) → is_label_byte b ≡ true → no_feed b ≡ true
label_byte b h = not_feed b (λ e. let bad : false ≡ true = subst (λ n. is_label_byte n ≡ true) e h in cc)

plain_byte : (b : ℕ) → not (is_white b) ≡ true → no_feed b ≡ true
plain_byte b h = not_feed b (λ e. let bad : false ≡ true = subst (λ n. not (is_white n) ≡ true) e h in cc)

pub label_line : (n : Name) → is_label n ≡ true → IsLine n
label_line n h = all_bytes is_label_byte no_feed label_byte n (and_parts (not (length n == 0)) (list_all is_label_byte n) h).1

pub plain_line : (n : Name) → list_all (λ b. not (is_white b)) n ≡ true → IsLine n
plain_line n h = all_bytes (λ b. not (is_white b)) no_feed plain_byte n h

join : (xs ys : List ℕ) → IsLine xs → IsLine ys → IsLine (xs ++ ys)
join [] ys h k = k
join (x ∷ xs) ys h k = let both = and_parts (no_feed x) (list_all no_feed xs) h in and_from (no_feed x) (list_all no_feed (xs ++ ys)) both.0 (join xs ys both.1 k)

lines : (ns : List Name) → AllByRecursion IsLine ns → list_all (list_all no_feed) ns ≡ true
lines [] h = refl
lines (n ∷ ns) h = and_from (list_all no_feed n) (list_all (list_all no_feed) ns) h.0 (lines ns h.1)

no_ten : (bs : List ℕ) → IsLine bs → Contains bs 10 → ⊥
no_ten [] h o = nothing 10 o
no_ten (b ∷ bs) h o =
    let both = and_parts (no_feed b) (list_all no_feed bs) h in
    elim (parted 10 b bs o) [ inl e ↦ (let bad : false ≡ true = subst (λ n. no_feed n ≡ true) e both.0 in cc) | inr l ↦ no_ten bs both.1 l ]

-- ---- the labels of a proof

abbrev AreLines : List Name → Type 0
AreLines ns = AllByRecursion IsLine ns

abbrev pub HasLines : Proof → Type 0
HasLines p = AreLines (postorder p)

all_lines : (ps : List Proof) → AllByRecursion HasLines ps → AreLines (postorders (proofs ps))
all_lines [] h = tt
all_lines (p ∷ ps) h = all_by-append IsLine (postorder p) (postorders (proofs ps)) h.0 (all_lines ps h.1)

by_lines : (n : Name) (ps : List Proof) → IsLine n → AllByRecursion HasLines ps → HasLines (by n (proofs ps))
by_lines n ps h k = all_by-append IsLine (postorders (proofs ps)) (n ∷ []) (all_lines ps k) (h, tt)

module _ (db : Database) (labels : AllByRecursion (λ n. is_label n ≡ true) db.labels) (hyps : List Hyp) (names : AllByRecursion (λ (h : Hyp). IsLine h.name) hyps) where
  label_at : (ns : List Name) (n : ℕ) → AllByRecursion (λ m. is_label m ≡ true) ns → IsLine (slice_index_or ns n [])
  label_at [] n h = refl
  label_at (x ∷ xs) zero h = label_line x h.0
  label_at (x ∷ xs) (suc n) h = label_at xs n h.1

  float_at : (s : Sym) (hs : List Hyp) → AllByRecursion (λ (h : Hyp). IsLine h.name) hs → IsLine (option_map_or (λ (h : Hyp). h.name) (find (is_float_of s) hs) [])
  float_at s [] k = refl
  float_at s (h ∷ hs) k = either (is_float_of s h) (float_at s hs k.1)
    where
      either : (b : Bool) → IsLine (option_map_or (λ (x : Hyp). x.name) (find (is_float_of s) hs) []) → IsLine (option_map_or (λ (x : Hyp). x.name) (cond b (Some h) (find (is_float_of s) hs)) [])
      either true r = k.0
      either false r = r

  abbrev SyntaxLines : Tree → Type 0
  SyntaxLines t = HasLines (syntax_proof db hyps t)

  syntax-Work : (c : Typecode) (n : ℕ) → syntax_proof db hyps (Work c n) ≡ by [] none
  unfolding syntax_proof
  syntax-Work c n = fold-Work Proof _ c n

  syntax-Fresh : (c : Typecode) (n : ℕ) → syntax_proof db hyps (Fresh c n) ≡ by [] none
  unfolding syntax_proof
  syntax-Fresh c n = fold-Fresh Proof _ c n

  all_syntax : (ts : List Tree) → Each SyntaxLines ts → AllByRecursion HasLines (map (syntax_proof db hyps) ts)
  all_syntax [] h = tt
  all_syntax (t ∷ ts) h = (h.0, all_syntax ts h.1)

  syntax_lines : (t : Tree) → SyntaxLines t
  syntax_lines = tree_ind SyntaxLines
      (λ s c. subst HasLines (sym (syntax-Var db hyps s c)) (float_at s hyps names, tt))
      (λ c n. subst HasLines (sym (syntax-Work c n)) (refl, tt))
      (λ c n. subst HasLines (sym (syntax-Fresh c n)) (refl, tt))
      (λ l c ts h. subst HasLines (sym (syntax-Node db hyps l c ts)) (by_lines (label_name db l) (map (syntax_proof db hyps) ts) (label_at db.labels l.0 labels) (all_syntax ts h)))

  none_line : HasLines no_proof
  none_line = (refl, tt)

  hyp_lines : (value : Sym → Proof) → ((s : Sym) → HasLines (value s)) → (hs : List Hyp) (ps : List Proof) → AllByRecursion HasLines ps → AllByRecursion HasLines (hyp_proofs value hs ps)
  hyp_lines value f [] ps h = tt
  hyp_lines value f (x ∷ hs) [] h = either x.floating (hyp_lines value f hs [] h)
    where
      either : (b : Bool) → AllByRecursion HasLines (hyp_proofs value hs []) → AllByRecursion HasLines (cond b (value (float_variable x) ∷ hyp_proofs value hs []) (no_proof ∷ hyp_proofs value hs []))
      either true r = (f (float_variable x), r)
      either false r = (none_line, r)
  hyp_lines value f (x ∷ hs) (p ∷ ps) h = either x.floating (hyp_lines value f hs (p ∷ ps) h) (hyp_lines value f hs ps h.1)
    where
      either : (b : Bool) → AllByRecursion HasLines (hyp_proofs value hs (p ∷ ps)) → AllByRecursion HasLines (hyp_proofs value hs ps)
          → AllByRecursion HasLines (cond b (value (float_variable x) ∷ hyp_proofs value hs (p ∷ ps)) (p ∷ hyp_proofs value hs ps))
      either true r q = (f (float_variable x), r)
      either false r q = (h.0, q)

  proof_at : (ps : List Proof) (k : ℕ) → AllByRecursion HasLines ps → HasLines (slice_index_or ps k no_proof)
  proof_at [] k h = none_line
  proof_at (p ∷ ps) zero h = h.0
  proof_at (p ∷ ps) (suc k) h = proof_at ps k h.1

  places_lines : (earlier : List Proof) → AllByRecursion HasLines earlier → (gs : List Given) → AllByRecursion HasLines (map (place_proof earlier) gs)
  places_lines earlier h [] = tt
  places_lines earlier h (given.Gap ∷ gs) = (none_line, places_lines earlier h gs)
  places_lines earlier h (given.Step k ∷ gs) = (proof_at earlier k h, places_lines earlier h gs)

  use_lines : (earlier : List Proof) (gs : List Given) (r : Name) (o : Option Use) → AllByRecursion HasLines earlier → IsLine r → HasLines (use_proof db hyps earlier gs r o)
  use_lines earlier gs r None h k = (k, tt)
  use_lines earlier gs r (Some u) h k =
      by_lines r (hyp_proofs (λ s. syntax_proof db hyps (value_of u s)) u.assertion.frame.hyps (map (place_proof earlier) gs)) k
      (hyp_lines (λ s. syntax_proof db hyps (value_of u s)) (λ s. syntax_lines (value_of u s)) u.assertion.frame.hyps (map (place_proof earlier) gs) (places_lines earlier h gs))

  reference_line : (e : WrittenStep) → IsWordy e → IsLine (unwrap_or e.reference [])
  reference_line e h = at e.reference h.reference
    where
      at : (o : Option Name) → option_map_or is_label o (not e.hyp) ≡ true → IsLine (unwrap_or o [])
      at None k = refl
      at (Some r) k = label_line r k

  steps_lines : (es : List WrittenStep) → AllByRecursion IsWordy es → (earlier : List Proof) → AllByRecursion HasLines earlier
      → AllByRecursion HasLines (fold (λ ps e. ps ++ step_proof db hyps ps e ∷ []) earlier es)
  steps_lines [] h earlier k = k
  steps_lines (e ∷ es) h earlier k =
      steps_lines es h.1 (earlier ++ step_proof db hyps earlier e ∷ [])
      (all_by-append HasLines earlier (step_proof db hyps earlier e ∷ []) k (use_lines earlier e.places (unwrap_or e.reference []) e.by k (reference_line e h.0), tt))

  last_lines : (o : Option Proof) (ps : List Proof) → HasLines (unwrap_or o no_proof) → AllByRecursion HasLines ps → HasLines (unwrap_or (last_or o ps) no_proof)
  last_lines o [] h k = h
  last_lines o (p ∷ ps) h k = last_lines (Some p) ps k.0 k.1

  pub qed_lines : (es : List WrittenStep) → AllByRecursion IsWordy es → HasLines (unwrap_or (last_or None (step_proofs db hyps es)) no_proof)
  qed_lines es h = last_lines None (step_proofs db hyps es) none_line (steps_lines es h [] tt)

-- ---- the text of a proof

large : (a b : ℕ) → 10 < a → no_feed (a + b) ≡ true
large a b l = not_feed (a + b) (λ e. omega (arith, e, l))

digits_line : (k v : ℕ) → IsLine (digits k v)
digits_line zero v = refl
digits_line (suc k) zero = refl
digits_line (suc k) (suc v) = join (digits k (v / 5)) ((85 + v % 5) ∷ []) (digits_line k (v / 5)) (and_from (no_feed (85 + v % 5)) true (large 85 (v % 5) (lit< tt)) refl)

number_line : (n : ℕ) → IsLine (number_letters n)
number_line n =
    join (digits ((n - 1) / 20) ((n - 1) / 20)) ((65 + (n - 1) % 20) ∷ []) (digits_line ((n - 1) / 20) ((n - 1) / 20))
    (and_from (no_feed (65 + (n - 1) % 20)) true (large 65 ((n - 1) % 20) (lit< tt)) refl)

what_line : (m n : ℕ) (w : What) → IsLine (what_letters m n w)
what_line m n (what.Hyp k) = number_line (k + 1)
what_line m n (what.Listed k) = number_line (m + k + 1)
what_line m n (what.Again k) = number_line (m + n + k + 1)
what_line m n what.Unknown = refl

mark_line : (b : Bool) → IsLine (mark b)
mark_line true = refl
mark_line false = refl

letters_line : (m n : ℕ) (ss : List Step) → IsLine (steps_letters m n ss)
letters_line m n [] = refl
letters_line m n (s ∷ ss) = join (step_letters m n s) (steps_letters m n ss) (join (what_letters m n s.what) (mark s.marked) (what_line m n s.what) (mark_line s.marked)) (letters_line m n ss)

kept_lines : (seen ns : List Name) → AreLines ns → AreLines (without_repeats seen ns)
kept_lines seen [] h = tt
kept_lines seen (n ∷ ns) h = elim (cases_Bool (contains seen n)) [
  | inl e ↦ rw e (kept_lines seen ns h.1)
  | inr e ↦ rw e (h.0, kept_lines (n ∷ seen) ns h.1)
]

spelled_line : (m : ℕ) (c : Code) → AreLines c.labels → IsLine (spelled m c)
spelled_line m c h =
    let tail = steps_letters m (length c.labels) c.steps in
    all_joined no_feed 32 refl (codes "(" ∷ c.labels ++ codes ")" ∷ tail ∷ [])
    (lines (codes "(" ∷ c.labels ++ codes ")" ∷ tail ∷ []) (refl, all_by-append IsLine c.labels (codes ")" ∷ tail ∷ []) h (refl, (letters_line m (length c.labels) c.steps, tt))))

pub text_line : (db : Database) (s : ProofStyle) (t : Theorem) (es : List WrittenStep) → HasLines (qed_proof db t es) → IsLine (proof_text db s t es)
text_line db style.Normal t es h = all_joined no_feed 32 refl (postorder (qed_proof db t es)) (lines (postorder (qed_proof db t es)) h)
text_line db style.Compressed t es h =
    spelled_line (length t.mandatory) (code_of_proof t.mandatory (qed_proof db t es)) (kept_lines t.mandatory (postorder (qed_proof db t es)) h)

pub one_line : (b : Bool) (bs : List ℕ) → IsLine bs → IsOneLine (if b then Some bs else None)
one_line true bs h = no_ten bs h
one_line false bs h = tt

-- ---- the hypotheses of the written worksheet

new_line : (db : Database) (es : List WrittenStep) → AllByRecursion IsWordy es → AllByRecursion (λ (t : SheetStep). IsLine (new_hyp db t).name) (map (written_step db) es)
new_line db [] h = tt
new_line db (e ∷ es) h = (at e.reference h.0.reference, new_line db es h.1)
  where
    at : (o : Option Name) → option_map_or is_label o (not e.hyp) ≡ true → IsLine (unwrap_or o [])
    at None k = refl
    at (Some r) k = label_line r k

all_filter : {X : Type 0} (P : X → Type 0) (p : X → Bool) (xs : List X) → AllByRecursion P xs → AllByRecursion P (filter p xs)
all_filter P p [] h = tt
all_filter P p (x ∷ xs) h = elim (cases_Bool (p x)) [ inl e ↦ rw e (h.0, all_filter P p xs h.1) | inr e ↦ rw e (all_filter P p xs h.1) ]

pub hyps_lines : (db : Database) (s : Sheet) (es : List WrittenStep) → steps s ≡ map (written_step db) es → AllByRecursion IsWordy es
    → AllByRecursion (λ (h : Hyp). IsLine h.name) (db.active_at (place_of db s)).hyps → AllByRecursion (λ (h : Hyp). IsLine h.name) (theorem_hyps db s)
hyps_lines db s es e h active =
    let new = subst (AllByRecursion (λ (t : SheetStep). IsLine (new_hyp db t).name)) (sym e) (new_line db es h) in
    all_by-append (λ (x : Hyp). IsLine x.name) (db.active_at (place_of db s)).hyps _ active
    (all_map (λ (x : Hyp). IsLine x.name) (new_hyp db) (drop (length (given_hyps db s)) (filter (λ (t : SheetStep). t.hyp) (steps s)))
    (all_drop (λ (t : SheetStep). IsLine (new_hyp db t).name) (length (given_hyps db s)) (filter (λ (t : SheetStep). t.hyp) (steps s))
    (all_filter (λ (t : SheetStep). IsLine (new_hyp db t).name) (λ (t : SheetStep). t.hyp) (steps s) new)))
