-- At the end of the text the reader keeps the contents of the database.
use Rattle.std.proofs.Common.{◌≡◌, ℕ, zero, suc, ◌+◌, ◌<◌, ◌≤◌, true, false, cond, ◌||◌, List, [], ◌∷◌, ◌++◌, length, take, map, filter, flat_map}
use Rattle.std.proofs.Common.{reverse, Option, None, Some, refl, sym, ap, ◌∙◌, subst, codes, arith, inl, inr, append-nil}
use mathlib.Core.List.{reverse_aux}
use Rattle.std.specs.List.{list_any, position_or_len}
use Rattle.std.specs.Str.{bytes_eq}
use Rattle.std.proofs.lemmas.Bool.{cases_Bool}
use Rattle.std.proofs.lemmas.Slice.Eq.{bytes_eq-Decides}
use Rattle.std.proofs.lemmas.List.{map-append}
use Rattle.mm_base.specs.declared.symbols.Sym.{Sym}
use Rattle.mm_model.specs.Words.{Word}
use Rattle.mm_model.specs.Tokens.{tokens}
use Rattle.mm_model.specs.Statements.{Statement, is, is_one_of, body, unended, ended, statements, labels, labels_in, symbols_in, has_one_of}
use Rattle.mm_model.specs.Frames.{symbols, positions, positions_from, symbol_in, formula_of, without_repeats}
use Rattle.mm_frames.specs.declared.reader.Reader.{Reader}
use Rattle.frame_lists.specs.declared.entry.Entry.{Entry}
use Rattle.frame_lists.specs.declared.entry.EntryKind.{EntryKind}
use Rattle.mm_frames.specs.declared.reader.Stage.{Stage}
use Rattle.mm_frames.specs.declared.reader.Stage.TheVariants as stage
use Rattle.mm_frames.specs.Reading.{last_code, last_code_at}
use Rattle.frame_lists.specs.Entries.{entry_in}
use Rattle.mm_frames.specs.Kept.{IsKept}
use Rattle.mm_frames.proofs.Numbers.{name_of, Injective, Within}
use Rattle.mm_frames.proofs.State.{adds, label_names, flat-last}
use Rattle.mm_frames.proofs.SoFar.{StageIs, IsReader}
use Rattle.mm_frames.proofs.More.{Described, described, shown, Known, positions-empty}
use Rattle.mm_frames.proofs.Loop.{GoesTo, no-more}

-- ---- the number of a name

number-of : (names : List (List ℕ)) (i : ℕ) → Injective names → i < length names → position_or_len (bytes_eq (name_of names i)) names ≡ i
number-of [] i one h = let bad : ⊥ = omega arith in absurd bad
number-of (n ∷ names) zero one h = let e : bytes_eq n n ≡ true = (bytes_eq-Decides n n).1 refl in rw e refl
number-of (n ∷ names) (suc i) one h =
    let inside : i < length names = omega arith in
    let later : position_or_len (bytes_eq (name_of names i)) names ≡ i = number-of names i (λ a b ha hb e. one-less a b (one (suc a) (suc b) (omega arith) (omega arith) e)) inside in
    elim (cases_Bool (bytes_eq (name_of names i) n)) [
      | inl e ↦ let same : suc i ≡ 0 = one (suc i) 0 h (omega arith) ((bytes_eq-Decides (name_of names i) n).0 e) in let bad : ⊥ = omega arith in absurd bad
      | inr e ↦ let sum : 1 + position_or_len (bytes_eq (name_of names i)) names ≡ suc i = omega (arith, later) in rw (e, sum) refl
    ]
  where
    one-less : (a b : ℕ) → suc a ≡ suc b → a ≡ b
    one-less a b e = omega arith

symbols-of-names : (names : List (List ℕ)) (fs : List Sym) → Injective names → Within (length names) (map (λ (s : Sym). s.0) fs) → map (symbol_in names) (map (λ (s : Sym). name_of names s.0) fs) ≡ fs
symbols-of-names names [] one h = refl
symbols-of-names names (s ∷ fs) one h =
    let here : symbol_in names (name_of names s.0) ≡ s = ap a_symbol (number-of names s.0 one h.0) in
    let rest = symbols-of-names names fs one h.1 in
    ap (λ x. x ∷ map (symbol_in names) (map (λ (s : Sym). name_of names s.0) fs)) here ∙ ap (λ l. s ∷ l) rest
  where
    a_symbol : ℕ → Sym
    a_symbol n = record { 0 = n }

-- ---- statements

abbrev an_entry : EntryKind → ℕ → List Sym → Option (ℕ × ℕ) → Entry
an_entry k start fs proof = record { kind = k; start = start; symbols = fs; proof = proof }

entry-is : (names : List (List ℕ)) (x : Entry) (s : Statement) → Injective names → Within (length names) (map (λ (s : Sym). s.0) x.symbols) → shown names x ≡ described s → x ≡ entry_in names s
entry-is names x s one w h =
    let k = ap (λ (d : Described). d.kind) h in
    let b = ap (λ (d : Described). d.start) h in
    let n = ap (λ (d : Described). d.names) h in
    let p = ap (λ (d : Described). d.proof) h in
    let fs : x.symbols ≡ formula_of names s = sym (symbols-of-names names x.symbols one w) ∙ ap (λ l. map (symbol_in names) l) n in
    ap (λ (t : EntryKind). an_entry t x.start x.symbols x.proof) k
    ∙ ap (λ (t : ℕ). an_entry (described s).kind t x.symbols x.proof) b
    ∙ ap (λ t. an_entry (described s).kind (described s).start t x.proof) fs
    ∙ ap (λ (t : Option (ℕ × ℕ)). an_entry (described s).kind (described s).start (formula_of names s) t) p

entries-are : (names : List (List ℕ)) (xs : List Entry) (ss : List Statement) → Injective names → Known (length names) xs → map (shown names) xs ≡ map described ss → xs ≡ map (entry_in names) ss
entries-are names [] [] one k h = refl
entries-are names [] (s ∷ ss) one k h = absurd (clash h)
  where
    clash : [] ≡ described s ∷ map described ss → ⊥
    clash e = cc
entries-are names (x ∷ xs) [] one k h = absurd (clash h)
  where
    clash : shown names x ∷ map (shown names) xs ≡ [] → ⊥
    clash e = cc
entries-are names (x ∷ xs) (s ∷ ss) one k h =
    let here : shown names x ≡ described s = heads (shown names x) (described s) (map (shown names) xs) (map described ss) h in
    let rest : map (shown names) xs ≡ map described ss = tails (shown names x) (described s) (map (shown names) xs) (map described ss) h in
    ap (λ y. y ∷ xs) (entry-is names x s one k.0 here) ∙ ap (λ l. entry_in names s ∷ l) (entries-are names xs ss one k.1 rest)
  where
    heads : (a b : Described) (xs ys : List Described) → a ∷ xs ≡ b ∷ ys → a ≡ b
    heads a b xs ys e = cc

    tails : (a b : Described) (xs ys : List Described) → a ∷ xs ≡ b ∷ ys → xs ≡ ys
    tails a b xs ys e = cc

-- ---- names in order

one-keyword : (xs : List (List ℕ)) (w : Word)
    → cond ((bytes_eq w.bytes (codes "$c") || (bytes_eq w.bytes (codes "$v") || false)) || false) xs []
    ≡ cond (bytes_eq w.bytes (codes "$c") || false) xs [] ++ cond (bytes_eq w.bytes (codes "$v") || false) xs []
one-keyword xs w =
    elim (cases_Bool (bytes_eq w.bytes (codes "$c"))) [
      | inl e ↦
          let is_c : w.bytes ≡ codes "$c" = (bytes_eq-Decides w.bytes (codes "$c")).0 e in
          let no_v : bytes_eq w.bytes (codes "$v") ≡ false = ap (λ (n : List ℕ). bytes_eq n (codes "$v")) is_c in
          rw (e, no_v) (sym (append-nil xs))
      | inr e ↦ elim (cases_Bool (bytes_eq w.bytes (codes "$v"))) [ inl v ↦ rw (e, v) refl | inr v ↦ rw (e, v) refl ]
    ]

declares-are : (s : Statement) → cond (has_one_of (codes "$c" ∷ codes "$v" ∷ []) s) (symbols_in s) [] ≡ adds s
declares-are s = go (body s)
  where
    go : (b : List Word)
        → cond (list_any (is_one_of (codes "$c" ∷ codes "$v" ∷ [])) (take 1 b)) (symbols_in s) []
        ≡ cond (list_any (is (codes "$c")) (take 1 b)) (symbols_in s) [] ++ cond (list_any (is (codes "$v")) (take 1 b)) (symbols_in s) []
    go [] = refl
    go (w ∷ b) = one-keyword (symbols_in s) w

pub adds-are : (ss : List Statement) → flat_map symbols_in (filter (has_one_of (codes "$c" ∷ codes "$v" ∷ [])) ss) ≡ flat_map adds ss
adds-are [] = refl
adds-are (s ∷ ss) =
    elim (has_one_of (codes "$c" ∷ codes "$v" ∷ []) s) as
    (λ b. flat_map symbols_in
    (cond b (s ∷ filter (has_one_of (codes "$c" ∷ codes "$v" ∷ [])) ss) (filter (has_one_of (codes "$c" ∷ codes "$v" ∷ [])) ss))
    ≡ cond b (symbols_in s) [] ++ flat_map adds ss) [ true ↦ ap (λ l. symbols_in s ++ l) (adds-are ss) | false ↦ adds-are ss ]
    ∙ ap (λ l. l ++ flat_map adds ss) (declares-are s)

pub labels-are : (ss : List Statement) → flat_map label_names ss ≡ labels ss
labels-are [] = refl
labels-are (s ∷ ss) = ap (λ l. label_names s ++ l) (labels-are ss) ∙ sym (map-append (λ (w : Word). w.bytes) (labels_in s) (flat_map labels_in ss))

-- ---- the end

some-none : (c : ℕ) → Some c ≡ None → ⊥
some-none c e = cc

between-at-end : (u : Statement) (r : Reader) (s : Stage) → StageIs u [] r s → last_code_at s r ≡ None → u ≡ []
between-at-end u r stage.Between h none = h.0
between-at-end u r stage.Labelled h none = absurd (some-none 21 none)
between-at-end u r (stage.Symbols k) h none = absurd (some-none 21 none)
between-at-end u r (stage.Proof from) h none = absurd (some-none 21 none)

pub contents-are : (text : List ℕ) (i : ℕ) (r : Reader) → length (tokens text) ≤ i → GoesTo text i r → last_code r ≡ None → IsKept (statements text) r
contents-are text i r h g none =
    let empty : g.after ≡ [] = sym g.behind ∙ no-more (tokens text) i h in
    let all : g.before ≡ reverse (tokens text) = ap (λ ws. reverse_aux ws g.before) (sym empty) ∙ g.turned in
    let reads : IsReader g.before [] r = subst (λ ws. IsReader g.before ws r) empty g.reader in
    let e = ended g.before in
    let u : unended g.before ≡ [] = between-at-end (unended g.before) r r.stage reads.stage none in
    let ss : reverse e ≡ statements text = ap (λ ws. reverse (ended ws)) all in
    let last : flat_map adds (reverse (unended g.before ∷ e)) ≡ flat_map adds (reverse e) =
    ap (λ (v : Statement). flat_map adds (reverse (v ∷ e))) u ∙ flat-last adds [] e ∙ append-nil (flat_map adds (reverse e)) in
    let names : r.symbols ≡ symbols (statements text) = reads.state.are_symbols ∙ ap (λ l. without_repeats [] l) (last ∙ sym (adds-are (reverse e))) ∙ ap symbols ss in
    let label_last : flat_map label_names (reverse (unended g.before ∷ e)) ≡ flat_map label_names (reverse e) =
    ap (λ (v : Statement). flat_map label_names (reverse (v ∷ e))) u ∙ flat-last label_names [] e
    ∙ append-nil (flat_map label_names (reverse e)) in
    let labels_ : r.labels ≡ labels (statements text) = reads.state.are_ordered ∙ label_last ∙ labels-are (reverse e) ∙ ap labels ss in
    let places : r.positions ≡ positions (statements text) =
    g.more.positions_are ∙ ap (λ (v : Statement). positions_from 0 (reverse (v ∷ e))) u ∙ positions-empty e ∙ ap (λ xs. positions_from 0 xs) ss in
    let entries_ : r.entries ≡ map (entry_in (symbols (statements text))) (statements text) =
    entries-are r.symbols r.entries (reverse e) reads.state.one g.more.known g.more.entries_are ∙ ap (λ xs. map (entry_in r.symbols) xs) ss
    ∙ ap (λ ns. map (entry_in ns) (statements text)) names in
    record { symbols_are = names; labels_are = labels_; positions_are = places; entries_are = entries_ }
