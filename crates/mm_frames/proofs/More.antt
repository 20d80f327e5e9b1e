-- The statements that the reader keeps by number, and where the labels stand.
use Rattle.std.proofs.Common.{◌≡◌, ℕ, suc, ◌+◌, Bool, true, false, ◌||◌, List, [], ◌∷◌, ◌++◌, length, map, reverse, Option, None, Some, refl, sym, ap}
use Rattle.std.proofs.Common.{◌∙◌, codes, find, arith, inl, inr, append-nil, append_assoc}
use Rattle.std.specs.List.{list_any}
use Rattle.std.specs.Str.{bytes_eq}
use Rattle.std.proofs.lemmas.Bool.{cases_Bool, or_parts}
use Rattle.std.proofs.lemmas.List.{reverse-append}
use Rattle.std.proofs.lemmas.List.Folds.{list_any-append}
use Rattle.mm_base.specs.declared.symbols.Sym.{Sym}
use Rattle.mm_model.specs.Words.{Word}
use Rattle.mm_model.specs.Statements.{Statement, is, is_empty, ends_statement, unended, labels_in, symbols_in}
use Rattle.mm_model.specs.Frames.{positions_from}
use Rattle.mm_frames.specs.declared.reader.Reader.{Reader}
use Rattle.frame_lists.specs.declared.entry.Entry.{Entry}
use Rattle.frame_lists.specs.declared.entry.EntryKind.{EntryKind}
use Rattle.mm_frames.specs.declared.reader.Stage.{Stage}
use Rattle.mm_frames.specs.declared.reader.Stage.TheVariants as stage
use Rattle.frame_lists.specs.declared.entry.StatementKind.TheVariants as kind
use Rattle.frame_lists.specs.Entries.{kind_in, first_byte, proof_of}
use Rattle.mm_model.proofs.Scopes.{cond_then, cond_else}
use Rattle.mm_frames.proofs.Numbers.{name_of, Within}
use Rattle.mm_frames.proofs.Names.{within-more}
use Rattle.mm_frames.proofs.WordGoes.{formula-more}

-- a statement with the names of its symbols
pub record Described : Type 0 where
  pub kind : EntryKind
  pub start : ℕ
  pub names : List (List ℕ)
  pub proof : Option (ℕ × ℕ)

abbrev pub described : Statement → Described
described s = record { kind = kind_in s; start = first_byte s; names = symbols_in s; proof = proof_of s }

abbrev pub shown : List (List ℕ) → Entry → Described
shown symbols x = record { kind = x.kind; start = x.start; names = map (λ (s : Sym). name_of symbols s.0) x.symbols; proof = x.proof }

abbrev pub Known : ℕ → List Entry → Type 0
Known len [] = Unit {0}
Known len (x ∷ xs) = Within len (map (λ (s : Sym). s.0) x.symbols) × Known len xs

abbrev pub ProofIs : Statement → Stage → Type 0
ProofIs u (stage.Proof from) = (x : Word) × (find (is (codes "$=")) u ≡ Some x) × (x.start + 2 ≡ from)
ProofIs u s = Unit {0}

abbrev pub Doubled : Reader → Stage → Type 0
Doubled r (stage.Symbols kind.Distinct) = r.listed ≡ map (λ (s : Sym). s.0) r.formula
Doubled r s = Unit {0}

pub record More (u : Statement) (e : List Statement) (r : Reader) : Type 0 where
  pub positions_are : r.positions ≡ positions_from 0 (reverse (u ∷ e))
  pub entries_are : map (shown r.symbols) r.entries ≡ map described (reverse e)
  pub known : Known (length r.symbols) r.entries
  pub begins_are : is_empty u ≡ false → first_byte u ≡ r.begins
  pub proof_is : ProofIs u r.stage
  pub doubled : Doubled r r.stage

-- ---- symbols that are new

abbrev with_names : Entry → List (List ℕ) → Described
with_names x l = record { kind = x.kind; start = x.start; names = l; proof = x.proof }

pub shown-more : (symbols : List (List ℕ)) (n : List ℕ) (xs : List Entry) → Known (length symbols) xs → map (shown (symbols ++ n ∷ [])) xs ≡ map (shown symbols) xs
shown-more symbols n [] h = refl
shown-more symbols n (x ∷ xs) h =
    let a = formula-more symbols n x.symbols h.0 in
    let b = shown-more symbols n xs h.1 in
    ap (λ l. with_names x l ∷ map (shown (symbols ++ n ∷ [])) xs) a ∙ ap (λ l. shown symbols x ∷ l) b

pub known-more : (len : ℕ) (xs : List Entry) → Known len xs → Known (suc len) xs
known-more len [] h = tt
known-more len (x ∷ xs) h = (within-more len (map (λ (s : Sym). s.0) x.symbols) h.0, known-more len xs h.1)

pub known-end : (len : ℕ) (xs : List Entry) (x : Entry) → Known len xs → Within len (map (λ (s : Sym). s.0) x.symbols) → Known len (xs ++ x ∷ [])
known-end len [] x h k = (k, tt)
known-end len (y ∷ xs) x h k = (h.0, known-end len xs x h.1 k)

-- ---- positions

positions-last : (at : ℕ) (ss : List Statement) (s : Statement) → positions_from at (ss ++ s ∷ []) ≡ positions_from at ss ++ map (λ (w : Word). at + length ss) (labels_in s)
positions-last at [] s = let e : at + 0 ≡ at = omega arith in append-nil (map (λ (w : Word). at) (labels_in s)) ∙ ap (λ (k : ℕ). map (λ (w : Word). k) (labels_in s)) (sym e)
positions-last at (x ∷ ss) s =
    let e : suc at + length ss ≡ at + suc (length ss) = omega arith in
    let a = map (λ (w : Word). at) (labels_in x) in
    ap (λ l. a ++ l) (positions-last (suc at) ss s)
    ∙ ap (λ (k : ℕ). a ++ (positions_from (suc at) ss ++ map (λ (w : Word). k) (labels_in s))) e
    ∙ sym (append_assoc a (positions_from (suc at) ss) (map (λ (w : Word). at + suc (length ss)) (labels_in s)))

pub positions-of : (u : Statement) (e : List Statement) → positions_from 0 (reverse (u ∷ e)) ≡ positions_from 0 (reverse e) ++ map (λ (w : Word). 0 + length (reverse e)) (labels_in u)
positions-of u e = ap (λ ss. positions_from 0 ss) (reverse-append (u ∷ []) e) ∙ positions-last 0 (reverse e) u

pub positions-same : (u v : Statement) (e : List Statement) → labels_in v ≡ labels_in u → positions_from 0 (reverse (u ∷ e)) ≡ positions_from 0 (reverse (v ∷ e))
positions-same u v e h = positions-of u e ∙ ap (λ ws. positions_from 0 (reverse e) ++ map (λ (w : Word). 0 + length (reverse e)) ws) (sym h) ∙ sym (positions-of v e)

pub positions-empty : (e : List Statement) → positions_from 0 (reverse ([] ∷ e)) ≡ positions_from 0 (reverse e)
positions-empty e = positions-of [] e ∙ append-nil (positions_from 0 (reverse e))

-- ---- the finds of a proof's ends

pub find-last : (p : Word → Bool) (u : Statement) (w : Word) → list_any p u ≡ false → p w ≡ true → find p (u ++ w ∷ []) ≡ Some w
find-last p [] w h k = rw k refl
find-last p (x ∷ u) w h k = let parts = or_parts (p x) (list_any p u) h in let a = parts.0 in rw a (find-last p u w parts.1 k)

pub find-more : (p : Word → Bool) (u v : Statement) (x : Word) → find p u ≡ Some x → find p (u ++ v) ≡ Some x
find-more p [] v x h = absurd (clash h)
  where
    clash : None ≡ Some x → ⊥
    clash e = cc
find-more p (y ∷ u) v x h =
    elim (cases_Bool (p y)) [
      | inl k ↦ let same : Some y ≡ Some x = rw k at h in rw k same
      | inr k ↦ let rest : find p u ≡ Some x = rw k at h in rw k (find-more p u v x rest)
    ]

pub no-ends : (before : List Word) → list_any (is (codes "$.")) (unended before) ≡ false
no-ends [] = refl
no-ends (w ∷ before) =
    elim (cases_Bool (ends_statement w)) [
      | inl h ↦ ap (λ (u : Statement). list_any (is (codes "$.")) u) (cond_then (ends_statement w) [] (unended before ++ w ∷ []) h)
      | inr h ↦
          let first : is (codes "$.") w ≡ false = (or_parts (bytes_eq w.bytes (codes "$.")) (bytes_eq w.bytes (codes "${") || (bytes_eq w.bytes (codes "$}") || false)) h).0 in
          ap (λ (u : Statement). list_any (is (codes "$.")) u) (cond_else (ends_statement w) [] (unended before ++ w ∷ []) h)
          ∙ list_any-append (is (codes "$.")) (unended before) (w ∷ []) ∙ (let before_ = no-ends before in rw (before_, first) refl)
    ]
