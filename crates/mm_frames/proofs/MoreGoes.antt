-- What a token adds to the statements that the reader keeps.
use Rattle.std.proofs.Common.{◌⊎◌, eqb, ◌≡◌, ℕ, suc, ◌+◌, Bool, true, false, cond, not, List, [], ◌∷◌, ◌++◌, length, map, reverse, Option, None, Some}
use Rattle.std.proofs.Common.{refl, sym, ap, ◌∙◌, subst, codes, find, position, arith, inl, inr, append-nil}
use Rattle.std.specs.List.{list_any}
use Rattle.std.specs.Str.{bytes_eq}
use Rattle.std.proofs.lemmas.List.{map-append, length-map, reverse-append}
use Rattle.mm_base.specs.declared.symbols.Sym.{Sym}
use Rattle.mm_model.specs.Words.{Word, word}
use Rattle.mm_model.specs.Statements.{Statement, is, is_word, is_empty, ends_statement, ended, unended, labels_in, symbols_in, has_keyword}
use Rattle.mm_model.specs.Frames.{positions_from, proof_in}
use Rattle.mm_tokens.specs.declared.token.TokenKind.{TokenKind}
use Rattle.mm_tokens.specs.declared.token.TokenKind.TheVariants as token
use Rattle.mm_frames.specs.declared.reader.Reader.{Reader}
use Rattle.frame_lists.specs.declared.entry.Entry.{Entry}
use Rattle.frame_lists.specs.declared.entry.EntryKind.{EntryKind}
use Rattle.frame_lists.specs.declared.entry.EntryKind.TheVariants as entry
use Rattle.mm_frames.specs.declared.reader.Stage.{Stage}
use Rattle.mm_frames.specs.declared.reader.Stage.TheVariants as stage
use Rattle.frame_lists.specs.declared.entry.StatementKind.{StatementKind}
use Rattle.frame_lists.specs.declared.entry.StatementKind.TheVariants as kind
use Rattle.mm_frames.specs.declared.reader.Meaning.{Meaning}
use Rattle.mm_frames.specs.declared.reader.Meaning.TheVariants as meant
use Rattle.mm_frames.specs.declared.scopes.Scope.{Scope}
use Rattle.frame_lists.specs.Entries.{kind_in, first_byte, proof_of}
use Rattle.mm_frames.specs.Reading.{meaning_of, with_distinct, with_floating, with_symbol, with_variable_at, with_symbol_of, with_word_at, with_stage}
use Rattle.mm_frames.specs.Reading.{with_proof, with_end, with_open, with_close_at, with_token, step_code, word_code_at, between_code_at}
use Rattle.mm_frames.specs.Reading.{labelled_code_at, equals_code_at, end_code_at, close_code_at, ended_entry_at, entry_of}
use Rattle.mm_model.proofs.Scopes.{cond_then, cond_else}
use Rattle.mm_frames.proofs.Numbers.{name_of, Within}
use Rattle.mm_frames.proofs.Names.{length-more}
use Rattle.mm_model.proofs.Lists.{ended-on, unended-on}
use Rattle.mm_frames.proofs.Shapes.{IsBegun, IsOpen, IsProof, begun-more, labels-more, symbols-of, symbols-same, keyword-is}
use Rattle.mm_frames.proofs.SoFar.{keyword, IsKind, formula_names, names_for, IsClear, StageIs, IsReader}
use Rattle.mm_frames.proofs.More.{Described, described, shown, Known, ProofIs, Doubled, More, shown-more, known-more, known-end, positions-of}
use Rattle.mm_frames.proofs.More.{positions-same, positions-empty, find-last, find-more, no-ends}

-- the statements that are ended stay, and so do the labels' places
pub record Same (r q : Reader) : Type 0 where
  pub entries : q.entries ≡ r.entries
  pub positions : q.positions ≡ r.positions
  pub begins : q.begins ≡ r.begins
  pub stage : q.stage ≡ r.stage
  pub symbols : (q.symbols ≡ r.symbols) ⊎ ((n : List ℕ) × (q.symbols ≡ r.symbols ++ n ∷ []))

same : (r : Reader) → Same r r
same r = record { entries = refl; positions = refl; begins = refl; stage = refl; symbols = inl refl }

same-distinct : (r : Reader) (m : Meaning) → Same r (with_distinct r m)
same-distinct r meant.Nothing = same r
same-distinct r (meant.Constant s) = same r
same-distinct r (meant.Variable s) = record { entries = refl; positions = refl; begins = refl; stage = refl; symbols = inl refl }

same-floating : (r : Reader) (m : Meaning) → Same r (with_floating r m)
same-floating r meant.Nothing = same r
same-floating r (meant.Constant s) = record { entries = refl; positions = refl; begins = refl; stage = refl; symbols = inl refl }
same-floating r (meant.Variable s) = record { entries = refl; positions = refl; begins = refl; stage = refl; symbols = inl refl }

same-symbol : (r : Reader) (m : Meaning) → Same r (with_symbol r m)
same-symbol r meant.Nothing = same r
same-symbol r (meant.Constant s) = record { entries = refl; positions = refl; begins = refl; stage = refl; symbols = inl refl }
same-symbol r (meant.Variable s) = record { entries = refl; positions = refl; begins = refl; stage = refl; symbols = inl refl }

same-variable : (r : Reader) (n : List ℕ) (p : Option ℕ) → Same r (with_variable_at p r n)
same-variable r n None = record { entries = refl; positions = refl; begins = refl; stage = refl; symbols = inr (n, refl) }
same-variable r n (Some i) = record { entries = refl; positions = refl; begins = refl; stage = refl; symbols = inl refl }

same-symbol-of : (r : Reader) (n : List ℕ) (k : StatementKind) → Same r (with_symbol_of r k n)
same-symbol-of r n kind.Constants = record { entries = refl; positions = refl; begins = refl; stage = refl; symbols = inr (n, refl) }
same-symbol-of r n kind.Variables = same-variable r n (position (bytes_eq n) r.symbols)
same-symbol-of r n kind.Distinct = same-distinct r (meaning_of r n)
same-symbol-of r n kind.Floating = same-floating r (meaning_of r n)
same-symbol-of r n kind.Essential = same-symbol r (meaning_of r n)
same-symbol-of r n kind.Axiom = same-symbol r (meaning_of r n)
same-symbol-of r n kind.Provable = same-symbol r (meaning_of r n)

doubled-distinct : (r : Reader) (m : Meaning) → r.listed ≡ map (λ (s : Sym). s.0) r.formula → Doubled (with_distinct r m) (stage.Symbols kind.Distinct)
doubled-distinct r meant.Nothing h = h
doubled-distinct r (meant.Constant s) h = h
doubled-distinct r (meant.Variable s) h = ap (λ l. l ++ s.0 ∷ []) h ∙ sym (map-append (λ (s : Sym). s.0) r.formula (s ∷ []))

doubled-symbol-of : (r : Reader) (n : List ℕ) (k : StatementKind) → Doubled r (stage.Symbols k) → Doubled (with_symbol_of r k n) (stage.Symbols k)
doubled-symbol-of r n kind.Constants h = tt
doubled-symbol-of r n kind.Variables h = tt
doubled-symbol-of r n kind.Distinct h = doubled-distinct r (meaning_of r n) h
doubled-symbol-of r n kind.Floating h = tt
doubled-symbol-of r n kind.Essential h = tt
doubled-symbol-of r n kind.Axiom h = tt
doubled-symbol-of r n kind.Provable h = tt

-- ---- a token that ends no statement

entries-on : (ds : List Described) (r q : Reader) → Same r q → map (shown r.symbols) r.entries ≡ ds → Known (length r.symbols) r.entries
    → (map (shown q.symbols) q.entries ≡ ds) × Known (length q.symbols) q.entries
entries-on ds r q s a k = elim s.symbols [
  | inl e ↦ (
    ap (λ xs. map (shown q.symbols) xs) s.entries ∙ ap (λ l. map (shown l) r.entries) e ∙ a,
    subst (λ xs. Known (length q.symbols) xs) (sym s.entries) (subst (λ l. Known (length l) r.entries) (sym e) k),
  )
  | inr e ↦
      let n : List ℕ = e.0 in
      let longer : length (r.symbols ++ n ∷ []) ≡ suc (length r.symbols) = length-more r.symbols n in
      let known : Known (length (r.symbols ++ n ∷ [])) r.entries = subst (λ (len : ℕ). Known len r.entries) (sym longer) (known-more (length r.symbols) r.entries k) in (
        ap (λ xs. map (shown q.symbols) xs) s.entries ∙ ap (λ l. map (shown l) r.entries) e.1 ∙ shown-more r.symbols n r.entries k ∙ a,
        subst (λ xs. Known (length q.symbols) xs) (sym s.entries) (subst (λ l. Known (length l) r.entries) (sym e.1) known),
      )
]

more-on : (u v : Statement) (e : List Statement) (r q : Reader) → More u e r
    → (map (shown q.symbols) q.entries ≡ map described (reverse e)) × Known (length q.symbols) q.entries → q.positions ≡ r.positions
    → q.begins ≡ r.begins → labels_in v ≡ labels_in u → first_byte v ≡ r.begins → ProofIs v q.stage → Doubled q q.stage → More v e q
more-on u v e r q m x p b l f h d = record {
  positions_are = p ∙ m.positions_are ∙ positions-same u v e l;
  entries_are = x.0;
  known = x.1;
  begins_are = λ n. f ∙ sym b;
  proof_is = h;
  doubled = d;
}

no-proof : (v : Statement) (k : StatementKind) → ProofIs v (stage.Symbols k)
no-proof v k = tt

some-none : (c : ℕ) → Some c ≡ None → ⊥
some-none c e = cc

two-codes : (b : Bool) (c d : ℕ) → cond b (Some c) (Some d) ≡ None → ⊥
two-codes true c d h = some-none c h
two-codes false c d h = some-none d h

label-more : (at b : ℕ) (bs : List ℕ) (e : List Statement) (r : Reader) → eqb b 36 ≡ false → list_any (λ b. eqb b 36) bs ≡ false → More [] e r
    → at ≡ r.begins → More (word at (b ∷ bs) ∷ []) e (with_word_at stage.Between r (b ∷ bs))
label-more at b bs e r d ds m f =
    let w = word at (b ∷ bs) in
    let one : labels_in (w ∷ []) ≡ w ∷ [] = rw (d, ds) refl in
    let count : length r.entries ≡ 0 + length (reverse e) =
    sym (length-map r.entries (shown r.symbols)) ∙ ap (λ l. length l) m.entries_are ∙ length-map (reverse e) described
    ∙ (let zero_ : length (reverse e) ≡ 0 + length (reverse e) = omega arith in zero_) in
    record {
      positions_are =
          ap (λ l. l ++ length r.entries ∷ []) (m.positions_are ∙ positions-empty e) ∙ ap (λ (n : ℕ). positions_from 0 (reverse e) ++ n ∷ []) count
          ∙ ap (λ ws. positions_from 0 (reverse e) ++ map (λ (w : Word). 0 + length (reverse e)) ws) (sym one) ∙ sym (positions-of (w ∷ []) e);
      entries_are = m.entries_are;
      known = m.known;
      begins_are = λ n. f;
      proof_is = tt;
      doubled = tt;
    }

pub word-more : (u : Statement) (e : List Statement) (after : List Word) (r : Reader) (at b : ℕ) (bs : List ℕ) (next : Option TokenKind) (s : Stage)
    → s ≡ r.stage → eqb b 36 ≡ false → list_any (λ b. eqb b 36) bs ≡ false
    → StageIs u after r s → More u e r → first_byte (u ++ word at (b ∷ bs) ∷ []) ≡ r.begins → word_code_at s r (b ∷ bs) next ≡ None
    → More (u ++ word at (b ∷ bs) ∷ []) e (with_word_at s r (b ∷ bs))
word-more u e after r at b bs next stage.Between i d ds h m f none =
    let first : More [] e r = subst (λ (v : Statement). More v e r) h.0 m in
    let starts : at ≡ r.begins = ap (λ (v : Statement). first_byte (v ++ word at (b ∷ bs) ∷ [])) (sym h.0) ∙ f in
    subst (λ (v : Statement). More (v ++ word at (b ∷ bs) ∷ []) e (with_word_at stage.Between r (b ∷ bs))) (sym h.0) (label-more at b bs e r d ds first starts)
word-more u e after r at b bs next stage.Labelled i d ds h m f none = absurd (some-none 29 none)
word-more u e after r at b bs next (stage.Symbols k) i d ds h m f none =
    let n = b ∷ bs in
    let w = word at n in
    let s = same-symbol-of r n k in
    let q = with_symbol_of r k n in
    let stage_is : stage.Symbols k ≡ q.stage = i ∙ sym s.stage in
    more-on u (u ++ w ∷ []) e r q m (entries-on (map described (reverse e)) r q s m.entries_are m.known) s.positions s.begins
    (labels-more u (w ∷ []) (word h.begun.at (keyword k)) h.begun.rest h.begun.body_is) f
    (subst (λ (t : Stage). ProofIs (u ++ w ∷ []) t) stage_is (no-proof (u ++ w ∷ []) k))
    (subst (λ (t : Stage). Doubled q t) stage_is (doubled-symbol-of r n k (subst (λ (t : Stage). Doubled r t) (sym i) m.doubled)))
word-more u e after r at b bs next (stage.Proof from) i d ds h m f none =
    let w = word at (b ∷ bs) in
    let p : ProofIs u (stage.Proof from) = subst (λ (t : Stage). ProofIs u t) (sym i) m.proof_is in
    let on : ProofIs (u ++ w ∷ []) (stage.Proof from) = (p.0, find-more (is (codes "$=")) u (w ∷ []) p.0 p.1, p.2) in
    more-on u (u ++ w ∷ []) e r r m (m.entries_are, m.known) refl refl (labels-more u (w ∷ []) (word h.begun.at (codes "$p")) h.begun.rest h.begun.body_is) f
    (subst (λ (t : Stage). ProofIs (u ++ w ∷ []) t) i on) m.doubled

-- ---- keywords

clear-doubled : (r : Reader) (k : StatementKind) → IsClear r → Doubled (with_stage r k) (stage.Symbols k)
clear-doubled r kind.Constants c = tt
clear-doubled r kind.Variables c = tt
clear-doubled r kind.Distinct c = c.listed ∙ ap (λ fs. map (λ (s : Sym). s.0) fs) (sym c.formula)
clear-doubled r kind.Floating c = tt
clear-doubled r kind.Essential c = tt
clear-doubled r kind.Axiom c = tt
clear-doubled r kind.Provable c = tt

stage-more : (u v : Statement) (e : List Statement) (r : Reader) (k : StatementKind) → IsClear r → More u e r → labels_in v ≡ labels_in u → first_byte v ≡ r.begins → More v e (with_stage r k)
stage-more u v e r k c m l f = more-on u v e r (with_stage r k) m (m.entries_are, m.known) refl refl l f tt (clear-doubled r k c)

constants-more : (u : Statement) (e : List Statement) (after : List Word) (r : Reader) (at : ℕ) (s : Stage) → StageIs u after r s → More u e r
    → first_byte (u ++ word at (codes "$c") ∷ []) ≡ r.begins → between_code_at s r ≡ None
    → More (u ++ word at (codes "$c") ∷ []) e (with_stage r kind.Constants)
constants-more u e after r at stage.Between h m f none =
    stage-more u (u ++ word at (codes "$c") ∷ []) e r kind.Constants h.1 m
    (ap (λ (v : Statement). labels_in (v ++ word at (codes "$c") ∷ [])) h.0 ∙ ap (λ (v : Statement). labels_in v) (sym h.0)) f
constants-more u e after r at stage.Labelled h m f none = absurd (some-none 29 none)
constants-more u e after r at (stage.Symbols k) h m f none = absurd (some-none 29 none)
constants-more u e after r at (stage.Proof from) h m f none = absurd (some-none 29 none)

variables-more : (u : Statement) (e : List Statement) (after : List Word) (r : Reader) (at : ℕ) (s : Stage) → StageIs u after r s → More u e r
    → first_byte (u ++ word at (codes "$v") ∷ []) ≡ r.begins → between_code_at s r ≡ None
    → More (u ++ word at (codes "$v") ∷ []) e (with_stage r kind.Variables)
variables-more u e after r at stage.Between h m f none =
    stage-more u (u ++ word at (codes "$v") ∷ []) e r kind.Variables h.1 m
    (ap (λ (v : Statement). labels_in (v ++ word at (codes "$v") ∷ [])) h.0 ∙ ap (λ (v : Statement). labels_in v) (sym h.0)) f
variables-more u e after r at stage.Labelled h m f none = absurd (some-none 29 none)
variables-more u e after r at (stage.Symbols k) h m f none = absurd (some-none 29 none)
variables-more u e after r at (stage.Proof from) h m f none = absurd (some-none 29 none)

distinct-more : (u : Statement) (e : List Statement) (after : List Word) (r : Reader) (at : ℕ) (s : Stage) → StageIs u after r s → More u e r
    → first_byte (u ++ word at (codes "$d") ∷ []) ≡ r.begins → between_code_at s r ≡ None
    → More (u ++ word at (codes "$d") ∷ []) e (with_stage r kind.Distinct)
distinct-more u e after r at stage.Between h m f none =
    stage-more u (u ++ word at (codes "$d") ∷ []) e r kind.Distinct h.1 m
    (ap (λ (v : Statement). labels_in (v ++ word at (codes "$d") ∷ [])) h.0 ∙ ap (λ (v : Statement). labels_in v) (sym h.0)) f
distinct-more u e after r at stage.Labelled h m f none = absurd (some-none 29 none)
distinct-more u e after r at (stage.Symbols k) h m f none = absurd (some-none 29 none)
distinct-more u e after r at (stage.Proof from) h m f none = absurd (some-none 29 none)

floating-more : (u : Statement) (e : List Statement) (after : List Word) (r : Reader) (at : ℕ) (s : Stage) → StageIs u after r s → More u e r
    → first_byte (u ++ word at (codes "$f") ∷ []) ≡ r.begins → labelled_code_at s r ≡ None
    → More (u ++ word at (codes "$f") ∷ []) e (with_stage r kind.Floating)
floating-more u e after r at stage.Labelled h m f none =
    let x : Word = h.0.label in
    let i : is_word x ≡ true = h.0.is_name in
    let w : Word = word at (codes "$f") in
    let both : labels_in (x ∷ w ∷ []) ≡ labels_in (x ∷ []) = rw i refl in
    stage-more u (u ++ w ∷ []) e r kind.Floating h.1 m (ap (λ (v : Statement). labels_in (v ++ w ∷ [])) h.0.is ∙ both ∙ ap (λ (v : Statement). labels_in v) (sym h.0.is)) f
floating-more u e after r at stage.Between h m f none = absurd (some-none 18 none)
floating-more u e after r at (stage.Symbols k) h m f none = absurd (some-none 18 none)
floating-more u e after r at (stage.Proof from) h m f none = absurd (some-none 18 none)

essential-more : (u : Statement) (e : List Statement) (after : List Word) (r : Reader) (at : ℕ) (s : Stage) → StageIs u after r s → More u e r
    → first_byte (u ++ word at (codes "$e") ∷ []) ≡ r.begins → labelled_code_at s r ≡ None
    → More (u ++ word at (codes "$e") ∷ []) e (with_stage r kind.Essential)
essential-more u e after r at stage.Labelled h m f none =
    let x : Word = h.0.label in
    let i : is_word x ≡ true = h.0.is_name in
    let w : Word = word at (codes "$e") in
    let both : labels_in (x ∷ w ∷ []) ≡ labels_in (x ∷ []) = rw i refl in
    stage-more u (u ++ w ∷ []) e r kind.Essential h.1 m (ap (λ (v : Statement). labels_in (v ++ w ∷ [])) h.0.is ∙ both ∙ ap (λ (v : Statement). labels_in v) (sym h.0.is)) f
essential-more u e after r at stage.Between h m f none = absurd (some-none 18 none)
essential-more u e after r at (stage.Symbols k) h m f none = absurd (some-none 18 none)
essential-more u e after r at (stage.Proof from) h m f none = absurd (some-none 18 none)

axiom-more : (u : Statement) (e : List Statement) (after : List Word) (r : Reader) (at : ℕ) (s : Stage) → StageIs u after r s → More u e r
    → first_byte (u ++ word at (codes "$a") ∷ []) ≡ r.begins → labelled_code_at s r ≡ None
    → More (u ++ word at (codes "$a") ∷ []) e (with_stage r kind.Axiom)
axiom-more u e after r at stage.Labelled h m f none =
    let x : Word = h.0.label in
    let i : is_word x ≡ true = h.0.is_name in
    let w : Word = word at (codes "$a") in
    let both : labels_in (x ∷ w ∷ []) ≡ labels_in (x ∷ []) = rw i refl in
    stage-more u (u ++ w ∷ []) e r kind.Axiom h.1 m (ap (λ (v : Statement). labels_in (v ++ w ∷ [])) h.0.is ∙ both ∙ ap (λ (v : Statement). labels_in v) (sym h.0.is)) f
axiom-more u e after r at stage.Between h m f none = absurd (some-none 18 none)
axiom-more u e after r at (stage.Symbols k) h m f none = absurd (some-none 18 none)
axiom-more u e after r at (stage.Proof from) h m f none = absurd (some-none 18 none)

provable-more : (u : Statement) (e : List Statement) (after : List Word) (r : Reader) (at : ℕ) (s : Stage) → StageIs u after r s → More u e r
    → first_byte (u ++ word at (codes "$p") ∷ []) ≡ r.begins → labelled_code_at s r ≡ None
    → More (u ++ word at (codes "$p") ∷ []) e (with_stage r kind.Provable)
provable-more u e after r at stage.Labelled h m f none =
    let x : Word = h.0.label in
    let i : is_word x ≡ true = h.0.is_name in
    let w : Word = word at (codes "$p") in
    let both : labels_in (x ∷ w ∷ []) ≡ labels_in (x ∷ []) = rw i refl in
    stage-more u (u ++ w ∷ []) e r kind.Provable h.1 m (ap (λ (v : Statement). labels_in (v ++ w ∷ [])) h.0.is ∙ both ∙ ap (λ (v : Statement). labels_in v) (sym h.0.is)) f
provable-more u e after r at stage.Between h m f none = absurd (some-none 18 none)
provable-more u e after r at (stage.Symbols k) h m f none = absurd (some-none 18 none)
provable-more u e after r at (stage.Proof from) h m f none = absurd (some-none 18 none)

-- `$=`
proof-more : (u : Statement) (e : List Statement) (r : Reader) (at : ℕ) → IsOpen u (codes "$p") (formula_names r) → More u e r
    → first_byte (u ++ word at (codes "$=") ∷ []) ≡ r.begins → More (u ++ word at (codes "$=") ∷ []) e (with_proof r (at + 2))
proof-more u e r at o m f =
    let w : Word = word at (codes "$=") in
    more-on u (u ++ w ∷ []) e r (with_proof r (at + 2)) m (m.entries_are, m.known) refl refl (labels-more u (w ∷ []) (word o.begun.at (codes "$p")) o.begun.rest o.begun.body_is) f
    (w, find-last (is (codes "$=")) u w o.no_proof refl, refl) tt

equals-more : (u : Statement) (e : List Statement) (after : List Word) (r : Reader) (at : ℕ) (s : Stage) → StageIs u after r s → More u e r
    → first_byte (u ++ word at (codes "$=") ∷ []) ≡ r.begins → equals_code_at s r ≡ None
    → More (u ++ word at (codes "$=") ∷ []) e (with_proof r (at + 2))
equals-more u e after r at stage.Between h m f none = absurd (some-none 29 none)
equals-more u e after r at stage.Labelled h m f none = absurd (some-none 29 none)
equals-more u e after r at (stage.Symbols kind.Constants) h m f none = absurd (two-codes (is_empty r.formula) 26 29 none)
equals-more u e after r at (stage.Symbols kind.Variables) h m f none = absurd (two-codes (is_empty r.formula) 26 29 none)
equals-more u e after r at (stage.Symbols kind.Distinct) h m f none = absurd (some-none 29 none)
equals-more u e after r at (stage.Symbols kind.Floating) h m f none = absurd (some-none 29 none)
equals-more u e after r at (stage.Symbols kind.Essential) h m f none = absurd (two-codes (is_empty r.formula) 26 29 none)
equals-more u e after r at (stage.Symbols kind.Axiom) h m f none = absurd (two-codes (is_empty r.formula) 26 29 none)
equals-more u e after r at (stage.Symbols kind.Provable) h m f none = proof-more u e r at h m f
equals-more u e after r at (stage.Proof from) h m f none = absurd (some-none 29 none)

-- ---- a statement that ends

kind-of : (v : Statement) (k : StatementKind) → IsBegun v (keyword k) → kind_in v ≡ entry.Statement k
kind-of v kind.Constants o = rw o.body_is refl
kind-of v kind.Variables o = rw o.body_is refl
kind-of v kind.Distinct o = rw o.body_is refl
kind-of v kind.Floating o = rw o.body_is refl
kind-of v kind.Essential o = rw o.body_is refl
kind-of v kind.Axiom o = rw o.body_is refl
kind-of v kind.Provable o = rw o.body_is refl

no-proof-in : (v : Statement) (k : List ℕ) → IsBegun v k → bytes_eq k (codes "$p") ≡ false → proof_of v ≡ None
no-proof-in v k o h = let e : has_keyword (codes "$p") v ≡ false = keyword-is v k (codes "$p") o ∙ rw h refl in cond_else (has_keyword (codes "$p") v) (proof_in v) None e

all-entries : (v : Statement) (e : List Statement) (r : Reader) (x : Entry) (q : Reader) → map (shown r.symbols) r.entries ≡ map described (reverse e)
    → shown r.symbols x ≡ described v → q.symbols ≡ r.symbols → q.entries ≡ r.entries ++ x ∷ []
    → map (shown q.symbols) q.entries ≡ map described (reverse (v ∷ e))
all-entries v e r x q a h qs qe =
    ap (λ xs. map (shown q.symbols) xs) qe ∙ ap (λ l. map (shown l) (r.entries ++ x ∷ [])) qs ∙ map-append (shown r.symbols) r.entries (x ∷ [])
    ∙ ap (λ l. l ++ shown r.symbols x ∷ []) a ∙ ap (λ d. map described (reverse e) ++ d ∷ []) h
    ∙ sym (map-append described (reverse e) (v ∷ [])) ∙ ap (λ ss. map described ss) (sym (reverse-append (v ∷ []) e))

-- a block's statement
entry-more : (v : Statement) (e : List Statement) (r : Reader) (x : Entry) (start : ℕ) → More [] e r → shown r.symbols x ≡ described v
    → labels_in v ≡ [] → Within (length r.symbols) (map (λ (s : Sym). s.0) x.symbols) → (q : Reader) → q.symbols ≡ r.symbols
    → q.entries ≡ r.entries ++ x ∷ [] → q.positions ≡ r.positions → q.stage ≡ stage.Between → More [] (v ∷ e) q
entry-more v e r x start m h l w q qs qe qp qt = record {
  positions_are =
      qp ∙ m.positions_are ∙ positions-empty e
      ∙ sym
      (positions-empty (v ∷ e) ∙ positions-of v e ∙ ap (λ ws. positions_from 0 (reverse e) ++ map (λ (w : Word). 0 + length (reverse e)) ws) l
      ∙ append-nil (positions_from 0 (reverse e)));
  entries_are = all-entries v e r x q m.entries_are h qs qe;
  known = subst (λ l. Known (length l) q.entries) (sym qs) (subst (λ xs. Known (length r.symbols) xs) (sym qe) (known-end (length r.symbols) r.entries x m.known w));
  begins_are = λ n. absurd (clash n);
  proof_is = subst (λ (t : Stage). ProofIs [] t) (sym qt) tt;
  doubled = subst (λ (t : Stage). Doubled q t) (sym qt) tt;
}
  where
    clash : true ≡ false → ⊥
    clash e = cc

block-more : (v : Statement) (e : List Statement) (r : Reader) (k : EntryKind) → More [] e r
    → described v ≡ record { kind = k; start = r.begins; names = []; proof = None } → labels_in v ≡ [] → (q : Reader) → q.symbols ≡ r.symbols
    → q.entries ≡ r.entries ++ (record { kind = k; start = r.begins; symbols = []; proof = None }) ∷ [] → q.positions ≡ r.positions
    → q.stage ≡ stage.Between → More [] (v ∷ e) q
block-more v e r k m h l q qs qe qp qt = entry-more v e r (record { kind = k; start = r.begins; symbols = []; proof = None }) 0 m (sym h) l tt q qs qe qp qt

abbrev a_block : EntryKind → ℕ → Described
a_block k b = record { kind = k; start = b; names = []; proof = None }

open-more : (u : Statement) (e : List Statement) (after : List Word) (r : Reader) (at : ℕ) (s : Stage) → s ≡ r.stage → StageIs u after r s
    → More u e r → first_byte (u ++ word at (codes "${") ∷ []) ≡ r.begins → between_code_at s r ≡ None
    → More [] ((u ++ word at (codes "${") ∷ []) ∷ e) (with_open r)
open-more u e after r at stage.Between i h m f none =
    let w : Word = word at (codes "${") in
    let first : More [] e r = subst (λ (v : Statement). More v e r) h.0 m in
    let starts : at ≡ r.begins = ap (λ (v : Statement). first_byte (v ++ w ∷ [])) (sym h.0) ∙ f in
    subst (λ (v : Statement). More [] ((v ++ w ∷ []) ∷ e) (with_open r)) (sym h.0)
    (block-more (w ∷ []) e r entry.OpenBlock first (ap (λ (b : ℕ). a_block entry.OpenBlock b) starts) refl (with_open r) refl refl refl (sym i))
open-more u e after r at stage.Labelled i h m f none = absurd (some-none 29 none)
open-more u e after r at (stage.Symbols k) i h m f none = absurd (some-none 29 none)
open-more u e after r at (stage.Proof from) i h m f none = absurd (some-none 29 none)

close-more : (u : Statement) (e : List Statement) (after : List Word) (r : Reader) (at : ℕ) (s : Stage) (ss : List Scope) → s ≡ r.stage
    → StageIs u after r s → More u e r → first_byte (u ++ word at (codes "$}") ∷ []) ≡ r.begins → close_code_at ss r ≡ None
    → More [] ((u ++ word at (codes "$}") ∷ []) ∷ e) (with_close_at ss r)
close-more u e after r at s [] i h m f none = absurd (some-none 23 none)
close-more u e after r at stage.Between (c ∷ cs) i h m f none =
    let w : Word = word at (codes "$}") in
    let first : More [] e r = subst (λ (v : Statement). More v e r) h.0 m in
    let starts : at ≡ r.begins = ap (λ (v : Statement). first_byte (v ++ w ∷ [])) (sym h.0) ∙ f in
    subst (λ (v : Statement). More [] ((v ++ w ∷ []) ∷ e) (with_close_at (c ∷ cs) r)) (sym h.0)
    (block-more (w ∷ []) e r entry.CloseBlock first (ap (λ (b : ℕ). a_block entry.CloseBlock b) starts) refl (with_close_at (c ∷ cs) r) refl refl refl (sym i))
close-more u e after r at stage.Labelled (c ∷ cs) i h m f none = absurd (some-none 29 (ap (λ (t : Stage). between_code_at t r) i ∙ none))
close-more u e after r at (stage.Symbols k) (c ∷ cs) i h m f none = absurd (some-none 29 (ap (λ (t : Stage). between_code_at t r) i ∙ none))
close-more u e after r at (stage.Proof from) (c ∷ cs) i h m f none = absurd (some-none 29 (ap (λ (t : Stage). between_code_at t r) i ∙ none))

abbrev a_statement : EntryKind → ℕ → List (List ℕ) → Option (ℕ × ℕ) → Described
a_statement k b names proof = record { kind = k; start = b; names = names; proof = proof }

-- `$.`
end-entry : (v : Statement) (k : StatementKind) (r : Reader) (proof : Option (ℕ × ℕ)) → IsBegun v (keyword k) → first_byte v ≡ r.begins
    → formula_names r ≡ symbols_in v → proof_of v ≡ proof → shown r.symbols (entry_of r k proof) ≡ described v
end-entry v k r proof o f n p =
    ap (λ (b : ℕ). a_statement (entry.Statement k) b (formula_names r) proof) (sym f)
    ∙ ap (λ l. a_statement (entry.Statement k) (first_byte v) l proof) n
    ∙ ap (λ (q : Option (ℕ × ℕ)). a_statement (entry.Statement k) (first_byte v) (symbols_in v) q) (sym p)
    ∙ ap (λ (t : EntryKind). a_statement t (first_byte v) (symbols_in v) (proof_of v)) (sym (kind-of v k o))

ended-more : (u v : Statement) (e : List Statement) (r : Reader) (x : Entry) (start : ℕ) → More u e r → labels_in v ≡ labels_in u
    → shown r.symbols x ≡ described v → Within (length r.symbols) (map (λ (s : Sym). s.0) x.symbols) → ended_entry_at r.stage r start ≡ x
    → More [] (v ∷ e) (with_end r start)
ended-more u v e r x start m l h w is = record {
  positions_are = m.positions_are ∙ positions-same u v e l ∙ sym (positions-empty (v ∷ e));
  entries_are = all-entries v e r x (with_end r start) m.entries_are h refl (ap (λ (y : Entry). r.entries ++ y ∷ []) is);
  known = subst (λ xs. Known (length r.symbols) xs) (ap (λ (y : Entry). r.entries ++ y ∷ []) (sym is)) (known-end (length r.symbols) r.entries x m.known w);
  begins_are = λ n. absurd (clash n);
  proof_is = tt;
  doubled = tt;
}
  where
    clash : true ≡ false → ⊥
    clash e = cc

names-end : (u : Statement) (k : List ℕ) (at : ℕ) (o : IsBegun u k) → symbols_in (u ++ word at (codes "$.") ∷ []) ≡ symbols_in u
names-end u k at o = symbols-same u k (word at (codes "$.")) o (λ s. refl)

-- the symbols of the formula are those of the statement
formula-is : (u : Statement) (r : Reader) (k : StatementKind) → IsOpen u (keyword k) (names_for r k) → Doubled r (stage.Symbols k) → formula_names r ≡ symbols_in u
formula-is u r kind.Distinct o d = doubled-names r.symbols r.formula r.listed d ∙ sym (symbols-of u (codes "$d") o.begun ∙ o.names_are)
  where
    map-map : (symbols : List (List ℕ)) (fs : List Sym) → map (λ (s : Sym). name_of symbols s.0) fs ≡ map (λ i. name_of symbols i) (map (λ (s : Sym). s.0) fs)
    map-map symbols [] = refl
    map-map symbols (f ∷ fs) = ap (λ l. name_of symbols f.0 ∷ l) (map-map symbols fs)

    doubled-names : (symbols : List (List ℕ)) (fs : List Sym) (ls : List ℕ) → ls ≡ map (λ (s : Sym). s.0) fs → map (λ (s : Sym). name_of symbols s.0) fs ≡ map (λ i. name_of symbols i) ls
    doubled-names symbols fs ls h = map-map symbols fs ∙ ap (λ l. map (λ i. name_of symbols i) l) (sym h)
formula-is u r kind.Constants o d = sym (symbols-of u (codes "$c") o.begun ∙ o.names_are)
formula-is u r kind.Variables o d = sym (symbols-of u (codes "$v") o.begun ∙ o.names_are)
formula-is u r kind.Floating o d = sym (symbols-of u (codes "$f") o.begun ∙ o.names_are)
formula-is u r kind.Essential o d = sym (symbols-of u (codes "$e") o.begun ∙ o.names_are)
formula-is u r kind.Axiom o d = sym (symbols-of u (codes "$a") o.begun ∙ o.names_are)
formula-is u r kind.Provable o d = sym (symbols-of u (codes "$p") o.begun ∙ o.names_are)

symbols-ended : (u : Statement) (e : List Statement) (r : Reader) (at : ℕ) (k : StatementKind) → bytes_eq (keyword k) (codes "$p") ≡ false
    → stage.Symbols k ≡ r.stage → IsOpen u (keyword k) (names_for r k) → More u e r → first_byte (u ++ word at (codes "$.") ∷ []) ≡ r.begins
    → Within (length r.symbols) (map (λ (s : Sym). s.0) r.formula) → More [] ((u ++ word at (codes "$.") ∷ []) ∷ e) (with_end r at)
symbols-ended u e r at k p i o m f w =
    let v = u ++ word at (codes "$.") ∷ [] in
    let b = begun-more u (keyword k) (word at (codes "$.")) o.begun in
    let names : formula_names r ≡ symbols_in v = formula-is u r k o (subst (λ (t : Stage). Doubled r t) (sym i) m.doubled) ∙ sym (names-end u (keyword k) at o.begun) in
    ended-more u v e r (entry_of r k None) at m (labels-more u (word at (codes "$.") ∷ []) (word o.begun.at (keyword k)) o.begun.rest o.begun.body_is)
    (end-entry v k r None b f names (no-proof-in v (keyword k) b p)) w (ap (λ (t : Stage). ended_entry_at t r at) (sym i))

proof-found : (v : Statement) (x y : Word) → find (is (codes "$=")) v ≡ Some x → find (is (codes "$.")) v ≡ Some y → proof_in v ≡ Some (x.start + 2, y.start)
proof-found v x y a b = rw (a, b) refl

proof-ended : (u : Statement) (e : List Statement) (r : Reader) (at from : ℕ) → list_any (is (codes "$.")) u ≡ false → stage.Proof from ≡ r.stage
    → IsProof u (formula_names r) → More u e r → first_byte (u ++ word at (codes "$.") ∷ []) ≡ r.begins
    → Within (length r.symbols) (map (λ (s : Sym). s.0) r.formula) → More [] ((u ++ word at (codes "$.") ∷ []) ∷ e) (with_end r at)
proof-ended u e r at from no_end i o m f w =
    let z = word at (codes "$.") in
    let v = u ++ z ∷ [] in
    let b = begun-more u (codes "$p") z o.begun in
    let p : ProofIs u (stage.Proof from) = subst (λ (t : Stage). ProofIs u t) (sym i) m.proof_is in
    let x : Word = p.0 in
    let is_p : has_keyword (codes "$p") v ≡ true = keyword-is v (codes "$p") (codes "$p") b in
    let proof : proof_of v ≡ Some (from, at) =
    cond_then (has_keyword (codes "$p") v) (proof_in v) None is_p
    ∙ proof-found v x z (find-more (is (codes "$=")) u (z ∷ []) x p.1) (find-last (is (codes "$.")) u z no_end refl)
    ∙ ap (λ (n : ℕ). Some (n, at)) p.2 in
    let names : formula_names r ≡ symbols_in v = sym (symbols-of u (codes "$p") o.begun ∙ o.names_are) ∙ sym (names-end u (codes "$p") at o.begun) in
    ended-more u v e r (entry_of r kind.Provable (Some (from, at))) at m (labels-more u (z ∷ []) (word o.begun.at (codes "$p")) o.begun.rest o.begun.body_is)
    (end-entry v kind.Provable r (Some (from, at)) b f names proof) w (ap (λ (t : Stage). ended_entry_at t r at) (sym i))

end-more : (u : Statement) (e : List Statement) (after : List Word) (r : Reader) (at : ℕ) (s : Stage) → list_any (is (codes "$.")) u ≡ false
    → s ≡ r.stage → StageIs u after r s → More u e r → first_byte (u ++ word at (codes "$.") ∷ []) ≡ r.begins
    → Within (length r.symbols) (map (λ (s : Sym). s.0) r.formula) → end_code_at s r ≡ None
    → More [] ((u ++ word at (codes "$.") ∷ []) ∷ e) (with_end r at)
end-more u e after r at stage.Between no_end i h m f w none = absurd (some-none 29 none)
end-more u e after r at stage.Labelled no_end i h m f w none = absurd (some-none 29 none)
end-more u e after r at (stage.Symbols kind.Constants) no_end i h m f w none = symbols-ended u e r at kind.Constants refl i h m f w
end-more u e after r at (stage.Symbols kind.Variables) no_end i h m f w none = symbols-ended u e r at kind.Variables refl i h m f w
end-more u e after r at (stage.Symbols kind.Distinct) no_end i h m f w none = symbols-ended u e r at kind.Distinct refl i h m f w
end-more u e after r at (stage.Symbols kind.Floating) no_end i h m f w none = symbols-ended u e r at kind.Floating refl i h m f w
end-more u e after r at (stage.Symbols kind.Essential) no_end i h m f w none = symbols-ended u e r at kind.Essential refl i h m f w
end-more u e after r at (stage.Symbols kind.Axiom) no_end i h m f w none = symbols-ended u e r at kind.Axiom refl i h m f w
end-more u e after r at (stage.Symbols kind.Provable) no_end i h m f w none = absurd (two-codes (is_empty r.formula) 26 28 none)
end-more u e after r at (stage.Proof from) no_end i h m f w none = proof-ended u e r at from no_end i h m f w

-- ---- any token

none-below : (b : Bool) (c : ℕ) (o : Option ℕ) → cond b (Some c) o ≡ None → o ≡ None
none-below true c o h = absurd (some-none c h)
none-below false c o h = h

more-here : (before : List Word) (w : Word) (q : Reader) → ends_statement w ≡ false → More (unended before ++ w ∷ []) (ended before) q → More (unended (w ∷ before)) (ended (w ∷ before)) q
more-here before w q h m =
    let first : More (unended (w ∷ before)) (ended before) q = subst (λ (u : Statement). More u (ended before) q) (sym (unended-on w before h)) m in
    subst (λ (e : List Statement). More (unended (w ∷ before)) e q) (sym (ended-on w before h)) first

pub more-goes : (before after : List Word) (r : Reader) (w : Word) (k : TokenKind) (next : Option TokenKind) → IsReader before (w ∷ after) r
    → More (unended before) (ended before) r → first_byte (unended before ++ w ∷ []) ≡ r.begins → IsKind k w.bytes → step_code r k w.bytes next ≡ None
    → More (unended (w ∷ before)) (ended (w ∷ before)) (with_token r k w.bytes w.start (w.start + length w.bytes))
more-goes before after r w token.Word next o m f is none =
    let n = is.first ∷ is.rest in
    let st : StageIs (unended before) (word w.start n ∷ after) r r.stage = subst (λ (x : List ℕ). StageIs (unended before) (word w.start x ∷ after) r r.stage) is.eq o.stage in
    let begins : first_byte (unended before ++ word w.start n ∷ []) ≡ r.begins = ap (λ (x : List ℕ). first_byte (unended before ++ word w.start x ∷ [])) (sym is.eq) ∙ f in
    let none_n : word_code_at r.stage r n next ≡ None = ap (λ (x : List ℕ). word_code_at r.stage r x next) (sym is.eq) ∙ none in
    let d = is.no_dollar in
    let no_end : ends_statement (word w.start n) ≡ false = rw d refl in
    let there =
    more-here before (word w.start n) (with_word_at r.stage r n) no_end
    (word-more (unended before) (ended before)
    (word w.start n ∷ after) r w.start is.first is.rest next r.stage refl is.no_dollar is.none_behind st m begins none_n) in
    subst (λ (x : List ℕ). More (unended (word w.start x ∷ before)) (ended (word w.start x ∷ before)) (with_word_at r.stage r x)) (sym is.eq) there
more-goes before after r w token.Constants next o m f is none =
    let h : StageIs (unended before) (word w.start (codes "$c") ∷ after) r r.stage = subst (λ (n : List ℕ). StageIs (unended before) (word w.start n ∷ after) r r.stage) is o.stage in
    let begins : first_byte (unended before ++ word w.start (codes "$c") ∷ []) ≡ r.begins = ap (λ (n : List ℕ). first_byte (unended before ++ word w.start n ∷ [])) (sym is) ∙ f in
    subst
    (λ (n : List ℕ). More (unended (word w.start n ∷ before)) (ended (word w.start n ∷ before))
    (with_token r token.Constants n w.start (w.start + length n)))
    (sym is)
    (constants-more (unended before) (ended before) (word w.start (codes "$c") ∷ after) r w.start r.stage h m begins
    (none-below (not (is_empty r.scopes)) 11 (between_code_at r.stage r) none))
more-goes before after r w token.Variables next o m f is none =
    let h : StageIs (unended before) (word w.start (codes "$v") ∷ after) r r.stage = subst (λ (n : List ℕ). StageIs (unended before) (word w.start n ∷ after) r r.stage) is o.stage in
    let begins : first_byte (unended before ++ word w.start (codes "$v") ∷ []) ≡ r.begins = ap (λ (n : List ℕ). first_byte (unended before ++ word w.start n ∷ [])) (sym is) ∙ f in
    subst
    (λ (n : List ℕ). More (unended (word w.start n ∷ before)) (ended (word w.start n ∷ before))
    (with_token r token.Variables n w.start (w.start + length n)))
    (sym is) (variables-more (unended before) (ended before) (word w.start (codes "$v") ∷ after) r w.start r.stage h m begins none)
more-goes before after r w token.Distinct next o m f is none =
    let h : StageIs (unended before) (word w.start (codes "$d") ∷ after) r r.stage = subst (λ (n : List ℕ). StageIs (unended before) (word w.start n ∷ after) r r.stage) is o.stage in
    let begins : first_byte (unended before ++ word w.start (codes "$d") ∷ []) ≡ r.begins = ap (λ (n : List ℕ). first_byte (unended before ++ word w.start n ∷ [])) (sym is) ∙ f in
    subst
    (λ (n : List ℕ). More (unended (word w.start n ∷ before)) (ended (word w.start n ∷ before))
    (with_token r token.Distinct n w.start (w.start + length n)))
    (sym is) (distinct-more (unended before) (ended before) (word w.start (codes "$d") ∷ after) r w.start r.stage h m begins none)
more-goes before after r w token.Floating next o m f is none =
    let h : StageIs (unended before) (word w.start (codes "$f") ∷ after) r r.stage = subst (λ (n : List ℕ). StageIs (unended before) (word w.start n ∷ after) r r.stage) is o.stage in
    let begins : first_byte (unended before ++ word w.start (codes "$f") ∷ []) ≡ r.begins = ap (λ (n : List ℕ). first_byte (unended before ++ word w.start n ∷ [])) (sym is) ∙ f in
    subst
    (λ (n : List ℕ). More (unended (word w.start n ∷ before)) (ended (word w.start n ∷ before))
    (with_token r token.Floating n w.start (w.start + length n)))
    (sym is) (floating-more (unended before) (ended before) (word w.start (codes "$f") ∷ after) r w.start r.stage h m begins none)
more-goes before after r w token.Essential next o m f is none =
    let h : StageIs (unended before) (word w.start (codes "$e") ∷ after) r r.stage = subst (λ (n : List ℕ). StageIs (unended before) (word w.start n ∷ after) r r.stage) is o.stage in
    let begins : first_byte (unended before ++ word w.start (codes "$e") ∷ []) ≡ r.begins = ap (λ (n : List ℕ). first_byte (unended before ++ word w.start n ∷ [])) (sym is) ∙ f in
    subst
    (λ (n : List ℕ). More (unended (word w.start n ∷ before)) (ended (word w.start n ∷ before))
    (with_token r token.Essential n w.start (w.start + length n)))
    (sym is) (essential-more (unended before) (ended before) (word w.start (codes "$e") ∷ after) r w.start r.stage h m begins none)
more-goes before after r w token.Axiom next o m f is none =
    let h : StageIs (unended before) (word w.start (codes "$a") ∷ after) r r.stage = subst (λ (n : List ℕ). StageIs (unended before) (word w.start n ∷ after) r r.stage) is o.stage in
    let begins : first_byte (unended before ++ word w.start (codes "$a") ∷ []) ≡ r.begins = ap (λ (n : List ℕ). first_byte (unended before ++ word w.start n ∷ [])) (sym is) ∙ f in
    subst
    (λ (n : List ℕ). More (unended (word w.start n ∷ before)) (ended (word w.start n ∷ before))
    (with_token r token.Axiom n w.start (w.start + length n)))
    (sym is) (axiom-more (unended before) (ended before) (word w.start (codes "$a") ∷ after) r w.start r.stage h m begins none)
more-goes before after r w token.Provable next o m f is none =
    let h : StageIs (unended before) (word w.start (codes "$p") ∷ after) r r.stage = subst (λ (n : List ℕ). StageIs (unended before) (word w.start n ∷ after) r r.stage) is o.stage in
    let begins : first_byte (unended before ++ word w.start (codes "$p") ∷ []) ≡ r.begins = ap (λ (n : List ℕ). first_byte (unended before ++ word w.start n ∷ [])) (sym is) ∙ f in
    subst
    (λ (n : List ℕ). More (unended (word w.start n ∷ before)) (ended (word w.start n ∷ before))
    (with_token r token.Provable n w.start (w.start + length n)))
    (sym is) (provable-more (unended before) (ended before) (word w.start (codes "$p") ∷ after) r w.start r.stage h m begins none)
more-goes before after r w token.Equals next o m f is none =
    let h : StageIs (unended before) (word w.start (codes "$=") ∷ after) r r.stage = subst (λ (n : List ℕ). StageIs (unended before) (word w.start n ∷ after) r r.stage) is o.stage in
    let begins : first_byte (unended before ++ word w.start (codes "$=") ∷ []) ≡ r.begins = ap (λ (n : List ℕ). first_byte (unended before ++ word w.start n ∷ [])) (sym is) ∙ f in
    subst
    (λ (n : List ℕ). More (unended (word w.start n ∷ before)) (ended (word w.start n ∷ before))
    (with_token r token.Equals n w.start (w.start + length n)))
    (sym is) (equals-more (unended before) (ended before) (word w.start (codes "$=") ∷ after) r w.start r.stage h m begins none)
more-goes before after r w token.End next o m f is none =
    let h : StageIs (unended before) (word w.start (codes "$.") ∷ after) r r.stage = subst (λ (n : List ℕ). StageIs (unended before) (word w.start n ∷ after) r r.stage) is o.stage in
    let begins : first_byte (unended before ++ word w.start (codes "$.") ∷ []) ≡ r.begins = ap (λ (n : List ℕ). first_byte (unended before ++ word w.start n ∷ [])) (sym is) ∙ f in
    subst
    (λ (n : List ℕ). More (unended (word w.start n ∷ before)) (ended (word w.start n ∷ before))
    (with_token r token.End n w.start (w.start + length n)))
    (sym is)
    (end-more (unended before) (ended before) (word w.start (codes "$.") ∷ after) r w.start r.stage
    (no-ends before) refl h m begins o.formula_known none)
more-goes before after r w token.OpenBlock next o m f is none =
    let h : StageIs (unended before) (word w.start (codes "${") ∷ after) r r.stage = subst (λ (n : List ℕ). StageIs (unended before) (word w.start n ∷ after) r r.stage) is o.stage in
    let begins : first_byte (unended before ++ word w.start (codes "${") ∷ []) ≡ r.begins = ap (λ (n : List ℕ). first_byte (unended before ++ word w.start n ∷ [])) (sym is) ∙ f in
    subst
    (λ (n : List ℕ). More (unended (word w.start n ∷ before)) (ended (word w.start n ∷ before))
    (with_token r token.OpenBlock n w.start (w.start + length n)))
    (sym is) (open-more (unended before) (ended before) (word w.start (codes "${") ∷ after) r w.start r.stage refl h m begins none)
more-goes before after r w token.CloseBlock next o m f is none =
    let h : StageIs (unended before) (word w.start (codes "$}") ∷ after) r r.stage = subst (λ (n : List ℕ). StageIs (unended before) (word w.start n ∷ after) r r.stage) is o.stage in
    let begins : first_byte (unended before ++ word w.start (codes "$}") ∷ []) ≡ r.begins = ap (λ (n : List ℕ). first_byte (unended before ++ word w.start n ∷ [])) (sym is) ∙ f in
    subst
    (λ (n : List ℕ). More (unended (word w.start n ∷ before)) (ended (word w.start n ∷ before))
    (with_token r token.CloseBlock n w.start (w.start + length n)))
    (sym is) (close-more (unended before) (ended before) (word w.start (codes "$}") ∷ after) r w.start r.stage r.scopes refl h m begins none)
more-goes before after r w token.OpenInclude next o m f is none = absurd (some-none 10 none)
more-goes before after r w token.CloseInclude next o m f is none = absurd (some-none 29 none)
more-goes before after r w token.OpenComment next o m f is none = absurd is
more-goes before after r w token.CloseComment next o m f is none = absurd is
