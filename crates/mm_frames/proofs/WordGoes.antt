-- What the reader keeps behind a token is that of the statements so far.
use Rattle.std.proofs.Common.{◌≡◌, ℕ, suc, ◌<◌, Bool, true, false, cond, not, eqb, List, [], ◌∷◌, ◌++◌, length, take, map, Option, None, Some, refl}
use Rattle.std.proofs.Common.{sym, ap, ◌∙◌, subst, codes, position, nat_eq, nat_lt, arith}
use Rattle.std.specs.List.{list_any, list_all}
use Rattle.std.specs.Str.{bytes_eq}
use Rattle.std.proofs.lemmas.Bool.Decides.{nat_tests}
use Rattle.std.proofs.lemmas.List.{map-append}
use Rattle.mm_base.specs.declared.symbols.Sym.{Sym}
use Rattle.mm_model.specs.Words.{Word, word}
use Rattle.mm_model.specs.Statements.{symbols_in, Statement, is, is_word, is_one_of, is_empty, labelled}
use Rattle.mm_tokens.specs.declared.token.TokenKind.{TokenKind}
use Rattle.mm_frames.specs.declared.reader.Reader.{Reader}
use Rattle.mm_frames.specs.declared.reader.Stage.{Stage}
use Rattle.mm_frames.specs.declared.reader.Stage.TheVariants as stage
use Rattle.frame_lists.specs.declared.entry.StatementKind.{StatementKind}
use Rattle.frame_lists.specs.declared.entry.StatementKind.TheVariants as kind
use Rattle.mm_frames.specs.declared.reader.Meaning.{Meaning}
use Rattle.mm_frames.specs.declared.reader.Meaning.TheVariants as meant
use Rattle.mm_frames.specs.Kinds.{is_extra}
use Rattle.mm_frames.specs.Reading.{meaning_of, label_code, with_label, constant_code, with_constant, variable_code_at, with_variable_at}
use Rattle.mm_frames.specs.Reading.{distinct_code, with_distinct, with_floating, typecode_code, typed_code, formula_code, with_symbol, symbol_code}
use Rattle.mm_frames.specs.Reading.{with_symbol_of, word_code_at, with_word_at}
use Rattle.mm_frames.proofs.Numbers.{name_of, Within}
use Rattle.mm_frames.proofs.Names.{found-is, none-absent, name_of-more, name_of-last, length-more, within-more, within-add}
use Rattle.mm_frames.proofs.State.{is_flagged, state-alike}
use Rattle.mm_frames.proofs.Growth.{Grows, alike-grows, constant-more, variable-more, variable-again, typed-more, label-more}
use Rattle.mm_frames.proofs.Shapes.{IsOpen}
use Rattle.mm_frames.proofs.Grown.{new_second, grows-same, grows-word, open-word, proof-goes}
use Rattle.mm_frames.proofs.SoFar.{keyword, formula_names, listed_names, names_for, IsClear, StageIs, StateIs, IsReaderAt, variable_marks, typed_marks, Means, means}
use Rattle.mm_frames.proofs.Agrees.{added-none, other-keyword}

-- ---- codes that are none

none-below : (b : Bool) (c : ℕ) (o : Option ℕ) → cond b (Some c) o ≡ None → (b ≡ false) × (o ≡ None)
none-below true c o h = absurd (clash h)
  where
    clash : Some c ≡ None → ⊥
    clash e = cc
none-below false c o h = (refl, h)

some-none : (c : ℕ) → Some c ≡ None → ⊥
some-none c e = cc

two-codes : (b : Bool) (c d : ℕ) → cond b (Some c) (Some d) ≡ None → ⊥
two-codes true c d h = some-none c h
two-codes false c d h = some-none d h

-- ---- names

pub formula-more : (symbols : List (List ℕ)) (n : List ℕ) (fs : List Sym) → Within (length symbols) (map (λ (s : Sym). s.0) fs)
    → map (λ (s : Sym). name_of (symbols ++ n ∷ []) s.0) fs ≡ map (λ (s : Sym). name_of symbols s.0) fs
formula-more symbols n [] h = refl
formula-more symbols n (s ∷ fs) h = let a = name_of-more symbols n s.0 h.0 in let b = formula-more symbols n fs h.1 in cc

within-formula : (len : ℕ) (fs : List Sym) (s : Sym) → Within len (map (λ (s : Sym). s.0) fs) → s.0 < len → Within len (map (λ (s : Sym). s.0) (fs ++ s ∷ []))
within-formula len [] s h i = (i, tt)
within-formula len (t ∷ fs) s h i = (h.0, within-formula len fs s h.1 i)

-- the names of a formula with one more symbol
formula-end : (symbols : List (List ℕ)) (fs : List Sym) (s : Sym) (n : List ℕ) → name_of symbols s.0 ≡ n
    → map (λ (s : Sym). name_of symbols s.0) (fs ++ s ∷ []) ≡ map (λ (s : Sym). name_of symbols s.0) fs ++ n ∷ []
formula-end symbols fs s n h = map-append (λ (s : Sym). name_of symbols s.0) fs (s ∷ []) ∙ ap (λ m. map (λ (s : Sym). name_of symbols s.0) fs ++ m ∷ []) h

as-open : (u : Statement) (k : List ℕ) (a b : List (List ℕ)) → a ≡ b → IsOpen u k a → IsOpen u k b
as-open u k a b e o = subst (λ l. IsOpen u k l) e o

-- ---- a word

name-is-word : (at b : ℕ) (bs : List ℕ) → eqb b 36 ≡ false → list_any (λ b. eqb b 36) bs ≡ false → is_word (word at (b ∷ bs)) ≡ true
name-is-word at b bs e es = rw (e, es) refl

label-grows : (at b : ℕ) (bs : List ℕ) → eqb b 36 ≡ false → list_any (λ b. eqb b 36) bs ≡ false → Grows [] (word at (b ∷ bs) ∷ []) [] [] [] ((b ∷ bs) ∷ [])
label-grows at b bs e es = record {
  plain = record { no_open = refl; no_close = refl };
  plain_after = record { no_open = rw (e, es) refl; no_close = rw (e, es) refl };
  new_constants = rw (e, es) refl;
  more_variables = rw (e, es) refl;
  more_types = rw (e, es) refl;
  more_labels = rw (e, es) refl;
}

label-goes : (e : List Statement) (at b : ℕ) (bs : List ℕ) (after : List Word) (r : Reader) (next : Option TokenKind) → eqb b 36 ≡ false → list_any (λ b. eqb b 36) bs ≡ false
    → is_extra next ≡ list_any (λ v. not (is_one_of labelled v)) (take 1 after) → StateIs ([] ∷ e) r → IsClear r
    → Within (length r.symbols) (map (λ (s : Sym). s.0) r.formula) → Within (length r.symbols) r.listed → label_code r (b ∷ bs) next ≡ None
    → IsReaderAt (word at (b ∷ bs) ∷ []) e after (with_label r (b ∷ bs))
label-goes e at b bs after r next d ds x st clear f l none =
    let n = b ∷ bs in
    let extra =
    (none-below (is_extra next) 19 (cond (not (list_all Rattle.mm_model.specs.Labels.is_label_byte n)) (Some 20) None)
    (none-below (list_any (bytes_eq n) r.labels) 17
    (cond (is_extra next) (Some 19) (cond (not (list_all Rattle.mm_model.specs.Labels.is_label_byte n)) (Some 20) None)) none).1).0 in
    record {
      state = label-more [] (word at n ∷ []) e r.symbols r.constants r.variables r.typed r.labels (variable_marks r.scopes) (typed_marks r.scopes) n (label-grows at b bs d ds) refl st;
      stage = (record { label = word at n; is = refl; is_name = name-is-word at b bs d ds; next = sym x ∙ extra }, record { formula = clear.formula; listed = clear.listed });
      formula_known = f;
      listed_known = l;
    }

constant-goes : (u : Statement) (e : List Statement) (after : List Word) (r : Reader) (w : Word) → is_word w ≡ true → is (codes "$=") w ≡ false
    → IsOpen u (codes "$c") (formula_names r) → r.stage ≡ stage.Symbols kind.Constants
    → StateIs (u ∷ e) r → Within (length r.symbols) (map (λ (s : Sym). s.0) r.formula) → Within (length r.symbols) r.listed
    → constant_code r w.bytes ≡ None → IsReaderAt (u ++ w ∷ []) e after (with_constant r w.bytes)
constant-goes u e after r w h q o is_stage st f l none =
    let n = w.bytes in
    let absent = (none-below (list_any (bytes_eq n) r.symbols) 12 None none).0 in
    let long = length-more r.symbols n in
    let last : Sym = record { 0 = length r.symbols } in
    let names : formula_names r ++ n ∷ [] ≡ map (λ (s : Sym). name_of (r.symbols ++ n ∷ []) s.0) (r.formula ++ last ∷ []) =
    ap (λ l. l ++ n ∷ []) (sym (formula-more r.symbols n r.formula f))
    ∙ sym (formula-end (r.symbols ++ n ∷ []) r.formula last n (name_of-last r.symbols n)) in
    record {
      state =
          constant-more u (u ++ w ∷ []) e r.symbols r.constants r.variables r.typed r.labels (variable_marks r.scopes) (typed_marks r.scopes) n
          (grows-word u (codes "$c") w (formula_names r) (other-keyword kind.Constants) o h) absent
          (added-none (codes "$v") (codes "$c") symbols_in u o.begun refl) st;
      stage =
          subst (λ (s : Stage). StageIs (u ++ w ∷ []) after (with_constant r n) s) (sym is_stage)
          (as-open (u ++ w ∷ []) (codes "$c") (formula_names r ++ n ∷ [])
          (map (λ (s : Sym). name_of (r.symbols ++ n ∷ []) s.0) (r.formula ++ last ∷ [])) names
          (open-word u (codes "$c") w (formula_names r) o h q));
      formula_known =
          subst (λ (k : ℕ). Within k (map (λ (s : Sym). s.0) (r.formula ++ last ∷ []))) (sym long)
          (within-formula (suc (length r.symbols)) r.formula last (within-more (length r.symbols) (map (λ (s : Sym). s.0) r.formula) f)
          (omega arith));
      listed_known = subst (λ (k : ℕ). Within k r.listed) (sym long) (within-more (length r.symbols) r.listed l);
    }

variable-goes : (u : Statement) (e : List Statement) (after : List Word) (r : Reader) (w : Word) (p : Option ℕ)
    → position (bytes_eq w.bytes) r.symbols ≡ p → is_word w ≡ true → is (codes "$=") w ≡ false → IsOpen u (codes "$v") (formula_names r)
    → r.stage ≡ stage.Symbols kind.Variables
    → StateIs (u ∷ e) r → Within (length r.symbols) (map (λ (s : Sym). s.0) r.formula) → Within (length r.symbols) r.listed
    → variable_code_at p r w.bytes ≡ None → IsReaderAt (u ++ w ∷ []) e after (with_variable_at p r w.bytes)
variable-goes u e after r w None at h q o is_stage st f l none =
    let n = w.bytes in
    let absent = none-absent (bytes_eq n) r.symbols at in
    let long = length-more r.symbols n in
    let last : Sym = record { 0 = length r.symbols } in
    let names : formula_names r ++ n ∷ [] ≡ map (λ (s : Sym). name_of (r.symbols ++ n ∷ []) s.0) (r.formula ++ last ∷ []) =
    ap (λ l. l ++ n ∷ []) (sym (formula-more r.symbols n r.formula f))
    ∙ sym (formula-end (r.symbols ++ n ∷ []) r.formula last n (name_of-last r.symbols n)) in
    record {
      state =
          variable-more u (u ++ w ∷ []) e r.symbols r.constants r.variables r.typed r.labels (variable_marks r.scopes) (typed_marks r.scopes) n
          (grows-word u (codes "$v") w (formula_names r) (other-keyword kind.Variables) o h) absent st;
      stage =
          subst (λ (s : Stage). StageIs (u ++ w ∷ []) after (with_variable_at None r n) s) (sym is_stage)
          (as-open (u ++ w ∷ []) (codes "$v") (formula_names r ++ n ∷ [])
          (map (λ (s : Sym). name_of (r.symbols ++ n ∷ []) s.0) (r.formula ++ last ∷ [])) names
          (open-word u (codes "$v") w (formula_names r) o h q));
      formula_known =
          subst (λ (k : ℕ). Within k (map (λ (s : Sym). s.0) (r.formula ++ last ∷ []))) (sym long)
          (within-formula (suc (length r.symbols)) r.formula last (within-more (length r.symbols) (map (λ (s : Sym). s.0) r.formula) f)
          (omega arith));
      listed_known = subst (λ (k : ℕ). Within k r.listed) (sym long) (within-more (length r.symbols) r.listed l);
    }
variable-goes u e after r w (Some i) at h q o is_stage st f l none =
    let n = w.bytes in
    let found = found-is r.symbols n i at in
    let flag = (none-below (is_flagged r.constants i) 12 (cond (list_any (nat_eq i) r.variables) (Some 12) None) none).0 in
    let last : Sym = record { 0 = i } in
    let grows : Grows u (u ++ w ∷ []) [] (name_of r.symbols i ∷ []) [] [] =
    subst (λ m. Grows u (u ++ w ∷ []) [] (m ∷ []) [] []) (sym found.name)
    (grows-word u (codes "$v") w (formula_names r) (other-keyword kind.Variables) o h) in
    record {
      state = variable-again u (u ++ w ∷ []) e r.symbols r.constants r.variables r.typed r.labels (variable_marks r.scopes) (typed_marks r.scopes) i grows found.within flag st;
      stage =
          subst (λ (s : Stage). StageIs (u ++ w ∷ []) after (with_variable_at (Some i) r n) s) (sym is_stage)
          (as-open (u ++ w ∷ []) (codes "$v") (formula_names r ++ n ∷ []) (map (λ (s : Sym). name_of r.symbols s.0) (r.formula ++ last ∷ []))
          (sym (formula-end r.symbols r.formula last n found.name)) (open-word u (codes "$v") w (formula_names r) o h q));
      formula_known = within-formula (length r.symbols) r.formula last f found.within;
      listed_known = l;
    }

distinct-goes : (u : Statement) (e : List Statement) (after : List Word) (r : Reader) (w : Word) (m : Meaning) → Means (u ∷ e) r w.bytes m
    → is_word w ≡ true → is (codes "$=") w ≡ false → IsOpen u (codes "$d") (listed_names r) → r.stage ≡ stage.Symbols kind.Distinct
    → StateIs (u ∷ e) r → Within (length r.symbols) (map (λ (s : Sym). s.0) r.formula) → Within (length r.symbols) r.listed → distinct_code r m ≡ None
    → IsReaderAt (u ++ w ∷ []) e after (with_distinct r m)
distinct-goes u e after r w meant.Nothing mean h q o is_stage st f l none = absurd (some-none 13 none)
distinct-goes u e after r w (meant.Constant s) mean h q o is_stage st f l none = absurd (some-none 13 none)
distinct-goes u e after r w (meant.Variable s) mean h q o is_stage st f l none =
    let n = w.bytes in
    let names : listed_names r ++ n ∷ [] ≡ map (λ i. name_of r.symbols i) (r.listed ++ s.0 ∷ []) =
    ap (λ m. listed_names r ++ m ∷ []) (sym mean.name) ∙ sym (map-append (λ i. name_of r.symbols i) r.listed (s.0 ∷ [])) in
    record {
      state =
          state-alike (u ∷ e) ((u ++ w ∷ []) ∷ e) r.symbols r.constants r.variables r.typed r.labels (variable_marks r.scopes) (typed_marks r.scopes)
          (alike-grows u (u ++ w ∷ []) e (grows-word u (codes "$d") w (listed_names r) (other-keyword kind.Distinct) o h)) st;
      stage =
          subst (λ (s' : Stage). StageIs (u ++ w ∷ []) after (with_distinct r (meant.Variable s)) s') (sym is_stage)
          (as-open (u ++ w ∷ []) (codes "$d") (listed_names r ++ n ∷ []) (map (λ i. name_of r.symbols i) (r.listed ++ s.0 ∷ [])) names
          (open-word u (codes "$d") w (listed_names r) o h q));
      formula_known = within-formula (length r.symbols) r.formula s f mean.known;
      listed_known = within-add (length r.symbols) r.listed s.0 l mean.known;
    }

-- a symbol that only the formula keeps
symbol-goes : (u : Statement) (e : List Statement) (after : List Word) (r : Reader) (w : Word) (k : StatementKind) (s : Sym)
    → names_for r k ≡ formula_names r
    → names_for (record r { formula = r.formula ++ s ∷ [] }) k ≡ formula_names (record r { formula = r.formula ++ s ∷ [] })
    → Grows u (u ++ w ∷ []) [] [] [] [] → name_of r.symbols s.0 ≡ w.bytes → s.0 < length r.symbols → is_word w ≡ true → is (codes "$=") w ≡ false
    → IsOpen u (keyword k) (names_for r k) → r.stage ≡ stage.Symbols k
    → StateIs (u ∷ e) r → Within (length r.symbols) (map (λ (s : Sym). s.0) r.formula) → Within (length r.symbols) r.listed
    → IsReaderAt (u ++ w ∷ []) e after (record r { formula = r.formula ++ s ∷ [] })
symbol-goes u e after r w k s same same_after g name known h q o is_stage st f l =
    let n = w.bytes in
    let names : names_for r k ++ n ∷ [] ≡ names_for (record r { formula = r.formula ++ s ∷ [] }) k = ap (λ l. l ++ n ∷ []) same ∙ sym (formula-end r.symbols r.formula s n name) ∙ sym same_after in
    record {
      state = state-alike (u ∷ e) ((u ++ w ∷ []) ∷ e) r.symbols r.constants r.variables r.typed r.labels (variable_marks r.scopes) (typed_marks r.scopes) (alike-grows u (u ++ w ∷ []) e g) st;
      stage =
          subst (λ (s' : Stage). StageIs (u ++ w ∷ []) after (record r { formula = r.formula ++ s ∷ [] }) s') (sym is_stage)
          (as-open (u ++ w ∷ []) (keyword k) (names_for r k ++ n ∷ []) (names_for (record r { formula = r.formula ++ s ∷ [] }) k) names
          (open-word u (keyword k) w (names_for r k) o h q));
      formula_known = within-formula (length r.symbols) r.formula s f known;
      listed_known = l;
    }

essential-goes : (u : Statement) (e : List Statement) (after : List Word) (r : Reader) (w : Word) (m : Meaning) → Means (u ∷ e) r w.bytes m
    → is_word w ≡ true → is (codes "$=") w ≡ false → IsOpen u (codes "$e") (formula_names r) → r.stage ≡ stage.Symbols kind.Essential
    → StateIs (u ∷ e) r → Within (length r.symbols) (map (λ (s : Sym). s.0) r.formula) → Within (length r.symbols) r.listed → formula_code r m ≡ None
    → IsReaderAt (u ++ w ∷ []) e after (with_symbol r m)
essential-goes u e after r w meant.Nothing mean h q o is_stage st f l none = absurd (some-none 13 none)
essential-goes u e after r w (meant.Constant s) mean h q o is_stage st f l none =
    symbol-goes u e after r w kind.Essential s refl refl
    (grows-word u (codes "$e") w (formula_names r) (other-keyword kind.Essential) o h) mean.name mean.known h q o is_stage st f l
essential-goes u e after r w (meant.Variable s) mean h q o is_stage st f l none =
    symbol-goes u e after r w kind.Essential s refl refl
    (grows-word u (codes "$e") w (formula_names r) (other-keyword kind.Essential) o h) mean.name mean.known h q o is_stage st f l

axiom-goes : (u : Statement) (e : List Statement) (after : List Word) (r : Reader) (w : Word) (m : Meaning) → Means (u ∷ e) r w.bytes m
    → is_word w ≡ true → is (codes "$=") w ≡ false → IsOpen u (codes "$a") (formula_names r) → r.stage ≡ stage.Symbols kind.Axiom
    → StateIs (u ∷ e) r → Within (length r.symbols) (map (λ (s : Sym). s.0) r.formula) → Within (length r.symbols) r.listed → formula_code r m ≡ None
    → IsReaderAt (u ++ w ∷ []) e after (with_symbol r m)
axiom-goes u e after r w meant.Nothing mean h q o is_stage st f l none = absurd (some-none 13 none)
axiom-goes u e after r w (meant.Constant s) mean h q o is_stage st f l none =
    symbol-goes u e after r w kind.Axiom s refl refl
    (grows-word u (codes "$a") w (formula_names r) (other-keyword kind.Axiom) o h) mean.name mean.known h q o is_stage st f l
axiom-goes u e after r w (meant.Variable s) mean h q o is_stage st f l none =
    symbol-goes u e after r w kind.Axiom s refl refl
    (grows-word u (codes "$a") w (formula_names r) (other-keyword kind.Axiom) o h) mean.name mean.known h q o is_stage st f l

provable-goes : (u : Statement) (e : List Statement) (after : List Word) (r : Reader) (w : Word) (m : Meaning) → Means (u ∷ e) r w.bytes m
    → is_word w ≡ true → is (codes "$=") w ≡ false → IsOpen u (codes "$p") (formula_names r) → r.stage ≡ stage.Symbols kind.Provable
    → StateIs (u ∷ e) r → Within (length r.symbols) (map (λ (s : Sym). s.0) r.formula) → Within (length r.symbols) r.listed → formula_code r m ≡ None
    → IsReaderAt (u ++ w ∷ []) e after (with_symbol r m)
provable-goes u e after r w meant.Nothing mean h q o is_stage st f l none = absurd (some-none 13 none)
provable-goes u e after r w (meant.Constant s) mean h q o is_stage st f l none =
    symbol-goes u e after r w kind.Provable s refl refl
    (grows-word u (codes "$p") w (formula_names r) (other-keyword kind.Provable) o h) mean.name mean.known h q o is_stage st f l
provable-goes u e after r w (meant.Variable s) mean h q o is_stage st f l none =
    symbol-goes u e after r w kind.Provable s refl refl
    (grows-word u (codes "$p") w (formula_names r) (other-keyword kind.Provable) o h) mean.name mean.known h q o is_stage st f l

-- the first symbol of `$f`
typecode-goes : (u : Statement) (e : List Statement) (after : List Word) (r : Reader) (w : Word) (m : Meaning) → r.formula ≡ []
    → Means (u ∷ e) r w.bytes m → is_word w ≡ true → is (codes "$=") w ≡ false → IsOpen u (codes "$f") (formula_names r)
    → r.stage ≡ stage.Symbols kind.Floating
    → StateIs (u ∷ e) r → Within (length r.symbols) (map (λ (s : Sym). s.0) r.formula) → Within (length r.symbols) r.listed → typecode_code m ≡ None
    → IsReaderAt (u ++ w ∷ []) e after (with_floating r m)
typecode-goes u e after r w meant.Nothing empty mean h q o is_stage st f l none = absurd (some-none 13 none)
typecode-goes u e after r w (meant.Variable s) empty mean h q o is_stage st f l none = absurd (some-none 16 none)
typecode-goes u e after r w (meant.Constant s) empty mean h q o is_stage st f l none =
    let second : new_second (formula_names r) w.bytes ≡ [] = ap (λ fs. new_second (map (λ (s : Sym). name_of r.symbols s.0) fs) w.bytes) empty in
    let grows : Grows u (u ++ w ∷ []) [] [] [] [] = subst (λ ts. Grows u (u ++ w ∷ []) [] [] ts []) second (grows-word u (codes "$f") w (formula_names r) (other-keyword kind.Floating) o h) in
    symbol-goes u e after r w kind.Floating s refl refl grows mean.name mean.known h q o is_stage st f l

-- the second
typed-goes : (u : Statement) (e : List Statement) (after : List Word) (r : Reader) (w : Word) (m : Meaning) (t : Sym) → r.formula ≡ t ∷ []
    → Means (u ∷ e) r w.bytes m → is_word w ≡ true → is (codes "$=") w ≡ false → IsOpen u (codes "$f") (formula_names r)
    → r.stage ≡ stage.Symbols kind.Floating
    → StateIs (u ∷ e) r → Within (length r.symbols) (map (λ (s : Sym). s.0) r.formula) → Within (length r.symbols) r.listed → typed_code r m ≡ None
    → IsReaderAt (u ++ w ∷ []) e after (with_floating r m)
typed-goes u e after r w meant.Nothing t empty mean h q o is_stage st f l none = absurd (some-none 13 none)
typed-goes u e after r w (meant.Constant s) t empty mean h q o is_stage st f l none = absurd (some-none 13 none)
typed-goes u e after r w (meant.Variable s) t empty mean h q o is_stage st f l none =
    let n = w.bytes in
    let second : new_second (formula_names r) n ≡ name_of r.symbols s.0 ∷ [] = ap (λ fs. new_second (map (λ (s : Sym). name_of r.symbols s.0) fs) n) empty ∙ ap (λ m. m ∷ []) (sym mean.name) in
    let grows : Grows u (u ++ w ∷ []) [] [] (name_of r.symbols s.0 ∷ []) [] =
    subst (λ ts. Grows u (u ++ w ∷ []) [] [] ts []) second (grows-word u (codes "$f") w (formula_names r) (other-keyword kind.Floating) o h) in
    record {
      state = typed-more u (u ++ w ∷ []) e r.symbols r.constants r.variables r.typed r.labels (variable_marks r.scopes) (typed_marks r.scopes) s.0 grows mean.known st;
      stage =
          subst (λ (s' : Stage). StageIs (u ++ w ∷ []) after (with_floating r (meant.Variable s)) s') (sym is_stage)
          (as-open (u ++ w ∷ []) (codes "$f") (formula_names r ++ n ∷ []) (map (λ (s : Sym). name_of r.symbols s.0) (r.formula ++ s ∷ []))
          (sym (formula-end r.symbols r.formula s n mean.name)) (open-word u (codes "$f") w (formula_names r) o h q));
      formula_known = within-formula (length r.symbols) r.formula s f mean.known;
      listed_known = l;
    }

floating-goes : (u : Statement) (e : List Statement) (after : List Word) (r : Reader) (w : Word) (m : Meaning) (fs : List Sym) → r.formula ≡ fs
    → Means (u ∷ e) r w.bytes m → is_word w ≡ true → is (codes "$=") w ≡ false → IsOpen u (codes "$f") (formula_names r)
    → r.stage ≡ stage.Symbols kind.Floating
    → StateIs (u ∷ e) r → Within (length r.symbols) (map (λ (s : Sym). s.0) r.formula) → Within (length r.symbols) r.listed
    → cond (is_empty fs) (typecode_code m) (cond (nat_lt 1 (length fs)) (Some 27) (typed_code r m)) ≡ None
    → IsReaderAt (u ++ w ∷ []) e after (with_floating r m)
floating-goes u e after r w m [] empty mean h q o is_stage st f l none = typecode-goes u e after r w m empty mean h q o is_stage st f l none
floating-goes u e after r w m (t ∷ []) empty mean h q o is_stage st f l none = typed-goes u e after r w m t empty mean h q o is_stage st f l none
floating-goes u e after r w m (t ∷ x ∷ fs) empty mean h q o is_stage st f l none =
    let many : nat_lt 1 (length (t ∷ x ∷ fs)) ≡ true = grind (arith, nat_tests) in
    let few = (none-below (nat_lt 1 (length (t ∷ x ∷ fs))) 27 (typed_code r m) none).0 in
    absurd (clash (sym many ∙ few))
  where
    clash : true ≡ false → ⊥
    clash e = cc

symbols-go : (u : Statement) (e : List Statement) (after : List Word) (r : Reader) (w : Word) (k : StatementKind) → is_word w ≡ true
    → is (codes "$=") w ≡ false → IsOpen u (keyword k) (names_for r k) → r.stage ≡ stage.Symbols k
    → StateIs (u ∷ e) r → Within (length r.symbols) (map (λ (s : Sym). s.0) r.formula) → Within (length r.symbols) r.listed
    → symbol_code r k w.bytes ≡ None → IsReaderAt (u ++ w ∷ []) e after (with_symbol_of r k w.bytes)
symbols-go u e after r w kind.Constants h q o i st f l none = constant-goes u e after r w h q o i st f l none
symbols-go u e after r w kind.Variables h q o i st f l none = variable-goes u e after r w (position (bytes_eq w.bytes) r.symbols) refl h q o i st f l none
symbols-go u e after r w kind.Distinct h q o i st f l none = distinct-goes u e after r w (meaning_of r w.bytes) (means (u ∷ e) r w.bytes st) h q o i st f l none
symbols-go u e after r w kind.Floating h q o i st f l none = floating-goes u e after r w (meaning_of r w.bytes) r.formula refl (means (u ∷ e) r w.bytes st) h q o i st f l none
symbols-go u e after r w kind.Essential h q o i st f l none = essential-goes u e after r w (meaning_of r w.bytes) (means (u ∷ e) r w.bytes st) h q o i st f l none
symbols-go u e after r w kind.Axiom h q o i st f l none = axiom-goes u e after r w (meaning_of r w.bytes) (means (u ∷ e) r w.bytes st) h q o i st f l none
symbols-go u e after r w kind.Provable h q o i st f l none = provable-goes u e after r w (meaning_of r w.bytes) (means (u ∷ e) r w.bytes st) h q o i st f l none

pub word-goes : (u : Statement) (e : List Statement) (after : List Word) (r : Reader) (at b : ℕ) (bs : List ℕ) (next : Option TokenKind) (s : Stage)
    → s ≡ r.stage → eqb b 36 ≡ false → list_any (λ b. eqb b 36) bs ≡ false
    → is_extra next ≡ list_any (λ v. not (is_one_of labelled v)) (take 1 after) → StateIs (u ∷ e) r → StageIs u (word at (b ∷ bs) ∷ after) r s
    → Within (length r.symbols) (map (λ (s : Sym). s.0) r.formula) → Within (length r.symbols) r.listed
    → word_code_at s r (b ∷ bs) next ≡ None → IsReaderAt (u ++ word at (b ∷ bs) ∷ []) e after (with_word_at s r (b ∷ bs))
word-goes u e after r at b bs next stage.Between i d ds x st h f l none =
    let w = word at (b ∷ bs) in
    let first : StateIs ([] ∷ e) r = subst (λ (v : Statement). StateIs (v ∷ e) r) h.0 st in
    subst (λ (v : Statement). IsReaderAt (v ++ w ∷ []) e after (with_label r (b ∷ bs))) (sym h.0) (label-goes e at b bs after r next d ds x first h.1 f l none)
word-goes u e after r at b bs next stage.Labelled i d ds x st h f l none = absurd (some-none 29 none)
word-goes u e after r at b bs next (stage.Symbols k) i d ds x st h f l none =
    let w = word at (b ∷ bs) in
    symbols-go u e after r w k (name-is-word at b bs d ds) (rw d refl) h (sym i) st f l none
word-goes u e after r at b bs next (stage.Proof from) i d ds x st h f l none =
    let w = word at (b ∷ bs) in
    record {
      state =
          state-alike (u ∷ e) ((u ++ w ∷ []) ∷ e) r.symbols r.constants r.variables r.typed r.labels (variable_marks r.scopes) (typed_marks r.scopes)
          (alike-grows u (u ++ w ∷ []) e
          (grows-same u (codes "$p") w (other-keyword kind.Provable) h.begun (λ s. absurd (clash (sym h.stopped ∙ s))))) st;
      stage = subst (λ (s' : Stage). StageIs (u ++ w ∷ []) after r s') i (proof-goes u w (formula_names r) h);
      formula_known = f;
      listed_known = l;
    }
  where
    clash : true ≡ false → ⊥
    clash e = cc
