-- The reader's codes are those of the definitions.
use Rattle.std.proofs.Common.{◌≡◌, ℕ, ◌<◌, Bool, true, false, cond, not, ◌||◌, eqb, List, [], ◌∷◌, ◌++◌, length, take, map, reverse, Option, None}
use Rattle.std.proofs.Common.{Some, refl, sym, ap, ◌∙◌, subst, codes, position, nat_eq, nat_lt, arith}
use Rattle.std.specs.List.{list_any, list_all}
use Rattle.std.specs.Str.{bytes_eq}
use Rattle.std.proofs.lemmas.Bool.{or_parts}
use Rattle.std.proofs.lemmas.Bool.Decides.{nat_tests}
use Rattle.std.proofs.lemmas.List.Folds.{list_any-append}
use Rattle.mm_base.specs.declared.symbols.Sym.{Sym}
use Rattle.mm_model.specs.Labels.{is_label_byte}
use Rattle.mm_model.specs.Words.{Word, word}
use Rattle.mm_model.specs.Statements.{Statement, is_word, is_one_of, is_empty, is_typed, labelled, ended, unended, has_keyword, symbols_in, second}
use Rattle.mm_model.specs.Statements.{contains, constants, variables, variables_ever, typed, labels, path}
use Rattle.mm_tokens.specs.declared.token.TokenKind.{TokenKind}
use Rattle.mm_frames.specs.declared.reader.Reader.{Reader}
use Rattle.mm_frames.specs.declared.reader.Stage.{Stage}
use Rattle.mm_frames.specs.declared.reader.Stage.TheVariants as stage
use Rattle.frame_lists.specs.declared.entry.StatementKind.{StatementKind}
use Rattle.frame_lists.specs.declared.entry.StatementKind.TheVariants as kind
use Rattle.mm_frames.specs.declared.reader.Meaning.{Meaning}
use Rattle.mm_frames.specs.declared.reader.Meaning.TheVariants as meant
use Rattle.mm_frames.specs.declared.scopes.Scope.{Scope}
use Rattle.mm_frames.specs.Kinds.{is_extra}
use Rattle.mm_frames.specs.Reading.{meaning_of, label_code, constant_code, variable_code, variable_code_at, distinct_code, floating_code}
use Rattle.mm_frames.specs.Reading.{formula_code, symbol_code, word_code, word_code_at, begins_code, between_code_at, labelled_code_at}
use Rattle.mm_frames.specs.Reading.{equals_code_at, end_code_at, symbols_end_code, close_code_at, step_code}
use Rattle.mm_frames.proofs.Numbers.{name_of, Within, bridge}
use Rattle.mm_frames.proofs.Names.{found-is, none-absent}
use Rattle.mm_model.proofs.Lists.{added, types, constants-cons, variables_ever-cons, variables-plain, typed-plain}
use Rattle.mm_frames.proofs.Marks.{Marks}
use Rattle.mm_model.proofs.Scopes.{path-plain}
use Rattle.mm_frames.proofs.State.{IsPlain, new_variables, is_flagged, list_any-reverse, variable_is, variable_none}
use Rattle.mm_frames.proofs.Shapes.{IsBegun, IsOpen, symbols-of, keyword-is}
use Rattle.mm_frames.proofs.Grown.{IsOther, plain-begun}
use Rattle.mm_frames.proofs.SoFar.{keyword, formula_names, listed_names, names_for, StageIs, StateIs, IsReader, variable_marks, typed_marks, Means, means}
use Rattle.mm_frames.proofs.Codes

-- ---- the statement that is not ended is plain

pub other-keyword : (k : StatementKind) → IsOther (keyword k)
other-keyword kind.Constants = record { no_open = refl; no_close = refl }
other-keyword kind.Variables = record { no_open = refl; no_close = refl }
other-keyword kind.Distinct = record { no_open = refl; no_close = refl }
other-keyword kind.Floating = record { no_open = refl; no_close = refl }
other-keyword kind.Essential = record { no_open = refl; no_close = refl }
other-keyword kind.Axiom = record { no_open = refl; no_close = refl }
other-keyword kind.Provable = record { no_open = refl; no_close = refl }

plain-label : (l : Word) → is_word l ≡ true → IsPlain (l ∷ [])
plain-label l h = record { no_open = rw h refl; no_close = rw h refl }

pub plain-stage : (u : Statement) (after : List Word) (r : Reader) (s : Stage) → StageIs u after r s → IsPlain u
plain-stage u after r stage.Between h = subst (λ (v : Statement). IsPlain v) (sym h.0) (record { no_open = refl; no_close = refl })
plain-stage u after r stage.Labelled h = subst (λ (v : Statement). IsPlain v) (sym h.0.is) (plain-label h.0.label h.0.is_name)
plain-stage u after r (stage.Symbols k) h = plain-begun u (keyword k) (other-keyword k) h.begun
plain-stage u after r (stage.Proof from) h = plain-begun u (codes "$p") (other-keyword kind.Provable) h.begun

-- no block is open where no scope is
empty-path : (g : Statement → List (List ℕ)) (e : List Statement) (ms : List ℕ) → Marks g e 0 ms → is_empty (path e) ≡ is_empty ms
empty-path g e [] h = no_items (path e) h
  where
    no_items : (p : List ℕ) → length p ≡ 0 → is_empty p ≡ true
    no_items [] h = refl
    no_items (x ∷ p) h = let bad : ⊥ = omega arith in absurd bad
empty-path g e (m ∷ ms) h = some_items (path e) h.0
  where
    some_items : (p : List ℕ) → 0 < length p → is_empty p ≡ false
    some_items [] h = let bad : ⊥ = omega arith in absurd bad
    some_items (x ∷ p) h = refl

empty-marks : (ss : List Scope) → is_empty (variable_marks ss) ≡ is_empty ss
empty-marks [] = refl
empty-marks (s ∷ ss) = refl

pub outside : (before after : List Word) (r : Reader) → IsReader before after r → is_empty (path (ended before)) ≡ is_empty r.scopes
outside before after r o =
    let p = plain-stage (unended before) after r r.stage o.stage in
    ap (λ (q : List ℕ). is_empty q) (sym (path-plain (unended before) (ended before) p.no_open p.no_close))
    ∙ empty-path new_variables (unended before ∷ ended before) (variable_marks r.scopes) o.state.are_v_marks
    ∙ empty-marks r.scopes

-- ---- what the statement that is not ended does not add

pub added-none : (j k : List ℕ) (f : Statement → List (List ℕ)) (u : Statement) → IsBegun u k → bytes_eq k j ≡ false → added j f u ≡ []
added-none j k f u o h = let q : has_keyword j u ≡ false = keyword-is u k j o ∙ rw h refl in rw q refl

same-constants : (u : Statement) (e : List Statement) → added (codes "$c") symbols_in u ≡ [] → constants (u ∷ e) ≡ constants e
same-constants u e h = constants-cons u e ∙ ap (λ l. l ++ constants e) h

same-variables : (u : Statement) (e : List Statement) → IsPlain u → added (codes "$v") symbols_in u ≡ [] → variables (u ∷ e) ≡ variables e
same-variables u e p h = variables-plain u e p.no_open p.no_close ∙ ap (λ l. l ++ variables e) h

same-typed : (u : Statement) (e : List Statement) → IsPlain u → added (codes "$f") types u ≡ [] → typed (u ∷ e) ≡ typed e
same-typed u e p h = typed-plain u e p.no_open p.no_close ∙ ap (λ l. l ++ typed e) h

means-below : (u : Statement) (e : List Statement) (r : Reader) (n : List ℕ) (m : Meaning) → constants (u ∷ e) ≡ constants e
    → variables (u ∷ e) ≡ variables e → typed (u ∷ e) ≡ typed e → Means (u ∷ e) r n m → Means e r n m
means-below u e r n meant.Nothing c v t h = (ap (λ l. contains l n) (sym c) ∙ h.0, ap (λ l. contains l n) (sym v) ∙ h.1)
means-below u e r n (meant.Constant s) c v t h =
    record {
      a_constant = ap (λ l. contains l n) (sym c) ∙ h.a_constant;
      no_variable = ap (λ l. contains l n) (sym v) ∙ h.no_variable;
      known = h.known;
      name = h.name;
    }
means-below u e r n (meant.Variable s) c v t h =
    record {
      no_constant = ap (λ l. contains l n) (sym c) ∙ h.no_constant;
      a_variable = ap (λ l. contains l n) (sym v) ∙ h.a_variable;
      known = h.known;
      name = h.name;
      typed = ap (λ l. contains l n) (sym t) ∙ h.typed;
    }

-- a name means the same below a statement that adds no constant, no variable and no typecode
means-in : (before : List Word) (r : Reader) (n : List ℕ) (k : List ℕ) → IsOther k → IsBegun (unended before) k → bytes_eq k (codes "$c") ≡ false
    → bytes_eq k (codes "$v") ≡ false → added (codes "$f") types (unended before) ≡ [] → StateIs (unended before ∷ ended before) r
    → Means (ended before) r n (meaning_of r n)
means-in before r n k p o c v t s =
    let plain = plain-begun (unended before) k p o in
    means-below (unended before) (ended before) r n (meaning_of r n)
    (same-constants (unended before) (ended before) (added-none (codes "$c") k symbols_in (unended before) o c))
    (same-variables (unended before) (ended before) plain (added-none (codes "$v") k symbols_in (unended before) o v))
    (same-typed (unended before) (ended before) plain t)
    (means (unended before ∷ ended before) r n s)

-- ---- symbols

abbrev code : ℕ → Option ℕ
code n = Some n

turn : (t : Bool) → cond (not t) (code 14) None ≡ cond t None (code 14)
turn true = refl
turn false = refl

essential-agrees : (before : List Word) (at b : ℕ) (bs : List ℕ) (after : List Word) (r : Reader) (m : Meaning) (names : Sym → List ℕ) (fs : List Sym)
    → fs ≡ r.formula → IsOpen (unended before) (codes "$e") (map names fs) → eqb b 36 ≡ false → list_any (λ b. eqb b 36) bs ≡ false
    → Means (ended before) r (b ∷ bs) m → Codes.code_at before (word at (b ∷ bs)) after ≡ formula_code r m
essential-agrees before at b bs after r meant.Nothing names [] q o e es h = Codes.essential-first before at b bs after o false false e es h.0 h.1
essential-agrees before at b bs after r meant.Nothing names (s ∷ fs) q o e es h =
    Codes.essential-later before at b bs after (names s) (map names fs) o false false (is_typed before (word at (b ∷ bs))) e es h.0 h.1 refl
essential-agrees before at b bs after r (meant.Constant s) names [] q o e es h = Codes.essential-first before at b bs after o true false e es h.a_constant h.no_variable
essential-agrees before at b bs after r (meant.Constant s) names (t ∷ fs) q o e es h =
    Codes.essential-later before at b bs after (names t) (map names fs) o true false
    (is_typed before (word at (b ∷ bs))) e es h.a_constant h.no_variable refl
essential-agrees before at b bs after r (meant.Variable s) names [] q o e es h =
    Codes.essential-first before at b bs after o false true e es h.no_constant h.a_variable
    ∙ ap (λ (f : List Sym). cond (is_empty f) (Some 16) (cond (list_any (nat_eq s.0) r.typed) None (Some 14))) q
essential-agrees before at b bs after r (meant.Variable s) names (t ∷ fs) q o e es h =
    Codes.essential-later before at b bs after (names t) (map names fs) o false true (list_any (nat_eq s.0) r.typed) e es h.no_constant h.a_variable h.typed
    ∙ turn (list_any (nat_eq s.0) r.typed)
    ∙ ap (λ (f : List Sym). cond (is_empty f) (Some 16) (cond (list_any (nat_eq s.0) r.typed) None (Some 14))) q

axiom-agrees : (before : List Word) (at b : ℕ) (bs : List ℕ) (after : List Word) (r : Reader) (m : Meaning) (names : Sym → List ℕ) (fs : List Sym)
    → fs ≡ r.formula → IsOpen (unended before) (codes "$a") (map names fs) → eqb b 36 ≡ false → list_any (λ b. eqb b 36) bs ≡ false
    → Means (ended before) r (b ∷ bs) m → Codes.code_at before (word at (b ∷ bs)) after ≡ formula_code r m
axiom-agrees before at b bs after r meant.Nothing names [] q o e es h = Codes.axiom-first before at b bs after o false false e es h.0 h.1
axiom-agrees before at b bs after r meant.Nothing names (s ∷ fs) q o e es h =
    Codes.axiom-later before at b bs after (names s) (map names fs) o false false (is_typed before (word at (b ∷ bs))) e es h.0 h.1 refl
axiom-agrees before at b bs after r (meant.Constant s) names [] q o e es h = Codes.axiom-first before at b bs after o true false e es h.a_constant h.no_variable
axiom-agrees before at b bs after r (meant.Constant s) names (t ∷ fs) q o e es h =
    Codes.axiom-later before at b bs after (names t) (map names fs) o true false
    (is_typed before (word at (b ∷ bs))) e es h.a_constant h.no_variable refl
axiom-agrees before at b bs after r (meant.Variable s) names [] q o e es h =
    Codes.axiom-first before at b bs after o false true e es h.no_constant h.a_variable
    ∙ ap (λ (f : List Sym). cond (is_empty f) (Some 16) (cond (list_any (nat_eq s.0) r.typed) None (Some 14))) q
axiom-agrees before at b bs after r (meant.Variable s) names (t ∷ fs) q o e es h =
    Codes.axiom-later before at b bs after (names t) (map names fs) o false true (list_any (nat_eq s.0) r.typed) e es h.no_constant h.a_variable h.typed
    ∙ turn (list_any (nat_eq s.0) r.typed)
    ∙ ap (λ (f : List Sym). cond (is_empty f) (Some 16) (cond (list_any (nat_eq s.0) r.typed) None (Some 14))) q

provable-agrees : (before : List Word) (at b : ℕ) (bs : List ℕ) (after : List Word) (r : Reader) (m : Meaning) (names : Sym → List ℕ) (fs : List Sym)
    → fs ≡ r.formula → IsOpen (unended before) (codes "$p") (map names fs) → eqb b 36 ≡ false → list_any (λ b. eqb b 36) bs ≡ false
    → Means (ended before) r (b ∷ bs) m → Codes.code_at before (word at (b ∷ bs)) after ≡ formula_code r m
provable-agrees before at b bs after r meant.Nothing names [] q o e es h = Codes.provable-first before at b bs after o false false e es h.0 h.1
provable-agrees before at b bs after r meant.Nothing names (s ∷ fs) q o e es h =
    Codes.provable-later before at b bs after (names s) (map names fs) o false false (is_typed before (word at (b ∷ bs))) e es h.0 h.1 refl
provable-agrees before at b bs after r (meant.Constant s) names [] q o e es h = Codes.provable-first before at b bs after o true false e es h.a_constant h.no_variable
provable-agrees before at b bs after r (meant.Constant s) names (t ∷ fs) q o e es h =
    Codes.provable-later before at b bs after (names t) (map names fs) o true false
    (is_typed before (word at (b ∷ bs))) e es h.a_constant h.no_variable refl
provable-agrees before at b bs after r (meant.Variable s) names [] q o e es h =
    Codes.provable-first before at b bs after o false true e es h.no_constant h.a_variable
    ∙ ap (λ (f : List Sym). cond (is_empty f) (Some 16) (cond (list_any (nat_eq s.0) r.typed) None (Some 14))) q
provable-agrees before at b bs after r (meant.Variable s) names (t ∷ fs) q o e es h =
    Codes.provable-later before at b bs after (names t) (map names fs) o false true (list_any (nat_eq s.0) r.typed) e es h.no_constant h.a_variable h.typed
    ∙ turn (list_any (nat_eq s.0) r.typed)
    ∙ ap (λ (f : List Sym). cond (is_empty f) (Some 16) (cond (list_any (nat_eq s.0) r.typed) None (Some 14))) q

distinct-agrees : (before : List Word) (at b : ℕ) (bs : List ℕ) (after : List Word) (r : Reader) (m : Meaning)
    → StateIs (unended before ∷ ended before) r → Within (length r.symbols) r.listed → IsOpen (unended before) (codes "$d") (listed_names r)
    → eqb b 36 ≡ false → list_any (λ b. eqb b 36) bs ≡ false → Means (ended before) r (b ∷ bs) m
    → Codes.code_at before (word at (b ∷ bs)) after ≡ distinct_code r m
distinct-agrees before at b bs after r meant.Nothing s k o e es h = Codes.distinct-code before at b bs after (listed_names r) o false (contains (listed_names r) (b ∷ bs)) e es h.1 refl
distinct-agrees before at b bs after r (meant.Constant c) s k o e es h = Codes.distinct-code before at b bs after (listed_names r) o false (contains (listed_names r) (b ∷ bs)) e es h.no_variable refl
distinct-agrees before at b bs after r (meant.Variable v) s k o e es h =
    let stands : contains (listed_names r) (b ∷ bs) ≡ list_any (nat_eq v.0) r.listed = ap (λ n. contains (listed_names r) n) (sym h.name) ∙ bridge r.symbols v.0 r.listed s.one h.known k in
    Codes.distinct-code before at b bs after (listed_names r) o true (list_any (nat_eq v.0) r.listed) e es h.a_variable stands

floating-agrees : (before : List Word) (at b : ℕ) (bs : List ℕ) (after : List Word) (r : Reader) (m : Meaning) (names : Sym → List ℕ) (fs : List Sym)
    → fs ≡ r.formula → IsOpen (unended before) (codes "$f") (map names fs) → eqb b 36 ≡ false → list_any (λ b. eqb b 36) bs ≡ false
    → (nat_lt 1 (length fs) ≡ false → Means (ended before) r (b ∷ bs) m) → Codes.code_at before (word at (b ∷ bs)) after ≡ floating_code r m
floating-agrees before at b bs after r m names fs q o e es h = go m fs o h ∙ ap (λ f. by f m) q
  where
    by : List Sym → Meaning → Option ℕ
    by f m = cond (is_empty f) (Rattle.mm_frames.specs.Reading.typecode_code m) (cond (nat_lt 1 (length f)) (Some 27) (Rattle.mm_frames.specs.Reading.typed_code r m))

    go : (m : Meaning) (fs : List Sym) → IsOpen (unended before) (codes "$f") (map names fs)
        → (nat_lt 1 (length fs) ≡ false → Means (ended before) r (b ∷ bs) m) → Codes.code_at before (word at (b ∷ bs)) after ≡ by fs m
    go meant.Nothing [] o h = Codes.floating-first before at b bs after o false false e es (h refl).0 (h refl).1
    go (meant.Constant s) [] o h = Codes.floating-first before at b bs after o true false e es (h refl).a_constant (h refl).no_variable
    go (meant.Variable s) [] o h = Codes.floating-first before at b bs after o false true e es (h refl).no_constant (h refl).a_variable
    go meant.Nothing (t ∷ []) o h = Codes.floating-second before at b bs after (names t) o false (is_typed before (word at (b ∷ bs))) e es (h refl).1 refl
    go (meant.Constant s) (t ∷ []) o h = Codes.floating-second before at b bs after (names t) o false (is_typed before (word at (b ∷ bs))) e es (h refl).no_variable refl
    go (meant.Variable s) (t ∷ []) o h = Codes.floating-second before at b bs after (names t) o true (list_any (nat_eq s.0) r.typed) e es (h refl).a_variable (h refl).typed
    go m (t ∷ x ∷ fs) o h =
        let many : nat_lt 1 (length (t ∷ x ∷ fs)) ≡ true = grind (arith, nat_tests) in
        Codes.floating-third before at b bs after (names t) (names x) (map names fs) o e es ∙ rw many refl

either_order : (c ev st : Bool) → (c || (ev || st)) ≡ ((st || c) || ev)
either_order true ev true = refl
either_order true ev false = refl
either_order false true true = refl
either_order false true false = refl
either_order false false true = refl
either_order false false false = refl

added-all : (k : List ℕ) (names : List (List ℕ)) (u : Statement) → bytes_eq k k ≡ true → IsOpen u k names → added k symbols_in u ≡ names
added-all k names u same o = let q : has_keyword k u ≡ true = keyword-is u k k o.begun ∙ rw same refl in rw q (symbols-of u k o.begun ∙ o.names_are)

contains-both : (xs ys : List (List ℕ)) (n : List ℕ) → contains (xs ++ ys) n ≡ (contains xs n || contains ys n)
contains-both xs ys n = list_any-append (bytes_eq n) xs ys

constant-agrees : (before : List Word) (at b : ℕ) (bs : List ℕ) (after : List Word) (r : Reader) → StateIs (unended before ∷ ended before) r
    → IsOpen (unended before) (codes "$c") (formula_names r) → eqb b 36 ≡ false → list_any (λ b. eqb b 36) bs ≡ false
    → Codes.code_at before (word at (b ∷ bs)) after ≡ constant_code r (b ∷ bs)
constant-agrees before at b bs after r s o e es =
    let n = b ∷ bs in
    let u = unended before in
    let all : constants (u ∷ ended before) ≡ formula_names r ++ constants (ended before) =
    constants-cons u (ended before) ∙ ap (λ l. l ++ constants (ended before)) (added-all (codes "$c") (formula_names r) u refl o) in
    let ever : variables_ever (u ∷ ended before) ≡ variables_ever (ended before) =
    variables_ever-cons u (ended before)
    ∙ ap (λ l. l ++ variables_ever (ended before)) (added-none (codes "$v") (codes "$c") symbols_in u o.begun refl) in
    let known : list_any (bytes_eq n) r.symbols ≡ ((contains (formula_names r) n || contains (constants (ended before)) n) || contains (variables_ever (ended before)) n) =
    s.are_declared n ∙ ap (λ l. contains l n || contains (variables_ever (u ∷ ended before)) n) all
    ∙ ap (λ t. t || contains (variables_ever (u ∷ ended before)) n) (contains-both (formula_names r) (constants (ended before)) n)
    ∙ ap (λ l. (contains (formula_names r) n || contains (constants (ended before)) n) || contains l n) ever in
    Codes.constant-code before at b bs after (formula_names r) o (contains (constants (ended before)) n) (contains (variables_ever (ended before)) n)
    (contains (formula_names r) n) e es refl refl refl
    ∙ ap (λ (t : Bool). cond t (code 12) None) (either_order (contains (constants (ended before)) n) (contains (variables_ever (ended before)) n) (contains (formula_names r) n) ∙ sym known)

one_fault : (c v st : Bool) → cond (c || (v || st)) (code 12) None ≡ cond c (code 12) (cond (st || v) (code 12) None)
one_fault true v st = refl
one_fault false true true = refl
one_fault false true false = refl
one_fault false false true = refl
one_fault false false false = refl

no_fault : (c v st : Bool) → c ≡ false → (st || v) ≡ false → cond (c || (v || st)) (code 12) None ≡ None
no_fault c v st h k = one_fault c v st ∙ rw (h, k) refl

variable-meets : (before : List Word) (n : List ℕ) (r : Reader) → StateIs (unended before ∷ ended before) r
    → IsOpen (unended before) (codes "$v") (formula_names r) → (p : Option ℕ) → position (bytes_eq n) r.symbols ≡ p
    → cond (contains (constants (ended before)) n || (contains (variables (ended before)) n || contains (formula_names r) n)) (code 12) None ≡ variable_code_at p r n
variable-meets before n r s o p h =
    let u = unended before in
    let e = ended before in
    let plain = plain-begun u (codes "$v") (other-keyword kind.Variables) o.begun in
    let same : constants (u ∷ e) ≡ constants e = same-constants u e (added-none (codes "$c") (codes "$v") symbols_in u o.begun refl) in
    let all : variables (u ∷ e) ≡ formula_names r ++ variables e = variables-plain u e plain.no_open plain.no_close ∙ ap (λ l. l ++ variables e) (added-all (codes "$v") (formula_names r) u refl o) in
    go u e same all p h
  where
    go : (u : Statement) (e : List Statement) → constants (unended before ∷ ended before) ≡ constants (ended before)
        → variables (unended before ∷ ended before) ≡ formula_names r ++ variables (ended before) → (p : Option ℕ)
        → position (bytes_eq n) r.symbols ≡ p
        → cond (contains (constants (ended before)) n || (contains (variables (ended before)) n || contains (formula_names r) n)) (code 12) None ≡ variable_code_at p r n
    go u e same all None h =
        let absent = none-absent (bytes_eq n) r.symbols h in
        let c : contains (constants (ended before)) n ≡ false =
        ap (λ l. contains l n) (sym same)
        ∙ (or_parts (contains (constants (unended before ∷ ended before)) n) (contains (variables_ever (unended before ∷ ended before)) n)
        (sym (s.are_declared n) ∙ absent)).0 in
        let v : (contains (formula_names r) n || contains (variables (ended before)) n) ≡ false =
        sym (contains-both (formula_names r) (variables (ended before)) n) ∙ ap (λ l. contains l n) (sym all)
        ∙ variable_none (unended before ∷ ended before) r.symbols r.constants r.variables r.typed r.labels (variable_marks r.scopes)
        (typed_marks r.scopes) n s absent in
        no_fault (contains (constants (ended before)) n) (contains (variables (ended before)) n) (contains (formula_names r) n) c v
    go u e same all (Some i) h =
        let f = found-is r.symbols n i h in
        let c : contains (constants (ended before)) n ≡ is_flagged r.constants i =
        ap (λ l. contains l n) (sym same) ∙ ap (λ m. contains (constants (unended before ∷ ended before)) m) (sym f.name)
        ∙ sym (s.are_constants i f.within) in
        let v : (contains (formula_names r) n || contains (variables (ended before)) n) ≡ list_any (nat_eq i) r.variables =
        sym (contains-both (formula_names r) (variables (ended before)) n) ∙ ap (λ l. contains l n) (sym all)
        ∙ ap (λ m. contains (variables (unended before ∷ ended before)) m) (sym f.name)
        ∙ variable_is (unended before ∷ ended before) r.symbols r.constants r.variables r.typed r.labels (variable_marks r.scopes)
        (typed_marks r.scopes) i s f.within in
        one_fault (contains (constants (ended before)) n) (contains (variables (ended before)) n) (contains (formula_names r) n)
        ∙ ap (λ (t : Bool). cond t (code 12) (cond (contains (formula_names r) n || contains (variables (ended before)) n) (code 12) None)) c
        ∙ ap (λ (t : Bool). cond (is_flagged r.constants i) (code 12) (cond t (code 12) None)) v

variable-agrees : (before : List Word) (at b : ℕ) (bs : List ℕ) (after : List Word) (r : Reader) → StateIs (unended before ∷ ended before) r
    → IsOpen (unended before) (codes "$v") (formula_names r) → eqb b 36 ≡ false → list_any (λ b. eqb b 36) bs ≡ false
    → Codes.code_at before (word at (b ∷ bs)) after ≡ variable_code r (b ∷ bs)
variable-agrees before at b bs after r s o e es =
    let n = b ∷ bs in
    Codes.variable-code before at b bs after (formula_names r) o (contains (constants (ended before)) n) (contains (variables (ended before)) n) (contains (formula_names r) n) e es refl refl refl
    ∙ variable-meets before n r s o (position (bytes_eq n) r.symbols) refl

-- ---- words

second-only : (names : Sym → List ℕ) (fs : List Sym) → nat_lt 1 (length fs) ≡ false → second (map names fs) ≡ []
second-only names [] h = refl
second-only names (s ∷ []) h = refl
second-only names (s ∷ t ∷ fs) h = let many : nat_lt 1 (length (s ∷ t ∷ fs)) ≡ true = grind (arith, nat_tests) in absurd (clash (sym many ∙ h))
  where
    clash : true ≡ false → ⊥
    clash e = cc

symbol-agrees : (before : List Word) (at b : ℕ) (bs : List ℕ) (after : List Word) (r : Reader) (k : StatementKind)
    → StateIs (unended before ∷ ended before) r → Within (length r.symbols) r.listed → IsOpen (unended before) (keyword k) (names_for r k)
    → eqb b 36 ≡ false → list_any (λ b. eqb b 36) bs ≡ false → Codes.code_at before (word at (b ∷ bs)) after ≡ symbol_code r k (b ∷ bs)
symbol-agrees before at b bs after r kind.Constants s w o e es = constant-agrees before at b bs after r s o e es
symbol-agrees before at b bs after r kind.Variables s w o e es = variable-agrees before at b bs after r s o e es
symbol-agrees before at b bs after r kind.Distinct s w o e es =
    distinct-agrees before at b bs after r (meaning_of r (b ∷ bs)) s w o e es
    (means-in before r (b ∷ bs) (codes "$d") (other-keyword kind.Distinct) o.begun refl refl
    (added-none (codes "$f") (codes "$d") types (unended before) o.begun refl) s)
symbol-agrees before at b bs after r kind.Floating s w o e es =
    let are : symbols_in (unended before) ≡ formula_names r = symbols-of (unended before) (codes "$f") o.begun ∙ o.names_are in
    let begun : has_keyword (codes "$f") (unended before) ≡ true = keyword-is (unended before) (codes "$f") (codes "$f") o.begun in
    let none : nat_lt 1 (length r.formula) ≡ false → added (codes "$f") types (unended before) ≡ [] =
    λ h. ap (λ (t : Bool). cond t (types (unended before)) []) begun ∙ ap (λ l. second l) are
    ∙ second-only (λ (x : Sym). name_of r.symbols x.0) r.formula h in
    floating-agrees before at b bs after r (meaning_of r (b ∷ bs)) (λ (x : Sym). name_of r.symbols x.0) r.formula refl o e es
    (λ h. means-in before r (b ∷ bs) (codes "$f") (other-keyword kind.Floating) o.begun refl refl (none h) s)
symbol-agrees before at b bs after r kind.Essential s w o e es =
    essential-agrees before at b bs after r (meaning_of r (b ∷ bs)) (λ (x : Sym). name_of r.symbols x.0) r.formula refl o e es
    (means-in before r (b ∷ bs) (codes "$e") (other-keyword kind.Essential) o.begun refl refl (added-none (codes "$f") (codes "$e") types (unended before) o.begun refl) s)
symbol-agrees before at b bs after r kind.Axiom s w o e es =
    axiom-agrees before at b bs after r (meaning_of r (b ∷ bs)) (λ (x : Sym). name_of r.symbols x.0) r.formula refl o e es
    (means-in before r (b ∷ bs) (codes "$a") (other-keyword kind.Axiom) o.begun refl refl (added-none (codes "$f") (codes "$a") types (unended before) o.begun refl) s)
symbol-agrees before at b bs after r kind.Provable s w o e es =
    provable-agrees before at b bs after r (meaning_of r (b ∷ bs)) (λ (x : Sym). name_of r.symbols x.0) r.formula refl o e es
    (means-in before r (b ∷ bs) (codes "$p") (other-keyword kind.Provable) o.begun refl refl (added-none (codes "$f") (codes "$p") types (unended before) o.begun refl) s)

taken-is : (before : List Word) (n : List ℕ) (labels_ : List (List ℕ)) → unended before ≡ []
    → labels_ ≡ reverse (labels (unended before ∷ ended before)) → contains (labels (ended before)) n ≡ list_any (bytes_eq n) labels_
taken-is before n labels_ h are =
    ap (λ (u : Statement). contains (labels (u ∷ ended before)) n) (sym h) ∙ sym (list_any-reverse (bytes_eq n) (labels (unended before ∷ ended before))) ∙ ap (λ l. list_any (bytes_eq n) l) (sym are)

pub word-agrees : (before : List Word) (at b : ℕ) (bs : List ℕ) (after : List Word) (r : Reader) (next : Option TokenKind) (s : Stage)
    → is_extra next ≡ list_any (λ v. not (is_one_of labelled v)) (take 1 after) → eqb b 36 ≡ false → list_any (λ b. eqb b 36) bs ≡ false
    → StateIs (unended before ∷ ended before) r → Within (length r.symbols) r.listed → StageIs (unended before) (word at (b ∷ bs) ∷ after) r s
    → Codes.code_at before (word at (b ∷ bs)) after ≡ word_code_at s r (b ∷ bs) next
word-agrees before at b bs after r next stage.Between x e es st w h =
    Codes.label-code before at b bs after (list_any (bytes_eq (b ∷ bs)) r.labels) (is_extra next) (list_all is_label_byte (b ∷ bs)) h.0 e es
    (taken-is before (b ∷ bs) r.labels h.0 st.are_labels) (sym x) refl
word-agrees before at b bs after r next stage.Labelled x e es st w h = absurd (clash (sym (not_labelled) ∙ h.0.next))
  where
    clash : true ≡ false → ⊥
    clash e = cc

    not_labelled : list_any (λ v. not (is_one_of labelled v)) (take 1 (word at (b ∷ bs) ∷ after)) ≡ true
    not_labelled = rw e refl
word-agrees before at b bs after r next (stage.Symbols k) x e es st w h = symbol-agrees before at b bs after r k st w h e es
word-agrees before at b bs after r next (stage.Proof from) x e es st w h = Codes.proof-word before at b bs after (formula_names r) h e es
