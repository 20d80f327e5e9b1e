-- What the reader has read: its lists are those of the statements so far, and its stage is how far the last one has come.
use Rattle.std.proofs.Common.{◌≡◌, ℕ, ◌<◌, Bool, true, false, cond, not, ◌||◌, eqb, List, [], ◌∷◌, length, take, map, Option, None, Some, refl, sym, ◌∙◌, subst, codes, position, nat_eq}
use Rattle.std.specs.List.{list_any}
use Rattle.std.specs.Str.{bytes_eq}
use Rattle.mm_base.specs.declared.symbols.Sym.{Sym}
use Rattle.mm_model.specs.Words.{Word}
use Rattle.mm_model.specs.Statements.{Statement, is_word, is_one_of, labelled, ended, unended, contains, constants, variables, variables_ever, typed}
use Rattle.mm_tokens.specs.declared.token.TokenKind.{TokenKind}
use Rattle.mm_tokens.specs.declared.token.TokenKind.TheVariants as token
use Rattle.mm_frames.specs.declared.reader.Reader.{Reader}
use Rattle.mm_frames.specs.declared.reader.Stage.{Stage}
use Rattle.mm_frames.specs.declared.reader.Stage.TheVariants as stage
use Rattle.frame_lists.specs.declared.entry.StatementKind.{StatementKind}
use Rattle.frame_lists.specs.declared.entry.StatementKind.TheVariants as kind
use Rattle.mm_frames.specs.declared.reader.Meaning.{Meaning}
use Rattle.mm_frames.specs.declared.reader.Meaning.TheVariants as meant
use Rattle.mm_frames.specs.declared.scopes.Scope.{Scope}
use Rattle.mm_frames.specs.Reading.{meaning_of, meaning_of_at}
use Rattle.mm_frames.proofs.Numbers.{name_of, Within}
use Rattle.mm_frames.proofs.Names.{found-is, none-absent}
use Rattle.mm_frames.proofs.State.{IsState, is_flagged, variable_is, variable_none, typed_is}
use Rattle.mm_frames.proofs.Shapes.{IsOpen, IsProof}

abbrev pub keyword : StatementKind → List ℕ
keyword kind.Constants = codes "$c"
keyword kind.Variables = codes "$v"
keyword kind.Distinct = codes "$d"
keyword kind.Floating = codes "$f"
keyword kind.Essential = codes "$e"
keyword kind.Axiom = codes "$a"
keyword kind.Provable = codes "$p"

-- a word that is no keyword and not empty
pub record IsName (n : List ℕ) : Type 0 where
  pub first : ℕ
  pub rest : List ℕ
  pub eq : n ≡ first ∷ rest
  pub no_dollar : eqb first 36 ≡ false
  pub none_behind : list_any (λ b. eqb b 36) rest ≡ false

-- the bytes are those of a token of this kind outside comments
abbrev pub IsKind : TokenKind → List ℕ → Type 0
IsKind token.Word n = IsName n
IsKind token.Constants n = n ≡ codes "$c"
IsKind token.Variables n = n ≡ codes "$v"
IsKind token.Distinct n = n ≡ codes "$d"
IsKind token.Floating n = n ≡ codes "$f"
IsKind token.Essential n = n ≡ codes "$e"
IsKind token.Axiom n = n ≡ codes "$a"
IsKind token.Provable n = n ≡ codes "$p"
IsKind token.Equals n = n ≡ codes "$="
IsKind token.End n = n ≡ codes "$."
IsKind token.OpenBlock n = n ≡ codes "${"
IsKind token.CloseBlock n = n ≡ codes "$}"
IsKind token.OpenInclude n = n ≡ codes "$["
IsKind token.CloseInclude n = n ≡ codes "$]"
IsKind token.OpenComment n = ⊥
IsKind token.CloseComment n = ⊥

-- the names of the formula, and those that the reader keeps for a statement of this kind
abbrev pub formula_names : Reader → List (List ℕ)
formula_names r = map (λ (s : Sym). name_of r.symbols s.0) r.formula

abbrev pub listed_names : Reader → List (List ℕ)
listed_names r = map (λ i. name_of r.symbols i) r.listed

abbrev pub names_for : Reader → StatementKind → List (List ℕ)
names_for r kind.Distinct = listed_names r
names_for r k = formula_names r

pub record IsClear (r : Reader) : Type 0 where
  pub formula : r.formula ≡ []
  pub listed : r.listed ≡ []

pub record IsLabelled (u : Statement) (after : List Word) : Type 0 where
  pub label : Word
  pub is : u ≡ label ∷ []
  pub is_name : is_word label ≡ true
  pub next : list_any (λ v. not (is_one_of labelled v)) (take 1 after) ≡ false

-- `u` is the statement that is not ended, `after` the tokens behind
abbrev pub StageIs : Statement → List Word → Reader → Stage → Type 0
StageIs u after r stage.Between = (u ≡ []) × IsClear r
StageIs u after r stage.Labelled = IsLabelled u after × IsClear r
StageIs u after r (stage.Symbols k) = IsOpen u (keyword k) (names_for r k)
StageIs u after r (stage.Proof from) = IsProof u (formula_names r)

abbrev pub variable_marks : List Scope → List ℕ
variable_marks ss = map (λ (s : Scope). s.variables) ss

abbrev pub typed_marks : List Scope → List ℕ
typed_marks ss = map (λ (s : Scope). s.typed) ss

abbrev pub StateIs : List Statement → Reader → Type 0
StateIs e r = IsState e r.symbols r.constants r.variables r.typed r.labels (variable_marks r.scopes) (typed_marks r.scopes)

-- `e` are the statements that are ended, the nearest first
pub record IsReaderAt (u : Statement) (e : List Statement) (after : List Word) (r : Reader) : Type 0 where
  pub state : StateIs (u ∷ e) r
  pub stage : StageIs u after r r.stage
  pub formula_known : Within (length r.symbols) (map (λ (s : Sym). s.0) r.formula)
  pub listed_known : Within (length r.symbols) r.listed

abbrev pub IsReader : List Word → List Word → Reader → Type 0
IsReader before after r = IsReaderAt (unended before) (ended before) after r

-- ---- meanings

pub record MeansConstant (e : List Statement) (r : Reader) (n : List ℕ) (s : Sym) : Type 0 where
  pub a_constant : contains (constants e) n ≡ true
  pub no_variable : contains (variables e) n ≡ false
  pub known : s.0 < length r.symbols
  pub name : name_of r.symbols s.0 ≡ n

pub record MeansVariable (e : List Statement) (r : Reader) (n : List ℕ) (s : Sym) : Type 0 where
  pub no_constant : contains (constants e) n ≡ false
  pub a_variable : contains (variables e) n ≡ true
  pub known : s.0 < length r.symbols
  pub name : name_of r.symbols s.0 ≡ n
  pub typed : contains (typed e) n ≡ list_any (nat_eq s.0) r.typed

abbrev pub Means : List Statement → Reader → List ℕ → Meaning → Type 0
Means e r n meant.Nothing = (contains (constants e) n ≡ false) × (contains (variables e) n ≡ false)
Means e r n (meant.Constant s) = MeansConstant e r n s
Means e r n (meant.Variable s) = MeansVariable e r n s

or_left : (a b : Bool) → (a || b) ≡ false → a ≡ false
or_left true b h = absurd (clash h)
  where
    clash : true ≡ false → ⊥
    clash e = cc
or_left false b h = refl

means-known : (e : List Statement) (r : Reader) (i : ℕ) → StateIs e r → i < length r.symbols → Means e r (name_of r.symbols i) (meaning_of_at (Some i) r (name_of r.symbols i))
means-known e r i s hi =
    let n = name_of r.symbols i in
    let v = variable_is e r.symbols r.constants r.variables r.typed r.labels (variable_marks r.scopes) (typed_marks r.scopes) i s hi in
    let t = typed_is e r.symbols r.constants r.variables r.typed r.labels (variable_marks r.scopes) (typed_marks r.scopes) i s hi in
    go (is_flagged r.constants i) (list_any (nat_eq i) r.variables) refl refl v t
  where
    go : (c v : Bool) → is_flagged r.constants i ≡ c → list_any (nat_eq i) r.variables ≡ v
        → contains (variables e) (name_of r.symbols i) ≡ list_any (nat_eq i) r.variables
        → contains (typed e) (name_of r.symbols i) ≡ list_any (nat_eq i) r.typed
        → Means e r (name_of r.symbols i) (cond c (meant.Constant (record { 0 = i })) (cond v (meant.Variable (record { 0 = i })) meant.Nothing))
    go true v hc hv ve te = record { a_constant = sym (s.are_constants i hi) ∙ hc; no_variable = ve ∙ s.apart i hc; known = hi; name = refl }
    go false true hc hv ve te = record { no_constant = sym (s.are_constants i hi) ∙ hc; a_variable = ve ∙ hv; known = hi; name = refl; typed = te }
    go false false hc hv ve te = (sym (s.are_constants i hi) ∙ hc, ve ∙ hv)

pub means : (e : List Statement) (r : Reader) (n : List ℕ) → StateIs e r → Means e r n (meaning_of r n)
means e r n s = go (position (bytes_eq n) r.symbols) refl
  where
    go : (o : Option ℕ) → position (bytes_eq n) r.symbols ≡ o → Means e r n (meaning_of_at o r n)
    go None h =
        let absent = none-absent (bytes_eq n) r.symbols h in (
          or_left (contains (constants e) n) (contains (variables_ever e) n) (sym (s.are_declared n) ∙ absent),
          variable_none e r.symbols r.constants r.variables r.typed r.labels (variable_marks r.scopes) (typed_marks r.scopes) n s absent,
        )
    go (Some i) h =
        let f = found-is r.symbols n i h in
        subst (λ (m : List ℕ). Means e r m (meaning_of_at (Some i) r m)) f.name (means-known e r i s f.within)
