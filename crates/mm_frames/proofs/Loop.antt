-- From token to token: what was read, and that no fault stands before.
use Rattle.std.proofs.Common.{◌≡◌, ℕ, zero, suc, ◌+◌, ◌<◌, ◌≤◌, ◌^◌, Bool, true, false, cond, not, ◌||◌, List, [], ◌∷◌, ◌++◌, length, take, drop, map}
use Rattle.std.proofs.Common.{reverse, Option, None, Some, refl, sym, ap, ◌∙◌, subst, arith, option_map, slice_range, slice_get, slice_index_or}
use Rattle.std.proofs.Common.{position}
use mathlib.Core.List.{reverse_aux}
use Rattle.std.specs.List.{list_any}
use Rattle.std.specs.Str.{bytes_eq}
use Rattle.mm_model.specs.Faults.{Fault, fault, or_else, first_fault_within}
use Rattle.mm_model.specs.Words.{Word, word}
use Rattle.mm_model.specs.Tokens.{tokens, token_fault}
use Rattle.mm_model.specs.Statements.{Statement, is_one_of, is_empty, labelled, unended, ended, path, token_rules, end_fault, statement_fault}
use Rattle.mm_tokens.specs.declared.token.Token.{Token}
use Rattle.mm_tokens.specs.declared.token.TokenKind.{TokenKind}
use Rattle.mm_tokens.specs.declared.token.TokenKind.TheVariants as token
use Rattle.mm_tokens.specs.Tokens.{token_of}
use Rattle.mm_frames.specs.declared.fault.ReadFault.{ReadFault}
use Rattle.mm_frames.specs.declared.reader.Reader.{Reader}
use Rattle.frame_lists.specs.declared.entry.Entry.{Entry}
use Rattle.mm_frames.specs.declared.reader.Stage.{Stage}
use Rattle.mm_frames.specs.declared.reader.Stage.TheVariants as stage
use Rattle.frame_lists.specs.declared.entry.StatementKind.{StatementKind}
use Rattle.frame_lists.specs.declared.entry.StatementKind.TheVariants as kind
use Rattle.mm_frames.specs.declared.reader.Meaning.{Meaning}
use Rattle.mm_frames.specs.declared.reader.Meaning.TheVariants as meant
use Rattle.mm_frames.specs.declared.scopes.Scope.{Scope}
use Rattle.mm_frames.specs.Kinds.{wants_label, is_extra}
use Rattle.mm_frames.specs.Faults.{IsFault}
use Rattle.mm_frames.specs.Reading.{IsReady, FailsAt, first_reader, noted, noted_at, meaning_of, with_distinct, with_floating, with_symbol}
use Rattle.mm_frames.specs.Reading.{with_variable_at, with_symbol_of, with_word_at, with_close_at, with_token, step_code, last_code, last_code_at}
use Rattle.mm_frames.proofs.Names.{length-more, within-absent}
use Rattle.mm_frames.proofs.Codes.{code_at}
use Rattle.mm_frames.proofs.SoFar.{IsKind, IsReader, StageIs}
use Rattle.mm_frames.proofs.Agrees.{outside}
use Rattle.mm_frames.proofs.Agreement.{agrees}
use Rattle.mm_frames.proofs.Goes.{goes}
use Rattle.mm_frames.proofs.FaultAt.{fault-at}
use Rattle.frame_lists.specs.Entries.{first_byte}
use Rattle.mm_frames.proofs.More.{More, Doubled}
use Rattle.mm_frames.proofs.MoreGoes.{more-goes}
use Rattle.mm_frames.proofs.TokenFacts.{Stands, Each, IsGood, stands-within, stands-bytes, tokens-stand, tokens-length, tokens-good, token-kind}

abbrev kind_of : Word → TokenKind
kind_of w = (token_of w).kind

-- ---- at most one more symbol and one more label

pub record Few (r q : Reader) : Type 0 where
  pub symbols : length q.symbols ≤ suc (length r.symbols)
  pub labels : length q.labels ≤ suc (length r.labels)
  pub entries : length q.entries ≤ suc (length r.entries)

one-more : (xs : List Entry) (x : Entry) → length (xs ++ x ∷ []) ≤ suc (length xs)
one-more xs x = omega (arith, length-more xs x)

few-same : (r : Reader) → Few r r
few-same r = record { symbols = omega arith; labels = omega arith; entries = omega arith }

few-distinct : (r : Reader) (m : Meaning) → Few r (with_distinct r m)
few-distinct r meant.Nothing = few-same r
few-distinct r (meant.Constant s) = few-same r
few-distinct r (meant.Variable s) = record { symbols = omega arith; labels = omega arith; entries = omega arith }

few-floating : (r : Reader) (m : Meaning) → Few r (with_floating r m)
few-floating r meant.Nothing = few-same r
few-floating r (meant.Constant s) = record { symbols = omega arith; labels = omega arith; entries = omega arith }
few-floating r (meant.Variable s) = record { symbols = omega arith; labels = omega arith; entries = omega arith }

few-symbol : (r : Reader) (m : Meaning) → Few r (with_symbol r m)
few-symbol r meant.Nothing = few-same r
few-symbol r (meant.Constant s) = record { symbols = omega arith; labels = omega arith; entries = omega arith }
few-symbol r (meant.Variable s) = record { symbols = omega arith; labels = omega arith; entries = omega arith }

few-variable : (r : Reader) (n : List ℕ) (p : Option ℕ) → Few r (with_variable_at p r n)
few-variable r n None = record { symbols = omega (arith, length-more r.symbols n); labels = omega arith; entries = omega arith }
few-variable r n (Some i) = record { symbols = omega arith; labels = omega arith; entries = omega arith }

few-symbol-of : (r : Reader) (n : List ℕ) (k : StatementKind) → Few r (with_symbol_of r k n)
few-symbol-of r n kind.Constants = record { symbols = omega (arith, length-more r.symbols n); labels = omega arith; entries = omega arith }
few-symbol-of r n kind.Variables = few-variable r n (position (bytes_eq n) r.symbols)
few-symbol-of r n kind.Distinct = few-distinct r (meaning_of r n)
few-symbol-of r n kind.Floating = few-floating r (meaning_of r n)
few-symbol-of r n kind.Essential = few-symbol r (meaning_of r n)
few-symbol-of r n kind.Axiom = few-symbol r (meaning_of r n)
few-symbol-of r n kind.Provable = few-symbol r (meaning_of r n)

few-word : (r : Reader) (n : List ℕ) (s : Stage) → Few r (with_word_at s r n)
few-word r n stage.Between = record { symbols = omega arith; labels = omega (arith, length-more r.labels n); entries = omega arith }
few-word r n stage.Labelled = few-same r
few-word r n (stage.Symbols k) = few-symbol-of r n k
few-word r n (stage.Proof from) = few-same r

few-close : (r : Reader) (ss : List Scope) → Few r (with_close_at ss r)
few-close r [] = few-same r
few-close r (s ∷ ss) = record { symbols = omega arith; labels = omega arith; entries = one-more r.entries _ }

few : (r : Reader) (k : TokenKind) (n : List ℕ) (start end_ : ℕ) → Few r (with_token r k n start end_)
few r token.Word n start end_ = few-word r n r.stage
few r token.CloseBlock n start end_ = few-close r r.scopes
few r token.Constants n start end_ = record { symbols = omega arith; labels = omega arith; entries = omega arith }
few r token.Variables n start end_ = record { symbols = omega arith; labels = omega arith; entries = omega arith }
few r token.Distinct n start end_ = record { symbols = omega arith; labels = omega arith; entries = omega arith }
few r token.Floating n start end_ = record { symbols = omega arith; labels = omega arith; entries = omega arith }
few r token.Essential n start end_ = record { symbols = omega arith; labels = omega arith; entries = omega arith }
few r token.Axiom n start end_ = record { symbols = omega arith; labels = omega arith; entries = omega arith }
few r token.Provable n start end_ = record { symbols = omega arith; labels = omega arith; entries = omega arith }
few r token.Equals n start end_ = record { symbols = omega arith; labels = omega arith; entries = omega arith }
few r token.End n start end_ = record { symbols = omega arith; labels = omega arith; entries = one-more r.entries _ }
few r token.OpenBlock n start end_ = record { symbols = omega arith; labels = omega arith; entries = one-more r.entries _ }
few r token.OpenComment n start end_ = few-same r
few r token.CloseComment n start end_ = few-same r
few r token.OpenInclude n start end_ = few-same r
few r token.CloseInclude n start end_ = few-same r

-- ---- the token behind

wants-law : (k : TokenKind) (w : Word) → IsKind k w.bytes → wants_label k ≡ is_one_of labelled w
wants-law token.Word w h =
    let d = h.no_dollar in
    let none : false ≡ is_one_of labelled (word w.start (h.first ∷ h.rest)) = rw d refl in
    none ∙ ap (λ (n : List ℕ). is_one_of labelled (word w.start n)) (sym h.eq)
wants-law token.Constants w h = ap (λ (n : List ℕ). is_one_of labelled (word w.start n)) (sym h)
wants-law token.Variables w h = ap (λ (n : List ℕ). is_one_of labelled (word w.start n)) (sym h)
wants-law token.Distinct w h = ap (λ (n : List ℕ). is_one_of labelled (word w.start n)) (sym h)
wants-law token.Floating w h = ap (λ (n : List ℕ). is_one_of labelled (word w.start n)) (sym h)
wants-law token.Essential w h = ap (λ (n : List ℕ). is_one_of labelled (word w.start n)) (sym h)
wants-law token.Axiom w h = ap (λ (n : List ℕ). is_one_of labelled (word w.start n)) (sym h)
wants-law token.Provable w h = ap (λ (n : List ℕ). is_one_of labelled (word w.start n)) (sym h)
wants-law token.Equals w h = ap (λ (n : List ℕ). is_one_of labelled (word w.start n)) (sym h)
wants-law token.End w h = ap (λ (n : List ℕ). is_one_of labelled (word w.start n)) (sym h)
wants-law token.OpenBlock w h = ap (λ (n : List ℕ). is_one_of labelled (word w.start n)) (sym h)
wants-law token.CloseBlock w h = ap (λ (n : List ℕ). is_one_of labelled (word w.start n)) (sym h)
wants-law token.OpenInclude w h = ap (λ (n : List ℕ). is_one_of labelled (word w.start n)) (sym h)
wants-law token.CloseInclude w h = ap (λ (n : List ℕ). is_one_of labelled (word w.start n)) (sym h)
wants-law token.OpenComment w h = absurd h
wants-law token.CloseComment w h = absurd h

or-none : (a : Bool) → (a || false) ≡ a
or-none true = refl
or-none false = refl

-- ---- a token by its number

drop-some : (ws : List Word) (i : ℕ) → i < length ws → (w : Word) × (rest : List Word) × (drop i ws ≡ w ∷ rest)
drop-some [] i h = let bad : ⊥ = omega arith in absurd bad
drop-some (w ∷ ws) zero h = (w, ws, refl)
drop-some (w ∷ ws) (suc i) h = drop-some ws i (omega arith)

drop-next : (ws : List Word) (i : ℕ) (w : Word) (rest : List Word) → drop i ws ≡ w ∷ rest → drop (suc i) ws ≡ rest
drop-next [] zero w rest h = absurd (clash h)
  where
    clash : [] ≡ w ∷ rest → ⊥
    clash e = cc
drop-next [] (suc i) w rest h = absurd (clash h)
  where
    clash : [] ≡ w ∷ rest → ⊥
    clash e = cc
drop-next (x ∷ ws) zero w rest h = cc
drop-next (x ∷ ws) (suc i) w rest h = drop-next ws i w rest h

index-drop : (ws : List Word) (i : ℕ) (w : Word) (rest : List Word) (d : Token) → drop i ws ≡ w ∷ rest → slice_index_or (map token_of ws) i d ≡ token_of w
index-drop [] zero w rest d h = absurd (clash h)
  where
    clash : [] ≡ w ∷ rest → ⊥
    clash e = cc
index-drop [] (suc i) w rest d h = absurd (clash h)
  where
    clash : [] ≡ w ∷ rest → ⊥
    clash e = cc
index-drop (x ∷ ws) zero w rest d h = let e : x ≡ w = cc in ap token_of e
index-drop (x ∷ ws) (suc i) w rest d h = index-drop ws i w rest d h

abbrev first_token : List Word → Option Token
first_token [] = None
first_token (w ∷ rest) = Some (token_of w)

get-drop : (ws : List Word) (i : ℕ) → slice_get (map token_of ws) i ≡ first_token (drop i ws)
get-drop [] zero = refl
get-drop [] (suc i) = refl
get-drop (w ∷ ws) zero = refl
get-drop (w ∷ ws) (suc i) = get-drop ws i

each-drop : (P : Word → Type 0) (ws : List Word) (i : ℕ) → Each P ws → Each P (drop i ws)
each-drop P [] zero h = tt
each-drop P [] (suc i) h = tt
each-drop P (w ∷ ws) zero h = h
each-drop P (w ∷ ws) (suc i) h = each-drop P ws i h.1

-- ---- what was read

abbrev place : Word → ℕ
place w = w.start

pub record GoesTo (text : List ℕ) (i : ℕ) (r : Reader) : Type 0 where
  pub before : List Word
  pub after : List Word
  pub turned : reverse_aux after before ≡ reverse (tokens text)
  pub behind : drop i (tokens text) ≡ after
  pub reader : IsReader before after r
  pub no_fault : first_fault_within place token_rules [] (tokens text) ≡ first_fault_within place token_rules before after
  pub more : More (unended before) (ended before) r
  pub few_symbols : length r.symbols ≤ i
  pub few_labels : length r.labels ≤ i
  pub few_entries : length r.entries ≤ i

state-first : IsReader [] [] first_reader
state-first = record {
  state = record {
    one = λ i j hi hj e. let bad : ⊥ = omega arith in absurd bad;
    all_known = refl;
    variables_known = tt;
    typed_known = tt;
    are_constants = λ i h. let bad : ⊥ = omega arith in absurd bad;
    are_declared = λ n. refl;
    apart = λ i h. refl;
    are_variables = refl;
    are_typed = refl;
    are_labels = refl;
    are_v_marks = refl;
    are_t_marks = refl;
    are_symbols = refl;
    are_ordered = refl;
  };
  stage = (refl, record { formula = refl; listed = refl });
  formula_known = tt;
  listed_known = tt;
}

pub starts : (text : List ℕ) → GoesTo text 0 first_reader
starts text = record {
  before = [];
  after = tokens text;
  turned = refl;
  behind = refl;
  reader = record { state = state-first.state; stage = (refl, record { formula = refl; listed = refl }); formula_known = tt; listed_known = tt };
  no_fault = refl;
  more = record { positions_are = refl; entries_are = refl; known = tt; begins_are = λ n. absurd (clash n); proof_is = tt; doubled = tt };
  few_symbols = omega arith;
  few_labels = omega arith;
  few_entries = omega arith;
}
  where
    clash : true ≡ false → ⊥
    clash e = cc

-- ---- where a statement begins

stage-noted : (u : Statement) (after : List Word) (r : Reader) (b : ℕ) (s : Stage) → StageIs u after r s → StageIs u after (record r { begins = b }) s
stage-noted u after r b stage.Between h = (h.0, record { formula = h.1.formula; listed = h.1.listed })
stage-noted u after r b stage.Labelled h = (h.0, record { formula = h.1.formula; listed = h.1.listed })
stage-noted u after r b (stage.Symbols kind.Constants) h = h
stage-noted u after r b (stage.Symbols kind.Variables) h = h
stage-noted u after r b (stage.Symbols kind.Distinct) h = h
stage-noted u after r b (stage.Symbols kind.Floating) h = h
stage-noted u after r b (stage.Symbols kind.Essential) h = h
stage-noted u after r b (stage.Symbols kind.Axiom) h = h
stage-noted u after r b (stage.Symbols kind.Provable) h = h
stage-noted u after r b (stage.Proof from) h = h

more-noted : (u : Statement) (e : List Statement) (r : Reader) (b : ℕ) → u ≡ [] → stage.Between ≡ r.stage → More u e r → More u e (record r { begins = b })
more-noted u e r b h i m = record {
  positions_are = m.positions_are;
  entries_are = m.entries_are;
  known = m.known;
  begins_are = λ n. absurd (clash (sym (ap (λ (v : Statement). is_empty v) h) ∙ n));
  proof_is = m.proof_is;
  doubled = subst (λ (t : Stage). Doubled (record r { begins = b }) t) i tt;
}
  where
    clash : true ≡ false → ⊥
    clash e = cc

first-more : (u v : Statement) → is_empty u ≡ false → first_byte (u ++ v) ≡ first_byte u
first-more [] v h = absurd (clash h)
  where
    clash : true ≡ false → ⊥
    clash e = cc
first-more (w ∷ u) v h = refl

begins-noted : (u : Statement) (e : List Statement) (after : List Word) (r : Reader) (w : Word) (s : Stage) → StageIs u after r s → More u e r
    → first_byte (u ++ w ∷ []) ≡ (noted_at s r w.start).begins
begins-noted u e after r w stage.Between h m = ap (λ (v : Statement). first_byte (v ++ w ∷ [])) h.0
begins-noted u e after r w stage.Labelled h m = let n : is_empty u ≡ false = ap (λ (v : Statement). is_empty v) h.0.is in first-more u (w ∷ []) n ∙ m.begins_are n
begins-noted u e after r w (stage.Symbols k) h m = first-more u (w ∷ []) h.begun.not_empty ∙ m.begins_are h.begun.not_empty
begins-noted u e after r w (stage.Proof from) h m = first-more u (w ∷ []) h.begun.not_empty ∙ m.begins_are h.begun.not_empty

goes-noted : (text : List ℕ) (i b : ℕ) (r : Reader) (s : Stage) → s ≡ r.stage → GoesTo text i r → GoesTo text i (noted_at s r b)
goes-noted text i b r stage.Between q g =
    let h : StageIs (unended g.before) g.after r stage.Between = subst (λ (t : Stage). StageIs (unended g.before) g.after r t) (sym q) g.reader.stage in
    record {
      before = g.before;
      after = g.after;
      turned = g.turned;
      behind = g.behind;
      reader =
          record {
            state = g.reader.state;
            stage = stage-noted (unended g.before) g.after r b r.stage g.reader.stage;
            formula_known = g.reader.formula_known;
            listed_known = g.reader.listed_known;
          };
      no_fault = g.no_fault;
      more = more-noted (unended g.before) (ended g.before) r b h.0 q g.more;
      few_symbols = g.few_symbols;
      few_labels = g.few_labels;
      few_entries = g.few_entries;
    }
goes-noted text i b r stage.Labelled q g = g
goes-noted text i b r (stage.Symbols k) q g = g
goes-noted text i b r (stage.Proof from) q g = g

pub notes : (text : List ℕ) (i b : ℕ) (r : Reader) → GoesTo text i r → GoesTo text i (noted r b)
notes text i b r g = goes-noted text i b r r.stage refl g

-- the token that is read next
pub record Next (text : List ℕ) (i : ℕ) (r : Reader) (next : Option TokenKind) : Type 0 where
  pub before : List Word
  pub w : Word
  pub after : List Word
  pub turned : reverse_aux after (w ∷ before) ≡ reverse (tokens text)
  pub behind : drop (suc i) (tokens text) ≡ after
  pub reader : IsReader before (w ∷ after) r
  pub no_fault : first_fault_within place token_rules [] (tokens text) ≡ first_fault_within place token_rules before (w ∷ after)
  pub more : More (unended before) (ended before) r
  pub is_token : (d : Token) → slice_index_or (map token_of (tokens text)) i d ≡ token_of w
  pub is_kind : IsKind (kind_of w) w.bytes
  pub bytes_are : slice_range text w.start (w.start + length w.bytes) ≡ w.bytes
  pub within : w.start + length w.bytes ≤ length text
  pub next_is : is_extra next ≡ list_any (λ v. not (is_one_of labelled v)) (take 1 after)

extra-of : (text : List ℕ) (after : List Word) → Each (Stands text) after → Each IsGood after
    → is_extra (option_map (λ (t : Token). t.kind) (first_token after)) ≡ list_any (λ v. not (is_one_of labelled v)) (take 1 after)
extra-of text [] s g = refl
extra-of text (v ∷ vs) s g = ap (λ (b : Bool). not b) (wants-law (kind_of v) v (token-kind text v s.0 g.0)) ∙ sym (or-none (not (is_one_of labelled v)))

next-token : (text : List ℕ) (i : ℕ) (r : Reader) (next : Option TokenKind) → token_fault text ≡ None → i < length (tokens text)
    → next ≡ option_map (λ (t : Token). t.kind) (slice_get (map token_of (tokens text)) (i + 1)) → GoesTo text i r → Next text i r next
next-token text i r next good h n g =
    let d = drop-some (tokens text) i h in
    let w = d.0 in
    let rest = d.1 in
    let is : g.after ≡ w ∷ rest = sym g.behind ∙ d.2 in
    let later = drop-next (tokens text) i w rest d.2 in
    let stand : Each (Stands text) (w ∷ rest) = subst (λ ws. Each (Stands text) ws) d.2 (each-drop (Stands text) (tokens text) i (tokens-stand text)) in
    let goods : Each IsGood (w ∷ rest) = subst (λ ws. Each IsGood ws) d.2 (each-drop IsGood (tokens text) i (tokens-good text good)) in
    let one : i + 1 ≡ suc i = omega arith in
    let kinds : next ≡ option_map (λ (t : Token). t.kind) (first_token rest) =
    n ∙ ap (λ (k : ℕ). option_map (λ (t : Token). t.kind) (slice_get (map token_of (tokens text)) k)) one
    ∙ ap (λ (o : Option Token). option_map (λ (t : Token). t.kind) o) (get-drop (tokens text) (suc i))
    ∙ ap (λ ws. option_map (λ (t : Token). t.kind) (first_token ws)) later in
    record {
      before = g.before;
      w = w;
      after = rest;
      turned = ap (λ ws. reverse_aux ws g.before) (sym is) ∙ g.turned;
      behind = later;
      reader = subst (λ ws. IsReader g.before ws r) is g.reader;
      no_fault = g.no_fault ∙ ap (λ ws. first_fault_within place token_rules g.before ws) is;
      more = g.more;
      is_token = λ t. index-drop (tokens text) i w rest t d.2;
      is_kind = token-kind text w stand.0 goods.0;
      bytes_are = stands-bytes text w stand.0;
      within = stands-within text w stand.0;
      next_is = ap (λ (o : Option TokenKind). is_extra o) kinds ∙ extra-of text rest stand.1 goods.1;
    }

-- ---- a step

abbrev bytes_of : List ℕ → Token → List ℕ
bytes_of text t = slice_range text t.start t.«end»

later : (before : List Word) (w : Word) (after : List Word) → code_at before w after ≡ None
    → first_fault_within place token_rules before (w ∷ after) ≡ first_fault_within place token_rules (w ∷ before) after
later before w after h = ap (λ (o : Option ℕ). or_else (option_map (λ code. fault w.start code) o) (first_fault_within place token_rules (w ∷ before) after)) h

here : (before : List Word) (w : Word) (after : List Word) (c : ℕ) → code_at before w after ≡ Some c → first_fault_within place token_rules before (w ∷ after) ≡ Some (fault w.start c)
here before w after c h = ap (λ (o : Option ℕ). or_else (option_map (λ code. fault w.start code) o) (first_fault_within place token_rules (w ∷ before) after)) h

noted-twice : (p : Reader) (b : ℕ) (s : Stage) → s ≡ p.stage → noted (noted_at s p b) b ≡ noted_at s p b
noted-twice p b stage.Between h = ap (λ (t : Stage). noted_at t (record p { begins = b }) b) (sym h)
noted-twice p b stage.Labelled h = ap (λ (t : Stage). noted_at t p b) (sym h)
noted-twice p b (stage.Symbols k) h = ap (λ (t : Stage). noted_at t p b) (sym h)
noted-twice p b (stage.Proof from) h = ap (λ (t : Stage). noted_at t p b) (sym h)

pub goes-to : (text : List ℕ) (i : ℕ) (p r q : Reader) (t d : Token) (next : Option TokenKind) → token_fault text ≡ None → i < length (tokens text)
    → next ≡ option_map (λ (t : Token). t.kind) (slice_get (map token_of (tokens text)) (i + 1)) → GoesTo text i r → r ≡ noted p t.start
    → t ≡ slice_index_or (map token_of (tokens text)) i d → step_code r t.kind (bytes_of text t) next ≡ None → q ≡ with_token r t.kind (bytes_of text t) t.start t.«end» → GoesTo text (i + 1) q
goes-to text i p r q t d next good h n g was is none then =
    let x = next-token text i r next good h n g in
    let w = x.w in
    let same : t ≡ token_of w = is ∙ x.is_token d in
    let code : step_code r (kind_of w) w.bytes next ≡ None =
    ap (λ l. step_code r (kind_of w) l next) (sym x.bytes_are) ∙ ap (λ (u : Token). step_code r u.kind (bytes_of text u) next) (sym same)
    ∙ none in
    let now : q ≡ with_token r (kind_of w) w.bytes w.start (token_of w).«end» =
    then ∙ ap (λ (u : Token). with_token r u.kind (bytes_of text u) u.start u.«end») same
    ∙ ap (λ l. with_token r (kind_of w) l w.start (token_of w).«end») x.bytes_are in
    let reads = goes x.before x.after r w (kind_of w) next w.start (token_of w).«end» x.reader x.is_kind x.next_is code in
    let no_code : code_at x.before w x.after ≡ None = agrees x.before x.after r w (kind_of w) next x.reader x.is_kind x.next_is ∙ code in
    let kept : noted r w.start ≡ r =
    ap (λ (v : Reader). noted v w.start) (was ∙ ap (λ (u : Token). noted p u.start) same) ∙ noted-twice p w.start p.stage refl
    ∙ sym (was ∙ ap (λ (u : Token). noted p u.start) same) in
    let begun : first_byte (unended x.before ++ w ∷ []) ≡ r.begins =
    begins-noted (unended x.before) (ended x.before) (w ∷ x.after) r w r.stage x.reader.stage x.more ∙ ap (λ (v : Reader). v.begins) kept in
    let all = more-goes x.before x.after r w (kind_of w) next x.reader x.more begun x.is_kind code in
    let f = few r (kind_of w) w.bytes w.start (token_of w).«end» in
    let one : i + 1 ≡ suc i = omega arith in
    let end_ : GoesTo text (suc i) (with_token r (kind_of w) w.bytes w.start (token_of w).«end») = record {
      before = w ∷ x.before;
      after = x.after;
      turned = x.turned;
      behind = x.behind;
      reader = reads;
      no_fault = x.no_fault ∙ later x.before w x.after no_code;
      more = all;
      few_symbols = omega (arith, f.symbols, g.few_symbols);
      few_labels = omega (arith, f.labels, g.few_labels);
      few_entries = omega (arith, f.entries, g.few_entries);
    } in
    subst (λ (p : Reader). GoesTo text (i + 1) p) (sym now) (subst (λ (k : ℕ). GoesTo text k (with_token r (kind_of w) w.bytes w.start (token_of w).«end»)) (sym one) end_)

pub fails-at : (text : List ℕ) (i : ℕ) (r : Reader) (t d : Token) (next : Option TokenKind) (e : ReadFault) → token_fault text ≡ None
    → i < length (tokens text) → next ≡ option_map (λ (t : Token). t.kind) (slice_get (map token_of (tokens text)) (i + 1)) → GoesTo text i r
    → t ≡ slice_index_or (map token_of (tokens text)) i d → FailsAt e t.start (step_code r t.kind (bytes_of text t) next) → IsFault e (statement_fault text)
fails-at text i r t d next e good h n g is fails =
    let x = next-token text i r next good h n g in
    let w = x.w in
    let same : t ≡ token_of w = is ∙ x.is_token d in
    let code : step_code r t.kind (bytes_of text t) next ≡ code_at x.before w x.after =
    ap (λ (u : Token). step_code r u.kind (bytes_of text u) next) same ∙ ap (λ l. step_code r (kind_of w) l next) x.bytes_are
    ∙ sym (agrees x.before x.after r w (kind_of w) next x.reader x.is_kind x.next_is) in
    let there : FailsAt e w.start (code_at x.before w x.after) =
    subst (λ (o : Option ℕ). FailsAt e w.start o) code
    (subst (λ (u : Token). FailsAt e u.start (step_code r t.kind (bytes_of text t) next)) same fails) in
    fault-at e w.start (code_at x.before w x.after) (statement_fault text) there
    (λ c k. ap (λ (o : Option Fault). or_else o (end_fault (length text) (reverse (tokens text)))) (x.no_fault ∙ here x.before w x.after c k))

-- ---- what a step asks for

pub ready : (text : List ℕ) (i : ℕ) (r : Reader) → length text ≤ 2 ^ 28 → i < length (tokens text) → GoesTo text i r → IsReady r
ready text i r small h g =
    let most = tokens-length text in
    record {
      symbols_room = omega (arith, g.few_symbols, most);
      labels_room = omega (arith, g.few_labels, most);
      places_room = omega (arith, g.few_entries, most);
      next_is_new = within-absent (length r.symbols) r.variables g.reader.state.variables_known;
    }

pub order : (text : List ℕ) (i : ℕ) (r : Reader) (t d : Token) → token_fault text ≡ None → i < length (tokens text) → GoesTo text i r
    → t ≡ slice_index_or (map token_of (tokens text)) i d → (t.start ≤ t.«end») × (t.«end» ≤ length text)
order text i r t d good h g is =
    let x = next-token text i r (option_map (λ (t : Token). t.kind) (slice_get (map token_of (tokens text)) (i + 1))) good h refl g in
    let both : ((token_of x.w).start ≤ (token_of x.w).«end») × ((token_of x.w).«end» ≤ length text) = (omega arith, x.within) in
    subst (λ (u : Token). (u.start ≤ u.«end») × (u.«end» ≤ length text)) (sym (is ∙ x.is_token d)) both

-- ---- the end

end-agrees : (len : ℕ) (before : List Word) (r : Reader) (s : Stage) → StageIs (unended before) [] r s
    → is_empty (path (ended before)) ≡ is_empty r.scopes → end_fault len before ≡ option_map (λ c. fault len c) (last_code_at s r)
end-agrees len before r stage.Between h o = let e = h.0 in rw (e, o) (by_scopes (is_empty r.scopes))
  where
    by_scopes : (b : Bool) → cond (not b) (Some (fault len 22)) None ≡ option_map (λ c. fault len c) (cond b None (Some 22))
    by_scopes true = refl
    by_scopes false = refl
end-agrees len before r stage.Labelled h o = let e = h.0.is in rw e refl
end-agrees len before r (stage.Symbols k) h o = let e = h.begun.not_empty in rw e refl
end-agrees len before r (stage.Proof from) h o = let e = h.begun.not_empty in rw e refl

pub no-more : (ws : List Word) (i : ℕ) → length ws ≤ i → drop i ws ≡ []
no-more [] zero h = refl
no-more [] (suc i) h = refl
no-more (w ∷ ws) zero h = let bad : ⊥ = omega arith in absurd bad
no-more (w ∷ ws) (suc i) h = no-more ws i (omega arith)

pub last-fault : (text : List ℕ) (i : ℕ) (r : Reader) → length (tokens text) ≤ i → GoesTo text i r → statement_fault text ≡ option_map (λ c. fault (length text) c) (last_code r)
last-fault text i r h g =
    let none : g.after ≡ [] = sym g.behind ∙ no-more (tokens text) i h in
    let all : g.before ≡ reverse (tokens text) = ap (λ ws. reverse_aux ws g.before) (sym none) ∙ g.turned in
    let reads : IsReader g.before [] r = subst (λ ws. IsReader g.before ws r) none g.reader in
    ap (λ (o : Option Fault). or_else o (end_fault (length text) (reverse (tokens text)))) (g.no_fault ∙ ap (λ ws. first_fault_within place token_rules g.before ws) none)
    ∙ ap (λ ws. end_fault (length text) ws) (sym all)
    ∙ end-agrees (length text) g.before r r.stage reads.stage (outside g.before [] r reads)

pub ends-well : (text : List ℕ) (i : ℕ) (r : Reader) → length (tokens text) ≤ i → GoesTo text i r → last_code r ≡ None → statement_fault text ≡ None
ends-well text i r h g none = last-fault text i r h g ∙ ap (λ (o : Option ℕ). option_map (λ c. fault (length text) c) o) none

pub ends-badly : (text : List ℕ) (i : ℕ) (r : Reader) (e : ReadFault) → length (tokens text) ≤ i → GoesTo text i r → FailsAt e (length text) (last_code r) → IsFault e (statement_fault text)
ends-badly text i r e h g fails =
    fault-at e (length text) (last_code r) (statement_fault text) fails
    (λ c k. last-fault text i r h g ∙ ap (λ (o : Option ℕ). option_map (λ c. fault (length text) c) o) k)
