-- What the reader does with a token: the code of its fault, and what the reader keeps where it has none. This is part of the proof, and not of the claim.
use Rattle.std.specs.Prelude.{◌≡◌, ℕ, ◌+◌, ◌<◌, ◌^◌, Bool, true, false, not, ◌&&◌, List, [], ◌∷◌, ◌++◌, length, take, Option, None, Some}
use Rattle.std.specs.Prelude.{if◌then◌else◌, nat_eq, nat_lt, position, slice_get, unwrap_or}
use Rattle.std.specs.List.{list_any, list_all}
use Rattle.std.specs.Str.{bytes_eq}
use Rattle.mm_model.specs.Names.{Name, sym}
use Rattle.mm_model.specs.Labels.{is_label_byte}
use Rattle.mm_model.specs.Statements.{is_empty}
use Rattle.mm_tokens.specs.declared.token.TokenKind.{TokenKind}
use Rattle.mm_tokens.specs.declared.token.TokenKind.TheVariants as token
use Rattle.mm_frames.specs.declared.fault.ReadFault.{ReadFault}
use Rattle.mm_frames.specs.declared.fault.ReadFault.TheVariants as faults
use Rattle.mm_frames.specs.declared.reader.Reader.{Reader}
use Rattle.mm_frames.specs.declared.reader.Meaning.{Meaning}
use Rattle.mm_frames.specs.declared.reader.Meaning.TheVariants as meant
use Rattle.mm_frames.specs.declared.reader.Stage.{Stage}
use Rattle.mm_frames.specs.declared.reader.Stage.TheVariants as stage
use Rattle.frame_lists.specs.declared.entry.Entry.{Entry}
use Rattle.frame_lists.specs.declared.entry.EntryKind.{EntryKind}
use Rattle.frame_lists.specs.declared.entry.EntryKind.TheVariants as entry
use Rattle.mm_frames.specs.declared.scopes.Scope.{Scope}
use Rattle.frame_lists.specs.declared.entry.StatementKind.{StatementKind}
use Rattle.frame_lists.specs.declared.entry.StatementKind.TheVariants as kind
use Rattle.mm_frames.specs.Kinds.{is_extra}

abbrev pub first_reader : Reader
first_reader =
    record {
      symbols = [];
      constants = [];
      labels = [];
      variables = [];
      typed = [];
      scopes = [];
      stage = stage.Between;
      formula = [];
      listed = [];
      begins = 0;
      entries = [];
      positions = [];
    }

-- where a statement begins, its byte is kept
abbrev pub noted_at : Stage → Reader → ℕ → Reader
noted_at stage.Between r start = record r { begins = start }
noted_at s r start = r

abbrev pub noted : Reader → ℕ → Reader
noted r start = noted_at r.stage r start

-- another symbol and another label can be numbered, and the number of the next symbol is no active variable
pub record IsReady (r : Reader) : Type 0 where
  pub symbols_room : length r.symbols + 1 < 2 ^ 32
  pub labels_room : length r.labels + 1 < 2 ^ 32
  pub places_room : length r.entries < 2 ^ 32
  pub next_is_new : list_any (nat_eq (length r.symbols)) r.variables ≡ false

-- the error is want of memory, or this code at this byte
abbrev pub FailsAt : ReadFault → ℕ → Option ℕ → Type 0
FailsAt faults.Memory start code = Unit {0}
FailsAt (faults.Include at) start code = (at ≡ start) × (code ≡ Some 10)
FailsAt (faults.ConstInBlock at) start code = (at ≡ start) × (code ≡ Some 11)
FailsAt (faults.Redeclared at) start code = (at ≡ start) × (code ≡ Some 12)
FailsAt (faults.NotActive at) start code = (at ≡ start) × (code ≡ Some 13)
FailsAt (faults.NoType at) start code = (at ≡ start) × (code ≡ Some 14)
FailsAt (faults.TwoTypes at) start code = (at ≡ start) × (code ≡ Some 15)
FailsAt (faults.FirstNotConst at) start code = (at ≡ start) × (code ≡ Some 16)
FailsAt (faults.LabelTaken at) start code = (at ≡ start) × (code ≡ Some 17)
FailsAt (faults.LabelMissing at) start code = (at ≡ start) × (code ≡ Some 18)
FailsAt (faults.LabelExtra at) start code = (at ≡ start) × (code ≡ Some 19)
FailsAt (faults.BadLabel at) start code = (at ≡ start) × (code ≡ Some 20)
FailsAt (faults.Unended at) start code = (at ≡ start) × (code ≡ Some 21)
FailsAt (faults.BlockOpen at) start code = (at ≡ start) × (code ≡ Some 22)
FailsAt (faults.BlockUnopened at) start code = (at ≡ start) × (code ≡ Some 23)
FailsAt (faults.DistinctShort at) start code = (at ≡ start) × (code ≡ Some 24)
FailsAt (faults.DistinctTwice at) start code = (at ≡ start) × (code ≡ Some 25)
FailsAt (faults.EmptyFormula at) start code = (at ≡ start) × (code ≡ Some 26)
FailsAt (faults.BadHypothesis at) start code = (at ≡ start) × (code ≡ Some 27)
FailsAt (faults.NoProof at) start code = (at ≡ start) × (code ≡ Some 28)
FailsAt (faults.StrayToken at) start code = (at ≡ start) × (code ≡ Some 29)

-- whether a number is that of a constant
abbrev pub is_constant_number : Reader → ℕ → Bool
is_constant_number r i = unwrap_or (slice_get r.constants i) false

abbrev pub meaning_of_at : Option ℕ → Reader → Name → Meaning
meaning_of_at None r n = meant.Nothing
meaning_of_at (Some i) r n = if is_constant_number r i then meant.Constant (sym i) else (if list_any (nat_eq i) r.variables then meant.Variable (sym i) else meant.Nothing)

-- what a name means
abbrev pub meaning_of : Reader → Name → Meaning
meaning_of r n = meaning_of_at ((position (bytes_eq n) r.symbols)) r n

-- ---- a word where a statement begins

abbrev pub label_code : Reader → Name → Option TokenKind → Option ℕ
label_code r n next = if list_any (bytes_eq n) r.labels then Some 17 else (if is_extra next then Some 19 else (if not (list_all is_label_byte n) then Some 20 else None))

abbrev pub with_label : Reader → Name → Reader
with_label r n = record r { labels = r.labels ++ n ∷ []; positions = r.positions ++ length r.entries ∷ []; stage = stage.Labelled }

-- ---- a symbol of `$c`

abbrev pub constant_code : Reader → Name → Option ℕ
constant_code r n = if list_any (bytes_eq n) r.symbols then Some 12 else None

abbrev pub with_constant : Reader → Name → Reader
with_constant r n = record r { symbols = r.symbols ++ n ∷ []; constants = r.constants ++ true ∷ []; formula = r.formula ++ sym (length r.symbols) ∷ [] }

-- ---- a symbol of `$d`

abbrev pub distinct_code : Reader → Meaning → Option ℕ
distinct_code r (meant.Variable s) = if list_any (nat_eq s.0) r.listed then Some 25 else None
distinct_code r m = Some 13

abbrev pub with_distinct : Reader → Meaning → Reader
with_distinct r (meant.Variable s) = record r { listed = r.listed ++ s.0 ∷ []; formula = r.formula ++ s ∷ [] }
with_distinct r m = r

-- ---- a symbol of `$v`

abbrev pub variable_code_at : Option ℕ → Reader → Name → Option ℕ
variable_code_at None r n = None
variable_code_at (Some i) r n = if is_constant_number r i then Some 12 else (if list_any (nat_eq i) r.variables then Some 12 else None)

abbrev pub variable_code : Reader → Name → Option ℕ
variable_code r n = variable_code_at ((position (bytes_eq n) r.symbols)) r n

abbrev pub with_variable_at : Option ℕ → Reader → Name → Reader
with_variable_at None r n =
    record r {
      symbols = r.symbols ++ n ∷ [];
      constants = r.constants ++ false ∷ [];
      variables = r.variables ++ length r.symbols ∷ [];
      formula = r.formula ++ sym (length r.symbols) ∷ [];
    }
with_variable_at (Some i) r n = record r { variables = r.variables ++ i ∷ []; formula = r.formula ++ sym i ∷ [] }

abbrev pub with_variable : Reader → Name → Reader
with_variable r n = with_variable_at ((position (bytes_eq n) r.symbols)) r n

-- ---- a symbol of `$f`

abbrev pub typecode_code : Meaning → Option ℕ
typecode_code meant.Nothing = Some 13
typecode_code (meant.Variable s) = Some 16
typecode_code (meant.Constant s) = None

abbrev pub typed_code : Reader → Meaning → Option ℕ
typed_code r (meant.Variable s) = if list_any (nat_eq s.0) r.typed then Some 15 else None
typed_code r m = Some 13

abbrev pub floating_code : Reader → Meaning → Option ℕ
floating_code r m = if is_empty r.formula then typecode_code m else (if nat_lt 1 (length r.formula) then Some 27 else typed_code r m)

abbrev pub with_floating : Reader → Meaning → Reader
with_floating r meant.Nothing = r
with_floating r (meant.Constant s) = record r { formula = r.formula ++ s ∷ [] }
with_floating r (meant.Variable s) = record r { typed = r.typed ++ s.0 ∷ []; formula = r.formula ++ s ∷ [] }

-- ---- a symbol of `$e`, `$a` or `$p`

abbrev pub formula_code : Reader → Meaning → Option ℕ
formula_code r meant.Nothing = Some 13
formula_code r (meant.Constant s) = None
formula_code r (meant.Variable s) = if is_empty r.formula then Some 16 else (if list_any (nat_eq s.0) r.typed then None else Some 14)

abbrev pub with_symbol : Reader → Meaning → Reader
with_symbol r meant.Nothing = r
with_symbol r (meant.Constant s) = record r { formula = r.formula ++ s ∷ [] }
with_symbol r (meant.Variable s) = record r { formula = r.formula ++ s ∷ [] }

-- ---- a word

abbrev pub symbol_code : Reader → StatementKind → Name → Option ℕ
symbol_code r kind.Constants n = constant_code r n
symbol_code r kind.Variables n = variable_code r n
symbol_code r kind.Distinct n = distinct_code r (meaning_of r n)
symbol_code r kind.Floating n = floating_code r (meaning_of r n)
symbol_code r kind.Essential n = formula_code r (meaning_of r n)
symbol_code r kind.Axiom n = formula_code r (meaning_of r n)
symbol_code r kind.Provable n = formula_code r (meaning_of r n)

abbrev pub with_symbol_of : Reader → StatementKind → Name → Reader
with_symbol_of r kind.Constants n = with_constant r n
with_symbol_of r kind.Variables n = with_variable r n
with_symbol_of r kind.Distinct n = with_distinct r (meaning_of r n)
with_symbol_of r kind.Floating n = with_floating r (meaning_of r n)
with_symbol_of r kind.Essential n = with_symbol r (meaning_of r n)
with_symbol_of r kind.Axiom n = with_symbol r (meaning_of r n)
with_symbol_of r kind.Provable n = with_symbol r (meaning_of r n)

abbrev pub word_code_at : Stage → Reader → Name → Option TokenKind → Option ℕ
word_code_at stage.Between r n next = label_code r n next
word_code_at stage.Labelled r n next = Some 29
word_code_at (stage.Symbols k) r n next = symbol_code r k n
word_code_at (stage.Proof from) r n next = None

-- behind a label no word comes: the label would be the fault
abbrev pub word_code : Reader → Name → Option TokenKind → Option ℕ
word_code r n next = word_code_at r.stage r n next

abbrev pub with_word_at : Stage → Reader → Name → Reader
with_word_at stage.Between r n = with_label r n
with_word_at stage.Labelled r n = r
with_word_at (stage.Symbols k) r n = with_symbol_of r k n
with_word_at (stage.Proof from) r n = r

abbrev pub with_word : Reader → Name → Reader
with_word r n = with_word_at r.stage r n

-- ---- keywords

abbrev pub is_constants : StatementKind → Bool
is_constants kind.Constants = true
is_constants k = false

abbrev pub is_provable : StatementKind → Bool
is_provable kind.Provable = true
is_provable k = false

-- a statement of this kind has the fault 26 where it has no symbol
abbrev pub needs_symbol : StatementKind → Bool
needs_symbol kind.Distinct = false
needs_symbol kind.Floating = false
needs_symbol k = true

abbrev pub between_code_at : Stage → Reader → Option ℕ
between_code_at stage.Between r = None
between_code_at s r = Some 29

abbrev pub between_code : Reader → Option ℕ
between_code r = between_code_at r.stage r

abbrev pub begins_code : Reader → StatementKind → Option ℕ
begins_code r k = if is_constants k && not (is_empty r.scopes) then Some 11 else between_code r

abbrev pub labelled_code_at : Stage → Reader → Option ℕ
labelled_code_at stage.Labelled r = None
labelled_code_at s r = Some 18

abbrev pub labelled_code : Reader → Option ℕ
labelled_code r = labelled_code_at r.stage r

abbrev pub with_stage : Reader → StatementKind → Reader
with_stage r k = record r { stage = stage.Symbols k }

abbrev pub equals_code_at : Stage → Reader → Option ℕ
equals_code_at (stage.Symbols k) r = if needs_symbol k && is_empty r.formula then Some 26 else (if is_provable k then None else Some 29)
equals_code_at s r = Some 29

abbrev pub equals_code : Reader → Option ℕ
equals_code r = equals_code_at r.stage r

abbrev pub with_proof : Reader → ℕ → Reader
with_proof r from = record r { stage = stage.Proof from }

abbrev pub symbols_end_code : Reader → StatementKind → Option ℕ
symbols_end_code r kind.Distinct = if nat_lt (length r.listed) 2 then Some 24 else None
symbols_end_code r kind.Floating = if nat_lt (length r.formula) 2 then Some 27 else None
symbols_end_code r kind.Provable = if is_empty r.formula then Some 26 else Some 28
symbols_end_code r k = if is_empty r.formula then Some 26 else None

abbrev pub end_code_at : Stage → Reader → Option ℕ
end_code_at (stage.Symbols k) r = symbols_end_code r k
end_code_at (stage.Proof from) r = None
end_code_at s r = Some 29

abbrev pub end_code : Reader → Option ℕ
end_code r = end_code_at r.stage r

-- the statement so far, as one that is ended
abbrev pub entry_of : Reader → StatementKind → Option (ℕ × ℕ) → Entry
entry_of r k proof = record { kind = entry.Statement k; start = r.begins; symbols = r.formula; proof = proof }

abbrev pub ended_entry_at : Stage → Reader → ℕ → Entry
ended_entry_at (stage.Proof from) r start = entry_of r kind.Provable (Some (from, start))
ended_entry_at (stage.Symbols k) r start = entry_of r k None
ended_entry_at s r start = entry_of r kind.Constants None

abbrev pub ended_entry : Reader → ℕ → Entry
ended_entry r start = ended_entry_at r.stage r start

abbrev pub with_end : Reader → ℕ → Reader
with_end r start = record r { stage = stage.Between; formula = []; listed = []; entries = r.entries ++ ended_entry r start ∷ [] }

abbrev pub with_block : Reader → EntryKind → Reader
with_block r k = record r { entries = r.entries ++ (record { kind = k; start = r.begins; symbols = []; proof = None }) ∷ [] }

abbrev pub with_open : Reader → Reader
with_open r = with_block (record r { scopes = record { variables = length r.variables; typed = length r.typed } ∷ r.scopes }) entry.OpenBlock

abbrev pub close_code_at : List Scope → Reader → Option ℕ
close_code_at [] r = Some 23
close_code_at (s ∷ ss) r = between_code r

abbrev pub close_code : Reader → Option ℕ
close_code r = close_code_at r.scopes r

abbrev pub with_close_at : List Scope → Reader → Reader
with_close_at [] r = r
with_close_at (s ∷ ss) r = with_block (record r { scopes = ss; variables = take s.variables r.variables; typed = take s.typed r.typed }) entry.CloseBlock

abbrev pub with_close : Reader → Reader
with_close r = with_close_at r.scopes r

-- ---- a token

abbrev pub step_code : Reader → TokenKind → Name → Option TokenKind → Option ℕ
step_code r token.Word n next = word_code r n next
step_code r token.Constants n next = begins_code r kind.Constants
step_code r token.Variables n next = begins_code r kind.Variables
step_code r token.Distinct n next = begins_code r kind.Distinct
step_code r token.Floating n next = labelled_code r
step_code r token.Essential n next = labelled_code r
step_code r token.Axiom n next = labelled_code r
step_code r token.Provable n next = labelled_code r
step_code r token.Equals n next = equals_code r
step_code r token.End n next = end_code r
step_code r token.OpenBlock n next = between_code r
step_code r token.CloseBlock n next = close_code r
step_code r token.OpenInclude n next = Some 10
step_code r k n next = Some 29

abbrev pub with_token : Reader → TokenKind → Name → ℕ → ℕ → Reader
with_token r token.Word n start end_ = with_word r n
with_token r token.Constants n start end_ = with_stage r kind.Constants
with_token r token.Variables n start end_ = with_stage r kind.Variables
with_token r token.Distinct n start end_ = with_stage r kind.Distinct
with_token r token.Floating n start end_ = with_stage r kind.Floating
with_token r token.Essential n start end_ = with_stage r kind.Essential
with_token r token.Axiom n start end_ = with_stage r kind.Axiom
with_token r token.Provable n start end_ = with_stage r kind.Provable
with_token r token.Equals n start end_ = with_proof r end_
with_token r token.End n start end_ = with_end r start
with_token r token.OpenBlock n start end_ = with_open r
with_token r token.CloseBlock n start end_ = with_close r
with_token r k n start end_ = r

abbrev pub last_code_at : Stage → Reader → Option ℕ
last_code_at stage.Between r = if is_empty r.scopes then None else Some 22
last_code_at s r = Some 21

-- the end of the text
abbrev pub last_code : Reader → Option ℕ
last_code r = last_code_at r.stage r
