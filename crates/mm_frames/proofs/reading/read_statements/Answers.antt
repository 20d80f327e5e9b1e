use Rattle.std.proofs.Common.{rules, ◌≡◌, ℕ, ◌+◌, List, length, map, option_map, slice_get, slice_index_or, subst, sym, ap, ◌∙◌, arith}
use Rattle.std.proofs.lemmas.List.{length-map}
use Rattle.mm_model.specs.Tokens.{tokens}
use Rattle.mm_model.specs.Statements.{statement_fault}
use Rattle.mm_tokens.specs.declared.token.Token.{Token}
use Rattle.mm_tokens.specs.declared.token.TokenKind.TheVariants as kind
use Rattle.mm_tokens.specs.Tokens.{token_of}
use Rattle.mm_frames.specs.Faults.{IsFault}
use Rattle.mm_frames.specs.declared.reader.Reader.{Reader}
use Rattle.mm_frames.proofs.Loop.{GoesTo, starts, notes, goes-to, fails-at, ready, order, ends-well, ends-badly}
use Rattle.mm_frames.proofs.Final.{contents-are}
use Rattle.mm_frames.proofs.TokenFacts.{tokens-length}
use Rattle.mm_frames.proofs.reading.read_statements.Goals as goal

abbrev none : Token
none = record { start = 0; «end» = 0; kind = kind.Constants }

-- the tokens that were passed are those of the text
count-is : (text : List ℕ) (ts : List Token) → ts ≡ map token_of (tokens text) → length ts ≡ length (tokens text)
count-is text ts e = ap (λ l. length l) e ∙ length-map (tokens text) token_of

at-is : (text : List ℕ) (ts : List Token) (i : ℕ) → ts ≡ map token_of (tokens text) → slice_index_or ts i none ≡ slice_index_or (map token_of (tokens text)) i none
at-is text ts i e = ap (λ l. slice_index_or l i none) e

next-is : (ts us : List Token) (i : ℕ) → ts ≡ us → option_map (λ (t : Token). t.kind) (slice_get ts (i + 1)) ≡ option_map (λ (t : Token). t.kind) (slice_get us (i + 1))
next-is ts us i e = ap (λ l. option_map (λ (t : Token). t.kind) (slice_get l (i + 1))) e

pub loop-number-init : goal.loop-number-init
loop-number-init c = subst (λ (r : Reader). GoesTo c.args.text.now 0 r) (sym c.new-reader.ensures) (starts c.args.text.now)

pub step-requires-clause-ready : goal.step-requires-clause-ready
step-requires-clause-ready c =
    let inv : GoesTo c.args.text.now c.loop-number.number c.note.new.self =
    subst (λ (r : Reader). GoesTo c.args.text.now c.loop-number.number r) (sym c.note.ensures)
    (notes c.args.text.now c.loop-number.number
    (slice_index_or c.args.tokens.now c.loop-number.number none).start c.loop-number.reader c.loop-number.invariant) in
    let len = count-is c.args.text.now c.args.tokens.now c.requires.tokens in
    ready c.args.text.now c.loop-number.number c.note.new.self c.requires.small (omega (arith, len)) inv

pub step-requires-clause-order : goal.step-requires-clause-order
step-requires-clause-order c =
    let inv : GoesTo c.args.text.now c.loop-number.number c.note.new.self =
    subst (λ (r : Reader). GoesTo c.args.text.now c.loop-number.number r) (sym c.note.ensures)
    (notes c.args.text.now c.loop-number.number
    (slice_index_or c.args.tokens.now c.loop-number.number none).start c.loop-number.reader c.loop-number.invariant) in
    let len = count-is c.args.text.now c.args.tokens.now c.requires.tokens in
    (order c.args.text.now c.loop-number.number c.note.new.self (slice_index_or c.args.tokens.now c.loop-number.number none) none c.requires.no_fault
    (omega (arith, len)) inv (at-is c.args.text.now c.args.tokens.now c.loop-number.number c.requires.tokens)).0

pub step-requires-clause-within : goal.step-requires-clause-within
step-requires-clause-within c =
    let inv : GoesTo c.args.text.now c.loop-number.number c.note.new.self =
    subst (λ (r : Reader). GoesTo c.args.text.now c.loop-number.number r) (sym c.note.ensures)
    (notes c.args.text.now c.loop-number.number
    (slice_index_or c.args.tokens.now c.loop-number.number none).start c.loop-number.reader c.loop-number.invariant) in
    let len = count-is c.args.text.now c.args.tokens.now c.requires.tokens in
    (order c.args.text.now c.loop-number.number c.note.new.self (slice_index_or c.args.tokens.now c.loop-number.number none) none c.requires.no_fault
    (omega (arith, len)) inv (at-is c.args.text.now c.args.tokens.now c.loop-number.number c.requires.tokens)).1

pub returns-in_err-step-clause-first_fault : goal.returns-in_err-step-clause-first_fault
returns-in_err-step-clause-first_fault c =
    let inv : GoesTo c.args.text.now c.loop-number.number c.note.new.self =
    subst (λ (r : Reader). GoesTo c.args.text.now c.loop-number.number r) (sym c.note.ensures)
    (notes c.args.text.now c.loop-number.number
    (slice_index_or c.args.tokens.now c.loop-number.number none).start c.loop-number.reader c.loop-number.invariant) in
    let len = count-is c.args.text.now c.args.tokens.now c.requires.tokens in
    let there : IsFault c.in_err-step.field-0.0 (statement_fault c.args.text.now) =
    fails-at c.args.text.now c.loop-number.number c.note.new.self
    (slice_index_or c.args.tokens.now c.loop-number.number none) none c.next_kind-next.result c.in_err-step.field-0.0 c.requires.no_fault
    (omega (arith, len))
    (c.next_kind-next.ensures ∙ next-is c.args.tokens.now (map token_of (tokens c.args.text.now)) c.loop-number.number c.requires.tokens) inv
    (at-is c.args.text.now c.args.tokens.now c.loop-number.number c.requires.tokens) c.in_err-step.ensures.fault in
    search (rules, there)

pub loop-number-preserved : goal.loop-number-preserved
loop-number-preserved c =
    let inv : GoesTo c.args.text.now c.loop-number.number c.note.new.self =
    subst (λ (r : Reader). GoesTo c.args.text.now c.loop-number.number r) (sym c.note.ensures)
    (notes c.args.text.now c.loop-number.number
    (slice_index_or c.args.tokens.now c.loop-number.number none).start c.loop-number.reader c.loop-number.invariant) in
    let len = count-is c.args.text.now c.args.tokens.now c.requires.tokens in
    goes-to c.args.text.now c.loop-number.number c.loop-number.reader c.note.new.self c.step.new.self
    (slice_index_or c.args.tokens.now c.loop-number.number none) none c.next_kind-next.result c.requires.no_fault (omega (arith, len))
    (c.next_kind-next.ensures
    ∙ next-is c.args.tokens.now (map token_of (tokens c.args.text.now)) c.loop-number.number c.requires.tokens) inv c.note.ensures
    (at-is c.args.text.now c.args.tokens.now c.loop-number.number c.requires.tokens)
    c.in_ok-step.ensures.no_fault c.in_ok-step.ensures.next

pub returns-in_err-finish-clause-first_fault : goal.returns-in_err-finish-clause-first_fault
returns-in_err-finish-clause-first_fault c =
    let len = count-is c.args.text.now c.args.tokens.now c.requires.tokens in
    let there : IsFault c.in_err-finish.field-0.0 (statement_fault c.args.text.now) =
    ends-badly c.args.text.now c.loop-number.number c.loop-number.reader c.in_err-finish.field-0.0
    (omega (arith, len)) c.loop-number.invariant c.in_err-finish.ensures.fault in
    search (rules, there)

pub returns-clause-no_fault : goal.returns-clause-no_fault
returns-clause-no_fault c =
    let len = count-is c.args.text.now c.args.tokens.now c.requires.tokens in
    ends-well c.args.text.now c.loop-number.number c.loop-number.reader (omega (arith, len)) c.loop-number.invariant c.in_ok-finish.ensures.no_fault

pub returns-clause-kept : goal.returns-clause-kept
returns-clause-kept c =
    let len = count-is c.args.text.now c.args.tokens.now c.requires.tokens in
    contents-are c.args.text.now c.loop-number.number c.loop-number.reader (omega (arith, len)) c.loop-number.invariant c.in_ok-finish.ensures.no_fault

pub returns-clause-few : goal.returns-clause-few
returns-clause-few c =
    let len = count-is c.args.text.now c.args.tokens.now c.requires.tokens in
    let most = tokens-length c.args.text.now in
    let entries = c.loop-number.invariant.few_entries in
    let small = c.requires.small in
    omega (arith, len, most, entries, small)
