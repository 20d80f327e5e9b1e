-- No value is too long where no formula up to its step is.
use Rattle.std.specs.Prelude.{◌≡◌, ◌≤◌, ℕ, List, [], ◌∷◌, map, Contains, Some, refl}
use Rattle.std.specs.List.{AllByRecursion}
use Rattle.std.proofs.Common.{arith}
use Rattle.mm_base.specs.declared.kinds.Kinds.{Kinds}
use Rattle.mm_base.specs.declared.symbols.Label.{Label}
use Rattle.mm_base.specs.declared.tree.Tree.{Tree}
use Rattle.mm_model.specs.Book.{Database}
use Rattle.sheet_text.specs.Layout.{step_names}
use Rattle.solve_model.specs.Solutions.{Asked, formula}
use Rattle.solve_model.specs.Verdicts.{accepted_in}
use Rattle.solve_laws.specs.Instances.{IsClosed}
use Rattle.solve_laws.proofs.Elements.{first, later}
use Rattle.term_model.specs.Sizes.{tokens}
use Rattle.written_model.specs.Opened.{IsOpened}
use Rattle.again_laws.specs.Whole.{AssertionsAreWhole}
use Rattle.again_laws.proofs.Lists.{all_of, all_from}
use Rattle.step_chain.specs.Held.{judgements_of}
use Rattle.step_chain.specs.Values.{value_of}
use Rattle.step_chain.specs.Answers.{IsShort, constants_of}
use Rattle.filling_laws.specs.Counted.{AcceptedAreCandidates}
use Rattle.filling_laws.specs.Values.{ValuesAreShort}
use Rattle.filling_laws.proofs.ValueFronts.{formulas_stand}
use Rattle.filling_laws.proofs.ValueSizes.{value_few}

few_of : (c : Label → ℕ) (t : Tree) → IsShort c t → tokens c t ≤ 4095
few_of c t h = omega (arith, h)

short_of : (c : Label → ℕ) (t : Tree) → tokens c t ≤ 4095 → IsShort c t
short_of c t h = omega (arith, h)

all_mapped : {X : Type 0} (P : Tree → Type 0) (f : X → Tree) (xs : List X) → ((x : X) → Contains xs x → P (f x)) → AllByRecursion P (map f xs)
all_mapped P f [] h = tt
all_mapped P f (x ∷ xs) h = (h x (first x x xs refl), all_mapped P f xs (λ y m. h y (later y x xs m)))

-- the assertions of candidates have no open leaf
all_closed : (kinds : Kinds) (db : Database) → AssertionsAreWhole → IsOpened kinds db → (asked : List Asked)
    → ((x : Asked) → Contains asked x → db.usable x.assertion.label ≡ Some x.assertion) → AllByRecursion IsClosed asked
all_closed kinds db whole opened xs usable = all_from IsClosed xs (λ x m. let is = whole kinds db x.assertion.label x.assertion opened (usable x m) in (is.closed, is.hyps_closed))

pub values_are_short : AssertionsAreWhole → AcceptedAreCandidates → ValuesAreShort
values_are_short whole candidates h s kinds text sheet opened binds logic judged earlier long =
    let c = constants_of h in
    let g = value_of h in
    let judgements = judgements_of h in
    let front = long.front in
    let short = long.short kinds text sheet opened binds logic in
    let value = long.value kinds text sheet opened binds logic in
    let y = value.long.0 in
    let are = candidates h kinds text sheet opened binds logic judged in
    let closed =
    all_closed kinds _ whole (record { text = text; sound = opened.no_fault; is_database = opened.database }) (accepted_in judgements)
    (λ x m. (all_of _ (accepted_in judgements) x are m).usable) in
    let stand = formulas_stand (step_names s) h.bound g judgements front in
    value.long.2 (all_mapped (IsShort c) _ y.assertion.vars (λ v m. short_of c _
    (value_few c 4095 (omega arith) _ h.bound judgements g judged.judged judged.most_general closed earlier _ y value.long.1 (few_of c _ value.own)
    (λ j less. few_of c _ (all_of (IsShort c) _ (formula h.bound g j) short (stand j less))) v m)))
