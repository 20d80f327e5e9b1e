-- Proofs on the stack machine, computed.
use Rattle.std.specs.Prelude.{◌≡◌, ℕ, true, false, List, [], ◌∷◌, ◌++◌, Option, Some, None, Ok, codes, map, refl}
use Rattle.std.proofs.lemmas.Bool.{ltb-true}
use Rattle.mm_base.specs.declared.symbols.Pair.{Pair}
use Rattle.mm_model.specs.declared.frames.Hyp.{Hyp}
use Rattle.proof_model.specs.declared.code.What.TheVariants as what
use Rattle.proof_model.specs.declared.code.Code.{Code}
use Rattle.proof_model.specs.declared.theorem.Theorem.{Theorem}
use Rattle.proof_model.specs.Machine.{Frames, MachineFault, underflow, type_differs, hyp_differs, shared, not_distinct, not_earlier, left_over}
use Rattle.proof_model.specs.Machine.{result_differs, unknown, machine_code, substituted, proof_fault, Accepts, stack_after}
use Rattle.proof_model.specs.Proofs.{postorder}
use Rattle.proof_model.specs.Codes.{step, normal_code, code_of_proof}
use Rattle.proof_model.specs.ProofCode.{Spells, code_fault}
use Rattle.proof_model.specs.CodesExamples.{th1, r, id, u, syl, abid, dm}
use Rattle.proof_model.specs.ExampleFrames.{split, sym, formula, essential, pair, assertion, frames_of, demo, tt', tr, ts, logic, floats, wph, wps, wch}

-- a theorem behind all assertions: its formula, its `$e`, the labels of its mandatory hypotheses, and its pairs
abbrev theorem : List ℕ → List Hyp → List ℕ → List Pair → Theorem
theorem text hyps mandatory pairs = record { at = 50; formula = formula text; hyps = floats ++ hyps; mandatory = split mandatory; pairs = pairs }

-- the code of a normal proof of the theorem
abbrev listed : Theorem → List ℕ → Code
listed thm labels = normal_code thm.mandatory (split labels)

-- the fault of a normal proof of the theorem
abbrev listed_fault : Frames → Theorem → List ℕ → Option (ℕ × MachineFault)
listed_fault frames thm labels = proof_fault frames thm (listed thm labels)

-- ---- accepted, as a compressed and as a normal proof

abbrev r_theorem : Theorem
r_theorem = theorem (codes "|- ps") (essential (codes "r.1") (codes "|- ph") ∷ essential (codes "r.2") (codes "|- ( ph -> ps )") ∷ []) (codes "wph wps r.1 r.2") []

pub r_accepted : Accepts logic r_theorem (code_of_proof r_theorem.mandatory r)
r_accepted = refl

pub r_normal_accepted : Accepts logic r_theorem (listed r_theorem (codes "wph wps r.1 r.2 ax-mp"))
r_normal_accepted = refl

-- the stack at the end
pub r_stack : stack_after logic r_theorem (listed r_theorem (codes "wph wps r.1 r.2 ax-mp")) ≡ Ok (formula (codes "|- ps") ∷ [])
r_stack = refl

abbrev th1_theorem : Theorem
th1_theorem = record { at = 17; formula = formula (codes "|- t = t"); hyps = tt' ∷ tr ∷ ts ∷ []; mandatory = codes "tt" ∷ []; pairs = [] }

pub th1_accepted : Accepts demo th1_theorem (code_of_proof th1_theorem.mandatory th1)
th1_accepted = refl

pub th1_normal_accepted : Accepts demo th1_theorem (normal_code th1_theorem.mandatory (postorder th1))
th1_normal_accepted = refl

abbrev id_theorem : Theorem
id_theorem = theorem (codes "|- ( ph -> ph )") [] (codes "wph") []

pub id_accepted : Accepts logic id_theorem (code_of_proof id_theorem.mandatory id)
id_accepted = refl

abbrev u_theorem : Theorem
u_theorem = theorem (codes "|- ( ps -> ph )") (essential (codes "u.1") (codes "|- ph") ∷ []) (codes "wph wps u.1") []

pub u_accepted : Accepts logic u_theorem (code_of_proof u_theorem.mandatory u)
u_accepted = refl

abbrev syl_theorem : Theorem
syl_theorem = theorem (codes "|- ( ph -> ch )") (essential (codes "syl.1") (codes "|- ( ph -> ps )")
    ∷ essential (codes "syl.2") (codes "|- ( ps -> ch )") ∷ []) (codes "wph wps wch syl.1 syl.2") []

pub syl_accepted : Accepts logic syl_theorem (code_of_proof syl_theorem.mandatory syl)
syl_accepted = refl

pub abid_accepted : Accepts logic (theorem (codes "|- { x | ph } = { x | ph }") [] (codes "wph vx") []) (code_of_proof (split (codes "wph vx")) abid)
abid_accepted = refl

abbrev dm_theorem : List Pair → Theorem
dm_theorem pairs = theorem (codes "|- ( ph -> ph )") [] (codes "wph") pairs

pub dm_accepted : Accepts logic (dm_theorem (pair (codes "ph") (codes "x") ∷ [])) (code_of_proof (codes "wph" ∷ []) dm)
dm_accepted = refl

-- ---- texts, from the database to the machine

abbrev good_theorem : Theorem
good_theorem = theorem (codes "|- ( ph -> ( ps -> ph ) )") [] (codes "wph wps") []

abbrev good : Code
good = record { labels = codes "ax-1" ∷ []; steps = step (what.Hyp 0) false ∷ step (what.Hyp 1) false ∷ step (what.Listed 0) false ∷ [] }

pub good_spelled : Spells (codes "( ax-1 ) ABC") good_theorem.mandatory good
good_spelled = record {
  bracketed = refl;
  labels = refl;
  steps = (
    codes "A",
    codes "BC",
    refl,
    record { front = codes "A"; what = (refl, refl); whole = refl },
    (
      codes "B",
      codes "C",
      refl,
      record { front = codes "B"; what = (refl, refl); whole = refl },
      (codes "C", [], refl, record { front = codes "C"; what = (refl, refl); whole = refl }, refl),
    ),
  );
  in_range = (ltb-true 0 2 refl, (ltb-true 1 2 refl, (ltb-true 0 1 refl, tt)));
}

pub good_accepted : Accepts logic good_theorem good
good_accepted = refl

-- `Z` before any step is a fault of the code
pub bad_code : code_fault (codes "( ) ZA") good_theorem.mandatory ≡ Some (record { place = 0; code = 3 })
bad_code = refl

-- another formula
pub wrong : listed_fault logic (theorem (codes "|- ( ph -> ( ph -> ph ) )") [] (codes "wph") []) (codes "wph wps ax-1") ≡ Some (3, result_differs)
wrong = refl

-- ---- the faults, each at least once

abbrev some_theorem : Theorem
some_theorem = theorem (codes "|- ph") (essential (codes "h.1") (codes "|- ph") ∷ essential (codes "h.2") (codes "|- ( ph -> ps )") ∷ []) (codes "wph h.1 h.2") []

abbrev faults : List (List ℕ) → List (Option (ℕ × MachineFault))
faults proofs = map (listed_fault logic some_theorem) proofs

-- 1: fewer entries than hypotheses
pub too_few : faults (codes "wi" ∷ codes "wph wi" ∷ codes "wph wps h.1 ax-mp" ∷ []) ≡ Some (0, underflow) ∷ Some (1, underflow) ∷ Some (3, underflow) ∷ []
too_few = refl

-- 2: a `|-` entry, and a class, for a wff
pub other_type : faults (codes "h.1 wps wi" ∷ codes "wph cA wi" ∷ []) ≡ Some (2, type_differs) ∷ Some (2, type_differs) ∷ []
other_type = refl

-- 3: the first `$e` entry that differs, with what was expected and what was found; 2 goes before it
pub other_hyp : faults (codes "wph wps h.2 h.2 ax-mp" ∷ codes "wph wps h.1 h.1 ax-mp" ∷ codes "h.1 wps h.2 h.2 ax-mp" ∷ [])
    ≡ Some (4, hyp_differs (formula (codes "|- ph")) (formula (codes "|- ( ph -> ps )")))
    ∷ Some (4, hyp_differs (formula (codes "|- ( ph -> ps )")) (formula (codes "|- ph"))) ∷ Some (4, type_differs) ∷ []
other_hyp = refl

-- 4: the substitutes of ph and x share x
pub clash : faults (codes "wph vx wal vx ax-5" ∷ []) ≡ Some (4, shared (sym (codes "ph")) (sym (codes "x")) (sym (codes "x"))) ∷ []
clash = refl

-- 5: ph and x are no pair of the theorem
pub no_pair : faults (codes "wph vx ax-5" ∷ []) ≡ Some (2, not_distinct (sym (codes "ph")) (sym (codes "x"))) ∷ []
no_pair = refl

pub dm_refused : proof_fault logic (dm_theorem []) (code_of_proof (codes "wph" ∷ []) dm) ≡ Some (4, not_distinct (sym (codes "ph")) (sym (codes "x")))
dm_refused = refl

-- 6: no such assertion, a `$e` of another assertion, and an assertion that is not before the place
pub no_assertion : faults (codes "wph nosuch" ∷ codes "min" ∷ []) ≡ Some (1, not_earlier) ∷ Some (0, not_earlier) ∷ []
no_assertion = refl

pub not_before : proof_fault logic (record good_theorem { at = 12 }) good ≡ Some (2, not_earlier)
not_before = refl

pub just_before : Accepts logic (record good_theorem { at = 13 }) good
just_before = refl

-- 7: at the end there are several entries, or none; the index is the number of steps
pub several : faults (codes "wph wps" ∷ [] ∷ []) ≡ Some (2, left_over 2) ∷ Some (0, left_over 0) ∷ []
several = refl

-- 8: at the end there is another formula
pub other_result : faults (codes "h.2" ∷ codes "wph" ∷ codes "h.1" ∷ []) ≡ Some (1, result_differs) ∷ Some (1, result_differs) ∷ None ∷ []
other_result = refl

-- 9: a step that is not proved yet
pub open_step : faults (codes "wph ? wi" ∷ codes "?" ∷ []) ≡ Some (1, unknown) ∷ Some (0, unknown) ∷ []
open_step = refl

-- the numbers of the faults
pub numbers : map machine_code
    (underflow ∷ type_differs ∷ hyp_differs [] [] ∷ shared (sym []) (sym []) (sym []) ∷ not_distinct (sym []) (sym []) ∷ not_earlier ∷ left_over 0
    ∷ result_differs ∷ unknown ∷ [])
    ≡ 1 ∷ 2 ∷ 3 ∷ 4 ∷ 5 ∷ 6 ∷ 7 ∷ 8 ∷ 9 ∷ []
numbers = refl

-- ---- pairs in their order

-- an assertion with the pairs ph ps, ph ch and ps ch
abbrev three_apart : List Pair
three_apart = pair (codes "ph") (codes "ps") ∷ pair (codes "ph") (codes "ch") ∷ pair (codes "ps") (codes "ch") ∷ []

abbrev apart_fault : List Pair → List ℕ → Option (ℕ × MachineFault)
apart_fault pairs labels =
    listed_fault (frames_of (assertion (codes "wi") 1 1 (codes "wff ( ph -> ps )") (wph ∷ wps ∷ []) []
    ∷ assertion (codes "apart") 2 2 (codes "|- ph") (wph ∷ wps ∷ wch ∷ []) three_apart ∷ [])) (theorem (codes "|- ph") [] [] pairs) labels

-- the first pair has no pair of the theorem, but a later one shares a variable: 4 goes before 5 for all pairs
pub four_first : apart_fault [] (codes "wph wps wps apart") ≡ Some (3, shared (sym (codes "ps")) (sym (codes "ch")) (sym (codes "ps")))
four_first = refl

-- of the variables that a pair shares, the one of the least number is told
pub least_shared : apart_fault [] (codes "wps wph wi wph wps wi wch apart") ≡ Some (7, shared (sym (codes "ph")) (sym (codes "ps")) (sym (codes "ph")))
least_shared = refl

-- of the variables of a pair that are no pair of the theorem, the least are told: by the number of the first, and then of the second
abbrev two_fault : List Pair → List ℕ → Option (ℕ × MachineFault)
two_fault pairs labels =
    listed_fault (frames_of (assertion (codes "wi") 1 1 (codes "wff ( ph -> ps )") (wph ∷ wps ∷ []) []
    ∷ assertion (codes "two") 2 2 (codes "|- ph") (wph ∷ wps ∷ []) (pair (codes "ph") (codes "ps") ∷ []) ∷ [])) (theorem (codes "|- ph") [] [] pairs) labels

pub least_lacking : map (λ pairs. two_fault pairs (codes "wch wph wi wps two")) ([] ∷ (pair (codes "ph") (codes "ps") ∷ [])
    ∷ (pair (codes "ph") (codes "ps") ∷ pair (codes "ps") (codes "ch") ∷ []) ∷ [])
    ≡ Some (4, not_distinct (sym (codes "ph")) (sym (codes "ps"))) ∷ Some (4, not_distinct (sym (codes "ch")) (sym (codes "ps"))) ∷ Some (5, result_differs) ∷ []
least_lacking = refl

-- the order in a pair of the theorem does not matter
pub either_order : apart_fault (pair (codes "ps") (codes "ph") ∷ pair (codes "ch") (codes "ph") ∷ pair (codes "ps") (codes "ch") ∷ []) (codes "wph wps wch apart") ≡ None
either_order = refl

-- ---- marks

abbrev wi_theorem : Theorem
wi_theorem = theorem (codes "wff ( ( ph -> ps ) -> ( ph -> ps ) )") [] (codes "wph wps") []

-- a marked step is named again
pub again : Accepts logic wi_theorem (record {
  labels = codes "wi" ∷ [];
  steps = step (what.Hyp 0) false ∷ step (what.Hyp 1) false ∷ step (what.Listed 0) true
      ∷ step (what.Again 0) false ∷ step (what.Listed 0) false ∷ [];
})
again = refl

-- ---- substitution

-- all variables at once
pub swapped : substituted ((wph, formula (codes "wff ( ps -> ch )")) ∷ (wps, formula (codes "wff ph")) ∷ []) (formula (codes "|- ( ph -> ps )"))
    ≡ formula (codes "|- ( ( ps -> ch ) -> ph )")
swapped = refl
