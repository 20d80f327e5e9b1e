-- The steps of a proof that is given as a tree or as a list of labels.
use Rattle.std.specs.Prelude.{ℕ, Bool, not, ◌&&◌, ◌==◌, nat_le, List, [], ◌∷◌, ◌++◌, length, map, flat_map, fold, unwrap_or, count_by, if◌then◌else◌, Option, Some, None, false, codes}
use Rattle.std.specs.List.{list_any}
use Rattle.std.specs.Str.{bytes_eq}
use Rattle.mm_model.specs.Frames.{without_repeats}
use Rattle.mm_model.specs.Names.{contains, first_number}
use Rattle.proof_model.specs.declared.code.What.{What}
use Rattle.proof_model.specs.declared.code.What.TheVariants as what
use Rattle.proof_model.specs.declared.code.Step.{Step}
use Rattle.proof_model.specs.declared.code.Code.{Code}
use Rattle.proof_model.specs.Proofs.{Proof, Proofs, by, none, next, postorder, same_proof, subproofs, children}

abbrev pub step : What → Bool → Step
step w marked = record { what = w; marked = marked }

-- ---- labels by number

abbrev pub number_in : List (List ℕ) → List ℕ → ℕ
number_in names name = unwrap_or (first_number (bytes_eq name) names) 0

-- a mandatory hypothesis by its number, and else one of these labels by its number
abbrev pub what_of : List (List ℕ) → List (List ℕ) → List ℕ → What
what_of mandatory labels name = if contains mandatory name then what.Hyp (number_in mandatory name) else what.Listed (number_in labels name)

-- ---- normal proofs

-- a label `?` is a step that is not proved yet
abbrev pub normal_step : List (List ℕ) → List (List ℕ) → List ℕ → Step
normal_step mandatory labels label = step (if bytes_eq label (codes "?") then what.Unknown else what_of mandatory labels label) false

-- the labels that are neither a mandatory hypothesis nor `?`, in order of first use
abbrev pub other_labels : List (List ℕ) → List (List ℕ) → List (List ℕ)
other_labels mandatory labels = without_repeats (codes "?" ∷ mandatory) labels

-- the code of a normal proof: one unmarked step for each label
abbrev pub normal_code : List (List ℕ) → List (List ℕ) → Code
normal_code mandatory labels = record { labels = other_labels mandatory labels; steps = map (normal_step mandatory (other_labels mandatory labels)) labels }

-- ---- the compressed form of a proof

-- each proof once, where it stands first
abbrev pub distinct_proofs : List Proof → List Proof
distinct_proofs ps = fold (λ seen p. if list_any (same_proof p) seen then seen else seen ++ p ∷ []) [] ps

-- the argument places of a proof's distinct subproofs
abbrev pub argument_places : Proof → List Proof
argument_places p = flat_map children (distinct_proofs (subproofs p))

-- a subproof is marked where its label takes hypotheses and it stands at two or more of these places
abbrev pub is_marked : List Proof → Proof → Bool
is_marked places q = not (length (children q) == 0) && nat_le 2 (count_by (same_proof q) places)

-- the labels in the brackets: those that are no mandatory hypothesis, in order of first use
abbrev pub listed_labels : List (List ℕ) → Proof → List (List ℕ)
listed_labels mandatory p = without_repeats mandatory (postorder p)

-- the steps so far, and the subproofs that were marked, in order
pub record Coding : Type 0 where
  pub steps : List Step
  pub marked : List Proof

abbrev pub with_label : Proof → Bool → What → Coding → Coding
with_label p mark w c = record { steps = c.steps ++ step w mark ∷ []; marked = if mark then c.marked ++ p ∷ [] else c.marked }

abbrev pub with_again : ℕ → Coding → Coding
with_again k c = record { steps = c.steps ++ step (what.Again k) false ∷ []; marked = c.marked }

abbrev pub again_or : Option ℕ → Coding → (Coding → Coding) → Coding
again_or (Some k) c rest = with_again k c
again_or None c rest = rest c

module _ (mandatory labels : List (List ℕ)) (places : List Proof) where
  -- a subproof that was marked before is one step; else its label stands behind the steps of its hypotheses
  abbrev mutual
    pub coded : Proof → Coding → Coding
    coded (by label below) c = again_or (first_number (same_proof (by label below)) c.marked) c
        (λ d. with_label (by label below) (is_marked places (by label below)) (what_of mandatory labels label) (coded_all below d))

    pub coded_all : Proofs → Coding → Coding
    coded_all none c = c
    coded_all (next p ps) c = coded_all ps (coded p c)

-- the compressed code of a proof
abbrev pub code_of_proof : List (List ℕ) → Proof → Code
code_of_proof mandatory p =
    record { labels = listed_labels mandatory p; steps = (coded mandatory (listed_labels mandatory p) (argument_places p) p (record { steps = []; marked = [] })).steps }
