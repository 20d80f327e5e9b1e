-- The loop over the parts of a code.
use Rattle.std.proofs.Common.{◌≡◌, ℕ, ◌<◌, ◌-◌, Bool, true, false, cond, List, [], ◌∷◌, ◌++◌, length, position, Option, Some, None, is_some, refl, sym, ap, ◌∙◌, subst, arith}
use Rattle.std.proofs.lemmas.List.{length-replicate}
use Rattle.std.proofs.Math.ListN.{length-set}
use Rattle.std.specs.Prelude.{replicate, slice_set}
use Rattle.std.specs.List.{AllByRecursion}
use Rattle.std.specs.Str.{bytes_eq}
use Rattle.mm_model.specs.Names.{Name}
use Rattle.mm_model.specs.Frames.{without_repeats}
use Rattle.std.proofs.Common.{map}
use Rattle.proof_model.specs.declared.code.Code.{Code}
use Rattle.proof_model.specs.declared.code.Step.{Step}
use Rattle.proof_model.specs.Codes.{argument_places, listed_labels, code_of_proof, coded}
use Rattle.proof_tree.specs.declared.graph.ProofNode.{ProofNode}
use Rattle.proof_tree.specs.declared.order.Part.{Part}
use Rattle.proof_tree.specs.declared.order.Part.TheVariants as part
use Rattle.proof_tree.specs.declared.coding.Coder.{Coder}
use Rattle.proof_tree.specs.Graphs.{IsGraph, root_proof}
use Rattle.proof_tree.specs.Walks.{IsOrder, AreUses, below_of, parts_of, parts_unless}
use Rattle.proof_tree.specs.Given.{item_at}
use Rattle.proof_tree.specs.Coding.{ArePlaces, Begins, Ends, is_shared, label_of, place_in, put_mark, what_by}
use Rattle.proof_tree.proofs.GraphLaws.{all_append, append_none}
use Rattle.proof_tree.proofs.PartLaws.{IsPart, last_part, rest_parts, parts_inside}
use Rattle.proof_tree.proofs.NameLaws.{what_is, listed_is, last_label}
use Rattle.proof_tree.proofs.CodeLaws.{IsCodingAt, coding_begun, coding_at_first, coding_begins, coding_ends, coding_done, shared_is, labels_of_order}

-- what the loop is over, for these mandatory hypotheses
pub record IsAbout (nodes : List ProofNode) (uses : List ℕ) (names : List Name) (numbers : List ℕ) (labels list : List Name) (order : List ℕ) : Type 0 where
  pub mandatory : ArePlaces list names numbers
  pub order_is : IsOrder nodes order
  pub uses_are : AreUses nodes order uses
  pub labels_are : labels ≡ listed_labels list (root_proof nodes)

-- the parts are nodes, each node has a place for its mark, and for all mandatory hypotheses the steps so far are those of the code
pub record CodesSoFar (nodes : List ProofNode) (uses : List ℕ) (names : List Name) (numbers : List ℕ) (labels : List Name) (pending : List Part) (d : Coder) : Type 0 where
  pub parts : AllByRecursion (IsPart nodes) pending
  pub many : length d.marks.items ≡ length nodes
  pub codes : (graph : IsGraph nodes) (list : List Name) (order : List ℕ) → IsAbout nodes uses names numbers labels list order
      → IsCodingAt nodes graph list labels (argument_places (root_proof nodes)) pending d

pub steps_begun : (nodes : List ProofNode) (uses : List ℕ) (names : List Name) (numbers : List ℕ) (labels : List Name) (pending : List Part) (n : ℕ)
    (d : Coder)
    → IsGraph nodes → pending ≡ part.Proof n ∷ [] → n ≡ length nodes - 1
    → (d.steps.items ≡ []) × (d.marks.items ≡ replicate (length nodes) None) × (d.count ≡ 0) → CodesSoFar nodes uses names numbers labels pending d
steps_begun nodes uses names numbers labels pending n d graph p last e =
    let some = graph.some in
    record {
      parts = subst (AllByRecursion (IsPart nodes)) (sym p) (omega (arith, last, some), tt);
      many = ap length e.1 ∙ length-replicate (length nodes) None;
      codes = λ g list order about. coding_at_first nodes g list labels (argument_places (root_proof nodes)) pending n d p last (coding_begun nodes g d e.0 e.1 e.2);
    }

parts_case : (nodes : List ProofNode) (rest now : List Part) (n : ℕ) (b : Bool) → IsGraph nodes → n < length nodes
    → AllByRecursion (IsPart nodes) rest → now ≡ rest ++ parts_unless b n (below_of nodes n) → AllByRecursion (IsPart nodes) now
parts_case nodes rest now n true graph inside all is = subst (AllByRecursion (IsPart nodes)) (sym (is ∙ append_none rest)) all
parts_case nodes rest now n false graph inside all is =
    subst (AllByRecursion (IsPart nodes)) (sym is) (all_append (IsPart nodes) rest (parts_of n (below_of nodes n)) all (parts_inside nodes n inside graph.earlier))

pub steps_begin : (nodes : List ProofNode) (uses : List ℕ) (names : List Name) (numbers : List ℕ) (labels : List Name) (pending rest now : List Part)
    (n : ℕ) (d e : Coder)
    → IsGraph nodes → pending ≡ rest ++ part.Proof n ∷ []
    → Begins nodes n d e rest now → CodesSoFar nodes uses names numbers labels pending d → CodesSoFar nodes uses names numbers labels now e
steps_begin nodes uses names numbers labels pending rest now n d e graph p s a = record {
  parts =
      parts_case nodes rest now n (is_some (item_at d.marks.items n)) graph (last_part nodes pending rest (part.Proof n) p a.parts)
      (rest_parts nodes pending rest (part.Proof n) p a.parts) s.parts;
  many = ap length s.marks ∙ a.many;
  codes = λ g list order about. coding_begins nodes g list labels (argument_places (root_proof nodes)) pending rest now n d e p s (a.codes g list order about);
}

marks_case : (b : Bool) (ms : List (Option ℕ)) (n k : ℕ) → length (cond b (put_mark ms n k) ms) ≡ length ms
marks_case false ms n k = refl
marks_case true ms n k = by (is_some (item_at ms n))
  where
    by : (b : Bool) → length (cond b ms (slice_set ms n (Some k))) ≡ length ms
    by true = refl
    by false = length-set ms n (Some k)

pub steps_end : (nodes : List ProofNode) (uses : List ℕ) (names : List Name) (numbers : List ℕ) (labels : List Name) (pending rest : List Part)
    (n : ℕ) (d e : Coder)
    → IsGraph nodes → pending ≡ rest ++ part.Label n ∷ []
    → Ends n (what_by (place_in names numbers (label_of nodes n)) (position (bytes_eq (label_of nodes n)) labels)) (is_shared nodes uses n) d e
    → CodesSoFar nodes uses names numbers labels pending d → CodesSoFar nodes uses names numbers labels rest e
steps_end nodes uses names numbers labels pending rest n d e graph p s a =
    let inside : n < length nodes = last_part nodes pending rest (part.Label n) p a.parts in
    record {
      parts = rest_parts nodes pending rest (part.Label n) p a.parts;
      many = ap length s.marks ∙ marks_case (is_shared nodes uses n) d.marks.items n d.count ∙ a.many;
      codes = λ g list order about.
          coding_ends nodes g list labels (argument_places (root_proof nodes)) pending rest n
          (what_by (place_in names numbers (label_of nodes n)) (position (bytes_eq (label_of nodes n)) labels)) (is_shared nodes uses n) d e p
          (shared_is nodes g order uses n inside about.order_is about.uses_are) (what_is list names labels numbers (label_of nodes n) about.mandatory) s (a.codes g list order about);
    }

pub steps_done : (nodes : List ProofNode) (uses : List ℕ) (names : List Name) (numbers : List ℕ) (labels : List Name) (pending : List Part)
    (d : Coder)
    → IsGraph nodes → pending ≡ [] → CodesSoFar nodes uses names numbers labels pending d
    → (list : List Name) (order : List ℕ) → ArePlaces list names numbers → IsOrder nodes order → AreUses nodes order uses
    → labels ≡ listed_labels list (root_proof nodes) → d.steps.items ≡ (code_of_proof list (root_proof nodes)).steps
steps_done nodes uses names numbers labels pending d graph p a list order m o u l =
    coding_done nodes graph list labels (argument_places (root_proof nodes)) pending d p (a.codes graph list order (record { mandatory = m; order_is = o; uses_are = u; labels_are = l }))
    ∙ ap (λ ls. (coded list ls (argument_places (root_proof nodes)) (root_proof nodes) (record { steps = []; marked = [] })).steps) l

-- the labels of the nodes in order are those of the code
pub other_labels_are : (nodes : List ProofNode) (order : List ℕ) (labels list : List Name) → IsGraph nodes → IsOrder nodes order
    → labels ≡ without_repeats list (map (label_of nodes) order) → labels ≡ listed_labels list (root_proof nodes)
other_labels_are nodes order labels list graph o is =
    is ∙ ap (without_repeats list) (sym (labels_of_order nodes graph order o.inside) ∙ ap (map last_label) o.proofs_are) ∙ sym (listed_is list (root_proof nodes))

abbrev coded_as : List Name → List Step → Code
coded_as labels steps = record { labels = labels; steps = steps }

pub code_is : (nodes : List ProofNode) (list labels written : List Name) (steps : List Step) → written ≡ labels
    → labels ≡ listed_labels list (root_proof nodes) → steps ≡ (code_of_proof list (root_proof nodes)).steps
    → coded_as written steps ≡ code_of_proof list (root_proof nodes)
code_is nodes list labels written steps w l s = ap (λ ls. coded_as ls steps) (w ∙ l) ∙ ap (coded_as (listed_labels list (root_proof nodes))) s
