-- The faults of labels, one label after the other.
use Rattle.std.proofs.Common.{◌≡◌, ◌<◌, ℕ, suc, ◌+◌, Bool, true, false, ◌||◌, List, [], ◌∷◌, ◌++◌, length, take, drop, get_or, Option, Some, None, refl, sym, ap, ◌∙◌, arith, subst}
use Rattle.std.specs.Prelude.{reverse}
use Rattle.std.specs.Str.{bytes_eq}
use Rattle.std.proofs.lemmas.Slice.Eq.{bytes_eq-Decides}
use Rattle.std.proofs.lemmas.List.Folds.{list_any-append}
use Rattle.std.proofs.Math.Seq.{drop-cons, take-suc}
use Rattle.std.proofs.lemmas.List.{drop_all, get_or_default, length-reverse, length-take-le}
use Rattle.mm_model.specs.Faults.{Fault, fault, first_code, first_fault}
use Rattle.mm_model.specs.Names.{contains}
use Rattle.proof_model.specs.ProofCode.{label_rules, label_fault, index}
use Rattle.compressed_proof.specs.declared.fault.CodeFault.{CodeFault}
use Rattle.compressed_proof.specs.declared.fault.CodeFault.TheVariants as faults
use Rattle.compressed_proof.specs.Parts.{IsLabelFault, IsFaultAt}
use Rattle.compressed_proof.proofs.FaultLemmas.{first_code-skip, first_code-take, first_fault-later, first_fault-here}
use Rattle.compressed_proof.proofs.Reverses.{reverse_more, any_reversed}

-- ---- the names of a list

-- two lists have the same names
pub record SameNames (xs ys : List (List ℕ)) : Type 0 where
  pub same : (name : List ℕ) → contains xs name ≡ contains ys name

pub no_names : SameNames [] []
no_names = record { same = λ name. refl }

or_same : (a b : Bool) → (b ≡ true → a ≡ true) → a ≡ (a || (b || false))
or_same true b h = refl
or_same false true h = h refl
or_same false false h = refl

-- a name that is there already
pub same_kept : (xs ys : List (List ℕ)) (name : List ℕ) → contains xs name ≡ true → SameNames xs ys → SameNames xs (ys ++ name ∷ [])
same_kept xs ys name there h = record {
  same = λ other.
      let is_there : bytes_eq other name ≡ true → contains xs other ≡ true =
      λ (e : bytes_eq other name ≡ true). subst (λ (n : List ℕ). contains xs n ≡ true) (sym ((bytes_eq-Decides other name).0 e)) there in
      or_same (contains xs other) (bytes_eq other name) is_there ∙ ap (λ (t : Bool). t || (bytes_eq other name || false)) (h.same other) ∙ sym (list_any-append (bytes_eq other) ys (name ∷ []));
}

-- a name that is put in
pub same_added : (xs ys : List (List ℕ)) (name : List ℕ) → SameNames xs ys → SameNames (xs ++ name ∷ []) (ys ++ name ∷ [])
same_added xs ys name h = record {
  same = λ other. list_any-append (bytes_eq other) xs (name ∷ []) ∙ ap (λ (t : Bool). t || (bytes_eq other name || false)) (h.same other) ∙ sym (list_any-append (bytes_eq other) ys (name ∷ []));
}

pub same_more : (xs ys new : List (List ℕ)) (i : ℕ) (name : List ℕ) → i < length ys → name ≡ get_or ys i [] → SameNames new (take i ys ++ name ∷ []) → SameNames new (take (i + 1) ys)
same_more xs ys new i name inside e h =
    let one : i + 1 ≡ suc i = omega arith in
    subst (SameNames new) (ap (λ (n : List ℕ). take i ys ++ n ∷ []) e ∙ sym (take-suc ys i [] inside) ∙ ap (λ (k : ℕ). take k ys) (sym one)) h

-- ---- the rules

-- a label that is not there before, and is no mandatory hypothesis
fine : (mandatory before : List (List ℕ)) (label : List ℕ) → contains mandatory label ≡ false → contains before label ≡ false → first_code (label_rules mandatory) before label ≡ None
fine mandatory before label h k =
    first_code-skip 7 (λ b l. contains mandatory l) ((8, λ b l. contains b l) ∷ []) before label h
    ∙ first_code-skip 8 (λ b l. contains b l) [] before label k

listed : (mandatory before : List (List ℕ)) (label : List ℕ) → contains mandatory label ≡ true → first_code (label_rules mandatory) before label ≡ Some 7
listed mandatory before label h = first_code-take 7 (λ b l. contains mandatory l) ((8, λ b l. contains b l) ∷ []) before label h

twice : (mandatory before : List (List ℕ)) (label : List ℕ) → contains mandatory label ≡ false → contains before label ≡ true → first_code (label_rules mandatory) before label ≡ Some 8
twice mandatory before label h k =
    first_code-skip 7 (λ b l. contains mandatory l) ((8, λ b l. contains b l) ∷ []) before label h
    ∙ first_code-take 8 (λ b l. contains b l) [] before label k

-- what is left to look at from the label with this number on
abbrev pub left : List (List ℕ) → List (List ℕ) → ℕ → Option Fault
left mandatory labels i = first_fault index (label_rules mandatory) (reverse (take i labels)) (drop i labels)

-- the labels before this number are fine
pub record AreFine (mandatory labels : List (List ℕ)) (i : ℕ) : Type 0 where
  pub rest : left mandatory labels i ≡ label_fault mandatory labels

pub none_fine : (mandatory labels : List (List ℕ)) → AreFine mandatory labels 0
none_fine mandatory labels = record { rest = refl }

here : (mandatory labels : List (List ℕ)) (i : ℕ) → i < length labels
    → left mandatory labels i ≡ first_fault index (label_rules mandatory) (reverse (take i labels)) (get_or labels i [] ∷ drop (suc i) labels)
here mandatory labels i inside = ap (first_fault index (label_rules mandatory) (reverse (take i labels))) (drop-cons labels i [] inside)

pub more_fine : (mandatory labels : List (List ℕ)) (i : ℕ) → i < length labels → contains mandatory (get_or labels i []) ≡ false
    → contains (take i labels) (get_or labels i []) ≡ false → AreFine mandatory labels i → AreFine mandatory labels (i + 1)
more_fine mandatory labels i inside h k fine_so_far =
    let label = get_or labels i [] in
    let one : i + 1 ≡ suc i = omega arith in
    let k' : contains (reverse (take i labels)) label ≡ false = any_reversed (bytes_eq label) (take i labels) ∙ k in
    let on : first_fault index (label_rules mandatory) (reverse (take i labels)) (label ∷ drop (suc i) labels)
    ≡ first_fault index (label_rules mandatory) (label ∷ reverse (take i labels)) (drop (suc i) labels) =
    first_fault-later index (label_rules mandatory) (reverse (take i labels)) label (drop (suc i) labels) (fine mandatory (reverse (take i labels)) label h k') in
    let next : left mandatory labels (suc i) ≡ label_fault mandatory labels =
    ap (λ (b : List (List ℕ)). first_fault index (label_rules mandatory) b (drop (suc i) labels)) (reverse_more labels i [] inside) ∙ sym on
    ∙ sym (here mandatory labels i inside) ∙ fine_so_far.rest in
    record { rest = subst (λ (n : ℕ). left mandatory labels n ≡ label_fault mandatory labels) (sym one) next }

pub all_fine : (mandatory labels : List (List ℕ)) → AreFine mandatory labels (length labels) → label_fault mandatory labels ≡ None
all_fine mandatory labels h = sym h.rest ∙ ap (first_fault index (label_rules mandatory) (reverse (take (length labels) labels))) (drop_all (length labels) labels (omega arith))

-- ---- the fault of a label

place_is : (labels : List (List ℕ)) (i : ℕ) → i < length labels → length (reverse (take i labels)) ≡ i
place_is labels i inside = length-reverse (take i labels) ∙ length-take-le i labels (omega arith)

stops : (mandatory labels : List (List ℕ)) (i code : ℕ) → i < length labels → AreFine mandatory labels i
    → first_code (label_rules mandatory) (reverse (take i labels)) (get_or labels i []) ≡ Some code
    → label_fault mandatory labels ≡ Some (fault i code)
stops mandatory labels i code inside fine_so_far e =
    sym fine_so_far.rest ∙ here mandatory labels i inside
    ∙ first_fault-here index (label_rules mandatory) (reverse (take i labels)) (get_or labels i []) (drop (suc i) labels) code e
    ∙ ap (λ (n : ℕ). Some (fault n code)) (place_is labels i inside)

-- the label with number i has this fault, where those before it are fine
pub fault_there : (mandatory names labels before : List (List ℕ)) (i : ℕ) (label : List ℕ) (e : CodeFault) → i < length labels
    → SameNames names mandatory → before ≡ take i labels → label ≡ get_or labels i []
    → AreFine mandatory labels i → IsFaultAt names before i label e → IsLabelFault mandatory labels e
fault_there mandatory names labels before i label faults.Memory inside n b l h f = tt
fault_there mandatory names labels before i label (faults.MandatoryListed j m) inside n b l h f =
    let there : contains mandatory (get_or labels i []) ≡ true = sym (n.same (get_or labels i [])) ∙ ap (contains names) (sym l) ∙ f.2 in
    let at : label_fault mandatory labels ≡ Some (fault j 7) =
    stops mandatory labels i 7 inside h (listed mandatory (reverse (take i labels)) (get_or labels i []) there)
    ∙ ap (λ (k : ℕ). Some (fault k 7)) (sym f.0) in
    (at, f.1 ∙ l ∙ ap (λ (k : ℕ). get_or labels k []) (sym f.0))
fault_there mandatory names labels before i label (faults.LabelTwice j m) inside n b l h f =
    let this = get_or labels i [] in
    let free : contains mandatory this ≡ false = sym (n.same this) ∙ ap (contains names) (sym l) ∙ f.2 in
    let there : contains (reverse (take i labels)) this ≡ true =
    any_reversed (bytes_eq this) (take i labels) ∙ ap (λ (ls : List (List ℕ)). contains ls this) (sym b) ∙ ap (contains before) (sym l) ∙ f.3 in
    let at : label_fault mandatory labels ≡ Some (fault j 8) =
    stops mandatory labels i 8 inside h (twice mandatory (reverse (take i labels)) this free there)
    ∙ ap (λ (k : ℕ). Some (fault k 8)) (sym f.0) in
    (at, f.1 ∙ l ∙ ap (λ (k : ℕ). get_or labels k []) (sym f.0))
fault_there mandatory names labels before i label (faults.BadLetter j) inside n b l h f = f
fault_there mandatory names labels before i label (faults.NumberTooLarge j k) inside n b l h f = f
fault_there mandatory names labels before i label (faults.MarkAtStart j) inside n b l h f = f
fault_there mandatory names labels before i label (faults.MarkTwice j) inside n b l h f = f
fault_there mandatory names labels before i label (faults.UnendedNumber j) inside n b l h f = f
fault_there mandatory names labels before i label (faults.NoBracket j) inside n b l h f = f

-- ---- the same, as a loop over the items of a list reads them

the_item : (list : List (List ℕ)) (i : ℕ) (item name : List ℕ) → i < length list → name ≡ item → item ≡ get_or list i item → name ≡ get_or list i []
the_item list i item name inside e m = e ∙ m ∙ get_or_default list i item [] inside

pub same_put : (names new list : List (List ℕ)) (i : ℕ) (item name : List ℕ) → i < length list → new ≡ names ++ name ∷ [] → name ≡ item
    → item ≡ get_or list i item → SameNames names (take i list) → SameNames new (take (i + 1) list)
same_put names new list i item name inside n e m h =
    same_more names list new i name inside (the_item list i item name inside e m)
    (subst (λ (l : List (List ℕ)). SameNames l (take i list ++ name ∷ [])) (sym n) (same_added names (take i list) name h))

pub same_there : (names new list : List (List ℕ)) (i : ℕ) (item name : List ℕ) → i < length list → new ≡ names → name ≡ item
    → item ≡ get_or list i item → contains names name ≡ true → SameNames names (take i list) → SameNames new (take (i + 1) list)
same_there names new list i item name inside n e m there h =
    same_more names list new i name inside (the_item list i item name inside e m)
    (subst (λ (l : List (List ℕ)). SameNames l (take i list ++ name ∷ [])) (sym n) (same_kept names (take i list) name there h))

pub before_put : (before new labels : List (List ℕ)) (i : ℕ) (item label : List ℕ) → i < length labels → new ≡ before ++ label ∷ []
    → before ≡ take i labels → label ≡ item → item ≡ get_or labels i item → new ≡ take (i + 1) labels
before_put before new labels i item label inside n b e m =
    let one : suc i ≡ i + 1 = omega arith in
    n ∙ ap (λ (l : List (List ℕ)). l ++ label ∷ []) b ∙ ap (λ (l : List ℕ). take i labels ++ l ∷ []) (the_item labels i item label inside e m)
    ∙ sym (take-suc labels i [] inside) ∙ ap (λ (k : ℕ). take k labels) one

pub fine_put : (mandatory names labels before : List (List ℕ)) (i : ℕ) (item label : List ℕ) → i < length labels → SameNames names mandatory
    → before ≡ take i labels → label ≡ item → item ≡ get_or labels i item
    → (contains names label ≡ false) × (contains before label ≡ false) → AreFine mandatory labels i → AreFine mandatory labels (i + 1)
fine_put mandatory names labels before i item label inside n b e m free h =
    let is : label ≡ get_or labels i [] = the_item labels i item label inside e m in
    let free_label : contains mandatory (get_or labels i []) ≡ false = ap (contains mandatory) (sym is) ∙ sym (n.same label) ∙ free.0 in
    let new_label : contains (take i labels) (get_or labels i []) ≡ false = ap (contains (take i labels)) (sym is) ∙ ap (λ (l : List (List ℕ)). contains l label) (sym b) ∙ free.1 in
    more_fine mandatory labels i inside free_label new_label h

pub fault_put : (mandatory names labels before : List (List ℕ)) (i : ℕ) (item label : List ℕ) (e : CodeFault) → i < length labels
    → SameNames names mandatory → before ≡ take i labels → label ≡ item → item ≡ get_or labels i item
    → AreFine mandatory labels i → IsFaultAt names before i label e → IsLabelFault mandatory labels e
fault_put mandatory names labels before i item label fault inside n b e m h f = fault_there mandatory names labels before i label fault inside n b (the_item labels i item label inside e m) h f
