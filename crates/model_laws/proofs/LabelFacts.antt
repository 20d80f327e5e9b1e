-- Labels differ, their positions rise, and symbols differ.
use Rattle.std.proofs.Common.{◌≡◌, ◌<◌, ◌≤◌, ◌+◌, ℕ, zero, suc, true, false, List, [], ◌∷◌, ◌++◌, length, map, reverse, Some, None, refl, sym, ap}
use Rattle.std.proofs.Common.{◌∙◌, arith, subst, inl, inr, flat_map}
use Rattle.std.specs.List.{AllByRecursion, slice_get}
use Rattle.std.specs.Str.{bytes_eq}
use Rattle.std.proofs.lemmas.Bool.{cases_Bool, or_left, or_right}
use Rattle.std.proofs.lemmas.Grind.{flat_map-append}
use Rattle.std.proofs.lemmas.List.{map-append, reverse-append, append-nil, length-map, length-append}
use Rattle.mm_model.specs.Names.{Name}
use Rattle.mm_model.specs.Words.{Word}
use Rattle.mm_model.specs.Statements.{Statement, labels_in, labels, contains, statements, statement_fault}
use Rattle.mm_model.specs.Frames.{without_repeats, symbols, positions_from, positions}
use Rattle.mm_model.specs.BookFacts.{NamesDiffer, Rise}
use Rattle.model_laws.proofs.Checked.{EachBefore, IsChecked, last_first, text_checked, reverse-cons}
use Rattle.model_laws.proofs.Shapes.{LabelIsNew, label_is_new}
use Rattle.model_laws.proofs.Listed.{all_push, Pairwise, pairwise-reverse, Unlike, all_unlike, names_differ, name_self}

abbrev names_of : List Word → List Name
names_of ws = map (λ (w : Word). w.bytes) ws

labels-cons : (s : Statement) (e : List Statement) → labels (s ∷ e) ≡ names_of (labels_in s) ++ labels e
labels-cons s e = map-append (λ (w : Word). w.bytes) (labels_in s) (flat_map labels_in e)

-- no more than one
abbrev Short : List Word → Type 0
Short [] = Unit {0}
Short (l ∷ []) = Unit {0}
Short (l ∷ m ∷ ls) = ⊥

short : (e : List Statement) (ls : List Word) → LabelIsNew e ls → Short ls
short e [] h = tt
short e (l ∷ []) h = tt
short e (l ∷ m ∷ ls) h = h

add_labels : (e : List Statement) (ls : List Word) → LabelIsNew e ls → Pairwise Unlike (labels e) → Pairwise Unlike (names_of ls ++ labels e)
add_labels e [] h rest = rest
add_labels e (l ∷ []) h rest = (all_unlike (labels e) l.bytes h, rest)
add_labels e (l ∷ m ∷ ls) h rest = absurd h

labels_apart : (e : List Statement) → EachBefore IsChecked e → Pairwise Unlike (labels e)
labels_apart [] h = tt
labels_apart (s ∷ e) h = subst (Pairwise Unlike) (sym (labels-cons s e)) (add_labels e (labels_in s) (label_is_new e s h.0) (labels_apart e h.1))

all_short : (e : List Statement) → EachBefore IsChecked e → AllByRecursion (λ s. Short (labels_in s)) (reverse e)
all_short [] h = tt
all_short (s ∷ e) h =
    subst (AllByRecursion (λ s. Short (labels_in s))) (sym (reverse-cons s e))
    (all_push (λ s. Short (labels_in s)) (reverse e) s (all_short e h.1) (short e (labels_in s) (label_is_new e s h.0)))

one_turned : (ls : List Word) → Short ls → reverse (names_of ls) ≡ names_of ls
one_turned [] h = refl
one_turned (l ∷ []) h = refl
one_turned (l ∷ m ∷ ls) h = absurd h

labels-append : (xs ys : List Statement) → labels (xs ++ ys) ≡ labels xs ++ labels ys
labels-append xs ys = ap names_of (flat_map-append labels_in xs ys) ∙ map-append (λ (w : Word). w.bytes) (flat_map labels_in xs) (flat_map labels_in ys)

labels-reverse : (e : List Statement) → EachBefore IsChecked e → labels (reverse e) ≡ reverse (labels e)
labels-reverse [] h = refl
labels-reverse (s ∷ e) h =
    let turned = one_turned (labels_in s) (short e (labels_in s) (label_is_new e s h.0)) in
    let one : labels (s ∷ []) ≡ reverse (names_of (labels_in s)) = labels-cons s [] ∙ append-nil (names_of (labels_in s)) ∙ sym turned in
    ap labels (reverse-cons s e) ∙ labels-append (reverse e) (s ∷ []) ∙ ap (λ x. x ++ labels (s ∷ [])) (labels-reverse e h.1) ∙ ap (λ x. reverse (labels e) ++ x) one
    ∙ sym (reverse-append (names_of (labels_in s)) (labels e)) ∙ ap (λ x. reverse x) (sym (labels-cons s e))

pub labels_differ : (text : List ℕ) → statement_fault text ≡ None → NamesDiffer (labels (statements text))
labels_differ text ok =
    let each = text_checked text ok in
    let e = last_first text in
    subst NamesDiffer (sym (labels-reverse e each)) (names_differ (reverse (labels e)) (pairwise-reverse Unlike (λ a b r s. r (sym s)) (labels e) (labels_apart e each)))

-- ---- positions

abbrev From : ℕ → List ℕ → Type 0
From at ns = AllByRecursion (λ n. at ≤ n) ns

from_less : (at : ℕ) (ns : List ℕ) → From (suc at) ns → From at ns
from_less at [] h = tt
from_less at (n ∷ ns) h = (omega (arith, h.0), from_less at ns h.1)

add_from : (at : ℕ) (ls : List Word) (ns : List ℕ) → From (suc at) ns → From at (map (λ (w : Word). at) ls ++ ns)
add_from at [] ns h = from_less at ns h
add_from at (l ∷ ls) ns h = (omega arith, add_from at ls ns h)

positions_above : (at : ℕ) (ss : List Statement) → From at (positions_from at ss)
positions_above at [] = tt
positions_above at (s ∷ ss) = add_from at (labels_in s) (positions_from (suc at) ss) (positions_above (suc at) ss)

abbrev Less : ℕ → ℕ → Type 0
Less a b = a < b

above_less : (at : ℕ) (ns : List ℕ) → From (suc at) ns → AllByRecursion (Less at) ns
above_less at [] h = tt
above_less at (n ∷ ns) h = (omega (arith, h.0), above_less at ns h.1)

add_position : (at : ℕ) (ls : List Word) (ns : List ℕ) → Short ls → From (suc at) ns → Pairwise Less ns → Pairwise Less (map (λ (w : Word). at) ls ++ ns)
add_position at [] ns h above rest = rest
add_position at (l ∷ []) ns h above rest = (above_less at ns above, rest)
add_position at (l ∷ m ∷ ls) ns h above rest = absurd h

positions_rise_from : (at : ℕ) (ss : List Statement) → AllByRecursion (λ s. Short (labels_in s)) ss → Pairwise Less (positions_from at ss)
positions_rise_from at [] h = tt
positions_rise_from at (s ∷ ss) h = add_position at (labels_in s) (positions_from (suc at) ss) h.0 (positions_above (suc at) ss) (positions_rise_from (suc at) ss h.1)

at_less : (a : ℕ) (ns : List ℕ) (k b : ℕ) → AllByRecursion (Less a) ns → slice_get ns k ≡ Some b → a < b
at_less a [] k b h e = absurd cc
at_less a (n ∷ ns) zero b h e = let same : n ≡ b = cc in subst (λ (x : ℕ). a < x) same h.0
at_less a (n ∷ ns) (suc k) b h e = at_less a ns k b h.1 e

rise : (ns : List ℕ) → Pairwise Less ns → Rise ns
rise [] h i j a b e f l = absurd cc
rise (n ∷ ns) h zero zero a b e f l = let bad : ⊥ = omega (arith, l) in absurd bad
rise (n ∷ ns) h zero (suc j) a b e f l = let same : n ≡ a = cc in subst (λ (x : ℕ). x < b) same (at_less n ns j b h.0 f)
rise (n ∷ ns) h (suc i) zero a b e f l = let bad : ⊥ = omega (arith, l) in absurd bad
rise (n ∷ ns) h (suc i) (suc j) a b e f l = rise ns h.1 i j a b e f (omega (arith, l))

pub positions_rise : (text : List ℕ) → statement_fault text ≡ None → Rise (positions (statements text))
positions_rise text ok = rise (positions (statements text)) (positions_rise_from 0 (statements text) (all_short (last_first text) (text_checked text ok)))

positions-length : (at : ℕ) (ss : List Statement) → length (positions_from at ss) ≡ length (labels ss)
positions-length at [] = refl
positions-length at (s ∷ ss) =
    length-append (map (λ (w : Word). at) (labels_in s)) (positions_from (suc at) ss)
    ∙ ap (λ (n : ℕ). n + length (positions_from (suc at) ss)) (length-map (labels_in s) (λ (w : Word). at) ∙ sym (length-map (labels_in s) (λ (w : Word). w.bytes)))
    ∙ ap (λ (n : ℕ). length (names_of (labels_in s)) + n) (positions-length (suc at) ss)
    ∙ sym (length-append (names_of (labels_in s)) (labels ss)) ∙ ap (λ (x : List Name). length x) (sym (labels-cons s ss))

-- each label has a position
pub positions_are : (ss : List Statement) → length (positions ss) ≡ length (labels ss)
positions_are ss = positions-length 0 ss

-- ---- symbols

not_seen : (seen ns : List Name) (n : Name) → contains seen n ≡ true → AllByRecursion (Unlike n) (without_repeats seen ns)
not_seen seen [] n e = tt
not_seen seen (x ∷ ns) n e = elim (cases_Bool (contains seen x)) [
  | inl d ↦ rw d (not_seen seen ns n e)
  | inr d ↦ rw d ((λ same. let bad : true ≡ false = sym e ∙ ap (contains seen) same ∙ d in absurd cc), not_seen (x ∷ seen) ns n (or_right (bytes_eq n x) (contains seen n) e))
]

apart_names : (seen ns : List Name) → Pairwise Unlike (without_repeats seen ns)
apart_names seen [] = tt
apart_names seen (x ∷ ns) = elim (cases_Bool (contains seen x)) [
  | inl d ↦ rw d (apart_names seen ns)
  | inr d ↦ rw d (not_seen (x ∷ seen) ns x (or_left (bytes_eq x x) (contains seen x) (name_self x)), apart_names (x ∷ seen) ns)
]

pub symbols_apart : (ss : List Statement) → Pairwise Unlike (symbols ss)
symbols_apart ss = apart_names [] _

pub symbols_differ : (ss : List Statement) → NamesDiffer (symbols ss)
symbols_differ ss = names_differ (symbols ss) (symbols_apart ss)
