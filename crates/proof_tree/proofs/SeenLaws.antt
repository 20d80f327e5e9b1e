-- Each subproof once, where it stands first.
use Rattle.std.proofs.Common.{◌≡◌, ℕ, ◌⊎◌, inl, inr, Bool, true, false, ◌||◌, cond, List, [], ◌∷◌, ◌++◌, fold, refl, sym, ap, ◌∙◌, subst}
use Rattle.std.specs.List.{list_any}
use Rattle.proof_model.specs.Proofs.{Proof, Proofs, by, none, next, same_proof, subproofs, subproofs_in}
use Rattle.proof_model.specs.Codes.{distinct_proofs}
use Rattle.proof_tree.specs.Walks.{see}
use Rattle.proof_tree.proofs.SameLaws.{same_sound, same_self}

-- ---- members

abbrev pub In : Proof → List Proof → Type 0
In q [] = ⊥
In q (x ∷ xs) = (q ≡ x) ⊎ In q xs

pub seen_in : (q : Proof) (xs : List Proof) → list_any (same_proof q) xs ≡ true → In q xs
seen_in q [] e = absurd cc
seen_in q (x ∷ xs) e = by (same_proof q x) refl (seen_in q xs) e
  where
    by : (b : Bool) → same_proof q x ≡ b → (list_any (same_proof q) xs ≡ true → In q xs) → (b || list_any (same_proof q) xs) ≡ true → In q (x ∷ xs)
    by true s r e = inl (same_sound q x s)
    by false s r e = inr (r e)

or_true : (a b : Bool) → b ≡ true → (a || b) ≡ true
or_true true b e = refl
or_true false b e = e

pub in_seen : (q : Proof) (xs : List Proof) → In q xs → list_any (same_proof q) xs ≡ true
in_seen q [] h = absurd h
in_seen q (x ∷ xs) (inl e) = ap (λ b. b || list_any (same_proof q) xs) (ap (same_proof q) (sym e) ∙ same_self q)
in_seen q (x ∷ xs) (inr h) = or_true (same_proof q x) (list_any (same_proof q) xs) (in_seen q xs h)

in_left : (q : Proof) (xs ys : List Proof) → In q xs → In q (xs ++ ys)
in_left q [] ys h = absurd h
in_left q (x ∷ xs) ys (inl e) = inl e
in_left q (x ∷ xs) ys (inr h) = inr (in_left q xs ys h)

in_right : (q : Proof) (xs ys : List Proof) → In q ys → In q (xs ++ ys)
in_right q [] ys h = h
in_right q (x ∷ xs) ys h = inr (in_right q xs ys h)

in_either : (q : Proof) (xs ys : List Proof) → In q (xs ++ ys) → In q xs ⊎ In q ys
in_either q [] ys h = inr h
in_either q (x ∷ xs) ys (inl e) = inl (inl e)
in_either q (x ∷ xs) ys (inr h) = elim (in_either q xs ys h) [ inl l ↦ inl (inr l) | inr r ↦ inr r ]

-- ---- one more

keeps_case : (q p : Proof) (seen : List Proof) (b : Bool) → In q seen → In q (cond b seen (seen ++ p ∷ []))
keeps_case q p seen true h = h
keeps_case q p seen false h = in_left q seen (p ∷ []) h

see_keeps : (q p : Proof) (seen : List Proof) → In q seen → In q (see seen p)
see_keeps q p seen h = keeps_case q p seen (list_any (same_proof p) seen) h

has_case : (p : Proof) (seen : List Proof) (b : Bool) → list_any (same_proof p) seen ≡ b → In p (cond b seen (seen ++ p ∷ []))
has_case p seen true e = seen_in p seen e
has_case p seen false e = in_right p seen (p ∷ []) (inl refl)

see_has : (p : Proof) (seen : List Proof) → In p (see seen p)
see_has p seen = has_case p seen (list_any (same_proof p) seen) refl

only_case : (q p : Proof) (seen : List Proof) (b : Bool) → In q (cond b seen (seen ++ p ∷ [])) → In q seen ⊎ (q ≡ p)
only_case q p seen true h = inl h
only_case q p seen false h = elim (in_either q seen (p ∷ []) h) [ inl l ↦ inl l | inr r ↦ elim r [ inl e ↦ inr e | inr n ↦ absurd n ] ]

fold_keeps : (q : Proof) (ps seen : List Proof) → In q seen → In q (fold see seen ps)
fold_keeps q [] seen h = h
fold_keeps q (p ∷ ps) seen h = fold_keeps q ps (see seen p) (see_keeps q p seen h)

fold_has : (q : Proof) (ps seen : List Proof) → In q ps → In q (fold see seen ps)
fold_has q [] seen h = absurd h
fold_has q (p ∷ ps) seen (inl e) = fold_keeps q ps (see seen p) (subst (λ r. In r (see seen p)) (sym e) (see_has p seen))
fold_has q (p ∷ ps) seen (inr h) = fold_has q ps (see seen p) h

see_same : (p : Proof) (seen : List Proof) → In p seen → see seen p ≡ seen
see_same p seen h = ap (λ b. cond b seen (seen ++ p ∷ [])) (in_seen p seen h)

fold_same : (ps seen : List Proof) → ((q : Proof) → In q ps → In q seen) → fold see seen ps ≡ seen
fold_same [] seen h = refl
fold_same (p ∷ ps) seen h = ap (λ s. fold see s ps) (see_same p seen (h p (inl refl))) ∙ fold_same ps seen (λ q i. h q (inr i))

fold_on : (ps qs seen : List Proof) → fold see seen (ps ++ qs) ≡ fold see (fold see seen ps) qs
fold_on [] qs seen = refl
fold_on (p ∷ ps) qs seen = fold_on ps qs (see seen p)

-- ---- a way that passes over what was seen

abbrev mutual
  pub visit : Proof → List Proof → List Proof
  visit (by label below) seen = cond (list_any (same_proof (by label below)) seen) seen (see (visit_all below seen) (by label below))

  pub visit_all : Proofs → List Proof → List Proof
  visit_all none seen = seen
  visit_all (next p ps) seen = visit_all ps (visit p seen)

-- with a proof all its subproofs were seen
pub record Closed (seen : List Proof) : Type 0 where
  pub closed : (q r : Proof) → In q seen → In r (subproofs q) → In r seen

-- the way sees these proofs in turn
record Sees (seen now ps : List Proof) : Type 0 where
  is : now ≡ fold see seen ps
  closed : Closed (fold see seen ps)

closed_more : (label : List ℕ) (below : Proofs) (seen : List Proof) → Closed seen → ((r : Proof) → In r (subproofs_in below) → In r seen) → Closed (see seen (by label below))
closed_more label below seen c h = record {
  closed = λ q r i j.
      let p = by label below in
      elim (only_case q p seen (list_any (same_proof p) seen) i) [
        | inl old ↦ see_keeps r p seen (c.closed q r old j)
        | inr new ↦
            elim (in_either r (subproofs_in below) (p ∷ []) (subst (λ x. In r (subproofs x)) new j)) [
              | inl inner ↦ see_keeps r p seen (h r inner)
              | inr self ↦ elim self [ inl e ↦ subst (λ x. In x (see seen p)) (sym e) (see_has p seen) | inr n ↦ absurd n ]
            ]
      ];
}

visit_case : (label : List ℕ) (below : Proofs) (seen : List Proof) (b : Bool) → list_any (same_proof (by label below)) seen ≡ b → Closed seen → Sees seen (visit_all below seen) (subproofs_in below)
    → Sees seen (cond b seen (see (visit_all below seen) (by label below))) (subproofs (by label below))
visit_case label below seen true e c all =
    let p = by label below in
    let same : fold see seen (subproofs p) ≡ seen = fold_same (subproofs p) seen (λ q i. c.closed p q (seen_in p seen e) i) in
    record { is = sym same; closed = subst Closed (sym same) c }
visit_case label below seen false e c all =
    let p = by label below in
    let last : fold see seen (subproofs_in below ++ p ∷ []) ≡ see (fold see seen (subproofs_in below)) p = fold_on (subproofs_in below) (p ∷ []) seen in
    record {
      is = ap (λ s. see s p) all.is ∙ sym last;
      closed = subst Closed (sym last) (closed_more label below (fold see seen (subproofs_in below)) all.closed (λ r i. fold_has r (subproofs_in below) seen i));
    }

mutual
  visit_sees : (p : Proof) (seen : List Proof) → Closed seen → Sees seen (visit p seen) (subproofs p)
  visit_sees (by label below) seen c = visit_case label below seen (list_any (same_proof (by label below)) seen) refl c (visit_all_sees below seen c)

  visit_all_sees : (ps : Proofs) (seen : List Proof) → Closed seen → Sees seen (visit_all ps seen) (subproofs_in ps)
  visit_all_sees none seen c = record { is = refl; closed = c }
  visit_all_sees (next p ps) seen c =
      let first = visit_sees p seen c in
      let rest = visit_all_sees ps (fold see seen (subproofs p)) first.closed in
      let both : fold see seen (subproofs p ++ subproofs_in ps) ≡ fold see (fold see seen (subproofs p)) (subproofs_in ps) = fold_on (subproofs p) (subproofs_in ps) seen in
      record { is = ap (visit_all ps) first.is ∙ rest.is ∙ sym both; closed = subst Closed (sym both) rest.closed }

pub visit_is : (p : Proof) → visit p [] ≡ distinct_proofs (subproofs p)
visit_is p = (visit_sees p [] (record { closed = λ q r i j. absurd i })).is

pub visit_seen : (p : Proof) (seen : List Proof) → list_any (same_proof p) seen ≡ true → visit p seen ≡ seen
visit_seen (by label below) seen e = ap (λ b. cond b seen (see (visit_all below seen) (by label below))) e

pub visit_new : (label : List ℕ) (below : Proofs) (seen : List Proof) → list_any (same_proof (by label below)) seen ≡ false → visit (by label below) seen ≡ see (visit_all below seen) (by label below)
visit_new label below seen e = ap (λ b. cond b seen (see (visit_all below seen) (by label below))) e
