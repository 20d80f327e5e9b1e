-- What holds of rows holds of those that are kept.
use Rattle.std.specs.Prelude.{◌≡◌, ◌≢◌, ◌<◌, ◌-◌, ℕ, zero, suc, Bool, true, false, List, [], ◌∷◌, length, reverse, fold, Option, Some, None, slice_get, refl}
use Rattle.std.proofs.Common.{arith, sym, ap, ◌∙◌, get_or, subst, cond}
use Rattle.std.proofs.lemmas.List.{length-reverse, get_or-reverse, reverse-reverse}
use Rattle.std.proofs.lemmas.Option.{slice_get_within, get_or_from_slice_get, slice_get-get_or}
use Rattle.mm_base.specs.declared.symbols.Typecode.{Typecode}
use Rattle.mm_model.specs.declared.rows.Production.{Production}
use Rattle.mm_model.specs.Chains.{chain_from, leads, OnChain, HasNoCycle, keep, keep_by, kept}
use Rattle.mm_model.specs.Rows.{IsRow, LabelsDiffer, AreRows, IsGrammar}
use Rattle.mm_model.proofs.RowLaws.{is_row}

-- a fact at each place
abbrev At : (Production → Type 0) → List Production → Type 0
At P rows = (k : ℕ) (r : Production) → slice_get rows k ≡ Some r → P r

-- no label of the one is one of the other
abbrev Apart : List Production → List Production → Type 0
Apart rows more = (i j : ℕ) (r s : Production) → slice_get rows i ≡ Some r → slice_get more j ≡ Some s → r.label ≢ s.label

-- what the fold keeps of rows
pub record AreKept (older rest : List Production) : Type 0 where
  pub each_older : At IsRow older
  pub each_rest : At IsRow rest
  pub differ_older : LabelsDiffer older
  pub differ_rest : LabelsDiffer rest
  pub apart : Apart older rest
  pub acyclic : HasNoCycle older

at_tail : (P : Production → Type 0) (r : Production) (rows : List Production) → At P (r ∷ rows) → At P rows
at_tail P r rows h = λ k s e. h (suc k) s e

at_cons : (P : Production → Type 0) (r : Production) (rows : List Production) → P r → At P rows → At P (r ∷ rows)
at_cons P r rows p h zero s e = let same : r ≡ s = cc in subst P same p
at_cons P r rows p h (suc k) s e = h k s e

differ_tail : (r : Production) (rows : List Production) → LabelsDiffer (r ∷ rows) → LabelsDiffer rows
differ_tail r rows h i j a b e f l = let same : suc i ≡ suc j = h (suc i) (suc j) a b e f l in omega arith

differ_cons : (r : Production) (rows rest : List Production) → LabelsDiffer rows → Apart rows (r ∷ rest) → LabelsDiffer (r ∷ rows)
differ_cons r rows rest h apart zero zero a b e f l = refl
differ_cons r rows rest h apart zero (suc j) a b e f l = absurd (apart j 0 b r f refl (let same : r ≡ a = cc in sym l ∙ ap (λ (x : Production). x.label) (sym same)))
differ_cons r rows rest h apart (suc i) zero a b e f l = absurd (apart i 0 a r e refl (let same : r ≡ b = cc in l ∙ ap (λ (x : Production). x.label) (sym same)))
differ_cons r rows rest h apart (suc i) (suc j) a b e f l = ap (λ n. suc n) (h i j a b e f l)

apart_tail : (r : Production) (rows rest : List Production) → Apart rows (r ∷ rest) → Apart rows rest
apart_tail r rows rest h i j a b e f = h i (suc j) a b e f

apart_cons : (r : Production) (rows rest : List Production) → LabelsDiffer (r ∷ rest) → Apart rows (r ∷ rest) → Apart (r ∷ rows) rest
apart_cons r rows rest d h zero j a b e f l =
    let same : r ≡ a = cc in
    let place : 0 ≡ suc j = d 0 (suc j) r b refl f (ap (λ (x : Production). x.label) same ∙ l) in
    omega arith
apart_cons r rows rest d h (suc i) j a b e f l = h i (suc j) a b e f l

dropped : (older rest : List Production) (r : Production) → AreKept older (r ∷ rest) → AreKept older rest
dropped older rest r h = record {
  each_older = h.each_older;
  each_rest = at_tail IsRow r rest h.each_rest;
  differ_older = h.differ_older;
  differ_rest = differ_tail r rest h.differ_rest;
  apart = apart_tail r older rest h.apart;
  acyclic = h.acyclic;
}

taken : (older rest : List Production) (r : Production) → AreKept older (r ∷ rest) → OnChain (chain_from r) (λ from. leads older r.gives from ≡ false) → AreKept (r ∷ older) rest
taken older rest r h open' = record {
  each_older = at_cons IsRow r older (h.each_rest 0 r refl) h.each_older;
  each_rest = at_tail IsRow r rest h.each_rest;
  differ_older = differ_cons r older rest h.differ_older h.apart;
  differ_rest = differ_tail r rest h.differ_rest;
  apart = apart_cons r older rest h.differ_rest h.apart;
  acyclic = (h.acyclic, open');
}

keep_if : (older rest : List Production) (r : Production) (from : Typecode) (b : Bool) → chain_from r ≡ Some from → leads older r.gives from ≡ b
    → AreKept older (r ∷ rest) → AreKept (cond b older (r ∷ older)) rest
keep_if older rest r from true is l h = dropped older rest r h
keep_if older rest r from false is l h = taken older rest r h (subst (λ o. OnChain o (λ c. leads older r.gives c ≡ false)) (sym is) l)

keep_at : (older rest : List Production) (r : Production) (o : Option Typecode) → chain_from r ≡ o → AreKept older (r ∷ rest) → AreKept (keep_by o older r) rest
keep_at older rest r None is h = taken older rest r h (subst (λ o. OnChain o (λ c. leads older r.gives c ≡ false)) (sym is) tt)
keep_at older rest r (Some from) is h = keep_if older rest r from (leads older r.gives from) is refl h

fold_kept : (rest older : List Production) → AreKept older rest → AreKept (fold keep older rest) []
fold_kept [] older h = h
fold_kept (r ∷ rest) older h = fold_kept rest (keep older r) (keep_at older rest r (chain_from r) refl h)

reversed_at : (rows : List Production) (k : ℕ) (r : Production) → slice_get (reverse rows) k ≡ Some r → slice_get rows (length rows - 1 - k) ≡ Some r
reversed_at rows k r e =
    let within : k < length rows = omega (arith, slice_get_within (reverse rows) k r e, length-reverse rows) in
    let here = sym (get_or-reverse rows k r within) ∙ get_or_from_slice_get (reverse rows) k r r e in
    slice_get-get_or rows (length rows - 1 - k) r (omega arith) ∙ ap (λ x. Some x) here

rows_reversed : (rows : List Production) → At IsRow rows → LabelsDiffer rows → AreRows (reverse rows)
rows_reversed rows each differ = record {
  each = λ k d l. each (length rows - 1 - k) (get_or (reverse rows) k d) (reversed_at rows k (get_or (reverse rows) k d) (slice_get-get_or (reverse rows) k d l));
  labels = λ i j r s e f l.
      let place = differ (length rows - 1 - i) (length rows - 1 - j) r s (reversed_at rows i r e) (reversed_at rows j s f) l in
      let a = slice_get_within (reverse rows) i r e in
      let b = slice_get_within (reverse rows) j s f in
      omega (arith, length-reverse rows);
}

-- the rows that are kept are those of a grammar
pub kept_is_grammar : (rows : List Production) → AreRows rows → IsGrammar (kept rows)
kept_is_grammar rows ok =
    let all = fold_kept rows [] (record {
      each_older = λ k r e. absurd (cc);
      each_rest = λ k r e. is_row rows ok k r e;
      differ_older = λ i j r s e f l. absurd (cc);
      differ_rest = ok.labels;
      apart = λ i j r s e f l. absurd (cc);
      acyclic = tt;
    }) in
    record { rows_hold = rows_reversed (fold keep [] rows) all.each_older all.differ_older; acyclic = subst HasNoCycle (sym (reverse-reverse (fold keep [] rows))) all.acyclic }
