-- The rows that begin with a symbol are those that have no next constant, and those whose next constant stands there.
use Rattle.std.specs.Prelude.{◌≡◌, ◌==◌, ◌<◌, Bool, true, false, ◌+◌, ℕ, zero, suc, List, [], ◌∷◌, length, None, Some, slice_get, refl}
use Rattle.std.proofs.Common.{arith, ap, ◌∙◌, subst, cond}
use Rattle.std.proofs.lemmas.Bool.{eq-eqb}
use Rattle.std.proofs.lemmas.Option.{slice_get_within}
use Rattle.mm_base.specs.declared.symbols.Sym.{Sym}
use Rattle.mm_base.specs.declared.symbols.Typecode.{Typecode}
use Rattle.mm_model.specs.declared.rows.Item.{Item}
use Rattle.mm_model.specs.declared.rows.Item.TheVariants.{Const, Slot}
use Rattle.mm_model.specs.declared.rows.Leaf.{Leaf}
use Rattle.mm_model.specs.declared.rows.Production.{Production}
use Rattle.syntax_grammar.specs.Selections.{numbers, begins_const, begins_slot, first_const, first_code, is_code, is_sym, first_sym, next_const, sym_where_none, has_next, is_lone}
use Rattle.formula_parse.specs.declared.reach.Entry.{Entry}
use Rattle.formula_parse.specs.Charts.{IsIn, IsEntry, IsStart, Stays, Reaches, Enters, EntersFirst, EntersNext, Begins, Follows, entry_of}
use Rattle.formula_parse.proofs.Grows.{enters_grow}

same_number : (n : ℕ) → (n == n) ≡ true
same_number n = eq-eqb n n refl

-- the number of a production that passes stands among the numbers
in_more : (b : Bool) (at : ℕ) (ns : List ℕ) (i : ℕ) → IsIn ns i → IsIn (cond b (at ∷ ns) ns) i
in_more true at ns i h = (suc h.0, h.1)
in_more false at ns i h = h

here_in : (b : Bool) (at : ℕ) (ns : List ℕ) → b ≡ true → IsIn (cond b (at ∷ ns) ns) at
here_in true at ns h = (0, refl)
here_in false at ns h = absurd (cc)

number_from : (test : Production → Bool) (at : ℕ) (rows : List Production) (i : ℕ) (r : Production) → slice_get rows i ≡ Some r → test r ≡ true → IsIn (numbers test at rows) (at + i)
number_from test at [] i r is pass = absurd (cc)
number_from test at (x ∷ rows) zero r is pass =
    let same : x ≡ r = cc in
    let place : at ≡ at + 0 = omega arith in
    subst (IsIn (numbers test at (x ∷ rows))) place (here_in (test x) at (numbers test (suc at) rows) (ap test same ∙ pass))
number_from test at (x ∷ rows) (suc i) r is pass =
    let place : suc at + i ≡ at + suc i = omega arith in
    subst (IsIn (numbers test at (x ∷ rows))) place (in_more (test x) at (numbers test (suc at) rows) (suc at + i) (number_from test (suc at) rows i r is pass))

number_in : (test : Production → Bool) (rows : List Production) (i : ℕ) (r : Production) → slice_get rows i ≡ Some r → test r ≡ true → IsIn (numbers test 0 rows) i
number_in test rows i r is pass = let place : 0 + i ≡ i = omega arith in subst (IsIn (numbers test 0 rows)) place (number_from test 0 rows i r is pass)

-- where no production begins with a constant, none is to begin there
pub begins_none : (leaves : List Leaf) (chart : List (List Entry)) (rows : List Production) (before : ℕ) (s : Sym) (b : ℕ) (entries : List Entry)
    (ns : List ℕ)
    → ns ≡ numbers (begins_const s.0) 0 rows → length ns ≡ 0
    → Begins leaves chart rows before s b entries
begins_none leaves chart rows before s b entries ns are none i r rest at below is =
    let first : first_const r.items ≡ Some s = ap first_const is in
    let number = number_in (begins_const s.0) rows i r at (ap (is_sym s.0) first ∙ same_number s.0) in
    absurd (omega (arith, slice_get_within (numbers (begins_const s.0) 0 rows) number.0 i number.1, ap length are, none))

-- where no production begins with a slot of an entry's typecode, none is to follow the entry
pub follows_none : (leaves : List Leaf) (chart : List (List Entry)) (rows : List Production) (before : ℕ) (entry : Entry) (entries : List Entry)
    (ns : List ℕ)
    → ns ≡ numbers (begins_slot entry.code.0.0) 0 rows → length ns ≡ 0
    → Follows leaves chart rows before entry entries
follows_none leaves chart rows before entry entries ns are none i r k rest at below is code =
    let first : first_code r.slots r.items ≡ Some entry.code = ap (first_code r.slots) is ∙ code in
    let number = number_in (begins_slot entry.code.0.0) rows i r at (ap (is_code entry.code.0.0) first ∙ same_number entry.code.0.0) in
    absurd (omega (arith, slice_get_within (numbers (begins_slot entry.code.0.0) 0 rows) number.0 i number.1, ap length are, none))

module _ (leaves : List Leaf) (chart : List (List Entry)) (rows : List Production) (before : ℕ) (first : Sym) (place : ℕ) where
  pub next_grow : (at : ℕ) (xs ys : List Entry) → Stays xs ys → EntersNext leaves chart rows before first place at xs → EntersNext leaves chart rows before first place at ys
  next_grow at xs ys stays h s lead i r stands below is next = enters_grow leaves chart rows i place xs ys stays (h s lead i r stands below is next)

  -- the productions of these numbers are all that have the next constant
  pub next_entered : (s : Sym) (entries : List Entry) → ((j i : ℕ) → slice_get (numbers (has_next s.0) 0 rows) j ≡ Some i → IsStart rows before first i → Enters leaves chart rows i place entries)
      → (i : ℕ) (r : Production) → slice_get rows i ≡ Some r → r.at < before → first_sym r.slots r.items ≡ Some first → next_const r.items ≡ Some s → Enters leaves chart rows i place entries
  next_entered s entries all i r stands below is next =
      let number = number_in (has_next s.0) rows i r stands (ap (is_sym s.0) next ∙ same_number s.0) in
      all number.0 i number.1 (r, stands, below, is)

  module _ (entries : List Entry) (lone : (j i : ℕ) → slice_get (numbers (is_lone first.0) 0 rows) j ≡ Some i → IsStart rows before first i → Enters leaves chart rows i place entries)
      (here : EntersNext leaves chart rows before first place place entries)
      (behind : (m : ℕ) (code : Typecode) → IsEntry chart place m code → EntersNext leaves chart rows before first place m entries)
      (i : ℕ) (r : Production) (stands : slice_get rows i ≡ Some r) (below : r.at < before) (is : first_sym r.slots r.items ≡ Some first) where
    no_next : next_const r.items ≡ None → Enters leaves chart rows i place entries
    no_next none =
        let pass = ap (λ o. is_sym first.0 (sym_where_none o (first_sym r.slots r.items))) none ∙ ap (is_sym first.0) is ∙ same_number first.0 in
        let number = number_in (is_lone first.0) rows i r stands pass in
        lone number.0 i number.1 (r, stands, below, is)

    by_rest : (f : Item) (rest : List Item) (e : ℕ) → r.items ≡ f ∷ rest → Reaches leaves chart r.slots rest place e → IsIn entries (entry_of e r.gives i)
    by_rest f [] e split h = no_next (ap next_const split) r f [] e stands split h
    by_rest f (Const t ∷ rest) e split h = here t h.0 i r stands below is (ap next_const split) r f (Const t ∷ rest) e stands split h
    by_rest f (Slot k ∷ []) e split h = no_next (ap next_const split) r f (Slot k ∷ []) e stands split h
    by_rest f (Slot k ∷ Slot l ∷ rest) e split h = no_next (ap next_const split) r f (Slot k ∷ Slot l ∷ rest) e stands split h
    by_rest f (Slot k ∷ Const t ∷ rest) e split h = behind h.0 h.1 h.3 t h.4.0 i r stands below is (ap next_const split) r f (Slot k ∷ Const t ∷ rest) e stands split h

  pub first_entered : (entries : List Entry) → ((j i : ℕ) → slice_get (numbers (is_lone first.0) 0 rows) j ≡ Some i → IsStart rows before first i → Enters leaves chart rows i place entries)
      → EntersNext leaves chart rows before first place place entries → ((m : ℕ) (code : Typecode) → IsEntry chart place m code → EntersNext leaves chart rows before first place m entries)
      → EntersFirst leaves chart rows before first place entries
  first_entered entries lone here behind i start r f rest e stands split h =
      let one : start.0 ≡ r = (let a = start.1 in let b = stands in cc) in
      by_rest entries lone here behind i r stands (subst (λ (p : Production). p.at < before) one start.2)
      (subst (λ (p : Production). first_sym p.slots p.items ≡ Some first) one start.3) f rest e split h
