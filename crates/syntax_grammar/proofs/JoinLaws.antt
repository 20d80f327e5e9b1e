-- What is reached along chains is what they lead to.
use Rattle.std.proofs.Common.{cond, ⊎_elim, reverse, fold, ◌≡◌, ◌==◌, ◌&&◌, ◌||◌, ℕ, Bool, true, false, List, [], ◌∷◌, ◌++◌, Option, Some, None, nat_eq, refl, sym, ap, subst, ◌∙◌, arith}
use Rattle.std.proofs.lemmas.Bool.Decides.{nat_tests}
use Rattle.std.proofs.lemmas.List.{reverse-append}
use Rattle.std.proofs.lemmas.List.Folds.{list_any-append}
use Rattle.std.proofs.lemmas.List.Sums.{fold-append}
use Rattle.mm_base.specs.declared.rows.Rows.{Rows}
use Rattle.mm_base.specs.Rows.{row_at}
use Rattle.mm_base.specs.declared.symbols.Typecode.{Typecode}
use Rattle.mm_model.specs.declared.rows.Production.{Production}
use Rattle.mm_model.specs.Chains.{chain_from, joined, leads, keep, keep_by}
use Rattle.mm_model.proofs.ChainLaws.{leads_self}
use Rattle.syntax_grammar.proofs.ReachLaws.{or_case, or_left, or_right, number_is}
use Rattle.syntax_grammar.specs.Joins.{has, has_code, is_noted, is_between, has_chain, IsClosedUnder, IsReached}

abbrev code : ℕ → Typecode
code q = record { 0 = record { 0 = q } }

both : (a b : Bool) → a ≡ true → b ≡ true → (a && b) ≡ true
both true b e f = f
both false b e f = absurd (cc)

and_parts : (a b : Bool) → (a && b) ≡ true → (a ≡ true) × (b ≡ true)
and_parts true b e = (refl, e)
and_parts false b e = absurd (cc)

same_bool : (a b : Bool) → (a ≡ true → b ≡ true) → (b ≡ true → a ≡ true) → a ≡ b
same_bool true b h k = sym (h refl)
same_bool false true h k = k refl
same_bool false false h k = refl

-- a closed set has what chains lead to from its typecodes
closed_at : (o : Option Typecode) (to : Typecode) (before : Typecode → Typecode → Bool) (S : ℕ → Bool)
    → IsClosedUnder (is_between o to) S → ((a b : Typecode) → before a b ≡ true → S a.0.0 ≡ true → S b.0.0 ≡ true)
    → (a b : Typecode) → joined o to before a b ≡ true → S a.0.0 ≡ true → S b.0.0 ≡ true
closed_at None to before S h ih a b l s = ih a b l s
closed_at (Some from) to before S h ih a b l s =
    ⊎_elim (λ e. ih a b e s)
    (λ e. let p = and_parts (before a from) (before to b) e in
    let here : (from.0.0 == from.0.0 && to.0.0 == to.0.0) ≡ true = grind (arith, nat_tests) in
    ih to b p.1 (h from.0.0 to.0.0 (ih a from p.0 s) here))
    (or_case (before a b) (before a from && before to b) l)

closed_leads : (rows : List Production) (S : ℕ → Bool) → IsClosedUnder (has_chain rows) S
    → (a b : Typecode) → leads rows a b ≡ true → S a.0.0 ≡ true → S b.0.0 ≡ true
closed_leads [] S h a b l s = subst (λ n. S n ≡ true) (number_is a.0.0 b.0.0 l) s
closed_leads (r ∷ older) S h a b l s =
    closed_at (chain_from r) r.gives (leads older) S (λ q e s j. h q e s (or_left (is_between (chain_from r) r.gives q e) (has_chain older q e) j))
    (closed_leads older S (λ q e s j. h q e s (or_right (is_between (chain_from r) r.gives q e) (has_chain older q e) j))) a b l s

-- what leads to where a chain begins leads to where it ends
new_at : (o : Option Typecode) (to : Typecode) (before : Typecode → Typecode → Bool) (q e : ℕ) → before to to ≡ true → is_between o to q e ≡ true
    → (x : Typecode) → joined o to before x (code q) ≡ true → joined o to before x (code e) ≡ true
new_at None to before q e self j x l = absurd (cc)
new_at (Some from) to before q e self j x l =
    let p = and_parts (from.0.0 == q) (e == to.0.0) j in
    let begin : from ≡ code q = ap code (number_is from.0.0 q p.0) in
    let end : code e ≡ to = ap code (number_is e to.0.0 p.1) in
    let l' : (before x from || (before x from && before to from)) ≡ true = subst (λ c. (before x c || (before x from && before to c)) ≡ true) (sym begin) l in
    let here : before x from ≡ true = ⊎_elim (λ h. h) (λ h. (and_parts (before x from) (before to from) h).0) (or_case (before x from) (before x from && before to from) l') in
    subst (λ c. (before x c || (before x from && before to c)) ≡ true) (sym end) (or_right (before x to) (before x from && before to to) (both (before x from) (before to to) here self))

old_at : (o : Option Typecode) (to : Typecode) (before : Typecode → Typecode → Bool) (q e : ℕ) → ((x : Typecode) → before x (code q) ≡ true → before x (code e) ≡ true)
    → (x : Typecode) → joined o to before x (code q) ≡ true → joined o to before x (code e) ≡ true
old_at None to before q e h x l = h x l
old_at (Some from) to before q e h x l =
    ⊎_elim (λ k. or_left (before x (code e)) (before x from && before to (code e)) (h x k))
    (λ k. let p = and_parts (before x from) (before to (code q)) k in
    or_right (before x (code e)) (before x from && before to (code e)) (both (before x from) (before to (code e)) p.0 (h to p.1)))
    (or_case (before x (code q)) (before x from && before to (code q)) l)

leads_step : (rows : List Production) (q e : ℕ) → has_chain rows q e ≡ true → (x : Typecode) → leads rows x (code q) ≡ true → leads rows x (code e) ≡ true
leads_step [] q e j x l = absurd (cc)
leads_step (r ∷ older) q e j x l =
    ⊎_elim (λ h. new_at (chain_from r) r.gives (leads older) q e (leads_self older r.gives) h x l)
    (λ h. old_at (chain_from r) r.gives (leads older) q e (leads_step older q e h) x l)
    (or_case (is_between (chain_from r) r.gives q e) (has_chain older q e) j)

-- what is reached
pub reached_is : (step : ℕ → ℕ → Bool) (rows : List Production) (codes : List ℕ) (from to : Typecode) → IsReached step from.0.0 codes
    → ((q e : ℕ) → step q e ≡ has_chain rows q e) → has codes to.0.0 ≡ leads rows from to
reached_is step rows codes from to r is =
    same_bool (has codes to.0.0) (leads rows from to)
    (r.least (λ q. leads rows from (code q)) (leads_self rows from) (λ q e s j. leads_step rows q e (sym (is q e) ∙ j) from s) to.0.0)
    (λ l. closed_leads rows (has codes) (λ q e s j. r.closed q e s (is q e ∙ j)) from to l r.begun)

or_none : (a : Bool) → (a || false) ≡ a
or_none true = refl
or_none false = refl

-- a typecode is noted where a test passes
noted_if : (b : Bool) (row : List Typecode) (to : Typecode) (e : ℕ) → has_code (cond b (row ++ to ∷ []) row) e ≡ (has_code row e || (b && e == to.0.0))
noted_if true row to e = list_any-append (λ (c : Typecode). nat_eq e c.0.0) row (to ∷ []) ∙ ap (λ x. has_code row e || x) (or_none (e == to.0.0))
noted_if false row to e = sym (or_none (has_code row e))

pub noted_new : (old new : Rows Typecode) (from to : Typecode)
    → ((q : ℕ) → row_at new q ≡ cond (from.0.0 == q) (row_at old q ++ to ∷ []) (row_at old q))
    → (q e : ℕ) → is_noted new q e ≡ (is_noted old q e || (from.0.0 == q && e == to.0.0))
noted_new old new from to h q e = ap (λ xs. has_code xs e) (h q) ∙ noted_if (from.0.0 == q) (row_at old q) to e

absorbed : (a t : Bool) → (t ≡ true → a ≡ true) → a ≡ (a || t)
absorbed true t h = refl
absorbed false true h = h refl
absorbed false false h = refl

pub noted_old : (old : Rows Typecode) (from to : Typecode) → is_noted old from.0.0 to.0.0 ≡ true
    → (q e : ℕ) → is_noted old q e ≡ (is_noted old q e || (from.0.0 == q && e == to.0.0))
noted_old old from to h q e =
    absorbed (is_noted old q e) (from.0.0 == q && e == to.0.0)
    (λ t. let p = and_parts (from.0.0 == q) (e == to.0.0) t in
    subst (λ n. is_noted old n e ≡ true) (number_is from.0.0 q p.0) (subst (λ n. is_noted old from.0.0 n ≡ true) (sym (number_is e to.0.0 p.1)) h))

-- what is noted after one more row
turned : (a b : Bool) → (a || b) ≡ (b || a)
turned true true = refl
turned true false = refl
turned false true = refl
turned false false = refl

chains_more : (rows : List Production) (r : Production) (from : Typecode) (old new : ℕ → ℕ → Bool) → chain_from r ≡ Some from
    → ((q e : ℕ) → old q e ≡ has_chain rows q e) → ((q e : ℕ) → new q e ≡ (old q e || (from.0.0 == q && e == r.gives.0.0)))
    → (q e : ℕ) → new q e ≡ has_chain (r ∷ rows) q e
chains_more rows r from old new is h k q e =
    k q e ∙ ap (λ b. b || (from.0.0 == q && e == r.gives.0.0)) (h q e) ∙ turned (has_chain rows q e) (from.0.0 == q && e == r.gives.0.0)
    ∙ ap (λ o. is_between o r.gives q e || has_chain rows q e) (sym is)

chains_same : (rows : List Production) (r : Production) (old : ℕ → ℕ → Bool) → chain_from r ≡ None
    → ((q e : ℕ) → old q e ≡ has_chain rows q e) → (q e : ℕ) → old q e ≡ has_chain (r ∷ rows) q e
chains_same rows r old is h q e = h q e ∙ ap (λ o. is_between o r.gives q e || has_chain rows q e) (sym is)

keep_is : (rows yielded : List Production) (r : Production) (from : Typecode) (b : Bool) → rows ≡ fold keep [] yielded → chain_from r ≡ Some from
    → leads rows r.gives from ≡ b → fold keep [] (yielded ++ r ∷ []) ≡ cond b rows (r ∷ rows)
keep_is rows yielded r from b h is l =
    fold-append keep [] yielded (r ∷ []) ∙ ap (λ xs. keep xs r) (sym h) ∙ ap (λ o. keep_by o rows r) is ∙ ap (λ t. cond t rows (r ∷ rows)) l

keep_other : (rows yielded : List Production) (r : Production) → rows ≡ fold keep [] yielded → chain_from r ≡ None → fold keep [] (yielded ++ r ∷ []) ≡ r ∷ rows
keep_other rows yielded r h is = fold-append keep [] yielded (r ∷ []) ∙ ap (λ xs. keep xs r) (sym h) ∙ ap (λ o. keep_by o rows r) is

-- the rows that are kept, with what is noted of their chains
pub record AreKept (kept yielded : List Production) (ends : Rows Typecode) : Type 0 where
  pub rows : reverse kept ≡ fold keep [] yielded
  pub noted : (q e : ℕ) → is_noted ends q e ≡ has_chain (reverse kept) q e

-- what the test of a chain tells
abbrev pub Tells : Rows Typecode → Production → Typecode → Bool → Type 0
Tells ends r from b = (rows : List Production) → ((q e : ℕ) → is_noted ends q e ≡ has_chain rows q e) → b ≡ leads rows r.gives from

pub row_dropped : (kept yielded : List Production) (r : Production) (from : Typecode) (b : Bool) (old new : Rows Typecode) → AreKept kept yielded old
    → chain_from r ≡ Some from → Tells old r from b → b ≡ true → new ≡ old → AreKept kept (yielded ++ r ∷ []) new
row_dropped kept yielded r from b old new h is tells e same = record {
  rows = sym (keep_is (reverse kept) yielded r from true h.rows is (sym (tells (reverse kept) h.noted) ∙ e));
  noted = λ q e. ap (λ (x : Rows Typecode). is_noted x q e) same ∙ h.noted q e;
}

pub row_joined : (kept more yielded : List Production) (r : Production) (from : Typecode) (b : Bool) (old mid added new : Rows Typecode) → AreKept kept yielded old
    → chain_from r ≡ Some from → Tells old r from b → b ≡ false → mid ≡ old
    → ((q e : ℕ) → is_noted added q e ≡ (is_noted mid q e || (from.0.0 == q && e == r.gives.0.0))) → new ≡ added → more ≡ kept ++ r ∷ []
    → AreKept more (yielded ++ r ∷ []) new
row_joined kept more yielded r from b old mid added new h is tells e same add last put =
    let back : reverse more ≡ r ∷ reverse kept = ap reverse put ∙ reverse-append kept (r ∷ []) in
    record {
      rows = back ∙ sym (keep_is (reverse kept) yielded r from false h.rows is (sym (tells (reverse kept) h.noted) ∙ e));
      noted = λ q e.
          ap (λ (x : Rows Typecode). is_noted x q e) last
          ∙ chains_more (reverse kept) r from (is_noted old) (is_noted added) is h.noted
          (λ p d. add p d ∙ ap (λ (x : Rows Typecode). is_noted x p d || (from.0.0 == p && d == r.gives.0.0)) same) q e
          ∙ ap (λ rs. has_chain rs q e) (sym back);
    }

pub row_put : (kept more yielded : List Production) (r : Production) (old new : Rows Typecode) → AreKept kept yielded old
    → chain_from r ≡ None → new ≡ old → more ≡ kept ++ r ∷ [] → AreKept more (yielded ++ r ∷ []) new
row_put kept more yielded r old new h is same put =
    let back : reverse more ≡ r ∷ reverse kept = ap reverse put ∙ reverse-append kept (r ∷ []) in
    record {
      rows = back ∙ sym (keep_other (reverse kept) yielded r h.rows is);
      noted = λ q e.
          ap (λ (x : Rows Typecode). is_noted x q e) same ∙ chains_same (reverse kept) r (is_noted old) is h.noted q e
          ∙ ap (λ rs. has_chain rs q e) (sym back);
    }
