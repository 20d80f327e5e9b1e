-- Chains lead where a path of them does, and a path of kept chains never comes back.
use Rattle.std.proofs.Common.{◌≡◌, ◌<◌, ◌≤◌, ℕ, suc, ◌+◌, ◌-◌, Bool, true, false, ◌&&◌, List, [], ◌∷◌, ◌++◌, length, reverse, Option, Some, None}
use Rattle.std.proofs.Common.{refl, sym, ap, ◌∙◌, arith, subst, get_or, inl, inr, cond, fold}
use Rattle.std.specs.List.{AllByRecursion, Contains}
use Rattle.std.proofs.lemmas.Bool.{cases_Bool}
use Rattle.std.proofs.lemmas.Bool.Decides.{nat_tests}
use Rattle.std.proofs.lemmas.List.{reverse-reverse, length-reverse, get_or-reverse}
use Rattle.mm_base.specs.declared.symbols.Sym.{Sym}
use Rattle.mm_base.specs.declared.symbols.Typecode.{Typecode}
use Rattle.mm_model.specs.declared.rows.Production.{Production}
use Rattle.mm_model.specs.Chains.{same_code, chain_from, joined, leads, OnChain, HasNoCycle, rank, keep, keep_by, kept}
use Rattle.model_laws.specs.Paths.{IsPath, IsPathOf, LeadsByPaths, KeptHaveNoCycle}
use Rattle.mm_model.proofs.ChainLaws.{leads_self, leads_on, rank_rises}

same_is : (a b : Typecode) → same_code a b ≡ true → a ≡ b
same_is a b e =
    let is : a.0.0 ≡ b.0.0 = grind (arith, nat_tests) in
    ap (λ (n : ℕ). let s : Sym = record { 0 = n } in let c : Typecode = record { 0 = s } in c) is

-- ---- a path of rows is one of more rows

contains_more : (r : Production) (rows : List Production) (x : Production) → Contains rows x → Contains (r ∷ rows) x
contains_more r rows x (k, within, is) = (suc k, omega (arith, within), is)

all_more : (r : Production) (rows path : List Production) → AllByRecursion (Contains rows) path → AllByRecursion (Contains (r ∷ rows)) path
all_more r rows [] h = tt
all_more r rows (x ∷ path) h = (contains_more r rows x h.0, all_more r rows path h.1)

path_more : (r : Production) (rows path : List Production) (a b : Typecode) → IsPathOf rows path a b → IsPathOf (r ∷ rows) path a b
path_more r rows path a b h = record { chains = all_more r rows path h.chains; joined = h.joined }

all_append : (rows left right : List Production) → AllByRecursion (Contains rows) left → AllByRecursion (Contains rows) right → AllByRecursion (Contains rows) (left ++ right)
all_append rows [] right h k = k
all_append rows (x ∷ left) right h k = (h.0, all_append rows left right h.1 k)

path_append : (left right : List Production) (a b c : Typecode) → IsPath left a b → IsPath right b c → IsPath (left ++ right) a c
path_append [] right a b c h k = subst (λ x. IsPath right x c) (sym h) k
path_append (r ∷ left) right a b c h k = (h.0, path_append left right r.gives b c h.1 k)

-- ---- what leads is a path

abbrev Path : List Production → Typecode → Typecode → Type 0
Path rows a b = (path : List Production) × IsPathOf rows path a b

both : (p q : Bool) → (p && q) ≡ true → (p ≡ true) × (q ≡ true)
both true q e = (refl, e)
both false q e = absurd cc

through : (r : Production) (older : List Production) (from a b : Typecode) → chain_from r ≡ Some from → Path older a from → Path older r.gives b → Path (r ∷ older) a b
through r older from a b is (left, l) (right, k) =
    let here : Contains (r ∷ older) r = (0, omega arith, refl) in (
      left ++ r ∷ right,
      record {
        chains = all_append (r ∷ older) left (r ∷ right) (all_more r older left l.chains) (here, all_more r older right k.chains);
        joined = path_append left (r ∷ right) a from b l.joined (is, k.joined);
      },
    )

joined_path : (o : Option Typecode) (r : Production) (older : List Production) (a b : Typecode) → chain_from r ≡ o
    → ((x y : Typecode) → leads older x y ≡ true → Path older x y) → joined o r.gives (leads older) a b ≡ true → Path (r ∷ older) a b
joined_path None r older a b is h e = let p = h a b e in (p.0, path_more r older p.0 a b p.1)
joined_path (Some from) r older a b is h e =
    elim (cases_Bool (leads older a b)) [
      | inl d ↦ let p = h a b d in (p.0, path_more r older p.0 a b p.1)
      | inr d ↦
          let parts = both (leads older a from) (leads older r.gives b) (rw d at e) in
          through r older from a b is (h a from parts.0) (h r.gives b parts.1)
    ]

leads_path : (rows : List Production) (a b : Typecode) → leads rows a b ≡ true → Path rows a b
leads_path [] a b e = ([], record { chains = tt; joined = same_is a b e })
leads_path (r ∷ older) a b e = joined_path (chain_from r) r older a b refl (leads_path older) e

-- ---- and a path leads

path_leads : (rows path : List Production) (x a b : Typecode) → AllByRecursion (Contains rows) path → IsPath path a b → leads rows x a ≡ true → leads rows x b ≡ true
path_leads rows [] x a b all p e = subst (λ y. leads rows x y ≡ true) p e
path_leads rows (r ∷ path) x a b all p e =
    let is = all.0.2 in
    let next : leads rows x (get_or rows all.0.0 r).gives ≡ true = leads_on rows all.0.0 r a x all.0.1 (ap chain_from is ∙ p.0) e in
    path_leads rows path x r.gives b all.1 p.1 (subst (λ (y : Production). leads rows x y.gives ≡ true) is next)

pub leads_by_paths : LeadsByPaths
leads_by_paths rows a b = (leads_path rows a b, λ (path, h). path_leads rows path a a b h.chains h.joined (leads_self rows a))

-- ---- along a path of rows without a cycle the rank rises

rank_grows : (rows : List Production) → HasNoCycle rows → (path : List Production) (a b : Typecode) → AllByRecursion (Contains rows) path → IsPath path a b → rank rows a ≤ rank rows b
rank_grows rows acyclic [] a b all p = subst (λ x. rank rows a ≤ rank rows x) p (omega arith)
rank_grows rows acyclic (r ∷ path) a b all p =
    let is = all.0.2 in
    let first : rank rows a < rank rows (get_or rows all.0.0 r).gives = rank_rises rows acyclic all.0.0 r a all.0.1 (ap chain_from is ∙ p.0) in
    let first' : rank rows a < rank rows r.gives = subst (λ (y : Production). rank rows a < rank rows y.gives) is first in
    let rest = rank_grows rows acyclic path r.gives b all.1 p.1 in
    omega (arith, first', rest)

no_return : (rows : List Production) → HasNoCycle rows → (path : List Production) (a : Typecode) → AllByRecursion (Contains rows) path → IsPath path a a → path ≡ []
no_return rows acyclic [] a all p = refl
no_return rows acyclic (r ∷ path) a all p =
    let is = all.0.2 in
    let first : rank rows a < rank rows (get_or rows all.0.0 r).gives = rank_rises rows acyclic all.0.0 r a all.0.1 (ap chain_from is ∙ p.0) in
    let first' : rank rows a < rank rows r.gives = subst (λ (y : Production). rank rows a < rank rows y.gives) is first in
    let rest = rank_grows rows acyclic path r.gives a all.1 p.1 in
    let bad : ⊥ = omega (arith, first', rest) in
    absurd bad

-- ---- the kept rows stand in the other order

contains_reversed : (rows : List Production) (x : Production) → Contains rows x → Contains (reverse rows) x
contains_reversed rows x (k, within, is) =
    let place : length rows ≡ suc (length rows - 1 - k) + k = omega (arith, within) in
    let there : length rows - 1 - k < length (reverse rows) = omega (arith, within, length-reverse rows) in
    let back : length rows - 1 - (length rows - 1 - k) ≡ k = omega (arith, within) in
    (length rows - 1 - k, there, get_or-reverse rows (length rows - 1 - k) x (omega (arith, within)) ∙ ap (λ (i : ℕ). get_or rows i x) back ∙ is)

all_reversed : (rows path : List Production) → AllByRecursion (Contains rows) path → AllByRecursion (Contains (reverse rows)) path
all_reversed rows [] h = tt
all_reversed rows (x ∷ path) h = (contains_reversed rows x h.0, all_reversed rows path h.1)

-- ---- what is kept has no cycle

acyclic_if : (older : List Production) (r : Production) (from : Typecode) (b : Bool) → chain_from r ≡ Some from → leads older r.gives from ≡ b
    → HasNoCycle older → HasNoCycle (cond b older (r ∷ older))
acyclic_if older r from true is l h = h
acyclic_if older r from false is l h = (h, subst (λ o. OnChain o (λ c. leads older r.gives c ≡ false)) (sym is) l)

acyclic_by : (older : List Production) (r : Production) (o : Option Typecode) → chain_from r ≡ o → HasNoCycle older → HasNoCycle (keep_by o older r)
acyclic_by older r None is h = (h, subst (λ o. OnChain o (λ c. leads older r.gives c ≡ false)) (sym is) tt)
acyclic_by older r (Some from) is h = acyclic_if older r from (leads older r.gives from) is refl h

kept_acyclic : (rest older : List Production) → HasNoCycle older → HasNoCycle (fold keep older rest)
kept_acyclic [] older h = h
kept_acyclic (r ∷ rest) older h = kept_acyclic rest (keep older r) (acyclic_by older r (chain_from r) refl h)

pub kept_have_no_cycle : KeptHaveNoCycle
kept_have_no_cycle rows path a h =
    no_return (reverse (kept rows)) (subst HasNoCycle (sym (reverse-reverse (fold keep [] rows))) (kept_acyclic rows [] tt)) path a (all_reversed (kept rows) path h.chains) h.joined
