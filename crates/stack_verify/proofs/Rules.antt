-- Pairs of variables by what is known of the theorem, and by the definitions.
use Rattle.std.proofs.Common.{◌≡◌, ℕ, Bool, true, false, not, ◌||◌, ◌&&◌, eqb, List, [], ◌∷◌, Option, Some, None, option_map, refl, sym, ap, ◌∙◌, arith}
use mathlib.Core.Path.{fun_ext}
use Rattle.std.specs.Prelude.{filter, nat_eq}
use Rattle.std.specs.List.{list_any}
use Rattle.std.proofs.lemmas.Bool.Decides.{nat_tests}
use Rattle.mm_base.specs.declared.symbols.Sym.{Sym}
use Rattle.mm_base.specs.declared.symbols.Pair.{Pair}
use Rattle.proof_model.specs.declared.theorem.Theorem.{Theorem}
use Rattle.proof_model.specs.Machine.{Entry, first_pair, is_active_pair, is_shared, is_variable, least, not_distinct, or_later, shared, shared_fault, distinct_fault, substitute}
use Rattle.stack_verify.specs.declared.known.Known.{Known}
use Rattle.stack_verify.specs.declared.pairs.Rule.{Rule}
use Rattle.stack_verify.specs.declared.pairs.Rule.TheVariants as rule
use Rattle.stack_verify.specs.Contexts.{IsKnown, SamePairs, is_pair, joins}
use Rattle.stack_verify.specs.Pairs.{fails, first_failing, products}

-- by a test of variables and a test of two of them
first_by : (Sym → Bool) → (Sym × Sym → Bool) → List Entry → List Pair → Option (Pair × (Sym × Sym))
first_by variable test entries [] = None
first_by variable test entries (p ∷ ps) =
    or_later p (least (filter test (products (filter variable (substitute entries p.a)) (filter variable (substitute entries p.b))))) (first_by variable test entries ps)

by_known : (known : Known) (r : Rule) (entries : List Entry) (pairs : List Pair)
    → first_failing known r entries pairs ≡ first_by (λ s. list_any (nat_eq s.0) known.variables) (fails known r) entries pairs
unfolding first_by
by_known known r entries [] = refl
by_known known r entries (p ∷ ps) =
    let variable : Sym → Bool = λ (s : Sym). list_any (nat_eq s.0) known.variables in
    ap (or_later p (least (filter (fails known r) (products (filter variable (substitute entries p.a)) (filter variable (substitute entries p.b)))))) (by_known known r entries ps)

by_theorem : (test : Sym × Sym → Bool) (thm : Theorem) (entries : List Entry) (pairs : List Pair) → first_pair test thm entries pairs ≡ first_by (is_variable thm) test entries pairs
unfolding first_by
by_theorem test thm entries [] = refl
by_theorem test thm entries (p ∷ ps) =
    ap (or_later p (least (filter test (products (filter (is_variable thm) (substitute entries p.a)) (filter (is_variable thm) (substitute entries p.b)))))) (by_theorem test thm entries ps)

same_first : (thm : Theorem) (known : Known) (r : Rule) (test : Sym × Sym → Bool) (entries : List Entry) (pairs : List Pair) → IsKnown thm known → ((vw : Sym × Sym) → fails known r vw ≡ test vw)
    → first_failing known r entries pairs ≡ first_pair test thm entries pairs
same_first thm known r test entries pairs k t =
    let variables : (λ (s : Sym). list_any (nat_eq s.0) known.variables) ≡ is_variable thm = fun_ext k.variables.same in
    let tests : fails known r ≡ test = fun_ext t in
    by_known known r entries pairs ∙ ap (λ (v : Sym → Bool). first_by v (fails known r) entries pairs) variables
    ∙ ap (λ (u : Sym × Sym → Bool). first_by (is_variable thm) u entries pairs) tests ∙ sym (by_theorem test thm entries pairs)

-- ---- the two rules

turned : (m n : ℕ) → eqb m n ≡ eqb n m
turned m n = grind (arith, nat_tests)

shuffled : (a b c d : Bool) → ((a || b) || (c || d)) ≡ ((a || c) || (b || d))
shuffled true b c d = refl
shuffled false true true d = refl
shuffled false true false d = refl
shuffled false false c d = refl

any_or : (P Q : Pair → Bool) (ps : List Pair) → (list_any P ps || list_any Q ps) ≡ list_any (λ (p : Pair). P p || Q p) ps
any_or P Q [] = refl
any_or P Q (p ∷ ps) = shuffled (P p) (list_any P ps) (Q p) (list_any Q ps) ∙ ap (λ (t : Bool). (P p || Q p) || t) (any_or P Q ps)

pair_turned : (v w : ℕ) (p : Pair) → is_pair v w (p.a.0, p.b.0) ≡ (eqb p.a.0 v && eqb p.b.0 w)
pair_turned v w p = ap (λ (t : Bool). t && eqb w p.b.0) (turned v p.a.0) ∙ ap (λ (t : Bool). eqb p.a.0 v && t) (turned w p.b.0)

joined : (thm : Theorem) (numbers : List (ℕ × ℕ)) (vw : Sym × Sym) → SamePairs thm.pairs numbers → joins numbers vw ≡ is_active_pair thm vw
joined thm numbers vw h =
    let v = vw.0.0 in
    let w = vw.1.0 in
    let one : Pair → Bool = λ (p : Pair). is_pair v w (p.a.0, p.b.0) in
    let other : Pair → Bool = λ (p : Pair). is_pair w v (p.a.0, p.b.0) in
    let test : (λ (p : Pair). one p || other p) ≡ (λ (p : Pair). (eqb p.a.0 v && eqb p.b.0 w) || (eqb p.a.0 w && eqb p.b.0 v)) =
    fun_ext (λ (p : Pair). ap (λ (t : Bool). t || other p) (pair_turned v w p) ∙ ap (λ (t : Bool). (eqb p.a.0 v && eqb p.b.0 w) || t) (pair_turned w v p)) in
    ap (λ (t : Bool). t || list_any (is_pair w v) numbers) (h.same v w) ∙ ap (λ (t : Bool). list_any one thm.pairs || t) (h.same w v)
    ∙ any_or one other thm.pairs ∙ ap (λ (t : Pair → Bool). list_any t thm.pairs) test

pub shared_is : (thm : Theorem) (known : Known) (entries : List Entry) (pairs : List Pair) → IsKnown thm known
    → shared_fault thm entries pairs ≡ option_map (λ (f : Pair × (Sym × Sym)). shared f.0.a f.0.b f.1.0) (first_failing known rule.Shared entries pairs)
shared_is thm known entries pairs k =
    ap (option_map (λ (f : Pair × (Sym × Sym)). shared f.0.a f.0.b f.1.0)) (sym (same_first thm known rule.Shared is_shared entries pairs k (λ (vw : Sym × Sym). refl)))

pub distinct_is : (thm : Theorem) (known : Known) (entries : List Entry) (pairs : List Pair) → IsKnown thm known
    → distinct_fault thm entries pairs ≡ option_map (λ (f : Pair × (Sym × Sym)). not_distinct f.1.0 f.1.1) (first_failing known rule.Distinct entries pairs)
distinct_is thm known entries pairs k =
    ap (option_map (λ (f : Pair × (Sym × Sym)). not_distinct f.1.0 f.1.1))
    (sym
    (same_first thm known rule.Distinct (λ (vw : Sym × Sym). not (is_active_pair thm vw)) entries pairs k
    (λ (vw : Sym × Sym). ap (λ (t : Bool). not t) (joined thm known.pairs.keys vw k.pairs))))

pub none_shared : (thm : Theorem) (known : Known) (entries : List Entry) (pairs : List Pair) (o : Option (Pair × (Sym × Sym))) → IsKnown thm known
    → o ≡ first_failing known rule.Shared entries pairs → o ≡ None → shared_fault thm entries pairs ≡ None
none_shared thm known entries pairs o k e n = shared_is thm known entries pairs k ∙ ap (option_map (λ (f : Pair × (Sym × Sym)). shared f.0.a f.0.b f.1.0)) (sym e ∙ n)

pub some_shared : (thm : Theorem) (known : Known) (entries : List Entry) (pairs : List Pair) (o : Option (Pair × (Sym × Sym)))
    (f : Pair × (Sym × Sym))
    → IsKnown thm known → o ≡ first_failing known rule.Shared entries pairs → o ≡ Some f
    → shared_fault thm entries pairs ≡ Some (shared f.0.a f.0.b f.1.0)
some_shared thm known entries pairs o f k e n = shared_is thm known entries pairs k ∙ ap (option_map (λ (f : Pair × (Sym × Sym)). shared f.0.a f.0.b f.1.0)) (sym e ∙ n)

pub all_distinct : (thm : Theorem) (known : Known) (entries : List Entry) (pairs : List Pair) (o : Option (Pair × (Sym × Sym))) → IsKnown thm known
    → o ≡ first_failing known rule.Distinct entries pairs → o ≡ None → distinct_fault thm entries pairs ≡ None
all_distinct thm known entries pairs o k e n = distinct_is thm known entries pairs k ∙ ap (option_map (λ (f : Pair × (Sym × Sym)). not_distinct f.1.0 f.1.1)) (sym e ∙ n)

pub some_not_distinct : (thm : Theorem) (known : Known) (entries : List Entry) (pairs : List Pair) (o : Option (Pair × (Sym × Sym)))
    (f : Pair × (Sym × Sym))
    → IsKnown thm known → o ≡ first_failing known rule.Distinct entries pairs → o ≡ Some f
    → distinct_fault thm entries pairs ≡ Some (not_distinct f.1.0 f.1.1)
some_not_distinct thm known entries pairs o f k e n = distinct_is thm known entries pairs k ∙ ap (option_map (λ (f : Pair × (Sym × Sym)). not_distinct f.1.0 f.1.1)) (sym e ∙ n)
