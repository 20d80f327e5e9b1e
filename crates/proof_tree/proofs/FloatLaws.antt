-- The labels of the `$f` of variables.
use Rattle.std.proofs.Common.{◌≡◌, ℕ, ◌+◌, ◌<◌, ◌≤◌, Bool, true, false, ◌||◌, ◌==◌, cond, List, [], ◌∷◌, ◌++◌, length, take, get_or, find, Option}
use Rattle.std.proofs.Common.{Some, None, option_map, refl, sym, ap, ◌∙◌}
use Rattle.std.specs.List.{list_any}
use Rattle.std.proofs.lemmas.List.Folds.{list_any-append}
use Rattle.mm_base.specs.declared.symbols.Sym.{Sym}
use Rattle.mm_model.specs.declared.frames.Hyp.{Hyp}
use Rattle.mm_model.specs.Names.{Name, sym as symbol}
use Rattle.proof_model.specs.Machine.{is_float_of}
use Rattle.proof_tree.specs.Given.{sooner, float_name, AreFloats, named_where, PutsName, PutsOne, PutsFloat}
use Rattle.proof_tree.proofs.GraphLaws.{take_more, take_whole}

abbrev Labels : Type 0
Labels = ℕ → Option Name

sooner_none : {X : Type 0} (o : Option X) → o ≡ sooner o None
sooner_none None = refl
sooner_none (Some x) = refl

sooner_twice : {X : Type 0} (a b c : Option X) → sooner (sooner a b) c ≡ sooner a (sooner b c)
sooner_twice None b c = refl
sooner_twice (Some x) b c = refl

named_or : (a b : Bool) (n : Name) → sooner (named_where a n) (named_where b n) ≡ named_where (a || b) n
named_or true b n = refl
named_or false b n = refl

or_false : (b : Bool) → (b || false) ≡ b
or_false true = refl
or_false false = refl

-- ---- the symbols of one formula

pub puts_none : (name : Name) (f : Labels) → PutsName name [] f f
puts_none name f s = sooner_none (f s)

pub puts_one : (name : Name) (symbols : List Sym) (i : ℕ) (first old new : Labels) → i < length symbols → PutsName name (take i symbols) first old
    → PutsOne name (get_or symbols i (symbol 0)).0 old new
    → PutsName name (take (i + 1) symbols) first new
puts_one name symbols i first old new inside before one s =
    let x = get_or symbols i (symbol 0) in
    let passes = list_any (λ (v : Sym). v.0 == s) (take i symbols) in
    one s ∙ ap (λ o. sooner o (named_where (x.0 == s) name)) (before s) ∙ sooner_twice (first s) (named_where passes name) (named_where (x.0 == s) name)
    ∙ ap (sooner (first s)) (named_or passes (x.0 == s) name)
    ∙ ap (λ b. sooner (first s) (named_where (passes || b) name)) (sym (or_false (x.0 == s)))
    ∙ ap (λ b. sooner (first s) (named_where b name)) (sym (list_any-append (λ (v : Sym). v.0 == s) (take i symbols) (x ∷ [])))
    ∙ ap (λ (l : List Sym). sooner (first s) (named_where (list_any (λ (v : Sym). v.0 == s) l) name)) (sym (take_more symbols i (symbol 0) inside))

pub puts_all : (name : Name) (symbols : List Sym) (i : ℕ) (first now : Labels) → length symbols ≤ i → PutsName name (take i symbols) first now → PutsName name symbols first now
puts_all name symbols i first now done put s = put s ∙ ap (λ (l : List Sym). sooner (first s) (named_where (list_any (λ (v : Sym). v.0 == s) l) name)) (take_whole symbols i done)

-- ---- the hypotheses

find_push : {X : Type 0} (p : X → Bool) (xs : List X) (x : X) → find p (xs ++ x ∷ []) ≡ sooner (find p xs) (cond (p x) (Some x) None)
find_push p [] x = refl
find_push p (y ∷ xs) x = by (p y) (find_push p xs x)
  where
    by : (b : Bool) → find p (xs ++ x ∷ []) ≡ sooner (find p xs) (cond (p x) (Some x) None) → cond b (Some y) (find p (xs ++ x ∷ [])) ≡ sooner (cond b (Some y) (find p xs)) (cond (p x) (Some x) None)
    by true e = refl
    by false e = e

named_of : (b : Bool) (h : Hyp) → option_map (λ (h : Hyp). h.name) (cond b (Some h) None) ≡ named_where b h.name
named_of true h = refl
named_of false h = refl

map_sooner : {X Y : Type 0} (f : X → Y) (a b : Option X) → option_map f (sooner a b) ≡ sooner (option_map f a) (option_map f b)
map_sooner f None b = refl
map_sooner f (Some x) b = refl

pub more_floats : (hyps : List Hyp) (i : ℕ) (h : Hyp) (old new : Labels) → i < length hyps → h ≡ get_or hyps i h → AreFloats (take i hyps) old
    → PutsFloat h old new → AreFloats (take (i + 1) hyps) new
more_floats hyps i h old new inside is before put s =
    put s ∙ ap (λ o. sooner o (named_where (is_float_of (symbol s) h) h.name)) (before s)
    ∙ ap (sooner (float_name (take i hyps) s)) (sym (named_of (is_float_of (symbol s) h) h))
    ∙ sym (map_sooner (λ (h : Hyp). h.name) (find (is_float_of (symbol s)) (take i hyps)) (cond (is_float_of (symbol s) h) (Some h) None))
    ∙ ap (option_map (λ (h : Hyp). h.name)) (sym (find_push (is_float_of (symbol s)) (take i hyps) h))
    ∙ ap (λ l. float_name l s) (ap (λ y. take i hyps ++ y ∷ []) is ∙ sym (take_more hyps i h inside))

pub all_floats : (hyps : List Hyp) (i : ℕ) (f : Labels) → length hyps ≤ i → AreFloats (take i hyps) f → AreFloats hyps f
all_floats hyps i f done are s = are s ∙ ap (λ l. float_name l s) (take_whole hyps i done)
