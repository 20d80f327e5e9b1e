-- Parts of a list of symbols, which stay as they are while the list grows.
use Rattle.std.proofs.Common.{◌≡◌, ℕ, suc, ◌+◌, ◌-◌, List, [], ◌∷◌, ◌++◌, length, take, drop, refl, sym, ap, ◌∙◌, arith}
use Rattle.std.specs.Prelude.{All, reverse, slice_get, Option, Some, Ok, option_map}
use Rattle.std.proofs.lemmas.List.{drop-append-le, take-append-le, length-drop, length-map, length-reverse, map-append, reverse-append, reverse-reverse, take-append-drop}
use Rattle.std.proofs.lemmas.Option.{slice_get-map}
use Rattle.std.proofs.Math.Seq.{drop-append_seam, take-append_seam, take-length}
use Rattle.mm_base.specs.declared.symbols.Sym.{Sym}
use Rattle.proof_model.specs.Machine.{Formula, State, push, use_kept}
use Rattle.stack_verify.specs.declared.formula.Span.{Span}
use Rattle.stack_verify.specs.Stacks.{IsWithin, formula_in, formulas_in, state_of}

pub grown : (xs more : List Sym) (s : Span) → IsWithin (length xs) s → formula_in (xs ++ more) s ≡ formula_in xs s
grown xs more s h =
    ap (take (s.to - s.from)) (drop-append-le s.from xs more (omega arith)) ∙ take-append-le (s.to - s.from) (drop s.from xs) more (omega (arith, length-drop s.from xs))

pub newest : (xs f : List Sym) (s : Span) → s.from ≡ length xs → s.to ≡ length xs + length f → formula_in (xs ++ f) s ≡ f
newest xs f s e t =
    let n : s.to - s.from ≡ length f = omega arith in
    ap (λ (k : ℕ). take (s.to - s.from) (drop k (xs ++ f))) e ∙ ap (take (s.to - s.from)) (drop-append_seam xs f) ∙ ap (λ (k : ℕ). take k f) n ∙ take-length f

pub all_tail : {X : Type 0} (P : X → Type 0) (x : X) (xs : List X) → All P (x ∷ xs) → All P xs
all_tail P x xs h = λ k d lt. h (suc k) d (omega arith)

pub all_head : {X : Type 0} (P : X → Type 0) (x : X) (xs : List X) → All P (x ∷ xs) → P x
all_head P x xs h = h 0 x (omega arith)

pub formulas_grown : (xs more : List Sym) (ss : List Span) → All (IsWithin (length xs)) ss → formulas_in (xs ++ more) ss ≡ formulas_in xs ss
formulas_grown xs more [] h = refl
formulas_grown xs more (s ∷ ss) h =
    ap (λ (f : Formula). f ∷ formulas_in (xs ++ more) ss) (grown xs more s (all_head (IsWithin (length xs)) s ss h))
    ∙ ap (λ (fs : List Formula). formula_in xs s ∷ fs) (formulas_grown xs more ss (all_tail (IsWithin (length xs)) s ss h))

-- ---- pushing

-- a state of these parts
abbrev pub make : List Formula → List Formula → State
make stack kept = record { stack = stack; kept = kept }

pub same_state : (s t k l : List Formula) → s ≡ t → k ≡ l → make s k ≡ make t l
same_state s t k l e f = ap (λ (x : List Formula). make x k) e ∙ ap (make t) f

-- one more entry
pub entry_pushed : (xs : List Sym) (es : List Span) (s : Span) → reverse (formulas_in xs (es ++ s ∷ [])) ≡ formula_in xs s ∷ reverse (formulas_in xs es)
entry_pushed xs es s =
    ap (λ (l : List Formula). reverse l) (map-append (formula_in xs) es (s ∷ [])) ∙ reverse-append (formulas_in xs es) (formula_in xs s ∷ [])

pub pushed : (xs ys f : List Sym) (es fs ks : List Span) (s : Span) → ys ≡ xs ++ f → fs ≡ es ++ s ∷ [] → s.from ≡ length xs → s.to ≡ length xs + length f
    → All (IsWithin (length xs)) es → All (IsWithin (length xs)) ks → state_of ys fs ks ≡ push f (state_of xs es ks)
pushed xs ys f es fs ks s ey ef e t we wk =
    let stack : reverse (formulas_in ys fs) ≡ f ∷ reverse (formulas_in xs es) =
    ap (λ (y : List Sym). reverse (formulas_in y fs)) ey ∙ ap (λ (l : List Span). reverse (formulas_in (xs ++ f) l)) ef ∙ entry_pushed (xs ++ f) es s
    ∙ ap (λ (g : Formula). g ∷ reverse (formulas_in (xs ++ f) es)) (newest xs f s e t) ∙ ap (λ (l : List Formula). f ∷ reverse l) (formulas_grown xs f es we) in
    let kept : formulas_in ys ks ≡ formulas_in xs ks = ap (λ (y : List Sym). formulas_in y ks) ey ∙ formulas_grown xs f ks wk in
    same_state (reverse (formulas_in ys fs)) (f ∷ reverse (formulas_in xs es)) (formulas_in ys ks) (formulas_in xs ks) stack kept

-- what a marked step left
pub kept_pushed : (xs : List Sym) (es fs ks : List Span) (k : ℕ) (s : Span) → fs ≡ es ++ s ∷ [] → slice_get ks k ≡ Some s
    → use_kept (slice_get (formulas_in xs ks) k) (state_of xs es ks) ≡ Ok (state_of xs fs ks)
kept_pushed xs es fs ks k s ef g =
    ap (λ (o : Option Formula). use_kept o (state_of xs es ks)) (slice_get-map (formula_in xs) ks k ∙ ap (option_map (formula_in xs)) g)
    ∙ ap (λ (l : List Formula). Ok (make l (formulas_in xs ks))) (sym (entry_pushed xs es s) ∙ ap (λ (l : List Span). reverse (formulas_in xs l)) (sym ef))

-- ---- the entries on top

top_of : {A : Type 0} (below top : List A) (n : ℕ) → length top ≡ n → reverse (take n (reverse (below ++ top))) ≡ top
top_of {A} below top n e =
    let m : length (reverse top) ≡ n = length-reverse top ∙ e in
    ap (λ (l : List A). reverse (take n l)) (reverse-append below top) ∙ ap (λ (k : ℕ). reverse (take k (reverse top ++ reverse below))) (sym m)
    ∙ ap (λ (l : List A). reverse l) (take-append_seam (reverse top) (reverse below)) ∙ reverse-reverse top

below_top : {A : Type 0} (below top : List A) (n : ℕ) → length top ≡ n → drop n (reverse (below ++ top)) ≡ reverse below
below_top {A} below top n e =
    let m : length (reverse top) ≡ n = length-reverse top ∙ e in
    ap (drop n) (reverse-append below top) ∙ ap (λ (k : ℕ). drop k (reverse top ++ reverse below)) (sym m) ∙ drop-append_seam (reverse top) (reverse below)

parted : (xs : List Sym) (es : List Span) (b : ℕ) → formulas_in xs es ≡ formulas_in xs (take b es) ++ formulas_in xs (drop b es)
parted xs es b = ap (formulas_in xs) (sym (take-append-drop b es)) ∙ map-append (formula_in xs) (take b es) (drop b es)

top_count : (xs : List Sym) (es : List Span) (b n : ℕ) → b + n ≡ length es → length (formulas_in xs (drop b es)) ≡ n
top_count xs es b n e = length-map (drop b es) (formula_in xs) ∙ length-drop b es ∙ omega arith

pub taken_is : (xs : List Sym) (es : List Span) (b n : ℕ) → b + n ≡ length es → reverse (take n (reverse (formulas_in xs es))) ≡ formulas_in xs (drop b es)
taken_is xs es b n e = ap (λ (l : List Formula). reverse (take n (reverse l))) (parted xs es b) ∙ top_of (formulas_in xs (take b es)) (formulas_in xs (drop b es)) n (top_count xs es b n e)

pub left_is : (xs : List Sym) (es : List Span) (b n : ℕ) → b + n ≡ length es → drop n (reverse (formulas_in xs es)) ≡ reverse (formulas_in xs (take b es))
left_is xs es b n e = ap (λ (l : List Formula). drop n (reverse l)) (parted xs es b) ∙ below_top (formulas_in xs (take b es)) (formulas_in xs (drop b es)) n (top_count xs es b n e)

pub stack_count : (xs : List Sym) (es : List Span) → length (reverse (formulas_in xs es)) ≡ length es
stack_count xs es = length-reverse (formulas_in xs es) ∙ length-map es (formula_in xs)
