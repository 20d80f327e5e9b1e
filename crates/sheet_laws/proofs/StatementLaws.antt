-- The statements of lines that were put together from statements.
use Rattle.std.proofs.Common.{◌≡◌, ℕ, suc, ◌+◌, true, false, cond, not, List, [], ◌∷◌, ◌++◌, length, refl, sym, ap, ◌∙◌, arith, inl, inr, length-append}
use Rattle.std.proofs.lemmas.Bool.{cases_Bool}
use Rattle.std.proofs.lemmas.List.Sums.{take_while-cons}
use Rattle.std.specs.Prelude.{flat_map, take_while}
use Rattle.std.specs.List.{list_all, AllByRecursion}
use Rattle.sheet_text.specs.Lines.{Line, line, begins}
use Rattle.sheet_text.specs.SheetStatements.{Statement, statement, statements_where, opens_proof, ends_proof}
use Rattle.sheet_laws.proofs.Tests.{and_left, and_right, true_not, cond_then, cond_else}
use Rattle.sheet_laws.proofs.LineLaws.{plain_from, plain_from-append}

abbrev pub lines_with : List Statement → List Line
lines_with ss = flat_map (λ (s : Statement). s.opening ∷ s.more) ss

-- only its first line begins in column 1, and a proof is one line
pub record IsWhole (s : Statement) : Type 0 where
  pub opening : begins s.opening ≡ true
  pub more : list_all (λ m. not (begins m)) s.more ≡ true
  pub proof : opens_proof s.opening ≡ true → (ends_proof s.opening ≡ true) × (s.more ≡ [])

proof_opens : (l : Line) (rest : List Line) → opens_proof l ≡ true → ends_proof l ≡ true → statements_where false (l ∷ rest) ≡ statement l [] ∷ statements_where false rest
proof_opens l rest e f = cond_then (opens_proof l) _ _ e ∙ ap (λ b. statement l [] ∷ statements_where (not b) rest) f

plain_opens : (l : Line) (rest : List Line) → opens_proof l ≡ false → begins l ≡ true
    → statements_where false (l ∷ rest) ≡ statement l (take_while (λ m. not (begins m)) rest) ∷ statements_where false rest
plain_opens l rest e f = cond_else (opens_proof l) _ _ e ∙ cond_then (begins l) _ _ f

no_proof : (l : Line) → begins l ≡ false → opens_proof l ≡ false
no_proof l e = rw e refl

passed_over : (ms rest : List Line) → list_all (λ m. not (begins m)) ms ≡ true → statements_where false (ms ++ rest) ≡ statements_where false rest
passed_over [] rest h = refl
passed_over (m ∷ ms) rest h =
    let e = true_not _ (and_left _ _ h) in
    cond_else (opens_proof m) _ _ (no_proof m e) ∙ cond_else (begins m) _ _ e ∙ passed_over ms rest (and_right _ _ h)

taken : (ms : List Line) (ss : List Statement) → list_all (λ m. not (begins m)) ms ≡ true → AllByRecursion IsWhole ss → take_while (λ m. not (begins m)) (ms ++ lines_with ss) ≡ ms
taken [] [] h w = refl
taken [] (s ∷ ss) h w =
    take_while-cons (λ m. not (begins m)) s.opening (s.more ++ lines_with ss)
    ∙ ap (λ b. cond (not b) (s.opening ∷ take_while (λ m. not (begins m)) (s.more ++ lines_with ss)) []) w.0.opening
taken (m ∷ ms) ss h w =
    take_while-cons (λ m. not (begins m)) m (ms ++ lines_with ss) ∙ cond_then (not (begins m)) _ _ (and_left _ _ h) ∙ ap (λ t. m ∷ t) (taken ms ss (and_right _ _ h) w)

pub statements-whole : (ss : List Statement) → AllByRecursion IsWhole ss → statements_where false (lines_with ss) ≡ ss
statements-whole [] w = refl
statements-whole (s ∷ ss) w =
    elim (cases_Bool (opens_proof s.opening)) [
      | inl e ↦
          proof_opens s.opening (s.more ++ lines_with ss) e (w.0.proof e).0
          ∙ ap (λ t. statement s.opening [] ∷ t) (passed_over s.more (lines_with ss) w.0.more ∙ statements-whole ss w.1)
          ∙ ap (λ t. statement s.opening t ∷ ss) (sym (w.0.proof e).1)
      | inr e ↦
          plain_opens s.opening (s.more ++ lines_with ss) e w.0.opening
          ∙ ap (λ t. statement s.opening t ∷ statements_where false (s.more ++ lines_with ss)) (taken s.more ss w.0.more w.1)
          ∙ ap (λ t. s ∷ t) (passed_over s.more (lines_with ss) w.0.more ∙ statements-whole ss w.1)
    ]

-- ---- numbers

-- a statement by its lines
pub record Piece : Type 0 where
  pub opening : List ℕ
  pub more : List (List ℕ)

abbrev pub statement_at : ℕ → Piece → Statement
statement_at n p = statement (line n p.opening) (plain_from (suc n) p.more)

abbrev pub lines_in : List Piece → List (List ℕ)
lines_in ps = flat_map (λ (p : Piece). p.opening ∷ p.more) ps

-- the statements, the first at this line
abbrev pub numbered : ℕ → List Piece → List Statement
numbered n [] = []
numbered n (p ∷ ps) = statement_at n p ∷ numbered (suc n + length p.more) ps

pub lines-numbered : (n : ℕ) (ps : List Piece) → lines_with (numbered n ps) ≡ plain_from n (lines_in ps)
lines-numbered n [] = refl
lines-numbered n (p ∷ ps) =
    ap (λ t. line n p.opening ∷ t) (ap (λ t. plain_from (suc n) p.more ++ t) (lines-numbered (suc n + length p.more) ps) ∙ sym (plain_from-append (suc n) p.more (lines_in ps)))

pub numbered-append : (n m : ℕ) (ps qs : List Piece) → m ≡ n + length (lines_in ps) → numbered n (ps ++ qs) ≡ numbered n ps ++ numbered m qs
numbered-append n m [] qs e = let f : m ≡ n = omega (arith, e) in rw f refl
numbered-append n m (p ∷ ps) qs e =
    let f : m ≡ suc n + length p.more + length (lines_in ps) = omega (arith, e, length-append p.more (lines_in ps)) in
    ap (λ t. statement_at n p ∷ t) (numbered-append (suc n + length p.more) m ps qs f)
