-- The symbols and the proof's words of the statements of a block.
use Rattle.std.proofs.Common.{◌≡◌, ◌+◌, ◌==◌, subst, ℕ, suc, Bool, true, false, not, cond, List, [], ◌∷◌, ◌++◌, length, take, drop, map, refl, sym, ap, ◌∙◌, codes, arith, append_assoc}
use Rattle.std.specs.List.{AllByRecursion, list_any, position_or_len, prefix_len, before_first, after_first, take_while}
use Rattle.std.specs.Str.{bytes_eq}
use Rattle.mm_base.specs.declared.symbols.Sym.{Sym}
use Rattle.mm_model.specs.declared.frames.Hyp.{Hyp}
use Rattle.mm_model.specs.Names.{Name}
use Rattle.mm_model.specs.Words.{words}
use Rattle.mm_model.specs.Statements.{Statement}
use Rattle.mm_model.specs.Frames.{symbol_in}
use Rattle.proof_model.specs.DatabaseProofs.{proof_words}
use Rattle.install_model.specs.declared.install.NewTheorem.{NewTheorem}
use Rattle.install_model.specs.Moved.{hyp_statement, theorem_statement}
use Rattle.install_laws.specs.InstalledStatements.{names, HasNoDollar, IsPlain, IsPlainTheorem}
use Rattle.install_laws.proofs.ActiveNames.{has_kw, label_of, hyp_of}
use Rattle.install_laws.proofs.NamesLaw.{is_plain, plain_is, symbol_names}
use Rattle.install_laws.proofs.ProofsLaw.{words_by}
use Rattle.install_laws.proofs.StatementCuts.{apart}
use Rattle.install_laws.proofs.StatementsLaw.{dollars}
use Rattle.install_laws.proofs.WordLaws.{names_in, names_from, names_dollar, plain_dollar}

-- ---- symbols

take_plain : (ns : List Name) (k : Name) (more : List Name) → AllByRecursion IsPlain ns → is_plain k ≡ false → take_while is_plain (ns ++ k ∷ more) ≡ ns
take_plain [] k more a e = rw e refl
take_plain (n ∷ ns) k more a e =
    let one : 1 + prefix_len is_plain (ns ++ k ∷ more) ≡ suc (prefix_len is_plain (ns ++ k ∷ more)) = omega arith in
    rw (plain_is n (plain_dollar n a.0), one) (ap (λ xs. n ∷ xs) (take_plain ns k more a.1 e))

symbols_behind : (n k : Name) (ns : List Name) (e : Name) (more : List Name) → HasNoDollar n → is_plain k ≡ false → AllByRecursion IsPlain ns → is_plain e ≡ false
    → symbol_names (n ∷ k ∷ (ns ++ e ∷ more)) ≡ ns
symbols_behind n k ns e more d f a g = at_keyword ∙ take_plain ns e more a g
  where
    at_keyword : symbol_names (n ∷ k ∷ (ns ++ e ∷ more)) ≡ take_while is_plain (ns ++ e ∷ more)
    at_keyword = rw (plain_is n d, f) refl

pub hyp_symbols : (h : Name × List Name) → IsPlain h.0 × AllByRecursion IsPlain h.1 → symbol_names (hyp_statement h) ≡ h.1
hyp_symbols h p = symbols_behind h.0 (codes "$e") h.1 (codes "$.") [] (plain_dollar h.0 p.0) refl p.1 refl

pub theorem_symbols : (t : NewTheorem) → IsPlainTheorem t → symbol_names (theorem_statement t) ≡ t.formula
theorem_symbols t p =
    ap (λ ns. symbol_names (t.name ∷ codes "$p" ∷ ns)) (append_assoc t.formula (codes "$=" ∷ names (words t.proof)) (codes "$." ∷ []))
    ∙ symbols_behind t.name (codes "$p") t.formula (codes "$=") (names (words t.proof) ++ codes "$." ∷ []) (plain_dollar t.name p.name) refl p.formula refl

abbrev hyp_with : Name → Bool → List Sym → Hyp
hyp_with name floating formula = record { name = name; floating = floating; formula = formula }

-- the hypothesis of a `$e` of the block
pub hyp_is : (syms : List Name) (h : Name × List Name) → IsPlain h.0 × AllByRecursion IsPlain h.1
    → hyp_of syms (hyp_statement h) ≡ record { name = h.0; floating = false; formula = map (symbol_in syms) h.1 }
hyp_is syms h p =
    ap (λ n. hyp_with n (has_kw (codes "$f") (hyp_statement h)) (map (symbol_in syms) (symbol_names (hyp_statement h)))) (ap (λ b. cond b h.0 []) (plain_is h.0 (plain_dollar h.0 p.0)))
    ∙ ap (λ b. hyp_with h.0 b (map (symbol_in syms) (symbol_names (hyp_statement h)))) (not_float h.0 (h.1 ++ codes "$." ∷ []) (plain_dollar h.0 p.0))
    ∙ ap (λ ns. hyp_with h.0 false (map (symbol_in syms) ns)) (hyp_symbols h p)
  where
    not_float : (n : Name) (ns : List Name) → HasNoDollar n → has_kw (codes "$f") (n ∷ codes "$e" ∷ ns) ≡ false
    not_float n ns d = rw (plain_is n d) refl

-- ---- the words of the proof

module _ (p : Name → Bool) where
  position_at : (xs : List Name) (k : Name) (ys : List Name) → AllByRecursion (λ n. p n ≡ false) xs → p k ≡ true → position_or_len p (xs ++ k ∷ ys) ≡ length xs
  position_at [] k ys a e = ap (λ b. cond (not b) (1 + position_or_len p ys) 0) e
  position_at (x ∷ xs) k ys a e =
      let rest = position_at xs k ys a.1 e in
      let one : 1 + position_or_len p (xs ++ k ∷ ys) ≡ suc (length xs) = omega (arith, rest) in
      ap (λ b. cond (not b) (1 + position_or_len p (xs ++ k ∷ ys)) 0) a.0 ∙ one

  before_at : (xs : List Name) (k : Name) (ys : List Name) → AllByRecursion (λ n. p n ≡ false) xs → p k ≡ true → before_first p (xs ++ k ∷ ys) ≡ xs
  before_at xs k ys a e = ap (λ n. take n (xs ++ k ∷ ys)) (position_at xs k ys a e) ∙ front xs
    where
      front : (zs : List Name) → take (length zs) (zs ++ k ∷ ys) ≡ zs
      front [] = refl
      front (z ∷ zs) = ap (λ us. z ∷ us) (front zs)

  after_at : (xs : List Name) (k : Name) (ys : List Name) → AllByRecursion (λ n. p n ≡ false) xs → p k ≡ true → after_first p (xs ++ k ∷ ys) ≡ ys
  after_at xs k ys a e =
      let more : length xs + 1 ≡ suc (length xs) = omega arith in
      ap (λ n. drop (n + 1) (xs ++ k ∷ ys)) (position_at xs k ys a e) ∙ ap (λ n. drop n (xs ++ k ∷ ys)) more ∙ back xs
    where
      back : (zs : List Name) → drop (suc (length zs)) (zs ++ k ∷ ys) ≡ ys
      back [] = refl
      back (z ∷ zs) = back zs

no_keyword : (k : Name) → list_any (λ b. b == 36) k ≡ true → (ns : List Name) → AllByRecursion HasNoDollar ns → AllByRecursion (λ n. bytes_eq n k ≡ false) ns
no_keyword k e [] a = tt
no_keyword k e (n ∷ ns) a = (apart n k a.0 e, no_keyword k e ns a.1)

pub proof_words_are : (t : NewTheorem) → IsPlainTheorem t → (w : Statement) → names w ≡ theorem_statement t → proof_words w ≡ names (words t.proof)
proof_words_are t p w e =
    words_by w
    ∙ ap (λ ns. before_first (λ n. bytes_eq n (codes "$.")) (after_first (λ n. bytes_eq n (codes "$=")) ns))
    (e ∙ ap (λ ns. t.name ∷ codes "$p" ∷ ns) (append_assoc t.formula (codes "$=" ∷ names (words t.proof)) (codes "$." ∷ [])))
    ∙ ap (before_first (λ n. bytes_eq n (codes "$.")))
    (after_at (λ n. bytes_eq n (codes "$=")) (t.name ∷ codes "$p" ∷ t.formula) (codes "$=") (names (words t.proof) ++ codes "$." ∷ [])
    (apart t.name (codes "$=") (plain_dollar t.name p.name) refl, (refl, no_keyword (codes "$=") refl t.formula (dollars t.formula p.formula))) refl)
    ∙ before_at (λ n. bytes_eq n (codes "$.")) (names (words t.proof)) (codes "$.") []
    (no_keyword (codes "$.") refl (names (words t.proof)) (bare (names_dollar t.proof p.proof))) refl
  where
    bare : AllByRecursion HasNoDollar (names_in t.proof) → AllByRecursion HasNoDollar (names (words t.proof))
    bare a = subst (AllByRecursion HasNoDollar) (sym (names_from 0 t.proof)) a
