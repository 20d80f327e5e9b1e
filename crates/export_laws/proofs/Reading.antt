-- The formula of a good tree reads back as that tree, and its symbols are active.
use Rattle.std.specs.Prelude.{◌≡◌, ◌<◌, ◌==◌, ℕ, Bool, true, false, List, [], ◌∷◌, ◌++◌, length, map, flat_map, filter_map, Contains, is_some, Option, Some, None, option_map, refl}
use Rattle.std.specs.List.{AllByRecursion, list_any, list_all, cons_option}
use Rattle.std.specs.Option.{option_map_or}
use Rattle.std.specs.Str.{bytes_eq}
use Rattle.std.proofs.Common.{sym, ap, subst, ◌∙◌, cond, inl, inr}
use Rattle.std.proofs.lemmas.Bool.{and_from, or_cases}
use Rattle.std.proofs.lemmas.Slice.Eq.{bytes_eq-Decides}
use Rattle.mm_base.specs.declared.symbols.Sym.{Sym}
use Rattle.mm_base.specs.declared.tree.Tree.{Tree}
use Rattle.mm_model.specs.declared.rows.Leaf.{Leaf}
use Rattle.mm_model.specs.declared.rows.Leaf.TheVariants as leaf
use Rattle.mm_model.specs.Names.{Name}
use Rattle.mm_model.specs.Texts.{text}
use Rattle.mm_model.specs.Book.{Database, symbol_of, symbol_name, logic_code, declared_leaf, float_of}
use Rattle.mm_model.specs.BookFacts.{IsKnownAt}
use Rattle.mm_model.proofs.NameLaws.{symbol_back}
use Rattle.solve_model.specs.Binding.{names_of}
use Rattle.solve_model.specs.Formulas.{leaf_by, leaf_of, IsTreeOf}
use Rattle.written_model.specs.ProofsPush.{leaf_symbols}
use Rattle.export_model.specs.Exported.{is_provable}
use Rattle.again_laws.proofs.TokenLaws.{symbol_told}
use Rattle.push_laws.proofs.Facts.{IsBook}
use Rattle.push_laws.proofs.Lists.{all_in, nothing}
use Rattle.push_laws.proofs.Parts.{fine_text}
use Rattle.push_laws.proofs.Replaced.{no_theorem}
use Rattle.push_laws.proofs.Tokens.{const_named}
use Rattle.push_laws.proofs.TreeProofs.{tree_symbols}
use Rattle.fitting_laws.specs.FitsAsWritten.{is_active}
use Rattle.export_laws.proofs.GoodTrees.{IsGood, IsGoodAs}

module _ (db : Database) (book : IsBook db) (place : ℕ) where
  -- the leaf of one symbol, which is it at the place
  pub record IsTold (x : Leaf) : Type 0 where
    pub symbol : Sym
    pub says : leaf_symbols x ≡ symbol ∷ []
    pub within : symbol.0 < length db.symbols
    pub declared : declared_leaf db place symbol ≡ Some x

  const_leaf : (s : Sym) → db.is_constant_at s place ≡ true → declared_leaf db place s ≡ Some (leaf.Const s)
  const_leaf s c =
      ap (λ (b : Bool). cond b (Some (leaf.Const s))
      (cond (list_any (λ (v : Sym). v.0 == s.0) (db.active_at place).variables) (option_map (λ c. leaf.Var s c) (float_of s (db.active_at place).hyps)) None)) c

  told_leaf : (t : Tree) → IsGood db place t → (x : Leaf) → Contains (text db.rows t) x → IsTold x
  told_leaf t g (leaf.Const s) h = record {
    symbol = s;
    says = refl;
    within = const_named db book place t g.typed s h;
    declared = const_leaf s (fine_text db book (no_theorem place) (λ y c. absurd (nothing y c)) t g.typed (leaf.Const s) h);
  }
  told_leaf t g (leaf.Var s c) h = let v = g.vars s c h in record { symbol = s; says = refl; within = v.within; declared = v.declared }
  told_leaf t g (leaf.Work c n) h = absurd (g.no_work c n h)

  all_told : (t : Tree) → IsGood db place t → AllByRecursion IsTold (text db.rows t)
  all_told t g = all_in IsTold (text db.rows t) (λ x h. told_leaf t g x h)

  leaf_read : (s : Sym) → s.0 < length db.symbols → leaf_of db place (symbol_name db s) ≡ declared_leaf db place s
  leaf_read s l = ap (leaf_by db place (symbol_name db s)) (symbol_back db.symbols book.facts.symbols s.0 l)

  texts_read : (xs : List Leaf) → AllByRecursion IsTold xs → filter_map (leaf_of db place) (map (symbol_name db) (flat_map leaf_symbols xs)) ≡ xs
  texts_read [] a = refl
  texts_read (x ∷ xs) a =
      ap (λ (ss : List Sym). filter_map (leaf_of db place) (map (symbol_name db) (ss ++ flat_map leaf_symbols xs))) a.0.says
      ∙ ap (λ o. cons_option o (filter_map (leaf_of db place) (map (symbol_name db) (flat_map leaf_symbols xs)))) (leaf_read a.0.symbol a.0.within ∙ a.0.declared)
      ∙ ap (λ ys. x ∷ ys) (texts_read xs a.1)

  -- the formula of a good tree has this tree
  pub good_is_read : (p : Sym) (t : Tree) → IsGoodAs db place (logic_code db) t → IsTreeOf db place (names_of db (p ∷ tree_symbols db t)) t
  good_is_read p t g = record {
    code = g.code;
    typed = g.good.typed;
    named = g.good.named;
    written = sym (texts_read (text db.rows t) (all_told t g.good));
  }

  -- ---- active symbols

  pub record IsActive (s : Sym) : Type 0 where
    pub within : s.0 < length db.symbols
    pub declared : is_some (declared_leaf db place s) ≡ true

  -- the provable typecode, and active symbols
  pub record IsActiveFormula (p : Sym) (g : List Sym) : Type 0 where
    pub rest : List Sym
    pub formula : g ≡ p ∷ rest
    pub each : AllByRecursion IsActive rest

  told_active : (xs : List Leaf) → AllByRecursion IsTold xs → AllByRecursion IsActive (flat_map leaf_symbols xs)
  told_active [] a = tt
  told_active (x ∷ xs) a =
      subst (λ (ss : List Sym). AllByRecursion IsActive (ss ++ flat_map leaf_symbols xs)) (sym a.0.says)
      (record { within = a.0.within; declared = ap (λ o. is_some o) a.0.declared }, told_active xs a.1)

  pub good_is_active : (p : Sym) (g : List Sym) (t : Tree) → IsGood db place t → g ≡ p ∷ tree_symbols db t → IsActiveFormula p g
  good_is_active p g t good e = record { rest = tree_symbols db t; formula = e; each = told_active (text db.rows t) (all_told t good) }

  both_active : (ss : List Sym) → AllByRecursion (λ (s : Sym). s.0 < length db.symbols) ss → AllByRecursion (λ s. is_some (declared_leaf db place s) ≡ true) ss → AllByRecursion IsActive ss
  both_active [] a b = tt
  both_active (s ∷ ss) a b = (record { within = a.0; declared = b.0 }, both_active ss a.1 b.1)

  pub known_is_active : (p : Sym) → symbol_of db db.provable ≡ Some p → (g : List Sym) → is_provable db g ≡ true → IsKnownAt db place g → IsActiveFormula p g
  known_is_active p e [] i k = absurd cc
  known_is_active p e (c ∷ rest) i k =
      let test : bytes_eq (symbol_name db c) db.provable ≡ true = elim
      (or_cases (bytes_eq (symbol_name db c) db.provable) (list_any (λ (s : Sym). bytes_eq (symbol_name db s) db.provable) []) i) [ inl d ↦ d | inr d ↦ absurd cc ] in
      let name : symbol_name db c ≡ db.provable = (bytes_eq-Decides (symbol_name db c) db.provable).0 test in
      let both : Some c ≡ Some p = sym (symbol_back db.symbols book.facts.symbols c.0 k.symbols.0) ∙ ap (symbol_of db) name ∙ e in
      let same : c ≡ p = cc in
      record { rest = rest; formula = ap (λ (x : Sym). x ∷ rest) same; each = both_active rest k.symbols.1 k.leaves }

  token_active : (s : Sym) → IsActive s → is_active db place (symbol_name db s) ≡ true
  token_active s a = ap (λ (o : Option Sym). option_map_or (λ x. is_some (declared_leaf db place x)) o false) (symbol_back db.symbols book.facts.symbols s.0 a.within) ∙ a.declared

  tokens_active : (ss : List Sym) → AllByRecursion IsActive ss → list_all (is_active db place) (map (symbol_name db) ss) ≡ true
  tokens_active [] a = refl
  tokens_active (s ∷ ss) a = and_from _ _ (token_active s a.0) (tokens_active ss a.1)

  pub record IsActiveTokens (tokens : List Name) : Type 0 where
    pub rest : List Name
    pub provable : tokens ≡ db.provable ∷ rest
    pub active : list_all (is_active db place) tokens ≡ true

  pub active_tokens : (p : Sym) → symbol_of db db.provable ≡ Some p → db.is_constant_at p place ≡ true → (g : List Sym) → IsActiveFormula p g → IsActiveTokens (names_of db g)
  active_tokens p e c g a =
      let told = symbol_told db db.provable p e in
      let here : IsActive p = record { within = told.within; declared = ap (λ o. is_some o) (const_leaf p c) } in
      subst (λ (x : List Sym). IsActiveTokens (names_of db x)) (sym a.formula) (record {
        rest = map (symbol_name db) a.rest;
        provable = ap (λ n. n ∷ map (symbol_name db) a.rest) told.name;
        active = tokens_active (p ∷ a.rest) (here, a.each);
      })
