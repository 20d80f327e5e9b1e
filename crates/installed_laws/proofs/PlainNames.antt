-- Labels, and what is meant at a place, are words without a dollar.
use Rattle.std.specs.Prelude.{◌≡◌, ◌==◌, ◌&&◌, ◌||◌, ℕ, true, false, not, List, [], ◌∷◌, length}
use Rattle.std.specs.List.{AllByRecursion, list_all, list_any}
use Rattle.std.specs.Str.{bytes_eq}
use Rattle.std.proofs.Common.{refl, ap, subst, ◌∙◌, arith, inl, inr}
use Rattle.std.proofs.lemmas.Bool.{and_parts, or_cases, not-true}
use Rattle.std.proofs.lemmas.Bool.Decides.{nat_tests}
use Rattle.mm_base.specs.declared.kinds.Kinds.{Kinds}
use Rattle.mm_model.specs.Labels.{is_label, is_label_byte}
use Rattle.mm_model.specs.Names.{Name, contains}
use Rattle.mm_model.specs.Words.{is_white}
use Rattle.mm_model.specs.Statements.{Statement, statements, constants, variables, typed}
use Rattle.mm_model.specs.Frames.{below, symbols}
use Rattle.mm_model.specs.Book.{Database, IsDatabaseOf}
use Rattle.model_laws.specs.DatabaseLaws.{IsSymbolName}
use Rattle.model_laws.proofs.KnownAt.{constant_known, variable_known}
use Rattle.push_laws.proofs.Declared.{all_names}
use Rattle.install_laws.specs.InstalledStatements.{IsPlain, HasNoDollar}
use Rattle.installed_laws.specs.CanBePutIn.{is_meant, is_formula, is_pair}

-- ---- symbols and labels

none_white : (bs : List ℕ) → list_all (λ b. not (is_white b)) bs ≡ true → AllByRecursion (λ b. is_white b ≡ false) bs
none_white [] h = tt
none_white (b ∷ bs) h = let two = and_parts (not (is_white b)) (list_all (λ c. not (is_white c)) bs) h in (not-true (is_white b) two.0, none_white bs two.1)

symbol_plain : (n : Name) → IsSymbolName n → IsPlain n
symbol_plain [] s = let bad : true ≡ false = s.some in absurd cc
symbol_plain (b ∷ bs) s = (none_white (b ∷ bs) s.plain, s.no_dollar)

label_byte_dark : (b : ℕ) → is_label_byte b ≡ true → is_white b ≡ false
label_byte_dark b h = grind (arith, nat_tests)

label_byte_no_dollar : (b : ℕ) → is_label_byte b ≡ true → (b == 36) ≡ false
label_byte_no_dollar b h = grind (arith, nat_tests)

label_dark : (bs : List ℕ) → list_all is_label_byte bs ≡ true → AllByRecursion (λ b. is_white b ≡ false) bs
label_dark [] h = tt
label_dark (b ∷ bs) h = let two = and_parts (is_label_byte b) (list_all is_label_byte bs) h in (label_byte_dark b two.0, label_dark bs two.1)

label_no_dollar : (bs : List ℕ) → list_all is_label_byte bs ≡ true → HasNoDollar bs
label_no_dollar [] h = refl
label_no_dollar (b ∷ bs) h =
    let two = and_parts (is_label_byte b) (list_all is_label_byte bs) h in
    ap (λ t. t || list_any (λ c. c == 36) bs) (label_byte_no_dollar b two.0) ∙ label_no_dollar bs two.1

pub label_plain : (n : Name) → is_label n ≡ true → IsPlain n
label_plain [] h = let bad : false ≡ true = h in absurd cc
label_plain (b ∷ bs) h = let two = and_parts (not (length (b ∷ bs) == 0)) (list_all is_label_byte (b ∷ bs)) h in (label_dark (b ∷ bs) two.1, label_no_dollar (b ∷ bs) two.1)

-- ---- what is meant at a place is a symbol of the database

module _ (kinds : Kinds) (text : List ℕ) (db : Database) (is : IsDatabaseOf kinds text db) (words : AllByRecursion IsSymbolName db.symbols) (place : ℕ) where
  abbrev before : List Statement
  before = below (statements text) place

  known_plain : (n : Name) → contains (symbols (statements text)) n ≡ true → IsPlain n
  known_plain n h = symbol_plain n (all_names IsSymbolName (symbols (statements text)) n (subst (AllByRecursion IsSymbolName) is.symbols words) h)

  constant_plain : (n : Name) → contains (constants before) n ≡ true → IsPlain n
  constant_plain n h = known_plain n (constant_known (statements text) place n h)

  variable_plain : (n : Name) → contains (variables before) n ≡ true → IsPlain n
  variable_plain n h = known_plain n (variable_known (statements text) place n h)

  meant_plain : (n : Name) → is_meant before n ≡ true → IsPlain n
  meant_plain n h = elim (or_cases (contains (constants before) n) (contains (variables before) n && contains (typed before) n) h) [
    | inl c ↦ constant_plain n c
    | inr v ↦ variable_plain n (and_parts (contains (variables before) n) (contains (typed before) n) v).0
  ]

  all_plain : (ns : List Name) → list_all (is_meant before) ns ≡ true → AllByRecursion IsPlain ns
  all_plain [] h = tt
  all_plain (n ∷ ns) h = let two = and_parts (is_meant before n) (list_all (is_meant before) ns) h in (meant_plain n two.0, all_plain ns two.1)

  pub formula_plain : (ns : List Name) → is_formula before ns ≡ true → AllByRecursion IsPlain ns
  formula_plain [] h = tt
  formula_plain (n ∷ ns) h = let two = and_parts (contains (constants before) n) (list_all (is_meant before) ns) h in (constant_plain n two.0, all_plain ns two.1)

  pub pair_plain : (p : Name × Name) → is_pair before p ≡ true → IsPlain p.0 × IsPlain p.1
  pair_plain p h =
      let front = (and_parts (contains (variables before) p.0 && contains (variables before) p.1) (not (bytes_eq p.0 p.1)) h).0 in
      let two = and_parts (contains (variables before) p.0) (contains (variables before) p.1) front in
      (variable_plain p.0 two.0, variable_plain p.1 two.1)
