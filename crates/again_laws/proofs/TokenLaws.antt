-- A leaf's name reads back as that leaf.
use Rattle.std.specs.Prelude.{◌≡◌, ◌⊎◌, ◌<◌, ◌≤◌, ◌^◌, ℕ, Bool, true, false, List, [], ◌∷◌, length, filter_map, slice_get, slice_index_or, Contains}
use Rattle.std.specs.Prelude.{Option, Some, None, option_map, refl, nat_lt}
use Rattle.std.specs.List.{position, position_or_len}
use Rattle.std.specs.Str.{bytes_eq}
use Rattle.std.proofs.Common.{sym, ap, subst, ◌∙◌, inl, inr, cond, get_or}
use Rattle.std.proofs.lemmas.Bool.{ltb-true}
use Rattle.std.proofs.lemmas.List.Sums.{passes_at_first}
use Rattle.std.proofs.lemmas.Option.{cond_some}
use Rattle.std.proofs.lemmas.Slice.Eq.{bytes_eq-Decides}
use Rattle.mm_base.specs.declared.symbols.Sym.{Sym}
use Rattle.mm_base.specs.declared.symbols.Typecode.{Typecode}
use Rattle.mm_model.specs.declared.rows.Leaf.{Leaf}
use Rattle.mm_model.specs.declared.rows.Leaf.TheVariants as leaf
use Rattle.mm_model.specs.Names.{Name, sym as symbol}
use Rattle.mm_model.specs.Book.{Database, symbol_of, symbol_name, declared_leaf, float_of}
use Rattle.mm_model.specs.BookFacts.{IsDatabase}
use Rattle.mm_model.proofs.NameLaws.{symbol_back}
use Rattle.solve_model.specs.Formulas.{spelling, work_number, work_codes, work_of, leaf_by, leaf_of}
use Rattle.solve_laws.proofs.Elements.{nothing, first, later, parted}
use Rattle.work_vars.specs.Spelled.{IsNameOf}
use Rattle.work_vars.proofs.NameLaws.{spelled_once}
use Rattle.work_vars.proofs.NumberLaws.{number_told, told_number}
use Rattle.written_model.specs.Written.{leaf_name}
use Rattle.again_laws.proofs.Lists.{from_filter_map, get_contains, some_same}

-- ---- symbols and names

pub record IsSymbolOf (db : Database) (token : Name) (s : Sym) : Type 0 where
  pub name : symbol_name db s ≡ token
  pub within : s.0 < length db.symbols

position_told : (names : List Name) (token : Name) (s : Sym) → option_map symbol (position (bytes_eq token) names) ≡ Some s → (slice_index_or names s.0 [] ≡ token) × (s.0 < length names)
position_told names token s e = by (position (bytes_eq token) names) refl e
  where
    by : (o : Option ℕ) → position (bytes_eq token) names ≡ o → option_map symbol o ≡ Some s → (slice_index_or names s.0 [] ≡ token) × (s.0 < length names)
    by None is h = absurd cc
    by (Some k) is h =
        let both = cond_some (nat_lt (position_or_len (bytes_eq token) names) (length names)) (position_or_len (bytes_eq token) names) k is in
        let less : position_or_len (bytes_eq token) names < length names = ltb-true (position_or_len (bytes_eq token) names) (length names) both.0 in
        let pass = passes_at_first (bytes_eq token) names [] less in
        let here : token ≡ slice_index_or names (position_or_len (bytes_eq token) names) [] = (bytes_eq-Decides token (get_or names (position_or_len (bytes_eq token) names) [])).0 pass in
        let same : symbol k ≡ s = some_same (symbol k) s h in
        let number : k ≡ s.0 = ap (λ (x : Sym). x.0) same in
        (sym (here ∙ ap (λ n. slice_index_or names n []) (both.1 ∙ number)), subst (λ n. n < length names) (both.1 ∙ number) less)

pub symbol_told : (db : Database) (token : Name) (s : Sym) → symbol_of db token ≡ Some s → IsSymbolOf db token s
symbol_told db token s e = let r = position_told db.symbols token s e in record { name = r.0; within = r.1 }

pub symbol_found : (db : Database) → IsDatabase db → (s : Sym) → s.0 < length db.symbols → symbol_of db (symbol_name db s) ≡ Some s
symbol_found db facts s less = symbol_back db.symbols facts.symbols s.0 less

-- ---- the leaf of a symbol

leaf_is_symbol : (db : Database) (place : ℕ) (s : Sym) (x : Leaf) → declared_leaf db place s ≡ Some x → (x ≡ leaf.Const s) ⊎ ((c : Typecode) × (x ≡ leaf.Var s c))
leaf_is_symbol db place s x e = by_constant (db.is_constant_at s place) refl
  where
    by_float : (o : Option Typecode) → option_map (λ (d : Typecode). leaf.Var s d) o ≡ Some x → (x ≡ leaf.Const s) ⊎ ((c : Typecode) × (x ≡ leaf.Var s c))
    by_float None h = absurd cc
    by_float (Some d) h = inr (d, sym (some_same (leaf.Var s d) x h))

    by_active : (b : Bool) → cond b (option_map (λ (d : Typecode). leaf.Var s d) (float_of s (db.active_at place).hyps)) None ≡ Some x → (x ≡ leaf.Const s) ⊎ ((c : Typecode) × (x ≡ leaf.Var s c))
    by_active true h = by_float (float_of s (db.active_at place).hyps) h
    by_active false h = absurd cc

    by_constant : (b : Bool) → db.is_constant_at s place ≡ b → (x ≡ leaf.Const s) ⊎ ((c : Typecode) × (x ≡ leaf.Var s c))
    by_constant true is = inl (sym (some_same (leaf.Const s) x (rw is at e)))
    by_constant false is = by_active _ (rw is at e)

pub declared_name : (db : Database) (place : ℕ) (s : Sym) (x : Leaf) → declared_leaf db place s ≡ Some x → leaf_name db x ≡ symbol_name db s
declared_name db place s x e = elim (leaf_is_symbol db place s x e) [ inl h ↦ ap (leaf_name db) h | inr h ↦ ap (leaf_name db) h.1 ]

pub declared_variable : (db : Database) (place : ℕ) (s t : Sym) (c : Typecode) → declared_leaf db place s ≡ Some (leaf.Var t c) → s ≡ t
declared_variable db place s t c e = elim (leaf_is_symbol db place s (leaf.Var t c) e) [ inl h ↦ absurd (no_const h) | inr h ↦ same h.0 h.1 ]
  where
    no_const : leaf.Var t c ≡ leaf.Const s → ⊥
    no_const q = cc

    same : (d : Typecode) → leaf.Var t c ≡ leaf.Var s d → s ≡ t
    same d q = cc

pub declared_no_work : (db : Database) (place : ℕ) (s : Sym) (c : Typecode) (n : ℕ) → declared_leaf db place s ≡ Some (leaf.Work c n) → ⊥
declared_no_work db place s c n e = elim (leaf_is_symbol db place s (leaf.Work c n) e) [ inl h ↦ no_const h | inr h ↦ no_var h.0 h.1 ]
  where
    no_const : leaf.Work c n ≡ leaf.Const s → ⊥
    no_const q = cc

    no_var : (d : Typecode) → leaf.Work c n ≡ leaf.Var s d → ⊥
    no_var d q = cc

-- ---- the work variable of a token

pub record IsWorkOf (db : Database) (token : Name) (d : Typecode) (x : Leaf) : Type 0 where
  pub constant : db.is_constant_at d.0 db.statement_count ≡ true
  pub number : ℕ
  pub is : x ≡ leaf.Work d number
  pub named : IsNameOf token (symbol_name db d.0) number

pub work_told : (db : Database) (token : Name) (d : Typecode) (x : Leaf) → work_of db token d ≡ Some x → IsWorkOf db token d x
work_told db token d x e = by_constant (db.is_constant_at d.0 db.statement_count) refl
  where
    by_number : db.is_constant_at d.0 db.statement_count ≡ true → (o : Option ℕ) → work_number (symbol_name db d.0) token ≡ o → option_map (λ n. leaf.Work d n) o ≡ Some x → IsWorkOf db token d x
    by_number is None q h = absurd cc
    by_number is (Some n) q h = record { constant = is; number = n; is = sym (some_same (leaf.Work d n) x h); named = number_told token (symbol_name db d.0) n q }

    by_constant : (b : Bool) → db.is_constant_at d.0 db.statement_count ≡ b → IsWorkOf db token d x
    by_constant true is = by_number is (work_number (symbol_name db d.0) token) refl (rw is at e)
    by_constant false is = let h : None ≡ Some x = rw is at e in absurd (no h)
      where
        no : None ≡ Some x → ⊥
        no q = cc

pub work_made : (db : Database) (token : Name) (d : Typecode) (n : ℕ) → db.is_constant_at d.0 db.statement_count ≡ true
    → IsNameOf token (symbol_name db d.0) n → work_of db token d ≡ Some (leaf.Work d n)
work_made db token d n constant named = let number = told_number token (symbol_name db d.0) n named in rw (constant, number) refl

-- ---- a token's leaf has the token's name

told_by : (db : Database) (place : ℕ) (token : Name) (x : Leaf) (o : Option Sym) → symbol_of db token ≡ o → leaf_by db place token o ≡ Some x → leaf_name db x ≡ token
told_by db place token x (Some s) is e = declared_name db place s x e ∙ (symbol_told db token s is).name
told_by db place token x None is e =
    let m = get_contains (filter_map (work_of db token) (work_codes db place)) 0 x e in
    let d = from_filter_map (work_of db token) (work_codes db place) x m in
    let w = work_told db token d.0 x d.2 in
    ap (leaf_name db) w.is ∙ sym w.named.spelled

pub leaf_told : (db : Database) (place : ℕ) (token : Name) (x : Leaf) → leaf_of db place token ≡ Some x → leaf_name db x ≡ token
leaf_told db place token x e = told_by db place token x (symbol_of db token) refl e

-- so a leaf that was read is read again
pub leaf_again : (db : Database) (place : ℕ) (token : Name) (x : Leaf) → leaf_of db place token ≡ Some x → leaf_of db place (leaf_name db x) ≡ Some x
leaf_again db place token x e = ap (leaf_of db place) (leaf_told db place token x e) ∙ e

-- a constant is read
pub constant_read : (db : Database) → IsDatabase db → (place : ℕ) (s : Sym) → s.0 < length db.symbols → db.is_constant_at s place ≡ true → leaf_of db place (symbol_name db s) ≡ Some (leaf.Const s)
constant_read db facts place s less constant = let found = symbol_found db facts s less in rw found (rw constant refl)

-- ---- a work variable is read

first_is : {X Y : Type 0} (f : X → Option Y) (xs : List X) (x : X) (y : Y) → Contains xs x → f x ≡ Some y
    → ((z : X) (q : Y) → Contains xs z → f z ≡ Some q → q ≡ y) → slice_get (filter_map f xs) 0 ≡ Some y
first_is f [] x y m e only = absurd (nothing x m)
first_is f (z ∷ xs) x y m e only = by (f z) refl (λ k. first_is f xs x y k e (λ p q n h. only p q (later p z xs n) h))
  where
    by : (o : Option _) → f z ≡ o → (Contains xs x → slice_get (filter_map f xs) 0 ≡ Some y) → slice_get (filter_map f (z ∷ xs)) 0 ≡ Some y
    by None is rest = elim (parted x z xs m) [ inl s ↦ absurd (clash (sym is ∙ ap f s ∙ e)) | inr k ↦ rw is (rest k) ]
      where
        clash : None ≡ Some y → ⊥
        clash q = cc
    by (Some q) is rest = rw is (ap (λ w. Some w) (only z q (first z z xs refl) is))

module _ (db : Database) (facts : IsDatabase db) (place : ℕ)
    (within : (d : Typecode) → Contains (work_codes db place) d → db.is_constant_at d.0 db.statement_count ≡ true → d.0.0 < length db.symbols) where
  code_same : (c d : Typecode) → Contains (work_codes db place) c → Contains (work_codes db place) d → db.is_constant_at c.0 db.statement_count ≡ true
      → db.is_constant_at d.0 db.statement_count ≡ true
      → symbol_name db c.0 ≡ symbol_name db d.0 → c ≡ d
  code_same c d mc md kc kd e =
      let one = symbol_found db facts c.0 (within c mc kc) in
      let two = symbol_found db facts d.0 (within d md kd) in
      let same : c.0 ≡ d.0 = some_same c.0 d.0 (sym one ∙ ap (symbol_of db) e ∙ two) in
      ap (λ (s : Sym). let t : Typecode = record { 0 = s } in t) same

  pub work_read : (c : Typecode) (n : ℕ) → 1 ≤ n → n < 2 ^ 32 → Contains (work_codes db place) c → db.is_constant_at c.0 db.statement_count ≡ true
      → symbol_of db (spelling (symbol_name db c.0) n) ≡ None
      → leaf_of db place (spelling (symbol_name db c.0) n) ≡ Some (leaf.Work c n)
  work_read c n one small mc kc new =
      let token = spelling (symbol_name db c.0) n in
      let named : IsNameOf token (symbol_name db c.0) n = record { from_one = one; in_range = small; spelled = refl } in
      let found = first_is (work_of db token) (work_codes db place) c (leaf.Work c n) mc (work_made db token c n kc named) (only token named) in
      rw new found
    where
      only : (token : Name) → IsNameOf token (symbol_name db c.0) n → (d : Typecode) (q : Leaf) → Contains (work_codes db place) d → work_of db token d ≡ Some q → q ≡ leaf.Work c n
      only token named d q md h =
          let w = work_told db token d q h in
          let both = spelled_once (symbol_name db d.0) (symbol_name db c.0) w.number n w.named.in_range small (sym w.named.spelled ∙ named.spelled) in
          let same : d ≡ c = code_same d c md mc w.constant kc both.0 in
          w.is ∙ ap (λ (x : Typecode). leaf.Work x w.number) same ∙ ap (λ k. leaf.Work c k) both.1
