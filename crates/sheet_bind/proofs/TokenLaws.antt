-- What tokens are at the theorem's place, as the definitions say it.
use Rattle.std.specs.Prelude.{◌≡◌, ◌<◌, ◌≤◌, ℕ, ◌⊎◌, ◌==◌, Bool, true, false, List, length, drop, filter_map, nat_lt, slice_get, slice_index_or, Option, Some, None, option_map, is_some, refl}
use Rattle.std.specs.List.{list_all, list_any, position_or_len}
use Rattle.std.specs.Option.{option_map_or}
use Rattle.std.specs.Str.{bytes_eq}
use Rattle.std.proofs.Common.{arith, ap, subst, ◌∙◌, cond, inl, inr}
use Rattle.std.proofs.lemmas.Bool.Decides.{nat_tests}
use mathlib.Core.Path.{fun_ext}
use Rattle.mm_base.specs.declared.kinds.Kinds.{Kinds}
use Rattle.mm_base.specs.declared.symbols.Sym.{Sym}
use Rattle.mm_base.specs.declared.symbols.Typecode.{Typecode}
use Rattle.mm_model.specs.declared.frames.Frame.{Frame}
use Rattle.mm_model.specs.declared.rows.Leaf.{Leaf}
use Rattle.mm_model.specs.declared.rows.Leaf.TheVariants as leaf
use Rattle.mm_model.specs.Names.{Name, sym as symbol, symbol_named}
use Rattle.mm_model.specs.Book.{declared_leaf}
use Rattle.mm_database.specs.Opened.{Opened}
use Rattle.solve_model.specs.Formulas.{leaf_of, leaf_by as leaf_by_symbol, is_known, work_of, work_codes, work_number, expression_of}
use Rattle.solve_model.specs.BindFaults.{is_variable_at}
use Rattle.sheet_bind.specs.declared.setting.Setting.{Setting}
use Rattle.sheet_bind.specs.Places.{setting_in, is_declared}
use Rattle.sheet_bind.specs.Seen.{leaf_at, leaf_by, symbol_leaf, work_leaf, are_known, expression_at, is_constant_below, is_variable_named, name_in}
use Rattle.sheet_bind.specs.Shown.{PlaceFacts, shown}
use Rattle.sheet_bind.proofs.CodeLaws.{first_once}
use Rattle.sheet_bind.proofs.MarkLaws.{marks_say, codes_say}

pub case_of : {A : Type 0} (o : Option A) → ((x : A) × (o ≡ Some x)) ⊎ (o ≡ None)
case_of None = inr refl
case_of (Some x) = inl (x, refl)

-- a symbol that is found has a number below the count
found_below : (b : Bool) (k n : ℕ) (s : Sym) → nat_lt k n ≡ b → option_map symbol (cond b (Some k) None) ≡ Some s → s.0 < n
found_below true k n s h e =
    let same : k ≡ s.0 = ap (λ (o : Option Sym). option_map_or (λ (t : Sym). t.0) o k) e in
    let less : k < n = grind (arith, nat_tests, h) in
    subst (λ (i : ℕ). i < n) same less
found_below false k n s h e = absurd (cc)

pub named_below : (names : List Name) (token : Name) (s : Sym) → symbol_named names token ≡ Some s → s.0 < length names
named_below names token s e = found_below (nat_lt (position_or_len (bytes_eq token) names) (length names)) (position_or_len (bytes_eq token) names) (length names) s refl e

module _ (kinds : Kinds) (facts : PlaceFacts) (d : Opened) (place : ℕ) (frame : Option Frame) where
  abbrev pub kept : Setting
  kept = setting_in d.contents kinds.logic place frame (facts.active_at place) (facts.float_codes place)

  -- what is kept of `$c` says which symbols are constants
  abbrev pub SaysConstants : Type 0
  SaysConstants = (s : Sym) (p : ℕ) → p ≤ length d.contents.entries → is_constant_below d.contents.constants p s ≡ facts.is_constant_at s p

  module _ (says : SaysConstants) (within : place ≤ length d.contents.entries) where
    symbol_is : (s : Sym) → s.0 < length d.contents.symbols → symbol_leaf d.contents.constants kept s ≡ declared_leaf (shown kinds facts d) place s
    symbol_is s l =
        ap (λ (b : Bool). cond b (Some (leaf.Const s))
        (cond (slice_index_or kept.variables s.0 false) (option_map (λ (c : Typecode). leaf.Var s c) (slice_index_or kept.codes s.0 None)) None))
        (says s place within)
        ∙ ap (λ (b : Bool). cond (facts.is_constant_at s place) (Some (leaf.Const s)) (cond b (option_map (λ (c : Typecode). leaf.Var s c) (slice_index_or kept.codes s.0 None)) None))
        (marks_say (length d.contents.symbols) (facts.active_at place).variables s l)
        ∙ ap
        (λ (o : Option Typecode). cond (facts.is_constant_at s place) (Some (leaf.Const s))
        (cond (list_any (λ (v : Sym). v.0 == s.0) (facts.active_at place).variables) (option_map (λ (c : Typecode). leaf.Var s c) o) None))
        (codes_say (length d.contents.symbols) (facts.active_at place).hyps s l)

    work_is : (token : Name) → work_leaf d.contents.symbols kept.work token ≡ slice_get (filter_map (work_of (shown kinds facts d) token) (work_codes (shown kinds facts d) place)) 0
    work_is token = first_once (λ (c : Typecode). option_map (λ n. leaf.Work c n) (work_number (name_in d.contents.symbols c.0) token))
        (is_declared d.contents) (λ (c : Typecode). facts.is_constant_at c.0 (length d.contents.entries))
        (λ c. says c.0 (length d.contents.entries) (omega arith)) (work_codes (shown kinds facts d) place)

    by_symbol : (token : Name) (o : Option Sym) → symbol_named d.contents.symbols token ≡ o → leaf_by d.contents kept token o ≡ leaf_by_symbol (shown kinds facts d) place token o
    by_symbol token None e = work_is token
    by_symbol token (Some s) e = symbol_is s (named_below d.contents.symbols token s e)

    pub leaf_is : (token : Name) → leaf_at d.contents kept token ≡ leaf_of (shown kinds facts d) place token
    leaf_is token = by_symbol token (symbol_named d.contents.symbols token) refl

    pub leaves_are : leaf_at d.contents kept ≡ leaf_of (shown kinds facts d) place
    leaves_are = fun_ext leaf_is

    pub known_is : (tokens : List Name) → are_known d.contents kept tokens ≡ list_all (is_known (shown kinds facts d) place) tokens
    known_is tokens = ap (λ (f : Name → Option Leaf). list_all (λ (t : Name). is_some (f t)) tokens) leaves_are

    pub expression_is : (tokens : List Name) → expression_at d.contents kept (drop 1 tokens) ≡ expression_of (shown kinds facts d) place tokens
    expression_is tokens = ap (λ (f : Name → Option Leaf). filter_map f (drop 1 tokens)) leaves_are

    variable_by : (name : Name) (o : Option Sym) → symbol_named d.contents.symbols name ≡ o
        → option_map_or (λ (s : Sym). slice_index_or kept.variables s.0 false) o false ≡ option_map_or (λ (v : Sym). list_any (λ (w : Sym). w.0 == v.0) (facts.active_at place).variables) o false
    variable_by name None e = refl
    variable_by name (Some s) e = marks_say (length d.contents.symbols) (facts.active_at place).variables s (named_below d.contents.symbols name s e)

    pub variable_is : is_variable_named d.contents kept ≡ is_variable_at (shown kinds facts d) place
    variable_is = fun_ext (λ name. variable_by name (symbol_named d.contents.symbols name) refl)
