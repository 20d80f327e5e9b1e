-- A formula of a frame, substituted by the machine, is the text of its tree with the values of the frame's variables.
use Rattle.std.specs.Prelude.{◌≡◌, ◌==◌, Bool, true, false, ◌&&◌, List, [], ◌∷◌, ◌++◌, drop, map, flat_map, filter_map, find, zip, is_some, Option, Some, None, option_map, refl}
use Rattle.std.specs.List.{AllZip, AllByRecursion, list_any, cons_option}
use Rattle.std.proofs.Common.{sym, ap, subst, ◌∙◌, cond, inl, inr}
use Rattle.std.proofs.lemmas.Bool.{cases_Bool, and_parts, and_from, or_cases, or_left, or_right}
use Rattle.std.proofs.lemmas.Grind.{flat_map-append}
use Rattle.mm_base.specs.declared.symbols.Sym.{Sym}
use Rattle.mm_base.specs.declared.symbols.Typecode.{Typecode}
use Rattle.mm_base.specs.declared.tree.Tree.{Tree}
use Rattle.mm_base.specs.declared.tree.Tree.TheVariants.{Node}
use Rattle.mm_base.specs.Trees.{Each}
use Rattle.mm_base.proofs.TreeInduction.{tree_ind}
use Rattle.mm_model.specs.declared.frames.Hyp.{Hyp}
use Rattle.mm_model.specs.declared.frames.Frame.{Frame}
use Rattle.mm_model.specs.declared.rows.Leaf.{Leaf}
use Rattle.mm_model.specs.declared.rows.Leaf.TheVariants as leaf
use Rattle.mm_model.specs.Texts.{text}
use Rattle.mm_model.specs.Substitution.{Substitution, substitute, substitute_text}
use Rattle.mm_model.specs.Productions.{TypedVariable, typed_by, typed_variables, floats}
use Rattle.mm_model.specs.Book.{Database, float_of}
use Rattle.mm_model.proofs.SubstitutionLaws.{substitute-Var, substitute-Work, substitute-Fresh, substitute-Node, text-substitute}
use Rattle.model_laws.specs.FrameLaws.{own_leaf, own_expression}
use Rattle.model_laws.proofs.Passing.{any-filter, any-flat, any-with}
use Rattle.proof_model.specs.Machine.{Formula, Entry, is_float_of, substituted}
use Rattle.proof_model.specs.Machine as machine
use Rattle.solve_model.specs.Trees.{leaf_tree, replace}
use Rattle.solve_model.proofs.TreeLaws.{replace-Var, replace-Work, replace-Fresh, replace-Node}
use Rattle.written_model.specs.ProofsPush.{leaf_symbols}
use Rattle.push_laws.proofs.Entries.{IsTaken, substitute-float, substitute-other}
use Rattle.push_laws.proofs.Facts.{FrameIsApart, IsOwnFormula}
use Rattle.push_laws.proofs.TreeProofs.{tree_symbols}

module _ (db : Database) (value : Sym → Tree) where
  abbrev by_value : Substitution
  by_value (leaf.Const s) = None
  by_value (leaf.Var s c) = Some (value s)
  by_value (leaf.Work c n) = None

  abbrev valued : Tree → Tree
  valued t = replace (λ s c. value s) leaf_tree t

  abbrev IsSame : Tree → Type 0
  IsSame t = valued t ≡ substitute by_value t

  all_same : (ts : List Tree) → Each IsSame ts → map valued ts ≡ map (substitute by_value) ts
  all_same [] h = refl
  all_same (t ∷ ts) h = let here = h.0 in let rest = all_same ts h.1 in cc

  valued-substitute : (t : Tree) → IsSame t
  valued-substitute = tree_ind IsSame
      (λ s c. replace-Var _ leaf_tree s c ∙ sym (substitute-Var by_value s c))
      (λ c n. replace-Work _ leaf_tree c n ∙ sym (substitute-Work by_value c n))
      (λ c n. replace-Fresh _ leaf_tree c n ∙ sym (substitute-Fresh by_value c n))
      (λ l c ts h. replace-Node _ leaf_tree l c ts ∙ ap (λ us. Node l c us) (all_same ts h) ∙ sym (substitute-Node by_value l c ts))

  pub text-valued : (t : Tree) → text db.rows (valued t) ≡ substitute_text db.rows by_value (text db.rows t)
  text-valued t = ap (text db.rows) (valued-substitute t) ∙ text-substitute db.rows by_value (λ c. refl) t

found_any : {X : Type 0} (p : X → Bool) (xs : List X) (x : X) → find p xs ≡ Some x → list_any p xs ≡ true
found_any p [] x e = absurd cc
found_any p (y ∷ xs) x e = elim (cases_Bool (p y)) [
  | inl d ↦ or_left (p y) (list_any p xs) d
  | inr d ↦ or_right (p y) (list_any p xs) (found_any p xs x (sym (ap (λ (b : Bool). cond b (Some y) (find p xs)) d) ∙ e))
]

typed_second : (s : Sym) (f : List Sym) → list_any (λ (v : TypedVariable). v.sym.0 == s.0) (typed_by f) ≡ true → list_any (λ (v : Sym). v.0 == s.0) (drop 1 f) ≡ true
typed_second s [] h = absurd cc
typed_second s (c ∷ []) h = absurd cc
typed_second s (c ∷ v ∷ rest) h = elim (or_cases (v.0 == s.0) false h) [ inl d ↦ or_left (v.0 == s.0) _ d | inr d ↦ let bad : false ≡ true = d in absurd cc ]

pub typed_any : (s : Sym) (hs : List Hyp) → list_any (λ (v : TypedVariable). v.sym.0 == s.0) (typed_variables hs) ≡ true → list_any (is_float_of s) hs ≡ true
typed_any s hs some =
    let parts = any-filter (λ (h : Hyp). list_any (λ (w : TypedVariable). w.sym.0 == s.0) (typed_by h.formula)) (λ (h : Hyp). h.floating) hs
    (sym (any-flat (λ (w : TypedVariable). w.sym.0 == s.0) (λ (h : Hyp). typed_by h.formula) (floats hs)) ∙ some) in
    any-with (λ (h : Hyp). h.floating && list_any (λ (w : TypedVariable). w.sym.0 == s.0) (typed_by h.formula)) (is_float_of s)
    (λ h d. let two = and_parts h.floating _ d in and_from h.floating _ two.0 (typed_second s h.formula two.1)) hs parts

-- a variable with a typecode has a `$f`
pub typed_float : (s : Sym) (hs : List Hyp) (c : Typecode) → float_of s hs ≡ Some c → list_any (is_float_of s) hs ≡ true
typed_float s hs c e = go (find (λ (v : TypedVariable). v.sym.0 == s.0) (typed_variables hs)) refl e
  where
    go : (o : Option TypedVariable) → find (λ (v : TypedVariable). v.sym.0 == s.0) (typed_variables hs) ≡ o
        → option_map (λ (v : TypedVariable). v.code) o ≡ Some c → list_any (is_float_of s) hs ≡ true
    go None i j = absurd cc
    go (Some v) i j = typed_any s hs (found_any (λ (w : TypedVariable). w.sym.0 == s.0) (typed_variables hs) v i)

module _ (db : Database) (f : Frame) (apart : FrameIsApart db f) (value : Sym → Tree) (fs : List Formula) (taken : AllZip (IsTaken (λ s. tree_symbols db (value s))) f.hyps fs) where
  abbrev values : Sym → Formula
  values s = tree_symbols db (value s)

  abbrev entries : List Entry
  entries = zip f.hyps fs

  one_symbol : (s : Sym) (b : Bool) (o : Option Typecode) (more : Formula) (rest : List Leaf) → db.is_constant_at s f.at ≡ b → float_of s f.hyps ≡ o
      → is_some (cond b (Some (leaf.Const s)) (option_map (λ c. leaf.Var s c) o)) ≡ true → more ≡ flat_map leaf_symbols (substitute_text db.rows (by_value db value) rest)
      → machine.substitute entries s ++ more ≡ flat_map leaf_symbols (substitute_text db.rows (by_value db value) (cons_option (cond b (Some (leaf.Const s)) (option_map (λ c. leaf.Var s c) o)) rest))
  one_symbol s true o more rest c t i e =
      ap (λ (x : Formula). x ++ more) (substitute-other values s f.hyps fs taken (apart.constants s c)) ∙ ap (λ (x : Formula). s ∷ x) e
  one_symbol s false None more rest c t i e = absurd cc
  one_symbol s false (Some d) more rest c t i e =
      ap (λ (x : Formula). x ++ more) (substitute-float values s f.hyps fs taken (typed_float s f.hyps d t))
      ∙ ap (λ (x : Formula). values s ++ x) e
      ∙ sym (flat_map-append leaf_symbols (text db.rows (value s)) (substitute_text db.rows (by_value db value) rest))

  symbols_are : (ss : List Sym) → AllByRecursion (λ s. is_some (own_leaf db f s) ≡ true) ss
      → flat_map (machine.substitute entries) ss ≡ flat_map leaf_symbols (substitute_text db.rows (by_value db value) (filter_map (own_leaf db f) ss))
  symbols_are [] a = refl
  symbols_are (s ∷ ss) a =
      one_symbol s (db.is_constant_at s f.at) (float_of s f.hyps) (flat_map (machine.substitute entries) ss) (filter_map (own_leaf db f) ss) refl refl a.0 (symbols_are ss a.1)

  -- the formula of a tree, substituted
  pub formula_valued : (g : Formula) (c : Sym) (rest : Formula) (t : Tree) → g ≡ c ∷ rest → db.is_constant_at c f.at ≡ true → IsOwnFormula db f g → own_expression db f g ≡ text db.rows t
      → substituted entries g ≡ c ∷ tree_symbols db (valued db value t)
  formula_valued g c rest t is constant own e =
      let own' : AllByRecursion (λ s. is_some (own_leaf db f s) ≡ true) rest = subst (λ (x : Formula). AllByRecursion (λ s. is_some (own_leaf db f s) ≡ true) (drop 1 x)) is own.leaves in
      let e' : filter_map (own_leaf db f) rest ≡ text db.rows t = sym (ap (λ (x : Formula). filter_map (own_leaf db f) (drop 1 x)) is) ∙ e in
      ap (substituted entries) is
      ∙ ap (λ (x : Formula). x ++ flat_map (machine.substitute entries) rest) (substitute-other values c f.hyps fs taken (apart.constants c constant))
      ∙ ap (λ (x : Formula). c ∷ x) (symbols_are rest own')
      ∙ ap (λ (x : List Leaf). c ∷ flat_map leaf_symbols (substitute_text db.rows (by_value db value) x)) e'
      ∙ ap (λ (x : List Leaf). c ∷ flat_map leaf_symbols x) (sym (text-valued db value t))
