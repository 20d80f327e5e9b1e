-- The database of the whole example is that of its text.
use Rattle.std.specs.Prelude.{◌≡◌, ◌==◌, ℕ, zero, suc, Bool, true, false, List, [], ◌∷◌, Option, Some, None, refl}
use Rattle.std.specs.List.{AllZip}
use Rattle.std.proofs.Common.{sym, ap, subst, ◌∙◌, arith, cond}
use Rattle.std.proofs.lemmas.Bool.Decides.{nat_tests}
use Rattle.mm_base.specs.declared.symbols.Label.{Label}
use Rattle.mm_base.specs.declared.tree.Tree.{Tree}
use Rattle.mm_base.specs.declared.tree.Tree.TheVariants.{Var}
use Rattle.mm_base.proofs.TreeInduction.{tree_ind}
use Rattle.mm_model.specs.declared.frames.Hyp.{Hyp}
use Rattle.mm_model.specs.declared.frames.Frame.{Frame}
use Rattle.mm_model.specs.declared.rows.Leaf.{Leaf}
use Rattle.mm_model.specs.declared.rows.Leaf.TheVariants as leaf
use Rattle.mm_model.specs.declared.rows.Production.{Production}
use Rattle.mm_model.specs.Names.{sym as symbol, label}
use Rattle.mm_model.specs.Typed.{IsTyped, Parses}
use Rattle.mm_model.specs.Texts.{text}
use Rattle.mm_model.specs.Productions.{TypedVariable, essentials, typed_variables}
use Rattle.mm_model.specs.Book.{Assertion, IsUsable, IsRead, IsTheTreeAt, IsDatabaseOf}
use Rattle.mm_model.proofs.TextLaws.{text-Var, text-Work, text-Fresh}
use Rattle.mm_model.proofs.TypedLaws.{code-Var, typed-Var, typed_here, named-Var}
use Rattle.written_model.specs.WholeExample.{database_text, wff, ph, frame, variable, any, usable, db, options}

-- ---- where there are no productions, the text of a variable is that of one tree

abbrev alone : ℕ → List Leaf
alone n = leaf.Var (symbol n) wff ∷ []

only_variable : (place n : ℕ) (t : Tree) → IsTyped [] place t → text [] t ≡ alone n → t ≡ Var (symbol n) wff
only_variable place n = tree_ind (λ t. IsTyped [] place t → text [] t ≡ alone n → t ≡ Var (symbol n) wff)
    (λ s c h e. let same : leaf.Var s c ∷ [] ≡ alone n = sym (text-Var [] s c) ∙ e in cc)
    (λ c m h e. let same : leaf.Work c m ∷ [] ≡ alone n = sym (text-Work [] c m) ∙ e in absurd (cc))
    (λ c m h e. let same : ◌≡◌ {A = List Leaf} [] (alone n) = sym (text-Fresh [] c m) ∙ e in absurd (cc))
    (λ l c ts i h e. let row = typed_here [] place l c ts h in let none : ◌≡◌ {A = Option Production} None (Some row.0) = row.1 in absurd (cc))

pub parses_variable : (place n : ℕ) → Parses [] place (alone n) wff (Var (symbol n) wff)
parses_variable place n = record { code = code-Var _ _; typed = typed-Var [] place _ _; named = named-Var _ _; written = text-Var [] _ _ }

pub parses_only : (place n : ℕ) (t : Tree) → Parses [] place (alone n) wff t → t ≡ Var (symbol n) wff
parses_only place n t p = only_variable place n t p.typed p.written

-- ---- the one usable assertion

the_tree : IsTheTreeAt db 4 frame.formula ph
the_tree = record { parses = parses_variable 4 2; only = λ u p. parses_only 4 2 u p }

any_is_usable : IsUsable db (label 2) any
any_is_usable = record {
  frame = refl;
  label = refl;
  conclusion = record { provable = record { begins = (symbol 0, symbol 2 ∷ [], refl, refl); short = omega arith }; tree = the_tree };
  hyps = tt;
  vars = refl;
}

same_label : (n m : ℕ) → (n == m) ≡ true → label n ≡ label m
same_label n m e = let is : n ≡ m = grind (arith, nat_tests) in ap label is

usable_by : (l : Label) (a : Assertion) (b : Bool) → (l.0 == 2) ≡ b → cond b (Some any) None ≡ Some a → IsUsable db l a
usable_by l a true e h = let one : label 2 ≡ l = sym (same_label l.0 2 e) in let other : any ≡ a = cc in subst (λ k. IsUsable db k a) one (subst (IsUsable db (label 2)) other any_is_usable)
usable_by l a false e h = absurd (cc)

make : Label → Frame → Tree → List Tree → List TypedVariable → Assertion
make l f t hs vs = record { label = l; frame = f; tree = t; hyps = hs; vars = vs }

no_hyps : (hs : List Tree) (P : Hyp → Tree → Type 0) → AllZip P [] hs → hs ≡ []
no_hyps [] P h = refl
no_hyps (t ∷ ts) P h = absurd h

-- what is usable there is this assertion
is_any : (a : Assertion) → IsUsable db (label 2) a → any ≡ a
unfolding make
is_any a h =
    let one : frame ≡ a.frame = some_is frame a.frame h.frame in
    let tree : IsRead db frame.at frame.formula a.tree = subst (λ (f : Frame). IsRead db f.at f.formula a.tree) (sym one) h.conclusion in
    let same_tree : a.tree ≡ ph = parses_only 4 2 a.tree tree.tree.parses in
    let none : a.hyps ≡ [] =
    no_hyps a.hyps (λ (g : Hyp) (t : Tree). IsRead db frame.at g.formula t)
    (subst (λ (f : Frame). AllZip (λ (g : Hyp) (t : Tree). IsRead db f.at g.formula t) (essentials f.hyps) a.hyps) (sym one) h.hyps) in
    let vars : a.vars ≡ variable ∷ [] = subst (λ (f : Frame). a.vars ≡ typed_variables f.hyps) (sym one) h.vars in
    join a.label a.frame a.tree a.hyps a.vars (sym h.label) one (sym same_tree) (sym none) (sym vars)
  where
    some_is : (f g : Frame) → Some f ≡ Some g → f ≡ g
    some_is f g e = cc

    join : (l : Label) (f : Frame) (t : Tree) (hs : List Tree) (vs : List TypedVariable) → label 2 ≡ l → frame ≡ f → ph ≡ t → [] ≡ hs → variable ∷ [] ≡ vs
        → make (label 2) frame ph [] (variable ∷ []) ≡ make l f t hs vs
    join l f t hs vs p q r s u = cc

all_by : (n : ℕ) (a : Assertion) → IsUsable db (label n) a → usable (label n) ≡ Some a
all_by zero a h = let none : None ≡ Some a.frame = h.frame in absurd (cc)
all_by (suc zero) a h = let none : None ≡ Some a.frame = h.frame in absurd (cc)
all_by (suc (suc zero)) a h = ap (λ x. Some x) (is_any a h)
all_by (suc (suc (suc n))) a h = let none : None ≡ Some a.frame = h.frame in absurd (cc)

pub is_database : IsDatabaseOf options.kinds database_text db
is_database = record {
  provable = refl;
  logic = refl;
  symbols = refl;
  labels = refl;
  positions = refl;
  statement_count = refl;
  frame = λ l. refl;
  active_at = λ place. refl;
  is_constant_at = λ s place. refl;
  place_after = λ l. refl;
  float_codes = λ place. refl;
  rows = refl;
  usable_is = λ l a e. usable_by l a (l.0 == 2) refl e;
  usable_all = λ l a h. all_by l.0 a h;
}
