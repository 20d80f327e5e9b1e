-- The written steps, read again: where they come from, and the one tree of each.
use Rattle.std.specs.Prelude.{◌≡◌, ◌&&◌, not, is_none, ℕ, suc, Bool, true, false, List, [], ◌∷◌, length, map, take, drop, filter_map, Contains, slice_get, Option, Some, None, refl}
use Rattle.std.specs.List.{AllByRecursion, AllZip, list_all}
use Rattle.std.proofs.Common.{sym, ap, subst, ◌∙◌, arith, inl, inr}
use Rattle.std.proofs.lemmas.Bool.{cases_Bool, and_parts, both_ways}
use Rattle.std.proofs.lemmas.List.{length-map}
use Rattle.std.proofs.lemmas.List.Elements.{Contains-append_left, Contains-append_right}
use Rattle.mm_base.specs.declared.symbols.Typecode.{Typecode}
use Rattle.mm_base.specs.declared.tree.Tree.{Tree}
use Rattle.mm_base.specs.declared.tree.Tree.TheVariants.{Var}
use Rattle.mm_base.specs.Trees.{code_of, Each}
use Rattle.mm_base.proofs.TreeInduction.{tree_ind}
use Rattle.mm_model.specs.declared.rows.Leaf.{Leaf}
use Rattle.mm_model.specs.Names.{Name}
use Rattle.mm_model.specs.Productions.{essentials}
use Rattle.mm_model.specs.Texts.{text}
use Rattle.mm_model.specs.Typed.{HasNoFresh}
use Rattle.mm_model.specs.Book.{Database, logic_code}
use Rattle.mm_model.proofs.TypedLaws.{code-Var, typed-Var, named-Var, named-Work, named-Node}
use Rattle.sheet_text.specs.declared.sheet.SheetStep.{SheetStep}
use Rattle.sheet_text.specs.Layout.{steps}
use Rattle.solve_model.specs.declared.bound.BoundStep.{BoundStep}
use Rattle.solve_model.specs.declared.verdict.Verdict.TheVariants as verdict
use Rattle.solve_model.specs.Firsts.{IsFirstIn}
use Rattle.solve_model.specs.Trees.{fresh, leaf_tree, open_leaves, flatten, same_tree, Occurs}
use Rattle.solve_model.specs.Bound.{HasTree, settled, standing}
use Rattle.solve_model.specs.Formulas.{leaf_of, IsTreeOf, IsTheTree, HasTwoTrees}
use Rattle.solve_model.specs.Solutions.{blank, copy, Valuation, IsUnknown, formula, formula_value, instance, open_value}
use Rattle.solve_model.specs.Verdicts.{Judgement, accepted, stands, accepted_in}
use Rattle.solve_model.proofs.TreeLaws.{open_leaves-Fresh, open_leaves-Node}
use Rattle.solve_laws.specs.Instances.{IsClosedTree}
use Rattle.solve_laws.proofs.Elements.{here}
use Rattle.solve_laws.proofs.SameTrees.{same_tree-Decides}
use Rattle.written_model.specs.declared.options.Options.{Options}
use Rattle.written_model.specs.WrittenSteps.{WrittenStep, trees}
use Rattle.written_model.specs.Filled.{filled_step, wanted_by}
use Rattle.written_model.specs.Named.{name_step, name_tree}
use Rattle.written_model.specs.Found.{IsSearched, is_to_be_searched, is_ground, is_ground_place}
use Rattle.written_model.specs.Written.{Writing, leaf_name, formula_tokens}
use Rattle.again_laws.specs.Whole.{HasOnly}
use Rattle.again_laws.proofs.Lists.{contains_get, contains_mapped, get_mapped, all_of, zip_left, some_same}
use Rattle.again_laws.proofs.Candidates.{told, Told}
use Rattle.again_laws.proofs.Accepted.{accepted_at, whole_member, tree_at, filled_tree, dropped, open_typed, name_typed, trees_named, es_typed, ds_typed, usable_typed}
use Rattle.again_laws.proofs.Setting.{Setting}
use Rattle.again_laws.proofs.TypedOn.{replaced_on}
use Rattle.again_laws.proofs.Uses.{written_steps, named_steps}
use Rattle.again_laws.proofs.Woven.{Woven, woven_zip}
use Rattle.again_laws.proofs.WovenSteps.{IsOwnStep, IsNewStep, IsDerivedName}
use Rattle.again_laws.proofs.WrittenKinds.{no_fresh_written}

-- ---- the first with a property, where there is none

pub none_first : {X : Type 0} (P : X → Type 0) (xs : List X) → ((x : X) → IsFirstIn P xs x → ⊥) → AllByRecursion (λ x. P x → ⊥) xs
none_first P [] h = tt
none_first P (x ∷ xs) h = ((λ p. h x (inl (refl, p))), none_first P xs (λ y f. h y (inr ((λ p. h x (inl (refl, p))), f))))

-- ---- trees without a fresh leaf

abbrev NoneFresh : Tree → Type 0
NoneFresh t = (c : Typecode) (n : ℕ) → Occurs (fresh c n) t → ⊥

abbrev Named : Tree → Type 0
Named t = NoneFresh t → HasNoFresh t

all_named : (ts : List Tree) → Each Named ts → ((c : Typecode) (n : ℕ) → Contains (flatten (map open_leaves ts)) (fresh c n) → ⊥) → Each HasNoFresh ts
all_named [] h k = tt
all_named (t ∷ ts) h k = (
  h.0 (λ c n o. k c n (Contains-append_left (open_leaves t) (flatten (map open_leaves ts)) (fresh c n) o)),
  all_named ts h.1 (λ c n o. k c n (Contains-append_right (open_leaves t) (flatten (map open_leaves ts)) (fresh c n) o)),
)

pub named_from : (t : Tree) → Named t
named_from = tree_ind Named
    (λ s c h. named-Var s c)
    (λ c n h. named-Work c n)
    (λ c n h. absurd (h c n (rw open_leaves-Fresh (here (fresh c n)))))
    (λ l c ts k h. named-Node l c ts (all_named ts k (λ d n o. h d n (rw open_leaves-Node o))))

-- ---- leaves read back, as a list

read_all : (f : Leaf → Name) (r : Name → Option Leaf) (xs : List Leaf) → ((x : Leaf) → Contains xs x → r (f x) ≡ Some x) → filter_map r (map f xs) ≡ xs
read_all f r [] h = refl
read_all f r (x ∷ xs) h =
    let one : r (f x) ≡ Some x = h x (0, omega arith, refl) in
    let rest = read_all f r xs (λ y m. h y (further y m)) in
    rw one (ap (λ ys. x ∷ ys) rest)
  where
    further : (y : Leaf) → Contains xs y → Contains (x ∷ xs) y
    further y (k, l, e) = (suc k, omega (arith, l), e)

zip_map_left : {X Y Z : Type 0} (R : Y → Z → Type 0) (f : X → Y) (xs : List X) (zs : List Z) → AllZip R (map f xs) zs → AllZip (λ x z. R (f x) z) xs zs
zip_map_left R f [] [] h = tt
zip_map_left R f [] (z ∷ zs) h = absurd h
zip_map_left R f (x ∷ xs) [] h = absurd h
zip_map_left R f (x ∷ xs) (z ∷ zs) h = (h.0, zip_map_left R f xs zs h.1)

module _ (db : Database) (options : Options) (w : Writing) (numbers : List ℕ) (ds : List WrittenStep) (S : Setting db options w numbers ds) where
  abbrev g : Valuation
  g = w.value

  abbrev place : ℕ
  place = w.bound.place

  abbrev es : List WrittenStep
  es = written_steps db options w numbers ds S

  abbrev ns : List WrittenStep
  ns = named_steps db options w numbers ds S

  -- ---- where a written step comes from

  pub record IsWrittenOf (k : ℕ) (s : SheetStep) (e : WrittenStep) : Type 0 where
    pub hyp : e.hyp ≡ s.hyp
    pub name : e.name ≡ s.name
    pub tree : e.tree ≡ name_tree w.names (formula w.bound g k)
    pub reference : s.hyp ≡ true → e.reference ≡ s.reference
    pub places : s.hyp ≡ true → length e.places ≡ length s.places

  pub record IsNewOf (e : WrittenStep) : Type 0 where
    pub hyp : e.hyp ≡ false
    pub derived : IsDerivedName e.name

  filled_hyp : (front more : List ℕ) (s : SheetStep) (t : Tree) (v : Valuation) (o : Judgement) → (filled_step front more s t v o).hyp ≡ s.hyp
  filled_hyp front more s t v (accepted x) = refl
  filled_hyp front more s t v (stands z) = refl

  filled_name : (front more : List ℕ) (s : SheetStep) (t : Tree) (v : Valuation) (o : Judgement) → (filled_step front more s t v o).name ≡ s.name
  filled_name front more s t v (accepted x) = refl
  filled_name front more s t v (stands z) = refl

  filled_reference : (front more : List ℕ) (s : SheetStep) (t : Tree) (v : Valuation) (o : Judgement) → (filled_step front more s t v o).reference ≡ s.reference
  filled_reference front more s t v (accepted x) = refl
  filled_reference front more s t v (stands z) = refl

  -- a hypothesis is not accepted
  filled_count : (k : ℕ) (s : SheetStep) → slice_get (steps w.read) k ≡ Some s → s.hyp ≡ true → (front more : List ℕ) (t : Tree) (o : Judgement)
      → slice_get w.judgements k ≡ Some o → length (filled_step front more s t g o).places ≡ length s.places
  filled_count k s at h front more t (stands z) o_at = length-map s.places _
  filled_count k s at h front more t (accepted x) o_at =
      let b = S.bound_steps k s at in
      let hyp : b.0.hyp ≡ true = b.2.hyp ∙ h in
      let settled_ : standing db place b.0 ≡ settled verdict.Hyp = rw hyp refl in
      absurd (subst (λ st. Told db w.bound (accepted_in (take k w.judgements)) k b.0 st (accepted x)) settled_
      (told db w.bound (accepted_in (take k w.judgements)) k b.0 (standing db place b.0) (accepted x) (S.judged.each k b.0 (accepted x) b.1 o_at)))

  abbrev Search : WrittenStep → WrittenStep → Type 0
  Search n e = IsSearched db place options.dv w.bound.pairs ns n e

  not_found : (n : WrittenStep) → is_to_be_searched ns n ≡ true → n.hyp ≡ true → ⊥
  not_found n h hyp =
      let one = and_parts (not n.hyp && is_none n.reference && is_ground n.tree) (list_all (is_ground_place ns) n.places) h in
      let two = and_parts (not n.hyp && is_none n.reference) (is_ground n.tree) one.0 in
      let three = and_parts (not n.hyp) (is_none n.reference) two.0 in
      flip n.hyp three.0 hyp
    where
      flip : (b : Bool) → not b ≡ true → b ≡ true → ⊥
      flip true e f = cc
      flip false e f = cc

  same_hyp : (n e : WrittenStep) → Search n e → e.hyp ≡ n.hyp
  same_hyp n e (IsSearched.not_searched h) = refl
  same_hyp n e (IsSearched.none h i) = refl
  same_hyp n e (IsSearched.found h i f) = refl

  same_name : (n e : WrittenStep) → Search n e → e.name ≡ n.name
  same_name n e (IsSearched.not_searched h) = refl
  same_name n e (IsSearched.none h i) = refl
  same_name n e (IsSearched.found h i f) = refl

  same_written : (n e : WrittenStep) → Search n e → e.tree ≡ n.tree
  same_written n e (IsSearched.not_searched h) = refl
  same_written n e (IsSearched.none h i) = refl
  same_written n e (IsSearched.found h i f) = refl

  same_all : (n e : WrittenStep) → Search n e → n.hyp ≡ true → e ≡ n
  same_all n e (IsSearched.not_searched h) hyp = refl
  same_all n e (IsSearched.none h i) hyp = refl
  same_all n e (IsSearched.found h i f) hyp = absurd (not_found n h hyp)

  module _ (names : List Name) (woven : Woven (IsOwnStep names w.bound g w.judgements) IsNewStep 0 (steps w.read) ds) where
    -- where the step of a number is the one of the worksheet
    abbrev Placed : ℕ → SheetStep → WrittenStep → Type 0
    Placed k s e = slice_get (steps w.read) k ≡ Some s → IsWrittenOf k s e

    placed : (k : ℕ) (s : SheetStep) (d e : WrittenStep) → IsOwnStep names w.bound g w.judgements k s d → Search (name_step w.names d) e → Placed k s e
    placed k s d e own seen at =
        let n = name_step w.names d in
        let hyp_d : d.hyp ≡ s.hyp = ap (λ (x : WrittenStep). x.hyp) own.is ∙ filled_hyp own.front own.more s (formula w.bound g k) g own.judgement in
        record {
          hyp = same_hyp n e seen ∙ hyp_d;
          name = same_name n e seen ∙ ap (λ (x : WrittenStep). x.name) own.is ∙ filled_name own.front own.more s (formula w.bound g k) g own.judgement;
          tree = same_written n e seen ∙ ap (name_tree w.names) (ap (λ (x : WrittenStep). x.tree) own.is ∙ filled_tree own.front own.more s (formula w.bound g k) g own.judgement);
          reference =
              λ h. ap (λ (x : WrittenStep). x.reference) (same_all n e seen (hyp_d ∙ h)) ∙ ap (λ (x : WrittenStep). x.reference) own.is
              ∙ filled_reference own.front own.more s (formula w.bound g k) g own.judgement;
          places = λ h.
              ap (λ (x : WrittenStep). length x.places) (same_all n e seen (hyp_d ∙ h)) ∙ ap (λ (x : WrittenStep). length x.places) own.is
              ∙ filled_count k s at h own.front own.more (formula w.bound g k) own.judgement own.judgement_at;
        }

    newly : (d e : WrittenStep) → IsNewStep d → Search (name_step w.names d) e → IsNewOf e
    newly d e new seen = record {
      hyp = same_hyp (name_step w.names d) e seen ∙ ap (λ (x : WrittenStep). x.hyp) new.is;
      derived = subst IsDerivedName (sym (same_name (name_step w.names d) e seen ∙ ap (λ (x : WrittenStep). x.name) new.is)) new.derived;
    }

    pub woven_again : Woven Placed IsNewOf 0 (steps w.read) es
    woven_again =
        woven_zip (IsOwnStep names w.bound g w.judgements) IsNewStep Placed IsNewOf (λ d e. Search (name_step w.names d) e) placed newly 0 (steps w.read) ds es woven
        (zip_map_left Search (name_step w.names) ds es S.searched)

  -- ---- the typecodes of trees

  formula_code_by : (k : ℕ) (b : BoundStep) → slice_get w.bound.steps k ≡ Some b → (tokens : List Name) → (o : Option Tree) → b.tree ≡ o
      → HasTree db place tokens o → code_of (formula_value g k o) ≡ logic_code db
  formula_code_by k b at tokens None is h = S.the.most_general.is_valuation.code (blank k) (IsUnknown.is_blank b at is)
  formula_code_by k b at tokens (Some t) is h =
      (replaced_on db.rows place (λ s c. Var s c) (open_value g) t (λ v o. record { code = code-Var v.sym v.code; typed = typed-Var db.rows place v.sym v.code })
      (open_typed db options w numbers ds S k b t at is h.parses.named) h.parses.typed).code ∙ h.parses.code

  wanted_code : (k : ℕ) (o : Judgement) → slice_get w.judgements k ≡ Some o → (t : Tree) → Contains (wanted_by g o) t → code_of t ≡ logic_code db
  wanted_code k (stands v) e t m = absurd (let less = m.1 in omega (arith, less))
  wanted_code k (accepted x) e t m =
      let is = accepted_at db options w numbers ds S k x e in
      let r = contains_mapped (instance g x.step) (drop (length x.places) x.assertion.hyps) t m in
      let own = dropped (length x.places) x.assertion.hyps r.0 r.1 in
      let whole = whole_member db options w numbers ds S x is.member in
      let known : HasOnly x.assertion.vars r.0 = all_of (HasOnly x.assertion.vars) x.assertion.hyps r.0 whole.hyps_known own in
      let closed : IsClosedTree r.0 = all_of IsClosedTree x.assertion.hyps r.0 whole.hyps_closed own in
      let usable = S.facts.usable is.candidate_is.label x.assertion is.candidate_is.usable in
      let j = contains_get x.assertion.hyps r.0 own in
      let read = zip_left _ (essentials x.assertion.frame.hyps) x.assertion.hyps usable.hyps j.0 r.0 j.1 in
      let V = S.the.most_general.is_valuation in
      ap code_of (sym r.2)
      ∙ (replaced_on db.rows place (λ s c. g (copy x.step s c)) leaf_tree r.0
      (λ v o. let on = IsUnknown.in_frame x v is.member (known v o) in record { code = V.code (copy x.step v.sym v.code) on; typed = V.typed (copy x.step v.sym v.code) on })
      (λ y o. absurd (closed y o)) (usable_typed db options w numbers ds S is.bound_step x.assertion is.candidate_is r.0 own)).code ∙ read.2.tree.parses.code

  ds_code : (i : ℕ) (d : WrittenStep) → slice_get ds i ≡ Some d → code_of d.tree ≡ logic_code db
  ds_code i d e = elim (S.filling.from i d e) [
    | inl k ↦
        let r = S.filling.own k.0 i k.1 in
        let same : r.0 ≡ d = some_same r.0 d (sym r.1 ∙ e) in
        let tree : d.tree ≡ formula w.bound g k.0 =
        ap (λ (x : WrittenStep). x.tree) (sym same ∙ r.2.is)
        ∙ filled_tree (take k.0 numbers) r.2.more r.2.source (formula w.bound g k.0) g r.2.judgement in
        let b = S.bound_steps k.0 r.2.source r.2.source_at in
        ap code_of (tree ∙ ap (formula_value g k.0) (tree_at db options w numbers ds S k.0 b.0 b.1)) ∙ formula_code_by k.0 b.0 b.1 r.2.source.formula b.0.tree refl b.2.tree
    | inr m ↦ wanted_code m.by m.judgement m.judgement_at d.tree m.wanted
  ]

  pub es_code : (i : ℕ) (t : Tree) → slice_get (trees es) i ≡ Some t → code_of t ≡ logic_code db
  es_code i t at =
      let r = get_mapped (name_tree w.names) (trees ds) i t (ap (λ ts. slice_get ts i) (sym (trees_named db options w numbers ds S)) ∙ at) in
      let d = get_mapped (λ (z : WrittenStep). z.tree) ds i r.0 r.1 in
      let typed_ = ds_typed db options w numbers ds S i d.0 d.1 in
      ap code_of (sym r.2 ∙ ap (name_tree w.names) (sym d.2)) ∙ (name_typed db place w.names d.0.tree typed_).code ∙ ds_code i d.0 d.1

  -- ---- the one tree of a written formula

  module _ (back : (i : ℕ) (t : Tree) → slice_get (trees es) i ≡ Some t → (x : Leaf) → Contains (text db.rows t) x → leaf_of db place (leaf_name db x) ≡ Some x) where
    pub parses_again : (i : ℕ) (t : Tree) → slice_get (trees es) i ≡ Some t → IsTreeOf db place (formula_tokens db t) t
    parses_again i t at = record {
      code = es_code i t at;
      typed = es_typed db options w numbers ds S i t at;
      named = named_from t (no_fresh_written db options w numbers ds S i t at);
      written = sym (read_all (leaf_name db) (leaf_of db place) (text db.rows t) (back i t at));
    }

    pub the_tree_again : (i : ℕ) (t : Tree) → slice_get (trees es) i ≡ Some t → (HasTwoTrees db place (formula_tokens db t) → ⊥) → IsTheTree db place (formula_tokens db t) t
    the_tree_again i t at one = record {
      parses = parses_again i t at;
      only = λ u h. elim (cases_Bool (same_tree u t)) [
        | inl d ↦ (same_tree-Decides u t).0 d
        | inr d ↦ absurd (one (record { one = u; other = t; one_parses = h; other_parses = parses_again i t at; differ = λ e. both_ways (same_tree u t) d ((same_tree-Decides u t).1 e) }))
      ];
    }
