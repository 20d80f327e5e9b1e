-- What each written step is: one with a use, one of the worksheet that stands with a verdict, or a new one.
use Rattle.std.specs.Prelude.{◌≡◌, ℕ, Contains, List, take, slice_get, Option, Some, None, refl}
use Rattle.std.specs.List.{AllZip}
use Rattle.std.proofs.Common.{sym, ap, subst, ◌∙◌, inl, inr}
use Rattle.mm_base.specs.declared.tree.Tree.{Tree}
use Rattle.mm_base.specs.declared.tree.Tree.TheVariants.{Work, Var}
use Rattle.mm_base.specs.declared.symbols.Typecode.{Typecode}
use Rattle.mm_model.specs.Names.{Name}
use Rattle.mm_model.specs.Typed.{IsTyped}
use Rattle.mm_model.specs.Book.{Database}
use Rattle.sheet_text.specs.declared.sheet.SheetStep.{SheetStep}
use Rattle.sheet_text.specs.Layout.{steps}
use Rattle.solve_model.specs.declared.verdict.Verdict.{Verdict}
use Rattle.solve_model.specs.Trees.{Open, work, fresh, open_leaves, Occurs}
use Rattle.solve_model.specs.Solutions.{formula}
use Rattle.solve_model.specs.Verdicts.{Judgement, accepted, stands}
use Rattle.solve_model.proofs.TreeLaws.{open_leaves-Var, open_leaves-Work}
use Rattle.solve_laws.proofs.Elements.{nothing, only}
use Rattle.written_model.specs.declared.options.Options.{Options}
use Rattle.written_model.specs.WrittenSteps.{Use, WrittenStep, trees}
use Rattle.written_model.specs.Filled.{filled_step, made_step, wanted_by}
use Rattle.written_model.specs.Named.{name_leaf, name_fresh, name_step, name_tree}
use Rattle.written_model.specs.Found.{IsSearched}
use Rattle.written_model.specs.Written.{Writing}
use Rattle.again_laws.proofs.LeafLaws.{comes}
use Rattle.again_laws.proofs.Lists.{get_contains, get_map, get_mapped, zip_left, some_same}
use Rattle.again_laws.proofs.Filling.{FillsAt}
use Rattle.again_laws.proofs.Setting.{Setting}
use Rattle.again_laws.proofs.Accepted.{es_typed, trees_searched, trees_named}
use Rattle.again_laws.proofs.Uses.{IsUse, found_use, written_steps, named_steps}
use Rattle.again_laws.proofs.AcceptedUses.{accepted_use}

module _ (db : Database) (options : Options) (w : Writing) (numbers : List ℕ) (ds : List WrittenStep) (S : Setting db options w numbers ds) where
  abbrev es : List WrittenStep
  es = written_steps db options w numbers ds S

  abbrev ns : List WrittenStep
  ns = named_steps db options w numbers ds S

  -- a step of the worksheet that stands with a verdict
  pub record IsStanding (i : ℕ) (e : WrittenStep) : Type 0 where
    pub origin : ℕ
    pub origin_at : slice_get numbers origin ≡ Some i
    pub source : SheetStep
    pub source_at : slice_get (steps w.read) origin ≡ Some source
    pub verdict : Verdict
    pub judgement_at : slice_get w.judgements origin ≡ Some (stands verdict)
    pub more : List ℕ
    pub is : e ≡ name_step w.names (filled_step (take origin numbers) more source (formula w.bound w.value origin) w.value (stands verdict))

  pub data IsWritten (i : ℕ) (e : WrittenStep) : Type 0 where
    used : (u : Use) → e.by ≡ Some u → IsUse db options w numbers ds S i e u → IsWritten i e
    standing : IsStanding i e → IsWritten i e
    made : (name : Name) (t : Tree) → e ≡ name_step w.names (made_step (name, t)) → IsWritten i e

  by_judgement : (k i : ℕ) → slice_get numbers k ≡ Some i → (source : SheetStep) → slice_get (steps w.read) k ≡ Some source → (o : Judgement) → slice_get w.judgements k ≡ Some o → (more : List ℕ)
      → AllZip (FillsAt (trees ds) i) (wanted_by w.value o) more → IsWritten i (name_step w.names (filled_step (take k numbers) more source (formula w.bound w.value k) w.value o))
  by_judgement k i at source source_at (accepted x) judged more fills = IsWritten.used _ refl (accepted_use db options w numbers ds S k i at x judged source source_at more fills)
  by_judgement k i at source source_at (stands v) judged more fills =
      IsWritten.standing (record { origin = k; origin_at = at; source = source; source_at = source_at; verdict = v; judgement_at = judged; more = more; is = refl })

  named_by : (i : ℕ) (d : WrittenStep) → slice_get ds i ≡ Some d → IsWritten i (name_step w.names d)
  named_by i d e = elim (S.filling.from i d e) [
    | inl k ↦
        let r = S.filling.own k.0 i k.1 in
        let same : r.0 ≡ d = some_same r.0 d (sym r.1 ∙ e) in
        subst (λ (x : WrittenStep). IsWritten i (name_step w.names x)) (sym r.2.is ∙ same) (by_judgement k.0 i k.1 r.2.source r.2.source_at r.2.judgement r.2.judgement_at r.2.more r.2.fills)
    | inr m ↦ IsWritten.made d.name d.tree (ap (name_step w.names) m.is)
  ]

  by_search : (i : ℕ) (n e : WrittenStep) → IsTyped db.rows w.bound.place n.tree → IsWritten i n → IsSearched db w.bound.place options.dv w.bound.pairs ns n e → IsWritten i e
  by_search i n e tree_typed h (IsSearched.not_searched s) = h
  by_search i n e tree_typed h (IsSearched.none s f) = h
  by_search i n e tree_typed h (IsSearched.found {c = c} {u = u} s f fit) = IsWritten.used u refl (found_use db options w numbers ds S i n c u tree_typed s f fit)

  pub written_at : (i : ℕ) (e : WrittenStep) → slice_get es i ≡ Some e → IsWritten i e
  written_at i e at =
      let z = zip_left _ ns es S.searched i e at in
      let d = get_mapped (name_step w.names) ds i z.0 z.1 in
      let tree_at = ap (λ ts. slice_get ts i) (trees_searched db options w numbers ds S) ∙ get_map (λ (x : WrittenStep). x.tree) ns i z.0 z.1 in
      by_search i z.0 e (es_typed db options w numbers ds S i z.0.tree tree_at) (subst (IsWritten i) d.2 (named_by i d.0 d.1)) z.2

  use_by : (i : ℕ) (e : WrittenStep) (u : Use) → e.by ≡ Some u → IsWritten i e → IsUse db options w numbers ds S i e u
  use_by i e u is (IsWritten.used v own h) = subst (IsUse db options w numbers ds S i e) (some_same v u (sym own ∙ is)) h
  use_by i e u is (IsWritten.standing h) = absurd (none (sym is ∙ ap (λ (x : WrittenStep). x.by) h.is))
    where
      none : Some u ≡ None → ⊥
      none q = cc
  use_by i e u is (IsWritten.made name t h) = absurd (none (sym is ∙ ap (λ (x : WrittenStep). x.by) h))
    where
      none : Some u ≡ None → ⊥
      none q = cc

  pub use_written : (i : ℕ) (e : WrittenStep) (u : Use) → slice_get es i ≡ Some e → e.by ≡ Some u → IsUse db options w numbers ds S i e u
  use_written i e u at is = use_by i e u is (written_at i e at)

  -- ---- no written formula has a fresh leaf

  no_fresh_named : (c : Typecode) (n : ℕ) (t : Tree) → Contains (trees ds) t → Occurs (fresh c n) (name_tree w.names t) → ⊥
  no_fresh_named c n t m o = elim (comes (λ s d. Var s d) (name_leaf w.names) (fresh c n) t o) [
    | inl v ↦ nothing (fresh c n) (rw open_leaves-Var at v.2)
    | inr x ↦ by x.0 x.1 x.2
  ]
    where
      other : (d : Typecode) (k : ℕ) → Contains (open_leaves (Work d k)) (fresh c n) → ⊥
      other d k q = clash (only (fresh c n) (work d k) (rw open_leaves-Work at q))
        where
          clash : work d k ≡ fresh c n → ⊥
          clash z = cc

      by : (x : Open) → Contains (open_leaves t) x → Contains (open_leaves (name_leaf w.names x)) (fresh c n) → ⊥
      by (work d k) inside q = other d k q
      by (fresh d k) inside q =
          let named = S.naming.named d k (t, m, inside) in
          other d named.0 (subst (λ (z : Option ℕ). Contains (open_leaves (name_fresh d k z)) (fresh c n)) named.1 q)

  pub no_fresh_written : (k : ℕ) (t : Tree) → slice_get (trees es) k ≡ Some t → (c : Typecode) (n : ℕ) → Occurs (fresh c n) t → ⊥
  no_fresh_written k t at c n o =
      let r = get_mapped (name_tree w.names) (trees ds) k t (ap (λ ts. slice_get ts k) (sym (trees_named db options w numbers ds S)) ∙ at) in
      no_fresh_named c n r.0 (get_contains (trees ds) k r.0 r.1) (subst (Occurs (fresh c n)) (sym r.2) o)
