-- What is read of an assertion, from what is read of its formulas.
use Rattle.std.specs.Prelude.{◌≡◌, ℕ, List, map, Option, Some, None}
use Rattle.std.specs.List.{AllZip}
use Rattle.std.proofs.Common.{sym, ap, ◌∙◌, subst}
use Rattle.mm_base.specs.declared.symbols.Sym.{Sym}
use Rattle.mm_base.specs.declared.tree.Tree.{Tree}
use Rattle.mm_model.specs.declared.frames.Hyp.{Hyp}
use Rattle.mm_model.specs.declared.frames.Frame.{Frame}
use Rattle.mm_model.specs.declared.rows.Production.{Production}
use Rattle.mm_model.specs.Productions.{essentials}
use Rattle.mm_database.specs.declared.assertions.Parsed.{Parsed}
use Rattle.mm_database.specs.declared.formulas.KindCodes.{KindCodes}
use Rattle.mm_database.specs.declared.variables.FrameVariable.{FrameVariable}
use Rattle.mm_database.specs.Variables.{frame_variables}
use Rattle.mm_database.specs.Formulas.{IsAnswer, IsReadBy}
use Rattle.mm_database.specs.Assertions.{IsParsed}

abbrev whole : Tree → List Tree → List Sym → Parsed
whole t ts vs = record { tree = t; hyps = ts; vars = vs }

module _ (kinds : KindCodes) (rows : List Production) (constants : List ℕ) (f : Frame) (vars : List FrameVariable) (own : vars ≡ frame_variables f.hyps)
    (formula : List Sym) (is_formula : formula ≡ f.formula) (hyps : List Hyp) (are_hyps : hyps ≡ f.hyps) where
  abbrev Reads : List FrameVariable → List Sym → Tree → Type 0
  Reads vs symbols t = IsReadBy kinds rows constants f.at vs symbols t

  abbrev ReadAll : List FrameVariable → List Hyp → List Tree → Type 0
  ReadAll vs hs ts = AllZip (λ (h : Hyp) (t : Tree). Reads vs h.formula t) (essentials hs) ts

  own_conclusion : (o : Option Tree) → IsAnswer (Reads vars formula) o → IsAnswer (Reads (frame_variables f.hyps) f.formula) o
  own_conclusion o h = subst (λ vs. IsAnswer (Reads vs f.formula) o) own (subst (λ symbols. IsAnswer (Reads vars symbols) o) is_formula h)

  own_hyps : (o : Option (List Tree)) → IsAnswer (ReadAll vars hyps) o → IsAnswer (ReadAll (frame_variables f.hyps) f.hyps) o
  own_hyps o h = subst (λ vs. IsAnswer (ReadAll vs f.hyps) o) own (subst (λ hs. IsAnswer (ReadAll vars hs) o) are_hyps h)

  pub no_conclusion : IsAnswer (Reads vars formula) None → (p : Parsed) → IsParsed kinds rows constants f p → ⊥
  no_conclusion h p is = own_conclusion None h p.tree is.conclusion

  pub no_hyps : IsAnswer (ReadAll vars hyps) None → (p : Parsed) → IsParsed kinds rows constants f p → ⊥
  no_hyps h p is = own_hyps None h p.hyps is.hyps

  pub read_whole : (t : Tree) (ts : List Tree) (vs : List Sym) → IsAnswer (Reads vars formula) (Some t) → IsAnswer (ReadAll vars hyps) (Some ts) → vs ≡ map (λ (v : FrameVariable). v.sym) vars
      → IsAnswer (IsParsed kinds rows constants f) (Some (record { tree = t; hyps = ts; vars = vs }))
  read_whole t ts vs h k same =
      let c = own_conclusion (Some t) h in
      let e = own_hyps (Some ts) k in
      let syms = same ∙ ap (λ xs. map (λ (v : FrameVariable). v.sym) xs) own in (
        record { conclusion = c.0; hyps = e.0; vars = syms },
        λ p is.
            ap (λ (x : Tree). whole x p.hyps p.vars) (c.1 p.tree is.conclusion)
            ∙ ap (λ (xs : List Tree). whole t xs p.vars) (e.1 p.hyps is.hyps)
            ∙ ap (λ (xs : List Sym). whole t ts xs) (is.vars ∙ sym syms),
      )
