use Rattle.std.proofs.Common.{◌≡◌, ◌+◌, ◌++◌, ◌∷◌, [], List, Some, None, take, drop, get_or, sym, ap, ◌∙◌, subst}
use Rattle.std.specs.List.{AllZip}
use Rattle.std.proofs.lemmas.List.{take_all}
use Rattle.mm_base.specs.declared.symbols.Sym.{Sym}
use Rattle.mm_base.specs.declared.tree.Tree.{Tree}
use Rattle.mm_model.specs.declared.frames.Hyp.{Hyp}
use Rattle.mm_model.specs.Productions.{essentials}
use Rattle.mm_database.specs.Formulas.{IsAnswer, IsReadBy}
use Rattle.mm_database.proofs.Zips.{one_more, none_there, essential_more, floating_more, essential_split}
use Rattle.mm_database.proofs.assertions.read_hyps.Goals as goal
use Rattle.mm_database.proofs.assertions.read_hyps.Goals.{then-not-hyp+in_ok-read+in-Some+in_ok-push-in-Some, else-not-hyp}

pub returns-in-None : goal.returns-in-None
returns-in-None c =
    let F = λ (formula : List Sym) (t : Tree). IsReadBy c.args.kinds c.args.grammar.now c.args.scope.now.constants.now c.args.scope.now.place c.args.scope.now.vars.now formula t in
    let R = λ (h : Hyp) (t : Tree). F h.formula t in
    let hs = c.args.hyps.now in
    let k = c.loop-hyp.hyp-index in
    let item = c.hyp-item.result in
    let same : c.as_slice.result.now ≡ (get_or hs k item).formula = c.as_slice.ensures ∙ ap (λ (h : Hyp). h.formula) c.hyp-item.is in
    let none = subst (λ formula. IsAnswer (F formula) None) same (subst (IsAnswer (F c.as_slice.result.now)) c.in-None.is c.in_ok-read.ensures) in
    λ ws z. none_there R (essentials (take k hs)) (essentials (drop (k + 1) hs)) (get_or hs k item) none ws
    (subst (λ l. AllZip R l ws) (essential_split hs k item c.loop-hyp-test.true (ap (λ (h : Hyp). h.floating) (sym c.hyp-item.is) ∙ c.if-not-hyp.true)) z)

pub loop-hyp-preserved : goal.loop-hyp-preserved
loop-hyp-preserved c =
    let F = λ (formula : List Sym) (t : Tree). IsReadBy c.args.kinds c.args.grammar.now c.args.scope.now.constants.now c.args.scope.now.place c.args.scope.now.vars.now formula t in
    let R = λ (h : Hyp) (t : Tree). F h.formula t in
    let hs = c.args.hyps.now in
    let k = c.loop-hyp.hyp-index in
    let item = c.hyp-item.result in
    let l = c.loop-hyp-test.true in
    let G = λ (xs : List Hyp) (ts : List Tree). IsAnswer (AllZip R xs) (Some ts) in
    let float = ap (λ (h : Hyp). h.floating) (sym c.hyp-item.is) in
    elim c.if-not-hyp.branch [
      | then-not-hyp+in_ok-read+in-Some+in_ok-push-in-Some w ↦
          let same : w.as_slice.result.now ≡ (get_or hs k item).formula = w.as_slice.ensures ∙ ap (λ (h : Hyp). h.formula) c.hyp-item.is in
          let some = subst (λ formula. IsAnswer (F formula) (Some w.in-Some.tree)) same (subst (IsAnswer (F w.as_slice.result.now)) w.in-Some.is w.in_ok-read.ensures) in
          let next = one_more R (essentials (take k hs)) c.loop-hyp.trees.items (get_or hs k item) w.in-Some.tree c.loop-hyp.invariant some in
          let grown = subst (λ ts. G (essentials (take k hs) ++ get_or hs k item ∷ []) ts) (sym w.in_ok-push-in-Some.ensures.items) next in
          subst (λ v. G (essentials (take (k + 1) hs)) v.items) (sym w.trees-is) (subst (λ xs. G xs w.push.new.self.items) (sym (essential_more hs k item l (float ∙ w.if-not-hyp.true))) grown)
      | else-not-hyp w ↦
          subst (λ v. G (essentials (take (k + 1) hs)) v.items) (sym w.trees-is)
          (subst (λ xs. G xs c.loop-hyp.trees.items) (sym (floating_more hs k item l (float ∙ w.if-not-hyp.false))) c.loop-hyp.invariant)
    ]

pub returns : goal.returns
returns c =
    let R = λ (h : Hyp) (t : Tree). IsReadBy c.args.kinds c.args.grammar.now c.args.scope.now.constants.now c.args.scope.now.place c.args.scope.now.vars.now h.formula t in
    let hs = c.args.hyps.now in
    subst (λ ts. IsAnswer (AllZip R (essentials hs)) (Some ts)) (sym c.from_vec.ensures)
    (subst (λ xs. IsAnswer (AllZip R (essentials xs)) (Some c.loop-hyp.trees.items)) (take_all c.loop-hyp.hyp-index hs c.loop-hyp-test.false) c.loop-hyp.invariant)
