use Rattle.std.proofs.Common.{◌≡◌, arith, sym, ap, ◌∙◌, subst, reverse, fold, [], length, List}
use Rattle.std.proofs.lemmas.Result.{IfOk-weaker}
use Rattle.std.proofs.lemmas.List.{map-id, reverse-reverse}
use Rattle.std.proofs.lemmas.Iterator.Adapters.{YieldsList-from_vec}
use Rattle.std.proofs.lemmas.Iterator.Consumers.{YieldsList-end}
use Rattle.mm_model.specs.declared.rows.Production.{Production}
use Rattle.mm_model.specs.Chains.{keep, kept}
use Rattle.syntax_grammar.specs.declared.joins.Joins.{Joins}
use Rattle.mm_model.specs.Rows.{IsGrammar}
use Rattle.mm_model.proofs.KeptLaws.{kept_is_grammar}
use Rattle.syntax_grammar.proofs.JoinLaws.{row_dropped, row_joined, row_put}
use Rattle.syntax_grammar.proofs.grammar.keep_rows.Goals as goal
use Rattle.syntax_grammar.proofs.grammar.keep_rows.Goals.{in-Some-chain_from+in_ok-leads+else-branch+in_ok-add, in_default}

made_is : (rows kept_rows : List Production) → reverse kept_rows ≡ fold keep [] rows → kept_rows ≡ kept rows
made_is rows kept_rows is = sym (reverse-reverse kept_rows) ∙ ap reverse is

pub indexed-requires : goal.indexed-requires
indexed-requires c =
    let made = c.into_iter-row-iterator.ensures.into_iter_gives in
    let items = c.into_vec-row-items.ensures in
    let yields = YieldsList-from_vec c.args.rows (made.0 ∙ items) (omega (arith, made.1, c.into_vec-row-items.result.ok.0, ap length items)) in
    let all = YieldsList-end yields c.loop-row.yielded c.loop-row.row-iterator c.loop-row.yielded_by c.next.result c.next.new.self c.in-None.is c.next.ensures.steps in
    let seen : c.loop-row.yielded ≡ c.args.rows = sym (map-id c.loop-row.yielded) ∙ all.0 in
    let is : c.from_vec.result ≡ kept c.args.rows = c.from_vec.ensures ∙ made_is c.loop-row.yielded c.loop-row.kept.items c.loop-row.invariant.rows ∙ ap kept seen in
    subst IsGrammar (sym is) (kept_is_grammar c.args.rows c.requires)

pub returns : goal.returns
returns c =
    let made = c.into_iter-row-iterator.ensures.into_iter_gives in
    let items = c.into_vec-row-items.ensures in
    let yields = YieldsList-from_vec c.args.rows (made.0 ∙ items) (omega (arith, made.1, c.into_vec-row-items.result.ok.0, ap length items)) in
    let all = YieldsList-end yields c.loop-row.yielded c.loop-row.row-iterator c.loop-row.yielded_by c.next.result c.next.new.self c.in-None.is c.next.ensures.steps in
    let seen : c.loop-row.yielded ≡ c.args.rows = sym (map-id c.loop-row.yielded) ∙ all.0 in
    let is : c.from_vec.result ≡ kept c.args.rows = c.from_vec.ensures ∙ made_is c.loop-row.yielded c.loop-row.kept.items c.loop-row.invariant.rows ∙ ap kept seen in
    IfOk-weaker c.indexed.result (λ (g : List Production). g ≡ c.from_vec.result) (λ (g : List Production). g ≡ kept c.args.rows) (λ g e. e ∙ is) c.indexed.ensures

pub loop-row-preserved-then-branch : goal.loop-row-preserved-then-branch
loop-row-preserved-then-branch c =
    row_dropped c.loop-row.kept.items c.loop-row.yielded c.in-Some.row c.in-Some-chain_from.from c.in_ok-leads.field-0 c.loop-row.joins.ends c.leads.new.self.ends
    c.loop-row.invariant (sym c.in-Some-chain_from.ensures) c.in_ok-leads.ensures.leads c.if-branch.true c.in_ok-leads.ensures.same

pub loop-row-preserved : goal.loop-row-preserved
loop-row-preserved c =
    elim c.match-chain_from.branch [
      | in-Some-chain_from+in_ok-leads+else-branch+in_ok-add w ↦
          row_joined c.loop-row.kept.items c.push.new.self.items c.loop-row.yielded c.in-Some.row w.in-Some-chain_from.from w.in_ok-leads.field-0
          c.loop-row.joins.ends w.leads.new.self.ends w.add.new.self.ends c.match-chain_from.joins.ends c.loop-row.invariant
          (sym w.in-Some-chain_from.ensures) w.in_ok-leads.ensures.leads w.if-branch.false w.in_ok-leads.ensures.same w.in_ok-add.ensures
          (ap (λ (x : Joins). x.ends) w.joins-is) c.in_ok-push.ensures.items
      | in_default w ↦
          row_put c.loop-row.kept.items c.push.new.self.items c.loop-row.yielded c.in-Some.row c.loop-row.joins.ends c.match-chain_from.joins.ends
          c.loop-row.invariant (sym w.in_default.ensures) (ap (λ (x : Joins). x.ends) w.joins-is) c.in_ok-push.ensures.items
    ]
