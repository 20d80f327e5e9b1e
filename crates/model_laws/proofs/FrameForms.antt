-- The laws of the frames of a text.
use Rattle.std.proofs.Common.{◌≡◌, not, sym, ◌∙◌, subst, arith}
use Rattle.std.proofs.lemmas.Option.{slice_get_within}
use Rattle.mm_base.specs.declared.symbols.Sym.{Sym}
use Rattle.mm_model.specs.declared.frames.Hyp.{Hyp}
use Rattle.mm_model.specs.Statements.{statements, symbols_in}
use Rattle.mm_model.specs.Frames.{symbols, positions, symbol_in, below, frame_at, mandatory_hypotheses}
use Rattle.mm_model.specs.Productions.{essentials}
use Rattle.mm_model.specs.Book.{expression_at}
use Rattle.mm_model.specs.BookFacts.{IsKnownAt}
use Rattle.model_laws.specs.FrameLaws.{own_expression, IsOwn, HasOwnExpressions, FramesHaveOwnExpressions, FramesGiveRows}
use Rattle.model_laws.proofs.Checked.{IsChecked, last_first, text_checked, found, no_statement_fault}
use Rattle.model_laws.proofs.FrameFacts.{frame_known, mandatory_at}
use Rattle.model_laws.proofs.KnownFacts.{assertion_known, mandatory_known}
use Rattle.model_laws.proofs.DatabaseFacts.{are_rows}
use Rattle.model_laws.proofs.Listed.{all_and, all-filter}
use Rattle.model_laws.proofs.LabelFacts.{positions_are}
use Rattle.model_laws.proofs.KnownAt.{known_at_place, all_known_at_place}
use Rattle.model_laws.proofs.OwnLeaves.{formula_is, hyps_are}

pub own_expressions : FramesHaveOwnExpressions
own_expressions text db shows ok l f frame =
    let ss = statements text in
    let e = last_first text in
    let each = text_checked text (no_statement_fault text ok) in
    let k = frame_known ss l f (sym (shows.frame l) ∙ frame) in
    let there = found IsChecked e k.at k.statement each k.stands in
    let f' = frame_at ss l k.at k.statement in
    let known = assertion_known (below ss k.at) k.statement there.here k.assertion in
    let hyps = mandatory_known (mandatory_at ss k.at k.statement) (below ss k.at) there.before in
    let constants = λ (x : Sym). shows.is_constant_at x k.at in
    let active = shows.active_at k.at in
    let symbols_are = known_at_place ss k.at db shows.symbols active constants (symbols_in k.statement) known in
    let all_are = all_known_at_place ss k.at db shows.symbols active constants (mandatory_hypotheses (mandatory_at ss k.at k.statement) (below ss k.at)) hyps in
    subst (HasOwnExpressions text db l) k.frame (record {
      label = (let within = slice_get_within (positions ss) l.0 k.at k.position in let count = positions_are ss in omega (arith, within, count));
      place = slice_get_within ss k.at k.statement k.stands;
      formula = record { expression = formula_is ss l k.at k.statement db active constants known; symbols = symbols_are.symbols };
      hyps = all_and (λ (h : Hyp). own_expression db f' h.formula ≡ expression_at db k.at h.formula) (λ (h : Hyp). IsKnownAt db k.at h.formula) (λ (h : Hyp). IsOwn db f' h.formula)
          (λ h e q. record { expression = e; symbols = q.symbols }) (essentials f'.hyps) (hyps_are ss l k.at k.statement db active constants hyps)
          (all-filter (λ (h : Hyp). IsKnownAt db k.at h.formula) (λ (h : Hyp). not h.floating) f'.hyps all_are);
    })

pub give_rows : FramesGiveRows
give_rows kinds text ok = are_rows (last_first text) (text_checked text (no_statement_fault text ok)) (symbol_in (symbols (statements text)) kinds.provable)
