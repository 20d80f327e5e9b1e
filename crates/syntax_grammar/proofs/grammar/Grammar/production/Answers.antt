use Rattle.std.proofs.Common.{◌≡◌, ◌<◌, ◌≤◌, List, ℕ, [], ◌∷◌, None, slice_get, get_or, sym, ap, ◌∙◌, length, arith, refl}
use Rattle.mm_model.specs.declared.rows.Production.{Production}
use Rattle.mm_model.specs.Texts.{row_of}
use Rattle.syntax_grammar.proofs.IndexLaws.{first_row, row_of_label}
use Rattle.syntax_grammar.proofs.grammar.Grammar.production.Goals as goal

no_first : (rows : List Production) (ns : List ℕ) → length ns < 1 → first_row rows ns ≡ None
no_first rows [] l = refl
no_first rows (n ∷ ns) l = absurd (omega arith)

a_first : (rows : List Production) (ns : List ℕ) → 1 ≤ length ns → first_row rows ns ≡ slice_get rows (get_or ns 0 0)
a_first rows [] l = absurd (omega arith)
a_first rows (n ∷ ns) l = refl

pub returns-in-empty : goal.returns-in-empty
returns-in-empty c =
    let rows = c.self.inside.rows in
    sym (no_first rows c.at.result.now c.in-empty.len_below) ∙ ap (first_row rows) (c.at.ensures ∙ c.self.invariant.1 c.args.label.0)
    ∙ row_of_label rows c.args.label ∙ ap (λ (rs : List Production). row_of rs c.args.label) c.self.view_is

pub returns-in-len1-up : goal.returns-in-len1-up
returns-in-len1-up c =
    let rows = c.self.inside.rows in
    c.row.ensures ∙ ap (λ (rs : List Production). slice_get rs (get_or c.at.result.now 0 0)) (sym c.self.view_is)
    ∙ sym (a_first rows c.at.result.now c.in-len1-up.len_at_least) ∙ ap (first_row rows) (c.at.ensures ∙ c.self.invariant.1 c.args.label.0)
    ∙ row_of_label rows c.args.label ∙ ap (λ (rs : List Production). row_of rs c.args.label) c.self.view_is
