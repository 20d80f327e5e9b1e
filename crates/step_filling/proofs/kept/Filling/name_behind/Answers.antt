use Rattle.std.proofs.Common.{rules, ◌≡◌, sym, subst, ap, ◌∙◌, ◌<◌, length, List, refl, arith, get_or}
use Rattle.mm_model.specs.Names.{Name}
use Rattle.hyp_derive.specs.Naming.{HaveSameNames}
use Rattle.step_filling.specs.Kept.{Kept}
use Rattle.step_filling.proofs.NameLaws.{names_count, name_at}
use Rattle.step_filling.proofs.kept.Filling.name_behind.Goals as goal

pub bounds-as_slice-count : goal.bounds-as_slice-count
bounds-as_slice-count c =
    subst (λ (ns : List Name). c.args.count < length ns) (sym c.as_slice.ensures)
    (names_count c.args.count _ c.self.inside.names c.in_ok-names.names refl c.in_ok-names.ensures.names)

pub offset_bounds-as_slice-count : goal.offset_bounds-as_slice-count
offset_bounds-as_slice-count c =
    let below : c.args.count < length c.as_slice.result.now =
    subst (λ (ns : List Name). c.args.count < length ns) (sym c.as_slice.ensures)
    (names_count c.args.count _ c.self.inside.names c.in_ok-names.names refl c.in_ok-names.ensures.names) in
    first_of (omega arith, search rules)

pub returns : goal.returns
returns c =
    λ used have.
    let own : c.self.inside.names ≡ c.args.self.now.names = ap (λ (k : Kept). k.names) c.self.view_is in
    name_at c.args.count _ c.self.inside.names c.in_ok-names.names refl c.in_ok-names.ensures.names c.in_ok-name.name c.index-as_slice-count.result
    (c.index-as_slice-count.is ∙ ap (λ (ns : List Name). get_or ns c.args.count c.index-as_slice-count.result) c.as_slice.ensures)
    (c.in_ok-name.ensures ∙ c.as_slice-2.ensures) used (subst (λ (ns : List Name). HaveSameNames ns used) (sym own) have)
