-- Needed pairs, clashes and lacks, computed: ax-5 asks that x does not stand in ph.
use Rattle.std.specs.Prelude.{◌≡◌, [], ◌∷◌, Some, None, refl}
use Rattle.mm_base.specs.declared.tree.Tree.{Tree}
use Rattle.mm_base.specs.declared.tree.Tree.TheVariants.{Work}
use Rattle.mm_model.specs.Names.{sym}
use Rattle.solve_model.specs.PairSets.{ordered}
use Rattle.solve_model.specs.Example.{wff, ph, ps, x, wi, wal, ax_5, ph_x}
use Rattle.solve_model.proofs.TreeLaws.{leaves}
use Rattle.written_model.specs.declared.options.DvMode.TheVariants as dv
use Rattle.written_model.specs.WrittenSteps.{Use}
use Rattle.written_model.specs.Pairs.{needed, clash_of, lack_of}

abbrev use_with : Tree → Tree → Use
use_with t v = record { assertion = ax_5; values = t ∷ v ∷ [] }

-- each variable of the formula with the set variable
pub two : needed (use_with (wi ps ph) x) ≡ ph_x ∷ ordered (sym 7) (sym 16) ∷ []
two = simp leaves refl

-- a work variable needs none
pub none : needed (use_with (Work wff 1) x) ≡ []
none = simp leaves refl

pub no_clash : clash_of (use_with (wi ps ph) x) ≡ None
no_clash = simp leaves refl

-- x stands in `A. x ph`; what is beside the clash is still needed
pub clash : clash_of (use_with (wal ph x) x) ≡ Some (sym 16)
clash = simp leaves refl

pub beside : needed (use_with (wal ph x) x) ≡ ph_x ∷ []
beside = simp leaves refl

-- where only the given pairs are allowed, the first that is not given
pub lack : lack_of dv.Given (ph_x ∷ []) (use_with (wi ps ph) x) ≡ Some (ordered (sym 7) (sym 16))
lack = simp leaves refl

pub no_lack : lack_of dv.Given (ph_x ∷ []) (use_with ph x) ≡ None
no_lack = simp leaves refl

pub none_lacks : lack_of dv.Add [] (use_with ph x) ≡ None
none_lacks = refl
