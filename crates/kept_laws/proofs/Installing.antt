-- What `install` writes of a finished worksheet keeps all.
use Rattle.std.proofs.Common.{◌≡◌, ℕ, List}
use Rattle.call_answers.specs.Kept.{KeepsAll, LawOfInstalling}
use Rattle.mm_model.specs.Book.{Database}
use Rattle.written_model.specs.declared.options.Options.{Options}
use Rattle.written_model.specs.Written.{Writing, Answer, Answers, Writes, wrote, refused, written}
use Rattle.install_laws.proofs.DatabaseLaw.{frames_are_moved}
use Rattle.install_laws.proofs.NamesLaw.{labels_are_put_in, symbols_stay}
use Rattle.install_model.specs.declared.install.NewTheorem.{NewTheorem}
use Rattle.install_model.specs.Installed.{new_theorem}
use Rattle.installed_laws.specs.FinishedCanBePutIn.{FinishedCanBePutIn}
use Rattle.installed_laws.specs.InstalledFault.{InstalledTextHasNoFault}
use Rattle.kept_laws.specs.KeptProofs.{NewProofIsAccepted}
use Rattle.kept_laws.proofs.NewTheorem.{new_is_accepted}
use Rattle.kept_laws.proofs.OldTheorems.{old_proofs_end_as_before}

pub new_proof_is_accepted : NewProofIsAccepted
new_proof_is_accepted text sheet db options w sound is writes new_one finished can = new_is_accepted text db sheet options w writes is sound new_one finished can

writes_of : (db : Database) (sheet : List ℕ) (options : Options) (w : Writing) → Answers db sheet options (wrote w) → Writes db sheet options w
writes_of db sheet options w (written none writes late) = writes

module _ (can_be : FinishedCanBePutIn) (no_fault : InstalledTextHasNoFault) where
  pub keeps_all : LawOfInstalling
  keeps_all options text sheet db w sound is answers new_one finished short =
      let can = can_be text sheet db options w sound is answers new_one finished in
      let old = old_proofs_end_as_before text w.bound.place (new_theorem db options w) can in
      record {
        database = record {
          sound = no_fault text w.bound.place (new_theorem db options w) sound can short;
          in_order = labels_are_put_in text w.bound.place (new_theorem db options w) can.within can.plain;
          same_symbols = symbols_stay text w.bound.place (new_theorem db options w) can.within can.plain;
          frames = λ name h. frames_are_moved text w.bound.place (new_theorem db options w) can.within can.plain can.outside can.labels_new name h;
        };
        proofs = record {
          new = new_proof_is_accepted text sheet db options w sound is (writes_of db sheet options w answers) new_one finished can;
          kept = old.kept;
          same = old.same;
        };
      }
