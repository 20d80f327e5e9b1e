-- The loop over the steps of an accepted proof.
use Rattle.std.proofs.Common.{◌≡◌, Bool, true, false, List, [], ◌∷◌, ◌++◌, None, Ok, sym, subst}
use Rattle.std.specs.Prelude.{codes}
use Rattle.mm_model.specs.Names.{Name}
use Rattle.mm_model.specs.Book.{Database}
use Rattle.proof_model.specs.declared.code.Step.{Step}
use Rattle.proof_model.specs.declared.theorem.Theorem.{Theorem}
use Rattle.proof_model.specs.Machine.{Formula, State, use_step}
use Rattle.sheet_text.specs.declared.sheet.SheetItem.TheVariants as item
use Rattle.written_model.specs.Written.{frames_of}
use Rattle.export_model.specs.Exported.{Push, push_of, pushes_from, push_steps, step_with}
use Rattle.proof_export.specs.Leads.{Goes, HasFormulas, LeadsTo, items_of}
use Rattle.proof_export.specs.Proofs.{Runs}
use Rattle.proof_export.specs.declared.steps.Steps.{Steps}
use Rattle.proof_export.proofs.Proving.{leads_past, ends_with, ends_open}
use Rattle.proof_export.proofs.Using.{runs_on}

-- the list of labels that the program reads is that of the code
module _ (db : Database) (thm : Theorem) (labels list : List Name) (el : list ≡ labels) where
  -- the steps of the worksheet are those of the pushes
  abbrev pub Made : Steps → List Push → Steps → Type 0
  Made first all new = (fs : List Formula) → HasFormulas first fs → new.items.items ≡ first.items.items ++ items_of (push_steps db thm.formula fs all)

  abbrev follow : List Step → State → List Push
  follow ss st = pushes_from db thm labels ss st

  pub loop_open : (first old new : Steps) (all : List Push) (here : List Step) (st : State) → here ≡ [] → LeadsTo db thm.formula first all old (follow here st)
      → new.items.items ≡ old.items.items ++ item.Step (step_with db false (codes "qed") [] None thm.formula) ∷ [] → Made first all new
  loop_open first old new all here st end leads items = λ fs has.
      sym ((ends_open db thm labels first old new all (subst (λ (l : List Step). LeadsTo db thm.formula first all old (follow l st)) end leads) items).each fs has)

  module _ (here : List Step) (s : Step) (rest : List Step) (st : State) (cut : here ≡ s ∷ rest) (runs : Runs (frames_of db) thm labels here st) where
    from_here : Runs (frames_of db) thm labels (s ∷ rest) st
    from_here = subst (λ (l : List Step). Runs (frames_of db) thm labels l st) cut runs

    module _ (first old new : Steps) (all : List Push) (next : State) (leads : LeadsTo db thm.formula first all old (follow here st)) (e : use_step (frames_of db) thm list s st ≡ Ok next) where
      used : use_step (frames_of db) thm labels s st ≡ Ok next
      used = subst (λ (l : List Name). use_step (frames_of db) thm l s st ≡ Ok next) el e

      led : LeadsTo db thm.formula first all old (follow (s ∷ rest) st)
      led = subst (λ (l : List Step). LeadsTo db thm.formula first all old (follow l st)) cut leads

      abbrev pub Adds : Bool → List Name → Type 0
      Adds last l = Goes last db thm.formula old (push_of db thm l s.what st.stack next.stack ++ follow rest next) new (follow rest next)

      adds : (last was : Bool) → was ≡ last → Adds was list → Adds last labels
      adds last was is g = subst (λ (b : Bool). Adds b labels) is (subst (λ (l : List Name). Adds was l) el g)

      pub loop_runs : Runs (frames_of db) thm labels rest next
      loop_runs = runs_on (frames_of db) thm labels s rest st next from_here used

      pub loop_leads : (was : Bool) → was ≡ false → Adds was list → LeadsTo db thm.formula first all new (follow rest next)
      loop_leads was is g = leads_past db thm labels first old new all s rest st next used led (adds false was is g)

      pub loop_ends : (was : Bool) → was ≡ true → Adds was list → Made first all new
      loop_ends was is g = λ fs has. sym ((ends_with db thm labels first old new all s rest st next used led (adds true was is g)).each fs has)
