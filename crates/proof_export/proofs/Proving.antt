-- What the steps of an accepted proof add to the worksheet.
use Rattle.std.proofs.Common.{◌≡◌, Bool, true, false, List, [], ◌∷◌, ◌++◌, Option, Some, None, Result, Ok, sym, ap, ◌∙◌, subst}
use Rattle.std.specs.Prelude.{codes, find, is_some, if◌then◌else◌}
use Rattle.std.specs.Str.{bytes_eq}
use Rattle.mm_model.specs.declared.frames.Hyp.{Hyp}
use Rattle.mm_model.specs.declared.frames.Frame.{Frame}
use Rattle.mm_model.specs.Names.{Name}
use Rattle.mm_model.specs.Book.{Database}
use Rattle.proof_model.specs.declared.code.Step.{Step}
use Rattle.proof_model.specs.declared.theorem.Theorem.{Theorem}
use Rattle.proof_model.specs.Machine.{Formula, MachineFault, State, use_step}
use Rattle.sheet_text.specs.declared.sheet.SheetItem.TheVariants as item
use Rattle.written_model.specs.Written.{frames_of}
use Rattle.export_model.specs.Exported.{Push, behind_step, push_of, push_of_frame, push_of_label, pushes_from, step_with}
use Rattle.proof_export.specs.Leads.{Ends, Goes, LeadsTo}
use Rattle.proof_export.specs.declared.steps.Steps.{Steps}
use Rattle.proof_export.proofs.Going.{leads_on, leads_to_end}

-- ---- what a label pushes

pub hyp_pushes : (db : Database) (thm : Theorem) (label : Name) (before behind : List Formula) (h : Hyp)
    → find (λ (h : Hyp). bytes_eq h.name label) thm.hyps ≡ Some h → push_of_label db thm label before behind ≡ []
hyp_pushes db thm label before behind h e = ap (λ (o : Option Hyp). if is_some o then [] else push_of_frame db label before behind (frames_of db label)) e

pub frame_pushes : (db : Database) (thm : Theorem) (label : Name) (before behind : List Formula) (f : Frame) → find (λ (h : Hyp). bytes_eq h.name label) thm.hyps ≡ None → frames_of db label ≡ Some f
    → push_of_label db thm label before behind ≡ push_of_frame db label before behind (Some f)
frame_pushes db thm label before behind f e q =
    ap (λ (o : Option Hyp). if is_some o then [] else push_of_frame db label before behind (frames_of db label)) e ∙ ap (push_of_frame db label before behind) q

-- what goes with some pushes goes with the same
pub goes_same : (last : Bool) (db : Database) (theorem : Formula) (old new : Steps) (ps qs rest : List Push) → ps ≡ qs
    → Goes last db theorem old (ps ++ rest) new rest → Goes last db theorem old (qs ++ rest) new rest
goes_same last db theorem old new ps qs rest e g = subst (λ (l : List Push). Goes last db theorem old (l ++ rest) new rest) e g

-- ---- the loop

module _ (db : Database) (thm : Theorem) (labels : List Name) where
  pub pushes_on : (s : Step) (ss : List Step) (st next : State) → use_step (frames_of db) thm labels s st ≡ Ok next
      → pushes_from db thm labels (s ∷ ss) st ≡ push_of db thm labels s.what st.stack next.stack ++ pushes_from db thm labels ss next
  pushes_on s ss st next e =
      ap (λ (r : Result State MachineFault). behind_step r (λ next. push_of db thm labels s.what st.stack next.stack ++ pushes_from db thm labels ss next)) e

  -- a step that is not the last
  pub leads_past : (first old new : Steps) (all : List Push) (s : Step) (ss : List Step) (st next : State) → use_step (frames_of db) thm labels s st ≡ Ok next
      → LeadsTo db thm.formula first all old (pushes_from db thm labels (s ∷ ss) st)
      → Goes false db thm.formula old (push_of db thm labels s.what st.stack next.stack ++ pushes_from db thm labels ss next) new (pushes_from db thm labels ss next)
      → LeadsTo db thm.formula first all new (pushes_from db thm labels ss next)
  leads_past first old new all s ss st next e one other =
      leads_on db thm.formula first old new all (push_of db thm labels s.what st.stack next.stack ++ pushes_from db thm labels ss next) (pushes_from db thm labels ss next)
      (subst (λ (l : List Push). LeadsTo db thm.formula first all old l) (pushes_on s ss st next e) one) other

  -- the last step
  pub ends_with : (first old new : Steps) (all : List Push) (s : Step) (ss : List Step) (st next : State) → use_step (frames_of db) thm labels s st ≡ Ok next
      → LeadsTo db thm.formula first all old (pushes_from db thm labels (s ∷ ss) st)
      → Goes true db thm.formula old (push_of db thm labels s.what st.stack next.stack ++ pushes_from db thm labels ss next) new (pushes_from db thm labels ss next)
      → Ends db thm.formula first all new
  ends_with first old new all s ss st next e one other =
      leads_to_end db thm.formula first old new all (push_of db thm labels s.what st.stack next.stack ++ pushes_from db thm labels ss next)
      (subst (λ (l : List Push). LeadsTo db thm.formula first all old l) (pushes_on s ss st next e) one) other

  -- no step was the last
  pub ends_open : (first old new : Steps) (all : List Push) → LeadsTo db thm.formula first all old []
      → new.items.items ≡ old.items.items ++ item.Step (step_with db false (codes "qed") [] None thm.formula) ∷ []
      → Ends db thm.formula first all new
  ends_open first old new all one items = record { each = λ fs h. let there = one.each fs h in there.2 ∙ sym items }
