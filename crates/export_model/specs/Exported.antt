-- A proof of the database as a worksheet.
use Rattle.std.specs.Prelude.{ℕ, suc, Bool, true, false, not, List, [], ◌∷◌, ◌++◌, length, take, reverse, filter, find, map, slice_index_or}
use Rattle.std.specs.Prelude.{if◌then◌else◌, Option, Some, None, is_some, Result, Ok, Err, decimal, codes}
use Rattle.std.specs.List.{list_any, zip}
use Rattle.std.specs.Option.{option_map_or}
use Rattle.std.specs.Str.{bytes_eq}
use Rattle.mm_model.specs.declared.frames.Hyp.{Hyp}
use Rattle.mm_model.specs.declared.frames.Frame.{Frame}
use Rattle.mm_model.specs.Names.{Name, first_number}
use Rattle.mm_model.specs.Productions.{essentials}
use Rattle.mm_model.specs.Book.{Database, symbol_name}
use Rattle.proof_model.specs.declared.code.What.{What}
use Rattle.proof_model.specs.declared.code.What.TheVariants as what
use Rattle.proof_model.specs.declared.code.Step.{Step}
use Rattle.proof_model.specs.declared.code.Code.{Code}
use Rattle.proof_model.specs.declared.theorem.Theorem.{Theorem}
use Rattle.proof_model.specs.Machine.{Formula, Entry, MachineFault, State, start, same_formula, use_step}
use Rattle.sheet_text.specs.declared.sheet.Given.{Given}
use Rattle.sheet_text.specs.declared.sheet.Given.TheVariants as given
use Rattle.sheet_text.specs.declared.sheet.Sheet.{Sheet}
use Rattle.sheet_text.specs.declared.sheet.SheetItem.TheVariants as item
use Rattle.sheet_text.specs.declared.sheet.SheetStep.{SheetStep}
use Rattle.sheet_text.specs.Layout.{layout}
use Rattle.written_model.specs.Written.{frames_of, written_pair}

-- ---- what assertions push

-- an assertion by its label, the entries that it took from the stack for its `$e`, and the formula that it pushed
pub record Push : Type 0 where
  pub label : Name
  pub taken : List Formula
  pub formula : Formula

-- the formula begins with the provable typecode
abbrev pub is_provable : Database → Formula → Bool
is_provable db f = list_any (λ s. bytes_eq (symbol_name db s) db.provable) (take 1 f)

-- the entries that an assertion takes from this stack for its `$e`
abbrev pub taken_from : List Formula → Frame → List Formula
taken_from stack frame = map (λ (e : Entry). e.1) (filter (λ (e : Entry). not e.0.floating) (zip frame.hyps (reverse (take (length frame.hyps) stack))))

-- what a label pushes, where it takes the one stack to the other and names this assertion, or none
abbrev pub push_of_frame : Database → Name → List Formula → List Formula → Option Frame → List Push
push_of_frame db label before behind None = []
push_of_frame db label before behind (Some frame) =
    if is_provable db frame.formula then record { label = label; taken = taken_from before frame; formula = slice_index_or behind 0 [] } ∷ [] else []

-- what follows from the state behind a step; nothing behind a fault
abbrev pub behind_step : {X : Type 0} → Result State MachineFault → (State → List X) → List X
behind_step (Ok st) rest = rest st
behind_step (Err f) rest = []

module _ (db : Database) (theorem : Theorem) where
  -- the label of an active hypothesis names no assertion
  abbrev pub push_of_label : Name → List Formula → List Formula → List Push
  push_of_label label before behind =
      if is_some (find (λ (h : Hyp). bytes_eq h.name label) theorem.hyps) then [] else push_of_frame db label before behind (frames_of db label)

  abbrev pub push_of : List Name → What → List Formula → List Formula → List Push
  push_of labels (what.Hyp k) before behind = push_of_label (slice_index_or theorem.mandatory k []) before behind
  push_of labels (what.Listed k) before behind = push_of_label (slice_index_or labels k []) before behind
  push_of labels (what.Again k) before behind = []
  push_of labels what.Unknown before behind = []

  -- the pushes of assertions of the provable typecode, in order of the steps
  abbrev pub pushes_from : List Name → List Step → State → List Push
  pushes_from labels [] st = []
  pushes_from labels (s ∷ ss) st =
      behind_step (use_step (frames_of db) theorem labels s st) (λ next. push_of labels s.what st.stack next.stack ++ pushes_from labels ss next)

  abbrev pub pushes : Code → List Push
  pushes code = pushes_from code.labels code.steps start

-- ---- the steps of the worksheet

abbrev pub number_name : ℕ → Name
number_name n = decimal (suc n)

-- the first of these steps with the formula, or `?`
abbrev pub place_in : List Formula → Formula → Given
place_in steps f = option_map_or (λ k. given.Step k) (first_number (same_formula f) steps) given.Gap

module _ (db : Database) where
  abbrev pub step_with : Bool → Name → List Given → Option Name → Formula → SheetStep
  step_with hyp name places reference f = record { line = 0; hyp = hyp; name = name; places = places; reference = reference; formula = map (symbol_name db) f }

  -- the `$e`, numbered on
  abbrev pub hyp_steps : ℕ → List Hyp → List SheetStep
  hyp_steps n [] = []
  hyp_steps n (h ∷ hs) = step_with true (number_name n) [] (Some h.name) h.formula ∷ hyp_steps (suc n) hs

  -- it rests on its assertion, over the steps with these formulas
  abbrev pub push_step : List Formula → Name → Push → SheetStep
  push_step steps name p = step_with false name (map (place_in steps) p.taken) (Some p.label) p.formula

  -- behind the steps with these formulas: each further formula at its first push, up to the first push that gives the
  -- theorem's formula. That is `qed`, which has no places and no reference where no push gives it
  abbrev pub push_steps : Formula → List Formula → List Push → List SheetStep
  push_steps theorem steps [] = step_with false (codes "qed") [] None theorem ∷ []
  push_steps theorem steps (p ∷ ps) =
      if same_formula p.formula theorem then push_step steps (codes "qed") p ∷ []
      else if list_any (same_formula p.formula) steps then push_steps theorem steps ps
      else push_step steps (number_name (length steps)) p ∷ push_steps theorem (steps ++ p.formula ∷ []) ps

  abbrev pub export_steps : Theorem → Code → List SheetStep
  export_steps theorem code =
      hyp_steps 0 (essentials theorem.hyps)
      ++ push_steps theorem.formula (map (λ (h : Hyp). h.formula) (essentials theorem.hyps)) (pushes db theorem code)

  -- the worksheet of the theorem of this name with its proof: its `$e`, the steps of its proof, and all active pairs
  abbrev pub export_sheet : Theorem → Name → Code → Sheet
  export_sheet theorem name code =
      record { line = 0; theorem = name; loc = None; items = map (λ s. item.Step s) (export_steps theorem code); pairs = map (written_pair db) theorem.pairs }

  abbrev pub export_text : Theorem → Name → Code → List ℕ
  export_text theorem name code = layout (export_sheet theorem name code) None
