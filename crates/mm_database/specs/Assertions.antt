-- Usable assertions, by their frames. This is part of the proof, and not of the claim.
use Rattle.std.specs.Prelude.{ℕ, ◌≡◌, List, map, Option, Some, None}
use Rattle.std.specs.List.{AllZip}
use Rattle.mm_base.specs.declared.tree.Tree.{Tree}
use Rattle.mm_model.specs.declared.frames.Hyp.{Hyp}
use Rattle.mm_model.specs.declared.frames.Frame.{Frame}
use Rattle.mm_model.specs.declared.rows.Production.{Production}
use Rattle.mm_model.specs.Productions.{essentials}
use Rattle.mm_database.specs.declared.assertions.Parsed.{Parsed}
use Rattle.mm_database.specs.declared.formulas.KindCodes.{KindCodes}
use Rattle.mm_database.specs.declared.variables.FrameVariable.{FrameVariable}
use Rattle.mm_database.specs.Variables.{frame_variables}
use Rattle.mm_database.specs.Formulas.{IsAnswer, IsReadBy}

module _ (kinds : KindCodes) (rows : List Production) (constants : List ℕ) where
  -- the assertion is usable, with these trees and variables
  pub record IsParsed (f : Frame) (p : Parsed) : Type 0 where
    pub conclusion : IsReadBy kinds rows constants f.at (frame_variables f.hyps) f.formula p.tree
    pub hyps : AllZip (λ (h : Hyp) (t : Tree). IsReadBy kinds rows constants f.at (frame_variables f.hyps) h.formula t) (essentials f.hyps) p.hyps
    pub vars : p.vars ≡ map (λ (v : FrameVariable). v.sym) (frame_variables f.hyps)

  -- what is kept of a label
  abbrev pub IsKept : Option Frame → Option Parsed → Type 0
  IsKept None o = o ≡ None
  IsKept (Some f) o = IsAnswer (IsParsed f) o

  -- what is kept of each label
  abbrev pub AreParsed : List (Option Frame) → List (Option Parsed) → Type 0
  AreParsed frames parsed = AllZip IsKept frames parsed
