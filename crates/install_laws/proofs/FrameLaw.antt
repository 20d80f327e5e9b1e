-- The frames of a text with a theorem in it.
use Rattle.std.proofs.Common.{◌≡◌, ◌≤◌, ℕ, ◌+◌, List, [], ◌∷◌, ◌++◌, length, take, drop, reverse, sym, ap, ◌∙◌, codes}
use Rattle.mm_base.specs.declared.symbols.Label.{Label}
use Rattle.mm_model.specs.declared.frames.Frame.{Frame}
use Rattle.mm_model.specs.Names.{Name}
use Rattle.mm_model.specs.Statements.{Statement, statements}
use Rattle.mm_model.specs.Frames.{symbols, below, frame_at}
use Rattle.install_model.specs.declared.install.NewTheorem.{NewTheorem}
use Rattle.install_model.specs.Installed.{installed}
use Rattle.install_model.specs.Moved.{block_statements}
use Rattle.install_laws.specs.InstalledStatements.{names, tokens_of, IsPlainTheorem}
use Rattle.install_laws.specs.InstalledActive.{IsOutside}
use Rattle.install_laws.specs.InstalledFrames.{FramesStayBefore, FramesStayBehind}
use Rattle.install_laws.proofs.ActiveBlock.{kept_behind}
use Rattle.install_laws.proofs.ActiveNames.{below_is}
use Rattle.install_laws.proofs.ActiveLaw.{inner, inner_opens_nothing, new_is, same_symbols, front, new_below, old_below, no_path}
use Rattle.install_laws.proofs.FrameNames.{what_frame, frame_is, same_frame}

module _ (text : List ℕ) (place : ℕ) (t : NewTheorem) (within : place ≤ length (statements text)) (plain : IsPlainTheorem t) (l : Label)
    (old new : Statement) (same : names old ≡ names new) where
  abbrev olds : List (List Name)
  olds = tokens_of (statements text)

  new_frame : (at : ℕ) → frame_at (statements (installed text place t)) l at new
      ≡ what_frame (symbols (statements text)) l at (reverse (take at (take place olds ++ block_statements t ++ drop place olds))) (names old)
  new_frame at =
      frame_is (statements (installed text place t)) l at new
      ∙ ap (λ syms. what_frame syms l at (tokens_of (below (statements (installed text place t)) at)) (names new)) (same_symbols text place t within plain)
      ∙ ap (λ e. what_frame (symbols (statements text)) l at e (names new))
      (below_is (statements (installed text place t)) at ∙ ap (λ ss. reverse (take at ss)) (new_is text place t within plain))
      ∙ ap (what_frame (symbols (statements text)) l at (reverse (take at (take place olds ++ block_statements t ++ drop place olds)))) (sym same)

  old_frame : (at : ℕ) → frame_at (statements text) l at old ≡ what_frame (symbols (statements text)) l at (reverse (take at olds)) (names old)
  old_frame at = frame_is (statements text) l at old ∙ ap (λ e. what_frame (symbols (statements text)) l at e (names old)) (below_is (statements text) at)

  pub before : (at : ℕ) → at ≤ place → frame_at (statements (installed text place t)) l at new ≡ frame_at (statements text) l at old
  before at in_front =
      new_frame at ∙ ap (λ ss. what_frame (symbols (statements text)) l at (reverse ss) (names old)) (front text place t within plain at in_front) ∙ sym (old_frame at)

  -- a frame at another position
  abbrev moved_to : ℕ → Frame → Frame
  moved_to at f = record f { at = at }

  module _ (outside : IsOutside text place) (more : ℕ) where
    abbrev now : ℕ
    now = place + length (block_statements t) + more

    abbrev ends : List (List Name)
    ends = reverse (take more (drop place olds))

    pub behind : frame_at (statements (installed text place t)) l now new ≡ moved_to now (frame_at (statements text) l (place + more) old)
    behind =
        new_frame now
        ∙ ap (λ e. what_frame (symbols (statements text)) l now e (names old)) (new_below text place t within plain outside more)
        ∙ same_frame (symbols (statements text)) l now (names old)
        (ends ++ (((codes "$}" ∷ []) ∷ reverse (inner t) ++ (codes "${" ∷ []) ∷ []) ++ reverse (take place olds)))
        (ends ++ reverse (take place olds))
        (λ kind no_brace. kept_behind (reverse (inner t)) (reverse (take place olds)) (inner_opens_nothing t plain)
        (no_path text place t within plain outside more) kind no_brace ends)
        ∙ ap (λ e. what_frame (symbols (statements text)) l now e (names old)) (sym (old_below text place t within plain outside more))
        ∙ ap (moved_to now) (sym (old_frame (place + more)))

pub frames_stay_before : FramesStayBefore
frames_stay_before text place at t w p in_front l old new same = before text place t w p l old new same at in_front

pub frames_stay_behind : FramesStayBehind
frames_stay_behind text place more t w p outside l old new same = behind text place t w p l old new same outside more
