-- What is kept of a label is its usable assertion.
use Rattle.std.specs.Prelude.{◌≡◌, ℕ, List, map, Option, Some, None, option_map, option_and_then, refl}
use Rattle.std.proofs.Common.{sym, ap, ◌∙◌}
use Rattle.mm_base.specs.declared.symbols.Label.{Label}
use Rattle.mm_base.specs.declared.kinds.Kinds.{Kinds}
use Rattle.mm_model.specs.declared.frames.Frame.{Frame}
use Rattle.mm_model.specs.Productions.{TypedVariable, typed_variables}
use Rattle.mm_model.specs.Book.{Assertion}
use Rattle.mm_frames.specs.Contents.{frame_at}
use Rattle.mm_frames.proofs.Queries.{frame-is}
use Rattle.mm_database.specs.declared.assertions.Parsed.{Parsed}
use Rattle.mm_database.specs.Books.{parsed_at, assertion_of}
use Rattle.mm_database.specs.Opened.{Opened, IsOpened}
use Rattle.written_steps.specs.Drafts.{usable_in}

-- the assertion of a label is made of its frame and of what is kept
pub record IsMade (d : Opened) (l : Label) (a : Assertion) : Type 0 where
  pub frame : Frame
  pub frame_is : frame_at d.contents l ≡ Some frame
  pub parsed : Parsed
  pub kept : parsed_at d.parsed l ≡ Some parsed
  pub made : a ≡ assertion_of l frame parsed

some_is : {X : Type 0} {x y : X} → Some x ≡ Some y → x ≡ y
some_is e = cc

made_with : (d : Opened) (l : Label) (a : Assertion) (f : Option Frame) (p : Option Parsed) → frame_at d.contents l ≡ f → parsed_at d.parsed l ≡ p
    → option_and_then (λ (g : Frame). option_map (assertion_of l g) p) f ≡ Some a → IsMade d l a
made_with d l a None p e h w = let impossible : None ≡ Some a = w in absurd (cc)
made_with d l a (Some f) None e h w = let impossible : None ≡ Some a = w in absurd (cc)
made_with d l a (Some f) (Some p) e h w = record { frame = f; frame_is = e; parsed = p; kept = h; made = sym (some_is w) }

pub made_of : (d : Opened) (l : Label) (a : Assertion) → usable_in d l ≡ Some a → IsMade d l a
made_of d l a w = made_with d l a (frame_at d.contents l) (parsed_at d.parsed l) refl refl w

-- the variables that are kept are those of the assertion
pub variables_are : (kinds : Kinds) (text : List ℕ) (d : Opened) (l : Label) (a : Assertion) (p : Parsed) → IsOpened kinds text d → usable_in d l ≡ Some a
    → parsed_at d.parsed l ≡ Some p → p.vars ≡ map (λ (v : TypedVariable). v.sym) a.vars
variables_are kinds text d l a p opened w h =
    let m = made_of d l a w in
    let k = opened.kept l p h in
    let same : Some k.frame ≡ Some m.frame = sym k.frame_is ∙ sym (frame-is d.contents l text opened.contents) ∙ m.frame_is in
    k.vars ∙ ap (λ (f : Frame). map (λ (v : TypedVariable). v.sym) (typed_variables f.hyps)) (some_is same) ∙ ap (λ (b : Assertion). map (λ (v : TypedVariable). v.sym) b.vars) (sym m.made)
