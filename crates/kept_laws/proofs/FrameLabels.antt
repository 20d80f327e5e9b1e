-- The hypotheses of a frame have labels of the text.
use Rattle.std.proofs.Common.{◌≡◌, ℕ, Bool, true, false, ◌||◌, List, [], ◌∷◌, ◌++◌, map, reverse, take, Some, refl, sym, ap, ◌∙◌, subst}
use Rattle.std.specs.List.{AllByRecursion, list_any}
use Rattle.std.specs.Str.{bytes_eq}
use Rattle.std.proofs.lemmas.Bool.{or_parts}
use Rattle.std.proofs.lemmas.List.Folds.{list_any-append}
use Rattle.mm_base.specs.declared.symbols.Label.{Label}
use Rattle.mm_model.specs.declared.frames.Frame.{Frame}
use Rattle.mm_model.specs.declared.frames.Hyp.{Hyp}
use Rattle.mm_model.specs.Names.{Name, contains}
use Rattle.mm_model.specs.Words.{Word}
use Rattle.mm_model.specs.Statements.{Statement, active, path, labels, labels_in}
use Rattle.mm_model.specs.Frames.{symbols, below, label_in, hypothesis_of, mandatory_variables, mandatory_hypotheses, frame_at, frame_of}
use Rattle.mm_model.proofs.Lists.{labels-cons}
use Rattle.model_laws.proofs.FrameFacts.{IsFrameAt, frame_known}
use Rattle.model_laws.proofs.Listed.{all-reverse, all-filter}
use Rattle.push_laws.proofs.ActiveHyps.{all_taken}
use Rattle.push_laws.proofs.FrameApart.{all_on}

module _ (name : Name) (some : bytes_eq name [] ≡ false) where
  -- the statement has another label
  abbrev Other : Statement → Type 0
  Other s = bytes_eq name (label_in s) ≡ false

  own_label : (s : Statement) (ls : List Word) → labels_in s ≡ ls → contains (map (λ (w : Word). w.bytes) ls) name ≡ false → Other s
  own_label s [] e h = rw e some
  own_label s (w ∷ ls) e h = rw e ((or_parts (bytes_eq name w.bytes) (contains (map (λ (w : Word). w.bytes) ls) name) h).0)

  all_other : (ss : List Statement) → contains (labels ss) name ≡ false → AllByRecursion Other ss
  all_other [] h = tt
  all_other (s ∷ ss) h =
      let both = or_parts (contains (map (λ (w : Word). w.bytes) (labels_in s)) name) (contains (labels ss) name)
      (sym (list_any-append (bytes_eq name) (map (λ (w : Word). w.bytes) (labels_in s)) (labels ss)) ∙ sym (ap (λ ns. contains ns name) (labels-cons s ss)) ∙ h) in
      (own_label s (labels_in s) refl both.0, all_other ss both.1)

  module _ (ss : List Statement) (none : contains (labels ss) name ≡ false) where
    active_other : (at : ℕ) → AllByRecursion Other (reverse (active (below ss at)))
    active_other at =
        all-reverse Other (active (below ss at)) (all_on Other (path (below ss at)) (below ss at)
        (all-reverse Other (take at ss) (all_taken Other at ss (all_other ss none))))

    hyp_names : (syms : List Name) (hs : List Statement) → AllByRecursion Other hs → contains (map (λ (h : Hyp). h.name) (map (hypothesis_of syms) hs)) name ≡ false
    hyp_names syms [] a = refl
    hyp_names syms (s ∷ hs) a = ap (λ b. b || contains (map (λ (h : Hyp). h.name) (map (hypothesis_of syms) hs)) name) a.0 ∙ hyp_names syms hs a.1

    at_statement : (l : Label) (at : ℕ) (s : Statement) → contains (map (λ (h : Hyp). h.name) (frame_at ss l at s).hyps) name ≡ false
    at_statement l at s =
        hyp_names (symbols ss) (mandatory_hypotheses (mandatory_variables (symbols ss) (below ss at) s) (below ss at)) (all-filter Other _ (reverse (active (below ss at))) (active_other at))

    pub not_mandatory : (l : Label) (f : Frame) → frame_of ss l ≡ Some f → contains (map (λ (h : Hyp). h.name) f.hyps) name ≡ false
    not_mandatory l f e = let k = frame_known ss l f e in subst (λ (g : Frame). contains (map (λ (h : Hyp). h.name) g.hyps) name ≡ false) k.frame (at_statement l k.at k.statement)
