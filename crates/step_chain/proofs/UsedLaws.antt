-- What is kept of an accepted step is of a usable assertion.
use Rattle.std.specs.Prelude.{◌≡◌, ℕ, ◌+◌, List, [], ◌∷◌, length, option_map, option_and_then, true, false, Option, Some, None, IsSome, refl}
use Rattle.std.proofs.Common.{sym, ap, ◌∙◌, arith}
use Rattle.mm_base.specs.declared.symbols.Label.{Label}
use Rattle.mm_model.specs.declared.frames.Frame.{Frame}
use Rattle.mm_model.specs.Productions.{TypedVariable, typed_variables}
use Rattle.mm_model.specs.Book.{Assertion}
use Rattle.mm_frames.specs.Contents.{frame_at}
use Rattle.mm_database.specs.declared.assertions.Parsed.{Parsed}
use Rattle.mm_database.specs.Books.{parsed_at, assertion_of}
use Rattle.mm_database.specs.Opened.{Opened}
use Rattle.sheet_text.specs.declared.sheet.Given.{Given}
use Rattle.term_model.specs.declared.shape.Id.{Id}
use Rattle.term_model.specs.Store.{Store}
use Rattle.chain_laws.specs.Adding.{numbered}
use Rattle.step_chain.specs.declared.judged.Accepted.{Accepted}
use Rattle.step_chain.specs.Standings.{usable_in}
use Rattle.step_chain.specs.Accepted.{IsTakenAs}
use Rattle.step_chain.specs.Levels.{IsUsed}

pub length-numbered : (n : ℕ) (vs : List TypedVariable) → length (numbered n vs) ≡ length vs
length-numbered n [] = refl
length-numbered n (v ∷ vs) = let rest = length-numbered (n + 1) vs in omega (arith, rest)

own_vars : (l : Label) (a : Assertion) (f : Option Frame) (p : Option Parsed) → option_and_then (λ (g : Frame). option_map (assertion_of l g) p) f ≡ Some a → a.vars ≡ typed_variables a.frame.hyps
own_vars l a None p w = let impossible : ◌≡◌ {A = Option Assertion} None (Some a) = w in absurd (cc)
own_vars l a (Some f) None w = let impossible : ◌≡◌ {A = Option Assertion} None (Some a) = w in absurd (cc)
own_vars l a (Some f) (Some p) w = let same : assertion_of l f p ≡ a = cc in ap (λ (b : Assertion). b.vars) (sym same) ∙ ap (λ (b : Assertion). typed_variables b.frame.hyps) same

module _ (d : Opened) (formulas : List Id) (formula : Id) (places : List Given) (l : Label) (old new : Store) (x : Accepted) where
  used_by : (o : Option Assertion) → usable_in d l ≡ o → IsSome o → ((a : Assertion) → usable_in d l ≡ Some a → IsTakenAs d formulas formula places l a old new (Some x)) → IsUsed d x
  used_by None e some h = let impossible : false ≡ true = some in absurd (cc)
  used_by (Some a) e some h =
      let kept = (h a e).kept in
      record {
        assertion = a;
        usable = ap (usable_in d) kept.label ∙ e;
        count = ap length kept.variables ∙ length-numbered (length old.nodes) (typed_variables a.frame.hyps) ∙ sym (ap length (own_vars l a (frame_at d.contents l) (parsed_at d.parsed l) e));
      }

  pub used_here : IsSome (usable_in d l) → ((a : Assertion) → usable_in d l ≡ Some a → IsTakenAs d formulas formula places l a old new (Some x)) → IsUsed d x
  used_here some h = used_by (usable_in d l) refl some h
