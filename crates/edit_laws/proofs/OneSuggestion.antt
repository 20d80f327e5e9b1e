-- What is suggested for a step depends on the written steps alone, and these are the same in two writings but for the numbers of
-- fresh leaves in the values of variables.
use Rattle.std.specs.Prelude.{◌≡◌, ℕ, Bool, true, false, List, [], ◌∷◌, map, Option, Some, None, refl}
use Rattle.std.specs.Str.{bytes_eq}
use Rattle.std.proofs.Common.{sym, ap, subst, ◌∙◌}
use Rattle.answer_laws.proofs.SameText.{SameParts, same_steps}
use Rattle.answer_laws.proofs.SearchedAlike.{bare_step}
use Rattle.auto_answer_laws.proofs.OneChoice.{one_choice}
use Rattle.select_laws.proofs.OneSelection.{found_same, alike_steps}
use Rattle.auto_model.specs.AutoFilled.{is_unfilled, IsAutoChoice}
use Rattle.edit_model.specs.Sessions.{IsSuggested, written_names, choice_reply, suggest_reply, text_of}
use Rattle.mm_model.specs.Book.{Database, label_name}
use Rattle.mm_model.specs.Names.{Name, first_number}
use Rattle.select_model.specs.Selected.{step_named}
use Rattle.serde_json.specs.Data.{Data}
use Rattle.sheet_text.specs.Layout.{place_text}
use Rattle.written_model.specs.declared.options.Options.{Options}
use Rattle.written_model.specs.Found.{Choice}
use Rattle.written_model.specs.WrittenSteps.{WrittenStep, steps_in}
use Rattle.written_model.specs.Written.{Writing}

-- ---- steps without the values of variables

abbrev bare_steps : List WrittenStep → List WrittenStep
bare_steps es = map bare_step es

names_stay : (es : List WrittenStep) → map (λ (e : WrittenStep). e.name) (bare_steps es) ≡ map (λ (e : WrittenStep). e.name) es
names_stay [] = refl
names_stay (e ∷ es) = ap (λ ns. e.name ∷ ns) (names_stay es)

-- ---- two writings

module _ (db : Database) (options : Options) (w v : Writing) (parts : SameParts w v) where
  steps_same : bare_steps (steps_in w.items) ≡ bare_steps (steps_in v.items)
  steps_same = same_steps db options w v parts

  names_same : written_names w ≡ written_names v
  names_same = sym (names_stay (steps_in w.items)) ∙ ap (map (λ (e : WrittenStep). e.name)) steps_same ∙ names_stay (steps_in v.items)

  reply_same : (name : Name) (o : Option Choice) → choice_reply db name w o ≡ choice_reply db name v o
  reply_same name None = refl
  reply_same name (Some c) = ap (λ names. suggest_reply name (map (place_text names) c.places) (text_of (label_name db c.label))) names_same

  unlike : (name : Name) (e f : WrittenStep) (b c : Bool) → step_named w name ≡ Some e → step_named v name ≡ Some f → is_unfilled e ≡ b → is_unfilled f ≡ c → b ≡ c
  unlike name e f b c h k g i = sym g ∙ ap is_unfilled (alike_steps db options w v parts name e f h k) ∙ i

  number_same : (name : Name) (i j : ℕ) → first_number (bytes_eq name) (written_names w) ≡ Some i → first_number (bytes_eq name) (written_names v) ≡ Some j → i ≡ j
  number_same name i j h k = let both : Some i ≡ Some j = sym h ∙ ap (first_number (bytes_eq name)) names_same ∙ k in cc

  pub one_suggestion : (name step : Name) (d e : Data) → IsSuggested db options name w step d → IsSuggested db options name v step e → d ≡ e
  one_suggestion name step d e (IsSuggested.no_such_step h) (IsSuggested.no_such_step k) = refl
  one_suggestion name step d e (IsSuggested.no_such_step h) (IsSuggested.step_open {e = f} k g) = let bad = found_same db options w v parts step None (Some f) h k in absurd (cc)
  one_suggestion name step d e (IsSuggested.no_such_step h) (IsSuggested.suggested {e = f} q k n u c) = let bad = found_same db options w v parts step None (Some f) h k in absurd (cc)
  one_suggestion name step d e (IsSuggested.step_open {e = f} h g) (IsSuggested.no_such_step k) = let bad = found_same db options w v parts step (Some f) None h k in absurd (cc)
  one_suggestion name step d e (IsSuggested.step_open h g) (IsSuggested.step_open k i) = refl
  one_suggestion name step d e (IsSuggested.step_open {e = f} h g) (IsSuggested.suggested {e = x} q k n u c) = let bad = unlike step f x false true h k g u in absurd (cc)
  one_suggestion name step d e (IsSuggested.suggested {e = f} o h n u c) (IsSuggested.no_such_step k) = let bad = found_same db options w v parts step (Some f) None h k in absurd (cc)
  one_suggestion name step d e (IsSuggested.suggested {e = f} o h n u c) (IsSuggested.step_open {e = x} k i) = let bad = unlike step f x true false h k u i in absurd (cc)
  one_suggestion name step d e (IsSuggested.suggested {e = f} {k = i} o h n u c) (IsSuggested.suggested {e = x} {k = j} q k m t b) =
      let at = subst (λ z. IsAutoChoice db options w z f o) (number_same step i j n m) c in
      reply_same name o ∙ ap (choice_reply db name v) (one_choice db options w v parts j f x (ap (λ (s : WrittenStep). s.tree) (alike_steps db options w v parts step f x h k)) o q at b)
