-- The texts of sheets, and the texts of replies, computed.
use Rattle.std.specs.Prelude.{◌≡◌, ℕ, true, false, List, [], ◌∷◌, map, Some, None, codes, refl}
use Rattle.edit_model.specs.declared.request.Action.{Action}
use Rattle.edit_model.specs.declared.request.Action.TheVariants as action
use Rattle.edit_model.specs.Sessions.{is_range, refusal, text_after}

-- `a`, a character of two bytes, `b`
abbrev two_bytes : List ℕ
two_bytes = 97 ∷ 195 ∷ 164 ∷ 98 ∷ []

-- two ends in the wrong order; an end within the character, and a beginning; an end past the text
pub ranges : map (λ (r : ℕ × ℕ). is_range two_bytes r.0 r.1) ((0, 0) ∷ (1, 3) ∷ (4, 4) ∷ (2, 1) ∷ (1, 2) ∷ (2, 3) ∷ (0, 5) ∷ []) ≡ true ∷ true ∷ true ∷ false ∷ false ∷ false ∷ false ∷ []
ranges = refl

abbrev insert : Action
insert = action.Edit 4 4 (codes "1,2")

abbrev bad_range : Action
bad_range = action.Edit 2 1 []

-- each action on a sheet that is open, and on one that is not
pub refusals : map (refusal (Some (codes "qed:: |- ps"))) (action.Open [] ∷ bad_range ∷ insert ∷ action.Close ∷ action.Unify ∷ action.Suggest (codes "qed") ∷ [])
    ≡ Some (codes "already open") ∷ Some (codes "bad range") ∷ None ∷ None ∷ None ∷ None ∷ []
refusals = refl

pub refusals_of_closed : map (refusal None) (action.Open [] ∷ bad_range ∷ action.Close ∷ action.Unify ∷ action.Suggest (codes "qed") ∷ [])
    ≡ None ∷ Some (codes "not open") ∷ Some (codes "not open") ∷ Some (codes "not open") ∷ Some (codes "not open") ∷ []
refusals_of_closed = refl

pub texts : map (text_after (Some (codes "qed:: |- ps"))) (action.Open [] ∷ bad_range ∷ insert ∷ action.Close ∷ action.Unify ∷ action.Suggest (codes "qed") ∷ [])
    ≡ Some (codes "qed:: |- ps") ∷ Some (codes "qed:: |- ps") ∷ Some (codes "qed:1,2: |- ps") ∷ None ∷ Some (codes "qed:: |- ps") ∷ Some (codes "qed:: |- ps") ∷ []
texts = refl

pub opened : text_after None (action.Open (codes "$)")) ≡ Some (codes "$)")
opened = refl
