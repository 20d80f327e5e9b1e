-- Hypotheses that are all `$f`.
use Rattle.std.specs.Prelude.{◌≡◌, ◌&&◌, Bool, true, false, not, List, [], ◌∷◌, refl}
use Rattle.std.proofs.Common.{cond}
use Rattle.mm_model.specs.declared.frames.Hyp.{Hyp}
use Rattle.mm_model.specs.Statements.{is_empty}
use Rattle.mm_model.specs.Productions.{essentials}
use Rattle.mm_database.specs.Productions.{all_floating}

none_by : (b : Bool) (h : Hyp) (hs rest : List Hyp) → all_floating hs ≡ is_empty rest → (b && all_floating hs) ≡ is_empty (cond (not b) (h ∷ rest) rest)
none_by true h hs rest e = e
none_by false h hs rest e = refl

pub no_essentials : (hyps : List Hyp) → all_floating hyps ≡ is_empty (essentials hyps)
no_essentials [] = refl
no_essentials (h ∷ hs) = none_by h.floating h hs (essentials hs) (no_essentials hs)
