-- The words, the complete lines and the log lines of a session, computed.
use Rattle.std.specs.Prelude.{◌≡◌, true, false, [], ◌∷◌, ◌++◌, map, is_some, codes, refl}
use Rattle.edit_model.specs.Serves.{edit_command_of, complete_lines, read_fault_line}

pub commands : map (λ words. is_some (edit_command_of words)) ((codes "P.mm" ∷ []) ∷ (codes "--proof=normal" ∷ codes "P.mm" ∷ []) ∷ [] ∷ (codes "P.mm" ∷ codes "r.mmp" ∷ [])
    ∷ (codes "P.mm" ∷ codes "--proof=normal" ∷ []) ∷ (codes "--in-place" ∷ codes "P.mm" ∷ []) ∷ [])
    ≡ true ∷ true ∷ false ∷ false ∷ false ∷ false ∷ []
commands = refl

pub one_open : complete_lines (codes "a" ++ 10 ∷ 10 ∷ codes "b") ≡ codes "a" ∷ [] ∷ []
one_open = refl

pub all_complete : complete_lines (codes "a" ++ 10 ∷ codes "b" ++ 10 ∷ []) ≡ codes "a" ∷ codes "b" ∷ []
all_complete = refl

pub none_complete : complete_lines (codes "a") ≡ []
none_complete = refl

pub unread : read_fault_line (codes "input") ≡ codes "read fault input"
unread = refl
