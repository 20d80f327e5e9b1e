-- What is counted of a trial's proof, computed.
use Rattle.std.specs.Prelude.{◌≡◌, codes, refl}
use Rattle.call_answers.specs.Trial.{letter_count, proof_line}

-- the proof of the worksheet of one block, as `unify` writes it
pub letters : letter_count (proof_line (codes "$( <MM> <PROOF_ASST> THEOREM=trial LOC_AFTER=?\nqed:a1,e1:ax-mp |- ( ph -> ph )\n$= ( wi ax-1 ax-2 ax-mp ) AAABZBZFAACAFABBGFBAFCAFADEE $.\n$)\n")) ≡ 28
letters = refl

pub no_letters : letter_count (proof_line (codes "$( <MM> <PROOF_ASST> THEOREM=trial LOC_AFTER=?\nqed::ax-1\n$)\n")) ≡ 0
no_letters = refl
