-- Proofs as trees, their labels and their compressed codes, computed.
use Rattle.std.specs.Prelude.{◌≡◌, ℕ, false, List, [], ◌∷◌, length, codes, refl}
use Rattle.proof_model.specs.declared.code.What.TheVariants as what
use Rattle.proof_model.specs.Proofs.{Proof, by, none, proofs, postorder}
use Rattle.proof_model.specs.Codes.{step, normal_code, code_of_proof}
use Rattle.proof_model.specs.ProofCode.{spelled}
use Rattle.proof_model.specs.ExampleFrames.{split}

-- a hypothesis or an assertion without hypotheses; an assertion behind the proofs of its hypotheses
abbrev pub leaf : List ℕ → Proof
leaf label = by label none

abbrev pub on : List ℕ → List Proof → Proof
on label ps = by label (proofs ps)

-- the code of a proof, for these mandatory hypotheses
abbrev code_text : List ℕ → Proof → List ℕ
code_text mandatory p = spelled (length (split mandatory)) (code_of_proof (split mandatory) p)

-- ---- the first proof of the Metamath book

abbrev t : Proof
t = leaf (codes "tt")

-- t + 0
abbrev t_plus_0 : Proof
t_plus_0 = on (codes "tpl") (t ∷ leaf (codes "tze") ∷ [])

abbrev weq : Proof → Proof → Proof
weq a b = on (codes "weq") (a ∷ b ∷ [])

abbrev mp : Proof → Proof → Proof → Proof → Proof
mp p q min maj = on (codes "mp") (p ∷ q ∷ min ∷ maj ∷ [])

abbrev a2 : Proof
a2 = on (codes "a2") (t ∷ [])

abbrev pub th1 : Proof
th1 = mp (weq t_plus_0 t) (weq t t) a2
    (mp (weq t_plus_0 t) (on (codes "wim") (weq t_plus_0 t ∷ weq t t ∷ [])) a2 (on (codes "a1") (t_plus_0 ∷ t ∷ t ∷ [])))

pub th1_labels : postorder th1
    ≡ split (codes "tt tze tpl tt weq tt tt weq tt a2 tt tze tpl tt weq tt tze tpl tt weq tt tt weq wim tt a2 tt tze tpl tt tt a1 mp mp")
th1_labels = refl

-- terms that stand at two places are marked; a label without hypotheses never is
pub th1_code : code_text (codes "tt") th1 ≡ codes "( tze tpl weq a2 wim a1 mp ) ABCZADZAADZAEZJJKFLIAAGHH"
th1_code = refl

pub a2_code : code_text (codes "tt") a2 ≡ codes "( a2 ) AB"
a2_code = refl

-- ---- implication

abbrev pub ph : Proof
ph = leaf (codes "wph")

abbrev pub ps : Proof
ps = leaf (codes "wps")

abbrev pub ch : Proof
ch = leaf (codes "wch")

abbrev pub wi : Proof → Proof → Proof
wi a b = on (codes "wi") (a ∷ b ∷ [])

abbrev pub ax_mp : Proof → Proof → Proof → Proof → Proof
ax_mp p q min maj = on (codes "ax-mp") (p ∷ q ∷ min ∷ maj ∷ [])

-- from r.1 and r.2 by modus ponens
abbrev pub r : Proof
r = ax_mp ph ps (leaf (codes "r.1")) (leaf (codes "r.2"))

pub r_labels : postorder r ≡ split (codes "wph wps r.1 r.2 ax-mp")
r_labels = refl

pub r_code : code_text (codes "wph wps r.1 r.2") r ≡ codes "( ax-mp ) ABCDE"
r_code = refl

-- ( ph -> ph )
abbrev ph_ph : Proof
ph_ph = wi ph ph

abbrev pub id : Proof
id = ax_mp (wi ph ph_ph) ph_ph (on (codes "ax-1") (ph ∷ ph ∷ []))
    (ax_mp (wi ph (wi ph_ph ph)) (wi (wi ph ph_ph) ph_ph) (on (codes "ax-1") (ph ∷ ph_ph ∷ [])) (on (codes "ax-2") (ph ∷ ph_ph ∷ ph ∷ [])))

pub id_code : code_text (codes "wph") id ≡ codes "( wi ax-1 ax-2 ax-mp ) AAABZBZFAACAFABBGFBAFCAFADEE"
id_code = refl

abbrev pub u : Proof
u = ax_mp ph (wi ps ph) (leaf (codes "u.1")) (on (codes "ax-1") (ph ∷ ps ∷ []))

pub u_code : code_text (codes "wph wps u.1") u ≡ codes "( wi ax-1 ax-mp ) ABADCABEF"
u_code = refl

abbrev pub syl : Proof
syl = ax_mp (wi ph ps) (wi ph ch) (leaf (codes "syl.1"))
    (on (codes "a2i") (ph ∷ ps ∷ ch ∷ on (codes "a1i") (wi ps ch ∷ ph ∷ leaf (codes "syl.2") ∷ []) ∷ []))

pub syl_code : code_text (codes "wph wps wch syl.1 syl.2") syl ≡ codes "( wi a1i a2i ax-mp ) ABFACFDABCBCFAEGHI"
syl_code = refl

-- the hypotheses of a label stand in the order of its frame, which need not be that of the text
abbrev vx : Proof
vx = leaf (codes "vx")

abbrev pub abid : Proof
abid = on (codes "eqid") (on (codes "cab") (ph ∷ vx ∷ []) ∷ [])

pub abid_code : code_text (codes "wph vx") abid ≡ codes "( cab eqid ) ABCD"
abid_code = refl

-- the `$f` of a variable that the theorem does not have is among the labels
abbrev pub dm : Proof
dm = on (codes "drop") (ph ∷ vx ∷ on (codes "ax-5") (ph ∷ vx ∷ []) ∷ [])

pub dm_code : code_text (codes "wph") dm ≡ codes "( vx ax-5 drop ) ABABCD"
dm_code = refl

-- two places of one label mark a proof
pub twice : code_text (codes "wph") (wi ph_ph ph_ph) ≡ codes "( wi ) AABZCB"
twice = refl

-- a proof below a marked one stands at one place of the distinct proofs, and is not marked
pub once : code_text (codes "wph") (wi (wi ph_ph ph) (wi ph_ph ph)) ≡ codes "( wi ) AABABZCB"
once = refl

-- ---- normal proofs

-- mandatory hypotheses by their numbers, `?`, and the other labels in order of first use
pub normal : normal_code (split (codes "wph wps")) (split (codes "wph wps ax-1 wph ? vx ax-1")) ≡ record {
  labels = split (codes "ax-1 vx");
  steps = step (what.Hyp 0) false ∷ step (what.Hyp 1) false ∷ step (what.Listed 0) false ∷ step (what.Hyp 0) false ∷ step what.Unknown false ∷ step (what.Listed 1) false
      ∷ step (what.Listed 0) false ∷ [];
}
normal = refl

-- an empty proof has no steps
pub empty : normal_code (codes "wph" ∷ []) [] ≡ record { labels = []; steps = [] }
empty = refl
