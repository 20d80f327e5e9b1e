-- The code of a token, by how far its statement has come.
use Rattle.std.proofs.Common.{◌≡◌, ℕ, suc, Bool, true, false, cond, not, ◌||◌, ◌&&◌, eqb, List, [], ◌∷◌, length, take, Option, None, Some, refl, codes, nat_lt, nat_le, arith}
use Rattle.std.specs.List.{list_any, list_all}
use Rattle.std.proofs.lemmas.Bool.Decides.{nat_tests}
use Rattle.mm_model.specs.Labels.{is_label_byte}
use Rattle.mm_model.specs.Faults.{first_code_within}
use Rattle.mm_model.specs.Words.{Word, word}
use Rattle.mm_model.specs.Statements.{token_rules, is_one_of, is_word, is_empty, labelled, unended, ended, contains, labels, path, is_constant, is_variable, is_typed, variables_ever}
use Rattle.mm_frames.proofs.Shapes.{IsBegun, IsOpen, IsProof}

abbrev pub code_at : List Word → Word → List Word → Option ℕ
code_at before w after = first_code_within token_rules before w after

eq-suc-1 : (n : ℕ) → eqb (suc (suc n)) 1 ≡ false
eq-suc-1 n = grind (arith, nat_tests)

le-suc-2 : (n : ℕ) → nat_le 2 (suc (suc n)) ≡ true
le-suc-2 n = grind (arith, nat_tests)

lt-suc-2 : (n : ℕ) → nat_lt (suc (suc n)) 2 ≡ false
lt-suc-2 n = grind (arith, nat_tests)

-- ---- words

-- where a statement begins
pub label-code : (before : List Word) (at b : ℕ) (bs : List ℕ) (after : List Word) (taken extra good : Bool)
    → unended before ≡ [] → eqb b 36 ≡ false → list_any (λ b. eqb b 36) bs ≡ false
    → contains (labels (ended before)) (b ∷ bs) ≡ taken → list_any (λ v. not (is_one_of labelled v)) (take 1 after) ≡ extra → list_all is_label_byte (b ∷ bs) ≡ good
    → code_at before (word at (b ∷ bs)) after ≡ cond taken (Some 17) (cond extra (Some 19) (cond (not good) (Some 20) None))
label-code before at b bs after true extra good h e es x y z = rw (h, e, es, x) refl
label-code before at b bs after false true good h e es x y z = rw (h, e, es, x, y) refl
label-code before at b bs after false false true h e es x y z = rw (h, e, es, x, y, z) refl
label-code before at b bs after false false false h e es x y z = rw (h, e, es, x, y, z) refl

-- in `$c`
pub constant-code : (before : List Word) (at b : ℕ) (bs : List ℕ) (after : List Word) (names : List (List ℕ))
    (o : IsOpen (unended before) (codes "$c") names) (c ev st : Bool)
    → eqb b 36 ≡ false → list_any (λ b. eqb b 36) bs ≡ false
    → is_constant before (word at (b ∷ bs)) ≡ c → contains (variables_ever (ended before)) (b ∷ bs) ≡ ev → contains names (b ∷ bs) ≡ st
    → code_at before (word at (b ∷ bs)) after ≡ cond (c || (ev || st)) (Some 12) None
constant-code before at b bs after names o true ev st e es x y z = rw (o.begun.body_is, o.begun.not_empty, o.begun.not_label, o.no_proof, e, es, o.names_are, x) refl
constant-code before at b bs after names o false true st e es x y z = rw (o.begun.body_is, o.begun.not_empty, o.begun.not_label, o.no_proof, e, es, o.names_are, x, y) refl
constant-code before at b bs after names o false false true e es x y z = rw (o.begun.body_is, o.begun.not_empty, o.begun.not_label, o.no_proof, e, es, o.names_are, x, y, z) refl
constant-code before at b bs after names o false false false e es x y z = rw (o.begun.body_is, o.begun.not_empty, o.begun.not_label, o.no_proof, e, es, o.names_are, x, y, z) refl

-- in `$v`
pub variable-code : (before : List Word) (at b : ℕ) (bs : List ℕ) (after : List Word) (names : List (List ℕ))
    (o : IsOpen (unended before) (codes "$v") names) (c v st : Bool)
    → eqb b 36 ≡ false → list_any (λ b. eqb b 36) bs ≡ false
    → is_constant before (word at (b ∷ bs)) ≡ c → is_variable before (word at (b ∷ bs)) ≡ v → contains names (b ∷ bs) ≡ st
    → code_at before (word at (b ∷ bs)) after ≡ cond (c || (v || st)) (Some 12) None
variable-code before at b bs after names o true v st e es x y z = rw (o.begun.body_is, o.begun.not_empty, o.begun.not_label, o.no_proof, e, es, o.names_are, x) refl
variable-code before at b bs after names o false true st e es x y z = rw (o.begun.body_is, o.begun.not_empty, o.begun.not_label, o.no_proof, e, es, o.names_are, x, y) refl
variable-code before at b bs after names o false false true e es x y z = rw (o.begun.body_is, o.begun.not_empty, o.begun.not_label, o.no_proof, e, es, o.names_are, x, y, z) refl
variable-code before at b bs after names o false false false e es x y z = rw (o.begun.body_is, o.begun.not_empty, o.begun.not_label, o.no_proof, e, es, o.names_are, x, y, z) refl

-- in `$d`
pub distinct-code : (before : List Word) (at b : ℕ) (bs : List ℕ) (after : List Word) (names : List (List ℕ))
    (o : IsOpen (unended before) (codes "$d") names) (v st : Bool)
    → eqb b 36 ≡ false → list_any (λ b. eqb b 36) bs ≡ false
    → is_variable before (word at (b ∷ bs)) ≡ v → contains names (b ∷ bs) ≡ st
    → code_at before (word at (b ∷ bs)) after ≡ cond (not v) (Some 13) (cond st (Some 25) None)
distinct-code before at b bs after names o false st e es x y = rw (o.begun.body_is, o.begun.not_empty, o.begun.not_label, o.no_proof, e, es, o.names_are, x) refl
distinct-code before at b bs after names o true true e es x y = rw (o.begun.body_is, o.begun.not_empty, o.begun.not_label, o.no_proof, e, es, o.names_are, x, y) refl
distinct-code before at b bs after names o true false e es x y = rw (o.begun.body_is, o.begun.not_empty, o.begun.not_label, o.no_proof, e, es, o.names_are, x, y) refl

-- first in `$f`
pub floating-first : (before : List Word) (at b : ℕ) (bs : List ℕ) (after : List Word) (o : IsOpen (unended before) (codes "$f") []) (c v : Bool)
    → eqb b 36 ≡ false → list_any (λ b. eqb b 36) bs ≡ false
    → is_constant before (word at (b ∷ bs)) ≡ c → is_variable before (word at (b ∷ bs)) ≡ v
    → code_at before (word at (b ∷ bs)) after ≡ cond (not c && not v) (Some 13) (cond v (Some 16) None)
floating-first before at b bs after o true true e es x y = rw (o.begun.body_is, o.begun.not_empty, o.begun.not_label, o.no_proof, e, es, o.names_are, x, y) refl
floating-first before at b bs after o true false e es x y = rw (o.begun.body_is, o.begun.not_empty, o.begun.not_label, o.no_proof, e, es, o.names_are, x, y) refl
floating-first before at b bs after o false true e es x y = rw (o.begun.body_is, o.begun.not_empty, o.begun.not_label, o.no_proof, e, es, o.names_are, x, y) refl
floating-first before at b bs after o false false e es x y = rw (o.begun.body_is, o.begun.not_empty, o.begun.not_label, o.no_proof, e, es, o.names_are, x, y) refl

-- second in `$f`
pub floating-second : (before : List Word) (at b : ℕ) (bs : List ℕ) (after : List Word) (n : List ℕ)
    (o : IsOpen (unended before) (codes "$f") (n ∷ [])) (v t : Bool)
    → eqb b 36 ≡ false → list_any (λ b. eqb b 36) bs ≡ false
    → is_variable before (word at (b ∷ bs)) ≡ v → is_typed before (word at (b ∷ bs)) ≡ t
    → code_at before (word at (b ∷ bs)) after ≡ cond (not v) (Some 13) (cond t (Some 15) None)
floating-second before at b bs after n o true true e es x y = rw (o.begun.body_is, o.begun.not_empty, o.begun.not_label, o.no_proof, e, es, o.names_are, x, y) refl
floating-second before at b bs after n o true false e es x y = rw (o.begun.body_is, o.begun.not_empty, o.begun.not_label, o.no_proof, e, es, o.names_are, x, y) refl
floating-second before at b bs after n o false t e es x y = rw (o.begun.body_is, o.begun.not_empty, o.begun.not_label, o.no_proof, e, es, o.names_are, x) refl

-- third in `$f`
pub floating-third : (before : List Word) (at b : ℕ) (bs : List ℕ) (after : List Word) (m n : List ℕ) (names : List (List ℕ))
    (o : IsOpen (unended before) (codes "$f") (m ∷ n ∷ names))
    → eqb b 36 ≡ false → list_any (λ b. eqb b 36) bs ≡ false
    → code_at before (word at (b ∷ bs)) after ≡ Some 27
floating-third before at b bs after m n names o e es =
    rw (o.begun.body_is, o.begun.not_empty, o.begun.not_label, o.no_proof, e, es, o.names_are, eq-suc-1 (length names), le-suc-2 (length names)) refl

-- first in `$e`
pub essential-first : (before : List Word) (at b : ℕ) (bs : List ℕ) (after : List Word) (o : IsOpen (unended before) (codes "$e") []) (c v : Bool)
    → eqb b 36 ≡ false → list_any (λ b. eqb b 36) bs ≡ false
    → is_constant before (word at (b ∷ bs)) ≡ c → is_variable before (word at (b ∷ bs)) ≡ v
    → code_at before (word at (b ∷ bs)) after ≡ cond (not c && not v) (Some 13) (cond v (Some 16) None)
essential-first before at b bs after o true true e es x y = rw (o.begun.body_is, o.begun.not_empty, o.begun.not_label, o.no_proof, e, es, o.names_are, x, y) refl
essential-first before at b bs after o true false e es x y = rw (o.begun.body_is, o.begun.not_empty, o.begun.not_label, o.no_proof, e, es, o.names_are, x, y) refl
essential-first before at b bs after o false true e es x y = rw (o.begun.body_is, o.begun.not_empty, o.begun.not_label, o.no_proof, e, es, o.names_are, x, y) refl
essential-first before at b bs after o false false e es x y = rw (o.begun.body_is, o.begun.not_empty, o.begun.not_label, o.no_proof, e, es, o.names_are, x, y) refl

-- past the first in `$e`
pub essential-later : (before : List Word) (at b : ℕ) (bs : List ℕ) (after : List Word) (n : List ℕ) (names : List (List ℕ))
    (o : IsOpen (unended before) (codes "$e") (n ∷ names)) (c v t : Bool)
    → eqb b 36 ≡ false → list_any (λ b. eqb b 36) bs ≡ false
    → is_constant before (word at (b ∷ bs)) ≡ c → is_variable before (word at (b ∷ bs)) ≡ v → is_typed before (word at (b ∷ bs)) ≡ t
    → code_at before (word at (b ∷ bs)) after ≡ cond (not c && not v) (Some 13) (cond (v && not t) (Some 14) None)
essential-later before at b bs after n names o true true true e es x y z = rw (o.begun.body_is, o.begun.not_empty, o.begun.not_label, o.no_proof, e, es, o.names_are, x, y, z) refl
essential-later before at b bs after n names o true true false e es x y z = rw (o.begun.body_is, o.begun.not_empty, o.begun.not_label, o.no_proof, e, es, o.names_are, x, y, z) refl
essential-later before at b bs after n names o true false t e es x y z = rw (o.begun.body_is, o.begun.not_empty, o.begun.not_label, o.no_proof, e, es, o.names_are, x, y) refl
essential-later before at b bs after n names o false true true e es x y z = rw (o.begun.body_is, o.begun.not_empty, o.begun.not_label, o.no_proof, e, es, o.names_are, x, y, z) refl
essential-later before at b bs after n names o false true false e es x y z = rw (o.begun.body_is, o.begun.not_empty, o.begun.not_label, o.no_proof, e, es, o.names_are, x, y, z) refl
essential-later before at b bs after n names o false false t e es x y z = rw (o.begun.body_is, o.begun.not_empty, o.begun.not_label, o.no_proof, e, es, o.names_are, x, y) refl

-- first in `$a`
pub axiom-first : (before : List Word) (at b : ℕ) (bs : List ℕ) (after : List Word) (o : IsOpen (unended before) (codes "$a") []) (c v : Bool) → eqb b 36 ≡ false → list_any (λ b. eqb b 36) bs ≡ false
    → is_constant before (word at (b ∷ bs)) ≡ c → is_variable before (word at (b ∷ bs)) ≡ v
    → code_at before (word at (b ∷ bs)) after ≡ cond (not c && not v) (Some 13) (cond v (Some 16) None)
axiom-first before at b bs after o true true e es x y = rw (o.begun.body_is, o.begun.not_empty, o.begun.not_label, o.no_proof, e, es, o.names_are, x, y) refl
axiom-first before at b bs after o true false e es x y = rw (o.begun.body_is, o.begun.not_empty, o.begun.not_label, o.no_proof, e, es, o.names_are, x, y) refl
axiom-first before at b bs after o false true e es x y = rw (o.begun.body_is, o.begun.not_empty, o.begun.not_label, o.no_proof, e, es, o.names_are, x, y) refl
axiom-first before at b bs after o false false e es x y = rw (o.begun.body_is, o.begun.not_empty, o.begun.not_label, o.no_proof, e, es, o.names_are, x, y) refl

-- past the first in `$a`
pub axiom-later : (before : List Word) (at b : ℕ) (bs : List ℕ) (after : List Word) (n : List ℕ) (names : List (List ℕ))
    (o : IsOpen (unended before) (codes "$a") (n ∷ names)) (c v t : Bool)
    → eqb b 36 ≡ false → list_any (λ b. eqb b 36) bs ≡ false
    → is_constant before (word at (b ∷ bs)) ≡ c → is_variable before (word at (b ∷ bs)) ≡ v → is_typed before (word at (b ∷ bs)) ≡ t
    → code_at before (word at (b ∷ bs)) after ≡ cond (not c && not v) (Some 13) (cond (v && not t) (Some 14) None)
axiom-later before at b bs after n names o true true true e es x y z = rw (o.begun.body_is, o.begun.not_empty, o.begun.not_label, o.no_proof, e, es, o.names_are, x, y, z) refl
axiom-later before at b bs after n names o true true false e es x y z = rw (o.begun.body_is, o.begun.not_empty, o.begun.not_label, o.no_proof, e, es, o.names_are, x, y, z) refl
axiom-later before at b bs after n names o true false t e es x y z = rw (o.begun.body_is, o.begun.not_empty, o.begun.not_label, o.no_proof, e, es, o.names_are, x, y) refl
axiom-later before at b bs after n names o false true true e es x y z = rw (o.begun.body_is, o.begun.not_empty, o.begun.not_label, o.no_proof, e, es, o.names_are, x, y, z) refl
axiom-later before at b bs after n names o false true false e es x y z = rw (o.begun.body_is, o.begun.not_empty, o.begun.not_label, o.no_proof, e, es, o.names_are, x, y, z) refl
axiom-later before at b bs after n names o false false t e es x y z = rw (o.begun.body_is, o.begun.not_empty, o.begun.not_label, o.no_proof, e, es, o.names_are, x, y) refl

-- first in `$p`
pub provable-first : (before : List Word) (at b : ℕ) (bs : List ℕ) (after : List Word) (o : IsOpen (unended before) (codes "$p") []) (c v : Bool)
    → eqb b 36 ≡ false → list_any (λ b. eqb b 36) bs ≡ false
    → is_constant before (word at (b ∷ bs)) ≡ c → is_variable before (word at (b ∷ bs)) ≡ v
    → code_at before (word at (b ∷ bs)) after ≡ cond (not c && not v) (Some 13) (cond v (Some 16) None)
provable-first before at b bs after o true true e es x y = rw (o.begun.body_is, o.begun.not_empty, o.begun.not_label, o.no_proof, e, es, o.names_are, x, y) refl
provable-first before at b bs after o true false e es x y = rw (o.begun.body_is, o.begun.not_empty, o.begun.not_label, o.no_proof, e, es, o.names_are, x, y) refl
provable-first before at b bs after o false true e es x y = rw (o.begun.body_is, o.begun.not_empty, o.begun.not_label, o.no_proof, e, es, o.names_are, x, y) refl
provable-first before at b bs after o false false e es x y = rw (o.begun.body_is, o.begun.not_empty, o.begun.not_label, o.no_proof, e, es, o.names_are, x, y) refl

-- past the first in `$p`
pub provable-later : (before : List Word) (at b : ℕ) (bs : List ℕ) (after : List Word) (n : List ℕ) (names : List (List ℕ))
    (o : IsOpen (unended before) (codes "$p") (n ∷ names)) (c v t : Bool)
    → eqb b 36 ≡ false → list_any (λ b. eqb b 36) bs ≡ false
    → is_constant before (word at (b ∷ bs)) ≡ c → is_variable before (word at (b ∷ bs)) ≡ v → is_typed before (word at (b ∷ bs)) ≡ t
    → code_at before (word at (b ∷ bs)) after ≡ cond (not c && not v) (Some 13) (cond (v && not t) (Some 14) None)
provable-later before at b bs after n names o true true true e es x y z = rw (o.begun.body_is, o.begun.not_empty, o.begun.not_label, o.no_proof, e, es, o.names_are, x, y, z) refl
provable-later before at b bs after n names o true true false e es x y z = rw (o.begun.body_is, o.begun.not_empty, o.begun.not_label, o.no_proof, e, es, o.names_are, x, y, z) refl
provable-later before at b bs after n names o true false t e es x y z = rw (o.begun.body_is, o.begun.not_empty, o.begun.not_label, o.no_proof, e, es, o.names_are, x, y) refl
provable-later before at b bs after n names o false true true e es x y z = rw (o.begun.body_is, o.begun.not_empty, o.begun.not_label, o.no_proof, e, es, o.names_are, x, y, z) refl
provable-later before at b bs after n names o false true false e es x y z = rw (o.begun.body_is, o.begun.not_empty, o.begun.not_label, o.no_proof, e, es, o.names_are, x, y, z) refl
provable-later before at b bs after n names o false false t e es x y z = rw (o.begun.body_is, o.begun.not_empty, o.begun.not_label, o.no_proof, e, es, o.names_are, x, y) refl

-- in a proof
pub proof-word : (before : List Word) (at b : ℕ) (bs : List ℕ) (after : List Word) (names : List (List ℕ)) (o : IsProof (unended before) names)
    → eqb b 36 ≡ false → list_any (λ b. eqb b 36) bs ≡ false → code_at before (word at (b ∷ bs)) after ≡ None
proof-word before at b bs after names o e es = rw (o.begun.body_is, o.begun.not_empty, o.begun.not_label, o.proof, e, es) refl

-- ---- `$.` and `$=`

pub constant-end-empty : (before : List Word) (at : ℕ) (after : List Word) → IsOpen (unended before) (codes "$c") [] → code_at before (word at (codes "$.")) after ≡ Some 26
constant-end-empty before at after o = rw (o.begun.body_is, o.begun.not_empty, o.begun.not_label, o.no_proof, o.names_are) refl

pub constant-end : (before : List Word) (at : ℕ) (after : List Word) (n : List ℕ) (names : List (List ℕ))
    → IsOpen (unended before) (codes "$c") (n ∷ names) → code_at before (word at (codes "$.")) after ≡ None
constant-end before at after n names o = rw (o.begun.body_is, o.begun.not_empty, o.begun.not_label, o.no_proof, o.names_are) refl

pub constant-equals-empty : (before : List Word) (at : ℕ) (after : List Word) → IsOpen (unended before) (codes "$c") [] → code_at before (word at (codes "$=")) after ≡ Some 26
constant-equals-empty before at after o = rw (o.begun.body_is, o.begun.not_empty, o.begun.not_label, o.no_proof, o.names_are) refl

pub constant-equals : (before : List Word) (at : ℕ) (after : List Word) (n : List ℕ) (names : List (List ℕ))
    → IsOpen (unended before) (codes "$c") (n ∷ names) → code_at before (word at (codes "$=")) after ≡ Some 29
constant-equals before at after n names o = rw (o.begun.body_is, o.begun.not_empty, o.begun.not_label, o.no_proof, o.names_are) refl

pub variable-end-empty : (before : List Word) (at : ℕ) (after : List Word) → IsOpen (unended before) (codes "$v") [] → code_at before (word at (codes "$.")) after ≡ Some 26
variable-end-empty before at after o = rw (o.begun.body_is, o.begun.not_empty, o.begun.not_label, o.no_proof, o.names_are) refl

pub variable-end : (before : List Word) (at : ℕ) (after : List Word) (n : List ℕ) (names : List (List ℕ))
    → IsOpen (unended before) (codes "$v") (n ∷ names) → code_at before (word at (codes "$.")) after ≡ None
variable-end before at after n names o = rw (o.begun.body_is, o.begun.not_empty, o.begun.not_label, o.no_proof, o.names_are) refl

pub variable-equals-empty : (before : List Word) (at : ℕ) (after : List Word) → IsOpen (unended before) (codes "$v") [] → code_at before (word at (codes "$=")) after ≡ Some 26
variable-equals-empty before at after o = rw (o.begun.body_is, o.begun.not_empty, o.begun.not_label, o.no_proof, o.names_are) refl

pub variable-equals : (before : List Word) (at : ℕ) (after : List Word) (n : List ℕ) (names : List (List ℕ))
    → IsOpen (unended before) (codes "$v") (n ∷ names) → code_at before (word at (codes "$=")) after ≡ Some 29
variable-equals before at after n names o = rw (o.begun.body_is, o.begun.not_empty, o.begun.not_label, o.no_proof, o.names_are) refl

pub essential-end-empty : (before : List Word) (at : ℕ) (after : List Word) → IsOpen (unended before) (codes "$e") [] → code_at before (word at (codes "$.")) after ≡ Some 26
essential-end-empty before at after o = rw (o.begun.body_is, o.begun.not_empty, o.begun.not_label, o.no_proof, o.names_are) refl

pub essential-end : (before : List Word) (at : ℕ) (after : List Word) (n : List ℕ) (names : List (List ℕ))
    → IsOpen (unended before) (codes "$e") (n ∷ names) → code_at before (word at (codes "$.")) after ≡ None
essential-end before at after n names o = rw (o.begun.body_is, o.begun.not_empty, o.begun.not_label, o.no_proof, o.names_are) refl

pub essential-equals-empty : (before : List Word) (at : ℕ) (after : List Word) → IsOpen (unended before) (codes "$e") [] → code_at before (word at (codes "$=")) after ≡ Some 26
essential-equals-empty before at after o = rw (o.begun.body_is, o.begun.not_empty, o.begun.not_label, o.no_proof, o.names_are) refl

pub essential-equals : (before : List Word) (at : ℕ) (after : List Word) (n : List ℕ) (names : List (List ℕ))
    → IsOpen (unended before) (codes "$e") (n ∷ names) → code_at before (word at (codes "$=")) after ≡ Some 29
essential-equals before at after n names o = rw (o.begun.body_is, o.begun.not_empty, o.begun.not_label, o.no_proof, o.names_are) refl

pub axiom-end-empty : (before : List Word) (at : ℕ) (after : List Word) → IsOpen (unended before) (codes "$a") [] → code_at before (word at (codes "$.")) after ≡ Some 26
axiom-end-empty before at after o = rw (o.begun.body_is, o.begun.not_empty, o.begun.not_label, o.no_proof, o.names_are) refl

pub axiom-end : (before : List Word) (at : ℕ) (after : List Word) (n : List ℕ) (names : List (List ℕ))
    → IsOpen (unended before) (codes "$a") (n ∷ names) → code_at before (word at (codes "$.")) after ≡ None
axiom-end before at after n names o = rw (o.begun.body_is, o.begun.not_empty, o.begun.not_label, o.no_proof, o.names_are) refl

pub axiom-equals-empty : (before : List Word) (at : ℕ) (after : List Word) → IsOpen (unended before) (codes "$a") [] → code_at before (word at (codes "$=")) after ≡ Some 26
axiom-equals-empty before at after o = rw (o.begun.body_is, o.begun.not_empty, o.begun.not_label, o.no_proof, o.names_are) refl

pub axiom-equals : (before : List Word) (at : ℕ) (after : List Word) (n : List ℕ) (names : List (List ℕ))
    → IsOpen (unended before) (codes "$a") (n ∷ names) → code_at before (word at (codes "$=")) after ≡ Some 29
axiom-equals before at after n names o = rw (o.begun.body_is, o.begun.not_empty, o.begun.not_label, o.no_proof, o.names_are) refl

pub provable-end-empty : (before : List Word) (at : ℕ) (after : List Word) → IsOpen (unended before) (codes "$p") [] → code_at before (word at (codes "$.")) after ≡ Some 26
provable-end-empty before at after o = rw (o.begun.body_is, o.begun.not_empty, o.begun.not_label, o.no_proof, o.names_are) refl

pub provable-end : (before : List Word) (at : ℕ) (after : List Word) (n : List ℕ) (names : List (List ℕ))
    → IsOpen (unended before) (codes "$p") (n ∷ names) → code_at before (word at (codes "$.")) after ≡ Some 28
provable-end before at after n names o = rw (o.begun.body_is, o.begun.not_empty, o.begun.not_label, o.no_proof, o.names_are) refl

pub provable-equals-empty : (before : List Word) (at : ℕ) (after : List Word) → IsOpen (unended before) (codes "$p") [] → code_at before (word at (codes "$=")) after ≡ Some 26
provable-equals-empty before at after o = rw (o.begun.body_is, o.begun.not_empty, o.begun.not_label, o.no_proof, o.names_are) refl

pub provable-equals : (before : List Word) (at : ℕ) (after : List Word) (n : List ℕ) (names : List (List ℕ))
    → IsOpen (unended before) (codes "$p") (n ∷ names) → code_at before (word at (codes "$=")) after ≡ None
provable-equals before at after n names o = rw (o.begun.body_is, o.begun.not_empty, o.begun.not_label, o.no_proof, o.names_are) refl

pub distinct-end-empty : (before : List Word) (at : ℕ) (after : List Word) → IsOpen (unended before) (codes "$d") [] → code_at before (word at (codes "$.")) after ≡ Some 24
distinct-end-empty before at after o = rw (o.begun.body_is, o.begun.not_empty, o.begun.not_label, o.names_are) refl

pub distinct-end-short : (before : List Word) (at : ℕ) (after : List Word) (n : List ℕ) → IsOpen (unended before) (codes "$d") (n ∷ []) → code_at before (word at (codes "$.")) after ≡ Some 24
distinct-end-short before at after n o = rw (o.begun.body_is, o.begun.not_empty, o.begun.not_label, o.names_are) refl

pub distinct-end : (before : List Word) (at : ℕ) (after : List Word) (m n : List ℕ) (names : List (List ℕ))
    → IsOpen (unended before) (codes "$d") (m ∷ n ∷ names) → code_at before (word at (codes "$.")) after ≡ None
distinct-end before at after m n names o = rw (o.begun.body_is, o.begun.not_empty, o.begun.not_label, o.names_are, lt-suc-2 (length names)) refl

pub distinct-equals : (before : List Word) (at : ℕ) (after : List Word) (names : List (List ℕ)) → IsOpen (unended before) (codes "$d") names → code_at before (word at (codes "$=")) after ≡ Some 29
distinct-equals before at after names o = rw (o.begun.body_is, o.begun.not_empty, o.begun.not_label) refl

pub floating-end-empty : (before : List Word) (at : ℕ) (after : List Word) → IsOpen (unended before) (codes "$f") [] → code_at before (word at (codes "$.")) after ≡ Some 27
floating-end-empty before at after o = rw (o.begun.body_is, o.begun.not_empty, o.begun.not_label, o.names_are) refl

pub floating-end-short : (before : List Word) (at : ℕ) (after : List Word) (n : List ℕ) → IsOpen (unended before) (codes "$f") (n ∷ []) → code_at before (word at (codes "$.")) after ≡ Some 27
floating-end-short before at after n o = rw (o.begun.body_is, o.begun.not_empty, o.begun.not_label, o.names_are) refl

pub floating-end : (before : List Word) (at : ℕ) (after : List Word) (m n : List ℕ) (names : List (List ℕ))
    → IsOpen (unended before) (codes "$f") (m ∷ n ∷ names) → code_at before (word at (codes "$.")) after ≡ None
floating-end before at after m n names o = rw (o.begun.body_is, o.begun.not_empty, o.begun.not_label, o.names_are, lt-suc-2 (length names)) refl

pub floating-equals : (before : List Word) (at : ℕ) (after : List Word) (names : List (List ℕ)) → IsOpen (unended before) (codes "$f") names → code_at before (word at (codes "$=")) after ≡ Some 29
floating-equals before at after names o = rw (o.begun.body_is, o.begun.not_empty, o.begun.not_label) refl

pub proof-end : (before : List Word) (at : ℕ) (after : List Word) (names : List (List ℕ)) → IsProof (unended before) names → code_at before (word at (codes "$.")) after ≡ None
proof-end before at after names o = rw (o.begun.body_is, o.begun.not_empty, o.begun.not_label, o.proof) refl

pub proof-equals : (before : List Word) (at : ℕ) (after : List Word) (names : List (List ℕ)) → IsProof (unended before) names → code_at before (word at (codes "$=")) after ≡ Some 29
proof-equals before at after names o = rw (o.begun.body_is, o.begun.not_empty, o.begun.not_label, o.proof) refl

-- ---- the other keywords

pub constants-between : (before : List Word) (at : ℕ) (after : List Word) (outside : Bool) → unended before ≡ []
    → is_empty (path (ended before)) ≡ outside → code_at before (word at (codes "$c")) after ≡ cond outside None (Some 11)
constants-between before at after true o p = rw (o, p) refl
constants-between before at after false o p = rw (o, p) refl

pub variables-between : (before : List Word) (at : ℕ) (after : List Word) → unended before ≡ [] → code_at before (word at (codes "$v")) after ≡ None
variables-between before at after o = rw (o) refl

pub distinct-between : (before : List Word) (at : ℕ) (after : List Word) → unended before ≡ [] → code_at before (word at (codes "$d")) after ≡ None
distinct-between before at after o = rw (o) refl

pub floating-between : (before : List Word) (at : ℕ) (after : List Word) → unended before ≡ [] → code_at before (word at (codes "$f")) after ≡ Some 18
floating-between before at after o = rw (o) refl

pub essential-between : (before : List Word) (at : ℕ) (after : List Word) → unended before ≡ [] → code_at before (word at (codes "$e")) after ≡ Some 18
essential-between before at after o = rw (o) refl

pub axiom-between : (before : List Word) (at : ℕ) (after : List Word) → unended before ≡ [] → code_at before (word at (codes "$a")) after ≡ Some 18
axiom-between before at after o = rw (o) refl

pub provable-between : (before : List Word) (at : ℕ) (after : List Word) → unended before ≡ [] → code_at before (word at (codes "$p")) after ≡ Some 18
provable-between before at after o = rw (o) refl

pub equals-between : (before : List Word) (at : ℕ) (after : List Word) → unended before ≡ [] → code_at before (word at (codes "$=")) after ≡ Some 29
equals-between before at after o = rw (o) refl

pub end-between : (before : List Word) (at : ℕ) (after : List Word) → unended before ≡ [] → code_at before (word at (codes "$.")) after ≡ Some 29
end-between before at after o = rw (o) refl

pub open-between : (before : List Word) (at : ℕ) (after : List Word) → unended before ≡ [] → code_at before (word at (codes "${")) after ≡ None
open-between before at after o = rw (o) refl

pub close-between : (before : List Word) (at : ℕ) (after : List Word) (outside : Bool) → unended before ≡ []
    → is_empty (path (ended before)) ≡ outside → code_at before (word at (codes "$}")) after ≡ cond outside (Some 23) None
close-between before at after true o p = rw (o, p) refl
close-between before at after false o p = rw (o, p) refl

pub include-between : (before : List Word) (at : ℕ) (after : List Word) → unended before ≡ [] → code_at before (word at (codes "$[")) after ≡ Some 10
include-between before at after o = refl

pub close_include-between : (before : List Word) (at : ℕ) (after : List Word) → unended before ≡ [] → code_at before (word at (codes "$]")) after ≡ Some 29
close_include-between before at after o = rw (o) refl

pub constants-begun : (before : List Word) (at : ℕ) (after : List Word) (k : List ℕ) (outside : Bool) → IsBegun (unended before) k
    → is_empty (path (ended before)) ≡ outside → code_at before (word at (codes "$c")) after ≡ cond outside (Some 29) (Some 11)
constants-begun before at after k true o p = rw (o.not_empty, o.not_label, p) refl
constants-begun before at after k false o p = rw (o.not_empty, o.not_label, p) refl

pub variables-begun : (before : List Word) (at : ℕ) (after : List Word) (k : List ℕ) → IsBegun (unended before) k → code_at before (word at (codes "$v")) after ≡ Some 29
variables-begun before at after k o = rw (o.not_empty, o.not_label) refl

pub distinct-begun : (before : List Word) (at : ℕ) (after : List Word) (k : List ℕ) → IsBegun (unended before) k → code_at before (word at (codes "$d")) after ≡ Some 29
distinct-begun before at after k o = rw (o.not_empty, o.not_label) refl

pub floating-begun : (before : List Word) (at : ℕ) (after : List Word) (k : List ℕ) → IsBegun (unended before) k → code_at before (word at (codes "$f")) after ≡ Some 18
floating-begun before at after k o = rw (o.not_empty, o.not_label) refl

pub essential-begun : (before : List Word) (at : ℕ) (after : List Word) (k : List ℕ) → IsBegun (unended before) k → code_at before (word at (codes "$e")) after ≡ Some 18
essential-begun before at after k o = rw (o.not_empty, o.not_label) refl

pub axiom-begun : (before : List Word) (at : ℕ) (after : List Word) (k : List ℕ) → IsBegun (unended before) k → code_at before (word at (codes "$a")) after ≡ Some 18
axiom-begun before at after k o = rw (o.not_empty, o.not_label) refl

pub provable-begun : (before : List Word) (at : ℕ) (after : List Word) (k : List ℕ) → IsBegun (unended before) k → code_at before (word at (codes "$p")) after ≡ Some 18
provable-begun before at after k o = rw (o.not_empty, o.not_label) refl

pub open-begun : (before : List Word) (at : ℕ) (after : List Word) (k : List ℕ) → IsBegun (unended before) k → code_at before (word at (codes "${")) after ≡ Some 29
open-begun before at after k o = rw (o.not_empty, o.not_label) refl

pub close-begun : (before : List Word) (at : ℕ) (after : List Word) (k : List ℕ) (outside : Bool) → IsBegun (unended before) k
    → is_empty (path (ended before)) ≡ outside → code_at before (word at (codes "$}")) after ≡ cond outside (Some 23) (Some 29)
close-begun before at after k true o p = rw (o.not_empty, o.not_label, p) refl
close-begun before at after k false o p = rw (o.not_empty, o.not_label, p) refl

pub include-begun : (before : List Word) (at : ℕ) (after : List Word) (k : List ℕ) → IsBegun (unended before) k → code_at before (word at (codes "$[")) after ≡ Some 10
include-begun before at after k o = refl

pub close_include-begun : (before : List Word) (at : ℕ) (after : List Word) (k : List ℕ) → IsBegun (unended before) k → code_at before (word at (codes "$]")) after ≡ Some 29
close_include-begun before at after k o = rw (o.not_empty, o.not_label) refl

pub floating-labelled : (before : List Word) (at : ℕ) (after : List Word) (l : Word) → unended before ≡ l ∷ [] → is_word l ≡ true → code_at before (word at (codes "$f")) after ≡ None
floating-labelled before at after l h e = rw (h, e) refl

pub essential-labelled : (before : List Word) (at : ℕ) (after : List Word) (l : Word) → unended before ≡ l ∷ [] → is_word l ≡ true → code_at before (word at (codes "$e")) after ≡ None
essential-labelled before at after l h e = rw (h, e) refl

pub axiom-labelled : (before : List Word) (at : ℕ) (after : List Word) (l : Word) → unended before ≡ l ∷ [] → is_word l ≡ true → code_at before (word at (codes "$a")) after ≡ None
axiom-labelled before at after l h e = rw (h, e) refl

pub provable-labelled : (before : List Word) (at : ℕ) (after : List Word) (l : Word) → unended before ≡ l ∷ [] → is_word l ≡ true → code_at before (word at (codes "$p")) after ≡ None
provable-labelled before at after l h e = rw (h, e) refl
