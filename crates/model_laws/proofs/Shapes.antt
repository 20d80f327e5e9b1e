-- The parts of a statement, and what the rules say of its labels and of its symbols.
use Rattle.std.proofs.Common.{◌≡◌, ◌+◌, ℕ, suc, Bool, true, false, not, ◌&&◌, ◌||◌, ◌==◌, List, [], ◌∷◌, ◌++◌, take, drop, map, refl, sym, ap, ◌∙◌}
use Rattle.std.proofs.Common.{arith, subst, append_assoc, inl, inr, codes, nat_le, nat_lt}
use Rattle.std.specs.List.{AllByRecursion, list_any, take_while, prefix_len}
use Rattle.std.specs.Str.{bytes_eq}
use Rattle.std.proofs.lemmas.Bool.{cases_Bool, or_parts, both_ways, not-true}
use Rattle.std.proofs.lemmas.Slice.Eq.{bytes_eq-Decides}
use Rattle.std.proofs.lemmas.List.{append-nil}
use Rattle.std.proofs.lemmas.List.Folds.{list_any-append}
use Rattle.mm_model.specs.Words.{Word}
use Rattle.mm_model.specs.Statements.{Statement, is, is_one_of, is_word, is_empty, unended, ended, labels_in, body, has_keyword, has_one_of}
use Rattle.mm_model.specs.Statements.{symbols_in, in_proof, contains, labels, typed, variables, is_symbol_of, labelled, rank, label_taken}
use Rattle.mm_model.specs.Statements.{label_extra, bad_hypothesis, two_types, first_not_const}
use Rattle.model_laws.proofs.Checked.{rules_fail, At, Looked, IsChecked}

-- ---- the longest front of a list that passes a test

abbrev pub Stops : {X : Type 0} → (X → Bool) → List X → Type 0
Stops p [] = Unit {0}
Stops p (x ∷ xs) = p x ≡ false

pub record Parts {X : Type 0} (p : X → Bool) (xs : List X) : Type 0 where
  pub front : List X
  pub rest : List X
  pub whole : xs ≡ front ++ rest
  pub pass : AllByRecursion (λ x. p x ≡ true) front
  pub stop : Stops p rest
  pub taken : take_while p xs ≡ front
  pub dropped : drop (prefix_len p xs) xs ≡ rest

prefix-yes : {X : Type 0} (p : X → Bool) (x : X) (xs : List X) → p x ≡ true → prefix_len p (x ∷ xs) ≡ suc (prefix_len p xs)
prefix-yes p x xs e = let one : 1 + prefix_len p xs ≡ suc (prefix_len p xs) = omega arith in rw (e, one) refl

prefix-no : {X : Type 0} (p : X → Bool) (x : X) (xs : List X) → p x ≡ false → prefix_len p (x ∷ xs) ≡ 0
prefix-no p x xs e = rw e refl

pub parts : {X : Type 0} (p : X → Bool) (xs : List X) → Parts p xs
parts p [] = record { front = []; rest = []; whole = refl; pass = tt; stop = tt; taken = refl; dropped = refl }
parts p (x ∷ xs) = elim (cases_Bool (p x)) [
  | inl e ↦
      let r = parts p xs in
      record {
        front = x ∷ r.front;
        rest = r.rest;
        whole = ap (λ ys. x ∷ ys) r.whole;
        pass = (e, r.pass);
        stop = r.stop;
        taken = ap (λ (n : ℕ). take n (x ∷ xs)) (prefix-yes p x xs e) ∙ ap (λ ys. x ∷ ys) r.taken;
        dropped = ap (λ (n : ℕ). drop n (x ∷ xs)) (prefix-yes p x xs e) ∙ r.dropped;
      }
  | inr e ↦ record {
    front = [];
    rest = x ∷ xs;
    whole = refl;
    pass = tt;
    stop = e;
    taken = ap (λ (n : ℕ). take n (x ∷ xs)) (prefix-no p x xs e);
    dropped = ap (λ (n : ℕ). drop n (x ∷ xs)) (prefix-no p x xs e);
  }
]

-- and where the parts are known
pub taken-front : {X : Type 0} (p : X → Bool) (front rest : List X) → AllByRecursion (λ x. p x ≡ true) front → Stops p rest → take_while p (front ++ rest) ≡ front
taken-front p [] [] h k = refl
taken-front p [] (x ∷ rest) h k = ap (λ (n : ℕ). take n (x ∷ rest)) (prefix-no p x rest k)
taken-front p (x ∷ front) rest h k = ap (λ (n : ℕ). take n (x ∷ (front ++ rest))) (prefix-yes p x (front ++ rest) h.0) ∙ ap (λ ys. x ∷ ys) (taken-front p front rest h.1 k)

dropped-front : {X : Type 0} (p : X → Bool) (front rest : List X) → AllByRecursion (λ x. p x ≡ true) front → Stops p rest → drop (prefix_len p (front ++ rest)) (front ++ rest) ≡ rest
dropped-front p [] [] h k = refl
dropped-front p [] (x ∷ rest) h k = ap (λ (n : ℕ). drop n (x ∷ rest)) (prefix-no p x rest k)
dropped-front p (x ∷ front) rest h k = ap (λ (n : ℕ). drop n (x ∷ (front ++ rest))) (prefix-yes p x (front ++ rest) h.0) ∙ dropped-front p front rest h.1 k

-- ---- a statement that has come to its keyword, and to some of its symbols

abbrev pub AreWords : List Word → Type 0
AreWords ws = AllByRecursion (λ (w : Word). is_word w ≡ true) ws

pub record Begun (f : Statement) (ls : List Word) (kw : Word) (us : List Word) : Type 0 where
  pub whole : f ≡ ls ++ kw ∷ us
  pub labels_pass : AreWords ls
  pub keyword_stops : is_word kw ≡ false
  pub symbols_pass : AreWords us

body-begun : (f : Statement) (ls : List Word) (kw : Word) (us : List Word) → Begun f ls kw us → body f ≡ kw ∷ us
body-begun f ls kw us b = ap body b.whole ∙ dropped-front is_word ls (kw ∷ us) b.labels_pass b.keyword_stops

pub symbols-begun : (f : Statement) (ls : List Word) (kw : Word) (us : List Word) → Begun f ls kw us → symbols_in f ≡ map (λ (w : Word). w.bytes) us
symbols-begun f ls kw us b =
    ap (λ (ws : List Word). map (λ (w : Word). w.bytes) (take_while is_word (drop 1 ws))) (body-begun f ls kw us b)
    ∙ ap (λ (ws : List Word). map (λ (w : Word). w.bytes) (take_while is_word ws)) (sym (append-nil us))
    ∙ ap (λ (ws : List Word). map (λ (w : Word). w.bytes) ws) (taken-front is_word us [] b.symbols_pass tt)

or-false : (b : Bool) → (b || false) ≡ b
or-false true = refl
or-false false = refl

one_of-begun : (ks : List (List ℕ)) (f : Statement) (ls : List Word) (kw : Word) (us : List Word) → Begun f ls kw us → has_one_of ks f ≡ is_one_of ks kw
one_of-begun ks f ls kw us b = ap (λ (ws : List Word). list_any (is_one_of ks) (take 1 ws)) (body-begun f ls kw us b) ∙ or-false (is_one_of ks kw)

-- a word is no keyword
word_is_no : (k : List ℕ) (w : Word) → list_any (λ b. b == 36) k ≡ true → is_word w ≡ true → is k w ≡ false
word_is_no k w d h = elim (cases_Bool (is k w)) [
  | inl e ↦
      let same : w.bytes ≡ k = (bytes_eq-Decides w.bytes k).0 e in
      let plain : list_any (λ b. b == 36) w.bytes ≡ false = not-true _ h in
      absurd (both_ways (list_any (λ b. b == 36) w.bytes) plain (ap (λ (bs : List ℕ). list_any (λ b. b == 36) bs) same ∙ d))
  | inr e ↦ e
]

words_have_no : (k : List ℕ) (ws : List Word) → list_any (λ b. b == 36) k ≡ true → AreWords ws → list_any (is k) ws ≡ false
words_have_no k [] d h = refl
words_have_no k (w ∷ ws) d h = rw (word_is_no k w d h.0) (words_have_no k ws d h.1)

proof-begun : (f : Statement) (ls : List Word) (kw : Word) (us : List Word) → Begun f ls kw us → is (codes "$=") kw ≡ false → in_proof f ≡ false
proof-begun f ls kw us b differs =
    ap in_proof b.whole ∙ list_any-append (is (codes "$=")) ls (kw ∷ us)
    ∙ rw (words_have_no (codes "$=") ls refl b.labels_pass, differs) (words_have_no (codes "$=") us refl b.symbols_pass)

-- ---- a whole statement with a keyword

pub record Shape (s : Statement) : Type 0 where
  pub ls : List Word
  pub kw : Word
  pub us : List Word
  pub tail : List Word
  pub whole : s ≡ ls ++ kw ∷ (us ++ tail)
  pub labels_pass : AreWords ls
  pub keyword_stops : is_word kw ≡ false
  pub symbols_pass : AreWords us
  pub keyword_is : (k : List ℕ) → has_keyword k s ≡ is k kw
  pub symbols_are : symbols_in s ≡ map (λ (w : Word). w.bytes) us

shape_by : (s : Statement) (ls rest : List Word) (k : List ℕ) → s ≡ ls ++ rest → AreWords ls → Stops is_word rest → body s ≡ rest → has_keyword k s ≡ true → Shape s
shape_by s ls [] k whole pass stop is_body h =
    let none : false ≡ true = sym (ap (λ (ws : List Word). list_any (is k) (take 1 ws)) is_body) ∙ h in absurd cc
shape_by s ls (kw ∷ more) k whole pass stop is_body h =
    let p = parts is_word more in
    record {
      ls = ls;
      kw = kw;
      us = p.front;
      tail = p.rest;
      whole = whole ∙ ap (λ (ws : List Word). ls ++ kw ∷ ws) p.whole;
      labels_pass = pass;
      keyword_stops = stop;
      symbols_pass = p.pass;
      keyword_is = λ j. ap (λ (ws : List Word). list_any (is j) (take 1 ws)) is_body ∙ or-false (is j kw);
      symbols_are = ap (λ (ws : List Word). map (λ (w : Word). w.bytes) (take_while is_word (drop 1 ws))) is_body ∙ ap (λ (ws : List Word). map (λ (w : Word). w.bytes) ws) p.taken;
    }

pub shape : (s : Statement) (k : List ℕ) → has_keyword k s ≡ true → Shape s
shape s k h = let p = parts is_word s in shape_by s p.front p.rest k p.whole p.pass p.stop p.dropped h

-- ---- the tokens that were looked at

looked_at : (e : List Statement) (front xs : List Word) (w : Word) (ys after : List Word) → Looked e front (xs ++ w ∷ ys) after → At e (front ++ xs) w (ys ++ after)
looked_at e front [] w ys after h = subst (λ f. At e f w (ys ++ after)) (sym (append-nil front)) h.0
looked_at e front (x ∷ xs) w ys after h =
    subst (λ f. At e f w (ys ++ after)) (append_assoc front (x ∷ []) xs) (looked_at e (front ++ x ∷ []) xs w ys after h.1)

pub at_split : (e : List Statement) (s : Statement) (xs : List Word) (w : Word) (ys : List Word) → (c : IsChecked e s) → s ≡ xs ++ w ∷ ys → At e xs w (ys ++ c.after)
at_split e s xs w ys c is = looked_at e [] xs w ys c.after (subst (λ x. Looked e [] x c.after) is c.looked)

-- ---- what the rules say of labels

-- a statement has one label at most, and it was not used before
abbrev pub LabelIsNew : List Statement → List Word → Type 0
LabelIsNew e [] = Unit {0}
LabelIsNew e (l ∷ []) = contains (labels e) l.bytes ≡ false
LabelIsNew e (l ∷ m ∷ ls) = ⊥

label_here : (e : List Statement) (l : Word) (after : List Word) → At e [] l after → is_word l ≡ true
    → (contains (labels e) l.bytes ≡ false)
    × (list_any (λ v. not (is_one_of (codes "$f" ∷ codes "$e" ∷ codes "$a" ∷ codes "$p" ∷ []) v)) (take 1 after) ≡ false)
label_here e l after a h =
    let fail = rules_fail a.before l after a.no_rule in
    let empty : is_empty (unended a.before) ≡ true = ap is_empty a.unended_is in
    let taken : label_taken a.before l after ≡ false = fail.1.1.1.1.1.1.1.0 in
    let extra : label_extra a.before l after ≡ false = fail.1.1.1.1.1.1.1.1.1.0 in
    let new : contains (labels (ended a.before)) l.bytes ≡ false = rw (h, empty) at taken in
    (ap (λ (x : List Statement). contains (labels x) l.bytes) (sym a.ended_is) ∙ new, rw (h, empty) at extra)

word_is_not_labelled : (v : Word) → is_word v ≡ true → is_one_of (codes "$f" ∷ codes "$e" ∷ codes "$a" ∷ codes "$p" ∷ []) v ≡ false
word_is_not_labelled v h =
    rw (word_is_no (codes "$f") v refl h, word_is_no (codes "$e") v refl h, word_is_no (codes "$a") v refl h, word_is_no (codes "$p") v refl h) refl

label_by : (e : List Statement) (s : Statement) (ls rest : List Word) → IsChecked e s → s ≡ ls ++ rest → AreWords ls → LabelIsNew e ls
label_by e s [] rest c is h = tt
label_by e s (l ∷ []) rest c is h = (label_here e l (rest ++ c.after) (at_split e s [] l rest c is) h.0).0
label_by e s (l ∷ m ∷ ls) rest c is h =
    let extra = (label_here e l ((m ∷ (ls ++ rest)) ++ c.after) (at_split e s [] l (m ∷ (ls ++ rest)) c is) h.0).1 in
    let none : is_one_of (codes "$f" ∷ codes "$e" ∷ codes "$a" ∷ codes "$p" ∷ []) m ≡ false = word_is_not_labelled m h.1.0 in
    let bad : true ≡ false = rw none at extra in
    absurd cc

pub label_is_new : (e : List Statement) (s : Statement) → IsChecked e s → LabelIsNew e (labels_in s)
label_is_new e s c = let p = parts is_word s in subst (λ x. LabelIsNew e x) (sym p.taken) (label_by e s p.front p.rest c p.whole p.pass)

-- ---- the symbols of a statement with this keyword

keyword_begun : (k : List ℕ) (f : Statement) (ls : List Word) (kw : Word) (us : List Word) → Begun f ls kw us → is k kw ≡ true
    → (ks : List (List ℕ)) → has_one_of ks f ≡ list_any (bytes_eq k) ks
keyword_begun k f ls kw us b e ks =
    one_of-begun ks f ls kw us b ∙ ap (λ (bs : List ℕ). list_any (bytes_eq bs) ks) ((bytes_eq-Decides kw.bytes k).0 e)

no_proof_begun : (k : List ℕ) (f : Statement) (ls : List Word) (kw : Word) (us : List Word) → Begun f ls kw us → is k kw ≡ true → bytes_eq k (codes "$=") ≡ false → in_proof f ≡ false
no_proof_begun k f ls kw us b e differs =
    proof-begun f ls kw us b (ap (λ (bs : List ℕ). bytes_eq bs (codes "$=")) ((bytes_eq-Decides kw.bytes k).0 e) ∙ differs)

-- where a word is a symbol behind these symbols
pub record AtSymbol (e : List Statement) (k : List ℕ) (us : List Word) (w : Word) (after : List Word) : Type 0 where
  pub at : List Word
  pub here : At e at w after
  pub keyword : (ks : List (List ℕ)) → has_one_of ks at ≡ list_any (bytes_eq k) ks
  pub no_proof : in_proof at ≡ false
  pub symbols : symbols_in at ≡ map (λ (u : Word). u.bytes) us
  pub pass : is_word w ≡ true

front_words : (us : List Word) (w : Word) (more : List Word) → AreWords (us ++ w ∷ more) → AreWords us × (is_word w ≡ true)
front_words [] w more h = (tt, h.0)
front_words (u ∷ us) w more h = let r = front_words us w more h.1 in ((h.0, r.0), r.1)

pub at_symbol : (e : List Statement) (s : Statement) (k : List ℕ) (c : IsChecked e s) → (h : has_keyword k s ≡ true) → bytes_eq k (codes "$=") ≡ false → (us : List Word) (w : Word) (more : List Word)
    → (shape s k h).us ≡ us ++ w ∷ more → AtSymbol e k us w ((more ++ (shape s k h).tail) ++ c.after)
at_symbol e s k c h differs us w more is_us =
    let sh = shape s k h in
    let pass : AreWords (us ++ w ∷ more) = subst AreWords is_us sh.symbols_pass in
    let words = front_words us w more pass in
    let split : s ≡ (sh.ls ++ sh.kw ∷ us) ++ w ∷ (more ++ sh.tail) =
    sh.whole ∙ ap (λ (ws : List Word). sh.ls ++ sh.kw ∷ (ws ++ sh.tail)) is_us
    ∙ ap (λ (ws : List Word). sh.ls ++ sh.kw ∷ ws) (append_assoc us (w ∷ more) sh.tail)
    ∙ sym (append_assoc sh.ls (sh.kw ∷ us) (w ∷ (more ++ sh.tail))) in
    let front : List Word = sh.ls ++ sh.kw ∷ us in
    let begun : Begun front sh.ls sh.kw us = record { whole = refl; labels_pass = sh.labels_pass; keyword_stops = sh.keyword_stops; symbols_pass = words.0 } in
    let is_k : is k sh.kw ≡ true = sym (sh.keyword_is k) ∙ h in
    record {
      at = front;
      here = at_split e s front w (more ++ sh.tail) c split;
      keyword = keyword_begun k front sh.ls sh.kw us begun is_k;
      no_proof = no_proof_begun k front sh.ls sh.kw us begun is_k differs;
      symbols = symbols-begun front sh.ls sh.kw us begun;
      pass = words.1;
    }

-- the same, said of the tokens before
pub record Before {e : List Statement} {k : List ℕ} {us : List Word} {w : Word} {after : List Word} (f : AtSymbol e k us w after) : Type 0 where
  pub keyword : (ks : List (List ℕ)) → has_one_of ks (unended f.here.before) ≡ list_any (bytes_eq k) ks
  pub no_proof : in_proof (unended f.here.before) ≡ false
  pub symbols : symbols_in (unended f.here.before) ≡ map (λ (u : Word). u.bytes) us

pub before_symbol : (e : List Statement) (k : List ℕ) (us : List Word) (w : Word) (after : List Word) (f : AtSymbol e k us w after) → Before f
before_symbol e k us w after f = record {
  keyword = λ ks. ap (has_one_of ks) f.here.unended_is ∙ f.keyword ks;
  no_proof = ap in_proof f.here.unended_is ∙ f.no_proof;
  symbols = ap symbols_in f.here.unended_is ∙ f.symbols;
}

-- ---- what the rules say of the symbols of a `$f`

-- the third symbol of a `$f` has a fault
no_third : (e : List Statement) (a b w : Word) (after : List Word) → AtSymbol e (codes "$f") (a ∷ b ∷ []) w after → ⊥
no_third e a b w after f =
    let before = f.here.before in
    let known = before_symbol e (codes "$f") (a ∷ b ∷ []) w after f in
    let bad : bad_hypothesis before w after ≡ false = (rules_fail before w after f.here.no_rule).1.1.1.1.1.1.1.1.1.1.1.1.1.1.1.0 in
    let third : (is_symbol_of (codes "$f" ∷ []) before w && nat_le 2 (rank before)) ≡ false =
    (or_parts (is (codes "$.") w && has_keyword (codes "$f") (unended before) && nat_lt (rank before) 2) (is_symbol_of (codes "$f" ∷ []) before w && nat_le 2 (rank before)) bad).1 in
    let clash : true ≡ false = rw (f.pass, known.keyword (codes "$f" ∷ []), known.no_proof, known.symbols) at third in
    absurd cc

-- the second symbol has no active `$f` yet
new_variable : (e : List Statement) (a w : Word) (after : List Word) → AtSymbol e (codes "$f") (a ∷ []) w after → contains (typed e) w.bytes ≡ false
new_variable e a w after f =
    let before = f.here.before in
    let known = before_symbol e (codes "$f") (a ∷ []) w after f in
    let two : two_types before w after ≡ false = (rules_fail before w after f.here.no_rule).1.1.1.1.1.0 in
    let new : contains (typed (ended before)) w.bytes ≡ false = rw (f.pass, known.keyword (codes "$f" ∷ []), known.no_proof, known.symbols) at two in
    ap (λ (x : List Statement). contains (typed x) w.bytes) (sym f.here.ended_is) ∙ new

-- what holds of the symbols of a `$f`: two at most, and the second has no active `$f` before
abbrev pub FloatIsNew : List Statement → List (List ℕ) → Type 0
FloatIsNew e [] = Unit {0}
FloatIsNew e (a ∷ []) = Unit {0}
FloatIsNew e (a ∷ v ∷ []) = contains (typed e) v ≡ false
FloatIsNew e (a ∷ v ∷ x ∷ ns) = ⊥

float_by : (e : List Statement) (s : Statement) (c : IsChecked e s) → (h : has_keyword (codes "$f") s ≡ true) → (us : List Word)
    → (shape s (codes "$f") h).us ≡ us → FloatIsNew e (map (λ (w : Word). w.bytes) us)
float_by e s c h [] is_us = tt
float_by e s c h (a ∷ []) is_us = tt
float_by e s c h (a ∷ v ∷ []) is_us = new_variable e a v _ (at_symbol e s (codes "$f") c h refl (a ∷ []) v [] is_us)
float_by e s c h (a ∷ v ∷ x ∷ more) is_us = no_third e a v x _ (at_symbol e s (codes "$f") c h refl (a ∷ v ∷ []) x more is_us)

pub float_is_new : (e : List Statement) (s : Statement) → IsChecked e s → has_keyword (codes "$f") s ≡ true → FloatIsNew e (symbols_in s)
float_is_new e s c h = subst (λ x. FloatIsNew e x) (sym (shape s (codes "$f") h).symbols_are) (float_by e s c h (shape s (codes "$f") h).us refl)

-- ---- what the rules say of the first symbol of a `$a`

first_constant : (e : List Statement) (w : Word) (after : List Word) → AtSymbol e (codes "$a") [] w after → contains (variables e) w.bytes ≡ false
first_constant e w after f =
    let before = f.here.before in
    let known = before_symbol e (codes "$a") [] w after f in
    let first : first_not_const before w after ≡ false = (rules_fail before w after f.here.no_rule).1.1.1.1.1.1.0 in
    let plain : contains (variables (ended before)) w.bytes ≡ false = rw (f.pass, known.keyword labelled, known.no_proof, known.symbols) at first in
    ap (λ (x : List Statement). contains (variables x) w.bytes) (sym f.here.ended_is) ∙ plain

-- the first of them, if there is one, is no active variable
abbrev pub BeginsWithConstant : List Statement → List (List ℕ) → Type 0
BeginsWithConstant e [] = Unit {0}
BeginsWithConstant e (c ∷ ns) = contains (variables e) c ≡ false

axiom_by : (e : List Statement) (s : Statement) (c : IsChecked e s) → (h : has_keyword (codes "$a") s ≡ true) → (us : List Word)
    → (shape s (codes "$a") h).us ≡ us → BeginsWithConstant e (map (λ (w : Word). w.bytes) us)
axiom_by e s c h [] is_us = tt
axiom_by e s c h (w ∷ more) is_us = first_constant e w _ (at_symbol e s (codes "$a") c h refl [] w more is_us)

pub axiom_begins : (e : List Statement) (s : Statement) → IsChecked e s → has_keyword (codes "$a") s ≡ true → BeginsWithConstant e (symbols_in s)
axiom_begins e s c h = subst (λ x. BeginsWithConstant e x) (sym (shape s (codes "$a") h).symbols_are) (axiom_by e s c h (shape s (codes "$a") h).us refl)
