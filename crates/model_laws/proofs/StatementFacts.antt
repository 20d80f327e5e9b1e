-- What the rules say of the labels and the keyword of a statement.
use Rattle.std.proofs.Common.{◌≡◌, ◌≤◌, ℕ, Bool, true, false, not, ◌||◌, List, [], ◌∷◌, ◌++◌, length, take, drop, map, refl, sym, ap, ◌∙◌, arith, subst, inl, inr, codes}
use Rattle.std.specs.List.{list_any, take_while}
use Rattle.std.specs.Str.{bytes_eq}
use Rattle.std.proofs.lemmas.Bool.{cases_Bool}
use Rattle.std.proofs.lemmas.List.{reverse-reverse}
use Rattle.std.proofs.lemmas.Slice.Eq.{bytes_eq-Decides}
use Rattle.mm_model.specs.Words.{Word}
use Rattle.mm_model.specs.Names.{Name, contains}
use Rattle.mm_model.specs.Statements.{Statement, is, is_one_of, is_word, is_label_alone, unended, labels_in, body, has_keyword, has_one_of}
use Rattle.mm_model.specs.Statements.{symbols_in, second, typed, variables, labelled, label_missing, stray_token, can_stand}
use Rattle.model_laws.specs.StatementLaws.{statement_keywords, IsSound, AreSound, StatementsAreSound}
use Rattle.model_laws.proofs.Checked.{rules_fail, At, IsChecked, EachBefore, text_checked, last_first}
use Rattle.model_laws.proofs.Listed.{same_names}
use Rattle.model_laws.proofs.Symbols.{FloatKnown, float_known}
use Rattle.model_laws.proofs.Shapes.{taken-front, parts, AreWords, Stops, shape, at_split, LabelIsNew, label_is_new, FloatIsNew, float_is_new}

few : (e : List Statement) (ls : List Word) → LabelIsNew e ls → length ls ≤ 1
few e [] h = omega arith
few e (l ∷ []) h = omega arith
few e (l ∷ m ∷ ls) h = absurd h

alone_one : (ls : List Word) → is_label_alone ls ≡ true → length ls ≡ 1
alone_one [] h = absurd cc
alone_one (l ∷ []) h = refl
alone_one (l ∷ m ∷ ls) h = absurd cc

no_not : (b : Bool) → not b ≡ false → b ≡ true
no_not true h = refl
no_not false h = absurd cc

-- a keyword that wants a label has one
label_there : (e : List Statement) (ls : List Word) (kw : Word) (after : List Word) → At e ls kw after → is_one_of labelled kw ≡ true → length ls ≡ 1
label_there e ls kw after a h =
    let missing : label_missing a.before kw after ≡ false = (rules_fail a.before kw after a.no_rule).1.1.1.1.1.1.1.1.0 in
    let alone : not (is_label_alone (unended a.before)) ≡ false = rw h at missing in
    alone_one ls (ap is_label_alone (sym a.unended_is) ∙ no_not (is_label_alone (unended a.before)) alone)

labels_are : (s : Statement) (k : List ℕ) (h : has_keyword k s ≡ true) → labels_in s ≡ (shape s k h).ls
labels_are s k h = let sh = shape s k h in ap labels_in sh.whole ∙ taken-front is_word sh.ls (sh.kw ∷ (sh.us ++ sh.tail)) sh.labels_pass sh.keyword_stops

pub has_label : (e : List Statement) (s : Statement) → IsChecked e s → (k : List ℕ) → list_any (bytes_eq k) labelled ≡ true → has_keyword k s ≡ true → length (labels_in s) ≡ 1
has_label e s c k listed_ h =
    let sh = shape s k h in
    let at = at_split e s sh.ls sh.kw (sh.us ++ sh.tail) c sh.whole in
    let is_k : sh.kw.bytes ≡ k = (bytes_eq-Decides sh.kw.bytes k).0 (sym (sh.keyword_is k) ∙ h) in
    ap (λ (ws : List Word). length ws) (labels_are s k h) ∙ label_there e sh.ls sh.kw _ at (ap (λ (bs : List ℕ). list_any (bytes_eq bs) labelled) is_k ∙ listed_)

new_float : (e : List Statement) (ns : List Name) → FloatIsNew e ns → (v : Name) → contains (second ns) v ≡ true → contains (typed e) v ≡ false
new_float e [] f v h = absurd cc
new_float e (a ∷ []) f v h = absurd cc
new_float e (a ∷ w ∷ []) f v h = elim (cases_Bool (bytes_eq v w)) [
  | inl d ↦ ap (contains (typed e)) (same_names v w d) ∙ f
  | inr d ↦ let bad : false ≡ true = rw d at h in absurd cc
]
new_float e (a ∷ w ∷ x ∷ ns) f v h = absurd f

float_is_variable : (e : List Statement) (ns : List Name) → FloatKnown e ns → (v : Name) → contains (second ns) v ≡ true → contains (variables e) v ≡ true
float_is_variable e [] f v h = absurd cc
float_is_variable e (a ∷ []) f v h = absurd cc
float_is_variable e (a ∷ w ∷ ns) f v h = elim (cases_Bool (bytes_eq v w)) [
  | inl d ↦ ap (contains (variables e)) (same_names v w d) ∙ f.1
  | inr d ↦ let bad : false ≡ true = rw d at h in absurd cc
]

-- ---- a keyword at which no rule holds can stand

either : (a b : Bool) → b ≡ true → (a || b) ≡ true
either true b h = refl
either false b h = h

first_five : (kw : Word) → is_one_of (codes "$c" ∷ codes "$v" ∷ codes "$d" ∷ codes "${" ∷ codes "$}" ∷ []) kw ≡ true → is_one_of statement_keywords kw ≡ true
first_five kw h = go (is (codes "$c") kw) (is (codes "$v") kw) (is (codes "$d") kw) (is (codes "${") kw) (is (codes "$}") kw) (is_one_of labelled kw) h
  where
    go : (a b c d e f : Bool) → (a || (b || (c || (d || (e || false))))) ≡ true → (a || (b || (c || (d || (e || f))))) ≡ true
    go true b c d e f h = refl
    go false true c d e f h = refl
    go false false true d e f h = refl
    go false false false true e f h = refl
    go false false false false true f h = refl
    go false false false false false f h = absurd cc

last_four : (kw : Word) → is_one_of labelled kw ≡ true → is_one_of statement_keywords kw ≡ true
last_four kw h =
    either (is (codes "$c") kw) _ (either (is (codes "$v") kw) _ (either (is (codes "$d") kw) _ (either (is (codes "${") kw) _ (either (is (codes "$}") kw) _ h))))

can_by : (before ls : List Word) (kw : Word) → unended before ≡ ls → length ls ≤ 1 → AreWords ls → can_stand before kw ≡ true → is_one_of statement_keywords kw ≡ true
can_by before [] kw u few words h = let five : is_one_of (codes "$c" ∷ codes "$v" ∷ codes "$d" ∷ codes "${" ∷ codes "$}" ∷ []) kw ≡ true = rw u at h in first_five kw five
can_by before (l ∷ []) kw u few words h = let four : is_one_of labelled kw ≡ true = rw (u, words.0) at h in last_four kw four
can_by before (l ∷ m ∷ ls) kw u few words h = let bad : ⊥ = omega (arith, few) in absurd bad

keyword_stands : (e : List Statement) (ls : List Word) (kw : Word) (after : List Word) → At e ls kw after → is_word kw ≡ false → length ls ≤ 1 → AreWords ls → is_one_of statement_keywords kw ≡ true
keyword_stands e ls kw after a stop few words =
    let stray : stray_token a.before kw after ≡ false = (rules_fail a.before kw after a.no_rule).1.1.1.1.1.1.1.1.1.1.1.1.1.1.1.1.1.0 in
    let can : not (can_stand a.before kw) ≡ false = rw stop at stray in
    can_by a.before ls kw a.unended_is few words (no_not (can_stand a.before kw) can)

without : (e : List Statement) (s : Statement) (ls rest : List Word) → IsChecked e s → s ≡ ls ++ rest → length ls ≤ 1 → AreWords ls
    → Stops is_word rest → body s ≡ rest → has_one_of statement_keywords s ≡ false → symbols_in s ≡ []
without e s ls [] c whole few words stop is_body none = ap (λ (ws : List Word). map (λ (w : Word). w.bytes) (take_while is_word (drop 1 ws))) is_body
without e s ls (kw ∷ more) c whole few words stop is_body none =
    let stands = keyword_stands e ls kw (more ++ c.after) (at_split e s ls kw more c whole) stop few words in
    let has : has_one_of statement_keywords s ≡ true = ap (λ (ws : List Word). list_any (is_one_of statement_keywords) (take 1 ws)) is_body ∙ either' (is_one_of statement_keywords kw) stands in
    let bad : false ≡ true = sym none ∙ has in
    absurd cc
  where
    either' : (b : Bool) → b ≡ true → (b || false) ≡ true
    either' true h = refl
    either' false h = absurd cc

sound : (e : List Statement) (s : Statement) → IsChecked e s → IsSound e s
sound e s c =
    let p = parts is_word s in
    let least = few e (labels_in s) (label_is_new e s c) in
    record {
      one_label = least;
      has_label = has_label e s c;
      new_float = λ v h stands. new_float e (symbols_in s) (float_is_new e s c h) v stands;
      float_is_variable = λ v h stands. float_is_variable e (symbols_in s) (float_known e s c h) v stands;
      has_keyword_or_none = λ none. without e s p.front p.rest c p.whole (subst (λ (ws : List Word). length ws ≤ 1) p.taken least) p.pass p.stop p.dropped none;
    }

all_sound : (e : List Statement) → EachBefore IsChecked e → AreSound e
all_sound [] h = tt
all_sound (s ∷ e) h = (sound e s h.0, all_sound e h.1)

pub sound_statements : StatementsAreSound
sound_statements text ok = subst AreSound (sym (reverse-reverse (last_first text))) (all_sound (last_first text) (text_checked text ok))
