-- The words of a text with a theorem in it: they have no fault, and nothing is open behind them.
use Rattle.std.proofs.Common.{◌≡◌, ◌<◌, ◌≤◌, ◌+◌, ℕ, zero, suc, Bool, true, false, not, ◌&&◌, ◌||◌, ◌==◌, cond, List, [], ◌∷◌, ◌++◌, length, take, drop, reverse}
use Rattle.std.proofs.Common.{None, Some, Option, option_map, refl, sym, ap, ◌∙◌, subst, inl, inr, codes, append_assoc, flat_map, arith, length-append}
use mathlib.Core.List.{reverse_aux}
use Rattle.std.specs.List.{AllByRecursion, list_any, slice_index_or, last_or}
use Rattle.std.specs.Option.{option_map_or}
use Rattle.std.specs.Str.{bytes_eq}
use Rattle.std.proofs.lemmas.Bool.{cases_Bool}
use Rattle.std.proofs.lemmas.List.{append-nil, map-append, take-append-drop}
use Rattle.std.proofs.lemmas.Slice.Eq.{bytes_eq-Decides}
use Rattle.mm_model.specs.Faults.{Fault, fault, or_else, first_fault}
use Rattle.mm_model.specs.Names.{Name}
use Rattle.mm_model.specs.Words.{Word, words}
use Rattle.mm_model.specs.Tokens.{tokens, in_comment, word_rules, words_fault, open_comment, keywords, comment_in_comment, bad_keyword}
use Rattle.mm_model.specs.Statements.{Statement, unended, ends_statement, statements}
use Rattle.mm_model.proofs.Lists.{unended-on, unended-end}
use Rattle.model_laws.proofs.Checked.{or_else_none}
use Rattle.sheet_text.specs.Layout.{ended}
use Rattle.install_model.specs.declared.install.NewTheorem.{NewTheorem}
use Rattle.install_model.specs.Installed.{byte_behind, place_byte, pair_line, hyp_line, theorem_line, block, installed}
use Rattle.install_laws.specs.InstalledStatements.{names, HasNoDollar, IsPlain, IsPlainTheorem}
use Rattle.install_laws.proofs.Forward.{split, statements_forward}
use Rattle.install_laws.proofs.WordLaws.{names_in, names_dollar, plain_dollar}
use Rattle.install_laws.proofs.WordCuts.{cut}
use Rattle.install_laws.proofs.StatementCuts.{opens, closes, ends, tokens_among, split_names, statements_among, cut_behind, apart, tokens_are}
use Rattle.install_laws.proofs.StatementsLaw.{pair_words, hyp_words, theorem_words, block_opened, close, close_words, dollars, parted, at_byte}

-- ---- comments

-- whether a comment is open behind a word
abbrev pub step : Bool → Name → Bool
step c n = cond (opens n) true (cond (closes n) false c)

-- and behind some words
abbrev pub opened : Bool → List Name → Bool
opened c [] = c
opened c (n ∷ ns) = opened (step c n) ns

abbrev pub is_bad_name : Name → Bool
is_bad_name n = list_any (λ b. b == 36) n && not (list_any (bytes_eq n) keywords)

-- no rule of words holds
abbrev pub Fine : Bool → List Name → Type 0
Fine c [] = Unit {0}
Fine c (n ∷ ns) = (((c && opens n) ≡ false) × ((not c && (closes n || is_bad_name n)) ≡ false)) × Fine (step c n) ns

none_of_two : {X Y Z : Type 0} (f : Y → Z) (g : X → Y) (a b : Bool) (x y : X) → option_map f (option_map g (cond a (Some x) (cond b (Some y) None))) ≡ None → (a ≡ false) × (b ≡ false)
none_of_two f g true b x y h = absurd cc
none_of_two f g false true x y h = absurd cc
none_of_two f g false false x y h = (refl, refl)

abbrev fault_from : List Word → List Word → Option Fault
fault_from before ws = first_fault (λ (b : List Word) (w : Word). w.start) word_rules before ws

fine_words : (before ws : List Word) → fault_from before ws ≡ None → Fine (in_comment before) (names ws)
fine_words before [] h = tt
fine_words before (w ∷ ws) h =
    let both = or_else_none _ (fault_from (w ∷ before) ws) h in (
      none_of_two (λ (code : ℕ). fault w.start code) (λ (r : ℕ × (List Word → Word → Bool)). r.0) (comment_in_comment before w) (bad_keyword before w) (3, comment_in_comment) (4, bad_keyword) both.0,
      fine_words (w ∷ before) ws both.1,
    )

words_fine : (before ws : List Word) → Fine (in_comment before) (names ws) → fault_from before ws ≡ None
words_fine before [] h = refl
words_fine before (w ∷ ws) h = rw (h.0.0, h.0.1) (words_fine (w ∷ before) ws h.1)

in_comment_forward : (ws before : List Word) → in_comment (reverse_aux ws before) ≡ opened (in_comment before) (names ws)
in_comment_forward [] before = refl
in_comment_forward (w ∷ ws) before = in_comment_forward ws (w ∷ before)

-- the words of a text have no fault
pub record AreFine (ns : List Name) : Type 0 where
  pub fine : Fine false ns
  pub closed : opened false ns ≡ false

open_none : (b : Bool) (f : Fault) → cond b (Some f) None ≡ None → b ≡ false
open_none true f h = absurd cc
open_none false f h = refl

pub are_fine : (text : List ℕ) → words_fault text ≡ None → AreFine (names_in text)
are_fine text h =
    let both = or_else_none (fault_from [] (words text)) (open_comment text) h in
    record { fine = fine_words [] (words text) both.0; closed = sym (in_comment_forward (words text) []) ∙ open_none (in_comment (reverse (words text))) (fault (length text) 2) both.1 }

pub no_words_fault : (text : List ℕ) → AreFine (names_in text) → words_fault text ≡ None
no_words_fault text a =
    ap (λ o. or_else o (open_comment text)) (words_fine [] (words text) a.fine)
    ∙ ap (λ b. cond b (Some (fault (length text) 2)) None) (in_comment_forward (words text) [] ∙ a.closed)

-- ---- words in two parts

opened_append : (c : Bool) (xs ys : List Name) → opened c (xs ++ ys) ≡ opened (opened c xs) ys
opened_append c [] ys = refl
opened_append c (x ∷ xs) ys = opened_append (step c x) xs ys

fine_parts : (c : Bool) (xs ys : List Name) → Fine c (xs ++ ys) → Fine c xs × Fine (opened c xs) ys
fine_parts c [] ys h = (tt, h)
fine_parts c (x ∷ xs) ys h = let r = fine_parts (step c x) xs ys h.1 in ((h.0, r.0), r.1)

fine_join : (c : Bool) (xs ys : List Name) → Fine c xs → Fine (opened c xs) ys → Fine c (xs ++ ys)
fine_join c [] ys h k = k
fine_join c (x ∷ xs) ys h k = (h.0, fine_join (step c x) xs ys h.1 k)

-- a word that opens and closes nothing, and is a keyword or has no `$`
abbrev Calm : Name → Type 0
Calm n = (opens n ≡ false) × (closes n ≡ false) × (is_bad_name n ≡ false)

calm_opened : (ns : List Name) → AllByRecursion Calm ns → opened false ns ≡ false
calm_opened [] h = refl
calm_opened (n ∷ ns) h = ap (λ c. opened c ns) (step_same h.0.0 h.0.1) ∙ calm_opened ns h.1
  where
    step_same : opens n ≡ false → closes n ≡ false → step false n ≡ false
    step_same a b = rw (a, b) refl

calm_fine : (ns : List Name) → AllByRecursion Calm ns → Fine false ns
calm_fine [] h = tt
calm_fine (n ∷ ns) h = ((refl, bad h.0.1 h.0.2), subst (λ c. Fine c ns) (sym (step_same h.0.0 h.0.1)) (calm_fine ns h.1))
  where
    bad : closes n ≡ false → is_bad_name n ≡ false → (closes n || is_bad_name n) ≡ false
    bad a b = ap (λ c. c || is_bad_name n) a ∙ b

    step_same : opens n ≡ false → closes n ≡ false → step false n ≡ false
    step_same a b = rw (a, b) refl

-- ---- tokens

step_true : (n : Name) → step true n ≡ not (closes n)
step_true n = elim (cases_Bool (opens n)) [
  | inl o ↦ let same : n ≡ codes "$(" = (bytes_eq-Decides n (codes "$(")).0 o in subst (λ m. step true m ≡ not (closes m)) (sym same) refl
  | inr o ↦ rw o (by (closes n))
]
  where
    by : (b : Bool) → cond b false true ≡ not b
    by true = refl
    by false = refl

tokens_append : (c : Bool) (xs ys : List Name) → tokens_among c (xs ++ ys) ≡ tokens_among c xs ++ tokens_among (opened c xs) ys
tokens_append true [] ys = refl
tokens_append false [] ys = refl
tokens_append true (x ∷ xs) ys =
    tokens_append (not (closes x)) xs ys
    ∙ ap (λ c. tokens_among (not (closes x)) xs ++ tokens_among (opened c xs) ys) (sym (step_true x))
tokens_append false (x ∷ xs) ys = elim (cases_Bool (opens x)) [
  | inl o ↦ rw o (tokens_append true xs ys)
  | inr o ↦
      let same : step false x ≡ false = rw o (by (closes x)) in
      rw o (ap (λ ts. x ∷ ts) (tokens_append false xs ys) ∙ ap (λ c. x ∷ (tokens_among false xs ++ tokens_among (opened c xs) ys)) (by' (closes x)))
]
  where
    by : (b : Bool) → cond b false false ≡ false
    by true = refl
    by false = refl

    by' : (b : Bool) → false ≡ cond b false false
    by' true = refl
    by' false = refl

-- what is left behind the last statement
abbrev pub left : List Name → List Name → List Name
left f [] = f
left f (n ∷ ns) = cond (ends n) (left [] ns) (left (f ++ n ∷ []) ns)

left_append : (f xs ys : List Name) → left f (xs ++ ys) ≡ left (left f xs) ys
left_append f [] ys = refl
left_append f (x ∷ xs) ys = by (ends x) (left_append [] xs ys) (left_append (f ++ x ∷ []) xs ys)
  where
    by : (b : Bool) → left [] (xs ++ ys) ≡ left (left [] xs) ys → left (f ++ x ∷ []) (xs ++ ys) ≡ left (left (f ++ x ∷ []) xs) ys
        → cond b (left [] (xs ++ ys)) (left (f ++ x ∷ []) (xs ++ ys)) ≡ left (cond b (left [] xs) (left (f ++ x ∷ []) xs)) ys
    by true h k = h
    by false h k = k

left_is : (ws before : List Word) → names (unended (reverse_aux ws before)) ≡ left (names (unended before)) (names ws)
left_is [] before = refl
left_is (w ∷ ws) before = left_is ws (w ∷ before) ∙ elim (cases_Bool (ends_statement w)) [
  | inl e ↦ ap (λ u. left (names u) (names ws)) (unended-end w before e) ∙ sym (then_is e)
  | inr e ↦
      ap (λ u. left (names u) (names ws)) (unended-on w before e)
      ∙ ap (λ u. left u (names ws)) (map-append (λ (v : Word). v.bytes) (unended before) (w ∷ [])) ∙ sym (else_is e)
]
  where
    then_is : ends w.bytes ≡ true → left (names (unended before)) (w.bytes ∷ names ws) ≡ left [] (names ws)
    then_is e = ap (λ b. cond b (left [] (names ws)) (left (names (unended before) ++ w.bytes ∷ []) (names ws))) e

    else_is : ends w.bytes ≡ false → left (names (unended before)) (w.bytes ∷ names ws) ≡ left (names (unended before) ++ w.bytes ∷ []) (names ws)
    else_is e = ap (λ b. cond b (left [] (names ws)) (left (names (unended before) ++ w.bytes ∷ []) (names ws))) e

pub left_of_text : (text : List ℕ) → names (unended (reverse (tokens text))) ≡ left [] (tokens_among false (names_in text))
left_of_text text = left_is (tokens text) [] ∙ ap (left []) (tokens_are false (words text))

-- a `$.` behind words tells what is left
abbrev dot : List Name
dot = codes "$." ∷ []

with_dot : (f ns : List Name) → split_names f (ns ++ dot) ≡ split_names f ns ++ (left f ns ++ dot) ∷ []
with_dot f [] = refl
with_dot f (n ∷ ns) = by (ends n) (with_dot [] ns) (with_dot (f ++ n ∷ []) ns)
  where
    by : (b : Bool) → split_names [] (ns ++ dot) ≡ split_names [] ns ++ (left [] ns ++ dot) ∷ []
        → split_names (f ++ n ∷ []) (ns ++ dot) ≡ split_names (f ++ n ∷ []) ns ++ (left (f ++ n ∷ []) ns ++ dot) ∷ []
        → cond b ((f ++ n ∷ []) ∷ split_names [] (ns ++ dot)) (split_names (f ++ n ∷ []) (ns ++ dot))
        ≡ cond b ((f ++ n ∷ []) ∷ split_names [] ns) (split_names (f ++ n ∷ []) ns) ++ (cond b (left [] ns) (left (f ++ n ∷ []) ns) ++ dot) ∷ []
    by true h k = ap (λ ss. (f ++ n ∷ []) ∷ ss) h
    by false h k = k

-- ---- a text is parted at a place

-- words behind which no comment and no statement is open
pub record AreWhole (ns : List Name) : Type 0 where
  pub closed : opened false ns ≡ false
  pub none_left : left [] (tokens_among false ns) ≡ []

append_same : {X : Type 0} (xs ys zs : List X) → xs ++ ys ≡ xs ++ zs → ys ≡ zs
append_same [] ys zs h = h
append_same (x ∷ xs) ys zs h = append_same xs ys zs (ap (λ ws. drop 1 ws) h)

-- the words of a front, behind which other words make statements of their own
whole_front : (ps : List Name) (ss : List (List Name)) → ((ns : List Name) → statements_among [] (ps ++ ns) ≡ ss ++ statements_among [] ns) → AreWhole ps
whole_front ps ss more = by (opened false ps) refl
  where
    alone : split_names [] (tokens_among false ps) ≡ ss
    alone = ap (statements_among []) (sym (append-nil ps)) ∙ more [] ∙ append-nil ss

    dotted : split_names [] (tokens_among false ps ++ tokens_among (opened false ps) dot) ≡ ss ++ dot ∷ []
    dotted = ap (split_names []) (sym (tokens_append false ps dot)) ∙ more dot

    by : (c : Bool) → opened false ps ≡ c → AreWhole ps
    by true o =
        let same : ss ≡ ss ++ dot ∷ [] =
        sym alone ∙ ap (split_names []) (sym (append-nil (tokens_among false ps))) ∙ ap (λ c. split_names [] (tokens_among false ps ++ tokens_among c dot)) (sym o) ∙ dotted in
        let count : length ss ≡ length ss + 1 = ap length same ∙ length-append ss (dot ∷ []) in
        absurd (omega (arith, count))
    by false o =
        let same : ss ++ (left [] (tokens_among false ps) ++ dot) ∷ [] ≡ ss ++ dot ∷ [] =
        ap (λ xs. xs ++ (left [] (tokens_among false ps) ++ dot) ∷ []) (sym alone) ∙ sym (with_dot [] (tokens_among false ps))
        ∙ ap (λ c. split_names [] (tokens_among false ps ++ tokens_among c dot)) (sym o) ∙ dotted in
        let last : (left [] (tokens_among false ps) ++ dot) ∷ [] ≡ dot ∷ [] = append_same ss _ _ same in
        record { closed = o; none_left = alone_left (left [] (tokens_among false ps)) (ap (λ xs. slice_index_or xs 0 []) last) }
      where
        alone_left : (xs : List Name) → xs ++ dot ≡ dot → xs ≡ []
        alone_left [] h = refl
        alone_left (x ∷ xs) h =
            let count : suc (length xs + 1) ≡ 1 = sym (ap suc (length-append xs dot)) ∙ ap length h in
            absurd (omega (arith, count))

-- where a text is parted at a place: the byte, and the words before it and behind it
pub record At (text : List ℕ) (place : ℕ) : Type 0 where
  pub byte : ℕ
  pub byte_is : place_byte (statements text) place ≡ byte
  pub before : List Name
  pub after : List Name
  pub taken : names_in (take byte text) ≡ before
  pub dropped : names_in (drop byte text) ≡ after
  pub both : names_in text ≡ before ++ after
  pub whole : AreWhole before

pub at_place : (text : List ℕ) (place : ℕ) → place ≤ length (statements text) → At text place
at_place text zero l = record { byte = 0; byte_is = refl; before = []; after = names_in text; taken = refl; dropped = refl; both = refl; whole = record { closed = refl; none_left = refl } }
at_place text (suc n) l =
    let many : n < length (split [] (tokens text)) = let e = ap length (statements_forward text) in omega (arith, l, e) in
    let k = cut_behind false [] n (words text) many in
    let c = cut text 0 k.at k.within in
    let parts = parted text k.at k.within c in
    record {
      byte = c.count;
      byte_is = ap (λ (xs : List Statement). option_map_or byte_behind (last_or None (slice_index_or xs n [])) 0) (statements_forward text) ∙ k.byte ∙ c.byte ∙ zero_and c.count;
      before = take (suc k.at) (names_in text);
      after = drop (suc k.at) (names_in text);
      taken = parts.before;
      dropped = parts.after;
      both = sym (take-append-drop (suc k.at) (names_in text));
      whole = whole_front (take (suc k.at) (names_in text)) (take (suc n) (statements_among [] (names_in text))) k.more;
    }
  where
    zero_and : (m : ℕ) → 0 + m ≡ m
    zero_and m = omega arith

-- ---- the words of the block

calm_plain : (n : Name) → HasNoDollar n → Calm n
calm_plain n h = (apart n (codes "$(") h refl, apart n (codes "$)") h refl, rw h refl)

all_calm : (ns : List Name) → AllByRecursion HasNoDollar ns → AllByRecursion Calm ns
all_calm [] h = tt
all_calm (n ∷ ns) h = (calm_plain n h.0, all_calm ns h.1)

calm_join : (xs ys : List Name) → AllByRecursion Calm xs → AllByRecursion Calm ys → AllByRecursion Calm (xs ++ ys)
calm_join [] ys h k = k
calm_join (x ∷ xs) ys h k = (h.0, calm_join xs ys h.1 k)

abbrev AllCalm : List Name → Type 0
AllCalm ns = AllByRecursion Calm ns

abbrev pair_names : Name × Name → List Name
pair_names p = codes "$d" ∷ p.0 ∷ p.1 ∷ codes "$." ∷ []

abbrev hyp_names : Name × List Name → List Name
hyp_names h = h.0 ∷ codes "$e" ∷ (h.1 ++ codes "$." ∷ [])

abbrev theorem_names : NewTheorem → List Name
theorem_names t = t.name ∷ codes "$p" ∷ (t.formula ++ codes "$=" ∷ (names_in t.proof ++ codes "$." ∷ []))

abbrev block_names : NewTheorem → List Name
block_names t = codes "${" ∷ (flat_map pair_names t.pairs ++ (flat_map hyp_names t.hyps ++ (theorem_names t ++ codes "$}" ∷ [])))

-- lines, one behind the other
module _ {X : Type 0} (P : X → Type 0) (line : X → List ℕ) (line_names : X → List Name)
    (put : (x : X) (more : List ℕ) → P x → names_in (line x ++ more) ≡ line_names x ++ names_in more) where
  lines_names : (xs : List X) (more : List ℕ) → AllByRecursion P xs → names_in (flat_map line xs ++ more) ≡ flat_map line_names xs ++ names_in more
  lines_names [] more h = refl
  lines_names (x ∷ xs) more h =
      ap names_in (append_assoc (line x) (flat_map line xs) more) ∙ put x (flat_map line xs ++ more) h.0
      ∙ ap (λ ns. line_names x ++ ns) (lines_names xs more h.1) ∙ sym (append_assoc (line_names x) (flat_map line_names xs) (names_in more))

hyp_is : (h : Name × List Name) (more : List ℕ) → IsPlain h.0 × AllByRecursion IsPlain h.1 → names_in (ended (hyp_line h) ++ more) ≡ hyp_names h ++ names_in more
hyp_is h more p = hyp_words h more p ∙ ap (λ ns. h.0 ∷ codes "$e" ∷ ns) (sym (append_assoc h.1 (codes "$." ∷ []) (names_in more)))

theorem_is : (t : NewTheorem) (more : List ℕ) → IsPlainTheorem t → names_in (ended (theorem_line t) ++ more) ≡ theorem_names t ++ names_in more
theorem_is t more p = theorem_words t more p ∙ ap (λ ns. t.name ∷ codes "$p" ∷ ns) (by t.formula (names_in t.proof) (names_in more))
  where
    by : (a b c : List Name) → a ++ codes "$=" ∷ (b ++ codes "$." ∷ c) ≡ (a ++ codes "$=" ∷ (b ++ codes "$." ∷ [])) ++ c
    by a b c = sym (append_assoc a (codes "$=" ∷ (b ++ codes "$." ∷ [])) c ∙ ap (λ ns. a ++ codes "$=" ∷ ns) (append_assoc b (codes "$." ∷ []) c))

block_words : (t : NewTheorem) (more : List ℕ) → IsPlainTheorem t → names_in (block t ++ more) ≡ block_names t ++ names_in more
block_words t more p =
    let hyps : List ℕ = flat_map (λ h. ended (hyp_line h)) t.hyps in
    let theorem : List ℕ = ended (theorem_line t) in
    block_opened t more
    ∙ ap (λ ns. codes "${" ∷ ns)
    (lines_names (λ (q : Name × Name). IsPlain q.0 × IsPlain q.1) (λ q. ended (pair_line q)) pair_names pair_words t.pairs (hyps ++ (theorem ++ close more)) p.pairs
    ∙ ap (λ ns. flat_map pair_names t.pairs ++ ns)
    (lines_names (λ (h : Name × List Name). IsPlain h.0 × AllByRecursion IsPlain h.1) (λ h. ended (hyp_line h)) hyp_names hyp_is t.hyps (theorem ++ close more) p.hyps
    ∙ ap (λ ns. flat_map hyp_names t.hyps ++ ns) (theorem_is t (close more) p ∙ ap (λ ns. theorem_names t ++ ns) (close_words more)))
    ∙ joined (flat_map pair_names t.pairs) (flat_map hyp_names t.hyps) (theorem_names t) (names_in more))
  where
    joined : (a b c d : List Name) → a ++ (b ++ (c ++ codes "$}" ∷ d)) ≡ (a ++ (b ++ (c ++ codes "$}" ∷ []))) ++ d
    joined a b c d =
        sym (append_assoc a (b ++ (c ++ codes "$}" ∷ [])) d
        ∙ ap (λ ns. a ++ ns) (append_assoc b (c ++ codes "$}" ∷ []) d ∙ ap (λ ns. b ++ ns) (append_assoc c (codes "$}" ∷ []) d)))

lines_calm : {X : Type 0} (P : X → Type 0) (line_names : X → List Name) → ((x : X) → P x → AllByRecursion Calm (line_names x)) → (xs : List X) → AllByRecursion P xs
    → AllByRecursion Calm (flat_map line_names xs)
lines_calm P line_names calm [] h = tt
lines_calm P line_names calm (x ∷ xs) h = calm_join (line_names x) (flat_map line_names xs) (calm x h.0) (lines_calm P line_names calm xs h.1)

block_calm : (t : NewTheorem) → IsPlainTheorem t → AllByRecursion Calm (block_names t)
block_calm t p = (
  (refl, refl, refl),
  calm_join (flat_map pair_names t.pairs) _
      (lines_calm (λ (q : Name × Name). IsPlain q.0 × IsPlain q.1) pair_names
      (λ q h. ((refl, refl, refl), (calm_plain q.0 (plain_dollar q.0 h.0), (calm_plain q.1 (plain_dollar q.1 h.1), ((refl, refl, refl), tt))))) t.pairs p.pairs)
      (calm_join (flat_map hyp_names t.hyps) _
      (lines_calm (λ (h : Name × List Name). IsPlain h.0 × AllByRecursion IsPlain h.1) hyp_names
      (λ h k. (calm_plain h.0 (plain_dollar h.0 k.0), ((refl, refl, refl), calm_join h.1 (codes "$." ∷ []) (all_calm h.1 (dollars h.1 k.1)) ((refl, refl, refl), tt)))) t.hyps p.hyps)
      (calm_join (theorem_names t) (codes "$}" ∷ []) (
        calm_plain t.name (plain_dollar t.name p.name),
        (
          (refl, refl, refl),
          calm_join t.formula _ (all_calm t.formula (dollars t.formula p.formula))
              ((refl, refl, refl), calm_join (names_in t.proof) (codes "$." ∷ []) (all_calm (names_in t.proof) (names_dollar t.proof p.proof)) ((refl, refl, refl), tt)),
        ),
      )
      ((refl, refl, refl), tt))),
)

calm_tokens : (ns : List Name) → AllByRecursion Calm ns → tokens_among false ns ≡ ns
calm_tokens [] h = refl
calm_tokens (n ∷ ns) h = let one = h.0.0 in rw one (ap (λ ts. n ∷ ts) (calm_tokens ns h.1))

block_whole : (t : NewTheorem) → IsPlainTheorem t → AreWhole (block_names t)
block_whole t p = record {
  closed = calm_opened (block_names t) (block_calm t p);
  none_left = ap (left []) (calm_tokens (block_names t) (block_calm t p)) ∙ by (flat_map pair_names t.pairs) (flat_map hyp_names t.hyps) (theorem_names t);
}
  where
    by : (a b c : List Name) → left [] (codes "${" ∷ (a ++ (b ++ (c ++ codes "$}" ∷ [])))) ≡ []
    by a b c = left_append [] a (b ++ (c ++ codes "$}" ∷ [])) ∙ left_append (left [] a) b (c ++ codes "$}" ∷ []) ∙ left_append (left (left [] a) b) c (codes "$}" ∷ [])

-- ---- the text with the theorem

whole_join : (xs ys : List Name) → AreWhole xs → opened false (xs ++ ys) ≡ opened false ys
whole_join xs ys a = opened_append false xs ys ∙ ap (λ c. opened c ys) a.closed

whole_left : (xs ys : List Name) → AreWhole xs → left [] (tokens_among false (xs ++ ys)) ≡ left [] (tokens_among false ys)
whole_left xs ys a =
    ap (left []) (tokens_append false xs ys) ∙ ap (λ c. left [] (tokens_among false xs ++ tokens_among c ys)) a.closed
    ∙ left_append [] (tokens_among false xs) (tokens_among false ys) ∙ ap (λ f. left f (tokens_among false ys)) a.none_left

module _ (text : List ℕ) (place : ℕ) (t : NewTheorem) (within : place ≤ length (statements text)) (plain : IsPlainTheorem t) where
  abbrev here : At text place
  here = at_place text place within

  names_new : names_in (installed text place t) ≡ here.before ++ (block_names t ++ here.after)
  names_new =
      ap (λ m. names_in (take m text ++ block t ++ drop m text)) here.byte_is ∙ at_byte text here.byte t
      ∙ ap (λ ns. ns ++ names_in (block t ++ drop here.byte text)) here.taken
      ∙ ap (λ ns. here.before ++ ns) (block_words t (drop here.byte text) plain ∙ ap (λ ns. block_names t ++ ns) here.dropped)

  pub fine_new : AreFine (names_in text) → AreFine (names_in (installed text place t))
  fine_new a =
      let parts = fine_parts false here.before here.after (subst (Fine false) here.both a.fine) in
      let behind : Fine false here.after = subst (λ c. Fine c here.after) here.whole.closed parts.1 in
      let block_behind : Fine false (block_names t ++ here.after) =
      fine_join false (block_names t) here.after (calm_fine (block_names t) (block_calm t plain)) (subst (λ c. Fine c here.after) (sym (block_whole t plain).closed) behind) in
      record {
        fine =
            subst (Fine false) (sym names_new)
            (fine_join false here.before (block_names t ++ here.after) parts.0 (subst (λ c. Fine c (block_names t ++ here.after)) (sym here.whole.closed) block_behind));
        closed =
            ap (opened false) names_new ∙ whole_join here.before (block_names t ++ here.after) here.whole ∙ whole_join (block_names t) here.after (block_whole t plain)
            ∙ sym (whole_join here.before here.after here.whole) ∙ ap (opened false) (sym here.both) ∙ a.closed;
      }

  -- the same is left behind the last statement
  pub left_new : names (unended (reverse (tokens (installed text place t)))) ≡ names (unended (reverse (tokens text)))
  left_new =
      left_of_text (installed text place t) ∙ ap (λ ns. left [] (tokens_among false ns)) names_new
      ∙ whole_left here.before (block_names t ++ here.after) here.whole ∙ whole_left (block_names t) here.after (block_whole t plain)
      ∙ sym (whole_left here.before here.after here.whole) ∙ ap (λ ns. left [] (tokens_among false ns)) (sym here.both) ∙ sym (left_of_text text)
