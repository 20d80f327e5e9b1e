-- Each old label has the frame that it had, up to its position and its label's number.
use Rattle.std.proofs.Common.{◌≡◌, ◌≤◌, ◌<◌, ℕ, suc, ◌+◌, ◌-◌, Bool, true, false, cond, List, [], ◌∷◌, ◌++◌, length, take, drop, map}
use Rattle.std.proofs.Common.{flat_map, Option, Some, None, option_map, refl, sym, ap, ◌∙◌, arith, inl, inr, codes, append_assoc}
use Rattle.std.proofs.Common.{length-append}
use Rattle.std.specs.Prelude.{nat_lt, position, slice_get, option_and_then}
use Rattle.std.specs.List.{AllByRecursion, take-map, drop-map}
use Rattle.std.specs.Str.{bytes_eq}
use Rattle.std.proofs.lemmas.Bool.{cases_Bool}
use Rattle.std.proofs.lemmas.Bool.Decides.{nat_tests}
use Rattle.std.proofs.lemmas.Grind.{flat_map-append}
use Rattle.std.proofs.lemmas.List.{length-map, map-append, take-append-drop}
use Rattle.std.proofs.lemmas.Option.{slice_get-map}
use Rattle.std.proofs.lemmas.Slice.Eq.{bytes_eq-Decides}
use Rattle.mm_model.specs.declared.frames.Frame.{Frame}
use Rattle.mm_model.specs.Names.{Name, label, contains}
use Rattle.mm_model.specs.Words.{Word}
use Rattle.mm_model.specs.Statements.{Statement, statements, labels, labels_in}
use Rattle.mm_model.specs.Frames.{positions, positions_from, is_assertion, frame_at, frame_of}
use Rattle.proof_model.specs.DatabaseProofs.{frames_of_database}
use Rattle.install_model.specs.declared.install.NewTheorem.{NewTheorem}
use Rattle.install_model.specs.Installed.{installed}
use Rattle.install_model.specs.Moved.{block_statements, new_labels, labels_before, moved, moved_frame}
use Rattle.install_laws.specs.InstalledStatements.{names, tokens_of, IsPlainTheorem}
use Rattle.install_laws.specs.InstalledActive.{IsOutside}
use Rattle.install_laws.specs.InstalledDatabase.{FramesAreMoved}
use Rattle.install_laws.proofs.ActiveLaw.{new_is, counted}
use Rattle.install_laws.proofs.FrameLaw.{frames_stay_before, frames_stay_behind}
use Rattle.install_laws.proofs.MovedLists.{moved_low, moved_high, get_moved, position_moved, get_numbers}
use Rattle.install_laws.proofs.NamesLaw.{label_names, front_names, labels_by, block_labels, keyword_by, keyword_is, labels_are_put_in}

-- ---- positions by the bytes of tokens

abbrev pub numbers_from : ℕ → List (List Name) → List ℕ
numbers_from k [] = []
numbers_from k (ns ∷ rest) = map (λ n. k) (label_names ns) ++ numbers_from (suc k) rest

same_number : (k : ℕ) (ws : List Word) → map (λ w. k) ws ≡ map (λ n. k) (names ws)
same_number k [] = refl
same_number k (w ∷ ws) = ap (λ xs. k ∷ xs) (same_number k ws)

pub positions_by : (k : ℕ) (ss : List Statement) → positions_from k ss ≡ numbers_from k (tokens_of ss)
positions_by k [] = refl
positions_by k (s ∷ ss) =
    ap (λ xs. xs ++ positions_from (suc k) ss) (same_number k (labels_in s) ∙ ap (map (λ n. k)) (front_names s))
    ∙ ap (λ xs. map (λ n. k) (label_names (names s)) ++ xs) (positions_by (suc k) ss)

pub numbers_append : (k : ℕ) (a c : List (List Name)) → numbers_from k (a ++ c) ≡ numbers_from k a ++ numbers_from (k + length a) c
numbers_append k [] c = let same : k ≡ k + 0 = omega arith in ap (λ n. numbers_from n c) same
numbers_append k (s ∷ a) c =
    let same : suc k + length a ≡ k + suc (length a) = omega arith in
    ap (λ xs. map (λ n. k) (label_names s) ++ xs) (numbers_append (suc k) a c ∙ ap (λ n. numbers_from (suc k) a ++ numbers_from n c) same)
    ∙ sym (append_assoc (map (λ n. k) (label_names s)) (numbers_from (suc k) a) (numbers_from (k + suc (length a)) c))

const_map : (k j : ℕ) (ns : List Name) → map (λ n. k + j) ns ≡ map (λ i. i + j) (map (λ n. k) ns)
const_map k j [] = refl
const_map k j (n ∷ ns) = ap (λ xs. (k + j) ∷ xs) (const_map k j ns)

numbers_shift : (k j : ℕ) (rest : List (List Name)) → numbers_from (k + j) rest ≡ map (λ i. i + j) (numbers_from k rest)
numbers_shift k j [] = refl
numbers_shift k j (ns ∷ rest) =
    let same : suc (k + j) ≡ suc k + j = omega arith in
    ap (λ xs. xs ++ numbers_from (suc (k + j)) rest) (const_map k j (label_names ns))
    ∙ ap (λ xs. map (λ i. i + j) (map (λ n. k) (label_names ns)) ++ xs) (ap (λ n. numbers_from n rest) same ∙ numbers_shift (suc k) j rest)
    ∙ sym (map-append (λ i. i + j) (map (λ n. k) (label_names ns)) (numbers_from (suc k) rest))

all_append : (P : ℕ → Type 0) (xs ys : List ℕ) → AllByRecursion P xs → AllByRecursion P ys → AllByRecursion P (xs ++ ys)
all_append P [] ys h g = g
all_append P (x ∷ xs) ys h g = (h.0, all_append P xs ys h.1 g)

all_const : (P : ℕ → Type 0) (k : ℕ) → P k → (ns : List Name) → AllByRecursion P (map (λ n. k) ns)
all_const P k p [] = tt
all_const P k p (n ∷ ns) = (p, all_const P k p ns)

numbers_low : (bound k : ℕ) (a : List (List Name)) → k + length a ≤ bound → AllByRecursion (λ n. n < bound) (numbers_from k a)
numbers_low bound k [] h = tt
numbers_low bound k (s ∷ a) h =
    let here : k < bound = omega (arith, h) in let rest : suc k + length a ≤ bound = omega (arith, h) in
    all_append (λ n. n < bound) (map (λ n. k) (label_names s)) (numbers_from (suc k) a) (all_const (λ n. n < bound) k here (label_names s)) (numbers_low bound (suc k) a rest)

numbers_high : (bound k : ℕ) (a : List (List Name)) → bound ≤ k → AllByRecursion (λ n. bound ≤ n) (numbers_from k a)
numbers_high bound k [] h = tt
numbers_high bound k (s ∷ a) h =
    let later : bound ≤ suc k = omega (arith, h) in
    all_append (λ n. bound ≤ n) (map (λ n. k) (label_names s)) (numbers_from (suc k) a) (all_const (λ n. bound ≤ n) k h (label_names s)) (numbers_high bound (suc k) a later)

pub numbers_count : (k : ℕ) (a : List (List Name)) → length (numbers_from k a) ≡ length (flat_map label_names a)
numbers_count k [] = refl
numbers_count k (s ∷ a) =
    let one = length-append (map (λ n. k) (label_names s)) (numbers_from (suc k) a) in
    let two = length-map (label_names s) (λ (n : Name). k) in
    let three = numbers_count (suc k) a in
    let four = length-append (label_names s) (flat_map label_names a) in
    omega (arith, one, two, three, four)

-- a frame at another position
abbrev put_at : ℕ → Frame → Frame
put_at k f = record f { at = k }

-- ---- the text

module _ (text : List ℕ) (place : ℕ) (t : NewTheorem) (within : place ≤ length (statements text)) (plain : IsPlainTheorem t) where
  abbrev old : List Statement
  old = statements text

  abbrev new : List Statement
  new = statements (installed text place t)

  abbrev ts : List (List Name)
  ts = tokens_of (statements text)

  abbrev m : ℕ
  m = length (block_statements t)

  abbrev a : ℕ
  a = labels_before (statements text) place

  abbrev b : ℕ
  b = length (new_labels t)

  abbrev low : List ℕ
  low = numbers_from 0 (take place ts)

  abbrev inside : List ℕ
  inside = numbers_from place (block_statements t)

  abbrev high : List ℕ
  high = numbers_from place (drop place ts)

  pub front_count : length (take place ts) ≡ place
  front_count = counted text place t within plain

  pub new_tokens : tokens_of new ≡ take place ts ++ (block_statements t ++ drop place ts)
  new_tokens = new_is text place t within plain ∙ append_assoc (take place ts) (block_statements t) (drop place ts)

  from_place : (c : List (List Name)) → numbers_from (0 + length (take place ts)) c ≡ numbers_from place c
  from_place c = let same : 0 + length (take place ts) ≡ place = omega (arith, front_count) in ap (λ k. numbers_from k c) same

  old_positions : positions old ≡ low ++ high
  old_positions =
      positions_by 0 old ∙ ap (numbers_from 0) (sym (take-append-drop place ts)) ∙ numbers_append 0 (take place ts) (drop place ts)
      ∙ ap (λ xs. low ++ xs) (from_place (drop place ts))

  new_positions : positions new ≡ low ++ (inside ++ map (λ n. n + m) high)
  new_positions =
      positions_by 0 new ∙ ap (numbers_from 0) new_tokens ∙ numbers_append 0 (take place ts) (block_statements t ++ drop place ts)
      ∙ ap (λ xs. low ++ xs)
      (from_place (block_statements t ++ drop place ts) ∙ numbers_append place (block_statements t) (drop place ts)
      ∙ ap (λ xs. inside ++ xs) (numbers_shift place m (drop place ts)))

  low_count : length low ≡ a
  low_count = numbers_count 0 (take place ts) ∙ ap (λ xs. length (flat_map label_names xs)) (take-map names place old) ∙ ap length (sym (labels_by (take place old)))

  inside_count : length inside ≡ b
  inside_count = numbers_count place (block_statements t) ∙ ap length (block_labels t plain)

  pub position_is : (i : ℕ) → slice_get (positions new) (moved a b i) ≡ option_map (moved place m) (slice_get (positions old) i)
  position_is i =
      let in_front : 0 + length (take place ts) ≤ place = omega (arith, front_count) in
      let here : place ≤ place = omega arith in
      ap (λ xs. slice_get xs (moved a b i)) new_positions
      ∙ ap (λ k. slice_get (low ++ (inside ++ map (λ n. n + m) high)) (moved k b i)) (sym low_count)
      ∙ ap (λ k. slice_get (low ++ (inside ++ map (λ n. n + m) high)) (moved (length low) k i)) (sym inside_count)
      ∙ get_numbers place m low inside high (numbers_low place 0 (take place ts) in_front) (numbers_high place place (drop place ts) here) i
      ∙ ap (λ xs. option_map (moved place m) (slice_get xs i)) (sym old_positions)

  pub tokens_at : (at : ℕ) → option_map names (slice_get new (moved place m at)) ≡ option_map names (slice_get old at)
  tokens_at at =
      sym (slice_get-map names new (moved place m at))
      ∙ ap (λ xs. slice_get xs (moved place m at)) new_tokens
      ∙ ap (λ k. slice_get (take place ts ++ (block_statements t ++ drop place ts)) (moved k m at)) (sym front_count)
      ∙ get_moved (take place ts) (block_statements t) (drop place ts) at
      ∙ ap (λ xs. slice_get xs at) (take-append-drop place ts)
      ∙ slice_get-map names old at

  pub old_labels : labels old ≡ labels (take place old) ++ labels (drop place old)
  old_labels =
      labels_by old ∙ ap (flat_map label_names) (sym (take-append-drop place ts)) ∙ flat_map-append label_names (take place ts) (drop place ts)
      ∙ ap (λ xs. flat_map label_names xs ++ flat_map label_names (drop place ts)) (take-map names place old)
      ∙ ap (λ xs. flat_map label_names (tokens_of (take place old)) ++ flat_map label_names xs) (drop-map names place old)
      ∙ ap (λ xs. xs ++ flat_map label_names (tokens_of (drop place old))) (sym (labels_by (take place old)))
      ∙ ap (λ xs. labels (take place old) ++ xs) (sym (labels_by (drop place old)))

  pub label_is : (name : Name) → AllByRecursion (λ n. bytes_eq name n ≡ false) (new_labels t)
      → position (bytes_eq name) (labels new) ≡ option_map (moved a b) (position (bytes_eq name) (labels old))
  label_is name fresh =
      ap (position (bytes_eq name)) (labels_are_put_in text place t within plain ∙ append_assoc (labels (take place old)) (new_labels t) (labels (drop place old)))
      ∙ position_moved (bytes_eq name) (labels (take place old)) (new_labels t) (labels (drop place old)) fresh
      ∙ ap (λ xs. option_map (moved a b) (position (bytes_eq name) xs)) (sym old_labels)

  module _ (outside : IsOutside text place) where
    frame_moves : (i at : ℕ) (s v : Statement) → names s ≡ names v
        → frame_at new (label (moved a b i)) (moved place m at) v ≡ moved_frame old place t (frame_at old (label i) at s)
    frame_moves i at s v same = elim (cases_Bool (nat_lt at place)) [
      | inl e ↦
          let h : at < place = grind (arith, nat_tests, e) in let l : at ≤ place = omega (arith, h) in
          let stays = moved_low place m at h in
          ap (λ k. frame_at new (label (moved a b i)) k v) stays
          ∙ frames_stay_before text place at t within plain l (label (moved a b i)) s v same
          ∙ ap (λ k. put_at k (frame_at old (label (moved a b i)) at s)) (sym stays)
      | inr e ↦
          let h : place ≤ at = grind (arith, nat_tests, e) in
          let parts : place + (at - place) ≡ at = omega (arith, h) in
          let all : place + m + (at - place) ≡ at + m = omega (arith, h) in
          let moves : moved place m at ≡ place + m + (at - place) = moved_high place m at h ∙ sym all in
          ap (λ k. frame_at new (label (moved a b i)) k v) moves
          ∙ frames_stay_behind text place (at - place) t within plain outside (label (moved a b i)) s v same
          ∙ ap (λ k. put_at (place + m + (at - place)) (frame_at old (label (moved a b i)) k s)) parts
          ∙ ap (λ k. put_at k (frame_at old (label (moved a b i)) at s)) (sym moves)
    ]

    -- the frame of a statement, if it is an assertion
    abbrev if_assertion : List Statement → ℕ → ℕ × Statement → Option Frame
    if_assertion ss i p = cond (is_assertion p.1) (Some (frame_at ss (label i) p.0 p.1)) None

    statement_moves : (i at : ℕ) (o n : Option Statement) → option_map names n ≡ option_map names o
        → option_and_then (if_assertion new (moved a b i)) (option_map (λ s. (moved place m at, s)) n)
        ≡ option_map (moved_frame old place t) (option_and_then (if_assertion old i) (option_map (λ s. (at, s)) o))
    statement_moves i at None None e = refl
    statement_moves i at None (Some v) e = absurd cc
    statement_moves i at (Some s) None e = absurd cc
    statement_moves i at (Some s) (Some v) e =
        let same : names s ≡ names v = some_is (names s) (names v) (sym e) in
        let kind : is_assertion v ≡ is_assertion s =
        keyword_by (codes "$a" ∷ codes "$p" ∷ []) v ∙ ap (keyword_is (codes "$a" ∷ codes "$p" ∷ [])) (sym same)
        ∙ sym (keyword_by (codes "$a" ∷ codes "$p" ∷ []) s) in
        ap (λ c. cond c (Some (frame_at new (label (moved a b i)) (moved place m at) v)) None) kind
        ∙ ap (λ f. cond (is_assertion s) (Some f) None) (frame_moves i at s v same)
        ∙ by (is_assertion s) (frame_at old (label i) at s)
      where
        some_is : (x y : List Name) → Some x ≡ Some y → x ≡ y
        some_is x y h = cc

        by : (c : Bool) (f : Frame) → cond c (Some (moved_frame old place t f)) None ≡ option_map (moved_frame old place t) (cond c (Some f) None)
        by true f = refl
        by false f = refl

    -- the statement of a position
    abbrev at_position : List Statement → ℕ → Option ℕ → Option Frame
    at_position ss i o = option_and_then (if_assertion ss i) (option_and_then (λ at. option_map (λ s. (at, s)) (slice_get ss at)) o)

    position_moves : (i : ℕ) (o : Option ℕ) → at_position new (moved a b i) (option_map (moved place m) o) ≡ option_map (moved_frame old place t) (at_position old i o)
    position_moves i None = refl
    position_moves i (Some at) = statement_moves i at (slice_get old at) (slice_get new (moved place m at)) (tokens_at at)

    pub label_moves : (o : Option ℕ)
        → option_and_then (frame_of new) (option_map label (option_map (moved a b) o))
        ≡ option_map (moved_frame old place t) (option_and_then (frame_of old) (option_map label o))
    label_moves None = refl
    label_moves (Some i) = ap (at_position new (moved a b i)) (position_is i) ∙ position_moves i (slice_get (positions old) i)

    pub frames_move : (name : Name) → AllByRecursion (λ n. bytes_eq name n ≡ false) (new_labels t)
        → frames_of_database new name ≡ option_map (moved_frame old place t) (frames_of_database old name)
    frames_move name fresh = ap (λ o. option_and_then (frame_of new) (option_map label o)) (label_is name fresh) ∙ label_moves (position (bytes_eq name) (labels old))

-- an old label is none of the new ones
pub none_new : (ls : List Name) (name : Name) → contains ls name ≡ true → (ns : List Name) → AllByRecursion (λ n. contains ls n ≡ false) ns
    → AllByRecursion (λ n. bytes_eq name n ≡ false) ns
none_new ls name h [] f = tt
none_new ls name h (n ∷ ns) f = (other, none_new ls name h ns f.1)
  where
    other : bytes_eq name n ≡ false
    other = elim (cases_Bool (bytes_eq name n)) [
      | inl e ↦ let same : name ≡ n = (bytes_eq-Decides name n).0 e in let bad : true ≡ false = sym h ∙ ap (contains ls) same ∙ f.0 in absurd cc
      | inr e ↦ e
    ]

pub frames_are_moved : FramesAreMoved
frames_are_moved text place t within plain outside fresh name h =
    frames_move text place t within plain outside name (none_new (labels (statements text)) name h (new_labels t) fresh)
