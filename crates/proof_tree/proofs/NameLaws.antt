-- Names with the places where they first stand.
use Rattle.std.proofs.Common.{◌≡◌, ℕ, zero, suc, ◌+◌, ◌<◌, ◌≤◌, Bool, true, false, not, ◌||◌, cond, nat_lt, List, [], ◌∷◌, ◌++◌, length, map, take}
use Rattle.std.proofs.Common.{get_or, slice_get, position, Option, Some, None, option_map, is_some, refl, sym, ap, ◌∙◌, subst, arith}
use Rattle.std.specs.Option.{option_and_then}
use Rattle.std.specs.List.{AllByRecursion, list_any, prefix_len}
use Rattle.std.specs.Str.{bytes_eq}
use Rattle.std.proofs.lemmas.Bool.{ltb-true, lt-ltb}
use Rattle.std.proofs.lemmas.Slice.Eq.{bytes_eq-Decides}
use Rattle.mm_model.specs.Names.{Name, contains, first_number}
use Rattle.mm_model.specs.Frames.{without_repeats}
use Rattle.proof_model.specs.Proofs.{Proof, Proofs, by, none, next, same_proof, postorder, postorders, subproofs, subproofs_in}
use Rattle.proof_model.specs.declared.code.What.TheVariants as what
use Rattle.std.specs.Prelude.{unwrap_or, fold}
use Rattle.proof_model.specs.Codes.{what_of, number_in, listed_labels, distinct_proofs}
use Rattle.proof_tree.specs.Given.{sooner}
use Rattle.proof_tree.specs.Walks.{see}
use Rattle.proof_tree.specs.Coding.{place_in, ArePlaces, put_other, what_by, label_of}
use Rattle.proof_tree.specs.declared.graph.ProofNode.{ProofNode}
use Rattle.proof_tree.specs.Graphs.{no_node}
use Rattle.std.proofs.lemmas.List.{get_or_default, length-take-le}
use Rattle.proof_tree.proofs.GraphLaws.{append_twice, append_none, map_append, map_push, take_more, take_whole, all_at}
use Rattle.proof_tree.proofs.SameLaws.{iff_same, same_sound}

-- ---- the first that passes

pub first_push : {X : Type 0} (p : X → Bool) (xs : List X) (x : X) → first_number p (xs ++ x ∷ []) ≡ sooner (first_number p xs) (cond (p x) (Some (length xs)) None)
first_push p [] x = by (p x)
  where
    by : (b : Bool) → cond {A = Option ℕ} b (Some 0) None ≡ sooner None (cond {A = Option ℕ} b (Some 0) None)
    by true = refl
    by false = refl
first_push p (y ∷ xs) x = by (p y) (first_push p xs x)
  where
    later : (o : Option ℕ) (b : Bool) (n : ℕ) → option_map suc (sooner o (cond b (Some n) None)) ≡ sooner (option_map suc o) (cond b (Some (suc n)) None)
    later None true n = refl
    later None false n = refl
    later (Some k) b n = refl

    by : (b : Bool) → first_number p (xs ++ x ∷ []) ≡ sooner (first_number p xs) (cond (p x) (Some (length xs)) None)
        → cond {A = Option ℕ} b (Some 0) (option_map suc (first_number p (xs ++ x ∷ [])))
        ≡ sooner (cond {A = Option ℕ} b (Some 0) (option_map suc (first_number p xs))) (cond (p x) (Some (suc (length xs))) None)
    by true e = refl
    by false e = ap (option_map suc) e ∙ later (first_number p xs) (p x) (length xs)

pub first_inside : {X : Type 0} (p : X → Bool) (xs : List X) (k : ℕ) → first_number p xs ≡ Some k → k < length xs
first_inside p [] k e = absurd cc
first_inside p (x ∷ xs) k e = by (p x) (first_number p xs) e (first_inside p xs)
  where
    by : (b : Bool) (o : Option ℕ) → cond {A = Option ℕ} b (Some 0) (option_map suc o) ≡ Some k → ((j : ℕ) → o ≡ Some j → j < length xs) → k < suc (length xs)
    by true o e h = let s : 0 ≡ k = cc in omega (arith, s)
    by false None e h = absurd cc
    by false (Some j) e h = let s : suc j ≡ k = cc in let l = h j refl in omega (arith, s, l)

pub first_some : {X : Type 0} (p : X → Bool) (xs : List X) → is_some (first_number p xs) ≡ list_any p xs
first_some p [] = refl
first_some p (x ∷ xs) = by (p x) (first_number p xs) (first_some p xs)
  where
    by : (b : Bool) (o : Option ℕ) → is_some o ≡ list_any p xs → is_some (cond {A = Option ℕ} b (Some 0) (option_map suc o)) ≡ (b || list_any p xs)
    by true o e = refl
    by false None e = e
    by false (Some k) e = e

pub position_is : {X : Type 0} (p : X → Bool) (xs : List X) → position p xs ≡ first_number p xs
position_is p [] = refl
position_is p (x ∷ xs) = by (p x) (position_is p xs)
  where
    less : (m n : ℕ) → nat_lt (1 + m) (suc n) ≡ nat_lt m n
    less m n =
        iff_same (nat_lt (1 + m) (suc n)) (nat_lt m n) (λ e. lt-ltb m n (let l = ltb-true (1 + m) (suc n) e in omega (arith, l)))
        (λ e. lt-ltb (1 + m) (suc n) (let l = ltb-true m n e in omega (arith, l)))

    moved : (b : Bool) (m : ℕ) → cond {A = Option ℕ} b (Some (1 + m)) None ≡ option_map suc (cond b (Some m) None)
    moved true m = ap (λ (k : ℕ). Some k) (let s : 1 + m ≡ suc m = omega arith in s)
    moved false m = refl

    by : (b : Bool) → position p xs ≡ first_number p xs
        → cond {A = Option ℕ} (nat_lt (cond (not b) (1 + prefix_len (λ y. not (p y)) xs) 0) (suc (length xs)))
        (Some (cond (not b) (1 + prefix_len (λ y. not (p y)) xs) 0)) None
        ≡ cond {A = Option ℕ} b (Some 0) (option_map suc (first_number p xs))
    by true e = ap (λ c. cond {A = Option ℕ} c (Some 0) None) (lt-ltb 0 (suc (length xs)) (omega arith))
    by false e =
        let m = prefix_len (λ y. not (p y)) xs in
        ap (λ c. cond {A = Option ℕ} c (Some (1 + m)) None) (less m (length xs)) ∙ moved (nat_lt m (length xs)) m ∙ ap (option_map suc) e

-- ---- places

same_bytes : (m n : Name) → bytes_eq m n ≡ true → m ≡ n
same_bytes m n e = (bytes_eq-Decides m n).0 e

at_first : (names : List Name) (places : List ℕ) (name : Name) → place_in names places name ≡ option_and_then (slice_get places) (first_number (bytes_eq name) names)
at_first names places name = ap (option_and_then (slice_get places)) (position_is (bytes_eq name) names)

stays : {X : Type 0} (o : Option X) (b : Bool) (x : X) → (b ≡ true → is_some o ≡ true) → o ≡ sooner o (cond b (Some x) None)
stays None true x h = absurd (let wrong : false ≡ true = h refl in cc)
stays None false x h = refl
stays (Some y) b x h = refl

got : (ps : List ℕ) (o : Option ℕ) → ((k : ℕ) → o ≡ Some k → k < length ps) → is_some (option_and_then (slice_get ps) o) ≡ is_some o
got ps None h = refl
got ps (Some k) h = by ps k (h k refl)
  where
    by : (ps : List ℕ) (k : ℕ) → k < length ps → is_some (slice_get ps k) ≡ true
    by [] k l = absurd (omega arith)
    by (p ∷ ps) zero l = refl
    by (p ∷ ps) (suc k) l = by ps k (omega arith)

inside_places : (list names : List Name) (places : List ℕ) (name : Name) → ArePlaces list names places → (k : ℕ) → first_number (bytes_eq name) names ≡ Some k → k < length places
inside_places list names places name p k e = let l = first_inside (bytes_eq name) names k e in let m = p.even in omega (arith, l, m)

-- a name that is there already
pub places_there : (list names : List Name) (places : List ℕ) (name : Name) → list_any (bytes_eq name) names ≡ true → ArePlaces list names places → ArePlaces (list ++ name ∷ []) names places
places_there list names places name there p = record {
  even = p.even;
  each = λ n.
      let found : bytes_eq n name ≡ true → is_some (first_number (bytes_eq n) list) ≡ true = λ (e : bytes_eq n name ≡ true).
      ap is_some (sym (p.each n) ∙ at_first names places n) ∙ got places (first_number (bytes_eq n) names) (inside_places list names places n p) ∙ first_some (bytes_eq n) names
      ∙ ap (λ m. list_any (bytes_eq m) names) (same_bytes n name e) ∙ there in
      p.each n ∙ stays (first_number (bytes_eq n) list) (bytes_eq n name) (length list) found ∙ sym (first_push (bytes_eq n) list name);
}

got_left : (ps : List ℕ) (k p : ℕ) → k < length ps → slice_get (ps ++ p ∷ []) k ≡ slice_get ps k
got_left [] k p l = absurd (omega arith)
got_left (x ∷ ps) zero p l = refl
got_left (x ∷ ps) (suc k) p l = got_left ps k p (omega arith)

got_last : (ps : List ℕ) (k p : ℕ) → k ≡ length ps → slice_get (ps ++ p ∷ []) k ≡ Some p
got_last [] zero p e = refl
got_last [] (suc k) p e = absurd (omega arith)
got_last (x ∷ ps) zero p e = absurd (omega arith)
got_last (x ∷ ps) (suc k) p e = got_last ps k p (omega arith)

looked_up : (ps : List ℕ) (o : Option ℕ) (b : Bool) (n p : ℕ) → ((k : ℕ) → o ≡ Some k → k < length ps) → n ≡ length ps
    → option_and_then (slice_get (ps ++ p ∷ [])) (sooner o (cond b (Some n) None)) ≡ sooner (option_and_then (slice_get ps) o) (cond b (Some p) None)
looked_up ps None true n p h e = got_last ps n p e
looked_up ps None false n p h e = refl
looked_up ps (Some k) b n p h e = got_left ps k p (h k refl) ∙ kept (slice_get ps k) (got ps (Some k) h)
  where
    kept : (o : Option ℕ) → is_some o ≡ true → o ≡ sooner o (cond b (Some p) None)
    kept None i = absurd cc
    kept (Some x) i = refl

-- a name that is not there
pub places_new : (list names now : List Name) (places after : List ℕ) (name : Name) (place : ℕ) → now ≡ names ++ name ∷ []
    → after ≡ places ++ place ∷ [] → place ≡ length list → ArePlaces list names places
    → ArePlaces (list ++ name ∷ []) now after
places_new list names now places after name place more put here p = record {
  even = (let a = ap length more ∙ longer names name in let b = ap length put ∙ longer places place in let m = p.even in omega (arith, a, b, m));
  each = λ n.
      at_first now after n ∙ ap (λ ps. option_and_then (slice_get ps) (first_number (bytes_eq n) now)) put
      ∙ ap (λ ns. option_and_then (slice_get (places ++ place ∷ [])) (first_number (bytes_eq n) ns)) more
      ∙ ap (option_and_then (slice_get (places ++ place ∷ []))) (first_push (bytes_eq n) names name)
      ∙ looked_up places (first_number (bytes_eq n) names) (bytes_eq n name) (length names) place (inside_places list names places n p) (sym p.even)
      ∙ ap (λ o. sooner o (cond (bytes_eq n name) (Some place) None)) (sym (at_first names places n) ∙ p.each n)
      ∙ ap (λ k. sooner (first_number (bytes_eq n) list) (cond (bytes_eq n name) (Some k) None)) here
      ∙ sym (first_push (bytes_eq n) list name);
}
  where
    longer : {X : Type 0} (xs : List X) (y : X) → length (xs ++ y ∷ []) ≡ length xs + 1
    longer [] y = refl
    longer (x ∷ xs) y = let rest = longer xs y in omega (arith, rest)

pub places_none : (names : List Name) (places : List ℕ) → names ≡ [] → places ≡ [] → ArePlaces [] names places
places_none names places e f = record {
  even = ap length f ∙ sym (ap length e);
  each = λ n. at_first names places n ∙ ap (λ ns. option_and_then (slice_get places) (first_number (bytes_eq n) ns)) e;
}

-- ---- what a label is

what_case : (b : Bool) (o : Option ℕ) (labels : List Name) (label : Name) → is_some o ≡ b → (o' : Option ℕ) → o' ≡ first_number (bytes_eq label) labels
    → what_by o o' ≡ cond b (what.Hyp (unwrap_or o 0)) (what.Listed (number_in labels label))
what_case true None labels label e o' f = absurd cc
what_case true (Some k) labels label e o' f = refl
what_case false None labels label e o' f = ap (λ x. what.Listed (unwrap_or x 0)) f
what_case false (Some k) labels label e o' f = absurd cc

pub what_is : (list names labels : List Name) (places : List ℕ) (label : Name) → ArePlaces list names places
    → what_by (place_in names places label) (position (bytes_eq label) labels) ≡ what_of list labels label
what_is list names labels places label p =
    ap (λ o. what_by o (position (bytes_eq label) labels)) (p.each label)
    ∙ what_case (contains list label) (first_number (bytes_eq label) list) labels label (first_some (bytes_eq label) list) (position (bytes_eq label) labels) (position_is (bytes_eq label) labels)

-- ---- the labels without repeats

or_or : (a b c : Bool) → ((a || b) || c) ≡ (b || (a || c))
or_or true true c = refl
or_or true false c = refl
or_or false b c = refl

pub repeats_push : (seen xs : List Name) (x : Name) → without_repeats seen (xs ++ x ∷ []) ≡ without_repeats seen xs ++ cond (contains seen x || contains (without_repeats seen xs) x) [] (x ∷ [])
repeats_push seen [] x = by (contains seen x)
  where
    by : (b : Bool) → cond b [] (x ∷ []) ≡ cond (b || false) [] (x ∷ [])
    by true = refl
    by false = refl
repeats_push seen (n ∷ ns) x = by (contains seen n) (repeats_push seen ns x) (repeats_push (n ∷ seen) ns x)
  where
    by : (b : Bool) → without_repeats seen (ns ++ x ∷ []) ≡ without_repeats seen ns ++ cond (contains seen x || contains (without_repeats seen ns) x) [] (x ∷ [])
        → without_repeats (n ∷ seen) (ns ++ x ∷ []) ≡ without_repeats (n ∷ seen) ns ++ cond (contains (n ∷ seen) x || contains (without_repeats (n ∷ seen) ns) x) [] (x ∷ [])
        → cond b (without_repeats seen (ns ++ x ∷ [])) (n ∷ without_repeats (n ∷ seen) (ns ++ x ∷ []))
        ≡ cond b (without_repeats seen ns) (n ∷ without_repeats (n ∷ seen) ns)
        ++ cond (contains seen x || contains (cond b (without_repeats seen ns) (n ∷ without_repeats (n ∷ seen) ns)) x) [] (x ∷ [])
    by true e f = e
    by false e f =
        ap (λ l. n ∷ l) f
        ∙ ap (λ b. n ∷ (without_repeats (n ∷ seen) ns ++ cond b [] (x ∷ []))) (or_or (bytes_eq x n) (contains seen x) (contains (without_repeats (n ∷ seen) ns) x))

-- one more label
other_case : (a b : Bool) (labels : List Name) (x : Name) → cond (a || b) labels (labels ++ x ∷ []) ≡ labels ++ cond (a || b) [] (x ∷ [])
other_case true b labels x = sym (append_none labels)
other_case false true labels x = sym (append_none labels)
other_case false false labels x = refl

pub other_more : (list names labels now xs : List Name) (places : List ℕ) (x : Name) → ArePlaces list names places → labels ≡ without_repeats list xs
    → now ≡ put_other (is_some (place_in names places x)) labels x
    → now ≡ without_repeats list (xs ++ x ∷ [])
other_more list names labels now xs places x p is put =
    put ∙ ap (λ b. put_other b labels x) (ap is_some (p.each x) ∙ first_some (bytes_eq x) list) ∙ ap (λ l. put_other (contains list x) l x) is
    ∙ other_case (contains list x) (contains (without_repeats list xs) x) (without_repeats list xs) x ∙ sym (repeats_push list xs x)

-- a name that stands before is passed over
skip_or : (a b c : Bool) → (a || (b || c)) ≡ true → b ≡ false → (a || c) ≡ true
skip_or true b c e f = refl
skip_or false true c e f = absurd cc
skip_or false false c e f = e

pub repeats_skip : (seen ls ms : List Name) (n : Name) → (contains seen n || contains ls n) ≡ true → without_repeats seen (ls ++ n ∷ ms) ≡ without_repeats seen (ls ++ ms)
repeats_skip seen [] ms n e = ap (λ b. cond b (without_repeats seen ms) (n ∷ without_repeats (n ∷ seen) ms)) (sym (or_none (contains seen n)) ∙ e)
  where
    or_none : (b : Bool) → (b || false) ≡ b
    or_none true = refl
    or_none false = refl
repeats_skip seen (l ∷ ls) ms n e = by (contains seen l) refl (repeats_skip seen ls ms n) (repeats_skip (l ∷ seen) ls ms n)
  where
    with_l : (b : Bool) → bytes_eq n l ≡ b → contains seen l ≡ true → (contains seen n || contains ls n) ≡ true
    with_l true s there = ap (λ b. b || contains ls n) (ap (contains seen) (same_bytes n l s) ∙ there)
    with_l false s there = skip_or (contains seen n) (bytes_eq n l) (contains ls n) e s

    by : (b : Bool) → contains seen l ≡ b → ((contains seen n || contains ls n) ≡ true → without_repeats seen (ls ++ n ∷ ms) ≡ without_repeats seen (ls ++ ms))
        → ((contains (l ∷ seen) n || contains ls n) ≡ true → without_repeats (l ∷ seen) (ls ++ n ∷ ms) ≡ without_repeats (l ∷ seen) (ls ++ ms))
        → cond b (without_repeats seen (ls ++ n ∷ ms)) (l ∷ without_repeats (l ∷ seen) (ls ++ n ∷ ms)) ≡ cond b (without_repeats seen (ls ++ ms)) (l ∷ without_repeats (l ∷ seen) (ls ++ ms))
    by true there f g = f (with_l (bytes_eq n l) refl there)
    by false there f g = ap (λ r. l ∷ r) (g (or_or (bytes_eq n l) (contains seen n) (contains ls n) ∙ e))

-- ---- the labels of a proof

abbrev pub last_label : Proof → Name
last_label (by label below) = label

mutual
  pub labels_are : (p : Proof) → postorder p ≡ map last_label (subproofs p)
  labels_are (by label below) = ap (λ l. l ++ label ∷ []) (all_labels_are below) ∙ sym (map_append last_label (subproofs_in below) (by label below ∷ []))

  all_labels_are : (ps : Proofs) → postorders ps ≡ map last_label (subproofs_in ps)
  all_labels_are none = refl
  all_labels_are (next p ps) =
      ap (λ l. l ++ postorders ps) (labels_are p) ∙ ap (λ l. map last_label (subproofs p) ++ l) (all_labels_are ps)
      ∙ sym (map_append last_label (subproofs p) (subproofs_in ps))

any_label : (p : Proof) (seen : List Proof) → list_any (same_proof p) seen ≡ true → contains (map last_label seen) (last_label p) ≡ true
any_label p [] e = absurd cc
any_label p (q ∷ seen) e = by (same_proof p q) refl e (any_label p seen)
  where
    or_true : (a b : Bool) → b ≡ true → (a || b) ≡ true
    or_true true b e = refl
    or_true false b e = e

    by : (b : Bool) → same_proof p q ≡ b → (b || list_any (same_proof p) seen) ≡ true → (list_any (same_proof p) seen ≡ true → contains (map last_label seen) (last_label p) ≡ true)
        → (bytes_eq (last_label p) (last_label q) || contains (map last_label seen) (last_label p)) ≡ true
    by true s e h = ap (λ b. b || contains (map last_label seen) (last_label p)) ((bytes_eq-Decides (last_label p) (last_label q)).1 (ap last_label (same_sound p q s)))
    by false s e h = or_true (bytes_eq (last_label p) (last_label q)) (contains (map last_label seen) (last_label p)) (h e)

repeats_seen : (list : List Name) (ps seen : List Proof) → without_repeats list (map last_label (fold see seen ps)) ≡ without_repeats list (map last_label seen ++ map last_label ps)
repeats_seen list [] seen = ap (without_repeats list) (sym (append_none (map last_label seen)))
repeats_seen list (p ∷ ps) seen = repeats_seen list ps (see seen p) ∙ by (list_any (same_proof p) seen) refl
  where
    or_right : (a b : Bool) → b ≡ true → (a || b) ≡ true
    or_right true b e = refl
    or_right false b e = e

    by : (b : Bool) → list_any (same_proof p) seen ≡ b
        → without_repeats list (map last_label (cond b seen (seen ++ p ∷ [])) ++ map last_label ps) ≡ without_repeats list (map last_label seen ++ last_label p ∷ map last_label ps)
    by true e =
        sym (repeats_skip list (map last_label seen) (map last_label ps) (last_label p)
        (or_right (contains list (last_label p)) (contains (map last_label seen) (last_label p)) (any_label p seen e)))
    by false e =
        ap (λ l. without_repeats list (l ++ map last_label ps)) (map_append last_label seen (p ∷ []))
        ∙ ap (without_repeats list) (append_twice (map last_label seen) (last_label p ∷ []) (map last_label ps))

-- each label of a proof's distinct subproofs once, where it first stands
pub listed_is : (list : List Name) (p : Proof) → listed_labels list p ≡ without_repeats list (map last_label (distinct_proofs (subproofs p)))
listed_is list p = ap (without_repeats list) (labels_are p) ∙ sym (repeats_seen list (subproofs p) [])

-- ---- in loops

pub other_at : (list names labels now : List Name) (places : List ℕ) (nodes : List ProofNode) (order : List ℕ) (i : ℕ) (d : ProofNode) (label : Name)
    → i < length order → AllByRecursion (λ k. k < length nodes) order
    → label ≡ (get_or nodes (get_or order i 0) d).label → ArePlaces list names places
    → labels ≡ without_repeats list (map (label_of nodes) (take i order)) → now ≡ put_other (is_some (place_in names places label)) labels label
    → now ≡ without_repeats list (map (label_of nodes) (take (i + 1) order))
other_at list names labels now places nodes order i d label inside all e p is put =
    let k = get_or order i 0 in
    let same : label ≡ label_of nodes k = e ∙ ap (λ (n : ProofNode). n.label) (get_or_default nodes k d no_node (all_at (λ j. j < length nodes) order i 0 all inside)) in
    other_more list names labels now (map (label_of nodes) (take i order)) places label p is put
    ∙ ap (without_repeats list)
    (ap (λ l. map (label_of nodes) (take i order) ++ l ∷ []) same ∙ sym (map_push (label_of nodes) (take i order) k)
    ∙ ap (map (label_of nodes)) (sym (take_more order i 0 inside)))

pub places_next : (list : List Name) (i : ℕ) (d name : Name) (names now : List Name) (places after : List ℕ) → i < length list → name ≡ get_or list i d
    → ((before : List Name) → ArePlaces before names places → i ≡ length before → ArePlaces (before ++ name ∷ []) now after)
    → ArePlaces (take i list) names places → ArePlaces (take (i + 1) list) now after
places_next list i d name names now places after inside e put p =
    subst (λ l. ArePlaces l now after) (ap (λ n. take i list ++ n ∷ []) e ∙ sym (take_more list i d inside)) (put (take i list) p (sym (length-take-le i list (omega (arith, inside)))))

pub places_whole : (list : List Name) (i : ℕ) (names : List Name) (places : List ℕ) → length list ≤ i → ArePlaces (take i list) names places → ArePlaces list names places
places_whole list i names places done p = subst (λ l. ArePlaces l names places) (take_whole list i done) p
