-- The labels of the block in a text with a theorem in it: those of the `$e` have no frame.
use Rattle.std.proofs.Common.{◌≡◌, ◌≤◌, ◌<◌, ℕ, Bool, true, false, not, cond, ◌||◌, List, [], ◌∷◌, ◌++◌, length, take, drop, map, flat_map, Option, Some, None, option_map, refl, sym, ap, ◌∙◌, subst, inl, inr, codes, append_assoc, append-nil}
use Rattle.std.specs.Prelude.{position, option_and_then}
use Rattle.std.specs.List.{AllByRecursion, list_any, take-map}
use Rattle.std.specs.Str.{bytes_eq}
use Rattle.std.proofs.lemmas.Bool.{cases_Bool, or_parts}
use Rattle.std.proofs.lemmas.Grind.{flat_map-append}
use Rattle.std.proofs.lemmas.List.{map-append}
use Rattle.std.proofs.lemmas.List.Folds.{list_any-append}
use Rattle.std.proofs.lemmas.Slice.Eq.{bytes_eq-Decides}
use Rattle.mm_model.specs.declared.frames.Frame.{Frame}
use Rattle.mm_model.specs.Names.{Name, label, contains}
use Rattle.mm_model.specs.Statements.{Statement, statements, labels}
use Rattle.mm_model.specs.Frames.{is_assertion, frame_of}
use Rattle.proof_model.specs.DatabaseProofs.{frames_of_database}
use Rattle.install_model.specs.declared.install.NewTheorem.{NewTheorem}
use Rattle.install_model.specs.Installed.{installed}
use Rattle.install_model.specs.Moved.{pair_statement, hyp_statement, theorem_statement, block_statements, new_labels, moved_frame}
use Rattle.install_laws.specs.InstalledStatements.{names, tokens_of, HasNoDollar, IsPlain, IsPlainTheorem}
use Rattle.install_laws.proofs.WordLaws.{plain_dollar}
use Rattle.install_laws.proofs.DatabaseLaw.{new_tokens, old_labels, frames_move}
use Rattle.install_laws.proofs.KeptLaw.{no_position}
use Rattle.install_laws.proofs.NamesLaw.{label_names, labels_by, keyword_is, keyword_by, plain_is, hyp_labels, pairs_have_none}
use Rattle.installed_laws.specs.CanBePutIn.{CanBePutIn}
use Rattle.kept_laws.proofs.Stands.{none_of, statement, there, named_frame}

-- ---- lists

apart_one : {X : Type 0} (a p h : List X) (s c : X) (d : List X) → a ++ (((p ++ h) ++ s ∷ c ∷ []) ++ d) ≡ ((a ++ p) ++ h) ++ s ∷ c ∷ d
apart_one a p h s c d = simp append_assoc

apart_two : {X : Type 0} (x m : List X) (y : X) (n z : List X) → (x ++ (m ++ y ∷ n)) ++ z ≡ (x ++ m) ++ y ∷ (n ++ z)
apart_two x m y n z = simp append_assoc

all_left : {X : Type 0} (P : X → Type 0) (xs ys : List X) → AllByRecursion P (xs ++ ys) → AllByRecursion P xs
all_left P [] ys h = tt
all_left P (x ∷ xs) ys h = (h.0, all_left P xs ys h.1)

all_right : {X : Type 0} (P : X → Type 0) (xs ys : List X) → AllByRecursion P (xs ++ ys) → AllByRecursion P ys
all_right P [] ys h = h
all_right P (x ∷ xs) ys h = all_right P xs ys h.1

pub of_all : (P : Name → Type 0) (ns : List Name) (n : Name) → AllByRecursion P ns → contains ns n ≡ true → P n
of_all P [] n a h = absurd cc
of_all P (m ∷ ns) n a h = elim (cases_Bool (bytes_eq n m)) [
  | inl e ↦ subst P (sym ((bytes_eq-Decides n m).0 e)) a.0
  | inr e ↦ of_all P ns n a.1 (sym (ap (λ b. b || contains ns n) e) ∙ h)
]

abbrev labels_of_hyps : List (Name × List Name) → List Name
labels_of_hyps hs = map (λ (h : Name × List Name). h.0) hs

-- the first `$e` with a label
record First (hs : List (Name × List Name)) (name : Name) : Type 0 where
  pre : List (Name × List Name)
  hyp : Name × List Name
  post : List (Name × List Name)
  whole : hs ≡ pre ++ hyp ∷ post
  is : hyp.0 ≡ name
  none : contains (labels_of_hyps pre) name ≡ false

first_hyp : (hs : List (Name × List Name)) (name : Name) → contains (labels_of_hyps hs) name ≡ true → First hs name
first_hyp [] name h = absurd cc
first_hyp (x ∷ hs) name h = elim (cases_Bool (bytes_eq name x.0)) [
  | inl e ↦ record { pre = []; hyp = x; post = hs; whole = refl; is = sym ((bytes_eq-Decides name x.0).0 e); none = refl }
  | inr e ↦
      let r = first_hyp hs name (sym (ap (λ b. b || contains (labels_of_hyps hs) name) e) ∙ h) in
      record { pre = x ∷ r.pre; hyp = r.hyp; post = r.post; whole = ap (λ ys. x ∷ ys) r.whole; is = r.is; none = ap (λ b. b || contains (labels_of_hyps r.pre) name) e ∙ r.none }
]

-- ---- the text

module _ (text : List ℕ) (place : ℕ) (t : NewTheorem) (can : CanBePutIn text place t) where
  abbrev pub old : List Statement
  old = statements text

  abbrev pub new : List Statement
  new = statements (installed text place t)

  abbrev pub ts : List (List Name)
  ts = tokens_of (statements text)

  -- the statements up to the `$e` of the block
  abbrev pub opening : List (List Name)
  opening = take place ts ++ ((codes "${" ∷ []) ∷ map pair_statement t.pairs)

  pub around_theorem : tokens_of new ≡ (opening ++ map hyp_statement t.hyps) ++ theorem_statement t ∷ (codes "$}" ∷ []) ∷ drop place ts
  around_theorem =
      new_tokens text place t can.within can.plain
      ∙ apart_one (take place ts) ((codes "${" ∷ []) ∷ map pair_statement t.pairs) (map hyp_statement t.hyps) (theorem_statement t) (codes "$}" ∷ []) (drop place ts)

  around_hyp : (pre post : List (Name × List Name)) (h : Name × List Name) → t.hyps ≡ pre ++ h ∷ post
      → tokens_of new ≡ (opening ++ map hyp_statement pre) ++ hyp_statement h ∷ (map hyp_statement post ++ theorem_statement t ∷ (codes "$}" ∷ []) ∷ drop place ts)
  around_hyp pre post h e =
      around_theorem
      ∙ ap (λ hs. (opening ++ hs) ++ theorem_statement t ∷ (codes "$}" ∷ []) ∷ drop place ts) (ap (map hyp_statement) e ∙ map-append hyp_statement pre (h ∷ post))
      ∙ apart_two opening (map hyp_statement pre) (hyp_statement h) (map hyp_statement post) (theorem_statement t ∷ (codes "$}" ∷ []) ∷ drop place ts)

  opening_labels : flat_map label_names opening ≡ labels (take place old)
  opening_labels =
      flat_map-append label_names (take place ts) ((codes "${" ∷ []) ∷ map pair_statement t.pairs)
      ∙ ap (λ ns. flat_map label_names (take place ts) ++ ns) (pairs_have_none label_names (λ q. refl) t.pairs)
      ∙ append-nil (flat_map label_names (take place ts))
      ∙ ap (flat_map label_names) (take-map names place old)
      ∙ sym (labels_by (take place old))

  pub front_labels : (hs : List (Name × List Name)) → AllByRecursion (λ (h : Name × List Name). IsPlain h.0 × AllByRecursion IsPlain h.1) hs
      → flat_map label_names (opening ++ map hyp_statement hs) ≡ labels (take place old) ++ labels_of_hyps hs
  front_labels hs plain =
      flat_map-append label_names opening (map hyp_statement hs) ∙ ap (λ ns. ns ++ flat_map label_names (map hyp_statement hs)) opening_labels
      ∙ ap (λ ns. labels (take place old) ++ ns) (hyp_labels hs plain)

  pub not_old : (name : Name) → contains (new_labels t) name ≡ true → contains (labels old) name ≡ false
  not_old name h = of_all (λ n. contains (labels old) n ≡ false) (new_labels t) name can.labels_new h

  pub not_in_front : (name : Name) → contains (labels old) name ≡ false → contains (labels (take place old)) name ≡ false
  not_in_front name h =
      (or_parts (contains (labels (take place old)) name) (contains (labels (drop place old)) name)
      (sym (list_any-append (bytes_eq name) (labels (take place old)) (labels (drop place old))) ∙ sym (ap (λ ns. contains ns name) (old_labels text place t can.within can.plain)) ∙ h)).0

  pub front_none : (hs : List (Name × List Name)) → AllByRecursion (λ (h : Name × List Name). IsPlain h.0 × AllByRecursion IsPlain h.1) hs
      → (name : Name) → contains (labels old) name ≡ false → contains (labels_of_hyps hs) name ≡ false
      → contains (flat_map label_names (opening ++ map hyp_statement hs)) name ≡ false
  front_none hs plain name fresh none =
      ap (λ ns. contains ns name) (front_labels hs plain) ∙ list_any-append (bytes_eq name) (labels (take place old)) (labels_of_hyps hs)
      ∙ ap (λ b. b || contains (labels_of_hyps hs) name) (not_in_front name fresh) ∙ none

  -- ---- the `$e`

  no_frame : (h : Name × List Name) (name : Name) → IsPlain h.0 → (w : Statement) → names w ≡ hyp_statement h → (f : Option Frame) → cond (is_assertion w) f None ≡ None
  no_frame h name p w e f = ap (λ b. cond b f None) (keyword_by assertions w ∙ ap (keyword_is assertions) e ∙ by h.0 (h.1 ++ codes "$." ∷ []) (plain_dollar h.0 p))
    where
      assertions : List Name
      assertions = codes "$a" ∷ codes "$p" ∷ []

      by : (n : Name) (ns : List Name) → HasNoDollar n → keyword_is (codes "$a" ∷ codes "$p" ∷ []) (n ∷ codes "$e" ∷ ns) ≡ false
      by n ns d = rw (plain_is n d) refl

  hyp_label : (n : Name) (ns : List Name) → HasNoDollar n → label_names (n ∷ codes "$e" ∷ ns) ≡ n ∷ []
  hyp_label n ns d = rw (plain_is n d) refl

  hyp_frame : (name : Name) → contains (labels old) name ≡ false → contains (labels_of_hyps t.hyps) name ≡ true → frames_of_database new name ≡ None
  hyp_frame name fresh h =
      let f = first_hyp t.hyps name h in
      let plain = subst (AllByRecursion (λ (h : Name × List Name). IsPlain h.0 × AllByRecursion IsPlain h.1)) f.whole can.plain.hyps in
      let pre_plain = all_left (λ (h : Name × List Name). IsPlain h.0 × AllByRecursion IsPlain h.1) f.pre (f.hyp ∷ f.post) plain in
      let own_plain = (all_right (λ (h : Name × List Name). IsPlain h.0 × AllByRecursion IsPlain h.1) f.pre (f.hyp ∷ f.post) plain).0.0 in
      let are = around_hyp f.pre f.post f.hyp f.whole in
      let behind = map hyp_statement f.post ++ theorem_statement t ∷ (codes "$}" ∷ []) ∷ drop place ts in
      let own : label_names (hyp_statement f.hyp) ≡ name ∷ [] = hyp_label f.hyp.0 (f.hyp.1 ++ codes "$." ∷ []) (plain_dollar f.hyp.0 own_plain) ∙ ap (λ n. n ∷ []) f.is in
      let first = front_none f.pre pre_plain name fresh f.none in
      named_frame new (opening ++ map hyp_statement f.pre) (hyp_statement f.hyp) behind name are own first
      ∙ no_frame f.hyp name own_plain (statement new (opening ++ map hyp_statement f.pre) (hyp_statement f.hyp) behind name are own first)
      (there new (opening ++ map hyp_statement f.pre) (hyp_statement f.hyp) behind name are own first).2 _

  pub old_none : (name : Name) → contains (labels old) name ≡ false → frames_of_database old name ≡ None
  old_none name h = ap (λ o. option_and_then (frame_of old) (option_map label o)) (no_position (bytes_eq name) (labels old) h)

  -- each label but the theorem's has the frame that it had
  pub frames_but_one : (name : Name) → bytes_eq name t.name ≡ false → frames_of_database new name ≡ option_map (moved_frame old place t) (frames_of_database old name)
  frames_but_one name other = elim (cases_Bool (contains (new_labels t) name)) [
    | inl h ↦
        let fresh = not_old name h in
        let parts : (contains (labels_of_hyps t.hyps) name || (bytes_eq name t.name || false)) ≡ true = sym (list_any-append (bytes_eq name) (labels_of_hyps t.hyps) (t.name ∷ [])) ∙ h in
        hyp_frame name fresh (left (contains (labels_of_hyps t.hyps) name) (bytes_eq name t.name) other parts) ∙ ap (option_map (moved_frame old place t)) (sym (old_none name fresh))
    | inr h ↦ frames_move text place t can.within can.plain can.outside name (none_of name (new_labels t) h)
  ]
    where
      left : (a b : Bool) → b ≡ false → (a || (b || false)) ≡ true → a ≡ true
      left true b e h = refl
      left false b e h = absurd cc
