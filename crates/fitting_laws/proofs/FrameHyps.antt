-- The `$e` of a frame have labels of the database, and these differ.
use Rattle.std.specs.Prelude.{◌≡◌, ◌&&◌, ◌||◌, not, ℕ, Bool, true, false, List, [], ◌∷◌, map, filter, reverse, take, Contains, Some, None, codes, refl}
use Rattle.std.specs.List.{AllByRecursion, list_any}
use Rattle.std.proofs.Common.{sym, subst, ◌∙◌, inl, inr}
use Rattle.std.proofs.lemmas.Bool.{and_parts, or_cases, or_left, or_right, both_ways}
use Rattle.mm_base.specs.declared.symbols.Label.{Label}
use Rattle.mm_base.specs.declared.kinds.Kinds.{Kinds}
use Rattle.mm_model.specs.declared.frames.Hyp.{Hyp}
use Rattle.mm_model.specs.declared.frames.Frame.{Frame}
use Rattle.mm_model.specs.Names.{Name}
use Rattle.mm_model.specs.Words.{Word}
use Rattle.mm_model.specs.Statements.{Statement, statements, database_fault, is, is_one_of, body, has_keyword, symbols_in, second, contains, active}
use Rattle.mm_model.specs.Frames.{symbols, below, is_hypothesis, hypothesis_of, mandatory_variables, mandatory_hypotheses}
use Rattle.mm_model.specs.Productions.{essentials}
use Rattle.mm_model.specs.Book.{Database, IsDatabaseOf}
use Rattle.model_laws.proofs.FrameFacts.{frame_known}
use Rattle.model_laws.proofs.Listed.{Pairwise, pairwise-filter}
use Rattle.again_laws.proofs.Lists.{all_of}
use Rattle.push_laws.proofs.Books.{is_book}
use Rattle.push_laws.proofs.Facts.{IsBook, NamesUnlike}

-- what holds of all that pass one test holds of those that pass a stronger one
module _ {X Y : Type 0} (h : X → Y) (p q : X → Bool) (stronger : (x : X) → p x ≡ true → q x ≡ true) where
  all_sub : (P : Y → Type 0) (xs : List X) → AllByRecursion P (map h (filter q xs)) → AllByRecursion P (map h (filter p xs))
  all_sub P [] a = tt
  all_sub P (x ∷ xs) a = by (p x) refl (q x) refl (all_sub P xs)
    where
      by : (b : Bool) → p x ≡ b → (c : Bool) → q x ≡ c → (AllByRecursion P (map h (filter q xs)) → AllByRecursion P (map h (filter p xs))) → AllByRecursion P (map h (filter p (x ∷ xs)))
      by true e true f more = let both : P (h x) × AllByRecursion P (map h (filter q xs)) = rw f at a in rw e (both.0, more both.1)
      by true e false f more = absurd (both_ways (q x) f (stronger x e))
      by false e true f more = let both : P (h x) × AllByRecursion P (map h (filter q xs)) = rw f at a in rw e (more both.1)
      by false e false f more = let rest : AllByRecursion P (map h (filter q xs)) = rw f at a in rw e (more rest)

  pairs_sub : (R : Y → Y → Type 0) (xs : List X) → Pairwise R (map h (filter q xs)) → Pairwise R (map h (filter p xs))
  pairs_sub R [] a = tt
  pairs_sub R (x ∷ xs) a = by (p x) refl (q x) refl (pairs_sub R xs)
    where
      by : (b : Bool) → p x ≡ b → (c : Bool) → q x ≡ c → (Pairwise R (map h (filter q xs)) → Pairwise R (map h (filter p xs))) → Pairwise R (map h (filter p (x ∷ xs)))
      by true e true f more = let both : AllByRecursion (R (h x)) (map h (filter q xs)) × Pairwise R (map h (filter q xs)) = rw f at a in rw e (all_sub (R (h x)) xs both.0, more both.1)
      by true e false f more = absurd (both_ways (q x) f (stronger x e))
      by false e true f more = let both : AllByRecursion (R (h x)) (map h (filter q xs)) × Pairwise R (map h (filter q xs)) = rw f at a in rw e (more both.1)
      by false e false f more = let rest : Pairwise R (map h (filter q xs)) = rw f at a in rw e (more rest)

-- a statement with one of two keywords
one_of : (k j : List ℕ) (ws : List Word) → list_any (is k) ws ≡ true → list_any (is_one_of (k ∷ j ∷ [])) ws ≡ true
one_of k j [] h = h
one_of k j (w ∷ ws) h = elim (or_cases (is k w) (list_any (is k) ws) h) [
  | inl d ↦ or_left (is_one_of (k ∷ j ∷ []) w) (list_any (is_one_of (k ∷ j ∷ [])) ws) (or_left (is k w) (is j w || false) d)
  | inr d ↦ or_right (is_one_of (k ∷ j ∷ []) w) (list_any (is_one_of (k ∷ j ∷ [])) ws) (one_of k j ws d)
]

other_of : (k j : List ℕ) (ws : List Word) → list_any (is j) ws ≡ true → list_any (is_one_of (k ∷ j ∷ [])) ws ≡ true
other_of k j [] h = h
other_of k j (w ∷ ws) h = elim (or_cases (is j w) (list_any (is j) ws) h) [
  | inl d ↦ or_left (is_one_of (k ∷ j ∷ []) w) (list_any (is_one_of (k ∷ j ∷ [])) ws) (or_right (is k w) (is j w || false) (or_left (is j w) false d))
  | inr d ↦ or_right (is_one_of (k ∷ j ∷ []) w) (list_any (is_one_of (k ∷ j ∷ [])) ws) (other_of k j ws d)
]

module _ (kinds : Kinds) (text : List ℕ) (db : Database) (its : IsDatabaseOf kinds text db) (sound : database_fault text ≡ None) where
  abbrev ss : List Statement
  ss = statements text

  abbrev pub book : IsBook db
  book = is_book kinds text db its sound

  pub names_differ : (l : Label) (f : Frame) → db.frame l ≡ Some f → Pairwise NamesUnlike (essentials f.hyps)
  names_differ l f i =
      let k = frame_known ss l f (sym (its.frame l) ∙ i) in
      let mandatory = mandatory_variables (symbols ss) (below ss k.at) k.statement in
      let placed : Pairwise NamesUnlike (map (hypothesis_of (symbols ss)) (filter is_hypothesis (reverse (active (below ss k.at))))) =
      subst (λ a. Pairwise NamesUnlike a.hyps) (its.active_at k.at) (book.hyps_apart k.at).differ in
      let own : Pairwise NamesUnlike (map (hypothesis_of (symbols ss)) (mandatory_hypotheses mandatory (below ss k.at))) =
      pairs_sub (hypothesis_of (symbols ss)) _ is_hypothesis (λ h c. hypothesis mandatory h c) NamesUnlike (reverse (active (below ss k.at))) placed in
      pairwise-filter NamesUnlike (λ (h : Hyp). not h.floating) f.hyps (subst (λ (x : Frame). Pairwise NamesUnlike x.hyps) k.frame own)
    where
      hypothesis : (mandatory : List Name) (h : Statement)
          → (has_keyword (codes "$e") h || (has_keyword (codes "$f") h && list_any (contains mandatory) (second (symbols_in h)))) ≡ true → is_hypothesis h ≡ true
      hypothesis mandatory h c = elim (or_cases (has_keyword (codes "$e") h) (has_keyword (codes "$f") h && list_any (contains mandatory) (second (symbols_in h))) c) [
        | inl e ↦ other_of (codes "$f") (codes "$e") (take 1 (body h)) e
        | inr f ↦ one_of (codes "$f") (codes "$e") (take 1 (body h)) (and_parts (has_keyword (codes "$f") h) (list_any (contains mandatory) (second (symbols_in h))) f).0
      ]

  pub hyp_listed : (l : Label) (f : Frame) → db.frame l ≡ Some f → (h : Hyp) → Contains (essentials f.hyps) h → Contains db.labels h.name
  hyp_listed l f i h m =
      let there = all_of (Contains (db.active_at f.at).hyps) (essentials f.hyps) h (book.given l f i) m in
      all_of (λ (x : Hyp). Contains db.labels x.name) (db.active_at f.at).hyps h (book.hyps_apart f.at).labels there
