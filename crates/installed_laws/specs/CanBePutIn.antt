-- What a theorem has to be, so that a text without a fault has none with the theorem in it.
use Rattle.std.specs.Prelude.{◌≡◌, ◌≤◌, ℕ, Bool, true, false, not, ◌&&◌, ◌||◌, List, [], ◌∷◌, length}
use Rattle.std.specs.List.{AllByRecursion, list_all, list_any}
use Rattle.std.specs.Str.{bytes_eq}
use Rattle.mm_model.specs.Labels.{is_label_byte}
use Rattle.mm_model.specs.Names.{Name, contains, has_twice}
use Rattle.mm_model.specs.Tokens.{is_bad_byte}
use Rattle.mm_model.specs.Statements.{Statement, statements, constants, variables, typed}
use Rattle.mm_model.specs.Frames.{below}
use Rattle.install_model.specs.declared.install.NewTheorem.{NewTheorem}
use Rattle.install_model.specs.Moved.{new_labels}
use Rattle.install_laws.specs.InstalledStatements.{IsPlainTheorem}
use Rattle.install_laws.specs.InstalledActive.{IsOutside}
use Rattle.install_laws.specs.InstalledDatabase.{HasNewLabels}

-- ---- behind some statements, the nearest first

-- a constant, or an active variable with an active `$f`
abbrev pub is_meant : List Statement → Name → Bool
is_meant before n = contains (constants before) n || (contains (variables before) n && contains (typed before) n)

-- the symbols of a formula: a constant, and then constants and active variables with an active `$f`
abbrev pub is_formula : List Statement → List Name → Bool
is_formula before [] = false
is_formula before (c ∷ ns) = contains (constants before) c && list_all (is_meant before) ns

-- two different active variables
abbrev pub is_pair : List Statement → Name × Name → Bool
is_pair before p = contains (variables before) p.0 && contains (variables before) p.1 && not (bytes_eq p.0 p.1)

-- ---- a theorem that can be put in at a place

pub record CanBePutIn (text : List ℕ) (place : ℕ) (t : NewTheorem) : Type 0 where
  -- the place is one of the text, where no block is open
  pub within : place ≤ length (statements text)
  pub outside : IsOutside text place
  -- its names are words without `$`, and there is no `$` in its proof
  pub plain : IsPlainTheorem t
  -- its labels have the bytes of labels, are none of the text, and differ
  pub label_bytes : AllByRecursion (λ n. list_all is_label_byte n ≡ true) (new_labels t)
  pub labels_new : HasNewLabels text t
  pub labels_differ : has_twice (new_labels t) ≡ false
  -- its pairs and its formulas are such at the place
  pub pairs : AllByRecursion (λ p. is_pair (below (statements text) place) p ≡ true) t.pairs
  pub hyps : AllByRecursion (λ (h : Name × List Name). is_formula (below (statements text) place) h.1 ≡ true) t.hyps
  pub formula : is_formula (below (statements text) place) t.formula ≡ true
  -- the bytes of its proof may stand in a database
  pub proof_bytes : list_any is_bad_byte t.proof ≡ false
