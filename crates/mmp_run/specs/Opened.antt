-- What came of opening the file of a database. This is part of the proof, and not of the claim.
use Rattle.std.specs.Prelude.{◌≡◌, ◌⊎◌, ℕ, List, [], Option, Some, IfSome, IsSomeAnd}
use Rattle.call_answers.specs.declared.ending.Ending.{Ending}
use Rattle.call_answers.specs.Given.{read_fault}
use Rattle.mm_base.specs.Outside.{Files, Rose}
use Rattle.mm_base.specs.declared.status.Status.TheVariants.{Database}
use Rattle.mm_frames.specs.Contents.{Contents, contents_of}
use Rattle.mmp_run.specs.declared.opening.Opened.{Opened}
use Rattle.mmp_run.specs.declared.opening.Opened.TheVariants as opened
use Rattle.mmp_run.specs.Refused.{IsAccepted, IsDatabaseRefusal}

-- what a store that tells its files has under a name
abbrev pub Has : Option Files → List ℕ → List ℕ → Type 0
Has told name text = IfSome told (λ files. files name ≡ Some text)

-- the ending refuses the text under a name
pub record IsRefused (told : Option Files) (name : List ℕ) (end : Ending) : Type 0 where
  pub status : end.status ≡ Database
  pub out : end.out ≡ []
  pub due : IfSome told (λ files. IsSomeAnd (files name) (λ text. IsDatabaseRefusal text end))

-- the ending names a file that failed to be read
pub record IsUnread (before now : List ℕ → ℕ) (name : List ℕ) (end : Ending) : Type 0 where
  pub rose : Rose (before name) (now name)
  pub says : end ≡ read_fault name

-- the text under a name is that of a database without a fault
pub record IsOpen (told : Option Files) (name text : List ℕ) : Type 0 where
  pub has : Has told name text
  pub accepted : IsAccepted text

-- these are its statements
pub record IsListedText (told : Option Files) (name text : List ℕ) (contents : Contents) : Type 0 where
  pub is_open : IsOpen told name text
  pub contents_are : contents ≡ contents_of text

abbrev pub IsOpenedDatabase : Option Files → (List ℕ → ℕ) → (List ℕ → ℕ) → List ℕ → Opened → Type 0
IsOpenedDatabase told before now name (opened.Database text frames) = IsListedText told name text frames
IsOpenedDatabase told before now name (opened.Refused end) = IsRefused told name end ⊎ IsUnread before now name end
