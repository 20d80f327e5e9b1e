-- The faults of an opened database as first faults of its text.
use Rattle.std.proofs.Common.{◌≡◌, ◌≢◌, Option, IsSome, refl}
use Rattle.mm_model.specs.Faults.{Fault}
use Rattle.mm_tokens.specs.declared.token.TokenFault.TheVariants as token
use Rattle.mm_frames.specs.declared.fault.ReadFault.TheVariants as read
use Rattle.mm_database.specs.declared.faults.DbFault.{DbFault}
use Rattle.mm_database.specs.declared.faults.DbFault.TheVariants.{Token, Read, Memory}
use Rattle.mm_database.specs.Faults.{IsDbFault, IsTold, fault_of}

-- a fault that is not want of memory stands for one of the text
pub record Stands (f : DbFault) (first : Option Fault) : Type 0 where
  pub has : IsSome (fault_of f)
  pub is : first ≡ fault_of f

pub stands : (f : DbFault) (first : Option Fault) → f ≢ Memory → IsTold f → IsDbFault f first → Stands f first
stands (Token (token.BadByte at)) first n t h = record { has = refl; is = h }
stands (Token (token.OpenComment at)) first n t h = record { has = refl; is = h }
stands (Token (token.CommentInComment at)) first n t h = record { has = refl; is = h }
stands (Token (token.BadKeyword at)) first n t h = record { has = refl; is = h }
stands (Token token.Memory) first n t h = absurd t
stands (Read (read.Include at)) first n t h = record { has = refl; is = h }
stands (Read (read.ConstInBlock at)) first n t h = record { has = refl; is = h }
stands (Read (read.Redeclared at)) first n t h = record { has = refl; is = h }
stands (Read (read.NotActive at)) first n t h = record { has = refl; is = h }
stands (Read (read.NoType at)) first n t h = record { has = refl; is = h }
stands (Read (read.TwoTypes at)) first n t h = record { has = refl; is = h }
stands (Read (read.FirstNotConst at)) first n t h = record { has = refl; is = h }
stands (Read (read.LabelTaken at)) first n t h = record { has = refl; is = h }
stands (Read (read.LabelMissing at)) first n t h = record { has = refl; is = h }
stands (Read (read.LabelExtra at)) first n t h = record { has = refl; is = h }
stands (Read (read.BadLabel at)) first n t h = record { has = refl; is = h }
stands (Read (read.Unended at)) first n t h = record { has = refl; is = h }
stands (Read (read.BlockOpen at)) first n t h = record { has = refl; is = h }
stands (Read (read.BlockUnopened at)) first n t h = record { has = refl; is = h }
stands (Read (read.DistinctShort at)) first n t h = record { has = refl; is = h }
stands (Read (read.DistinctTwice at)) first n t h = record { has = refl; is = h }
stands (Read (read.EmptyFormula at)) first n t h = record { has = refl; is = h }
stands (Read (read.BadHypothesis at)) first n t h = record { has = refl; is = h }
stands (Read (read.NoProof at)) first n t h = record { has = refl; is = h }
stands (Read (read.StrayToken at)) first n t h = record { has = refl; is = h }
stands (Read read.Memory) first n t h = absurd t
stands Memory first n t h = absurd (n refl)
