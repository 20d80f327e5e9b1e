-- The faults of an opened database as faults of the definitions.
use Rattle.std.specs.Prelude.{Option, Some, None}
use Rattle.mm_model.specs.Faults.{Fault, fault}
use Rattle.mm_tokens.specs.declared.token.TokenFault.{TokenFault}
use Rattle.mm_tokens.specs.declared.token.TokenFault.TheVariants as token
use Rattle.mm_tokens.specs.Tokens.{IsFault as IsTokenFault}
use Rattle.mm_frames.specs.declared.fault.ReadFault.{ReadFault}
use Rattle.mm_frames.specs.declared.fault.ReadFault.TheVariants as read
use Rattle.mm_frames.specs.Faults.{IsFault as IsReadFault}
use Rattle.mm_database.specs.declared.faults.DbFault.{DbFault}
use Rattle.mm_database.specs.declared.faults.DbFault.TheVariants.{Token, Read, Memory}

-- the fault that it stands for; none where memory ran out
abbrev pub token_fault : TokenFault → Option Fault
token_fault (token.BadByte at) = Some (fault at 1)
token_fault (token.OpenComment at) = Some (fault at 2)
token_fault (token.CommentInComment at) = Some (fault at 3)
token_fault (token.BadKeyword at) = Some (fault at 4)
token_fault token.Memory = None

abbrev pub read_fault : ReadFault → Option Fault
read_fault (read.Include at) = Some (fault at 10)
read_fault (read.ConstInBlock at) = Some (fault at 11)
read_fault (read.Redeclared at) = Some (fault at 12)
read_fault (read.NotActive at) = Some (fault at 13)
read_fault (read.NoType at) = Some (fault at 14)
read_fault (read.TwoTypes at) = Some (fault at 15)
read_fault (read.FirstNotConst at) = Some (fault at 16)
read_fault (read.LabelTaken at) = Some (fault at 17)
read_fault (read.LabelMissing at) = Some (fault at 18)
read_fault (read.LabelExtra at) = Some (fault at 19)
read_fault (read.BadLabel at) = Some (fault at 20)
read_fault (read.Unended at) = Some (fault at 21)
read_fault (read.BlockOpen at) = Some (fault at 22)
read_fault (read.BlockUnopened at) = Some (fault at 23)
read_fault (read.DistinctShort at) = Some (fault at 24)
read_fault (read.DistinctTwice at) = Some (fault at 25)
read_fault (read.EmptyFormula at) = Some (fault at 26)
read_fault (read.BadHypothesis at) = Some (fault at 27)
read_fault (read.NoProof at) = Some (fault at 28)
read_fault (read.StrayToken at) = Some (fault at 29)
read_fault read.Memory = None

abbrev pub fault_of : DbFault → Option Fault
fault_of (Token e) = token_fault e
fault_of (Read e) = read_fault e
fault_of Memory = None

-- the error is want of memory, or this first fault
abbrev pub IsDbFault : DbFault → Option Fault → Type 0
IsDbFault (Token e) first = IsTokenFault e first
IsDbFault (Read e) first = IsReadFault e first
IsDbFault Memory first = Unit {0}

-- want of memory is told in one way
abbrev pub IsTold : DbFault → Type 0
IsTold (Token token.Memory) = ⊥
IsTold (Read read.Memory) = ⊥
IsTold e = Unit {0}
