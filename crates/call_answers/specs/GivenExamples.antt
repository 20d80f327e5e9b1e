-- What a call leaves behind, on small calls: words that fit no command, a database that is not there, and a log with room for
-- ten bytes.
use Rattle.std.specs.Prelude.{ℕ, List, [], ◌∷◌, if◌then◌else◌, Some, codes, refl}
use Rattle.std.specs.Str.{bytes_eq}
use Rattle.std.proofs.Common.{inl, inr, lit≤}
use Rattle.call_answers.specs.declared.ending.Ending.{Ending}
use Rattle.call_answers.specs.CallAnswers.{bad_words, no_files}
use Rattle.call_answers.specs.CommandLine.{Command, verify, usage_line}
use Rattle.call_answers.specs.Given.{Told, told, IsGiven, SaysReadFault, IsCutShort, read_fault}
use Rattle.mm_base.specs.declared.status.Status.TheVariants as status
use Rattle.mm_model.specs.Names.{Name}
use Rattle.sheet_text.specs.Layout.{ended}

-- sinks that had nothing before, and a log with these bytes
abbrev empty : Told
empty = told (Some no_files) (Some []) (Some [])

abbrev logged : List ℕ → Told
logged bytes = told (Some no_files) (Some []) (Some bytes)

-- ---- words that fit no command

abbrev words : List Name
words = codes "verify" ∷ codes "P.mm" ∷ []

abbrev usage : Ending
usage = record { out = []; log = ended usage_line; status = status.Words }

pub given : IsGiven words no_files status.Words empty (logged (ended usage_line))
given = record { end = usage; answer = bad_words (record { out = refl; log = refl; status = refl }); gives = record { status = refl; text = (refl, refl); log = refl } }

-- ---- the file of a database is not there

abbrev theorem : Command
theorem = verify (record { database = codes "P.mm"; theorem = codes "th" })

abbrev none_failed : Name → ℕ
none_failed name = 0

abbrev one_failed : Name → ℕ
one_failed name = if bytes_eq name (codes "P.mm") then 1 else 0

pub unread : SaysReadFault theorem none_failed one_failed empty (logged (ended (codes "read fault P.mm")))
unread = record {
  end = read_fault (codes "P.mm");
  fault = record { name = codes "P.mm"; named = refl; in_turn = inl refl; rose = lit≤ tt; says = refl };
  gives = record { status = refl; text = (refl, refl); log = refl };
}

-- ---- a log that takes ten bytes

pub cut : IsCutShort words none_failed none_failed empty (logged (codes "usage: mmp"))
cut = record {
  end = usage;
  may = bad_words (record { out = refl; log = refl; status = refl });
  part = inr ((refl, refl), ((λ e. cc), (10, lit≤ tt, refl)));
}
