-- The words of the command line.
use Rattle.std.specs.Prelude.{ℕ, suc, Bool, not, ◌&&◌, ◌||◌, ◌==◌, List, [], ◌∷◌, length, drop, find, map, take_while, nat_eq, if◌then◌else◌, Option}
use Rattle.std.specs.Prelude.{Some, None, option_map, option_and_then, decimal, codes}
use Rattle.std.specs.List.{list_all, prefix_len, range_with_len, starts_with}
use Rattle.std.specs.Option.{option_map_or}
use Rattle.std.specs.Str.{bytes_eq}
use Rattle.mm_base.specs.Limits.{most_trial_blocks}
use Rattle.mm_model.specs.Names.{Name, contains, has_twice}
use Rattle.written_model.specs.declared.options.DvMode.TheVariants as dv
use Rattle.written_model.specs.declared.options.Options.{Options}
use Rattle.written_model.specs.declared.options.ProofStyle.TheVariants as style

abbrev pub usage_line : List ℕ
usage_line = codes "usage: mmp unify [--proof=normal|compressed] [--in-place] [--dv=add|given] [--provable=T] [--logic=T] DB SHEET | mmp verify DB LABEL | mmp trial N | mmp export [options] DB LABEL | mmp install [options] DB SHEET | mmp select [options] DB SHEET STEP | mmp auto [options] DB SHEET"

-- ---- options

-- an option is a name and, behind the first `=`, a value
abbrev pub option_name : Name → Name
option_name word = take_while (λ b. not (b == 61)) word

abbrev pub option_value : Name → Name
option_value word = drop (suc (length (option_name word))) word

-- the value of the option with this name, or what stands for it where it is not given
abbrev pub value_or : Name → Name → List Name → Name
value_or default name words = option_map_or option_value (find (λ word. bytes_eq (option_name word) name) words) default

-- the options that are listed whole, and those whose value is any name of a typecode
abbrev pub listed_options : List Name
listed_options = codes "--proof=normal" ∷ codes "--proof=compressed" ∷ codes "--dv=add" ∷ codes "--dv=given" ∷ []

abbrev pub typecode_options : List Name
typecode_options = codes "--provable" ∷ codes "--logic" ∷ []

-- the option that `unify` has beside those of `export`, `install`, `select` and `auto`
abbrev pub in_place : Name
in_place = codes "--in-place"

-- an option of each command that has options
abbrev pub is_known : Name → Bool
is_known word = contains listed_options word || (contains typecode_options (option_name word) && not (length (option_value word) == 0))

abbrev pub options_in : List Name → Options
options_in words = record {
  style = if bytes_eq (value_or (codes "compressed") (codes "--proof") words) (codes "normal") then style.Normal else style.Compressed;
  kinds = record { provable = value_or (codes "|-") (codes "--provable") words; logic = value_or (codes "wff") (codes "--logic") words };
  dv = if bytes_eq (value_or (codes "add") (codes "--dv") words) (codes "given") then dv.Given else dv.Add;
}

-- the two typecodes have one name
abbrev pub has_one_typecode : Options → Bool
has_one_typecode options = bytes_eq options.kinds.provable options.kinds.logic

-- options that pass a test, in any order, each name at most once, and two typecodes
abbrev pub options_where : (Name → Bool) → List Name → Option Options
options_where test words =
    if list_all test words && not (has_twice (map option_name words)) && not (has_one_typecode (options_in words)) then Some (options_in words) else None

-- the options of `export`, `install`, `select` and `auto`, and those of `unify`
abbrev pub options_of : List Name → Option Options
options_of words = options_where is_known words

abbrev pub is_known_by_unify : Name → Bool
is_known_by_unify word = is_known word || bytes_eq word in_place

abbrev pub unify_options : List Name → Option Options
unify_options words = options_where is_known_by_unify words

-- ---- commands

-- a worksheet over a database: the options, and the names of the two files
pub record SheetCommand : Type 0 where
  pub options : Options
  pub database : Name
  pub sheet : Name

-- a theorem of a database: the name of the file, and the theorem's label
pub record TheoremCommand : Type 0 where
  pub database : Name
  pub theorem : Name

pub data Command : Type 0 where
  -- to unify a worksheet, and whether it is written in its own place
  unify : SheetCommand → Bool → Command
  -- to check the proof of a theorem
  verify : TheoremCommand → Command
  -- to try the program by itself, with so many blocks
  trial : ℕ → Command
  -- to print an accepted proof as a finished worksheet
  export : Options → TheoremCommand → Command
  -- to print the database with the theorem of a worksheet in it
  install : SheetCommand → Command
  -- to tell the assertions that fit the step of a name
  select : SheetCommand → Name → Command
  -- to unify a worksheet whose steps are filled
  auto : SheetCommand → Command

abbrev pub sheet_command : Options → Name → Name → SheetCommand
sheet_command options database sheet = record { options = options; database = database; sheet = sheet }

abbrev pub theorem_command : Name → Name → TheoremCommand
theorem_command database theorem = record { database = database; theorem = theorem }

abbrev pub is_option : Name → Bool
is_option word = starts_with nat_eq word (codes "--")

-- a file, a label or a step: not empty, and no option
abbrev pub is_name : Name → Bool
is_name word = not (length word == 0) && not (is_option word)

-- the words behind the options
abbrev pub leading : List Name → List Name
leading words = take_while is_option words

abbrev pub behind : List Name → List Name
behind words = drop (prefix_len is_option words) words

abbrev pub if_names : List Name → Command → Option Command
if_names words command = if list_all is_name words then Some command else None

-- two names, and nothing behind them
abbrev pub unify_of : Bool → List Name → Options → Option Command
unify_of is_in_place (database ∷ sheet ∷ []) options = if_names (database ∷ sheet ∷ []) (unify (sheet_command options database sheet) is_in_place)
unify_of is_in_place words options = None

abbrev pub verify_of : List Name → Option Command
verify_of (database ∷ theorem ∷ []) = if_names (database ∷ theorem ∷ []) (verify (theorem_command database theorem))
verify_of words = None

abbrev pub export_of : List Name → Options → Option Command
export_of (database ∷ theorem ∷ []) options = if_names (database ∷ theorem ∷ []) (export options (theorem_command database theorem))
export_of words options = None

abbrev pub install_of : List Name → Options → Option Command
install_of (database ∷ sheet ∷ []) options = if_names (database ∷ sheet ∷ []) (install (sheet_command options database sheet))
install_of words options = None

-- three names, and nothing behind them
abbrev pub select_of : List Name → Options → Option Command
select_of (database ∷ sheet ∷ step ∷ []) options = if_names (database ∷ sheet ∷ step ∷ []) (select (sheet_command options database sheet) step)
select_of words options = None

abbrev pub auto_of : List Name → Options → Option Command
auto_of (database ∷ sheet ∷ []) options = if_names (database ∷ sheet ∷ []) (auto (sheet_command options database sheet))
auto_of words options = None

-- a number from 1, in decimal
unfoldable pub trial_number : Name → Option ℕ
trial_number word = find (λ n. bytes_eq (decimal n) word) (range_with_len 1 most_trial_blocks)

abbrev pub trial_of : List Name → Option Command
trial_of (word ∷ []) = option_map trial (trial_number word)
trial_of words = None

-- options, and what stands behind them
abbrev pub with_options : (List Name → Options → Option Command) → List Name → Option Command
with_options rest words = option_and_then (rest (behind words)) (options_of (leading words))

-- a command by its first word
abbrev pub of_word : Name → List Name → Option Command
of_word word words =
    if bytes_eq word (codes "unify") then option_and_then (unify_of (contains (leading words) in_place) (behind words)) (unify_options (leading words))
    else (if bytes_eq word (codes "verify") then verify_of words
    else (if bytes_eq word (codes "trial") then trial_of words
    else (if bytes_eq word (codes "export") then with_options export_of words
    else (if bytes_eq word (codes "install") then with_options install_of words
    else (if bytes_eq word (codes "select") then with_options select_of words
    else (if bytes_eq word (codes "auto") then with_options auto_of words
    else None))))))

abbrev pub command_of : List Name → Option Command
command_of [] = None
command_of (word ∷ words) = of_word word words
