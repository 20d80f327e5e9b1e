-- What the options and a command of the program stand for. This is part of the proof, and not of the claim.
use Rattle.std.specs.Prelude.{ℕ, Bool, true, false, List, [], ◌∷◌, find, if◌then◌else◌, Option, Some, None, option_map, unwrap_or, codes}
use Rattle.std.specs.Borrow.{Bor}
use Rattle.std.specs.List.{list_all}
use Rattle.std.specs.Option.{option_copied}
use Rattle.std.specs.Str.{bytes_eq}
use Rattle.call_answers.specs.CommandLine as words
use Rattle.call_answers.specs.CommandLine.{option_name, option_value}
use Rattle.mm_model.specs.Names.{Name}
use Rattle.mmp_run.specs.declared.options.Choice.{Choice}
use Rattle.mmp_run.specs.declared.command.Command.{Command}
use Rattle.mmp_run.specs.declared.command.Command.TheVariants as command
use Rattle.written_model.specs.declared.options.Options.{Options}

-- the value of the first option with this name
abbrev pub value_in : Name → List Name → Option Name
value_in name words = option_map option_value (find (λ word. bytes_eq (option_name word) name) words)

-- a name, or what stands for it
abbrev pub chosen : Option Name → Name → Name
chosen name usual = unwrap_or name usual

abbrev pub options_shown : Choice → Options
options_shown c = record {
  style = c.style;
  kinds = record { provable = chosen (option_copied c.provable) (codes "|-"); logic = chosen (option_copied c.logic) (codes "wff") };
  dv = c.dv;
}

-- the options that a command knows, by whether it takes `--in-place`
abbrev pub known_by : Bool → Name → Bool
known_by true = words.is_known_by_unify
known_by false = words.is_known

-- two names
abbrev pub names_in : List Name → Option (Name × Name)
names_in (first ∷ second ∷ []) = if list_all words.is_name (first ∷ second ∷ []) then Some (first, second) else None
names_in _ = None

abbrev pub names_shown : Bor Name × Bor Name → Name × Name
names_shown p = (p.0.now, p.1.now)

-- three names
abbrev pub three_in : List Name → Option (Name × Name × Name)
three_in (first ∷ second ∷ third ∷ []) = if list_all words.is_name (first ∷ second ∷ third ∷ []) then Some (first, second, third) else None
three_in _ = None

abbrev pub three_shown : Bor Name × Bor Name × Bor Name → Name × Name × Name
three_shown p = (p.0.now, p.1.now, p.2.now)

abbrev pub unify_command : Choice → List ℕ → List ℕ → words.Command
unify_command choice database sheet = words.unify (words.sheet_command (options_shown choice) database sheet) choice.in_place

abbrev pub verify_command : List ℕ → List ℕ → words.Command
verify_command database theorem = words.verify (words.theorem_command database theorem)

abbrev pub export_command : Choice → List ℕ → List ℕ → words.Command
export_command choice database theorem = words.export (options_shown choice) (words.theorem_command database theorem)

abbrev pub install_command : Choice → List ℕ → List ℕ → words.Command
install_command choice database sheet = words.install (words.sheet_command (options_shown choice) database sheet)

abbrev pub select_command : Choice → List ℕ → List ℕ → List ℕ → words.Command
select_command choice database sheet step = words.select (words.sheet_command (options_shown choice) database sheet) step

abbrev pub auto_command : Choice → List ℕ → List ℕ → words.Command
auto_command choice database sheet = words.auto (words.sheet_command (options_shown choice) database sheet)

abbrev pub shown : Command → words.Command
shown (command.Unify choice database sheet) = unify_command choice database.now sheet.now
shown (command.Verify database theorem) = verify_command database.now theorem.now
shown (command.Trial blocks) = words.trial blocks
shown (command.Export choice database theorem) = export_command choice database.now theorem.now
shown (command.Install choice database sheet) = install_command choice database.now sheet.now
shown (command.Select choice database sheet step) = select_command choice database.now sheet.now step.now
shown (command.Auto choice database sheet) = auto_command choice database.now sheet.now
