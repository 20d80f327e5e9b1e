-- The sizes past which an input or an output is refused, and up to which a step's places are tried in all orders.
use Rattle.std.specs.Prelude.{ℕ, ◌^◌}

-- the bytes of a database
abbrev pub most_database_bytes : ℕ
most_database_bytes = 2 ^ 28

-- the bytes of a worksheet, as it is read and as it is written
abbrev pub most_sheet_bytes : ℕ
most_sheet_bytes = 2 ^ 24

-- the tokens of a formula, its typecode among them
abbrev pub most_formula_tokens : ℕ
most_formula_tokens = 4096

-- the work size of a worksheet
abbrev pub most_work_size : ℕ
most_work_size = 2 ^ 24

-- the labels of a normal proof
abbrev pub most_proof_labels : ℕ
most_proof_labels = 2 ^ 20

-- the places of a step that are tried in all orders
abbrev pub most_ordered_places : ℕ
most_ordered_places = 6

-- the blocks of a trial
abbrev pub most_trial_blocks : ℕ
most_trial_blocks = 1000
