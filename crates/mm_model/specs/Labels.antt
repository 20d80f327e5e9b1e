-- Labels (Metamath book, section 4.1.1).
use Rattle.std.specs.Prelude.{ℕ, Bool, not, ◌&&◌, ◌||◌, ◌==◌, List, length, nat_le}
use Rattle.std.specs.List.{list_all}

-- letters, digits, `-`, `_` and `.`
abbrev pub is_label_byte : ℕ → Bool
is_label_byte b = (nat_le 48 b && nat_le b 57) || (nat_le 65 b && nat_le b 90) || (nat_le 97 b && nat_le b 122) || b == 45 || b == 95 || b == 46

abbrev pub is_label : List ℕ → Bool
is_label bytes = not (length bytes == 0) && list_all is_label_byte bytes
