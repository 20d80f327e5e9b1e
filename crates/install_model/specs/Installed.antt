-- A theorem put into the text of a database.
use Rattle.std.specs.Prelude.{ℕ, zero, suc, ◌+◌, List, [], ◌∷◌, ◌++◌, length, take, drop, map, filter, flat_map, slice_index_or, unwrap_or, None, codes}
use Rattle.std.specs.List.{last_or}
use Rattle.std.specs.Option.{option_map_or}
use Rattle.mm_base.specs.declared.symbols.Pair.{Pair}
use Rattle.mm_model.specs.Names.{Name}
use Rattle.mm_model.specs.Words.{Word}
use Rattle.mm_model.specs.Statements.{Statement, statements}
use Rattle.mm_model.specs.Productions.{essentials}
use Rattle.mm_model.specs.Book.{Database, symbol_name}
use Rattle.sheet_text.specs.Layout.{ended, spaced}
use Rattle.written_model.specs.declared.options.Options.{Options}
use Rattle.written_model.specs.WrittenSteps.{WrittenStep, steps_in}
use Rattle.written_model.specs.Written.{Writing, formula_tokens, written_pairs, written_proof}
use Rattle.install_model.specs.declared.install.NewTheorem.{NewTheorem}

-- ---- where it goes

-- the byte behind a word
abbrev pub byte_behind : Word → ℕ
byte_behind w = w.start + length w.bytes

-- the byte behind the statement before a place; 0 where none is before it
abbrev pub place_byte : List Statement → ℕ → ℕ
place_byte ss zero = 0
place_byte ss (suc before) = option_map_or byte_behind (last_or None (slice_index_or ss before [])) 0

-- ---- what is put in

abbrev pub pair_line : Name × Name → List ℕ
pair_line p = spaced (codes "$d" ∷ p.0 ∷ p.1 ∷ codes "$." ∷ [])

abbrev pub hyp_line : Name × List Name → List ℕ
hyp_line h = spaced (h.0 ∷ codes "$e" ∷ h.1 ++ codes "$." ∷ [])

abbrev pub theorem_line : NewTheorem → List ℕ
theorem_line t = spaced (t.name ∷ codes "$p" ∷ t.formula ++ codes "$=" ∷ t.proof ∷ codes "$." ∷ [])

-- a block with the pairs, the `$e` and the theorem
abbrev pub block_lines : NewTheorem → List (List ℕ)
block_lines t = codes "${" ∷ map pair_line t.pairs ++ map hyp_line t.hyps ++ theorem_line t ∷ codes "$}" ∷ []

-- the block on lines of its own
abbrev pub block : NewTheorem → List ℕ
block t = 10 ∷ flat_map ended (block_lines t)

-- the text with the block at a byte
abbrev pub installed_at : List ℕ → ℕ → NewTheorem → List ℕ
installed_at text at t = take at text ++ block t ++ drop at text

-- the text with the block behind the statement before a place
abbrev pub installed : List ℕ → ℕ → NewTheorem → List ℕ
installed text place t = installed_at text (place_byte (statements text) place) t

-- ---- the theorem of a written worksheet

module _ (db : Database) (options : Options) (w : Writing) where
  abbrev pub named_pair : Pair → Name × Name
  named_pair p = (symbol_name db p.a, symbol_name db p.b)

  abbrev pub named_hyp : WrittenStep → Name × List Name
  named_hyp e = (unwrap_or e.reference [], formula_tokens db e.tree)

  -- how many `$e` are active at the place; the first `h` steps are these
  abbrev pub outer_hyps : ℕ
  outer_hyps = length (essentials (db.active_at w.bound.place).hyps)

  abbrev pub own_hyps : List WrittenStep
  own_hyps = drop outer_hyps (filter (λ (e : WrittenStep). e.hyp) (steps_in w.items))

  -- the tokens of `qed`, the last step
  abbrev pub last_formula : List Name
  last_formula = option_map_or (λ (e : WrittenStep). formula_tokens db e.tree) (last_or None (steps_in w.items)) []

  abbrev pub new_theorem : NewTheorem
  new_theorem = record {
    name = w.read.theorem;
    pairs = map named_pair (written_pairs db options w);
    hyps = map named_hyp own_hyps;
    formula = last_formula;
    proof = unwrap_or (written_proof db options w) [];
  }

  abbrev pub installed_text : List ℕ → List ℕ
  installed_text text = installed text w.bound.place new_theorem
