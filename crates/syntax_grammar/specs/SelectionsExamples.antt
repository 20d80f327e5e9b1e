-- Productions that are looked up, computed.
use Rattle.std.specs.Prelude.{◌≡◌, [], ◌∷◌, refl}
use Rattle.mm_model.specs.Names.{sym, label}
use Rattle.mm_model.specs.ProductionsExamples.{code, kept_chained, kept_equal}
use Rattle.syntax_grammar.specs.Selections.{numbers, begins_const, begins_slot, by_first, chains_to}

-- one production begins with the constant, another has it behind a slot
pub first_constant : by_first kept_chained (sym 4) ≡ label 8 ∷ []
first_constant = refl

pub no_first : by_first kept_equal (sym 3) ≡ []
no_first = refl

-- of two chains, in their order; a production with more than a slot is none
pub two_chains : chains_to kept_chained (code 3) ≡ label 4 ∷ label 7 ∷ []
two_chains = refl

pub one_chain : chains_to kept_chained (code 2) ≡ label 3 ∷ []
one_chain = refl

pub no_chain : chains_to kept_equal (code 0) ≡ []
no_chain = refl

-- the numbers of those that begin with the constant, with a slot of the one typecode, and with a slot of the other, which in
-- the last of them is not the first of its frame
pub with_constant : numbers (begins_const 4) 0 kept_chained ≡ 3 ∷ []
with_constant = refl

pub with_slot : numbers (begins_slot 1) 0 kept_chained ≡ 0 ∷ 2 ∷ []
with_slot = refl

pub with_second_slot : numbers (begins_slot 2) 0 kept_chained ≡ 1 ∷ 4 ∷ []
with_second_slot = refl
