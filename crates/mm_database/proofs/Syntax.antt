-- Whether an assertion can be a production, test by test.
use Rattle.std.specs.Prelude.{◌≡◌, ◌&&◌, not, Bool, true, false, refl}
use Rattle.std.proofs.Common.{sym, ◌∙◌}
use Rattle.mm_base.specs.declared.symbols.Sym.{Sym}
use Rattle.mm_model.specs.declared.frames.Frame.{Frame}
use Rattle.mm_model.specs.Statements.{is_empty}
use Rattle.mm_model.specs.Productions.{is_syntax, begins_with, essentials}
use Rattle.mm_database.specs.Productions.{all_floating}
use Rattle.mm_database.proofs.Floats.{no_essentials}

abbrev tests : Bool → Bool → Bool → Bool → Bool
tests a b c d = a && not b && c && d

first_fails : (a b c d : Bool) → a ≡ false → false ≡ tests a b c d
first_fails true b c d e = absurd (cc)
first_fails false b c d e = refl

second_fails : (a b c d : Bool) → b ≡ true → false ≡ tests a b c d
second_fails true true c d e = refl
second_fails true false c d e = absurd (cc)
second_fails false b c d e = refl

third_fails : (a b c d : Bool) → c ≡ false → false ≡ tests a b c d
third_fails true true c d e = refl
third_fails true false true d e = absurd (cc)
third_fails true false false d e = refl
third_fails false b c d e = refl

last_decides : (a b c d : Bool) → a ≡ true → b ≡ false → c ≡ true → d ≡ tests a b c d
last_decides true true c d e f g = absurd (cc)
last_decides true false true d e f g = refl
last_decides true false false d e f g = absurd (cc)
last_decides false b c d e f g = absurd (cc)

module _ (provable : Sym) (f : Frame) where
  pub no_axiom : f.is_axiom ≡ false → false ≡ is_syntax provable f
  no_axiom e = first_fails f.is_axiom (begins_with provable f.formula) (is_empty (essentials f.hyps)) (is_empty f.pairs) e

  pub is_provable : begins_with provable f.formula ≡ true → false ≡ is_syntax provable f
  is_provable e = second_fails f.is_axiom (begins_with provable f.formula) (is_empty (essentials f.hyps)) (is_empty f.pairs) e

  pub has_essential : all_floating f.hyps ≡ false → false ≡ is_syntax provable f
  has_essential e = third_fails f.is_axiom (begins_with provable f.formula) (is_empty (essentials f.hyps)) (is_empty f.pairs) (sym (no_essentials f.hyps) ∙ e)

  pub by_pairs : f.is_axiom ≡ true → begins_with provable f.formula ≡ false → all_floating f.hyps ≡ true → is_empty f.pairs ≡ is_syntax provable f
  by_pairs a b c = last_decides f.is_axiom (begins_with provable f.formula) (is_empty (essentials f.hyps)) (is_empty f.pairs) a b (sym (no_essentials f.hyps) ∙ c)
