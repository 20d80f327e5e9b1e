use Rattle.sheet_laws.proofs.SpellableLaws.{read_is_spellable}
use Rattle.sheet_laws.proofs.read_is_spellable.Goals as goal

pub returns : goal.returns
returns c = read_is_spellable
