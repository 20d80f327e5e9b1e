use Rattle.std.proofs.Common.{◌≡◌, ◌∷◌, ◌++◌, take, flat_map}
use Rattle.db_install.proofs.block.put_tokens.Given as goal

-- the tokens so far are put in
abbrev pub invariant-loop-token : goal.invariant-loop-token
invariant-loop-token l = l.text.items ≡ l.initial.text.items ++ flat_map (λ t. 32 ∷ t) (take l.token-index l.tokens)
