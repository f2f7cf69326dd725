-- Base64, symbol by symbol: what the private functions say. Cited by `groups`.
use Rattle.std.specs.Prelude.{ℕ, zero, suc, ◌+◌, ◌*◌, ◌/◌, ◌%◌, List, [], ◌∷◌}

-- the byte that a symbol at a place of its group completes, with the symbol before it
abbrev pub made : ℕ → ℕ → ℕ → List ℕ
made zero last bits = []
made (suc zero) last bits = (last * 4 + bits / 16) ∷ []
made (suc (suc zero)) last bits = (last % 16 * 16 + bits / 4) ∷ []
made (suc (suc (suc place))) last bits = (last % 4 * 64 + bits) ∷ []
