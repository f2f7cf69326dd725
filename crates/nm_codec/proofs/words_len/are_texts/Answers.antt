use Rattle.std.proofs.Common.{◌≡◌, ℕ, ◌-◌, sym, subst, length, length-drop, drop, take, arith}
use Rattle.std.specs.Str.{IsAscii}
use Rattle.nm_codec.proofs.HopLemmas.{ascii-texts}
use Rattle.nm_codec.proofs.words_len.are_texts.Goals as goal

pub returns-then-is_ascii : goal.returns-then-is_ascii
returns-then-is_ascii c =
    let bytes = c.args.bytes.now in
    let size : length bytes - length (drop c.args.len bytes) ≡ c.args.len = omega (arith, length-drop c.args.len bytes, c.requires.within) in
    let ascii : IsAscii (take c.args.len bytes) = subst IsAscii c.split_at.ensures.front c.if-is_ascii.ensures.cases in
    ascii-texts c.args.count bytes (drop c.args.len bytes) c.requires.words (subst (λ (k : ℕ). IsAscii (take k bytes)) (sym size) ascii)
