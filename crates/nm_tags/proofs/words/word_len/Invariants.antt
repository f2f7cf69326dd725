use Rattle.std.proofs.Common.{◌≡◌, ◌+◌, ◌-◌, ◌≤◌, length, drop}
use Rattle.std.specs.List.{position_or_len}
use Rattle.nm_base.specs.Bounds.{is_white_space}
use Rattle.nm_tags.proofs.words.word_len.Given as goal

-- none so far
abbrev pub invariant-bytes : goal.invariant-bytes
invariant-bytes l = (l.at + position_or_len is_white_space (drop l.at l.text) ≡ position_or_len is_white_space l.text) × (l.at ≤ length l.text)

abbrev pub decreases-bytes : goal.decreases-bytes
decreases-bytes l = length l.text - l.at
