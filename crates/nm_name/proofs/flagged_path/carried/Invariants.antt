use Rattle.std.proofs.Common.{◌≡◌, filter, string_bytes, take}
use Rattle.nm_name.specs.FlaggedPath.{AreLetters, is_carried}
use Rattle.nm_name.proofs.flagged_path.carried.Given as goal

abbrev pub invariant-letters : goal.invariant-letters
invariant-letters l = (string_bytes l.text ≡ filter (is_carried l.fn.letters l.fn.flags) (take l.letter-index l.alphabet)) × AreLetters (string_bytes l.text)
