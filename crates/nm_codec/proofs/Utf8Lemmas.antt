-- The test of UTF-8 and the fact. For the proofs of `str` and `text_len`.
use Rattle.std.proofs.lemmas.Str.{IsUtf8-from_is_utf8, is_utf8-from_IsUtf8}

pub ruleset utf8 = (IsUtf8-from_is_utf8, is_utf8-from_IsUtf8)
