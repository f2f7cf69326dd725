-- White space is ASCII, so what is left without it is text.
use Rattle.std.proofs.Common.{subst, sym}
use Rattle.std.specs.Prelude.{IsUtf8}
use Rattle.nm_text.proofs.Utf8Lemmas.{without_white_space_utf8}
use Rattle.nm_text.proofs.white_space.without_white_space.Goals as goal

pub text_of-requires : goal.text_of-requires
text_of-requires c = subst IsUtf8 (sym c.in_ok-kept.ensures) (without_white_space_utf8 c.as_bytes.result.now c.as_bytes.ensures.utf8)
