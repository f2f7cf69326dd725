use Rattle.std.proofs.Common.{subst, sym}
use Rattle.std.specs.Prelude.{IsUtf8}
use Rattle.nm_text.proofs.Utf8Lemmas.{lower_utf8}
use Rattle.nm_text.proofs.case.lowercase.Goals as goal

pub returns-clause-text : goal.returns-clause-text
returns-clause-text c = λ text. subst IsUtf8 (sym c.in_ok-lower.ensures) (lower_utf8 c.args.bytes.now text)
