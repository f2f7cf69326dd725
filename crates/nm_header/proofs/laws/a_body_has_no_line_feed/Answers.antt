use Rattle.nm_header.proofs.BodyLemmas.{bodies_free}
use Rattle.nm_header.proofs.laws.a_body_has_no_line_feed.Goals as goal

pub returns : goal.returns
returns c = λ bytes. bodies_free bytes
