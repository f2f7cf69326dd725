use Rattle.nm_header.proofs.LawLemmas.{together}
use Rattle.nm_header.proofs.laws.a_mail_is_its_header_and_its_body.Goals as goal

pub returns : goal.returns
returns c = λ bytes. together bytes (c.nothing_is_cut_away.ensures.lines bytes)
