use Rattle.nm_query.proofs.GapLemmas.{tokens-parted}
use Rattle.nm_query.proofs.token_laws.white_space_parts_tokens.Goals as goal

pub returns : goal.returns
returns c = tokens-parted
