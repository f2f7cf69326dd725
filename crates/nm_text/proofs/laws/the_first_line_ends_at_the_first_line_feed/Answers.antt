use Rattle.nm_text.proofs.LineLemmas.{line_first, lines-contents}
use Rattle.nm_text.proofs.laws.the_first_line_ends_at_the_first_line_feed.Goals as goal

pub returns-clause-first : goal.returns-clause-first
returns-clause-first c = λ bytes some. line_first bytes some

pub returns-clause-contents : goal.returns-clause-contents
returns-clause-contents c = λ bytes. lines-contents bytes
