use Rattle.nm_mime.specs.Children.{delimiters_of}
use Rattle.nm_mime.proofs.BetweenLemmas.{all_between}
use Rattle.nm_mime.proofs.laws.parts_stand_between_delimiters.Goals as goal

pub returns : goal.returns
returns c = λ boundary bytes. all_between (delimiters_of boundary) bytes
