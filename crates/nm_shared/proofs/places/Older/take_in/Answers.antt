use Rattle.std.proofs.Common.{ap, ◌∙◌, ◌++◌}
use Rattle.nm_shared.specs.Hashed.{at}
use Rattle.nm_shared.proofs.PlacesLemmas.{merged_first}
use Rattle.nm_shared.proofs.places.Older.take_in.Goals as goal

pub returns-clause-found : goal.returns-clause-found
returns-clause-found c = λ hash.
    c.settle.ensures hash
    ∙ ap (λ first. at hash (first ++ c.self.inside.early)) c.in_ok-self-inside.ensures
    ∙ merged_first hash c.args.late.now c.self.inside.middle c.self.inside.early
    ∙ ap (λ rest. at hash (c.args.late.now ++ rest)) c.self.view_is
