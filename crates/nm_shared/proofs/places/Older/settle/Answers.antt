use Rattle.std.proofs.Common.{ap, ◌∙◌, ◌++◌}
use Rattle.nm_shared.specs.Hashed.{at}
use Rattle.nm_shared.proofs.PlacesLemmas.{merge_at}
use Rattle.nm_shared.proofs.places.Older.settle.Goals as goal

pub returns : goal.returns
returns c = λ hash.
    ap (λ first. at hash (first ++ c.in-Ok.merged)) c.new.ensures
    ∙ ap (at hash) c.in-Ok.ensures
    ∙ merge_at hash c.self.inside.middle c.self.inside.early
    ∙ ap (at hash) c.self.view_is
