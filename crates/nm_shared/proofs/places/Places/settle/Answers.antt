use Rattle.std.proofs.Common.{ap, ◌∙◌, ◌++◌}
use Rattle.nm_shared.specs.Hashed.{at}
use Rattle.nm_shared.proofs.places.Places.settle.Goals as goal

pub returns : goal.returns
returns c = λ hash.
    ap (λ first. at hash (first ++ c.take_in.new.self)) c.new.ensures
    ∙ c.in-Ok.ensures.found hash
    ∙ ap (at hash) c.self.view_is
