-- What is put in is there, and so is what was.
use Rattle.std.proofs.Common.{ap, ◌∙◌, ◌||◌}
use Rattle.std.specs.List.{list_any}
use Rattle.nm_base.specs.SetLaws.{has-inserted}
use Rattle.nm_base.proofs.text_set.TextSet.insert.Goals as goal

pub returns-clause-has : goal.returns-clause-has
returns-clause-has g c = λ other.
    ap (list_any (g.T.PartialEq.eq other)) c.in_ok-insert.ensures.keys
    ∙ (has-inserted g.T.Ord.cmp g.T.PartialEq.eq g.met.T.Ord.matches_eq g.met.T.Eq.laws c.self.inside.set.keys c.args.text other
    ∙ ap (λ keys. g.T.PartialEq.eq other c.args.text || list_any (g.T.PartialEq.eq other) keys) c.self.view_is)
