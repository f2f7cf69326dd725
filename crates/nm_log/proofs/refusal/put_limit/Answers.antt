use Rattle.std.proofs.Common.{codes, ◌++◌, ◌∙◌, List, ℕ, subst}
use Rattle.nm_io.specs.Observed.{Puts}
use Rattle.nm_log.proofs.refusal.put_limit.Goals as goal

pub returns : goal.returns
returns g c =
    subst (λ (name : List ℕ). Puts {T = Unit {0}} (g.E.Sink.observed c.args.err.now) (g.E.Sink.observed c.put_three.new.err) c.put_three.result (codes "notmuch: limit: " ++ (name ++ codes "\n")))
    (c.as_bytes.ensures.value ∙ c.limit_name-name.ensures) c.put_three.ensures
