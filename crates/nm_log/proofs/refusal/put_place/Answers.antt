use Rattle.std.proofs.Common.{codes, ◌++◌, List, ℕ, subst}
use Rattle.nm_io.specs.Observed.{Puts}
use Rattle.nm_log.proofs.refusal.put_place.Goals as goal

pub returns : goal.returns
returns g c =
    let line : List ℕ → List ℕ → List ℕ = λ name place. codes "notmuch: bad index: file " ++ (name ++ (codes " at " ++ (place ++ codes "\n"))) in
    let put : List ℕ → Type 0 = λ bytes. Puts {T = Unit {0}} (g.E.Sink.observed c.args.err.now) (g.E.Sink.observed c.put_five.new.err) c.put_five.result bytes in
    subst (λ (name : List ℕ). put (line name c.args.place.now)) c.as_bytes.ensures.value
    (subst (λ (place : List ℕ). put (line c.as_bytes.result.now place)) c.as_bytes-2.ensures.value c.put_five.ensures)
