use Rattle.std.proofs.Common.{codes, ◌++◌, List, ℕ, subst, ◌∙◌}
use Rattle.nm_io.specs.Observed.{Puts}
use Rattle.nm_log.proofs.print.put_usage.Goals as goal

pub returns : goal.returns
returns g c =
    let line : List ℕ → List ℕ → List ℕ = λ kind word. codes "notmuch: usage: " ++ (kind ++ (codes ": " ++ (word ++ codes "\n"))) in
    let put : List ℕ → Type 0 = λ bytes. Puts {T = Unit {0}} (g.E.Sink.observed c.args.err.now) (g.E.Sink.observed c.put_five.new.err) c.put_five.result bytes in
    subst (λ (k : List ℕ). put (line k c.args.word.now)) (c.as_bytes.ensures.value ∙ c.kind_name-kind.ensures)
    (subst (λ (w : List ℕ). put (line c.as_bytes.result.now w)) c.as_bytes-2.ensures.value c.put_five.ensures)
