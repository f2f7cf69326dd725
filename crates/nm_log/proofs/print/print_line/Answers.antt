use Rattle.std.proofs.Common.{◌++◌, List, ℕ, subst, ◌∙◌}
use Rattle.nm_io.specs.Observed.{Puts}
use Rattle.nm_log.proofs.print.print_line.Goals as goal

pub returns : goal.returns
returns g c =
    let put : List ℕ → Type 0 = λ bytes. Puts {T = Unit {0}} (g.O.Sink.observed c.args.out.now) (g.O.Sink.observed c.put_two.new.err) c.put_two.result bytes in
    subst (λ (header : List ℕ). put (header ++ c.args.log.now.text)) (c.as_bytes.ensures.value ∙ (c.as_str.ensures.value ∙ c.header_of-header.ensures))
    (subst (λ (text : List ℕ). put (c.as_bytes.result.now ++ text)) c.as_slice.ensures c.put_two.ensures)
