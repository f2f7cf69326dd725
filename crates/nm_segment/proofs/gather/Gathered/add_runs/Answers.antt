use Rattle.std.proofs.Common.{◌≡◌, ◌*◌, refl, sym, arith}
use Rattle.std.proofs.lemmas.Result.{on_ok_weaker}
use Rattle.nm_segment.proofs.GatherLemmas.{number_there}
use Rattle.nm_segment.proofs.PushLemmas.{runs_of_word}
use Rattle.nm_segment.proofs.gather.Gathered.add_runs.Goals as goal

pub returns : goal.returns
returns c = on_ok_weaker c.add_rows.result (λ made found h.
    runs_of_word c.args.self.now found c.args.word.now c.in-Some.number.now _ _ c.deref.result.now c.args.runs.now c.add_rows.new.runs made.0 h
    (number_there c.args.self.now found c.args.word.now h c.in-Some.number.now (sym c.in-Some.ensures.value)) c.deref.ensures.value (let e : c.in-Some.number.now * 5 ≡ 5 * c.in-Some.number.now = omega arith in e) refl made.2 made.1) c.add_rows.ensures
