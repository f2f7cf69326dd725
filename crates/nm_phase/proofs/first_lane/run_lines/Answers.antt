use Rattle.std.proofs.Common.{rules, ◌≡◌, ℕ, ◌+◌, ◌==◌, true, List, [], ◌∷◌, drop, length, map, take, inl, ◌∙◌, subst, arith}
use Rattle.std.proofs.lemmas.Bool.Decides.{nat_tests}
use Rattle.nm_history.specs.Call.{lines_of_lane}
use Rattle.nm_lanes.specs.declared.script.ScriptLine.{ScriptLine}
use Rattle.nm_line.specs.Line.{place_at}
use Rattle.nm_phase.specs.LineLog.{IsAskedBy}
use Rattle.nm_phase.specs.Taken.{AreTaken, IsTurn}
use Rattle.nm_trace.specs.ReservedLog.{HasSpare}
use Rattle.nm_phase.specs.Turns.{Planned, Runs, planned_line}
use Rattle.nm_phase.proofs.LineLemmas.{still-even}
use Rattle.nm_phase.proofs.TakenLemmas.{spare-turn}
use Rattle.nm_phase.proofs.TakenLemmas.{taken-append, taken-one}
use Rattle.nm_phase.proofs.LaneLemmas.{own-left, own-more}
use Rattle.nm_phase.proofs.first_lane.run_lines.Goals as goal

pub run_line-left-requires-clause-asked : goal.run_line-left-requires-clause-asked
run_line-left-requires-clause-asked g c =
    let asked : (line : ScriptLine) × IsAskedBy line c.asked_line-asked.result = (c.line-item.result, c.asked_line-asked.ensures) in
    search (rules, asked)

pub lines-preserved : goal.lines-preserved
lines-preserved g c =
    let mail = g.M.Maildir in
    let disk = g.D.Disk in
    let moment = c.args.crew.now.setting.now.moment in
    let lines = c.args.lines.now in
    let i = c.lines.line-index in
    let line = c.line-item.result in
    let first = place_at c.args.desk.now.writer.now (mail.observed c.args.desk.now.mail.now) (disk.observed c.args.desk.now.disk.now) c.args.left in
    let old = place_at c.lines.desk.writer.now (mail.observed c.lines.desk.mail.now) (disk.observed c.lines.desk.disk.now) c.lines.left in
    let done = c.run_line-left in
    let new = place_at done.new.desk.writer.now (mail.observed done.new.desk.mail.now) (disk.observed done.new.desk.disk.now) done.result in
    let noted = done.ensures.noted line c.asked_line-asked.ensures in
    let so_far = c.lines.invariant in
    let zero : line.lane ≡ 0 = grind (arith, nat_tests, c.if-line-ne0.false) in
    let own : (line.lane == 0) ≡ true = grind (arith, nat_tests, zero) in
    let turn : IsTurn moment (Runs c.args.phase line) old c.lines.reserved done.new.reserved new = inl (zero, noted) in
    record {
      taken = subst (λ (l : List Planned). AreTaken moment l first c.args.reserved.now done.new.reserved new) (own-more c.args.phase 0 lines i line c.lines-test.true c.line-item.is own)
          (taken-append moment (map (planned_line c.args.phase) (lines_of_lane (take i lines) 0)) (Runs c.args.phase line ∷ []) first old new c.args.reserved.now c.lines.reserved done.new.reserved so_far.taken
          (taken-one moment (Runs c.args.phase line) old new c.lines.reserved done.new.reserved turn));
      spare = spare-turn moment (length (lines_of_lane (drop (i + 1) lines) 0)) (Runs c.args.phase line) c.lines.reserved done.new.reserved old new
          (subst (λ (n : ℕ). HasSpare n (length c.lines.desk.writer.now.begun) c.lines.reserved) (own-left 0 lines i line c.lines-test.true c.line-item.is own) so_far.spare) turn;
      even = still-even moment old new line noted.log.given noted.log.outcome noted.log.disk_failed noted.run.answered so_far.even;
      few = noted.within;
      stands = done.ensures.stands;
      durable = λ entry opening h. done.ensures.durable entry opening (so_far.durable entry opening h);
      loans = (done.ensures.loans.0 ∙ so_far.loans.0, done.ensures.loans.1 ∙ so_far.loans.1, done.ensures.loans.2 ∙ so_far.loans.2);
    }
