use Rattle.std.proofs.Common.{rules, ℕ, List, Ok, arith, length, refl}
use Rattle.nm_lanes.specs.Lines.{in_lane}
use Rattle.nm_lanes.specs.declared.script.ScriptLine.{ScriptLine}
use Rattle.nm_line.specs.Line.{place_at}
use Rattle.nm_prepare.specs.Prepared.{AsksAlone}
use Rattle.nm_prepare.specs.declared.prepared.Prepared.{Prepared}
use Rattle.nm_session.specs.Alone.{HasRunAlone}
use Rattle.nm_phase.specs.LineLog.{IsAskedBy}
use Rattle.nm_session.proofs.command.run_alone.Goals as goal
use Rattle.nm_trace.specs.ReservedLog.{HasSpare}

-- the one line of a command asks for what was prepared
alone : (words : List (List ℕ)) (input : List ℕ) (prepared : Prepared) → AsksAlone words input prepared → IsAskedBy (in_lane 1 0 words input) (record { lane = 0; number = 1; prepared = Ok prepared })
alone words input prepared h = record { lane = refl; number = refl; prepared = h }

pub run_line-requires-clause-asked : goal.run_line-requires-clause-asked
run_line-requires-clause-asked g c =
    let asked : (line : ScriptLine) × IsAskedBy line (record { lane = 0; number = 1; prepared = Ok c.args.prepared }) =
    (in_lane 1 0 c.requires.asked.0 c.requires.asked.1.0, alone c.requires.asked.0 c.requires.asked.1.0 c.args.prepared c.requires.asked.1.1) in
    search (rules, asked)

pub run_line-requires-clause-spare : goal.run_line-requires-clause-spare
run_line-requires-clause-spare g c =
    let spare : HasSpare 1 (length c.args.writer.now.begun) c.args.reserved.now = record {
      logs = omega (arith, c.requires.spare.logs);
      marks = omega (arith, c.requires.spare.marks);
      fallbacks = omega (arith, c.requires.spare.fallbacks);
      texts = c.requires.spare.texts;
    } in
    search (rules, spare)

pub note_barrier-requires : goal.note_barrier-requires
note_barrier-requires g c =
    let noted = c.run_line.ensures.noted (in_lane 1 0 c.requires.asked.0 c.requires.asked.1.0) (alone c.requires.asked.0 c.requires.asked.1.0 c.args.prepared c.requires.asked.1.1) in
    omega (arith, noted.marks_spare, noted.within, c.requires.spare.marks, c.requires.few)

pub returns-clause-ran : goal.returns-clause-ran
returns-clause-ran g c = λ words input asked.
    let done = c.run_line in
    let met = c.note_barrier in
    let desk = done.new.desk in
    let all : HasRunAlone c.args.crew.now.setting.now.moment (place_at c.args.writer.now (g.M.Maildir.observed c.args.mail.now) (g.D.Disk.observed c.args.disk.now) _) (in_lane 1 0 words input) c.args.reserved.now met.new.self
    desk.writer.now (g.M.Maildir.observed desk.mail.now) (g.D.Disk.observed desk.disk.now) = record {
      left = done.result;
      between = done.new.reserved;
      noted = done.ensures.noted (in_lane 1 0 words input) (alone words input c.args.prepared asked);
      ended = record { marks = met.ensures.marks; marks_spare = met.ensures.marks_spare; logs = met.ensures.logs; steps = met.ensures.steps; fallbacks = met.ensures.fallbacks };
    } in
    search (rules, all)
