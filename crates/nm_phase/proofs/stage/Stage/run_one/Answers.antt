use Rattle.std.proofs.Common.{rules, ◌≡◌, ◌+◌, List, length, map, sym, refl, ap, ◌∙◌, subst}
use Rattle.std.specs.List.{All, flat_map}
use Rattle.logbook.specs.Pages.{Book}
use Rattle.nm_history.specs.Call.{lines_of_lane}
use Rattle.nm_lanes.specs.declared.script.Phase.{Phase}
use Rattle.nm_lanes.specs.declared.script.ScriptLine.{ScriptLine}
use Rattle.nm_line.specs.Line.{place_at}
use Rattle.nm_phase.specs.Taken.{AreTaken, IsBarrierNoted}
use Rattle.nm_phase.specs.FirstLane.{IsReady}
use Rattle.nm_trace.specs.ReservedLog.{HasSpare}
use Rattle.nm_phase.specs.Observations.{HasAnswered, HasSeen, IsLaneAt, KeepsLane}
use Rattle.nm_phase.specs.Turns.{other_lanes, planned_line, planned_phase}
use Rattle.nm_phase.proofs.TakenLemmas.{book-all}
use Rattle.nm_phase.proofs.PhaseLemmas.{phase-taken, room-to-meet, spare-others, spare-zeros}
use Rattle.nm_phase.proofs.ObservationLemmas.{all-through, got, lane-kept, lane-lane_answer, lane-seen, some-same}
use Rattle.nm_phase.proofs.stage.Stage.run_one.Goals as goal
use Rattle.nm_writer.specs.Writer.{WriterState}

pub work-left-requires-clause-ready : goal.work-left-requires-clause-ready
work-left-requires-clause-ready g c =
    let mail = g.M.Maildir in
    let disk = g.D.Disk in
    let moment = c.args.asked.now.crew.now.setting.now.moment in
    let phases = c.args.asked.now.phases.now in
    let number = c.args.number in
    let phase = c.index-asked-number.result in
    let here = got phases number phase c.requires.number c.index-asked-number.is in
    let old = place_at c.args.self.now.writer.now (mail.observed c.args.self.now.mail.now) (disk.observed c.args.self.now.disk.now) c.args.left in
    let ready : IsReady c.as_slice-lines.result.now c.args.self.now.reserved.now c.args.self.now.writer.now (disk.observed c.args.self.now.disk.now) =
    subst (λ (l : List ScriptLine). IsReady l c.args.self.now.reserved.now c.args.self.now.writer.now (disk.observed c.args.self.now.disk.now)) (sym (c.as_slice-lines.ensures ∙ ap (λ (p : Phase). p.lines) (sym c.index-asked-number.is))) (record {
      spare = spare-zeros moment number phase old old c.args.self.now.reserved.now c.args.self.now.reserved.now (length c.args.self.now.writer.now.begun) (c.requires.spare phase here);
      even = c.requires.even;
      few = c.requires.few;
      stands = c.requires.stands;
    }) in
    search (rules, ready)

pub settle-requires-clause-lane_answer : goal.settle-requires-clause-lane_answer
settle-requires-clause-lane_answer g c =
    let mail = g.M.Maildir in
    let disk = g.D.Disk in
    let moment = c.args.asked.now.crew.now.setting.now.moment in
    let phases = c.args.asked.now.phases.now in
    let number = c.args.number in
    let phase = c.index-asked-number.result in
    let here = got phases number phase c.requires.number c.index-asked-number.is in
    let old = place_at c.args.self.now.writer.now (mail.observed c.args.self.now.mail.now) (disk.observed c.args.self.now.disk.now) c.args.left in
    let work = c.work-left in
    let lines_are : c.as_slice-lines.result.now ≡ phase.lines = c.as_slice-lines.ensures ∙ ap (λ (p : Phase). p.lines) (sym c.index-asked-number.is) in
    let mid = place_at work.new.self.writer.now (mail.observed work.new.self.mail.now) (disk.observed work.new.self.disk.now) work.result in
    let worked = work.ensures.worked in
    let taken = subst (λ (l : List ScriptLine). AreTaken moment (map (planned_line number) (lines_of_lane l 0)) old c.args.self.now.reserved.now work.new.self.reserved.now mid) lines_are worked.taken in
    let book : work.new.self.writer.now.published.book ≡ c.args.self.now.writer.now.published.book = book-all moment (map (planned_line number) (lines_of_lane phase.lines 0)) old mid c.args.self.now.reserved.now work.new.self.reserved.now taken in
    let all = all-through (IsLaneAt moment phases number c.args.self.now.writer.now.published.book) HasSeen (HasAnswered moment phase.lines c.args.self.now.writer.now.published.book)
    (λ before after at seen. lane-lane_answer moment phases number c.args.self.now.writer.now.published.book phase here before after at seen) c.args.lanes.now work.new.lanes c.requires.lanes work.ensures.seen in
    let lane_answer =
    subst (λ (l : List ScriptLine). All (HasAnswered moment l work.new.self.writer.now.published.book) work.new.lanes) (sym lines_are)
    (subst (λ (b : Book). All (HasAnswered moment phase.lines b) work.new.lanes) (sym book) all) in
    search (rules, lane_answer)

pub settle-requires-clause-spare : goal.settle-requires-clause-spare
settle-requires-clause-spare g c =
    let mail = g.M.Maildir in
    let disk = g.D.Disk in
    let moment = c.args.asked.now.crew.now.setting.now.moment in
    let phases = c.args.asked.now.phases.now in
    let number = c.args.number in
    let phase = c.index-asked-number.result in
    let here = got phases number phase c.requires.number c.index-asked-number.is in
    let old = place_at c.args.self.now.writer.now (mail.observed c.args.self.now.mail.now) (disk.observed c.args.self.now.disk.now) c.args.left in
    let work = c.work-left in
    let lines_are : c.as_slice-lines.result.now ≡ phase.lines = c.as_slice-lines.ensures ∙ ap (λ (p : Phase). p.lines) (sym c.index-asked-number.is) in
    let mid = place_at work.new.self.writer.now (mail.observed work.new.self.mail.now) (disk.observed work.new.self.disk.now) work.result in
    let worked = work.ensures.worked in
    let taken = subst (λ (l : List ScriptLine). AreTaken moment (map (planned_line number) (lines_of_lane l 0)) old c.args.self.now.reserved.now work.new.self.reserved.now mid) lines_are worked.taken in
    let book : work.new.self.writer.now.published.book ≡ c.args.self.now.writer.now.published.book = book-all moment (map (planned_line number) (lines_of_lane phase.lines 0)) old mid c.args.self.now.reserved.now work.new.self.reserved.now taken in
    subst (λ (l : List ScriptLine). HasSpare (length (flat_map (lines_of_lane l) other_lanes)) (length work.new.self.writer.now.begun) work.new.self.reserved.now) (sym lines_are)
    (spare-others moment number phase old mid c.args.self.now.reserved.now work.new.self.reserved.now taken (c.requires.spare phase here))

pub note_barrier-requires : goal.note_barrier-requires
note_barrier-requires g c =
    let mail = g.M.Maildir in
    let disk = g.D.Disk in
    let moment = c.args.asked.now.crew.now.setting.now.moment in
    let phases = c.args.asked.now.phases.now in
    let number = c.args.number in
    let phase = c.index-asked-number.result in
    let here = got phases number phase c.requires.number c.index-asked-number.is in
    let old = place_at c.args.self.now.writer.now (mail.observed c.args.self.now.mail.now) (disk.observed c.args.self.now.disk.now) c.args.left in
    let work = c.work-left in
    let lines_are : c.as_slice-lines.result.now ≡ phase.lines = c.as_slice-lines.ensures ∙ ap (λ (p : Phase). p.lines) (sym c.index-asked-number.is) in
    let mid = place_at work.new.self.writer.now (mail.observed work.new.self.mail.now) (disk.observed work.new.self.disk.now) work.result in
    let worked = work.ensures.worked in
    let taken = subst (λ (l : List ScriptLine). AreTaken moment (map (planned_line number) (lines_of_lane l 0)) old c.args.self.now.reserved.now work.new.self.reserved.now mid) lines_are worked.taken in
    let book : work.new.self.writer.now.published.book ≡ c.args.self.now.writer.now.published.book = book-all moment (map (planned_line number) (lines_of_lane phase.lines 0)) old mid c.args.self.now.reserved.now work.new.self.reserved.now taken in
    let settle = c.settle in
    let lane_answer = subst (λ (l : List ScriptLine). AreTaken moment (map (planned_line number) (flat_map (lines_of_lane l) other_lanes)) mid work.new.self.reserved.now settle.new.reserved mid) lines_are
    (settle.ensures.taken mid refl) in
    let spare = c.requires.spare phase here in
    room-to-meet moment number phase old mid c.args.self.now.reserved.now work.new.self.reserved.now taken spare settle.new.reserved lane_answer worked.few

pub returns-clause-taken : goal.returns-clause-taken
returns-clause-taken g c = λ asked is.
    let mail = g.M.Maildir in
    let disk = g.D.Disk in
    let moment = c.args.asked.now.crew.now.setting.now.moment in
    let phases = c.args.asked.now.phases.now in
    let number = c.args.number in
    let phase = c.index-asked-number.result in
    let here = got phases number phase c.requires.number c.index-asked-number.is in
    let old = place_at c.args.self.now.writer.now (mail.observed c.args.self.now.mail.now) (disk.observed c.args.self.now.disk.now) c.args.left in
    let work = c.work-left in
    let lines_are : c.as_slice-lines.result.now ≡ phase.lines = c.as_slice-lines.ensures ∙ ap (λ (p : Phase). p.lines) (sym c.index-asked-number.is) in
    let mid = place_at work.new.self.writer.now (mail.observed work.new.self.mail.now) (disk.observed work.new.self.disk.now) work.result in
    let worked = work.ensures.worked in
    let taken = subst (λ (l : List ScriptLine). AreTaken moment (map (planned_line number) (lines_of_lane l 0)) old c.args.self.now.reserved.now work.new.self.reserved.now mid) lines_are worked.taken in
    let book : work.new.self.writer.now.published.book ≡ c.args.self.now.writer.now.published.book = book-all moment (map (planned_line number) (lines_of_lane phase.lines 0)) old mid c.args.self.now.reserved.now work.new.self.reserved.now taken in
    let settle = c.settle in
    let lane_answer = subst (λ (l : List ScriptLine). AreTaken moment (map (planned_line number) (flat_map (lines_of_lane l) other_lanes)) mid work.new.self.reserved.now settle.new.reserved mid) lines_are
    (settle.ensures.taken mid refl) in
    let spare = c.requires.spare phase here in
    let same : phase ≡ asked = some-same phase asked (sym here ∙ is) in
    let met = c.note_barrier in
    let last_barrier : IsBarrierNoted settle.new.reserved met.new.self =
    record { marks = met.ensures.marks; marks_spare = met.ensures.marks_spare; logs = met.ensures.logs; steps = met.ensures.steps; fallbacks = met.ensures.fallbacks } in
    subst (λ (p : Phase). AreTaken moment (planned_phase number p) old c.args.self.now.reserved.now met.new.self (place_at settle.new.writer (mail.observed work.new.self.mail.now) (disk.observed work.new.self.disk.now) work.result)) same
    (subst (λ (w : WriterState). AreTaken moment (planned_phase number phase) old c.args.self.now.reserved.now met.new.self (place_at w (mail.observed work.new.self.mail.now) (disk.observed work.new.self.disk.now) work.result)) (sym settle.ensures.writer)
    (phase-taken moment number phase old mid c.args.self.now.reserved.now work.new.self.reserved.now taken spare settle.new.reserved lane_answer met.new.self last_barrier))

pub returns-clause-lanes : goal.returns-clause-lanes
returns-clause-lanes g c =
    let mail = g.M.Maildir in
    let disk = g.D.Disk in
    let moment = c.args.asked.now.crew.now.setting.now.moment in
    let phases = c.args.asked.now.phases.now in
    let number = c.args.number in
    let phase = c.index-asked-number.result in
    let here = got phases number phase c.requires.number c.index-asked-number.is in
    let old = place_at c.args.self.now.writer.now (mail.observed c.args.self.now.mail.now) (disk.observed c.args.self.now.disk.now) c.args.left in
    let work = c.work-left in
    let lines_are : c.as_slice-lines.result.now ≡ phase.lines = c.as_slice-lines.ensures ∙ ap (λ (p : Phase). p.lines) (sym c.index-asked-number.is) in
    let mid = place_at work.new.self.writer.now (mail.observed work.new.self.mail.now) (disk.observed work.new.self.disk.now) work.result in
    let worked = work.ensures.worked in
    let taken = subst (λ (l : List ScriptLine). AreTaken moment (map (planned_line number) (lines_of_lane l 0)) old c.args.self.now.reserved.now work.new.self.reserved.now mid) lines_are worked.taken in
    let book : work.new.self.writer.now.published.book ≡ c.args.self.now.writer.now.published.book = book-all moment (map (planned_line number) (lines_of_lane phase.lines 0)) old mid c.args.self.now.reserved.now work.new.self.reserved.now taken in
    let settle = c.settle in
    let first = c.args.self.now.writer.now.published.book in
    let seen = all-through (IsLaneAt moment phases number first) HasSeen (IsLaneAt moment phases (number + 1) first)
    (λ before after at seen. lane-seen moment phases number first phase here before after at seen) c.args.lanes.now work.new.lanes c.requires.lanes work.ensures.seen in
    let kept = all-through (IsLaneAt moment phases (number + 1) first) KeepsLane (IsLaneAt moment phases (number + 1) first)
    (λ before after at keeps. lane-kept moment phases (number + 1) first before after at keeps) work.new.lanes settle.new.lanes seen settle.ensures.lanes in
    let last : settle.new.writer.published.book ≡ first = ap (λ (w : WriterState). w.published.book) settle.ensures.writer ∙ book in
    let lanes =
    subst (λ (b : Book). All (IsLaneAt moment phases (number + 1) b) settle.new.lanes) (sym last) kept in
    search (rules, lanes)
