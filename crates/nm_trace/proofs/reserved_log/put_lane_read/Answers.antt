use Rattle.std.proofs.Common.{◌++◌, ◌∷◌, ◌∙◌, Option, ap, drop, sym, take}
use Rattle.std.specs.Option.{option_to_list}
use Rattle.nm_trace.specs.Trace.{said_marks}
use Rattle.nm_trace.specs.declared.trace.Mark.TheVariants as marks
use Rattle.nm_log.specs.declared.log.Said.{Said}
use Rattle.nm_trace.proofs.PutLemmas.{put-both}
use Rattle.nm_trace.proofs.reserved_log.put_lane_read.Goals as goal

pub returns-in-Some-clause-list : goal.returns-in-Some-clause-list
returns-in-Some-clause-list c =
    let ms = c.args.marks.now.0 in
    let lane_read = marks.LaneRead c.args.lane in
    put-both ms c.insert_spare.new.self.0 c.insert_spare-in-Some.new.self.0 c.args.at lane_read (marks.Reply c.args.lane c.in-Some.said) c.requires.at c.insert_spare.ensures.list c.insert_spare-in-Some.ensures.list
    ∙ ap (λ (r : Option Said). take c.args.at ms ++ ((lane_read ∷ said_marks c.args.lane (option_to_list r)) ++ drop c.args.at ms)) (sym c.in-Some.is)
