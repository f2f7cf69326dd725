use Rattle.std.proofs.Common.{rules, ◌≡◌, ◌<◌, [], length, arith}
use Rattle.std.proofs.lemmas.List.{nil_from_length}
use Rattle.std.specs.Vec.Iter.{into_iter_items}
use Rattle.nm_scan.proofs.PartLemmas.{batch_is_told, few_are_told, first_part_read, further_cause, if_is_err, more_are_told, part_is_not_told, part_is_told, stop_is_told}
use Rattle.nm_scan.proofs.parts.classify_batch.Goals as goal

pub parts-init : goal.parts-init
parts-init g c =
    let mail = g.M.Maildir in
    record {
      under_way = first_part_read (mail.observed c.args.mail.now) (mail.observed c.read_part-part.new.mail) (into_iter_items c.args.paths.now) (into_iter_items c.read_part-part.new.paths) c.all-lacks.result c.read_part-part.new.lacks
          c.read_part-part.result.found c.args.all.now.items c.read_part-part.result.read c.all-lacks.ensures c.requires.none c.read_part-part.ensures.reads;
      closed = c.read_part-part.ensures.closed;
      some = c.first_part-most.ensures;
      whole = c.read_part-part.ensures.whole;
    }

pub parts-preserved : goal.parts-preserved
parts-preserved g c =
    let mail = g.M.Maildir in
    record {
      under_way = part_is_told (mail.observed c.args.mail.now) (mail.observed c.parts.mail) (mail.observed c.classify_and_read-classified.new.mail) (into_iter_items c.args.paths.now) (into_iter_items c.parts.paths)
          (into_iter_items c.classify_and_read-classified.new.paths) c.parts.lacks c.classify_and_read-classified.new.lacks c.parts.part.found c.classify_and_read-classified.result.1.found c.parts.all.items c.take_part.new.all.items
          c.parts.part.read c.classify_and_read-classified.result.1.read c.parts.invariant.under_way c.classify_and_read-classified.ensures.reads c.classify_and_read-classified.result.0 c.classify_and_read-classified.ensures.classified
          c.in-Ok.ensures.ok c.in-Ok.ensures.was_ok;
      closed = c.classify_and_read-classified.ensures.closed;
      some = c.next_part-most.ensures;
      whole = c.classify_and_read-classified.ensures.whole;
    }

pub parts-smaller : goal.parts-smaller
parts-smaller g c =
    let mail = g.M.Maildir in
    let some : 0 < length c.parts.part.found = search rules in
    let few = few_are_told (mail.observed c.args.mail.now) (mail.observed c.parts.mail) (into_iter_items c.args.paths.now) (into_iter_items c.parts.paths) c.parts.lacks c.parts.part.found c.parts.all.items c.parts.part.read c.parts.invariant.under_way in
    let more = more_are_told (mail.observed c.args.mail.now) (mail.observed c.parts.mail) (mail.observed c.classify_and_read-classified.new.mail) (into_iter_items c.args.paths.now) (into_iter_items c.parts.paths)
    (into_iter_items c.classify_and_read-classified.new.paths) c.parts.lacks c.classify_and_read-classified.new.lacks c.parts.part.found c.classify_and_read-classified.result.1.found c.parts.all.items c.take_part.new.all.items
    c.parts.part.read c.classify_and_read-classified.result.1.read c.parts.invariant.under_way c.classify_and_read-classified.ensures.reads
    c.classify_and_read-classified.result.0 c.classify_and_read-classified.ensures.classified c.in-Ok.ensures.ok c.in-Ok.ensures.was_ok in
    omega (arith, some, few, more)

pub returns-in-Err-clause-err : goal.returns-in-Err-clause-err
returns-in-Err-clause-err g c =
    let mail = g.M.Maildir in
    let some : 0 < length c.parts.part.found = search rules in
    if_is_err _ c.stopped_by_memory.result c.stopped_by_memory.ensures.err
    (part_is_not_told (mail.observed c.args.mail.now) (mail.observed c.parts.mail) (mail.observed c.classify_and_read-classified.new.mail) (into_iter_items c.args.paths.now) (into_iter_items c.parts.paths)
    (into_iter_items c.classify_and_read-classified.new.paths) c.parts.lacks c.classify_and_read-classified.new.lacks c.parts.part.found c.classify_and_read-classified.result.1.found c.parts.all.items c.take_part.new.all.items
    c.parts.part.read c.classify_and_read-classified.result.1.read c.parts.invariant.under_way c.classify_and_read-classified.ensures.reads c.in-Err.ensures.err some)

pub returns-in-Err-clause-cause : goal.returns-in-Err-clause-cause
returns-in-Err-clause-cause g c =
    let mail = g.M.Maildir in
    c.stopped_by_memory.ensures.cause (mail.observed c.args.mail.now).faults (mail.observed c.classify_and_read-classified.new.mail).faults
    (further_cause (mail.observed c.args.mail.now) (mail.observed c.parts.mail) (mail.observed c.classify_and_read-classified.new.mail) (into_iter_items c.args.paths.now) (into_iter_items c.parts.paths)
    (into_iter_items c.classify_and_read-classified.new.paths) c.parts.lacks c.classify_and_read-classified.new.lacks c.parts.part.found c.classify_and_read-classified.result.1.found c.parts.all.items c.take_part.new.all.items
    c.parts.part.read c.classify_and_read-classified.result.1.read c.parts.invariant.under_way c.classify_and_read-classified.ensures.reads)

pub returns-clause-ok : goal.returns-clause-ok
returns-clause-ok g c =
    let mail = g.M.Maildir in
    let none : c.parts.part.found ≡ [] = nil_from_length c.parts.part.found (search rules) in
    batch_is_told (mail.observed c.args.mail.now) (mail.observed c.parts.mail) (into_iter_items c.args.paths.now) (into_iter_items c.parts.paths) c.parts.lacks c.parts.part.found c.parts.all.items c.parts.part.read c.parts.invariant.under_way c.requires.some none c.parts.invariant.closed

pub returns-clause-err : goal.returns-clause-err
returns-clause-err g c =
    let mail = g.M.Maildir in
    let none : c.parts.part.found ≡ [] = nil_from_length c.parts.part.found (search rules) in
    stop_is_told (mail.observed c.args.mail.now) (mail.observed c.parts.mail) (into_iter_items c.args.paths.now) (into_iter_items c.parts.paths) c.parts.lacks c.parts.part.found c.parts.all.items c.parts.part.read c.parts.invariant.under_way none

pub returns-clause-cause : goal.returns-clause-cause
returns-clause-cause g c = c.parts.invariant.under_way.reading.cause
