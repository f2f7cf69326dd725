use Rattle.std.proofs.Common.{◌∷◌, [], ap, length, length-append, refl, arith}
use Rattle.std.specs.Vec.Iter.{into_iter_items}
use Rattle.nm_scan.proofs.PartLemmas.{a_path_more, a_path_stops, no_path_read, part_is_closed, part_is_read}
use Rattle.nm_scan.proofs.files.read_files.Goals as goal

pub files-init : goal.files-init
files-init g c =
    let mail = g.M.Maildir in
    record {
      batch = no_path_read (mail.observed c.args.mail.now) (into_iter_items c.args.paths.now) c.args.lacks.now c.args.found.now c.requires.none;
      none = λ none. refl;
      whole = c.requires.whole;
    }

pub files-preserved : goal.files-preserved
files-preserved g c =
    let mail = g.M.Maildir in
    record {
      batch = a_path_more (mail.observed c.args.mail.now) (mail.observed c.files.mail) (mail.observed c.read_next.new.mail) (into_iter_items c.args.paths.now) (into_iter_items c.files.paths) (into_iter_items c.next_path.new.paths)
          c.args.lacks.now c.files.lacks c.files.found c.in-Some.path c.files.invariant.batch c.in-Some.ensures.next.0 c.in-Some.ensures.next.2 c.in-Some.ensures.next.3 c.read_next.new.found c.in-Ok.len c.take.new.self
          c.take.ensures.answers c.take.ensures.bytes c.in-Ok.ensures.ok c.in-Ok.ensures.bytes;
      none = λ none. absurd (omega (arith, ap length c.in-Ok.ensures.ok.1, ap length none, length-append c.files.found ((c.in-Some.path, c.in-Ok.ensures.ok.0) ∷ [])));
      whole = c.in-Some.ensures.whole;
    }

pub returns-in-Err-clause-reads : goal.returns-in-Err-clause-reads
returns-in-Err-clause-reads g c =
    let mail = g.M.Maildir in
    a_path_stops (mail.observed c.args.mail.now) (mail.observed c.files.mail) (mail.observed c.read_next.new.mail) (into_iter_items c.args.paths.now) (into_iter_items c.files.paths) (into_iter_items c.next_path.new.paths)
    c.args.lacks.now c.files.lacks c.files.found c.in-Some.path c.files.invariant.batch c.in-Some.ensures.next.0 c.in-Some.ensures.next.2 c.in-Some.ensures.next.3 c.read_next.new.found c.files.lacks c.in-Err.error
    c.in-Err.ensures.same c.in-Err.ensures.err c.in-Err.ensures.cause

pub returns-clause-reads : goal.returns-clause-reads
returns-clause-reads g c =
    let mail = g.M.Maildir in
    part_is_read (mail.observed c.args.mail.now) (mail.observed c.files.mail) (into_iter_items c.args.paths.now) (into_iter_items c.files.paths) (into_iter_items c.next_path.new.paths) c.args.lacks.now c.files.lacks c.files.found
    c.files.invariant.batch c.in_default.ensures.next.0

pub returns-clause-closed : goal.returns-clause-closed
returns-clause-closed g c none =
    part_is_closed c.args.most c.files.left (into_iter_items c.files.paths) (into_iter_items c.next_path.new.paths) c.files.lacks c.requires.some (c.files.invariant.none none) c.in_default.ensures.next.0 c.in_default.ensures.next.1
