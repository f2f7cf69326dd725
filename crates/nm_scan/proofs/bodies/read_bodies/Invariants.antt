use Rattle.std.proofs.Common.{take}
use Rattle.nm_scan.proofs.BodyLemmas.{InBodies}
use Rattle.nm_scan.proofs.bodies.read_bodies.Given as goal

-- the first paths were read, and n bytes are left
abbrev pub invariant-paths : goal.invariant-paths
invariant-paths g l =
    let mail = g.M.Maildir in
    InBodies (mail.observed l.initial.mail) (mail.observed l.mail) l.left l.rest l.initial.given l.given (take l.path-index l.paths)
