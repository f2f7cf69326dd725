use Rattle.std.proofs.Common.{◌≡◌, ◌+◌, ◌-◌, ◌<◌, length, get_or, subst, arith}
use Rattle.std.specs.Str.{IsCharBoundary}
use Rattle.std.proofs.lemmas.Str.{IsCharBoundary-start, IsCharBoundary-before_ascii, IsCharBoundary-after_ascii}
use Rattle.nm_maildir.proofs.names.name_start.Goals as goal

pub returns-then-bytes-start-eq47-clause-name : goal.returns-then-bytes-start-eq47-clause-name
returns-then-bytes-start-eq47-clause-name c =
    let path = c.args.path.now in
    let at = c.back.start - 1 in
    let here : at + 1 ≡ c.back.start = omega arith in
    let within : at < length path = omega arith in
    let low : get_or path at 0 < 128 = grind arith in
    subst (IsCharBoundary path) here (IsCharBoundary-after_ascii path at c.utf8.path within low)

pub returns-then-bytes-start-eq47-clause-folder : goal.returns-then-bytes-start-eq47-clause-folder
returns-then-bytes-start-eq47-clause-folder c =
    let path = c.args.path.now in
    let at = c.back.start - 1 in
    let within : at < length path = omega arith in
    let low : get_or path at 0 < 128 = grind arith in
    IsCharBoundary-before_ascii path at within low

pub returns-clause-name : goal.returns-clause-name
returns-clause-name c = IsCharBoundary-start c.args.path.now c.utf8.path

pub returns-clause-folder : goal.returns-clause-folder
returns-clause-folder c = IsCharBoundary-start c.args.path.now c.utf8.path
