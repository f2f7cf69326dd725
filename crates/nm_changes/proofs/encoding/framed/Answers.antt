use Rattle.std.proofs.Common.{◌≡◌, ◌∙◌, ℕ, List, arith, length, ap, subst, sym}
use Rattle.std.specs.Prelude.{IfOk, IfSome}
use Rattle.nm_codec.specs.ListLaws.{few}
use Rattle.nm_record.specs.ChangeLaws.{some_change}
use Rattle.nm_record.specs.Commits.{change_at, change_bytes}
use Rattle.std.proofs.Common.{map}
use Rattle.nm_changes.proofs.EncodingLemmas.{commit_is}
use Rattle.nm_changes.proofs.encoding.framed.Goals as goal

pub overflow_cast-len : goal.overflow_cast-len
overflow_cast-len c = omega (arith, few change_at change_bytes some_change c.args.commit.now.changes, c.requires.len, c.ranges.len.fits, c.len.ensures)

pub of_pieces-requires : goal.of_pieces-requires
of_pieces-requires c =
    let are : c.in-Some.pieces ≡ map change_bytes c.args.commit.now.changes =
    subst (λ it. IfSome it (λ pieces. pieces ≡ map change_bytes c.args.commit.now.changes)) c.in-Some.is c.requires.pieces in
    c.requires.len
    ∙ sym (ap length (commit_is c.args.commit.now c.in-Some.pieces c.as_slice.result.now c.to_be_bytes-count.result c.len.result are c.as_slice.ensures c.to_be_bytes-count.ensures c.len.ensures))

pub returns : goal.returns
returns c =
    let are : c.in-Some.pieces ≡ map change_bytes c.args.commit.now.changes =
    subst (λ it. IfSome it (λ pieces. pieces ≡ map change_bytes c.args.commit.now.changes)) c.in-Some.is c.requires.pieces in
    subst (λ (bytes : List ℕ). IfOk c.of_pieces.result (λ frame. frame ≡ bytes))
    (commit_is c.args.commit.now c.in-Some.pieces c.as_slice.result.now c.to_be_bytes-count.result c.len.result are c.as_slice.ensures c.to_be_bytes-count.ensures c.len.ensures) c.of_pieces.ensures
