use Rattle.std.proofs.Common.{subst}
use Rattle.std.specs.Prelude.{IfOk}
use Rattle.nm_parts.specs.Halves.{InTurn, IsFiledBy, IsLabelledBy}
use Rattle.nm_parts.proofs.HalfLemmas.{sides_joined}
use Rattle.nm_parts.proofs.halves.apply_by_halves.Goals as goal

pub returns-clause-parts : goal.returns-clause-parts
returns-clause-parts g c =
    let changes = c.args.changes.now in
    let label = subst (λ r. IfOk r (InTurn IsLabelledBy changes c.in_ok-labels.labels)) c.in_ok-labels-2.was c.at_once-labels.ensures.labels in
    let file = subst (λ r. IfOk r (InTurn IsFiledBy changes (record { file_table = c.in_ok-share.field-0; tags = c.in_ok-share-2.field-0 }))) c.in_ok-filed.was c.at_once-labels.ensures.filed in
    (sides_joined c.thread_laws.ensures c.files_follow_their_changes.ensures changes c.args.parts.now (record { file_table = c.in_ok-share.field-0; tags = c.in_ok-share-2.field-0 }) c.in_ok-filed.filed c.in_ok-labels.labels
    c.in_ok-labels-2.labels c.in_ok-kept.kept c.requires.parts c.requires.fits c.in_ok-kept.ensures c.in_ok-labels.ensures c.in_ok-share.ensures c.in_ok-share-2.ensures label file).0

pub returns-clause-base : goal.returns-clause-base
returns-clause-base g c =
    let changes = c.args.changes.now in
    let label = subst (λ r. IfOk r (InTurn IsLabelledBy changes c.in_ok-labels.labels)) c.in_ok-labels-2.was c.at_once-labels.ensures.labels in
    let file = subst (λ r. IfOk r (InTurn IsFiledBy changes (record { file_table = c.in_ok-share.field-0; tags = c.in_ok-share-2.field-0 }))) c.in_ok-filed.was c.at_once-labels.ensures.filed in
    (sides_joined c.thread_laws.ensures c.files_follow_their_changes.ensures changes c.args.parts.now (record { file_table = c.in_ok-share.field-0; tags = c.in_ok-share-2.field-0 }) c.in_ok-filed.filed c.in_ok-labels.labels
    c.in_ok-labels-2.labels c.in_ok-kept.kept c.requires.parts c.requires.fits c.in_ok-kept.ensures c.in_ok-labels.ensures c.in_ok-share.ensures c.in_ok-share-2.ensures label file).1
