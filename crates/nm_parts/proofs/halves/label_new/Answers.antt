use Rattle.std.proofs.Common.{◌∷◌, ap, arith, length}
use Rattle.nm_base.specs.declared.facts.Facts.{Facts}
use Rattle.nm_threads.specs.Labels.{entries_of}
use Rattle.nm_parts.proofs.HalfLemmas.{numbered_within}
use Rattle.nm_parts.proofs.halves.label_new.Goals as goal

pub label_mail-requires : goal.label_mail-requires
label_mail-requires c =
    let facts = c.args.facts.now in
    let labels = c.args.labels.now in
    omega (
      arith,
      numbered_within (facts.id ∷ facts.links) (entries_of labels.labels) labels.next,
      c.if-ids-next.false,
      c.next.ensures.next,
      c.next.ensures.most,
      c.saturating_add-ids.ensures,
      c.len.ensures,
      ap (λ (it : Facts). length it.links) c.get.ensures,
    )
