use Rattle.std.proofs.Common.{◌≤◌, ◌∙◌, sym, subst}
use Rattle.std.specs.Map.{keys_of}
use Rattle.nm_base.specs.Order.{IsSorted}
use Rattle.nm_model_index.specs.Valid.{IsValid}
use Rattle.nm_parts.specs.Parts.{base_of}
use Rattle.nm_state.proofs.ValidLemmas.{parts_valid}
use Rattle.nm_state.proofs.export.base_of.Goals as goal

pub returns-clause-valid : goal.returns-clause-valid
returns-clause-valid c =
    let parts = c.args.parts.now in
    let least : 1 ≤ parts.labels.next = subst (λ n. 1 ≤ n) c.next-next.ensures.next c.next-next.ensures.least in
    let sorted : IsSorted (keys_of parts.tags) = c.order.ensures in
    let valid : IsValid (base_of parts) = parts_valid parts c.requires c.next-next.ensures.labelling least sorted in
    subst IsValid
    (sym (λ i. record {
      revision = parts.revision;
      next = c.next-next.ensures.next i;
      files = c.in_ok-files_of.ensures i;
      kept = c.in_ok-rows_of.ensures i;
      entries = c.in_ok-entries_of.ensures i;
      tags = (c.in_ok-tags_of.ensures ∙ c.in_ok-tags.ensures) i;
    })) valid
