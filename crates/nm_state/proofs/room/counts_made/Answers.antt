use Rattle.std.proofs.Common.{◌+◌, ◌∙◌, subst}
use Rattle.std.specs.Prelude.{fold}
use Rattle.nm_model_index.specs.Index.{applied, with_revision}
use Rattle.nm_model_index.specs.declared.base.Base.{Base}
use Rattle.nm_state.specs.Counts.{AreCounts}
use Rattle.nm_parts.specs.Parts.{base_of}
use Rattle.nm_state.proofs.RoomLemmas.{counts_committed}
use Rattle.nm_state.proofs.room.counts_made.Goals as goal

pub returns : goal.returns
returns c =
    let revision = (base_of c.args.parts.now).revision + 1 in
    let base = c.in_ok-apply_changes.ensures.base ∙ (λ i. fold applied (base_of (c.in_ok-after.ensures i)) (c.as_slice.ensures i)) in
    subst (λ (index : Base). AreCounts (with_revision revision index) c.counts_of.result) base (counts_committed (base_of c.apply_changes.new.parts) revision c.counts_of.result c.counts_of.ensures)
