use Rattle.std.proofs.Common.{ap, ◌∙◌}
use Rattle.nm_model_index.specs.Index.{rows_of}
use Rattle.nm_model_index.specs.declared.base.Base.{Base}
use Rattle.nm_threads.specs.Name.{thread_name}
use Rattle.nm_parts.specs.Parts.{base_of}
use Rattle.nm_state.proofs.snapshot.Snapshot.thread.Goals as goal

pub returns : goal.returns
returns c = c.name_of.ensures.thread (rows_of (base_of c.self.inside.parts)) c.self.invariant.labels ∙ ap (λ (b : Base). thread_name (rows_of b) b.entries c.args.id.now) c.self.view_is
