use Rattle.std.proofs.Common.{◌≡◌, subst}
use Rattle.std.specs.Prelude.{IfOk}
use Rattle.nm_model_index.specs.declared.base.Base.{Base}
use Rattle.nm_state.specs.Snapshot.{thread_messages}
use Rattle.nm_state.proofs.snapshot.Snapshot.thread_messages.Goals as goal

pub returns : goal.returns
returns c = subst (λ (index : Base). IfOk c.messages_of.result (λ ids. ids ≡ thread_messages index c.args.name)) c.self.view_is c.messages_of.ensures
