use Rattle.std.proofs.Common.{sym, ap}
use Rattle.nm_model_answer.specs.View.{lead_date}
use Rattle.nm_render.proofs.CountLemmas.{no_files}
use Rattle.nm_render.proofs.order.message_date.Goals as goal

pub returns-in_default : goal.returns-in_default
returns-in_default c = sym (ap lead_date (no_files c.args.id.now c.args.snapshot.now.files c.in_default.ensures))
