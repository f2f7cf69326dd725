use Rattle.std.proofs.Common.{sym, ap, ◌∙◌}
use Rattle.nm_model_answer.specs.Summary.{lead_author}
use Rattle.nm_render.proofs.CountLemmas.{no_files}
use Rattle.nm_render.proofs.authors.author_of.Goals as goal

pub returns-in_default : goal.returns-in_default
returns-in_default c = c.new.ensures ∙ sym (ap lead_author (no_files c.args.id.now c.args.snapshot.now.files c.in_default.ensures))
