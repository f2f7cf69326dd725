use Rattle.nm_maildir.proofs.NameLemmas.{drops_folder}
use Rattle.nm_maildir.proofs.names.take_names.Goals as goal

pub returns-clause-dropped : goal.returns-clause-dropped
returns-clause-dropped c = drops_folder c.args.names.now c.remove.new.self c.args.folder.now c.remove.ensures.updates.0
