use Rattle.std.proofs.Common.{string_bytes}
use Rattle.nm_name.proofs.PathLemmas.{is_cur}
use Rattle.nm_name.proofs.flagged_path.in_cur.Goals as goal

pub path_of-requires : goal.path_of-requires
path_of-requires c = is_cur c.args.path.now c.args.folder.now c.args.name.now c.args.letters.now c.text.ensures.bounds c.requires.cut c.requires.letters (string_bytes c.in_ok-text.text) c.in_ok-text.ensures
