use Rattle.nm_changes.proofs.EncodingLemmas.{all_are}
use Rattle.nm_changes.proofs.encoding.encode_rest.Goals as goal

pub returns : goal.returns
returns c = all_are c.args.changes.now c.args.pieces c.encode_more.new.pieces c.len.result c.requires c.len.ensures c.in_ok-encode_more.ensures
