use Rattle.std.proofs.Common.{[], ◌∷◌}
use Rattle.nm_record.specs.Commits.{arrival_grammar}
use Rattle.nm_record.proofs.WriteLemmas.{two_written}
use Rattle.nm_record.proofs.changes.ChangeFormatFormat.write.Goals as goal

pub returns-in_ok-write_arrival-in-Add : goal.returns-in_ok-write_arrival-in-Add
returns-in_ok-write_arrival-in-Add c = rw c.in-Add.is (two_written c.args.writer.now (1 ∷ []) (arrival_grammar.bytes (c.in-Add.path, c.in-Add.facts)) c.put_u8.new.self c.write_arrival.new.writer c.in_ok-put_u8-in-Add.ensures.ok c.in_ok-write_arrival-in-Add.ensures)
