use Rattle.std.proofs.Common.{sym, ap, rules}
use Rattle.nm_io.specs.Memory.{SourceState}
use Rattle.nm_io.proofs.PieceLemmas.{gives_front_of}
use Rattle.nm_io.proofs.mem_source.MemSourceSource.take.Goals as goal

pub returns-clause-taken : goal.returns-clause-taken
returns-clause-taken c = record {
  count = search rules;
  bytes =
      gives_front_of c.self.inside.bytes _ _ _ _ c.self.inside.at _ _ (sym (ap (λ (s : SourceState). s.bytes) c.self.view_is)) c.as_slice.ensures c.split_at.ensures.back
      c.copy_front-n.ensures.count c.copy_front-n.auto.to c.copy_front-n.ensures.bytes;
  cause = search rules;
}
