use Rattle.std.proofs.Common.{◌∙◌, ap, sym, arith}
use Rattle.std.specs.BTreeMap.{is_at}
use Rattle.std.specs.Map.{remove_entry}
use Rattle.nm_tables.specs.Measures.{pairs_len}
use Rattle.nm_tables.proofs.MeasureLemmas.{removed, without_none}
use Rattle.nm_tables.proofs.measured_map.MeasuredMap.bytes_without.Goals as goal

pub returns-in-Some : goal.returns-in-Some
returns-in-Some g c =
    removed g.K.MeasuredKey.key_measure g.V.Measured.measure g.K.Ord.cmp g.met.K.MeasuredKey.alike c.self.inside.map c.args.key.now c.in-Some.old.now c.bytes-bytes.result c.value_len.result c.key_len.result
    c.saturating_sub.result c.saturating_sub-in-Some.result (sym c.in-Some.ensures) (c.bytes-bytes.ensures ∙ ap (pairs_len g.K.MeasuredKey.key_measure g.V.Measured.measure) (sym c.self.view_is)) (omega (arith, c.bytes-bytes.type_inv))
    c.value_len.ensures c.key_len.ensures c.saturating_sub.ensures c.saturating_sub-in-Some.ensures
    ∙ ap (λ es. pairs_len g.K.MeasuredKey.key_measure g.V.Measured.measure (remove_entry (is_at (g.K.Ord.cmp c.args.key.now)) es)) c.self.view_is

pub returns-in-None : goal.returns-in-None
returns-in-None g c =
    c.bytes-bytes.ensures ∙ ap (pairs_len g.K.MeasuredKey.key_measure g.V.Measured.measure) (sym c.self.view_is)
    ∙ sym (without_none g.K.MeasuredKey.key_measure g.V.Measured.measure (is_at (g.K.Ord.cmp c.args.key.now)) c.self.inside.map (sym c.in-None.ensures))
    ∙ ap (λ es. pairs_len g.K.MeasuredKey.key_measure g.V.Measured.measure (remove_entry (is_at (g.K.Ord.cmp c.args.key.now)) es)) c.self.view_is
