use Rattle.std.proofs.Common.{◌≡◌, ◌∙◌, ap, sym, arith}
use Rattle.std.specs.BTreeMap.{insert_entry}
use Rattle.nm_tables.specs.Measures.{pairs_len}
use Rattle.nm_tables.proofs.MeasureLemmas.{replaced, with_new}
use Rattle.nm_tables.proofs.measured_map.MeasuredMap.bytes_with.Goals as goal

pub returns-in_ok-all-in-Some : goal.returns-in_ok-all-in-Some
returns-in_ok-all-in-Some g c =
    replaced g.K.MeasuredKey.key_measure g.V.Measured.measure g.K.Ord.cmp g.met.K.Ord.total g.met.K.MeasuredKey.alike c.self.inside.map c.args.key.now c.args.value.now c.len.ensures.sorted
    c.in-Some.old.now c.bytes-bytes.result c.value_len.result c.saturating_sub.result c.in_ok-all-in-Some.all (sym c.in-Some.ensures) (c.bytes-bytes.ensures ∙ ap (pairs_len g.K.MeasuredKey.key_measure g.V.Measured.measure) (sym c.self.view_is))
    (omega (arith, c.bytes-bytes.type_inv)) c.value_len.ensures c.saturating_sub.ensures (c.in_ok-all-in-Some.ensures (g.V.Measured.measure c.args.value.now) c.value_len-in-Some.ensures)
    ∙ ap (λ es. pairs_len g.K.MeasuredKey.key_measure g.V.Measured.measure (insert_entry g.K.Ord.cmp es c.args.key.now c.args.value.now)) c.self.view_is

pub returns-in_ok-all-in-None : goal.returns-in_ok-all-in-None
returns-in_ok-all-in-None g c =
    let key = c.in_ok-with_key-in-None.ensures (g.K.MeasuredKey.key_measure c.args.key.now) c.key_len.ensures in
    let value = c.in_ok-all-in-None.ensures (g.V.Measured.measure c.args.value.now) c.value_len-in-None.ensures in
    let bytes = c.bytes-bytes.ensures ∙ ap (pairs_len g.K.MeasuredKey.key_measure g.V.Measured.measure) (sym c.self.view_is) in
    let new = with_new g.K.MeasuredKey.key_measure g.V.Measured.measure g.K.Ord.cmp c.self.inside.map c.args.key.now c.args.value.now (sym c.in-None.ensures) in
    let sum : c.in_ok-all-in-None.all ≡ pairs_len g.K.MeasuredKey.key_measure g.V.Measured.measure (insert_entry g.K.Ord.cmp c.self.inside.map c.args.key.now c.args.value.now) = omega (arith, key, value, bytes, new) in
    sum ∙ ap (λ es. pairs_len g.K.MeasuredKey.key_measure g.V.Measured.measure (insert_entry g.K.Ord.cmp es c.args.key.now c.args.value.now)) c.self.view_is
