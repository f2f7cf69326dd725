use Rattle.std.proofs.Common.{ℕ, List, [], ◌∷◌, ◌++◌, take, sym, subst, ◌∙◌, ap}
use Rattle.std.proofs.lemmas.List.{take_more}
use Rattle.nm_tables.specs.Measures.{AreSeen}
use Rattle.nm_tables.proofs.MeasureLemmas.{none_seen}
use Rattle.nm_tables.proofs.measured_labels.new_len.Goals as goal

pub links-init : goal.links-init
links-init c = c.in_ok-bytes.ensures [] (subst (λ (seen : List (List ℕ)). AreSeen c.args.labels.now [] seen 0) (sym c.new-seen.ensures) (none_seen c.args.labels.now))

pub links-preserved : goal.links-preserved
links-preserved c =
    let ids = c.as_slice-id-items.result.now in
    let more = take_more ids c.links.id-index c.id-item.result c.links-test.true ∙ ap (λ (id : List ℕ). take c.links.id-index ids ++ id ∷ []) (sym c.id-item.is) in
    subst (λ (so_far : List (List ℕ)). AreSeen c.args.labels.now (c.args.row.now.id ∷ so_far) c.count_new-in-links.new.seen c.in_ok-bytes-2.bytes) (sym more)
    (c.in_ok-bytes-2.ensures (c.args.row.now.id ∷ take c.links.id-index ids) c.links.invariant)
