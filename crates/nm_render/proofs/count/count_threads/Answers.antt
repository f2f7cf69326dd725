use Rattle.std.proofs.Common.{List, ℕ, [], ◌∷◌, fold, sym, ap, ◌∙◌}
use Rattle.std.specs.BTreeSet.{insert_key}
use Rattle.std.specs.List.{filter_map}
use Rattle.std.specs.Ordering.{nat_cmp}
use Rattle.nm_model_index.specs.Index.{rows_of}
use Rattle.nm_threads.specs.Name.{thread_name}
use Rattle.nm_render.proofs.CountLemmas.{threads_more}
use Rattle.nm_render.proofs.count.count_threads.Goals as goal

pub ids-preserved : goal.ids-preserved
ids-preserved c =
    let index = c.args.snapshot.now in
    let named : List ℕ → List ℕ = λ id. filter_map (thread_name (rows_of index) index.entries) (id ∷ []) in
    c.in_ok-guess.ensures
    ∙ (ap (λ (names : List ℕ). fold (insert_key nat_cmp) names (named c.id-item.result)) c.ids.invariant
    ∙ sym (threads_more index c.args.ids.now c.ids.id-index c.id-item.result c.ids-test.true c.id-item.is))
