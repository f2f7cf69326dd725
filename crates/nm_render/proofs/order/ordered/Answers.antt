use Rattle.std.proofs.Common.{rules, ◌≡◌, ℕ, ℤ, List, map, ap, subst, ◌∙◌}
use Rattle.std.specs.Prelude.{IfOk}
use Rattle.std.proofs.lemmas.Fn.{always_returns_same}
use Rattle.nm_model_answer.specs.Listing.{by_rank}
use Rattle.nm_model_answer.specs.Search.{rank_of}
use Rattle.nm_render.proofs.OrderLemmas.{sorted_by_rank}
use Rattle.nm_render.proofs.RankLemmas.{told_by_rank, told_rank}
use Rattle.nm_model_answer.specs.RankLaws.{by_rank_is}
use Rattle.nm_render.proofs.order.ordered.Goals as goal

pub returns : goal.returns
returns c =
    let rank : List ℕ → ℤ = rank_of c.args.snapshot.now c.args.oldest in
    let key : ℤ × List ℕ → ℤ = told_rank rank in
    let items : List (ℤ × List ℕ) = c.in_ok-sorted.sorted.items in
    let turned : c.sort_by_key.new.self.items ≡ by_rank key items =
    sorted_by_rank key items c.sort_by_key.new.self.items (c.in_ok-sort_by_key.ensures.sorted key (always_returns_same _ _ _ (λ a r f k. search rules)))
    (c.in_ok-sort_by_key.ensures.stable key (always_returns_same _ _ _ (λ a r f k. search rules))) (by_rank_is key items) in
    subst (λ (all : List (List ℕ)). IfOk c.ids_of.result (λ ids. ids ≡ all))
    (ap (map (λ (message : ℤ × List ℕ). message.1)) (turned ∙ ap (by_rank key) c.in_ok-sorted.ensures) ∙ told_by_rank rank c.args.ids) c.ids_of.ensures
