use Rattle.std.proofs.Common.{◌≡◌, ◌∙◌, ℕ, ap, sym}
use Rattle.std.proofs.lemmas.Option.{none-some, same_Some}
use Rattle.nm_threads.specs.Maps.{at}
use Rattle.nm_threads.proofs.thread_merge.place_at.Goals as goal

pub unreachable-requires : goal.unreachable-requires
unreachable-requires c = let place = c.requires.maps.grouped c.args.number c.requires.known.0 c.requires.known.1 in none-some place.0 (c.in_default.ensures ∙ place.2)

pub unreachable-requires-in_default-get : goal.unreachable-requires-in_default-get
unreachable-requires-in_default-get c =
    let place = c.requires.maps.grouped c.args.number c.requires.known.0 c.requires.known.1 in
    let same : place.0 ≡ c.in-Some.group.now = same_Some place.0 c.in-Some.group.now (sym place.2 ∙ sym c.in-Some.ensures) in
    none-some place.1 (c.in_default-get.ensures ∙ ap (λ (group : ℕ). at group c.args.maps.now.threads) (sym same) ∙ place.3)
