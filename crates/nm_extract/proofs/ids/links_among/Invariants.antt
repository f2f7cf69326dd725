use Rattle.std.proofs.Common.{◌≡◌, ℕ, List, [], ◌∷◌, fold, take}
use Rattle.nm_base.specs.Order.{has_text}
use Rattle.nm_extract.specs.Ids.{with_link}
use Rattle.nm_extract.proofs.ids.links_among.Given as goal

-- the links so far; seen are these and the own id
abbrev pub invariant-ids : goal.invariant-ids
invariant-ids l = record {
  links : l.links ≡ fold (with_link l.own) [] (take l.id-index l.ids);
  seen : (text : List ℕ) → has_text l.seen text ≡ has_text (l.own ∷ l.links) text;
}
