-- The entries of labels that the maps make. For the proof of `Labels::entries`.
use Rattle.std.proofs.Common.{◌≡◌, refl, ap, ℕ, List, [], ◌∷◌, map}
use Rattle.nm_threads.specs.Labels.{entries_of}
use Rattle.nm_threads.specs.Maps.{labels_in}
use Rattle.nm_threads.specs.declared.maps.Thread.{Thread}

-- they are the ids by their numbers
pub entries_are : (groups : List (ℕ × ℕ)) (threads : List (ℕ × Thread)) (ids : List (ℕ × List ℕ)) → map (λ entry. (entry.1, entry.0)) ids ≡ entries_of (labels_in ids groups threads)
entries_are groups threads [] = refl
entries_are groups threads (entry ∷ ids) = ap (λ more. (entry.1, entry.0) ∷ more) (entries_are groups threads ids)
