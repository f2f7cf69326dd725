use Rattle.std.proofs.Common.{◌≡◌, ◌≤◌, ◌-◌, drop, length}
use Rattle.std.specs.List.{flat_map}
use Rattle.nm_cursor.specs.Sets.{union}
use Rattle.nm_segment.specs.Docs.{words}
use Rattle.nm_segment.specs.Starts.{starting}
use Rattle.nm_phrase.specs.Found.{numbers_of}
use Rattle.nm_phrase.proofs.start.add_started.Given as goal

-- the documents so far, with those of the words that are left, are all
abbrev pub invariant-words : goal.invariant-words
invariant-words g l =
    (union l.docs.keys (flat_map (numbers_of l.place.segment.now l.place.field l.before) (drop l.at (starting l.start (words l.place.segment.now)))) ≡ union l.initial.docs.keys (flat_map (numbers_of l.place.segment.now l.place.field l.before) (starting l.start (words l.place.segment.now))))
    × (l.initial.steps ≤ l.steps)

abbrev pub decreases-words : goal.decreases-words
decreases-words g l = length (starting l.start (words l.place.segment.now)) - l.at
