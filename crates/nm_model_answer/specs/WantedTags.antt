-- The tags that are wanted, line by line. What is wanted is in an index, in the place of its tags.
-- Cited by `nm_model_plan`, `nm_writer` and `nm_dump`.
use Rattle.std.specs.Prelude.{ℕ, ℤ, Bool, false, ◌||◌, List, [], ◌∷◌, fold, map}
use Rattle.nm_model_answer.specs.Matches.{matches_of}
use Rattle.nm_model_answer.specs.View.{tags_of}
use Rattle.nm_model_answer.specs.declared.tag_change.TagChange.{TagChange}
use Rattle.nm_base.specs.Order.{has_text}
use Rattle.nm_model_index.specs.Index.{with_tags}
use Rattle.nm_model_index.specs.declared.base.Base.{Base}
use Rattle.nm_tags.specs.Operations.{after_ops, begun_with}

-- the index in which each of these messages has these tags and no others
abbrev pub retagged : Base → List (List ℕ × List (List ℕ)) → Base
retagged index sets = fold (λ at set. with_tags at set.0 set.1) index sets

-- the messages that a line finds; no tag keeps one out
abbrev pub found_by : ℤ → Base → TagChange → List (List ℕ)
found_by moment index line = matches_of index line.query moment false

-- the tags that a line asks for in the place of these: where it clears it begins from none, and then come its operations
abbrev pub asked_tags : TagChange → List (List ℕ) → List (List ℕ)
asked_tags line tags = after_ops (begun_with line.clear tags) line.ops

-- each message that a line finds, with the tags that are then wanted
abbrev pub line_sets : ℤ → Base → TagChange → List (List ℕ × List (List ℕ))
line_sets moment index line = map (λ id. (id, asked_tags line (tags_of index id))) (found_by moment index line)

-- what is wanted after a line, which looks at what is wanted before it
abbrev pub wanted_after : ℤ → Base → TagChange → Base
wanted_after moment index line = retagged index (line_sets moment index line)

-- what is wanted after all lines, the first of them first
abbrev pub wanted_by : ℤ → Base → List TagChange → Base
wanted_by moment index lines = fold (wanted_after moment) index lines

-- one of the lines finds the message
abbrev pub is_found : ℤ → Base → List TagChange → List ℕ → Bool
is_found moment index [] id = false
is_found moment index (line ∷ lines) id = has_text (found_by moment index line) id || is_found moment (wanted_after moment index line) lines id
