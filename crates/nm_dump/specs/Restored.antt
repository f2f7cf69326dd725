-- What a `restore` comes to: the tags that each message then has. Cited by `restore_laws`.
use Rattle.std.specs.Prelude.{◌≡◌, ℕ, ℤ, Bool, ◌&&◌, not, List, fold, map, IsTrue}
use Rattle.std.specs.List.{AllByRecursion, IsDistinct, filter, list_any}
use Rattle.nm_model_answer.specs.Restore.{restorings_of}
use Rattle.nm_model_answer.specs.WantedTags.{wanted_by}
use Rattle.nm_model_answer.specs.View.{tags_of}
use Rattle.nm_base.specs.Order.{IsSorted, has_text, same_text}
use Rattle.nm_base.specs.declared.asks.RestoreAsk.{RestoreAsk}
use Rattle.nm_model_index.specs.Index.{folded, live_ids}
use Rattle.nm_model_index.specs.declared.base.Base.{Base}
use Rattle.nm_model_plan.specs.TagCommit.{tag_commit}
use Rattle.nm_tags.specs.Operations.{after_ops, begun_with}
use Rattle.nm_tags.specs.declared.wanted.Wanted.{Wanted}

-- one of the lines names the message
abbrev pub is_named_in : List Wanted → List ℕ → Bool
is_named_in lines id = list_any (λ line. same_text id line.id) lines

-- the lines that name it, in their order
abbrev pub lines_naming : List Wanted → List ℕ → List Wanted
lines_naming lines id = filter (λ line. same_text id line.id) lines

-- The tags of a message after the lines: the operations of those that name it, one line after the other, on the tags that it
-- had; on none, where a line names it and tags are not to stay.
abbrev pub restored_tags : Bool → List Wanted → List ℕ → List (List ℕ) → List (List ℕ)
restored_tags accumulate lines id tags = fold (λ at line. after_ops at line.ops) (begun_with (not accumulate && is_named_in lines id) tags) (lines_naming lines id)

-- the message has a file
abbrev pub is_live : Base → List ℕ → Bool
is_live index id = has_text (live_ids index.files index.entries) id

-- each message occurs once, with its tags in byte order and each once
abbrev pub StandOnce : List (List ℕ × List (List ℕ)) → Type 0
StandOnce messages = IsDistinct same_text (map (λ message. message.0) messages) × AllByRecursion (λ message. IsSorted message.1) messages

-- each of these messages that is live in the index has just these tags in what is wanted
abbrev pub HaveTheirTags : Base → Base → List (List ℕ × List (List ℕ)) → Type 0
HaveTheirTags index wanted messages = AllByRecursion (λ message. IsTrue (is_live index message.0) → tags_of wanted message.0 ≡ message.1) messages

-- the index after the commit of what the lines of a `restore` want
abbrev pub after_restore : ℤ → Base → RestoreAsk → List ℕ → Base
after_restore moment index ask input = folded index (tag_commit index (wanted_by moment index (restorings_of ask input)))
