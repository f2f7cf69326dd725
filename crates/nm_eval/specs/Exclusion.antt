-- Which of the two tags keep a message out, found once for a query. Cited by `exclusion` and `matcher`.
use Rattle.std.specs.Prelude.{ℕ, Bool, ◌&&◌, ◌||◌, not, List, codes}
use Rattle.nm_base.specs.Tags.{has_tag}
use Rattle.nm_model_answer.specs.Matches.{names_tag}
use Rattle.nm_model_answer.specs.View.{View}
use Rattle.nm_query.specs.declared.query.Query.{Query}
use Rattle.nm_eval.specs.declared.exclusion.Exclusion.{Exclusion}

-- each where exclusion is asked and the query does not name it
abbrev pub exclusion_of : Query → Bool → Exclusion
exclusion_of query exclude = record { deleted = exclude && not (names_tag query (codes "deleted")); spam = exclude && not (names_tag query (codes "spam")) }

-- one of them is among the tags
abbrev pub is_among : Exclusion → List (List ℕ) → Bool
is_among exclusion tags = (exclusion.deleted && has_tag tags (codes "deleted")) || (exclusion.spam && has_tag tags (codes "spam"))

-- the message has one of them
abbrev pub leaves_out : Exclusion → View → Bool
leaves_out exclusion message = is_among exclusion message.tags
