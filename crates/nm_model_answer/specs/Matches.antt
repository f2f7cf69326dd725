-- Which messages a query finds, and which tags keep a message out unless the query names them.
-- Cited by `laws`, `nm_eval`, `nm_render` and others.
use Rattle.std.specs.Prelude.{ℕ, ℤ, Bool, false, ◌&&◌, not, List, [], ◌∷◌, codes, Contains, IsTrue}
use Rattle.std.specs.List.{filter, list_any}
use Rattle.nm_base.specs.Order.{same_text}
use Rattle.nm_base.specs.Tags.{has_tag}
use Rattle.nm_model_index.specs.Index.{live_ids}
use Rattle.nm_model_index.specs.declared.base.Base.{Base}
use Rattle.nm_query.specs.declared.query.Query.{Query}
use Rattle.nm_query.specs.declared.query.Query.TheOpen.{Query-F}
use Rattle.nm_query.specs.declared.query.Query.TheFolds.{fold-Query}
use Rattle.nm_model_answer.specs.Test.{passes}
use Rattle.nm_model_answer.specs.View.{View, view_of}

-- one node names the tag, from what is said of the queries that it joins
abbrev pub node_names : List ℕ → Query-F Bool → Bool
node_names tag (Query-F.Tag named) = same_text tag named
node_names tag (Query-F.Not answer) = answer
node_names tag (Query-F.And answers) = list_any (λ answer. answer) answers
node_names tag (Query-F.Or answers) = list_any (λ answer. answer) answers
node_names tag (Query-F.Xor answers) = list_any (λ answer. answer) answers
node_names tag _ = false

-- the tag is a term of the query, wherever in it
abbrev pub names_tag : Query → List ℕ → Bool
names_tag query tag = fold-Query Bool (node_names tag) query

-- the tags that keep a message out
abbrev pub excluding_tags : List (List ℕ)
excluding_tags = codes "deleted" ∷ codes "spam" ∷ []

-- those of them that the query does not name
abbrev pub tags_excluded : Query → List (List ℕ)
tags_excluded query = filter (λ tag. not (names_tag query tag)) excluding_tags

-- the message has one of these
abbrev pub is_excluded : Query → View → Bool
is_excluded query message = list_any (has_tag message.tags) (tags_excluded query)

-- the tag is one of the two, the message has it, and the query does not name it
abbrev pub Excludes : Query → View → List ℕ → Type 0
Excludes query message tag = Contains excluding_tags tag × IsTrue (has_tag message.tags tag) × (¬ IsTrue (names_tag query tag))

-- the message passes the query, and is not excluded where exclusion is asked
abbrev pub is_match : Query → ℤ → Bool → View → Bool
is_match query moment exclude message = passes query message moment && not (exclude && is_excluded query message)

-- the ids of the live messages that match, by their numbers
abbrev pub matches_of : Base → Query → ℤ → Bool → List (List ℕ)
matches_of index query moment exclude = filter (λ id. is_match query moment exclude (view_of index id)) (live_ids index.files index.entries)
