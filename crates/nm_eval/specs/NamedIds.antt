-- The ids that a query names: no message with another id passes it, so of such a query no other is tested.
-- Cited by `laws`, `matcher` and `named_ids`.
use Rattle.std.specs.Prelude.{ℕ, List, [], ◌∷◌, ◌++◌, Option, Some, None, if◌then◌else◌}
use Rattle.nm_base.specs.MessageId.{is_message_id}
use Rattle.nm_query.specs.declared.query.Query.{Query}
use Rattle.nm_query.specs.declared.query.Query.TheOpen.{Query-F}
use Rattle.nm_query.specs.declared.query.Query.TheFolds.{fold-Query}

-- the first of them that there is
abbrev pub first_some : List (Option (List (List ℕ))) → Option (List (List ℕ))
first_some [] = None
first_some (None ∷ more) = first_some more
first_some (Some ids ∷ more) = Some ids

-- the ids of both, where there are both
abbrev pub both : Option (List (List ℕ)) → Option (List (List ℕ)) → Option (List (List ℕ))
both None more = None
both (Some ids) None = None
both (Some ids) (Some more) = Some (ids ++ more)

-- the ids of all, where there are all
abbrev pub all_some : List (Option (List (List ℕ))) → Option (List (List ℕ))
all_some [] = Some []
all_some (ids ∷ more) = both ids (all_some more)

-- the id of a term `id:`, where its text is an id
abbrev pub named_id : List ℕ → Option (List (List ℕ))
named_id text = if is_message_id text then Some (text ∷ []) else None

-- what one node names, from what the queries that it joins name: an `and` what the first names that names ids, an `or` what all
-- name, where each names ids
abbrev pub node_named : Query-F (Option (List (List ℕ))) → Option (List (List ℕ))
node_named (Query-F.Id text) = named_id text
node_named (Query-F.And named) = first_some named
node_named (Query-F.Or named) = all_some named
node_named _ = None

-- the ids that the query names: those of its terms `id:`, where no message with another id can pass it
abbrev pub named_ids : Query → Option (List (List ℕ))
named_ids query = fold-Query (Option (List (List ℕ))) node_named query
