-- Which queries are answered without words, paths and types being read, so that lists of queries may ask them first.
-- Cited by `quick`.
use Rattle.std.specs.Prelude.{Bool, true, false, not, List, ◌++◌}
use Rattle.std.specs.List.{filter, list_all}
use Rattle.nm_query.specs.declared.query.Query.{Query}
use Rattle.nm_query.specs.declared.query.Query.TheOpen.{Query-F}
use Rattle.nm_query.specs.declared.query.Query.TheFolds.{fold-Query}

-- one node is, from whether the queries that it joins are: tags, ids, threads and dates are
abbrev pub node_is_quick : Query-F Bool → Bool
node_is_quick Query-F.All = true
node_is_quick (Query-F.Tag tag) = true
node_is_quick (Query-F.Id id) = true
node_is_quick (Query-F.Thread number) = true
node_is_quick (Query-F.Dates from to) = true
node_is_quick (Query-F.Not answer) = answer
node_is_quick (Query-F.And answers) = list_all (λ answer. answer) answers
node_is_quick (Query-F.Or answers) = list_all (λ answer. answer) answers
node_is_quick (Query-F.Xor answers) = list_all (λ answer. answer) answers
node_is_quick _ = false

-- the query is, with all that it joins
abbrev pub is_quick : Query → Bool
is_quick query = fold-Query Bool node_is_quick query

-- the quick queries, and then the others, each in their order
abbrev pub quick_first : List Query → List Query
quick_first queries = filter is_quick queries ++ filter (λ query. not (is_quick query)) queries
