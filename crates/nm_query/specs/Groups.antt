-- Lists of queries that an operator joins, and the queries of a group, which are side by side.
-- Cited by `group` and `joined`.
use Rattle.std.specs.Prelude.{ℕ, Bool, ◌==◌, not, List, [], ◌∷◌, filter, map, if◌then◌else◌}
use Rattle.nm_query.specs.declared.query.Query.{Query}
use Rattle.nm_query.specs.declared.query.Query.TheVariants as tree
use Rattle.nm_query.specs.declared.token.Item.{Item}
use Rattle.nm_query.specs.declared.token.Operator.{Operator}
use Rattle.nm_query.specs.declared.token.Operator.TheVariants.{Conjunction, Disjunction, Exclusion}
use Rattle.nm_query.specs.declared.token.TermKind.{TermKind}
use Rattle.nm_query.specs.declared.token.TermKind.TheVariants as joins

-- the list that an operator makes
abbrev pub list_of : Operator → List Query → Query
list_of Conjunction queries = tree.And queries
list_of Exclusion queries = tree.Xor queries
list_of Disjunction queries = tree.Or queries

-- joined by an operator; one alone stays as it is, and none ask nothing
abbrev pub joined : Operator → List Query → Query
joined operator [] = tree.All
joined operator (only ∷ []) = only
joined operator (first ∷ second ∷ more) = list_of operator (first ∷ second ∷ more)

-- the kinds by number, to tell them apart
abbrev pub kind_number : TermKind → ℕ
kind_number joins.Tag = 0
kind_number joins.Id = 1
kind_number joins.Thread = 2
kind_number joins.Folder = 3
kind_number joins.Path = 4
kind_number joins.Other = 5

-- a term of this kind
abbrev pub is_of : TermKind → Item → Bool
is_of kind item = kind_number item.kind == kind_number kind

-- what the terms of the kind ask
abbrev pub queries_of : TermKind → List Item → List Query
queries_of kind items = map (λ item. item.query) (filter (is_of kind) items)

-- what is of another kind
abbrev pub others : TermKind → List Item → List Item
others kind items = filter (λ item. not (is_of kind item)) items

-- all terms of the kind in one Or, at the place of the first of them
abbrev pub with_joined : TermKind → List Item → List Item
with_joined kind [] = []
with_joined kind (item ∷ more) =
    if is_of kind item
    then record { kind = joins.Other; query = joined Disjunction (item.query ∷ queries_of kind more) } ∷ others kind more
    else item ∷ with_joined kind more

-- tags, ids, threads, folders and paths are joined so, each kind by itself
abbrev pub grouped : List Item → List Item
grouped items = with_joined joins.Path (with_joined joins.Folder (with_joined joins.Thread (with_joined joins.Id (with_joined joins.Tag items))))

-- what an item asks
abbrev pub query_of : Item → Query
query_of item = item.query

-- what a group asks: all that is in it
abbrev pub group_query : List Item → Query
group_query items = joined Conjunction (map query_of (grouped items))
