-- How a group is split for one kind of terms. Cited by `group`.
use Rattle.std.specs.Prelude.{◌==◌, List, [], ◌∷◌, ◌++◌, length, if◌then◌else◌}
use Rattle.nm_query.specs.Groups.{is_of, joined}
use Rattle.nm_query.specs.declared.group.Parted.{Parted}
use Rattle.nm_query.specs.declared.query.Query.{Query}
use Rattle.nm_query.specs.declared.token.Item.{Item}
use Rattle.nm_query.specs.declared.token.Operator.TheVariants.{Disjunction}
use Rattle.nm_query.specs.declared.token.TermKind.{TermKind}
use Rattle.nm_query.specs.declared.token.TermKind.TheVariants as joins

-- before the first item
abbrev pub unparted : Parted
unparted = record { before = []; found = []; after = [] }

-- after one item more: a term of the kind is found, another comes before the first of them or after it
abbrev pub part : TermKind → Parted → Item → Parted
part kind parted item =
    if is_of kind item then record parted { found = parted.found ++ item.query ∷ [] }
    else (if length parted.found == 0 then record parted { before = parted.before ++ item ∷ [] }
    else record parted { after = parted.after ++ item ∷ [] })

-- the items joined again, with one Or of the terms that were found
abbrev pub rejoined : List Item → List Query → List Item → List Item
rejoined before [] after = before
rejoined before (query ∷ queries) after = before ++ record { kind = joins.Other; query = joined Disjunction (query ∷ queries) } ∷ after
