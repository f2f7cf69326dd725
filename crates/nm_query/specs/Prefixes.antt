-- The prefixes of terms. Cited by `lexeme` and `prefixes`.
use Rattle.std.specs.Prelude.{ℕ, ◌<◌, Bool, ◌||◌, List, Option, Some, None, codes, nat_eq, if◌then◌else◌}
use Rattle.std.specs.List.{starts_with}
use Rattle.std.specs.Str.{IsCharBoundary}
use Rattle.nm_base.specs.declared.facts.Field.TheVariants as field
use Rattle.nm_query.specs.declared.prefixes.FieldPrefix.{FieldPrefix}
use Rattle.nm_query.specs.declared.prefixes.NamePrefix.{NamePrefix}
use Rattle.nm_query.specs.declared.prefixes.Name.TheVariants as name

-- the text begins so
abbrev pub begins : List ℕ → List ℕ → Bool
begins front text = starts_with nat_eq text front

-- a field whose words are asked
abbrev pub field_prefix : List ℕ → Option FieldPrefix
field_prefix text =
    if begins (codes "from:") text then Some (record { field = field.From; len = 5 })
    else (if begins (codes "to:") text then Some (record { field = field.To; len = 3 })
    else (if begins (codes "subject:") text then Some (record { field = field.Subject; len = 8 })
    else (if begins (codes "body:") text then Some (record { field = field.Body; len = 5 })
    else (if begins (codes "attachment:") text then Some (record { field = field.Attachment; len = 11 })
    else None))))

-- a name whose value is taken as it is, the first half of them
abbrev pub tag_prefix : List ℕ → Option NamePrefix
tag_prefix text =
    if begins (codes "tag:") text then Some (record { name = name.Tag; len = 4 })
    else (if begins (codes "is:") text then Some (record { name = name.Is; len = 3 })
    else (if begins (codes "id:") text then Some (record { name = name.Id; len = 3 })
    else (if begins (codes "mid:") text then Some (record { name = name.Id; len = 4 })
    else (if begins (codes "thread:") text then Some (record { name = name.Thread; len = 7 })
    else None))))

-- and the second half
abbrev pub folder_prefix : List ℕ → Option NamePrefix
folder_prefix text =
    if begins (codes "folder:") text then Some (record { name = name.Folder; len = 7 })
    else (if begins (codes "path:") text then Some (record { name = name.Path; len = 5 })
    else (if begins (codes "mimetype:") text then Some (record { name = name.Mime; len = 9 })
    else (if begins (codes "date:") text then Some (record { name = name.Date; len = 5 })
    else None)))

-- a form that is not there
abbrev pub begins_what_is_not_here : List ℕ → Bool
begins_what_is_not_here text = begins (codes "lastmod:") text || begins (codes "query:") text || begins (codes "property:") text

-- a character ends after n bytes, which are some
abbrev pub CutsOff : List ℕ → ℕ → Type 0
CutsOff text len = (0 < len) × IsCharBoundary text len
