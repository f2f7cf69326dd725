-- The fields of a mail by number: they are told apart and written by it. Cited by `facts`, `nm_record` and `nm_model_answer`.
use Rattle.std.specs.Prelude.{ℕ}
use Rattle.nm_base.specs.declared.facts.Field.{Field}
use Rattle.nm_base.specs.declared.facts.Field.TheVariants.{From, To, Subject, Body, Attachment}

-- the fields in their order, from 0
abbrev pub field_number : Field → ℕ
field_number From = 0
field_number To = 1
field_number Subject = 2
field_number Body = 3
field_number Attachment = 4
