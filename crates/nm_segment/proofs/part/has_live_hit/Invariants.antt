use Rattle.std.proofs.Common.{◌≡◌, ◌<◌, [], get_or}
use Rattle.nm_base.specs.FieldNumber.{field_number}
use Rattle.nm_base.specs.declared.facts.Field.{Field}
use Rattle.nm_segment.specs.Docs.{hits_of, words}
use Rattle.nm_segment.specs.Merge.{living_hits}
use Rattle.nm_segment.proofs.part.has_live_hit.Given as goal

-- in the fields so far no hit lives
abbrev pub invariant-fields : goal.invariant-fields
invariant-fields l = (field : Field) → field_number field < l.number → living_hits l.live (hits_of l.segment (get_or (words l.segment) l.at []) field) ≡ []
