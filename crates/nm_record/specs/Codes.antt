-- What one byte represents: a field of a mail, the marks of its parts. Cited by `facts`.
use Rattle.std.specs.Prelude.{ℕ, zero, suc, ◌+◌, Bool, true, false, Option, None, Some, if◌then◌else◌}
use Rattle.nm_base.specs.declared.facts.Field.{Field}
use Rattle.nm_base.specs.declared.facts.Field.TheVariants.{From, To, Subject, Body, Attachment}
use Rattle.nm_base.specs.declared.facts.Marks.{Marks}

-- the field that has this number
abbrev pub field_of : ℕ → Option Field
field_of zero = Some From
field_of (suc zero) = Some To
field_of (suc (suc zero)) = Some Subject
field_of (suc (suc (suc zero))) = Some Body
field_of (suc (suc (suc (suc zero)))) = Some Attachment
field_of (suc (suc (suc (suc (suc n))))) = None

-- 1 where a part is attached, 2 where one is signed, 4 where one is encrypted, summed
abbrev pub marks_code : Marks → ℕ
marks_code marks = (if marks.attachment then 1 else 0) + (if marks.signed then 2 else 0) + (if marks.encrypted then 4 else 0)

-- the three marks
abbrev marks : Bool → Bool → Bool → Option Marks
marks attachment signed encrypted = Some (record { attachment = attachment; signed = signed; encrypted = encrypted })

-- the marks that have this code
abbrev pub marks_of : ℕ → Option Marks
marks_of zero = marks false false false
marks_of (suc zero) = marks true false false
marks_of (suc (suc zero)) = marks false true false
marks_of (suc (suc (suc zero))) = marks true true false
marks_of (suc (suc (suc (suc zero)))) = marks false false true
marks_of (suc (suc (suc (suc (suc zero))))) = marks true false true
marks_of (suc (suc (suc (suc (suc (suc zero)))))) = marks false true true
marks_of (suc (suc (suc (suc (suc (suc (suc zero))))))) = marks true true true
marks_of (suc (suc (suc (suc (suc (suc (suc (suc n)))))))) = None
