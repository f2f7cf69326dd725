-- Each byte represents one value and each value for one byte; dates have eight bytes. Cited by `Facts`.
use Rattle.std.proofs.Common.{◌≡◌, ℕ, zero, suc, ◌<◌, ◌^◌, ℤ, pos, negsuc, Bool, true, false, Option, Some, refl, sym, ap, arith}
use Rattle.std.specs.Prelude.{FitsSigned}
use Rattle.std.specs.Int.{w64}
use Rattle.nm_base.specs.FieldNumber.{field_number}
use Rattle.nm_base.specs.Limits.{is_date}
use Rattle.nm_base.specs.declared.facts.Field.{Field}
use Rattle.nm_base.specs.declared.facts.Field.TheVariants.{From, To, Subject, Body, Attachment}
use Rattle.nm_base.specs.declared.facts.Marks.{Marks}
use Rattle.nm_record.specs.Codes.{field_of, marks_code, marks_of}

-- the field of a number that was written
pub field_back : (f : Field) → field_of (field_number f) ≡ Some f
field_back From = refl
field_back To = refl
field_back Subject = refl
field_back Body = refl
field_back Attachment = refl

-- the number of a field is a byte
pub field_is_small : (f : Field) → field_number f < 2 ^ 8
field_is_small From = omega arith
field_is_small To = omega arith
field_is_small Subject = omega arith
field_is_small Body = omega arith
field_is_small Attachment = omega arith

abbrev the : {A : Type 0} → A → Option A
the a = Some a

is_the : {A : Type 0} (a b : A) → the a ≡ the b → a ≡ b
is_the a b e = cc

-- the number of a field that was read
pub field_number_of : (n : ℕ) (f : Field) → field_of n ≡ Some f → field_number f ≡ n
field_number_of zero f e = ap field_number (sym (is_the From f e))
field_number_of (suc zero) f e = ap field_number (sym (is_the To f e))
field_number_of (suc (suc zero)) f e = ap field_number (sym (is_the Subject f e))
field_number_of (suc (suc (suc zero))) f e = ap field_number (sym (is_the Body f e))
field_number_of (suc (suc (suc (suc zero)))) f e = ap field_number (sym (is_the Attachment f e))
field_number_of (suc (suc (suc (suc (suc n))))) f e = absurd cc

abbrev of_three : Bool → Bool → Bool → Marks
of_three a s e = record { attachment = a; signed = s; encrypted = e }

-- the marks of a code that was written
three_back : (a s e : Bool) → marks_of (marks_code (of_three a s e)) ≡ the (of_three a s e)
three_back true true true = refl
three_back true true false = refl
three_back true false true = refl
three_back true false false = refl
three_back false true true = refl
three_back false true false = refl
three_back false false true = refl
three_back false false false = refl

pub marks_back : (m : Marks) → marks_of (marks_code m) ≡ Some m
marks_back m = three_back m.attachment m.signed m.encrypted

-- the code of marks is a byte
three_small : (a s e : Bool) → marks_code (of_three a s e) < 2 ^ 8
three_small true true true = omega arith
three_small true true false = omega arith
three_small true false true = omega arith
three_small true false false = omega arith
three_small false true true = omega arith
three_small false true false = omega arith
three_small false false true = omega arith
three_small false false false = omega arith

pub marks_are_small : (m : Marks) → marks_code m < 2 ^ 8
marks_are_small m = three_small m.attachment m.signed m.encrypted

-- the code of marks that were read
pub marks_code_of : (n : ℕ) (m : Marks) → marks_of n ≡ Some m → marks_code m ≡ n
marks_code_of zero m e = ap marks_code (sym (is_the (of_three false false false) m e))
marks_code_of (suc zero) m e = ap marks_code (sym (is_the (of_three true false false) m e))
marks_code_of (suc (suc zero)) m e = ap marks_code (sym (is_the (of_three false true false) m e))
marks_code_of (suc (suc (suc zero))) m e = ap marks_code (sym (is_the (of_three true true false) m e))
marks_code_of (suc (suc (suc (suc zero)))) m e = ap marks_code (sym (is_the (of_three false false true) m e))
marks_code_of (suc (suc (suc (suc (suc zero))))) m e = ap marks_code (sym (is_the (of_three true false true) m e))
marks_code_of (suc (suc (suc (suc (suc (suc zero)))))) m e = ap marks_code (sym (is_the (of_three false true true) m e))
marks_code_of (suc (suc (suc (suc (suc (suc (suc zero))))))) m e = ap marks_code (sym (is_the (of_three true true true) m e))
marks_code_of (suc (suc (suc (suc (suc (suc (suc (suc n)))))))) m e = absurd cc

-- a date in the range is a number of 64 bits
pub date_fits : (z : ℤ) → is_date z ≡ true → FitsSigned w64 z
date_fits (pos n) h = grind arith
date_fits (negsuc n) h = grind arith
