-- The names of options: they begin with dashes, are more than those, and have no `=`.
-- For `LeadingOptionLemmas`, `OptionLemmas`, `CommandLemmas` and others.
use Rattle.std.proofs.Common.{◌≡◌, ℕ, suc, ◌<◌, ◌+◌, Bool, true, false, cond, ◌&&◌, not, List, [], ◌∷◌, ◌++◌, length, drop, take, refl, ap, ◌∙◌, arith}
use Rattle.std.specs.Prelude.{Some, codes, nat_lt}
use Rattle.std.specs.List.{after_first, before_first, list_all, position_or_len}
use Rattle.std.proofs.Math.Seq.{take-append_seam}
use Rattle.std.proofs.lemmas.Bool.Decides.{nat_tests}
use Rattle.std.proofs.lemmas.Bool.{and_parts, le-ltb, lt-ltb, ltb-false, not-true}
use Rattle.std.proofs.lemmas.List.{take_all}
use Rattle.nm_base.specs.Order.{same_text}
use Rattle.nm_text.specs.Cuts.{is_byte}
use Rattle.nm_command.specs.Options.{begins_with_dashes}
use Rattle.nm_command.specs.Table.{meaning_of, options_of}
use Rattle.nm_command.specs.declared.table.CommandName.{CommandName}
use Rattle.nm_command.specs.declared.table.CommandName.TheVariants.{Count, Drill, Dump, New, Restore, Search, Session, Show, Tag}
use Rattle.nm_command.specs.declared.table.Form.{Form}
use Rattle.nm_command.proofs.RowLemmas.{AllRows, row-holds}

abbrev lacks_equals : List ℕ → Bool
lacks_equals name = list_all (λ b. not (is_byte 61 b)) name

abbrev pub is_name : List ℕ → Bool
is_name name = begins_with_dashes name && not (same_text name (codes "--")) && lacks_equals name

all_names : (command : CommandName) → AllRows (λ name form. is_name name ≡ true) (options_of command)
all_names New = tt
all_names Search = (refl, (refl, (refl, (refl, (refl, (refl, tt))))))
all_names Count = (refl, (refl, (refl, tt)))
all_names Show = (refl, (refl, tt))
all_names Tag = (refl, (refl, tt))
all_names Dump = (refl, tt)
all_names Restore = (refl, (refl, tt))
all_names Drill = tt
all_names Session = tt

pub name-found : (command : CommandName) (name : List ℕ) (form : Form) → meaning_of name (options_of command) ≡ Some form → is_name name ≡ true
name-found command name form is = row-holds (λ name form. is_name name ≡ true) (options_of command) name form (all_names command) is

pub name-dashes : (name : List ℕ) → is_name name ≡ true → begins_with_dashes name ≡ true
name-dashes name h = (and_parts _ _ (and_parts _ _ h).0).0

pub name-more : (name : List ℕ) → is_name name ≡ true → same_text name (codes "--") ≡ false
name-more name h = not-true _ (and_parts _ _ (and_parts _ _ h).0).1

pub name-lacks : (name : List ℕ) → is_name name ≡ true → lacks_equals name ≡ true
name-lacks name h = (and_parts _ _ h).1

-- what follows a name changes nothing of its front
pub name-dashes_on : (name rest : List ℕ) → is_name name ≡ true → begins_with_dashes (name ++ rest) ≡ true
name-dashes_on [] rest h = absurd (cc)
name-dashes_on (a ∷ []) rest h = absurd (grind (arith, nat_tests))
name-dashes_on (a ∷ b ∷ name) rest h = name-dashes (a ∷ b ∷ name) h

same-longer : (a b c : ℕ) (rest : List ℕ) → same_text (a ∷ b ∷ c ∷ rest) (codes "--") ≡ false
same-longer a b c rest = grind (arith, nat_tests)

pub name-more_on : (name rest : List ℕ) → is_name name ≡ true → same_text (name ++ rest) (codes "--") ≡ false
name-more_on [] rest h = absurd (cc)
name-more_on (a ∷ []) rest h = absurd (grind (arith, nat_tests))
name-more_on (a ∷ b ∷ []) rest h = absurd (grind (arith, nat_tests))
name-more_on (a ∷ b ∷ c ∷ name) rest h = same-longer a b c (name ++ rest)

-- the first `=` follows the name
pub place-none : (name : List ℕ) → lacks_equals name ≡ true → position_or_len (is_byte 61) name ≡ length name
place-none [] h = refl
place-none (b ∷ name) h =
    let next = place-none name (and_parts (not (is_byte 61 b)) (lacks_equals name) h).1 in
    let place : 1 + position_or_len (is_byte 61) name ≡ suc (length name) = omega (arith, next) in
    ap (λ v. cond v (1 + position_or_len (is_byte 61) name) 0) (and_parts (not (is_byte 61 b)) (lacks_equals name) h).0 ∙ place

pub place-after : (name value : List ℕ) → lacks_equals name ≡ true → position_or_len (is_byte 61) (name ++ 61 ∷ value) ≡ length name
place-after [] value h = refl
place-after (b ∷ name) value h =
    let next = place-after name value (and_parts (not (is_byte 61 b)) (lacks_equals name) h).1 in
    let place : 1 + position_or_len (is_byte 61) (name ++ 61 ∷ value) ≡ suc (length name) = omega (arith, next) in
    ap (λ v. cond v (1 + position_or_len (is_byte 61) (name ++ 61 ∷ value)) 0) (and_parts (not (is_byte 61 b)) (lacks_equals name) h).0 ∙ place

drop-seam : (name value : List ℕ) → drop (suc (length name)) (name ++ 61 ∷ value) ≡ value
drop-seam [] value = refl
drop-seam (b ∷ name) value = drop-seam name value

length-seam : (name value : List ℕ) → length name < length (name ++ 61 ∷ value)
length-seam [] value = omega arith
length-seam (b ∷ name) value = let next = length-seam name value in omega (arith, next)

pub name-cut : (name value : List ℕ) → lacks_equals name ≡ true → before_first (is_byte 61) (name ++ 61 ∷ value) ≡ name
name-cut name value h = ap (λ n. take n (name ++ 61 ∷ value)) (place-after name value h) ∙ take-append_seam name (61 ∷ value)

pub value-cut : (name value : List ℕ) → lacks_equals name ≡ true → after_first (is_byte 61) (name ++ 61 ∷ value) ≡ value
value-cut name value h =
    let place : position_or_len (is_byte 61) (name ++ 61 ∷ value) + 1 ≡ suc (length name) = omega (arith, place-after name value h) in
    ap (λ n. drop n (name ++ 61 ∷ value)) place ∙ drop-seam name value

pub cut-there : (name value : List ℕ) → lacks_equals name ≡ true → nat_lt (position_or_len (is_byte 61) (name ++ 61 ∷ value)) (length (name ++ 61 ∷ value)) ≡ true
cut-there name value h = lt-ltb (position_or_len (is_byte 61) (name ++ 61 ∷ value)) (length (name ++ 61 ∷ value)) (let seam = length-seam name value in let place = place-after name value h in omega (arith, seam, place))

pub cut-nowhere : (name : List ℕ) → lacks_equals name ≡ true → nat_lt (position_or_len (is_byte 61) name) (length name) ≡ false
cut-nowhere name h = le-ltb (position_or_len (is_byte 61) name) (length name) (omega (arith, place-none name h))

-- without an `=` the whole word is its name
pub name-whole : (word : List ℕ) → nat_lt (position_or_len (is_byte 61) word) (length word) ≡ false → before_first (is_byte 61) word ≡ word
name-whole word h = take_all (position_or_len (is_byte 61) word) word (ltb-false (position_or_len (is_byte 61) word) (length word) h)
