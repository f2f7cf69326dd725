-- Mailboxes one by one: addresses alone, separators, groups and spaces.
-- For the proofs of `a_group_is_its_mailboxes`, `an_address_alone_is_a_mailbox` and `mailboxes_end_at_separators`.
use Rattle.std.proofs.Common.{◌≡◌, ℕ, suc, ◌+◌, Bool, true, false, cond, ◌||◌, ◌&&◌, ◌==◌, List, [], ◌∷◌, ◌++◌, map, take, drop, refl, sym, ap, ◌∙◌, arith, append_assoc}
use Rattle.std.specs.List.{before_first, concat, flat_map, list_all, list_any, position_or_len, slice_split}
use Rattle.std.proofs.lemmas.Bool.{and_parts}
use Rattle.std.proofs.lemmas.Bool.Decides.{nat_tests}
use Rattle.std.proofs.lemmas.List.{append-nil}
use Rattle.nm_base.specs.Bounds.{is_white_space}
use Rattle.nm_base.specs.declared.facts.Mailbox.{Mailbox}
use Rattle.nm_text.specs.QuotedStrings.{unquoted}
use Rattle.nm_text.specs.WhiteSpace.{is_all_white_space, without_white_space}
use Rattle.nm_header.specs.Addresses.{ends_mailbox, is_bare, nameless}
use Rattle.nm_header.specs.Comments.{plain_of}
use Rattle.nm_header.specs.Mailboxes.{after_colon, begins_with_any, is_angle, is_colon, is_separator, mailbox_from, mailbox_in, mailbox_lexemes_of, mailbox_of, mailboxes_in, mailboxes_of, name_ends, part_ends, spaced_of}
use Rattle.nm_header.specs.WrittenMailboxes.{WrittenMailbox, is_address_byte, is_unquoted_byte, is_writable, written_mailbox, written_mailboxes, written_name}
use Rattle.nm_header.proofs.LexemeLemmas.{before_is}
use Rattle.nm_header.proofs.MailboxLemmas.{colon_none, drop_before, in_colon, in_end, in_separator, no_angle, no_part_end, none_of, split_front, split_some}
use Rattle.nm_header.proofs.WrittenMailboxLemmas.{IsFree, IsWritable, address_dense, address_kept, blank_of, concat-singles, followed, followed_same, lexeme-byte, lexemes-bytes, lexemes-followed, lexemes-name, lexemes-nil, mailbox_read, name_inside, name_lexemes, none_ends, part_inside, part_lexemes, plain-byte, plain-bytes, plain-followed, plain-name, plain-nil, spaced_front, unquoted-byte, unquoted_free, writable}

-- ---- separators
end_free : (end : ℕ) → ends_mailbox end ≡ true → IsFree end
end_free end e = (grind (arith, nat_tests), grind (arith, nat_tests), grind (arith, nat_tests))

end_angle : (end : ℕ) → ends_mailbox end ≡ true → (end == 60) ≡ false
end_angle end e = grind (arith, nat_tests)

end_separates : (end : ℕ) → ends_mailbox end ≡ true → is_separator (end ∷ []) ≡ true
end_separates end e = grind (arith, nat_tests)

-- the lexemes of a separator and of what follows it
end_lexemes : (end : ℕ) (rest : List ℕ) → ends_mailbox end ≡ true → mailbox_lexemes_of (plain_of (end ∷ rest)) ≡ (end ∷ []) ∷ mailbox_lexemes_of (plain_of rest)
end_lexemes end rest e =
    let free = end_free end e in
    ap mailbox_lexemes_of (plain-byte end rest free) ∙ lexeme-byte end (plain_of rest) free.0 (end_angle end e) free.2

pub nothing_read : (end : ℕ) (rest : List ℕ) → ends_mailbox end ≡ true → mailboxes_of (end ∷ rest) ≡ mailboxes_of rest
nothing_read end rest e = ap mailboxes_in (end_lexemes end rest e) ∙ in_separator [] (end ∷ []) (mailbox_lexemes_of (plain_of rest)) refl (end_separates end e)

-- ---- a mailbox with a name
pub named_read : (written : WrittenMailbox) (end : ℕ) (rest : List ℕ) → is_writable written ≡ true → ends_mailbox end ≡ true → mailboxes_of (written_mailbox written ++ end ∷ rest) ≡ written.mailbox ∷ mailboxes_of rest
named_read written end rest e separates =
    let w : IsWritable written = writable written e in
    let free = end_free end separates in
    let part : List (List ℕ) = part_lexemes [] written in
    let others : List (List ℕ) = mailbox_lexemes_of (plain_of rest) in
    let plain : plain_of (written_mailbox written ++ end ∷ rest) ≡ followed written (end ∷ plain_of rest) = ap plain_of (followed_same written (end ∷ rest)) ∙ plain-followed written (end ∷ rest) w ∙ ap (followed written) (plain-byte end rest free) in
    let lexemes : mailbox_lexemes_of (followed written (end ∷ plain_of rest)) ≡ part ++ (end ∷ []) ∷ others = lexemes-followed [] written (end ∷ plain_of rest) w ∙ ap (λ l. part ++ l) (lexeme-byte end (plain_of rest) free.0 (end_angle end separates) free.2) in
    ap (λ t. mailboxes_in (mailbox_lexemes_of t)) plain ∙ ap mailboxes_in lexemes ∙ in_separator part (end ∷ []) others (part_inside false written w) (end_separates end separates) ∙ ap (λ l. l ++ mailboxes_in others) (mailbox_read false written w)

-- ---- an address alone
abbrev singles : List ℕ → List (List ℕ)
singles bytes = map (λ b. b ∷ []) bytes

both_kinds : (address : List ℕ) → list_all (λ x. is_address_byte x && is_unquoted_byte x) address ≡ true → (list_all is_address_byte address ≡ true) × (list_all is_unquoted_byte address ≡ true)
both_kinds [] e = (refl, refl)
both_kinds (b ∷ address) e =
    let both = and_parts (is_address_byte b && is_unquoted_byte b) (list_all (λ x. is_address_byte x && is_unquoted_byte x) address) e in
    let kinds = and_parts (is_address_byte b) (is_unquoted_byte b) both.0 in
    let more = both_kinds address both.1 in
    (ap (λ v. v && list_all is_address_byte address) kinds.0 ∙ more.0, ap (λ v. v && list_all is_unquoted_byte address) kinds.1 ∙ more.1)

bare_in : (address : List ℕ) → is_bare address ≡ true → mailbox_in (singles address) ≡ nameless address ∷ []
bare_in [] e = absurd (cc)
bare_in (b ∷ address) e =
    let kinds = both_kinds (b ∷ address) e in
    let lexemes : List (List ℕ) = singles (b ∷ address) in
    let joined : concat lexemes ≡ b ∷ address = concat-singles (b ∷ address) in
    let none : list_any is_angle lexemes ≡ false = none_of is_angle (begins_with_any name_ends) no_angle lexemes (none_ends (b ∷ address) kinds.1) in
    let before : before_first is_angle lexemes ≡ lexemes = ap (before_first is_angle) (sym (append-nil lexemes)) ∙ before_is is_angle lexemes [] none refl in
    let after : drop (position_or_len is_angle lexemes) lexemes ≡ [] = ap (λ l. drop (position_or_len is_angle l) l) (sym (append-nil lexemes)) ∙ drop_before is_angle lexemes [] none refl in
    let kept : without_white_space (concat lexemes) ≡ b ∷ address = ap without_white_space joined ∙ address_kept (b ∷ address) kinds.0 in
    let read : mailbox_of lexemes ≡ nameless (b ∷ address) = ap (λ l. mailbox_from l (drop (position_or_len is_angle lexemes) lexemes)) before ∙ ap (mailbox_from lexemes) after ∙ ap (λ (a : List ℕ). nameless a) kept in
    let black : is_white_space b ≡ false = address_dense b (and_parts (is_address_byte b) (list_all is_address_byte address) kinds.0).0 in
    let some : is_all_white_space (concat lexemes) ≡ false = ap is_all_white_space joined ∙ ap (λ v. v && is_all_white_space address) black in
    ap (λ v. cond v [] (mailbox_of lexemes ∷ [])) some ∙ ap (λ m. m ∷ []) read

bare_bytes : (address : List ℕ) → is_bare address ≡ true → list_all is_unquoted_byte address ≡ true
bare_bytes [] e = refl
bare_bytes (b ∷ address) e = (both_kinds (b ∷ address) e).1

inside : (bytes : List ℕ) → list_all is_unquoted_byte bytes ≡ true → list_any (begins_with_any part_ends) (singles bytes) ≡ false
inside bytes e = none_of (begins_with_any part_ends) (begins_with_any name_ends) no_part_end (singles bytes) (none_ends bytes e)

bare_lexemes : (address rest : List ℕ) → list_all is_unquoted_byte address ≡ true → mailbox_lexemes_of (plain_of (address ++ rest)) ≡ singles address ++ mailbox_lexemes_of (plain_of rest)
bare_lexemes address rest e = ap mailbox_lexemes_of (plain-bytes is_unquoted_byte unquoted_free address rest e) ∙ lexemes-bytes address (plain_of rest) e

pub alone_read : (address : List ℕ) (end : ℕ) (rest : List ℕ) → is_bare address ≡ true → ends_mailbox end ≡ true → mailboxes_of (address ++ end ∷ rest) ≡ nameless address ∷ mailboxes_of rest
alone_read address end rest e separates =
    let bytes = bare_bytes address e in
    let others : List (List ℕ) = mailbox_lexemes_of (plain_of rest) in
    ap mailboxes_in (bare_lexemes address (end ∷ rest) bytes ∙ ap (λ l. singles address ++ l) (end_lexemes end rest separates)) ∙ in_separator (singles address) (end ∷ []) others (inside address bytes) (end_separates end separates) ∙ ap (λ l. l ++ mailboxes_in others) (bare_in address e)

pub last_read : (address : List ℕ) → is_bare address ≡ true → mailboxes_of address ≡ nameless address ∷ []
last_read address e =
    let bytes = bare_bytes address e in
    ap mailboxes_of (sym (append-nil address)) ∙ ap mailboxes_in (bare_lexemes address [] bytes ∙ ap (λ l. singles address ++ l) (ap mailbox_lexemes_of plain-nil ∙ lexemes-nil) ∙ append-nil (singles address)) ∙ in_end (singles address) (inside address bytes) ∙ bare_in address e

-- ---- a space before a mailbox
abbrev blank : List ℕ
blank = 32 ∷ []

blank_from : (lexemes rest : List (List ℕ)) → mailbox_from (blank ∷ lexemes) rest ≡ mailbox_from lexemes rest
blank_from lexemes [] = refl
blank_from lexemes (angle ∷ rest) =
    let make : List ℕ → Mailbox = λ name. record { name = name; address = (mailbox_from [] (angle ∷ [])).address } in
    ap make (ap spaced_of (unquoted-byte 32 (concat lexemes) refl refl) ∙ spaced_front (unquoted (concat lexemes)))

blank_of_part : (part : List (List ℕ)) → mailbox_of (blank ∷ part) ≡ mailbox_of part
blank_of_part part =
    let n : ℕ = position_or_len is_angle part in
    let one : 1 + n ≡ suc n = omega arith in
    ap (λ k. mailbox_from (take k (blank ∷ part)) (drop k (blank ∷ part))) one ∙ blank_from (take n part) (drop n part)

blank_in : (part : List (List ℕ)) → mailbox_in (blank ∷ part) ≡ mailbox_in part
blank_in part = ap (λ m. cond (is_all_white_space (concat part)) [] (m ∷ [])) (blank_of_part part)

blank_colon : (part : List (List ℕ)) → mailbox_in (after_colon (blank ∷ part)) ≡ mailbox_in (after_colon part)
blank_colon part = elim (list_any is_colon part) as (λ v. list_any is_colon part ≡ v → mailbox_in (cond v (after_colon part) (blank ∷ part)) ≡ mailbox_in (after_colon part)) [
  | true ↦ λ h. refl
  | false ↦ λ h. blank_in part ∙ ap mailbox_in (sym (colon_none part h))
] refl

blank_before : (lexemes : List (List ℕ)) → mailboxes_in (blank ∷ lexemes) ≡ mailboxes_in lexemes
blank_before lexemes =
    let s = split_some is_separator lexemes in
    let each : List (List ℕ) → List Mailbox = λ part. mailbox_in (after_colon part) in
    ap (flat_map each) (split_front is_separator (blank ∷ []) lexemes s.0 s.1 refl s.2) ∙ ap (λ l. l ++ flat_map each s.1) (blank_colon s.0) ∙ sym (ap (flat_map each) s.2)

pub space_read : (rest : List ℕ) → mailboxes_of (32 ∷ rest) ≡ mailboxes_of rest
space_read rest = ap mailboxes_in (ap mailbox_lexemes_of (plain-byte 32 rest (refl, refl, refl)) ∙ lexeme-byte 32 (plain_of rest) refl refl refl) ∙ blank_before (mailbox_lexemes_of (plain_of rest))

-- ---- groups
pub group_name : (is_quoted : Bool) (name rest : List ℕ) → (is_quoted || list_all is_unquoted_byte name) ≡ true → mailboxes_of (written_name is_quoted name ++ 58 ∷ rest) ≡ mailboxes_of rest
group_name is_quoted name rest e =
    let text : List ℕ = plain_of rest in
    let front : List (List ℕ) = name_lexemes is_quoted name in
    let none : list_any (begins_with_any part_ends) front ≡ false = none_of (begins_with_any part_ends) (begins_with_any name_ends) no_part_end front (name_inside is_quoted name e) in
    ap mailboxes_in (ap mailbox_lexemes_of (plain-name is_quoted name (58 ∷ rest) e ∙ ap (λ l. written_name is_quoted name ++ l) (plain-byte 58 rest (refl, refl, refl))) ∙ lexemes-name is_quoted name (58 ∷ text) e ∙ ap (λ l. front ++ l) (lexeme-byte 58 text refl refl refl)) ∙ in_colon front (58 ∷ []) (mailbox_lexemes_of text) none refl refl

members_read : (members : List WrittenMailbox) (rest : List ℕ) → list_all is_writable members ≡ true → mailboxes_of (written_mailboxes members ++ 59 ∷ rest) ≡ map (λ one. one.mailbox) members ++ mailboxes_of rest
members_read [] rest e = nothing_read 59 rest refl
members_read (written ∷ []) rest e = named_read written 59 rest (and_parts (is_writable written) true e).0 refl
members_read (written ∷ next ∷ more) rest e =
    let both = and_parts (is_writable written) (list_all is_writable (next ∷ more)) e in
    let others : List ℕ = written_mailboxes (next ∷ more) in
    ap mailboxes_of (append_assoc (written_mailbox written) (44 ∷ 32 ∷ others) (59 ∷ rest)) ∙ named_read written 44 (32 ∷ (others ++ 59 ∷ rest)) both.0 refl ∙ ap (λ l. written.mailbox ∷ l) (space_read (others ++ 59 ∷ rest) ∙ members_read (next ∷ more) rest both.1)

pub group_read : (is_quoted : Bool) (name rest : List ℕ) (members : List WrittenMailbox) → (is_quoted || list_all is_unquoted_byte name) ≡ true → list_all is_writable members ≡ true
    → mailboxes_of (written_name is_quoted name ++ 58 ∷ 32 ∷ (written_mailboxes members ++ 59 ∷ rest)) ≡ map (λ one. one.mailbox) members ++ mailboxes_of rest
group_read is_quoted name rest members e f =
    let text : List ℕ = written_mailboxes members ++ 59 ∷ rest in
    group_name is_quoted name (32 ∷ text) e ∙ space_read text ∙ members_read members rest f
