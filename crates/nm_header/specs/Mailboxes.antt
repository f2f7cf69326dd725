-- Mailboxes in a field's text (RFC 5322, section 3.4): names and addresses, without comments.
-- Cited by `display_name`, `mailbox_lexemes`, `nm_extract` and others.
use Rattle.std.specs.Prelude.{◌≡◌, ℕ, ◌+◌, ◌<◌, ◌≤◌, Bool, false, true, ◌==◌, List, [], ◌∷◌, ◌++◌, length, filter, take, drop, if◌then◌else◌}
use Rattle.std.specs.List.{before_first, concat, flat_map, join_with_byte, list_any, position_or_len, slice_split}
use Rattle.nm_base.specs.Bounds.{is_white_space}
use Rattle.nm_base.specs.declared.facts.Mailbox.{Mailbox}
use Rattle.nm_text.specs.Cuts.{cut, is_byte}
use Rattle.nm_header.specs.Comments.{plain_of}
use Rattle.nm_text.specs.QuotedStrings.{pair_more, quoted_len, unquoted}
use Rattle.nm_text.specs.WhiteSpace.{is_all_white_space, without_white_space}

-- quoted strings, what is in `<..>`, pairs, and single bytes; each goes on to its closing special, or to the end
abbrev pub mailbox_lexeme_more : ℕ → List ℕ → ℕ
mailbox_lexeme_more b text =
    if b == 34 then quoted_len text else (if b == 60 then position_or_len (is_byte 62) text + 1 else pair_more b text)

-- the lexemes of a text of mailboxes
abbrev pub mailbox_lexemes_of : List ℕ → List (List ℕ)
mailbox_lexemes_of text = cut mailbox_lexeme_more text

-- its first byte is one of these specials
abbrev pub begins_with_any : List ℕ → List ℕ → Bool
begins_with_any specials [] = false
begins_with_any specials (b ∷ lexeme) = list_any (λ special. special == b) specials

-- a text with a byte
abbrev pub is_some_text : List ℕ → Bool
is_some_text [] = false
is_some_text (b ∷ word) = true

-- the words between white space, with one space between each two
abbrev pub spaced_of : List ℕ → List ℕ
spaced_of text = join_with_byte 32 (filter is_some_text (slice_split is_white_space text))

-- without `<` all is the address; else that is what is in the `<..>`, and the name comes before it
abbrev pub mailbox_from : List (List ℕ) → List (List ℕ) → Mailbox
mailbox_from lexemes [] = record { name = []; address = without_white_space (concat lexemes) }
mailbox_from lexemes (angle ∷ more) = record { name = spaced_of (unquoted (concat lexemes)); address = without_white_space (before_first (is_byte 62) (drop 1 angle)) }

-- it begins with `<`
abbrev pub is_angle : List ℕ → Bool
is_angle lexeme = begins_with_any (60 ∷ []) lexeme

-- the mailbox of a part with these lexemes
abbrev pub mailbox_of : List (List ℕ) → Mailbox
mailbox_of lexemes = mailbox_from (before_first is_angle lexemes) (drop (position_or_len is_angle lexemes) lexemes)

-- it begins with `,` or `;`
abbrev pub is_separator : List ℕ → Bool
is_separator lexeme = begins_with_any (44 ∷ 59 ∷ []) lexeme

-- it begins with `:`
abbrev pub is_colon : List ℕ → Bool
is_colon lexeme = begins_with_any (58 ∷ []) lexeme

-- what comes after the last `:`, or all where there is none
abbrev pub after_colon : List (List ℕ) → List (List ℕ)
after_colon [] = []
after_colon (lexeme ∷ lexemes) =
    if list_any is_colon lexemes then after_colon lexemes else (if is_colon lexeme then lexemes else lexeme ∷ lexemes)

-- the mailbox of a part, if it has more than white space
abbrev pub mailbox_in : List (List ℕ) → List Mailbox
mailbox_in part = if is_all_white_space (concat part) then [] else mailbox_of part ∷ []

-- the parts between `,` and `;`, each without what there is up to a `:` in it
abbrev pub mailboxes_in : List (List ℕ) → List Mailbox
mailboxes_in lexemes = flat_map (λ part. mailbox_in (after_colon part)) (slice_split is_separator lexemes)

-- the mailboxes in a field's text
abbrev pub mailboxes_of : List ℕ → List Mailbox
mailboxes_of text = mailboxes_in (mailbox_lexemes_of (plain_of text))

-- the specials that end a part
abbrev pub part_ends : List ℕ
part_ends = 44 ∷ 59 ∷ 58 ∷ []

-- the specials that end the name in a part
abbrev pub name_ends : List ℕ
name_ends = 44 ∷ 59 ∷ 58 ∷ 60 ∷ []

-- the lexemes before the first that begins with one of these specials
abbrev pub lexemes_before : List ℕ → List ℕ → List (List ℕ)
lexemes_before specials text = before_first (begins_with_any specials) (mailbox_lexemes_of text)

-- n is how many bytes they have
pub record StopsAt (specials text : List ℕ) (n : ℕ) : Type 0 where
  pub bytes : concat (lexemes_before specials text) ≡ take n text
  pub lexemes : mailbox_lexemes_of text ≡ lexemes_before specials text ++ mailbox_lexemes_of (drop n text)
  pub none : list_any (begins_with_any specials) (lexemes_before specials text) ≡ false
  pub within : n ≤ length text
  pub stop : n < length text → begins_with_any specials (drop n text) ≡ true

-- a word after the words so far
abbrev pub added_word : List ℕ → List ℕ → List ℕ
added_word words [] = words
added_word [] (b ∷ word) = b ∷ word
added_word (a ∷ words) (b ∷ word) = (a ∷ words) ++ (32 ∷ b ∷ word)
