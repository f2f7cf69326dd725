-- Mailboxes as they are written (RFC 5322, section 3.4): a name, in quotes or as it is, and an address in `<..>`.
-- Cited by `laws`.
use Rattle.std.specs.Prelude.{ℕ, Bool, true, ◌&&◌, ◌||◌, ◌==◌, not, List, [], ◌∷◌, ◌++◌, if◌then◌else◌}
use Rattle.std.specs.List.{flat_map, list_all, list_any, slice_split}
use Rattle.nm_base.specs.Bounds.{is_white_space}
use Rattle.nm_base.specs.declared.facts.Mailbox.{Mailbox}
use Rattle.nm_text.specs.Cuts.{is_byte}
use Rattle.nm_header.specs.Mailboxes.{is_some_text}

-- a mailbox, and whether its name is written in quotes
pub record WrittenMailbox : Type 0 where
  pub is_quoted : Bool
  pub mailbox : Mailbox

-- in quotes a `"` and a `\` have a `\` before them
abbrev pub escaped : ℕ → List ℕ
escaped b = if b == 34 || b == 92 then 92 ∷ b ∷ [] else b ∷ []

-- a name in quotes, or as it is
abbrev pub written_name : Bool → List ℕ → List ℕ
written_name is_quoted name = if is_quoted then 34 ∷ (flat_map escaped name ++ 34 ∷ []) else name

-- `name <address>`
abbrev pub written_mailbox : WrittenMailbox → List ℕ
written_mailbox written = written_name written.is_quoted written.mailbox.name ++ 32 ∷ 60 ∷ (written.mailbox.address ++ 62 ∷ [])

-- mailboxes with `, ` between each two
abbrev pub written_mailboxes : List WrittenMailbox → List ℕ
written_mailboxes [] = []
written_mailboxes (written ∷ []) = written_mailbox written
written_mailboxes (written ∷ next ∷ more) = written_mailbox written ++ 44 ∷ 32 ∷ written_mailboxes (next ∷ more)

-- it has a byte, and no white space
abbrev pub is_word : List ℕ → Bool
is_word text = is_some_text text && not (list_any is_white_space text)

-- words with one space between each two, or nothing
abbrev pub is_spaced : List ℕ → Bool
is_spaced [] = true
is_spaced (b ∷ text) = list_all is_word (slice_split (is_byte 32) (b ∷ text))

-- none of `"`, `(`, `,`, `:`, `;`, `<` and `\`
abbrev pub is_unquoted_byte : ℕ → Bool
is_unquoted_byte b = not (b == 34 || b == 40 || b == 44 || b == 58 || b == 59 || b == 60 || b == 92)

-- no white space, and none of `"`, `(`, `>` and `\`
abbrev pub is_address_byte : ℕ → Bool
is_address_byte b = not (is_white_space b || b == 34 || b == 40 || b == 62 || b == 92)

-- a name that may be so, and an address of such bytes; a name in quotes may have any bytes but spare white space
abbrev pub is_writable : WrittenMailbox → Bool
is_writable written =
    is_spaced written.mailbox.name && ((written.is_quoted || list_all is_unquoted_byte written.mailbox.name) && list_all is_address_byte written.mailbox.address)
