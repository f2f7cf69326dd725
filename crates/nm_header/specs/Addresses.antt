-- Addresses that are alone, and what ends a mailbox (RFC 5322, section 3.4). Cited by `laws`.
use Rattle.std.specs.Prelude.{ℕ, Bool, false, ◌&&◌, ◌||◌, ◌==◌, List, [], ◌∷◌}
use Rattle.std.specs.List.{list_all}
use Rattle.nm_base.specs.declared.facts.Mailbox.{Mailbox}
use Rattle.nm_header.specs.WrittenMailboxes.{is_address_byte, is_unquoted_byte}

-- an address that may be without `<..>`: of bytes that an address and a name without quotes may have alike
abbrev pub is_bare : List ℕ → Bool
is_bare [] = false
is_bare (b ∷ address) = list_all (λ x. is_address_byte x && is_unquoted_byte x) (b ∷ address)

-- a mailbox without a name
abbrev pub nameless : List ℕ → Mailbox
nameless address = record { name = []; address = address }

-- `,` or `;`
abbrev pub ends_mailbox : ℕ → Bool
ends_mailbox b = b == 44 || b == 59
