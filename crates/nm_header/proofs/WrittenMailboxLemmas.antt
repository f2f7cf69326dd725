-- Mailboxes that are written are read again: without comments they stay, then lexeme by lexeme and part by part.
-- For the proof of `written_mailboxes_are_read`.
use Rattle.std.proofs.Common.{◌≡◌, ℕ, ◌+◌, ◌<◌, Bool, true, false, cond, not, ◌||◌, ◌&&◌, ◌==◌, List, [], ◌∷◌, ◌++◌, length, map, filter, take, drop, refl, sym, ap, ◌∙◌, arith, append_assoc, length-append}
use Rattle.std.specs.List.{before_first, concat, flat_map, join_with_byte, list_all, list_any, onto_first, position_or_len, slice_split}
use Rattle.std.proofs.lemmas.Bool.{and_parts, not-true, or_parts}
use Rattle.std.proofs.lemmas.Bool.Decides.{nat_tests}
use Rattle.std.proofs.lemmas.List.{append-nil, drop_at, take_at}
use Rattle.std.proofs.lemmas.List.Elements.{filter-append}
use Rattle.std.proofs.lemmas.List.Folds.{concat-append, list_any-append}
use Rattle.std.proofs.lemmas.List.Splits.{join_with_byte-slice_split, length-slice_split, slice_split-cons_no, slice_split-cons_yes}
use Rattle.nm_base.specs.Bounds.{is_white_space}
use Rattle.nm_base.specs.declared.facts.Mailbox.{Mailbox}
use Rattle.nm_text.specs.Cuts.{is_byte, len_through}
use Rattle.nm_text.specs.QuotedStrings.{is_special, pair_more, pairs_of, quoted_len, unquoted, unquoted_pair}
use Rattle.nm_text.specs.WhiteSpace.{is_all_white_space, without_white_space}
use Rattle.nm_header.specs.Comments.{comment_len, lexeme_more, lexemes_of, plain_of, shown}
use Rattle.nm_header.specs.Mailboxes.{begins_with_any, is_angle, is_some_text, mailbox_from, mailbox_in, mailbox_lexeme_more, mailbox_lexemes_of, mailbox_of, mailboxes_in, mailboxes_of, name_ends, part_ends, spaced_of}
use Rattle.nm_header.specs.WrittenMailboxes.{WrittenMailbox, escaped, is_address_byte, is_spaced, is_unquoted_byte, is_word, is_writable, written_mailbox, written_mailboxes, written_name}
use Rattle.nm_text.specs.CutLaws.{cut-cons, cut-nil}
use Rattle.nm_header.proofs.LexemeLemmas.{before_is}
use Rattle.nm_header.proofs.MailboxLemmas.{drop_before, in_end, in_nil, in_separator, no_angle, no_part_end, none_of}

-- ---- bytes
abbrev pub IsFree : ℕ → Type 0
IsFree b = ((b == 34) ≡ false) × ((b == 40) ≡ false) × ((b == 92) ≡ false)

pub unquoted_free : (b : ℕ) → is_unquoted_byte b ≡ true → IsFree b
unquoted_free b e = (grind (arith, nat_tests), grind (arith, nat_tests), grind (arith, nat_tests))

pub unquoted_angle : (b : ℕ) → is_unquoted_byte b ≡ true → (b == 60) ≡ false
unquoted_angle b e = grind (arith, nat_tests)

pub unquoted_ends : (b : ℕ) → is_unquoted_byte b ≡ true → begins_with_any name_ends (b ∷ []) ≡ false
unquoted_ends b e = grind (arith, nat_tests)

pub address_free : (b : ℕ) → is_address_byte b ≡ true → IsFree b
address_free b e = (grind (arith, nat_tests), grind (arith, nat_tests), grind (arith, nat_tests))

pub address_dense : (b : ℕ) → is_address_byte b ≡ true → is_white_space b ≡ false
address_dense b e = grind (arith, nat_tests)

address_open : (b : ℕ) → is_address_byte b ≡ true → is_byte 62 b ≡ false
address_open b e = grind (arith, nat_tests)

-- ---- quoted names
pairs-escaped : (name rest : List ℕ) → pairs_of (flat_map escaped name ++ rest) ≡ map escaped name ++ pairs_of rest
pairs-escaped [] rest = refl
pairs-escaped (b ∷ name) rest =
    let more : List ℕ = flat_map escaped name ++ rest in
    let front : pairs_of (escaped b ++ more) ≡ escaped b ∷ pairs_of more = elim (b == 34 || b == 92) as (λ v. (b == 34 || b == 92) ≡ v → pairs_of (cond v (92 ∷ b ∷ []) (b ∷ []) ++ more) ≡ cond v (92 ∷ b ∷ []) (b ∷ []) ∷ pairs_of more) [
      | true ↦ λ e. cut-cons pair_more 92 (b ∷ more)
      | false ↦ λ e. cut-cons pair_more b more ∙ ap (λ v. (b ∷ take (cond v 1 0) more) ∷ pairs_of (drop (cond v 1 0) more)) (or_parts (b == 34) (b == 92) e).1
    ] refl in
    ap pairs_of (append_assoc (escaped b) (flat_map escaped name) rest) ∙ front ∙ ap (λ l. escaped b ∷ l) (pairs-escaped name rest)

escaped_inside : (b : ℕ) → is_special 34 (escaped b) ≡ false
escaped_inside b = elim (b == 34 || b == 92) as (λ v. (b == 34 || b == 92) ≡ v → is_special 34 (cond v (92 ∷ b ∷ []) (b ∷ [])) ≡ false) [
  | true ↦ λ e. refl
  | false ↦ λ e. (or_parts (b == 34) (b == 92) e).0
] refl

through-escaped : (name : List ℕ) (pairs : List (List ℕ)) → len_through (is_special 34) (map escaped name ++ (34 ∷ []) ∷ pairs) ≡ length (flat_map escaped name) + 1
through-escaped [] pairs = refl
through-escaped (b ∷ name) pairs =
    let others : List (List ℕ) = map escaped name ++ (34 ∷ []) ∷ pairs in
    let long : length (escaped b ++ flat_map escaped name) ≡ length (escaped b) + length (flat_map escaped name) = length-append (escaped b) (flat_map escaped name) in
    let next : len_through (is_special 34) others ≡ length (flat_map escaped name) + 1 = through-escaped name pairs in
    ap (λ v. cond v (length (escaped b)) (length (escaped b) + len_through (is_special 34) others)) (escaped_inside b) ∙ (let sum : length (escaped b) + len_through (is_special 34) others ≡ length (escaped b ++ flat_map escaped name) + 1 = omega arith in sum)

-- how far a quoted name goes
quoted_len-escaped : (name rest : List ℕ) → quoted_len (flat_map escaped name ++ 34 ∷ rest) ≡ length (flat_map escaped name) + 1
quoted_len-escaped name rest =
    ap (len_through (is_special 34)) (pairs-escaped name (34 ∷ rest) ∙ ap (λ l. map escaped name ++ l) (cut-cons pair_more 34 rest)) ∙ through-escaped name (pairs_of rest)

unquoted_pair-escaped : (b : ℕ) → unquoted_pair (escaped b) ≡ b ∷ []
unquoted_pair-escaped b = elim (b == 34 || b == 92) as (λ v. (b == 34 || b == 92) ≡ v → unquoted_pair (cond v (92 ∷ b ∷ []) (b ∷ [])) ≡ b ∷ []) [
  | true ↦ λ e. refl
  | false ↦ λ e. ap (λ v. cond v [] (b ∷ [])) (or_parts (b == 34) (b == 92) e).0
] refl

unquoted_pairs : (name : List ℕ) (pairs : List (List ℕ)) → flat_map unquoted_pair (map escaped name ++ pairs) ≡ name ++ flat_map unquoted_pair pairs
unquoted_pairs [] pairs = refl
unquoted_pairs (b ∷ name) pairs = ap (λ l. l ++ flat_map unquoted_pair (map escaped name ++ pairs)) (unquoted_pair-escaped b) ∙ ap (λ l. b ∷ l) (unquoted_pairs name pairs)

-- ---- texts without quotes
pub unquoted-byte : (b : ℕ) (rest : List ℕ) → (b == 34) ≡ false → (b == 92) ≡ false → unquoted (b ∷ rest) ≡ b ∷ unquoted rest
unquoted-byte b rest quote pair =
    ap (flat_map unquoted_pair) (cut-cons pair_more b rest ∙ ap (λ v. (b ∷ take (cond v 1 0) rest) ∷ pairs_of (drop (cond v 1 0) rest)) pair) ∙ ap (λ v. cond v [] (b ∷ []) ++ unquoted rest) quote

unquoted-bytes : (name rest : List ℕ) → list_all is_unquoted_byte name ≡ true → unquoted (name ++ rest) ≡ name ++ unquoted rest
unquoted-bytes [] rest e = refl
unquoted-bytes (b ∷ name) rest e =
    let both = and_parts (is_unquoted_byte b) (list_all is_unquoted_byte name) e in
    let free = unquoted_free b both.0 in
    unquoted-byte b (name ++ rest) free.0 free.2 ∙ ap (λ l. b ∷ l) (unquoted-bytes name rest both.1)

unquoted-space : unquoted (32 ∷ []) ≡ 32 ∷ []
unquoted-space = unquoted-byte 32 [] refl refl ∙ ap (λ l. 32 ∷ flat_map unquoted_pair l) (cut-nil pair_more)

unquoted-sign : (rest : List ℕ) → unquoted (34 ∷ rest) ≡ unquoted rest
unquoted-sign rest = ap (flat_map unquoted_pair) (cut-cons pair_more 34 rest)

-- what a written name says, with the space after it
unquoted-written : (is_quoted : Bool) (name : List ℕ) → (is_quoted || list_all is_unquoted_byte name) ≡ true → unquoted (written_name is_quoted name ++ 32 ∷ []) ≡ name ++ 32 ∷ []
unquoted-written true name e =
    let end : unquoted (34 ∷ 32 ∷ []) ≡ 32 ∷ [] = unquoted-sign (32 ∷ []) ∙ unquoted-space in
    unquoted-sign ((flat_map escaped name ++ 34 ∷ []) ++ 32 ∷ []) ∙ ap unquoted (append_assoc (flat_map escaped name) (34 ∷ []) (32 ∷ [])) ∙ ap (flat_map unquoted_pair) (pairs-escaped name (34 ∷ 32 ∷ [])) ∙ unquoted_pairs name (pairs_of (34 ∷ 32 ∷ [])) ∙ ap (λ l. name ++ l) end
unquoted-written false name e = unquoted-bytes name (32 ∷ []) e ∙ ap (λ l. name ++ l) unquoted-space

-- ---- words and spaces
abbrev is_dense : List ℕ → Bool
is_dense text = not (list_any is_white_space text)

words_dense : (words : List (List ℕ)) → list_all is_word words ≡ true → list_all is_dense words ≡ true
words_dense [] e = refl
words_dense (word ∷ words) e =
    let both = and_parts (is_word word) (list_all is_word words) e in
    let dense : is_dense word ≡ true = (and_parts (is_some_text word) (is_dense word) both.0).1 in
    ap (λ v. v && list_all is_dense words) dense ∙ words_dense words both.1

words_kept : (words : List (List ℕ)) → list_all is_word words ≡ true → filter is_some_text words ≡ words
words_kept [] e = refl
words_kept (word ∷ words) e =
    let both = and_parts (is_word word) (list_all is_word words) e in
    let some : is_some_text word ≡ true = (and_parts (is_some_text word) (is_dense word) both.0).0 in
    ap (λ v. cond v (word ∷ filter is_some_text words) (filter is_some_text words)) some ∙ ap (λ l. word ∷ l) (words_kept words both.1)

first_word : (words : List (List ℕ)) → 0 < length words → (word : List ℕ) × (others : List (List ℕ)) × (words ≡ word ∷ others)
first_word [] h = absurd (omega arith)
first_word (word ∷ others) h = (word, others, refl)

split_some_bytes : (p : ℕ → Bool) (text : List ℕ) → (word : List ℕ) × (words : List (List ℕ)) × (slice_split p text ≡ word ∷ words)
split_some_bytes p text = let one = length-slice_split p text in first_word (slice_split p text) (omega arith)

-- where there is no other white space, cut at spaces is cut at white space
split_same : (text : List ℕ) → list_all is_dense (slice_split (is_byte 32) text) ≡ true → slice_split is_white_space text ≡ slice_split (is_byte 32) text
split_same [] e = refl
split_same (b ∷ text) e = elim (b == 32) as (λ v. (b == 32) ≡ v → slice_split is_white_space (b ∷ text) ≡ slice_split (is_byte 32) (b ∷ text)) [
  | true ↦ λ h.
      let white : is_white_space b ≡ true = ap (λ v. v || b == 9 || b == 13 || b == 10) h in
      let cut : slice_split (is_byte 32) (b ∷ text) ≡ [] ∷ slice_split (is_byte 32) text = slice_split-cons_yes (is_byte 32) b text h in
      let others : list_all is_dense (slice_split (is_byte 32) text) ≡ true = sym (ap (list_all is_dense) cut) ∙ e in
      slice_split-cons_yes is_white_space b text white ∙ ap (λ l. [] ∷ l) (split_same text others) ∙ sym cut
  | false ↦ λ h.
      let s = split_some_bytes (is_byte 32) text in
      let word : List ℕ = s.0 in
      let words : List (List ℕ) = s.1 in
      let split : slice_split (is_byte 32) text ≡ word ∷ words = s.2 in
      let cut : slice_split (is_byte 32) (b ∷ text) ≡ (b ∷ word) ∷ words = slice_split-cons_no (is_byte 32) b text h ∙ ap (onto_first b) split in
      let both = and_parts (is_dense (b ∷ word)) (list_all is_dense words) (sym (ap (list_all is_dense) cut) ∙ e) in
      let first = or_parts (is_white_space b) (list_any is_white_space word) (not-true (list_any is_white_space (b ∷ word)) both.0) in
      let others : list_all is_dense (slice_split (is_byte 32) text) ≡ true = ap (list_all is_dense) split ∙ ap (λ v. not v && list_all is_dense words) first.1 ∙ both.1 in
      slice_split-cons_no is_white_space b text first.0 ∙ ap (onto_first b) (split_same text others) ∙ sym (slice_split-cons_no (is_byte 32) b text h)
] refl

spaced_same : (name : List ℕ) → is_spaced name ≡ true → spaced_of name ≡ name
spaced_same [] e = refl
spaced_same (b ∷ text) e =
    ap (λ l. join_with_byte 32 (filter is_some_text l)) (split_same (b ∷ text) (words_dense (slice_split (is_byte 32) (b ∷ text)) e)) ∙ ap (join_with_byte 32) (words_kept (slice_split (is_byte 32) (b ∷ text)) e) ∙ join_with_byte-slice_split 32 (b ∷ text)

split_back : (text : List ℕ) → slice_split is_white_space (text ++ 32 ∷ []) ≡ slice_split is_white_space text ++ [] ∷ []
split_back [] = slice_split-cons_yes is_white_space 32 [] refl
split_back (b ∷ text) = elim (is_white_space b) as (λ v. is_white_space b ≡ v → slice_split is_white_space (b ∷ (text ++ 32 ∷ [])) ≡ slice_split is_white_space (b ∷ text) ++ [] ∷ []) [
  | true ↦ λ h. slice_split-cons_yes is_white_space b (text ++ 32 ∷ []) h ∙ ap (λ l. [] ∷ l) (split_back text) ∙ ap (λ l. l ++ [] ∷ []) (sym (slice_split-cons_yes is_white_space b text h))
  | false ↦ λ h.
      let s = split_some_bytes is_white_space text in
      let split : slice_split is_white_space text ≡ s.0 ∷ s.1 = s.2 in
      slice_split-cons_no is_white_space b (text ++ 32 ∷ []) h ∙ ap (onto_first b) (split_back text ∙ ap (λ l. l ++ [] ∷ []) split) ∙ ap (λ l. l ++ [] ∷ []) (sym (slice_split-cons_no is_white_space b text h ∙ ap (onto_first b) split))
] refl

-- spaces before and after a name count for nothing
spaced_back : (name : List ℕ) → spaced_of (name ++ 32 ∷ []) ≡ spaced_of name
spaced_back name =
    ap (λ l. join_with_byte 32 (filter is_some_text l)) (split_back name) ∙ ap (join_with_byte 32) (filter-append is_some_text (slice_split is_white_space name) ([] ∷ []) ∙ append-nil (filter is_some_text (slice_split is_white_space name)))

pub spaced_front : (name : List ℕ) → spaced_of (32 ∷ name) ≡ spaced_of name
spaced_front name = ap (λ l. join_with_byte 32 (filter is_some_text l)) (slice_split-cons_yes is_white_space 32 name refl)

-- ---- addresses
pub address_kept : (address : List ℕ) → list_all is_address_byte address ≡ true → without_white_space address ≡ address
address_kept [] e = refl
address_kept (b ∷ address) e =
    let both = and_parts (is_address_byte b) (list_all is_address_byte address) e in
    ap (λ v. cond (not v) (b ∷ without_white_space address) (without_white_space address)) (address_dense b both.0) ∙ ap (λ l. b ∷ l) (address_kept address both.1)

-- the first `>` after an address is the one that closes it
address_end : (address rest : List ℕ) → list_all is_address_byte address ≡ true → position_or_len (is_byte 62) (address ++ 62 ∷ rest) ≡ length address
address_end [] rest e = refl
address_end (b ∷ address) rest e =
    let both = and_parts (is_address_byte b) (list_all is_address_byte address) e in
    let next : position_or_len (is_byte 62) (address ++ 62 ∷ rest) ≡ length address = address_end address rest both.1 in
    ap (λ v. cond (not v) (1 + position_or_len (is_byte 62) (address ++ 62 ∷ rest)) 0) (address_open b both.0) ∙ (let more : 1 + position_or_len (is_byte 62) (address ++ 62 ∷ rest) ≡ length (b ∷ address) = omega arith in more)

address_before : (address : List ℕ) → list_all is_address_byte address ≡ true → before_first (is_byte 62) (address ++ 62 ∷ []) ≡ address
address_before address e = ap (λ n. take n (address ++ 62 ∷ [])) (address_end address [] e) ∙ take_at address (62 ∷ []) (length address) refl

-- ---- a text that is closed by one byte: what is taken with it, and what is left
closed_take : (text rest : List ℕ) (b n : ℕ) → n ≡ length text + 1 → take n (text ++ b ∷ rest) ≡ text ++ b ∷ []
closed_take text rest b n e =
    let long : length (text ++ b ∷ []) ≡ length text + 1 = length-append text (b ∷ []) in
    ap (take n) (sym (append_assoc text (b ∷ []) rest)) ∙ take_at (text ++ b ∷ []) rest n (long ∙ sym e)

closed_drop : (text rest : List ℕ) (b n : ℕ) → n ≡ length text + 1 → drop n (text ++ b ∷ rest) ≡ rest
closed_drop text rest b n e =
    let long : length (text ++ b ∷ []) ≡ length text + 1 = length-append text (b ∷ []) in
    ap (drop n) (sym (append_assoc text (b ∷ []) rest)) ∙ drop_at (text ++ b ∷ []) rest n (long ∙ sym e)

-- ---- without comments
pub plain-byte : (b : ℕ) (rest : List ℕ) → IsFree b → plain_of (b ∷ rest) ≡ b ∷ plain_of rest
plain-byte b rest free =
    let more : lexeme_more b rest ≡ 0 = ap (λ v. cond v (comment_len rest) (cond (b == 34) (quoted_len rest) (pair_more b rest))) free.1 ∙ ap (λ v. cond v (quoted_len rest) (pair_more b rest)) free.0 ∙ ap (λ v. cond v 1 0) free.2 in
    ap (flat_map shown) (cut-cons lexeme_more b rest ∙ ap (λ n. (b ∷ take n rest) ∷ lexemes_of (drop n rest)) more) ∙ ap (λ v. cond v (32 ∷ []) (b ∷ []) ++ plain_of rest) free.1

pub plain-bytes : (p : ℕ → Bool) → ((b : ℕ) → p b ≡ true → IsFree b) → (text rest : List ℕ) → list_all p text ≡ true → plain_of (text ++ rest) ≡ text ++ plain_of rest
plain-bytes p free [] rest e = refl
plain-bytes p free (b ∷ text) rest e =
    let both = and_parts (p b) (list_all p text) e in
    plain-byte b (text ++ rest) (free b both.0) ∙ ap (λ l. b ∷ l) (plain-bytes p free text rest both.1)

plain-quoted : (name rest : List ℕ) → plain_of (34 ∷ (flat_map escaped name ++ 34 ∷ rest)) ≡ 34 ∷ (flat_map escaped name ++ 34 ∷ plain_of rest)
plain-quoted name rest =
    let text : List ℕ = flat_map escaped name in
    let n : ℕ = quoted_len (text ++ 34 ∷ rest) in
    let long : n ≡ length text + 1 = quoted_len-escaped name rest in
    ap (flat_map shown) (cut-cons lexeme_more 34 (text ++ 34 ∷ rest)) ∙ ap (λ l. (34 ∷ l) ++ plain_of (drop n (text ++ 34 ∷ rest))) (closed_take text rest 34 n long) ∙ ap (λ l. (34 ∷ (text ++ 34 ∷ [])) ++ plain_of l) (closed_drop text rest 34 n long) ∙ ap (λ l. 34 ∷ l) (append_assoc text (34 ∷ []) (plain_of rest))

pub plain-name : (is_quoted : Bool) (name rest : List ℕ) → (is_quoted || list_all is_unquoted_byte name) ≡ true → plain_of (written_name is_quoted name ++ rest) ≡ written_name is_quoted name ++ plain_of rest
plain-name true name rest e =
    ap (λ l. plain_of (34 ∷ l)) (append_assoc (flat_map escaped name) (34 ∷ []) rest) ∙ plain-quoted name rest ∙ ap (λ l. 34 ∷ l) (sym (append_assoc (flat_map escaped name) (34 ∷ []) (plain_of rest)))
plain-name false name rest e = plain-bytes is_unquoted_byte unquoted_free name rest e

-- a written mailbox, and what follows it
abbrev pub followed : WrittenMailbox → List ℕ → List ℕ
followed written rest = written_name written.is_quoted written.mailbox.name ++ 32 ∷ 60 ∷ (written.mailbox.address ++ 62 ∷ rest)

pub followed_same : (written : WrittenMailbox) (rest : List ℕ) → written_mailbox written ++ rest ≡ followed written rest
followed_same written rest =
    append_assoc (written_name written.is_quoted written.mailbox.name) (32 ∷ 60 ∷ (written.mailbox.address ++ 62 ∷ [])) rest ∙ ap (λ l. written_name written.is_quoted written.mailbox.name ++ 32 ∷ 60 ∷ l) (append_assoc written.mailbox.address (62 ∷ []) rest)

abbrev pub IsWritable : WrittenMailbox → Type 0
IsWritable written = (is_spaced written.mailbox.name ≡ true) × ((written.is_quoted || list_all is_unquoted_byte written.mailbox.name) ≡ true) × (list_all is_address_byte written.mailbox.address ≡ true)

pub writable : (written : WrittenMailbox) → is_writable written ≡ true → IsWritable written
writable written e =
    let name : Bool = written.is_quoted || list_all is_unquoted_byte written.mailbox.name in
    let both = and_parts (is_spaced written.mailbox.name) (name && list_all is_address_byte written.mailbox.address) e in
    let rest = and_parts name (list_all is_address_byte written.mailbox.address) both.1 in
    (both.0, rest.0, rest.1)

pub plain-followed : (written : WrittenMailbox) (rest : List ℕ) → IsWritable written → plain_of (followed written rest) ≡ followed written (plain_of rest)
plain-followed written rest w =
    let name : List ℕ = written_name written.is_quoted written.mailbox.name in
    let address : List ℕ = written.mailbox.address in
    plain-name written.is_quoted written.mailbox.name (32 ∷ 60 ∷ (address ++ 62 ∷ rest)) w.1 ∙ ap (λ l. name ++ l) (plain-byte 32 (60 ∷ (address ++ 62 ∷ rest)) (refl, refl, refl) ∙ ap (λ l. 32 ∷ l) (plain-byte 60 (address ++ 62 ∷ rest) (refl, refl, refl) ∙ ap (λ l. 60 ∷ l) (plain-bytes is_address_byte address_free address (62 ∷ rest) w.2 ∙ ap (λ l. address ++ l) (plain-byte 62 rest (refl, refl, refl)))))

pub plain-nil : plain_of [] ≡ []
plain-nil = ap (flat_map shown) (cut-nil lexeme_more)

plain-written : (all : List WrittenMailbox) → list_all is_writable all ≡ true → plain_of (written_mailboxes all) ≡ written_mailboxes all
plain-written [] e = plain-nil
plain-written (written ∷ []) e =
    let both = and_parts (is_writable written) true e in
    plain-followed written [] (writable written both.0) ∙ ap (followed written) plain-nil
plain-written (written ∷ next ∷ more) e =
    let both = and_parts (is_writable written) (list_all is_writable (next ∷ more)) e in
    let rest : List ℕ = written_mailboxes (next ∷ more) in
    ap plain_of (followed_same written (44 ∷ 32 ∷ rest)) ∙ plain-followed written (44 ∷ 32 ∷ rest) (writable written both.0) ∙ ap (followed written) (plain-byte 44 (32 ∷ rest) (refl, refl, refl) ∙ ap (λ l. 44 ∷ l) (plain-byte 32 rest (refl, refl, refl) ∙ ap (λ l. 32 ∷ l) (plain-written (next ∷ more) both.1))) ∙ sym (followed_same written (44 ∷ 32 ∷ rest))

-- ---- lexemes
pub lexeme-byte : (b : ℕ) (rest : List ℕ) → (b == 34) ≡ false → (b == 60) ≡ false → (b == 92) ≡ false → mailbox_lexemes_of (b ∷ rest) ≡ (b ∷ []) ∷ mailbox_lexemes_of rest
lexeme-byte b rest quote angle pair =
    let more : mailbox_lexeme_more b rest ≡ 0 = ap (λ v. cond v (quoted_len rest) (cond (b == 60) (position_or_len (is_byte 62) rest + 1) (pair_more b rest))) quote ∙ ap (λ v. cond v (position_or_len (is_byte 62) rest + 1) (pair_more b rest)) angle ∙ ap (λ v. cond v 1 0) pair in
    cut-cons mailbox_lexeme_more b rest ∙ ap (λ n. (b ∷ take n rest) ∷ mailbox_lexemes_of (drop n rest)) more

-- the lexemes of a written name
abbrev pub name_lexemes : Bool → List ℕ → List (List ℕ)
name_lexemes is_quoted name = cond is_quoted (written_name true name ∷ []) (map (λ b. b ∷ []) name)

pub lexemes-bytes : (name rest : List ℕ) → list_all is_unquoted_byte name ≡ true → mailbox_lexemes_of (name ++ rest) ≡ map (λ b. b ∷ []) name ++ mailbox_lexemes_of rest
lexemes-bytes [] rest e = refl
lexemes-bytes (b ∷ name) rest e =
    let both = and_parts (is_unquoted_byte b) (list_all is_unquoted_byte name) e in
    let free = unquoted_free b both.0 in
    lexeme-byte b (name ++ rest) free.0 (unquoted_angle b both.0) free.2 ∙ ap (λ l. (b ∷ []) ∷ l) (lexemes-bytes name rest both.1)

pub lexemes-name : (is_quoted : Bool) (name rest : List ℕ) → (is_quoted || list_all is_unquoted_byte name) ≡ true → mailbox_lexemes_of (written_name is_quoted name ++ rest) ≡ name_lexemes is_quoted name ++ mailbox_lexemes_of rest
lexemes-name true name rest e =
    let text : List ℕ = flat_map escaped name in
    let n : ℕ = quoted_len (text ++ 34 ∷ rest) in
    let long : n ≡ length text + 1 = quoted_len-escaped name rest in
    ap (λ l. mailbox_lexemes_of (34 ∷ l)) (append_assoc text (34 ∷ []) rest) ∙ cut-cons mailbox_lexeme_more 34 (text ++ 34 ∷ rest) ∙ ap (λ l. (34 ∷ l) ∷ mailbox_lexemes_of (drop n (text ++ 34 ∷ rest))) (closed_take text rest 34 n long) ∙ ap (λ l. (34 ∷ (text ++ 34 ∷ [])) ∷ mailbox_lexemes_of l) (closed_drop text rest 34 n long)
lexemes-name false name rest e = lexemes-bytes name rest e

-- the lexeme of a written address
abbrev pub angled : List ℕ → List ℕ
angled address = 60 ∷ (address ++ 62 ∷ [])

lexeme-address : (address rest : List ℕ) → list_all is_address_byte address ≡ true → mailbox_lexemes_of (60 ∷ (address ++ 62 ∷ rest)) ≡ angled address ∷ mailbox_lexemes_of rest
lexeme-address address rest e =
    let n : ℕ = position_or_len (is_byte 62) (address ++ 62 ∷ rest) + 1 in
    let long : n ≡ length address + 1 = ap (λ k. k + 1) (address_end address rest e) in
    cut-cons mailbox_lexeme_more 60 (address ++ 62 ∷ rest) ∙ ap (λ l. (60 ∷ l) ∷ mailbox_lexemes_of (drop n (address ++ 62 ∷ rest))) (closed_take address rest 62 n long) ∙ ap (λ l. angled address ∷ mailbox_lexemes_of l) (closed_drop address rest 62 n long)

-- what comes before the address: the space after a comma, the name, and a space
abbrev pub front_lexemes : List (List ℕ) → WrittenMailbox → List (List ℕ)
front_lexemes blank written = blank ++ (name_lexemes written.is_quoted written.mailbox.name ++ (32 ∷ []) ∷ [])

abbrev pub part_lexemes : List (List ℕ) → WrittenMailbox → List (List ℕ)
part_lexemes blank written = front_lexemes blank written ++ angled written.mailbox.address ∷ []

pub lexemes-followed : (blank : List (List ℕ)) (written : WrittenMailbox) (rest : List ℕ) → IsWritable written → blank ++ mailbox_lexemes_of (followed written rest) ≡ part_lexemes blank written ++ mailbox_lexemes_of rest
lexemes-followed blank written rest w =
    let name : List (List ℕ) = name_lexemes written.is_quoted written.mailbox.name in
    let address : List ℕ = written.mailbox.address in
    let others : List (List ℕ) = mailbox_lexemes_of rest in
    let front : mailbox_lexemes_of (followed written rest) ≡ name ++ (32 ∷ []) ∷ angled address ∷ others = lexemes-name written.is_quoted written.mailbox.name (32 ∷ 60 ∷ (address ++ 62 ∷ rest)) w.1 ∙ ap (λ l. name ++ l) (lexeme-byte 32 (60 ∷ (address ++ 62 ∷ rest)) refl refl refl ∙ ap (λ l. (32 ∷ []) ∷ l) (lexeme-address address rest w.2)) in
    ap (λ l. blank ++ l) (front ∙ sym (append_assoc name ((32 ∷ []) ∷ []) (angled address ∷ others))) ∙ sym (append_assoc blank (name ++ (32 ∷ []) ∷ []) (angled address ∷ others)) ∙ sym (append_assoc (front_lexemes blank written) (angled address ∷ []) others)

-- ---- one mailbox
pub none_ends : (name : List ℕ) → list_all is_unquoted_byte name ≡ true → list_any (begins_with_any name_ends) (map (λ b. b ∷ []) name) ≡ false
none_ends [] e = refl
none_ends (b ∷ name) e =
    let both = and_parts (is_unquoted_byte b) (list_all is_unquoted_byte name) e in
    ap (λ v. v || list_any (begins_with_any name_ends) (map (λ x. x ∷ []) name)) (unquoted_ends b both.0) ∙ none_ends name both.1

pub name_inside : (is_quoted : Bool) (name : List ℕ) → (is_quoted || list_all is_unquoted_byte name) ≡ true → list_any (begins_with_any name_ends) (name_lexemes is_quoted name) ≡ false
name_inside true name e = refl
name_inside false name e = none_ends name e

front_inside : (blank : List (List ℕ)) (written : WrittenMailbox) → list_any (begins_with_any name_ends) blank ≡ false → IsWritable written → list_any (begins_with_any name_ends) (front_lexemes blank written) ≡ false
front_inside blank written none w =
    let name : List (List ℕ) = name_lexemes written.is_quoted written.mailbox.name in
    list_any-append (begins_with_any name_ends) blank (name ++ (32 ∷ []) ∷ []) ∙ ap (λ v. v || list_any (begins_with_any name_ends) (name ++ (32 ∷ []) ∷ [])) none ∙ list_any-append (begins_with_any name_ends) name ((32 ∷ []) ∷ []) ∙ ap (λ v. v || false) (name_inside written.is_quoted written.mailbox.name w.1)

pub concat-singles : (name : List ℕ) → concat (map (λ b. b ∷ []) name) ≡ name
concat-singles [] = refl
concat-singles (b ∷ name) = ap (λ l. b ∷ l) (concat-singles name)

concat-name : (is_quoted : Bool) (name : List ℕ) → concat (name_lexemes is_quoted name) ≡ written_name is_quoted name
concat-name true name = append-nil (written_name true name)
concat-name false name = concat-singles name

concat-front : (blank : List (List ℕ)) (written : WrittenMailbox) → concat (front_lexemes blank written) ≡ concat blank ++ (written_name written.is_quoted written.mailbox.name ++ 32 ∷ [])
concat-front blank written =
    let name : List (List ℕ) = name_lexemes written.is_quoted written.mailbox.name in
    concat-append blank (name ++ (32 ∷ []) ∷ []) ∙ ap (λ l. concat blank ++ l) (concat-append name ((32 ∷ []) ∷ []) ∙ ap (λ l. l ++ 32 ∷ []) (concat-name written.is_quoted written.mailbox.name))

-- nothing, or the space after a comma
abbrev pub blank_of : Bool → List (List ℕ)
blank_of is_next = cond is_next ((32 ∷ []) ∷ []) []

name_read : (is_next : Bool) (written : WrittenMailbox) → IsWritable written → spaced_of (unquoted (concat (front_lexemes (blank_of is_next) written))) ≡ written.mailbox.name
name_read is_next written w =
    let name : List ℕ = written.mailbox.name in
    let text : List ℕ = written_name written.is_quoted name ++ 32 ∷ [] in
    let one : spaced_of (unquoted text) ≡ name = ap spaced_of (unquoted-written written.is_quoted name w.1) ∙ spaced_back name ∙ spaced_same name w.0 in
    let two : spaced_of (unquoted (32 ∷ text)) ≡ name = ap spaced_of (unquoted-byte 32 text refl refl) ∙ spaced_front (unquoted text) ∙ one in
    ap (λ l. spaced_of (unquoted l)) (concat-front (blank_of is_next) written) ∙ elim is_next as (λ v. spaced_of (unquoted (concat (blank_of v) ++ text)) ≡ name) [ true ↦ two | false ↦ one ]

blank_inside : (is_next : Bool) → list_any (begins_with_any name_ends) (blank_of is_next) ≡ false
blank_inside true = refl
blank_inside false = refl

-- a lexeme in `<..>` is no white space
not_blank : (front address : List ℕ) → is_all_white_space (front ++ angled address) ≡ false
not_blank [] address = refl
not_blank (b ∷ front) address = elim (is_white_space b) as (λ v. (v && is_all_white_space (front ++ angled address)) ≡ false) [ true ↦ not_blank front address | false ↦ refl ]

pub mailbox_read : (is_next : Bool) (written : WrittenMailbox) → IsWritable written → mailbox_in (part_lexemes (blank_of is_next) written) ≡ written.mailbox ∷ []
mailbox_read is_next written w =
    let front : List (List ℕ) = front_lexemes (blank_of is_next) written in
    let angle : List ℕ = angled written.mailbox.address in
    let make : List ℕ → List ℕ → Mailbox = λ x y. record { name = x; address = y } in
    let none : list_any is_angle front ≡ false = none_of is_angle (begins_with_any name_ends) no_angle front (front_inside (blank_of is_next) written (blank_inside is_next) w) in
    let before : before_first is_angle (front ++ angle ∷ []) ≡ front = before_is is_angle front (angle ∷ []) none refl in
    let after : drop (position_or_len is_angle (front ++ angle ∷ [])) (front ++ angle ∷ []) ≡ angle ∷ [] = drop_before is_angle front (angle ∷ []) none refl in
    let address : without_white_space (before_first (is_byte 62) (drop 1 angle)) ≡ written.mailbox.address = ap without_white_space (address_before written.mailbox.address w.2) ∙ address_kept written.mailbox.address w.2 in
    let read : mailbox_of (front ++ angle ∷ []) ≡ written.mailbox = ap (λ l. mailbox_from l (drop (position_or_len is_angle (front ++ angle ∷ [])) (front ++ angle ∷ []))) before ∙ ap (mailbox_from front) after ∙ ap (λ x. make x (without_white_space (before_first (is_byte 62) (drop 1 angle)))) (name_read is_next written w) ∙ ap (make written.mailbox.name) address in
    let some : is_all_white_space (concat (front ++ angle ∷ [])) ≡ false = ap is_all_white_space (concat-append front (angle ∷ []) ∙ ap (λ l. concat front ++ l) (append-nil angle)) ∙ not_blank (concat front) written.mailbox.address in
    ap (λ v. cond v [] (mailbox_of (front ++ angle ∷ []) ∷ [])) some ∙ ap (λ m. m ∷ []) read

pub part_inside : (is_next : Bool) (written : WrittenMailbox) → IsWritable written → list_any (begins_with_any part_ends) (part_lexemes (blank_of is_next) written) ≡ false
part_inside is_next written w =
    let front : List (List ℕ) = front_lexemes (blank_of is_next) written in
    let none : list_any (begins_with_any part_ends) front ≡ false = none_of (begins_with_any part_ends) (begins_with_any name_ends) no_part_end front (front_inside (blank_of is_next) written (blank_inside is_next) w) in
    list_any-append (begins_with_any part_ends) front (angled written.mailbox.address ∷ []) ∙ ap (λ v. v || false) none

-- ---- one mailbox after the other
pub lexemes-nil : mailbox_lexemes_of [] ≡ []
lexemes-nil = cut-nil mailbox_lexeme_more

read-written : (is_next : Bool) (written : WrittenMailbox) (more : List WrittenMailbox) → list_all is_writable (written ∷ more) ≡ true → mailboxes_in (blank_of is_next ++ mailbox_lexemes_of (written_mailboxes (written ∷ more))) ≡ map (λ one. one.mailbox) (written ∷ more)
read-written is_next written [] e =
    let w = writable written (and_parts (is_writable written) true e).0 in
    let part : List (List ℕ) = part_lexemes (blank_of is_next) written in
    ap mailboxes_in (lexemes-followed (blank_of is_next) written [] w ∙ ap (λ l. part ++ l) lexemes-nil ∙ append-nil part) ∙ in_end part (part_inside is_next written w) ∙ mailbox_read is_next written w
read-written is_next written (next ∷ more) e =
    let both = and_parts (is_writable written) (list_all is_writable (next ∷ more)) e in
    let w = writable written both.0 in
    let part : List (List ℕ) = part_lexemes (blank_of is_next) written in
    let rest : List ℕ = written_mailboxes (next ∷ more) in
    let others : List (List ℕ) = (32 ∷ []) ∷ mailbox_lexemes_of rest in
    let comma : mailbox_lexemes_of (44 ∷ 32 ∷ rest) ≡ (44 ∷ []) ∷ others = lexeme-byte 44 (32 ∷ rest) refl refl refl ∙ ap (λ l. (44 ∷ []) ∷ l) (lexeme-byte 32 rest refl refl refl) in
    let lexemes : blank_of is_next ++ mailbox_lexemes_of (written_mailbox written ++ 44 ∷ 32 ∷ rest) ≡ part ++ (44 ∷ []) ∷ others = ap (λ t. blank_of is_next ++ mailbox_lexemes_of t) (followed_same written (44 ∷ 32 ∷ rest)) ∙ lexemes-followed (blank_of is_next) written (44 ∷ 32 ∷ rest) w ∙ ap (λ l. part ++ l) comma in
    ap mailboxes_in lexemes ∙ in_separator part (44 ∷ []) others (part_inside is_next written w) refl ∙ ap (λ l. l ++ mailboxes_in others) (mailbox_read is_next written w) ∙ ap (λ l. written.mailbox ∷ l) (read-written true next more both.1)

pub mailboxes-written : (all : List WrittenMailbox) → list_all is_writable all ≡ true → mailboxes_of (written_mailboxes all) ≡ map (λ one. one.mailbox) all
mailboxes-written [] e = ap (λ t. mailboxes_in (mailbox_lexemes_of t)) plain-nil ∙ in_nil
mailboxes-written (written ∷ more) e = ap (λ t. mailboxes_in (mailbox_lexemes_of t)) (plain-written (written ∷ more) e) ∙ read-written false written more e
