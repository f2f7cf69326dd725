-- The words of `tag` after its options: changes of tags, then a query.
--   words := (("+" | "-") tag)* "--"? word*
-- Cited by `command_parser` and `tag_words`.
use Rattle.std.specs.Prelude.{ℕ, Bool, false, ◌==◌, ◌||◌, ◌&&◌, not, List, [], ◌∷◌, Option, Some, None, Result, Ok, Err, codes, if◌then◌else◌}
use Rattle.nm_base.specs.Order.{same_text}
use Rattle.nm_base.specs.Tag.{is_tag}
use Rattle.nm_base.specs.declared.tag_op.TagOp.{TagOp}

-- the word begins with `+` or `-`
abbrev pub has_sign : List ℕ → Bool
has_sign [] = false
has_sign (first ∷ more) = first == 43 || first == 45

-- it does, and is not `--`
abbrev pub is_tag_word : List ℕ → Bool
is_tag_word word = has_sign word && not (same_text word (codes "--"))

-- what a tag word asks for: `+` sets the tag, `-` takes it off; nothing where what follows the sign is no tag
abbrev pub op_of : List ℕ → Option TagOp
op_of [] = None
op_of (sign ∷ tag) = if is_tag tag then Some (record { add = sign == 43; tag = tag }) else None

-- a `--` may come before the words of the query
abbrev pub query_words : List (List ℕ) → List (List ℕ)
query_words [] = []
query_words (word ∷ more) = if same_text word (codes "--") then more else word ∷ more

-- what a word asks for, before what those after it ask for; a word that asks for nothing is at fault
abbrev pub with_op : List ℕ → Option TagOp → Result (List TagOp × List (List ℕ)) (List ℕ) → Result (List TagOp × List (List ℕ)) (List ℕ)
with_op word (Some op) (Ok asked) = Ok (op ∷ asked.0, asked.1)
with_op word (Some op) (Err other) = Err other
with_op word None asked = Err word

-- what the tag words at the front ask for, in their order, and the words of the query; or the first of them that has no tag
abbrev pub changes_of : List (List ℕ) → Result (List TagOp × List (List ℕ)) (List ℕ)
changes_of [] = Ok ([], [])
changes_of (word ∷ more) = if is_tag_word word then with_op word (op_of word) (changes_of more) else Ok ([], query_words (word ∷ more))
