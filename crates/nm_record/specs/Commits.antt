-- Changes and commits in bytes: a change is its kind in one byte, and then what it speaks of; a commit is a list of them.
-- Cited by `changes`, `commits`, `nm_state` and others.
use Rattle.std.specs.Prelude.{ℕ, zero, suc, Bool, true, List, ◌∷◌, length, Err}
use Rattle.std.specs.Int.{w8}
use Rattle.nm_base.specs.Limits.{is_date}
use Rattle.nm_base.specs.declared.facts.Facts.{Facts}
use Rattle.nm_commit.specs.declared.change.Change.{Change}
use Rattle.nm_commit.specs.declared.change.Change.TheVariants.{Add, Drop, Move, SetTags}
use Rattle.nm_codec.specs.Grammar.{Grammar, pair_grammar}
use Rattle.nm_codec.specs.ReadSteps.{◌>>=◌, Reading, mapped_at, number_at}
use Rattle.nm_record.specs.Facts.{facts_grammar, id_grammar, path_grammar}
use Rattle.nm_record.specs.Tags.{tags_grammar}

abbrev pub arrival_grammar : Grammar (List ℕ × Facts)
arrival_grammar = pair_grammar path_grammar facts_grammar

abbrev pub move_grammar : Grammar (List ℕ × List ℕ)
move_grammar = pair_grammar path_grammar path_grammar

abbrev pub tagging_grammar : Grammar (List ℕ × List (List ℕ))
tagging_grammar = pair_grammar id_grammar tags_grammar

-- what comes after the kind, or the fault where the change begins
abbrev pub kind_at : ℕ → List ℕ → ℕ → Reading Change
kind_at zero bytes left = Err left
kind_at (suc zero) bytes left = mapped_at (λ p. Add p.0 p.1) arrival_grammar.read bytes
kind_at (suc (suc zero)) bytes left = mapped_at Drop path_grammar.read bytes
kind_at (suc (suc (suc zero))) bytes left = mapped_at (λ p. Move p.0 p.1) move_grammar.read bytes
kind_at (suc (suc (suc (suc zero)))) bytes left = mapped_at (λ p. SetTags p.0 p.1) tagging_grammar.read bytes
kind_at (suc (suc (suc (suc (suc n))))) bytes left = Err left

-- the change at the front of the bytes, and the bytes after it
unfoldable pub change_at : List ℕ → Reading Change
change_at bytes = do
  kind ← number_at w8 bytes
  kind_at kind.0 kind.1 (length bytes)

-- the bytes of a change: its kind, and what it says
abbrev pub change_bytes : Change → List ℕ
change_bytes (Add path facts) = 1 ∷ arrival_grammar.bytes (path, facts)
change_bytes (Drop path) = 2 ∷ path_grammar.bytes path
change_bytes (Move from to) = 3 ∷ move_grammar.bytes (from, to)
change_bytes (SetTags id tags) = 4 ∷ tagging_grammar.bytes (id, tags)

-- the change has a date in the range, where it has one
abbrev pub is_change : Change → Bool
is_change (Add path facts) = arrival_grammar.is_value (path, facts)
is_change (Drop path) = path_grammar.is_value path
is_change (Move from to) = move_grammar.is_value (from, to)
is_change (SetTags id tags) = tagging_grammar.is_value (id, tags)

-- a mail that comes has a date in the range
abbrev pub has_date : Change → Bool
has_date (Add path facts) = is_date facts.date
has_date (Drop path) = true
has_date (Move from to) = true
has_date (SetTags id tags) = true
