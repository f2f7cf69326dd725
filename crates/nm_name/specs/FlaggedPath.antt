-- The name that carries the flags which are asked for. Cited by `flagged_path` and `nm_flags`.
use Rattle.std.specs.Char.{is_ascii_alphabetic}
use Rattle.std.specs.List.{list_all}
use Rattle.std.specs.Prelude.{◌≡◌, ℕ, Bool, true, false, ◌&&◌, ◌==◌, not, List, [], ◌∷◌, ◌++◌, length, filter, Option, None, Some, codes, if◌then◌else◌}
use Rattle.nm_base.specs.Order.{same_text}
use Rattle.nm_name.specs.Cuts.{cut_last, holds}
use Rattle.nm_name.specs.Names.{is_mark, letters_of, name_of}
use Rattle.nm_name.specs.declared.flags.Flags.{Flags}

-- the flag of this letter is asked for: T is never set
abbrev pub is_set : Flags → ℕ → Bool
is_set flags letter =
    if letter == 68 then flags.draft
    else if letter == 70 then flags.flagged
    else if letter == 80 then flags.passed
    else if letter == 82 then flags.replied
    else if letter == 83 then flags.seen
    else false

-- one of the five letters that are set and taken away
abbrev pub is_asked : ℕ → Bool
is_asked letter = holds letter (codes "DFPRS")

-- the ASCII letters in their order
abbrev pub alphabet : List ℕ
alphabet = codes "ABCDEFGHIJKLMNOPQRSTUVWXYZabcdefghijklmnopqrstuvwxyz"

-- each is an ASCII letter
abbrev pub AreLetters : List ℕ → Type 0
AreLetters letters = list_all is_ascii_alphabetic letters ≡ true

-- letters in ASCII order, each once: those of the alphabet that are among them, as they follow one another there
abbrev pub AreInOrder : List ℕ → Type 0
AreInOrder letters = filter (λ letter. holds letter letters) alphabet ≡ letters

-- a letter: one of the five where it is asked for, any other where it is in the name
abbrev pub is_carried : List ℕ → Flags → ℕ → Bool
is_carried letters flags letter = is_ascii_alphabetic letter && (if is_asked letter then is_set flags letter else holds letter letters)

-- the letters that a name is to carry, in ASCII order and each once
abbrev pub new_letters : List ℕ → Flags → List ℕ
new_letters letters flags = filter (is_carried letters flags) alphabet

-- a name may be renamed where it has no `:`, or where its last `:` begins a mark
abbrev pub may_be_cut : Option (List ℕ × List ℕ) → Bool
may_be_cut None = true
may_be_cut (Some cut) = is_mark cut.1

abbrev pub may_be_renamed : List ℕ → Bool
may_be_renamed name = may_be_cut (cut_last 58 name)

-- what comes before the mark, or the whole name where it has none
abbrev pub stem_at : List ℕ → Option (List ℕ × List ℕ) → List ℕ
stem_at name None = name
stem_at name (Some cut) = cut.0

abbrev pub stem_of : List ℕ → List ℕ
stem_of name = stem_at name (cut_last 58 name)

-- the stem with `:2,` and these letters
abbrev pub marked : List ℕ → List ℕ → List ℕ
marked name letters = stem_of name ++ codes ":2," ++ letters

-- the folder that this one is in, with its `/`
abbrev pub parent_at : Option (List ℕ × List ℕ) → List ℕ
parent_at None = []
parent_at (Some cut) = cut.0 ++ 47 ∷ []

abbrev pub parent_of : List ℕ → List ℕ
parent_of folder = parent_at (cut_last 47 folder)

abbrev pub is_empty : List ℕ → Bool
is_empty letters = length letters == 0

-- a file in `new` goes to the `cur` beside it where it is to carry letters; one in `cur` gets its mark; any other stays
abbrev pub placed : List ℕ → List ℕ → List ℕ → List ℕ → List ℕ
placed path folder name letters =
    if same_text (name_of folder) (codes "new") then (if is_empty letters then path else parent_of folder ++ codes "cur/" ++ marked name letters)
    else (if same_text (name_of folder) (codes "cur") then (if not (holds 58 name) && is_empty letters then path else folder ++ 47 ∷ marked name letters)
    else path)

-- the path, cut at its last slash into its folder and its name, with the flags
abbrev pub renamed_at : List ℕ → Flags → Option (List ℕ × List ℕ) → List ℕ
renamed_at path flags None = path
renamed_at path flags (Some cut) = (if may_be_renamed cut.1 then placed path cut.0 cut.1 (new_letters (letters_of cut.1) flags) else path)

-- the path that carries the flags: the same where it carries them, or where its name may not be touched
abbrev pub renamed : List ℕ → Flags → List ℕ
renamed path flags = renamed_at path flags (cut_last 47 path)
