-- Lines of a dump in the form of sup: `ID (tag tag)`, nothing encoded. Cited by `nm_dump`.
use Rattle.std.specs.Prelude.{ℕ, ◌-◌, Bool, true, ◌==◌, ◌&&◌, nat_le, List, [], ◌∷◌, length, take, drop, slice_index, Option, Some, None, Result, Ok, Err, if◌then◌else◌}
use Rattle.nm_base.specs.Tag.{is_tag}
use Rattle.nm_base.specs.declared.tag_op.TagOp.{TagOp}
use Rattle.nm_text.specs.WhiteSpace.{trimmed_start}
use Rattle.nm_tags.specs.TagLines.{after_first_word, begins_with_space, first_word, words_in}
use Rattle.nm_tags.specs.declared.line_error.LineKind.{LineKind}
use Rattle.nm_tags.specs.declared.line_error.LineKind.TheVariants as kinds
use Rattle.nm_model_answer.specs.BatchTag.{checked_id}

-- a tag that is set before others, where they are there
abbrev pub set_before : List ℕ → Option (List TagOp) → Option (List TagOp)
set_before tag (Some ops) = Some (record { add = true; tag = tag } ∷ ops)
set_before tag None = None

-- each word is a tag that is set; nothing where one is none
abbrev pub set_all : List (List ℕ) → Option (List TagOp)
set_all [] = Some []
set_all (word ∷ words) = if is_tag word then set_before word (set_all words) else None

-- `(` is at the front and `)` at the end
abbrev pub is_in_parentheses : List ℕ → Bool
is_in_parentheses text = nat_le 2 (length text) && slice_index text 0 == 40 && slice_index text (length text - 1) == 41

-- what is between them
abbrev pub inside : List ℕ → Option (List ℕ)
inside text = if is_in_parentheses text then Some (take (length text - 1 - 1) (drop 1 text)) else None

-- an id and tags, or the fault where one of the words is no tag
abbrev pub with_tags : List ℕ → Option (List TagOp) → Result (List ℕ × List TagOp) LineKind
with_tags id (Some ops) = Ok (id, ops)
with_tags id None = Err kinds.Tag

-- what an id and the text in parentheses ask for, where both are there
abbrev pub sup_asked : Option (List ℕ) → Option (List ℕ) → Result (List ℕ × List TagOp) LineKind
sup_asked (Some id) (Some tags) = with_tags id (set_all (words_in tags))
sup_asked (Some id) None = Err kinds.Form
sup_asked None tags = Err kinds.Form

-- what a line asks for, or its first fault: the id is at the front
abbrev pub read_sup : List ℕ → Result (List ℕ × List TagOp) LineKind
read_sup text =
    if begins_with_space text then Err kinds.Form
    else sup_asked (checked_id (Some (first_word text))) (inside (trimmed_start (after_first_word text)))
