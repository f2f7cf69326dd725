-- What the parts of a snapshot come to, and which limit that passes.
-- For the proofs of `counts_made`, `counts_of`, `Snapshot::apply_within_limits` and others.
use Rattle.std.proofs.Common.{◌≡◌, refl, sym, ap, ◌∙◌, ℕ, ◌+◌, ◌<◌, ◌≤◌, Bool, true, false, cond, ◌||◌, List, [], ◌∷◌, length, length-append, min, arith, true≢false}
use Rattle.std.specs.Prelude.{Contains, Option, None, Some, Result, Ok, Err, nat_lt}
use Rattle.std.specs.List.{sum_by}
use Rattle.std.specs.Map.{values_of}
use Rattle.std.specs.Option.{is_some}
use Rattle.std.proofs.lemmas.Bool.{lt-ltb, le-ltb, ltb-false, or_left, or_right, or_from}
use Rattle.std.proofs.lemmas.List.Sums.{sum_by-cons}
use Rattle.nm_base.specs.Limits.{max_count, max_files, max_index_bytes}
use Rattle.nm_base.specs.declared.limit.Limit.{Limit}
use Rattle.nm_base.specs.declared.limit.Limit.TheVariants.{Files, IndexBytes, Numbers}
use Rattle.nm_base.specs.declared.facts.Facts.{Facts}
use Rattle.nm_base.specs.declared.facts.LinkRow.{LinkRow}
use Rattle.nm_codec.specs.Encoding.{text_bytes}
use Rattle.nm_model_index.specs.Index.{row_bytes, with_revision}
use Rattle.nm_model_index.specs.declared.base.Base.{Base}
use Rattle.nm_record.specs.BaseBytes.{base_len, entry_bytes}
use Rattle.nm_record.specs.Commits.{arrival_grammar, tagging_grammar}
use Rattle.nm_record.specs.Room.{limit_passed, max_number}
use Rattle.nm_record.specs.Tags.{tags_grammar}
use Rattle.nm_threads.specs.Labels.{entries_of}
use Rattle.nm_state.specs.Counts.{AreCounts}
use Rattle.nm_tables.specs.Kept.{AreKept}
use Rattle.nm_tables.specs.Measures.{entries_len, pairs_len}
use Rattle.nm_parts.specs.Parts.{base_of}
use Rattle.nm_parts.specs.declared.parts.Parts.{Parts}
use Rattle.nm_state.specs.declared.room.Counts.{Counts}
use Rattle.nm_state.specs.declared.room.RoomError.{RoomError}
use Rattle.nm_state.specs.declared.room.RoomError.TheVariants.{Limit as Passes, NoMemory as OutOfMemory}
use Rattle.nm_base.specs.KeyLaws.{Contains_first, Contains_there}

-- ---- the bytes of the parts

files_len : (files : List (ℕ × (List ℕ × Facts))) → pairs_len (λ (place : ℕ). 0) (λ (file : List ℕ × Facts). length (arrival_grammar.bytes (file.0, file.1))) files ≡ sum_by (λ file. length (arrival_grammar.bytes file)) (values_of files)
files_len [] = refl
files_len (f ∷ files) =
    let all = sum_by-cons (λ (pair : ℕ × (List ℕ × Facts)). 0 + length (arrival_grammar.bytes (pair.1.0, pair.1.1))) f files in
    let arrived = sum_by-cons (λ (file : List ℕ × Facts). length (arrival_grammar.bytes file)) f.1 (values_of files) in
    omega (arith, files_len files, all, arrived)

kept_len : (kept : List (List ℕ × LinkRow)) → ((entry : List ℕ × LinkRow) → Contains kept entry → entry.0 ≡ row_bytes entry.1)
    → pairs_len (λ (bytes : List ℕ). length bytes) (λ (row : LinkRow). 0) kept ≡ sum_by (λ row. length (row_bytes row)) (values_of kept)
kept_len [] keyed = refl
kept_len (e ∷ kept) keyed =
    let own : length e.0 ≡ length (row_bytes e.1) = ap (λ (bytes : List ℕ). length bytes) (keyed e (Contains_first e kept)) in
    let rest = kept_len kept (λ entry among. keyed entry (Contains_there e kept entry among)) in
    let all = sum_by-cons (λ (pair : List ℕ × LinkRow). length pair.0 + 0) e kept in
    let rows = sum_by-cons (λ (row : LinkRow). length (row_bytes row)) e.1 (values_of kept) in
    omega (arith, own, rest, all, rows)

tagged_len : (tags : List (List ℕ × List (List ℕ))) → pairs_len (λ (id : List ℕ). length (text_bytes id)) (λ (set : List (List ℕ)). length (tags_grammar.bytes set)) tags
    ≡ sum_by (λ tagged. length (tagging_grammar.bytes tagged)) tags
tagged_len [] = refl
tagged_len (t ∷ tags) =
    let own = length-append (text_bytes t.0) (tags_grammar.bytes t.1) in
    let rest = tagged_len tags in
    let all = sum_by-cons (λ (pair : List ℕ × List (List ℕ)). length (text_bytes pair.0) + length (tags_grammar.bytes pair.1)) t tags in
    let sets = sum_by-cons (λ (tagged : List ℕ × List (List ℕ)). length (tagging_grammar.bytes tagged)) t tags in
    omega (arith, own, rest, all, sets)

-- the sums that the parts keep are those of the index
pub parts_len : (parts : Parts) → AreKept parts.kept
    → ((index : Base) → base_len index ≡ 32 + sum_by (λ file. length (arrival_grammar.bytes file)) index.files + sum_by (λ row. length (row_bytes row)) index.kept + sum_by (λ entry. length (entry_bytes entry)) index.entries + sum_by (λ tagged. length (tagging_grammar.bytes tagged)) index.tags)
    → (files kept entries tags : ℕ) → files ≡ pairs_len (λ (place : ℕ). 0) (λ (file : List ℕ × Facts). length (arrival_grammar.bytes (file.0, file.1))) parts.file_table.files
    → kept ≡ pairs_len (λ (bytes : List ℕ). length bytes) (λ (row : LinkRow). 0) parts.kept → entries ≡ entries_len (entries_of parts.labels.labels)
    → tags ≡ pairs_len (λ (id : List ℕ). length (text_bytes id)) (λ (set : List (List ℕ)). length (tags_grammar.bytes set)) parts.tags
    → 32 + files + kept + entries + tags ≡ base_len (base_of parts)
parts_len parts are law files kept entries tags files_is kept_is entries_is tags_is =
    let all = law (base_of parts) in
    let of_files = files_is ∙ files_len parts.file_table.files in
    let of_kept = kept_is ∙ kept_len parts.kept are.keyed in
    let of_tags = tags_is ∙ tagged_len parts.tags in
    omega (arith, all, of_files, of_kept, entries_is, of_tags)

pub with_same_len : (index : Base) (revision : ℕ) → base_len (with_revision revision index) ≡ base_len index
with_same_len index revision = refl

pub counts_committed : (index : Base) (revision : ℕ) (counts : Counts) → AreCounts index counts → AreCounts (with_revision revision index) counts
counts_committed index revision counts are = record { files = are.files; bytes = are.bytes ∙ ap (λ n. min n max_count) (sym (with_same_len index revision)); next = are.next }

-- ---- the limits in their order

abbrev chain : Bool → Bool → Bool → Option Limit
chain files bytes numbers = cond files (Some Files) (cond bytes (Some IndexBytes) (cond numbers (Some Numbers) None))

first : (a b c : Bool) → a ≡ true → Some Files ≡ chain a b c
first true b c e = refl
first false b c e = absurd (true≢false (sym e))

second : (a b c : Bool) → a ≡ false → b ≡ true → Some IndexBytes ≡ chain a b c
second true b c e f = absurd (true≢false e)
second false true c e f = refl
second false false c e f = absurd (true≢false (sym f))

third : (a b c : Bool) → a ≡ false → b ≡ false → c ≡ true → Some Numbers ≡ chain a b c
third true b c e f g = absurd (true≢false e)
third false true c e f g = absurd (true≢false f)
third false false true e f g = refl
third false false false e f g = absurd (true≢false (sym g))

none : (a b c : Bool) → a ≡ false → b ≡ false → c ≡ false → None ≡ chain a b c
none true b c e f g = absurd (true≢false e)
none false true c e f g = absurd (true≢false f)
none false false true e f g = absurd (true≢false g)
none false false false e f g = refl

module _ (index : Base) (counts : Counts) (revision : ℕ) (are : AreCounts index counts) (is : revision ≡ min index.revision max_count) where
  abbrev files : Bool
  files = nat_lt max_files (length index.files)

  abbrev bytes : Bool
  bytes = nat_lt max_index_bytes (base_len index)

  abbrev numbers : Bool
  numbers = nat_lt max_number index.next || nat_lt max_number index.revision

  few : counts.files ≤ max_files → files ≡ false
  few le = le-ltb max_files (length index.files) (omega (arith, le, are.files))

  small : counts.bytes ≤ max_index_bytes → bytes ≡ false
  small le = le-ltb max_index_bytes (base_len index) (omega (arith, le, are.bytes))

  pub too_many : max_files < counts.files → Some Files ≡ limit_passed index
  too_many lt = first files bytes numbers (lt-ltb max_files (length index.files) (omega (arith, lt, are.files)))

  pub too_large : counts.files ≤ max_files → max_index_bytes < counts.bytes → Some IndexBytes ≡ limit_passed index
  too_large le lt = second files bytes numbers (few le) (lt-ltb max_index_bytes (base_len index) (omega (arith, lt, are.bytes)))

  pub used_up : counts.files ≤ max_files → counts.bytes ≤ max_index_bytes → max_number < counts.next → Some Numbers ≡ limit_passed index
  used_up le le2 lt = third files bytes numbers (few le) (small le2) (or_left (nat_lt max_number index.next) (nat_lt max_number index.revision) (lt-ltb max_number index.next (omega (arith, lt, are.next))))

  pub too_late : counts.files ≤ max_files → counts.bytes ≤ max_index_bytes → max_number < revision → Some Numbers ≡ limit_passed index
  too_late le le2 late = third files bytes numbers (few le) (small le2) (or_right (nat_lt max_number index.next) (nat_lt max_number index.revision) (lt-ltb max_number index.revision (omega (arith, late, is))))

  pub within : counts.files ≤ max_files → counts.bytes ≤ max_index_bytes → counts.next ≤ max_number → revision ≤ max_number → None ≡ limit_passed index
  within le le2 le3 lt =
      none files bytes numbers (few le) (small le2)
      (or_from (nat_lt max_number index.next) (nat_lt max_number index.revision) (le-ltb max_number index.next (omega (arith, le3, are.next))) (le-ltb max_number index.revision (omega (arith, lt, is))))

-- an index that passes no limit has used up or_from its numbers nor its revisions
numbers_false : (a b n r : Bool) → chain a b (n || r) ≡ None → n ≡ false
numbers_false true b n r e = absurd (true≢false (ap is_some e))
numbers_false false true n r e = absurd (true≢false (ap is_some e))
numbers_false false false true r e = absurd (true≢false (ap is_some e))
numbers_false false false false r e = refl

pub next_within : (index : Base) → limit_passed index ≡ None → index.next ≤ max_number
next_within index e =
    ltb-false max_number index.next
    (numbers_false (nat_lt max_files (length index.files)) (nat_lt max_index_bytes (base_len index)) (nat_lt max_number index.next) (nat_lt max_number index.revision) e)

last_false : (a b n r : Bool) → chain a b (n || r) ≡ None → r ≡ false
last_false true b n r e = absurd (true≢false (ap is_some e))
last_false false true n r e = absurd (true≢false (ap is_some e))
last_false false false true r e = absurd (true≢false (ap is_some e))
last_false false false false true e = absurd (true≢false (ap is_some e))
last_false false false false false e = refl

pub revision_within : (index : Base) → limit_passed index ≡ None → index.revision ≤ max_number
revision_within index e =
    ltb-false max_number index.revision
    (last_false (nat_lt max_files (length index.files)) (nat_lt max_index_bytes (base_len index)) (nat_lt max_number index.next) (nat_lt max_number index.revision) e)

abbrev limit_or : {X : Type 0} → Limit → Result X RoomError → Limit
limit_or d (Ok x) = d
limit_or d (Err (Passes l)) = l
limit_or d (Err OutOfMemory) = d

pub same_limit : {X : Type 0} (a b : Limit) → ◌≡◌ {A = Result X RoomError} (Err (Passes a)) (Err (Passes b)) → a ≡ b
same_limit a b e = ap (limit_or a) e
