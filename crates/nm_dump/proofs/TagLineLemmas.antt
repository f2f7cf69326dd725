-- Lines of tag changes as they are written, and read again. For the proof of `a_written_line_is_read_back`.
use Rattle.std.proofs.Common.{◌≡◌, ℕ, zero, suc, ◌+◌, ◌-◌, ◌≤◌, true, List, [], ◌∷◌, ◌++◌, length, take, drop, map, slice_index, codes, refl, ap, ◌∙◌, arith, append_assoc, cond, Option, Some, None, Ok, Err}
use Rattle.std.specs.List.{flat_map, before_first, list_all, position_or_len, suffix_len}
use Rattle.std.specs.Str.{is_utf8}
use Rattle.std.proofs.lemmas.Bool.{and_parts, not-true}
use Rattle.std.proofs.lemmas.List.{length-append, take_all}
use Rattle.std.proofs.lemmas.List.Sums.{suffix_len_is}
use Rattle.std.proofs.Math.Seq.{take-append_seam, drop-append_seam}
use Rattle.hex.specs.Hex.{IsBytes}
use Rattle.nm_base.specs.Bounds.{is_white_space}
use Rattle.nm_base.specs.MessageId.{is_message_id}
use Rattle.nm_base.specs.Order.{same_text}
use Rattle.nm_base.specs.Tag.{is_tag}
use Rattle.nm_base.specs.declared.tag_op.TagOp.{TagOp}
use Rattle.nm_text.specs.WhiteSpace.{trimmed, trimmed_end, trimmed_start}
use Rattle.nm_tags.specs.Decoding.{decoded_tag}
use Rattle.nm_tags.specs.Encoding.{encoded_tag}
use Rattle.nm_tags.specs.TagLines.{after_first_word, asked_in, asked_upto, first_word, is_tag_word, op_of, query_after, with_op}
use Rattle.nm_tags.specs.declared.line_error.LineKind.TheVariants as kinds
use Rattle.nm_model_answer.specs.BatchTag.{id_of_query, read_batch_tag, with_id}
use Rattle.nm_model_answer.specs.Dump.{changes_line, written_id, written_tag}
use Rattle.nm_dump.specs.Tags.{set_tag, AreTags}
use Rattle.nm_dump.proofs.ByteLemmas.{holds_at, is_dark, tag_dark, written_id_dark}
use Rattle.nm_dump.proofs.IdLemmas.{id_read}

-- dark bytes go up to the white space after them
pub dark_len : (word : List ℕ) (more : List ℕ) → list_all is_dark word ≡ true → position_or_len is_white_space (word ++ 32 ∷ more) ≡ length word
dark_len [] more h = refl
dark_len (b ∷ word) more h =
    let one : 1 + length word ≡ length (b ∷ word) = omega arith in
    ap (λ t. cond t (1 + position_or_len is_white_space (word ++ 32 ∷ more)) 0) (and_parts (is_dark b) _ h).0
    ∙ (ap (λ n. 1 + n) (dark_len word more (and_parts (is_dark b) _ h).1) ∙ one)

-- they are the first word
pub first_is : (text word more : List ℕ) → trimmed_start text ≡ word ++ 32 ∷ more → list_all is_dark word ≡ true → first_word text ≡ word
first_is text word more e h =
    ap (before_first is_white_space) e
    ∙ (ap (λ n. take n (word ++ 32 ∷ more)) (dark_len word more h) ∙ take-append_seam word (32 ∷ more))

-- with the white space after it
pub after_is : (text word more : List ℕ) → trimmed_start text ≡ word ++ 32 ∷ more → list_all is_dark word ≡ true → after_first_word text ≡ 32 ∷ more
after_is text word more e h =
    ap (λ w. drop (length w) (trimmed_start text)) (first_is text word more e h)
    ∙ (ap (drop (length word)) e ∙ drop-append_seam word (32 ∷ more))

-- the query of a line, after its tags
abbrev pub query_part : List ℕ → List ℕ
query_part query = 45 ∷ 45 ∷ 32 ∷ query

-- a line begins with a sign
signs_first : (tags : List (List ℕ)) (query : List ℕ) → trimmed_start (flat_map written_tag tags ++ query_part query) ≡ flat_map written_tag tags ++ query_part query
signs_first [] query = refl
signs_first (tag ∷ tags) query = refl

-- and with a space in front it does so after it
space_first : (tags : List (List ℕ)) (query : List ℕ)
    → trimmed_start (32 ∷ flat_map written_tag tags ++ query_part query) ≡ flat_map written_tag tags ++ query_part query
space_first [] query = refl
space_first (tag ∷ tags) query = refl

-- after the tags comes the query
query_is : (text query : List ℕ) → trimmed_start text ≡ query_part query → query_after text ≡ trimmed (32 ∷ query)
query_is text query e =
    let dashes : first_word text ≡ 45 ∷ 45 ∷ [] = first_is text (45 ∷ 45 ∷ []) query e refl in
    let after : after_first_word text ≡ 32 ∷ query = after_is text (45 ∷ 45 ∷ []) query e refl in
    ap (λ w. trimmed (cond (same_text w (codes "--")) (after_first_word text) text)) dashes ∙ ap trimmed after

-- a tag is read as it was written
abbrev pub ReadsTags : Type 0
ReadsTags = (tag : List ℕ) → IsBytes tag → is_utf8 tag ≡ true → is_tag tag ≡ true → decoded_tag (encoded_tag tag) ≡ Some tag

op_from : (encoded tag : List ℕ) → decoded_tag encoded ≡ Some tag → op_of (43 ∷ encoded) ≡ Some (set_tag tag)
op_from encoded tag e = ap (λ (d : Option (List ℕ)). elim d [ Some tag ↦ Some (set_tag tag) | None ↦ None ]) e

-- the tags that are written are set
tags_asked : ReadsTags → (n : ℕ) (tags : List (List ℕ)) (text query : List ℕ) → length tags ≤ n → AreTags tags
    → trimmed_start text ≡ flat_map written_tag tags ++ query_part query → asked_upto n text ≡ Some (map set_tag tags, trimmed (32 ∷ query))
tags_asked reads zero [] text query l h e = ap (λ q. Some ([], q)) (query_is text query e)
tags_asked reads zero (tag ∷ tags) text query l h e = absurd (omega arith)
tags_asked reads (suc n) [] text query l h e =
    ap (λ w. cond (is_tag_word w) (with_op (op_of w) (asked_upto n (after_first_word text))) (Some ([], query_after text))) (first_is text (45 ∷ 45 ∷ []) query e refl)
    ∙ ap (λ q. Some ([], q)) (query_is text query e)
tags_asked reads (suc n) (tag ∷ tags) text query l h e =
    let word = 43 ∷ encoded_tag tag in
    let more = flat_map written_tag tags ++ query_part query in
    let line : trimmed_start text ≡ word ++ 32 ∷ more =
    e ∙ (append_assoc (word ++ 32 ∷ []) (flat_map written_tag tags) (query_part query) ∙ append_assoc word (32 ∷ []) more) in
    ap (λ w. cond (is_tag_word w) (with_op (op_of w) (asked_upto n (after_first_word text))) (Some ([], query_after text))) (first_is text word more line (tag_dark tag))
    ∙ (ap (λ op. with_op op (asked_upto n (after_first_word text))) (op_from (encoded_tag tag) tag (reads tag h.0.0 h.0.1 h.0.2))
    ∙ (ap (λ t. with_op (Some (set_tag tag)) (asked_upto n t)) (after_is text word more line (tag_dark tag))
    ∙ ap (with_op (Some (set_tag tag))) (tags_asked reads n tags (32 ∷ more) query (omega arith) h.1 (space_first tags query))))

-- a line has more bytes than tags
more_bytes : (tags : List (List ℕ)) (query : List ℕ) → length tags ≤ length (flat_map written_tag tags ++ query_part query)
more_bytes [] query = omega arith
more_bytes (tag ∷ tags) query =
    let rest = more_bytes tags query in
    omega (arith, length-append (written_tag tag) (flat_map written_tag tags), length-append (flat_map written_tag (tag ∷ tags)) (query_part query), length-append (flat_map written_tag tags) (query_part query))

-- dark bytes have no white space at their end
end_stays : (text : List ℕ) → list_all is_dark text ≡ true → trimmed_end text ≡ text
end_stays text h =
    let n = length text in
    let dark : is_dark (slice_index text (n - 1)) ≡ true = holds_at is_dark text (n - 1) refl h in
    let none : suffix_len is_white_space text ≡ n - n =
    suffix_len_is is_white_space text n 0 (omega arith) (λ k low high. absurd (omega arith)) (λ some. not-true (is_white_space (slice_index text (n - 1))) dark) in
    ap (λ s. take (n - s) text) none ∙ take_all (n - (n - n)) text (omega arith)

-- a line of tag changes is read as it was written
pub line_read : ReadsTags → (id : List ℕ) (tags : List (List ℕ)) → is_utf8 id ≡ true → is_message_id id ≡ true → AreTags tags
    → read_batch_tag (changes_line id tags) ≡ Ok (id, map set_tag tags)
line_read reads id tags text is h =
    let query = codes "id:" ++ written_id id in
    let line = flat_map written_tag tags ++ query_part query in
    let asked : asked_in line ≡ Some (map set_tag tags, trimmed (32 ∷ query)) = tags_asked reads (length line) tags line query (more_bytes tags query) h (signs_first tags query) in
    let whole : trimmed (32 ∷ query) ≡ query = end_stays query (written_id_dark id is) in
    ap read_batch_tag (append_assoc (flat_map written_tag tags) (codes "-- id:") (written_id id))
    ∙ (ap (λ (a : Option (List TagOp × List ℕ)). elim a [ Some asked ↦ with_id asked.0 (id_of_query asked.1) | None ↦ Err kinds.Tag ]) (asked ∙ ap (λ q. Some (map set_tag tags, q)) whole)
    ∙ ap (with_id (map set_tag tags)) (id_read id text is))
