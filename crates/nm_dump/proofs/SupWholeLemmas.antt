-- Dumps in the form of sup as they are written, and read again. For the proof of `a_written_sup_dump_is_read_back`.
use Rattle.std.proofs.Common.{◌≡◌, ℕ, zero, suc, ◌+◌, ◌-◌, ◌≤◌, ◌==◌, ◌&&◌, nat_le, true, false, List, [], ◌∷◌, ◌++◌, length, map, slice_index, take, drop, codes, refl, ap, ◌∙◌, arith, append_assoc, cond, Some, None, Ok, Err}
use Rattle.std.specs.List.{before_first, join_with_byte, list_all, position_or_len, prefix_len, AllByRecursion}
use Rattle.std.specs.Str.{is_utf8, IsUtf8}
use Rattle.std.proofs.lemmas.Bool.{and_from, and_parts, not-true}
use Rattle.std.proofs.lemmas.Bool.Decides.{nat_tests}
use Rattle.std.proofs.lemmas.List.{length-append, take_all}
use Rattle.std.proofs.Math.Seq.{drop-length, get_or-append_seam, take-append_seam}
use Rattle.std.proofs.lemmas.Str.{is_utf8-from_IsUtf8, IsUtf8-append, IsUtf8-from_ascii, IsUtf8-from_is_utf8}
use Rattle.nm_base.specs.Bounds.{is_white_space}
use Rattle.nm_base.specs.MessageId.{is_message_id}
use Rattle.nm_base.specs.Tag.{is_tag}
use Rattle.nm_base.specs.declared.forms.DumpForm.TheVariants.{Sup}
use Rattle.nm_base.specs.declared.forms.ReadForm.TheVariants as forms
use Rattle.nm_text.specs.WhiteSpace.{trimmed_start}
use Rattle.nm_tags.specs.TagLines.{after_first_word, begins_comment, begins_with_space, first_word, words_in, words_upto}
use Rattle.nm_tags.specs.declared.line_error.LineKind.TheVariants as kinds
use Rattle.nm_model_answer.specs.BatchTag.{checked_id}
use Rattle.nm_model_answer.specs.Dump.{dump_text, sup_line}
use Rattle.nm_dump.specs.Tags.{set_tag, AreTags}
use Rattle.nm_dump.specs.ReadBack.{wanted_from, without_spaces, AreFitForSup, AreMessages}
use Rattle.nm_model_answer.specs.DumpLines.{is_passed_over, read_dump}
use Rattle.nm_model_answer.specs.Sup.{inside, is_in_parentheses, read_sup, set_all, set_before, sup_asked, with_tags}
use Rattle.nm_dump.proofs.ByteLemmas.{append_all, ascii_from_low, dark_inner, id_dark, is_dark, is_inner, weaker}
use Rattle.nm_dump.proofs.TagLineLemmas.{after_is, first_is}
use Rattle.nm_dump.proofs.WholeLemmas.{classified_by, messages_read, IsReadBack}

-- ---- texts that begin with an id or a tag

dark_light : (b : ℕ) → is_dark b ≡ true → is_white_space b ≡ false
dark_light b h = not-true (is_white_space b) h

-- no white space comes before a byte that is none
no_space_first : (b : ℕ) (more : List ℕ) → is_white_space b ≡ false → trimmed_start (b ∷ more) ≡ b ∷ more
no_space_first b more e = ap (λ t. drop (cond t (1 + prefix_len is_white_space more) 0) (b ∷ more)) e

some_id : (id more : List ℕ) → is_message_id id ≡ true → list_all is_dark id ≡ true → trimmed_start (id ++ more) ≡ id ++ more
some_id [] more is h = absurd (cc)
some_id (b ∷ id) more is h = no_space_first b (id ++ more) (dark_light b (and_parts (is_dark b) _ h).0)

no_space : (id more : List ℕ) → is_message_id id ≡ true → list_all is_dark id ≡ true → begins_with_space (id ++ more) ≡ false
no_space [] more is h = absurd (cc)
no_space (b ∷ id) more is h = dark_light b (and_parts (is_dark b) _ h).0

no_comment : (id more : List ℕ) → is_message_id id ≡ true → begins_comment id ≡ false → is_passed_over (id ++ more) ≡ false
no_comment [] more is h = absurd (cc)
no_comment (b ∷ id) more is h = h

some_tag : (tag : List ℕ) → is_tag tag ≡ true → (length tag == 0) ≡ false
some_tag [] is = absurd (cc)
some_tag (b ∷ tag) is = grind (arith, nat_tests)

joined_first : (tag : List ℕ) (more : List (List ℕ)) → is_tag tag ≡ true → list_all is_dark tag ≡ true
    → trimmed_start (join_with_byte 32 (tag ∷ more)) ≡ join_with_byte 32 (tag ∷ more)
joined_first [] more is h = absurd (cc)
joined_first (b ∷ tag) [] is h = no_space_first b tag (dark_light b (and_parts (is_dark b) _ h).0)
joined_first (b ∷ tag) (next ∷ more) is h = no_space_first b (tag ++ 32 ∷ join_with_byte 32 (next ∷ more)) (dark_light b (and_parts (is_dark b) _ h).0)

-- after a space they begin
spaced_first : (tag : List ℕ) (more : List (List ℕ)) → is_tag tag ≡ true → list_all is_dark tag ≡ true
    → trimmed_start (32 ∷ join_with_byte 32 (tag ∷ more)) ≡ join_with_byte 32 (tag ∷ more)
spaced_first [] more is h = absurd (cc)
spaced_first (b ∷ tag) [] is h =
    ap (λ t. drop (1 + cond t (1 + prefix_len is_white_space tag) 0) (32 ∷ b ∷ tag)) (dark_light b (and_parts (is_dark b) _ h).0)
spaced_first (b ∷ tag) (next ∷ more) is h =
    let others = tag ++ 32 ∷ join_with_byte 32 (next ∷ more) in
    ap (λ t. drop (1 + cond t (1 + prefix_len is_white_space others) 0) (32 ∷ b ∷ others)) (dark_light b (and_parts (is_dark b) _ h).0)

-- ---- the words of the tags

dark_len : (word : List ℕ) → list_all is_dark word ≡ true → position_or_len is_white_space word ≡ length word
dark_len [] h = refl
dark_len (b ∷ word) h =
    let one : 1 + length word ≡ length (b ∷ word) = omega arith in
    ap (λ t. cond t (1 + position_or_len is_white_space word) 0) (and_parts (is_dark b) _ h).0
    ∙ (ap (λ n. 1 + n) (dark_len word (and_parts (is_dark b) _ h).1) ∙ one)

last_word : (text word : List ℕ) → trimmed_start text ≡ word → list_all is_dark word ≡ true → first_word text ≡ word
last_word text word e h = ap (before_first is_white_space) e ∙ (ap (λ n. take n word) (dark_len word h) ∙ take_all (length word) word (omega arith))

nothing_after : (text word : List ℕ) → trimmed_start text ≡ word → list_all is_dark word ≡ true → after_first_word text ≡ []
nothing_after text word e h = ap (λ w. drop (length w) (trimmed_start text)) (last_word text word e h) ∙ (ap (drop (length word)) e ∙ drop-length word)

no_words : (n : ℕ) → words_upto n [] ≡ []
no_words zero = refl
no_words (suc n) = refl

-- joined tags are their words
words_joined : (n : ℕ) (tags : List (List ℕ)) (text : List ℕ) → length tags ≤ n → AreTags tags → without_spaces tags ≡ true
    → trimmed_start text ≡ join_with_byte 32 tags → words_upto n text ≡ tags
words_joined zero [] text l h d e = refl
words_joined zero (tag ∷ tags) text l h d e = absurd (omega arith)
words_joined (suc n) [] text l h d e = ap (λ w. cond (length w == 0) [] (w ∷ words_upto n (after_first_word text))) (last_word text [] e refl)
words_joined (suc n) (tag ∷ []) text l h d e =
    let dark : list_all is_dark tag ≡ true = (and_parts (list_all is_dark tag) _ d).0 in
    ap (λ w. cond (length w == 0) [] (w ∷ words_upto n (after_first_word text))) (last_word text tag e dark)
    ∙ (ap (λ b. cond b [] (tag ∷ words_upto n (after_first_word text))) (some_tag tag h.0.2)
    ∙ (ap (λ t. tag ∷ words_upto n t) (nothing_after text tag e dark) ∙ ap (λ words. tag ∷ words) (no_words n)))
words_joined (suc n) (tag ∷ next ∷ tags) text l h d e =
    let rest = join_with_byte 32 (next ∷ tags) in
    let dark : list_all is_dark tag ≡ true = (and_parts (list_all is_dark tag) _ d).0 in
    let others : without_spaces (next ∷ tags) ≡ true = (and_parts (list_all is_dark tag) _ d).1 in
    let next_dark : list_all is_dark next ≡ true = (and_parts (list_all is_dark next) _ others).0 in
    ap (λ w. cond (length w == 0) [] (w ∷ words_upto n (after_first_word text))) (first_is text tag rest e dark)
    ∙ (ap (λ b. cond b [] (tag ∷ words_upto n (after_first_word text))) (some_tag tag h.0.2)
    ∙ (ap (λ t. tag ∷ words_upto n t) (after_is text tag rest e dark)
    ∙ ap (λ words. tag ∷ words) (words_joined n (next ∷ tags) (32 ∷ rest) (omega arith) h.1 others (spaced_first next tags h.1.0.2 next_dark))))

joined_start : (tags : List (List ℕ)) → AreTags tags → without_spaces tags ≡ true → trimmed_start (join_with_byte 32 tags) ≡ join_with_byte 32 tags
joined_start [] h d = refl
joined_start (tag ∷ tags) h d = joined_first tag tags h.0.2 (and_parts (list_all is_dark tag) _ d).0

tag_bytes : (tag : List ℕ) → is_tag tag ≡ true → 1 ≤ length tag
tag_bytes [] is = absurd (cc)
tag_bytes (b ∷ tag) is = omega arith

more_bytes : (tags : List (List ℕ)) → AreTags tags → length tags ≤ length (join_with_byte 32 tags)
more_bytes [] h = omega arith
more_bytes (tag ∷ []) h = let some = tag_bytes tag h.0.2 in omega arith
more_bytes (tag ∷ next ∷ tags) h =
    let rest = more_bytes (next ∷ tags) h.1 in
    omega (arith, length-append tag (32 ∷ join_with_byte 32 (next ∷ tags)))

words_are : (tags : List (List ℕ)) → AreTags tags → without_spaces tags ≡ true → words_in (join_with_byte 32 tags) ≡ tags
words_are tags h d =
    words_joined (length (join_with_byte 32 tags)) tags (join_with_byte 32 tags) (more_bytes tags h) h d (joined_start tags h d)

all_set : (tags : List (List ℕ)) → AreTags tags → set_all tags ≡ Some (map set_tag tags)
all_set [] h = refl
all_set (tag ∷ tags) h = ap (λ b. cond b (set_before tag (set_all tags)) None) h.0.2 ∙ ap (set_before tag) (all_set tags h.1)

-- ---- a line

-- what is in parentheses
inside_is : (text : List ℕ) → inside (40 ∷ (text ++ 41 ∷ [])) ≡ Some text
inside_is text =
    let whole = 40 ∷ (text ++ 41 ∷ []) in
    let front : List ℕ = 40 ∷ text in
    let size : length (text ++ 41 ∷ []) ≡ length text + 1 = length-append text (41 ∷ []) in
    let place : length whole - 1 ≡ length front = omega arith in
    let count : length whole - 1 - 1 ≡ length text = omega arith in
    let long : nat_le 2 (length whole) ≡ true = grind (arith, nat_tests) in
    let last : slice_index whole (length whole - 1) ≡ 41 = ap (slice_index whole) place ∙ get_or-append_seam front 41 [] 0 in
    let closes : (slice_index whole (length whole - 1) == 41) ≡ true = grind (arith, nat_tests) in
    let stands : is_in_parentheses whole ≡ true =
    and_from (nat_le 2 (length whole) && slice_index whole 0 == 40) _ (and_from (nat_le 2 (length whole)) (slice_index whole 0 == 40) long refl) closes in
    ap (λ b. cond b (Some (take (length whole - 1 - 1) (text ++ 41 ∷ []))) None) stands
    ∙ (ap (λ n. Some (take n (text ++ 41 ∷ []))) count ∙ ap Some (take-append_seam text (41 ∷ [])))

-- the id, a space, and the rest
line_is : (id : List ℕ) (tags : List (List ℕ)) → sup_line id tags ≡ id ++ 32 ∷ 40 ∷ (join_with_byte 32 tags ++ 41 ∷ [])
line_is id tags =
    append_assoc (id ++ codes " (") (join_with_byte 32 tags) (codes ")") ∙ append_assoc id (codes " (") (join_with_byte 32 tags ++ codes ")")

-- a line of sup is read as it was written
pub sup_read : (id : List ℕ) (tags : List (List ℕ)) → is_utf8 id ≡ true → is_message_id id ≡ true → AreTags tags → without_spaces tags ≡ true
    → read_sup (sup_line id tags) ≡ Ok (id, map set_tag tags)
sup_read id tags u is h d =
    let more : List ℕ = 40 ∷ (join_with_byte 32 tags ++ 41 ∷ []) in
    let text : List ℕ = id ++ 32 ∷ more in
    let dark = id_dark id is in
    let starts : trimmed_start text ≡ id ++ 32 ∷ more = some_id id (32 ∷ more) is dark in
    let checked : checked_id (Some id) ≡ Some id = ap (λ b. cond (b && is_message_id id) (Some id) None) u ∙ ap (λ b. cond b (Some id) None) is in
    ap read_sup (line_is id tags)
    ∙ (ap (λ b. cond b (Err kinds.Form) (sup_asked (checked_id (Some (first_word text))) (inside (trimmed_start (after_first_word text))))) (no_space id (32 ∷ more) is dark)
    ∙ (ap (λ w. sup_asked (checked_id (Some w)) (inside (trimmed_start (after_first_word text)))) (first_is text id more starts dark)
    ∙ (ap (λ t. sup_asked (checked_id (Some id)) (inside (trimmed_start t))) (after_is text id more starts dark)
    ∙ (ap (sup_asked (checked_id (Some id))) (inside_is (join_with_byte 32 tags))
    ∙ (ap (λ found. sup_asked found (Some (join_with_byte 32 tags))) checked
    ∙ (ap (λ words. with_tags id (set_all words)) (words_are tags h d) ∙ ap (with_tags id) (all_set tags h)))))))

joined_inner : (tags : List (List ℕ)) → without_spaces tags ≡ true → list_all is_inner (join_with_byte 32 tags) ≡ true
joined_inner [] d = refl
joined_inner (tag ∷ []) d = weaker is_dark is_inner dark_inner tag (and_parts (list_all is_dark tag) _ d).0
joined_inner (tag ∷ next ∷ tags) d =
    append_all is_inner tag (32 ∷ join_with_byte 32 (next ∷ tags)) (weaker is_dark is_inner dark_inner tag (and_parts (list_all is_dark tag) _ d).0)
    (joined_inner (next ∷ tags) (and_parts (list_all is_dark tag) _ d).1)

joined_text : (tags : List (List ℕ)) → AreTags tags → IsUtf8 (join_with_byte 32 tags)
joined_text [] h = IsUtf8-from_ascii [] (ascii_from_low [] refl)
joined_text (tag ∷ []) h = IsUtf8-from_is_utf8 tag h.0.1
joined_text (tag ∷ next ∷ tags) h =
    IsUtf8-append tag (32 ∷ join_with_byte 32 (next ∷ tags)) (IsUtf8-from_is_utf8 tag h.0.1)
    (IsUtf8-append (32 ∷ []) (join_with_byte 32 (next ∷ tags)) (IsUtf8-from_ascii (32 ∷ []) (ascii_from_low (32 ∷ []) refl)) (joined_text (next ∷ tags) h.1))

sup_inner : (id : List ℕ) (tags : List (List ℕ)) → is_message_id id ≡ true → without_spaces tags ≡ true → list_all is_inner (sup_line id tags) ≡ true
sup_inner id tags is d =
    append_all is_inner (id ++ codes " (" ++ join_with_byte 32 tags) (codes ")")
    (append_all is_inner (id ++ codes " (") (join_with_byte 32 tags)
    (append_all is_inner id (codes " (") (weaker is_dark is_inner dark_inner id (id_dark id is)) refl) (joined_inner tags d)) refl

sup_text : (id : List ℕ) (tags : List (List ℕ)) → is_utf8 id ≡ true → AreTags tags → is_utf8 (sup_line id tags) ≡ true
sup_text id tags u h =
    let opens : IsUtf8 (codes " (") = IsUtf8-from_ascii (codes " (") (ascii_from_low (codes " (") refl) in
    let closes : IsUtf8 (codes ")") = IsUtf8-from_ascii (codes ")") (ascii_from_low (codes ")") refl) in
    is_utf8-from_IsUtf8 (sup_line id tags)
    (IsUtf8-append (id ++ codes " (" ++ join_with_byte 32 tags) (codes ")")
    (IsUtf8-append (id ++ codes " (") (join_with_byte 32 tags) (IsUtf8-append id (codes " (") (IsUtf8-from_is_utf8 id u) opens) (joined_text tags h)) closes)

sup_stays : (id : List ℕ) (tags : List (List ℕ)) → is_message_id id ≡ true → begins_comment id ≡ false → is_passed_over (sup_line id tags) ≡ false
sup_stays id tags is h = ap is_passed_over (line_is id tags) ∙ no_comment id (32 ∷ 40 ∷ (join_with_byte 32 tags ++ 41 ∷ [])) is h

sup_read_back : (messages : List (List ℕ × List (List ℕ))) → AreMessages messages → AreFitForSup messages → AllByRecursion (IsReadBack Sup) messages
sup_read_back [] h f = tt
sup_read_back (message ∷ more) h f = (
  (
    sup_inner message.0 message.1 h.0.1 f.0.1,
    classified_by Sup (sup_line message.0 message.1) (message.0, map set_tag message.1) (sup_text message.0 message.1 h.0.0 h.0.2) (sup_stays message.0 message.1 h.0.1 f.0.0)
        (sup_read message.0 message.1 h.0.0 h.0.1 h.0.2 f.0.1),
  ),
  sup_read_back more h.1 f.1,
)

pub sup_dump_read : (messages : List (List ℕ × List (List ℕ))) → AreMessages messages → AreFitForSup messages
    → read_dump (dump_text Sup messages) forms.Sup ≡ Ok (wanted_from 1 messages)
sup_dump_read messages h f = messages_read Sup messages 1 (sup_read_back messages h f)
