-- Dumps as they are written, and read again line by line. For the proof of `a_written_dump_is_read_back`.
use Rattle.std.proofs.Common.{◌≡◌, ℕ, ◌+◌, ◌-◌, ◌<◌, ◌==◌, not, true, false, List, [], ◌∷◌, ◌++◌, length, map, slice_index, get_or, codes, refl, sym, ap, ◌∙◌, subst, arith, append_assoc, inl, inr, cond, take, Some, None, Result, Ok, Err}
use Rattle.std.specs.List.{flat_map, list_all, slice_split, AllByRecursion}
use Rattle.std.specs.Str.{is_utf8, IsUtf8}
use Rattle.std.specs.Str.Lines.{lines, lines_of_parts, strip_carriage_return}
use Rattle.std.proofs.lemmas.Bool.{cases_Bool}
use Rattle.std.proofs.lemmas.Bool.Decides.{nat_tests}
use Rattle.std.proofs.lemmas.List.Elements.{All-from_get_or}
use Rattle.std.proofs.lemmas.List.Splits.{length-slice_split, slice_split_at}
use Rattle.std.proofs.lemmas.Str.{is_utf8-from_IsUtf8, IsUtf8-append, IsUtf8-from_ascii, IsUtf8-from_is_utf8}
use Rattle.nm_base.specs.MessageId.{is_message_id}
use Rattle.nm_base.specs.declared.forms.DumpForm.{DumpForm}
use Rattle.nm_base.specs.declared.forms.DumpForm.TheVariants.{BatchTag, Sup}
use Rattle.nm_base.specs.declared.forms.ReadForm.TheVariants as forms
use Rattle.nm_base.specs.declared.tag_op.TagOp.{TagOp}
use Rattle.nm_tags.specs.Encoding.{encoded_tag}
use Rattle.nm_tags.specs.declared.line_error.LineKind.{LineKind}
use Rattle.nm_tags.specs.declared.line_error.LineKind.TheVariants as kinds
use Rattle.nm_model_answer.specs.Dump.{changes_line, doubled, dump_text, message_line, quoted, wants_quotes, written_id, written_tag}
use Rattle.nm_dump.specs.Tags.{set_tag}
use Rattle.nm_dump.specs.ReadBack.{wanted_from, AreMessages}
use Rattle.nm_model_answer.specs.DumpLines.{begins_changes, classified, is_passed_over, read_dump, read_line, read_lines, then_lines, told_form}
use Rattle.nm_dump.proofs.ByteLemmas.{append_all, ascii_from_low, dark_inner, holds_at, is_dark, is_inner, is_low, parts_all, tag_dark, tag_low, weaker, written_id_dark}
use Rattle.nm_dump.proofs.TagLineLemmas.{line_read, ReadsTags}
use Rattle.nm_text.specs.Utf8Laws.{split_ascii}

-- ---- lines

inner_place : (b : ℕ) → is_inner b ≡ true → (b == 10) ≡ false
inner_place b e = grind (arith, nat_tests)

inner_end : (b : ℕ) → is_inner b ≡ true → (b == 13) ≡ false
inner_end b e = grind (arith, nat_tests)

parts_first : (line : List ℕ) (parts : List (List ℕ)) → 0 < length parts → lines_of_parts (line ∷ parts) ≡ strip_carriage_return line ∷ lines_of_parts parts
parts_first line [] some = absurd (omega arith)
parts_first line (next ∷ parts) some = refl

-- a line without parts of line ends is the first one
pub line_first : (line more : List ℕ) → list_all is_inner line ≡ true → lines (line ++ 10 ∷ more) ≡ line ∷ lines more
line_first line more h =
    let last : is_inner (slice_index line (length line - 1)) ≡ true = holds_at is_inner line (length line - 1) refl h in
    let front = All-from_get_or (λ (b : ℕ). (b == 10) ≡ false) line 0 (λ i l. inner_place (get_or line i 0) (holds_at is_inner line i refl h)) in
    ap lines_of_parts (slice_split_at (λ b. b == 10) line 10 more front refl)
    ∙ (parts_first line (slice_split (λ b. b == 10) more) (omega (arith, length-slice_split (λ (b : ℕ). b == 10) more))
    ∙ ap (λ b. cond b (take (length line - 1) line) line ∷ lines more) (inner_end (slice_index line (length line - 1)) last))

-- ---- texts

text_from_low : (text : List ℕ) → list_all is_low text ≡ true → IsUtf8 text
text_from_low text h = IsUtf8-from_ascii text (ascii_from_low text h)

quote_twice : (xs ys : List ℕ) (b : ℕ) → (b == 34) ≡ true → IsUtf8 (xs ++ b ∷ ys) → IsUtf8 ((xs ++ b ∷ b ∷ []) ++ ys)
quote_twice xs ys b e u =
    let is : 34 ≡ b = grind (arith, nat_tests) in
    let small : b < 128 = omega arith in
    let parts = split_ascii xs ys b small u in
    let quotes : IsUtf8 (b ∷ b ∷ []) = subst (λ (q : ℕ). IsUtf8 (q ∷ q ∷ [])) is (text_from_low (34 ∷ 34 ∷ []) refl) in
    IsUtf8-append (xs ++ b ∷ b ∷ []) ys (IsUtf8-append xs (b ∷ b ∷ []) parts.0 quotes) parts.1

-- a text with its quotes doubled is a text
doubled_text : (front text : List ℕ) → IsUtf8 (front ++ text) → IsUtf8 (front ++ flat_map doubled text)
doubled_text front [] u = u
doubled_text front (b ∷ text) u =
    elim (cases_Bool (b == 34)) [
      | inl e ↦
          subst (λ t. IsUtf8 (front ++ (cond t (b ∷ b ∷ []) (b ∷ []) ++ flat_map doubled text))) (sym e)
          (subst IsUtf8 (append_assoc front (b ∷ b ∷ []) (flat_map doubled text)) (doubled_text (front ++ b ∷ b ∷ []) text (quote_twice front text b e u)))
      | inr e ↦
          subst (λ t. IsUtf8 (front ++ (cond t (b ∷ b ∷ []) (b ∷ []) ++ flat_map doubled text))) (sym e)
          (subst IsUtf8 (append_assoc front (b ∷ []) (flat_map doubled text)) (doubled_text (front ++ b ∷ []) text (subst IsUtf8 (sym (append_assoc front (b ∷ []) text)) u)))
    ]

quoted_text : (id : List ℕ) → IsUtf8 id → IsUtf8 (quoted id)
quoted_text id u =
    let quote : IsUtf8 (34 ∷ []) = text_from_low (34 ∷ []) refl in
    IsUtf8-append (34 ∷ flat_map doubled id) (34 ∷ []) (doubled_text (34 ∷ []) id (IsUtf8-append (34 ∷ []) id quote u)) quote

written_id_text : (id : List ℕ) → IsUtf8 id → IsUtf8 (written_id id)
written_id_text id u =
    elim (cases_Bool (wants_quotes id)) [
      | inl e ↦ subst (λ b. IsUtf8 (cond b (quoted id) id)) (sym e) (quoted_text id u)
      | inr e ↦ subst (λ b. IsUtf8 (cond b (quoted id) id)) (sym e) u
    ]

-- ---- a line of tag changes

tag_inner : (tag : List ℕ) → list_all is_inner (written_tag tag) ≡ true
tag_inner tag = append_all is_inner (43 ∷ encoded_tag tag) (32 ∷ []) (weaker is_dark is_inner dark_inner (encoded_tag tag) (tag_dark tag)) refl

written_tag_low : (tag : List ℕ) → list_all is_low (written_tag tag) ≡ true
written_tag_low tag = append_all is_low (43 ∷ encoded_tag tag) (32 ∷ []) (tag_low tag) refl

changes_inner : (id : List ℕ) (tags : List (List ℕ)) → is_message_id id ≡ true → list_all is_inner (changes_line id tags) ≡ true
changes_inner id tags is =
    append_all is_inner (flat_map written_tag tags ++ codes "-- id:") (written_id id)
    (append_all is_inner (flat_map written_tag tags) (codes "-- id:") (parts_all is_inner written_tag tag_inner tags) refl)
    (weaker is_dark is_inner dark_inner (written_id id) (written_id_dark id is))

changes_text : (id : List ℕ) (tags : List (List ℕ)) → is_utf8 id ≡ true → is_utf8 (changes_line id tags) ≡ true
changes_text id tags u =
    is_utf8-from_IsUtf8 (changes_line id tags)
    (IsUtf8-append (flat_map written_tag tags ++ codes "-- id:") (written_id id)
    (text_from_low (flat_map written_tag tags ++ codes "-- id:") (append_all is_low (flat_map written_tag tags) (codes "-- id:") (parts_all is_low written_tag written_tag_low tags) refl))
    (written_id_text id (IsUtf8-from_is_utf8 id u)))

changes_stay : (id : List ℕ) (tags : List (List ℕ)) → is_passed_over (changes_line id tags) ≡ false
changes_stay id [] = refl
changes_stay id (tag ∷ tags) = refl

changes_tell : (id : List ℕ) (tags : List (List ℕ)) → begins_changes (changes_line id tags) ≡ true
changes_tell id [] = refl
changes_tell id (tag ∷ tags) = refl

-- a text that is not passed over is judged by its form
pub classified_by : (form : DumpForm) (line : List ℕ) (asked : List ℕ × List TagOp) → is_utf8 line ≡ true → is_passed_over line ≡ false → read_line form line ≡ Ok asked
    → classified form line ≡ Ok (Some asked)
classified_by form line asked text stays read =
    ap (λ b. cond (not b) (Err kinds.Utf8) (cond (is_passed_over line) (Ok None) (elim (read_line form line) [ Ok asked ↦ Ok (Some asked) | Err kind ↦ Err kind ]))) text
    ∙ (ap (λ b. cond b (Ok None) (elim (read_line form line) [ Ok asked ↦ Ok (Some asked) | Err kind ↦ Err kind ])) stays
    ∙ ap (λ (r : Result (List ℕ × List TagOp) LineKind). elim r [ Ok asked ↦ Ok (Some asked) | Err kind ↦ Err kind ]) read)

-- ---- whole dumps

-- the line of a message is a line, and read as it was written
abbrev pub IsReadBack : DumpForm → List ℕ × List (List ℕ) → Type 0
IsReadBack form message =
    (list_all is_inner (message_line form message.0 message.1) ≡ true)
    × (classified form (message_line form message.0 message.1) ≡ Ok (Some (message.0, map set_tag message.1)))

changes_read_back : ReadsTags → (messages : List (List ℕ × List (List ℕ))) → AreMessages messages → AllByRecursion (IsReadBack BatchTag) messages
changes_read_back reads [] h = tt
changes_read_back reads (message ∷ more) h =
    let line = changes_line message.0 message.1 in (
      (
        changes_inner message.0 message.1 h.0.1,
        classified_by BatchTag line (message.0, map set_tag message.1) (changes_text message.0 message.1 h.0.0) (changes_stay message.0 message.1) (line_read reads message.0 message.1 h.0.0 h.0.1 h.0.2),
      ),
      changes_read_back reads more h.1,
    )

abbrev pub message_lines : DumpForm → List (List ℕ × List (List ℕ)) → List ℕ
message_lines form messages = flat_map (λ message. message_line form message.0 message.1 ++ 10 ∷ []) messages

-- the lines of messages are read as them
pub messages_read : (form : DumpForm) (messages : List (List ℕ × List (List ℕ))) (number : ℕ) → AllByRecursion (IsReadBack form) messages
    → read_lines form number (lines (message_lines form messages)) ≡ Ok (wanted_from number messages)
messages_read form [] number h = refl
messages_read form (message ∷ more) number h =
    let line = message_line form message.0 message.1 in
    let rest = message_lines form more in
    ap (λ text. read_lines form number (lines text)) (append_assoc line (10 ∷ []) rest)
    ∙ (ap (read_lines form number) (line_first line rest h.0.0)
    ∙ (ap (λ judgement. then_lines number judgement (read_lines form (number + 1) (lines rest))) h.0.1
    ∙ ap (then_lines number (Ok (Some (message.0, map set_tag message.1)))) (messages_read form more (number + 1) h.1)))

-- the first line is passed over
abbrev pub head_line : List ℕ
head_line = codes "#notmuch-dump batch-tag:3 tags"

head_passed : (form : DumpForm) (number : ℕ) (rest : List ℕ) → read_lines form number (lines (head_line ++ 10 ∷ rest)) ≡ read_lines form (number + 1) (lines rest)
head_passed form number rest =
    let text : is_utf8 head_line ≡ true = is_utf8-from_IsUtf8 head_line (text_from_low head_line refl) in
    ap (read_lines form number) (line_first head_line rest refl)
    ∙ ap (λ b. then_lines number (cond (not b) (Err kinds.Utf8) (Ok None)) (read_lines form (number + 1) (lines rest))) text

pub changes_dump_read : ReadsTags → (messages : List (List ℕ × List (List ℕ))) → AreMessages messages
    → read_dump (dump_text BatchTag messages) forms.BatchTag ≡ Ok (wanted_from 2 messages)
changes_dump_read reads messages h =
    head_passed BatchTag 1 (message_lines BatchTag messages) ∙ messages_read BatchTag messages 2 (changes_read_back reads messages h)

-- the first message tells the form
form_told : ReadsTags → (message : List ℕ × List (List ℕ)) (more : List (List ℕ × List (List ℕ))) → AreMessages (message ∷ more)
    → told_form (lines (dump_text BatchTag (message ∷ more))) ≡ BatchTag
form_told reads message more h =
    let line = changes_line message.0 message.1 in
    let rest = message_lines BatchTag more in
    ap told_form (line_first head_line (message_lines BatchTag (message ∷ more)) refl)
    ∙ (ap (λ text. told_form (lines text)) (append_assoc line (10 ∷ []) rest)
    ∙ (ap told_form (line_first line rest (changes_inner message.0 message.1 h.0.1))
    ∙ (ap (λ b. cond b (told_form (lines rest)) (cond (begins_changes line) BatchTag Sup)) (changes_stay message.0 message.1)
    ∙ ap (λ b. cond b BatchTag Sup) (changes_tell message.0 message.1))))

pub changes_dump_told : ReadsTags → (messages : List (List ℕ × List (List ℕ))) → AreMessages messages
    → read_dump (dump_text BatchTag messages) forms.Auto ≡ Ok (wanted_from 2 messages)
changes_dump_told reads [] h =
    ap (λ (ls : List (List ℕ)). read_lines (told_form ls) 1 ls) (line_first head_line [] refl) ∙ (sym (ap (read_lines Sup 1) (line_first head_line [] refl)) ∙ head_passed Sup 1 [])
changes_dump_told reads (message ∷ more) h =
    ap (λ form. read_lines form 1 (lines (dump_text BatchTag (message ∷ more)))) (form_told reads message more h)
    ∙ changes_dump_read reads (message ∷ more) h
