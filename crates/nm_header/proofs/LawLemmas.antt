-- The laws, by induction over the id_texts, the lines and the ids.
-- For the proofs of `a_mail_is_its_header_and_its_body` and `written_ids_are_read`.
use Rattle.std.proofs.Common.{◌≡◌, ℕ, ◌+◌, Bool, true, false, cond, not, ◌||◌, ◌==◌, List, [], ◌∷◌, ◌++◌, length, take, drop, refl, sym, ap, ◌∙◌, append_assoc}
use Rattle.std.proofs.lemmas.Bool.{and_parts, or_parts}
use Rattle.std.specs.List.{concat, list_all, list_any, onto_first, slice_split, take_while}
use Rattle.std.proofs.lemmas.List.{append-nil, drop_at, drop-drop}
use Rattle.std.proofs.lemmas.List.Sums.{take_while-cons}
use Rattle.std.proofs.lemmas.List.Splits.{slice_split-cons_no}
use Rattle.nm_header.proofs.IdLemmas.{closed-cons}
use Rattle.nm_base.specs.MessageId.{is_id_byte, is_id_text, is_message_id}
use Rattle.nm_base.specs.Bounds.{fits_length, is_white_space}
use Rattle.nm_text.specs.Cuts.{is_byte, len_through}
use Rattle.nm_header.specs.Ids.{closed, ids_in, ids_of}
use Rattle.nm_header.specs.Laws.{line_after_header, put_together, written}
use Rattle.nm_header.specs.HeaderLines.{header_lines, is_empty_line, rest_of}
use Rattle.nm_text.specs.Lines.{lines_of}
use Rattle.nm_text.specs.WhiteSpace.{without_white_space}

-- lines up to the first that passes, that one, and what is left
all_lines : (p : List ℕ → Bool) (lines : List (List ℕ)) → concat (take_while (λ l. not (p l)) lines) ++ (concat (take 1 (drop (length (take_while (λ l. not (p l)) lines)) lines)) ++ drop (len_through p lines) (concat lines)) ≡ concat lines
all_lines p [] = refl
all_lines p (line ∷ lines) =
    let front : List (List ℕ) = take_while (λ l. not (p l)) lines in
    let one : take_while (λ l. not (p l)) (line ∷ lines) ≡ cond (not (p line)) (line ∷ front) [] = take_while-cons (λ l. not (p l)) line lines in
    ap (λ f. concat f ++ (concat (take 1 (drop (length f) (line ∷ lines))) ++ drop (len_through p (line ∷ lines)) (line ++ concat lines))) one ∙ elim (p line) as (λ v. concat (cond (not v) (line ∷ front) []) ++ (concat (take 1 (drop (length (cond (not v) (line ∷ front) [])) (line ∷ lines))) ++ drop (cond v (length line) (length line + len_through p lines)) (line ++ concat lines)) ≡ line ++ concat lines) [
      | true ↦ ap (λ x. x ++ drop (length line) (line ++ concat lines)) (append-nil line) ∙ ap (λ x. line ++ x) (drop_at line (concat lines) (length line) refl)
      | false ↦
          let rest : drop (length line + len_through p lines) (line ++ concat lines) ≡ drop (len_through p lines) (concat lines) = sym (drop-drop (len_through p lines) (length line) (line ++ concat lines)) ∙ ap (drop (len_through p lines)) (drop_at line (concat lines) (length line) refl) in
          ap (λ x. (line ++ concat front) ++ (concat (take 1 (drop (length front) lines)) ++ x)) rest ∙ append_assoc line (concat front) (concat (take 1 (drop (length front) lines)) ++ drop (len_through p lines) (concat lines)) ∙ ap (λ x. line ++ x) (all_lines p lines)
    ]

pub together : (bytes : List ℕ) → concat (lines_of bytes) ≡ bytes → put_together bytes ≡ bytes
together bytes all =
    ap (λ b. concat (header_lines bytes) ++ (line_after_header bytes ++ drop (rest_of bytes) b)) (sym all) ∙ all_lines is_empty_line (lines_of bytes) ∙ all

-- an id's byte is no white space and no `>`
id_byte : (white less more : Bool) → not (white || less || more) ≡ true → (white ≡ false) × (more ≡ false)
id_byte true less more e = absurd (cc)
id_byte false true more e = absurd (cc)
id_byte false false true e = absurd (cc)
id_byte false false false e = (refl, refl)

no_close : (id : List ℕ) → list_all is_id_byte id ≡ true → list_any (is_byte 62) id ≡ false
no_close [] e = refl
no_close (b ∷ id) e =
    let first = id_byte (is_white_space b) (b == 60) (b == 62) (and_parts (is_id_byte b) (list_all is_id_byte id) e).0 in
    ap (λ v. v || list_any (is_byte 62) id) first.1 ∙ no_close id (and_parts (is_id_byte b) (list_all is_id_byte id) e).1

all_kept : (id : List ℕ) → list_all is_id_byte id ≡ true → without_white_space id ≡ id
all_kept [] e = refl
all_kept (b ∷ id) e =
    let first = id_byte (is_white_space b) (b == 60) (b == 62) (and_parts (is_id_byte b) (list_all is_id_byte id) e).0 in
    ap (λ v. cond (not v) (b ∷ without_white_space id) (without_white_space id)) first.0 ∙ ap (λ l. b ∷ l) (all_kept id (and_parts (is_id_byte b) (list_all is_id_byte id) e).1)

split_close : (front rest : List ℕ) → list_any (is_byte 62) front ≡ false → slice_split (is_byte 62) (front ++ 62 ∷ rest) ≡ front ∷ slice_split (is_byte 62) rest
split_close [] rest e = refl
split_close (b ∷ front) rest e =
    slice_split-cons_no (is_byte 62) b (front ++ 62 ∷ rest) (or_parts (is_byte 62 b) (list_any (is_byte 62) front) e).0 ∙ ap (onto_first b) (split_close front rest (or_parts (is_byte 62 b) (list_any (is_byte 62) front) e).1)

pub ids-written : (ids : List (List ℕ)) → list_all is_message_id ids ≡ true → ids_of (written ids) ≡ ids
ids-written [] e = refl
ids-written (id ∷ ids) e =
    let one : is_message_id id ≡ true = (and_parts (is_message_id id) (list_all is_message_id ids) e).0 in
    let bytes : list_all is_id_byte id ≡ true = (and_parts (fits_length 1000 id) (is_id_text id) one).1 in
    let rest : List ℕ = written ids in
    let text : written (id ∷ ids) ≡ (32 ∷ 60 ∷ id) ++ 62 ∷ rest = ap (λ l. 32 ∷ 60 ∷ l) (append_assoc id (62 ∷ []) rest) in
    let split : slice_split (is_byte 62) ((32 ∷ 60 ∷ id) ++ 62 ∷ rest) ≡ (32 ∷ 60 ∷ id) ∷ slice_split (is_byte 62) rest = split_close (32 ∷ 60 ∷ id) rest (no_close id bytes) in
    ap ids_of text ∙ ap (λ l. ids_in (closed l)) split ∙ ap ids_in (closed-cons (32 ∷ 60 ∷ id) rest) ∙ ap (λ x. cond (is_message_id x) (x ∷ ids_of rest) (ids_of rest)) (all_kept id bytes) ∙ ap (λ v. cond v (id ∷ ids_of rest) (ids_of rest)) one ∙ ap (λ l. id ∷ l) (ids-written ids (and_parts (is_message_id id) (list_all is_message_id ids) e).1)
