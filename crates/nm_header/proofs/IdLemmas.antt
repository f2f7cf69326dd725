-- What was found with what is left to find is all. For the proof of `ids`.
use Rattle.std.proofs.Common.{◌≡◌, ℕ, ◌+◌, ◌<◌, true, false, cond, List, [], ◌∷◌, ◌++◌, length, refl, sym, ap, ◌∙◌, arith, append_assoc}
use Rattle.std.specs.List.{slice_split, after_first, count_by}
use Rattle.std.proofs.lemmas.List.Splits.{length-slice_split}
use Rattle.nm_base.specs.MessageId.{is_message_id}
use Rattle.nm_text.specs.WhiteSpace.{without_white_space}
use Rattle.nm_header.specs.Ids.{closed, ids_in, ids_of}
use Rattle.nm_text.specs.Cuts.{is_byte}

ids_in-cons : (id_text : List ℕ) (more : List (List ℕ)) → ids_in (id_text ∷ more) ≡ ids_in (id_text ∷ []) ++ ids_in more
ids_in-cons id_text more =
    let id : List ℕ = without_white_space (after_first (is_byte 60) id_text) in
    elim (is_message_id id) as (λ b. cond b (id ∷ ids_in more) (ids_in more) ≡ cond b (id ∷ []) [] ++ ids_in more) [ true ↦ refl | false ↦ refl ]

closed_before : (id_text : List ℕ) (more : List (List ℕ)) → 0 < length more → closed (id_text ∷ more) ≡ id_text ∷ closed more
closed_before id_text [] h = absurd (omega arith)
closed_before id_text (next ∷ more) h = refl

pub closed-cons : (id_text text : List ℕ) → closed (id_text ∷ slice_split (is_byte 62) text) ≡ id_text ∷ closed (slice_split (is_byte 62) text)
closed-cons id_text text =
    let one : length (slice_split (is_byte 62) text) ≡ count_by (is_byte 62) text + 1 = length-slice_split (is_byte 62) text in
    closed_before id_text (slice_split (is_byte 62) text) (omega arith)

-- a turn of the loop over the texts that a `>` ends
pub ids_turn : (before found : List (List ℕ)) (id_text left rest : List ℕ) → slice_split (is_byte 62) left ≡ id_text ∷ slice_split (is_byte 62) rest → found ≡ before ++ ids_in (id_text ∷ []) → found ++ ids_of rest ≡ before ++ ids_of left
ids_turn before found id_text left rest split f =
    let all : ids_of left ≡ ids_in (id_text ∷ []) ++ ids_of rest = ap (λ l. ids_in (closed l)) split ∙ ap ids_in (closed-cons id_text rest) ∙ ids_in-cons id_text (closed (slice_split (is_byte 62) rest)) in
    rw f (append_assoc before (ids_in (id_text ∷ [])) (ids_of rest) ∙ ap (λ l. before ++ l) (sym all))

-- at the end no id is left
pub ids_end : (left : List ℕ) → slice_split (is_byte 62) left ≡ left ∷ [] → ids_of left ≡ []
ids_end left e = ap (λ l. ids_in (closed l)) e
