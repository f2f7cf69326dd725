-- What the tag words of a text ask for, word by word.
-- For the proofs of `batch_lines`, `read_ops`, `next_tag_word` and others.
use Rattle.std.proofs.Common.{◌≡◌, ℕ, zero, suc, ◌<◌, ◌≤◌, ◌==◌, ◌||◌, true, false, List, [], ◌∷◌, length, refl, sym, ap, ◌∙◌, arith, subst, inl, inr, cond, ◌++◌, Option, Some, None, Result, Ok, Err, append_assoc}
use Rattle.std.specs.List.{position_or_len, prefix_len}
use Rattle.std.proofs.lemmas.Bool.{and_parts, cases_Bool}
use Rattle.std.proofs.lemmas.Bool.Decides.{nat_tests}
use Rattle.std.specs.Str.{IsUtf8, IsCharBoundary}
use Rattle.std.proofs.lemmas.Str.{IsCharBoundary-after_ascii}
use Rattle.std.proofs.lemmas.List.{length-drop, length-take}
use Rattle.nm_base.specs.Bounds.{is_white_space}
use Rattle.nm_base.specs.declared.tag_op.TagOp.{TagOp}
use Rattle.nm_text.specs.WhiteSpace.{trimmed_start}
use Rattle.nm_tags.specs.declared.line_error.LineKind.{LineKind}
use Rattle.nm_tags.specs.declared.tag_line.TagLine.{TagLine}
use Rattle.nm_tags.specs.TagLines.{after_first_word, asked_in, asked_upto, first_word, is_tag_word, op_of, query_after, then_lines, with_op, words_in, words_upto}

-- a sign is ASCII
sign_below : (sign : ℕ) → (sign == 43 || sign == 45) ≡ true → sign < 128
sign_below sign e = grind (arith, nat_tests)

-- a tag word has a byte
some_byte : (word : List ℕ) → is_tag_word word ≡ true → 0 < length word
some_byte [] e = absurd (cc)
some_byte (b ∷ bs) e = omega arith

-- what comes after a word is shorter
pub after_word_is_shorter : (text : List ℕ) → 0 < length (first_word text) → length (after_first_word text) < length text
after_word_is_shorter text word =
    let rest = trimmed_start text in
    let fits : length (first_word text) ≤ length rest = omega (arith, length-take (position_or_len is_white_space rest) rest) in
    let within : length rest ≤ length text = omega (arith, length-drop (prefix_len is_white_space text) text) in
    omega (arith, length-drop (length (first_word text)) rest)

-- and what comes after a tag word
pub after_is_shorter : (text : List ℕ) → is_tag_word (first_word text) ≡ true → length (after_first_word text) < length text
after_is_shorter text e = after_word_is_shorter text (some_byte (first_word text) e)

-- more words than there are bytes are no other words
same_words : (n m : ℕ) (text : List ℕ) → length text ≤ n → length text ≤ m → words_upto n text ≡ words_upto m text
same_words zero zero text small smaller = refl
same_words zero (suc m) [] small smaller = refl
same_words zero (suc m) (b ∷ bs) small smaller = absurd (omega arith)
same_words (suc n) zero [] small smaller = refl
same_words (suc n) zero (b ∷ bs) small smaller = absurd (omega arith)
same_words (suc n) (suc m) text small smaller =
    elim (cases_Bool (length (first_word text) == 0)) [
      | inl e ↦
          subst (λ b. cond b [] (first_word text ∷ words_upto n (after_first_word text)) ≡ cond b [] (first_word text ∷ words_upto m (after_first_word text))) (sym e) refl
      | inr e ↦
          let some : 0 < length (first_word text) = grind (arith, nat_tests) in
          let short = after_word_is_shorter text some in
          ap (λ words. cond (length (first_word text) == 0) [] (first_word text ∷ words)) (same_words n m (after_first_word text) (omega arith) (omega arith))
    ]

-- the first word, and those after it
pub words_first : (text : List ℕ) → 0 < length (first_word text) → words_in text ≡ first_word text ∷ words_in (after_first_word text)
words_first text some =
    let short = after_word_is_shorter text some in
    let e : (length (first_word text) == 0) ≡ false = grind (arith, nat_tests) in
    same_words (length text) (suc (length text)) text (omega arith) (omega arith)
    ∙ (ap (λ b. cond b [] (first_word text ∷ words_upto (length text) (after_first_word text))) e
    ∙ ap (λ words. first_word text ∷ words) (same_words (length text) (length (after_first_word text)) (after_first_word text) (omega arith) (omega arith)))

-- a text without a first word has none
pub words_none : (text : List ℕ) → first_word text ≡ [] → words_in text ≡ []
words_none text e =
    same_words (length text) (suc (length text)) text (omega arith) (omega arith)
    ∙ ap (λ w. cond (length w == 0) [] (first_word text ∷ words_upto (length text) (after_first_word text))) e

-- more words than there are bytes change nothing
same_upto : (n m : ℕ) (text : List ℕ) → length text ≤ n → length text ≤ m → asked_upto n text ≡ asked_upto m text
same_upto zero zero text small smaller = refl
same_upto zero (suc m) [] small smaller = refl
same_upto zero (suc m) (b ∷ bs) small smaller = absurd (omega arith)
same_upto (suc n) zero [] small smaller = refl
same_upto (suc n) zero (b ∷ bs) small smaller = absurd (omega arith)
same_upto (suc n) (suc m) text small smaller =
    elim (cases_Bool (is_tag_word (first_word text))) [
      | inl e ↦
          let short = after_is_shorter text e in
          ap (λ asked. cond (is_tag_word (first_word text)) (with_op (op_of (first_word text)) asked) (Some ([], query_after text)))
          (same_upto n m (after_first_word text) (omega arith) (omega arith))
      | inr e ↦
          subst (λ b. cond b (with_op (op_of (first_word text)) (asked_upto n (after_first_word text))) (Some ([], query_after text))
          ≡ cond b (with_op (op_of (first_word text)) (asked_upto m (after_first_word text))) (Some ([], query_after text))) (sym e) refl
    ]

-- a tag word at the front is asked first
pub asked_first : (text : List ℕ) → is_tag_word (first_word text) ≡ true → asked_in text ≡ with_op (op_of (first_word text)) (asked_in (after_first_word text))
asked_first text e =
    let short = after_is_shorter text e in
    same_upto (length text) (suc (length text)) text (omega arith) (omega arith)
    ∙ (ap (λ b. cond b (with_op (op_of (first_word text)) (asked_upto (length text) (after_first_word text))) (Some ([], query_after text))) e
    ∙ ap (with_op (op_of (first_word text))) (same_upto (length text) (length (after_first_word text)) (after_first_word text) (omega arith) (omega arith)))

-- operations before what else is asked
abbrev pub with_ops : List TagOp → Option (List TagOp × List ℕ) → Option (List TagOp × List ℕ)
with_ops ops (Some asked) = Some (ops ++ asked.0, asked.1)
with_ops ops None = None

-- lines before what else is read
abbrev pub with_lines : List TagLine → Result (List TagLine) (ℕ × LineKind) → Result (List TagLine) (ℕ × LineKind)
with_lines before (Ok read) = Ok (before ++ read)
with_lines before (Err fault) = Err fault

-- an operation after others
pub with_one_more : (ops : List TagOp) (op : TagOp) (asked : Option (List TagOp × List ℕ)) → with_ops (ops ++ op ∷ []) asked ≡ with_ops ops (with_op (Some op) asked)
with_one_more ops op (Some asked) = ap (λ l. Some (l, asked.1)) (append_assoc ops (op ∷ []) asked.0)
with_one_more ops op None = refl

-- a line after others
pub with_one_line : (before : List TagLine) (number : ℕ) (ops : List TagOp) (query : List ℕ) (read : Result (List TagLine) (ℕ × LineKind))
    → with_lines (before ++ record { line = number; ops = ops; query = query } ∷ []) read ≡ with_lines before (then_lines number (Ok (Some (ops, query))) read)
with_one_line before number ops query (Ok read) = ap Ok (append_assoc before (record { line = number; ops = ops; query = query } ∷ []) read)
with_one_line before number ops query (Err fault) = refl

-- a tag word may be cut after its sign
pub cut_after_sign : (word : List ℕ) → IsUtf8 word → is_tag_word word ≡ true → IsCharBoundary word 1
cut_after_sign [] u e = absurd (cc)
cut_after_sign (sign ∷ encoded) u e = IsCharBoundary-after_ascii (sign ∷ encoded) 0 u (omega arith) (sign_below sign (and_parts (sign == 43 || sign == 45) _ e).0)
