-- Text before encoded words stays, and text between two that is no white space. For the proof of `text_around_words_stays`.
use Rattle.std.proofs.Common.{◌≡◌, ℕ, suc, ◌+◌, false, List, [], ◌∷◌, ◌++◌, Some, None, drop, length, refl, sym, ap, ◌∙◌, cond, eqb, arith, append_assoc}
use Rattle.std.proofs.lemmas.List.{append-nil, drop_at, length-append, take_at}
use Rattle.nm_text.specs.WhiteSpace.{is_all_white_space}
use Rattle.nm_decode.specs.EncodedWords.{Cut, and_then_cut, cut_found, cut_words, first_word, or_later, words_decoded}
use Rattle.nm_decode.specs.Laws.{IsWordOf, has_mark}
use Rattle.nm_decode.specs.declared.words.EncodedWord.{EncodedWord}
use Rattle.nm_decode.proofs.GapLaw.{cut-none, first-here, length-word, long, shown, whole-front, word_in}
use Rattle.nm_decode.proofs.MarkLaw.{no-word, none-here, parts}
use Rattle.nm_decode.proofs.Segments.{not_opened}

-- the first word after a text without marks, where a `=` follows that
first-before : (gap rest : List ℕ) (word : EncodedWord) → has_mark gap ≡ false → first_word (61 ∷ rest) ≡ Some (record { at = 0; word = word })
    → first_word (gap ++ 61 ∷ rest) ≡ Some (record { at = length gap; word = word })
first-before [] rest word m e = e
first-before (a ∷ []) rest word m e =
    ap (λ o. or_later o (first_word (61 ∷ rest))) (none-here (a ∷ 61 ∷ rest) (not_opened a 61 rest (λ k. refl))) ∙ ap (or_later None) e
first-before (a ∷ b ∷ gap) rest word m e =
    let p = parts (eqb a 61) (eqb b 63) (has_mark (b ∷ gap)) m in
    let n : length (b ∷ gap) + 1 ≡ length (a ∷ b ∷ gap) = omega arith in
    ap (λ o. or_later o (first_word (b ∷ (gap ++ 61 ∷ rest)))) (none-here (a ∷ b ∷ (gap ++ 61 ∷ rest)) (not_opened a b (gap ++ 61 ∷ rest) p.0))
    ∙ ap (or_later None) (first-before (b ∷ gap) rest word p.1 e)
    ∙ ap (λ i. Some (record { at = i; word = word })) n

first-there : {word text : List ℕ} (w : IsWordOf word text) (gap rest : List ℕ) → has_mark gap ≡ false
    → first_word (gap ++ (word ++ rest)) ≡ Some (record { at = length gap; word = word_in w })
first-there w gap rest m =
    let front = whole-front w rest in
    ap (λ x. first_word (gap ++ x)) front ∙ first-before gap _ (word_in w) m (sym (ap first_word front) ∙ first-here w rest)

-- the cut of a text at the word after a text without marks
cut-there : {word text : List ℕ} (w : IsWordOf word text) (n : ℕ) (gap rest : List ℕ) → has_mark gap ≡ false
    → cut_words (suc n) (gap ++ (word ++ rest)) ≡ and_then_cut gap text (cut_words n rest)
cut-there {word} {text} w n gap rest m =
    let all = gap ++ (word ++ rest) in
    let end = length gap + (word_in w).len in
    let k : length (gap ++ word) ≡ end = length-append gap word ∙ ap (λ i. length gap + i) (length-word w) in
    let d : drop end all ≡ rest = ap (drop end) (sym (append_assoc gap word rest)) ∙ drop_at (gap ++ word) rest end k in
    ap (cut_found (cut_words n) all) (first-there w gap rest m)
    ∙ ap (λ front. and_then_cut front text (cut_words n (drop end all))) (take_at gap (word ++ rest) (length gap) refl)
    ∙ ap (λ xs. and_then_cut gap text (cut_words n xs)) d

-- how many words are sought at most
many : {word text : List ℕ} (w : IsWordOf word text) (before rest : List ℕ) → (n : ℕ) × (length (before ++ (word ++ rest)) ≡ suc (suc n))
many {word} w before rest =
    let l = long w rest in
    (length before + l.0, length-append before (word ++ rest) ∙ (let more : length before + length (word ++ rest) ≡ suc (suc (length before + l.0)) = omega (arith, l.1) in more))

pub text-before : (before word text after : List ℕ) → IsWordOf word text → has_mark before ≡ false → has_mark after ≡ false
    → words_decoded (before ++ (word ++ after)) ≡ before ++ (text ++ after)
text-before before word text after w m k =
    let l = many w before after in
    ap (λ n. shown (cut_words n (before ++ (word ++ after)))) l.1
    ∙ ap shown (cut-there w (suc l.0) before after m)
    ∙ ap (λ cut. shown (and_then_cut before text cut)) (cut-none (suc l.0) after (no-word after k))

pub text-between : (before first second a b gap after : List ℕ) → IsWordOf first a → IsWordOf second b → has_mark before ≡ false → has_mark gap ≡ false → is_all_white_space gap ≡ false
    → has_mark after ≡ false → words_decoded (before ++ (first ++ (gap ++ (second ++ after)))) ≡ before ++ (a ++ (gap ++ (b ++ after)))
text-between before first second a b gap after v w m g h k =
    let l = many v before (gap ++ (second ++ after)) in
    ap (λ n. shown (cut_words n (before ++ (first ++ (gap ++ (second ++ after)))))) l.1
    ∙ ap shown (cut-there v (suc l.0) before (gap ++ (second ++ after)) m)
    ∙ ap (λ cut. shown (and_then_cut before a cut)) (cut-there w l.0 gap after g)
    ∙ ap (λ cut. shown (and_then_cut before a (and_then_cut gap b cut))) (cut-none l.0 after (no-word after k))
    ∙ ap (λ t. before ++ (a ++ (((cond t [] gap ++ b) ++ []) ++ after))) h
    ∙ ap (λ xs. before ++ (a ++ (xs ++ after))) (append-nil (gap ++ b))
    ∙ ap (λ xs. before ++ (a ++ xs)) (append_assoc gap b after)
