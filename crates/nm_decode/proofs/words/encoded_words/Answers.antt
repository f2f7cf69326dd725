use Rattle.std.proofs.Common.{◌≡◌, ◌+◌, ◌++◌, ℕ, List, Some, sym, ◌∙◌, ap, subst, arith, rules, length, take, drop, true, false, string_bytes}
use Rattle.std.specs.Str.{IsUtf8}
use Rattle.nm_decode.specs.EncodedWords.{first_word}
use Rattle.nm_decode.specs.WordSteps.{IsSpan, decoded_text, gap_text}
use Rattle.nm_decode.proofs.WordLemmas.{cut_turn, decoded_whole, span_end}
use Rattle.nm_decode.proofs.words.encoded_words.Goals as goal

pub words-init : goal.words-init
words-init c = record {
  utf8 = c.utf8.text;
  shown = (
    length c.args.text.now,
    omega arith,
    ap (λ xs. xs ++ decoded_text (length c.args.text.now) false c.args.text.now) c.in_ok-out.ensures.bytes ∙ decoded_whole (length c.args.text.now) c.args.text.now,
  );
}

pub range_from-rest-requires : goal.range_from-rest-requires
range_from-rest-requires c =
    let found = c.in-Some.found in
    let p = rw c.in-Some.is at c.in_ok-found.ensures.place in
    let P : List ℕ → Type 0 = λ xs. IsSpan xs found.at (found.at + found.word.len) in
    let s : IsSpan c.words.rest.now found.at (found.at + found.word.len) = subst P c.as_bytes.ensures.value p in
    let Q : List ℕ → Type 0 = λ xs. IsUtf8 xs in
    let u : IsUtf8 c.words.rest.now = subst Q c.as_bytes.ensures.value c.as_bytes.ensures.utf8 in
    λ _. span_end c.words.rest.now found.at (found.at + found.word.len) u s

pub words-preserved : goal.words-preserved
words-preserved c =
    let found = c.in-Some.found in
    let p = rw c.in-Some.is at c.in_ok-found.ensures.place in
    let P : List ℕ → Type 0 = λ xs. IsSpan xs found.at (found.at + found.word.len) in
    let s : IsSpan c.words.rest.now found.at (found.at + found.word.len) = subst P c.as_bytes.ensures.value p in
    let e : first_word c.words.rest.now ≡ Some found = ap first_word (sym c.as_bytes.ensures.value) ∙ sym c.in_ok-found.ensures.value ∙ c.in-Some.is in
    let shown = c.words.invariant.shown in
    let t = cut_turn (string_bytes c.words.out) c.words.rest.now _ shown.0 c.words.follows found e s shown.1 shown.2 in
    let rest = c.words.rest.now in
    let end = found.at + found.word.len in
    let v : c.range.result.now ≡ take found.at rest = search rules in
    let w : c.range_from-rest.result.now ≡ drop end rest = search rules in
    let grown : string_bytes c.push_str.new.self ≡ (string_bytes c.words.out ++ gap_text c.words.follows (take found.at rest)) ++ found.word.text =
    c.in_ok-push_str.ensures.bytes
    ∙ ap (λ xs. xs ++ c.as_str.result.now) (c.in_ok-push_gap.ensures ∙ ap (λ xs. string_bytes c.words.out ++ gap_text c.words.follows xs) v)
    ∙ ap (λ xs. (string_bytes c.words.out ++ gap_text c.words.follows (take found.at rest)) ++ xs) c.as_str.ensures in
    record {
      utf8 = c.range_from-rest.utf8;
      shown = (
        t.0,
        omega (arith, ap length w, t.1),
        ap (λ xs. string_bytes c.push_str.new.self ++ decoded_text t.0 true xs) w ∙ ap (λ xs. xs ++ decoded_text t.0 true (drop end rest)) grown ∙ t.2,
      );
    }
