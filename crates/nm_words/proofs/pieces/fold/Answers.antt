-- Folding outside ASCII: what the iterator of folded characters gives is in the text that was empty.
use Rattle.std.proofs.Common.{◌≡◌, ℕ, Ok, ◌++◌, ap, ◌∙◌, string_bytes, encode_utf8_all}
use Rattle.std.proofs.lemmas.Iterator.{YieldsList-from_chars}
use Rattle.std.proofs.lemmas.Iterator.Adapters.{items_from_extend}
use Rattle.std.specs.Str.Iter.{chars_steps}
use Rattle.caseless.specs.CaseFold.{CaseFoldSteps}
use Rattle.caseless.proofs.CaselessLemmas.{Spells-CaseFold}
use Rattle.nm_words.specs.Words.{folded}
use Rattle.nm_words.proofs.pieces.fold.Goals as goal

pub returns : goal.returns
returns c =
    let read = YieldsList-from_chars {s = c.chars.result} c.args.piece.now c.utf8.piece c.chars.ensures.rest in
    let gives = Spells-CaseFold (c.default_case_fold.ensures.text _ read.runs) in
    items_from_extend {E = ℕ} {steps = CaseFoldSteps chars_steps} {P = λ cs. string_bytes c.extend.new.self ≡ string_bytes c.clear.new.self ++ encode_utf8_all cs} {s = c.default_case_fold.result} (Ok tt) c.in_ok-extend.ensures.ran (record { runs = gives })
    ∙ ap (λ front. front ++ folded c.args.piece.now) c.clear.ensures.bytes
