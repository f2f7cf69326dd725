-- What the library gives is the text that the definition names.
use Rattle.std.proofs.Common.{◌≡◌, ◌∙◌, IfOk, ap, subst, sym}
use Rattle.std.specs.Cow.{cow_str_bytes}
use Rattle.bstr.proofs.lemmas.LossyLemmas.{lossy_chars-utf8_lossy}
use Rattle.nm_text.proofs.utf8.lossy_text.Goals as goal

pub returns-in-Borrowed : goal.returns-in-Borrowed
returns-in-Borrowed c = subst (λ bytes. IfOk c.of.result (λ text. text ≡ bytes))
    (sym (ap cow_str_bytes c.in-Borrowed.is) ∙ c.in_ok-text.ensures.text ∙ lossy_chars-utf8_lossy c.args.bytes.now) c.of.ensures

pub returns-in-Owned : goal.returns-in-Owned
returns-in-Owned c = subst (λ bytes. IfOk c.from_string.result (λ text. text ≡ bytes))
    (sym (ap cow_str_bytes c.in-Owned.is) ∙ c.in_ok-text.ensures.text ∙ lossy_chars-utf8_lossy c.args.bytes.now) c.from_string.ensures
