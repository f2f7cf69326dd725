use Rattle.std.proofs.Common.{◌≡◌, ◌∷◌, ◌++◌, codes, map, ap, sym, ◌∙◌, rules}
use Rattle.nm_model_answer.specs.Show.{mailbox_text, mailboxes_text}
use Rattle.nm_render.specs.Joined.{after_first}
use Rattle.nm_render.proofs.SubjectLemmas.{joined-cons}
use Rattle.nm_render.proofs.mailboxes.mailboxes_text.Goals as goal

pub returns : goal.returns
returns c =
    let first = c.in-Some.first.now in
    let more = c.in-Some.more.now in
    let put : c.push_mailbox.new.text ≡ mailbox_text first = search rules in
    let whole : first ∷ more ≡ c.args.mailboxes.now = search rules in
    c.in_ok-push_more.ensures ∙ ap (λ front. front ++ after_first (codes ", ") (map mailbox_text more)) put
    ∙ sym (joined-cons (codes ", ") (mailbox_text first) (map mailbox_text more)) ∙ ap mailboxes_text whole
