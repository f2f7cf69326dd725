use Rattle.std.proofs.Common.{sym, subst, ◌∙◌, IsUtf8}
use Rattle.nm_model_answer.specs.Summary.{bare_subject}
use Rattle.nm_render.proofs.SubjectLemmas.{no_more, one_less, shorter}
use Rattle.nm_render.proofs.Utf8Lemmas.{bare_utf8}
use Rattle.nm_render.proofs.shown.bare_subject.Goals as goal

pub replies-smaller : goal.replies-smaller
replies-smaller c = search (shorter c.replies.rest.now (sym c.is_reply.ensures ∙ c.replies-test.true), c.after_reply-rest.ensures.value)

pub replies-preserved : goal.replies-preserved
replies-preserved c =
    let so_far = c.replies.invariant in
    search (one_less so_far.0 c.replies.rest.now (bare_subject c.args.subject.now) so_far.1 (sym c.is_reply.ensures ∙ c.replies-test.true) so_far.2, c.after_reply-rest.ensures.value)

pub returns-clause-value : goal.returns-clause-value
returns-clause-value c =
    let so_far = c.replies.invariant in
    sym (no_more so_far.0 c.replies.rest.now (sym c.is_reply.ensures ∙ c.replies-test.false)) ∙ so_far.2

pub returns-clause-utf8 : goal.returns-clause-utf8
returns-clause-utf8 c u =
    let so_far = c.replies.invariant in
    let value = sym (no_more so_far.0 c.replies.rest.now (sym c.is_reply.ensures ∙ c.replies-test.false)) ∙ so_far.2 in
    subst IsUtf8 (sym value) (bare_utf8 c.args.subject.now u)
