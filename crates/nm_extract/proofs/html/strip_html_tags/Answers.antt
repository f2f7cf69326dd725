-- The text is cut at a `<`, and what is kept with what is left is all.
use Rattle.std.proofs.Common.{◌≡◌, false, [], ◌∷◌, ◌++◌, arith, sym, ap, ◌∙◌}
use Rattle.std.specs.Prelude.{string_bytes}
use Rattle.nm_extract.specs.Html.{strip_from}
use Rattle.nm_extract.proofs.HtmlLemmas.{strip-turn, strip-whole}
use Rattle.nm_extract.proofs.html.strip_html_tags.Goals as goal

pub tags-preserved : goal.tags-preserved
tags-preserved c =
    let pushed : string_bytes c.push.new.self ≡ (string_bytes c.tags.kept ++ c.in-Some.before.now) ++ 32 ∷ [] =
    c.in_ok-push.ensures.bytes
    ∙ (ap (λ space. string_bytes c.push_str.new.self ++ space) (c.in_ok-push.ensures.ascii (omega arith)) ∙ ap (λ kept. kept ++ 32 ∷ []) c.in_ok-push_str.ensures.bytes) in (
      c.after_tag-rest.utf8,
      ap (λ kept. kept ++ strip_from false c.after_tag-rest.result.now) pushed
          ∙ strip-turn (string_bytes c.tags.kept) c.tags.rest.now c.in-Some.before.now c.in-Some.tag.now c.after_tag-rest.result.now c.in-Some.ensures.place c.in-Some.ensures.front c.in-Some.ensures.back c.after_tag-rest.ensures.value
          ∙ c.tags.invariant.1,
    )

pub returns : goal.returns
returns c =
    c.in_ok-from_string.ensures
    ∙ (c.in_ok-push_str-2.ensures.bytes ∙ (ap (λ text. string_bytes c.tags.kept ++ text) (sym (strip-whole c.tags.rest.now c.in_default.ensures.place)) ∙ c.tags.invariant.1))
