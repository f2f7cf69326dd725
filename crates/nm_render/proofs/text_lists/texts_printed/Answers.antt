use Rattle.std.proofs.Common.{sym, ◌∙◌, true≢false}
use Rattle.nm_render.proofs.text_lists.texts_printed.Goals as goal

pub returns-then-json-clause-reads_back : goal.returns-then-json-clause-reads_back
returns-then-json-clause-reads_back c = λ json. c.strings_json.ensures.reads_back

pub returns-clause-reads_back : goal.returns-clause-reads_back
returns-clause-reads_back c = λ json. absurd (true≢false (sym json ∙ c.if-json.false))
