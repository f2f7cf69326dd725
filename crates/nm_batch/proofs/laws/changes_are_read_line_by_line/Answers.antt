use Rattle.std.specs.Str.Lines.{lines}
use Rattle.nm_model_answer.specs.BatchLines.{tag_line}
use Rattle.nm_batch.proofs.LawLemmas.{all_read, is_first_bad}
use Rattle.nm_batch.proofs.laws.changes_are_read_line_by_line.Goals as goal

pub returns-clause-read : goal.returns-clause-read
returns-clause-read c = λ clear input read. all_read (tag_line clear) 1 (lines input) read

pub returns-clause-bad : goal.returns-clause-bad
returns-clause-bad c = λ clear input number kind. is_first_bad (tag_line clear) number kind (lines input)
