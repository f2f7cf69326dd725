use Rattle.std.specs.Str.Lines.{lines}
use Rattle.nm_model_answer.specs.BatchLines.{count_line}
use Rattle.nm_batch.proofs.LawLemmas.{all_read, is_first_bad}
use Rattle.nm_batch.proofs.laws.queries_are_read_line_by_line.Goals as goal

pub returns-clause-read : goal.returns-clause-read
returns-clause-read c = λ input read. all_read count_line 1 (lines input) read

pub returns-clause-bad : goal.returns-clause-bad
returns-clause-bad c = λ input number kind. is_first_bad count_line number kind (lines input)
