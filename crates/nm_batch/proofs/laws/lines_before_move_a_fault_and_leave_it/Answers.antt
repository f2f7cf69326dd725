use Rattle.std.specs.Str.Lines.{lines}
use Rattle.nm_model_answer.specs.BatchLines.{count_line, tag_line}
use Rattle.nm_batch.proofs.BeforeLemmas.{read-behind, told-behind}
use Rattle.nm_batch.proofs.laws.lines_before_move_a_fault_and_leave_it.Goals as goal

pub returns-clause-queries_read : goal.returns-clause-queries_read
returns-clause-queries_read c = λ good rest whole read more. read-behind count_line (lines whole) (lines good) (lines rest) read more

pub returns-clause-queries_bad : goal.returns-clause-queries_bad
returns-clause-queries_bad c = λ good rest whole read number kind. told-behind count_line (lines whole) (lines good) (lines rest) read number kind

pub returns-clause-changes_read : goal.returns-clause-changes_read
returns-clause-changes_read c = λ clear good rest whole read more. read-behind (tag_line clear) (lines whole) (lines good) (lines rest) read more

pub returns-clause-changes_bad : goal.returns-clause-changes_bad
returns-clause-changes_bad c = λ clear good rest whole read number kind. told-behind (tag_line clear) (lines whole) (lines good) (lines rest) read number kind
