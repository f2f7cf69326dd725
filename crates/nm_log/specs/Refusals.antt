-- Why a whole call may be refused, with its status and the line that says so.
-- Cited by `refusal`, `nm_history` and `nm_top`.
use Rattle.std.specs.Prelude.{ℕ, List, ◌++◌, codes}
use Rattle.std.specs.Fmt.{decimal}
use Rattle.nm_disk.specs.declared.disk.FileNo.{FileNo}
use Rattle.nm_disk.specs.declared.disk.FileNo.TheVariants.{Head, BankA, BankB}
use Rattle.nm_log.specs.Replies.{limit_line, usage_line}
use Rattle.nm_log.specs.declared.refusal.Refusal.{Refusal}
use Rattle.nm_log.specs.declared.refusal.Refusal.TheVariants as refusals

-- the status of a call that was refused
abbrev pub refused_status : Refusal → ℕ
refused_status (refusals.Usage word kind) = 2
refused_status refusals.ReadFault = 5
refused_status refusals.DiskFault = 4
refused_status (refusals.BadIndex file at) = 8
refused_status (refusals.Limit limit) = 9
refused_status refusals.NoMemory = 7

-- the number by which a file is named
abbrev pub file_name : FileNo → List ℕ
file_name Head = codes "0"
file_name BankA = codes "1"
file_name BankB = codes "2"

-- the file and the place from which it holds no index
abbrev pub bad_index_line : FileNo → ℕ → List ℕ
bad_index_line file at = codes "notmuch: bad index: file " ++ (file_name file ++ (codes " at " ++ (decimal at ++ codes "\n")))

-- the line that the user reads
abbrev pub refused_line : Refusal → List ℕ
refused_line (refusals.Usage word kind) = usage_line kind word
refused_line refusals.ReadFault = codes "notmuch: read fault\n"
refused_line refusals.DiskFault = codes "notmuch: disk fault\n"
refused_line (refusals.BadIndex file at) = bad_index_line file at
refused_line (refusals.Limit limit) = limit_line limit
refused_line refusals.NoMemory = codes "notmuch: no memory\n"
