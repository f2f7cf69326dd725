-- The numbers that more than one crate speaks of: the range of dates, and the bounds of what is kept.
-- Cited by `dates`, `mail_path`, `nm_faults` and others.
use Rattle.std.specs.Prelude.{ℕ, ◌+◌, ℤ, pos, negsuc, Bool, ◌&&◌, int_le, ◌≤ℤ◌, min}

-- the first second of the year 1: 0001-01-01 00:00:00 UTC
abbrev pub min_date : ℤ
min_date = negsuc 62135596799

-- the last second that is taken, of a mail or as a moment: 9987-04-02 17:46:40 UTC
abbrev pub max_date : ℕ
max_date = 253000000000

-- a date is a second of the years 1 up to 9987
abbrev pub IsDate : ℤ → Type 0
IsDate second = (min_date ≤ℤ second) × (second ≤ℤ pos max_date)

-- the same, as a test
abbrev pub is_date : ℤ → Bool
is_date second = int_le min_date second && int_le second (pos max_date)

-- the most that a count of 64 bits can hold
abbrev pub max_count : ℕ
max_count = 18446744073709551615

-- one more, in a count that stops at its type's end
abbrev pub one_more : ℕ → ℕ
one_more count = min (count + 1) max_count

-- the most bytes of a path
abbrev pub max_path_bytes : ℕ
max_path_bytes = 4096

-- the most bytes of a query
abbrev pub max_query_bytes : ℕ
max_query_bytes = 65536

-- the most bytes of one mail file
abbrev pub max_mail_bytes : ℕ
max_mail_bytes = 67108864

-- the most bytes of an input
abbrev pub max_input_bytes : ℕ
max_input_bytes = 67108864

-- the most lines of a script
abbrev pub max_lines : ℕ
max_lines = 4096

-- the most commits of a session
abbrev pub max_commits : ℕ
max_commits = 65536

-- the most files of an index, and of a listing
abbrev pub max_files : ℕ
max_files = 1048576

-- the most folders that a walk lists
abbrev pub max_folders : ℕ
max_folders = 65536

-- the most components of a folder that is listed
abbrev pub max_depth : ℕ
max_depth = 32

-- the bytes that close a batch of files that are read
abbrev pub full_bytes : ℕ
full_bytes = 67108864

-- the most bytes of a commit
abbrev pub max_commit_bytes : ℕ
max_commit_bytes = 1073741824

-- the most bytes of an index
abbrev pub max_index_bytes : ℕ
max_index_bytes = 1073741824
