-- The drill: a store of mail that is made by the numbers of its mails, and the script of a session over it.
-- Cited by `answered`, `digits`, `lines` and others.
use Rattle.std.specs.Prelude.{ℕ, zero, suc, ◌+◌, ◌-◌, ◌*◌, ◌/◌, ◌%◌, ◌==◌, List, [], ◌∷◌, ◌++◌, map, codes, Option, None, Some, if◌then◌else◌}
use Rattle.std.specs.Fmt.{decimal}
use Rattle.std.specs.List.{flat_map, range_with_len}
use Rattle.nm_maildir.specs.Still.{Still, still_of}

-- ---- numbers

-- the last n decimal digits of a number
abbrev pub last_digits : ℕ → ℕ → List ℕ
last_digits zero k = []
last_digits (suc n) k = last_digits n (k / 10) ++ (48 + k % 10) ∷ []

-- a moment of a day as HH:MM:SS, by its seconds after midnight
abbrev pub clock_text : ℕ → List ℕ
clock_text second =
    last_digits 2 (second / 3600) ++ (codes ":" ++ (last_digits 2 (second / 60 % 60) ++ (codes ":" ++ last_digits 2 (second % 60))))

-- ---- groups

-- the mails come in groups of five: 1 to 5, 6 to 10, ..
abbrev pub group_of : ℕ → ℕ
group_of k = 1 + (k - 1) / 5

-- the first mail of the group
abbrev pub first_of : ℕ → ℕ
first_of k = 5 * group_of k - 4

-- the mail that a mail answers: the first of its group, which itself answers none
abbrev pub answered : ℕ → Option ℕ
answered k = if k == first_of k then None else Some (first_of k)

-- ---- a mail, line by line

-- three people write in turn
abbrev pub name_of : ℕ → List ℕ
name_of k = if k % 3 == 0 then codes "Ann" else if k % 3 == 1 then codes "Bob" else codes "Cara"

abbrev pub id_of : ℕ → List ℕ
id_of k = codes "d" ++ (decimal k ++ codes "@drill.example")

abbrev pub from_line : ℕ → List ℕ
from_line k = codes "From: " ++ (name_of k ++ (codes " <" ++ (name_of k ++ codes "@drill.example>\n")))

-- what comes before the topic where a mail is answered
abbrev pub reply_mark : Option ℕ → List ℕ
reply_mark None = []
reply_mark (Some first) = codes "Re: "

-- the topic is the group's number; the word at the end is one of ten
abbrev pub subject_line : ℕ → List ℕ
subject_line k =
    codes "Subject: " ++ (reply_mark (answered k) ++ (codes "topic " ++ (decimal (group_of k) ++ (codes " w" ++ (decimal (k % 10) ++ codes "\n")))))

abbrev pub id_line : ℕ → List ℕ
id_line k = codes "Message-ID: <" ++ (id_of k ++ codes ">\n")

-- n seconds after midnight
abbrev pub date_line : ℕ → List ℕ
date_line k = codes "Date: 01 Jan 2024 " ++ (clock_text k ++ codes " +0000\n")

-- names the mail that is answered, if any
abbrev pub references_line : Option ℕ → List ℕ
references_line None = []
references_line (Some first) = codes "References: <" ++ (id_of first ++ codes ">\n")

-- the empty line and the body
abbrev pub body_of : ℕ → List ℕ
body_of k = codes "\nline " ++ (decimal k ++ codes "\n")

-- the whole mail
abbrev pub drill_mail : ℕ → List ℕ
drill_mail k = from_line k ++ subject_line k ++ id_line k ++ date_line k ++ references_line (answered k) ++ body_of k

-- ---- the store

-- where a mail is: its number in eight digits
abbrev pub drill_path : ℕ → List ℕ
drill_path k = codes "new/" ++ last_digits 8 k

abbrev pub drill_file : ℕ → List ℕ × List ℕ
drill_file k = (drill_path k, drill_mail k)

-- the mails 1 to n
abbrev pub drill_files : ℕ → List (List ℕ × List ℕ)
drill_files n = map drill_file (range_with_len 1 n)

-- a folder for new mail, which holds all, and one for mail that was seen
abbrev pub drill_tree : ℕ → Still
drill_tree n = still_of (codes "new" ∷ codes "cur" ∷ []) (drill_files n) []

-- ---- the script

-- the mails are taken in, and those of one word are read; then four lanes read
abbrev pub script_lines : List (List ℕ)
script_lines =
    codes "0 new"
    ∷ codes "0 tag -unread -- subject:w1"
    ∷ codes "---"
    ∷ codes "1 count *"
    ∷ codes "2 count --output=threads *"
    ∷ codes "3 count not tag:unread"
    ∷ codes "4 search --limit=1 *"
    ∷ []

-- each line ends with LF
abbrev pub drill_script : List ℕ
drill_script = flat_map (λ line. line ++ codes "\n") script_lines
