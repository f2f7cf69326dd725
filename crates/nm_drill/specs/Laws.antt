-- What the store of a drill is, in words of mail: which mail answers which, when each was written, and what tells mails apart.
-- Cited by `laws`.
use Rattle.std.specs.Prelude.{◌≡◌, ℕ, ◌+◌, ◌*◌, ◌≤◌, ◌<◌, List, [], ◌++◌, codes, None}
use Rattle.nm_drill.specs.Drill.{answered, group_of, id_of, last_digits, references_line, subject_line}

-- the mails are of one group
pub record AreOfOneGroup (j k : ℕ) : Type 0 where
  pub from : (1 ≤ j) × (1 ≤ k)
  pub group : group_of j ≡ group_of k

-- the first mail comes before the second in one group, and answers none
pub record Begins (first k : ℕ) : Type 0 where
  pub group : AreOfOneGroup first k
  pub before : first < k
  pub begins : answered first ≡ None

-- the mail is no reply: its subject is the topic alone, and it has no references
pub record IsNoReply (k : ℕ) : Type 0 where
  pub subject : (topic : List ℕ) × (subject_line k ≡ codes "Subject: topic " ++ topic)
  pub references : references_line (answered k) ≡ []

-- the second mail is a reply to the first: its subject says that it is one, and its references name the id of the first
pub record IsReply (first k : ℕ) : Type 0 where
  pub subject : (topic : List ℕ) × (subject_line k ≡ codes "Subject: Re: topic " ++ topic)
  pub references : references_line (answered k) ≡ codes "References: <" ++ (id_of first ++ codes ">\n")

-- the text tells a time of day that comes n seconds after midnight
pub record IsTime (text : List ℕ) (seconds : ℕ) : Type 0 where
  pub hour : ℕ
  pub minute : ℕ
  pub second : ℕ
  pub bounds : (hour < 24) × (minute < 60) × (second < 60)
  pub sum : (hour * 60 + minute) * 60 + second ≡ seconds
  pub told : text ≡ last_digits 2 hour ++ (codes ":" ++ (last_digits 2 minute ++ (codes ":" ++ last_digits 2 second)))
