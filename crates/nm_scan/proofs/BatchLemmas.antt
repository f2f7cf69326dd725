-- A batch goes on path by path, until it is full, or no path is left, or the reading stops; then what was found is noted.
-- For the proofs of `read_batch`, `classify_batch`, `read_part` and `read_next`.
use Rattle.std.proofs.Common.{◌≡◌, ◌⊎◌, inl, inr, ℕ, ◌+◌, ◌-◌, ◌<◌, ◌≤◌, List, [], ◌∷◌, ◌++◌, Option, None, Some, IfOk, IfSome, Result, Ok, Err, length, take, drop, refl, sym, ap, ◌∙◌, subst, append_assoc, length-append, take-append-drop, zero, suc, arith}
use Rattle.std.specs.Prelude.{OnErr}
use Rattle.std.proofs.Math.Seq.{take-append-add, take-append_seam, take-length}
use Rattle.std.proofs.lemmas.List.{length-map, map-append, take-append-le}
use Rattle.nm_base.specs.Limits.{full_bytes, max_mail_bytes}
use Rattle.nm_base.specs.declared.facts.Facts.{Facts}
use Rattle.nm_base.specs.declared.memory.NoMemory.{NoMemory}
use Rattle.nm_maildir.specs.Observed.{ObservedMail}
use Rattle.nm_maildir.specs.Tree.{Tree, got_of}
use Rattle.nm_maildir.specs.declared.answers.Got.{Got}
use Rattle.nm_maildir.specs.declared.given.Given.{Given}
use Rattle.nm_scan.proofs.LawLemmas.{len-front}
use Rattle.nm_scan.proofs.ReadLemmas.{AllByRecursion-append, read_with-more, read_with-none, same_mail}
use Rattle.nm_scan.specs.Batches.{HasReadBatch, IsBatch, IsOpen, StopsInBatch, len_at, len_at_all}
use Rattle.nm_scan.specs.Found.{AreKnown, HasFound, HasFoundBatch, HasNotedAll, HasNotedSome, InBatch, IsBegun, IsClosed, StopsFinding, lacks_all, paths_found}
use Rattle.nm_scan.specs.declared.files.Lacks.{Lacks}
use Rattle.nm_scan.specs.FileReads.{AsksOnce, NotesReads, after_reads, full_answers, read_with}

abbrev Found : Type 0
Found = List (List ℕ × Got)

-- what was found

pub one_found : (old new : ObservedMail) (path : List ℕ) (got : Got) → IfSome old.tree (λ t. got ≡ got_of t path max_mail_bytes) → new.tree ≡ old.tree → new.reads ≡ read_with old.reads (path ∷ []) → new.faults ≡ old.faults
    → HasFound old new ((path, got) ∷ [])
one_found old new path got told tree reads faults = record { told = (told, tt); mail = same_mail new (after_reads old (path ∷ [])) tree reads faults }

pub none_found : (mail : ObservedMail) → HasFound mail mail []
none_found mail = record { told = tt; mail = same_mail mail (after_reads mail []) refl (read_with-none mail.reads) refl }

pub paths-more : (xs ys : Found) → paths_found (xs ++ ys) ≡ paths_found xs ++ paths_found ys
paths-more xs ys = map-append (λ (one : List ℕ × Got). one.0) xs ys

more_found : (m0 m1 m2 : ObservedMail) (xs ys : Found) → HasFound m0 m1 xs → HasFound m1 m2 ys → HasFound m0 m2 (xs ++ ys)
more_found m0 m1 m2 xs ys h k =
    let tree : m1.tree ≡ m0.tree = ap (λ (m : ObservedMail). m.tree) h.mail in
    record {
      told = AllByRecursion-append (λ (one : List ℕ × Got). IfSome m0.tree (λ t. one.1 ≡ got_of t one.0 max_mail_bytes)) xs ys h.told (subst (λ (t : Option Tree). AreKnown t ys) tree k.told);
      mail = k.mail ∙ (ap (λ (m : ObservedMail). after_reads m (paths_found ys)) h.mail
          ∙ (ap (λ (r : Option (List (List ℕ))). record { tree = m0.tree; reads = r; faults = m0.faults }) (read_with-more m0.reads (paths_found xs) (paths_found ys))
          ∙ ap (after_reads m0) (sym (paths-more xs ys))));
    }

-- of at most one path
take-once : (n : ℕ) (x : List ℕ) (xs : List (List ℕ)) → n ≤ 1 → take n (x ∷ xs) ≡ take n (x ∷ [])
take-once zero x xs few = refl
take-once (suc zero) x xs few = refl
take-once (suc (suc n)) x xs few = absurd (omega arith)

-- of a path more
len-more : (t : Tree) (read : List (List ℕ)) (path : List ℕ) → len_at_all t (read ++ path ∷ []) ≡ len_at_all t read + len_at t path
len-more t [] path = omega arith
len-more t (first ∷ read) path = omega (arith, len-more t read path)

all_bytes : (tree : Option Tree) (bytes : ℕ) → bytes ≡ full_bytes → IfSome tree (λ t. bytes ≡ full_bytes - len_at_all t [])
all_bytes None bytes is = tt
all_bytes (Some t) bytes is = omega (arith, is)

fewer_bytes : (tree : Option Tree) (read : List (List ℕ)) (path : List ℕ) (bytes len less : ℕ) → less ≡ bytes - len → IfSome tree (λ t. bytes ≡ full_bytes - len_at_all t read) → IfSome tree (λ t. len ≡ len_at t path)
    → IfSome tree (λ t. less ≡ full_bytes - len_at_all t (read ++ path ∷ []))
fewer_bytes None read path bytes len less is left found = tt
fewer_bytes (Some t) read path bytes len less is left found = omega (arith, is, left, found, len-more t read path)

small-by : (tree : Option Tree) (read : List (List ℕ)) (bytes : ℕ) → 0 < bytes → IfSome tree (λ t. bytes ≡ full_bytes - len_at_all t read) → IfSome tree (λ t. len_at_all t read < full_bytes)
small-by None read bytes some left = tt
small-by (Some t) read bytes some left = omega (arith, some, left)

large-by : (tree : Option Tree) (read : List (List ℕ)) (bytes : ℕ) → bytes ≡ 0 → IfSome tree (λ t. bytes ≡ full_bytes - len_at_all t read) → IfSome tree (λ t. full_bytes ≤ len_at_all t read)
large-by None read bytes none left = tt
large-by (Some t) read bytes none left = omega (arith, none, left)

-- it begins
pub in_batch : (mail : ObservedMail) (paths : List (List ℕ)) → InBatch mail mail paths paths [] lacks_all
in_batch mail paths = record { paths_are = refl; all = none_found mail; answers_left = refl; bytes_left = all_bytes mail.tree full_bytes refl; begun = inl (refl, refl) }

pub long_found : (found : Found) → length (paths_found found) ≡ length found
long_found found = length-map found (λ (one : List ℕ × Got). one.0)

module _ (m0 m1 : ObservedMail) (paths rest : List (List ℕ)) (found : Found) (lacks : Lacks) (h : InBatch m0 m1 paths rest found lacks) where
  same_tree : m1.tree ≡ m0.tree
  same_tree = ap (λ (m : ObservedMail). m.tree) h.all.mail

  long : length (paths_found found) ≡ length found
  long = long_found found

  open-by : 0 < lacks.answers → 0 < lacks.bytes → IsOpen m0.tree (paths_found found)
  open-by few small = record { few = omega (arith, few, h.answers_left, long); small = small-by m0.tree (paths_found found) lacks.bytes small h.bytes_left }

  -- it goes on by a path
  pub next_in_batch : (m2 : ObservedMail) (path : List ℕ) (left : List (List ℕ)) (after : Found) (len : ℕ) (less : Lacks) → rest ≡ path ∷ left → 0 < lacks.answers → 0 < lacks.bytes
      → less.answers ≡ lacks.answers - 1 → less.bytes ≡ lacks.bytes - len → ((got : Got) × (after ≡ found ++ (path, got) ∷ []) × HasFound m1 m2 ((path, got) ∷ [])) → IfSome m1.tree (λ t. len ≡ len_at t path)
      → InBatch m0 m2 paths left after less
  next_in_batch m2 path left after len less next few small fewer smaller one told =
      let paths_after : paths_found (found ++ (path, one.0) ∷ []) ≡ paths_found found ++ path ∷ [] = paths-more found ((path, one.0) ∷ []) in
      subst (λ (l : Found). InBatch m0 m2 paths left l less) (sym one.1) (record {
        paths_are = h.paths_are ∙ (ap (λ (l : List (List ℕ)). paths_found found ++ l) next ∙ (sym (append_assoc (paths_found found) (path ∷ []) left)
            ∙ ap (λ (l : List (List ℕ)). l ++ left) (sym paths_after)));
        all = more_found m0 m1 m2 found ((path, one.0) ∷ []) h.all one.2;
        answers_left = omega (arith, h.answers_left, few, fewer, length-append found ((path, one.0) ∷ []));
        bytes_left = subst (λ (l : List (List ℕ)). IfSome m0.tree (λ t. less.bytes ≡ full_bytes - len_at_all t l)) (sym paths_after)
            (fewer_bytes m0.tree (paths_found found) path lacks.bytes len less.bytes smaller h.bytes_left (subst (λ (t : Option Tree). IfSome t (λ t. len ≡ len_at t path)) same_tree told));
        begun = inr (paths_found found, path, paths_after, open-by few small);
      })

  -- it is closed
  closed-by : IsClosed rest lacks → (rest ≡ []) ⊎ ((full_answers ≤ length (paths_found found)) ⊎ IfSome m0.tree (λ t. full_bytes ≤ len_at_all t (paths_found found)))
  closed-by (inl none) = inl none
  closed-by (inr (inl full)) = inr (inl (omega (arith, full, h.answers_left, long)))
  closed-by (inr (inr full)) = inr (inr (large-by m0.tree (paths_found found) lacks.bytes full h.bytes_left))

  never-empty : paths_found found ≡ [] → lacks.bytes ≡ full_bytes → 0 < length paths → IsClosed rest lacks → ⊥
  never-empty none all some (inl no_rest) =
      let lengths : length paths ≡ length (paths_found found) + length rest = ap length h.paths_are ∙ length-append (paths_found found) rest in
      omega (arith, some, lengths, ap length none, ap length no_rest)
  never-empty none all some (inr (inl full)) = omega (arith, full, h.answers_left, ap length none, long)
  never-empty none all some (inr (inr full)) = omega (arith, full, all)

  batch-by : IsBegun m0.tree (paths_found found) lacks.bytes → 0 < length paths → IsClosed rest lacks → IsBatch m0.tree (paths_found found) rest
  batch-by (inl (none, all)) some why = absurd (never-empty none all some why)
  batch-by (inr (before, last, is, was)) some why = record { before = before; last = last; read_are = is; was_open = was; closed = closed-by why }

  pub closed_batch : 0 < length paths → IsClosed rest lacks → HasFoundBatch m0 m1 paths rest found
  closed_batch some why = record { paths_are = h.paths_are; batch = batch-by h.begun some why; all = h.all }

  -- the reading stops at a path
  pub stops_finding : (m2 : ObservedMail) (path : List ℕ) (left : List (List ℕ)) → rest ≡ path ∷ left → 0 < lacks.answers → 0 < lacks.bytes → AsksOnce m1 m2 path → StopsFinding m0 m2 paths found
  stops_finding m2 path left next few small asks =
      let read : List (List ℕ) = paths_found found in
      let paths_are : paths ≡ read ++ path ∷ left = h.paths_are ∙ ap (λ (l : List (List ℕ)). read ++ l) next in
      let front : read ≡ take (length read) paths = sym (take-append_seam read (path ∷ left)) ∙ sym (ap (take (length read)) paths_are) in
      let once : take asks.asked (path ∷ left) ≡ take asks.asked (path ∷ []) = take-once asks.asked path left asks.once in
      let asked : read ++ take asks.asked (path ∷ []) ≡ take (length read + asks.asked) paths =
      ap (λ (l : List (List ℕ)). read ++ l) (sym once) ∙ (sym (take-append-add read (path ∷ left) asks.asked) ∙ sym (ap (take (length read + asks.asked)) paths_are)) in
      record {
        asked = length read + asks.asked;
        within = omega (arith, asks.once, ap length paths_are ∙ length-append read (path ∷ left));
        last = (omega (arith, long), omega (arith, long, asks.once, few, h.answers_left));
        front = front ∙ ap (λ (n : ℕ). take n paths) long;
        told = h.all.told;
        read = asks.read ∙ (ap (λ (m : ObservedMail). read_with m.reads (take asks.asked (path ∷ []))) h.all.mail ∙ (read_with-more m0.reads read (take asks.asked (path ∷ [])) ∙ ap (read_with m0.reads) asked));
        tree = asks.tree ∙ same_tree;
        is_open = open-by few small;
      }

-- what was found is noted

small_front : (tree : Option Tree) (xs ys : List (List ℕ)) → IfSome tree (λ t. len_at_all t (xs ++ ys) < full_bytes) → IfSome tree (λ t. len_at_all t xs < full_bytes)
small_front None xs ys small = tt
small_front (Some t) xs ys small = omega (arith, small, len-front t xs ys)

pub open_front : (tree : Option Tree) (xs ys : List (List ℕ)) → IsOpen tree (xs ++ ys) → IsOpen tree xs
open_front tree xs ys h = record { few = omega (arith, h.few, length-append xs ys); small = small_front tree xs ys h.small }

pub open_take : (tree : Option Tree) (xs : List (List ℕ)) (n : ℕ) → IsOpen tree xs → IsOpen tree (take n xs)
open_take tree xs n h = open_front tree (take n xs) (drop n xs) (subst (IsOpen tree) (sym (take-append-drop n xs)) h)

-- all of a batch
pub batch_noted : (m0 m1 : ObservedMail) (n0 n1 : List Given) (paths rest : List (List ℕ)) (found : Found) (added : List (List ℕ × Facts)) → HasFoundBatch m0 m1 paths rest found → HasNotedAll found n0 n1 added
    → HasReadBatch m0 m1 n0 n1 paths rest added
batch_noted m0 m1 n0 n1 paths rest found added h k = record {
  read = paths_found found;
  paths_are = h.paths_are;
  batch = h.batch;
  all = record { given = k.given; given_is = k.given_is; reading = k.reading m0.tree h.all.told; mail = h.all.mail };
}

-- fewer than all of a batch
module _ (m0 m1 : ObservedMail) (n0 n1 : List Given) (paths rest : List (List ℕ)) (found : Found) (h : HasFoundBatch m0 m1 paths rest found) (k : HasNotedSome found n0 n1) where
  read_len : length (paths_found found) ≡ length found
  read_len = long_found found

  batch_len : length found ≡ length h.batch.before + 1
  batch_len = sym read_len ∙ (ap length h.batch.read_are ∙ length-append h.batch.before (h.batch.last ∷ []))

  some_len : ((k.answered ≡ 0) ⊎ (k.answered < length found)) → k.answered ≤ length h.batch.before
  some_len (inl none) = omega (arith, none)
  some_len (inr some) = omega (arith, some, batch_len)

  before_front : take k.answered (paths_found found) ≡ take k.answered h.batch.before
  before_front = ap (take k.answered) h.batch.read_are ∙ take-append-le k.answered h.batch.before (h.batch.last ∷ []) (some_len k.some)

  paths_front : take k.answered paths ≡ take k.answered (paths_found found)
  paths_front = ap (take k.answered) h.paths_are ∙ take-append-le k.answered (paths_found found) rest (omega (arith, some_len k.some, batch_len, read_len))

  asked_are : paths_found found ≡ take (length found) paths
  asked_are = sym (take-append_seam (paths_found found) rest) ∙ (sym (ap (take (length (paths_found found))) h.paths_are) ∙ ap (λ (n : ℕ). take n paths) read_len)

  pub batch_stops : StopsInBatch m0 m1 n0 n1 paths
  batch_stops = record {
    first = record {
      given = k.given;
      given_is = k.given_is;
      reading = record {
        answered = k.answered;
        asked = length found;
        within = omega (arith, ap length h.paths_are ∙ length-append (paths_found found) rest, read_len);
        last = (omega (arith, some_len k.some, batch_len), omega (arith, batch_len, h.batch.was_open.few));
        notes = subst (λ (l : List (List ℕ)). NotesReads m0.tree k.given l) (sym paths_front) (k.reading m0.tree h.all.told);
        read = ap (λ (m : ObservedMail). m.reads) h.all.mail ∙ ap (read_with m0.reads) asked_are;
      };
      tree = ap (λ (m : ObservedMail). m.tree) h.all.mail;
    };
    few = omega (arith, batch_len, h.batch.was_open.few);
    is_open = subst (IsOpen m0.tree) (sym (paths_front ∙ before_front)) (open_take m0.tree h.batch.before k.answered h.batch.was_open);
  }

-- what was found before the reading stopped
module _ (m0 m1 : ObservedMail) (n0 n1 : List Given) (paths : List (List ℕ)) (found : Found) (h : StopsFinding m0 m1 paths found) where
  stop_at : (answered : ℕ) (given : List Given) → answered ≤ length found → n1 ≡ n0 ++ given → NotesReads m0.tree given (take answered (paths_found found)) → StopsInBatch m0 m1 n0 n1 paths
  stop_at answered given few given_is notes =
      let parts : paths ≡ take (length found) paths ++ drop (length found) paths = sym (take-append-drop (length found) paths) in
      let whole : paths ≡ paths_found found ++ drop (length found) paths = parts ∙ ap (λ (l : List (List ℕ)). l ++ drop (length found) paths) (sym h.front) in
      let front : take answered paths ≡ take answered (paths_found found) =
      ap (take answered) whole ∙ take-append-le answered (paths_found found) (drop (length found) paths) (omega (arith, few, long_found found)) in
      record {
        first = record {
          given = given;
          given_is = given_is;
          reading = record {
            answered = answered;
            asked = h.asked;
            within = h.within;
            last = (omega (arith, few, h.last.0), omega (arith, h.last.1));
            notes = subst (λ (l : List (List ℕ)). NotesReads m0.tree given l) (sym front) notes;
            read = h.read;
          };
          tree = h.tree;
        };
        few = h.last.1;
        is_open = subst (IsOpen m0.tree) (sym front) (open_take m0.tree (paths_found found) answered h.is_open);
      }

  some_few : (answered : ℕ) → (answered ≡ 0) ⊎ (answered < length found) → answered ≤ length found
  some_few answered (inl none) = omega (arith, none)
  some_few answered (inr some) = omega (arith, some)

  pub stops_noted : (result : Result (List (List ℕ × Facts)) NoMemory) → IfOk result (HasNotedAll found n0 n1) → OnErr result (HasNotedSome found n0 n1) → StopsInBatch m0 m1 n0 n1 paths
  stops_noted (Ok added) ok err =
      let all : take (length found) (paths_found found) ≡ paths_found found = ap (λ (n : ℕ). take n (paths_found found)) (sym (long_found found)) ∙ take-length (paths_found found) in
      stop_at (length found) ok.given (omega arith) ok.given_is (subst (λ (l : List (List ℕ)). NotesReads m0.tree ok.given l) (sym all) (ok.reading m0.tree h.told).notes)
  stops_noted (Err error) ok err = stop_at err.answered err.given (some_few err.answered err.some) err.given_is (err.reading m0.tree h.told)
