-- A batch is read part by part, and each part is classified; where the reading or memory stops it, the first parts are
-- reported.
-- For the proofs of `read_files`, `classify_batch` and `classify_and_read`.
use Rattle.std.proofs.Common.{◌≡◌, ◌⊎◌, inl, inr, ℕ, ◌+◌, ◌-◌, ◌<◌, ◌≤◌, List, [], ◌∷◌, ◌++◌, Option, IfErr, IfOk, IfSome, Result, Ok, Err, false, true, length, take, drop, refl, sym, ap, ◌∙◌, subst, append-nil, append_assoc, length-append, take-append-drop, arith}
use Rattle.std.specs.Prelude.{IsErr, IsOk, OnOk}
use Rattle.std.specs.List.{AllZip}
use Rattle.std.proofs.Math.Seq.{take-append_seam}
use Rattle.std.proofs.lemmas.List.{take-append-le}
use Rattle.std.proofs.lemmas.Slice.Zip.{AllZip-long}
use Rattle.nm_base.specs.declared.memory.NoMemory.{NoMemory}
use Rattle.nm_maildir.specs.Observed.{HasMailCause, ObservedMail}
use Rattle.nm_maildir.specs.Tree.{Tree}
use Rattle.nm_maildir.specs.declared.answers.Got.{Got}
use Rattle.nm_maildir.specs.declared.answers.MailError.{MailError}
use Rattle.nm_scan.proofs.BatchLemmas.{closed_batch, in_batch, long_found, next_in_batch, open_front, open_take, paths-more, stops_finding}
use Rattle.nm_scan.specs.Batches.{IsOpen, len_at}
use Rattle.nm_scan.specs.Found.{AreKnown, HasClassifiedBatch, HasFound, HasFoundBatch, InBatch, IsClassified, IsClosed, IsReading, ReadsOn, StopsClassifying, StopsFinding, lacks_all, paths_found}
use Rattle.nm_scan.specs.FileReads.{AsksOnce, full_answers, read_with}
use Rattle.nm_scan.specs.declared.classes.Classified.{Classified}
use Rattle.nm_scan.specs.declared.files.Lacks.{Lacks}

abbrev Found : Type 0
Found = List (List ℕ × Got)

abbrev Read : Type 0
Read = Result (Unit {0}) MailError

-- the reading goes on

pub begins_reading : (mail : ObservedMail) (paths : List (List ℕ)) → IsReading mail mail paths paths [] lacks_all (Ok tt)
begins_reading mail paths = record { goes_on = in_batch mail paths; stopped = tt; cause = refl }

pub goes_on_reading : (m0 m1 : ObservedMail) (paths rest : List (List ℕ)) (found : Found) (lacks : Lacks) → InBatch m0 m1 paths rest found lacks → IsReading m0 m1 paths rest found lacks (Ok tt)
goes_on_reading m0 m1 paths rest found lacks h = record { goes_on = h; stopped = tt; cause = ap (λ (m : ObservedMail). m.faults) h.all.mail }

-- at a path it stops
pub stops_reading : (m0 m1 m2 : ObservedMail) (paths rest : List (List ℕ)) (found : Found) (lacks less : Lacks) (error : MailError) (path : List ℕ) (left : List (List ℕ)) → InBatch m0 m1 paths rest found lacks
    → rest ≡ path ∷ left → 0 < lacks.answers → 0 < lacks.bytes → AsksOnce m1 m2 path → HasMailCause {T = Unit {0}} m1.faults m2.faults (Err error) → IsReading m0 m2 paths left found less (Err error)
stops_reading m0 m1 m2 paths rest found lacks less error path left h next few small asks cause = record {
  goes_on = tt;
  stopped = stops_finding m0 m1 paths rest found lacks h m2 path left next few small asks;
  cause = subst (λ (n : ℕ). HasMailCause {T = Unit {0}} n m2.faults (Err error)) (ap (λ (m : ObservedMail). m.faults) h.all.mail) cause;
}

-- A part goes on path by path: a batch that went on before it goes on.
pub record GoesOn (m1 m2 : ObservedMail) (rest left : List (List ℕ)) (lacks less : Lacks) (found : List (List ℕ × Got)) : Type 0 where
  pub batch : (first : ObservedMail) (paths : List (List ℕ)) (so_far : List (List ℕ × Got)) → IsReading first m1 paths rest so_far lacks (Ok tt) → InBatch first m2 paths left (so_far ++ found) less

pub no_path_read : (m : ObservedMail) (rest : List (List ℕ)) (lacks : Lacks) (found : Found) → found ≡ [] → GoesOn m m rest rest lacks lacks found
no_path_read m rest lacks found none = record {
  batch = λ first paths so_far h. subst (λ (l : Found). InBatch first m paths rest l lacks) (sym (append-nil so_far) ∙ ap (λ (l : Found). so_far ++ l) (sym none)) h.goes_on;
}

module _ (m1 m2 m3 : ObservedMail) (rest left after : List (List ℕ)) (lacks less : Lacks) (found : Found) (path : List ℕ) (h : GoesOn m1 m2 rest left lacks less found) (next : left ≡ path ∷ after) (few : 0 < less.answers)
    (small : 0 < less.bytes) where
  pub a_path_more : (more : Found) (len : ℕ) (fewer : Lacks) → fewer.answers ≡ less.answers - 1 → fewer.bytes ≡ less.bytes - len → ((got : Got) × (more ≡ found ++ (path, got) ∷ []) × HasFound m2 m3 ((path, got) ∷ []))
      → IfSome m2.tree (λ t. len ≡ len_at t path) → GoesOn m1 m3 rest after lacks fewer more
  a_path_more more len fewer answers bytes one told = record {
    batch = λ first paths so_far g.
        let is : so_far ++ more ≡ (so_far ++ found) ++ (path, one.0) ∷ [] = ap (λ (l : Found). so_far ++ l) one.1 ∙ sym (append_assoc so_far found ((path, one.0) ∷ [])) in
        next_in_batch first m2 paths left (so_far ++ found) less (h.batch first paths so_far g) m3 path after (so_far ++ more) len fewer next few small answers bytes (one.0, is, one.2) told;
  }

  pub a_path_stops : (same : Found) (fewer : Lacks) (error : MailError) → same ≡ found → AsksOnce m2 m3 path → HasMailCause {T = Unit {0}} m2.faults m3.faults (Err error) → ReadsOn m1 m3 rest after lacks fewer same (Ok tt) (Err error)
  a_path_stops same fewer error is asks cause = record {
    reads = λ first paths so_far g.
        subst (λ (l : Found). IsReading first m3 paths after (so_far ++ l) fewer (Err error)) (sym is)
        (stops_reading first m2 m3 paths left (so_far ++ found) less fewer error path after (h.batch first paths so_far g) next few small asks cause);
  }

pub part_is_read : (m1 m2 : ObservedMail) (rest left after : List (List ℕ)) (lacks less : Lacks) (found : Found) → GoesOn m1 m2 rest left lacks less found → after ≡ left → ReadsOn m1 m2 rest after lacks less found (Ok tt) (Ok tt)
part_is_read m1 m2 rest left after lacks less found h same = record {
  reads = λ first paths so_far g.
      goes_on_reading first m2 paths after (so_far ++ found) less (subst (λ (l : List (List ℕ)). InBatch first m2 paths l (so_far ++ found) less) (sym same) (h.batch first paths so_far g));
}

pub part_is_closed : (most left : ℕ) (rest after : List (List ℕ)) (less : Lacks) → 0 < most → left ≡ most → after ≡ rest → (left ≡ 0) ⊎ IsClosed rest less → IsClosed after less
part_is_closed most left rest after less some whole same (inl none) = absurd (omega (arith, some, whole, none))
part_is_closed most left rest after less some whole same (inr closed) = subst (λ (l : List (List ℕ)). IsClosed l less) (sym same) closed

-- the first of what was found

told_first : (tree : Option Tree) (xs ys : Found) → AreKnown tree (xs ++ ys) → AreKnown tree xs
told_first tree [] ys told = tt
told_first tree (x ∷ xs) ys told = (told.0, told_first tree xs ys told.1)

first_paths : (paths rest : List (List ℕ)) (xs ys : Found) → paths ≡ paths_found (xs ++ ys) ++ rest → paths_found xs ≡ take (length xs) paths
first_paths paths rest xs ys are =
    let parts : paths ≡ paths_found xs ++ (paths_found ys ++ rest) =
    are ∙ (ap (λ (l : List (List ℕ)). l ++ rest) (paths-more xs ys) ∙ append_assoc (paths_found xs) (paths_found ys) rest) in
    sym (take-append_seam (paths_found xs) (paths_found ys ++ rest)) ∙ (sym (ap (take (length (paths_found xs))) parts) ∙ ap (λ (n : ℕ). take n paths) (long_found xs))

module _ (m0 m1 : ObservedMail) (paths : List (List ℕ)) (xs ys : Found) where
  pub stops_sooner : StopsFinding m0 m1 paths (xs ++ ys) → StopsFinding m0 m1 paths xs
  stops_sooner h =
      let whole : paths ≡ paths_found (xs ++ ys) ++ drop (length (xs ++ ys)) paths =
      sym (take-append-drop (length (xs ++ ys)) paths) ∙ ap (λ (l : List (List ℕ)). l ++ drop (length (xs ++ ys)) paths) (sym h.front) in
      record {
        asked = h.asked;
        within = h.within;
        last = (omega (arith, h.last.0, length-append xs ys), h.last.1);
        front = first_paths paths (drop (length (xs ++ ys)) paths) xs ys whole;
        told = told_first m0.tree xs ys h.told;
        read = h.read;
        tree = h.tree;
        is_open = open_front m0.tree (paths_found xs) (paths_found ys) (subst (IsOpen m0.tree) (paths-more xs ys) h.is_open);
      }

  first_open : (rest : List (List ℕ)) (lacks : Lacks) → InBatch m0 m1 paths rest (xs ++ ys) lacks → 0 < length ys → IsOpen m0.tree (paths_found xs)
  first_open rest lacks h some = open_before h.begun
    where
      open_before : ((paths_found (xs ++ ys) ≡ []) × (lacks.bytes ≡ 67108864)) ⊎ ((before : List (List ℕ)) × (last : List ℕ) × (paths_found (xs ++ ys) ≡ before ++ last ∷ []) × IsOpen m0.tree before) → IsOpen m0.tree (paths_found xs)
      open_before (inl (none, all)) = absurd (omega (arith, some, ap length none, long_found (xs ++ ys), length-append xs ys))
      open_before (inr (before, last, are, was)) =
          let long : length (paths_found (xs ++ ys)) ≡ length before + 1 = ap length are ∙ length-append before (last ∷ []) in
          let front : paths_found xs ≡ take (length xs) (paths_found (xs ++ ys)) = first_paths (paths_found (xs ++ ys)) [] xs ys (sym (append-nil (paths_found (xs ++ ys)))) in
          let is : paths_found xs ≡ take (length xs) before =
          front ∙ (ap (take (length xs)) are ∙ take-append-le (length xs) before (last ∷ []) (omega (arith, some, long, long_found (xs ++ ys), length-append xs ys))) in
          subst (IsOpen m0.tree) (sym is) (open_take m0.tree before (length xs) was)

  pub open_sooner : (rest : List (List ℕ)) (lacks : Lacks) → InBatch m0 m1 paths rest (xs ++ ys) lacks → 0 < length ys → StopsFinding m0 m1 paths xs
  open_sooner rest lacks h some =
      let lengths : length paths ≡ length (paths_found (xs ++ ys)) + length rest = ap length h.paths_are ∙ length-append (paths_found (xs ++ ys)) rest in
      let all : paths_found (xs ++ ys) ≡ take (length (xs ++ ys)) paths =
      first_paths paths rest (xs ++ ys) [] (h.paths_are ∙ ap (λ (l : Found). paths_found l ++ rest) (sym (append-nil (xs ++ ys)))) in
      record {
        asked = length (xs ++ ys);
        within = omega (arith, lengths, long_found (xs ++ ys));
        last = (omega (arith, length-append xs ys), omega (arith, h.answers_left));
        front = first_paths paths rest xs ys h.paths_are;
        told = told_first m0.tree xs ys h.all.told;
        read = ap (λ (m : ObservedMail). m.reads) h.all.mail ∙ ap (read_with m0.reads) all;
        tree = ap (λ (m : ObservedMail). m.tree) h.all.mail;
        is_open = first_open rest lacks h some;
      }

-- parts are listed one after the other

told_more : (xs ys : Found) (front more : List Classified) → AllZip IsClassified xs front → AllZip IsClassified ys more → AllZip IsClassified (xs ++ ys) (front ++ more)
told_more [] ys [] more told next = next
told_more [] ys (one ∷ front) more told next = absurd told
told_more (x ∷ xs) ys [] more told next = absurd told
told_more (x ∷ xs) ys (one ∷ front) more told next = (told.0, told_more xs ys front more told.1 next)

-- Parts are classified in turn: those before are reported, and this one is not yet.
pub record IsUnderWay (m0 m1 : ObservedMail) (paths rest : List (List ℕ)) (lacks : Lacks) (found : List (List ℕ × Got)) (all : List Classified) (read : Result (Unit {0}) MailError) : Type 0 where
  pub gone : List (List ℕ × Got)
  pub each : AllZip IsClassified gone all
  pub reading : IsReading m0 m1 paths rest (gone ++ found) lacks read

pub first_part_read : (m0 m1 : ObservedMail) (paths rest : List (List ℕ)) (lacks less : Lacks) (found : Found) (all : List Classified) (read : Read) → lacks ≡ lacks_all → all ≡ [] → ReadsOn m0 m1 paths rest lacks less found (Ok tt) read
    → IsUnderWay m0 m1 paths rest less found all read
first_part_read m0 m1 paths rest lacks less found all read is none reads =
    subst (λ (l : List Classified). IsUnderWay m0 m1 paths rest less found l read) (sym none)
    (record { gone = []; each = tt; reading = reads.reads m0 paths [] (subst (λ (l : Lacks). IsReading m0 m0 paths paths [] l (Ok tt)) (sym is) (begins_reading m0 paths)) })

module _ (m0 m1 m2 : ObservedMail) (paths rest left : List (List ℕ)) (lacks less : Lacks) (found next : Found) (all after : List Classified) (read further : Read) (h : IsUnderWay m0 m1 paths rest lacks found all read)
    (reads : ReadsOn m1 m2 rest left lacks less next read further) where
  further_read : IsReading m0 m2 paths left ((h.gone ++ found) ++ next) less further
  further_read = reads.reads m0 paths (h.gone ++ found) h.reading

  part_told : (more : List Classified) → AllZip IsClassified found more → after ≡ all ++ more → IsUnderWay m0 m2 paths left less next after further
  part_told more told are =
      subst (λ (l : List Classified). IsUnderWay m0 m2 paths left less next l further) (sym are)
      (record { gone = h.gone ++ found; each = told_more h.gone found all more h.each told; reading = further_read })

  pub part_is_told : (classified : Result (List Classified) NoMemory) → IfOk classified (AllZip IsClassified found) → IfOk classified (λ more. after ≡ all ++ more) → IsOk classified
      → IsUnderWay m0 m2 paths left less next after further
  part_is_told (Ok more) told are was_ok = part_told more told are
  part_is_told (Err error) told are was_ok = absurd (let no : false ≡ true = was_ok in cc)

  stops-by : (further : Read) → after ≡ all → 0 < length found → IsReading m0 m2 paths left ((h.gone ++ found) ++ next) less further → StopsClassifying m0 m2 paths after
  stops-by (Ok done) same some g =
      let batch : InBatch m0 m2 paths left (h.gone ++ (found ++ next)) less = subst (λ (l : Found). InBatch m0 m2 paths left l less) (append_assoc h.gone found next) g.goes_on in
      subst (λ (l : List Classified). StopsClassifying m0 m2 paths l) (sym same)
      (record { found = h.gone; stops = open_sooner m0 m2 paths h.gone (found ++ next) left less batch (omega (arith, some, length-append found next)); each = h.each })
  stops-by (Err error) same some g =
      let stops : StopsFinding m0 m2 paths (h.gone ++ (found ++ next)) = subst (λ (l : Found). StopsFinding m0 m2 paths l) (append_assoc h.gone found next) g.stopped in
      subst (λ (l : List Classified). StopsClassifying m0 m2 paths l) (sym same) (record { found = h.gone; stops = stops_sooner m0 m2 paths h.gone (found ++ next) stops; each = h.each })

  -- so the measure of the parts goes down
  pub more_are_told : (classified : Result (List Classified) NoMemory) → IfOk classified (AllZip IsClassified found) → IfOk classified (λ more. after ≡ all ++ more) → IsOk classified
      → length after ≡ length all + length found
  more_are_told (Ok more) told are was_ok = omega (arith, ap length are, length-append all more, AllZip-long IsClassified found more told)
  more_are_told (Err error) told are was_ok = absurd (let no : false ≡ true = was_ok in cc)

  -- memory stops it
  pub part_is_not_told : after ≡ all → 0 < length found → StopsClassifying m0 m2 paths after
  part_is_not_told same some = stops-by further same some further_read

  pub further_cause : HasMailCause m0.faults m2.faults further
  further_cause = further_read.cause

-- what is said of an error
pub if_is_err : {T E : Type 0} (P : Type 0) (result : Result T E) → IsErr result → P → IfErr result (λ _. P)
if_is_err P (Ok done) is p = tt
if_is_err P (Err error) is p = p

-- the reading had not stopped
pub reads_from_ok : (m1 m2 : ObservedMail) (rest left : List (List ℕ)) (lacks less : Lacks) (found : Found) (read further : Read) → read ≡ Ok tt → ReadsOn m1 m2 rest left lacks less found (Ok tt) further
    → ReadsOn m1 m2 rest left lacks less found read further
reads_from_ok m1 m2 rest left lacks less found read further is reads = subst (λ (r : Read). ReadsOn m1 m2 rest left lacks less found r further) (sym is) reads

-- no part is left

module _ (m0 m1 : ObservedMail) (paths rest : List (List ℕ)) (lacks : Lacks) (found : Found) (all : List Classified) where
  whole : (gone : Found) → found ≡ [] → gone ++ found ≡ gone
  whole gone none = ap (λ (l : Found). gone ++ l) none ∙ append-nil gone

  pub batch_is_told : (read : Read) → IsUnderWay m0 m1 paths rest lacks found all read → 0 < length paths → found ≡ [] → OnOk read (found ≡ [] → IsClosed rest lacks) → OnOk read (HasClassifiedBatch m0 m1 paths rest all)
  batch_is_told (Ok done) h some none closed = record {
    found = h.gone;
    batch = subst (λ (l : Found). HasFoundBatch m0 m1 paths rest l) (whole h.gone none) (closed_batch m0 m1 paths rest (h.gone ++ found) lacks h.reading.goes_on some (closed none));
    each = h.each;
  }
  batch_is_told (Err error) h some none closed = tt

  pub stop_is_told : (read : Read) → IsUnderWay m0 m1 paths rest lacks found all read → found ≡ [] → IfErr read (λ _. StopsClassifying m0 m1 paths all)
  stop_is_told (Ok done) h none = tt
  stop_is_told (Err error) h none = record { found = h.gone; stops = subst (λ (l : Found). StopsFinding m0 m1 paths l) (whole h.gone none) h.reading.stopped; each = h.each }

  few-by : (read : Read) (so_far : Found) → IsReading m0 m1 paths rest so_far lacks read → length so_far ≤ full_answers
  few-by (Ok done) so_far h = omega (arith, h.goes_on.answers_left)
  few-by (Err error) so_far h = omega (arith, h.stopped.last.0, h.stopped.last.1)

  -- no more than a batch has
  pub few_are_told : (read : Read) → IsUnderWay m0 m1 paths rest lacks found all read → length all + length found ≤ full_answers
  few_are_told read h = omega (arith, few-by read (h.gone ++ found) h.reading, length-append h.gone found, AllZip-long IsClassified h.gone all h.each)
