-- Batches one after the other.
-- For the proofs of `a_batch_more_is_read`, `a_batch_that_stops_is_unfinished`, `batches_are_finished` and others.
use Rattle.std.proofs.Common.{◌≡◌, ◌⊎◌, inl, inr, ℕ, ◌+◌, ◌<◌, ◌≤◌, List, [], ◌∷◌, ◌++◌, Option, None, Some, IfSome, length, take, refl, sym, ap, ◌∙◌, subst, append-nil, append_assoc, length-append, arith}
use Rattle.std.proofs.Math.Seq.{take-append-add, take-append_seam}
use Rattle.std.proofs.lemmas.Grind.{flat_map-append}
use Rattle.nm_base.specs.Limits.{full_bytes}
use Rattle.nm_base.specs.declared.facts.Facts.{Facts}
use Rattle.nm_maildir.specs.Observed.{ObservedMail}
use Rattle.nm_maildir.specs.Tree.{Tree}
use Rattle.nm_maildir.specs.declared.given.Given.{Given}
use Rattle.nm_model_plan.specs.Plan.{all_added}
use Rattle.nm_scan.proofs.ReadLemmas.{NotesReads-append, Reads-append, begun_read, more_read, no_added, notes-none, read_with-more}
use Rattle.nm_scan.specs.Batches.{HasReadBatch, HasReadBatches, HasReadSome, IsBatch, IsFull, IsOpen, IsUnfinished, ReadsBatches, StopsInBatch, len_at_all}
use Rattle.nm_scan.specs.FileReads.{HasReadAll, NotesReads, Reads, full_answers, read_with}

abbrev Batches : Type 0
Batches = List (List (List ℕ × Facts))

-- the batches in one
none_read : (tree : Option Tree) (given : List Given) → given ≡ [] → Reads tree given [] []
none_read tree given none = subst (λ (l : List Given). Reads tree l [] []) (sym none) (record { notes = notes-none tree; mails = refl; dated = tt; told = no_added tree })

pub in-one : (tree : Option Tree) (given : List Given) (paths : List (List ℕ)) (batches : Batches) (left : List (List ℕ)) → ReadsBatches tree given paths batches left
    → (read : List (List ℕ)) × (paths ≡ read ++ left) × Reads tree given read (all_added batches)
in-one tree given paths [] left h = ([], sym h.1, none_read tree given h.0)
in-one tree given paths (added ∷ more) left (read, rest, answers, others, paths_are, given_is, batch, reads, behind) =
    let all = in-one tree others rest more left behind in (
      read ++ all.0,
      paths_are ∙ (ap (λ (l : List (List ℕ)). read ++ l) all.1 ∙ sym (append_assoc read all.0 left)),
      subst (λ (l : List Given). Reads tree l (read ++ all.0) (added ++ all_added more)) (sym given_is) (Reads-append tree answers others read all.0 added (all_added more) reads all.2),
    )

-- few small files are one batch

pub len-front : (t : Tree) (read rest : List (List ℕ)) → len_at_all t read ≤ len_at_all t (read ++ rest)
len-front t [] rest = omega arith
len-front t (path ∷ read) rest = omega (arith, len-front t read rest)

no_more : (tree : Option Tree) (given : List Given) (batches : Batches) (left : List (List ℕ)) → ReadsBatches tree given [] batches left → length batches ≡ 0
no_more tree given [] left h = refl
no_more tree given (added ∷ more) left (read, rest, answers, others, paths_are, given_is, batch, reads, behind) =
    absurd (omega (arith, ap length paths_are ∙ length-append read rest, ap length batch.read_are ∙ length-append batch.before (batch.last ∷ [])))

closed-last : (t : Tree) (read rest : List (List ℕ)) → length (read ++ rest) < full_answers → len_at_all t (read ++ rest) < full_bytes → (rest ≡ []) ⊎ IsFull (Some t) read → rest ≡ []
closed-last t read rest few small (inl none) = none
closed-last t read rest few small (inr (inl many)) = absurd (omega (arith, many, few, length-append read rest))
closed-last t read rest few small (inr (inr large)) = absurd (omega (arith, large, small, len-front t read rest))

pub one-batch : (t : Tree) (given : List Given) (paths : List (List ℕ)) (batches : Batches) → 0 < length paths → length paths < full_answers → len_at_all t paths < full_bytes → ReadsBatches (Some t) given paths batches []
    → length batches ≡ 1
one-batch t given paths [] some few small h = absurd (omega (arith, some, ap length h.1))
one-batch t given paths (added ∷ more) some few small (read, rest, answers, others, paths_are, given_is, batch, reads, behind) =
    let none : rest ≡ [] = closed-last t read rest (subst (λ (l : List (List ℕ)). length l < full_answers) paths_are few) (subst (λ (l : List (List ℕ)). len_at_all t l < full_bytes) paths_are small) batch.closed in
    omega (arith, no_more (Some t) others more [] (subst (λ (l : List (List ℕ)). ReadsBatches (Some t) others l more []) none behind))

-- a batch more

after_batches : (tree : Option Tree) (given : List Given) (paths : List (List ℕ)) (batches : Batches) (left : List (List ℕ)) (answers : List Given) (read rest : List (List ℕ)) (added : List (List ℕ × Facts))
    → ReadsBatches tree given paths batches left → left ≡ read ++ rest → IsBatch tree read rest → Reads tree answers read added → ReadsBatches tree (given ++ answers) paths (batches ++ added ∷ []) rest
after_batches tree given paths [] left answers read rest added h next batch reads =
    (read, rest, answers, [], sym h.1 ∙ next, ap (λ (l : List Given). l ++ answers) h.0 ∙ sym (append-nil answers), batch, reads, (refl, refl))
after_batches tree given paths (first ∷ more) left answers read rest added (read0, rest0, answers0, others0, paths_are, given_is, batch0, reads0, behind) next batch reads = (
  read0,
  rest0,
  answers0,
  others0 ++ answers,
  paths_are,
  ap (λ (l : List Given). l ++ answers) given_is ∙ append_assoc answers0 others0 answers,
  batch0,
  reads0,
  after_batches tree others0 rest0 more left answers read rest added behind next batch reads,
)

pub no-batches : (mail : ObservedMail) (given : List Given) (paths : List (List ℕ)) → HasReadBatches mail mail given given paths [] paths
no-batches mail given paths = record { read = []; paths_are = refl; all = begun_read mail given [] refl; reading = (refl, refl) }

pub more-batches : (m0 m1 m2 : ObservedMail) (n0 n1 n2 : List Given) (paths : List (List ℕ)) (batches : Batches) (left rest : List (List ℕ)) (added : List (List ℕ × Facts)) → HasReadBatches m0 m1 n0 n1 paths batches left
    → HasReadBatch m1 m2 n1 n2 left rest added → HasReadBatches m0 m2 n0 n2 paths (batches ++ added ∷ []) rest
more-batches m0 m1 m2 n0 n1 n2 paths batches left rest added h k =
    let tree : m1.tree ≡ m0.tree = ap (λ (m : ObservedMail). m.tree) h.all.mail in
    let both : HasReadAll m0 m2 n0 n2 (h.read ++ k.read) (all_added batches ++ added) = more_read m0 m1 m2 n0 n1 n2 h.read k.read (all_added batches) added h.all k.all in
    let mails : all_added (batches ++ added ∷ []) ≡ all_added batches ++ added =
    flat_map-append (λ (l : List (List ℕ × Facts)). l) batches (added ∷ []) ∙ ap (λ (l : List (List ℕ × Facts)). all_added batches ++ l) (append-nil added) in
    record {
      read = h.read ++ k.read;
      paths_are = h.paths_are ∙ (ap (λ (l : List (List ℕ)). h.read ++ l) k.paths_are ∙ sym (append_assoc h.read k.read rest));
      all = record {
        given = h.all.given ++ k.all.given;
        given_is = both.given_is;
        reading = subst (λ (l : List (List ℕ × Facts)). Reads m0.tree (h.all.given ++ k.all.given) (h.read ++ k.read) l) (sym mails) both.reading;
        mail = both.mail;
      };
      reading = after_batches m0.tree h.all.given paths batches left k.all.given k.read rest added h.reading k.paths_are
          (subst (λ (t : Option Tree). IsBatch t k.read rest) tree k.batch) (subst (λ (t : Option Tree). Reads t k.all.given k.read added) tree k.all.reading);
    }

-- what was read so far

pub none_small : (tree : Option Tree) → IfSome tree (λ t. len_at_all t [] < full_bytes)
none_small None = tt
none_small (Some t) = omega arith

none_unfinished : (tree : Option Tree) (left : List (List ℕ)) → IsUnfinished tree [] left
none_unfinished tree left = record { answered = 0; notes = notes-none tree; is_open = record { few = omega arith; small = none_small tree } }

pub finished : (m0 m1 : ObservedMail) (n0 n1 : List Given) (paths : List (List ℕ)) (batches : Batches) (left : List (List ℕ)) → HasReadBatches m0 m1 n0 n1 paths batches left → HasReadSome m0 m1 n0 n1 paths batches left
finished m0 m1 n0 n1 paths batches left h =
    let front : h.read ≡ take (length h.read) paths = sym (take-append_seam h.read left) ∙ sym (ap (take (length h.read)) h.paths_are) in
    record {
      answers = h.all.given;
      further = [];
      given_is = h.all.given_is ∙ ap (λ (l : List Given). n0 ++ l) (sym (append-nil h.all.given));
      reading = h.reading;
      unfinished = none_unfinished m0.tree left;
      first = record {
        given = h.all.given;
        given_is = h.all.given_is;
        reading = record {
          answered = length h.read;
          asked = length h.read;
          within = omega (arith, ap length h.paths_are ∙ length-append h.read left);
          last = (omega arith, omega arith);
          notes = subst (λ (l : List (List ℕ)). NotesReads m0.tree h.all.given l) front h.all.reading.notes;
          read = ap (λ (m : ObservedMail). m.reads) h.all.mail ∙ ap (read_with m0.reads) front;
        };
        tree = ap (λ (m : ObservedMail). m.tree) h.all.mail;
      };
      few = omega (arith, ap length h.paths_are ∙ length-append h.read left);
    }

pub unfinished : (m0 m1 m2 : ObservedMail) (n0 n1 n2 : List Given) (paths : List (List ℕ)) (batches : Batches) (left : List (List ℕ)) → HasReadBatches m0 m1 n0 n1 paths batches left → StopsInBatch m1 m2 n1 n2 left
    → HasReadSome m0 m2 n0 n2 paths batches left
unfinished m0 m1 m2 n0 n1 n2 paths batches left h k =
    let tree : m1.tree ≡ m0.tree = ap (λ (m : ObservedMail). m.tree) h.all.mail in
    let reading = k.first.reading in
    let answered = reading.answered in
    let asked = reading.asked in
    let answers : h.read ++ take answered left ≡ take (length h.read + answered) paths = sym (take-append-add h.read left answered) ∙ sym (ap (take (length h.read + answered)) h.paths_are) in
    let asks : h.read ++ take asked left ≡ take (length h.read + asked) paths = sym (take-append-add h.read left asked) ∙ sym (ap (take (length h.read + asked)) h.paths_are) in
    let notes : NotesReads m0.tree k.first.given (take answered left) = subst (λ (t : Option Tree). NotesReads t k.first.given (take answered left)) tree reading.notes in
    let given_is : n2 ≡ n0 ++ (h.all.given ++ k.first.given) = k.first.given_is ∙ (ap (λ (l : List Given). l ++ k.first.given) h.all.given_is ∙ append_assoc n0 h.all.given k.first.given) in
    record {
      answers = h.all.given;
      further = k.first.given;
      given_is = given_is;
      reading = h.reading;
      unfinished = record { answered = answered; notes = notes; is_open = subst (λ (t : Option Tree). IsOpen t (take answered left)) tree k.is_open };
      first = record {
        given = h.all.given ++ k.first.given;
        given_is = given_is;
        reading = record {
          answered = length h.read + answered;
          asked = length h.read + asked;
          within = omega (arith, reading.within, ap length h.paths_are ∙ length-append h.read left);
          last = (omega (arith, reading.last.0), omega (arith, reading.last.1));
          notes = subst (λ (l : List (List ℕ)). NotesReads m0.tree (h.all.given ++ k.first.given) l) answers
              (NotesReads-append m0.tree h.all.given k.first.given h.read (take answered left) h.all.reading.notes notes);
          read = reading.read ∙ (ap (λ (m : ObservedMail). read_with m.reads (take asked left)) h.all.mail ∙ (read_with-more m0.reads h.read (take asked left) ∙ ap (read_with m0.reads) asks));
        };
        tree = k.first.tree ∙ tree;
      };
      few = omega (arith, k.few, ap length h.paths_are ∙ length-append h.read left);
    }
