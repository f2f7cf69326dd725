-- What a scan asks, notes and finds, from its parts. For the proofs of `compare`, `removed_ids`, `side_by_side` and others.
use Rattle.std.proofs.Common.{◌≡◌, inr, ℕ, ◌<◌, Bool, true, false, ◌||◌, ◌&&◌, ◌==◌, not, cond, length, List, [], ◌∷◌, ◌++◌, Option, None, Some, Ok, IfSome, filter, take, refl, sym, ap, ◌∙◌, subst, append-nil, arith}
use Rattle.nm_model_answer.specs.NewText.{gone}
use Rattle.std.specs.Cmp.Lexicographic.{nat_list_eq_equiv}
use Rattle.std.proofs.Math.Bool.{or-true}
use Rattle.std.proofs.lemmas.Bool.{eqb-true}
use Rattle.nm_base.specs.Limits.{full_bytes}
use Rattle.nm_base.specs.Order.{IsSorted, has_text, same_text, sorted}
use Rattle.nm_base.specs.SetLaws.{has_text-filter, has_text-sorted}
use Rattle.nm_base.specs.declared.facts.Facts.{Facts}
use Rattle.nm_commit.specs.Files.{has_path, paths_of}
use Rattle.nm_maildir.specs.Observed.{ObservedMail}
use Rattle.nm_maildir.specs.Tree.{Tree}
use Rattle.nm_maildir.specs.declared.given.Given.{Given}
use Rattle.nm_maildir.specs.declared.given.Given.TheVariants as givens
use Rattle.nm_model_plan.specs.Plan.{message_ids, removed_files, to_read}
use Rattle.nm_scan.specs.Walk.{scanned}
use Rattle.nm_scan.specs.Batches.{HasReadSome, IsUnfinished, ReadsBatches}
use Rattle.nm_scan.specs.FileReads.{NotesReads, answers_at, read_with}
use Rattle.nm_scan.specs.Scan.{AsksNew}
use Rattle.nm_sync.proofs.NotedLemmas.{since-then}
use Rattle.nm_sync.proofs.SameLemmas.{paths-are}
use Rattle.nm_sync.specs.Listed.{HasListed}
use Rattle.nm_sync.specs.Noted.{since}
use Rattle.nm_sync.specs.declared.comparison.Compared.{Compared}

-- the mail folder that tells the same
pub same_mail : (a b : ObservedMail) → a.tree ≡ b.tree → a.reads ≡ b.reads → a.faults ≡ b.faults → a ≡ b
same_mail a b tree reads faults =
    ap (λ (t : Option Tree). record { tree = t; reads = a.reads; faults = a.faults }) tree
    ∙ (ap (λ (r : Option (List (List ℕ))). record { tree = b.tree; reads = r; faults = a.faults }) reads
    ∙ ap (λ (n : ℕ). record { tree = b.tree; reads = b.reads; faults = n }) faults)

no_answers : (tree : Option Tree) → IfSome tree (λ t. [] ≡ answers_at t [])
no_answers None = tt
no_answers (Some t) = refl

none_more : (reads : Option (List (List ℕ))) → reads ≡ read_with reads []
none_more None = refl
none_more (Some paths) = ap Some (sym (append-nil paths))

no_bytes : (tree : Option Tree) → IfSome tree (λ t. 0 < full_bytes)
no_bytes None = tt
no_bytes (Some t) = omega arith

-- nothing is read and nothing more is noted
read_none : (mail : ObservedMail) (given : List Given) (paths : List (List ℕ)) → HasReadSome mail mail given given paths [] paths
read_none mail given paths =
    let notes : NotesReads mail.tree [] [] = record { reads = []; given_is = refl; each = refl; told = no_answers mail.tree } in
    record {
      answers = [];
      further = [];
      given_is = sym (append-nil given);
      reading = (refl, refl);
      unfinished = record { answered = 0; notes = notes; is_open = record { few = omega arith; small = no_bytes mail.tree } };
      first = record {
        given = [];
        given_is = sym (append-nil given);
        reading = record { answered = 0; asked = 0; within = omega arith; last = (omega arith, omega arith); notes = notes; read = none_more mail.reads };
        tree = refl;
      };
      few = omega arith;
    }

-- the paths of the index, once none is left to look at
pub known-end : (files : List (List ℕ × Facts)) (paths start rest known : List (List ℕ)) → IsSorted paths → ((path : List ℕ) → has_text paths path ≡ has_path files path) → start ≡ paths → rest ≡ []
    → known ++ rest ≡ start → known ≡ sorted (paths_of files)
known-end files paths start rest known rising same begins none so_far =
    sym (append-nil known) ∙ (ap (λ (l : List (List ℕ)). known ++ l) (sym none) ∙ (so_far ∙ (begins ∙ paths-are files paths rising same)))

pub known-rising : (paths start rest known : List (List ℕ)) → IsSorted paths → start ≡ paths → rest ≡ [] → known ++ rest ≡ start → IsSorted known
known-rising paths start rest known rising begins none so_far =
    subst IsSorted (sym (sym (append-nil known) ∙ (ap (λ (l : List (List ℕ)). known ++ l) (sym none) ∙ (so_far ∙ begins)))) rising

-- a path is known where a file of the index is there
known-at : (files : List (List ℕ × Facts)) (path : List ℕ) → has_text (sorted (paths_of files)) path ≡ has_path files path
known-at files path = has_text-sorted (paths_of files) path

filter_by : (p q : List ℕ → Bool) → ((text : List ℕ) → p text ≡ q text) → (texts : List (List ℕ)) → filter p texts ≡ filter q texts
filter_by p q same [] = refl
filter_by p q same (text ∷ texts) =
    ap (λ (b : Bool). cond b (text ∷ filter p texts) (filter p texts)) (same text) ∙ ap (λ (l : List (List ℕ)). cond (q text) (text ∷ l) l) (filter_by p q same texts)

-- what is listed and not known is to be read
pub unknown-are : (files : List (List ℕ × Facts)) (listed known paths others found : List (List ℕ)) → known ≡ sorted (paths_of files) → paths ≡ listed → others ≡ known
    → found ≡ filter (λ path. not (has_text others path)) paths → found ≡ to_read files listed
unknown-are files listed known paths others found is paths_are others_are found_is =
    found_is
    ∙ (ap (λ (l : List (List ℕ)). filter (λ path. not (has_text l path)) paths) (others_are ∙ is)
    ∙ (filter_by (λ path. not (has_text (sorted (paths_of files)) path)) (λ path. not (has_path files path)) (λ path. ap not (known-at files path)) paths
    ∙ ap (to_read files) paths_are))

-- what is known and not listed is missing
pub gone-are : (files : List (List ℕ × Facts)) (listed known paths others found : List (List ℕ)) → known ≡ sorted (paths_of files) → paths ≡ known → others ≡ listed
    → found ≡ filter (λ path. not (has_text others path)) paths → found ≡ gone files listed
gone-are files listed known paths others found is paths_are others_are found_is =
    found_is ∙ (ap (λ (l : List (List ℕ)). filter (λ path. not (has_text l path)) paths) others_are ∙ ap (filter (λ path. not (has_text listed path))) (paths_are ∙ is))

-- where none is missing, no file is unlisted
is-there : (b : Bool) → not b ≡ false → b ≡ true
is-there true h = refl
is-there false h = absurd cc

listed-at : (files : List (List ℕ × Facts)) (listed : List (List ℕ)) → gone files listed ≡ [] → (path : List ℕ) → has_path files path ≡ true → has_text listed path ≡ true
listed-at files listed none path there =
    let kept = has_text-filter (λ p. not (has_text listed p)) (sorted (paths_of files)) path in
    let out : (has_text (sorted (paths_of files)) path && not (has_text listed path)) ≡ false = sym kept ∙ ap (λ (l : List (List ℕ)). has_text l path) none in
    is-there (has_text listed path) (sym (ap (λ b. b && not (has_text listed path)) (known-at files path ∙ there)) ∙ out)

first-there : (file : List ℕ × Facts) (all : List (List ℕ × Facts)) → has_path (file ∷ all) file.0 ≡ true
first-there file all = ap (λ b. b || has_path all file.0) (nat_list_eq_equiv.refl file.0)

more-there : (file : List ℕ × Facts) (all : List (List ℕ × Facts)) (path : List ℕ) → has_path all path ≡ true → has_path (file ∷ all) path ≡ true
more-there file all path there = ap (λ b. same_text path file.0 || b) there ∙ or-true (same_text path file.0)

unremoved : (files all : List (List ℕ × Facts)) (listed : List (List ℕ)) → ((path : List ℕ) → has_path files path ≡ true → has_text listed path ≡ true)
    → ((path : List ℕ) → has_path all path ≡ true → has_path files path ≡ true) → removed_files all listed ≡ []
unremoved files [] listed are within = refl
unremoved files (file ∷ all) listed are within =
    ap (λ (b : Bool). cond (not b) (file ∷ removed_files all listed) (removed_files all listed)) (are file.0 (within file.0 (first-there file all)))
    ∙ unremoved files all listed are (λ path there. within path (more-there file all path there))

none-of : (texts : List (List ℕ)) → (length texts == 0) ≡ true → texts ≡ []
none-of [] h = refl
none-of (text ∷ texts) h = absurd (let no : length (text ∷ texts) ≡ 0 = eqb-true (length (text ∷ texts)) 0 h in omega arith)

pub none-removed : (files : List (List ℕ × Facts)) (listed away ids : List (List ℕ)) → away ≡ gone files listed → (length away == 0) ≡ true → ids ≡ [] → ids ≡ message_ids (removed_files files listed)
none-removed files listed away ids is none empty =
    empty ∙ sym (ap message_ids (unremoved files files listed (listed-at files listed (sym is ∙ none-of away none)) (λ path there. there)))

-- the listing and the first of the paths were asked
pub asked_reading : (old mid new : ObservedMail) (files : List (List ℕ × Facts)) (before noted0 given : List Given) (listed paths : List (List ℕ)) (batches : List (List (List ℕ × Facts))) (left : List (List ℕ))
    → mid.tree ≡ old.tree → mid.reads ≡ old.reads → noted0 ≡ before ++ givens.Listed listed ∷ []
    → IsSorted listed → IfSome old.tree (λ t. scanned t ≡ Ok listed) → paths ≡ to_read files listed → HasReadSome mid new noted0 given paths batches left → AsksNew old new files (since before given)
asked_reading old mid new files before noted0 given listed paths batches left same_tree same is rising told paths_are h' =
    let h : HasReadSome mid new noted0 given (to_read files listed) batches left = subst (λ (l : List (List ℕ)). HasReadSome mid new noted0 given l batches left) paths_are h' in
    let first = h.first in
    let reading = first.reading in
    inr (record {
      batches = batches;
      left = left;
      found = record {
        listed = listed;
        listing = record { rising = rising; told = told };
        answers = h.answers;
        further = h.further;
        given_is = since-then before noted0 given (givens.Listed listed ∷ []) (h.answers ++ h.further) is h.given_is;
        reading = subst (λ (t : Option Tree). ReadsBatches t h.answers (to_read files listed) batches left) same_tree h.reading;
        unfinished = subst (λ (t : Option Tree). IsUnfinished t h.further left) same_tree h.unfinished;
      };
      answers = first.given;
      given_is = since-then before noted0 given (givens.Listed listed ∷ []) first.given is first.given_is;
      reading = record {
        answered = reading.answered;
        asked = reading.asked;
        within = reading.within;
        last = reading.last;
        notes = subst (λ (t : Option Tree). NotesReads t first.given (take reading.answered (to_read files listed))) same_tree reading.notes;
        read = reading.read ∙ ap (λ (r : Option (List (List ℕ))). read_with r (take reading.asked (to_read files listed))) same;
      };
      few = h.few;
    })

-- the listing alone was asked
pub asked_listing : (old mid : ObservedMail) (files : List (List ℕ × Facts)) (before given : List Given) (listed : List (List ℕ)) → mid.tree ≡ old.tree → mid.reads ≡ old.reads → given ≡ before ++ givens.Listed listed ∷ []
    → IsSorted listed → IfSome old.tree (λ t. scanned t ≡ Ok listed) → AsksNew old mid files (since before given)
asked_listing old mid files before given listed same_tree same is rising told =
    asked_reading old mid mid files before given given listed (to_read files listed) [] (to_read files listed) same_tree same is rising told refl (read_none mid given (to_read files listed))

-- what was listed is compared with the index
pub has_listed : (tree : Option Tree) (files : List (List ℕ × Facts)) (before given : List Given) (listed unknown away ids : List (List ℕ)) → given ≡ before ++ givens.Listed listed ∷ [] → IsSorted listed
    → IfSome tree (λ t. scanned t ≡ Ok listed) → unknown ≡ to_read files listed → away ≡ gone files listed → ids ≡ message_ids (removed_files files listed)
    → HasListed tree files before given (record { unknown = unknown; gone = away; removed_ids = ids })
has_listed tree files before given listed unknown away ids is rising told unknown_are gone_are ids_are = record {
  listed = listed;
  listing = record { rising = rising; told = told };
  given_is = is;
  unknown_are = unknown_are;
  gone_are = gone_are;
  ids_are = ids_are;
}

-- and of what is unknown the first paths were read
pub asks-some : (old new : ObservedMail) (files : List (List ℕ × Facts)) (before noted0 given : List Given) (compared : Compared) (batches : List (List (List ℕ × Facts))) (left : List (List ℕ)) → HasListed old.tree files before noted0 compared
    → HasReadSome old new noted0 given compared.unknown batches left → AsksNew old new files (since before given)
asks-some old new files before noted0 given compared batches left h read =
    asked_reading old old new files before noted0 given h.listed compared.unknown batches left refl refl h.given_is h.listing.rising h.listing.told h.unknown_are read
