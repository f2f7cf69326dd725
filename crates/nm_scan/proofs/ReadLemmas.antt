-- One read after another: what is noted, what has come, and which paths were read.
-- For the proofs of `read_batch` and `read_next`.
use Rattle.std.proofs.Common.{◌≡◌, ℕ, List, [], ◌∷◌, ◌++◌, Option, None, Some, IfErr, IfSome, is_some, Result, Ok, Err, map, refl, sym, ap, ◌∙◌, subst, append-nil, append_assoc, cond, arith}
use Rattle.std.specs.Prelude.{OnErr}
use Rattle.std.specs.List.{AllByRecursion, flat_map}
use Rattle.std.specs.Option.{option_map}
use Rattle.std.proofs.lemmas.Grind.{flat_map-append}
use Rattle.std.proofs.lemmas.List.{map-append}
use Rattle.nm_base.specs.declared.facts.Facts.{Facts}
use Rattle.nm_base.specs.Limits.{IsDate, max_mail_bytes}
use Rattle.nm_commit.specs.Files.{paths_of}
use Rattle.nm_maildir.specs.Observed.{reads_after}
use Rattle.nm_maildir.specs.Tree.{Tree, got_of}
use Rattle.nm_maildir.specs.declared.answers.Got.{Got}
use Rattle.nm_maildir.specs.declared.answers.Got.TheVariants as got
use Rattle.nm_maildir.specs.declared.answers.MailError.{MailError}
use Rattle.nm_maildir.specs.declared.answers.MailError.TheVariants as error
use Rattle.nm_maildir.specs.declared.given.Given.{Given}
use Rattle.nm_maildir.specs.declared.given.Given.TheVariants as givens
use Rattle.nm_maildir.specs.declared.given.ReadAnswer.{ReadAnswer}
use Rattle.nm_maildir.specs.declared.given.ReadAnswer.TheVariants as answers
use Rattle.nm_extract.specs.Mail.{facts_of}
use Rattle.nm_maildir.specs.Observed.{ObservedMail}
use Rattle.nm_model_answer.specs.NewText.{mail_at}
use Rattle.nm_scan.specs.FileReads.{NotesReads, Reads, answer_at, answers_at, answer_of, arrival, arrival_at, arrival_of, mail_in, read_of}
use Rattle.nm_scan.specs.FileReads.{after_reads, read_with}
use Rattle.nm_scan.specs.FileReads.{AsksOnce, HasReadAll, Classifies, found_in}

-- nothing more is read
pub read_with-none : (r : Option (List (List ℕ))) → r ≡ read_with r []
read_with-none None = refl
read_with-none (Some paths) = ap Some (sym (append-nil paths))

-- some paths are read, and then some more
pub read_with-more : (r : Option (List (List ℕ))) (ps qs : List (List ℕ)) → read_with (read_with r ps) qs ≡ read_with r (ps ++ qs)
read_with-more None ps qs = refl
read_with-more (Some paths) ps qs = ap Some (append_assoc paths ps qs)

same_reads : (r : Option (List (List ℕ))) → option_map (λ paths. paths) r ≡ read_with r []
same_reads None = refl
same_reads (Some paths) = ap Some (sym (append-nil paths))

-- the mail folder that tells the same
pub same_mail : (a b : ObservedMail) → a.tree ≡ b.tree → a.reads ≡ b.reads → a.faults ≡ b.faults → a ≡ b
same_mail a b tree reads faults =
    ap (λ (t : Option Tree). record { tree = t; reads = a.reads; faults = a.faults }) tree
    ∙ (ap (λ (r : Option (List (List ℕ))). record { tree = b.tree; reads = r; faults = a.faults }) reads
    ∙ ap (λ (n : ℕ). record { tree = b.tree; reads = b.reads; faults = n }) faults)

pub no_answers : (tree : Option Tree) → IfSome tree (λ t. [] ≡ answers_at t [])
no_answers None = tt
no_answers (Some t) = refl

-- nothing is noted
abbrev pub notes-none : (tree : Option Tree) → NotesReads tree [] []
notes-none tree = record { reads = []; given_is = refl; each = refl; told = no_answers tree }

-- a call that read the path, or found no memory before
pub asked_once : {T : Type 0} (old new : ObservedMail) (path : List ℕ) (result : Result T MailError) → new.tree ≡ old.tree → new.reads ≡ reads_after old.reads path result → AsksOnce old new path
asked_once old new path (Ok x) tree is = record { asked = 1; once = omega arith; read = is; tree = tree }
asked_once old new path (Err error.Failed) tree is = record { asked = 1; once = omega arith; read = is; tree = tree }
asked_once old new path (Err error.NoMemory) tree is = record { asked = 0; once = omega arith; read = is ∙ same_reads old.reads; tree = tree }

-- what is mail is an arrival
found_mail : (path : List ℕ) (found : Option Facts) → paths_of (arrival path found) ≡ mail_at path (cond (is_some found) answers.Mail answers.NotMail)
found_mail path None = refl
found_mail path (Some facts) = refl

mail_is : (path : List ℕ) (g : Got) → paths_of (arrival path (found_in g)) ≡ mail_at path (answer_of g)
mail_is path (got.Found bytes) = found_mail path (facts_of bytes)
mail_is path got.Missing = refl
mail_is path got.TooLong = refl

arrival_is : (path : List ℕ) (g : Got) → arrival path (found_in g) ≡ arrival_of path g
arrival_is path (got.Found bytes) = refl
arrival_is path got.Missing = refl
arrival_is path got.TooLong = refl

dated_one : (path : List ℕ) (found : Option Facts) → IfSome found (λ facts. IsDate facts.date) → AllByRecursion (λ arrival. IsDate arrival.1.date) (arrival path found)
dated_one path None h = tt
dated_one path (Some facts) h = (h, tt)

abbrev single : List ℕ → ReadAnswer → List (List ℕ × ReadAnswer)
single path answer = (path, answer) ∷ []

told_answer : (tree : Option Tree) (path : List ℕ) (g : Got) (answer : ReadAnswer) → answer ≡ answer_of g → IfSome tree (λ t. g ≡ got_of t path max_mail_bytes) → IfSome tree (λ t. single path answer ≡ answers_at t (path ∷ []))
told_answer None path g answer is h = tt
told_answer (Some t) path g answer is h = ap (single path) (is ∙ ap answer_of h)

told_arrival : (tree : Option Tree) (path : List ℕ) (g : Got) (found : Option Facts) → found ≡ found_in g → IfSome tree (λ t. g ≡ got_of t path max_mail_bytes) → IfSome tree (λ t. arrival path found ≡ flat_map (arrival_at t) (path ∷ []))
told_arrival None path g found is h = tt
told_arrival (Some t) path g found is h = ap (arrival path) is ∙ (arrival_is path g ∙ (ap (arrival_of path) h ∙ sym (append-nil (arrival_at t path))))

-- one file was read
pub one_read : (tree : Option Tree) (path : List ℕ) (g : Got) (classified : ReadAnswer × Option Facts) → Classifies g classified → IfSome tree (λ t. g ≡ got_of t path max_mail_bytes)
    → Reads tree (givens.Read path classified.0 ∷ []) (path ∷ []) (arrival path classified.1)
one_read tree path g classified h told = record {
  notes = record { reads = (path, classified.0) ∷ []; given_is = refl; each = refl; told = told_answer tree path g classified.0 h.answer told };
  mails = ap (λ (f : Option Facts). paths_of (arrival path f)) h.facts ∙ (mail_is path g ∙ (ap (mail_at path) (sym h.answer) ∙ sym (append-nil (mail_at path classified.0))));
  dated = dated_one path classified.1 h.dated;
  told = told_arrival tree path g classified.1 h.facts told;
}

pub AllByRecursion-append : {X : Type 0} (P : X → Type 0) (xs ys : List X) → AllByRecursion P xs → AllByRecursion P ys → AllByRecursion P (xs ++ ys)
AllByRecursion-append P [] ys h k = k
AllByRecursion-append P (x ∷ xs) ys h k = (h.0, AllByRecursion-append P xs ys h.1 k)

-- reads one after the other
answers_both : (tree : Option Tree) (xs ys : List (List ℕ × ReadAnswer)) (ps qs : List (List ℕ)) → IfSome tree (λ t. xs ≡ answers_at t ps) → IfSome tree (λ t. ys ≡ answers_at t qs) → IfSome tree (λ t. xs ++ ys ≡ answers_at t (ps ++ qs))
answers_both None xs ys ps qs h k = tt
answers_both (Some t) xs ys ps qs h k = ap (λ l. l ++ ys) h ∙ (ap (λ l. answers_at t ps ++ l) k ∙ sym (map-append (λ p. (p, answer_at t p)) ps qs))

added_both : (tree : Option Tree) (xs ys : List (List ℕ × Facts)) (ps qs : List (List ℕ)) → IfSome tree (λ t. xs ≡ flat_map (arrival_at t) ps) → IfSome tree (λ t. ys ≡ flat_map (arrival_at t) qs) → IfSome tree (λ t. xs ++ ys ≡ flat_map (arrival_at t) (ps ++ qs))
added_both None xs ys ps qs h k = tt
added_both (Some t) xs ys ps qs h k = ap (λ l. l ++ ys) h ∙ (ap (λ l. flat_map (arrival_at t) ps ++ l) k ∙ sym (flat_map-append (arrival_at t) ps qs))

pub NotesReads-append : (tree : Option Tree) (g k : List Given) (ps qs : List (List ℕ)) → NotesReads tree g ps → NotesReads tree k qs → NotesReads tree (g ++ k) (ps ++ qs)
NotesReads-append tree g k ps qs h j = record {
  reads = h.reads ++ j.reads;
  given_is = ap (λ l. l ++ k) h.given_is ∙ (ap (λ l. map read_of h.reads ++ l) j.given_is ∙ sym (map-append read_of h.reads j.reads));
  each = map-append (λ read. read.0) h.reads j.reads ∙ (ap (λ l. l ++ map (λ read. read.0) j.reads) h.each ∙ ap (λ l. ps ++ l) j.each);
  told = answers_both tree h.reads j.reads ps qs h.told j.told;
}

pub Reads-append : (tree : Option Tree) (g k : List Given) (ps qs : List (List ℕ)) (xs ys : List (List ℕ × Facts)) → Reads tree g ps xs → Reads tree k qs ys → Reads tree (g ++ k) (ps ++ qs) (xs ++ ys)
unfolding NotesReads-append
Reads-append tree g k ps qs xs ys h j = record {
  notes = NotesReads-append tree g k ps qs h.notes j.notes;
  mails = map-append (λ file. file.0) xs ys ∙ (ap (λ l. l ++ paths_of ys) h.mails ∙ (ap (λ l. flat_map mail_in h.notes.reads ++ l) j.mails ∙ sym (flat_map-append mail_in h.notes.reads j.notes.reads)));
  dated = AllByRecursion-append (λ arrival. IsDate arrival.1.date) xs ys h.dated j.dated;
  told = added_both tree xs ys ps qs h.told j.told;
}

pub no_added : (tree : Option Tree) → IfSome tree (λ t. [] ≡ flat_map (arrival_at t) [])
no_added None = tt
no_added (Some t) = refl

-- the loop has begun
abbrev pub begun_read : (mail : ObservedMail) (given : List Given) (added : List (List ℕ × Facts)) → added ≡ [] → HasReadAll mail mail given given [] added
begun_read mail given added none = record {
  given = [];
  given_is = sym (append-nil given);
  reading = subst (λ (l : List (List ℕ × Facts)). Reads mail.tree [] [] l) (sym none) (record { notes = notes-none mail.tree; mails = refl; dated = tt; told = no_added mail.tree });
  mail = same_mail mail (after_reads mail []) refl (read_with-none mail.reads) refl;
}

-- the first paths were read, and then one more
abbrev pub more_read : (m0 m1 m2 : ObservedMail) (n0 n1 n2 : List Given) (ps qs : List (List ℕ)) (xs ys : List (List ℕ × Facts)) → HasReadAll m0 m1 n0 n1 ps xs → HasReadAll m1 m2 n1 n2 qs ys → HasReadAll m0 m2 n0 n2 (ps ++ qs) (xs ++ ys)
more_read m0 m1 m2 n0 n1 n2 ps qs xs ys h k =
    let tree : m1.tree ≡ m0.tree = ap (λ (m : ObservedMail). m.tree) h.mail in
    record {
      given = h.given ++ k.given;
      given_is = k.given_is ∙ (ap (λ l. l ++ k.given) h.given_is ∙ append_assoc n0 h.given k.given);
      reading = Reads-append m0.tree h.given k.given ps qs xs ys h.reading (subst (λ (t : Option Tree). Reads t k.given qs ys) tree k.reading);
      mail = k.mail ∙ (ap (λ (m : ObservedMail). after_reads m qs) h.mail ∙ ap (λ (r : Option (List (List ℕ))). record { tree = m0.tree; reads = r; faults = m0.faults }) (read_with-more m0.reads ps qs));
    }

-- what is so of every error
pub if_err : {T E : Type 0} (P : Type 0) (result : Result T E) → P → IfErr result (λ error. P)
if_err P (Ok x) p = tt
if_err P (Err error) p = p

pub on_err : {T E : Type 0} (P : Type 0) (result : Result T E) → P → OnErr result P
on_err P (Ok x) p = tt
on_err P (Err error) p = p
