-- The mails that a `new` has read come to an index that lacks them, each path once.
-- For `BatchLemmas`, `MailLemmas`, `NewLemmas` and `ReportLemmas`.
use Rattle.std.proofs.Common.{◌≡◌, ℕ, Bool, true, false, ◌||◌, not, cond, List, [], ◌∷◌, ◌++◌, map, filter, refl, sym, ap, ◌∙◌, subst}
use Rattle.std.specs.List.{AllByRecursion, flat_map, IsDistinct}
use Rattle.std.specs.Cmp.Lexicographic.{slice_cmp, texts_ties, nat_list_eq_equiv}
use Rattle.std.specs.Ordering.{eq_by_cmp, nat_cmp}
use Rattle.std.proofs.lemmas.Map.Keys.{IsDistinct-cons, IsDistinct-from_sorted}
use Rattle.std.proofs.Math.Bool.{or-true}
use Rattle.std.proofs.lemmas.Bool.{not-true}
use Rattle.nm_base.specs.Order.{IsSorted, has_text, same_text}
use Rattle.nm_base.specs.declared.facts.Facts.{Facts}
use Rattle.nm_base.specs.Limits.{IsDate}
use Rattle.nm_commit.specs.Files.{has_path, paths_of}
use Rattle.nm_maildir.specs.declared.given.ReadAnswer.{ReadAnswer}
use Rattle.nm_maildir.specs.declared.given.ReadAnswer.TheVariants as answers
use Rattle.nm_model_plan.specs.Plan.{AreAdded, to_read}
use Rattle.nm_scan.specs.FileReads.{mail_in}
use Rattle.nm_writer.specs.Batch.{AreUnknown}

-- each text passes the test, or none does
abbrev pub Every : (List ℕ → Bool) → Bool → List (List ℕ) → Type 0
Every test value texts = AllByRecursion (λ text. test text ≡ value) texts

unequal : (text : List ℕ) (texts : List (List ℕ)) → AllByRecursion (λ other. eq_by_cmp (slice_cmp nat_cmp) text other ≡ false) texts → AllByRecursion (λ other. same_text text other ≡ false) texts
unequal text [] h = tt
unequal text (other ∷ texts) h = (texts_ties text other ∙ h.0, unequal text texts h.1)

distinct-same : (texts : List (List ℕ)) → IsDistinct (eq_by_cmp (slice_cmp nat_cmp)) texts → IsDistinct same_text texts
unfolding IsDistinct
distinct-same [] h = tt
distinct-same (text ∷ texts) h = (unequal text texts h.0, distinct-same texts h.1)

-- rising texts occur once each
distinct-rising : (texts : List (List ℕ)) → IsSorted texts → IsDistinct same_text texts
distinct-rising texts h = distinct-same texts (IsDistinct-from_sorted (slice_cmp nat_cmp) texts h)

-- a filter keeps what holds of every text
every-cond : (P : List ℕ → Type 0) (b : Bool) (text : List ℕ) (texts : List (List ℕ)) → P text → AllByRecursion P texts → AllByRecursion P (cond b (text ∷ texts) texts)
every-cond P true text texts first rest = (first, rest)
every-cond P false text texts first rest = rest

pub every-filter : (P : List ℕ → Type 0) (keep : List ℕ → Bool) (texts : List (List ℕ)) → AllByRecursion P texts → AllByRecursion P (filter keep texts)
every-filter P keep [] h = tt
every-filter P keep (text ∷ texts) h = every-cond P (keep text) text (filter keep texts) h.0 (every-filter P keep texts h.1)

distinct-cond : (b : Bool) (text : List ℕ) (texts : List (List ℕ)) → AllByRecursion (λ other. same_text text other ≡ false) texts → IsDistinct same_text texts → IsDistinct same_text (cond b (text ∷ texts) texts)
distinct-cond true text texts first rest = IsDistinct-cons same_text text texts first rest
distinct-cond false text texts first rest = rest

distinct-filter : (keep : List ℕ → Bool) (texts : List (List ℕ)) → IsDistinct same_text texts → IsDistinct same_text (filter keep texts)
unfolding IsDistinct
distinct-filter keep [] h = tt
distinct-filter keep (text ∷ texts) h = distinct-cond (keep text) text (filter keep texts) (every-filter _ keep texts h.0) (distinct-filter keep texts h.1)

-- what a filter keeps passes its test
kept-cond : (keep : List ℕ → Bool) (b : Bool) (text : List ℕ) (texts : List (List ℕ)) → keep text ≡ b → Every keep true texts → Every keep true (cond b (text ∷ texts) texts)
kept-cond keep true text texts e h = (e, h)
kept-cond keep false text texts e h = h

every-kept : (keep : List ℕ → Bool) (texts : List (List ℕ)) → Every keep true (filter keep texts)
every-kept keep [] = tt
every-kept keep (text ∷ texts) = kept-cond keep (keep text) text (filter keep texts) refl (every-kept keep texts)

pub every-map : (P Q : List ℕ → Type 0) (texts : List (List ℕ)) → ((text : List ℕ) → P text → Q text) → AllByRecursion P texts → AllByRecursion Q texts
every-map P Q [] f h = tt
every-map P Q (text ∷ texts) f h = (f text h.0, every-map P Q texts f h.1)

-- the reads that found mail are some of the reads
every-mail : (P : List ℕ → Type 0) (reads : List (List ℕ × ReadAnswer)) → AllByRecursion P (map (λ read. read.0) reads) → AllByRecursion P (flat_map mail_in reads)
every-mail P [] h = tt
every-mail P ((path, answers.Mail) ∷ reads) h = (h.0, every-mail P reads h.1)
every-mail P ((path, answers.NotMail) ∷ reads) h = every-mail P reads h.1
every-mail P ((path, answers.Missing) ∷ reads) h = every-mail P reads h.1
every-mail P ((path, answers.TooLong) ∷ reads) h = every-mail P reads h.1
every-mail P ((path, answers.Body bytes) ∷ reads) h = every-mail P reads h.1

distinct-mail : (reads : List (List ℕ × ReadAnswer)) → IsDistinct same_text (map (λ read. read.0) reads) → IsDistinct same_text (flat_map mail_in reads)
unfolding IsDistinct
distinct-mail [] h = tt
distinct-mail ((path, answers.Mail) ∷ reads) h = (every-mail _ reads h.0, distinct-mail reads h.1)
distinct-mail ((path, answers.NotMail) ∷ reads) h = distinct-mail reads h.1
distinct-mail ((path, answers.Missing) ∷ reads) h = distinct-mail reads h.1
distinct-mail ((path, answers.TooLong) ∷ reads) h = distinct-mail reads h.1
distinct-mail ((path, answers.Body bytes) ∷ reads) h = distinct-mail reads h.1

-- every text of a list is in it
same_as_itself : (text : List ℕ) → same_text text text ≡ true
same_as_itself text = nat_list_eq_equiv.refl text

pub every-in : (texts : List (List ℕ)) → AllByRecursion (λ text. has_text texts text ≡ true) texts
every-in [] = tt
every-in (text ∷ texts) = (
  ap (λ b. b || has_text texts text) (same_as_itself text),
  every-map (λ other. has_text texts other ≡ true) (λ other. has_text (text ∷ texts) other ≡ true) texts (λ other h. ap (λ b. same_text other text || b) h ∙ or-true (same_text other text)) (every-in texts),
)

-- the listed paths that an index lacks are unknown to it, each once
pub are-unknown : (files : List (List ℕ × Facts)) (listed : List (List ℕ)) → IsSorted listed → AreUnknown files (to_read files listed)
are-unknown files listed rising = record {
  once = distinct-filter (λ path. not (has_path files path)) listed (distinct-rising listed rising);
  fresh = every-map (λ path. not (has_path files path) ≡ true) (λ path. has_path files path ≡ false) (to_read files listed) (λ path h. not-true (has_path files path) h) (every-kept (λ path. not (has_path files path)) listed);
}

-- and so are the first of them
every-front : (P : List ℕ → Type 0) (texts more : List (List ℕ)) → AllByRecursion P (texts ++ more) → AllByRecursion P texts
every-front P [] more h = tt
every-front P (text ∷ texts) more h = (h.0, every-front P texts more h.1)

distinct-front : (texts more : List (List ℕ)) → IsDistinct same_text (texts ++ more) → IsDistinct same_text texts
unfolding IsDistinct
distinct-front [] more h = tt
distinct-front (text ∷ texts) more h = (every-front _ texts more h.0, distinct-front texts more h.1)

-- the mails that were read at the first of the paths are arrivals
pub are-added : (files : List (List ℕ × Facts)) (paths read left : List (List ℕ)) (added : List (List ℕ × Facts)) (reads : List (List ℕ × ReadAnswer))
    → AreUnknown files paths → paths ≡ read ++ left → map (λ read. read.0) reads ≡ read → paths_of added ≡ flat_map mail_in reads → AllByRecursion (λ arrival. IsDate arrival.1.date) added → AreAdded files added
are-added files paths read left added reads unknown paths_are each mails dated =
    let once : IsDistinct same_text (map (λ read. read.0) reads) = subst (IsDistinct same_text) (sym each) (distinct-front read left (subst (IsDistinct same_text) paths_are unknown.once)) in
    let fresh : AllByRecursion (λ path. has_path files path ≡ false) (map (λ read. read.0) reads) =
    subst (AllByRecursion (λ path. has_path files path ≡ false)) (sym each) (every-front (λ path. has_path files path ≡ false) read left (subst (AllByRecursion (λ path. has_path files path ≡ false)) paths_are unknown.fresh)) in
    record {
      once = subst (IsDistinct same_text) (sym mails) (distinct-mail reads once);
      fresh = subst (AllByRecursion (λ path. has_path files path ≡ false)) (sym mails) (every-mail _ reads fresh);
      dated = dated;
    }
