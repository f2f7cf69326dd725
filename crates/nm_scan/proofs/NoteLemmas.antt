-- What is noted of files that were found, when each is classified. For the proofs of `read_batch` and `note_all`.
use Rattle.std.proofs.Common.{◌≡◌, inr, ℕ, zero, suc, List, [], ◌∷◌, ◌++◌, Option, IfOk, IfSome, Result, Ok, Err, length, map, take, refl, sym, ap, ◌∙◌, subst, append-nil, append_assoc, length-append, arith}
use Rattle.std.specs.Prelude.{OnErr}
use Rattle.std.specs.List.{AllZip, flat_map}
use Rattle.std.proofs.lemmas.Grind.{flat_map-append}
use Rattle.std.proofs.lemmas.List.{map-append, take-map}
use Rattle.std.proofs.lemmas.Slice.Zip.{AllZip-long}
use Rattle.nm_base.specs.declared.facts.Facts.{Facts}
use Rattle.nm_base.specs.Limits.{max_mail_bytes}
use Rattle.nm_maildir.specs.Tree.{Tree, got_of}
use Rattle.nm_maildir.specs.declared.answers.Got.{Got}
use Rattle.nm_maildir.specs.declared.given.Given.{Given}
use Rattle.nm_maildir.specs.declared.given.Given.TheVariants as givens
use Rattle.nm_scan.proofs.ReadLemmas.{Reads-append, no_added, notes-none, one_read}
use Rattle.nm_scan.specs.Found.{AreKnown, HasNotedAll, HasNotedFront, HasNotedSome, IsClassified, given_of, mail_found, paths_found}
use Rattle.nm_scan.specs.FileReads.{NotesReads, Reads, arrival}
use Rattle.nm_scan.specs.declared.classes.Classified.{Classified}

abbrev Found : Type 0
Found = List (List ℕ × Got)

-- one file
one_noted : (tree : Option Tree) (found : List ℕ × Got) (classified : Classified) → IsClassified found classified → IfSome tree (λ t. found.1 ≡ got_of t found.0 max_mail_bytes)
    → Reads tree (given_of classified ∷ []) (found.0 ∷ []) (mail_found classified)
one_noted tree found classified is told =
    subst (λ (path : List ℕ). Reads tree (givens.Read path classified.answer ∷ []) (found.0 ∷ []) (arrival path classified.facts)) (sym is.path)
    (one_read tree found.0 found.1 (classified.answer, classified.facts) is.classes told)

-- all files
all_noted : (tree : Option Tree) (found : Found) (all : List Classified) → AllZip IsClassified found all → AreKnown tree found → Reads tree (map given_of all) (paths_found found) (flat_map mail_found all)
all_noted tree [] [] are told = record { notes = notes-none tree; mails = refl; dated = tt; told = no_added tree }
all_noted tree [] (one ∷ all) are told = absurd are
all_noted tree (one ∷ found) [] are told = absurd are
all_noted tree (one ∷ found) (classified ∷ all) are told =
    Reads-append tree (given_of classified ∷ []) (map given_of all) (one.0 ∷ []) (paths_found found) (mail_found classified) (flat_map mail_found all)
    (one_noted tree one classified are.0 told.0) (all_noted tree found all are.1 told.1)

pub noted_all : (found : Found) (all : List Classified) (old new : List Given) (added : List (List ℕ × Facts)) → AllZip IsClassified found all → new ≡ old ++ map given_of all → added ≡ flat_map mail_found all
    → HasNotedAll found old new added
noted_all found all old new added are given_is added_is = record {
  given = map given_of all;
  given_is = given_is;
  reading = λ tree told. subst (λ (l : List (List ℕ × Facts)). Reads tree (map given_of all) (paths_found found) l) (sym added_is) (all_noted tree found all are told);
}

-- the first of the files
front_zip : {A B : Type 0} (R : A → B → Type 0) (xs : List A) (front rest : List B) → AllZip R xs (front ++ rest) → AllZip R (take (length front) xs) front
front_zip R xs [] rest are = tt
front_zip R [] (y ∷ front) rest are = absurd are
front_zip R (x ∷ xs) (y ∷ front) rest are = (are.0, front_zip R xs front rest are.1)

told_front : (tree : Option Tree) (found : Found) (n : ℕ) → AreKnown tree found → AreKnown tree (take n found)
told_front tree [] zero told = tt
told_front tree [] (suc n) told = tt
told_front tree (one ∷ found) zero told = tt
told_front tree (one ∷ found) (suc n) told = (told.0, told_front tree found n told.1)

front_noted : (tree : Option Tree) (found : Found) (front rest : List Classified) → AllZip IsClassified found (front ++ rest) → AreKnown tree found
    → NotesReads tree (map given_of front) (take (length front) (paths_found found))
front_noted tree found front rest are told =
    subst (λ (l : List (List ℕ)). NotesReads tree (map given_of front) l) (sym (take-map (λ (one : List ℕ × Got). one.0) (length front) found))
    (all_noted tree (take (length front) found) front (front_zip IsClassified found front rest are) (told_front tree found (length front) told)).notes

pub noted_some : (found : Found) (all : List Classified) (old new : List Given) → AllZip IsClassified found all → HasNotedFront all old new → HasNotedSome found old new
noted_some found all old new are h =
    let parts : AllZip IsClassified found (h.front ++ h.next ∷ h.rest) = subst (λ (l : List Classified). AllZip IsClassified found l) h.all_are are in
    let long : length (h.front ++ h.next ∷ h.rest) ≡ length found = AllZip-long IsClassified found (h.front ++ h.next ∷ h.rest) parts in
    record {
      given = map given_of h.front;
      given_is = h.given_is;
      answered = length h.front;
      some = inr (omega (arith, long, length-append h.front (h.next ∷ h.rest)));
      reading = λ tree told. front_noted tree found h.front (h.next ∷ h.rest) parts told;
    }

-- however the noting ended
pub ok_noted : {E : Type 0} (result : Result (List (List ℕ × Facts)) E) (found : Found) (all : List Classified) (old new : List Given) → AllZip IsClassified found all
    → IfOk result (λ added. (new ≡ old ++ map given_of all) × (added ≡ flat_map mail_found all)) → IfOk result (HasNotedAll found old new)
ok_noted (Ok added) found all old new are noted = noted_all found all old new added are noted.0 noted.1
ok_noted (Err error) found all old new are noted = tt

pub err_noted : {E : Type 0} (result : Result (List (List ℕ × Facts)) E) (found : Found) (all : List Classified) (old new : List Given) → AllZip IsClassified found all
    → OnErr result (HasNotedFront all old new) → OnErr result (HasNotedSome found old new)
err_noted (Ok added) found all old new are noted = tt
err_noted (Err error) found all old new are noted = noted_some found all old new are noted

-- The noting goes on: the first are noted, and these are left.
pub record InNotes (all rest : List Classified) (old now : List Given) (added : List (List ℕ × Facts)) : Type 0 where
  pub front : List Classified
  pub all_are : all ≡ front ++ rest
  pub given_is : now ≡ old ++ map given_of front
  pub added_are : added ≡ flat_map mail_found front

pub no_notes : (all rest : List Classified) (old : List Given) (added : List (List ℕ × Facts)) → rest ≡ all → added ≡ [] → InNotes all rest old old added
no_notes all rest old added whole none = record { front = []; all_are = sym whole; given_is = sym (append-nil old); added_are = none }

pub next_note : (all left rest : List Classified) (next : Classified) (old now after : List Given) (added more : List (List ℕ × Facts)) → InNotes all left old now added → left ≡ next ∷ rest
    → after ≡ now ++ given_of next ∷ [] → more ≡ added ++ mail_found next → InNotes all rest old after more
next_note all left rest next old now after added more h cut given_is added_is = record {
  front = h.front ++ next ∷ [];
  all_are = h.all_are ∙ (ap (λ (l : List Classified). h.front ++ l) cut ∙ sym (append_assoc h.front (next ∷ []) rest));
  given_is = given_is ∙ (ap (λ (l : List Given). l ++ given_of next ∷ []) h.given_is ∙ (append_assoc old (map given_of h.front) (given_of next ∷ [])
      ∙ ap (λ (l : List Given). old ++ l) (sym (map-append given_of h.front (next ∷ [])))));
  added_are = added_is ∙ (ap (λ (l : List (List ℕ × Facts)). l ++ mail_found next) h.added_are
      ∙ (ap (λ (l : List (List ℕ × Facts)). flat_map mail_found h.front ++ l) (sym (append-nil (mail_found next))) ∙ sym (flat_map-append mail_found h.front (next ∷ []))));
}

pub all_notes : (all rest : List Classified) (old now : List Given) (added : List (List ℕ × Facts)) → InNotes all rest old now added → rest ≡ []
    → (now ≡ old ++ map given_of all) × (added ≡ flat_map mail_found all)
all_notes all rest old now added h none =
    let whole : h.front ≡ all = sym (append-nil h.front) ∙ (ap (λ (l : List Classified). h.front ++ l) (sym none) ∙ sym h.all_are) in
    (h.given_is ∙ ap (λ (l : List Classified). old ++ map given_of l) whole, h.added_are ∙ ap (λ (l : List Classified). flat_map mail_found l) whole)

pub note_stops : (all left rest : List Classified) (next : Classified) (old now after : List Given) (added : List (List ℕ × Facts)) → InNotes all left old now added → left ≡ next ∷ rest → after ≡ now
    → HasNotedFront all old after
note_stops all left rest next old now after added h cut same = record {
  front = h.front;
  next = next;
  rest = rest;
  all_are = h.all_are ∙ ap (λ (l : List Classified). h.front ++ l) cut;
  given_is = same ∙ h.given_is;
}
