-- Replaying one body more. For the proofs of `replayed` and `Writer::open_head`.
use Rattle.std.proofs.Common.{◌≡◌, ℕ, ◌+◌, ◌<◌, ◌^◌, true, zero, suc, List, [], ◌∷◌, ◌++◌, length, min, take, drop, get_or, Option, None, Some, refl, sym, ap, ◌∙◌, subst, arith, length-append}
use Rattle.std.specs.List.{AllZip}
use Rattle.std.proofs.lemmas.List.{map-append, take_more}
use Rattle.std.proofs.lemmas.Option.{none-some, same_Some}
use Rattle.nm_base.specs.Limits.{max_count}
use Rattle.nm_base.specs.declared.limit.Limit.{Limit as AnyLimit}
use Rattle.nm_commit.specs.Files.{Fits}
use Rattle.nm_commit.specs.declared.change.Commit.{Commit}
use Rattle.nm_disk.specs.declared.disk.FileNo.TheVariants.{Head}
use Rattle.nm_model_index.specs.Fits.{FitInTurn}
use Rattle.nm_model_index.specs.Index.{committed, empty_index, folded}
use Rattle.nm_model_index.specs.declared.base.Base.{Base}
use Rattle.nm_journal.specs.Records.{AreBodies, record_of, records_of}
use Rattle.nm_record.specs.CommitGrammar.{commit_grammar}
use Rattle.nm_record.specs.Room.{limit_passed}
use Rattle.nm_replay.specs.OpenFaults.{HasBodyFault, IsAfterRead, IsRead, IsRefusedRead, IsToldAt, IsTooMuch}
use Rattle.nm_replay.specs.declared.open_error.OpenError.{OpenError}
use Rattle.nm_replay.specs.declared.open_error.OpenError.TheVariants.{BadIndex, DiskFault, Limit, NoMemory}
use Rattle.nm_replay.specs.StoredIndex.{AreCommits, HasBadBody, HasCommits, HasPassed, IsNoCommit, StayWithin, bodies_of}

fits-more : (index : Base) (commits : List Commit) (commit : Commit) → FitInTurn index commits → Fits (folded index commits).files commit → FitInTurn index (commits ++ commit ∷ [])
fits-more index [] commit fit here = (here, tt)
fits-more index (first ∷ commits) commit fit here = (fit.0, fits-more (committed index first) commits commit fit.1 here)

pub folded-more : (index : Base) (commits : List Commit) (commit : Commit) → folded index (commits ++ commit ∷ []) ≡ committed (folded index commits) commit
folded-more index [] commit = refl
folded-more index (first ∷ commits) commit = folded-more (committed index first) commits commit

values-more : (commits : List Commit) (commit : Commit) → AreCommits commits → commit_grammar.is_value commit ≡ true → AreCommits (commits ++ commit ∷ [])
values-more [] commit values here = (here, tt)
values-more (first ∷ commits) commit values here = (values.0, values-more commits commit values.1 here)

-- a commit that fits, after those before it
pub commits-more : (bodies : List (List ℕ)) (commits : List Commit) (index : Base) (body : List ℕ) (commit : Commit) (new : Base) → HasCommits bodies commits index
    → body ≡ commit_grammar.bytes commit → commit_grammar.is_value commit ≡ true → Fits index.files commit → new ≡ committed index commit → HasCommits (bodies ++ body ∷ []) (commits ++ commit ∷ []) new
commits-more bodies commits index body commit new h is value fits made = record {
  bodies_are = ap (λ l. l ++ body ∷ []) h.bodies_are ∙ (ap (λ b. bodies_of commits ++ b ∷ []) is ∙ sym (map-append (λ c. commit_grammar.bytes c) commits (commit ∷ [])));
  values = values-more commits commit h.values value;
  fit = fits-more empty_index commits commit h.fit (subst (λ (b : Base). Fits b.files commit) h.index_is fits);
  index_is = made ∙ (ap (λ (b : Base). committed b commit) h.index_is ∙ sym (folded-more empty_index commits commit));
}

-- a limit that is passed by none so far, nor by one more
stay-more : (index : Base) (commits : List Commit) (commit : Commit) → StayWithin index commits → limit_passed (committed (folded index commits) commit) ≡ None → StayWithin index (commits ++ commit ∷ [])
stay-more index [] commit within here = (here, tt)
stay-more index (first ∷ commits) commit within here = (within.0, stay-more (committed index first) commits commit within.1 here)

-- the bodies so far
abbrev pub Replayed : List (List ℕ) → Base → Type 0
Replayed bodies index = (commits : List Commit) × HasCommits bodies commits index × StayWithin empty_index commits

pub none-replayed : Replayed [] empty_index
none-replayed = ([], record { bodies_are = refl; values = tt; fit = tt; index_is = refl }, tt)

abbrev pub IsAfter : Base → List ℕ → Base → Type 0
IsAfter index body new = (commit : Commit) × (body ≡ commit_grammar.bytes commit) × (commit_grammar.is_value commit ≡ true) × Fits index.files commit × (new ≡ committed index commit) × (limit_passed (committed index commit) ≡ None)

pub replayed-turn : (bodies : List (List ℕ)) (i : ℕ) (body seen : List ℕ) (index new : Base) → i < length bodies → body ≡ get_or bodies i body → seen ≡ body → Replayed (take i bodies) index → IsAfter index seen new → Replayed (take (i + 1) bodies) new
replayed-turn bodies i body seen index new within is same before after =
    let front : take (i + 1) bodies ≡ take i bodies ++ body ∷ [] = take_more bodies i body within ∙ ap (λ (b : List ℕ). take i bodies ++ b ∷ []) (sym is) in
    subst (λ (l : List (List ℕ)). Replayed l new) (sym front) (
      before.0 ++ after.0 ∷ [],
      commits-more (take i bodies) before.0 index body after.0 new before.1 (sym same ∙ after.1) after.2 after.3 after.4,
      stay-more empty_index before.0 after.0 before.2 (ap (λ (b : Base). limit_passed (committed b after.0)) (sym before.1.index_is) ∙ after.5),
    )

record-length : (body : List ℕ) → length (record_of body) ≡ 5 + length body
record-length body = omega (arith, length-append {A = ℕ})

records-more : (bodies : List (List ℕ)) (body : List ℕ) → length (records_of (bodies ++ body ∷ [])) ≡ length (records_of bodies) + (5 + length body)
records-more [] body = omega (arith, record-length body, length-append (record_of body) [])
records-more (first ∷ bodies) body = omega (arith, length-append (record_of first) (records_of (bodies ++ body ∷ [])), length-append (record_of first) (records_of bodies), records-more bodies body)

body-fits : (bodies : List (List ℕ)) (i : ℕ) (body : List ℕ) → i < length bodies → body ≡ get_or bodies i body → AreBodies bodies → length body < 2 ^ 32
body-fits [] i body within is fit = absurd (omega arith)
body-fits (first ∷ bodies) zero body within is fit = subst (λ (b : List ℕ). length b < 2 ^ 32) (sym is) fit.0
body-fits (first ∷ bodies) (suc i) body within is fit = body-fits bodies i body (omega arith) is fit.1

cut-at : (bodies : List (List ℕ)) (i : ℕ) (body : List ℕ) → i < length bodies → body ≡ get_or bodies i body → bodies ≡ take i bodies ++ body ∷ drop (suc i) bodies
cut-at [] i body within is = absurd (omega arith)
cut-at (first ∷ bodies) zero body within is = ap (λ (b : List ℕ). b ∷ bodies) (sym is)
cut-at (first ∷ bodies) (suc i) body within is = ap (λ (l : List (List ℕ)). first ∷ l) (cut-at bodies i body (omega arith) is)

-- the body after those so far is bad
pub bad-body : (bodies : List (List ℕ)) (i : ℕ) (body seen : List ℕ) (index : Base) (gate at : ℕ) → i < length bodies → body ≡ get_or bodies i body → seen ≡ body → Replayed (take i bodies) index → gate ≡ min (length (records_of (take i bodies))) max_count
    → at ≡ gate → (length seen < 2 ^ 32 → IsNoCommit index seen) → AreBodies bodies → HasBadBody bodies at
bad-body bodies i body seen index gate at within is same before place told bad fit = record {
  front = take i bodies;
  body = body;
  more = drop (suc i) bodies;
  bodies_are = cut-at bodies i body within is;
  commits = before.0;
  index = index;
  before = before.1;
  within = before.2;
  bad = subst (IsNoCommit index) same (bad (subst (λ (b : List ℕ). length b < 2 ^ 32) (sym same) (body-fits bodies i body within is fit)));
  at_is = told ∙ place;
}

-- the index after the next body passes a limit
passed-at : (bodies : List (List ℕ)) (i : ℕ) (body seen : List ℕ) (index : Base) (limit : AnyLimit) → i < length bodies → body ≡ get_or bodies i body → seen ≡ body → Replayed (take i bodies) index
    → (commit : Commit) × (seen ≡ commit_grammar.bytes commit) × (commit_grammar.is_value commit ≡ true) × IsTooMuch index commit limit → HasPassed bodies limit
passed-at bodies i body seen index limit within is same before passed = record {
  front = take i bodies;
  commit = passed.0;
  more = drop (suc i) bodies;
  bodies_are = cut-at bodies i body within is ∙ ap (λ (b : List ℕ). take i bodies ++ b ∷ drop (suc i) bodies) (sym same ∙ passed.1);
  value = passed.2;
  commits = before.0;
  index = index;
  before = before.1;
  within = before.2;
  fits = passed.3.0;
  passed = passed.3.1;
}

-- the place of the next gate
pub gate-turn : (bodies : List (List ℕ)) (i : ℕ) (body : List ℕ) (gate mid next len : ℕ) → i < length bodies → body ≡ get_or bodies i body → gate ≡ min (length (records_of (take i bodies))) max_count
    → mid ≡ min (gate + 5) max_count → next ≡ min (mid + len) max_count → len ≡ length body → next ≡ min (length (records_of (take (i + 1) bodies))) max_count
gate-turn bodies i body gate mid next len within is before first second long =
    let front : take (i + 1) bodies ≡ take i bodies ++ body ∷ [] = take_more bodies i body within ∙ ap (λ (b : List ℕ). take i bodies ++ b ∷ []) (sym is) in
    let longer : length (records_of (take (i + 1) bodies)) ≡ length (records_of (take i bodies)) + (5 + length body) = ap (λ l. length (records_of l)) front ∙ records-more (take i bodies) body in
    omega (arith, before, first, second, long, longer)

-- a single body is refused so over this index: it is bad, or the index after it passes the limit
abbrev pub IsRefusedBody : Base → List ℕ → OpenError → Type 0
IsRefusedBody index body (BadIndex file at) = (file ≡ Head) × (length body < 2 ^ 32 → IsNoCommit index body)
IsRefusedBody index body (Limit limit) = (commit : Commit) × (body ≡ commit_grammar.bytes commit) × (commit_grammar.is_value commit ≡ true) × IsTooMuch index commit limit
IsRefusedBody index body DiskFault = ⊥
IsRefusedBody index body NoMemory = Unit {0}

-- a bad body is reported of all bodies
pub body-fault : (bodies : List (List ℕ)) (i : ℕ) (body seen : List ℕ) (index : Base) (gate : ℕ) (error : OpenError) → i < length bodies → body ≡ get_or bodies i body → seen ≡ body → Replayed (take i bodies) index
    → gate ≡ min (length (records_of (take i bodies))) max_count → IsRefusedBody index seen error → IsToldAt gate error → HasBodyFault bodies error
body-fault bodies i body seen index gate (BadIndex file at) within is same before place bad told = (bad.0, λ fit. bad-body bodies i body seen index gate at within is same before place told bad.1 fit)
body-fault bodies i body seen index gate (Limit limit) within is same before place bad told = passed-at bodies i body seen index limit within is same before bad
body-fault bodies i body seen index gate DiskFault within is same before place bad told = absurd bad
body-fault bodies i body seen index gate NoMemory within is same before place bad told = tt

-- the index after what a body is read as is that after the body
pub after-read : (body : List ℕ) (read : Option Commit) (index new : Base) → IsRead body read → IsAfterRead index read new → IsAfter index body new
after-read body (Some commit) index new is after = (commit, is.found.0, is.found.1, after.0, after.1, after.2)
after-read body None index new is after = absurd after

-- what refuses what a body is read as refuses the body
pub refused-read : (body : List ℕ) (read : Option Commit) (index : Base) (error : OpenError) → IsRead body read → IsRefusedRead index read error → IsRefusedBody index body error
refused-read body (Some commit) index (BadIndex file at) is bad = (bad.0, λ short other value same fits. bad.1 (subst (λ (c : Commit). Fits index.files c) (sym (same_Some commit other (is.only other value short same))) fits))
refused-read body (Some commit) index (Limit limit) is bad = (commit, is.found.0, is.found.1, bad)
refused-read body (Some commit) index DiskFault is bad = absurd bad
refused-read body (Some commit) index NoMemory is bad = tt
refused-read body None index (BadIndex file at) is bad = (bad, λ short other value same fits. none-some other (is.only other value short same))
refused-read body None index (Limit limit) is bad = absurd bad
refused-read body None index DiskFault is bad = absurd bad
refused-read body None index NoMemory is bad = absurd bad

same-at : (bodies : List (List ℕ)) (i : ℕ) (d e : List ℕ) → i < length bodies → get_or bodies i d ≡ get_or bodies i e
same-at [] i d e within = absurd (omega arith)
same-at (first ∷ bodies) zero d e within = refl
same-at (first ∷ bodies) (suc i) d e within = same-at bodies i d e (omega arith)

-- as many were read as there are
pub all-read : (bodies : List (List ℕ)) (read : List (Option Commit)) → AllZip IsRead bodies read → length read ≡ length bodies
all-read [] [] are = refl
all-read [] (one ∷ read) are = absurd are
all-read (body ∷ bodies) [] are = absurd are
all-read (body ∷ bodies) (one ∷ read) are = ap (λ n. suc n) (all-read bodies read are.1)

read-at : (bodies : List (List ℕ)) (read : List (Option Commit)) (i : ℕ) (body : List ℕ) (one : Option Commit) → AllZip IsRead bodies read → i < length bodies → body ≡ get_or bodies i body → one ≡ get_or read i one → IsRead body one
read-at [] read i body one are within is same = absurd (omega arith)
read-at (first ∷ bodies) [] i body one are within is same = absurd are
read-at (first ∷ bodies) (other ∷ read) zero body one are within is same = subst (λ (b : List ℕ). IsRead b one) (sym is) (subst (λ (o : Option Commit). IsRead first o) (sym same) are.0)
read-at (first ∷ bodies) (other ∷ read) (suc i) body one are within is same = read-at bodies read i body one are.1 (omega arith) is same

-- the next of what was read is applied
pub read-turn : (bodies : List (List ℕ)) (read : List (Option Commit)) (i : ℕ) (one : Option Commit) (index new : Base) → AllZip IsRead bodies read → i < length bodies → one ≡ get_or read i one → Replayed (take i bodies) index
    → IsAfterRead index one new → Replayed (take (i + 1) bodies) new
read-turn bodies read i one index new are within same before after =
    let body : List ℕ = get_or bodies i [] in
    let is : body ≡ get_or bodies i body = same-at bodies i [] body within in
    replayed-turn bodies i body body index new within is refl before (after-read body one index new (read-at bodies read i body one are within is same) after)

-- the next of what was read is refused
pub read-fault : (bodies : List (List ℕ)) (read : List (Option Commit)) (i : ℕ) (one : Option Commit) (index : Base) (gate : ℕ) (error : OpenError) → AllZip IsRead bodies read → i < length bodies → one ≡ get_or read i one
    → Replayed (take i bodies) index → gate ≡ min (length (records_of (take i bodies))) max_count → IsRefusedRead index one error → IsToldAt gate error → HasBodyFault bodies error
read-fault bodies read i one index gate error are within same before place bad told =
    let body : List ℕ = get_or bodies i [] in
    let is : body ≡ get_or bodies i body = same-at bodies i [] body within in
    body-fault bodies i body body index gate error within is refl before place (refused-read body one index error (read-at bodies read i body one are within is same) bad) told
