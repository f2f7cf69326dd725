-- Bytes hold one index at most, and none of them is both an index and bad, nor is what passes a limit.
-- For the proofs of `an_index_is_held_once`, `one_limit_is_passed`, `what_holds_an_index_is_not_bad` and others.
use Rattle.std.proofs.Common.{◌≡◌, inl, inr, ℕ, ◌<◌, ◌^◌, true, List, [], ◌∷◌, ◌++◌, None, Some, length, drop, get_or, refl, sym, ap, ◌∙◌, subst, arith, length-append}
use Rattle.nm_base.specs.declared.limit.Limit.{Limit}
use Rattle.nm_codec.specs.StepLaws.{ok_is}
use Rattle.nm_commit.specs.Files.{Fits}
use Rattle.nm_commit.specs.declared.change.Commit.{Commit}
use Rattle.nm_model_index.specs.Fits.{FitInTurn}
use Rattle.nm_model_index.specs.Index.{committed, empty_index, folded}
use Rattle.nm_model_index.specs.declared.base.Base.{Base}
use Rattle.nm_journal.specs.Records.{AreBodies, HasRecords, IsBroken}
use Rattle.nm_record.specs.CommitGrammar.{commit_grammar}
use Rattle.nm_record.specs.Room.{limit_passed}
use Rattle.nm_replay.specs.StoredIndex.{AreCommits, HasPassed, HoldsIndex, HoldsNoIndex, HoldsWithin, IsNoCommit, PassesLimit, StayWithin, bodies_of}

-- commits with the same bytes are one
same-commit : (a b : Commit) → commit_grammar.is_value a ≡ true → commit_grammar.is_value b ≡ true → length (commit_grammar.bytes a) < 2 ^ 32 → commit_grammar.bytes a ≡ commit_grammar.bytes b → a ≡ b
same-commit a b first second short same =
    let read_b = commit_grammar.again b [] second (subst (λ l. length l < 2 ^ 32) same short) in
    ap (λ (p : Commit × List ℕ). p.0) (ok_is (a, []) (b, []) (sym (commit_grammar.again a [] first short) ∙ (ap (λ l. commit_grammar.read (l ++ [])) same ∙ read_b)))

head-of : (x y : List ℕ) (xs ys : List (List ℕ)) → x ∷ xs ≡ y ∷ ys → x ≡ y
head-of x y xs ys e = ap (λ (l : List (List ℕ)). get_or l 0 []) e

tail-of : (x y : List ℕ) (xs ys : List (List ℕ)) → x ∷ xs ≡ y ∷ ys → xs ≡ ys
tail-of x y xs ys e = ap (λ (l : List (List ℕ)). drop 1 l) e

same-commits : (xs ys : List Commit) → AreCommits xs → AreCommits ys → AreBodies (bodies_of xs) → bodies_of xs ≡ bodies_of ys → xs ≡ ys
same-commits [] [] first second fit e = refl
same-commits [] (y ∷ ys) first second fit e = let none = ap length e in absurd (omega (arith, none))
same-commits (x ∷ xs) [] first second fit e = let none = ap length e in absurd (omega (arith, none))
same-commits (x ∷ xs) (y ∷ ys) first second fit e =
    let here : x ≡ y = same-commit x y first.0 second.0 fit.0 (head-of (commit_grammar.bytes x) (commit_grammar.bytes y) (bodies_of xs) (bodies_of ys) e) in
    ap (λ (c : Commit). c ∷ xs) here ∙ ap (λ (l : List Commit). y ∷ l) (same-commits xs ys first.1 second.1 fit.1 (tail-of (commit_grammar.bytes x) (commit_grammar.bytes y) (bodies_of xs) (bodies_of ys) e))

-- the commit that comes after these, with this body, fits the index after them
next-fits : (index : Base) (xs ys : List Commit) (body : List ℕ) (more : List (List ℕ)) → AreCommits xs → AreCommits ys → AreBodies (bodies_of ys) → bodies_of ys ≡ bodies_of xs ++ body ∷ more → FitInTurn index ys
    → (commit : Commit) × (commit_grammar.is_value commit ≡ true) × (body ≡ commit_grammar.bytes commit) × Fits (folded index xs).files commit
next-fits index [] [] body more first second fit e turn = let none = ap length e in absurd (omega (arith, none))
next-fits index [] (y ∷ ys) body more first second fit e turn = (y, second.0, sym (head-of (commit_grammar.bytes y) body (bodies_of ys) more e), turn.0)
next-fits index (x ∷ xs) [] body more first second fit e turn = let none = ap length e in absurd (omega (arith, none))
next-fits index (x ∷ xs) (y ∷ ys) body more first second fit e turn =
    let here : y ≡ x = same-commit y x second.0 first.0 fit.0 (head-of (commit_grammar.bytes y) (commit_grammar.bytes x) (bodies_of ys) (bodies_of xs ++ body ∷ more) e) in
    next-fits (committed index x) xs ys body more first.1 second.1 fit.1 (tail-of (commit_grammar.bytes y) (commit_grammar.bytes x) (bodies_of ys) (bodies_of xs ++ body ∷ more) e)
    (subst (λ (c : Commit). FitInTurn (committed index c) ys) here turn.1)

pub held-once : (unique : (start : ℕ) (one other : List (List ℕ)) (bytes : List ℕ) → HasRecords start one bytes → HasRecords start other bytes → one ≡ other) (bytes : List ℕ) (a b : Base) → HoldsIndex bytes a → HoldsIndex bytes b → a ≡ b
held-once unique bytes a b h k =
    let same : h.commits ≡ k.commits = same-commits h.commits k.commits h.values k.values h.records.fit (unique 0 (bodies_of h.commits) (bodies_of k.commits) bytes h.records k.records) in
    h.index_is ∙ (ap (folded empty_index) same ∙ sym k.index_is)

pub not-bad : (unique : (start : ℕ) (one other : List (List ℕ)) (bytes : List ℕ) → HasRecords start one bytes → HasRecords start other bytes → one ≡ other)
    (sound : (start at : ℕ) (bodies : List (List ℕ)) (bytes : List ℕ) → HasRecords start bodies bytes → IsBroken start bytes at → ⊥)
    (bytes : List ℕ) (index : Base) (at : ℕ) → HoldsIndex bytes index → HoldsNoIndex bytes at → ⊥
not-bad unique sound bytes index at h (inl broken) = sound 0 at (bodies_of h.commits) bytes h.records broken
not-bad unique sound bytes index at h (inr bad) =
    let fault = bad.2 in
    let are : bodies_of h.commits ≡ bodies_of fault.commits ++ fault.body ∷ fault.more =
    unique 0 (bodies_of h.commits) bad.0 bytes h.records bad.1 ∙ (fault.bodies_are ∙ ap (λ (l : List (List ℕ)). l ++ fault.body ∷ fault.more) fault.before.bodies_are) in
    let found = next-fits empty_index fault.commits h.commits fault.body fault.more fault.before.values h.values h.records.fit are h.fit in
    fault.bad found.0 found.1 found.2 (subst (λ (b : Base). Fits b.files found.0) (sym fault.before.index_is) found.3)

-- ---- limits

-- some records, the index after one of which passes a limit, and where none before it does
module _ (commit : Commit) (others : List (List ℕ)) (limit : Limit) (value : commit_grammar.is_value commit ≡ true) where
  abbrev After : List Commit → List (List ℕ)
  After ys = bodies_of ys ++ commit_grammar.bytes commit ∷ others

  passes-none : (index : Base) → limit_passed index ≡ None → limit_passed index ≡ Some limit → ⊥
  passes-none index none some = let clash : None ≡ Some limit = sym none ∙ some in absurd (cc)

  -- no record before it is bad
  passed-well : (index : Base) (xs ys : List Commit) (body : List ℕ) (more : List (List ℕ)) → AreCommits xs → AreCommits ys → AreBodies (After ys) → After ys ≡ bodies_of xs ++ body ∷ more → FitInTurn index ys
      → Fits (folded index ys).files commit → limit_passed (committed (folded index ys) commit) ≡ Some limit → StayWithin index xs → IsNoCommit (folded index xs) body → ⊥
  passed-well index [] [] body more first second short e fit fits passed within bad = bad commit value (sym (head-of (commit_grammar.bytes commit) body others more e)) fits
  passed-well index [] (y ∷ ys) body more first second short e fit fits passed within bad = bad y second.0 (sym (head-of (commit_grammar.bytes y) body (After ys) more e)) fit.0
  passed-well index (x ∷ xs) [] body more first second short e fit fits passed within bad =
      let here : commit ≡ x = same-commit commit x value first.0 short.0 (head-of (commit_grammar.bytes commit) (commit_grammar.bytes x) others (bodies_of xs ++ body ∷ more) e) in
      passes-none (committed index x) within.0 (subst (λ (c : Commit). limit_passed (committed index c) ≡ Some limit) here passed)
  passed-well index (x ∷ xs) (y ∷ ys) body more first second short e fit fits passed within bad =
      let here : y ≡ x = same-commit y x second.0 first.0 short.0 (head-of (commit_grammar.bytes y) (commit_grammar.bytes x) (After ys) (bodies_of xs ++ body ∷ more) e) in
      passed-well (committed index y) xs ys body more first.1 second.1 short.1 (tail-of (commit_grammar.bytes y) (commit_grammar.bytes x) (After ys) (bodies_of xs ++ body ∷ more) e) fit.1 fits passed
      (subst (λ (c : Commit). StayWithin (committed index c) xs) (sym here) within.1) (subst (λ (c : Commit). IsNoCommit (folded (committed index c) xs) body) (sym here) bad)

  -- records of which no index passes one are others
  passed-stays : (index : Base) (xs ys : List Commit) → AreCommits xs → AreCommits ys → AreBodies (After ys) → After ys ≡ bodies_of xs → limit_passed (committed (folded index ys) commit) ≡ Some limit → StayWithin index xs → ⊥
  passed-stays index [] ys first second short e passed within = let none = ap length e in absurd (omega (arith, none, length-append (bodies_of ys) (commit_grammar.bytes commit ∷ others)))
  passed-stays index (x ∷ xs) [] first second short e passed within =
      let here : commit ≡ x = same-commit commit x value first.0 short.0 (head-of (commit_grammar.bytes commit) (commit_grammar.bytes x) others (bodies_of xs) e) in
      passes-none (committed index x) within.0 (subst (λ (c : Commit). limit_passed (committed index c) ≡ Some limit) here passed)
  passed-stays index (x ∷ xs) (y ∷ ys) first second short e passed within =
      let here : y ≡ x = same-commit y x second.0 first.0 short.0 (head-of (commit_grammar.bytes y) (commit_grammar.bytes x) (After ys) (bodies_of xs) e) in
      passed-stays (committed index y) xs ys first.1 second.1 short.1 (tail-of (commit_grammar.bytes y) (commit_grammar.bytes x) (After ys) (bodies_of xs) e) passed (subst (λ (c : Commit). StayWithin (committed index c) xs) (sym here) within.1)

-- two places at which a limit is passed first are one
one-passed : (index : Base) (xs ys : List Commit) (c d : Commit) (more others : List (List ℕ)) (one other : Limit) → AreCommits xs → AreCommits ys → commit_grammar.is_value c ≡ true → commit_grammar.is_value d ≡ true
    → AreBodies (bodies_of xs ++ commit_grammar.bytes c ∷ more) → bodies_of xs ++ commit_grammar.bytes c ∷ more ≡ bodies_of ys ++ commit_grammar.bytes d ∷ others
    → StayWithin index xs → StayWithin index ys → limit_passed (committed (folded index xs) c) ≡ Some one → limit_passed (committed (folded index ys) d) ≡ Some other → one ≡ other
one-passed index [] [] c d more others one other first second value_c value_d short e within stays p q =
    let here : c ≡ d = same-commit c d value_c value_d short.0 (head-of (commit_grammar.bytes c) (commit_grammar.bytes d) more others e) in
    let same : Some one ≡ Some other = sym p ∙ (ap (λ (x : Commit). limit_passed (committed index x)) here ∙ q) in
    cc
one-passed index [] (y ∷ ys) c d more others one other first second value_c value_d short e within stays p q =
    let here : c ≡ y = same-commit c y value_c second.0 short.0 (head-of (commit_grammar.bytes c) (commit_grammar.bytes y) more (bodies_of ys ++ commit_grammar.bytes d ∷ others) e) in
    let clash : None ≡ Some one = sym stays.0 ∙ (ap (λ (x : Commit). limit_passed (committed index x)) (sym here) ∙ p) in
    absurd (cc)
one-passed index (x ∷ xs) [] c d more others one other first second value_c value_d short e within stays p q =
    let here : x ≡ d = same-commit x d first.0 value_d short.0 (head-of (commit_grammar.bytes x) (commit_grammar.bytes d) (bodies_of xs ++ commit_grammar.bytes c ∷ more) others e) in
    let clash : None ≡ Some other = sym within.0 ∙ (ap (λ (k : Commit). limit_passed (committed index k)) here ∙ q) in
    absurd (cc)
one-passed index (x ∷ xs) (y ∷ ys) c d more others one other first second value_c value_d short e within stays p q =
    let here : x ≡ y = same-commit x y first.0 second.0 short.0 (head-of (commit_grammar.bytes x) (commit_grammar.bytes y) (bodies_of xs ++ commit_grammar.bytes c ∷ more) (bodies_of ys ++ commit_grammar.bytes d ∷ others) e) in
    one-passed (committed index x) xs ys c d more others one other first.1 second.1 value_c value_d short.1
    (tail-of (commit_grammar.bytes x) (commit_grammar.bytes y) (bodies_of xs ++ commit_grammar.bytes c ∷ more) (bodies_of ys ++ commit_grammar.bytes d ∷ others) e) within.1
    (subst (λ (k : Commit). StayWithin (committed index k) ys) (sym here) stays.1) p (subst (λ (k : Commit). limit_passed (committed (folded (committed index k) ys) d) ≡ Some other) (sym here) q)

-- the bodies that pass a limit, as commits
passed-are : (bodies : List (List ℕ)) (limit : Limit) (h : HasPassed bodies limit) → bodies ≡ bodies_of h.commits ++ commit_grammar.bytes h.commit ∷ h.more
passed-are bodies limit h = h.bodies_are ∙ ap (λ (l : List (List ℕ)). l ++ commit_grammar.bytes h.commit ∷ h.more) h.before.bodies_are

passed-fits : (bodies : List (List ℕ)) (limit : Limit) (h : HasPassed bodies limit) → Fits (folded empty_index h.commits).files h.commit
passed-fits bodies limit h = subst (λ (b : Base). Fits b.files h.commit) h.before.index_is h.fits

passed-after : (bodies : List (List ℕ)) (limit : Limit) (h : HasPassed bodies limit) → limit_passed (committed (folded empty_index h.commits) h.commit) ≡ Some limit
passed-after bodies limit h = subst (λ (b : Base). limit_passed (committed b h.commit) ≡ Some limit) h.before.index_is h.passed

pub passed-not-bad : (unique : (start : ℕ) (one other : List (List ℕ)) (bytes : List ℕ) → HasRecords start one bytes → HasRecords start other bytes → one ≡ other)
    (sound : (start at : ℕ) (bodies : List (List ℕ)) (bytes : List ℕ) → HasRecords start bodies bytes → IsBroken start bytes at → ⊥)
    (bytes : List ℕ) (limit : Limit) (at : ℕ) → PassesLimit bytes limit → HoldsNoIndex bytes at → ⊥
passed-not-bad unique sound bytes limit at h (inl broken) = sound 0 at h.0 bytes h.1 broken
passed-not-bad unique sound bytes limit at h (inr bad) =
    let passed = h.2 in
    let fault = bad.2 in
    let are = passed-are h.0 limit passed in
    let same : bodies_of passed.commits ++ commit_grammar.bytes passed.commit ∷ passed.more ≡ bodies_of fault.commits ++ fault.body ∷ fault.more =
    sym are ∙ (unique 0 h.0 bad.0 bytes h.1 bad.1 ∙ (fault.bodies_are ∙ ap (λ (l : List (List ℕ)). l ++ fault.body ∷ fault.more) fault.before.bodies_are)) in
    passed-well passed.commit passed.more limit passed.value empty_index fault.commits passed.commits fault.body fault.more fault.before.values passed.before.values (subst AreBodies are h.1.fit) same passed.before.fit
    (passed-fits h.0 limit passed) (passed-after h.0 limit passed) fault.within (subst (λ (b : Base). IsNoCommit b fault.body) fault.before.index_is fault.bad)

pub kept-not-passed : (unique : (start : ℕ) (one other : List (List ℕ)) (bytes : List ℕ) → HasRecords start one bytes → HasRecords start other bytes → one ≡ other)
    (bytes : List ℕ) (index : Base) (limit : Limit) → HoldsWithin bytes index → PassesLimit bytes limit → ⊥
kept-not-passed unique bytes index limit kept h =
    let passed = h.2 in
    let held : HoldsIndex bytes index = kept.held in
    let are = passed-are h.0 limit passed in
    let same : bodies_of passed.commits ++ commit_grammar.bytes passed.commit ∷ passed.more ≡ bodies_of held.commits = sym are ∙ unique 0 h.0 (bodies_of held.commits) bytes h.1 held.records in
    passed-stays passed.commit passed.more limit passed.value empty_index held.commits passed.commits held.values passed.before.values (subst AreBodies are h.1.fit) same (passed-after h.0 limit passed) kept.within

pub passed-once : (unique : (start : ℕ) (one other : List (List ℕ)) (bytes : List ℕ) → HasRecords start one bytes → HasRecords start other bytes → one ≡ other)
    (bytes : List ℕ) (one other : Limit) → PassesLimit bytes one → PassesLimit bytes other → one ≡ other
passed-once unique bytes one other h k =
    let p = h.2 in
    let q = k.2 in
    let are = passed-are h.0 one p in
    one-passed empty_index p.commits q.commits p.commit q.commit p.more q.more one other p.before.values q.before.values p.value q.value (subst AreBodies are h.1.fit)
    (sym are ∙ (unique 0 h.0 k.0 bytes h.1 k.1 ∙ passed-are k.0 other q)) p.within q.within (passed-after h.0 one p) (passed-after k.0 other q)
