-- A line more keeps where a session is, its commits, its answers and what the folder gave.
-- For the proofs of `a_line_more_keeps_the_answers`, `a_line_more_keeps_the_commits`, `a_line_more_keeps_the_given` and others.
use Rattle.std.proofs.Common.{◌≡◌, ◌⊎◌, ℕ, ℤ, ◌+◌, Bool, true, false, List, [], ◌∷◌, ◌++◌, Option, None, Some, IsSome, length, map, fold, refl, sym, ap, ◌∙◌, subst, arith, inl, inr, append-nil, append_assoc}
use Rattle.std.specs.List.{flat_map}
use Rattle.std.proofs.lemmas.Grind.{flat_map-append}
use Rattle.std.proofs.lemmas.List.{length-append}
use Rattle.nm_commit.specs.declared.change.Commit.{Commit}
use Rattle.nm_faults.specs.Faults.{Counts}
use Rattle.nm_model_index.specs.Index.{committed, folded}
use Rattle.nm_model_index.specs.declared.base.Base.{Base}
use Rattle.nm_log.specs.ParsedLine.{parse_line}
use Rattle.nm_model_machine.specs.declared.step.Step.{Step}
use Rattle.nm_maildir.specs.Observed.{ObservedMail}
use Rattle.nm_maildir.specs.Tree.{Tree}
use Rattle.nm_publish.specs.Published.{Published}
use Rattle.nm_history.specs.Call.{Devices}
use Rattle.nm_history.specs.Given.{Asks, GivenAlong}
use Rattle.nm_history.specs.LineAnswers.{HasAnswer, HasCause, LineAnswers}
use Rattle.nm_history.specs.LineCommits.{EachMakes, IsOnItsWay, LineCommits, Makes, MakesCommits, RenamesComeAfterTags}
use Rattle.nm_history.specs.LineResult.{IsLineResult, Place, StandsAt, before_at, begin_step, commit_steps, line_steps, reply_step}
use Rattle.nm_history.specs.Lines.{Along, Before, IsIndexAt, RunLine, after_line, after_lines, at_first, begun, begun_by, closed_after, tree_after, tree_after_all}
use Rattle.nm_history.specs.MachineRun.{Replied, reply_to}
use Rattle.nm_writer.specs.AfterCommit.{AreWithin}

pub fold-append : {A B : Type 0} (f : A → B → A) (a : A) (xs ys : List B) → fold f a (xs ++ ys) ≡ fold f (fold f a xs) ys
fold-append f a [] ys = refl
fold-append f a (x ∷ xs) ys = fold-append f (f a x) xs ys

-- the commits that steps begin

pub begun-append : (steps more : List Step) → begun (steps ++ more) ≡ begun steps ++ begun more
begun-append steps more = flat_map-append begun_by steps more

begun-commits : (made : List Commit) → begun (flat_map commit_steps made) ≡ made
begun-commits [] = refl
begun-commits (commit ∷ made) = ap (λ (l : List Commit). commit ∷ l) (begun-commits made)

begun-flight : (in_flight : List Commit) → begun (map begin_step in_flight) ≡ in_flight
begun-flight [] = refl
begun-flight (commit ∷ in_flight) = ap (λ (l : List Commit). commit ∷ l) (begun-flight in_flight)

pub begun-replies : (replies : List Replied) → begun (map reply_step replies) ≡ []
begun-replies [] = refl
begun-replies (replied ∷ replies) = begun-replies replies

pub begun-line : (made in_flight : List Commit) (replies : List Replied) → begun (line_steps made in_flight replies) ≡ made ++ in_flight
begun-line made in_flight replies =
    begun-append (flat_map commit_steps made) (map begin_step in_flight ++ map reply_step replies)
    ∙ ap (λ (l : List Commit). l ++ begun (map begin_step in_flight ++ map reply_step replies)) (begun-commits made)
    ∙ ap (λ (l : List Commit). made ++ l) (begun-append (map begin_step in_flight) (map reply_step replies)
    ∙ ap (λ (l : List Commit). l ++ begun (map reply_step replies)) (begun-flight in_flight)
    ∙ ap (λ (l : List Commit). in_flight ++ l) (begun-replies replies) ∙ append-nil in_flight)

-- the revision after commits

pub revision-folded : (index : Base) (commits : List Commit) → (folded index commits).revision ≡ index.revision + length commits
revision-folded index [] = omega arith
revision-folded index (commit ∷ commits) = revision-folded (committed index commit) commits ∙ omega arith

-- lists of which one end is empty

nil-left : {X : Type 0} (xs ys : List X) → xs ++ ys ≡ [] → xs ≡ []
nil-left [] ys e = refl
nil-left (x ∷ xs) ys e = absurd (cc)

nil-right : {X : Type 0} (xs ys : List X) → xs ++ ys ≡ [] → ys ≡ []
nil-right [] ys e = e
nil-right (x ∷ xs) ys e = absurd (cc)

-- what was on its way before a line, or what the line made, is nothing
abbrev pub Apart : List Commit → List Commit → List Commit → Type 0
Apart way made in_flight = (way ≡ []) ⊎ (made ++ in_flight ≡ [])

pub weave : (acknowledged way made in_flight : List Commit) → Apart way made in_flight → (acknowledged ++ way) ++ (made ++ in_flight) ≡ (acknowledged ++ made) ++ (way ++ in_flight)
weave acknowledged way made in_flight (inl none) =
    ap (λ (l : List Commit). (acknowledged ++ l) ++ (made ++ in_flight)) none
    ∙ ap (λ (l : List Commit). l ++ (made ++ in_flight)) (append-nil acknowledged)
    ∙ sym (append_assoc acknowledged made in_flight)
    ∙ sym (ap (λ (l : List Commit). (acknowledged ++ made) ++ (l ++ in_flight)) none)
weave acknowledged way made in_flight (inr none) =
    ap (λ (l : List Commit). (acknowledged ++ way) ++ l) none
    ∙ append-nil (acknowledged ++ way)
    ∙ sym (ap (λ (l : List Commit). l ++ way) (ap (λ (l : List Commit). acknowledged ++ l) (nil-left made in_flight none) ∙ append-nil acknowledged))
    ∙ sym (ap (λ (l : List Commit). (acknowledged ++ made) ++ l) (ap (λ (l : List Commit). way ++ l) (nil-right made in_flight none) ∙ append-nil way))

-- a line leaves at most one commit on its way, and none where the writer stays open

pub one-on-way : (failed : Bool) (in_flight : List Commit) → IsOnItsWay failed in_flight → (in_flight ≡ []) ⊎ ((commit : Commit) × (in_flight ≡ commit ∷ []))
one-on-way failed [] h = inl refl
one-on-way failed (commit ∷ []) h = inr (commit, refl)
one-on-way true (commit ∷ other ∷ more) h = absurd (omega (arith, h))
one-on-way false (commit ∷ other ∷ more) h = absurd (omega (arith, h))

-- the writer that is open after a line was open before it, and the line left nothing on its way
still-open : (failed : Bool) (closed : Option ℕ) (faults : ℕ) (in_flight : List Commit) → IsOnItsWay failed in_flight → closed_after closed failed faults ≡ None → (closed ≡ None) × (in_flight ≡ [])
still-open false closed faults [] h e = (e, refl)
still-open false closed faults (commit ∷ more) h e = absurd (omega (arith, h))
still-open true closed faults in_flight h e = absurd (cc)

apart-by : (closed : Option ℕ) (way made in_flight : List Commit) → (closed ≡ None → way ≡ []) → (IsSome closed → made ++ in_flight ≡ []) → Apart way made in_flight
apart-by None way made in_flight none idle = inl (none refl)
apart-by (Some fault) way made in_flight none idle = inr (idle refl)

-- what comes before a line, by its parts
abbrev before-with : ℕ → ℕ → ℕ → Option ℕ → ℕ → Before
before-with revision mail disk closed left = record { revision = revision; mail_faults = mail; disk_faults = disk; closed = closed; left = left }

before-is : (r m d : ℕ) (c : Option ℕ) (l s n e : ℕ) (k : Option ℕ) (o : ℕ) → r ≡ s → m ≡ n → d ≡ e → c ≡ k → l ≡ o → before-with r m d c l ≡ before-with s n e k o
before-is r m d c l s n e k o p q u v w =
    ap (λ x. before-with x m d c l) p ∙ ap (λ x. before-with s x d c l) q ∙ ap (λ x. before-with s n x c l) u ∙ ap (λ (x : Option ℕ). before-with s n e x l) v
    ∙ ap (λ x. before-with s n e k x) w

-- where these steps begin the same commits, and perhaps more, an index stays where it is
pub index-kept : (opening : Base) (steps others : List Step) (more : List Commit) → begun others ≡ begun steps ++ more → (revision : ℕ) (index : Base) → IsIndexAt opening steps revision index → IsIndexAt opening others revision index
index-kept opening steps others more grown revision index h = record {
  front = h.front;
  more = h.more ++ more;
  begun_are = grown ∙ ap (λ (l : List Commit). l ++ more) h.begun_are ∙ append_assoc h.front h.more more;
  revision_is = h.revision_is;
  index_is = h.index_is;
}

-- and so does the answer to a line
pub answer-kept : (opening : Base) (moment : ℤ) (steps others : List Step) (more : List Commit) → begun others ≡ begun steps ++ more → (before : Before) (ran : RunLine)
    → HasAnswer opening moment steps before ran → HasAnswer opening moment others before ran
answer-kept opening moment steps others more grown before ran h = record {
  index_before = h.index_before;
  index = h.index;
  at_before = index-kept opening steps others more grown _ _ h.at_before;
  at_after = index-kept opening steps others more grown _ _ h.at_after;
  cause = h.cause;
  disk = h.disk;
  status = h.status;
  text = h.text;
}

-- and what it asked the folder
pub asks-kept : (opening : Base) (moment : ℤ) (steps others : List Step) (more : List Commit) → begun others ≡ begun steps ++ more → (before : Before) (ran : RunLine) (old new : ObservedMail)
    → Asks opening moment steps before ran old new → Asks opening moment others before ran old new
asks-kept opening moment steps others more grown before ran old new h = record {
  index = h.index;
  at = index-kept opening steps others more grown _ _ h.at;
  asks = h.asks;
  unasked = h.unasked;
  tree = h.tree;
  noted = h.noted;
  never_falls = h.never_falls;
  disk_never_falls = h.disk_never_falls;
}

module _ (opening : Base) (moment : ℤ) (phase : ℕ) (entry : Devices) (steps taken : List Step) (lines : List RunLine) (acknowledged : List Commit)
    (old new : Place) (ran : RunLine) (at : StandsAt opening entry steps lines acknowledged old) (result : IsLineResult moment phase old ran taken new) where
  pub apart : Apart at.in_flight result.made result.in_flight
  apart = apart-by old.writer.closed at.in_flight result.made result.in_flight at.none_open result.has_made.idle

  pub begun-all : begun (steps ++ taken) ≡ (acknowledged ++ result.made) ++ (at.in_flight ++ result.in_flight)
  begun-all =
      begun-append steps taken
      ∙ ap (λ (l : List Commit). l ++ begun taken) at.begun_are
      ∙ ap (λ (l : List Commit). (acknowledged ++ at.in_flight) ++ l) (ap begun result.steps ∙ begun-line result.made result.in_flight (reply_to ran))
      ∙ weave acknowledged at.in_flight result.made result.in_flight apart

  pub shown-all : new.writer.shown ≡ folded opening (acknowledged ++ result.made)
  shown-all =
      result.has_made.shown ∙ ap (λ (i : Base). folded i result.made) at.shown ∙ sym (fold-append committed opening acknowledged result.made)

  pub revision-before : (after_lines (at_first opening entry) lines).revision ≡ opening.revision + length acknowledged
  revision-before =
      ap (λ (b : Before). b.revision) at.before ∙ ap (λ (i : Base). i.revision) at.shown ∙ revision-folded opening acknowledged

  pub revision-after : ran.1.revision ≡ opening.revision + length (acknowledged ++ result.made)
  revision-after = result.revision ∙ ap (λ (i : Base). i.revision) shown-all ∙ revision-folded opening (acknowledged ++ result.made)

  after-is : after_line (before_at old) ran ≡ before_at new
  after-is =
      before-is _ _ _ _ _ _ _ _ _ _ result.revision result.mail_faults result.disk_faults
      (ap (λ n. closed_after old.writer.closed ran.1.disk_failed n) result.disk_faults ∙ sym result.closed) (sym result.left)

  pub before-next : after_lines (at_first opening entry) (lines ++ ran ∷ []) ≡ before_at new
  before-next =
      fold-append after_line (at_first opening entry) lines (ran ∷ []) ∙ ap (λ (b : Before). after_line b ran) at.before ∙ after-is

  pub stands-more : StandsAt opening entry (steps ++ taken) (lines ++ ran ∷ []) (acknowledged ++ result.made) new
  stands-more = record {
    in_flight = at.in_flight ++ result.in_flight;
    begun_are = begun-all;
    begun_by_writer =
        result.has_made.begun_are ∙ ap (λ (l : List Commit). l ++ (result.made ++ result.in_flight)) at.begun_by_writer
        ∙ weave acknowledged at.in_flight result.made result.in_flight apart;
    none_open = λ is_open.
        let still = still-open ran.1.disk_failed old.writer.closed new.disk_faults result.in_flight result.on_its_way (sym result.closed ∙ is_open) in
        ap (λ (l : List Commit). l ++ result.in_flight) (at.none_open still.0) ∙ still.1;
    acked =
        ap length result.has_made.acked ∙ length-append old.writer.acked result.has_made.clocks
        ∙ ap (λ n. n + length result.has_made.clocks) at.acked ∙ ap (λ n. length acknowledged + n) result.has_made.one_each
        ∙ sym (length-append acknowledged result.made);
    opens = ap (λ (p : Published). p.opening) result.has_made.published ∙ at.opens;
    published = ap (λ (p : Published). p.commits) result.has_made.published ∙ ap (λ (l : List Commit). l ++ result.made) at.published;
    shown = shown-all;
    before = before-next;
    tree = result.tree ∙ (ap (λ (t : Option Tree). tree_after t ran) at.tree ∙ sym (fold-append tree_after entry.mail.tree lines (ran ∷ [])));
  }

  -- the commits of the line
  makes-commits : MakesCommits opening moment (tree_after_all entry.mail.tree lines) acknowledged ran result.made result.in_flight
  makes-commits = record {
    revision = revision-after;
    makes =
        let count : length old.writer.acked + length result.made ≡ length (acknowledged ++ result.made) =
        ap (λ n. n + length result.made) at.acked ∙ sym (length-append acknowledged result.made) in
        subst (λ n. Makes ran.1.outcome moment (tree_after_all entry.mail.tree lines) (folded opening acknowledged) ran.0 ran.1.given n result.made result.in_flight) count
        (subst (λ (i : Base). Makes ran.1.outcome moment (tree_after_all entry.mail.tree lines) i ran.0 ran.1.given (length old.writer.acked + length result.made) result.made result.in_flight) at.shown
        (subst (λ (t : Option Tree). Makes ran.1.outcome moment t old.writer.shown ran.0 ran.1.given (length old.writer.acked + length result.made) result.made result.in_flight) at.tree result.makes));
    renames_after = subst (λ (i : Base). RenamesComeAfterTags (parse_line ran.0) ran.0.input moment i ran.1.given result.made) at.shown result.renames_after;
    on_its_way = result.on_its_way;
    within =
        subst (λ n. AreWithin n (folded opening acknowledged) (result.made ++ result.in_flight)) at.acked
        (subst (λ (i : Base). AreWithin (length old.writer.acked) i (result.made ++ result.in_flight)) at.shown result.has_made.within);
  }

  makes-more : (tree : Option Tree) (earlier commits : List Commit) (before : List RunLine) → tree_after_all tree before ≡ tree_after_all entry.mail.tree lines
      → EachMakes opening moment tree earlier before commits acknowledged
      → EachMakes opening moment tree earlier (before ++ ran ∷ []) (commits ++ (result.made ++ result.in_flight)) (acknowledged ++ result.made)
  makes-more tree earlier commits [] same h = (
    result.made,
    result.in_flight,
    [],
    ap (λ (l : List Commit). l ++ (result.made ++ result.in_flight)) h.0 ∙ ap (λ (l : List Commit). result.made ++ l) (sym (append-nil result.in_flight)),
    subst (λ (t : Option Tree). MakesCommits opening moment t earlier ran result.made result.in_flight) (sym same)
        (subst (λ (l : List Commit). MakesCommits opening moment (tree_after_all entry.mail.tree lines) l ran result.made result.in_flight) h.1 makes-commits),
    (refl, ap (λ (l : List Commit). l ++ result.made) h.1),
  )
  makes-more tree earlier commits (first ∷ before) same h = (
    h.0,
    h.1,
    h.2 ++ (result.made ++ result.in_flight),
    ap (λ (l : List Commit). l ++ (result.made ++ result.in_flight)) h.3
        ∙ append_assoc h.0 (h.1 ++ h.2) (result.made ++ result.in_flight)
        ∙ ap (λ (l : List Commit). h.0 ++ l) (append_assoc h.1 h.2 (result.made ++ result.in_flight)),
    h.4,
    makes-more (tree_after tree first) (earlier ++ h.0) h.2 before same h.5,
  )

  pub commits-more : LineCommits opening moment entry.mail.tree steps lines acknowledged
      → LineCommits opening moment entry.mail.tree (steps ++ taken) (lines ++ ran ∷ []) (acknowledged ++ result.made)
  commits-more h =
      subst (λ (l : List Commit). EachMakes opening moment entry.mail.tree [] (lines ++ ran ∷ []) l (acknowledged ++ result.made))
      (sym (begun-append steps taken ∙ ap (λ (l : List Commit). begun steps ++ l) (ap begun result.steps ∙ begun-line result.made result.in_flight (reply_to ran))))
      (makes-more entry.mail.tree [] (begun steps) lines refl h)

  index-old : IsIndexAt opening (steps ++ taken) (before_at old).revision old.writer.shown
  index-old = index-kept opening steps (steps ++ taken) (begun taken) (begun-append steps taken) _ _ (record {
    front = acknowledged;
    more = at.in_flight;
    begun_are = at.begun_are;
    revision_is = ap (λ (i : Base). i.revision) at.shown ∙ revision-folded opening acknowledged;
    index_is = at.shown;
  })

  index-new : IsIndexAt opening (steps ++ taken) ran.1.revision new.writer.shown
  index-new = record {
    front = acknowledged ++ result.made;
    more = at.in_flight ++ result.in_flight;
    begun_are = begun-all;
    revision_is = revision-after;
    index_is = shown-all;
  }

  has-answer : HasAnswer opening moment (steps ++ taken) (before_at old) ran
  has-answer = record {
    index_before = old.writer.shown;
    index = new.writer.shown;
    at_before = index-old;
    at_after = index-new;
    cause =
        subst (λ n. HasCause ran.1.outcome (parse_line ran.0) ran.0.input (before_at old) old.writer.shown moment ran.1.given n ran.1.disk_failed) (sym result.mail_faults) result.cause;
    disk = subst (λ n. Counts ran.1.disk_failed old.disk_faults n) (sym result.disk_faults) result.disk;
    status = result.status;
    text = result.text;
  }

  answers-more : (before : Before) (done : List RunLine) → after_lines before done ≡ before_at old → Along (HasAnswer opening moment steps) before done
      → Along (HasAnswer opening moment (steps ++ taken)) before (done ++ ran ∷ [])
  answers-more before [] e h = (subst (λ (b : Before). HasAnswer opening moment (steps ++ taken) b ran) (sym e) has-answer, tt)
  answers-more before (first ∷ done) e h = (
    answer-kept opening moment steps (steps ++ taken) (begun taken) (begun-append steps taken) before first h.0,
    answers-more (after_line before first) done e h.1,
  )

  pub line-answers-more : LineAnswers opening moment (at_first opening entry) steps lines → LineAnswers opening moment (at_first opening entry) (steps ++ taken) (lines ++ ran ∷ [])
  line-answers-more h = answers-more (at_first opening entry) lines at.before h

  -- what the line asked the folder
  asks-it : Asks opening moment (steps ++ taken) (before_at old) ran old.mail new.mail
  asks-it = record {
    index = old.writer.shown;
    at = index-old;
    asks = result.asks;
    unasked = result.unasked;
    tree = result.tree;
    noted = result.mail_faults;
    never_falls = result.mail_never_falls;
    disk_never_falls = omega (arith, result.disk_never_falls, result.disk_faults);
  }

  given-along : (before : Before) (done : List RunLine) (first_mail : ObservedMail) → after_lines before done ≡ before_at old → GivenAlong opening moment steps before done first_mail old.mail
      → GivenAlong opening moment (steps ++ taken) before (done ++ ran ∷ []) first_mail new.mail
  given-along before [] first_mail e h = (
    new.mail,
    subst (λ (m : ObservedMail). Asks opening moment (steps ++ taken) before ran m new.mail) h
        (subst (λ (b : Before). Asks opening moment (steps ++ taken) b ran old.mail new.mail) (sym e) asks-it),
    refl,
  )
  given-along before (first ∷ done) first_mail e h = (
    h.0,
    asks-kept opening moment steps (steps ++ taken) (begun taken) (begun-append steps taken) before first first_mail h.0 h.1,
    given-along (after_line before first) done h.0 e h.2,
  )

  pub given-more : GivenAlong opening moment steps (at_first opening entry) lines entry.mail old.mail
      → GivenAlong opening moment (steps ++ taken) (at_first opening entry) (lines ++ ran ∷ []) entry.mail new.mail
  given-more h = given-along (at_first opening entry) lines entry.mail at.before h
