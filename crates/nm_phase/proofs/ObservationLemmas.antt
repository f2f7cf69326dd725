-- What lanes saw, and where it is in the log. For the proofs of `reads` and `barrier`.
use Rattle.std.proofs.Common.{◌≡◌, MatchOption, OnErr, OnOk, Result, Ok, Err, replicate, ℕ, ℤ, ◌+◌, ◌<◌, ◌≤◌, true, List, [], ◌∷◌, ◌++◌, Option, None, Some, IfSome, drop, get_or, length, slice_get, slice_set, zero, suc, refl, sym, ap, ◌∙◌, subst, arith, append-nil, append_assoc}
use Rattle.std.specs.List.{All, AllByRecursion, AllZip, slice_index_or}
use Rattle.std.specs.Option.{option_to_list}
use Rattle.std.proofs.lemmas.List.{drop_more, length-append}
use Rattle.logbook.specs.Pages.{Book}
use Rattle.nm_commit.specs.declared.change.Commit.{Commit}
use Rattle.nm_dates.specs.Seconds.{IsMoment}
use Rattle.nm_model_index.specs.Index.{folded}
use Rattle.nm_model_index.specs.declared.base.Base.{Base}
use Rattle.nm_lanes.specs.declared.script.Phase.{Phase}
use Rattle.nm_lanes.specs.declared.script.ScriptLine.{ScriptLine}
use Rattle.nm_publish.specs.Published.{GoesOn, Published, index_of}
use Rattle.nm_phase.specs.LaneLog.{IsAnswerNoted, IsLaneReadNoted}
use Rattle.nm_line.specs.LaneRead.{IsAnswerOn}
use Rattle.nm_trace.specs.Trace.{AreOfOthers, IsPlaceOf, made_in}
use Rattle.nm_phase.specs.Observations.{AreKnown, AreObservations, HasAnswered, HasSeen, IsLaneAt, IsSeen, IsSeenAt, IsObservation, KeepsLane, MayBeOf}
use Rattle.nm_trace.specs.declared.trace.Mark.{Mark}
use Rattle.nm_trace.specs.declared.reserved_log.ReservedLog.{ReservedLog}
use Rattle.nm_phase.specs.declared.reader_lane.ReaderLane.{ReaderLane}
use Rattle.nm_phase.specs.declared.reader_lane.Observation.{Observation}
use Rattle.nm_writer.specs.Writer.{WriterState}

-- ---- beginnings of one list

pub goes-same : (p : Published) → GoesOn p p
goes-same p = record { book = refl; opening = refl; commits = ([], append-nil p.commits) }

pub goes-far : (a b c : Published) → GoesOn a b → GoesOn b c → GoesOn a c
goes-far a b c h k = record {
  book = k.book ∙ h.book;
  opening = k.opening ∙ h.opening;
  commits = (h.commits.0 ++ k.commits.0, sym (append_assoc a.commits h.commits.0 k.commits.0) ∙ (ap (λ (l : List Commit). l ++ k.commits.0) h.commits.1 ∙ k.commits.1));
}

-- of two beginnings of one list the shorter begins the longer
begins : (xs ys p q : List Commit) → xs ++ p ≡ ys ++ q → length xs ≤ length ys → (zs : List Commit) × (ys ≡ xs ++ zs)
begins [] ys p q e few = (ys, refl)
begins (x ∷ xs) [] p q e few = absurd (omega (arith, few))
begins (x ∷ xs) (y ∷ ys) p q e few =
    let head : x ≡ y = cc in
    let tail : xs ++ p ≡ ys ++ q = cc in
    let rest = begins xs ys p q tail (omega (arith, few)) in
    (rest.0, ap (λ (l : List Commit). y ∷ l) rest.1 ∙ ap (λ (c : Commit). c ∷ (xs ++ rest.0)) (sym head))

-- ---- observations

pub observations-later : (moment : ℤ) (lines : List ScriptLine) (known more : Published) (observations : List Observation) → GoesOn known more → AreObservations moment lines known observations → AreObservations moment lines more observations
observations-later moment lines known more [] on h = tt
observations-later moment lines known more (observation ∷ observations) on h = (
  record { line = h.0.line; is_line = h.0.is_line; saw = h.0.saw; before = goes-far h.0.saw known more h.0.before on; seen = h.0.seen },
  observations-later moment lines known more observations on h.1,
)

pub observations-more : (moment : ℤ) (lines : List ScriptLine) (known : Published) (observations : List Observation) (observation : Observation) → AreObservations moment lines known observations → IsObservation moment lines known observation
    → AreObservations moment lines known (observations ++ observation ∷ [])
observations-more moment lines known [] observation h one = (one, tt)
observations-more moment lines known (first ∷ observations) observation h one = (h.0, observations-more moment lines known observations observation h.1 one)

-- ---- the lanes

pub all-at : {X Y : Type 0} (P : X → Type 0) (R : X → Y → Type 0) (Q : Y → Type 0) → ((x : X) (y : Y) → P x → R x y → Q y) → (xs : List X) (ys : List Y) → All P xs → AllZip R xs ys
    → (k : ℕ) (d : Y) → k < length ys → Q (slice_index_or ys k d)
all-at P R Q f [] [] h z k d within = absurd (omega (arith, within))
all-at P R Q f [] (y ∷ ys) h z k d within = absurd z
all-at P R Q f (x ∷ xs) [] h z k d within = absurd z
all-at P R Q f (x ∷ xs) (y ∷ ys) h z zero d within = f x y (h zero x (omega arith)) z.0
all-at P R Q f (x ∷ xs) (y ∷ ys) h z (suc k) d within = all-at P R Q f xs ys (λ j e w. h (suc j) e (omega (arith, w))) z.1 k d (omega (arith, within))

pub all-through : {X Y : Type 0} (P : X → Type 0) (R : X → Y → Type 0) (Q : Y → Type 0) → ((x : X) (y : Y) → P x → R x y → Q y) → (xs : List X) (ys : List Y) → All P xs → AllZip R xs ys → All Q ys
all-through P R Q f xs ys h z = λ k d within. all-at P R Q f xs ys h z k d within

pub zip-same : {X : Type 0} (R : X → X → Type 0) → ((x : X) → R x x) → (xs : List X) → AllZip R xs xs
zip-same R same [] = tt
zip-same R same (x ∷ xs) = (same x, zip-same R same xs)

pub zip-far : {X : Type 0} (R : X → X → Type 0) → ((x y z : X) → R x y → R y z → R x z) → (xs ys zs : List X) → AllZip R xs ys → AllZip R ys zs → AllZip R xs zs
zip-far R far [] [] [] h k = tt
zip-far R far [] [] (z ∷ zs) h k = absurd k
zip-far R far [] (y ∷ ys) zs h k = absurd h
zip-far R far (x ∷ xs) [] zs h k = absurd h
zip-far R far (x ∷ xs) (y ∷ ys) [] h k = absurd k
zip-far R far (x ∷ xs) (y ∷ ys) (z ∷ zs) h k = (far x y z h.0 k.0, zip-far R far xs ys zs h.1 k.1)

pub zip-set : {X : Type 0} (R : X → X → Type 0) → ((x : X) → R x x) → (xs : List X) (i : ℕ) (x y : X) → slice_get xs i ≡ Some x → R x y → AllZip R xs (slice_set xs i y)
zip-set R same [] i x y is h = absurd (cc)
zip-set R same (first ∷ xs) zero x y is h = let head : first ≡ x = cc in (subst (λ f. R f y) (sym head) h, zip-same R same xs)
zip-set R same (first ∷ xs) (suc i) x y is h = (same first, zip-set R same xs i x y is h)

pub lane-same : (lane : ReaderLane) → KeepsLane lane lane
lane-same lane = record { moment = refl; phases = refl; next = refl; book = refl }

pub lane-far : (a b c : ReaderLane) → KeepsLane a b → KeepsLane b c → KeepsLane a c
lane-far a b c h k = record { moment = k.moment ∙ h.moment; phases = k.phases ∙ h.phases; next = k.next ∙ h.next; book = k.book ∙ h.book }

all-set-at : {X : Type 0} (P : X → Type 0) (xs : List X) (i : ℕ) (y : X) → All P xs → P y → (k : ℕ) (d : X) → k < length (slice_set xs i y) → P (slice_index_or (slice_set xs i y) k d)
all-set-at P [] i y h p k d within = absurd (omega (arith, within))
all-set-at P (x ∷ xs) zero y h p zero d within = p
all-set-at P (x ∷ xs) zero y h p (suc k) d within = h (suc k) d (omega (arith, within))
all-set-at P (x ∷ xs) (suc i) y h p zero d within = h zero d (omega arith)
all-set-at P (x ∷ xs) (suc i) y h p (suc k) d within = all-set-at P xs i y (λ j e w. h (suc j) e (omega (arith, w))) p k d (omega (arith, within))

pub all-set : {X : Type 0} (P : X → Type 0) (xs : List X) (i : ℕ) (y : X) → All P xs → P y → All P (slice_set xs i y)
all-set P xs i y h p = λ k d within. all-set-at P xs i y h p k d within

-- ---- what was seen is noted

pub some-same : {X : Type 0} (x y : X) → Some x ≡ Some y → x ≡ y
some-same x y e = cc

pub may-be : (moment : ℤ) (lines : List ScriptLine) (at : ℕ) (line : ScriptLine) (shown : Published) (observation : Observation) (rest : List Observation) → slice_get lines at ≡ Some line → AreKnown moment lines shown (observation ∷ rest)
    → MayBeOf moment at line shown observation
may-be moment lines at line shown observation rest is h = record {
  known = h.known;
  goes_on = h.goes_on;
  saw = h.sights_are.0.saw;
  before = h.sights_are.0.before;
  seen = λ here.
      let same : h.sights_are.0.line ≡ line = some-same h.sights_are.0.line line (sym h.sights_are.0.is_line ∙ (ap (slice_get lines) here ∙ is)) in
      subst (λ (l : ScriptLine). IsSeen moment l h.sights_are.0.saw observation) same h.sights_are.0.seen;
}

module _ (moment : ℤ) (phase at : ℕ) (line : ScriptLine) (writer : WriterState) (observation : Observation) (before after : ReservedLog) (now place : ℕ)
    (counts : (index : Base) (commits : List Commit) → (folded index commits).revision ≡ index.revision + length commits) (shown_is : index_of writer.published ≡ writer.shown) (now_is : now ≡ writer.shown.revision)
    (may : MayBeOf moment at line writer.published observation) (seen : IsSeenAt at line.lane before.marks.0 now observation place)
    (noted : (index : Base) → observation.revision ≡ index.revision → IsAnswerOn moment index line observation.answered → IsAnswerNoted moment phase index line place before after) where
  abbrev here : IsSeen moment line may.saw observation
  here = may.seen seen.at_is

  one-opening : may.saw.opening ≡ writer.published.opening
  one-opening = sym may.before.opening ∙ may.goes_on.opening

  lengths : length may.saw.commits + seen.behind ≡ length writer.published.commits
  lengths =
      let saw : observation.revision ≡ may.saw.opening.revision + length may.saw.commits = here.revision ∙ counts may.saw.opening may.saw.commits in
      let is : now ≡ writer.published.opening.revision + length writer.published.commits =
      now_is ∙ (ap (λ (b : Base). b.revision) (sym shown_is) ∙ counts writer.published.opening writer.published.commits) in
      omega (arith, saw, is, seen.revision, ap (λ (b : Base). b.revision) one-opening)

  shorter : (later : List Commit) × (writer.published.commits ≡ may.saw.commits ++ later)
  shorter = begins may.saw.commits writer.published.commits may.before.commits.0 may.goes_on.commits.0 (may.before.commits.1 ∙ sym may.goes_on.commits.1) (omega (arith, lengths))

  later-length : length shorter.0 ≡ seen.behind
  later-length = omega (arith, lengths, ap length shorter.1 ∙ length-append may.saw.commits shorter.0)

  pub seen-noted : IsLaneReadNoted moment phase writer line before after
  seen-noted = record {
    index = index_of may.saw;
    at = place;
    noted = noted (index_of may.saw) here.revision here.answer;
    seen = may.saw.commits;
    later = shorter.0;
    both = shorter.1;
    index_is = ap (λ (b : Base). folded b may.saw.commits) one-opening;
    place = subst (λ (n : ℕ). IsPlaceOf line.lane n before.marks.0 place) (sym later-length) seen.has_place;
  }

drop-all : (ms : List Mark) → drop (length ms) ms ≡ []
drop-all [] = refl
drop-all (m ∷ ms) = drop-all ms

at-end : (lane : ℕ) (ms : List Mark) (n : ℕ) → n ≡ length ms → IsPlaceOf lane 0 ms n
at-end lane ms n is =
    let none : [] ≡ drop n ms = sym (ap (λ (k : ℕ). drop k ms) is ∙ drop-all ms) in
    record { within = omega (arith, is); others = subst (AreOfOthers lane) none tt; made = ap made_in (sym none) }

pub anew-noted : (moment : ℤ) (phase : ℕ) (line : ScriptLine) (writer : WriterState) (before after : ReservedLog) (end : ℕ) → index_of writer.published ≡ writer.shown → end ≡ length before.marks.0
    → IsAnswerNoted moment phase writer.shown line end before after → IsLaneReadNoted moment phase writer line before after
anew-noted moment phase line writer before after end shown_is end_is noted = record {
  index = writer.shown;
  at = end;
  noted = noted;
  seen = writer.published.commits;
  later = [];
  both = sym (append-nil writer.published.commits);
  index_is = sym shown_is;
  place = at-end line.lane before.marks.0 end end_is;
}

-- ---- the lanes after a phase

module _ (moment : ℤ) (phases : List Phase) (number : ℕ) (book : Book) where
  module _ (phase : Phase) (is : slice_get phases number ≡ Some phase) (before after : ReaderLane) (h : IsLaneAt moment phases number book before) (seen : HasSeen before after) where
    abbrev next : (after.at ≡ before.at + 1) × AreObservations before.setting.now.moment phase.lines after.reader after.observations
    next = seen.next phase (ap (λ (l : List Phase). slice_get l before.at) h.phases_are ∙ (ap (slice_get phases) h.next_is ∙ is))

    pub lane-seen : IsLaneAt moment phases (number + 1) book after
    lane-seen = record {
      moment_is = seen.moment ∙ h.moment_is;
      phases_are = seen.phases ∙ h.phases_are;
      next_is = next.0 ∙ ap (λ (n : ℕ). n + 1) h.next_is;
      book_is = seen.book ∙ h.book_is;
    }

    pub lane-lane_answer : HasAnswered moment phase.lines book after
    lane-lane_answer = record { book_is = seen.book ∙ h.book_is; observations = subst (λ (m : ℤ). AreObservations m phase.lines after.reader after.observations) h.moment_is next.1 }

  pub lane-kept : (before after : ReaderLane) → IsLaneAt moment phases number book before → KeepsLane before after → IsLaneAt moment phases number book after
  lane-kept before after h kept = record {
    moment_is = kept.moment ∙ h.moment_is;
    phases_are = kept.phases ∙ h.phases_are;
    next_is = kept.next ∙ h.next_is;
    book_is = kept.book ∙ h.book_is;
  }

  pub lane-in : (lane : ReaderLane) → IsMoment moment → IsLaneAt moment phases number book lane → IsMoment lane.setting.now.moment
  lane-in lane within h = subst IsMoment (sym h.moment_is) within

-- ---- one more observation

pub got : {X : Type 0} (xs : List X) (at : ℕ) (x : X) → at < length xs → x ≡ get_or xs at x → slice_get xs at ≡ Some x
got [] at x within is = absurd (omega (arith, within))
got {X} (first ∷ xs) zero x within is = ap (λ (l : X). Some l) (sym is)
got (first ∷ xs) (suc at) x within is = got xs at x (omega (arith, within)) is

pub observation-of : (moment : ℤ) (lines : List ScriptLine) (at : ℕ) (line : ScriptLine) (known : Published) (observation : Observation) → at < length lines → line ≡ get_or lines at line → observation.at ≡ at → IsSeen moment line known observation
    → IsObservation moment lines known observation
observation-of moment lines at line known observation within is here seen =
    record { line = line; is_line = ap (slice_get lines) here ∙ got lines at line within is; saw = known; before = goes-same known; seen = seen }

pub pushed-observations : {T E : Type 0} (moment : ℤ) (lines : List ScriptLine) (known : Published) (old : List Observation) (observation : Observation) (new : List Observation) (result : Result T E) → AreObservations moment lines known old
    → IsObservation moment lines known observation → OnOk result (new ≡ old ++ observation ∷ []) → OnErr result (new ≡ old) → AreObservations moment lines known new
pushed-observations moment lines known old observation new (Ok done) h one ok err = subst (AreObservations moment lines known) (sym ok) (observations-more moment lines known old observation h one)
pushed-observations moment lines known old observation new (Err error) h one ok err = subst (AreObservations moment lines known) (sym err) h

-- ---- the next observation

pub known-rest : (moment : ℤ) (lines : List ScriptLine) (shown : Published) (items rest : List Observation) (next : Option Observation) → items ≡ option_to_list next ++ rest → AreKnown moment lines shown items
    → AreKnown moment lines shown rest
known-rest moment lines shown items rest None are h = subst (AreKnown moment lines shown) are h
known-rest moment lines shown items rest (Some observation) are h =
    let both : AreKnown moment lines shown (observation ∷ rest) = subst (AreKnown moment lines shown) are h in
    record { known = both.known; goes_on = both.goes_on; sights_are = both.sights_are.1 }

pub known-next : (moment : ℤ) (lines : List ScriptLine) (at : ℕ) (line : ScriptLine) (shown : Published) (items rest : List Observation) (next : Option Observation) → slice_get lines at ≡ Some line → items ≡ option_to_list next ++ rest
    → AreKnown moment lines shown items → IfSome next (λ observation. MayBeOf moment at line shown observation)
known-next moment lines at line shown items rest None is are h = tt
known-next moment lines at line shown items rest (Some observation) is are h = may-be moment lines at line shown observation rest is (subst (AreKnown moment lines shown) are h)
