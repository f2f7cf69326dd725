-- None of what was acknowledged is lost: what a commit adds to the moments since an entry.
-- For the proof of `Writer::commit`.
use Rattle.std.proofs.Common.{◌≡◌, inl, inr, ℕ, ◌+◌, ◌<◌, ◌≤◌, min, Bool, true, false, ◌&&◌, cond, List, [], ◌∷◌, ◌++◌, Option, None, Some, IfSome, IfErr, IfOk, OnOk, Result, Ok, Err, filter, length, take, drop, get_or, suc, length-append, refl, sym, ap, ◌∙◌, subst, append_assoc, append-nil, arith}
use Rattle.std.specs.Prelude.{nat_le, nat_lt}
use Rattle.std.specs.List.{AllByRecursion}
use Rattle.std.proofs.lemmas.Bool.{le-leb, leb-true, lt-ltb, ltb-true}
use Rattle.std.proofs.lemmas.List.{length_push, take_all, take-append-le}
use Rattle.std.proofs.lemmas.List.Elements.{filter-append}
use Rattle.nm_base.specs.Limits.{max_count}
use Rattle.nm_commit.specs.declared.change.Commit.{Commit}
use Rattle.nm_disk.specs.Calls.{GoesOn}
use Rattle.nm_disk.specs.CrashStates.{MayLeave}
use Rattle.nm_disk.specs.Observed.{Moments, ObservedDisk}
use Rattle.nm_disk.specs.declared.disk.FileNo.{FileNo}
use Rattle.nm_disk.specs.declared.disk.FileNo.TheVariants.{Head}
use Rattle.nm_disk.specs.declared.state.DiskState.{DiskState}
use Rattle.nm_model_index.specs.Index.{committed, folded}
use Rattle.nm_model_index.specs.declared.base.Base.{Base}
use Rattle.nm_journal.specs.Moments.{GoesThrough, LeavesNothingNew, LeavesOnly, NeverFalls, TouchesOnly, all_moments}
use Rattle.nm_journal.specs.Records.{HasRecords}
use Rattle.nm_publish.specs.Published.{Published, with_commit}
use Rattle.nm_writer.specs.Durable.{EachKeeps, HoldsPrefix, IsDurable, KeptSince, NeverFall, acked_by}
use Rattle.nm_replay.specs.StoredIndex.{HoldsIndex}
use Rattle.nm_writer.specs.Writer.{StandsOnIndex, WriterState}
use Rattle.nm_writer.specs.AfterCommit.{HoldsEither, IsAfterCommit, is_write_fault}
use Rattle.nm_writer.specs.declared.write_error.WriteError.{WriteError}
use Rattle.nm_writer.specs.declared.write_error.WriteError.TheVariants as errors
use Rattle.nm_writer.proofs.CommitLemmas.{folded-more, holds}

-- clocks that are counted are some of the clocks
counted_by : (own : ℕ) (rest : List ℕ) (b : Bool) (kept : List ℕ) → length kept ≤ length rest → length (cond b (own ∷ kept) kept) ≤ length (own ∷ rest)
counted_by own rest true kept h = omega (arith, h)
counted_by own rest false kept h = omega (arith, h)

counted : (clock : ℕ) (acked : List ℕ) → acked_by clock acked ≤ length acked
counted clock [] = omega arith
counted clock (own ∷ acked) = counted_by own acked (nat_le own clock && nat_lt own max_count) (filter (λ other. nat_le other clock && nat_lt other max_count) acked) (counted clock acked)

-- a clock after that of a moment isn't counted there
not_counted_by : (own clock : ℕ) (a b : Bool) → nat_le own clock ≡ a → nat_lt own max_count ≡ b → (own ≤ clock → own < max_count → ⊥) → (a && b) ≡ false
not_counted_by own clock true true le lt not = absurd (not (leb-true own clock le) (ltb-true own max_count lt))
not_counted_by own clock true false le lt not = refl
not_counted_by own clock false b le lt not = refl

later_clock : (own clock : ℕ) (acked : List ℕ) → (own ≤ clock → own < max_count → ⊥) → acked_by clock (acked ++ own ∷ []) ≡ acked_by clock acked
later_clock own clock acked not =
    let test : ℕ → Bool = λ other. nat_le other clock && nat_lt other max_count in
    let here : test own ≡ false = not_counted_by own clock (nat_le own clock) (nat_lt own max_count) refl refl not in
    ap length (filter-append test acked (own ∷ [])) ∙ ap (λ (l : List ℕ). length (filter test acked ++ l)) (ap (λ (b : Bool). cond b (own ∷ []) []) here) ∙ ap length (append-nil (filter test acked))

-- clocks that are none of a later moment are all counted there
all-counted : (clock : ℕ) (acked : List ℕ) → clock < max_count → AllByRecursion (λ own. own ≤ clock) acked → acked_by clock acked ≡ length acked
all-counted clock [] small h = refl
all-counted clock (own ∷ acked) small h =
    let kept : List ℕ = filter (λ other. nat_le other clock && nat_lt other max_count) acked in
    let test : (nat_le own clock && nat_lt own max_count) ≡ true = ap (λ (b : Bool). b && nat_lt own max_count) (le-leb own clock h.0) ∙ lt-ltb own max_count (omega (arith, small, h.0)) in
    ap (λ (b : Bool). length (cond b (own ∷ kept) kept)) test ∙ ap suc (all-counted clock acked small h.1)

-- what is of no later moment than one is of no later moment than a later one
all-later : (early late : ℕ) (acked : List ℕ) → early ≤ late → AllByRecursion (λ own. own ≤ early) acked → AllByRecursion (λ own. own ≤ late) acked
all-later early late [] le h = tt
all-later early late (own ∷ acked) le h = (omega (arith, le, h.0), all-later early late acked le h.1)

all-push : (now : ℕ) (acked : List ℕ) (own : ℕ) → AllByRecursion (λ other. other ≤ now) acked → own ≤ now → AllByRecursion (λ other. other ≤ now) (acked ++ own ∷ [])
all-push now [] own h here = (here, tt)
all-push now (first ∷ acked) own h here = (h.0, all-push now acked own h.1 here)

-- a prefix of the commits is one of these and more
prefix-more : (opening : Base) (begun : List Commit) (commit : Commit) (clock acknowledged : ℕ) (bytes : List ℕ) → HoldsPrefix opening begun clock acknowledged bytes → HoldsPrefix opening (begun ++ commit ∷ []) clock acknowledged bytes
prefix-more opening begun commit clock acknowledged bytes h = record {
  count = h.count;
  within = omega (arith, h.within, length_push begun commit);
  least = h.least;
  most = h.most;
  holds = subst (λ (l : List Commit). HoldsIndex bytes (folded opening l)) (sym (take-append-le h.count begun (commit ∷ []) h.within)) h.holds;
}

each-more : (opening : Base) (begun : List Commit) (commit : Commit) (acked : List ℕ) (before : ℕ) (states : List DiskState) → EachKeeps opening begun acked before states → EachKeeps opening (begun ++ commit ∷ []) acked before states
each-more opening begun commit acked before [] h = tt
each-more opening begun commit acked before (state ∷ states) h =
    (λ bytes left. prefix-more opening begun commit (min (before + length states) max_count) (acked_by (min (before + length states) max_count) acked) bytes (h.0 bytes left), each-more opening begun commit acked before states h.1)

-- the index from before, or the one with the commit, is that of a prefix
either-prefix : (opening shown : Base) (begun : List Commit) (commit : Commit) (clock acknowledged : ℕ) (bytes : List ℕ) → shown ≡ folded opening begun → acknowledged ≤ length begun → (clock < max_count → length begun ≤ acknowledged)
    → HoldsEither shown commit bytes → HoldsPrefix opening (begun ++ commit ∷ []) clock acknowledged bytes
either-prefix opening shown begun commit clock acknowledged bytes is few all (inl old) = record {
  count = length begun;
  within = omega (arith, length_push begun commit);
  least = few;
  most = λ small. let every = all small in omega (arith, every);
  holds = subst (HoldsIndex bytes) (is ∙ ap (folded opening) (sym (take-append-le (length begun) begun (commit ∷ []) (omega arith) ∙ take_all (length begun) begun (omega arith)))) old;
}
either-prefix opening shown begun commit clock acknowledged bytes is few all (inr new) = record {
  count = length (begun ++ commit ∷ []);
  within = omega arith;
  least = omega (arith, few, length_push begun commit);
  most = λ small. let every = all small in omega (arith, every, length_push begun commit);
  holds = subst (HoldsIndex bytes)
      (ap (λ (b : Base). committed b commit) is ∙ (sym (folded-more opening begun commit) ∙ ap (folded opening) (sym (take_all (length (begun ++ commit ∷ [])) (begun ++ commit ∷ []) (omega arith))))) new;
}

-- the moments of a commit, before those of its past, of which no clock is later
each-joined : (opening shown : Base) (begun : List Commit) (commit : Commit) (acked : List ℕ) (before past : ℕ) (new old : List DiskState) → shown ≡ folded opening begun → length begun ≡ length acked
    → AllByRecursion (λ own. own ≤ past) acked → past ≤ before + length old
    → AllByRecursion (LeavesOnly Head (HoldsEither shown commit)) new → EachKeeps opening begun acked before old → EachKeeps opening (begun ++ commit ∷ []) acked before (new ++ old)
each-joined opening shown begun commit acked before past [] old is same so_far late through h = each-more opening begun commit acked before old h
each-joined opening shown begun commit acked before past (state ∷ new) old is same so_far late through h =
    let clock : ℕ = min (before + length (new ++ old)) max_count in
    let all : clock < max_count → length begun ≤ acked_by clock acked = λ small.
    let every = all-counted clock acked small (all-later past clock acked (omega (arith, small, late, length-append new old)) so_far) in
    omega (arith, every, same) in (
      λ bytes left. either-prefix opening shown begun commit clock (acked_by clock acked) bytes is (omega (arith, same, counted clock acked)) all (through.0 bytes left),
      each-joined opening shown begun commit acked before past new old is same so_far late through.1 h,
    )

-- a clock more, that of a later moment, asks nothing more of these
each-acked : (opening : Base) (begun : List Commit) (acked : List ℕ) (own before last : ℕ) (states : List DiskState) → own ≡ min last max_count → before + length states ≤ last → EachKeeps opening begun acked before states → EachKeeps opening begun (acked ++ own ∷ []) before states
each-acked opening begun acked own before last [] is le h = tt
each-acked opening begun acked own before last (state ∷ states) is le h =
    let clock : ℕ = min (before + length states) max_count in
    let same : acked_by clock (acked ++ own ∷ []) ≡ acked_by clock acked = later_clock own clock acked (λ before_it small. omega (arith, is, le, before_it, small)) in
    (λ bytes left. subst (λ (n : ℕ). HoldsPrefix opening begun clock n bytes) (sym same) (h.0 bytes left), each-acked opening begun acked own before last states is (omega (arith, le)) h.1)

-- at the present moment all is there
each-now : (opening : Base) (begun : List Commit) (acked : List ℕ) (own before : ℕ) (states past : List DiskState) (now : Moments) → all_moments now ≡ states ++ past → before ≡ length past → own ≡ min (length now.past) max_count → length acked + 1 ≡ length begun
    → AllByRecursion (λ other. other ≤ length now.past) acked → LeavesOnly Head (λ bytes. HoldsIndex bytes (folded opening begun)) now.present → EachKeeps opening begun acked before states → EachKeeps opening begun (acked ++ own ∷ []) before states
each-now opening begun acked own before [] past now are long is few so_far stands h = tt
each-now opening begun acked own before (state ∷ states) past now are long is few so_far stands h =
    let tail : now.past ≡ states ++ past = ap (λ (l : List DiskState). drop 1 l) are in
    let top : now.present ≡ state = ap (λ (l : List DiskState). get_or l 0 now.present) are in
    let length_is : length now.past ≡ before + length states = omega (arith, ap (λ (l : List DiskState). length l) tail, length-append states past, long) in
    let clock : ℕ = min (before + length states) max_count in
    let most : clock < max_count → length begun ≤ acked_by clock (acked ++ own ∷ []) + 1 = λ small.
    let every = all-counted clock (acked ++ own ∷ []) small (all-push clock acked own (all-later (length now.past) clock acked (omega (arith, small, length_is)) so_far) (omega (arith, is, length_is))) in
    omega (arith, every, length_push acked own, few) in (
      λ bytes left. record {
        count = length begun;
        within = omega arith;
        least = omega (arith, counted clock (acked ++ own ∷ []), length_push acked own, few);
        most = most;
        holds = subst (HoldsIndex bytes) (ap (folded opening) (sym (take_all (length begun) begun (omega arith)))) (stands bytes (subst (λ (s : DiskState). MayLeave s Head bytes) (sym top) left));
      },
      each-acked opening begun acked own before (before + length states) states (is ∙ ap (λ n. min n max_count) length_is) (omega arith) h.1,
    )

-- what leaves nothing new twice leaves nothing new
abbrev pub TwiceLaw : Type 0
TwiceLaw = (file : FileNo) (old mid new : Moments) → LeavesNothingNew file old mid → LeavesNothingNew file mid new → LeavesNothingNew file old new

module _ (twice : TwiceLaw) (opening shown : Base) (begun : List Commit) (commit : Commit) (acked : List ℕ) (is : shown ≡ folded opening begun) where
  later-past : (old new : Moments) → GoesThrough Head (HoldsEither shown commit) old new → length old.past ≤ length new.past
  later-past old new through = omega (arith, ap (λ (l : List DiskState). length l) through.are, length-append through.states (all_moments old))

  old-late : (entry old : Moments) → (h : KeptSince opening begun acked entry old) → length old.past ≤ length entry.past + length h.states
  old-late entry old h = omega (arith, ap (λ (l : List DiskState). length l) h.are, length-append h.states entry.past)

  -- no other file is written since the entry
  others-then : (entry old new : Moments) → TouchesOnly Head old new → KeptSince opening begun acked entry old → TouchesOnly Head entry new
  others-then entry old new touches h = λ other apart. twice other entry old new (h.others other apart) (touches other apart)

  -- the moments of a commit that was made
  kept-made : (own : ℕ) (entry old new : Moments) → length begun ≡ length acked → own ≡ min (length new.past) max_count → GoesThrough Head (HoldsEither shown commit) old new → TouchesOnly Head old new
      → LeavesOnly Head (λ bytes. HoldsIndex bytes (committed shown commit)) new.present → KeptSince opening begun acked entry old → KeptSince opening (begun ++ commit ∷ []) (acked ++ own ∷ []) entry new
  kept-made own entry old new same own_is through touches stands h =
      let are : all_moments new ≡ (through.states ++ h.states) ++ entry.past =
      through.are ∙ (ap (λ (l : List DiskState). through.states ++ l) h.are ∙ sym (append_assoc through.states h.states entry.past)) in
      let later : length old.past ≤ length new.past = later-past old new through in
      let so_far : AllByRecursion (λ other. other ≤ length new.past) acked = all-later (length old.past) (length new.past) acked later h.so_far in
      record {
        states = through.states ++ h.states;
        are = are;
        each = each-now opening (begun ++ commit ∷ []) acked own (length entry.past) (through.states ++ h.states) entry.past new are refl own_is (omega (arith, same, length_push begun commit)) so_far
            (λ bytes left. subst (HoldsIndex bytes) (ap (λ (b : Base). committed b commit) is ∙ sym (folded-more opening begun commit)) (stands bytes left))
            (each-joined opening shown begun commit acked (length entry.past) (length old.past) through.states h.states is same h.so_far (old-late entry old h) through.each h.each);
        so_far = all-push (length new.past) acked own so_far (omega (arith, own_is));
        others = others-then entry old new touches h;
      }

  -- the moments of a commit at which the disk failed
  kept-begun : (entry old new : Moments) → length begun ≡ length acked → GoesThrough Head (HoldsEither shown commit) old new → TouchesOnly Head old new → KeptSince opening begun acked entry old → KeptSince opening (begun ++ commit ∷ []) acked entry new
  kept-begun entry old new same through touches h = record {
    states = through.states ++ h.states;
    are = through.are ∙ (ap (λ (l : List DiskState). through.states ++ l) h.are ∙ sym (append_assoc through.states h.states entry.past));
    each = each-joined opening shown begun commit acked (length entry.past) (length old.past) through.states h.states is same h.so_far (old-late entry old h) through.each h.each;
    so_far = all-later (length old.past) (length new.past) acked (later-past old new through) h.so_far;
    others = others-then entry old new touches h;
  }

  told-made : (own : ℕ) (entry old new : Option Moments) → length begun ≡ length acked → IfSome new (λ m. own ≡ min (length m.past) max_count) → GoesOn (λ o n. GoesThrough Head (HoldsEither shown commit) o n) old new → GoesOn (TouchesOnly Head) old new
      → IfSome new (λ m. LeavesOnly Head (λ bytes. HoldsIndex bytes (committed shown commit)) m.present) → GoesOn (KeptSince opening begun acked) entry old → GoesOn (KeptSince opening (begun ++ commit ∷ []) (acked ++ own ∷ [])) entry new
  told-made own None None None same own_is through touches stands h = tt
  told-made own None None (Some n) same own_is through touches stands h = absurd through
  told-made own None (Some o) new same own_is through touches stands h = absurd h
  told-made own (Some e) None new same own_is through touches stands h = absurd h
  told-made own (Some e) (Some o) None same own_is through touches stands h = absurd through
  told-made own (Some e) (Some o) (Some n) same own_is through touches stands h = kept-made own e o n same own_is through touches stands h

  told-begun : (entry old new : Option Moments) → length begun ≡ length acked → GoesOn (λ o n. GoesThrough Head (HoldsEither shown commit) o n) old new → GoesOn (TouchesOnly Head) old new
      → GoesOn (KeptSince opening begun acked) entry old → GoesOn (KeptSince opening (begun ++ commit ∷ []) acked) entry new
  told-begun None None None same through touches h = tt
  told-begun None None (Some n) same through touches h = absurd through
  told-begun None (Some o) new same through touches h = absurd h
  told-begun (Some e) None new same through touches h = absurd h
  told-begun (Some e) (Some o) None same through touches h = absurd through
  told-begun (Some e) (Some o) (Some n) same through touches h = kept-begun e o n same through touches h

never-push : (from mid own to : ℕ) (acked : List ℕ) → NeverFall from acked mid → mid ≤ own → own ≤ to → NeverFall from (acked ++ own ∷ []) to
never-push from mid own to [] h le ge = (omega (arith, h, le), ge)
never-push from mid own to (clock ∷ acked) h le ge = (h.0, never-push clock mid own to acked h.1 le ge)

never-later : (from mid to : ℕ) (acked : List ℕ) → NeverFall from acked mid → mid ≤ to → NeverFall from acked to
never-later from mid to [] h le = omega (arith, h, le)
never-later from mid to (clock ∷ acked) h le = (h.0, never-later clock mid to acked h.1 le)

-- whatever a crash leaves of a disk that the writer is on holds the index shown
pub stands-holds : (state : DiskState) (writer : WriterState) → StandsOnIndex state writer → LeavesOnly Head (λ bytes. HoldsIndex bytes writer.shown) state
stands-holds state writer s =
    let every : LeavesOnly Head (HasRecords 0 s.bodies) state =
    subst (λ (n : ℕ). LeavesOnly Head (HasRecords n s.bodies) state) s.start (subst (λ (f : FileNo). LeavesOnly f (HasRecords writer.journal.start s.bodies) state) s.file s.journal.every) in
    λ bytes left. holds s.bodies s.commits writer.shown bytes s.holds (every bytes left)

stands-told : (old new : Option Moments) (writer : WriterState) (index : Base) → writer.shown ≡ index → GoesOn (λ o n. StandsOnIndex n.present writer) old new → IfSome new (λ m. LeavesOnly Head (λ bytes. HoldsIndex bytes index) m.present)
stands-told None None writer index is h = tt
stands-told None (Some n) writer index is h = absurd h
stands-told (Some o) None writer index is h = tt
stands-told (Some o) (Some n) writer index is h = λ bytes left. subst (HoldsIndex bytes) is (stands-holds n.present writer h bytes left)

abbrev some : ℕ → Option ℕ
some n = Some n

is-open : (P : Type 0) (fault : ℕ) → some fault ≡ None → P
is-open P fault e = absurd cc

commits-length : (xs ys : List Commit) → xs ≡ ys → length xs ≡ length ys
commits-length xs ys e = ap (λ (l : List Commit). length l) e

clocks-length : (xs ys : List ℕ) → xs ≡ ys → length xs ≡ length ys
clocks-length xs ys e = ap (λ (l : List ℕ). length l) e

all-shown : (opening : Base) (w : WriterState) → length w.begun ≡ length w.acked → w.shown ≡ folded opening (take (length w.acked) w.begun) → w.shown ≡ folded opening w.begun
all-shown opening w same is = is ∙ ap (folded opening) (take_all (length w.acked) w.begun (omega (arith, same)))

module _ (twice : TwiceLaw) (entry old new : ObservedDisk) (opening : Base) (w after : WriterState) (commit : Commit) (h : IsDurable entry opening old w) (alive : w.closed ≡ None)
    (rises : old.clock ≤ max_count → (old.clock ≤ new.clock) × (new.clock ≤ max_count)) (through : GoesOn (λ o n. GoesThrough Head (HoldsEither w.shown commit) o n) old.told new.told)
    (touches : GoesOn (TouchesOnly Head) old.told new.told) (begun : after.begun ≡ w.begun ++ commit ∷ []) where
  -- a commit that was made is as durable as those before it
  pub durable-made : (own : ℕ) → own ≡ new.clock → IfSome new.told (λ m. own ≡ min (length m.past) max_count) → after.acked ≡ w.acked ++ own ∷ [] → after.shown ≡ committed w.shown commit → after.published ≡ with_commit w.published commit
      → GoesOn (λ o n. StandsOnIndex n.present after) old.told new.told → IsDurable entry opening new after
  durable-made own own_is number acked shown published stands =
      let same : length w.begun ≡ length w.acked = h.all alive in
      let is = all-shown opening w same h.shown in
      let long = commits-length after.begun (w.begun ++ commit ∷ []) begun in
      let clocks = clocks-length after.acked (w.acked ++ own ∷ []) acked in
      let both : length after.begun ≡ length after.acked = omega (arith, same, long, clocks, length_push w.begun commit, length_push w.acked own) in
      let whole : after.shown ≡ folded opening after.begun = shown ∙ (ap (λ (b : Base). committed b commit) is ∙ (sym (folded-more opening w.begun commit) ∙ ap (folded opening) (sym begun))) in
      let kept : GoesOn (KeptSince opening (w.begun ++ commit ∷ []) (w.acked ++ own ∷ [])) entry.told new.told =
      told-made twice opening w.shown w.begun commit w.acked is own entry.told old.told new.told same number through touches (stands-told old.told new.told after (committed w.shown commit) shown stands) h.kept in
      record {
        within = omega (arith, both);
        few = omega (arith, both);
        all = λ alive_is. both;
        shown = whole ∙ ap (folded opening) (sym (take_all (length after.acked) after.begun (omega (arith, both))));
        begins = ap (λ (p : Published). p.opening) published ∙ h.begins;
        published = ap (λ (p : Published). p.commits) published
            ∙ (ap (λ (l : List Commit). l ++ commit ∷ []) (h.published ∙ take_all (length w.acked) w.begun (omega (arith, same)))
            ∙ (sym begun ∙ sym (take_all (length after.acked) after.begun (omega (arith, both)))));
        clocks = subst (λ (l : List ℕ). NeverFall 0 l new.clock) (sym acked) (never-push 0 old.clock own new.clock w.acked h.clocks (omega (arith, own_is, (rises h.clock).0)) (omega (arith, own_is)));
        clock = (rises h.clock).1;
        kept = subst (λ (l : List Commit). GoesOn (KeptSince opening l after.acked) entry.told new.told) (sym begun) (subst (λ (l : List ℕ). GoesOn (KeptSince opening (w.begun ++ commit ∷ []) l) entry.told new.told) (sym acked) kept);
      }

  -- and one at which the disk failed takes nothing away
  pub durable-begun : (fault : ℕ) → after.acked ≡ w.acked → after.shown ≡ w.shown → after.closed ≡ Some fault → after.published ≡ w.published → IsDurable entry opening new after
  durable-begun fault acked shown closed published =
      let same : length w.begun ≡ length w.acked = h.all alive in
      let is = all-shown opening w same h.shown in
      let long = commits-length after.begun (w.begun ++ commit ∷ []) begun in
      let clocks = clocks-length after.acked w.acked acked in
      let kept : GoesOn (KeptSince opening (w.begun ++ commit ∷ []) w.acked) entry.told new.told = told-begun twice opening w.shown w.begun commit w.acked is entry.told old.told new.told same through touches h.kept in
      let front : take (length after.acked) after.begun ≡ w.begun =
      ap (λ (l : List Commit). take (length after.acked) l) begun ∙ (take-append-le (length after.acked) w.begun (commit ∷ []) (omega (arith, same, clocks)) ∙ take_all (length after.acked) w.begun (omega (arith, same, clocks))) in
      record {
        within = omega (arith, same, long, clocks, length_push w.begun commit);
        few = omega (arith, same, long, clocks, length_push w.begun commit);
        all = λ alive_is. is-open (length after.begun ≡ length after.acked) fault (sym closed ∙ alive_is);
        shown = shown ∙ (is ∙ ap (folded opening) (sym front));
        begins = ap (λ (p : Published). p.opening) published ∙ h.begins;
        published = ap (λ (p : Published). p.commits) published ∙ (h.published ∙ (take_all (length w.acked) w.begun (omega (arith, same)) ∙ sym front));
        clocks = subst (λ (l : List ℕ). NeverFall 0 l new.clock) (sym acked) (never-later 0 old.clock new.clock w.acked h.clocks (rises h.clock).0);
        clock = (rises h.clock).1;
        kept = subst (λ (l : List Commit). GoesOn (KeptSince opening l after.acked) entry.told new.told) (sym begun) (subst (λ (l : List ℕ). GoesOn (KeptSince opening (w.begun ++ commit ∷ []) l) entry.told new.told) (sym acked) kept);
      }

-- whatever a commit answers
pub durable-after : {T : Type 0} → TwiceLaw → (entry old new : ObservedDisk) (opening : Base) (w after : WriterState) (commit : Commit) (result : Result T WriteError) → w.closed ≡ None → IsDurable entry opening old w
    → IsAfterCommit w commit new.clock new.faults result after → NeverFalls old.clock new.clock → GoesOn (λ o n. GoesThrough Head (HoldsEither w.shown commit) o n) old.told new.told → GoesOn (TouchesOnly Head) old.told new.told
    → IfOk result (λ done. IfSome new.told (λ m. new.clock ≡ min (length m.past) max_count)) → GoesOn (λ o n. OnOk result (StandsOnIndex n.present after)) old.told new.told
    → IfErr result (λ e. is_write_fault e ≡ false → new ≡ old) → IsDurable entry opening new after
durable-after twice entry old new opening w after commit (Ok done) alive h made rises through touches number stands waits =
    durable-made twice entry old new opening w after commit h alive rises through touches made.1 new.clock refl number made.2 made.0 made.5 stands
durable-after twice entry old new opening w after commit (Err errors.MailFault) alive h made rises through touches number stands waits = absurd made
durable-after twice entry old new opening w after commit (Err errors.DiskFault) alive h made rises through touches number stands waits =
    durable-begun twice entry old new opening w after commit h alive rises through touches made.1 new.faults made.2 made.0 made.3 made.5
durable-after twice entry old new opening w after commit (Err (errors.Closed fault)) alive h made rises through touches number stands waits = absurd made
durable-after twice entry old new opening w after commit (Err (errors.Limit limit)) alive h made rises through touches number stands waits =
    subst (λ (d : ObservedDisk). IsDurable entry opening d after) (sym (waits refl)) (subst (IsDurable entry opening old) (sym made.1) h)
durable-after twice entry old new opening w after commit (Err errors.NoMemory) alive h made rises through touches number stands waits =
    subst (λ (d : ObservedDisk). IsDurable entry opening d after) (sym (waits refl)) (subst (IsDurable entry opening old) (sym made) h)

stands-same : (old new : ObservedDisk) (w after : WriterState) → new ≡ old → after ≡ w → IfSome old.told (λ m. StandsOnIndex m.present w) → IfSome new.told (λ m. StandsOnIndex m.present after)
stands-same old new w after same is h =
    subst (λ (d : ObservedDisk). IfSome d.told (λ m. StandsOnIndex m.present after)) (sym same) (subst (λ (x : WriterState). IfSome old.told (λ m. StandsOnIndex m.present x)) (sym is) h)

stands-now : (old new : Option Moments) (after : WriterState) → GoesOn (λ o n. StandsOnIndex n.present after) old new → IfSome new (λ m. StandsOnIndex m.present after)
stands-now None None after h = tt
stands-now None (Some n) after h = absurd h
stands-now (Some o) None after h = tt
stands-now (Some o) (Some n) after h = h

-- a writer that is not closed is on the disk, whatever a commit answers
pub stands-alive : {T : Type 0} (old new : ObservedDisk) (w after : WriterState) (commit : Commit) (result : Result T WriteError) → IfSome old.told (λ m. StandsOnIndex m.present w)
    → IsAfterCommit w commit new.clock new.faults result after → GoesOn (λ o n. OnOk result (StandsOnIndex n.present after)) old.told new.told
    → IfErr result (λ e. is_write_fault e ≡ false → new ≡ old) → after.closed ≡ None → IfSome new.told (λ m. StandsOnIndex m.present after)
stands-alive old new w after commit (Ok done) before made stands waits alive = stands-now old.told new.told after stands
stands-alive old new w after commit (Err errors.MailFault) before made stands waits alive = absurd made
stands-alive old new w after commit (Err errors.DiskFault) before made stands waits alive = is-open (IfSome new.told (λ m. StandsOnIndex m.present after)) new.faults (sym made.3 ∙ alive)
stands-alive old new w after commit (Err (errors.Closed fault)) before made stands waits alive = absurd made
stands-alive old new w after commit (Err (errors.Limit limit)) before made stands waits alive = stands-same old new w after (waits refl) made.1 before
stands-alive old new w after commit (Err errors.NoMemory) before made stands waits alive = stands-same old new w after (waits refl) made before
