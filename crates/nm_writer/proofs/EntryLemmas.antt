-- What an opening leaves, from its end on, and from its entry on where no write was pending there.
-- For the proofs of `Writer::open` and `Writer::open_head`.
use Rattle.std.proofs.Common.{◌≡◌, ℕ, ◌+◌, ◌≤◌, min, List, [], ◌∷◌, ◌++◌, Option, None, Some, IfOk, IfSome, Result, Ok, Err, length, take, refl, sym, ap, ◌∙◌, subst, append_assoc, arith}
use Rattle.std.specs.List.{AllByRecursion}
use Rattle.std.proofs.lemmas.List.{ext_get_or}
use Rattle.nm_base.specs.Limits.{max_count}
use Rattle.nm_commit.specs.declared.change.Commit.{Commit}
use Rattle.nm_disk.specs.Calls.{GoesOn}
use Rattle.nm_disk.specs.CrashStates.{IsImage, IsLeft, MayLeave, bytes_of, is_written, reach}
use Rattle.nm_disk.specs.Observed.{Moments, ObservedDisk, bytes_now}
use Rattle.nm_disk.specs.declared.disk.FileNo.{FileNo}
use Rattle.nm_disk.specs.declared.disk.FileNo.TheVariants.{Head}
use Rattle.nm_disk.specs.declared.state.DiskState.{DiskState}
use Rattle.nm_disk.specs.declared.state.Range.{Range}
use Rattle.nm_model_index.specs.Index.{folded}
use Rattle.nm_model_index.specs.declared.base.Base.{Base}
use Rattle.nm_journal.specs.Journal.{StandsOn}
use Rattle.nm_journal.specs.Moments.{GoesThrough, LeavesNothingNew, LeavesOnly, SyncsOrFails}
use Rattle.nm_writer.specs.Durable.{EachKeeps, HoldsPrefix, IsDurable, KeptSince, NeverFall}
use Rattle.nm_replay.specs.StoredIndex.{HasCommits, HoldsIndex, HoldsWithin}
use Rattle.nm_replay.specs.declared.open_error.OpenError.{OpenError}
use Rattle.nm_writer.specs.declared.startup.Opened.{Opened}
use Rattle.nm_writer.specs.Writer.{StandsOnIndex, WriterState}
use Rattle.nm_writer.proofs.DurableLemmas.{stands-holds}

-- before any commit the index is that of no commit
prefix-none : (index : Base) (clock : ℕ) (bytes : List ℕ) → HoldsIndex bytes index → HoldsPrefix index [] clock 0 bytes
prefix-none index clock bytes h = record { count = 0; within = omega arith; least = omega arith; most = λ small. omega arith; holds = h }

each-none : (index : Base) (before : ℕ) (states : List DiskState) → AllByRecursion (LeavesOnly Head (λ bytes. HoldsIndex bytes index)) states → EachKeeps index [] [] before states
each-none index before [] h = tt
each-none index before (state ∷ states) h = (λ bytes left. prefix-none index (min (before + length states) max_count) bytes (h.0 bytes left), each-none index before states h.1)

pub kept-here : (told : Option Moments) (writer : WriterState) → IfSome told (λ m. StandsOnIndex m.present writer) → GoesOn (KeptSince writer.shown [] []) told told
kept-here None writer h = tt
kept-here (Some m) writer h = record {
  states = m.present ∷ [];
  are = refl;
  each = each-none writer.shown (length m.past) (m.present ∷ []) (stands-holds m.present writer h, tt);
  so_far = tt;
  others = λ other apart. record { states = []; each = tt; are = refl };
}

-- where nothing is pending a crash leaves what a read gives
left-synced : (synced bytes : List ℕ) (written : List Range) → written ≡ [] → IsLeft synced (is_written written Head) (reach written Head (length synced)) bytes → bytes ≡ synced
left-synced synced bytes written none left' =
    let left : IsLeft synced (is_written [] Head) (length synced) bytes = subst (λ (w : List Range). IsLeft synced (is_written w Head) (reach w Head (length synced)) bytes) none left' in
    let same : length bytes ≡ length synced = omega (arith, left.no_shorter, left.no_longer) in
    ext_get_or 0 bytes synced same (λ i within. left.elsewhere i (omega (arith, within, same)) refl)

settled : (state : DiskState) (bytes : List ℕ) → state.written ≡ [] → IsImage state state.now → MayLeave state Head bytes → bytes ≡ bytes_of Head state.now
settled state bytes none image left =
    left-synced (bytes_of Head state.synced) bytes state.written none left ∙ sym (left-synced (bytes_of Head state.synced) (bytes_of Head state.now) state.written none (image Head))

each-settled : (entry : DiskState) (index : Base) (states : List DiskState) → entry.written ≡ [] → IsImage entry entry.now → HoldsIndex (bytes_of Head entry.now) index → AllByRecursion (LeavesOnly Head (MayLeave entry Head)) states
    → AllByRecursion (LeavesOnly Head (λ bytes. HoldsIndex bytes index)) (states ++ entry ∷ [])
each-settled entry index [] none image held h = (λ bytes left. subst (λ (b : List ℕ). HoldsIndex b index) (sym (settled entry bytes none image left)) held, tt)
each-settled entry index (state ∷ states) none image held h =
    (λ bytes left. subst (λ (b : List ℕ). HoldsIndex b index) (sym (settled entry bytes none image (h.0 bytes left))) held, each-settled entry index states none image held h.1)

-- a sync leaves nothing new
abbrev pub SyncLaw : Type 0
SyncLaw = (file : FileNo) (old new : Moments) → IsImage old.present old.present.now → SyncsOrFails old new → LeavesNothingNew file old new

pub kept-entry : SyncLaw → (old new : Option Moments) (index : Base) → IfSome old (λ m. m.present.written ≡ []) → IfSome old (λ m. IsImage m.present m.present.now) → GoesOn (λ o n. HoldsWithin (bytes_now o Head) index) old new
    → GoesOn (λ o n. GoesThrough Head (MayLeave o.present Head) o n) old new → GoesOn SyncsOrFails old new → GoesOn (KeptSince index [] []) old new
kept-entry law None None index none image held through syncs = tt
kept-entry law None (Some n) index none image held through syncs = absurd through
kept-entry law (Some o) None index none image held through syncs = absurd through
kept-entry law (Some o) (Some n) index none image held through syncs = record {
  states = through.states ++ o.present ∷ [];
  are = through.are ∙ sym (append_assoc through.states (o.present ∷ []) o.past);
  each = each-none index (length o.past) (through.states ++ o.present ∷ []) (each-settled o.present index through.states none image held.held through.each);
  so_far = tt;
  others = λ other apart. law other o n image syncs;
}

abbrev none_begun : List Commit
none_begun = []

abbrev IsFresh : WriterState → Type 0
IsFresh w = (w.begun ≡ []) × (w.acked ≡ []) × (w.closed ≡ None)

-- what was published is the index that is shown, and no commit
abbrev PublishesShown : WriterState → Type 0
PublishesShown w = (w.published.opening ≡ w.shown) × (w.published.commits ≡ [])

-- a writer that was opened is durable from an entry on, where what a crash leaves since then is its index
module _ (entry new : ObservedDisk) (writer : WriterState) (begun : writer.begun ≡ []) (acked : writer.acked ≡ []) (published : PublishesShown writer) (clock : new.clock ≤ max_count) where
  pub durable-none : GoesOn (KeptSince writer.shown [] []) entry.told new.told → IsDurable entry writer.shown new writer
  durable-none kept =
      let none : length writer.begun ≡ 0 = ap (λ (l : List Commit). length l) begun in
      let unacked : length writer.acked ≡ 0 = ap (λ (l : List ℕ). length l) acked in
      record {
        within = omega (arith, none, unacked);
        few = omega (arith, none, unacked);
        all = λ alive. none ∙ sym unacked;
        shown = subst (λ (l : List Commit). writer.shown ≡ folded writer.shown (take (length writer.acked) l)) (sym begun) (subst (λ (l : List ℕ). writer.shown ≡ folded writer.shown (take (length l) [])) (sym acked) refl);
        begins = published.0;
        published = published.1 ∙ (sym (ap (λ (l : List Commit). take (length writer.acked) l) begun ∙ ap (λ (l : List ℕ). take (length l) none_begun) acked));
        clocks = subst (λ (l : List ℕ). NeverFall 0 l new.clock) (sym acked) (omega arith);
        clock = clock;
        kept = subst (λ (l : List Commit). GoesOn (KeptSince writer.shown l writer.acked) entry.told new.told) (sym begun) (subst (λ (l : List ℕ). GoesOn (KeptSince writer.shown [] l) entry.told new.told) (sym acked) kept);
      }

here-told : (old new : Option Moments) (writer : WriterState) → GoesOn (λ o n. StandsOnIndex n.present writer) old new → IfSome new (λ m. StandsOnIndex m.present writer)
here-told None None writer h = tt
here-told None (Some n) writer h = absurd h
here-told (Some o) None writer h = tt
here-told (Some o) (Some n) writer h = h

-- from the end of an opening on
pub durable-here : (old new : ObservedDisk) (result : Result Opened OpenError) → IfOk result (λ opened. IsFresh opened.writer) → IfOk result (λ opened. PublishesShown opened.writer) → IfOk result (λ opened. new.clock ≤ max_count)
    → GoesOn (λ o n. IfOk result (λ opened. StandsOnIndex n.present opened.writer)) old.told new.told → IfOk result (λ opened. IsDurable new opened.writer.shown new opened.writer)
durable-here old new (Ok opened) fresh published clock stands =
    let w = opened.writer in
    durable-none new new w fresh.0 fresh.1 published clock (kept-here new.told w (here-told old.told new.told w stands))
durable-here old new (Err error) fresh published clock stands = tt

-- and from its entry on
pub durable-entry : SyncLaw → (old new : ObservedDisk) (result : Result Opened OpenError) → IfSome old.told (λ m. IsImage m.present m.present.now) → IfOk result (λ opened. IsFresh opened.writer) → IfOk result (λ opened. PublishesShown opened.writer)
    → IfOk result (λ opened. new.clock ≤ max_count) → GoesOn (λ o n. IfOk result (λ opened. HoldsWithin (bytes_now o Head) opened.writer.shown)) old.told new.told → GoesOn (λ o n. GoesThrough Head (MayLeave o.present Head) o n) old.told new.told → GoesOn SyncsOrFails old.told new.told
    → IfSome old.told (λ m. m.present.written ≡ []) → IfOk result (λ opened. IsDurable old opened.writer.shown new opened.writer)
durable-entry law old new (Ok opened) image fresh published clock index through syncs none =
    let w = opened.writer in
    durable-none old new w fresh.0 fresh.1 published clock (kept-entry law old.told new.told w.shown none image index through syncs)
durable-entry law old new (Err error) image fresh published clock index through syncs none = tt

-- a writer whose index the records leave is on the disk
pub opened-stands : (old new : Option Moments) (writer : WriterState) → writer.journal.file ≡ Head → writer.journal.start ≡ 0
    → GoesOn (λ o n. (bodies : List (List ℕ)) × (commits : List Commit) × StandsOn n.present writer.journal bodies × HasCommits bodies commits writer.shown) old new → GoesOn (λ o n. StandsOnIndex n.present writer) old new
opened-stands None None writer file start h = tt
opened-stands None (Some n) writer file start h = absurd h
opened-stands (Some o) None writer file start h = absurd h
opened-stands (Some o) (Some n) writer file start h = record { bodies = h.0; commits = h.1; file = file; start = start; journal = h.2; holds = h.3 }
