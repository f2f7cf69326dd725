-- What is printed with the phases of a session. For the proof of `run_phases`.
use Rattle.std.proofs.Common.{◌≡◌, ℕ, ◌+◌, Bool, true, false, List, [], ◌∷◌, ◌++◌, Option, None, Some, drop, length, take, suc, refl, sym, ap, ◌∙◌, subst, append-nil, append_assoc, arith}
use Rattle.std.specs.Io.KnownBytes.{Appends}
use Rattle.std.proofs.lemmas.Grind.{flat_map-append}
use Rattle.std.proofs.lemmas.List.{length-append}
use Rattle.nm_faults.specs.Faults.{HasRisen}
use Rattle.nm_history.specs.Call.{PlacedLine, lines_of_first}
use Rattle.nm_history.specs.PrintedOut.{AreLogsOf, GainsReplies, HandsOnReplies, printed_by}
use Rattle.nm_io.specs.Observed.{ObservedSink, StreamAppends}
use Rattle.nm_lanes.specs.declared.script.Phase.{Phase}
use Rattle.nm_log.specs.Replies.{printed_line, reply_of}
use Rattle.nm_log.specs.declared.log.LineLog.{LineLog}
use Rattle.nm_session.specs.PrintedReplies.{PrintsRest}

-- ---- bytes

printed-append : (session : Bool) (a b : List LineLog) → printed_by session (a ++ b) ≡ printed_by session a ++ printed_by session b
printed-append true a b = flat_map-append printed_line a b
printed-append false a b = flat_map-append reply_of a b

none-printed : (session : Bool) → printed_by session [] ≡ []
none-printed true = refl
none-printed false = refl

appends-more : (a b c : Option (List ℕ)) (x y : List ℕ) → Appends a b x → Appends b c y → Appends a c (x ++ y)
appends-more None b c x y h k = tt
appends-more (Some a) None c x y h k = absurd h
appends-more (Some a) (Some b) None x y h k = absurd k
appends-more (Some a) (Some b) (Some c) x y h k = k ∙ (ap (λ (l : List ℕ). l ++ y) h ∙ append_assoc a x y)

appends-none : (a : Option (List ℕ)) → Appends a a []
appends-none None = tt
appends-none (Some a) = sym (append-nil a)

drop-front : (front more : List LineLog) → drop (length front) (front ++ more) ≡ more
drop-front [] more = refl
drop-front (log ∷ front) more = drop-front front more

pub logs-length : (lines : List PlacedLine) (logs : List LineLog) → AreLogsOf lines logs → length logs ≡ length lines
logs-length [] [] h = refl
logs-length [] (log ∷ logs) h = absurd h
logs-length (line ∷ lines) [] h = absurd h
logs-length (line ∷ lines) (log ∷ logs) h = ap suc (logs-length lines logs h.1)

-- ---- phases

pub printed-none : (session : Bool) (out : ObservedSink) → HandsOnReplies session 0 [] out out
printed-none session out = record {
  bytes = subst (λ (l : List ℕ). Appends out.bytes out.bytes l) (sym (none-printed session)) (appends-none out.bytes);
  put = omega (arith, ap length (none-printed session));
  handed = λ some. absurd (omega (arith, some));
  no_fault = refl;
}

-- of these logs the replies of the first ones were printed
module _ (session : Bool) (earlier later logs : List LineLog) (both : logs ≡ earlier ++ later) (printed : ℕ) (count : printed ≡ length earlier) (old mid new : ObservedSink)
    (number : ℕ) (so_far : HandsOnReplies session number earlier old mid) where
  rest-is : printed_by session (drop printed logs) ≡ printed_by session later
  rest-is = ap (printed_by session) (ap (λ (n : ℕ). drop n logs) count ∙ (ap (λ (l : List LineLog). drop (length earlier) l) both ∙ drop-front earlier later))

  all-is : printed_by session earlier ++ printed_by session (drop printed logs) ≡ printed_by session logs
  all-is = ap (λ (l : List ℕ). printed_by session earlier ++ l) rest-is ∙ (sym (printed-append session earlier later) ∙ ap (printed_by session) (sym both))

  pub printed-more : (now : ℕ) → PrintsRest session logs printed mid new (Some now) → (now ≡ length logs) × HandsOnReplies session (number + 1) logs old new
  printed-more now h = (
    h.0,
    record {
      bytes = subst (Appends old.bytes new.bytes) all-is (appends-more old.bytes mid.bytes new.bytes (printed_by session earlier) (printed_by session (drop printed logs)) so_far.bytes h.1.bytes);
      put = omega (arith, so_far.put, h.1.put, ap length all-is, length-append (printed_by session earlier) (printed_by session (drop printed logs)));
      handed = λ some. h.1.handed;
      no_fault = h.1.no_fault ∙ so_far.no_fault;
    },
  )

  pub printed-failed : (phases : List Phase) → AreLogsOf (lines_of_first number phases) earlier → PrintsRest session logs printed mid new None → GainsReplies true session phases (number + 1) logs old new
  printed-failed phases lines h = record {
    before = number;
    last = refl;
    earlier = earlier;
    later = later;
    both = both;
    lines = lines;
    bytes = (
      h.bytes.0,
      appends-more old.bytes mid.bytes new.bytes (printed_by session earlier) (take h.bytes.0 (printed_by session later)) so_far.bytes
          (subst (λ (l : List ℕ). Appends mid.bytes new.bytes (take h.bytes.0 l)) rest-is h.bytes.1),
    );
    handed = λ some. omega (arith, so_far.put, so_far.handed some, h.handed);
    fault = subst (λ (n : ℕ). HasRisen n new.faults) so_far.no_fault h.fault;
  }

-- ---- one phase

pub printed-once : (failed : Bool) (phases : List Phase) (logs : List LineLog) (old new : ObservedSink) → length phases ≡ 1 → StreamAppends failed old new (printed_by false logs) → GainsReplies failed false phases 1 logs old new
printed-once false phases logs old new one h = (sym one, (printed-more false [] logs logs refl 0 refl old old new 0 (printed-none false old) (length logs) (refl, h)).1)
printed-once true phases logs old new one h = printed-failed false [] logs logs refl 0 refl old old new 0 (printed-none false old) phases tt h
