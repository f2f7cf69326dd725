-- One put after another puts the one and then the other, and a flush hands on what was put.
-- For the proofs of `print_lines`, `print_replies`, `print_text` and others.
use Rattle.std.proofs.Common.{◌≡◌, ℕ, ◌+◌, List, ◌++◌, Option, Result, Ok, Err, length, take, min, sym, ap, ◌∙◌, arith, subst, inl, inr, IsErr, is_err}
use Rattle.std.proofs.Math.Seq.{take-append-add}
use Rattle.std.proofs.lemmas.List.{length-append, take-append-le, take_all}
use Rattle.std.proofs.lemmas.Bool.{cases_lt, false≢true}
use Rattle.std.specs.Io.KnownBytes.{Appends, Keeps}
use Rattle.std.proofs.KnownBytes.{Appends-kept, Appends-trans}
use Rattle.nm_base.specs.declared.memory.Failed.{Failed}
use Rattle.nm_faults.specs.Faults.{HasRisen}
use Rattle.nm_io.specs.Observed.{Flushes, ObservedSink, Puts, StreamAppends}

-- ---- bytes

-- taking more than there is takes all
capped : (n : ℕ) (xs : List ℕ) → take (min n (length xs)) xs ≡ take n xs
capped n xs = elim (cases_lt n (length xs)) [ inl few ↦ ap (λ m. take m xs) (omega arith) | inr many ↦ ap (λ m. take m xs) (omega arith) ∙ (take_all (length xs) xs (omega arith) ∙ sym (take_all n xs (omega arith))) ]

-- the first of a front are the first of the whole
front_of : (n : ℕ) (xs ys : List ℕ) → take (min n (length xs)) (xs ++ ys) ≡ take n xs
front_of n xs ys = take-append-le (min n (length xs)) xs ys (omega arith) ∙ capped n xs

-- a first put that fails
fails-first : (a b : Option (List ℕ)) (xs ys : List ℕ) → (n : ℕ) × Appends a b (take n xs) → (n : ℕ) × Appends a b (take n (xs ++ ys))
fails-first a b xs ys h = (min h.0 (length xs), subst (Appends a b) (sym (front_of h.0 xs ys)) h.1)

-- a put that fails after one that went well
appends-first : (a b c : Option (List ℕ)) (xs ys : List ℕ) → Appends a b xs → (n : ℕ) × Appends b c (take n ys) → (n : ℕ) × Appends a c (take n (xs ++ ys))
appends-first a b c xs ys h k = (length xs + k.0, subst (Appends a c) (sym (take-append-add xs ys k.0)) (Appends-trans a b c xs (take k.0 ys) h k.1))

-- what was put is there after a flush that fails
appends-kept : (a b c : Option (List ℕ)) (xs : List ℕ) → Appends a b xs → Keeps b c → (n : ℕ) × Appends a c (take n xs)
appends-kept a b c xs h k = (length xs, subst (Appends a c) (sym (take_all (length xs) xs (omega arith))) (Appends-kept a b c xs h k))

-- ---- sinks

-- what a put and a flush answer
abbrev pub Answer : Type 0
Answer = Result (Unit {0}) Failed

-- a first put that fails
pub Puts-first : (a b : ObservedSink) (r : Answer) (e : Failed) (xs ys : List ℕ) → IsErr r → Puts {T = Unit {0}} a b (Err e) xs → Puts a b r (xs ++ ys)
Puts-first a b (Ok x) e xs ys failed h = absurd (false≢true failed)
Puts-first a b (Err d) e xs ys failed h = record { bytes = fails-first a.bytes b.bytes xs ys h.bytes; put = h.put; handed = h.handed; cause = h.cause }

-- a put after one that went well
pub Puts-then : (a b c : ObservedSink) (r : Answer) (x : Unit {0}) (xs ys : List ℕ) → Puts a b (Ok x) xs → Puts b c r ys → Puts a c r (xs ++ ys)
Puts-then a b c (Ok y) x xs ys h k = record {
  bytes = Appends-trans a.bytes b.bytes c.bytes xs ys h.bytes k.bytes;
  put = omega (arith, h.put, k.put, length-append xs ys);
  handed = omega (arith, h.handed, k.handed);
  cause = k.cause ∙ h.cause;
}
Puts-then a b c (Err e) x xs ys h k = record {
  bytes = appends-first a.bytes b.bytes c.bytes xs ys h.bytes k.bytes;
  put = omega (arith, h.put, k.put);
  handed = omega (arith, h.handed, k.handed);
  cause = subst (λ (n : ℕ). HasRisen n c.faults) h.cause k.cause;
}

-- ---- what is handed on

-- a put that fails before the flush
pub StreamAppends-failed : (a b : ObservedSink) (r : Answer) (e : Failed) (xs : List ℕ) → IsErr r → Puts {T = Unit {0}} a b (Err e) xs → StreamAppends (is_err r) a b xs
StreamAppends-failed a b (Ok x) e xs failed h = absurd (false≢true failed)
StreamAppends-failed a b (Err d) e xs failed h = record { bytes = h.bytes; handed = h.handed; fault = h.cause }

-- a flush after a put that went well
pub StreamAppends-flushed : (a b c : ObservedSink) (r : Answer) (x : Unit {0}) (xs : List ℕ) → Puts a b (Ok x) xs → Flushes b c r → StreamAppends (is_err r) a c xs
StreamAppends-flushed a b c (Ok y) x xs h k = record {
  bytes = Appends-kept a.bytes b.bytes c.bytes xs h.bytes k.bytes;
  put = k.put ∙ h.put;
  handed = k.handed;
  no_fault = k.cause ∙ h.cause;
}
StreamAppends-flushed a b c (Err e) x xs h k = record {
  bytes = appends-kept a.bytes b.bytes c.bytes xs h.bytes k.bytes;
  handed = omega (arith, h.handed, k.handed);
  fault = subst (λ (n : ℕ). HasRisen n c.faults) h.cause k.cause;
}

pub ruleset puts = (StreamAppends-failed, StreamAppends-flushed)
