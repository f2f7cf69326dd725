-- Bytes that have records of a journal, and what a write after or over the closed gate makes of them.
-- For `AppendLemmas` and `OpenLemmas`.
use Rattle.std.proofs.Common.{◌≡◌, ◌⊎◌, ℕ, ◌+◌, ◌-◌, ◌<◌, ◌≤◌, ◌^◌, false, List, [], ◌∷◌, ◌++◌, length, take, drop, get_or, refl, sym, ap, ◌∙◌, arith, inl, inr, length-append, length-take, length-drop, length-take-le, take-append-drop, append_assoc, append-nil, take_at, drop_at, get_or-take, get_or-drop, ext_get_or, drop-drop}
use Rattle.std.proofs.lemmas.List.{drop-append-le, drop-take, drop_more, get_or_at}
use Rattle.std.proofs.lemmas.Bool.{cases_eq}
use Rattle.std.proofs.lemmas.Bool.Decides.{nat_tests}
use Rattle.std.specs.Int.{w32, to_be_bytes}
use Rattle.nm_disk.specs.CrashStateLaws.{ComesOf, overwritten_comes_of}
use Rattle.nm_disk.specs.CrashStates.{overwritten}
use Rattle.nm_disk.specs.MemoryLaws.{is_within}
use Rattle.nm_journal.specs.Frame.{framed}
use Rattle.nm_journal.specs.Staged.{HasStaged}
use Rattle.nm_journal.specs.Records.{AreBodies, HasRecords, record_of, records_of}

before_within : (at n place : ℕ) → place < at → is_within at n place ≡ false
before_within at n place before = grind (arith, nat_tests)

after_within : (at n place : ℕ) → at + n ≤ place → is_within at n place ≡ false
after_within at n place past = grind (arith, nat_tests)

-- what a list has from a place on, and after that
length-rest : (start : ℕ) (bytes front rest : List ℕ) (x : ℕ) → drop start bytes ≡ front ++ x ∷ rest → start + length front + 1 + length rest ≡ length bytes
length-rest start bytes front rest x is =
    let whole : length bytes - start ≡ length front + length (x ∷ rest) = sym (length-drop start bytes) ∙ ap length is ∙ length-append front (x ∷ rest) in
    omega (arith, whole)

-- the same first places
same_front : (n : ℕ) (a b : List ℕ) → n ≤ length a → n ≤ length b → ((place : ℕ) → place < n → get_or a place 0 ≡ get_or b place 0) → take n a ≡ take n b
same_front n a b in_a in_b same =
    let len_a : length (take n a) ≡ n = length-take-le n a in_a in
    let len_b : length (take n b) ≡ n = length-take-le n b in_b in
    ext_get_or 0 (take n a) (take n b) (len_a ∙ sym len_b)
    (λ place inside. let below : place < n = omega (arith, inside, len_a) in get_or-take n a place 0 below ∙ same place below ∙ sym (get_or-take n b place 0 below))

-- what is from the place on, up to the byte x
front_is : (start n : ℕ) (bytes front rest : List ℕ) (x : ℕ) → n ≡ start + length front → drop start bytes ≡ front ++ x ∷ rest → drop start (take n bytes) ≡ front
front_is start n bytes front rest x e is =
    ap (λ k. drop start (take k bytes)) e ∙ drop-take start (length front) bytes ∙ ap (take (length front)) is ∙ take_at front (x ∷ rest) (length front) refl

-- the byte at the place where the first bytes end
byte_at : (start n : ℕ) (bytes front rest : List ℕ) (x : ℕ) → n ≡ start + length front → drop start bytes ≡ front ++ x ∷ rest → get_or bytes n 0 ≡ x
byte_at start n bytes front rest x e is =
    ap (λ k. get_or bytes k 0) e ∙ sym (get_or-drop start bytes (length front) 0) ∙ ap (λ l. get_or l (length front) 0) is
    ∙ get_or_at front x rest 0 (length front) refl

-- a list that begins as another does, up to a place
begins_as : (start n : ℕ) (c d front rest : List ℕ) (x : ℕ) → n ≡ start + length front → drop start d ≡ front ++ x ∷ rest → n < length c → take n c ≡ take n d
    → drop start c ≡ front ++ get_or c n 0 ∷ drop (n + 1) c
begins_as start n c d front rest x e is long same =
    let parts : c ≡ take n c ++ drop n c = sym (take-append-drop n c) in
    let reaches : start ≤ length (take n c) = omega (arith, e, length-take n c, long) in
    ap (drop start) parts ∙ drop-append-le start (take n c) (drop n c) reaches
    ∙ ap (λ l. drop start l ++ drop n c) same ∙ ap (λ l. l ++ drop n c) (front_is start n d front rest x e is)
    ∙ ap (λ l. front ++ l) (drop_more c n 0 long)

-- A write after the closed gate leaves the records as they are.
pub kept_after : (start gate n : ℕ) (bodies : List (List ℕ)) (d c : List ℕ) → gate ≡ start + length (records_of bodies) → HasRecords start bodies d → ComesOf (gate + 1) n d c
    → HasRecords start bodies c
kept_after start gate n bodies d c e has comes =
    let long : start + length (records_of bodies) + 1 + length has.rest ≡ length d = length-rest start d (records_of bodies) has.rest has.gate has.is in
    let in_d : gate < length d = omega (arith, long, e) in
    let in_c : gate < length c = omega (arith, in_d, comes.no_shorter) in
    let same : take gate c ≡ take gate d =
    same_front gate c d (omega (arith, in_c)) (omega (arith, in_d)) (λ place below. comes.elsewhere place (omega (arith, below, in_d)) (before_within (gate + 1) n place (omega (arith, below)))) in
    let gate_of_d : get_or d gate 0 ≡ has.gate = byte_at start gate d (records_of bodies) has.rest has.gate e has.is in
    record {
      fit = has.fit;
      gate = get_or c gate 0;
      closed = λ opens. has.closed (sym gate_of_d ∙ sym (comes.elsewhere gate in_d (before_within (gate + 1) n gate (omega arith))) ∙ opens);
      rest = drop (gate + 1) c;
      is = begins_as start gate c d (records_of bodies) has.rest has.gate e has.is in_c same;
    }

-- The frame comes after the closed gate once it is written there.
pub staged : (start gate : ℕ) (bodies : List (List ℕ)) (body d : List ℕ) → gate ≡ start + length (records_of bodies) → HasRecords start bodies d
    → HasStaged start bodies body (overwritten d (gate + 1) (framed body))
unfolding kept_after
staged start gate bodies body d e has =
    let long : start + length (records_of bodies) + 1 + length has.rest ≡ length d = length-rest start d (records_of bodies) has.rest has.gate has.is in
    let c = overwritten d (gate + 1) (framed body) in
    let comes : ComesOf (gate + 1) (length (framed body)) d c = overwritten_comes_of d (framed body) (gate + 1) in
    let kept = kept_after start gate (length (framed body)) bodies d c e has comes in
    let front : length (take (gate + 1) d) ≡ gate + 1 = length-take-le (gate + 1) d (omega (arith, long, e)) in
    let behind : drop (gate + 1) c ≡ framed body ++ drop (gate + 1 + length (framed body)) d =
    ap (drop (gate + 1)) (append_assoc (take (gate + 1) d) (framed body) (drop (gate + 1 + length (framed body)) d))
    ∙ drop_at (take (gate + 1) d) (framed body ++ drop (gate + 1 + length (framed body)) d) (gate + 1) front in
    record {
      fit = kept.fit;
      gate = kept.gate;
      closed = kept.closed;
      rest = drop (gate + 1 + length (framed body)) d;
      is = kept.is ∙ ap (λ l. records_of bodies ++ kept.gate ∷ l) behind;
    }

-- what has the frame after a closed gate has the records
pub of_staged : (start : ℕ) (bodies : List (List ℕ)) (body bytes : List ℕ) → HasStaged start bodies body bytes → HasRecords start bodies bytes
of_staged start bodies body bytes has =
    record { fit = has.fit; gate = has.gate; closed = has.closed; rest = framed body ++ has.rest; is = has.is }

pub records-push : (bodies : List (List ℕ)) (body : List ℕ) → records_of (bodies ++ body ∷ []) ≡ records_of bodies ++ record_of body
records-push [] body = append-nil (record_of body)
records-push (first ∷ bodies) body =
    ap (λ l. record_of first ++ l) (records-push bodies body) ∙ sym (append_assoc (record_of first) (records_of bodies) (record_of body))

pub fit-push : (bodies : List (List ℕ)) (body : List ℕ) → AreBodies bodies → length body < 2 ^ 32 → AreBodies (bodies ++ body ∷ [])
fit-push [] body fit short = (short, tt)
fit-push (first ∷ bodies) body fit short = (fit.0, fit-push bodies body fit.1 short)

-- where the gate of the next record is
pub next_gate : (start gate : ℕ) (bodies : List (List ℕ)) (body : List ℕ) → gate ≡ start + length (records_of bodies)
    → gate + 5 + length body ≡ start + length (records_of (bodies ++ body ∷ []))
next_gate start gate bodies body e =
    let more : length (records_of (bodies ++ body ∷ [])) ≡ length (records_of bodies) + length (record_of body) =
    ap length (records-push bodies body) ∙ length-append (records_of bodies) (record_of body) in
    let one : length (record_of body) ≡ 5 + length body = omega (arith, length-append (1 ∷ to_be_bytes w32 (length body)) body) in
    omega (arith, more, one, e)

-- what a write of the gate leaves, with this byte there
over_gate : (start gate x : ℕ) (bodies : List (List ℕ)) (body d c : List ℕ) → gate ≡ start + length (records_of bodies) → HasStaged start bodies body d → ComesOf gate 1 d c
    → get_or c gate 0 ≡ x → drop start c ≡ records_of bodies ++ x ∷ (framed body ++ drop (gate + 1 + length (framed body)) c)
over_gate start gate x bodies body d c e has comes at_gate =
    let fb = framed body in
    let after_d : drop (gate + 1) d ≡ fb ++ has.rest =
    ap (λ k. drop k d) (omega (arith, e)) ∙ sym (drop-drop (length (records_of bodies) + 1) start d) ∙ ap (drop (length (records_of bodies) + 1)) has.is
    ∙ ap (drop (length (records_of bodies) + 1)) (sym (append_assoc (records_of bodies) (has.gate ∷ []) (fb ++ has.rest)))
    ∙ drop_at (records_of bodies ++ has.gate ∷ []) (fb ++ has.rest) (length (records_of bodies) + 1) (length-append (records_of bodies) (has.gate ∷ [])) in
    let long : start + length (records_of bodies) + 1 + length (fb ++ has.rest) ≡ length d =
    length-rest start d (records_of bodies) (fb ++ has.rest) has.gate has.is in
    let parts : length (fb ++ has.rest) ≡ length fb + length has.rest = length-append fb has.rest in
    let in_d : gate + 1 + length fb ≤ length d = omega (arith, long, parts, e) in
    let in_c : gate + 1 + length fb ≤ length c = omega (arith, in_d, comes.no_shorter) in
    let same : take gate c ≡ take gate d =
    same_front gate c d (omega (arith, in_c)) (omega (arith, in_d)) (λ place below. comes.elsewhere place (omega (arith, below, in_d)) (before_within gate 1 place below)) in
    let body_same : take (length fb) (drop (gate + 1) c) ≡ take (length fb) (drop (gate + 1) d) =
    same_front (length fb) (drop (gate + 1) c) (drop (gate + 1) d) (omega (arith, in_c, length-drop (gate + 1) c)) (omega (arith, in_d, length-drop (gate + 1) d))
    (λ place below.
    get_or-drop (gate + 1) c place 0
    ∙ comes.elsewhere (gate + 1 + place) (omega (arith, below, in_d)) (after_within gate 1 (gate + 1 + place) (omega arith))
    ∙ sym (get_or-drop (gate + 1) d place 0)) in
    let body_is : take (length fb) (drop (gate + 1) c) ≡ fb = body_same ∙ ap (take (length fb)) after_d ∙ take_at fb has.rest (length fb) refl in
    let after_c : drop (gate + 1) c ≡ fb ++ drop (gate + 1 + length fb) c =
    sym (take-append-drop (length fb) (drop (gate + 1) c)) ∙ ap (λ l. l ++ drop (length fb) (drop (gate + 1) c)) body_is
    ∙ ap (λ l. fb ++ l) (drop-drop (length fb) (gate + 1) c) in
    begins_as start gate c d (records_of bodies) (fb ++ has.rest) has.gate e has.is (omega (arith, in_c)) same
    ∙ ap (λ b. records_of bodies ++ b ∷ drop (gate + 1) c) at_gate
    ∙ ap (λ l. records_of bodies ++ x ∷ l) after_c

-- with the gate open the new record is there
opened : (start : ℕ) (bodies : List (List ℕ)) (body c rest : List ℕ) → AreBodies bodies → length body < 2 ^ 32
    → drop start c ≡ records_of bodies ++ 1 ∷ (framed body ++ rest) → HasRecords start (bodies ++ body ∷ []) c
opened start bodies body c rest fit short is = record {
  fit = fit-push bodies body fit short;
  gate = 0;
  closed = λ e. absurd (let no : ⊥ = omega (arith, e) in no);
  rest = rest;
  is =
      let len = to_be_bytes w32 (length body) in
      let frame_is : framed body ++ rest ≡ (len ++ body) ++ 0 ∷ rest = append_assoc (len ++ body) (0 ∷ []) rest in
      is ∙ ap (λ l. records_of bodies ++ 1 ∷ l) frame_is
      ∙ sym (append_assoc (records_of bodies) (record_of body) (0 ∷ rest))
      ∙ ap (λ l. l ++ 0 ∷ rest) (sym (records-push bodies body));
}

-- A crash while the gate is written leaves the records from before, or these and the new one.
pub either : (start gate : ℕ) (bodies : List (List ℕ)) (body d c : List ℕ) → gate ≡ start + length (records_of bodies) → length body < 2 ^ 32 → HasStaged start bodies body d → ComesOf gate 1 d c
    → HasRecords start bodies c ⊎ HasRecords start (bodies ++ body ∷ []) c
either start gate bodies body d c e short has comes =
    let rest = drop (gate + 1 + length (framed body)) c in
    elim (cases_eq (get_or c gate 0) 1) [
      | inl open_gate ↦ inr (opened start bodies body c rest has.fit short (over_gate start gate 1 bodies body d c e has comes open_gate))
      | inr closed_gate ↦ inl (record {
        fit = has.fit;
        gate = get_or c gate 0;
        closed = closed_gate;
        rest = framed body ++ rest;
        is = over_gate start gate (get_or c gate 0) bodies body d c e has comes refl;
      })
    ]

-- Once the gate is written as open the new record is there.
pub gate_opened : (start gate : ℕ) (bodies : List (List ℕ)) (body d : List ℕ) → gate ≡ start + length (records_of bodies) → length body < 2 ^ 32 → HasStaged start bodies body d
    → HasRecords start (bodies ++ body ∷ []) (overwritten d gate (1 ∷ []))
gate_opened start gate bodies body d e short has =
    let c = overwritten d gate (1 ∷ []) in
    let long : start + length (records_of bodies) + 1 + length (framed body ++ has.rest) ≡ length d =
    length-rest start d (records_of bodies) (framed body ++ has.rest) has.gate has.is in
    let front : length (take gate d) ≡ gate = length-take-le gate d (omega (arith, long, e)) in
    let is_one : get_or c gate 0 ≡ 1 =
    ap (λ l. get_or l gate 0) (append_assoc (take gate d) (1 ∷ []) (drop (gate + 1) d)) ∙ get_or_at (take gate d) 1 (drop (gate + 1) d) 0 gate front in
    opened start bodies body c (drop (gate + 1 + length (framed body)) c) has.fit short
    (over_gate start gate 1 bodies body d c e has (overwritten_comes_of d (1 ∷ []) gate) is_one)

-- what has the records reaches past the closed gate
pub length_past_gate : (start gate : ℕ) (bodies : List (List ℕ)) (bytes : List ℕ) → gate ≡ start + length (records_of bodies) → HasRecords start bodies bytes → gate + 1 ≤ length bytes
length_past_gate start gate bodies bytes e has = omega (arith, e, length-rest start bytes (records_of bodies) has.rest has.gate has.is)
