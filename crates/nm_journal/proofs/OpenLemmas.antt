-- Records as they are read, one after the other. For the proofs of `next_record` and `read_header`.
use Rattle.std.proofs.Common.{◌≡◌, ℕ, ◌+◌, ◌-◌, ◌<◌, ◌≤◌, ◌^◌, min, List, [], ◌∷◌, ◌++◌, length, take, drop, get_or, Option, None, Some, IfSome, sym, ap, subst, ◌∙◌, arith, inl, inr, length-take, length-drop, take-append-drop, append_assoc, get_or-take, get_or-drop, drop-drop}
use Rattle.std.proofs.lemmas.List.{drop_all, drop_more, take_all}
use Rattle.std.proofs.lemmas.Nat.{from_be_bytes-to_be_bytes_4}
use Rattle.std.specs.Int.{w32, from_be_bytes, to_be_bytes}
use Rattle.nm_disk.specs.declared.disk.FileNo.{FileNo}
use Rattle.nm_disk.specs.Observed.{Moments, bytes_now, front_from}
use Rattle.nm_journal.specs.declared.journal.JournalError.{JournalError}
use Rattle.nm_journal.specs.declared.journal.JournalError.TheVariants.{BadIndex, DiskFault, NoMemory}
use Rattle.nm_journal.specs.declared.record_reader.Header.{Header}
use Rattle.nm_journal.proofs.RecordLemmas.{records-push}
use Rattle.nm_journal.specs.FoundRecords.{HasFault, IsHeaderAt, IsNext, IsNextFault, IsNoFault}
use Rattle.nm_journal.specs.Records.{AreBodies, HasRecords, IsCut, record_of, records_of}

-- the header of what is at a place
pub header_at : (bytes into : List ℕ) (at : ℕ) (header : Header) → length into ≡ 5 → take header.count into ≡ front_from bytes at 5 → header.count ≡ length (front_from bytes at 5)
    → into ≡ header.gate ∷ to_be_bytes w32 header.len → header.len < 2 ^ 32 → IsHeaderAt bytes at header
header_at bytes into at header five front count is fits =
    let size : length (front_from bytes at 5) ≡ min 5 (length bytes - at) = length-take 5 (drop at bytes) ∙ ap (min 5) (length-drop at bytes) in
    record {
      count = count ∙ size;
      gate = λ some.
          let first : get_or into 0 0 ≡ get_or (front_from bytes at 5) 0 0 = sym (get_or-take header.count into 0 0 some) ∙ ap (λ l. get_or l 0 0) front in
          ap (λ k. get_or bytes k 0) (omega arith) ∙ sym (get_or-drop at bytes 0 0) ∙ sym (get_or-take 5 (drop at bytes) 0 0 (omega arith)) ∙ sym first ∙ ap (λ l. get_or l 0 0) is;
      whole = λ all. sym front ∙ ap (λ n. take n into) all ∙ take_all 5 into (omega (arith, five)) ∙ is;
      fits = fits;
    }

-- four bytes after an open gate
four : (bytes : List ℕ) (gate g len : ℕ) → take 5 (drop gate bytes) ≡ g ∷ to_be_bytes w32 len → (take 4 (drop (gate + 1) bytes) ≡ to_be_bytes w32 len) × (gate + 5 ≤ length bytes)
four bytes gate g len whole =
    let size : min 5 (length bytes - gate) ≡ 5 = ap (min 5) (sym (length-drop gate bytes)) ∙ sym (length-take 5 (drop gate bytes)) ∙ ap length whole in
    let long : gate + 5 ≤ length bytes = omega (arith, size) in
    let cell : drop gate bytes ≡ get_or bytes gate 0 ∷ drop (gate + 1) bytes = drop_more bytes gate 0 (omega (arith, long)) in
    let both : get_or bytes gate 0 ∷ take 4 (drop (gate + 1) bytes) ≡ g ∷ to_be_bytes w32 len = ap (take 5) (sym cell) ∙ whole in
    (cc, long)

-- what comes after an open gate is cut
pub cut_short : (bytes : List ℕ) (gate : ℕ) → length bytes - gate < 5 → gate < length bytes → IsCut (drop (gate + 1) bytes)
cut_short bytes gate short inside = inl (omega (arith, length-drop (gate + 1) bytes))

pub cut_long : (bytes : List ℕ) (gate g len : ℕ) → take 5 (drop gate bytes) ≡ g ∷ to_be_bytes w32 len → len < 2 ^ 32 → length bytes - (gate + 5) < len → IsCut (drop (gate + 1) bytes)
cut_long bytes gate g len whole fits more =
    let says : from_be_bytes w32 (take 4 (drop (gate + 1) bytes)) ≡ len =
    ap (from_be_bytes w32) (four bytes gate g len whole).0 ∙ from_be_bytes-to_be_bytes_4 len fits in
    inr (omega (arith, says, length-drop (gate + 1) bytes))

-- an open record and what is after it
pub next_is : (bytes : List ℕ) (gate g len : ℕ) (body : List ℕ) → take 5 (drop gate bytes) ≡ g ∷ to_be_bytes w32 len → g ≡ 1 → body ≡ take len (drop (gate + 5) bytes) → length body ≡ len
    → drop gate bytes ≡ record_of body ++ drop (gate + 5 + length body) bytes
next_is bytes gate g len body whole opens is same =
    let rest = drop (gate + 5 + length body) bytes in
    let tail : drop (gate + 5) bytes ≡ body ++ rest =
    sym (take-append-drop len (drop (gate + 5) bytes)) ∙ ap (λ l. l ++ drop len (drop (gate + 5) bytes)) (sym is)
    ∙ ap (λ l. body ++ l) (drop-drop len (gate + 5) bytes ∙ ap (λ n. drop (gate + 5 + n) bytes) (sym same)) in
    sym (take-append-drop 5 (drop gate bytes)) ∙ ap (λ l. l ++ drop 5 (drop gate bytes)) whole
    ∙ ap (λ l. (g ∷ to_be_bytes w32 len) ++ l) (drop-drop 5 gate bytes ∙ tail)
    ∙ ap (λ n. (n ∷ to_be_bytes w32 len) ++ (body ++ rest)) opens
    ∙ ap (λ n. (1 ∷ to_be_bytes w32 n) ++ (body ++ rest)) (sym same)
    ∙ sym (append_assoc (1 ∷ to_be_bytes w32 (length body)) body rest)

-- one record more was read
pub read_more : (at gate next : ℕ) (bodies : List (List ℕ)) (body bytes : List ℕ) → next ≡ gate + 5 + length body → drop at bytes ≡ records_of bodies ++ drop gate bytes
    → drop gate bytes ≡ record_of body ++ drop (gate + 5 + length body) bytes → drop at bytes ≡ records_of (bodies ++ body ∷ []) ++ drop next bytes
read_more at gate next bodies body bytes e is more =
    is ∙ ap (λ l. records_of bodies ++ l) more ∙ sym (append_assoc (records_of bodies) (record_of body) (drop (gate + 5 + length body) bytes))
    ∙ ap (λ l. l ++ drop (gate + 5 + length body) bytes) (sym (records-push bodies body))
    ∙ ap (λ n. records_of (bodies ++ body ∷ []) ++ drop n bytes) (sym e)

-- the gate that was read is closed
pub read_all : (at gate : ℕ) (bodies : List (List ℕ)) (bytes : List ℕ) → AreBodies bodies → drop at bytes ≡ records_of bodies ++ drop gate bytes → IsNext bytes gate None → HasRecords at bodies bytes
read_all at gate bodies bytes fit is closed = record {
  fit = fit;
  gate = get_or bytes gate 0;
  closed = closed.1;
  rest = drop (gate + 1) bytes;
  is = is ∙ ap (λ l. records_of bodies ++ l) (drop_more bytes gate 0 closed.0);
}

-- the next record is none
pub read_fault : (file : FileNo) (at gate : ℕ) (bodies : List (List ℕ)) (bytes : List ℕ) (error : JournalError) → AreBodies bodies → gate ≡ at + length (records_of bodies)
    → drop at bytes ≡ records_of bodies ++ drop gate bytes → IsNextFault file bytes gate error → HasFault file at bytes error
read_fault file at gate bodies bytes DiskFault fit e is fault = tt
read_fault file at gate bodies bytes NoMemory fit e is fault = tt
read_fault file at gate bodies bytes (BadIndex told place) fit e is fault = (
  fault.0,
  record {
    bodies = bodies;
    fit = fit;
    rest = drop gate bytes;
    is = is;
    fault = elim fault.1 [
      | inl ends ↦ inl (drop_all gate bytes ends.0, ends.1)
      | inr cut ↦ inr (drop (gate + 1) bytes, drop_more bytes gate 0 cut.0 ∙ ap (λ b. b ∷ drop (gate + 1) bytes) cut.1, cut.2, cut.3 ∙ e)
    ];
  },
)

-- the same, of a disk whose bytes are known or aren't
pub header_told : (x : Option Moments) (file : FileNo) (at : ℕ) (into : List ℕ) (header : Header) (n : ℕ) → length into ≡ 5
    → IfSome x (λ moments. take n into ≡ front_from (bytes_now moments file) at 5) → IfSome x (λ moments. n ≡ length (front_from (bytes_now moments file) at 5))
    → header.count ≡ n → into ≡ header.gate ∷ to_be_bytes w32 header.len → header.len < 2 ^ 32 → IfSome x (λ moments. IsHeaderAt (bytes_now moments file) at header)
header_told None file at into header n five front count same is fits = tt
header_told (Some moments) file at into header n five front count same is fits =
    header_at (bytes_now moments file) into at header five (ap (λ k. take k into) same ∙ front) (same ∙ count) is fits

next_told_at : (x : Option Moments) (file : FileNo) (gate : ℕ) (header : Header) (body : List ℕ) → IfSome x (λ moments. IsHeaderAt (bytes_now moments file) gate header)
    → IfSome x (λ moments. body ≡ take header.len (drop (gate + 5) (bytes_now moments file))) → length body ≡ header.len → header.gate ≡ 1 → 5 ≤ header.count
    → IfSome x (λ moments. IsNext (bytes_now moments file) gate (Some body))
next_told_at None file gate header body at is same opens all = tt
next_told_at (Some moments) file gate header body at is same opens all =
    next_is (bytes_now moments file) gate header.gate header.len body (at.whole (omega (arith, at.count, all))) opens is same

pub next_told : (x y : Option Moments) (file : FileNo) (gate : ℕ) (header : Header) (body : List ℕ) → y ≡ x → IfSome x (λ moments. IsHeaderAt (bytes_now moments file) gate header)
    → IfSome y (λ moments. body ≡ take header.len (drop (gate + 5) (bytes_now moments file))) → length body ≡ header.len → header.gate ≡ 1 → 5 ≤ header.count
    → IfSome x (λ moments. IsNext (bytes_now moments file) gate (Some body))
next_told x y file gate header body e at is same opens all =
    next_told_at x file gate header body at (subst (λ (o : Option Moments). IfSome o (λ moments. body ≡ take header.len (drop (gate + 5) (bytes_now moments file)))) e is) same opens all

no_fault : (file : FileNo) (bytes : List ℕ) (gate : ℕ) (error : JournalError) → IsNoFault error → IsNextFault file bytes gate error
no_fault file bytes gate DiskFault none = tt
no_fault file bytes gate NoMemory none = tt
no_fault file bytes gate (BadIndex told at) none = absurd none

pub no_fault_told : (x y : Option Moments) (file : FileNo) (gate : ℕ) (error : JournalError) → y ≡ x → IfSome y (λ moments. IsNoFault error)
    → IfSome x (λ moments. IsNextFault file (bytes_now moments file) gate error)
no_fault_told x None file gate error e none = subst (λ (o : Option Moments). IfSome o (λ moments. IsNextFault file (bytes_now moments file) gate error)) e tt
no_fault_told x (Some moments) file gate error e none =
    subst (λ (o : Option Moments). IfSome o (λ moments. IsNextFault file (bytes_now moments file) gate error)) e (no_fault file (bytes_now moments file) gate error none)

-- the body is within the file
pub room_told : (x y : Option Moments) (file : FileNo) (gate len : ℕ) (header : Header) → y ≡ x → IfSome x (λ moments. len ≡ length (bytes_now moments file))
    → IfSome x (λ moments. IsHeaderAt (bytes_now moments file) gate header) → 5 ≤ header.count → header.len ≤ len - (gate + 5)
    → IfSome y (λ moments. gate + 5 + header.len ≤ length (bytes_now moments file))
room_told None y file gate len header e same at all fits = subst (λ (o : Option Moments). IfSome o (λ moments. gate + 5 + header.len ≤ length (bytes_now moments file))) (sym e) tt
room_told (Some moments) y file gate len header e same at all fits =
    let long : gate + 5 + header.len ≤ length (bytes_now moments file) = omega (arith, same, at.count, all, fits) in
    subst (λ (o : Option Moments). IfSome o (λ moments. gate + 5 + header.len ≤ length (bytes_now moments file))) (sym e) long
