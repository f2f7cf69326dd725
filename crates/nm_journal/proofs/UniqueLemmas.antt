-- Bytes are read as records in one way. For the proofs of `records_are_not_broken` and `records_are_read_in_one_way`.
use Rattle.std.proofs.Common.{◌≡◌, ◌≢◌, ℕ, ◌+◌, ◌<◌, ◌^◌, List, [], ◌∷◌, ◌++◌, length, take, drop, refl, sym, ap, subst, ◌∙◌, arith, inl, inr, length-append, append_assoc, take_at, drop_at}
use Rattle.std.proofs.lemmas.Nat.{from_be_bytes-to_be_bytes_4}
use Rattle.std.specs.Int.{w32, from_be_bytes, to_be_bytes}
use Rattle.nm_journal.specs.Records.{AreBodies, HasRecords, IsBroken, IsCut, record_of, records_of}

-- no open record begins the bytes
abbrev IsEnd : List ℕ → Type 0
IsEnd bytes = (body rest : List ℕ) → length body < 2 ^ 32 → bytes ≡ record_of body ++ rest → ⊥

-- after the gate of an open record
behind : (body rest : List ℕ) → record_of body ++ rest ≡ 1 ∷ (to_be_bytes w32 (length body) ++ (body ++ rest))
behind body rest = append_assoc (1 ∷ to_be_bytes w32 (length body)) body rest

closed_ends : (gate : ℕ) (rest : List ℕ) → gate ≢ 1 → IsEnd (gate ∷ rest)
closed_ends gate rest closed body more short e = closed (let f : gate ∷ rest ≡ 1 ∷ (to_be_bytes w32 (length body) ++ (body ++ more)) = e ∙ behind body more in cc)

nothing_ends : IsEnd []
nothing_ends body more short e = let f : [] ≡ 1 ∷ (to_be_bytes w32 (length body) ++ (body ++ more)) = e ∙ behind body more in cc

cut_ends : (more : List ℕ) → IsCut more → IsEnd (1 ∷ more)
cut_ends more cut body rest short e =
    let f : 1 ∷ more ≡ 1 ∷ (to_be_bytes w32 (length body) ++ (body ++ rest)) = e ∙ behind body rest in
    let is : more ≡ to_be_bytes w32 (length body) ++ (body ++ rest) = cc in
    let size : length more ≡ 4 + (length body + length rest) =
    ap length is ∙ length-append (to_be_bytes w32 (length body)) (body ++ rest) ∙ ap (λ n. 4 + n) (length-append body rest) in
    let says : from_be_bytes w32 (take 4 more) ≡ length body =
    ap (λ l. from_be_bytes w32 (take 4 l)) is ∙ ap (from_be_bytes w32) (take_at (to_be_bytes w32 (length body)) (body ++ rest) 4 refl) ∙ from_be_bytes-to_be_bytes_4 (length body) short in
    elim cut [ inl few ↦ absurd (let no : ⊥ = omega (arith, few, size) in no) | inr long ↦ absurd (let no : ⊥ = omega (arith, long, size, says) in no) ]

-- two records that begin the same bytes are the same
same_record : (a b x y : List ℕ) → length a < 2 ^ 32 → length b < 2 ^ 32 → record_of a ++ x ≡ record_of b ++ y → (a ≡ b) × (x ≡ y)
same_record a b x y short_a short_b e =
    let f : 1 ∷ (to_be_bytes w32 (length a) ++ (a ++ x)) ≡ 1 ∷ (to_be_bytes w32 (length b) ++ (b ++ y)) = sym (behind a x) ∙ e ∙ behind b y in
    let g : to_be_bytes w32 (length a) ++ (a ++ x) ≡ to_be_bytes w32 (length b) ++ (b ++ y) = cc in
    let front : to_be_bytes w32 (length a) ≡ to_be_bytes w32 (length b) =
    sym (take_at (to_be_bytes w32 (length a)) (a ++ x) 4 refl) ∙ ap (take 4) g ∙ take_at (to_be_bytes w32 (length b)) (b ++ y) 4 refl in
    let size : length a ≡ length b =
    sym (from_be_bytes-to_be_bytes_4 (length a) short_a) ∙ ap (from_be_bytes w32) front ∙ from_be_bytes-to_be_bytes_4 (length b) short_b in
    let back : a ++ x ≡ b ++ y =
    sym (drop_at (to_be_bytes w32 (length a)) (a ++ x) 4 refl) ∙ ap (drop 4) g ∙ drop_at (to_be_bytes w32 (length b)) (b ++ y) 4 refl in (
      sym (take_at a x (length a) refl) ∙ ap (take (length a)) back ∙ take_at b y (length a) (sym size),
      sym (drop_at a x (length a) refl) ∙ ap (drop (length a)) back ∙ drop_at b y (length a) (sym size),
    )

-- the same bytes, up to what is no record
same_records : (ones bs : List (List ℕ)) (x y : List ℕ) → AreBodies ones → AreBodies bs → IsEnd x → IsEnd y → records_of ones ++ x ≡ records_of bs ++ y → (ones ≡ bs) × (x ≡ y)
same_records [] [] x y fit_a fit_b end_x end_y e = (refl, e)
same_records [] (b ∷ bs) x y fit_a fit_b end_x end_y e = absurd (end_x b (records_of bs ++ y) fit_b.0 (e ∙ append_assoc (record_of b) (records_of bs) y))
same_records (a ∷ ones) [] x y fit_a fit_b end_x end_y e = absurd (end_y a (records_of ones ++ x) fit_a.0 (sym e ∙ append_assoc (record_of a) (records_of ones) x))
same_records (a ∷ ones) (b ∷ bs) x y fit_a fit_b end_x end_y e =
    let parts : record_of a ++ (records_of ones ++ x) ≡ record_of b ++ (records_of bs ++ y) =
    sym (append_assoc (record_of a) (records_of ones) x) ∙ e ∙ append_assoc (record_of b) (records_of bs) y in
    let first = same_record a b (records_of ones ++ x) (records_of bs ++ y) fit_a.0 fit_b.0 parts in
    let others = same_records ones bs x y fit_a.1 fit_b.1 end_x end_y first.1 in
    (cc (first.0, others.0), others.1)

pub one_reading : (start : ℕ) (one other : List (List ℕ)) (bytes : List ℕ) → HasRecords start one bytes → HasRecords start other bytes → one ≡ other
one_reading start one other bytes a b =
    (same_records one other (a.gate ∷ a.rest) (b.gate ∷ b.rest) a.fit b.fit (closed_ends a.gate a.rest a.closed) (closed_ends b.gate b.rest b.closed) (sym a.is ∙ b.is)).0

broken_ends : (start at : ℕ) (bytes : List ℕ) (broken : IsBroken start bytes at) → IsEnd broken.rest × (((gate : ℕ) (rest : List ℕ) → gate ≢ 1 → broken.rest ≡ gate ∷ rest → ⊥))
broken_ends start at bytes broken = elim broken.fault [
  | inl ends ↦ (subst IsEnd (sym ends.0) nothing_ends, λ gate rest closed e. let f : [] ≡ gate ∷ rest = sym ends.0 ∙ e in cc)
  | inr cut ↦ (
    subst IsEnd (sym cut.1) (cut_ends cut.0 cut.2),
    λ gate rest closed e. closed (let f : 1 ∷ cut.0 ≡ gate ∷ rest = sym cut.1 ∙ e in cc),
  )
]

pub not_broken : (start at : ℕ) (bodies : List (List ℕ)) (bytes : List ℕ) → HasRecords start bodies bytes → IsBroken start bytes at → ⊥
not_broken start at bodies bytes has broken =
    let ends = broken_ends start at bytes broken in
    let same = same_records bodies broken.bodies (has.gate ∷ has.rest) broken.rest has.fit broken.fit (closed_ends has.gate has.rest has.closed) ends.0 (sym has.is ∙ broken.is) in
    ends.1 has.gate has.rest has.closed (sym same.1)
