-- The order of hits, and which hits make a block. Cited by `block` and `laws`.
use Rattle.std.specs.Prelude.{◌<◌, ◌≤◌, ◌^◌, Bool, true, ◌&&◌, ◌||◌, ◌==◌, nat_lt, IsTrue, List, [], ◌∷◌, length}
use Rattle.nm_blocks.specs.declared.hit.Hit.{Hit}

-- the one hit comes before the other: by document, then list, then place
abbrev pub is_before : Hit → Hit → Bool
is_before a b = nat_lt a.doc b.doc || (a.doc == b.doc && (nat_lt a.list b.list || (a.list == b.list && nat_lt a.place b.place)))

-- each hit comes before the next one, and the given one before them all
abbrev pub rise_after : Hit → List Hit → Bool
rise_after before [] = true
rise_after before (hit ∷ hits) = is_before before hit && rise_after hit hits

-- each hit comes before the next one
abbrev pub is_rising : List Hit → Bool
is_rising [] = true
is_rising (hit ∷ hits) = rise_after hit hits

-- its numbers have 32 bits
abbrev pub fits : Hit → Bool
fits hit = nat_lt hit.doc (2 ^ 32) && (nat_lt hit.list (2 ^ 32) && nat_lt hit.place (2 ^ 32))

-- the numbers of each have 32 bits
abbrev pub all_fit : List Hit → Bool
all_fit [] = true
all_fit (hit ∷ hits) = fits hit && all_fit hits

-- 1 to 128 hits, each before the next one
pub record IsBlock (hits : List Hit) : Type 0 where
  pub some : 0 < length hits
  pub few : length hits ≤ 128
  pub rising : IsTrue (is_rising hits)
  pub fitting : IsTrue (all_fit hits)
