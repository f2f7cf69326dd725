-- A hit as three numbers that tell how far it is from the hit before. Cited by `hit` and `Blocks`.
use Rattle.std.specs.Prelude.{ℕ, ◌+◌, ◌-◌, ◌^◌, ◌&&◌, ◌==◌, min, if◌then◌else◌}
use Rattle.nm_blocks.specs.declared.hit.Hit.{Hit}

-- the document less the one before; the list, less the one before where the document is the same; the place, less the
-- one before where document and list are the same
abbrev pub gaps : Hit → Hit → Hit
gaps before hit = record {
  doc = hit.doc - before.doc;
  list = if hit.doc == before.doc then hit.list - before.list else hit.list;
  place = if hit.doc == before.doc && hit.list == before.list then hit.place - before.place else hit.place;
}

-- a number, or the largest of 32 bits
abbrev pub capped : ℕ → ℕ
capped n = min n (2 ^ 32 - 1)

-- the hit at these gaps from the hit before
abbrev pub after : Hit → Hit → Hit
after before gap = record {
  doc = capped (before.doc + gap.doc);
  list = if gap.doc == 0 then capped (before.list + gap.list) else gap.list;
  place = if gap.doc == 0 && gap.list == 0 then capped (before.place + gap.place) else gap.place;
}
