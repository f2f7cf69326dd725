use Rattle.std.proofs.Common.{◌≡◌, Ok, map, take}
use Rattle.nm_scan.specs.Walk.{file, paths_in, walked}
use Rattle.nm_scan.proofs.walk.add_files.Given as goal

-- the names so far were looked at
abbrev pub invariant-names : goal.invariant-names
invariant-names l = record {
  walks : walked l.initial.walk (map file (paths_in l.dir (take l.name-index l.names))) ≡ Ok l.walk;
  folders : l.walk.folders ≡ l.initial.walk.folders;
}
