use Rattle.std.proofs.Common.{◌≡◌, ℕ, ◌+◌, List, [], sym, ◌∙◌, ap, arith, length}
use Rattle.std.specs.List.{enumerate_from}
use Rattle.std.specs.Str.Lines.{lines}
use Rattle.nm_lanes.specs.Script.{numbered}
use Rattle.nm_lanes.specs.declared.reader.Reader.{Reader}
use Rattle.nm_lanes.specs.declared.script.Phase.{Phase}
use Rattle.nm_lanes.specs.declared.script.Script.{Script}
use Rattle.nm_lanes.proofs.ReaderLemmas.{all-phases, none-left, phases_with, with_line}
use Rattle.nm_lanes.proofs.script.read_script.Goals as goal

pub lines-init : goal.lines-init
lines-init c = record {
  read = ap (λ (r : Reader). phases_with r (numbered c.args.bytes.now)) c.new-reader.ensures ∙ all-phases (numbered c.args.bytes.now);
  counted = omega arith;
  few = omega arith;
}

pub lines-preserved : goal.lines-preserved
lines-preserved c =
    let n = c.lines.number + 1 in
    let rest = enumerate_from (n + 1) (lines c.in-Some.after.now) in record {
      read =
          ap (λ (r : Reader). phases_with r rest) c.in_ok-add_line.ensures
          ∙ (with_line c.lines.reader n c.in-Some.line.now rest
          ∙ (ap (λ (ls : List (List ℕ)). phases_with c.lines.reader (enumerate_from n ls)) (sym c.in-Some.ensures.0) ∙ c.lines.invariant.read));
      counted = omega (arith, ap length c.in-Some.ensures.0);
      few = omega arith;
    }

pub returns : goal.returns
returns c =
    let none : lines c.lines.rest.now ≡ [] = c.in_default.ensures in
    let all : c.in_ok-finish.field-0.phases ≡ _ =
    c.in_ok-finish.ensures
    ∙ (none-left c.lines.reader
    ∙ (ap (λ (ls : List (List ℕ)). phases_with c.lines.reader (enumerate_from (c.lines.number + 1) ls)) (sym none) ∙ c.lines.invariant.read)) in
    let of_phases : List Phase → Script = λ ps. record { phases = ps } in record {
      ok = ap of_phases all;
      few = omega (arith, ap length none);
      err = tt;
    }
