use Rattle.std.proofs.Common.{◌≡◌, ℕ, List, Bool, is_err, subst, sym}
use Rattle.nm_io.specs.Observed.{ObservedSink, StreamAppends}
use Rattle.nm_log.specs.Refusals.{refused_line}
use Rattle.nm_log.specs.Replies.{usage_line}
use Rattle.nm_log.specs.declared.refusal.Refusal.{Refusal}
use Rattle.nm_log.specs.declared.refusal.Refusal.TheVariants as refusals
use Rattle.nm_log.proofs.refusal.print_refusal.Goals as goal

-- the line of this refusal, which is that one
line-of : (failed : Bool) (a b : ObservedSink) (this that : Refusal) → this ≡ that → StreamAppends failed a b (refused_line that) → StreamAppends failed a b (refused_line this)
line-of failed a b this that is h = subst (λ (refusal : Refusal). StreamAppends failed a b (refused_line refusal)) (sym is) h

pub returns-in-Usage : goal.returns-in-Usage
returns-in-Usage g c =
    let old = g.E.Sink.observed c.args.err.now in
    let new = g.E.Sink.observed c.print_usage.new.err in
    line-of (is_err c.print_usage.result) old new c.args.refusal.now (refusals.Usage c.in-Usage.word c.in-Usage.kind) c.in-Usage.is
    (subst (λ (word : List ℕ). StreamAppends (is_err c.print_usage.result) old new (usage_line c.in-Usage.kind word)) c.as_str.ensures c.print_usage.ensures)

pub returns-in-ReadFault : goal.returns-in-ReadFault
returns-in-ReadFault g c =
    line-of (is_err c.print_text.result) (g.E.Sink.observed c.args.err.now) (g.E.Sink.observed c.print_text.new.err) c.args.refusal.now refusals.ReadFault c.in-ReadFault.is c.print_text.ensures

pub returns-in-DiskFault : goal.returns-in-DiskFault
returns-in-DiskFault g c =
    line-of (is_err c.print_text-in-DiskFault.result) (g.E.Sink.observed c.args.err.now) (g.E.Sink.observed c.print_text-in-DiskFault.new.err) c.args.refusal.now refusals.DiskFault c.in-DiskFault.is
    c.print_text-in-DiskFault.ensures

pub returns-in-BadIndex : goal.returns-in-BadIndex
returns-in-BadIndex g c =
    line-of (is_err c.print_bad_index.result) (g.E.Sink.observed c.args.err.now) (g.E.Sink.observed c.print_bad_index.new.err) c.args.refusal.now (refusals.BadIndex c.in-BadIndex.file c.in-BadIndex.at)
    c.in-BadIndex.is c.print_bad_index.ensures

pub returns-in-Limit : goal.returns-in-Limit
returns-in-Limit g c =
    line-of (is_err c.print_limit.result) (g.E.Sink.observed c.args.err.now) (g.E.Sink.observed c.print_limit.new.err) c.args.refusal.now (refusals.Limit c.in-Limit.limit) c.in-Limit.is c.print_limit.ensures

pub returns-in-NoMemory : goal.returns-in-NoMemory
returns-in-NoMemory g c =
    line-of (is_err c.print_text-in-NoMemory.result) (g.E.Sink.observed c.args.err.now) (g.E.Sink.observed c.print_text-in-NoMemory.new.err) c.args.refusal.now refusals.NoMemory c.in-NoMemory.is
    c.print_text-in-NoMemory.ensures
