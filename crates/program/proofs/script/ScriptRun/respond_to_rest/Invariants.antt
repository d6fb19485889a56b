use Rattle.std.proofs.Common.{◌≡◌, ℕ, List, ◌+◌}
use Rattle.std.specs.Prelude.{Option}
use Rattle.program.specs.Standing.{StandsAfter, line_feeds}
use Rattle.program.proofs.script.ScriptRun.respond_to_rest.Given as goal

abbrev pub invariant-loop-last : goal.invariant-loop-last
invariant-loop-last g l = record {
  stands : (input before : Option (List ℕ)) →
      StandsAfter l.fn.self.first input before (g.R.ByteSource.remaining l.fn.reader)
      (g.W.TextSink.contents l.fn.writer) l.fn.self.keeper l.fn.self.left →
      StandsAfter l.last input before (g.R.ByteSource.remaining l.reader) (g.W.TextSink.contents l.writer)
      l.self.keeper l.self.left;
  source : g.R.ByteSource.place l.reader ≡ g.R.ByteSource.place l.fn.reader;
  sink : g.W.TextSink.place l.writer ≡ g.W.TextSink.place l.fn.writer;
}

abbrev pub decreases-loop-last : goal.decreases-loop-last
decreases-loop-last g l = l.self.left + line_feeds l.last
