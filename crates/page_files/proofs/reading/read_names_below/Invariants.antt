use Rattle.page_files.specs.PageReading.{IsReading}
use Rattle.page_files.proofs.reading.read_names_below.Given as goal

abbrev pub invariant-loop-name : goal.invariant-loop-name
invariant-loop-name g l = IsReading l.reading
