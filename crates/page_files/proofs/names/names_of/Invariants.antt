use Rattle.std.proofs.Common.{All, string_bytes, IsTrue}
use Rattle.page_files.specs.PageFiles.{is_plain_name}
use Rattle.page_files.proofs.names.names_of.Given as goal

abbrev pub invariant-loop-entry : goal.invariant-loop-entry
invariant-loop-entry g l = All (λ name. IsTrue (is_plain_name (string_bytes name))) l.names.items
