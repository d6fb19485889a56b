use Rattle.std.proofs.Common.{[]}
use Rattle.pbn_records.proofs.GameBeforeLemmas.{form_fault}
use Rattle.pbn_records.proofs.laws.a_double_hash_is_refused.Goals as goal

pub returns-clause-in_any_game : goal.returns-clause-in_any_game
returns-clause-in_any_game c = λ boards index games. form_fault boards [] games index
