use Rattle.std.proofs.Common.{ap, ◌∙◌}
use Rattle.named_movements.specs.Named.{named_section}
use Rattle.session_object.proofs.made_movement.named_by.Goals as goal

pub returns-in-Ok-clause-section : goal.returns-in-Ok-clause-section
returns-in-Ok-clause-section c =
    let parts = c.args.parts.now in
    c.in-Ok.ensures.section
    ∙ ap (λ switched. named_section (record {
      word = c.args.word;
      tables = parts.tables;
      rounds = parts.rounds;
      per_set = parts.per_set;
      switched = switched;
      absent = parts.absent;
    })) c.unwrap_or.ensures
