use Rattle.std.proofs.Common.{[], ◌∷◌, refl, sym, ap, ◌∙◌, codes}
use Rattle.std.proofs.lemmas.List.Elements.{All-nil}
use Rattle.sqlite.specs.Effect.{Database}
use Rattle.sqlite.specs.Held.{state}
use Rattle.sqlite.specs.Steps.{over_memory}
use Rattle.journal_store.specs.Made.{IsBlank}
use Rattle.journal_store.specs.Tables.{session_row}
use Rattle.kept_entries.specs.KeptRows.{IsKeptPublication}
use Rattle.journal_tests.proofs.tests.rows.new_journal.Goals as goal

pub new-requires-clause-follows : goal.new-requires-clause-follows
new-requires-clause-follows c = λ clean.
    let empty = c.in_ok-conn.ensures.empty in
    let blank : IsBlank (state over_memory c.in_ok-conn.conn) = record {
      is_open = empty.0.is_open;
      autocommit = empty.0.autocommit;
      now = empty.2;
      committed = ap (λ (d : Database). d.schema) (sym empty.0.clean) ∙ empty.2;
      same = empty.0.clean;
    } in
    record {
      session = session_row (codes "{}") (codes "boards") ∷ [];
      published = [];
      rests = c.in-Ok.ensures.creates clean blank;
      keepable = All-nil IsKeptPublication;
      next_row = refl;
      last_is = refl;
    }
