use Rattle.std.proofs.Common.{sym, ◌∙◌}
use Rattle.session_book.specs.ExposureTable.{first_boards}
use Rattle.session_book.specs.Touched.{touched_at}
use Rattle.session_commands.specs.declared.touched.Touched.TheVariants.{User}
use Rattle.session_book.proofs.ExposureTableLemmas.{asked_none}
use Rattle.session_book.proofs.TouchedLemmas.{asked_as, named_at, not_named_at}
use Rattle.session_book.proofs.exposure.Exposure.ask_named.Goals as goal

pub returns-then-not-eq : goal.returns-then-not-eq
returns-then-not-eq c =
    asked_none c.args.state.now (touched_at c.args.state.now (User c.args.name) c.args.boards c.args.place)
    c.args.self.now
    (λ p b from. not_named_at c.args.state.now c.args.boards c.args.place p b c.args.user c.args.name c.requires.user
    (sym c.eq.ensures ∙ c.if-not-eq.true))

pub returns : goal.returns
returns c =
    asked_as c.args.state.now (first_boards c.args.place c.args.boards) (touched_at c.args.state.now (User c.args.name)
    c.args.boards c.args.place) c.args.self.now c.ask_boards.new.self
    (λ p b from. named_at c.args.state.now c.args.boards c.args.place p b c.args.user c.args.name c.requires.user
    (sym c.eq.ensures ∙ c.if-not-eq.false)) c.ask_boards.ensures
