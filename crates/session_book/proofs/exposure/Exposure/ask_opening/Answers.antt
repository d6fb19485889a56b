use Rattle.std.proofs.Common.{◌≡◌, ◌≤◌, refl, ap, ◌∙◌, arith}
use Rattle.movement.specs.Movement.{boards_of, most_boards}
use Rattle.disclosure_rules.specs.declared.public.Public.{Public}
use Rattle.session_book.proofs.ExposureTableLemmas.{noted_first}
use Rattle.session_book.proofs.exposure.Exposure.ask_opening.Goals as goal

pub returns-clause-noted : goal.returns-clause-noted
returns-clause-noted c =
    let opening = c.args.opening.now in
    let all : c.boards-boards.result ≡ boards_of opening.public.movement = c.boards-boards.ensures.boards
    ∙ ap (λ (public : Public). boards_of public.movement) c.public.ensures.public in
    let few : c.boards-boards.result ≤ most_boards = omega (
      arith,
      c.boards-boards.ensures.boards,
      c.boards-boards.ensures.section.not_too_many_boards,
    ) in
    noted_first opening opening c.args.self.now c.ask_all.new.self c.boards-boards.result refl c.requires all few
    c.ask_all.ensures.asked
