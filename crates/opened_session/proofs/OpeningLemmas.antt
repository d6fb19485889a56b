-- What a session object opens.
use Rattle.std.proofs.Common.{◌≡◌, ℕ, ◌≤◌, List, length, sym, ap, ◌∙◌, arith}
use Rattle.std.specs.Prelude.{Option}
use Rattle.movement.specs.Movement.{boards_of}
use Rattle.session_state.specs.SessionState.{SessionState}
use Rattle.session_opening.specs.Opening.{opening_of}
use Rattle.session_object.specs.declared.object.SessionObject.{SessionObject}
use Rattle.session_object.specs.Reading.{section_of, ReadsSession}
use Rattle.session_object.proofs.ReadingLemmas.{one_text}
use Rattle.opened_session.specs.Opened.{OpensWith}

-- a text opens one session at most
pub one_opening : (given : Option (List ℕ)) (text : List ℕ) (one other : SessionState) → OpensWith given text one
    → OpensWith given text other → one ≡ other
one_opening given text one other first second =
    first.opens
    ∙ ap (λ (object : SessionObject). opening_of object.config) (one_text given text first.object second.object
    first.reads second.reads)
    ∙ sym second.opens

-- the boards of a session object are those of its movement
pub boards_read : (given : Option (List ℕ)) (line : List ℕ) (object : SessionObject) → ReadsSession given line object
    → boards_of object.config.movement ≤ length object.config.boards
boards_read given line object reads =
    let many : length object.config.boards ≡ boards_of (section_of reads.reads.session) = reads.reads.boards.many in
    let same : boards_of object.config.movement ≡ boards_of (section_of reads.reads.session) =
    ap boards_of reads.reads.movement in
    omega (arith, many, same)
