use Rattle.std.proofs.Common.{ap, ◌-◌, length, arith}
use Rattle.pbn_records.proofs.InTextLemmas.{shrinks, stands_on, refused_taken, refused_at_end, reads_all}
use Rattle.pbn_records.proofs.StateLemmas.{ok_of, err_of}
use Rattle.pbn_records.proofs.reading.take_all.Goals as goal

pub returns-in-Err-clause-refused : goal.returns-in-Err-clause-refused
returns-in-Err-clause-refused c =
    let stands = c.loop-found.invariant.stands in
    refused_taken _ _ _ _ _ _ _ _ stands c.loop-found.invariant.offset c.in-Some.ensures.piece
    (c.in-Err.ensures.fault stands.walk stands.at)

pub overflow_sub-offset-in-Some : goal.overflow_sub-offset-in-Some
overflow_sub-offset-in-Some c =
    let less = shrinks _ _ _ c.in-Some.ensures.piece in
    let within = c.loop-found.invariant.stands.in_text.within in
    omega (arith, less, within, c.left-in-Some.ensures)

pub loop-found-preserved : goal.loop-found-preserved
loop-found-preserved c = record {
  stands = stands_on _ _ _ _ _ _ _ _ c.loop-found.invariant.stands c.loop-found.invariant.offset c.in-Some.ensures.piece
      c.in-Ok.ensures.good c.in-Ok.ensures.boards c.in-Ok.ensures.taken;
  offset = ap (λ n. length c.args.text.now - n) c.left-in-Some.ensures;
}

pub returns-clause-read : goal.returns-clause-read
returns-clause-read c =
    let stands = c.loop-found.invariant.stands in
    ok_of c.end_game.result
    (λ ended same. reads_all _ _ _ _ _ stands c.in_default.ensures.none c.end_game.ensures.boards
    (ended stands.walk stands.at))
    c.end_game.ensures.ended c.end_game.ensures.ended

pub returns-clause-refused : goal.returns-clause-refused
returns-clause-refused c =
    let stands = c.loop-found.invariant.stands in
    err_of c.end_game.result
    (λ error faults. refused_at_end _ _ _ _ _ stands c.in_default.ensures.none (faults stands.walk stands.at))
    c.end_game.ensures.fault
