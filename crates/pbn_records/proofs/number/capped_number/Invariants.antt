use Rattle.std.proofs.Common.{◌≡◌, true, take, min}
use Rattle.std.specs.List.{list_all}
use Rattle.pbn_pieces.specs.Pieces.{is_digit}
use Rattle.pbn_records.specs.Boards.{decimal_number}
use Rattle.pbn_records.proofs.number.capped_number.Given as goal

abbrev pub invariant-loop-digit : goal.invariant-loop-digit
invariant-loop-digit l = record {
  digits : list_all is_digit (take l.digit-index l.digits) ≡ true;
  number : l.number ≡ min (decimal_number (take l.digit-index l.digits)) 256;
}
