use Rattle.std.proofs.Common.{◌≡◌, ◌≤◌, map, take, vec_len, vec_capacity}
use Rattle.session_opening.proofs.opening.deals.Given as goal

abbrev pub invariant-loop-place : goal.invariant-loop-place
invariant-loop-place l = record {
  items : l.deals.items ≡ map (λ board. board.deal) (take l.place l.config.boards);
  counted : vec_len l.deals ≡ l.place;
  room : l.boards ≤ vec_capacity l.deals;
}
