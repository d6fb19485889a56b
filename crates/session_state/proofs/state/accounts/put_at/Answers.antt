use Rattle.std.proofs.Common.{sym, arith}
use Rattle.session_state.proofs.ReaderLemmas.{put_past}
use Rattle.session_state.proofs.state.accounts.put_at.Goals as goal

pub returns-else-place-len-clause-items : goal.returns-else-place-len-clause-items
returns-else-place-len-clause-items c = sym (put_past c.args.names.now.items c.args.place c.args.shown (omega arith))
