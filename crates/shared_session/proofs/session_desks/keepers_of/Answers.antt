use Rattle.std.proofs.Common.{◌≡◌, [], ℕ, suc, ◌<◌, List, length, slice_index_or, arith, subst}
use Rattle.session_commands.specs.declared.entry.Entry.{Entry}
use Rattle.shared_session.proofs.session_desks.keepers_of.Goals as goal

-- those behind the first are of those that were to come
pub loop-display-preserved : goal.loop-display-preserved
loop-display-preserved g c = λ k d h.
    let whole =
    subst (λ xs. (j : ℕ) (e : List (List Entry)) → j < length xs → slice_index_or xs j e ≡ [])
    c.in-Some.ensures.steps.0 c.loop-display.invariant in
    whole (suc k) d (omega (arith, h))
