use Rattle.std.proofs.Common.{ℕ, Bool, ◌≡◌, suc, ◌+◌, ◌-◌, [], cond, drop, get_or, length, sym, ap, ◌∙◌, arith}
use Rattle.std.specs.Prelude.{Option, Some}
use Rattle.rbac.specs.Account.{same_name}
use Rattle.rbac.specs.declared.account.Account.{Account}
use Rattle.user_names.specs.declared.digest.Digest.{Digest}
use Rattle.session_state.specs.Readers.{digest_among}
use Rattle.session_state.proofs.ReaderLemmas.{digest_from, digest_past}
use Rattle.session_state.proofs.state.readers.digest_among.Goals as goal
use Rattle.session_state.proofs.state.readers.digest_among.Goals.{then-eq, else-eq}

pub loop-step-init : goal.loop-step-init
loop-step-init c =
    sym (digest_past c.args.accounts.now c.args.digests.now _ c.args.name (omega arith))

-- what is found at a place, or among those after it, is what is found from there on
pub loop-step-preserved : goal.loop-step-preserved
loop-step-preserved c =
    let accounts = c.args.accounts.now in
    let digests = c.args.digests.now in
    let name = c.args.name in
    let step = c.loop-step.step in
    let place : ℕ = length accounts - 1 - step in
    let none : Digest = record { bytes = [] } in
    let account : Account = c.index-accounts-place.result in
    let here : suc place ≡ length accounts - step = omega (arith, c.loop-step-test.true) in
    let next : place ≡ length accounts - (step + 1) = omega (arith, c.loop-step-test.true) in
    let from : ℕ → Option Digest = λ k. digest_among (drop k accounts) (drop k digests) name in
    let whether : Bool → Option Digest = λ is. cond is (Some (get_or digests place none)) (from (suc place)) in
    let told : from place ≡ whether (same_name (get_or accounts place account).name name) =
    digest_from accounts digests place name account none (omega (arith, c.loop-step-test.true))
    (omega (arith, c.requires, c.loop-step-test.true)) in
    elim c.if-eq.branch [
      | then-eq w ↦ w.found-is ∙ (sym (ap whether (sym c.eq.ensures ∙ w.if-eq.true)) ∙ (sym told ∙ ap from next))
      | else-eq w ↦
          w.found-is
          ∙ (c.loop-step.invariant
          ∙ (ap from (sym here) ∙ (sym (ap whether (sym c.eq.ensures ∙ w.if-eq.false)) ∙ (sym told ∙ ap from next))))
    ]
