use Rattle.std.proofs.Common.{◌≡◌, ◌+◌, true, false, refl, sym, ap, subst, ◌∙◌, take, arith}
use Rattle.session_opening.specs.OpeningRefusal.{opening_refusal}
use Rattle.session_opening.specs.declared.config.Config.{Config}
use Rattle.session_check.specs.Users.{with_users, is_of_user}
use Rattle.session_check.proofs.UserLemmas.{of_none_at_first, of_none_more, of_none_of_all}
use Rattle.session_check.proofs.refused_user.refused_user.Goals as goal

pub loop-many-init : goal.loop-many-init
loop-many-init c = record {
  same = λ users. refl;
  boards = c.requires;
  none = of_none_at_first (with_users c.args.config.now c.args.users.now);
}

pub loop-many-preserved : goal.loop-many-preserved
loop-many-preserved c =
    let config = c.args.config.now in
    let users = c.args.users.now in
    let first = c.in_ok-first.first in
    let moved : with_users c.loop-many.config first ≡ with_users config (take (c.loop-many.many + 1) users) =
    c.loop-many.invariant.same first ∙ ap (with_users config) c.in_ok-first.ensures in
    record {
      same = c.loop-many.invariant.same;
      boards = c.loop-many.invariant.boards;
      none = of_none_more (with_users config users) c.loop-many.many c.loop-many.invariant.none
          (subst (λ (k : Config). is_of_user (opening_refusal k) ≡ false) moved
          (sym c.in_ok-refused.ensures ∙ c.if-refused.false));
    }

pub returns-then-refused-clause-user : goal.returns-then-refused-clause-user
returns-then-refused-clause-user c =
    let config = c.args.config.now in
    let users = c.args.users.now in
    let first = c.in_ok-first.first in
    let moved : with_users c.loop-many.config first ≡ with_users config (take (c.loop-many.many + 1) users) =
    c.loop-many.invariant.same first ∙ ap (with_users config) c.in_ok-first.ensures in
    record {
      within = c.loop-many-test.true;
      refused = subst (λ (k : Config). is_of_user (opening_refusal k) ≡ true) moved
          (sym c.in_ok-refused.ensures ∙ c.if-refused.true);
      first = c.loop-many.invariant.none;
    }

pub returns-clause-none : goal.returns-clause-none
returns-clause-none c =
    of_none_of_all (with_users c.args.config.now c.args.users.now) c.loop-many.many (omega (arith, c.loop-many-test.false))
    (c.loop-many.invariant.none c.loop-many.many (omega arith))
