use Rattle.std.proofs.Common.{◌≡◌, List, get_or, subst, ◌∙◌}
use Rattle.std.specs.Option.{IsSomeAnd}
use Rattle.session_opening.specs.declared.new_user.NewUser.{NewUser}
use Rattle.session_check.specs.Users.{with_users, IsRefusedUser, IsUserAt, TellsAt, first_in_the_way}
use Rattle.session_check.proofs.CheckLemmas.{refuses_at}
use Rattle.session_check.proofs.checking.refused_opening.Goals as goal

pub returns-in-Ok-Some : goal.returns-in-Ok-Some
returns-in-Ok-Some c =
    let config = c.args.config in
    let place = c.in-Ok-Some.place in
    let told = c.refused_at.result in
    let lent : c.as_slice.result.now ≡ config.users = c.as_slice.ensures ∙ c.replace-users.ensures.value in
    let again : c.as_slice-in-Ok-Some.result.now ≡ config.users =
    c.as_slice-in-Ok-Some.ensures ∙ c.replace-users.ensures.value in
    refuses_at config c.args.cause place told.user told.other
    (subst (λ (users : List NewUser). IsRefusedUser (with_users config users) place) lent
    (rw c.in-Ok-Some.field-0-is at c.in-Ok-Some.ensures.user))
    (subst (λ (users : List NewUser). (d : NewUser) →
    TellsAt users (first_in_the_way c.args.cause users place (get_or users place d)) told.other) again
    c.refused_at.ensures.other)
    told.fault told.line c.requires.refused c.refused_at.ensures.fault c.refused_at.ensures.line
    (subst (λ (users : List NewUser). IsSomeAnd told.user (IsUserAt users place)) again c.refused_at.ensures.user)
