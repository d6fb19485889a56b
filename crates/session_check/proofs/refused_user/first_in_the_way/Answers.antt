use Rattle.std.proofs.Common.{◌≡◌, length, take, get_or, refl, ap, ◌∙◌}
use Rattle.std.specs.List.{position}
use Rattle.std.proofs.lemmas.List.{get_or_read_under}
use Rattle.session_opening.specs.declared.new_user.NewUser.{NewUser}
use Rattle.session_check.specs.Users.{is_in_the_way}
use Rattle.session_check.proofs.refused_user.first_in_the_way.Goals as goal

pub returns-clause-first : goal.returns-clause-first
returns-clause-first c = λ d.
    let users = c.args.users.now in
    let user : c.index-users-place.result ≡ get_or users c.args.place d =
    get_or_read_under users c.args.place (length users) c.index-users-place.result d c.index-users-place.is c.requires refl in
    c.first_of_these.ensures.first
    ∙ ap (λ (user : NewUser). position (is_in_the_way c.args.cause user) (take c.args.place users)) user
