use Rattle.std.proofs.Common.{ap, sym, ◌∙◌}
use Rattle.std.specs.Prelude.{Some, None}
use Rattle.table_terms.specs.declared.place.Place.TheVariants.{North}
use Rattle.session_roles.specs.Role.{with_role}
use Rattle.session_roles.specs.declared.role.Role.TheVariants.{Member, Spectator, Contestant, Director, Commentator}
use Rattle.class_views.specs.Classes.{member_of}
use Rattle.class_views.proofs.RoleSetLemmas.{
  member_and_contestant,
  member_and_spectator,
  member_and_director,
  member_spectator_and_commentator,
}
use Rattle.class_views.proofs.user_class.UserClass.member.Goals as goal

pub returns-in-OfPair : goal.returns-in-OfPair
returns-in-OfPair c =
    (λ i. record {
      roles =
          Some ((c.with.ensures ∙ ap (λ set. with_role set Contestant)
          (c.with-member.ensures ∙ ap (λ set. with_role set Member) c.new.ensures) ∙ member_and_contestant) i);
      seat =
          Some (record { pair = c.in-OfPair.pair; place = North });
    })
    ∙ ap member_of (sym c.in-OfPair.is)

pub returns-in-Unseated : goal.returns-in-Unseated
returns-in-Unseated c =
    c.unseated.ensures
    ∙ ((λ i. record {
      roles =
          Some ((c.with-in-Unseated.ensures ∙ ap (λ set. with_role set Contestant)
          (c.with-member.ensures ∙ ap (λ set. with_role set Member) c.new.ensures) ∙ member_and_contestant) i);
      seat =
          None;
    })
    ∙ ap member_of (sym c.in-Unseated.is))

pub returns-in-Spectators : goal.returns-in-Spectators
returns-in-Spectators c =
    c.unseated-in-Spectators.ensures
    ∙ ((λ i. record {
      roles =
          Some ((c.with-in-Spectators.ensures ∙ ap (λ set. with_role set Spectator)
          (c.with-member.ensures ∙ ap (λ set. with_role set Member) c.new.ensures) ∙ member_and_spectator) i);
      seat =
          None;
    })
    ∙ ap member_of (sym c.in-Spectators.is))

pub returns-in-Directors : goal.returns-in-Directors
returns-in-Directors c =
    c.unseated-in-Directors.ensures
    ∙ ((λ i. record {
      roles =
          Some ((c.with-in-Directors.ensures ∙ ap (λ set. with_role set Director)
          (c.with-member.ensures ∙ ap (λ set. with_role set Member) c.new.ensures) ∙ member_and_director) i);
      seat =
          None;
    })
    ∙ ap member_of (sym c.in-Directors.is))

pub returns-in-Commentators : goal.returns-in-Commentators
returns-in-Commentators c =
    c.unseated-in-Commentators.ensures
    ∙ ((λ i. record {
      roles =
          Some ((c.with-in-Commentators-2.ensures ∙ ap (λ set. with_role set Commentator)
          (c.with-in-Commentators.ensures ∙ ap (λ set. with_role set Spectator)
          (c.with-member.ensures ∙ ap (λ set. with_role set Member) c.new.ensures))
          ∙ member_spectator_and_commentator) i);
      seat =
          None;
    })
    ∙ ap member_of (sym c.in-Commentators.is))
