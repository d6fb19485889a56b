-- The session that a plan asks for.
use Rattle.std.specs.Prelude.{ℕ, List, [], Option, Some, None, option_map}
use Rattle.session_roles.specs.declared.edition.Edition.TheVariants.{Second}
use Rattle.named_movements.specs.declared.movement_word.MovementWord.{MovementWord}
use Rattle.session_opening.specs.declared.new_user.NewUser.{NewUser}
use Rattle.session_object.specs.declared.asked_movement.AskedMovement.{AskedMovement}
use Rattle.session_object.specs.declared.asked_movement.AskedMovement.TheVariants.{Nothing, Word}
use Rattle.session_object.specs.Session.{Session}
use Rattle.preparing.specs.declared.plan.Plan.{Plan}

-- the movement of a plan: that of its word, or none that has a name
abbrev pub movement_planned : Option MovementWord → AskedMovement
movement_planned None = Nothing
movement_planned (Some word) = Word word

-- the session of a plan, with these boards and users
abbrev pub session_planned : Plan → List ℕ → List NewUser → Session
session_planned plan boards users = record {
  absent = plan.absent;
  budget = plan.budget;
  date = option_map (λ text. text.now) plan.date;
  edition = Second;
  movement = movement_planned plan.movement;
  pbn = boards;
  per_set = plan.per_set;
  reasons = [];
  rounds = plan.rounds;
  shared_by = None;
  switched = plan.switched;
  tables = plan.tables;
  title = option_map (λ text. text.now) plan.title;
  users = users;
}
