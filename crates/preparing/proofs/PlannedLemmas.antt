-- The session of a plan, by what is asked for.
use Rattle.std.proofs.Common.{◌≡◌, ◌≤◌, ◌&&◌, ℕ, Bool, true, false, List, [], length, Option, None, option_map, eqb, Result, Ok, Err, IfOk, refl, arith}
use Rattle.std.proofs.lemmas.Bool.{eqb-true}
use Rattle.notices.specs.declared.notice_text.TheConstants.NoticeText.{MOST}
use Rattle.session_roles.specs.declared.edition.Edition.TheVariants.{Second}
use Rattle.session_opening.specs.declared.new_user.NewUser.{NewUser}
use Rattle.session_object.specs.declared.asked_movement.AskedMovement.{AskedMovement}
use Rattle.session_object.specs.NoticeMembers.{is_date}
use Rattle.session_object.specs.Session.{Session}
use Rattle.preparing.specs.declared.plan.Plan.{Plan}
use Rattle.preparing.specs.Planned.{movement_planned, session_planned}

-- the session of a plan with this movement and these notices
abbrev pub session_with : Plan → List ℕ → List NewUser → AskedMovement → Option (List ℕ) → Option (List ℕ) → List (List ℕ) → Session
session_with plan boards users movement title date reasons = record {
  absent = plan.absent;
  budget = plan.budget;
  date = date;
  edition = Second;
  movement = movement;
  pbn = boards;
  per_set = plan.per_set;
  reasons = reasons;
  rounds = plan.rounds;
  shared_by = None;
  switched = plan.switched;
  tables = plan.tables;
  title = title;
  users = users;
}

pub as_planned : (plan : Plan) (boards : List ℕ) (users : List NewUser) (movement : AskedMovement)
    (title date : Option (List ℕ)) (reasons : List (List ℕ)) → movement ≡ movement_planned plan.movement
    → title ≡ option_map (λ text. text.now) plan.title → date ≡ option_map (λ text. text.now) plan.date → reasons ≡ []
    → session_with plan boards users movement title date reasons ≡ session_planned plan boards users
as_planned plan boards users movement title date reasons same_movement same_title same_date none =
    λ i. session_with plan boards users (same_movement i) (same_title i) (same_date i) (none i)

ten_bytes : (ten rest : Bool) → (ten && rest) ≡ true → ten ≡ true
ten_bytes true rest is = refl
ten_bytes false rest is = absurd (cc)

-- a date is a short text
pub date_is_short : (bytes : List ℕ) → is_date bytes ≡ true → length bytes ≤ MOST
unfolding is_date
date_is_short bytes is = let ten = eqb-true (length bytes) 10 (ten_bytes (eqb (length bytes) 10) _ is) in omega arith

-- what two clauses say of one value
pub both_of : {T E : Type 0} (r : Result T E) (P Q : T → Type 0) → IfOk r P → IfOk r Q → IfOk r (λ x. P x × Q x)
both_of (Ok x) P Q p q = (p, q)
both_of (Err e) P Q p q = tt
