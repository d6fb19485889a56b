-- A client's time, by the parts of which it is made.
use Rattle.std.proofs.Common.{
  ◌≡◌,
  ◌≤◌,
  ◌+◌,
  ℕ,
  true,
  false,
  List,
  [],
  ◌∷◌,
  ◌++◌,
  Option,
  Some,
  None,
  refl,
  ◌∙◌,
  ap,
  arith,
}
use Rattle.hall_terms.specs.Strangers.{SignsNobodyIn, NobodySignsIn}
use Rattle.hall_terms.specs.Times.{
  Happening,
  greeting_time,
  late_at,
  late_from,
  stage_after,
  stage_of,
  taking_of,
  until_after,
  until_of,
}
use Rattle.hall_terms.specs.declared.client_event.ClientEvent.{ClientEvent}
use Rattle.hall_terms.specs.declared.client_event.ClientEvent.TheVariants.{Accepted, Upgraded, Heard, Waits, Taken}
use Rattle.hall_terms.specs.declared.client_stage.ClientStage.{ClientStage}
use Rattle.hall_terms.specs.declared.client_stage.ClientStage.TheVariants.{Stranger}

pub until_same : (idle : ℕ) (event : ClientEvent) (at : ℕ) (one other : ClientStage) (until later : ℕ) → one ≡ other →
    until ≡ later → until_after idle event at one until ≡ until_after idle event at other later
until_same idle event at one other until later stage same = λ i. until_after idle event at (stage i) (same i)

pub late_same : (one other : ClientStage) (until later : ℕ) (taking takes : Option ℕ) → one ≡ other → until ≡ later →
    taking ≡ takes → late_from one until taking ≡ late_from other later takes
late_same one other until later taking takes stage same waits = λ i. late_from (stage i) (same i) (waits i)

-- ---- a stranger

stays_stranger : (event : ClientEvent) → SignsNobodyIn event → stage_after event Stranger ≡ Stranger
stays_stranger Accepted h = absurd h
stays_stranger Upgraded h = absurd h
stays_stranger (Heard true) h = absurd h
stays_stranger (Heard false) h = refl
stays_stranger Waits h = refl
stays_stranger Taken h = refl

moves_nothing : (idle : ℕ) (event : ClientEvent) (at until : ℕ) → SignsNobodyIn event →
    until_after idle event at Stranger until ≡ until
moves_nothing idle Accepted at until h = absurd h
moves_nothing idle Upgraded at until h = absurd h
moves_nothing idle (Heard true) at until h = absurd h
moves_nothing idle (Heard false) at until h = refl
moves_nothing idle Waits at until h = refl
moves_nothing idle Taken at until h = refl

-- who was let in and didn't sign in since is a stranger still
is_stranger : (since before : List Happening) → NobodySignsIn since → stage_of before ≡ Stranger →
    stage_of (since ++ before) ≡ Stranger
is_stranger [] before nobody stage = stage
is_stranger (now ∷ since) before nobody stage =
    ap (λ s. stage_after now.event s) (is_stranger since before nobody.1 stage) ∙ stays_stranger now.event nobody.0

-- and has the time that he had
has_his_time : (idle : ℕ) (since before : List Happening) → NobodySignsIn since → stage_of before ≡ Stranger →
    until_of idle (since ++ before) ≡ until_of idle before
has_his_time idle [] before nobody stage = refl
has_his_time idle (now ∷ since) before nobody stage =
    until_same idle now.event now.at (stage_of (since ++ before)) Stranger (until_of idle (since ++ before))
    (until_of idle before) (is_stranger since before nobody.1 stage) (has_his_time idle since before nobody.1 stage)
    ∙ moves_nothing idle now.event now.at (until_of idle before) nobody.0

no_later : (until : ℕ) (taking : Option ℕ) → late_from Stranger until taking ≤ until
no_later until None = omega arith
no_later until (Some taking) = omega arith

pub stranger_late : (idle at : ℕ) (since earlier : List Happening) → NobodySignsIn since →
    late_at idle (since ++ (record { event = Upgraded; at = at } ∷ earlier)) ≤ at + greeting_time
stranger_late idle at since earlier nobody =
    let before : List Happening = record { event = Upgraded; at = at } ∷ earlier in
    let until : ℕ = until_of idle before in
    rw (late_same (stage_of (since ++ before)) Stranger (until_of idle (since ++ before)) until
    (taking_of (since ++ before)) (taking_of (since ++ before)) (is_stranger since before nobody refl)
    (has_his_time idle since before nobody refl) refl)
    (no_later until (taking_of (since ++ before)))
