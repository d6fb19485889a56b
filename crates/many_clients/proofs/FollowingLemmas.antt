-- One server follows another in a hall: where each answer of the first has one of the second beside it, to the same guest,
-- whatever steps the first takes with its clients the second takes as well, with the same clients at the same keys.
use Rattle.std.proofs.Common.{◌≡◌, ◌+◌, inl, inr, ℕ, Bool, true, false, List, [], ◌∷◌, refl, sym, ap, subst}
use Rattle.std.specs.Prelude.{Option}
use Rattle.tungstenite.specs.Content.{Content, text, binary, ping, pong, close}
use Rattle.tungstenite.specs.Socket.{Socket, content_of}
use Rattle.many_clients.specs.Hall.{HallStep, AreTaken, HasTaken, newcomers, arrivals, IsHallStep}
use Rattle.many_clients.specs.Talker.{Talker}
use Rattle.many_clients.specs.Turns.{Gets, Hears, ReadsOne, SendsOrReads}
use Rattle.many_clients.specs.declared.turn_end.TurnEnd.{TurnEnd}
use Rattle.many_clients.specs.declared.turn_end.TurnEnd.TheVariants.{Answered, Sending, Reading, Closed}

module _ {S A B G : Type 0} (remaining contents : S → Option (List ℕ)) (binary_text memory_text : List ℕ) (nobody : G)
    (answers : A → G → List ℕ → Option (List ℕ) → A → G → Type 0)
    (told : B → G → List ℕ → Option (List ℕ) → B → G → Type 0) (Follows : A → B → Type 0)
    (answer_too : (one : A) (guest : G) (other : A) (guest_after : G) (message : List ℕ) (answer : Option (List ℕ)) (at : B) →
    answers one guest message answer other guest_after → Follows one at →
    (after : B) × told at guest message answer after guest_after × Follows other after) where
  -- it stays as it is
  stays_too : (one other : A) (at : B) → other ≡ one → Follows one at → Follows other at
  stays_too one other at same follows = subst (λ a. Follows a at) (sym same) follows

  gets_too : (end : TurnEnd) (content : Content) (read sent : Socket S) (guest guest_after : G) (one other : A) (at : B) →
      Gets remaining contents answers binary_text memory_text end content read guest one sent guest_after other →
      Follows one at →
      (after : B)
      × Gets remaining contents told binary_text memory_text end content read guest at sent guest_after after
      × Follows other after
  gets_too end (text message) read sent guest guest_after one other at (answer, answered, puts) follows =
      let (after, step, still) = answer_too one guest other guest_after message answer at answered follows in
      (after, (answer, step, puts), still)
  gets_too end (binary message) read sent guest guest_after one other at (same, still, puts) follows =
      (at, (refl, still, puts), stays_too one other at same follows)
  gets_too end (ping bytes) read sent guest guest_after one other at (same, still, sends) follows =
      (at, (refl, still, sends), stays_too one other at same follows)
  gets_too end (pong bytes) read sent guest guest_after one other at (same, still, sends) follows =
      (at, (refl, still, sends), stays_too one other at same follows)
  gets_too end (close frame) read sent guest guest_after one other at (same, still, sends) follows =
      (at, (refl, still, sends), stays_too one other at same follows)

  hears_too : (end : TurnEnd) (socket sent : Socket S) (guest guest_after : G) (one other : A) (at : B) →
      Hears remaining contents answers binary_text memory_text end socket guest one sent guest_after other →
      Follows one at →
      (after : B)
      × Hears remaining contents told binary_text memory_text end socket guest at sent guest_after after
      × Follows other after
  hears_too end socket sent guest guest_after one other at hears follows =
      let (after, gets, still) =
      gets_too end (content_of hears.message) hears.read sent guest guest_after one other at hears.gets follows in
      (after, record { read = hears.read; message = hears.message; reads = hears.reads; gets = gets }, still)

  reads_too : (end : TurnEnd) (socket sent : Socket S) (guest guest_after : G) (one other : A) (at : B) →
      ReadsOne remaining contents answers binary_text memory_text end socket guest one sent guest_after other →
      Follows one at →
      (after : B)
      × ReadsOne remaining contents told binary_text memory_text end socket guest at sent guest_after after
      × Follows other after
  reads_too Answered socket sent guest guest_after one other at hears follows =
      hears_too Answered socket sent guest guest_after one other at hears follows
  reads_too Sending socket sent guest guest_after one other at hears follows =
      hears_too Sending socket sent guest guest_after one other at hears follows
  reads_too Reading socket sent guest guest_after one other at none follows = (
    at,
    record {
      error = none.error;
      waits = none.waits;
      reads = none.reads;
      guest_same = none.guest_same;
      server_same = refl;
    },
    stays_too one other at none.server_same follows,
  )
  reads_too (Closed why) socket sent guest guest_after one other at (inl (same, still)) follows =
      (at, inl (same, refl), stays_too one other at still follows)
  reads_too (Closed why) socket sent guest guest_after one other at (inr hears) follows =
      let (after, heard, still) = hears_too (Closed why) socket sent guest guest_after one other at hears follows in
      (after, inr heard, still)

  goes_too : (is_sending : Bool) (end : TurnEnd) (socket sent : Socket S) (guest guest_after : G) (one other : A) (at : B) →
      SendsOrReads remaining contents answers binary_text memory_text is_sending end socket guest one sent guest_after other →
      Follows one at →
      (after : B)
      × SendsOrReads remaining contents told binary_text memory_text is_sending end socket guest at sent guest_after after
      × Follows other after
  goes_too true end socket sent guest guest_after one other at (same, still, sends) follows =
      (at, (same, refl, sends), stays_too one other at still follows)
  goes_too false end socket sent guest guest_after one other at reads follows =
      reads_too end socket sent guest guest_after one other at reads follows

  -- the step of the first, by a server that is here before and there after
  abbrev beside : HallStep (Talker S G) A → B → B → HallStep (Talker S G) B
  beside step at after = record { key = step.key; was = step.was; is = step.is; server = at; server_after = after }

  step_too : (step : HallStep (Talker S G) A) (at : B) →
      IsHallStep remaining contents answers binary_text memory_text nobody step → Follows step.server at →
      (after : B)
      × IsHallStep remaining contents told binary_text memory_text nobody (beside step at after)
      × Follows step.server_after after
  step_too step at (inl turn) follows =
      let (after, goes, still) =
      goes_too turn.before.is_sending turn.end turn.before.socket turn.after.socket turn.before.guest turn.after.guest
      step.server step.server_after at turn.turn.goes follows in (
        after,
        inl (record {
          before = turn.before;
          after = turn.after;
          end = turn.end;
          began = turn.began;
          ended = turn.ended;
          turn = record { goes = goes; then = turn.turn.then };
        }),
        still,
      )
  step_too step at (inr (inl arrival)) follows = (
    at,
    inr
        (inl (record {
          socket = arrival.socket;
          starts = arrival.starts;
          free = arrival.free;
          comes = arrival.comes;
          unheard = refl;
        })),
    stays_too step.server step.server_after at arrival.unheard follows,
  )
  step_too step at (inr (inr departure)) follows = (
    at,
    inr (inr (record { goes = departure.goes; unheard = refl })),
    stays_too step.server step.server_after at departure.unheard follows,
  )

  -- all steps of the first, in which as many come, and where the second comes to
  pub taken_too : (steps : List (HallStep (Talker S G) A)) (places places_after : ℕ → Option (Talker S G))
      (one other : A) (at : B) →
      AreTaken (IsHallStep remaining contents answers binary_text memory_text nobody) steps places one places_after other →
      Follows one at →
      (after : B)
      × (taken : HasTaken (IsHallStep remaining contents told binary_text memory_text nobody) places at places_after after)
      × (arrivals taken.0 ≡ arrivals steps) × Follows other after
  taken_too [] places places_after one other at (same, still) follows =
      (at, ([], (same, refl)), refl, stays_too one other at still follows)
  taken_too (step ∷ earlier) places places_after one other at (between, middle, before, last) follows =
      let (then, (steps, taken), as_many, still) = taken_too earlier places between one middle at before follows in
      let begins = subst (λ a. Follows a then) (sym last.begins) still in
      let (after, holds, now) = step_too step then last.holds begins in (
        after,
        (
          beside step then after ∷ steps,
          (
            between,
            then,
            taken,
            record {
              was = last.was;
              is = last.is;
              others = last.others;
              begins = refl;
              leaves = refl;
              holds = holds;
            },
          ),
        ),
        ap (λ n. newcomers step.was step.is + n) as_many,
        subst (λ a. Follows a after) last.leaves now,
      )
