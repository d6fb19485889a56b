-- What the steps of a hall's clients come to, each one's and all of them.
use mathlib.Core.Bool.{false≢true}
use Rattle.std.proofs.Common.{
  ◌≡◌,
  ◌≢◌,
  ◌==◌,
  ◌+◌,
  inl,
  inr,
  ℕ,
  Bool,
  true,
  false,
  List,
  [],
  ◌∷◌,
  Option,
  Some,
  None,
  IsSome,
  IfSome,
  IfNone,
  OnSome,
  arith,
  refl,
  sym,
  ap,
  ◌∙◌,
  add_assoc,
  zero-add,
}
use Rattle.std.proofs.lemmas.Bool.Decides.{nat_tests}
use Rattle.std.proofs.lemmas.Option.{none-some}
use Rattle.slab.specs.Slab.{Slab, get}
use Rattle.tungstenite.specs.Socket.{Socket}
use Rattle.many_clients.specs.Hall.{
  HallStep,
  IsTaken,
  AreTaken,
  HasTaken,
  newcomers,
  arrivals,
  steps_at,
  FollowAtOne,
  IsHallStep,
  HasVisited,
}
use Rattle.many_clients.specs.Talker.{Talker, IsAtStart, newcomer_on}
use Rattle.many_clients.specs.Turns.{IsTurnOf}
use Rattle.many_clients.specs.declared.turn_end.TurnEnd.{TurnEnd}

-- ---- one place, whatever is done at the others

follow_step : {P A : Type 0} (b : Bool) (step : HallStep P A) (earlier : List (HallStep P A)) (start last between : Option P)
    (key : ℕ) → (step.key == key) ≡ b → FollowAtOne (steps_at key earlier) start between →
    (step.key ≡ key → between ≡ step.was) → (step.key ≡ key → last ≡ step.is) → (key ≢ step.key → last ≡ between) →
    FollowAtOne (steps_at key (step ∷ earlier)) start last
follow_step true step earlier start last between key is before was now others =
    let same : step.key ≡ key = grind (arith, nat_tests) in
    rw is (rw (was same) at before, now same)
follow_step false step earlier start last between key is before was now others =
    let apart : key ≢ step.key = grind (arith, nat_tests) in
    rw is (rw (others apart) before)

-- what a place has become came of its own steps alone, in their order
pub each_follows : {P A : Type 0} (Is : HallStep P A → Type 0) (steps : List (HallStep P A)) (places : ℕ → Option P)
    (server : A) (places_after : ℕ → Option P) (server_after : A) →
    AreTaken Is steps places server places_after server_after → (key : ℕ) →
    FollowAtOne (steps_at key steps) (places key) (places_after key)
each_follows Is [] places server places_after server_after h key = h.0 key
each_follows Is (step ∷ earlier) places server places_after server_after h key =
    follow_step (step.key == key) step earlier (places key) (places_after key) (h.0 key) key refl
    (each_follows Is earlier places server h.0 h.1 h.2 key)
    (λ (same : step.key ≡ key). rw same at h.3.was)
    (λ (same : step.key ≡ key). rw same at h.3.is)
    (λ (apart : key ≢ step.key). h.3.others key apart)

-- places that are the same, and a server that is, were come to by the same steps
same_taken : {P A : Type 0} (Is : HallStep P A → Type 0) (steps : List (HallStep P A)) (places : ℕ → Option P) (server : A)
    (middle : ℕ → Option P) (server_middle : A) (places_after : ℕ → Option P) (server_after : A) →
    AreTaken Is steps places server middle server_middle → ((key : ℕ) → places_after key ≡ middle key) →
    server_after ≡ server_middle → AreTaken Is steps places server places_after server_after
same_taken Is [] places server middle server_middle places_after server_after (stay, still) same then =
    ((λ key. same key ∙ stay key), then ∙ still)
same_taken Is (step ∷ earlier) places server middle server_middle places_after server_after (between, at, before, last)
    same then = (
      between,
      at,
      before,
      record {
        was = last.was;
        is = same step.key ∙ last.is;
        others = λ other apart. same other ∙ last.others other apart;
        begins = last.begins;
        leaves = last.leaves ∙ sym then;
        holds = last.holds;
      },
    )

-- steps and then steps are steps, in which as many came as in both
pub taken_on : {P A : Type 0} (Is : HallStep P A → Type 0) (places : ℕ → Option P) (server : A) (middle : ℕ → Option P)
    (server_middle : A) (later : List (HallStep P A)) (places_after : ℕ → Option P) (server_after : A)
    (first : HasTaken Is places server middle server_middle) →
    AreTaken Is later middle server_middle places_after server_after →
    (both : HasTaken Is places server places_after server_after) × (arrivals both.0 ≡ arrivals later + arrivals first.0)
taken_on Is places server middle server_middle [] places_after server_after (steps, taken) (same, still) = (
  (steps, same_taken Is steps places server middle server_middle places_after server_after taken same still),
  sym (zero-add (arrivals steps)),
)
taken_on Is places server middle server_middle (step ∷ later) places_after server_after first (between, at, before, last) =
    let (both, sum) = taken_on Is places server middle server_middle later between at first before in (
      (step ∷ both.0, (between, at, both.1, last)),
      ap (λ n. newcomers step.was step.is + n) sum
          ∙ sym (add_assoc (newcomers step.was step.is) (arrivals later) (arrivals first.0)),
    )

module _ {S A G : Type 0} (remaining contents : S → Option (List ℕ))
    (answers : A → G → List ℕ → Option (List ℕ) → A → G → Type 0) (binary_text memory_text : List ℕ) (nobody : G) where
  abbrev Are : (ℕ → Option (Talker S G)) → A → (ℕ → Option (Talker S G)) → A → Type 0
  Are = HasTaken (IsHallStep remaining contents answers binary_text memory_text nobody)

  -- ---- one step more

  one_turn : (end : TurnEnd) (start : ℕ → Option (Talker S G)) (first : A) (old : Slab (Talker S G)) (server : A)
      (new : Slab (Talker S G)) (after : A) (key : ℕ) (was is : Option (Talker S G)) → get old key ≡ was →
      get new key ≡ is → (trace : Are start first (get old) server) →
      ((other : ℕ) → other ≢ key → get new other ≡ get old other) →
      IfSome was (λ p. IfSome is (λ q. IsTurnOf remaining contents answers binary_text memory_text end p server q after)) →
      IsSome was → IsSome is → (taken : Are start first (get new) after) × (arrivals taken.0 ≡ arrivals trace.0)
  one_turn end start first old server new after key (Some p) (Some q) before now trace others turn is_was is_now = (
    (
      record { key = key; was = Some p; is = Some q; server = server; server_after = after } ∷ trace.0,
      (
        get old,
        server,
        trace.1,
        record {
          was = before;
          is = now;
          others = others;
          begins = refl;
          leaves = refl;
          holds = inl (record { before = p; after = q; end = end; began = refl; ended = refl; turn = turn });
        },
      ),
    ),
    zero-add (arrivals trace.0),
  )
  one_turn end start first old server new after key None is before now trace others turn is_was is_now =
      absurd (false≢true is_was)
  one_turn end start first old server new after key (Some p) None before now trace others turn is_was is_now =
      absurd (false≢true is_now)

  -- a turn is a step in which nobody comes
  pub one_more : (result : Option TurnEnd) (start : ℕ → Option (Talker S G)) (first : A) (old : Slab (Talker S G))
      (server : A) (new : Slab (Talker S G)) (after : A) (key : ℕ) (trace : Are start first (get old) server) →
      ((other : ℕ) → other ≢ key → get new other ≡ get old other) →
      IfSome result (λ end. IfSome (get old key) (λ p. IfSome (get new key) (λ q.
      IsTurnOf remaining contents answers binary_text memory_text end p server q after))) →
      OnSome result (IsSome (get old key) × IsSome (get new key)) →
      IfNone result ((new ≡ old) × (after ≡ server)) →
      (taken : Are start first (get new) after) × (arrivals taken.0 ≡ arrivals trace.0)
  one_more None start first old server new after key trace others turn stays nobody_there =
      ((trace.0, rw nobody_there.0 (rw nobody_there.1 trace.1)), refl)
  one_more (Some end) start first old server new after key trace others turn stays nobody_there =
      one_turn end start first old server new after key (get old key) (get new key) refl refl trace others turn stays.0
      stays.1

  -- a coming is a step
  pub arrival_taken : (old new : Slab (Talker S G)) (server : A) (key : ℕ) (socket : Socket S) → IsAtStart socket →
      get old key ≡ None → get new key ≡ Some (newcomer_on socket nobody) →
      ((other : ℕ) → other ≢ key → get new other ≡ get old other) →
      (taken : Are (get old) server (get new) server) × (arrivals taken.0 ≡ 1)
  arrival_taken old new server key socket starts free comes others = (
    (
      record { key = key; was = None; is = Some (newcomer_on socket nobody); server = server; server_after = server } ∷ [],
      (
        get old,
        server,
        ((λ k. refl), refl),
        record {
          was = free;
          is = comes;
          others = others;
          begins = refl;
          leaves = refl;
          holds = inr (inl (record { socket = socket; starts = starts; free = refl; comes = refl; unheard = refl }));
        },
      ),
    ),
    refl,
  )

  -- nobody comes where nobody is then
  goes_alone : (was : Option (Talker S G)) → newcomers was None + 0 ≡ 0
  goes_alone None = refl
  goes_alone (Some client) = refl

  -- a going is a step, in which nobody comes
  pub departure_taken : (old new : Slab (Talker S G)) (server : A) (key : ℕ) → get new key ≡ None →
      ((other : ℕ) → other ≢ key → get new other ≡ get old other) →
      (taken : Are (get old) server (get new) server) × (arrivals taken.0 ≡ 0)
  departure_taken old new server key goes others = (
    (
      record { key = key; was = get old key; is = None; server = server; server_after = server } ∷ [],
      (
        get old,
        server,
        ((λ k. refl), refl),
        record {
          was = refl;
          is = goes;
          others = others;
          begins = refl;
          leaves = refl;
          holds = inr (inr (record { goes = refl; unheard = refl }));
        },
      ),
    ),
    goes_alone (get old key),
  )

  -- ---- who is there came as nobody

  -- who is at a place, after a step there
  visited_by : (step : HallStep (Talker S G) A) (earlier : List (HallStep (Talker S G) A)) (client : Talker S G) →
      step.is ≡ Some client → IsHallStep remaining contents answers binary_text memory_text nobody step →
      ((before : Talker S G) → step.was ≡ Some before →
      HasVisited remaining contents answers binary_text memory_text nobody earlier before) →
      HasVisited remaining contents answers binary_text memory_text nobody (step ∷ earlier) client
  visited_by step earlier client is (inl turn) visited = (is, inr (turn, visited turn.before turn.began))
  visited_by step earlier client is (inr (inl arrival)) visited = (is, inl arrival)
  visited_by step earlier client is (inr (inr departure)) visited = absurd (none-some client (sym departure.goes ∙ is))

  visited_step : (b : Bool) (step : HallStep (Talker S G) A) (earlier : List (HallStep (Talker S G) A))
      (between after : ℕ → Option (Talker S G)) (server server_after : A) (key : ℕ) (client : Talker S G) →
      (step.key == key) ≡ b → after key ≡ Some client →
      IsTaken (IsHallStep remaining contents answers binary_text memory_text nobody) step between server after
      server_after →
      ((before : Talker S G) → between key ≡ Some before →
      HasVisited remaining contents answers binary_text memory_text nobody (steps_at key earlier) before) →
      HasVisited remaining contents answers binary_text memory_text nobody (steps_at key (step ∷ earlier)) client
  visited_step true step earlier between after server server_after key client is now taken visited =
      let same : step.key ≡ key = grind (arith, nat_tests) in
      let there = rw same at taken.is in
      let was = rw same at taken.was in
      rw is (visited_by step (steps_at key earlier) client (sym there ∙ now) taken.holds
      (λ before at. visited before (was ∙ at)))
  visited_step false step earlier between after server server_after key client is now taken visited =
      let apart : key ≢ step.key = grind (arith, nat_tests) in
      rw is (visited client (sym (taken.others key apart) ∙ now))

  pub each_visits : (steps : List (HallStep (Talker S G) A)) (places : ℕ → Option (Talker S G)) (server : A)
      (places_after : ℕ → Option (Talker S G)) (server_after : A) → ((key : ℕ) → places key ≡ None) →
      AreTaken (IsHallStep remaining contents answers binary_text memory_text nobody) steps places server places_after
      server_after → (key : ℕ) (client : Talker S G) → places_after key ≡ Some client →
      HasVisited remaining contents answers binary_text memory_text nobody (steps_at key steps) client
  each_visits [] places server places_after server_after empty h key client now =
      absurd (none-some client (sym (empty key) ∙ (sym (h.0 key) ∙ now)))
  each_visits (step ∷ earlier) places server places_after server_after empty h key client now =
      visited_step (step.key == key) step earlier h.0 places_after h.1 server_after key client refl now h.3
      (λ before at. each_visits earlier places server h.0 h.1 empty h.2 key before at)
