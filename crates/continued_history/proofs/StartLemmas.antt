-- A start may follow every run.
use Rattle.std.proofs.Common.{
  ◌≡◌,
  inl,
  inr,
  ℕ,
  ◌+◌,
  max,
  false,
  nat_eq,
  List,
  [],
  ◌∷◌,
  refl,
  sym,
  ◌∙◌,
  ap,
  subst,
  arith,
}
use Rattle.std.specs.Prelude.{if◌then◌else◌, ◌++◌}
use Rattle.std.proofs.lemmas.Bool.Decides.{nat_tests}
use Rattle.session_state.specs.SessionState.{SessionState}
use Rattle.session_commands.specs.declared.entry.Entry.{Entry}
use Rattle.session_book.specs.Journal.{IsAccepted}
use Rattle.published_view.specs.World.{
  World,
  Step,
  Submit,
  Solve,
  Learn,
  Read,
  Moment,
  Happens,
  IsHistory,
  now,
  with_seen,
}
use Rattle.continued_history.specs.Publications.{AreOfOneStep, publications_of, MayBeEntered}
use Rattle.continued_history.specs.Restart.{NoneFrom, IsLeft, IsRestart}
use Rattle.continued_history.proofs.PublicationLemmas.{enterable, enterable_more}
use Rattle.continued_history.proofs.EntryLemmas.{entered_again}

-- only so many displays have seen anything
abbrev HasFew : World → Type 0
HasFew world = (displays : ℕ) × NoneFrom displays world

few_with : (world : World) (display version : ℕ) → HasFew world → HasFew (with_seen world display version)
few_with world display version (displays, none) = (
  displays + (display + 1),
  λ other high.
      let another : nat_eq other display ≡ false = grind (arith, nat_tests, high) in
      ap (λ test. if test then version else world.seen other) another ∙ none other (omega (arith, high)),
)

few_after : (opening : SessionState) (before : World) (step : Step) (after : World) →
    Happens opening before step after → HasFew before → HasFew after
few_after opening before (Submit actor batch) after happens few = (
  few.0,
  λ other high. ap (λ (world : World). world.seen other) happens.leaves ∙ few.1 other high,
)
few_after opening before (Solve command) after happens few = (
  few.0,
  λ other high. ap (λ (world : World). world.seen other) happens.leaves ∙ few.1 other high,
)
few_after opening before (Learn display version) after happens few =
    subst HasFew (sym happens.leaves) (few_with before display (max (before.seen display) version) few)
few_after opening before (Read reading) after happens few =
    subst HasFew (sym happens.leaves) (few_with before reading.display reading.version few)

few_displays : (opening : SessionState) (history : List Moment) → IsHistory opening history → HasFew (now history)
few_displays opening [] is = (0, λ display any. refl)
few_displays opening (moment ∷ earlier) (happens, is) =
    few_after opening (now earlier) moment.step moment.after happens (few_displays opening earlier is)

start_may_follow : (opening : SessionState) (run : List Moment) (found : List (List Entry)) →
    IsHistory opening run → IsLeft (publications_of run) found → MayBeEntered opening found →
    (restart : IsRestart opening run []) × (publications_of restart.again ≡ found)
start_may_follow opening run found is left may =
    let few = few_displays opening run is in
    let entered = entered_again opening found may in (
      record {
        happened = is;
        displays = few.0;
        none = few.1;
        again = entered.0;
        found = subst (IsLeft (publications_of run)) (sym entered.2) left;
        unseen = entered.3;
        goes_on = entered.1;
      },
      entered.2,
    )

pub start_from_published : (opening : SessionState) (run : List Moment) → IsHistory opening run →
    (restart : IsRestart opening run []) × (publications_of restart.again ≡ publications_of run)
start_from_published opening run is =
    start_may_follow opening run (publications_of run) is (inl refl) (enterable opening run is)

pub start_from_one_more : (opening : SessionState) (run : List Moment) (more : List Entry) → IsHistory opening run →
    AreOfOneStep more → IsAccepted opening ((now run).journal ++ more) →
    (restart : IsRestart opening run []) × (publications_of restart.again ≡ publications_of run ++ more ∷ [])
start_from_one_more opening run more is one accepted =
    start_may_follow opening run (publications_of run ++ more ∷ []) is (inr (more, refl))
    (enterable_more opening run more is one accepted)
