-- Any number of runs, joined one after another.
use Rattle.std.proofs.Common.{inl, inr, ℕ, ◌+◌, ◌-◌, List, [], ◌∷◌, Contains, refl, sym, ◌∙◌, subst, arith}
use Rattle.session_state.specs.SessionState.{SessionState}
use Rattle.session_queries.specs.declared.reply.Reply.{Reply}
use Rattle.published_view.specs.History.{IsGivenIn}
use Rattle.published_view.specs.World.{Reading, Moment, IsHistory, now}
use Rattle.published_view.proofs.ElementLemmas.{contains_cases, none_there}
use Rattle.continued_history.specs.Publications.{publications_of}
use Rattle.continued_history.specs.Restart.{NoneFrom, IsLeft, IsRestart}
use Rattle.continued_history.specs.Runs.{Run, GoesOnFrom, published_in, AreRuns, IsOfAll}
use Rattle.continued_history.proofs.JoinLemmas.{both, both_seen, both_happened, of_both}

-- all runs are one history, and of how many displays it is
record AreJoined (opening : SessionState) (runs : List Run) : Type 0 where
  history : List Moment
  is : IsHistory opening history
  of_all : IsOfAll runs history
  displays : ℕ
  none : NoneFrom displays (now history)

module _ (opening : SessionState) (run : Run) (earlier : List Run)
    (goes : GoesOnFrom opening (published_in earlier) run) (joined : AreJoined opening earlier) where
  abbrev restart : IsRestart opening joined.history run.later
  restart = record {
    happened = joined.is;
    displays = joined.displays;
    none = joined.none;
    again = run.again;
    found = subst (λ published. IsLeft published (publications_of run.again)) (sym joined.of_all.published) goes.found;
    unseen = goes.unseen;
    goes_on = goes.happened;
  }

  abbrev all : List Moment
  all = both opening joined.history run.later restart

  none_beyond : NoneFrom (joined.displays + run.displays) (now all)
  none_beyond display high =
      both_seen opening joined.history run.later restart display (omega (arith, high))
      ∙ goes.none (display - joined.displays) (omega (arith, high))

  given_in_all : (one : Run) (reading : Reading) (reply : Reply) → Contains (run ∷ earlier) one →
      IsGivenIn one.later reading reply → (display : ℕ) × IsGivenIn all (record reading { display = display }) reply
  given_in_all one reading reply there given =
      let of = of_both opening joined.history run.later restart in
      elim (contains_cases run earlier one there) [
        | inl is ↦ (
          joined.displays + reading.display,
          of.later_replies reading reply (subst (λ (r : Run). IsGivenIn r.later reading reply) (sym is) given),
        )
        | inr before ↦
            let told = joined.of_all.replies one reading reply before given in
            (told.0, of.earlier_replies (record reading { display = told.0 }) reply told.1)
      ]

  join_one : AreJoined opening (run ∷ earlier)
  join_one = record {
    history = all;
    is = both_happened opening joined.history run.later restart;
    of_all = record {
      published = (of_both opening joined.history run.later restart).published;
      replies = given_in_all;
    };
    displays = joined.displays + run.displays;
    none = none_beyond;
  }

join_all : (opening : SessionState) (runs : List Run) → AreRuns opening runs → AreJoined opening runs
join_all opening [] are = record {
  history = [];
  is = tt;
  of_all = record { published = refl; replies = λ one reading reply there given. none_there one there };
  displays = 0;
  none = λ display any. refl;
}
join_all opening (run ∷ earlier) (goes, are) = join_one opening run earlier goes (join_all opening earlier are)

pub runs_are_one : (opening : SessionState) (runs : List Run) → AreRuns opening runs →
    (history : List Moment) × IsHistory opening history × IsOfAll runs history
runs_are_one opening runs are =
    let joined = join_all opening runs are in
    (joined.history, joined.is, joined.of_all)
