use Rattle.std.proofs.Common.{
  ◌≡◌,
  ◌<◌,
  ◌≤◌,
  ◌+◌,
  ◌∙◌,
  ℕ,
  true,
  false,
  suc,
  List,
  length,
  drop,
  get_or,
  Option,
  None,
  Some,
  sym,
  ap,
  drop-cons,
  drop_of_length-le,
  add-one,
}
use Rattle.std.specs.Option.{is_some, option_or}
use Rattle.std.proofs.lemmas.Bool.{false≢true}
use Rattle.session_state.specs.Refusal.{first_cause}
use Rattle.session_state.proofs.causes.first_cause.Goals as goal

module _ {Cause : Type 0} (causes : List (Option Cause)) (i : ℕ) where
  -- past the last cause there is none
  none_left : length causes ≤ i → first_cause (drop i causes) ≡ None
  none_left past = ap first_cause (drop_of_length-le causes past)

  -- a cause that isn't met is passed over, and one that is met is the first
  passed_over : (cause : Option Cause) → i < length causes → cause ≡ get_or causes i cause → is_some cause ≡ false →
      first_cause (drop i causes) ≡ first_cause (drop (i + 1) causes)
  passed_over None within is unmet =
      ap first_cause (drop-cons causes i None within)
      ∙ ap (λ cause. option_or cause (first_cause (drop (suc i) causes))) (sym is)
      ∙ ap (λ k. first_cause (drop k causes)) (sym (add-one i))
  passed_over (Some cause) within is unmet = absurd (false≢true (sym unmet))

  first_met : (cause : Option Cause) → i < length causes → cause ≡ get_or causes i cause → is_some cause ≡ true →
      cause ≡ first_cause (drop i causes)
  first_met None within is met = absurd (false≢true met)
  first_met (Some cause) within is met =
      sym (ap first_cause (drop-cons causes i (Some cause) within)
      ∙ ap (λ cause. option_or cause (first_cause (drop (suc i) causes))) (sym is))

pub loop-cause-preserved : goal.loop-cause-preserved
loop-cause-preserved g c =
    c.loop-cause.invariant
    ∙ passed_over c.args.causes.now c.loop-cause.cause-index c.cause-item.result c.loop-cause-test.true c.cause-item.is
    (sym c.is_some.ensures ∙ c.if-is_some.false)

pub returns : goal.returns
returns g c = sym (c.loop-cause.invariant ∙ none_left c.args.causes.now c.loop-cause.cause-index
    c.loop-cause-test.false)

pub returns-then-is_some : goal.returns-then-is_some
returns-then-is_some g c =
    first_met c.args.causes.now c.loop-cause.cause-index c.cause-item.result c.loop-cause-test.true c.cause-item.is
    (sym c.is_some.ensures ∙ c.if-is_some.true)
    ∙ sym c.loop-cause.invariant
