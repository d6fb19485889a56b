use Rattle.std.proofs.Math.Logic.{∥∥₁_map}
use Rattle.row_journal.proofs.laws.what_a_crash_leaves_is_accepted.Goals as goal

pub returns : goal.returns
returns g c = λ opening left accepted holds. ∥∥₁_map holds (λ it. record {
  session = it.1;
  published = it.2;
  holds = ∣ (it.0, it.3, it.4.rows) ∣₁;
  keepable = it.4.keepable;
  accepted = accepted it.2 it.5;
  found = it.5;
})
