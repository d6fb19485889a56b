-- The first of several causes, each of which has its place in an order.
use Rattle.std.specs.Prelude.{ℕ, ◌<◌}

-- the cause holds, and none before it does
pub record IsFirst {Cause : Type 0} (place : Cause → ℕ) (Holds : Cause → Type 0) (cause : Cause) : Type 0 where
  pub holds : Holds cause
  pub least : (other : Cause) → place other < place cause → ¬ Holds other
