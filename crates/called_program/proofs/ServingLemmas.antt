-- What is told where a session isn't served.
use Rattle.std.proofs.Common.{ℕ, Option, List, inl, inr}
use Rattle.std.proofs.KnownBytes.{Appends-nil}
use Rattle.operator_lines.specs.Obstacles.{ToldWhy}
use Rattle.server_words.specs.declared.words.SessionSource.{SessionSource}
use Rattle.server_words.specs.declared.words.SessionSource.TheVariants.{Files, Journal as Kept}
use Rattle.called_program.specs.Said.{IsToldUnserved}

-- why nothing comes of it is told, and nothing before that
pub told_unserved : (source : SessionSource) (status : ℕ) (before after : Option (List ℕ))
    → ToldWhy status before after → IsToldUnserved source status before after
told_unserved (Files files) status before after why = (before, inl (Appends-nil before), why)
told_unserved (Kept path files) status before after why = inr (before, inr (Appends-nil before), why)
