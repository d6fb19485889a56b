use Rattle.std.proofs.Common.{◌∙◌, ap, Bool}
use Rattle.std.specs.Prelude.{◌||◌, eqb}
use Rattle.std.specs.List.{starts_with}
use Rattle.std.proofs.lemmas.Str.Pattern.{starts_text}
use Rattle.server_words.proofs.options_named.is_option.Goals as goal

pub returns-else-eq : goal.returns-else-eq
returns-else-eq c =
    starts_text c.starts_with.result c.args.beginning.now c.args.word.now c.starts_with.ensures.cases
    ∙ ap (λ (same : Bool). same || starts_with eqb c.args.word.now c.args.beginning.now) c.if-eq.ensures
