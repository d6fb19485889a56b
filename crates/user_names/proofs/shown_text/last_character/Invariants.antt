use Rattle.std.proofs.Common.{◌≡◌}
use Rattle.user_names.specs.ShownText.{last_character}
use Rattle.user_names.proofs.shown_text.last_character.Given as goal

abbrev pub invariant-loop-c : goal.invariant-loop-c
invariant-loop-c l = l.last ≡ last_character 0x20 l.yielded
