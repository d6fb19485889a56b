use Rattle.std.proofs.Common.{◌≡◌}
use Rattle.std.specs.List.{list_all}
use Rattle.user_names.specs.ShownText.{is_shown_character}
use Rattle.user_names.proofs.shown_text.has_shown_characters.Given as goal

abbrev pub invariant-loop-c : goal.invariant-loop-c
invariant-loop-c l = l.shown ≡ list_all is_shown_character l.yielded
