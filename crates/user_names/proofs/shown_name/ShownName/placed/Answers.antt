use Rattle.std.proofs.Common.{◌∙◌, ap}
use Rattle.user_names.specs.declared.shown_name.TheConstants.ShownName.{MOST}
use Rattle.user_names.specs.ShownName.{is_shown_or_none}
use Rattle.user_names.proofs.PlacesLemmas.{filled, text_in_front}
use Rattle.user_names.proofs.shown_name.ShownName.placed.Goals as goal

pub invariant_of-result : goal.invariant_of-result
invariant_of-result c =
    let is = c.copy_from_slice.ensures.after ∙ c.as_bytes.ensures.value in
    record {
      places = filled MOST c.copy_from_slice.new.self c.args.text.now is c.requires.short c.utf8.text;
      shown = ap is_shown_or_none (text_in_front MOST c.copy_from_slice.new.self c.args.text.now is) ∙ c.requires.shown;
    }
