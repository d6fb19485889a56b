use Rattle.std.proofs.Common.{◌∙◌, ap}
use Rattle.user_names.specs.declared.member_number.TheConstants.MemberNumber.{MOST}
use Rattle.user_names.specs.MemberNumber.{is_member_number}
use Rattle.user_names.proofs.PlacesLemmas.{filled, text_in_front}
use Rattle.user_names.proofs.member_number.MemberNumber.placed.Goals as goal

pub invariant_of-result : goal.invariant_of-result
invariant_of-result c =
    let is = c.copy_from_slice.ensures.after ∙ c.as_bytes.ensures.value in
    record {
      places = filled MOST c.copy_from_slice.new.self c.args.text.now is c.requires.short c.utf8.text;
      characters = ap is_member_number (text_in_front MOST c.copy_from_slice.new.self c.args.text.now is) ∙ c.requires.number;
    }
