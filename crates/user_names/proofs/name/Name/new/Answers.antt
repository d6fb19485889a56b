use Rattle.std.proofs.Common.{◌∙◌, arith}
use Rattle.user_names.specs.declared.name.TheConstants.Name.{MOST}
use Rattle.user_names.proofs.PlacesLemmas.{filled}
use Rattle.user_names.proofs.name.Name.new.Goals as goal

pub invariant_of-result : goal.invariant_of-result
invariant_of-result c =
    filled MOST c.copy_from_slice.new.self c.args.text.now (c.copy_from_slice.ensures.after ∙ c.as_bytes.ensures.value)
    (omega arith) c.utf8.text
