use Rattle.std.proofs.Common.{sym, ◌∙◌}
use Rattle.json_fields.specs.User.{role_of}
use Rattle.session_check.proofs.MemberLemmas.{each_is_read}
use Rattle.session_check.proofs.misread.are_roles.Goals as goal

pub returns : goal.returns
returns c = c.all_roles.ensures ∙ sym (each_is_read (role_of c.args.edition) c.args.list.now)
