use Rattle.std.proofs.Common.{sym, ◌∙◌}
use Rattle.session_object.specs.NoticeMembers.{reason_said}
use Rattle.session_check.proofs.MemberLemmas.{each_is_read}
use Rattle.session_check.proofs.misread.each_is_reason.Goals as goal

pub returns : goal.returns
returns c = c.all_reasons.ensures ∙ sym (each_is_read reason_said c.args.list.now)
