use Rattle.std.proofs.Common.{◌≡◌, true, rules}
use Rattle.session_object.specs.NoticeMembers.{is_date}
use Rattle.session_object.proofs.NoticeLemmas.{date_kept}
use Rattle.session_object.proofs.notice_reading.date_of.Goals as goal

pub returns : goal.returns
returns c =
    let is : is_date c.args.text.now ≡ true = search rules in
    date_kept c.new.result c.args.text.now is c.new.ensures.notice c.new.ensures.none
